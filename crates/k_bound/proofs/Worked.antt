-- The ten laws of the worked sections, moment by moment.
use Rattle.std.proofs.Common.{◌≡◌, ◌≢◌, ℕ, ◌+◌, ◌<◌, ◌≤◌, Bool, true, false, refl, sym, ap, ◌∙◌, subst, Option, Some, arith, ◌⊎◌, inl, inr}
use Rattle.std.specs.Prelude.{◌==◌}
use Rattle.std.proofs.lemmas.Bool.Decides.{nat_tests}
use Rattle.k_locks.specs.Asks.{Want, Table, Context, Thread, Ready}
use Rattle.k_bound.specs.Sections.{GoesOn, SectionLaws, want_rank}
use Rattle.k_bound.specs.Worked.{Begun, FirstReleased, FirstWorked, Moment, SecondAcquired, SecondReleased, TableReleased, after_by, after_first, after_second, owner_by, owner_in, rest_in, second_wants, table_owner, table_rest, thread_owner, thread_rest, wants_by, worked_sections}
use Rattle.k_bound.proofs.Founds.{some_is}

after : Moment → ℕ → Moment
after m context = after_by (context == 1) (context == 2) m

is_not : (m n : ℕ) → m ≢ n → (m == n) ≡ false
is_not m n ne = grind (arith, nat_tests, ne)

-- a step of another than 2, and of another than 1
not_second : (m : Moment) (other : ℕ) → 2 ≢ other → (after m other ≡ m) ⊎ (after m other ≡ after_first m)
unfolding after
not_second m other ne = go (other == 1) (other == 2) (is_not other 2 (λ e. ne (sym e)))
  where
    go : (a b : Bool) → b ≡ false → (after_by a b m ≡ m) ⊎ (after_by a b m ≡ after_first m)
    go true b e = inr refl
    go false true e = absurd cc
    go false false e = inl refl

not_first : (m : Moment) (other : ℕ) → 1 ≢ other → (after m other ≡ m) ⊎ (after m other ≡ after_second m)
unfolding after
not_first m other ne = go (other == 1) (other == 2) (is_not other 1 (λ e. ne (sym e)))
  where
    go : (a b : Bool) → a ≡ false → (after_by a b m ≡ m) ⊎ (after_by a b m ≡ after_second m)
    go true b e = absurd cc
    go false true e = inr refl
    go false false e = inl refl

wants_first : (m : Moment) → second_wants (after_first m) ≡ second_wants m
wants_first Begun = refl
wants_first FirstWorked = refl
wants_first FirstReleased = refl
wants_first SecondAcquired = refl
wants_first SecondReleased = refl
wants_first TableReleased = refl

wants_same : (m : Moment) (this other : ℕ) → this ≢ other →
    wants_by (this == 3) (this == 2) (after m other) ≡ wants_by (this == 3) (this == 2) m
wants_same m this other ne = go (this == 3) (this == 2) refl
  where
    go : (a b : Bool) → (this == 2) ≡ b → wants_by a b (after m other) ≡ wants_by a b m
    go true b e = refl
    go false false e = refl
    go false true e =
        let is : this ≡ 2 = grind (arith, nat_tests, e) in
        elim (not_second m other (subst (λ n. n ≢ other) is ne)) [
          | inl same ↦ ap second_wants same
          | inr first ↦ ap second_wants first ∙ wants_first m
        ]

-- WHO OWNS WHAT

not_both : {A : Type 0} → ◌≡◌ {A = Option ℕ} (Some 1) (Some 2) → A
not_both e = absurd (let n = some_is 1 2 e in omega (arith, n))

not_both' : {A : Type 0} → ◌≡◌ {A = Option ℕ} (Some 2) (Some 1) → A
not_both' e = absurd (let n = some_is 2 1 e in omega (arith, n))

table_second : (m : Moment) (n : ℕ) → table_owner m ≡ Some n → 2 ≡ n
table_second TableReleased n h = absurd cc
table_second m n h = some_is 2 n h

thread_either : (m : Moment) (n : ℕ) → thread_owner m ≡ Some n → (2 ≡ n) ⊎ (1 ≡ n)
thread_either Begun n h = inr (some_is 1 n h)
thread_either FirstWorked n h = inr (some_is 1 n h)
thread_either SecondAcquired n h = inl (some_is 2 n h)
thread_either m n h = absurd cc

by_owner : (b : Bool) (m : Moment) (n : ℕ) → owner_by b m ≡ Some n → (b ≡ true) × (thread_owner m ≡ Some n)
by_owner true m n h = (refl, h)
by_owner false m n h = absurd cc

owner_is : (m : Moment) (want : Want) (n : ℕ) → owner_in m want ≡ Some n → (2 ≡ n) ⊎ (1 ≡ n)
owner_is m Table n h = inl (table_second m n h)
owner_is m (Context number) n h = absurd cc
owner_is m (Thread number) n h = thread_either m n (by_owner (number == 1) m n h).1
owner_is m Ready n h = absurd cc

table_first : (m : Moment) → table_owner (after_first m) ≡ table_owner m
table_first Begun = refl
table_first FirstWorked = refl
table_first m = refl

-- What 2 owns is the same after a step of 1, and what 1 owns after one of 2.
second_thread : (b : Bool) (m : Moment) →
    (owner_by b m ≡ Some 2 → owner_by b (after_first m) ≡ Some 2) ×
    (owner_by b (after_first m) ≡ Some 2 → owner_by b m ≡ Some 2)
second_thread false m = ((λ h. h), (λ h. h))
second_thread true Begun = ((λ h. h), (λ h. h))
second_thread true FirstWorked = ((λ h. not_both h), (λ h. absurd cc))
second_thread true m = ((λ h. h), (λ h. h))

second_owns : (m : Moment) (want : Want) →
    (owner_in m want ≡ Some 2 → owner_in (after_first m) want ≡ Some 2) ×
    (owner_in (after_first m) want ≡ Some 2 → owner_in m want ≡ Some 2)
second_owns m Table = ((λ h. table_first m ∙ h), (λ h. sym (table_first m) ∙ h))
second_owns m (Context number) = ((λ h. h), (λ h. h))
second_owns m (Thread number) = second_thread (number == 1) m
second_owns m Ready = ((λ h. h), (λ h. h))

first_thread : (b : Bool) (m : Moment) →
    (owner_by b m ≡ Some 1 → owner_by b (after_second m) ≡ Some 1) ×
    (owner_by b (after_second m) ≡ Some 1 → owner_by b m ≡ Some 1)
first_thread false m = ((λ h. h), (λ h. h))
first_thread true FirstReleased = ((λ h. absurd cc), (λ h. not_both' h))
first_thread true SecondAcquired = ((λ h. not_both' h), (λ h. absurd cc))
first_thread true SecondReleased = ((λ h. absurd cc), (λ h. absurd cc))
first_thread true m = ((λ h. h), (λ h. h))

not_table : {A : Type 0} (m : Moment) → table_owner m ≡ Some 1 → A
not_table m h = absurd (let n = table_second m 1 h in omega (arith, n))

first_owns : (m : Moment) (want : Want) →
    (owner_in m want ≡ Some 1 → owner_in (after_second m) want ≡ Some 1) ×
    (owner_in (after_second m) want ≡ Some 1 → owner_in m want ≡ Some 1)
first_owns m Table = ((λ h. not_table m h), (λ h. not_table (after_second m) h))
first_owns m (Context number) = ((λ h. h), (λ h. h))
first_owns m (Thread number) = first_thread (number == 1) m
first_owns m Ready = ((λ h. h), (λ h. h))

-- it owns the same before and after
Kept : ℕ → Want → Moment → Moment → Type 0
Kept n want m m' =
    (owner_in m want ≡ Some n → owner_in m' want ≡ Some n) ×
    (owner_in m' want ≡ Some n → owner_in m want ≡ Some n)

same_second : (m : Moment) (other : ℕ) (want : Want) → 2 ≢ other → Kept 2 want m (after m other)
unfolding Kept
same_second m other want ne = elim (not_second m other ne) [
  | inl same ↦ subst (λ m'. Kept 2 want m m') (sym same) ((λ h. h), (λ h. h))
  | inr first ↦ subst (λ m'. Kept 2 want m m') (sym first) (second_owns m want)
]

same_first : (m : Moment) (other : ℕ) (want : Want) → 1 ≢ other → Kept 1 want m (after m other)
unfolding Kept
same_first m other want ne = elim (not_first m other ne) [
  | inl same ↦ subst (λ m'. Kept 1 want m m') (sym same) ((λ h. h), (λ h. h))
  | inr second ↦ subst (λ m'. Kept 1 want m m') (sym second) (first_owns m want)
]

same_owner : (m : Moment) (this other : ℕ) (want : Want) → this ≢ other → (2 ≡ this) ⊎ (1 ≡ this) →
    Kept this want m (after m other)
same_owner m this other want ne (inl e) =
    subst (λ n. Kept n want m (after m other)) e (same_second m other want (subst (λ n. n ≢ other) (sym e) ne))
same_owner m this other want ne (inr e) =
    subst (λ n. Kept n want m (after m other)) e (same_first m other want (subst (λ n. n ≢ other) (sym e) ne))

holds_on : (m : Moment) (this other : ℕ) (want : Want) → this ≢ other → owner_in m want ≡ Some this →
    owner_in (after m other) want ≡ Some this
unfolding Kept
holds_on m this other want ne h = (same_owner m this other want ne (owner_is m want this h)).0 h

held_before : (m : Moment) (this other : ℕ) (want : Want) → this ≢ other → owner_in (after m other) want ≡ Some this →
    owner_in m want ≡ Some this
unfolding Kept
held_before m this other want ne h = (same_owner m this other want ne (owner_is (after m other) want this h)).1 h

-- HOW FAR IT IS

rest_first : (m : Moment) → table_rest (after_first m) ≡ table_rest m
rest_first Begun = refl
rest_first FirstWorked = refl
rest_first m = refl

-- While 2 asks for something it owns the table lock alone.
asks_thread : (m : Moment) (x : Want) → second_wants m ≡ Some x → (b : Bool) → owner_by b m ≡ Some 2 → ⊥
asks_thread m x w false h = absurd cc
asks_thread Begun x w true h = not_both h
asks_thread FirstWorked x w true h = not_both h
asks_thread FirstReleased x w true h = absurd cc
asks_thread m x w true h = absurd cc

second_rest : (m : Moment) (other : ℕ) (held x : Want) → 2 ≢ other → second_wants m ≡ Some x → owner_in m held ≡ Some 2 →
    rest_in (after m other) held ≡ rest_in m held
second_rest m other Table x ne w h = elim (not_second m other ne) [
  | inl same ↦ ap table_rest same
  | inr first ↦ ap table_rest first ∙ rest_first m
]
second_rest m other (Context number) x ne w h = absurd cc
second_rest m other (Thread number) x ne w h = absurd (asks_thread m x w (number == 1) h)
second_rest m other Ready x ne w h = absurd cc

rest_same : (m : Moment) (this other : ℕ) (held x : Want) → this ≢ other → wants_by (this == 3) (this == 2) m ≡ Some x →
    owner_in m held ≡ Some this → rest_in (after m other) held ≡ rest_in m held
rest_same m this other held x ne w h = elim (owner_is m held this h) [
  | inl e ↦
      let w' = subst (λ n. wants_by (n == 3) (n == 2) m ≡ Some x) (sym e) w in
      let h' = subst (λ n. owner_in m held ≡ Some n) (sym e) h in
      second_rest m other held x (subst (λ n. n ≢ other) (sym e) ne) w' h'
  | inr e ↦ absurd (let w' = subst (λ n. wants_by (n == 3) (n == 2) m ≡ Some x) (sym e) w in cc)
]

second_falls : (m : Moment) (held : Want) → owner_in m held ≡ Some 2 → GoesOn worked_sections m 2 →
    rest_in (after_second m) held + 1 ≤ rest_in m held
second_falls Begun held h on = absurd (on (Thread 1) 1 refl refl)
second_falls FirstWorked held h on = absurd (on (Thread 1) 1 refl refl)
second_falls FirstReleased Table h on = omega arith
second_falls SecondAcquired Table h on = omega arith
second_falls SecondReleased Table h on = omega arith
second_falls TableReleased Table h on = absurd cc
second_falls SecondAcquired (Thread number) h on = omega arith
second_falls m (Thread number) h on = thread_falls m h
  where
    thread_falls : (m : Moment) → owner_by (number == 1) m ≡ Some 2 → thread_rest (after_second m) + 1 ≤ thread_rest m
    thread_falls SecondAcquired o = omega arith
    thread_falls Begun o = not_both (by_owner (number == 1) Begun 2 o).1
    thread_falls FirstWorked o = not_both (by_owner (number == 1) FirstWorked 2 o).1
    thread_falls FirstReleased o = absurd (let t = (by_owner (number == 1) FirstReleased 2 o).1 in cc)
    thread_falls SecondReleased o = absurd (let t = (by_owner (number == 1) SecondReleased 2 o).1 in cc)
    thread_falls TableReleased o = absurd (let t = (by_owner (number == 1) TableReleased 2 o).1 in cc)
second_falls m (Context number) h on = absurd cc
second_falls m Ready h on = absurd cc

first_falls : (m : Moment) (held : Want) → owner_in m held ≡ Some 1 → rest_in (after_first m) held + 1 ≤ rest_in m held
first_falls m Table h = not_table m h
first_falls m (Context number) h = absurd cc
first_falls m (Thread number) h = thread_falls m (by_owner (number == 1) m 1 h).1
  where
    thread_falls : (m : Moment) → thread_owner m ≡ Some 1 → thread_rest (after_first m) + 1 ≤ thread_rest m
    thread_falls Begun o = omega arith
    thread_falls FirstWorked o = omega arith
    thread_falls SecondAcquired o = not_both' o
    thread_falls m o = absurd cc
first_falls m Ready h = absurd cc

rest_falls : (m : Moment) (context : ℕ) (held : Want) → owner_in m held ≡ Some context → GoesOn worked_sections m context →
    rest_in (after m context) held + 1 ≤ rest_in m held
unfolding after
rest_falls m context held h on = elim (owner_is m held context h) [
  | inl e ↦
      let h' = subst (λ n. owner_in m held ≡ Some n) (sym e) h in
      let on' = subst (λ n. GoesOn worked_sections m n) (sym e) on in
      subst (λ n. rest_in (after m n) held + 1 ≤ rest_in m held) e (second_falls m held h' on')
  | inr e ↦
      let h' = subst (λ n. owner_in m held ≡ Some n) (sym e) h in
      subst (λ n. rest_in (after m n) held + 1 ≤ rest_in m held) e (first_falls m held h')
]

-- RANKS

second_rises : (m : Moment) (want next : Want) → owner_in m want ≡ Some 2 → second_wants m ≡ Some next →
    want_rank want < want_rank next
second_rises Begun Table next h w = let r = ap want_rank (some_is (Thread 1) next w) in omega (arith, r)
second_rises FirstWorked Table next h w = let r = ap want_rank (some_is (Thread 1) next w) in omega (arith, r)
second_rises FirstReleased Table next h w = let r = ap want_rank (some_is (Thread 1) next w) in omega (arith, r)
second_rises m Table next h w = absurd cc
second_rises m (Context number) next h w = absurd cc
second_rises m (Thread number) next h w = absurd (asks_thread m next w (number == 1) h)
second_rises m Ready next h w = absurd cc

rank_rises : (m : Moment) (owner : ℕ) (want next : Want) → owner_in m want ≡ Some owner →
    wants_by (owner == 3) (owner == 2) m ≡ Some next → want_rank want < want_rank next
rank_rises m owner want next h w = elim (owner_is m want owner h) [
  | inl e ↦
      let h' = subst (λ n. owner_in m want ≡ Some n) (sym e) h in
      let w' = subst (λ n. wants_by (n == 3) (n == 2) m ≡ Some next) (sym e) w in
      second_rises m want next h' w'
  | inr e ↦ absurd (let w' = subst (λ n. wants_by (n == 3) (n == 2) m ≡ Some next) (sym e) w in cc)
]

-- Nobody owns the ready lock, nor is a context waited for.
ranks_low : (m : Moment) (want : Want) (n : ℕ) → owner_in m want ≡ Some n → want_rank want ≤ 2
ranks_low m Table n h = omega arith
ranks_low m (Context number) n h = omega arith
ranks_low m (Thread number) n h = omega arith
ranks_low m Ready n h = absurd cc

table_last : (m : Moment) (kept : Want) → table_owner m ≡ Some 2 → table_owner (after_second m) ≢ Some 2 →
    owner_in (after_second m) kept ≡ Some 2 → want_rank kept ≤ 0
table_last Begun kept h drop now = absurd (drop refl)
table_last FirstWorked kept h drop now = absurd (drop refl)
table_last FirstReleased kept h drop now = absurd (drop refl)
table_last SecondAcquired kept h drop now = absurd (drop refl)
table_last SecondReleased Table h drop now = omega arith
table_last SecondReleased (Context number) h drop now = absurd cc
table_last SecondReleased (Thread number) h drop now =
    absurd (let t = (by_owner (number == 1) TableReleased 2 now).1 in cc)
table_last SecondReleased Ready h drop now = absurd cc
table_last TableReleased kept h drop now = absurd cc

last_first : (m : Moment) (context : ℕ) (released kept : Want) → owner_in m released ≡ Some context →
    owner_in (after m context) released ≢ Some context → owner_in (after m context) kept ≡ Some context →
    want_rank kept ≤ want_rank released
unfolding after
last_first m context Table kept h drop now =
    let e = table_second m context h in
    let h' = subst (λ n. table_owner m ≡ Some n) (sym e) h in
    let drop' = subst (λ n. table_owner (after m n) ≢ Some n) (sym e) drop in
    table_last m kept h' drop' (subst (λ n. owner_in (after m n) kept ≡ Some n) (sym e) now)
last_first m context (Context number) kept h drop now = absurd cc
last_first m context (Thread number) kept h drop now = ranks_low (after m context) kept context now
last_first m context Ready kept h drop now = absurd cc

-- GAINS

table_gains : (m : Moment) → table_owner (after_second m) ≡ Some 2 → table_owner m ≡ Some 2
table_gains TableReleased now = now
table_gains m now = refl

second_gains : (m : Moment) (number : ℕ) (b : Bool) → (number == 1) ≡ b → owner_by b (after_second m) ≡ Some 2 →
    (owner_by b m ≡ Some 2) ⊎ (second_wants m ≡ Some (Thread number))
second_gains m number false e now = absurd cc
second_gains FirstReleased number true e now =
    let is : 1 ≡ number = grind (arith, nat_tests, e) in
    inr (ap (λ n. Some (Thread n)) is)
second_gains SecondAcquired number true e now = absurd cc
second_gains SecondReleased number true e now = absurd cc
second_gains m number true e now = inl now

first_gains : (m : Moment) (b : Bool) → owner_by b (after_first m) ≡ Some 1 → owner_by b m ≡ Some 1
first_gains m false now = now
first_gains Begun true now = now
first_gains FirstWorked true now = absurd cc
first_gains m true now = now

gains : (m : Moment) (context : ℕ) (held gained : Want) → owner_in m held ≡ Some context →
    owner_in (after m context) gained ≡ Some context →
    (owner_in m gained ≡ Some context) ⊎ (wants_by (context == 3) (context == 2) m ≡ Some gained)
unfolding after
gains m context held gained h now = elim (owner_is m held context h) [
  | inl e ↦
      subst (λ n. (owner_in m gained ≡ Some n) ⊎ (wants_by (n == 3) (n == 2) m ≡ Some gained)) e
      (second gained (subst (λ n. owner_in (after m n) gained ≡ Some n) (sym e) now))
  | inr e ↦
      subst (λ n. (owner_in m gained ≡ Some n) ⊎ (wants_by (n == 3) (n == 2) m ≡ Some gained)) e
      (inl (first gained (subst (λ n. owner_in (after m n) gained ≡ Some n) (sym e) now)))
]
  where
    second : (x : Want) → owner_in (after_second m) x ≡ Some 2 → (owner_in m x ≡ Some 2) ⊎ (second_wants m ≡ Some x)
    second Table o = inl (table_gains m o)
    second (Context number) o = absurd cc
    second (Thread number) o = second_gains m number (number == 1) refl o
    second Ready o = absurd cc

    first : (x : Want) → owner_in (after_first m) x ≡ Some 1 → owner_in m x ≡ Some 1
    first Table o = not_table (after_first m) o
    first (Context number) o = absurd cc
    first (Thread number) o = first_gains m (number == 1) o
    first Ready o = absurd cc

-- each moment is a good state
pub worked_laws : SectionLaws Moment worked_sections (λ m. Unit {0})
unfolding after
worked_laws = record {
  stays_good = λ m context g. tt;
  wants_same = λ m this other g. wants_same m this other;
  holds_on = λ m this other want g. holds_on m this other want;
  held_before = λ m this other want g. held_before m this other want;
  rest_same = λ m this other held x g. rest_same m this other held x;
  rest_falls = λ m context held g. rest_falls m context held;
  rest_within_left = λ m context held g h. omega arith;
  rank_rises = λ m context owner want next g w h. rank_rises m owner want next h;
  last_first = λ m context released kept g. last_first m context released kept;
  gains_asked = λ m context held gained g. gains m context held gained;
}
