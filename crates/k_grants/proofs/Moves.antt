-- What each kind of a step makes of the threads that are viewed: one lemma a kind, over any words and any places.
use Rattle.std.proofs.Common.{◌≡◌, ◌≢◌, ℕ, ◌+◌, Bool, true, false, refl, sym, ap, ◌∙◌, subst, Option, Some, None, inl, inr}
use Rattle.k_ids.specs.declared.threads.ThreadId.{ThreadId}
use Rattle.k_model.specs.Maps.{upd}
use Rattle.k_model.proofs.Maps.{upd_same, upd_other, upd_cases}
use Rattle.std.proofs.lemmas.Bool.Decides.{eqb_tells}
use Rattle.k_tokens.specs.Maps.{id_at}
use Rattle.k_tokens.specs.World.{Absent, Awake, Asleep, Ended, Dead, Condition, HeldLocks, no_locks, Threads}
use Rattle.k_tokens.specs.Views.{by_owner}
use Rattle.k_tokens.specs.Steps.{holding, turned_on, with_table, pushed, table_acquired, table_released, killed}
use Rattle.k_tokens.specs.Steps.{unlisted, removed, placed, newly_made, fallen_asleep, at_end, found_dead}
use Rattle.k_tokens.proofs.Views.{view_upd, view_stays, owner_stays, owner_sets}
use Rattle.k_grants.specs.Views.{Look, Sight, made_by, plain, threads_by}

-- Threads are equal where each part is.
pub threads_are : {a b : Threads} → a.version ≡ b.version → a.present ≡ b.present → a.on ≡ b.on → a.ended ≡ b.ended
    → a.priority ≡ b.priority → a.condition ≡ b.condition → a.made ≡ b.made → a.locks ≡ b.locks → a.push ≡ b.push
    → a.table ≡ b.table → a.victim ≡ b.victim → a.listed ≡ b.listed → a.making ≡ b.making → a ≡ b
threads_are v p o e y c m k u t x l n = λ z. record {
  version = v z;
  present = p z;
  on = o z;
  ended = e z;
  priority = y z;
  condition = c z;
  made = m z;
  locks = k z;
  push = u z;
  table = t z;
  victim = x z;
  listed = l z;
  making = n z;
}

made_is : (f g : ℕ → Bool) (h k : ℕ → ℕ) → f ≡ g → h ≡ k → ◌≡◌ {A = ℕ → ℕ} (λ t. made_by (f t) (h t)) (λ t. made_by (g t) (k t))
made_is f g h k e d = λ z t. made_by (e z t) (d z t)

-- A context comes to be about something else: this is new, and all that isn't named is as it was.
pub record IsAbout (old q : Look) (stands : Condition) (held : HeldLocks) (whom : Option ThreadId) : Type 0 where
  pub condition : q.condition ≡ stands
  pub coming : q.is_coming ≡ old.is_coming
  pub locks : q.locks ≡ held
  pub push : q.push ≡ whom

-- .. of the table lock's owner
pub record IsSame (old q : Look) : Type 0 where
  pub victim : q.victim ≡ old.victim
  pub listed : q.listed ≡ old.listed
  pub making : q.making ≡ old.making

module _ (y : ℕ → ℕ) (s : ℕ → Sight) (l : ℕ → Look) (o : Option ℕ) (i : ℕ) (q : Look) where
  abbrev T : Threads
  T = threads_by y s l o

  made_stays : q.is_coming ≡ (l i).is_coming → ◌≡◌ {A = ℕ → ℕ} (λ t. made_by (upd l i q t).is_coming (s t).version) T.made
  made_stays e =
      made_is (λ t. (upd l i q t).is_coming) (λ t. (l t).is_coming) T.version T.version
      (view_stays (λ (x : Look). x.is_coming) l i q e) refl

  victim_stays : (o ≡ Some i → q.victim ≡ (l i).victim) → by_owner None (λ (x : Look). x.victim) (upd l i q) o ≡ T.victim
  victim_stays e = owner_stays None (λ (x : Look). x.victim) l o i q e

  listed_stays : (o ≡ Some i → q.listed ≡ (l i).listed) → by_owner false (λ (x : Look). x.listed) (upd l i q) o ≡ T.listed
  listed_stays e = owner_stays false (λ (x : Look). x.listed) l o i q e

  making_stays : (o ≡ Some i → q.making ≡ (l i).making) → by_owner None (λ (x : Look). x.making) (upd l i q) o ≡ T.making
  making_stays e = owner_stays None (λ (x : Look). x.making) l o i q e

  module _ (held : HeldLocks) where
    locks_set : q.locks ≡ held → ◌≡◌ {A = ℕ → HeldLocks} (λ t. (upd l i q t).locks) (upd T.locks i held)
    locks_set e = view_upd (λ (x : Look). x.locks) l i q ∙ ap (upd T.locks i) e

    pub holding_is : IsAbout (l i) q (l i).condition held (l i).push → IsSame (l i) q →
        threads_by y s (upd l i q) o ≡ holding T i held
    holding_is e k = threads_are refl refl refl refl refl
        (view_stays (λ (x : Look). x.condition) l i q e.condition)
        (made_stays e.coming)
        (locks_set e.locks)
        (view_stays (λ (x : Look). x.push) l i q e.push)
        refl (victim_stays (λ z. k.victim)) (listed_stays (λ z. k.listed)) (making_stays (λ z. k.making))

    pub pushed_is : IsAbout (l i) q (l i).condition held None → IsSame (l i) q → threads_by y s (upd l i q) o ≡ pushed T i held
    pushed_is e k = threads_are refl refl refl refl refl
        (view_stays (λ (x : Look). x.condition) l i q e.condition)
        (made_stays e.coming)
        (locks_set e.locks)
        (view_upd (λ (x : Look). x.push) l i q ∙ ap (upd T.push i) e.push)
        refl (victim_stays (λ z. k.victim)) (listed_stays (λ z. k.listed)) (making_stays (λ z. k.making))

    pub released_is : o ≡ Some i → (l i).victim ≡ None → (l i).listed ≡ false → (l i).making ≡ None
        → IsAbout (l i) q (l i).condition held (l i).push → threads_by y s (upd l i q) None ≡ table_released T i held
    released_is at v f n e = threads_are refl refl refl refl refl
        (view_stays (λ (x : Look). x.condition) l i q e.condition)
        (made_stays e.coming)
        (locks_set e.locks)
        (view_stays (λ (x : Look). x.push) l i q e.push)
        refl
        (sym (ap (by_owner None (λ (x : Look). x.victim) l) at ∙ v))
        (sym (ap (by_owner false (λ (x : Look). x.listed) l) at ∙ f))
        (sym (ap (by_owner None (λ (x : Look). x.making) l) at ∙ n))

    pub unlisted_is : o ≡ Some i → q.listed ≡ false → q.victim ≡ (l i).victim → q.making ≡ (l i).making
        → IsAbout (l i) q (l i).condition held (l i).push → threads_by y s (upd l i q) o ≡ unlisted T i held
    unlisted_is at f v n e = threads_are refl refl refl refl refl
        (view_stays (λ (x : Look). x.condition) l i q e.condition)
        (made_stays e.coming)
        (locks_set e.locks)
        (view_stays (λ (x : Look). x.push) l i q e.push)
        refl
        (victim_stays (λ z. v))
        (owner_sets false (λ (x : Look). x.listed) l o i q at ∙ f)
        (making_stays (λ z. n))

  pub acquired_is : o ≡ None → q.victim ≡ None → q.listed ≡ false → q.making ≡ None
      → IsAbout (l i) q (l i).condition (with_table (l i).locks) (l i).push →
      threads_by y s (upd l i q) (Some i) ≡ table_acquired T i
  acquired_is at v f n e = threads_are refl refl refl refl refl
      (view_stays (λ (x : Look). x.condition) l i q e.condition)
      (made_stays e.coming)
      (locks_set (with_table (l i).locks) e.locks)
      (view_stays (λ (x : Look). x.push) l i q e.push)
      refl
      (owner_sets None (λ (x : Look). x.victim) l (Some i) i q refl ∙ v ∙ sym (ap (by_owner None (λ (x : Look). x.victim) l) at))
      (owner_sets false (λ (x : Look). x.listed) l (Some i) i q refl ∙ f
      ∙ sym (ap (by_owner false (λ (x : Look). x.listed) l) at))
      (owner_sets None (λ (x : Look). x.making) l (Some i) i q refl ∙ n ∙ sym (ap (by_owner None (λ (x : Look). x.making) l) at))

  pub dead_is : IsAbout (l i) q Dead no_locks (l i).push → IsSame (l i) q → threads_by y s (upd l i q) o ≡ found_dead T i
  dead_is e k = threads_are refl refl refl refl refl
      (view_upd (λ (x : Look). x.condition) l i q ∙ ap (upd T.condition i) e.condition)
      (made_stays e.coming)
      (locks_set no_locks e.locks)
      (view_stays (λ (x : Look). x.push) l i q e.push)
      refl (victim_stays (λ z. k.victim)) (listed_stays (λ z. k.listed)) (making_stays (λ z. k.making))

  -- A word is changed.
  module _ (n : ℕ) (v : Sight) where
    word_made : v.version ≡ (s n).version → q.is_coming ≡ (l i).is_coming
        → ◌≡◌ {A = ℕ → ℕ} (λ t. made_by (upd l i q t).is_coming (upd s n v t).version) T.made
    word_made k e =
        made_is (λ t. (upd l i q t).is_coming) (λ t. (l t).is_coming) (λ t. (upd s n v t).version) T.version
        (view_stays (λ (x : Look). x.is_coming) l i q e) (view_stays (λ (x : Sight). x.version) s n v k)

    pub turned_is : (who : ThreadId) → who.number ≡ n → v ≡ record (s n) { on = true }
        → IsAbout (l i) q (l i).condition (l i).locks (Some who) → IsSame (l i) q
        → threads_by y (upd s n v) (upd l i q) o ≡ turned_on T i who
    turned_is who number d e k = threads_are
        (view_stays (λ (x : Sight). x.version) s n v (ap (λ (x : Sight). x.version) d))
        (view_stays (λ (x : Sight). x.present) s n v (ap (λ (x : Sight). x.present) d))
        (view_upd (λ (x : Sight). x.on) s n v ∙ ap (λ (x : Sight). upd T.on n x.on) d
        ∙ ap (λ (t : ℕ). upd T.on t true) (sym number))
        (view_stays (λ (x : Sight). x.ended) s n v (ap (λ (x : Sight). x.ended) d))
        refl
        (view_stays (λ (x : Look). x.condition) l i q e.condition)
        (word_made (ap (λ (x : Sight). x.version) d) e.coming)
        (view_stays (λ (x : Look). x.locks) l i q e.locks)
        (view_upd (λ (x : Look). x.push) l i q ∙ ap (upd T.push i) e.push)
        refl (victim_stays (λ z. k.victim)) (listed_stays (λ z. k.listed)) (making_stays (λ z. k.making))

    pub killed_is : o ≡ Some i → v.version ≡ (s n).version → v.present ≡ false → v.on ≡ false → v.ended ≡ false
        → q.victim ≡ Some (id_at n (s n).version) → q.listed ≡ true → q.making ≡ (l i).making
        → IsAbout (l i) q (l i).condition (l i).locks (l i).push
        → threads_by y (upd s n v) (upd l i q) o ≡ killed T n
    killed_is at k p u d x f m e = threads_are
        (view_stays (λ (x : Sight). x.version) s n v k)
        (view_upd (λ (x : Sight). x.present) s n v ∙ ap (upd T.present n) p)
        (view_upd (λ (x : Sight). x.on) s n v ∙ ap (upd T.on n) u)
        (view_upd (λ (x : Sight). x.ended) s n v ∙ ap (upd T.ended n) d)
        refl
        (view_stays (λ (x : Look). x.condition) l i q e.condition)
        (word_made k e.coming)
        (view_stays (λ (x : Look). x.locks) l i q e.locks)
        (view_stays (λ (x : Look). x.push) l i q e.push)
        refl
        (owner_sets None (λ (x : Look). x.victim) l o i q at ∙ x)
        (owner_sets false (λ (x : Look). x.listed) l o i q at ∙ f)
        (making_stays (λ z. m))

  module _ (v : Sight) where
    pub asleep_is : v ≡ record (s i) { on = false } → IsAbout (l i) q Asleep (l i).locks (l i).push → IsSame (l i) q
        → threads_by y (upd s i v) (upd l i q) o ≡ fallen_asleep T i
    asleep_is d e k = threads_are
        (view_stays (λ (x : Sight). x.version) s i v (ap (λ (x : Sight). x.version) d))
        (view_stays (λ (x : Sight). x.present) s i v (ap (λ (x : Sight). x.present) d))
        (view_upd (λ (x : Sight). x.on) s i v ∙ ap (λ (x : Sight). upd T.on i x.on) d)
        (view_stays (λ (x : Sight). x.ended) s i v (ap (λ (x : Sight). x.ended) d))
        refl
        (view_upd (λ (x : Look). x.condition) l i q ∙ ap (upd T.condition i) e.condition)
        (word_made i v (ap (λ (x : Sight). x.version) d) e.coming)
        (view_stays (λ (x : Look). x.locks) l i q e.locks)
        (view_stays (λ (x : Look). x.push) l i q e.push)
        refl (victim_stays (λ z. k.victim)) (listed_stays (λ z. k.listed)) (making_stays (λ z. k.making))

    pub at_end_is : v ≡ record (s i) { on = false; ended = true } → IsAbout (l i) q Ended (l i).locks (l i).push → IsSame (l i) q
        → threads_by y (upd s i v) (upd l i q) o ≡ at_end T i
    at_end_is d e k = threads_are
        (view_stays (λ (x : Sight). x.version) s i v (ap (λ (x : Sight). x.version) d))
        (view_stays (λ (x : Sight). x.present) s i v (ap (λ (x : Sight). x.present) d))
        (view_upd (λ (x : Sight). x.on) s i v ∙ ap (λ (x : Sight). upd T.on i x.on) d)
        (view_upd (λ (x : Sight). x.ended) s i v ∙ ap (λ (x : Sight). upd T.ended i x.ended) d)
        refl
        (view_upd (λ (x : Look). x.condition) l i q ∙ ap (upd T.condition i) e.condition)
        (word_made i v (ap (λ (x : Sight). x.version) d) e.coming)
        (view_stays (λ (x : Look). x.locks) l i q e.locks)
        (view_stays (λ (x : Look). x.push) l i q e.push)
        refl (victim_stays (λ z. k.victim)) (listed_stays (λ z. k.listed)) (making_stays (λ z. k.making))

  -- Another context is placed, removed, or its thread is made.
  module _ (n : ℕ) (x : Look) (ne : i ≢ n) where
    both_stay : {A : Type 0} (h : Look → A) → h q ≡ h (l i) → h x ≡ h (l n) →
        ◌≡◌ {A = ℕ → A} (λ t. h (upd (upd l n x) i q t)) (λ t. h (l t))
    both_stay h e d = view_stays h (upd l n x) i q (e ∙ sym (ap h (upd_other l n x i ne))) ∙ view_stays h l n x d

    other_set : {A : Type 0} (h : Look → A) → h q ≡ h (l i) →
        ◌≡◌ {A = ℕ → A} (λ t. h (upd (upd l n x) i q t)) (upd (λ t. h (l t)) n (h x))
    other_set h e = view_stays h (upd l n x) i q (e ∙ sym (ap h (upd_other l n x i ne))) ∙ view_upd h l n x

    pub removed_is : (who : ThreadId) → who.number ≡ n → o ≡ Some i → x ≡ plain Absent → (l n).is_coming ≡ false →
        (l n).locks ≡ no_locks
        → (l n).push ≡ None → q.victim ≡ None → q.listed ≡ (l i).listed → q.making ≡ (l i).making
        → IsAbout (l i) q (l i).condition (l i).locks (l i).push
        → threads_by y s (upd (upd l n x) i q) o ≡ removed T who
    removed_is who number at is c k u v f m e = threads_are refl refl refl refl refl
        (other_set (λ (z : Look). z.condition) e.condition ∙ ap (λ (z : Look). upd T.condition n z.condition) is
        ∙ ap (λ (t : ℕ). upd T.condition t Absent) (sym number))
        (made_is _ _ T.version T.version (both_stay (λ (z : Look). z.is_coming) e.coming
        (ap (λ (z : Look). z.is_coming) is ∙ sym c)) refl)
        (both_stay (λ (z : Look). z.locks) e.locks (ap (λ (z : Look). z.locks) is ∙ sym k))
        (both_stay (λ (z : Look). z.push) e.push (ap (λ (z : Look). z.push) is ∙ sym u))
        refl
        (owner_sets None (λ (z : Look). z.victim) (upd l n x) o i q at ∙ v)
        (owner_sets false (λ (z : Look). z.listed) (upd l n x) o i q at ∙ f
        ∙ sym (ap (by_owner false (λ (z : Look). z.listed) l) at))
        (owner_sets None (λ (z : Look). z.making) (upd l n x) o i q at ∙ m
        ∙ sym (ap (by_owner None (λ (z : Look). z.making) l) at))

    pub placed_is : o ≡ Some i → x ≡ record (plain Awake) { is_coming = true } → l n ≡ plain Absent
        → q.victim ≡ (l i).victim → q.listed ≡ (l i).listed → q.making ≡ Some n
        → IsAbout (l i) q (l i).condition (l i).locks (l i).push
        → threads_by y s (upd (upd l n x) i q) o ≡ placed T n
    placed_is at is old v f m e = threads_are refl refl refl refl refl
        (other_set (λ (z : Look). z.condition) e.condition ∙ ap (λ (z : Look). upd T.condition n z.condition) is)
        (λ z t. made t z)
        (both_stay (λ (z : Look). z.locks) e.locks (ap (λ (z : Look). z.locks) is ∙ sym (ap (λ (z : Look). z.locks) old)))
        (both_stay (λ (z : Look). z.push) e.push (ap (λ (z : Look). z.push) is ∙ sym (ap (λ (z : Look). z.push) old)))
        refl
        (owner_sets None (λ (z : Look). z.victim) (upd l n x) o i q at ∙ v
        ∙ sym (ap (by_owner None (λ (z : Look). z.victim) l) at))
        (owner_sets false (λ (z : Look). z.listed) (upd l n x) o i q at ∙ f
        ∙ sym (ap (by_owner false (λ (z : Look). z.listed) l) at))
        (owner_sets None (λ (z : Look). z.making) (upd l n x) o i q at ∙ m)
      where
        coming : (t : ℕ) → (upd (upd l n x) i q t).is_coming ≡ upd (λ u. (l u).is_coming) n true t
        coming t =
            ap (λ (f : ℕ → Bool). f t) (other_set (λ (z : Look). z.is_coming) e.coming)
            ∙ ap (λ (z : Look). upd (λ u. (l u).is_coming) n z.is_coming t) is

        made : (t : ℕ) → made_by (upd (upd l n x) i q t).is_coming (s t).version ≡ upd T.made n ((s n).version + 1) t
        made t = ap (λ (c : Bool). made_by c (s t).version) (coming t)
            ∙ upd_cases (λ (c : Bool). made_by c (s t).version ≡ upd T.made n ((s n).version + 1) t)
            (λ u. (l u).is_coming) n true t
            (λ d. ap (λ (k : ℕ). (s k).version + 1) d ∙ sym (ap (upd T.made n ((s n).version + 1)) d
            ∙ upd_same T.made n ((s n).version + 1)))
            (λ d. sym (upd_other T.made n ((s n).version + 1) t d))

    pub newly_made_is : (v : Sight) (priority : ℕ) → o ≡ Some i → x ≡ plain Awake →
        l n ≡ record (plain Awake) { is_coming = true }
        → v.version ≡ (s n).version + 1 → v.present ≡ true → v.on ≡ true → v.ended ≡ false
        → q.victim ≡ (l i).victim → q.listed ≡ (l i).listed → q.making ≡ None
        → IsAbout (l i) q (l i).condition (l i).locks (Some (id_at n ((s n).version + 1)))
        → threads_by (upd y n priority) (upd s n v) (upd (upd l n x) i q) o ≡ newly_made T i priority n
    newly_made_is v priority at is old k p u d w f m e = threads_are
        (view_upd (λ (z : Sight). z.version) s n v ∙ ap (upd T.version n) k)
        (view_upd (λ (z : Sight). z.present) s n v ∙ ap (upd T.present n) p)
        (view_upd (λ (z : Sight). z.on) s n v ∙ ap (upd T.on n) u)
        (view_upd (λ (z : Sight). z.ended) s n v ∙ ap (upd T.ended n) d)
        refl
        (both_stay (λ (z : Look). z.condition) e.condition (ap (λ (z : Look). z.condition) is
        ∙ sym (ap (λ (z : Look). z.condition) old)))
        (λ z t. made t z)
        (both_stay (λ (z : Look). z.locks) e.locks (ap (λ (z : Look). z.locks) is ∙ sym (ap (λ (z : Look). z.locks) old)))
        (view_upd (λ (z : Look). z.push) (upd l n x) i q ∙ ap (upd (λ t. (upd l n x t).push) i) e.push
        ∙ ap (λ (g : ℕ → Option ThreadId). upd g i (Some (id_at n ((s n).version + 1))))
        (view_stays (λ (z : Look). z.push) l n x (ap (λ (z : Look). z.push) is ∙ sym (ap (λ (z : Look). z.push) old))))
        refl
        (owner_sets None (λ (z : Look). z.victim) (upd l n x) o i q at ∙ w
        ∙ sym (ap (by_owner None (λ (z : Look). z.victim) l) at))
        (owner_sets false (λ (z : Look). z.listed) (upd l n x) o i q at ∙ f
        ∙ sym (ap (by_owner false (λ (z : Look). z.listed) l) at))
        (owner_sets None (λ (z : Look). z.making) (upd l n x) o i q at ∙ m)
      where
        coming : (t : ℕ) → (upd (upd l n x) i q t).is_coming ≡ upd (λ u. (l u).is_coming) n false t
        coming t =
            ap (λ (f : ℕ → Bool). f t) (other_set (λ (z : Look). z.is_coming) e.coming)
            ∙ ap (λ (z : Look). upd (λ u. (l u).is_coming) n z.is_coming t) is

        version : (t : ℕ) → (upd s n v t).version ≡ upd T.version n ((s n).version + 1) t
        version t = ap (λ (f : ℕ → ℕ). f t) (view_upd (λ (z : Sight). z.version) s n v ∙ ap (upd T.version n) k)

        made : (t : ℕ) → made_by (upd (upd l n x) i q t).is_coming (upd s n v t).version ≡ T.made t
        made t = (λ z. made_by (coming t z) (version t z)) ∙ by t
          where
            by : (t : ℕ) → made_by (upd (λ u. (l u).is_coming) n false t) (upd T.version n ((s n).version + 1) t) ≡ T.made t
            by t = elim (eqb_tells t n) [
              | inl d ↦
                  subst (λ (j : ℕ). made_by (upd (λ u. (l u).is_coming) n false j) (upd T.version n ((s n).version + 1) j) ≡
                  T.made j) (sym d.1)
                  ((λ z. made_by (upd_same (λ u. (l u).is_coming) n false z) (upd_same T.version n ((s n).version + 1) z))
                  ∙ sym (ap (λ (y : Look). made_by y.is_coming (s n).version) old))
              | inr d ↦
                  (λ z. made_by (upd_other (λ u. (l u).is_coming) n false t d.1 z)
                  (upd_other T.version n ((s n).version + 1) t d.1 z))
            ]
