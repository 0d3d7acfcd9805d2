-- What holds of the threads after each step of a thread's context.
use Rattle.std.proofs.Common.{◌≡◌, ◌≢◌, ℕ, ◌+◌, ◌<◌, true, false, refl, sym, ap, ◌∙◌, subst, Some, None, arith, ◌⊎◌, inl, inr}
use Rattle.std.proofs.lemmas.Bool.Decides.{nat_tests, eqb_tells}
use Rattle.k_ids.specs.declared.threads.ThreadId.{ThreadId}
use Rattle.k_model.specs.Maps.{upd}
use Rattle.k_model.proofs.Maps.{upd_tells, upd_cases, upd_same, upd_other}
use Rattle.k_tokens.specs.Maps.{put}
use Rattle.k_tokens.specs.World.{Threads, HeldLocks, holds_any, Absent, Awake, Asleep, thread_of, owner_of, is_present}
use Rattle.k_tokens.specs.Good.{Holder, Nobody, ReadyList, PushOf, is_coming, ThreadFacts, IsListable}
use Rattle.k_tokens.specs.Steps.{holding, turned_on, pushed, table_acquired, table_released, killed, unlisted, removed, placed}
use Rattle.k_tokens.specs.Steps.{next_thread, newly_made, fallen_asleep, at_end, found_dead, awakened}
use Rattle.k_tokens.specs.Grants.{KeepsLock}
use Rattle.k_tokens.proofs.Basics.{same_is, put_tells}

module _ (f : Threads) (at : ThreadId → Holder) (k : ThreadFacts f at) (i : ℕ) (awake : f.condition i ≡ Awake)
    (calm : is_coming (at (owner_of f i)) ≡ false) (old : f.making ≡ Some i → ⊥) where
  pub goes_on : (l : HeldLocks) → l.table ≡ (f.locks i).table → KeepsLock f i l → ThreadFacts (holding f i l) at
  goes_on l t keeps =
      record {
        on = k.on;
        old = k.old;
        listed = k.listed;
        resting = k.resting;
        ended = k.ended;
        ended_word = k.ended_word;
        dead = k.dead;
        here = k.here;
        stays = k.stays;
        calm = λ t e. grind (arith, nat_tests, upd_tells, put_tells, k.calm t);
        pushing = λ j y e. grind (arith, nat_tests, upd_tells, put_tells, k.pushing j y, keeps y);
        quiet = λ t q. grind (arith, nat_tests, upd_tells, put_tells, k.quiet t);
        table = λ j e. grind (arith, nat_tests, upd_tells, put_tells, k.table j, k.table i);
        table_is = λ j e. grind (arith, nat_tests, upd_tells, put_tells, k.table_is j);
        victim = k.victim;
        making = λ t e. grind (arith, nat_tests, upd_tells, put_tells, k.making t);
        priority = k.priority;
      }

  pub turns_on : (x : ThreadId) → f.present x.number ≡ true → f.version x.number ≡ x.version → f.on x.number ≡ false
      → f.ended x.number ≡ false → holds_any (f.locks i) ≡ true
      → ThreadFacts (turned_on f i x) (put at x (PushOf i))
  turns_on x here is off goes has =
      let z = k.on x.number here in
      let r = k.resting x.number here off in
      let en = k.ended_word x.number here in
      let there = k.here x.number here in
      let q = k.quiet x.number in
      record {
        on = λ t p. grind (arith, nat_tests, upd_tells, put_tells, k.on t);
        old = λ y e. grind (arith, nat_tests, upd_tells, put_tells, k.old y);
        listed = λ p y e. grind (arith, nat_tests, upd_tells, put_tells, k.listed p y);
        resting = λ t p q. grind (arith, nat_tests, upd_tells, put_tells, k.resting t);
        ended = λ t e. grind (arith, nat_tests, upd_tells, put_tells, k.ended t, en);
        ended_word = k.ended_word;
        dead = k.dead;
        here = k.here;
        stays = k.stays;
        calm = λ t e. grind (arith, nat_tests, upd_tells, put_tells, k.calm t, r);
        pushing = λ j y e. grind (arith, nat_tests, upd_tells, put_tells, k.pushing j y);
        quiet = k.quiet;
        table = k.table;
        table_is = k.table_is;
        victim = k.victim;
        making = k.making;
        priority = k.priority;
      }

  pub pushes : (x : ThreadId) (v : Holder) (l : HeldLocks) → f.push i ≡ Some x → at x ≡ PushOf i → l.table ≡ (f.locks i).table
      → (v ≡ Nobody → is_present f x ≡ false) → ((p : ℕ) → v ≡ ReadyList p → IsListable f x)
      → ((v ≡ Nobody) ⊎ ((p : ℕ) × (v ≡ ReadyList p)))
      → ((j : ℕ) (y : ThreadId) → f.push j ≡ Some y → at y ≡ PushOf j)
      → ThreadFacts (pushed f i l) (put at x v)
  pushes x v l has here t gone may two only =
      record {
        on = λ t p. grind (arith, nat_tests, upd_tells, put_tells, k.on t, gone, two);
        old = λ y e. grind (arith, nat_tests, upd_tells, put_tells, k.old y);
        listed = λ p y e. elim (put_tells at x v y) [
          | inl h ↦ subst (IsListable f) (sym h.1) (may p (sym h.0 ∙ e))
          | inr h ↦ k.listed p y (sym h.0 ∙ e)
        ];
        resting = k.resting;
        ended = λ t e. grind (arith, nat_tests, upd_tells, put_tells, k.ended t);
        ended_word = k.ended_word;
        dead = k.dead;
        here = k.here;
        stays = k.stays;
        calm = λ t e. grind (arith, nat_tests, upd_tells, put_tells, k.calm t, two, calm);
        pushing = λ j y e. grind (arith, nat_tests, upd_tells, put_tells, k.pushing j y, only j y);
        quiet = λ t q. grind (arith, nat_tests, upd_tells, put_tells, k.quiet t);
        table = λ j e. grind (arith, nat_tests, upd_tells, put_tells, k.table j, k.table i);
        table_is = λ j e. grind (arith, nat_tests, upd_tells, put_tells, k.table_is j);
        victim = k.victim;
        making = λ t e. grind (arith, nat_tests, upd_tells, put_tells, k.making t);
        priority = k.priority;
      }

  pub acquires_table : f.table ≡ None → (f.present i ≡ true) → ThreadFacts (table_acquired f i) at
  acquires_table free here =
      record {
        on = k.on;
        old = k.old;
        listed = k.listed;
        resting = k.resting;
        ended = k.ended;
        ended_word = k.ended_word;
        dead = k.dead;
        here = k.here;
        stays = k.stays;
        calm = λ t e. grind (arith, nat_tests, upd_tells, put_tells, k.calm t, calm);
        pushing = λ j y e. grind (arith, nat_tests, upd_tells, put_tells, k.pushing j y);
        quiet = λ t q. grind (arith, nat_tests, upd_tells, put_tells, k.quiet t);
        table = λ j e. grind (arith, nat_tests, upd_tells, put_tells, k.table j);
        table_is = λ j e. grind (arith, nat_tests, upd_tells, put_tells);
        victim = λ y e. grind (arith, nat_tests, upd_tells, put_tells, k.victim y);
        making = λ t e. grind (arith, nat_tests, upd_tells, put_tells, k.making t);
        priority = k.priority;
      }

  pub releases_table : (l : HeldLocks) → (f.locks i).table ≡ true → f.victim ≡ None → f.making ≡ None → l.table ≡ false
      → KeepsLock f i l
      → ThreadFacts (table_released f i l) at
  releases_table l has nv nm lt keeps =
      let ti = k.table i in
      record {
        on = k.on;
        old = k.old;
        listed = k.listed;
        resting = k.resting;
        ended = k.ended;
        ended_word = k.ended_word;
        dead = k.dead;
        here = k.here;
        stays = k.stays;
        calm = λ t e. grind (arith, nat_tests, upd_tells, put_tells, k.calm t, calm);
        pushing = λ j y e. grind (arith, nat_tests, upd_tells, put_tells, k.pushing j y, keeps y);
        quiet = λ t q. grind (arith, nat_tests, upd_tells, put_tells, k.quiet t);
        table = λ j e. grind (arith, nat_tests, upd_tells, put_tells, k.table j);
        table_is = λ j e. grind (arith, nat_tests, upd_tells, put_tells);
        victim = λ y e. grind (arith, nat_tests, upd_tells, put_tells, k.victim y);
        making = λ t e. grind (arith, nat_tests, upd_tells, put_tells, k.making t);
        priority = k.priority;
      }

  pub kills_list : (t : ℕ) (y : ThreadId) → f.present t ≡ true → f.victim ≡ None → IsListable f y
      → IsListable (killed f t) y
  kills_list t y here nv (inl h) = elim (eqb_tells y.number t) [
    | inl e ↦ inr (ap Some (same_is (thread_of f t) y (sym e.1) (ap f.version (sym e.1) ∙ (grind (arith, nat_tests)))), refl)
    | inr e ↦ inl (let z = upd_other f.present t false y.number e.1 in grind (arith, nat_tests, z))
  ]
  kills_list t y here nv (inr h) = absurd (let z : None ≡ Some y = sym nv ∙ h.0 in cc)

  pub kills : (t : ℕ) → (f.locks i).table ≡ true → t ≢ i → f.present t ≡ true → f.victim ≡ None → f.making ≡ None
      → ThreadFacts (killed f t) at
  kills t has ne here nv nm =
      let ti = k.table i has in
      let h = k.here t here in
      record {
        on = λ u p. grind (arith, nat_tests, upd_tells, put_tells, k.on u);
        old = k.old;
        listed = λ p y e. kills_list t y here nv (k.listed p y e);
        resting = λ u p q. grind (arith, nat_tests, upd_tells, put_tells, k.resting u);
        ended = k.ended;
        ended_word = λ u p e. grind (arith, nat_tests, upd_tells, put_tells, k.ended_word u);
        dead = λ u e. grind (arith, nat_tests, upd_tells, put_tells, k.dead u);
        here = λ u p. grind (arith, nat_tests, upd_tells, put_tells, k.here u);
        stays = λ u p q. grind (arith, nat_tests, upd_tells, put_tells, k.stays u, k.here u);
        calm = k.calm;
        pushing = k.pushing;
        quiet = k.quiet;
        table = k.table;
        table_is = λ j e. grind (arith, nat_tests, upd_tells, put_tells, k.table_is j);
        victim = λ y e. grind (arith, nat_tests, upd_tells, put_tells);
        making = λ u e. grind (arith, nat_tests, upd_tells, put_tells, k.making u);
        priority = k.priority;
      }

  unlists_list : (x y : ThreadId) → f.victim ≡ Some x → (y.number ≢ x.number) ⊎ (y.version ≢ x.version) → IsListable f y
      → (is_present f y ≡ true) ⊎ ((f.victim ≡ Some y) × (false ≡ true))
  unlists_list x y is ne (inl h) = inl h
  unlists_list x y is ne
      (inr h) = absurd (let z : Some x ≡ Some y = sym is ∙ h.0 in
      let e : x ≡ y = cc in
      let n : x.number ≡ y.number = ap (λ (z : ThreadId). z.number) e in
      let v : x.version ≡ y.version = ap (λ (z : ThreadId). z.version) e in grind arith)

  pub unlists : (x : ThreadId) (v : Holder) (l : HeldLocks) → f.victim ≡ Some x → (v ≡ Nobody) ⊎ (v ≡ at x)
      → ((p : ℕ) → v ≡ ReadyList p → ⊥) → l.table ≡ true → (f.locks i).table ≡ true
      → ThreadFacts (unlisted f i l) (put at x v)
  unlists x v l is two none has had =
      let vi = k.victim x is in
      record {
        on = λ t p. grind (arith, nat_tests, upd_tells, put_tells, k.on t);
        old = λ y e. grind (arith, nat_tests, upd_tells, put_tells, k.old y);
        listed = λ p y e. elim (put_tells at x v y) [
          | inl h ↦ absurd (none p (sym h.0 ∙ e))
          | inr h ↦ unlists_list x y is h.1 (k.listed p y (sym h.0 ∙ e))
        ];
        resting = k.resting;
        ended = λ t e. grind (arith, nat_tests, upd_tells, put_tells, k.ended t);
        ended_word = k.ended_word;
        dead = k.dead;
        here = k.here;
        stays = k.stays;
        calm = λ t e. grind (arith, nat_tests, upd_tells, put_tells, k.calm t, calm);
        pushing = λ j y e. upd_cases (λ z. holds_any z ≡ true) f.locks i l j (λ q. grind (arith, has)) (λ q. k.pushing j y e);
        quiet = λ t q. grind (arith, nat_tests, upd_tells, put_tells, k.quiet t);
        table = λ j e. grind (arith, nat_tests, upd_tells, put_tells, k.table j, k.table i);
        table_is = λ j e. grind (arith, nat_tests, upd_tells, put_tells, k.table_is j);
        victim = k.victim;
        making = λ t e. grind (arith, nat_tests, upd_tells, put_tells, k.making t);
        priority = k.priority;
      }

  pub removes_list : (y : ThreadId) → f.listed ≡ false → IsListable f y
      → (is_present f y ≡ true) ⊎ ((None ≡ Some y) × (f.listed ≡ true))
  removes_list y no_more (inl h) = inl h
  removes_list y no_more (inr h) = cc

  removes_stays : (x : ThreadId) (t : ℕ) → f.victim ≡ Some x → f.present t ≡ false → upd f.condition x.number Absent t ≢ Absent
      → f.making ≡ Some t
  removes_stays x t is p q = elim (eqb_tells t x.number) [
    | inl e ↦ absurd (q (ap (upd f.condition x.number Absent) e.1 ∙ upd_same f.condition x.number Absent))
    | inr e ↦ absurd (let s = k.stays t p (λ z. q (upd_other f.condition x.number Absent t e.1 ∙ z)) in
        let vi = k.victim x is in
        elim s [
          | inl a ↦ (let z : Some x ≡ Some (thread_of f t) = sym is ∙ a in
              let y : x ≡ thread_of f t = cc in e.1 (ap (λ (z : ThreadId). z.number) (sym y)))
          | inr a ↦ (let z : None ≡ Some t = sym vi.4 ∙ a in cc)
        ])
  ]

  pub removes : (x : ThreadId) → f.victim ≡ Some x → f.listed ≡ false → holds_any (f.locks x.number) ≡ false
      → ThreadFacts (removed f x) at
  removes x is no_more clean =
      let vi = k.victim x is in
      record {
        on = k.on;
        old = k.old;
        listed = λ p y e. removes_list y no_more (k.listed p y e);
        resting = λ t p q. grind (arith, nat_tests, upd_tells, put_tells, k.resting t);
        ended = λ t e. grind (arith, nat_tests, upd_tells, put_tells, k.ended t);
        ended_word = λ t p e. grind (arith, nat_tests, upd_tells, put_tells, k.ended_word t);
        dead = λ t e. grind (arith, nat_tests, upd_tells, put_tells, k.dead t);
        here = λ t p. grind (arith, nat_tests, upd_tells, put_tells, k.here t);
        stays = λ t p q. inr (removes_stays x t is p q);
        calm = k.calm;
        pushing = k.pushing;
        quiet = λ t q. grind (arith, nat_tests, upd_tells, put_tells, k.quiet t);
        table = k.table;
        table_is = k.table_is;
        victim = λ y e. grind (arith, nat_tests, upd_tells, put_tells);
        making = λ t e. grind (arith, nat_tests, upd_tells, put_tells, k.making t);
        priority = k.priority;
      }

  pub places : (t : ℕ) → (f.locks i).table ≡ true → f.present t ≡ false → f.condition t ≡ Absent → f.victim ≡ None
      → f.making ≡ None
      → ThreadFacts (placed f t) at
  places t has gone empty nv nm =
      let ti = k.table i has in
      let qt = k.quiet t (λ z. (let y : Absent ≡ Awake = sym empty ∙ z in cc)) in
      record {
        on = k.on;
        old = k.old;
        listed = k.listed;
        resting = λ u p q. grind (arith, nat_tests, upd_tells, put_tells, k.resting u);
        ended = λ u e. grind (arith, nat_tests, upd_tells, put_tells, k.ended u);
        ended_word = λ u p e. grind (arith, nat_tests, upd_tells, put_tells, k.ended_word u);
        dead = λ u e. grind (arith, nat_tests, upd_tells, put_tells, k.dead u);
        here = λ u p. grind (arith, nat_tests, upd_tells, put_tells, k.here u);
        stays = λ u p q. grind (arith, nat_tests, upd_tells, put_tells, k.stays u);
        calm = λ u e. grind (arith, nat_tests, upd_tells, put_tells, k.calm u);
        pushing = k.pushing;
        quiet = λ u q. grind (arith, nat_tests, upd_tells, put_tells, k.quiet u);
        table = k.table;
        table_is = k.table_is;
        victim = λ y e. grind (arith, nat_tests, upd_tells, put_tells);
        making = λ u e. grind (arith, nat_tests, upd_tells, put_tells);
        priority = k.priority;
      }

  pub makes_list : (t p : ℕ) (y : ThreadId) → f.present t ≡ false → ((y : ThreadId) → f.victim ≡ Some y → ⊥) → IsListable f y
      → IsListable (newly_made f i p t) y
  makes_list t p y gone nv (inl h) = inl
      (let ne : y.number ≢ t = λ e. (let a : f.present y.number ≡ false = ap f.present e ∙ gone in
      grind (arith, nat_tests, a)) in
      let a = upd_other f.present t true y.number ne in
      let b = upd_other f.version t (f.version t + 1) y.number ne in grind (arith, nat_tests, a, b))
  makes_list t p y gone nv (inr h) = absurd (nv y h.0)

  makes_stays : (t p u : ℕ) → f.making ≡ Some t → ((y : ThreadId) → f.victim ≡ Some y → ⊥) → upd f.present t true u ≡ false
      → f.condition u ≢ Absent → ⊥
  makes_stays t p u is nv q r = elim (upd_tells f.present t true u) [
    | inl h ↦ (let z : true ≡ false = sym h.0 ∙ q in cc)
    | inr h ↦ elim (k.stays u (sym h.0 ∙ q) r) [
      | inl a ↦ nv (thread_of f u) a
      | inr a ↦ (let z : Some t ≡ Some u = sym is ∙ a in let y : t ≡ u = cc in h.1 (sym y))
    ]
  ]

  pub makes : (t p : ℕ) → (f.locks i).table ≡ true → f.making ≡ Some t → f.push i ≡ None → p < 64
      → ThreadFacts (newly_made f i p t) (put at (next_thread f t) (PushOf i))
  makes t p has is free low =
      let m = k.making t is in
      let nv : (y : ThreadId) → f.victim ≡ Some y → ⊥ =
      λ y e. (let a = k.victim y e in let z : None ≡ Some t = sym a.4 ∙ is in cc) in
      record {
        on = λ u q. grind (arith, nat_tests, upd_tells, put_tells, k.on u);
        old = λ y e. grind (arith, nat_tests, upd_tells, put_tells, k.old y);
        listed = λ q y e. elim (put_tells at (next_thread f t) (PushOf i) y) [
          | inl h ↦ (let z : PushOf i ≡ ReadyList q = sym h.0 ∙ e in cc)
          | inr h ↦ makes_list t p y (m.1) nv (k.listed q y (sym h.0 ∙ e))
        ];
        resting = λ u q r. grind (arith, nat_tests, upd_tells, put_tells, k.resting u);
        ended = λ u e. grind (arith, nat_tests, upd_tells, put_tells, k.ended u);
        ended_word = λ u q e. grind (arith, nat_tests, upd_tells, put_tells, k.ended_word u);
        dead = λ u e. grind (arith, nat_tests, upd_tells, put_tells, k.dead u);
        here = λ u q. grind (arith, nat_tests, upd_tells, put_tells, k.here u);
        stays = λ u q r. absurd (makes_stays t p u is nv q r);
        calm = λ u e. grind (arith, nat_tests, upd_tells, put_tells, k.calm u);
        pushing = λ j y e. grind (arith, nat_tests, upd_tells, put_tells, k.pushing j y);
        quiet = k.quiet;
        table = k.table;
        table_is = λ j e. grind (arith, nat_tests, upd_tells, put_tells, k.table_is j);
        victim = λ y e. grind (arith, nat_tests, upd_tells, put_tells, nv y);
        making = λ u e. grind (arith, nat_tests, upd_tells, put_tells);
        priority = λ u. grind (arith, nat_tests, upd_tells, put_tells, k.priority u);
      }

  pub falls_asleep : f.present i ≡ true → holds_any (f.locks i) ≡ false
      → ThreadFacts (fallen_asleep f i) (put at (owner_of f i) Nobody)
  falls_asleep here clean =
      let h = k.here i here in
      record {
        on = λ t p. grind (arith, nat_tests, upd_tells, put_tells, k.on t);
        old = λ y e. grind (arith, nat_tests, upd_tells, put_tells, k.old y);
        listed = λ p y e. elim (put_tells at (owner_of f i) Nobody y) [
          | inl h ↦ (let z : Nobody ≡ ReadyList p = sym h.0 ∙ e in cc)
          | inr h ↦ k.listed p y (sym h.0 ∙ e)
        ];
        resting = λ t p q. grind (arith, nat_tests, upd_tells, put_tells, k.resting t);
        ended = λ t e. grind (arith, nat_tests, upd_tells, put_tells, k.ended t);
        ended_word = λ t p e. grind (arith, nat_tests, upd_tells, put_tells, k.ended_word t);
        dead = λ t e. grind (arith, nat_tests, upd_tells, put_tells, k.dead t);
        here = λ t p. grind (arith, nat_tests, upd_tells, put_tells, k.here t);
        stays = λ t p q. grind (arith, nat_tests, upd_tells, put_tells, k.stays t);
        calm = λ t e. grind (arith, nat_tests, upd_tells, put_tells, k.calm t);
        pushing = k.pushing;
        quiet = λ t q. grind (arith, nat_tests, upd_tells, put_tells, k.quiet t);
        table = k.table;
        table_is = k.table_is;
        victim = k.victim;
        making = λ t e. grind (arith, nat_tests, upd_tells, put_tells, k.making t);
        priority = k.priority;
      }

  pub ends : f.present i ≡ true → holds_any (f.locks i) ≡ false → ThreadFacts (at_end f i) (put at (owner_of f i) Nobody)
  ends here clean =
      let h = k.here i here in
      record {
        on = λ t p. grind (arith, nat_tests, upd_tells, put_tells, k.on t);
        old = λ y e. grind (arith, nat_tests, upd_tells, put_tells, k.old y);
        listed = λ p y e. elim (put_tells at (owner_of f i) Nobody y) [
          | inl h ↦ (let z : Nobody ≡ ReadyList p = sym h.0 ∙ e in cc)
          | inr h ↦ k.listed p y (sym h.0 ∙ e)
        ];
        resting = λ t p q. grind (arith, nat_tests, upd_tells, put_tells, k.resting t);
        ended = λ t e. grind (arith, nat_tests, upd_tells, put_tells, k.ended t);
        ended_word = λ t p e. grind (arith, nat_tests, upd_tells, put_tells, k.ended_word t);
        dead = λ t e. grind (arith, nat_tests, upd_tells, put_tells, k.dead t);
        here = λ t p. grind (arith, nat_tests, upd_tells, put_tells, k.here t);
        stays = λ t p q. grind (arith, nat_tests, upd_tells, put_tells, k.stays t);
        calm = λ t e. grind (arith, nat_tests, upd_tells, put_tells, k.calm t);
        pushing = k.pushing;
        quiet = λ t q. grind (arith, nat_tests, upd_tells, put_tells, k.quiet t);
        table = k.table;
        table_is = k.table_is;
        victim = k.victim;
        making = λ t e. grind (arith, nat_tests, upd_tells, put_tells, k.making t);
        priority = k.priority;
      }

  pub dies : f.present i ≡ false → (f.locks i).table ≡ false → f.push i ≡ None → ThreadFacts (found_dead f i) at
  dies gone nt free =
      record {
        on = k.on;
        old = k.old;
        listed = k.listed;
        resting = λ t p q. grind (arith, nat_tests, upd_tells, put_tells, k.resting t);
        ended = λ t e. grind (arith, nat_tests, upd_tells, put_tells, k.ended t);
        ended_word = λ t p e. grind (arith, nat_tests, upd_tells, put_tells, k.ended_word t);
        dead = λ t e. grind (arith, nat_tests, upd_tells, put_tells, k.dead t);
        here = λ t p. grind (arith, nat_tests, upd_tells, put_tells, k.here t);
        stays = λ t p q. grind (arith, nat_tests, upd_tells, put_tells, k.stays t);
        calm = λ t e. grind (arith, nat_tests, upd_tells, put_tells, k.calm t);
        pushing = λ j y e. grind (arith, nat_tests, upd_tells, put_tells, k.pushing j y);
        quiet = λ t q. grind (arith, nat_tests, upd_tells, put_tells, k.quiet t);
        table = λ j e. grind (arith, nat_tests, upd_tells, put_tells, k.table j);
        table_is = λ j e. grind (arith, nat_tests, upd_tells, put_tells, k.table_is j);
        victim = k.victim;
        making = λ t e. grind (arith, nat_tests, upd_tells, put_tells, k.making t);
        priority = k.priority;
      }

module _ (f : Threads) (at : ThreadId → Holder) (k : ThreadFacts f at) where
  -- the goal's context is woken
  pub woken : (t : ℕ) → f.condition t ≡ Asleep → (f.present t ≡ true → f.on t ≡ true) → ThreadFacts (awakened f t) at
  woken t was is =
      record {
        on = k.on;
        old = k.old;
        listed = k.listed;
        resting = λ u p q. grind (arith, nat_tests, upd_tells, put_tells, k.resting u);
        ended = λ u e. grind (arith, nat_tests, upd_tells, put_tells, k.ended u);
        ended_word = λ u p e. grind (arith, nat_tests, upd_tells, put_tells, k.ended_word u);
        dead = λ u e. grind (arith, nat_tests, upd_tells, put_tells, k.dead u);
        here = λ u p. grind (arith, nat_tests, upd_tells, put_tells, k.here u);
        stays = λ u p q. grind (arith, nat_tests, upd_tells, put_tells, k.stays u);
        calm = k.calm;
        pushing = k.pushing;
        quiet = λ u q. grind (arith, nat_tests, upd_tells, put_tells, k.quiet u);
        table = k.table;
        table_is = k.table_is;
        victim = λ y e. grind (arith, nat_tests, upd_tells, put_tells, k.victim y);
        making = λ u e. grind (arith, nat_tests, upd_tells, put_tells, k.making u);
        priority = k.priority;
      }
