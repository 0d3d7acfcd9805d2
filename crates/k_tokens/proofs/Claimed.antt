-- What the good world says, without the pointer.
use Rattle.std.proofs.Common.{◌≡◌, ℕ, ◌<◌, ◌≤◌, Bool, true, false, refl, sym, ap, ◌∙◌, [], Option, Some, None, arith, inl, inr}
use Rattle.std.specs.Prelude.{is_some}
use Rattle.std.proofs.lemmas.Bool.Decides.{nat_tests, eqb_tells, leb_tells}
use Rattle.k_ids.specs.declared.threads.ThreadId.{ThreadId}
use Rattle.k_tokens.specs.Maps.{id_at, times, one_if}
use Rattle.k_tokens.specs.World.{holds_any, thread_of, owner_of, Stage, NoSwitch, AcquireReady, LoadGoal, LoadStart}
use Rattle.k_tokens.specs.World.{ReleaseReady, Finished, has_switch, is_open, World, is_counted, is_idle}
use Rattle.k_tokens.specs.Good.{Holder, Nobody, ReadyList, GoalOf, PushOf, StartToCome, StartOf, SwitchOf, is_somewhere}
use Rattle.k_tokens.specs.Good.{is_coming, times_in, Parts, IsGood, counted_in}
use Rattle.k_tokens.specs.Claims.{IsHeld, OneHolder, ReadyLists, NothingToCome, AtRest}
use Rattle.k_tokens.proofs.Basics.{same_is, count_has}
use Rattle.k_tokens.proofs.Keeping.{goal_counts, busy}

times_in_low : (p : ℕ) (v : Holder) → times_in p v ≤ 1
times_in_low p Nobody = omega arith
times_in_low p (ReadyList q) = grind (arith, nat_tests)
times_in_low p (GoalOf c) = omega arith
times_in_low p (PushOf i) = omega arith
times_in_low p StartToCome = omega arith
times_in_low p (StartOf c) = omega arith
times_in_low p (SwitchOf c) = omega arith

times_in_is : (p : ℕ) (v : Holder) → 1 ≤ times_in p v → v ≡ ReadyList p
times_in_is p Nobody h = absurd (omega arith)
times_in_is p (ReadyList q) h = elim (eqb_tells q p) [ inl e ↦ ap ReadyList e.1 | inr e ↦ absurd (grind (arith, nat_tests)) ]
times_in_is p (GoalOf c) h = absurd (omega arith)
times_in_is p (PushOf i) h = absurd (omega arith)
times_in_is p StartToCome h = absurd (omega arith)
times_in_is p (StartOf c) h = absurd (omega arith)
times_in_is p (SwitchOf c) h = absurd (omega arith)

module _ (w : World) (at : ThreadId → Holder) (g : Parts w at) where
  pub stands : (x : ThreadId) (v : Holder) → IsHeld w x v → at x ≡ v
  stands x Nobody h = absurd h
  stands x (ReadyList p) h = times_in_is p (at x) (let l = g.tokens.list p x in omega (arith, l, h))
  stands x (GoalOf c) h = g.tokens.goal c x h
  stands x (PushOf i) h = g.tokens.push i x h
  stands x StartToCome h = ap at (same_is x (id_at x.number 1) refl h.0) ∙ g.tokens.unmade x.number h.1
  stands x (StartOf c) h = ap at (same_is x (id_at x.number 1) refl h.0) ∙ g.tokens.starts c x.number h.1
  stands x (SwitchOf c) h = ap at (same_is x (id_at x.number 1) refl h.0) ∙ g.tokens.begun c x.number h.1

  held_there : (x : ThreadId) (v : Holder) → at x ≡ v → is_somewhere v ≡ true → IsHeld w x v
  held_there x Nobody e s = cc
  held_there x (ReadyList p) e s = let l = g.tokens.list p x in
      let m : times_in p (at x) ≡ 1 = ap (times_in p) e ∙ grind (arith, nat_tests) in omega (arith, l, m)
  held_there x (GoalOf c) e s = g.tokens.goal_is c x e
  held_there x (PushOf i) e s = g.tokens.push_is i x e
  held_there x StartToCome e s = g.tokens.unmade_is x e
  held_there x (StartOf c) e s = g.tokens.starts_is c x e
  held_there x (SwitchOf c) e s = g.tokens.begun_is c x e

  held_somewhere : (x : ThreadId) (v : Holder) → IsHeld w x v → is_somewhere v ≡ true
  held_somewhere x Nobody h = absurd h
  held_somewhere x (ReadyList p) h = refl
  held_somewhere x (GoalOf c) h = refl
  held_somewhere x (PushOf i) h = refl
  held_somewhere x StartToCome h = refl
  held_somewhere x (StartOf c) h = refl
  held_somewhere x (SwitchOf c) h = refl

  one_holder_at : OneHolder w
  one_holder_at =
      record {
        on = λ t p o.
            let x = thread_of w.threads t in
            (at x, held_there x (at x) refl (sym (g.threads.on t p) ∙ o));
        held = λ t v p h.
            let x = thread_of w.threads t in
            g.threads.on t p ∙ ap is_somewhere (stands x v h) ∙ held_somewhere x v h;
        once = λ x u v h k. sym (stands x u h) ∙ stands x v k;
        listed_once = λ x p. (let l = g.tokens.list p x in let b = times_in_low p (at x) in omega (arith, l, b));
      }

  switching_has : (s : Stage) → is_open s ≡ true → has_switch s ≡ true
  switching_has NoSwitch e = cc
  switching_has AcquireReady e = refl
  switching_has LoadGoal e = refl
  switching_has LoadStart e = refl
  switching_has ReleaseReady e = refl
  switching_has Finished e = cc

  ready_lists_at : ReadyLists w
  ready_lists_at =
      record {
        running = g.runs.running;
        counted = λ c x. (g.carriers c).counted x;
        unfinished = λ c. (g.carriers c).same;
        idle = g.runs.idle;
        idle_goal = λ c. (g.carriers c).idle;
        listed = λ x p h. g.threads.listed p x (stands x (ReadyList p) h);
        falls = λ c k s. (let hs = switching_has (w.own c).stage s in
            let b : c < w.carriers = elim (leb_tells w.carriers c) [
              | inl y ↦ absurd (let z : true ≡ false = sym hs ∙ (g.runs.beyond c y.1).0 in cc)
              | inr y ↦ y.1
            ] in
            let t = count_has (counted_in w.own w.carrier) w.carriers c b in
            let n : is_counted (w.own c) (w.carrier c) ≡ true = grind (arith, hs, k) in
            let o : one_if (is_counted (w.own c) (w.carrier c)) ≡ 1 = ap one_if n in
            let r = g.runs.running in omega (arith, t, o, r));
      }

pub one_holder : (w : World) → IsGood w → OneHolder w
one_holder w (at, g) = one_holder_at w at g

pub ready_lists : (w : World) → IsGood w → ReadyLists w
ready_lists w (at, g) = ready_lists_at w at g

-- a thread that is being pushed, or whose start is to come, holds no lock
pub no_lock : (w : World) (i : ℕ) (v : Holder) → IsGood w → holds_any (w.threads.locks i) ≡ true
    → IsHeld w (owner_of w.threads i) v → is_coming v ≡ false
no_lock w i v (at, g) has h = ap is_coming (sym (stands w at g (owner_of w.threads i) v h)) ∙ g.threads.calm i has

-- where a switch has found nobody to run, nobody runs, and no start is to come, nobody can go on
pub idle_rests : (w : World) (c : ℕ) → IsGood w → is_idle (w.own c) ≡ true → w.running ≡ 0 → NothingToCome w → AtRest w
idle_rests w c (at, g) idle sum none =
    let empty : (p : ℕ) → w.lists p ≡ [] = λ p. g.runs.idle c p idle sum in
    let free : (t : ℕ) → holds_any (w.threads.locks t) ≡ false =
    λ t. is_free (holds_any (w.threads.locks t)) (λ h. (let b = busy w at g t h empty in absurd (omega (arith, b, sum)))) in
    let off : (t : ℕ) → w.threads.present t ≡ true → w.threads.on t ≡ false =
    λ t p. g.threads.on t p ∙ nowhere empty free (thread_of w.threads t) (at (thread_of w.threads t)) refl in
    record {
      off = off;
      at_rest = λ t p. g.threads.resting t p (off t p);
      free = free;
      alive = λ t n. is_here (w.threads.present t) (λ gone. elim (g.threads.stays t gone n) [
        | inl v ↦ (let z = g.threads.victim (thread_of w.threads t) v in owner free w.threads.table refl z.0)
        | inr m ↦ (let z = g.threads.making t m in owner free w.threads.table refl z.0)
      ]);
    }
  where
    is_free : (b : Bool) → (b ≡ true → ⊥) → b ≡ false
    is_free true h = absurd (h refl)
    is_free false h = refl

    is_here : (b : Bool) → (b ≡ false → ⊥) → b ≡ true
    is_here true h = refl
    is_here false h = absurd (h refl)

    owner : ((t : ℕ) → holds_any (w.threads.locks t) ≡ false) → (o : Option ℕ) → w.threads.table ≡ o → is_some o ≡ true → ⊥
    owner free None e f = cc
    owner free (Some j) e f = (let t = (g.threads.table_is j e).0 in
        let n = free j in
        let y : holds_any (w.threads.locks j) ≡ true = grind (arith, t) in let z : true ≡ false = sym y ∙ n in cc)

    nowhere : ((p : ℕ) → w.lists p ≡ []) → ((t : ℕ) → holds_any (w.threads.locks t) ≡ false) → (x : ThreadId) (v : Holder)
        → at x ≡ v → is_somewhere v ≡ false
    nowhere empty free x Nobody e = refl
    nowhere empty free x
        (ReadyList p) e = absurd (let l = g.tokens.list p x in
        let n : times x (w.lists p) ≡ 0 = ap (times x) (empty p) in
        let m : times_in p (at x) ≡ 1 = ap (times_in p) e ∙ grind (arith, nat_tests) in omega (arith, l, n, m))
    nowhere empty free x (GoalOf d) e = absurd (let z = goal_counts w at g d x e in omega (arith, z, sum))
    nowhere empty free x
        (PushOf i) e = absurd (let z = g.threads.pushing i x (g.tokens.push_is i x e) in
        let y : true ≡ false = sym z ∙ free i in cc)
    nowhere empty free x StartToCome e = absurd (let z : true ≡ false = sym (g.tokens.unmade_is x e).1 ∙ none.made x.number in cc)
    nowhere empty free x
        (StartOf d) e = absurd (let z : true ≡ false = sym (g.tokens.starts_is d x e).1 ∙ none.taken d x.number in cc)
    nowhere empty free x
        (SwitchOf d) e = absurd (let z : Some x.number ≡ None = sym (g.tokens.begun_is d x e).1 ∙ none.begun d in cc)
