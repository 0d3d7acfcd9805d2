-- The switch takes the highest thread, and is finished.
use Rattle.std.proofs.Common.{◌≡◌, ◌≢◌, ℕ, ◌+◌, ◌<◌, true, false, refl, sym, ap, ◌∙◌, subst, List, ◌∷◌, Some, None, arith, inl}
use Rattle.std.proofs.Common.{inr}
use Rattle.k_ids.specs.declared.threads.ThreadId.{ThreadId}
use Rattle.k_model.specs.Maps.{upd, count}
use Rattle.k_model.proofs.Maps.{upd_tells, upd_cases, upd_same, upd_other}
use Rattle.k_tokens.specs.Maps.{put, one_if}
use Rattle.k_tokens.specs.World.{OfThread, OfCarrier, ReleaseReady, Finished, has_switch, holds_ready, is_open, OwnContext}
use Rattle.k_tokens.specs.World.{World, goal_of, is_counted, starting}
use Rattle.k_tokens.specs.Good.{Holder, GoalOf, TokensOf, SwitchFacts, ReadyFacts, CarrierFacts, Parts, knows_goal, knows_start}
use Rattle.k_tokens.specs.Good.{goals_in, counted_in}
use Rattle.k_tokens.proofs.Basics.{count_other}
use Rattle.k_tokens.proofs.Moves.{list_to_goal}
use Rattle.k_switching.specs.Switch.{finished_with, first_taken_of}
use Rattle.k_switching.proofs.Finishing.{own_as, Midway, IsBare}

-- v is the world before a thread is taken, w the one before the whole step
module _ (w v : World) (d : ℕ) (at at' : ThreadId → Holder) (g : Parts w at) (k : Midway d v at') (z : IsBare d v)
    (stage : (w.own d).stage ≡ ReleaseReady) (b : d < v.carriers)
    (other : (c : ℕ) → c ≢ d → v.own c ≡ w.own c) where
  pub takes_tokens : (p : ℕ) (x : ThreadId) (l : List ThreadId) → v.lists p ≡ x ∷ l
      → TokensOf (first_taken_of v d p (x ∷ l)) (put at' x (GoalOf d))
  takes_tokens p x l e =
      let s = k.stage in
      let n = z.goal in
      let st = z.start in
      let o : OwnContext = finished_with (v.own d) x in
      own_as _ _ (list_to_goal at' v.lists _ _ _ _ _ k.tokens d x p l e (grind (arith, s, n)))
      (λ c. upd_cases (λ y. goal_of y (v.carrier c) ≡ upd (goals_in v.own v.carrier) d (Some x) c) v.own d o c
      (λ h. grind (arith, upd_tells)) (λ h. grind (arith, upd_tells)))
      (λ c. upd_cases (λ y. starting y ≡ starting (v.own c)) v.own d o c
      (λ h. subst (λ y. None ≡ starting (v.own y)) (sym h) (grind (arith, s, st))) (λ h. refl))

  pub takes_sum : (p : ℕ) (x : ThreadId) (l : List ThreadId)
      → v.running + 1 ≡ count (counted_in (upd v.own d (finished_with (v.own d) x)) v.carrier) v.carriers
  takes_sum p x l =
      let s = k.stage in
      let n = z.counted in
      let o : OwnContext = finished_with (v.own d) x in
      let here : upd v.own d o d ≡ o = upd_same v.own d o in
      let sums : count (counted_in (upd v.own d o) v.carrier) v.carriers + one_if (is_counted (v.own d) (v.carrier d)) ≡ count
      (counted_in v.own v.carrier) v.carriers + one_if (is_counted (upd v.own d o d) (v.carrier d)) =
      count_other (counted_in (upd v.own d o) v.carrier) (counted_in v.own v.carrier) v.carriers d b
      (λ c ne. ap (λ z. is_counted z (v.carrier c)) (upd_other v.own d o c ne)) in
      let new : one_if (is_counted (upd v.own d o d) (v.carrier d)) ≡ 1 = ap (λ y. one_if (is_counted y (v.carrier d))) here in
      let was : is_counted (v.own d) (v.carrier d) ≡ false = grind (arith, s, n) in
      let bits : one_if (is_counted (v.own d) (v.carrier d)) ≡ 0 = ap one_if was in
      let r = k.running in omega (arith, sums, new, bits, r)

  -- what doesn't depend on what was taken
  pub seen_after : (o : OwnContext) → o.stage ≡ Finished → (c : ℕ) → SwitchFacts w.threads (upd v.own d o c)
  seen_after o e c = upd_cases (SwitchFacts w.threads) v.own d o c (λ h. record {
    goal = λ x t i. absurd (let f : knows_goal Finished ≡ true = ap knows_goal (sym e) ∙ t in cc);
    start = λ x t i. absurd (let f : knows_start Finished ≡ true = ap knows_start (sym e) ∙ t in cc);
  }) (λ h. subst (SwitchFacts w.threads) (sym (other c h)) (g.switches c))

  ready_was : w.ready_owner ≡ Some (OfCarrier d)
  ready_was = g.ready.own d (ap holds_ready stage)

  pub locked_after : (o : OwnContext) → o.stage ≡ Finished → ReadyFacts w.threads.locks (upd v.own d o) None
  locked_after o e =
      record {
        thread = λ i h. absurd (let a : w.ready_owner ≡ Some (OfThread i) = g.ready.thread i h in let n = ready_was in cc);
        thread_is = λ i h. cc;
        own = λ c h. absurd (elim (upd_tells v.own d o c) [
          | inl y ↦ (let f : holds_ready Finished ≡ true =
              ap holds_ready (sym e) ∙ ap (λ q. holds_ready q.stage) (sym y.0) ∙ h in cc)
          | inr y ↦ (let f : holds_ready (w.own c).stage ≡ true = ap (λ q. holds_ready q.stage) (sym (y.0 ∙ other c y.1)) ∙ h in
              let a : w.ready_owner ≡ Some (OfCarrier c) = g.ready.own c f in
              let n = ready_was in let same : c ≡ d = cc in y.1 same)
        ]);
        own_is = λ c h. cc;
      }

  pub facts_after : (o : OwnContext) → o.stage ≡ Finished → ((x : ThreadId) → o.goal ≡ Some x → o.counted ≡ true)
      → (o.idle ≡ true → o.goal ≡ None) → (c : ℕ)
      → CarrierFacts w.threads.condition w.threads.made c (w.carrier c) (upd v.own d o c)
  facts_after o e count idle c =
      upd_cases (CarrierFacts w.threads.condition w.threads.made c (w.carrier c)) v.own d o c
      (λ h. let old = g.carriers c in record {
        counted = λ x i. (let q = count x in grind (arith, e, i, q));
        same = λ i. absurd (let f : is_open Finished ≡ true = ap is_open (sym e) ∙ i in cc);
        idle = λ i. idle (grind (arith, e, i));
        begins = λ a b. absurd (let z : true ≡ false = sym (ap has_switch e) ∙ b in cc);
        switch_own = λ i. old.switch_own (ap (λ y. has_switch (w.own y).stage) h ∙ ap has_switch stage);
        switch_help = old.switch_help;
        switch_hand = λ i. ap has_switch e;
        switch_thread = old.switch_thread;
        foreign = old.foreign;
        hand_looked = old.hand_looked;
        looked = old.looked;
        awake = old.awake;
      })
      (λ h. subst (CarrierFacts w.threads.condition w.threads.made c (w.carrier c)) (sym (other c h)) (g.carriers c))
