-- A carrier gives the context in its hand back.
use Rattle.std.proofs.Common.{◌≡◌, ℕ, Bool, true, false, cond, refl, sym, ap, ◌∙◌, subst, [], Some, None, arith, inl}
use Rattle.std.proofs.lemmas.Bool.Decides.{nat_tests}
use Rattle.k_ids.specs.declared.threads.ThreadId.{ThreadId}
use Rattle.k_model.proofs.Maps.{upd_cases}
use Rattle.k_tokens.specs.World.{ContextName, OfThread, OfCarrier, Stage, NoSwitch, AcquireReady, LoadGoal, LoadStart}
use Rattle.k_tokens.specs.World.{ReleaseReady, Finished, has_switch, holds_ready, is_finished, OwnContext, Help, Carrier, World}
use Rattle.k_tokens.specs.World.{goal_of, is_counted, starting, is_idle}
use Rattle.k_tokens.specs.Good.{Holder, SwitchFacts, CarrierFacts, Parts, come_in}
use Rattle.k_tokens.proofs.Basics.{count_same}
use Rattle.k_tokens.proofs.Keeping.{carrier_as, runs_as, facts_changed, hands_off_thread, hands_off_own}
use Rattle.k_switching.specs.Rules.{has_switched, is_released, put_down, given_own, given}
use Rattle.k_switching.proofs.Pairs.{upd2_cases, tokens_as}

module _ (w : World) (at : ThreadId → Holder) (g : Parts w at) where
  -- after a give
  module _ (c : ℕ) (h : ContextName) (had : (w.carrier c).hand ≡ Some h) where
    help_down : (p : Help) → (put_down w (w.carrier c) h).help ≡ Some p → (w.carrier c).help ≡ Some p
    help_down p e = by (is_released w (w.carrier c).help h) e
      where
        by : (b : Bool) → cond b None (w.carrier c).help ≡ Some p → (w.carrier c).help ≡ Some p
        by true e = cc
        by false e = e

    blind_now : (w.carrier c).looked ≡ None
    blind_now = (g.carriers c).hand_looked h had

    facts_down : CarrierFacts w.threads.condition w.threads.made c (put_down w (w.carrier c) h) (w.own c)
    facts_down =
        let s = g.carriers c in
        record {
          counted = s.counted;
          same = s.same;
          idle = s.idle;
          begins = s.begins;
          switch_own = s.switch_own;
          switch_help = λ p a e. s.switch_help p a (help_down p e);
          switch_hand = λ e. cc;
          switch_thread = λ t a e. cc;
          foreign = λ d e. cc;
          hand_looked = λ p e. cc;
          looked = λ l e. absurd (let z : None ≡ Some l = sym blind_now ∙ e in cc);
          awake = λ t a e. cc;
        }

  pub give_thread : (c t : ℕ) → (w.carrier c).hand ≡ Some (OfThread t) → Parts (given w c (OfThread t)) at
  give_thread c t had =
      let k : Carrier = put_down w (w.carrier c) (OfThread t) in
      record {
        tokens = carrier_as w.own w.carrier c k refl refl g.tokens;
        threads = g.threads;
        switches = g.switches;
        ready = g.ready;
        runs = runs_as c k g.runs refl (inl refl);
        carriers = facts_changed w.own w.carrier c k (facts_down c (OfThread t) had) (λ e ne. g.carriers e);
        hands = hands_off_thread c k g.hands t had refl;
      }

  give_own_on : (c d : ℕ) → (w.carrier c).hand ≡ Some (OfCarrier d) → Parts (given_own w c d false) at
  give_own_on c d had =
      let k : Carrier = put_down w (w.carrier c) (OfCarrier d) in
      record {
        tokens = carrier_as w.own w.carrier c k refl refl g.tokens;
        threads = g.threads;
        switches = g.switches;
        ready = g.ready;
        runs = runs_as c k g.runs refl (inl refl);
        carriers = facts_changed w.own w.carrier c k (facts_down c (OfCarrier d) had) (λ e ne. g.carriers e);
        hands = hands_off_own c k g.hands d had refl;
      }

  -- its own finished switch
  give_done : (c : ℕ) → (w.carrier c).hand ≡ Some (OfCarrier c) → (w.own c).stage ≡ Finished → Parts (given_own w c c true) at
  give_done c had done =
      let s = g.carriers c in
      let o : OwnContext = record (w.own c) { stage = NoSwitch } in
      let k : Carrier = record (put_down w (w.carrier c) (OfCarrier c)) {
        goal = (w.own c).goal;
        counted = (w.own c).counted;
        switching = false;
      } in
      record {
        tokens = tokens_as _ _ _ g.tokens
            (λ d. upd2_cases w.own w.carrier c o k (λ y z. goal_of y z ≡ goal_of (w.own d) (w.carrier d)) d
            (λ q. subst (λ v. (w.own c).goal ≡ goal_of (w.own v) (w.carrier v)) (sym q) (grind (arith, done))) (λ q. refl))
            (λ d. upd_cases (λ (z : Carrier). z.starts ≡ (w.carrier d).starts) w.carrier c k d
            (λ q. ap (come_in w.carrier) (sym q)) (λ q. refl))
            (λ d. upd_cases (λ z. starting z ≡ starting (w.own d)) w.own c o d
            (λ q. subst (λ v. None ≡ starting (w.own v)) (sym q) (grind (arith, done))) (λ q. refl));
        threads = g.threads;
        switches = λ d. upd_cases (SwitchFacts w.threads) w.own c o d (λ q. record {
          goal = λ x e. cc;
          start = λ t e. cc;
        }) (λ q. g.switches d);
        ready = record {
          thread = g.ready.thread;
          thread_is = g.ready.thread_is;
          own = λ d. upd_cases (λ y. holds_ready y.stage ≡ true → w.ready_owner ≡ Some (OfCarrier d)) w.own c o d (λ q e. cc)
              (λ q e. g.ready.own d e);
          own_is = λ d e. upd_cases (λ y. holds_ready y.stage ≡ true) w.own c o d
              (λ q. absurd (let r : holds_ready (w.own c).stage ≡ true =
              ap (λ v. holds_ready (w.own v).stage) (sym q) ∙ g.ready.own_is d e in
              let z : false ≡ true = ap holds_ready (sym done) ∙ r in cc)) (λ q. g.ready.own_is d e);
        };
        runs = (let n = g.runs in record {
          running = n.running ∙ count_same _ _ w.carriers
              (λ d _. upd2_cases w.own w.carrier c o k (λ y z. is_counted (w.own d) (w.carrier d) ≡ is_counted y z) d
              (λ q. subst (λ v. is_counted (w.own v) (w.carrier v) ≡ (w.own c).counted) (sym q) (grind (arith, done)))
              (λ q. refl));
          beyond = λ d b. upd2_cases w.own w.carrier c o k (λ y z. (has_switch y.stage ≡ false) × (z.goal ≡ None)) d
              (λ q. absurd (let z = (n.beyond d b).0 in
              let y : false ≡ true = sym z ∙ ap (λ v. has_switch (w.own v).stage) q ∙ ap has_switch done in cc))
              (λ q. n.beyond d b);
          high = n.high;
          idle = λ d p. upd_cases (λ y. is_idle y ≡ true → w.running ≡ 0 → w.lists p ≡ []) w.own c o d (λ q e. cc)
              (λ q. n.idle d p);
        });
        carriers = λ d. upd2_cases w.own w.carrier c o k (λ y z. CarrierFacts w.threads.condition w.threads.made d z y) d
            (λ q. subst (λ v. CarrierFacts w.threads.condition w.threads.made v k o) (sym q) (record {
              counted = λ x e. (let z = s.counted x in grind (arith, done, z, e));
              same = λ e. cc;
              idle = λ e. cc;
              begins = λ a b. cc;
              switch_own = λ e. cc;
              switch_help = λ p a. cc;
              switch_hand = λ e. cc;
              switch_thread = λ t a. cc;
              foreign = λ u e. cc;
              hand_looked = λ p e. cc;
              looked = λ l e. absurd (let z : None ≡ Some l = sym (blind_now c (OfCarrier c) had) ∙ e in cc);
              awake = λ t a e. cc;
            })) (λ q. g.carriers d);
        hands = hands_off_own c k g.hands c had refl;
      }

  pub give_own : (c d : ℕ) (b : Bool) → has_switched w c (OfCarrier d) ≡ b → (w.carrier c).hand ≡ Some (OfCarrier d)
      → Parts (given_own w c d b) at
  give_own c d false e had = give_own_on c d had
  give_own c d true e had =
      let q : d ≡ c = grind (arith, nat_tests) in
      let f : is_finished (w.own d).stage ≡ true = grind (arith, nat_tests) in
      let z : (w.own c).stage ≡ Finished = done_is (w.own c).stage (ap (λ v. is_finished (w.own v).stage) (sym q) ∙ f) in
      subst (λ v. Parts (given_own w c v true) at) (sym q) (give_done c (had ∙ ap (λ v. Some (OfCarrier v)) q) z)
    where
      done_is : (s : Stage) → is_finished s ≡ true → s ≡ Finished
      done_is NoSwitch e = cc
      done_is AcquireReady e = cc
      done_is LoadGoal e = cc
      done_is LoadStart e = cc
      done_is ReleaseReady e = cc
      done_is Finished e = refl
