-- Each step of a switch keeps the good world.
use Rattle.std.proofs.Common.{◌≡◌, ℕ, ◌<◌, Bool, true, false, cond, refl, sym, ap, ◌∙◌, subst, Option, Some, None, arith, ◌⊎◌}
use Rattle.std.proofs.Common.{inl, inr}
use Rattle.std.specs.Prelude.{is_some, ◌&&◌}
use Rattle.std.proofs.lemmas.Bool.Decides.{nat_tests, leb_tells}
use Rattle.k_ids.specs.declared.threads.ThreadId.{ThreadId}
use Rattle.k_locks.specs.declared.locks.Lock.TheVariants as lock
use Rattle.k_model.specs.Maps.{upd}
use Rattle.k_model.proofs.Maps.{upd_tells, upd_cases}
use Rattle.k_tokens.specs.Maps.{id_at}
use Rattle.k_tokens.specs.World.{ContextName, OfThread, OfCarrier, is_present, Stage, NoSwitch, AcquireReady, LoadGoal}
use Rattle.k_tokens.specs.World.{LoadStart, ReleaseReady, Finished, has_switch, holds_ready, is_open, is_finished, OwnContext}
use Rattle.k_tokens.specs.World.{Help, World, with_carrier, goal_of, is_counted, starting, is_idle}
use Rattle.k_tokens.specs.Good.{Holder, is_somewhere, Told, SwitchFacts, ReadyFacts, CarrierFacts, Parts, IsGood, knows_goal}
use Rattle.k_tokens.specs.Good.{knows_start}
use Rattle.k_tokens.specs.Steps.{helping}
use Rattle.k_tokens.proofs.Basics.{count_same}
use Rattle.k_tokens.proofs.Keeping.{carrier_changed}
use Rattle.k_switching.specs.Switch.{to_start, to_goal, shown_on, goal_shown, start_shown, ready_acquired, goal_loaded}
use Rattle.k_switching.specs.Switch.{start_loaded, acquired_by, switch_step}
use Rattle.k_switching.proofs.Finishing.{own_as}
use Rattle.k_switching.proofs.Switched.{finishes}

switching_has : (s : Stage) → is_open s ≡ true → has_switch s ≡ true
switching_has NoSwitch e = cc
switching_has AcquireReady e = refl
switching_has LoadGoal e = refl
switching_has LoadStart e = refl
switching_has ReleaseReady e = refl
switching_has Finished e = cc

not_done : (s : Stage) → is_open s ≡ true → is_finished s ≡ false
not_done NoSwitch e = cc
not_done AcquireReady e = refl
not_done LoadGoal e = refl
not_done LoadStart e = refl
not_done ReleaseReady e = refl
not_done Finished e = cc

pub holds_done : (s : Stage) → holds_ready s ≡ true → is_open s ≡ true
holds_done NoSwitch e = cc
holds_done AcquireReady e = cc
holds_done LoadGoal e = refl
holds_done LoadStart e = refl
holds_done ReleaseReady e = refl
holds_done Finished e = cc

module _ (w : World) (at : ThreadId → Holder) (g : Parts w at) where
  -- what a load tells now
  tells_now : (x : ThreadId) → is_somewhere (at x) ≡ true → Told w.threads x (shown_on w.threads x)
  tells_now x some = by (is_present w.threads x) (w.threads.on x.number) refl refl
    where
      low : (p : ℕ) → Some (w.threads.priority x.number) ≡ Some p → p < 64
      low p e = let z : w.threads.priority x.number ≡ p = cc in let b = g.threads.priority x.number in omega (arith, z, b)

      is_on : is_present w.threads x ≡ true → w.threads.on x.number ≡ true
      is_on e = (let v : w.threads.version x.number ≡ x.version = grind (arith, nat_tests) in
          let p : w.threads.present x.number ≡ true = grind (arith, nat_tests) in
          g.threads.on x.number p ∙ ap (λ v. is_somewhere (at (id_at x.number v))) v ∙ some)

      by : (a b : Bool) → is_present w.threads x ≡ a → w.threads.on x.number ≡ b
          → Told w.threads x (cond (a && b) (Some (w.threads.priority x.number)) None)
      by true true e f = record { shown = λ p z. (low p z, inl e); absent = λ z. cc }
      by true false e f = absurd (let z : true ≡ false = sym (is_on e) ∙ f in cc)
      by false b e f = record { shown = λ p z. cc; absent = λ _. e }

  -- a switch goes on, with its goal, its mark and its start
  goes_on : (d : ℕ) (o : OwnContext) (l : Option ContextName) → is_open (w.own d).stage ≡ true → is_open o.stage ≡ true
      → o.goal ≡ (w.own d).goal → o.counted ≡ (w.own d).counted → o.start ≡ (w.own d).start
      → SwitchFacts w.threads o → ReadyFacts w.threads.locks (upd w.own d o) l
      → Parts (record w { own = upd w.own d o; ready_owner = l }) at
  goes_on d o l is is' goal counted start seen locked =
      let hs = switching_has (w.own d).stage is in
      let hs' = switching_has o.stage is' in
      let nd = not_done o.stage is' in
      record {
        tokens = own_as _ _ g.tokens
            (λ c. upd_cases (λ y. goal_of y (w.carrier c) ≡ goal_of (w.own c) (w.carrier c)) w.own d o c
            (λ q. subst (λ v. goal_of o (w.carrier v) ≡ goal_of (w.own v) (w.carrier v)) (sym q)
            (grind (arith, hs, hs', goal))) (λ q. refl))
            (λ c. upd_cases (λ y. starting y ≡ starting (w.own c)) w.own d o c
            (λ q. subst (λ v. starting o ≡ starting (w.own v)) (sym q) (grind (arith, is, is', start))) (λ q. refl));
        threads = g.threads;
        switches = λ c. upd_cases (SwitchFacts w.threads) w.own d o c (λ q. seen) (λ q. g.switches c);
        ready = locked;
        runs = (let n = g.runs in record {
          running = n.running ∙ count_same _ _ w.carriers
              (λ c _. upd_cases (λ y. is_counted (w.own c) (w.carrier c) ≡ is_counted y (w.carrier c)) w.own d o c
              (λ q. subst (λ v. is_counted (w.own v) (w.carrier v) ≡ is_counted o (w.carrier v)) (sym q)
              (grind (arith, hs, hs', counted))) (λ q. refl));
          beyond = λ c b. upd_cases (λ y. (has_switch y.stage ≡ false) × ((w.carrier c).goal ≡ None)) w.own d o c
              (λ q. absurd (let z = (n.beyond c b).0 in
              let y : false ≡ true = sym z ∙ ap (λ v. has_switch (w.own v).stage) q ∙ hs in cc)) (λ q. n.beyond c b);
          high = n.high;
          idle = λ c p e s. n.idle c p
              (upd_cases (λ y. is_idle y ≡ true → is_idle (w.own c) ≡ true) w.own d o c
              (λ q i. absurd (let z : is_idle o ≡ false = grind (arith, nd) in let y : false ≡ true = sym z ∙ i in cc))
              (λ q i. i) e) s;
        });
        carriers = λ c. upd_cases (CarrierFacts w.threads.condition w.threads.made c (w.carrier c)) w.own d o c
            (λ q. let s = g.carriers c in let same : w.own d ≡ w.own c = ap w.own (sym q) in
            let si = s.same (ap (λ v. is_open (w.own v).stage) q ∙ is) in
            let gg : o.goal ≡ (w.own c).goal = goal ∙ ap (λ (v : OwnContext). v.goal) same in
            let cn : o.counted ≡ (w.own c).counted = counted ∙ ap (λ (v : OwnContext). v.counted) same in
            let hc : has_switch (w.own c).stage ≡ true = ap (λ v. has_switch (w.own v).stage) q ∙ hs in
            record {
              counted = λ x e. (let z = s.counted x in grind (arith, z, hs', hc, gg, cn, e));
              same = λ _. (gg ∙ si.0, cn ∙ si.1);
              idle = λ i. absurd (let z : is_idle o ≡ false = grind (arith, nd) in let y : false ≡ true = sym z ∙ i in cc);
              begins = λ a b. absurd (let z : true ≡ false = sym hs' ∙ b in cc);
              switch_own = λ _. s.switch_own hc;
              switch_help = s.switch_help;
              switch_hand = λ _. hs';
              switch_thread = s.switch_thread;
              foreign = s.foreign;
              hand_looked = s.hand_looked;
              looked = s.looked;
              awake = s.awake;
            }) (λ q. g.carriers c);
        hands = g.hands;
      }

  to_start_told : (o : OwnContext)
      → (is_open (to_start o) ≡ true) × (holds_ready (to_start o) ≡ true)
      × ((t : ℕ) → knows_start (to_start o) ≡ true → o.start ≡ Some t → ⊥)
  to_start_told o = by o.start
    where
      by : (s : Option ℕ)
          → (is_open (cond (is_some s) LoadStart ReleaseReady) ≡ true)
          × (holds_ready (cond (is_some s) LoadStart ReleaseReady) ≡ true)
          × ((t : ℕ) → knows_start (cond (is_some s) LoadStart ReleaseReady) ≡ true → s ≡ Some t → ⊥)
      by None = (refl, refl, λ t e f. cc)
      by (Some u) = (refl, refl, λ t e f. cc)

  to_goal_told : (o : OwnContext)
      → (is_open (to_goal o) ≡ true) × (holds_ready (to_goal o) ≡ true)
      × ((t : ℕ) → knows_start (to_goal o) ≡ true → o.start ≡ Some t → ⊥)
      × ((x : ThreadId) → knows_goal (to_goal o) ≡ true → o.goal ≡ Some x → ⊥)
  to_goal_told o = by o.goal (to_start_told o)
    where
      by : (m : Option ThreadId)
          → (is_open (to_start o) ≡ true) × (holds_ready (to_start o) ≡ true)
          × ((t : ℕ) → knows_start (to_start o) ≡ true → o.start ≡ Some t → ⊥)
          → (is_open (cond (is_some m) LoadGoal (to_start o)) ≡ true)
          × (holds_ready (cond (is_some m) LoadGoal (to_start o)) ≡ true)
          × ((t : ℕ) → knows_start (cond (is_some m) LoadGoal (to_start o)) ≡ true → o.start ≡ Some t → ⊥)
          × ((x : ThreadId) → knows_goal (cond (is_some m) LoadGoal (to_start o)) ≡ true → m ≡ Some x → ⊥)
      by None z = (z.0, z.1, z.2, λ x e f. cc)
      by (Some y) z = (refl, refl, (λ t e f. cc), λ x e f. cc)

  -- the ready lock stays with it
  keeps_lock : (d : ℕ) (o : OwnContext) → holds_ready (w.own d).stage ≡ true → holds_ready o.stage ≡ true
      → ReadyFacts w.threads.locks (upd w.own d o) w.ready_owner
  keeps_lock d o was is =
      record {
        thread = g.ready.thread;
        thread_is = g.ready.thread_is;
        own = λ c e. elim (upd_tells w.own d o c) [
          | inl y ↦ g.ready.own d was ∙ ap (λ v. Some (OfCarrier v)) (sym y.1)
          | inr y ↦ g.ready.own c (ap (λ (v : OwnContext). holds_ready v.stage) (sym y.0) ∙ e)
        ];
        own_is = λ c e. upd_cases (λ y. holds_ready y.stage ≡ true) w.own d o c (λ q. is) (λ q. g.ready.own_is c e);
      }

  gets_lock : (d : ℕ) (o : OwnContext) → w.ready_owner ≡ None → holds_ready o.stage ≡ true
      → ReadyFacts w.threads.locks (upd w.own d o) (Some (OfCarrier d))
  gets_lock d o free is =
      record {
        thread = λ i e. absurd (let z : None ≡ Some (OfThread i) = sym free ∙ g.ready.thread i e in cc);
        thread_is = λ i e. absurd (let z : Some (OfCarrier d) ≡ Some (OfThread i) = e in cc);
        own = λ c e. elim (upd_tells w.own d o c) [
          | inl y ↦ ap (λ v. Some (OfCarrier v)) (sym y.1)
          | inr y ↦ absurd (let z : None ≡ Some (OfCarrier c) =
              sym free ∙ g.ready.own c (ap (λ (v : OwnContext). holds_ready v.stage) (sym y.0) ∙ e) in cc)
        ];
        own_is = λ c e. upd_cases (λ y. holds_ready y.stage ≡ true) w.own d o c (λ q. is)
            (λ q. absurd (let z : Some (OfCarrier d) ≡ Some (OfCarrier c) = e in let y : d ≡ c = cc in q (sym y)));
      }

  acquire_good : (d : ℕ) → (w.own d).stage ≡ AcquireReady → w.ready_owner ≡ None → Parts (ready_acquired w d) at
  acquire_good d s free =
      let t = to_goal_told (w.own d) in
      goes_on d _ (Some (OfCarrier d)) (ap is_open s) t.0 refl refl refl (record {
        goal = λ x a b. absurd (t.3 x a b);
        start = λ u a b. absurd (t.2 u a b);
      }) (gets_lock d _ free t.1)

  goal_good : (d : ℕ) → (w.own d).stage ≡ LoadGoal → Parts (goal_loaded w d) at
  goal_good d s =
      let t = to_start_told (w.own d) in
      goes_on d _ w.ready_owner (ap is_open s) t.0 refl refl refl
      (record {
        goal = λ x a b. subst (λ v. Told w.threads x (goal_shown w.threads v)) (sym b)
            (tells_now x (ap is_somewhere (g.tokens.goal d x (grind (arith, s, b)))));
        start = λ u a b. absurd (t.2 u a b);
      }) (keeps_lock d _ (ap holds_ready s) t.1)

  start_good : (d : ℕ) → (w.own d).stage ≡ LoadStart → Parts (start_loaded w d) at
  start_good d s =
      let z = g.switches d in
      goes_on d _ w.ready_owner (ap is_open s) refl refl refl refl
      (record {
        goal = λ x a b. z.goal x (ap knows_goal s) b;
        start = λ u a b. subst (λ v. Told w.threads (id_at u 1) (start_shown w.threads v)) (sym b)
            (tells_now (id_at u 1) (ap is_somewhere (g.tokens.begun d u (grind (arith, s, b)))));
      }) (keeps_lock d _ (ap holds_ready s) refl)

  -- the lock is owned, and its owner is helped
  acquire_waits : (c : ℕ) (h : ContextName) → (w.carrier c).hand ≡ Some (OfCarrier c) → (w.own c).stage ≡ AcquireReady
      → w.ready_owner ≡ Some h → Parts (with_carrier w c (helping (w.carrier c) h (Some lock.Ready))) at
  acquire_waits c h hand x owner =
      let s = g.carriers c in
      carrier_changed w at g c (helping (w.carrier c) h (Some lock.Ready)) refl refl refl refl
      (record {
        counted = s.counted;
        same = s.same;
        idle = s.idle;
        begins = s.begins;
        switch_own = s.switch_own;
        switch_help = λ p on e.
            let y : record { context = h; lock = Some lock.Ready } ≡ p = cc in
            ap (λ (v : Help). v.lock) (sym y);
        switch_hand = s.switch_hand;
        switch_thread = λ t on _. refl;
        foreign = λ d _ _. refl;
        hand_looked = s.hand_looked;
        looked = λ l e. absurd (let y : None ≡ Some l = sym (s.hand_looked (OfCarrier c) hand) ∙ e in cc);
        awake = s.awake;
      })

  below : (d : ℕ) → has_switch (w.own d).stage ≡ true → d < w.carriers
  below d h = elim (leb_tells w.carriers d) [
    | inl y ↦ absurd (let z : true ≡ false = sym h ∙ (g.runs.beyond d y.1).0 in cc)
    | inr y ↦ y.1
  ]

  -- c runs the switch of d: its own, or one that has the ready lock
  pub switch_good : (c d : ℕ) → (w.carrier c).hand ≡ Some (OfCarrier d) → (d ≡ c) ⊎ (holds_ready (w.own d).stage ≡ true)
      → IsGood (switch_step w c d (w.own d).stage)
  switch_good c d hand who = by (w.own d).stage refl
    where
      by_owner : (o : Option ContextName) → w.ready_owner ≡ o → d ≡ c → (w.own d).stage ≡ AcquireReady
          → IsGood (acquired_by w c d o)
      by_owner None e q s = (at, acquire_good d s e)
      by_owner (Some h) e q s = (
        at,
        acquire_waits c h (hand ∙ ap (λ v. Some (OfCarrier v)) q)
            (ap (λ v. (w.own v).stage) (sym q) ∙ s) e,
      )

      by : (s : Stage) → (w.own d).stage ≡ s → IsGood (switch_step w c d s)
      by NoSwitch s = (at, g)
      by AcquireReady s = by_owner w.ready_owner refl (elim who [
        | inl y ↦ y
        | inr y ↦ absurd (let z : false ≡ true = ap holds_ready (sym s) ∙ y in cc)
      ]) s
      by LoadGoal s = (at, goal_good d s)
      by LoadStart s = (at, start_good d s)
      by ReleaseReady s = finishes w d at g s (below d (ap has_switch s))
      by Finished s = (at, g)
