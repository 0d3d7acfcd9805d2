-- A carrier takes a context into its hand.
use Rattle.std.proofs.Common.{◌≡◌, ◌≢◌, ℕ, ◌<◌, Bool, true, false, cond, refl, sym, ap, ◌∙◌, subst, [], Option, Some, None}
use Rattle.std.proofs.Common.{arith, ◌⊎◌, inl, inr}
use Rattle.std.specs.Prelude.{is_some}
use Rattle.std.proofs.lemmas.Bool.Decides.{nat_tests}
use Rattle.k_ids.specs.declared.threads.ThreadId.{ThreadId}
use Rattle.k_ids.specs.declared.context_word.ContextWord.{ContextWord}
use Rattle.k_ids.specs.declared.context_word.ContextWord.TheVariants.{Empty, Clean, Holds, Taken}
use Rattle.k_model.specs.Maps.{upd, lowest}
use Rattle.k_model.proofs.Maps.{upd_tells, upd_cases, upd_same, upd_other, lowest-Some}
use Rattle.k_tokens.specs.Maps.{id_at, put}
use Rattle.k_tokens.specs.World.{ContextName, OfThread, OfCarrier, holds_any, Condition, Absent, Awake, Asleep, Ended, Dead}
use Rattle.k_tokens.specs.World.{owner_of, is_present, Stage, NoSwitch, AcquireReady, LoadGoal, LoadStart, ReleaseReady}
use Rattle.k_tokens.specs.World.{Finished, has_switch, holds_ready, is_open, OwnContext, Help, Carrier, World, goal_of}
use Rattle.k_tokens.specs.World.{is_counted, starting, is_idle}
use Rattle.k_tokens.specs.Good.{Holder, Nobody, ReadyList, GoalOf, StartOf, SwitchOf, is_somewhere, is_coming, Tokens}
use Rattle.k_tokens.specs.Good.{ThreadFacts, SwitchFacts, IsLooked, CarrierFacts, Parts, IsGood, goals_in, come_in, starting_in}
use Rattle.k_tokens.specs.Steps.{without_goal}
use Rattle.k_tokens.proofs.Basics.{count_same}
use Rattle.k_tokens.proofs.Moves.{start_begins}
use Rattle.k_tokens.proofs.Standing.{moves_coming, goes_off}
use Rattle.k_tokens.proofs.Facts.{woken}
use Rattle.k_tokens.proofs.Keeping.{seen_by, awake_is, facts_as, carrier_as, goal_dropped, runs_as, no_switch, facts_changed}
use Rattle.k_tokens.proofs.Keeping.{hands_thread, hands_own}
use Rattle.k_switching.specs.Rules.{target_by, context_at, slot_word, thread_word, word_of, same_word, with_hand}
use Rattle.k_switching.specs.Rules.{taken_as_it_is, taken_goal, new_switch, switching_with, begun_with, taken_own, taken}
use Rattle.k_switching.proofs.Pairs.{not_without, upd2_cases, tokens_as}
use Rattle.k_switching.proofs.Looking.{word_tells}

-- a context of this word is in no hand
abbrev rests : ContextWord → Bool
rests Empty = false
rests (Clean v) = true
rests (Holds v) = true
rests (Taken c v) = false

looked_rests : (h : Option Help) (s : Bool) (m : Option ThreadId) (l : ContextWord) → IsLooked h s m l → rests l ≡ true
looked_rests h s m Empty k = absurd k
looked_rests h s m (Taken c v) k = absurd k
looked_rests None s m (Clean v) k = refl
looked_rests None s m (Holds v) k = refl
looked_rests (Some p) s m (Clean v) k = absurd k
looked_rests (Some p) s m (Holds v) k = refl

same_word-is : (l m : ContextWord) → same_word l m ≡ true → l ≡ m
same_word-is Empty Empty e = refl
same_word-is Empty (Clean u) e = cc
same_word-is Empty (Holds u) e = cc
same_word-is Empty (Taken d u) e = cc
same_word-is (Clean v) Empty e = cc
same_word-is (Clean v) (Clean u) e = let q : v ≡ u = grind (arith, nat_tests) in ap Clean q
same_word-is (Clean v) (Holds u) e = cc
same_word-is (Clean v) (Taken d u) e = cc
same_word-is (Holds v) Empty e = cc
same_word-is (Holds v) (Clean u) e = cc
same_word-is (Holds v) (Holds u) e = let q : v ≡ u = grind (arith, nat_tests) in ap Holds q
same_word-is (Holds v) (Taken d u) e = cc
same_word-is (Taken c v) Empty e = cc
same_word-is (Taken c v) (Clean u) e = cc
same_word-is (Taken c v) (Holds u) e = cc
same_word-is (Taken c v) (Taken d u) e =
    let q : c ≡ d = grind (arith, nat_tests) in
    let r : v ≡ u = grind (arith, nat_tests) in
    λ z. Taken (q z) (r z)

module _ (w : World) (at : ThreadId → Holder) (g : Parts w at) where
  -- what a carrier with this context in its hand needs
  module _ (c : ℕ) (free : (w.carrier c).hand ≡ None) where
    facts_with_hand : (h : ContextName) → (h ≡ OfCarrier c → has_switch (w.own c).stage ≡ true)
        → ((t : ℕ) → h ≡ OfThread t → (w.carrier c).switching ≡ true → is_some (w.carrier c).help ≡ true)
        → ((d : ℕ) → h ≡ OfCarrier d → d ≢ c → is_some (w.carrier c).help ≡ true)
        → (condition : ℕ → Condition)
        → ((t : ℕ) → h ≡ OfThread t → (w.carrier c).switching ≡ false
        → (w.carrier c).goal ≡ Some (id_at t (w.threads.made t)) → condition t ≡ Awake)
        → CarrierFacts condition w.threads.made c (with_hand (w.carrier c) h) (w.own c)
    facts_with_hand h own thread other condition awake =
        let s = g.carriers c in
        record {
          counted = s.counted;
          same = s.same;
          idle = s.idle;
          begins = s.begins;
          switch_own = s.switch_own;
          switch_help = s.switch_help;
          switch_hand = λ e. own (let z : h ≡ OfCarrier c = cc in z);
          switch_thread = λ t a e. thread t (let z : h ≡ OfThread t = cc in z) a;
          foreign = λ d e ne. other d (let z : h ≡ OfCarrier d = cc in z) ne;
          hand_looked = λ _ _. refl;
          looked = λ l e. cc;
          awake = λ t a e f. awake t (let z : h ≡ OfThread t = cc in z) a f;
        }

    takes_thread : (t : ℕ) → w.held t ≡ None → ((w.carrier c).switching ≡ true → is_some (w.carrier c).help ≡ true)
        → ((w.carrier c).switching ≡ false → (w.carrier c).goal ≡ Some (id_at t (w.threads.made t))
        → w.threads.condition t ≡ Awake)
        → Parts (taken_as_it_is w c (OfThread t)) at
    takes_thread t away help awake =
        let kk : Carrier = with_hand (w.carrier c) (OfThread t) in
        let st = facts_with_hand (OfThread t) (λ z. absurd (let y : OfThread t ≡ OfCarrier c = z in cc)) (λ u z a. help a)
        (λ d z _. absurd (let y : OfThread t ≡ OfCarrier d = z in cc)) w.threads.condition
        (λ u z a f. (let q : t ≡ u = cc in
        subst (λ v. w.threads.condition v ≡ Awake) q (awake a (f ∙ ap (λ v. Some (id_at v (w.threads.made v))) (sym q))))) in
        record {
          tokens = carrier_as w.own w.carrier c kk refl refl g.tokens;
          threads = g.threads;
          switches = g.switches;
          ready = g.ready;
          runs = runs_as c kk g.runs refl (inl refl);
          carriers = facts_changed w.own w.carrier c kk st (λ e ne. g.carriers e);
          hands = hands_thread c kk g.hands t free away refl;
        }

    takes_own : (d : ℕ) → w.held_own d ≡ None → (d ≡ c → has_switch (w.own c).stage ≡ true)
        → (d ≢ c → is_some (w.carrier c).help ≡ true) → Parts (taken_as_it_is w c (OfCarrier d)) at
    takes_own d away own other =
        let kk : Carrier = with_hand (w.carrier c) (OfCarrier d) in
        let st = facts_with_hand (OfCarrier d) (λ z. own (let q : d ≡ c = cc in q))
        (λ t z. absurd (let y : OfCarrier d ≡ OfThread t = z in cc))
        (λ e z ne. other (λ q. ne (let y : d ≡ e = cc in sym y ∙ q))) w.threads.condition
        (λ t z. absurd (let y : OfCarrier d ≡ OfThread t = z in cc)) in
        record {
          tokens = carrier_as w.own w.carrier c kk refl refl g.tokens;
          threads = g.threads;
          switches = g.switches;
          ready = g.ready;
          runs = runs_as c kk g.runs refl (inl refl);
          carriers = facts_changed w.own w.carrier c kk st (λ e ne. g.carriers e);
          hands = hands_own c kk g.hands d free away refl;
        }

    -- the goal's context
    module _ (x : ThreadId) (has : (w.carrier c).goal ≡ Some x) (off : (w.carrier c).switching ≡ false)
        (away : w.held x.number ≡ None) (same : w.threads.made x.number ≡ x.version)
        (there : w.threads.condition x.number ≢ Absent) where
      goal_here : at x ≡ GoalOf c
      goal_here = g.tokens.goal c x (let none = no_switch (g.carriers c) off in grind (arith, none, has))

      goal_on : w.threads.present x.number ≡ true → w.threads.on x.number ≡ true
      goal_on p = g.threads.on x.number p ∙ ap (λ v. is_somewhere (at (id_at x.number v)))
          (sym (g.threads.here x.number p).1 ∙ same) ∙ ap is_somewhere goal_here

      not_on : (w.carrier c).switching ≡ true → is_some (w.carrier c).help ≡ true
      not_on z = absurd (let y : true ≡ false = sym z ∙ off in cc)

      goal_taken : (k : Condition) → w.threads.condition x.number ≡ k → IsGood (taken_goal w c x.number k)
      goal_taken Awake e = (at, takes_thread x.number away not_on (λ _ _. e))
      goal_taken Absent e = absurd (there e)
      goal_taken Ended e = absurd (let z : at (owner_of w.threads x.number) ≡ Nobody = g.threads.ended x.number e in
          let y : Nobody ≡ GoalOf c = sym z ∙ ap (λ v. at (id_at x.number v)) same ∙ goal_here in cc)
      goal_taken Asleep e =
          let kk : Carrier = with_hand (w.carrier c) (OfThread x.number) in
          let condition : ℕ → Condition = upd w.threads.condition x.number Awake in
          let st = facts_with_hand (OfThread x.number) (λ z. absurd (let y : OfThread x.number ≡ OfCarrier c = z in cc))
          (λ u z a. not_on a) (λ d z _. absurd (let y : OfThread x.number ≡ OfCarrier d = z in cc)) condition
          (λ u z a f. (let q : x.number ≡ u = cc in ap condition (sym q) ∙ upd_same w.threads.condition x.number Awake)) in (
            at,
            record {
              tokens = carrier_as w.own w.carrier c kk refl refl g.tokens;
              threads = woken w.threads at g.threads x.number e goal_on;
              switches = seen_by w at g _ (λ x _ _ _ m. m) (λ x _ m. m);
              ready = g.ready;
              runs = runs_as c kk g.runs refl (inl refl);
              carriers = facts_changed w.own w.carrier c kk st
                  (λ e ne. facts_as (g.carriers e) (λ t h. elim (upd_tells w.threads.condition x.number Awake t) [
                    | inl y ↦ inl y.0
                    | inr y ↦ inr (y.0, refl)
                  ]));
              hands = hands_thread c kk g.hands x.number free away refl;
            },
          )
      goal_taken Dead e =
          let s = g.carriers c in
          let none = no_switch s off in
          let kk : Carrier = without_goal (with_hand (w.carrier c) (OfThread x.number)) in
          let gone : is_present w.threads x ≡ false = (let p = g.threads.dead x.number e in grind (arith, p)) in (
            put at x Nobody,
            record {
              tokens = goal_dropped w.own w.carrier c kk x none refl refl has g.tokens;
              threads = goes_off w.threads at g.threads x gone;
              switches = g.switches;
              ready = g.ready;
              runs = runs_as c kk g.runs refl (inr refl);
              carriers = facts_changed w.own w.carrier c kk (record {
                counted = λ y e. absurd (let z : None ≡ Some y = sym (none_of (w.own c) none) ∙ e in cc);
                same = λ e. absurd (not_without (w.own c).stage none e);
                idle = s.idle;
                begins = λ a b. inr refl;
                switch_own = s.switch_own;
                switch_help = s.switch_help;
                switch_hand = λ e. absurd (let z : Some (OfThread x.number) ≡ Some (OfCarrier c) = e in cc);
                switch_thread = λ t a _. not_on a;
                foreign = λ d e _. absurd (let z : Some (OfThread x.number) ≡ Some (OfCarrier d) = e in cc);
                hand_looked = λ _ _. refl;
                looked = λ l e. cc;
                awake = λ t a b e. cc;
              }) (λ e ne. g.carriers e);
              hands = hands_thread c kk g.hands x.number free away refl;
            },
          )
        where
          none_of : (o : OwnContext) → has_switch o.stage ≡ false → cond (has_switch o.stage) o.goal None ≡ None
          none_of o e = rw e refl

    -- its own context, in which a switch is begun
    module _ (on : (w.carrier c).switching ≡ true) (away : w.held_own c ≡ None) (none : has_switch (w.own c).stage ≡ false)
        (alone : (w.carrier c).help ≡ None) (low : c < w.carriers) where
      switch_parts : (at' : ThreadId → Holder) (st : Option ℕ) → ThreadFacts w.threads at'
          → Tokens at' w.lists
          (goals_in (upd w.own c (new_switch (w.carrier c) st)) (upd w.carrier c (switching_with (w.carrier c) c st)))
          w.threads.push w.unmade (come_in (upd w.carrier c (switching_with (w.carrier c) c st)))
          (starting_in (upd w.own c (new_switch (w.carrier c) st)))
          → Parts (begun_with w c st) at'
      switch_parts at' st threads tokens =
          let s = g.carriers c in
          let o : OwnContext = new_switch (w.carrier c) st in
          let k : Carrier = switching_with (w.carrier c) c st in
          record {
            tokens = tokens;
            threads = threads;
            switches = λ d. upd_cases (SwitchFacts w.threads) w.own c o d (λ q. record {
              goal = λ x e. cc;
              start = λ t e. cc;
            }) (λ q. g.switches d);
            ready = record {
              thread = g.ready.thread;
              thread_is = g.ready.thread_is;
              own = λ d. upd_cases (λ y. holds_ready y.stage ≡ true → w.ready_owner ≡ Some (OfCarrier d)) w.own c o d
                  (λ q e. cc) (λ q e. g.ready.own d e);
              own_is = λ d e. upd_cases (λ y. holds_ready y.stage ≡ true) w.own c o d
                  (λ q. absurd (let r : holds_ready (w.own c).stage ≡ true =
                  ap (λ v. holds_ready (w.own v).stage) (sym q) ∙ g.ready.own_is d e in ready_has (w.own c).stage none r))
                  (λ q. g.ready.own_is d e);
            };
            runs = (let n = g.runs in record {
              running = n.running ∙ count_same _ _ w.carriers
                  (λ d _. upd2_cases w.own w.carrier c o k (λ y z. is_counted (w.own d) (w.carrier d) ≡ is_counted y z) d
                  (λ q. subst (λ v. is_counted (w.own v) (w.carrier v) ≡ is_counted o k) (sym q) (grind (arith, none)))
                  (λ q. refl));
              beyond = λ d b. upd2_cases w.own w.carrier c o k (λ y z. (has_switch y.stage ≡ false) × (z.goal ≡ None)) d
                  (λ q. absurd (omega arith)) (λ q. n.beyond d b);
              high = n.high;
              idle = λ d p. upd_cases (λ y. is_idle y ≡ true → w.running ≡ 0 → w.lists p ≡ []) w.own c o d (λ q e. cc)
                  (λ q. n.idle d p);
            });
            carriers = λ d. upd2_cases w.own w.carrier c o k (λ y z. CarrierFacts w.threads.condition w.threads.made d z y) d
                (λ q. subst (λ v. CarrierFacts w.threads.condition w.threads.made v k o) (sym q) (record {
                  counted = λ x e. (let z = s.counted x in grind (arith, none, z, e));
                  same = λ _. (refl, refl);
                  idle = λ e. cc;
                  begins = λ a b. cc;
                  switch_own = λ _. on;
                  switch_help = s.switch_help;
                  switch_hand = λ _. refl;
                  switch_thread = λ t a e. absurd (let z : Some (OfCarrier c) ≡ Some (OfThread t) = e in cc);
                  foreign = λ u e ne. absurd (let z : Some (OfCarrier c) ≡ Some (OfCarrier u) = e in
                      let y : c ≡ u = cc in ne (sym y));
                  hand_looked = λ _ _. refl;
                  looked = λ l e. cc;
                  awake = λ t a. absurd (let z : true ≡ false = sym on ∙ a in cc);
                })) (λ q. g.carriers d);
            hands = hands_own c k g.hands c free away refl;
          }
        where
          ready_has : (s : Stage) → has_switch s ≡ false → holds_ready s ≡ true → ⊥
          ready_has NoSwitch e f = cc
          ready_has AcquireReady e f = cc
          ready_has LoadGoal e f = cc
          ready_has LoadStart e f = cc
          ready_has ReleaseReady e f = cc
          ready_has Finished e f = cc

      goal_keeps : (st : Option ℕ) (d : ℕ)
          → goal_of (upd w.own c (new_switch (w.carrier c) st) d)
          (upd w.carrier c (switching_with (w.carrier c) c st) d) ≡ goal_of (w.own d) (w.carrier d)
      goal_keeps st d = upd2_cases w.own w.carrier c (new_switch (w.carrier c) st) (switching_with (w.carrier c) c st)
          (λ y z. goal_of y z ≡ goal_of (w.own d) (w.carrier d)) d
          (λ q. subst (λ v. (w.carrier c).goal ≡ goal_of (w.own v) (w.carrier v)) (sym q) (grind (arith, none))) (λ q. refl)

      no_begun : starting (w.own c) ≡ None
      no_begun = by (w.own c).stage none
        where
          by : (s : Stage) → has_switch s ≡ false → cond (is_open s) (w.own c).start None ≡ None
          by NoSwitch e = refl
          by AcquireReady e = cc
          by LoadGoal e = cc
          by LoadStart e = cc
          by ReleaseReady e = cc
          by Finished e = cc

      begin_good : (st : Option ℕ) → lowest (w.carrier c).starts 64 ≡ st → IsGood (begun_with w c st)
      begin_good None e = (
        at,
        switch_parts at None g.threads (tokens_as _ _ _ g.tokens (goal_keeps None)
            (λ d. upd_cases (λ (z : Carrier). z.starts ≡ (w.carrier d).starts) w.carrier c _ d
            (λ q. ap (come_in w.carrier) (sym q)) (λ q. refl))
            (λ d. upd_cases (λ z. starting z ≡ starting (w.own d)) w.own c _ d (λ q. sym (ap (starting_in w.own) q ∙ no_begun))
            (λ q. refl))),
      )
      begin_good (Some t) e =
          let has = (lowest-Some (w.carrier c).starts 64 t e).1 in
          let x : ThreadId = id_at t 1 in
          let was : at x ≡ StartOf c = g.tokens.starts c t has in (
            put at x (SwitchOf c),
            switch_parts (put at x (SwitchOf c)) (Some t)
                (moves_coming w.threads at g.threads x (SwitchOf c) (ap is_somewhere was) refl (ap is_coming was)
                (λ p z. absurd (let y : SwitchOf c ≡ ReadyList p = z in cc)))
                (tokens_as _ _ _ (start_begins at w.lists _ _ _ _ _ g.tokens c t has no_begun) (goal_keeps (Some t))
                (λ d. upd_cases
                (λ (z : Carrier). z.starts ≡ upd (come_in w.carrier) c (upd (w.carrier c).starts t false) d) w.carrier c _ d
                (λ q. subst (λ v. upd (w.carrier c).starts t false ≡ upd (come_in w.carrier) c
                (upd (w.carrier c).starts t false) v) (sym q)
                (sym (upd_same (come_in w.carrier) c (upd (w.carrier c).starts t false))))
                (λ q. sym (upd_other (come_in w.carrier) c (upd (w.carrier c).starts t false) d q)))
                (λ d. upd_cases (λ z. starting z ≡ upd (starting_in w.own) c (Some t) d) w.own c _ d
                (λ q. subst (λ v. Some t ≡ upd (starting_in w.own) c (Some t) v) (sym q)
                (sym (upd_same (starting_in w.own) c (Some t)))) (λ q. sym (upd_other (starting_in w.own) c (Some t) d q)))),
          )

      begun_good : IsGood (begun_with w c (lowest (w.carrier c).starts 64))
      begun_good = begin_good (lowest (w.carrier c).starts 64) refl

  -- after a take that is won
  module _ (c : ℕ) (free : (w.carrier c).hand ≡ None) (low : c < w.carriers) where
    own_slot : (l : ContextWord) (h : Option ℕ) (b : Bool) → rests l ≡ true → same_word l (slot_word h b 1) ≡ true → h ≡ None
    own_slot l None b r e = refl
    own_slot l (Some d) b r e =
        absurd (let z : false ≡ true = ap rests (sym (same_word-is l (Taken d 1) e)) ∙ r in cc)

    thread_slot : (l : ContextWord) (t : ℕ) → rests l ≡ true → same_word l (word_of w (OfThread t)) ≡ true
        → ((l ≡ Clean (w.threads.made t)) ⊎ (l ≡ Holds (w.threads.made t))) × (w.held t ≡ None)
        × (w.threads.condition t ≢ Absent)
    thread_slot l t r e = elim (word_tells w at g t l (sym (same_word-is l (word_of w (OfThread t)) e))) [
      | inl a ↦ absurd (let z : false ≡ true = ap rests (sym a.0) ∙ r in cc)
      | inr a ↦ elim a [
        | inl b ↦ b
        | inr b ↦ absurd (let z : false ≡ true = ap rests (sym b.1) ∙ r in cc)
      ]
    ]

    slot_holds : (h : Option ℕ) (b : Bool) (v u : ℕ) → same_word (Holds u) (slot_word h b v) ≡ true → b ≡ true
    slot_holds (Some d) b v u e = cc
    slot_holds None true v u e = refl
    slot_holds None false v u e = cc

    any_by : (k : Condition) (h : Option ℕ) (b : Bool) (v u : ℕ) → same_word (Holds u) (thread_word k h b v) ≡ true → b ≡ true
    any_by Absent h b v u e = cc
    any_by Awake h b v u e = slot_holds h b v u e
    any_by Asleep h b v u e = slot_holds h b v u e
    any_by Ended h b v u e = slot_holds h b v u e
    any_by Dead h b v u e = slot_holds h b v u e

    helped_taken : (p : Help) (h : ContextName) (v : ℕ) → (w.carrier c).help ≡ Some p → p.context ≡ h
        → same_word (Holds v) (word_of w h) ≡ true → Parts (taken_as_it_is w c h) at
    helped_taken p (OfThread t) v e q f =
        let z = thread_slot (Holds v) t refl f in
        takes_thread c free t z.1 (λ _. ap is_some e)
        (λ a b. awake_is w at g t
        (any_by (w.threads.condition t) (w.held t) (holds_any (w.threads.locks t)) (w.threads.made t) v f))
    helped_taken p (OfCarrier d) v e q f =
        takes_own c free d (own_slot (Holds v) (w.held_own d) (holds_ready (w.own d).stage) refl f)
        (λ z. ready_has (w.own c).stage
        (ap (λ v. holds_ready (w.own v).stage) (sym z) ∙ slot_holds (w.held_own d) (holds_ready (w.own d).stage) 1 v f))
        (λ _. ap is_some e)
      where
        ready_has : (s : Stage) → holds_ready s ≡ true → has_switch s ≡ true
        ready_has NoSwitch e = cc
        ready_has AcquireReady e = cc
        ready_has LoadGoal e = refl
        ready_has LoadStart e = refl
        ready_has ReleaseReady e = refl
        ready_has Finished e = cc

    mine_taken : (b : Bool) → has_switch (w.own c).stage ≡ b → (w.carrier c).help ≡ None → (w.carrier c).switching ≡ true
        → w.held_own c ≡ None → IsGood (taken_own w c b)
    mine_taken true e alone on away = (at, takes_own c free c away (λ _. e) (λ ne. absurd (ne refl)))
    mine_taken false e alone on away = begun_good c free on away e alone low

    word_version : (l : ContextWord) (x : ThreadId) → IsLooked None false (Some x) l
        → ((l ≡ Clean (w.threads.made x.number)) ⊎ (l ≡ Holds (w.threads.made x.number))) → w.threads.made x.number ≡ x.version
    word_version Empty x k z = absurd k
    word_version (Taken d v) x k z = absurd k
    word_version (Clean v) x k z = elim z [
      | inl y ↦ (let q : v ≡ w.threads.made x.number = cc in sym q ∙ k x refl refl)
      | inr y ↦ absurd (let q : Clean v ≡ Holds (w.threads.made x.number) = y in cc)
    ]
    word_version (Holds v) x k z = elim z [
      | inl y ↦ absurd (let q : Holds v ≡ Clean (w.threads.made x.number) = y in cc)
      | inr y ↦ (let q : v ≡ w.threads.made x.number = cc in sym q ∙ k x refl refl)
    ]

    pub take_good : (h : Option Help) (s : Bool) (m : Option ThreadId) (l : ContextWord) → (w.carrier c).help ≡ h
        → (w.carrier c).switching ≡ s → (w.carrier c).goal ≡ m → (s ≡ false → m ≡ None → ⊥) → IsLooked h s m l
        → same_word l (word_of w (context_at c (target_by h s m))) ≡ true → IsGood (taken w c (target_by h s m))
    take_good (Some p) s m Empty e f q busy k z = absurd k
    take_good (Some p) s m (Clean v) e f q busy k z = absurd k
    take_good (Some p) s m (Taken d v) e f q busy k z = absurd k
    take_good (Some p) s m (Holds v) e f q busy k z = (at, helped_taken p p.context v e refl z)
    take_good None true m l e f q busy k z = mine_taken (has_switch (w.own c).stage) refl e f
        (own_slot l (w.held_own c) (holds_ready (w.own c).stage) (looked_rests None true m l k) z)
    take_good None false None l e f q busy k z = absurd (busy refl refl)
    take_good None false (Some x) l e f q busy k z =
        let y = thread_slot l x.number (looked_rests None false (Some x) l k) z in
        goal_taken c free x q f y.1 (word_version l x k y.0) y.2 (w.threads.condition x.number) refl
