-- What keeps each part of the good world.
use Rattle.std.proofs.Common.{◌≡◌, ◌≢◌, ℕ, ◌<◌, ◌≤◌, Bool, true, false, cond, refl, sym, ap, ◌∙◌, subst, List, [], Option, Some}
use Rattle.std.proofs.Common.{None, arith, ◌⊎◌, inl, inr}
use Rattle.std.specs.Prelude.{is_some}
use Rattle.std.proofs.lemmas.Bool.Decides.{nat_tests, leb_tells}
use Rattle.k_ids.specs.declared.threads.ThreadId.{ThreadId}
use Rattle.k_model.specs.Maps.{upd}
use Rattle.k_model.proofs.Maps.{upd_tells, upd_cases, upd_same, upd_other}
use Rattle.k_tokens.specs.Maps.{id_at, put, times, one_if}
use Rattle.k_tokens.specs.World.{OfThread, OfCarrier, Threads, holds_any, Condition, Absent, Awake, Asleep, Ended, Dead}
use Rattle.k_tokens.specs.World.{thread_of, is_present, Stage, NoSwitch, AcquireReady, LoadGoal, LoadStart, ReleaseReady}
use Rattle.k_tokens.specs.World.{Finished, OwnContext, has_switch, holds_ready, is_open, Carrier, HasInterrupt, World}
use Rattle.k_tokens.specs.World.{with_carrier, goal_of, is_counted}
use Rattle.k_tokens.specs.Good.{Holder, Nobody, ReadyList, GoalOf, PushOf, StartToCome, StartOf, SwitchOf, is_somewhere}
use Rattle.k_tokens.specs.Good.{is_coming, times_in, Tokens, IsListable, SwitchFacts, HandFacts, CarrierFacts, RunFacts, Parts}
use Rattle.k_tokens.specs.Good.{knows_goal, knows_start, goals_in, come_in, counted_in}
use Rattle.k_tokens.proofs.Basics.{count_same, count_has}
use Rattle.k_tokens.proofs.Moves.{goal_off}

pub told_goal : (s : Stage) → knows_goal s ≡ true → (holds_ready s ≡ true) × (has_switch s ≡ true)
told_goal NoSwitch h = cc
told_goal AcquireReady h = cc
told_goal LoadGoal h = cc
told_goal LoadStart h = (refl, refl)
told_goal ReleaseReady h = (refl, refl)
told_goal Finished h = cc

pub told_start : (s : Stage) → knows_start s ≡ true → (holds_ready s ≡ true) × (is_open s ≡ true)
told_start NoSwitch h = cc
told_start AcquireReady h = cc
told_start LoadGoal h = cc
told_start LoadStart h = cc
told_start ReleaseReady h = (refl, refl)
told_start Finished h = cc

is_not_awake : (k : Condition) → (k ≡ Awake) ⊎ (k ≢ Awake)
is_not_awake Absent = inr (λ h. cc)
is_not_awake Awake = inl refl
is_not_awake Asleep = inr (λ h. cc)
is_not_awake Ended = inr (λ h. cc)
is_not_awake Dead = inr (λ h. cc)

module _ (w : World) (at : ThreadId → Holder) (g : Parts w at) where
  -- what a switch has been told stays
  pub seen_by : (f : Threads)
      → ((x : ThreadId) → w.ready_owner ≢ None → ((i : ℕ) → w.ready_owner ≢ Some (OfThread i)) → is_somewhere (at x) ≡ true
      → IsListable w.threads x → IsListable f x)
      → ((x : ThreadId) → is_somewhere (at x) ≡ true → is_present w.threads x ≡ false → is_present f x ≡ false) → (d : ℕ)
      → SwitchFacts f (w.own d)
  seen_by f may gone d =
      let s = g.switches d in
      record {
        goal = λ x t e.
            let r = told_goal (w.own d).stage t in
            let l = g.ready.own d r.0 in
            let here : at x ≡ GoalOf d = g.tokens.goal d x (let h = r.1 in grind (arith, h, e)) in
            let z = s.goal x t e in
            record {
              shown = λ p q. (
                (z.shown p q).0,
                may x (λ n. (let y : None ≡ Some (OfCarrier d) = sym n ∙ l in cc))
                    (λ i n. (let y : Some (OfThread i) ≡ Some (OfCarrier d) = sym n ∙ l in cc)) (ap is_somewhere here)
                    (z.shown p q).1,
              );
              absent = λ q. gone x (ap is_somewhere here) (z.absent q);
            };
        start = λ u t e.
            let r = told_start (w.own d).stage t in
            let l = g.ready.own d r.0 in
            let here : at (id_at u 1) ≡ SwitchOf d = g.tokens.begun d u (let h = r.1 in grind (arith, h, e)) in
            let z = s.start u t e in
            record {
              shown = λ p q. (
                (z.shown p q).0,
                may (id_at u 1) (λ n. (let y : None ≡ Some (OfCarrier d) = sym n ∙ l in cc))
                    (λ i n. (let y : Some (OfThread i) ≡ Some (OfCarrier d) = sym n ∙ l in cc)) (ap is_somewhere here)
                    (z.shown p q).1,
              );
              absent = λ q. gone (id_at u 1) (ap is_somewhere here) (z.absent q);
            };
      }

  -- who has a goal is counted
  pub goal_counts : (c : ℕ) (x : ThreadId) → at x ≡ GoalOf c → 1 ≤ w.running
  goal_counts c x e =
      let h = g.tokens.goal_is c x e in
      let n : is_counted (w.own c) (w.carrier c) ≡ true = (g.carriers c).counted x h in
      let b : c < w.carriers = elim (leb_tells w.carriers c) [
        | inl y ↦ absurd (let z = g.runs.beyond c y.1 in
            let a = z.0 in
            let b = z.1 in
            let f : goal_of (w.own c) (w.carrier c) ≡ None = grind (arith, a, b) in let y : None ≡ Some x = sym f ∙ h in cc)
        | inr y ↦ y.1
      ] in
      let t = count_has (counted_in w.own w.carrier) w.carriers c b in
      let o : one_if (is_counted (w.own c) (w.carrier c)) ≡ 1 = ap one_if n in
      let r = g.runs.running in omega (arith, t, o, r)

  pub awake_is : (i : ℕ) → holds_any (w.threads.locks i) ≡ true → w.threads.condition i ≡ Awake
  awake_is i has = elim (is_not_awake (w.threads.condition i)) [
    | inl h ↦ h
    | inr h ↦ absurd (let q = g.threads.quiet i h in let z : true ≡ false = sym has ∙ q in cc)
  ]

  -- while a thread is present and holds a lock, it is in a list or a goal
  present_busy : (i : ℕ) → holds_any (w.threads.locks i) ≡ true → w.threads.present i ≡ true → ((p : ℕ) → w.lists p ≡ [])
      → 1 ≤ w.running
  present_busy i has here empty =
      let k = g.threads in
      let a = awake_is i has in
      let h = k.here i here in
      let on : w.threads.on i ≡ true = elim (is_on (w.threads.on i)) [
        | inl z ↦ z
        | inr z ↦ absurd (let r = k.resting i here z in
            elim r [ inl y ↦ (let q : Awake ≡ Asleep = sym a ∙ y in cc) | inr y ↦ (let q : Awake ≡ Ended = sym a ∙ y in cc) ])
      ] in
      let some : is_somewhere (at (thread_of w.threads i)) ≡ true = sym (k.on i here) ∙ on in
      let calm : is_coming (at (thread_of w.threads i)) ≡ false = ap (λ v. is_coming (at (id_at i v))) (sym h.1) ∙ k.calm i has in
      go (at (thread_of w.threads i)) refl some calm
    where
      is_on : (b : Bool) → (b ≡ true) ⊎ (b ≡ false)
      is_on true = inl refl
      is_on false = inr refl

      go : (v : Holder) → at (thread_of w.threads i) ≡ v → is_somewhere v ≡ true → is_coming v ≡ false → 1 ≤ w.running
      go Nobody e s c = cc
      go (ReadyList p) e s c = absurd (let l = g.tokens.list p (thread_of w.threads i) in
          let n : times (thread_of w.threads i) (w.lists p) ≡ 0 = ap (times (thread_of w.threads i)) (empty p) in
          let m : times_in p (at (thread_of w.threads i)) ≡ 1 = ap (times_in p) e ∙ grind (arith, nat_tests) in
          omega (arith, l, n, m))
      go (GoalOf c) e s h = goal_counts c (thread_of w.threads i) e
      go (PushOf j) e s c = cc
      go StartToCome e s c = cc
      go (StartOf d) e s c = cc
      go (SwitchOf d) e s c = cc

  -- so is the one who destroys a killed one
  pub busy : (i : ℕ) → holds_any (w.threads.locks i) ≡ true → ((p : ℕ) → w.lists p ≡ []) → 1 ≤ w.running
  busy i has empty = by (w.threads.present i) refl
    where
      owner : (o : Option ℕ) → w.threads.table ≡ o → is_some o ≡ true → 1 ≤ w.running
      owner None e s = cc
      owner (Some j) e s = let t = g.threads.table_is j e in let tt = t.0 in present_busy j (grind (arith, tt)) t.1 empty

      by : (b : Bool) → w.threads.present i ≡ b → 1 ≤ w.running
      by true e = present_busy i has e empty
      by false e = let a = awake_is i has in elim (g.threads.stays i e (λ z. (let y : Awake ≡ Absent = sym a ∙ z in cc))) [
        | inl v ↦ owner w.threads.table refl (g.threads.victim (thread_of w.threads i) v).0
        | inr m ↦ absurd (let z : true ≡ false = sym has ∙ (g.threads.making i m).3 in cc)
      ]

pub facts_as : {condition kind' : ℕ → Condition} {made made' : ℕ → ℕ} {c : ℕ} {k : Carrier} {o : OwnContext}
    → CarrierFacts condition made c k o
    → ((t : ℕ) → k.hand ≡ Some (OfThread t) → (kind' t ≡ Awake) ⊎ ((kind' t ≡ condition t) × (made' t ≡ made t)))
    → CarrierFacts kind' made' c k o
facts_as {condition = condition} {kind' = kind'} {made = made} {made' = made'} {c = c} {k = k} s same =
    record {
      counted = s.counted;
      same = s.same;
      idle = s.idle;
      begins = s.begins;
      switch_own = s.switch_own;
      switch_help = s.switch_help;
      switch_hand = s.switch_hand;
      switch_thread = s.switch_thread;
      foreign = s.foreign;
      hand_looked = s.hand_looked;
      looked = s.looked;
      awake = λ t n h e. elim (same t h) [ inl y ↦ y | inr y ↦ y.0 ∙ s.awake t n h (e ∙ ap (λ v. Some (id_at t v)) y.1) ];
    }

pub hands_as : {h m : ℕ → Option ℕ} {k : ℕ → Carrier} (c : ℕ) (k' : Carrier) → HandFacts h m k → k'.hand ≡ (k c).hand
    → HandFacts h m (upd k c k')
hands_as {h = h} {m = m} {k = k} c k' g same =
    let z : (e : ℕ) → (upd k c k' e).hand ≡ (k e).hand =
    λ e. upd_cases (λ y. y.hand ≡ (k e).hand) k c k' e (λ q. same ∙ ap (λ v. (k v).hand) (sym q)) (λ q. refl) in
    record {
      thread = λ e t i. g.thread e t (sym (z e) ∙ i);
      thread_is = λ e t i. z e ∙ g.thread_is e t i;
      own = λ e t i. g.own e t (sym (z e) ∙ i);
      own_is = λ e t i. z e ∙ g.own_is e t i;
    }

-- the same holders, with one carrier changed
pub carrier_as : {at : ThreadId → Holder} {r : ℕ → List ThreadId} {u : ℕ → Option ThreadId} {m : ℕ → Bool} {b : ℕ → Option ℕ}
    (o : ℕ → OwnContext) (k : ℕ → Carrier) (c : ℕ) (k' : Carrier) → k'.goal ≡ (k c).goal → k'.starts ≡ (k c).starts
    → Tokens at r (goals_in o k) u m (come_in k) b → Tokens at r (goals_in o (upd k c k')) u m (come_in (upd k c k')) b
carrier_as {at = at} {r = r} {u = u} {m = m} {b = b} o k c k' goal starts t =
    let eg : (goals_in o k) ≡ (goals_in o (upd k c k')) =
    λ z d. upd_cases (λ y. goal_of (o d) (k d) ≡ goal_of (o d) y) k c k' d
    (λ q. ap (λ v. goal_of (o d) (k v)) q ∙ same_goal (o d) (k c) k' goal) (λ q. refl) z in
    let es : (come_in k) ≡ (come_in (upd k c k')) =
    λ z d. upd_cases (λ y. (k d).starts ≡ y.starts) k c k' d (λ q. ap (come_in k) q ∙ sym starts) (λ q. refl) z in
    subst (λ z. Tokens at r z u m (come_in (upd k c k')) b) eg (subst (λ z. Tokens at r (goals_in o k) u m z b) es t)
  where
    same_goal : (o : OwnContext) (k k' : Carrier) → k'.goal ≡ k.goal → goal_of o k ≡ goal_of o k'
    same_goal o k k' e = by (has_switch o.stage)
      where
        by : (v : Bool) → cond v o.goal k.goal ≡ cond v o.goal k'.goal
        by true = refl
        by false = sym e

-- the goal of a carrier without a switch is dropped
pub goal_dropped : {at : ThreadId → Holder} {r : ℕ → List ThreadId} {u : ℕ → Option ThreadId} {m : ℕ → Bool} {b : ℕ → Option ℕ}
    (o : ℕ → OwnContext) (k : ℕ → Carrier) (c : ℕ) (k' : Carrier) (x : ThreadId) → has_switch (o c).stage ≡ false
    → k'.goal ≡ None → k'.starts ≡ (k c).starts → (k c).goal ≡ Some x
    → Tokens at r (goals_in o k) u m (come_in k) b
    → Tokens (put at x Nobody) r (goals_in o (upd k c k')) u m (come_in (upd k c k')) b
goal_dropped {at = at} {r = r} {u = u} {m = m} {b = b} o k c k' x none goal starts has t =
    let h : goal_of (o c) (k c) ≡ Some x = grind (arith, none, has) in
    let off = goal_off at r (goals_in o k) u m (come_in k) b t c x h in
    let eg : upd (goals_in o k) c None ≡ (goals_in o (upd k c k')) =
    λ z d. upd_cases (λ y. upd (goals_in o k) c None d ≡ goal_of (o d) y) k c k' d
    (λ q. subst (λ v. upd (goals_in o k) c None v ≡ goal_of (o v) k') (sym q)
    (upd_same (goals_in o k) c None ∙ grind (arith, none, goal))) (λ q. upd_other (goals_in o k) c None d q) z in
    let es : (come_in k) ≡ (come_in (upd k c k')) =
    λ z d. upd_cases (λ y. (k d).starts ≡ y.starts) k c k' d (λ q. ap (come_in k) q ∙ sym starts) (λ q. refl) z in
    subst (λ z. Tokens (put at x Nobody) r z u m (come_in (upd k c k')) b) eg
    (subst (λ z. Tokens (put at x Nobody) r (upd (goals_in o k) c None) u m z b) es off)

pub runs_as : {r : ℕ → List ThreadId} {sum n : ℕ} {o : ℕ → OwnContext} {k : ℕ → Carrier} (c : ℕ) (k' : Carrier)
    → RunFacts r sum n o k → k'.counted ≡ (k c).counted → (k'.goal ≡ (k c).goal) ⊎ (k'.goal ≡ None)
    → RunFacts r sum n o (upd k c k')
runs_as {n = n} {o = o} {k = k} c k' g counted goal =
    record {
      running = g.running ∙ count_same _ _ n
          (λ d _. upd_cases (λ y. is_counted (o d) (k d) ≡ is_counted (o d) y) k c k' d
          (λ q. by (has_switch (o d).stage) (o d).counted (ap (λ v. (k v).counted) q ∙ sym counted)) (λ q. refl));
      beyond = λ d b. let z = g.beyond d b in (
        z.0,
        upd_cases (λ y. y.goal ≡ None) k c k' d (λ q. elim goal [
          | inl h ↦ h ∙ ap (λ v. (k v).goal) (sym q) ∙ z.1
          | inr h ↦ h
        ]) (λ q. z.1),
      );
      high = g.high;
      idle = g.idle;
    }
  where
    by : (v a : Bool) {x y : Bool} → x ≡ y → cond v a x ≡ cond v a y
    by true a e = refl
    by false a e = e

-- who isn't switching has no switch
pub no_switch : {condition : ℕ → Condition} {made : ℕ → ℕ} {c : ℕ} {k : Carrier} {o : OwnContext}
    → CarrierFacts condition made c k o → k.switching ≡ false → has_switch o.stage ≡ false
no_switch {k = k} {o = o} s e = by (has_switch o.stage) refl
  where
    by : (v : Bool) → has_switch o.stage ≡ v → v ≡ false
    by true h = (let z : true ≡ false = sym (s.switch_own h) ∙ e in cc)
    by false h = refl

-- with other flags, if none that is set is cleared
abbrev pub with_flags : Carrier → (ℕ → Bool) → Bool → Bool → Bool → Carrier
with_flags k s a b p = record k { starts = s; slice = a; resched = b; putting = p }

pub facts_with_flags : {condition : ℕ → Condition} {made : ℕ → ℕ} {c : ℕ} {k : Carrier} {o : OwnContext} (s : ℕ → Bool)
    (a b p : Bool) → (HasInterrupt k → HasInterrupt (with_flags k s a b p)) → CarrierFacts condition made c k o
    → CarrierFacts condition made c (with_flags k s a b p) o
facts_with_flags s a b p rises g =
    record {
      counted = g.counted;
      same = g.same;
      idle = g.idle;
      begins = λ x y. elim (g.begins x y) [ inl h ↦ inl (rises h) | inr h ↦ inr h ];
      switch_own = g.switch_own;
      switch_help = g.switch_help;
      switch_hand = g.switch_hand;
      switch_thread = g.switch_thread;
      foreign = g.foreign;
      hand_looked = g.hand_looked;
      looked = g.looked;
      awake = g.awake;
    }

-- what holds of each carrier, with one of them changed
pub facts_changed : {condition : ℕ → Condition} {made : ℕ → ℕ} (o : ℕ → OwnContext) (k : ℕ → Carrier) (c : ℕ) (k' : Carrier)
    → CarrierFacts condition made c k' (o c) → ((e : ℕ) → e ≢ c → CarrierFacts condition made e (k e) (o e))
    → (e : ℕ) → CarrierFacts condition made e (upd k c k' e) (o e)
facts_changed {condition = condition} {made = made} o k c k' here others e =
    upd_cases (λ y. CarrierFacts condition made e y (o e)) k c k' e
    (λ q. subst (λ v. CarrierFacts condition made v k' (o v)) (sym q) here) (others e)

-- a carrier changes, but for its goal, its mark, its starts and its hand
pub carrier_changed : (w : World) (at : ThreadId → Holder) → Parts w at → (c : ℕ) (k' : Carrier)
    → k'.goal ≡ (w.carrier c).goal → k'.starts ≡ (w.carrier c).starts → k'.counted ≡ (w.carrier c).counted
    → k'.hand ≡ (w.carrier c).hand → CarrierFacts w.threads.condition w.threads.made c k' (w.own c)
    → Parts (with_carrier w c k') at
carrier_changed w at g c k' goal starts counted hand facts =
    record {
      tokens = carrier_as w.own w.carrier c k' goal starts g.tokens;
      threads = g.threads;
      switches = g.switches;
      ready = g.ready;
      runs = runs_as c k' g.runs counted (inl goal);
      carriers = facts_changed w.own w.carrier c k' facts (λ e ne. g.carriers e);
      hands = hands_as c k' g.hands hand;
    }

module _ {h m : ℕ → Option ℕ} {k : ℕ → Carrier} (c : ℕ) (k' : Carrier) (g : HandFacts h m k) where
  pub hands_thread : (t : ℕ) → (k c).hand ≡ None → h t ≡ None → k'.hand ≡ Some (OfThread t)
      → HandFacts (upd h t (Some c)) m (upd k c k')
  hands_thread t free away new =
      record {
        thread = λ e u i. grind (arith, upd_tells, g.thread e u, new);
        thread_is = λ e u i. grind (arith, upd_tells, g.thread_is e u, new, free);
        own = λ e u i. grind (arith, upd_tells, g.own e u, new);
        own_is = λ e u i. grind (arith, upd_tells, g.own_is e u, new, free);
      }

  pub hands_own : (d : ℕ) → (k c).hand ≡ None → m d ≡ None → k'.hand ≡ Some (OfCarrier d)
      → HandFacts h (upd m d (Some c)) (upd k c k')
  hands_own d free away new =
      record {
        thread = λ e u i. grind (arith, upd_tells, g.thread e u, new);
        thread_is = λ e u i. grind (arith, upd_tells, g.thread_is e u, new, free);
        own = λ e u i. grind (arith, upd_tells, g.own e u, new);
        own_is = λ e u i. grind (arith, upd_tells, g.own_is e u, new, free);
      }

  pub hands_off_thread : (t : ℕ) → (k c).hand ≡ Some (OfThread t) → k'.hand ≡ None → HandFacts (upd h t None) m (upd k c k')
  hands_off_thread t had new =
      let ht = g.thread c t had in
      record {
        thread = λ e u i. grind (arith, upd_tells, g.thread e u, new, ht);
        thread_is = λ e u i. grind (arith, upd_tells, g.thread_is e u, new, had);
        own = λ e u i. grind (arith, upd_tells, g.own e u, new);
        own_is = λ e u i. grind (arith, upd_tells, g.own_is e u, new, had);
      }

  pub hands_off_own : (d : ℕ) → (k c).hand ≡ Some (OfCarrier d) → k'.hand ≡ None → HandFacts h (upd m d None) (upd k c k')
  hands_off_own d had new =
      let ht = g.own c d had in
      record {
        thread = λ e u i. grind (arith, upd_tells, g.thread e u, new);
        thread_is = λ e u i. grind (arith, upd_tells, g.thread_is e u, new, had);
        own = λ e u i. grind (arith, upd_tells, g.own e u, new, ht);
        own_is = λ e u i. grind (arith, upd_tells, g.own_is e u, new, had);
      }
