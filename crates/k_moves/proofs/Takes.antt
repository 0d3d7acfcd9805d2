-- What a take makes of a carrier, and of the context that it takes.
use Rattle.std.proofs.Common.{◌≡◌, ◌≢◌, ℕ, ◌+◌, ◌<◌, Bool, true, false, length, refl, sym, ap}
use Rattle.std.proofs.Common.{◌∙◌, subst, Option, Some, None, List, arith, ◌⊎◌, inl, inr}
use Rattle.std.specs.Prelude.{if◌then◌else◌, slice_set, is_some}
use Rattle.std.proofs.lemmas.Bool.Decides.{eqb_tells}
use Rattle.std.proofs.lemmas.List.{get_or-set_same, get_or-set_other}
use Rattle.k_model.specs.Maps.{lowest, upd}
use Rattle.k_model.proofs.Maps.{lowest-Some, upd_same, upd_other}
use Rattle.k_caller.specs.declared.activity.Activity.{Activity}
use Rattle.k_caller.specs.declared.activity.Activity.TheVariants as activity
use Rattle.k_caller.specs.declared.thread.ThreadLocation.TheVariants as location
use Rattle.k_caller.specs.Activities as activities
use Rattle.k_caller.specs.Threads.{ThreadSeen}
use Rattle.k_switch.specs.declared.goal.Goal.{Goal}
use Rattle.k_switch.specs.declared.carrier_context.CarrierContext.{CarrierContext}
use Rattle.k_switch.specs.declared.switch.Switch.{Switch}
use Rattle.k_switch.specs.declared.switch.SwitchLocked.TheVariants as locked
use Rattle.k_switch.specs.Switches.{SwitchAt, at_of}
use Rattle.k_switch.specs.Switches as switch
use Rattle.k_context.specs.Contexts.{ContextSeen, Thread, Carrier}
use Rattle.k_context.specs.Contexts as contexts
use Rattle.k_carrier.specs.declared.carrier.Target.{Target}
use Rattle.k_carrier.specs.declared.carrier.Target.TheVariants as target
use Rattle.k_carrier.specs.Resumed as carriers
use Rattle.k_carrier.specs.Rules.{context_at, own_context, readied, target_of, target_with}
use Rattle.k_carrier.specs.Seen.{CarrierSeen, HandSeen}
use Rattle.k_carrier.specs.Starts.{first_start, is_due, without_start}
use Rattle.k_tokens.specs.World.{ContextName, OfThread, OfCarrier, Condition, OwnContext, Stage, World, has_switch}
use Rattle.k_tokens.specs.World as tokens
use Rattle.k_switching.specs.Rules as rules
use Rattle.k_grants.specs.Views.{held_of, name_of}
use Rattle.k_moves.specs.Views.{IsViewed, ShowsContext, ShowsOwn, ShowsThread, carrier_view, condition_of, stage_of, target_in}
use Rattle.k_moves.specs.Moved.{IsGiven, IsGoalGiven, IsInHand, IsMoved, held_with, own_with}
use Rattle.k_carrier.specs.declared.moves.Help.{Help}
use Rattle.k_tokens.specs.Steps.{without_goal}
use Rattle.k_moves.proofs.Names.{name_beyond, name_inside}
use Rattle.k_ids.specs.ContextWords.{context_word_of}
use Rattle.k_script.specs.Script.{Script}
use Rattle.k_carrier.specs.declared.moves.Awaits.{Awaits}
use Rattle.k_carrier.specs.declared.moves.Awaits.TheVariants as awaits
use Rattle.k_carrier.specs.Answers as answer
use Rattle.k_carrier.specs.Asked.{Take, ask_of, asked, asked_by}
use Rattle.k_tokens.specs.Steps.{ThreadStep}
use Rattle.k_moves.proofs.Looks.{take_asks}
use Rattle.k_moves.proofs.Wins.{not_readied, take_ready, take_won}

-- WHAT A CONTEXT SHOWS, in a world that has the same of it

pub shows_as : (w w' : World) (size i : ℕ) (u : ContextSeen) → w'.threads ≡ w.threads → w'.own ≡ w.own → ShowsContext w size i u →
    ShowsContext w' size i u
shows_as w w' size i (Thread t) e o h = subst (λ x. ShowsThread x size i t) (sym e) h
shows_as w w' size i (Carrier x) e o h = (h.0, subst (λ (f : ℕ → OwnContext). ShowsOwn x.switch (f x.carrier)) (sym o) h.1)

-- .. with another carrier's own context changed
pub shows_else : (w w' : World) (size i n c : ℕ) (u : ContextSeen) (y : OwnContext) → w'.threads ≡ w.threads →
    w'.own ≡ upd w.own c y → n ≡ size + c → i ≢ n → ShowsContext w size i u → ShowsContext w' size i u
shows_else w w' size i n c (Thread t) y e o at ne h = subst (λ x. ShowsThread x size i t) (sym e) h
shows_else w w' size i n c (Carrier x) y e o at ne h = (
  h.0,
  subst (λ (q : OwnContext). ShowsOwn x.switch q)
      (sym (ap (λ (f : ℕ → OwnContext). f x.carrier) o ∙ upd_other w.own c y x.carrier
      (λ z. ne (h.0 ∙ ap (λ m. size + m) z ∙ sym at)))) h.1,
)

-- a list of numbers as a map
pub due_set : (starts : List Bool) (i : ℕ) (b : Bool) → i < length starts →
    is_due (slice_set starts i b) ≡ upd (is_due starts) i b
due_set starts i b lt = λ z u. point u z
  where
    point : (u : ℕ) → is_due (slice_set starts i b) u ≡ upd (is_due starts) i b u
    point u = elim (eqb_tells u i) [
      | inl e ↦
          ap (is_due (slice_set starts i b)) e.1 ∙ get_or-set_same starts i b false lt ∙ sym (upd_same (is_due starts) i b)
          ∙ ap (upd (is_due starts) i b) (sym e.1)
      | inr ne ↦ get_or-set_other starts i u b false ne.1 ∙ sym (upd_other (is_due starts) i b u ne.1)
    ]

-- AS IT IS

abbrev pub hand_with : ℕ → ContextSeen → HandSeen
hand_with n v = record { context = n; value = v }

module _ (w : World) (k : CarrierSeen) (viewed : IsViewed w k) where
  as_it_is : (n : ℕ) (v : ContextSeen) (nm : ContextName) → name_of k.table n ≡ nm → ShowsContext w k.table n v →
      IsMoved w (rules.taken_as_it_is w k.number nm) k (carriers.in_hand k n v) n v (Some k.number)
  as_it_is n v (OfThread t) e h = record {
    carrier = λ z. upd w.carrier k.number (rules.with_hand (viewed z) (sym e z));
    held = ap (λ m. held_with m (Some k.number) w.held) (sym e);
    held_own = ap (λ m. own_with m (Some k.number) w.held_own) (sym e);
    here = shows_as w (rules.taken_as_it_is w k.number (OfThread t)) k.table n v refl refl h;
    others = λ i u ne. shows_as w (rules.taken_as_it_is w k.number (OfThread t)) k.table i u refl refl;
    lists = refl;
    running = refl;
    ready = refl;
    unmade = refl;
    carriers = refl;
  }
  as_it_is n v (OfCarrier d) e h = record {
    carrier = λ z. upd w.carrier k.number (rules.with_hand (viewed z) (sym e z));
    held = ap (λ m. held_with m (Some k.number) w.held) (sym e);
    held_own = ap (λ m. own_with m (Some k.number) w.held_own) (sym e);
    here = shows_as w (rules.taken_as_it_is w k.number (OfCarrier d)) k.table n v refl refl h;
    others = λ i u ne. shows_as w (rules.taken_as_it_is w k.number (OfCarrier d)) k.table i u refl refl;
    lists = refl;
    running = refl;
    ready = refl;
    unmade = refl;
    carriers = refl;
  }

  -- A SWITCH BEGINS

  due_without : (starts : List Bool) → length starts ≡ 64 → (o : Option ℕ) → first_start starts ≡ o →
      is_due (without_start starts o) ≡ rules.without_start (is_due starts) o
  due_without starts size None e = refl
  due_without starts size (Some i) e =
      due_set starts i false (let l = (lowest-Some (is_due starts) 64 i e).0 in omega (arith, l, size))

  begun_moves : (given : IsGiven k) (x : CarrierContext) → x.carrier ≡ k.number →
      IsMoved w (rules.begun_with w k.number (first_start k.starts)) k (carriers.switch_begun k (Carrier x)) (own_context k)
      (contexts.with_switch (carriers.switch_call k) (Carrier x)) (Some k.number)
  begun_moves given x own = record {
    carrier =
        (λ z. upd w.carrier k.number (rules.switching_with (viewed z) k.number (first_start k.starts)))
        ∙ (λ z. upd w.carrier k.number (record (carrier_view (carriers.switch_begun k (Carrier x))) {
          hand = Some (sym named z);
          starts = sym (due_without k.starts given.starts (first_start k.starts) refl) z;
        }));
    held = ap (λ m. held_with m (Some k.number) w.held) (sym named);
    held_own = ap (λ m. own_with m (Some k.number) w.held_own) (sym named);
    here = (
      ap (λ m. k.table + m) (sym own),
      subst (λ (q : OwnContext).
          ShowsOwn (Some (switch.switch_of (carriers.switch_call k))) q) (sym mine)
          (record {
            stage = refl;
            call = λ _. record { goal = refl; counted = refl; slice_ended = refl; start = refl };
            at = tt;
          }),
    );
    others =
        λ i u ne. shows_else w W' k.table i (own_context k) k.number u
        (rules.new_switch (w.carrier k.number) (first_start k.starts)) refl refl refl ne;
    lists = refl;
    running = refl;
    ready = refl;
    unmade = refl;
    carriers = refl;
  }
    where
      W' : World
      W' = rules.begun_with w k.number (first_start k.starts)

      named : name_of k.table (own_context k) ≡ OfCarrier k.number
      named = name_beyond k.table k.number

      mine : upd w.own k.number (rules.new_switch (w.carrier k.number) (first_start k.starts)) x.carrier ≡
          rules.new_switch (carrier_view k) (first_start k.starts)
      mine =
          ap (upd w.own k.number (rules.new_switch (w.carrier k.number) (first_start k.starts))) own
          ∙ upd_same w.own k.number (rules.new_switch (w.carrier k.number) (first_start k.starts))
          ∙ ap (λ c. rules.new_switch c (first_start k.starts)) viewed

  has_stage : (p : SwitchAt) → has_switch (stage_of p) ≡ true
  has_stage switch.AcquireReady = refl
  has_stage (switch.Locked (locked.LoadGoal g)) = refl
  has_stage (switch.Locked (locked.LoadStart b n)) = refl
  has_stage (switch.Locked (locked.ReleaseReady b n)) = refl
  has_stage (switch.Returned s) = refl
  has_stage (switch.Finished s) = refl

  moved_as : {W W' : World} {a b : CarrierSeen} {v u : ContextSeen} (n : ℕ) (o : Option ℕ) → W ≡ W' → a ≡ b → v ≡ u →
      IsMoved w W k a n v o → IsMoved w W' k b n u o
  moved_as {W} {W'} {a} {b} {v} {u} n o e f g h =
      subst (λ (x : World). IsMoved w x k b n u o) e (subst (λ (x : CarrierSeen). IsMoved w W k x n u o) f
      (subst (λ (x : ContextSeen). IsMoved w W k a n x o) g h))

  -- the context that is in its hand then
  value_is : {n m : ℕ} {v u : ContextSeen} → Some (hand_with n v) ≡ Some (hand_with m u) → v ≡ u
  value_is {n} {m} {v} {u} e = let q : hand_with n v ≡ hand_with m u = cc in ap (λ (h : HandSeen). h.value) q

  -- its own context, with a switch or without
  own_moves : (given : IsGiven k) (v v' : ContextSeen) → ShowsContext w k.table (own_context k) v →
      (carriers.own_taken k v).hand ≡ Some (record { context = own_context k; value = v' }) →
      IsMoved w (rules.taken_own w k.number (has_switch (w.own k.number).stage)) k (carriers.own_taken k v) (own_context k) v'
      (Some k.number)
  own_moves given (Thread t) v' s e = absurd (let l = s.inside in omega (arith, l))
  own_moves given (Carrier x) v' s e = by x.switch refl s.1
    where
      mine : x.carrier ≡ k.number
      mine = let q = s.0 in omega (arith, q)

      by : (o : Option Switch) → x.switch ≡ o → ShowsOwn o (w.own x.carrier) →
          IsMoved w (rules.taken_own w k.number (has_switch (w.own k.number).stage)) k (carriers.own_taken k (Carrier x))
          (own_context k) v' (Some k.number)
      by None q h =
          moved_as (own_context k) (Some k.number) world (sym carrier)
          (value_is (sym (ap (λ (z : CarrierSeen). z.hand) carrier) ∙ e)) (begun_moves given x mine)
        where
          carrier : carriers.own_taken k (Carrier x) ≡ carriers.switch_begun k (Carrier x)
          carrier =
              ap (λ o. if is_some o then carriers.in_hand k (own_context k) (Carrier x) else carriers.switch_begun k
              (Carrier x)) q

          stage : has_switch (w.own k.number).stage ≡ false
          stage = ap (λ c. has_switch (w.own c).stage) (sym mine) ∙ ap has_switch h

          world : rules.begun_with w k.number (first_start k.starts) ≡
              rules.taken_own w k.number (has_switch (w.own k.number).stage)
          world =
              ap (λ (c : tokens.Carrier). rules.begun_with w k.number (lowest c.starts 64)) (sym viewed)
              ∙ ap (rules.taken_own w k.number) (sym stage)
      by (Some p) q h =
          moved_as (own_context k) (Some k.number) world (sym carrier)
          (value_is (sym (ap (λ (z : CarrierSeen). z.hand) carrier) ∙ e))
          (as_it_is (own_context k) (Carrier x) (OfCarrier k.number) (name_beyond k.table k.number) s)
        where
          carrier : carriers.own_taken k (Carrier x) ≡ carriers.in_hand k (own_context k) (Carrier x)
          carrier =
              ap (λ o. if is_some o then carriers.in_hand k (own_context k) (Carrier x) else carriers.switch_begun k
              (Carrier x)) q

          stage : has_switch (w.own k.number).stage ≡ true
          stage = ap (λ c. has_switch (w.own c).stage) (sym mine) ∙ ap has_switch h.stage ∙ has_stage (at_of p.location)

          world : rules.taken_as_it_is w k.number (OfCarrier k.number) ≡
              rules.taken_own w k.number (has_switch (w.own k.number).stage)
          world = ap (rules.taken_own w k.number) (sym stage)

  -- THE GOAL'S

  -- neither asleep nor dead
  pub record IsUp (a : Activity) : Type 0 where
    pub awake : activities.is_asleep a ≡ false
    pub alive : activities.is_dead a ≡ false
    pub same : (n : ℕ) → rules.taken_goal w k.number n (condition_of a) ≡ rules.taken_as_it_is w k.number (OfThread n)

  sort : (a : Activity) → (a ≡ activity.Alone location.Asleep) ⊎ (a ≡ activity.Alone location.Dead) ⊎ IsUp a
  sort (activity.Alone location.Asleep) = inl refl
  sort (activity.Alone location.Dead) = inr (inl refl)
  sort (activity.Alone location.Ended) = inr (inr (record { awake = refl; alive = refl; same = λ n. refl }))
  sort (activity.Alone (location.Between r)) = inr (inr (record { awake = refl; alive = refl; same = λ n. refl }))
  sort (activity.Alone location.FallAsleep) = inr (inr (record { awake = refl; alive = refl; same = λ n. refl }))
  sort (activity.Alone location.LookAgain) = inr (inr (record { awake = refl; alive = refl; same = λ n. refl }))
  sort (activity.Alone (location.LoadMail id)) = inr (inr (record { awake = refl; alive = refl; same = λ n. refl }))
  sort (activity.Alone (location.Work count)) = inr (inr (record { awake = refl; alive = refl; same = λ n. refl }))
  sort (activity.Alone location.CommitEnd) = inr (inr (record { awake = refl; alive = refl; same = λ n. refl }))
  sort (activity.Send s) = inr (inr (record { awake = refl; alive = refl; same = λ n. refl }))
  sort (activity.Receive s) = inr (inr (record { awake = refl; alive = refl; same = λ n. refl }))
  sort (activity.Create s) = inr (inr (record { awake = refl; alive = refl; same = λ n. refl }))
  sort (activity.Destroy s) = inr (inr (record { awake = refl; alive = refl; same = λ n. refl }))

  module _ (g : Goal) (small : g.id.number < k.table) where
    abbrev N : ℕ
    N = g.id.number

    named : name_of k.table N ≡ OfThread N
    named = name_inside k.table N small

    -- what is taken, by its two tests
    abbrev Taken : ThreadSeen → Bool → Bool → CarrierSeen
    Taken t a d =
        record (carriers.in_hand k N (Thread (if a then record t {
          activity =
              activity.Alone location.LookAgain;
        } else t))) { goal = if d then None else k.goal }

    asleep_moves : (t : ThreadSeen) → t.activity ≡ activity.Alone location.Asleep → ShowsThread w.threads k.table N t →
        IsMoved w (rules.taken_asleep w k.number N) k (carriers.in_hand k N
        (Thread (record t { activity = activity.Alone location.LookAgain }))) N
        (Thread (record t { activity = activity.Alone location.LookAgain })) (Some k.number)
    asleep_moves t e h = record {
      carrier = λ z. upd w.carrier k.number (rules.with_hand (viewed z) (sym named z));
      held = ap (λ m. held_with m (Some k.number) w.held) (sym named);
      held_own = ap (λ m. own_with m (Some k.number) w.held_own) (sym named);
      here = record {
        number = h.number;
        inside = h.inside;
        made = h.made;
        condition = upd_same w.threads.condition N tokens.Awake;
        locks = h.locks ∙ (λ z. held_of (activities.locks_of (e z)));
      };
      others = others;
      lists = refl;
      running = refl;
      ready = refl;
      unmade = refl;
      carriers = refl;
    }
      where
        others : (i : ℕ) (u : ContextSeen) → i ≢ N → ShowsContext w k.table i u →
            ShowsContext (rules.taken_asleep w k.number N) k.table i u
        others i (Thread y) ne q = record {
          number = q.number;
          inside = q.inside;
          made = q.made;
          condition = upd_other w.threads.condition N tokens.Awake i ne ∙ q.condition;
          locks = q.locks;
        }
        others i (Carrier y) ne q = q

    dead_moves : (t : ThreadSeen) → ShowsThread w.threads k.table N t →
        IsMoved w (rules.taken_dead w k.number N) k (record (carriers.in_hand k N (Thread t)) { goal = None }) N (Thread t)
        (Some k.number)
    dead_moves t h = record {
      carrier = λ z. upd w.carrier k.number (without_goal (rules.with_hand (viewed z) (sym named z)));
      held = ap (λ m. held_with m (Some k.number) w.held) (sym named);
      held_own = ap (λ m. own_with m (Some k.number) w.held_own) (sym named);
      here = h;
      others = λ i u ne. shows_as w (rules.taken_dead w k.number N) k.table i u refl refl;
      lists = refl;
      running = refl;
      ready = refl;
      unmade = refl;
      carriers = refl;
    }

    pub goal_moves : (v v' : ContextSeen) → ShowsContext w k.table N v →
        (carriers.goal_taken k g v).hand ≡ Some (record { context = N; value = v' }) →
        IsMoved w (rules.taken_goal w k.number N (w.threads.condition N)) k (carriers.goal_taken k g v) N v' (Some k.number)
    goal_moves (Carrier x) v' s e = absurd (let q = s.0 in omega (arith, q, small))
    goal_moves (Thread t) v' s e = elim (sort t.activity) [
      | inl q ↦
          moved_as N (Some k.number) (ap (rules.taken_goal w k.number N) (sym (s.condition ∙ ap condition_of q)))
          (sym (as_asleep q)) (value_is (sym (ap (λ (z : CarrierSeen). z.hand) (as_asleep q)) ∙ e)) (asleep_moves t q s)
      | inr (inl q) ↦
          moved_as N (Some k.number) (ap (rules.taken_goal w k.number N) (sym (s.condition ∙ ap condition_of q)))
          (sym (as_dead q)) (value_is (sym (ap (λ (z : CarrierSeen). z.hand) (as_dead q)) ∙ e)) (dead_moves t s)
      | inr (inr q) ↦
          moved_as N (Some k.number) (sym (q.same N) ∙ ap (rules.taken_goal w k.number N) (sym s.condition)) (sym (as_up q))
          (value_is (sym (ap (λ (z : CarrierSeen). z.hand) (as_up q)) ∙ e)) (as_it_is N (Thread t) (OfThread N) named s)
    ]
      where
        as_asleep : t.activity ≡ activity.Alone location.Asleep →
            carriers.goal_taken k g (Thread t) ≡ carriers.in_hand k N
            (Thread (record t { activity = activity.Alone location.LookAgain }))
        as_asleep q = λ z. Taken t (activities.is_asleep (q z)) (activities.is_dead (q z))

        as_dead : t.activity ≡ activity.Alone location.Dead →
            carriers.goal_taken k g (Thread t) ≡ record (carriers.in_hand k N (Thread t)) { goal = None }
        as_dead q = λ z. Taken t (activities.is_asleep (q z)) (activities.is_dead (q z))

        as_up : IsUp t.activity → carriers.goal_taken k g (Thread t) ≡ carriers.in_hand k N (Thread t)
        as_up q = λ z. Taken t (q.awake z) (q.alive z)

  -- ANY TAKE
  pub take_moves : (given : IsGiven k) (n : ℕ) (tg : Target) → target_with k.help k.switching k.goal ≡ tg → context_at k tg ≡ n →
      (v v' : ContextSeen) → ShowsContext w k.table n v → (carriers.after_take k tg v).hand ≡
      Some (record { context = n; value = v' }) → IsMoved w (rules.taken w k.number (target_in k.table tg)) k
      (carriers.after_take k tg v) n v' (Some k.number)
  take_moves given n tg is at v v' =
      subst (λ m. ShowsContext w k.table m v → (carriers.after_take k tg v).hand ≡ Some (record { context = m; value = v' }) →
      IsMoved w (rules.taken w k.number (target_in k.table tg)) k (carriers.after_take k tg v) m v' (Some k.number)) at
      (by tg is)
    where
      goal_is : (p : Option Help) (s : Bool) (o : Option Goal) (g : Goal) → target_with p s o ≡ target.GoalOf g →
          IsGoalGiven k.table o → g.id.number < k.table
      goal_is (Some p) s o g e i = absurd cc
      goal_is None true o g e i = absurd cc
      goal_is None false None g e i = absurd cc
      goal_is None false (Some x) g e i = let y : x ≡ g = cc in subst (λ (z : Goal). z.id.number < k.table) y i.0

      by : (tg : Target) → target_with k.help k.switching k.goal ≡ tg → ShowsContext w k.table (context_at k tg) v →
          (carriers.after_take k tg v).hand ≡ Some (record { context = context_at k tg; value = v' }) →
          IsMoved w (rules.taken w k.number (target_in k.table tg)) k (carriers.after_take k tg v) (context_at k tg) v'
          (Some k.number)
      by (target.Helped c) i s e =
          subst (λ (x : ContextSeen). IsMoved w (rules.taken_as_it_is w k.number (name_of k.table c)) k
          (carriers.in_hand k c v) c x (Some k.number)) (value_is e) (as_it_is c v (name_of k.table c) refl s)
      by target.Own i s e = own_moves given v v' s e
      by (target.GoalOf g) i s e = goal_moves g (goal_is k.help k.switching k.goal g i given.goal) v v' s e

-- the same, of a carrier that differs in what it waits for
pub moved_asked : (w W : World) (k k' : CarrierSeen) (a : Awaits) (n : ℕ) (v : ContextSeen) (o : Option ℕ) →
    IsMoved w W (record k { awaits = a }) k' n v o → IsMoved w W k k' n v o
moved_asked w W k k' a n v o m = record {
  carrier = m.carrier;
  held = m.held;
  held_own = m.held_own;
  here = m.here;
  others = m.others;
  lists = m.lists;
  running = m.running;
  ready = m.ready;
  unmade = m.unmade;
  carriers = m.carriers;
}

pub take_is_same : (script : Script) (w : World) (k : CarrierSeen) (n bits : ℕ) (s : ThreadStep) (v v' : ContextSeen) →
    IsViewed w k → IsGiven k → ask_of k ≡ Take n bits → rules.word_of w (name_of k.table n) ≡ context_word_of bits →
    ShowsContext w k.table n v → IsInHand (carriers.resumed (asked script k) (answer.Took v)) n v' →
    IsMoved w (rules.carrier_step w k.number s) k (carriers.resumed (asked script k) (answer.Took v)) n v' (Some k.number)
take_is_same script w k n bits s v v' viewed given asks same shows hand =
    subst (λ (x : World). IsMoved w x k (carriers.resumed (asked script k) (answer.Took v)) n v' (Some k.number))
    (sym (take_won script w k n bits s viewed given asks same))
    (subst (λ (x : CarrierSeen). IsMoved w (rules.taken w k.number (target_in k.table (target_of k))) k x n v' (Some k.number))
    (sym resumes)
    (moved_asked w (rules.taken w k.number (target_in k.table (target_of k))) k
    (carriers.after_take J (target_of k) v) awaits.Nothing n v' (Some k.number)
    (take_moves w J viewed (record { goal = given.goal; starts = given.starts }) n (target_of k) refl at v v' shows
    (sym (ap (λ (x : CarrierSeen). x.hand) resumes) ∙ hand))))
  where
    J : CarrierSeen
    J = record k { awaits = awaits.Nothing }

    still : readied k ≡ k
    still = not_readied k (take_ready k n bits asks)

    at : context_at k (target_of k) ≡ n
    at = ap (λ (x : CarrierSeen). context_at x (target_of x)) (sym still) ∙ (take_asks k n bits asks).place

    resumes : carriers.resumed (asked script k) (answer.Took v) ≡ carriers.after_take J (target_of k) v
    resumes =
        ap (λ a. carriers.resumed (asked_by script k a) (answer.Took v)) asks
        ∙ ap (λ (x : CarrierSeen). carriers.after_take (record x { awaits = awaits.Nothing }) (target_of x) v) still
