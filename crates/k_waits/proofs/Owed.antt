-- A step that is counted in a mark is made by the owner of one of its links, which holds what that link is for.
use Rattle.std.proofs.Common.{◌≡◌, ◌≢◌, ℕ, ◌+◌, ◌==◌, Bool, true, false, cond, refl, sym, ap, ◌∙◌, subst}
use Rattle.std.proofs.Common.{Option, Some, None, IfSome, List, [], ◌∷◌, arith, inl, inr}
use Rattle.std.specs.Prelude.{◌&&◌, ◌||◌, ◌-◌, not, is_some, nat_lt}
use Rattle.std.specs.List.{AllByRecursion, list_any}
use Rattle.std.proofs.lemmas.Bool.{cases_Bool, eq-eqb, eqb-true, ne_eqb}
use Rattle.std.proofs.lemmas.Bool.Decides.{nat_tests}
use Rattle.k_ids.specs.declared.histories.Entry.{Entry}
use Rattle.k_ids.specs.declared.threads.ThreadId.{ThreadId}
use Rattle.k_model.specs.State.{KernelState, same_id}
use Rattle.k_locks.specs.declared.locks.Lock.{Lock}
use Rattle.k_locks.specs.declared.locks.Lock.TheVariants as lock
use Rattle.k_locks.specs.declared.steps.Answer.{Answer}
use Rattle.k_locks.specs.declared.steps.Answer.TheVariants as answered
use Rattle.k_locks.specs.declared.steps.Step.{Step}
use Rattle.k_locks.specs.declared.steps.Told.{Told}
use Rattle.k_locks.specs.declared.steps.Told.TheVariants as told
use Rattle.k_locks.specs.Asks.{Want, want_for}
use Rattle.k_locks.specs.Asks as asks
use Rattle.k_script.specs.Plays.{next_of, went_on}
use Rattle.k_script.specs.Script.{Script}
use Rattle.k_script.specs.declared.registers.Next.{Next}
use Rattle.k_script.specs.declared.registers.Next.TheVariants as next
use Rattle.k_switch.specs.declared.carrier_context.CarrierContext.{CarrierContext}
use Rattle.k_switch.specs.declared.goal.Goal.{Goal}
use Rattle.k_caller.specs.declared.activity.Activity.{Activity}
use Rattle.k_caller.specs.declared.activity.Activity.TheVariants as activity
use Rattle.k_caller.specs.declared.thread.ThreadLocation.TheVariants as location
use Rattle.k_caller.specs.Activities as about
use Rattle.k_caller.specs.Threads.{ThreadSeen}
use Rattle.k_caller.specs.Threads as threads
use Rattle.k_context.specs.declared.owner.Owner.{Owner}
use Rattle.k_context.specs.declared.owner.Owner.TheVariants as owner
use Rattle.k_context.specs.Contexts.{Carrier, ContextSeen, IsSound, Thread, asked, begun, locks_of}
use Rattle.k_context.specs.Contexts.{owner_of, step_of}
use Rattle.k_carrier.specs.declared.marks.Link.{Link}
use Rattle.k_carrier.specs.declared.marks.Want as marked
use Rattle.k_carrier.specs.declared.marks.Want.TheVariants as want
use Rattle.k_carrier.specs.declared.moves.Help.{Help}
use Rattle.k_carrier.specs.Answers.{AnswerSeen}
use Rattle.k_carrier.specs.Asked.{CarrierAsk, LookAt, PutDown, Run, Take, ask_of, ask_with}
use Rattle.k_carrier.specs.Conditions.{IsHandSteady, IsOfNumber}
use Rattle.k_carrier.specs.Moves as move
use Rattle.k_carrier.specs.Rules.{gives, has_released, has_switched, helps, holds_any, holds_lock}
use Rattle.k_carrier.specs.Rules.{is_a_threads, is_goals, is_in_the_way, is_nobodys, is_own, is_put_down}
use Rattle.k_carrier.specs.Rules.{is_released, is_stopped, readied, still_holds}
use Rattle.k_carrier.specs.Running.{runner_by, runner_of}
use Rattle.k_carrier.specs.Seen.{CarrierSeen, HandSeen}
use Rattle.k_world.specs.Lawful.{links_of}
use Rattle.k_world.specs.Marks.{Onward, Still, course_by, course_of, got_by, mark_at, same_owner}
use Rattle.k_world.specs.Marks.{standing_at, still_waits}
use Rattle.k_world.specs.Owed.{CountsOwed, IsOwed, has_wanted, is_owing}
use Rattle.k_world.specs.Steps.{course_in, step_in, unbroken_waits}
use Rattle.k_world.specs.Worlds.{World, carrier_at}
use Rattle.k_world.proofs.Lists.{mapped_at}
use Rattle.k_world.proofs.Steps.{owner_self}
use Rattle.k_world.proofs.Waits.{still_other}
use Rattle.k_board.specs.Boards.{Board}
use Rattle.k_bound.specs.Hands.{live_help}
use Rattle.k_bound.specs.Waits.{OwnerFound, owner_found, same_found}
use Rattle.k_bound.proofs.Founds.{is_for-refl, same_found-true}
use Rattle.k_aligned.specs.Aligned.{AreAligned, IsAligned, found_in}
use Rattle.k_joint.proofs.Runs.{StepWith, hand_is, hand_of_run}
use Rattle.k_places.specs.Contexts.{ShowsContext}
use Rattle.k_places.specs.Memory.{memory_of}
use Rattle.k_places.proofs.Places.{held_is}
use Rattle.k_sections.specs.Situations.{holder_of}
use Rattle.k_grants.specs.Views.{name_by, name_of}
use Rattle.k_moves.specs.Views.{help_in, number_in}
use Rattle.k_tokens.specs.World as tokens
use Rattle.k_whole.specs.Whole.{WholeHolds}
use Rattle.k_waits.specs.Waits.{IsSameOwner, IsWaitingFor, WaitsHold, sections_of}
use Rattle.k_waits.specs.Words.{found_in_help, found_in_link, has_found, want_helped, want_in}
use Rattle.k_waits.proofs.Asking.{begun_inside, locks_asked}
use Rattle.k_waits.proofs.Holders.{still_holder}
use Rattle.k_waits.proofs.Published.{locks_shown}

-- THE CONTEXT THAT GOES ON

told_on : (u v : ContextSeen) (s : Step) (t : Told) → course_by u s (answered.Told t) ≡ Onward v → u ≡ v
told_on u v s (told.Owned i) e = absurd cc
told_on u v s (told.Holds i) e = absurd cc
told_on u v s (told.Taken i c) e = absurd cc
told_on u v s (told.Loaded bits) e = cc
told_on u v s told.Stored e = cc
told_on u v s told.Won e = cc
told_on u v s (told.Lost bits) e = cc
told_on u v s told.Released e = cc
told_on u v s told.Placed e = cc
told_on u v s told.Removed e = cc

pub onward_is : (u v : ContextSeen) (s : Step) (a : Answer) → course_by u s a ≡ Onward v → u ≡ v
onward_is u v s (answered.Got goods) e = cc
onward_is u v s (answered.Told t) e = told_on u v s t e

pub look_still : (o : Option HandSeen) (n : ℕ) (a : AnswerSeen) → course_of o (move.Look n) a ≡ Still
look_still None n a = refl
look_still (Some h) n a = refl

pub take_still : (o : Option HandSeen) (n old new : ℕ) (a : AnswerSeen) → course_of o (move.TakeContext n old new) a ≡ Still
take_still None n old new a = refl
take_still (Some h) n old new a = refl

next_id : (table : ℕ) (t : ThreadSeen) (n : Next) → (threads.begun_next table t n).id ≡ t.id
next_id table t (next.Phase f) = refl
next_id table t (next.Work count) = refl

begun_id : (script : Script) (t : ThreadSeen) (a : Activity) → (threads.begun_at script t a).id ≡ t.id
begun_id script t (activity.Alone (location.Between last)) =
    next_id script.table (record t { position = went_on t.position last }) (next_of script.version t.position last)
begun_id script t a = refl

pub owner_asked : (script : Script) (v : ContextSeen) → owner_of (asked (begun script v)) ≡ owner_of v
owner_asked script (Thread t) = ap owner.Thread (begun_id script t t.activity)
owner_asked script (Carrier k) = refl

-- WHY THE HAND ISN'T GIVEN BACK

parts : (p s r w n t : Bool) → (((((p || s) || r) || w) || n) || t) ≡ false → (r ≡ false) × (w ≡ false) × (n ≡ false)
parts false false false false false t e = (refl, refl, refl)
parts true s r w n t e = absurd cc
parts false true r w n t e = absurd cc
parts false false true w n t e = absurd cc
parts false false false true n t e = absurd cc
parts false false false false true t e = absurd cc

kept_hand : (k : CarrierSeen) (x h : HandSeen) (q : Bool) → gives k x ≡ q →
    ask_with k (Some x) ≡ Run h → gives k x ≡ false
kept_hand k x h false e r = e
kept_hand k x h true e r = let no : PutDown x ≡ Run h = sym (rw e refl) ∙ r in absurd cc

-- LISTS

pub any_held : (l : Lock) (ls : List (Option Lock)) → holds_lock l ls ≡ true → holds_any ls ≡ true
any_held l [] e = absurd cc
any_held l (Some k ∷ ls) e = refl
any_held l (None ∷ ls) e = any_held l ls e

pub still_any : (o : Option Lock) (ls : List (Option Lock)) → still_holds o ls ≡ true → holds_any ls ≡ true
still_any (Some l) ls e = any_held l ls e
still_any None ls e = e

pub lock_is : (l k : Lock) → want_for l ≡ want_for k → l ≡ k
lock_is lock.Table lock.Table e = refl
lock_is lock.Ready lock.Ready e = refl
lock_is (lock.Thread m) (lock.Thread n) e = let q : m ≡ n = cc in ap lock.Thread q
lock_is lock.Table lock.Ready e = absurd cc
lock_is lock.Table (lock.Thread n) e = absurd cc
lock_is lock.Ready lock.Table e = absurd cc
lock_is lock.Ready (lock.Thread n) e = absurd cc
lock_is (lock.Thread m) lock.Table e = absurd cc
lock_is (lock.Thread m) lock.Ready e = absurd cc

no_context : (l : Lock) (n : ℕ) → want_for l ≡ asks.Context n → ⊥
no_context lock.Table n e = absurd cc
no_context lock.Ready n e = absurd cc
no_context (lock.Thread m) n e = absurd cc

-- who holds what it is helped for has what a link of that want is for
wanted_held : (u : ContextSeen) (n : ℕ) (o : Option Lock) (wanted : marked.Want) → want_helped n o ≡ want_in wanted →
    still_holds o (locks_of u) ≡ true → has_wanted u wanted ≡ true
wanted_held u n (Some l) (want.Lock k) e h = subst (λ (z : Lock). still_holds (Some z) (locks_of u) ≡ true) (lock_is l k e) h
wanted_held u n (Some l) (want.Context i) e h = absurd (no_context l i e)
wanted_held u n None (want.Lock k) e h = absurd (no_context k n (sym e))
wanted_held u n None (want.Context i) e h = h

both_true : (a b : Bool) → a ≡ true → b ≡ true → (a && b) ≡ true
both_true true true x y = refl
both_true true false x y = absurd cc
both_true false b x y = absurd cc

either_first : (a b : Bool) → a ≡ true → (a || b) ≡ true
either_first true b e = refl
either_first false b e = absurd cc

either_last : (a b : Bool) → b ≡ true → (a || b) ≡ true
either_last true b e = refl
either_last false b e = e

second_is : (a b : Bool) → a ≡ false → (a || b) ≡ true → b ≡ true
second_is true b f e = absurd cc
second_is false b f e = e

module _ (script : Script) (w : World) (x : HandSeen) (u : ContextSeen) (o : Option Lock)
    (found : found_in w x.context ≡ Some x.value) (mine : owner_of u ≡ owner_of x.value) (same : locks_of u ≡ locks_of x.value)
    (held : still_holds o (locks_of x.value) ≡ true) where
  abbrev Sought : OwnerFound
  Sought = owner_found x.context (want_helped x.context o)

  owes : (link : Link) → same_found Sought (found_in_link script.table link) ≡ true → IsSameOwner script w link →
      is_owing u link ≡ true
  owes link e own =
      let t = same_found-true Sought (found_in_link script.table link) e in
      let is : owner_of x.value ≡ link.owner =
      own x.value (ap (found_in w) (sym t.0) ∙ found) (still_any o (locks_of x.value) held) in
      both_true (same_owner (owner_of u) link.owner) (has_wanted u link.wants)
      (ap (same_owner (owner_of u)) (sym is ∙ sym mine) ∙ owner_self (owner_of u))
      (wanted_held u x.context o link.wants t.1 (ap (still_holds o) same ∙ held))

  pub owing : (links : List Link) → has_found script.table Sought links ≡ true →
      AllByRecursion (IsSameOwner script w) links → list_any (is_owing u) links ≡ true
  owing [] e all = absurd cc
  owing (link ∷ links) e all = elim (cases_Bool (same_found Sought (found_in_link script.table link))) [
    | inl t ↦ either_first (is_owing u link) (list_any (is_owing u) links) (owes link t all.0)
    | inr f ↦
        either_last (is_owing u link) (list_any (is_owing u) links)
        (owing links (second_is _ (has_found script.table Sought links) f e) all.1)
  ]

-- WHO IS IN THE HAND

pub not_not : (q : Bool) → not q ≡ false → q ≡ true
not_not true e = refl
not_not false e = absurd cc

goal_by : (g : Option Goal) (id : ThreadId) → ((true && not false) && not (is_goals g (owner.Thread id))) ≡ false →
    (z : Goal) × (g ≡ Some z) × (same_id z.id id ≡ true)
goal_by None id e = absurd cc
goal_by (Some g) id e = (g, refl, not_not (same_id g.id id) e)

name_carrier : (size z : ℕ) → name_of size (size + z) ≡ tokens.OfCarrier z
name_carrier size z =
    let below : nat_lt (size + z) size ≡ false = grind (arith, nat_tests) in
    let left : (size + z) - size ≡ z = omega arith in
    rw below (ap tokens.OfCarrier left)

module _ (script : Script) (w : World) (b : Board) (view : tokens.World) (entries : List Entry) (state : KernelState)
    (aligned : AreAligned script w b view) (whole : WholeHolds script b view entries state) (h : WaitsHold script w) where
  abbrev K : CarrierSeen
  K = carrier_at w 0

  al : IsAligned script 0 K view
  al = aligned.carriers 0 (let c = h.carriers in omega (arith, c))

  module _ (x : HandSeen) (e : ask_of K ≡ Run x) where
    hand : K.hand ≡ Some x
    hand = hand_of_run K x e

    kept : gives K x ≡ false
    kept = kept_hand K x x (gives K x) refl (ap (ask_with K) (sym hand) ∙ e)

    pub why : (is_released K x ≡ false) × (is_in_the_way K x ≡ false) × (is_nobodys K x ≡ false)
    why = parts (is_put_down K) (has_switched K x) (is_released K x) (is_in_the_way K x) (is_nobodys K x) (is_stopped K x) kept

    pub found : found_in w x.context ≡ Some x.value
    found =
        held_is (memory_of w).context (memory_of w).slot (memory_of w).hand 0 x aligned.shows.shows.places
        (hand_is w 0 ∙ hand)

    pub number : IsOfNumber script.table x.context x.value
    number = (aligned.contexts x.context x.value found).0

    pub steady : IsHandSteady K x
    steady = subst (λ (o : Option HandSeen). IfSome o (IsHandSteady K)) hand al.sound.steady

    thread_apart : (t : ThreadSeen) → x.value ≡ Thread t → is_own K x ≡ false
    thread_apart t is =
        let n = subst (IsOfNumber script.table x.context) is number in
        let inside = (subst (IsSound script) is (aligned.contexts x.context x.value found).1).inside in
        let table = al.sound.table in
        ne_eqb x.context (K.table + K.number) (λ q. absurd (omega (arith, n, inside, table, q)))

    -- where it helps nobody, it makes the step for whom it works
    thread_works : (t : ThreadSeen) → x.value ≡ Thread t → K.help ≡ None → (s : Bool) → K.switching ≡ s →
        same_owner (runner_of K) (owner.Thread t.id) ≡ true
    thread_works t is none true sw =
        let own = thread_apart t is in
        let no : false ≡ true = (λ d. sym own d || is_some (sym none d)) ∙ steady.1 sw in absurd cc
    thread_works t is none false sw =
        let plain : ((true && not false) && not (is_goals K.goal (owner.Thread t.id))) ≡ is_nobodys K x =
        (λ d. (is_a_threads (owner_of (sym is d)) && not (helps (sym none d) x.context))
        && not (is_goals K.goal (owner_of (sym is d)))) in
        let g = goal_by K.goal t.id (plain ∙ why.2) in
        (λ d. same_owner (runner_by (sw d) K.number (g.1 d)) (owner.Thread t.id)) ∙ g.2

    carrier_works : (z : CarrierContext) → x.value ≡ Carrier z → K.help ≡ None → (q : Bool) → is_own K x ≡ q →
        same_owner (runner_of K) (owner.Carrier z.carrier) ≡ true
    carrier_works z is none true own =
        let n = subst (IsOfNumber script.table x.context) is number in
        let at = eqb-true x.context (K.table + K.number) own in
        let table = al.sound.table in
        let same : K.number ≡ z.carrier = omega (arith, n, at, table) in
        (λ d. same_owner (runner_by (steady.0 own d) K.number K.goal) (owner.Carrier z.carrier))
        ∙ eq-eqb K.number z.carrier same
    carrier_works z is none false own =
        let n = subst (IsOfNumber script.table x.context) is number in
        let table = al.sound.table in
        let at : x.context ≡ K.table + z.carrier = omega (arith, n, table) in
        let hand_viewed : (view.carrier 0).hand ≡ Some (tokens.OfCarrier z.carrier) =
        ap (λ k. k.hand) al.viewed ∙ ap (λ o. name_by K.table (number_in o)) hand
        ∙ ap (λ i. Some (name_of K.table i)) at ∙ ap Some (name_carrier K.table z.carrier) in
        let other : z.carrier ≢ 0 = λ q. apart n table own q in
        let helped = (whole.pair.world.1.carriers 0).foreign z.carrier hand_viewed other in
        let no : false ≡ true = sym (ap (λ k. is_some k.help) al.viewed ∙ ap (λ o. is_some (help_in K.table o)) none) ∙ helped in
        absurd cc
      where
        apart : script.table + z.carrier ≡ x.context → K.table ≡ script.table → is_own K x ≡ false → z.carrier ≡ 0 → ⊥
        apart n table own q =
            let mine = al.number in
            let at : x.context ≡ K.table + K.number = omega (arith, n, table, q, mine) in
            let no : true ≡ false = sym (eq-eqb x.context (K.table + K.number) at) ∙ own in absurd cc

    pub works : K.help ≡ None → same_owner (runner_of K) (owner_of x.value) ≡ true
    works none = by x.value refl
      where
        by : (v : ContextSeen) → x.value ≡ v → same_owner (runner_of K) (owner_of v) ≡ true
        by (Thread t) is = thread_works t is none K.switching refl
        by (Carrier z) is = carrier_works z is none (is_own K x) refl

    -- WHOM IT HELPS

    pub helped_is : (p : Help) → K.help ≡ Some p → (p.context ≡ x.context) × (still_holds p.lock (locks_of x.value) ≡ true)
    helped_is p is =
        let way = (λ d. is_some (sym is d) && not (helps (sym is d) x.context)) ∙ why.1 in
        let same = not_not (p.context == x.context) way in
        let out = (λ d. has_released (sym is d) x) ∙ why.0 in
        (eqb-true p.context x.context same, still (p.context == x.context) (still_holds p.lock (locks_of x.value)) same out)
      where
        still : (q r : Bool) → q ≡ true → (q && not r) ≡ false → r ≡ true
        still true r s o = not_not r o
        still false r s o = absurd cc

    pub inside : holds_any (locks_of x.value) ≡ true → begun script x.value ≡ x.value
    inside held = begun_inside script x.value (λ last t is alone.
        let no : holds_any (locks_of x.value) ≡ false = ap (λ (v : ContextSeen). holds_any (locks_of v)) is
        ∙ ap (λ (a : Activity). holds_any (about.locks_of a)) alone in
        let bad : true ≡ false = sym held ∙ no in absurd cc)

    -- the step is owed, where the context in hand is helped and a mark stands
    owed : (k : ℕ) (o : Owner) → IsWaitingFor script w k o → (p : Help) → K.help ≡ Some p →
        IsOwed (links_of k w.waits.links) (asked (begun script x.value))
    owed k o m p is =
        let helps = helped_is p is in
        let at = m.situation.board in
        let shown = subst (λ (v : Option ContextSeen). ShowsContext (at.seen x.context).word x.context v (at.context x.context))
        found (m.shows.shows.contexts x.context) in
        let named = m.good.board.holds.proper.good.locks in
        let holder : holder_of at (want_helped x.context p.lock) ≡ Some x.context =
        still_holder at named x.context x.value p.lock
        (locks_shown (at.seen x.context).word x.context x.value (at.context x.context) shown) helps.1 in
        let f = owner_found x.context (want_helped x.context p.lock) in
        let same_help : found_in_help K.help ≡ Some f =
        ap found_in_help is ∙ ap (λ n. Some (owner_found n (want_helped n p.lock))) helps.0 in
        let live = ap (live_help (sections_of script) m.situation) same_help
        ∙ ap (λ (q : Bool). cond q (Some f) None) (is_for-refl (holder_of at (want_helped x.context p.lock)) x.context holder) in
        let st = m.sound.1 in
        let linked = st.linked x.context (want_helped x.context p.lock) (st.helps f live) in
        let shows = sym (m.shown.linked f) ∙ linked in
        owing script w x (asked (begun script x.value)) p.lock found (owner_asked script x.value)
        (locks_asked (begun script x.value) ∙ ap locks_of (inside (still_any p.lock (locks_of x.value) helps.1))) helps.1
        (links_of k w.waits.links) shows m.same

  -- the mark that goes on standing is of another requester
  stands_other : (v : ContextSeen) (k : ℕ) → standing_at (got_by (owner_of v) (unbroken_waits w)) 0 ≡ Some k →
      (standing_at (unbroken_waits w) 0 ≡ Some k) × (same_owner (mark_at w.waits.marks k).requester (owner_of v) ≡ false)
  stands_other v k q =
      let l = unbroken_waits w in
      still_other (owner_of v) l.marks (standing_at l 0) k
      (sym (mapped_at (still_waits (owner_of v) l.marks) refl l.standing 0) ∙ q)

  run_owed : (x : HandSeen) → ask_of K ≡ Run x → (v : ContextSeen) (k : ℕ) → asked (begun script x.value) ≡ v →
      standing_at (got_by (owner_of v) (unbroken_waits w)) 0 ≡ Some k → IsOwed (links_of k w.waits.links) v
  run_owed x e v k is q =
      let s = stands_other v k q in
      let m = h.waiting k s.0 in
      subst (IsOwed (links_of k w.waits.links)) is (by K.help refl)
    where
      by : (p : Option Help) → K.help ≡ p → IsOwed (links_of k w.waits.links) (asked (begun script x.value))
      by (Some p) r = let s = stands_other v k q in owed x e k (mark_at w.waits.marks k).requester (h.waiting k s.0) p r
      by None r =
          let s = stands_other v k q in
          let m = h.waiting k s.0 in
          let same : same_owner (mark_at w.waits.marks k).requester (owner_of v) ≡ true =
          (λ d. same_owner (sym m.runner d) (owner_of (sym is d))) ∙ ap (same_owner (runner_of K)) (owner_asked script x.value)
          ∙ works x e r in
          let no : true ≡ false = sym same ∙ s.1 in absurd cc

  pub counts_owed : CountsOwed script 0 w
  unfolding step_in
  counts_owed v k course mark q = by (ask_of K) refl course
    where
      by : (a : CarrierAsk) → ask_of K ≡ a → course_in (StepWith script w 0 a) ≡ Onward v → IsOwed (links_of k w.waits.links) v
      by (Run x) e c = run_owed x e v k (onward_is (asked (begun script x.value)) v (step_of (begun script x.value)) _ c) q
      by (PutDown x) e c = absurd cc
      by (LookAt n) e c = let no : Still ≡ Onward v = sym (look_still (readied K).hand n _) ∙ c in absurd cc
      by (Take n bits) e c = let no : Still ≡ Onward v = sym (take_still (readied K).hand n bits _ _) ∙ c in absurd cc
