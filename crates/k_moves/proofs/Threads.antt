-- A step of a thread's context: what becomes of the carrier that makes it.
use Rattle.std.proofs.Common.{◌≡◌, ℕ, ◌==◌, Bool, true, false, not, refl, sym, ap, ◌∙◌, Option, Some, None, arith}
use Rattle.std.proofs.lemmas.Bool.Decides.{nat_tests}
use Rattle.k_ids.specs.declared.threads.ThreadId.{ThreadId}
use Rattle.k_script.specs.Plays.{next_of, went_on}
use Rattle.k_script.specs.declared.registers.Next.{Next}
use Rattle.k_script.specs.declared.registers.Next.TheVariants as next
use Rattle.k_caller.specs.declared.activity.Activity.{Activity}
use Rattle.k_caller.specs.declared.activity.Activity.TheVariants as activity
use Rattle.k_caller.specs.declared.thread.ThreadLocation.TheVariants as location
use Rattle.k_caller.specs.Threads as threads
use Rattle.std.specs.Prelude.{◌&&◌, ◌||◌, if◌then◌else◌}
use Rattle.k_model.specs.Maps.{upd}
use Rattle.k_locks.specs.declared.locks.Lock.{Lock}
use Rattle.k_locks.specs.declared.steps.Answer.{Answer}
use Rattle.k_locks.specs.declared.steps.Told.{Told}
use Rattle.k_locks.specs.declared.steps.Told.TheVariants as told
use Rattle.k_script.specs.Script.{Script}
use Rattle.k_caller.specs.declared.ran.Ran.{Ran}
use Rattle.k_caller.specs.declared.ran.Ran.TheVariants as ran
use Rattle.k_caller.specs.Threads.{ThreadSeen}
use Rattle.k_switch.specs.declared.goal.Goal.{Goal}
use Rattle.k_context.specs.declared.owner.Owner.{Owner}
use Rattle.k_context.specs.declared.owner.Owner.TheVariants as owner
use Rattle.k_carrier.specs.declared.moves.Awaits.TheVariants as awaits
use Rattle.k_context.specs.Contexts.{ContextSeen, Thread, owner_of}
use Rattle.k_context.specs.Contexts as contexts
use Rattle.k_carrier.specs.Answers as answers
use Rattle.k_carrier.specs.Asked.{Run, ask_of, asked, asked_by, lock_acquired}
use Rattle.k_carrier.specs.Resumed.{goal_after, help_after, is_above, resched_after, resumed, told_in}
use Rattle.k_carrier.specs.Rules.{is_goals}
use Rattle.k_carrier.specs.Seen.{CarrierSeen}
use Rattle.k_carrier.specs.declared.moves.Help.{Help}
use Rattle.k_tokens.specs.World.{ContextName, OfThread, World, names}
use Rattle.k_tokens.specs.World as tokens
use Rattle.k_tokens.specs.Steps.{ThreadStep, GoesOn, FindsOwned, FindsTaken, TurnsOn, AcquiresReady, Pushes}
use Rattle.k_tokens.specs.Steps.{AcquiresTable, ReleasesTable, Kills, Unlists, Removes, Places, Makes, FallsAsleep}
use Rattle.k_tokens.specs.Steps.{Ends, Dies, after_step, helping, rescheduled, without_goal, without_goal_if}
use Rattle.k_switching.specs.Rules as rules
use Rattle.k_grants.specs.Views.{name_by}
use Rattle.k_moves.specs.Views.{IsViewed, ShowsThread, carrier_view, goal_in, help_in, number_in}
use Rattle.k_moves.specs.Told.{HelpsFor, IsFree, IsQuiet, IsTold, PushesFor}
use Rattle.k_moves.proofs.Names.{name_inside}
use Rattle.k_moves.proofs.Rules.{named}
use Rattle.k_moves.proofs.Gives.{hand_so, run_asks}
use Rattle.k_moves.proofs.Switches.{upd_own}

-- WHAT IS TOLD, part by part

help_free : (size : ℕ) (p : Option Help) (l : Option Lock) (t : Option Told) → IsFree t →
    help_in size (help_after p l t) ≡ help_in size p
help_free size p l None h = refl
help_free size p l (Some (told.Loaded b)) h = refl
help_free size p l (Some told.Stored) h = refl
help_free size p l (Some told.Won) h = refl
help_free size p l (Some (told.Lost b)) h = refl
help_free size p l (Some told.Released) h = refl
help_free size p l (Some told.Placed) h = refl
help_free size p l (Some told.Removed) h = refl
help_free size p l (Some (told.Taken i c)) h = refl
help_free size p l (Some (told.Owned i)) h = absurd h
help_free size p l (Some (told.Holds i)) h = absurd h

help_for : (size : ℕ) (p : Option Help) (l : Option Lock) (t : Option Told) (context : ContextName) (wanted : Option Lock) →
    HelpsFor size l t context wanted → help_in size (help_after p l t) ≡ Some (record { context = context; lock = wanted })
help_for size p l None context wanted h = absurd h
help_for size p l (Some (told.Loaded b)) context wanted h = absurd h
help_for size p l (Some told.Stored) context wanted h = absurd h
help_for size p l (Some told.Won) context wanted h = absurd h
help_for size p l (Some (told.Lost b)) context wanted h = absurd h
help_for size p l (Some told.Released) context wanted h = absurd h
help_for size p l (Some told.Placed) context wanted h = absurd h
help_for size p l (Some told.Removed) context wanted h = absurd h
help_for size p l (Some (told.Taken i c)) context wanted h = absurd h
help_for size p l (Some (told.Owned i)) context wanted h = λ z. Some (record { context = sym h.0 z; lock = sym h.1 z })
help_for size p l (Some (told.Holds i)) context wanted h = λ z. Some (record { context = sym h.0 z; lock = sym h.1 z })

goal_quiet : (goal : Option Goal) (o : Owner) (r : Ran) → IsQuiet r → goal_after goal o r ≡ goal
goal_quiet goal o ran.On h = refl
goal_quiet goal o ran.Again h = refl
goal_quiet goal o (ran.Replied s x) h = refl
goal_quiet goal o (ran.Pushed p) h = absurd h
goal_quiet goal o ran.Left h = absurd h
goal_quiet goal o ran.Dead h = absurd h

resched_quiet : (k : CarrierSeen) (r : Ran) → IsQuiet r → resched_after k r ≡ k.resched
resched_quiet k ran.On h = refl
resched_quiet k ran.Again h = refl
resched_quiet k (ran.Replied s x) h = refl
resched_quiet k (ran.Pushed p) h = absurd h
resched_quiet k ran.Left h = absurd h
resched_quiet k ran.Dead h = absurd h

-- the view of a carrier after a step of the context in its hand
abbrev pub View : CarrierSeen → Option tokens.Help → Option Goal → Bool → tokens.Carrier
View k help goal resched = record (carrier_view k) { help = help; goal = goal_in goal; resched = resched }

-- what the step makes of its view
abbrev pub carrier_after : World → ℕ → ThreadStep → tokens.Carrier → tokens.Carrier
carrier_after w me (FindsOwned context wanted) x = helping x context wanted
carrier_after w me (Pushes seen held above) x = rescheduled x above
carrier_after w me FallsAsleep x = without_goal x
carrier_after w me Ends x = without_goal x
carrier_after w me Dies x = without_goal_if (names x.goal (tokens.owner_of w.threads me)) x
carrier_after w me s x = x

-- THE CARRIER

stepped_carrier : (w : World) (c me : ℕ) (s : ThreadStep) →
    (after_step w c me s).carrier ≡ upd w.carrier c (carrier_after w me s (w.carrier c))
stepped_carrier w c me (GoesOn held) = upd_own w.carrier c (w.carrier c) refl
stepped_carrier w c me (FindsOwned context wanted) = refl
stepped_carrier w c me FindsTaken = upd_own w.carrier c (w.carrier c) refl
stepped_carrier w c me (TurnsOn who) = upd_own w.carrier c (w.carrier c) refl
stepped_carrier w c me AcquiresReady = upd_own w.carrier c (w.carrier c) refl
stepped_carrier w c me (Pushes seen held above) = refl
stepped_carrier w c me AcquiresTable = upd_own w.carrier c (w.carrier c) refl
stepped_carrier w c me (ReleasesTable held) = upd_own w.carrier c (w.carrier c) refl
stepped_carrier w c me (Kills number) = upd_own w.carrier c (w.carrier c) refl
stepped_carrier w c me (Unlists held) = upd_own w.carrier c (w.carrier c) refl
stepped_carrier w c me Removes = upd_own w.carrier c (w.carrier c) refl
stepped_carrier w c me (Places number) = upd_own w.carrier c (w.carrier c) refl
stepped_carrier w c me (Makes priority) = upd_own w.carrier c (w.carrier c) refl
stepped_carrier w c me FallsAsleep = refl
stepped_carrier w c me Ends = refl
stepped_carrier w c me Dies = refl

module _ (w : World) (k : CarrierSeen) (me : ℕ) (o : Owner) (l : Option Lock) (t : Option Told) (r : Ran)
    (same : names (goal_in k.goal) (tokens.owner_of w.threads me) ≡ is_goals k.goal o)
    (goal_is : (w.carrier k.number).goal ≡ goal_in k.goal) where
  abbrev Came : tokens.Carrier
  Came = View k (help_in k.table (help_after k.help l t)) (goal_after k.goal o r) (resched_after k r)

  quiet : IsFree t × IsQuiet r → Came ≡ carrier_view k
  quiet h = λ z. View k (help_free k.table k.help l t h.0 z) (goal_quiet k.goal o r h.1 z) (resched_quiet k r h.1 z)

  or_false : (b : Bool) → b ≡ (b || false)
  or_false true = refl
  or_false false = refl

  turned : (a b : Bool) → (not a && b) ≡ (b && not a)
  turned true true = refl
  turned true false = refl
  turned false true = refl
  turned false false = refl

  pushes : (above : Bool) → IsFree t → (r' : Ran) → r ≡ r' → PushesFor k.goal r' above →
      View k (help_in k.table (help_after k.help l t)) (goal_after k.goal o r') (resched_after k r') ≡
      rescheduled (carrier_view k) above
  pushes above f (ran.Pushed p) e h =
      λ z. View k (help_free k.table k.help l t f z) k.goal
      (k.resched || ((turned k.switching (is_above p k.goal) ∙ ap (λ (b : Bool). b && not k.switching) (sym h)) z))
  pushes above f ran.On e h =
      λ z. View k (help_free k.table k.help l t f z) k.goal
      ((or_false k.resched ∙ ap (λ (b : Bool). k.resched || (b && not k.switching)) (sym h.1)) z)
  pushes above f ran.Again e h =
      λ z. View k (help_free k.table k.help l t f z) k.goal
      ((or_false k.resched ∙ ap (λ (b : Bool). k.resched || (b && not k.switching)) (sym h.1)) z)
  pushes above f (ran.Replied s x) e h =
      λ z. View k (help_free k.table k.help l t f z) k.goal
      ((or_false k.resched ∙ ap (λ (b : Bool). k.resched || (b && not k.switching)) (sym h.1)) z)
  pushes above f ran.Left e h = absurd h.0
  pushes above f ran.Dead e h = absurd h.0

  drops : (b : Bool) → goal_in (if b then None else k.goal) ≡ (if b then None else goal_in k.goal)
  drops true = refl
  drops false = refl

  leaves : IsFree t × (r ≡ ran.Left) × ((w.carrier k.number).goal ≡ Some (tokens.owner_of w.threads me)) →
      Came ≡ without_goal (carrier_view k)
  leaves h =
      (λ z. View k (help_free k.table k.help l t h.0 z) (goal_after k.goal o (h.1 z)) (resched_after k (h.1 z)))
      ∙ (λ z. record (carrier_view k) { goal = goal_in (if gone z then None else k.goal) })
    where
      itself : (x : ThreadId) → names (Some x) x ≡ true
      itself x = λ z. eq x.number z && eq x.version z
        where
          eq : (n : ℕ) → (n == n) ≡ true
          eq n = grind (arith, nat_tests)

      gone : is_goals k.goal o ≡ true
      gone =
          sym same ∙ ap (λ g. names g (tokens.owner_of w.threads me)) (sym goal_is ∙ h.2) ∙ itself (tokens.owner_of w.threads me)

  dies : IsFree t × (r ≡ ran.Dead) → Came ≡ without_goal_if (names (goal_in k.goal) (tokens.owner_of w.threads me))
      (carrier_view k)
  dies h =
      (λ z. View k (help_free k.table k.help l t h.0 z) (goal_after k.goal o (h.1 z)) (resched_after k (h.1 z)))
      ∙ (λ z. record (carrier_view k) {
        goal = (drops (is_goals k.goal o)
            ∙ ap (λ (b : Bool). if b then None else goal_in k.goal) (sym same)) z;
      })

  pub came_to : (s : ThreadStep) → IsTold w k.number k.table me k.goal l t r s → Came ≡ carrier_after w me s (carrier_view k)
  came_to (FindsOwned context wanted) h =
      λ z. View k (help_for k.table k.help l t context wanted h.0 z) (goal_quiet k.goal o r h.1 z) (resched_quiet k r h.1 z)
  came_to (Pushes seen held above) h = pushes above h.0 r refl h.1
  came_to FallsAsleep h = leaves h
  came_to Ends h = leaves h
  came_to Dies h = dies h
  came_to (GoesOn held) h = quiet h
  came_to FindsTaken h = quiet h
  came_to (TurnsOn who) h = quiet h
  came_to AcquiresReady h = quiet h
  came_to AcquiresTable h = quiet h
  came_to (ReleasesTable held) h = quiet h
  came_to (Kills number) h = quiet h
  came_to (Unlists held) h = quiet h
  came_to Removes h = quiet h
  came_to (Places number) h = quiet h
  came_to (Makes priority) h = quiet h

-- a call that begins is of the same thread
begun_is : (script : Script) (t : ThreadSeen) → (threads.begun script t).id ≡ t.id
begun_is script t = by t.activity
  where
    next_is : (u : ThreadSeen) (x : Next) → (threads.begun_next script.table u x).id ≡ u.id
    next_is u (next.Phase f) = refl
    next_is u (next.Work count) = refl

    by : (a : Activity) → (threads.begun_at script t a).id ≡ t.id
    by (activity.Alone (location.Between last)) =
        next_is (record t { position = went_on t.position last }) (next_of script.version t.position last)
    by (activity.Alone location.FallAsleep) = refl
    by (activity.Alone location.LookAgain) = refl
    by (activity.Alone (location.LoadMail id)) = refl
    by (activity.Alone (location.Work count)) = refl
    by (activity.Alone location.CommitEnd) = refl
    by (activity.Alone location.Asleep) = refl
    by (activity.Alone location.Ended) = refl
    by (activity.Alone location.Dead) = refl
    by (activity.Send s) = refl
    by (activity.Receive s) = refl
    by (activity.Create s) = refl
    by (activity.Destroy s) = refl

-- THE STEP

abbrev pub Ready : Script → ThreadSeen → ContextSeen
Ready script t = contexts.begun script (Thread t)

module _ (script : Script) (w : World) (k : CarrierSeen) (n : ℕ) (t : ThreadSeen) (s : ThreadStep) (viewed : IsViewed w k)
    (asks : ask_of k ≡ Run (record { context = n; value = Thread t })) (shows : ShowsThread w.threads k.table n t) where
  abbrev J : CarrierSeen
  J =
      record k {
        hand = Some (record { context = n; value = contexts.asked (Ready script t) });
        awaits = awaits.Step (lock_acquired (contexts.step_of (Ready script t)));
      }

  pub thread_steps : rules.carrier_step w k.number s ≡ after_step w k.number n s
  thread_steps =
      hand_so w k (record { context = n; value = Thread t }) s false viewed
      (run_asks k (record { context = n; value = Thread t }) asks) shows
      ∙ ap (λ nm. rules.context_step w k.number nm s) (name_inside k.table n shows.inside)

  view_is : carrier_view J ≡ w.carrier k.number
  view_is =
      (λ z. record (carrier_view k) {
        hand = name_by k.table
            (number_in (sym (run_asks k (record { context = n; value = Thread t }) asks).hand z));
      }) ∙ sym viewed

  names_same : names (goal_in k.goal) (tokens.owner_of w.threads n) ≡ is_goals k.goal (owner.Thread (threads.begun script t).id)
  names_same =
      named w k.table k.goal n (threads.begun script t) (ap (λ (x : ThreadId). x.number) (begun_is script t) ∙ shows.number)
      (shows.made ∙ sym (ap (λ (x : ThreadId). x.version) (begun_is script t)))

  pub thread_carrier : (a : Answer) → IsTold w k.number k.table n k.goal (lock_acquired (contexts.step_of (Ready script t)))
      (told_in a) (contexts.ran_of (contexts.asked (Ready script t)) a) s →
      (after_step w k.number n s).carrier ≡ upd w.carrier k.number (carrier_view (resumed (asked script k) (answers.Section a)))
  thread_carrier a told =
      stepped_carrier w k.number n s ∙ ap (upd w.carrier k.number)
      (ap (carrier_after w n s) (sym view_is) ∙ sym (came_to w J n (owner.Thread (threads.begun script t).id)
      (lock_acquired (contexts.step_of (Ready script t))) (told_in a)
      (contexts.ran_of (contexts.asked (Ready script t)) a) names_same (ap (λ (c : tokens.Carrier). c.goal) viewed) s told)
      ∙ sym (ap (λ x. carrier_view (resumed (asked_by script k x) (answers.Section a))) asks))
