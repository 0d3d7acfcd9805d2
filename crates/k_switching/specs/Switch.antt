-- A switch: the steps by which a carrier's own context gives the processor to the thread that is to go on. It runs under the
-- ready lock. Its last step is the release, with which lists, `running` and the carrier's goal change at once.
use Rattle.std.specs.Prelude.{ℕ, zero, suc, ◌+◌, ◌-◌, ◌==◌, Bool, true, false, ◌&&◌, List, [], ◌∷◌, ◌++◌, Option, Some, None}
use Rattle.std.specs.Prelude.{is_some, if◌then◌else◌}
use Rattle.k_ids.specs.declared.threads.ThreadId.{ThreadId}
use Rattle.k_locks.specs.declared.locks.Lock.TheVariants as lock
use Rattle.k_model.specs.Maps.{upd}
use Rattle.k_tokens.specs.Maps.{id_at, is_filled, one_if}
use Rattle.k_tokens.specs.World.{ContextName, OfCarrier, Threads, is_present, Stage, NoSwitch, AcquireReady, LoadGoal}
use Rattle.k_tokens.specs.World.{LoadStart, ReleaseReady, Finished, OwnContext, World, with_carrier}
use Rattle.k_tokens.specs.Steps.{helping}

abbrev pub with_own : World → ℕ → OwnContext → World
with_own w c own = record w { own = upd w.own c own }

-- UP TO THE RELEASE

abbrev pub first_thread : ℕ → ThreadId
first_thread number = id_at number 1

abbrev pub to_start : OwnContext → Stage
to_start own = if is_some own.start then LoadStart else ReleaseReady

abbrev pub to_goal : OwnContext → Stage
to_goal own = if is_some own.goal then LoadGoal else to_start own

-- what a load of a thread's word shows: its priority, where it is there and on
abbrev pub shown_on : Threads → ThreadId → Option ℕ
shown_on threads who = if is_present threads who && threads.on who.number then Some (threads.priority who.number) else None

abbrev pub goal_shown : Threads → Option ThreadId → Option ℕ
goal_shown threads None = None
goal_shown threads (Some who) = shown_on threads who

abbrev pub start_shown : Threads → Option ℕ → Option ℕ
start_shown threads None = None
start_shown threads (Some number) = shown_on threads (first_thread number)

abbrev pub got_lists : OwnContext → OwnContext
got_lists own = record own { stage = to_goal own }

abbrev pub saw_goal : Threads → OwnContext → OwnContext
saw_goal threads own = record own { goal_seen = goal_shown threads own.goal; stage = to_start own }

abbrev pub saw_start : Threads → OwnContext → OwnContext
saw_start threads own = record own { start_seen = start_shown threads own.start; stage = ReleaseReady }

abbrev pub ready_acquired : World → ℕ → World
ready_acquired w c = record w { ready_owner = Some (OfCarrier c); own = upd w.own c (got_lists (w.own c)) }

abbrev pub goal_loaded : World → ℕ → World
goal_loaded w c = with_own w c (saw_goal w.threads (w.own c))

abbrev pub start_loaded : World → ℕ → World
start_loaded w c = with_own w c (saw_start w.threads (w.own c))

-- The lock is acquired where it is free. Else the carrier that runs the switch helps its owner.
abbrev pub acquired_by : World → ℕ → ℕ → Option ContextName → World
acquired_by w runner c None = ready_acquired w c
acquired_by w runner c (Some owner) = with_carrier w runner (helping (w.carrier runner) owner (Some lock.Ready))

-- THE RELEASE, as its changes one after the other. Before a thread is taken their order doesn't matter.

-- the thread that ran: to the front of its list, or to its end where its slice of time is over
abbrev pub put_back : (ℕ → List ThreadId) → Option ThreadId → Option ℕ → Bool → ℕ → List ThreadId
put_back lists (Some who) (Some p) ended = upd lists p (if ended then lists p ++ who ∷ [] else who ∷ lists p)
put_back lists (Some who) None ended = lists
put_back lists None seen ended = lists

-- the thread that is started: to the end of its list
abbrev pub entered : (ℕ → List ThreadId) → Option ℕ → Option ℕ → ℕ → List ThreadId
entered lists (Some number) (Some p) = upd lists p (lists p ++ first_thread number ∷ [])
entered lists (Some number) None = lists
entered lists None seen = lists

abbrev pub ready_free : World → World
ready_free w = record w { ready_owner = None }

abbrev pub goal_out : OwnContext → OwnContext
goal_out own = record own { goal = None }

abbrev pub start_out : OwnContext → OwnContext
start_out own = record own { start = None }

abbrev pub count_out : OwnContext → OwnContext
count_out own = record own { counted = false }

abbrev pub goal_put : World → ℕ → (ℕ → List ThreadId) → World
goal_put w c lists = record w { lists = lists; own = upd w.own c (goal_out (w.own c)) }

abbrev pub goal_back : World → ℕ → World
goal_back w c = goal_put w c (put_back w.lists (w.own c).goal (w.own c).goal_seen (w.own c).slice_ended)

abbrev pub start_put : World → ℕ → (ℕ → List ThreadId) → World
start_put w c lists = record w { lists = lists; own = upd w.own c (start_out (w.own c)) }

abbrev pub start_entered : World → ℕ → World
start_entered w c = start_put w c (entered w.lists (w.own c).start (w.own c).start_seen)

-- the carrier isn't counted any more
abbrev pub uncounted : World → ℕ → World
uncounted w c = record w { running = w.running - one_if (w.own c).counted; own = upd w.own c (count_out (w.own c)) }

-- the highest of the first lists that isn't empty
abbrev pub highest_filled : ℕ → (ℕ → List ThreadId) → Option ℕ
highest_filled zero lists = None
highest_filled (suc p) lists = if is_filled (lists p) then Some p else highest_filled p lists

-- a switch that has taken a thread, and one that has found none
abbrev pub finished_with : OwnContext → ThreadId → OwnContext
finished_with own who = record own { stage = Finished; goal = Some who; counted = true; idle = false }

abbrev pub finished_without : OwnContext → Bool → OwnContext
finished_without own idle = record own { stage = Finished; idle = idle }

-- the first of the list of this priority is taken
abbrev pub first_taken_of : World → ℕ → ℕ → List ThreadId → World
first_taken_of w c p [] = w
first_taken_of w c p (who ∷ more) = record w {
  lists = upd w.lists p more;
  running = w.running + 1;
  own = upd w.own c (finished_with (w.own c) who);
}

abbrev pub first_taken_by : World → ℕ → Option ℕ → World
first_taken_by w c (Some p) = first_taken_of w c p (w.lists p)
first_taken_by w c None = with_own w c (finished_without (w.own c) (w.running == 0))

abbrev pub first_taken : World → ℕ → World
first_taken w c = first_taken_by w c (highest_filled 64 w.lists)

-- the changes but for the last
abbrev pub before_take : World → ℕ → World
before_take w c = uncounted (start_entered (goal_back (ready_free w) c) c) c

abbrev pub ready_released : World → ℕ → World
ready_released w c = first_taken (before_take w c) c

-- THE STEP of the switch of carrier `c`, which carrier `runner` runs

abbrev pub switch_step : World → ℕ → ℕ → Stage → World
switch_step w runner c NoSwitch = w
switch_step w runner c AcquireReady = acquired_by w runner c w.ready_owner
switch_step w runner c LoadGoal = goal_loaded w c
switch_step w runner c LoadStart = start_loaded w c
switch_step w runner c ReleaseReady = ready_released w c
switch_step w runner c Finished = w
