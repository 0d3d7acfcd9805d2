-- The steps of a thread's context, by what they do to who is on. What they do to mails and queues is left out, and so is what the
-- history gets of them. The tables of the sections have the locations.
use Rattle.std.specs.Prelude.{ℕ, ◌+◌, Bool, true, false, not, ◌&&◌, ◌||◌, List, [], ◌∷◌, ◌++◌, Option, Some, None}
use Rattle.std.specs.Prelude.{if◌then◌else◌}
use Rattle.k_ids.specs.declared.threads.ThreadId.{ThreadId}
use Rattle.k_locks.specs.declared.locks.Lock.{Lock}
use Rattle.k_model.specs.Maps.{upd}
use Rattle.k_tokens.specs.Maps.{id_at, without}
use Rattle.k_tokens.specs.World.{ContextName, OfThread, HeldLocks, no_locks, Absent, Awake, Asleep, Ended, Dead, Threads}
use Rattle.k_tokens.specs.World.{thread_of, owner_of, Carrier, World, with_threads, with_carrier, names}

pub data ThreadStep : Type 0 where
  -- a load, a store, an exchange that turns nobody on or off, or a thread's lock acquired or released
  GoesOn : (held : HeldLocks) → ThreadStep
  -- the lock is this context's; or, in a removal, the context to be removed holds a lock
  FindsOwned : (context : ContextName) → (wanted : Option Lock) → ThreadStep
  -- in a removal: a carrier has the context
  FindsTaken : ThreadStep
  -- the exchange on the word of a thread that is off: it is on, and is to be pushed
  TurnsOn : (who : ThreadId) → ThreadStep
  AcquiresReady : ThreadStep
  -- The release of the ready lock with the thread at the end of the list of this priority; in no list, where its word didn't
  -- show it there. Is that priority above the goal's?
  Pushes : (seen : Option ℕ) → (held : HeldLocks) → (above : Bool) → ThreadStep
  AcquiresTable : ThreadStep
  ReleasesTable : (held : HeldLocks) → ThreadStep
  -- the exchange on the victim's word: it is dead
  Kills : (number : ℕ) → ThreadStep
  -- the release of the ready lock with the victim in no list
  Unlists : (held : HeldLocks) → ThreadStep
  -- the victim's context is removed
  Removes : ThreadStep
  -- the context of a thread to be made is placed
  Places : (number : ℕ) → ThreadStep
  -- the exchange on the word of the number: it has a thread of this priority, which is on and is to be pushed
  Makes : (priority : ℕ) → ThreadStep
  -- the exchange on the own word of a thread that waits: it is off
  FallsAsleep : ThreadStep
  -- the exchange on the own word at the end of the program
  Ends : ThreadStep
  -- the own word was found dead, and the lock of a thread is released, if one is held
  Dies : ThreadStep

-- WHAT THEY MAKE OF THE THREADS. `me` is the number whose context makes the step.

abbrev pub holding : Threads → ℕ → HeldLocks → Threads
holding threads me held = record threads { locks = upd threads.locks me held }

abbrev pub turned_on : Threads → ℕ → ThreadId → Threads
turned_on threads me who = record threads { on = upd threads.on who.number true; push = upd threads.push me (Some who) }

abbrev pub with_ready : HeldLocks → HeldLocks
with_ready held = record held { ready = true }

abbrev pub with_table : HeldLocks → HeldLocks
with_table held = record held { table = true }

abbrev pub pushed : Threads → ℕ → HeldLocks → Threads
pushed threads me held = record threads { locks = upd threads.locks me held; push = upd threads.push me None }

abbrev pub table_acquired : Threads → ℕ → Threads
table_acquired threads me = record threads { locks = upd threads.locks me (with_table (threads.locks me)); table = Some me }

abbrev pub table_released : Threads → ℕ → HeldLocks → Threads
table_released threads me held = record threads { locks = upd threads.locks me held; table = None }

abbrev pub killed : Threads → ℕ → Threads
killed threads number = record threads {
  present = upd threads.present number false;
  on = upd threads.on number false;
  ended = upd threads.ended number false;
  victim = Some (thread_of threads number);
  listed = true;
}

abbrev pub unlisted : Threads → ℕ → HeldLocks → Threads
unlisted threads me held = record threads { locks = upd threads.locks me held; listed = false }

abbrev pub removed : Threads → ThreadId → Threads
removed threads who = record threads { condition = upd threads.condition who.number Absent; victim = None }

abbrev pub placed : Threads → ℕ → Threads
placed threads number = record threads {
  condition = upd threads.condition number Awake;
  made = upd threads.made number (threads.version number + 1);
  making = Some number;
}

-- the thread that the number has next
abbrev pub next_thread : Threads → ℕ → ThreadId
next_thread threads number = id_at number (threads.version number + 1)

abbrev pub newly_made : Threads → ℕ → ℕ → ℕ → Threads
newly_made threads me priority number = record threads {
  version = upd threads.version number (threads.version number + 1);
  present = upd threads.present number true;
  on = upd threads.on number true;
  ended = upd threads.ended number false;
  priority = upd threads.priority number priority;
  push = upd threads.push me (Some (next_thread threads number));
  making = None;
}

abbrev pub fallen_asleep : Threads → ℕ → Threads
fallen_asleep threads me = record threads { on = upd threads.on me false; condition = upd threads.condition me Asleep }

abbrev pub at_end : Threads → ℕ → Threads
at_end threads me = record threads {
  on = upd threads.on me false;
  ended = upd threads.ended me true;
  condition = upd threads.condition me Ended;
}

abbrev pub found_dead : Threads → ℕ → Threads
found_dead threads me = record threads { condition = upd threads.condition me Dead; locks = upd threads.locks me no_locks }

-- .. what a carrier's take of its goal's context makes of a sleeping one
abbrev pub awakened : Threads → ℕ → Threads
awakened threads number = record threads { condition = upd threads.condition number Awake }

-- WHAT THEY MAKE OF LISTS AND CARRIERS

-- to the end of the list
abbrev pub listed_by : (ℕ → List ThreadId) → Option ThreadId → Option ℕ → ℕ → List ThreadId
listed_by lists (Some who) (Some priority) = upd lists priority (lists priority ++ who ∷ [])
listed_by lists (Some who) None = lists
listed_by lists None seen = lists

abbrev pub unlisted_by : (ℕ → List ThreadId) → Option ThreadId → ℕ → List ThreadId
unlisted_by lists None = lists
unlisted_by lists (Some who) = λ priority. without who (lists priority)

abbrev pub removed_by : Threads → Option ThreadId → Threads
removed_by threads None = threads
removed_by threads (Some who) = removed threads who

abbrev pub made_by : Threads → ℕ → ℕ → Option ℕ → Threads
made_by threads me priority None = threads
made_by threads me priority (Some number) = newly_made threads me priority number

abbrev pub without_goal : Carrier → Carrier
without_goal carrier = record carrier { goal = None }

abbrev pub without_goal_if : Bool → Carrier → Carrier
without_goal_if gone carrier = record carrier { goal = if gone then None else carrier.goal }

abbrev pub helping : Carrier → ContextName → Option Lock → Carrier
helping carrier context wanted = record carrier { help = Some (record { context = context; lock = wanted }) }

-- A carrier that isn't switching gets to know of a thread above its goal.
abbrev pub rescheduled : Carrier → Bool → Carrier
rescheduled carrier above = record carrier { resched = carrier.resched || (above && not carrier.switching) }

-- THE STEP of the context of number `me`, in the hand of carrier `c`

-- the ready lock is acquired
abbrev pub got_ready : World → ℕ → World
got_ready w me = record w {
  threads = holding w.threads me (with_ready (w.threads.locks me));
  ready_owner = Some (OfThread me);
}

-- .. or released by a push, with these lists
abbrev pub put_in : World → ℕ → ℕ → (ℕ → List ThreadId) → HeldLocks → Bool → World
put_in w c me lists held above = record w {
  threads = pushed w.threads me held;
  ready_owner = None;
  lists = lists;
  carrier = upd w.carrier c (rescheduled (w.carrier c) above);
}

-- .. or released with the victim in no list
abbrev pub taken_out : World → ℕ → (ℕ → List ThreadId) → HeldLocks → World
taken_out w me lists held = record w { threads = unlisted w.threads me held; ready_owner = None; lists = lists }

-- the carrier's thread is off, or was found dead
abbrev pub left : World → ℕ → Threads → Carrier → World
left w c threads carrier = record w { threads = threads; carrier = upd w.carrier c carrier }

abbrev pub after_step : World → ℕ → ℕ → ThreadStep → World
after_step w c me (GoesOn held) = with_threads w (holding w.threads me held)
after_step w c me (FindsOwned context wanted) = with_carrier w c (helping (w.carrier c) context wanted)
after_step w c me FindsTaken = w
after_step w c me (TurnsOn who) = with_threads w (turned_on w.threads me who)
after_step w c me AcquiresReady = got_ready w me
after_step w c me (Pushes seen held above) = put_in w c me (listed_by w.lists (w.threads.push me) seen) held above
after_step w c me AcquiresTable = with_threads w (table_acquired w.threads me)
after_step w c me (ReleasesTable held) = with_threads w (table_released w.threads me held)
after_step w c me (Kills number) = with_threads w (killed w.threads number)
after_step w c me (Unlists held) = taken_out w me (unlisted_by w.lists w.threads.victim) held
after_step w c me Removes = with_threads w (removed_by w.threads w.threads.victim)
after_step w c me (Places number) = with_threads w (placed w.threads number)
after_step w c me (Makes priority) = with_threads w (made_by w.threads me priority w.threads.making)
after_step w c me FallsAsleep = left w c (fallen_asleep w.threads me) (without_goal (w.carrier c))
after_step w c me Ends = left w c (at_end w.threads me) (without_goal (w.carrier c))
after_step w c me Dies =
    left w c (found_dead w.threads me) (without_goal_if (names (w.carrier c).goal (owner_of w.threads me)) (w.carrier c))
