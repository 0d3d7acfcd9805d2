-- A run worked out by hand: one carrier and two threads. The first waits for a message, the second calls it and falls asleep
-- behind its answer, and so on, up to the switch that finds nobody to run.
use Rattle.std.specs.Prelude.{ℕ, zero, suc, ◌==◌, Bool, true, false, List, [], ◌∷◌, ◌++◌, Option, Some, None, replicate}
use Rattle.std.specs.Prelude.{if◌then◌else◌}
use Rattle.k_ids.specs.declared.context_word.ContextWord.{ContextWord}
use Rattle.k_locks.specs.declared.locks.Lock.TheVariants as lock
use Rattle.k_tokens.specs.Maps.{id_at}
use Rattle.k_tokens.specs.World.{ContextName, OfThread, OfCarrier, no_locks, World}
use Rattle.k_tokens.specs.Steps.{ThreadStep, GoesOn, FindsOwned, FindsTaken, TurnsOn, AcquiresReady, Pushes, FallsAsleep, Ends}
use Rattle.k_switching.specs.Rules.{gives, begins, beginning, target_of, context_at, carrier_step}
use Rattle.k_switching.specs.Boot.{Opening}

-- what a carrier does next
pub data Move : Type 0 where
  Looks : (context : ContextName) → Move
  Takes : (context : ContextName) → Move
  Steps : (context : ContextName) → Move
  Gives : (context : ContextName) → Move

abbrev pub move_with : ContextName → Bool → Move
move_with context true = Gives context
move_with context false = Steps context

abbrev pub move_to : ContextName → Option ContextWord → Move
move_to context None = Looks context
move_to context (Some word) = Takes context

abbrev pub free_move : World → ℕ → Move
free_move w c = move_to (context_at c (target_of (w.carrier c))) (w.carrier c).looked

abbrev pub move_by : World → ℕ → Option ContextName → Move
move_by w c (Some context) = move_with context (gives w c (w.carrier c) context)
move_by w c None = free_move (beginning w c (begins (w.carrier c))) c

-- the first carrier's next move
abbrev pub move_of : World → Move
move_of w = move_by w 0 (w.carrier 0).hand

-- The threads' steps that are left, and the step of this move. Where no thread's context makes it, any will do.
abbrev pub step_for : Move → List ThreadStep → ThreadStep
step_for (Steps (OfThread t)) (step ∷ more) = step
step_for move more = FindsTaken

abbrev pub left_for : Move → List ThreadStep → List ThreadStep
left_for (Steps (OfThread t)) (step ∷ more) = more
left_for move more = more

-- so many moves, with these steps of threads in them
abbrev pub moves : ℕ → World → List ThreadStep → List Move
moves zero w more = []
moves (suc n) w more = move_of w ∷ moves n (carrier_step w 0 (step_for (move_of w) more)) (left_for (move_of w) more)

abbrev pub after : ℕ → World → List ThreadStep → World
after zero w more = w
after (suc n) w more = after n (carrier_step w 0 (step_for (move_of w) more)) (left_for (move_of w) more)

-- THE RUN

abbrev pub two_threads : Opening
two_threads = record {
  threads = 2;
  carriers = 1;
  priority = λ t. if t == 0 then 10 else 20;
  late = λ t. false;
  aged = λ t. 0;
}

-- a step while the lock of this number's thread is held, and after it was released
abbrev pub locked : ℕ → ThreadStep
locked t = GoesOn (record { table = false; thread = Some t; ready = false })

abbrev pub free : ThreadStep
free = GoesOn no_locks

-- Thread 1 waits, and falls asleep. Thread 0 sends to it, turns it on and pushes it: that interrupts.
abbrev pub first_steps : List ThreadStep
first_steps = locked 1 ∷ locked 1 ∷ locked 1 ∷ free ∷ FallsAsleep ∷ locked 1 ∷ locked 1 ∷ locked 1 ∷ locked 1
    ∷ TurnsOn (id_at 1 1) ∷ AcquiresReady ∷ Pushes (Some 20) (record { table = false; thread = Some 1; ready = false }) true ∷ []

-- Thread 1 has its message, answers, waits anew, and finds its lock owned: thread 0 is run until it releases it. Then thread 1
-- waits and falls asleep, and thread 0 ends.
abbrev pub second_steps : List ThreadStep
second_steps = free ∷ free ∷ locked 0 ∷ locked 0 ∷ locked 0 ∷ locked 0 ∷ locked 0 ∷ free
    ∷ FindsOwned (OfThread 0) (Some (lock.Thread 1)) ∷ free ∷ locked 1 ∷ locked 1 ∷ locked 1 ∷ free ∷ FallsAsleep ∷ free ∷ free
    ∷ free ∷ Ends ∷ []

-- a context is looked at and taken, makes so many steps, and is given back
abbrev pub visit : ContextName → ℕ → List Move
visit context n = Looks context ∷ Takes context ∷ replicate n (Steps context) ++ Gives context ∷ []

abbrev pub first_moves : List Move
first_moves = visit (OfCarrier 0) 2 ++ visit (OfThread 1) 5 ++ visit (OfCarrier 0) 2 ++ visit (OfThread 0) 7
    ++ visit (OfCarrier 0) 3

abbrev pub second_moves : List Move
second_moves = visit (OfThread 1) 9 ++ visit (OfThread 0) 1 ++ visit (OfThread 1) 5 ++ visit (OfCarrier 0) 2
    ++ visit (OfThread 0) 4 ++ visit (OfCarrier 0) 2

-- the world between the two halves, and the one before the last give
abbrev pub halfway : World → World
halfway w = after 34 w first_steps

abbrev pub finished : World → World
finished w = after 40 (halfway w) second_steps
