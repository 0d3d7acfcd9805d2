-- What a carrier asks for: one atomic step. It is one of the context in its hand, or one on the word of a context: a load, a
-- compare-exchange with which the context comes into its hand, or a store with which it goes back.
use Rattle.std.specs.Prelude.{ℕ, Bool, false}
use Rattle.k_script.specs.Script.{Script}
use Rattle.k_locks.specs.Steps.{suits}
use Rattle.k_locks.specs.declared.steps.Step.{Step}
use Rattle.k_locks.specs.declared.steps.Answer.{Answer}
use Rattle.k_context.specs.Contexts.{ContextSeen, seen_in}
use Rattle.k_context.specs.Contexts as contexts
use Rattle.k_carrier.specs.declared.moves.Move.{Move}
use Rattle.k_carrier.specs.declared.moves.Move.TheVariants as move

pub data MoveSeen : Type 0 where
  Section : Step → MoveSeen
  Look : (context : ℕ) → MoveSeen
  TakeContext : (context old new : ℕ) → MoveSeen
  GiveContext : (context new : ℕ) → ContextSeen → MoveSeen

abbrev pub move_in : Script → Move → MoveSeen
move_in script (move.Section step) = Section step
move_in script (move.Look context) = Look context
move_in script (move.TakeContext context old new) = TakeContext context old new
move_in script (move.GiveContext context new value) = GiveContext context new (seen_in script value)

-- the place of the thread that goes back is one of this script
abbrev pub IsMovePlaced : Script → Move → Type 0
IsMovePlaced script (move.GiveContext context new value) = contexts.IsPlaced script value
IsMovePlaced script (move.Section step) = Unit {0}
IsMovePlaced script (move.Look context) = Unit {0}
IsMovePlaced script (move.TakeContext context old new) = Unit {0}

-- whether it is a step that can have this answer
abbrev pub suits_move : MoveSeen → Answer → Bool
suits_move (Section step) a = suits step a
suits_move m a = false
