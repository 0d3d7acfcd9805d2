-- What a finished switch has come to.
use Rattle.std.specs.Prelude.{◌≡◌, ℕ, Some, IfSome}
use Rattle.k_script.specs.Script.{Script}
use Rattle.k_context.specs.Contexts.{ContextSeen, switched_of}
use Rattle.k_carrier.specs.Conditions.{IsGoalIn}
use Rattle.k_world.specs.Worlds.{World}
use Rattle.k_aligned.specs.Aligned.{found_in}

-- A finished switch, wherever its context is, has come to a thread of the table with a priority, or to none.
abbrev pub FinishedWithin : Script → World → Type 0
FinishedWithin script w = (i : ℕ) (v : ContextSeen) → found_in w i ≡ Some v →
    IfSome (switched_of v) (λ s. IfSome s.goal (IsGoalIn script.table))
