-- When the run of a script is over; and what a finished switch has come to.
use Rattle.std.specs.Prelude.{◌≡◌, ℕ, ◌+◌, true, Some, None}
use Rattle.k_model.specs.History.{IsFinished}
use Rattle.k_model.specs.State.{KernelState}
use Rattle.k_script.specs.Plays.{IsHistory}
use Rattle.k_script.specs.Script.{Script}
use Rattle.k_switch.specs.declared.goal.Switched.{Switched}
use Rattle.k_context.specs.Contexts.{ContextSeen, switched_of}
use Rattle.k_world.specs.Worlds.{World}
use Rattle.k_aligned.specs.Aligned.{found_in}

-- The history is one of the script's, whole: no thread can go on in the state that it leaves.
abbrev pub IsAtEnd : Script → World → Type 0
IsAtEnd script w = (k : KernelState) × IsFinished k × IsHistory script w.history k

-- A finished switch in the carrier's own context, wherever that is, has taken a thread, or is idle: no carrier runs one.
abbrev pub IsFreshIn : Script → World → ℕ → Type 0
IsFreshIn script w c = (v : ContextSeen) (s : Switched) → found_in w (script.table + c) ≡ Some v → switched_of v ≡ Some s →
    s.goal ≡ None → s.idle ≡ true
