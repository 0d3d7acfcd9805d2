-- The marks of steps of the running world: each context that is there has counted those of its call, or of
-- its switch; and no call to come has any.
use Rattle.std.specs.Prelude.{ℕ, max, Option, Some, None}
use Rattle.k_script.specs.Script.{Script}
use Rattle.k_context.specs.Contexts.{Carrier, ContextSeen, Thread}
use Rattle.k_world.specs.Worlds.{World, context_at, state_at}
use Rattle.k_marks.specs.Brief.{IsTallied}
use Rattle.k_marks.specs.Runs.{counting_in}

-- a version, or that of the context's thread where it is a later one
abbrev pub version_with : ℕ → Option ContextSeen → ℕ
version_with version None = version
version_with version (Some (Thread t)) = max version t.id.version
version_with version (Some (Carrier k)) = version

-- The version of the last thread for which a context of this number was placed: that of the number's state
-- word, or that of the context, while its thread isn't made yet.
abbrev pub placed_version : World → ℕ → ℕ
placed_version w n = version_with (state_at w n).version (context_at w n)

-- It is said of all contexts, be they in a slot or in a carrier's hand.
abbrev pub MarksHold : Script → World → Type 0
MarksHold script w = IsTallied script.table (counting_in w (placed_version w))
