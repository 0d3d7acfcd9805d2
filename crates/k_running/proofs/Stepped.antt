-- The context that holds up a carrier's step can be told of, and isn't in its hand.
use Rattle.std.proofs.Common.{◌≡◌, ℕ, ◌<◌, subst, length}
use Rattle.k_script.specs.Limits.{IsScript}
use Rattle.k_script.specs.Script.{Script}
use Rattle.k_context.specs.Contexts.{ContextSeen}
use Rattle.k_carrier.specs.declared.marks.Want.{Want}
use Rattle.k_world.specs.Marks.{HeldUp}
use Rattle.k_world.specs.Steps.{course_in, moved, step_in}
use Rattle.k_world.specs.Worlds.{World, carrier_at}
use Rattle.k_joint.proofs.Runs.{hand_of_run}
use Rattle.k_kernel.specs.Moves.{IsRunnable, IsSpelledIn}
use Rattle.k_sections.proofs.Tables.{ThreadTables}
use Rattle.k_running.specs.Running.{KernelHolds}
use Rattle.k_running.specs.Turning.{CanFind, IsElsewhere}
use Rattle.k_running.proofs.Apart.{apart}
use Rattle.k_running.proofs.Found.{can_find, elsewhere, held_up, number_small}
use Rattle.k_running.proofs.Kernel.{HasMoved}

pub found_elsewhere : (script : Script) → IsScript script → ThreadTables → (w : World) → KernelHolds script w → (c : ℕ) →
    c < length w.carriers → IsRunnable script c w → HasMoved script (moved script c w) → (v : ContextSeen) (wants : Want) (i : ℕ) →
    course_in (step_in script c w) ≡ HeldUp v wants i → CanFind script w i × IsElsewhere c w i
found_elsewhere script limits tables w h c low run after v wants i e =
    let held = held_up script w c v wants i e in
    let spelled = subst (IsSpelledIn script) held.asks run.spelled in (
      can_find script w h i (number_small script w h c low after limits.table.1 held.hand held.asks i held.tells),
      elsewhere script w h c i held.hand (hand_of_run (carrier_at w c) held.hand held.asks)
          (apart script limits tables w h c held.hand held.asks spelled i held.tells),
    )
