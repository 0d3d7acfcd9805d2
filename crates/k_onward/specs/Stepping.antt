-- What is known of a step of the one carrier: the kernel before it and after it.
use Rattle.std.specs.Prelude.{◌≡◌, List, length}
use Rattle.k_ids.specs.declared.histories.Entry.{Entry}
use Rattle.k_model.specs.State.{KernelState}
use Rattle.k_script.specs.Limits.{IsScript}
use Rattle.k_script.specs.Script.{Script}
use Rattle.k_carrier.specs.Asked.{Run, ask_of}
use Rattle.k_carrier.specs.Seen.{HandSeen}
use Rattle.k_world.specs.Steps.{moved, step_in}
use Rattle.k_world.specs.Worlds.{World, carrier_at}
use Rattle.k_board.specs.Boards.{Board}
use Rattle.k_places.specs.Fits.{IsStepWithin}
use Rattle.k_tokens.specs.World as tokens
use Rattle.k_joint.specs.Ready.{IsReady}
use Rattle.k_aligned.specs.Aligned.{AreAligned}
use Rattle.k_whole.specs.Whole.{WholeHolds}

-- The kernel at one moment: a board that the world shows and the carriers, of which all of the whole holds.
pub record IsMoment (script : Script) (w : World) : Type 0 where
  pub board : Board
  pub view : tokens.World
  pub entries : List Entry
  pub state : KernelState
  pub aligned : AreAligned script w board view
  pub whole : WholeHolds script board view entries state

-- A step of the one carrier that there is. It has a place for all that it changes; and a context in hand can make its step.
pub record IsStepping (script : Script) (w : World) : Type 0 where
  pub limits : IsScript script
  pub one : length w.carriers ≡ 1
  pub before : IsMoment script w
  pub later : IsMoment script (moved script 0 w)
  pub within : IsStepWithin w (step_in script 0 w)
  pub ready : (x : HandSeen) → ask_of (carrier_at w 0) ≡ Run x → IsReady script before.board x.context x.value
