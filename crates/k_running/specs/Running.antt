-- What holds of the running kernel, at any moment between two moves.
use Rattle.std.specs.Prelude.{◌≡◌, length}
use Rattle.k_model.specs.State.{KernelState}
use Rattle.k_script.specs.Script.{Script}
use Rattle.k_world.specs.Lawful.{IsLawfulLog}
use Rattle.k_world.specs.Worlds.{World}
use Rattle.k_board.specs.Boards.{Board}
use Rattle.k_tokens.specs.World as tokens
use Rattle.k_aligned.specs.Aligned.{AreAligned}
use Rattle.k_whole.specs.Whole.{WholeHolds}
use Rattle.k_kernel.specs.Serials.{SerialsHold}
use Rattle.k_spelled.specs.Words.{WordsHold}
use Rattle.k_handling.specs.Handling.{HelpsWithin}
use Rattle.k_counted.specs.Marks.{MarksHold}
use Rattle.k_conditions.specs.Finished.{FinishedWithin}

-- There are a board that the raw world shows and carriers of the good world, of this moment, of which all of the whole holds. The
-- serials are within the count of entries, all words have spellings, who is helped and who is switched to are there, the logs of waits
-- are lawful, and each context has counted the marks of its steps.
pub record KernelHolds (script : Script) (w : World) : Type 0 where
  pub board : Board
  pub view : tokens.World
  pub state : KernelState
  pub aligned : AreAligned script w board view
  pub whole : WholeHolds script board view w.history state
  pub serials : SerialsHold board (length w.history)
  pub spelled : WordsHold board
  pub helps : HelpsWithin script w
  pub finished : FinishedWithin script w
  pub waits : IsLawfulLog w.waits × (length w.waits.standing ≡ length w.carriers)
  pub marks : MarksHold script w
