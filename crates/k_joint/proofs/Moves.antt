-- Any move of a carrier.
use Rattle.std.proofs.Common.{◌≡◌, ℕ, refl}
use Rattle.k_script.specs.Script.{Script}
use Rattle.k_carrier.specs.Asked.{CarrierAsk, LookAt, PutDown, Run, Take, ask_of}
use Rattle.k_world.specs.Steps.{entry_of, moved, step_in}
use Rattle.k_world.specs.Worlds.{World, carrier_at}
use Rattle.k_board.specs.Boards.{Board}
use Rattle.k_places.specs.Fits.{IsStepWithin}
use Rattle.k_joint.specs.Ready.{IsMoveReady}
use Rattle.k_joint.specs.Runs.{ShowsLater, acting}
use Rattle.k_places.specs.Shows.{ShowsBoard}
use Rattle.k_joint.proofs.Carried.{give_shown, look_shown}
use Rattle.k_joint.proofs.Grabs.{take_shown}
use Rattle.k_joint.proofs.Runs.{section_shown}

pub move_shown : (script : Script) (w : World) (c : ℕ) (b : Board) → ShowsBoard script w b → IsStepWithin w (step_in script c w) →
    IsMoveReady script c b (carrier_at w c) (ask_of (carrier_at w c)) →
    ShowsLater script b (acting (ask_of (carrier_at w c))) (entry_of w (step_in script c w)) (moved script c w)
move_shown script w c b sh within ready = by (ask_of (carrier_at w c)) refl ready
  where
    by : (a : CarrierAsk) → ask_of (carrier_at w c) ≡ a → IsMoveReady script c b (carrier_at w c) a →
        ShowsLater script b (acting a) (entry_of w (step_in script c w)) (moved script c w)
    by (Run h) e r = section_shown script w c b h sh e r within
    by (PutDown h) e r = give_shown script w c b sh within h e
    by (LookAt n) e r = look_shown script w c b sh within n n e
    by (Take n bits) e r = take_shown script w c b sh within n bits e r
