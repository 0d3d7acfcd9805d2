-- The worked wait.
use Rattle.std.proofs.Common.{◌≡◌, ℕ, refl, [], ◌∷◌}
use Rattle.k_ids.specs.declared.threads.Message.{Message}
use Rattle.k_model.specs.Maps.{upd}
use Rattle.k_script.specs.Plays.{Position}
use Rattle.k_switch.specs.declared.switch.SwitchCall.{SwitchCall}
use Rattle.k_board.specs.Words.{Programs}
use Rattle.k_board.specs.Boards.{Board}
use Rattle.k_sections.specs.Worked.{worked_end, worked_mark}

pub worked : (g : Programs) (calls : Board → ℕ → SwitchCall) (message : Message) (position : Position) →
    (worked_end g calls message position).got ≡ worked_mark ∷ []
unfolding upd
worked g calls message position = refl
