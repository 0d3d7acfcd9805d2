use Rattle.k_sections.proofs.Worked.{worked}
use Rattle.k_sections.proofs.laws.a_wait_on_a_board_is_worked_out.Goals as goal

pub returns : goal.returns
returns c = worked
