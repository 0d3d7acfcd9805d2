use Rattle.k_report.proofs.Chains.{all_shown}
use Rattle.k_report.proofs.laws.a_wait_shows_its_links.Goals as goal

pub returns : goal.returns
returns c = all_shown
