use Rattle.k_switching.proofs.Booted.{boot_good}
use Rattle.k_switching.proofs.laws.a_boot_world_is_good.Goals as goal

pub returns : goal.returns
returns c = boot_good
