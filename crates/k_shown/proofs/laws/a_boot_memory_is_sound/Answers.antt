use Rattle.k_shown.proofs.Booted.{runs_boot, shows_boot, sound_boot}
use Rattle.k_shown.proofs.laws.a_boot_memory_is_sound.Goals as goal

pub returns-clause-sound : goal.returns-clause-sound
returns-clause-sound c = sound_boot

pub returns-clause-shows : goal.returns-clause-shows
returns-clause-shows c = shows_boot

pub returns-clause-runs : goal.returns-clause-runs
returns-clause-runs c = runs_boot
