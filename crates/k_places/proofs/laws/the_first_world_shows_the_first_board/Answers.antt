use Rattle.k_places.proofs.Boots.{boot_free, boot_is, boot_numbers_agree, boot_shown}
use Rattle.k_places.proofs.laws.the_first_world_shows_the_first_board.Goals as goal

pub returns-clause-shows : goal.returns-clause-shows
returns-clause-shows c = boot_shown

pub returns-clause-booted : goal.returns-clause-booted
returns-clause-booted c = boot_is

pub returns-clause-free : goal.returns-clause-free
returns-clause-free c = boot_free

pub returns-clause-numbers : goal.returns-clause-numbers
returns-clause-numbers c = boot_numbers_agree
