-- The run, computed.
use Rattle.std.proofs.Common.{◌≡◌, refl, true}
use Rattle.k_model.specs.Maps.{upd}
use Rattle.k_tokens.specs.World.{is_idle}
use Rattle.k_switching.specs.Boot.{boot}
use Rattle.k_switching.specs.Trace.{moves, two_threads, first_steps, second_steps, first_moves, second_moves, halfway, finished}

pub first_is : moves 34 (boot two_threads) first_steps ≡ first_moves
unfolding upd
first_is = refl

pub second_is : moves 41 (halfway (boot two_threads)) second_steps ≡ second_moves
unfolding upd
second_is = refl

-- the last switch has found nobody to run
pub ends_idle : (is_idle ((finished (boot two_threads)).own 0) ≡ true) × ((finished (boot two_threads)).running ≡ 0)
unfolding upd
ends_idle = (refl, refl)
