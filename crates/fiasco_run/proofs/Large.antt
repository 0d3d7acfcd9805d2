-- The scripts of the generator are short.
use Rattle.std.proofs.Common.{ℕ, ◌≤◌, arith}
use Rattle.k_script.specs.Big.{big_of}
use Rattle.k_script.specs.Weight.{weight_of}

pub big_short : (number : ℕ) → weight_of (big_of number) ≤ 4000000
big_short number = omega arith
