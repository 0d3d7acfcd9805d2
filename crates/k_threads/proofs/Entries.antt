-- The first entry of a queue, and the rest.
use Rattle.std.proofs.Common.{◌≡◌, ◌<◌, ℕ, refl, true, List, [], ◌∷◌, Some, None, arith}
use Rattle.std.proofs.lemmas.Grind.{common_steps}
use Rattle.k_senders.specs.declared.entries.SenderEntry.{SenderEntry}
use Rattle.k_senders.specs.Queue.{first_number, stands, without}
use Rattle.k_senders.proofs.EntrySpelled.{number_small}
use Rattle.k_threads.specs.Goods.{rest}

pub first_stands : (n : ℕ) (es : List SenderEntry) → first_number es ≡ Some n → stands n es ≡ true
first_stands n [] e = absurd cc
first_stands n (f ∷ es) e = grind (arith, common_steps)

pub without_rest : (n : ℕ) (es : List SenderEntry) → first_number es ≡ Some n → without n es ≡ rest es
without_rest n [] e = refl
without_rest n (f ∷ es) e = grind (arith, common_steps)

pub nothing_rests : (es : List SenderEntry) → first_number es ≡ None → rest es ≡ es
nothing_rests [] e = refl
nothing_rests (f ∷ es) e = absurd cc

pub nothing_stands : (es : List SenderEntry) → first_number es ≡ None → es ≡ []
nothing_stands [] e = refl
nothing_stands (f ∷ es) e = absurd cc

pub first_inside : (n : ℕ) (es : List SenderEntry) → first_number es ≡ Some n → n < 64
first_inside n [] e = absurd cc
first_inside n (f ∷ es) e = let small = number_small f in grind (arith, common_steps)
