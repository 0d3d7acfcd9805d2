-- A queue, parted at the entry of a number.
use Rattle.std.proofs.Common.{◌≡◌, ℕ, suc, Bool, true, false, Some, List, [], ◌∷◌, ◌++◌, length, refl, ap}
use Rattle.std.specs.Prelude.{◌==◌, drop, if◌then◌else◌}
use Rattle.k_senders.specs.declared.entries.SenderEntry.{SenderEntry}
use Rattle.k_senders.specs.Entries.{number_of}
use Rattle.k_senders.specs.Queue.{entry_of, stands}
use Rattle.k_locks.specs.Queues.{before}

pub none_before : (n : ℕ) (es : List SenderEntry) → stands n (before n es) ≡ false
none_before n [] = refl
none_before n (d ∷ es) = go (number_of d == n) refl (none_before n es)
  where
    go : (b : Bool) → (number_of d == n) ≡ b → stands n (before n es) ≡ false → stands n (if b then [] else d ∷ before n es) ≡ false
    go true q none = refl
    go false q none = rw q none

pub parts : (n : ℕ) (es : List SenderEntry) (e : SenderEntry) → entry_of n es ≡ Some e → es ≡ before n es ++ e ∷ drop (suc (length (before n es))) es
parts n [] e s = absurd cc
parts n (d ∷ es) e s = go (number_of d == n) s (parts n es e)
  where
    go : (b : Bool) → (if b then Some d else entry_of n es) ≡ Some e → (entry_of n es ≡ Some e → es ≡ before n es ++ e ∷ drop (suc (length (before n es))) es) → d ∷ es ≡ (if b then [] else d ∷ before n es) ++ e ∷ drop (suc (length (if b then [] else d ∷ before n es))) (d ∷ es)
    go true q rest = let same : d ≡ e = cc in ap (λ x. x ∷ es) same
    go false q rest = ap (λ more. d ∷ more) (rest q)
