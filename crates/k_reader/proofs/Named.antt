-- The first program of a name, where each name is given once.
use Rattle.std.proofs.Common.{◌≡◌, ℕ, zero, suc, ◌+◌, ◌<◌, false, List, [], ◌∷◌, length, get_or, map, refl, ap, arith, Some, position}
use Rattle.std.specs.List.{AllByRecursion, IsDistinct, position_or_len}
use Rattle.std.specs.Str.{bytes_eq}
use Rattle.std.proofs.lemmas.Bool.{lt-ltb}
use Rattle.std.proofs.lemmas.Map.Keys.{IsDistinct-head, IsDistinct-tail}
use Rattle.std.proofs.lemmas.Slice.Eq.{bytes_eq-Decides}
use Rattle.k_lists.proofs.All.{all_at, all_of_map}
use Rattle.k_script.specs.Script.{Program, nothing}

first_named : (ps : List Program) (k : ℕ) → k < length ps → IsDistinct bytes_eq (map (λ p. p.name) ps) → position_or_len (λ p. bytes_eq p.name (get_or ps k nothing).name) ps ≡ k
first_named [] k h d = absurd (omega arith)
first_named (q ∷ qs) zero h d = rw ((bytes_eq-Decides q.name q.name).1 refl) refl
first_named (q ∷ qs) (suc k) h d =
    let heads : AllByRecursion (λ p. bytes_eq q.name p.name ≡ false) qs = all_of_map (λ n. bytes_eq q.name n ≡ false) (λ p. p.name) qs (IsDistinct-head bytes_eq q.name (map (λ p. p.name) qs) d) in
    let other : bytes_eq q.name (get_or qs k nothing).name ≡ false = all_at (λ p. bytes_eq q.name p.name ≡ false) qs k nothing heads (omega arith) in
    let more : position_or_len (λ p. bytes_eq p.name (get_or qs k nothing).name) (q ∷ qs) ≡ 1 + position_or_len (λ p. bytes_eq p.name (get_or qs k nothing).name) qs = rw other refl in
    let rest : position_or_len (λ p. bytes_eq p.name (get_or qs k nothing).name) qs ≡ k = first_named qs k (omega arith) (IsDistinct-tail bytes_eq q.name (map (λ p. p.name) qs) d) in
    omega (arith, more, rest)

pub named_at : (ps : List Program) (k : ℕ) → k < length ps → IsDistinct bytes_eq (map (λ p. p.name) ps) → position (λ p. bytes_eq p.name (get_or ps k nothing).name) ps ≡ Some k
named_at ps k h d =
    let e : position_or_len (λ p. bytes_eq p.name (get_or ps k nothing).name) ps ≡ k = first_named ps k h d in
    rw (lt-ltb (position_or_len (λ p. bytes_eq p.name (get_or ps k nothing).name) ps) (length ps) (omega arith)) (ap Some e)
