-- One fall after another.
use Rattle.std.proofs.Common.{◌≡◌, ℕ, ◌+◌, ◌-◌, ◌*◌, ◌<◌, ◌≤◌, arith, inl, inr}
use Rattle.k_schedule.specs.Parts.{Falls, Parts}

-- what falls twice falls
pub falls_on : (p q r : Parts) → Falls p q → Falls q r → Falls p r
falls_on p q r (inl x) (inl y) = inl (omega (arith, x, y))
falls_on p q r (inl x) (inr (inl y)) = let a = y.0 in inl (omega (arith, x, a))
falls_on p q r (inl x) (inr (inr (inl y))) = let a = y.0 in inl (omega (arith, x, a))
falls_on p q r (inl x) (inr (inr (inr y))) = let a = y.0 in inl (omega (arith, x, a))
falls_on p q r (inr (inl x)) (inl y) = let a = x.0 in inl (omega (arith, a, y))
falls_on p q r (inr (inl x)) (inr (inl y)) =
    let a = x.0 in let b = x.1 in let d = y.0 in let e = y.1 in
    inr (inl (omega (arith, a, d), omega (arith, b, e)))
falls_on p q r (inr (inl x)) (inr (inr (inl y))) =
    let a = x.0 in let b = x.1 in let d = y.0 in let e = y.1 in
    inr (inl (omega (arith, a, d), omega (arith, b, e)))
falls_on p q r (inr (inl x)) (inr (inr (inr y))) =
    let a = x.0 in let b = x.1 in let d = y.0 in let e = y.1 in
    inr (inl (omega (arith, a, d), omega (arith, b, e)))
falls_on p q r (inr (inr (inl x))) (inl y) = let a = x.0 in inl (omega (arith, a, y))
falls_on p q r (inr (inr (inl x))) (inr (inl y)) =
    let a = x.0 in let b = x.1 in let d = y.0 in let e = y.1 in
    inr (inl (omega (arith, a, d), omega (arith, b, e)))
falls_on p q r (inr (inr (inl x))) (inr (inr (inl y))) =
    let a = x.0 in let b = x.1 in let c = x.2 in let d = y.0 in let e = y.1 in let f = y.2 in
    inr (inr (inl (omega (arith, a, d), omega (arith, b, e), omega (arith, c, f))))
falls_on p q r (inr (inr (inl x))) (inr (inr (inr y))) =
    let a = x.0 in let b = x.1 in let c = x.2 in let d = y.0 in let e = y.1 in let f = y.2 in
    inr (inr (inl (omega (arith, a, d), omega (arith, b, e), omega (arith, c, f))))
falls_on p q r (inr (inr (inr x))) (inl y) = let a = x.0 in inl (omega (arith, a, y))
falls_on p q r (inr (inr (inr x))) (inr (inl y)) =
    let a = x.0 in let b = x.1 in let d = y.0 in let e = y.1 in
    inr (inl (omega (arith, a, d), omega (arith, b, e)))
falls_on p q r (inr (inr (inr x))) (inr (inr (inl y))) =
    let a = x.0 in let b = x.1 in let c = x.2 in let d = y.0 in let e = y.1 in let f = y.2 in
    inr (inr (inl (omega (arith, a, d), omega (arith, b, e), omega (arith, c, f))))
falls_on p q r (inr (inr (inr x))) (inr (inr (inr y))) =
    let a = x.0 in let b = x.1 in let c = x.2 in let g = x.3 in
    let d = y.0 in let e = y.1 in let f = y.2 in let h = y.3 in
    inr (inr (inr (omega (arith, a, d), omega (arith, b, e), omega (arith, c, f), omega (arith, g, h))))

-- A history that grows by one has less room, as long as there is some.
pub less_room : (most n n' : ℕ) → n' ≡ n + 1 → n' ≤ most → most - n' < most - n
less_room most n n' e few = omega (arith, e, few)
