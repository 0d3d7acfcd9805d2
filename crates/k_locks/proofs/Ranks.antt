-- The lowest lock that is held.
use Rattle.std.proofs.Common.{◌≡◌, ◌≢◌, ◌≤◌, ℕ, zero, suc, Option, Some, None, List, [], ◌∷◌, sym, ap, subst, arith}
use Rattle.std.specs.Prelude.{slice_get}
use Rattle.k_locks.specs.declared.locks.Lock.{Lock}
use Rattle.k_locks.specs.Locks.{Holds, IsByRank, lowest_held, rank_of}

-- where it stands, and that none is held before
record IsLowest (locks : List (Option Lock)) (l : Lock) : Type 0 where
  at : ℕ
  held : slice_get locks at ≡ Some (Some l)
  lowest : (rank : ℕ) (m : Lock) → slice_get locks rank ≡ Some (Some m) → at ≤ rank

find : (locks : List (Option Lock)) (l : Lock) → lowest_held locks ≡ Some l → IsLowest locks l
find [] l e = absurd cc
find (Some m ∷ more) l e = record { at = 0; held = ap Some e; lowest = λ rank k h. omega arith }
find (None ∷ more) l e =
    let f = find more l e in
    record { at = suc f.at; held = f.held; lowest = later f }
  where
    later : (f : IsLowest more l) → (rank : ℕ) (m : Lock) → slice_get (None ∷ more) rank ≡ Some (Some m) → suc f.at ≤ rank
    later f zero m h = absurd cc
    later f (suc rank) m h = omega (arith, f.lowest rank m h)

pub lowest_is_held : (locks : List (Option Lock)) (l : Lock) → IsByRank locks → lowest_held locks ≡ Some l → Holds l locks
lowest_is_held locks l i e = let f = find locks l e in subst (λ r. slice_get locks r ≡ Some (Some l)) (sym (i f.at l f.held)) f.held

pub lowest_is_lowest : (locks : List (Option Lock)) (l m : Lock) → IsByRank locks → lowest_held locks ≡ Some l → Holds m locks → rank_of l ≤ rank_of m
lowest_is_lowest locks l m i e h = let f = find locks l e in let r = i f.at l f.held in let s = f.lowest (rank_of m) m h in omega (arith, r, s)

pub some_lowest : (locks : List (Option Lock)) (rank : ℕ) (m : Lock) → slice_get locks rank ≡ Some (Some m) → lowest_held locks ≢ None
some_lowest [] rank m h e = absurd cc
some_lowest (Some l ∷ more) rank m h e = absurd cc
some_lowest (None ∷ more) zero m h e = absurd cc
some_lowest (None ∷ more) (suc rank) m h e = some_lowest more rank m h e
