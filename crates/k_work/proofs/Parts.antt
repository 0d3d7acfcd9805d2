-- The parts of the measure fall: what the board owes and what the carriers have together.
use Rattle.std.proofs.Common.{◌≡◌, ℕ, ◌+◌, ◌*◌, ◌<◌, ◌≤◌, Bool, ap, arith, inl, inr}
use Rattle.k_script.specs.Plays.{Position}
use Rattle.k_board.specs.Boards.{Board}
use Rattle.k_tokens.specs.World.{World}
use Rattle.k_schedule.specs.Parts.{Falls}
use Rattle.k_owed.specs.Owed.{may_begin, owed, parts_of, steps_owed}
use Rattle.k_owed.proofs.Lowers.{FallsFor}
use Rattle.k_work.specs.Work.{contexts_of, switches_of, threads_had, work_parts}
use Rattle.k_work.proofs.Carriers.{HasLess}

-- what a turn does to the parts of a board
pub data BoardLess (work : Position → ℕ) (b b' : Board) (count : ℕ) (pushes : Bool) : Type 0 where
  exchanges : owed b' count < owed b count → BoardLess work b b' count pushes
  steps : owed b' count ≤ owed b count →
      steps_owed work b' count + 5 * may_begin pushes < steps_owed work b count →
      BoardLess work b b' count pushes

pub board_less : (work : Position → ℕ) (b b' : Board) (count : ℕ) (pushes : Bool) →
    FallsFor work b b' count pushes →
    BoardLess work b b' count pushes
board_less work b b' count pushes h = go (h 0 0 0 0 (may_begin pushes) (omega arith))
  where
    go : Falls (parts_of work b count 0 0 0) (parts_of work b' count 0 (may_begin pushes) 0) →
        BoardLess work b b' count pushes
    go (inl r) = absurd (omega (arith, r))
    go (inr (inl o)) = exchanges o.1
    go (inr (inr (inl s))) = let less = s.2 in steps s.1 (omega (arith, less))
    go (inr (inr (inr n))) = let less = n.3 in absurd (omega (arith, less))

module _ (work : Position → ℕ) (b b' : Board) (w v : World) (c : ℕ) (size : b'.size ≡ b.size) where
  abbrev count : ℕ
  count = contexts_of b w

  counted : v.carriers ≡ w.carriers → contexts_of b' v ≡ count
  counted same = λ z. size z + same z

  pub falls_by : (pushes : Bool) → FallsFor work b b' count pushes → HasLess w v c pushes →
      (room near near' : ℕ) →
      Falls (work_parts work b w c room near) (work_parts work b' v c room near')
  falls_by pushes h less room near near' = go (board_less work b b' count pushes h)
    where
      owed_same : owed b' (contexts_of b' v) ≡ owed b' count
      owed_same = ap (owed b') (counted less.carriers)

      steps_same : steps_owed work b' (contexts_of b' v) ≡ steps_owed work b' count
      steps_same = ap (steps_owed work b') (counted less.carriers)

      go : BoardLess work b b' count pushes → Falls (work_parts work b w c room near) (work_parts work b' v
          c room near')
      go (exchanges o) = inr (inl (omega arith, omega (arith, o, owed_same)))
      go (steps o s) =
          let worth = less.worth in
          inr (inr (inl (omega arith, omega (arith, o, owed_same), omega (arith, s, steps_same, worth))))

  -- the same of a rise on the board that the carriers pay for
  pub falls_paid : (rise : ℕ) → v.carriers ≡ w.carriers → owed b' count ≡ owed b count →
      steps_owed work b' count ≤ steps_owed work b count + rise →
      6 * threads_had v + 5 * switches_of (v.own c) (v.carrier c) + rise <
      6 * threads_had w + 5 * switches_of (w.own c) (w.carrier c) → (room near near' : ℕ) →
      Falls (work_parts work b w c room near) (work_parts work b' v c room near')
  falls_paid rise carriers same most less room near near' =
      let o = ap (owed b') (counted carriers) in
      let s = ap (steps_owed work b') (counted carriers) in
      inr (inr (inl (omega arith, omega (arith, same, o), omega (arith, most, s, less))))
