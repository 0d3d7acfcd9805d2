-- The version of a number never falls.
use Rattle.std.proofs.Common.{ℕ, ◌≤◌, arith, List}
use Rattle.k_ids.specs.declared.histories.Entry.{Entry}
use Rattle.k_script.specs.Limits.{IsScript}
use Rattle.k_script.specs.Script.{Script}
use Rattle.k_board.specs.Words.{Seen}
use Rattle.k_board.specs.Boards.{Board}
use Rattle.k_board.specs.Moves.{Change, same, calls, settles, passes, delivers, takes, joins, frees_sender, frees_receiver}
use Rattle.k_board.specs.Moves.{kills, makes, leaves, posts}
use Rattle.k_board.specs.Turns.{Turn}
use Rattle.k_board.proofs.Turning.{turn_changes}
use Rattle.k_good.proofs.Goods.{supports}
use Rattle.k_plays.specs.Scripts.{programs_of, ranged_programs}
use Rattle.k_invariant.proofs.Keeps.{tells}
use Rattle.k_turns.specs.Sections.{Turns, more, none}
use Rattle.k_kernel.proofs.Agreeing.{agree_here}
use Rattle.k_kernel.proofs.Moves.{Reached, turns_hold}
use Rattle.k_kernel.proofs.Turns.{other_turn}

version_rises : (b : Board) (i n : ℕ) (v : Seen) → Change b i n v → (b.seen n).word.version ≤ v.word.version
version_rises b i _ _ (same t) = omega arith
version_rises b i _ _ (calls w r p run goes) = omega (arith, goes.version)
version_rises b i _ _ (settles v o ver al al2 ns us) = omega (arith, ver)
version_rises b i _ _ (passes t r o op none_) = omega arith
version_rises b i _ _ (delivers t from o op told) = omega arith
version_rises b i _ _ (takes t to o nj st none_) = omega arith
version_rises b i _ _ (joins t to o nj hr st) = omega arith
version_rises b i _ _ (frees_sender t to joined o tb dd st none_) = omega arith
version_rises b i _ _ (frees_receiver t from o tb dd st none_) = omega arith
version_rises b i _ _ (kills t o tb nk al) = omega arith
version_rises b i _ _ (makes t w p tb d nw rn ver) = omega (arith, ver)
version_rises b i _ _ (leaves wt) = omega arith
version_rises b i _ _ (posts t m o op) = omega arith

module _ (script : Script) (limits : IsScript script) where
  turn_rises : (i : ℕ) (b b' : Board) (es : List Entry) → Reached script b es → Turn (programs_of script) b i b' → (n : ℕ) →
      (b.seen n).word.version ≤ (b'.seen n).word.version
  turn_rises i b b' es x t n =
      let g = ranged_programs script in
      let good = x.holds.proper.good in
      let other = other_turn (programs_of script) g.next b i (agree_here script limits b es x.state x.holds i) b' t in
      version_rises b i n (b'.seen n) (turn_changes g b good.places i b'
      (supports g b i good (tells script limits b es x.state x.holds i)) other.turn n)

  pub turns_rise : (i k : ℕ) (b c : Board) (es : List Entry) → Turns (programs_of script) i k b c →
      Reached script b es → (n : ℕ) → (b.seen n).word.version ≤ (c.seen n).word.version
  turns_rise i _ b _ es (none _) x n = omega arith
  turns_rise i _ b c es (more _ b' _ t ts) x n =
      let first = turn_rises i b b' es x t n in
      let next = turns_hold script limits i 1 b b' es (more b b' b' t (none b')) x in
      let rest = turns_rise i _ b' c _ ts next n in
      omega (arith, first, rest)
