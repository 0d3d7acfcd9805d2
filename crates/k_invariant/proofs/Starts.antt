-- All of it holds of the board on which the kernel begins to run a script.
use Rattle.std.proofs.Common.{◌≡◌, ℕ, ◌<◌, ◌≤◌, Bool, true, false, cond, not, refl, sym, ap, ◌∙◌, subst, [], length, arith}
use Rattle.std.specs.Prelude.{nat_lt, slice_index_or}
use Rattle.std.proofs.lemmas.Bool.Decides.{nat_tests}
use Rattle.k_model.specs.History.{dead_place, new_place, opened, opening_place}
use Rattle.k_model.specs.State.{Place, nowhere}
use Rattle.k_locks.specs.Shown.{is_dead}
use Rattle.k_script.specs.Limits.{IsScript}
use Rattle.k_script.specs.Plays.{opened_for}
use Rattle.k_script.specs.Script.{Script}
use Rattle.k_board.specs.Boards.{Board}
use Rattle.k_queues.proofs.Proper.{proper_start}
use Rattle.k_partners.proofs.Partners.{partners_start}
use Rattle.k_legal.specs.Follows.{IsFollowed}
use Rattle.k_legal.proofs.Starts.{first_followed}
use Rattle.k_plays.specs.Scripts.{ranged_programs}
use Rattle.k_plays.proofs.Points.{starts_played}
use Rattle.k_plays.proofs.Tables.{ranged_are}
use Rattle.k_invariant.specs.Invariant.{BoardHolds, IsOpeningBoard}

module _ (script : Script) (limits : IsScript script) (b : Board) (h : IsOpeningBoard script b) where
  same_place : (n : ℕ) → opening_place b.numbers.versions (length script.threads) n ≡
      opening_place script.aged (length script.threads) n
  same_place n =
      let lengths : length b.numbers.versions ≡ length script.aged = h.first.count ∙ h.size ∙ sym limits.numbered in
      ap (λ (l : ℕ). cond (not (nat_lt n l)) nowhere (cond (nat_lt n (length script.threads)) new_place
      (dead_place (slice_index_or b.numbers.versions n 0)))) lengths
      ∙ ap (λ (p : Place). cond (not (nat_lt n (length script.aged))) nowhere p) (tail (nat_lt n (length script.threads)) refl)
    where
      tail : (q : Bool) → nat_lt n (length script.threads) ≡ q →
          cond q new_place (dead_place (slice_index_or b.numbers.versions n 0)) ≡
          cond q new_place (dead_place (slice_index_or script.aged n 0))
      tail true e = refl
      tail false e = let later : length script.threads ≤ n = grind (arith, nat_tests, e) in ap dead_place (h.aged n later)

  same_opening : opened b.numbers.versions (length script.threads) ≡ opened_for script
  same_opening =
      let sizes : length b.numbers.versions ≡ length script.aged = h.first.count ∙ h.size ∙ sym limits.numbered in
      λ z. record { size = sizes z; place = λ n. same_place n z; replies = [] }

  inside : (n : ℕ) → is_dead (b.seen n).word ≡ false → n < b.size
  inside n alive = let w = h.first.who n in let few = h.first.few in grind (arith, nat_tests, w, few, alive)

  pub board_starts : BoardHolds script b [] (opened_for script)
  board_starts =
      let f = first_followed (ranged_programs script) b
      (length script.threads) h.first.booted h.first.free h.first.empty h.first.agree h.first.count h.first.few h.first.who
      h.first.unused in
      record {
        size = h.size;
        proper =
            proper_start (ranged_programs script) b h.first.booted h.first.free h.first.agree h.first.count inside h.first.empty
            (subst (λ (s : ℕ). s ≤ 64) (sym h.size) limits.table.1);
        partners = partners_start (ranged_programs script) b h.first.booted;
        messages = f.1;
        followed = subst (IsFollowed b) same_opening f.0;
        ledgers =
            starts_played script (ranged_programs script) b.seen limits (ranged_are script) h.programs
            (λ t l. (h.within t l, h.filled t l));
      }
