-- The words stay words with spellings over the turns of a script's programs.
use Rattle.std.proofs.Common.{ℕ, sym, subst, List}
use Rattle.k_ids.specs.declared.histories.Entry.{Entry}
use Rattle.k_model.specs.State.{KernelState}
use Rattle.k_script.specs.Limits.{IsScript}
use Rattle.k_script.specs.Script.{Script}
use Rattle.k_board.specs.Boards.{Board, id_at}
use Rattle.k_board.specs.Turns.{Turn}
use Rattle.k_good.specs.Ranges.{NamesFit}
use Rattle.k_plays.specs.Scripts.{programs_of, ranged_programs}
use Rattle.k_plays.proofs.Tables.{ranged_fit}
use Rattle.k_invariant.specs.Invariant.{BoardHolds}
use Rattle.k_invariant.proofs.Keeps.{goes_on}
use Rattle.k_turns.specs.Sections.{Turns, more, none}
use Rattle.k_turns.specs.Spelled.{IsSpelled}
use Rattle.k_kernel.proofs.Agreeing.{agree_here}
use Rattle.k_kernel.proofs.Turns.{other_turn}
use Rattle.k_spelled.specs.Asks.{ask_on}
use Rattle.k_spelled.specs.Words.{WordsHold}
use Rattle.k_spelled.proofs.Steps.{spelled_at}
use Rattle.k_spelled.proofs.Turns.{words_keep}
use Rattle.std.proofs.Common.{refl}

module _ (script : Script) (limits : IsScript script) where
  pub turn_words : (b : Board) (es : List Entry) (k : KernelState) → BoardHolds script b es k →
      WordsHold b → (i : ℕ)
      (b' : Board) → Turn (ranged_programs script) b i b' → WordsHold b'
  turn_words b es k h words i b' t =
      words_keep (ranged_programs script) b h.proper.good.places h.proper.within h.proper.queues.size
      h.messages
      (subst (NamesFit (ranged_programs script)) (sym h.size) (ranged_fit script)) words i b' t

  pub turns_words : (i n : ℕ) (b c : Board) (es : List Entry) (k : KernelState) → BoardHolds script b es k →
      WordsHold b →
      Turns (programs_of script) i n b c → WordsHold c
  turns_words i _ b _ es k h words (none _) = words
  turns_words i _ b c es k h words (more _ b' _ t ts) =
      let g = ranged_programs script in
      let other = other_turn (programs_of script) g.next b i (agree_here script limits b es k h i) b' t in
      let after = goes_on script limits b es k h i b' other.turn in
      turns_words i _ b' c _ after.new after.holds (turn_words b es k h words i b' other.turn) ts

  pub step_spelled : (b : Board) (es : List Entry) (k : KernelState) → BoardHolds script b es k →
      WordsHold b → (i : ℕ) →
      IsSpelled script.table (ask_on (id_at b i) (b.context i).own (b.context i).at)
  step_spelled b es k h words i =
      subst (λ (n : ℕ). IsSpelled n (ask_on (id_at b i) (b.context i).own (b.context i).at)) h.size
      (spelled_at (ranged_programs script) b h.proper.good.places h.proper.within h.proper.queues.size
      h.messages words i
      (b.context i).at refl)
