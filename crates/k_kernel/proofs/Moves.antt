-- What holds of a board holds after any number of turns of one context.
use Rattle.std.proofs.Common.{◌≡◌, ℕ, sym, subst, Option, List, ◌++◌, length, length-append}
use Rattle.std.proofs.lemmas.List.{append_assoc, append-nil}
use Rattle.k_ids.specs.declared.histories.Entry.{Entry}
use Rattle.k_locks.specs.declared.points.Point.{Point}
use Rattle.k_model.specs.State.{KernelState}
use Rattle.k_script.specs.Limits.{IsScript}
use Rattle.k_script.specs.Script.{Script}
use Rattle.k_ids.specs.declared.calls.Reply.{Reply}
use Rattle.k_caller.specs.declared.thread.ThreadLocation.TheVariants as location
use Rattle.k_board.specs.Boards.{Alone, At, Board}
use Rattle.k_board.specs.Facts.{AllSay}
use Rattle.k_board.specs.Places.{facts_of}
use Rattle.k_legal.specs.Runs.{entries_of}
use Rattle.k_points.specs.Points.{turn_point}
use Rattle.k_plays.specs.Scripts.{programs_of, ranged_programs}
use Rattle.k_turns.specs.Sections.{Turns, entries_along, more, none}
use Rattle.k_invariant.specs.Invariant.{BoardHolds}
use Rattle.k_kernel.specs.Serials.{SerialsHold}
use Rattle.k_kernel.proofs.Agreeing.{agree_here}
use Rattle.k_invariant.proofs.Keeps.{goes_on}
use Rattle.k_kernel.proofs.Serials.{serials_stay}
use Rattle.k_kernel.proofs.Turns.{other_turn}

-- What holds of a board with the history that was made on the way to it.
pub record Reached (script : Script) (b : Board) (es : List Entry) : Type 0 where
  pub state : KernelState
  pub holds : BoardHolds script b es state
  pub serials : SerialsHold b (length es)

module _ (script : Script) (limits : IsScript script) where
  -- between two calls a thread's serial is the ledger's last
  called_here : (i : ℕ) (b : Board) (es : List Entry) (h : Reached script b es) (l : Option Reply) →
      (b.context i).at ≡ Alone (location.Between l) → (b.context i).serial ≡ (b.seen i).last
  called_here i b es h l at =
      (subst (λ (p : At). AllSay (ranged_programs script) b i (b.context i) (facts_of p)) at (h.holds.proper.good.places i)).0

  pub turns_hold : (i n : ℕ) (b c : Board) (es : List Entry) (ts : Turns (programs_of script) i n b c) → Reached script b es →
      Reached script c (es ++ entries_along (programs_of script) i n b c ts)
  turns_hold i _ b _ es (none _) h = subst (Reached script b) (sym (append-nil es)) h
  turns_hold i _ b c es (more _ b' _ t ts) h =
      let g = ranged_programs script in
      let other = other_turn (programs_of script) g.next b i (agree_here script limits b es h.state h.holds i) b' t in
      let after = goes_on script limits b es h.state h.holds i b' other.turn in
      let q = turn_point g b i b' other.turn in
      let serials = serials_stay g b i (length es) h.serials (called_here i b es h) b' other.turn in
      let next : Reached script b' (es ++ entries_of b q) = record {
        state = after.new;
        holds = after.holds;
        serials = subst (SerialsHold b') (sym (length-append es (entries_of b q))) serials;
      } in
      let p = turn_point (programs_of script) b i b' t in
      let rest = turns_hold i _ b' c (es ++ entries_of b p) ts
      (subst (λ (r : Option Point). Reached script b' (es ++ entries_of b r)) other.point next) in
      subst (Reached script c) (append_assoc es (entries_of b p) (entries_along (programs_of script) i _ b' c ts)) rest
