-- A turn of a thread's context on a board of which all of the whole holds, made by the carrier that is asked for it.
use Rattle.std.proofs.Common.{◌≡◌, ℕ, ◌<◌, refl, sym, ap, ◌∙◌, subst, Option, List, ◌++◌, length, length-append}
use Rattle.k_ids.specs.declared.calls.Reply.{Reply}
use Rattle.k_ids.specs.declared.histories.Entry.{Entry}
use Rattle.k_locks.specs.declared.points.Point.{Point}
use Rattle.k_model.specs.State.{KernelState}
use Rattle.k_script.specs.Limits.{IsScript}
use Rattle.k_script.specs.Script.{Script}
use Rattle.k_caller.specs.declared.thread.ThreadLocation.TheVariants as location
use Rattle.k_board.specs.Boards.{Alone, At, Board}
use Rattle.k_board.specs.Facts.{AllSay}
use Rattle.k_board.specs.Places.{facts_of}
use Rattle.k_board.specs.Turns.{Turn}
use Rattle.k_board.specs.Words.{Programs}
use Rattle.k_points.specs.Points.{turn_point}
use Rattle.k_legal.specs.Runs.{entries_of}
use Rattle.k_plays.specs.Scripts.{programs_of, ranged_programs}
use Rattle.k_tokens.specs.World.{OfThread, World}
use Rattle.k_tokens.specs.Grants.{Grants}
use Rattle.k_tokens.specs.Steps.{ThreadStep, after_step}
use Rattle.k_switching.specs.Claims.{IsAsked}
use Rattle.k_switching.specs.Rules.{carrier_step, carrier_step_by, hand_step}
use Rattle.k_grants.specs.Granted.{Finding, IsFound, IsFreeToRemove, IsWait, is_again}
use Rattle.k_whole.specs.Whole.{WholeGoesOn, WholeHolds, runs}
use Rattle.k_whole.proofs.Wholes.{whole_goes_on}
use Rattle.k_kernel.specs.Serials.{SerialsHold}
use Rattle.k_kernel.proofs.Agreeing.{agree_here}
use Rattle.k_kernel.proofs.Serials.{serials_stay}
use Rattle.k_kernel.proofs.Turns.{other_turn}

-- the step of a thread's context in hand is that of its carrier
pub step_taken : (v : World) (c n : ℕ) → IsAsked v c (OfThread n) → (s : ThreadStep) → carrier_step v c s ≡ after_step v c n s
step_taken v c n asked s = ap (carrier_step_by v c s) asked.hand ∙ ap (hand_step v c (OfThread n) s) asked.kept

-- all that holds of the board, with this history
pub record Stands (script : Script) (b : Board) (v : World) (es : List Entry) : Type 0 where
  pub state : KernelState
  pub whole : WholeHolds script b v es state
  pub serials : SerialsHold b (length es)

-- The turn, as one of the programs within the table, was a step that its location grants, and all holds again.
pub record HasTurned (script : Script) (b : Board) (v : World) (es : List Entry) (c n : ℕ) (b' : Board) (found : Finding)
    (p : Option Point) : Type 0 where
  pub turn : Turn (ranged_programs script) b n b'
  pub point : turn_point (ranged_programs script) b n b' turn ≡ p
  pub step : ThreadStep
  pub kind : IsFound found (is_again (ranged_programs script) b n b' turn) step
  pub grants : Grants v n step
  pub stands : Stands script b' (carrier_step v c step) (es ++ entries_of b p)

module _ (script : Script) (limits : IsScript script) (b : Board) (v : World) (es : List Entry) (h : Stands script b v es)
    (c n : ℕ) (low : c < v.carriers) (asked : IsAsked v c (OfThread n)) where
  abbrev G : Programs
  G = ranged_programs script

  -- between two calls a thread's serial is the ledger's last
  called : (l : Option Reply) → (b.context n).at ≡ Alone (location.Between l) → (b.context n).serial ≡ (b.seen n).last
  called l at =
      (subst (λ (p : At). AllSay G b n (b.context n) (facts_of p)) at (h.whole.holds.proper.good.places n)).0

  pub has_turned : (b' : Board) (found : Finding) → IsWait found.waits → IsFreeToRemove b v n b' →
      (t : Turn (programs_of script) b n b') → HasTurned script b v es c n b' found (turn_point (programs_of script) b n b' t)
  has_turned b' found wait free t =
      let other = other_turn (programs_of script) G.next b n (agree_here script limits b es h.state h.whole.holds n) b' t in
      let goes : WholeGoesOn script b v es h.state c b' (runs n b' found asked wait free other.turn) =
      whole_goes_on script limits b v es h.state h.whole c low b' (runs n b' found asked wait free other.turn) in
      subst (HasTurned script b v es c n b' found) other.point (record {
        turn = other.turn;
        point = refl;
        step = goes.step;
        kind = goes.kind.0;
        grants = goes.kind.1;
        stands = record {
          state = goes.new;
          whole = goes.whole;
          serials = subst (SerialsHold b') (sym (length-append es (entries_of b (turn_point G b n b' other.turn))))
              (serials_stay G b n (length es) h.serials called b' other.turn);
        };
      })
