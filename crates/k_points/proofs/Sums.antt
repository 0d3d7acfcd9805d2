-- Any turn: its point is decided, or the new board shows the same. The state that is shown after it is again one that can be
-- reached.
use Rattle.std.proofs.Common.{◌≡◌, Bool, true, false, cond, refl, sym, ap, ◌∙◌, subst, Option, Some, None, Ok, Err, arith}
use Rattle.k_ids.specs.declared.histories.Event.{Event}
use Rattle.k_ids.specs.declared.histories.Unlawful.{Unlawful}
use Rattle.k_ids.specs.declared.calls.Outcome.{Outcome}
use Rattle.k_model.specs.Answered.{IsAnswered}
use Rattle.k_model.specs.Sound.{IsSound}
use Rattle.k_model.specs.State.{KernelState, found_of}
use Rattle.k_model.specs.Step.{is_enabled, outcome_of, step}
use Rattle.k_model.proofs.Answered.{acted-answered}
use Rattle.k_model.proofs.Sound.{acted-sound, size-acted}
use Rattle.k_locks.specs.declared.points.Point.{Point}
use Rattle.k_board.specs.Words.{Programs}
use Rattle.k_board.specs.Boards.{Board}
use Rattle.k_points.specs.Points.{Goes, Moves}
use Rattle.k_points.specs.Shown.{IsShown}

pub made_of : (k : KernelState) (e : Event) (new : KernelState) (o : Outcome) → step k e ≡ Ok (new, o) →
    (is_enabled k e ≡ true) × (outcome_of k e ≡ (new, o))
unfolding step
made_of k e new o = go (is_enabled k e) (record { found = found_of k e.who.number; serial = (k.place e.who.number).serial }) refl
  where
    go : (d : Bool) (u : Unlawful) → is_enabled k e ≡ d → cond d (Ok (outcome_of k e)) (Err u) ≡ Ok (new, o) →
        (is_enabled k e ≡ true) × (outcome_of k e ≡ (new, o))
    go true u q h = (q, grind arith)
    go false u q h = absurd cc

-- a board that shows the same lines, or those of the state that the point's event leaves, shows such a state again
pub moves : (g : Programs) (b b' : Board) (k : KernelState) (p : Option Point) → b'.size ≡ b.size → IsShown b k →
    Goes g b k p b' → Moves g b k p b'
moves g b b' k None size sh lines = record {
  new = k;
  shown = record { shows = record { size = sh.shows.size ∙ sym size; lines = lines }; sound = sh.sound; answered = sh.answered };
  history = refl;
}
moves g b b' k (Some p) size sh d =
    let m = made_of k _ d.new p.outcome d.step in
    record {
      new = d.new;
      shown = record {
        shows = record {
          size = ap (λ (r : KernelState × Outcome). r.0.size) (sym m.1) ∙ size-acted k p.who _ p.act ∙ sh.shows.size ∙ sym size;
          lines = d.lines;
        };
        sound = subst IsSound (ap (λ (r : KernelState × Outcome). r.0) m.1) (acted-sound k p.who _ p.act m.0 sh.sound);
        answered =
            subst IsAnswered (ap (λ (r : KernelState × Outcome). r.0) m.1)
            (acted-answered k p.who _ p.act m.0 sh.sound sh.answered);
      };
      history = (d.step, d.plays);
    }
