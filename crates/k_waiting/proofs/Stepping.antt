-- A step of the running kernel with one carrier is one of which k_courses knows all that it asks for.
use Rattle.std.proofs.Common.{◌≡◌, subst, length, IfSome, Option}
use Rattle.k_script.specs.Limits.{IsScript}
use Rattle.k_script.specs.Script.{Script}
use Rattle.k_context.specs.Contexts.{IsSound}
use Rattle.k_carrier.specs.Asked.{Run, ask_of}
use Rattle.k_carrier.specs.Conditions.{IsHand}
use Rattle.k_carrier.specs.Conditions as carriers
use Rattle.k_carrier.specs.Seen.{HandSeen}
use Rattle.k_world.specs.Steps.{moved, step_in}
use Rattle.k_world.specs.Worlds.{World, carrier_at}
use Rattle.k_places.specs.Fits.{IsStepWithin}
use Rattle.k_joint.proofs.Runs.{hand_of_run}
use Rattle.k_kernel.specs.Moves.{CanMove, HasRoom, IsRunnable, IsSpelledIn}
use Rattle.k_kernel.proofs.Runs.{run_ready}
use Rattle.k_onward.specs.Stepping.{IsMoment, IsStepping}
use Rattle.k_running.specs.Running.{KernelHolds}

-- the context in a sound carrier's hand is sound
pub hand_sound : (script : Script) (w : World) → carriers.IsSound script (carrier_at w 0) → (x : HandSeen) →
    ask_of (carrier_at w 0) ≡ Run x → IsSound script x.value
hand_sound script w sound x e =
    (subst (λ (o : Option HandSeen). IfSome o (IsHand script (carrier_at w 0).table)) (hand_of_run
    (carrier_at w 0) x e) sound.hand).sound

abbrev moment : (script : Script) (w : World) → KernelHolds script w → IsMoment script w
moment script w h = record {
  board = h.board;
  view = h.view;
  entries = w.history;
  state = h.state;
  aligned = h.aligned;
  whole = h.whole;
}

pub stepping : (script : Script) (w : World) → IsScript script → HasRoom script → (h : KernelHolds script w) →
    KernelHolds script (moved script 0 w) → length w.carriers ≡ 1 → IsRunnable script 0 w → IsStepWithin w (step_in script 0 w) →
    IsStepping script w
stepping script w limits room h next one run within = record {
  limits = limits;
  one = one;
  before = moment script w h;
  later = moment script (moved script 0 w) next;
  within = within;
  ready = λ x e.
      run_ready script limits 0 w (record {
        board = h.board;
        state = h.state;
        shows = h.aligned.shows;
        holds = h.whole.holds;
        serials = h.serials;
      }) x room e (subst (CanMove script 0 w) e run.move) (subst (IsSpelledIn script) e run.spelled);
}
