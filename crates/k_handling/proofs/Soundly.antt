-- What a move leaves is the kernel again, with carriers and contexts that are sound.
use Rattle.std.proofs.Common.{◌≡◌, ℕ, ◌<◌, length, Option, Some, None, List}
use Rattle.std.specs.Prelude.{IfSome}
use Rattle.k_ids.specs.declared.histories.Entry.{Entry}
use Rattle.k_model.specs.State.{KernelState}
use Rattle.k_script.specs.Script.{Script}
use Rattle.k_switch.specs.declared.goal.Goal.{Goal}
use Rattle.k_carrier.specs.Conditions.{IsGoalIn}
use Rattle.k_carrier.specs.Conditions as carriers
use Rattle.k_carrier.specs.Seen.{CarrierSeen}
use Rattle.k_world.specs.Worlds.{World, carrier_at}
use Rattle.k_board.specs.Boards.{Board}
use Rattle.k_tokens.specs.World as tokens
use Rattle.k_moves.specs.Moved.{IsGiven, IsGoalGiven}
use Rattle.k_aligned.specs.Aligned.{AreSound}
use Rattle.k_handling.specs.Handling.{IsHandled, IsKernel}

-- a sound carrier is as it is given
goal_given : (table : ℕ) (o : Option Goal) → IfSome o (IsGoalIn table) → IsGoalGiven table o
goal_given table None is = tt
goal_given table (Some g) is = (is.inside, is.goal.id.born)

pub sound_given : (script : Script) (c : CarrierSeen) → carriers.IsSound script c → length c.starts ≡ 64 → IsGiven c
sound_given script c sound starts = record { goal = goal_given c.table c.goal sound.goal; starts = starts }

pub handled_soundly : (script : Script) (b : Board) (v : tokens.World) (c : ℕ) (w : World) (entries : List Entry)
    (state : KernelState) (h : IsHandled script b v c w entries state) → AreSound script w →
    ((d : ℕ) → d < length w.carriers → carriers.IsSound script (carrier_at w d)) → IsKernel script w h.board h.view state
handled_soundly script b v c w entries state h contexts sound = record {
  aligned = record {
    shows = h.matched.shows;
    carriers = λ d few. let m = h.matched.carriers d few in record {
      number = m.number;
      answered = m.answered;
      sound = sound d few;
      given = sound_given script (carrier_at w d) (sound d few) m.starts;
      viewed = m.viewed;
    };
    count = h.matched.count;
    few = h.matched.few;
    contexts = contexts;
    unstarted = h.matched.unstarted;
    numbers = h.matched.numbers;
  };
  helps = h.helps;
  whole = h.whole;
  serials = h.serials;
}
