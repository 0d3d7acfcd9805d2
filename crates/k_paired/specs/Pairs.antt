-- A board and a world of who is on, of the same kernel at the same moment.
use Rattle.std.specs.Prelude.{◌≡◌, ℕ}
use Rattle.k_board.specs.Words.{Programs}
use Rattle.k_board.specs.Boards.{Board}
use Rattle.k_board.specs.Turns.{Turn}
use Rattle.k_good.specs.Good.{IsGood}
use Rattle.k_good.specs.Ranges.{IsWithin, NamesFit}
use Rattle.k_tokens.specs.World.{World}
use Rattle.k_tokens.specs.Good as tokens
use Rattle.k_tokens.specs.Grants.{Grants}
use Rattle.k_tokens.specs.Steps.{ThreadStep}
use Rattle.k_switching.specs.Rules.{carrier_step}
use Rattle.k_grants.specs.Granted.{Finding, IsFound, is_again}
use Rattle.k_grants.specs.Pushes.{PushesHold}
use Rattle.k_stages.specs.Stages.{AreAlike}

-- Both are good and alike, and what locations say of pushes holds.
pub record IsPair (g : Programs) (b : Board) (w : World) : Type 0 where
  pub good : IsGood g b
  pub within : IsWithin b
  pub names : NamesFit g b.size
  pub pushes : PushesHold b
  pub world : tokens.IsGood w
  pub alike : AreAlike b w

-- The turn is the carrier's step, which its location grants, and leads to a pair.
pub record GoesOn (g : Programs) (b : Board) (w : World) (c i : ℕ) (b' : Board) (found : Finding) (t : Turn g b i b')
    : Type 0 where
  pub step : ThreadStep
  pub kind : IsFound found (is_again g b i b' t) step
  pub grants : Grants w i step
  pub pair : IsPair g b' (carrier_step w c step)

-- Threads, ready lists and switches are as they were.
pub record IsStill (w v : World) : Type 0 where
  pub threads : v.threads ≡ w.threads
  pub ready : v.ready_owner ≡ w.ready_owner
  pub lists : v.lists ≡ w.lists
  pub running : v.running ≡ w.running
  pub own : v.own ≡ w.own
