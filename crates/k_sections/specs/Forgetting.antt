-- The carrier with its hand on a board, over any time. While no mark stands, nobody waits in the name of a context that was
-- removed. Then it may be forgotten which ones were: from then on the new contexts of their numbers make steps as all others do.
use Rattle.std.specs.Prelude.{ℕ, List, [], ◌∷◌, Option, Some, None}
use Rattle.k_bound.specs.Hands.{Carrier, CarrierEvent, happened}
use Rattle.k_bound.specs.Waits.{WaitMark}
use Rattle.k_board.specs.Boards.{Board}
use Rattle.k_board.specs.Words.{Programs}
use Rattle.k_switch.specs.declared.switch.SwitchCall.{SwitchCall}
use Rattle.k_sections.specs.Situations.{Situation, situation_of}
use Rattle.k_sections.specs.Stepping.{kernel_sections}

pub data BoardEvent : Type 0 where
  Happens : CarrierEvent → BoardEvent
  -- which contexts were removed, unless a mark stands
  Forgets : BoardEvent

-- unless a mark stands, no context counts as removed any more
abbrev pub forgotten : Carrier Situation → Option WaitMark → Carrier Situation
forgotten carrier None = record carrier { state = situation_of carrier.state.board }
forgotten carrier (Some mark) = carrier

module _ (g : Programs) (calls : Board → ℕ → SwitchCall) where
  -- the carrier after an event
  abbrev pub carrier_after : BoardEvent → Carrier Situation → Carrier Situation
  carrier_after (Happens event) carrier = happened (kernel_sections g calls) event carrier
  carrier_after Forgets carrier = forgotten carrier carrier.mark

  -- and after many
  abbrev pub run_on : List BoardEvent → Carrier Situation → Carrier Situation
  run_on [] carrier = carrier
  run_on (event ∷ events) carrier = run_on events (carrier_after event carrier)
