-- What holds of any carrier.
use Rattle.std.specs.Prelude.{◌≡◌, true, ◌⊎◌}
use Rattle.k_script.specs.Script.{Script}
use Rattle.k_carrier.specs.Asked.{Run, ask_of}
use Rattle.k_carrier.specs.Conditions.{IsSound}
use Rattle.k_carrier.specs.Rules.{is_helped, is_own, is_pending}
use Rattle.k_carrier.specs.Seen.{CarrierSeen, HandSeen}

-- While a thread is to be started, the slice of time has ended or a thread of a higher priority is ready, a carrier makes a step
-- of a context only while it switches, for its switch or for the context that the switch waits for.
abbrev pub SwitchesFirst : Script → CarrierSeen → Type 0
SwitchesFirst script c = (h : HandSeen) → IsSound script c → is_pending c ≡ true → ask_of c ≡ Run h → (c.switching ≡ true) × ((is_own c h ≡ true) ⊎ (is_helped c h ≡ true))
