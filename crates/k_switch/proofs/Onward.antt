-- After an answer a switch can be asked for its step, or it is over.
use Rattle.std.proofs.Common.{◌≡◌, true, refl, sym, ◌∙◌, Option, Some, None}
use Rattle.std.specs.Prelude.{is_none}
use Rattle.std.proofs.lemmas.Bool.{false≢true}
use Rattle.k_locks.specs.declared.steps.Answer.{Answer}
use Rattle.k_locks.specs.Asks.{Release, response_of}
use Rattle.k_locks.specs.Asks as plain
use Rattle.k_locks.specs.Steps.{is_again, suits}
use Rattle.k_locks.proofs.Responses.{Again, again_by, again_heard, suits_heard}
use Rattle.k_switch.specs.declared.switch.SwitchCall.{SwitchCall}
use Rattle.k_switch.specs.declared.switch.SwitchLocked.TheVariants.{LoadGoal, LoadStart, ReleaseReady}
use Rattle.k_switch.specs.declared.switch.SwitchLocation.{SwitchLocation}
use Rattle.k_switch.specs.declared.switch.SwitchLocation.TheVariants as location
use Rattle.k_switch.specs.declared.switch.Switch.{Switch}
use Rattle.k_switch.specs.declared.carrier_context.CarrierContext.{CarrierContext}
use Rattle.k_switch.specs.Switches.{ask_of, at_of, can_ask, hand_after, hand_of, step_of, switched_at}
use Rattle.k_switch.specs.Carriers.{can_ask_in, is_open_in, step_in, switched_in}
use Rattle.k_switch.specs.Carriers as carriers

-- what can be told to ask again is asked for its step
asks_again : (c : SwitchCall) (l : SwitchLocation) → Again (ask_of c (at_of l)) (λ r. can_ask l ≡ is_none (switched_at l))
asks_again c location.AcquireReady = λ j. refl
asks_again c (location.Locked (LoadGoal goal) lists) = tt
asks_again c (location.Locked (LoadStart back number) lists) = tt
asks_again c (location.Locked (ReleaseReady back started) lists) = tt
asks_again c (location.ListsReturned s) = tt
asks_again c (location.Finished s) = tt

pub again_onward : (s : Switch) (a : Answer) → suits (step_of s) a ≡ true → is_again a ≡ true → can_ask s.location ≡ is_none (switched_at s.location)
again_onward s a suiting again =
    let ask = ask_of s.call (at_of s.location) in
    let hand = hand_after s.call (hand_of s.location) (at_of s.location) plain.Released in
    again_by ask (response_of a ask) (λ r. can_ask s.location ≡ is_none (switched_at s.location)) (suits_heard ask hand a suiting) (sym (again_heard ask a) ∙ again) (asks_again s.call s.location)

pub carrier_again_onward : (k : CarrierContext) (a : Answer) → carriers.is_open k ≡ true → suits (carriers.step_of k) a ≡ true → is_again a ≡ true → carriers.can_ask k ≡ is_none (carriers.switched_of k)
carrier_again_onward k a asked suiting again = go k.switch asked suiting
  where
    go : (o : Option Switch) → is_open_in o ≡ true → suits (step_in o) a ≡ true → can_ask_in o ≡ is_none (switched_in o)
    go None e s = absurd (false≢true e)
    go (Some w) e s = again_onward w a s again
