-- A switch is where it stands and what it has in hand, and goes on from what is left in it as its table says.
use Rattle.std.proofs.Common.{◌≡◌, true, false, refl}
use Rattle.std.proofs.lemmas.Bool.{false≢true}
use Rattle.k_locks.specs.declared.steps.Answer.{Answer}
use Rattle.k_locks.specs.Asks.{Response, is_again, suits_response}
use Rattle.k_locks.specs.Hands.{Hand, hand_with, trimmed}
use Rattle.k_locks.proofs.Responses.{made_by}
use Rattle.k_switch.specs.declared.switch.SwitchCall.{SwitchCall}
use Rattle.k_switch.specs.declared.switch.SwitchLocked.TheVariants.{LoadGoal, LoadStart, ReleaseReady}
use Rattle.k_switch.specs.declared.switch.SwitchLocation.{SwitchLocation}
use Rattle.k_switch.specs.declared.switch.SwitchLocation.TheVariants as location
use Rattle.k_switch.specs.Switches.{SwitchAt, AcquireReady, Locked, Returned, Finished, ask_of, asked_location, at_of, can_ask, hand_after, hand_of, leads, location_with, locks_of, moved_location}

pub at_with : (h : Hand) (p : SwitchAt) → at_of (location_with h p) ≡ p
at_with h AcquireReady = refl
at_with h (Locked p) = refl
at_with h (Returned s) = refl
at_with h (Finished s) = refl

pub hand_kept : (h : Hand) (p : SwitchAt) → can_ask (location_with h p) ≡ true → hand_of (location_with h p) ≡ trimmed (locks_of p) h
hand_kept h AcquireReady e = refl
hand_kept h (Locked p) e = refl
hand_kept h (Returned s) e = absurd (false≢true e)
hand_kept h (Finished s) e = absurd (false≢true e)

pub with_both : (l : SwitchLocation) → can_ask l ≡ true → location_with (hand_of l) (at_of l) ≡ l
with_both location.AcquireReady e = refl
with_both (location.Locked p lists) e = refl
with_both (location.ListsReturned s) e = absurd (false≢true e)
with_both (location.Finished s) e = absurd (false≢true e)

-- an answer leads from what is left in the switch to where the table leads
abbrev Answered : SwitchCall → SwitchLocation → Answer → Response → Type 0
Answered c l a r = at_of (moved_location c (hand_of (asked_location c l)) (at_of (asked_location c l)) a r) ≡ leads c (hand_of l) (at_of l) r

pub answered : (c : SwitchCall) (l : SwitchLocation) (a : Answer) (r : Response) → can_ask l ≡ true → suits_response (ask_of c (at_of l)) r ≡ true → is_again r ≡ false → Answered c l a r
answered c location.AcquireReady a r e s m = at_with (hand_with a (hand_after c (hand_of location.AcquireReady) AcquireReady r)) (leads c (hand_of location.AcquireReady) AcquireReady r)
answered c (location.Locked (LoadGoal goal) lists) a r e s m =
    let hand = hand_of (location.Locked (LoadGoal goal) lists) in
    at_with (hand_with a (hand_after c hand (Locked (LoadGoal goal)) r)) (leads c hand (Locked (LoadGoal goal)) r)
answered c (location.Locked (LoadStart back number) lists) a r e s m =
    let hand = hand_of (location.Locked (LoadStart back number) lists) in
    at_with (hand_with a (hand_after c hand (Locked (LoadStart back number)) r)) (leads c hand (Locked (LoadStart back number)) r)
answered c (location.Locked (ReleaseReady back started) lists) a r e s m = made_by (ask_of c (Locked (ReleaseReady back started))) r (Answered c (location.Locked (ReleaseReady back started) lists) a) s m refl
answered c (location.ListsReturned s) a r e t m = absurd (false≢true e)
answered c (location.Finished s) a r e t m = absurd (false≢true e)
