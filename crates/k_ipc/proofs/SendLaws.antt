-- The table of a send: what holds of each location.
use Rattle.std.proofs.Common.{◌≡◌, ℕ, Bool, true, false, Option, None, refl, sym, ◌∙◌}
use Rattle.std.proofs.lemmas.Bool.{cond_both, false≢true}
use Rattle.std.specs.Prelude.{if◌then◌else◌}
use Rattle.k_ids.specs.declared.calls.Reply.{Reply}
use Rattle.k_ids.specs.declared.calls.Reply.TheVariants as reply
use Rattle.k_ids.specs.declared.state_word.StateWord.{StateWord}
use Rattle.k_ids.specs.StateWords.{state_word_of}
use Rattle.k_locks.specs.declared.steps.Answer.{Answer}
use Rattle.k_locks.specs.Asks as asks
use Rattle.k_locks.specs.Asks.{Response, hand_asked, Got, Released, Word, loaded}
use Rattle.k_locks.specs.declared.steps.Went.{Went}
use Rattle.k_locks.specs.declared.steps.Went.TheVariants as went
use Rattle.k_locks.specs.Hands.{Hand, hand_with, trimmed}
use Rattle.k_locks.specs.Shown.{is_dead}
use Rattle.k_locks.proofs.Responses.{Again, Each, again_by, again_heard, made_by, suits_heard}
use Rattle.k_ipc.specs.Words.{alive_or_dead}
use Rattle.k_locks.specs.Steps.{goes_on, is_again, suits}
use Rattle.k_ipc.specs.declared.send.SendCall.{SendCall}
use Rattle.k_ipc.specs.declared.send.Manner.{Manner}
use Rattle.k_ipc.specs.declared.send.Manner.TheVariants as manner
use Rattle.k_ipc.specs.declared.send.SendLocation.{SendLocation}
use Rattle.k_ipc.specs.declared.send.SendRelease.TheVariants as release
use Rattle.k_ipc.specs.declared.send.SendLocation.TheVariants as location
use Rattle.k_ipc.specs.declared.send.SendLocked.TheVariants.{LoadReceiver, StoreMail, CommitPass, WakeReceiver, ReloadReceiver, AcquireReady, CommitWait, Release}
use Rattle.k_ipc.specs.declared.send.SendOutside.TheVariants.{LoadCaller, AcquireReceiver, CheckCaller, Ended}
use Rattle.k_ipc.specs.declared.send.SendPushing.{SendPushing}
use Rattle.k_ipc.specs.declared.send.SendPushing.TheVariants.{PushReceiver}
use Rattle.k_ipc.specs.declared.send.SendSection.{SendSection}
use Rattle.k_ipc.specs.SendTable.{IsSound, SendAt, Outside, Locked, Pushing, ask_of, asked, asked_location, at_of, can_ask, hand_after, hand_of, heard, is_open, leads, location_with, locks_of, moved, next_of, passed_end, points, pushed_at, resumed, step_of, went_at, went_of}

pub at_with : (h : Hand) (p : SendAt) → at_of (location_with h p) ≡ p
at_with h (Outside p) = refl
at_with h (Locked p) = refl
at_with h (Pushing p) = refl

pub hand_with_trimmed : (c : SendCall) (h : Hand) (p : SendAt) → hand_of (location_with h p) ≡ trimmed (locks_of c p) h
hand_with_trimmed c h (Outside p) = refl
hand_with_trimmed c h (Locked p) = refl
hand_with_trimmed c h (Pushing p) = refl

pub location_back : (l : SendLocation) → can_ask l ≡ true → location_with (hand_of l) (at_of l) ≡ l
location_back (location.Outside p) e = refl
location_back (location.Locked p q) e = refl
location_back (location.Pushing p q r) e = refl
location_back (location.ListsReturned p q) e = absurd (false≢true e)
location_back (location.QueueReturned r) e = absurd (false≢true e)

-- how a section goes on, by where it stands then
pub went_is : (s : SendSection) (a : Answer) (r : Option ℕ) → asks.is_again (heard s a) ≡ false → r ≡ pushed_at (at_of s.location) → went_at r (at_of (moved s a).location) ≡ went_of s.call (hand_of s.location) (at_of s.location) (heard s a)
went_is s a r e p =
    let w = at_with (hand_with a (hand_after s.call (hand_of s.location) (at_of s.location) (heard s a))) (leads s.call (hand_of s.location) (at_of s.location) (heard s a)) in
    rw (e, p, w) refl

-- no event comes with a lock, or while the ready lock is held
pub none_got : (c : SendCall) (w : StateWord) (h : Hand) (p : SendAt) → points c w h p Got ≡ None
none_got c w h (Outside LoadCaller) = refl
none_got c w h (Outside AcquireReceiver) = refl
none_got c w h (Outside (CheckCaller r)) = refl
none_got c w h (Outside (Ended v)) = refl
none_got c w h (Locked LoadReceiver) = refl
none_got c w h (Locked (StoreMail v)) = refl
none_got c w h (Locked (CommitPass v)) = refl
none_got c w h (Locked (WakeReceiver v)) = refl
none_got c w h (Locked ReloadReceiver) = refl
none_got c w h (Locked (AcquireReady priority)) = refl
none_got c w h (Locked CommitWait) = refl
none_got c w h (Locked (Release r)) = refl
none_got c w h (Pushing p) = refl

pub none_pushing : (c : SendCall) (w : StateWord) (h : Hand) (p : SendPushing) (r : Response) → points c w h (Pushing p) r ≡ None
none_pushing c w h p r = refl

-- a section that was asked stands where it stood
pub asked_at : (l : SendLocation) → at_of (asked_location l) ≡ at_of l
asked_at (location.Outside p) = refl
asked_at (location.Locked LoadReceiver q) = refl
asked_at (location.Locked (StoreMail w) q) = refl
asked_at (location.Locked (CommitPass w) q) = refl
asked_at (location.Locked (WakeReceiver w) q) = refl
asked_at (location.Locked ReloadReceiver q) = refl
asked_at (location.Locked (AcquireReady priority) q) = refl
asked_at (location.Locked CommitWait q) = refl
asked_at (location.Locked (Release r) q) = refl
asked_at (location.Pushing p q r) = refl
asked_at (location.ListsReturned p q) = refl
asked_at (location.QueueReturned r) = refl

-- and has in hand what doesn't go with its release
pub asked_hand : (c : SendCall) (own : StateWord) (l : SendLocation) → can_ask l ≡ true → hand_of (asked_location l) ≡ hand_asked (ask_of c own (at_of l)) (hand_of l)
asked_hand c own (location.Outside LoadCaller) e = refl
asked_hand c own (location.Outside AcquireReceiver) e = refl
asked_hand c own (location.Outside (CheckCaller r)) e = refl
asked_hand c own (location.Outside (Ended w)) e = refl
asked_hand c own (location.Locked LoadReceiver q) e = refl
asked_hand c own (location.Locked (StoreMail w) q) e = refl
asked_hand c own (location.Locked (CommitPass w) q) e = refl
asked_hand c own (location.Locked (WakeReceiver w) q) e = refl
asked_hand c own (location.Locked ReloadReceiver q) e = refl
asked_hand c own (location.Locked (AcquireReady priority) q) e = refl
asked_hand c own (location.Locked CommitWait q) e = refl
asked_hand c own (location.Locked (Release r) q) e = refl
asked_hand c own (location.Pushing (PushReceiver priority) q i) e = refl
asked_hand c own (location.ListsReturned (PushReceiver priority) q) e = absurd (false≢true e)
asked_hand c own (location.QueueReturned r) e = absurd (false≢true e)

pub asked_sound : (s : SendSection) → IsSound s → IsSound (asked s)
asked_sound s h = record { caller = h.caller; to = h.to; own = h.own; located = rw (asked_at s.location) h.located }

-- it can be answered as it could before
pub asked_suits : (s : SendSection) (a : Answer) → suits (step_of s) a ≡ true → suits (step_of (asked s)) a ≡ true
asked_suits s a e = go s.call s.own s.location a e
  where
    go : (c : SendCall) (own : StateWord) (l : SendLocation) (a : Answer) → suits (next_of c own (hand_of l) (at_of l)) a ≡ true → suits (next_of c own (hand_of (asked_location l)) (at_of (asked_location l))) a ≡ true
    go c own (location.Outside p) a e = e
    go c own (location.Locked LoadReceiver q) a e = e
    go c own (location.Locked (StoreMail w) q) a e = e
    go c own (location.Locked (CommitPass w) q) a e = e
    go c own (location.Locked (WakeReceiver w) q) a e = e
    go c own (location.Locked ReloadReceiver q) a e = e
    go c own (location.Locked (AcquireReady priority) q) a e = e
    go c own (location.Locked CommitWait q) a e = e
    go c own (location.Locked (Release r) q) a e = e
    go c own (location.Pushing (PushReceiver priority) q r) a e = e
    go c own (location.ListsReturned p q) a e = e
    go c own (location.QueueReturned r) a e = e

-- no location loads mail, and only a release changes what is in hand
pub hears_word : (c : SendCall) (own : StateWord) (p : SendAt) (bits : ℕ) → loaded bits (ask_of c own p) ≡ Word (state_word_of bits)
hears_word c own (Outside LoadCaller) bits = refl
hears_word c own (Outside AcquireReceiver) bits = refl
hears_word c own (Outside (CheckCaller r)) bits = refl
hears_word c own (Outside (Ended w)) bits = refl
hears_word c own (Locked LoadReceiver) bits = refl
hears_word c own (Locked (StoreMail w)) bits = refl
hears_word c own (Locked (CommitPass w)) bits = refl
hears_word c own (Locked (WakeReceiver w)) bits = refl
hears_word c own (Locked ReloadReceiver) bits = refl
hears_word c own (Locked (AcquireReady priority)) bits = refl
hears_word c own (Locked CommitWait) bits = refl
hears_word c own (Locked (Release r)) bits = refl
hears_word c own (Pushing (PushReceiver priority)) bits = refl

-- HOW A SECTION GOES ON

dead_ends : (w : StateWord) (r : Reply) → goes_on (alive_or_dead w r) ≡ false
dead_ends w r = cond_both (is_dead w) _ _ (λ (e : Went). goes_on e ≡ false) (λ _. refl) (λ _. refl)

passed_ends : (m : Manner) → goes_on (passed_end m) ≡ false
passed_ends manner.Plain = refl
passed_ends manner.Joined = refl
passed_ends manner.Reply = refl

-- it has a next step exactly where it isn't over
abbrev GoesOn : SendCall → Hand → SendAt → Response → Type 0
GoesOn c h p r = is_open (leads c h p r) ≡ goes_on (went_at (pushed_at p) (leads c h p r))

onward : (c : SendCall) (own : StateWord) (h : Hand) (p : SendAt) → is_open p ≡ true → Each (ask_of c own p) (GoesOn c h p)
onward c own h (Outside LoadCaller) e = λ w. sym (dead_ends w reply.Own)
onward c own h (Outside AcquireReceiver) e = refl
onward c own h (Outside (CheckCaller r)) e = λ w. sym (dead_ends w r)
onward c own h (Outside (Ended w)) e = absurd (false≢true e)
onward c own h (Locked LoadReceiver) e = λ w. refl
onward c own h (Locked (StoreMail w)) e = refl
onward c own h (Locked (CommitPass w)) e = (refl, λ v. refl)
onward c own h (Locked (WakeReceiver w)) e = (refl, λ v. refl)
onward c own h (Locked ReloadReceiver) e = λ w. refl
onward c own h (Locked (AcquireReady priority)) e = refl
onward c own h (Locked CommitWait) e = (refl, λ v. refl)
onward c own h (Locked (Release release.Passed)) e = sym (passed_ends c.manner)
onward c own h (Locked (Release release.Dead)) e = refl
onward c own h (Locked (Release (release.Refused r))) e = refl
onward c own h (Locked (Release release.Queued)) e = refl
onward c own h (Pushing (PushReceiver priority)) e = refl

open_asks : (h : Hand) (p : SendAt) → can_ask (location_with h p) ≡ is_open p
open_asks h (Outside LoadCaller) = refl
open_asks h (Outside AcquireReceiver) = refl
open_asks h (Outside (CheckCaller r)) = refl
open_asks h (Outside (Ended w)) = refl
open_asks h (Locked p) = refl
open_asks h (Pushing p) = refl

-- one that has to ask again can
asks_again : (c : SendCall) (own : StateWord) (l : SendLocation) → Again (ask_of c own (at_of l)) (λ r. can_ask l ≡ true)
asks_again c own (location.Outside LoadCaller) = tt
asks_again c own (location.Outside AcquireReceiver) = λ j. refl
asks_again c own (location.Outside (CheckCaller r)) = tt
asks_again c own (location.Outside (Ended w)) = tt
asks_again c own (location.Locked LoadReceiver q) = tt
asks_again c own (location.Locked (StoreMail w) q) = tt
asks_again c own (location.Locked (CommitPass w) q) = tt
asks_again c own (location.Locked (WakeReceiver w) q) = tt
asks_again c own (location.Locked ReloadReceiver q) = tt
asks_again c own (location.Locked (AcquireReady priority) q) = λ j. refl
asks_again c own (location.Locked CommitWait q) = tt
asks_again c own (location.Locked (Release r) q) = tt
asks_again c own (location.Pushing (PushReceiver priority) q r) = tt
asks_again c own (location.ListsReturned (PushReceiver priority) q) = tt
asks_again c own (location.QueueReturned r) = tt

pub resumed_onward : (s : SendSection) (a : Answer) → is_open (at_of s.location) ≡ true → suits (step_of s) a ≡ true → can_ask (resumed s a).location ≡ goes_on (went_of s.call (hand_of s.location) (at_of s.location) (heard s a))
resumed_onward s a up fits =
    let ask = ask_of s.call s.own (at_of s.location) in
    let suiting = suits_heard ask (hand_after s.call (hand_of s.location) (at_of s.location) Released) a fits in
    let h = hand_with a (hand_after s.call (hand_of s.location) (at_of s.location) (heard s a)) in
    let q = leads s.call (hand_of s.location) (at_of s.location) (heard s a) in
    let told = again_heard ask a in
    go (is_again a) refl told (λ e. again_by ask (heard s a) (λ r. can_ask s.location ≡ true) suiting e (asks_again s.call s.own s.location))
    (λ e. open_asks h q ∙ made_by ask (heard s a) (GoesOn s.call (hand_of s.location) (at_of s.location)) suiting e (onward s.call s.own (hand_of s.location) (at_of s.location) up))
  where
    go : (b : Bool) → is_again a ≡ b → is_again a ≡ asks.is_again (heard s a) → (asks.is_again (heard s a) ≡ true → can_ask s.location ≡ true)
        → (asks.is_again (heard s a) ≡ false → can_ask (moved s a).location ≡ goes_on (went_at (pushed_at (at_of s.location)) (leads s.call (hand_of s.location) (at_of s.location) (heard s a))))
        → can_ask (if b then s else moved s a).location ≡ goes_on (if asks.is_again (heard s a) then went.Again else went_at (pushed_at (at_of s.location)) (leads s.call (hand_of s.location) (at_of s.location) (heard s a)))
    go true e told again other = let r = sym told ∙ e in rw r (again r)
    go false e told again other = let r = sym told ∙ e in rw r (other r)
