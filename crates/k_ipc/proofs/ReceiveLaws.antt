-- The table of a receive: what holds of each location.
use Rattle.std.proofs.Common.{◌≡◌, ℕ, Bool, true, false, Option, Some, None, refl, sym, ◌∙◌}
use Rattle.std.proofs.lemmas.Bool.{cond_both, false≢true}
use Rattle.std.specs.Prelude.{if◌then◌else◌}
use Rattle.k_ids.specs.declared.calls.Reply.{Reply}
use Rattle.k_ids.specs.declared.calls.Reply.TheVariants as reply
use Rattle.k_ids.specs.declared.state_word.StateWord.{StateWord}
use Rattle.k_ids.specs.StateWords.{state_word_of}
use Rattle.k_locks.specs.declared.steps.Answer.{Answer}
use Rattle.k_locks.specs.Asks as asks
use Rattle.k_locks.specs.Asks.{Response, hand_asked, Got, Released, Won, Word, loaded}
use Rattle.k_locks.specs.declared.steps.Went.{Went}
use Rattle.k_locks.specs.declared.steps.Went.TheVariants as went
use Rattle.k_locks.specs.Hands.{Hand, hand_with, trimmed}
use Rattle.k_locks.specs.Shown.{is_dead}
use Rattle.k_locks.proofs.Responses.{Again, Each, again_by, again_heard, made_by, suits_heard}
use Rattle.k_ipc.specs.Words.{alive_or_dead}
use Rattle.k_locks.specs.Steps.{goes_on, is_again, suits}
use Rattle.k_ipc.specs.declared.receive.ReceiveCall.{ReceiveCall}
use Rattle.k_ipc.specs.declared.receive.ReceiveLocation.{ReceiveLocation}
use Rattle.k_ipc.specs.declared.receive.ReceiveLocation.TheVariants as location
use Rattle.k_ipc.specs.declared.receive.ReceiveLocked.{ReceiveLocked}
use Rattle.k_ipc.specs.declared.receive.ReceiveLocked.TheVariants.{LoadOwn, LoadSender, FreeSender, AcquireReady, CommitWait, LoadPartner, CommitGone, LoadPicking, LoadNext, FreeNext, EndPick, SettlePick, Release}
use Rattle.k_ipc.specs.declared.receive.ReceiveOutside.TheVariants.{LoadCaller, AcquireOwn, Ended}
use Rattle.k_ipc.specs.declared.receive.ReceivePushing.{ReceivePushing}
use Rattle.k_ipc.specs.declared.receive.ReceiveRelease.{ReceiveRelease}
use Rattle.k_ipc.specs.declared.receive.ReceiveRelease.TheVariants as release
use Rattle.k_ipc.specs.declared.receive.ReceivePushing.TheVariants.{LoadFreed, PushFreed}
use Rattle.k_ipc.specs.declared.receive.ReceiveSection.{ReceiveSection}
use Rattle.k_ipc.specs.ReceiveTable.{IsSound, IsSoundLocation, ReceiveAt, Outside, Locked, Pushing, ask_of, asked, asked_location, at_of, can_ask, hand_after, hand_of, heard, is_open, is_pushed, leads, location_with, locks_of, moved, next_of, points, pushed_at, released_end, resumed, step_of, went_at, went_of}

pub at_with : (h : Hand) (p : ReceiveAt) → at_of (location_with h p) ≡ p
at_with h (Outside p) = refl
at_with h (Locked p) = refl
at_with h (Pushing p) = refl

pub hand_with_trimmed : (c : ReceiveCall) (h : Hand) (p : ReceiveAt) → hand_of (location_with h p) ≡ trimmed (locks_of c p) h
hand_with_trimmed c h (Outside p) = refl
hand_with_trimmed c h (Locked p) = refl
hand_with_trimmed c h (Pushing p) = refl

pub location_back : (l : ReceiveLocation) → can_ask l ≡ true → location_with (hand_of l) (at_of l) ≡ l
location_back (location.Outside p) e = refl
location_back (location.Locked p q) e = refl
location_back (location.Pushing p q r) e = refl
location_back (location.ListsReturned d w q) e = absurd (false≢true e)
location_back (location.QueueReturned r) e = absurd (false≢true e)

-- how a section goes on, by where it stands then
pub went_is : (s : ReceiveSection) (a : Answer) (r : Option ℕ) → asks.is_again (heard s a) ≡ false → r ≡ pushed_at (at_of s.location) → went_at r (at_of (moved s a).location) ≡ went_of s.call (hand_of s.location) (at_of s.location) (heard s a)
went_is s a r e p =
    let w = at_with (hand_with a (hand_after s.call (hand_of s.location) (at_of s.location) (heard s a))) (leads s.call (hand_of s.location) (at_of s.location) (heard s a)) in
    rw (e, p, w) refl

-- no event comes with a lock, or while the ready lock is held
pub none_got : (c : ReceiveCall) (w : StateWord) (h : Hand) (p : ReceiveAt) → points c w h p Got ≡ None
none_got c w h (Outside LoadCaller) = refl
none_got c w h (Outside AcquireOwn) = refl
none_got c w h (Outside (Ended v)) = refl
none_got c w h (Locked LoadOwn) = refl
none_got c w h (Locked (LoadSender d)) = refl
none_got c w h (Locked (FreeSender d v)) = refl
none_got c w h (Locked (AcquireReady d)) = refl
none_got c w h (Locked CommitWait) = refl
none_got c w h (Locked (LoadPartner from)) = refl
none_got c w h (Locked (CommitGone from)) = refl
none_got c w h (Locked LoadPicking) = refl
none_got c w h (Locked (LoadNext d)) = refl
none_got c w h (Locked (FreeNext d v)) = refl
none_got c w h (Locked (EndPick d v)) = refl
none_got c w h (Locked SettlePick) = refl
none_got c w h (Locked (Release r)) = refl
none_got c w h (Pushing p) = refl

pub none_pushing : (c : ReceiveCall) (w : StateWord) (h : Hand) (p : ReceivePushing) (r : Response) → points c w h (Pushing p) r ≡ None
none_pushing c w h p r = refl

-- a section that was asked stands where it stood
pub asked_at : (l : ReceiveLocation) → at_of (asked_location l) ≡ at_of l
asked_at (location.Outside p) = refl
asked_at (location.Locked LoadOwn q) = refl
asked_at (location.Locked (LoadSender d) q) = refl
asked_at (location.Locked (FreeSender d w) q) = refl
asked_at (location.Locked (AcquireReady d) q) = refl
asked_at (location.Locked CommitWait q) = refl
asked_at (location.Locked (LoadPartner from) q) = refl
asked_at (location.Locked (CommitGone from) q) = refl
asked_at (location.Locked LoadPicking q) = refl
asked_at (location.Locked (LoadNext d) q) = refl
asked_at (location.Locked (FreeNext d w) q) = refl
asked_at (location.Locked (EndPick d w) q) = refl
asked_at (location.Locked SettlePick q) = refl
asked_at (location.Locked (Release r) q) = refl
asked_at (location.Pushing (LoadFreed d) q r) = refl
asked_at (location.Pushing (PushFreed d w) q r) = refl
asked_at (location.ListsReturned d w q) = refl
asked_at (location.QueueReturned r) = refl

-- and has in hand what doesn't go with its release
pub asked_hand : (c : ReceiveCall) (own : StateWord) (l : ReceiveLocation) → can_ask l ≡ true → hand_of (asked_location l) ≡ hand_asked (ask_of c own (at_of l)) (hand_of l)
asked_hand c own (location.Outside LoadCaller) e = refl
asked_hand c own (location.Outside AcquireOwn) e = refl
asked_hand c own (location.Outside (Ended w)) e = refl
asked_hand c own (location.Locked LoadOwn q) e = refl
asked_hand c own (location.Locked (LoadSender d) q) e = refl
asked_hand c own (location.Locked (FreeSender d w) q) e = refl
asked_hand c own (location.Locked (AcquireReady d) q) e = refl
asked_hand c own (location.Locked CommitWait q) e = refl
asked_hand c own (location.Locked (LoadPartner from) q) e = refl
asked_hand c own (location.Locked (CommitGone from) q) e = refl
asked_hand c own (location.Locked LoadPicking q) e = refl
asked_hand c own (location.Locked (LoadNext d) q) e = refl
asked_hand c own (location.Locked (FreeNext d w) q) e = refl
asked_hand c own (location.Locked (EndPick d w) q) e = refl
asked_hand c own (location.Locked SettlePick q) e = refl
asked_hand c own (location.Locked (Release r) q) e = refl
asked_hand c own (location.Pushing (LoadFreed d) q i) e = refl
asked_hand c own (location.Pushing (PushFreed d w) q i) e = refl
asked_hand c own (location.ListsReturned d w q) e = absurd (false≢true e)
asked_hand c own (location.QueueReturned r) e = absurd (false≢true e)

located : (c : ReceiveCall) (l : ReceiveLocation) → IsSoundLocation c l → IsSoundLocation c (asked_location l)
located c (location.Outside p) h = h
located c (location.Locked LoadOwn q) h = h
located c (location.Locked (LoadSender d) q) h = h
located c (location.Locked (FreeSender d w) q) h = h
located c (location.Locked (AcquireReady d) q) h = h
located c (location.Locked CommitWait q) h = h
located c (location.Locked (LoadPartner from) q) h = h
located c (location.Locked (CommitGone from) q) h = h
located c (location.Locked LoadPicking q) h = h
located c (location.Locked (LoadNext d) q) h = h
located c (location.Locked (FreeNext d w) q) h = h
located c (location.Locked (EndPick d w) q) h = h
located c (location.Locked SettlePick q) h = h
located c (location.Locked (Release r) q) h = tt
located c (location.Pushing (LoadFreed d) q r) h = h
located c (location.Pushing (PushFreed d w) q r) h = h.0
located c (location.ListsReturned d w q) h = h
located c (location.QueueReturned r) h = h

pub asked_sound : (s : ReceiveSection) → IsSound s → IsSound (asked s)
asked_sound s h = record { caller = h.caller; from = h.from; own = h.own; located = located s.call s.location h.located }

-- it can be answered as it could before
pub asked_suits : (s : ReceiveSection) (a : Answer) → suits (step_of s) a ≡ true → suits (step_of (asked s)) a ≡ true
asked_suits s a e = go s.call s.own s.location a e
  where
    go : (c : ReceiveCall) (own : StateWord) (l : ReceiveLocation) (a : Answer) → suits (next_of c own (hand_of l) (at_of l)) a ≡ true → suits (next_of c own (hand_of (asked_location l)) (at_of (asked_location l))) a ≡ true
    go c own (location.Outside p) a e = e
    go c own (location.Locked LoadOwn q) a e = e
    go c own (location.Locked (LoadSender d) q) a e = e
    go c own (location.Locked (FreeSender d w) q) a e = e
    go c own (location.Locked (AcquireReady d) q) a e = e
    go c own (location.Locked CommitWait q) a e = e
    go c own (location.Locked (LoadPartner from) q) a e = e
    go c own (location.Locked (CommitGone from) q) a e = e
    go c own (location.Locked LoadPicking q) a e = e
    go c own (location.Locked (LoadNext d) q) a e = e
    go c own (location.Locked (FreeNext d w) q) a e = e
    go c own (location.Locked (EndPick d w) q) a e = e
    go c own (location.Locked SettlePick q) a e = e
    go c own (location.Locked (Release r) q) a e = e
    go c own (location.Pushing (LoadFreed d) q r) a e = e
    go c own (location.Pushing (PushFreed d w) q r) a e = e
    go c own (location.ListsReturned d w q) a e = e
    go c own (location.QueueReturned r) a e = e

-- no location loads mail, and only a release changes what is in hand
pub hears_word : (c : ReceiveCall) (own : StateWord) (p : ReceiveAt) (bits : ℕ) → loaded bits (ask_of c own p) ≡ Word (state_word_of bits)
hears_word c own (Outside LoadCaller) bits = refl
hears_word c own (Outside AcquireOwn) bits = refl
hears_word c own (Outside (Ended w)) bits = refl
hears_word c own (Locked LoadOwn) bits = refl
hears_word c own (Locked (LoadSender d)) bits = refl
hears_word c own (Locked (FreeSender d w)) bits = refl
hears_word c own (Locked (AcquireReady d)) bits = refl
hears_word c own (Locked CommitWait) bits = refl
hears_word c own (Locked (LoadPartner from)) bits = refl
hears_word c own (Locked (CommitGone from)) bits = refl
hears_word c own (Locked LoadPicking) bits = refl
hears_word c own (Locked (LoadNext d)) bits = refl
hears_word c own (Locked (FreeNext d w)) bits = refl
hears_word c own (Locked (EndPick d w)) bits = refl
hears_word c own (Locked SettlePick) bits = refl
hears_word c own (Locked (Release r)) bits = refl
hears_word c own (Pushing (LoadFreed d)) bits = refl
hears_word c own (Pushing (PushFreed d w)) bits = refl

pub won_keeps : (c : ReceiveCall) (h : Hand) (p : ReceiveLocked) → hand_after c h (Locked p) Won ≡ h
won_keeps c h LoadOwn = refl
won_keeps c h (LoadSender d) = refl
won_keeps c h (FreeSender d w) = refl
won_keeps c h (AcquireReady d) = refl
won_keeps c h CommitWait = refl
won_keeps c h (LoadPartner from) = refl
won_keeps c h (CommitGone from) = refl
won_keeps c h LoadPicking = refl
won_keeps c h (LoadNext d) = refl
won_keeps c h (FreeNext d w) = refl
won_keeps c h (EndPick d w) = refl
won_keeps c h SettlePick = refl
won_keeps c h (Release (release.Taken d)) = refl
won_keeps c h (Release release.Waits) = refl
won_keeps c h (Release release.Delivered) = refl
won_keeps c h (Release release.Gone) = refl
won_keeps c h (Release release.Nobody) = refl
won_keeps c h (Release release.Dead) = refl

-- HOW A SECTION GOES ON

dead_ends : (w : StateWord) (r : Reply) → goes_on (alive_or_dead w r) ≡ false
dead_ends w r = cond_both (is_dead w) _ _ (λ (e : Went). goes_on e ≡ false) (λ _. refl) (λ _. refl)

released_ends : (r : ReceiveRelease) → goes_on (released_end r) ≡ false
released_ends (release.Taken d) = refl
released_ends release.Waits = refl
released_ends release.Delivered = refl
released_ends release.Gone = refl
released_ends release.Nobody = refl
released_ends release.Dead = refl

-- it has a next step exactly where it isn't over
abbrev GoesOn : ReceiveCall → Hand → ReceiveAt → Response → Type 0
GoesOn c h p r = is_open (leads c h p r) ≡ goes_on (went_at (pushed_at p) (leads c h p r))

onward : (c : ReceiveCall) (own : StateWord) (h : Hand) (p : ReceiveAt) → is_open p ≡ true → Each (ask_of c own p) (GoesOn c h p)
onward c own h (Outside LoadCaller) e = λ w. sym (dead_ends w reply.Own)
onward c own h (Outside AcquireOwn) e = refl
onward c own h (Outside (Ended w)) e = absurd (false≢true e)
onward c own h (Locked LoadOwn) e = λ w. refl
onward c own h (Locked (LoadSender d)) e = λ w. refl
onward c own h (Locked (FreeSender d w)) e = (refl, λ v. refl)
onward c own h (Locked (AcquireReady d)) e = refl
onward c own h (Locked CommitWait) e = (refl, λ v. refl)
onward c own h (Locked (LoadPartner from)) e = λ w. refl
onward c own h (Locked (CommitGone from)) e = (refl, λ v. refl)
onward c own h (Locked LoadPicking) e = λ w. refl
onward c own h (Locked (LoadNext d)) e = λ w. refl
onward c own h (Locked (FreeNext d w)) e = (refl, λ v. refl)
onward c own h (Locked (EndPick d w)) e = (refl, λ v. refl)
onward c own h (Locked SettlePick) e = (refl, λ v. refl)
onward c own h (Locked (Release r)) e = sym (released_ends r)
onward c own h (Pushing (LoadFreed d)) e = λ w. refl
onward c own h (Pushing (PushFreed d w)) e = pushes (is_pushed d w)
  where
    pushes : (b : Bool) → true ≡ goes_on (went_at (if b then Some w.priority else None) (Locked (Release (release.Taken d))))
    pushes true = refl
    pushes false = refl

open_asks : (h : Hand) (p : ReceiveAt) → can_ask (location_with h p) ≡ is_open p
open_asks h (Outside LoadCaller) = refl
open_asks h (Outside AcquireOwn) = refl
open_asks h (Outside (Ended w)) = refl
open_asks h (Locked p) = refl
open_asks h (Pushing p) = refl

-- one that has to ask again can
asks_again : (c : ReceiveCall) (own : StateWord) (l : ReceiveLocation) → Again (ask_of c own (at_of l)) (λ r. can_ask l ≡ true)
asks_again c own (location.Outside LoadCaller) = tt
asks_again c own (location.Outside AcquireOwn) = λ j. refl
asks_again c own (location.Outside (Ended w)) = tt
asks_again c own (location.Locked LoadOwn q) = tt
asks_again c own (location.Locked (LoadSender d) q) = tt
asks_again c own (location.Locked (FreeSender d w) q) = tt
asks_again c own (location.Locked (AcquireReady d) q) = λ j. refl
asks_again c own (location.Locked CommitWait q) = tt
asks_again c own (location.Locked (LoadPartner from) q) = tt
asks_again c own (location.Locked (CommitGone from) q) = tt
asks_again c own (location.Locked LoadPicking q) = tt
asks_again c own (location.Locked (LoadNext d) q) = tt
asks_again c own (location.Locked (FreeNext d w) q) = tt
asks_again c own (location.Locked (EndPick d w) q) = tt
asks_again c own (location.Locked SettlePick q) = tt
asks_again c own (location.Locked (Release r) q) = tt
asks_again c own (location.Pushing (LoadFreed d) q r) = tt
asks_again c own (location.Pushing (PushFreed d w) q r) = tt
asks_again c own (location.ListsReturned d w q) = tt
asks_again c own (location.QueueReturned r) = tt

pub resumed_onward : (s : ReceiveSection) (a : Answer) → is_open (at_of s.location) ≡ true → suits (step_of s) a ≡ true → can_ask (resumed s a).location ≡ goes_on (went_of s.call (hand_of s.location) (at_of s.location) (heard s a))
resumed_onward s a up fits =
    let ask = ask_of s.call s.own (at_of s.location) in
    let suiting = suits_heard ask (hand_after s.call (hand_of s.location) (at_of s.location) Released) a fits in
    let h = hand_with a (hand_after s.call (hand_of s.location) (at_of s.location) (heard s a)) in
    let q = leads s.call (hand_of s.location) (at_of s.location) (heard s a) in
    let told = again_heard ask a in
    go (is_again a) refl told (λ e. again_by ask (heard s a) (λ r. can_ask s.location ≡ true) suiting e (asks_again s.call s.own s.location))
    (λ e. open_asks h q ∙ made_by ask (heard s a) (GoesOn s.call (hand_of s.location) (at_of s.location)) suiting e (onward s.call s.own (hand_of s.location) (at_of s.location) up))
  where
    go : (b : Bool) → is_again a ≡ b → is_again a ≡ asks.is_again (heard s a) → (asks.is_again (heard s a) ≡ true → can_ask s.location ≡ true)
        → (asks.is_again (heard s a) ≡ false → can_ask (moved s a).location ≡ goes_on (went_at (pushed_at (at_of s.location)) (leads s.call (hand_of s.location) (at_of s.location) (heard s a))))
        → can_ask (if b then s else moved s a).location ≡ goes_on (if asks.is_again (heard s a) then went.Again else went_at (pushed_at (at_of s.location)) (leads s.call (hand_of s.location) (at_of s.location) (heard s a)))
    go true e told again other = let r = sym told ∙ e in rw r (again r)
    go false e told again other = let r = sym told ∙ e in rw r (other r)
