-- The table of a destroy: what holds of each location.
use Rattle.std.proofs.Common.{◌≡◌, Bool, true, false, [], inl, inr, refl, sym, ap, ◌∙◌, arith}
use Rattle.std.proofs.lemmas.Bool.{cases_Bool, false≢true}
use Rattle.std.proofs.lemmas.Grind.{common_steps}
use Rattle.std.specs.Prelude.{if◌then◌else◌}
use Rattle.k_ids.specs.declared.state_word.StateWord.{StateWord}
use Rattle.k_locks.specs.declared.goods.Goods.TheVariants as goods
use Rattle.k_locks.specs.declared.locks.Lock.TheVariants as lock
use Rattle.k_locks.specs.declared.steps.Answer.{Answer}
use Rattle.k_locks.specs.declared.steps.Step.TheVariants as step
use Rattle.k_locks.specs.declared.steps.Went.TheVariants as went
use Rattle.k_ids.specs.declared.calls.Reply.TheVariants as reply
use Rattle.k_locks.specs.Asks.{Response, hand_asked}
use Rattle.k_locks.specs.Asks as plain
use Rattle.k_locks.specs.Hands.{Hand, hand_with, trimmed}
use Rattle.k_locks.specs.Shown.{is_dead}
use Rattle.k_locks.specs.Steps.{goes_on, is_again, suits}
use Rattle.k_threads.specs.declared.destroy.DestroyCall.{DestroyCall}
use Rattle.k_threads.specs.declared.destroy.DestroyOutside.TheVariants.{LoadOwn, AcquireTable, Ended}
use Rattle.k_threads.specs.declared.destroy.DestroyLocked.TheVariants.{LoadCaller, AcquireVictimLock, AcquireReadyForVictim, RemoveContext, AcquireVisitedLock, Release}
use Rattle.k_threads.specs.declared.destroy.DestroyRelease.{DestroyRelease}
use Rattle.k_threads.specs.declared.destroy.DestroyRelease.TheVariants as release
use Rattle.k_threads.specs.declared.destroy.DestroyVictim.TheVariants.{LoadVictim, CommitKill, LoadSender, FreeSender, AcquireReadyForSender, ReleaseVictimLock, ReleaseVictimLockAbsent}
use Rattle.k_threads.specs.declared.destroy.DestroyVisit.TheVariants.{LoadVisited, FreeVisited, AcquireReadyForVisited, ReleaseVisitedLock}
use Rattle.k_threads.specs.declared.destroy.DestroyPushing.TheVariants.{PushSender, PushVisited}
use Rattle.k_threads.specs.declared.destroy.DestroyReturned.TheVariants as returned
use Rattle.k_threads.specs.declared.destroy.DestroyLocation.{DestroyLocation}
use Rattle.k_threads.specs.declared.destroy.DestroyLocation.TheVariants as location
use Rattle.k_threads.specs.DestroyTable.{DestroyAt, IsSoundLocation, Locked, Outside, Pushing, UnlistVictim, Victim, Visit, alive_or_dead, ask_of, asked_location, at_of, can_ask, hand_after, hand_of, is_open, leads, location_with, locks_of, pushed_at, released_end, resumed_location, response_at, next_of, went_at, resumed, resumed_went, heard, step_of, went_of}
use Rattle.k_threads.specs.Went.{makes, went_on}
use Rattle.k_threads.specs.Words.{done_after}
use Rattle.k_threads.specs.declared.destroy.DestroySection.{DestroySection}
use Rattle.k_locks.proofs.Responses.{again_heard}
use Rattle.k_threads.proofs.Steps.{never_unmade, on_again, same_answers}

-- A LOCATION AND WHAT IS IN HAND

pub at_with : (h : Hand) (p : DestroyAt) → at_of (location_with h p) ≡ p
at_with h (Outside p) = refl
at_with h (Locked p) = refl
at_with h (Victim p) = refl
at_with h (Visit p) = refl
at_with h UnlistVictim = refl
at_with h (Pushing p) = refl

pub hand_kept : (c : DestroyCall) (h : Hand) (p : DestroyAt) → hand_of (location_with h p) ≡ trimmed (locks_of c p) h
hand_kept c h (Outside p) = refl
hand_kept c h (Locked p) = refl
hand_kept c h (Victim p) = refl
hand_kept c h (Visit p) = refl
hand_kept c h UnlistVictim = refl
hand_kept c h (Pushing p) = refl

pub with_both : (l : DestroyLocation) → can_ask l ≡ true → location_with (hand_of l) (at_of l) ≡ l
with_both (location.Outside p) e = refl
with_both (location.Locked p numbers) e = refl
with_both (location.Victim p numbers queue) e = refl
with_both (location.Visit p numbers queue) e = refl
with_both (location.UnlistVictim numbers lists) e = refl
with_both (location.Pushing p numbers queue lists) e = refl
with_both (location.Returned r) e = absurd (false≢true e)

-- ASKED

pub asked_at : (l : DestroyLocation) → at_of (asked_location l) ≡ at_of l
asked_at (location.Outside LoadOwn) = refl
asked_at (location.Outside AcquireTable) = refl
asked_at (location.Outside (Ended w)) = refl
asked_at (location.Locked LoadCaller numbers) = refl
asked_at (location.Locked AcquireVictimLock numbers) = refl
asked_at (location.Locked AcquireReadyForVictim numbers) = refl
asked_at (location.Locked RemoveContext numbers) = refl
asked_at (location.Locked (AcquireVisitedLock visited) numbers) = refl
asked_at (location.Locked (Release e) numbers) = refl
asked_at (location.Victim LoadVictim numbers queue) = refl
asked_at (location.Victim (CommitKill seen) numbers queue) = refl
asked_at (location.Victim (LoadSender sender) numbers queue) = refl
asked_at (location.Victim (FreeSender sender seen) numbers queue) = refl
asked_at (location.Victim (AcquireReadyForSender sender seen) numbers queue) = refl
asked_at (location.Victim ReleaseVictimLock numbers queue) = refl
asked_at (location.Victim (ReleaseVictimLockAbsent found) numbers queue) = refl
asked_at (location.Visit (LoadVisited visited) numbers queue) = refl
asked_at (location.Visit (FreeVisited visited seen) numbers queue) = refl
asked_at (location.Visit (AcquireReadyForVisited visited seen) numbers queue) = refl
asked_at (location.Visit (ReleaseVisitedLock visited) numbers queue) = refl
asked_at (location.UnlistVictim numbers lists) = refl
asked_at (location.Pushing (PushSender sender seen) numbers queue lists) = refl
asked_at (location.Pushing (PushVisited visited seen) numbers queue lists) = refl
asked_at (location.Returned r) = refl

pub asked_hand : (c : DestroyCall) (own : StateWord) (l : DestroyLocation) → hand_of (asked_location l) ≡ hand_asked (ask_of c own (at_of l)) (hand_of l)
asked_hand c own (location.Outside LoadOwn) = refl
asked_hand c own (location.Outside AcquireTable) = refl
asked_hand c own (location.Outside (Ended w)) = refl
asked_hand c own (location.Locked LoadCaller numbers) = refl
asked_hand c own (location.Locked AcquireVictimLock numbers) = refl
asked_hand c own (location.Locked AcquireReadyForVictim numbers) = refl
asked_hand c own (location.Locked RemoveContext numbers) = refl
asked_hand c own (location.Locked (AcquireVisitedLock visited) numbers) = refl
asked_hand c own (location.Locked (Release e) numbers) = refl
asked_hand c own (location.Victim LoadVictim numbers queue) = refl
asked_hand c own (location.Victim (CommitKill seen) numbers queue) = refl
asked_hand c own (location.Victim (LoadSender sender) numbers queue) = refl
asked_hand c own (location.Victim (FreeSender sender seen) numbers queue) = refl
asked_hand c own (location.Victim (AcquireReadyForSender sender seen) numbers queue) = refl
asked_hand c own (location.Victim ReleaseVictimLock numbers queue) = refl
asked_hand c own (location.Victim (ReleaseVictimLockAbsent found) numbers queue) = refl
asked_hand c own (location.Visit (LoadVisited visited) numbers queue) = refl
asked_hand c own (location.Visit (FreeVisited visited seen) numbers queue) = refl
asked_hand c own (location.Visit (AcquireReadyForVisited visited seen) numbers queue) = refl
asked_hand c own (location.Visit (ReleaseVisitedLock visited) numbers queue) = refl
asked_hand c own (location.UnlistVictim numbers lists) = refl
asked_hand c own (location.Pushing (PushSender sender seen) numbers queue lists) = refl
asked_hand c own (location.Pushing (PushVisited visited seen) numbers queue lists) = refl
asked_hand c own (location.Returned (returned.Numbers r)) = refl
asked_hand c own (location.Returned (returned.VictimLock numbers)) = refl
asked_hand c own (location.Returned (returned.VictimLockAbsent found numbers)) = refl
asked_hand c own (location.Returned (returned.VisitedLock visited numbers)) = refl
asked_hand c own (location.Returned (returned.Unlisted numbers)) = refl
asked_hand c own (location.Returned (returned.Pushed (PushSender sender seen) numbers queue)) = refl
asked_hand c own (location.Returned (returned.Pushed (PushVisited visited seen) numbers queue)) = refl

-- it can be answered as it could before
pub asked_suits : (c : DestroyCall) (own : StateWord) (l : DestroyLocation) (a : Answer) → suits (next_of c own (hand_of l) (at_of l)) a ≡ true → suits (next_of c own (hand_of (asked_location l)) (at_of (asked_location l))) a ≡ true
asked_suits c own l a e = rw (asked_at l) (same_answers (ask_of c own (at_of l)) (hand_after c (hand_of (asked_location l)) (at_of l) plain.Released) (hand_after c (hand_of l) (at_of l) plain.Released) a ∙ e)

-- the queue of the victim goes back without an entry
pub empty_back : (c : DestroyCall) (own : StateWord) (l : DestroyLocation) → can_ask l ≡ true → IsSoundLocation c l → at_of l ≡ Victim ReleaseVictimLock → next_of c own (hand_of l) (at_of l) ≡ step.Release (lock.Thread c.who.number) (goods.Senders (record { entries = []; room = (hand_of l).queue.room }))
empty_back c own (location.Victim ReleaseVictimLock numbers queue) o sound at = ap (λ es. step.Release (lock.Thread c.who.number) (goods.Senders (record { entries = es; room = queue.room }))) sound
empty_back c own (location.Returned r) o sound at = absurd (false≢true o)
empty_back c own l o sound at = absurd cc

-- ANSWERED

can_ask_with : (h : Hand) (p : DestroyAt) → can_ask (location_with h p) ≡ is_open p
can_ask_with h (Outside p) = refl
can_ask_with h (Locked p) = refl
can_ask_with h (Victim p) = refl
can_ask_with h (Visit p) = refl
can_ask_with h UnlistVictim = refl
can_ask_with h (Pushing p) = refl

-- a section that waits for the answer of a release gets it
waits_for_it : (c : DestroyCall) (own : StateWord) (l : DestroyLocation) (a : Answer) → suits (next_of c own (hand_of l) (at_of l)) a ≡ true → makes (next_of c own (hand_of l) (at_of l)) a ≡ false → can_ask l ≡ is_open (at_of l)
waits_for_it c own (location.Outside p) a e m = refl
waits_for_it c own (location.Locked p numbers) a e m = refl
waits_for_it c own (location.Victim p numbers queue) a e m = refl
waits_for_it c own (location.Visit p numbers queue) a e m = refl
waits_for_it c own (location.UnlistVictim numbers lists) a e m = refl
waits_for_it c own (location.Pushing p numbers queue lists) a e m = refl
waits_for_it c own (location.Returned (returned.Numbers r)) a e m = absurd (never_unmade lock.Table (hand_after c (hand_of (location.Returned (returned.Numbers r))) (at_of (location.Returned (returned.Numbers r))) plain.Released) a e m)
waits_for_it c own (location.Returned (returned.VictimLock numbers)) a e m = absurd (never_unmade (lock.Thread c.who.number) (hand_after c (hand_of (location.Returned (returned.VictimLock numbers))) (at_of (location.Returned (returned.VictimLock numbers))) plain.Released) a e m)
waits_for_it c own (location.Returned (returned.VictimLockAbsent found numbers)) a e m = absurd (never_unmade (lock.Thread c.who.number) (hand_after c (hand_of (location.Returned (returned.VictimLockAbsent found numbers))) (at_of (location.Returned (returned.VictimLockAbsent found numbers))) plain.Released) a e m)
waits_for_it c own (location.Returned (returned.VisitedLock visited numbers)) a e m = absurd (never_unmade (lock.Thread visited) (hand_after c (hand_of (location.Returned (returned.VisitedLock visited numbers))) (at_of (location.Returned (returned.VisitedLock visited numbers))) plain.Released) a e m)
waits_for_it c own (location.Returned (returned.Unlisted numbers)) a e m = absurd (never_unmade lock.Ready (hand_after c (hand_of (location.Returned (returned.Unlisted numbers))) (at_of (location.Returned (returned.Unlisted numbers))) plain.Released) a e m)
waits_for_it c own (location.Returned (returned.Pushed (PushSender sender seen) numbers queue)) a e m = absurd (never_unmade lock.Ready (hand_after c (hand_of (location.Returned (returned.Pushed (PushSender sender seen) numbers queue))) (at_of (location.Returned (returned.Pushed (PushSender sender seen) numbers queue))) plain.Released) a e m)
waits_for_it c own (location.Returned (returned.Pushed (PushVisited visited seen) numbers queue)) a e m = absurd (never_unmade lock.Ready (hand_after c (hand_of (location.Returned (returned.Pushed (PushVisited visited seen) numbers queue))) (at_of (location.Returned (returned.Pushed (PushVisited visited seen) numbers queue))) plain.Released) a e m)

pub resumed_answered : (c : DestroyCall) (own : StateWord) (l : DestroyLocation) (a : Answer) → suits (next_of c own (hand_of l) (at_of l)) a ≡ true → can_ask (resumed_location c own l a) ≡ is_open (at_of (resumed_location c own l a))
resumed_answered c own l a e = elim (cases_Bool (makes (next_of c own (hand_of l) (at_of l)) a)) [
  | inl m ↦ rw m (moved (hand_with a (hand_after c (hand_of l) (at_of l) (response_at c own (at_of l) a))) (leads c (hand_of l) (at_of l) (response_at c own (at_of l) a)))
  | inr m ↦ rw m (waits_for_it c own l a e m)
]
  where
    moved : (h : Hand) (p : DestroyAt) → can_ask (location_with h p) ≡ is_open (at_of (location_with h p))
    moved h p = rw (at_with h p) (can_ask_with h p)

over : (r : DestroyRelease) → false ≡ goes_on (released_end r)
over release.Killed = refl
over (release.Absent found) = refl
over release.Dead = refl

over_own : (w : StateWord) → false ≡ goes_on (alive_or_dead w)
over_own w = go (is_dead w)
  where
    go : (b : Bool) → false ≡ goes_on (if b then went.CallerDead else went.Ends reply.Own)
    go true = refl
    go false = refl

-- whether the section goes on is told
open_after : (c : DestroyCall) (h : Hand) (p : DestroyAt) (r : Response) → is_open p ≡ true → is_open (leads c h p r) ≡ goes_on (went_at (pushed_at c p) (leads c h p r))
open_after c h (Outside LoadOwn) r o = grind (arith, common_steps, over_own)
open_after c h (Outside AcquireTable) r o = grind (arith, common_steps)
open_after c h (Outside (Ended w)) r o = absurd (false≢true o)
open_after c h (Locked (Release e)) r o = grind (arith, common_steps, over)
open_after c h (Locked p) r o = grind (arith, common_steps)
open_after c h (Victim p) r o = grind (arith, common_steps)
open_after c h (Visit p) r o = grind (arith, common_steps)
open_after c h UnlistVictim r o = grind (arith, common_steps)
open_after c h (Pushing p) r o = grind (arith, common_steps)

pub resumed_open : (c : DestroyCall) (own : StateWord) (l : DestroyLocation) (a : Answer) → is_open (at_of l) ≡ true → is_open (at_of (resumed_location c own l a)) ≡ goes_on (resumed_went c own (hand_of l) (at_of l) a)
resumed_open c own l a o = elim (cases_Bool (makes (next_of c own (hand_of l) (at_of l)) a)) [
  | inl m ↦ rw (m, at_with (hand_with a (hand_after c (hand_of l) (at_of l) (response_at c own (at_of l) a))) (leads c (hand_of l) (at_of l) (response_at c own (at_of l) a))) (open_after c (hand_of l) (at_of l) (response_at c own (at_of l) a) o)
  | inr m ↦ rw m (o ∙ sym (on_again a))
]

-- BY AN ANSWER THAT THE STEP CAN HAVE, AND BY ANOTHER

pub resumed_suits : (s : DestroySection) (a : Answer) → suits (step_of s) a ≡ true → record s { location = resumed_location s.call s.own s.location a; done = done_after a s.done } ≡ resumed s a
resumed_suits s a e = elim (cases_Bool (is_again a)) [
  | inl q ↦ rw (e, q) refl
  | inr q ↦ rw (e, q) refl
]

pub went_suits : (s : DestroySection) (a : Answer) → suits (step_of s) a ≡ true → resumed_went s.call s.own (hand_of s.location) (at_of s.location) a ≡ went_of s.call (hand_of s.location) (at_of s.location) (heard s a)
went_suits s a e = elim (cases_Bool (is_again a)) [
  | inl q ↦ rw (e, q, sym (again_heard (ask_of s.call s.own (at_of s.location)) a) ∙ q) refl
  | inr q ↦ rw (e, q, sym (again_heard (ask_of s.call s.own (at_of s.location)) a) ∙ q) refl
]

pub resumed_kept : (s : DestroySection) (a : Answer) → suits (step_of s) a ≡ false → record s { location = resumed_location s.call s.own s.location a; done = done_after a s.done } ≡ record s { done = done_after a s.done }
resumed_kept s a e = rw e refl

pub went_kept : (s : DestroySection) (a : Answer) → suits (step_of s) a ≡ false → resumed_went s.call s.own (hand_of s.location) (at_of s.location) a ≡ went_on a
went_kept s a e = rw e refl
