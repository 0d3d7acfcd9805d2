-- The table of a create: what holds of each location.
use Rattle.std.proofs.Common.{◌≡◌, true, false, inl, inr, refl, sym, ◌∙◌, arith}
use Rattle.std.proofs.lemmas.Bool.{cases_Bool, false≢true}
use Rattle.std.proofs.lemmas.Grind.{common_steps}
use Rattle.k_ids.specs.declared.state_word.StateWord.{StateWord}
use Rattle.k_locks.specs.declared.locks.Lock.TheVariants as lock
use Rattle.k_locks.specs.declared.steps.Answer.{Answer}
use Rattle.k_locks.specs.Asks.{Response, hand_asked}
use Rattle.k_locks.specs.Asks as plain
use Rattle.k_locks.specs.Hands.{Hand, hand_with, trimmed}
use Rattle.k_locks.specs.Steps.{goes_on, is_again, suits}
use Rattle.k_threads.specs.declared.create.CreateCall.{CreateCall}
use Rattle.k_threads.specs.declared.create.CreateLocation.{CreateLocation}
use Rattle.k_threads.specs.declared.create.CreateLocation.TheVariants as location
use Rattle.k_threads.specs.declared.create.CreateLocked.TheVariants.{LoadCaller, PlaceContext, CommitCreate, AcquireReady, Release}
use Rattle.k_threads.specs.declared.create.CreateOutside.TheVariants.{AcquireTable, Ended}
use Rattle.k_threads.specs.declared.create.CreateRelease.{CreateRelease}
use Rattle.k_threads.specs.declared.create.CreateRelease.TheVariants as release
use Rattle.k_threads.specs.CreateTable.{CreateAt, Locked, Outside, PushCreated, ask_of, asked_location, at_of, can_ask, hand_after, hand_of, is_open, leads, location_with, locks_of, pushed_at, released_end, resumed_location, next_of, response_at, went_at, resumed, resumed_went, heard, step_of, went_of}
use Rattle.k_threads.specs.Went.{makes, went_on}
use Rattle.k_threads.specs.Words.{done_after}
use Rattle.k_threads.specs.declared.create.CreateSection.{CreateSection}
use Rattle.k_locks.proofs.Responses.{again_heard}
use Rattle.k_threads.proofs.Steps.{never_unmade, on_again, same_answers}

-- A LOCATION AND WHAT IS IN HAND

pub at_with : (h : Hand) (p : CreateAt) → at_of (location_with h p) ≡ p
at_with h (Outside p) = refl
at_with h (Locked p) = refl
at_with h (PushCreated id) = refl

pub hand_kept : (c : CreateCall) (h : Hand) (p : CreateAt) → hand_of (location_with h p) ≡ trimmed (locks_of c p) h
hand_kept c h (Outside p) = refl
hand_kept c h (Locked p) = refl
hand_kept c h (PushCreated id) = refl

pub with_both : (l : CreateLocation) → can_ask l ≡ true → location_with (hand_of l) (at_of l) ≡ l
with_both (location.Outside p) e = refl
with_both (location.Locked p numbers) e = refl
with_both (location.PushCreated id numbers lists) e = refl
with_both (location.ListsReturned id numbers) e = absurd (false≢true e)
with_both (location.NumbersReturned r) e = absurd (false≢true e)

-- ASKED

pub asked_at : (l : CreateLocation) → at_of (asked_location l) ≡ at_of l
asked_at (location.Outside p) = refl
asked_at (location.Locked LoadCaller numbers) = refl
asked_at (location.Locked (PlaceContext id) numbers) = refl
asked_at (location.Locked (CommitCreate id) numbers) = refl
asked_at (location.Locked (AcquireReady id) numbers) = refl
asked_at (location.Locked (Release r) numbers) = refl
asked_at (location.PushCreated id numbers lists) = refl
asked_at (location.ListsReturned id numbers) = refl
asked_at (location.NumbersReturned r) = refl

pub asked_hand : (c : CreateCall) (own : StateWord) (l : CreateLocation) → hand_of (asked_location l) ≡ hand_asked (ask_of c own (at_of l)) (hand_of l)
asked_hand c own (location.Outside AcquireTable) = refl
asked_hand c own (location.Outside (Ended w)) = refl
asked_hand c own (location.Locked LoadCaller numbers) = refl
asked_hand c own (location.Locked (PlaceContext id) numbers) = refl
asked_hand c own (location.Locked (CommitCreate id) numbers) = refl
asked_hand c own (location.Locked (AcquireReady id) numbers) = refl
asked_hand c own (location.Locked (Release r) numbers) = refl
asked_hand c own (location.PushCreated id numbers lists) = refl
asked_hand c own (location.ListsReturned id numbers) = refl
asked_hand c own (location.NumbersReturned r) = refl

-- it can be answered as it could before
pub asked_suits : (c : CreateCall) (own : StateWord) (l : CreateLocation) (a : Answer) → suits (next_of c own (hand_of l) (at_of l)) a ≡ true → suits (next_of c own (hand_of (asked_location l)) (at_of (asked_location l))) a ≡ true
asked_suits c own l a e = rw (asked_at l) (same_answers (ask_of c own (at_of l)) (hand_after c (hand_of (asked_location l)) (at_of l) plain.Released) (hand_after c (hand_of l) (at_of l) plain.Released) a ∙ e)

-- ANSWERED

can_ask_with : (h : Hand) (p : CreateAt) → can_ask (location_with h p) ≡ is_open p
can_ask_with h (Outside p) = refl
can_ask_with h (Locked p) = refl
can_ask_with h (PushCreated id) = refl

-- a section that waits for the answer of a release gets it
waits_for_it : (c : CreateCall) (own : StateWord) (l : CreateLocation) (a : Answer) → suits (next_of c own (hand_of l) (at_of l)) a ≡ true → makes (next_of c own (hand_of l) (at_of l)) a ≡ false → can_ask l ≡ is_open (at_of l)
waits_for_it c own (location.Outside p) a e m = refl
waits_for_it c own (location.Locked p numbers) a e m = refl
waits_for_it c own (location.PushCreated id numbers lists) a e m = refl
waits_for_it c own (location.ListsReturned id numbers) a e m = absurd (never_unmade lock.Ready (hand_after c (hand_of (location.ListsReturned id numbers)) (PushCreated id) plain.Released) a e m)
waits_for_it c own (location.NumbersReturned r) a e m = absurd (never_unmade lock.Table (hand_after c (hand_of (location.NumbersReturned r)) (Locked (Release r)) plain.Released) a e m)

pub resumed_answered : (c : CreateCall) (own : StateWord) (l : CreateLocation) (a : Answer) → suits (next_of c own (hand_of l) (at_of l)) a ≡ true → can_ask (resumed_location c own l a) ≡ is_open (at_of (resumed_location c own l a))
resumed_answered c own l a e = elim (cases_Bool (makes (next_of c own (hand_of l) (at_of l)) a)) [
  | inl m ↦ rw m (moved (hand_with a (hand_after c (hand_of l) (at_of l) (response_at c own (at_of l) a))) (leads c (hand_of l) (at_of l) (response_at c own (at_of l) a)))
  | inr m ↦ rw m (waits_for_it c own l a e m)
]
  where
    moved : (h : Hand) (p : CreateAt) → can_ask (location_with h p) ≡ is_open (at_of (location_with h p))
    moved h p = rw (at_with h p) (can_ask_with h p)

over : (r : CreateRelease) → false ≡ goes_on (released_end r)
over (release.Made id) = refl
over (release.Full alive worn) = refl
over release.Dead = refl

-- whether the section goes on is told
open_after : (c : CreateCall) (h : Hand) (p : CreateAt) (r : Response) → is_open p ≡ true → is_open (leads c h p r) ≡ goes_on (went_at (pushed_at c p) (leads c h p r))
open_after c h (Outside AcquireTable) r o = grind (arith, common_steps)
open_after c h (Outside (Ended w)) r o = absurd (false≢true o)
open_after c h (Locked (Release e)) r o = grind (arith, common_steps, over)
open_after c h (Locked p) r o = grind (arith, common_steps)
open_after c h (PushCreated id) r o = grind (arith, common_steps)

pub resumed_open : (c : CreateCall) (own : StateWord) (l : CreateLocation) (a : Answer) → is_open (at_of l) ≡ true → is_open (at_of (resumed_location c own l a)) ≡ goes_on (resumed_went c own (hand_of l) (at_of l) a)
resumed_open c own l a o = elim (cases_Bool (makes (next_of c own (hand_of l) (at_of l)) a)) [
  | inl m ↦ rw (m, at_with (hand_with a (hand_after c (hand_of l) (at_of l) (response_at c own (at_of l) a))) (leads c (hand_of l) (at_of l) (response_at c own (at_of l) a))) (open_after c (hand_of l) (at_of l) (response_at c own (at_of l) a) o)
  | inr m ↦ rw m (o ∙ sym (on_again a))
]

-- BY AN ANSWER THAT THE STEP CAN HAVE, AND BY ANOTHER

pub resumed_suits : (s : CreateSection) (a : Answer) → suits (step_of s) a ≡ true → record s { location = resumed_location s.call s.own s.location a; done = done_after a s.done } ≡ resumed s a
resumed_suits s a e = elim (cases_Bool (is_again a)) [
  | inl q ↦ rw (e, q) refl
  | inr q ↦ rw (e, q) refl
]

pub went_suits : (s : CreateSection) (a : Answer) → suits (step_of s) a ≡ true → resumed_went s.call s.own (hand_of s.location) (at_of s.location) a ≡ went_of s.call (hand_of s.location) (at_of s.location) (heard s a)
went_suits s a e = elim (cases_Bool (is_again a)) [
  | inl q ↦ rw (e, q, sym (again_heard (ask_of s.call s.own (at_of s.location)) a) ∙ q) refl
  | inr q ↦ rw (e, q, sym (again_heard (ask_of s.call s.own (at_of s.location)) a) ∙ q) refl
]

pub resumed_kept : (s : CreateSection) (a : Answer) → suits (step_of s) a ≡ false → record s { location = resumed_location s.call s.own s.location a; done = done_after a s.done } ≡ record s { done = done_after a s.done }
resumed_kept s a e = rw e refl

pub went_kept : (s : CreateSection) (a : Answer) → suits (step_of s) a ≡ false → resumed_went s.call s.own (hand_of s.location) (at_of s.location) a ≡ went_on a
went_kept s a e = rw e refl
