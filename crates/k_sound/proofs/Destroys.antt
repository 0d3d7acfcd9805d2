-- A destroy stays sound over its step.
use Rattle.std.proofs.Common.{◌≡◌, ℕ, ◌<◌, Bool, true, false, refl, subst, arith, Option, Some, None, List}
use Rattle.std.proofs.Common.{[], ◌∷◌}
use Rattle.std.proofs.lemmas.Bool.{false≢true, ltb-true}
use Rattle.std.proofs.lemmas.Grind.{common_steps}
use Rattle.std.specs.Prelude.{◌+◌, if◌then◌else◌, nat_lt}
use Rattle.k_ids.specs.declared.threads.ThreadId.{ThreadId}
use Rattle.k_ids.specs.declared.state_word.State.{State}
use Rattle.k_ids.specs.declared.state_word.State.TheVariants as state
use Rattle.k_ids.specs.declared.state_word.StateWord.{StateWord}
use Rattle.k_ids.specs.StateWords.{Agrees, IsStateWord, state_word_of}
use Rattle.k_senders.specs.declared.entries.SenderEntry.{SenderEntry}
use Rattle.k_senders.specs.Queue.{Queue, first_number}
use Rattle.k_locks.specs.Shown.{found_in, is_dead, is_present_in}
use Rattle.k_locks.specs.Steps.{suits}
use Rattle.k_locks.specs.Threads.{IsThread}
use Rattle.k_locks.specs.declared.goods.Goods.TheVariants as goods
use Rattle.k_locks.specs.declared.steps.Answer.{Answer}
use Rattle.k_locks.specs.declared.steps.Answer.TheVariants as answer
use Rattle.k_locks.specs.declared.steps.Told.TheVariants as told
use Rattle.k_threads.specs.Goods.{rest, without_first}
use Rattle.k_threads.specs.Words.{is_receiving_from}
use Rattle.k_threads.specs.declared.destroy.DestroyCall.{DestroyCall}
use Rattle.k_threads.specs.declared.destroy.DestroyLocation.{DestroyLocation}
use Rattle.k_threads.specs.declared.destroy.DestroyLocation.TheVariants as location
use Rattle.k_threads.specs.declared.destroy.DestroyLocked.TheVariants as locked
use Rattle.k_threads.specs.declared.destroy.DestroyOutside.TheVariants as outside
use Rattle.k_threads.specs.declared.destroy.DestroyPushing.TheVariants as pushing
use Rattle.k_threads.specs.declared.destroy.DestroyRelease.TheVariants as release
use Rattle.k_threads.specs.declared.destroy.DestroyReturned.TheVariants as returned
use Rattle.k_threads.specs.declared.destroy.DestroySection.{DestroySection}
use Rattle.k_threads.specs.declared.destroy.DestroyVictim.TheVariants as victim
use Rattle.k_threads.specs.declared.destroy.DestroyVisit.TheVariants as visit
use Rattle.k_threads.specs.DestroyTable.{IsFit, IsSound, Victim, IsSoundLocation, IsSoundLocked}
use Rattle.k_threads.specs.DestroyTable.{IsSoundVictim, IsSoundVisit, asked, asked_location, at_of}
use Rattle.k_threads.specs.DestroyTable.{but_victim, free_first, free_number, hand_of, location_with, moved}
use Rattle.k_threads.specs.DestroyTable.{moved_location, next_of, step_of, visit_number}
use Rattle.k_senders.proofs.EntrySpelled.{number_small}
use Rattle.k_caller.specs.Activities.{IsSoundDestroy}
use Rattle.k_caller.proofs.Owned.{either}

choice : {A : Type 0} (P : A → Type 0) (b : Bool) (x y : A) → (b ≡ true → P x) → P y → P (if b then x else y)
choice P true x y so other = so refl
choice P false x y so other = other

nothing_stands : (es : List SenderEntry) → first_number es ≡ None → es ≡ []
nothing_stands [] e = refl
nothing_stands (f ∷ es) e = absurd cc

first_inside : (n : ℕ) (es : List SenderEntry) → first_number es ≡ Some n → n < 64
first_inside n [] e = absurd cc
first_inside n (f ∷ es) e = let small = number_small f in grind (arith, common_steps)

-- who is freed next, of these entries in this queue
freed_number : (q : Queue) (o : Option ℕ) → first_number q.entries ≡ o → IsSoundVictim (free_number o) q
freed_number q None e = nothing_stands q.entries e
freed_number q (Some n) e = first_inside n q.entries e

freed_first : (q : Queue) → IsSoundVictim (free_first q.entries) q
freed_first q = freed_number q (first_number q.entries) refl

visited_sound : (c : DestroyCall) (n : ℕ) → IsSoundLocked c (visit_number c n)
visited_sound c n = choice (IsSoundLocked c) (nat_lt n c.count) (locked.AcquireVisitedLock n)
    (locked.Release release.Killed) (λ e. ltb-true n c.count e) tt

receiving_thread : (who : ThreadId) (w : StateWord) → IsStateWord w → is_receiving_from who w.state ≡ true →
    IsThread w
receiving_thread who w whole e = by w.state refl e
  where
    by : (s : State) → w.state ≡ s → is_receiving_from who s ≡ true → IsThread w
    by (state.Receiving from) q e = record {
      whole = whole;
      born =
          subst (λ (s : State). Agrees s w) q whole.agrees;
    }
    by (state.Sending t joined) q e = absurd (false≢true e)
    by state.Dead q e = absurd (false≢true e)
    by (state.Run result) q e = absurd (false≢true e)
    by state.Picking q e = absurd (false≢true e)
    by state.Ended q e = absurd (false≢true e)

located : (c : DestroyCall) (own : StateWord) (l : DestroyLocation) (a : Answer) →
    suits (next_of c own (hand_of l) (at_of l)) a ≡ true → IsFit (at_of l) a → IsSoundLocation c l →
    IsSoundLocation c (moved_location c own (hand_of l) (at_of l) a)
located c own (location.Outside outside.LoadOwn) (answer.Told (told.Loaded n)) s fit sound = tt
located c own (location.Outside outside.AcquireTable) (answer.Got (goods.Numbers numbers)) s fit sound = tt
located c own (location.Outside outside.AcquireTable) (answer.Told (told.Owned owner)) s fit sound = tt
located c own (location.Outside (outside.Ended w)) (answer.Told (told.Loaded n)) s fit sound = tt
located c own (location.Locked locked.LoadCaller numbers) (answer.Told (told.Loaded n)) s fit sound =
    either (IsSoundLocked c) (is_dead (state_word_of n)) (locked.Release release.Dead)
    locked.AcquireVictimLock tt tt
located c own (location.Locked locked.AcquireVictimLock numbers) (answer.Got (goods.Senders queue)) s fit
    sound = tt
located c own (location.Locked locked.AcquireVictimLock numbers) (answer.Told (told.Owned owner)) s fit
    sound = tt
located c own (location.Locked locked.AcquireReadyForVictim numbers) (answer.Got (goods.Ready lists)) s fit
    sound = tt
located c own (location.Locked locked.AcquireReadyForVictim numbers) (answer.Told (told.Owned owner)) s fit
    sound = tt
located c own (location.Locked locked.RemoveContext numbers) (answer.Told told.Removed) s fit sound =
    visited_sound c (but_victim c 0)
located c own (location.Locked locked.RemoveContext numbers) (answer.Told (told.Holds context)) s fit sound
    = tt
located c own (location.Locked locked.RemoveContext numbers) (answer.Told (told.Taken context carrier)) s
    fit sound = tt
located c own (location.Locked (locked.AcquireVisitedLock visited) numbers) (answer.Got (goods.Senders
    queue)) s fit sound = sound
located c own (location.Locked (locked.AcquireVisitedLock visited) numbers) (answer.Told (told.Owned owner))
    s fit sound = sound
located c own (location.Locked (locked.Release r) numbers) (answer.Told told.Released) s fit sound = tt
located c own (location.Victim victim.LoadVictim numbers q) (answer.Told (told.Loaded n)) s fit sound =
    either (λ p. IsSoundVictim p q) (is_present_in (state_word_of n) c.who) (victim.CommitKill
    (state_word_of n)) (victim.ReleaseVictimLockAbsent (found_in c.who.number (state_word_of n)))
    fit.whole tt
located c own (location.Victim (victim.CommitKill seen) numbers q) (answer.Told told.Won) s fit sound =
    freed_first q
located c own (location.Victim (victim.CommitKill seen) numbers q) (answer.Told (told.Lost n)) s fit sound =
    tt
located c own (location.Victim (victim.LoadSender sender) numbers q) (answer.Told (told.Loaded n)) s fit
    sound = record { number = sound; seen = record { whole = fit.0.whole; born = fit.1 } }
located c own (location.Victim (victim.FreeSender sender seen) numbers q) (answer.Told told.Won) s fit sound
    = freed seen.on
  where
    freed : (b : Bool) → IsSoundLocation c (location_with (if b then record (hand_of (location.Victim
        (victim.FreeSender sender seen) numbers q)) {
          queue =
              without_first q;
        } else hand_of (location.Victim (victim.FreeSender sender seen) numbers q)) (Victim
        (if b then free_first (rest q.entries) else victim.AcquireReadyForSender sender seen)))
    freed true = freed_first (without_first q)
    freed false = sound
located c own (location.Victim (victim.FreeSender sender seen) numbers q) (answer.Told (told.Lost n)) s fit
    sound = sound.number
located c own (location.Victim (victim.AcquireReadyForSender sender seen) numbers q) (answer.Got
    (goods.Ready lists)) s fit sound = sound
located c own (location.Victim (victim.AcquireReadyForSender sender seen) numbers q) (answer.Told
    (told.Owned owner)) s fit sound = sound
located c own (location.Victim victim.ReleaseVictimLock numbers q) (answer.Told told.Released) s fit sound =
    tt
located c own (location.Victim (victim.ReleaseVictimLockAbsent found) numbers q) (answer.Told told.Released)
    s fit sound = tt
located c own (location.Visit (visit.LoadVisited visited) numbers q) (answer.Told (told.Loaded n)) s fit
    sound =
    choice (IsSoundVisit c) (is_receiving_from c.who (state_word_of n).state) (visit.FreeVisited visited
    (state_word_of n)) (visit.ReleaseVisitedLock visited)
    (λ e. record { number = sound; seen = receiving_thread c.who (state_word_of n) fit.whole e }) sound
located c own (location.Visit (visit.FreeVisited visited seen) numbers q) (answer.Told told.Won) s fit sound
    = either (IsSoundVisit c) seen.on (visit.ReleaseVisitedLock visited) (visit.AcquireReadyForVisited
    visited seen) sound.number sound
located c own (location.Visit (visit.FreeVisited visited seen) numbers q) (answer.Told (told.Lost n)) s fit
    sound = sound.number
located c own (location.Visit (visit.AcquireReadyForVisited visited seen) numbers q) (answer.Got
    (goods.Ready lists)) s fit sound = sound
located c own (location.Visit (visit.AcquireReadyForVisited visited seen) numbers q) (answer.Told
    (told.Owned owner)) s fit sound = sound
located c own (location.Visit (visit.ReleaseVisitedLock visited) numbers q) (answer.Told told.Released) s
    fit sound = visited_sound c (but_victim c (visited + 1))
located c own (location.UnlistVictim numbers lists) (answer.Told told.Released) s fit sound = tt
located c own (location.Pushing (pushing.PushSender sender seen) numbers q lists) (answer.Told
    told.Released) s fit sound = freed_first (without_first q)
located c own (location.Pushing (pushing.PushVisited visited seen) numbers q lists) (answer.Told
    told.Released) s fit sound = sound.number
located c own (location.Returned (returned.Numbers r)) (answer.Told told.Released) s fit sound = tt
located c own (location.Returned (returned.VictimLock numbers)) (answer.Told told.Released) s fit sound = tt
located c own (location.Returned (returned.VictimLockAbsent found numbers)) (answer.Told told.Released) s
    fit sound = tt
located c own (location.Returned (returned.VisitedLock visited numbers)) (answer.Told told.Released) s fit
    sound = visited_sound c (but_victim c (visited + 1))
located c own (location.Returned (returned.Unlisted numbers)) (answer.Told told.Released) s fit sound = tt
located c own (location.Returned (returned.Pushed (pushing.PushSender sender seen) numbers q)) (answer.Told
    told.Released) s fit sound = freed_first (without_first q)
located c own (location.Returned (returned.Pushed (pushing.PushVisited visited seen) numbers q))
    (answer.Told told.Released) s fit sound = sound.number
located c own l a s fit sound = absurd (false≢true s)

pub destroy_stays : (me : ThreadId) (s : DestroySection) (a : Answer) → IsSoundDestroy me s →
    suits (step_of s) a ≡ true → IsFit (at_of s.location) a → IsSound (moved s a)
destroy_stays me s a sound suiting fit = record {
  call = sound.sound.call;
  own = sound.sound.own;
  version = sound.sound.version;
  running = sound.sound.running;
  located = located s.call s.own s.location a suiting fit sound.sound.located;
}

asked_located : (c : DestroyCall) (l : DestroyLocation) → IsSoundLocation c l →
    IsSoundLocation c (asked_location l)
asked_located c (location.Outside p) sound = sound
asked_located c (location.Locked (locked.Release r) numbers) sound = tt
asked_located c (location.Locked p numbers) sound = sound
asked_located c (location.Victim victim.ReleaseVictimLock numbers q) sound = tt
asked_located c (location.Victim (victim.ReleaseVictimLockAbsent found) numbers q) sound = tt
asked_located c (location.Victim p numbers q) sound = sound
asked_located c (location.Visit (visit.ReleaseVisitedLock visited) numbers q) sound = sound
asked_located c (location.Visit p numbers q) sound = sound
asked_located c (location.UnlistVictim numbers lists) sound = tt
asked_located c (location.Pushing p numbers q lists) sound = sound
asked_located c (location.Returned r) sound = sound

pub destroy_asked : (s : DestroySection) → IsSound s → IsSound (asked s)
destroy_asked s sound = record {
  call = sound.call;
  own = sound.own;
  version = sound.version;
  running = sound.running;
  located = asked_located s.call s.location sound.located;
}
