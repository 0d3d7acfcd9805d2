-- A create stays sound over its step.
use Rattle.std.proofs.Common.{◌≡◌, ℕ, ◌≤◌, ◌<◌, true, refl, arith, Option, Some, None, length}
use Rattle.std.proofs.lemmas.Bool.{and_parts, false≢true, ltb-true}
use Rattle.std.specs.Prelude.{◌+◌, nat_lt, not}
use Rattle.k_ids.specs.declared.threads.ThreadId.{ThreadId}
use Rattle.k_ids.specs.declared.state_word.StateWord.{StateWord}
use Rattle.k_ids.specs.StateWords.{state_word_of}
use Rattle.k_model.specs.Step.{last_version}
use Rattle.k_model.proofs.Maps.{lowest-Some}
use Rattle.k_locks.specs.Numbers.{ThreadNumbers, is_free, is_present, lowest_free, version_at}
use Rattle.k_locks.specs.Shown.{is_dead}
use Rattle.k_locks.specs.Steps.{suits}
use Rattle.k_locks.specs.declared.goods.Goods.TheVariants as goods
use Rattle.k_locks.specs.declared.steps.Answer.{Answer}
use Rattle.k_locks.specs.declared.steps.Answer.TheVariants as answer
use Rattle.k_locks.specs.declared.steps.Told.TheVariants as told
use Rattle.k_threads.specs.declared.create.CreateCall.{CreateCall}
use Rattle.k_threads.specs.declared.create.CreateLocation.{CreateLocation}
use Rattle.k_threads.specs.declared.create.CreateLocation.TheVariants as location
use Rattle.k_threads.specs.declared.create.CreateLocked.TheVariants as locked
use Rattle.k_threads.specs.declared.create.CreateOutside.TheVariants as outside
use Rattle.k_threads.specs.declared.create.CreateRelease.TheVariants as release
use Rattle.k_threads.specs.declared.create.CreateSection.{CreateSection}
use Rattle.k_threads.specs.CreateTable.{IsNext, IsSound, IsSoundLocation, IsSoundLocked, asked}
use Rattle.k_threads.specs.CreateTable.{asked_location, at_of, choose, hand_of, moved, moved_location}
use Rattle.k_threads.specs.CreateTable.{next_of, step_of}
use Rattle.k_caller.specs.Activities.{IsSoundCreate}
use Rattle.k_caller.proofs.Owned.{either}

-- the number that is chosen is one of the table, with a version left
chosen : (numbers : ThreadNumbers) (n : ℕ) → length numbers.versions ≤ 64 → lowest_free numbers ≡ Some n →
    IsNext (record { number = n; version = version_at numbers n + 1 }) numbers
chosen numbers n few e =
    let is = lowest-Some (is_free numbers) (length numbers.versions) n e in
    let low : version_at numbers n < last_version =
    ltb-true _ _ (and_parts (not (is_present numbers n)) (nat_lt (version_at numbers n) last_version)
    is.1).1 in
    let inside : n < length numbers.versions = is.0 in
    record { number = omega (arith, few, inside); inside = inside; next = refl; version = omega (arith, low) }

choice_sound : (numbers : ThreadNumbers) (o : Option ℕ) → length numbers.versions ≤ 64 →
    lowest_free numbers ≡ o → IsSoundLocked (choose numbers o) numbers
choice_sound numbers None few e = tt
choice_sound numbers (Some n) few e = chosen numbers n few e

located : (c : CreateCall) (own : StateWord) (l : CreateLocation) (a : Answer) →
    suits (next_of c own (hand_of l) (at_of l)) a ≡ true → length (hand_of l).numbers.versions ≤ 64 →
    IsSoundLocation l → IsSoundLocation (moved_location c own (hand_of l) (at_of l) a)
located c own (location.Outside outside.AcquireTable) (answer.Got (goods.Numbers numbers)) s few sound = tt
located c own (location.Outside outside.AcquireTable) (answer.Told (told.Owned owner)) s few sound = tt
located c own (location.Outside (outside.Ended w)) (answer.Told (told.Loaded n)) s few sound = tt
located c own (location.Locked locked.LoadCaller numbers) (answer.Told (told.Loaded n)) s few sound =
    either (λ p. IsSoundLocked p numbers) (is_dead (state_word_of n)) (locked.Release release.Dead) (choose
    numbers (lowest_free numbers)) tt (choice_sound numbers (lowest_free numbers) few refl)
located c own (location.Locked (locked.PlaceContext id) numbers) (answer.Told told.Placed) s few sound = sound
located c own (location.Locked (locked.CommitCreate id) numbers) (answer.Told told.Won) s few sound = sound
located c own (location.Locked (locked.CommitCreate id) numbers) (answer.Told (told.Lost n)) s few sound =
    sound
located c own (location.Locked (locked.AcquireReady id) numbers) (answer.Got (goods.Ready lists)) s few
    sound = sound
located c own (location.Locked (locked.AcquireReady id) numbers) (answer.Told (told.Owned owner)) s few
    sound = sound
located c own (location.Locked (locked.Release r) numbers) (answer.Told told.Released) s few sound = tt
located c own (location.PushCreated id numbers lists) (answer.Told told.Released) s few sound = sound
located c own (location.ListsReturned id numbers) (answer.Told told.Released) s few sound = sound
located c own (location.NumbersReturned r) (answer.Told told.Released) s few sound = tt
located c own l a s few sound = absurd (false≢true s)

pub create_stays : (me : ThreadId) (s : CreateSection) (a : Answer) → IsSoundCreate me s →
    suits (step_of s) a ≡ true → length (hand_of s.location).numbers.versions ≤ 64 → IsSound (moved s a)
create_stays me s a sound suiting few = record {
  priority = sound.sound.priority;
  own = sound.sound.own;
  version = sound.sound.version;
  running = sound.sound.running;
  located = located s.call s.own s.location a suiting few sound.sound.located;
}

asked_located : (l : CreateLocation) → IsSoundLocation l → IsSoundLocation (asked_location l)
asked_located (location.Outside p) sound = sound
asked_located (location.Locked (locked.Release r) numbers) sound = tt
asked_located (location.Locked p numbers) sound = sound
asked_located (location.PushCreated id numbers lists) sound = sound
asked_located (location.ListsReturned id numbers) sound = sound
asked_located (location.NumbersReturned r) sound = sound

pub create_asked : (s : CreateSection) → IsSound s → IsSound (asked s)
create_asked s sound = record {
  priority = sound.priority;
  own = sound.own;
  version = sound.version;
  running = sound.running;
  located = asked_located s.location sound.located;
}
