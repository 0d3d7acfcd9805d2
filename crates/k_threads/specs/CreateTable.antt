-- The section of a create, location by location: its step, where each answer leads, what becomes of what is in hand, which
-- entry a step appends to the history, which locks are held, and how many steps are left until a lock is released. The
-- locations stand in the order in which a create comes to them.
--
-- It holds the table lock from its first step to its last. The context of the new thread is placed before the thread's word
-- says that it runs. `own` is the caller's state word as the section knows it, `h` is what is in hand, and `id` the thread that
-- is made. The locations, their order and their lengths are this project's own.
use Rattle.std.specs.Prelude.{ℕ, ◌+◌, ◌-◌, ◌<◌, ◌≡◌, ◌^◌, Bool, true, false, if◌then◌else◌, List, length, Option, Some, None}
use Rattle.k_ids.specs.declared.threads.ThreadId.{ThreadId}
use Rattle.k_ids.specs.declared.calls.Phase.TheVariants as phase
use Rattle.k_ids.specs.declared.calls.Reply.TheVariants as reply
use Rattle.k_ids.specs.declared.calls.Act.TheVariants as act
use Rattle.k_ids.specs.declared.calls.Outcome.{Outcome}
use Rattle.k_ids.specs.declared.calls.Outcome.TheVariants as outcome
use Rattle.k_ids.specs.declared.state_word.StateWord.{StateWord}
use Rattle.k_ids.specs.StateWords.{IsStateSpelling}
use Rattle.k_ready.specs.Lists.{IsInNone}
use Rattle.k_locks.specs.declared.locks.Lock.{Lock}
use Rattle.k_locks.specs.declared.locks.Lock.TheVariants as lock
use Rattle.k_locks.specs.declared.points.Point.{Point}
use Rattle.k_locks.specs.declared.steps.Step.{Step}
use Rattle.k_locks.specs.declared.steps.Answer.{Answer}
use Rattle.k_locks.specs.declared.steps.Answer.TheVariants as answer
use Rattle.k_locks.specs.declared.steps.Told.TheVariants as told
use Rattle.k_locks.specs.declared.steps.Went.{Went}
use Rattle.k_locks.specs.declared.steps.Went.TheVariants as went
use Rattle.k_locks.specs.Asks.{Ask, Response, step_for, response_of}
use Rattle.k_locks.specs.Asks as plain
use Rattle.k_locks.specs.Hands.{Hand, nothing, no_lists, no_queue, hand_with, pushed}
use Rattle.k_locks.specs.Numbers.{ThreadNumbers, alive, lowest_free, version_at, with_thread, worn}
use Rattle.k_locks.specs.Shown.{is_dead}
use Rattle.k_locks.specs.Steps.{is_again, one_more}
use Rattle.k_locks.specs.Tables.{Table}
use Rattle.k_locks.specs.Threads.{IsThread, runs}
use Rattle.k_threads.specs.declared.create.CreateCall.{CreateCall}
use Rattle.k_threads.specs.declared.create.CreateOutside.{CreateOutside}
use Rattle.k_threads.specs.declared.create.CreateOutside.TheVariants.{AcquireTable, Ended}
use Rattle.k_threads.specs.declared.create.CreateLocked.{CreateLocked}
use Rattle.k_threads.specs.declared.create.CreateLocked.TheVariants.{LoadCaller, PlaceContext, CommitCreate, AcquireReady, Release}
use Rattle.k_threads.specs.declared.create.CreateRelease.{CreateRelease}
use Rattle.k_threads.specs.declared.create.CreateRelease.TheVariants as release
use Rattle.k_threads.specs.declared.create.CreateLocation.{CreateLocation}
use Rattle.k_threads.specs.declared.create.CreateLocation.TheVariants as location
use Rattle.k_threads.specs.declared.create.CreateSection.{CreateSection}
use Rattle.k_threads.specs.Goods.{no_lock, only_table, table_and_ready}
use Rattle.k_threads.specs.Words.{created_word, dead_word}
use Rattle.k_threads.specs.Went.{makes, went_on}

-- A location: what is held there, and which step comes.
pub data CreateAt : Type 0 where
  Outside : CreateOutside → CreateAt  -- no lock
  Locked : CreateLocked → CreateAt  -- the table lock
  PushCreated : (id : ThreadId) → CreateAt  -- the table lock and the ready lock, which it releases

-- the first location
abbrev pub first_of : CreateCall → CreateAt
first_of c = Outside AcquireTable

-- THE STEP

abbrev pub ask_of : CreateCall → StateWord → CreateAt → Ask
ask_of c own (Outside AcquireTable) = plain.Acquire lock.Table
ask_of c own (Locked LoadCaller) = plain.Load c.caller.number
ask_of c own (Locked (PlaceContext id)) = plain.Place id c.program c.priority
ask_of c own (Locked (CommitCreate id)) = plain.Exchange id.number (dead_word (id.version - 1)) (created_word id.version c.priority)
ask_of c own (Locked (AcquireReady id)) = plain.Acquire lock.Ready
ask_of c own (PushCreated id) = plain.Release lock.Ready
ask_of c own (Locked (Release r)) = plain.Release lock.Table
ask_of c own (Outside (Ended w)) = plain.Load c.caller.number  -- a section that is over isn't asked

-- WHERE AN ANSWER LEADS

-- the lowest number that a new thread may get, in the next version, if there is one
abbrev pub choose : ThreadNumbers → Option ℕ → CreateLocked
choose numbers None = Release (release.Full (alive numbers) (worn numbers))
choose numbers (Some number) = PlaceContext (record { number = number; version = version_at numbers number + 1 })

abbrev pub released_end : CreateRelease → Went
released_end (release.Made id) = went.Ends (reply.Made id)
released_end (release.Full alive worn) = went.Ends (reply.Full alive worn)
released_end release.Dead = went.CallerDead

abbrev pub leads : CreateCall → Hand → CreateAt → Response → CreateAt
leads c h (Outside AcquireTable) plain.Got = Locked LoadCaller
leads c h (Locked LoadCaller) (plain.Word w) = Locked (if is_dead w then Release release.Dead else choose h.numbers (lowest_free h.numbers))
leads c h (Locked (PlaceContext id)) plain.Placed = Locked (CommitCreate id)
leads c h (Locked (CommitCreate id)) plain.Won = Locked (AcquireReady id)  -- it is never lost
leads c h (Locked (AcquireReady id)) plain.Got = PushCreated id
leads c h (PushCreated id) plain.Released = Locked (Release (release.Made id))
leads c h (Locked (Release r)) plain.Released = Outside (Ended (released_end r))
leads c h p r = p  -- a lock is owned: the same step again

-- What becomes of what is in hand, also of what goes home in a release.
abbrev pub hand_after : CreateCall → Hand → CreateAt → Response → Hand
hand_after c h (PushCreated id) plain.Released = record h { lists = pushed id c.priority h.lists }
hand_after c h (Locked (Release (release.Made id))) plain.Released = record h { numbers = with_thread id.number h.numbers }
hand_after c h p r = h

-- the caller's word, as the section knows it: no step of a create changes it
abbrev pub own_of : CreateCall → StateWord → CreateAt → Response → StateWord
own_of c own p r = own

-- How the section goes on: a push is told; and where the section comes to its end, that is told.
abbrev pub pushed_at : CreateCall → CreateAt → Option ℕ
pushed_at c (PushCreated id) = Some c.priority
pushed_at c (Locked p) = None
pushed_at c (Outside p) = None

abbrev pub end_at : CreateAt → Went
end_at (Outside (Ended w)) = w
end_at (Outside AcquireTable) = went.On
end_at (Locked p) = went.On
end_at (PushCreated id) = went.On

-- THE LINEARIZATION POINT

abbrev pub point_of : CreateCall → Outcome → Point
point_of c o = record { who = c.caller; act = act.Call (phase.Create c.program c.priority); outcome = o }

abbrev pub full_point : CreateCall → ThreadNumbers → Option ℕ → Option Point
full_point c numbers None = Some (point_of c (outcome.Full (alive numbers) (worn numbers)))
full_point c numbers (Some number) = None

-- The point of the history that a step makes, if any. `caller` is the caller's state word at this very step; at LoadCaller
-- it is the word that the step loads.
abbrev pub points : CreateCall → StateWord → Hand → CreateAt → Response → Option Point
points c caller h (Locked LoadCaller) (plain.Word w) = if is_dead w then None else full_point c h.numbers (lowest_free h.numbers)
points c caller h (Locked (CommitCreate id)) plain.Won = Some (point_of c (outcome.Made id))
points c caller h p r = None

-- LOCKS, AND STEPS LEFT

-- the locks that are held, by rank
abbrev pub locks_of : CreateCall → CreateAt → List (Option Lock)
locks_of c (Outside p) = no_lock
locks_of c (Locked p) = only_table
locks_of c (PushCreated id) = table_and_ready

-- How many steps are left until the table lock is released, that release included.
abbrev pub left_table : CreateAt → ℕ
left_table (Locked LoadCaller) = 6
left_table (Locked (PlaceContext id)) = 5
left_table (Locked (CommitCreate id)) = 4
left_table (Locked (AcquireReady id)) = 3
left_table (PushCreated id) = 2
left_table (Locked (Release r)) = 1
left_table (Outside p) = 0

-- the same for the ready lock
abbrev pub left_ready : CreateAt → ℕ
left_ready (PushCreated id) = 1
left_ready (Locked p) = 0
left_ready (Outside p) = 0

abbrev pub left_of : CreateCall → Hand → CreateAt → Lock → ℕ
left_of c h p lock.Table = left_table p
left_of c h p (lock.Thread number) = 0
left_of c h p lock.Ready = left_ready p

-- The same, where it is told whether the word that was loaded is still there: a create loses no exchange.
abbrev pub rest_of : CreateCall → Hand → Bool → CreateAt → Lock → ℕ
rest_of c h there p k = left_of c h p k

-- THE SECTION, as a location with what is in hand

abbrev pub at_of : CreateLocation → CreateAt
at_of (location.Outside p) = Outside p
at_of (location.Locked p numbers) = Locked p
at_of (location.PushCreated id numbers lists) = PushCreated id
at_of (location.ListsReturned id numbers) = PushCreated id
at_of (location.NumbersReturned r) = Locked (Release r)

abbrev pub hand_of : CreateLocation → Hand
hand_of (location.Outside p) = nothing
hand_of (location.Locked p numbers) = record { numbers = numbers; queue = no_queue; lists = no_lists }
hand_of (location.PushCreated id numbers lists) = record { numbers = numbers; queue = no_queue; lists = lists }
hand_of (location.ListsReturned id numbers) = record { numbers = numbers; queue = no_queue; lists = no_lists }
hand_of (location.NumbersReturned r) = nothing

abbrev pub location_with : Hand → CreateAt → CreateLocation
location_with h (Outside p) = location.Outside p
location_with h (Locked p) = location.Locked p h.numbers
location_with h (PushCreated id) = location.PushCreated id h.numbers h.lists

-- What is left in the section once it is asked for its step: what a release puts back has gone.
abbrev pub asked_locked : CreateLocked → ThreadNumbers → CreateLocation
asked_locked (Release r) numbers = location.NumbersReturned r
asked_locked LoadCaller numbers = location.Locked LoadCaller numbers
asked_locked (PlaceContext id) numbers = location.Locked (PlaceContext id) numbers
asked_locked (CommitCreate id) numbers = location.Locked (CommitCreate id) numbers
asked_locked (AcquireReady id) numbers = location.Locked (AcquireReady id) numbers

abbrev pub asked_location : CreateLocation → CreateLocation
asked_location (location.Outside p) = location.Outside p
asked_location (location.Locked p numbers) = asked_locked p numbers
asked_location (location.PushCreated id numbers lists) = location.ListsReturned id numbers
asked_location (location.ListsReturned id numbers) = location.ListsReturned id numbers
asked_location (location.NumbersReturned r) = location.NumbersReturned r

-- A section at its first location.
abbrev pub create_of : CreateCall → StateWord → CreateSection
create_of c own = record { call = c; own = own; location = location_with nothing (first_of c); done = 0 }

abbrev pub next_of : CreateCall → StateWord → Hand → CreateAt → Step
next_of c own h p = step_for (ask_of c own p) (hand_after c h p plain.Released)

abbrev pub step_of : CreateSection → Step
step_of s = next_of s.call s.own (hand_of s.location) (at_of s.location)

abbrev pub asked : CreateSection → CreateSection
asked s = record s { location = asked_location s.location }

-- what came of the step, given its answer
abbrev pub response_at : CreateCall → StateWord → CreateAt → Answer → Response
response_at c own p a = response_of a (ask_of c own p)

-- where it stands after an answer that makes the step
abbrev pub moved_location : CreateCall → StateWord → Hand → CreateAt → Answer → CreateLocation
moved_location c own h p a =
    location_with (hand_with a (hand_after c h p (response_at c own p a))) (leads c h p (response_at c own p a))

-- Where it stands after an answer: with one that doesn't make the step it stays where it is.
abbrev pub resumed_location : CreateCall → StateWord → CreateLocation → Answer → CreateLocation
resumed_location c own l a =
    if makes (next_of c own (hand_of l) (at_of l)) a then moved_location c own (hand_of l) (at_of l) a else l

-- what an answer tells the section
abbrev pub heard : CreateSection → Answer → Response
heard s a = response_at s.call s.own (at_of s.location) a

-- the section after an answer that makes the step
abbrev pub moved : CreateSection → Answer → CreateSection
moved s a = record s {
  own = own_of s.call s.own (at_of s.location) (heard s a);
  location = moved_location s.call s.own (hand_of s.location) (at_of s.location) a;
  done = one_more s.done;
}

-- the section after an answer that the step can have
abbrev pub resumed : CreateSection → Answer → CreateSection
resumed s a = if is_again a then s else moved s a

-- how the section goes on
abbrev pub went_at : Option ℕ → CreateAt → Went
went_at (Some priority) p = went.Pushed priority
went_at None p = end_at p

abbrev pub went_of : CreateCall → Hand → CreateAt → Response → Went
went_of c h p r = if plain.is_again r then went.Again else went_at (pushed_at c p) (leads c h p r)

-- the same by any answer
abbrev pub resumed_went : CreateCall → StateWord → Hand → CreateAt → Answer → Went
resumed_went c own h p a = if makes (next_of c own h p) a then went_at (pushed_at c p) (leads c h p (response_at c own p a)) else went_on a

-- CONDITIONS, on the section alone

-- it isn't over
abbrev pub is_open : CreateAt → Bool
is_open (Outside AcquireTable) = true
is_open (Outside (Ended w)) = false
is_open (Locked p) = true
is_open (PushCreated id) = true

-- its step can be asked for: it isn't over, and the step before was answered
abbrev pub can_ask : CreateLocation → Bool
can_ask (location.Outside p) = is_open (Outside p)
can_ask (location.Locked p numbers) = true
can_ask (location.PushCreated id numbers lists) = true
can_ask (location.ListsReturned id numbers) = false
can_ask (location.NumbersReturned r) = false

-- the thread that is made has a number that may get it, in the next version
pub record IsNext (id : ThreadId) (numbers : ThreadNumbers) : Type 0 where
  pub number : id.number < 64
  pub inside : id.number < length numbers.versions
  pub next : version_at numbers id.number + 1 ≡ id.version
  pub version : id.version < 2 ^ 20

abbrev pub IsSoundRelease : CreateRelease → ThreadNumbers → Type 0
IsSoundRelease (release.Made id) numbers = IsNext id numbers
IsSoundRelease (release.Full alive worn) numbers = Unit {0}
IsSoundRelease release.Dead numbers = Unit {0}

abbrev pub IsSoundLocked : CreateLocked → ThreadNumbers → Type 0
IsSoundLocked LoadCaller numbers = Unit {0}
IsSoundLocked (PlaceContext id) numbers = IsNext id numbers
IsSoundLocked (CommitCreate id) numbers = IsNext id numbers
IsSoundLocked (AcquireReady id) numbers = IsNext id numbers
IsSoundLocked (Release r) numbers = IsSoundRelease r numbers

abbrev pub IsSoundLocation : CreateLocation → Type 0
IsSoundLocation (location.Outside p) = Unit {0}
IsSoundLocation (location.Locked p numbers) = IsSoundLocked p numbers
IsSoundLocation (location.PushCreated id numbers lists) = IsNext id numbers
IsSoundLocation (location.ListsReturned id numbers) = IsNext id numbers
IsSoundLocation (location.NumbersReturned r) = Unit {0}

-- The section can be asked and answered: its priority is in the range, and what it has in hand is what its location needs.
pub record IsSound (s : CreateSection) : Type 0 where
  pub priority : s.call.priority < 64
  pub own : IsThread s.own
  pub version : s.own.version ≡ s.call.caller.version
  pub running : runs s.own.state ≡ true
  pub located : IsSoundLocation s.location

-- the thread that is pushed stands in no ready list
abbrev pub CanPush : CreateCall → Hand → CreateAt → Type 0
CanPush c h (PushCreated id) = IsInNone id.number h.lists.lists
CanPush c h p = Unit {0}

-- a loaded state word is a spelling
abbrev pub IsFit : CreateAt → Answer → Type 0
IsFit (Locked LoadCaller) (answer.Told (told.Loaded bits)) = IsStateSpelling bits
IsFit p a = Unit {0}

-- WHAT IS CLAIMED OF IT, in the words of any table

-- an exchange of a create is never lost
abbrev pub IsNotLost : Response → Type 0
IsNotLost (plain.Lost w) = ⊥
IsNotLost r = Unit {0}

abbrev pub create_table : CreateCall → Table CreateAt
create_table c = record {
  first = first_of c;
  ask = ask_of c;
  leads = leads c;
  hand = hand_after c;
  own = own_of c;
  locks = locks_of c;
  left = left_of c;
  stays = λ p. false;
  counted = λ p. 0;
  rest = rest_of c;
  seen = λ p. None;
  Allows = λ h p r. IsNotLost r;
  Fits = λ h p. Unit {0};
}
