-- A switch, location by location: what a carrier does to give the processor to the thread that is to go on. It runs under the
-- ready lock: it puts the thread that ran back into its list, and one that is started to the end of its own, and takes the
-- first of the highest list. The locations and their order are this project's own.
use Rattle.std.specs.Prelude.{ℕ, ◌+◌, ◌-◌, ◌≡◌, ◌≤◌, ◌<◌, ◌==◌, Bool, true, false, ◌&&◌, not, if◌then◌else◌, Option, Some, None, is_some, IfSome, List, [], ◌∷◌, ◌++◌}
use Rattle.k_ids.specs.declared.threads.ThreadId.{ThreadId}
use Rattle.k_ids.specs.declared.state_word.StateWord.{StateWord}
use Rattle.k_ids.specs.StateWords.{IsPartner, IsStateSpelling}
use Rattle.k_ready.specs.Lists.{IsInNone, Ready, list_of, with_list}
use Rattle.k_ready.specs.Popped.{Level, highest, popped}
use Rattle.k_locks.specs.declared.locks.Lock.{Lock}
use Rattle.k_locks.specs.declared.locks.Lock.TheVariants as lock
use Rattle.k_locks.specs.Asks.{Ask, Response, response_of, step_for}
use Rattle.k_locks.specs.Asks as plain
use Rattle.k_locks.specs.Hands.{Hand, hand_with, nothing}
use Rattle.k_locks.specs.Steps.{is_again}
use Rattle.k_locks.specs.Tables.{Table}
use Rattle.k_locks.specs.declared.steps.Step.{Step}
use Rattle.k_locks.specs.declared.steps.Answer.{Answer}
use Rattle.k_locks.specs.declared.steps.Answer.TheVariants as answer
use Rattle.k_locks.specs.declared.steps.Told.TheVariants as told
use Rattle.k_locks.specs.Shown.{is_present_in}
use Rattle.k_switch.specs.declared.goal.Goal.{Goal}
use Rattle.k_switch.specs.declared.goal.Switched.{Switched}
use Rattle.k_switch.specs.declared.switch.SwitchCall.{SwitchCall}
use Rattle.k_switch.specs.declared.switch.SwitchLocked.{SwitchLocked}
use Rattle.k_switch.specs.declared.switch.SwitchLocked.TheVariants.{LoadGoal, LoadStart, ReleaseReady}
use Rattle.k_switch.specs.declared.switch.SwitchLocation.{SwitchLocation}
use Rattle.k_switch.specs.declared.switch.SwitchLocation.TheVariants as location
use Rattle.k_switch.specs.declared.switch.Switch.{Switch}

-- A location: what is held there, and which step comes.
pub data SwitchAt : Type 0 where
  AcquireReady : SwitchAt
  Locked : SwitchLocked → SwitchAt  -- the ready lock
  Returned : Switched → SwitchAt  -- the ready lists went home with the release, and this came of them
  Finished : Switched → SwitchAt

-- the first thread of a number
abbrev pub first_of_number : ℕ → ThreadId
first_of_number number = record { number = number; version = 1 }

-- WHAT THE SWITCH MAKES OF THE READY LISTS

-- the carrier doesn't run its thread any more
abbrev pub uncounted : Bool → Ready → Ready
uncounted true r = record r { running = r.running - 1 }
uncounted false r = r

-- to the front of the list of its priority; or to its end, where its slice of time has ended
abbrev pub put_back : Bool → Option Goal → Ready → Ready
put_back ended None r = r
put_back false (Some g) r = with_list r g.priority (g.id ∷ list_of r.lists g.priority)
put_back true (Some g) r = with_list r g.priority (list_of r.lists g.priority ++ g.id ∷ [])

abbrev pub entered : Option Goal → Ready → Ready
entered None r = r
entered (Some g) r = with_list r g.priority (list_of r.lists g.priority ++ g.id ∷ [])

-- the lists from which the next thread is taken
abbrev pub filled : SwitchCall → Option Goal → Option Goal → Ready → Ready
filled c back started r = entered started (put_back c.slice_ended back (uncounted c.counted r))

abbrev pub goal_at : Option Level → Option Goal
goal_at None = None
goal_at (Some l) = Some (record { id = l.id; priority = l.priority })

-- the thread that is taken is run by the carrier from now on
abbrev pub counted : Bool → Ready → Ready
counted true r = record r { running = r.running + 1 }
counted false r = r

abbrev pub taken : Ready → Ready
taken r = counted (is_some (highest r)) (popped r)

abbrev pub switched_by : Ready → Switched
switched_by r = record { goal = goal_at (highest r); idle = not (is_some (highest r)) && (r.running == 0) }

-- THE STEP

abbrev pub ask_of : SwitchCall → SwitchAt → Ask
ask_of c AcquireReady = plain.Acquire lock.Ready
ask_of c (Locked (LoadGoal goal)) = plain.Load goal.id.number
ask_of c (Locked (LoadStart back number)) = plain.Load number
ask_of c (Locked (ReleaseReady back started)) = plain.Release lock.Ready
ask_of c (Returned s) = plain.Release lock.Ready
ask_of c (Finished s) = plain.Load 0  -- a switch that is over isn't asked

-- WHERE A RESPONSE LEADS

-- the thread, at its priority, where its word shows that it is there and on
abbrev pub shown_on : ThreadId → StateWord → Option Goal
shown_on id w = if is_present_in w id && w.on then Some (record { id = id; priority = w.priority }) else None

abbrev pub to_start : Option ℕ → Option Goal → SwitchLocked
to_start (Some number) back = LoadStart back number
to_start None back = ReleaseReady back None

abbrev pub to_goal : Option ℕ → Option Goal → SwitchLocked
to_goal start (Some goal) = LoadGoal goal
to_goal start None = to_start start None

abbrev pub leads : SwitchCall → Hand → SwitchAt → Response → SwitchAt
leads c h AcquireReady plain.Got = Locked (to_goal c.start c.goal)
leads c h (Locked (LoadGoal goal)) (plain.Word w) = Locked (to_start c.start (shown_on goal.id w))
leads c h (Locked (LoadStart back number)) (plain.Word w) = Locked (ReleaseReady back (shown_on (first_of_number number) w))
leads c h (Locked (ReleaseReady back started)) plain.Released = Finished (switched_by (filled c back started h.lists))
leads c h (Returned s) plain.Released = Finished s
leads c h p r = p  -- the lock is owned: the same step again

-- What becomes of what is in hand, also of what goes home in a release.
abbrev pub hand_after : SwitchCall → Hand → SwitchAt → Response → Hand
hand_after c h (Locked (ReleaseReady back started)) plain.Released = record h { lists = taken (filled c back started h.lists) }
hand_after c h p r = h

-- LOCKS, AND STEPS LEFT

abbrev pub no_lock : List (Option Lock)
no_lock = None ∷ None ∷ None ∷ []

abbrev pub only_ready : List (Option Lock)
only_ready = None ∷ None ∷ Some lock.Ready ∷ []

-- the locks that are held, by rank
abbrev pub locks_of : SwitchAt → List (Option Lock)
locks_of AcquireReady = no_lock
locks_of (Locked p) = only_ready
locks_of (Returned s) = only_ready
locks_of (Finished s) = no_lock

-- How many steps are left until the ready lock is released, that release included. None of them is an exchange.
abbrev pub left_locked : SwitchCall → SwitchLocked → ℕ
left_locked c (LoadGoal goal) = if is_some c.start then 3 else 2
left_locked c (LoadStart back number) = 2
left_locked c (ReleaseReady back started) = 1

abbrev pub left_ready : SwitchCall → SwitchAt → ℕ
left_ready c (Locked p) = left_locked c p
left_ready c (Returned s) = 1
left_ready c AcquireReady = 0
left_ready c (Finished s) = 0

abbrev pub left_of : SwitchCall → SwitchAt → Lock → ℕ
left_of c p lock.Ready = left_ready c p
left_of c p (lock.Thread number) = 0
left_of c p lock.Table = 0

-- THE TABLE, of which the laws on locks and steps are claimed
abbrev pub switch_table : SwitchCall → Table SwitchAt
switch_table c = record {
  first = AcquireReady;
  ask = λ own p. ask_of c p;
  leads = leads c;
  hand = hand_after c;
  own = λ own p r. own;
  locks = locks_of;
  left = λ h p k. left_of c p k;
  stays = λ p. false;
  counted = λ p. 0;
  rest = λ h there p k. left_of c p k;
  seen = λ p. None;
  Allows = λ h p r. Unit {0};
  Fits = λ h p. Unit {0};
}

-- THE SWITCH, as a location with what is in hand

abbrev pub at_of : SwitchLocation → SwitchAt
at_of location.AcquireReady = AcquireReady
at_of (location.Locked p lists) = Locked p
at_of (location.ListsReturned s) = Returned s
at_of (location.Finished s) = Finished s

abbrev pub hand_of : SwitchLocation → Hand
hand_of location.AcquireReady = nothing
hand_of (location.Locked p lists) = record nothing { lists = lists }
hand_of (location.ListsReturned s) = nothing
hand_of (location.Finished s) = nothing

abbrev pub location_with : Hand → SwitchAt → SwitchLocation
location_with h AcquireReady = location.AcquireReady
location_with h (Locked p) = location.Locked p h.lists
location_with h (Returned s) = location.ListsReturned s
location_with h (Finished s) = location.Finished s

-- what is left in the switch once it is asked for its step: the lists have gone with their release
abbrev pub asked_locked : SwitchCall → SwitchLocked → Ready → SwitchLocation
asked_locked c (ReleaseReady back started) lists = location.ListsReturned (switched_by (filled c back started lists))
asked_locked c (LoadGoal goal) lists = location.Locked (LoadGoal goal) lists
asked_locked c (LoadStart back number) lists = location.Locked (LoadStart back number) lists

abbrev pub asked_location : SwitchCall → SwitchLocation → SwitchLocation
asked_location c location.AcquireReady = location.AcquireReady
asked_location c (location.Locked p lists) = asked_locked c p lists
asked_location c (location.ListsReturned s) = location.ListsReturned s
asked_location c (location.Finished s) = location.Finished s

-- A switch at its first location.
abbrev pub switch_of : SwitchCall → Switch
switch_of c = record { call = c; location = location.AcquireReady }

abbrev pub step_of : Switch → Step
step_of s = step_for (ask_of s.call (at_of s.location)) (hand_after s.call (hand_of s.location) (at_of s.location) plain.Released)

abbrev pub asked : Switch → Switch
asked s = record s { location = asked_location s.call s.location }

-- where it stands after an answer that isn't for the same step again
abbrev pub moved_location : SwitchCall → Hand → SwitchAt → Answer → Response → SwitchLocation
moved_location c h p a r = location_with (hand_with a (hand_after c h p r)) (leads c h p r)

abbrev pub location_after : SwitchCall → SwitchLocation → Answer → SwitchLocation
location_after c l a = moved_location c (hand_of l) (at_of l) a (response_of a (ask_of c (at_of l)))

abbrev pub moved : Switch → Answer → Switch
moved s a = record s { location = location_after s.call s.location a }

abbrev pub resumed : Switch → Answer → Switch
resumed s a = if is_again a then s else moved s a

-- what it has come to, once it is over
abbrev pub switched_at : SwitchLocation → Option Switched
switched_at (location.Finished s) = Some s
switched_at location.AcquireReady = None
switched_at (location.Locked p lists) = None
switched_at (location.ListsReturned s) = None

-- CONDITIONS, on the switch alone

-- its step can be asked for: it isn't over, and the step before was answered
abbrev pub can_ask : SwitchLocation → Bool
can_ask location.AcquireReady = true
can_ask (location.Locked p lists) = true
can_ask (location.ListsReturned s) = false
can_ask (location.Finished s) = false

-- An answer may come: it isn't over, and a release was asked for, since the lists go with it.
abbrev pub is_kept : SwitchLocked → Bool
is_kept (LoadGoal goal) = true
is_kept (LoadStart back number) = true
is_kept (ReleaseReady back started) = false

abbrev pub is_asked : SwitchAt → Bool
is_asked AcquireReady = true
is_asked (Locked p) = is_kept p
is_asked (Returned s) = true
is_asked (Finished s) = false

-- a thread that has a place in the ready lists
pub record IsGoal (g : Goal) : Type 0 where
  pub id : IsPartner g.id
  pub priority : g.priority < 64

abbrev pub IsSoundLocked : SwitchLocked → Type 0
IsSoundLocked (LoadGoal goal) = IsGoal goal
IsSoundLocked (LoadStart back number) = IfSome back IsGoal × (number < 64)
IsSoundLocked (ReleaseReady back started) = IfSome back IsGoal × IfSome started IsGoal

abbrev pub IsSoundAt : SwitchAt → Type 0
IsSoundAt (Locked p) = IsSoundLocked p
IsSoundAt AcquireReady = Unit {0}
IsSoundAt (Returned s) = Unit {0}
IsSoundAt (Finished s) = Unit {0}

pub record IsSound (s : Switch) : Type 0 where
  pub goal : IfSome s.call.goal IsGoal
  pub start : IfSome s.call.start (λ number. number < 64)
  pub located : IsSoundAt (at_of s.location)

-- At the release: eight carriers are counted at most, and this one among them where it is; and who is put into a list stands in
-- none.
pub record CanFill (c : SwitchCall) (put start : Option Goal) (r : Ready) : Type 0 where
  pub few : r.running ≤ 8
  pub counted : c.counted ≡ true → 1 ≤ r.running
  pub back : IfSome put (λ g. IsInNone g.id.number (uncounted c.counted r).lists)
  pub started : IfSome start (λ g. IsInNone g.id.number (put_back c.slice_ended put (uncounted c.counted r)).lists)

abbrev pub CanPush : SwitchCall → Hand → SwitchAt → Type 0
CanPush c h (Locked (ReleaseReady back started)) = CanFill c back started h.lists
CanPush c h p = Unit {0}

-- a state word in the answer has a spelling, and is a thread's where it shows one that is on
abbrev pub IsFit : Answer → Type 0
IsFit (answer.Told (told.Loaded bits)) = IsStateSpelling bits
IsFit a = Unit {0}
