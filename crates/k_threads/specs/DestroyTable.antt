-- The section of a destroy, location by location: its step, where each answer leads, what becomes of what is in hand, which
-- entry a step appends to the history, which locks are held, and how many steps are left until a lock is released. The
-- locations stand in the order in which a destroy comes to them.
--
-- It holds the table lock from its first step to its last. It kills the victim under the victim's own lock, and frees those
-- who wait to send to it. It takes the victim out of the ready lists and removes its context. Then it visits every other
-- number, frees the thread if it waits for the victim, and unlinks the victim's entry. The locations, their order and their
-- lengths are this project's own.
--
-- `own` is the caller's state word as the section knows it, and `h` is what is in hand. `sender` is the number of the first entry
-- of the victim's queue, `visited` a number that isn't the victim's, and `seen` the word that was loaded of the thread.
use Rattle.std.specs.Prelude.{ℕ, ◌+◌, ◌-◌, ◌*◌, ◌==◌, ◌<◌, ◌≤◌, ◌≡◌, ◌≢◌, nat_lt, Bool, true, false, length, if◌then◌else◌, List, [], Option, Some, None}
use Rattle.k_ids.specs.declared.threads.ThreadId.{ThreadId}
use Rattle.k_ids.specs.declared.calls.Phase.TheVariants as phase
use Rattle.k_ids.specs.declared.calls.Reply.TheVariants as reply
use Rattle.k_ids.specs.declared.calls.Act.TheVariants as act
use Rattle.k_ids.specs.declared.calls.Outcome.{Outcome}
use Rattle.k_ids.specs.declared.calls.Outcome.TheVariants as outcome
use Rattle.k_ids.specs.declared.state_word.StateWord.{StateWord}
use Rattle.k_ids.specs.StateWords.{IsPartner, IsStateSpelling, IsStateWord, state_word_of}
use Rattle.k_model.specs.State.{same_id}
use Rattle.k_ready.specs.Lists.{IsInNone}
use Rattle.k_senders.specs.declared.entries.SenderEntry.{SenderEntry}
use Rattle.k_senders.specs.Queue.{Queue, first_number}
use Rattle.k_locks.specs.declared.locks.Lock.{Lock}
use Rattle.k_locks.specs.declared.locks.Lock.TheVariants as lock
use Rattle.k_locks.specs.declared.points.Point.{Point}
use Rattle.k_locks.specs.declared.steps.Step.{Step}
use Rattle.k_locks.specs.declared.steps.Answer.{Answer}
use Rattle.k_locks.specs.declared.steps.Answer.TheVariants as answer
use Rattle.k_locks.specs.declared.steps.Told.TheVariants as told
use Rattle.k_locks.specs.declared.steps.Went.{Went}
use Rattle.k_locks.specs.declared.steps.Went.TheVariants as went
use Rattle.k_locks.specs.Asks.{Ask, Response, step_for, response_of}
use Rattle.k_locks.specs.Asks as plain
use Rattle.k_locks.specs.Hands.{Hand, nothing, no_lists, no_queue, hand_with, pushed}
use Rattle.k_locks.specs.Numbers.{ThreadNumbers, without_thread}
use Rattle.k_locks.specs.Shown.{found_in, is_dead, is_present_in}
use Rattle.k_locks.specs.Steps.{is_again, one_more}
use Rattle.k_locks.specs.Tables.{Table}
use Rattle.k_locks.specs.Threads.{IsThread, runs}
use Rattle.k_threads.specs.declared.destroy.DestroyCall.{DestroyCall}
use Rattle.k_threads.specs.declared.destroy.DestroyOutside.{DestroyOutside}
use Rattle.k_threads.specs.declared.destroy.DestroyOutside.TheVariants.{LoadOwn, AcquireTable, Ended}
use Rattle.k_threads.specs.declared.destroy.DestroyLocked.{DestroyLocked}
use Rattle.k_threads.specs.declared.destroy.DestroyLocked.TheVariants.{LoadCaller, AcquireVictimLock, AcquireReadyForVictim, RemoveContext, AcquireVisitedLock, Release}
use Rattle.k_threads.specs.declared.destroy.DestroyRelease.{DestroyRelease}
use Rattle.k_threads.specs.declared.destroy.DestroyRelease.TheVariants as release
use Rattle.k_threads.specs.declared.destroy.DestroyVictim.{DestroyVictim}
use Rattle.k_threads.specs.declared.destroy.DestroyVictim.TheVariants.{LoadVictim, CommitKill, LoadSender, FreeSender, AcquireReadyForSender, ReleaseVictimLock, ReleaseVictimLockAbsent}
use Rattle.k_threads.specs.declared.destroy.DestroyVisit.{DestroyVisit}
use Rattle.k_threads.specs.declared.destroy.DestroyVisit.TheVariants.{LoadVisited, FreeVisited, AcquireReadyForVisited, ReleaseVisitedLock}
use Rattle.k_threads.specs.declared.destroy.DestroyPushing.{DestroyPushing}
use Rattle.k_threads.specs.declared.destroy.DestroyPushing.TheVariants.{PushSender, PushVisited}
use Rattle.k_threads.specs.declared.destroy.DestroyReturned.{DestroyReturned}
use Rattle.k_threads.specs.declared.destroy.DestroyReturned.TheVariants as returned
use Rattle.k_threads.specs.declared.destroy.DestroyLocation.{DestroyLocation}
use Rattle.k_threads.specs.declared.destroy.DestroyLocation.TheVariants as location
use Rattle.k_threads.specs.declared.destroy.DestroySection.{DestroySection}
use Rattle.k_threads.specs.Goods.{all_three, no_lock, only_table, rest, table_and_ready, table_and_thread, unlinked, unlisted, without_first}
use Rattle.k_threads.specs.Words.{dead_word, freed_word, is_receiving_from, thread_at}
use Rattle.k_threads.specs.Went.{makes, went_on}

-- A location: what is held there, and which step comes.
pub data DestroyAt : Type 0 where
  Outside : DestroyOutside → DestroyAt  -- no lock
  Locked : DestroyLocked → DestroyAt  -- the table lock
  Victim : DestroyVictim → DestroyAt  -- the table lock and the victim's
  Visit : DestroyVisit → DestroyAt  -- the table lock and that of the visited number
  UnlistVictim : DestroyAt  -- the table lock and the ready lock, which it releases
  Pushing : DestroyPushing → DestroyAt  -- all three: the thread lock is that of where the pushed thread waited

-- the first location
abbrev pub first_of : DestroyCall → DestroyAt
first_of c = Outside (if same_id c.who c.caller then LoadOwn else AcquireTable)

-- THE STEP

abbrev pub ask_of : DestroyCall → StateWord → DestroyAt → Ask
ask_of c own (Outside LoadOwn) = plain.Load c.caller.number
ask_of c own (Outside AcquireTable) = plain.Acquire lock.Table
ask_of c own (Locked LoadCaller) = plain.Load c.caller.number
ask_of c own (Locked AcquireVictimLock) = plain.Acquire (lock.Thread c.who.number)
ask_of c own (Victim LoadVictim) = plain.Load c.who.number
ask_of c own (Victim (CommitKill seen)) = plain.Exchange c.who.number seen (dead_word c.who.version)
ask_of c own (Victim (LoadSender sender)) = plain.Load sender
ask_of c own (Victim (FreeSender sender seen)) = plain.Exchange sender seen (freed_word seen)
ask_of c own (Victim (AcquireReadyForSender sender seen)) = plain.Acquire lock.Ready
ask_of c own (Pushing (PushSender sender seen)) = plain.Release lock.Ready
ask_of c own (Victim ReleaseVictimLock) = plain.Release (lock.Thread c.who.number)
ask_of c own (Locked AcquireReadyForVictim) = plain.Acquire lock.Ready
ask_of c own UnlistVictim = plain.Release lock.Ready
ask_of c own (Locked RemoveContext) = plain.Remove c.who
ask_of c own (Locked (AcquireVisitedLock visited)) = plain.Acquire (lock.Thread visited)
ask_of c own (Visit (LoadVisited visited)) = plain.Load visited
ask_of c own (Visit (FreeVisited visited seen)) = plain.Exchange visited seen (freed_word seen)
ask_of c own (Visit (AcquireReadyForVisited visited seen)) = plain.Acquire lock.Ready
ask_of c own (Pushing (PushVisited visited seen)) = plain.Release lock.Ready
ask_of c own (Visit (ReleaseVisitedLock visited)) = plain.Release (lock.Thread visited)
ask_of c own (Locked (Release r)) = plain.Release lock.Table
ask_of c own (Victim (ReleaseVictimLockAbsent found)) = plain.Release (lock.Thread c.who.number)
ask_of c own (Outside (Ended w)) = plain.Load c.caller.number  -- a section that is over isn't asked

-- WHERE AN ANSWER LEADS

-- on to the first of those who still wait to send to the victim
abbrev pub free_number : Option ℕ → DestroyVictim
free_number None = ReleaseVictimLock
free_number (Some sender) = LoadSender sender

abbrev pub free_first : List SenderEntry → DestroyVictim
free_first senders = free_number (first_number senders)

-- on to the lowest number from this one on that isn't the victim's
abbrev pub but_victim : DestroyCall → ℕ → ℕ
but_victim c number = if number == c.who.number then number + 1 else number

abbrev pub visit_number : DestroyCall → ℕ → DestroyLocked
visit_number c number = if nat_lt number c.count then AcquireVisitedLock number else Release release.Killed

abbrev pub visit_from : DestroyCall → ℕ → DestroyLocked
visit_from c number = visit_number c (but_victim c number)

abbrev pub alive_or_dead : StateWord → Went
alive_or_dead w = if is_dead w then went.CallerDead else went.Ends reply.Own

abbrev pub released_end : DestroyRelease → Went
released_end release.Killed = went.Ends reply.Killed
released_end (release.Absent found) = went.Ends (reply.Absent found)
released_end release.Dead = went.CallerDead

abbrev pub after_victim : DestroyCall → StateWord → DestroyVictim
after_victim c w = if is_present_in w c.who then CommitKill w else ReleaseVictimLockAbsent (found_in c.who.number w)

abbrev pub after_visited : DestroyCall → ℕ → StateWord → DestroyVisit
after_visited c visited w = if is_receiving_from c.who w.state then FreeVisited visited w else ReleaseVisitedLock visited

abbrev pub leads : DestroyCall → Hand → DestroyAt → Response → DestroyAt
leads c h (Outside LoadOwn) (plain.Word w) = Outside (Ended (alive_or_dead w))
leads c h (Outside AcquireTable) plain.Got = Locked LoadCaller
leads c h (Locked LoadCaller) (plain.Word w) = Locked (if is_dead w then Release release.Dead else AcquireVictimLock)
leads c h (Locked AcquireVictimLock) plain.Got = Victim LoadVictim
leads c h (Victim LoadVictim) (plain.Word w) = Victim (after_victim c w)
leads c h (Victim (CommitKill seen)) plain.Won = Victim (free_first h.queue.entries)
leads c h (Victim (CommitKill seen)) (plain.Lost w) = Victim LoadVictim
leads c h (Victim (LoadSender sender)) (plain.Word w) = Victim (FreeSender sender w)
leads c h (Victim (FreeSender sender seen)) plain.Won = Victim (if seen.on then free_first (rest h.queue.entries) else AcquireReadyForSender sender seen)
leads c h (Victim (FreeSender sender seen)) (plain.Lost w) = Victim (LoadSender sender)
leads c h (Victim (AcquireReadyForSender sender seen)) plain.Got = Pushing (PushSender sender seen)
leads c h (Pushing (PushSender sender seen)) plain.Released = Victim (free_first (rest h.queue.entries))
leads c h (Victim ReleaseVictimLock) plain.Released = Locked AcquireReadyForVictim
leads c h (Locked AcquireReadyForVictim) plain.Got = UnlistVictim
leads c h UnlistVictim plain.Released = Locked RemoveContext
leads c h (Locked RemoveContext) plain.Removed = Locked (visit_from c 0)
leads c h (Locked (AcquireVisitedLock visited)) plain.Got = Visit (LoadVisited visited)
leads c h (Visit (LoadVisited visited)) (plain.Word w) = Visit (after_visited c visited w)
leads c h (Visit (FreeVisited visited seen)) plain.Won = Visit (if seen.on then ReleaseVisitedLock visited else AcquireReadyForVisited visited seen)
leads c h (Visit (FreeVisited visited seen)) (plain.Lost w) = Visit (LoadVisited visited)
leads c h (Visit (AcquireReadyForVisited visited seen)) plain.Got = Pushing (PushVisited visited seen)
leads c h (Pushing (PushVisited visited seen)) plain.Released = Visit (ReleaseVisitedLock visited)
leads c h (Visit (ReleaseVisitedLock visited)) plain.Released = Locked (visit_from c (visited + 1))
leads c h (Victim (ReleaseVictimLockAbsent found)) plain.Released = Locked (Release (release.Absent found))
leads c h (Locked (Release r)) plain.Released = Outside (Ended (released_end r))
leads c h p r = p  -- a lock is owned, or a context can't be removed yet: the same step again

-- What becomes of what is in hand, also of what goes home in a release. The first entry goes once its sender was freed.
abbrev pub hand_after : DestroyCall → Hand → DestroyAt → Response → Hand
hand_after c h (Victim (FreeSender sender seen)) plain.Won = if seen.on then record h { queue = without_first h.queue } else h
hand_after c h (Pushing (PushSender sender seen)) plain.Released = record h { queue = without_first h.queue; lists = pushed (thread_at sender seen) seen.priority h.lists }
hand_after c h UnlistVictim plain.Released = record h { lists = unlisted c.who h.lists }
hand_after c h (Pushing (PushVisited visited seen)) plain.Released = record h { lists = pushed (thread_at visited seen) seen.priority h.lists }
hand_after c h (Visit (ReleaseVisitedLock visited)) plain.Released = record h { queue = unlinked c.who h.queue }
hand_after c h (Locked (Release release.Killed)) plain.Released = record h { numbers = without_thread c.who.number h.numbers }
hand_after c h p r = h

-- the caller's word, as the section knows it: no step of a destroy changes it
abbrev pub own_of : DestroyCall → StateWord → DestroyAt → Response → StateWord
own_of c own p r = own

-- How the section goes on: a push is told; and where the section comes to its end, that is told.
abbrev pub pushed_at : DestroyCall → DestroyAt → Option ℕ
pushed_at c (Pushing (PushSender sender seen)) = Some seen.priority
pushed_at c (Pushing (PushVisited visited seen)) = Some seen.priority
pushed_at c UnlistVictim = None
pushed_at c (Visit p) = None
pushed_at c (Victim p) = None
pushed_at c (Locked p) = None
pushed_at c (Outside p) = None

abbrev pub end_at : DestroyAt → Went
end_at (Outside (Ended w)) = w
end_at (Outside LoadOwn) = went.On
end_at (Outside AcquireTable) = went.On
end_at (Locked p) = went.On
end_at (Victim p) = went.On
end_at (Visit p) = went.On
end_at UnlistVictim = went.On
end_at (Pushing p) = went.On

-- THE LINEARIZATION POINTS

abbrev pub point_of : DestroyCall → Outcome → Point
point_of c o = record { who = c.caller; act = act.Call (phase.Destroy c.who); outcome = o }

-- a thread is freed, since the one that it waits for is gone
abbrev pub freed : ThreadId → Point
freed id = record { who = id; act = act.Gone; outcome = outcome.Freed }

-- The point of the history that a step makes, if any. `caller` is the caller's state word at this very step: at LoadOwn it is
-- the word that the step loads. Elsewhere a destroy decides without a look at it: a word becomes dead at CommitKill alone, under
-- the table lock, which the section holds.
abbrev pub points : DestroyCall → StateWord → Hand → DestroyAt → Response → Option Point
points c caller h (Outside LoadOwn) (plain.Word w) = if is_dead w then None else Some (point_of c outcome.Own)
points c caller h (Victim LoadVictim) (plain.Word w) = if is_present_in w c.who then None else Some (point_of c (outcome.Absent (found_in c.who.number w)))
points c caller h (Victim (CommitKill seen)) plain.Won = Some (point_of c outcome.Killed)
points c caller h (Victim (FreeSender sender seen)) plain.Won = Some (freed (thread_at sender seen))
points c caller h (Visit (FreeVisited visited seen)) plain.Won = Some (freed (thread_at visited seen))
points c caller h p r = None

-- LOCKS

-- the number that is visited
abbrev pub visited_at : DestroyVisit → ℕ
visited_at (LoadVisited visited) = visited
visited_at (FreeVisited visited seen) = visited
visited_at (AcquireReadyForVisited visited seen) = visited
visited_at (ReleaseVisitedLock visited) = visited

-- the number whose lock is held while a thread is pushed
abbrev pub queue_at : DestroyCall → DestroyPushing → ℕ
queue_at c (PushSender sender seen) = c.who.number
queue_at c (PushVisited visited seen) = visited

-- the locks that are held, by rank
abbrev pub locks_of : DestroyCall → DestroyAt → List (Option Lock)
locks_of c (Outside p) = no_lock
locks_of c (Locked p) = only_table
locks_of c (Victim p) = table_and_thread c.who.number
locks_of c (Visit p) = table_and_thread (visited_at p)
locks_of c UnlistVictim = table_and_ready
locks_of c (Pushing p) = all_three (queue_at c p)

-- whether this number's lock is held
abbrev pub locks_thread : DestroyCall → DestroyAt → ℕ → Bool
locks_thread c (Outside p) number = false
locks_thread c (Locked p) number = false
locks_thread c (Victim p) number = number == c.who.number
locks_thread c (Visit p) number = number == visited_at p
locks_thread c UnlistVictim number = false
locks_thread c (Pushing p) number = number == queue_at c p

-- HOW MANY STEPS ARE LEFT

-- The most steps that are left from the release of the victim's lock on: four up to the removal of its context, six for each
-- other number, and the release of the table lock.
abbrev pub visits : DestroyCall → ℕ
visits c = 6 * (c.count - 1) + 5

-- how many entries are in hand; before the victim's queue is, there can be one for each other number
abbrev pub in_queue : Hand → ℕ
in_queue h = length h.queue.entries

-- the numbers that are still to be visited, with this one
abbrev pub to_visit : DestroyCall → ℕ → ℕ
to_visit c visited = c.count - visited - (if nat_lt visited c.who.number then 1 else 0)

-- How many steps of the section there are from this location up to the release of the table lock, both included, at most,
-- where no exchange is lost but the one of this location.
abbrev pub left_table : DestroyCall → Hand → DestroyAt → ℕ
left_table c h (Locked LoadCaller) = 4 * (c.count - 1) + visits c + 4
left_table c h (Locked AcquireVictimLock) = 4 * (c.count - 1) + visits c + 3
left_table c h (Victim LoadVictim) = 4 * in_queue h + visits c + 2
left_table c h (Victim (CommitKill seen)) = 4 * in_queue h + visits c + 3
left_table c h (Victim (LoadSender sender)) = 4 * in_queue h + visits c
left_table c h (Victim (FreeSender sender seen)) = 4 * in_queue h + visits c + 1
left_table c h (Victim (AcquireReadyForSender sender seen)) = 4 * in_queue h + visits c - 2
left_table c h (Pushing (PushSender sender seen)) = 4 * in_queue h + visits c - 3
left_table c h (Victim ReleaseVictimLock) = visits c
left_table c h (Locked AcquireReadyForVictim) = visits c - 1
left_table c h UnlistVictim = visits c - 2
left_table c h (Locked RemoveContext) = visits c - 3
left_table c h (Locked (AcquireVisitedLock visited)) = 6 * to_visit c visited + 1
left_table c h (Visit (LoadVisited visited)) = 6 * to_visit c visited
left_table c h (Visit (FreeVisited visited seen)) = 6 * to_visit c visited + 1
left_table c h (Visit (AcquireReadyForVisited visited seen)) = 6 * to_visit c visited - 2
left_table c h (Pushing (PushVisited visited seen)) = 6 * to_visit c visited - 3
left_table c h (Visit (ReleaseVisitedLock visited)) = 6 * to_visit c visited - 4
left_table c h (Locked (Release r)) = 1
left_table c h (Victim (ReleaseVictimLockAbsent found)) = 2
left_table c h p = 0

-- the same up to the release of the thread lock
abbrev pub left_thread : Hand → DestroyAt → ℕ
left_thread h (Victim LoadVictim) = 4 * in_queue h + 3
left_thread h (Victim (CommitKill seen)) = 4 * in_queue h + 4
left_thread h (Victim (LoadSender sender)) = 4 * in_queue h + 1
left_thread h (Victim (FreeSender sender seen)) = 4 * in_queue h + 2
left_thread h (Victim (AcquireReadyForSender sender seen)) = 4 * in_queue h - 1
left_thread h (Pushing (PushSender sender seen)) = 4 * in_queue h - 2
left_thread h (Victim ReleaseVictimLock) = 1
left_thread h (Visit (LoadVisited visited)) = 5
left_thread h (Visit (FreeVisited visited seen)) = 6
left_thread h (Visit (AcquireReadyForVisited visited seen)) = 3
left_thread h (Pushing (PushVisited visited seen)) = 2
left_thread h (Visit (ReleaseVisitedLock visited)) = 1
left_thread h (Victim (ReleaseVictimLockAbsent found)) = 1
left_thread h p = 0

-- the same up to the release of the ready lock
abbrev pub left_ready : DestroyAt → ℕ
left_ready (Pushing (PushSender sender seen)) = 1
left_ready UnlistVictim = 1
left_ready (Pushing (PushVisited visited seen)) = 1
left_ready p = 0

abbrev pub left_of : DestroyCall → Hand → DestroyAt → Lock → ℕ
left_of c h p lock.Table = left_table c h p
left_of c h p (lock.Thread number) = if locks_thread c p number then left_thread h p else 0
left_of c h p lock.Ready = left_ready p

-- The same, where it is told whether the word that was loaded is still there. So it falls with each step.
abbrev pub rest_table : DestroyCall → Hand → Bool → DestroyAt → ℕ
rest_table c h there (Victim (CommitKill seen)) = 4 * in_queue h + visits c + (if there then 1 else 3)
rest_table c h there (Victim (FreeSender sender seen)) = 4 * in_queue h + visits c + 1 - (if there then 2 else 0)
rest_table c h there (Visit (FreeVisited visited seen)) = 6 * to_visit c visited + 1 - (if there then 2 else 0)
rest_table c h there p = left_table c h p

abbrev pub rest_thread : Hand → Bool → DestroyAt → ℕ
rest_thread h there (Victim (CommitKill seen)) = 4 * in_queue h + (if there then 2 else 4)
rest_thread h there (Victim (FreeSender sender seen)) = 4 * in_queue h + (if there then 0 else 2)
rest_thread h there (Visit (FreeVisited visited seen)) = if there then 4 else 6
rest_thread h there p = left_thread h p

abbrev pub rest_of : DestroyCall → Hand → Bool → DestroyAt → Lock → ℕ
rest_of c h there p lock.Table = rest_table c h there p
rest_of c h there p (lock.Thread number) = if locks_thread c p number then rest_thread h there p else 0
rest_of c h there p lock.Ready = left_ready p

-- how many lost exchanges `left_of` counts: the one of this location
abbrev pub counted : DestroyAt → ℕ
counted (Victim (CommitKill seen)) = 1
counted (Victim (FreeSender sender seen)) = 1
counted (Visit (FreeVisited visited seen)) = 1
counted p = 0

-- the number whose word was loaded
abbrev pub seen_of : DestroyCall → DestroyAt → Option ℕ
seen_of c (Victim (CommitKill seen)) = Some c.who.number
seen_of c (Victim (FreeSender sender seen)) = Some sender
seen_of c (Visit (FreeVisited visited seen)) = Some visited
seen_of c p = None

-- THE SECTION, as a location with what is in hand

-- what was asked for where a release has taken along what the lock guards
abbrev pub returned_at : DestroyReturned → DestroyAt
returned_at (returned.Numbers r) = Locked (Release r)
returned_at (returned.VictimLock numbers) = Victim ReleaseVictimLock
returned_at (returned.VictimLockAbsent found numbers) = Victim (ReleaseVictimLockAbsent found)
returned_at (returned.VisitedLock visited numbers) = Visit (ReleaseVisitedLock visited)
returned_at (returned.Unlisted numbers) = UnlistVictim
returned_at (returned.Pushed p numbers queue) = Pushing p

abbrev pub at_of : DestroyLocation → DestroyAt
at_of (location.Outside p) = Outside p
at_of (location.Locked p numbers) = Locked p
at_of (location.Victim p numbers queue) = Victim p
at_of (location.Visit p numbers queue) = Visit p
at_of (location.UnlistVictim numbers lists) = UnlistVictim
at_of (location.Pushing p numbers queue lists) = Pushing p
at_of (location.Returned r) = returned_at r

abbrev pub returned_hand : DestroyReturned → Hand
returned_hand (returned.Numbers r) = nothing
returned_hand (returned.VictimLock numbers) = record { numbers = numbers; queue = no_queue; lists = no_lists }
returned_hand (returned.VictimLockAbsent found numbers) = record { numbers = numbers; queue = no_queue; lists = no_lists }
returned_hand (returned.VisitedLock visited numbers) = record { numbers = numbers; queue = no_queue; lists = no_lists }
returned_hand (returned.Unlisted numbers) = record { numbers = numbers; queue = no_queue; lists = no_lists }
returned_hand (returned.Pushed p numbers queue) = record { numbers = numbers; queue = queue; lists = no_lists }

abbrev pub hand_of : DestroyLocation → Hand
hand_of (location.Outside p) = nothing
hand_of (location.Locked p numbers) = record { numbers = numbers; queue = no_queue; lists = no_lists }
hand_of (location.Victim p numbers queue) = record { numbers = numbers; queue = queue; lists = no_lists }
hand_of (location.Visit p numbers queue) = record { numbers = numbers; queue = queue; lists = no_lists }
hand_of (location.UnlistVictim numbers lists) = record { numbers = numbers; queue = no_queue; lists = lists }
hand_of (location.Pushing p numbers queue lists) = record { numbers = numbers; queue = queue; lists = lists }
hand_of (location.Returned r) = returned_hand r

abbrev pub location_with : Hand → DestroyAt → DestroyLocation
location_with h (Outside p) = location.Outside p
location_with h (Locked p) = location.Locked p h.numbers
location_with h (Victim p) = location.Victim p h.numbers h.queue
location_with h (Visit p) = location.Visit p h.numbers h.queue
location_with h UnlistVictim = location.UnlistVictim h.numbers h.lists
location_with h (Pushing p) = location.Pushing p h.numbers h.queue h.lists

-- What is left in the section once it is asked for its step: what a release puts back has gone.
abbrev pub asked_locked : DestroyLocked → ThreadNumbers → DestroyLocation
asked_locked (Release r) numbers = location.Returned (returned.Numbers r)
asked_locked p numbers = location.Locked p numbers

abbrev pub asked_victim : DestroyVictim → ThreadNumbers → Queue → DestroyLocation
asked_victim ReleaseVictimLock numbers queue = location.Returned (returned.VictimLock numbers)
asked_victim (ReleaseVictimLockAbsent found) numbers queue = location.Returned (returned.VictimLockAbsent found numbers)
asked_victim p numbers queue = location.Victim p numbers queue

abbrev pub asked_visit : DestroyVisit → ThreadNumbers → Queue → DestroyLocation
asked_visit (ReleaseVisitedLock visited) numbers queue = location.Returned (returned.VisitedLock visited numbers)
asked_visit p numbers queue = location.Visit p numbers queue

abbrev pub asked_location : DestroyLocation → DestroyLocation
asked_location (location.Outside p) = location.Outside p
asked_location (location.Locked p numbers) = asked_locked p numbers
asked_location (location.Victim p numbers queue) = asked_victim p numbers queue
asked_location (location.Visit p numbers queue) = asked_visit p numbers queue
asked_location (location.UnlistVictim numbers lists) = location.Returned (returned.Unlisted numbers)
asked_location (location.Pushing p numbers queue lists) = location.Returned (returned.Pushed p numbers queue)
asked_location (location.Returned r) = location.Returned r

-- A section at its first location.
abbrev pub destroy_of : DestroyCall → StateWord → DestroySection
destroy_of c own = record { call = c; own = own; location = location_with nothing (first_of c); done = 0 }

abbrev pub next_of : DestroyCall → StateWord → Hand → DestroyAt → Step
next_of c own h p = step_for (ask_of c own p) (hand_after c h p plain.Released)

abbrev pub step_of : DestroySection → Step
step_of s = next_of s.call s.own (hand_of s.location) (at_of s.location)

abbrev pub asked : DestroySection → DestroySection
asked s = record s { location = asked_location s.location }

-- what came of the step, given its answer
abbrev pub response_at : DestroyCall → StateWord → DestroyAt → Answer → Response
response_at c own p a = response_of a (ask_of c own p)

-- where it stands after an answer that makes the step
abbrev pub moved_location : DestroyCall → StateWord → Hand → DestroyAt → Answer → DestroyLocation
moved_location c own h p a =
    location_with (hand_with a (hand_after c h p (response_at c own p a))) (leads c h p (response_at c own p a))

-- Where it stands after an answer: with one that doesn't make the step it stays where it is.
abbrev pub resumed_location : DestroyCall → StateWord → DestroyLocation → Answer → DestroyLocation
resumed_location c own l a =
    if makes (next_of c own (hand_of l) (at_of l)) a then moved_location c own (hand_of l) (at_of l) a else l

-- what an answer tells the section
abbrev pub heard : DestroySection → Answer → Response
heard s a = response_at s.call s.own (at_of s.location) a

-- the section after an answer that makes the step
abbrev pub moved : DestroySection → Answer → DestroySection
moved s a = record s {
  own = own_of s.call s.own (at_of s.location) (heard s a);
  location = moved_location s.call s.own (hand_of s.location) (at_of s.location) a;
  done = one_more s.done;
}

-- the section after an answer that the step can have
abbrev pub resumed : DestroySection → Answer → DestroySection
resumed s a = if is_again a then s else moved s a

-- how the section goes on
abbrev pub went_at : Option ℕ → DestroyAt → Went
went_at (Some priority) p = went.Pushed priority
went_at None p = end_at p

abbrev pub went_of : DestroyCall → Hand → DestroyAt → Response → Went
went_of c h p r = if plain.is_again r then went.Again else went_at (pushed_at c p) (leads c h p r)

-- the same by any answer
abbrev pub resumed_went : DestroyCall → StateWord → Hand → DestroyAt → Answer → Went
resumed_went c own h p a = if makes (next_of c own h p) a then went_at (pushed_at c p) (leads c h p (response_at c own p a)) else went_on a

-- CONDITIONS, on the section alone

-- it isn't over
abbrev pub is_open : DestroyAt → Bool
is_open (Outside LoadOwn) = true
is_open (Outside AcquireTable) = true
is_open (Outside (Ended w)) = false
is_open p = true

-- its step can be asked for: it isn't over, and the step before was answered
abbrev pub can_ask : DestroyLocation → Bool
can_ask (location.Outside p) = is_open (Outside p)
can_ask (location.Locked p numbers) = true
can_ask (location.Victim p numbers queue) = true
can_ask (location.Visit p numbers queue) = true
can_ask (location.UnlistVictim numbers lists) = true
can_ask (location.Pushing p numbers queue lists) = true
can_ask (location.Returned r) = false

-- one that waits for the victim has one of so many numbers, and the loaded word is one of a thread
pub record IsWaiter (count who : ℕ) (word : StateWord) : Type 0 where
  pub number : who < count
  pub seen : IsThread word

abbrev pub IsSoundLocked : DestroyCall → DestroyLocked → Type 0
IsSoundLocked c (AcquireVisitedLock visited) = visited < c.count
IsSoundLocked c p = Unit {0}

-- a word that is to be replaced has a spelling; the queue goes back without an entry where the victim was killed
abbrev pub IsSoundVictim : DestroyVictim → Queue → Type 0
IsSoundVictim LoadVictim queue = Unit {0}
IsSoundVictim (CommitKill seen) queue = IsStateWord seen
IsSoundVictim (LoadSender sender) queue = sender < 64
IsSoundVictim (FreeSender sender seen) queue = IsWaiter 64 sender seen
IsSoundVictim (AcquireReadyForSender sender seen) queue = IsWaiter 64 sender seen
IsSoundVictim ReleaseVictimLock queue = queue.entries ≡ []
IsSoundVictim (ReleaseVictimLockAbsent found) queue = Unit {0}

abbrev pub IsSoundVisit : DestroyCall → DestroyVisit → Type 0
IsSoundVisit c (LoadVisited visited) = visited < c.count
IsSoundVisit c (FreeVisited visited seen) = IsWaiter c.count visited seen
IsSoundVisit c (AcquireReadyForVisited visited seen) = IsWaiter c.count visited seen
IsSoundVisit c (ReleaseVisitedLock visited) = visited < c.count

abbrev pub IsSoundPushing : DestroyCall → DestroyPushing → Type 0
IsSoundPushing c (PushSender sender seen) = IsWaiter 64 sender seen
IsSoundPushing c (PushVisited visited seen) = IsWaiter c.count visited seen

abbrev pub IsSoundReturned : DestroyCall → DestroyReturned → Type 0
IsSoundReturned c (returned.VisitedLock visited numbers) = visited < c.count
IsSoundReturned c (returned.Pushed p numbers queue) = IsSoundPushing c p
IsSoundReturned c r = Unit {0}

abbrev pub IsSoundLocation : DestroyCall → DestroyLocation → Type 0
IsSoundLocation c (location.Outside p) = Unit {0}
IsSoundLocation c (location.Locked p numbers) = IsSoundLocked c p
IsSoundLocation c (location.Victim p numbers queue) = IsSoundVictim p queue
IsSoundLocation c (location.Visit p numbers queue) = IsSoundVisit c p
IsSoundLocation c (location.UnlistVictim numbers lists) = Unit {0}
IsSoundLocation c (location.Pushing p numbers queue lists) = IsSoundPushing c p
IsSoundLocation c (location.Returned r) = IsSoundReturned c r

-- the victim is named by the id of a thread, and the table has at most 64 numbers
pub record IsSoundCall (c : DestroyCall) : Type 0 where
  pub victim : IsPartner c.who
  pub size : c.count ≤ 64

-- The section can be asked and answered.
pub record IsSound (s : DestroySection) : Type 0 where
  pub call : IsSoundCall s.call
  pub own : IsThread s.own
  pub version : s.own.version ≡ s.call.caller.version
  pub running : runs s.own.state ≡ true
  pub located : IsSoundLocation s.call s.location

-- a thread that is pushed stands in no ready list
abbrev pub CanPush : DestroyCall → Hand → DestroyAt → Type 0
CanPush c h (Pushing (PushSender sender seen)) = IsInNone sender h.lists.lists
CanPush c h (Pushing (PushVisited visited seen)) = IsInNone visited h.lists.lists
CanPush c h p = Unit {0}

-- a loaded state word is a spelling; that of a thread in the victim's queue is one of a thread
abbrev pub IsFit : DestroyAt → Answer → Type 0
IsFit (Outside LoadOwn) (answer.Told (told.Loaded bits)) = IsStateSpelling bits
IsFit (Locked LoadCaller) (answer.Told (told.Loaded bits)) = IsStateSpelling bits
IsFit (Victim LoadVictim) (answer.Told (told.Loaded bits)) = IsStateSpelling bits
IsFit (Victim (LoadSender sender)) (answer.Told (told.Loaded bits)) = IsStateSpelling bits × (1 ≤ (state_word_of bits).version)
IsFit (Visit (LoadVisited visited)) (answer.Told (told.Loaded bits)) = IsStateSpelling bits
IsFit p a = Unit {0}

-- WHAT IS CLAIMED OF IT, in the words of any table

-- a queue has fewer entries than the table has numbers
abbrev pub IsShort : DestroyCall → Hand → DestroyAt → Response → Type 0
IsShort c h (Locked AcquireVictimLock) plain.Got = in_queue h < c.count
IsShort c h p r = Unit {0}

-- a number of the table, and not the victim's
pub record IsOther (c : DestroyCall) (visited : ℕ) : Type 0 where
  pub inside : visited < c.count
  pub other : visited ≢ c.who.number

-- What the counts rest on: the queue in hand has the entry of the sender that is freed, and the visited number isn't the victim's.
abbrev pub Fits : DestroyCall → Hand → DestroyAt → Type 0
Fits c h (Victim (LoadSender sender)) = 1 ≤ in_queue h
Fits c h (Victim (FreeSender sender seen)) = 1 ≤ in_queue h
Fits c h (Victim (AcquireReadyForSender sender seen)) = 1 ≤ in_queue h
Fits c h (Pushing (PushSender sender seen)) = 1 ≤ in_queue h
Fits c h (Locked (AcquireVisitedLock visited)) = IsOther c visited
Fits c h (Visit p) = IsOther c (visited_at p)
Fits c h (Pushing (PushVisited visited seen)) = IsOther c visited
Fits c h p = Unit {0}

-- `left_of` takes it that the loaded word isn't there any more.
abbrev pub destroy_table : DestroyCall → Table DestroyAt
destroy_table c = record {
  first = first_of c;
  ask = ask_of c;
  leads = leads c;
  hand = hand_after c;
  own = own_of c;
  locks = locks_of c;
  left = left_of c;
  stays = λ p. false;
  counted = counted;
  rest = rest_of c;
  seen = seen_of c;
  Allows = IsShort c;
  Fits = Fits c;
}
