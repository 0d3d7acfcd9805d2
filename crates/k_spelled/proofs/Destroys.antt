-- A destroy: what it writes has a spelling, and so has what it knows after its step.
use Rattle.std.proofs.Common.{◌≡◌, ℕ, ◌+◌, ◌≤◌, ◌<◌, ◌==◌, true, refl, subst, arith, Option, Some, None, List}
use Rattle.std.specs.Prelude.{nat_lt, ◌^◌}
use Rattle.std.proofs.lemmas.Bool.{and_parts}
use Rattle.k_ids.specs.declared.state_word.Result4.TheVariants as result4
use Rattle.k_ids.specs.declared.state_word.State.TheVariants as state
use Rattle.k_ids.specs.declared.state_word.StateWord.{StateWord}
use Rattle.k_ids.specs.declared.threads.ThreadId.{ThreadId}
use Rattle.k_ids.specs.StateWords.{IsStateWord, is_live}
use Rattle.k_senders.specs.declared.entries.SenderEntry.{SenderEntry}
use Rattle.k_senders.specs.Entries.{sender_of}
use Rattle.k_senders.specs.Queue.{first_number}
use Rattle.k_locks.specs.declared.locks.Lock.TheVariants as lock
use Rattle.k_locks.specs.Asks.{Response}
use Rattle.k_locks.specs.Asks as asks
use Rattle.k_locks.specs.Hands.{Hand}
use Rattle.k_locks.specs.Shown.{found_in, is_dead, is_present_in}
use Rattle.k_script.specs.Plays.{IsInRange}
use Rattle.k_threads.specs.declared.destroy.DestroyCall.{DestroyCall}
use Rattle.k_threads.specs.declared.destroy.DestroyLocked.{DestroyLocked}
use Rattle.k_threads.specs.declared.destroy.DestroyLocked.TheVariants.{AcquireReadyForVictim}
use Rattle.k_threads.specs.declared.destroy.DestroyLocked.TheVariants.{AcquireVictimLock}
use Rattle.k_threads.specs.declared.destroy.DestroyLocked.TheVariants.{AcquireVisitedLock, LoadCaller}
use Rattle.k_threads.specs.declared.destroy.DestroyLocked.TheVariants.{Release, RemoveContext}
use Rattle.k_threads.specs.declared.destroy.DestroyOutside.TheVariants.{AcquireTable, Ended, LoadOwn}
use Rattle.k_threads.specs.declared.destroy.DestroyPushing.TheVariants.{PushSender, PushVisited}
use Rattle.k_threads.specs.declared.destroy.DestroyRelease.TheVariants as release
use Rattle.k_threads.specs.declared.destroy.DestroyVictim.{DestroyVictim}
use Rattle.k_threads.specs.declared.destroy.DestroyVictim.TheVariants.{AcquireReadyForSender, CommitKill}
use Rattle.k_threads.specs.declared.destroy.DestroyVictim.TheVariants.{FreeSender}
use Rattle.k_threads.specs.declared.destroy.DestroyVictim.TheVariants.{LoadSender, LoadVictim}
use Rattle.k_threads.specs.declared.destroy.DestroyVictim.TheVariants.{ReleaseVictimLock}
use Rattle.k_threads.specs.declared.destroy.DestroyVictim.TheVariants.{ReleaseVictimLockAbsent}
use Rattle.k_threads.specs.declared.destroy.DestroyVisit.{DestroyVisit}
use Rattle.k_threads.specs.declared.destroy.DestroyVisit.TheVariants.{AcquireReadyForVisited, FreeVisited}
use Rattle.k_threads.specs.declared.destroy.DestroyVisit.TheVariants.{LoadVisited}
use Rattle.k_threads.specs.declared.destroy.DestroyVisit.TheVariants.{ReleaseVisitedLock}
use Rattle.k_threads.specs.DestroyTable.{DestroyAt, Locked, Outside, Pushing, UnlistVictim, Victim, Visit}
use Rattle.k_threads.specs.DestroyTable as destroy
use Rattle.k_threads.specs.Goods.{rest}
use Rattle.k_threads.specs.Words.{is_receiving_from}
use Rattle.k_board.specs.Words.{Programs}
use Rattle.k_board.specs.Boards.{Board, Context}
use Rattle.k_board.specs.Facts.{AllSay, waits_for}
use Rattle.k_board.specs.Places.{facts_destroy}
use Rattle.k_board.specs.Steps.{Answers}
use Rattle.k_board.proofs.Cases.{if_cases}
use Rattle.k_turns.specs.Spelled.{IsSpelled}
use Rattle.k_spelled.specs.Words.{SpelledDestroy}
use Rattle.k_spelled.proofs.Spellings.{changed, dead_spelled, lock_in, receives_live, sends_live}

waits_live : (to : ThreadId) (e : SenderEntry) (w : StateWord) → waits_for to e w ≡ true →
    is_live w.state ≡ true
waits_live to e w s = sends_live to w.state (and_parts (w.version == (sender_of e).version) _ s).1

module _ (g : Programs) (b : Board) (i : ℕ) (x : Context) (few : b.size ≤ 64) where
  visited_lock : (c : DestroyCall) (n : ℕ) → c.count ≡ b.size → n < c.count →
      IsSpelled b.size (asks.Acquire (lock.Thread n))
  visited_lock c n size inside = lock_in b.size n few (subst (λ (k : ℕ). n < k) size inside)

  pub destroy_spelled : (c : DestroyCall) (own : StateWord) (p : DestroyAt) →
      IsInRange b.size c.who × (c.count ≡ b.size) →
      SpelledDestroy p → AllSay g b i x (facts_destroy c p) → IsSpelled b.size (destroy.ask_of c own p)
  destroy_spelled c own (Locked AcquireVictimLock) f k h = lock_in b.size c.who.number few f.0.number
  destroy_spelled c own (Victim (CommitKill w)) f k h =
      let small : c.who.version < 2 ^ 20 = omega (arith, f.0.last) in (k, dead_spelled c.who.version small)
  destroy_spelled c own (Victim (FreeSender sender w)) f k h =
      let is = h.1.1.1.1.1.1.1.1.1.1.0.1 in
      (k, changed w true (state.Run result4.Gone) k (waits_live c.who is.entry w is.waits) refl tt)
  destroy_spelled c own (Victim ReleaseVictimLock) f k h = lock_in b.size c.who.number few f.0.number
  destroy_spelled c own (Victim (ReleaseVictimLockAbsent found)) f k h =
      lock_in b.size c.who.number few f.0.number
  destroy_spelled c own (Locked (AcquireVisitedLock visited)) f k h =
      visited_lock c visited f.1 h.1.1.1.1.1.1.1.1.0.1
  destroy_spelled c own (Visit (FreeVisited visited w)) f k h =
      let live = receives_live c.who w.state h.1.1.1.1.1.1.1.1.1.1.0.1 in
      (k, changed w true (state.Run result4.Gone) k live refl tt)
  destroy_spelled c own (Visit (ReleaseVisitedLock visited)) f k h =
      visited_lock c visited f.1 h.1.1.1.1.1.1.1.1.0.1
  destroy_spelled c own (Outside LoadOwn) f k h = tt
  destroy_spelled c own (Outside AcquireTable) f k h = tt
  destroy_spelled c own (Outside (Ended w)) f k h = tt
  destroy_spelled c own (Pushing (PushSender sender w)) f k h = tt
  destroy_spelled c own (Pushing (PushVisited visited w)) f k h = tt
  destroy_spelled c own UnlistVictim f k h = tt
  destroy_spelled c own p f k h = tt

-- WHERE IT LEADS

abbrev KnowsVictim : DestroyVictim → Type 0
KnowsVictim p = SpelledDestroy (Victim p)

abbrev KnowsLocked : DestroyLocked → Type 0
KnowsLocked p = SpelledDestroy (Locked p)

abbrev KnowsVisit : DestroyVisit → Type 0
KnowsVisit p = SpelledDestroy (Visit p)

free_number_knows : (o : Option ℕ) → KnowsVictim (destroy.free_number o)
free_number_knows None = tt
free_number_knows (Some sender) = tt

free_first_knows : (es : List SenderEntry) → KnowsVictim (destroy.free_first es)
free_first_knows es = free_number_knows (first_number es)

visit_knows : (c : DestroyCall) (n : ℕ) → KnowsLocked (destroy.visit_number c n)
visit_knows c n =
    if_cases KnowsLocked (nat_lt n c.count) (AcquireVisitedLock n) (Release release.Killed) (λ q. tt)
    (λ q. tt)

pub destroy_knows : (b : Board) (c : DestroyCall) (own : StateWord) (h : Hand) (p : DestroyAt)
    (r : Response) →
    Answers b (destroy.ask_of c own p) r → ((t : ℕ) → IsStateWord (b.seen t).word) → SpelledDestroy p →
    SpelledDestroy (destroy.leads c h p r)
destroy_knows b c own h (Locked LoadCaller) (asks.Word w) an words k =
    if_cases KnowsLocked (is_dead w) (Release release.Dead) AcquireVictimLock (λ q. tt) (λ q. tt)
destroy_knows b c own h (Victim LoadVictim) (asks.Word w) an words k =
    if_cases KnowsVictim (is_present_in w c.who) (CommitKill w)
    (ReleaseVictimLockAbsent (found_in c.who.number w))
    (λ q. subst IsStateWord an (words c.who.number)) (λ q. tt)
destroy_knows b c own h (Victim (CommitKill w)) asks.Won an words k = free_first_knows h.queue.entries
destroy_knows b c own h (Victim (CommitKill w)) (asks.Lost v) an words k = tt
destroy_knows b c own h (Victim (LoadSender sender)) (asks.Word w) an words k =
    subst IsStateWord an (words sender)
destroy_knows b c own h (Victim (FreeSender sender w)) asks.Won an words k =
    if_cases KnowsVictim w.on (destroy.free_first (rest h.queue.entries)) (AcquireReadyForSender sender w)
    (λ q. free_first_knows (rest h.queue.entries)) (λ q. k)
destroy_knows b c own h (Victim (FreeSender sender w)) (asks.Lost v) an words k = tt
destroy_knows b c own h (Pushing (PushSender sender w)) asks.Released an words k =
    free_first_knows (rest h.queue.entries)
destroy_knows b c own h (Locked RemoveContext) asks.Removed an words k =
    visit_knows c (destroy.but_victim c 0)
destroy_knows b c own h (Visit (LoadVisited visited)) (asks.Word w) an words k =
    if_cases KnowsVisit (is_receiving_from c.who w.state) (FreeVisited visited w) (ReleaseVisitedLock visited)
    (λ q. subst IsStateWord an (words visited)) (λ q. tt)
destroy_knows b c own h (Visit (FreeVisited visited w)) asks.Won an words k =
    if_cases KnowsVisit w.on (ReleaseVisitedLock visited) (AcquireReadyForVisited visited w) (λ q. tt)
    (λ q. k)
destroy_knows b c own h (Visit (FreeVisited visited w)) (asks.Lost v) an words k = tt
destroy_knows b c own h (Pushing (PushVisited visited w)) asks.Released an words k = tt
destroy_knows b c own h (Visit (ReleaseVisitedLock visited)) asks.Released an words k =
    visit_knows c (destroy.but_victim c (visited + 1))
destroy_knows b c own h (Outside LoadOwn) (asks.Word w) an words k = tt
destroy_knows b c own h (Outside AcquireTable) asks.Got an words k = tt
destroy_knows b c own h (Outside (Ended w)) r an words k = tt
destroy_knows b c own h (Locked AcquireVictimLock) asks.Got an words k = tt
destroy_knows b c own h (Victim (AcquireReadyForSender sender w)) asks.Got an words k = k
destroy_knows b c own h (Victim ReleaseVictimLock) asks.Released an words k = tt
destroy_knows b c own h (Locked AcquireReadyForVictim) asks.Got an words k = tt
destroy_knows b c own h UnlistVictim asks.Released an words k = tt
destroy_knows b c own h (Locked (AcquireVisitedLock visited)) asks.Got an words k = tt
destroy_knows b c own h (Visit (AcquireReadyForVisited visited w)) asks.Got an words k = k
destroy_knows b c own h (Victim (ReleaseVictimLockAbsent found)) asks.Released an words k = tt
destroy_knows b c own h (Locked (Release r)) asks.Released an words k = tt
destroy_knows b c own h p r an words k = k
