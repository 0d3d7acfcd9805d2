-- A destroy: its locks.
use Rattle.std.proofs.Common.{◌≡◌, ℕ, Bool, true, false, refl, arith}
use Rattle.std.proofs.lemmas.Grind.{common_steps}
use Rattle.std.specs.Prelude.{if◌then◌else◌}
use Rattle.k_ids.specs.declared.state_word.StateWord.{StateWord}
use Rattle.k_locks.specs.Asks.{Response, suits_response}
use Rattle.k_locks.specs.Hands.{Hand}
use Rattle.k_locks.specs.Locks.{IsByRank}
use Rattle.k_locks.specs.Tables.{IsAbove, IsHeld, IsRising, locks_after}
use Rattle.k_locks.proofs.Responses.{told_by}
use Rattle.k_threads.specs.declared.destroy.DestroyCall.{DestroyCall}
use Rattle.k_threads.specs.declared.destroy.DestroyOutside.TheVariants.{LoadOwn, AcquireTable, Ended}
use Rattle.k_threads.specs.declared.destroy.DestroyLocked.TheVariants.{LoadCaller, AcquireVictimLock, AcquireReadyForVictim, RemoveContext, AcquireVisitedLock, Release}
use Rattle.k_threads.specs.declared.destroy.DestroyVictim.TheVariants.{LoadVictim, CommitKill, LoadSender, FreeSender, AcquireReadyForSender, ReleaseVictimLock, ReleaseVictimLockAbsent}
use Rattle.k_threads.specs.declared.destroy.DestroyVisit.TheVariants.{LoadVisited, FreeVisited, AcquireReadyForVisited, ReleaseVisitedLock}
use Rattle.k_threads.specs.declared.destroy.DestroyPushing.TheVariants.{PushSender, PushVisited}
use Rattle.k_threads.specs.DestroyTable.{DestroyAt, Locked, Outside, Pushing, UnlistVictim, Victim, Visit, ask_of, destroy_table, leads, locks_of, queue_at, visited_at}
use Rattle.k_threads.specs.Goods.{table_and_thread}
use Rattle.k_threads.specs.Words.{is_receiving_from}
use Rattle.k_threads.proofs.Held.{all_ranked, nothing_held, table_ranked, table_ready_ranked, thread_ranked}

ranked : (c : DestroyCall) (p : DestroyAt) → IsByRank (locks_of c p)
ranked c (Outside p) rank l e = absurd (nothing_held rank l e)
ranked c (Locked p) rank l e = table_ranked rank l e
ranked c (Victim p) rank l e = thread_ranked c.who.number rank l e
ranked c (Visit p) rank l e = thread_ranked (visited_at p) rank l e
ranked c UnlistVictim rank l e = table_ready_ranked rank l e
ranked c (Pushing p) rank l e = all_ranked (queue_at c p) rank l e

above : (c : DestroyCall) (own : StateWord) (p : DestroyAt) → IsAbove (ask_of c own p) (locks_of c p)
above c own (Outside LoadOwn) = tt
above c own (Outside AcquireTable) = λ rank m e. absurd (nothing_held rank m e)
above c own (Outside (Ended w)) = tt
above c own (Locked LoadCaller) = tt
above c own (Locked AcquireVictimLock) = λ rank m e. grind (arith, common_steps)
above c own (Locked AcquireReadyForVictim) = λ rank m e. grind (arith, common_steps)
above c own (Locked RemoveContext) = tt
above c own (Locked (AcquireVisitedLock visited)) = λ rank m e. grind (arith, common_steps)
above c own (Locked (Release e)) = tt
above c own (Victim LoadVictim) = tt
above c own (Victim (CommitKill seen)) = tt
above c own (Victim (LoadSender sender)) = tt
above c own (Victim (FreeSender sender seen)) = tt
above c own (Victim (AcquireReadyForSender sender seen)) = λ rank m e. grind (arith, common_steps)
above c own (Victim ReleaseVictimLock) = tt
above c own (Victim (ReleaseVictimLockAbsent found)) = tt
above c own (Visit (LoadVisited visited)) = tt
above c own (Visit (FreeVisited visited seen)) = tt
above c own (Visit (AcquireReadyForVisited visited seen)) = λ rank m e. grind (arith, common_steps)
above c own (Visit (ReleaseVisitedLock visited)) = tt
above c own UnlistVictim = tt
above c own (Pushing (PushSender sender seen)) = tt
above c own (Pushing (PushVisited visited seen)) = tt

releasing : (c : DestroyCall) (own : StateWord) (p : DestroyAt) → IsHeld (ask_of c own p) (locks_of c p)
releasing c own (Outside LoadOwn) = tt
releasing c own (Outside AcquireTable) = tt
releasing c own (Outside (Ended w)) = tt
releasing c own (Locked LoadCaller) = tt
releasing c own (Locked AcquireVictimLock) = tt
releasing c own (Locked AcquireReadyForVictim) = tt
releasing c own (Locked RemoveContext) = tt
releasing c own (Locked (AcquireVisitedLock visited)) = tt
releasing c own (Locked (Release e)) = refl
releasing c own (Victim LoadVictim) = tt
releasing c own (Victim (CommitKill seen)) = tt
releasing c own (Victim (LoadSender sender)) = tt
releasing c own (Victim (FreeSender sender seen)) = tt
releasing c own (Victim (AcquireReadyForSender sender seen)) = tt
releasing c own (Victim ReleaseVictimLock) = refl
releasing c own (Victim (ReleaseVictimLockAbsent found)) = refl
releasing c own (Visit (LoadVisited visited)) = tt
releasing c own (Visit (FreeVisited visited seen)) = tt
releasing c own (Visit (AcquireReadyForVisited visited seen)) = tt
releasing c own (Visit (ReleaseVisitedLock visited)) = refl
releasing c own UnlistVictim = refl
releasing c own (Pushing (PushSender sender seen)) = refl
releasing c own (Pushing (PushVisited visited seen)) = refl

-- the locks after a step
abbrev Follows : DestroyCall → StateWord → Hand → DestroyAt → Response → Type 0
Follows c own h p r = locks_of c (leads c h p r) ≡ locks_after (ask_of c own p) r (locks_of c p)

-- a visited thread is freed under the lock of its number
freed_visit : (c : DestroyCall) (visited : ℕ) (seen : StateWord) (b : Bool) → locks_of c (Visit (if b then ReleaseVisitedLock visited else AcquireReadyForVisited visited seen)) ≡ table_and_thread visited
freed_visit c visited seen true = refl
freed_visit c visited seen false = refl

loaded_visit : (c : DestroyCall) (visited : ℕ) (w : StateWord) (b : Bool) → locks_of c (Visit (if b then FreeVisited visited w else ReleaseVisitedLock visited)) ≡ table_and_thread visited
loaded_visit c visited w true = refl
loaded_visit c visited w false = refl

held : (c : DestroyCall) (own : StateWord) (h : Hand) (p : DestroyAt) (r : Response) → suits_response (ask_of c own p) r ≡ true → Follows c own h p r
held c own h (Outside LoadOwn) r s = told_by (ask_of c own (Outside LoadOwn)) r (Follows c own h (Outside LoadOwn)) s (λ v. refl) tt
held c own h (Outside AcquireTable) r s = told_by (ask_of c own (Outside AcquireTable)) r (Follows c own h (Outside AcquireTable)) s refl (λ owner. refl)
held c own h (Outside (Ended w)) r s = told_by (ask_of c own (Outside (Ended w))) r (Follows c own h (Outside (Ended w))) s (λ v. refl) tt
held c own h (Locked LoadCaller) r s = told_by (ask_of c own (Locked LoadCaller)) r (Follows c own h (Locked LoadCaller)) s (λ v. refl) tt
held c own h (Locked AcquireVictimLock) r s = told_by (ask_of c own (Locked AcquireVictimLock)) r (Follows c own h (Locked AcquireVictimLock)) s refl (λ owner. refl)
held c own h (Locked AcquireReadyForVictim) r s = told_by (ask_of c own (Locked AcquireReadyForVictim)) r (Follows c own h (Locked AcquireReadyForVictim)) s refl (λ owner. refl)
held c own h (Locked RemoveContext) r s = told_by (ask_of c own (Locked RemoveContext)) r (Follows c own h (Locked RemoveContext)) s refl refl
held c own h (Locked (AcquireVisitedLock visited)) r s = told_by (ask_of c own (Locked (AcquireVisitedLock visited))) r (Follows c own h (Locked (AcquireVisitedLock visited))) s refl (λ owner. refl)
held c own h (Locked (Release e)) r s = told_by (ask_of c own (Locked (Release e))) r (Follows c own h (Locked (Release e))) s refl tt
held c own h (Victim LoadVictim) r s = told_by (ask_of c own (Victim LoadVictim)) r (Follows c own h (Victim LoadVictim)) s (λ v. refl) tt
held c own h (Victim (CommitKill seen)) r s = told_by (ask_of c own (Victim (CommitKill seen))) r (Follows c own h (Victim (CommitKill seen))) s (refl, λ v. refl) tt
held c own h (Victim (LoadSender sender)) r s = told_by (ask_of c own (Victim (LoadSender sender))) r (Follows c own h (Victim (LoadSender sender))) s (λ v. refl) tt
held c own h (Victim (FreeSender sender seen)) r s = told_by (ask_of c own (Victim (FreeSender sender seen))) r (Follows c own h (Victim (FreeSender sender seen))) s (refl, λ v. refl) tt
held c own h (Victim (AcquireReadyForSender sender seen)) r s = told_by (ask_of c own (Victim (AcquireReadyForSender sender seen))) r (Follows c own h (Victim (AcquireReadyForSender sender seen))) s refl (λ owner. refl)
held c own h (Victim ReleaseVictimLock) r s = told_by (ask_of c own (Victim ReleaseVictimLock)) r (Follows c own h (Victim ReleaseVictimLock)) s refl tt
held c own h (Victim (ReleaseVictimLockAbsent found)) r s = told_by (ask_of c own (Victim (ReleaseVictimLockAbsent found))) r (Follows c own h (Victim (ReleaseVictimLockAbsent found))) s refl tt
held c own h (Visit (LoadVisited visited)) r s = told_by (ask_of c own (Visit (LoadVisited visited))) r (Follows c own h (Visit (LoadVisited visited))) s (λ v. loaded_visit c visited v (is_receiving_from c.who v.state)) tt
held c own h (Visit (FreeVisited visited seen)) r s = told_by (ask_of c own (Visit (FreeVisited visited seen))) r (Follows c own h (Visit (FreeVisited visited seen))) s (freed_visit c visited seen seen.on, λ v. refl) tt
held c own h (Visit (AcquireReadyForVisited visited seen)) r s = told_by (ask_of c own (Visit (AcquireReadyForVisited visited seen))) r (Follows c own h (Visit (AcquireReadyForVisited visited seen))) s refl (λ owner. refl)
held c own h (Visit (ReleaseVisitedLock visited)) r s = told_by (ask_of c own (Visit (ReleaseVisitedLock visited))) r (Follows c own h (Visit (ReleaseVisitedLock visited))) s refl tt
held c own h UnlistVictim r s = told_by (ask_of c own UnlistVictim) r (Follows c own h UnlistVictim) s refl tt
held c own h (Pushing (PushSender sender seen)) r s = told_by (ask_of c own (Pushing (PushSender sender seen))) r (Follows c own h (Pushing (PushSender sender seen))) s refl tt
held c own h (Pushing (PushVisited visited seen)) r s = told_by (ask_of c own (Pushing (PushVisited visited seen))) r (Follows c own h (Pushing (PushVisited visited seen))) s refl tt

pub rises : (c : DestroyCall) → IsRising (destroy_table c)
rises c = record { none = refl; ranked = ranked c; rising = above c; releasing = releasing c; held = held c }
