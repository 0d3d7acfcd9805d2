-- What a thread on a board asks for is of numbers of the table.
use Rattle.std.proofs.Common.{◌≡◌, ℕ, ◌≤◌, ◌<◌, true, refl, sym, ap, ◌∙◌, subst, Option, Some, None, List, []}
use Rattle.std.proofs.Common.{◌∷◌, length, arith}
use Rattle.std.specs.Prelude.{IfSome}
use Rattle.k_ids.specs.declared.threads.ThreadId.{ThreadId}
use Rattle.k_ids.specs.declared.state_word.StateWord.{StateWord}
use Rattle.k_senders.specs.declared.entries.SenderEntry.{SenderEntry}
use Rattle.k_senders.specs.Entries.{number_of}
use Rattle.k_senders.specs.Queue.{entry_of, first_number}
use Rattle.k_locks.specs.declared.locks.Lock.TheVariants as lock
use Rattle.k_script.specs.Plays.{IsInRange}
use Rattle.k_ipc.specs.declared.send.SendCall.{SendCall}
use Rattle.k_ipc.specs.declared.send.SendLocked.TheVariants as send_locked
use Rattle.k_ipc.specs.declared.send.SendOutside.TheVariants as send_outside
use Rattle.k_ipc.specs.declared.send.SendPushing.TheVariants as send_pushing
use Rattle.k_ipc.specs.SendTable.{SendAt}
use Rattle.k_ipc.specs.SendTable as send
use Rattle.k_ipc.specs.declared.receive.ReceiveCall.{ReceiveCall}
use Rattle.k_ipc.specs.declared.receive.ReceiveLocked.TheVariants as receive_locked
use Rattle.k_ipc.specs.declared.receive.ReceiveOutside.TheVariants as receive_outside
use Rattle.k_ipc.specs.declared.receive.ReceivePushing.TheVariants as receive_pushing
use Rattle.k_ipc.specs.ReceiveTable.{ReceiveAt}
use Rattle.k_ipc.specs.ReceiveTable as receive
use Rattle.k_threads.specs.declared.create.CreateCall.{CreateCall}
use Rattle.k_threads.specs.declared.create.CreateLocked.TheVariants as create_locked
use Rattle.k_threads.specs.declared.create.CreateOutside.TheVariants as create_outside
use Rattle.k_threads.specs.declared.create.CreateRelease.TheVariants as create_release
use Rattle.k_threads.specs.CreateTable.{CreateAt}
use Rattle.k_threads.specs.CreateTable as create
use Rattle.k_threads.specs.declared.destroy.DestroyCall.{DestroyCall}
use Rattle.k_threads.specs.declared.destroy.DestroyLocked.TheVariants as destroy_locked
use Rattle.k_threads.specs.declared.destroy.DestroyOutside.TheVariants as destroy_outside
use Rattle.k_threads.specs.declared.destroy.DestroyPushing.TheVariants as destroy_pushing
use Rattle.k_threads.specs.declared.destroy.DestroyRelease.TheVariants as destroy_release
use Rattle.k_threads.specs.declared.destroy.DestroyVictim.TheVariants as victim
use Rattle.k_threads.specs.declared.destroy.DestroyVisit.TheVariants as visit
use Rattle.k_threads.specs.DestroyTable.{DestroyAt}
use Rattle.k_threads.specs.DestroyTable as destroy
use Rattle.k_caller.specs.declared.thread.ThreadLocation.{ThreadLocation}
use Rattle.k_caller.specs.declared.thread.ThreadLocation.TheVariants.{Between, FallAsleep, LookAgain}
use Rattle.k_caller.specs.declared.thread.ThreadLocation.TheVariants.{LoadMail}
use Rattle.k_caller.specs.declared.thread.ThreadLocation.TheVariants.{Work, CommitEnd, Asleep, Ended, Dead}
use Rattle.k_caller.specs.Waits as alone
use Rattle.k_board.specs.Words.{Programs}
use Rattle.k_board.specs.Boards.{Alone, At, Board, Coming, Context, InCreate, InDestroy, InReceive, InSend}
use Rattle.k_board.specs.Boards.{InSwitch}
use Rattle.k_board.specs.Boards.{Nowhere, Resting, id_at}
use Rattle.k_board.specs.Facts.{AllSay}
use Rattle.k_board.specs.Places.{PlacesHold, facts_create, facts_destroy, facts_of, facts_receive}
use Rattle.k_good.specs.Ranges.{FitsAt, IsWithin, is_threads}
use Rattle.k_good.proofs.RangesKeep.{receive_caller, send_caller}
use Rattle.k_queues.specs.Queues.{QueuesHold}
use Rattle.k_queues.proofs.Entries.{head_entry, some_is}
use Rattle.k_places.specs.Shows.{IsLockOf}
use Rattle.k_spelled.specs.Asks.{ask_on}
use Rattle.k_spelled.proofs.Creates.{chosen_in}
use Rattle.k_within.specs.Asks.{IsAskWithin}

lock_in : (size n : ℕ) → size ≤ 64 → n < size → IsLockOf size (lock.Thread n)
lock_in size n few h = (omega arith, h)

-- THE CALLER of a create and of a destroy

abbrev IsMine : Board → ℕ → ThreadId → Type 0
IsMine b i me = (me.number ≡ i) × (me.version ≡ (b.seen i).word.version)

create_caller : (g : Programs) (b : Board) (i : ℕ) (x : Context) (c : CreateCall) (p : CreateAt) →
    AllSay g b i x (facts_create c p) → IsMine b i c.caller
create_caller g b i x c (create.Outside create_outside.AcquireTable) h = h.0
create_caller g b i x c (create.Outside (create_outside.Ended w)) h = absurd h.0
create_caller g b i x c (create.Locked create_locked.LoadCaller) h = h.1.0
create_caller g b i x c (create.Locked (create_locked.PlaceContext id)) h = h.1.0
create_caller g b i x c (create.Locked (create_locked.CommitCreate id)) h = h.1.0
create_caller g b i x c (create.Locked (create_locked.AcquireReady id)) h = h.1.0
create_caller g b i x c (create.Locked (create_locked.Release (create_release.Made id))) h = h.1.0
create_caller g b i x c (create.Locked (create_locked.Release (create_release.Full alive worn))) h = h.1.0
create_caller g b i x c (create.Locked (create_locked.Release create_release.Dead)) h = h.1.1.0
create_caller g b i x c (create.PushCreated id) h = h.1.0

destroy_caller : (g : Programs) (b : Board) (i : ℕ) (x : Context) (c : DestroyCall) (p : DestroyAt) →
    AllSay g b i x (facts_destroy c p) → IsMine b i c.caller
destroy_caller g b i x c (destroy.Outside destroy_outside.LoadOwn) h = h.1.0
destroy_caller g b i x c (destroy.Outside destroy_outside.AcquireTable) h = h.1.0
destroy_caller g b i x c (destroy.Outside (destroy_outside.Ended w)) h = absurd h.0
destroy_caller g b i x c (destroy.Locked destroy_locked.LoadCaller) h = h.1.1.0
destroy_caller g b i x c (destroy.Locked destroy_locked.AcquireVictimLock) h = h.1.1.0
destroy_caller g b i x c (destroy.Locked destroy_locked.AcquireReadyForVictim) h = h.1.1.0
destroy_caller g b i x c (destroy.Locked destroy_locked.RemoveContext) h = h.1.1.0
destroy_caller g b i x c (destroy.Locked (destroy_locked.AcquireVisitedLock n)) h = h.1.1.0
destroy_caller g b i x c (destroy.Locked (destroy_locked.Release destroy_release.Killed)) h = h.1.1.0
destroy_caller g b i x c (destroy.Locked (destroy_locked.Release (destroy_release.Absent found))) h = h.1.0
destroy_caller g b i x c (destroy.Locked (destroy_locked.Release destroy_release.Dead)) h = h.1.1.0
destroy_caller g b i x c (destroy.Victim victim.LoadVictim) h = h.1.1.1.0
destroy_caller g b i x c (destroy.Victim (victim.CommitKill w)) h = h.1.1.1.0
destroy_caller g b i x c (destroy.Victim (victim.LoadSender n)) h = h.1.1.0
destroy_caller g b i x c (destroy.Victim (victim.FreeSender n w)) h = h.1.1.0
destroy_caller g b i x c (destroy.Victim (victim.AcquireReadyForSender n w)) h = h.1.1.0
destroy_caller g b i x c (destroy.Victim victim.ReleaseVictimLock) h = h.1.1.0
destroy_caller g b i x c (destroy.Victim (victim.ReleaseVictimLockAbsent found)) h = h.1.1.0
destroy_caller g b i x c (destroy.Visit (visit.LoadVisited n)) h = h.1.1.0
destroy_caller g b i x c (destroy.Visit (visit.FreeVisited n w)) h = h.1.1.0
destroy_caller g b i x c (destroy.Visit (visit.AcquireReadyForVisited n w)) h = h.1.1.0
destroy_caller g b i x c (destroy.Visit (visit.ReleaseVisitedLock n)) h = h.1.1.0
destroy_caller g b i x c destroy.UnlistVictim h = h.1.1.0
destroy_caller g b i x c (destroy.Pushing (destroy_pushing.PushSender n w)) h = h.1.1.0
destroy_caller g b i x c (destroy.Pushing (destroy_pushing.PushVisited n w)) h = h.1.1.0

module _ (g : Programs) (b : Board) (i : ℕ) (x : Context) (few : b.size ≤ 64) (queues : QueuesHold b) where
  -- an entry of a queue is of a number of the table
  entered : (t n : ℕ) (e : SenderEntry) → entry_of n (b.queue t) ≡ Some e → number_of e < b.size
  entered t n e h = (queues.senders t n e h).sender.number

  front_in : (t n : ℕ) → first_number (b.queue t) ≡ Some n → n < b.size
  front_in t n h = by (b.queue t) refl h
    where
      by : (q : List SenderEntry) → b.queue t ≡ q → first_number q ≡ Some n → n < b.size
      by [] e f = absurd cc
      by (d ∷ q) e f =
          subst (λ (k : ℕ). k < b.size) (some_is f)
          (entered t (number_of d) d (ap (entry_of (number_of d)) e ∙ head_entry d q))

  send_within : (c : SendCall) (p : SendAt) (own : StateWord) → IsInRange b.size c.caller →
      IsInRange b.size c.to →
      IsAskWithin b.size (send.ask_of c own p)
  send_within c (send.Outside send_outside.LoadCaller) own me to = me.number
  send_within c (send.Outside send_outside.AcquireReceiver) own me to =
      lock_in b.size c.to.number few to.number
  send_within c (send.Outside (send_outside.CheckCaller r)) own me to = me.number
  send_within c (send.Outside (send_outside.Ended w)) own me to = me.number
  send_within c (send.Locked send_locked.LoadReceiver) own me to = to.number
  send_within c (send.Locked (send_locked.StoreMail w)) own me to = to.number
  send_within c (send.Locked (send_locked.CommitPass w)) own me to = me.number
  send_within c (send.Locked (send_locked.WakeReceiver w)) own me to = to.number
  send_within c (send.Locked send_locked.ReloadReceiver) own me to = to.number
  send_within c (send.Locked (send_locked.AcquireReady priority)) own me to = tt
  send_within c (send.Locked send_locked.CommitWait) own me to = me.number
  send_within c (send.Locked (send_locked.Release r)) own me to = lock_in b.size c.to.number few to.number
  send_within c (send.Pushing (send_pushing.PushReceiver priority)) own me to = tt

  from_in : (o : Option ThreadId) (from : ThreadId) → o ≡ Some from → IfSome o (IsInRange b.size) →
      from.number < b.size
  from_in None from e h = absurd cc
  from_in (Some id) from e h = subst (λ (z : ThreadId). z.number < b.size) (some_is e) h.number

  receive_within : (c : ReceiveCall) (p : ReceiveAt) (own : StateWord) → IsInRange b.size c.caller →
      IfSome c.from (IsInRange b.size) → AllSay g b i x (facts_receive c p) →
      IsAskWithin b.size (receive.ask_of c own p)
  receive_within c (receive.Outside receive_outside.LoadCaller) own me from h = me.number
  receive_within c (receive.Outside receive_outside.AcquireOwn) own me from h =
      lock_in b.size c.caller.number few me.number
  receive_within c (receive.Outside (receive_outside.Ended w)) own me from h = me.number
  receive_within c (receive.Locked receive_locked.LoadOwn) own me from h = me.number
  receive_within c (receive.Locked (receive_locked.LoadSender e)) own me from h =
      entered i (number_of e) e h.1.1.1.1.1.1.0.2
  receive_within c (receive.Locked (receive_locked.FreeSender e w)) own me from h =
      entered i (number_of e) e h.1.1.1.1.1.1.1.0.2
  receive_within c (receive.Locked (receive_locked.AcquireReady e)) own me from h = tt
  receive_within c (receive.Locked receive_locked.CommitWait) own me from h = me.number
  receive_within c (receive.Locked (receive_locked.LoadPartner q)) own me from h = from_in c.from q h.0 from
  receive_within c (receive.Locked (receive_locked.CommitGone q)) own me from h = me.number
  receive_within c (receive.Locked receive_locked.LoadPicking) own me from h = me.number
  receive_within c (receive.Locked (receive_locked.LoadNext e)) own me from h =
      entered i (number_of e) e h.1.1.1.1.1.0.2
  receive_within c (receive.Locked (receive_locked.FreeNext e w)) own me from h =
      entered i (number_of e) e h.1.1.1.1.1.1.0.2
  receive_within c (receive.Locked (receive_locked.EndPick e w)) own me from h = me.number
  receive_within c (receive.Locked receive_locked.SettlePick) own me from h = me.number
  receive_within c (receive.Locked (receive_locked.Release r)) own me from h =
      lock_in b.size c.caller.number few me.number
  receive_within c (receive.Pushing (receive_pushing.LoadFreed e)) own me from h =
      entered i (number_of e) e h.1.1.1.1.1.1.0.2
  receive_within c (receive.Pushing (receive_pushing.PushFreed e w)) own me from h = tt

  create_within : (c : CreateCall) (p : CreateAt) (own : StateWord) → length b.numbers.versions ≡ b.size →
      IsInRange b.size c.caller → AllSay g b i x (facts_create c p) →
      IsAskWithin b.size (create.ask_of c own p)
  create_within c (create.Outside create_outside.AcquireTable) own count me h = tt
  create_within c (create.Outside (create_outside.Ended w)) own count me h = me.number
  create_within c (create.Locked create_locked.LoadCaller) own count me h = me.number
  create_within c (create.Locked (create_locked.PlaceContext id)) own count me h =
      (chosen_in g b i x count id h.1.1.1.1.1.0).number
  create_within c (create.Locked (create_locked.CommitCreate id)) own count me h =
      (chosen_in g b i x count id h.1.1.1.1.1.0).number
  create_within c (create.Locked (create_locked.AcquireReady id)) own count me h = tt
  create_within c (create.Locked (create_locked.Release r)) own count me h = tt
  create_within c (create.PushCreated id) own count me h = tt

  visited_in : (c : DestroyCall) (n : ℕ) → c.count ≡ b.size → n < c.count → n < b.size
  visited_in c n size inside = subst (λ (k : ℕ). n < k) size inside

  destroy_within : (c : DestroyCall) (p : DestroyAt) (own : StateWord) → IsInRange b.size c.caller →
      IsInRange b.size c.who × (c.count ≡ b.size) → AllSay g b i x (facts_destroy c p) →
      IsAskWithin b.size (destroy.ask_of c own p)
  destroy_within c (destroy.Outside destroy_outside.LoadOwn) own me f h = me.number
  destroy_within c (destroy.Outside destroy_outside.AcquireTable) own me f h = tt
  destroy_within c (destroy.Outside (destroy_outside.Ended w)) own me f h = me.number
  destroy_within c (destroy.Locked destroy_locked.LoadCaller) own me f h = me.number
  destroy_within c (destroy.Locked destroy_locked.AcquireVictimLock) own me f h =
      lock_in b.size c.who.number few f.0.number
  destroy_within c (destroy.Locked destroy_locked.AcquireReadyForVictim) own me f h = tt
  destroy_within c (destroy.Locked destroy_locked.RemoveContext) own me f h = f.0.number
  destroy_within c (destroy.Locked (destroy_locked.AcquireVisitedLock n)) own me f h =
      lock_in b.size n few (visited_in c n f.1 h.1.1.1.1.1.1.1.1.0.1)
  destroy_within c (destroy.Locked (destroy_locked.Release r)) own me f h = tt
  destroy_within c (destroy.Victim victim.LoadVictim) own me f h = f.0.number
  destroy_within c (destroy.Victim (victim.CommitKill w)) own me f h = f.0.number
  destroy_within c (destroy.Victim (victim.LoadSender n)) own me f h =
      front_in c.who.number n h.1.1.1.1.1.1.1.1.1.0.1
  destroy_within c (destroy.Victim (victim.FreeSender n w)) own me f h =
      front_in c.who.number n h.1.1.1.1.1.1.1.1.1.0.1
  destroy_within c (destroy.Victim (victim.AcquireReadyForSender n w)) own me f h = tt
  destroy_within c (destroy.Victim victim.ReleaseVictimLock) own me f h =
      lock_in b.size c.who.number few f.0.number
  destroy_within c (destroy.Victim (victim.ReleaseVictimLockAbsent found)) own me f h =
      lock_in b.size c.who.number few f.0.number
  destroy_within c (destroy.Visit (visit.LoadVisited n)) own me f h = visited_in c n f.1 h.1.1.1.1.1.1.1.1.0.1
  destroy_within c (destroy.Visit (visit.FreeVisited n w)) own me f h =
      visited_in c n f.1 h.1.1.1.1.1.1.1.1.0.1
  destroy_within c (destroy.Visit (visit.AcquireReadyForVisited n w)) own me f h = tt
  destroy_within c (destroy.Visit (visit.ReleaseVisitedLock n)) own me f h =
      lock_in b.size n few (visited_in c n f.1 h.1.1.1.1.1.1.1.1.0.1)
  destroy_within c destroy.UnlistVictim own me f h = tt
  destroy_within c (destroy.Pushing (destroy_pushing.PushSender n w)) own me f h = tt
  destroy_within c (destroy.Pushing (destroy_pushing.PushVisited n w)) own me f h = tt

alone_within : (size : ℕ) (me : ThreadId) (own : StateWord) (p : ThreadLocation) → me.number < size →
    IsAskWithin size (alone.ask_of me own p)
alone_within size me own FallAsleep h = h
alone_within size me own LookAgain h = h
alone_within size me own (LoadMail from) h = h
alone_within size me own (Work count) h = h
alone_within size me own CommitEnd h = h
alone_within size me own (Between last) h = h
alone_within size me own Asleep h = h
alone_within size me own Ended h = h
alone_within size me own Dead h = h

module _ (g : Programs) (b : Board) (places : PlacesHold g b) (within : IsWithin b) (queues : QueuesHold b)
    (i : ℕ) where
  facts_at : (p : At) → (b.context i).at ≡ p → AllSay g b i (b.context i) (facts_of p)
  facts_at p e = subst (λ (q : At). AllSay g b i (b.context i) (facts_of q)) e (places i)

  target_at : (p : At) → (b.context i).at ≡ p → FitsAt b.size p
  target_at p e = subst (λ (q : At). FitsAt b.size q) e (within.targets i)

  me_at : (p : At) → (b.context i).at ≡ p → is_threads p ≡ true → IsInRange b.size (id_at b i)
  me_at p e t = within.threads i (ap is_threads e ∙ t)

  caller_at : (me : ThreadId) → IsInRange b.size (id_at b i) → IsMine b i me → IsInRange b.size me
  caller_at me r m = subst (IsInRange b.size) (λ d. record { number = sym m.0 d; version = sym m.1 d }) r

  pub within_at : (p : At) → (b.context i).at ≡ p → is_threads p ≡ true →
      IsAskWithin b.size (ask_on (id_at b i) (b.context i).own p)
  within_at (Alone p) e t = alone_within b.size (id_at b i) (b.context i).own p (me_at (Alone p) e t).number
  within_at (InSend c p) e t =
      let me = caller_at c.caller (me_at (InSend c p) e t)
      (send_caller g b i (b.context i) c p (facts_at (InSend c p) e)) in
      send_within g b i (b.context i) queues.size queues c p (b.context i).own me (target_at (InSend c p) e)
  within_at (InReceive c p) e t =
      let facts = facts_at (InReceive c p) e in
      let me = caller_at c.caller (me_at (InReceive c p) e t) (receive_caller g b i (b.context i) c p facts)
      in
      receive_within g b i (b.context i) queues.size queues c p (b.context i).own me
      (target_at (InReceive c p) e) facts
  within_at (InCreate c p) e t =
      let facts = facts_at (InCreate c p) e in
      let me = caller_at c.caller (me_at (InCreate c p) e t) (create_caller g b i (b.context i) c p facts) in
      create_within g b i (b.context i) queues.size queues c p (b.context i).own within.count me facts
  within_at (InDestroy c p) e t =
      let facts = facts_at (InDestroy c p) e in
      let me = caller_at c.caller (me_at (InDestroy c p) e t) (destroy_caller g b i (b.context i) c p facts)
      in
      destroy_within g b i (b.context i) queues.size queues c p (b.context i).own me
      (target_at (InDestroy c p) e) facts
  within_at (InSwitch c p) e t = absurd cc
  within_at Resting e t = absurd cc
  within_at Coming e t = absurd cc
  within_at Nowhere e t = absurd cc
