-- What is left at a location depends only on what the locks held there guard; so, while a context asks for something, no step
-- of another
-- changes how far it is from a release.
use Rattle.std.proofs.Common.{◌≡◌, ℕ, ◌+◌, ◌-◌, ◌*◌, true, refl, ap, Some, List, [], length, arith}
use Rattle.std.specs.Prelude.{◌==◌, if◌then◌else◌}
use Rattle.k_ids.specs.declared.state_word.StateWord.{StateWord}
use Rattle.k_senders.specs.declared.entries.SenderEntry.{SenderEntry}
use Rattle.k_locks.specs.declared.locks.Lock.{Lock}
use Rattle.k_locks.specs.declared.locks.Lock.TheVariants as lock
use Rattle.k_locks.specs.Asks.{Want, want_of}
use Rattle.k_locks.specs.Hands.{Hand, trimmed}
use Rattle.k_locks.specs.Locks.{Holds}
use Rattle.k_ipc.specs.declared.send.SendCall.{SendCall}
use Rattle.k_ipc.specs.SendTable.{SendAt}
use Rattle.k_ipc.specs.SendTable as send
use Rattle.k_ipc.specs.declared.receive.ReceiveCall.{ReceiveCall}
use Rattle.k_ipc.specs.ReceiveTable.{ReceiveAt}
use Rattle.k_ipc.specs.ReceiveTable as receive
use Rattle.k_threads.specs.declared.destroy.DestroyCall.{DestroyCall}
use Rattle.k_threads.specs.declared.destroy.DestroyVictim.{DestroyVictim}
use Rattle.k_threads.specs.declared.destroy.DestroyVictim.TheVariants as victim
use Rattle.k_threads.specs.DestroyTable.{DestroyAt}
use Rattle.k_threads.specs.DestroyTable as destroy
use Rattle.k_board.specs.Boards.{At, Alone, InSend, InReceive, InCreate, InDestroy}
use Rattle.k_board.specs.Boards.{InSwitch, Resting, Coming, Nowhere, Board, hand_of}
use Rattle.k_good.specs.Locks.{locks_at}
use Rattle.k_sections.specs.Situations.{rest_at, want_at, left_by}
use Rattle.k_sections.proofs.CreateFalls as creates
use Rattle.std.proofs.lemmas.Grind.{common_steps}

module _ (b b' : Board) (i : ℕ) (asked : Want) where
  send_rest : (c : SendCall) (own : StateWord) (p : SendAt) → want_of (send.ask_of c own p) ≡ Some asked → (k : Lock) →
      rest_at b' i (InSend c p) k ≡ rest_at b i (InSend c p) k
  send_rest c own (send.Outside p) e k = grind (arith, common_steps, e)
  send_rest c own (send.Locked p) e k = grind (arith, common_steps, e)
  send_rest c own (send.Pushing p) e k = grind (arith, common_steps, e)

  receive_rest : (c : ReceiveCall) (own : StateWord) (p : ReceiveAt) → want_of (receive.ask_of c own p) ≡ Some asked →
      (k : Lock) → rest_at b' i (InReceive c p) k ≡ rest_at b i (InReceive c p) k
  receive_rest c own (receive.Outside p) e k = grind (arith, common_steps, e)
  receive_rest c own (receive.Locked p) e k = grind (arith, common_steps, e)
  receive_rest c own (receive.Pushing p) e k = grind (arith, common_steps, e)

  -- under the victim's lock its queue counts
  sender_rest : (c : DestroyCall) (h h' : Hand) (sender : ℕ) (seen : StateWord) → h.queue.entries ≡ h'.queue.entries →
      (k : Lock) → destroy.rest_of c h true (destroy.Victim (victim.AcquireReadyForSender sender seen)) k ≡
      destroy.rest_of c h' true (destroy.Victim (victim.AcquireReadyForSender sender seen)) k
  sender_rest c h h' sender seen e (lock.Thread n) =
      ap (λ (es : List SenderEntry). if n == c.who.number then 4 * length es - 1 else 0) e
  sender_rest c h h' sender seen e lock.Table = ap (λ (es : List SenderEntry). 4 * length es + destroy.visits c - 2) e
  sender_rest c h h' sender seen e lock.Ready = refl

  victim_rest : (c : DestroyCall) (own : StateWord) (p : DestroyVictim) →
      want_of (destroy.ask_of c own (destroy.Victim p)) ≡ Some asked → b'.queue c.who.number ≡ b.queue c.who.number → (k : Lock) →
      rest_at b' i (InDestroy c (destroy.Victim p)) k ≡ rest_at b i (InDestroy c (destroy.Victim p)) k
  victim_rest c own (victim.AcquireReadyForSender sender seen) e q k =
      sender_rest c (hand_of b' (b'.queue c.who.number)) (hand_of b (b.queue c.who.number)) sender seen q k
  victim_rest c own victim.LoadVictim e q k = absurd cc
  victim_rest c own (victim.CommitKill seen) e q k = absurd cc
  victim_rest c own (victim.LoadSender sender) e q k = absurd cc
  victim_rest c own (victim.FreeSender sender seen) e q k = absurd cc
  victim_rest c own victim.ReleaseVictimLock e q k = absurd cc
  victim_rest c own (victim.ReleaseVictimLockAbsent found) e q k = absurd cc

  destroy_rest : (c : DestroyCall) (own : StateWord) (p : DestroyAt) → want_of (destroy.ask_of c own p) ≡ Some asked →
      ((n : ℕ) → Holds (lock.Thread n) (destroy.locks_of c p) → b'.queue n ≡ b.queue n) → (k : Lock) →
      rest_at b' i (InDestroy c p) k ≡ rest_at b i (InDestroy c p) k
  destroy_rest c own (destroy.Outside p) e s k = grind (arith, common_steps, e)
  destroy_rest c own (destroy.Locked p) e s k = grind (arith, common_steps, e)
  destroy_rest c own (destroy.Visit p) e s k = grind (arith, common_steps, e)
  destroy_rest c own destroy.UnlistVictim e s k = absurd cc
  destroy_rest c own (destroy.Pushing p) e s k = grind (arith, common_steps, e)
  destroy_rest c own (destroy.Victim p) e s k = victim_rest c own p e (s c.who.number refl) k

  -- at any location
  pub same_rest : (own : StateWord) (p : At) → want_at own p ≡ Some asked →
      ((n : ℕ) → Holds (lock.Thread n) (locks_at p) → b'.queue n ≡ b.queue n) → (k : Lock) → rest_at b' i p k ≡ rest_at b i p k
  same_rest own (InSend c p) e s k = send_rest c own p e k
  same_rest own (InReceive c p) e s k = receive_rest c own p e k
  same_rest own (InCreate c p) e s k = creates.same_rest c (hand_of b' []) (hand_of b []) true true p k
  same_rest own (InDestroy c p) e s k = destroy_rest c own p e s k
  same_rest own (InSwitch c p) e s k = refl
  same_rest own (Alone p) e s k = refl
  same_rest own Resting e s k = refl
  same_rest own Coming e s k = refl
  same_rest own Nowhere e s k = refl

receive_left : (c : ReceiveCall) (h : Hand) (p : ReceiveAt) →
    receive.left_thread c (trimmed (receive.locks_of c p) h) p ≡ receive.left_thread c h p
receive_left c h (receive.Outside p) = refl
receive_left c h (receive.Locked p) = grind (arith, common_steps)
receive_left c h (receive.Pushing p) = grind (arith, common_steps)

table_left : (c : DestroyCall) (h : Hand) (p : DestroyAt) →
    destroy.left_table c (trimmed (destroy.locks_of c p) h) p ≡ destroy.left_table c h p
table_left c h (destroy.Outside p) = grind (arith, common_steps)
table_left c h (destroy.Locked p) = grind (arith, common_steps)
table_left c h (destroy.Victim p) = grind (arith, common_steps)
table_left c h (destroy.Visit p) = grind (arith, common_steps)
table_left c h destroy.UnlistVictim = refl
table_left c h (destroy.Pushing p) = grind (arith, common_steps)

thread_left : (c : DestroyCall) (h : Hand) (p : DestroyAt) →
    destroy.left_thread (trimmed (destroy.locks_of c p) h) p ≡ destroy.left_thread h p
thread_left c h (destroy.Outside p) = grind (arith, common_steps)
thread_left c h (destroy.Locked p) = grind (arith, common_steps)
thread_left c h (destroy.Victim p) = grind (arith, common_steps)
thread_left c h (destroy.Visit p) = grind (arith, common_steps)
thread_left c h destroy.UnlistVictim = refl
thread_left c h (destroy.Pushing p) = grind (arith, common_steps)

pub by_hand : (h : Hand) (p : At) (k : Lock) → left_by (trimmed (locks_at p) h) p k ≡ left_by h p k
by_hand h (InSend c p) k = grind (arith, common_steps)
by_hand h (InReceive c p) lock.Table = refl
by_hand h (InReceive c p) (lock.Thread n) = ap (λ (x : ℕ). if n == c.caller.number then x else 0) (receive_left c h p)
by_hand h (InReceive c p) lock.Ready = refl
by_hand h (InCreate c p) k = grind (arith, common_steps)
by_hand h (InDestroy c p) lock.Table = table_left c h p
by_hand h (InDestroy c p) (lock.Thread n) = ap (λ (x : ℕ). if destroy.locks_thread c p n then x else 0) (thread_left c h p)
by_hand h (InDestroy c p) lock.Ready = refl
by_hand h (InSwitch c p) k = refl
by_hand h (Alone p) k = refl
by_hand h Resting k = refl
by_hand h Coming k = refl
by_hand h Nowhere k = refl
