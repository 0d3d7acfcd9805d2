-- A location without a thread to push says nothing of one.
use Rattle.std.proofs.Common.{◌≡◌, ℕ, Bool, cond, sym, ap, ◌∙◌, Some, None}
use Rattle.k_ids.specs.declared.threads.ThreadId.{ThreadId}
use Rattle.k_senders.specs.Entries.{sender_of}
use Rattle.k_ipc.specs.declared.send.SendCall.{SendCall}
use Rattle.k_ipc.specs.declared.send.SendLocked.TheVariants as send_locked
use Rattle.k_ipc.specs.declared.send.SendPushing.TheVariants as send_pushing
use Rattle.k_ipc.specs.SendTable.{SendAt}
use Rattle.k_ipc.specs.SendTable as send
use Rattle.k_ipc.specs.declared.receive.ReceiveLocked.TheVariants as receive_locked
use Rattle.k_ipc.specs.declared.receive.ReceivePushing.TheVariants as receive_pushing
use Rattle.k_ipc.specs.ReceiveTable.{ReceiveAt, stays_out}
use Rattle.k_ipc.specs.ReceiveTable as receive
use Rattle.k_threads.specs.declared.create.CreateCall.{CreateCall}
use Rattle.k_threads.specs.declared.create.CreateLocked.TheVariants as create_locked
use Rattle.k_threads.specs.CreateTable.{CreateAt}
use Rattle.k_threads.specs.CreateTable as create
use Rattle.k_threads.specs.declared.destroy.DestroyVictim.TheVariants as victim
use Rattle.k_threads.specs.declared.destroy.DestroyVisit.TheVariants as visit
use Rattle.k_threads.specs.declared.destroy.DestroyPushing.TheVariants as destroy_pushing
use Rattle.k_threads.specs.DestroyTable.{DestroyAt}
use Rattle.k_threads.specs.DestroyTable as destroy
use Rattle.k_board.specs.Words.{Seen}
use Rattle.k_board.specs.Boards.{At, Alone, InSend, InReceive, InCreate, InDestroy, InSwitch, Resting, Coming, Nowhere}
use Rattle.k_tokens.specs.World.{Threads}
use Rattle.k_board.specs.Boards.{Board}
use Rattle.k_tokens.specs.World.{World}
use Rattle.k_grants.specs.Granted.{Finding, IsGranted}
use Rattle.k_grants.specs.Views.{create_push, destroy_push, look_at, receive_push, send_push}
use Rattle.k_grants.specs.Pushes.{CreatePushes, DestroyPushes, PushSays, board_threads, ReceivePushes, SendPushes}

module _ (seen : ℕ → Seen) (threads : Threads) where
  send_silent : (c : SendCall) (p : SendAt) → send_push c p ≡ None → SendPushes seen c p
  send_silent c (send.Locked (send_locked.AcquireReady priority)) e = absurd cc
  send_silent c (send.Pushing (send_pushing.PushReceiver priority)) e = absurd cc
  send_silent c p e = tt

  receive_silent : (p : ReceiveAt) → receive_push p ≡ None → ReceivePushes seen threads p
  receive_silent (receive.Locked (receive_locked.EndPick f w)) e =
      λ s. absurd (some_none (sym (ap (λ (b : Bool). cond b None (Some (sender_of f))) s) ∙ e))
    where
      some_none : {who : ThreadId} → Some who ≡ None → ⊥
      some_none z = cc
  receive_silent (receive.Locked (receive_locked.AcquireReady f)) e = absurd cc
  receive_silent (receive.Pushing (receive_pushing.LoadFreed f)) e = absurd cc
  receive_silent (receive.Pushing (receive_pushing.PushFreed f w)) e = absurd cc
  receive_silent p e = tt

  create_silent : (c : CreateCall) (p : CreateAt) → create_push p ≡ None → CreatePushes seen c p
  create_silent c (create.Locked (create_locked.AcquireReady id)) e = absurd cc
  create_silent c (create.PushCreated id) e = absurd cc
  create_silent c p e = tt

  destroy_silent : (p : DestroyAt) → destroy_push p ≡ None → DestroyPushes seen p
  destroy_silent (destroy.Victim (victim.AcquireReadyForSender sender w)) e = absurd cc
  destroy_silent (destroy.Pushing (destroy_pushing.PushSender sender w)) e = absurd cc
  destroy_silent (destroy.Visit (visit.AcquireReadyForVisited visited w)) e = absurd cc
  destroy_silent (destroy.Pushing (destroy_pushing.PushVisited visited w)) e = absurd cc
  destroy_silent p e = tt

  pub says_nothing : (p : At) → (look_at p).push ≡ None → PushSays seen threads p
  says_nothing (InSend c p) e = send_silent c p e
  says_nothing (InReceive c p) e = receive_silent p e
  says_nothing (InCreate c p) e = create_silent c p e
  says_nothing (InDestroy c p) e = destroy_silent p e
  says_nothing (Alone p) e = tt
  says_nothing (InSwitch c p) e = tt
  says_nothing Resting e = tt
  says_nothing Coming e = tt
  says_nothing Nowhere e = tt

-- A turn is granted, and what the context pushes then is told.
pub record Turned (b' : Board) (w : World) (c i : ℕ) (f : Finding) (again : Bool) (q : At) : Type 0 where
  pub granted : IsGranted b' w c i f again
  pub says : PushSays b'.seen (board_threads b') q

pub silently : {b' : Board} {w : World} {c i : ℕ} {f : Finding} {again : Bool} {q : At} → IsGranted b' w c i f again →
    (look_at q).push ≡ None → Turned b' w c i f again q
silently {b'} {w} {c} {i} {f} {again} {q} h e = record { granted = h; says = says_nothing b'.seen (board_threads b') q e }
