-- Each message that is sent stays one of two words of 32 bits.
use Rattle.std.proofs.Common.{ℕ, sym, subst}
use Rattle.k_ids.specs.declared.calls.Phase.{Phase}
use Rattle.k_ids.specs.declared.calls.Phase.TheVariants as phase
use Rattle.k_ids.specs.declared.threads.ThreadId.{ThreadId}
use Rattle.k_model.specs.Maps.{upd}
use Rattle.k_model.proofs.Maps.{upd_cases}
use Rattle.k_locks.specs.declared.steps.Went.{Went}
use Rattle.k_locks.specs.declared.steps.Went.TheVariants as went
use Rattle.k_locks.specs.Asks.{Response}
use Rattle.k_locks.specs.Asks as asks
use Rattle.k_ipc.specs.declared.send.SendCall.{SendCall}
use Rattle.k_ipc.specs.declared.send.SendOutside.TheVariants as send_outside
use Rattle.k_ipc.specs.SendTable.{SendAt}
use Rattle.k_ipc.specs.SendTable as send
use Rattle.k_ipc.specs.declared.receive.ReceiveCall.{ReceiveCall}
use Rattle.k_ipc.specs.declared.receive.ReceiveOutside.TheVariants as outside
use Rattle.k_ipc.specs.ReceiveTable.{ReceiveAt}
use Rattle.k_ipc.specs.ReceiveTable as receive
use Rattle.k_threads.specs.declared.create.CreateCall.{CreateCall}
use Rattle.k_threads.specs.declared.create.CreateOutside.TheVariants as create_outside
use Rattle.k_threads.specs.declared.create.CreateLocked.TheVariants as create_locked
use Rattle.k_threads.specs.CreateTable.{CreateAt}
use Rattle.k_threads.specs.CreateTable as create
use Rattle.k_threads.specs.declared.destroy.DestroyCall.{DestroyCall}
use Rattle.k_threads.specs.declared.destroy.DestroyOutside.TheVariants as destroy_outside
use Rattle.k_threads.specs.declared.destroy.DestroyLocked.TheVariants as destroy_locked
use Rattle.k_threads.specs.DestroyTable.{DestroyAt}
use Rattle.k_threads.specs.DestroyTable as destroy
use Rattle.k_board.specs.Words.{Programs}
use Rattle.k_board.specs.Boards.{Board, Context}
use Rattle.k_board.specs.Boots.{Booted, has_carrier, has_none, has_thread}
use Rattle.k_board.specs.Steps.{after, begun_at, create_at, create_contexts, destroy_at, destroy_contexts, receive_at, send_at}
use Rattle.k_board.specs.Turns.{Turn, sends, receives, creates, destroys, goes_alone, begins}
use Rattle.k_board.specs.Turns.{turns_to_work, wakes, switches, begins_switch, ends_switch}
use Rattle.k_legal.specs.Waiting.{FitsCall, FitsSend, IsMessage, MessagesFit, MessagesHold}

after_fits : (me : ThreadId) (w : Went) → FitsSend (after me w)
after_fits me (went.Ends r) = tt
after_fits me went.Waits = tt
after_fits me went.Picks = tt
after_fits me went.CallerDead = tt
after_fits me went.On = tt
after_fits me went.Again = tt
after_fits me (went.Pushed priority) = tt

send_fits : (c : SendCall) (p : SendAt) → IsMessage c.message → FitsSend (send_at c p)
send_fits c (send.Outside (send_outside.Ended w)) m = after_fits c.caller w
send_fits c p m = m

receive_fits : (c : ReceiveCall) (p : ReceiveAt) → FitsSend (receive_at c p)
receive_fits c (receive.Outside (outside.Ended w)) = after_fits c.caller w
receive_fits c p = tt

create_fits : (c : CreateCall) (p : CreateAt) → FitsSend (create_at c p)
create_fits c (create.Outside (create_outside.Ended w)) = after_fits c.caller w
create_fits c p = tt

destroy_fits : (c : DestroyCall) (p : DestroyAt) → FitsSend (destroy_at c p)
destroy_fits c (destroy.Outside (destroy_outside.Ended w)) = after_fits c.caller w
destroy_fits c p = tt

begun_fits : (size : ℕ) (me : ThreadId) (f : Phase) → FitsCall f → FitsSend (begun_at size me f)
begun_fits size me (phase.Send to message soon joined) m = m
begun_fits size me (phase.Reply to message soon) m = m
begun_fits size me (phase.Receive from soon) m = tt
begun_fits size me (phase.Create program priority) m = tt
begun_fits size me (phase.Destroy who) m = tt
begun_fits size me phase.End m = tt

-- one context moves
moved_fits : (c : ℕ → Context) (i : ℕ) (x : Context) → FitsSend x.at → MessagesHold c → MessagesHold (upd c i x)
moved_fits c i x h m j = upd_cases (λ (y : Context). FitsSend y.at) c i x j (λ _. h) (λ _. m j)

created_fit : (g : Programs) (c : CreateCall) (p : CreateAt) (r : Response) (s : ℕ → Context) → MessagesHold s →
    MessagesHold (create_contexts g c p r s)
created_fit g c (create.Locked (create_locked.PlaceContext id)) asks.Placed s m = moved_fits s id.number _ tt m
created_fit g c (create.Locked (create_locked.CommitCreate id)) asks.Won s m = moved_fits s id.number _ tt m
created_fit g c p r s m = m

destroyed_fit : (c : DestroyCall) (p : DestroyAt) (r : Response) (s : ℕ → Context) → MessagesHold s →
    MessagesHold (destroy_contexts c p r s)
destroyed_fit c (destroy.Locked destroy_locked.RemoveContext) asks.Removed s m = moved_fits s c.who.number _ tt m
destroyed_fit c p r s m = m

pub messages_keep : (g : Programs) (b : Board) (i : ℕ) (b' : Board) → MessagesFit g → MessagesHold b.context → Turn g b i b' →
    MessagesHold b'.context
messages_keep g b i _ fit m (sends c p r at an) = moved_fits b.context i _ (send_fits c _ (subst FitsSend at (m i))) m
messages_keep g b i _ fit m (receives c p r at an) = moved_fits b.context i _ (receive_fits c _) m
messages_keep g b i _ fit m (creates c p r at an) =
    moved_fits (create_contexts g c p r b.context) i _ (create_fits c _) (created_fit g c p r b.context m)
messages_keep g b i _ fit m (destroys c p r at an) =
    moved_fits (destroy_contexts c p r b.context) i _ (destroy_fits c _) (destroyed_fit c p r b.context m)
messages_keep g b i _ fit m (goes_alone p r at can an) = moved_fits b.context i _ tt m
messages_keep g b i _ fit m (begins l f at e) =
    moved_fits b.context i _ (begun_fits b.size _ f (fit (b.context i).position l f e)) m
messages_keep g b i _ fit m (turns_to_work l count at e) = moved_fits b.context i _ tt m
messages_keep g b i _ fit m (wakes at) = moved_fits b.context i _ tt m
messages_keep g b i _ fit m (switches c p r at going an) = moved_fits b.context i _ tt m
messages_keep g b i _ fit m (begins_switch c at) = moved_fits b.context i _ tt m
messages_keep g b i _ fit m (ends_switch c s at) = moved_fits b.context i _ tt m

booted_fits : (g : Programs) (b : Board) (n : ℕ) → Booted g b n → FitsSend (b.context n).at
booted_fits g b n (has_thread program priority t) = subst (λ (x : Context). FitsSend x.at) (sym t.context) tt
booted_fits g b n (has_none d e) = subst FitsSend (sym e) tt
booted_fits g b n (has_carrier d e) = subst FitsSend (sym e) tt

pub messages_start : (g : Programs) (b : Board) → ((n : ℕ) → Booted g b n) → MessagesHold b.context
messages_start g b h n = booted_fits g b n (h n)
