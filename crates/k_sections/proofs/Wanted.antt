-- What is wanted is a lock or a context. Only one location asks for a context, and that isn't its own.
use Rattle.std.proofs.Common.{◌≡◌, ◌≢◌, ℕ, true, refl, ◌∙◌, subst, arith, Some}
use Rattle.std.proofs.lemmas.Grind.{common_steps}
use Rattle.k_ids.specs.declared.state_word.State.TheVariants as state
use Rattle.k_ids.specs.declared.state_word.StateWord.{StateWord}
use Rattle.k_locks.specs.declared.locks.Lock.{Lock}
use Rattle.k_locks.specs.declared.locks.Lock.TheVariants as lock
use Rattle.k_locks.specs.Asks.{Ask, Want, want_for, want_of}
use Rattle.k_locks.specs.Asks as asks
use Rattle.k_locks.specs.Shown.{is_dead}
use Rattle.k_ipc.specs.declared.send.SendCall.{SendCall}
use Rattle.k_ipc.specs.SendTable.{SendAt}
use Rattle.k_ipc.specs.SendTable as send
use Rattle.k_ipc.specs.declared.receive.ReceiveCall.{ReceiveCall}
use Rattle.k_ipc.specs.ReceiveTable.{ReceiveAt}
use Rattle.k_ipc.specs.ReceiveTable as receive
use Rattle.k_threads.specs.declared.create.CreateCall.{CreateCall}
use Rattle.k_threads.specs.CreateTable.{CreateAt}
use Rattle.k_threads.specs.CreateTable as create
use Rattle.k_threads.specs.declared.destroy.DestroyCall.{DestroyCall}
use Rattle.k_threads.specs.declared.destroy.DestroyLocked.TheVariants as destroy_locked
use Rattle.k_threads.specs.DestroyTable.{DestroyAt}
use Rattle.k_threads.specs.DestroyTable as destroy
use Rattle.k_switch.specs.declared.switch.SwitchCall.{SwitchCall}
use Rattle.k_switch.specs.Switches.{SwitchAt}
use Rattle.k_switch.specs.Switches as switch
use Rattle.k_board.specs.Words.{Programs}
use Rattle.k_board.specs.Boards.{At, Alone, InSend, InReceive, InCreate, InDestroy, InSwitch, Resting, Coming, Nowhere, Board}
use Rattle.k_board.specs.Facts.{AllSay, IsRun}
use Rattle.k_board.specs.Places.{facts_of}
use Rattle.k_sections.specs.Situations.{want_at}

-- A LOCK OR A CONTEXT

pub data Wanted : Want → Type 0 where
  a_lock : (l : Lock) → Wanted (want_for l)
  a_context : (n : ℕ) → Wanted (asks.Context n)

pub wanted : (w : Want) → Wanted w
wanted asks.Table = a_lock lock.Table
wanted (asks.Thread n) = a_lock (lock.Thread n)
wanted asks.Ready = a_lock lock.Ready
wanted (asks.Context n) = a_context n

pub no_context : {n : ℕ} (l : Lock) → Some (want_for l) ≡ Some (asks.Context n) → ⊥
no_context (lock.Thread m) e = cc
no_context lock.Table e = cc
no_context lock.Ready e = cc

-- THE LOCATION THAT REMOVES A CONTEXT

pub record RemovesAt (p : At) (n : ℕ) : Type 0 where
  pub call : DestroyCall
  pub at : p ≡ InDestroy call (destroy.Locked destroy_locked.RemoveContext)
  pub number : call.who.number ≡ n

pub send_wants : (c : SendCall) (own : StateWord) (p : SendAt) (n : ℕ) → want_of (send.ask_of c own p) ≡ Some (asks.Context n) → ⊥
send_wants c own (send.Outside p) n e = grind (arith, common_steps)
send_wants c own (send.Locked p) n e = grind (arith, common_steps)
send_wants c own (send.Pushing p) n e = grind (arith, common_steps)

pub receive_wants : (c : ReceiveCall) (own : StateWord) (p : ReceiveAt) (n : ℕ) →
    want_of (receive.ask_of c own p) ≡ Some (asks.Context n) → ⊥
receive_wants c own (receive.Outside p) n e = grind (arith, common_steps)
receive_wants c own (receive.Locked p) n e = grind (arith, common_steps)
receive_wants c own (receive.Pushing p) n e = grind (arith, common_steps)

pub create_wants : (c : CreateCall) (own : StateWord) (p : CreateAt) (n : ℕ) →
    want_of (create.ask_of c own p) ≡ Some (asks.Context n) → ⊥
create_wants c own (create.Outside p) n e = grind (arith, common_steps)
create_wants c own (create.Locked p) n e = grind (arith, common_steps)
create_wants c own (create.PushCreated id) n e = grind (arith, common_steps)

pub switch_wants : (c : SwitchCall) (p : SwitchAt) (n : ℕ) → want_of (switch.ask_of c p) ≡ Some (asks.Context n) → ⊥
switch_wants c p n e = grind (arith, common_steps)

number_is : (m n : ℕ) → Some (asks.Context m) ≡ Some (asks.Context n) → m ≡ n
number_is m n e = cc

destroy_wants : (c : DestroyCall) (own : StateWord) (p : DestroyAt) (n : ℕ) →
    want_of (destroy.ask_of c own p) ≡ Some (asks.Context n) → RemovesAt (InDestroy c p) n
destroy_wants c own (destroy.Locked destroy_locked.RemoveContext) n e = record {
  call = c;
  at = refl;
  number = number_is c.who.number n e;
}
destroy_wants c own (destroy.Locked destroy_locked.LoadCaller) n e = absurd cc
destroy_wants c own (destroy.Locked destroy_locked.AcquireVictimLock) n e = absurd cc
destroy_wants c own (destroy.Locked destroy_locked.AcquireReadyForVictim) n e = absurd cc
destroy_wants c own (destroy.Locked (destroy_locked.AcquireVisitedLock visited)) n e = absurd cc
destroy_wants c own (destroy.Locked (destroy_locked.Release r)) n e = absurd cc
destroy_wants c own (destroy.Outside p) n e = absurd (grind (arith, common_steps))
destroy_wants c own (destroy.Victim p) n e = absurd (grind (arith, common_steps))
destroy_wants c own (destroy.Visit p) n e = absurd (grind (arith, common_steps))
destroy_wants c own destroy.UnlistVictim n e = absurd cc
destroy_wants c own (destroy.Pushing p) n e = absurd (grind (arith, common_steps))

pub removes_at : (own : StateWord) (p : At) (n : ℕ) → want_at own p ≡ Some (asks.Context n) → RemovesAt p n
removes_at own (Alone p) n e = absurd cc
removes_at own (InSend c p) n e = absurd (send_wants c own p n e)
removes_at own (InReceive c p) n e = absurd (receive_wants c own p n e)
removes_at own (InCreate c p) n e = absurd (create_wants c own p n e)
removes_at own (InDestroy c p) n e = destroy_wants c own p n e
removes_at own (InSwitch c p) n e = absurd (switch_wants c p n e)
removes_at own Resting n e = absurd cc
removes_at own Coming n e = absurd cc
removes_at own Nowhere n e = absurd cc

-- A running thread isn't dead.
alive : (w own : StateWord) → w ≡ own → IsRun own → is_dead w ≡ true → ⊥
alive w own e run d = dead own run.state (subst (λ (v : StateWord). is_dead v ≡ true) e d)
  where
    dead : (v : StateWord) → v.state ≡ state.Run run.result → is_dead v ≡ true → ⊥
    dead v s q = grind arith

-- The context that is removed is another's.
pub removes_other : (g : Programs) (b : Board) (i n : ℕ) → AllSay g b i (b.context i) (facts_of (b.context i).at) →
    RemovesAt (b.context i).at n → n ≢ i
removes_other g b i n f r e =
    let h = subst (λ (p : At). AllSay g b i (b.context i) (facts_of p)) r.at f in
    let kept = h.1.1.1.1.1.0 in
    alive (b.seen i).word (b.context i).own kept.1 kept.0 (subst (λ (k : ℕ). is_dead (b.seen k).word ≡ true) (r.number ∙ e) h.0.1)
