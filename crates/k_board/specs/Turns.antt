-- A turn: any context makes its next step, with any response that the words and locks give. What else the steps stand on, of queues,
-- of numbers and of the history, is said here too.
use Rattle.std.specs.Prelude.{◌≡◌, ℕ, ◌==◌, ◌&&◌, Bool, true, false, Option, Some, None}
use Rattle.k_ids.specs.declared.calls.Phase.{Phase}
use Rattle.k_ids.specs.declared.calls.Reply.{Reply}
use Rattle.k_ids.specs.declared.state_word.StateWord.{StateWord}
use Rattle.k_senders.specs.Queue.{IsOnceEach, stands}
use Rattle.k_locks.specs.Asks.{Response}
use Rattle.k_locks.specs.Numbers.{lowest_free, version_at}
use Rattle.k_script.specs.declared.registers.Next.TheVariants as next
use Rattle.k_ipc.specs.declared.send.SendCall.{SendCall}
use Rattle.k_ipc.specs.declared.send.SendLocked.TheVariants as send_locked
use Rattle.k_ipc.specs.SendTable.{SendAt}
use Rattle.k_ipc.specs.SendTable as send
use Rattle.k_ipc.specs.declared.receive.ReceiveCall.{ReceiveCall}
use Rattle.k_ipc.specs.declared.receive.ReceiveLocked.TheVariants as receive_locked
use Rattle.k_ipc.specs.ReceiveTable.{ReceiveAt}
use Rattle.k_ipc.specs.ReceiveTable as receive
use Rattle.k_threads.specs.declared.create.CreateCall.{CreateCall}
use Rattle.k_threads.specs.declared.create.CreateLocked.TheVariants as create_locked
use Rattle.k_threads.specs.CreateTable.{CreateAt}
use Rattle.k_threads.specs.CreateTable as create
use Rattle.k_threads.specs.declared.destroy.DestroyCall.{DestroyCall}
use Rattle.k_threads.specs.declared.destroy.DestroyVictim.TheVariants as victim
use Rattle.k_threads.specs.DestroyTable.{DestroyAt}
use Rattle.k_threads.specs.DestroyTable as destroy
use Rattle.k_threads.specs.Words.{dead_word}
use Rattle.k_caller.specs.declared.thread.ThreadLocation.{ThreadLocation}
use Rattle.k_caller.specs.declared.thread.ThreadLocation.TheVariants as location
use Rattle.k_switch.specs.declared.switch.SwitchCall.{SwitchCall}
use Rattle.k_switch.specs.declared.goal.Switched.{Switched}
use Rattle.k_switch.specs.Switches.{SwitchAt}
use Rattle.k_switch.specs.Switches as switch
use Rattle.k_caller.specs.Waits.{can_ask, is_waiting}
use Rattle.k_caller.specs.Waits as alone
use Rattle.k_board.specs.Words.{Programs}
use Rattle.k_board.specs.Boards.{At, Alone, InSend, InReceive, InCreate, InDestroy, InSwitch, Resting, Nowhere, Context, Board, id_at}
use Rattle.k_board.specs.Facts.{AllWait, is_open}
use Rattle.k_board.specs.Steps.{Answers, alone_board, begun, begun_at, create_board, destroy_board, placed, receive_board, send_board, switch_board, working}

-- whether a switch isn't over
abbrev pub is_going : SwitchAt → Bool
is_going switch.AcquireReady = true
is_going (switch.Locked p) = true
is_going (switch.Returned s) = true
is_going (switch.Finished s) = false

pub data Turn (g : Programs) (b : Board) (i : ℕ) : Board → Type 0 where
  sends : (c : SendCall) (p : SendAt) (r : Response) → (b.context i).at ≡ InSend c p →
      Answers b (send.ask_of c (b.context i).own p) r → Turn g b i (send_board g b i (b.context i) c p r)
  receives : (c : ReceiveCall) (p : ReceiveAt) (r : Response) → (b.context i).at ≡ InReceive c p →
      Answers b (receive.ask_of c (b.context i).own p) r → Turn g b i (receive_board g b i (b.context i) c p r)
  creates : (c : CreateCall) (p : CreateAt) (r : Response) → (b.context i).at ≡ InCreate c p →
      Answers b (create.ask_of c (b.context i).own p) r → Turn g b i (create_board g b i (b.context i) c p r)
  destroys : (c : DestroyCall) (p : DestroyAt) (r : Response) → (b.context i).at ≡ InDestroy c p →
      Answers b (destroy.ask_of c (b.context i).own p) r → Turn g b i (destroy_board g b i (b.context i) c p r)
  goes_alone : (p : ThreadLocation) (r : Response) → (b.context i).at ≡ Alone p → can_ask p ≡ true →
      Answers b (alone.ask_of (id_at b i) (b.context i).own p) r → Turn g b i (alone_board g b i (b.context i) p r)
  begins : (l : Option Reply) (f : Phase) → (b.context i).at ≡ Alone (location.Between l) →
      g.next (b.context i).position l ≡ next.Phase f →
      Turn g b i (placed b i (begun g (b.context i) l (begun_at b.size (id_at b i) f)))
  turns_to_work : (l : Option Reply) (count : ℕ) → (b.context i).at ≡ Alone (location.Between l) →
      g.next (b.context i).position l ≡ next.Work count → Turn g b i (placed b i (working g (b.context i) l count))
  wakes : (b.context i).at ≡ Alone location.Asleep →
      Turn g b i (placed b i (record (b.context i) { at = Alone location.LookAgain }))
  switches : (c : SwitchCall) (p : SwitchAt) (r : Response) → (b.context i).at ≡ InSwitch c p → is_going p ≡ true →
      Answers b (switch.ask_of c p) r → Turn g b i (switch_board b i (b.context i) c p r)
  begins_switch : (c : SwitchCall) → (b.context i).at ≡ Resting →
      Turn g b i (placed b i (record (b.context i) { at = InSwitch c switch.AcquireReady }))
  ends_switch : (c : SwitchCall) (s : Switched) → (b.context i).at ≡ InSwitch c (switch.Finished s) →
      Turn g b i (placed b i (record (b.context i) { at = Resting }))

-- WHAT ELSE THE STEPS STAND ON

-- the number that counts as one that runs although its word is of one that takes messages: its message has passed, or it was freed
abbrev pub excepts_send : SendCall → SendAt → Option ℕ
excepts_send c (send.Locked (send_locked.WakeReceiver w)) = Some c.to.number
excepts_send c (send.Locked send_locked.ReloadReceiver) = Some c.to.number
excepts_send c p = None

abbrev pub excepts_receive : ReceiveCall → ReceiveAt → Option ℕ
excepts_receive c (receive.Locked (receive_locked.CommitGone from)) = Some c.caller.number
excepts_receive c (receive.Locked (receive_locked.EndPick e w)) = Some c.caller.number
excepts_receive c p = None

abbrev pub excepts : At → Option ℕ
excepts (InSend c p) = excepts_send c p
excepts (InReceive c p) = excepts_receive c p
excepts p = None

abbrev pub is_number : Option ℕ → ℕ → Bool
is_number None t = false
is_number (Some n) t = n == t

abbrev pub excepted_by : Option ℕ → (ℕ → Context) → ℕ → Bool
excepted_by None contexts t = false
excepted_by (Some i) contexts t = is_number (excepts (contexts i).at) t

-- The number that a create chooses had a thread that was destroyed, or none yet; it has no context.
abbrev pub IsUnused : Board → ℕ → Type 0
IsUnused b n = ((b.seen n).word ≡ dead_word (version_at b.numbers n)) × ((b.context n).at ≡ Nowhere)

-- What context i's next step stands on besides its own facts: no number has two entries in a queue; a call that waits has no reply
-- yet, as each legal history has it; who begins to wait has no entry of before; those in the queue of one that is destroyed wait for
-- it; and the number that a create chooses is unused.
pub record Supports (b : Board) (i : ℕ) : Type 0 where
  pub once : (t : ℕ) → IsOnceEach (b.queue t)
  pub unanswered : (t : ℕ) → is_waiting (b.seen t).word.state ≡ true →
      (excepted_by (b.owner t) b.context t && is_open (b.seen t).word.state) ≡ false → (b.seen t).told ≡ None
  pub fresh : (c : SendCall) → (b.context i).at ≡ InSend c (send.Locked send_locked.CommitWait) →
      (b.seen i).word ≡ (b.context i).own → stands c.caller.number (b.queue c.to.number) ≡ false
  pub row : (c : DestroyCall) (w : StateWord) → (b.context i).at ≡ InDestroy c (destroy.Victim (victim.CommitKill w)) →
      (b.seen c.who.number).word ≡ w → AllWait c.who b.seen (b.queue c.who.number)
  pub alone : (c : DestroyCall) (w : StateWord) → (b.context i).at ≡ InDestroy c (destroy.Victim (victim.CommitKill w)) →
      (b.seen c.who.number).word ≡ w → stands c.who.number (b.queue c.who.number) ≡ false
  pub unused : (c : CreateCall) (n : ℕ) → (b.context i).at ≡ InCreate c (create.Locked create_locked.LoadCaller) →
      is_waiting (b.seen i).word.state ≡ false → lowest_free b.numbers ≡ Some n → IsUnused b n
