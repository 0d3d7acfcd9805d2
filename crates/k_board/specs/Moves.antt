-- What a step of a context may change, by kinds: of what is seen of a number, each kind with what permits it; and of what others own.
use Rattle.std.specs.Prelude.{◌≡◌, ◌≢◌, ◌⊎◌, ℕ, ◌+◌, Bool, true, false, Option, Some, None}
use Rattle.k_ids.specs.declared.threads.ThreadId.{ThreadId}
use Rattle.k_ids.specs.declared.threads.Message.{Message}
use Rattle.k_ids.specs.declared.calls.Reply.{Reply}
use Rattle.k_ids.specs.declared.calls.Reply.TheVariants as reply
use Rattle.k_ids.specs.declared.state_word.Result4.TheVariants as result4
use Rattle.k_ids.specs.declared.state_word.State.{State}
use Rattle.k_ids.specs.declared.state_word.State.TheVariants as state
use Rattle.k_ids.specs.declared.state_word.StateWord.{StateWord}
use Rattle.k_locks.specs.Shown.{is_dead, is_present_in}
use Rattle.k_locks.specs.Threads.{runs}
use Rattle.k_script.specs.Plays.{Position}
use Rattle.k_ipc.specs.Words.{in_state, on_in}
use Rattle.k_threads.specs.Words.{dead_word}
use Rattle.k_caller.specs.Waits.{is_waiting, off_word}
use Rattle.k_board.specs.Words.{Seen, Programs}
use Rattle.k_board.specs.Boards.{At, Coming, Nowhere, Context, Board}
use Rattle.k_board.specs.Facts.{AllSay, is_open}
use Rattle.k_board.specs.Places.{facts_of}

-- whether a thread of this state waits to send
abbrev pub is_sending : State → Bool
is_sending (state.Sending to joined) = true
is_sending state.Dead = false
is_sending (state.Run result) = false
is_sending (state.Receiving from) = false
is_sending state.Picking = false
is_sending state.Ended = false

-- What the caller's word may become at its own deciding exchange. It begins to receive under its own lock, or from one that takes
-- its message; and to send under the lock of the receiver, which is there and isn't the caller.
pub record Goes (b : Board) (j : ℕ) (w : StateWord) : Type 0 where
  pub version : w.version ≡ (b.seen j).word.version
  pub alive : is_dead w ≡ false
  pub any : w.state ≡ state.Receiving None → b.owner j ≡ Some j
  pub one : (from : ThreadId) → w.state ≡ state.Receiving (Some from) → (b.owner j ≡ Some j) ⊎
      ((is_open (b.seen from.number).word.state ≡ true) × (is_present_in (b.seen from.number).word from ≡ true))
  pub sends : (to : ThreadId) (joined : Bool) → w.state ≡ state.Sending to joined → (b.owner to.number ≡ Some j) ×
      (is_present_in (b.seen to.number).word to ≡ true) × (to.number ≢ j)

-- What a step of context j may make of what is seen of a number.
pub data Change (b : Board) (j : ℕ) : ℕ → Seen → Type 0 where
  -- nothing
  same : (t : ℕ) → Change b j t (b.seen t)
  -- the caller's call is decided; its word goes on under its own lock
  calls : (w : StateWord) (r : Option Reply) (p : Position) → runs (b.seen j).word.state ≡ true → Goes b j w →
      Change b j j (record (b.seen j) { word = w; last = (b.seen j).last + 1; told = r; position = p })
  settles : (v : Seen) → b.owner j ≡ Some j → v.word.version ≡ (b.seen j).word.version → is_dead (b.seen j).word ≡ false →
      is_dead v.word ≡ false → is_sending v.word.state ≡ false → is_sending (b.seen j).word.state ≡ false → Change b j j v
  -- a message passes, and is delivered
  passes : (t : ℕ) (r : Reply) → b.owner t ≡ Some j → is_open (b.seen t).word.state ≡ true → (b.seen t).told ≡ None →
      Change b j t (record (b.seen t) { told = Some r })
  delivers : (t : ℕ) (from : ThreadId) → b.owner t ≡ Some j → is_open (b.seen t).word.state ≡ true →
      (b.seen t).told ≡ Some (reply.Got from (b.seen t).mail) →
      Change b j t (record (b.seen t) { word = on_in (state.Run (result4.Delivered from)) (b.seen t).word })
  -- a sender's message is taken; it waits on where its send was joined
  takes : (t : ℕ) (to : ThreadId) → b.owner to.number ≡ Some j → to.number ≡ j →
      (b.seen t).word.state ≡ state.Sending to false → (b.seen t).told ≡ None →
      Change b j t (record (b.seen t) { word = on_in (state.Run result4.Sent) (b.seen t).word; told = Some reply.Sent })
  joins : (t : ℕ) (to : ThreadId) → b.owner to.number ≡ Some j → to.number ≡ j → is_present_in (b.seen j).word to ≡ true →
      (b.seen t).word.state ≡ state.Sending to true →
      Change b j t (record (b.seen t) { word = in_state (state.Receiving (Some to)) (b.seen t).word })
  -- one that waits for a thread that was destroyed is freed
  frees_sender : (t : ℕ) (to : ThreadId) (joined : Bool) → b.owner to.number ≡ Some j → b.table ≡ Some j →
      is_dead (b.seen to.number).word ≡ true → (b.seen t).word.state ≡ state.Sending to joined → (b.seen t).told ≡ None →
      Change b j t (record (b.seen t) { word = on_in (state.Run result4.Gone) (b.seen t).word; told = Some reply.Gone })
  frees_receiver : (t : ℕ) (from : ThreadId) → b.owner t ≡ Some j → b.table ≡ Some j →
      is_dead (b.seen from.number).word ≡ true → (b.seen t).word.state ≡ state.Receiving (Some from) →
      (b.seen t).told ≡ None →
      Change b j t (record (b.seen t) { word = on_in (state.Run result4.Gone) (b.seen t).word; told = Some reply.Gone })
  -- a thread is destroyed
  kills : (t : ℕ) → b.owner t ≡ Some j → b.table ≡ Some j → t ≢ j → is_dead (b.seen t).word ≡ false →
      Change b j t (record (b.seen t) { word = dead_word (b.seen t).word.version })
  -- the number gets a new thread
  makes : (t : ℕ) (w : StateWord) (p : Position) → b.table ≡ Some j → is_dead (b.seen t).word ≡ true →
      (b.context t).at ≡ Coming → runs w.state ≡ true → w.version ≡ (b.seen t).word.version + 1 →
      Change b j t (record (b.seen t) { word = w; last = 0; told = None; position = p })
  -- one that waits falls asleep
  leaves : is_waiting (b.seen j).word.state ≡ true → Change b j j (record (b.seen j) { word = off_word (b.seen j).word })
  -- the mail is written
  posts : (t : ℕ) (m : Message) → b.owner t ≡ Some j → is_open (b.seen t).word.state ≡ true →
      Change b j t (record (b.seen t) { mail = m })

-- What another context owns stays its own, and what its locks guard stays as it is.
pub record Leaves (b : Board) (k : ℕ) (b' : Board) : Type 0 where
  pub owner : (t : ℕ) → b.owner t ≡ Some k → b'.owner t ≡ Some k
  pub table : b.table ≡ Some k → b'.table ≡ Some k
  pub ready : b.ready ≡ Some k → b'.ready ≡ Some k
  pub queue : (t : ℕ) → b.owner t ≡ Some k → b'.queue t ≡ b.queue t
  pub numbers : b.table ≡ Some k → b'.numbers ≡ b.numbers

-- a context that can make no step, since it isn't there or its thread isn't made yet
abbrev pub IsAway : At → Type 0
IsAway p = (p ≡ Nowhere) ⊎ (p ≡ Coming)

-- what each step has to show: its changes are permitted, what others own stays, and the facts of the next location hold
pub record PlaceStep (g : Programs) (b : Board) (i : ℕ) (x : Context) (b' : Board) : Type 0 where
  pub changes : (t : ℕ) → Change b i t (b'.seen t)
  pub others : (k : ℕ) → k ≢ i → Leaves b k b'
  pub facts : AllSay g b' i x (facts_of x.at)
