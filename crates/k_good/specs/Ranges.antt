-- Of a good board: thread ids in words and locations are in the table's range.
use Rattle.std.specs.Prelude.{◌≡◌, ℕ, Bool, true, false, Option, IfSome, length}
use Rattle.k_ids.specs.declared.calls.Phase.{Phase}
use Rattle.k_ids.specs.declared.calls.Reply.{Reply}
use Rattle.k_ids.specs.declared.state_word.Result4.{Result4}
use Rattle.k_ids.specs.declared.state_word.Result4.TheVariants as result4
use Rattle.k_ids.specs.declared.state_word.State.{State}
use Rattle.k_ids.specs.declared.state_word.State.TheVariants as state
use Rattle.k_script.specs.declared.registers.Next.TheVariants as next
use Rattle.k_script.specs.Plays.{IsInRange, Position}
use Rattle.k_caller.specs.Threads.{NamesIn}
use Rattle.k_caller.specs.declared.thread.ThreadLocation.{ThreadLocation}
use Rattle.k_caller.specs.declared.thread.ThreadLocation.TheVariants as location
use Rattle.k_board.specs.Words.{Programs}
use Rattle.k_board.specs.Boards.{At, Alone, InSend, InReceive, InCreate, InDestroy, InSwitch, Resting, Coming, Nowhere, Board, id_at}

-- each call that a program gives names threads of the table
abbrev pub NamesFit : Programs → ℕ → Type 0
NamesFit g size = (p : Position) (r : Option Reply) (f : Phase) → g.next p r ≡ next.Phase f → NamesIn size f

abbrev pub FitsResult : ℕ → Result4 → Type 0
FitsResult size (result4.Delivered from) = IsInRange size from
FitsResult size result4.Plain = Unit {0}
FitsResult size result4.Sent = Unit {0}
FitsResult size result4.Gone = Unit {0}

-- the partner that a state names
abbrev pub FitsState : ℕ → State → Type 0
FitsState size (state.Sending to joined) = IsInRange size to
FitsState size (state.Receiving from) = IfSome from (IsInRange size)
FitsState size (state.Run result) = FitsResult size result
FitsState size state.Dead = Unit {0}
FitsState size state.Picking = Unit {0}
FitsState size state.Ended = Unit {0}

abbrev pub FitsAlone : ℕ → ThreadLocation → Type 0
FitsAlone size (location.LoadMail from) = IsInRange size from
FitsAlone size p = Unit {0}

-- whom a location is about besides its own thread; a destroy knows the table's size
abbrev pub FitsAt : ℕ → At → Type 0
FitsAt size (Alone p) = FitsAlone size p
FitsAt size (InSend c p) = IsInRange size c.to
FitsAt size (InReceive c p) = IfSome c.from (IsInRange size)
FitsAt size (InCreate c p) = Unit {0}
FitsAt size (InDestroy c p) = IsInRange size c.who × (c.count ≡ size)
FitsAt size (InSwitch c p) = Unit {0}
FitsAt size Resting = Unit {0}
FitsAt size Coming = Unit {0}
FitsAt size Nowhere = Unit {0}

-- whether a thread makes its steps there
abbrev pub is_threads : At → Bool
is_threads (Alone p) = true
is_threads (InSend c p) = true
is_threads (InReceive c p) = true
is_threads (InCreate c p) = true
is_threads (InDestroy c p) = true
is_threads (InSwitch c p) = false
is_threads Resting = false
is_threads Coming = false
is_threads Nowhere = false

pub record IsWithin (b : Board) : Type 0 where
  pub count : length b.numbers.versions ≡ b.size
  pub words : (t : ℕ) → FitsState b.size (b.seen t).word.state
  pub threads : (i : ℕ) → is_threads (b.context i).at ≡ true → IsInRange b.size (id_at b i)
  pub targets : (i : ℕ) → FitsAt b.size (b.context i).at
