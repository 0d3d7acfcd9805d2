-- What a board has to give so that each move of a carrier comes to turns of it.
use Rattle.std.specs.Prelude.{◌≡◌, ℕ, ◌-◌, ◌<◌, ◌^◌, true}
use Rattle.k_script.specs.Script.{Script}
use Rattle.k_context.specs.Contexts.{ContextSeen, IsSound, Thread, Carrier, begun, can_ask}
use Rattle.k_carrier.specs.Asked.{CarrierAsk, LookAt, PutDown, Run, Take}
use Rattle.k_carrier.specs.Conditions as carriers
use Rattle.k_carrier.specs.Seen.{CarrierSeen}
use Rattle.k_board.specs.Boards.{Board, Coming}
use Rattle.k_board.specs.Facts.{AllSay}
use Rattle.k_board.specs.Places.{facts_of}
use Rattle.k_good.specs.Locks.{LocksHold}
use Rattle.k_places.specs.Contexts.{programs_of}
use Rattle.k_turns.specs.Spelled.{IsSpelled, ask_at}

-- a thread's next call has a serial that can be counted
abbrev pub IsCounted : ContextSeen → Type 0
IsCounted (Thread t) = t.serial < 2 ^ 32 - 1
IsCounted (Carrier k) = Unit {0}

-- What is taken for granted of a board, and of this context of this number in a carrier's hand: the facts of its location
-- hold, and locks name contexts by their locations, as of each good board; its thread is made; the context is sound, and its
-- step can be asked for, as a carrier sees to it; its serial can be counted; and what its step writes has a spelling.
pub record IsReady (script : Script) (b : Board) (i : ℕ) (v : ContextSeen) : Type 0 where
  pub facts : AllSay (programs_of script) b i (b.context i) (facts_of (b.context i).at)
  pub locks : LocksHold b.owner b.table b.ready b.context
  pub made : (b.context i).at ≡ Coming → ⊥
  pub sound : IsSound script (begun script v)
  pub asks : can_ask (begun script v) ≡ true
  pub counted : IsCounted v
  pub spelled : IsSpelled script.table (ask_at (begun script v))

-- A carrier that takes a context is sound, and its number is that by which it stands among carriers.
pub record IsTaking (script : Script) (c : ℕ) (k : CarrierSeen) : Type 0 where
  pub sound : carriers.IsSound script k
  pub number : k.number ≡ c

-- what a carrier's move takes for granted, by what it asks for
abbrev pub IsMoveReady : Script → ℕ → Board → CarrierSeen → CarrierAsk → Type 0
IsMoveReady script c b k (Run h) = IsReady script b h.context h.value
IsMoveReady script c b k (PutDown h) = Unit {0}
IsMoveReady script c b k (LookAt n) = Unit {0}
IsMoveReady script c b k (Take n bits) = IsTaking script c k
