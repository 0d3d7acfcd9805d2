-- What contracts see of a carrier: all of it, but that the context in its hand is seen as any context is.
use Rattle.std.specs.Prelude.{ℕ, Bool, false, Option, Some, None, IfSome, List}
use Rattle.k_script.specs.Script.{Script}
use Rattle.k_switch.specs.declared.goal.Goal.{Goal}
use Rattle.k_context.specs.Contexts.{ContextSeen, seen_in}
use Rattle.k_context.specs.Contexts as contexts
use Rattle.k_carrier.specs.declared.moves.Awaits.{Awaits}
use Rattle.k_carrier.specs.declared.moves.Awaits.TheVariants as awaits
use Rattle.k_carrier.specs.declared.moves.Hand.{Hand}
use Rattle.k_carrier.specs.declared.moves.Help.{Help}
use Rattle.k_carrier.specs.declared.carrier.Carrier.{Carrier}
use Rattle.k_carrier.specs.Starts.{no_starts}

-- a context in a carrier's hand, by its number
pub record HandSeen : Type 0 where
  pub context : ℕ
  pub value : ContextSeen

pub record CarrierSeen : Type 0 where
  pub number : ℕ
  pub table : ℕ  -- how many thread numbers there are: the contexts of carriers come after those of threads
  pub goal : Option Goal  -- the thread to which it was switched
  pub counted : Bool  -- it is counted as running a thread
  pub hand : Option HandSeen  -- the context whose steps it makes
  pub help : Option Help  -- the context that it helps, and the lock which that context shall release
  pub switching : Bool  -- it gives the processor to another thread
  pub looked : Option ℕ  -- the word of the context that it is about to take
  pub starts : List Bool  -- the threads that are to be started
  pub slice : Bool  -- its slice of time has ended
  pub resched : Bool  -- a thread of a higher priority than its goal's is ready
  pub putting : Bool  -- it is to put down the context in its hand
  pub awaits : Awaits  -- what the move that was asked for waits for

abbrev pub hand_in : Script → Hand → HandSeen
hand_in script h = record { context = h.context; value = seen_in script h.value }

abbrev pub hands_in : Script → Option Hand → Option HandSeen
hands_in script None = None
hands_in script (Some h) = Some (hand_in script h)

abbrev pub carrier_in : Script → Carrier → CarrierSeen
carrier_in script c = record {
  number = c.number;
  table = c.table;
  goal = c.goal;
  counted = c.counted;
  hand = hands_in script c.hand;
  help = c.help;
  switching = c.switching;
  looked = c.looked;
  starts = c.starts;
  slice = c.slice;
  resched = c.resched;
  putting = c.putting;
  awaits = c.awaits;
}

-- The context in its hand was taken out of it: with that context in its hand again.
abbrev pub holding : Script → Carrier → Hand → CarrierSeen
holding script c h = record (carrier_in script c) { hand = Some (hand_in script h) }

-- a new one: it has no goal and nothing in its hand
abbrev pub new_carrier : ℕ → ℕ → CarrierSeen
new_carrier number table = record {
  number = number;
  table = table;
  goal = None;
  counted = false;
  hand = None;
  help = None;
  switching = false;
  looked = None;
  starts = no_starts;
  slice = false;
  resched = false;
  putting = false;
  awaits = awaits.Nothing;
}

-- the place of the thread in its hand is one of this script
abbrev pub IsPlaced : Script → Carrier → Type 0
IsPlaced script c = IfSome c.hand (λ h. contexts.IsPlaced script h.value)
