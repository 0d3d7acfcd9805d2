-- The board and the carriers that a raw world shows, as functions of that world: words and locations decoded, and what a lock
-- guards wherever it is.
use Rattle.std.specs.Prelude.{ℕ, ◌+◌, false, Option, Some, None, length}
use Rattle.k_ids.specs.declared.context_word.ContextWord.{ContextWord}
use Rattle.k_ids.specs.declared.context_word.ContextWord.TheVariants.{Empty, Clean, Holds, Taken}
use Rattle.k_ids.specs.declared.state_word.StateWord.{StateWord}
use Rattle.k_ids.specs.ContextWords.{context_word_of}
use Rattle.k_ids.specs.LockWords.{lock_word_of}
use Rattle.k_ids.specs.Messages.{message_of_bits}
use Rattle.k_ids.specs.StateWords.{state_word_of}
use Rattle.k_ready.specs.Lists.{list_of}
use Rattle.k_locks.specs.declared.locks.Lock.{Lock}
use Rattle.k_locks.specs.declared.locks.Lock.TheVariants as lock
use Rattle.k_locks.specs.Hands.{Hand, nothing, with_goods}
use Rattle.k_locks.specs.Places.{lock_number}
use Rattle.k_script.specs.Script.{Script}
use Rattle.k_context.specs.Contexts.{ContextSeen, Thread, Carrier as OfSwitches}
use Rattle.k_carrier.specs.Starts.{is_due}
use Rattle.k_world.specs.Worlds.{Slot, Guarded, Resting as Lying, Away, World, carrier_at}
use Rattle.k_board.specs.Words.{Seen}
use Rattle.k_board.specs.Boards.{At, Board, Context, InSwitch, Nowhere}
use Rattle.k_places.specs.Boots.{boot_position}
use Rattle.k_places.specs.Contexts.{hand_by, switch_at, thread_shown}
use Rattle.k_places.specs.Memory.{memory_of}
use Rattle.k_places.specs.Shows.{owner_in}
use Rattle.k_tokens.specs.World.{NoSwitch, OwnContext}
use Rattle.k_tokens.specs.World as tokens
use Rattle.k_grants.specs.Views.{name_by, threads_of}
use Rattle.k_stages.specs.Stages.{id_in}
use Rattle.k_moves.specs.Views.{carrier_view, stage_of}
use Rattle.k_aligned.specs.Aligned.{found_in}

-- WORDS

-- the state word of a number
abbrev pub state_in : World → ℕ → StateWord
state_in w n = state_word_of ((memory_of w).state n)

-- Of a ledger's reply and position no word tells: they are as before the first call.
abbrev pub seen_in : Script → World → ℕ → Seen
seen_in script w n = record {
  word = state_in w n;
  mail = message_of_bits ((memory_of w).mail n);
  last = (memory_of w).serial n;
  told = None;
  position = boot_position script n;
}

-- CONTEXTS

-- what a context of this number is on the board, given the state word of the number
abbrev pub context_by : Script → ℕ → StateWord → Option ContextSeen → Context
context_by script n word (Some (Thread t)) = thread_shown word t
context_by script n word (Some (OfSwitches k)) = record {
  serial = 0;
  own = word;
  position = boot_position script n;
  at = switch_at k.switch;
}
context_by script n word None = record { serial = 0; own = word; position = boot_position script n; at = Nowhere }

abbrev pub context_on : Script → World → ℕ → Context
context_on script w n = context_by script n (state_in w n) (found_in w n)

-- WHAT LOCKS GUARD: at home while the lock is free, and else in the hand of the context that owns it

abbrev pub owner_on : World → Lock → Option ℕ
owner_on w l = owner_in (lock_word_of ((memory_of w).lock (lock_number l)))

abbrev pub at_home : Slot → Hand
at_home (Guarded g) = with_goods g nothing
at_home (Lying v) = nothing
at_home Away = nothing

abbrev pub in_hand : Option ContextSeen → Hand
in_hand None = nothing
in_hand (Some v) = hand_by v

abbrev pub guarded_by : World → Lock → Option ℕ → Hand
guarded_by w l None = at_home ((memory_of w).home (lock_number l))
guarded_by w l (Some i) = in_hand (found_in w i)

abbrev pub guarded : World → Lock → Hand
guarded w l = guarded_by w l (owner_on w l)

-- THE BOARD

abbrev pub board_in : Script → World → Board
board_in script w = record {
  size = script.table;
  seen = seen_in script w;
  queue = λ n. (guarded w (lock.Thread n)).queue.entries;
  lists = (guarded w lock.Ready).lists;
  numbers = (guarded w lock.Table).numbers;
  owner = λ n. owner_on w (lock.Thread n);
  table = owner_on w lock.Table;
  ready = owner_on w lock.Ready;
  context = context_on script w;
}

-- THE CARRIERS

-- A carrier's own context, by where it stands, with what its switch was given. What a load told it of priorities is left out.
abbrev pub own_by : At → OwnContext
own_by (InSwitch c p) = record {
  stage = stage_of p;
  goal = id_in c.goal;
  counted = c.counted;
  slice_ended = c.slice_ended;
  start = c.start;
  goal_seen = None;
  start_seen = None;
  idle = false;
}
own_by p = record {
  stage = NoSwitch;
  goal = None;
  counted = false;
  slice_ended = false;
  start = None;
  goal_seen = None;
  start_seen = None;
  idle = false;
}

-- in which carrier's hand a context is, as its word tells
abbrev pub taken_by : ContextWord → Option ℕ
taken_by (Taken c version) = Some c
taken_by Empty = None
taken_by (Clean version) = None
taken_by (Holds version) = None

abbrev pub hand_on : World → ℕ → Option ℕ
hand_on w n = taken_by (context_word_of ((memory_of w).context n))

abbrev pub view_in : Script → World → tokens.World
view_in script w = record {
  threads = threads_of (λ t. (state_in w t).priority) (board_in script w);
  lists = list_of (guarded w lock.Ready).lists.lists;
  running = (guarded w lock.Ready).lists.running;
  ready_owner = name_by script.table (owner_on w lock.Ready);
  own = λ d. own_by (context_on script w (script.table + d)).at;
  carrier = λ c. carrier_view (carrier_at w c);
  held = hand_on w;
  held_own = λ d. hand_on w (script.table + d);
  unmade = is_due w.unstarted;
  carriers = length w.carriers;
}
