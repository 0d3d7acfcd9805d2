-- The board of the world in which the kernel begins to run a script.
use Rattle.std.specs.Prelude.{ℕ, if◌then◌else◌, None, []}
use Rattle.k_ids.specs.Messages.{message_of_bits}
use Rattle.k_script.specs.Plays.{Position, start_of}
use Rattle.k_script.specs.Script.{Script}
use Rattle.k_switch.specs.Switches.{first_of_number}
use Rattle.k_caller.specs.declared.thread.ThreadLocation.TheVariants as location
use Rattle.k_world.specs.Boot.{boot_numbers, boot_ready, boot_state, has_thread, is_carriers, thread_line}
use Rattle.k_board.specs.Words.{Seen}
use Rattle.k_board.specs.Boards.{Alone, At, Board, Context, Nowhere, Resting}

-- where the program of a number's first thread begins
abbrev pub boot_position : Script → ℕ → Position
boot_position script n = start_of script (thread_line script n).program (first_of_number n)

abbrev pub boot_seen : Script → ℕ → Seen
boot_seen script n = record {
  word = boot_state script n;
  mail = message_of_bits 0;
  last = 0;
  told = None;
  position = boot_position script n;
}

-- A thread is between two calls, a carrier's context rests, and others aren't there.
abbrev pub boot_at : Script → ℕ → ℕ → At
boot_at script carriers n = if has_thread script n then Alone (location.Between None)
    else (if is_carriers script carriers n then Resting else Nowhere)

abbrev pub boot_context_at : Script → ℕ → ℕ → Context
boot_context_at script carriers n = record {
  serial = 0;
  own = boot_state script n;
  position = boot_position script n;
  at = boot_at script carriers n;
}

abbrev pub boot_board : Script → ℕ → Board
boot_board script carriers = record {
  size = script.table;
  seen = boot_seen script;
  queue = λ n. [];
  lists = boot_ready script;
  numbers = boot_numbers script;
  owner = λ n. None;
  table = None;
  ready = None;
  context = boot_context_at script carriers;
}
