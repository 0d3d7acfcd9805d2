-- The generator of large scripts: a script for each number, the same at each call.
use Rattle.std.specs.Prelude.{ℕ, zero, suc, ◌+◌, ◌*◌, ◌/◌, ◌%◌, false, List, [], ◌∷◌, ◌++◌, map, replicate, codes, None}
use Rattle.std.specs.List.{range_with_len}
use Rattle.k_script.specs.declared.operation.Who.TheVariants as who
use Rattle.k_script.specs.declared.operation.Value.TheVariants as value
use Rattle.k_script.specs.declared.operation.Operation.{Operation}
use Rattle.k_script.specs.declared.operation.Operation.TheVariants as operation
use Rattle.k_script.specs.declared.lines.ThreadLine.{ThreadLine}
use Rattle.k_script.specs.declared.lines.AtWhat.TheVariants as what
use Rattle.k_script.specs.declared.lines.AtLine.{AtLine}
use Rattle.k_script.specs.declared.generator.Client.{Client}
use Rattle.k_script.specs.Script.{Script, Program}

-- DRAWS: a linear congruential generator of 64 bits, of which a draw takes the upper 31

abbrev pub next_state : ℕ → ℕ
next_state state = (state * 6364136223846793005 + 1442695040888963407) % 18446744073709551616

-- the state after so many draws; at first it is the number
unfoldable pub state_after : ℕ → ℕ → ℕ
state_after number zero = number
state_after number (suc draws) = next_state (state_after number draws)

-- the draw before which so many were made, below a bound
abbrev pub drawn : ℕ → ℕ → ℕ → ℕ
drawn number draws bound = (state_after number (draws + 1) / 8589934592) % bound

-- PROGRAMS: a server, and eight clients of one of the four servers

abbrev pub server : Program
server = record {
  name = codes "server";
  operations = operation.Receive None false ∷ operation.Repeat 400 ∷ operation.Reply value.Got0 value.Got1 false ∷ operation.Again ∷ [];
}

-- a client's draws: the thread that it calls, its message, and how much it works between two calls
abbrev pub client_of : ℕ → ℕ → Client
client_of number draws = record {
  server = 8 + drawn number draws 4;
  low = drawn number (draws + 1) 1000;
  high = drawn number (draws + 2) 1000;
  work = 1 + drawn number (draws + 3) 16;
}

-- its name: c and its index
abbrev pub client_name : ℕ → List ℕ
client_name index = 99 ∷ (48 + index) ∷ []

abbrev pub client_operations : Client → List Operation
client_operations c =
    operation.Repeat 100 ∷ operation.Call (who.Number c.server) (value.Number c.low) (value.Number c.high) false ∷ operation.Work c.work ∷ operation.Again ∷ []

abbrev pub client : ℕ → ℕ → Program
client number index = record { name = client_name index; operations = client_operations (client_of number (4 * index)) }

-- THREADS: the clients with drawn priorities, then the servers above them

abbrev pub client_thread : ℕ → ℕ → ThreadLine
client_thread number index = record { priority = 1 + drawn number (32 + index) 8; program = index + 1 }

abbrev pub server_thread : ℕ → ThreadLine
server_thread index = record { priority = 16 + index; program = 0 }

-- THE SCHEDULE: the time slice ends again and again, 1 to 256 steps after the time before

unfoldable pub slice_step : ℕ → ℕ → ℕ
slice_step number zero = 0
slice_step number (suc index) = slice_step number index + (1 + drawn number (40 + index) 256)

abbrev pub slice_line : ℕ → ℕ → AtLine
slice_line number index = record { step = slice_step number (index + 1); what = what.Slice 0 }

-- THE SCRIPT

abbrev pub big_of : ℕ → Script
big_of number = record {
  version = 1;
  table = 16;
  carriers = 1;
  show_steps = false;
  aged = replicate 16 0;
  programs = server ∷ map (client number) (range_with_len 0 8);
  threads = map (client_thread number) (range_with_len 0 8) ++ map server_thread (range_with_len 0 4);
  at_lines = map (slice_line number) (range_with_len 0 200);
  turns = [];
}
