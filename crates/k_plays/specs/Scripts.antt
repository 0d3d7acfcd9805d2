-- The programs of a script, as boards have them.
use Rattle.std.specs.Prelude.{◌≡◌, ℕ, nat_le, nat_lt, Bool, true, ◌&&◌, if◌then◌else◌, Option, Some, None}
use Rattle.k_ids.specs.declared.threads.ThreadId.{ThreadId}
use Rattle.k_ids.specs.declared.calls.Phase.{Phase}
use Rattle.k_ids.specs.declared.calls.Phase.TheVariants as phase
use Rattle.k_ids.specs.declared.calls.Reply.{Reply}
use Rattle.k_board.specs.Words.{Programs}
use Rattle.k_plays.specs.Messages.{IsFilled, ToldWords, sends_words}
use Rattle.k_script.specs.declared.registers.Next.{Next}
use Rattle.k_script.specs.declared.registers.Next.TheVariants as next
use Rattle.k_script.specs.Plays.{IsWithin, Position, TellsInRange, next_of, start_of, went_on}
use Rattle.k_script.specs.Script.{Script}

abbrev pub programs_of : Script → Programs
programs_of script = record {
  start = λ id program. start_of script program id;
  next = next_of script.version;
  moved = went_on;
}

-- A position of a program, and the reply that it goes on with, as the script has them: their ids are of the table, and their
-- messages are two words of 32 bits.
pub record IsInBounds (script : Script) (p : Position) (r : Option Reply) : Type 0 where
  pub within : IsWithin script p
  pub filled : IsFilled p
  pub told : TellsInRange script.table r
  pub words : ToldWords r

-- THE SAME WITHIN THE SCRIPT: no position that a program reaches, and no reply that it is given, tells these programs from the
-- script's own.
pub record AreOf (script : Script) (g : Programs) : Type 0 where
  pub starts : (id : ThreadId) (program : ℕ) → g.start id program ≡ start_of script program id
  pub gives : (p : Position) (r : Option Reply) → IsInBounds script p r → g.next p r ≡ next_of script.version p r
  pub leads : (p : Position) (r : Option Reply) → g.moved p r ≡ went_on p r

-- PROGRAMS WHOSE CALLS ALL NAME THREADS OF THE TABLE, and send two words of 32 bits, at any position: where the script's
-- wouldn't, they end.

abbrev pub is_in_table : ℕ → ThreadId → Bool
is_in_table table id = nat_lt id.number table && (nat_le 1 id.version && nat_le id.version 1048575)

abbrev pub is_from_table : ℕ → Option ThreadId → Bool
is_from_table table None = true
is_from_table table (Some from) = is_in_table table from

-- whether a call names threads of the table, and a create one of the 64 priorities
abbrev pub names_table : ℕ → Phase → Bool
names_table table (phase.Send to message zero joined) = is_in_table table to
names_table table (phase.Receive from zero) = is_from_table table from
names_table table (phase.Create program priority) = nat_le priority 63
names_table table (phase.Destroy victim) = is_in_table table victim
names_table table (phase.Reply to message zero) = is_in_table table to
names_table table phase.End = true

-- a call that doesn't, or that sends no two words of 32 bits, becomes the end
abbrev pub within_table : ℕ → Next → Next
within_table table (next.Phase f) =
    if names_table table f && sends_words f then next.Phase f else next.Phase phase.End
within_table table (next.Work count) = next.Work count

abbrev pub ranged_programs : Script → Programs
ranged_programs script = record {
  start = λ id program. start_of script program id;
  next = λ p r. within_table script.table (next_of script.version p r);
  moved = went_on;
}
