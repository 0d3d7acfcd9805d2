-- How a reader counts what is surely script, byte by byte. No public contract cites this.
use Rattle.std.specs.Prelude.{ℕ, ◌+◌, ◌==◌, nat_lt, ◌||◌, Bool, List, [], ◌∷◌, if◌then◌else◌}
use Rattle.k_input.specs.declared.divider.Begun.{Begun}
use Rattle.k_input.specs.declared.divider.Begun.TheVariants as begun
use Rattle.k_input.specs.declared.divider.Divider.{Divider}
use Rattle.k_input.specs.Taken.{most_bytes}
use Rattle.k_input.specs.Division.{most_input}

-- the line that has begun, behind one more byte
abbrev pub begun_by : Begun → ℕ → Begun
begun_by begun.Nothing b = if b == 10 then begun.Nothing else (if b == 45 then begun.Dash else begun.Script)
begun_by begun.Dash b = if b == 10 then begun.Nothing else (if b == 45 then begun.Dashes else begun.Script)
begun_by begun.Dashes b = if b == 10 then begun.History else begun.Script
begun_by begun.Script b = if b == 10 then begun.Nothing else begun.Script
begun_by begun.History b = begun.History

-- how many bytes become script for sure by that byte: the dashes before it, and it itself
abbrev pub script_by : Begun → ℕ → ℕ
script_by begun.Nothing b = if b == 45 then 0 else 1
script_by begun.Dash b = if b == 45 then 0 else 2
script_by begun.Dashes b = if b == 10 then 0 else 3
script_by begun.Script b = 1
script_by begun.History b = 0

abbrev pub fed : Divider → ℕ → Divider
fed d b = record { begun = begun_by d.begun b; script = d.script + script_by d.begun b; len = d.len + 1 }

abbrev pub fed_all : Divider → List ℕ → Divider
fed_all d [] = d
fed_all d (b ∷ bs) = fed_all (fed d b) bs

abbrev pub is_large : Divider → Bool
is_large d = nat_lt most_bytes d.script || nat_lt most_input d.len
