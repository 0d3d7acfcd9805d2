-- A position as it is kept: not the operations that are left, but a place in the program's lines and the turns that the open
-- repeats still have to come.
use Rattle.std.specs.Prelude.{◌≡◌, ◌≤◌, ◌==◌, if◌then◌else◌, ℕ, zero, suc, ◌+◌, ◌-◌, Bool, true, false, List, [], ◌∷◌, ◌++◌, length, drop, Option, Some, None}
use Rattle.std.specs.List.{repeat, AllByRecursion}
use Rattle.k_script.specs.declared.operation.Operation.{Operation}
use Rattle.k_script.specs.declared.operation.Operation.TheVariants as operation
use Rattle.k_script.specs.declared.cursor.Turn.{Turn}
use Rattle.k_script.specs.declared.cursor.Cursor.{Cursor}
use Rattle.k_script.specs.declared.registers.Registers.{Registers}
use Rattle.k_script.specs.Script.{Script, operations_of}
use Rattle.k_script.specs.Limits.{depth_behind}
use Rattle.k_script.specs.Flat.{levels, flat}
use Rattle.k_script.specs.Plays.{Position, start_registers, first_id}

-- the repeats that are open, the innermost first
abbrev pub open_turns : Cursor → List Turn
open_turns c = c.first ∷ c.second ∷ c.third ∷ c.fourth ∷ []

-- what is done in all turns of a repeat that are still to come
abbrev pub still_to_come : List Operation → Turn → List Operation
still_to_come ops t = repeat t.left (flat (drop t.body ops))

-- The levels of what is left, with the turns still to come between them.
abbrev pub joined : List Operation → List Turn → List (List Operation) → List Operation
joined ops ts [] = []
joined ops ts (l ∷ []) = l
joined ops [] (l ∷ m ∷ ls) = l
joined ops (t ∷ ts) (l ∷ m ∷ ls) = l ++ (still_to_come ops t ++ joined ops ts (m ∷ ls))

-- the operations that are left, written out
abbrev pub left_at : List Operation → Cursor → List Operation
left_at ops c = joined ops (open_turns c) (levels (drop c.at ops))

-- THE TURNS ARE THOSE OF THIS PROGRAM: from where its body begins a repeat is followed by what follows it here.

abbrev pub rest_levels : List (List Operation) → List (List Operation)
rest_levels [] = []
rest_levels (l ∷ ls) = ls

abbrev pub AreTurns : List Operation → List Turn → List (List Operation) → Type 0
AreTurns ops ts [] = Unit {0}
AreTurns ops ts (l ∷ []) = Unit {0}
AreTurns ops [] (l ∷ m ∷ ls) = ⊥
AreTurns ops (t ∷ ts) (l ∷ m ∷ ls) = (rest_levels (levels (drop t.body ops)) ≡ m ∷ ls) × AreTurns ops ts (m ∷ ls)

abbrev pub IsCursor : List Operation → Cursor → Type 0
IsCursor ops c = AreTurns ops (open_turns c) (levels (drop c.at ops))

-- A PROGRAM WITHIN THE LIMITS has its repeats closed and at most four deep, and each has a turn at least.

abbrev pub HasTurns : Operation → Type 0
HasTurns (operation.Repeat count) = 1 ≤ count
HasTurns op = Unit {0}

pub record IsNested (ops : List Operation) : Type 0 where
  pub nested : depth_behind 0 ops ≡ Some 0
  pub short : length ops ≤ 4096
  pub counts : AllByRecursion HasTurns ops

-- STEPS OF A PLACE: into a repeat, whose first turn begins; out of the innermost one; and back to its body for another turn.

abbrev pub into_repeat : Cursor → ℕ → Cursor
into_repeat c count = record { at = c.at + 1; first = record { body = c.at + 1; left = count - 1 }; second = c.first; third = c.second; fourth = c.third }

abbrev pub out_of_repeat : Cursor → Cursor
out_of_repeat c = record { at = c.at + 1; first = c.second; second = c.third; third = c.fourth; fourth = c.fourth }

abbrev pub to_next_turn : Cursor → Cursor
to_next_turn c = record c { at = c.first.body; first = record { body = c.first.body; left = c.first.left - 1 } }

-- What an again does, where so many of the open repeats, the innermost, were entered since the last operation: such a repeat
-- has nothing in it.
abbrev pub at_again : Cursor → ℕ → Cursor
at_again c (suc n) = out_of_repeat c
at_again c zero = if c.first.left == 0 then out_of_repeat c else to_next_turn c

-- how many were entered since then
abbrev pub entered_then : Cursor → ℕ → ℕ
entered_then c (suc n) = n
entered_then c zero = if c.first.left == 0 then 0 else 1

-- THE POSITION

pub record Place : Type 0 where
  pub registers : Registers
  pub replying : Bool
  pub program : ℕ
  pub cursor : Cursor
  pub ended : Bool

abbrev pub left_in : List Operation → Cursor → Bool → Option (List Operation)
left_in ops c true = None
left_in ops c false = Some (left_at ops c)

abbrev pub position_in : Script → Place → Position
position_in script p = record { registers = p.registers; replying = p.replying; left = left_in (operations_of script p.program) p.cursor p.ended }

-- It is a place of this script.
abbrev pub IsPlace : Script → Place → Type 0
IsPlace script p = IsCursor (operations_of script p.program) p.cursor

abbrev pub no_turn : Turn
no_turn = record { body = 0; left = 0 }

-- any place
abbrev pub no_place : Place
no_place = record { registers = start_registers (first_id 0); replying = false; program = 255; cursor = record { at = 0; first = no_turn; second = no_turn; third = no_turn; fourth = no_turn }; ended = true }
