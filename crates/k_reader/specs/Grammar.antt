-- The grammar: which bytes are a text of a script.
use Rattle.std.specs.Prelude.{ℕ, ◌≡◌, ◌≤◌, ◌<◌, ◌==◌, Bool, true, false, List, [], ◌∷◌, ◌++◌, map, length, codes, replicate, slice_set, Some, None}
use Rattle.std.specs.List.{flat_map, list_all, AllByRecursion, IsDistinct}
use Rattle.k_script.specs.declared.operation.Who.{Who}
use Rattle.k_script.specs.declared.operation.Who.TheVariants as who
use Rattle.k_script.specs.declared.operation.Value.{Value}
use Rattle.k_script.specs.declared.operation.Value.TheVariants as value
use Rattle.k_script.specs.declared.operation.Operation.{Operation}
use Rattle.k_script.specs.declared.operation.Operation.TheVariants as operation
use Rattle.k_script.specs.declared.lines.ThreadLine.{ThreadLine}
use Rattle.k_script.specs.declared.lines.AtWhat.{AtWhat}
use Rattle.k_script.specs.declared.lines.AtWhat.TheVariants as what
use Rattle.k_script.specs.declared.lines.AtLine.{AtLine}
use Rattle.k_script.specs.declared.lines.Item.{Item}
use Rattle.k_script.specs.declared.lines.Item.TheVariants as item
use Rattle.k_script.specs.Script.{Program, Script, program_in}
use Rattle.k_script.specs.Limits.{IsScript}
use Rattle.k_lines.specs.declared.line.WhoWord.{WhoWord}
use Rattle.k_lines.specs.declared.line.WhoWord.TheVariants as who_word
use Rattle.k_lines.specs.declared.line.ValueWord.{ValueWord}
use Rattle.k_lines.specs.declared.line.ValueWord.TheVariants as value_word
use Rattle.k_lines.specs.declared.line.ItemWord.{ItemWord}
use Rattle.k_lines.specs.declared.line.ItemWord.TheVariants as item_word
use Rattle.k_lines.specs.declared.line.OperationLine.{OperationLine}
use Rattle.k_lines.specs.declared.line.OperationLine.TheVariants as op
use Rattle.k_lines.specs.declared.line.Line.{Line}
use Rattle.k_lines.specs.declared.line.Line.TheVariants as line
use Rattle.k_lines.specs.Words.{lines_of, words_of, is_plain}
use Rattle.k_lines.specs.Numbers.{exactly}
use Rattle.k_lines.specs.Lines.{Word, spelled, spelled_item}

-- OPERATIONS, as their lines write them. A create names its program.

abbrev pub who_line : Who → WhoWord
who_line (who.Number n) = who_word.Number (exactly n)
who_line who.Last = who_word.Last
who_line who.Made = who_word.Made

abbrev pub value_line : Value → ValueWord
value_line (value.Number n) = value_word.Number (exactly n)
value_line value.Got0 = value_word.Got0
value_line value.Got1 = value_word.Got1

abbrev pub operation_line : List Program → Operation → OperationLine
operation_line programs (operation.Send to low high zero) = op.Send (who_line to) (value_line low) (value_line high) zero
operation_line programs (operation.Receive (Some from) zero) = op.Receive (who_line from) zero
operation_line programs (operation.Receive None zero) = op.Wait zero
operation_line programs (operation.Call to low high zero) = op.Call (who_line to) (value_line low) (value_line high) zero
operation_line programs (operation.Reply low high zero) = op.Reply (value_line low) (value_line high) zero
operation_line programs (operation.Create program priority) = op.Create (program_in programs program).name (exactly priority)
operation_line programs (operation.Destroy victim) = op.Destroy (who_line victim)
operation_line programs (operation.Work count) = op.Work (exactly count)
operation_line programs (operation.Repeat count) = op.Repeat (exactly count)
operation_line programs operation.Again = op.Again

-- THE LINES OF A SCRIPT, in the order in which they stand

abbrev pub carriers_lines : Bool → ℕ → List Line
carriers_lines true carriers = line.Carriers (exactly carriers) ∷ []
carriers_lines false carriers = []

abbrev pub show_lines : Bool → List Line
show_lines true = line.ShowSteps ∷ []
show_lines false = []

-- what an `aged` line says
pub record Age : Type 0 where
  pub number : ℕ
  pub version : ℕ

abbrev pub aged_line : Age → Line
aged_line a = line.Aged (exactly a.number) (exactly a.version)

abbrev pub operation_lines : List Program → List Operation → List Line
operation_lines programs ops = map (λ o. line.Operation (operation_line programs o)) ops

abbrev pub program_lines : List Program → Program → List Line
program_lines programs p = line.Program p.name ∷ operation_lines programs p.operations ++ line.End ∷ []

abbrev pub thread_line : List Program → ThreadLine → Line
thread_line programs t = line.Thread (exactly t.priority) (program_in programs t.program).name

abbrev pub event_line : ℕ → AtWhat → Line
event_line step (what.Start number) = line.Start (exactly step) (exactly number)
event_line step (what.Slice carrier) = line.Slice (exactly step) (exactly carrier)

abbrev pub at_line : AtLine → Line
at_line a = event_line a.step a.what

abbrev pub item_line : Item → ItemWord
item_line (item.Steps carrier count) = item_word.Steps (exactly carrier) (exactly count)
item_line (item.Park carrier) = item_word.Park (exactly carrier)

abbrev pub turns_line : List Item → List Word
turns_line items = codes "turns" ∷ map (λ i. spelled_item (item_line i)) items

-- WHAT A SCRIPT FORGETS of its text: whether `carriers 1` was written, the order of the `aged` lines, and how the turns are
-- split into lines

pub record Layout : Type 0 where
  pub carriers : Bool  -- there is a `carriers` line
  pub ages : List Age
  pub turns : List (List Item)

abbrev pub layout_lines : Script → Layout → List Line
layout_lines s l =
    line.Kernel (exactly s.version) ∷ line.Table (exactly s.table) ∷ carriers_lines l.carriers s.carriers ++ show_lines s.show_steps
    ++ map aged_line l.ages ++ flat_map (program_lines s.programs) s.programs ++ map (thread_line s.programs) s.threads ++ map at_line s.at_lines

-- the words of the lines
abbrev pub layout_words : Script → Layout → List (List Word)
layout_words s l = map spelled (layout_lines s l) ++ map turns_line l.turns

-- the versions after these `aged` lines
abbrev pub aged_by : List Age → List ℕ → List ℕ
aged_by [] versions = versions
aged_by (a ∷ more) versions = aged_by more (slice_set versions a.number a.version)

pub record IsAge (table : ℕ) (a : Age) : Type 0 where
  pub number : a.number < table
  pub version : (1 ≤ a.version) × (a.version ≤ 1048575)

abbrev pub numbers_of : List Age → List ℕ
numbers_of ages = map (λ a. a.number) ages

pub record IsLayout (s : Script) (l : Layout) : Type 0 where
  pub carriers : l.carriers ≡ false → s.carriers ≡ 1
  pub apart : IsDistinct (λ a b. a == b) (numbers_of l.ages)  -- one line for a number
  pub ages : AllByRecursion (IsAge s.table) l.ages
  pub aged : s.aged ≡ aged_by l.ages (replicate s.table 0)
  pub turns : flat_map (λ items. items) l.turns ≡ s.turns
  pub some : AllByRecursion (λ (items : List Item). 1 ≤ length items) l.turns

-- THE TEXTS OF A SCRIPT: lines without words may stand anywhere, and no byte outside comments is bad.

abbrev pub with_words : List (List Word) → List (List Word)
with_words [] = []
with_words ([] ∷ ls) = with_words ls
with_words ((w ∷ ws) ∷ ls) = (w ∷ ws) ∷ with_words ls

-- the words of the lines that have some
abbrev pub content : List (List ℕ) → List (List Word)
content lines = with_words (map words_of lines)

pub record Spells (bytes : List ℕ) (script : Script) : Type 0 where
  pub layout : Layout
  pub fits : IsLayout script layout
  pub said : content (lines_of bytes) ≡ layout_words script layout
  pub plain : list_all is_plain (lines_of bytes) ≡ true

-- The bytes are a text of the script, which is within the limits.
pub record IsText (bytes : List ℕ) (script : Script) : Type 0 where
  pub within : IsScript script
  pub spells : Spells bytes script
