-- The numerals of a script's lines are numbers of a script.
use Rattle.std.proofs.Common.{◌≡◌, ℕ, ◌≤◌, List, [], ◌∷◌, map, refl, sym, subst, arith, Some, None}
use Rattle.std.specs.List.{AllByRecursion}
use Rattle.k_script.specs.declared.operation.Who.{Who}
use Rattle.k_script.specs.declared.operation.Who.TheVariants as who
use Rattle.k_script.specs.declared.operation.Value.{Value}
use Rattle.k_script.specs.declared.operation.Value.TheVariants as value
use Rattle.k_script.specs.declared.operation.Operation.{Operation}
use Rattle.k_script.specs.declared.operation.Operation.TheVariants as operation
use Rattle.k_script.specs.declared.lines.Item.{Item}
use Rattle.k_script.specs.declared.lines.Item.TheVariants as item
use Rattle.k_script.specs.Script.{Program}
use Rattle.k_script.specs.Limits.{IsWho, IsValue, IsOperation, IsItem}
use Rattle.k_lines.specs.declared.numeral.Numeral.{Numeral}
use Rattle.k_lines.specs.Numbers.{exactly, IsNumber}
use Rattle.k_lines.specs.Lines.{IsProperWho, IsProperValue, IsProperOperation, IsProperItem}
use Rattle.k_reader.specs.Grammar.{who_line, value_line, operation_line, item_line}

pub number_proper : (v : ℕ) → v ≤ 4294967295 → IsNumber (exactly v)
number_proper v h = record { plain = refl; small = h }

pub proper_by : (n : Numeral) (v : ℕ) → n ≡ exactly v → v ≤ 4294967295 → IsNumber n
proper_by n v e h = subst IsNumber (sym e) (number_proper v h)

who-proper : (table : ℕ) (t : Who) → table ≤ 64 → IsWho table t → IsProperWho (who_line t)
who-proper table (who.Number n) small h = number_proper n (omega (arith, small, h))
who-proper table who.Last small h = tt
who-proper table who.Made small h = tt

value-proper : (v : Value) → IsValue v → IsProperValue (value_line v)
value-proper (value.Number n) h = number_proper n h
value-proper value.Got0 h = tt
value-proper value.Got1 h = tt

pub operation-proper : (table before : ℕ) (ps : List Program) (r : Operation) → table ≤ 64 → IsOperation table before r → IsProperOperation (operation_line ps r)
operation-proper table before ps (operation.Send to low high zero) small h = (who-proper table to small h.0, value-proper low h.1, value-proper high h.2)
operation-proper table before ps (operation.Receive (Some from) zero) small h = who-proper table from small h
operation-proper table before ps (operation.Receive None zero) small h = tt
operation-proper table before ps (operation.Call to low high zero) small h = (who-proper table to small h.0, value-proper low h.1, value-proper high h.2)
operation-proper table before ps (operation.Reply low high zero) small h = (value-proper low h.0, value-proper high h.1)
operation-proper table before ps (operation.Create program priority) small h = number_proper priority (omega (arith, h.1))
operation-proper table before ps (operation.Destroy victim) small h = who-proper table victim small h
operation-proper table before ps (operation.Work count) small h = number_proper count h.1
operation-proper table before ps (operation.Repeat count) small h = number_proper count (omega (arith, h.1))
operation-proper table before ps operation.Again small h = tt

pub item-proper : (carriers : ℕ) (i : Item) → carriers ≤ 8 → IsItem carriers i → IsProperItem (item_line i)
item-proper carriers (item.Steps carrier count) small h = (number_proper carrier (omega (arith, small, h.0)), number_proper count (omega (arith, h.2)))
item-proper carriers (item.Park carrier) small h = number_proper carrier (omega (arith, small, h))

pub items-proper : (carriers : ℕ) (is : List Item) → carriers ≤ 8 → AllByRecursion (IsItem carriers) is → AllByRecursion IsProperItem (map item_line is)
items-proper carriers [] small h = tt
items-proper carriers (i ∷ is) small h = (item-proper carriers i small h.0, items-proper carriers is small h.1)
