-- The line of an operation within the limits is read as that operation.
use Rattle.std.proofs.Common.{◌≡◌, ℕ, ◌<◌, Bool, true, false, leb, ltb, eqb, List, [], ◌∷◌, ◌++◌, map, length, refl, sym, ap, ◌∙◌, arith, Some, None, Result, Ok}
use Rattle.std.specs.List.{list_all, AllByRecursion, IsDistinct}
use Rattle.std.specs.Str.{bytes_eq}
use Rattle.std.proofs.lemmas.Bool.{lt-ltb, ltb-true, lt-leb, ne_eqb}
use Rattle.std.proofs.lemmas.List.{get_or_append_left}
use Rattle.k_script.specs.declared.operation.Who.{Who}
use Rattle.k_script.specs.declared.operation.Who.TheVariants as who
use Rattle.k_script.specs.declared.operation.Value.{Value}
use Rattle.k_script.specs.declared.operation.Value.TheVariants as value
use Rattle.k_script.specs.declared.operation.Operation.{Operation}
use Rattle.k_script.specs.declared.operation.Operation.TheVariants as operation
use Rattle.k_script.specs.declared.lines.Item.{Item}
use Rattle.k_script.specs.declared.lines.Item.TheVariants as item
use Rattle.k_script.specs.Script.{Program, program_in, nothing}
use Rattle.k_script.specs.Limits.{IsWho, IsValue, IsOperation, IsItem, depth_after}
use Rattle.k_lines.proofs.Digits.{in_range-spelled}
use Rattle.k_reader.specs.declared.fault.Why.{Why}
use Rattle.k_reader.specs.Draft.{program_at}
use Rattle.k_reader.specs.Reading.{on_ok, is_led, who_in, value_in, thread_in, message_in, operation_in, misnests, has_numbers, item_in, items_in}
use Rattle.k_reader.specs.Grammar.{who_line, value_line, operation_line, item_line}
use Rattle.k_reader.proofs.Named.{named_at}

who-unled : (t : Who) → is_led (who_line t) ≡ false
who-unled (who.Number n) = refl
who-unled who.Last = refl
who-unled who.Made = refl

who-given : (table : ℕ) (t : Who) → IsWho table t → who_in table (who_line t) ≡ Some t
who-given table (who.Number n) h = rw (lt-ltb n table h) refl
who-given table who.Last h = refl
who-given table who.Made h = refl

value-given : (v : Value) → IsValue v → value_in (value_line v) ≡ Some v
value-given (value.Number n) h = rw (in_range-spelled 0 4294967295 n (omega arith) h) refl
value-given value.Got0 h = refl
value-given value.Got1 h = refl

thread-given : (table : ℕ) (t : Who) → IsWho table t → thread_in table (who_line t) ≡ Ok t
unfolding thread_in
thread-given table t h = rw (who-unled t) (rw (who-given table t h) refl)

message-given : (table : ℕ) (to : Who) (low high : Value) → IsWho table to → IsValue low → IsValue high → message_in table (who_line to) (value_line low) (value_line high) ≡ Ok (to, low, high)
unfolding message_in
message-given table to low high a b c = rw (who-unled to) (rw (value-given low b) (rw (value-given high c) (rw (who-given table to a) refl)))

-- a program of those before, found by its name
found_before : (ps qs : List Program) (k : ℕ) → k < length ps → IsDistinct bytes_eq (map (λ p. p.name) ps) → program_at (program_in (ps ++ qs) k).name ps ≡ Some k
found_before ps qs k h d = ap (λ (p : Program). program_at p.name ps) (get_or_append_left ps qs nothing k h) ∙ named_at ps k h d

pub operation-given : (table : ℕ) (ps qs : List Program) (r : Operation) → IsDistinct bytes_eq (map (λ p. p.name) ps) → IsOperation table (length ps) r → operation_in table ps (operation_line (ps ++ qs) r) ≡ Ok r
unfolding operation_in
operation-given table ps qs (operation.Send to low high zero) d h = ap (λ (x : Result (Who × Value × Value) Why). on_ok x (λ m. Ok (operation.Send m.0 m.1 m.2 zero))) (message-given table to low high h.0 h.1 h.2)
operation-given table ps qs (operation.Receive (Some from) zero) d h = ap (λ (x : Result Who Why). on_ok x (λ t. Ok (operation.Receive (Some t) zero))) (thread-given table from h)
operation-given table ps qs (operation.Receive None zero) d h = refl
operation-given table ps qs (operation.Call to low high zero) d h = ap (λ (x : Result (Who × Value × Value) Why). on_ok x (λ m. Ok (operation.Call m.0 m.1 m.2 zero))) (message-given table to low high h.0 h.1 h.2)
operation-given table ps qs (operation.Reply low high zero) d h = rw (value-given low h.0) (rw (value-given high h.1) refl)
operation-given table ps qs (operation.Create program priority) d h = rw (in_range-spelled 0 63 priority (omega arith) h.1) (rw (found_before ps qs program h.0 d) refl)
operation-given table ps qs (operation.Destroy victim) d h = ap (λ (x : Result Who Why). on_ok x (λ t. Ok (operation.Destroy t))) (thread-given table victim h)
operation-given table ps qs (operation.Work count) d h = rw (in_range-spelled 1 4294967295 count h.0 h.1) refl
operation-given table ps qs (operation.Repeat count) d h = rw (in_range-spelled 1 65535 count h.0 h.1) refl
operation-given table ps qs operation.Again d h = refl

-- it stands where it may
pub nests-well : (ps : List Program) (d e : ℕ) (r : Operation) → depth_after d r ≡ Some e → misnests (Some d) (operation_line ps r) ≡ false
nests-well ps d e (operation.Send to low high zero) h = refl
nests-well ps d e (operation.Receive (Some from) zero) h = refl
nests-well ps d e (operation.Receive None zero) h = refl
nests-well ps d e (operation.Call to low high zero) h = refl
nests-well ps d e (operation.Reply low high zero) h = refl
nests-well ps d e (operation.Create program priority) h = refl
nests-well ps d e (operation.Destroy victim) h = refl
nests-well ps d e (operation.Work count) h = refl
nests-well ps d e (operation.Repeat count) h = go (ltb d 4) refl
  where
    go : (b : Bool) → ltb d 4 ≡ b → leb 4 d ≡ false
    go true q = lt-leb 4 d (ltb-true d 4 q)
    go false q = let no : None ≡ Some e = sym (rw q refl) ∙ h in absurd cc
nests-well ps d e operation.Again h = go (ltb 0 d) refl
  where
    go : (b : Bool) → ltb 0 d ≡ b → eqb d 0 ≡ false
    go true q = let some = ltb-true 0 d q in ne_eqb d 0 (λ z. omega (arith, some, z))
    go false q = let no : None ≡ Some e = sym (rw q refl) ∙ h in absurd cc

-- ITEMS

item-given : (carriers : ℕ) (i : Item) → IsItem carriers i → item_in carriers (item_line i) ≡ Some i
item-given carriers (item.Steps carrier count) h = rw (in_range-spelled 1 1000000 count h.1 h.2) (rw (lt-ltb carrier carriers h.0) refl)
item-given carriers (item.Park carrier) h = rw (lt-ltb carrier carriers h) refl

item-numbers : (carriers : ℕ) (i : Item) → IsItem carriers i → has_numbers (item_line i) ≡ true
item-numbers carriers (item.Steps carrier count) h = rw (in_range-spelled 1 1000000 count h.1 h.2) refl
item-numbers carriers (item.Park carrier) h = refl

pub items-given : (carriers : ℕ) (is : List Item) → AllByRecursion (IsItem carriers) is → items_in carriers (map item_line is) ≡ Some is
items-given carriers [] h = refl
items-given carriers (i ∷ is) h = rw (item-given carriers i h.0) (rw (items-given carriers is h.1) refl)

pub items-numbers : (carriers : ℕ) (is : List Item) → AllByRecursion (IsItem carriers) is → list_all has_numbers (map item_line is) ≡ true
items-numbers carriers [] h = refl
items-numbers carriers (i ∷ is) h = rw (item-numbers carriers i h.0) (items-numbers carriers is h.1)
