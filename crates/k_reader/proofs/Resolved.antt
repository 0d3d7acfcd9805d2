-- An operation that is read is within its limits, and its line is the one that was read.
use Rattle.std.proofs.Common.{◌≡◌, ℕ, ◌<◌, ◌≤◌, Bool, true, false, not, ltb, List, [], ◌∷◌, map, length, get_or, refl, sym, ap, ◌∙◌, arith, Option, Some, None, Result, Ok, inl, inr, option_map, option_and_then, is_some}
use Rattle.std.specs.List.{list_all, AllByRecursion}
use Rattle.std.specs.Str.{bytes_eq}
use Rattle.std.proofs.lemmas.Bool.{cases_Bool, and_parts, ltb-true, not-true}
use Rattle.std.proofs.lemmas.List.Quantifiers.{position-Some}
use Rattle.std.proofs.lemmas.Slice.Eq.{bytes_eq-Decides}
use Rattle.std.proofs.lemmas.Option.{same_Some}
use Rattle.k_script.specs.declared.operation.Who.{Who}
use Rattle.k_script.specs.declared.operation.Who.TheVariants as who
use Rattle.k_script.specs.declared.operation.Value.{Value}
use Rattle.k_script.specs.declared.operation.Value.TheVariants as value
use Rattle.k_script.specs.declared.operation.Operation.{Operation}
use Rattle.k_script.specs.declared.operation.Operation.TheVariants as operation
use Rattle.k_script.specs.declared.lines.Item.{Item}
use Rattle.k_script.specs.declared.lines.Item.TheVariants as item
use Rattle.k_script.specs.Script.{Program, program_in, nothing}
use Rattle.k_script.specs.Limits.{IsWho, IsValue, IsOperation, IsItem}
use Rattle.k_lines.specs.declared.numeral.Numeral.{Numeral}
use Rattle.k_lines.specs.declared.line.WhoWord.{WhoWord}
use Rattle.k_lines.specs.declared.line.WhoWord.TheVariants as who_word
use Rattle.k_lines.specs.declared.line.ValueWord.{ValueWord}
use Rattle.k_lines.specs.declared.line.ValueWord.TheVariants as value_word
use Rattle.k_lines.specs.declared.line.ItemWord.{ItemWord}
use Rattle.k_lines.specs.declared.line.ItemWord.TheVariants as item_word
use Rattle.k_lines.specs.declared.line.OperationLine.{OperationLine}
use Rattle.k_lines.specs.declared.line.OperationLine.TheVariants as op
use Rattle.k_lines.specs.Numbers.{in_range, exactly}
use Rattle.k_lines.specs.Lines.{Word}
use Rattle.k_lines.proofs.Digits.{in_range-read}
use Rattle.k_reader.specs.declared.fault.Why.{Why}
use Rattle.k_reader.specs.declared.fault.Why.TheVariants as why
use Rattle.k_reader.specs.Draft.{program_at}
use Rattle.k_reader.specs.Reading.{given, below, is_led, who_in, value_in, thread_in, message_in, operation_in, count_of, has_numbers, item_in, items_in}
use Rattle.k_reader.specs.Grammar.{who_line, value_line, operation_line, item_line}
use Rattle.k_reader.proofs.Chains.{ok_bad_if, ok_given, ok_on_ok}

pub ok_same : {A : Type 0} (x y : A) → ◌≡◌ {A = Result A Why} (Ok x) (Ok y) → x ≡ y
ok_same x y h = cc

-- A numeral without a leading zero is that of its value.
pub exact_of : (n : Numeral) (v : ℕ) → n.led ≡ false → n.value ≡ v → n ≡ exactly v
exact_of n v a b = ap (λ (l : Bool). let m : Numeral = record { led = l; value = n.value } in m) a ∙ ap exactly b

-- a number in its range
pub ranged : (least most : ℕ) (n : Numeral) (v : ℕ) → most ≤ 4294967295 → in_range least most n ≡ Some v → (n ≡ exactly v) × (least ≤ v) × (v ≤ most)
ranged least most n v small h = let r = in_range-read least most v n small h in (exact_of n v r.0.plain r.1, r.2, r.3)

-- a number below the table's size
pub lower : (size : ℕ) (n : Numeral) (v : ℕ) → n.led ≡ false → below size n ≡ Some v → (n ≡ exactly v) × (v < size)
lower size n v plain h = elim (cases_Bool (ltb n.value size)) [
  | inr f ↦ let no : None ≡ Some v = sym (rw f refl) ∙ h in absurd cc
  | inl t ↦
      let got : Some n.value ≡ Some v = sym (rw t refl) ∙ h in
      let same = same_Some n.value v got in
      let less = ltb-true n.value size t in
      (exact_of n v plain same, omega (arith, less, same))
]

who-resolved : (table : ℕ) (w : WhoWord) (t : Who) → is_led w ≡ false → who_in table w ≡ Some t → IsWho table t × (w ≡ who_line t)
who-resolved table (who_word.Number n) t l h = go (below table n) t refl h
  where
    go : (o : Option ℕ) (u : Who) → below table n ≡ o → option_map who.Number o ≡ Some u → IsWho table u × (who_word.Number n ≡ who_line u)
    go None u e g = absurd cc
    go (Some v) u e g =
        let same : who.Number v ≡ u = cc in
        let r = lower table n v l e in
        rw (← same) (r.1, ap (λ (x : Numeral). who_word.Number x) r.0)
who-resolved table who_word.Last t l h = let same : who.Last ≡ t = cc in rw (← same) (tt, refl)
who-resolved table who_word.Made t l h = let same : who.Made ≡ t = cc in rw (← same) (tt, refl)

value-resolved : (w : ValueWord) (v : Value) → value_in w ≡ Some v → IsValue v × (w ≡ value_line v)
value-resolved (value_word.Number n) v h = go (in_range 0 4294967295 n) v refl h
  where
    go : (o : Option ℕ) (u : Value) → in_range 0 4294967295 n ≡ o → option_map value.Number o ≡ Some u → IsValue u × (value_word.Number n ≡ value_line u)
    go None u e g = absurd cc
    go (Some k) u e g =
        let same : value.Number k ≡ u = cc in
        let r = ranged 0 4294967295 n k (omega arith) e in
        rw (← same) (r.2, ap (λ (x : Numeral). value_word.Number x) r.0)
value-resolved value_word.Got0 v h = let same : value.Got0 ≡ v = cc in rw (← same) (tt, refl)
value-resolved value_word.Got1 v h = let same : value.Got1 ≡ v = cc in rw (← same) (tt, refl)

thread-resolved : (table : ℕ) (w : WhoWord) (t : Who) → thread_in table w ≡ Ok t → IsWho table t × (w ≡ who_line t)
unfolding thread_in
thread-resolved table w t h =
    let b = ok_bad_if (is_led w) why.Number (given (who_in table w) why.Table (λ t. Ok t)) t h in
    let g = ok_given (who_in table w) why.Table (λ t. Ok t) t b.1 in
    who-resolved table w t b.0 (g.1 ∙ ap (λ (x : Who). Some x) (ok_same g.0 t g.2))

message-resolved : (table : ℕ) (to : WhoWord) (low high : ValueWord) (m : Who × Value × Value) → message_in table to low high ≡ Ok m → IsWho table m.0 × IsValue m.1 × IsValue m.2 × (to ≡ who_line m.0) × (low ≡ value_line m.1) × (high ≡ value_line m.2)
unfolding message_in
message-resolved table to low high m h =
    let b = ok_bad_if (is_led to) why.Number (given (value_in low) why.Number λ l. given (value_in high) why.Number λ h. given (who_in table to) why.Table λ t. Ok (t, l, h)) m h in
    let l = ok_given (value_in low) why.Number (λ l. given (value_in high) why.Number λ h. given (who_in table to) why.Table λ t. Ok (t, l, h)) m b.1 in
    let u = ok_given (value_in high) why.Number (λ h. given (who_in table to) why.Table λ t. Ok (t, l.0, h)) m l.2 in
    let t = ok_given (who_in table to) why.Table (λ t. Ok (t, l.0, u.0)) m u.2 in
    let same = ok_same (t.0, l.0, u.0) m t.2 in
    let a = who-resolved table to t.0 b.0 t.1 in
    let c = value-resolved low l.0 l.1 in
    let d = value-resolved high u.0 u.1 in
    rw (← same) (a.0, c.0, d.0, a.1, c.1, d.1)

-- an operation and its line
Resolves : ℕ → List Program → OperationLine → Operation → Type 0
Resolves table ps o r = IsOperation table (length ps) r × (o ≡ operation_line ps r)

named : (ps : List Program) (name : Word) (k : ℕ) → program_at name ps ≡ Some k → (k < length ps) × ((program_in ps k).name ≡ name)
named ps name k h =
    let found = position-Some (λ p. bytes_eq p.name name) ps k nothing h in
    (found.0, (bytes_eq-Decides (get_or ps k nothing).name name).0 found.1)

resolved-parts : (table : ℕ) (ps : List Program) (o : OperationLine) (r : Operation) → operation_in table ps o ≡ Ok r → Resolves table ps o r
unfolding operation_in Resolves
resolved-parts table ps (op.Send to low high zero) r h =
    let m = ok_on_ok (message_in table to low high) (λ m. Ok (operation.Send m.0 m.1 m.2 zero)) r h in
    let e = message-resolved table to low high m.0 m.1 in
    let a = e.3 in let b = e.4 in let c = e.5 in
    rw (← ok_same (operation.Send m.0.0 m.0.1 m.0.2 zero) r m.2) ((e.0, e.1, e.2), cc)
resolved-parts table ps (op.Receive from zero) r h =
    let m = ok_on_ok (thread_in table from) (λ t. Ok (operation.Receive (Some t) zero)) r h in
    let e = thread-resolved table from m.0 m.1 in
    rw (← ok_same (operation.Receive (Some m.0) zero) r m.2) (e.0, ap (λ (x : WhoWord). op.Receive x zero) e.1)
resolved-parts table ps (op.Wait zero) r h = rw (← ok_same (operation.Receive None zero) r h) (tt, refl)
resolved-parts table ps (op.Call to low high zero) r h =
    let m = ok_on_ok (message_in table to low high) (λ m. Ok (operation.Call m.0 m.1 m.2 zero)) r h in
    let e = message-resolved table to low high m.0 m.1 in
    let a = e.3 in let b = e.4 in let c = e.5 in
    rw (← ok_same (operation.Call m.0.0 m.0.1 m.0.2 zero) r m.2) ((e.0, e.1, e.2), cc)
resolved-parts table ps (op.Reply low high zero) r h =
    let l = ok_given (value_in low) why.Number (λ l. given (value_in high) why.Number (λ h. Ok (operation.Reply l h zero))) r h in
    let u = ok_given (value_in high) why.Number (λ h. Ok (operation.Reply l.0 h zero)) r l.2 in
    let a = value-resolved low l.0 l.1 in
    let b = value-resolved high u.0 u.1 in
    let c = a.1 in let d = b.1 in
    rw (← ok_same (operation.Reply l.0 u.0 zero) r u.2) ((a.0, b.0), cc)
resolved-parts table ps (op.Create name priority) r h =
    let p = ok_given (in_range 0 63 priority) why.Number (λ p. given (program_at name ps) why.Unknown (λ k. Ok (operation.Create k p))) r h in
    let k = ok_given (program_at name ps) why.Unknown (λ k. Ok (operation.Create k p.0)) r p.2 in
    let a = ranged 0 63 priority p.0 (omega arith) p.1 in
    let b = named ps name k.0 k.1 in
    let c = a.0 in let d = b.1 in
    rw (← ok_same (operation.Create k.0 p.0) r k.2) ((b.0, a.2), cc)
resolved-parts table ps (op.Destroy victim) r h =
    let m = ok_on_ok (thread_in table victim) (λ t. Ok (operation.Destroy t)) r h in
    let e = thread-resolved table victim m.0 m.1 in
    rw (← ok_same (operation.Destroy m.0) r m.2) (e.0, ap (λ (x : WhoWord). op.Destroy x) e.1)
resolved-parts table ps (op.Work count) r h =
    let n = ok_given (in_range 1 4294967295 count) why.Number (λ n. Ok (operation.Work n)) r h in
    let a = ranged 1 4294967295 count n.0 (omega arith) n.1 in
    rw (← ok_same (operation.Work n.0) r n.2) ((a.1, a.2), ap (λ (x : Numeral). op.Work x) a.0)
resolved-parts table ps (op.Repeat count) r h =
    let n = ok_given (in_range 1 65535 count) why.Number (λ n. Ok (operation.Repeat n)) r h in
    let a = ranged 1 65535 count n.0 (omega arith) n.1 in
    rw (← ok_same (operation.Repeat n.0) r n.2) ((a.1, a.2), ap (λ (x : Numeral). op.Repeat x) a.0)
resolved-parts table ps op.Again r h = rw (← ok_same operation.Again r h) (tt, refl)

pub resolved : (table : ℕ) (ps : List Program) (o : OperationLine) (r : Operation) → operation_in table ps o ≡ Ok r → IsOperation table (length ps) r × (o ≡ operation_line ps r)
unfolding Resolves
resolved table ps o r h = resolved-parts table ps o r h

pub thread_named : (ps : List Program) (name : Word) (k : ℕ) → program_at name ps ≡ Some k → (k < length ps) × ((program_in ps k).name ≡ name)
thread_named ps name k h = named ps name k h

-- THE ITEMS OF A TURNS LINE

item-resolved : (carriers : ℕ) (w : ItemWord) (i : Item) → has_numbers w ≡ true → item_in carriers w ≡ Some i → IsItem carriers i × (w ≡ item_line i)
item-resolved carriers (item_word.Steps c n) i f h = go (count_of n) (below carriers c) refl refl h
  where
    go : (o : Option ℕ) (q : Option ℕ) → count_of n ≡ o → below carriers c ≡ q → option_and_then (λ n. option_map (λ c. item.Steps c n) q) o ≡ Some i → IsItem carriers i × (item_word.Steps c n ≡ item_line i)
    go None q a b g = absurd cc
    go (Some k) None a b g = absurd cc
    go (Some k) (Some m) a b g =
        let same : item.Steps m k ≡ i = cc in
        let r = ranged 1 1000000 n k (omega arith) a in
        let l = lower carriers c m (not-true c.led (and_parts (not c.led) (is_some (count_of n)) f).0) b in
        let x = r.0 in let y = l.0 in
        rw (← same) ((l.1, r.1, r.2), cc)
item-resolved carriers (item_word.Park c) i f h = go (below carriers c) refl h
  where
    go : (q : Option ℕ) → below carriers c ≡ q → option_map item.Park q ≡ Some i → IsItem carriers i × (item_word.Park c ≡ item_line i)
    go None b g = absurd cc
    go (Some m) b g =
        let same : item.Park m ≡ i = cc in
        let l = lower carriers c m (not-true c.led f) b in
        rw (← same) (l.1, ap (λ (x : Numeral). item_word.Park x) l.0)

pub items-resolved : (carriers : ℕ) (ws : List ItemWord) (is : List Item) → list_all has_numbers ws ≡ true → items_in carriers ws ≡ Some is → AllByRecursion (IsItem carriers) is × (ws ≡ map item_line is)
items-resolved carriers [] is f h = let same : [] ≡ is = cc in rw (← same) (tt, refl)
items-resolved carriers (w ∷ ws) is f h = go (item_in carriers w) (items_in carriers ws) refl refl h (λ js e. items-resolved carriers ws js both.1 e)
  where
    both : (has_numbers w ≡ true) × (list_all has_numbers ws ≡ true)
    both = and_parts (has_numbers w) (list_all has_numbers ws) f

    go : (o : Option Item) (q : Option (List Item)) → item_in carriers w ≡ o → items_in carriers ws ≡ q → option_and_then (λ x. option_map (λ xs. x ∷ xs) q) o ≡ Some is → ((js : List Item) → items_in carriers ws ≡ Some js → AllByRecursion (IsItem carriers) js × (ws ≡ map item_line js)) → AllByRecursion (IsItem carriers) is × (w ∷ ws ≡ map item_line is)
    go None q a b g more = absurd cc
    go (Some x) None a b g more = absurd cc
    go (Some x) (Some xs) a b g more =
        let same : x ∷ xs ≡ is = cc in
        let one = item-resolved carriers w x both.0 a in
        let rest = more xs b in
        let p = one.1 in let r = rest.1 in
        rw (← same) ((one.0, rest.0), cc)
