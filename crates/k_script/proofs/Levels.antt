-- The levels of what is left of a program: there is one more of them than repeats are open.
use Rattle.std.proofs.Common.{◌≡◌, ℕ, suc, ◌+◌, ◌-◌, ◌<◌, ◌≤◌, nat_lt, List, [], ◌∷◌, length, drop, refl, sym, ap, ◌∙◌, arith, Option, Some, None, slice_get, inl, inr, add-one, option_and_then}
use Rattle.std.proofs.lemmas.Bool.{cases_Bool}
use borrow.Author.Tests.{ltb-true}
use Rattle.std.proofs.lemmas.Option.{slice_get_cases, same_Some}
use Rattle.std.proofs.lemmas.List.{drop_all}
use Rattle.std.proofs.Math.Seq.{drop-cons}
use Rattle.k_script.specs.declared.operation.Operation.{Operation}
use Rattle.k_script.specs.declared.operation.Operation.TheVariants as operation
use Rattle.k_script.specs.Limits.{depth_after, depth_behind}
use Rattle.k_script.specs.Flat.{levels, levels_before, in_front, repeated}

-- THE PLACE of an operation

pub drop_some : (ops : List Operation) (at : ℕ) (op : Operation) → slice_get ops at ≡ Some op → drop at ops ≡ op ∷ drop (at + 1) ops
drop_some ops at op e = elim (slice_get_cases ops at).1 [
  | inl q ↦
      let same : Some q.0 ≡ Some op = sym q.2 ∙ e in
      let here : q.0 ≡ op = cc in
      drop-cons ops at q.0 q.1 ∙ ap (λ (x : Operation). x ∷ drop (suc at) ops) (q.3 ∙ here) ∙ ap (λ (k : ℕ). op ∷ drop k ops) (sym (add-one at))
  | inr q ↦ let no : None ≡ Some op = sym q.1 ∙ e in absurd cc
]

pub drop_none : (ops : List Operation) (at : ℕ) → slice_get ops at ≡ None → drop at ops ≡ []
drop_none ops at e = elim (slice_get_cases ops at).1 [
  | inl q ↦ let no : Some q.0 ≡ None = sym q.2 ∙ e in absurd cc
  | inr q ↦ drop_all at ops q.0
]

-- THE NUMBER OF LEVELS

pub length_in_front : (op : Operation) (ls : List (List Operation)) → length (in_front op ls) ≡ length ls
length_in_front op [] = refl
length_in_front op (l ∷ ls) = refl

pub length_repeated : (count : ℕ) (ls : List (List Operation)) → 2 ≤ length ls → length (repeated count ls) + 1 ≡ length ls
length_repeated count [] h = absurd (omega arith)
length_repeated count (l ∷ []) h = absurd (omega arith)
length_repeated count (l ∷ m ∷ ls) h = omega arith

-- how many are open behind an operation
pub open_behind : (depth : ℕ) (op : Operation) (ops : List Operation) → depth_behind depth (op ∷ ops) ≡ Some 0 → (d : ℕ) × (depth_after depth op ≡ Some d) × (depth_behind d ops ≡ Some 0)
open_behind depth op ops h = go (depth_after depth op) refl h
  where
    go : (o : Option ℕ) → depth_after depth op ≡ o → option_and_then (λ d. depth_behind d ops) o ≡ Some 0 → (d : ℕ) × (depth_after depth op ≡ Some d) × (depth_behind d ops ≡ Some 0)
    go None e n = absurd cc
    go (Some d) e n = (d, e, n)

-- an operation that opens a repeat, closes one, or neither
pub open_repeat : (depth d count : ℕ) → depth_after depth (operation.Repeat count) ≡ Some d → (depth < 4) × (d ≡ depth + 1)
open_repeat depth d count h = elim (cases_Bool (nat_lt depth 4)) [
  | inl t ↦ let same : Some (depth + 1) ≡ Some d = sym (rw t refl) ∙ h in (ltb-true depth 4 t, let e : depth + 1 ≡ d = cc in sym e)
  | inr f ↦ let no : None ≡ Some d = sym (rw f refl) ∙ h in absurd cc
]

pub open_again : (depth d : ℕ) → depth_after depth operation.Again ≡ Some d → (0 < depth) × (d + 1 ≡ depth)
open_again depth d h = elim (cases_Bool (nat_lt 0 depth)) [
  | inl t ↦
      let same : Some (depth - 1) ≡ Some d = sym (rw t refl) ∙ h in
      let e : depth - 1 ≡ d = cc in
      let some : 0 < depth = ltb-true 0 depth t in
      (some, omega arith)
  | inr f ↦ let no : None ≡ Some d = sym (rw f refl) ∙ h in absurd cc
]

length_before : (op : Operation) (depth d : ℕ) (ls : List (List Operation)) → depth_after depth op ≡ Some d → length ls ≡ d + 1 → length (levels_before op ls) ≡ depth + 1
length_before (operation.Repeat count) depth d ls h e = let o = open_repeat depth d count h in omega (arith, o.0, o.1, length_repeated count ls (omega (arith, o.1, e)))
length_before operation.Again depth d ls h e = let o = open_again depth d h in omega (arith, o.0, o.1)
length_before (operation.Send to low high zero) depth d ls h e = omega (arith, same_Some depth d h, length_in_front (operation.Send to low high zero) ls)
length_before (operation.Receive from zero) depth d ls h e = omega (arith, same_Some depth d h, length_in_front (operation.Receive from zero) ls)
length_before (operation.Call to low high zero) depth d ls h e = omega (arith, same_Some depth d h, length_in_front (operation.Call to low high zero) ls)
length_before (operation.Reply low high zero) depth d ls h e = omega (arith, same_Some depth d h, length_in_front (operation.Reply low high zero) ls)
length_before (operation.Create program priority) depth d ls h e = omega (arith, same_Some depth d h, length_in_front (operation.Create program priority) ls)
length_before (operation.Destroy victim) depth d ls h e = omega (arith, same_Some depth d h, length_in_front (operation.Destroy victim) ls)
length_before (operation.Work count) depth d ls h e = omega (arith, same_Some depth d h, length_in_front (operation.Work count) ls)

pub length_levels : (depth : ℕ) (ops : List Operation) → depth_behind depth ops ≡ Some 0 → length (levels ops) ≡ depth + 1
length_levels depth [] h = let e : depth ≡ 0 = same_Some depth 0 h in omega arith
length_levels depth (op ∷ ops) h =
    let o = open_behind depth op ops h in
    length_before op depth o.0 (levels ops) o.1 (length_levels o.0 ops o.2)

pub depth_few : (op : Operation) (depth d : ℕ) → depth ≤ 4 → depth_after depth op ≡ Some d → d ≤ 4
depth_few (operation.Repeat count) depth d few h = let o = open_repeat depth d count h in omega (arith, o.0, o.1)
depth_few operation.Again depth d few h = let o = open_again depth d h in omega (arith, o.0, o.1)
depth_few (operation.Send to low high zero) depth d few h = omega (arith, same_Some depth d h)
depth_few (operation.Receive from zero) depth d few h = omega (arith, same_Some depth d h)
depth_few (operation.Call to low high zero) depth d few h = omega (arith, same_Some depth d h)
depth_few (operation.Reply low high zero) depth d few h = omega (arith, same_Some depth d h)
depth_few (operation.Create program priority) depth d few h = omega (arith, same_Some depth d h)
depth_few (operation.Destroy victim) depth d few h = omega (arith, same_Some depth d h)
depth_few (operation.Work count) depth d few h = omega (arith, same_Some depth d h)

-- So it is behind each operation of a program.
pub nested_behind : (depth : ℕ) (ops : List Operation) (k : ℕ) → depth ≤ 4 → depth_behind depth ops ≡ Some 0 → (d : ℕ) × (d ≤ 4) × (depth_behind d (drop k ops) ≡ Some 0)
nested_behind depth [] (suc k) few h = (depth, few, h)
nested_behind depth (op ∷ ops) (suc k) few h =
    let o = open_behind depth op ops h in
    nested_behind o.0 ops k (depth_few op depth o.0 few o.1) o.2
nested_behind depth ops k few h = (depth, few, h)

pub levels_few : (ops : List Operation) (k : ℕ) → depth_behind 0 ops ≡ Some 0 → (1 ≤ length (levels (drop k ops))) × (length (levels (drop k ops)) ≤ 5)
levels_few ops k h =
    let n = nested_behind 0 ops k (omega arith) h in
    let e : length (levels (drop k ops)) ≡ n.0 + 1 = length_levels n.0 (drop k ops) n.2 in
    (omega arith, omega (arith, n.1))
