-- What a program written out is: operation by operation, and repeat by repeat.
use Rattle.std.proofs.Common.{◌≡◌, ℕ, ◌+◌, ◌≤◌, false, List, [], ◌∷◌, ◌++◌, length, refl, sym, ap, ◌∙◌, arith, Some, append_assoc, append-nil}
use Rattle.std.specs.List.{repeat, AllByRecursion}
use Rattle.k_lists.proofs.All.{all_append}
use Rattle.k_script.specs.declared.operation.Operation.{Operation}
use Rattle.k_script.specs.declared.operation.Operation.TheVariants as operation
use Rattle.k_script.specs.Limits.{depth_after, depth_behind}
use Rattle.k_script.specs.Flat.{levels, levels_before, in_front, repeated, flat, first_level, is_marker}
use Rattle.k_script.proofs.Levels.{open_behind, open_repeat, length_levels, length_in_front}
use Rattle.k_script.proofs.Turns.{plain_front}
use Rattle.k_script.proofs.Within.{all_repeat}

-- THERE IS a level at least.

some_before : (op : Operation) (ls : List (List Operation)) → 1 ≤ length ls → 1 ≤ length (levels_before op ls)
some_before (operation.Repeat count) [] h = absurd (omega arith)
some_before (operation.Repeat count) (l ∷ []) h = omega arith
some_before (operation.Repeat count) (l ∷ m ∷ ls) h = omega arith
some_before operation.Again ls h = omega arith
some_before (operation.Send to low high zero) ls h = omega (arith, length_in_front (operation.Send to low high zero) ls)
some_before (operation.Receive from zero) ls h = omega (arith, length_in_front (operation.Receive from zero) ls)
some_before (operation.Call to low high zero) ls h = omega (arith, length_in_front (operation.Call to low high zero) ls)
some_before (operation.Reply low high zero) ls h = omega (arith, length_in_front (operation.Reply low high zero) ls)
some_before (operation.Create program priority) ls h = omega (arith, length_in_front (operation.Create program priority) ls)
some_before (operation.Destroy victim) ls h = omega (arith, length_in_front (operation.Destroy victim) ls)
some_before (operation.Work count) ls h = omega (arith, length_in_front (operation.Work count) ls)

some_level : (ops : List Operation) → 1 ≤ length (levels ops)
some_level [] = omega arith
some_level (op ∷ ops) = some_before op (levels ops) (some_level ops)

-- AN OPERATION stands in front.

first_front : (op : Operation) (ls : List (List Operation)) → 1 ≤ length ls → first_level (in_front op ls) ≡ op ∷ first_level ls
first_front op [] h = absurd (omega arith)
first_front op (l ∷ ls) h = refl

pub flat_operation : (op : Operation) (ops : List Operation) → is_marker op ≡ false → flat (op ∷ ops) ≡ op ∷ flat ops
flat_operation op ops h = ap first_level (plain_front op (levels ops) h) ∙ first_front op (levels ops) (some_level ops)

-- A REPEAT is its body, so often, and then what follows it.

-- the last of some levels goes on with the first of others
abbrev glue : List (List Operation) → List (List Operation) → List (List Operation)
glue [] ts = ts
glue (l ∷ []) [] = l ∷ []
glue (l ∷ []) (t ∷ ts) = (l ++ t) ∷ ts
glue (l ∷ m ∷ ls) ts = l ∷ glue (m ∷ ls) ts

glue_nil : (ts : List (List Operation)) → 1 ≤ length ts → ts ≡ glue ([] ∷ []) ts
glue_nil [] h = absurd (omega arith)
glue_nil (t ∷ ts) h = refl

glue_front : (op : Operation) (ls ts : List (List Operation)) → 1 ≤ length ls → 1 ≤ length ts → in_front op (glue ls ts) ≡ glue (in_front op ls) ts
glue_front op [] ts h g = absurd (omega arith)
glue_front op (l ∷ []) [] h g = absurd (omega arith)
glue_front op (l ∷ []) (t ∷ ts) h g = refl
glue_front op (l ∷ m ∷ ls) ts h g = refl

glue_again : (ls ts : List (List Operation)) → 1 ≤ length ls → [] ∷ glue ls ts ≡ glue ([] ∷ ls) ts
glue_again [] ts h = absurd (omega arith)
glue_again (l ∷ ls) ts h = refl

glue_repeat : (count : ℕ) (ls ts : List (List Operation)) → 2 ≤ length ls → 1 ≤ length ts → repeated count (glue ls ts) ≡ glue (repeated count ls) ts
glue_repeat count [] ts h g = absurd (omega arith)
glue_repeat count (l ∷ []) ts h g = absurd (omega arith)
glue_repeat count (l ∷ m ∷ []) [] h g = absurd (omega arith)
glue_repeat count (l ∷ m ∷ []) (t ∷ ts) h g = ap (λ (x : List Operation). x ∷ ts) (sym (append_assoc (repeat count l) m t))
glue_repeat count (l ∷ m ∷ n ∷ ls) ts h g = refl

glue_before : (op : Operation) (depth d : ℕ) (ls ts : List (List Operation)) → depth_after depth op ≡ Some d → length ls ≡ d + 1 → 1 ≤ length ts → levels_before op (glue ls ts) ≡ glue (levels_before op ls) ts
glue_before (operation.Repeat count) depth d ls ts h e g = let o = open_repeat depth d count h in glue_repeat count ls ts (omega (arith, o.1)) g
glue_before operation.Again depth d ls ts h e g = glue_again ls ts (omega arith)
glue_before (operation.Send to low high zero) depth d ls ts h e g = glue_front (operation.Send to low high zero) ls ts (omega arith) g
glue_before (operation.Receive from zero) depth d ls ts h e g = glue_front (operation.Receive from zero) ls ts (omega arith) g
glue_before (operation.Call to low high zero) depth d ls ts h e g = glue_front (operation.Call to low high zero) ls ts (omega arith) g
glue_before (operation.Reply low high zero) depth d ls ts h e g = glue_front (operation.Reply low high zero) ls ts (omega arith) g
glue_before (operation.Create program priority) depth d ls ts h e g = glue_front (operation.Create program priority) ls ts (omega arith) g
glue_before (operation.Destroy victim) depth d ls ts h e g = glue_front (operation.Destroy victim) ls ts (omega arith) g
glue_before (operation.Work count) depth d ls ts h e g = glue_front (operation.Work count) ls ts (omega arith) g

levels_glue : (depth : ℕ) (body rest : List Operation) → depth_behind depth body ≡ Some 0 → levels (body ++ rest) ≡ glue (levels body) (levels rest)
levels_glue depth [] rest h = glue_nil (levels rest) (some_level rest)
levels_glue depth (op ∷ body) rest h =
    let o = open_behind depth op body h in
    ap (levels_before op) (levels_glue o.0 body rest o.2) ∙ glue_before op depth o.0 (levels body) (levels rest) o.1 (length_levels o.0 body o.2) (some_level rest)

repeat_one : (count : ℕ) (ls ts : List (List Operation)) → length ls ≡ 1 → 1 ≤ length ts → first_level (repeated count (glue ls ([] ∷ ts))) ≡ repeat count (first_level ls) ++ first_level ts
repeat_one count [] ts h g = absurd (omega arith)
repeat_one count (l ∷ []) [] h g = absurd (omega arith)
repeat_one count (l ∷ []) (t ∷ ts) h g = ap (λ (x : List Operation). repeat count x ++ t) (append-nil l)
repeat_one count (l ∷ m ∷ ls) ts h g = absurd (omega arith)

pub flat_repeat : (count : ℕ) (body rest : List Operation) → depth_behind 0 body ≡ Some 0 → flat (operation.Repeat count ∷ (body ++ (operation.Again ∷ rest))) ≡ repeat count (flat body) ++ flat rest
flat_repeat count body rest h =
    ap (λ (ls : List (List Operation)). first_level (repeated count ls)) (levels_glue 0 body (operation.Again ∷ rest) h)
    ∙ repeat_one count (levels body) (levels rest) (length_levels 0 body h) (some_level rest)

-- NO REPEAT AND NO AGAIN is left.

abbrev IsPlain : Operation → Type 0
IsPlain op = is_marker op ≡ false

abbrev ArePlain : List (List Operation) → Type 0
ArePlain ls = AllByRecursion (λ l. AllByRecursion IsPlain l) ls

plain_in_front : (op : Operation) (ls : List (List Operation)) → IsPlain op → ArePlain ls → ArePlain (in_front op ls)
plain_in_front op [] h a = tt
plain_in_front op (l ∷ ls) h a = ((h, a.0), a.1)

plain_repeated : (count : ℕ) (ls : List (List Operation)) → ArePlain ls → ArePlain (repeated count ls)
plain_repeated count [] a = tt
plain_repeated count (l ∷ []) a = (all_repeat IsPlain count l a.0, tt)
plain_repeated count (l ∷ m ∷ ls) a = (all_append IsPlain (repeat count l) m (all_repeat IsPlain count l a.0) a.1.0, a.1.1)

plain_before : (op : Operation) (ls : List (List Operation)) → ArePlain ls → ArePlain (levels_before op ls)
plain_before (operation.Repeat count) ls a = plain_repeated count ls a
plain_before operation.Again ls a = (tt, a)
plain_before (operation.Send to low high zero) ls a = plain_in_front (operation.Send to low high zero) ls refl a
plain_before (operation.Receive from zero) ls a = plain_in_front (operation.Receive from zero) ls refl a
plain_before (operation.Call to low high zero) ls a = plain_in_front (operation.Call to low high zero) ls refl a
plain_before (operation.Reply low high zero) ls a = plain_in_front (operation.Reply low high zero) ls refl a
plain_before (operation.Create program priority) ls a = plain_in_front (operation.Create program priority) ls refl a
plain_before (operation.Destroy victim) ls a = plain_in_front (operation.Destroy victim) ls refl a
plain_before (operation.Work count) ls a = plain_in_front (operation.Work count) ls refl a

plain_levels : (ops : List Operation) → ArePlain (levels ops)
plain_levels [] = (tt, tt)
plain_levels (op ∷ ops) = plain_before op (levels ops) (plain_levels ops)

plain_first : (ls : List (List Operation)) → ArePlain ls → AllByRecursion IsPlain (first_level ls)
plain_first [] a = tt
plain_first (l ∷ ls) a = a.0

pub flat_plain : (ops : List Operation) → AllByRecursion (λ op. is_marker op ≡ false) (flat ops)
flat_plain ops = plain_first (levels ops) (plain_levels ops)
