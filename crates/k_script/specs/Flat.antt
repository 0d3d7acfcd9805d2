-- A program written out: what each repeat repeats stands there as often as it is done, and no repeat and no again is left.
use Rattle.std.specs.Prelude.{ℕ, List, [], ◌∷◌, ◌++◌, Bool, true, false}
use Rattle.std.specs.List.{repeat}
use Rattle.k_script.specs.declared.operation.Operation.{Operation}
use Rattle.k_script.specs.declared.operation.Operation.TheVariants as operation

abbrev pub is_marker : Operation → Bool
is_marker (operation.Repeat count) = true
is_marker operation.Again = true
is_marker op = false

abbrev pub first_level : List (List Operation) → List Operation
first_level [] = []
first_level (l ∷ ls) = l

abbrev pub in_front : Operation → List (List Operation) → List (List Operation)
in_front op [] = []
in_front op (l ∷ ls) = (op ∷ l) ∷ ls

-- The first level is what is repeated, the second what follows it.
abbrev pub repeated : ℕ → List (List Operation) → List (List Operation)
repeated count [] = []
repeated count (body ∷ []) = repeat count body ∷ []
repeated count (body ∷ after ∷ more) = (repeat count body ++ after) ∷ more

abbrev pub levels_before : Operation → List (List Operation) → List (List Operation)
levels_before (operation.Repeat count) ls = repeated count ls
levels_before operation.Again ls = [] ∷ ls
levels_before op ls = in_front op ls

-- The rest of a program that stands within so many repeats, written out level by level: first what is left of one turn of
-- the innermost repeat, then what follows this repeat in one turn of the next, and so on; last, what follows all of them.
abbrev pub levels : List Operation → List (List Operation)
levels [] = [] ∷ []
levels (op ∷ ops) = levels_before op (levels ops)

abbrev pub flat : List Operation → List Operation
flat ops = first_level (levels ops)
