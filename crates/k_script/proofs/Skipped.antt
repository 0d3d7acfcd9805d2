-- A program from behind its empty repeats on is written out the same.
use Rattle.std.proofs.Common.{◌≡◌, ℕ, ◌+◌, ◌<◌, ◌≤◌, List, [], ◌∷◌, ◌++◌, length, drop, get_or, refl, sym, ap, ◌∙◌, subst, arith, Some, slice_get, inl, inr, append-nil}
use Rattle.std.proofs.lemmas.Bool.{cases_lt}
use Rattle.std.proofs.lemmas.List.{get_or_past}
use Rattle.std.proofs.lemmas.Option.{slice_get-get_or}
use Rattle.k_script.specs.declared.operation.Operation.{Operation}
use Rattle.k_script.specs.declared.operation.Operation.TheVariants as operation
use Rattle.k_script.specs.declared.cursor.Cursor.{Cursor}
use Rattle.k_script.specs.Flat.{levels, levels_before, in_front, repeated}
use Rattle.k_script.specs.Place.{open_turns, joined, AreTurns}
use Rattle.k_script.specs.Skips.{IsSkip, AreSkips, skip_in}
use Rattle.k_script.proofs.Levels.{drop_some, length_in_front}
use Rattle.k_script.proofs.Turns.{repeat_nil, Passes, Entered, ahead}

-- EACH PROGRAM has a level at least, and a repeat with nothing in it adds nothing to them.

some_repeated : (count : ℕ) (ls : List (List Operation)) → 1 ≤ length ls → 1 ≤ length (repeated count ls)
some_repeated count [] h = absurd (omega arith)
some_repeated count (l ∷ []) h = omega arith
some_repeated count (l ∷ m ∷ ls) h = omega arith

some_front : (op : Operation) (ls : List (List Operation)) → 1 ≤ length ls → 1 ≤ length (in_front op ls)
some_front op ls h = omega (arith, length_in_front op ls)

some_before : (op : Operation) (ls : List (List Operation)) → 1 ≤ length ls → 1 ≤ length (levels_before op ls)
some_before (operation.Repeat count) ls h = some_repeated count ls h
some_before operation.Again ls h = omega arith
some_before (operation.Send to low high zero) ls h = some_front (operation.Send to low high zero) ls h
some_before (operation.Receive from zero) ls h = some_front (operation.Receive from zero) ls h
some_before (operation.Call to low high zero) ls h = some_front (operation.Call to low high zero) ls h
some_before (operation.Reply low high zero) ls h = some_front (operation.Reply low high zero) ls h
some_before (operation.Create program priority) ls h = some_front (operation.Create program priority) ls h
some_before (operation.Destroy victim) ls h = some_front (operation.Destroy victim) ls h
some_before (operation.Work count) ls h = some_front (operation.Work count) ls h

some_level : (ops : List Operation) → 1 ≤ length (levels ops)
some_level [] = omega arith
some_level (op ∷ ops) = some_before op (levels ops) (some_level ops)

empty_repeat : (count : ℕ) (ls : List (List Operation)) → 1 ≤ length ls → repeated count ([] ∷ ls) ≡ ls
empty_repeat count [] h = absurd (omega arith)
empty_repeat count (m ∷ ls) h = ap (λ (x : List Operation). (x ++ m) ∷ ls) (repeat_nil count)

-- SKIPS

pub read_at : (ops : List Operation) (index place : ℕ) (d op : Operation) → index ≡ place → place < length ops → get_or ops index d ≡ op → slice_get ops place ≡ Some op
read_at ops index place d op e inside is = slice_get-get_or ops place d inside ∙ ap Some (ap (λ (i : ℕ). get_or ops i d) (sym e) ∙ is)

pub own_skip : (ops : List Operation) (place : ℕ) → place ≤ length ops → IsSkip ops place place
own_skip ops place inside = record { onward = omega arith; inside = inside; same = λ more. refl }

pub skip_there : (ops : List Operation) (skips : List ℕ) (place : ℕ) → AreSkips ops skips → place ≤ length ops → IsSkip ops place (skip_in skips place)
skip_there ops skips place are inside = elim (cases_lt place (length skips)) [
  | inl l ↦ are place l
  | inr g ↦ subst (IsSkip ops place) (sym (get_or_past skips place place g)) (own_skip ops place inside)
]

-- what follows an operation, with more behind
levels_at : (ops more : List Operation) (place : ℕ) (op : Operation) → slice_get ops place ≡ Some op → levels (drop place ops ++ more) ≡ levels_before op (levels (drop (place + 1) ops ++ more))
levels_at ops more place op found = ap (λ (x : List Operation). levels (x ++ more)) (drop_some ops place op found)

-- A repeat in which only what is skipped stands before its again
pub over_empty : (ops : List Operation) (place count end skip : ℕ) → slice_get ops place ≡ Some (operation.Repeat count) → IsSkip ops (place + 1) end → slice_get ops end ≡ Some operation.Again → IsSkip ops (end + 1) skip → IsSkip ops place skip
over_empty ops place count end skip opens within ends behind = record {
  onward = omega (arith, within.onward, behind.onward);
  inside = behind.inside;
  same = λ more.
      behind.same more
      ∙ sym (empty_repeat count (levels (drop (end + 1) ops ++ more)) (some_level (drop (end + 1) ops ++ more)))
      ∙ ap (repeated count) (sym (levels_at ops more end operation.Again ends))
      ∙ ap (repeated count) (within.same more)
      ∙ sym (levels_at ops more place (operation.Repeat count) opens);
}

-- IN BETWEEN two operations a skip is one of the markers passed

passes_skip : (ops : List Operation) (skips : List ℕ) (old c : Cursor) (n : ℕ) → AreSkips ops skips → Passes ops old c n → Passes ops old (record c { at = skip_in skips c.at }) n × (ahead ops (record c { at = skip_in skips c.at }) n ≤ ahead ops c n)
passes_skip ops skips old c n are p = elim (cases_lt c.at (length skips)) [
  | inl l ↦
      let is : IsSkip ops c.at (skip_in skips c.at) = are c.at l in
      let all : levels (drop (skip_in skips c.at) ops) ≡ levels (drop c.at ops) = ap levels (sym (append-nil (drop (skip_in skips c.at) ops))) ∙ is.same [] ∙ ap levels (append-nil (drop c.at ops)) in
      let size : length (levels (drop (skip_in skips c.at) ops)) ≡ length (levels (drop c.at ops)) = ap length all in (
        record {
          same = p.same ∙ sym (ap (joined ops (open_turns c)) all);
          placed = subst (AreTurns ops (open_turns c)) (sym all) p.placed;
          entered = subst (Entered ops n [] (open_turns c)) (sym all) p.entered;
        },
        omega (arith, size, is.onward),
      )
  | inr g ↦
      let own : skip_in skips c.at ≡ c.at = get_or_past skips c.at c.at g in
      rw own (p, omega arith)
]

pub passes_to : (ops : List Operation) (skips : List ℕ) (old c new : Cursor) (n : ℕ) → AreSkips ops skips → Passes ops old c n → new ≡ record c { at = skip_in skips c.at } → Passes ops old new n × (ahead ops new n ≤ ahead ops c n)
passes_to ops skips old c new n are p is = rw is (passes_skip ops skips old c n are p)
