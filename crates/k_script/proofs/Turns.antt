-- What is left of a program stays the same over its repeats and agains.
use Rattle.std.proofs.Common.{◌≡◌, ℕ, suc, ◌+◌, ◌-◌, ◌*◌, ◌<◌, ◌≤◌, ◌==◌, false, List, [], ◌∷◌, ◌++◌, length, drop, refl, sym, ap, ◌∙◌, subst, arith, Some, None, slice_get, get_or, inl, inr, append_assoc, add-one}
use Rattle.std.specs.List.{repeat, AllByRecursion}
use Rattle.std.proofs.lemmas.Bool.{cases_Bool}
use Rattle.std.proofs.lemmas.Option.{slice_get_cases}
use Rattle.k_lists.proofs.All.{all_at}
use Rattle.k_script.specs.declared.operation.Operation.{Operation}
use Rattle.k_script.specs.declared.operation.Operation.TheVariants as operation
use Rattle.k_script.specs.declared.cursor.Turn.{Turn}
use Rattle.k_script.specs.declared.cursor.Cursor.{Cursor}
use Rattle.k_script.specs.Limits.{depth_behind}
use Rattle.k_script.specs.Flat.{levels, levels_before, flat, first_level, in_front, repeated, is_marker}
use Rattle.k_script.specs.Place.{open_turns, still_to_come, joined, left_at, rest_levels, AreTurns, IsCursor, HasTurns, IsNested, into_repeat, out_of_repeat, to_next_turn, at_again, entered_then}
use borrow.Author.Tests.{eqb-true, eqb-false}
use Rattle.k_script.proofs.Levels.{drop_some, drop_none, levels_few, length_levels, nested_behind, open_behind, open_repeat}

-- ONE TURN MORE OR LESS AT THE END, where there are turns enough

joined_three : (ops : List Operation) (a b c d : Turn) (ls : List (List Operation)) → length ls ≤ 4 → joined ops (a ∷ b ∷ c ∷ d ∷ []) ls ≡ joined ops (a ∷ b ∷ c ∷ []) ls
joined_three ops a b c d [] h = refl
joined_three ops a b c d (l ∷ []) h = refl
joined_three ops a b c d (l ∷ m ∷ []) h = refl
joined_three ops a b c d (l ∷ m ∷ n ∷ []) h = refl
joined_three ops a b c d (l ∷ m ∷ n ∷ o ∷ []) h = refl
joined_three ops a b c d (l ∷ m ∷ n ∷ o ∷ p ∷ ls) h = absurd (omega arith)

turns_fewer : (ops : List Operation) (a b c d : Turn) (ls : List (List Operation)) → length ls ≤ 4 → AreTurns ops (a ∷ b ∷ c ∷ d ∷ []) ls → AreTurns ops (a ∷ b ∷ c ∷ []) ls
turns_fewer ops a b c d [] h t = t
turns_fewer ops a b c d (l ∷ []) h t = t
turns_fewer ops a b c d (l ∷ m ∷ []) h t = t
turns_fewer ops a b c d (l ∷ m ∷ n ∷ []) h t = t
turns_fewer ops a b c d (l ∷ m ∷ n ∷ o ∷ []) h t = t
turns_fewer ops a b c d (l ∷ m ∷ n ∷ o ∷ p ∷ ls) h t = absurd (omega arith)

turns_more : (ops : List Operation) (a b c d : Turn) (ls : List (List Operation)) → length ls ≤ 4 → AreTurns ops (a ∷ b ∷ c ∷ []) ls → AreTurns ops (a ∷ b ∷ c ∷ d ∷ []) ls
turns_more ops a b c d [] h t = t
turns_more ops a b c d (l ∷ []) h t = t
turns_more ops a b c d (l ∷ m ∷ []) h t = t
turns_more ops a b c d (l ∷ m ∷ n ∷ []) h t = t
turns_more ops a b c d (l ∷ m ∷ n ∷ o ∷ []) h t = t
turns_more ops a b c d (l ∷ m ∷ n ∷ o ∷ p ∷ ls) h t = absurd (omega arith)

-- THE REPEATS THAT WERE ENTERED since the last operation: the whole body of such a one is still to be done, given what is to
-- be done before of the repeats within it.
abbrev pub Entered : List Operation → ℕ → List Operation → List Turn → List (List Operation) → Type 0
Entered ops (suc n) done [] ls = ⊥
Entered ops (suc n) done (t ∷ ts) [] = ⊥
Entered ops (suc n) done (t ∷ ts) (l ∷ []) = ⊥
Entered ops (suc n) done (t ∷ ts) (l ∷ m ∷ ls) = (flat (drop t.body ops) ≡ done ++ l) × Entered ops n ((done ++ l) ++ still_to_come ops t) ts (m ∷ ls)
Entered ops n done ts ls = Unit {0}

entered_below : (ops : List Operation) (n : ℕ) (done : List Operation) (ts : List Turn) (ls : List (List Operation)) → 1 ≤ length ls → Entered ops n done ts ls → n + 1 ≤ length ls
entered_below ops (suc n) done [] ls some h = absurd h
entered_below ops (suc n) done (t ∷ ts) [] some h = absurd h
entered_below ops (suc n) done (t ∷ ts) (l ∷ []) some h = absurd h
entered_below ops (suc n) done (t ∷ ts) (l ∷ m ∷ ls) some h = omega (arith, entered_below ops n ((done ++ l) ++ still_to_come ops t) ts (m ∷ ls) (omega arith) h.1)
entered_below ops n done ts ls some h = omega arith

entered_more : (ops : List Operation) (n : ℕ) (done : List Operation) (ts : List Turn) (x : Turn) (ls : List (List Operation)) → Entered ops n done ts ls → Entered ops n done (ts ++ x ∷ []) ls
entered_more ops (suc n) done [] x ls h = absurd h
entered_more ops (suc n) done (t ∷ ts) x [] h = absurd h
entered_more ops (suc n) done (t ∷ ts) x (l ∷ []) h = absurd h
entered_more ops (suc n) done (t ∷ ts) x (l ∷ m ∷ ls) h = (h.0, entered_more ops n ((done ++ l) ++ still_to_come ops t) ts x (m ∷ ls) h.1)
entered_more ops n done ts x ls h = tt

entered_fewer : (ops : List Operation) (n : ℕ) (done : List Operation) (ts : List Turn) (x : Turn) (ls : List (List Operation)) → length ls ≤ length ts + 1 → Entered ops n done (ts ++ x ∷ []) ls → Entered ops n done ts ls
entered_fewer ops (suc n) done [] x [] few h = absurd h
entered_fewer ops (suc n) done [] x (l ∷ []) few h = absurd h
entered_fewer ops (suc n) done [] x (l ∷ m ∷ ls) few h = absurd (omega arith)
entered_fewer ops (suc n) done (t ∷ ts) x [] few h = absurd h
entered_fewer ops (suc n) done (t ∷ ts) x (l ∷ []) few h = absurd h
entered_fewer ops (suc n) done (t ∷ ts) x (l ∷ m ∷ ls) few h = (h.0, entered_fewer ops n ((done ++ l) ++ still_to_come ops t) ts x (m ∷ ls) (omega arith) h.1)
entered_fewer ops n done ts x ls few h = tt

-- what is done first may stand on either side
entered_front : (ops : List Operation) (n : ℕ) (done x : List Operation) (ts : List Turn) (l : List Operation) (ls : List (List Operation)) → Entered ops n done ts ((x ++ l) ∷ ls) → Entered ops n (done ++ x) ts (l ∷ ls)
entered_front ops (suc n) done x [] l ls h = absurd h
entered_front ops (suc n) done x (t ∷ ts) l [] h = absurd h
entered_front ops (suc n) done x (t ∷ ts) l (m ∷ ls) h =
    let e : done ++ (x ++ l) ≡ (done ++ x) ++ l = sym (append_assoc done x l) in
    (h.0 ∙ e, subst (λ (d : List Operation). Entered ops n (d ++ still_to_come ops t) ts (m ∷ ls)) e h.1)
entered_front ops n done x ts l ls h = tt

-- INTO A REPEAT

joined_front : (ops : List Operation) (ts : List Turn) (x l : List Operation) (ls : List (List Operation)) → joined ops ts ((x ++ l) ∷ ls) ≡ x ++ joined ops ts (l ∷ ls)
joined_front ops ts x l [] = refl
joined_front ops [] x l (m ∷ ls) = refl
joined_front ops (t ∷ ts) x l (m ∷ ls) = append_assoc x l (still_to_come ops t ++ joined ops ts (m ∷ ls))

turns_head : (ops : List Operation) (ts : List Turn) (x l : List Operation) (ls : List (List Operation)) → AreTurns ops ts (x ∷ ls) → AreTurns ops ts (l ∷ ls)
turns_head ops ts x l [] h = tt
turns_head ops [] x l (m ∷ ls) h = h
turns_head ops (t ∷ ts) x l (m ∷ ls) h = h

pub record Enters (ops : List Operation) (a b c d t : Turn) (n count : ℕ) (ls : List (List Operation)) : Type 0 where
  pub same : joined ops (a ∷ b ∷ c ∷ d ∷ []) (repeated count ls) ≡ joined ops (t ∷ a ∷ b ∷ c ∷ []) ls
  pub turns : AreTurns ops (t ∷ a ∷ b ∷ c ∷ []) ls
  pub entered : Entered ops (n + 1) [] (t ∷ a ∷ b ∷ c ∷ []) ls
  pub fewer : length (repeated count ls) + 1 ≡ length ls

enters : (ops : List Operation) (a b c d t : Turn) (n left : ℕ) (ls : List (List Operation)) → levels (drop t.body ops) ≡ ls → t.left ≡ left → 2 ≤ length ls → length ls ≤ 5 → AreTurns ops (a ∷ b ∷ c ∷ d ∷ []) (repeated (suc left) ls) → Entered ops n [] (a ∷ b ∷ c ∷ d ∷ []) (repeated (suc left) ls) → Enters ops a b c d t n (suc left) ls
enters ops a b c d t n left [] e k some few turns entered = absurd (omega arith)
enters ops a b c d t n left (l ∷ []) e k some few turns entered = absurd (omega arith)
enters ops a b c d t n left (l ∷ m ∷ ls) e k some few turns entered =
    let short : length (m ∷ ls) ≤ 4 = omega arith in
    let body : flat (drop t.body ops) ≡ l = ap first_level e in
    let coming : repeat left l ≡ still_to_come ops t = ap (λ (i : ℕ). repeat i l) (sym k) ∙ ap (λ (x : List Operation). repeat t.left x) (sym body) in
    let all : repeat (suc left) l ≡ l ++ still_to_come ops t = ap (λ (x : List Operation). l ++ x) coming in
    record {
      same =
          joined_front ops (a ∷ b ∷ c ∷ d ∷ []) (repeat (suc left) l) m ls
          ∙ ap (λ (x : List Operation). x ++ joined ops (a ∷ b ∷ c ∷ d ∷ []) (m ∷ ls)) all
          ∙ ap (λ (x : List Operation). (l ++ still_to_come ops t) ++ x) (joined_three ops a b c d (m ∷ ls) short)
          ∙ append_assoc l (still_to_come ops t) (joined ops (a ∷ b ∷ c ∷ []) (m ∷ ls));
      turns = (ap rest_levels e, turns_fewer ops a b c d (m ∷ ls) short (turns_head ops (a ∷ b ∷ c ∷ d ∷ []) (repeat (suc left) l ++ m) m ls turns));
      entered = rw (add-one n) (
        body,
        entered_fewer ops n (l ++ still_to_come ops t) (a ∷ b ∷ c ∷ []) d (m ∷ ls) (omega arith)
            (subst (λ (x : List Operation). Entered ops n x (a ∷ b ∷ c ∷ d ∷ []) (m ∷ ls)) all (entered_front ops n [] (repeat (suc left) l) (a ∷ b ∷ c ∷ d ∷ []) m ls entered)),
      );
      fewer = omega arith;
    }

-- OUT OF A REPEAT of which nothing is still to come

pub repeat_nil : (n : ℕ) → repeat {A = Operation} n [] ≡ []
repeat_nil (suc n) = repeat_nil n
repeat_nil n = refl

pub record Leaves (ops : List Operation) (a b c d x : Turn) (n : ℕ) (ls : List (List Operation)) : Type 0 where
  pub same : joined ops (a ∷ b ∷ c ∷ d ∷ []) ([] ∷ ls) ≡ joined ops (b ∷ c ∷ d ∷ x ∷ []) ls
  pub turns : AreTurns ops (b ∷ c ∷ d ∷ x ∷ []) ls
  pub entered : Entered ops n [] (b ∷ c ∷ d ∷ x ∷ []) ls

leaves : (ops : List Operation) (a b c d x : Turn) (n : ℕ) (ls : List (List Operation)) → still_to_come ops a ≡ [] → 1 ≤ length ls → length ls ≤ 4 → AreTurns ops (a ∷ b ∷ c ∷ d ∷ []) ([] ∷ ls) → Entered ops n [] (b ∷ c ∷ d ∷ []) ls → Leaves ops a b c d x n ls
leaves ops a b c d x n [] none some few turns entered = absurd (omega arith)
leaves ops a b c d x n (m ∷ ls) none some few turns entered = record {
  same = ap (λ (r : List Operation). r ++ joined ops (b ∷ c ∷ d ∷ []) (m ∷ ls)) none ∙ sym (joined_three ops b c d x (m ∷ ls) few);
  turns = turns_more ops b c d x (m ∷ ls) few turns.1;
  entered = entered_more ops n [] (b ∷ c ∷ d ∷ []) x (m ∷ ls) entered;
}

-- A repeat that was entered since the last operation has nothing in it, and nothing more of it comes.
nothing_in : (ops : List Operation) (a b c d : Turn) (n : ℕ) (ls : List (List Operation)) → 1 ≤ length ls → Entered ops (suc n) [] (a ∷ b ∷ c ∷ d ∷ []) ([] ∷ ls) → (still_to_come ops a ≡ []) × Entered ops n [] (b ∷ c ∷ d ∷ []) ls
nothing_in ops a b c d n [] some h = absurd (omega arith)
nothing_in ops a b c d n (m ∷ ls) some h =
    let none : still_to_come ops a ≡ [] = ap (λ (x : List Operation). repeat a.left x) h.0 ∙ repeat_nil a.left in
    (none, subst (λ (x : List Operation). Entered ops n x (b ∷ c ∷ d ∷ []) (m ∷ ls)) none h.1)

-- BACK TO THE BODY for another turn

pub record Returns (ops : List Operation) (a b c d t : Turn) (ls : List (List Operation)) : Type 0 where
  pub same : joined ops (a ∷ b ∷ c ∷ d ∷ []) ([] ∷ ls) ≡ joined ops (t ∷ b ∷ c ∷ d ∷ []) (levels (drop t.body ops))
  pub turns : AreTurns ops (t ∷ b ∷ c ∷ d ∷ []) (levels (drop t.body ops))
  pub entered : Entered ops 1 [] (t ∷ b ∷ c ∷ d ∷ []) (levels (drop t.body ops))
  pub longer : length (levels (drop t.body ops)) ≡ length ([] ∷ ls)

returns_to : (ops : List Operation) (a b c d t : Turn) (ls all : List (List Operation)) → a.body ≡ t.body → a.left ≡ suc t.left → levels (drop t.body ops) ≡ all → 1 ≤ length all → 1 ≤ length ls → AreTurns ops (a ∷ b ∷ c ∷ d ∷ []) ([] ∷ ls) → Returns ops a b c d t ls
returns_to ops a b c d t ls [] body left e some follow turns = absurd (omega arith)
returns_to ops a b c d t [] (l ∷ rest) body left e some follow turns = absurd (omega arith)
returns_to ops a b c d t (m ∷ ls) (l ∷ rest) body left e some follow turns =
    let follows : rest ≡ m ∷ ls = ap rest_levels (sym e) ∙ ap (λ (i : ℕ). rest_levels (levels (drop i ops))) (sym body) ∙ turns.0 in
    let whole : levels (drop t.body ops) ≡ l ∷ m ∷ ls = e ∙ ap (λ (x : List (List Operation)). l ∷ x) follows in
    let first : flat (drop t.body ops) ≡ l = ap first_level whole in
    let now : flat (drop a.body ops) ≡ l = ap (λ (i : ℕ). flat (drop i ops)) body ∙ first in
    let more : still_to_come ops a ≡ l ++ still_to_come ops t = ap (λ (i : ℕ). repeat i (flat (drop a.body ops))) left ∙ ap (λ (x : List Operation). repeat (suc t.left) x) now ∙ ap (λ (x : List Operation). l ++ repeat t.left x) (sym first) in
    record {
      same = rw whole (ap (λ (r : List Operation). r ++ joined ops (b ∷ c ∷ d ∷ []) (m ∷ ls)) more ∙ append_assoc l (still_to_come ops t) (joined ops (b ∷ c ∷ d ∷ []) (m ∷ ls)));
      turns = rw whole (ap rest_levels whole, turns.1);
      entered = rw whole (first, tt);
      longer = ap length whole;
    }

-- THE STEPS OF A PLACE

-- Between two operations only repeats and agains are passed, so many of the open repeats having been entered.
pub record Passes (ops : List Operation) (old new : Cursor) (n : ℕ) : Type 0 where
  pub same : left_at ops old ≡ left_at ops new
  pub placed : IsCursor ops new
  pub entered : Entered ops n [] (open_turns new) (levels (drop new.at ops))

pub passes_few : (ops : List Operation) (old new : Cursor) (n : ℕ) → IsNested ops → Passes ops old new n → (n + 1 ≤ length (levels (drop new.at ops))) × (length (levels (drop new.at ops)) ≤ 5)
passes_few ops old new n nested p =
    let few = levels_few ops new.at nested.nested in
    (entered_below ops n [] (open_turns new) (levels (drop new.at ops)) few.0 p.entered, few.1)

-- how much is still to be passed, at most
abbrev pub ahead : List Operation → Cursor → ℕ → ℕ
ahead ops c n = (length (levels (drop c.at ops)) - n) * 8192 + (4096 - c.at)

pub found_at : (ops : List Operation) (at : ℕ) (op : Operation) → slice_get ops at ≡ Some op → (at < length ops) × (get_or ops at op ≡ op)
found_at ops at op e = elim (slice_get_cases ops at).1 [
  | inl q ↦
      let same : Some q.0 ≡ Some op = sym q.2 ∙ e in
      let here : q.0 ≡ op = cc in
      (q.1, ap (λ (x : Operation). get_or ops at x) (sym here) ∙ q.3 ∙ here)
  | inr q ↦ let no : None ≡ Some op = sym q.1 ∙ e in absurd cc
]

has_turns : (ops : List Operation) (at count : ℕ) → AllByRecursion HasTurns ops → slice_get ops at ≡ Some (operation.Repeat count) → 1 ≤ count
has_turns ops at count h e =
    let f = found_at ops at (operation.Repeat count) e in
    subst HasTurns f.1 (all_at HasTurns ops at (operation.Repeat count) h f.0)

levels_of_repeat : (ops : List Operation) (at count : ℕ) → IsNested ops → drop at ops ≡ operation.Repeat count ∷ drop (at + 1) ops → 2 ≤ length (levels (drop (at + 1) ops))
levels_of_repeat ops at count nested e =
    let n = nested_behind 0 ops at (omega arith) nested.nested in
    let o = open_behind n.0 (operation.Repeat count) (drop (at + 1) ops) (subst (λ (x : List Operation). depth_behind n.0 x ≡ Some 0) e n.2) in
    let r = open_repeat n.0 o.0 count o.1 in
    omega (arith, r.1, length_levels o.0 (drop (at + 1) ops) o.2)

-- into a repeat with so many turns more to come
abbrev entering : Cursor → ℕ → Cursor
entering c left = record { at = c.at + 1; first = record { body = c.at + 1; left = left }; second = c.first; third = c.second; fourth = c.third }

pub passes_into : (ops : List Operation) (old c : Cursor) (count n : ℕ) → IsNested ops → Passes ops old c n → slice_get ops c.at ≡ Some (operation.Repeat count) → Passes ops old (into_repeat c count) (n + 1) × (ahead ops (into_repeat c count) (n + 1) < ahead ops c n)
passes_into ops old c (suc left) n nested p found =
    let e = drop_some ops c.at (operation.Repeat (suc left)) found in
    let ls = levels (drop (c.at + 1) ops) in
    let whole : levels (drop c.at ops) ≡ repeated (suc left) ls = ap levels e in
    let t : Turn = record { body = c.at + 1; left = left } in
    let few = levels_few ops (c.at + 1) nested.nested in
    let step : Enters ops c.first c.second c.third c.fourth t n (suc left) ls = enters ops c.first c.second c.third c.fourth t n left ls refl refl (levels_of_repeat ops c.at (suc left) nested e) few.1 (subst (AreTurns ops (open_turns c)) whole p.placed) (subst (Entered ops n [] (open_turns c)) whole p.entered) in
    let one : suc left - 1 ≡ left = omega arith in
    let new : into_repeat c (suc left) ≡ entering c left = ap (entering c) one in
    let size : length (levels (drop c.at ops)) ≡ length (repeated (suc left) ls) = ap length whole in
    let inside = found_at ops c.at (operation.Repeat (suc left)) found in
    let below = entered_below ops n [] (open_turns c) (levels (drop c.at ops)) (levels_few ops c.at nested.nested).0 p.entered in
    rw new (
      record {
        same = p.same ∙ ap (joined ops (open_turns c)) whole ∙ step.same;
        placed = step.turns;
        entered = step.entered;
      },
      omega (arith, step.fewer, size, inside.0, nested.short, below),
    )
passes_into ops old c count n nested p found = absurd (omega (arith, has_turns ops c.at 0 nested.counts found))

pub passes_again : (ops : List Operation) (old c : Cursor) (n : ℕ) → IsNested ops → Passes ops old c n → slice_get ops c.at ≡ Some operation.Again → Passes ops old (at_again c n) (entered_then c n) × (ahead ops (at_again c n) (entered_then c n) < ahead ops c n)
passes_again ops old c n nested p found = go n p
  where
    e : drop c.at ops ≡ operation.Again ∷ drop (c.at + 1) ops
    e = drop_some ops c.at operation.Again found

    whole : levels (drop c.at ops) ≡ [] ∷ levels (drop (c.at + 1) ops)
    whole = ap levels e

    some : 1 ≤ length (levels (drop (c.at + 1) ops))
    some = (levels_few ops (c.at + 1) nested.nested).0

    few : length (levels (drop (c.at + 1) ops)) ≤ 4
    few = omega (arith, ap length whole, (levels_few ops c.at nested.nested).1)

    inside : c.at < length ops
    inside = (found_at ops c.at operation.Again found).0

    out : (k m : ℕ) → Passes ops old c m → k ≤ m → still_to_come ops c.first ≡ [] → Entered ops k [] (c.second ∷ c.third ∷ c.fourth ∷ []) (levels (drop (c.at + 1) ops)) → m ≤ k + 1 → Passes ops old (out_of_repeat c) k × (ahead ops (out_of_repeat c) k < ahead ops c m)
    out k m q low none entered high =
        let step : Leaves ops c.first c.second c.third c.fourth c.fourth k (levels (drop (c.at + 1) ops)) = leaves ops c.first c.second c.third c.fourth c.fourth k (levels (drop (c.at + 1) ops)) none some few (subst (AreTurns ops (open_turns c)) whole q.placed) entered in
        let size : length (levels (drop c.at ops)) ≡ length ([] ∷ levels (drop (c.at + 1) ops)) = ap length whole in (
          record {
            same = q.same ∙ ap (joined ops (open_turns c)) whole ∙ step.same;
            placed = step.turns;
            entered = step.entered;
          },
          omega (arith, size, inside, nested.short, entered_below ops k [] (c.second ∷ c.third ∷ c.fourth ∷ []) (levels (drop (c.at + 1) ops)) some entered),
        )

    back : Passes ops old c 0 → (c.first.left == 0) ≡ false → Passes ops old (to_next_turn c) 1 × (ahead ops (to_next_turn c) 1 < ahead ops c 0)
    back q f =
        let more : c.first.left ≡ suc (c.first.left - 1) = omega (arith, eqb-false c.first.left 0 f) in
        let t : Turn = record { body = c.first.body; left = c.first.left - 1 } in
        let step : Returns ops c.first c.second c.third c.fourth t (levels (drop (c.at + 1) ops)) = returns_to ops c.first c.second c.third c.fourth t (levels (drop (c.at + 1) ops)) (levels (drop c.first.body ops)) refl more refl (levels_few ops c.first.body nested.nested).0 some (subst (AreTurns ops (open_turns c)) whole q.placed) in
        let size : length (levels (drop c.at ops)) ≡ length ([] ∷ levels (drop (c.at + 1) ops)) = ap length whole in (
          record {
            same = q.same ∙ ap (joined ops (open_turns c)) whole ∙ step.same;
            placed = step.turns;
            entered = step.entered;
          },
          omega (arith, size, inside, nested.short, step.longer, some),
        )

    go : (m : ℕ) → Passes ops old c m → Passes ops old (at_again c m) (entered_then c m) × (ahead ops (at_again c m) (entered_then c m) < ahead ops c m)
    go (suc m) q =
        let n = nothing_in ops c.first c.second c.third c.fourth m (levels (drop (c.at + 1) ops)) some (subst (Entered ops (suc m) [] (open_turns c)) whole q.entered) in
        out m (suc m) q (omega arith) n.0 n.1 (omega arith)
    go m q = elim (cases_Bool (c.first.left == 0)) [
      | inl t ↦ rw t (out 0 0 q (omega arith) (ap (λ (i : ℕ). repeat i (flat (drop c.first.body ops))) (eqb-true c.first.left 0 t)) tt (omega arith))
      | inr f ↦ rw f (back q f)
    ]

-- An operation that is neither, and the end.
pub plain_front : (op : Operation) (ls : List (List Operation)) → is_marker op ≡ false → levels_before op ls ≡ in_front op ls
plain_front (operation.Repeat count) ls h = absurd cc
plain_front operation.Again ls h = absurd cc
plain_front (operation.Send to low high zero) ls h = refl
plain_front (operation.Receive from zero) ls h = refl
plain_front (operation.Call to low high zero) ls h = refl
plain_front (operation.Reply low high zero) ls h = refl
plain_front (operation.Create program priority) ls h = refl
plain_front (operation.Destroy victim) ls h = refl
plain_front (operation.Work count) ls h = refl

joined_op : (ops : List Operation) (ts : List Turn) (op : Operation) (ls : List (List Operation)) → 1 ≤ length ls → joined ops ts (in_front op ls) ≡ op ∷ joined ops ts ls
joined_op ops ts op [] some = absurd (omega arith)
joined_op ops ts op (l ∷ []) some = refl
joined_op ops [] op (l ∷ m ∷ ls) some = refl
joined_op ops (t ∷ ts) op (l ∷ m ∷ ls) some = refl

turns_op : (ops : List Operation) (ts : List Turn) (op : Operation) (ls : List (List Operation)) → 1 ≤ length ls → AreTurns ops ts (in_front op ls) → AreTurns ops ts ls
turns_op ops ts op [] some h = absurd (omega arith)
turns_op ops ts op (l ∷ ls) some h = turns_head ops ts (op ∷ l) l ls h

pub passes_one : (ops : List Operation) (old c : Cursor) (op : Operation) (n : ℕ) → IsNested ops → Passes ops old c n → slice_get ops c.at ≡ Some op → is_marker op ≡ false → (left_at ops old ≡ op ∷ left_at ops (record c { at = c.at + 1 })) × IsCursor ops (record c { at = c.at + 1 })
passes_one ops old c op n nested p found plain =
    let some = (levels_few ops (c.at + 1) nested.nested).0 in
    let whole : levels (drop c.at ops) ≡ in_front op (levels (drop (c.at + 1) ops)) = ap levels (drop_some ops c.at op found) ∙ plain_front op (levels (drop (c.at + 1) ops)) plain in (
      p.same ∙ ap (joined ops (open_turns c)) whole ∙ joined_op ops (open_turns c) op (levels (drop (c.at + 1) ops)) some,
      turns_op ops (open_turns c) op (levels (drop (c.at + 1) ops)) some (subst (AreTurns ops (open_turns c)) whole p.placed),
    )

pub passes_end : (ops : List Operation) (old c : Cursor) (n : ℕ) → Passes ops old c n → slice_get ops c.at ≡ None → (left_at ops old ≡ []) × (left_at ops c ≡ [])
passes_end ops old c n p none =
    let whole : levels (drop c.at ops) ≡ [] ∷ [] = ap levels (drop_none ops c.at none) in
    let over : left_at ops c ≡ [] = ap (joined ops (open_turns c)) whole in
    (p.same ∙ over, over)

-- THE START of a program

one_level : (ops : List Operation) (ts : List Turn) (ls : List (List Operation)) → length ls ≡ 1 → (joined ops ts ls ≡ first_level ls) × AreTurns ops ts ls
one_level ops ts [] h = absurd (omega arith)
one_level ops ts (l ∷ []) h = (refl, tt)
one_level ops ts (l ∷ m ∷ ls) h = absurd (omega arith)

pub at_start : (ops : List Operation) (c : Cursor) → c.at ≡ 0 → IsNested ops → (left_at ops c ≡ flat ops) × IsCursor ops c
at_start ops c start nested =
    let one : length (levels ops) ≡ 1 = length_levels 0 ops nested.nested in
    let whole : levels (drop c.at ops) ≡ levels ops = ap (λ (i : ℕ). levels (drop i ops)) start in
    let o = one_level ops (open_turns c) (levels ops) one in
    (ap (joined ops (open_turns c)) whole ∙ o.0, subst (AreTurns ops (open_turns c)) (sym whole) o.1)

pub plain_op : (op : Operation) → ((count : ℕ) → op ≡ operation.Repeat count → ⊥) → (op ≡ operation.Again → ⊥) → is_marker op ≡ false
plain_op (operation.Repeat count) f g = absurd (f count refl)
plain_op operation.Again f g = absurd (g refl)
plain_op (operation.Send to low high zero) f g = refl
plain_op (operation.Receive from zero) f g = refl
plain_op (operation.Call to low high zero) f g = refl
plain_op (operation.Reply low high zero) f g = refl
plain_op (operation.Create program priority) f g = refl
plain_op (operation.Destroy victim) f g = refl
plain_op (operation.Work count) f g = refl
