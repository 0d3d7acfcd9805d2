-- The lines and items that a loop reads, one after the other. i is the index of the next, d any element.
use Rattle.std.proofs.Common.{◌≡◌, ◌≢◌, ℕ, ◌+◌, ◌<◌, ◌≤◌, ◌==◌, true, false, refl, sym, ap, ◌∙◌, arith, length, List, ◌∷◌, suc, get_or, drop}
use Rattle.std.proofs.Math.Seq.{drop-cons}
use Rattle.std.proofs.Math.ListN.{drop_of_length-le}
use Rattle.std.proofs.lemmas.Bool.Decides.{nat_tests}
use Rattle.k_script.specs.declared.lines.AtLine.{AtLine}
use Rattle.k_script.specs.declared.lines.Item.{Item}
use Rattle.k_schedule.specs.Carriers.{Carriers, happens}
use Rattle.k_schedule.specs.Schedule.{Moment, at_once, item_at, items_at, moment, park_at, parks, step_at, times}

pub next_of : {X : Type 0} (xs : List X) (i : ℕ) (d : X) → i < length xs → drop i xs ≡ get_or xs i d ∷ drop (i + 1) xs
next_of {X} xs i d l =
    let e : suc i ≡ i + 1 = omega arith in
    drop-cons xs i d l ∙ ap (λ (j : ℕ). get_or xs i d ∷ drop j xs) e

module _ {World : Type 0} (carriers : Carriers World) where
  -- LINES OF ONE STEP

  pub once_goes : (c s : ℕ) (w : World) (ls : List AtLine) (i : ℕ) (d : AtLine) → i < length ls → (get_or ls i d).step ≡ s →
      at_once carriers c s w (drop i ls)
      ≡ at_once carriers c s (happens carriers w c (get_or ls i d).what) (drop (i + 1) ls)
  once_goes c s w ls i d l e =
      let t : ((get_or ls i d).step == s) ≡ true = grind (arith, nat_tests) in
      ap (at_once carriers c s w) (next_of ls i d l) ∙ rw t refl

  pub once_stops : (c s : ℕ) (w : World) (ls : List AtLine) (i : ℕ) (d : AtLine) → i < length ls → (get_or ls i d).step ≢ s →
      at_once carriers c s w (drop i ls) ≡ moment w (drop i ls)
  once_stops c s w ls i d l e =
      let t : ((get_or ls i d).step == s) ≡ false = grind (arith, nat_tests) in
      ap (at_once carriers c s w) (next_of ls i d l) ∙ rw t (ap (moment w) (sym (next_of ls i d l)))

  pub once_ends : (c s : ℕ) (w : World) (ls : List AtLine) (i : ℕ) → length ls ≤ i →
      at_once carriers c s w (drop i ls) ≡ moment w (drop i ls)
  once_ends c s w ls i l =
      let e = drop_of_length-le ls l in
      ap (at_once carriers c s w) e ∙ ap (moment w) (sym e)

  -- TURNS

  pub times_more : (c i : ℕ) (m : Moment World) → times carriers c (i + 1) m ≡ step_at carriers c (times carriers c i m)
  times_more c i m = let e : i + 1 ≡ suc i = omega arith in ap (λ (j : ℕ). times carriers c j m) e

  pub parks_more : (i : ℕ) (m : Moment World) → parks carriers (i + 1) m ≡ park_at carriers i (parks carriers i m)
  parks_more i m = let e : i + 1 ≡ suc i = omega arith in ap (λ (j : ℕ). parks carriers j m) e

  pub items_go : (is : List Item) (i : ℕ) (d : Item) (m : Moment World) → i < length is →
      items_at carriers (drop i is) m ≡ items_at carriers (drop (i + 1) is) (item_at carriers (get_or is i d) m)
  items_go is i d m l = ap (λ (xs : List Item). items_at carriers xs m) (next_of is i d l)

  pub items_end : (is : List Item) (i : ℕ) (m : Moment World) → length is ≤ i → items_at carriers (drop i is) m ≡ m
  items_end is i m l = ap (λ (xs : List Item). items_at carriers xs m) (drop_of_length-le is l)
