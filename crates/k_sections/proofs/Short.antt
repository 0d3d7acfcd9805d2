-- A queue in which no number stands twice, nor its own, has fewer entries than the table has numbers.
use Rattle.std.proofs.Common.{◌≡◌, ◌≢◌, ℕ, ◌<◌, true, false, refl, arith, eqb, List, [], ◌∷◌, length, inl, inr}
use Rattle.std.specs.List.{AllByRecursion, IsDistinct, list_any}
use Rattle.std.proofs.lemmas.Bool.{cases_Bool, eqb-true}
use Rattle.std.proofs.lemmas.Bool.Decides.{nat_tests}
use Rattle.std.proofs.lemmas.Map.Keys.{IsDistinct-cons}
use Rattle.std.proofs.lemmas.Map.Steps.{length-le_from_distinct_below}
use Rattle.k_senders.specs.declared.entries.SenderEntry.{SenderEntry}
use Rattle.k_senders.specs.Entries.{number_of}
use Rattle.k_senders.specs.Queue.{IsOnceEach, stands}
use Rattle.k_bound.proofs.Founds.{or_true}

numbers : List SenderEntry → List ℕ
numbers [] = []
numbers (e ∷ es) = number_of e ∷ numbers es

same_length : (es : List SenderEntry) → length (numbers es) ≡ length es
unfolding numbers
same_length [] = refl
same_length (e ∷ es) = let l = same_length es in omega (arith, l)

none_stands : (n : ℕ) (es : List SenderEntry) → stands n es ≡ false → AllByRecursion (λ y. eqb n y ≡ false) (numbers es)
unfolding numbers
none_stands n [] e = tt
none_stands n (x ∷ es) e =
    let here : eqb n (number_of x) ≡ false = grind (arith, nat_tests, e) in
    let later : stands n es ≡ false = grind (arith, nat_tests, e) in (here, none_stands n es later)

apart : (es : List SenderEntry) → IsOnceEach es → IsDistinct eqb (numbers es)
unfolding numbers IsDistinct
apart [] once = tt
apart (e ∷ es) once = IsDistinct-cons eqb (number_of e) (numbers es) (none_stands (number_of e) es once.0) (apart es once.1)

stands_there : (q : ℕ) (es : List SenderEntry) → list_any (eqb q) (numbers es) ≡ true → stands q es ≡ true
unfolding numbers
stands_there q [] e = e
stands_there q (x ∷ es) e = elim (or_true (eqb q (number_of x)) (list_any (eqb q) (numbers es)) e) [
  | inl i ↦ grind (arith, nat_tests, i)
  | inr i ↦ let s = stands_there q es i in grind (arith, nat_tests, s)
]

pub short_queue : (size t : ℕ) (es : List SenderEntry) → t < size → IsOnceEach es →
    ((n : ℕ) → stands n es ≡ true → (n < size) × (n ≢ t)) → length es < size
short_queue size t es inside once entered =
    let l = length-le_from_distinct_below (t ∷ numbers es) size
    (IsDistinct-cons eqb t (numbers es) (none_stands t es outward) (apart es once)) below in
    let m = same_length es in
    omega (arith, l, m)
  where
    outward : stands t es ≡ false
    outward = elim (cases_Bool (stands t es)) [ inl e ↦ absurd ((entered t e).1 refl) | inr e ↦ e ]

    below : (q : ℕ) → list_any (eqb q) (t ∷ numbers es) ≡ true → q < size
    below q e = elim (or_true (eqb q t) (list_any (eqb q) (numbers es)) e) [
      | inl i ↦ let same = eqb-true q t i in omega (arith, same, inside)
      | inr i ↦ (entered q (stands_there q es i)).0
    ]
