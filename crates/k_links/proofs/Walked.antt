-- The entries that are met along the links are the list.
use Rattle.std.proofs.Common.{◌≡◌, ℕ, true, List, [], ◌∷◌, Option, Some, length, arith, refl, ap, subst}
use Rattle.std.proofs.lemmas.Grind.{common_steps}
use Rattle.k_links.specs.declared.rows.Row.{Row}
use Rattle.k_links.specs.Listed.{IsOnceEach, Linked, entry_of, first_number, number_after, stands}
use Rattle.k_links.specs.Links.{IsLinked, row_at, walked}

module _ {E : Type 0} (number : E → ℕ) where
  -- each entry of a list leads on to the one after it
  LeadsOn : List (Row E) → List E → Type 0
  LeadsOn rows [] = Unit {0}
  LeadsOn rows (e ∷ es) = ((row_at rows (number e)).entry ≡ Some e) × ((row_at rows (number e)).next ≡ first_number number es) × LeadsOn rows es

  walked_along : (rows : List (Row E)) (es : List E) → LeadsOn rows es → walked rows (length es) (first_number number es) ≡ es
  unfolding walked LeadsOn
  walked_along rows [] l = refl
  walked_along rows (e ∷ es) l = rw (l.0, l.1, walked_along rows es l.2) refl

  leads_on : (rows : List (Row E)) (es : List E) → IsOnceEach number es → ((n : ℕ) → stands number n es ≡ true → ((row_at rows n).entry ≡ entry_of number n es) × ((row_at rows n).next ≡ number_after number n es)) → LeadsOn rows es
  unfolding LeadsOn
  leads_on rows [] o h = tt
  leads_on rows (e ∷ es) o h = (grind (arith, common_steps, h (number e)), grind (arith, common_steps, h (number e)), leads_on rows es o.1 (λ n s. (grind (arith, common_steps, h n, o.0), grind (arith, common_steps, h n, o.0))))

  pub walked_is : (rows : List (Row E)) (head tail : Option ℕ) (many : ℕ) (es : List E) → IsLinked number rows head tail many es → walked rows many head ≡ es
  walked_is rows head tail many es l =
      let e : walked rows (length es) (first_number number es) ≡ es = walked_along rows es (leads_on rows es l.once (λ n s. (ap (λ (r : Row E). r.entry) (l.shown n), ap (λ (r : Row E). r.next) (l.shown n)))) in
      rw (l.count, l.first) e

  -- what is seen of linked rows is linked
  pub seen : (rows : List (Row E)) (head tail : Option ℕ) (many : ℕ) (q : Linked E) → record { entries = walked rows many head; room = length rows } ≡ q → IsLinked number rows head tail many (walked rows many head) → IsLinked number rows head tail many q.entries
  seen rows head tail many q e l = subst (λ (p : Linked E). IsLinked number rows head tail many p.entries) e l

  -- what is linked is what is met
  pub linked_walk : (rows : List (Row E)) (head tail : Option ℕ) (many : ℕ) (es : List E) → IsLinked number rows head tail many es → IsLinked number rows head tail many (walked rows many head)
  linked_walk rows head tail many es l = rw (walked_is rows head tail many es l) l
