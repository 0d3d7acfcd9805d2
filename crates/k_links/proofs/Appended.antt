-- What a list says of each number after one more entry.
use Rattle.std.proofs.Common.{◌≡◌, ℕ, Bool, true, false, List, [], ◌∷◌, ◌++◌, Option, Some, None, arith, refl, sym, ◌∙◌, ap, cond}
use Rattle.std.specs.Prelude.{◌||◌, ◌==◌, if◌then◌else◌}
use Rattle.std.proofs.lemmas.Grind.{common_steps}
use Rattle.k_links.specs.Listed.{IsOnceEach, entry_of, first_number, number_after, number_before, stands}
use Rattle.k_links.specs.Links.{end_of, last_after, last_number, leads_to}

-- two tests that don't hold together change places
pub exchanged : {A : Type 0} (b l : Bool) (x y z : A) → (l ≡ true → b ≡ false) → cond b x (cond l y z) ≡ cond l y (cond b x z)
exchanged true true x y z h = absurd (let e = h refl in cc)
exchanged true false x y z h = refl
exchanged false true x y z h = refl
exchanged false false x y z h = refl

module _ {E : Type 0} (number : E → ℕ) where
  pub stands_append : (n : ℕ) (es : List E) (e : E) → stands number n (es ++ e ∷ []) ≡ (stands number n es || (number e == n))
  stands_append n [] e = grind arith
  stands_append n (f ∷ es) e = let h = stands_append n es e in grind (arith, common_steps)

  pub entry_append : (n : ℕ) (es : List E) (e : E) → stands number (number e) es ≡ false → entry_of number n (es ++ e ∷ []) ≡ (if number e == n then Some e else entry_of number n es)
  entry_append n [] e s = grind arith
  entry_append n (f ∷ es) e s = grind (arith, common_steps, entry_append n es e)

  pub before_append : (prior : Option ℕ) (n : ℕ) (es : List E) (e : E) → stands number (number e) es ≡ false → number_before number prior n (es ++ e ∷ []) ≡ (if number e == n then last_after number prior es else number_before number prior n es)
  before_append prior n [] e s = grind arith
  before_append prior n (f ∷ es) e s = grind (arith, common_steps, before_append (Some (number f)) n es e)

  pub last_append : (prior : Option ℕ) (es : List E) (e : E) → last_after number prior (es ++ e ∷ []) ≡ Some (number e)
  last_append prior [] e = refl
  last_append prior (f ∷ es) e = last_append (Some (number f)) es e

  -- the last entry stands in the list, or is the one before it
  pub last_stands : (m : ℕ) (n : ℕ) (es : List E) → leads_to (last_after number (Some m) es) n ≡ true → stands number n es ≡ false → m ≡ n
  last_stands m n [] l s = grind arith
  last_stands m n (f ∷ es) l s = grind (arith, common_steps, last_stands (number f) n es)

  last_apart : (n : ℕ) (f g : E) (es : List E) → IsOnceEach number (f ∷ (g ∷ es)) → leads_to (last_after number (Some (number g)) es) n ≡ true → (number f == n) ≡ false
  last_apart n f g es o l = grind (arith, common_steps, last_stands (number g) n es)

  pub after_append : (n : ℕ) (es : List E) (e : E) → IsOnceEach number es → number_after number n (es ++ e ∷ []) ≡ (if leads_to (last_number number es) n then Some (number e) else number_after number n es)
  after_append n [] e o = grind arith
  after_append n (f ∷ []) e o = grind arith
  after_append n (f ∷ (g ∷ es)) e o =
      ap (cond (number f == n) (Some (number g))) (after_append n (g ∷ es) e o.1)
      ∙ exchanged (number f == n) (leads_to (last_after number (Some (number g)) es) n) _ _ _ (last_apart n f g es o)

  last_some : (m : ℕ) (es : List E) (a b : Option ℕ) → end_of (last_after number (Some m) es) a b ≡ a
  last_some m [] a b = refl
  last_some m (f ∷ es) a b = last_some (number f) es a b

  pub first_append : (es : List E) (e : E) → first_number number (es ++ e ∷ []) ≡ end_of (last_number number es) (first_number number es) (Some (number e))
  first_append [] e = refl
  first_append (f ∷ es) e = sym (last_some (number f) es _ _)

  pub once_append : (es : List E) (e : E) → IsOnceEach number es → stands number (number e) es ≡ false → IsOnceEach number (es ++ e ∷ [])
  once_append [] e o s = (refl, tt)
  once_append (f ∷ es) e o s = (grind (arith, common_steps, stands_append (number f) es e), once_append es e o.1 (grind (arith, common_steps)))

  -- the entry of a number that stands, and of one that doesn't
  pub nothing_entry : (n : ℕ) (es : List E) → stands number n es ≡ false → entry_of number n es ≡ None
  nothing_entry n [] s = refl
  nothing_entry n (f ∷ es) s = grind (arith, common_steps, nothing_entry n es)

  pub nothing_after : (n : ℕ) (es : List E) → stands number n es ≡ false → number_after number n es ≡ None
  nothing_after n [] s = refl
  nothing_after n (f ∷ es) s = grind (arith, common_steps, nothing_after n es)

  pub nothing_before : (prior : Option ℕ) (n : ℕ) (es : List E) → stands number n es ≡ false → number_before number prior n es ≡ None
  nothing_before prior n [] s = refl
  nothing_before prior n (f ∷ es) s = grind (arith, common_steps, nothing_before (Some (number f)) n es)
