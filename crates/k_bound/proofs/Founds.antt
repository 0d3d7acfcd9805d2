-- Owners found, and the links and steps of one of them.
use Rattle.std.proofs.Common.{◌≡◌, ◌≢◌, ℕ, ◌+◌, Bool, true, false, cond, refl, sym, ap, ◌∙◌, List, [], ◌∷◌, Option, Some, None, arith, ◌⊎◌, inl, inr}
use Rattle.std.specs.Prelude.{◌==◌, ◌&&◌, ◌||◌}
use Rattle.std.proofs.lemmas.Bool.Decides.{nat_tests}
use Rattle.k_locks.specs.Asks.{Want, Table, Context, Thread, Ready}
use Rattle.k_bound.specs.Sections.{same_want}
use Rattle.k_bound.specs.Waits.{Link, OwnerFound, is_for, is_linked, allowed_for, same_found, steps_for}
use Rattle.k_bound.specs.Chains.{IsIn}

same_want-true : (v w : Want) → same_want v w ≡ true → v ≡ w
same_want-true Table Table h = refl
same_want-true (Context m) (Context n) h = let e : m ≡ n = grind (arith, nat_tests) in ap Context e
same_want-true (Thread m) (Thread n) h = let e : m ≡ n = grind (arith, nat_tests) in ap Thread e
same_want-true Ready Ready h = refl
same_want-true v w h = cc

pub same_want-refl : (v : Want) → same_want v v ≡ true
same_want-refl Table = refl
same_want-refl (Context n) = grind (arith, nat_tests)
same_want-refl (Thread n) = grind (arith, nat_tests)
same_want-refl Ready = refl

pub and_true : (a b : Bool) → (a && b) ≡ true → (a ≡ true) × (b ≡ true)
and_true true b h = (refl, grind (arith, nat_tests, h))
and_true false b h = grind (arith, nat_tests, h)

pub or_true : (a b : Bool) → (a || b) ≡ true → (a ≡ true) ⊎ (b ≡ true)
or_true true b h = inl refl
or_true false b h = inr (grind (arith, nat_tests, h))

-- by cases on a test
pub test : (P : Type 0) (v : Bool) → (v ≡ true → P) → (v ≡ false → P) → P
test P true a b = a refl
test P false a b = b refl

pub some_is : {A : Type 0} (x y : A) → Some x ≡ Some y → x ≡ y
some_is x y h = grind arith

pub is_for-true : (x : Option ℕ) (j : ℕ) → is_for x j ≡ true → x ≡ Some j
is_for-true None j h = cc
is_for-true (Some i) j h = let e : i ≡ j = grind (arith, nat_tests) in ap Some e

pub is_for-false : (x : Option ℕ) (j : ℕ) → is_for x j ≡ false → x ≢ Some j
is_for-false x j h = λ e. grind (arith, nat_tests)

pub is_for-refl : (x : Option ℕ) (j : ℕ) → x ≡ Some j → is_for x j ≡ true
is_for-refl x j h = grind (arith, nat_tests)

-- THE SAME ONE

pub same_found-true : (f g : OwnerFound) → same_found f g ≡ true → (f.owner ≡ g.owner) × (f.want ≡ g.want)
same_found-true f g e =
    let b = and_true (f.owner == g.owner) (same_want f.want g.want) e in
    let n : f.owner ≡ g.owner = grind (arith, nat_tests, b.0) in
    (n, same_want-true f.want g.want b.1)

pub found_is : (f g : OwnerFound) → f.owner ≡ g.owner → f.want ≡ g.want → f ≡ g
found_is f g o w = λ d. record { owner = o d; want = w d }

pub same_is : (f g : OwnerFound) → same_found f g ≡ true → f ≡ g
same_is f g e = let t = same_found-true f g e in found_is f g t.0 t.1

pub same_found-refl : (f : OwnerFound) → same_found f f ≡ true
same_found-refl f = grind (arith, nat_tests, same_want-refl f.want)

-- LINKS

pub first_linked : (l : Link) (ls : List Link) → is_linked l.found (l ∷ ls) ≡ true
first_linked l ls = grind (arith, nat_tests, same_found-refl l.found)

pub later_linked : (f : OwnerFound) (l : Link) (ls : List Link) → is_linked f ls ≡ true → is_linked f (l ∷ ls) ≡ true
later_linked f l ls e = grind (arith, nat_tests, e)

pub linked_is : (f : OwnerFound) (l : Link) (ls : List Link) → l.found ≡ f → is_linked f (l ∷ ls) ≡ true
linked_is f l ls e = ap (λ g. is_linked g (l ∷ ls)) (sym e) ∙ first_linked l ls

pub allowed_first : (l : Link) (ls : List Link) (f : OwnerFound) → same_found f l.found ≡ true → allowed_for f (l ∷ ls) ≡ l.left
allowed_first l ls f e = ap (λ v. cond v l.left (allowed_for f ls)) e

pub allowed_later : (l : Link) (ls : List Link) (f : OwnerFound) → same_found f l.found ≡ false →
    allowed_for f (l ∷ ls) ≡ allowed_for f ls
allowed_later l ls f e = ap (λ v. cond v l.left (allowed_for f ls)) e

pub allowed_none : (f : OwnerFound) (ls : List Link) → is_linked f ls ≡ false → allowed_for f ls ≡ 0
allowed_none f [] e = refl
allowed_none f (l ∷ ls) e = let t = allowed_none f ls in grind (arith, nat_tests, t, e)

-- STEPS

pub steps_same : (f g : OwnerFound) (gs : List OwnerFound) → same_found f g ≡ true →
    steps_for f (g ∷ gs) ≡ 1 + steps_for f gs
steps_same f g gs e = ap (λ v. cond v 1 0 + steps_for f gs) e

pub steps_other : (f g : OwnerFound) (gs : List OwnerFound) → same_found f g ≡ false → steps_for f (g ∷ gs) ≡ steps_for f gs
steps_other f g gs e = let t = ap (λ v. cond v 1 0 + steps_for f gs) e in omega (arith, t)

-- IN A CHAIN

pub in_other : (f g : OwnerFound) (hs : List OwnerFound) → same_found f g ≡ false → IsIn f.owner f.want (g ∷ hs) →
    IsIn f.owner f.want hs
in_other f g hs e (inl i) =
    absurd (let t = ap (λ y. same_found y g) (found_is f g (sym i.0) (sym i.1)) ∙ same_found-refl g in let z = sym e ∙ t in cc)
in_other f g hs e (inr there) = there

-- z is neither the requester nor an owner in the chain
abbrev pub Avoids : ℕ → ℕ → List OwnerFound → Type 0
Avoids z r [] = z ≢ r
Avoids z r (h ∷ hs) = (z ≢ h.owner) × Avoids z r hs

pub not_in : (z r : ℕ) (hs : List OwnerFound) → Avoids z r hs → (w : Want) → IsIn z w hs → ⊥
not_in z r [] a w i = i
not_in z r (h ∷ hs) a w (inl e) = a.0 (sym e.0)
not_in z r (h ∷ hs) a w (inr i) = not_in z r hs a.1 w i

pub not_requester : (z r : ℕ) (hs : List OwnerFound) → Avoids z r hs → r ≢ z
not_requester z r [] a = λ e. a (sym e)
not_requester z r (h ∷ hs) a = not_requester z r hs a.1
