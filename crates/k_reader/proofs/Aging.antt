-- The versions that `aged` lines give.
use Rattle.std.proofs.Common.{◌≡◌, ℕ, zero, suc, true, false, eqb, List, [], ◌∷◌, ◌++◌, length, replicate, refl, ap, ◌∙◌, arith}
use Rattle.std.specs.Prelude.{slice_set, slice_index}
use Rattle.std.specs.List.{AllByRecursion, IsDistinct, list_all}
use Rattle.std.proofs.lemmas.Bool.{eqb-false, eqb-true, ne_eqb, and_parts}
use Rattle.std.proofs.lemmas.List.{get_or-set_same, get_or-set_other, length-set}
use Rattle.std.proofs.lemmas.Map.Keys.{IsDistinct-head, IsDistinct-tail}
use Rattle.k_reader.specs.Draft.{is_zero}
use Rattle.k_reader.specs.Grammar.{Age, aged_by, numbers_of, IsAge}

pub aged-push : (ages : List Age) (a : Age) (versions : List ℕ) → aged_by (ages ++ a ∷ []) versions ≡ slice_set (aged_by ages versions) a.number a.version
aged-push [] a versions = refl
aged-push (b ∷ ages) a versions = aged-push ages a (slice_set versions b.number b.version)

-- A number without a line keeps its version.
pub untouched : (ages : List Age) (versions : List ℕ) (n : ℕ) → AllByRecursion (λ m. eqb n m ≡ false) (numbers_of ages) → slice_index (aged_by ages versions) n ≡ slice_index versions n
untouched [] versions n h = refl
untouched (a ∷ ages) versions n h =
    untouched ages (slice_set versions a.number a.version) n h.1 ∙ get_or-set_other versions a.number n a.version 0 (eqb-false n a.number h.0)

-- A number whose version is 0 has no line.
pub unaged : (ages : List Age) (versions : List ℕ) (n : ℕ) → AllByRecursion (IsAge (length versions)) ages → IsDistinct (λ a b. eqb a b) (numbers_of ages) → slice_index (aged_by ages versions) n ≡ 0 → AllByRecursion (λ m. eqb m n ≡ false) (numbers_of ages)
unaged [] versions n h d z = tt
unaged (a ∷ ages) versions n h d z =
    (ne_eqb a.number n (λ e. clash e), unaged ages (slice_set versions a.number a.version) n (more ages h.1) (IsDistinct-tail (λ a b. eqb a b) a.number (numbers_of ages) d) z)
  where
    more : (bs : List Age) → AllByRecursion (IsAge (length versions)) bs → AllByRecursion (IsAge (length (slice_set versions a.number a.version))) bs
    more [] k = tt
    more (b ∷ bs) k = let inside = k.0.number in (record { number = omega (arith, inside, length-set versions a.number a.version); version = k.0.version }, more bs k.1)

    clash : a.number ≡ n → ⊥
    clash e =
        let kept : slice_index (aged_by ages (slice_set versions a.number a.version)) a.number ≡ slice_index (slice_set versions a.number a.version) a.number = untouched ages (slice_set versions a.number a.version) a.number (IsDistinct-head (λ a b. eqb a b) a.number (numbers_of ages) d) in
        let given : slice_index (slice_set versions a.number a.version) a.number ≡ a.version = get_or-set_same versions a.number a.version 0 h.0.number in
        let low = h.0.version.0 in
        let zeroed : slice_index (aged_by ages (slice_set versions a.number a.version)) a.number ≡ 0 = ap (λ (m : ℕ). slice_index (aged_by ages (slice_set versions a.number a.version)) m) e ∙ z in
        omega (arith, kept, given, low, zeroed)

zero_at : (versions : List ℕ) (n : ℕ) → list_all is_zero versions ≡ true → slice_index versions n ≡ 0
zero_at [] n h = refl
zero_at (v ∷ versions) zero h = eqb-true v 0 (and_parts (is_zero v) (list_all is_zero versions) h).0
zero_at (v ∷ versions) (suc n) h = zero_at versions n (and_parts (is_zero v) (list_all is_zero versions) h).1

-- Where all versions are 0 there are no lines.
pub no_ages : (ages : List Age) (versions : List ℕ) → AllByRecursion (IsAge (length versions)) ages → IsDistinct (λ a b. eqb a b) (numbers_of ages) → list_all is_zero (aged_by ages versions) ≡ true → ages ≡ []
no_ages [] versions h d z = refl
no_ages (a ∷ ages) versions h d z =
    let none = unaged (a ∷ ages) versions a.number h d (zero_at (aged_by (a ∷ ages) versions) a.number z) in
    absurd (eqb-false a.number a.number none.0 refl)

pub zeros_zero : (n : ℕ) → list_all is_zero (replicate n 0) ≡ true
zeros_zero zero = refl
zeros_zero (suc n) = zeros_zero n
