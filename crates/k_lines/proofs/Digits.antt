-- Numbers and their digits.
use Rattle.std.proofs.Common.{◌≡◌, ℕ, zero, suc, ◌+◌, ◌-◌, ◌*◌, ◌<◌, ◌≤◌, ◌^◌, Bool, true, false, not, eqb, leb, ◌&&◌, List, [], ◌∷◌, length, get_or, refl, sym, ap, ◌∙◌, arith, rules, Some, None, decimal, inl, inr}
use Rattle.std.specs.Prelude.{min}
use Rattle.std.specs.Str.{all_ascii_digits}
use Rattle.std.proofs.lemmas.Bool.{cases_Bool, leb-true, le-leb, and_parts, false≢true, ne_eqb, cases_lt}
use Rattle.std.proofs.lemmas.Str.Parse.{IsNumeralModel, numerals_by_fold}
use Rattle.std.proofs.lemmas.Fmt.{decimal-digits_value, digits_decimal, digits_value-decimal, decimal_nonempty, decimal_digit, first_decimal}
use Rattle.k_lines.specs.declared.numeral.Numeral.{Numeral}
use Rattle.k_lines.specs.Numbers.{read_on, leads_zero, numeral_of, in_range, IsNumber}

own : IsNumeralModel (λ ds. all_ascii_digits ds ≡ true) (read_on 0)
own = numerals_by_fold _ (search rules) read_on (search rules)

pub read_on_ge : (n : ℕ) (cs : List ℕ) → n ≤ read_on n cs
read_on_ge n [] = omega arith
read_on_ge n (c ∷ cs) = omega (arith, read_on_ge (10 * n + (c - 48)) cs)

-- What is too great stays too great.
pub capped : (n m : ℕ) (cs : List ℕ) → min (read_on (min n m) cs) m ≡ min (read_on n cs) m
capped n m cs = elim (cases_lt n m) [
  | inl l ↦ let same : min n m ≡ n = omega arith in rw same refl
  | inr g ↦ let same : min n m ≡ m = omega arith in rw same (omega (arith, read_on_ge m cs, read_on_ge n cs))
]

pub capped_end : (n m : ℕ) → n ≤ m → min n m ≡ n
capped_end n m h = omega arith

formed : (w : List ℕ) → 0 < length w → leads_zero w ≡ false → get_or w 0 0 ≡ 48 → length w ≡ 1
formed [] l h e = absurd (omega arith)
formed (c ∷ []) l h e = refl
formed (c ∷ d ∷ cs) l h e = let no : eqb c 48 ≡ true = rw e refl in absurd (false≢true (sym h ∙ no))

-- how a word was read as a numeral
numeral_parts : (w : List ℕ) (n : Numeral) → numeral_of w ≡ Some n → (all_ascii_digits w ≡ true) × (0 < length w) × (leads_zero w ≡ n.led) × (min (read_on 0 w) 4294967296 ≡ n.value)
unfolding numeral_of
numeral_parts [] n h = absurd cc
numeral_parts (c ∷ cs) n h = elim (cases_Bool (all_ascii_digits (c ∷ cs))) [
  | inl t ↦
      let got : Some (record { led = leads_zero (c ∷ cs); value = min (read_on 0 (c ∷ cs)) 4294967296 }) ≡ Some n = sym (rw t refl) ∙ h in
      let same : record { led = leads_zero (c ∷ cs); value = min (read_on 0 (c ∷ cs)) 4294967296 } ≡ n = cc in
      (t, omega arith, ap (λ (x : Numeral). x.led) same, ap (λ (x : Numeral). x.value) same)
  | inr f ↦ let no : None ≡ Some n = sym (rw f refl) ∙ h in absurd cc
]

pub numeral-read : (w : List ℕ) (n : Numeral) → numeral_of w ≡ Some n → IsNumber n → w ≡ decimal n.value
numeral-read w n h i =
    let p = numeral_parts w n h in
    let small = i.small in
    let e = p.3 in
    let same : read_on 0 w ≡ n.value = omega (arith, e, small) in
    sym (decimal-digits_value own w p.0 p.1 (formed w p.1 (p.2 ∙ i.plain)) (omega (arith, same, small))) ∙ ap decimal same

unled : (w : List ℕ) → (get_or w 0 0 ≡ 48 → length w ≡ 1) → leads_zero w ≡ false
unled [] h = refl
unled (c ∷ []) h = refl
unled (c ∷ d ∷ cs) h = ne_eqb c 48 (λ e. let no = h e in omega arith)

zero_alone : (n : ℕ) → n < 2 ^ 64 → get_or (decimal n) 0 0 ≡ 48 → length (decimal n) ≡ 1
zero_alone zero h e = ap length (decimal_digit 0 (omega arith))
zero_alone (suc n) h e = absurd (omega (arith, first_decimal (suc n) (omega arith) h))

numeral_is : (w : List ℕ) (n : Numeral) → 0 < length w → all_ascii_digits w ≡ true → leads_zero w ≡ n.led → min (read_on 0 w) 4294967296 ≡ n.value → numeral_of w ≡ Some n
unfolding numeral_of
numeral_is [] n l d z v = absurd (omega arith)
numeral_is (c ∷ cs) n l d z v = rw d (rw (z, v) refl)

pub numeral-spelled : (n : Numeral) → IsNumber n → numeral_of (decimal n.value) ≡ Some n
numeral-spelled n i =
    let small = i.small in
    let fits : n.value < 2 ^ 64 = omega (arith, small) in
    let value : read_on 0 (decimal n.value) ≡ n.value = digits_value-decimal own n.value fits in
    numeral_is (decimal n.value) n (decimal_nonempty n.value fits) (digits_decimal own n.value fits) (unled (decimal n.value) (zero_alone n.value fits) ∙ sym i.plain) (omega (arith, value, small))

pub in_range-read : (least most v : ℕ) (n : Numeral) → most ≤ 4294967295 → in_range least most n ≡ Some v → IsNumber n × (n.value ≡ v) × (least ≤ v) × (v ≤ most)
in_range-read least most v n small h = elim (cases_Bool (not n.led && leb least n.value && leb n.value most)) [
  | inr f ↦ let no : None ≡ Some v = sym (rw f refl) ∙ h in absurd cc
  | inl t ↦
      let got : Some n.value ≡ Some v = sym (rw t refl) ∙ h in
      let same : n.value ≡ v = cc in
      let p = and_parts _ _ t in
      let q = and_parts _ _ p.0 in
      let high : n.value ≤ most = leb-true _ _ p.1 in
      let low : least ≤ n.value = leb-true _ _ q.1 in
      (record { plain = unset n.led q.0; small = omega arith }, same, omega arith, omega arith)
]
  where
    unset : (b : Bool) → not b ≡ true → b ≡ false
    unset false e = refl
    unset true e = absurd (false≢true e)

pub in_range-spelled : (least most v : ℕ) → least ≤ v → v ≤ most → in_range least most (record { led = false; value = v }) ≡ Some v
in_range-spelled least most v l m = rw (le-leb least v l) (rw (le-leb v most m) refl)

pub number_digits : (n : Numeral) → IsNumber n → all_ascii_digits (decimal n.value) ≡ true
number_digits n i = let small = i.small in digits_decimal own n.value (omega (arith, small))
