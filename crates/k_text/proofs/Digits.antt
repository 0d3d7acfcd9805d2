-- Numbers and their digits.
use Rattle.std.proofs.Common.{◌≡◌, ℕ, zero, suc, ◌+◌, ◌-◌, ◌*◌, ◌<◌, ◌≤◌, ◌^◌, true, false, not, eqb, leb, ◌&&◌, List, [], ◌∷◌, length, get_or, refl, sym, ap, ◌∙◌, arith, rules, Some, None, decimal, inl, inr}
use Rattle.std.specs.Str.{all_ascii_digits}
use Rattle.std.proofs.lemmas.Bool.{cases_Bool, leb-true, le-leb, and_parts, false≢true, ne_eqb}
use Rattle.std.proofs.lemmas.Str.Parse.{IsNumeralModel, numerals_by_fold}
use Rattle.std.proofs.lemmas.Fmt.{decimal-digits_value, digits_decimal, digits_value-decimal, decimal_nonempty, decimal_digit, first_decimal}
use Rattle.k_text.specs.Numbers.{read_on, has_form, digits_of, number_of}

own : IsNumeralModel (λ ds. all_ascii_digits ds ≡ true) (read_on 0)
own = numerals_by_fold _ (search rules) read_on (search rules)

pub read_on_ge : (n : ℕ) (cs : List ℕ) → n ≤ read_on n cs
read_on_ge n [] = omega arith
read_on_ge n (c ∷ cs) = omega (arith, read_on_ge (10 * n + (c - 48)) cs)

formed : (w : List ℕ) → has_form w ≡ true → (0 < length w) × (get_or w 0 0 ≡ 48 → length w ≡ 1)
formed [] h = absurd (false≢true h)
formed (c ∷ []) h = (omega arith, λ _. refl)
formed (c ∷ d ∷ cs) h = (omega arith, λ e. let no : not (eqb c 48) ≡ false = rw e refl in absurd (false≢true (sym no ∙ h)))

pub number-read : (most n : ℕ) (w : List ℕ) → most < 2 ^ 64 → number_of most w ≡ Some n → (w ≡ decimal n) × (n ≤ most)
unfolding number_of
number-read most n w small h = elim (cases_Bool (has_form w)) [
  | inr f ↦ let no : None ≡ Some n = sym (rw f refl) ∙ h in absurd cc
  | inl t ↦
      let got : digits_of most w ≡ Some n = sym (rw t refl) ∙ h in
      elim (cases_Bool (all_ascii_digits w && leb (read_on 0 w) most)) [
        | inr f ↦ let no : None ≡ Some n = sym (rw f refl) ∙ got in absurd cc
        | inl u ↦
            let both : Some (read_on 0 w) ≡ Some n = sym (rw u refl) ∙ got in
            let same : read_on 0 w ≡ n = cc in
            let p = and_parts _ _ u in
            let bound : read_on 0 w ≤ most = leb-true _ _ p.1 in
            let form = formed w t in
            (sym (decimal-digits_value own w p.0 form.0 form.1 (omega arith)) ∙ ap decimal same, omega arith)
      ]
]

formed_back : (w : List ℕ) → 0 < length w → (get_or w 0 0 ≡ 48 → length w ≡ 1) → has_form w ≡ true
formed_back [] l h = absurd (omega arith)
formed_back (c ∷ []) l h = refl
formed_back (c ∷ d ∷ cs) l h = rw (ne_eqb c 48 (λ e. let no = h e in omega arith)) refl

zero_alone : (n : ℕ) → n < 2 ^ 64 → get_or (decimal n) 0 0 ≡ 48 → length (decimal n) ≡ 1
zero_alone zero h e = ap length (decimal_digit 0 (omega arith))
zero_alone (suc n) h e = absurd (omega (arith, first_decimal (suc n) (omega arith) h))

pub number-spelled : (most n : ℕ) → most < 2 ^ 64 → n ≤ most → number_of most (decimal n) ≡ Some n
unfolding number_of
number-spelled most n small le =
    let fits : n < 2 ^ 64 = omega arith in
    let digits : all_ascii_digits (decimal n) ≡ true = digits_decimal own n fits in
    let value : read_on 0 (decimal n) ≡ n = digits_value-decimal own n fits in
    let form : has_form (decimal n) ≡ true = formed_back (decimal n) (decimal_nonempty n fits) (zero_alone n fits) in
    let bound : leb (read_on 0 (decimal n)) most ≡ true = le-leb _ _ (omega arith) in
    rw form (rw digits (rw bound (ap Some value)))

pub number_at_most : (most n : ℕ) (w : List ℕ) → number_of most w ≡ Some n → n ≤ most
unfolding number_of
number_at_most most n w h = elim (cases_Bool (has_form w)) [
  | inr f ↦ let no : None ≡ Some n = sym (rw f refl) ∙ h in absurd cc
  | inl t ↦
      let got : digits_of most w ≡ Some n = sym (rw t refl) ∙ h in
      elim (cases_Bool (all_ascii_digits w && leb (read_on 0 w) most)) [
        | inr f ↦ let no : None ≡ Some n = sym (rw f refl) ∙ got in absurd cc
        | inl u ↦
            let both : Some (read_on 0 w) ≡ Some n = sym (rw u refl) ∙ got in
            let same : read_on 0 w ≡ n = cc in
            let bound : read_on 0 w ≤ most = leb-true _ _ (and_parts _ _ u).1 in
            omega arith
      ]
]

pub decimal-digits : (n : ℕ) → n < 2 ^ 64 → all_ascii_digits (decimal n) ≡ true
decimal-digits n small = digits_decimal own n small
