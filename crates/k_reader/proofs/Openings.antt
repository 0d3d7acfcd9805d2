-- The first line with words.
use Rattle.std.proofs.Common.{◌≡◌, ℕ, ◌+◌, ◌≤◌, true, false, not, leb, List, [], ◌∷◌, length, refl, sym, ap, ◌∙◌, arith, Some, None, inl, inr, option_and_then}
use Rattle.std.specs.List.{list_all, list_any, slice_split, filter, onto_first, count_by}
use Rattle.std.proofs.lemmas.Bool.{cases_Bool, and_parts, or_parts, or_cases, leb-true, ne_eqb, false≢true}
use Rattle.std.proofs.lemmas.List.Splits.{slice_split-cons_yes, slice_split-cons_no, length-slice_split}
use Rattle.k_lists.proofs.Options.{bound}
use Rattle.k_lines.specs.declared.numeral.Numeral.{Numeral}
use Rattle.k_lines.specs.declared.line.Line.{Line}
use Rattle.k_lines.specs.declared.line.Line.TheVariants as line
use Rattle.k_lines.specs.Words.{words_of, is_plain, has_words, is_blank, is_printed, is_plain_byte, is_empty, parted, uncommented}
use Rattle.k_lines.specs.Numbers.{exactly}
use Rattle.k_lines.specs.Lines.{Word, spelled, line_of}
use Rattle.k_lines.proofs.Spelled.{line-read, line-spelled}
use Rattle.k_lines.proofs.Digits.{in_range-spelled}
use Rattle.k_reader.specs.Reading.{version_in, version_of, first_version}
use Rattle.k_reader.proofs.Resolved.{ranged}
use Rattle.k_reader.proofs.Proper.{number_proper, proper_by}

printed_apart : (b : ℕ) → is_printed b ≡ true → is_blank b ≡ false
printed_apart b h =
    let p = and_parts (leb 33 b) (leb b 126) h in
    let low = leb-true 33 b p.0 in
    rw (ne_eqb b 32 (λ e. omega (arith, low, e))) (rw (ne_eqb b 9 (λ e. omega (arith, low, e))) (ne_eqb b 13 (λ e. omega (arith, low, e))))

parted_blank : (b : ℕ) (u : List ℕ) → is_blank b ≡ true → parted (b ∷ u) ≡ parted u
parted_blank b u h = ap (filter (λ w. not (is_empty w))) (slice_split-cons_yes is_blank b u h)

parted_other : (b : ℕ) (u : List ℕ) → is_blank b ≡ false → 1 ≤ length (parted (b ∷ u))
parted_other b u h = go (slice_split is_blank u) refl (length-slice_split is_blank u)
  where
    go : (ps : List (List ℕ)) → slice_split is_blank u ≡ ps → length (slice_split is_blank u) ≡ count_by is_blank u + 1 → 1 ≤ length (parted (b ∷ u))
    go [] e l = let none : length (slice_split is_blank u) ≡ 0 = ap (λ (x : List (List ℕ)). length x) e in absurd (omega (arith, none, l))
    go (p ∷ ps) e l =
        let split : slice_split is_blank (b ∷ u) ≡ (b ∷ p) ∷ ps = slice_split-cons_no is_blank b u h ∙ ap (onto_first b) e in
        let same : parted (b ∷ u) ≡ (b ∷ p) ∷ filter (λ w. not (is_empty w)) ps = ap (filter (λ w. not (is_empty w))) split in
        let long : length (parted (b ∷ u)) ≡ length ((b ∷ p) ∷ filter (λ w. not (is_empty w)) ps) = ap (λ (x : List (List ℕ)). length x) same in
        omega (arith, long)

parted-none : (u : List ℕ) → list_all is_plain_byte u ≡ true → list_any is_printed u ≡ false → parted u ≡ []
parted-none [] h n = refl
parted-none (b ∷ u) h n =
    let p = and_parts (is_plain_byte b) (list_all is_plain_byte u) h in
    let q = or_parts (is_printed b) (list_any is_printed u) n in
    parted_blank b u (blank b p.0 q.0) ∙ parted-none u p.1 q.1
  where
    blank : (b : ℕ) → is_plain_byte b ≡ true → is_printed b ≡ false → is_blank b ≡ true
    blank b x y = elim (or_cases (is_blank b) (is_printed b) x) [
      | inl t ↦ t
      | inr t ↦ absurd (false≢true (sym y ∙ t))
    ]

parted-some : (u : List ℕ) → list_any is_printed u ≡ true → 1 ≤ length (parted u)
parted-some [] h = absurd (false≢true h)
parted-some (b ∷ u) h = elim (cases_Bool (is_blank b)) [
  | inr f ↦ parted_other b u f
  | inl t ↦ elim (or_cases (is_printed b) (list_any is_printed u) h) [
    | inl p ↦ absurd (false≢true (sym (printed_apart b p) ∙ t))
    | inr p ↦ rw (parted_blank b u t) (parted-some u p)
  ]
]

-- A line without bad bytes has words exactly where a byte of it is printed.
pub no-words : (text : List ℕ) → is_plain text ≡ true → has_words text ≡ false → words_of text ≡ []
no-words text p h = parted-none (uncommented text) p h

pub some-words : (text : List ℕ) → has_words text ≡ true → 1 ≤ length (words_of text)
some-words text h = parted-some (uncommented text) h

-- THE VERSION

kernel_only : (w : Word) (ws : List Word) (l : Line) (v : ℕ) → line_of w ws ≡ Some l → version_in l ≡ Some v → (w ∷ ws ≡ spelled (line.Kernel (exactly v))) × (1 ≤ v) × (v ≤ 2)
kernel_only w ws (line.Kernel n) v a h =
    let r = ranged 1 2 n v (omega arith) h in
    let small = r.2 in
    let spells : w ∷ ws ≡ spelled (line.Kernel n) = line-read w ws (line.Kernel n) a (proper_by n v r.0 (omega (arith, small))) in
    (spells ∙ ap (λ (m : Numeral). spelled (line.Kernel m)) r.0, r.1, r.2)
kernel_only w ws (line.Table n) v a h = absurd cc
kernel_only w ws (line.Carriers n) v a h = absurd cc
kernel_only w ws line.ShowSteps v a h = absurd cc
kernel_only w ws (line.Aged n m) v a h = absurd cc
kernel_only w ws (line.Program n) v a h = absurd cc
kernel_only w ws line.End v a h = absurd cc
kernel_only w ws (line.Thread n m) v a h = absurd cc
kernel_only w ws (line.Start n m) v a h = absurd cc
kernel_only w ws (line.Slice n m) v a h = absurd cc
kernel_only w ws (line.Operation o) v a h = absurd cc

pub version-read : (ws : List Word) (v : ℕ) → version_of ws ≡ Some v → (ws ≡ spelled (line.Kernel (exactly v))) × (1 ≤ v) × (v ≤ 2)
version-read [] v h = absurd cc
version-read (w ∷ ws) v h = let b = bound version_in (line_of w ws) v h in kernel_only w ws b.0 v b.1 b.2

pub version-spelled : (ws : List Word) (v : ℕ) → ws ≡ spelled (line.Kernel (exactly v)) → 1 ≤ v → v ≤ 2 → version_of ws ≡ Some v
version-spelled ws v e low high =
    ap version_of e ∙ ap (option_and_then version_in) (line-spelled (line.Kernel (exactly v)) tt (number_proper v (omega (arith, high)))) ∙ in_range-spelled 1 2 v low high

pub first-read : (text : List ℕ) (v : ℕ) → first_version text ≡ Some v → (is_plain text ≡ true) × (words_of text ≡ spelled (line.Kernel (exactly v))) × (1 ≤ v) × (v ≤ 2)
unfolding first_version
first-read text v h = elim (cases_Bool (is_plain text)) [
  | inr f ↦ let no : None ≡ Some v = sym (rw f refl) ∙ h in absurd cc
  | inl t ↦
      let got : version_of (words_of text) ≡ Some v = sym (rw t refl) ∙ h in
      let r = version-read (words_of text) v got in
      (t, r.0, r.1, r.2)
]

pub first-spelled : (text : List ℕ) (v : ℕ) → is_plain text ≡ true → words_of text ≡ spelled (line.Kernel (exactly v)) → 1 ≤ v → v ≤ 2 → first_version text ≡ Some v
unfolding first_version
first-spelled text v p e low high = rw p (version-spelled (words_of text) v e low high)
