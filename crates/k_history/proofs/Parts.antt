-- A line is its words with a space between two, and its parts are these words.
use Rattle.std.proofs.Common.{◌≡◌, ℕ, ◌+◌, ◌<◌, ◌≤◌, ◌^◌, Bool, true, false, not, eqb, List, [], ◌∷◌, ◌++◌, length, take, drop, length-append, refl, sym, ap, ◌∙◌, arith, Some, position, decimal}
use Rattle.std.specs.List.{slice_split, list_all, join_with_byte, position_or_len}
use Rattle.std.specs.Str.{all_ascii_digits}
use Rattle.std.proofs.lemmas.Bool.{and_parts, leb-true, lt-ltb, eq-eqb, false≢true, ne_eqb}
use Rattle.std.proofs.lemmas.List.{append-nil}
use Rattle.std.proofs.lemmas.List.Splits.{slice_split_first, slice_split-cons_no, slice_split-cons_yes, length-slice_split, join_with_byte-slice_split}
use Rattle.k_text.specs.Texts.{Word, joined, spaced}
use Rattle.k_text.proofs.Digits.{decimal-digits}
use Rattle.k_history.specs.Reading.{parts_of}
use Rattle.k_lists.proofs.Positions.{position_at}
use Rattle.k_history.proofs.Cut.{some_part}

-- whether this byte stands nowhere in a word
abbrev pub lacks : ℕ → Word → Bool
lacks c w = list_all (λ b. not (eqb b c)) w

pub not_true : (b : Bool) → not b ≡ true → b ≡ false
not_true true h = absurd (false≢true h)
not_true false h = refl

pub cut_at : (c : ℕ) (w rest : List ℕ) → lacks c w ≡ true → slice_split (λ b. eqb b c) (w ++ c ∷ rest) ≡ w ∷ slice_split (λ b. eqb b c) rest
cut_at c [] rest h = slice_split-cons_yes (λ b. eqb b c) c rest (eq-eqb c c refl)
cut_at c (x ∷ xs) rest h =
    let p = and_parts _ _ h in
    slice_split-cons_no (λ b. eqb b c) x (xs ++ c ∷ rest) (not_true _ p.0) ∙ rw (cut_at c xs rest p.1) refl

pub cut_last : (c : ℕ) (w : List ℕ) → lacks c w ≡ true → slice_split (λ b. eqb b c) w ≡ w ∷ []
cut_last c [] h = refl
cut_last c (x ∷ xs) h =
    let p = and_parts _ _ h in
    slice_split-cons_no (λ b. eqb b c) x xs (not_true _ p.0) ∙ rw (cut_last c xs p.1) refl

-- words without spaces
abbrev pub are_words : List Word → Bool
are_words ws = list_all (lacks 32) ws

pub parts_joined : (w : Word) (ws : List Word) → are_words (w ∷ ws) ≡ true → parts_of (joined (w ∷ ws)) ≡ w ∷ ws
parts_joined w [] h = let p = and_parts _ _ h in rw (append-nil w) (cut_last 32 w p.0)
parts_joined w (v ∷ ws) h =
    let p = and_parts _ _ h in
    cut_at 32 w (v ++ spaced ws) p.0 ∙ rw (parts_joined v ws p.1) refl

join_is : (w : Word) (ws : List Word) → join_with_byte 32 (w ∷ ws) ≡ joined (w ∷ ws)
join_is w [] = sym (append-nil w)
join_is w (v ∷ ws) = ap (λ (t : List ℕ). w ++ 32 ∷ t) (join_is v ws)

pub joined_parts : (line : List ℕ) (ws : List Word) → parts_of line ≡ ws → line ≡ joined ws
joined_parts line [] h = let some = some_part line in let none : length (parts_of line) ≡ 0 = ap length h in absurd (omega arith)
joined_parts line (w ∷ ws) h = sym (join_with_byte-slice_split 32 line) ∙ ap (join_with_byte 32) h ∙ join_is w ws

-- A word is what stands before its first byte of a kind, that byte, and what stands behind.
join_cut : (c : ℕ) (a b : List ℕ) → join_with_byte c (a ∷ slice_split (λ x. eqb x c) b) ≡ a ++ c ∷ b
join_cut c a b = go (slice_split (λ x. eqb x c) b) refl
  where
    go : (ps : List (List ℕ)) → slice_split (λ x. eqb x c) b ≡ ps → join_with_byte c (a ∷ ps) ≡ a ++ c ∷ b
    go [] e = let count : length (slice_split (λ x. eqb x c) b) ≡ 0 = ap length e in absurd (omega (arith, length-slice_split (λ x. eqb x c) b))
    go (p ∷ ps) e = ap (λ (t : List ℕ). a ++ c ∷ t) (sym (ap (join_with_byte c) e) ∙ join_with_byte-slice_split c b)

pub cut_back : (c : ℕ) (w : List ℕ) (at : ℕ) → position (λ b. eqb b c) w ≡ Some at → w ≡ take at w ++ c ∷ drop (at + 1) w
cut_back c w at e =
    let found = position_at (λ b. eqb b c) w at e in
    let first : slice_split (λ b. eqb b c) w ≡ take at w ∷ slice_split (λ b. eqb b c) (drop (at + 1) w) = slice_split_first (λ b. eqb b c) w 0 found.1 ∙ rw found.0 refl in
    sym (join_with_byte-slice_split c w) ∙ ap (join_with_byte c) first ∙ join_cut c (take at w) (drop (at + 1) w)

-- The first byte of a kind behind a word without it.
place_len : (c : ℕ) (w rest : List ℕ) → lacks c w ≡ true → position_or_len (λ b. eqb b c) (w ++ c ∷ rest) ≡ length w
place_len c [] rest h = rw (eq-eqb c c refl) refl
place_len c (x ∷ xs) rest h =
    let p = and_parts _ _ h in
    rw (not_true (eqb x c) p.0) (rw (place_len c xs rest p.1) (omega arith))

pub place_at : (c : ℕ) (w rest : List ℕ) → lacks c w ≡ true → position (λ b. eqb b c) (w ++ c ∷ rest) ≡ Some (length w)
place_at c w rest h =
    let n = place_len c w rest h in
    let l : position_or_len (λ b. eqb b c) (w ++ c ∷ rest) < length (w ++ c ∷ rest) = omega (arith, length-append w (c ∷ rest)) in
    rw (lt-ltb _ _ l) (ap Some n)

-- DIGITS have neither spaces nor dots.

digits_lack : (c : ℕ) (w : List ℕ) → c < 48 → all_ascii_digits w ≡ true → lacks c w ≡ true
digits_lack c [] l h = refl
digits_lack c (x ∷ xs) l h =
    let p = and_parts _ _ h in
    let low : 48 ≤ x = leb-true 48 x (and_parts _ _ p.0).0 in
    rw (ne_eqb x c (λ e. omega arith)) (digits_lack c xs l p.1)

pub decimal_lacks : (c n : ℕ) → c < 48 → n < 2 ^ 64 → lacks c (decimal n) ≡ true
decimal_lacks c n l small = digits_lack c (decimal n) l (decimal-digits n small)
