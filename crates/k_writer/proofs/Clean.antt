-- Words with single spaces and line feeds between them are read as these words.
use Rattle.std.proofs.Common.{◌≡◌, ℕ, ◌≤◌, Bool, true, false, not, eqb, ◌&&◌, ◌||◌, List, [], ◌∷◌, ◌++◌, length, map, refl, sym, ap, ◌∙◌, arith, inl, inr}
use Rattle.std.specs.Prelude.{filter}
use Rattle.std.specs.List.{slice_split, onto_first, position_or_len, list_all, AllByRecursion}
use Rattle.std.proofs.lemmas.Bool.{cases_Bool, and_parts, false≢true, eqb-true}
use Rattle.std.proofs.lemmas.List.{append-nil, take_all}
use Rattle.std.proofs.lemmas.List.Folds.{list_all-append}
use Rattle.std.proofs.lemmas.List.Splits.{slice_split-cons_yes, slice_split-cons_no}
use Rattle.k_lines.specs.Words.{is_line_feed, is_blank, begins_comment, is_printed, is_plain_byte, is_empty, uncommented, parted, words_of, ended_lines, lines_of, is_plain}
use Rattle.k_lines.specs.Lines.{Word}
use Rattle.k_text.specs.Texts.{spaced, joined}
use Rattle.k_reader.specs.Grammar.{with_words, content}
use Rattle.k_writer.specs.Canonical.{feeds, whole_text}

-- what may stand in a word
abbrev pub is_clean_byte : ℕ → Bool
is_clean_byte b = is_printed b && not (begins_comment b)

-- what may stand in a line that has no comment
abbrev pub is_inline_byte : ℕ → Bool
is_inline_byte b = is_plain_byte b && not (begins_comment b)

abbrev pub is_clean : Word → Bool
is_clean w = not (is_empty w) && list_all is_clean_byte w

abbrev pub IsGoodLine : List Word → Type 0
IsGoodLine ws = (1 ≤ length ws) × (list_all is_clean ws ≡ true)

pub weaker : {X : Type 0} (p q : X → Bool) → ((x : X) → p x ≡ true → q x ≡ true) → (xs : List X) → list_all p xs ≡ true → list_all q xs ≡ true
weaker p q f [] h = refl
weaker p q f (x ∷ xs) h = let both = and_parts (p x) (list_all p xs) h in rw (f x both.0) (weaker p q f xs both.1)

-- BYTES

unset : (b : Bool) → not b ≡ true → b ≡ false
unset false e = refl
unset true e = absurd (false≢true e)

-- A byte that fails a test at each byte that passes another passes only one.
apart : (b c : ℕ) (p : ℕ → Bool) → p c ≡ false → p b ≡ true → not (eqb b c) ≡ true
apart b c p f h = elim (cases_Bool (eqb b c)) [
  | inl t ↦ absurd (false≢true (sym f ∙ sym (ap p (eqb-true b c t)) ∙ h))
  | inr g ↦ rw g refl
]

clean_inline : (b : ℕ) → is_clean_byte b ≡ true → is_inline_byte b ≡ true
clean_inline b h = let both = and_parts (is_printed b) (not (begins_comment b)) h in elim (cases_Bool (is_blank b)) [
  | inl t ↦ rw (t, both.1) refl
  | inr f ↦ rw (f, both.0, both.1) refl
]

none_of : (b : ℕ) (p q r : Bool) → not p ≡ true → not q ≡ true → not r ≡ true → not (p || q || r) ≡ true
none_of b false false false x y z = refl
none_of b true q r x y z = absurd (false≢true x)
none_of b false true r x y z = absurd (false≢true y)
none_of b false false true x y z = absurd (false≢true z)

clean_unblank : (b : ℕ) → is_clean_byte b ≡ true → not (is_blank b) ≡ true
clean_unblank b h = none_of b (eqb b 32) (eqb b 9) (eqb b 13) (apart b 32 is_clean_byte refl h) (apart b 9 is_clean_byte refl h) (apart b 13 is_clean_byte refl h)

inline_unfed : (b : ℕ) → is_inline_byte b ≡ true → not (is_line_feed b) ≡ true
inline_unfed b h = apart b 10 is_inline_byte refl h

inline_uncommented : (b : ℕ) → is_inline_byte b ≡ true → not (begins_comment b) ≡ true
inline_uncommented b h = (and_parts (is_plain_byte b) (not (begins_comment b)) h).1

inline_plain : (b : ℕ) → is_inline_byte b ≡ true → is_plain_byte b ≡ true
inline_plain b h = (and_parts (is_plain_byte b) (not (begins_comment b)) h).0

-- LINES

pub all_both : {X : Type 0} (p : X → Bool) (xs ys : List X) → list_all p xs ≡ true → list_all p ys ≡ true → list_all p (xs ++ ys) ≡ true
all_both p xs ys h i = list_all-append p xs ys ∙ (rw (h, i) refl)

word_inline : (w : Word) → is_clean w ≡ true → list_all is_inline_byte w ≡ true
word_inline w h = weaker is_clean_byte is_inline_byte clean_inline w (and_parts (not (is_empty w)) (list_all is_clean_byte w) h).1

word_unblank : (w : Word) → is_clean w ≡ true → list_all (λ b. not (is_blank b)) w ≡ true
word_unblank w h = weaker is_clean_byte (λ b. not (is_blank b)) clean_unblank w (and_parts (not (is_empty w)) (list_all is_clean_byte w) h).1

spaced_inline : (ws : List Word) → list_all is_clean ws ≡ true → list_all is_inline_byte (spaced ws) ≡ true
spaced_inline [] h = refl
spaced_inline (w ∷ ws) h =
    let both = and_parts (is_clean w) (list_all is_clean ws) h in
    all_both is_inline_byte w (spaced ws) (word_inline w both.0) (spaced_inline ws both.1)

joined_inline : (ws : List Word) → list_all is_clean ws ≡ true → list_all is_inline_byte (joined ws) ≡ true
joined_inline [] h = refl
joined_inline (w ∷ ws) h =
    let both = and_parts (is_clean w) (list_all is_clean ws) h in
    all_both is_inline_byte w (spaced ws) (word_inline w both.0) (spaced_inline ws both.1)

-- PARTS

whole : (p : ℕ → Bool) (xs : List ℕ) → list_all (λ b. not (p b)) xs ≡ true → slice_split p xs ≡ xs ∷ []
whole p [] h = refl
whole p (x ∷ xs) h =
    let both = and_parts (not (p x)) (list_all (λ b. not (p b)) xs) h in
    slice_split-cons_no p x xs (unset (p x) both.0) ∙ ap (onto_first x) (whole p xs both.1)

cut_at : (p : ℕ → Bool) (xs : List ℕ) (y : ℕ) (ys : List ℕ) → list_all (λ b. not (p b)) xs ≡ true → p y ≡ true → slice_split p (xs ++ y ∷ ys) ≡ xs ∷ slice_split p ys
cut_at p [] y ys h e = slice_split-cons_yes p y ys e
cut_at p (x ∷ xs) y ys h e =
    let both = and_parts (not (p x)) (list_all (λ b. not (p b)) xs) h in
    slice_split-cons_no p x (xs ++ y ∷ ys) (unset (p x) both.0) ∙ ap (onto_first x) (cut_at p xs y ys both.1 e)

split_words : (w : Word) (ws : List Word) → is_clean w ≡ true → list_all is_clean ws ≡ true → slice_split is_blank (w ++ spaced ws) ≡ w ∷ ws
split_words w [] h i = ap (slice_split is_blank) (append-nil w) ∙ whole is_blank w (word_unblank w h)
split_words w (v ∷ ws) h i =
    let both = and_parts (is_clean v) (list_all is_clean ws) i in
    cut_at is_blank w 32 (v ++ spaced ws) (word_unblank w h) refl ∙ ap (λ (m : List Word). w ∷ m) (split_words v ws both.0 both.1)

kept : (ws : List Word) → list_all is_clean ws ≡ true → filter (λ (w : Word). not (is_empty w)) ws ≡ ws
kept [] h = refl
kept (w ∷ ws) h =
    let both = and_parts (is_clean w) (list_all is_clean ws) h in
    let some = (and_parts (not (is_empty w)) (list_all is_clean_byte w) both.0).0 in
    rw some (ap (λ (m : List Word). w ∷ m) (kept ws both.1))

first_none : (p : ℕ → Bool) (xs : List ℕ) → list_all (λ b. not (p b)) xs ≡ true → position_or_len p xs ≡ length xs
first_none p [] h = refl
first_none p (x ∷ xs) h =
    let both = and_parts (not (p x)) (list_all (λ b. not (p b)) xs) h in
    let more = first_none p xs both.1 in
    rw both.0 (omega (arith, more))

no_comment : (ws : List Word) → list_all is_clean ws ≡ true → uncommented (joined ws) ≡ joined ws
no_comment ws h =
    let end = first_none begins_comment (joined ws) (weaker is_inline_byte (λ b. not (begins_comment b)) inline_uncommented (joined ws) (joined_inline ws h)) in
    take_all (position_or_len begins_comment (joined ws)) (joined ws) (omega (arith, end))

words_joined : (ws : List Word) → IsGoodLine ws → words_of (joined ws) ≡ ws
words_joined [] h = absurd (omega (arith, h.0))
words_joined (w ∷ ws) h =
    let both = and_parts (is_clean w) (list_all is_clean ws) h.1 in
    ap parted (no_comment (w ∷ ws) h.1)
    ∙ ap (filter (λ (v : Word). not (is_empty v))) (split_words w ws both.0 both.1)
    ∙ kept (w ∷ ws) h.1

plain_joined : (ws : List Word) → list_all is_clean ws ≡ true → is_plain (joined ws) ≡ true
plain_joined ws h = ap (list_all is_plain_byte) (no_comment ws h) ∙ weaker is_inline_byte is_plain_byte inline_plain (joined ws) (joined_inline ws h)

-- ALL LINES

split_lines : (ws : List Word) (lines : List (List Word)) → IsGoodLine ws → AllByRecursion IsGoodLine lines → slice_split is_line_feed (joined ws ++ feeds lines) ≡ joined ws ∷ map joined lines
split_lines ws [] h i =
    ap (slice_split is_line_feed) (append-nil (joined ws)) ∙ whole is_line_feed (joined ws) (weaker is_inline_byte (λ b. not (is_line_feed b)) inline_unfed (joined ws) (joined_inline ws h.1))
split_lines ws (vs ∷ lines) h i =
    cut_at is_line_feed (joined ws) 10 (joined vs ++ feeds lines) (weaker is_inline_byte (λ b. not (is_line_feed b)) inline_unfed (joined ws) (joined_inline ws h.1)) refl
    ∙ ap (λ (m : List (List ℕ)). joined ws ∷ m) (split_lines vs lines i.0 i.1)

ended_some : (ws : List Word) (lines : List (List ℕ)) → IsGoodLine ws → ended_lines (joined ws ∷ lines) ≡ joined ws ∷ ended_lines lines
ended_some [] lines h = absurd (omega (arith, h.0))
ended_some ([] ∷ ws) lines h = absurd (false≢true h.1)
ended_some ((b ∷ bs) ∷ ws) lines h = refl

ended_joined : (lines : List (List Word)) → AllByRecursion IsGoodLine lines → ended_lines (map joined lines) ≡ map joined lines
ended_joined [] h = refl
ended_joined (ws ∷ lines) h = ended_some ws (map joined lines) h.0 ∙ ap (λ (m : List (List ℕ)). joined ws ∷ m) (ended_joined lines h.1)

lines_whole : (lines : List (List Word)) → 1 ≤ length lines → AllByRecursion IsGoodLine lines → lines_of (whole_text lines) ≡ map joined lines
lines_whole [] l h = absurd (omega (arith, l))
lines_whole (ws ∷ lines) l h = ap ended_lines (split_lines ws lines h.0 h.1) ∙ ended_joined (ws ∷ lines) h

with_some : (ws : List Word) (lines : List (List Word)) → IsGoodLine ws → with_words (ws ∷ lines) ≡ ws ∷ with_words lines
with_some [] lines h = absurd (omega (arith, h.0))
with_some (w ∷ ws) lines h = refl

words_whole : (lines : List (List Word)) → AllByRecursion IsGoodLine lines → with_words (map words_of (map joined lines)) ≡ lines
words_whole [] h = refl
words_whole (ws ∷ lines) h =
    ap (λ (m : List Word). with_words (m ∷ map words_of (map joined lines))) (words_joined ws h.0)
    ∙ with_some ws (map words_of (map joined lines)) h.0
    ∙ ap (λ (m : List (List Word)). ws ∷ m) (words_whole lines h.1)

pub content_whole : (lines : List (List Word)) → 1 ≤ length lines → AllByRecursion IsGoodLine lines → content (lines_of (whole_text lines)) ≡ lines
content_whole lines l h = ap content (lines_whole lines l h) ∙ words_whole lines h

plain_lines : (lines : List (List Word)) → AllByRecursion IsGoodLine lines → list_all is_plain (map joined lines) ≡ true
plain_lines [] h = refl
plain_lines (ws ∷ lines) h = rw (plain_joined ws h.0.1) (plain_lines lines h.1)

pub plain_whole : (lines : List (List Word)) → 1 ≤ length lines → AllByRecursion IsGoodLine lines → list_all is_plain (lines_of (whole_text lines)) ≡ true
plain_whole lines l h = ap (list_all is_plain) (lines_whole lines l h) ∙ plain_lines lines h
