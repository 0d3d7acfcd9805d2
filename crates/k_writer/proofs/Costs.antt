-- How many bytes a text has at least: those of its words, and one behind each but the last.
use Rattle.std.proofs.Common.{◌≡◌, ℕ, ◌+◌, ◌≤◌, Bool, true, false, not, cond, List, [], ◌∷◌, ◌++◌, length, map, refl, arith}
use Rattle.std.specs.Prelude.{codes, filter, min}
use Rattle.std.specs.List.{slice_split, onto_first, position_or_len, AllByRecursion}
use Rattle.std.proofs.lemmas.List.{length-append, length-take}
use Rattle.k_lines.specs.Words.{is_line_feed, is_blank, begins_comment, is_empty, uncommented, words_of, ended_lines, lines_of}
use Rattle.k_lines.specs.Lines.{Word}
use Rattle.k_text.specs.Texts.{spaced, joined}
use Rattle.k_reader.specs.Grammar.{with_words, content}
use Rattle.k_writer.specs.Canonical.{fed, feeds, whole_text}

abbrev pub words_cost : List Word → ℕ
words_cost [] = 0
words_cost (w ∷ ws) = length w + 1 + words_cost ws

abbrev pub lines_cost : List (List Word) → ℕ
lines_cost [] = 0
lines_cost (ws ∷ lines) = words_cost ws + lines_cost lines

pub words_cost-append : (a b : List Word) → words_cost (a ++ b) ≡ words_cost a + words_cost b
words_cost-append [] b = omega arith
words_cost-append (w ∷ ws) b = omega (arith, words_cost-append ws b)

pub lines_cost-append : (a b : List (List Word)) → lines_cost (a ++ b) ≡ lines_cost a + lines_cost b
lines_cost-append [] b = omega arith
lines_cost-append (ws ∷ lines) b = omega (arith, lines_cost-append lines b)

-- THE BYTES OF A TEXT THAT IS WRITTEN

spaced_cost : (ws : List Word) → length (spaced ws) ≡ words_cost ws
spaced_cost [] = refl
spaced_cost (w ∷ ws) =
    let whole : length (spaced (w ∷ ws)) ≡ length (codes " " ++ w) + length (spaced ws) = length-append (codes " " ++ w) (spaced ws) in
    let one : length (codes " " ++ w) ≡ 1 + length w = length-append (codes " ") w in
    omega (arith, whole, one, spaced_cost ws)

joined_cost : (ws : List Word) → 1 ≤ length ws → length (joined ws) + 1 ≡ words_cost ws
joined_cost [] h = absurd (omega (arith, h))
joined_cost (w ∷ ws) h = omega (arith, length-append w (spaced ws), spaced_cost ws)

feeds_cost : (lines : List (List Word)) → AllByRecursion (λ (ws : List Word). 1 ≤ length ws) lines → length (feeds lines) ≡ lines_cost lines
feeds_cost [] h = refl
feeds_cost (ws ∷ lines) h =
    let whole : length (feeds (ws ∷ lines)) ≡ length (fed ws) + length (feeds lines) = length-append (fed ws) (feeds lines) in
    let one : length (fed ws) ≡ 1 + length (joined ws) = length-append (codes "\n") (joined ws) in
    omega (arith, whole, one, joined_cost ws h.0, feeds_cost lines h.1)

pub whole_cost : (lines : List (List Word)) → 1 ≤ length lines → AllByRecursion (λ (ws : List Word). 1 ≤ length ws) lines → length (whole_text lines) + 1 ≡ lines_cost lines
whole_cost [] l h = absurd (omega (arith, l))
whole_cost (ws ∷ lines) l h = omega (arith, length-append (joined ws) (feeds lines), joined_cost ws h.0, feeds_cost lines h.1)

-- THE BYTES OF ANY TEXT

onto_cost : (b : ℕ) (parts : List (List ℕ)) → 1 ≤ words_cost parts → words_cost (onto_first b parts) ≡ words_cost parts + 1
onto_cost b [] h = absurd (omega (arith, h))
onto_cost b (part ∷ parts) h = omega arith

cut_cost : (b : ℕ) (parts : List (List ℕ)) (cut : Bool) → 1 ≤ words_cost parts → words_cost (cond cut ([] ∷ parts) (onto_first b parts)) ≡ words_cost parts + 1
cut_cost b parts true h = omega arith
cut_cost b parts false h = onto_cost b parts h

split_cost : (p : ℕ → Bool) (bs : List ℕ) → words_cost (slice_split p bs) ≡ length bs + 1
split_cost p [] = refl
split_cost p (b ∷ bs) =
    let more = split_cost p bs in
    omega (arith, more, cut_cost b (slice_split p bs) (p b) (omega (arith, more)))

kept_cost : (w : Word) (ws : List Word) (keep : Bool) → words_cost (cond keep (w ∷ ws) ws) ≤ length w + 1 + words_cost ws
kept_cost w ws true = omega arith
kept_cost w ws false = omega arith

filter_cost : (p : Word → Bool) (ws : List Word) → words_cost (filter p ws) ≤ words_cost ws
filter_cost p [] = omega arith
filter_cost p (w ∷ ws) = omega (arith, filter_cost p ws, kept_cost w (filter p ws) (p w))

words_of_cost : (line : List ℕ) → words_cost (words_of line) ≤ length line + 1
words_of_cost line =
    let less : length (uncommented line) ≡ min (position_or_len begins_comment line) (length line) = length-take (position_or_len begins_comment line) line in
    omega (arith, less, split_cost is_blank (uncommented line), filter_cost (λ w. not (is_empty w)) (slice_split is_blank (uncommented line)))

ended_cost : (lines : List (List ℕ)) → words_cost (ended_lines lines) ≤ words_cost lines
ended_cost [] = omega arith
ended_cost ([] ∷ []) = omega arith
ended_cost ([] ∷ line ∷ lines) = omega (arith, ended_cost (line ∷ lines))
ended_cost ((b ∷ bs) ∷ lines) = omega (arith, ended_cost lines)

with_words_cost : (lines : List (List Word)) → lines_cost (with_words lines) ≤ lines_cost lines
with_words_cost [] = omega arith
with_words_cost ([] ∷ lines) = omega (arith, with_words_cost lines)
with_words_cost ((w ∷ ws) ∷ lines) = omega (arith, with_words_cost lines)

each_line_cost : (lines : List (List ℕ)) → lines_cost (map words_of lines) ≤ words_cost lines
each_line_cost [] = omega arith
each_line_cost (line ∷ lines) = omega (arith, words_of_cost line, each_line_cost lines)

pub text_cost : (bytes : List ℕ) → lines_cost (content (lines_of bytes)) ≤ length bytes + 1
text_cost bytes =
    omega (arith, with_words_cost (map words_of (lines_of bytes)), each_line_cost (lines_of bytes), ended_cost (slice_split is_line_feed bytes), split_cost is_line_feed bytes)
