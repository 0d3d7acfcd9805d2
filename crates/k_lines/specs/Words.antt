-- The lines of an input, and the words of a line.
use Rattle.std.specs.Prelude.{ℕ, ◌==◌, nat_le, Bool, true, false, not, ◌||◌, ◌&&◌, List, [], ◌∷◌, filter}
use Rattle.std.specs.List.{slice_split, before_first, list_all, list_any}

abbrev pub is_line_feed : ℕ → Bool
is_line_feed b = b == 10

-- a space, a tab or a carriage return
abbrev pub is_blank : ℕ → Bool
is_blank b = (b == 32) || (b == 9) || (b == 13)

-- a semicolon
abbrev pub begins_comment : ℕ → Bool
begins_comment b = b == 59

-- what is printed in ASCII
abbrev pub is_printed : ℕ → Bool
is_printed b = nat_le 33 b && nat_le b 126

-- what may stand outside comments
abbrev pub is_plain_byte : ℕ → Bool
is_plain_byte b = is_blank b || is_printed b

-- Behind the last line feed stands no line, if nothing stands there.
abbrev pub ended_lines : List (List ℕ) → List (List ℕ)
ended_lines [] = []
ended_lines ([] ∷ []) = []
ended_lines (line ∷ lines) = line ∷ ended_lines lines

-- Each line ends with a line feed, which the last may lack.
abbrev pub lines_of : List ℕ → List (List ℕ)
lines_of bytes = ended_lines (slice_split is_line_feed bytes)

-- a line without its comment
abbrev pub uncommented : List ℕ → List ℕ
uncommented line = before_first begins_comment line

abbrev pub is_empty : List ℕ → Bool
is_empty [] = true
is_empty (b ∷ bs) = false

-- what stands between the blanks
abbrev pub parted : List ℕ → List (List ℕ)
parted text = filter (λ w. not (is_empty w)) (slice_split is_blank text)

abbrev pub words_of : List ℕ → List (List ℕ)
words_of line = parted (uncommented line)

-- No byte outside its comment is bad.
abbrev pub is_plain : List ℕ → Bool
is_plain line = list_all is_plain_byte (uncommented line)

-- A printed byte stands outside its comment: so a line has a word also where another byte of it is bad.
abbrev pub has_words : List ℕ → Bool
has_words line = list_any is_printed (uncommented line)
