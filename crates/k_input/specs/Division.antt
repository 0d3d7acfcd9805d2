-- The input of `check`: a script, a line that is exactly `--`, and the lines of a history. Without such a line all of it is
-- script, and the history is empty.
use Rattle.std.specs.Prelude.{◌≡◌, ◌<◌, ◌⊎◌, ◌==◌, ℕ, Bool, if◌then◌else◌, List, [], ◌∷◌, ◌++◌, length, codes, Option, Some, IfSome}
use Rattle.std.specs.List.{slice_split}
use Rattle.std.specs.Str.{bytes_eq}
use Rattle.k_input.specs.Taken.{most_bytes}

abbrev pub is_line_feed : ℕ → Bool
is_line_feed b = b == 10

-- what stands before, between and behind the line feeds
abbrev pub lines_in : List ℕ → List (List ℕ)
lines_in bytes = slice_split is_line_feed bytes

abbrev pub is_divider : List ℕ → Bool
is_divider line = bytes_eq line (codes "--")

-- the lines before the first divider, with their line feeds
abbrev pub before_divider : List (List ℕ) → List ℕ
before_divider [] = []
before_divider (last ∷ []) = if is_divider last then [] else last
before_divider (line ∷ next ∷ lines) = if is_divider line then [] else (line ++ 10 ∷ before_divider (next ∷ lines))

-- lines with a line feed between each two
abbrev pub joined_lines : List (List ℕ) → List ℕ
joined_lines [] = []
joined_lines (last ∷ []) = last
joined_lines (line ∷ next ∷ lines) = line ++ 10 ∷ joined_lines (next ∷ lines)

-- what stands behind the line feed of the first divider
abbrev pub behind_divider : List (List ℕ) → List ℕ
behind_divider [] = []
behind_divider (last ∷ []) = []
behind_divider (line ∷ next ∷ lines) = if is_divider line then joined_lines (next ∷ lines) else behind_divider (next ∷ lines)

abbrev pub script_part : List ℕ → List ℕ
script_part bytes = before_divider (lines_in bytes)

abbrev pub history_part : List ℕ → List ℕ
history_part bytes = behind_divider (lines_in bytes)

-- LIMITS: on the script, and on the whole input

-- a script of the most bytes, and 128 MiB of history
abbrev pub most_input : ℕ
most_input = 135266304

abbrev pub IsInputLarge : List ℕ → Type 0
IsInputLarge bytes = (most_bytes < length (script_part bytes)) ⊎ (most_input < length bytes)

-- Whatever follows these bytes, the input is too large. (A last line `-` or `--` that isn't ended may still become the
-- divider, or a script's line.)
abbrev pub IsSurelyLarge : List ℕ → Type 0
IsSurelyLarge front = (more : List ℕ) → IsInputLarge (front ++ more)

-- Not before the last of these bytes was it certain.
abbrev pub IsJustLarge : List ℕ → Type 0
IsJustLarge front = IsSurelyLarge front × ((start : List ℕ) (b : ℕ) → front ≡ start ++ b ∷ [] → ¬ IsSurelyLarge start)

-- The input is too large, and it was taken up to the first byte that makes it certain, or to its end where none does.
pub record IsLargeInput (given : List ℕ) (after : Option (List ℕ)) : Type 0 where
  pub front : List ℕ
  pub rest : List ℕ
  pub taken : given ≡ front ++ rest
  pub left : after ≡ Some rest
  pub large : IsInputLarge given
  pub stops : ((rest ≡ []) × ¬ IsSurelyLarge front) ⊎ IsJustLarge front

abbrev pub IsInputTooLarge : Option (List ℕ) → Option (List ℕ) → Type 0
IsInputTooLarge before after = IfSome before (λ given. IsLargeInput given after)
