-- The text that is written: its words are those of one layout, with single spaces and line feeds, and no others.
use Rattle.std.specs.Prelude.{ℕ, ◌+◌, ◌==◌, not, List, [], ◌∷◌, ◌++◌, codes, if◌then◌else◌}
use Rattle.std.specs.List.{flat_map}
use Rattle.k_script.specs.declared.lines.Item.{Item}
use Rattle.k_script.specs.Script.{Script}
use Rattle.k_lines.specs.Lines.{Word}
use Rattle.k_text.specs.Texts.{joined}
use Rattle.k_reader.specs.Grammar.{Age, Layout, layout_words}

-- THE LAYOUT

-- A line for each number that had a thread, in the order of the numbers. The first of these versions is that of number n.
abbrev pub ages_from : ℕ → List ℕ → List Age
ages_from n [] = []
ages_from n (v ∷ vs) = if v == 0 then ages_from (n + 1) vs else record { number = n; version = v } ∷ ages_from (n + 1) vs

-- all turns in one line, and no line where there are none
abbrev pub one_line : List Item → List (List Item)
one_line [] = []
one_line (i ∷ is) = (i ∷ is) ∷ []

-- A `carriers` line stands only where there are several.
abbrev pub canonical : Script → Layout
canonical s = record { carriers = not (s.carriers == 1); ages = ages_from 0 s.aged; turns = one_line s.turns }

-- THE TEXT: a space between two words, a line feed between two lines

-- a line behind a line feed
abbrev pub fed : List Word → List ℕ
fed words = codes "\n" ++ joined words

abbrev pub feeds : List (List Word) → List ℕ
feeds lines = flat_map fed lines

abbrev pub whole_text : List (List Word) → List ℕ
whole_text [] = []
whole_text (first ∷ lines) = joined first ++ feeds lines

abbrev pub text_of : Script → List ℕ
text_of s = whole_text (layout_words s (canonical s))
