-- The first line of an input, and the rest.
use Rattle.std.proofs.Common.{◌≡◌, ℕ, ◌+◌, ◌-◌, ◌<◌, List, [], ◌∷◌, length, take, drop, refl, ap, ◌∙◌, arith, Some, None, position}
use Rattle.std.specs.List.{slice_split}
use Rattle.std.proofs.lemmas.List.Splits.{length-slice_split}
use Rattle.k_lists.proofs.Cuts.{cut_none, cut_some}
use Rattle.k_lines.specs.Words.{is_line_feed, ended_lines, lines_of}

ended-cons : (line : List ℕ) (lines : List (List ℕ)) → 0 < length lines → ended_lines (line ∷ lines) ≡ line ∷ ended_lines lines
ended-cons [] [] h = absurd (omega arith)
ended-cons [] (l ∷ ls) h = refl
ended-cons (b ∷ bs) lines h = refl

ended-one : (line : List ℕ) → 0 < length line → ended_lines (line ∷ []) ≡ line ∷ []
ended-one [] h = absurd (omega arith)
ended-one (b ∷ bs) h = refl

pub lines_none : (bytes : List ℕ) → 0 < length bytes → position is_line_feed bytes ≡ None → lines_of bytes ≡ bytes ∷ lines_of []
lines_none bytes h e = ap ended_lines (cut_none is_line_feed bytes e) ∙ ended-one bytes h

pub lines_some : (bytes : List ℕ) (at : ℕ) → position is_line_feed bytes ≡ Some at → lines_of bytes ≡ take at bytes ∷ lines_of (take (length bytes - (at + 1)) (drop (at + 1) bytes))
lines_some bytes at e =
    ap ended_lines (cut_some is_line_feed bytes at 0 e)
    ∙ ended-cons (take at bytes) (slice_split is_line_feed (take (length bytes - (at + 1)) (drop (at + 1) bytes))) (omega (arith, length-slice_split is_line_feed (take (length bytes - (at + 1)) (drop (at + 1) bytes))))
