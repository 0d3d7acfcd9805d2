-- The two parts of an input, line by line.
use Rattle.std.proofs.Common.{◌≡◌, ℕ, ◌+◌, ◌-◌, ◌<◌, ◌≤◌, Bool, true, false, List, [], ◌∷◌, ◌++◌, length, take, drop, refl, sym, ap, ◌∙◌, arith, Some, None, position, append_assoc, inl, inr, get_or, take-add}
use Rattle.std.specs.List.{onto_first}
use Rattle.std.proofs.lemmas.List.Splits.{length-slice_split}
use Rattle.std.proofs.lemmas.List.{drop-drop, take_all, length-drop, append-nil, take-append-drop, take_more}
use Rattle.std.proofs.lemmas.List.Quantifiers.{position-Some}
use Rattle.std.proofs.lemmas.Bool.{cases_Bool, eqb-true}
use Rattle.k_input.specs.Division.{is_line_feed, lines_in, is_divider, before_divider, behind_divider, joined_lines, script_part, history_part}
use Rattle.k_input.proofs.Cut.{cut_none, cut_some, position_at}

-- Behind a line that is ended there is always a next one.
pub passed : (line : List ℕ) (lines : List (List ℕ)) → 0 < length lines → is_divider line ≡ false
    → (before_divider (line ∷ lines) ≡ line ++ 10 ∷ before_divider lines) × (behind_divider (line ∷ lines) ≡ behind_divider lines)
passed line [] h f = absurd (omega arith)
passed line (next ∷ lines) h f = (rw f refl, rw f refl)

pub divided : (line : List ℕ) (lines : List (List ℕ)) → 0 < length lines → is_divider line ≡ true
    → (before_divider (line ∷ lines) ≡ []) × (behind_divider (line ∷ lines) ≡ joined_lines lines)
divided line [] h t = absurd (omega arith)
divided line (next ∷ lines) h t = (rw t refl, rw t refl)

pub some_line : (bytes : List ℕ) → 0 < length (lines_in bytes)
some_line bytes = omega (arith, length-slice_split is_line_feed bytes)

joined-behind : (lines : List (List ℕ)) → 0 < length lines → joined_lines ([] ∷ lines) ≡ 10 ∷ joined_lines lines
joined-behind [] h = absurd (omega arith)
joined-behind (line ∷ lines) h = refl

joined-onto : (b : ℕ) (lines : List (List ℕ)) → 0 < length lines → joined_lines (onto_first b lines) ≡ b ∷ joined_lines lines
joined-onto b [] h = absurd (omega arith)
joined-onto b (line ∷ []) h = refl
joined-onto b (line ∷ next ∷ lines) h = refl

pub joined-lines_in : (bytes : List ℕ) → joined_lines (lines_in bytes) ≡ bytes
joined-lines_in [] = refl
joined-lines_in (b ∷ bytes) = elim (cases_Bool (is_line_feed b)) [
  | inl t ↦ rw t (joined-behind (lines_in bytes) (some_line bytes) ∙ ap (λ (x : ℕ). x ∷ joined_lines (lines_in bytes)) (sym (eqb-true b 10 t)) ∙ ap (λ (xs : List ℕ). b ∷ xs) (joined-lines_in bytes))
  | inr f ↦ rw f (joined-onto b (lines_in bytes) (some_line bytes) ∙ ap (λ (xs : List ℕ). b ∷ xs) (joined-lines_in bytes))
]

-- THE LOOP'S STEPS: the rest of the input from a place on, and where its first line ends

pub last_divides : (rest : List ℕ) → position is_line_feed rest ≡ None → is_divider rest ≡ true → (script_part rest ≡ []) × (history_part rest ≡ [])
last_divides rest e t =
    let one : lines_in rest ≡ rest ∷ [] = cut_none is_line_feed rest e in
    (ap before_divider one ∙ rw t refl, ap behind_divider one)

pub last_is_script : (rest : List ℕ) → position is_line_feed rest ≡ None → is_divider rest ≡ false → (script_part rest ≡ rest) × (history_part rest ≡ [])
last_is_script rest e f =
    let one : lines_in rest ≡ rest ∷ [] = cut_none is_line_feed rest e in
    (ap before_divider one ∙ rw f refl, ap behind_divider one)

pub line_divides : (rest : List ℕ) (end : ℕ) → position is_line_feed rest ≡ Some end → is_divider (take end rest) ≡ true
    → (script_part rest ≡ []) × (history_part rest ≡ drop (end + 1) rest)
line_divides rest end e t =
    let cut : lines_in rest ≡ take end rest ∷ lines_in (drop (end + 1) rest) = cut_some is_line_feed rest end e in
    let both = divided (take end rest) (lines_in (drop (end + 1) rest)) (some_line (drop (end + 1) rest)) t in
    (ap before_divider cut ∙ both.0, ap behind_divider cut ∙ both.1 ∙ joined-lines_in (drop (end + 1) rest))

pub line_passed : (rest : List ℕ) (end : ℕ) → position is_line_feed rest ≡ Some end → is_divider (take end rest) ≡ false
    → (script_part rest ≡ take end rest ++ 10 ∷ script_part (drop (end + 1) rest)) × (history_part rest ≡ history_part (drop (end + 1) rest))
line_passed rest end e f =
    let cut : lines_in rest ≡ take end rest ∷ lines_in (drop (end + 1) rest) = cut_some is_line_feed rest end e in
    let both = passed (take end rest) (lines_in (drop (end + 1) rest)) (some_line (drop (end + 1) rest)) f in
    (ap before_divider cut ∙ both.0, ap behind_divider cut ∙ both.1)

-- THE SAME, as slices of the whole input

rest_at : (xs : List ℕ) (i : ℕ) → take (length xs - i) (drop i xs) ≡ drop i xs
rest_at xs i = take_all (length xs - i) (drop i xs) (omega (arith, length-drop i xs))

found_in : (bytes : List ℕ) (at : ℕ) (o : _) → o ≡ position is_line_feed (take (length bytes - at) (drop at bytes)) → position is_line_feed (drop at bytes) ≡ o
found_in bytes at o e = sym (e ∙ ap (position is_line_feed) (rest_at bytes at))

divider_in : (bytes : List ℕ) (at end : ℕ) (v w : Bool) → v ≡ w → v ≡ is_divider (take (at + end - at) (drop at bytes)) → is_divider (take end (drop at bytes)) ≡ w
divider_in bytes at end v w e f =
    let same : at + end - at ≡ end = omega arith in
    sym (ap (λ (n : ℕ). is_divider (take n (drop at bytes))) same) ∙ sym f ∙ e

pub divides_at : (bytes : List ℕ) (at end : ℕ) (v : Bool) → Some end ≡ position is_line_feed (take (length bytes - at) (drop at bytes)) → v ≡ true → v ≡ is_divider (take (at + end - at) (drop at bytes))
    → script_part bytes ≡ take at bytes ++ script_part (drop at bytes) → history_part bytes ≡ history_part (drop at bytes)
    → (take at bytes ≡ script_part bytes) × (take (length bytes - (at + end + 1)) (drop (at + end + 1) bytes) ≡ history_part bytes)
divides_at bytes at end v p t d s h =
    let both = line_divides (drop at bytes) end (found_in bytes at (Some end) p) (divider_in bytes at end v true t d) in
    let same : end + 1 + at ≡ at + end + 1 = omega arith in (
      sym (s ∙ ap (λ (xs : List ℕ). take at bytes ++ xs) both.0 ∙ append-nil (take at bytes)),
      rest_at bytes (at + end + 1) ∙ sym (h ∙ both.1 ∙ drop-drop (end + 1) at bytes ∙ ap (λ (n : ℕ). drop n bytes) (omega arith)),
    )

take_line : (rest : List ℕ) (end : ℕ) → position is_line_feed rest ≡ Some end → take (end + 1) rest ≡ take end rest ++ 10 ∷ []
take_line rest end p =
    let at = position-Some is_line_feed rest end 0 p in
    take_more rest end 0 at.0 ∙ ap (λ (b : ℕ). take end rest ++ b ∷ []) (eqb-true (get_or rest end 0) 10 at.1)

regroup : (xs ys zs : List ℕ) → xs ++ (ys ++ 10 ∷ zs) ≡ (xs ++ (ys ++ 10 ∷ [])) ++ zs
regroup xs ys zs = sym (append_assoc xs (ys ++ 10 ∷ []) zs ∙ ap (λ (l : List ℕ). xs ++ l) (append_assoc ys (10 ∷ []) zs))

pub passed_at : (bytes : List ℕ) (at end : ℕ) (v : Bool) → Some end ≡ position is_line_feed (take (length bytes - at) (drop at bytes)) → v ≡ false → v ≡ is_divider (take (at + end - at) (drop at bytes))
    → script_part bytes ≡ take at bytes ++ script_part (drop at bytes) → history_part bytes ≡ history_part (drop at bytes)
    → (script_part bytes ≡ take (at + (end + 1)) bytes ++ script_part (drop (at + (end + 1)) bytes)) × (history_part bytes ≡ history_part (drop (at + (end + 1)) bytes))
passed_at bytes at end v p f d s h =
    let found = found_in bytes at (Some end) p in
    let both = line_passed (drop at bytes) end found (divider_in bytes at end v false f d) in
    let dropped : drop (end + 1) (drop at bytes) ≡ drop (at + (end + 1)) bytes = drop-drop (end + 1) at bytes ∙ ap (λ (n : ℕ). drop n bytes) (omega arith) in
    let front : take (at + (end + 1)) bytes ≡ take at bytes ++ (take end (drop at bytes) ++ 10 ∷ []) = take-add at (end + 1) bytes ∙ ap (λ (xs : List ℕ). take at bytes ++ xs) (take_line (drop at bytes) end found) in (
      s ∙ ap (λ (xs : List ℕ). take at bytes ++ xs) both.0 ∙ regroup (take at bytes) (take end (drop at bytes)) (script_part (drop (end + 1) (drop at bytes)))
          ∙ ap (λ (xs : List ℕ). xs ++ script_part (drop (end + 1) (drop at bytes))) (sym front)
          ∙ ap (λ (xs : List ℕ). take (at + (end + 1)) bytes ++ script_part xs) dropped,
      h ∙ both.1 ∙ ap history_part dropped,
    )

pub ends_at : (bytes : List ℕ) (at : ℕ) → None ≡ position is_line_feed (take (length bytes - at) (drop at bytes)) → (v : Bool) → v ≡ true → v ≡ is_divider (take (length bytes - at) (drop at bytes))
    → script_part bytes ≡ take at bytes ++ script_part (drop at bytes) → history_part bytes ≡ history_part (drop at bytes)
    → (take at bytes ≡ script_part bytes) × ([] ≡ history_part bytes)
ends_at bytes at p v t d s h =
    let both = last_divides (drop at bytes) (found_in bytes at None p) (ap is_divider (sym (rest_at bytes at)) ∙ sym d ∙ t) in
    (sym (s ∙ ap (λ (xs : List ℕ). take at bytes ++ xs) both.0 ∙ append-nil (take at bytes)), sym (h ∙ both.1))

pub whole_at : (bytes : List ℕ) (at : ℕ) → None ≡ position is_line_feed (take (length bytes - at) (drop at bytes)) → (v : Bool) → v ≡ false → v ≡ is_divider (take (length bytes - at) (drop at bytes))
    → script_part bytes ≡ take at bytes ++ script_part (drop at bytes) → history_part bytes ≡ history_part (drop at bytes)
    → (bytes ≡ script_part bytes) × ([] ≡ history_part bytes)
whole_at bytes at p v f d s h =
    let both = last_is_script (drop at bytes) (found_in bytes at None p) (ap is_divider (sym (rest_at bytes at)) ∙ sym d ∙ f) in
    (sym (s ∙ ap (λ (xs : List ℕ). take at bytes ++ xs) both.0 ∙ take-append-drop at bytes), sym (h ∙ both.1))

pub within_at : (bytes : List ℕ) (at end : ℕ) → Some end ≡ position is_line_feed (take (length bytes - at) (drop at bytes)) → at ≤ length bytes → at + (end + 1) ≤ length bytes
within_at bytes at end p h =
    let found = position_at is_line_feed (drop at bytes) end (found_in bytes at (Some end) p) in
    omega (arith, found.0, found.1, length-drop at bytes)
