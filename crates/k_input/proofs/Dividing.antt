-- What is surely script, byte by byte.
use Rattle.std.proofs.Common.{◌≡◌, ℕ, ◌+◌, ◌<◌, ◌≤◌, ◌==◌, false, List, [], ◌∷◌, ◌++◌, length, refl, sym, ap, ◌∙◌, subst, arith, append_assoc, length-append, inl, inr, if◌then◌else◌}
use Rattle.std.specs.List.{onto_first}
use Rattle.std.proofs.lemmas.Bool.{cases_Bool, eqb-true}
use Rattle.std.proofs.lemmas.List.{append-nil}
use Rattle.k_input.specs.declared.divider.Begun.{Begun}
use Rattle.k_input.specs.declared.divider.Begun.TheVariants as begun
use Rattle.k_input.specs.declared.divider.Divider.{Divider}
use Rattle.k_input.specs.Division.{lines_in, before_divider, script_part}
use Rattle.k_input.specs.Counting.{begun_by, script_by, fed, fed_all}
use Rattle.k_input.proofs.ByLines.{some_line}

-- the bytes that may still divide
abbrev pub pending : Begun → List ℕ
pending begun.Nothing = []
pending begun.Dash = 45 ∷ []
pending begun.Dashes = 45 ∷ 45 ∷ []
pending begun.Script = []
pending begun.History = []

-- what is script behind the middle of a line of the script
abbrev pub inside : List (List ℕ) → List ℕ
inside [] = []
inside (last ∷ []) = last
inside (line ∷ next ∷ lines) = line ++ 10 ∷ before_divider (next ∷ lines)

-- what is still script, with the bytes that may divide
abbrev pub still : Begun → List ℕ → List ℕ
still begun.Nothing more = script_part more
still begun.Dash more = script_part (45 ∷ more)
still begun.Dashes more = script_part (45 ∷ 45 ∷ more)
still begun.Script more = inside (lines_in more)
still begun.History more = []

-- what becomes script for sure by a byte
abbrev pub added : Begun → ℕ → List ℕ
added begun.History b = []
added begun.Script b = b ∷ []
added begun.Dashes b = if b == 10 then [] else (45 ∷ 45 ∷ b ∷ [])
added begun.Dash b = if b == 45 then [] else (45 ∷ b ∷ [])
added begun.Nothing b = if b == 45 then [] else (b ∷ [])

abbrev pub IsWhole : Begun → List ℕ → List ℕ → Type 0
IsWhole begun.Nothing bytes front = bytes ≡ front ++ []
IsWhole begun.Dash bytes front = bytes ≡ front ++ 45 ∷ []
IsWhole begun.Dashes bytes front = bytes ≡ front ++ 45 ∷ 45 ∷ []
IsWhole begun.Script bytes front = bytes ≡ front ++ []
IsWhole begun.History bytes front = length front ≤ length bytes

pub record Divides (bytes : List ℕ) (d : Divider) : Type 0 where
  pub front : List ℕ
  pub script : d.script ≡ length front
  pub len : d.len ≡ length bytes
  pub whole : IsWhole d.begun bytes front
  pub rest : (more : List ℕ) → script_part (bytes ++ more) ≡ front ++ still d.begun more

pub nothing_divides : Divides [] (record { begun = begun.Nothing; script = 0; len = 0 })
nothing_divides = record { front = []; script = refl; len = refl; whole = refl; rest = λ more. refl }

-- the lines behind one more byte
lines_feed : (more : List ℕ) → lines_in (10 ∷ more) ≡ [] ∷ lines_in more
lines_feed more = refl

lines_other : (b : ℕ) (more : List ℕ) → (b == 10) ≡ false → lines_in (b ∷ more) ≡ onto_first b (lines_in more)
lines_other b more f = rw f refl

before_feed : (lines : List (List ℕ)) → 0 < length lines → before_divider ([] ∷ lines) ≡ 10 ∷ before_divider lines
before_feed [] h = absurd (omega arith)
before_feed (l ∷ ls) h = refl

before_dash_feed : (lines : List (List ℕ)) → 0 < length lines → before_divider ((45 ∷ []) ∷ lines) ≡ 45 ∷ 10 ∷ before_divider lines
before_dash_feed [] h = absurd (omega arith)
before_dash_feed (l ∷ ls) h = refl

before_dashes_feed : (lines : List (List ℕ)) → 0 < length lines → before_divider ((45 ∷ 45 ∷ []) ∷ lines) ≡ []
before_dashes_feed [] h = absurd (omega arith)
before_dashes_feed (l ∷ ls) h = refl

before_other : (b : ℕ) (lines : List (List ℕ)) → 0 < length lines → (b == 45) ≡ false → before_divider (onto_first b lines) ≡ b ∷ inside lines
before_other b [] h f = absurd (omega arith)
before_other b (l ∷ []) h f = rw f refl
before_other b (l ∷ n ∷ ls) h f = rw f refl

before_dash_other : (b : ℕ) (lines : List (List ℕ)) → 0 < length lines → (b == 45) ≡ false → before_divider (onto_first 45 (onto_first b lines)) ≡ 45 ∷ b ∷ inside lines
before_dash_other b [] h f = absurd (omega arith)
before_dash_other b (l ∷ []) h f = rw f refl
before_dash_other b (l ∷ n ∷ ls) h f = rw f refl

before_dashes_other : (b : ℕ) (lines : List (List ℕ)) → 0 < length lines → before_divider (onto_first 45 (onto_first 45 (onto_first b lines))) ≡ 45 ∷ 45 ∷ b ∷ inside lines
before_dashes_other b [] h = absurd (omega arith)
before_dashes_other b (l ∷ []) h = refl
before_dashes_other b (l ∷ n ∷ ls) h = refl

inside_feed : (lines : List (List ℕ)) → 0 < length lines → inside ([] ∷ lines) ≡ 10 ∷ before_divider lines
inside_feed [] h = absurd (omega arith)
inside_feed (l ∷ ls) h = refl

inside_other : (b : ℕ) (lines : List (List ℕ)) → 0 < length lines → inside (onto_first b lines) ≡ b ∷ inside lines
inside_other b [] h = absurd (omega arith)
inside_other b (l ∷ []) h = refl
inside_other b (l ∷ n ∷ ls) h = refl

-- A byte is a line feed, a dash, or neither.
pub data Kind (b : ℕ) : Type 0 where
  feed : b ≡ 10 → Kind b
  dash : b ≡ 45 → Kind b
  other : (b == 10) ≡ false → (b == 45) ≡ false → Kind b

kind_of : (b : ℕ) → Kind b
kind_of b = elim (cases_Bool (b == 10)) [
  | inl t ↦ feed (eqb-true b 10 t)
  | inr f ↦ elim (cases_Bool (b == 45)) [ inl t ↦ dash (eqb-true b 45 t) | inr g ↦ other f g ]
]

still_by : (g : Begun) (b : ℕ) (more : List ℕ) → Kind b → still g (b ∷ more) ≡ added g b ++ still (begun_by g b) more
still_by begun.Nothing b more (feed e) = rw e (before_feed (lines_in more) (some_line more))
still_by begun.Nothing b more (dash e) = rw e refl
still_by begun.Nothing b more (other f g) = rw (lines_other b more f, f, g) (before_other b (lines_in more) (some_line more) g)
still_by begun.Dash b more (feed e) = rw e (before_dash_feed (lines_in more) (some_line more))
still_by begun.Dash b more (dash e) = rw e refl
still_by begun.Dash b more (other f g) = rw (lines_other b more f, f, g) (before_dash_other b (lines_in more) (some_line more) g)
still_by begun.Dashes b more (feed e) = rw e (before_dashes_feed (lines_in more) (some_line more))
still_by begun.Dashes b more (dash e) = rw e (before_dashes_other 45 (lines_in more) (some_line more))
still_by begun.Dashes b more (other f g) = rw (lines_other b more f, f) (before_dashes_other b (lines_in more) (some_line more))
still_by begun.Script b more (feed e) = rw e (inside_feed (lines_in more) (some_line more))
still_by begun.Script b more (dash e) = rw e (inside_other 45 (lines_in more) (some_line more))
still_by begun.Script b more (other f g) = rw (lines_other b more f, f) (inside_other b (lines_in more) (some_line more))
still_by begun.History b more k = refl

shift : (bytes front dashes more left : List ℕ) (b : ℕ) → bytes ≡ front ++ dashes → dashes ++ b ∷ [] ≡ more ++ left → bytes ++ b ∷ [] ≡ (front ++ more) ++ left
shift bytes front dashes more left b h e = ap (λ (xs : List ℕ). xs ++ b ∷ []) h ∙ append_assoc front dashes (b ∷ []) ∙ ap (λ (xs : List ℕ). front ++ xs) e ∙ sym (append_assoc front more left)

whole_by : (g : Begun) (b : ℕ) (bytes front : List ℕ) → Kind b → IsWhole g bytes front → IsWhole (begun_by g b) (bytes ++ b ∷ []) (front ++ added g b)
whole_by begun.Nothing b bytes front (feed e) h = rw e (shift bytes front [] (10 ∷ []) [] 10 h refl)
whole_by begun.Nothing b bytes front (dash e) h = rw e (shift bytes front [] [] (45 ∷ []) 45 h refl)
whole_by begun.Nothing b bytes front (other f g) h = rw (f, g) (shift bytes front [] (b ∷ []) [] b h refl)
whole_by begun.Dash b bytes front (feed e) h = rw e (shift bytes front (45 ∷ []) (45 ∷ 10 ∷ []) [] 10 h refl)
whole_by begun.Dash b bytes front (dash e) h = rw e (shift bytes front (45 ∷ []) [] (45 ∷ 45 ∷ []) 45 h refl)
whole_by begun.Dash b bytes front (other f g) h = rw (f, g) (shift bytes front (45 ∷ []) (45 ∷ b ∷ []) [] b h refl)
whole_by begun.Dashes b bytes front (feed e) h = rw e (omega (arith, ap length h, length-append front (45 ∷ 45 ∷ []), length-append bytes (10 ∷ []), ap length (append-nil front)))
whole_by begun.Dashes b bytes front (dash e) h = rw e (shift bytes front (45 ∷ 45 ∷ []) (45 ∷ 45 ∷ 45 ∷ []) [] 45 h refl)
whole_by begun.Dashes b bytes front (other f g) h = rw f (shift bytes front (45 ∷ 45 ∷ []) (45 ∷ 45 ∷ b ∷ []) [] b h refl)
whole_by begun.Script b bytes front (feed e) h = rw e (shift bytes front [] (10 ∷ []) [] 10 h refl)
whole_by begun.Script b bytes front (dash e) h = rw e (shift bytes front [] (45 ∷ []) [] 45 h refl)
whole_by begun.Script b bytes front (other f g) h = rw f (shift bytes front [] (b ∷ []) [] b h refl)
whole_by begun.History b bytes front k h = omega (arith, h, length-append bytes (b ∷ []), ap length (append-nil front))

length_added : (g : Begun) (b : ℕ) → Kind b → length (added g b) ≡ script_by g b
length_added begun.Nothing b (feed e) = rw e refl
length_added begun.Nothing b (dash e) = rw e refl
length_added begun.Nothing b (other f g) = rw g refl
length_added begun.Dash b (feed e) = rw e refl
length_added begun.Dash b (dash e) = rw e refl
length_added begun.Dash b (other f g) = rw g refl
length_added begun.Dashes b (feed e) = rw e refl
length_added begun.Dashes b (dash e) = rw e refl
length_added begun.Dashes b (other f g) = rw f refl
length_added begun.Script b k = refl
length_added begun.History b k = refl

pub fed_divides : (bytes : List ℕ) (d : Divider) (b : ℕ) → Divides bytes d → Divides (bytes ++ b ∷ []) (fed d b)
fed_divides bytes d b h = record {
  front = h.front ++ added d.begun b;
  script = ap (λ (n : ℕ). n + script_by d.begun b) h.script ∙ sym (length-append h.front (added d.begun b) ∙ ap (λ (n : ℕ). length h.front + n) (length_added d.begun b (kind_of b)));
  len = omega (arith, h.len, length-append bytes (b ∷ []));
  whole = whole_by d.begun b bytes h.front (kind_of b) h.whole;
  rest = λ more. ap script_part (append_assoc bytes (b ∷ []) more) ∙ h.rest (b ∷ more) ∙ ap (λ (xs : List ℕ). h.front ++ xs) (still_by d.begun b more (kind_of b)) ∙ sym (append_assoc h.front (added d.begun b) (still (begun_by d.begun b) more));
}

pub all_divides : (bytes : List ℕ) (d : Divider) (more : List ℕ) → Divides bytes d → Divides (bytes ++ more) (fed_all d more)
all_divides bytes d [] h = subst (λ (xs : List ℕ). Divides xs d) (sym (append-nil bytes)) h
all_divides bytes d (b ∷ more) h = subst (λ (xs : List ℕ). Divides xs (fed_all (fed d b) more)) (append_assoc bytes (b ∷ []) more) (all_divides (bytes ++ b ∷ []) (fed d b) more (fed_divides bytes d b h))
