-- What a list says of each number after an entry is taken out.
use Rattle.std.proofs.Common.{◌≡◌, ◌≢◌, ◌+◌, ℕ, Bool, true, false, List, [], ◌∷◌, Option, Some, None, length, arith, refl, ◌∙◌, ap, cond, inl, inr}
use Rattle.std.specs.Prelude.{◌==◌, if◌then◌else◌}
use Rattle.std.proofs.lemmas.Grind.{common_steps}
use Rattle.std.proofs.lemmas.Bool.{cases_eq}
use Rattle.k_links.specs.Listed.{IsOnceEach, entry_of, first_number, number_after, number_before, stands, without}
use Rattle.k_links.specs.Links.{end_of, last_after, leads_to}
use Rattle.k_links.proofs.Appended.{exchanged, nothing_entry, nothing_after, nothing_before}

module _ {E : Type 0} (number : E → ℕ) where
  pub stands_without : (n k : ℕ) (es : List E) → IsOnceEach number es → stands number n (without number k es) ≡ (if k == n then false else stands number n es)
  stands_without n k [] o = grind arith
  stands_without n k (f ∷ es) o = grind (arith, common_steps, stands_without n k es)

  pub entry_without : (n k : ℕ) (es : List E) → IsOnceEach number es → entry_of number n (without number k es) ≡ (if k == n then None else entry_of number n es)
  entry_without n k [] o = grind arith
  entry_without n k (f ∷ es) o = grind (arith, common_steps, entry_without n k es, nothing_entry number n es)

  -- the neighbours of a number stand in the list, or are the one before it
  pub before_stands : (m n k : ℕ) (es : List E) → leads_to (number_before number (Some m) k es) n ≡ true → stands number n es ≡ false → m ≡ n
  before_stands m n k [] l s = grind arith
  before_stands m n k (f ∷ es) l s = grind (arith, common_steps, before_stands (number f) n k es)

  pub next_stands : (n k : ℕ) (es : List E) → leads_to (number_after number k es) n ≡ true → stands number n es ≡ true
  next_stands n k [] l = grind arith
  next_stands n k (f ∷ []) l = grind arith
  next_stands n k (f ∷ (g ∷ es)) l = grind (arith, common_steps, next_stands n k (g ∷ es))

  -- the entry that is taken out is the first of those behind f
  after_first : (n k : ℕ) (f g : E) (es : List E) → IsOnceEach number (f ∷ (g ∷ es)) → number g ≡ k → number_after number n (f ∷ es) ≡ (if k == n then None else if number f == n then first_number number es else number_after number n (f ∷ (g ∷ es)))
  after_first n k f g es o e = grind (arith, common_steps, nothing_after number n es)

  before_apart : (n k : ℕ) (f g : E) (es : List E) → IsOnceEach number (f ∷ (g ∷ es)) → leads_to (number_before number (Some (number g)) k es) n ≡ true → (number f == n) ≡ false
  before_apart n k f g es o l = grind (arith, common_steps, before_stands (number g) n k es)

  itself_apart : (n k : ℕ) (f g : E) (es : List E) → IsOnceEach number (f ∷ (g ∷ es)) → stands number k (g ∷ es) ≡ true → (k == n) ≡ true → (number f == n) ≡ false
  itself_apart n k f g es o s e = grind (arith, common_steps)

  Behind : ℕ → ℕ → E → List E → Type 0
  Behind n k f es = number_after number n (f ∷ without number k es) ≡ (if k == n then None else if leads_to (number_before number (Some (number f)) k es) n then number_after number k es else number_after number n (f ∷ es))

  behind_first : (n k : ℕ) (f g : E) (es : List E) → IsOnceEach number (f ∷ (g ∷ es)) → number g ≡ k → Behind n k f (g ∷ es)
  unfolding Behind
  behind_first n k f g es o e =
      let same : (number g == k) ≡ true = grind arith in
      rw (same, after_first n k f g es o e) refl

  behind_later : (n k : ℕ) (f g : E) (es : List E) → IsOnceEach number (f ∷ (g ∷ es)) → stands number k (g ∷ es) ≡ true → number g ≢ k → Behind n k g es → Behind n k f (g ∷ es)
  unfolding Behind
  behind_later n k f g es o s ne h =
      let apart : (number g == k) ≡ false = grind arith in
      let b : Bool = number f == n in
      let l : Bool = leads_to (number_before number (Some (number g)) k es) n in
      rw apart (ap (cond b (Some (number g))) h ∙ exchanged b (k == n) _ _ _ (itself_apart n k f g es o s) ∙ ap (cond (k == n) None) (exchanged b l _ _ _ (before_apart n k f g es o)))

  after_behind : (n k : ℕ) (f : E) (es : List E) → IsOnceEach number (f ∷ es) → stands number k es ≡ true → Behind n k f es
  after_behind n k f [] o s = grind arith
  after_behind n k f (g ∷ es) o s = elim (cases_eq (number g) k) [
    | inl e ↦ behind_first n k f g es o e
    | inr ne ↦ behind_later n k f g es o s ne (after_behind n k g es o.1 (grind arith))
  ]

  pub after_without : (n k : ℕ) (es : List E) → IsOnceEach number es → stands number k es ≡ true → number_after number n (without number k es) ≡ (if k == n then None else if leads_to (number_before number None k es) n then number_after number k es else number_after number n es)
  unfolding Behind
  after_without n k [] o s = grind arith
  after_without n k (f ∷ es) o s = grind (arith, common_steps, after_behind n k f es o, nothing_after number n es, o)

  Ahead : Option ℕ → ℕ → ℕ → List E → Type 0
  Ahead prior n k es = number_before number prior n (without number k es) ≡ (if k == n then None else if leads_to (number_after number k es) n then number_before number prior k es else number_before number prior n es)

  ahead_first : (prior : Option ℕ) (n k : ℕ) (f g : E) (es : List E) → IsOnceEach number (f ∷ (g ∷ es)) → number f ≡ k → Ahead prior n k (f ∷ (g ∷ es))
  unfolding Ahead
  ahead_first prior n k f g es o e = grind (arith, common_steps, nothing_before number prior n (g ∷ es))

  next_apart : (n k : ℕ) (f g : E) (es : List E) → IsOnceEach number (f ∷ (g ∷ es)) → leads_to (number_after number k (g ∷ es)) n ≡ true → (number f == n) ≡ false
  next_apart n k f g es o l = grind (arith, common_steps, next_stands n k (g ∷ es))

  ahead_later : (prior : Option ℕ) (n k : ℕ) (f g : E) (es : List E) → IsOnceEach number (f ∷ (g ∷ es)) → stands number k (f ∷ (g ∷ es)) ≡ true → number f ≢ k → Ahead (Some (number f)) n k (g ∷ es) → Ahead prior n k (f ∷ (g ∷ es))
  unfolding Ahead
  ahead_later prior n k f g es o s ne h =
      let apart : (number f == k) ≡ false = grind arith in
      let behind : stands number k (g ∷ es) ≡ true = grind arith in
      let b : Bool = number f == n in
      let l : Bool = leads_to (number_after number k (g ∷ es)) n in
      rw apart (ap (cond b prior) h ∙ exchanged b (k == n) _ _ _ (itself_apart n k f g es o behind) ∙ ap (cond (k == n) None) (exchanged b l _ _ _ (next_apart n k f g es o)))

  pub before_without : (prior : Option ℕ) (n k : ℕ) (es : List E) → IsOnceEach number es → stands number k es ≡ true → number_before number prior n (without number k es) ≡ (if k == n then None else if leads_to (number_after number k es) n then number_before number prior k es else number_before number prior n es)
  unfolding Ahead
  before_without prior n k [] o s = grind arith
  before_without prior n k (f ∷ []) o s = grind (arith, common_steps)
  before_without prior n k (f ∷ (g ∷ es)) o s = elim (cases_eq (number f) k) [
    | inl e ↦ ahead_first prior n k f g es o e
    | inr ne ↦ ahead_later prior n k f g es o s ne (before_without (Some (number f)) n k (g ∷ es) o.1 (grind arith))
  ]

  before_some : (m k : ℕ) (es : List E) (a b : Option ℕ) → stands number k es ≡ true → end_of (number_before number (Some m) k es) a b ≡ a
  before_some m k [] a b s = grind arith
  before_some m k (f ∷ es) a b s = grind (arith, common_steps, before_some (number f) k es a b)

  pub first_without : (k : ℕ) (es : List E) → stands number k es ≡ true → first_number number (without number k es) ≡ end_of (number_before number None k es) (first_number number es) (number_after number k es)
  first_without k [] s = grind arith
  first_without k (f ∷ es) s = grind (arith, common_steps, before_some (number f) k es)

  pub last_without : (prior : Option ℕ) (k : ℕ) (es : List E) → IsOnceEach number es → stands number k es ≡ true → last_after number prior (without number k es) ≡ end_of (number_after number k es) (last_after number prior es) (number_before number prior k es)
  last_without prior k [] o s = grind arith
  last_without prior k (f ∷ []) o s = grind (arith, common_steps)
  last_without prior k (f ∷ (g ∷ es)) o s = grind (arith, common_steps, last_without (Some (number f)) k (g ∷ es))

  pub length_without : (k : ℕ) (es : List E) → stands number k es ≡ true → length (without number k es) + 1 ≡ length es
  length_without k [] s = grind arith
  length_without k (f ∷ es) s = grind (arith, common_steps, length_without k es)

  pub once_without : (k : ℕ) (es : List E) → IsOnceEach number es → IsOnceEach number (without number k es)
  once_without k [] o = tt
  once_without k (f ∷ es) o = grind (arith, common_steps, once_without k es, stands_without (number f) k es)

  -- no entry is its own neighbour
  pub not_before : (k m : ℕ) (es : List E) → m ≢ k → leads_to (number_before number (Some m) k es) k ≡ false
  not_before k m [] ne = refl
  not_before k m (f ∷ es) ne = grind (arith, common_steps, not_before k (number f) es)

  pub not_before_first : (k : ℕ) (es : List E) → leads_to (number_before number None k es) k ≡ false
  not_before_first k [] = refl
  not_before_first k (f ∷ es) = grind (arith, common_steps, not_before k (number f) es)

  pub not_after : (k : ℕ) (es : List E) → IsOnceEach number es → leads_to (number_after number k es) k ≡ false
  not_after k [] o = refl
  not_after k (f ∷ []) o = grind (arith, common_steps)
  not_after k (f ∷ (g ∷ es)) o = grind (arith, common_steps, not_after k (g ∷ es))

  -- ---- threads by number and version
  pub entry_number : (n : ℕ) (es : List E) (e : E) → entry_of number n es ≡ Some e → number e ≡ n
  entry_number n [] e h = absurd (cc)
  entry_number n (f ∷ es) e h = grind (arith, common_steps, entry_number n es e)
