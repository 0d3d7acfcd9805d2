-- Cases of numbers, and of changed maps.
use Rattle.std.proofs.Common.{◌≡◌, ◌≢◌, ℕ, Bool, true, false, cond, refl, sym, ap, ◌∙◌, subst, inl, inr, Option, Some, None, List, arith}
use Rattle.std.proofs.lemmas.Bool.Decides.{eqb_tells}
use Rattle.k_ids.specs.declared.state_word.StateWord.{StateWord}
use Rattle.k_model.specs.Maps.{upd}
use Rattle.k_model.proofs.Maps.{upd_same, upd_other, upd_tells}
use Rattle.k_senders.specs.declared.entries.SenderEntry.{SenderEntry}
use Rattle.k_board.specs.Words.{Seen}
use Rattle.k_board.specs.Steps.{write, with_word}

pub if_cases : {A : Type 0} (P : A → Type 0) (c : Bool) (x y : A) → (c ≡ true → P x) → (c ≡ false → P y) → P (cond c x y)
if_cases P true x y h k = h refl
if_cases P false x y h k = k refl

-- LOCKS OF OTHERS

pub acquired : (o : ℕ → Option ℕ) (n i k : ℕ) → o n ≡ None → (t : ℕ) → o t ≡ Some k → upd o n (Some i) t ≡ Some k
acquired o n i k free t h = grind (arith, upd_tells)

pub released : (o : ℕ → Option ℕ) (n i k : ℕ) → o n ≡ Some i → k ≢ i → (t : ℕ) → o t ≡ Some k → upd o n None t ≡ Some k
released o n i k mine ne t h = grind (arith, upd_tells)

pub kept_queue : (o : ℕ → Option ℕ) (q : ℕ → List SenderEntry) (n i k : ℕ) (es : List SenderEntry) → o n ≡ Some i → k ≢ i → (t : ℕ) → o t ≡ Some k → upd q n es t ≡ q t
kept_queue o q n i k es mine ne t h = upd_other q n es t (λ e. ne (some_is (sym h ∙ ap o e ∙ mine)))
  where
    some_is : {a c : ℕ} → Some a ≡ Some c → a ≡ c
    some_is e = cc

pub not_both : {k i : ℕ} → k ≢ i → {o : Option ℕ} → o ≡ Some i → o ≡ Some k → ⊥
not_both ne mine h = ne cc

pub kept_lock : {k i : ℕ} → k ≢ i → {o : Option ℕ} (v : Option ℕ) → o ≡ Some i → o ≡ Some k → v ≡ Some k
kept_lock ne v mine h = absurd (ne cc)

pub kept_free : {k : ℕ} {o : Option ℕ} (v : Option ℕ) → o ≡ None → o ≡ Some k → v ≡ Some k
kept_free v free h = absurd cc

-- a fact of each number, by one or two numbers and the others
pub by_one : (P : ℕ → Seen → Type 0) (f : ℕ → Seen) (a : ℕ) → P a (f a) → ((t : ℕ) → t ≢ a → P t (f t)) → (t : ℕ) → P t (f t)
by_one P f a h k t = elim (eqb_tells t a) [ inl e ↦ subst (λ (n : ℕ). P n (f n)) (sym e.1) h | inr e ↦ k t e.1 ]

pub by_two : (P : ℕ → Seen → Type 0) (f : ℕ → Seen) (a c : ℕ) → P a (f a) → P c (f c) → ((t : ℕ) → t ≢ a → t ≢ c → P t (f t)) → (t : ℕ) → P t (f t)
by_two P f a c h k l t = elim (eqb_tells t a) [ inl e ↦ subst (λ (n : ℕ). P n (f n)) (sym e.1) h | inr e ↦ elim (eqb_tells t c) [ inl d ↦ subst (λ (n : ℕ). P n (f n)) (sym d.1) k | inr d ↦ l t e.1 d.1 ] ]

module _ (P : ℕ → Seen → Type 0) (s : ℕ → Seen) where
  -- one number changed
  pub changed_one : (a : ℕ) (v : Seen) → P a v → ((t : ℕ) → P t (s t)) → (t : ℕ) → P t (upd s a v t)
  changed_one a v h k = by_one P (upd s a v) a (subst (P a) (sym (upd_same s a v)) h) (λ t ne. subst (P t) (sym (upd_other s a v t ne)) (k t))

  -- noted, and then its word written
  pub changed_written : (a : ℕ) (v : Seen) (w : StateWord) → P a (with_word v w) → ((t : ℕ) → P t (s t)) → (t : ℕ) → P t (write (upd s a v) a w t)
  changed_written a v w h k = by_one P (write (upd s a v) a w) a (subst (P a) (sym at) h) (λ t ne. subst (P t) (sym (upd_other (upd s a v) a _ t ne ∙ upd_other s a v t ne)) (k t))
    where
      at : write (upd s a v) a w a ≡ with_word v w
      at = upd_same (upd s a v) a _ ∙ ap (λ (u : Seen). with_word u w) (upd_same s a v)

  -- noted, another noted, and then the first one's word written
  pub changed_passed : (a c : ℕ) (v : Seen) (g : Seen → Seen) (w : StateWord) → c ≢ a → P a (with_word v w) → P c (g (s c)) → ((t : ℕ) → P t (s t)) → (t : ℕ) → P t (write (upd (upd s a v) c (g (upd s a v c))) a w t)
  changed_passed a c v g w ne h k l = by_two P (write (upd (upd s a v) c (g (upd s a v c))) a w) a c (subst (P a) (sym at_a) h) (subst (P c) (sym at_c) k) (λ t na nc. subst (P t) (sym (at_t t na nc)) (l t))
    where
      at_a : write (upd (upd s a v) c (g (upd s a v c))) a w a ≡ with_word v w
      at_a = upd_same (upd (upd s a v) c (g (upd s a v c))) a _ ∙ ap (λ (u : Seen). with_word u w) (upd_other (upd s a v) c _ a (λ e. ne (sym e)) ∙ upd_same s a v)

      at_c : write (upd (upd s a v) c (g (upd s a v c))) a w c ≡ g (s c)
      at_c = upd_other (upd (upd s a v) c (g (upd s a v c))) a _ c ne ∙ upd_same (upd s a v) c _ ∙ ap g (upd_other s a v c ne)

      at_t : (t : ℕ) → t ≢ a → t ≢ c → write (upd (upd s a v) c (g (upd s a v c))) a w t ≡ s t
      at_t t na nc = upd_other (upd (upd s a v) c (g (upd s a v c))) a _ t na ∙ upd_other (upd s a v) c _ t nc ∙ upd_other s a v t na

  -- one number noted, and another's word and ledger changed
  pub changed_other : (a c : ℕ) (v u : Seen) → c ≢ a → P a v → P c u → ((t : ℕ) → P t (s t)) → (t : ℕ) → P t (upd (upd s a v) c u t)
  changed_other a c v u ne h k l = by_two P (upd (upd s a v) c u) a c (subst (P a) (sym (upd_other (upd s a v) c u a (λ e. ne (sym e)) ∙ upd_same s a v)) h) (subst (P c) (sym (upd_same (upd s a v) c u)) k) (λ t na nc. subst (P t) (sym (upd_other (upd s a v) c u t nc ∙ upd_other s a v t na)) (l t))

module _ (s : ℕ → Seen) where
  pub passed_me : (a c : ℕ) (v : Seen) (g : Seen → Seen) (w : StateWord) → c ≢ a → write (upd (upd s a v) c (g (upd s a v c))) a w a ≡ with_word v w
  passed_me a c v g w ne = upd_same (upd (upd s a v) c (g (upd s a v c))) a _ ∙ ap (λ (u : Seen). with_word u w) (upd_other (upd s a v) c _ a (λ e. ne (sym e)) ∙ upd_same s a v)

  pub passed_other : (a c : ℕ) (v : Seen) (g : Seen → Seen) (w : StateWord) → c ≢ a → write (upd (upd s a v) c (g (upd s a v c))) a w c ≡ g (s c)
  passed_other a c v g w ne = upd_other (upd (upd s a v) c (g (upd s a v c))) a _ c ne ∙ upd_same (upd s a v) c _ ∙ ap g (upd_other s a v c ne)
