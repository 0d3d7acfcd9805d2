-- Each number's last call stays the last one of the thread that the number shows.
use Rattle.std.proofs.Common.{◌≡◌, ◌≢◌, ℕ, ◌<◌, List, length, get_or, set, sym, ap, ◌∙◌, subst, length-set, get_or-set_same, get_or-set_other, arith, inl, inr}
use Rattle.std.proofs.lemmas.Bool.{cases_eq}
use Rattle.k_machine.specs.declared.last_call.LastCall.{LastCall}
use Rattle.k_machine.specs.Replies.{AreLast, no_call}
use Rattle.k_model.specs.State.{Place, nowhere}

-- a fact of a list with one element set, at any place
set_cases : {A : Type 0} (P : A → Type 0) (xs : List A) (n : ℕ) (x d : A) (t : ℕ) → n < length xs → (t ≡ n → P x) → (t ≢ n → P (get_or xs t d)) → P (get_or (set xs n x) t d)
set_cases P xs n x d t inside same other = elim (cases_eq t n) [
  | inl e ↦ subst (λ (j : ℕ). P (get_or (set xs n x) j d)) (sym e) (subst P (sym (get_or-set_same xs n x d inside)) (same e))
  | inr ne ↦ subst P (sym (get_or-set_other xs n t x d ne)) (other ne)
]

-- A place changes, and keeps its version and its serial.
pub last_set : (ps : List Place) (cs : List LastCall) (n : ℕ) (p : Place) → n < length ps → p.version ≡ (get_or ps n nowhere).version → p.serial ≡ (get_or ps n nowhere).serial → AreLast ps cs → AreLast (set ps n p) cs
last_set ps cs n p inside ev es l = record {
  size = l.size ∙ sym (length-set ps n p);
  version = λ t k. set_cases (λ q. (get_or cs t no_call).version ≡ q.version) ps n p nowhere t inside
      (λ e. l.version t (omega (arith, k, length-set ps n p)) ∙ ap (λ (j : ℕ). (get_or ps j nowhere).version) e ∙ sym ev)
      (λ _. l.version t (omega (arith, k, length-set ps n p)));
  serial = λ t k. set_cases (λ q. (get_or cs t no_call).serial ≡ q.serial) ps n p nowhere t inside
      (λ e. l.serial t (omega (arith, k, length-set ps n p)) ∙ ap (λ (j : ℕ). (get_or ps j nowhere).serial) e ∙ sym es)
      (λ _. l.serial t (omega (arith, k, length-set ps n p)));
}
