-- The numbers of a call's marks, with one mark more in the log.
use Rattle.std.proofs.Common.{◌≡◌, ℕ, ◌+◌, true, false, List, [], ◌∷◌, ◌++◌, length, map, refl, ap, ◌∙◌, inl, inr}
use Rattle.std.specs.Prelude.{◌==◌}
use Rattle.std.specs.List.{filter}
use Rattle.std.proofs.lemmas.Bool.{and_from, and_parts, cases_Bool, eq-eqb, eqb-true}
use Rattle.std.proofs.lemmas.List.{append-nil, length_push, map-append}
use Rattle.std.proofs.lemmas.List.Elements.{filter-append}
use Rattle.k_context.specs.declared.owner.Owner.{Owner}
use Rattle.k_carrier.specs.declared.marks.StepMark.{StepMark}
use Rattle.k_world.specs.Lawful.{belongs_to, numbers_of}
use Rattle.k_world.specs.Marks.{same_owner}
use Rattle.k_world.proofs.Steps.{owner_same, owner_self}

numbers_append : (o : Owner) (serial : ℕ) (marks more : List StepMark) →
    numbers_of o serial (marks ++ more) ≡ numbers_of o serial marks ++ numbers_of o serial more
numbers_append o serial marks more =
    ap (map (λ (x : StepMark). x.number)) (filter-append (belongs_to o serial) marks more)
    ∙ map-append (λ (x : StepMark). x.number) (filter (belongs_to o serial) marks) (filter (belongs_to o serial) more)

-- a mark of another call
pub numbers_other : (o : Owner) (serial : ℕ) (marks : List StepMark) (m : StepMark) → belongs_to o serial m ≡ false →
    numbers_of o serial (marks ++ m ∷ []) ≡ numbers_of o serial marks
numbers_other o serial marks m f = numbers_append o serial marks (m ∷ []) ∙ rw f (append-nil (numbers_of o serial marks))

-- a mark of this call
pub numbers_own : (marks : List StepMark) (m : StepMark) →
    length (numbers_of m.owner m.serial (marks ++ m ∷ [])) ≡ length (numbers_of m.owner m.serial marks) + 1
numbers_own marks m =
    ap length (numbers_append m.owner m.serial marks (m ∷ []) ∙ rw own refl)
    ∙ length_push (numbers_of m.owner m.serial marks) m.number
  where
    own : belongs_to m.owner m.serial m ≡ true
    own = and_from (same_owner m.owner m.owner) (m.serial == m.serial) (owner_self m.owner) (eq-eqb m.serial m.serial refl)

pub not_of_owner : (o : Owner) (serial : ℕ) (m : StepMark) → (m.owner ≡ o → ⊥) → belongs_to o serial m ≡ false
not_of_owner o serial m ne = elim (cases_Bool (belongs_to o serial m)) [
  | inl t ↦ absurd (ne (owner_same m.owner o (and_parts (same_owner m.owner o) (m.serial == serial) t).0))
  | inr f ↦ f
]

pub not_of_serial : (o : Owner) (serial : ℕ) (m : StepMark) → (m.serial ≡ serial → ⊥) → belongs_to o serial m ≡ false
not_of_serial o serial m ne = elim (cases_Bool (belongs_to o serial m)) [
  | inl t ↦ absurd (ne (eqb-true m.serial serial (and_parts (same_owner m.owner o) (m.serial == serial) t).1))
  | inr f ↦ f
]

pub not_both : (o : Owner) (serial : ℕ) (m : StepMark) → (m.owner ≡ o → m.serial ≡ serial → ⊥) → belongs_to o serial m ≡ false
not_both o serial m ne = elim (cases_Bool (belongs_to o serial m)) [
  | inl t ↦
      let both = and_parts (same_owner m.owner o) (m.serial == serial) t in
      absurd (ne (owner_same m.owner o both.0) (eqb-true m.serial serial both.1))
  | inr f ↦ f
]
