-- All lists as a map from priorities: a change of one list is a change of one value.
use Rattle.std.proofs.Common.{◌≡◌, ◌<◌, ℕ, true, false, Option, List, Some, drop, length, get_or-set_same, get_or-set_other, arith, ◌∙◌, ap, inl, inr}
use Rattle.std.specs.Prelude.{◌==◌, [], slice_set}
use Rattle.std.proofs.lemmas.Bool.{cases_eq}
use Rattle.k_ids.specs.declared.threads.ThreadId.{ThreadId}
use Rattle.k_model.specs.Maps.{upd}
use Rattle.k_ready.specs.Lists.{Ready, list_of, with_list}
use Rattle.k_ready.specs.Popped.{Level, highest, popped, without_level}
use Rattle.k_ready.proofs.Popped.{highest_first}

set_at : (lists : List (List ThreadId)) (p : ℕ) (ids : List ThreadId) → p < length lists → (q : ℕ) → list_of (slice_set lists p ids) q ≡ upd (list_of lists) p ids q
unfolding upd
set_at lists p ids l q = elim (cases_eq q p) [
  | inl e ↦ let same : (q == p) ≡ true = grind arith in rw same (ap (list_of (slice_set lists p ids)) e ∙ get_or-set_same lists p ids [] l)
  | inr ne ↦ let other : (q == p) ≡ false = grind arith in rw other (get_or-set_other lists p q ids [] ne)
]

pub list_changed : (r : Ready) (p : ℕ) (ids : List ThreadId) → p < length r.lists → list_of (with_list r p ids).lists ≡ upd (list_of r.lists) p ids
list_changed r p ids l = λ d q. set_at r.lists p ids l q d

pub list_popped : (r : Ready) (l : Level) → length r.lists ≡ 64 → highest r ≡ Some l → list_of (popped r).lists ≡ upd (list_of r.lists) l.priority (drop 1 (list_of r.lists l.priority))
list_popped r l size e =
    let inside = ((highest_first r l size).0 e).inside in
    ap (λ (o : Option Level). list_of (without_level r o).lists) e ∙ list_changed r l.priority _ (omega (arith, size, inside))
