-- Slots of which one is changed, as a world shows them.
use Rattle.std.proofs.Common.{◌≡◌, ℕ, ap, sym, subst, get_or, length, inl, inr, ◌∙◌}
use Rattle.std.specs.List.{slice_set}
use Rattle.std.proofs.lemmas.Bool.{cases_eq, cases_lt}
use Rattle.std.proofs.lemmas.List.{get_or-set_other, get_or-set_same, map-set, set_past}
use Rattle.std.specs.Prelude.{List}
use Rattle.k_script.specs.Script.{Script}
use Rattle.k_store.specs.declared.slots.Slot.{Slot}
use Rattle.k_store.specs.declared.slots.Slot.TheVariants as slot
use Rattle.k_store.specs.Stores.{Contents, IsPlaced, IsSlotPlaced, slot_at, slot_in, slots_in}

-- what holds of the old item and of what is put there
set_holds : {X : Type 0} (P : X → Type 0) → (xs : List X) (i j : ℕ) (y d : X) → P (get_or xs j d) → P y → P (get_or (slice_set xs i y) j d)
set_holds P xs i j y d h g = elim (cases_eq j i) [
  | inl e ↦ elim (cases_lt i (length xs)) [
    | inl l ↦ rw e (rw (get_or-set_same xs i y d l) g)
    | inr past ↦ rw (set_past xs i y past) h
  ]
  | inr n ↦ rw (get_or-set_other xs i j y d n) h
]

-- what is put there is this
pub slots_set : (script : Script) (slots : List Slot) (place : ℕ) (put item : Slot) → put ≡ item → slots_in script (slice_set slots place put) ≡ slice_set (slots_in script slots) place (slot_in script item)
slots_set script slots place put item e = ap (λ s. slots_in script (slice_set slots place s)) e ∙ map-set (slot_in script) slots place item

-- what is put there is placed too
pub placed_set : (script : Script) (words words' : List ℕ) (slots : List Slot) (place : ℕ) (put item : Slot) → put ≡ item → IsPlaced script (record { words = words; slots = slots }) → IsSlotPlaced script item → IsPlaced script (record { words = words'; slots = slice_set slots place put })
placed_set script words words' slots place put item e h g = record {
  rests = λ n. set_holds (IsSlotPlaced script) slots place n put slot.Away (h.rests n) (subst (IsSlotPlaced script) (sym e) g);
}

-- the same slots
pub placed_same : (script : Script) (s t : Contents) → t.slots ≡ s.slots → IsPlaced script s → IsPlaced script t
placed_same script s t e h = record { rests = λ n. subst (λ xs. IsSlotPlaced script (slot_at xs n)) (sym e) (h.rests n) }
