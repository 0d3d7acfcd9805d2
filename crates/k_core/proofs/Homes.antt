-- What the locks guard when a run begins.
use Rattle.std.proofs.Common.{◌≡◌, ℕ, ◌<◌, ◌≤◌, List, [], length, inl, inr, refl, sym, subst, arith}
use Rattle.std.specs.List.{All}
use Rattle.std.proofs.lemmas.Bool.{cases_lt, le-ltb, lt-ltb}
use Rattle.std.proofs.lemmas.List.{get_or_past}
use Rattle.k_locks.specs.declared.goods.Goods.{Goods}
use Rattle.k_locks.specs.declared.goods.Goods.TheVariants as goods
use Rattle.k_senders.specs.Queue.{Queue}
use Rattle.k_script.specs.Script.{Script}
use Rattle.k_world.specs.Boot.{boot_home, boot_numbers, boot_queue, boot_ready}
use Rattle.k_world.specs.Worlds.{Guarded}
use Rattle.k_store.specs.declared.slots.Slot.{Slot}
use Rattle.k_store.specs.declared.slots.Slot.TheVariants as slot
use Rattle.k_store.specs.Stores.{IsSlotPlaced, slot_at}

pub home_of_table : (script : Script) (number : ℕ) (g : Goods) → script.table ≤ 64 → number ≡ 72 →
    g ≡ goods.Numbers (boot_numbers script) → Guarded g ≡ boot_home script number
home_of_table script number g small n e = rw (e, n, le-ltb 72 script.table (omega (arith, small))) refl

pub home_of_ready : (script : Script) (number : ℕ) (g : Goods) → script.table ≤ 64 → number ≡ 73 →
    g ≡ goods.Ready (boot_ready script) → Guarded g ≡ boot_home script number
home_of_ready script number g small n e = rw (e, n, le-ltb 73 script.table (omega (arith, small))) refl

pub home_of_thread : (script : Script) (number : ℕ) (g : Goods) → number < script.table →
    g ≡ goods.Senders (boot_queue script) → Guarded g ≡ boot_home script number
home_of_thread script number g inside e = rw (e, lt-ltb number script.table inside) refl

pub opened_queue : (script : Script) (q : Queue) → q.entries ≡ [] → q.room ≡ script.table →
    q ≡ boot_queue script
opened_queue script q e r = λ i. record { entries = e i; room = r i }

-- nothing lies past the end
pub all_rest : (script : Script) (slots : List Slot) → All (IsSlotPlaced script) slots → (place : ℕ) →
    IsSlotPlaced script (slot_at slots place)
all_rest script slots h place = elim (cases_lt place (length slots)) [
  | inl l ↦ h place slot.Away l
  | inr past ↦ subst (IsSlotPlaced script) (sym (get_or_past slots place slot.Away past)) tt
]
