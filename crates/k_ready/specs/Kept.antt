-- What the fields keep: where each number stands, and which lists have entries.
use Rattle.std.specs.Prelude.{◌≡◌, ◌<◌, ℕ, true, Option, Some, None, List, length, slice_index_or}
use Rattle.std.specs.Int.{bit_at}
use Rattle.k_ids.specs.declared.threads.ThreadId.{ThreadId}
use Rattle.k_ready.specs.Lists.{list_of, mask_bit, stands}

-- the priority of the list in which a number stands
abbrev pub place_of : List (Option ℕ) → ℕ → Option ℕ
place_of places n = slice_index_or places n None

pub record IsKept (lists : List (List ThreadId)) (places : List (Option ℕ)) (mask : ℕ) : Type 0 where
  pub size : length lists ≡ 64
  pub numbers : length places ≡ 64
  pub placed : (n priority : ℕ) → stands n (list_of lists priority) ≡ true → place_of places n ≡ Some priority
  pub standing : (n priority : ℕ) → place_of places n ≡ Some priority → stands n (list_of lists priority) ≡ true
  pub masked : (priority : ℕ) → priority < 64 → bit_at mask priority ≡ mask_bit (list_of lists priority)
