-- What the list of numbers tells of the specification's state.
use Rattle.std.proofs.Common.{◌≡◌, ℕ, zero, suc, ◌+◌, ◌<◌, Bool, true, false, not, ◌&&◌, eqb, refl, sym, ap, ◌∙◌, arith, Some, None}
use Rattle.std.specs.Prelude.{if◌then◌else◌, nat_lt}
use Rattle.std.specs.Option.{option_or}
use Rattle.k_ids.specs.declared.threads.Status.{Status}
use Rattle.k_locks.specs.Numbers.{version_at, lowest_free}
use Rattle.k_locks.specs.Numbers.{is_present as is_there, is_free as is_free_number, alive as alive_numbers, worn as worn_numbers, is_worn}
use Rattle.k_model.specs.Maps.{lowest, count}
use Rattle.k_model.specs.State.{KernelState, is_dead}
use Rattle.k_model.specs.Step.{is_free, alive, worn, last_version}
use Rattle.k_shown.specs.Memory.{Memory, Shows}
use Rattle.k_shown.specs.Sound.{IsSoundNumbers}

pub lowest_same : (f g : ℕ → Bool) (b : ℕ) → ((n : ℕ) → n < b → f n ≡ g n) → lowest f b ≡ lowest g b
lowest_same f g zero h = refl
lowest_same f g (suc n) h = λ d. option_or (lowest_same f g n (λ i l. h i (omega (arith, l))) d) (if (h n (omega arith)) d then Some n else None)

pub count_same : (f g : ℕ → Bool) (b : ℕ) → ((n : ℕ) → n < b → f n ≡ g n) → count f b ≡ count g b
count_same f g zero h = refl
count_same f g (suc n) h = λ d. count_same f g n (λ i l. h i (omega (arith, l))) d + (if (h n (omega arith)) d then 1 else 0)

not_not : (b : Bool) → not (not b) ≡ b
not_not true = refl
not_not false = refl

module _ (m : Memory) (k : KernelState) (h : Shows m k) (s : IsSoundNumbers m) where
  there_same : (n : ℕ) → n < m.size → is_there m.numbers n ≡ not (is_dead (k.place n).status)
  there_same n l = s.present n l ∙ ap (λ (x : Status). not (is_dead x)) (sym (h.status n))

  version_same : (n : ℕ) → n < m.size → version_at m.numbers n ≡ (k.place n).version
  version_same n l = s.version n l ∙ sym (h.version n)

  free_same : (n : ℕ) → n < m.size → is_free_number m.numbers n ≡ is_free (k.place n)
  free_same n l = λ d. ((ap not (there_same n l) ∙ not_not (is_dead (k.place n).status)) d) && nat_lt (version_same n l d) last_version

  worn_same : (n : ℕ) → n < m.size → is_worn m.numbers n ≡ (is_dead (k.place n).status && eqb (k.place n).version last_version)
  worn_same n l = λ d. ((ap not (there_same n l) ∙ not_not (is_dead (k.place n).status)) d) && eqb (version_same n l d) last_version

  pub lowest_is : lowest_free m.numbers ≡ lowest (λ n. is_free (k.place n)) k.size
  lowest_is = ap (lowest (is_free_number m.numbers)) s.versions ∙ lowest_same (is_free_number m.numbers) (λ n. is_free (k.place n)) m.size free_same ∙ ap (lowest (λ n. is_free (k.place n))) (sym h.size)

  pub alive_is : alive_numbers m.numbers ≡ alive k
  alive_is = ap (count (is_there m.numbers)) s.versions ∙ count_same (is_there m.numbers) (λ n. not (is_dead (k.place n).status)) m.size there_same ∙ ap (count (λ n. not (is_dead (k.place n).status))) (sym h.size)

  pub worn_is : worn_numbers m.numbers ≡ worn k
  worn_is = ap (count (is_worn m.numbers)) s.versions ∙ count_same (is_worn m.numbers) (λ n. is_dead (k.place n).status && eqb (k.place n).version last_version) m.size worn_same ∙ ap (count (λ n. is_dead (k.place n).status && eqb (k.place n).version last_version)) (sym h.size)
