-- The contexts with which a run begins have counted nothing.
use Rattle.std.proofs.Common.{◌≡◌, ℕ, ◌+◌, ◌-◌, ◌<◌, Bool, true, false, cond, refl, subst, arith, not, Some}
use Rattle.std.specs.Prelude.{nat_lt}
use Rattle.std.proofs.lemmas.Bool.{and_parts}
use Rattle.std.proofs.lemmas.Bool.Decides.{nat_tests}
use Rattle.k_script.specs.Script.{Script}
use Rattle.k_context.specs.Contexts.{ContextSeen, carrier_of, done_of, owner_of, serial_of}
use Rattle.k_world.specs.Boot.{boot_resting, boot_state, first_thread, has_thread, is_carriers}
use Rattle.k_world.specs.Worlds.{Away, Resting, Slot, resting_in}
use Rattle.k_marks.specs.Counting.{IsToCome, IsUnmarked, number_of}
use Rattle.k_marks.specs.Brief.{IsBrief, IsTallied}
use Rattle.k_marks.proofs.Keeping.{none_some, some_is, unmarked_counted}
use Rattle.k_marks.specs.Booted.{boot_counting}

module _ (script : Script) (carriers n : ℕ) where
  -- a fact of the context of a number, if it has one
  by_context : (P : ContextSeen → Type 0) → (has_thread script n ≡ true → P (first_thread script n)) →
      (is_carriers script carriers n ≡ true → P (carrier_of (n - script.table))) → (v : ContextSeen) →
      resting_in (boot_resting script carriers n) ≡ Some v → P v
  by_context P thread carrier v e = by (has_thread script n) (is_carriers script carriers n) refl refl e
    where
      resting : Bool → Bool → Slot
      resting t c = cond t (Resting (first_thread script n)) (cond c (Resting (carrier_of (n - script.table))) Away)

      by : (t c : Bool) → has_thread script n ≡ t → is_carriers script carriers n ≡ c → resting_in (resting t c) ≡ Some v → P v
      by true c ht hc q = subst P (some_is q) (thread ht)
      by false true ht hc q = subst P (some_is q) (carrier hc)
      by false false ht hc q = absurd (none_some q)

  its_number : is_carriers script carriers n ≡ true → script.table + (n - script.table) ≡ n
  its_number c = grind (arith, nat_tests, (and_parts (not (nat_lt n script.table)) (nat_lt n (script.table + carriers)) c).0)

  not_to_come : has_thread script n ≡ true → (boot_state script n).version < 1 → ⊥
  not_to_come t = rw t (λ l. omega (arith, l))

pub booted_unmarked : (script : Script) (carriers : ℕ) → IsUnmarked script.table (boot_counting script carriers)
booted_unmarked script carriers = record {
  marks = refl;
  number =
      λ n v e. by_context script carriers n (λ u. number_of script.table (owner_of u) ≡ n) (λ t. refl)
      (its_number script carriers n) v e;
  serial = λ n v e. by_context script carriers n (λ u. serial_of u ≡ 0) (λ t. refl) (λ c. refl) v e;
  done = λ n v e. by_context script carriers n (λ u. done_of u ≡ 0) (λ t. refl) (λ c. refl) v e;
  known =
      λ n v e. by_context script carriers n (λ u. IsToCome (boot_counting script carriers).version (owner_of u) → ⊥)
      (not_to_come script carriers n) (λ c k. k) v e;
}

pub booted_tallied : (script : Script) (carriers : ℕ) → IsTallied script.table (boot_counting script carriers)
booted_tallied script carriers = record {
  counted = unmarked_counted script.table (boot_counting script carriers) (booted_unmarked script carriers);
  brief = λ n v e. by_context script carriers n IsBrief (λ t. tt) (λ c. omega arith) v e;
}
