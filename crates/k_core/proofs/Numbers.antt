-- The thread numbers with which a run begins: the versions that the numbers had last, and then the script's
-- threads one by one.
use Rattle.std.proofs.Common.{◌≡◌, ◌≢◌, ℕ, ◌+◌, ◌<◌, ◌≤◌, ◌==◌, true, false, cond, nat_lt, List, length}
use Rattle.std.proofs.Common.{get_or, map, take, refl, sym, subst, ap, ◌∙◌, inl, inr, arith}
use Rattle.std.specs.List.{slice_set}
use Rattle.std.specs.Prelude.{if◌then◌else◌, slice_index}
use Rattle.std.proofs.lemmas.Bool.{cases_Bool, cases_eq, cases_lt, le-ltb, lt-ltb}
use Rattle.std.proofs.lemmas.List.{get_or-set_other, get_or-set_same, length-set}
use Rattle.std.proofs.lemmas.List.FromFn.{fill_by_all}
use Rattle.k_locks.specs.Numbers.{ThreadNumbers, presences, version_at, with_thread}
use Rattle.k_locks.proofs.Presences.{length-presences, presence_at}
use Rattle.std.specs.Int.{bit_at}
use Rattle.std.proofs.lemmas.Nat.Bits.{bit_at-zero}
use Rattle.k_script.specs.Script.{Script}
use Rattle.k_world.specs.Boot.{boot_numbers, boot_state, has_thread, table_numbers}

-- Of each number: whether it is one of the first ones, and the version 1, or the one that it had last.
pub record HasFirst (script : Script) (count : ℕ) (n : ThreadNumbers) : Type 0 where
  pub versions : length n.versions ≡ script.table
  pub present : length n.present ≡ script.table
  pub version : (k : ℕ) → k < script.table →
      get_or n.versions k 0 ≡ (if nat_lt k count then 1 else get_or script.aged k 0)
  pub there : (k : ℕ) → k < script.table → get_or n.present k false ≡ nat_lt k count

-- one thread more
pub first_more : (script : Script) (count : ℕ) (n : ThreadNumbers) → count < length script.threads →
    length script.threads ≤ script.table →
    ((k : ℕ) → k < length script.threads → slice_index script.aged k ≡ 0) → HasFirst script count n →
    HasFirst script (count + 1) (with_thread count n)
first_more script count n l few fresh h = record {
  versions = length-set n.versions count (version_at n count + 1) ∙ h.versions;
  present = length-set n.present count true ∙ h.present;
  version = λ k inside. elim (cases_eq k count) [
    | inl e ↦ subst (λ i. get_or (slice_set n.versions count (version_at n count + 1)) i
        0 ≡ (if nat_lt i (count + 1) then 1 else get_or script.aged i 0)) (sym e) here
    | inr d ↦ get_or-set_other n.versions count k (version_at n count + 1) 0 d
        ∙ (h.version k inside ∙ ap (λ b. cond b 1 (get_or script.aged k 0)) (below_same k d))
  ];
  there = λ k inside. elim (cases_eq k count) [
    | inl e ↦ subst (λ i. get_or (slice_set n.present count true) i false ≡ nat_lt i (count + 1)) (sym e)
        (get_or-set_same n.present count true false (omega (arith, h.present, l, few))
        ∙ sym (lt-ltb count (count + 1) (omega arith)))
    | inr d ↦ get_or-set_other n.present count k true false d ∙ (h.there k inside ∙ below_same k d)
  ];
}
  where
    below_same : (k : ℕ) → k ≢ count → nat_lt k count ≡ nat_lt k (count + 1)
    below_same k d = elim (cases_lt k count) [
      | inl y ↦ lt-ltb k count y ∙ sym (lt-ltb k (count + 1) (omega (arith, y)))
      | inr g ↦ le-ltb k count g ∙ sym (le-ltb k (count + 1) (omega (arith, g, d)))
    ]

    young : version_at n count ≡ 0
    young = h.version count (omega (arith, l, few))
        ∙ (ap (λ b. cond b 1 (get_or script.aged count 0)) (le-ltb count count (omega arith)) ∙ fresh count l)

    here : get_or (slice_set n.versions count (version_at n count + 1)) count
        0 ≡ (if nat_lt count (count + 1) then 1 else get_or script.aged count 0)
    here = get_or-set_same n.versions count (version_at n count + 1) 0 (omega (arith, h.versions, l, few))
        ∙ (omega (arith, young) ∙ ap (λ b. cond b 1 (get_or script.aged count 0))
        (sym (lt-ltb count (count + 1) (omega arith))))

boot_version : (script : Script) (k : ℕ) →
    (boot_state script k).version ≡ (if has_thread script k then 1 else get_or script.aged k 0)
boot_version script k = elim (cases_Bool (has_thread script k)) [ inl y ↦ rw y refl | inr f ↦ rw f refl ]

-- all threads
pub first_all : (script : Script) (n : ThreadNumbers) → HasFirst script (length script.threads) n →
    n ≡ boot_numbers script
first_all script n h =
    let versions : n.versions ≡ map (λ number. (boot_state script number).version) (table_numbers script) =
    fill_by_all (λ number. (boot_state script number).version) n.versions script.table 0 h.versions
    (λ k l. h.version k l ∙ sym (boot_version script k)) in
    let present : n.present ≡ map (has_thread script) (table_numbers script) =
    fill_by_all (has_thread script) n.present script.table false h.present h.there in
    λ i. record { versions = versions i; present = present i }

-- no thread yet
pub first_none : (script : Script) (versions : List ℕ) → take script.table versions ≡ script.aged →
    length script.aged ≡ script.table →
    HasFirst script 0 (record { versions = take script.table versions; present = presences 0 script.table })
first_none script versions e long = record {
  versions = ap length e ∙ long;
  present = length-presences 0 script.table;
  version = λ k l. ap (λ xs. get_or xs k 0) e ∙ ap (λ b. cond b 1 (get_or script.aged k 0))
      (sym (le-ltb k 0 (omega arith)));
  there = λ k l. presence_at 0 script.table k l ∙ (no_bit k ∙ sym (le-ltb k 0 (omega arith)));
}
  where
    no_bit : (k : ℕ) → (bit_at 0 k == 1) ≡ false
    no_bit k = ap (λ b. b == 1) (bit_at-zero k)
