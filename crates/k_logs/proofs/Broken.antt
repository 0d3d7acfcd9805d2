-- The marks of the carriers that were looked at are broken where the carrier is interrupted.
use Rattle.std.proofs.Common.{◌≡◌, ℕ, zero, suc, ◌+◌, ◌<◌, Bool, true, false, List, [], ◌∷◌, length, get_or, take, Option, None, refl, sym, ap, ◌∙◌, ◌⊎◌, inl, inr, arith}
use Rattle.std.specs.List.{slice_set}
use Rattle.std.proofs.Math.ListN.{get_or-map}
use Rattle.std.proofs.lemmas.List.{length-map}
use Rattle.k_script.specs.Script.{Script}
use Rattle.k_carrier.specs.declared.carrier.Carrier.{Carrier}
use Rattle.k_carrier.specs.Rules.{is_interrupted}
use Rattle.k_carrier.specs.Seen.{CarrierSeen, carrier_in}
use Rattle.k_world.specs.Marks.{broken, unbroken}
use Rattle.k_logs.specs.Seen.{carriers_in}

-- one more, which is interrupted
broken_one : (ks : List CarrierSeen) (standing : List (Option ℕ)) (i : ℕ) (d : CarrierSeen) → i < length ks → is_interrupted (get_or ks i d) ≡ true → slice_set (broken (take i ks) standing) i None ≡ broken (take (suc i) ks) standing
broken_one [] standing i d l h = absurd (omega (arith, l))
broken_one (k ∷ ks) [] zero d l h = refl
broken_one (k ∷ ks) (mark ∷ standing) zero d l h = rw h refl
broken_one (k ∷ ks) [] (suc i) d l h = refl
broken_one (k ∷ ks) (mark ∷ standing) (suc i) d l h = ap (λ xs. unbroken (is_interrupted k) mark ∷ xs) (broken_one ks standing i d (omega (arith, l)) h)

-- one more, which isn't
broken_none : (ks : List CarrierSeen) (standing : List (Option ℕ)) (i : ℕ) (d : CarrierSeen) → i < length ks → is_interrupted (get_or ks i d) ≡ false → broken (take i ks) standing ≡ broken (take (suc i) ks) standing
broken_none [] standing i d l h = absurd (omega (arith, l))
broken_none (k ∷ ks) [] zero d l h = refl
broken_none (k ∷ ks) (mark ∷ standing) zero d l h = rw h refl
broken_none (k ∷ ks) [] (suc i) d l h = refl
broken_none (k ∷ ks) (mark ∷ standing) (suc i) d l h = ap (λ xs. unbroken (is_interrupted k) mark ∷ xs) (broken_none ks standing i d (omega (arith, l)) h)

-- one more, whichever it is
pub broken_more : (script : Script) (cs : List Carrier) (standing s t : List (Option ℕ)) (i : ℕ) (x : Carrier) (b : Bool) → i < length cs → x ≡ get_or cs i x → b ≡ is_interrupted (carrier_in script x) → s ≡ broken (take i (carriers_in script cs)) standing → (((b ≡ true) × (t ≡ slice_set s i None)) ⊎ ((b ≡ false) × (t ≡ s))) → t ≡ broken (take (i + 1) (carriers_in script cs)) standing
broken_more script cs standing s t i x b l e f h d =
    let n : i < length (carriers_in script cs) = omega (arith, l, length-map cs (carrier_in script)) in
    let here : get_or (carriers_in script cs) i (carrier_in script x) ≡ carrier_in script x = get_or-map (carrier_in script) cs i x ∙ ap (carrier_in script) (sym e) in
    let same : is_interrupted (get_or (carriers_in script cs) i (carrier_in script x)) ≡ b = ap is_interrupted here ∙ sym f in
    let next : suc i ≡ i + 1 = omega arith in
    let more : broken (take (suc i) (carriers_in script cs)) standing ≡ broken (take (i + 1) (carriers_in script cs)) standing = ap (λ m. broken (take m (carriers_in script cs)) standing) next in
    elim d [
      | inl y ↦ y.1 ∙ (ap (λ xs. slice_set xs i None) h ∙ broken_one (carriers_in script cs) standing i (carrier_in script x) n (same ∙ y.0) ∙ more)
      | inr y ↦ y.1 ∙ (h ∙ broken_none (carriers_in script cs) standing i (carrier_in script x) n (same ∙ y.0) ∙ more)
    ]
