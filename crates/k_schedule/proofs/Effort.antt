-- How many steps a burst goes on at most, as a number. c is the carrier, m the moment, n and o numbers of steps.
use Rattle.std.proofs.Common.{◌≡◌, ℕ, ◌+◌, ◌≤◌, ◌⊎◌, inl, inr, zero, suc, true, false, refl, sym, ap, ◌∙◌, arith, length}
use Rattle.std.proofs.lemmas.Bool.{cases_Bool, true≢false}
use Rattle.k_schedule.specs.Carriers.{Carriers, Facts}
use Rattle.k_schedule.specs.Schedule.{Moment, settled_at, step_at}
use Rattle.k_schedule.proofs.Parts.{Decided, FallsAt, First, Induction, along_first, along_parts, decided_first, decided_parts}

module _ {World : Type 0} (carriers : Carriers World) (facts : Facts World) where
  -- Fewer lines are left; or no more, and the carrier has less to do.
  abbrev pub Lowers : ℕ → Moment World → Moment World → Type 0
  Lowers c = First (λ m. length m.ahead) (FallsAt (λ m. facts.parts m.world c))

  lowers_along : (c : ℕ) → Induction (Lowers c)
  lowers_along c = along_first (λ m. length m.ahead) _ (along_parts (λ m. facts.parts m.world c))

  lowers_decided : (c : ℕ) → Decided (Lowers c)
  lowers_decided c = decided_first (λ m. length m.ahead) _ (decided_parts (λ m. facts.parts m.world c))

  -- So many steps in a row don't settle the carrier, and each lowers what is still to come. The next one doesn't do so.
  abbrev GoesOn : ℕ → ℕ → Moment World → Type 0
  GoesOn zero c m = (settled_at carriers c (step_at carriers c m) ≡ true) ⊎ (Lowers c m (step_at carriers c m) → ⊥)
  GoesOn (suc n) c m =
      (settled_at carriers c (step_at carriers c m) ≡ false) × Lowers c m (step_at carriers c m)
      × GoesOn n c (step_at carriers c m)

  goes_on_one : (n o c : ℕ) (m : Moment World) → GoesOn n c m → GoesOn o c m → n ≡ o
  goes_on_one zero zero c m p q = refl
  goes_on_one zero (suc o) c m p q = elim p [
    | inl s ↦ absurd (true≢false (sym s ∙ q.0))
    | inr none ↦ absurd (none q.1)
  ]
  goes_on_one (suc n) zero c m p q = elim q [
    | inl s ↦ absurd (true≢false (sym s ∙ p.0))
    | inr none ↦ absurd (none p.1)
  ]
  goes_on_one (suc n) (suc o) c m p q = ap suc (goes_on_one n o c (step_at carriers c m) p.2 q.2)

  goes_on : (c : ℕ) (m : Moment World) → (n : ℕ) × GoesOn n c m
  goes_on c = lowers_along c (λ m. (n : ℕ) × GoesOn n c m) (λ m below.
      let next = step_at carriers c m in
      elim (cases_Bool (settled_at carriers c next)) [
        | inl s ↦ (zero, inl s)
        | inr s ↦ elim (lowers_decided c m next) [
          | inl low ↦ let rest = below next low in (suc rest.0, (s, low, rest.1))
          | inr none ↦ (zero, inr none)
        ]
      ])

  -- the measure of a burst
  pub effort : ℕ → Moment World → ℕ
  effort c m = (goes_on c m).0

  pub effort_falls : (c : ℕ) (m : Moment World) → settled_at carriers c (step_at carriers c m) ≡ false →
      Lowers c m (step_at carriers c m) → effort c (step_at carriers c m) + 1 ≤ effort c m
  unfolding effort
  effort_falls c m s low =
      let next = step_at carriers c m in
      let here = goes_on c m in
      let rest = goes_on c next in
      let same : here.0 ≡ suc rest.0 = goes_on_one here.0 (suc rest.0) c m here.1 (s, low, rest.1) in
      omega (arith, same)
