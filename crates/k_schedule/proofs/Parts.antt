-- Induction along a relation under which numbers fall, the first of which counts most. x is above y, f gives a number, and p
-- the parts.
use Rattle.std.proofs.Common.{ℕ, ◌+◌, ◌<◌, ◌≤◌, ◌⊎◌, inl, inr, zero, suc, arith}
use Rattle.std.proofs.lemmas.Bool.{cases_lt}
use Rattle.k_schedule.specs.Parts.{Falls, Parts}

module _ {X : Type 0} where
  -- What holds of each x of which it holds at all below it holds everywhere.
  abbrev pub Induction : (X → X → Type 0) → Type 1
  Induction R = (P : X → Type 0) → ((x : X) → ((y : X) → R x y → P y) → P x) → (x : X) → P x

  abbrev pub Decided : (X → X → Type 0) → Type 0
  Decided R = (x y : X) → R x y ⊎ (R x y → ⊥)

  abbrev pub Never : X → X → Type 0
  Never x y = ⊥

  -- The number falls; or it doesn't rise, and what comes after it falls.
  abbrev pub First : (X → ℕ) → (X → X → Type 0) → X → X → Type 0
  First f R x y = (f y < f x) ⊎ ((f y ≤ f x) × R x y)

  pub along_never : Induction Never
  along_never P h x = h x (λ y r. absurd r)

  pub decided_never : Decided Never
  decided_never x y = inr (λ r. r)

  module _ (f : X → ℕ) (R : X → X → Type 0) where
    module _ (along : Induction R) (P : X → Type 0) (h : (x : X) → ((y : X) → First f R x y → P y) → P x) where
      -- What holds where the number is lower than n holds where it is n at most.
      at_most : (n : ℕ) → ((y : X) → f y < n → P y) → (x : X) → f x ≤ n → P x
      at_most n lower = along (λ x. f x ≤ n → P x) (λ x below l. h x (λ y r. elim r [
        | inl s ↦ lower y (omega (arith, s, l))
        | inr s ↦ below y s.1 (omega (arith, s.0, l))
      ]))

      up_to : (n : ℕ) (x : X) → f x ≤ n → P x
      up_to zero = at_most 0 (λ y l. absurd (omega (arith, l)))
      up_to (suc n) = at_most (suc n) (λ y l. up_to n y (omega (arith, l)))

    pub along_first : Induction R → Induction (First f R)
    along_first along P h x = up_to along P h (f x) x (omega arith)

    pub decided_first : Decided R → Decided (First f R)
    decided_first decided x y = elim (cases_lt (f y) (f x)) [
      | inl less ↦ inl (inl less)
      | inr most ↦ elim (cases_lt (f x) (f y)) [
        | inl more ↦ inr (λ r. elim r [
          | inl l ↦ absurd (omega (arith, l, most))
          | inr s ↦ absurd (omega (arith, s.0, more))
        ])
        | inr least ↦ elim (decided x y) [
          | inl r ↦ inl (inr (least, r))
          | inr none ↦ inr (λ r. elim r [
            | inl l ↦ absurd (omega (arith, l, most))
            | inr s ↦ none s.1
          ])
        ]
      ]
    ]

  -- THE FOUR PARTS
  module _ (p : X → Parts) where
    abbrev near_first : X → X → Type 0
    near_first = First (λ x. (p x).near) Never

    abbrev steps_first : X → X → Type 0
    steps_first = First (λ x. (p x).steps) near_first

    abbrev owed_first : X → X → Type 0
    owed_first = First (λ x. (p x).owed) steps_first

    abbrev pub FallsAt : X → X → Type 0
    FallsAt = First (λ x. (p x).room) owed_first

    pub falls_at : (x y : X) → Falls (p x) (p y) → FallsAt x y
    falls_at x y r = elim r [
      | inl a ↦ inl a
      | inr a ↦ elim a [
        | inl b ↦ inr (b.0, inl b.1)
        | inr b ↦ elim b [
          | inl c ↦ inr (c.0, inr (c.1, inl c.2))
          | inr c ↦ inr (c.0, inr (c.1, inr (c.2, inl c.3)))
        ]
      ]
    ]

    pub along_parts : Induction FallsAt
    along_parts =
        along_first (λ x. (p x).room) owed_first (along_first (λ x. (p x).owed) steps_first
        (along_first (λ x. (p x).steps) near_first (along_first (λ x. (p x).near) Never along_never)))

    pub decided_parts : Decided FallsAt
    decided_parts =
        decided_first (λ x. (p x).room) owed_first (decided_first (λ x. (p x).owed) steps_first
        (decided_first (λ x. (p x).steps) near_first (decided_first (λ x. (p x).near) Never decided_never)))

-- Parts don't fall for ever.
pub no_endless_fall : (parts : ℕ → Parts) → ((n : ℕ) → Falls (parts n) (parts (n + 1))) → ⊥
no_endless_fall parts falls =
    along_parts parts (λ n. ⊥) (λ n below. below (n + 1) (falls_at parts n (n + 1) (falls n))) 0
