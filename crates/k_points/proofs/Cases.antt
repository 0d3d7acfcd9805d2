-- A fact of each number, by one or two numbers and the others.
use Rattle.std.proofs.Common.{◌≢◌, ℕ, sym, subst, inl, inr}
use Rattle.std.proofs.lemmas.Bool.Decides.{eqb_tells}

pub by_number : (P : ℕ → Type 0) (a : ℕ) → P a → ((n : ℕ) → n ≢ a → P n) → (n : ℕ) → P n
by_number P a h l n = elim (eqb_tells n a) [ inl e ↦ subst P (sym e.1) h | inr e ↦ l n e.1 ]

pub by_numbers : (P : ℕ → Type 0) (a c : ℕ) → P a → P c → ((n : ℕ) → n ≢ a → n ≢ c → P n) → (n : ℕ) → P n
by_numbers P a c h k l n =
    elim (eqb_tells n a) [
      | inl e ↦ subst P (sym e.1) h
      | inr e ↦ elim (eqb_tells n c) [
        | inl d ↦ subst P (sym d.1) k
        | inr d ↦ l n e.1 d.1
      ]
    ]
