-- What was taken of a source, as a count.
use Rattle.std.proofs.Common.{◌≡◌, ℕ, ◌+◌, ◌≤◌, List, ◌++◌, length, take, drop, append_assoc, refl, sym, ap, ◌∙◌, subst, arith, Option, Some, None, length-append}
use Rattle.std.specs.Option.{IfSome}
use Rattle.std.proofs.lemmas.List.{drop_at, drop-drop, take-append-drop}
use Rattle.k_outside.specs.Outside.{Came}
use Rattle.k_input.specs.Taken.{IsTaken, IsPartTaken, IsTooMuch}

drops : (given bytes rest : List ℕ) (after : Option (List ℕ)) → after ≡ Some rest → given ≡ bytes ++ rest → after ≡ Some (drop (length bytes) given)
drops given bytes rest after e g = e ∙ ap Some (sym (ap (drop (length bytes)) g ∙ drop_at bytes rest (length bytes) refl))

pub part_taken : (most : ℕ) (before after : Option (List ℕ)) (bytes : List ℕ) → length bytes ≤ most → IsTaken before after bytes → IsPartTaken most before after
part_taken most None after bytes l h = tt
part_taken most (Some given) after bytes l h = (length bytes, l, drops given bytes h.0 after h.1 h.2)

pub too_much : (before after : Option (List ℕ)) (bytes : List ℕ) → length bytes ≡ 1048577 → IsTaken before after bytes → IsTooMuch before after
too_much None after bytes l h = tt
too_much (Some given) after bytes l h = (
  omega (arith, l, ap length h.2, length-append bytes h.0),
  subst (λ (n : ℕ). after ≡ Some (drop n given)) l (drops given bytes h.0 after h.1 h.2),
)

-- one take more
pub part_more : (most : ℕ) (before mid after : Option (List ℕ)) (bytes buffer : List ℕ) (count : ℕ) → length bytes + count ≤ most → IsTaken before mid bytes → IfSome mid (λ left. Came left buffer after count) → IsPartTaken most before after
part_more most None mid after bytes buffer count l h t = tt
part_more most (Some given) mid after bytes buffer count l h t =
    let came : Came h.0 buffer after count = subst (λ (o : Option (List ℕ)). IfSome o (λ left. Came left buffer after count)) h.1 t in (
      length bytes + count,
      l,
      came.rest ∙ ap Some (ap (drop count) (sym (drop_at bytes h.0 (length bytes) refl)) ∙ drop-drop count (length bytes) (bytes ++ h.0) ∙ ap (drop (length bytes + count)) (sym h.2)),
    )

pub taken_more : (before mid after : Option (List ℕ)) (bytes buffer : List ℕ) (count : ℕ) → IsTaken before mid bytes → IfSome mid (λ left. Came left buffer after count) → IsTaken before after (bytes ++ take count buffer)
taken_more None mid after bytes buffer count h t = tt
taken_more (Some given) mid after bytes buffer count h t =
    let came : Came h.0 buffer after count = subst (λ (o : Option (List ℕ)). IfSome o (λ left. Came left buffer after count)) h.1 t in (
      drop count h.0,
      came.rest,
      h.2 ∙ ap (λ (xs : List ℕ). bytes ++ xs) (sym (take-append-drop count h.0) ∙ ap (λ (xs : List ℕ). xs ++ drop count h.0) (sym came.bytes)) ∙ sym (append_assoc bytes (take count buffer) (drop count h.0)),
    )

pub taken_none : (before mid after : Option (List ℕ)) (bytes : List ℕ) → IsTaken before mid bytes → IfSome mid (λ left. after ≡ Some left) → IsTaken before after bytes
taken_none None mid after bytes h t = tt
taken_none (Some given) mid after bytes h t = (h.0, subst (λ (o : Option (List ℕ)). IfSome o (λ left. after ≡ Some left)) h.1 t, h.2)
