-- Who stands in the ready lists when a run begins.
use Rattle.std.proofs.Common.{◌≡◌, ℕ, zero, suc, ◌+◌, ◌<◌, ◌≤◌, ◌==◌, Bool, true, false, List, [], ◌∷◌, length, map, refl, sym, ap, ◌∙◌, arith, inl, inr}
use Rattle.std.specs.List.{filter, list_any, range_with_len}
use Rattle.std.proofs.lemmas.Bool.{cases_Bool, cases_eq, cases_lt, eq-eqb, ne_eqb}
use Rattle.std.proofs.lemmas.List.{get_or_past, length-map}
use Rattle.std.proofs.lemmas.List.FromFn.{get_or-map-range_with_len, length-range_with_len}
use Rattle.k_ready.specs.Lists.{list_of, stands}
use Rattle.k_script.specs.Script.{Script}
use Rattle.k_switch.specs.Switches.{first_of_number}
use Rattle.k_world.specs.Boot.{boot_list, boot_ready, has_start, is_ready, thread_line}

-- who fails the test isn't among those who pass
none_stands : (test : ℕ → Bool) (ns : List ℕ) (n : ℕ) → test n ≡ false → stands n (map first_of_number (filter test ns)) ≡ false
none_stands test [] n f = refl
none_stands test (x ∷ ns) n f = elim (cases_Bool (test x)) [
  | inl t ↦
      let other : (x ≡ n → ⊥) = λ e. let no : true ≡ false = sym t ∙ (ap test e ∙ f) in absurd cc in
      rw t (rw (ne_eqb x n other) (none_stands test ns n f))
  | inr g ↦ rw g (none_stands test ns n f)
]

-- who passes it is
one_stands : (test : ℕ → Bool) (ns : List ℕ) (n : ℕ) → test n ≡ true → list_any (λ m. m == n) ns ≡ true → stands n (map first_of_number (filter test ns)) ≡ true
one_stands test [] n t h = absurd cc
one_stands test (x ∷ ns) n t h = elim (cases_eq x n) [
  | inl e ↦ rw (ap test e ∙ t) (rw (eq-eqb x n e) refl)
  | inr d ↦
      let more : list_any (λ m. m == n) ns ≡ true = sym (rw (ne_eqb x n d) refl) ∙ h in
      elim (cases_Bool (test x)) [
        | inl u ↦ rw u (rw (ne_eqb x n d) (one_stands test ns n t more))
        | inr g ↦ rw g (one_stands test ns n t more)
      ]
]

-- each number below the bound is in the range
in_range : (a m n : ℕ) → a ≤ n → n < a + m → list_any (λ k. k == n) (range_with_len a m) ≡ true
in_range a zero n l k = absurd (omega (arith, l, k))
in_range a (suc m) n l k = elim (cases_eq a n) [
  | inl e ↦ rw (eq-eqb a n e) refl
  | inr d ↦ rw (ne_eqb a n d) (in_range (a + 1) m n (omega (arith, l, d)) (omega (arith, k)))
]

list_at : (script : Script) (p : ℕ) → p < 64 → list_of (boot_ready script).lists p ≡ boot_list script p
list_at script p l = get_or-map-range_with_len (boot_list script) 0 64 p p [] l (omega arith)

pub waits_for_start : (script : Script) (n p : ℕ) → has_start script n ≡ true → stands n (list_of (boot_ready script).lists p) ≡ false
waits_for_start script n p h = elim (cases_lt p 64) [
  | inl l ↦ rw (list_at script p l) (none_stands (is_ready script p) (range_with_len 0 (length script.threads)) n (rw h refl))
  | inr g ↦ rw (get_or_past (boot_ready script).lists p [] (omega (arith, g, length-map (range_with_len 0 64) (boot_list script), length-range_with_len 0 64))) refl
]

pub ready_at_once : (script : Script) (n : ℕ) → n < length script.threads → (thread_line script n).priority < 64 → has_start script n ≡ false → stands n (list_of (boot_ready script).lists (thread_line script n).priority) ≡ true
ready_at_once script n i l h =
    let p = (thread_line script n).priority in
    rw (list_at script p l) (one_stands (is_ready script p) (range_with_len 0 (length script.threads)) n (rw h (eq-eqb p p refl)) (in_range 0 (length script.threads) n (omega arith) (omega (arith, i))))
