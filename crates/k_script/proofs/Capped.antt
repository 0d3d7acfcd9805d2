-- Counts that stand still at the end of their type.
use Rattle.std.proofs.Common.{◌≡◌, ℕ, suc, ◌+◌, ◌*◌, ◌-◌, ◌<◌, ◌≤◌, min, false, List, [], ◌∷◌, ◌++◌, length, take, drop, set, get_or, slice_index, refl, sym, ap, ◌∙◌, subst, arith, inl, inr, Some, get_or-set_same, get_or-set_other, ◌≢◌, length-append, length-take-le, replicate}
use Rattle.std.proofs.lemmas.Bool.{cases_lt}
use Rattle.std.proofs.lemmas.List.{get_or_past, get_or_append_left, take_more}
use Rattle.std.proofs.Math.Seq.{get_or-append_seam, drop-cons}
use Rattle.std.proofs.lemmas.Option.{same_Some}
use Rattle.k_script.specs.declared.operation.Operation.{Operation}
use Rattle.k_script.specs.declared.operation.Operation.TheVariants as operation
use Rattle.k_script.specs.declared.scale.Scale.{Scale}
use Rattle.k_script.specs.Limits.{depth_after, depth_behind}
use Rattle.k_script.specs.Flat.{is_marker}
use Rattle.k_script.specs.Script.{Program, nothing}
use Rattle.k_script.specs.Weight.{capped, AreCapped, cost, added, multiplied, totals, totals_before, program_total, program_totals, first_total}
use Rattle.k_script.proofs.Levels.{open_behind, open_repeat, open_again, nested_behind}

add_at : (m a b : ℕ) → min (min a m + min b m) m ≡ min (a + b) m
add_at m a b = omega arith

mul_at : (m n x : ℕ) → min (n * min x m) m ≡ min (n * x) m
mul_at m (suc k) x = elim (cases_lt m x) [
  | inl l ↦
      let e : min x m ≡ m = omega arith in
      rw e (omega arith)
  | inr g ↦ let e : min x m ≡ x = omega arith in rw e refl
]
mul_at m k x = omega arith

pub capped_add : (a b : ℕ) → capped (capped a + capped b) ≡ capped (a + b)
capped_add a b = add_at 18446744073709551615 a b

pub capped_mul : (n x : ℕ) → capped (n * capped x) ≡ capped (n * x)
capped_mul n x = mul_at 18446744073709551615 n x

-- the number is within its type, and so is itself
small_at : (m n x : ℕ) → n ≤ m → min (min x m + n) m ≡ min (x + n) m
small_at m n x h = omega arith

pub capped_small : (n x : ℕ) → n ≤ 18446744073709551615 → capped (capped x + n) ≡ capped (x + n)
capped_small n x h = small_at 18446744073709551615 n x h

-- AN OPERATION in front of the levels

pub added_capped : (x n a b c d e : ℕ) (ts : List ℕ) → AreCapped (a ∷ b ∷ c ∷ d ∷ e ∷ []) ts → 1 ≤ length ts → x ≡ capped n → AreCapped (capped (x + a) ∷ b ∷ c ∷ d ∷ e ∷ []) (added n ts)
added_capped x n a b c d e [] h some is = absurd (omega arith)
added_capped x n a b c d e (t ∷ ts) h some is = go
  where
    first : a ≡ capped t
    first = h 0

    go : AreCapped (capped (x + a) ∷ b ∷ c ∷ d ∷ e ∷ []) ((n + t) ∷ ts)
    go (suc k) = h (suc k)
    go k = rw (is, first) (capped_add n t)

-- what a repeat counts
turns_capped : (count turn a b body after : ℕ) → turn ≤ 18446744073709551615 → a ≡ capped body → b ≡ capped after → capped (capped (count * capped (a + turn)) + b) ≡ capped (count * (body + turn) + after)
turns_capped count turn a b body after small first second =
    ap (λ (i : ℕ). capped (capped (count * capped (i + turn)) + b)) first
    ∙ ap (λ (i : ℕ). capped (capped (count * i) + b)) (capped_small turn body small)
    ∙ ap (λ (i : ℕ). capped (i + b)) (capped_mul count (body + turn))
    ∙ ap (λ (i : ℕ). capped (capped (count * (body + turn)) + i)) second
    ∙ capped_add (count * (body + turn)) after

pub multiplied_capped : (count turn a b c d e : ℕ) (ts : List ℕ) → turn ≤ 18446744073709551615 → AreCapped (a ∷ b ∷ c ∷ d ∷ e ∷ []) ts → 1 ≤ length ts → AreCapped (capped (capped (count * capped (a + turn)) + b) ∷ c ∷ d ∷ e ∷ 0 ∷ []) (multiplied turn count ts)
multiplied_capped count turn a b c d e [] small h some = absurd (omega arith)
multiplied_capped count turn a b c d e (body ∷ []) small h some = go
  where
    go : AreCapped (capped (capped (count * capped (a + turn)) + b) ∷ c ∷ d ∷ e ∷ 0 ∷ []) ((count * (body + turn)) ∷ [])
    go (suc (suc (suc (suc (suc k))))) = h (suc (suc (suc (suc (suc (suc k))))))
    go (suc (suc (suc (suc k)))) = h 5
    go (suc (suc (suc k))) = h 4
    go (suc (suc k)) = h 3
    go (suc k) = h 2
    go k = turns_capped count turn a b body 0 small (h 0) (h 1) ∙ ap capped (omega arith)
multiplied_capped count turn a b c d e (body ∷ after ∷ more) small h some = go
  where
    go : AreCapped (capped (capped (count * capped (a + turn)) + b) ∷ c ∷ d ∷ e ∷ 0 ∷ []) ((count * (body + turn) + after) ∷ more)
    go (suc (suc (suc (suc (suc k))))) = h (suc (suc (suc (suc (suc (suc k))))))
    go (suc (suc (suc (suc k)))) = h 5
    go (suc (suc (suc k))) = h 4
    go (suc (suc k)) = h 3
    go (suc k) = h 2
    go k = turns_capped count turn a b body after small (h 0) (h 1)

pub plain_totals : (s : Scale) (exact : List ℕ) (op : Operation) (ts : List ℕ) → is_marker op ≡ false → totals_before s exact op ts ≡ added (cost s exact op) ts
plain_totals s exact (operation.Repeat count) ts h = absurd cc
plain_totals s exact operation.Again ts h = absurd cc
plain_totals s exact (operation.Send to low high zero) ts h = refl
plain_totals s exact (operation.Receive from zero) ts h = refl
plain_totals s exact (operation.Call to low high zero) ts h = refl
plain_totals s exact (operation.Reply low high zero) ts h = refl
plain_totals s exact (operation.Create program priority) ts h = refl
plain_totals s exact (operation.Destroy victim) ts h = refl
plain_totals s exact (operation.Work count) ts h = refl

-- AS MANY as there are levels

pub length_added : (n : ℕ) (ts : List ℕ) → length (added n ts) ≡ length ts
length_added n [] = refl
length_added n (t ∷ ts) = refl

length_multiplied : (turn count : ℕ) (ts : List ℕ) → 2 ≤ length ts → length (multiplied turn count ts) + 1 ≡ length ts
length_multiplied turn count [] h = absurd (omega arith)
length_multiplied turn count (t ∷ []) h = absurd (omega arith)
length_multiplied turn count (t ∷ u ∷ ts) h = omega arith

length_totals_before : (s : Scale) (exact : List ℕ) (op : Operation) (depth d : ℕ) (ts : List ℕ) → depth_after depth op ≡ Some d → length ts ≡ d + 1 → length (totals_before s exact op ts) ≡ depth + 1
length_totals_before s exact (operation.Repeat count) depth d ts h e = let o = open_repeat depth d count h in omega (arith, o.0, o.1, length_multiplied s.turn count ts (omega (arith, o.1, e)))
length_totals_before s exact operation.Again depth d ts h e = let o = open_again depth d h in omega (arith, o.0, o.1)
length_totals_before s exact (operation.Send to low high zero) depth d ts h e = omega (arith, same_Some depth d h, length_added (cost s exact (operation.Send to low high zero)) ts)
length_totals_before s exact (operation.Receive from zero) depth d ts h e = omega (arith, same_Some depth d h, length_added (cost s exact (operation.Receive from zero)) ts)
length_totals_before s exact (operation.Call to low high zero) depth d ts h e = omega (arith, same_Some depth d h, length_added (cost s exact (operation.Call to low high zero)) ts)
length_totals_before s exact (operation.Reply low high zero) depth d ts h e = omega (arith, same_Some depth d h, length_added (cost s exact (operation.Reply low high zero)) ts)
length_totals_before s exact (operation.Create program priority) depth d ts h e = omega (arith, same_Some depth d h, length_added (cost s exact (operation.Create program priority)) ts)
length_totals_before s exact (operation.Destroy victim) depth d ts h e = omega (arith, same_Some depth d h, length_added (cost s exact (operation.Destroy victim)) ts)
length_totals_before s exact (operation.Work count) depth d ts h e = omega (arith, same_Some depth d h, length_added (cost s exact (operation.Work count)) ts)

pub length_totals : (s : Scale) (exact : List ℕ) (depth : ℕ) (ops : List Operation) → depth_behind depth ops ≡ Some 0 → length (totals s exact ops) ≡ depth + 1
length_totals s exact depth [] h = let e : depth ≡ 0 = same_Some depth 0 h in omega arith
length_totals s exact depth (op ∷ ops) h =
    let o = open_behind depth op ops h in
    length_totals_before s exact op depth o.0 (totals s exact ops) o.1 (length_totals s exact o.0 ops o.2)

pub totals_few : (s : Scale) (exact : List ℕ) (ops : List Operation) (k : ℕ) → depth_behind 0 ops ≡ Some 0 → (1 ≤ length (totals s exact (drop k ops))) × (length (totals s exact (drop k ops)) ≤ 5)
totals_few s exact ops k h =
    let n = nested_behind 0 ops k (omega arith) h in
    let e : length (totals s exact (drop k ops)) ≡ n.0 + 1 = length_totals s exact n.0 (drop k ops) n.2 in
    (omega arith, omega (arith, n.1))

-- PROGRAMS, ONE AFTER ANOTHER

pub totals_at : (s : Scale) (exact : List ℕ) (ops : List Operation) (at : ℕ) (d : Operation) → 0 < at → at ≤ length ops → totals s exact (drop (at - 1) ops) ≡ totals_before s exact (get_or ops (at - 1) d) (totals s exact (drop at ops))
totals_at s exact ops at d some inside =
    let lt : at - 1 < length ops = omega arith in
    let next : suc (at - 1) ≡ at = omega arith in
    ap (totals s exact) (drop-cons ops (at - 1) d lt) ∙ ap (λ (k : ℕ). totals_before s exact (get_or ops (at - 1) d) (totals s exact (drop k ops))) next

pub length_program_totals : (s : Scale) (before : List ℕ) (ps : List Program) → length (program_totals s before ps) ≡ length before + length ps
length_program_totals s before [] = omega arith
length_program_totals s before (p ∷ ps) = omega (arith, length_program_totals s (before ++ program_total s before p.operations ∷ []) ps, length-append before (program_total s before p.operations ∷ []))

pub program_totals_push : (s : Scale) (before : List ℕ) (ps : List Program) (p : Program) → program_totals s before (ps ++ p ∷ []) ≡ program_totals s before ps ++ program_total s (program_totals s before ps) p.operations ∷ []
program_totals_push s before [] p = refl
program_totals_push s before (q ∷ ps) p = program_totals_push s (before ++ program_total s before q.operations ∷ []) ps p

pub zero_at : (n k : ℕ) → ◌≡◌ {A = ℕ} (get_or (replicate n 0) k 0) 0
zero_at (suc n) (suc k) = zero_at n k
zero_at (suc n) k = refl
zero_at n k = refl

pub capped_push : (counts exact : List ℕ) (i x y : ℕ) → AreCapped counts exact → length exact ≡ i → i < length counts → x ≡ capped y → AreCapped (set counts i x) (exact ++ y ∷ [])
capped_push counts exact i x y h size inside is = go
  where
    go : AreCapped (set counts i x) (exact ++ y ∷ [])
    go k = elim (cases_lt k i) [
      | inl l ↦
          let ne : k ≢ i = omega arith in
          get_or-set_other counts i k x 0 ne ∙ h k ∙ ap capped (sym (get_or_append_left exact (y ∷ []) 0 k (omega arith)))
      | inr g ↦ elim (cases_lt i k) [
        | inl m ↦
            let ne : k ≢ i = omega arith in
            get_or-set_other counts i k x 0 ne ∙ h k ∙ ap capped (get_or_past exact k 0 (omega arith) ∙ sym (get_or_past (exact ++ y ∷ []) k 0 (omega (arith, length-append exact (y ∷ [])))))
        | inr n ↦
            let e : i ≡ k = omega arith in
            let same : length exact ≡ k = omega arith in
            subst (λ (j : ℕ). get_or (set counts i x) j 0 ≡ capped (get_or (exact ++ y ∷ []) j 0)) e
            (get_or-set_same counts i x 0 inside ∙ is ∙ ap capped (sym (ap (λ (j : ℕ). get_or (exact ++ y ∷ []) j 0) (sym size) ∙ get_or-append_seam exact y [] 0)))
      ]
    ]

-- one program more
pub programs_more : (s : Scale) (ps : List Program) (k : ℕ) (counts : List ℕ) (x : ℕ) → k < length ps → k < length counts → AreCapped counts (program_totals s [] (take k ps)) → x ≡ capped (program_total s (program_totals s [] (take k ps)) (get_or ps k nothing).operations) → AreCapped (set counts k x) (program_totals s [] (take (k + 1) ps))
programs_more s ps k counts x inside room h is =
    let more : program_totals s [] (take (k + 1) ps) ≡ program_totals s [] (take k ps) ++ program_total s (program_totals s [] (take k ps)) (get_or ps k nothing).operations ∷ [] =
    ap (program_totals s []) (take_more ps k nothing inside) ∙ program_totals_push s [] (take k ps) (get_or ps k nothing) in
    let size : length (program_totals s [] (take k ps)) ≡ k = omega (arith, length_program_totals s [] (take k ps), length-take-le k ps (omega arith)) in
    subst (AreCapped (set counts k x)) (sym more) (capped_push counts (program_totals s [] (take k ps)) k x (program_total s (program_totals s [] (take k ps)) (get_or ps k nothing).operations) h size room is)

-- the first total, with the end
pub first_capped : (n a : ℕ) (ts : List ℕ) → n ≤ 18446744073709551615 → a ≡ capped (slice_index ts 0) → capped (a + n) ≡ capped (first_total ts + n)
first_capped n a [] small h = ap (λ (i : ℕ). capped (i + n)) h ∙ capped_small n 0 small
first_capped n a (t ∷ ts) small h = ap (λ (i : ℕ). capped (i + n)) h ∙ capped_small n t small
