-- What the fields keep when one list is changed.
use Rattle.std.proofs.Common.{◌≡◌, ◌≢◌, ◌<◌, ℕ, Bool, true, false, List, Option, Some, None, length, get_or, set, length-set, get_or-set_same, get_or-set_other, arith, refl, sym, ◌∙◌, ap, subst, inl, inr}
use Rattle.std.specs.Prelude.{◌||◌, ◌==◌, if◌then◌else◌, [], ◌∷◌, ◌++◌}
use Rattle.std.specs.Int.{bit_at}
use Rattle.std.proofs.lemmas.Bool.{cases_eq}
use Rattle.std.proofs.lemmas.List.{get_or_default}
use Rattle.std.proofs.lemmas.Nat.Bits.{bit_at-zero}
use Rattle.k_ready.proofs.Versions.{nobody_has}
use Rattle.std.proofs.lemmas.Grind.{common_steps}
use Rattle.k_ids.specs.declared.threads.ThreadId.{ThreadId}
use Rattle.k_ready.specs.Lists.{IsInNone, has_thread, is_empty, list_of, mask_bit, stands}
use Rattle.k_ready.specs.Kept.{IsKept, place_of}

pub record IsChanged (lists after : List (List ThreadId)) (p : ℕ) (es : List ThreadId) : Type 0 where
  pub size : length after ≡ length lists
  pub same : list_of after p ≡ es
  pub others : (q : ℕ) → q ≢ p → list_of after q ≡ list_of lists q

pub record IsPlaced (places after : List (Option ℕ)) (n : ℕ) (place : Option ℕ) : Type 0 where
  pub size : length after ≡ length places
  pub same : place_of after n ≡ place
  pub others : (m : ℕ) → m ≢ n → place_of after m ≡ place_of places m

pub record IsMasked (mask after p : ℕ) (es : List ThreadId) : Type 0 where
  pub same : bit_at after p ≡ mask_bit es
  pub others : (q : ℕ) → q < 64 → q ≢ p → bit_at after q ≡ bit_at mask q

pub changed : (lists : List (List ThreadId)) (p : ℕ) (es : List ThreadId) → p < length lists → IsChanged lists (set lists p es) p es
changed lists p es l = record { size = length-set lists p es; same = get_or-set_same lists p es [] l; others = λ q ne. get_or-set_other lists p q es [] ne }

pub placed : (places : List (Option ℕ)) (n : ℕ) (place : Option ℕ) → n < length places → IsPlaced places (set places n place) n place
placed places n place l = record { size = length-set places n place; same = get_or-set_same places n place None l; others = λ m ne. get_or-set_other places n m place None ne }

masked_after : (lists lists' : List (List ThreadId)) (places : List (Option ℕ)) (mask mask' p : ℕ) (es : List ThreadId) → IsKept lists places mask → IsChanged lists lists' p es → IsMasked mask mask' p es → (q : ℕ) → q < 64 → bit_at mask' q ≡ mask_bit (list_of lists' q)
masked_after lists lists' places mask mask' p es k c m q l = elim (cases_eq q p) [
  | inl e ↦ subst (λ (x : ℕ). bit_at mask' x ≡ mask_bit (list_of lists' x)) (sym e) (m.same ∙ sym (ap mask_bit c.same))
  | inr ne ↦ m.others q l ne ∙ k.masked q l ∙ sym (ap mask_bit (c.others q ne))
]

add_placed_here : (lists : List (List ThreadId)) (places places' : List (Option ℕ)) (mask n p : ℕ) (es : List ThreadId) → IsKept lists places mask → IsPlaced places places' n (Some p) → ((m : ℕ) → stands m es ≡ (stands m (list_of lists p) || (n == m))) → (m q : ℕ) → q ≡ p → stands m es ≡ true → place_of places' m ≡ Some q
add_placed_here lists places places' mask n p es k u s m q e h = grind (arith, common_steps, s m, k.placed m p, u.same, u.others m)

add_placed_there : (lists : List (List ThreadId)) (places places' : List (Option ℕ)) (mask n p : ℕ) → IsKept lists places mask → IsPlaced places places' n (Some p) → IsInNone n lists → (m q : ℕ) → stands m (list_of lists q) ≡ true → place_of places' m ≡ Some q
add_placed_there lists places places' mask n p k u i m q h = grind (arith, common_steps, i q, k.placed m q, u.others m)

add_standing_here : (lists : List (List ThreadId)) (places places' : List (Option ℕ)) (mask n p : ℕ) (es : List ThreadId) → IsKept lists places mask → IsPlaced places places' n (Some p) → ((m : ℕ) → stands m es ≡ (stands m (list_of lists p) || (n == m))) → (m : ℕ) → place_of places' m ≡ Some p → stands m es ≡ true
add_standing_here lists places places' mask n p es k u s m h = grind (arith, common_steps, s m, k.standing m p, u.same, u.others m)

add_standing_there : (lists : List (List ThreadId)) (places places' : List (Option ℕ)) (mask n p : ℕ) → IsKept lists places mask → IsPlaced places places' n (Some p) → (m q : ℕ) → q ≢ p → place_of places' m ≡ Some q → stands m (list_of lists q) ≡ true
add_standing_there lists places places' mask n p k u m q ne h = grind (arith, common_steps, k.standing m q, u.same, u.others m)

drop_placed_here : (lists : List (List ThreadId)) (places places' : List (Option ℕ)) (mask n p : ℕ) (es : List ThreadId) → IsKept lists places mask → IsPlaced places places' n None → ((m : ℕ) → stands m es ≡ (if n == m then false else stands m (list_of lists p))) → (m q : ℕ) → q ≡ p → stands m es ≡ true → place_of places' m ≡ Some q
drop_placed_here lists places places' mask n p es k u s m q e h = grind (arith, common_steps, s m, k.placed m p, u.others m)

drop_placed_there : (lists : List (List ThreadId)) (places places' : List (Option ℕ)) (mask n p : ℕ) → IsKept lists places mask → IsPlaced places places' n None → stands n (list_of lists p) ≡ true → (m q : ℕ) → q ≢ p → stands m (list_of lists q) ≡ true → place_of places' m ≡ Some q
drop_placed_there lists places places' mask n p k u i m q ne h = grind (arith, common_steps, k.placed m q, k.placed n p, u.others m)

drop_standing_here : (lists : List (List ThreadId)) (places places' : List (Option ℕ)) (mask n p : ℕ) (es : List ThreadId) → IsKept lists places mask → IsPlaced places places' n None → ((m : ℕ) → stands m es ≡ (if n == m then false else stands m (list_of lists p))) → (m : ℕ) → place_of places' m ≡ Some p → stands m es ≡ true
drop_standing_here lists places places' mask n p es k u s m h = grind (arith, common_steps, s m, k.standing m p, u.same, u.others m)

drop_standing_there : (lists : List (List ThreadId)) (places places' : List (Option ℕ)) (mask n : ℕ) → IsKept lists places mask → IsPlaced places places' n None → (m q : ℕ) → place_of places' m ≡ Some q → stands m (list_of lists q) ≡ true
drop_standing_there lists places places' mask n k u m q h = grind (arith, common_steps, k.standing m q, u.same, u.others m)

add_placed : (lists lists' : List (List ThreadId)) (places places' : List (Option ℕ)) (mask n p : ℕ) (es : List ThreadId) → IsKept lists places mask → IsChanged lists lists' p es → IsPlaced places places' n (Some p) → IsInNone n lists → ((m : ℕ) → stands m es ≡ (stands m (list_of lists p) || (n == m))) → (m q : ℕ) → stands m (list_of lists' q) ≡ true → place_of places' m ≡ Some q
add_placed lists lists' places places' mask n p es k c u i s m q h = elim (cases_eq q p) [
  | inl e ↦ add_placed_here lists places places' mask n p es k u s m q e (sym (ap (stands m) (c.same)) ∙ subst (λ (x : ℕ). stands m (list_of lists' x) ≡ true) e h)
  | inr ne ↦ add_placed_there lists places places' mask n p k u i m q (sym (ap (stands m) (c.others q ne)) ∙ h)
]

pub kept_add : (lists lists' : List (List ThreadId)) (places places' : List (Option ℕ)) (mask mask' n p : ℕ) (es : List ThreadId) → IsKept lists places mask → IsChanged lists lists' p es → IsPlaced places places' n (Some p) → IsMasked mask mask' p es → IsInNone n lists → ((m : ℕ) → stands m es ≡ (stands m (list_of lists p) || (n == m))) → IsKept lists' places' mask'
kept_add lists lists' places places' mask mask' n p es k c u m i s = record {
  size = c.size ∙ k.size;
  numbers = u.size ∙ k.numbers;
  placed = add_placed lists lists' places places' mask n p es k c u i s;
  standing = λ t q h. elim (cases_eq q p) [
    | inl e ↦ subst (λ (x : ℕ). stands t (list_of lists' x) ≡ true) (sym e) (ap (stands t) c.same ∙ add_standing_here lists places places' mask n p es k u s t (subst (λ (x : ℕ). place_of places' t ≡ Some x) e h))
    | inr ne ↦ ap (stands t) (c.others q ne) ∙ add_standing_there lists places places' mask n p k u t q ne h
  ];
  masked = masked_after lists lists' places mask mask' p es k c m;
}

pub kept_drop : (lists lists' : List (List ThreadId)) (places places' : List (Option ℕ)) (mask mask' n p : ℕ) (es : List ThreadId) → IsKept lists places mask → IsChanged lists lists' p es → IsPlaced places places' n None → IsMasked mask mask' p es → stands n (list_of lists p) ≡ true → ((m : ℕ) → stands m es ≡ (if n == m then false else stands m (list_of lists p))) → IsKept lists' places' mask'
kept_drop lists lists' places places' mask mask' n p es k c u m i s = record {
  size = c.size ∙ k.size;
  numbers = u.size ∙ k.numbers;
  placed = λ t q h. elim (cases_eq q p) [
    | inl e ↦ drop_placed_here lists places places' mask n p es k u s t q e (sym (ap (stands t) c.same) ∙ subst (λ (x : ℕ). stands t (list_of lists' x) ≡ true) e h)
    | inr ne ↦ drop_placed_there lists places places' mask n p k u i t q ne (sym (ap (stands t) (c.others q ne)) ∙ h)
  ];
  standing = λ t q h. elim (cases_eq q p) [
    | inl e ↦ subst (λ (x : ℕ). stands t (list_of lists' x) ≡ true) (sym e) (ap (stands t) c.same ∙ drop_standing_here lists places places' mask n p es k u s t (subst (λ (x : ℕ). place_of places' t ≡ Some x) e h))
    | inr ne ↦ ap (stands t) (c.others q ne) ∙ drop_standing_there lists places places' mask n k u t q h
  ];
  masked = masked_after lists lists' places mask mask' p es k c m;
}

-- ---- reading, and the mask of a list
pub read_list : (lists : List (List ThreadId)) (i p : ℕ) (now : List ThreadId) → i ≡ p → p < 64 → length lists ≡ 64 → now ≡ get_or lists i now → now ≡ list_of lists p
read_list lists i p now e l s r = r ∙ get_or_default lists i now [] (omega arith) ∙ ap (list_of lists) e

pub mask_append : (es : List ThreadId) (e : ThreadId) → mask_bit (es ++ e ∷ []) ≡ 1
mask_append [] e = refl
mask_append (f ∷ es) e = refl

pub mask_after : (es : List ThreadId) (b : Bool) (bit old : ℕ) → b ≡ is_empty es → old ≡ 1 → bit ≡ (if b then 0 else old) → bit ≡ mask_bit es
mask_after [] b bit old e o h = grind arith
mask_after (f ∷ es) b bit old e o h = grind arith

pub mask_standing : (n : ℕ) (es : List ThreadId) → stands n es ≡ true → mask_bit es ≡ 1
mask_standing n [] s = grind arith
mask_standing n (f ∷ es) s = refl

-- a list whose bit is 0 is empty
mask_empty : (es : List ThreadId) → mask_bit es ≡ 0 → es ≡ []
mask_empty [] e = refl
mask_empty (f ∷ es) e = absurd cc

pub bit_empty : (lists : List (List ThreadId)) (places : List (Option ℕ)) (mask : ℕ) → IsKept lists places mask → (p : ℕ) → p < 64 → bit_at mask p ≡ 0 → list_of lists p ≡ []
bit_empty lists places mask k p l e = mask_empty (list_of lists p) (sym (k.masked p l) ∙ e)

pub none_empty : (lists : List (List ThreadId)) (places : List (Option ℕ)) (mask : ℕ) → IsKept lists places mask → mask ≡ 0 → (p : ℕ) → p < 64 → list_of lists p ≡ []
none_empty lists places mask k e p l = bit_empty lists places mask k p l (ap (λ (m : ℕ). bit_at m p) e ∙ bit_at-zero p)

elsewhere : (lists : List (List ThreadId)) (places : List (Option ℕ)) (mask n p : ℕ) → IsKept lists places mask → stands n (list_of lists p) ≡ true → (q : ℕ) → q ≢ p → stands n (list_of lists q) ≡ false
elsewhere lists places mask n p k s q ne = grind (arith, common_steps, k.placed n p, k.placed n q)

pub other_version : (lists : List (List ThreadId)) (places : List (Option ℕ)) (mask n v p : ℕ) → IsKept lists places mask → stands n (list_of lists p) ≡ true → has_thread (record { number = n; version = v }) (list_of lists p) ≡ false → (q : ℕ) → has_thread (record { number = n; version = v }) (list_of lists q) ≡ false
other_version lists places mask n v p k s h q = elim (cases_eq q p) [
  | inl e ↦ ap (λ (x : ℕ). has_thread (record { number = n; version = v }) (list_of lists x)) e ∙ h
  | inr ne ↦ nobody_has n v (list_of lists q) (elsewhere lists places mask n p k s q ne)
]

pub or_turned : (a b : Bool) → (a || b) ≡ (b || a)
or_turned true true = refl
or_turned true false = refl
or_turned false true = refl
or_turned false false = refl
