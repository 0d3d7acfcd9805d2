-- How many threads stand in the ready lists, after each change of them.
use Rattle.std.proofs.Common.{◌≡◌, ℕ, zero, suc, ◌+◌, ◌<◌, ◌≤◌, Bool, true, false, refl, sym, ap, ◌∙◌, subst}
use Rattle.std.proofs.Common.{arith, Option, Some, None, List, [], ◌∷◌, ◌++◌, length, inl, inr, length-append}
use Rattle.std.proofs.Common.{drop, map}
use Rattle.std.specs.Prelude.{◌==◌, if◌then◌else◌, is_some, slice_set}
use Rattle.std.specs.List.{sum_by}
use Rattle.std.proofs.lemmas.Bool.{cases_lt}
use Rattle.std.proofs.lemmas.List.{set_past}
use Rattle.std.proofs.Math.ListN.{get_or-eq_default}
use Rattle.std.proofs.lemmas.List.Sums.{sum_by-cons, sum_by-set}
use Rattle.k_ids.specs.declared.threads.ThreadId.{ThreadId}
use Rattle.k_links.specs.Listed as listed
use Rattle.k_ready.specs.Lists.{Ready, has_thread, list_of, number_of, with_list, without}
use Rattle.k_ready.specs.Popped.{Level, first_or, highest, highest_below, popped, without_level}
use Rattle.k_locks.specs.Hands.{pushed}
use Rattle.k_threads.specs.Goods.{unlisted, without_it}
use Rattle.k_switch.specs.declared.goal.Goal.{Goal}
use Rattle.k_switch.specs.declared.switch.SwitchCall.{SwitchCall}
use Rattle.k_switch.specs.Switches as switch
use Rattle.k_owed.specs.Owes.{one_for}
use Rattle.k_owed.specs.Owed.{entries_in}

-- one list is changed
put_entries : (lists : List (List ThreadId)) (p : ℕ) (es : List ThreadId) →
    entries_in (slice_set lists p es) + length (list_of lists p) ≤ entries_in lists + length es
put_entries lists p es = elim (cases_lt p (length lists)) [
  | inl l ↦ let s = sum_by-set length lists p es [] l in omega (arith, s)
  | inr ge ↦
      let same = ap entries_in (set_past lists p es ge) in
      let none = ap (λ (ids : List ThreadId). length ids) (get_or-eq_default lists [] ge) in
      omega (arith, same, none)
]

-- a thread comes to the end, or to the front, of a list
pub pushed_entries : (id : ThreadId) (p : ℕ) (r : Ready) → entries_in (pushed id p r).lists ≤
    entries_in r.lists + 1
pushed_entries id p r =
    let e = put_entries r.lists p (list_of r.lists p ++ id ∷ []) in
    let l = length-append (list_of r.lists p) (id ∷ []) in
    omega (arith, e, l)

fronted_entries : (id : ThreadId) (p : ℕ) (r : Ready) →
    entries_in (with_list r p (id ∷ list_of r.lists p)).lists ≤ entries_in r.lists + 1
fronted_entries id p r = let e = put_entries r.lists p (id ∷ list_of r.lists p) in omega (arith, e)

-- a thread is taken out
without_less : (n : ℕ) (es : List ThreadId) → length (without n es) ≤ length es
without_less n [] = omega arith
without_less n (e ∷ es) = go (number_of e == n) (without_less n es)
  where
    go : (t : Bool) → length (without n es) ≤ length es → length (if t then es else e ∷ without n es) ≤
        length (e ∷ es)
    go true l = omega arith
    go false l = omega (arith, l)

without_it_less : (id : ThreadId) (es : List ThreadId) → length (without_it id es) ≤ length es
without_it_less id es = go (has_thread id es)
  where
    go : (t : Bool) → length (if t then without id.number es else es) ≤ length es
    go true = without_less id.number es
    go false = omega arith

pub unlisted_entries : (id : ThreadId) (lists : List (List ThreadId)) →
    entries_in (map (without_it id) lists) ≤ entries_in lists
unlisted_entries id [] = omega arith
unlisted_entries id (es ∷ lists) =
    let more = unlisted_entries id lists in
    let less = without_it_less id es in
    let now : entries_in (map (without_it id) (es ∷ lists)) ≡ length (without_it id es) + entries_in
    (map (without_it id) lists) =
    sum_by-cons length (without_it id es) (map (without_it id) lists) in
    let was = sum_by-cons length es lists in
    omega (arith, more, less, now, was)

-- THE RELEASE OF A SWITCH

-- the highest list isn't empty
filled_highest : (n : ℕ) (lists : List (List ThreadId)) (l : Level) → highest_below n lists ≡ Some l →
    1 ≤ length (list_of lists l.priority)
unfolding highest_below
filled_highest zero lists l e = absurd cc
filled_highest (suc p) lists l e = go (list_of lists p) refl e (filled_highest p lists l)
  where
    some_is : {a c : Level} → Some a ≡ Some c → a ≡ c
    some_is q = cc

    go : (es : List ThreadId) → list_of lists p ≡ es → first_or es p (highest_below p lists) ≡ Some l →
        (highest_below p lists ≡ Some l → 1 ≤ length (list_of lists l.priority)) → 1 ≤
        length (list_of lists l.priority)
    go [] at q lower = lower q
    go (x ∷ es) at q lower =
        let same : p ≡ l.priority = ap (λ (k : Level). k.priority) (some_is q) in
        subst (λ (k : ℕ). 1 ≤ length (list_of lists k)) same
        (subst (λ (ids : List ThreadId). 1 ≤ length ids) (sym at) (omega arith))

dropped_less : (es : List ThreadId) → 1 ≤ length es → length (drop 1 es) + 1 ≤ length es
dropped_less [] some = absurd (omega (arith, some))
dropped_less (e ∷ es) some = omega arith

level_entries : (r : Ready) (o : Option Level) → highest r ≡ o →
    entries_in (without_level r o).lists + one_for (switch.goal_at o) ≤ entries_in r.lists
level_entries r None e = omega arith
level_entries r (Some l) e =
    let some = filled_highest 64 r.lists l e in
    let less = dropped_less (list_of r.lists l.priority) some in
    let put = put_entries r.lists l.priority (drop 1 (list_of r.lists l.priority)) in
    omega (arith, less, put)

back_entries : (ended : Bool) (back : Option Goal) (r : Ready) →
    entries_in (switch.put_back ended back r).lists ≤ entries_in r.lists + one_for back
back_entries true None r = omega arith
back_entries false None r = omega arith
back_entries false (Some g) r = let e = fronted_entries g.id g.priority r in omega (arith, e)
back_entries true (Some g) r = let e = pushed_entries g.id g.priority r in omega (arith, e)

started_entries : (started : Option Goal) (r : Ready) →
    entries_in (switch.entered started r).lists ≤ entries_in r.lists + one_for started
started_entries None r = omega arith
started_entries (Some g) r = let e = pushed_entries g.id g.priority r in omega (arith, e)

counted_lists : (t : Bool) (r : Ready) → (switch.counted t r).lists ≡ r.lists
counted_lists true r = refl
counted_lists false r = refl

uncounted_lists : (t : Bool) (r : Ready) → (switch.uncounted t r).lists ≡ r.lists
uncounted_lists true r = refl
uncounted_lists false r = refl

-- Of the threads that it has and those in the lists one becomes its goal.
pub switched_entries : (c : SwitchCall) (back started : Option Goal) (r : Ready) →
    entries_in (switch.taken (switch.filled c back started r)).lists
    + one_for (switch.switched_by (switch.filled c back started r)).goal ≤
    entries_in r.lists + one_for back + one_for started
switched_entries c back started r =
    let full = switch.filled c back started r in
    let off = switch.uncounted c.counted r in
    let put = switch.put_back c.slice_ended back off in
    let a = ap entries_in (uncounted_lists c.counted r) in
    let s = back_entries c.slice_ended back off in
    let t = started_entries started put in
    let p = level_entries full (highest full) refl in
    let n = ap entries_in (counted_lists (is_some (highest full)) (popped full)) in
    omega (arith, a, s, t, p, n)
