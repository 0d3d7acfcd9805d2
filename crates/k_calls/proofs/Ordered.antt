-- The order of the lines: two that are equal in it are of one call, and lines put together stay in it.
use Rattle.std.proofs.Common.{◌≡◌, ℕ, suc, ◌+◌, true, false, List, [], ◌∷◌, get_or, refl, sym, ap, ◌∙◌, subst, arith, inl, inr}
use Rattle.std.specs.List.{AllByRecursion, fold}
use Rattle.std.specs.List.Sorted.{IsSorted, IsStrictlySortedBy}
use Rattle.std.specs.Cmp.{IsTotalOrder}
use Rattle.std.specs.declared.cmp.Ordering.{Ordering}
use Rattle.std.specs.declared.cmp.Ordering.TheVariants.{Less, Equal, Greater}
use Rattle.std.specs.Ordering.{is_gt, is_lt, nat_cmp, ordering_reverse, ordering_then}
use Rattle.std.proofs.lemmas.Bool.{and_from, and_parts, cases_Bool, eq-eqb, eqb-true, false≢true}
use Rattle.std.proofs.lemmas.Cmp.{alike_right, nat_cmp_total, on_total, ranked, then_total, tied_itself, upto}
use Rattle.k_lists.proofs.All.{all_weaker}
use Rattle.k_ids.specs.declared.threads.ThreadId.{ThreadId}
use Rattle.k_calls.specs.declared.lines.CallLine.{CallLine}
use Rattle.k_calls.specs.Calls.{call_order, is_of}
use Rattle.k_calls.specs.Counting.{added, both, same_call}

pub call_total : IsTotalOrder call_order
call_total = then_total (then_total (on_total (λ (c : CallLine). c.id.number) nat_cmp_total) (on_total (λ (c : CallLine). c.id.version) nat_cmp_total)) (on_total (λ (c : CallLine). c.serial) nat_cmp_total)

then_equal : (a b : Ordering) → ordering_then a b ≡ Equal → (a ≡ Equal) × (b ≡ Equal)
then_equal Less b h = absurd cc
then_equal Equal b h = (refl, h)
then_equal Greater b h = absurd cc

nat_equal : (x y : ℕ) → nat_cmp x y ≡ Equal → x ≡ y
nat_equal x y h = rw h at (ranked x y (nat_cmp x y) refl)

-- lines that are equal in the order are of one call
pub same_from_equal : (a b : CallLine) → call_order a b ≡ Equal → same_call a b ≡ true
same_from_equal a b h =
    let p = then_equal (ordering_then (nat_cmp a.id.number b.id.number) (nat_cmp a.id.version b.id.version)) (nat_cmp a.serial b.serial) h in
    let q = then_equal (nat_cmp a.id.number b.id.number) (nat_cmp a.id.version b.id.version) p.0 in
    and_from _ _
    (and_from _ _ (eq-eqb a.id.number b.id.number (nat_equal _ _ q.0)) (eq-eqb a.id.version b.id.version (nat_equal _ _ q.1)))
    (eq-eqb a.serial b.serial (nat_equal _ _ p.1))

-- the id and the serial of a line that is of this call
pub record IsFor (id : ThreadId) (serial : ℕ) (line : CallLine) : Type 0 where
  pub caller : line.id ≡ id
  pub call : line.serial ≡ serial

pub is_for : (id : ThreadId) (serial : ℕ) (line : CallLine) → is_of id serial line ≡ true → IsFor id serial line
is_for id serial line h =
    let p = and_parts _ _ h in
    let q = and_parts _ _ p.0 in
    let number : line.id.number ≡ id.number = eqb-true line.id.number id.number q.0 in
    let version : line.id.version ≡ id.version = eqb-true line.id.version id.version q.1 in
    record { caller = ap (λ (n : ℕ). record line.id { number = n }) number ∙ ap (λ (v : ℕ). record line.id { number = id.number; version = v }) version; call = eqb-true line.serial serial p.1 }

-- two lines of one call are equal in the order
pub equal_for : (id : ThreadId) (serial : ℕ) (a b : CallLine) → is_of id serial a ≡ true → is_of id serial b ≡ true → call_order a b ≡ Equal
equal_for id serial a b h k =
    let p = is_for id serial a h in
    let q = is_for id serial b k in
    let same : a.id ≡ b.id = p.caller ∙ sym q.caller in
    let one : a.serial ≡ b.serial = p.call ∙ sym q.call in
    let there : call_order a b ≡ call_order b b = ap (λ (i : ThreadId). ordering_then (ordering_then (nat_cmp i.number b.id.number) (nat_cmp i.version b.id.version)) (nat_cmp a.serial b.serial)) same ∙ ap (λ (s : ℕ). ordering_then (ordering_then (nat_cmp b.id.number b.id.number) (nat_cmp b.id.version b.id.version)) (nat_cmp s b.serial)) one in
    there ∙ tied_itself call_total b

-- ADDING A LINE

-- what holds of each line, and of one with more steps where it holds of one
pub all_added : (P : CallLine → Type 0) → ((a b : CallLine) → P a → P (both a b)) → (xs : List CallLine) (x : CallLine) → AllByRecursion P xs → P x → AllByRecursion P (added xs x)
all_added P keeps [] x h p = (p, tt)
all_added P keeps (last ∷ []) x h p = elim (cases_Bool (same_call last x)) [
  | inl t ↦ rw t (keeps last x h.0, tt)
  | inr f ↦ rw f (h.0, (p, tt))
]
all_added P keeps (a ∷ b ∷ rest) x h p = (h.0, all_added P keeps (b ∷ rest) x h.1 p)

-- none of these lines stands behind this one
abbrev pub NoneBehind : CallLine → List CallLine → Type 0
NoneBehind x xs = AllByRecursion (λ y. is_gt (call_order y x) ≡ false) xs

less_by : (a b : CallLine) (o : Ordering) → call_order a b ≡ o → is_gt (call_order a b) ≡ false → same_call a b ≡ false → call_order a b ≡ Less
less_by a b Less e h f = e
less_by a b Equal e h f = absurd (false≢true (sym f ∙ same_from_equal a b e))
less_by a b Greater e h f = let no : true ≡ false = sym (ap is_gt e) ∙ h in absurd cc

before_by : (a b x : CallLine) (o : Ordering) → call_order b x ≡ o → call_order a b ≡ Less → is_gt (call_order b x) ≡ false → call_order a x ≡ Less
before_by a b x Less e l h = call_total.trans a b x l e
before_by a b x Equal e l h = sym (alike_right call_total b x a e) ∙ l
before_by a b x Greater e l h = let no : true ≡ false = sym (ap is_gt e) ∙ h in absurd cc

pub strict_added : (xs : List CallLine) (x : CallLine) → IsStrictlySortedBy call_order xs → NoneBehind x xs → IsStrictlySortedBy call_order (added xs x)
unfolding IsStrictlySortedBy
strict_added [] x s h = (tt, tt)
strict_added (last ∷ []) x s h = elim (cases_Bool (same_call last x)) [
  | inl t ↦ rw t (tt, tt)
  | inr f ↦ rw f ((less_by last x (call_order last x) refl h.0 f, tt), (tt, tt))
]
strict_added (a ∷ b ∷ rest) x s h = (
  all_added (λ y. call_order a y ≡ Less) (λ u v p. p) (b ∷ rest) x s.0 (before_by a b x (call_order b x) refl s.0.0 h.1.0),
  strict_added (b ∷ rest) x s.1 h.1,
)

-- ADDING A SORTED LIST

flipped : (o : Ordering) → is_gt (ordering_reverse o) ≡ is_lt o
flipped Less = refl
flipped Equal = refl
flipped Greater = refl

not_behind : (x y : CallLine) → is_lt (call_order y x) ≡ false → is_gt (call_order x y) ≡ false
not_behind x y h = ap is_gt (call_total.antisymm x y) ∙ flipped (call_order y x) ∙ h

sorted_rest : (x : CallLine) (xs : List CallLine) → IsSorted call_order (x ∷ xs) → IsSorted call_order xs
sorted_rest x xs h = λ k d _ l.
    let next : suc k + 1 ≡ suc (k + 1) = omega arith in
    subst (λ (n : ℕ). is_lt (call_order (get_or (x ∷ xs) n d) (get_or xs k d)) ≡ false) next (h (suc k) d (omega arith) (omega arith))

-- the first of a list stands behind none of these
abbrev FirstBehind : List CallLine → List CallLine → Type 0
FirstBehind [] acc = Unit {0}
FirstBehind (x ∷ xs) acc = NoneBehind x acc

first_behind : (x : CallLine) (xs acc : List CallLine) → IsSorted call_order (x ∷ xs) → NoneBehind x acc → FirstBehind xs (added acc x)
first_behind x [] acc s h = tt
first_behind x (y ∷ ys) acc s h =
    let next : is_gt (call_order x y) ≡ false = not_behind x y (s 0 x (omega arith) (omega arith)) in
    all_added (λ l. is_gt (call_order l y) ≡ false) (λ u v p. p) acc x (all_weaker (λ l. is_gt (call_order l x) ≡ false) (λ l. is_gt (call_order l y) ≡ false) (λ l p. upto call_total l x y p next) acc h) next

strict_folded : (xs acc : List CallLine) → IsStrictlySortedBy call_order acc → IsSorted call_order xs → FirstBehind xs acc → IsStrictlySortedBy call_order (fold added acc xs)
strict_folded [] acc s t h = s
strict_folded (x ∷ xs) acc s t h = strict_folded xs (added acc x) (strict_added acc x s h) (sorted_rest x xs t) (first_behind x xs acc t h)

none_behind_none : (xs : List CallLine) → FirstBehind xs []
none_behind_none [] = tt
none_behind_none (x ∷ xs) = tt

none_sorted : IsStrictlySortedBy call_order []
unfolding IsStrictlySortedBy
none_sorted = tt

-- Lines that are sorted are strictly sorted once those of one call are put together.
pub joined_strict : (xs : List CallLine) → IsSorted call_order xs → IsStrictlySortedBy call_order (fold added [] xs)
joined_strict xs h = strict_folded xs [] none_sorted h (none_behind_none xs)

pub all_folded : (P : CallLine → Type 0) → ((a b : CallLine) → P a → P (both a b)) → (xs acc : List CallLine) → AllByRecursion P acc → AllByRecursion P xs → AllByRecursion P (fold added acc xs)
all_folded P keeps [] acc h p = h
all_folded P keeps (x ∷ xs) acc h p = all_folded P keeps xs (added acc x) (all_added P keeps acc x h p.0) p.1
