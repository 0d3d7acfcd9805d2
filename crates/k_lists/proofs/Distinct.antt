-- Lists of which no two elements are equal, by a test.
use Rattle.std.proofs.Common.{◌≡◌, Bool, false, List, [], ◌∷◌, ◌++◌}
use Rattle.std.specs.List.{AllByRecursion, IsDistinct}
use Rattle.std.proofs.lemmas.Map.Keys.{IsDistinct-head, IsDistinct-tail, IsDistinct-cons}
use Rattle.k_lists.proofs.All.{all_inside, all_left, all_push}

-- one more at the end
pub distinct_push : {K : Type 0} (e : K → K → Bool) (ks : List K) (k : K) → IsDistinct e ks → AllByRecursion (λ y. e y k ≡ false) ks → IsDistinct e (ks ++ k ∷ [])
distinct_push e [] k h l = IsDistinct-cons e k [] tt h
distinct_push e (x ∷ xs) k h l = IsDistinct-cons e x (xs ++ k ∷ []) (all_push (λ y. e x y ≡ false) xs k (IsDistinct-head e x xs h) l.0) (distinct_push e xs k (IsDistinct-tail e x xs h) l.1)

-- one is equal to none before it
pub distinct_before : {K : Type 0} (e : K → K → Bool) (xs : List K) (k : K) (ys : List K) → IsDistinct e (xs ++ k ∷ ys) → AllByRecursion (λ y. e y k ≡ false) xs
distinct_before e [] k ys h = tt
distinct_before e (x ∷ xs) k ys h = (all_inside (λ y. e x y ≡ false) xs k ys (IsDistinct-head e x (xs ++ k ∷ ys) h), distinct_before e xs k ys (IsDistinct-tail e x (xs ++ k ∷ ys) h))

pub distinct_left : {K : Type 0} (e : K → K → Bool) (xs ys : List K) → IsDistinct e (xs ++ ys) → IsDistinct e xs
unfolding IsDistinct
distinct_left e [] ys h = tt
distinct_left e (x ∷ xs) ys h = (all_left (λ y. e x y ≡ false) xs ys h.0, distinct_left e xs ys h.1)
