-- Texts that are put one after another.
use Rattle.std.proofs.Common.{◌≡◌, ℕ, List, [], ◌∷◌, ◌++◌, length, take, drop, sym, ap, ◌∙◌, subst, arith, Option, Some, None, append_assoc, Result, Ok, Err}
use Rattle.std.proofs.lemmas.List.{append-nil, take-append-drop}
use Rattle.k_outside.specs.Outside.{Appends, AppendsFront, PutsAll}

pub appends_more : (a b c : Option (List ℕ)) (t u : List ℕ) → Appends a b t → Appends b c u → Appends a c (t ++ u)
appends_more None b c t u p q = tt
appends_more (Some h) None c t u p q = absurd cc
appends_more (Some h) (Some i) c t u p q =
    let same : i ≡ h ++ t = cc in
    q ∙ ap (λ (x : List ℕ). Some (x ++ u)) same ∙ ap (λ (x : List ℕ). Some x) (append_assoc h t u)

pub appends_none : (a : Option (List ℕ)) → Appends a a []
appends_none None = tt
appends_none (Some h) = ap (λ (x : List ℕ). Some x) (sym (append-nil h))

-- a part of the rest was put
pub part_more : (a b c : Option (List ℕ)) (text rest : List ℕ) (k : ℕ) → ((done : List ℕ) × (text ≡ done ++ rest) × Appends a b done) → Appends b c (take k rest) → (done : List ℕ) × (text ≡ done ++ drop k rest) × Appends a c done
part_more a b c text rest k h q =
    (h.0 ++ take k rest, h.1 ∙ ap (λ (x : List ℕ). h.0 ++ x) (sym (take-append-drop k rest)) ∙ sym (append_assoc h.0 (take k rest) (drop k rest)), appends_more a b c h.0 (take k rest) h.2 q)

pub front_more : (a b c : Option (List ℕ)) (t u : List ℕ) → Appends a b t → AppendsFront b c u → AppendsFront a c (t ++ u)
front_more a b c t u p q =
    (t ++ q.0, (q.1.0, ap (λ (x : List ℕ). t ++ x) q.1.1 ∙ sym (append_assoc t q.0 q.1.0)), appends_more a b c t q.0 p q.2)

pub front_first : (a b : Option (List ℕ)) (t u : List ℕ) → AppendsFront a b t → AppendsFront a b (t ++ u)
front_first a b t u q = (q.0, (q.1.0 ++ u, ap (λ (x : List ℕ). x ++ u) q.1.1 ∙ append_assoc q.0 q.1.0 u), q.2)

-- a put that failed leaves the front that was put
pub fault_front : (a b c : Option (List ℕ)) (text rest : List ℕ) → ((done : List ℕ) × (text ≡ done ++ rest) × Appends a b done) → Appends b c [] → AppendsFront a c text
fault_front a b c text rest h q =
    (h.0, (rest, h.1), subst (λ (x : List ℕ). Appends a c x) (append-nil h.0) (appends_more a b c h.0 [] h.2 q))

pub all_put : (a b : Option (List ℕ)) (text rest : List ℕ) → length rest ≡ 0 → ((done : List ℕ) × (text ≡ done ++ rest) × Appends a b done) → Appends a b text
all_put a b text [] e h = subst (λ (x : List ℕ). Appends a b x) (sym (h.1 ∙ append-nil h.0)) h.2
all_put a b text (x ∷ xs) e h = absurd (omega arith)

-- the last text, behind those that were put
pub puts_more : {T E : Type 0} (a b c : Option (List ℕ)) (r : Result T E) (t u : List ℕ) → Appends a b t → PutsAll b c r u → PutsAll a c r (t ++ u)
puts_more a b c (Ok x) t u p q = appends_more a b c t u p q
puts_more a b c (Err e) t u p q = front_more a b c t u p q
