-- What the log shows of a mark: as it begins, with a link more, and with a step more.
use Rattle.std.proofs.Common.{◌≡◌, ℕ, ◌≤◌, Bool, true, false, List, [], ◌∷◌, ◌++◌, refl, sym, ap, ◌∙◌, arith}
use Rattle.std.specs.Prelude.{◌==◌, ◌||◌}
use Rattle.std.proofs.lemmas.Bool.{eq-eqb}
use Rattle.std.proofs.lemmas.Bool.Decides.{nat_tests}
use Rattle.std.proofs.lemmas.List.Folds.{list_any-append}
use Rattle.std.proofs.lemmas.List.Elements.{filter-append}
use Rattle.k_context.specs.Contexts.{ContextSeen}
use Rattle.k_carrier.specs.declared.marks.Link.{Link}
use Rattle.k_carrier.specs.declared.marks.WaitMark.{WaitMark}
use Rattle.k_carrier.specs.declared.marks.Want.{Want}
use Rattle.k_world.specs.Lawful.{links_of}
use Rattle.k_world.specs.Marks.{mark_of, more_allowed, used_once}
use Rattle.k_bound.specs.Waits.{OwnerFound, allowed, is_linked, mark_begun, mark_counted, mark_linked}
use Rattle.k_bound.specs.Waits.{same_found}
use Rattle.k_bound.specs.Waits as bound
use Rattle.k_waits.specs.Words.{ShowsMark, found_in_link, has_found}

-- the links of a mark, with one more of its own
pub links_with : (k : ℕ) (links : List Link) (link : Link) → link.mark ≡ k →
    links_of k (links ++ link ∷ []) ≡ links_of k links ++ link ∷ []
links_with k links link e = filter-append (λ (l : Link). l.mark == k) links (link ∷ []) ∙ rw (eq-eqb link.mark k e) refl

found_with : (table : ℕ) (f : OwnerFound) (links : List Link) (link : Link) →
    has_found table f (links ++ link ∷ []) ≡ (has_found table f links || same_found f (found_in_link table link))
found_with table f links link =
    let t = list_any-append (λ (l : Link). same_found f (found_in_link table l)) links (link ∷ []) in
    grind (arith, nat_tests, t)

either_way : (a b : Bool) → (a || b) ≡ (b || a)
either_way true true = refl
either_way true false = refl
either_way false true = refl
either_way false false = refl

pub shows_linked : (table k : ℕ) (m : WaitMark) (links : List Link) (mark : bound.WaitMark) (link : Link) (b : bound.Link) →
    ShowsMark table k m links mark → link.mark ≡ k → found_in_link table link ≡ b.found → link.left ≡ b.left →
    ShowsMark table k (more_allowed link.left m) (links ++ link ∷ []) (mark_linked b mark)
shows_linked table k m links mark link b h own found left = record {
  linked = λ f.
      ap (λ (z : Bool). same_found f b.found || z) (h.linked f)
      ∙ either_way (same_found f b.found) (has_found table f (links_of k links))
      ∙ ap (λ (z : OwnerFound). has_found table f (links_of k links) || same_found f z) (sym found)
      ∙ sym (found_with table f (links_of k links) link)
      ∙ ap (has_found table f) (sym (links_with k links link own));
  allowed = let a = h.allowed in omega (arith, a, left);
  used = h.used;
}

pub shows_begun : (table k first : ℕ) (v : ContextSeen) (wanted : Want) (links : List Link) (link : Link) (b : bound.Link) →
    link.mark ≡ k → links_of k links ≡ [] → found_in_link table link ≡ b.found → link.left ≡ b.left →
    ShowsMark table k (mark_of v wanted first link.left) (links ++ link ∷ []) (mark_begun b)
shows_begun table k first v wanted links link b own none found left = record {
  linked = λ f.
      ap (λ (z : OwnerFound). same_found f z || false) (sym found)
      ∙ ap (has_found table f) (sym (links_with k links link own ∙ ap (λ (z : List Link). z ++ link ∷ []) none));
  allowed = omega (arith, left);
  used = omega arith;
}

pub shows_counted : (table k : ℕ) (m : WaitMark) (links : List Link) (mark : bound.WaitMark) (by_owner : Bool)
    (help : OwnerFound) → ShowsMark table k m links mark → ShowsMark table k (used_once m) links (mark_counted by_owner help mark)
shows_counted table k m links mark by_owner help h = record {
  linked = h.linked;
  allowed = h.allowed;
  used = let u = h.used in omega (arith, u);
}

-- a step that isn't counted
pub shows_left_out : (table k : ℕ) (m : WaitMark) (links : List Link) (mark : bound.WaitMark) (by_owner : Bool)
    (help : OwnerFound) → ShowsMark table k m links mark → ShowsMark table k m links (mark_counted by_owner help mark)
shows_left_out table k m links mark by_owner help h = record {
  linked = h.linked;
  allowed = h.allowed;
  used = let u = h.used in omega (arith, u);
}

-- what it has counted is within what its links allow
pub within_allowed : (table k : ℕ) (m : WaitMark) (links : List Link) (mark : bound.WaitMark) → ShowsMark table k m links mark →
    mark.used ≤ allowed mark.links → m.used ≤ m.allowed
within_allowed table k m links mark h b = let u = h.used in let a = h.allowed in omega (arith, u, a, b)
