-- Whether an owner is linked for a want: the log tells it by whose context it is, and the bound by the context's number.
use Rattle.std.proofs.Common.{◌≡◌, ℕ, ◌==◌, Bool, true, false, refl, sym, ap, ◌∙◌, subst, Some, List, [], ◌∷◌, arith}
use Rattle.std.proofs.Common.{inl, inr}
use Rattle.std.specs.Prelude.{◌||◌, ◌&&◌, if◌then◌else◌}
use Rattle.std.specs.List.{AllByRecursion}
use Rattle.std.proofs.lemmas.Bool.{cases_Bool, eq-eqb, eqb-true}
use Rattle.std.proofs.lemmas.Bool.Decides.{nat_tests}
use Rattle.k_locks.specs.declared.locks.Lock.TheVariants as lock
use Rattle.k_context.specs.declared.owner.Owner.{Owner}
use Rattle.k_context.specs.Contexts.{ContextSeen, locks_of, owner_of}
use Rattle.k_carrier.specs.declared.marks.Link.{Link}
use Rattle.k_carrier.specs.declared.marks.Want.{Want}
use Rattle.k_carrier.specs.declared.marks.Want.TheVariants as want
use Rattle.k_carrier.specs.Rules.{holds_any}
use Rattle.k_script.specs.Script.{Script}
use Rattle.k_world.specs.Lawful.{links_of}
use Rattle.k_world.specs.Marks.{is_linked, link_of, same_owner, same_want}
use Rattle.k_world.specs.Worlds.{World}
use Rattle.k_world.proofs.Steps.{owner_same, owner_self}
use Rattle.k_bound.specs.Sections as bound
use Rattle.k_bound.specs.Waits.{OwnerFound, owner_found, same_found}
use Rattle.k_aligned.specs.Aligned.{found_in}
use Rattle.k_waits.specs.Waits.{IsSameOwner}
use Rattle.k_waits.specs.Words.{found_in_link, has_found, number_of, want_in}

turned : (m n : ℕ) → (m == n) ≡ (n == m)
turned m n = grind (arith, nat_tests)

-- the same want, by either's words
wants_alike : (a b : Want) → same_want a b ≡ bound.same_want (want_in b) (want_in a)
wants_alike (want.Lock lock.Table) (want.Lock lock.Table) = refl
wants_alike (want.Lock lock.Table) (want.Lock (lock.Thread n)) = refl
wants_alike (want.Lock lock.Table) (want.Lock lock.Ready) = refl
wants_alike (want.Lock (lock.Thread m)) (want.Lock lock.Table) = refl
wants_alike (want.Lock (lock.Thread m)) (want.Lock (lock.Thread n)) = turned m n
wants_alike (want.Lock (lock.Thread m)) (want.Lock lock.Ready) = refl
wants_alike (want.Lock lock.Ready) (want.Lock lock.Table) = refl
wants_alike (want.Lock lock.Ready) (want.Lock (lock.Thread n)) = refl
wants_alike (want.Lock lock.Ready) (want.Lock lock.Ready) = refl
wants_alike (want.Lock lock.Table) (want.Context n) = refl
wants_alike (want.Lock (lock.Thread m)) (want.Context n) = refl
wants_alike (want.Lock lock.Ready) (want.Context n) = refl
wants_alike (want.Context m) (want.Lock lock.Table) = refl
wants_alike (want.Context m) (want.Lock (lock.Thread n)) = refl
wants_alike (want.Context m) (want.Lock lock.Ready) = refl
wants_alike (want.Context m) (want.Context n) = turned m n

-- the same owner, by its number, where the context of that number is its own
owners_alike : (table j : ℕ) (a b : Owner) → number_of table b ≡ j → ((j ≡ number_of table a) → b ≡ a) →
    same_owner a b ≡ (j == number_of table a)
owners_alike table j a b number same = elim (cases_Bool (j == number_of table a)) [
  | inl t ↦ ap (same_owner a) (same (eqb-true j (number_of table a) t)) ∙ owner_self a ∙ sym t
  | inr f ↦ elim (cases_Bool (same_owner a b)) [
    | inr g ↦ g ∙ sym f
    | inl t ↦
        let e : j ≡ number_of table a = sym number ∙ ap (number_of table) (sym (owner_same a b t)) in
        let no : true ≡ false = sym (eq-eqb j (number_of table a) e) ∙ f in absurd cc
  ]
]

module _ (script : Script) (w : World) (k j : ℕ) (holder : ContextSeen) (wanted : Want) (found : found_in w j ≡ Some holder)
    (any : holds_any (locks_of holder) ≡ true) (number : number_of script.table (owner_of holder) ≡ j) where
  abbrev F : OwnerFound
  F = owner_found j (want_in wanted)

  one_alike : (l : Link) → IsSameOwner script w l → (same_owner l.owner (owner_of holder) && same_want l.wants wanted)
      ≡ same_found (owner_found j (want_in wanted)) (found_in_link script.table l)
  one_alike l own =
      λ d. owners_alike script.table j l.owner (owner_of holder) number
      (λ e. own holder (ap (found_in w) (sym e) ∙ found) any) d && wants_alike l.wants wanted d

  pub linked_alike : (links : List Link) → AllByRecursion (IsSameOwner script w) (links_of k links) →
      is_linked (link_of k holder wanted) links ≡ has_found script.table (owner_found j (want_in wanted)) (links_of k links)
  linked_alike [] all = refl
  linked_alike (l ∷ links) all = more (λ h. linked_alike links h) (l.mark == k) refl all
    where
      more : (AllByRecursion (IsSameOwner script w) (links_of k links) → is_linked (link_of k holder wanted) links
          ≡ has_found script.table (owner_found j (want_in wanted)) (links_of k links)) → (q : Bool) → (l.mark == k) ≡ q →
          AllByRecursion (IsSameOwner script w) (links_of k (l ∷ links)) → is_linked (link_of k holder wanted) (l ∷ links)
          ≡ has_found script.table (owner_found j (want_in wanted)) (links_of k (l ∷ links))
      more rest true q all =
          let h : AllByRecursion (IsSameOwner script w) (l ∷ links_of k links) = subst (λ z.
          AllByRecursion (IsSameOwner script w) (if z then l ∷ links_of k links else links_of k links)) q all in
          rw q (λ d. one_alike l h.0 d || rest h.1 d)
      more rest false q all =
          let h : AllByRecursion (IsSameOwner script w) (links_of k links) = subst (λ z.
          AllByRecursion (IsSameOwner script w) (if z then l ∷ links_of k links else links_of k links)) q all in
          rw q (rest h)
