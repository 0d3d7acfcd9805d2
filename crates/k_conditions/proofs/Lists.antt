-- Who stands in no ready list.
use Rattle.std.proofs.Common.{◌≡◌, ◌≢◌, ◌≤◌, ℕ, ◌+◌, Bool, true, false, ◌||◌, refl, sym, ap, ◌∙◌, subst, arith, inl}
use Rattle.std.proofs.Common.{inr, List, [], ◌∷◌}
use Rattle.std.proofs.lemmas.Bool.{and_parts, eq-eqb, eqb-true, false≢true}
use Rattle.std.specs.Prelude.{◌==◌, if◌then◌else◌}
use Rattle.k_ids.specs.declared.threads.ThreadId.{ThreadId}
use Rattle.k_model.specs.State.{same_id}
use Rattle.k_ready.specs.Lists.{IsInNone, list_of, stands}
use Rattle.k_tokens.specs.Good.{GoalOf, Holder, IsListable, Nobody, Parts, PushOf, ReadyList, StartOf, StartToCome}
use Rattle.k_tokens.specs.Good.{SwitchOf, times_in}
use Rattle.k_tokens.specs.Maps.{times}
use Rattle.k_tokens.specs.World.{World}
use Rattle.k_tokens.proofs.Basics.{same_is}

-- an entry of a number that stands in a list
record HasEntry (n : ℕ) (es : List ThreadId) : Type 0 where
  pub entry : ThreadId
  pub number : entry.number ≡ n
  pub often : 1 ≤ times entry es

self : (id : ThreadId) → same_id id id ≡ true
self id = let e : (id.number == id.number) ≡ true = eq-eqb id.number id.number refl in
    let f : (id.version == id.version) ≡ true = eq-eqb id.version id.version refl in rw (e, f) refl

later : (t : Bool) (n : ℕ) → 1 ≤ n → 1 ≤ (if t then 1 else 0) + n
later true n m = omega arith
later false n m = omega (arith, m)

counted : (t : Bool) (n : ℕ) → t ≡ true → 1 ≤ (if t then 1 else 0) + n
counted true n e = omega arith
counted false n e = absurd (false≢true e)

entry_stands : (n : ℕ) (es : List ThreadId) → stands n es ≡ true → HasEntry n es
entry_stands n [] e = absurd (false≢true e)
entry_stands n (id ∷ es) e = by (id.number == n) refl (λ s. entry_stands n es s) e
  where
    by : (q : Bool) → (id.number == n) ≡ q → (stands n es ≡ true → HasEntry n es) →
        (q || stands n es) ≡ true →
        HasEntry n (id ∷ es)
    by true q rest e = record {
      entry = id;
      number = eqb-true id.number n q;
      often = counted (same_id id id) (times id es) (self id);
    }
    by false q rest e = let more = rest e in record {
      entry = more.entry;
      number = more.number;
      often = later (same_id id more.entry) (times more.entry es) more.often;
    }

-- who is counted in a list stands in it
pub in_list : (p : ℕ) (h : Holder) → 1 ≤ times_in p h → h ≡ ReadyList p
in_list p Nobody m = absurd (omega (arith, m))
in_list p (ReadyList q) m = by (q == p) refl m
  where
    by : (t : Bool) → (q == p) ≡ t → 1 ≤ (if t then 1 else 0) → ReadyList q ≡ ReadyList p
    by true e m = ap ReadyList (eqb-true q p e)
    by false e m = absurd (omega (arith, m))
in_list p (GoalOf c) m = absurd (omega (arith, m))
in_list p (PushOf n) m = absurd (omega (arith, m))
in_list p StartToCome m = absurd (omega (arith, m))
in_list p (StartOf c) m = absurd (omega (arith, m))
in_list p (SwitchOf c) m = absurd (omega (arith, m))

module _ (w : World) (holder : ThreadId → Holder) (parts : Parts w holder) where
  -- who may stand in a list is the last of its number
  pub is_last : (who : ThreadId) → IsListable w.threads who → w.threads.version who.number ≡ who.version
  is_last who (inl present) = eqb-true (w.threads.version who.number) who.version
      (and_parts (w.threads.present who.number) (w.threads.version who.number == who.version) present).1
  is_last who (inr victim) = (parts.threads.victim who victim.0).2

  -- the last of its number that stands in no list: so its number stands in none
  pub in_none : (lists : List (List ThreadId)) → w.lists ≡ list_of lists → (who : ThreadId) →
      w.threads.version who.number ≡ who.version →
      ((p : ℕ) → holder who ≢ ReadyList p) → IsInNone who.number lists
  in_none lists same who last away p = by (stands who.number (list_of lists p)) refl
    where
      there : HasEntry who.number (list_of lists p) → ⊥
      there h =
          let often : 1 ≤ times_in p (holder h.entry) =
          subst (λ n. 1 ≤ n) (ap (λ (l : ℕ → List ThreadId). times h.entry (l p)) (sym same)
          ∙ parts.tokens.list p h.entry) h.often in
          let stood : holder h.entry ≡ ReadyList p = in_list p (holder h.entry) often in
          let version : w.threads.version h.entry.number ≡ h.entry.version =
          is_last h.entry (parts.threads.listed p h.entry stood) in
          let is : h.entry ≡ who = same_is h.entry who h.number (sym version ∙ ap w.threads.version h.number
          ∙ last) in
          away p (ap holder (sym is) ∙ stood)

      by : (q : Bool) → stands who.number (list_of lists p) ≡ q → stands who.number (list_of lists p) ≡ false
      by false e = e
      by true e = absurd (there (entry_stands who.number (list_of lists p) e))
