-- The victim is taken out of the ready lists: by its number, where it stands; which is by its id.
use Rattle.std.proofs.Common.{◌≡◌, ℕ, ◌+◌, ◌≤◌, Bool, true, false, cond, refl, sym}
use Rattle.std.proofs.Common.{ap, ◌∙◌, subst, Some, List, [], ◌∷◌, arith, inl, inr}
use Rattle.std.specs.Prelude.{length, ◌==◌, ◌||◌}
use Rattle.std.proofs.lemmas.Bool.Decides.{eqb_tells, nat_tests}
use Rattle.std.proofs.lemmas.List.{length-map}
use Rattle.std.proofs.Math.ListN.{get_or-map}
use Rattle.k_ids.specs.declared.threads.ThreadId.{ThreadId}
use Rattle.k_model.specs.State.{same_id}
use Rattle.k_ready.specs.Lists.{Ready, has_thread, list_of}
use Rattle.k_ready.specs.Lists as ready
use Rattle.k_threads.specs.Goods.{unlisted, without_it}
use Rattle.k_tokens.specs.Maps.{times, without}
use Rattle.k_tokens.specs.World.{World}
use Rattle.k_tokens.specs.Good.{Holder, ReadyList, IsListable, Parts, times_in, Nobody}
use Rattle.k_tokens.specs.Good.{GoalOf, PushOf, StartToCome, StartOf, SwitchOf}

-- Whoever of a list has this number is the thread; and it stands there once at most.
pub record IsAlone (who : ThreadId) (es : List ThreadId) : Type 0 where
  pub only : (x : ThreadId) → 1 ≤ times x es → x.number ≡ who.number → x ≡ who
  pub once : times who es ≤ 1

same_self : (who : ThreadId) → same_id who who ≡ true
same_self who = grind (arith, nat_tests)

times_first : (x : ThreadId) (es : List ThreadId) → 1 ≤ times x (x ∷ es)
times_first x es = let s = same_self x in grind (arith, s)

alone_rest : (who e : ThreadId) (es : List ThreadId) → IsAlone who (e ∷ es) → IsAlone who es
alone_rest who e es h = record {
  only = λ x l d. h.only x (omega (arith, l)) d;
  once = let o = h.once in omega (arith, o);
}

-- who stands nowhere isn't taken out
without_none : (who : ThreadId) (es : List ThreadId) → times who es ≡ 0 → without who es ≡ es
without_none who [] e = refl
without_none who (x ∷ es) e = by (same_id x who) refl e (without_none who es)
  where
    by : (d : Bool) → same_id x who ≡ d → cond d 1 0 + times who es ≡ 0 → (times who es ≡ 0 → without who es ≡ es)
        → cond (same_id x who) (without who es) (x ∷ without who es) ≡ x ∷ es
    by true s z rest = absurd (omega (arith, z))
    by false s z rest =
        ap (λ (d : Bool). cond d (without who es) (x ∷ without who es)) s
        ∙ ap (λ (l : List ThreadId). x ∷ l) (rest (omega (arith, z)))

without_is : (who : ThreadId) (es : List ThreadId) → IsAlone who es → without who es ≡ without_it who es
without_is who [] h = refl
without_is who (x ∷ es) h = by (same_id x who) refl (without_is who es (alone_rest who x es h))
  where
    first : same_id x who ≡ true → (x.number == who.number) ≡ true
    first s = grind (arith, nat_tests, s)

    other : same_id x who ≡ false → (x.number == who.number) ≡ false
    other s = elim (eqb_tells x.number who.number) [
      | inl e ↦
          absurd (let same = h.only x (times_first x es) e.1 in
          not_both (sym s ∙ ap (λ (z : ThreadId). same_id z who) same ∙ same_self who))
      | inr e ↦ e.0
    ]
      where
        not_both : false ≡ true → ⊥
        not_both z = cc

    gone : same_id x who ≡ true → times who es ≡ 0
    gone s = let o = h.once in grind (arith, s, o)

    listed : without who es ≡ without_it who es → (d : Bool) → has_thread who es ≡ d →
        cond d (ready.without who.number es) es ≡ without who es
    listed rest d e = sym (rest ∙ ap (λ (z : Bool). cond z (ready.without who.number es) es) e)

    put : (d : Bool) → cond d (x ∷ ready.without who.number es) (x ∷ es) ≡ x ∷ cond d (ready.without who.number es) es
    put true = refl
    put false = refl

    by : (d : Bool) → same_id x who ≡ d → without who es ≡ without_it who es → without who (x ∷ es) ≡ without_it who (x ∷ es)
    by true s rest = ap (λ (d : Bool). cond d (without who es) (x ∷ without who es)) s ∙ without_none who es (gone s)
        ∙ sym (ap (λ (d : Bool). cond (d || has_thread who es)
        (cond (x.number == who.number) es (x ∷ ready.without who.number es)) (x ∷ es)) s
        ∙ ap (λ (d : Bool). cond d es (x ∷ ready.without who.number es)) (first s))
    by false s rest = ap (λ (d : Bool). cond d (without who es) (x ∷ without who es)) s
        ∙ sym (ap (λ (d : Bool). cond (d || has_thread who es)
        (cond (x.number == who.number) es (x ∷ ready.without who.number es)) (x ∷ es)) s
        ∙ ap (λ (d : Bool). cond (has_thread who es) (cond d es (x ∷ ready.without who.number es)) (x ∷ es)) (other s)
        ∙ put (has_thread who es) ∙ ap (λ (l : List ThreadId). x ∷ l) (listed rest (has_thread who es) refl))

-- In a good world the victim is alone in each list.
module _ (w : World) (holder : ThreadId → Holder) (g : Parts w holder) (who : ThreadId) (is : w.threads.victim ≡ Some who) where
  in_list : (p : ℕ) (h : Holder) → 1 ≤ times_in p h → h ≡ ReadyList p
  in_list p (ReadyList q) l =
      elim (eqb_tells q p) [ inl e ↦ ap ReadyList e.1 | inr e ↦ absurd (let z = e.0 in grind (arith, z, l)) ]
  in_list p Nobody l = absurd (omega (arith, l))
  in_list p (GoalOf c) l = absurd (omega (arith, l))
  in_list p (PushOf c) l = absurd (omega (arith, l))
  in_list p StartToCome l = absurd (omega (arith, l))
  in_list p (StartOf c) l = absurd (omega (arith, l))
  in_list p (SwitchOf c) l = absurd (omega (arith, l))

  times_few : (p : ℕ) (h : Holder) → times_in p h ≤ 1
  times_few p (ReadyList q) =
      elim (eqb_tells q p) [ inl e ↦ (let z = e.0 in grind (arith, z)) | inr e ↦ (let z = e.0 in grind (arith, z)) ]
  times_few p Nobody = omega arith
  times_few p (GoalOf c) = omega arith
  times_few p (PushOf c) = omega arith
  times_few p StartToCome = omega arith
  times_few p (StartOf c) = omega arith
  times_few p (SwitchOf c) = omega arith

  only_victim : (x : ThreadId) → IsListable w.threads x → x.number ≡ who.number → x ≡ who
  only_victim x (inl h) e = absurd (let z = (g.threads.victim who is).1 in
      let y : w.threads.present x.number ≡ false = ap w.threads.present e ∙ z in grind (arith, y, h))
  only_victim x (inr h) e = (let z : Some x ≡ Some who = sym h.0 ∙ is in cc)

  alone : (p : ℕ) → IsAlone who (w.lists p)
  alone p = record {
    only =
        λ x l e. only_victim x (g.threads.listed p x (in_list p (holder x) (subst (λ (n : ℕ). 1 ≤ n) (g.tokens.list p x) l))) e;
    once = subst (λ (n : ℕ). n ≤ 1) (sym (g.tokens.list p who)) (times_few p (holder who));
  }

  pub lists_unlisted : (r : Ready) → w.lists ≡ list_of r.lists →
      ◌≡◌ {A = ℕ → List ThreadId} (λ p. without who (list_of r.lists p)) (list_of (unlisted who r).lists)
  lists_unlisted r e =
      λ z p. (without_is who (list_of r.lists p) (subst (λ (l : List ThreadId). IsAlone who l)
      (ap (λ (f : ℕ → List ThreadId). f p) e) (alone p)) ∙ sym (get_or-map (without_it who) r.lists p [])) z

pub length_unlisted : (who : ThreadId) (r : Ready) → length (unlisted who r).lists ≡ length r.lists
length_unlisted who r = length-map r.lists (without_it who)
