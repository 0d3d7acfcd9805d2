-- Each step of a carrier keeps its mark sound: what was used and what the chain still has to go are at most what is allowed.
-- s is the state, r the requester, m the mark, hs the chain, h an owner found, x what is asked for, o who holds it.
use Rattle.std.proofs.Common.{◌≡◌, ◌≢◌, ℕ, ◌+◌, ◌<◌, ◌≤◌, Bool, true, false, cond, refl, sym, ap, ◌∙◌, subst, List, [], ◌∷◌, Option, Some, None, arith, ◌⊎◌, inl, inr}
use Rattle.std.specs.Prelude.{◌&&◌}
use Rattle.std.proofs.lemmas.Bool.Decides.{nat_tests, eqb_tells}
use Rattle.k_locks.specs.Asks.{Want}
use Rattle.k_bound.specs.Sections.{GoesOn, SectionLaws, Sections, same_want, want_rank}
use Rattle.k_bound.specs.Waits.{AreBounded, Helping, HelpingStep, Link, OwnerFound, SectionStep, TurnTo, WaitMark, allowed, answered, asked, gone_on, help_after, is_for, is_link_owner, is_linked, allowed_for, link_to, mark_begun, mark_counted, mark_found, mark_helped, mark_linked, moved, owner_found, run, same_found, started, stepped, steps_for, turned_to, with_got}
use Rattle.k_bound.specs.Chains.{IsIn, IsKnown, IsMarkSound, IsSound, IsStanding, asker_of, rest_of}
use Rattle.k_bound.proofs.Founds.{Avoids, found_is, in_other, is_for-false, is_for-refl, is_for-true, later_linked, allowed_first, allowed_later, allowed_none, linked_is, not_in, not_requester, or_true, same_found-refl, same_found-true, same_is, same_want-refl, some_is, steps_other, steps_same, test}
use Rattle.k_bound.proofs.Chains.{asker_stays, avoids, chain_stays, known_in, known_less, last_is, no_circle, owner_finds, requester_finds, rest_stays, rest_stays_in}

helped_is : (P : OwnerFound → Type 0) (f : OwnerFound) → P f → (h : OwnerFound) → Some f ≡ Some h → P h
helped_is P f p h e = subst P (some_is f h e) p

module _ {S : Type 0} (k : Sections S) (Good : S → Type 0) (laws : SectionLaws S k Good) where
  -- what one link allows, before a step for it: what was made for it, and what it still has to go
  Allows : S → OwnerFound → List OwnerFound → List Link → Type 0
  Allows s f helped links =
      (steps_for f helped ≤ allowed_for f links) × (steps_for f helped + k.rest s f.owner f.want ≤ allowed_for f links)

  -- A NEW LINK

  begins_ok : (s : S) (r : ℕ) (x : Want) (o : ℕ) → Good s → k.wants s r ≡ Some x → k.holder s x ≡ Some o →
      IsStanding k s r (Some (owner_found o x)) (mark_begun (link_to k s (owner_found o x))) (owner_found o x ∷ [])
  begins_ok s r x o g asks holds =
      let f = owner_found o x in
      let link = link_to k s f in
      let within = laws.rest_within_left s o x g holds in
      record {
        chained = (asks, holds, tt);
        asks = asks;
        linked = λ p w i. elim i [
          | inl e ↦ linked_is (owner_found p w) link [] (found_is f (owner_found p w) e.0 e.1)
          | inr none ↦ absurd none
        ];
        known = λ p w l h. elim (or_true (same_found (owner_found p w) f) false l) [
          | inl e ↦ let b = same_found-true (owner_found p w) f e in inl (inl (sym b.0, sym b.1))
          | inr e ↦ absurd (grind (arith, e))
        ];
        free = λ e. absurd cc;
        bound = omega (arith, within);
        once = (refl, tt);
        by_owners = refl;
        counted = refl;
        each = λ h. omega arith;
        each_rest = λ h i. elim i [
          | inl e ↦
              let first = allowed_first link [] f (same_found-refl f) in
              subst (λ y. steps_for y [] + k.rest s y.owner y.want ≤ allowed_for y (link ∷ [])) (found_is f h e.0 e.1)
              (omega (arith, first, within))
          | inr none ↦ absurd none
        ];
        helps = helped_is (λ y. IsIn y.owner y.want (f ∷ [])) f (inl (refl, refl));
      }

  -- one that is in the chain is helped
  helped_ok : (s : S) (r : ℕ) (help : Option OwnerFound) (m : WaitMark) (hs : List OwnerFound) (x : Want) (o : ℕ) →
      IsStanding k s r help m hs → IsIn o x hs → IsStanding k s r (Some (owner_found o x)) m hs
  helped_ok s r help m hs x o st i =
      record {
        chained = st.chained;
        asks = st.asks;
        linked = st.linked;
        known = st.known;
        free = st.free;
        bound = st.bound;
        once = st.once;
        by_owners = st.by_owners;
        counted = st.counted;
        each = st.each;
        each_rest = st.each_rest;
        helps = helped_is (λ y. IsIn y.owner y.want hs) (owner_found o x) i;
      }

  linked_each : (s : S) (o : ℕ) (x : Want) (m : WaitMark) → Good s → k.holder s x ≡ Some o →
      is_linked (owner_found o x) m.links ≡ false → ((h : OwnerFound) → steps_for h m.helped ≤ allowed_for h m.links) →
      (h : OwnerFound) → same_found h (owner_found o x) ≡ true →
      Allows s h m.helped (link_to k s (owner_found o x) ∷ m.links)
  unfolding Allows
  linked_each s o x m g holds new each h e =
      let f = owner_found o x in
      let first = allowed_first (link_to k s f) m.links f (same_found-refl f) in
      let within = laws.rest_within_left s o x g holds in
      let none = allowed_none f m.links new in
      let made = each f in
      subst (λ y. Allows s y m.helped (link_to k s f ∷ m.links)) (sym (same_is h f e))
      (omega (arith, first, within, none, made), omega (arith, first, within, none, made))

  linked_ok : (s : S) (r : ℕ) (help : Option OwnerFound) (m : WaitMark) (hs : List OwnerFound) (x : Want) (o : ℕ) → Good s →
      IsStanding k s r help m hs → k.wants s (asker_of r hs) ≡ Some x → k.holder s x ≡ Some o →
      is_linked (owner_found o x) m.links ≡ false →
      IsStanding k s r (Some (owner_found o x)) (mark_linked (link_to k s (owner_found o x)) m) (owner_found o x ∷ hs)
  unfolding Allows
  linked_ok s r help m hs x o g st asks holds new =
      let f = owner_found o x in
      let link = link_to k s f in
      let own = linked_each s o x m g holds new st.each in
      record {
        chained = (asks, holds, st.chained);
        asks = st.asks;
        linked = λ p w i. elim i [
          | inl e ↦ linked_is (owner_found p w) link m.links (found_is f (owner_found p w) e.0 e.1)
          | inr there ↦ later_linked (owner_found p w) link m.links (st.linked p w there)
        ];
        known = λ p w l h. elim (or_true (same_found (owner_found p w) f) (is_linked (owner_found p w) m.links) l) [
          | inl e ↦ let b = same_found-true (owner_found p w) f e in inl (inl (sym b.0, sym b.1))
          | inr later ↦ known_in p w f hs (st.known p w later h)
        ];
        free = λ e. absurd cc;
        bound = let within = laws.rest_within_left s o x g holds in let b = st.bound in omega (arith, within, b);
        once = (new, st.once);
        by_owners = st.by_owners;
        counted = st.counted;
        each = λ h. test (steps_for h m.helped ≤ allowed_for h (link ∷ m.links)) (same_found h f)
            (λ e. (own h e).0)
            (λ e. let l = allowed_later link m.links h e in let b = st.each h in omega (arith, l, b));
        each_rest = λ h i. test (steps_for h m.helped + k.rest s h.owner h.want ≤ allowed_for h (link ∷ m.links)) (same_found h f)
            (λ e. (own h e).1)
            (λ e. let l = allowed_later link m.links h e in let b = st.each_rest h (in_other h f hs e i) in omega (arith, l, b));
        helps = helped_is (λ y. IsIn y.owner y.want (f ∷ hs)) f (inl (refl, refl));
      }

  -- What is found goes into the chain, or is in it already.
  found_ok : (s : S) (r : ℕ) (help : Option OwnerFound) (m : WaitMark) (hs : List OwnerFound) (x : Want) (o who : ℕ) → Good s →
      IsStanding k s r help m hs → k.wants s who ≡ Some x → k.holder s x ≡ Some o → IsIn o x hs ⊎ (who ≡ asker_of r hs) →
      (b : Bool) → is_linked (owner_found o x) m.links ≡ b →
      IsMarkSound k s r (Some (owner_found o x)) (Some (cond b m (mark_linked (link_to k s (owner_found o x)) m)))
  found_ok s r help m hs x o who g st asks holds (inl i) true l = (hs, helped_ok s r help m hs x o st i)
  found_ok s r help m hs x o who g st asks holds (inl i) false l = absurd (let t = st.linked o x i in grind (arith, t, l))
  found_ok s r help m hs x o who g st asks holds (inr last) true l =
      let a : k.wants s (asker_of r hs) ≡ Some x = ap (k.wants s) (sym last) ∙ asks in
      elim (st.known o x l holds) [
        | inl i ↦ (hs, helped_ok s r help m hs x o st i)
        | inr n ↦ absurd (no_circle k Good laws s r hs g st.chained x o a holds n.0 n.1)
      ]
  found_ok s r help m hs x o who g st asks holds (inr last) false l =
      (owner_found o x ∷ hs, linked_ok s r help m hs x o g st (ap (k.wants s) (sym last) ∙ asks) holds l)

  same_mark : (s : S) (h : OwnerFound) (m : WaitMark) (b : Bool) → b ≡ true →
      cond b (Some m) (Some (mark_begun (link_to k s h))) ≡ Some m
  same_mark s h m true e = refl
  same_mark s h m false e = cc

  -- who asks: the requester where nobody is helped, else whom the carrier helps
  abbrev pub Asks : Option OwnerFound → ℕ → ℕ → Type 0
  Asks help r who = ((help ≡ None) × (who ≡ r)) ⊎ ((h : OwnerFound) × (help ≡ Some h) × (who ≡ h.owner))

  pub finds_ok : (s : S) (r : ℕ) (help : Option OwnerFound) (mark : Option WaitMark) (x : Want) (o who : ℕ) → Good s →
      IsMarkSound k s r help mark → Asks help r who → k.wants s who ≡ Some x → k.holder s x ≡ Some o →
      IsMarkSound k s r (Some (owner_found o x)) (mark_found k s help (owner_found o x) mark)
  finds_ok s r None None x o who g ok (inl w) asks holds =
      (owner_found o x ∷ [], begins_ok s r x o g (ap (k.wants s) (sym w.1) ∙ asks) holds)
  finds_ok s r None (Some m) x o who g ok (inl w) asks holds =
      let a : k.wants s r ≡ Some x = ap (k.wants s) (sym w.1) ∙ asks in
      let same : m.want ≡ x = some_is m.want x (sym ok.1.asks ∙ a) in
      let where_found = requester_finds k Good laws s r ok.0 ok.1.chained x o a holds in
      let kept : IsMarkSound k s r (Some (owner_found o x)) (Some m) = elim where_found [
        | inl i ↦ (ok.0, helped_ok s r None m ok.0 x o ok.1 i)
        | inr e ↦ absurd (let z = sym (ok.1.free e) ∙ ap (k.holder s) same ∙ holds in cc)
      ] in
      let tested = ap (λ y. same_want y x) same ∙ same_want-refl x in
      let same_one = sym (same_mark s (owner_found o x) m (same_want m.want x) tested) in
      subst (λ y. IsMarkSound k s r (Some (owner_found o x)) y) same_one kept
  finds_ok s r None mark x o who g ok (inr w) asks holds = absurd (let e = w.1 in cc)
  finds_ok s r (Some h) mark x o who g ok (inl w) asks holds = absurd (let e = w.0 in cc)
  finds_ok s r (Some h) None x o who g ok (inr w) asks holds = tt
  finds_ok s r (Some h) (Some m) x o who g ok (inr w) asks holds =
      let e : h ≡ w.0 = some_is h w.0 w.1 in
      let is : h.owner ≡ who = ap (λ y. y.owner) e ∙ sym w.2 in
      let a : k.wants s h.owner ≡ Some x = ap (k.wants s) is ∙ asks in
      let where_found = owner_finds k Good laws s r ok.0 ok.1.chained h.owner h.want (ok.1.helps h refl) x o a holds in
      found_ok s r (Some h) m ok.0 x o h.owner g ok.1 a holds where_found (is_linked (owner_found o x) m.links) refl

  -- A STEP FOR THE HELP

  owner_holds : (s : S) (h : OwnerFound) (ls : List Link) → is_linked h ls ≡ true → k.holder s h.want ≡ Some h.owner →
      is_link_owner k s h.owner ls ≡ true
  owner_holds s h [] l holds = absurd (grind (arith, l))
  owner_holds s h (l ∷ ls) e holds =
      elim (or_true (same_found h l.found) (is_linked h ls) e) [
        | inl f ↦
            let b = same_found-true h l.found f in
            let n = b.0 in
            let t = is_for-refl (k.holder s l.found.want) h.owner (ap (k.holder s) (sym b.1) ∙ holds) in
            grind (arith, nat_tests, t, n)
        | inr f ↦ let t = owner_holds s h ls f holds in grind (arith, nat_tests, t)
      ]

  after : S → OwnerFound → WaitMark → WaitMark
  after s h m = mark_counted (is_link_owner k s h.owner m.links) h m

  -- what holds of a standing mark whose help goes on, whether it releases or not
  record Going (s : S) (r : ℕ) (h : OwnerFound) (ls : List OwnerFound) (m : WaitMark) : Type 0 where
    pub good : Good s
    pub stands : IsStanding k s r (Some h) m (h ∷ ls)
    pub goes_on : GoesOn k s h.owner

  going_avoids : (s : S) (r : ℕ) (h : OwnerFound) (ls : List OwnerFound) (m : WaitMark) → Going s r h ls m → Avoids h.owner r ls
  going_avoids s r h ls m go = avoids k Good laws s h.owner r h ls go.goes_on go.stands.chained

  going_falls : (s : S) (r : ℕ) (h : OwnerFound) (ls : List OwnerFound) (m : WaitMark) → Going s r h ls m →
      k.rest (k.step s h.owner) h.owner h.want + 1 ≤ k.rest s h.owner h.want
  going_falls s r h ls m go = laws.rest_falls s h.owner h.want go.good go.stands.chained.1 go.goes_on

  asks_after : (s : S) (r : ℕ) (h : OwnerFound) (ls : List OwnerFound) (m : WaitMark) → Going s r h ls m →
      k.wants (k.step s h.owner) r ≡ Some m.want
  asks_after s r h ls m go =
      laws.wants_same s r h.owner go.good (not_requester h.owner r ls (going_avoids s r h ls m go)) ∙ go.stands.asks

  bound_after : (s : S) (r : ℕ) (h : OwnerFound) (ls : List OwnerFound) (m : WaitMark) → Going s r h ls m →
      (m.used + 1) + (k.rest (k.step s h.owner) h.owner h.want + rest_of k (k.step s h.owner) ls) ≤ allowed m.links
  bound_after s r h ls m go =
      let f = going_falls s r h ls m go in
      let t = rest_stays k Good laws s h.owner r h ls go.good (going_avoids s r h ls m go) go.stands.chained in
      let b = go.stands.bound in
      omega (arith, f, t, b)

  by_owners_after : (s : S) (r : ℕ) (h : OwnerFound) (ls : List OwnerFound) (m : WaitMark) → Going s r h ls m →
      (m.by_owners && is_link_owner k s h.owner m.links) ≡ true
  by_owners_after s r h ls m go =
      let i = owner_holds s h m.links (go.stands.linked h.owner h.want (inl (refl, refl))) go.stands.chained.1 in
      let f = go.stands.by_owners in
      grind (arith, nat_tests, i, f)

  -- the link of the help itself
  own_after : (s : S) (r : ℕ) (h : OwnerFound) (ls : List OwnerFound) (m : WaitMark) → Going s r h ls m → (f : OwnerFound) →
      same_found f h ≡ true → Allows (k.step s h.owner) f (h ∷ m.helped) m.links
  unfolding Allows
  own_after s r h ls m go f e =
      let c = steps_same h h m.helped (same_found-refl h) in
      let falls = going_falls s r h ls m go in
      let b = go.stands.each_rest h (inl (refl, refl)) in
      subst (λ y. Allows (k.step s h.owner) y (h ∷ m.helped) m.links) (sym (same_is f h e))
      (omega (arith, c, falls, b), omega (arith, c, falls, b))

  each_after : (s : S) (r : ℕ) (h : OwnerFound) (ls : List OwnerFound) (m : WaitMark) → Going s r h ls m → (f : OwnerFound) →
      steps_for f (h ∷ m.helped) ≤ allowed_for f m.links
  unfolding Allows
  each_after s r h ls m go f =
      test (steps_for f (h ∷ m.helped) ≤ allowed_for f m.links) (same_found f h)
      (λ e. (own_after s r h ls m go f e).0)
      (λ e. let c = steps_other f h m.helped e in let b = go.stands.each f in omega (arith, c, b))

  -- of an owner before the help in the chain
  before_after : (s : S) (r : ℕ) (h : OwnerFound) (ls : List OwnerFound) (m : WaitMark) → Going s r h ls m → (f : OwnerFound) →
      same_found f h ≡ false → IsIn f.owner f.want ls →
      steps_for f (h ∷ m.helped) + k.rest (k.step s h.owner) f.owner f.want ≤ allowed_for f m.links
  before_after s r h ls m go f e i =
      let c = steps_other f h m.helped e in
      let q = rest_stays_in k Good laws s h.owner r h ls go.good (going_avoids s r h ls m go) go.stands.chained f i in
      let b = go.stands.each_rest f (inr i) in
      omega (arith, c, q, b)

  rest_after : (s : S) (r : ℕ) (h : OwnerFound) (ls : List OwnerFound) (m : WaitMark) → Going s r h ls m → (f : OwnerFound) →
      IsIn f.owner f.want (h ∷ ls) →
      steps_for f (h ∷ m.helped) + k.rest (k.step s h.owner) f.owner f.want ≤ allowed_for f m.links
  unfolding Allows
  rest_after s r h ls m go f i =
      test (steps_for f (h ∷ m.helped) + k.rest (k.step s h.owner) f.owner f.want ≤ allowed_for f m.links) (same_found f h)
      (λ e. (own_after s r h ls m go f e).1)
      (λ e. before_after s r h ls m go f e (in_other f h ls e i))

  -- It still holds what it was found for.
  keeps_known : (s : S) (r : ℕ) (h : OwnerFound) (ls : List OwnerFound) (m : WaitMark) → Going s r h ls m → (o : ℕ) (x : Want) →
      is_linked (owner_found o x) m.links ≡ true → k.holder (k.step s h.owner) x ≡ Some o → IsKnown o x (h ∷ ls)
  keeps_known s r h ls m go o x l now =
      let z = h.owner in
      let c = go.stands.chained in
      elim (eqb_tells o z) [
        | inl e ↦ elim (laws.gains_asked s z h.want x go.good c.1 (now ∙ ap Some e.1)) [
          | inl before ↦ go.stands.known o x l (before ∙ ap Some (sym e.1))
          | inr wants ↦ inr (h.want, inl (sym e.1, refl), laws.rank_rises s (asker_of r ls) z h.want x go.good c.0 c.1 wants)
        ]
        | inr ne ↦ go.stands.known o x l (laws.held_before s o z x go.good ne.1 now)
      ]

  step_keeps : (s : S) (r : ℕ) (h : OwnerFound) (ls : List OwnerFound) (m : WaitMark) → Going s r h ls m →
      k.holder (k.step s h.owner) h.want ≡ Some h.owner →
      IsStanding k (k.step s h.owner) r (Some h) (after s h m) (h ∷ ls)
  unfolding after
  step_keeps s r h ls m go keep =
      let z = h.owner in
      let a = going_avoids s r h ls m go in
      let c = go.stands.chained in
      record {
        chained = (
          asker_stays k Good laws s z r h.want ls go.good a c.0,
          keep,
          chain_stays k Good laws s z r ls go.good a c.2,
        );
        asks = asks_after s r h ls m go;
        linked = go.stands.linked;
        known = keeps_known s r h ls m go;
        free = λ e. absurd cc;
        bound = bound_after s r h ls m go;
        once = go.stands.once;
        by_owners = by_owners_after s r h ls m go;
        counted = let c = go.stands.counted in omega (arith, c);
        each = each_after s r h ls m go;
        each_rest = rest_after s r h ls m go;
        helps = go.stands.helps;
      }

  -- IT HAS RELEASED

  free_after : (s : S) (z : ℕ) (w : Want) → Good s → k.holder s w ≡ Some z → k.holder (k.step s z) w ≢ Some z →
      (o : Option ℕ) → k.holder (k.step s z) w ≡ o → k.holder (k.step s z) w ≡ None
  free_after s z w g holds drop None e = e
  free_after s z w g holds drop (Some i) e =
      elim (eqb_tells i z) [
        | inl f ↦ absurd (drop (e ∙ ap Some f.1))
        | inr ne ↦ absurd (ne.1 (some_is i z (sym (laws.held_before s i z w g ne.1 e) ∙ holds)))
      ]

  -- What it holds after the release was not acquired within it.
  not_within : (s : S) (r : ℕ) (h : OwnerFound) (ls : List OwnerFound) (m : WaitMark) → Going s r h ls m →
      k.holder (k.step s h.owner) h.want ≢ Some h.owner → (x : Want) → k.holder (k.step s h.owner) x ≡ Some h.owner →
      want_rank h.want < want_rank x → ⊥
  not_within s r h ls m go drop x now lt =
      absurd (let n = laws.last_first s h.owner h.want x go.good go.stands.chained.1 drop now in omega (arith, n, lt))

  -- what it held before the step, and was linked for
  drops_before : (s : S) (r : ℕ) (h : OwnerFound) (ls : List OwnerFound) (m : WaitMark) → Going s r h ls m →
      k.holder (k.step s h.owner) h.want ≢ Some h.owner → (x : Want) → k.holder (k.step s h.owner) x ≡ Some h.owner →
      IsKnown h.owner x (h ∷ ls) → ⊥
  drops_before s r h ls m go drop x now (inl (inl f)) = drop (ap (k.holder (k.step s h.owner)) f.1 ∙ now)
  drops_before s r h ls m go drop x now (inl (inr i)) = not_in h.owner r ls (going_avoids s r h ls m go) x i
  drops_before s r h ls m go drop x now (inr n) =
      elim n.1 [
        | inl f ↦ not_within s r h ls m go drop x now (let lt = n.2 in let q = ap want_rank f.1 in omega (arith, lt, q))
        | inr i ↦ not_in h.owner r ls (going_avoids s r h ls m go) n.0 i
      ]

  drops_known : (s : S) (r : ℕ) (h : OwnerFound) (ls : List OwnerFound) (m : WaitMark) → Going s r h ls m →
      k.holder (k.step s h.owner) h.want ≢ Some h.owner → (o : ℕ) (x : Want) →
      is_linked (owner_found o x) m.links ≡ true → k.holder (k.step s h.owner) x ≡ Some o → IsKnown o x ls
  drops_known s r h ls m go drop o x l now =
      let z = h.owner in
      let c = go.stands.chained in
      elim (eqb_tells o z) [
        | inl e ↦
            let mine : k.holder (k.step s z) x ≡ Some z = now ∙ ap Some e.1 in
            absurd (elim (laws.gains_asked s z h.want x go.good c.1 mine) [
              | inl before ↦
                  let was = go.stands.known o x l (before ∙ ap Some (sym e.1)) in
                  drops_before s r h ls m go drop x mine (subst (λ y. IsKnown y x (h ∷ ls)) e.1 was)
              | inr wants ↦
                  let lt = laws.rank_rises s (asker_of r ls) z h.want x go.good c.0 c.1 wants in
                  not_within s r h ls m go drop x mine lt
            ])
        | inr ne ↦ known_less o z x h ls refl ne.1 (go.stands.known o x l (laws.held_before s o z x go.good ne.1 now))
      ]

  free_for : (s : S) (r : ℕ) (h : OwnerFound) (ls : List OwnerFound) (m : WaitMark) → Going s r h ls m →
      k.holder (k.step s h.owner) h.want ≢ Some h.owner → ls ≡ [] → k.holder (k.step s h.owner) m.want ≡ None
  free_for s r h ls m go drop e =
      let c = go.stands.chained in
      let i : h.want ≡ m.want = some_is h.want m.want (sym c.0 ∙ ap (k.wants s) (ap (asker_of r) e) ∙ go.stands.asks) in
      let now = k.holder (k.step s h.owner) h.want in
      subst (λ x. k.holder (k.step s h.owner) x ≡ None) i (free_after s h.owner h.want go.good c.1 drop now refl)

  drops_rest : (s : S) (r : ℕ) (h : OwnerFound) (ls : List OwnerFound) (m : WaitMark) → Going s r h ls m → (f : OwnerFound) →
      IsIn f.owner f.want ls →
      steps_for f (h ∷ m.helped) + k.rest (k.step s h.owner) f.owner f.want ≤ allowed_for f m.links
  drops_rest s r h ls m go f i = rest_after s r h ls m go f (inr i)

  step_drops : (s : S) (r : ℕ) (h : OwnerFound) (ls : List OwnerFound) (m : WaitMark) → Going s r h ls m →
      k.holder (k.step s h.owner) h.want ≢ Some h.owner → IsStanding k (k.step s h.owner) r None (after s h m) ls
  unfolding after
  step_drops s r h ls m go drop =
      record {
        chained = chain_stays k Good laws s h.owner r ls go.good (going_avoids s r h ls m go) go.stands.chained.2;
        asks = asks_after s r h ls m go;
        linked = λ o w i. go.stands.linked o w (inr i);
        known = drops_known s r h ls m go drop;
        free = free_for s r h ls m go drop;
        bound = let b = bound_after s r h ls m go in omega (arith, b);
        once = go.stands.once;
        by_owners = by_owners_after s r h ls m go;
        counted = let c = go.stands.counted in omega (arith, c);
        each = each_after s r h ls m go;
        each_rest = drops_rest s r h ls m go;
        helps = λ f e. absurd cc;
      }

  step_either : (s : S) (r : ℕ) (h : OwnerFound) (ls : List OwnerFound) (m : WaitMark) → Going s r h ls m → (b : Bool) →
      is_for (k.holder (k.step s h.owner) h.want) h.owner ≡ b →
      IsMarkSound k (k.step s h.owner) r (cond b (Some h) None) (Some (after s h m))
  step_either s r h ls m go true e =
      (h ∷ ls, step_keeps s r h ls m go (is_for-true (k.holder (k.step s h.owner) h.want) h.owner e))
  step_either s r h ls m go false e =
      (ls, step_drops s r h ls m go (is_for-false (k.holder (k.step s h.owner) h.want) h.owner e))

  pub help_goes_on : (s : S) (r : ℕ) (h : OwnerFound) (mark : Option WaitMark) → Good s → IsMarkSound k s r (Some h) mark →
      GoesOn k s h.owner → IsMarkSound k (k.step s h.owner) r (help_after k (k.step s h.owner) h) (mark_helped k s h mark)
  unfolding after
  help_goes_on s r h None g ok on = tt
  help_goes_on s r h (Some m) g ok on =
      let last = last_is k Good laws s r h ok.0 on ok.1.chained (ok.1.helps h refl) in
      let st = subst (λ y. IsStanding k s r (Some h) m y) last.1 ok.1 in
      let go : Going s r h last.0 m = record { good = g; stands = st; goes_on = on } in
      step_either s r h last.0 m go (is_for (k.holder (k.step s h.owner) h.want) h.owner) refl

  -- A mark that is got is bounded.
  pub got_bounded : (s : S) (r : ℕ) (help : Option OwnerFound) (mark : Option WaitMark) (ms : List WaitMark) →
      IsMarkSound k s r help mark → AreBounded ms → AreBounded (with_got mark ms)
  got_bounded s r help None ms ok all = all
  got_bounded s r help (Some m) ms ok all =
      let st = ok.1 in (
        record {
          once = st.once;
          used = let b = st.bound in omega (arith, b);
          by_owners = st.by_owners;
          counted = st.counted;
          each = st.each;
        },
        all,
      )

  -- THE CARRIER

  runner_of : Helping S → Option OwnerFound → ℕ
  runner_of v None = v.requester
  runner_of v (Some h) = h.owner

  goes_ok : (v : Helping S) (help : Option OwnerFound) → v.help ≡ help → IsSound k Good v → GoesOn k v.state (runner_of v help) →
      IsSound k Good (gone_on k v help)
  unfolding runner_of
  goes_ok v None e g on =
      (laws.stays_good v.state v.requester g.0, got_bounded v.state v.requester v.help v.mark v.got g.2 g.1, tt)
  goes_ok v (Some h) e g on =
      let ok = subst (λ y. IsMarkSound k v.state v.requester y v.mark) e g.2 in
      (laws.stays_good v.state h.owner g.0, g.1, help_goes_on v.state v.requester h v.mark g.0 ok on)

  answered_ok : (v : Helping S) (help : Option OwnerFound) → v.help ≡ help → IsSound k Good v → (w : Want) →
      k.wants v.state (runner_of v help) ≡ Some w → (o : Option ℕ) → k.holder v.state w ≡ o →
      IsSound k Good (answered k v help w o)
  unfolding runner_of
  answered_ok v help e g w asks None holds =
      goes_ok v help e g (λ x o a h. absurd (
      let i = some_is w x (sym asks ∙ a) in
      let n = sym holds ∙ ap (k.holder v.state) i ∙ h in
      cc
      ))
  answered_ok v None e g w asks (Some o) holds =
      let ok = subst (λ y. IsMarkSound k v.state v.requester y v.mark) e g.2 in
      (g.0, g.1, finds_ok v.state v.requester None v.mark w o v.requester g.0 ok (inl (refl, refl)) asks holds)
  answered_ok v (Some h) e g w asks (Some o) holds =
      let ok = subst (λ y. IsMarkSound k v.state v.requester y v.mark) e g.2 in
      (g.0, g.1, finds_ok v.state v.requester (Some h) v.mark w o h.owner g.0 ok (inr (h, refl, refl)) asks holds)

  asked_ok : (v : Helping S) (help : Option OwnerFound) → v.help ≡ help → IsSound k Good v → (w : Option Want) →
      k.wants v.state (runner_of v help) ≡ w → IsSound k Good (asked k v help w)
  asked_ok v help e g None asks = goes_ok v help e g (λ x o a h. absurd (let n = sym asks ∙ a in cc))
  asked_ok v help e g (Some w) asks = answered_ok v help e g w asks (k.holder v.state w) refl

  turned_ok : (v : Helping S) (t : ℕ) → IsSound k Good v → IsSound k Good (turned_to t v)
  turned_ok v t g = (g.0, g.1, tt)

  removed_ok : (v : Helping S) → v.help ≡ None → IsSound k Good v → (b : Bool) →
      IsSound k Good (cond b (turned_to v.requester v) (asked k v None (k.wants v.state v.requester)))
  unfolding runner_of
  removed_ok v e g true = turned_ok v v.requester g
  removed_ok v e g false = asked_ok v None e g (k.wants v.state v.requester) refl

  stepped_ok : (v : Helping S) (help : Option OwnerFound) → v.help ≡ help → IsSound k Good v → IsSound k Good (stepped k v help)
  unfolding runner_of
  stepped_ok v None e g = removed_ok v e g (k.removed v.state v.requester)
  stepped_ok v (Some h) e g = asked_ok v (Some h) e g (k.wants v.state h.owner) refl

  pub moved_ok : (v : Helping S) (step : HelpingStep) → IsSound k Good v → IsSound k Good (moved k step v)
  moved_ok v SectionStep g = stepped_ok v v.help refl g
  moved_ok v (TurnTo t) g = turned_ok v t g

  pub run_ok : (steps : List HelpingStep) (v : Helping S) → IsSound k Good v → IsSound k Good (run k steps v)
  run_ok [] v g = g
  run_ok (step ∷ steps) v g = run_ok steps (moved k step v) (moved_ok v step g)

  pub started_ok : (s : S) (r : ℕ) → Good s → IsSound k Good (started s r)
  started_ok s r g = (g, tt, tt)

  pub run_sound : (steps : List HelpingStep) (s : S) (r : ℕ) → Good s → IsSound k Good (run k steps (started s r))
  run_sound steps s r g = run_ok steps (started s r) (started_ok s r g)
