-- Where contexts are, after one word and its slot change, and what one carrier has in hand.
use Rattle.std.proofs.Common.{◌≡◌, ◌≢◌, ℕ, true, false, refl, sym, ap, ◌∙◌, subst, Option, Some, inl, inr}
use Rattle.std.proofs.lemmas.Bool.Decides.{eqb_tells}
use Rattle.k_ids.specs.declared.context_word.ContextWord.{ContextWord}
use Rattle.k_ids.specs.declared.context_word.ContextWord.TheVariants.{Empty, Clean, Holds, Taken}
use Rattle.k_ids.specs.ContextWords.{IsContextSpelling, IsContextWord, context_bits, context_word_of}
use Rattle.k_ids.proofs.ContextSpelled.{context-read, context-whole}
use Rattle.k_model.specs.Maps.{upd}
use Rattle.k_model.proofs.Maps.{upd_same, upd_other, upd_cases}
use Rattle.k_context.specs.Contexts.{owner_of}
use Rattle.k_carrier.specs.Asked.{version_of}
use Rattle.k_carrier.specs.Seen.{HandSeen}
use Rattle.k_world.specs.Worlds.{Slot, held_in, resting_in}
use Rattle.k_places.specs.Shows.{AreInPlace, IsInHand, Rests, Stands, context_by, context_in}
use Rattle.k_places.proofs.Words.{upd_own}

abbrev pub version_held : HandSeen → ℕ
version_held h = version_of (owner_of h.value)

-- ONE WORD, ITS SLOT, AND ONE HAND

module _ (ctx : ℕ → ℕ) (sl : ℕ → Slot) (hd : ℕ → Option HandSeen) (n : ℕ) (w : ContextWord) (x : Slot) (c : ℕ)
    (y : Option HandSeen) where
  abbrev Words : ℕ → ℕ
  Words = upd ctx n (context_bits w)

  abbrev Slots : ℕ → Slot
  Slots = upd sl n x

  abbrev Hands : ℕ → Option HandSeen
  Hands = upd hd c y

  -- no other context than this one comes into the hand, or leaves it
  abbrev pub IsApart : Type 0
  IsApart = (i version : ℕ) → i ≢ n → IsInHand (hd c) i version → y ≡ hd c

  word_here : IsContextWord w → context_word_of (Words n) ≡ w
  word_here f = ap context_word_of (upd_same ctx n (context_bits w)) ∙ context-read w f

  word_there : (i : ℕ) → i ≢ n → context_word_of (Words i) ≡ context_word_of (ctx i)
  word_there i ne = ap context_word_of (upd_other ctx n (context_bits w) i ne)

  hand_there : IsApart → (i d version : ℕ) → i ≢ n → IsInHand (hd d) i version → Hands d ≡ hd d
  hand_there apart i d version ne k = elim (eqb_tells d c) [
    | inl e ↦
        ap Hands e.1 ∙ upd_same hd c y ∙ apart i version ne (subst (λ (z : ℕ). IsInHand (hd z) i version) e.1 k) ∙ ap hd (sym e.1)
    | inr e ↦ upd_other hd c y d e.1
  ]

  stands_there : IsApart → (i : ℕ) → i ≢ n → (v : ContextWord) → Stands sl hd i v → Stands Slots Hands i v
  stands_there apart i ne Empty k = tt
  stands_there apart i ne (Clean version) k = subst (λ (s : Slot). Rests s false version) (sym (upd_other sl n x i ne)) k
  stands_there apart i ne (Holds version) k = subst (λ (s : Slot). Rests s true version) (sym (upd_other sl n x i ne)) k
  stands_there apart i ne (Taken d version) k =
      subst (λ (z : Option HandSeen). IsInHand z i version) (sym (hand_there apart i d version ne k)) k

  same_there : IsApart → (i : ℕ) → i ≢ n → (v : ContextWord) → Stands sl hd i v →
      context_by Slots Hands i v ≡ context_by sl hd i v
  same_there apart i ne Empty k = refl
  same_there apart i ne (Clean version) k = ap resting_in (upd_other sl n x i ne)
  same_there apart i ne (Holds version) k = ap resting_in (upd_other sl n x i ne)
  same_there apart i ne (Taken d version) k = ap held_in (hand_there apart i d version ne k)

  -- the contexts of other numbers are as they were
  pub others_same : AreInPlace ctx sl hd → IsApart → (i : ℕ) → i ≢ n → context_in Words Slots Hands i ≡ context_in ctx sl hd i
  others_same h apart i ne =
      ap (context_by Slots Hands i) (word_there i ne) ∙ same_there apart i ne (context_word_of (ctx i)) (h.stands i)

  pub this_is : IsContextWord w → context_in Words Slots Hands n ≡ context_by Slots Hands n w
  this_is f = ap (context_by Slots Hands n) (word_here f)

  pub places_changed : AreInPlace ctx sl hd → IsApart → IsContextWord w → Stands Slots Hands n w →
      ((k : HandSeen) → y ≡ Some k → context_word_of (Words k.context) ≡ Taken c (version_held k)) →
      ((d : ℕ) (k : HandSeen) → d ≢ c → hd d ≡ Some k → k.context ≢ n) → AreInPlace Words Slots Hands
  places_changed h apart f here mine free = record { spelled = spells; stands = stays; taken = takes }
    where
      spells : (i : ℕ) → IsContextSpelling (Words i)
      spells i = upd_cases IsContextSpelling ctx n (context_bits w) i (λ e. context-whole w f) (λ ne. h.spelled i)

      stays : (i : ℕ) → Stands Slots Hands i (context_word_of (Words i))
      stays i = elim (eqb_tells i n) [
        | inl e ↦
            subst (λ (z : ℕ). Stands Slots Hands z (context_word_of (Words z))) (sym e.1)
            (subst (Stands Slots Hands n) (sym (word_here f)) here)
        | inr e ↦
            subst (Stands Slots Hands i) (sym (word_there i e.1))
            (stands_there apart i e.1 (context_word_of (ctx i)) (h.stands i))
      ]

      takes : (d : ℕ) (k : HandSeen) → Hands d ≡ Some k → context_word_of (Words k.context) ≡ Taken d (version_held k)
      takes d k q = elim (eqb_tells d c) [
        | inl e ↦ mine k (sym (ap Hands e.1 ∙ upd_same hd c y) ∙ q) ∙ ap (λ (z : ℕ). Taken z (version_held k)) (sym e.1)
        | inr e ↦
            let was : hd d ≡ Some k = sym (upd_other hd c y d e.1) ∙ q in
            word_there k.context (free d k e.1 was) ∙ h.taken d k was
      ]

-- ONE HAND, the context in it another

module _ (ctx : ℕ → ℕ) (sl : ℕ → Slot) (hd : ℕ → Option HandSeen) (c : ℕ) (k k' : HandSeen) (was : hd c ≡ Some k)
    (same : k'.context ≡ k.context) where
  abbrev Held : ℕ → Option HandSeen
  Held = upd hd c (Some k')

  in_hand : version_held k' ≡ version_held k → (i d version : ℕ) → IsInHand (hd d) i version → IsInHand (Held d) i version
  in_hand v i d version j = elim (eqb_tells d c) [
    | inl e ↦
        subst (λ (z : ℕ). IsInHand (Held z) i version) (sym e.1)
        (subst (λ (z : Option HandSeen). IsInHand z i version) (sym (upd_same hd c (Some k')))
        (moved_on (subst (λ (z : Option HandSeen). IsInHand z i version) (ap hd e.1 ∙ was) j)))
    | inr e ↦ subst (λ (z : Option HandSeen). IsInHand z i version) (sym (upd_other hd c (Some k') d e.1)) j
  ]
    where
      moved_on : IsInHand (Some k) i version → IsInHand (Some k') i version
      moved_on q = (same ∙ q.0, v ∙ q.1)

  stands_still : version_held k' ≡ version_held k → (i : ℕ) (v : ContextWord) → Stands sl hd i v → Stands sl Held i v
  stands_still v i Empty j = tt
  stands_still v i (Clean version) j = j
  stands_still v i (Holds version) j = j
  stands_still v i (Taken d version) j = in_hand v i d version j

  pub places_held : AreInPlace ctx sl hd → version_held k' ≡ version_held k → AreInPlace ctx sl Held
  places_held h v = record {
    spelled = h.spelled;
    stands = λ i. stands_still v i (context_word_of (ctx i)) (h.stands i);
    taken = takes;
  }
    where
      takes : (d : ℕ) (j : HandSeen) → Held d ≡ Some j → context_word_of (ctx j.context) ≡ Taken d (version_held j)
      takes d j q = elim (eqb_tells d c) [
        | inl e ↦ mine e.1
        | inr e ↦ h.taken d j (sym (upd_other hd c (Some k') d e.1) ∙ q)
      ]
        where
          mine : d ≡ c → context_word_of (ctx j.context) ≡ Taken d (version_held j)
          mine e =
              let is : k' ≡ j = some_is (sym (upd_same hd c (Some k')) ∙ ap Held (sym e) ∙ q) in
              ap (λ (z : HandSeen). context_word_of (ctx z.context)) (sym is) ∙ ap (λ (z : ℕ). context_word_of (ctx z)) same
              ∙ h.taken c k was ∙ ap (λ (z : ℕ). Taken c z) (sym v) ∙ ap (λ (z : HandSeen). Taken c (version_held z)) is
              ∙ ap (λ (z : ℕ). Taken z (version_held j)) (sym e)
            where
              some_is : {a b : HandSeen} → Some a ≡ Some b → a ≡ b
              some_is e = cc

  same_held : (i : ℕ) (v : ContextWord) → i ≢ k.context → Stands sl hd i v → context_by sl Held i v ≡ context_by sl hd i v
  same_held i Empty ne j = refl
  same_held i (Clean version) ne j = refl
  same_held i (Holds version) ne j = refl
  same_held i (Taken d version) ne j = elim (eqb_tells d c) [
    | inl e ↦ absurd (ne (sym (subst (λ (z : Option HandSeen). IsInHand z i version) (ap hd e.1 ∙ was) j).0))
    | inr e ↦ ap held_in (upd_other hd c (Some k') d e.1)
  ]

  pub others_held : AreInPlace ctx sl hd → (i : ℕ) → i ≢ k.context → context_in ctx sl Held i ≡ context_in ctx sl hd i
  others_held h i ne = same_held i (context_word_of (ctx i)) ne (h.stands i)

  pub this_held : AreInPlace ctx sl hd → context_in ctx sl Held k.context ≡ Some k'.value
  this_held h = ap (context_by sl Held k.context) (h.taken c k was) ∙ ap held_in (upd_same hd c (Some k'))

-- the context in a hand is the one of its number
pub held_is : (ctx : ℕ → ℕ) (sl : ℕ → Slot) (hd : ℕ → Option HandSeen) (c : ℕ) (k : HandSeen) → AreInPlace ctx sl hd →
    hd c ≡ Some k → context_in ctx sl hd k.context ≡ Some k.value
held_is ctx sl hd c k h was = ap (context_by sl hd k.context) (h.taken c k was) ∙ ap held_in was

-- ONE CONTEXT THAT RESTS, its word and its slot

module _ (ctx : ℕ → ℕ) (sl : ℕ → Slot) (hd : ℕ → Option HandSeen) (n : ℕ) (w : ContextWord) (x : Slot) (h : AreInPlace ctx sl hd)
    (rests : (d version : ℕ) → context_word_of (ctx n) ≡ Taken d version → ⊥) where
  away : (d : ℕ) (k : HandSeen) → hd d ≡ Some k → k.context ≢ n
  away d k q e = rests d (version_held k) (ap (λ (z : ℕ). context_word_of (ctx z)) (sym e) ∙ h.taken d k q)

  same_hands : upd hd 0 (hd 0) ≡ hd
  same_hands = upd_own hd 0

  pub rest_changed : IsContextWord w → Stands (upd sl n x) hd n w → AreInPlace (upd ctx n (context_bits w)) (upd sl n x) hd
  rest_changed f here = subst (AreInPlace (upd ctx n (context_bits w)) (upd sl n x)) same_hands
      (places_changed ctx sl hd n w x 0 (hd 0) h (λ i version ne k. refl) f
      (subst (λ (z : ℕ → Option HandSeen). Stands (upd sl n x) z n w) (sym same_hands) here)
      (λ k q. word_there ctx sl hd n w x 0 (hd 0) k.context (away 0 k q) ∙ h.taken 0 k q)
      (λ d k ne q. away d k q))

  pub rest_others : (i : ℕ) → i ≢ n → context_in (upd ctx n (context_bits w)) (upd sl n x) hd i ≡ context_in ctx sl hd i
  rest_others i ne =
      ap (λ (z : ℕ → Option HandSeen). context_in (upd ctx n (context_bits w)) (upd sl n x) z i) (sym same_hands)
      ∙ others_same ctx sl hd n w x 0 (hd 0) h (λ j version e k. refl) i ne

  pub rest_this : IsContextWord w → context_in (upd ctx n (context_bits w)) (upd sl n x) hd n ≡ context_by (upd sl n x) hd n w
  rest_this f =
      ap (λ (z : ℕ → Option HandSeen). context_in (upd ctx n (context_bits w)) (upd sl n x) z n) (sym same_hands)
      ∙ this_is ctx sl hd n w x 0 (hd 0) f ∙ ap (λ (z : ℕ → Option HandSeen). context_by (upd sl n x) z n w) same_hands
