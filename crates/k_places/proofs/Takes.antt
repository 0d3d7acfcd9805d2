-- A look at a context, a take and a give of one show the same board.
use Rattle.std.proofs.Common.{◌≡◌, ◌≢◌, ℕ, Bool, true, false, refl, sym, ap, ◌∙◌, subst, Option, Some, None, inl, inr}
use Rattle.std.specs.Prelude.{if◌then◌else◌}
use Rattle.std.proofs.lemmas.Bool.Decides.{eqb_tells}
use Rattle.k_ids.specs.declared.context_word.ContextWord.{ContextWord}
use Rattle.k_ids.specs.declared.context_word.ContextWord.TheVariants.{Clean, Holds, Taken}
use Rattle.k_ids.specs.ContextWords.{IsContextWord, IsVersion, context_bits, context_word_of}
use Rattle.k_ids.proofs.ContextSpelled.{context-read}
use Rattle.k_model.specs.Maps.{upd}
use Rattle.k_model.proofs.Maps.{upd_same}
use Rattle.k_script.specs.Script.{Script}
use Rattle.k_context.specs.Contexts.{ContextSeen, locks_of}
use Rattle.k_carrier.specs.Asked.{resting_word}
use Rattle.k_carrier.specs.Rules.{holds_any}
use Rattle.k_carrier.specs.Seen.{HandSeen}
use Rattle.k_world.specs.Worlds.{Slot, Resting, Away, held_in, resting_in}
use Rattle.k_board.specs.Boards.{Board}
use Rattle.k_places.specs.Contexts.{ShowsContext}
use Rattle.k_places.specs.Memory.{Memory}
use Rattle.k_places.specs.Shows.{AreInPlace, IsInHand, Rests, Shows, Stands, context_by, context_in}
use Rattle.k_places.proofs.Places.{IsApart, others_same, places_changed, this_is, version_held}
use Rattle.k_places.proofs.Words.{upd_own}

-- maps with other words of contexts, slots of them, and hands
abbrev pub with_places : Memory → (ℕ → ℕ) → (ℕ → Slot) → (ℕ → Option HandSeen) → Memory
with_places m ctx sl hd = record m { context = ctx; slot = sl; hand = hd }

-- where each context is in place, and each is the same, the board is the same
pub same_contexts : (script : Script) (m : Memory) (b : Board) (ctx : ℕ → ℕ) (sl : ℕ → Slot) (hd : ℕ → Option HandSeen) →
    Shows script m b → AreInPlace ctx sl hd → ((j : ℕ) → context_in ctx sl hd j ≡ context_in m.context m.slot m.hand j) →
    Shows script (with_places m ctx sl hd) b
same_contexts script m b ctx sl hd sh places same = record {
  size = sh.size;
  seen = sh.seen;
  serials = sh.serials;
  owners = sh.owners;
  places = places;
  contexts =
      λ j. subst (λ (o : Option ContextSeen). ShowsContext (b.seen j).word j o (b.context j)) (sym (same j)) (sh.contexts j);
  goods = record { homes = sh.goods.homes; hands = λ j v q. sh.goods.hands j v (sym (same j) ∙ q) };
}

-- A LOOK, or a take in vain

pub nothing_changed : (script : Script) (m : Memory) (b : Board) (c n : ℕ) → Shows script m b → m.hand c ≡ None →
    Shows script (with_places m (upd m.context n (m.context n)) m.slot (upd m.hand c None)) b
nothing_changed script m b c n sh none =
    subst (λ (z : Memory). Shows script z b) (λ d. with_places m (sym (upd_own m.context n) d) m.slot (back d)) sh
  where
    back : m.hand ≡ upd m.hand c None
    back = sym (ap (λ (z : Option HandSeen). upd m.hand c z) (sym none) ∙ upd_own m.hand c)

-- A TAKE

module _ (script : Script) (m : Memory) (b : Board) (c n : ℕ) (v : ContextSeen) (sh : Shows script m b) where
  abbrev Hand : HandSeen
  Hand = record { context = n; value = v }

  not_taken : (w : ContextWord) → context_word_of (m.context n) ≡ w → ((d version : ℕ) → w ≡ Taken d version → ⊥) →
      (d : ℕ) (k : HandSeen) → m.hand d ≡ Some k → k.context ≢ n
  not_taken w e f d k q same =
      f d (version_held k) (sym e ∙ ap (λ z. context_word_of (m.context z)) (sym same) ∙ sh.places.taken d k q)

  taken_apart : m.hand c ≡ None → IsApart m.context m.slot m.hand n (Taken c (version_held Hand)) Away c (Some Hand)
  taken_apart none i version ne k = absurd (subst (λ (z : Option HandSeen). IsInHand z i version) none k)

  -- it lies there, and its word tells that
  abbrev IsLying : ContextWord → Type 0
  IsLying w =
      (context_word_of (m.context n) ≡ w) × (context_in m.context m.slot m.hand n ≡ Some v) ×
      ((d version : ℕ) → w ≡ Taken d version → ⊥)

  pub taken_shown : (w : ContextWord) → m.hand c ≡ None → IsLying w → IsContextWord (Taken c (version_held Hand)) →
      Shows script (with_places m (upd m.context n (context_bits (Taken c (version_held Hand)))) (upd m.slot n Away)
      (upd m.hand c (Some Hand))) b
  taken_shown w none lying whole = same_contexts script m b _ _ _ sh places same
    where
      here : Stands (upd m.slot n Away) (upd m.hand c (Some Hand)) n (Taken c (version_held Hand))
      here = subst (λ (z : Option HandSeen). IsInHand z n (version_held Hand)) (sym (upd_same m.hand c (Some Hand))) (refl, refl)

      some_is : {x y : HandSeen} → Some x ≡ Some y → x ≡ y
      some_is e = cc

      mine : (k : HandSeen) → Some Hand ≡ Some k → context_word_of
          (upd m.context n (context_bits (Taken c (version_held Hand))) k.context) ≡ Taken c (version_held k)
      mine k q =
          subst (λ (z : HandSeen). context_word_of (upd m.context n (context_bits (Taken c (version_held Hand))) z.context) ≡
          Taken c (version_held z)) (some_is q) (ap context_word_of (upd_same m.context n _)
          ∙ context-read (Taken c (version_held Hand)) whole)

      places : AreInPlace (upd m.context n (context_bits (Taken c (version_held Hand)))) (upd m.slot n Away)
          (upd m.hand c (Some Hand))
      places =
          places_changed m.context m.slot m.hand n (Taken c (version_held Hand)) Away c (Some Hand) sh.places
          (taken_apart none) whole here mine (λ d k ne q. not_taken w lying.0 lying.2 d k q)

      same : (j : ℕ) → context_in (upd m.context n (context_bits (Taken c (version_held Hand)))) (upd m.slot n Away)
          (upd m.hand c (Some Hand)) j ≡ context_in m.context m.slot m.hand j
      same j = elim (eqb_tells j n) [
        | inl e ↦
            subst (λ (z : ℕ). context_in (upd m.context n (context_bits (Taken c (version_held Hand)))) (upd m.slot n Away)
            (upd m.hand c (Some Hand)) z ≡ context_in m.context m.slot m.hand z) (sym e.1)
            (this_is m.context m.slot m.hand n (Taken c (version_held Hand)) Away c (Some Hand) whole
            ∙ ap held_in (upd_same m.hand c (Some Hand)) ∙ sym lying.1)
        | inr e ↦
            others_same m.context m.slot m.hand n (Taken c (version_held Hand)) Away c (Some Hand) sh.places
            (taken_apart none) j e.1
      ]

  -- A GIVE

  given_apart : m.hand c ≡ Some Hand → IsApart m.context m.slot m.hand n (resting_word v) (Resting v) c None
  given_apart was i version ne k = absurd (ne (sym (subst (λ (z : Option HandSeen). IsInHand z i version) was k).0))

  rests : (t : Bool) → holds_any (locks_of v) ≡ t → (sl : ℕ → Slot) (hd : ℕ → Option HandSeen) → sl n ≡ Resting v →
      Stands sl hd n (if t then Holds (version_held Hand) else Clean (version_held Hand))
  rests true e sl hd q = subst (λ (s : Slot). Rests s true (version_held Hand)) (sym q) (e, refl)
  rests false e sl hd q = subst (λ (s : Slot). Rests s false (version_held Hand)) (sym q) (e, refl)

  rests_there : (t : Bool) (sl : ℕ → Slot) (hd : ℕ → Option HandSeen) → sl n ≡ Resting v →
      context_by sl hd n (if t then Holds (version_held Hand) else Clean (version_held Hand)) ≡ Some v
  rests_there true sl hd q = ap resting_in q
  rests_there false sl hd q = ap resting_in q

  rests_whole : (t : Bool) → IsVersion (version_held Hand) →
      IsContextWord (if t then Holds (version_held Hand) else Clean (version_held Hand))
  rests_whole true f = f
  rests_whole false f = f

  pub given_shown : m.hand c ≡ Some Hand → IsVersion (version_held Hand) →
      Shows script (with_places m (upd m.context n (context_bits (resting_word v))) (upd m.slot n (Resting v))
      (upd m.hand c None)) b
  given_shown was version = same_contexts script m b _ _ _ sh places same
    where
      whole : IsContextWord (resting_word v)
      whole = rests_whole (holds_any (locks_of v)) version

      lies : upd m.slot n (Resting v) n ≡ Resting v
      lies = upd_same m.slot n (Resting v)

      word_is : context_word_of (m.context n) ≡ Taken c (version_held Hand)
      word_is = sh.places.taken c Hand was

      free : (d : ℕ) (k : HandSeen) → d ≢ c → m.hand d ≡ Some k → k.context ≢ n
      free d k ne q same = ne (carrier_is (sym (sh.places.taken d k q) ∙ ap (λ z. context_word_of (m.context z)) same ∙ word_is))
        where
          carrier_is : {x y a e : ℕ} → Taken x a ≡ Taken y e → x ≡ y
          carrier_is z = cc

      none_some : (k : HandSeen) → None ≡ Some k → context_word_of (upd m.context n (context_bits (resting_word v)) k.context) ≡
          Taken c (version_held k)
      none_some k q = absurd cc

      places : AreInPlace (upd m.context n (context_bits (resting_word v))) (upd m.slot n (Resting v)) (upd m.hand c None)
      places =
          places_changed m.context m.slot m.hand n (resting_word v) (Resting v) c None sh.places (given_apart was) whole
          (rests (holds_any (locks_of v)) refl (upd m.slot n (Resting v)) (upd m.hand c None) lies) none_some free

      same : (j : ℕ) → context_in (upd m.context n (context_bits (resting_word v))) (upd m.slot n (Resting v))
          (upd m.hand c None) j ≡ context_in m.context m.slot m.hand j
      same j = elim (eqb_tells j n) [
        | inl e ↦
            subst (λ (z : ℕ). context_in (upd m.context n (context_bits (resting_word v))) (upd m.slot n (Resting v))
            (upd m.hand c None) z ≡ context_in m.context m.slot m.hand z) (sym e.1)
            (this_is m.context m.slot m.hand n (resting_word v) (Resting v) c None whole
            ∙ rests_there (holds_any (locks_of v)) (upd m.slot n (Resting v)) (upd m.hand c None) lies
            ∙ sym (ap (context_by m.slot m.hand n) word_is ∙ ap held_in was))
        | inr e ↦ others_same m.context m.slot m.hand n (resting_word v) (Resting v) c None sh.places (given_apart was) j e.1
      ]
