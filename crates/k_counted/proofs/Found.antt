-- What is found in the raw world: the context of a number, wherever it is, and the state word of a number.
use Rattle.std.proofs.Common.{◌≡◌, ◌≢◌, ℕ, refl, sym, ap, ◌∙◌, subst, Option, Some, None, inl, inr}
use Rattle.std.proofs.lemmas.Bool.Decides.{eqb_tells}
use Rattle.k_ids.specs.declared.context_word.ContextWord.{ContextWord}
use Rattle.k_ids.specs.declared.context_word.ContextWord.TheVariants.{Clean, Empty, Holds, Taken}
use Rattle.k_ids.specs.ContextWords.{context_word_of}
use Rattle.k_ids.specs.StateWords.{state_word_of}
use Rattle.k_locks.specs.declared.locks.WordName.TheVariants as word
use Rattle.k_model.specs.Maps.{upd}
use Rattle.k_model.proofs.Maps.{upd_other, upd_same}
use Rattle.k_script.specs.Script.{Script}
use Rattle.k_context.specs.Contexts.{ContextSeen}
use Rattle.k_carrier.specs.Seen.{HandSeen}
use Rattle.k_world.specs.Worlds.{Slot, World, context_at, held_in, resting_in, state_at, word_at}
use Rattle.k_world.specs.Worlds as worlds
use Rattle.k_marks.specs.Moved.{with_hand}
use Rattle.k_board.specs.Boards.{Board}
use Rattle.k_places.specs.Memory.{at, memory_of}
use Rattle.k_places.specs.Shows.{AreInPlace, IsInHand, ShowsBoard, Stands, context_by, context_in}
use Rattle.k_places.proofs.Places.{held_is}
use Rattle.k_places.proofs.Raw.{word_is}

pub some_is : {A : Type 0} {x y : A} → Some x ≡ Some y → x ≡ y
some_is e = cc

pub none_some : {A : Type 0} {x : A} → None ≡ Some x → ⊥
none_some e = cc

-- by the world's lists, and by its maps
found_by : (w : World) (n : ℕ) (x : ContextWord) →
    worlds.context_by w n x ≡ context_by (memory_of w).slot (memory_of w).hand n x
unfolding at
found_by w n Empty = refl
found_by w n (Clean version) = refl
found_by w n (Holds version) = refl
found_by w n (Taken carrier version) = refl

pub found_is : (w : World) (n : ℕ) →
    context_at w n ≡ context_in (memory_of w).context (memory_of w).slot (memory_of w).hand n
found_is w n =
    found_by w n (context_word_of (word_at w (word.Context n)))
    ∙ ap (λ (bits : ℕ). context_by (memory_of w).slot (memory_of w).hand n (context_word_of bits)) (word_is w (word.Context n))

-- the board's words are the world's
pub word_shown : (script : Script) (w : World) (b : Board) → ShowsBoard script w b → (n : ℕ) → state_at w n ≡ (b.seen n).word
word_shown script w b sh n = ap state_word_of (word_is w (word.State n)) ∙ sym (sh.shows.seen n).word

-- AFTER A CHANGE of words, of slots and of one hand

module _ (words words' : ℕ → ℕ) (slot slot' : ℕ → Slot) (hand : ℕ → Option HandSeen) (c : ℕ) (k : Option HandSeen)
    (places : AreInPlace words' slot' (upd hand c k)) where
  abbrev Hands : ℕ → Option HandSeen
  Hands = upd hand c k

  -- the number isn't that of the context in this hand
  abbrev pub IsElsewhere : ℕ → Type 0
  IsElsewhere n = (h : HandSeen) → k ≡ Some h → n ≢ h.context

  not_there : (n version : ℕ) → IsElsewhere n → (o : Option HandSeen) → k ≡ o → IsInHand o n version → ⊥
  not_there n version ne None q i = i
  not_there n version ne (Some h) q i = ne h q (sym i.0)

  other_by : (n : ℕ) (x : ContextWord) → slot' n ≡ slot n → IsElsewhere n → Stands slot' Hands n x →
      context_by slot' Hands n x ≡ context_by slot hand n x
  other_by n Empty s ne st = refl
  other_by n (Clean version) s ne st = ap resting_in s
  other_by n (Holds version) s ne st = ap resting_in s
  other_by n (Taken d version) s ne st = elim (eqb_tells d c) [
    | inl e ↦
        absurd (not_there n version ne k refl
        (subst (λ (z : Option HandSeen). IsInHand z n version) (ap Hands e.1 ∙ upd_same hand c k) st))
    | inr e ↦ ap held_in (upd_other hand c k d e.1)
  ]

  -- a context whose word and slot are as they were is as it was
  pub other_found : (n : ℕ) → words' n ≡ words n → slot' n ≡ slot n → IsElsewhere n →
      context_in words' slot' Hands n ≡ context_in words slot hand n
  other_found n w s ne =
      ap (context_by slot' Hands n) (ap context_word_of w)
      ∙ other_by n (context_word_of (words n)) s ne (subst (Stands slot' Hands n) (ap context_word_of w) (places.stands n))

  -- and the one in the hand is found there
  pub found_with : (contexts : ℕ → Option ContextSeen) →
      ((n : ℕ) → IsElsewhere n → context_in words' slot' Hands n ≡ contexts n) → (n : ℕ) →
      context_in words' slot' Hands n ≡ with_hand k contexts n
  found_with contexts f n = by k refl
    where
      by : (o : Option HandSeen) → k ≡ o → context_in words' slot' Hands n ≡ with_hand o contexts n
      by None q = f n (λ h z. absurd (none_some (sym q ∙ z)))
      by (Some h) q = elim (eqb_tells n h.context) [
        | inl e ↦
            ap (context_in words' slot' Hands) e.1 ∙ held_is words' slot' Hands c h places (upd_same hand c k ∙ q)
            ∙ sym (ap (upd contexts h.context (Some h.value)) e.1 ∙ upd_same contexts h.context (Some h.value))
        | inr e ↦
            f n (λ j z. subst (λ (y : HandSeen). n ≢ y.context) (some_is (sym q ∙ z)) e.1)
            ∙ sym (upd_other contexts h.context (Some h.value) n e.1)
      ]
