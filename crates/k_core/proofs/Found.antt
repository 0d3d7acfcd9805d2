-- A step that is held up changes no word and no slot. So who holds it up is found after it as it was before.
use Rattle.std.proofs.Common.{◌≡◌, ℕ, ◌<◌, ◌==◌, Option, Some, None, refl, sym, subst, ap, ◌⊎◌, inl, inr}
use Rattle.std.specs.List.{slice_set}
use Rattle.std.proofs.lemmas.Bool.{cases_Bool}
use Rattle.std.proofs.lemmas.List.{get_or-set_other, length-set, set-get_or}
use Rattle.k_ids.specs.declared.context_word.ContextWord.{ContextWord}
use Rattle.k_ids.specs.declared.context_word.ContextWord.TheVariants.{Clean, Empty, Holds, Taken}
use Rattle.k_ids.specs.declared.lock_word.LockWord.TheVariants.{Free}
use Rattle.k_ids.specs.ContextWords.{context_bits}
use Rattle.k_ids.specs.LockWords.{lock_bits}
use Rattle.k_locks.specs.declared.locks.WordName.{WordName}
use Rattle.k_locks.specs.declared.locks.WordName.TheVariants as word
use Rattle.k_locks.specs.declared.steps.Step.{Step}
use Rattle.k_locks.specs.declared.steps.Step.TheVariants as step
use Rattle.k_locks.specs.Places.{index_of, slot_of}
use Rattle.k_script.specs.Script.{Script}
use Rattle.k_context.specs.Contexts.{ContextSeen}
use Rattle.k_carrier.specs.declared.marks.Want.{Want}
use Rattle.k_carrier.specs.Moves.{GiveContext, Look, MoveSeen, Section, TakeContext}
use Rattle.k_carrier.specs.Seen.{CarrierSeen, HandSeen, new_carrier}
use Rattle.k_world.specs.Marks.{HeldUp, Onward, course_of}
use Rattle.k_world.specs.Moves.{answer_by, found_by, slots_by, words_by}
use Rattle.k_world.specs.Worlds.{World, context_at, context_by, held_in, resting_in, slot_at, word_at}
use Rattle.k_carrier.specs.Conditions as carriers
use Rattle.k_running.specs.Turning.{CanFind, IsElsewhere, IsInHand, IsKnown, IsThere, context_word_at}

-- nothing is changed
pub record IsUnchanged (script : Script) (w : World) (n : ℕ) (m : MoveSeen) : Type 0 where
  pub words : words_by w n m ≡ w.words
  pub slots : slots_by script w m ≡ w.slots

-- a word that is written as it was
same_word : (w : World) (name : WordName) → slice_set w.words (index_of name) (word_at w name) ≡ w.words
same_word w name = set-get_or w.words (index_of name) 0

held_section : (script : Script) (w : World) (n : ℕ) (h : HandSeen) (s : Step) (v : ContextSeen)
    (wants : Want) (i : ℕ) → course_of (Some h) (Section s) (answer_by w (Section s)) ≡ HeldUp v wants i →
    IsUnchanged script w n (Section s)
held_section script w n h (step.Load name) v wants i e = absurd cc
held_section script w n h (step.Store name value) v wants i e = absurd cc
held_section script w n h (step.Exchange name old new) v wants i e =
    elim (cases_Bool (found_by w (Section (step.Exchange name old new)) == old)) [
      | inl y ↦ let no : Onward h.value ≡ HeldUp v wants i = rw y at e in absurd cc
      | inr f ↦ let no : Onward h.value ≡ HeldUp v wants i = rw f at e in absurd cc
    ]
held_section script w n h (step.Release l g) v wants i e = absurd cc
held_section script w n h (step.Place id program priority) v wants i e = absurd cc
held_section script w n h (step.Acquire l) v wants i e =
    elim (cases_Bool (found_by w (Section (step.Acquire l)) == lock_bits Free)) [
      | inl y ↦ let no : Onward h.value ≡ HeldUp v wants i = rw y at e in absurd cc
      | inr f ↦ record { words = rw f (same_word w (word.Lock l)); slots = rw f refl }
    ]
held_section script w n h (step.Remove id) v wants i e =
    elim (cases_Bool (found_by w (Section (step.Remove id)) == context_bits (Clean id.version))) [
      | inl y ↦ let no : Onward h.value ≡ HeldUp v wants i = rw y at e in absurd cc
      | inr f ↦ record { words = rw f (same_word w (word.Context id.number)); slots = rw f refl }
    ]

pub held_stays : (script : Script) (w : World) (n : ℕ) (hand : Option HandSeen) (m : MoveSeen)
    (v : ContextSeen) (wants : Want) (i : ℕ) → course_of hand m (answer_by w m) ≡ HeldUp v wants i →
    IsUnchanged script w n m
held_stays script w n (Some h) (Section s) v wants i e = held_section script w n h s v wants i e
held_stays script w n (Some h) (Look c) v wants i e = absurd cc
held_stays script w n (Some h) (TakeContext c old new) v wants i e = absurd cc
held_stays script w n (Some h) (GiveContext c new x) v wants i e = absurd cc
held_stays script w n None m v wants i e = absurd cc

-- WITH A CARRIER CHANGED

abbrev pub changed_carrier : World → ℕ → CarrierSeen → World
changed_carrier w c k = record w { carriers = slice_set w.carriers c k }

known_after : (script : Script) (w : World) (c : ℕ) (k : CarrierSeen) (d : ℕ) → (d ≡ c → ⊥) →
    IsKnown script w d → IsKnown script (changed_carrier w c k) d
known_after script w c k d n h = record {
  inside = subst (λ m. d < m) (sym (length-set w.carriers c k)) h.inside;
  sound = subst (carriers.IsSound script) (sym (get_or-set_other w.carriers c d k (new_carrier 0 0) n))
      h.sound;
}

there_after : (script : Script) (w : World) (c : ℕ) (k : CarrierSeen) (i : ℕ) (found : ContextWord) →
    IsInHand (λ d. d ≡ c → ⊥) found → IsThere script w i found →
    IsThere script (changed_carrier w c k) i found
there_after script w c k i (Taken d version) n h = known_after script w c k d n h
there_after script w c k i (Clean version) n h = h
there_after script w c k i (Holds version) n h = h
there_after script w c k i Empty n h = tt

-- it can still be told of
pub find_after : (script : Script) (w : World) (c : ℕ) (k : CarrierSeen) (i : ℕ) → CanFind script w i →
    IsElsewhere c w i → CanFind script (changed_carrier w c k) i
find_after script w c k i h n = record {
  number = h.number;
  spelled = h.spelled;
  there = there_after script w c k i (context_word_at w i) n h.there;
}

by_after : (w : World) (c : ℕ) (k : CarrierSeen) (i : ℕ) (found : ContextWord) →
    IsInHand (λ d. d ≡ c → ⊥) found → context_by (changed_carrier w c k) i found ≡ context_by w i found
by_after w c k i (Taken d version) n =
    ap (λ (x : CarrierSeen). held_in x.hand) (get_or-set_other w.carriers c d k (new_carrier 0 0) n)
by_after w c k i (Clean version) n = refl
by_after w c k i (Holds version) n = refl
by_after w c k i Empty n = refl

-- and is what it was
pub found_after : (w : World) (c : ℕ) (k : CarrierSeen) (i : ℕ) → IsElsewhere c w i →
    context_at (changed_carrier w c k) i ≡ context_at w i
found_after w c k i n = by_after w c k i (context_word_at w i) n

-- A context that rests is in its slot.
pub rests : (w : World) (i : ℕ) (found : ContextWord) →
    (((v : ℕ) × (found ≡ Clean v)) ⊎ ((v : ℕ) × (found ≡ Holds v))) →
    context_by w i found ≡ resting_in (slot_at w (slot_of i))
rests w i found (inl e) = ap (context_by w i) e.1
rests w i found (inr e) = ap (context_by w i) e.1
