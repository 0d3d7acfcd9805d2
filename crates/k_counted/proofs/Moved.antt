-- After a move of a carrier each context is, wherever it is, the one that the move makes of it.
use Rattle.std.proofs.Common.{◌≡◌, ◌≢◌, ℕ, ◌==◌, Bool, true, false, refl, sym, ap, ◌∙◌, subst, Option, Some, None, inl, inr}
use Rattle.std.specs.Prelude.{if◌then◌else◌}
use Rattle.std.proofs.lemmas.Bool.{cases_Bool, eq-eqb}
use Rattle.std.proofs.lemmas.Bool.Decides.{eqb_tells}
use Rattle.k_ids.specs.declared.context_word.ContextWord.{ContextWord}
use Rattle.k_ids.specs.declared.context_word.ContextWord.TheVariants.{Clean, Empty, Holds, Taken}
use Rattle.k_ids.specs.declared.lock_word.LockWord.TheVariants.{Free}
use Rattle.k_ids.specs.declared.threads.ThreadId.{ThreadId}
use Rattle.k_ids.specs.ContextWords.{IsContextWord, IsVersion, context_bits, context_word_of}
use Rattle.k_ids.specs.LockWords.{lock_bits}
use Rattle.k_locks.specs.declared.goods.Goods.{Goods}
use Rattle.k_locks.specs.declared.locks.Lock.{Lock}
use Rattle.k_locks.specs.declared.steps.Answer.TheVariants as answered
use Rattle.k_locks.specs.declared.steps.Step.{Step}
use Rattle.k_locks.specs.declared.steps.Step.TheVariants as step
use Rattle.k_locks.specs.declared.steps.Told.{Told}
use Rattle.k_locks.specs.declared.steps.Told.TheVariants as told
use Rattle.k_locks.specs.Asks.{Ask, step_for}
use Rattle.k_locks.specs.Asks as asks
use Rattle.k_locks.specs.Hands.{Hand}
use Rattle.k_locks.specs.Places.{lock_number}
use Rattle.k_locks.specs.Steps.{answer_of, becomes, not_removed, word_of}
use Rattle.k_model.specs.Maps.{upd}
use Rattle.k_model.proofs.Maps.{upd_other, upd_same}
use Rattle.k_script.specs.Script.{Script}
use Rattle.k_context.specs.Contexts.{ContextSeen, locks_of, owner_of, thread_of}
use Rattle.k_carrier.specs.Asked.{resting_word, version_of}
use Rattle.k_carrier.specs.Rules.{holds_any}
use Rattle.k_carrier.specs.Seen.{HandSeen}
use Rattle.k_world.specs.Worlds.{Slot, Away, Resting, resting_in}
use Rattle.k_marks.specs.Moved.{with_step}
use Rattle.k_board.specs.Boards.{Board}
use Rattle.k_places.specs.Memory.{Home, Memory, Place, Same, filling_by, slot_filled, with_word, word_in}
use Rattle.k_places.specs.Shows.{AreInPlace, Shows, context_by, context_in}
use Rattle.k_places.proofs.Places.{this_is}
use Rattle.k_places.proofs.Rested.{nowhere_empty}
use Rattle.k_places.proofs.Words.{upd_own}
use Rattle.k_counted.proofs.Asked.{IsPlacing, Permits}
use Rattle.k_counted.proofs.Found.{IsElsewhere, other_found}

-- a map at a number where it changes, and elsewhere
pub by_number : (P : ℕ → Type 0) (n m : ℕ) → P m → (n ≢ m → P n) → P n
by_number P n m here there = elim (eqb_tells n m) [ inl e ↦ subst P (sym e.1) here | inr e ↦ there e.1 ]

-- where a context isn't removed, contexts are as they were
pub kept_word : (script : Script) (id : ThreadId) (f : ℕ → Option ContextSeen) (w : ContextWord) →
    with_step script (step.Remove id) (answered.Told (not_removed id.number w)) f ≡ f
kept_word script id f Empty = refl
kept_word script id f (Clean v) = refl
kept_word script id f (Holds v) = refl
kept_word script id f (Taken x v) = refl

-- A STEP OF A SECTION, on the maps

module _ (script : Script) (m : Memory) (b : Board) (c i : ℕ) (k : Option HandSeen) (sh : Shows script m b) where
  -- the words, the slots and the hands after this step
  abbrev pub Words : Step → ℕ → ℕ
  Words s = (with_word (word_of s) (becomes i s (word_in m (word_of s))) m).context

  abbrev pub Slots : Step → ℕ → Slot
  Slots s = slot_filled (filling_by script s (word_in m (word_of s))) m.slot

  abbrev pub Hands : ℕ → Option HandSeen
  Hands = upd m.hand c k

  abbrev pub Found : ℕ → Option ContextSeen
  Found = context_in m.context m.slot m.hand

  -- what the step makes of the contexts, but of the one in the hand
  abbrev pub After : Step → Goods → ℕ → Option ContextSeen
  After s goods = with_step script s (answer_of s (word_in m (word_of s)) goods) Found

  abbrev Elsewhere : (s : Step) → AreInPlace (Words s) (Slots s) Hands → ℕ → Type 0
  Elsewhere s places = IsElsewhere m.context (Words s) m.slot (Slots s) m.hand c k places

  abbrev pub Meets : Step → Goods → Type 0
  Meets s goods =
      (places : AreInPlace (Words s) (Slots s) Hands) → (n : ℕ) → Elsewhere s places n →
      context_in (Words s) (Slots s) Hands n ≡ After s goods n

  -- the word and the slot of this number are as they were
  same_there : (s : Step) (places : AreInPlace (Words s) (Slots s) Hands) (n : ℕ) → Words s n ≡ m.context n →
      Slots s n ≡ m.slot n → Elsewhere s places n → context_in (Words s) (Slots s) Hands n ≡ Found n
  same_there s places n = other_found m.context (Words s) m.slot (Slots s) m.hand c k places n

  home_only : (t : Bool) (l : Lock) → slot_filled (if t then Home l Away else Same) m.slot ≡ m.slot
  home_only true l = refl
  home_only false l = refl

  -- A CONTEXT IS PLACED, where there is none

  module _ (id : ThreadId) (program priority : ℕ) (goods : Goods) (h : IsPlacing b id) where
    abbrev New : ContextSeen
    New = thread_of script id program priority

    abbrev Places : Step
    Places = step.Place id program priority

    test : (m.context id.number == context_bits Empty) ≡ true
    test = eq-eqb (m.context id.number) (context_bits Empty) (nowhere_empty script m b sh id.number h.vacant)

    words_are : Words Places ≡ upd m.context id.number (context_bits (Clean id.version))
    words_are = ap (λ q. upd m.context id.number (if q then context_bits (Clean id.version) else m.context id.number)) test

    slots_are : Slots Places ≡ upd m.slot id.number (Resting New)
    slots_are = ap (λ q. slot_filled (if q then Place id.number (Resting New) else Same) m.slot) test

    here : context_in (Words Places) (Slots Places) Hands id.number ≡ Some New
    here =
        (λ d. context_in (words_are d) (slots_are d) Hands id.number)
        ∙ this_is m.context m.slot m.hand id.number (Clean id.version) (Resting New) c k h.version
        ∙ ap resting_in (upd_same m.slot id.number (Resting New))

    places_meet : Meets Places goods
    places_meet places n ne =
        by_number (λ z. Elsewhere Places places z → context_in (Words Places) (Slots Places) Hands z ≡ After Places goods z)
        n id.number (λ x. here ∙ sym (upd_same Found id.number (Some New)))
        (λ q x. same_there Places places n (ap (λ (f : ℕ → ℕ). f n) words_are ∙ upd_other m.context id.number _ n q)
        (ap (λ (f : ℕ → Slot). f n) slots_are ∙ upd_other m.slot id.number _ n q) x
        ∙ sym (upd_other Found id.number (Some New) n q)) ne

  -- A CONTEXT IS REMOVED, where it is clean

  module _ (id : ThreadId) (goods : Goods) where
    abbrev V : ℕ
    V = id.number

    abbrev Removes : Step
    Removes = step.Remove id

    abbrev Told_by : Bool → Told
    Told_by q = if q then told.Removed else not_removed V (context_word_of (m.context V))

    abbrev Left : Bool → ℕ → Option ContextSeen
    Left q = with_step script Removes (answered.Told (Told_by q)) Found

    abbrev Test : Bool
    Test = m.context V == context_bits (Clean id.version)

    module _ (test : Test ≡ true) where
      gone_words : Words Removes ≡ upd m.context V (context_bits Empty)
      gone_words = ap (λ q. upd m.context V (if q then context_bits Empty else m.context V)) test

      gone_slots : Slots Removes ≡ upd m.slot V Away
      gone_slots = ap (λ q. slot_filled (if q then Place V Away else Same) m.slot) test

      gone_here : context_in (Words Removes) (Slots Removes) Hands V ≡ None
      gone_here =
          (λ d. context_in (gone_words d) (gone_slots d) Hands V) ∙ this_is m.context m.slot m.hand V Empty Away c k tt

      gone_meets : Meets Removes goods
      gone_meets places n ne =
          by_number (λ z. Elsewhere Removes places z → context_in (Words Removes) (Slots Removes) Hands z ≡ upd Found V None z)
          n V (λ x. gone_here ∙ sym (upd_same Found V None))
          (λ q x. same_there Removes places n (ap (λ (f : ℕ → ℕ). f n) gone_words ∙ upd_other m.context V _ n q)
          (ap (λ (f : ℕ → Slot). f n) gone_slots ∙ upd_other m.slot V _ n q) x ∙ sym (upd_other Found V None n q)) ne
          ∙ sym (ap (λ q. Left q n) test)

    module _ (test : Test ≡ false) where
      kept_words : Words Removes ≡ m.context
      kept_words = ap (λ q. upd m.context V (if q then context_bits Empty else m.context V)) test ∙ upd_own m.context V

      kept_slots : Slots Removes ≡ m.slot
      kept_slots = ap (λ q. slot_filled (if q then Place V Away else Same) m.slot) test

      kept_left : Left Test ≡ Found
      kept_left = ap Left test ∙ kept_word script id Found (context_word_of (m.context V))

      kept_meets : Meets Removes goods
      kept_meets places n ne =
          same_there Removes places n (ap (λ (f : ℕ → ℕ). f n) kept_words) (ap (λ (f : ℕ → Slot). f n) kept_slots) ne
          ∙ sym (ap (λ (f : ℕ → Option ContextSeen). f n) kept_left)

    removes_meet : Meets Removes goods
    removes_meet = elim (cases_Bool Test) [ inl q ↦ gone_meets q | inr q ↦ kept_meets q ]

  -- ANY STEP

  pub step_meets : (a : Ask) (h : Hand) (goods : Goods) → Permits b i a → Meets (step_for a h) goods
  step_meets (asks.Load n) h goods p =
      λ places j ne. same_there (step_for (asks.Load n) h) places j refl refl ne
  step_meets (asks.LoadMail n) h goods p =
      λ places j ne. same_there (step_for (asks.LoadMail n) h) places j refl refl ne
  step_meets (asks.Post n message) h goods p =
      λ places j ne. same_there (step_for (asks.Post n message) h) places j refl refl ne
  step_meets (asks.Exchange n old new) h goods p =
      λ places j ne. same_there (step_for (asks.Exchange n old new) h) places j refl refl ne
  step_meets (asks.Acquire l) h goods p =
      λ places j ne. same_there (step_for (asks.Acquire l) h) places j refl
      (ap (λ (f : ℕ → Slot). f j) (home_only (m.lock (lock_number l) == lock_bits Free) l)) ne
  step_meets (asks.Release l) h goods p =
      λ places j ne. same_there (step_for (asks.Release l) h) places j refl refl ne
  step_meets (asks.Place id program priority) h goods p = places_meet id program priority goods p
  step_meets (asks.Remove id) h goods p = removes_meet id goods

-- A CONTEXT IS PUT DOWN

module _ (words : ℕ → ℕ) (slot : ℕ → Slot) (hand : ℕ → Option HandSeen) (c : ℕ) (k : Option HandSeen) (n : ℕ)
    (v rests : ContextSeen) (version : IsVersion (version_of (owner_of v))) where
  whole_by : (t : Bool) → IsContextWord (if t then Holds (version_of (owner_of v)) else Clean (version_of (owner_of v)))
  whole_by true = version
  whole_by false = version

  rests_by : (t : Bool) (sl : ℕ → Slot) (hd : ℕ → Option HandSeen) → sl n ≡ Resting rests →
      context_by sl hd n (if t then Holds (version_of (owner_of v)) else Clean (version_of (owner_of v))) ≡ Some rests
  rests_by true sl hd q = ap resting_in q
  rests_by false sl hd q = ap resting_in q

  pub put_there : context_in (upd words n (context_bits (resting_word v))) (upd slot n (Resting rests)) (upd hand c k) n ≡
      Some rests
  put_there =
      this_is words slot hand n (resting_word v) (Resting rests) c k (whole_by (holds_any (locks_of v)))
      ∙ rests_by (holds_any (locks_of v)) (upd slot n (Resting rests)) (upd hand c k) (upd_same slot n (Resting rests))
