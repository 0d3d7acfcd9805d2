-- What a step of a context leaves of the others, in the raw world: they are as they were, but for one that is placed and one
-- that is removed. And no number's version falls.
use Rattle.std.proofs.Common.{◌≡◌, ◌≢◌, ℕ, ◌==◌, ◌≤◌, Bool, true, false, refl, sym, ap, ◌∙◌, subst, Option}
use Rattle.std.proofs.Common.{Some, None, arith, inl, inr}
use Rattle.std.specs.Prelude.{if◌then◌else◌}
use Rattle.std.proofs.lemmas.Bool.{eqb-true}
use Rattle.std.proofs.lemmas.Bool.Decides.{eqb_tells}
use Rattle.k_ids.specs.declared.context_word.ContextWord.{ContextWord}
use Rattle.k_ids.specs.declared.context_word.ContextWord.TheVariants.{Clean, Empty, Holds, Taken}
use Rattle.k_ids.specs.declared.threads.ThreadId.{ThreadId}
use Rattle.k_ids.specs.ContextWords.{context_bits, context_word_of}
use Rattle.k_ids.proofs.ContextSpelled.{context-read}
use Rattle.k_model.specs.Maps.{upd}
use Rattle.k_model.proofs.Maps.{upd_other, upd_same}
use Rattle.k_locks.specs.declared.locks.Lock.{Lock}
use Rattle.k_locks.specs.declared.steps.Step.{Step}
use Rattle.k_locks.specs.declared.steps.Step.TheVariants as step
use Rattle.k_locks.specs.Asks.{Ask, step_for}
use Rattle.k_locks.specs.Asks as asks
use Rattle.k_locks.specs.Hands.{Hand}
use Rattle.k_locks.specs.Steps.{becomes, word_of}
use Rattle.k_script.specs.Limits.{IsScript}
use Rattle.k_script.specs.Script.{Script}
use Rattle.k_context.specs.Contexts.{ContextSeen, step_of, thread_of}
use Rattle.k_carrier.specs.Seen.{HandSeen}
use Rattle.k_world.specs.Worlds.{Away, Resting, Slot, held_in, resting_in}
use Rattle.k_board.specs.Boards.{Board}
use Rattle.k_board.specs.Moves.{Change, calls, delivers, frees_receiver, frees_sender, joins, kills, leaves}
use Rattle.k_board.specs.Moves.{makes, passes, posts, same, settles, takes}
use Rattle.k_board.specs.Turns.{Turn}
use Rattle.k_board.specs.Words.{Seen}
use Rattle.k_board.proofs.Turning.{turn_changes}
use Rattle.k_good.proofs.Goods.{supports}
use Rattle.k_invariant.specs.Invariant.{Holds as BoardIsHeld}
use Rattle.k_invariant.proofs.Keeps.{tells}
use Rattle.k_places.specs.Memory.{Home, Memory, Same, filling_by, slot_filled, with_word, word_in}
use Rattle.k_places.specs.Shows.{AreInPlace, IsInHand, Stands, context_by}
use Rattle.k_plays.specs.Scripts.{ranged_programs}
use Rattle.k_turns.specs.Sections.{section_maps}
use Rattle.k_turns.specs.Spelled.{ask_at}
use Rattle.k_waits.specs.Steps.{Becomes, comes, found_on, goes, stays}
use Rattle.k_waits.proofs.Asking.{steps_by}

module _ (script : Script) (m n : Memory) (c i : ℕ) (h : HandSeen) (hands : n.hand ≡ upd m.hand c (Some h)) (mine : h.context ≡ i)
    (places : AreInPlace m.context m.slot m.hand) (after : AreInPlace n.context n.slot n.hand) where
  -- who is in the hand isn't another
  not_here : (j carrier version : ℕ) → j ≢ i → IsInHand (n.hand carrier) j version → carrier ≢ c
  not_here j carrier version ne is here =
      let hand : n.hand carrier ≡ Some h = ap (λ (f : ℕ → Option HandSeen). f carrier) hands
      ∙ ap (upd m.hand c (Some h)) here ∙ upd_same m.hand c (Some h) in
      let at = subst (λ (o : Option HandSeen). IsInHand o j version) hand is in
      ne (sym at.0 ∙ mine)

  other_hand : (carrier : ℕ) → carrier ≢ c → n.hand carrier ≡ m.hand carrier
  other_hand carrier ne = ap (λ (f : ℕ → Option HandSeen). f carrier) hands ∙ upd_other m.hand c (Some h) carrier ne

  -- where word and slot are the same, so is the context
  pub same_found : (j : ℕ) → j ≢ i → n.context j ≡ m.context j → n.slot j ≡ m.slot j → found_on n j ≡ found_on m j
  same_found j ne word slot =
      by (context_word_of (n.context j)) refl (after.stands j) ∙ ap (λ x. context_by m.slot m.hand j (context_word_of x)) word
    where
      by : (w : ContextWord) → context_word_of (n.context j) ≡ w → Stands n.slot n.hand j w →
          context_by n.slot n.hand j w ≡ context_by m.slot m.hand j w
      by Empty e s = refl
      by (Clean version) e s = ap resting_in slot
      by (Holds version) e s = ap resting_in slot
      by (Taken carrier version) e s = ap held_in (other_hand carrier (not_here j carrier version ne s))

  -- a context that is placed rests there
  placed_found : (j : ℕ) (v : ContextSeen) → j ≢ i → n.slot j ≡ Resting v → m.context j ≡ context_bits Empty →
      (w : ContextWord) → context_word_of (n.context j) ≡ w → Stands n.slot n.hand j w →
      (P : Option ContextSeen → Type 0) → P None → P (Some v) → P (context_by n.slot n.hand j w)
  placed_found j v ne slot empty Empty e s P none some = none
  placed_found j v ne slot empty (Clean version) e s P none some = subst P (sym (ap resting_in slot)) some
  placed_found j v ne slot empty (Holds version) e s P none some = subst P (sym (ap resting_in slot)) some
  placed_found j v ne slot empty (Taken carrier version) e s P none some = absurd (by (m.hand carrier) refl is)
    where
      is : IsInHand (m.hand carrier) j version
      is = subst (λ (o : Option HandSeen). IsInHand o j version) (other_hand carrier (not_here j carrier version ne s)) s

      by : (o : Option HandSeen) → m.hand carrier ≡ o → IsInHand o j version → ⊥
      by None q at = at
      by (Some k) q at =
          let word : context_word_of (m.context j) ≡ Taken carrier _ = ap (λ x. context_word_of (m.context x)) (sym at.0)
          ∙ places.taken carrier k q in
          let no : Empty ≡ Taken carrier _ = sym (ap context_word_of empty ∙ context-read Empty tt) ∙ word in absurd cc

-- A STEP

home_only : (t : Bool) (l : Lock) (slots : ℕ → Slot) → slot_filled (if t then Home l Away else Same) slots ≡ slots
home_only true l slots = refl
home_only false l slots = refl

module _ (script : Script) (m : Memory) (c i : ℕ) (v : ContextSeen) (places : AreInPlace m.context m.slot m.hand)
    (after : AreInPlace (section_maps script m c i v).context (section_maps script m c i v).slot
    (section_maps script m c i v).hand) where
  abbrev N : Memory
  N = section_maps script m c i v

  abbrev S : Step
  S = step_of v

  -- the words of contexts, and slots, by the step
  words_by : (s : Step) → ℕ → ℕ
  words_by s = (with_word (word_of s) (becomes i s (word_in m (word_of s))) m).context

  slots_by : (s : Step) → ℕ → Slot
  slots_by s = slot_filled (filling_by script s (word_in m (word_of s))) m.slot

  module _ (j : ℕ) (ne : j ≢ i) where
    abbrev Result : Step → Type 0
    Result s = Becomes script (found_on m j) s j (found_on N j)

    as_before : (s : Step) → N.context j ≡ m.context j → N.slot j ≡ m.slot j → Result s
    as_before s word slot =
        subst (Becomes script (found_on m j) s j)
        (sym (same_found script m N c i _ refl refl places after j ne word slot)) stays

    place_by : (id : ThreadId) (program priority : ℕ) → S ≡ step.Place id program priority → (q : Bool) →
        (m.context id.number == context_bits Empty) ≡ q → Result (step.Place id program priority)
    place_by id program priority e q t = elim (eqb_tells j id.number) [
      | inr apart ↦
          as_before (step.Place id program priority)
          (ap (λ (s : Step). (with_word (word_of s) (becomes i s (word_in m (word_of s))) m).context j) e
          ∙ upd_other m.context id.number _ j apart.1)
          (ap (λ (s : Step). slot_filled (filling_by script s (word_in m (word_of s))) m.slot j) e ∙ other_slot q t apart.1)
      | inl here ↦ at_place q t here.1
    ]
      where
        other_slot : (q : Bool) → (m.context id.number == context_bits Empty) ≡ q → j ≢ id.number →
            slot_filled (filling_by script (step.Place id program priority) (m.context id.number)) m.slot j ≡ m.slot j
        other_slot true t away = rw t (upd_other m.slot id.number _ j away)
        other_slot false t away = rw t refl

        at_place : (q : Bool) → (m.context id.number == context_bits Empty) ≡ q → j ≡ id.number →
            Result (step.Place id program priority)
        at_place false t is_it =
            as_before (step.Place id program priority)
            (ap (λ (s : Step). (with_word (word_of s) (becomes i s (word_in m (word_of s))) m).context j) e
            ∙ ap (upd m.context id.number (becomes i (step.Place id program priority) (m.context id.number))) is_it
            ∙ upd_same m.context id.number _ ∙ rw t refl ∙ ap m.context (sym is_it))
            (ap (λ (s : Step). slot_filled (filling_by script s (word_in m (word_of s))) m.slot j) e ∙ rw t refl)
        at_place true t is_it =
            let slot : N.slot j ≡ Resting (thread_of script id program priority) =
            ap (λ (s : Step). slot_filled (filling_by script s (word_in m (word_of s))) m.slot j) e
            ∙ rw t (ap (upd m.slot id.number (Resting (thread_of script id program priority))) is_it
            ∙ upd_same m.slot id.number (Resting (thread_of script id program priority))) in
            placed_found script m N c i _ refl refl places after j (thread_of script id program priority) ne slot
            (ap m.context is_it ∙ eqb-true (m.context id.number) (context_bits Empty) t)
            (context_word_of (N.context j)) refl (after.stands j)
            (Becomes script (found_on m j) (step.Place id program priority) j) goes (comes id program priority refl (sym is_it))

    remove_by : (id : ThreadId) → S ≡ step.Remove id → (q : Bool) →
        (m.context id.number == context_bits (Clean id.version)) ≡ q → Result (step.Remove id)
    remove_by id e q t = elim (eqb_tells j id.number) [
      | inr apart ↦
          as_before (step.Remove id)
          (ap (λ (s : Step). (with_word (word_of s) (becomes i s (word_in m (word_of s))) m).context j) e
          ∙ upd_other m.context id.number _ j apart.1)
          (ap (λ (s : Step). slot_filled (filling_by script s (word_in m (word_of s))) m.slot j) e ∙ other_slot q t apart.1)
      | inl here ↦ at_place q t here.1
    ]
      where
        other_slot : (q : Bool) → (m.context id.number == context_bits (Clean id.version)) ≡ q → j ≢ id.number →
            slot_filled (filling_by script (step.Remove id) (m.context id.number)) m.slot j ≡ m.slot j
        other_slot true t away = rw t (upd_other m.slot id.number _ j away)
        other_slot false t away = rw t refl

        at_place : (q : Bool) → (m.context id.number == context_bits (Clean id.version)) ≡ q → j ≡ id.number →
            Result (step.Remove id)
        at_place false t is_it =
            as_before (step.Remove id)
            (ap (λ (s : Step). (with_word (word_of s) (becomes i s (word_in m (word_of s))) m).context j) e
            ∙ ap (upd m.context id.number (becomes i (step.Remove id) (m.context id.number))) is_it
            ∙ upd_same m.context id.number _ ∙ rw t refl ∙ ap m.context (sym is_it))
            (ap (λ (s : Step). slot_filled (filling_by script s (word_in m (word_of s))) m.slot j) e ∙ rw t refl)
        at_place true t is_it =
            let word : N.context j ≡ context_bits Empty =
            ap (λ (s : Step). (with_word (word_of s) (becomes i s (word_in m (word_of s))) m).context j) e
            ∙ ap (upd m.context id.number (becomes i (step.Remove id) (m.context id.number))) is_it
            ∙ upd_same m.context id.number _ ∙ rw t refl in
            let none : found_on N j ≡ None =
            ap (λ x. context_by N.slot N.hand j (context_word_of x)) word
            ∙ ap (context_by N.slot N.hand j) (context-read Empty tt) in
            subst (Becomes script (found_on m j) (step.Remove id) j) (sym none) goes

    by_ask : (a : Ask) (h : Hand) → S ≡ step_for a h → Result (step_for a h)
    by_ask (asks.Load n) h e =
        as_before (step_for (asks.Load n) h)
        (ap (λ (s : Step). (with_word (word_of s) (becomes i s (word_in m (word_of s))) m).context j) e)
        (ap (λ (s : Step). slot_filled (filling_by script s (word_in m (word_of s))) m.slot j) e)
    by_ask (asks.LoadMail n) h e =
        as_before (step_for (asks.LoadMail n) h)
        (ap (λ (s : Step). (with_word (word_of s) (becomes i s (word_in m (word_of s))) m).context j) e)
        (ap (λ (s : Step). slot_filled (filling_by script s (word_in m (word_of s))) m.slot j) e)
    by_ask (asks.Post n x) h e =
        as_before (step_for (asks.Post n x) h)
        (ap (λ (s : Step). (with_word (word_of s) (becomes i s (word_in m (word_of s))) m).context j) e)
        (ap (λ (s : Step). slot_filled (filling_by script s (word_in m (word_of s))) m.slot j) e)
    by_ask (asks.Exchange n old new) h e =
        as_before (step_for (asks.Exchange n old new) h)
        (ap (λ (s : Step). (with_word (word_of s) (becomes i s (word_in m (word_of s))) m).context j) e)
        (ap (λ (s : Step). slot_filled (filling_by script s (word_in m (word_of s))) m.slot j) e)
    by_ask (asks.Acquire l) h e =
        as_before (step_for (asks.Acquire l) h)
        (ap (λ (s : Step). (with_word (word_of s) (becomes i s (word_in m (word_of s))) m).context j) e)
        (ap (λ (s : Step). slot_filled (filling_by script s (word_in m (word_of s))) m.slot j) e
        ∙ ap (λ (f : ℕ → Slot). f j) (home_only _ l m.slot))
    by_ask (asks.Release l) h e =
        as_before (step_for (asks.Release l) h)
        (ap (λ (s : Step). (with_word (word_of s) (becomes i s (word_in m (word_of s))) m).context j) e)
        (ap (λ (s : Step). slot_filled (filling_by script s (word_in m (word_of s))) m.slot j) e)
    by_ask (asks.Place id program priority) h e =
        place_by id program priority e (m.context id.number == context_bits Empty) refl
    by_ask (asks.Remove id) h e = remove_by id e (m.context id.number == context_bits (Clean id.version)) refl

    pub others_are : Becomes script (found_on m j) S j (found_on N j)
    others_are =
        let s = steps_by v in
        subst (λ (z : Step). Becomes script (found_on m j) z j (found_on N j)) (sym s.step) (by_ask (ask_at v) s.hand s.step)

-- VERSIONS

version_by : (b : Board) (i t : ℕ) (s : Seen) → Change b i t s → (b.seen t).word.version ≤ s.word.version
version_by b i _ _ (same t) = omega arith
version_by b i _ _ (calls w r p run leads) = let e = leads.version in omega (arith, e)
version_by b i _ _ (settles v o ver al al2 ns us) = omega (arith, ver)
version_by b i _ _ (passes t r o op none) = omega arith
version_by b i _ _ (delivers t from o op told) = omega arith
version_by b i _ _ (takes t to o nj st none) = omega arith
version_by b i _ _ (joins t to o nj hr st) = omega arith
version_by b i _ _ (frees_sender t to joined o tb dd st none) = omega arith
version_by b i _ _ (frees_receiver t from o tb dd st none) = omega arith
version_by b i _ _ (kills t o tb nk al) = omega arith
version_by b i _ _ (makes t w p tb d nw rn ver) = omega (arith, ver)
version_by b i _ _ (leaves wt) = omega arith
version_by b i _ _ (posts t m o op) = omega arith

pub version_grows : (script : Script) → IsScript script → (b b' : Board) (i t : ℕ) → BoardIsHeld script b →
    Turn (ranged_programs script) b i b' → (b.seen t).word.version ≤ (b'.seen t).word.version
version_grows script limits b b' i t h turn =
    let q = tells script limits b h.entries h.state h.holds i in
    version_by b i t (b'.seen t) (turn_changes (ranged_programs script) b h.holds.proper.good.places i b'
    (supports (ranged_programs script) b i h.holds.proper.good q) turn t)
