-- A destroy removes the context of its victim, or asks again: the board after it is shown.
use Rattle.std.proofs.Common.{◌≡◌, ◌≢◌, ℕ, ◌==◌, Bool, true, false, refl, sym, ap, ◌∙◌, subst, Option, Some, None, inl, inr}
use Rattle.std.specs.Prelude.{if◌then◌else◌}
use Rattle.std.proofs.lemmas.Bool.{cases_Bool, eqb-true}
use Rattle.k_ids.specs.declared.context_word.ContextWord.{ContextWord}
use Rattle.k_ids.specs.declared.context_word.ContextWord.TheVariants.{Clean, Empty, Holds, Taken}
use Rattle.k_ids.specs.declared.state_word.StateWord.{StateWord}
use Rattle.k_ids.specs.ContextWords.{IsVersion, context_bits, context_word_of}
use Rattle.k_ids.proofs.ContextSpelled.{context-read}
use Rattle.k_locks.specs.declared.steps.Answer.{Answer}
use Rattle.k_locks.specs.Asks.{Ask, Response, response_of, step_for, told_of}
use Rattle.k_locks.specs.Asks as asks
use Rattle.k_locks.specs.Hands.{Hand, nothing, trimmed}
use Rattle.k_locks.specs.Numbers.{ThreadNumbers}
use Rattle.k_locks.specs.declared.steps.Told.TheVariants as told
use Rattle.k_locks.specs.Steps.{is_again, not_removed}
use Rattle.k_locks.proofs.Responses.{again_heard}
use Rattle.k_model.specs.Maps.{upd}
use Rattle.k_model.proofs.Maps.{upd_other, upd_same}
use Rattle.k_script.specs.Script.{Script}
use Rattle.k_threads.specs.declared.destroy.DestroyCall.{DestroyCall}
use Rattle.k_threads.specs.declared.destroy.DestroyLocation.{DestroyLocation}
use Rattle.k_threads.specs.declared.destroy.DestroyLocation.TheVariants as location
use Rattle.k_threads.specs.declared.destroy.DestroyLocked.TheVariants as locked
use Rattle.k_threads.specs.DestroyTable.{DestroyAt, Locked, hand_after, hand_of, leads, locks_of}
use Rattle.k_caller.specs.Threads.{ThreadSeen}
use Rattle.k_context.specs.Contexts.{ContextSeen, Thread}
use Rattle.k_carrier.specs.Moves.{Section}
use Rattle.k_carrier.specs.Seen.{HandSeen}
use Rattle.k_world.specs.Worlds.{Away, Slot}
use Rattle.k_board.specs.Words.{Programs}
use Rattle.k_board.specs.Boards.{At, Board, Context, InDestroy, Nowhere}
use Rattle.k_board.specs.Steps.{Answers, destroy_at, destroy_contexts}
use Rattle.k_board.specs.Turns.{destroys}
use Rattle.k_good.specs.Locks.{LocksHold, locks_at}
use Rattle.k_places.specs.Contexts.{HoldsGoods, ShowsContext, held_on, programs_of}
use Rattle.k_places.specs.Memory.{Memory, Place, Same, moved_maps, slot_filled}
use Rattle.k_places.specs.Asks.{IsAskFit}
use Rattle.k_turns.specs.Sections.{Comes, more, none, section_entry, section_maps}
use Rattle.k_places.specs.Answers.{entry_in, goods_found}
use Rattle.k_places.specs.Shows.{AreInPlace, Shows, context_in}
use Rattle.k_turns.proofs.DestroySteps as steps
use Rattle.k_places.proofs.Goes.{Goes}
use Rattle.k_places.proofs.Places.{others_held, places_held, rest_changed, rest_others, rest_this, this_held, version_held}
use Rattle.k_places.proofs.Threads.{both_shown}
use Rattle.k_places.proofs.Words.{step_finds, upd_own}

module _ (script : Script) (m : Memory) (b : Board) (c i : ℕ) (call : DestroyCall) (numbers : ThreadNumbers) (n d : ℕ)
    (own : StateWord) (k : HandSeen) (sh : Shows script m b) (locks : LocksHold b.owner b.table b.ready b.context)
    (was : m.hand c ≡ Some k) (mine : k.context ≡ i) where
  abbrev L : DestroyLocation
  L = location.Locked locked.RemoveContext numbers

  abbrev X : Context
  X = b.context i

  abbrev P : DestroyAt
  P = Locked locked.RemoveContext

  abbrev Asked : Ask
  Asked = asks.Remove call.who

  abbrev V : ℕ
  V = call.who.number

  abbrev Told : Answer
  Told = steps.An script m b c i call L n d own k sh locks was mine

  abbrev Heard : Response
  Heard = steps.R script m b c i call L n d own k sh locks was mine

  abbrev After : Board
  After = steps.After script m b c i call L n d own k sh locks was mine

  abbrev T : ThreadSeen
  T = steps.T script m b c i call L n d own k sh locks was mine

  abbrev Then : Bool → ThreadSeen
  Then q = steps.Then script m b c i call L n d own k sh locks was mine q

  abbrev On : Hand
  On = steps.On script m b c i call L n d own k sh locks was mine

  abbrev G : Programs
  G = programs_of script

  abbrev Y : Context
  Y = record (b.context V) { at = Nowhere }

  abbrev Found : ℕ
  Found = m.context V

  abbrev Maps : ThreadSeen → Memory
  Maps t =
      moved_maps script m c i (Section (step_for Asked nothing)) (Some (record { context = i; value = Thread t }))
      (entry_in m.serial None)

  abbrev Words : ℕ → ℕ
  Words = upd m.context V (context_bits Empty)

  abbrev Slots : ℕ → Slot
  Slots = upd m.slot V Away

  abbrev Result : Type 0
  Result = Comes script G i 1 b (section_maps script m c i (Thread T)) (section_entry m i (Thread T))

  module _ (fit : IsAskFit m b Asked) (at : X.at ≡ InDestroy call P) (hand : hand_of L ≡ held_on b (locks_at X.at))
      (held : version_held k ≡ call.caller.version) (num : call.caller.number ≡ i)
      (ver : ((b.seen i).word.version == call.caller.version) ≡ true) (version : IsVersion call.who.version) where
    -- the context is there, and clean
    removed : (Found == context_bits (Clean call.who.version)) ≡ true → Result
    removed test = record {
      board = After;
      turns = more b After After (destroys call P Heard at an) (none After);
      shows = by (is_again Told) refl;
      entries = refl;
    }
      where
        an : Answers b Asked Heard
        an =
            step_finds m b Asked (steps.Goes_home script m b c i call L n d own k sh locks was mine)
            (goods_found m (step_for Asked nothing)) sh.seen sh.owners fit

        gone : Heard ≡ asks.Removed
        gone = ap (λ q. told_of (if q then told.Removed else not_removed V (context_word_of Found)) Asked) test

        na : is_again Told ≡ false
        na = again_heard Asked Told ∙ ap asks.is_again gone

        clean : context_word_of Found ≡ Clean call.who.version
        clean =
            ap context_word_of (eqb-true Found (context_bits (Clean call.who.version)) test)
            ∙ context-read (Clean call.who.version) version

        words_are : (Maps (Then false)).context ≡ Words
        words_are = ap (λ q. upd m.context V (if q then context_bits Empty else Found)) test

        slots_are : (Maps (Then false)).slot ≡ Slots
        slots_are = ap (λ q. slot_filled (if q then Place V Away else Same) m.slot) test

        not_taken : (x v : ℕ) → context_word_of Found ≡ Taken x v → ⊥
        not_taken x v q = let no : Clean call.who.version ≡ Taken x v = sym clean ∙ q in absurd cc

        apart : i ≢ V
        apart q =
            not_taken c (version_held k) (ap (λ z. context_word_of (m.context z)) (sym q)
            ∙ ap (λ z. context_word_of (m.context z)) (sym mine) ∙ sh.places.taken c k was)

        first : AreInPlace m.context m.slot (Maps (Then false)).hand
        first = places_held m.context m.slot m.hand c k _ was (sym mine) sh.places (sym held)

        places : AreInPlace Words Slots (Maps (Then false)).hand
        places = rest_changed m.context m.slot (Maps (Then false)).hand V Empty Away first not_taken tt tt

        found : (j : ℕ) → context_in (Maps (Then false)).context (Maps (Then false)).slot (Maps (Then false)).hand j ≡
            context_in Words Slots (Maps (Then false)).hand j
        found j = λ e. context_in (words_are e) (slots_are e) (Maps (Then false)).hand j

        other : (j : ℕ) → j ≢ V → context_in (Maps (Then false)).context (Maps (Then false)).slot (Maps (Then false)).hand j ≡
            context_in m.context m.slot (Maps (Then false)).hand j
        other j ne = found j ∙ rest_others m.context m.slot (Maps (Then false)).hand V Empty Away first not_taken j ne

        none_there : context_in (Maps (Then false)).context (Maps (Then false)).slot (Maps (Then false)).hand V ≡ None
        none_there = found V ∙ rest_this m.context m.slot (Maps (Then false)).hand V Empty Away first not_taken tt

        contexts : ℕ → Context
        contexts = destroy_contexts call P Heard b.context

        in_hand : hand_of L ≡ trimmed (locks_of call P) On
        in_hand = hand ∙ ap (λ p. held_on b (locks_at p)) at ∙ steps.held_is b call P

        none_some : (z : ContextSeen) → None ≡ Some z → HoldsGoods After z Y.at
        none_some z q = absurd cc

        by : (q : Bool) → is_again Told ≡ q → Shows script (Maps (Then q)) After
        by true e = let no : true ≡ false = sym e ∙ na in absurd cc
        by false e =
            both_shown script m b After c i Asked (hand_after call (trimmed (locks_of call P) On) P asks.Released)
            (goods_found m (step_for Asked nothing)) k G sh locks was mine fit (Then false) call.caller
            (destroy_at call (leads call On P Heard)) X.own None None contexts V Y
            (subst (λ (z : ℕ → ℕ). AreInPlace z (Maps (Then false)).slot (Maps (Then false)).hand) (sym words_are)
            (subst (λ (z : ℕ → Slot). AreInPlace Words z (Maps (Then false)).hand) (sym slots_are) places))
            (other i apart ∙ ap (context_in m.context m.slot (Maps (Then false)).hand) (sym mine)
            ∙ this_held m.context m.slot m.hand c k _ was (sym mine) sh.places)
            (λ j ne nn. other j nn ∙ others_held m.context m.slot m.hand c k _ was (sym mine) sh.places j (λ q. ne (q ∙ mine)))
            apart (λ j ne. refl)
            (ap (λ r. destroy_contexts call P r b.context V) gone ∙ upd_same b.context V Y)
            (λ j ne. ap (λ r. destroy_contexts call P r b.context j) gone ∙ upd_other b.context V Y j ne)
            (subst (λ (o : Option ContextSeen). ShowsContext (After.seen V).word V o Y) (sym none_there) refl)
            (λ z q. none_some z (sym none_there ∙ q))
            num ver refl refl refl
            (subst (λ (z : At). Goes b After Asked (locks_at z) (Then false).activity (Then false).own
            (destroy_at call (leads call On P Heard)) X.own (hand_after call
            (trimmed (locks_of call P) On) P asks.Released) None None (Unit {0})) (sym at)
            (steps.goes_on script m b c i call L n d own k sh locks was mine fit at refl in_hand e tt))
            (record { size = refl; seen = refl; owns = (refl, refl, refl); context = refl })

    -- its word says another thing: it asks again
    kept : (Found == context_bits (Clean call.who.version)) ≡ false → Result
    kept test =
        steps.destroy_keeps script m b c i call L n d own k sh locks was mine words_are
        slots_are contexts_are tt fit at refl hand held num ver
      where
        words_are : upd m.context V (if Found == context_bits (Clean call.who.version) then context_bits Empty else Found) ≡
            m.context
        words_are = ap (λ q. upd m.context V (if q then context_bits Empty else Found)) test ∙ upd_own m.context V

        slots_are : slot_filled (if Found == context_bits (Clean call.who.version) then Place V Away else Same) m.slot ≡ m.slot
        slots_are = ap (λ q. slot_filled (if q then Place V Away else Same) m.slot) test

        kept_by : (w : ContextWord) → destroy_contexts call P (told_of (not_removed V w) Asked) b.context ≡ b.context
        kept_by Empty = refl
        kept_by (Clean v) = refl
        kept_by (Holds v) = refl
        kept_by (Taken x v) = refl

        contexts_are : destroy_contexts call P Heard b.context ≡ b.context
        contexts_are =
            ap (λ q. destroy_contexts call P
            (told_of (if q then told.Removed else not_removed V (context_word_of Found)) Asked) b.context) test
            ∙ kept_by (context_word_of Found)

    pub destroy_removes : Result
    destroy_removes = elim (cases_Bool (Found == context_bits (Clean call.who.version))) [ inl t ↦ removed t | inr f ↦ kept f ]
