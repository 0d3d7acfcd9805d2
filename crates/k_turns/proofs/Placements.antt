-- A create places the context of a new thread: the board after it is shown.
use Rattle.std.proofs.Common.{◌≡◌, ◌≢◌, ℕ, ◌+◌, ◌==◌, true, false, refl, sym, ap, ◌∙◌, subst, Option, Some, None, arith}
use Rattle.std.specs.Prelude.{if◌then◌else◌, ◌-◌}
use Rattle.std.proofs.lemmas.Bool.{eq-eqb, ne_eqb}
use Rattle.k_ids.specs.declared.context_word.ContextWord.TheVariants.{Clean, Empty, Taken}
use Rattle.k_ids.specs.declared.state_word.StateWord.{StateWord}
use Rattle.k_ids.specs.declared.threads.ThreadId.{ThreadId}
use Rattle.k_ids.specs.ContextWords.{IsVersion, context_bits, context_word_of}
use Rattle.k_ids.proofs.ContextSpelled.{context-read}
use Rattle.k_locks.specs.Asks.{Ask, Response, response_of, step_for}
use Rattle.k_locks.specs.Asks as asks
use Rattle.k_locks.specs.Hands.{Hand, nothing, trimmed}
use Rattle.k_locks.specs.Numbers.{ThreadNumbers}
use Rattle.k_model.specs.Maps.{upd}
use Rattle.k_model.proofs.Maps.{upd_other, upd_same}
use Rattle.k_script.specs.Script.{Script}
use Rattle.k_threads.specs.declared.create.CreateCall.{CreateCall}
use Rattle.k_threads.specs.declared.create.CreateLocation.{CreateLocation}
use Rattle.k_threads.specs.declared.create.CreateLocation.TheVariants as location
use Rattle.k_threads.specs.declared.create.CreateLocked.TheVariants as locked
use Rattle.k_threads.specs.CreateTable.{CreateAt, Locked, hand_after, hand_of, leads, locks_of}
use Rattle.k_threads.specs.Words.{created_word, dead_word}
use Rattle.k_caller.specs.Threads.{ThreadSeen}
use Rattle.k_caller.specs.Threads as threads
use Rattle.k_context.specs.Contexts.{ContextSeen, Thread, thread_of}
use Rattle.k_carrier.specs.Moves.{Section}
use Rattle.k_carrier.specs.Seen.{HandSeen}
use Rattle.k_world.specs.Worlds.{Slot, Resting, resting_in}
use Rattle.k_board.specs.Words.{Programs}
use Rattle.k_board.specs.Boards.{At, Board, Coming, Context, InCreate}
use Rattle.k_board.specs.Steps.{create_at, new_context}
use Rattle.k_board.specs.Turns.{creates}
use Rattle.k_good.specs.Locks.{LocksHold, locks_at}
use Rattle.k_places.specs.Contexts.{HoldsGoods, IsShown, ShowsContext, held_on, programs_of, thread_shown}
use Rattle.k_places.specs.Memory.{Memory, Place, Same, moved_maps, slot_filled}
use Rattle.k_places.specs.Asks.{IsAskFit}
use Rattle.k_turns.specs.Sections.{Comes, more, none, section_entry, section_maps}
use Rattle.k_places.specs.Answers.{entry_in, goods_found}
use Rattle.k_places.specs.Shows.{AreInPlace, Rests, Shows, context_in}
use Rattle.k_turns.proofs.CreateSteps as steps
use Rattle.k_places.proofs.Goes.{Goes}
use Rattle.k_places.proofs.Places.{others_held, places_held, rest_changed, rest_others, rest_this, this_held, version_held}
use Rattle.k_places.proofs.Threads.{both_shown}

-- the context of a new thread, whose number has the version before
new_shown : (script : Script) (c : CreateCall) (id : ThreadId) (w : StateWord) → id.version ≡ w.version + 1 →
    IsShown w id.number (threads.thread_of script id c.program c.priority) (new_context (programs_of script) c id Coming)
new_shown script c id w e = record {
  number = refl;
  coming = λ q. record { version = e; doing = refl };
  context =
      λ d. record {
        serial = 0;
        own = created_word id.version c.priority;
        position = (programs_of script).start id c.program;
        at = stands d;
      };
}
  where
    stands : Coming ≡ (thread_shown w (threads.thread_of script id c.program c.priority)).at
    stands = sym (rw (ne_eqb w.version id.version (λ q. absurd (omega (arith, q, e)))) refl)

module _ (script : Script) (m : Memory) (b : Board) (c i : ℕ) (call : CreateCall) (id : ThreadId) (numbers : ThreadNumbers)
    (n d : ℕ) (own : StateWord) (k : HandSeen) (sh : Shows script m b) (locks : LocksHold b.owner b.table b.ready b.context)
    (was : m.hand c ≡ Some k) (mine : k.context ≡ i) where
  abbrev L : CreateLocation
  L = location.Locked (locked.PlaceContext id) numbers

  abbrev X : Context
  X = b.context i

  abbrev P : CreateAt
  P = Locked (locked.PlaceContext id)

  abbrev Asked : Ask
  Asked = asks.Place id call.program call.priority

  abbrev After : Board
  After = steps.After script m b c i call L n d own k sh locks was mine

  abbrev T : ThreadSeen
  T = steps.T script m b c i call L n d own k sh locks was mine

  abbrev Then : ThreadSeen
  Then = steps.Then script m b c i call L n d own k sh locks was mine false

  abbrev On : Hand
  On = steps.On script m b c i call L n d own k sh locks was mine

  abbrev G : Programs
  G = programs_of script

  -- the new context, in the raw world and on the board
  abbrev New : ContextSeen
  New = thread_of script id call.program call.priority

  abbrev Y : Context
  Y = new_context G call id Coming

  abbrev Maps : Memory
  Maps =
      moved_maps script m c i (Section (step_for Asked nothing)) (Some (record { context = i; value = Thread Then }))
      (entry_in m.serial None)

  abbrev Words : ℕ → ℕ
  Words = upd m.context id.number (context_bits (Clean id.version))

  abbrev Slots : ℕ → Slot
  Slots = upd m.slot id.number (Resting New)

  pub create_places : IsAskFit m b Asked → X.at ≡ InCreate call P → hand_of L ≡ held_on b (locks_at X.at) →
      version_held k ≡ call.caller.version → call.caller.number ≡ i → ((b.seen i).word.version == call.caller.version) ≡ true →
      (b.seen id.number).word ≡ dead_word (id.version - 1) → IsVersion id.version →
      Comes script G i 1 b (section_maps script m c i (Thread T)) (section_entry m i (Thread T))
  create_places fit at hand held num ver dead version = record {
    board = After;
    turns = more b After After (creates call P asks.Placed at tt) (none After);
    shows = shows;
    entries = refl;
  }
    where
      empty : context_word_of (m.context id.number) ≡ Empty
      empty = ap context_word_of fit ∙ context-read Empty tt

      test : (m.context id.number == context_bits Empty) ≡ true
      test = eq-eqb (m.context id.number) (context_bits Empty) fit

      words_are : Maps.context ≡ Words
      words_are = ap (λ q. upd m.context id.number (if q then context_bits (Clean id.version) else m.context id.number)) test

      slots_are : Maps.slot ≡ Slots
      slots_are = ap (λ q. slot_filled (if q then Place id.number (Resting New) else Same) m.slot) test

      not_taken : (x : ℕ) (v : ℕ) → context_word_of (m.context id.number) ≡ Taken x v → ⊥
      not_taken x v q = let no : Empty ≡ Taken x v = sym empty ∙ q in absurd cc

      apart : i ≢ id.number
      apart q =
          not_taken c (version_held k) (ap (λ z. context_word_of (m.context z)) (sym q)
          ∙ ap (λ z. context_word_of (m.context z)) (sym mine) ∙ sh.places.taken c k was)

      first : AreInPlace m.context m.slot Maps.hand
      first = places_held m.context m.slot m.hand c k _ was (sym mine) sh.places (sym held)

      there : Slots id.number ≡ Resting New
      there = upd_same m.slot id.number (Resting New)

      places : AreInPlace Words Slots Maps.hand
      places =
          rest_changed m.context m.slot Maps.hand id.number (Clean id.version) (Resting New) first not_taken version
          (subst (λ (z : Slot). Rests z false id.version) (sym there) (refl, refl))

      found : (j : ℕ) → context_in Maps.context Maps.slot Maps.hand j ≡ context_in Words Slots Maps.hand j
      found j = λ e. context_in (words_are e) (slots_are e) Maps.hand j

      other : (j : ℕ) → j ≢ id.number → context_in Maps.context Maps.slot Maps.hand j ≡ context_in m.context m.slot Maps.hand j
      other j ne =
          found j ∙ rest_others m.context m.slot Maps.hand id.number (Clean id.version) (Resting New) first not_taken j ne

      new_there : context_in Maps.context Maps.slot Maps.hand id.number ≡ Some New
      new_there =
          found id.number ∙ rest_this m.context m.slot Maps.hand id.number (Clean id.version)
          (Resting New) first not_taken version ∙ ap resting_in there

      next : id.version ≡ (After.seen id.number).word.version + 1
      next =
          let whole : id.version ≡ (id.version - 1) + 1 = omega (arith, version.born) in
          whole ∙ ap (λ (w : StateWord). w.version + 1) (sym dead)

      some_is : {x y : ContextSeen} → Some x ≡ Some y → x ≡ y
      some_is e = cc

      in_hand : hand_of L ≡ trimmed (locks_of call P) On
      in_hand = hand ∙ ap (λ p. held_on b (locks_at p)) at ∙ steps.held_is b call P

      shows : Shows script Maps After
      shows =
          both_shown script m b After c i Asked (hand_after call (trimmed (locks_of call P) On) P asks.Released)
          (goods_found m (step_for Asked nothing)) k G sh locks was mine fit Then call.caller
          (create_at call (leads call On P asks.Placed)) X.own None None (upd b.context id.number Y) id.number Y
          (subst (λ (z : ℕ → ℕ). AreInPlace z Maps.slot Maps.hand) (sym words_are)
          (subst (λ (z : ℕ → Slot). AreInPlace Words z Maps.hand) (sym slots_are) places))
          (other i apart ∙ ap (context_in m.context m.slot Maps.hand) (sym mine)
          ∙ this_held m.context m.slot m.hand c k _ was (sym mine) sh.places)
          (λ j ne nn. other j nn ∙ others_held m.context m.slot m.hand c k _ was (sym mine) sh.places j (λ q. ne (q ∙ mine)))
          apart (λ j ne. refl) (upd_same b.context id.number Y) (λ j ne. upd_other b.context id.number Y j ne)
          (subst (λ (o : Option ContextSeen). ShowsContext (After.seen id.number).word id.number o Y) (sym new_there)
          (new_shown script call id (After.seen id.number).word next))
          (λ z q. subst (λ (y : ContextSeen). HoldsGoods After y Coming) (some_is (sym new_there ∙ q)) refl)
          num ver refl refl refl
          (subst (λ (z : At). Goes b After Asked (locks_at z) Then.activity Then.own
          (create_at call (leads call On P asks.Placed)) X.own
          (hand_after call (trimmed (locks_of call P) On) P asks.Released) None None (Unit {0})) (sym at)
          (steps.goes_on script m b c i call L n d own k sh locks was mine fit at refl in_hand refl))
          (record { size = refl; seen = refl; owns = (refl, refl, refl); context = refl })
