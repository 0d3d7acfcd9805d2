-- A create places the context of a new thread, and makes the thread: the board after it is shown.
use Rattle.std.proofs.Common.{◌≡◌, ◌≢◌, ℕ, ◌+◌, ◌≤◌, ◌==◌, Bool, true, false, refl}
use Rattle.std.proofs.Common.{sym, ap, ◌∙◌, subst, Option, Some, None, arith}
use Rattle.std.specs.Prelude.{◌-◌}
use Rattle.std.proofs.lemmas.Bool.{eq-eqb}
use Rattle.k_ids.specs.declared.state_word.StateWord.{StateWord}
use Rattle.k_ids.specs.declared.threads.ThreadId.{ThreadId}
use Rattle.k_locks.specs.declared.points.Point.{Point}
use Rattle.k_locks.specs.declared.steps.Answer.{Answer}
use Rattle.k_locks.specs.Asks.{Ask, Response, response_of, step_for}
use Rattle.k_locks.specs.Asks as asks
use Rattle.k_locks.specs.Hands.{Hand, nothing, trimmed}
use Rattle.k_locks.specs.Numbers.{ThreadNumbers}
use Rattle.k_locks.specs.Steps.{is_again}
use Rattle.k_locks.proofs.Responses.{again_heard}
use Rattle.k_model.proofs.Maps.{upd_other, upd_same}
use Rattle.k_switch.specs.declared.switch.Switch.{Switch}
use Rattle.k_script.specs.Script.{Script}
use Rattle.k_threads.specs.declared.create.CreateCall.{CreateCall}
use Rattle.k_threads.specs.declared.create.CreateLocation.{CreateLocation}
use Rattle.k_threads.specs.declared.create.CreateLocation.TheVariants as location
use Rattle.k_threads.specs.declared.create.CreateLocked.TheVariants as locked
use Rattle.k_threads.specs.CreateTable.{CreateAt, Locked, hand_after, hand_of, leads, locks_of, points}
use Rattle.k_threads.specs.Words.{created_word, dead_word}
use Rattle.k_caller.specs.declared.thread.ThreadLocation.TheVariants as between
use Rattle.k_caller.specs.Threads.{ThreadSeen}
use Rattle.k_context.specs.Contexts.{ContextSeen, Thread, Carrier}
use Rattle.k_carrier.specs.Moves.{Section}
use Rattle.k_carrier.specs.Seen.{HandSeen}
use Rattle.k_board.specs.Words.{Programs, Seen, noted}
use Rattle.k_board.specs.Boards.{Alone, At, Board, Coming, Context, InCreate, Nowhere}
use Rattle.k_board.specs.Steps.{Answers, create_at, create_contexts, new_context, wrote}
use Rattle.k_board.specs.Turns.{creates}
use Rattle.k_good.specs.Locks.{LocksHold, locks_at}
use Rattle.k_places.specs.Contexts.{HoldsGoods, ShowsContext, at_in, held_on, programs_of, switch_at, thread_shown}
use Rattle.k_places.specs.Memory.{Memory, moved_maps}
use Rattle.k_places.specs.Asks.{IsAskFit}
use Rattle.k_turns.specs.Sections.{Comes, more, none, section_entry, section_maps}
use Rattle.k_turns.proofs.Entries.{entry_told}
use Rattle.k_places.specs.Answers.{entry_in, goods_found}
use Rattle.k_places.specs.Shows.{Shows, context_in}
use Rattle.k_turns.proofs.CreateSteps as steps
use Rattle.k_places.proofs.Goes.{Goes}
use Rattle.k_places.proofs.Ledgers.{alike_noted}
use Rattle.k_places.proofs.Places.{version_held}
use Rattle.k_places.proofs.Steps.{other_usual, places_usual, this_usual}
use Rattle.k_places.proofs.Threads.{both_shown}
use Rattle.k_places.proofs.Words.{step_finds}

-- THE EXCHANGE THAT MAKES A THREAD

-- an exchange is won where the word is the expected one
pub won_is : (b : Board) (n : ℕ) (old new : StateWord) (r : Response) → Answers b (asks.Exchange n old new) r →
    (b.seen n).word ≡ old → r ≡ asks.Won
won_is b n old new asks.Won an e = refl
won_is b n old new (asks.Lost w) an e = absurd (an.1 (sym an.0 ∙ e))
won_is b n old new r an e = absurd an

-- it leaves the other words
exchange_other : (b : Board) (s : ℕ → Seen) (n : ℕ) (old new : StateWord) (r : Response) → Answers b (asks.Exchange n old new) r →
    (j : ℕ) → j ≢ n → (wrote s (asks.Exchange n old new) r j).word ≡ (s j).word
exchange_other b s n old new asks.Won an j ne = ap (λ (v : Seen). v.word) (upd_other s n _ j ne)
exchange_other b s n old new (asks.Lost w) an j ne = refl
exchange_other b s n old new r an j ne = absurd an

-- THE CONTEXT OF A NEW THREAD

never_switch : (s : Option Switch) → Coming ≡ switch_at s → ⊥
never_switch None q = absurd cc
never_switch (Some z) q = absurd cc

-- it shows the same once its thread is made
arrives : (script : Script) (c : CreateCall) (id : ThreadId) (w w' : StateWord) (n : ℕ) (o : Option ContextSeen) (y : Context) →
    ShowsContext w n o y → y ≡ new_context (programs_of script) c id Coming → w'.version ≡ w.version + 1 →
    ShowsContext w' n o (new_context (programs_of script) c id (Alone (between.Between None)))
arrives script c id w w' n None y h e v = let no : Coming ≡ Nowhere = sym (ap (λ (z : Context). z.at) e) ∙ h in absurd cc
arrives script c id w w' n (Some (Carrier k)) y h e v = absurd (never_switch k.switch (sym (ap (λ (z : Context). z.at) e) ∙ h))
arrives script c id w w' n (Some (Thread t)) y h e v = record {
  number = h.number;
  coming = λ q. absurd cc;
  context =
      λ d. record {
        serial = (sym (ap (λ (z : Context). z.serial) e) ∙ ap (λ (z : Context). z.serial) h.context) d;
        own = (sym (ap (λ (z : Context). z.own) e) ∙ ap (λ (z : Context). z.own) h.context) d;
        position = (sym (ap (λ (z : Context). z.position) e) ∙ ap (λ (z : Context). z.position) h.context) d;
        at = stands d;
      };
}
  where
    made : (w'.version == t.id.version) ≡ true
    made = eq-eqb w'.version t.id.version (v ∙ sym (h.coming (ap (λ (z : Context). z.at) e)).version)

    stands : Alone (between.Between None) ≡ (thread_shown w' t).at
    stands = sym (rw made (ap at_in (h.coming (ap (λ (z : Context). z.at) e)).doing))

-- THE STEP THAT MAKES IT

module _ (script : Script) (m : Memory) (b : Board) (c i : ℕ) (call : CreateCall) (id : ThreadId) (numbers : ThreadNumbers)
    (n d : ℕ) (own : StateWord) (k : HandSeen) (sh : Shows script m b) (locks : LocksHold b.owner b.table b.ready b.context)
    (was : m.hand c ≡ Some k) (mine : k.context ≡ i) where
  abbrev L : CreateLocation
  L = location.Locked (locked.CommitCreate id) numbers

  abbrev X : Context
  X = b.context i

  abbrev Asked : Ask
  Asked = steps.A script m b c i call L n d own k sh locks was mine

  abbrev Heard : Response
  Heard = steps.R script m b c i call L n d own k sh locks was mine

  abbrev Told : Answer
  Told = steps.An script m b c i call L n d own k sh locks was mine

  abbrev After : Board
  After = steps.After script m b c i call L n d own k sh locks was mine

  abbrev T : ThreadSeen
  T = steps.T script m b c i call L n d own k sh locks was mine

  abbrev Then : Bool → ThreadSeen
  Then q = steps.Then script m b c i call L n d own k sh locks was mine q

  abbrev Point_then : Option Point
  Point_then = steps.Raw_point script m b c i call L n d own k sh locks was mine

  abbrev G : Programs
  G = programs_of script

  abbrev P : CreateAt
  P = Locked (locked.CommitCreate id)

  abbrev On : Hand
  On = steps.On script m b c i call L n d own k sh locks was mine

  abbrev maps : ThreadSeen → Memory
  maps t =
      moved_maps script m c i (Section (step_for Asked nothing)) (Some (record { context = i; value = Thread t }))
      (entry_in m.serial Point_then)

  abbrev Y : Context
  Y = new_context G call id (Alone (between.Between None))

  pub create_commits : IsAskFit m b Asked → X.at ≡ InCreate call (Locked (locked.CommitCreate id)) →
      hand_of L ≡ held_on b (locks_at X.at) → version_held k ≡ call.caller.version → call.caller.number ≡ i →
      ((b.seen i).word.version == call.caller.version) ≡ true → (b.seen id.number).word ≡ dead_word (id.version - 1) →
      b.context id.number ≡ new_context G call id Coming → 1 ≤ id.version →
      Comes script G i 1 b (section_maps script m c i (Thread T)) (section_entry m i (Thread T))
  create_commits fit at hand held num ver dead arriving born = record {
    board = After;
    turns = more b After After (creates call (Locked (locked.CommitCreate id)) Heard at an) (none After);
    shows = by (is_again Told) refl;
    entries =
        entry_told b m.serial sh.serials Point_then (points call (b.seen i).word On P Heard)
        (steps.goes_on script m b c i call L n d own k sh locks was mine fit at refl in_hand na).point;
  }
    where
      an : Answers b Asked Heard
      an =
          step_finds m b Asked (steps.Goes_home script m b c i call L n d own k sh locks was mine)
          (goods_found m (step_for Asked nothing)) sh.seen sh.owners fit

      won : Heard ≡ asks.Won
      won = won_is b id.number (dead_word (id.version - 1)) (created_word id.version call.priority) Heard an dead

      na : is_again Told ≡ false
      na = again_heard Asked Told ∙ ap asks.is_again won

      in_hand : hand_of L ≡ trimmed (locks_of call (Locked (locked.CommitCreate id)))
          (steps.On script m b c i call L n d own k sh locks was mine)
      in_hand = hand ∙ ap (λ p. held_on b (locks_at p)) at ∙ steps.held_is b call (Locked (locked.CommitCreate id))

      apart : i ≢ id.number
      apart q =
          let no : InCreate call (Locked (locked.CommitCreate id)) ≡ Coming =
          sym at ∙ ap (λ z. (b.context z).at) q ∙ ap (λ (z : Context). z.at) arriving in absurd cc

      versions : (j : ℕ) → j ≢ id.number → (After.seen j).word.version ≡ (b.seen j).word.version
      versions j ne =
          ap (λ (w : StateWord). w.version) (exchange_other b _ id.number (dead_word (id.version - 1))
          (created_word id.version call.priority) Heard an j ne ∙ (alike_noted G b.seen X.position _).word j)

      noted_here : ℕ → Seen
      noted_here = noted G b.seen X.position (points call (b.seen i).word On P Heard)

      version_n : (After.seen id.number).word.version ≡ (b.seen id.number).word.version + 1
      version_n =
          let next : id.version ≡ (id.version - 1) + 1 = omega (arith, born) in
          ap (λ r. (wrote noted_here Asked r id.number).word.version) won
          ∙ ap (λ (v : Seen). v.word.version) (upd_same noted_here id.number _) ∙ next
          ∙ ap (λ (w : StateWord). w.version + 1) (sym dead)

      contexts : ℕ → Context
      contexts = create_contexts G call P Heard b.context

      there : contexts id.number ≡ Y
      there = ap (λ r. create_contexts G call P r b.context id.number) won ∙ upd_same b.context id.number Y

      others : (j : ℕ) → j ≢ id.number → contexts j ≡ b.context j
      others j ne = ap (λ r. create_contexts G call P r b.context j) won ∙ upd_other b.context id.number Y j ne

      version_held_is : version_held (record { context = i; value = Thread (Then false) }) ≡ version_held k
      version_held_is = sym held

      words_same : (maps (Then false)).context ≡ m.context
      words_same = refl

      slots_same : (maps (Then false)).slot ≡ m.slot
      slots_same = refl

      found_n : context_in (maps (Then false)).context (maps (Then false)).slot (maps (Then false)).hand id.number ≡
          context_in m.context m.slot m.hand id.number
      found_n =
          other_usual script m b After c i Asked nothing (goods_found m (step_for Asked nothing)) k
          (Thread (Then false)) Point_then X G X.position sh locks was mine fit words_same slots_same version_held_is id.number
          (λ q. apart (sym q))

      holds : (z : ContextSeen) → context_in (maps (Then false)).context (maps (Then false)).slot
          (maps (Then false)).hand id.number ≡ Some z → HoldsGoods After z Y.at
      holds z q = sh.goods.hands id.number z (sym found_n ∙ q) ∙ ap (λ (w : Context). held_on b (locks_at w.at)) arriving

      by : (q : Bool) → is_again Told ≡ q → Shows script (maps (Then q)) After
      by true e = let no : true ≡ false = sym e ∙ na in absurd cc
      by false e =
          both_shown script m b After c i Asked (hand_after call (trimmed (locks_of call P) On) P asks.Released)
          (goods_found m (step_for Asked nothing)) k G sh locks was mine fit (Then false) call.caller
          (create_at call (leads call On P Heard)) X.own Point_then (points call (b.seen i).word On P Heard) contexts id.number Y
          (places_usual script m b After c i Asked nothing (goods_found m (step_for Asked nothing)) k
          (Thread (Then false)) Point_then X G X.position sh locks was mine fit words_same slots_same version_held_is)
          (this_usual script m b After c i Asked nothing (goods_found m (step_for Asked nothing)) k
          (Thread (Then false)) Point_then X G X.position sh locks was mine fit words_same slots_same version_held_is)
          (λ j ne nn. other_usual script m b After c i Asked nothing (goods_found m (step_for Asked nothing)) k
          (Thread (Then false)) Point_then X G X.position sh locks was mine fit words_same slots_same version_held_is j ne)
          apart versions there others
          (arrives script call id (b.seen id.number).word (After.seen id.number).word id.number _ (b.context id.number)
          (subst (λ (o : Option ContextSeen). ShowsContext (b.seen id.number).word id.number o (b.context id.number))
          (sym found_n) (sh.contexts id.number)) arriving version_n)
          holds num ver refl refl refl
          (subst (λ (z : At). Goes b After Asked (locks_at z) (Then false).activity (Then false).own
          (create_at call (leads call On P Heard)) X.own (hand_after call
          (trimmed (locks_of call P) On) P asks.Released) Point_then (points call (b.seen i).word On P Heard) (Unit {0}))
          (sym at) (steps.goes_on script m b c i call L n d own k sh locks was mine fit at refl in_hand e))
          (record { size = refl; seen = refl; owns = (refl, refl, refl); context = refl })
