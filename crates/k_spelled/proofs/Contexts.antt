-- What is so of what each thread on a board asks for, is so of what a made thread's raw context asks for, its
-- next call begun.
use Rattle.std.proofs.Common.{◌≡◌, ℕ, true, refl, sym, ap, ◌∙◌, subst, List, Option}
use Rattle.std.proofs.lemmas.Bool.{eq-eqb}
use Rattle.k_ids.specs.declared.calls.Phase.{Phase}
use Rattle.k_ids.specs.declared.calls.Phase.TheVariants as phase
use Rattle.k_ids.specs.declared.calls.Reply.{Reply}
use Rattle.k_ids.specs.declared.histories.Entry.{Entry}
use Rattle.k_ids.specs.declared.state_word.StateWord.{StateWord}
use Rattle.k_ids.specs.declared.threads.ThreadId.{ThreadId}
use Rattle.k_model.specs.State.{KernelState}
use Rattle.k_model.proofs.Maps.{upd_same}
use Rattle.k_locks.specs.Asks.{Ask}
use Rattle.k_script.specs.Limits.{IsScript}
use Rattle.k_script.specs.Plays.{Position, next_of, went_on}
use Rattle.k_script.specs.Script.{Script}
use Rattle.k_script.specs.declared.registers.Next.{Next}
use Rattle.k_script.specs.declared.registers.Next.TheVariants as next
use Rattle.k_caller.specs.declared.activity.Activity.{Activity}
use Rattle.k_caller.specs.declared.activity.Activity.TheVariants as activity
use Rattle.k_caller.specs.declared.thread.ThreadLocation.TheVariants as location
use Rattle.k_caller.specs.Activities.{section_own}
use Rattle.k_caller.specs.Threads.{ThreadSeen, begun_by, begun_next}
use Rattle.k_caller.specs.Threads as threads
use Rattle.k_context.specs.Contexts.{Thread}
use Rattle.k_board.specs.Words.{Programs}
use Rattle.k_board.specs.Boards.{Alone, At, Board, Context, id_at}
use Rattle.k_board.specs.Steps.{begun as begun_context, begun_at, placed, working}
use Rattle.k_board.specs.Turns.{Turn, begins, turns_to_work}
use Rattle.k_good.specs.Ranges.{is_threads}
use Rattle.k_plays.specs.Scripts.{ranged_programs}
use Rattle.k_invariant.specs.Invariant.{BoardHolds}
use Rattle.k_invariant.proofs.Keeps.{goes_on}
use Rattle.k_places.specs.Contexts.{IsShown, at_in}
use Rattle.k_turns.specs.Spelled.{ask_at, ask_in}
use Rattle.k_kernel.proofs.Agreeing.{agree_here}
use Rattle.k_spelled.specs.Asks.{ask_on}
use Rattle.k_spelled.specs.Words.{WordsHold}
use Rattle.k_spelled.proofs.Moves.{turn_words}

-- WHAT IS ASKED, of a raw context and of a board's

asks_same : (me : ThreadId) (own : StateWord) (a : Activity) →
    ask_on me (section_own own a) (at_in a) ≡ ask_in me own a
asks_same me own (activity.Alone p) = refl
asks_same me own (activity.Send s) = refl
asks_same me own (activity.Receive s) = refl
asks_same me own (activity.Create s) = refl
asks_same me own (activity.Destroy s) = refl

about_threads : (a : Activity) → is_threads (at_in a) ≡ true
about_threads (activity.Alone p) = refl
about_threads (activity.Send s) = refl
about_threads (activity.Receive s) = refl
about_threads (activity.Create s) = refl
about_threads (activity.Destroy s) = refl

-- where a thread stands once it begins what comes next
abbrev next_on : ℕ → ThreadId → Next → At
next_on size me (next.Phase f) = begun_at size me f
next_on size me (next.Work count) = Alone (location.Work count)

begun_threads : (size : ℕ) (me : ThreadId) (f : Phase) → is_threads (begun_at size me f) ≡ true
begun_threads size me (phase.Send to message soon joined) = refl
begun_threads size me (phase.Reply to message soon) = refl
begun_threads size me (phase.Receive from soon) = refl
begun_threads size me (phase.Create program priority) = refl
begun_threads size me (phase.Destroy who) = refl
begun_threads size me phase.End = refl

-- at the first location of a call
begun_asks : (size : ℕ) (me : ThreadId) (own : StateWord) (f : Phase) →
    ask_on me own (begun_at size me f) ≡ ask_in me own (begun_by size me own f)
begun_asks size me own (phase.Send to message soon joined) = refl
begun_asks size me own (phase.Reply to message soon) = refl
begun_asks size me own (phase.Receive from soon) = refl
begun_asks size me own (phase.Create program priority) = refl
begun_asks size me own (phase.Destroy who) = refl
begun_asks size me own phase.End = refl

next_asks : (size : ℕ) (t : ThreadSeen) (n : Next) →
    ask_on t.id t.own (next_on size t.id n) ≡ ask_at (Thread (begun_next size t n))
next_asks size t (next.Phase f) = begun_asks size t.id t.own f
next_asks size t (next.Work count) = refl

-- `P` is what is so of what each thread asks for, on any board on which the invariant and the words hold.
module _ (script : Script) (limits : IsScript script) (P : Ask → Type 0)
    (holds : (b : Board) (es : List Entry) (k : KernelState) → BoardHolds script b es k → WordsHold b →
    (i : ℕ) →
    is_threads (b.context i).at ≡ true → P (ask_on (id_at b i) (b.context i).own (b.context i).at))
    (b : Board) (es : List Entry) (k : KernelState) (h : BoardHolds script b es k) (words : WordsHold b)
    (i : ℕ) where
  abbrev X : Context
  X = b.context i

  abbrev G : Programs
  G = ranged_programs script

  -- once a thread has begun what comes next, it stands so on another board
  placed_asks : (y : Context) → Turn G b i (placed b i y) → is_threads y.at ≡ true →
      P (ask_on (id_at b i) y.own y.at)
  placed_asks y t th =
      let after = goes_on script limits b es k h i (placed b i y) t in
      subst (λ (z : Context). P (ask_on (id_at b i) z.own z.at)) (upd_same b.context i y)
      (holds (placed b i y) _ after.new after.holds
      (turn_words script limits b es k h words i (placed b i y) t) i
      (ap (λ (z : Context). is_threads z.at) (upd_same b.context i y) ∙ th))

  begun_holds : (last : Option Reply) (n : Next) → X.at ≡ Alone (location.Between last) →
      G.next X.position last ≡ n →
      P (ask_on (id_at b i) X.own (next_on b.size (id_at b i) n))
  begun_holds last (next.Phase f) at e =
      placed_asks (begun_context G X last (begun_at b.size (id_at b i) f)) (begins last f at e)
      (begun_threads b.size (id_at b i) f)
  begun_holds last (next.Work count) at e = placed_asks (working G X last count)
      (turns_to_work last count at e) refl

  -- a thread that is made, and that the board's context shows
  module _ (t : ThreadSeen) (shown : IsShown (b.seen i).word i t X)
      (made : (b.seen i).word.version ≡ t.id.version) where
    pub me_is : id_at b i ≡ t.id
    me_is = λ d. record { number = sym shown.number d; version = made d }

    own_is : X.own ≡ section_own t.own t.activity
    own_is = ap (λ (z : Context). z.own) shown.context

    pub stands : X.at ≡ at_in t.activity
    stands =
        ap (λ (z : Context). z.at) shown.context
        ∙ rw (eq-eqb (b.seen i).word.version t.id.version made) refl

    as_it_is : P (ask_in t.id t.own t.activity)
    as_it_is =
        subst P ((λ d. ask_on (me_is d) (own_is d) (stands d)) ∙ asks_same t.id t.own t.activity)
        (holds b es k h words i (ap is_threads stands ∙ about_threads t.activity))

    abbrev Began : Option Reply → Next → ThreadSeen
    Began last n = begun_next script.table (record t { position = went_on t.position last }) n

    next_holds : (last : Option Reply) → t.activity ≡ activity.Alone (location.Between last) → (n : Next) →
        next_of script.version t.position last ≡ n → P (ask_at (Thread (Began last n)))
    next_holds last e n q =
        let at : X.at ≡ Alone (location.Between last) = stands ∙ ap at_in e in
        let position : X.position ≡ t.position = ap (λ (z : Context). z.position) shown.context in
        let gives : G.next X.position last ≡ n =
        agree_here script limits b es k h i last at ∙ ap (λ (p : Position). next_of script.version p last)
        position ∙ q in
        let own : X.own ≡ t.own = own_is ∙ ap (section_own t.own) e in
        subst P ((λ d. ask_on (me_is d) (own d) (next_on (h.size d) (me_is d) n))
        ∙ next_asks script.table (record t { position = went_on t.position last }) n)
        (begun_holds last n at gives)

    begun_at_holds : (a : Activity) → t.activity ≡ a → P (ask_at (Thread (threads.begun_at script t a)))
    begun_at_holds (activity.Alone (location.Between last)) e =
        next_holds last e (next_of script.version t.position last) refl
    begun_at_holds a e = as_it_is

    pub thread_holds : P (ask_at (Thread (threads.begun script t)))
    thread_holds = begun_at_holds t.activity refl
