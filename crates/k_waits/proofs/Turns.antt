-- The step of a context that is about something comes to exactly one turn, which is the context's next step on the board.
use Rattle.std.proofs.Common.{◌≡◌, ℕ, ◌==◌, true, false, refl, sym, ap, ◌∙◌, subst, Option, Some, None}
use Rattle.k_script.specs.Limits.{IsScript}
use Rattle.k_ids.specs.declared.histories.Entry.{Entry}
use Rattle.k_script.specs.Script.{Script}
use Rattle.k_caller.specs.declared.activity.Activity.{Activity}
use Rattle.k_caller.specs.declared.activity.Activity.TheVariants as activity
use Rattle.k_caller.specs.declared.thread.ThreadLocation.TheVariants as location
use Rattle.k_caller.specs.Activities as about
use Rattle.k_caller.specs.Threads.{ThreadSeen, begun_at}
use Rattle.k_caller.specs.Threads as threads
use Rattle.k_switch.specs.declared.carrier_context.CarrierContext.{CarrierContext}
use Rattle.k_switch.specs.declared.switch.Switch.{Switch}
use Rattle.k_switch.specs.Carriers as carriers
use Rattle.k_switch.specs.Switches as switch
use Rattle.k_context.specs.Contexts.{ContextSeen, Thread, Carrier, begun, can_ask}
use Rattle.k_carrier.specs.Seen.{HandSeen}
use Rattle.k_board.specs.Boards.{Board, Context, InSwitch}
use Rattle.k_board.specs.Turns.{Turn}
use Rattle.k_board.specs.Words.{Programs}
use Rattle.k_good.specs.Locks.{locks_at}
use Rattle.k_places.specs.Contexts.{IsShown, ShowsContext, at_in, held_on, programs_of, switch_at}
use Rattle.k_places.specs.Contexts.{switch_hand}
use Rattle.k_places.specs.Memory.{Memory}
use Rattle.k_places.specs.Asks.{IsAskFit}
use Rattle.k_places.specs.Shows.{Shows, context_in}
use Rattle.k_places.proofs.Places.{held_is, version_held}
use Rattle.k_turns.specs.Needs.{Needs}
use Rattle.k_turns.specs.Sections.{Comes, Turns, more, none, section_entry, section_maps}
use Rattle.k_turns.specs.Spelled.{IsSpelled, ask_at, ask_in, ask_of_switch}
use Rattle.k_turns.proofs.Comes.{made_test, needs_met, thread_comes, usual_fit}
use Rattle.k_joint.specs.Ready.{IsReady}
use Rattle.k_joint.proofs.SwitchSteps.{switch_steps, usual as switch_usual}
use Rattle.k_plays.specs.Scripts.{ranged_programs}
use Rattle.k_invariant.specs.Invariant.{Holds}
use Rattle.k_invariant.proofs.Waits.{kept}
use Rattle.k_kernel.proofs.Agreeing.{agree_here}
use Rattle.k_kernel.proofs.Turns.{other_turn}
use Rattle.k_sections.proofs.Tables.{ThreadTables}
use Rattle.k_sections.proofs.Turned.{turn_steps}
use Rattle.k_waits.specs.Steps.{IsInside, StepsTo}
use Rattle.k_waits.specs.Waits.{no_call}

module _ (script : Script) (m : Memory) (b : Board) (c : ℕ) (k : HandSeen) (sh : Shows script m b) (was : m.hand c ≡ Some k)
    (ready : IsReady script b k.context k.value) (inside : IsInside (b.context k.context).at) where
  abbrev I : ℕ
  I = k.context

  abbrev X : Context
  X = b.context I

  abbrev Result : ContextSeen → Type 0
  Result v = Comes script (programs_of script) I 1 b (section_maps script m c I v) (section_entry m I v)

  found : context_in m.context m.slot m.hand I ≡ Some k.value
  found = held_is m.context m.slot m.hand c k sh.places was

  needs : Needs script b X.at
  needs = needs_met script b I X X.at ready.facts

  module _ (t : ThreadSeen) (is : k.value ≡ Thread t) where
    shown : IsShown (b.seen I).word I t X
    shown = subst (λ (o : Option ContextSeen). ShowsContext (b.seen I).word I o X) (found ∙ ap Some is) (sh.contexts I)

    ready_thread : IsReady script b I (Thread t)
    ready_thread = subst (IsReady script b I) is ready

    goes_on : threads.begun script t ≡ t → Result (begun script k.value)
    goes_on same =
        subst Result (ap Thread (sym same) ∙ ap (begun script) (sym is))
        (thread_comes script m b c I k t sh ready.locks was refl is ready.made needs
        (subst (λ (z : ThreadSeen). threads.can_ask z ≡ true) same ready_thread.asks)
        (subst (λ (z : ThreadSeen). IsSpelled script.table (ask_in z.id z.own z.activity)) same ready_thread.spelled)
        (subst (λ (z : ThreadSeen). about.IsSoundAt z.id z.own z.activity) same ready_thread.sound.doing))

    -- where it stands
    at : X.at ≡ at_in t.activity
    at =
        let ver = made_test (b.seen I).word t ((b.seen I).word.version == t.id.version) refl
        (λ q. ready.made (ap (λ (z : Context). z.at) shown.context ∙ q)) in
        ap (λ (z : Context). z.at) shown.context ∙ rw ver refl

    by_doing : (a : Activity) → t.activity ≡ a → Result (begun script k.value)
    by_doing (activity.Alone (location.Between last)) e = absurd (inside (location.Between last) (at ∙ ap at_in e))
    by_doing a e = goes_on (ap (begun_at script t) e)

  -- a switch
  switch_on : (z : CarrierContext) → k.value ≡ Carrier z → (o : Option Switch) → z.switch ≡ o → Result (begun script k.value)
  switch_on z is None e =
      let no : false ≡ true = sym (ap carriers.can_ask_in e)
      ∙ subst (λ (v : ContextSeen). can_ask (begun script v) ≡ true) is ready.asks in absurd cc
  switch_on z is (Some s) e =
      subst Result (ap Carrier same ∙ ap (begun script) (sym is))
      (switch_steps script m b c I s.call s.location z.carrier z.serial z.done
      k sh ready.locks was refl fit at can hand held)
    where
      same : record { carrier = z.carrier; serial = z.serial; done = z.done; switch = Some s } ≡ z
      same = λ d. record { carrier = z.carrier; serial = z.serial; done = z.done; switch = sym e d }

      at : X.at ≡ InSwitch s.call (switch.at_of s.location)
      at =
          subst (λ (o : Option ContextSeen). ShowsContext (b.seen I).word I o X) (found ∙ ap Some is) (sh.contexts I)
          ∙ ap switch_at e

      can : switch.can_ask s.location ≡ true
      can = sym (ap carriers.can_ask_in e) ∙ subst (λ (v : ContextSeen). can_ask (begun script v) ≡ true) is ready.asks

      hand : switch.hand_of s.location ≡ held_on b (locks_at X.at)
      hand = sym (ap switch_hand e) ∙ sh.goods.hands I (Carrier z) (found ∙ ap Some is)

      held : version_held k ≡ 1
      held = ap (λ (v : ContextSeen). version_held (record { context = I; value = v })) is

      fit : IsAskFit m b (switch.ask_of s.call (switch.at_of s.location))
      fit =
          usual_fit m b _ sh.size (switch_usual s.call (switch.at_of s.location))
          (subst (λ (o : Option Switch). IsSpelled script.table (ask_of_switch o)) e
          (subst (λ (v : ContextSeen). IsSpelled script.table (ask_at (begun script v))) is ready.spelled))

  -- what the context in hand is
  pub comes_once : Result (begun script k.value)
  comes_once = by k.value refl
    where
      by : (v : ContextSeen) → k.value ≡ v → Result (begun script k.value)
      by (Thread t) e = by_doing t e t.activity refl
      by (Carrier z) e = switch_on z e z.switch refl

one_turn : (g : Programs) (i : ℕ) (b c : Board) → Turns g i 1 b c → Turn g b i c
one_turn g i b c (more _ _ _ t (none _)) = t

module _ (tables : ThreadTables) (script : Script) (limits : IsScript script) where
  pub steps_to : (m : Memory) (b : Board) (i : ℕ) (made : Option Entry) → Holds script b →
      Comes script (programs_of script) i 1 b m made → StepsTo script m b i
  steps_to m b i made h comes =
      let g = ranged_programs script in
      let own = one_turn (programs_of script) i b comes.board comes.turns in
      let other = other_turn (programs_of script) g.next b i (agree_here script limits b h.entries h.state h.holds i)
      comes.board own in
      record {
        board = comes.board;
        turn = other.turn;
        step = turn_steps tables g (λ z n. no_call) b h.holds.proper.good.locks i comes.board other.turn;
        shows = comes.shows;
        holds = (kept script limits).kept b comes.board i h other.turn;
      }
