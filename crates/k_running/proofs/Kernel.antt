-- A move of a carrier keeps the kernel, whatever it asks for.
use Rattle.std.proofs.Common.{◌≡◌, ℕ, ◌<◌, refl, sym, ◌∙◌, subst, Some, length, inl, inr}
use Rattle.k_model.specs.State.{KernelState}
use Rattle.k_script.specs.Limits.{IsScript}
use Rattle.k_script.specs.Script.{Script}
use Rattle.k_caller.specs.Threads.{ThreadSeen}
use Rattle.k_switch.specs.declared.carrier_context.CarrierContext.{CarrierContext}
use Rattle.k_context.specs.Contexts.{Carrier, ContextSeen, IsSound, Thread}
use Rattle.k_carrier.specs.Asked.{CarrierAsk, LookAt, PutDown, Run, Take, ask_of}
use Rattle.k_carrier.specs.Seen.{CarrierSeen, HandSeen}
use Rattle.k_world.specs.Lawful.{IsLawfulLog}
use Rattle.k_world.specs.Steps.{moved}
use Rattle.k_world.specs.Worlds.{World, carrier_at}
use Rattle.k_world.proofs.Worlds.{lawful_moved, sized_moved}
use Rattle.k_board.specs.Boards.{Board}
use Rattle.k_board.specs.Turns.{Turn}
use Rattle.k_plays.specs.Scripts.{programs_of, ranged_programs}
use Rattle.k_places.specs.Memory.{Memory, memory_of}
use Rattle.k_places.proofs.Places.{held_is}
use Rattle.k_turns.specs.Sections.{Turns}
use Rattle.k_joint.proofs.Runs.{hand_is, hand_of_run}
use Rattle.k_tokens.specs.World.{ContextName, OfThread}
use Rattle.k_tokens.specs.World as tokens
use Rattle.k_whole.specs.Whole.{WholeHolds}
use Rattle.k_kernel.specs.Moves.{HasRoom, IsRunnable}
use Rattle.k_kernel.specs.Serials.{SerialsHold}
use Rattle.k_kernel.specs.Worlds.{WorldHolds}
use Rattle.k_aligned.specs.Aligned.{found_in}
use Rattle.k_spelled.specs.Words.{WordsHold}
use Rattle.k_handling.specs.Handling.{AreMatched, HelpsWithin, IsHandled, IsKernel, IsTurned}
use Rattle.k_counted.specs.Marks.{MarksHold}
use Rattle.k_conditions.specs.Stays.{AllSound}
use Rattle.k_running.specs.Running.{KernelHolds}
use Rattle.k_running.specs.Threads.{HasRun}
use Rattle.k_running.proofs.Threads.{has_run}

-- as k_handling has it
abbrev pub kernel_of : (script : Script) (w : World) (h : KernelHolds script w) → IsKernel script w h.board h.view h.state
kernel_of script w h = record { aligned = h.aligned; helps = h.helps; whole = h.whole; serials = h.serials }

abbrev pub world_of : (script : Script) (w : World) → KernelHolds script w → WorldHolds script w
world_of script w h = record {
  board = h.board;
  state = h.state;
  shows = h.aligned.shows;
  holds = h.whole.holds;
  serials = h.serials;
}

-- after a move: all but that carriers and contexts are sound
pub record HasMoved (script : Script) (w : World) : Type 0 where
  pub board : Board
  pub view : tokens.World
  pub state : KernelState
  pub matched : AreMatched script w board view
  pub helps : HelpsWithin script w
  pub whole : WholeHolds script board view w.history state
  pub serials : SerialsHold board (length w.history)
  pub spelled : WordsHold board

-- .. and that they are
pub moved_soundly : (script : Script) (w : World) → HasMoved script w → AllSound script w →
    IsLawfulLog w.waits × (length w.waits.standing ≡ length w.carriers) → MarksHold script w → KernelHolds script w
moved_soundly script w h sound waits marks = record {
  board = h.board;
  view = h.view;
  state = h.state;
  aligned = record {
    shows = h.matched.shows;
    carriers = λ c low. let m = h.matched.carriers c low in let s = sound.carriers c low in record {
      number = m.number;
      answered = m.answered;
      sound = s.sound;
      given = s.given;
      viewed = m.viewed;
    };
    count = h.matched.count;
    few = h.matched.few;
    contexts = sound.contexts;
    unstarted = h.matched.unstarted;
    numbers = h.matched.numbers;
  };
  whole = h.whole;
  serials = h.serials;
  spelled = h.spelled;
  helps = h.helps;
  finished = sound.finished;
  waits = waits;
  marks = marks;
}

module _ (script : Script) (limits : IsScript script) (w : World) (h : KernelHolds script w) (c : ℕ)
    (low : c < length w.carriers) where
  abbrev K : CarrierSeen
  K = carrier_at w c

  -- the context in its hand is sound
  pub in_hand_sound : (x : HandSeen) → ask_of K ≡ Run x → IsSound script x.value
  in_hand_sound x e = (h.aligned.contexts x.context x.value found).1
    where
      M : Memory
      M = memory_of w

      found : found_in w x.context ≡ Some x.value
      found = held_is M.context M.slot M.hand c x h.aligned.shows.shows.places (hand_is w c ∙ hand_of_run K x e)

  -- WHAT IT LEAVES

  -- the words of a board that came to be by turns
  abbrev pub WordsAfter : Type 0
  WordsAfter = (i n : ℕ) (b : Board) → Turns (programs_of script) i n h.board b → WordsHold b

  abbrev pub WordsTurned : Type 0
  WordsTurned = (i : ℕ) (b : Board) → Turn (ranged_programs script) h.board i b → WordsHold b

  ran : (n : ℕ) (t : ThreadSeen) → HasRun script h.board h.view w.history c n t (moved script c w) → WordsAfter →
      HasMoved script (moved script c w)
  ran n t r words = record {
    board = r.board;
    view = r.view;
    state = r.state;
    matched = r.matched;
    helps = r.helps;
    whole = r.whole;
    serials = r.serials;
    spelled = words n r.count r.board r.turns;
  }

  handled : IsHandled script h.board h.view c (moved script c w) w.history h.state → WordsTurned → HasMoved script (moved script c w)
  handled r words = record {
    board = r.board;
    view = r.view;
    state = h.state;
    matched = r.matched;
    helps = r.helps;
    whole = r.whole;
    serials = r.serials;
    spelled = by r.turned;
  }
    where
      by : IsTurned (ranged_programs script) h.board r.board → WordsHold r.board
      by (inl e) = subst WordsHold (sym e) h.spelled
      by (inr t) = words t.0 r.board t.1

  -- every move that is no step of a thread's context is handled
  abbrev pub Handles : CarrierAsk → Type 0
  Handles a = ask_of K ≡ a → IsHandled script h.board h.view c (moved script c w) w.history h.state

  pub has_moved : HasRoom script → IsRunnable script c w → WordsAfter → WordsTurned → ((n : ℕ) → Handles (LookAt n)) →
      ((n bits : ℕ) → Handles (Take n bits)) → ((x : HandSeen) → Handles (PutDown x)) →
      ((n : ℕ) (z : CarrierContext) → Handles (Run (record { context = n; value = Carrier z }))) →
      HasMoved script (moved script c w)
  has_moved room run after turned looks takes gives switches = by (ask_of K) refl
    where
      runs : (n : ℕ) (v : ContextSeen) → ask_of K ≡ Run (record { context = n; value = v }) → HasMoved script (moved script c w)
      runs n (Thread t) e =
          ran n t (has_run script limits room w h.board h.view h.state (kernel_of script w h) c n t run e) after
      runs n (Carrier z) e = handled (switches n z e) turned

      by : (a : CarrierAsk) → ask_of K ≡ a → HasMoved script (moved script c w)
      by (Run x) e = runs x.context x.value e
      by (LookAt n) e = handled (looks n e) turned
      by (Take n bits) e = handled (takes n bits e) turned
      by (PutDown x) e = handled (gives x e) turned

  -- with carriers and contexts that are sound then
  pub keeps : HasMoved script (moved script c w) → AllSound script (moved script c w) → MarksHold script (moved script c w) →
      KernelHolds script (moved script c w)
  keeps m sound marks = let s = sized_moved script c w in
      moved_soundly script (moved script c w) m sound
      (lawful_moved script c w h.waits.0, s.standing ∙ h.waits.1 ∙ sym s.carriers) marks
