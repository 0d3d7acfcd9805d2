-- What a step of a thread's context leaves of the kernel, and which steps of the whole it is.
use Rattle.std.specs.Prelude.{◌≡◌, ◌⊎◌, ℕ, false, true, Option, Some, None, List, ◌++◌, length}
use Rattle.k_ids.specs.declared.calls.Reply.{Reply}
use Rattle.k_ids.specs.declared.histories.Entry.{Entry}
use Rattle.k_ids.specs.declared.threads.ThreadId.{ThreadId}
use Rattle.k_ids.specs.ContextWords.{context_word_of}
use Rattle.k_locks.specs.Asks as asks
use Rattle.k_locks.specs.Steps as steps
use Rattle.k_locks.specs.declared.steps.Answer.{Answer}
use Rattle.k_model.specs.State.{KernelState}
use Rattle.k_script.specs.Script.{Script}
use Rattle.k_caller.specs.declared.thread.ThreadLocation.TheVariants as location
use Rattle.k_caller.specs.Activities as activities
use Rattle.k_caller.specs.Threads.{ThreadSeen}
use Rattle.k_caller.specs.Threads as threads
use Rattle.k_switch.specs.declared.goal.Goal.{Goal}
use Rattle.k_context.specs.Contexts.{Thread}
use Rattle.k_carrier.specs.Asked.{lock_acquired}
use Rattle.k_carrier.specs.Resumed.{told_in}
use Rattle.k_world.specs.Worlds.{World}
use Rattle.k_board.specs.Boards.{Alone, Board, Coming}
use Rattle.k_board.specs.Turns.{Turn}
use Rattle.k_legal.specs.Runs.{entries_of}
use Rattle.k_points.specs.Points.{turn_point}
use Rattle.k_plays.specs.Scripts.{programs_of, ranged_programs}
use Rattle.k_places.specs.Answers.{answer_in}
use Rattle.k_places.specs.Memory.{Memory}
use Rattle.k_places.specs.Shows.{Shows, context_in}
use Rattle.k_turns.specs.Sections.{Turns}
use Rattle.k_turns.specs.Spelled.{IsSpelled, ask_in}
use Rattle.k_tokens.specs.World.{OfThread}
use Rattle.k_tokens.specs.World as tokens
use Rattle.k_tokens.specs.Grants.{Grants}
use Rattle.k_tokens.specs.Steps.{ThreadStep}
use Rattle.k_switching.specs.Claims.{IsAsked}
use Rattle.k_switching.specs.Rules.{carrier_step, word_of}
use Rattle.k_grants.specs.Granted.{Finding, IsFound, IsFreeToRemove, IsWait, is_again}
use Rattle.k_moves.specs.Told.{finding_by}
use Rattle.k_whole.specs.Whole.{WholeHolds}
use Rattle.k_kernel.specs.Serials.{SerialsHold}
use Rattle.k_handling.specs.Handling.{AreMatched, HelpsWithin}

-- ONE TURN of the context of number `n`, in the hand of carrier `c`, and the step that its location grants

pub record HasTurn (script : Script) (b : Board) (v : tokens.World) (c n : ℕ) (b' : Board) (v' : tokens.World) : Type 0 where
  pub found : Finding
  pub asked : IsAsked v c (OfThread n)
  pub waits : IsWait found.waits
  pub free : IsFreeToRemove b v n b'
  pub turn : Turn (ranged_programs script) b n b'
  pub made : ThreadStep
  pub kind : IsFound found (is_again (ranged_programs script) b n b' turn) made
  pub grants : Grants v n made
  pub leads : v' ≡ carrier_step v c made

-- what is told of the step of a thread `t`
abbrev pub answer_to : Memory → ThreadSeen → Answer
answer_to m t = answer_in m (threads.step_of t)

-- what the carrier finds of it, with a table of this size and this goal
abbrev pub finding_in : Memory → (size : ℕ) → Option Goal → ThreadSeen → Finding
finding_in m size goal t =
    finding_by size goal (lock_acquired (threads.step_of t)) (told_in (answer_to m t))
    (threads.ran_of (threads.asked t) (answer_to m t))

-- The turn is the step of thread `t`, and the maps show the board before it. The history grows by the turn's entry, if it makes one.
pub record HasMade (script : Script) (c n : ℕ) (t : ThreadSeen) (b : Board) (v : tokens.World) (entries : List Entry) (b' : Board)
    (v' : tokens.World) (entries' : List Entry) : Type 0 where
  pub turned : HasTurn script b v c n b' v'
  pub maps : Memory
  pub size : ℕ
  pub goal : Option Goal
  pub shows : Shows script maps b
  pub sized : size ≡ b.size
  pub there : context_in maps.context maps.slot maps.hand n ≡ Some (Thread t)
  pub made : (b.context n).at ≡ Coming → ⊥
  pub can : activities.can_ask t.activity ≡ true
  pub spelled : IsSpelled script.table (ask_in t.id t.own t.activity)
  -- the word of a context that it is to remove is that of the carriers' world
  pub words : (id : ThreadId) → ask_in t.id t.own t.activity ≡ asks.Remove id →
      word_of v (OfThread id.number) ≡ context_word_of (maps.context id.number)
  pub finds : turned.found ≡ finding_in maps size goal t
  pub again : is_again (ranged_programs script) b n b' turned.turn ≡ steps.is_again (answer_to maps t)
  pub grows : entries' ≡ entries ++ entries_of b (turn_point (ranged_programs script) b n b' turned.turn)

-- The thread's call begins: nothing is found, nothing enters the history, and the carriers stay as they are.
pub record HasBegun (script : Script) (c n : ℕ) (b : Board) (v : tokens.World) (b' : Board) (v' : tokens.World) : Type 0 where
  pub turned : HasTurn script b v c n b' v'
  pub last : Option Reply
  pub between : (b.context n).at ≡ Alone (location.Between last)
  pub below : turned.found.above ≡ false
  pub goes : is_again (ranged_programs script) b n b' turned.turn ≡ false
  pub silent : turn_point (ranged_programs script) b n b' turned.turn ≡ None
  pub carriers : v'.carrier ≡ v.carrier

-- .. and then it makes its first step.
pub record HasBegunAndMade (script : Script) (c n : ℕ) (t : ThreadSeen) (b : Board) (v : tokens.World) (entries : List Entry)
    (b' : Board) (v' : tokens.World) (entries' : List Entry) : Type 0 where
  pub board : Board
  pub view : tokens.World
  pub state : KernelState
  pub begins : HasBegun script c n b v board view
  pub whole : WholeHolds script board view entries state
  pub makes : HasMade script c n t board view entries b' v' entries'

-- AFTER THE MOVE

-- All of the kernel, but that carriers and contexts are sound. The board `b` came to its own by turns of the context of number `n`,
-- the carriers came to theirs by the steps of these turns, and the history was this.
pub record HasRun (script : Script) (b : Board) (v : tokens.World) (entries : List Entry) (c n : ℕ) (t : ThreadSeen)
    (w : World) : Type 0 where
  pub board : Board
  pub count : ℕ
  pub turns : Turns (programs_of script) n count b board
  pub view : tokens.World
  pub state : KernelState
  pub matched : AreMatched script w board view
  pub helps : HelpsWithin script w
  pub whole : WholeHolds script board view w.history state
  pub serials : SerialsHold board (length w.history)
  pub ways : HasMade script c n (threads.begun script t) b v entries board view w.history
      ⊎ HasBegunAndMade script c n (threads.begun script t) b v entries board view w.history
