-- The kernel at one moment, as raw world, board and carriers together; and what of it a move of a carrier leaves that is no step
-- of a thread's context.
use Rattle.std.specs.Prelude.{◌≡◌, ◌≢◌, ◌⊎◌, ℕ, ◌+◌, ◌<◌, ◌≤◌, Bool, true, false, Some, IfSome, List, length}
use Rattle.k_ids.specs.declared.histories.Entry.{Entry}
use Rattle.k_model.specs.State.{KernelState}
use Rattle.k_script.specs.Script.{Script}
use Rattle.k_carrier.specs.declared.moves.Awaits.TheVariants as awaits
use Rattle.k_carrier.specs.Seen.{CarrierSeen}
use Rattle.k_carrier.specs.Starts.{is_due}
use Rattle.k_world.specs.Worlds.{World, carrier_at}
use Rattle.k_board.specs.Boards.{Board}
use Rattle.k_board.specs.Turns.{Turn}
use Rattle.k_board.specs.Words.{Programs}
use Rattle.k_plays.specs.Scripts.{ranged_programs}
use Rattle.k_places.specs.Shows.{ShowsBoard}
use Rattle.k_tokens.specs.Steps.{ThreadStep}
use Rattle.k_tokens.specs.World as tokens
use Rattle.k_switching.specs.Rules.{carrier_step}
use Rattle.k_moves.specs.Views.{carrier_view}
use Rattle.k_aligned.specs.Aligned.{AreAligned}
use Rattle.k_whole.specs.Whole.{IsStepOf, Step, WholeHolds}
use Rattle.k_whole.specs.Whole.{begins_switch, ends_switch, runs, stays, switches, wakes}
use Rattle.k_kernel.specs.Serials.{SerialsHold}

-- The context that a carrier helps is one of a number of the table, or a carrier's own.
abbrev pub HelpsWithin : Script → World → Type 0
HelpsWithin script w = (c : ℕ) → c < length w.carriers →
    IfSome (carrier_at w c).help (λ p. p.context < script.table + length w.carriers)

-- BEFORE A MOVE

-- Raw world, board and carriers are of this moment, and all holds of them that is kept.
pub record IsKernel (script : Script) (w : World) (b : Board) (view : tokens.World) (state : KernelState) : Type 0 where
  pub aligned : AreAligned script w b view
  pub helps : HelpsWithin script w
  pub whole : WholeHolds script b view w.history state
  pub serials : SerialsHold b (length w.history)

-- AFTER A MOVE: all but that carriers and contexts are sound

-- A carrier of this number, whose last move was answered, and the view has it.
pub record IsMatched (c : ℕ) (k : CarrierSeen) (view : tokens.World) : Type 0 where
  pub number : k.number ≡ c
  pub answered : k.awaits ≡ awaits.Nothing
  pub starts : length k.starts ≡ 64
  pub viewed : view.carrier c ≡ carrier_view k

pub record AreMatched (script : Script) (w : World) (b : Board) (view : tokens.World) : Type 0 where
  pub shows : ShowsBoard script w b
  pub carriers : (c : ℕ) → c < length w.carriers → IsMatched c (carrier_at w c) view
  pub count : view.carriers ≡ length w.carriers
  pub few : length w.carriers ≤ 8
  pub unstarted : view.unmade ≡ is_due w.unstarted
  pub numbers : length w.unstarted ≡ script.table

-- the same board, or the one after a turn of some context
abbrev pub IsTurned : Programs → Board → Board → Type 0
IsTurned g b b' = (b' ≡ b) ⊎ ((i : ℕ) × Turn g b i b')

-- whether a step is one of a thread's context
abbrev pub is_of_thread : (g : Programs) (b : Board) (v : tokens.World) (c : ℕ) (b' : Board) → Step g b v c b' → Bool
is_of_thread g b v c _ (runs i b' found asked wait free t) = true
is_of_thread g b v c _ (switches d s p r asked at going an) = false
is_of_thread g b v c _ (begins_switch s hand took at from) = false
is_of_thread g b v c _ (ends_switch s o hand at) = false
is_of_thread g b v c _ (wakes i hand took inside at) = false
is_of_thread g b v c _ (stays nobody still) = false

-- Board and carriers come to these by a step of carrier `c` that is none of a thread's context.
pub record IsStepTo (g : Programs) (b : Board) (v : tokens.World) (c : ℕ) (b' : Board) (v' : tokens.World) : Type 0 where
  pub step : Step g b v c b'
  pub other : is_of_thread g b v c b' step ≡ false
  pub made : ThreadStep
  pub kind : IsStepOf g b v c b' step made
  pub leads : v' ≡ carrier_step v c made

-- another carrier has a context in hand
pub record HasCompany (v : tokens.World) (c : ℕ) : Type 0 where
  pub carrier : ℕ
  pub context : tokens.ContextName
  pub other : carrier ≢ c
  pub hand : (v.carrier carrier).hand ≡ Some context

-- The history is this one, and the state of the one-step kernel: no entry was made. The board was `b`, with the carriers of `v`, and
-- carrier `c` made a step; but for a look that finds that its goal's number has another thread, whose context is in another's hand.
pub record IsHandled (script : Script) (b : Board) (v : tokens.World) (c : ℕ) (w : World) (entries : List Entry)
    (state : KernelState) : Type 0 where
  pub board : Board
  pub view : tokens.World
  pub matched : AreMatched script w board view
  pub helps : HelpsWithin script w
  pub turned : IsTurned (ranged_programs script) b board
  pub steps : IsStepTo (ranged_programs script) b v c board view ⊎ HasCompany v c
  pub history : w.history ≡ entries
  pub whole : WholeHolds script board view w.history state
  pub serials : SerialsHold board (length w.history)

-- THE START, and what comes from outside

-- There are carriers of this world, and it shows this board.
pub record HasKernel (script : Script) (b : Board) (w : World) (state : KernelState) : Type 0 where
  pub view : tokens.World
  pub kernel : IsKernel script w b view state
