-- The raw world, the board that it shows, and the carriers as the good world has them: of the same kernel at the same moment,
-- between two moves.
use Rattle.std.specs.Prelude.{◌≡◌, ℕ, ◌<◌, ◌≤◌, Option, Some, length}
use Rattle.k_script.specs.Script.{Script}
use Rattle.k_context.specs.Contexts.{ContextSeen}
use Rattle.k_context.specs.Contexts as contexts
use Rattle.k_carrier.specs.declared.moves.Awaits.TheVariants as awaits
use Rattle.k_carrier.specs.Conditions.{IsOfNumber}
use Rattle.k_carrier.specs.Conditions as carriers
use Rattle.k_carrier.specs.Seen.{CarrierSeen}
use Rattle.k_carrier.specs.Starts.{is_due}
use Rattle.k_world.specs.Worlds.{World, carrier_at}
use Rattle.k_board.specs.Boards.{Board}
use Rattle.k_places.specs.Memory.{memory_of}
use Rattle.k_places.specs.Shows.{ShowsBoard, context_in}
use Rattle.k_tokens.specs.World as tokens
use Rattle.k_moves.specs.Moved.{IsGiven}
use Rattle.k_moves.specs.Views.{carrier_view}

-- A carrier of this number, whose last move was answered, is sound, and the view has it.
pub record IsAligned (script : Script) (c : ℕ) (k : CarrierSeen) (view : tokens.World) : Type 0 where
  pub number : k.number ≡ c
  pub answered : k.awaits ≡ awaits.Nothing
  pub sound : carriers.IsSound script k
  pub given : IsGiven k
  pub viewed : view.carrier c ≡ carrier_view k

-- the context of a number, wherever it is
abbrev pub found_in : World → ℕ → Option ContextSeen
found_in w i = context_in (memory_of w).context (memory_of w).slot (memory_of w).hand i

-- Each context is that of its number, and sound.
abbrev pub AreSound : Script → World → Type 0
AreSound script w = (i : ℕ) (v : ContextSeen) → found_in w i ≡ Some v →
    IsOfNumber script.table i v × contexts.IsSound script v

pub record AreAligned (script : Script) (w : World) (b : Board) (view : tokens.World) : Type 0 where
  pub shows : ShowsBoard script w b
  pub carriers : (c : ℕ) → c < length w.carriers → IsAligned script c (carrier_at w c) view
  pub count : view.carriers ≡ length w.carriers
  pub few : length w.carriers ≤ 8
  pub contexts : AreSound script w
  pub unstarted : view.unmade ≡ is_due w.unstarted
  pub numbers : length w.unstarted ≡ script.table
