-- A move of a carrier in a world, and the board that is shown after it.
use Rattle.std.specs.Prelude.{◌≡◌, ℕ, ◌≤◌, Option, []}
use Rattle.k_ids.specs.declared.histories.Entry.{Entry}
use Rattle.k_script.specs.Script.{Script}
use Rattle.k_carrier.specs.Asked.{CarrierAsk, LookAt, PutDown, Run, Take}
use Rattle.k_world.specs.Steps.{recorded}
use Rattle.k_world.specs.Worlds.{World}
use Rattle.k_board.specs.Boards.{Board}
use Rattle.k_places.specs.Contexts.{programs_of}
use Rattle.k_board.specs.Words.{Programs}
use Rattle.k_places.specs.Memory.{Memory}
use Rattle.k_turns.specs.Sections.{Comes, Turns, entries_along}
use Rattle.k_places.specs.Shows.{ShowsBoard}

-- the context that a carrier's move is on
abbrev pub acting : CarrierAsk → ℕ
acting (Run h) = h.context
acting (PutDown h) = h.context
acting (LookAt n) = n
acting (Take n bits) = n

-- The world shows a board to which one turn of this context leads, or two, or none; their points have this entry, or none.
pub record ShowsLater (script : Script) (b : Board) (i : ℕ) (made : Option Entry) (w : World) : Type 0 where
  pub count : ℕ  -- of turns
  pub few : count ≤ 2  -- it begins its next call, and makes a step
  pub board : Board
  pub turns : Turns (programs_of script) i count b board
  pub shows : ShowsBoard script w board
  pub entries : entries_along (programs_of script) i count b board turns ≡ recorded made []

-- The same of the maps of a world, after one turn or two.
pub record ComesSoon (script : Script) (g : Programs) (i : ℕ) (b : Board) (m : Memory) (made : Option Entry) : Type 0 where
  pub count : ℕ
  pub few : count ≤ 2
  pub comes : Comes script g i count b m made
