-- One step of the context in a carrier's hand, on the maps of the raw world; and the turns of a board that it comes to.
use Rattle.std.specs.Prelude.{◌≡◌, ℕ, zero, suc, Option, Some, List, [], ◌++◌}
use Rattle.k_ids.specs.declared.histories.Entry.{Entry}
use Rattle.k_ids.specs.StateWords.{state_word_of}
use Rattle.k_locks.specs.declared.points.Point.{Point}
use Rattle.k_script.specs.Script.{Script}
use Rattle.k_context.specs.Contexts.{ContextSeen, asked, points, resumed, step_of}
use Rattle.k_carrier.specs.Moves.{Section}
use Rattle.k_world.specs.Steps.{recorded}
use Rattle.k_board.specs.Boards.{Board}
use Rattle.k_board.specs.Turns.{Turn}
use Rattle.k_board.specs.Words.{Programs}
use Rattle.k_points.specs.Points.{turn_point}
use Rattle.k_legal.specs.Runs.{entries_of}
use Rattle.k_places.specs.Answers.{answer_in, entry_in}
use Rattle.k_places.specs.Memory.{Memory, moved_maps}
use Rattle.k_places.specs.Shows.{Shows}

-- a context after its step
abbrev pub context_after : Memory → ContextSeen → ContextSeen
context_after m v = resumed (asked v) (answer_in m (step_of v))

-- the event that its step makes, by its number's state word
abbrev pub point_in : Memory → ℕ → ContextSeen → Option Point
point_in m i v = points (asked v) (state_word_of (m.state i)) (answer_in m (step_of v))

-- the entry of that event
abbrev pub section_entry : Memory → ℕ → ContextSeen → Option Entry
section_entry m i v = entry_in m.serial (point_in m i v)

-- The maps after the step of this context, of this number, in the hand of this carrier.
abbrev pub section_maps : Script → Memory → (carrier number : ℕ) → ContextSeen → Memory
section_maps script m c i v = moved_maps script m c i (Section (step_of v))
    (Some (record { context = i; value = context_after m v })) (section_entry m i v)

-- so many turns of a context
pub data Turns (g : Programs) (i : ℕ) : ℕ → Board → Board → Type 0 where
  none : (b : Board) → Turns g i zero b b
  more : {n : ℕ} (b b' c : Board) → Turn g b i b' → Turns g i n b' c → Turns g i (suc n) b c

-- the entries of the points of these turns
abbrev pub entries_along : (g : Programs) (i n : ℕ) (b c : Board) → Turns g i n b c → List Entry
entries_along g i _ b _ (none _) = []
entries_along g i _ b c (more _ b' _ t ts) = entries_of b (turn_point g b i b' t) ++ entries_along g i _ b' c ts

-- A board that these maps show, to which so many turns of this context lead; their points have this entry, or none.
pub record Comes (script : Script) (g : Programs) (i n : ℕ) (b : Board) (m : Memory) (made : Option Entry) : Type 0 where
  pub board : Board
  pub turns : Turns g i n b board
  pub shows : Shows script m board
  pub entries : entries_along g i n b board turns ≡ recorded made []
