-- One turn of a thread's context, and the entry that the world records of it.
use Rattle.std.proofs.Common.{◌≡◌, ℕ, refl, sym, ◌∙◌, Option, List, [], ◌++◌, arith}
use Rattle.std.proofs.lemmas.List.{append-nil}
use Rattle.k_ids.specs.declared.histories.Entry.{Entry}
use Rattle.k_script.specs.Script.{Script}
use Rattle.k_world.specs.Steps.{recorded}
use Rattle.k_board.specs.Boards.{Board}
use Rattle.k_board.specs.Turns.{Turn}
use Rattle.k_board.specs.Words.{Programs}
use Rattle.k_points.specs.Points.{turn_point}
use Rattle.k_legal.specs.Runs.{entries_of}
use Rattle.k_places.specs.Memory.{Memory}
use Rattle.k_places.specs.Shows.{Shows}
use Rattle.k_turns.specs.Sections.{Comes, Turns, entries_along, more, none}

-- one turn to this board, with the entries of its point
pub record IsOne (g : Programs) (i : ℕ) (b b' : Board) (es : List Entry) : Type 0 where
  pub turn : Turn g b i b'
  pub entries : entries_of b (turn_point g b i b' turn) ≡ es

-- nothing comes after it
ends : (g : Programs) (i : ℕ) (b b' : Board) (t : Turn g b i b') (n : ℕ) (c : Board) (ts : Turns g i n b' c) → n ≡ 0 →
    IsOne g i b c (entries_of b (turn_point g b i b' t) ++ entries_along g i n b' c ts)
ends g i b b' t _ _ (none _) e = record { turn = t; entries = sym (append-nil _) }
ends g i b b' t _ c (more _ d _ u ts) e = absurd (omega (arith, e))

single : (g : Programs) (i n : ℕ) (b c : Board) (ts : Turns g i n b c) → n ≡ 1 → IsOne g i b c (entries_along g i n b c ts)
single g i _ b _ (none _) e = absurd (omega (arith, e))
single g i _ b c (more {n} _ b' _ t ts) e = ends g i b b' t n c ts (omega (arith, e))

-- A board that these maps show, one turn later; and its entry, or none.
pub record ComesOnce (script : Script) (g : Programs) (i : ℕ) (b : Board) (m : Memory) (made : Option Entry) : Type 0 where
  pub board : Board
  pub turn : Turn g b i board
  pub shows : Shows script m board
  pub entries : entries_of b (turn_point g b i board turn) ≡ recorded made []

pub comes_once : (script : Script) (g : Programs) (i : ℕ) (b : Board) (m : Memory) (made : Option Entry) →
    Comes script g i 1 b m made → ComesOnce script g i b m made
comes_once script g i b m made h = let one = single g i 1 b h.board h.turns refl in record {
  board = h.board;
  turn = one.turn;
  shows = h.shows;
  entries = one.entries ∙ h.entries;
}
