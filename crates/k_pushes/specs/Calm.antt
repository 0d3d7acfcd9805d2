-- Whose steps leave pushes alone.
use Rattle.std.specs.Prelude.{◌≡◌, ◌≢◌, ◌⊎◌, ℕ, false, Some}
use Rattle.k_caller.specs.declared.thread.ThreadLocation.TheVariants as location
use Rattle.k_board.specs.Boards.{Alone, At, Board, id_at}
use Rattle.k_good.specs.Ranges.{is_threads}
use Rattle.k_grants.specs.Views.{looks_of}

-- The thread whose context makes the next step is in no push.
abbrev pub IsCalm : Board → ℕ → Type 0
IsCalm b i = (k : ℕ) → (looks_of b k).push ≢ Some (id_at b i)

-- Its turn is a carrier's doing: a thread is woken, or a switch goes on.
abbrev pub IsCarriers : At → Type 0
IsCarriers p = (p ≡ Alone location.Asleep) ⊎ (is_threads p ≡ false)
