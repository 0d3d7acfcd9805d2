-- What some steps need of the board.
use Rattle.std.specs.Prelude.{◌≡◌, ◌-◌}
use Rattle.k_script.specs.Script.{Script}
use Rattle.k_threads.specs.declared.create.CreateLocked.TheVariants as create_locked
use Rattle.k_threads.specs.CreateTable as create
use Rattle.k_threads.specs.declared.destroy.DestroyVictim.TheVariants as victim
use Rattle.k_threads.specs.DestroyTable as destroy
use Rattle.k_threads.specs.Words.{dead_word}
use Rattle.k_board.specs.Boards.{At, Board, Coming, InCreate, InDestroy, Nowhere}
use Rattle.k_board.specs.Steps.{new_context}
use Rattle.k_places.specs.Contexts.{programs_of}

-- a new thread's number had a thread that was destroyed, and has no context, or that of the new thread; and a kill is of the
-- victim
abbrev pub Needs : Script → Board → At → Type 0
Needs script b (InCreate c (create.Locked (create_locked.PlaceContext id))) =
    ((b.seen id.number).word ≡ dead_word (id.version - 1)) × ((b.context id.number).at ≡ Nowhere)
Needs script b (InCreate c (create.Locked (create_locked.CommitCreate id))) =
    ((b.seen id.number).word ≡ dead_word (id.version - 1)) ×
    (b.context id.number ≡ new_context (programs_of script) c id Coming)
Needs script b (InDestroy c (destroy.Victim (victim.CommitKill w))) = c.who.version ≡ w.version
Needs script b p = Unit {0}
