use Rattle.k_world.specs.Steps.{parked, sliced, started}
use Rattle.k_core.specs.Parts.{world_in}
use Rattle.k_core.proofs.Steps.{inside, runs_on}
use Rattle.k_core.proofs.laws.what_comes_from_outside_goes_on.Goals as goal

pub returns-clause-start : goal.returns-clause-start
returns-clause-start c = λ script p q n number limits h low due same placed room.
    let w = world_in script p in
    runs_on script p q (started n number w) h same
    (c.what_comes_from_outside_keeps_all.ensures.start script w n number limits h.kernel
    (inside script p n low) due) placed room

pub returns-clause-slice : goal.returns-clause-slice
returns-clause-slice c = λ script p q n limits h low same placed room.
    let w = world_in script p in
    runs_on script p q (sliced n w) h same
    (c.what_comes_from_outside_keeps_all.ensures.slice script w n limits h.kernel (inside script p n low))
    placed room

pub returns-clause-park : goal.returns-clause-park
returns-clause-park c = λ script p q n limits h low same placed room.
    let w = world_in script p in
    runs_on script p q (parked n w) h same
    (c.what_comes_from_outside_keeps_all.ensures.park script w n limits h.kernel (inside script p n low))
    placed room
