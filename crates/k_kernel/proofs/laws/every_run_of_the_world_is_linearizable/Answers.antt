use Rattle.k_world.specs.Boot.{booted}
use Rattle.k_room.proofs.Wholes.{whole_few}
use Rattle.k_kernel.proofs.Schedules.{turns_hold}
use Rattle.k_kernel.proofs.Starts.{first_holds}
use Rattle.k_kernel.proofs.laws.every_run_of_the_world_is_linearizable.Goals as goal

pub returns-clause-holds : goal.returns-clause-holds
returns-clause-holds c =
    λ script carriers turns limits few room can. turns_hold script limits room turns (booted script carriers) can
    (first_holds script carriers limits few c.the_board_holds_at_the_start.ensures)

pub returns-clause-follows : goal.returns-clause-follows
returns-clause-follows c =
    λ script w limits h. let f = h.holds.ledgers.leads.follows in (h.state, f, whole_few script w.history h.state limits f)
