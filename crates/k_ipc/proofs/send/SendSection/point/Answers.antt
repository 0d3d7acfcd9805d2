use Rattle.k_locks.specs.Hands.{nothing}
use Rattle.k_ipc.proofs.send.SendSection.point.Goals as goal

pub returns-in-Outside : goal.returns-in-Outside
returns-in-Outside c = rw (c.in-Outside.is, c.in-Told.is) (c.outside_point.ensures c.args.caller.now c.args.self.now.own nothing)

pub returns-in-Locked : goal.returns-in-Locked
returns-in-Locked c = rw (c.in-Locked.is, c.in-Told.is) (c.locked_point.ensures c.args.self.now.own (record nothing { queue = c.in-Locked.field-1 }))
