use Rattle.k_ipc.proofs.send.SendSection.moved.Goals as goal

pub returns-in-Told-clause-section : goal.returns-in-Told-clause-section
returns-in-Told-clause-section c = rw c.in-Told.is c.told.ensures.section
