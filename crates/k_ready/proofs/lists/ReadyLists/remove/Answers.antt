use Rattle.k_ready.specs.Lists.{list_of}
use Rattle.k_ready.proofs.Versions.{nobody_has}
use Rattle.k_ready.proofs.lists.ReadyLists.remove.Goals as goal

pub returns-in-None-clause-absent : goal.returns-in-None-clause-absent
returns-in-None-clause-absent c = λ _ q. nobody_has c.args.number c.args.version (list_of c.args.self.now.lists q) (c.in-None.ensures.none q)
