use Rattle.std.proofs.Common.{drop, map, string_bytes}
use Rattle.std.specs.Vec.Iter.{into_iter_items}
use Rattle.fiasco_run.proofs.Flushed.{told_of}
use Rattle.fiasco_run.proofs.arguments.serve_arguments.Goals as goal

pub returns-in-Ok-clause-told : goal.returns-in-Ok-clause-told
returns-in-Ok-clause-told g c = told_of c.args.arguments c.deref.result.now (λ all. drop 1 (into_iter_items all)) (map string_bytes) _ _ _ (rw c.deref.ensures.value c.in-Ok.ensures.told) c.top.ensures.served
