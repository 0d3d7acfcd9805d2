use Rattle.std.proofs.Common.{rules, sym, ◌∙◌}
use Rattle.k_reader.proofs.Finished.{finish_fits, some_threads}
use Rattle.k_reader.proofs.reader.finish.Goals as goal

pub of-requires : goal.of-requires
of-requires c = finish_fits _ c.args.sketch c.in-Some.table c.carriers-carriers.result c.sketch.view_is c.requires (sym c.is_some.ensures ∙ c.if-is_some.false) (search rules) (some_threads _ _ _ (search rules) c.is_empty.ensures c.if-is_empty.false) c.carriers-carriers.ensures
