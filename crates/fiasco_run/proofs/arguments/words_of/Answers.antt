use Rattle.std.proofs.Common.{◌≡◌, length, subst, sym}
use Rattle.std.specs.Vec.Iter.{into_iter_items, into_iter_len}
use Rattle.std.proofs.lemmas.Iterator.{items_from_collect}
use Rattle.std.proofs.lemmas.Iterator.Adapters.{YieldsList-from_skip, YieldsList-from_vec}
use Rattle.fiasco_run.proofs.arguments.words_of.Goals as goal

pub returns : goal.returns
returns c = items_from_collect _ c.collect.ensures.ran (YieldsList-from_skip 1 (YieldsList-from_vec (into_iter_items c.args.arguments) (cc) (subst (λ s. into_iter_len s ≡ length (into_iter_items c.args.arguments)) (sym c.skip.ensures.source) c.args.arguments.rest.ok.0)) c.skip.ensures.count)
