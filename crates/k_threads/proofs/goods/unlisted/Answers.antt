use Rattle.std.proofs.Common.{◌≡◌, true, false, refl, ◌∙◌}
use Rattle.k_threads.specs.Goods.{unlisted}
use Rattle.k_threads.proofs.Unlisted.{none_unlisted, one_unlisted}
use Rattle.k_threads.proofs.goods.unlisted.Goals as goal

pub returns : goal.returns
returns c =
    elim c.remove.result as (λ v. c.remove.result ≡ v → c.remove.new.self ≡ unlisted c.args.who c.args.ready) [
      | true ↦ λ found. let r = c.remove.ensures.found found in one_unlisted c.args.who c.args.ready c.remove.new.self r.0 c.holds.ensures.size c.holds.ensures.one r.1
      | false ↦ λ absent. c.remove.ensures.unchanged absent ∙ none_unlisted c.args.who c.args.ready (c.remove.ensures.absent absent)
    ] refl
