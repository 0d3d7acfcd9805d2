use Rattle.std.proofs.Common.{◌∙◌}
use Rattle.k_world.specs.Boot.{has_start}
use Rattle.k_core.proofs.Boots.{list_more}
use Rattle.k_core.proofs.boot.unstarted_of.Goals as goal

pub loop-number-preserved : goal.loop-number-preserved
loop-number-preserved c =
    c.in_ok-push.ensures.items ∙ list_more (has_start c.args.script.now) c.loop-number.number
    c.loop-number.unstarted.items c.has_start.result c.loop-number.invariant c.has_start.ensures
