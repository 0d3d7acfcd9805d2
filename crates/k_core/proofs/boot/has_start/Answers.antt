use Rattle.std.proofs.Common.{◌==◌, ap, ◌∙◌, List}
use Rattle.std.specs.List.{list_any}
use Rattle.k_script.specs.declared.lines.AtLine.{AtLine}
use Rattle.k_script.specs.Limits.{started_by}
use Rattle.k_core.proofs.Boots.{any_flat}
use Rattle.k_core.proofs.boot.has_start.Goals as goal

pub returns : goal.returns
returns c =
    c.starts_any.ensures
    ∙ (ap (λ (ls : List AtLine). list_any (λ (a : AtLine). list_any (λ t. t == c.args.number)
    (started_by a.what)) ls) c.at_lines.ensures
    ∙ any_flat (λ t. t == c.args.number) (λ (a : AtLine). started_by a.what) c.args.script.now.at_lines)
