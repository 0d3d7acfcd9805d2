use Rattle.std.proofs.Common.{rules, ◌<◌, ap, ◌∙◌}
use Rattle.k_locks.specs.declared.goods.Goods.TheVariants as goods
use Rattle.k_core.proofs.Homes.{home_of_ready, home_of_table, home_of_thread, opened_queue}
use Rattle.k_core.proofs.boot.home_at.Goals as goal
use Rattle.k_core.proofs.boot.home_at.Goals.{in-72, in-73+in_ok-ready_of-in-73}
use Rattle.k_core.proofs.boot.home_at.Goals.{in_default+in_ok-opened-in_default}

pub returns-clause-home : goal.returns-clause-home
returns-clause-home c =
    let script = c.args.script.now in
    elim c.match-number.branch [
      | in-72 w ↦ home_of_table script c.args.number c.match-number.goods c.holds.ensures.table.1 w.in-72.is
          (w.goods-is ∙ ap goods.Numbers w.numbers_of.ensures)
      | in-73+in_ok-ready_of-in-73 w ↦ home_of_ready script c.args.number c.match-number.goods
          c.holds.ensures.table.1 w.in-73.is (w.goods-is ∙ ap goods.Ready w.in_ok-ready_of-in-73.ensures)
      | in_default+in_ok-opened-in_default w ↦
          let inside : c.args.number < script.table = search rules in
          home_of_thread script c.args.number c.match-number.goods inside (w.goods-is
          ∙ ap goods.Senders (opened_queue script w.in_ok-opened-in_default.field-0
          w.in_ok-opened-in_default.ensures.entries (w.in_ok-opened-in_default.ensures.room
          ∙ w.table-in_default.ensures)))
    ]
