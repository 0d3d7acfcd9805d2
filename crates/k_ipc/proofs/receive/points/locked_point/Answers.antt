use Rattle.std.proofs.Common.{ap, sym, ◌∙◌}
use Rattle.k_ids.specs.declared.state_word.StateWord.{StateWord}
use Rattle.k_locks.specs.Asks.{Response, Word}
use Rattle.k_locks.specs.Hands.{nothing}
use Rattle.k_ipc.specs.ReceiveTable.{Locked, points}
use Rattle.k_ipc.proofs.ReceiveLaws.{hears_word}
use Rattle.k_ipc.proofs.receive.points.locked_point.Goals as goal

pub returns-in-Loaded : goal.returns-in-Loaded
returns-in-Loaded c = λ caller own.
    let at = λ (r : Response). points c.args.call caller (record nothing { queue = c.args.queue.now }) (Locked c.args.at) r in
    rw c.in-Loaded.is (c.loaded_point.ensures caller ∙ ap (λ (w : StateWord). at (Word w)) c.state_word.ensures.word ∙ ap at (sym (hears_word c.args.call own (Locked c.args.at) c.in-Loaded.bits)))

pub returns-in-Won : goal.returns-in-Won
returns-in-Won c = λ caller own. rw c.in-Won.is (c.won_point.ensures caller (record nothing { queue = c.args.queue.now }))
