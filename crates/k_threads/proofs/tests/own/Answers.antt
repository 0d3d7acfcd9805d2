use Rattle.std.proofs.Common.{ℕ, ap, subst, sym}
use Rattle.k_ids.specs.declared.state_word.StateWord.{StateWord}
use Rattle.k_locks.specs.Threads.{IsRunOf}
use Rattle.k_threads.proofs.Tested.{own_word}
use Rattle.k_threads.proofs.tests.own.Goals as goal

pub returns : goal.returns
returns c =
    let w : ℕ → Type 0 = λ n. IsRunOf c.args.caller n in
    subst w (sym c.bits.ensures) (own_word c.args.caller c.created.result c.created.ensures.whole
    (ap (λ (v : StateWord). v.version) c.created.ensures.word) (ap (λ (v : StateWord). v.state) c.created.ensures.word))
