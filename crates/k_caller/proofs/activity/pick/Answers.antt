use Rattle.std.proofs.Common.{◌≡◌, sym, ap, ◌∙◌, subst, ℕ, None, true, false}
use Rattle.k_ids.specs.declared.state_word.StateWord.{StateWord}
use Rattle.k_ids.specs.StateWords.{state_word_of}
use Rattle.k_ipc.specs.Words.{IsPickingOf}
use Rattle.k_ipc.specs.ReceiveTable.{receive_of}
use Rattle.k_caller.proofs.Owned.{picking_bits, picking_read}
use Rattle.k_caller.proofs.activity.pick.Goals as goal

pub of_pick-requires-clause-own : goal.of_pick-requires-clause-own
of_pick-requires-clause-own c = subst (λ (n : ℕ). IsPickingOf c.args.me n) (sym c.bits.ensures) (picking_bits c.args.me c.args.own c.requires.own)

pub returns : goal.returns
returns c =
    let read : state_word_of c.bits.result ≡ c.args.own = ap state_word_of c.bits.ensures ∙ picking_read c.args.me c.args.own c.requires.own in
    c.of_pick.ensures.section ∙ ap (λ (w : StateWord). receive_of (record { caller = c.args.me; from = None; zero = false; picks = true }) w) read
