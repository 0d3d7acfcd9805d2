use Rattle.std.proofs.Common.{rules, sym, ◌∙◌, arith}
use Rattle.k_model.specs.Step.{is_free}
use Rattle.k_model.proofs.Maps.{lowest-is, lowest-is_None}
use Rattle.k_machine.specs.Machine.{state_of}
use Rattle.k_machine.proofs.table.Table.lowest_free.Goals as goal

pub returns-then-is_free : goal.returns-then-is_free
returns-then-is_free c =
    let k = state_of c.args.self.now.lists in
    sym (lowest-is (λ n. is_free (k.place n)) k.size c.loop-number.number (omega (arith, c.loop-number-test.true, c.size-size.ensures)) (sym c.is_free.ensures ∙ c.if-is_free.true) c.loop-number.invariant)

pub returns : goal.returns
returns c =
    let k = state_of c.args.self.now.lists in
    sym (lowest-is_None (λ n. is_free (k.place n)) k.size (λ j l. c.loop-number.invariant j (search rules)))
