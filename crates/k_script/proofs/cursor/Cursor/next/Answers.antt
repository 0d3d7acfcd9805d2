use Rattle.std.proofs.Common.{◌≡◌, ◌<◌, ◌+◌, arith, sym, ap, ◌∙◌, Some, None, slice_get, false, lt_of_lt_of_le}
use Rattle.k_script.specs.declared.operation.Operation.TheVariants as operation
use Rattle.k_script.specs.Flat.{is_marker}
use Rattle.k_script.proofs.Turns.{ahead, passes_into, passes_again, passes_one, passes_end, passes_few, plain_op}
use Rattle.k_script.proofs.Skipped.{passes_to}
use Rattle.k_script.proofs.cursor.Cursor.next.Goals as goal

pub overflow_add-entered : goal.overflow_add-entered
overflow_add-entered c = omega (arith, passes_few c.args.operations.now c.args.self.now c.loop-operation.self c.loop-operation.entered c.requires.program c.loop-operation.invariant)

pub loop-operation-preserved-in-Repeat : goal.loop-operation-preserved-in-Repeat
loop-operation-preserved-in-Repeat c =
    let to = passes_to c.args.operations.now c.args.skips.now c.args.self.now c.loop-operation.self c.read.new.self c.loop-operation.entered c.requires.skips c.loop-operation.invariant c.read.ensures.place in
    let found : slice_get c.args.operations.now c.read.new.self.at ≡ Some (operation.Repeat c.in-Repeat.count) = sym c.read.ensures.operation ∙ c.in-Some.is ∙ ap Some c.in-Repeat.is in
    rw c.enter.ensures (passes_into c.args.operations.now c.args.self.now c.read.new.self c.in-Repeat.count c.loop-operation.entered c.requires.program to.0 found).0

pub loop-operation-smaller-in-Repeat : goal.loop-operation-smaller-in-Repeat
loop-operation-smaller-in-Repeat c =
    let to = passes_to c.args.operations.now c.args.skips.now c.args.self.now c.loop-operation.self c.read.new.self c.loop-operation.entered c.requires.skips c.loop-operation.invariant c.read.ensures.place in
    let found : slice_get c.args.operations.now c.read.new.self.at ≡ Some (operation.Repeat c.in-Repeat.count) = sym c.read.ensures.operation ∙ c.in-Some.is ∙ ap Some c.in-Repeat.is in
    let less : ahead c.args.operations.now c.enter.new.self (c.loop-operation.entered + 1) < ahead c.args.operations.now c.read.new.self c.loop-operation.entered = rw c.enter.ensures (passes_into c.args.operations.now c.args.self.now c.read.new.self c.in-Repeat.count c.loop-operation.entered c.requires.program to.0 found).1 in
    lt_of_lt_of_le less to.1

pub loop-operation-smaller : goal.loop-operation-smaller
loop-operation-smaller c =
    let to = passes_to c.args.operations.now c.args.skips.now c.args.self.now c.loop-operation.self c.read.new.self c.loop-operation.entered c.requires.skips c.loop-operation.invariant c.read.ensures.place in
    let found : slice_get c.args.operations.now c.read.new.self.at ≡ Some operation.Again = sym c.read.ensures.operation ∙ c.in-Some.is ∙ ap Some c.in-Again.is in
    let less : ahead c.args.operations.now c.close-entered.new.self c.close-entered.result < ahead c.args.operations.now c.read.new.self c.loop-operation.entered = rw (c.close-entered.ensures.place, c.close-entered.ensures.entered) (passes_again c.args.operations.now c.args.self.now c.read.new.self c.loop-operation.entered c.requires.program to.0 found).1 in
    lt_of_lt_of_le less to.1

pub loop-operation-preserved : goal.loop-operation-preserved
loop-operation-preserved c =
    let to = passes_to c.args.operations.now c.args.skips.now c.args.self.now c.loop-operation.self c.read.new.self c.loop-operation.entered c.requires.skips c.loop-operation.invariant c.read.ensures.place in
    let found : slice_get c.args.operations.now c.read.new.self.at ≡ Some operation.Again = sym c.read.ensures.operation ∙ c.in-Some.is ∙ ap Some c.in-Again.is in
    rw (c.close-entered.ensures.place, c.close-entered.ensures.entered) (passes_again c.args.operations.now c.args.self.now c.read.new.self c.loop-operation.entered c.requires.program to.0 found).0

pub returns-in_default-operation : goal.returns-in_default-operation
returns-in_default-operation c =
    let to = passes_to c.args.operations.now c.args.skips.now c.args.self.now c.loop-operation.self c.read.new.self c.loop-operation.entered c.requires.skips c.loop-operation.invariant c.read.ensures.place in
    let found : slice_get c.args.operations.now c.read.new.self.at ≡ Some c.in-Some.operation = sym c.read.ensures.operation ∙ c.in-Some.is in
    let plain : is_marker c.in-Some.operation ≡ false = plain_op c.in-Some.operation c.in_default-operation.not-Repeat c.in_default-operation.not-Again in
    let one = passes_one c.args.operations.now c.args.self.now c.read.new.self c.in-Some.operation c.loop-operation.entered c.requires.program to.0 found plain in
    record { left = one.0; end = tt; plain = plain; placed = one.1 }

pub returns-clause-end : goal.returns-clause-end
returns-clause-end c =
    let to = passes_to c.args.operations.now c.args.skips.now c.args.self.now c.loop-operation.self c.read.new.self c.loop-operation.entered c.requires.skips c.loop-operation.invariant c.read.ensures.place in
    let none : slice_get c.args.operations.now c.read.new.self.at ≡ None = sym c.read.ensures.operation ∙ c.in_default.is in
    (passes_end c.args.operations.now c.args.self.now c.read.new.self c.loop-operation.entered to.0 none).1

pub returns-clause-left : goal.returns-clause-left
returns-clause-left c =
    (passes_to c.args.operations.now c.args.skips.now c.args.self.now c.loop-operation.self c.read.new.self c.loop-operation.entered c.requires.skips c.loop-operation.invariant c.read.ensures.place).0.same

pub returns-clause-placed : goal.returns-clause-placed
returns-clause-placed c =
    (passes_to c.args.operations.now c.args.skips.now c.args.self.now c.loop-operation.self c.read.new.self c.loop-operation.entered c.requires.skips c.loop-operation.invariant c.read.ensures.place).0.placed
