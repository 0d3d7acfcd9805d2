use Rattle.std.proofs.Common.{refl, ◌≡◌, Some, slice_get, ◌≤◌, ◌+◌, length, arith, ap, sym, ◌∙◌, rules, ltb-true}
use Rattle.std.proofs.lemmas.Option.{slice_get_read}
use Rattle.k_script.specs.declared.operation.Operation.TheVariants as operation
use Rattle.k_script.specs.Skips.{IsSkip}
use Rattle.k_script.proofs.Skipped.{over_empty, skip_there, read_at}
use Rattle.k_script.proofs.skips.skip_at.Goals as goal

pub returns-in-Some-Again : goal.returns-in-Some-Again
returns-in-Some-Again c =
    let within : IsSkip c.args.operations.now (c.args.place + 1) c.skip_from-end.result = rw c.skip_from-end.ensures (skip_there c.args.operations.now c.args.skips.now (c.args.place + 1) c.requires.skips (omega (arith, c.requires.place))) in
    let opens : slice_get c.args.operations.now c.args.place ≡ Some (operation.Repeat c.in-Repeat.count) = read_at c.args.operations.now c.from.result c.args.place _ (operation.Repeat c.in-Repeat.count) c.from.ensures c.requires.place c.in-Repeat.is in
    let ends : slice_get c.args.operations.now c.skip_from-end.result ≡ Some operation.Again =
    ap (slice_get c.args.operations.now) (sym c.from-2.ensures)
    ∙ slice_get_read c.args.operations.now (length c.args.operations.now) c.from-2.result c.in-Some-Again.field-0.now refl (ltb-true c.from-2.result (length c.args.operations.now) (sym c.in-Some-Again.ensures.lookup.0)) c.in-Some-Again.ensures.lookup.1
    ∙ ap Some c.in-Some-Again.field-0-is in
    let inside : c.skip_from-end.result + 1 ≤ length c.args.operations.now = search rules in
    let behind : IsSkip c.args.operations.now (c.skip_from-end.result + 1) c.skip_from.result = rw c.skip_from.ensures (skip_there c.args.operations.now c.args.skips.now (c.skip_from-end.result + 1) c.requires.skips inside) in
    over_empty c.args.operations.now c.args.place c.in-Repeat.count c.skip_from-end.result c.skip_from.result opens within ends behind
