use Rattle.std.proofs.Common.{◌<◌, length, arith}
use Rattle.k_writer.proofs.Parts.{ages_kept, ages_grown}
use Rattle.k_writer.proofs.writer.put_ages.Goals as goal
use Rattle.k_writer.proofs.writer.put_ages.Goals.{then-version-ne-NO_VERSION+in_ok-put_line, else-version-ne-NO_VERSION}

pub loop-number-preserved : goal.loop-number-preserved
loop-number-preserved c =
    let versions = c.args.script.now.aged in
    let number = c.loop-number.number in
    let inside : number < length versions = omega (arith, c.holds.ensures.numbered, c.loop-number-test.true, c.table-number-end.ensures) in
    elim c.if-version-ne-NO_VERSION.branch [
      | then-version-ne-NO_VERSION+in_ok-put_line w ↦
          rw w.text-is (ages_grown versions number c.aged-version.result c.args.text.now.items c.loop-number.text.items w.put_line.new.text.items w.aged_line.result inside c.aged-version.ensures w.if-version-ne-NO_VERSION.true c.loop-number.invariant w.aged_line.ensures w.in_ok-put_line.ensures)
      | else-version-ne-NO_VERSION w ↦
          rw w.text-is (ages_kept versions number c.aged-version.result c.args.text.now.items c.loop-number.text.items inside c.aged-version.ensures w.if-version-ne-NO_VERSION.false c.loop-number.invariant)
    ]
