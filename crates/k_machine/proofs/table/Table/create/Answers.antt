use Rattle.std.proofs.Common.{◌≡◌, true, sym, arith}
use Rattle.std.specs.Prelude.{nat_lt}
use Rattle.std.proofs.lemmas.Bool.{and_parts}
use Rattle.std.proofs.lemmas.Bool.Decides.{nat_tests}
use Rattle.k_model.specs.Step.{is_free, last_version}
use Rattle.k_model.proofs.Maps.{lowest-Some}
use Rattle.k_machine.specs.Machine.{state_of}
use Rattle.k_machine.proofs.table.Table.create.Goals as goal

pub renew-requires-clause-inside : goal.renew-requires-clause-inside
renew-requires-clause-inside c =
    let k = state_of c.args.self.now.lists in
    (lowest-Some (λ n. is_free (k.place n)) k.size c.in-Some.number (sym c.in-Some.ensures)).0

pub renew-requires-clause-free : goal.renew-requires-clause-free
renew-requires-clause-free c =
    let k = state_of c.args.self.now.lists in
    let free : nat_lt (k.place c.in-Some.number).version last_version ≡ true = (and_parts _ _ (lowest-Some (λ n. is_free (k.place n)) k.size c.in-Some.number (sym c.in-Some.ensures)).1).1 in
    grind (arith, nat_tests, free)

pub found-requires : goal.found-requires
found-requires c =
    let k = state_of c.args.self.now.lists in
    let inside = (lowest-Some (λ n. is_free (k.place n)) k.size c.in-Some.number (sym c.in-Some.ensures)).0 in
    rw c.renew.ensures.state inside
