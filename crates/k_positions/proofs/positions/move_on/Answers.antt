use Rattle.std.proofs.Common.{◌<◌, length, arith}
use Rattle.k_positions.proofs.Places.{call_moves, create_moves, made_number, no_create, none_begins, places_set}
use Rattle.k_positions.proofs.positions.move_on.Goals as goal

pub returns-in_default-phase : goal.returns-in_default-phase
returns-in_default-phase c =
    let script = c.args.script.now in
    let places = c.args.positions.now in
    let e = c.args.entry.now in
    let n = c.from.ensures in
    let inside : c.from.result < length places = omega (arith, c.requires.places.kept, c.requires.caller, n) in
    record {
      moves = call_moves script places e c.in-Call.phase c.from.result c.args.position c.in-Call.is n inside (no_create script c.in-Call.phase e.outcome c.in_default-phase.not-Create);
      places = places_set script places c.from.result c.args.position c.requires.places (omega (arith, c.requires.caller, n)) c.requires.placed;
    }

pub returns-in_default-outcome : goal.returns-in_default-outcome
returns-in_default-outcome c =
    let script = c.args.script.now in
    let places = c.args.positions.now in
    let e = c.args.entry.now in
    let n = c.from.ensures in
    let inside : c.from.result < length places = omega (arith, c.requires.places.kept, c.requires.caller, n) in
    record {
      moves = call_moves script places e c.in-Call.phase c.from.result c.args.position c.in-Call.is n inside (rw c.in-Create.is (none_begins script c.in-Create.program e.outcome c.in_default-outcome.not-Made));
      places = places_set script places c.from.result c.args.position c.requires.places (omega (arith, c.requires.caller, n)) c.requires.placed;
    }

pub returns-clause-moves : goal.returns-clause-moves
returns-clause-moves c =
    let script = c.args.script.now in
    let places = c.args.positions.now in
    let e = c.args.entry.now in
    let n = c.from.ensures in
    let m = c.from-2.ensures in
    create_moves script places e c.in-Call.phase c.in-Create.program c.in-Create.priority c.from.result c.from-2.result c.in-Made.id c.args.position c.start.result
    c.in-Call.is c.in-Create.is c.in-Made.is n (omega (arith, c.requires.places.kept, c.requires.caller, n)) m (omega (arith, m, c.requires.places.kept, made_number script.table e c.in-Call.phase c.in-Create.program c.in-Create.priority c.in-Made.id c.requires.made c.in-Call.is c.in-Create.is c.in-Made.is)) (c.start.ensures.start script c.holds.ensures)
