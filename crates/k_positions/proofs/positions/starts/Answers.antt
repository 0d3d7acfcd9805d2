use Rattle.std.proofs.Common.{◌≡◌, ◌++◌, [], ◌∷◌, arith, length-append}
use Rattle.k_script.specs.Place.{IsPlace, position_in}
use Rattle.k_script.specs.Plays.{start_of, first_id}
use Rattle.k_positions.specs.Positions.{program_at}
use Rattle.k_positions.proofs.Places.{places_push}
use Rattle.k_positions.proofs.positions.starts.Goals as goal

pub loop-number-preserved : goal.loop-number-preserved
loop-number-preserved c =
    let script = c.args.script.now in
    let n = c.loop-number.number in
    let places = c.loop-number.positions.items in
    let p = c.start.result in
    let i = c.loop-number.invariant in
    let pushed = c.in_ok-push.ensures in
    let items : c.push.new.self.items ≡ places ++ p ∷ [] = pushed.items in
    let is = c.start.ensures.start script c.holds.ensures in
    rw items (
      omega (arith, i.0, length-append places (p ∷ [])),
      places_push (λ t q. IsPlace script q) places p n i.0 i.1 (c.start.ensures.placed script c.holds.ensures),
      places_push (λ t q. position_in script q ≡ start_of script (program_at script t) (first_id t)) places p n i.0 i.2 (rw (← c.program_at.ensures) is),
    )
