use Rattle.std.proofs.Common.{rules, ◌<◌, length, ◌∙◌}
use Rattle.std.proofs.lemmas.List.{length-set}
use Rattle.k_logs.proofs.Got.{GotMore, got_step}
use Rattle.k_logs.proofs.standing.end_got.Goals as goal

pub loop-place-preserved : goal.loop-place-preserved
loop-place-preserved c =
    let inside : c.loop-place.place-index < length c.args.standing.now = search rules in
    let more : GotMore c.args.requester c.args.standing.now c.args.marks.now c.loop-place.place-index _ _ =
    got_step c.args.requester c.args.standing.now c.loop-place.standing c.args.marks.now c.loop-place.marks c.end_if_got.new.marks c.loop-place.place-index _ c.end_if_got.result inside c.loop-place.invariant.0 c.loop-place.invariant.1 (search rules) c.end_if_got.ensures.place c.end_if_got.ensures.marks in
    (more.places, more.waits, length-set _ _ _ ∙ c.loop-place.invariant.2)
