use Rattle.std.proofs.Common.{rules, ◌≡◌, ◌<◌, length, get_or, inl, inr, ap, ◌∙◌}
use Rattle.std.proofs.lemmas.List.{length-set}
use Rattle.k_logs.proofs.Broken.{broken_more}
use Rattle.k_logs.proofs.standing.break_interrupted.Goals as goal
use Rattle.k_logs.proofs.standing.break_interrupted.Goals.{then-is_interrupted, else-is_interrupted}

pub loop-c-preserved : goal.loop-c-preserved
loop-c-preserved c =
    let inside : c.loop-c.c < length c.args.carriers.now = search rules in
    let read : c.index-carriers-c.result ≡ get_or c.args.carriers.now c.loop-c.c c.index-carriers-c.result = c.index-carriers-c.is in (
      λ script. broken_more script c.args.carriers.now c.args.standing.now c.loop-c.standing c.if-is_interrupted.standing c.loop-c.c c.index-carriers-c.result c.is_interrupted.result inside read (c.is_interrupted.ensures script) (c.loop-c.invariant.0 script)
          (elim c.if-is_interrupted.branch [ then-is_interrupted w ↦ inl (w.if-is_interrupted.true, w.standing-is) | else-is_interrupted w ↦ inr (w.if-is_interrupted.false, w.standing-is) ]),
      elim c.if-is_interrupted.branch [
        | then-is_interrupted w ↦ ap length w.standing-is ∙ (length-set _ _ _ ∙ c.loop-c.invariant.1)
        | else-is_interrupted w ↦ ap length w.standing-is ∙ c.loop-c.invariant.1
      ],
    )
