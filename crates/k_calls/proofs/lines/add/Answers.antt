use Rattle.std.proofs.Common.{◌≡◌, ◌+◌, ◌-◌, true, false, arith, length, ◌∙◌, sym}
use Rattle.k_calls.specs.Counting.{same_call}
use Rattle.k_calls.proofs.Told.{put_first, put_last, put_new}
use Rattle.k_calls.proofs.lines.add.Goals as goal
use Rattle.k_calls.proofs.lines.add.Goals.{then-len-gt0+else-is_same_call, else-len-gt0}

pub returns-then-is_same_call : goal.returns-then-is_same_call
returns-then-is_same_call c =
    let last : (c.len-len.result - 1) + 1 ≡ length c.args.lines.now.items = omega arith in
    let same : same_call c.index-last.result.now c.args.line ≡ true = sym c.is_same_call.ensures ∙ c.if-is_same_call.true in
    rw c.both.ensures (put_last c.args.lines.now.items c.args.line c.index-last.result.now (c.len-len.result - 1) last c.index-last.ensures same)

pub returns : goal.returns
returns c = c.in_ok-push.ensures.items ∙ elim c.if-len-gt0.branch [
  | then-len-gt0+else-is_same_call w ↦
      let last : (c.len-len.result - 1) + 1 ≡ length c.args.lines.now.items = omega arith in
      let other : same_call w.index-last.result.now c.args.line ≡ false = sym w.is_same_call.ensures ∙ w.if-is_same_call.false in
      put_new c.args.lines.now.items c.args.line w.index-last.result.now (c.len-len.result - 1) last w.index-last.ensures other
  | else-len-gt0 w ↦ put_first c.args.lines.now.items c.args.line (omega arith)
]
