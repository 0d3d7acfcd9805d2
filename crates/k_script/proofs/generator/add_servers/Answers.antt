use Rattle.std.proofs.Common.{◌≡◌, ◌+◌, List, [], ◌∷◌, ◌++◌, map, ap, sym, ◌∙◌, arith, append_assoc}
use Rattle.std.specs.List.{range_with_len}
use Rattle.std.proofs.lemmas.List.FromFn.{map-range_with_len_more}
use Rattle.k_script.specs.declared.lines.ThreadLine.{ThreadLine}
use Rattle.k_script.specs.Big.{server_thread}
use Rattle.k_script.proofs.generator.add_servers.Goals as goal

pub loop-index-preserved : goal.loop-index-preserved
loop-index-preserved c =
    let e : 0 + c.loop-index.index ≡ c.loop-index.index = omega arith in
    c.in_ok-push.ensures.items
    ∙ ap (λ (xs : List ThreadLine). xs ++ server_thread c.loop-index.index ∷ []) c.loop-index.invariant
    ∙ append_assoc c.args.threads.now.items (map server_thread (range_with_len 0 c.loop-index.index)) (server_thread c.loop-index.index ∷ [])
    ∙ ap (λ (xs : List ThreadLine). c.args.threads.now.items ++ xs) (sym (map-range_with_len_more server_thread 0 c.loop-index.index c.loop-index.index e))
