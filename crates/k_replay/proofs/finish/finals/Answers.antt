use Rattle.std.proofs.Common.{List, [], ◌∷◌, ◌++◌, map, ap, sym, ◌∙◌, zero-add}
use Rattle.std.specs.List.{range_with_len}
use Rattle.std.proofs.lemmas.List.FromFn.{map-range_with_len_more}
use Rattle.k_ids.specs.declared.threads.Found.{Found}
use Rattle.k_machine.specs.Machine.{state_of}
use Rattle.k_model.specs.State.{found_of}
use Rattle.k_replay.proofs.finish.finals.Goals as goal

pub loop-number-preserved : goal.loop-number-preserved
loop-number-preserved c =
    let f = found_of (state_of c.args.machine.now.lists) in
    let n = c.loop-number.number in
    c.in_ok-push.ensures.items ∙ ap (λ (xs : List Found). xs ++ c.status.result ∷ []) c.loop-number.invariant
    ∙ ap (λ (x : Found). map f (range_with_len 0 n) ++ x ∷ []) c.status.ensures
    ∙ sym (map-range_with_len_more f 0 n n (zero-add n))
