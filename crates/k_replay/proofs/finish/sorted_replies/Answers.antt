use Rattle.std.proofs.Common.{rules, ◌≡◌, ◌∙◌, subst, List}
use Rattle.std.specs.List.Sorted.{IsPermutation}
use Rattle.std.proofs.lemmas.List.Sorted.{answers_always}
use Rattle.k_ids.specs.declared.histories.ReplyLine.{ReplyLine}
use Rattle.k_machine.specs.Machine.{state_of}
use Rattle.k_replay.proofs.finish.sorted_replies.Goals as goal

pub returns : goal.returns
returns c =
    let moved : IsPermutation c.in_ok-replies.replies.items c.sort_by_key.new.self.items =
    c.in_ok-sort_by_key.ensures.permutation in
    let copied : c.in_ok-replies.replies.items ≡ (state_of c.args.machine.now.lists).replies =
    c.in_ok-replies.ensures.items ∙ c.replies.ensures in
    record {
      same = subst (λ (rs : List ReplyLine). IsPermutation rs c.sort_by_key.new.self.items) copied moved;
      ordered =
          c.in_ok-sort_by_key.ensures.sorted (λ (r : ReplyLine). (r.id.number, r.id.version, r.serial))
          (answers_always _ _ _ (λ a r q k. search rules));
    }
