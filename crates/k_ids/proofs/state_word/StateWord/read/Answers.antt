use Rattle.std.proofs.Common.{rules, ◌≡◌, arith}
use Rattle.std.proofs.lemmas.Bool.Decides.{nat_tests}
use Rattle.k_ids.specs.StateWords.{IsStateWord, state_bits}
use Rattle.k_ids.proofs.StateSpelled.{some-spelled, none-spelled}
use Rattle.k_ids.proofs.state_word.StateWord.read.Goals as goal
use Rattle.k_ids.proofs.state_word.StateWord.read.Goals.{else-is_state_word-via-then-is_state_word+else-bits, else-is_state_word-via-else-is_state_word}

pub returns-then-bits-clause-spelled : goal.returns-then-bits-clause-spelled
returns-then-bits-clause-spelled c =
    let whole : IsStateWord c.decoded-word.result = search rules in
    let same : state_bits c.decoded-word.result ≡ c.args.bits = grind (arith, nat_tests) in
    some-spelled c.args.bits c.decoded-word.result c.decoded-word.ensures whole same

pub returns-else-is_state_word-clause-spelled : goal.returns-else-is_state_word-clause-spelled
returns-else-is_state_word-clause-spelled c = elim c.else-is_state_word.branch [
  | else-is_state_word-via-then-is_state_word+else-bits w ↦ none-spelled c.args.bits c.decoded-word.result c.decoded-word.ensures (λ whole same. grind (arith, nat_tests))
  | else-is_state_word-via-else-is_state_word w ↦ none-spelled c.args.bits c.decoded-word.result c.decoded-word.ensures (λ whole same. search rules)
]
