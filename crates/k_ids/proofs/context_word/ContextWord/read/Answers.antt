use Rattle.std.proofs.Common.{rules, ◌≡◌, arith}
use Rattle.std.proofs.lemmas.Bool.Decides.{nat_tests}
use Rattle.k_ids.specs.ContextWords.{IsContextWord, context_bits}
use Rattle.k_ids.proofs.ContextSpelled.{some-spelled, none-spelled}
use Rattle.k_ids.proofs.context_word.ContextWord.read.Goals as goal
use Rattle.k_ids.proofs.context_word.ContextWord.read.Goals.{else-is_context_word-via-then-is_context_word+else-bits, else-is_context_word-via-else-is_context_word}

pub returns-then-bits-clause-spelled : goal.returns-then-bits-clause-spelled
returns-then-bits-clause-spelled c =
    let whole : IsContextWord c.decoded-word.result = search rules in
    let same : context_bits c.decoded-word.result ≡ c.args.bits = grind (arith, nat_tests) in
    some-spelled c.args.bits c.decoded-word.result c.decoded-word.ensures whole same

pub returns-else-is_context_word-clause-spelled : goal.returns-else-is_context_word-clause-spelled
returns-else-is_context_word-clause-spelled c = elim c.else-is_context_word.branch [
  | else-is_context_word-via-then-is_context_word+else-bits w ↦ none-spelled c.args.bits c.decoded-word.result c.decoded-word.ensures (λ whole same. grind (arith, nat_tests))
  | else-is_context_word-via-else-is_context_word w ↦ none-spelled c.args.bits c.decoded-word.result c.decoded-word.ensures (λ whole same. search rules)
]
