use Rattle.std.proofs.Common.{arith}
use Rattle.std.proofs.lemmas.List.{length-set}
use Rattle.k_history.proofs.Cut.{too_many, words_more}
use Rattle.k_history.proofs.words.line_words.Goals as goal

pub returns-then-count-eq-MOST_WORDS : goal.returns-then-count-eq-MOST_WORDS
returns-then-count-eq-MOST_WORDS c =
    omega (arith, c.loop-rest.invariant.2, too_many (λ w. w.now) c.loop-rest.words c.loop-rest.count c.loop-rest.rest c.args.line.now c.in-Some.text (omega (arith, c.loop-rest.invariant.2)) c.loop-rest.invariant.0 c.in-Some.is)

pub loop-rest-preserved : goal.loop-rest-preserved
loop-rest-preserved c =
    let few = c.if-count-eq-MOST_WORDS.false in (
      words_more (λ w. w.now) c.loop-rest.words c.loop-rest.count c.first_part.result.0 c.loop-rest.rest c.first_part.result.1 c.args.line.now c.in-Some.text (omega (arith, few, c.loop-rest.invariant.1, c.loop-rest.invariant.2)) c.loop-rest.invariant.0 c.in-Some.is c.first_part.ensures.split,
      omega (arith, few, c.loop-rest.invariant.1),
      omega (arith, c.loop-rest.invariant.2, length-set c.loop-rest.words c.loop-rest.count c.first_part.result.0),
    )
