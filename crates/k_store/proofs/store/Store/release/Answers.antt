use Rattle.std.proofs.Common.{refl}
use Rattle.k_locks.specs.declared.locks.WordName.TheVariants as word
use Rattle.k_locks.specs.declared.steps.Answer.TheVariants as answered
use Rattle.k_locks.specs.declared.steps.Step.TheVariants as step
use Rattle.k_locks.specs.declared.steps.Told.TheVariants as told
use Rattle.k_carrier.specs.Answers as answers
use Rattle.k_carrier.specs.Moves as moves
use Rattle.k_store.specs.Conditions.{found_at}
use Rattle.k_store.proofs.Performed.{performed}
use Rattle.k_store.proofs.store.Store.release.Goals as goal

pub returns-clause-performed : goal.returns-clause-performed
returns-clause-performed c = λ script w i.
    performed script w i (moves.Section (step.Release c.args.lock c.args.goods)) c.args.self.now c.fill.new.self (answers.Section (answered.Told told.Released)) (found_at c.args.self.now.words (word.Lock c.args.lock)) refl
    (rw (c.fill.ensures.words, c.set_word.ensures.words, c.bits.ensures) refl)
    (rw (c.fill.ensures.slots script, c.set_word.ensures.slots, c.home_of.ensures) refl)
    refl
