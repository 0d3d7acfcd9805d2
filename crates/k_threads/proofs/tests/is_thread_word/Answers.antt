use Rattle.std.proofs.Common.{arith}
use Rattle.std.proofs.lemmas.Bool.Decides.{nat_tests}
use Rattle.k_threads.proofs.Tested.{spelled}
use Rattle.k_threads.proofs.tests.is_thread_word.Goals as goal

pub returns-in-Some : goal.returns-in-Some
returns-in-Some c = λ born.
    let s = (c.read.ensures.spelled c.in-Some.word).0 c.in-Some.is in
    spelled c.args.bits c.in-Some.word s.0 s.1 (grind (arith, nat_tests, born))
