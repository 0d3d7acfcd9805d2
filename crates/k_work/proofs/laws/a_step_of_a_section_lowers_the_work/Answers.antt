use Rattle.k_work.proofs.Steps.{begun, runs, size_stays, switched, woken}
use Rattle.k_work.proofs.laws.a_step_of_a_section_lowers_the_work.Goals as goal

pub returns-clause-runs : goal.returns-clause-runs
returns-clause-runs c = λ g work b b' w k i found step counts proper h low asked made t silent once is.
    runs g work b w proper h k low i b' found step counts asked made t silent once is (size_stays g b i b' t)

pub returns-clause-switches : goal.returns-clause-switches
returns-clause-switches c = λ g work b w k d step s p r proper h low there asked at going an made.
    switched g work b w proper h k low d step s p r there asked at going an made

pub returns-clause-begins : goal.returns-clause-begins
returns-clause-begins c = λ g work b w k step s proper h low hand e at from. begun g work b w proper h k low
    step s hand e at from

pub returns-clause-wakes : goal.returns-clause-wakes
returns-clause-wakes c = λ g work b w k i step proper h low e inside at. woken g work b w proper h k low i
    step e inside at
