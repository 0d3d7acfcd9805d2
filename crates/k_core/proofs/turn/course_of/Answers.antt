use Rattle.std.proofs.Common.{subst}
use Rattle.k_world.specs.Marks.{course_by}
use Rattle.k_core.proofs.Courses.{Tells, running_is, tells}
use Rattle.k_core.proofs.turn.course_of.Goals as goal

pub returns-in-Blocked-clause-section : goal.returns-in-Blocked-clause-section
returns-in-Blocked-clause-section c = λ k h s a hand before lock fit after told. (
  h,
  hand,
  running_is k h c.args.before c.in-Some.running hand before c.in-Some.is,
  subst (λ x. Tells h.value x (course_by h.value s a)) c.in-Blocked.is
      (tells k h s a c.args.stepped lock fit told),
)
