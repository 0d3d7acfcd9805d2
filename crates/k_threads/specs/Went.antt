-- How a section goes on where its location says nothing else.
use Rattle.std.specs.Prelude.{Bool, not, ◌&&◌, if◌then◌else◌}
use Rattle.k_locks.specs.declared.steps.Answer.{Answer}
use Rattle.k_locks.specs.declared.steps.Went.{Went}
use Rattle.k_locks.specs.declared.steps.Went.TheVariants as went
use Rattle.k_locks.specs.declared.steps.Step.{Step}
use Rattle.k_locks.specs.Steps.{is_again, suits}

abbrev pub went_on : Answer → Went
went_on a = if is_again a then went.Again else went.On

-- an answer that makes a step: the step can have it, and isn't asked for again
abbrev pub makes : Step → Answer → Bool
makes s a = suits s a && not (is_again a)
