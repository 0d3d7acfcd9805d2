-- What comes of a move.
use Rattle.std.specs.Prelude.{ℕ}
use Rattle.k_script.specs.Script.{Script}
use Rattle.k_locks.specs.declared.steps.Answer.{Answer}
use Rattle.k_context.specs.Contexts.{ContextSeen, seen_in}
use Rattle.k_context.specs.Contexts as contexts
use Rattle.k_carrier.specs.declared.moves.SeenAnswer.{SeenAnswer}
use Rattle.k_carrier.specs.declared.moves.SeenAnswer.TheVariants as seen

pub data AnswerSeen : Type 0 where
  Section : Answer → AnswerSeen  -- of the step of the context in hand
  Looked : (word : ℕ) → AnswerSeen  -- the word of the context
  Took : ContextSeen → AnswerSeen  -- the word was as expected, and the context has come
  TakeLost : (found : ℕ) → AnswerSeen  -- it was this
  Given : AnswerSeen

abbrev pub answer_in : Script → SeenAnswer → AnswerSeen
answer_in script (seen.Section a) = Section a
answer_in script (seen.Looked word) = Looked word
answer_in script (seen.Took value) = Took (seen_in script value)
answer_in script (seen.TakeLost found) = TakeLost found
answer_in script seen.Given = Given

-- the place of the thread that has come is one of this script
abbrev pub IsAnswerPlaced : Script → SeenAnswer → Type 0
IsAnswerPlaced script (seen.Took value) = contexts.IsPlaced script value
IsAnswerPlaced script (seen.Section a) = Unit {0}
IsAnswerPlaced script (seen.Looked word) = Unit {0}
IsAnswerPlaced script (seen.TakeLost found) = Unit {0}
IsAnswerPlaced script seen.Given = Unit {0}
