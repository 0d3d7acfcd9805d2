use Rattle.std.proofs.Common.{◌≡◌, List, ℕ, Result, Ok, sym, ◌∙◌}
use Rattle.k_script.specs.Script.{Script}
use Rattle.k_reader.specs.Reading.{BadLine}
use Rattle.k_reader.specs.Grammar.{IsText}
use Rattle.k_reader.proofs.Meaning.{script-read}
use Rattle.k_reader.proofs.Converse.{text-read}
use Rattle.k_reader.proofs.laws.a_text_is_read.Goals as goal

pub returns-clause-read : goal.returns-clause-read
returns-clause-read c = script-read

pub returns-clause-text : goal.returns-clause-text
returns-clause-text c = text-read

same_script : (s t : Script) → ◌≡◌ {A = Result Script BadLine} (Ok s) (Ok t) → s ≡ t
same_script s t h = cc

one : (bytes : List ℕ) (s t : Script) → IsText bytes s → IsText bytes t → s ≡ t
one bytes s t h i = same_script s t (sym (text-read bytes s h) ∙ text-read bytes t i)

pub returns-clause-one : goal.returns-clause-one
returns-clause-one c = one
