-- How a call is printed.
use Rattle.std.specs.Prelude.{ℕ, List, [], ◌∷◌, codes, decimal}
use Rattle.k_text.specs.Texts.{id_word, line_text}
use Rattle.k_calls.specs.declared.lines.CallLine.{CallLine}

abbrev pub call_text : CallLine → List ℕ
call_text c = line_text (codes "call" ∷ id_word c.id ∷ decimal c.serial ∷ codes "steps" ∷ decimal c.steps ∷ codes "helped" ∷ decimal c.helped ∷ [])
