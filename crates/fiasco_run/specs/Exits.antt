-- How a call of the program ends: the number and the text of each status.
use Rattle.std.specs.Prelude.{ℕ, List, [], ◌∷◌, codes, decimal}
use Rattle.k_reader.specs.declared.fault.Why.{Why}
use Rattle.k_reader.specs.declared.fault.Why.TheVariants as why
use Rattle.k_reader.specs.declared.fault.ScriptFault.{ScriptFault}
use Rattle.k_reader.specs.declared.fault.ScriptFault.TheVariants as fault
use Rattle.k_text.specs.Texts.{Word, line_text}
use Rattle.k_history.specs.Verdicts.{verdict_text}
use Rattle.fiasco_run.specs.declared.exit.Exit.{Exit}
use Rattle.fiasco_run.specs.declared.exit.Exit.TheVariants as exit

-- The exit status of the program: 0 to 6.
abbrev pub exit_number : Exit → ℕ
exit_number exit.Done = 0
exit_number (exit.Refused fault) = 1
exit_number exit.Usage = 2
exit_number exit.ReadFault = 3
exit_number exit.WriteFault = 4
exit_number exit.NoMemory = 5
exit_number (exit.Illegal verdict) = 6

-- The word for what is wrong with a line.
abbrev pub why_word : Why → Word
why_word why.Version = codes "version"
why_word why.Word = codes "word"
why_word why.Order = codes "order"
why_word why.Nest = codes "nest"
why_word why.Number = codes "number"
why_word why.Unknown = codes "unknown"
why_word why.Table = codes "table"
why_word why.Many = codes "many"

-- The words of the line that says why an input is refused.
abbrev pub refusal_words : ScriptFault → List Word
refusal_words fault.TooLarge = codes "refused" ∷ codes "too" ∷ codes "large" ∷ []
refusal_words (fault.Line line reason) = codes "refused" ∷ codes "line" ∷ decimal line ∷ why_word reason ∷ []
refusal_words (fault.TooLong steps) = codes "refused" ∷ codes "too" ∷ codes "long" ∷ decimal steps ∷ []
refusal_words fault.NoMemory = codes "no" ∷ codes "memory" ∷ []

-- The text of a status. What is done has its own text instead, and after a write fault nothing more is put.
abbrev pub exit_text : Exit → List ℕ
exit_text exit.Done = []
exit_text (exit.Refused fault) = line_text (refusal_words fault)
exit_text exit.Usage = codes "usage: fiasco_run run, check, big N, carry M\n"
exit_text exit.ReadFault = codes "read fault\n"
exit_text exit.WriteFault = []
exit_text exit.NoMemory = codes "no memory\n"
exit_text (exit.Illegal verdict) = verdict_text verdict
