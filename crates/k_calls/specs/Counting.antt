-- How the lines are made: what contracts of private functions cite.
use Rattle.std.specs.Prelude.{◌+◌, Bool, if◌then◌else◌, List, [], ◌∷◌}
use Rattle.k_ids.specs.declared.threads.ThreadId.{ThreadId}
use Rattle.k_context.specs.declared.owner.Owner.{Owner}
use Rattle.k_context.specs.declared.owner.Owner.TheVariants as owner
use Rattle.k_carrier.specs.declared.marks.StepMark.{StepMark}
use Rattle.k_world.specs.Marks.{capped}
use Rattle.k_calls.specs.declared.lines.CallLine.{CallLine}
use Rattle.k_calls.specs.Calls.{is_helped, is_of}

abbrev pub same_call : CallLine → CallLine → Bool
same_call a b = is_of b.id b.serial a

-- two lines of one call, as one
abbrev pub both : CallLine → CallLine → CallLine
both a b = record { id = a.id; serial = a.serial; steps = capped (a.steps + b.steps); helped = capped (a.helped + b.helped) }

-- A line of the same call as the last one is added to it, and any other is put behind it.
abbrev pub added : List CallLine → CallLine → List CallLine
added [] line = line ∷ []
added (last ∷ []) line = if same_call last line then both last line ∷ [] else last ∷ line ∷ []
added (first ∷ second ∷ rest) line = first ∷ added (second ∷ rest) line

-- the line of one step
abbrev pub step_line : ThreadId → StepMark → CallLine
step_line id m = record { id = id; serial = m.serial; steps = 1; helped = if is_helped m then 1 else 0 }

abbrev pub counted_for : Owner → List CallLine → StepMark → List CallLine
counted_for (owner.Thread id) lines m = added lines (step_line id m)
counted_for (owner.Carrier c) lines m = lines

abbrev pub counted : List CallLine → StepMark → List CallLine
counted lines m = counted_for m.owner lines m
