-- The calls of a run, as its step marks tell of them: which of them have a line, and what stands in it.
use Rattle.std.specs.Prelude.{ℕ, zero, suc, ◌≡◌, ◌==◌, Bool, not, ◌&&◌, List, [], ◌∷◌, length}
use Rattle.std.specs.List.{count_by, filter}
use Rattle.std.specs.List.Sorted.{IsStrictlySortedBy}
use Rattle.std.specs.declared.cmp.Ordering.{Ordering}
use Rattle.std.specs.Ordering.{nat_cmp, ordering_then}
use Rattle.k_ids.specs.declared.threads.ThreadId.{ThreadId}
use Rattle.k_model.specs.State.{same_id}
use Rattle.k_context.specs.declared.owner.Owner.TheVariants as owner
use Rattle.k_carrier.specs.declared.marks.StepMark.{StepMark}
use Rattle.k_world.specs.Lawful.{belongs_to}
use Rattle.k_world.specs.Marks.{capped, same_owner}
use Rattle.k_calls.specs.declared.lines.CallLine.{CallLine}

-- A step was helped if its runner isn't its owner.
abbrev pub is_helped : StepMark → Bool
is_helped m = not (same_owner m.runner m.owner)

-- the marks of a thread's call
abbrev pub marks_of : ThreadId → ℕ → List StepMark → List StepMark
marks_of id serial marks = filter (belongs_to (owner.Thread id) serial) marks

-- the line of a call with so many steps, so many of them helped: none if it made no step
abbrev pub line_of : ThreadId → ℕ → ℕ → ℕ → List CallLine
line_of id serial zero helped = []
line_of id serial (suc before) helped = record { id = id; serial = serial; steps = suc before; helped = helped } ∷ []

-- that of the call with these marks, whose counts stay at the end of their type
abbrev pub line_told : ThreadId → ℕ → List StepMark → List CallLine
line_told id serial marks = line_of id serial (capped (length marks)) (capped (count_by is_helped marks))

-- whether a line is of this call
abbrev pub is_of : ThreadId → ℕ → CallLine → Bool
is_of id serial line = same_id line.id id && (line.serial == serial)

-- by number, then by version, then by serial
abbrev pub call_order : CallLine → CallLine → Ordering
call_order a b = ordering_then (ordering_then (nat_cmp a.id.number b.id.number) (nat_cmp a.id.version b.id.version)) (nat_cmp a.serial b.serial)

-- These are the calls: each one's line as its marks tell it, in their order.
pub record IsCalls (marks : List StepMark) (lines : List CallLine) : Type 0 where
  pub told : (id : ThreadId) (serial : ℕ) → filter (is_of id serial) lines ≡ line_told id serial (marks_of id serial marks)
  pub ordered : IsStrictlySortedBy call_order lines
