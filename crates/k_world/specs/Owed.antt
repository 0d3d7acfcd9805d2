-- Who makes the steps that are counted in a wait, and how many they may be. It is claimed of one carrier.
use Rattle.std.specs.Prelude.{◌≡◌, ◌≤◌, ℕ, Bool, true, ◌&&◌, Some, None, List}
use Rattle.std.specs.List.{list_any}
use Rattle.k_script.specs.Script.{Script}
use Rattle.k_context.specs.Contexts.{ContextSeen, locks_of, owner_of}
use Rattle.k_carrier.specs.declared.marks.Link.{Link}
use Rattle.k_carrier.specs.declared.marks.WaitMark.{WaitMark}
use Rattle.k_carrier.specs.declared.marks.Want.{Want}
use Rattle.k_carrier.specs.declared.marks.Want.TheVariants as want
use Rattle.k_carrier.specs.Rules.{still_holds}
use Rattle.k_world.specs.Lawful.{links_of}
use Rattle.k_world.specs.Marks.{Onward, got_by, has_mark, same_owner, standing_at}
use Rattle.k_world.specs.Steps.{course_in, step_in, unbroken_waits}
use Rattle.k_world.specs.Worlds.{World}

-- it holds what is wanted: the lock, or, where a context is wanted, any
abbrev pub has_wanted : ContextSeen → Want → Bool
has_wanted v (want.Lock l) = still_holds (Some l) (locks_of v)
has_wanted v (want.Context i) = still_holds None (locks_of v)

abbrev pub is_owing : ContextSeen → Link → Bool
is_owing v link = same_owner (owner_of v) link.owner && has_wanted v link.wants

-- The next step of this context is owed to the wait with these links: it is the owner of one of them, and holds what that link is for.
abbrev pub IsOwed : List Link → ContextSeen → Type 0
IsOwed links v = list_any (is_owing v) links ≡ true

-- A carrier's step that is counted in its mark is owed to that wait.
abbrev pub CountsOwed : Script → ℕ → World → Type 0
CountsOwed script c w = (v : ContextSeen) (k : ℕ) → course_in (step_in script c w) ≡ Onward v → has_mark v ≡ true →
    standing_at (got_by (owner_of v) (unbroken_waits w)) c ≡ Some k → IsOwed (links_of k w.waits.links) v

-- A wait that was got is bounded: no more steps were used than its links allow.
abbrev pub IsBounded : WaitMark → Type 0
IsBounded m = m.got ≡ true → m.used ≤ m.allowed
