-- What contracts see of a context: all of it, but that the place in the program is seen as the operations that are left.
use Rattle.k_script.specs.Script.{Script}
use Rattle.k_script.specs.Place.{IsPlace, position_in}
use Rattle.k_caller.specs.declared.thread_context.ThreadContext.{ThreadContext}
use Rattle.k_caller.specs.Threads.{ThreadSeen}

abbrev pub thread_in : Script → ThreadContext → ThreadSeen
thread_in script t = record { id = t.id; position = position_in script t.position; own = t.own; serial = t.serial; done = t.done; activity = t.activity }

-- its place is one of this script
abbrev pub IsPlaced : Script → ThreadContext → Type 0
IsPlaced script t = IsPlace script t.position
