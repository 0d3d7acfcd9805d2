-- What a context asks for, and that it can be spelled.
use Rattle.std.specs.Prelude.{ℕ, ◌<◌, ◌^◌, Option, Some, None}
use Rattle.k_ids.specs.declared.state_word.StateWord.{StateWord}
use Rattle.k_ids.specs.declared.threads.ThreadId.{ThreadId}
use Rattle.k_ids.specs.StateWords.{IsStateWord}
use Rattle.k_locks.specs.Asks.{Ask}
use Rattle.k_locks.specs.Asks as asks
use Rattle.k_ipc.specs.SendTable as send
use Rattle.k_ipc.specs.ReceiveTable as receive
use Rattle.k_threads.specs.CreateTable as create
use Rattle.k_threads.specs.DestroyTable as destroy
use Rattle.k_caller.specs.declared.activity.Activity.{Activity}
use Rattle.k_caller.specs.declared.activity.Activity.TheVariants as activity
use Rattle.k_caller.specs.Waits as alone
use Rattle.k_switch.specs.declared.switch.Switch.{Switch}
use Rattle.k_switch.specs.Switches as switch
use Rattle.k_context.specs.Contexts.{ContextSeen, Thread, Carrier}
use Rattle.k_places.specs.Shows.{IsLockOf}

-- what a thread asks for, by what it is about
abbrev pub ask_in : ThreadId → StateWord → Activity → Ask
ask_in me own (activity.Alone p) = alone.ask_of me own p
ask_in me own (activity.Send s) = send.ask_of s.call s.own (send.at_of s.location)
ask_in me own (activity.Receive s) = receive.ask_of s.call s.own (receive.at_of s.location)
ask_in me own (activity.Create s) = create.ask_of s.call s.own (create.at_of s.location)
ask_in me own (activity.Destroy s) = destroy.ask_of s.call s.own (destroy.at_of s.location)

abbrev pub ask_of_switch : Option Switch → Ask
ask_of_switch None = asks.Load 0  -- it isn't asked
ask_of_switch (Some s) = switch.ask_of s.call (switch.at_of s.location)

-- what a context asks for
abbrev pub ask_at : ContextSeen → Ask
ask_at (Thread t) = ask_in t.id t.own t.activity
ask_at (Carrier k) = ask_of_switch k.switch

-- the words that a step writes or expects have spellings, and a lock is one that there is in a table of this size
abbrev pub IsSpelled : ℕ → Ask → Type 0
IsSpelled size (asks.Load n) = Unit {0}
IsSpelled size (asks.LoadMail n) = Unit {0}
IsSpelled size (asks.Post n message) = message.low < 2 ^ 32
IsSpelled size (asks.Exchange n old new) = IsStateWord old × IsStateWord new
IsSpelled size (asks.Acquire l) = IsLockOf size l
IsSpelled size (asks.Release l) = IsLockOf size l
IsSpelled size (asks.Place id program priority) = Unit {0}
IsSpelled size (asks.Remove id) = Unit {0}
