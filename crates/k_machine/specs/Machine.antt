-- What a machine shows: the lists that it keeps, the state that they mean, and for how many more events it has room.
use Rattle.std.specs.Prelude.{ℕ, ◌<◌, ◌≤◌, ◌*◌, List, length, slice_index_or}
use Rattle.k_ids.specs.declared.histories.ReplyLine.{ReplyLine}
use Rattle.k_ids.specs.declared.calls.Phase.{Phase}
use Rattle.k_ids.specs.declared.calls.Phase.TheVariants as phase
use Rattle.k_ids.specs.declared.calls.Act.{Act}
use Rattle.k_ids.specs.declared.calls.Act.TheVariants as act
use Rattle.k_ids.specs.declared.histories.Event.{Event}
use Rattle.k_model.specs.State.{KernelState, Place, nowhere}
use Rattle.k_model.specs.Sound.{IsListed, IsSound}
use Rattle.k_model.specs.Ranges.{IsRanged}
use Rattle.k_model.specs.Answered.{IsAnswered}

-- A list of places as a map.
unfoldable pub seen : List Place → ℕ → Place
seen places number = slice_index_or places number nowhere

-- A state as lists. (A Model's Value can't have a function in it.)
pub record KernelLists : Type 0 where
  pub places : List Place
  pub replies : List ReplyLine

-- the state that the lists mean
unfoldable pub state_of : KernelLists → KernelState
state_of lists = record { size = length lists.places; place = seen lists.places; replies = lists.replies }

-- lists, and for how many more replies there is room
pub record KernelTable : Type 0 where
  pub lists : KernelLists
  pub spare : ℕ

-- lists, and for how many more events there is room
pub record Running : Type 0 where
  pub lists : KernelLists
  pub room : ℕ

-- What holds of a machine: an event has two replies at most, and for these there is room; there are 1 to 64 numbers; and
-- the state has what each reached state has.
pub record IsReady (t : KernelTable) (room : ℕ) : Type 0 where
  pub spare : 2 * room ≤ t.spare
  pub some : 1 ≤ (state_of t.lists).size
  pub small : (state_of t.lists).size ≤ 64
  pub sound : IsSound (state_of t.lists)
  pub listed : IsListed (state_of t.lists)
  pub answered : IsAnswered (state_of t.lists)
  pub ranged : IsRanged (state_of t.lists)

-- The numbers that an event names are in the table.
abbrev pub NamesInside : ℕ → Phase → Type 0
NamesInside size (phase.Send to message zero joined) = to.number < size
NamesInside size (phase.Reply to message zero) = to.number < size
NamesInside size (phase.Receive from zero) = Unit {0}
NamesInside size (phase.Create program priority) = Unit {0}
NamesInside size (phase.Destroy who) = who.number < size
NamesInside size phase.End = Unit {0}

abbrev pub ActsInside : ℕ → Act → Type 0
ActsInside size (act.Call phase) = NamesInside size phase
ActsInside size act.Gone = Unit {0}
ActsInside size act.Pick = Unit {0}

pub record IsInTable (size : ℕ) (e : Event) : Type 0 where
  pub caller : e.who.number < size
  pub partner : ActsInside size e.act
