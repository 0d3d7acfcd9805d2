-- How far a carrier is from its next step of a section, while no other one moves: it looks at contexts, takes and gives them,
-- and asks in vain for what is held.
use Rattle.std.specs.Prelude.{◌≡◌, ℕ, ◌+◌, ◌-◌, ◌*◌, ◌<◌, ◌≤◌, ◌==◌, Bool, true, false, Option, Some, None, if◌then◌else◌}

-- A context and what it holds, by its rank in the lock order: 0 the table lock, 1 a context that is to be removed, 2 a thread's
-- lock, 3 the ready lock.
pub record Held : Type 0 where
  pub owner : ℕ
  pub rank : ℕ

-- whether the carrier has looked at the word of the context that it is to take
pub data Looked : Type 0 where
  No : Looked
  -- The word has changed since.
  Old : Looked
  Now : Looked

-- what of a carrier decides its next move. Contexts are told by their numbers.
pub record Seat : Type 0 where
  -- its own context, which makes its switches
  pub own : ℕ
  -- its goal's context, or its own where it is switching
  pub target : ℕ
  pub hand : Option ℕ
  pub help : Option Held
  pub looked : Looked
  -- Without a hand it begins to switch.
  pub begins : Bool
  -- Its own context has a finished switch.
  pub finished : Bool

-- what a finished switch leaves: whom the carrier turns to, and whether it begins to switch again
pub record Turned : Type 0 where
  pub target : ℕ
  pub begins : Bool

-- the context that it is to run: the helped one, or else its target
abbrev pub wanted : ℕ → Option Held → ℕ
wanted target None = target
wanted target (Some held) = held.owner

-- `blocked`: what the context's next step finds held. `holds`: the owner found still holds it. `clean`: the word of the owner's
-- context says that it holds nothing.
module _ (blocked : ℕ → Option Held) (holds clean : Held → Bool) where
  -- The context in hand is asked for its step. None: nothing is held against it, and a section goes on.
  abbrev pub asks : Seat → Option Held → Option Seat
  asks seat None = None
  asks seat (Some held) = Some (record seat { help = Some held })

  -- It gives a context that is neither its target nor helped, and a helped one that has released; else it asks.
  abbrev pub with_help : Seat → ℕ → Option Held → Option Seat
  with_help seat hand None =
      if hand == seat.target then asks seat (blocked hand) else Some (record seat { hand = None })
  with_help seat hand (Some held) =
      if hand == held.owner
      then (if holds held then asks seat (blocked hand) else Some (record seat { hand = None; help = None }))
      else Some (record seat { hand = None })

  -- Its own context is given once the switch is finished; that ends the switch.
  abbrev pub with_hand : Seat → Turned → ℕ → Option Seat
  with_hand seat turned hand =
      if seat.finished
      then (if hand == seat.own
      then Some (record seat { hand = None; begins = turned.begins; finished = false; target = turned.target })
      else with_help seat hand seat.help)
      else with_help seat hand seat.help

  -- A look at a helped context that holds nothing ends the help.
  abbrev pub looks : Seat → Option Held → Seat
  looks seat None = record seat { looked = Now }
  looks seat (Some held) = if clean held then record seat { help = None } else record seat { looked = Now }

  -- It looks, and takes by the word that it looked at. If that word has changed, it looks again.
  abbrev pub without_hand : Seat → Looked → Seat
  without_hand seat No = looks seat seat.help
  without_hand seat Old = record seat { looked = No }
  without_hand seat Now = record seat { hand = Some (wanted seat.target seat.help); looked = No }

  -- A carrier that is to switch gives what it has in hand, and then takes its own context, in which the switch begins.
  abbrev pub moved : Seat → Turned → Bool → Option ℕ → Option Seat
  moved seat turned true None =
      Some (record seat { begins = false; target = seat.own; help = None; looked = Now })
  moved seat turned true (Some hand) = Some (record seat { hand = None })
  moved seat turned false None = Some (without_hand seat seat.looked)
  moved seat turned false (Some hand) = with_hand seat turned hand

  -- the seat after the next move; None where this is the step of a section that goes on
  abbrev pub next_seat : Seat → Turned → Option Seat
  next_seat seat turned = moved seat turned seat.begins seat.hand

  -- The higher what the help was found for ranks, the nearer; a help that has released is the farthest.
  abbrev pub level : Option Held → ℕ
  level None = 4
  level (Some held) = if holds held then 3 - held.rank else 5

  -- how far it is from having the wanted context in hand
  abbrev pub place : ℕ → Option ℕ → Looked → ℕ
  place target None Now = 1
  place target None No = 2
  place target None Old = 3
  place target (Some hand) looked = if hand == target then 0 else 4

  abbrev pub begin_place : Option ℕ → ℕ
  begin_place None = 31
  begin_place (Some hand) = 32

  -- A switch that is to be ended counts more than all else.
  abbrev pub near : Seat → ℕ
  near seat =
      if seat.begins
      then begin_place seat.hand
      else (if seat.finished then 40 else 0) + 5 * level seat.help
      + place (wanted seat.target seat.help) seat.hand seat.looked

  -- what the sections give
  pub record IsRanked : Type 0 where
    -- Who is found holds what it is found for.
    pub found : (context : ℕ) (held : Held) → blocked context ≡ Some held → (held.rank ≤ 3) × (holds held ≡ true)
    -- A context whose word says so holds nothing.
    pub freed : (held : Held) → clean held ≡ true → holds held ≡ false
    -- Who holds something asks only for what ranks above it.
    pub above : (first second : Held) → holds first ≡ true → blocked first.owner ≡ Some second → first.rank < second.rank
