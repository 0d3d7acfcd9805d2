-- The carrier with its hand: when it gives a context back, looks at one, takes one and makes its step, as far as its wait marks
-- depend on it. Over any sections.
use Rattle.std.specs.Prelude.{◌≡◌, ◌≢◌, ℕ, ◌==◌, Bool, true, false, not, ◌&&◌, ◌||◌, ◌⊎◌, List, [], ◌∷◌, Option, Some, None, is_some, is_none, if◌then◌else◌, unwrap_or}
use Rattle.k_locks.specs.Asks.{Want, Context}
use Rattle.k_bound.specs.Sections.{Sections}
use Rattle.k_bound.specs.Waits.{Helping, OwnerFound, WaitMark, help_after, holds, is_for, mark_found, mark_helped, owner_found, with_got}
use Rattle.k_bound.specs.Chains.{IsSound}

pub record Carrier (State : Type 0) : Type 0 where
  pub state : State
  -- the number of its own context, which makes its switches
  pub own : ℕ
  -- the context of the thread that it runs
  pub goal : Option ℕ
  pub switching : Bool
  -- its own context has a finished switch
  pub switched : Bool
  -- the context that it has taken
  pub hand : Option ℕ
  pub help : Option OwnerFound
  -- It has looked at the context that it is to take.
  pub looked : Bool
  -- It is to put its hand down.
  pub putting : Bool
  -- A start, the end of a time slice or a thread of a higher priority asks for a switch.
  pub interrupted : Bool
  pub mark : Option WaitMark
  pub got : List WaitMark

-- what a step tells beside what holds it up
pub record StepTells : Type 0 where
  -- the goal has left the processor, or its context is dead
  pub goal_ends : Bool
  -- a thread of a higher priority than the goal's is ready
  pub preempts : Bool
  pub switch_ends : Bool
  -- the goal that a finished switch has found
  pub next_goal : Option ℕ

pub data CarrierEvent : Type 0 where
  -- one atomic step of the carrier
  Steps : StepTells → CarrierEvent
  -- a start, or the end of a time slice
  Interrupts : CarrierEvent
  Parks : CarrierEvent

-- WHEN THE HAND IS GIVEN BACK

abbrev pub is_helped : ℕ → Option OwnerFound → Bool
is_helped hand None = false
is_helped hand (Some help) = hand == help.owner

-- Another one is to be helped.
abbrev pub is_in_the_way : ℕ → Option OwnerFound → Bool
is_in_the_way hand None = false
is_in_the_way hand (Some help) = not (hand == help.owner)

-- a goal is a thread's context, never the carrier's own
abbrev pub thread_goal : ℕ → Option ℕ → Option ℕ
thread_goal own goal = if is_for goal own then None else goal

abbrev pub broken_where : Bool → Option WaitMark → Option WaitMark
broken_where breaks mark = if breaks then None else mark

module _ {State : Type 0} where
  abbrev pub is_put_down : Carrier State → Bool
  is_put_down carrier = carrier.putting

  -- It is the carrier's own, with a finished switch.
  abbrev pub has_switched : Carrier State → ℕ → Bool
  has_switched carrier hand = (hand == carrier.own) && carrier.switched

  -- It is a thread's, and the carrier neither runs it nor helps it.
  abbrev pub is_nobodys : Carrier State → ℕ → Option OwnerFound → Bool
  is_nobodys carrier hand help = not ((hand == carrier.own) || (is_helped hand help || is_for carrier.goal hand))

  abbrev pub is_interrupted : Carrier State → Bool
  is_interrupted carrier = carrier.interrupted && not carrier.switching

  -- The carrier is interrupted, and it isn't its own.
  abbrev pub is_stopped : Carrier State → ℕ → Bool
  is_stopped carrier hand = is_interrupted carrier && not (hand == carrier.own)

  -- whom the carrier works for. Without a goal it is its own context, since a switch begins next.
  abbrev pub requester_of : Carrier State → ℕ
  requester_of carrier = if carrier.switching then carrier.own else unwrap_or carrier.goal carrier.own

  -- The goal of a hand that ends is dropped.
  abbrev pub drops_goal : Carrier State → ℕ → Bool → Bool
  drops_goal carrier hand ends = ends && (is_for carrier.goal hand && not carrier.switching)

  abbrev pub goal_after : Carrier State → ℕ → Bool → Option ℕ
  goal_after carrier hand ends = if drops_goal carrier hand ends then None else carrier.goal

  -- A switch begins where the carrier is interrupted or has no goal.
  abbrev pub begins_switch : Carrier State → Bool
  begins_switch carrier = not carrier.switching && (carrier.interrupted || is_none carrier.goal)

  abbrev pub switch_begun : Carrier State → Carrier State
  switch_begun carrier =
      record carrier { switching = true; interrupted = false; help = None; looked = false; mark = None }

  -- A goal whose context is dead is dropped.
  abbrev pub taken : Carrier State → Option OwnerFound → StepTells → Carrier State
  taken carrier None told = record carrier {
    hand = Some (requester_of carrier);
    looked = false;
    goal = goal_after carrier (requester_of carrier) told.goal_ends;
    mark = broken_where (drops_goal carrier (requester_of carrier) told.goal_ends) carrier.mark;
  }
  taken carrier (Some help) told = record carrier { hand = Some help.owner; looked = false }

  -- A context word says that the context is taken where it is in the hand.
  abbrev pub is_taken : Carrier State → ℕ → Bool
  is_taken carrier context = is_for carrier.hand context

  abbrev pub removes_taken : Carrier State → Option Want → Bool
  removes_taken carrier (Some (Context number)) = is_taken carrier number
  removes_taken carrier want = false

  -- whom it looks at and takes without a hand
  abbrev pub sought_by : Carrier State → Option OwnerFound → ℕ
  sought_by carrier None = requester_of carrier
  sought_by carrier (Some help) = help.owner

  -- A hand that isn't helped is the requester's, or that of a goal that was dropped.
  abbrev pub IsHandSound : Carrier State → Option ℕ → Option OwnerFound → Type 0
  IsHandSound carrier None help = Unit {0}
  IsHandSound carrier (Some hand) None = (hand ≡ requester_of carrier) ⊎ ((carrier.goal ≡ None) × (hand ≢ carrier.own))
  IsHandSound carrier (Some hand) (Some help) = Unit {0}

module _ {State : Type 0} (sections : Sections State) where
  -- It is whom the carrier helps, and has released what it was found for.
  abbrev pub is_released : State → ℕ → Option OwnerFound → Bool
  is_released state hand None = false
  is_released state hand (Some help) = (hand == help.owner) && not (holds sections state help)

  abbrev pub gives_back : Carrier State → ℕ → Bool
  gives_back carrier hand =
      is_put_down carrier ||
      (has_switched carrier hand ||
      (is_released carrier.state hand carrier.help ||
      (is_in_the_way hand carrier.help ||
      (is_nobodys carrier hand carrier.help || is_stopped carrier hand))))

  abbrev pub help_given : State → ℕ → Option OwnerFound → Option OwnerFound
  help_given state hand help = if is_released state hand help then None else help

  abbrev pub given : Carrier State → ℕ → Option ℕ → Carrier State
  given carrier hand next_goal =
      if has_switched carrier hand
      then record carrier {
        hand = None;
        putting = false;
        help = help_given carrier.state hand carrier.help;
        goal = thread_goal carrier.own next_goal;
        switching = false;
        switched = false;
        mark = None;
      }
      else record carrier { hand = None; putting = false; help = help_given carrier.state hand carrier.help }

  -- WHAT THE HAND'S STEP DOES

  -- Nobody holds it up. One that is made for a help and interrupts the carrier is counted before its mark is broken.
  abbrev pub hand_went_on : Carrier State → ℕ → Option OwnerFound → StepTells → Carrier State
  hand_went_on carrier hand None told = record carrier {
    state = sections.step carrier.state hand;
    goal = goal_after carrier hand told.goal_ends;
    switched = carrier.switched || (told.switch_ends && (hand == carrier.own));
    interrupted = carrier.interrupted || told.preempts;
    mark = None;
    got = with_got carrier.mark carrier.got;
  }
  hand_went_on carrier hand (Some help) told = record carrier {
    state = sections.step carrier.state hand;
    interrupted = carrier.interrupted || told.preempts;
    mark = broken_where (told.preempts && not carrier.switching) (mark_helped sections carrier.state help carrier.mark);
  }

  abbrev pub hand_answered : Carrier State → ℕ → Want → Option ℕ → StepTells → Carrier State
  hand_answered carrier hand want None told = hand_went_on carrier hand carrier.help told
  hand_answered carrier hand want (Some owner) told = record carrier {
    help = Some (owner_found owner want);
    mark = mark_found sections carrier.state carrier.help (owner_found owner want) carrier.mark;
  }

  abbrev pub hand_stepped : Carrier State → ℕ → Option Want → StepTells → Carrier State
  hand_stepped carrier hand None told = hand_went_on carrier hand carrier.help told
  hand_stepped carrier hand (Some want) told = hand_answered carrier hand want (sections.holder carrier.state want) told

  -- WITHOUT A HAND

  -- A goal whose context was removed is dropped, and so is a help that has released.
  abbrev pub looked_at : Carrier State → Option OwnerFound → Carrier State
  looked_at carrier None = if not carrier.switching && sections.removed carrier.state (requester_of carrier)
      then record carrier { goal = None; mark = None }
      else record carrier { looked = true }
  looked_at carrier (Some help) = if holds sections carrier.state help
      then record carrier { looked = true }
      else record carrier { help = None }

  abbrev pub without_hand : Carrier State → StepTells → Carrier State
  without_hand carrier told = if carrier.looked then taken carrier carrier.help told else looked_at carrier carrier.help

  abbrev pub stepped_with : Carrier State → Option ℕ → StepTells → Carrier State
  stepped_with carrier None told =
      if begins_switch carrier then without_hand (switch_begun carrier) told else without_hand carrier told
  stepped_with carrier (Some hand) told = if gives_back carrier hand
      then given carrier hand told.next_goal
      else hand_stepped carrier hand (sections.wants carrier.state hand) told

  -- An interruption breaks the mark, unless the carrier is switching already.
  abbrev pub happened : CarrierEvent → Carrier State → Carrier State
  happened (Steps told) carrier = stepped_with carrier carrier.hand told
  happened Interrupts carrier =
      record carrier { interrupted = true; mark = broken_where (not carrier.switching) carrier.mark }
  happened Parks carrier = record carrier { putting = is_some carrier.hand }

  abbrev pub run_of : List CarrierEvent → Carrier State → Carrier State
  run_of [] carrier = carrier
  run_of (event ∷ events) carrier = run_of events (happened event carrier)

  -- WHAT A CARRIER SHOWS OF ITS WAITS

  -- A help counts as long as its owner holds what it was found for.
  abbrev pub live_help : State → Option OwnerFound → Option OwnerFound
  live_help state None = None
  live_help state (Some help) = help_after sections state help

  abbrev pub shown_of : Carrier State → Helping State
  shown_of carrier = record {
    state = carrier.state;
    requester = requester_of carrier;
    help = live_help carrier.state carrier.help;
    mark = carrier.mark;
    got = carrier.got;
  }

  abbrev pub IsCarrierSound : (State → Type 0) → Carrier State → Type 0
  IsCarrierSound IsGood carrier =
      IsSound sections IsGood (shown_of carrier) ×
      IsHandSound carrier carrier.hand carrier.help ×
      (carrier.goal ≢ Some carrier.own)

  -- The next step finds a word that says taken: the one looked at or taken, or the one that the hand removes.
  abbrev pub meets_taken : Carrier State → Option ℕ → Bool
  meets_taken carrier None = is_taken carrier (sought_by carrier carrier.help) || is_taken carrier carrier.own
  meets_taken carrier (Some hand) = removes_taken carrier (sections.wants carrier.state hand)

abbrev pub first_carrier : {State : Type 0} → State → ℕ → Carrier State
first_carrier state own = record {
  state = state;
  own = own;
  goal = None;
  switching = false;
  switched = false;
  hand = None;
  help = None;
  looked = false;
  putting = false;
  interrupted = false;
  mark = None;
  got = [];
}
