-- A switch: what its step comes to is what the board has of it.
use Rattle.std.proofs.Common.{◌≡◌, ℕ, Bool, true, false, refl, Option, List, []}
use Rattle.k_locks.specs.declared.locks.Lock.{Lock}
use Rattle.k_locks.specs.declared.locks.Lock.TheVariants as lock
use Rattle.k_locks.specs.Asks.{Ask, Response}
use Rattle.k_locks.specs.Asks as asks
use Rattle.k_locks.specs.Hands.{Hand, trimmed}
use Rattle.k_locks.specs.Locks.{Holds}
use Rattle.k_locks.specs.Tables.{hand_came}
use Rattle.k_switch.specs.declared.switch.SwitchCall.{SwitchCall}
use Rattle.k_switch.specs.declared.switch.SwitchLocked.TheVariants.{LoadGoal, LoadStart, ReleaseReady}
use Rattle.k_switch.specs.declared.switch.SwitchLocation.{SwitchLocation}
use Rattle.k_switch.specs.Switches.{SwitchAt, AcquireReady, Locked, Returned, Finished, ask_of}
use Rattle.k_switch.specs.Switches.{asked_location, at_of, hand_after, leads, location_with, locks_of}
use Rattle.k_switch.specs.Switches as switch
use Rattle.k_board.specs.Boards.{Board, Context, hand_of}
use Rattle.k_board.specs.Steps.{Answers, switch_board}
use Rattle.k_places.specs.Contexts.{goods_on, held_on}
use Rattle.k_places.proofs.Goes.{Returns, goods_asked}

-- Where the switch is then, against the board: where it stands, what it has in hand, what the locks guard that it doesn't hold,
-- and
-- what goes home.
pub record Switches (b b' : Board) (a : Ask) (locks : List (Option Lock)) (l : SwitchLocation) (p : SwitchAt) (carried : Hand) :
    Type 0 where
  pub at : at_of l ≡ p
  pub hand : switch.hand_of l ≡ held_on b' (locks_of p)
  pub others : (k : Lock) → (Holds k locks → ⊥) → goods_on b' k ≡ goods_on b k
  pub returned : Returns a carried b'

-- it isn't over, and it wasn't asked for its release
abbrev pub can_go : SwitchAt → Bool
can_go AcquireReady = true
can_go (Locked p) = true
can_go (Returned s) = false
can_go (Finished s) = false

module _ (b : Board) (i : ℕ) (x : Context) (c : SwitchCall) where
  abbrev On : Hand
  On = hand_of b []

  -- what is left once it is asked for its step
  abbrev Left : SwitchAt → SwitchLocation
  Left p = asked_location c (location_with On p)

  abbrev Came : SwitchAt → Response → Hand
  Came p r = hand_came r (goods_asked (ask_of c p) b) (hand_after c (switch.hand_of (Left p)) (at_of (Left p)) r)

  abbrev pub Then : SwitchAt → Response → SwitchLocation
  Then p r = location_with (Came p r) (leads c (switch.hand_of (Left p)) (at_of (Left p)) r)

  abbrev SwitchGoes : SwitchAt → Response → Type 0
  SwitchGoes p r =
      Switches b (switch_board b i x c p r) (ask_of c p) (locks_of p) (Then p r) (leads c On p r)
      (hand_after c (trimmed (locks_of p) On) p asks.Released)

  only_ready : (p : _) (q : _) (k : Lock) → (Holds k (locks_of (Locked (ReleaseReady p q))) → ⊥) →
      goods_on (switch_board b i x c (Locked (ReleaseReady p q)) asks.Released) k ≡ goods_on b k
  only_ready p q (lock.Thread n) h = refl
  only_ready p q lock.Table h = refl
  only_ready p q lock.Ready h = absurd (h refl)

  pub switch_goes : (p : SwitchAt) (r : Response) → can_go p ≡ true → Answers b (ask_of c p) r → asks.is_again r ≡ false →
      SwitchGoes p r
  switch_goes AcquireReady asks.Got op an na = record { at = refl; hand = refl; others = λ k n. refl; returned = tt }
  switch_goes (Locked (LoadGoal goal)) (asks.Word w) op an na = record {
    at = refl;
    hand = refl;
    others = λ k n. refl;
    returned = tt;
  }
  switch_goes (Locked (LoadStart back number)) (asks.Word w) op an na = record {
    at = refl;
    hand = refl;
    others = λ k n. refl;
    returned = tt;
  }
  switch_goes (Locked (ReleaseReady back started)) asks.Released op an na = record {
    at = refl;
    hand = refl;
    others = only_ready back started;
    returned = refl;
  }
  switch_goes AcquireReady (asks.Owned o) op an na = absurd cc
  switch_goes (Returned s) r op an na = absurd cc
  switch_goes (Finished s) r op an na = absurd cc
  switch_goes p r op an na = absurd an
