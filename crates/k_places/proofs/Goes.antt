-- What a step of a section comes to: in the context that makes it, and on the board.
use Rattle.std.proofs.Common.{◌≡◌, Bool, true, false, refl, Option, Some, None, List}
use Rattle.std.specs.Prelude.{if◌then◌else◌}
use Rattle.k_ids.specs.declared.calls.Act.{Act}
use Rattle.k_ids.specs.declared.calls.Act.TheVariants as act
use Rattle.k_ids.specs.declared.calls.Outcome.{Outcome}
use Rattle.k_ids.specs.declared.calls.Outcome.TheVariants as outcome
use Rattle.k_ids.specs.declared.calls.Phase.TheVariants as phase
use Rattle.k_ids.specs.declared.state_word.StateWord.{StateWord}
use Rattle.k_ids.specs.declared.threads.ThreadId.{ThreadId}
use Rattle.k_locks.specs.declared.goods.Goods.{Goods}
use Rattle.k_locks.specs.declared.goods.Goods.TheVariants as goods
use Rattle.k_locks.specs.declared.locks.Lock.{Lock}
use Rattle.k_locks.specs.declared.points.Point.{Point}
use Rattle.k_locks.specs.declared.steps.Went.{Went}
use Rattle.k_locks.specs.declared.steps.Went.TheVariants as went
use Rattle.k_locks.specs.Asks.{Ask, Response}
use Rattle.k_locks.specs.Asks as asks
use Rattle.k_locks.specs.Hands.{Hand, goods_for, no_queue}
use Rattle.k_locks.specs.Locks.{Holds}
use Rattle.k_caller.specs.declared.activity.Activity.{Activity}
use Rattle.k_caller.specs.Activities.{after_went, section_own}
use Rattle.k_board.specs.Boards.{At, Board}
use Rattle.k_board.specs.Steps.{after}
use Rattle.k_good.specs.Locks.{locks_at}
use Rattle.k_places.specs.Contexts.{at_in, goods_on, hand_in, held_on}

-- what comes with a lock that is asked for
abbrev pub goods_asked : Ask → Board → Goods
goods_asked (asks.Acquire l) b = goods_on b l
goods_asked a b = goods.Senders no_queue

-- what goes home with a release is what the board has of that lock then
abbrev pub Returns : Ask → Hand → Board → Type 0
Returns (asks.Release l) h b = goods_for l h ≡ goods_on b l
Returns a h b = Unit {0}

-- an exchange leaves the version
abbrev pub KeepsVersion : Ask → Type 0
KeepsVersion (asks.Exchange n old new) = new.version ≡ old.version
KeepsVersion a = Unit {0}

abbrev pub IsCreate : Act → Type 0
IsCreate (act.Call (phase.Create program priority)) = Unit {0}
IsCreate a = ⊥

abbrev pub IsNoCall : Act → Type 0
IsNoCall (act.Call f) = ⊥
IsNoCall act.Gone = Unit {0}
IsNoCall act.Pick = Unit {0}

abbrev pub FitsOutcome : Act → Outcome → Type 0
FitsOutcome a (outcome.Made id) = IsCreate a
FitsOutcome a outcome.Passed = Unit {0}
FitsOutcome a outcome.Waits = Unit {0}
FitsOutcome a (outcome.Took from message) = Unit {0}
FitsOutcome a (outcome.Absent found) = Unit {0}
FitsOutcome a (outcome.Busy found) = Unit {0}
FitsOutcome a outcome.Nobody = Unit {0}
FitsOutcome a outcome.Own = Unit {0}
FitsOutcome a outcome.Killed = Unit {0}
FitsOutcome a (outcome.Full alive worn) = Unit {0}
FitsOutcome a outcome.Ended = Unit {0}
FitsOutcome a outcome.Freed = IsNoCall a

-- only a create makes a thread, and no call frees one
abbrev pub FitsPoint : Option Point → Type 0
FitsPoint None = Unit {0}
FitsPoint (Some p) = FitsOutcome p.act p.outcome

pub fits_if : (t : Bool) (p q : Option Point) → FitsPoint p → FitsPoint q → FitsPoint (if t then p else q)
fits_if true p q h k = h
fits_if false p q h k = k

-- What a context is about then, and its own word, against the board: where it stands, its word, what it has in hand; what the
-- locks
-- guard that it doesn't hold; what goes home; and the point.
pub record Goes (b b' : Board) (a : Ask) (locks : List (Option Lock)) (doing : Activity) (own : StateWord) (p : At)
    (word : StateWord) (carried : Hand) (raw noted : Option Point) (V : Type 0) : Type 0 where
  pub at : at_in doing ≡ p
  pub own_word : section_own own doing ≡ word
  pub hand : hand_in doing ≡ held_on b' (locks_at p)
  pub others : (l : Lock) → (Holds l locks → ⊥) → goods_on b' l ≡ goods_on b l
  pub returned : Returns a carried b'
  pub point : raw ≡ noted
  pub fits : FitsPoint noted
  pub version : V

-- the same, where the exchange leaves the version
pub versioned : {b b' : Board} {a : Ask} {locks : List (Option Lock)} {doing : Activity} {own : StateWord} {p : At} {word :
    StateWord} {carried : Hand} {raw noted : Option Point} {V : Type 0} (W : Type 0) → W →
    Goes b b' a locks doing own p word carried raw noted V → Goes b b' a locks doing own p word carried raw noted W
versioned W w h = record {
  at = h.at;
  own_word = h.own_word;
  hand = h.hand;
  others = h.others;
  returned = h.returned;
  point = h.point;
  fits = h.fits;
  version = w;
}

-- THE END OF A SECTION

abbrev pub IsEnd : Went → Type 0
IsEnd (went.Ends r) = Unit {0}
IsEnd went.Waits = Unit {0}
IsEnd went.Picks = Unit {0}
IsEnd went.CallerDead = Unit {0}
IsEnd went.On = ⊥
IsEnd went.Again = ⊥
IsEnd (went.Pushed priority) = ⊥

pub end_if : (t : Bool) (v w : Went) → IsEnd v → IsEnd w → IsEnd (if t then v else w)
end_if true v w h k = h
end_if false v w h k = k

pub ended_at : (me : ThreadId) (own : StateWord) (s : Activity) (w : Went) → IsEnd w → at_in (after_went me own s w) ≡ after me w
ended_at me own s (went.Ends r) h = refl
ended_at me own s went.Waits h = refl
ended_at me own s went.Picks h = refl
ended_at me own s went.CallerDead h = refl
ended_at me own s went.On h = absurd h
ended_at me own s went.Again h = absurd h
ended_at me own s (went.Pushed priority) h = absurd h

pub ended_own : (me : ThreadId) (own : StateWord) (s : Activity) (w : Went) → IsEnd w →
    section_own own (after_went me own s w) ≡ own
ended_own me own s (went.Ends r) h = refl
ended_own me own s went.Waits h = refl
ended_own me own s went.Picks h = refl
ended_own me own s went.CallerDead h = refl
ended_own me own s went.On h = absurd h
ended_own me own s went.Again h = absurd h
ended_own me own s (went.Pushed priority) h = absurd h

pub ended_hand : (b : Board) (me : ThreadId) (own : StateWord) (s : Activity) (w : Went) → IsEnd w →
    hand_in (after_went me own s w) ≡ held_on b (locks_at (after me w))
ended_hand b me own s (went.Ends r) h = refl
ended_hand b me own s went.Waits h = refl
ended_hand b me own s went.Picks h = refl
ended_hand b me own s went.CallerDead h = refl
ended_hand b me own s went.On h = absurd h
ended_hand b me own s went.Again h = absurd h
ended_hand b me own s (went.Pushed priority) h = absurd h
