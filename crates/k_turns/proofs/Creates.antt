-- A create: what its step comes to is what the board has of it.
use Rattle.std.proofs.Common.{◌≡◌, ℕ, true, false, refl, Option, Some, None, []}
use Rattle.k_ids.specs.declared.state_word.StateWord.{StateWord}
use Rattle.k_ids.specs.declared.threads.ThreadId.{ThreadId}
use Rattle.k_locks.specs.declared.locks.Lock.{Lock}
use Rattle.k_locks.specs.declared.locks.Lock.TheVariants as lock
use Rattle.k_locks.specs.Asks.{Response, hand_asked}
use Rattle.k_locks.specs.Asks as asks
use Rattle.k_locks.specs.Hands.{Hand, trimmed}
use Rattle.k_locks.specs.Locks.{Holds}
use Rattle.k_locks.specs.Shown.{is_dead}
use Rattle.k_locks.specs.Tables.{hand_came}
use Rattle.k_locks.specs.Numbers.{lowest_free}
use Rattle.k_threads.specs.declared.create.CreateCall.{CreateCall}
use Rattle.k_threads.specs.declared.create.CreateOutside.TheVariants as outside
use Rattle.k_threads.specs.declared.create.CreateLocked.TheVariants as locked
use Rattle.k_threads.specs.declared.create.CreateRelease.TheVariants as release
use Rattle.k_threads.specs.declared.create.CreateSection.{CreateSection}
use Rattle.k_threads.specs.CreateTable.{CreateAt, Outside, Locked, PushCreated, ask_of, full_point, hand_after}
use Rattle.k_threads.specs.CreateTable.{is_open, leads, location_with, locks_of, own_of, points, pushed_at, went_at}
use Rattle.k_caller.specs.declared.activity.Activity.{Activity}
use Rattle.k_caller.specs.declared.activity.Activity.TheVariants as activity
use Rattle.k_caller.specs.Activities.{after_went}
use Rattle.k_board.specs.Words.{Programs}
use Rattle.k_board.specs.Boards.{Board, Context, hand_of}
use Rattle.k_board.specs.Steps.{Answers, create_at, create_board}
use Rattle.k_places.specs.Contexts.{goods_on}
use Rattle.k_places.proofs.Goes.{FitsPoint, Goes, fits_if, goods_asked}

module _ (g : Programs) (b : Board) (i : ℕ) (x : Context) (c : CreateCall) (caller : StateWord) (d : ℕ) where
  -- what the board has of what it may have in hand, what is in hand once it was asked for the step, and what comes then
  abbrev On : Hand
  On = hand_of b []

  abbrev Left : CreateAt → Hand
  Left p = hand_asked (ask_of c x.own p) (trimmed (locks_of c p) On)

  abbrev Came : CreateAt → Response → Hand
  Came p r = hand_came r (goods_asked (ask_of c x.own p) b) (hand_after c (Left p) p r)

  abbrev Section : CreateAt → Response → CreateSection
  Section p r = record {
    call = c;
    own = own_of c x.own p r;
    location = location_with (Came p r) (leads c (Left p) p r);
    done = d;
  }

  abbrev Doing : CreateAt → Response → Activity
  Doing p r = after_went c.caller x.own (activity.Create (Section p r)) (went_at (pushed_at c p) (leads c (Left p) p r))

  abbrev After : CreateAt → Response → Board
  After p r = create_board g b i x c p r

  abbrev CreateGoes : CreateAt → Response → Type 0
  CreateGoes p r =
      Goes b (After p r) (ask_of c x.own p) (locks_of c p) (Doing p r) x.own (create_at c (leads c On p r)) x.own
      (hand_after c (trimmed (locks_of c p) On) p asks.Released) (points c caller (Left p) p r) (points c caller On p r)
      (Unit {0})

  full_fits : (o : Option ℕ) → FitsPoint (full_point c b.numbers o)
  full_fits None = tt
  full_fits (Some n) = tt

  only_ready : (id : ThreadId) (l : Lock) → (Holds l (locks_of c (PushCreated id)) → ⊥) →
      goods_on (After (PushCreated id) asks.Released) l ≡ goods_on b l
  only_ready id (lock.Thread k) n = refl
  only_ready id lock.Table n = refl
  only_ready id lock.Ready n = absurd (n refl)

  only_table : (id : ThreadId) (l : Lock) → (Holds l (locks_of c (Locked (locked.Release (release.Made id)))) → ⊥) →
      goods_on (After (Locked (locked.Release (release.Made id))) asks.Released) l ≡ goods_on b l
  only_table id (lock.Thread k) n = refl
  only_table id lock.Table n = absurd (n refl)
  only_table id lock.Ready n = refl

  pub create_goes : (p : CreateAt) (r : Response) → is_open p ≡ true → Answers b (ask_of c x.own p) r → asks.is_again r ≡ false →
      CreateGoes p r
  create_goes (Outside outside.AcquireTable) asks.Got op an na = record {
    at = refl;
    own_word = refl;
    hand = refl;
    others = λ l n. refl;
    returned = tt;
    point = refl;
    fits = tt;
    version = tt;
  }
  create_goes (Locked locked.LoadCaller) (asks.Word w) op an na = record {
    at = refl;
    own_word = refl;
    hand = refl;
    others = λ l n. refl;
    returned = tt;
    point = refl;
    fits = fits_if (is_dead w) None (full_point c b.numbers (lowest_free b.numbers)) tt (full_fits (lowest_free b.numbers));
    version = tt;
  }
  create_goes (Locked (locked.PlaceContext id)) asks.Placed op an na = record {
    at = refl;
    own_word = refl;
    hand = refl;
    others = λ l n. refl;
    returned = tt;
    point = refl;
    fits = tt;
    version = tt;
  }
  create_goes (Locked (locked.CommitCreate id)) asks.Won op an na = record {
    at = refl;
    own_word = refl;
    hand = refl;
    others = λ l n. refl;
    returned = tt;
    point = refl;
    fits = tt;
    version = tt;
  }
  create_goes (Locked (locked.CommitCreate id)) (asks.Lost w) op an na = record {
    at = refl;
    own_word = refl;
    hand = refl;
    others = λ l n. refl;
    returned = tt;
    point = refl;
    fits = tt;
    version = tt;
  }
  create_goes (Locked (locked.AcquireReady id)) asks.Got op an na = record {
    at = refl;
    own_word = refl;
    hand = refl;
    others = λ l n. refl;
    returned = tt;
    point = refl;
    fits = tt;
    version = tt;
  }
  create_goes (PushCreated id) asks.Released op an na = record {
    at = refl;
    own_word = refl;
    hand = refl;
    others = only_ready id;
    returned = refl;
    point = refl;
    fits = tt;
    version = tt;
  }
  create_goes (Locked (locked.Release (release.Made id))) asks.Released op an na = record {
    at = refl;
    own_word = refl;
    hand = refl;
    others = only_table id;
    returned = refl;
    point = refl;
    fits = tt;
    version = tt;
  }
  create_goes (Locked (locked.Release (release.Full alive worn))) asks.Released op an na = record {
    at = refl;
    own_word = refl;
    hand = refl;
    others = λ l n. refl;
    returned = refl;
    point = refl;
    fits = tt;
    version = tt;
  }
  create_goes (Locked (locked.Release release.Dead)) asks.Released op an na = record {
    at = refl;
    own_word = refl;
    hand = refl;
    others = λ l n. refl;
    returned = refl;
    point = refl;
    fits = tt;
    version = tt;
  }
  create_goes (Outside outside.AcquireTable) (asks.Owned o) op an na = absurd cc
  create_goes (Locked (locked.AcquireReady id)) (asks.Owned o) op an na = absurd cc
  create_goes (Outside (outside.Ended w)) r op an na = absurd cc
  create_goes p r op an na = absurd an
