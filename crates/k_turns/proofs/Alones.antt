-- A thread outside of any section: what its step comes to is what the board has of it.
use Rattle.std.proofs.Common.{◌≡◌, ℕ, true, refl}
use Rattle.k_locks.specs.Asks.{Response}
use Rattle.k_locks.specs.Asks as asks
use Rattle.k_locks.specs.Hands.{nothing}
use Rattle.k_caller.specs.declared.activity.Activity.TheVariants as activity
use Rattle.k_caller.specs.declared.thread.ThreadLocation.{ThreadLocation}
use Rattle.k_caller.specs.declared.thread.ThreadLocation.TheVariants.{Between, FallAsleep, LookAgain, LoadMail}
use Rattle.k_caller.specs.declared.thread.ThreadLocation.TheVariants.{Work, CommitEnd, Asleep, Ended, Dead}
use Rattle.k_caller.specs.Activities.{no_lock}
use Rattle.k_caller.specs.Waits.{ask_of, can_ask, leads, own_of, points}
use Rattle.k_board.specs.Words.{Programs}
use Rattle.k_board.specs.Boards.{Alone, Board, Context, id_at}
use Rattle.k_board.specs.Steps.{Answers, alone_board}
use Rattle.k_places.proofs.Goes.{Goes, KeepsVersion}

module _ (g : Programs) (b : Board) (i : ℕ) (x : Context) where
  abbrev AloneGoes : ThreadLocation → Response → Type 0
  AloneGoes p r =
      Goes b (alone_board g b i x p r) (ask_of (id_at b i) x.own p) no_lock (activity.Alone (leads p r)) (own_of x.own p r)
      (Alone (leads p r)) (own_of x.own p r) nothing (points (id_at b i) p r) (points (id_at b i) p r)
      (KeepsVersion (ask_of (id_at b i) x.own p))

  pub alone_goes : (p : ThreadLocation) (r : Response) → can_ask p ≡ true → Answers b (ask_of (id_at b i) x.own p) r →
      AloneGoes p r
  alone_goes FallAsleep asks.Won op an = record {
    at = refl;
    own_word = refl;
    hand = refl;
    others = λ l n. refl;
    returned = tt;
    point = refl;
    fits = tt;
    version = refl;
  }
  alone_goes FallAsleep (asks.Lost w) op an = record {
    at = refl;
    own_word = refl;
    hand = refl;
    others = λ l n. refl;
    returned = tt;
    point = refl;
    fits = tt;
    version = refl;
  }
  alone_goes LookAgain (asks.Word w) op an = record {
    at = refl;
    own_word = refl;
    hand = refl;
    others = λ l n. refl;
    returned = tt;
    point = refl;
    fits = tt;
    version = tt;
  }
  alone_goes (LoadMail from) (asks.Mail m) op an = record {
    at = refl;
    own_word = refl;
    hand = refl;
    others = λ l n. refl;
    returned = tt;
    point = refl;
    fits = tt;
    version = tt;
  }
  alone_goes (Work count) (asks.Word w) op an = record {
    at = refl;
    own_word = refl;
    hand = refl;
    others = λ l n. refl;
    returned = tt;
    point = refl;
    fits = tt;
    version = tt;
  }
  alone_goes CommitEnd asks.Won op an = record {
    at = refl;
    own_word = refl;
    hand = refl;
    others = λ l n. refl;
    returned = tt;
    point = refl;
    fits = tt;
    version = refl;
  }
  alone_goes CommitEnd (asks.Lost w) op an = record {
    at = refl;
    own_word = refl;
    hand = refl;
    others = λ l n. refl;
    returned = tt;
    point = refl;
    fits = tt;
    version = refl;
  }
  alone_goes (Between last) r op an = absurd cc
  alone_goes Asleep r op an = absurd cc
  alone_goes Ended r op an = absurd cc
  alone_goes Dead r op an = absurd cc
  alone_goes p r op an = absurd an
