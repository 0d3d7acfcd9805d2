-- What comes from outside leaves the board and the history as they are.
use Rattle.std.proofs.Common.{ℕ}
use Rattle.k_script.specs.Script.{Script}
use Rattle.k_world.specs.Steps.{parked, sliced, started}
use Rattle.k_world.specs.Worlds.{World}
use Rattle.k_joint.proofs.Carried.{parked_shown, sliced_shown, started_shown}
use Rattle.k_kernel.specs.Worlds.{WorldHolds}

module _ (script : Script) (w : World) (h : WorldHolds script w) where
  pub started_holds : (c number : ℕ) → WorldHolds script (started c number w)
  unfolding started
  started_holds c number = record {
    board = h.board;
    state = h.state;
    shows = started_shown script w h.board h.shows c number;
    holds = h.holds;
    serials = h.serials;
  }

  pub sliced_holds : (c : ℕ) → WorldHolds script (sliced c w)
  unfolding sliced
  sliced_holds c = record {
    board = h.board;
    state = h.state;
    shows = sliced_shown script w h.board h.shows c;
    holds = h.holds;
    serials = h.serials;
  }

  pub parked_holds : (c : ℕ) → WorldHolds script (parked c w)
  unfolding parked
  parked_holds c = record {
    board = h.board;
    state = h.state;
    shows = parked_shown script w h.board h.shows c;
    holds = h.holds;
    serials = h.serials;
  }
