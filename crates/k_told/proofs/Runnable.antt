-- What a step of a carrier needs is there.
use Rattle.std.proofs.Common.{◌≡◌, ℕ, ◌∙◌, Some}
use Rattle.k_script.specs.Script.{Script}
use Rattle.k_context.specs.Contexts.{IsSound}
use Rattle.k_carrier.specs.Asked.{Run, ask_of}
use Rattle.k_carrier.specs.Seen.{HandSeen}
use Rattle.k_world.specs.Worlds.{World, carrier_at}
use Rattle.k_places.specs.Memory.{Memory, memory_of}
use Rattle.k_places.proofs.Places.{held_is}
use Rattle.k_joint.proofs.Runs.{hand_is, hand_of_run}
use Rattle.k_kernel.specs.Worlds.{WorldHolds}
use Rattle.k_aligned.specs.Aligned.{found_in}
use Rattle.k_handling.specs.Handling.{IsKernel}
use Rattle.k_running.specs.Running.{KernelHolds}

module _ (script : Script) (w : World) (h : KernelHolds script w) where
  abbrev M : Memory
  M = memory_of w

  pub kernel_of : IsKernel script w h.board h.view h.state
  kernel_of = record { aligned = h.aligned; helps = h.helps; whole = h.whole; serials = h.serials }

  abbrev pub world_of : WorldHolds script w
  world_of = record {
    board = h.board;
    state = h.state;
    shows = h.aligned.shows;
    holds = h.whole.holds;
    serials = h.serials;
  }

  pub found_hand : (c : ℕ) (x : HandSeen) → ask_of (carrier_at w c) ≡ Run x → found_in w x.context ≡ Some x.value
  found_hand c x e =
      held_is M.context M.slot M.hand c x h.aligned.shows.shows.places (hand_is w c ∙ hand_of_run (carrier_at w c) x e)

  -- the context in a carrier's hand is sound
  pub sound_hand : (c : ℕ) (x : HandSeen) → ask_of (carrier_at w c) ≡ Run x → IsSound script x.value
  sound_hand c x e = (h.aligned.contexts x.context x.value (found_hand c x e)).1
