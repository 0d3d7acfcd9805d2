-- What comes to a carrier from outside leaves each context where it is, as it is.
use Rattle.std.proofs.Common.{◌≡◌, ℕ, ◌+◌, ◌*◌, refl, sym, ◌∙◌, Option}
use Rattle.k_script.specs.Script.{Script}
use Rattle.k_carrier.specs.Seen.{CarrierSeen, HandSeen}
use Rattle.k_world.specs.Steps.{parked, sliced, started}
use Rattle.k_world.specs.Worlds.{Away, World, carrier_at}
use Rattle.k_places.specs.Memory.{at, memory_of}
use Rattle.k_places.specs.Shows.{context_in}
use Rattle.k_joint.proofs.Runs.{hand_is}
use Rattle.k_aligned.specs.Aligned.{found_in}
use Rattle.k_carriers.proofs.Carriers.{park_keeps, slice_keeps, start_keeps}
use Rattle.k_ending.specs.Ending.{IsFreshIn}

-- where words and slots are the same, and so are hands
module _ (w v : World) (words : v.words ≡ w.words) (slots : v.slots ≡ w.slots)
    (hands : (d : ℕ) → (carrier_at v d).hand ≡ (carrier_at w d).hand) where
  hand_kept : (d : ℕ) → (memory_of v).hand d ≡ (memory_of w).hand d
  hand_kept d = hand_is v d ∙ hands d ∙ sym (hand_is w d)

  found_kept : (i : ℕ) → found_in v i ≡ found_in w i
  found_kept i =
      λ z. context_in (λ n. at (words z) 0 (4 * n + 3)) (λ n. at (slots z) Away (2 * n + 1)) (λ d. hand_kept d z) i

  fresh_kept : (script : Script) (i : ℕ) → IsFreshIn script w i → IsFreshIn script v i
  fresh_kept script i fresh x s found over none = fresh x s (sym (found_kept (script.table + i)) ∙ found) over none

abbrev hand_of : CarrierSeen → Option HandSeen
hand_of k = k.hand

pub started_fresh : (script : Script) (w : World) (c number i : ℕ) → IsFreshIn script w i →
    IsFreshIn script (started c number w) i
unfolding started
started_fresh script w c number i =
    fresh_kept w (started c number w) refl refl (λ d. start_keeps hand_of w c number d refl) script i

pub sliced_fresh : (script : Script) (w : World) (c i : ℕ) → IsFreshIn script w i → IsFreshIn script (sliced c w) i
unfolding sliced
sliced_fresh script w c i = fresh_kept w (sliced c w) refl refl (λ d. slice_keeps hand_of w c d refl) script i

pub parked_fresh : (script : Script) (w : World) (c i : ℕ) → IsFreshIn script w i → IsFreshIn script (parked c w) i
unfolding parked
parked_fresh script w c i = fresh_kept w (parked c w) refl refl (λ d. park_keeps hand_of w c d refl) script i
