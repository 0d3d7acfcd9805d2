-- What is set at a carrier from outside leaves contexts where they are, and the log as it is.
use Rattle.std.proofs.Common.{◌≡◌, ℕ, false, refl, ap}
use Rattle.std.specs.Prelude.{slice_set}
use Rattle.k_ids.specs.declared.context_word.ContextWord.{ContextWord}
use Rattle.k_ids.specs.declared.context_word.ContextWord.TheVariants.{Clean, Empty, Holds, Taken}
use Rattle.k_ids.specs.ContextWords.{context_word_of}
use Rattle.k_locks.specs.declared.locks.WordName.TheVariants as word
use Rattle.k_carrier.specs.Flags as flags
use Rattle.k_carrier.specs.Seen.{CarrierSeen, new_carrier}
use Rattle.k_world.specs.Steps.{parked, sliced, started, with_carrier}
use Rattle.k_world.specs.Worlds.{World, carrier_at, context_at, context_by, held_in, word_at}
use Rattle.k_world.proofs.Lists.{set_keeps}

-- a carrier with the same in hand
module _ (c : ℕ) (k : CarrierSeen) (w : World) (same : k.hand ≡ (carrier_at w c).hand) where
  held : (d : ℕ) → (carrier_at (with_carrier c k w) d).hand ≡ (carrier_at w d).hand
  held d = set_keeps (λ (x y : CarrierSeen). y.hand ≡ x.hand) (λ x. refl) w.carriers c k (new_carrier 0 0) same d

  by_word : (n : ℕ) (v : ContextWord) → context_by (with_carrier c k w) n v ≡ context_by w n v
  by_word n Empty = refl
  by_word n (Clean version) = refl
  by_word n (Holds version) = refl
  by_word n (Taken carrier version) = ap held_in (held carrier)

  pub same_contexts : (n : ℕ) → context_at (with_carrier c k w) n ≡ context_at w n
  same_contexts n = by_word n (context_word_of (word_at w (word.Context n)))

pub started_contexts : (c number : ℕ) (w : World) (n : ℕ) → context_at (started c number w) n ≡ context_at w n
unfolding started
started_contexts c number w n =
    same_contexts c (flags.started number (carrier_at w c)) (record w { unstarted = slice_set w.unstarted number false }) refl n

pub sliced_contexts : (c : ℕ) (w : World) (n : ℕ) → context_at (sliced c w) n ≡ context_at w n
unfolding sliced
sliced_contexts c w n = same_contexts c (flags.sliced (carrier_at w c)) w refl n

pub parked_contexts : (c : ℕ) (w : World) (n : ℕ) → context_at (parked c w) n ≡ context_at w n
unfolding parked
parked_contexts c w n = same_contexts c (flags.parked (carrier_at w c)) w refl n

pub started_log : (c number : ℕ) (w : World) → (started c number w).steps ≡ w.steps
unfolding started
started_log c number w = refl

pub sliced_log : (c : ℕ) (w : World) → (sliced c w).steps ≡ w.steps
unfolding sliced
sliced_log c w = refl

pub parked_log : (c : ℕ) (w : World) → (parked c w).steps ≡ w.steps
unfolding parked
parked_log c w = refl
