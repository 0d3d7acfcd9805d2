-- The raw world's carriers, all of them, as the world has them.
use Rattle.std.specs.Prelude.{◌≡◌, ◌<◌, ℕ, IfSome, length}
use Rattle.k_ids.specs.ContextWords.{IsContextSpelling, context_word_of}
use Rattle.k_locks.specs.declared.locks.WordName.TheVariants as name
use Rattle.k_locks.specs.Places.{slot_of}
use Rattle.k_context.specs.Contexts.{ContextSeen}
use Rattle.k_carrier.specs.Rules.{context_at, readied, target_of}
use Rattle.k_world.specs.Worlds.{Resting, carrier_at, slot_at, word_at}
use Rattle.k_world.specs.Worlds as raw
use Rattle.k_tokens.specs.World.{World}
use Rattle.k_switching.specs.Rules.{word_of}
use Rattle.k_grants.specs.Views.{name_of}
use Rattle.k_moves.specs.Views.{ShowsContext, carrier_view}
use Rattle.k_moves.specs.Moved.{IsGiven}

pub record AreViewed (r : raw.World) (w : World) : Type 0 where
  pub carriers : (c : ℕ) → c < length r.carriers → w.carrier c ≡ carrier_view (carrier_at r c)

-- What is taken for granted of a carrier that makes a move, and of the words and slots that it finds: it has its number, and is
-- as it is given; context words have spellings, and that of the context which it is to take is the world's; and what lies in a
-- slot is what the world has of it.
pub record MayMove (r : raw.World) (w : World) (c : ℕ) : Type 0 where
  pub inside : c < length r.carriers
  pub number : (carrier_at r c).number ≡ c
  pub given : IsGiven (carrier_at r c)
  pub spelled : (n : ℕ) → IsContextSpelling (word_at r (name.Context n))
  pub looked : IfSome (carrier_at r c).looked IsContextSpelling
  pub words : (n : ℕ) → context_at (readied (carrier_at r c)) (target_of (readied (carrier_at r c))) ≡ n
      → word_of w (name_of (carrier_at r c).table n) ≡ context_word_of (word_at r (name.Context n))
  pub rests : (n : ℕ) (v : ContextSeen) → slot_at r (slot_of n) ≡ Resting v → ShowsContext w (carrier_at r c).table n v

-- A context whose word is still this lies in its slot.
pub record IsThere (r : raw.World) (n bits : ℕ) : Type 0 where
  pub lies : word_at r (name.Context n) ≡ bits → (v : ContextSeen) × (slot_at r (slot_of n) ≡ Resting v)
