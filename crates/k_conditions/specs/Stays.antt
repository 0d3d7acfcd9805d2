-- What of a world is so of each context and each carrier alone, whatever board it shows.
use Rattle.std.specs.Prelude.{◌≡◌, ℕ, ◌<◌, length}
use Rattle.k_script.specs.Script.{Script}
use Rattle.k_carrier.specs.declared.moves.Awaits.TheVariants as awaits
use Rattle.k_carrier.specs.Conditions.{IsSound}
use Rattle.k_carrier.specs.Seen.{CarrierSeen}
use Rattle.k_world.specs.Worlds.{World, carrier_at}
use Rattle.k_moves.specs.Moved.{IsGiven}
use Rattle.k_aligned.specs.Aligned.{AreSound}
use Rattle.k_handling.specs.Handling.{HelpsWithin}
use Rattle.k_conditions.specs.Finished.{FinishedWithin}

-- A carrier of this number, whose last move was answered, is sound.
pub record IsSteady (script : Script) (c : ℕ) (k : CarrierSeen) : Type 0 where
  pub number : k.number ≡ c
  pub answered : k.awaits ≡ awaits.Nothing
  pub sound : IsSound script k
  pub given : IsGiven k

-- Each context and each carrier is sound; a carrier helps a context that there may be, and a finished switch has come to a thread
-- that there may be.
pub record AllSound (script : Script) (w : World) : Type 0 where
  pub contexts : AreSound script w
  pub carriers : (c : ℕ) → c < length w.carriers → IsSteady script c (carrier_at w c)
  pub helps : HelpsWithin script w
  pub finished : FinishedWithin script w
