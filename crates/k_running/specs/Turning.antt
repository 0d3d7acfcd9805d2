-- What the code of a carrier's step asks for.
use Rattle.std.specs.Prelude.{ℕ, ◌≡◌, ◌<◌, ◌^◌, IfSome, Some, length}
use Rattle.k_ids.specs.declared.context_word.ContextWord.{ContextWord}
use Rattle.k_ids.specs.declared.context_word.ContextWord.TheVariants as word
use Rattle.k_ids.specs.declared.histories.Entry.{Entry}
use Rattle.k_ids.specs.ContextWords.{IsContextSpelling, context_word_of}
use Rattle.k_ids.specs.StateWords.{IsStateSpelling}
use Rattle.k_locks.specs.declared.locks.WordName.TheVariants as name
use Rattle.k_locks.specs.Places.{slot_of}
use Rattle.k_script.specs.Script.{Script}
use Rattle.k_context.specs.Contexts as contexts
use Rattle.k_carrier.specs.Asked.{asked, out_of}
use Rattle.k_carrier.specs.Conditions.{CanAsk, CanTell}
use Rattle.k_carrier.specs.Conditions as carriers
use Rattle.k_carrier.specs.Seen.{CarrierSeen}
use Rattle.k_world.specs.Moves.{answer_by}
use Rattle.k_world.specs.Steps.{running}
use Rattle.k_world.specs.Worlds.{World, carrier_at, resting_in, slot_at, word_at}
use Rattle.k_store.specs.Conditions.{CanPerform, IsNumber}
use Rattle.k_places.specs.Fits.{IsEntryWithin}

-- The carrier can be asked for its move in a world, the move can be performed there, and the answer told. The word of the thread in
-- its hand has a spelling.
pub record CanTurn (script : Script) (w : World) (k : CarrierSeen) : Type 0 where
  pub asks : CanAsk script k
  pub performs : CanPerform w.words w.slots (running (asked script k).hand) (out_of script k)
  pub tells : CanTell script (asked script k) (answer_by w (out_of script k))
  pub number : IsNumber (running (asked script k).hand)
  pub caller : IsStateSpelling (word_at w (name.State (running (asked script k).hand)))

-- The entry is of numbers that have a last serial, and its serial is a number of 32 bits.
pub record IsEntryFit (w : World) (e : Entry) : Type 0 where
  pub within : IsEntryWithin (length w.serials) (Some e)
  pub serial : e.event.serial < 2 ^ 32

-- WHO HOLDS UP what a step wants

-- what is known of the carrier that has a context in its hand
abbrev pub IsInHand : (ℕ → Type 0) → ContextWord → Type 0
IsInHand P (word.Taken carrier version) = P carrier
IsInHand P (word.Clean version) = Unit {0}
IsInHand P (word.Holds version) = Unit {0}
IsInHand P word.Empty = Unit {0}

-- the context's word
abbrev pub context_word_at : World → ℕ → ContextWord
context_word_at w i = context_word_of (word_at w (name.Context i))

-- A carrier of the world that can tell of the context in its hand.
pub record IsKnown (script : Script) (w : World) (c : ℕ) : Type 0 where
  pub inside : c < length w.carriers
  pub sound : carriers.IsSound script (carrier_at w c)

-- What rests in its slot can be told of.
abbrev pub RestsSound : Script → World → ℕ → Type 0
RestsSound script w i = IfSome (resting_in (slot_at w (slot_of i))) (contexts.IsSound script)

-- The context of this number can be told of, where its word tells that it is.
abbrev pub IsThere : Script → World → ℕ → ContextWord → Type 0
IsThere script w i (word.Taken carrier version) = IsKnown script w carrier
IsThere script w i (word.Clean version) = RestsSound script w i
IsThere script w i (word.Holds version) = RestsSound script w i
IsThere script w i word.Empty = Unit {0}

pub record CanFind (script : Script) (w : World) (i : ℕ) : Type 0 where
  pub number : IsNumber i
  pub spelled : IsContextSpelling (word_at w (name.Context i))
  pub there : IsThere script w i (context_word_at w i)

-- It isn't in the hand of this carrier: no context holds up its own wants.
abbrev pub IsElsewhere : ℕ → World → ℕ → Type 0
IsElsewhere c w i = IsInHand (λ d. d ≡ c → ⊥) (context_word_at w i)
