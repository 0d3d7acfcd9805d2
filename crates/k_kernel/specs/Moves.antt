-- What a move of a carrier needs besides the invariant.
use Rattle.std.specs.Prelude.{◌≡◌, ℕ, ◌-◌, ◌<◌, ◌^◌, true, length}
use Rattle.k_locks.specs.Places.{IsWord}
use Rattle.k_script.specs.Script.{Script}
use Rattle.k_script.specs.Weight.{phases_of}
use Rattle.k_ids.specs.declared.state_word.StateWord.{StateWord}
use Rattle.k_context.specs.Contexts.{Carrier, ContextSeen, IsSound, Thread, begun, can_ask}
use Rattle.k_carrier.specs.Asked.{CarrierAsk, LookAt, PutDown, Run, Take, ask_of}
use Rattle.k_carrier.specs.Seen.{HandSeen}
use Rattle.k_world.specs.Moves.{word_on}
use Rattle.k_world.specs.Steps.{entry_of, step_in}
use Rattle.k_world.specs.Worlds.{World, carrier_at, state_at}
use Rattle.k_places.specs.Fits.{IsEntryWithin}
use Rattle.k_joint.specs.Ready.{IsTaking}
use Rattle.k_turns.specs.Spelled.{IsSpelled, ask_at}

-- WHAT A MOVE NEEDS OF ITS CARRIER, which the proof of carriers gives

-- The context's thread is made: its number's word has its version.
abbrev pub IsMade : StateWord → ContextSeen → Type 0
IsMade word (Thread t) = word.version ≡ t.id.version
IsMade word (Carrier k) = Unit {0}

-- The context in its hand is made and sound, and its step can be asked for.
pub record CanRun (script : Script) (w : World) (h : HandSeen) : Type 0 where
  pub made : IsMade (state_at w h.context) h.value
  pub sound : IsSound script (begun script h.value)
  pub asks : can_ask (begun script h.value) ≡ true

abbrev pub CanMove : Script → ℕ → World → CarrierAsk → Type 0
CanMove script c w (Run h) = CanRun script w h
CanMove script c w (PutDown h) = Unit {0}
CanMove script c w (LookAt n) = Unit {0}
CanMove script c w (Take n bits) = IsTaking script c (carrier_at w c)

-- WHAT IT NEEDS OF THE BOARD: words with spellings, as k_spelled shows

abbrev pub IsSpelledIn : Script → CarrierAsk → Type 0
IsSpelledIn script (Run h) = IsSpelled script.table (ask_at (begun script h.value))
IsSpelledIn script a = Unit {0}

-- This carrier's move can be made: the carrier is one of the world's, the word that the move is on is one that there is, its
-- entry is of numbers of the table, and what it needs of its carrier and of the board is there. (k_within shows
-- all of it of the running kernel.)
pub record IsRunnable (script : Script) (c : ℕ) (w : World) : Type 0 where
  pub carrier : c < length w.carriers
  pub word : IsWord (word_on (step_in script c w).move)
  pub entry : IsEntryWithin (length w.serials) (entry_of w (step_in script c w))
  pub move : CanMove script c w (ask_of (carrier_at w c))
  pub spelled : IsSpelledIn script (ask_of (carrier_at w c))

-- WHAT IT NEEDS OF THE SCRIPT: so few phases that each serial can be counted

abbrev pub HasRoom : Script → Type 0
HasRoom script = phases_of script < 2 ^ 31 - 1
