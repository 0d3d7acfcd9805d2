-- The move that a carrier asks for, and the carrier then.
use Rattle.std.specs.Prelude.{ℕ, Bool, if◌then◌else◌, Option, Some, None, is_some}
use Rattle.k_ids.specs.declared.context_word.ContextWord.{ContextWord}
use Rattle.k_ids.specs.declared.context_word.ContextWord.TheVariants as word
use Rattle.k_ids.specs.ContextWords.{context_bits, context_word_of}
use Rattle.k_locks.specs.declared.locks.Lock.{Lock}
use Rattle.k_locks.specs.declared.steps.Step.{Step}
use Rattle.k_locks.specs.declared.steps.Step.TheVariants as step
use Rattle.k_script.specs.Script.{Script}
use Rattle.k_context.specs.declared.owner.Owner.{Owner}
use Rattle.k_context.specs.declared.owner.Owner.TheVariants as owner
use Rattle.k_context.specs.Contexts.{ContextSeen, begun, locks_of, owner_of, step_of, without_switch}
use Rattle.k_context.specs.Contexts as contexts
use Rattle.k_carrier.specs.declared.moves.Awaits.TheVariants as awaits
use Rattle.k_carrier.specs.Seen.{CarrierSeen, HandSeen}
use Rattle.k_carrier.specs.Moves.{MoveSeen, Section, Look, TakeContext, GiveContext}
use Rattle.k_carrier.specs.Rules.{context_at, gives, holds_any, is_own, is_released, own_switched, readied, switched_in, target_of}

-- what it does next
pub data CarrierAsk : Type 0 where
  Run : HandSeen → CarrierAsk  -- the next step of the context in its hand
  PutDown : HandSeen → CarrierAsk
  LookAt : (context : ℕ) → CarrierAsk
  Take : (context word : ℕ) → CarrierAsk

-- Without a hand it looks at the context that it is to take, and takes it once it has seen its word.
abbrev pub ask_at : CarrierSeen → Option ℕ → CarrierAsk
ask_at c None = LookAt (context_at c (target_of c))
ask_at c (Some seen) = Take (context_at c (target_of c)) seen

abbrev pub ask_holding : CarrierSeen → HandSeen → CarrierAsk
ask_holding c h = if gives c h then PutDown h else Run h

abbrev pub ask_with : CarrierSeen → Option HandSeen → CarrierAsk
ask_with c (Some h) = ask_holding c h
ask_with c None = ask_at (readied c) (readied c).looked

abbrev pub ask_of : CarrierSeen → CarrierAsk
ask_of c = ask_with c c.hand

-- WORDS OF CONTEXTS

-- A carrier's own context has version 1.
abbrev pub version_of : Owner → ℕ
version_of (owner.Thread id) = id.version
version_of (owner.Carrier number) = 1

-- of a context that is put down: it tells whether the context holds a lock
abbrev pub resting_word : ContextSeen → ContextWord
resting_word v = if holds_any (locks_of v) then word.Holds (version_of (owner_of v)) else word.Clean (version_of (owner_of v))

-- The version that a word shows. An empty one shows none.
abbrev pub version_in : ContextWord → ℕ
version_in word.Empty = 0
version_in (word.Clean version) = version
version_in (word.Holds version) = version
version_in (word.Taken carrier version) = version

-- of a context of which this word was seen, and which this carrier has taken
abbrev pub taken_word : ℕ → ContextWord → ContextWord
taken_word carrier seen = word.Taken carrier (version_in seen)

-- THE MOVE

-- A finished switch of its own is taken out of the context that it puts down.
abbrev pub rested : Bool → ContextSeen → ContextSeen
rested own v = if is_some (switched_in own v) then without_switch v else v

abbrev pub move_by : Script → CarrierSeen → CarrierAsk → MoveSeen
move_by script c (Run h) = Section (step_of (begun script h.value))
move_by script c (PutDown h) = GiveContext h.context (context_bits (resting_word h.value)) (rested (is_own c h) h.value)
move_by script c (LookAt context) = Look context
move_by script c (Take context seen) = TakeContext context seen (context_bits (taken_word c.number (context_word_of seen)))

-- what it asks for
abbrev pub out_of : Script → CarrierSeen → MoveSeen
out_of script c = move_by script c (ask_of c)

-- THE CARRIER THEN

-- the lock that a step acquires
abbrev pub lock_acquired : Step → Option Lock
lock_acquired (step.Acquire l) = Some l
lock_acquired (step.Load name) = None
lock_acquired (step.Store name value) = None
lock_acquired (step.Exchange name old new) = None
lock_acquired (step.Release l goods) = None
lock_acquired (step.Place id program priority) = None
lock_acquired (step.Remove id) = None

abbrev pub asked_by : Script → CarrierSeen → CarrierAsk → CarrierSeen
asked_by script c (Run h) = record c {
  hand = Some (record h { value = contexts.asked (begun script h.value) });
  awaits = awaits.Step (lock_acquired (step_of (begun script h.value)));
}
asked_by script c (PutDown h) = record c { hand = None; awaits = awaits.Give (own_switched c h) (is_released c h) }
asked_by script c (LookAt context) = record (readied c) { awaits = awaits.Look }
asked_by script c (Take context seen) = record (readied c) { awaits = awaits.Take }

abbrev pub asked : Script → CarrierSeen → CarrierSeen
asked script c = asked_by script c (ask_of c)
