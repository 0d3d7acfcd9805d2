-- When a carrier can be asked for a move, and what can be told of it: conditions on the carrier and on the answer alone.
use Rattle.std.specs.Prelude.{ℕ, ◌+◌, ◌≡◌, ◌≢◌, ◌<◌, Bool, true, false, ◌||◌, Option, Some, None, IfSome, is_some}
use Rattle.k_ids.specs.declared.context_word.ContextWord.{ContextWord}
use Rattle.k_ids.specs.declared.context_word.ContextWord.TheVariants as word
use Rattle.k_ids.specs.ContextWords.{IsContextSpelling, IsVersion, context_word_of}
use Rattle.k_locks.specs.declared.steps.Answer.{Answer}
use Rattle.k_locks.specs.declared.steps.Answer.TheVariants as answer
use Rattle.k_locks.specs.declared.steps.Told.TheVariants as told
use Rattle.k_locks.specs.Steps.{suits}
use Rattle.k_script.specs.Script.{Script}
use Rattle.k_switch.specs.declared.goal.Goal.{Goal}
use Rattle.k_switch.specs.Switches.{IsGoal}
use Rattle.k_context.specs.Contexts.{CanPush, ContextSeen, IsFit, begun, can_ask, is_open, step_of}
use Rattle.k_context.specs.Contexts as contexts
use Rattle.k_carrier.specs.declared.moves.Awaits.{Awaits}
use Rattle.k_carrier.specs.declared.moves.Awaits.TheVariants as awaits
use Rattle.k_carrier.specs.Answers.{AnswerSeen, Section, Looked, Took, TakeLost, Given}
use Rattle.k_carrier.specs.Asked.{CarrierAsk, LookAt, PutDown, Run, Take, ask_of}
use Rattle.k_carrier.specs.Rules.{context_at, is_own, own_context, own_switched, target_of}
use Rattle.k_carrier.specs.Seen.{CarrierSeen, HandSeen}

-- THE CARRIER

-- the context of this number: a thread's has the thread's number, and those of carriers come after those of threads
abbrev pub IsOfNumber : ℕ → ℕ → ContextSeen → Type 0
IsOfNumber table context (contexts.Thread t) = t.id.number ≡ context
IsOfNumber table context (contexts.Carrier k) = table + k.carrier ≡ context

-- a thread of the table, with a priority
pub record IsGoalIn (table : ℕ) (g : Goal) : Type 0 where
  pub goal : IsGoal g
  pub inside : g.id.number < table

pub record IsHand (script : Script) (table : ℕ) (h : HandSeen) : Type 0 where
  pub number : IsOfNumber table h.context h.value
  pub sound : contexts.IsSound script h.value

-- a context that rests
abbrev pub IsResting : ContextWord → Type 0
IsResting (word.Clean version) = IsVersion version
IsResting (word.Holds version) = IsVersion version
IsResting (word.Taken carrier version) = ⊥
IsResting word.Empty = ⊥

-- A carrier has its own context in hand only to switch. While it switches it has no other but one that it helps, or has just
-- helped.
abbrev pub IsHandSteady : CarrierSeen → HandSeen → Type 0
IsHandSteady c h = (is_own c h ≡ true → c.switching ≡ true) × (c.switching ≡ true → (is_own c h || is_some c.help) ≡ true)

-- what it waits for, by what it was asked for
abbrev pub IsAwaiting : CarrierSeen → Option HandSeen → Awaits → Type 0
IsAwaiting c h awaits.Nothing = Unit {0}
IsAwaiting c (Some h) (awaits.Step l) = is_open h.value ≡ true
IsAwaiting c None (awaits.Step l) = ⊥
IsAwaiting c h awaits.Look = (h ≡ None) × ((c.switching || is_some c.goal) ≡ true)
IsAwaiting c h awaits.Take = (h ≡ None) × ((c.switching || is_some c.goal) ≡ true)
IsAwaiting c h (awaits.Give switched released) = (h ≡ None) × IfSome switched (λ s. IfSome s.goal (IsGoalIn c.table))

pub record IsSound (script : Script) (c : CarrierSeen) : Type 0 where
  pub number : c.number < 8
  pub table : c.table ≡ script.table
  pub goal : IfSome c.goal (IsGoalIn c.table)
  pub hand : IfSome c.hand (IsHand script c.table)
  pub steady : IfSome c.hand (IsHandSteady c)
  pub others : IfSome c.help (λ p. p.context ≢ own_context c)  -- it helps others
  pub looked : IfSome c.looked (λ bits. IsContextSpelling bits × IsResting (context_word_of bits))
  pub awaiting : IsAwaiting c c.hand c.awaits

-- whether the step of the context in its hand can have this answer
abbrev pub suits_hand : Option HandSeen → Answer → Bool
suits_hand (Some h) a = suits (step_of h.value) a
suits_hand None a = false

-- THE MOVE

-- the step of a context in its hand can be asked for; and a thread to which its switch gives the processor is one
abbrev pub CanMove : Script → CarrierSeen → CarrierAsk → Type 0
CanMove script c (Run h) = (can_ask (begun script h.value) ≡ true) × CanPush (begun script h.value)
CanMove script c (PutDown h) = IfSome (own_switched c h) (λ s. IfSome s.goal (IsGoalIn c.table))
CanMove script c (LookAt context) = Unit {0}
CanMove script c (Take context seen) = Unit {0}

-- The move before was answered, and the next one can be asked for.
pub record CanAsk (script : Script) (c : CarrierSeen) : Type 0 where
  pub answered : c.awaits ≡ awaits.Nothing
  pub sound : IsSound script c
  pub move : CanMove script c (ask_of c)

-- THE ANSWER

-- Who has to be helped isn't the carrier's own context: that holds the ready lock alone, and takes nothing while it does.
abbrev pub IsOfOthers : CarrierSeen → Answer → Type 0
IsOfOthers c (answer.Told (told.Owned owner)) = owner ≢ own_context c
IsOfOthers c (answer.Told (told.Holds context)) = context ≢ own_context c
IsOfOthers c a = Unit {0}

abbrev pub CanTellStep : Script → CarrierSeen → Option HandSeen → Answer → Type 0
CanTellStep script c (Some h) a = (suits (step_of h.value) a ≡ true) × IsFit script h.value a × IsOfOthers c a
CanTellStep script c None a = ⊥

-- The answer is one to what was asked for.
abbrev pub CanTellOf : Script → CarrierSeen → Awaits → AnswerSeen → Type 0
CanTellOf script c (awaits.Step l) (Section a) = CanTellStep script c c.hand a
CanTellOf script c awaits.Look (Looked bits) = IsContextSpelling bits
CanTellOf script c awaits.Take (Took v) = IsOfNumber c.table (context_at c (target_of c)) v × contexts.IsSound script v
CanTellOf script c awaits.Take (TakeLost bits) = IsContextSpelling bits
CanTellOf script c (awaits.Give switched released) Given = Unit {0}
CanTellOf script c w a = ⊥

abbrev pub CanTell : Script → CarrierSeen → AnswerSeen → Type 0
CanTell script c a = CanTellOf script c c.awaits a
