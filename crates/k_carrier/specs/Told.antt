-- What is told of a carrier's move.
use Rattle.std.specs.Prelude.{ℕ, if◌then◌else◌, Option, Some, None}
use Rattle.k_ids.specs.declared.calls.Reply.{Reply}
use Rattle.k_ids.specs.declared.context_word.ContextWord.{ContextWord}
use Rattle.k_ids.specs.declared.context_word.ContextWord.TheVariants as word
use Rattle.k_ids.specs.ContextWords.{context_word_of}
use Rattle.k_locks.specs.declared.locks.Lock.{Lock}
use Rattle.k_locks.specs.declared.steps.Answer.{Answer}
use Rattle.k_locks.specs.declared.steps.Told.{Told}
use Rattle.k_locks.specs.declared.steps.Told.TheVariants as told
use Rattle.k_caller.specs.declared.ran.Ran.{Ran}
use Rattle.k_caller.specs.declared.ran.Ran.TheVariants as ran
use Rattle.k_switch.specs.declared.goal.Goal.{Goal}
use Rattle.k_switch.specs.declared.goal.Switched.{Switched}
use Rattle.k_context.specs.declared.owner.Owner.{Owner}
use Rattle.k_context.specs.declared.owner.Owner.TheVariants as owner
use Rattle.k_context.specs.Contexts.{owner_of, ran_of}
use Rattle.k_carrier.specs.declared.moves.Stepped.{Stepped}
use Rattle.k_carrier.specs.declared.moves.Stepped.TheVariants as stepped
use Rattle.k_carrier.specs.Answers.{AnswerSeen, Section, Looked, Took, TakeLost, Given}
use Rattle.k_carrier.specs.Resumed.{lock_awaited, switched_given, told_in}
use Rattle.k_carrier.specs.Rules.{context_at, is_goals, target_of}
use Rattle.k_carrier.specs.Seen.{CarrierSeen, HandSeen}

-- a thread's call is over, also where a helper ran it
abbrev pub replied : Owner → ℕ → Reply → Stepped
replied (owner.Thread id) serial reply = stepped.Replied id serial reply
replied (owner.Carrier number) serial reply = stepped.On

-- of a context whose step was made
abbrev pub told_by : Option Goal → Owner → Ran → Stepped
told_by goal o ran.Left = if is_goals goal o then stepped.Left else stepped.On
told_by goal o (ran.Replied serial reply) = replied o serial reply
told_by goal o r = stepped.On

-- the lock that the step acquires is owned
abbrev pub blocked : Option Lock → ℕ → Stepped
blocked (Some l) owner = stepped.Blocked l owner
blocked None owner = stepped.On

abbrev pub told_waiting : Option Lock → Option Told → Stepped → Stepped
told_waiting l (Some (told.Owned owner)) s = blocked l owner
told_waiting l (Some (told.Holds context)) s = stepped.BlockedBy context
told_waiting l (Some (told.Taken context carrier)) s = stepped.Missed context carrier
told_waiting l t s = s

abbrev pub told_step : CarrierSeen → HandSeen → Answer → Stepped
told_step c h a = told_waiting (lock_awaited c.awaits) (told_in a) (told_by c.goal (owner_of h.value) (ran_of h.value a))

abbrev pub told_section : CarrierSeen → Option HandSeen → Answer → Stepped
told_section c (Some h) a = told_step c h a
told_section c None a = stepped.On

-- another carrier has the context in its hand
abbrev pub told_word : ℕ → ContextWord → Stepped
told_word context (word.Taken carrier version) = stepped.Missed context carrier
told_word context w = stepped.On

-- its switch has found no thread to run, and no carrier runs one
abbrev pub told_switched : Option Switched → Stepped
told_switched None = stepped.On
told_switched (Some s) = if s.idle then stepped.Idle else stepped.On

abbrev pub stepped_of : CarrierSeen → AnswerSeen → Stepped
stepped_of c (Section a) = told_section c c.hand a
stepped_of c (Looked bits) = told_word (context_at c (target_of c)) (context_word_of bits)
stepped_of c (Took v) = stepped.On
stepped_of c (TakeLost bits) = told_word (context_at c (target_of c)) (context_word_of bits)
stepped_of c Given = told_switched (switched_given c.awaits)
