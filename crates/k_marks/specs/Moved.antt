-- What a step of a carrier makes of the contexts, of their numbers' versions and of the log; and what it has to find, so that
-- it is counted.
use Rattle.std.specs.Prelude.{◌≡◌, ◌≢◌, ℕ, ◌<◌, true, Option, Some, None}
use Rattle.k_model.specs.Maps.{upd}
use Rattle.k_locks.specs.declared.steps.Answer.{Answer}
use Rattle.k_locks.specs.declared.steps.Answer.TheVariants as answered
use Rattle.k_locks.specs.declared.steps.Step.{Step}
use Rattle.k_locks.specs.declared.steps.Step.TheVariants as step
use Rattle.k_locks.specs.declared.steps.Told.TheVariants as told
use Rattle.k_ids.specs.declared.calls.Reply.{Reply}
use Rattle.k_ids.specs.declared.threads.ThreadId.{ThreadId}
use Rattle.k_script.specs.Script.{Script}
use Rattle.k_caller.specs.declared.activity.Activity.TheVariants as activity
use Rattle.k_caller.specs.declared.thread.ThreadLocation.TheVariants as location
use Rattle.k_caller.specs.Threads.{ThreadSeen}
use Rattle.k_switch.specs.declared.carrier_context.CarrierContext.{CarrierContext}
use Rattle.k_switch.specs.Carriers.{can_ask, last_serial}
use Rattle.k_context.specs.Contexts.{Carrier, ContextSeen, Thread, thread_of}
use Rattle.k_carrier.specs.Answers.{AnswerSeen}
use Rattle.k_carrier.specs.Answers as answer
use Rattle.k_carrier.specs.Moves.{MoveSeen}
use Rattle.k_carrier.specs.Moves as move
use Rattle.k_carrier.specs.Rules.{context_at, target_of}
use Rattle.k_carrier.specs.Seen.{HandSeen}
use Rattle.k_world.specs.Steps.{CarrierStep, carrier_after, moved_by}
use Rattle.k_world.specs.Worlds.{World}
use Rattle.k_marks.specs.Counting.{Counting}

-- CONTEXTS BY NUMBER

-- with the context that a carrier has in hand
abbrev pub with_hand : Option HandSeen → (ℕ → Option ContextSeen) → ℕ → Option ContextSeen
with_hand None contexts = contexts
with_hand (Some h) contexts = upd contexts h.context (Some h.value)

-- by a step of a section: a context may be placed, or removed
abbrev pub with_step : Script → Step → Answer → (ℕ → Option ContextSeen) → ℕ → Option ContextSeen
with_step script (step.Place id program priority) (answered.Told told.Placed) contexts =
    upd contexts id.number (Some (thread_of script id program priority))
with_step script (step.Remove id) (answered.Told told.Removed) contexts = upd contexts id.number None
with_step script s a contexts = contexts

-- by a carrier's move: that of its hand may make a step, or be put down
abbrev pub with_move : Script → MoveSeen → AnswerSeen → (ℕ → Option ContextSeen) → ℕ → Option ContextSeen
with_move script (move.Section s) (answer.Section a) contexts = with_step script s a contexts
with_move script (move.GiveContext n new v) answer.Given contexts = upd contexts n (Some v)
with_move script m a contexts = contexts

abbrev pub contexts_after : Script → CarrierStep → (ℕ → Option ContextSeen) → ℕ → Option ContextSeen
contexts_after script s contexts = with_hand (carrier_after s).hand (with_move script s.move s.answer contexts)

-- VERSIONS

abbrev pub versions_with : Step → Answer → (ℕ → ℕ) → ℕ → ℕ
versions_with (step.Place id program priority) (answered.Told told.Placed) versions = upd versions id.number id.version
versions_with s a versions = versions

abbrev pub versions_after : MoveSeen → AnswerSeen → (ℕ → ℕ) → ℕ → ℕ
versions_after (move.Section s) (answer.Section a) versions = versions_with s a versions
versions_after m a versions = versions

-- A STEP OF A CARRIER

abbrev pub counting_by : Script → World → CarrierStep → Counting → Counting
counting_by script w m s = record {
  marks = (moved_by script w m).steps;
  context = contexts_after script m s.context;
  version = versions_after m.move m.answer s.version;
}

-- What a carrier's step has to find. Where contexts are: the one in hand is that of its number, and so is one that is taken; one
-- is placed where there is none, for a thread of a version that its number hasn't had; and none removes itself. And that there is
-- something to count: a thread between two calls has a serial left, and a carrier's own context that makes a step has a switch
-- whose step can be asked for.
pub record IsCountable (m : CarrierStep) (s : Counting) : Type 0 where
  pub hand : (h : HandSeen) → m.before.hand ≡ Some h → s.context h.context ≡ Some h.value
  pub took : (v : ContextSeen) → m.answer ≡ answer.Took v → s.context (context_at m.asked (target_of m.asked)) ≡ Some v
  pub vacant : (id : ThreadId) (program priority : ℕ) → m.move ≡ move.Section (step.Place id program priority) →
      m.answer ≡ answer.Section (answered.Told told.Placed) → s.context id.number ≡ None
  pub later : (id : ThreadId) (program priority : ℕ) → m.move ≡ move.Section (step.Place id program priority) →
      m.answer ≡ answer.Section (answered.Told told.Placed) → s.version id.number < id.version
  pub apart : (h : HandSeen) (id : ThreadId) → m.before.hand ≡ Some h → m.move ≡ move.Section (step.Remove id) →
      id.number ≢ h.context
  pub serial : (h : HandSeen) (t : ThreadSeen) (last : Option Reply) → m.before.hand ≡ Some h → h.value ≡ Thread t →
      t.activity ≡ activity.Alone (location.Between last) → t.serial < last_serial
  pub ready : (h : HandSeen) (k : CarrierContext) (st : Step) → m.before.hand ≡ Some h → h.value ≡ Carrier k →
      m.move ≡ move.Section st → can_ask k ≡ true
