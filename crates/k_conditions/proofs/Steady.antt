-- A carrier whose move was answered: what stays of it, whatever the answer.
use Rattle.std.proofs.Common.{◌≡◌, ℕ, Bool, true, false, refl, Option, Some, None, IfSome, List, length}
use Rattle.std.proofs.lemmas.List.{length-set}
use Rattle.std.specs.Prelude.{◌==◌, if◌then◌else◌}
use Rattle.k_ids.specs.declared.context_word.ContextWord.{ContextWord}
use Rattle.k_ids.specs.declared.context_word.ContextWord.TheVariants as word
use Rattle.k_locks.specs.declared.steps.Answer.{Answer}
use Rattle.k_script.specs.Script.{Script}
use Rattle.k_switch.specs.declared.goal.Switched.{Switched}
use Rattle.k_caller.proofs.Owned.{either}
use Rattle.k_context.specs.Contexts.{ContextSeen, has_switch}
use Rattle.k_context.specs.Contexts as contexts
use Rattle.k_carrier.specs.declared.carrier.Target.{Target}
use Rattle.k_carrier.specs.declared.carrier.Target.TheVariants as target
use Rattle.k_carrier.specs.declared.moves.Awaits.TheVariants as awaits
use Rattle.k_carrier.specs.Answers.{AnswerSeen}
use Rattle.k_carrier.specs.Answers as answers
use Rattle.k_carrier.specs.Conditions.{CanTell, IsSound}
use Rattle.k_carrier.specs.Resumed.{after_look, after_section, after_take, help_after, in_hand, is_given_released}
use Rattle.k_carrier.specs.Resumed.{is_holding, lock_awaited, resumed, seen, switch_begun, switched_given}
use Rattle.k_carrier.specs.Resumed.{switched_to, told_in}
use Rattle.k_carrier.specs.Asked.{version_in}
use Rattle.k_carrier.specs.Rules.{begins, readied, target_of}
use Rattle.k_carrier.specs.Seen.{CarrierSeen, HandSeen}
use Rattle.k_carrier.specs.Starts.{first_start, without_start}
use Rattle.k_carrier.proofs.Sound.{give_heard, given_sound, look_heard, looked_sound, lost_sound, section_heard}
use Rattle.k_carrier.proofs.Sound.{section_sound, step_awaited, take_heard, took_sound}

-- what is so of the help after an answer
abbrev pub HelpsSo : (ℕ → Type 0) → CarrierSeen → AnswerSeen → Type 0
HelpsSo P c (answers.Section a) = IfSome (help_after c.help (lock_awaited c.awaits) (told_in a))
    (λ p. P p.context)
HelpsSo P c a = Unit {0}

abbrev Any : ℕ → Type 0
Any n = Unit {0}

-- as it was, but that it may help nobody any more
pub record Keeps (P : ℕ → Type 0) (c k : CarrierSeen) : Type 0 where
  pub number : k.number ≡ c.number
  pub starts : length k.starts ≡ length c.starts
  pub help : IfSome c.help (λ p. P p.context) → IfSome k.help (λ p. P p.context)

itself : (P : ℕ → Type 0) (c : CarrierSeen) → Keeps P c c
itself P c = record { number = refl; starts = refl; help = λ is. is }

seen_keeps : (P : ℕ → Type 0) (c : CarrierSeen) (w : ContextWord) (bits : ℕ) → Keeps P c (seen c w bits)
seen_keeps P c (word.Clean version) bits = record { number = refl; starts = refl; help = λ is. is }
seen_keeps P c (word.Holds version) bits = record { number = refl; starts = refl; help = λ is. is }
seen_keeps P c (word.Taken carrier version) bits = itself P c
seen_keeps P c word.Empty bits = itself P c

look_keeps : (P : ℕ → Type 0) (c : CarrierSeen) (t : Target) (w : ContextWord) (bits : ℕ) →
    Keeps P c (after_look c t w bits)
look_keeps P c (target.Helped context) w bits =
    either (Keeps P c) (is_holding w) (record c { looked = Some bits }) (record c { help = None })
    (record { number = refl; starts = refl; help = λ is. is })
    (record { number = refl; starts = refl; help = λ is. tt })
look_keeps P c target.Own w bits = seen_keeps P c w bits
look_keeps P c (target.GoalOf g) w bits =
    either (Keeps P c) (version_in w == g.id.version) (seen c w bits) (record c { goal = None })
    (seen_keeps P c w bits) (record { number = refl; starts = refl; help = λ is. is })

started_length : (starts : List Bool) (o : Option ℕ) → length (without_start starts o) ≡ length starts
started_length starts None = refl
started_length starts (Some n) = length-set starts n false

take_keeps : (P : ℕ → Type 0) (c : CarrierSeen) (t : Target) (v : ContextSeen) → Keeps P c (after_take c t v)
take_keeps P c (target.Helped context) v = record { number = refl; starts = refl; help = λ is. is }
take_keeps P c target.Own v =
    either (Keeps P c) (has_switch v) (in_hand c _ v) (switch_begun c v)
    (record { number = refl; starts = refl; help = λ is. is })
    (record { number = refl; starts = started_length c.starts (first_start c.starts); help = λ is. is })
take_keeps P c (target.GoalOf g) v = record { number = refl; starts = refl; help = λ is. is }

given_keeps : (P : ℕ → Type 0) (c : CarrierSeen) (b : Bool) (o : Option Switched) →
    Keeps P c (switched_to (record c { putting = false; help = if b then None else c.help }) o)
given_keeps P c true None = record { number = refl; starts = refl; help = λ is. tt }
given_keeps P c false None = record { number = refl; starts = refl; help = λ is. is }
given_keeps P c true (Some s) = record { number = refl; starts = refl; help = λ is. tt }
given_keeps P c false (Some s) = record { number = refl; starts = refl; help = λ is. is }

pub readied_keeps : (P : ℕ → Type 0) (c : CarrierSeen) → Keeps P c (readied c)
readied_keeps P c = either (Keeps P c) (begins c) (record c { switching = true; help = None; looked = None })
    c (record { number = refl; starts = refl; help = λ is. tt }) (itself P c)

section_number : (c : CarrierSeen) (o : Option HandSeen) (a : Answer) →
    (after_section c o a).number ≡ c.number
section_number c None a = refl
section_number c (Some h) a = refl

section_starts : (c : CarrierSeen) (o : Option HandSeen) (a : Answer) →
    length (after_section c o a).starts ≡ length c.starts
section_starts c None a = refl
section_starts c (Some h) a = refl

section_helps : (P : ℕ → Type 0) (c : CarrierSeen) (o : Option HandSeen) (a : Answer) →
    IfSome c.help (λ p. P p.context) → IfSome (help_after c.help (lock_awaited c.awaits) (told_in a))
    (λ p. P p.context) → IfSome (after_section c o a).help (λ p. P p.context)
section_helps P c None a was now = was
section_helps P c (Some h) a was now = now

-- ANY ANSWER

pub resumed_number : (c : CarrierSeen) (a : AnswerSeen) → (resumed c a).number ≡ c.number
resumed_number c (answers.Section a) = section_number c c.hand a
resumed_number c (answers.Looked bits) =
    (look_keeps Any (record c { awaits = awaits.Nothing }) (target_of c) _ bits).number
resumed_number c (answers.Took v) =
    (take_keeps Any (record c { awaits = awaits.Nothing }) (target_of c) v).number
resumed_number c (answers.TakeLost bits) = refl
resumed_number c answers.Given = (given_keeps Any (record c { awaits = awaits.Nothing })
    (is_given_released c.awaits) (switched_given c.awaits)).number

pub resumed_starts : (c : CarrierSeen) (a : AnswerSeen) → length (resumed c a).starts ≡ length c.starts
resumed_starts c (answers.Section a) = section_starts c c.hand a
resumed_starts c (answers.Looked bits) =
    (look_keeps Any (record c { awaits = awaits.Nothing }) (target_of c) _ bits).starts
resumed_starts c (answers.Took v) =
    (take_keeps Any (record c { awaits = awaits.Nothing }) (target_of c) v).starts
resumed_starts c (answers.TakeLost bits) = refl
resumed_starts c answers.Given = (given_keeps Any (record c { awaits = awaits.Nothing })
    (is_given_released c.awaits) (switched_given c.awaits)).starts

pub resumed_helps : (P : ℕ → Type 0) (c : CarrierSeen) (a : AnswerSeen) → IfSome c.help (λ p. P p.context) →
    HelpsSo P c a → IfSome (resumed c a).help (λ p. P p.context)
resumed_helps P c (answers.Section a) was now = section_helps P c c.hand a was now
resumed_helps P c (answers.Looked bits) was now =
    (look_keeps P (record c { awaits = awaits.Nothing }) (target_of c) _ bits).help was
resumed_helps P c (answers.Took v) was now =
    (take_keeps P (record c { awaits = awaits.Nothing }) (target_of c) v).help was
resumed_helps P c (answers.TakeLost bits) was now = was
resumed_helps P c answers.Given was now =
    (given_keeps P (record c { awaits = awaits.Nothing }) (is_given_released c.awaits)
    (switched_given c.awaits)).help was

pub resumed_answered : (script : Script) (c : CarrierSeen) (a : AnswerSeen) → CanTell script c a →
    (resumed c a).awaits ≡ awaits.Nothing
resumed_answered script c (answers.Section a) can =
    section_heard script c c.hand a (step_awaited script c c.awaits a can)
resumed_answered script c (answers.Looked bits) can = look_heard c (target_of c) _ bits
resumed_answered script c (answers.Took v) can = take_heard c (target_of c) v
resumed_answered script c (answers.TakeLost bits) can = refl
resumed_answered script c answers.Given can = give_heard _ (switched_given c.awaits) refl

-- what has to be so of the context in its hand where that was answered
abbrev pub ValueSound : Script → CarrierSeen → AnswerSeen → Type 0
ValueSound script c (answers.Section a) =
    IfSome c.hand (λ h. contexts.IsSound script (contexts.resumed h.value a))
ValueSound script c a = Unit {0}

pub resumed_sound : (script : Script) (c : CarrierSeen) (a : AnswerSeen) → IsSound script c →
    CanTell script c a → ValueSound script c a → IsSound script (resumed c a)
resumed_sound script c (answers.Section a) sound can value = section_sound script c a sound can value
resumed_sound script c (answers.Looked bits) sound can value = looked_sound script c bits sound can
resumed_sound script c (answers.Took v) sound can value = took_sound script c v sound can
resumed_sound script c (answers.TakeLost bits) sound can value = lost_sound script c bits sound
resumed_sound script c answers.Given sound can value = given_sound script c sound can
