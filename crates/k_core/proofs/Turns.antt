-- What a turn comes to, from what each of its calls comes to.
use Rattle.std.proofs.Common.{◌≡◌, ℕ, ◌==◌, Bool, true, false, Option, None, Some, ◌⊎◌, inl, inr, refl, sym}
use Rattle.std.proofs.Common.{subst, ap, ◌∙◌}
use Rattle.std.specs.Prelude.{if◌then◌else◌, option_map}
use Rattle.std.proofs.lemmas.Bool.{cases_Bool}
use Rattle.k_ids.specs.declared.context_word.ContextWord.{ContextWord}
use Rattle.k_ids.specs.declared.context_word.ContextWord.TheVariants.{Clean, Empty, Holds, Taken}
use Rattle.k_ids.specs.declared.lock_word.LockWord.{LockWord}
use Rattle.k_ids.specs.declared.lock_word.LockWord.TheVariants.{Free, Owned}
use Rattle.k_ids.specs.ContextWords.{context_bits, context_word_of}
use Rattle.k_ids.specs.LockWords.{lock_bits, lock_word_of}
use Rattle.k_ids.specs.declared.threads.ThreadId.{ThreadId}
use Rattle.k_locks.specs.declared.goods.Goods.{Goods}
use Rattle.k_locks.specs.declared.locks.Lock.{Lock}
use Rattle.k_locks.specs.declared.steps.Answer.{Answer}
use Rattle.k_locks.specs.declared.steps.Answer.TheVariants as answer
use Rattle.k_locks.specs.declared.steps.Step.{Step}
use Rattle.k_locks.specs.declared.steps.Step.TheVariants as step
use Rattle.k_locks.specs.Steps.{answer_of, not_acquired, not_removed}
use Rattle.k_context.specs.Contexts as contexts
use Rattle.k_locks.specs.declared.points.Point.{Point}
use Rattle.k_ids.specs.declared.state_word.StateWord.{StateWord}
use Rattle.k_script.specs.Script.{Script}
use Rattle.k_carrier.specs.declared.moves.Stepped.{Stepped}
use Rattle.k_carrier.specs.declared.running.Running.{Running}
use Rattle.k_carrier.specs.Answers.{AnswerSeen}
use Rattle.k_carrier.specs.Answers as answers
use Rattle.k_carrier.specs.Asked.{PutDown, Run, ask_at, ask_with, asked, asked_by, lock_acquired, move_by}
use Rattle.k_carrier.specs.Asked.{out_of}
use Rattle.k_carrier.specs.Conditions.{CanTell}
use Rattle.k_carrier.specs.Moves.{MoveSeen, Section}
use Rattle.k_carrier.specs.Resumed.{after_section, after_step, lock_awaited, point_of, resumed}
use Rattle.k_carrier.specs.Rules.{begins, gives, readied}
use Rattle.k_carrier.specs.Running.{running_in, running_of}
use Rattle.k_carrier.specs.Seen.{CarrierSeen, HandSeen}
use Rattle.k_carrier.specs.Told.{stepped_of, told_section, told_step}
use Rattle.k_world.specs.Marks.{course_by, course_of}
use Rattle.k_world.specs.Moves.{answer_by, found_by, goods_for}
use Rattle.k_world.specs.Steps.{caller_in, running}
use Rattle.k_world.specs.Worlds.{World, state_at}
use Rattle.k_core.specs.declared.turn.Course.{Course}
use Rattle.k_core.specs.declared.turn.Course.TheVariants as course
use Rattle.k_core.specs.Courses.{IsCourse, can_tell}

-- the carrier once it was asked, its move and the answer, in a world
pub record IsAnswered (script : Script) (w : World) (k k' : CarrierSeen) (m : MoveSeen)
    (a : AnswerSeen) : Type 0 where
  pub asked : k' ≡ asked script k
  pub move : m ≡ out_of script k
  pub answer : a ≡ answer_by w (out_of script k)

pub answered : (script : Script) (w : World) (k k' : CarrierSeen) (m : MoveSeen) (a : AnswerSeen) →
    k' ≡ asked script k → m ≡ out_of script k → a ≡ answer_by w m → IsAnswered script w k k' m a
answered script w k k' m a e g h = record { asked = e; move = g; answer = h ∙ ap (answer_by w) g }

pub tells_so : (script : Script) (w : World) (k k' : CarrierSeen) (m : MoveSeen) (a : AnswerSeen) →
    IsAnswered script w k k' m a → CanTell script (asked script k) (answer_by w (out_of script k)) →
    CanTell script k' a
tells_so script w k k' m a h t = subst (λ x. CanTell script x a) (sym h.asked)
    (subst (CanTell script (asked script k)) (sym h.answer) t)

pub told_so : (script : Script) (w : World) (k k' : CarrierSeen) (m : MoveSeen) (a : AnswerSeen)
    (s : Stepped) → IsAnswered script w k k' m a → s ≡ stepped_of k' a →
    s ≡ stepped_of (asked script k) (answer_by w (out_of script k))
told_so script w k k' m a s h e = e
    ∙ (ap (λ x. stepped_of x a) h.asked ∙ ap (stepped_of (asked script k)) h.answer)

pub resumed_so : (script : Script) (w : World) (k k' : CarrierSeen) (m : MoveSeen) (a : AnswerSeen)
    (y : CarrierSeen) → IsAnswered script w k k' m a → y ≡ resumed k' a →
    y ≡ resumed (asked script k) (answer_by w (out_of script k))
resumed_so script w k k' m a y h e = e
    ∙ (ap (λ x. resumed x a) h.asked ∙ ap (resumed (asked script k)) h.answer)

pub point_so : (script : Script) (w : World) (k k' : CarrierSeen) (m : MoveSeen) (a : AnswerSeen)
    (word word' : StateWord) (p : Option Point) → IsAnswered script w k k' m a → word ≡ word' →
    p ≡ point_of k' word a → p ≡ point_of (asked script k) word' (answer_by w (out_of script k))
point_so script w k k' m a word word' p h g e =
    e ∙ (ap (λ x. point_of x word a) h.asked
    ∙ (ap (λ x. point_of (asked script k) x a) g ∙ ap (point_of (asked script k) word') h.answer))

-- THE COURSE

owned_fits : (l : Lock) (word : LockWord) → can_tell (step.Acquire l) (answer.Told (not_acquired word)) ≡ true
owned_fits l (Owned owner) = refl
owned_fits l Free = refl

kept_fits : (id : ThreadId) (word : ContextWord) →
    can_tell (step.Remove id) (answer.Told (not_removed id.number word)) ≡ true
kept_fits id (Taken carrier version) = refl
kept_fits id (Holds version) = refl
kept_fits id (Clean version) = refl
kept_fits id Empty = refl

-- whatever a step's word was
pub told_fits : (s : Step) (found : ℕ) (g : Goods) → can_tell s (answer_of s found g) ≡ true
told_fits (step.Load name) found g = refl
told_fits (step.Store name value) found g = refl
told_fits (step.Exchange name old new) found g =
    elim (cases_Bool (found == old)) [ inl y ↦ rw y refl | inr f ↦ rw f refl ]
told_fits (step.Acquire l) found g = elim (cases_Bool (found == lock_bits Free)) [
  | inl y ↦ rw y refl
  | inr f ↦ rw f (owned_fits l (lock_word_of found))
]
told_fits (step.Release l goods) found g = refl
told_fits (step.Place id program priority) found g = refl
told_fits (step.Remove id) found g = elim (cases_Bool (found == context_bits (Clean id.version))) [
  | inl y ↦ rw y refl
  | inr f ↦ rw f (kept_fits id (context_word_of found))
]

-- A carrier that was asked makes a step of its hand, or has none.
pub record MakesStep (kk : CarrierSeen) (m : MoveSeen) : Type 0 where
  pub hand : HandSeen
  pub step : Step
  pub has : kk.hand ≡ Some hand
  pub move : m ≡ Section step
  pub lock : lock_awaited kk.awaits ≡ lock_acquired step

readied_hand : (k : CarrierSeen) → (readied k).hand ≡ k.hand
readied_hand k = elim (cases_Bool (begins k)) [ inl y ↦ rw y refl | inr f ↦ rw f refl ]

seen_by : (script : Script) (k : CarrierSeen) (o : Option ℕ) → k.hand ≡ None →
    (asked_by script k (ask_at (readied k) o)).hand ≡ None
seen_by script k None e = readied_hand k ∙ e
seen_by script k (Some bits) e = readied_hand k ∙ e

held_by : (script : Script) (k : CarrierSeen) (h : HandSeen) (b : Bool) →
    ((asked_by script k (if b then PutDown h else Run h)).hand ≡ None) ⊎ MakesStep
    (asked_by script k (if b then PutDown h else Run h)) (move_by script k (if b then PutDown h else Run h))
held_by script k h true = inl refl
held_by script k h false = inr (record {
  hand = record h { value = contexts.asked (contexts.begun script h.value) };
  step = contexts.step_of (contexts.begun script h.value);
  has = refl;
  move = refl;
  lock = refl;
})

asked_with : (script : Script) (k : CarrierSeen) (hand : Option HandSeen) → k.hand ≡ hand →
    ((asked_by script k (ask_with k hand)).hand ≡ None) ⊎ MakesStep (asked_by script k (ask_with k hand))
    (move_by script k (ask_with k hand))
asked_with script k None e = inl (seen_by script k (readied k).looked e)
asked_with script k (Some h) e = held_by script k h (gives k h)

pub makes_step : (script : Script) (k : CarrierSeen) → ((asked script k).hand ≡ None) ⊎ MakesStep
    (asked script k) (out_of script k)
makes_step script k = asked_with script k k.hand refl

-- what code knows of a course by what was told
abbrev pub ByTold : Course → Option Running → Option Running → Stepped → Type 0
ByTold result before after told = (k : CarrierSeen) (h : HandSeen) (s : Step) (a : Answer) → k.hand ≡ Some h →
    before ≡ running_in k → lock_awaited k.awaits ≡ lock_acquired s → can_tell s a ≡ true →
    after ≡ running_in (after_step k h a) → told ≡ told_step k h a → IsCourse k result (course_by h.value s a)

still_of : (kk : CarrierSeen) (m : MoveSeen) (a : AnswerSeen) (result : Course) → result ≡ course.Still →
    kk.hand ≡ None → IsCourse kk result (course_of kk.hand m a)
still_of kk m a result e none = subst (λ r. IsCourse kk r (course_of kk.hand m a)) (sym e)
    (ap (λ h. course_of h m a) none)

pub course_so : (script : Script) (w : World) (k : CarrierSeen) (result : Course)
    (before after : Option Running) (told : Stepped) → before ≡ running_in (asked script k) →
    after ≡ running_in (resumed (asked script k) (answer_by w (out_of script k))) →
    told ≡ stepped_of (asked script k) (answer_by w (out_of script k)) →
    (before ≡ None → result ≡ course.Still) → ByTold result before after told →
    IsCourse (asked script k) result (course_of (asked script k).hand (out_of script k)
    (answer_by w (out_of script k)))
course_so script w k result before after told b a t still section = elim (makes_step script k) [
  | inl none ↦ still_of (asked script k) (out_of script k) (answer_by w (out_of script k)) result
      (still (b ∙ ap (option_map (running_of (asked script k))) none)) none
  | inr m ↦
      let reply : Answer = answer_of m.step (found_by w (Section m.step)) (goods_for w m.step) in
      let came : answer_by w (out_of script k) ≡ answers.Section reply = ap (answer_by w) m.move in
      let goes : resumed (asked script k) (answers.Section reply) ≡ after_step (asked script k) m.hand reply =
      ap (λ h. after_section (asked script k) h reply) m.has in
      let tells : stepped_of (asked script k) (answers.Section reply) ≡ told_step (asked script k) m.hand
      reply = ap (λ h. told_section (asked script k) h reply) m.has in
      let is : course_of (Some m.hand) (Section m.step) (answers.Section reply) ≡ course_of
      (asked script k).hand (out_of script k) (answer_by w (out_of script k)) =
      ap (λ h. course_of h (Section m.step) (answers.Section reply)) (sym m.has)
      ∙ (ap (λ x. course_of (asked script k).hand x (answers.Section reply)) (sym m.move)
      ∙ ap (course_of (asked script k).hand (out_of script k)) (sym came)) in
      subst (IsCourse (asked script k) result) is
      (section (asked script k) m.hand m.step reply m.has b m.lock
      (told_fits m.step (found_by w (Section m.step)) (goods_for w m.step))
      (a ∙ ap (λ x. running_in (resumed (asked script k) x)) came ∙ ap running_in goes)
      (t ∙ ap (stepped_of (asked script k)) came ∙ tells))
]

-- THE CALLER

pub caller_is : (w : World) (hand : Option HandSeen) → caller_in w hand ≡ state_at w (running hand)
caller_is w None = refl
caller_is w (Some h) = refl
