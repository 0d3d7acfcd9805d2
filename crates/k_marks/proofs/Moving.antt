-- After a step of a carrier, whatever its move, each context has counted the marks of its call.
use Rattle.std.proofs.Common.{arith, ◌≡◌, ◌≢◌, ℕ, ◌<◌, Bool, true, false, cond, refl, sym}
use Rattle.std.proofs.Common.{ap, ◌∙◌, subst, Option, Some, None, List, ◌++◌, inl, inr}
use Rattle.std.specs.Prelude.{◌==◌, is_some, nat_lt}
use Rattle.std.proofs.lemmas.Bool.{and_parts, cases_Bool, cond_both}
use Rattle.std.proofs.lemmas.Bool.Decides.{nat_tests}
use Rattle.std.proofs.lemmas.Bool.Decides.{eqb_tells}
use Rattle.std.proofs.lemmas.List.{append-nil}
use Rattle.k_ids.specs.declared.context_word.ContextWord.{ContextWord}
use Rattle.k_ids.specs.declared.context_word.ContextWord.TheVariants as word
use Rattle.k_ids.specs.ContextWords.{context_word_of}
use Rattle.k_ids.specs.declared.threads.ThreadId.{ThreadId}
use Rattle.k_model.specs.Maps.{upd}
use Rattle.k_model.proofs.Maps.{upd_other, upd_same}
use Rattle.k_locks.specs.declared.goods.Goods.TheVariants as goods
use Rattle.k_locks.specs.Hands.{no_queue}
use Rattle.k_locks.specs.declared.steps.Answer.{Answer}
use Rattle.k_locks.specs.declared.steps.Answer.TheVariants as answered
use Rattle.k_locks.specs.declared.steps.Step.{Step}
use Rattle.k_locks.specs.declared.steps.Step.TheVariants as step
use Rattle.k_locks.specs.declared.steps.Told.TheVariants as told
use Rattle.k_locks.specs.Steps.{answer_of, is_again}
use Rattle.k_script.specs.Script.{Script}
use Rattle.k_switch.specs.declared.goal.Switched.{Switched}
use Rattle.k_switch.specs.declared.carrier_context.CarrierContext.{CarrierContext}
use Rattle.k_switch.specs.Carriers.{can_ask, last_serial}
use Rattle.k_context.specs.declared.owner.Owner.{Owner}
use Rattle.k_context.specs.Contexts.{Carrier, Thread, ContextSeen, asked, begun, done_of, has_switch}
use Rattle.k_context.specs.Contexts.{resumed, step_of, thread_of, with_switch, without_switch, woken}
use Rattle.k_carrier.specs.declared.carrier.Target.{Target}
use Rattle.k_carrier.specs.declared.carrier.Target.TheVariants.{GoalOf, Helped, Own}
use Rattle.k_carrier.specs.declared.marks.StepMark.{StepMark}
use Rattle.k_carrier.specs.Answers.{AnswerSeen}
use Rattle.k_carrier.specs.Answers as answer
use Rattle.k_carrier.specs.Asked.{CarrierAsk, LookAt, PutDown, Run, Take, ask_at, ask_with, asked_by, version_in, move_by, rested}
use Rattle.k_carrier.specs.Moves.{MoveSeen}
use Rattle.k_carrier.specs.Moves as move
use Rattle.k_carrier.specs.Resumed as carrier
use Rattle.k_carrier.specs.Rules.{begins, context_at, gives, is_own, own_context, own_switched, readied, switched_in, target_of}
use Rattle.k_carrier.specs.Running.{runner_of}
use Rattle.k_carrier.specs.Seen.{CarrierSeen, HandSeen}
use Rattle.k_world.specs.Moves.{found_by, goods_for}
use Rattle.k_world.specs.Marks.{Course, Onward, Still, course_by, course_of, has_mark, marks_by}
use Rattle.k_world.specs.Steps.{CarrierStep, moved, step_in, step_with}
use Rattle.k_world.specs.Worlds.{World, carrier_at}
use Rattle.k_world.proofs.Steps.{step_marked}
use Rattle.k_marks.specs.Counting.{Counting, Goes, IsCounted, stays}
use Rattle.k_marks.specs.Brief.{IsBrief, IsTallied}
use Rattle.k_marks.specs.Moved.{IsCountable, contexts_after, counting_by, versions_after}
use Rattle.k_marks.specs.Moved.{versions_with, with_hand, with_move, with_step}
use Rattle.k_marks.proofs.Brief.{few_left, step_brief, with_brief, without_brief, woken_brief}
use Rattle.k_marks.proofs.Contexts.{asked_goes, begun_goes, placed_new, resumed_again, with_goes, without_goes, woken_goes}
use Rattle.k_marks.proofs.Keeping.{go_keeps, none_some, some_is, place_keeps, remove_keeps, step_keeps}

if_cases : {A : Type 0} (P : A → Type 0) (c : Bool) (x y : A) → (c ≡ true → P x) → (c ≡ false → P y) → P (cond c x y)
if_cases P c x y h k = cond_both c x y P h k

-- a number changed twice
upd_twice : (f : ℕ → Option ContextSeen) (n : ℕ) (a d : Option ContextSeen) → upd (upd f n a) n d ≡ upd f n d
upd_twice f n a d = λ i m. at m i
  where
    at : (m : ℕ) → upd (upd f n a) n d m ≡ upd f n d m
    at m = elim (eqb_tells m n) [
      | inl e ↦ ap (upd (upd f n a) n d) e.1 ∙ (upd_same (upd f n a) n d ∙ sym (ap (upd f n d) e.1 ∙ upd_same f n d))
      | inr e ↦ upd_other (upd f n a) n d m e.1 ∙ (upd_other f n a m e.1 ∙ sym (upd_other f n d m e.1))
    ]

-- A STEP OF A SECTION

onward : (v : ContextSeen) (st : Step) (a : Answer) → is_again a ≡ false → course_by v st a ≡ Onward v
onward v st (answered.Got goods) n = refl
onward v st (answered.Told (told.Owned i)) n = absurd cc
onward v st (answered.Told (told.Holds i)) n = absurd cc
onward v st (answered.Told (told.Taken i carrier)) n = absurd cc
onward v st (answered.Told (told.Loaded bits)) n = refl
onward v st (answered.Told told.Stored) n = refl
onward v st (answered.Told told.Won) n = refl
onward v st (answered.Told (told.Lost found)) n = refl
onward v st (answered.Told told.Released) n = refl
onward v st (answered.Told told.Placed) n = refl
onward v st (answered.Told told.Removed) n = refl

module _ (script : Script) (table : ℕ) (s : Counting) (counted : IsCounted table s) where
  abbrev With : List StepMark → (ℕ → Option ContextSeen) → (ℕ → ℕ) → Type 0
  With marks contexts versions = IsCounted table (record { marks = marks; context = contexts; version = versions })

  -- a context is placed, or removed
  module _ (n : ℕ) (u : ContextSeen) (at : s.context n ≡ Some u) where
    abbrev Stepped : Step → Answer → Type 0
    Stepped st a =
        With s.marks (with_step script st a s.context) (versions_with st a s.version) ×
        (with_step script st a s.context n ≡ Some u)

    stepped : (st : Step) (a : Answer) → ((id : ThreadId) (program priority : ℕ) → st ≡ step.Place id program priority →
        a ≡ answered.Told told.Placed → (s.context id.number ≡ None) × (s.version id.number < id.version)) →
        ((id : ThreadId) → st ≡ step.Remove id → id.number ≢ n) → Stepped st a
    stepped (step.Place id program priority) (answered.Told told.Placed) new apart =
        let vacant = new id program priority refl refl in (
          place_keeps table s counted id (thread_of script id program priority) (placed_new script id program priority) vacant.1,
          upd_other s.context id.number _ n (λ e. none_some (sym vacant.0 ∙ (ap s.context (sym e) ∙ at))) ∙ at,
        )
    stepped (step.Remove id) (answered.Told told.Removed) new apart =
        (remove_keeps table s counted id.number, upd_other s.context id.number None n (λ e. apart id refl (sym e)) ∙ at)
    stepped st a new apart = (counted, at)

-- the section of the context in hand makes a step, or asks for it again
module _ (table : ℕ) (s : Counting) (counted : IsCounted table s) (n : ℕ) (v : ContextSeen) (at : s.context n ≡ Some v)
    (st : Step) (a : Answer) (runner : Owner) (few : course_by v st a ≡ Onward v → has_mark v ≡ true →
    done_of v < last_serial) where
  section_keeps : IsCounted table (record s {
    marks = s.marks ++ marks_by runner (course_by v st a);
    context = upd s.context n (Some (resumed v a));
  })
  section_keeps = elim (cases_Bool (is_again a)) [
    | inl y ↦
        let nothing : s.marks ++ marks_by runner (course_by v st a) ≡ s.marks =
        ap (λ (xs : List StepMark). s.marks ++ xs) (step_marked v st a runner ∙ rw y refl) ∙ append-nil s.marks in
        subst (λ (xs : List StepMark). IsCounted table (record s { marks = xs; context = upd s.context n (Some (resumed v a)) }))
        (sym nothing) (go_keeps table s counted n v (resumed v a) at
        (subst (λ (w : ContextSeen). Goes v w) (sym (resumed_again v a y)) (stays refl refl refl)))
    | inr no_ ↦
        subst (λ (course : Course). IsCounted table (record s {
          marks = s.marks ++ marks_by runner course;
          context = upd s.context n (Some (resumed v a));
        })) (sym (onward v st a no_))
        (step_keeps table s counted n v a runner at no_ (few (onward v st a no_)))
  ]

-- a context that changes twice without a mark
twice_keeps : (table : ℕ) (s : Counting) → IsCounted table s → (n : ℕ) (u v w : ContextSeen) → s.context n ≡ Some u → Goes u v →
    Goes v w → IsCounted table (record s { context = upd s.context n (Some w) })
twice_keeps table s h n u v w at first second =
    subst (λ (f : ℕ → Option ContextSeen). IsCounted table (record s { context = f })) (upd_twice s.context n (Some v) (Some w))
    (go_keeps table (record s { context = upd s.context n (Some v) }) (go_keeps table s h n u v at first) n v w
    (upd_same s.context n (Some v)) second)

-- WITHOUT A STEP

give_hand : (k : CarrierSeen) (o : Option Switched) → (carrier.switched_to k o).hand ≡ k.hand
give_hand k None = refl
give_hand k (Some s) = refl

readied_hand : (k : CarrierSeen) → (readied k).hand ≡ k.hand
readied_hand k =
    if_cases (λ (x : CarrierSeen). x.hand ≡ k.hand) (begins k) (record k { switching = true; help = None; looked = None }) k
    (λ e. refl) (λ e. refl)

seen_hand : (k : CarrierSeen) (w : ContextWord) (bits : ℕ) → (carrier.seen k w bits).hand ≡ k.hand
seen_hand k (word.Clean version) bits = refl
seen_hand k (word.Holds version) bits = refl
seen_hand k (word.Taken c version) bits = refl
seen_hand k word.Empty bits = refl

look_hand : (k : CarrierSeen) (t : Target) (w : ContextWord) (bits : ℕ) → (carrier.after_look k t w bits).hand ≡ k.hand
look_hand k (Helped n) w bits =
    if_cases (λ (x : CarrierSeen). x.hand ≡ k.hand) (carrier.is_holding w) (record k { looked = Some bits })
    (record k { help = None }) (λ e. refl) (λ e. refl)
look_hand k Own w bits = seen_hand k w bits
look_hand k (GoalOf g) w bits =
    if_cases (λ (x : CarrierSeen). x.hand ≡ k.hand) (version_in w == g.id.version) (carrier.seen k w bits)
    (record k { goal = None }) (λ e. seen_hand k w bits) (λ e. refl)

section_hand : (k : CarrierSeen) → k.hand ≡ None → (a : Answer) → (carrier.after_section k k.hand a).hand ≡ None
section_hand k e a = by k.hand e
  where
    by : (o : Option HandSeen) → o ≡ None → (carrier.after_section k o a).hand ≡ None
    by None q = e
    by (Some h) q = absurd cc

module _ (table : ℕ) (s : Counting) (counted : IsCounted table s) where
  abbrev Hand : Option HandSeen → Type 0
  Hand o = IsCounted table (record s { context = with_hand o s.context })

  -- nothing is in hand
  empty : (o : Option HandSeen) → o ≡ None → Hand o
  empty o e = subst Hand (sym e) counted

  -- a context was taken
  taken : (k : CarrierSeen) (t : Target) (v : ContextSeen) → s.context (context_at k t) ≡ Some v →
      Hand (carrier.after_take (carrier.heard k) t v).hand
  taken k (Helped n) v at = go_keeps table s counted n v v at (stays refl refl refl)
  taken k Own v at =
      if_cases (λ (x : CarrierSeen). Hand x.hand) (has_switch v) (carrier.in_hand (carrier.heard k) (own_context k) v)
      (carrier.switch_begun (carrier.heard k) v) (λ e. go_keeps table s counted (own_context k) v v at (stays refl refl refl))
      (λ e. go_keeps table s counted (own_context k) v (with_switch (carrier.switch_call (carrier.heard k)) v) at
      (with_goes (carrier.switch_call (carrier.heard k)) v (counted.counts (own_context k) v at).serial))
  taken k (GoalOf g) v at = go_keeps table s counted g.id.number v (woken v) at (woken_goes v)

  -- any answer, without a hand
  handless : (k : CarrierSeen) → k.hand ≡ None → (a : AnswerSeen) →
      ((v : ContextSeen) → a ≡ answer.Took v → s.context (context_at k (target_of k)) ≡ Some v) → Hand (carrier.resumed k a).hand
  handless k e (answer.Looked bits) took = empty _ (look_hand (carrier.heard k) (target_of k) (context_word_of bits) bits ∙ e)
  handless k e (answer.Took v) took = taken k (target_of k) v (took v refl)
  handless k e (answer.TakeLost bits) took = empty _ e
  handless k e answer.Given took =
      empty _
      (give_hand (record (carrier.heard k) { putting = false; help = cond (carrier.is_given_released k.awaits) None k.help })
      (carrier.switched_given k.awaits) ∙ e)
  handless k e (answer.Section a) took = empty _ (section_hand k e a)

-- A MOVE

module _ (script : Script) (c table : ℕ) (w : World) (s : Counting) (counted : IsCounted table s)
    (brief : (n : ℕ) (u : ContextSeen) → s.context n ≡ Some u → IsBrief u) (same : s.marks ≡ w.steps) where
  abbrev made : CarrierAsk → CarrierStep
  made ask = step_with w c (carrier_at w c) (asked_by script (carrier_at w c) ask) (move_by script (carrier_at w c) ask)

  abbrev Kept : CarrierAsk → Type 0
  Kept ask = IsCountable (made ask) s → IsCounted table (counting_by script w (made ask) s)

  -- without a mark
  unmarked : (course : Course) (runner : Owner) (contexts : ℕ → Option ContextSeen) → course ≡ Still →
      IsCounted table (record s { context = contexts }) → IsCounted table
      (record s { marks = w.steps ++ marks_by runner course; context = contexts })
  unmarked course runner contexts e h =
      subst (λ (xs : List StepMark). IsCounted table (record s { marks = xs; context = contexts }))
      (same ∙ (sym (append-nil w.steps) ∙ ap (λ (x : Course). w.steps ++ marks_by runner x) (sym e))) h

  still : (o : Option HandSeen) (m : MoveSeen) (x : AnswerSeen) → o ≡ None → course_of o m x ≡ Still
  still o m x e = ap (λ (q : Option HandSeen). course_of q m x) e

  -- what is counted has a number
  few_by : (u : ContextSeen) → IsBrief u → ((x : CarrierContext) → u ≡ Carrier x → can_ask x ≡ true) →
      has_mark (asked (begun script u)) ≡ true → done_of (asked (begun script u)) < last_serial
  few_by (Thread t) brief can marked = below _ (and_parts _ _ marked).1
    where
      below : (n : ℕ) → nat_lt n last_serial ≡ true → n < last_serial
      below n q = grind (arith, nat_tests)
  few_by (Carrier x) brief can marked = above x.done (few_left x brief (can x refl) 0 (goods.Senders no_queue))
    where
      above : (n : ℕ) → n < 4 → n < last_serial
      above n l = omega (arith, l)

  -- the context in hand makes a step
  module _ (h : HandSeen) (e : (carrier_at w c).hand ≡ Some h) (can : IsCountable (made (Run h)) s) where
    abbrev v : ContextSeen
    v = asked (begun script h.value)

    abbrev st : Step
    st = step_of (begun script h.value)

    abbrev a : Answer
    a = answer_of st (found_by w (move.Section st)) (goods_for w st)

    abbrev runner : Owner
    runner = runner_of (asked_by script (carrier_at w c) (Run h))

    abbrev first : Counting
    first = record { marks = s.marks; context = with_step script st a s.context; version = versions_with st a s.version }

    placed : IsCounted table first × (first.context h.context ≡ Some h.value)
    placed =
        stepped script table s counted h.context h.value (can.hand h e) st a
        (λ id program priority q r. (
          can.vacant id program priority (ap move.Section q) (ap answer.Section r),
          can.later id program priority (ap move.Section q) (ap answer.Section r),
        ))
        (λ id q. can.apart h id e (ap move.Section q))

    abbrev second : Counting
    second = record first { context = upd first.context h.context (Some v) }

    ready : IsCounted table second
    ready =
        twice_keeps table first placed.0 h.context h.value (begun script h.value) v placed.1
        (begun_goes script h.value (λ t last q r. can.serial h t last e q r)) (asked_goes (begun script h.value))

    abbrev third : Counting
    third =
        record second {
          marks = s.marks ++ marks_by runner (course_by v st a);
          context = upd second.context h.context (Some (resumed v a));
        }

    over : IsCounted table third
    over =
        section_keeps table second ready h.context v (upd_same first.context h.context (Some v)) st a runner
        (λ on marked. few_by h.value (brief h.context h.value (can.hand h e)) (λ x q. can.ready h x st e q refl) marked)

    run_keeps : IsCounted table (counting_by script w (made (Run h)) s)
    run_keeps =
        subst (λ (xs : List StepMark). IsCounted table (record third {
          marks = xs ++ marks_by runner (course_by v st a);
          context = upd first.context h.context (Some (resumed v a));
        })) same
        (subst (λ (f : ℕ → Option ContextSeen). IsCounted table (record third { context = f }))
        (upd_twice first.context h.context (Some v) (Some (resumed v a))) over)

  -- it is put down
  rested_goes : (own : Bool) (v : ContextSeen) → Goes v (rested own v)
  rested_goes own v =
      if_cases (λ (u : ContextSeen). Goes v u) (is_some (switched_in own v)) (without_switch v) v (λ e. without_goes v)
      (λ e. stays refl refl refl)

  put_keeps : (h : HandSeen) → (carrier_at w c).hand ≡ Some h → Kept (PutDown h)
  put_keeps h e can =
      let k = carrier_at w c in
      let x = rested (is_own k h) h.value in
      let kept = go_keeps table s counted h.context h.value x (can.hand h e) (rested_goes (is_own k h) h.value) in
      unmarked Still (runner_of (asked_by script k (PutDown h)))
      (with_hand (carrier.resumed (asked_by script k (PutDown h)) answer.Given).hand (upd s.context h.context (Some x))) refl
      (subst (λ (o : Option HandSeen). IsCounted table (record s { context = with_hand o (upd s.context h.context (Some x)) }))
      (sym (give_hand _ (own_switched k h))) kept)

  -- there is none
  look_keeps : (n : ℕ) → (carrier_at w c).hand ≡ None → Kept (LookAt n)
  look_keeps n e can =
      let asked_ = asked_by script (carrier_at w c) (LookAt n) in
      unmarked (course_of asked_.hand (made (LookAt n)).move (made (LookAt n)).answer) (runner_of asked_)
      (with_hand (carrier.resumed asked_ (made (LookAt n)).answer).hand s.context)
      (still asked_.hand (made (LookAt n)).move (made (LookAt n)).answer (readied_hand (carrier_at w c) ∙ e))
      (handless table s counted asked_ (readied_hand (carrier_at w c) ∙ e) (made (LookAt n)).answer can.took)

  take_keeps : (n old : ℕ) → (carrier_at w c).hand ≡ None → Kept (Take n old)
  take_keeps n old e can =
      let asked_ = asked_by script (carrier_at w c) (Take n old) in
      let x = (made (Take n old)).answer in
      given x (unmarked (course_of asked_.hand (made (Take n old)).move x) (runner_of asked_)
      (with_hand (carrier.resumed asked_ x).hand s.context)
      (still asked_.hand (made (Take n old)).move x (readied_hand (carrier_at w c) ∙ e))
      (handless table s counted asked_ (readied_hand (carrier_at w c) ∙ e) x can.took))
    where
      -- whatever the answer is, a take is no step of a section
      given : (x : AnswerSeen) → IsCounted table (record s {
        marks =
            w.steps ++ marks_by (runner_of (made (Take n old)).asked)
            (course_of (made (Take n old)).asked.hand (made (Take n old)).move x);
        context = with_hand (carrier.resumed (made (Take n old)).asked x).hand s.context;
      }) →
          IsCounted table (record s {
            marks = w.steps ++ marks_by (runner_of (made (Take n old)).asked)
                (course_of (made (Take n old)).asked.hand (made (Take n old)).move x);
            context = with_hand (carrier.resumed (made (Take n old)).asked x).hand
                (with_move script (made (Take n old)).move x s.context);
            version = versions_after (made (Take n old)).move x s.version;
          })
      given (answer.Section a) h = h
      given (answer.Looked bits) h = h
      given (answer.Took v) h = h
      given (answer.TakeLost bits) h = h
      given answer.Given h = h

  ask_keeps : (o : Option HandSeen) → (carrier_at w c).hand ≡ o → Kept (ask_with (carrier_at w c) o)
  ask_keeps (Some h) e = if_cases Kept (gives (carrier_at w c) h) (PutDown h) (Run h) (λ q. put_keeps h e) (λ q. run_keeps h e)
  ask_keeps None e = by (readied (carrier_at w c)).looked
    where
      by : (o : Option ℕ) → Kept (ask_at (readied (carrier_at w c)) o)
      by None = look_keeps (context_at (readied (carrier_at w c)) (target_of (readied (carrier_at w c)))) e
      by (Some old) = take_keeps (context_at (readied (carrier_at w c)) (target_of (readied (carrier_at w c)))) old e

-- EACH SWITCH IS BRIEF

abbrev AllBrief : (ℕ → Option ContextSeen) → Type 0
AllBrief f = (n : ℕ) (u : ContextSeen) → f n ≡ Some u → IsBrief u

module _ (f : ℕ → Option ContextSeen) (all : AllBrief f) where
  all_with : (n : ℕ) (v : ContextSeen) → IsBrief v → AllBrief (upd f n (Some v))
  all_with n v b m u e = elim (eqb_tells m n) [
    | inl q ↦ subst IsBrief (some_is (sym (ap (upd f n (Some v)) q.1 ∙ upd_same f n (Some v)) ∙ e)) b
    | inr q ↦ all m u (sym (upd_other f n (Some v) m q.1) ∙ e)
  ]

  all_but : (n : ℕ) → AllBrief (upd f n None)
  all_but n m u e = elim (eqb_tells m n) [
    | inl q ↦ absurd (none_some (sym (ap (upd f n None) q.1 ∙ upd_same f n None) ∙ e))
    | inr q ↦ all m u (sym (upd_other f n None m q.1) ∙ e)
  ]

  stepped_brief : (script : Script) (st : Step) (a : Answer) → AllBrief (with_step script st a f)
  stepped_brief script (step.Place id program priority) (answered.Told told.Placed) =
      all_with id.number (thread_of script id program priority) tt
  stepped_brief script (step.Remove id) (answered.Told told.Removed) = all_but id.number
  stepped_brief script other answered_ = all

  abbrev Held : Option HandSeen → Type 0
  Held o = AllBrief (with_hand o f)

  none_held : (o : Option HandSeen) → o ≡ None → Held o
  none_held o e = subst Held (sym e) all

  taken_brief : (k : CarrierSeen) (t : Target) (v : ContextSeen) → f (context_at k t) ≡ Some v →
      Held (carrier.after_take (carrier.heard k) t v).hand
  taken_brief k (Helped n) v at = all_with n v (all n v at)
  taken_brief k Own v at =
      if_cases (λ (x : CarrierSeen). Held x.hand) (has_switch v) (carrier.in_hand (carrier.heard k) (own_context k) v)
      (carrier.switch_begun (carrier.heard k) v) (λ e. all_with (own_context k) v (all (own_context k) v at))
      (λ e. all_with (own_context k) (with_switch (carrier.switch_call (carrier.heard k)) v)
      (with_brief (carrier.switch_call (carrier.heard k)) v (all (own_context k) v at)))
  taken_brief k (GoalOf g) v at = all_with g.id.number (woken v) (woken_brief v (all g.id.number v at))

  handless_brief : (k : CarrierSeen) → k.hand ≡ None → (a : AnswerSeen) →
      ((v : ContextSeen) → a ≡ answer.Took v → f (context_at k (target_of k)) ≡ Some v) → Held (carrier.resumed k a).hand
  handless_brief k e (answer.Took v) took = taken_brief k (target_of k) v (took v refl)
  handless_brief k e (answer.Looked bits) took =
      none_held _ (look_hand (carrier.heard k) (target_of k) (context_word_of bits) bits ∙ e)
  handless_brief k e (answer.TakeLost bits) took = none_held _ e
  handless_brief k e answer.Given took =
      none_held _
      (give_hand (record (carrier.heard k) { putting = false; help = cond (carrier.is_given_released k.awaits) None k.help })
      (carrier.switched_given k.awaits) ∙ e)
  handless_brief k e (answer.Section a) took = none_held _ (section_hand k e a)

module _ (script : Script) (c : ℕ) (w : World) (s : Counting) (all : AllBrief s.context) where
  abbrev step_made : CarrierAsk → CarrierStep
  step_made ask = step_with w c (carrier_at w c) (asked_by script (carrier_at w c) ask) (move_by script (carrier_at w c) ask)

  abbrev Brief : CarrierAsk → Type 0
  Brief ask = IsCountable (step_made ask) s → AllBrief (contexts_after script (step_made ask) s.context)

  brief_runs : (h : HandSeen) → (carrier_at w c).hand ≡ Some h → Brief (Run h)
  brief_runs h e can =
      let st = step_of (begun script h.value) in
      let found = found_by w (move.Section st) in
      all_with (with_step script st (answer_of st found (goods_for w st)) s.context)
      (stepped_brief s.context all script st (answer_of st found (goods_for w st))) h.context
      (resumed (asked (begun script h.value)) (answer_of st found (goods_for w st)))
      (step_brief script h.value found (goods_for w st) (all h.context h.value (can.hand h e)) (λ x q. can.ready h x st e q refl))

  brief_puts : (h : HandSeen) → (carrier_at w c).hand ≡ Some h → Brief (PutDown h)
  brief_puts h e can =
      let k = carrier_at w c in
      let own = is_own k h in
      let x = rested own h.value in
      let b = all h.context h.value (can.hand h e) in
      none_held (upd s.context h.context (Some x)) (all_with s.context all h.context x
      (if_cases IsBrief (is_some (switched_in own h.value)) (without_switch h.value) h.value (λ q. without_brief h.value b)
      (λ q. b))) _ (give_hand _ (own_switched k h))

  brief_looks : (n : ℕ) → (carrier_at w c).hand ≡ None → Brief (LookAt n)
  brief_looks n e can =
      handless_brief s.context all (asked_by script (carrier_at w c) (LookAt n)) (readied_hand (carrier_at w c) ∙ e)
      (step_made (LookAt n)).answer can.took

  brief_takes : (n old : ℕ) → (carrier_at w c).hand ≡ None → Brief (Take n old)
  brief_takes n old e can =
      given (step_made (Take n old)).answer (handless_brief s.context all (asked_by script (carrier_at w c) (Take n old))
      (readied_hand (carrier_at w c) ∙ e) (step_made (Take n old)).answer can.took)
    where
      given : (x : AnswerSeen) → AllBrief (with_hand (carrier.resumed (step_made (Take n old)).asked x).hand s.context) →
          AllBrief (with_hand (carrier.resumed (step_made (Take n old)).asked x).hand
          (with_move script (step_made (Take n old)).move x s.context))
      given (answer.Section a) h = h
      given (answer.Looked bits) h = h
      given (answer.Took v) h = h
      given (answer.TakeLost bits) h = h
      given answer.Given h = h

  brief_asks : (o : Option HandSeen) → (carrier_at w c).hand ≡ o → Brief (ask_with (carrier_at w c) o)
  brief_asks (Some h) e =
      if_cases Brief (gives (carrier_at w c) h) (PutDown h) (Run h) (λ q. brief_puts h e) (λ q. brief_runs h e)
  brief_asks None e = by (readied (carrier_at w c)).looked
    where
      by : (o : Option ℕ) → Brief (ask_at (readied (carrier_at w c)) o)
      by None = brief_looks (context_at (readied (carrier_at w c)) (target_of (readied (carrier_at w c)))) e
      by (Some old) = brief_takes (context_at (readied (carrier_at w c)) (target_of (readied (carrier_at w c)))) old e

pub move_keeps : (script : Script) (c table : ℕ) (w : World) (s : Counting) → IsTallied table s → s.marks ≡ w.steps →
    IsCountable (step_in script c w) s → IsTallied table (counting_by script w (step_in script c w) s)
unfolding step_in
move_keeps script c table w s h same can = record {
  counted = ask_keeps script c table w s h.counted h.brief same (carrier_at w c).hand refl can;
  brief = brief_asks script c w s h.brief (carrier_at w c).hand refl can;
}

pub log_is : (script : Script) (c : ℕ) (w : World) (s : Counting) →
    (counting_by script w (step_in script c w) s).marks ≡ (moved script c w).steps
unfolding moved
log_is script c w s = refl
