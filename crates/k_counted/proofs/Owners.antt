-- A context keeps its owner over a move of a carrier, unless it is removed; then its number's word has its version.
use Rattle.std.proofs.Common.{◌≡◌, ℕ, ◌≤◌, ◌==◌, ◌⊎◌, Bool, true, false, cond, refl, sym, ap, ◌∙◌, subst, arith, Option}
use Rattle.std.proofs.Common.{Some, None, inl, inr}
use Rattle.std.specs.Prelude.{if◌then◌else◌, is_some}
use Rattle.std.proofs.lemmas.Bool.{cases_Bool, cond_both, eqb-true}
use Rattle.k_ids.specs.declared.context_word.ContextWord.{ContextWord}
use Rattle.k_ids.specs.declared.context_word.ContextWord.TheVariants.{Clean}
use Rattle.k_ids.specs.declared.state_word.StateWord.{StateWord}
use Rattle.k_ids.specs.declared.threads.ThreadId.{ThreadId}
use Rattle.k_ids.specs.ContextWords.{context_bits, context_word_of}
use Rattle.k_ids.proofs.ContextSpelled.{context-read}
use Rattle.k_locks.specs.declared.goods.Goods.{Goods}
use Rattle.k_locks.specs.declared.steps.Answer.{Answer}
use Rattle.k_locks.specs.declared.steps.Answer.TheVariants as answered
use Rattle.k_locks.specs.declared.steps.Step.{Step}
use Rattle.k_locks.specs.declared.steps.Step.TheVariants as step
use Rattle.k_locks.specs.declared.steps.Told.TheVariants as told
use Rattle.k_locks.specs.Asks.{Ask, step_for}
use Rattle.k_locks.specs.Asks as asks
use Rattle.k_locks.specs.Hands.{Hand}
use Rattle.k_locks.specs.Steps.{answer_of, is_again, not_removed, word_of}
use Rattle.k_model.specs.Maps.{upd}
use Rattle.k_model.proofs.Maps.{upd_other, upd_same}
use Rattle.k_script.specs.declared.registers.Next.{Next}
use Rattle.k_script.specs.declared.registers.Next.TheVariants as next
use Rattle.k_script.specs.Limits.{IsScript}
use Rattle.k_script.specs.Script.{Script}
use Rattle.k_script.specs.Plays.{next_of, went_on}
use Rattle.k_caller.specs.declared.activity.Activity.{Activity}
use Rattle.k_caller.specs.declared.activity.Activity.TheVariants as activity
use Rattle.k_caller.specs.declared.thread.ThreadLocation.TheVariants as location
use Rattle.k_caller.specs.Threads.{ThreadSeen, begun_at, begun_next}
use Rattle.k_caller.specs.Threads as threads
use Rattle.k_context.specs.Contexts.{Carrier, ContextSeen, Thread, asked, begun, has_switch, owner_of, resumed, step_of}
use Rattle.k_context.specs.Contexts.{thread_of, with_switch, without_switch, woken}
use Rattle.k_carrier.specs.declared.carrier.Target.{Target}
use Rattle.k_carrier.specs.declared.carrier.Target.TheVariants.{GoalOf, Helped, Own}
use Rattle.k_carrier.specs.Answers.{AnswerSeen}
use Rattle.k_carrier.specs.Asked.{CarrierAsk, LookAt, PutDown, Run, Take, ask_of, asked_by, rested, version_of}
use Rattle.k_carrier.specs.Resumed as carrier
use Rattle.k_carrier.specs.Rules.{is_own, switched_in}
use Rattle.k_carrier.specs.Seen.{CarrierSeen, HandSeen}
use Rattle.k_world.specs.Moves.{goods_for}
use Rattle.k_world.specs.Steps.{CarrierStep, carrier_after, step_in}
use Rattle.k_world.specs.Worlds.{Away, Guarded, Resting, Slot, World, resting_in, state_at, word_at}
use Rattle.k_marks.specs.Moved.{contexts_after, with_hand, with_move, with_step}
use Rattle.k_marks.proofs.Contexts.{resumed_again, resumed_owner}
use Rattle.k_places.specs.Memory.{Memory, word_in}
use Rattle.k_places.specs.Shows.{Rests, Stands, context_by}
use Rattle.k_places.proofs.Raw.{word_is}
use Rattle.k_joint.proofs.Carried.{given_hand, look_empty, looked_after, put_down_hand, readied_hand}
use Rattle.k_joint.proofs.Grabs.{take_empty, value_taken}
use Rattle.k_joint.proofs.Runs.{hand_of_run}
use Rattle.k_kernel.specs.Moves.{HasRoom, IsRunnable}
use Rattle.k_kernel.specs.Worlds.{WorldHolds}
use Rattle.k_counted.proofs.Asked.{IsRemoving, Permits}
use Rattle.k_counted.proofs.Contexts as move
use Rattle.k_counted.proofs.Countable.{none_there}
use Rattle.k_counted.proofs.Found.{found_is, none_some, some_is, word_shown}
use Rattle.k_counted.proofs.Moved.{by_number, kept_word}

-- WHOSE IT IS

next_owner : (table : ℕ) (t : ThreadSeen) (n : Next) → owner_of (Thread (begun_next table t n)) ≡ owner_of (Thread t)
next_owner table t (next.Phase f) = refl
next_owner table t (next.Work count) = refl

begun_owner : (script : Script) (v : ContextSeen) → owner_of (begun script v) ≡ owner_of v
begun_owner script (Carrier k) = refl
begun_owner script (Thread t) = by t.activity refl
  where
    by : (a : Activity) → t.activity ≡ a → owner_of (Thread (begun_at script t a)) ≡ owner_of (Thread t)
    by (activity.Alone (location.Between last)) e =
        next_owner script.table (record t { position = went_on t.position last }) (next_of script.version t.position last)
    by a e = refl

asked_owner : (v : ContextSeen) → owner_of (asked v) ≡ owner_of v
asked_owner (Thread t) = refl
asked_owner (Carrier k) = refl

answered_owner : (v : ContextSeen) (a : Answer) → owner_of (resumed v a) ≡ owner_of v
answered_owner v a = elim (cases_Bool (is_again a)) [
  | inl y ↦ ap owner_of (resumed_again v a y)
  | inr n ↦ resumed_owner v a n
]

stepped_owner : (script : Script) (v : ContextSeen) (a : Answer) → owner_of (resumed (asked (begun script v)) a) ≡ owner_of v
stepped_owner script v a = answered_owner (asked (begun script v)) a ∙ asked_owner (begun script v) ∙ begun_owner script v

woken_owner : (v : ContextSeen) → owner_of (woken v) ≡ owner_of v
woken_owner (Carrier k) = refl
woken_owner (Thread t) = by (threads.is_asleep t)
  where
    by : (q : Bool) →
        owner_of (Thread (cond q (record t { activity = activity.Alone location.LookAgain }) t)) ≡ owner_of (Thread t)
    by true = refl
    by false = refl

taken_owner : (k : CarrierSeen) (t : Target) (v : ContextSeen) → owner_of (value_taken k t v) ≡ owner_of v
taken_owner k (Helped n) v = refl
taken_owner k Own (Thread t) = refl
taken_owner k Own (Carrier z) =
    cond_both (has_switch (Carrier z)) (Carrier z) (with_switch (carrier.switch_call k) (Carrier z))
    (λ u. owner_of u ≡ owner_of (Carrier z)) (λ q. refl) (λ q. refl)
taken_owner k (GoalOf g) v = woken_owner v

rested_owner : (own : Bool) (v : ContextSeen) → owner_of (rested own v) ≡ owner_of v
rested_owner own v =
    cond_both (is_some (switched_in own v)) (without_switch v) v (λ u. owner_of u ≡ owner_of v) (λ q. without v) (λ q. refl)
  where
    without : (u : ContextSeen) → owner_of (without_switch u) ≡ owner_of u
    without (Thread t) = refl
    without (Carrier k) = refl

-- WHAT BECOMES OF IT

-- the number has a context of the same owner
pub record Lasts (f : ℕ → Option ContextSeen) (n : ℕ) (v : ContextSeen) : Type 0 where
  pub value : ContextSeen
  pub there : f n ≡ Some value
  pub owner : owner_of value ≡ owner_of v

-- it lasts, or its version is that of the number's word, or a lower one
abbrev pub Keeps : World → (ℕ → Option ContextSeen) → ℕ → ContextSeen → Type 0
Keeps w f n v = Lasts f n v ⊎ (version_of (owner_of v) ≤ (state_at w n).version)

keeps_at : (w : World) (f g : ℕ → Option ContextSeen) (n : ℕ) (v : ContextSeen) → g n ≡ f n → Keeps w f n v → Keeps w g n v
keeps_at w f g n v e h = elim h [
  | inl l ↦ inl (record { value = l.value; there = e ∙ l.there; owner = l.owner })
  | inr low ↦ inr low
]

module _ (script : Script) (limits : IsScript script) (room : HasRoom script) (c : ℕ) (w : World) (h : WorldHolds script w)
    (r : IsRunnable script c w) where
  abbrev K : CarrierSeen
  K = move.K script limits room c w h r

  abbrev M : Memory
  M = move.M script limits room c w h r

  abbrev Before : ℕ → Option ContextSeen
  Before = move.Before script limits room c w h r

  abbrev Step_by : CarrierAsk → CarrierStep
  Step_by = move.Step_by script limits room c w h r

  abbrev AllKeep : (ℕ → Option ContextSeen) → Type 0
  AllKeep f = (n : ℕ) (v : ContextSeen) → Before n ≡ Some v → Keeps w f n v

  as_before : AllKeep Before
  as_before n v at = inl (record { value = v; there = at; owner = refl })

  -- one context is another of the same owner
  one_keeps : (f : ℕ → Option ContextSeen) → AllKeep f → (m : ℕ) (u : ContextSeen) →
      ((v : ContextSeen) → Before m ≡ Some v → owner_of u ≡ owner_of v) → AllKeep (upd f m (Some u))
  one_keeps f all m u same n v at =
      by_number (λ z. Before z ≡ Some v → Keeps w (upd f m (Some u)) z v) n m
      (λ q. inl (record { value = u; there = upd_same f m (Some u); owner = same v q }))
      (λ ne q. keeps_at w f (upd f m (Some u)) n v (upd_other f m (Some u) n ne) (all n v q)) at

  hand_keeps : (k : Option HandSeen) (f : ℕ → Option ContextSeen) → AllKeep f →
      ((x : HandSeen) → k ≡ Some x → (v : ContextSeen) → Before x.context ≡ Some v → owner_of x.value ≡ owner_of v) →
      AllKeep (with_hand k f)
  hand_keeps None f all same = all
  hand_keeps (Some x) f all same = one_keeps f all x.context x.value (same x refl)

  none_keeps : (k : Option HandSeen) (f : ℕ → Option ContextSeen) → AllKeep f → k ≡ None → AllKeep (with_hand k f)
  none_keeps k f all e = subst (λ (o : Option HandSeen). AllKeep (with_hand o f)) (sym e) all

  -- A STEP OF A SECTION

  -- the number of a context that is removed has its version
  abbrev IsClean : ThreadId → Type 0
  IsClean id = (M.context id.number == context_bits (Clean id.version)) ≡ true

  low_removed : (i : ℕ) (id : ThreadId) → IsRemoving h.board i id → IsClean id → (v : ContextSeen) →
      Before id.number ≡ Some v → version_of (owner_of v) ≤ (state_at w id.number).version
  low_removed i id p test v at =
      let is : version_of (owner_of v) ≡ id.version =
      by (M.slot id.number) refl (subst (Stands M.slot M.hand id.number) clean (h.shows.shows.places.stands id.number)) in
      let shown : (state_at w id.number).version ≡ id.version =
      ap (λ (z : StateWord). z.version) (word_shown script w h.board h.shows id.number) ∙ p.shown in
      omega (arith, is, shown)
    where
      clean : context_word_of (M.context id.number) ≡ Clean id.version
      clean =
          ap context_word_of (eqb-true (M.context id.number) (context_bits (Clean id.version)) test)
          ∙ context-read (Clean id.version) p.version

      found : resting_in (M.slot id.number) ≡ Some v
      found = sym (ap (context_by M.slot M.hand id.number) clean) ∙ sym (found_is w id.number) ∙ at

      by : (s : Slot) → M.slot id.number ≡ s → Rests (M.slot id.number) false id.version →
          version_of (owner_of v) ≡ id.version
      by (Resting u) q rests =
          let same : u ≡ v = some_is (sym (ap resting_in q) ∙ found) in
          ap (λ (z : ContextSeen). version_of (owner_of z)) (sym same)
          ∙ (subst (λ (z : Slot). Rests z false id.version) q rests).1
      by (Guarded g) q rests = absurd (subst (λ (z : Slot). Rests z false id.version) q rests)
      by Away q rests = absurd (subst (λ (z : Slot). Rests z false id.version) q rests)

  -- what the step of this ask makes of contexts
  abbrev After : Step → Goods → ℕ → Option ContextSeen
  After s goods = with_step script s (answer_of s (word_in M (word_of s)) goods) Before

  step_keeps : (i : ℕ) (a : Ask) (hand : Hand) (goods : Goods) → Permits h.board i a → AllKeep (After (step_for a hand) goods)
  step_keeps i (asks.Load n) hand goods p = as_before
  step_keeps i (asks.LoadMail n) hand goods p = as_before
  step_keeps i (asks.Post n message) hand goods p = as_before
  step_keeps i (asks.Exchange n old new) hand goods p = as_before
  step_keeps i (asks.Acquire l) hand goods p = as_before
  step_keeps i (asks.Release l) hand goods p = as_before
  step_keeps i (asks.Place id program priority) hand goods p =
      one_keeps Before as_before id.number (thread_of script id program priority)
      (λ v at. absurd (none_some (sym (none_there script limits room c w h r id p) ∙ at)))
  step_keeps i (asks.Remove id) hand goods p = elim (cases_Bool Test) [
    | inl won ↦ subst AllKeep (sym (ap Left won)) (gone won)
    | inr lost ↦ subst AllKeep (sym (ap Left lost ∙ kept (context_word_of (M.context id.number)))) as_before
  ]
    where
      Test : Bool
      Test = M.context id.number == context_bits (Clean id.version)

      Left : Bool → ℕ → Option ContextSeen
      Left q =
          with_step script (step.Remove id)
          (answered.Told (if q then told.Removed else not_removed id.number (context_word_of (M.context id.number)))) Before

      kept : (x : ContextWord) → with_step script (step.Remove id) (answered.Told (not_removed id.number x)) Before ≡ Before
      kept x = kept_word script id Before x

      gone : Test ≡ true → AllKeep (upd Before id.number None)
      gone won n v at =
          by_number (λ z. Before z ≡ Some v → Keeps w (upd Before id.number None) z v) n id.number
          (λ q. inr (low_removed i id p won v q))
          (λ ne q. keeps_at w Before (upd Before id.number None) n v (upd_other Before id.number None n ne) (as_before n v q)) at

  -- ANY MOVE

  runs_keep : (x : HandSeen) → ask_of K ≡ Run x → AllKeep (contexts_after script (Step_by (Run x)) Before)
  runs_keep x e =
      hand_keeps (carrier_after (Step_by (Run x))).hand
      (with_move script (Step_by (Run x)).move (Step_by (Run x)).answer Before) steps mine
    where
      st : Step
      st = step_of (begun script x.value)

      steps : AllKeep (with_step script st (answer_of st (word_at w (word_of st)) (goods_for w st)) Before)
      steps =
          let asks_for = move.run_asked script limits room c w h r x e in
          subst (λ (found : ℕ). AllKeep (with_step script st (answer_of st found (goods_for w st)) Before))
          (sym (word_is w (word_of st)))
          (subst (λ (s : Step). AllKeep (After s (goods_for w st))) (sym asks_for.step)
          (step_keeps x.context asks_for.ask asks_for.hand (goods_for w st) asks_for.permits))

      mine : (y : HandSeen) → (carrier_after (Step_by (Run x))).hand ≡ Some y → (v : ContextSeen) →
          Before y.context ≡ Some v → owner_of y.value ≡ owner_of v
      mine y q v at =
          let same : record {
            context = x.context;
            value = resumed (asked (begun script x.value)) (answer_of st (word_at w (word_of st)) (goods_for w st));
          } ≡ y = some_is q in
          let was = some_is (sym (move.held_found script limits room c w h r x (hand_of_run K x e))
          ∙ ap (λ (z : HandSeen). Before z.context) same ∙ at) in
          ap (λ (z : HandSeen). owner_of z.value) (sym same)
          ∙ stepped_owner script x.value (answer_of st (word_at w (word_of st)) (goods_for w st)) ∙ ap owner_of was

  puts_keep : (x : HandSeen) → ask_of K ≡ PutDown x → AllKeep (contexts_after script (Step_by (PutDown x)) Before)
  puts_keep x e =
      none_keeps (carrier_after (Step_by (PutDown x))).hand (upd Before x.context (Some (rested (is_own K x) x.value)))
      (one_keeps Before as_before x.context (rested (is_own K x) x.value) (λ v at. rested_owner (is_own K x) x.value
      ∙ ap owner_of (some_is (sym (move.held_found script limits room c w h r x (put_down_hand K x e)) ∙ at))))
      (given_hand _ _)

  looks_keep : (n : ℕ) → ask_of K ≡ LookAt n → AllKeep (contexts_after script (Step_by (LookAt n)) Before)
  looks_keep n e =
      none_keeps (carrier_after (Step_by (LookAt n))).hand Before as_before
      (looked_after (asked_by script K (LookAt n)) _ ∙ readied_hand K ∙ look_empty K n e)

  takes_keep : (m bits : ℕ) → ask_of K ≡ Take m bits → AllKeep (contexts_after script (Step_by (Take m bits)) Before)
  takes_keep m bits e =
      elim (cases_Bool Test) [
        | inl won ↦ hand_keeps (carrier_after (Step_by (Take m bits))).hand Before as_before (mine won)
        | inr lost ↦
            none_keeps (carrier_after (Step_by (Take m bits))).hand Before as_before
            (ap (λ (z : AnswerSeen). (carrier.resumed (Step_by (Take m bits)).asked z).hand)
            (move.answer_is script limits room c w h r m bits e
            ∙ ap (move.Answered script limits room c w h r m bits e) lost) ∙ readied_hand K ∙ take_empty K m bits e)
      ]
    where
      Test : Bool
      Test = move.Test script limits room c w h r m bits e

      mine : Test ≡ true → (y : HandSeen) → (carrier_after (Step_by (Take m bits))).hand ≡ Some y → (v : ContextSeen) →
          Before y.context ≡ Some v → owner_of y.value ≡ owner_of v
      mine won y q v at =
          let same : record { context = m; value = move.Taken_then script limits room c w h r m bits e won } ≡ y =
          some_is (sym (move.taken_hand script limits room c w h r m bits e won) ∙ q) in
          let was = some_is (sym (move.was_found script limits room c w h r m bits e won)
          ∙ ap (λ (z : HandSeen). Before z.context) same ∙ at) in
          ap (λ (z : HandSeen). owner_of z.value) (sym same)
          ∙ taken_owner (move.Hearing script limits room c w h r m bits e) (move.Aiming script limits room c w h r m bits e)
          (move.Was script limits room c w h r m bits e won) ∙ ap owner_of was

  all_keep : (a : CarrierAsk) → ask_of K ≡ a → AllKeep (contexts_after script (Step_by a) Before)
  all_keep (Run x) e = runs_keep x e
  all_keep (PutDown x) e = puts_keep x e
  all_keep (LookAt n) e = looks_keep n e
  all_keep (Take m bits) e = takes_keep m bits e

  pub contexts_keep : AllKeep (contexts_after script (step_in script c w) Before)
  contexts_keep =
      subst (λ (s : CarrierStep). AllKeep (contexts_after script s Before))
      (sym (move.step_is script limits room c w h r (ask_of K) refl)) (all_keep (ask_of K) refl)
