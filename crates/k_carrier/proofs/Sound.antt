-- A carrier stays sound: what it asks for and what it is told leave it so.
use Rattle.std.proofs.Common.{◌≡◌, ◌≢◌, ◌≤◌, ℕ, Bool, true, false, cond, not, ◌&&◌, ◌||◌, refl, sym, ap, ◌∙◌, subst, arith, eq-eqb, eqb-true, List, Option, Some, None, IfSome}
use Rattle.std.specs.Prelude.{◌==◌, if◌then◌else◌, is_some, is_none}
use Rattle.k_ids.specs.declared.context_word.ContextWord.{ContextWord}
use Rattle.k_ids.specs.declared.context_word.ContextWord.TheVariants as word
use Rattle.k_ids.specs.ContextWords.{IsContextSpelling, IsContextWord, context_word_of}
use Rattle.k_locks.specs.declared.locks.Lock.{Lock}
use Rattle.k_locks.specs.declared.steps.Answer.{Answer}
use Rattle.k_locks.specs.declared.steps.Answer.TheVariants as answer
use Rattle.k_locks.specs.declared.steps.Told.{Told}
use Rattle.k_locks.specs.declared.steps.Told.TheVariants as told
use Rattle.k_script.specs.Script.{Script}
use Rattle.k_caller.specs.declared.ran.Ran.{Ran}
use Rattle.k_caller.specs.declared.ran.Ran.TheVariants as ran
use Rattle.k_caller.proofs.Owned.{either}
use Rattle.k_switch.specs.declared.goal.Goal.{Goal}
use Rattle.k_switch.specs.declared.goal.Switched.{Switched}
use Rattle.k_switch.specs.Switches.{IsGoal}
use Rattle.k_context.specs.declared.owner.Owner.{Owner}
use Rattle.k_context.specs.Contexts.{ContextSeen}
use Rattle.k_context.specs.Contexts as contexts
use Rattle.k_carrier.specs.declared.carrier.Target.{Target}
use Rattle.k_carrier.specs.declared.carrier.Target.TheVariants as target
use Rattle.k_carrier.specs.declared.moves.Awaits.{Awaits}
use Rattle.k_carrier.specs.declared.moves.Awaits.TheVariants as awaits
use Rattle.k_carrier.specs.declared.moves.Help.{Help}
use Rattle.k_carrier.specs.Answers.{AnswerSeen}
use Rattle.k_carrier.specs.Answers as answers
use Rattle.k_carrier.specs.Asked.{PutDown, Run, asked_by, version_in}
use Rattle.k_carrier.specs.Conditions.{CanMove, CanTell, CanTellOf, CanTellStep, IsAwaiting, IsGoalIn, IsHand, IsHandSteady, IsOfNumber, IsOfOthers, IsResting, IsSound}
use Rattle.k_carrier.specs.Resumed.{after_look, after_section, after_step, after_take, goal_after, goal_taken, heard, help_after, in_hand, is_given_released, is_holding, lock_awaited, resumed, seen, switch_begun, switch_call, switched_given, switched_to, told_in}
use Rattle.k_carrier.specs.Rules.{begins, context_at, is_goals, is_own, is_pending, own_context, readied, target_of, target_with}
use Rattle.k_carrier.specs.Seen.{CarrierSeen, HandSeen}
use Rattle.k_carrier.specs.Starts.{first_start, without_start}
use Rattle.k_carrier.proofs.Owners.{asked_number, begun_switch_sound, first_small, resumed_number, switching_number, woken_number, woken_sound}

-- WHAT IT ASKS FOR

-- a step of the context in its hand
pub run_sound : (script : Script) (c : CarrierSeen) (h : HandSeen) → IsSound script c → c.hand ≡ Some h → contexts.IsSound script (contexts.asked (contexts.begun script h.value)) → contexts.is_open (contexts.asked (contexts.begun script h.value)) ≡ true → IsSound script (asked_by script c (Run h))
run_sound script c h s has sound opened =
    let hand : IsHand script c.table h = subst (λ (o : Option HandSeen). IfSome o (IsHand script c.table)) has s.hand in
    record {
      number = s.number;
      table = s.table;
      goal = s.goal;
      hand = record { number = asked_number script c.table h.context h.value hand.number; sound = sound };
      steady = subst (λ (o : Option HandSeen). IfSome o (IsHandSteady c)) has s.steady;
      others = s.others;
      looked = s.looked;
      awaiting = opened;
    }

-- that the hand is put down
pub put_down_sound : (script : Script) (c : CarrierSeen) (h : HandSeen) → IsSound script c → CanMove script c (PutDown h) → IsSound script (asked_by script c (PutDown h))
put_down_sound script c h s can = record {
  number = s.number;
  table = s.table;
  goal = s.goal;
  hand = tt;
  steady = tt;
  others = s.others;
  looked = s.looked;
  awaiting = (refl, can);
}

-- Without a hand it switches, or has a goal.
has_target : (switching interrupted : Bool) (goal : Option Goal) → (interrupted || (not switching && is_none goal)) ≡ false → (switching || is_some goal) ≡ true
has_target true i g e = refl
has_target false i (Some g) e = refl
has_target false true None e = sym e
has_target false false None e = sym e

abbrev turned : Bool → CarrierSeen → Awaits → CarrierSeen
turned b c w = record (cond b (record c { switching = true; help = None; looked = None }) c) { awaits = w }

turned_sound : (script : Script) (c : CarrierSeen) (b : Bool) (w : Awaits) → begins c ≡ b → IsSound script c → c.hand ≡ None → ((d : CarrierSeen) → d.hand ≡ None → (d.switching || is_some d.goal) ≡ true → IsAwaiting d d.hand w) → IsSound script (turned b c w)
turned_sound script c true w e s empty waits = record {
  number = s.number;
  table = s.table;
  goal = s.goal;
  hand = s.hand;
  steady = subst (λ (o : Option HandSeen). IfSome o (IsHandSteady (turned true c w))) (sym empty) tt;
  others = tt;
  looked = tt;
  awaiting = waits (turned true c w) empty refl;
}
turned_sound script c false w e s empty waits = record {
  number = s.number;
  table = s.table;
  goal = s.goal;
  hand = s.hand;
  steady = s.steady;
  others = s.others;
  looked = s.looked;
  awaiting = waits (turned false c w) empty (has_target c.switching (not c.switching && is_pending c) c.goal e);
}

-- that a context is looked at, or taken
pub look_sound : (script : Script) (c : CarrierSeen) → IsSound script c → c.hand ≡ None → IsSound script (record (readied c) { awaits = awaits.Look })
look_sound script c s empty = turned_sound script c (begins c) awaits.Look refl s empty (λ d e target. (e, target))

pub take_sound : (script : Script) (c : CarrierSeen) → IsSound script c → c.hand ≡ None → IsSound script (record (readied c) { awaits = awaits.Take })
take_sound script c s empty = turned_sound script c (begins c) awaits.Take refl s empty (λ d e target. (e, target))

-- the word that it has seen is one of a context that rests
pub seen_resting : (script : Script) (c : CarrierSeen) (bits : ℕ) → IsSound script c → c.looked ≡ Some bits → IsContextSpelling bits × IsResting (context_word_of bits)
seen_resting script c bits s e = subst (λ (o : Option ℕ). IfSome o (λ n. IsContextSpelling n × IsResting (context_word_of n))) e s.looked

-- AFTER A STEP

kept_goal : (P : Goal → Type 0) (goal : Option Goal) (o : Owner) (r : Ran) → IfSome goal P → IfSome (goal_after goal o r) P
kept_goal P goal o ran.Left h = either (λ (g : Option Goal). IfSome g P) (is_goals goal o) None goal tt h
kept_goal P goal o ran.Dead h = either (λ (g : Option Goal). IfSome g P) (is_goals goal o) None goal tt h
kept_goal P goal o r h = h

kept_help : (own : ℕ) (c : CarrierSeen) (p : Option Help) (l : Option Lock) (a : Answer) → own ≡ own_context c → IfSome p (λ h. h.context ≢ own) → IsOfOthers c a → IfSome (help_after p l (told_in a)) (λ h. h.context ≢ own)
kept_help own c p l (answer.Told (told.Owned owner)) e h others = subst (λ n. owner ≢ n) (sym e) others
kept_help own c p l (answer.Told (told.Holds context)) e h others = subst (λ n. context ≢ n) (sym e) others
kept_help own c p l a e h others = h

stays_helping : (p : Option Help) (l : Option Lock) (t : Option Told) → is_some p ≡ true → is_some (help_after p l t) ≡ true
stays_helping p l (Some (told.Owned owner)) e = refl
stays_helping p l (Some (told.Holds context)) e = refl
stays_helping p l t e = e

or_more : (a b c : Bool) → (b ≡ true → c ≡ true) → (a || b) ≡ true → (a || c) ≡ true
or_more true b c more e = refl
or_more false b c more e = more e

pub step_sound : (script : Script) (c : CarrierSeen) (h : HandSeen) (a : Answer) → IsSound script c → c.hand ≡ Some h → IsOfOthers c a → contexts.IsSound script (contexts.resumed h.value a) → IsSound script (after_step c h a)
step_sound script c h a s has others sound =
    let hand : IsHand script c.table h = subst (λ (o : Option HandSeen). IfSome o (IsHand script c.table)) has s.hand in
    let steady : IsHandSteady c h = subst (λ (o : Option HandSeen). IfSome o (IsHandSteady c)) has s.steady in
    record {
      number = s.number;
      table = s.table;
      goal = kept_goal (IsGoalIn c.table) c.goal (contexts.owner_of h.value) (contexts.ran_of h.value a) s.goal;
      hand = record { number = resumed_number c.table h.context h.value a hand.number; sound = sound };
      steady = (steady.0, λ e. or_more (is_own c h) (is_some c.help) (is_some (help_after c.help (lock_awaited c.awaits) (told_in a))) (stays_helping c.help (lock_awaited c.awaits) (told_in a)) (steady.1 e));
      others = kept_help (own_context c) c c.help (lock_awaited c.awaits) a refl s.others others;
      looked = s.looked;
      awaiting = tt;
    }

section_at : (script : Script) (c : CarrierSeen) (o : Option HandSeen) (a : Answer) → IsSound script c → c.hand ≡ o → CanTellStep script c o a → IfSome o (λ h. contexts.IsSound script (contexts.resumed h.value a)) → IsSound script (after_section c o a)
section_at script c (Some h) a s e can value = step_sound script c h a s e can.2 value
section_at script c None a s e can value = absurd can

-- what is awaited of a step
pub step_awaited : (script : Script) (c : CarrierSeen) (w : Awaits) (a : Answer) → CanTellOf script c w (answers.Section a) → CanTellStep script c c.hand a
step_awaited script c (awaits.Step l) a can = can
step_awaited script c awaits.Nothing a can = absurd can
step_awaited script c awaits.Look a can = absurd can
step_awaited script c awaits.Take a can = absurd can
step_awaited script c (awaits.Give switched released) a can = absurd can

pub step_open : (script : Script) (c : CarrierSeen) (h : HandSeen) (w : Awaits) (a : Answer) → CanTellOf script c w (answers.Section a) → IsAwaiting c (Some h) w → contexts.is_open h.value ≡ true
step_open script c h (awaits.Step l) a can waits = waits
step_open script c h awaits.Nothing a can waits = absurd can
step_open script c h awaits.Look a can waits = absurd can
step_open script c h awaits.Take a can waits = absurd can
step_open script c h (awaits.Give switched released) a can waits = absurd can

pub section_sound : (script : Script) (c : CarrierSeen) (a : Answer) → IsSound script c → CanTell script c (answers.Section a) → IfSome c.hand (λ h. contexts.IsSound script (contexts.resumed h.value a)) → IsSound script (resumed c (answers.Section a))
section_sound script c a s can value = section_at script c c.hand a s refl (step_awaited script c c.awaits a can) value

-- AFTER A LOOK, or a take that was lost

looked_awaited : (script : Script) (c : CarrierSeen) (w : Awaits) (bits : ℕ) → CanTellOf script c w (answers.Looked bits) → IsAwaiting c c.hand w → IsContextSpelling bits × (c.hand ≡ None)
looked_awaited script c awaits.Look bits can waits = (can, waits.0)
looked_awaited script c awaits.Nothing bits can waits = absurd can
looked_awaited script c (awaits.Step l) bits can waits = absurd can
looked_awaited script c awaits.Take bits can waits = absurd can
looked_awaited script c (awaits.Give switched released) bits can waits = absurd can

lost_awaited : (script : Script) (c : CarrierSeen) (w : Awaits) (bits : ℕ) → CanTellOf script c w (answers.TakeLost bits) → IsAwaiting c c.hand w → IsContextSpelling bits × (c.hand ≡ None)
lost_awaited script c awaits.Take bits can waits = (can, waits.0)
lost_awaited script c awaits.Nothing bits can waits = absurd can
lost_awaited script c (awaits.Step l) bits can waits = absurd can
lost_awaited script c awaits.Look bits can waits = absurd can
lost_awaited script c (awaits.Give switched released) bits can waits = absurd can

pub looked_spelled : (script : Script) (c : CarrierSeen) (bits : ℕ) → IsSound script c → CanTell script c (answers.Looked bits) → IsContextSpelling bits
looked_spelled script c bits s can = (looked_awaited script c c.awaits bits can s.awaiting).0

pub lost_spelled : (script : Script) (c : CarrierSeen) (bits : ℕ) → IsSound script c → CanTell script c (answers.TakeLost bits) → IsContextSpelling bits
lost_spelled script c bits s can = (lost_awaited script c c.awaits bits can s.awaiting).0

heard_sound : (script : Script) (c : CarrierSeen) → IsSound script c → IsSound script (heard c)
heard_sound script c s = record { number = s.number; table = s.table; goal = s.goal; hand = s.hand; steady = s.steady; others = s.others; looked = s.looked; awaiting = tt }

looking : (script : Script) (c : CarrierSeen) (bits : ℕ) → IsSound script c → IsContextSpelling bits → IsResting (context_word_of bits) → IsSound script (record (heard c) { looked = Some bits })
looking script c bits s spelled resting = record { number = s.number; table = s.table; goal = s.goal; hand = s.hand; steady = s.steady; others = s.others; looked = (spelled, resting); awaiting = tt }

unhelping : (script : Script) (c : CarrierSeen) → IsSound script c → c.hand ≡ None → IsSound script (record (heard c) { help = None })
unhelping script c s empty = record { number = s.number; table = s.table; goal = s.goal; hand = s.hand; steady = subst (λ (o : Option HandSeen). IfSome o (IsHandSteady (record (heard c) { help = None }))) (sym empty) tt; others = tt; looked = s.looked; awaiting = tt }

goalless : (script : Script) (c : CarrierSeen) → IsSound script c → IsSound script (record (heard c) { goal = None })
goalless script c s = record { number = s.number; table = s.table; goal = tt; hand = s.hand; steady = s.steady; others = s.others; looked = s.looked; awaiting = tt }

seen_sound : (script : Script) (c : CarrierSeen) (w : ContextWord) (bits : ℕ) → IsSound script c → IsContextSpelling bits → IsContextWord w → context_word_of bits ≡ w → IsSound script (seen (heard c) w bits)
seen_sound script c (word.Clean version) bits s spelled whole e = looking script c bits s spelled (subst IsResting (sym e) whole)
seen_sound script c (word.Holds version) bits s spelled whole e = looking script c bits s spelled (subst IsResting (sym e) whole)
seen_sound script c (word.Taken carrier version) bits s spelled whole e = heard_sound script c s
seen_sound script c word.Empty bits s spelled whole e = heard_sound script c s

helped_look_sound : (script : Script) (c : CarrierSeen) (context : ℕ) (w : ContextWord) (bits : ℕ) → IsSound script c → c.hand ≡ None → IsContextSpelling bits → IsContextWord w → context_word_of bits ≡ w → IsSound script (after_look (heard c) (target.Helped context) w bits)
helped_look_sound script c context (word.Holds version) bits s empty spelled whole e = looking script c bits s spelled (subst IsResting (sym e) whole)
helped_look_sound script c context (word.Clean version) bits s empty spelled whole e = unhelping script c s empty
helped_look_sound script c context (word.Taken carrier version) bits s empty spelled whole e = unhelping script c s empty
helped_look_sound script c context word.Empty bits s empty spelled whole e = unhelping script c s empty

look_at_sound : (script : Script) (c : CarrierSeen) (t : Target) (w : ContextWord) (bits : ℕ) → IsSound script c → c.hand ≡ None → IsContextSpelling bits → IsContextWord w → context_word_of bits ≡ w → IsSound script (after_look (heard c) t w bits)
look_at_sound script c (target.Helped context) w bits s empty spelled whole e = helped_look_sound script c context w bits s empty spelled whole e
look_at_sound script c target.Own w bits s empty spelled whole e = seen_sound script c w bits s spelled whole e
look_at_sound script c (target.GoalOf g) w bits s empty spelled whole e = either (IsSound script) (version_in w == g.id.version) (seen (heard c) w bits) (record (heard c) { goal = None }) (seen_sound script c w bits s spelled whole e) (goalless script c s)

pub looked_sound : (script : Script) (c : CarrierSeen) (bits : ℕ) → IsSound script c → CanTell script c (answers.Looked bits) → IsSound script (resumed c (answers.Looked bits))
looked_sound script c bits s can =
    let told : IsContextSpelling bits × (c.hand ≡ None) = looked_awaited script c c.awaits bits can s.awaiting in
    look_at_sound script c (target_of c) (context_word_of bits) bits s told.1 told.0 told.0.whole refl

pub lost_sound : (script : Script) (c : CarrierSeen) (bits : ℕ) → IsSound script c → IsSound script (resumed c (answers.TakeLost bits))
lost_sound script c bits s = record { number = s.number; table = s.table; goal = s.goal; hand = s.hand; steady = s.steady; others = s.others; looked = tt; awaiting = tt }

-- AFTER A TAKE

take_awaited : (script : Script) (c : CarrierSeen) (w : Awaits) (v : ContextSeen) → CanTellOf script c w (answers.Took v) → IsAwaiting c c.hand w → IsOfNumber c.table (context_at c (target_of c)) v × contexts.IsSound script v × ((c.switching || is_some c.goal) ≡ true)
take_awaited script c awaits.Take v can waits = (can.0, can.1, waits.1)
take_awaited script c awaits.Nothing v can waits = absurd can
take_awaited script c (awaits.Step l) v can waits = absurd can
take_awaited script c awaits.Look v can waits = absurd can
take_awaited script c (awaits.Give switched released) v can waits = absurd can

abbrev number_of : Target → ℕ
number_of (target.Helped context) = context
number_of (target.GoalOf g) = g.id.number
number_of target.Own = 0

or_true : (b c : Bool) → c ≡ true → (b || c) ≡ true
or_true true c e = refl
or_true false c e = e

-- a context in hand is the helped one, its own, or the goal's, by what was the target
helped_steady : (p : Option Help) (switching : Bool) (goal : Option Goal) (own i : ℕ) → target_with p switching goal ≡ target.Helped i → IfSome p (λ h. h.context ≢ own) → ((i == own) ≡ true → switching ≡ true) × (switching ≡ true → ((i == own) || is_some p) ≡ true)
helped_steady (Some h) switching goal own i e others = (λ is. absurd (others (ap number_of e ∙ eqb-true i own is)), λ on. or_true (i == own) true refl)
helped_steady None true goal own i e others = absurd cc
helped_steady None false (Some g) own i e others = absurd cc
helped_steady None false None own i e others = absurd cc

own_steady : (p : Option Help) (switching : Bool) (goal : Option Goal) → target_with p switching goal ≡ target.Own → (switching || is_some goal) ≡ true → switching ≡ true
own_steady (Some h) switching goal e some = absurd cc
own_steady None true goal e some = refl
own_steady None false (Some g) e some = absurd cc
own_steady None false None e some = some

goal_steady : (p : Option Help) (switching : Bool) (goal : Option Goal) (g : Goal) (own table : ℕ) → target_with p switching goal ≡ target.GoalOf g → IfSome goal (IsGoalIn table) → table ≤ own → ((g.id.number == own) ≡ true → switching ≡ true) × (switching ≡ true → ((g.id.number == own) || is_some p) ≡ true)
goal_steady (Some h) switching goal g own table e inside above = absurd cc
goal_steady None true goal g own table e inside above = absurd cc
goal_steady None false None g own table e inside above = absurd cc
goal_steady None false (Some k) g own table e inside above =
    let same : k.id.number ≡ g.id.number = ap number_of e in
    let apart : (g.id.number == own) ≡ true → ⊥ = λ is. omega (arith, inside.inside, above, same, eqb-true g.id.number own is) in
    (λ is. absurd (apart is), λ on. absurd cc)

in_hand_sound : (script : Script) (c : CarrierSeen) (context : ℕ) (v : ContextSeen) → IsSound script c → IsOfNumber c.table context v → contexts.IsSound script v → IsHandSteady c (record { context = context; value = v }) → IsSound script (in_hand (heard c) context v)
in_hand_sound script c context v s number sound steady = record { number = s.number; table = s.table; goal = s.goal; hand = record { number = number; sound = sound }; steady = steady; others = s.others; looked = tt; awaiting = tt }

pub helped_taken_sound : (script : Script) (c : CarrierSeen) (context : ℕ) (v : ContextSeen) → IsSound script c → CanTell script c (answers.Took v) → target_of c ≡ target.Helped context → IsSound script (in_hand (heard c) context v)
helped_taken_sound script c context v s can e =
    let told : IsOfNumber c.table (context_at c (target_of c)) v × contexts.IsSound script v × ((c.switching || is_some c.goal) ≡ true) = take_awaited script c c.awaits v can s.awaiting in
    in_hand_sound script c context v s (subst (λ (t : Target). IsOfNumber c.table (context_at c t) v) e told.0) told.1 (helped_steady c.help c.switching c.goal (own_context c) context e s.others)

own_hand_steady : (c : CarrierSeen) (v : ContextSeen) → c.switching ≡ true → IsHandSteady c (record { context = own_context c; value = v })
own_hand_steady c v on = (λ is. on, λ is. ap (λ (b : Bool). b || is_some c.help) (eq-eqb (own_context c) (own_context c) refl))

-- its own context, with this value
pub own_taken_sound : (script : Script) (c : CarrierSeen) (v w : ContextSeen) → IsSound script c → CanTell script c (answers.Took v) → target_of c ≡ target.Own → IsOfNumber c.table (own_context c) w → contexts.IsSound script w → IsSound script (in_hand (heard c) (own_context c) w)
own_taken_sound script c v w s can e number sound =
    let told : IsOfNumber c.table (context_at c (target_of c)) v × contexts.IsSound script v × ((c.switching || is_some c.goal) ≡ true) = take_awaited script c c.awaits v can s.awaiting in
    in_hand_sound script c (own_context c) w s number sound (own_hand_steady c w (own_steady c.help c.switching c.goal e told.2))

pub goal_taken_sound : (script : Script) (c : CarrierSeen) (g : Goal) (v : ContextSeen) → IsSound script c → CanTell script c (answers.Took v) → target_of c ≡ target.GoalOf g → contexts.IsSound script (contexts.woken v) → IsSound script (goal_taken (heard c) g v)
goal_taken_sound script c g v s can e sound =
    let told : IsOfNumber c.table (context_at c (target_of c)) v × contexts.IsSound script v × ((c.switching || is_some c.goal) ≡ true) = take_awaited script c c.awaits v can s.awaiting in
    let number : IsOfNumber c.table g.id.number v = subst (λ (t : Target). IsOfNumber c.table (context_at c t) v) e told.0 in
    record {
      number = s.number;
      table = s.table;
      goal = either (λ (k : Option Goal). IfSome k (IsGoalIn c.table)) (contexts.is_dead v) None c.goal tt s.goal;
      hand = record { number = woken_number c.table g.id.number v number; sound = sound };
      steady = goal_steady c.help c.switching c.goal g (own_context c) c.table e s.goal (omega arith);
      others = s.others;
      looked = tt;
      awaiting = tt;
    }

-- What came is the context that it asked for.
pub took_number : (script : Script) (c : CarrierSeen) (v : ContextSeen) (t : Target) → IsSound script c → CanTell script c (answers.Took v) → target_of c ≡ t → IsOfNumber c.table (context_at c t) v × contexts.IsSound script v
took_number script c v t s can e =
    let told : IsOfNumber c.table (context_at c (target_of c)) v × contexts.IsSound script v × ((c.switching || is_some c.goal) ≡ true) = take_awaited script c c.awaits v can s.awaiting in
    (subst (λ (u : Target). IsOfNumber c.table (context_at c u) v) e told.0, told.1)

-- The carrier's own context is no thread's.
pub own_is_carriers : (script : Script) (c : CarrierSeen) (v : ContextSeen) → IsSound script c → IsOfNumber c.table (own_context c) v → contexts.IsSound script v → contexts.is_threads v ≡ false
own_is_carriers script c (contexts.Carrier k) s number sound = refl
own_is_carriers script c (contexts.Thread t) s number sound = absurd (omega (arith, number, sound.inside, s.table))

with_flags : (script : Script) (c : CarrierSeen) (starts : List Bool) (slice resched : Bool) → IsSound script c → IsSound script (record c { starts = starts; slice = slice; resched = resched })
with_flags script c starts slice resched s = record { number = s.number; table = s.table; goal = s.goal; hand = s.hand; steady = s.steady; others = s.others; looked = s.looked; awaiting = s.awaiting }

goal_call : (table : ℕ) (goal : Option Goal) → IfSome goal (IsGoalIn table) → IfSome goal IsGoal
goal_call table None h = tt
goal_call table (Some g) h = h.goal

own_at : (script : Script) (c : CarrierSeen) (v : ContextSeen) (b : Bool) → contexts.has_switch v ≡ b → IsSound script c → CanTell script c (answers.Took v) → target_of c ≡ target.Own → IsSound script (cond b (in_hand (heard c) (own_context c) v) (switch_begun (heard c) v))
own_at script c v true e s can own =
    let told : IsOfNumber c.table (own_context c) v × contexts.IsSound script v = took_number script c v target.Own s can own in
    own_taken_sound script c v v s can own told.0 told.1
own_at script c v false e s can own =
    let told : IsOfNumber c.table (own_context c) v × contexts.IsSound script v = took_number script c v target.Own s can own in
    let begun : contexts.IsSound script (contexts.with_switch (switch_call (heard c)) v) = begun_switch_sound script (switch_call (heard c)) v told.1 (goal_call c.table c.goal s.goal) (first_small c.starts) in
    with_flags script (in_hand (heard c) (own_context c) (contexts.with_switch (switch_call (heard c)) v)) (without_start c.starts (first_start c.starts)) false false (own_taken_sound script c v (contexts.with_switch (switch_call (heard c)) v) s can own (switching_number c.table (own_context c) (switch_call (heard c)) v told.0) begun)

took_at : (script : Script) (c : CarrierSeen) (v : ContextSeen) (t : Target) → IsSound script c → CanTell script c (answers.Took v) → target_of c ≡ t → IsSound script (after_take (heard c) t v)
took_at script c v (target.Helped context) s can e = helped_taken_sound script c context v s can e
took_at script c v target.Own s can e = own_at script c v (contexts.has_switch v) refl s can e
took_at script c v (target.GoalOf g) s can e = goal_taken_sound script c g v s can e (woken_sound script v (took_number script c v (target.GoalOf g) s can e).1)

pub took_sound : (script : Script) (c : CarrierSeen) (v : ContextSeen) → IsSound script c → CanTell script c (answers.Took v) → IsSound script (resumed c (answers.Took v))
took_sound script c v s can = took_at script c v (target_of c) s can refl

-- AFTER A GIVE

give_awaited : (script : Script) (c : CarrierSeen) (w : Awaits) → CanTellOf script c w answers.Given → IsAwaiting c c.hand w → (c.hand ≡ None) × IfSome (switched_given w) (λ s. IfSome s.goal (IsGoalIn c.table))
give_awaited script c (awaits.Give switched released) can waits = waits
give_awaited script c awaits.Nothing can waits = absurd can
give_awaited script c (awaits.Step l) can waits = absurd can
give_awaited script c awaits.Look can waits = absurd can
give_awaited script c awaits.Take can waits = absurd can

put_away_sound : (script : Script) (c : CarrierSeen) (released : Bool) → IsSound script c → c.hand ≡ None → IsSound script (record (heard c) { putting = false; help = if released then None else c.help })
put_away_sound script c released s empty = record {
  number = s.number;
  table = s.table;
  goal = s.goal;
  hand = s.hand;
  steady = subst (λ (o : Option HandSeen). IfSome o (IsHandSteady (record (heard c) { putting = false; help = if released then None else c.help }))) (sym empty) tt;
  others = either (λ (p : Option Help). IfSome p (λ h. h.context ≢ own_context c)) released None c.help tt s.others;
  looked = s.looked;
  awaiting = tt;
}

switched_sound : (script : Script) (c : CarrierSeen) (o : Option Switched) → IsSound script c → c.awaits ≡ awaits.Nothing → c.hand ≡ None → IfSome o (λ s. IfSome s.goal (IsGoalIn c.table)) → IsSound script (switched_to c o)
switched_sound script c None s heard empty goal = s
switched_sound script c (Some o) s heard empty goal = record {
  number = s.number;
  table = s.table;
  goal = goal;
  hand = s.hand;
  steady = subst (λ (h : Option HandSeen). IfSome h (IsHandSteady (switched_to c (Some o)))) (sym empty) tt;
  others = s.others;
  looked = s.looked;
  awaiting = subst (λ (w : Awaits). IsAwaiting (switched_to c (Some o)) c.hand w) (sym heard) tt;
}

pub given_sound : (script : Script) (c : CarrierSeen) → IsSound script c → CanTell script c answers.Given → IsSound script (resumed c answers.Given)
given_sound script c s can =
    let told : (c.hand ≡ None) × IfSome (switched_given c.awaits) (λ s. IfSome s.goal (IsGoalIn c.table)) = give_awaited script c c.awaits can s.awaiting in
    switched_sound script (record (heard c) { putting = false; help = if is_given_released c.awaits then None else c.help }) (switched_given c.awaits) (put_away_sound script c (is_given_released c.awaits) s told.0) refl told.0 told.1

pub given_empty : (script : Script) (c : CarrierSeen) → IsSound script c → CanTell script c answers.Given → c.hand ≡ None
given_empty script c s can = (give_awaited script c c.awaits can s.awaiting).0

-- EVERY ANSWER is heard

pub section_heard : (script : Script) (c : CarrierSeen) (o : Option HandSeen) (a : Answer) → CanTellStep script c o a → (after_section c o a).awaits ≡ awaits.Nothing
section_heard script c (Some h) a can = refl
section_heard script c None a can = absurd can

seen_heard : (c : CarrierSeen) (w : ContextWord) (bits : ℕ) → (seen (heard c) w bits).awaits ≡ awaits.Nothing
seen_heard c (word.Clean version) bits = refl
seen_heard c (word.Holds version) bits = refl
seen_heard c (word.Taken carrier version) bits = refl
seen_heard c word.Empty bits = refl

pub look_heard : (c : CarrierSeen) (t : Target) (w : ContextWord) (bits : ℕ) → (after_look (heard c) t w bits).awaits ≡ awaits.Nothing
look_heard c (target.Helped context) w bits = either (λ (x : CarrierSeen). x.awaits ≡ awaits.Nothing) (is_holding w) (record (heard c) { looked = Some bits }) (record (heard c) { help = None }) refl refl
look_heard c target.Own w bits = seen_heard c w bits
look_heard c (target.GoalOf g) w bits = either (λ (x : CarrierSeen). x.awaits ≡ awaits.Nothing) (version_in w == g.id.version) (seen (heard c) w bits) (record (heard c) { goal = None }) (seen_heard c w bits) refl

pub take_heard : (c : CarrierSeen) (t : Target) (v : ContextSeen) → (after_take (heard c) t v).awaits ≡ awaits.Nothing
take_heard c (target.Helped context) v = refl
take_heard c target.Own v = either (λ (x : CarrierSeen). x.awaits ≡ awaits.Nothing) (contexts.has_switch v) (in_hand (heard c) (own_context c) v) (switch_begun (heard c) v) refl refl
take_heard c (target.GoalOf g) v = refl

pub give_heard : (c : CarrierSeen) (o : Option Switched) → c.awaits ≡ awaits.Nothing → (switched_to c o).awaits ≡ awaits.Nothing
give_heard c None e = e
give_heard c (Some s) e = e
