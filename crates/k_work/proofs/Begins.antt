-- A switch begins: what made the carrier switch pays for it.
use Rattle.std.proofs.Common.{◌≡◌, ◌≢◌, ℕ, zero, suc, ◌+◌, ◌*◌, ◌<◌, ◌≤◌, Bool, true, false, not, refl, sym}
use Rattle.std.proofs.Common.{ap, ◌∙◌}
use Rattle.std.proofs.Common.{arith, Option, Some, None, inl, inr, ◌⊎◌}
use Rattle.std.specs.Prelude.{◌&&◌, ◌||◌, is_some, if◌then◌else◌}
use Rattle.std.specs.Option.{option_or}
use Rattle.std.proofs.lemmas.Bool.{cases_lt, false≢true}
use Rattle.std.proofs.lemmas.Bool.Decides.{nat_tests}
use Rattle.k_ids.specs.declared.threads.ThreadId.{ThreadId}
use Rattle.k_ids.specs.declared.context_word.ContextWord.{ContextWord}
use Rattle.k_model.specs.Maps.{count, lowest, upd}
use Rattle.k_model.proofs.Maps.{lowest-Some, upd_same, upd_other}
use Rattle.k_tokens.specs.Maps.{one_if}
use Rattle.k_tokens.specs.Good.{IsGood}
use Rattle.k_tokens.specs.Steps.{ThreadStep}
use Rattle.k_tokens.specs.World.{Carrier, Condition, Absent, Awake, Asleep, Ended, Dead, ContextName}
use Rattle.k_tokens.specs.World.{HasInterrupt}
use Rattle.k_tokens.specs.World.{Help, OfCarrier, OfThread, OwnContext, World, has_switch}
use Rattle.k_tokens.proofs.Basics.{count_has, count_other}
use Rattle.k_switching.specs.Rules.{Helped, ItsGoals, ItsOwn, Target, beginning, begins, begun_with}
use Rattle.k_switching.specs.Rules.{carrier_step}
use Rattle.k_switching.specs.Rules.{carrier_step_by, context_at, free_step, new_switch, same_word}
use Rattle.k_switching.specs.Rules.{switching_with, take_step}
use Rattle.k_switching.specs.Rules.{taken_as_it_is, taken_goal, target_by, target_of, target_step}
use Rattle.k_switching.specs.Rules.{wants_switch}
use Rattle.k_switching.specs.Rules.{without_start, word_of}
use Rattle.k_switching.proofs.Looking.{wants_reason}
use Rattle.k_switch.specs.declared.goal.Goal.{Goal}
use Rattle.k_switch.specs.declared.switch.SwitchCall.{SwitchCall}
use Rattle.k_switch.specs.Switches as switch
use Rattle.k_stages.specs.Stages.{IsFrom, id_in}
use Rattle.k_owed.specs.Owes.{one_for, owes_switch}
use Rattle.k_owed.proofs.Sums.{sum_moves}
use Rattle.k_work.specs.Work.{flags_of, lacks_goal, starts_of, switches_by, switches_of, threads_at}
use Rattle.k_work.specs.Work.{threads_by}
use Rattle.k_work.specs.Work.{threads_had, threads_of}

-- THE STARTS THAT ARE LEFT

none_count : (f : ℕ → Bool) (n : ℕ) → lowest f n ≡ None → count f n ≡ 0
none_count f zero e = omega arith
none_count f (suc n) e = go (lowest f n) (f n) refl refl e (none_count f n)
  where
    go : (o : Option ℕ) (t : Bool) → lowest f n ≡ o → f n ≡ t → option_or o (if t then Some n else None) ≡
        None →
        (lowest f n ≡ None → count f n ≡ 0) → count f n + (if f n then 1 else 0) ≡ 0
    go (Some k) t l q e more = absurd cc
    go None true l q e more = absurd cc
    go None false l q e more = let m = more l in rw q (omega (arith, m))

starts_left : (k : Carrier) (o : Option ℕ) → lowest k.starts 64 ≡ o →
    count (without_start k.starts o) 64 + one_for o ≡ starts_of k
starts_left k None e = omega arith
starts_left k (Some t) e =
    let l = lowest-Some k.starts 64 t e in
    let others : (n : ℕ) → n ≢ t → k.starts n ≡ upd k.starts t false n =
    λ n ne. sym (upd_other k.starts t false n ne) in
    let c = count_other k.starts (upd k.starts t false) 64 t l.0 others in
    let is : one_if (k.starts t) ≡ 1 = ap one_if l.1 in
    let not_is : one_if (upd k.starts t false t) ≡ 0 = ap one_if (upd_same k.starts t false) in
    omega (arith, c, is, not_is)

-- one of them is begun, where there is any
begins_some : (k : Carrier) (o : Option ℕ) → lowest k.starts 64 ≡ o → 1 ≤ starts_of k → one_for o ≡ 1
begins_some k None e some = let n = none_count k.starts 64 e in absurd (omega (arith, some, n))
begins_some k (Some t) e some = refl

-- a carrier without a goal switches in any case
lacks_most : (n flags rest : ℕ) → flags ≡ n + rest → 1 ≤ n + rest + lacks_goal None flags
lacks_most n flags rest e = grind (arith, nat_tests, e)

-- WHY A SWITCH BEGINS

abbrev pub Reason : Carrier → Type 0
Reason k = HasInterrupt k ⊎ (k.goal ≡ None)

-- One switch fewer, at least, is still to begin.
pub one_fewer : (k : Carrier) (o : Option ℕ) → lowest k.starts 64 ≡ o → Reason k →
    count (without_start k.starts o) 64 + 1 ≤ switches_by false k.goal (flags_of k)
one_fewer k o e (inl (inl h)) =
    let some : one_if (k.starts h.0) ≡ 1 = ap one_if h.2 in
    let has = count_has k.starts 64 h.0 h.1 in
    let one = begins_some k o e (omega (arith, some, has)) in
    let l = starts_left k o e in
    omega (arith, one, l)
one_fewer k o e (inl (inr (inl s))) =
    let one : one_if k.slice ≡ 1 = ap one_if s in let l = starts_left k o e in omega (arith, one, l)
one_fewer k o e (inl (inr (inr r))) =
    let one : one_if k.resched ≡ 1 = ap one_if r in let l = starts_left k o e in omega (arith, one, l)
one_fewer k o e (inr none) =
    let l = starts_left k o e in
    let lacks : lacks_goal k.goal (flags_of k) ≡ lacks_goal None (flags_of k) =
    ap (λ (g : Option ThreadId). lacks_goal g (flags_of k)) none in
    let m = lacks_most (starts_of k) (flags_of k) (one_if k.slice + one_if k.resched) (omega arith) in
    elim (cases_lt 0 (starts_of k)) [
      | inl some ↦ let one = begins_some k o e (omega (arith, some)) in omega (arith, one, l)
      | inr few ↦ omega (arith, l, lacks, m, few)
    ]

begins_reason : (k : Carrier) → begins k ≡ true → Reason k
begins_reason k e = by k.switching (wants_switch k) k.goal refl refl e
  where
    by : (s v : Bool) (o : Option ThreadId) → wants_switch k ≡ v → k.goal ≡ o →
        ((not s && v) || (not s && not (is_some o))) ≡ true → Reason k
    by true v o q g f = cc
    by false true o q g f = inl (wants_reason k q)
    by false false None q g f = inr g
    by false false (Some who) q g f = cc

goal_or_not : (k : Carrier) → begins k ≡ false → k.switching ≡ false → (o : Option ThreadId) → k.goal ≡ o →
    is_some o ≡ true
goal_or_not k e s o g = by k.switching (wants_switch k) o s (sym (ap (λ (x : Option ThreadId).
    (not k.switching && wants_switch k) || (not k.switching && not (is_some x))) g) ∙ e)
  where
    by : (s v : Bool) (o : Option ThreadId) → s ≡ false → ((not s && v) || (not s && not (is_some o))) ≡
        false →
        is_some o ≡ true
    by true v o p f = cc
    by false v (Some who) p f = refl
    by false true None p f = cc
    by false false None p f = cc

-- WHERE NO SWITCH BEGINS

as_it_is_own : (w : World) (c : ℕ) (x : ContextName) → (taken_as_it_is w c x).own ≡ w.own
as_it_is_own w c (OfThread t) = refl
as_it_is_own w c (OfCarrier d) = refl

goal_own : (w : World) (c t : ℕ) (k : Condition) → (taken_goal w c t k).own ≡ w.own
goal_own w c t Asleep = refl
goal_own w c t Dead = refl
goal_own w c t Absent = refl
goal_own w c t Awake = refl
goal_own w c t Ended = refl

take_own : (w : World) (c : ℕ) (t : Target) (v : Bool) → (t ≡ ItsOwn → ⊥) → (take_step w c t v).own ≡ w.own
take_own w c (Helped x) true not_own = as_it_is_own w c x
take_own w c (ItsGoals who) true not_own = goal_own w c who.number (w.threads.condition who.number)
take_own w c ItsOwn true not_own = absurd (not_own refl)
take_own w c t false not_own = refl

target_own : (w : World) (c : ℕ) (t : Target) (o : Option ContextWord) → (t ≡ ItsOwn → ⊥) →
    (target_step w c t o).own ≡ w.own
target_own w c t None not_own = refl
target_own w c t (Some word) not_own = take_own w c t (same_word word (word_of w (context_at c t))) not_own

goals_target : (h : Option Help) (o : Option ThreadId) → is_some o ≡ true → target_by h false o ≡ ItsOwn → ⊥
goals_target (Some help) o e q = cc
goals_target None (Some who) e q = cc
goals_target None None e q = false≢true e

target_is : (k : Carrier) → begins k ≡ false → k.switching ≡ false → target_of k ≡ ItsOwn → ⊥
target_is k e s q =
    goals_target k.help k.goal (goal_or_not k e s k.goal refl)
    (sym (ap (λ (t : Bool). target_by k.help t k.goal) s) ∙ q)

-- A carrier in whose own context a switch begins has a reason.
pub has_reason : (w : World) (c : ℕ) (step : ThreadStep) → IsGood w → (w.carrier c).hand ≡ None →
    has_switch (w.own c).stage ≡ false → (start : Option ℕ) → carrier_step w c step ≡ begun_with w c start →
    Reason (w.carrier c)
has_reason w c step good hand none start e = by (begins (w.carrier c)) (w.carrier c).switching refl refl
  where
    is : carrier_step w c step ≡ free_step (beginning w c (begins (w.carrier c))) c
    is = ap (carrier_step_by w c step) hand

    begun : has_switch ((carrier_step w c step).own c).stage ≡ true
    begun =
        ap (λ (v : World). has_switch (v.own c).stage) e
        ∙ ap (λ (x : OwnContext). has_switch x.stage) (upd_same w.own c (new_switch (w.carrier c) start))

    by : (t s : Bool) → begins (w.carrier c) ≡ t → (w.carrier c).switching ≡ s → Reason (w.carrier c)
    by true s b q = begins_reason (w.carrier c) b
    by false true b q = (good.1.carriers c).begins q none
    by false false b q =
        let stays : (carrier_step w c step).own ≡ w.own =
        ap (λ (v : World). v.own) is ∙ ap (λ (t : Bool). (free_step (beginning w c t) c).own) b
        ∙ target_own w c (target_of (w.carrier c)) (w.carrier c).looked (target_is (w.carrier c) b q) in
        absurd (false≢true (sym none ∙ ap (λ (o : ℕ → OwnContext). has_switch (o c).stage) (sym stays)
        ∙ begun))

-- WHAT IT IS WORTH

one_most : {A : Type 0} (o : Option A) → one_for o ≤ 1
one_most None = omega arith
one_most (Some a) = omega arith

one_goal : (o : Option Goal) → one_for (id_in o) ≡ one_for o
one_goal None = refl
one_goal (Some goal) = refl

pays : (now before mine_now mine_before goal goal' starts left start start' switches_now switches_left
    switches_before : ℕ) →
    now + mine_before ≤ before + mine_now → left + start ≡ starts → left + 1 ≤ switches_left → goal' ≡ goal →
    start' ≡ start → goal' ≤ 1 → start' ≤ 1 → mine_now ≡ 0 + left → mine_before ≡ goal + starts →
    switches_now ≡ left + 0 + 0 + 0 → switches_before ≡ switches_left →
    6 * now + 5 * switches_now + (2 + goal' + start' + 6 * (goal' + start')) < 6 * before + 5 *
    switches_before
pays now before mine_now mine_before goal goal' starts left start start' switches_now switches_left
    switches_before sum
    parts fewer same_goal same_start few_goals few_starts m n s t =
    omega (arith, sum, parts, fewer, same_goal, same_start, few_goals, few_starts, m, n, s, t)

-- The switch that begins has the carrier's goal, and one of its starts.
pub begun_worth : (w : World) (c : ℕ) (s : SwitchCall) → c < w.carriers → has_switch (w.own c).stage ≡ false →
    Reason (w.carrier c) → IsFrom s (w.carrier c) (lowest (w.carrier c).starts 64) →
    6 * threads_had (begun_with w c (lowest (w.carrier c).starts 64))
    + 5 * switches_of ((begun_with w c (lowest (w.carrier c).starts 64)).own c)
    ((begun_with w c (lowest (w.carrier c).starts 64)).carrier c) + owes_switch s switch.AcquireReady <
    6 * threads_had w + 5 * switches_of (w.own c) (w.carrier c)
begun_worth w c s low none why from =
    let sum = sum_moves (threads_at w) (threads_at (begun_with w c (lowest (w.carrier c).starts 64))) c
    w.carriers low others in
    let left = starts_left (w.carrier c) (lowest (w.carrier c).starts 64) refl in
    let fewer = one_fewer (w.carrier c) (lowest (w.carrier c).starts 64) refl why in
    let goal : one_for s.goal ≡ one_for (w.carrier c).goal =
    sym (one_goal s.goal) ∙ ap (λ (o : Option ThreadId). one_for o) from.goal in
    let start = ap (λ (o : Option ℕ). one_for o) from.start in
    let one_goal_most = one_most s.goal in
    let one_start_most = one_most s.start in
    pays (threads_had (begun_with w c (lowest (w.carrier c).starts 64))) (threads_had w)
    (threads_at (begun_with w c (lowest (w.carrier c).starts 64)) c) (threads_at w c)
    (one_for (w.carrier c).goal)
    (one_for s.goal) (starts_of (w.carrier c))
    (count (without_start (w.carrier c).starts (lowest (w.carrier c).starts 64)) 64)
    (one_for (lowest (w.carrier c).starts 64)) (one_for s.start)
    (switches_of ((begun_with w c (lowest (w.carrier c).starts 64)).own c)
    ((begun_with w c (lowest (w.carrier c).starts 64)).carrier c))
    (switches_by false (w.carrier c).goal (flags_of (w.carrier c))) (switches_of (w.own c) (w.carrier c))
    sum left fewer goal start one_goal_most one_start_most threads_now threads_then switches_now switches_then
  where
    own_is : (begun_with w c (lowest (w.carrier c).starts 64)).own c ≡
        new_switch (w.carrier c) (lowest (w.carrier c).starts 64)
    own_is = upd_same w.own c (new_switch (w.carrier c) (lowest (w.carrier c).starts 64))

    carrier_is : (begun_with w c (lowest (w.carrier c).starts 64)).carrier c ≡
        switching_with (w.carrier c) c (lowest (w.carrier c).starts 64)
    carrier_is = upd_same w.carrier c (switching_with (w.carrier c) c (lowest (w.carrier c).starts 64))

    others : (d : ℕ) → d ≢ c →
        threads_at (begun_with w c (lowest (w.carrier c).starts 64)) d ≤ threads_at w d
    others d ne =
        let o = upd_other w.own c (new_switch (w.carrier c) (lowest (w.carrier c).starts 64)) d ne in
        let k = upd_other w.carrier c (switching_with (w.carrier c) c (lowest (w.carrier c).starts 64)) d ne
        in
        let same : threads_at (begun_with w c (lowest (w.carrier c).starts 64)) d ≡ threads_at w d =
        λ z. threads_of (o z) (k z) in
        omega (arith, same)

    threads_then : threads_at w c ≡ one_for (w.carrier c).goal + starts_of (w.carrier c)
    threads_then = λ z. threads_by (none z) (w.carrier c).goal (starts_of (w.carrier c))

    threads_now : threads_at (begun_with w c (lowest (w.carrier c).starts 64)) c ≡
        0 + count (without_start (w.carrier c).starts (lowest (w.carrier c).starts 64)) 64
    threads_now = λ z. threads_of (own_is z) (carrier_is z)

    switches_then : switches_of (w.own c) (w.carrier c) ≡ switches_by false (w.carrier c).goal
        (flags_of (w.carrier c))
    switches_then = λ z. switches_by (none z) (w.carrier c).goal (flags_of (w.carrier c))

    switches_now : switches_of ((begun_with w c (lowest (w.carrier c).starts 64)).own c)
        ((begun_with w c (lowest (w.carrier c).starts 64)).carrier c) ≡
        count (without_start (w.carrier c).starts (lowest (w.carrier c).starts 64)) 64 + 0 + 0 + 0
    switches_now = λ z. switches_of (own_is z) (carrier_is z)
