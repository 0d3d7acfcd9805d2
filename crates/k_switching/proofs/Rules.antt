-- The rules: which contexts a carrier runs, and its step as a whole.
use Rattle.std.proofs.Common.{◌≡◌, ℕ, ◌<◌, Bool, true, false, not, eqb, refl, sym, ap, ◌∙◌, subst, Option, Some, None, arith}
use Rattle.std.proofs.Common.{◌⊎◌, inl, inr}
use Rattle.std.specs.Prelude.{is_some, ◌&&◌, ◌||◌}
use Rattle.std.proofs.lemmas.Bool.Decides.{nat_tests, eqb_tells}
use Rattle.k_ids.specs.declared.threads.ThreadId.{ThreadId}
use Rattle.k_ids.specs.declared.context_word.ContextWord.{ContextWord}
use Rattle.k_locks.specs.declared.locks.Lock.{Lock}
use Rattle.k_locks.specs.declared.locks.Lock.TheVariants as lock
use Rattle.k_model.specs.Maps.{upd}
use Rattle.k_model.proofs.Maps.{upd_cases, upd_same, upd_other}
use Rattle.k_tokens.specs.Maps.{id_at, put}
use Rattle.k_tokens.specs.World.{HasInterrupt, ContextName, OfThread, OfCarrier, holds_any, owner_of, Stage, NoSwitch}
use Rattle.k_tokens.specs.World.{AcquireReady, LoadGoal, LoadStart, ReleaseReady, Finished, has_switch, holds_ready, is_open}
use Rattle.k_tokens.specs.World.{is_finished, Help, Carrier, World, with_carrier, goal_of, is_lock_of, holds, names}
use Rattle.k_tokens.specs.Good.{Holder, Nobody, ReadyList, GoalOf, StartToCome, StartOf, is_somewhere, is_coming, Parts, IsGood}
use Rattle.k_tokens.specs.Good.{come_in}
use Rattle.k_tokens.specs.Steps.{ThreadStep}
use Rattle.k_tokens.specs.Grants.{IsRun}
use Rattle.k_tokens.specs.Claims.{IsHeld}
use Rattle.k_tokens.proofs.Basics.{same_is}
use Rattle.k_tokens.proofs.Moves.{start_made}
use Rattle.k_tokens.proofs.Standing.{moves_coming}
use Rattle.k_tokens.proofs.Keeping.{awake_is, hands_as, runs_as, no_switch, facts_with_flags, facts_changed, carrier_changed}
use Rattle.k_tokens.proofs.Keeping.{with_flags}
use Rattle.k_tokens.proofs.Sections.{thread_good}
use Rattle.k_tokens.proofs.Claimed.{stands}
use Rattle.k_switching.specs.Rules.{wants_switch, is_interrupted, same_context, is_helped, is_own, has_switched, is_released}
use Rattle.k_switching.specs.Rules.{is_strange, gives, begins, switching_begun, target_of, context_at, word_of, same_word}
use Rattle.k_switching.specs.Rules.{hand_step, take_step, target_step, free_step, beginning, carrier_step_by, carrier_step}
use Rattle.k_switching.specs.Rules.{started, sliced, parked}
use Rattle.k_switching.specs.Claims.{IsAsked, Granted, CanStep}
use Rattle.k_switching.proofs.Switching.{switch_good}
use Rattle.k_switching.proofs.Pairs.{tokens_as}
use Rattle.k_switching.proofs.Looking.{begins_good, look_good, blinks}
use Rattle.k_switching.proofs.Taking.{take_good}
use Rattle.k_switching.proofs.Giving.{give_thread, give_own}

or_false : (a b : Bool) → (a || b) ≡ false → (a ≡ false) × (b ≡ false)
or_false true b e = cc
or_false false b e = (refl, e)

and_not : (a b : Bool) → (a && not b) ≡ false → a ≡ true → b ≡ true
and_not true true e f = refl
and_not true false e f = cc
and_not false b e f = cc

pub same_context-true : (x y : ContextName) → same_context x y ≡ true → x ≡ y
same_context-true (OfThread t) (OfThread u) e = let q : t ≡ u = grind (arith, nat_tests) in ap OfThread q
same_context-true (OfThread t) (OfCarrier d) e = cc
same_context-true (OfCarrier c) (OfThread u) e = cc
same_context-true (OfCarrier c) (OfCarrier d) e = let q : c ≡ d = grind (arith, nat_tests) in ap OfCarrier q

names-true : (o : Option ThreadId) (x : ThreadId) → names o x ≡ true → o ≡ Some x
names-true None x e = cc
names-true (Some y) x e = ap Some (same_is y x (grind (arith, nat_tests)) (grind (arith, nat_tests)))

-- what the rules leave of a hand that is kept_by for a step of its section
pub record Kept (w : World) (c : ℕ) (h : ContextName) : Type 0 where
  pub unfinished : has_switched w c h ≡ false
  pub kept : is_released w (w.carrier c).help h ≡ false
  pub helped : is_some (w.carrier c).help ≡ true → is_helped (w.carrier c).help h ≡ true
  pub known : is_strange w (w.carrier c) h ≡ true → is_helped (w.carrier c).help h ≡ true
  pub quiet : is_interrupted (w.carrier c) ≡ true → is_own c h ≡ true

pub kept_by : (w : World) (c : ℕ) (h : ContextName) → gives w c (w.carrier c) h ≡ false → Kept w c h
kept_by w c h e =
    let a = or_false _ _ e in
    let b = or_false _ _ a.1 in
    let d = or_false _ _ b.1 in
    let f = or_false _ _ d.1 in
    let g = or_false _ _ f.1 in
    record {
      unfinished = b.0;
      kept = d.0;
      helped = and_not _ _ f.0;
      known = and_not _ _ g.0;
      quiet = and_not _ _ g.1;
    }

any_of : (w : World) (t : ℕ) (l : Option Lock) → holds w (OfThread t) l ≡ true → holds_any (w.threads.locks t) ≡ true
any_of w t None e = e
any_of w t (Some lock.Table) e = grind (arith, e)
any_of w t (Some lock.Ready) e = grind (arith, e)
any_of w t (Some (lock.Thread u)) e = by (w.threads.locks t).thread refl e
  where
    by : (o : Option ℕ) → (w.threads.locks t).thread ≡ o → is_lock_of u o ≡ true → holds_any (w.threads.locks t) ≡ true
    by None q e = cc
    by (Some v) q e = grind (arith, q)

own_holds : (w : World) (d : ℕ) (l : Option Lock) → holds w (OfCarrier d) l ≡ true → holds_ready (w.own d).stage ≡ true
own_holds w d None e = e
own_holds w d (Some lock.Table) e = cc
own_holds w d (Some lock.Ready) e = e
own_holds w d (Some (lock.Thread u)) e = cc

module _ (w : World) (at : ThreadId → Holder) (g : Parts w at) (c : ℕ) where
  held_lock : (p : Help) (h : ContextName) → is_helped (Some p) h ≡ true → is_released w (Some p) h ≡ false
      → holds w h p.lock ≡ true
  held_lock p h a b = by (same_context p.context h) (holds w h p.lock) a b
    where
      by : (x y : Bool) → x ≡ true → (x && not y) ≡ false → y ≡ true
      by true true a b = refl
      by true false a b = cc
      by false y a b = cc

  pub is_run : (t : ℕ) → (w.carrier c).hand ≡ Some (OfThread t) → gives w c (w.carrier c) (OfThread t) ≡ false → IsRun w c t at
  is_run t hand e = by (w.carrier c).help refl
    where
      a : Kept w c (OfThread t)
      a = kept_by w c (OfThread t) e

      by : (o : Option Help) → (w.carrier c).help ≡ o → IsRun w c t at
      by None h =
          let off : (w.carrier c).switching ≡ false = off_by (w.carrier c).switching refl in
          let goal : (w.carrier c).goal ≡ Some (owner_of w.threads t) =
          goal_by (names (w.carrier c).goal (owner_of w.threads t)) refl in
          let here : at (owner_of w.threads t) ≡ GoalOf c =
          g.tokens.goal c (owner_of w.threads t) (let none = no_switch (g.carriers c) off in grind (arith, none, goal)) in
          record {
            hand = hand;
            awake = (g.carriers c).awake t off hand goal;
            calm = ap is_coming here;
            old = λ m. (let k = g.threads.making t m in
                let o = g.threads.old (owner_of w.threads t) (let z = k.2 in omega (arith, z)) in
                let y : Nobody ≡ GoalOf c = sym o ∙ here in cc);
            free = λ _. (goal, off, h);
            helped = λ on. absurd (let y : true ≡ false = sym on ∙ off in cc);
          }
        where
          off_by : (b : Bool) → (w.carrier c).switching ≡ b → b ≡ false
          off_by false e = refl
          off_by true e = absurd (let z : is_some (w.carrier c).help ≡ true = (g.carriers c).switch_thread t e hand in
              let y : false ≡ true = ap is_some (sym h) ∙ z in cc)

          goal_by : (b : Bool) → names (w.carrier c).goal (owner_of w.threads t) ≡ b
              → (w.carrier c).goal ≡ Some (owner_of w.threads t)
          goal_by true e = names-true _ _ e
          goal_by false e = absurd (let z : is_helped (w.carrier c).help (OfThread t) ≡ true = a.known (ap not e) in
              let y : false ≡ true = ap (λ v. is_helped v (OfThread t)) (sym h) ∙ z in cc)
      by (Some p) h =
          let is : is_helped (Some p) (OfThread t) ≡ true =
          ap (λ v. is_helped v (OfThread t)) (sym h) ∙ a.helped (ap is_some h) in
          let kept : is_released w (Some p) (OfThread t) ≡ false = ap (λ v. is_released w v (OfThread t)) (sym h) ∙ a.kept in
          let l = held_lock p (OfThread t) is kept in
          let has = any_of w t p.lock l in
          record {
            hand = hand;
            awake = awake_is w at g t has;
            calm = g.threads.calm t has;
            old = λ m. (let k = (g.threads.making t m).3 in let y : true ≡ false = sym has ∙ k in cc);
            free = λ none. absurd (let y : true ≡ false = sym has ∙ none in cc);
            helped = λ on. (let r = (g.carriers c).switch_help p on h in ap (holds w (OfThread t)) (sym r) ∙ l);
          }

  runs_switch : (d : ℕ) → (w.carrier c).hand ≡ Some (OfCarrier d) → gives w c (w.carrier c) (OfCarrier d) ≡ false
      → (d ≡ c) ⊎ (holds_ready (w.own d).stage ≡ true)
  runs_switch d hand e = by (w.carrier c).help refl
    where
      a : Kept w c (OfCarrier d)
      a = kept_by w c (OfCarrier d) e

      by : (o : Option Help) → (w.carrier c).help ≡ o → (d ≡ c) ⊎ (holds_ready (w.own d).stage ≡ true)
      by None h = elim (eqb_tells d c) [
        | inl y ↦ inl y.1
        | inr y ↦ absurd (let z = (g.carriers c).foreign d hand y.1 in let q : false ≡ true = ap is_some (sym h) ∙ z in cc)
      ]
      by (Some p) h = inr
          (own_holds w d p.lock
          (held_lock p (OfCarrier d) (ap (λ v. is_helped v (OfCarrier d)) (sym h) ∙ a.helped (ap is_some h))
          (ap (λ v. is_released w v (OfCarrier d)) (sym h) ∙ a.kept)))

  -- a hand that is kept_by for a step has one
  pub can_step : (h : ContextName) → (w.carrier c).hand ≡ Some h → gives w c (w.carrier c) h ≡ false → CanStep w h
  can_step (OfThread t) hand e = (is_run t hand e).awake
  can_step (OfCarrier d) hand e = elim (runs_switch d hand e) [
    | inl q ↦ (let a = kept_by w c (OfCarrier d) e in
        let f = a.unfinished in
        let s : has_switch (w.own d).stage ≡ true =
        ap (λ v. has_switch (w.own v).stage) q ∙ (g.carriers c).switch_hand (hand ∙ ap (λ v. Some (OfCarrier v)) q) in
        open_by (w.own d).stage s (and_by (eqb d c) (is_finished (w.own d).stage) (eq_by d c q) f))
    | inr r ↦ ready_open (w.own d).stage r
  ]
    where
      eq_by : (x y : ℕ) → x ≡ y → eqb x y ≡ true
      eq_by x y e = grind (arith, nat_tests)

      and_by : (a b : Bool) → a ≡ true → (a && b) ≡ false → b ≡ false
      and_by true b e f = f
      and_by false b e f = cc

      open_by : (s : Stage) → has_switch s ≡ true → is_finished s ≡ false → is_open s ≡ true
      open_by NoSwitch e f = cc
      open_by AcquireReady e f = refl
      open_by LoadGoal e f = refl
      open_by LoadStart e f = refl
      open_by ReleaseReady e f = refl
      open_by Finished e f = cc

      ready_open : (s : Stage) → holds_ready s ≡ true → is_open s ≡ true
      ready_open NoSwitch e = cc
      ready_open AcquireReady e = cc
      ready_open LoadGoal e = refl
      ready_open LoadStart e = refl
      ready_open ReleaseReady e = refl
      ready_open Finished e = cc

  pub resumes : (w.carrier c).hand ≡ None → c < w.carriers → ((w.carrier c).switching ≡ false → (w.carrier c).goal ≡ None → ⊥)
      → IsGood (free_step w c)
  resumes free low busy = by (w.carrier c).looked refl
    where
      taken_by : (l : ContextWord) → (w.carrier c).looked ≡ Some l → (b : Bool)
          → same_word l (word_of w (context_at c (target_of (w.carrier c)))) ≡ b
          → IsGood (take_step w c (target_of (w.carrier c)) b)
      taken_by l e true f = take_good w at g c free low (w.carrier c).help (w.carrier c).switching
          (w.carrier c).goal l refl refl refl busy ((g.carriers c).looked l e) f
      taken_by l e false f = (at, blinks w at g c)

      by : (o : Option ContextWord) → (w.carrier c).looked ≡ o → IsGood (target_step w c (target_of (w.carrier c)) o)
      by None e = look_good w at g c free e (w.carrier c).help (w.carrier c).switching (w.carrier c).goal refl refl refl busy
      by (Some l) e = taken_by l e (same_word l (word_of w (context_at c (target_of (w.carrier c))))) refl

not_both : (s : Bool) (m : Option ThreadId) → (not s && not (is_some m)) ≡ false → s ≡ false → m ≡ None → ⊥
not_both true m e f h = cc
not_both false None e f h = cc
not_both false (Some x) e f h = cc

begins_by : (w : World) (at : ThreadId → Holder) (g : Parts w at) (c : ℕ) (b : Bool) → begins (w.carrier c) ≡ b
    → (w.carrier c).hand ≡ None → c < w.carriers → IsGood (free_step (beginning w c b) c)
begins_by w at g c false e free low = resumes w at g c free low
    (not_both (w.carrier c).switching (w.carrier c).goal (or_false _ _ e).1)
begins_by w at g c true e free low =
    let k : Carrier = switching_begun (w.carrier c) in
    let here : upd w.carrier c k c ≡ k = upd_same w.carrier c k in
    resumes (with_carrier w c k) at (begins_good w at g c free e) c (ap (λ (z : Carrier). z.hand) here ∙ free) low
    (λ off _. (let y : true ≡ false = ap (λ (z : Carrier). z.switching) (sym here) ∙ off in cc))

-- every step of every carrier keeps the good world
pub step_good : (w : World) (c : ℕ) (what : ThreadStep) → IsGood w → c < w.carriers → Granted w c what
    → IsGood (carrier_step w c what)
step_good w c what (at, g) low granted = by (w.carrier c).hand refl
  where
    with_hand_by : (h : ContextName) → (w.carrier c).hand ≡ Some h → (b : Bool) → gives w c (w.carrier c) h ≡ b
        → IsGood (hand_step w c h what b)
    with_hand_by (OfThread t) hand true e = (at, give_thread w at g c t hand)
    with_hand_by (OfCarrier d) hand true e = (at, give_own w at g c d (has_switched w c (OfCarrier d)) refl hand)
    with_hand_by (OfThread t) hand false e = thread_good w c t at g (is_run w at g c t hand e) what
        (granted t (record { hand = hand; kept = e }))
    with_hand_by (OfCarrier d) hand false e = switch_good w at g c d hand (runs_switch w at g c d hand e)

    by : (o : Option ContextName) → (w.carrier c).hand ≡ o → IsGood (carrier_step_by w c what o)
    by None e = begins_by w at g c (begins (w.carrier c)) refl e low
    by (Some h) e = with_hand_by h e (gives w c (w.carrier c) h) refl

-- other flags alone
flags_good : (w : World) (at : ThreadId → Holder) (g : Parts w at) (c : ℕ) (a b p : Bool)
    → (HasInterrupt (w.carrier c) → HasInterrupt (with_flags (w.carrier c) (w.carrier c).starts a b p))
    → Parts (with_carrier w c (with_flags (w.carrier c) (w.carrier c).starts a b p)) at
flags_good w at g c a b p rises =
    carrier_changed w at g c (with_flags (w.carrier c) (w.carrier c).starts a b p) refl refl refl refl
    (facts_with_flags (w.carrier c).starts a b p rises (g.carriers c))

pub sliced_good : (w : World) (c : ℕ) → IsGood w → IsGood (sliced w c)
sliced_good w c (at, g) = (at, flags_good w at g c true (w.carrier c).resched (w.carrier c).putting (λ h. inr (inl refl)))

pub parked_good : (w : World) (c : ℕ) → IsGood w → IsGood (parked w c)
parked_good w c (at, g) =
    let k = w.carrier c in
    (at, flags_good w at g c k.slice k.resched (is_some k.hand) (λ h. h))

-- a start more is an interrupt as before
start_rises : (k : Carrier) (t : ℕ) → HasInterrupt k → HasInterrupt (record k { starts = upd k.starts t true })
start_rises k t h = elim h [
  | inl a ↦ inl (a.0, a.1, upd_cases (λ v. v ≡ true) k.starts t true a.0 (λ _. refl) (λ _. a.2))
  | inr b ↦ inr b
]

-- a start that wasn't made
pub started_good : (w : World) (c t : ℕ) → IsGood w → w.unmade t ≡ true → IsGood (started w c t)
started_good w c t (at, g) has =
    let x : ThreadId = id_at t 1 in
    let was : at x ≡ StartToCome = g.tokens.unmade t has in
    let k : Carrier = record (w.carrier c) { starts = upd (w.carrier c).starts t true } in (
      put at x (StartOf c),
      record {
        tokens = tokens_as _ _ _ (start_made at w.lists _ _ _ _ _ g.tokens c t has)
            (λ d. upd_cases (λ y. goal_of (w.own d) y ≡ goal_of (w.own d) (w.carrier d)) w.carrier c k d
            (λ q. ap (λ v. goal_of (w.own d) (w.carrier v)) (sym q)) (λ q. refl))
            (λ d. upd_cases
            (λ (y : Carrier). y.starts ≡ upd (come_in w.carrier) c (upd (w.carrier c).starts t true) d) w.carrier c k d
            (λ q. subst (λ v. upd (w.carrier c).starts t true ≡ upd (come_in w.carrier) c (upd (w.carrier c).starts t true) v)
            (sym q) (sym (upd_same (come_in w.carrier) c (upd (w.carrier c).starts t true))))
            (λ q. sym (upd_other (come_in w.carrier) c (upd (w.carrier c).starts t true) d q)))
            (λ d. refl);
        threads = moves_coming w.threads at g.threads x (StartOf c) (ap is_somewhere was) refl (ap is_coming was)
            (λ p z. absurd (let y : StartOf c ≡ ReadyList p = z in cc));
        switches = g.switches;
        ready = g.ready;
        runs = runs_as c k g.runs refl (inl refl);
        carriers = facts_changed w.own w.carrier c k
            (facts_with_flags (upd (w.carrier c).starts t true) (w.carrier c).slice (w.carrier c).resched (w.carrier c).putting
            (start_rises (w.carrier c) t) (g.carriers c)) (λ e ne. g.carriers e);
        hands = hands_as c k g.hands refl;
      },
    )

pub has_step : (w : World) (c : ℕ) (h : ContextName) → IsGood w → IsAsked w c h → CanStep w h
has_step w c h (at, g) a = can_step w at g c h a.hand a.kept

module _ (w : World) (at : ThreadId → Holder) (g : Parts w at) where
  -- who is interrupted steps no section but its switch's, or one that this waits for
  switches_at : (c : ℕ) (h : ContextName) → (w.carrier c).hand ≡ Some h → gives w c (w.carrier c) h ≡ false
      → wants_switch (w.carrier c) ≡ true → (w.carrier c).switching ≡ true
  switches_at c h hand e wants = by (w.carrier c).switching refl
    where
      own_is : (h : ContextName) → is_own c h ≡ true → h ≡ OfCarrier c
      own_is (OfThread t) f = cc
      own_is (OfCarrier d) f = let q : d ≡ c = grind (arith, nat_tests) in ap OfCarrier q

      by : (b : Bool) → (w.carrier c).switching ≡ b → b ≡ true
      by true f = refl
      by false f =
          let i : is_interrupted (w.carrier c) ≡ true = ap (λ v. not v && wants_switch (w.carrier c)) f ∙ wants in
          let o = own_is h ((kept_by w c h e).quiet i) in
          let s = (g.carriers c).switch_own ((g.carriers c).switch_hand (hand ∙ ap Some o)) in sym f ∙ s

pub switches : (w : World) (c : ℕ) (h : ContextName) → IsGood w → IsAsked w c h → wants_switch (w.carrier c) ≡ true
    → (w.carrier c).switching ≡ true
switches w c h (at, g) a = switches_at w at g c h a.hand a.kept

-- a thread that is being pushed, or whose start is to come, isn't run
pub not_run : (w : World) (c t : ℕ) (v : Holder) → IsGood w → IsAsked w c (OfThread t) → IsHeld w (owner_of w.threads t) v
    → is_coming v ≡ false
not_run w c t v (at, g) a h =
    ap is_coming (sym (stands w at g (owner_of w.threads t) v h)) ∙ (is_run w at g c t a.hand a.kept).calm

-- who has begun to switch has a reason
pub has_reason : (w : World) (c : ℕ) → IsGood w → (w.carrier c).switching ≡ true → has_switch (w.own c).stage ≡ false
    → HasInterrupt (w.carrier c) ⊎ ((w.carrier c).goal ≡ None)
has_reason w c (at, g) = (g.carriers c).begins
