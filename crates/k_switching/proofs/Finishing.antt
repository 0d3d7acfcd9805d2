-- The last step of a switch, up to the thread that is taken.
use Rattle.std.proofs.Common.{◌≡◌, ◌≢◌, ℕ, ◌+◌, ◌<◌, ◌≤◌, Bool, true, false, refl, sym, ap, ◌∙◌, subst, List, [], Option, Some}
use Rattle.std.proofs.Common.{None, arith, inl, inr}
use Rattle.k_ids.specs.declared.threads.ThreadId.{ThreadId}
use Rattle.k_model.specs.Maps.{upd, count}
use Rattle.k_model.proofs.Maps.{upd_tells, upd_cases, upd_same, upd_other}
use Rattle.k_tokens.specs.Maps.{id_at, put, one_if}
use Rattle.k_tokens.specs.World.{is_present, ReleaseReady, OwnContext, World, goal_of, is_counted, starting}
use Rattle.k_tokens.specs.Good.{Holder, Nobody, ReadyList, GoalOf, is_somewhere, Tokens, TokensOf, ThreadFacts, IsListable}
use Rattle.k_tokens.specs.Good.{Told, goals_in, starting_in, counted_in}
use Rattle.k_tokens.proofs.Basics.{times_append, count_same, count_other}
use Rattle.k_tokens.proofs.Moves.{goal_to_list, goal_off, begun_to_list, begun_off, Adds}
use Rattle.k_tokens.proofs.Standing.{moves_on, goes_off}
use Rattle.k_switching.specs.Switch.{put_back, entered, ready_free, goal_out, start_out, count_out, goal_put, goal_back}
use Rattle.k_switching.specs.Switch.{start_put, start_entered, uncounted, before_take}

-- the same holders under another name
pub own_as : {at : ThreadId → Holder} {r : ℕ → List ThreadId} {g u : ℕ → Option ThreadId} {m : ℕ → Bool} {s : ℕ → ℕ → Bool}
    {b : ℕ → Option ℕ} (g' : ℕ → Option ThreadId) (b' : ℕ → Option ℕ)
    → Tokens at r g u m s b → ((c : ℕ) → g' c ≡ g c) → ((c : ℕ) → b' c ≡ b c) → Tokens at r g' u m s b'
own_as {at = at} {r = r} {g = g} {u = u} {m = m} {s = s} {b = b} g' b' k h j =
    let eg : g ≡ g' = λ d c. sym (h c) d in
    let eb : b ≡ b' = λ d c. sym (j c) d in
    subst (λ z. Tokens at r z u m s b') eg (subst (λ z. Tokens at r g u m s z) eb k)

-- what holds between the changes of the last step
pub record Midway (d : ℕ) (w : World) (at : ThreadId → Holder) : Type 0 where
  pub tokens : TokensOf w at
  pub threads : ThreadFacts w.threads at
  pub high : (p : ℕ) → 64 ≤ p → w.lists p ≡ []
  pub stage : (w.own d).stage ≡ ReleaseReady
  pub running : w.running ≡ count (counted_in w.own w.carrier) w.carriers

abbrev pub MidwayOf : ℕ → World → Type 0
MidwayOf d w = (at : ThreadId → Holder) × Midway d w at

-- one map of own contexts changed at d, at the same stage and with the same mark
same_sum : (w : World) (d : ℕ) (o : OwnContext) → (w.own d).stage ≡ ReleaseReady → o.stage ≡ (w.own d).stage
    → o.counted ≡ (w.own d).counted
    → count (counted_in w.own w.carrier) w.carriers ≡ count (counted_in (upd w.own d o) w.carrier) w.carriers
same_sum w d o here s h = count_same _ _ w.carriers
    (λ c _. upd_cases (λ z. is_counted (w.own c) (w.carrier c) ≡ is_counted z (w.carrier c)) w.own d o c
    (λ e. rw (e, here, s, h) (rw here refl)) (λ _. refl))

module _ (w : World) (d : ℕ) (at : ThreadId → Holder) (k : Midway d w at) where
  goal_none : (c : ℕ) → goal_of (upd w.own d (goal_out (w.own d)) c) (w.carrier c) ≡ upd (goals_in w.own w.carrier) d None c
  goal_none c =
      let s = k.stage in
      upd_cases (λ z. goal_of z (w.carrier c) ≡ upd (goals_in w.own w.carrier) d None c) w.own d (goal_out (w.own d)) c
      (λ e. grind (arith, upd_tells, s)) (λ e. grind (arith, upd_tells))

  goal_begun : (c : ℕ) → starting (upd w.own d (goal_out (w.own d)) c) ≡ starting (w.own c)
  goal_begun c = upd_cases (λ z. starting z ≡ starting (w.own c)) w.own d (goal_out (w.own d)) c
      (λ e. ap (starting_in w.own) (sym e)) (λ e. refl)

  goal_has : (x : ThreadId) → (w.own d).goal ≡ Some x → goal_of (w.own d) (w.carrier d) ≡ Some x
  goal_has x e = let s = k.stage in grind (arith, s, e)

  goal_stage : (upd w.own d (goal_out (w.own d)) d).stage ≡ ReleaseReady
  goal_stage = ap (λ z. z.stage) (upd_same w.own d (goal_out (w.own d))) ∙ k.stage

  goal_sum : w.running ≡ count (counted_in (upd w.own d (goal_out (w.own d))) w.carrier) w.carriers
  goal_sum = k.running ∙ same_sum w d (goal_out (w.own d)) k.stage refl refl

  goal_at : (x : ThreadId) → (w.own d).goal ≡ Some x → at x ≡ GoalOf d
  goal_at x e = k.tokens.goal d x (goal_has x e)

  goal_lists : (x : ThreadId) (p : ℕ) (l : List ThreadId) → (w.own d).goal ≡ Some x → Adds w.lists p l x → p < 64
      → IsListable w.threads x
      → Midway d (goal_put w d (upd w.lists p l)) (put at x (ReadyList p))
  goal_lists x p l e adds low may =
      record {
        tokens = own_as _ _ (goal_to_list at w.lists _ _ _ _ _ k.tokens d x p l (goal_has x e) adds) goal_none goal_begun;
        threads = moves_on w.threads at k.threads x (ReadyList p) (ap is_somewhere (goal_at x e)) refl refl (λ q _. may);
        high = λ q b. grind (arith, upd_tells, k.high q b);
        stage = goal_stage;
        running = goal_sum;
      }

  goal_leaves : (x : ThreadId) → (w.own d).goal ≡ Some x → is_present w.threads x ≡ false
      → Midway d (goal_put w d w.lists) (put at x Nobody)
  goal_leaves x e gone =
      record {
        tokens = own_as _ _ (goal_off at w.lists _ _ _ _ _ k.tokens d x (goal_has x e)) goal_none goal_begun;
        threads = goes_off w.threads at k.threads x gone;
        high = k.high;
        stage = goal_stage;
        running = goal_sum;
      }

  goal_stays : (w.own d).goal ≡ None → Midway d (goal_put w d w.lists) at
  goal_stays e =
      record {
        tokens = own_as _ _ k.tokens
            (λ c. goal_none c
            ∙ (let s = k.stage in
            elim (upd_tells (goals_in w.own w.carrier) d None c) [
              | inl h ↦ h.0 ∙ subst (λ z. None ≡ goal_of (w.own z) (w.carrier z)) (sym h.1) (grind (arith, s, e))
              | inr h ↦ h.0
            ])) goal_begun;
        threads = k.threads;
        high = k.high;
        stage = goal_stage;
        running = goal_sum;
      }

  pub goes_back : (o : Option ThreadId) (s : Option ℕ) (slice_ended : Bool) → (w.own d).goal ≡ o
      → ((x : ThreadId) → o ≡ Some x → Told w.threads x s) → MidwayOf d (goal_put w d (put_back w.lists o s slice_ended))
  goes_back None s slice_ended e tells = (at, goal_stays e)
  goes_back (Some x) None slice_ended e tells = (put at x Nobody, goal_leaves x e ((tells x refl).absent refl))
  goes_back (Some x)
      (Some p) true e tells = (
        put at x (ReadyList p),
        goal_lists x p _ e (λ y. times_append y x (w.lists p))
            ((tells x refl).shown p refl).0 ((tells x refl).shown p refl).1,
      )
  goes_back (Some x)
      (Some p) false e tells = (
        put at x (ReadyList p),
        goal_lists x p _ e (λ y. omega arith) ((tells x refl).shown p refl).0
            ((tells x refl).shown p refl).1,
      )

  start_goal : (c : ℕ) → goal_of (upd w.own d (start_out (w.own d)) c) (w.carrier c) ≡ goal_of (w.own c) (w.carrier c)
  start_goal c = upd_cases (λ z. goal_of z (w.carrier c) ≡ goal_of (w.own c) (w.carrier c)) w.own d (start_out (w.own d)) c
      (λ e. ap (λ z. goal_of (w.own z) (w.carrier c)) (sym e)) (λ e. refl)

  start_begun : (c : ℕ) → starting (upd w.own d (start_out (w.own d)) c) ≡ upd (starting_in w.own) d None c
  start_begun c =
      let s = k.stage in
      upd_cases (λ z. starting z ≡ upd (starting_in w.own) d None c) w.own d (start_out (w.own d)) c
      (λ e. grind (arith, upd_tells, s)) (λ e. grind (arith, upd_tells))

  start_stage : (upd w.own d (start_out (w.own d)) d).stage ≡ ReleaseReady
  start_stage = ap (λ z. z.stage) (upd_same w.own d (start_out (w.own d))) ∙ k.stage

  start_sum : w.running ≡ count (counted_in (upd w.own d (start_out (w.own d))) w.carrier) w.carriers
  start_sum = k.running ∙ same_sum w d (start_out (w.own d)) k.stage refl refl

  start_has : (t : ℕ) → (w.own d).start ≡ Some t → starting (w.own d) ≡ Some t
  start_has t e = let s = k.stage in grind (arith, s, e)

  start_lists : (t p : ℕ) (l : List ThreadId) → (w.own d).start ≡ Some t → Adds w.lists p l (id_at t 1) → p < 64
      → IsListable w.threads (id_at t 1)
      → Midway d (start_put w d (upd w.lists p l)) (put at (id_at t 1) (ReadyList p))
  start_lists t p l e adds low may =
      record {
        tokens = own_as _ _ (begun_to_list at w.lists _ _ _ _ _ k.tokens d t p l (start_has t e) adds) start_goal start_begun;
        threads = moves_on w.threads at k.threads (id_at t 1) (ReadyList p)
            (ap is_somewhere (k.tokens.begun d t (start_has t e))) refl refl (λ q _. may);
        high = λ q b. grind (arith, upd_tells, k.high q b);
        stage = start_stage;
        running = start_sum;
      }

  start_leaves : (t : ℕ) → (w.own d).start ≡ Some t → is_present w.threads (id_at t 1) ≡ false
      → Midway d (start_put w d w.lists) (put at (id_at t 1) Nobody)
  start_leaves t e gone =
      record {
        tokens = own_as _ _ (begun_off at w.lists _ _ _ _ _ k.tokens d t (start_has t e)) start_goal start_begun;
        threads = goes_off w.threads at k.threads (id_at t 1) gone;
        high = k.high;
        stage = start_stage;
        running = start_sum;
      }

  start_stays : (w.own d).start ≡ None → Midway d (start_put w d w.lists) at
  start_stays e =
      record {
        tokens = own_as _ _ k.tokens start_goal
            (λ c. start_begun c
            ∙ (let s = k.stage in
            elim (upd_tells (starting_in w.own) d None c) [
              | inl h ↦ h.0 ∙ subst (λ z. None ≡ starting (w.own z)) (sym h.1) (grind (arith, s, e))
              | inr h ↦ h.0
            ]));
        threads = k.threads;
        high = k.high;
        stage = start_stage;
        running = start_sum;
      }

  pub enters : (o : Option ℕ) (s : Option ℕ) → (w.own d).start ≡ o → ((t : ℕ) → o ≡ Some t → Told w.threads (id_at t 1) s)
      → MidwayOf d (start_put w d (entered w.lists o s))
  enters None s e tells = (at, start_stays e)
  enters (Some t) None e tells = (put at (id_at t 1) Nobody, start_leaves t e ((tells t refl).absent refl))
  enters (Some t)
      (Some p) e tells = (
        put at (id_at t 1) (ReadyList p),
        start_lists t p _ e (λ y. times_append y (id_at t 1) (w.lists p))
            ((tells t refl).shown p refl).0 ((tells t refl).shown p refl).1,
      )

  -- the carrier isn't counted any more
  pub uncounts : d < w.carriers → Midway d (uncounted w d) at
  uncounts b =
      let s = k.stage in
      let o : OwnContext = count_out (w.own d) in
      let here : upd w.own d o d ≡ o = upd_same w.own d o in
      let sums : count (counted_in (upd w.own d o) w.carrier) w.carriers + one_if (is_counted (w.own d) (w.carrier d)) ≡ count
      (counted_in w.own w.carrier) w.carriers + one_if (is_counted (upd w.own d o d) (w.carrier d)) =
      count_other (counted_in (upd w.own d o) w.carrier) (counted_in w.own w.carrier) w.carriers d b
      (λ c ne. ap (λ z. is_counted z (w.carrier c)) (upd_other w.own d o c ne)) in
      let new : is_counted (upd w.own d o d) (w.carrier d) ≡ false =
      ap (λ z. is_counted z (w.carrier d)) here ∙ grind (arith, s) in
      let was : is_counted (w.own d) (w.carrier d) ≡ (w.own d).counted = grind (arith, s) in
      let bits : one_if (is_counted (upd w.own d o d) (w.carrier d)) ≡ 0 = ap one_if new in
      let bits2 : one_if (is_counted (w.own d) (w.carrier d)) ≡ one_if (w.own d).counted = ap one_if was in
      record {
        tokens = own_as _ _ k.tokens
            (λ c. upd_cases (λ z. goal_of z (w.carrier c) ≡ goal_of (w.own c) (w.carrier c)) w.own d o c
            (λ e. ap (λ z. goal_of (w.own z) (w.carrier c)) (sym e)) (λ e. refl))
            (λ c. upd_cases (λ z. starting z ≡ starting (w.own c)) w.own d o c (λ e. ap (starting_in w.own) (sym e)) (λ e. refl));
        threads = k.threads;
        high = k.high;
        stage = ap (λ z. z.stage) here ∙ s;
        running = let r = k.running in omega (arith, sums, bits, bits2, r);
      }

-- what is left of the switch before it takes a thread
pub record IsBare (d : ℕ) (w : World) : Type 0 where
  pub goal : (w.own d).goal ≡ None
  pub start : (w.own d).start ≡ None
  pub counted : (w.own d).counted ≡ false

pub bare_is : (w : World) (d : ℕ) → IsBare d (before_take w d)
bare_is w d =
    let v : World = goal_back (ready_free w) d in
    let u : World = start_entered v d in
    let a = upd_same (ready_free w).own d (goal_out ((ready_free w).own d)) in
    let b = upd_same v.own d (start_out (v.own d)) in
    let c = upd_same u.own d (count_out (u.own d)) in
    record {
      goal = ap (λ z. z.goal) c ∙ ap (λ z. z.goal) b ∙ ap (λ z. z.goal) a;
      start = ap (λ z. z.start) c ∙ ap (λ z. z.start) b;
      counted = ap (λ z. z.counted) c;
    }

pub bare_other : (w : World) (d c : ℕ) → c ≢ d → (before_take w d).own c ≡ w.own c
bare_other w d c ne =
    let v : World = goal_back (ready_free w) d in
    let u : World = start_entered v d in
    upd_other u.own d (count_out (u.own d)) c ne ∙ upd_other v.own d (start_out (v.own d)) c ne ∙ upd_other w.own d
    (goal_out (w.own d)) c ne
