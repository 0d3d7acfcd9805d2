-- The last step of a switch keeps the good world.
use Rattle.std.proofs.Common.{◌≡◌, ℕ, ◌+◌, ◌<◌, ◌≤◌, true, false, cond, refl, sym, ap, ◌∙◌, subst, List, [], ◌∷◌, Option, Some}
use Rattle.std.proofs.Common.{None, arith, inl, inr}
use Rattle.std.specs.Prelude.{◌==◌}
use Rattle.std.proofs.lemmas.Bool.Decides.{nat_tests, leb_tells}
use Rattle.k_ids.specs.declared.threads.ThreadId.{ThreadId}
use Rattle.k_model.specs.Maps.{upd}
use Rattle.k_model.specs.State.{same_id}
use Rattle.k_model.proofs.Maps.{upd_tells, upd_cases, upd_same}
use Rattle.k_tokens.specs.Maps.{id_at, put, times, is_filled}
use Rattle.k_tokens.specs.World.{ReleaseReady, has_switch, OwnContext, World, goal_of, is_counted, starting}
use Rattle.k_tokens.specs.Good.{Holder, ReadyList, GoalOf, is_somewhere, Told, Parts, IsGood, knows_goal, knows_start}
use Rattle.k_tokens.proofs.Basics.{id_tells, count_same}
use Rattle.k_tokens.proofs.Moves.{listed_once}
use Rattle.k_tokens.proofs.Standing.{moves_on}
use Rattle.k_switching.specs.Switch.{ready_free, goal_out, goal_back, start_entered, highest_filled, finished_with}
use Rattle.k_switching.specs.Switch.{finished_without, first_taken_of, first_taken_by, before_take, ready_released}
use Rattle.k_switching.proofs.Highest.{highest_is, highest_none}
use Rattle.k_switching.proofs.Finishing.{own_as, Midway, bare_is, bare_other, goes_back, enters, uncounts}
use Rattle.k_switching.proofs.Popping.{takes_tokens, takes_sum, seen_after, locked_after, facts_after}

module _ (w : World) (d : ℕ) (at : ThreadId → Holder) (g : Parts w at) (stage : (w.own d).stage ≡ ReleaseReady)
    (b : d < w.carriers) where
  low : (at' : ThreadId → Holder) (k : Midway d (before_take w d) at') (p : ℕ) (x : ThreadId) (l : List ThreadId)
      → (before_take w d).lists p ≡ x ∷ l → p < 64 → (q : ℕ) → 64 ≤ q → upd (before_take w d).lists p l q ≡ []
  low at' k p x l e h q i = grind (arith, upd_tells, k.high q i)

  is_taken : (at' : ThreadId → Holder) (k : Midway d (before_take w d) at') (p : ℕ) (x : ThreadId) (l : List ThreadId)
      → (before_take w d).lists p ≡ x ∷ l → p < 64
      → Parts (first_taken_of (before_take w d) d p (x ∷ l)) (put at' x (GoalOf d))
  is_taken at' k p x l e h =
      let v = before_take w d in
      let z = bare_is w d in
      let o = finished_with (v.own d) x in
      let was : at' x ≡ ReadyList p = in_it at' k p x l e in
      record {
        tokens = takes_tokens w v d at at' g k z stage b (bare_other w d) p x l e;
        threads = moves_on w.threads at' k.threads x (GoalOf d) (ap is_somewhere was) refl refl
            (λ q f. absurd (let f' : GoalOf d ≡ ReadyList q = f in cc));
        switches = seen_after w v d at at' g k z stage b (bare_other w d) o refl;
        ready = locked_after w v d at at' g k z stage b (bare_other w d) o refl;
        runs = record {
          running = takes_sum w v d at at' g k z stage b (bare_other w d) p x l;
          beyond = λ c i. upd_cases (λ y. (has_switch y.stage ≡ false) × ((w.carrier c).goal ≡ None)) v.own d o c
              (λ f. absurd (omega arith))
              (λ f. subst (λ y. (has_switch y.stage ≡ false) × ((w.carrier c).goal ≡ None)) (sym (bare_other w d c f))
              (g.runs.beyond c i));
          high = low at' k p x l e h;
          idle = λ c q i n. absurd (omega arith);
        };
        carriers = facts_after w v d at at' g k z stage b (bare_other w d) o refl (λ y f. refl)
            (λ f. absurd (let f' : false ≡ true = f in cc));
        hands = g.hands;
      }
    where
      in_it : (at' : ThreadId → Holder) (k : Midway d (before_take w d) at') (p : ℕ) (x : ThreadId) (l : List ThreadId)
          → (before_take w d).lists p ≡ x ∷ l → at' x ≡ ReadyList p
      in_it at' k p x l e = listed_once at' _ _ _ _ _ _ k.tokens p x
          (λ n. absurd (let a : times x ((before_take w d).lists p) ≡ cond (same_id x x) 1 0 + times x l = ap (times x) e in
          let c = k.tokens.list p x in let s = id_tells x x in grind (arith, nat_tests, a, c, n, s)))

  is_idle_now : (at' : ThreadId → Holder) (k : Midway d (before_take w d) at')
      → highest_filled 64 (before_take w d).lists ≡ None → Parts (first_taken_by (before_take w d) d None) at'
  is_idle_now at' k e =
      let v = before_take w d in
      let z = bare_is w d in
      let s = k.stage in
      let zg = z.goal in
      let zs = z.start in
      let zc = z.counted in
      let o : OwnContext = finished_without (v.own d) (v.running == 0) in
      let empty : (p : ℕ) → v.lists p ≡ [] = λ p. elim (leb_tells 64 p) [
        | inl y ↦ k.high p y.1
        | inr y ↦ highest_none 64 v.lists p e y.1
      ] in
      record {
        tokens = own_as _ _ k.tokens
            (λ c. upd_cases (λ y. goal_of y (v.carrier c) ≡ goal_of (v.own c) (v.carrier c)) v.own d o c
            (λ h. subst (λ y. goal_of o (v.carrier c) ≡ goal_of (v.own y) (v.carrier c)) (sym h) (grind (arith, s)))
            (λ h. refl))
            (λ c. upd_cases (λ y. starting y ≡ starting (v.own c)) v.own d o c
            (λ h. subst (λ y. None ≡ starting (v.own y)) (sym h) (grind (arith, s, zs))) (λ h. refl));
        threads = k.threads;
        switches = seen_after w v d at at' g k z stage b (bare_other w d) o refl;
        ready = locked_after w v d at at' g k z stage b (bare_other w d) o refl;
        runs = record {
          running = k.running ∙ count_same _ _ w.carriers
              (λ c _. upd_cases (λ y. is_counted (v.own c) (v.carrier c) ≡ is_counted y (v.carrier c)) v.own d o c
              (λ h. subst (λ y. is_counted (v.own y) (v.carrier c) ≡ is_counted o (v.carrier c)) (sym h) (grind (arith, s)))
              (λ h. refl));
          beyond = λ c i. upd_cases (λ y. (has_switch y.stage ≡ false) × ((w.carrier c).goal ≡ None)) v.own d o c
              (λ f. absurd (omega arith))
              (λ f. subst (λ y. (has_switch y.stage ≡ false) × ((w.carrier c).goal ≡ None)) (sym (bare_other w d c f))
              (g.runs.beyond c i));
          high = k.high;
          idle = λ c q i n. empty q;
        };
        carriers = facts_after w v d at at' g k z stage b (bare_other w d) o refl
            (λ y f. absurd (let f' : None ≡ Some y = sym zg ∙ f in cc)) (λ f. zg);
        hands = g.hands;
      }

  by_list : (at' : ThreadId → Holder) (k : Midway d (before_take w d) at') (p : ℕ) (l : List ThreadId)
      → (before_take w d).lists p ≡ l → is_filled l ≡ true → p < 64 → IsGood (first_taken_of (before_take w d) d p l)
  by_list at' k p [] e f h = cc
  by_list at' k p (x ∷ l) e f h = (put at' x (GoalOf d), is_taken at' k p x l e h)

  by_highest : (at' : ThreadId → Holder) (k : Midway d (before_take w d) at') (o : Option ℕ)
      → highest_filled 64 (before_take w d).lists ≡ o → IsGood (first_taken_by (before_take w d) d o)
  by_highest at' k None e = (at', is_idle_now at' k e)
  by_highest at' k (Some p) e = let y = highest_is 64 (before_take w d).lists p e in
      by_list at' k p ((before_take w d).lists p) refl y.0 y.1

  pub finishes : IsGood (ready_released w d)
  finishes =
      let start : Midway d (ready_free w) at = record {
        tokens = g.tokens;
        threads = g.threads;
        high = g.runs.high;
        stage = stage;
        running = g.runs.running;
      } in
      let s = g.switches d in
      let one = goes_back (ready_free w) d at start (w.own d).goal (w.own d).goal_seen (w.own d).slice_ended refl
      (λ x e. s.goal x (ap knows_goal stage) e) in
      let v = goal_back (ready_free w) d in
      let same = upd_same w.own d (goal_out (w.own d)) in
      let two = enters v d one.0 one.1 (v.own d).start (v.own d).start_seen refl
      (λ t e. subst (Told w.threads (id_at t 1)) (ap (λ z. z.start_seen) (sym same))
      (s.start t (ap knows_start stage) (ap (λ z. z.start) (sym same) ∙ e))) in
      let three = uncounts (start_entered v d) d two.0 two.1 b in
      by_highest two.0 three (highest_filled 64 (before_take w d).lists) refl
