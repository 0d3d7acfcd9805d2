-- A run is made of single turns. w is the world from which it is reached.
use Rattle.std.proofs.Common.{◌≡◌, ℕ, ◌++◌, Bool, refl, sym, ap, ◌∙◌, subst, List, [], ◌∷◌, inl, inr, zero, suc}
use Rattle.std.proofs.Common.{Option, Some, true, false}
use Rattle.std.proofs.lemmas.Bool.{cases_Bool}
use Rattle.std.proofs.lemmas.Option.{none-some, same_Some}
use Rattle.k_script.specs.declared.lines.AtLine.{AtLine}
use Rattle.k_script.specs.declared.lines.Item.{Item}
use Rattle.k_script.specs.declared.lines.Item.TheVariants as item
use Rattle.k_script.specs.Script.{Script}
use Rattle.k_schedule.specs.Carriers.{Carriers}
use Rattle.k_schedule.specs.Schedule.{Burst, BurstOf, IsRun, Moment, TailOf, all_settled, burst, due, follows}
use Rattle.k_schedule.specs.Schedule.{items_at, least, moment, next_carrier, park_at, parks, step_at, tail_begins}
use Rattle.k_schedule.specs.Schedule.{times}
use Rattle.k_schedule.specs.Turn.{EventTurn, IsReached, ParkTurn, StepTurn, Turn, make, run}
use Rattle.k_schedule.proofs.Events.{at_once_keeps}
use Rattle.k_schedule.proofs.Tails.{at_idle}

module _ {World : Type 0} (carriers : Carriers World) where
  run_append : (ts us : List Turn) (w : World) → run carriers (ts ++ us) w ≡ run carriers us (run carriers ts w)
  run_append [] us w = refl
  run_append (t ∷ ts) us w = run_append ts us (make carriers t w)

  then_turn : (w v : World) (t : Turn) → IsReached carriers w v → IsReached carriers w (make carriers t v)
  then_turn w v t r = (r.0 ++ t ∷ [], ap (make carriers t) r.1 ∙ sym (run_append r.0 (t ∷ []) w))

  step_reached : (c : ℕ) (m : Moment World) (w : World) → IsReached carriers w m.world →
      IsReached carriers w (step_at carriers c m).world
  step_reached c m w r =
      let events = at_once_keeps carriers c (carriers.made m.world) (λ v ls. IsReached carriers w v)
      (λ v l ls p. then_turn w v (EventTurn c l.what) p) m.world m.ahead r in
      then_turn w (due carriers c m).world (StepTurn c) events

  park_reached : (c : ℕ) (m : Moment World) (w : World) → IsReached carriers w m.world →
      IsReached carriers w (park_at carriers c m).world
  park_reached c m w r = elim (cases_Bool (carriers.has_hand m.world c)) [
    | inl e ↦ rw e (step_reached c (moment (carriers.park m.world c) m.ahead) w (then_turn w m.world (ParkTurn c) r))
    | inr e ↦ rw e r
  ]

  times_reached : (c n : ℕ) (m : Moment World) (w : World) → IsReached carriers w m.world →
      IsReached carriers w (times carriers c n m).world
  times_reached c zero m w r = r
  times_reached c (suc n) m w r = step_reached c (times carriers c n m) w (times_reached c n m w r)

  items_reached : (is : List Item) (m : Moment World) (w : World) → IsReached carriers w m.world →
      IsReached carriers w (items_at carriers is m).world
  items_reached [] m w r = r
  items_reached (item.Steps c n ∷ is) m w r = items_reached is (times carriers c n m) w (times_reached c n m w r)
  items_reached (item.Park c ∷ is) m w r = items_reached is (park_at carriers c m) w (park_reached c m w r)

  parks_reached : (n : ℕ) (m : Moment World) (w : World) → IsReached carriers w m.world →
      IsReached carriers w (parks carriers n m).world
  parks_reached zero m w r = r
  parks_reached (suc n) m w r = park_reached n (parks carriers n m) w (parks_reached n m w r)

  burst_reached : (n c : ℕ) (m : Moment World) (b : Burst World) (w : World) → BurstOf carriers n c m b →
      IsReached carriers w m.world → IsReached carriers w b.after.world
  burst_reached zero c m b w t r =
      subst (λ (x : Burst World). IsReached carriers w x.after.world) (sym t.1) (step_reached c m w r)
  burst_reached (suc n) c m b w t r = burst_reached n c (step_at carriers c m) b w t.1 (step_reached c m w r)

  next_reached : (d x : ℕ) (o y : Moment World) (w : World) → IsReached carriers w y.world →
      ◌≡◌ {A = Option (ℕ × Moment World)} (Some (x, y)) (Some (d, o)) → IsReached carriers w o.world
  next_reached d x o y w r is =
      let from : ℕ × Moment World = (x, y) in
      let to : ℕ × Moment World = (d, o) in
      subst (λ (p : ℕ × Moment World). IsReached carriers w p.1.world) (same_Some from to is) r

  follows_reached : (c d : ℕ) (idle : Bool) (v : World) (ls : List AtLine) (o : Moment World) (w : World) →
      follows carriers c (burst idle (moment v ls)) ≡ Some (d, o) → IsReached carriers w v → IsReached carriers w o.world
  unfolding at_idle
  follows_reached c d false v ls o w f r = next_reached d (next_carrier carriers c) o (moment v ls) w r f
  follows_reached c d true v [] o w f r = elim (cases_Bool (all_settled carriers carriers.count v)) [
    | inl e ↦ absurd (none-some {A = ℕ × Moment World} (d, o) (sym (ap (at_idle carriers c v) e) ∙ f))
    | inr e ↦ next_reached d (next_carrier carriers c) o (moment v []) w r (sym (ap (at_idle carriers c v) e) ∙ f)
  ]
  follows_reached c d true v (l ∷ ls) o w f r =
      let events = at_once_keeps carriers c l.step (λ x xs. IsReached carriers w x)
      (λ x y xs p. then_turn w x (EventTurn c y.what) p) v (l ∷ ls) r in
      next_reached d c o (least carriers c v (l ∷ ls)) w events f

  tail_reached : (n c : ℕ) (m e : Moment World) (w : World) → TailOf carriers n c m e → IsReached carriers w m.world →
      IsReached carriers w e.world
  tail_reached zero c m e w t r =
      let last = burst_reached t.1.0 c m t.0 w t.1.1 r in
      subst (λ (x : Moment World). IsReached carriers w x.world) (sym t.3) last
  tail_reached (suc n) c m e w t r =
      let this = burst_reached t.3.0 c m t.0 w t.3.1 r in
      let next = follows_reached c t.1 t.0.idle t.0.after.world t.0.after.ahead t.2 w t.4 this in
      tail_reached n t.1 t.2 e w t.5 next

  pub run_reached : (script : Script) (w : World) (e : Moment World) → IsRun carriers script w e →
      IsReached carriers w e.world
  run_reached script w e r =
      let m = items_at carriers script.turns (moment w script.at_lines) in
      let items = items_reached script.turns (moment w script.at_lines) w ([], refl) in
      let parked = parks_reached carriers.count m w items in
      tail_reached r.0 0 (tail_begins carriers w script.at_lines script.turns) e w r.1 parked
