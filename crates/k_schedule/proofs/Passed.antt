-- No event is passed. c is the carrier, m the moment, w a world, s a step, l a line and ls lines.
use Rattle.std.proofs.Common.{◌≡◌, ◌≢◌, ℕ, ◌+◌, ◌<◌, ◌≤◌, ◌==◌, Bool, true, false, refl, sym, ap, ◌∙◌, subst, arith}
use Rattle.std.proofs.Common.{List, [], ◌∷◌, inl, inr, zero, suc, Option, Some}
use Rattle.std.specs.List.{AllByRecursion}
use Rattle.std.proofs.lemmas.Bool.{cases_Bool}
use Rattle.std.proofs.lemmas.Bool.Decides.{nat_tests}
use Rattle.std.proofs.lemmas.Option.{none-some, same_Some}
use Rattle.k_script.specs.declared.lines.AtLine.{AtLine}
use Rattle.k_script.specs.declared.lines.Item.{Item}
use Rattle.k_script.specs.declared.lines.Item.TheVariants as item
use Rattle.k_script.specs.Limits.{IsRising}
use Rattle.k_script.specs.Script.{Script}
use Rattle.k_schedule.specs.Carriers.{Carriers, happens}
use Rattle.k_schedule.specs.Events.{Counts, IsAhead}
use Rattle.k_schedule.specs.Schedule.{Burst, BurstOf, IsBurst, Moment, all_settled, at_once, burst, due, follows}
use Rattle.k_schedule.specs.Schedule.{items_at, least, moment, next_carrier, park_at, parks, step_at, tail_begins}
use Rattle.k_schedule.specs.Schedule.{times}
use Rattle.k_schedule.proofs.Events.{at_once_keeps}
use Rattle.k_schedule.proofs.Tails.{at_idle}

-- LINES IN THE ORDER OF THEIR STEPS

Later : ℕ → List AtLine → Type 0
Later s ls = AllByRecursion (λ line. s < line.step) ls

Onward : ℕ → List AtLine → Type 0
Onward s ls = AllByRecursion (λ line. s ≤ line.step) ls

rising_rest : (l : AtLine) (ls : List AtLine) → IsRising (l ∷ ls) → IsRising ls
rising_rest l [] r = tt
rising_rest l (k ∷ ks) r = r.1

later_rest : (s : ℕ) (l : AtLine) (ls : List AtLine) → IsRising (l ∷ ls) → s < l.step → Later s ls
unfolding Later
later_rest s l [] r h = tt
later_rest s l (k ∷ ks) r h =
    let less : s < k.step = omega (arith, r.0, h) in
    (less, later_rest s k ks r.1 less)

onward_later : (s t : ℕ) (ls : List AtLine) → t ≤ s + 1 → Later s ls → Onward t ls
unfolding Later Onward
onward_later s t [] h a = tt
onward_later s t (l ∷ ls) h a = (omega (arith, h, a.0), onward_later s t ls h a.1)

module _ {World : Type 0} (carriers : Carriers World) where
  at_once_later : (c s : ℕ) (w : World) (ls : List AtLine) → IsRising ls → Onward s ls →
      IsRising (at_once carriers c s w ls).ahead × Later s (at_once carriers c s w ls).ahead
  unfolding Later Onward
  at_once_later c s w [] r a = (tt, tt)
  at_once_later c s w (l ∷ ls) r a =
      elim (cases_Bool (l.step == s)) [
        | inl e ↦ rw e (at_once_later c s (happens carriers w c l.what) ls (rising_rest l ls r) a.1)
        | inr e ↦
            let ne : l.step ≢ s = grind (arith, nat_tests) in
            let less : s < l.step = omega (arith, ne, a.0) in
            rw e (r, (less, later_rest s l ls r less))
      ]

  ahead_at : (w : World) (ls : List AtLine) → IsRising ls → Onward (carriers.made w) ls → IsAhead carriers (moment w ls)
  unfolding Onward
  ahead_at w ls r a = record { rising = r; to_come = a }

  Ahead : World → List AtLine → Type 0
  Ahead w ls = IsAhead carriers (moment w ls)

module _ {World : Type 0} (carriers : Carriers World) (counts : Counts carriers) where
  due_made : (c : ℕ) (m : Moment World) → carriers.made (due carriers c m).world ≡ carriers.made m.world
  due_made c m =
      at_once_keeps carriers c (carriers.made m.world) (λ w ls. carriers.made w ≡ carriers.made m.world)
      (λ w l ls p. counts.event w c l.what ∙ p) m.world m.ahead refl

  -- before a step
  pub due_later : (c : ℕ) (m : Moment World) → IsAhead carriers m →
      AllByRecursion (λ line. carriers.made m.world < line.step) (due carriers c m).ahead
  unfolding Later Onward
  due_later c m a = (at_once_later carriers c (carriers.made m.world) m.world m.ahead a.rising a.to_come).1

  pub step_ahead : (c : ℕ) (m : Moment World) → IsAhead carriers m → IsAhead carriers (step_at carriers c m)
  unfolding Later Onward
  step_ahead c m a =
      let d = due carriers c m in
      let r = at_once_later carriers c (carriers.made m.world) m.world m.ahead a.rising a.to_come in
      let after = carriers.made (carriers.step d.world c) in
      let most : after ≤ carriers.made m.world + 1 = omega (arith, counts.step d.world c, due_made c m) in
      ahead_at carriers (carriers.step d.world c) d.ahead r.0 (onward_later (carriers.made m.world) after d.ahead most r.1)

  park_ahead : (c : ℕ) (m : Moment World) → IsAhead carriers m → IsAhead carriers (park_at carriers c m)
  unfolding Onward
  park_ahead c m a = elim (cases_Bool (carriers.has_hand m.world c)) [
    | inl e ↦
        let w = carriers.park m.world c in
        let come = subst (λ (n : ℕ). Onward n m.ahead) (sym (counts.park m.world c)) a.to_come in
        rw e (step_ahead c (moment w m.ahead) (ahead_at carriers w m.ahead a.rising come))
    | inr e ↦ rw e a
  ]

  times_ahead : (c n : ℕ) (m : Moment World) → IsAhead carriers m → IsAhead carriers (times carriers c n m)
  times_ahead c zero m a = a
  times_ahead c (suc n) m a = step_ahead c (times carriers c n m) (times_ahead c n m a)

  items_ahead : (is : List Item) (m : Moment World) → IsAhead carriers m → IsAhead carriers (items_at carriers is m)
  items_ahead [] m a = a
  items_ahead (item.Steps c n ∷ is) m a = items_ahead is (times carriers c n m) (times_ahead c n m a)
  items_ahead (item.Park c ∷ is) m a = items_ahead is (park_at carriers c m) (park_ahead c m a)

  parks_ahead : (n : ℕ) (m : Moment World) → IsAhead carriers m → IsAhead carriers (parks carriers n m)
  parks_ahead zero m a = a
  parks_ahead (suc n) m a = park_ahead n (parks carriers n m) (parks_ahead n m a)

  pub turns_ahead : (script : Script) (w : World) → IsAhead carriers (moment w script.at_lines) →
      IsAhead carriers (tail_begins carriers w script.at_lines script.turns)
  turns_ahead script w a =
      let m = moment w script.at_lines in
      parks_ahead carriers.count (items_at carriers script.turns m) (items_ahead script.turns m a)

  bursts_ahead : (n c : ℕ) (m : Moment World) (b : Burst World) → IsAhead carriers m → BurstOf carriers n c m b →
      IsAhead carriers b.after
  bursts_ahead zero c m b a r = subst (λ (x : Burst World). IsAhead carriers x.after) (sym r.1) (step_ahead c m a)
  bursts_ahead (suc n) c m b a r = bursts_ahead n c (step_at carriers c m) b (step_ahead c m a) r.1

  pub burst_ahead : (c : ℕ) (m : Moment World) (b : Burst World) → IsAhead carriers m → IsBurst carriers c m b →
      IsAhead carriers b.after
  burst_ahead c m b a r = bursts_ahead r.0 c m b a r.1

  event_ahead : (c : ℕ) (w : World) (l : AtLine) (ls : List AtLine) → IsAhead carriers (moment w (l ∷ ls)) →
      IsAhead carriers (moment (happens carriers w c l.what) ls)
  unfolding Onward
  event_ahead c w l ls a =
      let come = subst (λ (n : ℕ). Onward n ls) (sym (counts.event w c l.what)) a.to_come.1 in
      ahead_at carriers (happens carriers w c l.what) ls (rising_rest l ls a.rising) come

  to_ahead : (d x : ℕ) (o y : Moment World) → IsAhead carriers y →
      ◌≡◌ {A = Option (ℕ × Moment World)} (Some (x, y)) (Some (d, o)) → IsAhead carriers o
  to_ahead d x o y a is =
      let from : ℕ × Moment World = (x, y) in
      let to : ℕ × Moment World = (d, o) in
      subst (λ (p : ℕ × Moment World). IsAhead carriers p.1) (same_Some from to is) a

  next_of : (c d : ℕ) (idle : Bool) (w : World) (ls : List AtLine) (o : Moment World) → IsAhead carriers (moment w ls) →
      follows carriers c (burst idle (moment w ls)) ≡ Some (d, o) → IsAhead carriers o
  unfolding at_idle Ahead
  next_of c d false w ls o a f = to_ahead d (next_carrier carriers c) o (moment w ls) a f
  next_of c d true w [] o a f = elim (cases_Bool (all_settled carriers carriers.count w)) [
    | inl e ↦ absurd (none-some {A = ℕ × Moment World} (d, o) (sym (ap (at_idle carriers c w) e) ∙ f))
    | inr e ↦ to_ahead d (next_carrier carriers c) o (moment w []) a (sym (ap (at_idle carriers c w) e) ∙ f)
  ]
  next_of c d true w (l ∷ ls) o a f =
      let kept = at_once_keeps carriers c l.step (Ahead carriers) (λ v x xs p. event_ahead c v x xs p) w (l ∷ ls) a in
      to_ahead d c o (least carriers c w (l ∷ ls)) kept f

  pub next_ahead : (c d : ℕ) (b : Burst World) (o : Moment World) → IsAhead carriers b.after →
      follows carriers c b ≡ Some (d, o) → IsAhead carriers o
  next_ahead c d b o a f = next_of c d b.idle b.after.world b.after.ahead o a f
