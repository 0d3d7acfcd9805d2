-- The tail ends, and where. c and d are carriers, m and o moments, b a burst.
use Rattle.std.proofs.Common.{◌≡◌, ◌≢◌, ℕ, ◌+◌, ◌-◌, ◌<◌, ◌≤◌, ◌==◌, Bool, true, false, refl, sym, ap, ◌∙◌, subst}
use Rattle.std.proofs.Common.{arith, length, List, [], ◌∷◌, inl, inr, zero, suc, Option, Some, None, if◌then◌else◌}
use Rattle.std.specs.Prelude.{◌&&◌}
use Rattle.std.proofs.lemmas.Bool.{cases_Bool, cases_eq, true≢false}
use Rattle.std.proofs.lemmas.Bool.Decides.{nat_tests}
use Rattle.std.proofs.lemmas.Option.{none-some, same_Some}
use Rattle.std.proofs.Math.Nat.{mul-le-mul_right}
use Rattle.k_script.specs.declared.lines.AtLine.{AtLine}
use Rattle.k_schedule.specs.Bursts.{IsBetween, IsBursting, IsEnd, IsLeft, rounds, unswept}
use Rattle.k_schedule.specs.Carriers.{AllSettled, Carriers, Facts, ScheduleLaws, happens}
use Rattle.k_schedule.specs.Schedule.{Burst, IsBurst, IsTail, Moment, TailOf, all_settled, burst, follows, least}
use Rattle.k_schedule.specs.Schedule.{moment, next_carrier}
use Rattle.k_schedule.proofs.Events.{at_once_keeps, at_once_shorter, less_than_a_line}
use Rattle.k_schedule.proofs.Effort.{effort}
use Rattle.k_schedule.proofs.Bursts.{After, burst_after, burst_ends}

pub and_true : (a b : Bool) → a ≡ true → b ≡ true → (a && b) ≡ true
and_true true true p q = refl
and_true true false p q = q
and_true false b p q = absurd (true≢false (sym p))

pub and_first : (a b : Bool) → (a && b) ≡ true → a ≡ true
and_first true b p = refl
and_first false b p = p

pub and_second : (a b : Bool) → (a && b) ≡ true → b ≡ true
and_second true b p = p
and_second false b p = absurd (true≢false (sym p))

module _ {World : Type 0} (carriers : Carriers World) where
  pub all_tells : (n : ℕ) (w : World) → all_settled carriers n w ≡ true → (i : ℕ) → i < n → carriers.settled w i ≡ true
  all_tells zero w t i l = absurd (omega (arith, l))
  all_tells (suc n) w t i l = elim (cases_eq i n) [
    | inl e ↦
        let here = and_second (all_settled carriers n w) (carriers.settled w n) t in
        subst (λ (j : ℕ). carriers.settled w j ≡ true) (sym e) here
    | inr ne ↦ all_tells n w (and_first (all_settled carriers n w) (carriers.settled w n) t) i (omega (arith, l, ne))
  ]

  pub tells_all : (n : ℕ) (w : World) → ((i : ℕ) → i < n → carriers.settled w i ≡ true) → all_settled carriers n w ≡ true
  tells_all zero w h = refl
  tells_all (suc n) w h =
      let below = tells_all n w (λ i l. h i (omega (arith, l))) in
      and_true (all_settled carriers n w) (carriers.settled w n) below (h n (omega arith))

  -- what follows a burst that was answered Idle where no line is left
  unfoldable pub at_idle : ℕ → World → Bool → Option (ℕ × Moment World)
  at_idle c w all = if all then None else Some (next_carrier carriers c, moment w [])

  pub unswept_all : (c : ℕ) (w : World) → all_settled carriers carriers.count w ≡ true → unswept carriers c w ≡ 0
  unfolding unswept
  unswept_all c w h = rw h refl

  pub unswept_some : (c : ℕ) (w : World) → all_settled carriers carriers.count w ≡ false →
      unswept carriers c w ≡ carriers.count - c
  unfolding unswept
  unswept_some c w h = rw h refl

  pub unswept_most : (c : ℕ) (w : World) → unswept carriers c w ≤ carriers.count - c
  unswept_most c w = elim (cases_Bool (all_settled carriers carriers.count w)) [
    | inl h ↦ omega (arith, unswept_all c w h)
    | inr h ↦ omega (arith, unswept_some c w h)
  ]

module _ {World : Type 0} (carriers : Carriers World) (facts : Facts World) (laws : ScheduleLaws World carriers facts) where
  pub between_bursting : (c : ℕ) (m : Moment World) → IsBetween carriers facts c m → IsBursting carriers facts c m
  between_bursting c m s = record { inside = s.inside; good = s.good; alone = λ i l ne. s.hands i l }

  -- WHAT A BURST LEAVES BETWEEN TWO BURSTS

  swept_here : (c : ℕ) (m after : Moment World) → IsBetween carriers facts c m → IsLeft carriers facts c m after → (i : ℕ) →
      i < c + 1 → carriers.settled after.world i ≡ true
  swept_here c m after s a i l = elim (cases_eq i c) [
    | inl e ↦ subst (λ (j : ℕ). carriers.settled after.world j ≡ true) (sym e) a.settled
    | inr ne ↦ a.others i ne ∙ s.below i (omega (arith, l, ne))
  ]

  no_hands : (c : ℕ) (m after : Moment World) → IsBetween carriers facts c m → IsLeft carriers facts c m after → (i : ℕ) →
      i < carriers.count → carriers.has_hand after.world i ≡ false
  no_hands c m after s a i l = elim (cases_eq i c) [
    | inl e ↦
        let here = laws.rests after.world after.ahead c s.inside a.good a.settled in
        subst (λ (j : ℕ). carriers.has_hand after.world j ≡ false) (sym e) here
    | inr ne ↦ a.hands i ne ∙ s.hands i l
  ]

  all_after : (c : ℕ) (m after : Moment World) → IsLeft carriers facts c m after → AllSettled carriers m.world →
      AllSettled carriers after.world
  all_after c m after a all i l = elim (cases_eq i c) [
    | inl e ↦ subst (λ (j : ℕ). carriers.settled after.world j ≡ true) (sym e) a.settled
    | inr ne ↦ a.others i ne ∙ all i l
  ]

  -- THE BURSTS GO ON IN TURN

  round_ends : (c : ℕ) (m after : Moment World) → IsBetween carriers facts c m → IsLeft carriers facts c m after →
      c + 1 ≡ carriers.count → unswept carriers c m.world ≡ carriers.count - c →
      IsBetween carriers facts 0 after × (rounds carriers 0 after + 1 ≤ rounds carriers c m)
  unfolding rounds
  round_ends c m after s a end old =
      let lines = mul-le-mul_right (carriers.count + 1) a.shorter in
      let all = tells_all carriers carriers.count after.world (λ i l. swept_here c m after s a i (omega (arith, l, end))) in
      let none = unswept_all carriers 0 after.world all in (
        record {
          inside = omega (arith, s.inside);
          good = a.good;
          hands = no_hands c m after s a;
          below = λ i l. absurd (omega (arith, l));
        },
        omega (arith, lines, old, none, s.inside),
      )

  round_goes_on : (c : ℕ) (m after : Moment World) → IsBetween carriers facts c m → IsLeft carriers facts c m after →
      c + 1 < carriers.count → unswept carriers c m.world ≡ carriers.count - c →
      IsBetween carriers facts (c + 1) after × (rounds carriers (c + 1) after + 1 ≤ rounds carriers c m)
  unfolding rounds
  round_goes_on c m after s a more old =
      let lines = mul-le-mul_right (carriers.count + 1) a.shorter in
      let most = unswept_most carriers (c + 1) after.world in (
        record { inside = more; good = a.good; hands = no_hands c m after s a; below = swept_here c m after s a },
        omega (arith, lines, old, most, more),
      )

  in_turn : (c : ℕ) (m after : Moment World) → IsBetween carriers facts c m → IsLeft carriers facts c m after →
      (AllSettled carriers m.world → ⊥) →
      IsBetween carriers facts (next_carrier carriers c) after
      × (rounds carriers (next_carrier carriers c) after + 1 ≤ rounds carriers c m)
  in_turn c m after s a not =
      let old : unswept carriers c m.world ≡ carriers.count - c =
      elim (cases_Bool (all_settled carriers carriers.count m.world)) [
        | inl h ↦ absurd (not (λ i l. all_tells carriers carriers.count m.world h i l))
        | inr h ↦ unswept_some carriers c m.world h
      ] in
      elim (cases_Bool (c + 1 == carriers.count)) [
        | inl e ↦
            let end : c + 1 ≡ carriers.count = grind (arith, nat_tests) in
            rw e (round_ends c m after s a end old)
        | inr e ↦
            let ne : c + 1 ≢ carriers.count = grind (arith, nat_tests) in
            rw e (round_goes_on c m after s a (omega (arith, ne, s.inside)) old)
      ]

  -- THE LINES OF THE LEAST STEP HAPPEN, and the carrier's next burst follows at once

  least_shorter : (c : ℕ) (w : World) (l : AtLine) (ls : List AtLine) →
      length (least carriers c w (l ∷ ls)).ahead + 1 ≤ length (l ∷ ls)
  least_shorter c w l ls =
      let self : (l.step == l.step) ≡ true = grind (arith, nat_tests) in
      rw self (omega (arith, at_once_shorter carriers c l.step (happens carriers w c l.what) ls))

  least_between : (c : ℕ) (m : Moment World) (w : World) (l : AtLine) (ls : List AtLine) → IsBetween carriers facts c m →
      IsLeft carriers facts c m (moment w (l ∷ ls)) → IsBetween carriers facts c (least carriers c w (l ∷ ls))
  least_between c m w l ls s a = record {
    inside = s.inside;
    good = at_once_keeps carriers c l.step facts.IsGood (λ v x xs p. laws.good_event v x xs c s.inside p) w (l ∷ ls) a.good;
    hands = λ i h.
        at_once_keeps carriers c l.step (λ v xs. carriers.has_hand v i ≡ false)
        (λ v x xs p. laws.hand_event v x.what c i ∙ p) w (l ∷ ls) (no_hands c m (moment w (l ∷ ls)) s a i h);
    below = λ i h.
        let ne : i ≢ c = omega (arith, h) in
        at_once_keeps carriers c l.step (λ v xs. carriers.settled v i ≡ true)
        (λ v x xs p. laws.settled_event v x.what c i ne ∙ p) w (l ∷ ls) (a.others i ne ∙ s.below i h);
  }

  least_fewer : (c : ℕ) (m : Moment World) (w : World) (l : AtLine) (ls : List AtLine) →
      IsLeft carriers facts c m (moment w (l ∷ ls)) →
      rounds carriers c (least carriers c w (l ∷ ls)) + 1 ≤ rounds carriers c m
  unfolding rounds
  least_fewer c m w l ls a =
      let new = least carriers c w (l ∷ ls) in
      let fewer : length new.ahead + 1 ≤ length m.ahead = omega (arith, least_shorter c w l ls, a.shorter) in
      let most : unswept carriers c new.world ≤ carriers.count = omega (arith, unswept_most carriers c new.world) in
      less_than_a_line (length new.ahead) (length m.ahead) carriers.count (unswept carriers c new.world)
      (unswept carriers c m.world) fewer most

  -- WHAT FOLLOWS A BURST: the next one, with less to come

  pub record Onward (c : ℕ) (m : Moment World) (d : ℕ) (o : Moment World) : Type 0 where
    pub between : IsBetween carriers facts d o
    pub fewer : rounds carriers d o + 1 ≤ rounds carriers c m

  onward_to : (c : ℕ) (m : Moment World) (d x : ℕ) (o y : Moment World) →
      ◌≡◌ {A = Option (ℕ × Moment World)} (Some (x, y)) (Some (d, o)) → IsBetween carriers facts x y →
      rounds carriers x y + 1 ≤ rounds carriers c m → Onward c m d o
  onward_to c m d x o y is s f =
      let from : ℕ × Moment World = (x, y) in
      let to : ℕ × Moment World = (d, o) in
      let same : from ≡ to = same_Some from to is in
      subst (λ (p : ℕ × Moment World). Onward c m p.0 p.1) same (record { between = s; fewer = f })

  not_settled_before : (c : ℕ) (m : Moment World) (b : Burst World) → IsBetween carriers facts c m →
      After carriers facts laws c m b → b.idle ≡ false → AllSettled carriers m.world → ⊥
  not_settled_before c m b s a i all =
      let fresh = laws.fresh m.world m.ahead c s.inside s.good (all c s.inside) in
      true≢false (sym (a.quiet (λ j l ne. all j l) fresh) ∙ i)

  step_of : (c : ℕ) (m : Moment World) (d : ℕ) (o : Moment World) (idle : Bool) (w : World) (ls : List AtLine) →
      IsBetween carriers facts c m → After carriers facts laws c m (burst idle (moment w ls)) →
      follows carriers c (burst idle (moment w ls)) ≡ Some (d, o) → Onward c m d o
  unfolding at_idle
  step_of c m d o false w ls s a f =
      let r = in_turn c m (moment w ls) s a.left (not_settled_before c m (burst false (moment w ls)) s a refl) in
      onward_to c m d (next_carrier carriers c) o (moment w ls) f r.0 r.1
  step_of c m d o true w [] s a f = elim (cases_Bool (all_settled carriers carriers.count w)) [
    | inl e ↦ absurd (none-some (d, o) (sym (ap (at_idle carriers c w) e) ∙ f))
    | inr e ↦
        let not = λ (all : AllSettled carriers m.world).
        let settled = tells_all carriers carriers.count w (all_after c m (moment w []) a.left all) in
        true≢false (sym settled ∙ e) in
        let r = in_turn c m (moment w []) s a.left not in
        onward_to c m d (next_carrier carriers c) o (moment w []) (sym (ap (at_idle carriers c w) e) ∙ f) r.0 r.1
  ]
  step_of c m d o true w (l ∷ ls) s a f =
      onward_to c m d c o (least carriers c w (l ∷ ls)) f (least_between c m w l ls s a.left) (least_fewer c m w l ls a.left)

  pub tail_step : (c : ℕ) (m : Moment World) (b : Burst World) (d : ℕ) (o : Moment World) → IsBetween carriers facts c m →
      IsBurst carriers c m b → follows carriers c b ≡ Some (d, o) → Onward c m d o
  tail_step c m b d o s r f =
      let a = burst_after carriers facts laws r.0 c m b (between_bursting c m s) r.1 in
      step_of c m d o b.idle b.after.world b.after.ahead s a f

  -- WHERE THE RUN ENDS

  end_of : (c : ℕ) (m : Moment World) (idle : Bool) (w : World) (ls : List AtLine) →
      After carriers facts laws c m (burst idle (moment w ls)) → follows carriers c (burst idle (moment w ls)) ≡ None →
      IsEnd carriers facts (moment w ls)
  unfolding at_idle
  end_of c m false w ls a f = absurd (none-some (next_carrier carriers c, moment w ls) (sym f))
  end_of c m true w [] a f = elim (cases_Bool (all_settled carriers carriers.count w)) [
    | inl e ↦
        let all : AllSettled carriers w = λ i l. all_tells carriers carriers.count w e i l in
        record { good = a.left.good; none = refl; settled = all; finished = a.ended refl refl all }
    | inr e ↦ absurd (none-some (next_carrier carriers c, moment w []) (sym f ∙ ap (at_idle carriers c w) e))
  ]
  end_of c m true w (l ∷ ls) a f = absurd (none-some (c, least carriers c w (l ∷ ls)) (sym f))

  pub tail_end : (c : ℕ) (m : Moment World) (b : Burst World) → IsBetween carriers facts c m → IsBurst carriers c m b →
      follows carriers c b ≡ None → IsEnd carriers facts b.after
  tail_end c m b s r f =
      let a = burst_after carriers facts laws r.0 c m b (between_bursting c m s) r.1 in
      end_of c m b.idle b.after.world b.after.ahead a f

  tail_on : (c : ℕ) (m : Moment World) (b : Burst World) (next : Option (ℕ × Moment World)) → IsBetween carriers facts c m →
      IsBurst carriers c m b → follows carriers c b ≡ next →
      ((d : ℕ) (o : Moment World) → IsBetween carriers facts d o → rounds carriers d o + 1 ≤ rounds carriers c m →
      (end : Moment World) × IsTail carriers d o end) → (end : Moment World) × IsTail carriers c m end
  tail_on c m b None s r f more = (b.after, (zero, (b, r, f, refl)))
  tail_on c m b (Some p) s r f more =
      let t = tail_step c m b p.0 p.1 s r f in
      let rest = more p.0 p.1 t.between t.fewer in
      (rest.0, (suc rest.1.0, (b, p.0, p.1, r, f, rest.1.1)))

  burst_from : (c : ℕ) (m : Moment World) → IsBetween carriers facts c m → (b : Burst World) × IsBurst carriers c m b
  burst_from c m s = burst_ends carriers facts laws (effort carriers facts c m) c m (between_bursting c m s) (omega arith)

  -- THE TAIL ENDS

  pub tail_ends : (most c : ℕ) (m : Moment World) → IsBetween carriers facts c m → rounds carriers c m ≤ most →
      (end : Moment World) × IsTail carriers c m end
  tail_ends zero c m s less =
      let r = burst_from c m s in
      tail_on c m r.0 (follows carriers c r.0) s r.1 refl (λ d o z f. absurd (omega (arith, f, less)))
  tail_ends (suc most) c m s less =
      let r = burst_from c m s in
      tail_on c m r.0 (follows carriers c r.0) s r.1 refl (λ d o z f. tail_ends most d o z (omega (arith, f, less)))

  pub tail_after : (n c : ℕ) (m end : Moment World) → IsBetween carriers facts c m → TailOf carriers n c m end →
      IsEnd carriers facts end
  tail_after zero c m end s t = subst (IsEnd carriers facts) (sym t.3) (tail_end c m t.0 s t.1 t.2)
  tail_after (suc n) c m end s t = tail_after n t.1 t.2 end (tail_step c m t.0 t.1 t.2 s t.3 t.4).between t.5
