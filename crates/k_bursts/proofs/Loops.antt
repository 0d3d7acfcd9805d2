-- What the loops over bursts need of the schedule. c and d are carriers, m and o moments.
use Rattle.std.proofs.Common.{◌≡◌, ℕ, ◌<◌, true, false, refl, sym, ap, ◌∙◌, subst, arith, inl, inr, zero, suc, Some, None, Result, Ok, Err}
use Rattle.std.specs.Prelude.{IfOk}
use Rattle.std.proofs.lemmas.Bool.{cases_Bool, true≢false}
use Rattle.k_script.specs.Limits.{IsScript}
use Rattle.k_script.specs.Script.{Script}
use Rattle.k_schedule.specs.Bursts.{IsBetween, IsBursting, rounds}
use Rattle.k_schedule.specs.Carriers.{Carriers, Facts, ScheduleLaws}
use Rattle.k_schedule.specs.Schedule.{Burst, IsBurst, IsRun, IsTail, Moment, all_settled, burst, follows, idle_at, items_at}
use Rattle.k_schedule.specs.Schedule.{parks, settled_at, step_at, tail_begins}
use Rattle.k_schedule.proofs.Effort.{effort}
use Rattle.k_schedule.proofs.Events.{step_falls}
use Rattle.k_schedule.proofs.Bursts.{bursting_step}
use Rattle.k_schedule.proofs.Tails.{all_tells, tail_step}
use Rattle.k_schedule.proofs.Runs.{run_finishes}
use Rattle.k_bursts.specs.Playing.{IsPlayed, moment_at}

module _ {World : Type 0} (carriers : Carriers World) where
  pub all_false : (n c : ℕ) (w : World) → c < n → carriers.settled w c ≡ false → all_settled carriers n w ≡ false
  all_false n c w l s = elim (cases_Bool (all_settled carriers n w)) [
    | inl e ↦ absurd (true≢false (sym (all_tells carriers n w e c l) ∙ s))
    | inr e ↦ e
  ]

  pub burst_stops : (c : ℕ) (m o : Moment World) (idle : _) → o ≡ step_at carriers c m → idle ≡ idle_at carriers c m →
      carriers.settled o.world c ≡ true → IsBurst carriers c m (burst idle o)
  burst_stops c m o idle e i s =
      let at : settled_at carriers c (step_at carriers c m) ≡ true =
      subst (λ (x : Moment World). carriers.settled x.world c ≡ true) e s in
      (zero, (at, cc))

  pub tail_stops : (c : ℕ) (m : Moment World) (b : Burst World) (o : Moment World) → IsBurst carriers c m b →
      follows carriers c b ≡ None → o ≡ b.after → IsTail carriers c m o
  tail_stops c m b o r f e = (zero, (b, r, f, e))

module _ {World : Type 0} (carriers : Carriers World) (facts : Facts World) (laws : ScheduleLaws World carriers facts) where
  -- a step of a burst that goes on
  pub record BurstOn (c : ℕ) (m o : Moment World) : Type 0 where
    pub bursting : IsBursting carriers facts c o
    pub less : effort carriers facts c o < effort carriers facts c m
    pub back : (b : Burst World) → IsBurst carriers c o b → IsBurst carriers c m b

  pub burst_on : (c : ℕ) (m o : Moment World) → IsBursting carriers facts c m → o ≡ step_at carriers c m →
      carriers.settled o.world c ≡ false → BurstOn c m o
  burst_on c m o p e s =
      let off : settled_at carriers c (step_at carriers c m) ≡ false =
      subst (λ (x : Moment World). carriers.settled x.world c ≡ false) e s in
      let fall = step_falls carriers facts laws c m p.inside p.good p.alone off in
      subst (BurstOn c m) (sym e) (record {
        bursting = bursting_step carriers facts laws c m p;
        less = omega (arith, fall);
        back = λ b r. (suc r.0, (off, r.1));
      })

  -- a burst of the tail that isn't the last
  pub record TailOn (c : ℕ) (m : Moment World) (d : ℕ) (o : Moment World) : Type 0 where
    pub between : IsBetween carriers facts d o
    pub less : rounds carriers d o < rounds carriers c m
    pub back : (e : Moment World) → IsTail carriers d o e → IsTail carriers c m e

  pub tail_on : (c d : ℕ) (m o : Moment World) (b : Burst World) → IsBetween carriers facts c m → IsBurst carriers c m b →
      follows carriers c b ≡ Some (d, o) → TailOn c m d o
  tail_on c d m o b s r f =
      let t = tail_step carriers facts laws c m b d o s r f in
      record { between = t.between; less = omega (arith, t.fewer); back = λ e x. (suc x.0, (b, d, o, r, f, x.1)) }

  -- the run that the last burst ends
  pub played_of : {T E : Type 0} (script : Script) (w after : World) (m : Moment World) (next : ℕ) (r : Result T E) →
      IsScript script → script.carriers ≡ carriers.count → facts.IsGood w script.at_lines →
      m ≡ tail_begins carriers w script.at_lines script.turns →
      IfOk r (λ x. IsTail carriers 0 m (moment_at script after next)) → IfOk r (λ x. IsPlayed carriers facts script w after)
  played_of script w after m next (Ok x) s same good at t =
      let end = moment_at script after next in
      let run : IsRun carriers script w end = subst (λ (o : Moment World). IsTail carriers 0 o end) at t in
      record {
        end = end;
        run = run;
        shown = refl;
        ended = run_finishes carriers facts laws script w end s same good run;
      }
  played_of script w after m next (Err e) s same good at t = tt

-- WHERE THE TAIL BEGINS: after the turns, and after each carrier has put down its hand
pub tail_at : {World : Type 0} (carriers : Carriers World) (script : Script) (w : World) (m o : Moment World) →
    script.carriers ≡ carriers.count → m ≡ items_at carriers script.turns (moment_at script w 0) →
    o ≡ parks carriers script.carriers m → o ≡ tail_begins carriers w script.at_lines script.turns
tail_at carriers script w m o same turns parked =
    parked ∙ ap (parks carriers script.carriers) turns
    ∙ ap (λ (n : ℕ). parks carriers n (items_at carriers script.turns (moment_at script w 0))) same
