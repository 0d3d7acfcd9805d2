-- A burst ends, is one, and leaves a good world. c is the carrier, m the moment, b and d bursts.
use Rattle.std.proofs.Common.{◌≡◌, ℕ, ◌+◌, ◌≤◌, true, false, refl, sym, ◌∙◌, subst, arith, List, [], inl, inr, zero, suc}
use Rattle.std.proofs.lemmas.Bool.{cases_Bool, true≢false}
use Rattle.k_script.specs.declared.lines.AtLine.{AtLine}
use Rattle.k_schedule.specs.Bursts.{IsBursting, IsLeft}
use Rattle.k_schedule.specs.Carriers.{AllSettled, Carriers, Facts, OthersSettled, ScheduleLaws}
use Rattle.k_schedule.specs.Schedule.{Burst, BurstOf, IsBurst, Moment, burst, due, idle_at, settled_at, step_at}
use Rattle.k_schedule.proofs.Effort.{effort}
use Rattle.k_schedule.proofs.Events.{due_good, step_alone, step_falls, step_fresh, step_good, step_hand, step_idle}
use Rattle.k_schedule.proofs.Events.{step_others, step_settled, step_shorter}

module _ {World : Type 0} (carriers : Carriers World) where
  pub burst_one : (n o c : ℕ) (m : Moment World) (b d : Burst World) → BurstOf carriers n c m b → BurstOf carriers o c m d →
      b ≡ d
  burst_one zero zero c m b d r q = r.1 ∙ sym q.1
  burst_one zero (suc o) c m b d r q = absurd (true≢false (sym r.0 ∙ q.0))
  burst_one (suc n) zero c m b d r q = absurd (true≢false (sym q.0 ∙ r.0))
  burst_one (suc n) (suc o) c m b d r q = burst_one n o c (step_at carriers c m) b d r.1 q.1

module _ {World : Type 0} (carriers : Carriers World) (facts : Facts World) (laws : ScheduleLaws World carriers facts) where
  pub bursting_step : (c : ℕ) (m : Moment World) → IsBursting carriers facts c m →
      IsBursting carriers facts c (step_at carriers c m)
  bursting_step c m p = record {
    inside = p.inside;
    good = step_good carriers facts laws c m p.inside p.good;
    alone = step_alone carriers facts laws c m p.alone;
  }

  -- THE BURST ENDS

  falls_here : (c : ℕ) (m : Moment World) → IsBursting carriers facts c m →
      settled_at carriers c (step_at carriers c m) ≡ false →
      effort carriers facts c (step_at carriers c m) + 1 ≤ effort carriers facts c m
  falls_here c m p s = step_falls carriers facts laws c m p.inside p.good p.alone s

  last_burst : (c : ℕ) (m : Moment World) → settled_at carriers c (step_at carriers c m) ≡ true →
      (b : Burst World) × IsBurst carriers c m b
  last_burst c m s = (burst (idle_at carriers c m) (step_at carriers c m), (zero, (s, refl)))

  pub burst_ends : (most c : ℕ) (m : Moment World) → IsBursting carriers facts c m → effort carriers facts c m ≤ most →
      (b : Burst World) × IsBurst carriers c m b
  burst_ends zero c m p less =
      elim (cases_Bool (settled_at carriers c (step_at carriers c m))) [
        | inl s ↦ last_burst c m s
        | inr s ↦ absurd (omega (arith, less, falls_here c m p s))
      ]
  burst_ends (suc most) c m p less =
      elim (cases_Bool (settled_at carriers c (step_at carriers c m))) [
        | inl s ↦ last_burst c m s
        | inr s ↦
            let next = step_at carriers c m in
            let r = burst_ends most c next (bursting_step c m p) (omega (arith, less, falls_here c m p s)) in
            (r.0, (suc r.1.0, (s, r.1.1)))
      ]

  -- WHAT IT LEAVES

  pub record After (c : ℕ) (m : Moment World) (b : Burst World) : Type 0 where
    pub left : IsLeft carriers facts c m b.after
    -- Where all others are settled and it is fresh, it ends with Idle.
    pub quiet : OthersSettled carriers m.world c → facts.IsFresh m.world c → b.idle ≡ true
    -- of the burst's last step
    pub ended : b.after.ahead ≡ [] → b.idle ≡ true → AllSettled carriers b.after.world → facts.IsFinished b.after.world

  left_last : (c : ℕ) (m : Moment World) → IsBursting carriers facts c m →
      settled_at carriers c (step_at carriers c m) ≡ true → IsLeft carriers facts c m (step_at carriers c m)
  left_last c m p s = record {
    good = step_good carriers facts laws c m p.inside p.good;
    settled = s;
    others = λ i ne. step_settled carriers facts laws c i m ne;
    hands = λ i ne. step_hand carriers facts laws c i m ne;
    shorter = step_shorter carriers facts laws c m;
  }

  left_earlier : (c : ℕ) (m after : Moment World) → IsLeft carriers facts c (step_at carriers c m) after →
      IsLeft carriers facts c m after
  left_earlier c m after a = record {
    good = a.good;
    settled = a.settled;
    others = λ i ne. a.others i ne ∙ step_settled carriers facts laws c i m ne;
    hands = λ i ne. a.hands i ne ∙ step_hand carriers facts laws c i m ne;
    shorter = omega (arith, a.shorter, step_shorter carriers facts laws c m);
  }

  last_step : (c : ℕ) (m : Moment World) → IsBursting carriers facts c m →
      settled_at carriers c (step_at carriers c m) ≡ true → After c m (burst (idle_at carriers c m) (step_at carriers c m))
  last_step c m p s = record {
    left = left_last c m p s;
    quiet = λ o f. step_idle carriers facts laws c m p.inside p.good o f s;
    ended = λ none idle all.
        let w = (due carriers c m).world in
        let good = due_good carriers facts laws c m p.inside p.good in
        laws.finished w c p.inside (subst (λ (ls : List AtLine). facts.IsGood w ls) none good) idle all;
  }

  earlier : (c : ℕ) (m : Moment World) (b : Burst World) → IsBursting carriers facts c m → After c (step_at carriers c m) b →
      After c m b
  earlier c m b p a = record {
    left = left_earlier c m b.after a.left;
    quiet = λ o f.
        let fresh = step_fresh carriers facts laws c m p.inside p.good p.alone o f in
        a.quiet (step_others carriers facts laws c m o) fresh;
    ended = a.ended;
  }

  pub burst_after : (n c : ℕ) (m : Moment World) (b : Burst World) → IsBursting carriers facts c m →
      BurstOf carriers n c m b → After c m b
  burst_after zero c m b p r = subst (After c m) (sym r.1) (last_step c m p r.0)
  burst_after (suc n) c m b p r = earlier c m b p (burst_after n c (step_at carriers c m) b (bursting_step c m p) r.1)
