-- Pairs begin, and are kept.
use Rattle.std.proofs.Common.{◌≡◌, ℕ, ◌+◌, ◌<◌, Bool, true, false, refl, sym, ap}
use Rattle.std.proofs.Common.{◌∙◌, subst, Some, None, length, arith, ◌⊎◌, inl, inr}
use Rattle.std.specs.Prelude.{◌==◌, ◌&&◌, ◌||◌}
use Rattle.std.proofs.lemmas.Bool.{cases_lt}
use Rattle.std.proofs.lemmas.Bool.Decides.{nat_tests}
use Rattle.k_model.specs.Maps.{lowest}
use Rattle.k_locks.specs.Asks.{Response}
use Rattle.k_locks.specs.Shown.{is_dead}
use Rattle.k_locks.specs.declared.locks.Lock.{Lock}
use Rattle.k_caller.specs.declared.thread.ThreadLocation.TheVariants as location
use Rattle.k_switch.specs.declared.goal.Switched.{Switched}
use Rattle.k_switch.specs.declared.switch.SwitchCall.{SwitchCall}
use Rattle.k_switch.specs.Switches.{SwitchAt}
use Rattle.k_switch.specs.Switches as switch
use Rattle.k_board.specs.Words.{Programs}
use Rattle.k_board.specs.Boards.{Alone, At, Board, InSwitch, Resting, owner_of}
use Rattle.k_board.specs.Boots.{Booted}
use Rattle.k_board.specs.Steps.{Answers, placed, switch_board}
use Rattle.k_board.specs.Turns.{Turn, is_going, sends, receives, creates, destroys, goes_alone}
use Rattle.k_board.specs.Turns.{begins, turns_to_work, wakes, switches, begins_switch, ends_switch}
use Rattle.k_good.specs.Good.{NumbersAgree, QueuesTell}
use Rattle.k_good.specs.Ranges.{NamesFit, is_threads}
use Rattle.k_good.proofs.Goods.{good_keeps, good_start, supports}
use Rattle.k_good.proofs.RangesKeep.{within_keeps}
use Rattle.k_good.proofs.RangesStart.{within_starts}
use Rattle.k_tokens.specs.World.{ContextName, OfCarrier, OfThread, OwnContext, Stage, Threads, World, is_finished}
use Rattle.k_tokens.specs.World as stage
use Rattle.k_tokens.specs.Good as tokens
use Rattle.k_tokens.specs.Steps.{ThreadStep, GoesOn as Goes, after_step}
use Rattle.k_tokens.proofs.Sections.{thread_good}
use Rattle.k_switching.specs.Boot.{Opening, boot}
use Rattle.k_switching.specs.Claims.{Granted, IsAsked}
use Rattle.k_switching.specs.Rules.{begun_with, carrier_step, carrier_step_by, given, gives, hand_step, taken_asleep}
use Rattle.k_switching.specs.Switch.{switch_step}
use Rattle.k_switching.proofs.Booted.{boot_good}
use Rattle.k_switching.proofs.Rules.{is_run, step_good}
use Rattle.k_grants.specs.Granted.{Finding, IsFreeToRemove, IsGranted, IsWait, MayTurn, is_again}
use Rattle.k_grants.specs.Pushes.{PushesHold}
use Rattle.k_grants.specs.Views.{PrioritiesAre, sights_of, threads_of}
use Rattle.k_grants.proofs.Granted.{turn_granted}
use Rattle.k_pushes.proofs.Carried.{carriers_keep, pushes_start}
use Rattle.k_pushes.proofs.Kept.{pushes_stay}
use Rattle.k_stages.specs.Opening.{IsOpening}
use Rattle.k_stages.specs.Stages.{AreAlike, IsFrom, IsOwn, StagesAre}
use Rattle.k_stages.proofs.Opening as opening
use Rattle.k_stages.proofs.Others.{begins_alike, ends_alike, stage_alike, stages_stay, wakes_alike}
use Rattle.k_paired.specs.Pairs.{GoesOn, IsPair, IsStill}

size_stays : (g : Programs) (b : Board) (i : ℕ) (b' : Board) → Turn g b i b' → b'.size ≡ b.size
size_stays g b i _ (sends c p r at an) = refl
size_stays g b i _ (receives c p r at an) = refl
size_stays g b i _ (creates c p r at an) = refl
size_stays g b i _ (destroys c p r at an) = refl
size_stays g b i _ (goes_alone p r at can an) = refl
size_stays g b i _ (begins l f at e) = refl
size_stays g b i _ (turns_to_work l count at e) = refl
size_stays g b i _ (wakes at) = refl
size_stays g b i _ (switches c p r at going an) = refl
size_stays g b i _ (begins_switch c at) = refl
size_stays g b i _ (ends_switch c s at) = refl

-- AT THE START

pub pair_begins : (g : Programs) (b : Board) (o : Opening) → ((n : ℕ) → Booted g b n) → ((l : Lock) → owner_of b l ≡ None) →
    NumbersAgree b.seen b.numbers b.context → length b.numbers.versions ≡ b.size
    → NamesFit g b.size → ((t : ℕ) → o.priority t < 64) → IsOpening g b o → IsPair g b (boot o)
pair_begins g b o booted free numbers count names low h = record {
  good = good_start g b booted free numbers;
  within = within_starts g b booted count few;
  names = names;
  pushes = pushes_start g b booted;
  world = boot_good o low;
  alike = opening.begins_alike g b o h;
}
  where
    few : (n : ℕ) → is_dead (b.seen n).word ≡ false → n < b.size
    few n alive = elim (cases_lt n o.threads) [
      | inl l ↦ (let f = h.few in omega (arith, l, f))
      | inr l ↦ absurd (let z : true ≡ false = sym (ap is_dead (h.none n l)) ∙ alive in cc)
    ]

-- A TURN

module _ (g : Programs) (b : Board) (w : World) (h : IsPair g b w) where
  -- what of the board a turn keeps
  pair_by : (i : ℕ) (b' : Board) (v : World) → QueuesTell b i → Turn g b i b' → PushesHold b' → tokens.IsGood v → AreAlike b' v →
      IsPair g b' v
  pair_by i b' v q t p n l = record {
    good = good_keeps g b b' i h.good q t;
    within = within_keeps g b h.good.places h.within h.names i b' (supports g b i h.good q) t;
    names = subst (NamesFit g) (sym (size_stays g b i b' t)) h.names;
    pushes = p;
    world = n;
    alike = l;
  }

  module _ (c : ℕ) where
    no_thread : (step : ThreadStep) → ((t : ℕ) → (w.carrier c).hand ≡ Some (OfThread t) → ⊥) → Granted w c step
    no_thread step n t a = absurd (n t a.hand)

    carriers_pair : (step : ThreadStep) (i : ℕ) (b' : Board) (v : World) → carrier_step w c step ≡ v → c < w.carriers →
        ((t : ℕ) → (w.carrier c).hand ≡ Some (OfThread t) → ⊥) → QueuesTell b i → Turn g b i b'
        → ((b.context i).at ≡ Alone location.Asleep) ⊎ (is_threads (b.context i).at ≡ false) → AreAlike b' v →
        IsPair g b' (carrier_step w c step)
    carriers_pair step i b' v e low n q t k l =
        pair_by i b' (carrier_step w c step) q t (carriers_keep g b i b' h.pushes k t)
        (step_good w c step h.world low (no_thread step n)) (subst (AreAlike b') (sym e) l)

    pub thread_pair : (i : ℕ) (b' : Board) (f : Finding) → IsAsked w c (OfThread i) → QueuesTell b i → IsWait f.waits →
        IsFreeToRemove b w i b' → (t : Turn g b i b') → GoesOn g b w c i b' f t
    thread_pair i b' f asked q wait free t = record {
      step = s.step;
      kind = s.kind;
      grants = s.grants;
      pair = subst (λ (v : World). IsPair g b' v) (sym stepped)
          (pair_by i b' (after_step w c i s.step) q t (pushes_stay g b b' w c i m q free t)
          (thread_good w c i m.holder m.parts m.run s.step s.grants) record { agrees = s.agrees; stages = stays s.step });
    }
      where
        m : MayTurn g b w c i
        m = record {
          good = h.good;
          within = h.within;
          names = h.names;
          pushes = h.pushes;
          holder = h.world.0;
          parts = h.world.1;
          run = is_run w h.world.0 h.world.1 c i asked.hand asked.kept;
          agrees = h.alike.agrees;
        }

        s : IsGranted b' w c i f (is_again g b i b' t)
        s = turn_granted g b b' w c i f m wait free t

        stepped : carrier_step w c s.step ≡ after_step w c i s.step
        stepped = ap (carrier_step_by w c s.step) asked.hand ∙ ap (hand_step w c (OfThread i) s.step) asked.kept

        stays : (step : ThreadStep) → StagesAre b' (after_step w c i step)
        stays step d =
            subst (IsOwn (b'.context (b'.size + d)).at) (own_same step d) (stages_stay g b w c i m b' h.alike.stages t d)
          where
            own_same : (step : ThreadStep) (d : ℕ) → w.own d ≡ (after_step w c i step).own d
            own_same (Goes held) d = refl
            own_same step d = refl

    pub switch_pair : (d : ℕ) (step : ThreadStep) → c < w.carriers → IsAsked w c (OfCarrier d) →
        (s : SwitchCall) (p : SwitchAt) (r : Response) → (b.context (b.size + d)).at ≡ InSwitch s p → is_going p ≡ true
        → Answers b (switch.ask_of s p) r → QueuesTell b (b.size + d) →
        IsPair g (switch_board b (b.size + d) (b.context (b.size + d)) s p r) (carrier_step w c step)
    switch_pair d step low asked s p r at going an q =
        carriers_pair step (b.size + d) _ (switch_step w c d (w.own d).stage)
        (ap (carrier_step_by w c step) asked.hand ∙ ap (hand_step w c (OfCarrier d) step) asked.kept) low
        (λ t e. other t (sym asked.hand ∙ e)) q
        (switches s p r at going an) (inr (ap is_threads at)) (stage_alike b w h.alike c d h.world.0 h.world.1 s p r at going an)
      where
        other : (t : ℕ) → Some (OfCarrier d) ≡ Some (OfThread t) → ⊥
        other t e = cc

    nobody : (w.carrier c).hand ≡ None → (t : ℕ) → (w.carrier c).hand ≡ Some (OfThread t) → ⊥
    nobody n t e = by (sym n ∙ e)
      where
        by : None ≡ Some (OfThread t) → ⊥
        by z = cc

    pub begin_pair : (step : ThreadStep) (s : SwitchCall) → c < w.carriers → (w.carrier c).hand ≡ None →
        carrier_step w c step ≡ begun_with w c (lowest (w.carrier c).starts 64) → (b.context (b.size + c)).at ≡ Resting
        → IsFrom s (w.carrier c) (lowest (w.carrier c).starts 64) → QueuesTell b (b.size + c)
        → IsPair g (placed b (b.size + c) (record (b.context (b.size + c)) { at = InSwitch s switch.AcquireReady }))
        (carrier_step w c step)
    begin_pair step s low n e at f q =
        carriers_pair step (b.size + c) _ _ e low (nobody n) q (begins_switch s at) (inr (ap is_threads at))
        (begins_alike b w h.alike c s at f)

    pub wake_pair : (i : ℕ) (step : ThreadStep) → c < w.carriers → (w.carrier c).hand ≡ None →
        carrier_step w c step ≡ taken_asleep w c i → i < b.size → (b.context i).at ≡ Alone location.Asleep → QueuesTell b i
        → IsPair g (placed b i (record (b.context i) { at = Alone location.LookAgain })) (carrier_step w c step)
    wake_pair i step low n e inside at q =
        carriers_pair step i _ _ e low (nobody n) q (wakes at) (inl at) (wakes_alike b w h.alike c i inside at)

    pub end_pair : (step : ThreadStep) (s : SwitchCall) (o : Switched) → c < w.carriers →
        (w.carrier c).hand ≡ Some (OfCarrier c) → (b.context (b.size + c)).at ≡ InSwitch s (switch.Finished o) →
        QueuesTell b (b.size + c)
        → IsPair g (placed b (b.size + c) (record (b.context (b.size + c)) { at = Resting })) (carrier_step w c step)
    end_pair step s o low hand at q =
        carriers_pair step (b.size + c) _ (given w c (OfCarrier c)) stepped low (λ t e. other t (sym hand ∙ e)) q
        (ends_switch s o at) (inr (ap is_threads at)) (ends_alike b w h.alike c s o at)
      where
        other : (t : ℕ) → Some (OfCarrier c) ≡ Some (OfThread t) → ⊥
        other t e = cc

        finished : (w.own c).stage ≡ stage.Finished
        finished = (subst (λ (p : At). IsOwn p (w.own c)) at (h.alike.stages c)).0

        kept : gives w c (w.carrier c) (OfCarrier c) ≡ true
        kept = by (w.carrier c).putting (c == c) (is_finished (w.own c).stage) _ (same c) (ap is_finished finished)
          where
            by : (p m n x : Bool) → m ≡ true → n ≡ true → (p || ((m && n) || x)) ≡ true
            by p m n x y z = grind (arith, y, z)

            same : (n : ℕ) → (n == n) ≡ true
            same n = grind (arith, nat_tests)

        stepped : carrier_step w c step ≡ given w c (OfCarrier c)
        stepped = ap (carrier_step_by w c step) hand ∙ ap (hand_step w c (OfCarrier c) step) kept

  pub still_pair : (v : World) → tokens.IsGood v → IsStill w v → IsPair g b v
  still_pair v n k = record {
    good = h.good;
    within = h.within;
    names = h.names;
    pushes = h.pushes;
    world = n;
    alike = record {
      agrees = record {
        threads = k.threads ∙ h.alike.agrees.threads ∙ ap (λ (t : Threads). threads_of t.priority b) (sym k.threads);
        priorities = subst (λ (t : Threads). PrioritiesAre t.priority (sights_of b)) (sym k.threads) h.alike.agrees.priorities;
        ready = k.ready ∙ h.alike.agrees.ready;
        lists = k.lists ∙ h.alike.agrees.lists;
        whole = h.alike.agrees.whole;
        running = k.running ∙ h.alike.agrees.running;
      };
      stages = λ d. subst (λ (f : ℕ → OwnContext). IsOwn (b.context (b.size + d)).at (f d)) (sym k.own) (h.alike.stages d);
    };
  }
