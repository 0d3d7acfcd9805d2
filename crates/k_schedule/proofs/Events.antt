-- Events and single steps. c is the carrier, m the moment, w a world, i another carrier, l a line and ls lines.
use Rattle.std.proofs.Common.{◌≡◌, ◌≢◌, ℕ, ◌+◌, ◌*◌, ◌<◌, ◌≤◌, ◌==◌, true, false, refl, ap, ◌∙◌, subst, arith, length, List}
use Rattle.std.proofs.Common.{[], ◌∷◌, ◌⊎◌, inl, inr}
use Rattle.std.proofs.lemmas.Bool.{cases_Bool}
use Rattle.std.proofs.lemmas.Bool.Decides.{nat_tests}
use Rattle.std.proofs.Math.Nat.{mul-le-mul_right}
use Rattle.k_script.specs.declared.lines.AtLine.{AtLine}
use Rattle.k_schedule.specs.Carriers.{Carriers, Facts, IsAlone, OthersSettled, ScheduleLaws, happens}
use Rattle.k_schedule.specs.Events.{AreMade}
use Rattle.k_schedule.specs.Parts.{Falls, Parts}
use Rattle.k_schedule.specs.Schedule.{Moment, at_once, due, idle_at, least, moment, settled_at, step_at}
use Rattle.k_schedule.proofs.Effort.{Lowers, effort, effort_falls}
use Rattle.k_schedule.proofs.Parts.{falls_at}

module _ {World : Type 0} (carriers : Carriers World) where
  -- what each event keeps, the events together keep
  pub at_once_keeps : (c s : ℕ) (P : World → List AtLine → Type 0) →
      ((w : World) (l : AtLine) (ls : List AtLine) → P w (l ∷ ls) → P (happens carriers w c l.what) ls) →
      (w : World) (ls : List AtLine) → P w ls → P (at_once carriers c s w ls).world (at_once carriers c s w ls).ahead
  at_once_keeps c s P h w [] p = p
  at_once_keeps c s P h w (l ∷ ls) p =
      elim (cases_Bool (l.step == s)) [
        | inl e ↦ rw e (at_once_keeps c s P h (happens carriers w c l.what) ls (h w l ls p))
        | inr e ↦ rw e p
      ]

  pub at_once_shorter : (c s : ℕ) (w : World) (ls : List AtLine) → length (at_once carriers c s w ls).ahead ≤ length ls
  at_once_shorter c s w [] = omega arith
  at_once_shorter c s w (l ∷ ls) =
      elim (cases_Bool (l.step == s)) [
        | inl e ↦ rw e (omega (arith, at_once_shorter c s (happens carriers w c l.what) ls))
        | inr e ↦ rw e (omega arith)
      ]

  pub at_once_cases : (c s : ℕ) (w : World) (ls : List AtLine) →
      (at_once carriers c s w ls ≡ moment w ls) ⊎ (length (at_once carriers c s w ls).ahead + 1 ≤ length ls)
  at_once_cases c s w [] = inl refl
  at_once_cases c s w (l ∷ ls) =
      elim (cases_Bool (l.step == s)) [
        | inl e ↦ inr (rw e (omega (arith, at_once_shorter c s (happens carriers w c l.what) ls)))
        | inr e ↦ inl (rw e refl)
      ]

  -- WHICH EVENTS HAPPEN

  made_first : (c s : ℕ) (w : World) (l : AtLine) (ls : List AtLine) (after : Moment World) → l.step ≡ s →
      AreMade carriers c s (moment (happens carriers w c l.what) ls) after → AreMade carriers c s (moment w (l ∷ ls)) after
  made_first c s w l ls after is r = record {
    now = l ∷ r.now;
    parted = ap (λ (xs : List AtLine). l ∷ xs) r.parted;
    step_is = (is, r.step_is);
    rest = r.rest;
    world = r.world;
  }

  pub at_once_made : (c s : ℕ) (w : World) (ls : List AtLine) →
      AreMade carriers c s (moment w ls) (at_once carriers c s w ls)
  at_once_made c s w [] = record { now = []; parted = refl; step_is = tt; rest = tt; world = refl }
  at_once_made c s w (l ∷ ls) =
      elim (cases_Bool (l.step == s)) [
        | inl e ↦
            let is : l.step ≡ s = grind (arith, nat_tests) in
            let next = happens carriers w c l.what in
            rw e (made_first c s w l ls (at_once carriers c s next ls) is (at_once_made c s next ls))
        | inr e ↦
            let other : l.step ≢ s = grind (arith, nat_tests) in
            rw e (record { now = []; parted = refl; step_is = tt; rest = other; world = refl })
      ]

  pub least_made : (c : ℕ) (w : World) (l : AtLine) (ls : List AtLine) →
      AreMade carriers c l.step (moment w (l ∷ ls)) (least carriers c w (l ∷ ls))
  least_made c w l ls = at_once_made c l.step w (l ∷ ls)

-- a line less outweighs all that may be added
pub less_than_a_line : (a b most v w : ℕ) → a + 1 ≤ b → v ≤ most → (a * (most + 1) + v) + 1 ≤ b * (most + 1) + w
less_than_a_line a b most v w h l = omega (arith, mul-le-mul_right (most + 1) h, l)

module _ {World : Type 0} (carriers : Carriers World) (facts : Facts World) (laws : ScheduleLaws World carriers facts) where
  -- THE EVENTS BEFORE A STEP

  pub due_good : (c : ℕ) (m : Moment World) → c < carriers.count → facts.IsGood m.world m.ahead →
      facts.IsGood (due carriers c m).world (due carriers c m).ahead
  due_good c m i =
      at_once_keeps carriers c (carriers.made m.world) facts.IsGood (λ w l ls p. laws.good_event w l ls c i p) m.world m.ahead

  pub due_settled : (c i : ℕ) (m : Moment World) → i ≢ c →
      carriers.settled (due carriers c m).world i ≡ carriers.settled m.world i
  due_settled c i m ne =
      at_once_keeps carriers c (carriers.made m.world) (λ w ls. carriers.settled w i ≡ carriers.settled m.world i)
      (λ w l ls p. laws.settled_event w l.what c i ne ∙ p) m.world m.ahead refl

  pub due_hand : (c i : ℕ) (m : Moment World) →
      carriers.has_hand (due carriers c m).world i ≡ carriers.has_hand m.world i
  due_hand c i m =
      at_once_keeps carriers c (carriers.made m.world) (λ w ls. carriers.has_hand w i ≡ carriers.has_hand m.world i)
      (λ w l ls p. laws.hand_event w l.what c i ∙ p) m.world m.ahead refl

  pub due_putting : (c i : ℕ) (m : Moment World) → facts.putting (due carriers c m).world i ≡ facts.putting m.world i
  due_putting c i m =
      at_once_keeps carriers c (carriers.made m.world) (λ w ls. facts.putting w i ≡ facts.putting m.world i)
      (λ w l ls p. laws.putting_event w l.what c i ∙ p) m.world m.ahead refl

  pub due_fresh : (c : ℕ) (m : Moment World) → facts.IsFresh m.world c → facts.IsFresh (due carriers c m).world c
  due_fresh c m =
      at_once_keeps carriers c (carriers.made m.world) (λ w ls. facts.IsFresh w c)
      (λ w l ls p. laws.fresh_event w l.what c c p) m.world m.ahead

  pub due_alone : (c : ℕ) (m : Moment World) → IsAlone carriers m.world c → IsAlone carriers (due carriers c m).world c
  due_alone c m a = λ i l ne. due_hand c i m ∙ a i l ne

  pub due_others : (c : ℕ) (m : Moment World) → OthersSettled carriers m.world c →
      OthersSettled carriers (due carriers c m).world c
  due_others c m a = λ i l ne. due_settled c i m ne ∙ a i l ne

  -- THE STEP

  pub step_good : (c : ℕ) (m : Moment World) → c < carriers.count → facts.IsGood m.world m.ahead →
      facts.IsGood (step_at carriers c m).world (step_at carriers c m).ahead
  step_good c m i p = laws.good_step (due carriers c m).world (due carriers c m).ahead c i (due_good c m i p)

  pub step_settled : (c i : ℕ) (m : Moment World) → i ≢ c →
      carriers.settled (step_at carriers c m).world i ≡ carriers.settled m.world i
  step_settled c i m ne = laws.settled_step (due carriers c m).world c i ne ∙ due_settled c i m ne

  pub step_hand : (c i : ℕ) (m : Moment World) → i ≢ c →
      carriers.has_hand (step_at carriers c m).world i ≡ carriers.has_hand m.world i
  step_hand c i m ne = laws.hand_step (due carriers c m).world c i ne ∙ due_hand c i m

  pub step_alone : (c : ℕ) (m : Moment World) → IsAlone carriers m.world c →
      IsAlone carriers (step_at carriers c m).world c
  step_alone c m a = λ i l ne. step_hand c i m ne ∙ a i l ne

  pub step_others : (c : ℕ) (m : Moment World) → OthersSettled carriers m.world c →
      OthersSettled carriers (step_at carriers c m).world c
  step_others c m a = λ i l ne. step_settled c i m ne ∙ a i l ne

  pub step_fresh : (c : ℕ) (m : Moment World) → c < carriers.count → facts.IsGood m.world m.ahead →
      IsAlone carriers m.world c → OthersSettled carriers m.world c → facts.IsFresh m.world c →
      facts.IsFresh (step_at carriers c m).world c
  step_fresh c m i p a o f =
      laws.fresh_step (due carriers c m).world (due carriers c m).ahead c i (due_good c m i p)
      (due_alone c m a) (due_others c m o) (due_fresh c m f)

  pub step_idle : (c : ℕ) (m : Moment World) → c < carriers.count → facts.IsGood m.world m.ahead →
      OthersSettled carriers m.world c → facts.IsFresh m.world c →
      settled_at carriers c (step_at carriers c m) ≡ true → idle_at carriers c m ≡ true
  step_idle c m i p o f s =
      laws.idle (due carriers c m).world (due carriers c m).ahead c i (due_good c m i p)
      (due_others c m o) (due_fresh c m f) s

  pub step_shorter : (c : ℕ) (m : Moment World) → length (step_at carriers c m).ahead ≤ length m.ahead
  step_shorter c m = at_once_shorter carriers c (carriers.made m.world) m.world m.ahead

  -- THE FALL: by a step that doesn't settle its carrier
  step_lowers : (c : ℕ) (m : Moment World) → c < carriers.count → facts.IsGood m.world m.ahead →
      IsAlone carriers m.world c → settled_at carriers c (step_at carriers c m) ≡ false →
      Lowers carriers facts c m (step_at carriers c m)
  step_lowers c m i p a s =
      let d = due carriers c m in
      let next = step_at carriers c m in
      let fall = laws.falls d.world d.ahead c i (due_good c m i p) (due_alone c m a) s in
      elim (at_once_cases carriers c (carriers.made m.world) m.world m.ahead) [
        | inl same ↦
            let least : length d.ahead ≤ length m.ahead = at_once_shorter carriers c (carriers.made m.world) m.world m.ahead in
            let now : facts.parts d.world c ≡ facts.parts m.world c = ap (λ (x : Moment World). facts.parts x.world c) same in
            let falls = subst (λ (x : Parts). Falls x (facts.parts next.world c)) now fall in
            inr (least, falls_at (λ x. facts.parts x.world c) m next falls)
        | inr less ↦ inl (omega (arith, less))
      ]

  pub step_falls : (c : ℕ) (m : Moment World) → c < carriers.count → facts.IsGood m.world m.ahead →
      IsAlone carriers m.world c → settled_at carriers c (step_at carriers c m) ≡ false →
      effort carriers facts c (step_at carriers c m) + 1 ≤ effort carriers facts c m
  step_falls c m i p a s = effort_falls carriers facts c m s (step_lowers c m i p a s)
