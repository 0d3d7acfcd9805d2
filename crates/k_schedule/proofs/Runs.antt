-- The whole run: it ends, it is one, and it leaves nothing to do. ls are the lines, is the items, x one item.
use Rattle.std.proofs.Common.{◌≡◌, ◌≢◌, ℕ, ◌<◌, ◌≤◌, true, false, refl, sym, ap, ◌∙◌, subst, arith, List, [], ◌∷◌, inl}
use Rattle.std.proofs.Common.{inr, zero, suc}
use Rattle.std.specs.List.{AllByRecursion}
use Rattle.std.proofs.lemmas.Bool.{cases_Bool, cases_eq}
use Rattle.std.proofs.lemmas.Option.{none-some, same_Some}
use Rattle.k_script.specs.declared.lines.AtLine.{AtLine}
use Rattle.k_script.specs.declared.lines.Item.{Item}
use Rattle.k_script.specs.declared.lines.Item.TheVariants as item
use Rattle.k_script.specs.Limits.{IsItem, IsScript}
use Rattle.k_script.specs.Script.{Script}
use Rattle.k_schedule.specs.Bursts.{IsBetween, IsBursting, IsEnd, IsLeft, rounds}
use Rattle.k_schedule.specs.Carriers.{Carriers, Facts, ScheduleLaws}
use Rattle.k_schedule.specs.Schedule.{Burst, IsBurst, IsRun, IsTail, Moment, TailOf, due, follows, item_at, items_at}
use Rattle.k_schedule.specs.Schedule.{moment, park_at, parks, step_at, tail_begins, times}
use Rattle.k_schedule.proofs.Events.{due_good, due_hand, due_putting, step_good, step_hand}
use Rattle.k_schedule.proofs.Effort.{effort}
use Rattle.k_schedule.proofs.Bursts.{burst_after, burst_ends, burst_one}
use Rattle.k_schedule.proofs.Tails.{tail_after, tail_ends}

module _ {World : Type 0} (carriers : Carriers World) where
  -- WHO HAS NO HAND

  pub no_park : (c : ℕ) (m : Moment World) → carriers.has_hand m.world c ≡ false → park_at carriers c m ≡ m
  no_park c m e = rw e refl

  -- THE RUN IS ONE

  pub tail_one : (n o c : ℕ) (m e f : Moment World) → TailOf carriers n c m e → TailOf carriers o c m f → e ≡ f
  tail_one zero zero c m e f t u =
      let same = burst_one carriers t.1.0 u.1.0 c m t.0 u.0 t.1.1 u.1.1 in
      t.3 ∙ ap (λ (b : Burst World). b.after) same ∙ sym u.3
  tail_one zero (suc o) c m e f t u =
      let same = burst_one carriers t.1.0 u.3.0 c m t.0 u.0 t.1.1 u.3.1 in
      absurd (none-some {A = ℕ × Moment World} (u.1, u.2) (sym t.2 ∙ ap (follows carriers c) same ∙ u.4))
  tail_one (suc n) zero c m e f t u =
      let same = burst_one carriers t.3.0 u.1.0 c m t.0 u.0 t.3.1 u.1.1 in
      absurd (none-some {A = ℕ × Moment World} (t.1, t.2) (sym u.2 ∙ sym (ap (follows carriers c) same) ∙ t.4))
  tail_one (suc n) (suc o) c m e f t u =
      let same = burst_one carriers t.3.0 u.3.0 c m t.0 u.0 t.3.1 u.3.1 in
      let from : ℕ × Moment World = (t.1, t.2) in
      let to : ℕ × Moment World = (u.1, u.2) in
      let on : from ≡ to = same_Some from to (sym t.4 ∙ ap (follows carriers c) same ∙ u.4) in
      tail_one n o u.1 u.2 e f (subst (λ (p : ℕ × Moment World). TailOf carriers n p.0 p.1 e) on t.5) u.5

  pub is_burst_one : (c : ℕ) (m : Moment World) (b d : Burst World) → IsBurst carriers c m b → IsBurst carriers c m d → b ≡ d
  is_burst_one c m b d r q = burst_one carriers r.0 q.0 c m b d r.1 q.1

  pub run_one : (script : Script) (w : World) (e f : Moment World) → IsRun carriers script w e → IsRun carriers script w f →
      e ≡ f
  run_one script w e f r s = tail_one r.0 s.0 0 (tail_begins carriers w script.at_lines script.turns) e f r.1 s.1

module _ {World : Type 0} (carriers : Carriers World) (facts : Facts World) (laws : ScheduleLaws World carriers facts) where
  abbrev IsGoodAt : Moment World → Type 0
  IsGoodAt m = facts.IsGood m.world m.ahead

  -- THE TURNS

  park_good : (c : ℕ) (m : Moment World) → c < carriers.count → IsGoodAt m → IsGoodAt (park_at carriers c m)
  park_good c m i p = elim (cases_Bool (carriers.has_hand m.world c)) [
    | inl e ↦
        let good = laws.good_park m.world m.ahead c i p in
        rw e (step_good carriers facts laws c (moment (carriers.park m.world c) m.ahead) i good)
    | inr e ↦ rw e p
  ]

  times_good : (c n : ℕ) (m : Moment World) → c < carriers.count → IsGoodAt m → IsGoodAt (times carriers c n m)
  times_good c zero m i p = p
  times_good c (suc n) m i p = step_good carriers facts laws c (times carriers c n m) i (times_good c n m i p)

  item_good : (x : Item) (m : Moment World) → IsItem carriers.count x → IsGoodAt m → IsGoodAt (item_at carriers x m)
  item_good (item.Steps c n) m i p = times_good c n m i.0 p
  item_good (item.Park c) m i p = park_good c m i p

  items_good : (is : List Item) (m : Moment World) → AllByRecursion (IsItem carriers.count) is → IsGoodAt m →
      IsGoodAt (items_at carriers is m)
  items_good [] m i p = p
  items_good (x ∷ xs) m i p = items_good xs (item_at carriers x m) i.1 (item_good x m i.0 p)

  -- THE PARKS

  parked_gives : (c : ℕ) (m : Moment World) → c < carriers.count → IsGoodAt m → carriers.has_hand m.world c ≡ true →
      carriers.has_hand (step_at carriers c (moment (carriers.park m.world c) m.ahead)).world c ≡ false
  parked_gives c m i p e =
      let o : Moment World = moment (carriers.park m.world c) m.ahead in
      let good = due_good carriers facts laws c o i (laws.good_park m.world m.ahead c i p) in
      let putting = due_putting carriers facts laws c c o ∙ laws.parked m.world m.ahead c i p in
      let hand = due_hand carriers facts laws c c o ∙ laws.hand_park m.world c c ∙ e in
      laws.gives (due carriers c o).world (due carriers c o).ahead c i good putting hand

  park_empties : (c : ℕ) (m : Moment World) → c < carriers.count → IsGoodAt m →
      carriers.has_hand (park_at carriers c m).world c ≡ false
  park_empties c m i p = elim (cases_Bool (carriers.has_hand m.world c)) [
    | inl e ↦ let gone = parked_gives c m i p e in rw e gone
    | inr e ↦ rw e e
  ]

  park_others : (c i : ℕ) (m : Moment World) → i ≢ c →
      carriers.has_hand (park_at carriers c m).world i ≡ carriers.has_hand m.world i
  park_others c i m ne = elim (cases_Bool (carriers.has_hand m.world c)) [
    | inl e ↦
        let step = step_hand carriers facts laws c i (moment (carriers.park m.world c) m.ahead) ne in
        rw e (step ∙ laws.hand_park m.world c i)
    | inr e ↦ rw e refl
  ]

  -- after the first n parks the first n carriers have no hand
  record Parked (n : ℕ) (m : Moment World) : Type 0 where
    pub good : facts.IsGood m.world m.ahead
    pub hands : (i : ℕ) → i < n → carriers.has_hand m.world i ≡ false

  parked_more : (n : ℕ) (m : Moment World) → n < carriers.count → Parked n m → Parked (suc n) (park_at carriers n m)
  parked_more n m l p = record {
    good = park_good n m l p.good;
    hands = λ i h. elim (cases_eq i n) [
      | inl e ↦
          subst (λ (j : ℕ). carriers.has_hand (park_at carriers n m).world j ≡ false) (sym e) (park_empties n m l p.good)
      | inr ne ↦ park_others n i m ne ∙ p.hands i (omega (arith, h, ne))
    ];
  }

  parks_parked : (n : ℕ) (m : Moment World) → n ≤ carriers.count → IsGoodAt m → Parked n (parks carriers n m)
  parks_parked zero m l p = record { good = p; hands = λ i h. absurd (omega (arith, h)) }
  parks_parked (suc n) m l p =
      parked_more n (parks carriers n m) (omega (arith, l)) (parks_parked n m (omega (arith, l)) p)

  between_first : (w : World) (ls : List AtLine) (is : List Item) → 0 < carriers.count →
      AllByRecursion (IsItem carriers.count) is → facts.IsGood w ls →
      IsBetween carriers facts 0 (tail_begins carriers w ls is)
  between_first w ls is l i p =
      let m = items_at carriers is (moment w ls) in
      let r = parks_parked carriers.count m (omega arith) (items_good is (moment w ls) i p) in
      record { inside = l; good = r.good; hands = r.hands; below = λ j h. absurd (omega (arith, h)) }

  -- OF A SCRIPT FOR THESE CARRIERS

  pub begins : (script : Script) (w : World) → IsScript script → script.carriers ≡ carriers.count →
      facts.IsGood w script.at_lines →
      IsBetween carriers facts 0 (tail_begins carriers w script.at_lines script.turns)
  begins script w s same p =
      let items = subst (λ (n : ℕ). AllByRecursion (IsItem n) script.turns) same s.turns.items in
      between_first w script.at_lines script.turns (omega (arith, same, s.carriers.0)) items p

  pub run_ends : (script : Script) (w : World) → IsScript script → script.carriers ≡ carriers.count →
      facts.IsGood w script.at_lines → (end : Moment World) × IsRun carriers script w end
  run_ends script w s same p =
      let m = tail_begins carriers w script.at_lines script.turns in
      tail_ends carriers facts laws (rounds carriers 0 m) 0 m (begins script w s same p) (omega arith)

  pub run_finishes : (script : Script) (w : World) (end : Moment World) → IsScript script →
      script.carriers ≡ carriers.count → facts.IsGood w script.at_lines → IsRun carriers script w end →
      IsEnd carriers facts end
  run_finishes script w end s same p r =
      let m = tail_begins carriers w script.at_lines script.turns in
      tail_after carriers facts laws r.0 0 m end (begins script w s same p) r.1

  -- OF A BURST, AND OF THE TAIL FROM ANY OF ITS BURSTS

  pub is_burst_ends : (c : ℕ) (m : Moment World) → IsBursting carriers facts c m → (b : Burst World) × IsBurst carriers c m b
  is_burst_ends c m p = burst_ends carriers facts laws (effort carriers facts c m) c m p (omega arith)

  pub is_burst_left : (c : ℕ) (m : Moment World) (b : Burst World) → IsBursting carriers facts c m → IsBurst carriers c m b →
      IsLeft carriers facts c m b.after
  is_burst_left c m b p r = (burst_after carriers facts laws r.0 c m b p r.1).left

  pub is_tail_ends : (c : ℕ) (m : Moment World) → IsBetween carriers facts c m → (end : Moment World) × IsTail carriers c m end
  is_tail_ends c m p = tail_ends carriers facts laws (rounds carriers c m) c m p (omega arith)
