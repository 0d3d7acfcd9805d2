-- A carrier comes nearer to the next step of a section with each move that isn't one. v and n are seats, t a target, k what was
-- looked at, f whether the switch is finished, g what is held.
use Rattle.std.proofs.Common.{◌≡◌, ℕ, ◌+◌, ◌-◌, ◌*◌, ◌<◌, ◌≤◌, ◌==◌, Bool, true, false, refl, sym, ap, ◌∙◌, subst}
use Rattle.std.proofs.Common.{arith, inl, inr, Option, Some, None, if◌then◌else◌}
use Rattle.std.proofs.lemmas.Bool.{cases_Bool, true≢false}
use Rattle.std.proofs.lemmas.Bool.Decides.{nat_tests}
use Rattle.std.proofs.lemmas.Option.{none-some, same_Some}
use Rattle.k_schedule.specs.Near.{Held, IsRanked, Looked, No, Now, Old, Seat, Turned, asks, level, near, next_seat}
use Rattle.k_schedule.specs.Near.{place, wanted, with_help}

module _ (blocked : ℕ → Option Held) (holds clean : Held → Bool) (ranked : IsRanked blocked holds clean) where
  place_most : (w : ℕ) (h : Option ℕ) (k : Looked) → place blocked holds clean w h k ≤ 4
  place_most w None Now = omega arith
  place_most w None No = omega arith
  place_most w None Old = omega arith
  place_most w (Some h) k = grind (arith, nat_tests)

  level_most : (g : Option Held) → level blocked holds clean g ≤ 5
  level_most None = omega arith
  level_most (Some g) = elim (cases_Bool (holds g)) [ inl e ↦ rw e (omega arith) | inr e ↦ rw e (omega arith) ]

  no_hand_most : (w : ℕ) (k : Looked) → place blocked holds clean w None k ≤ 3
  no_hand_most w Now = omega arith
  no_hand_most w No = omega arith
  no_hand_most w Old = omega arith

  level_held : (g : Held) → holds g ≡ true → level blocked holds clean (Some g) ≡ 3 - g.rank
  level_held g e = rw e refl

  level_free : (g : Held) → holds g ≡ false → level blocked holds clean (Some g) ≡ 5
  level_free g e = rw e refl

  at_hand : (h w : ℕ) (k : Looked) → (h == w) ≡ true → place blocked holds clean w (Some h) k ≡ 0
  at_hand h w k e = rw e refl

  off_hand : (h w : ℕ) (k : Looked) → (h == w) ≡ false → place blocked holds clean w (Some h) k ≡ 4
  off_hand h w k e = rw e refl

  -- near, where no switch begins
  there : Bool → Option Held → Option ℕ → Looked → ℕ → ℕ
  there f help hand k t =
      (if f then 40 else 0) + 5 * level blocked holds clean help + place blocked holds clean (wanted t help) hand k

  -- a seat where no switch begins
  abbrev seat : ℕ → ℕ → Option ℕ → Option Held → Looked → Bool → Seat
  seat o t hand help k f =
      record { own = o; target = t; hand = hand; help = help; looked = k; begins = false; finished = f }

  Nearer : ℕ → Option Seat → Type 0
  Nearer from found = (n : Seat) → found ≡ Some n → near blocked holds clean n + 1 ≤ from

  nearer_to : (from : ℕ) (v : Seat) → near blocked holds clean v + 1 ≤ from → Nearer from (Some v)
  unfolding Nearer
  nearer_to from v l n e = subst (λ (x : Seat). near blocked holds clean x + 1 ≤ from) (same_Some v n e) l

  nearer_if : (from : ℕ) (b : Bool) (u v : Option Seat) → (b ≡ true → Nearer from u) → (b ≡ false → Nearer from v) →
      Nearer from (if b then u else v)
  nearer_if from true u v p q = p refl
  nearer_if from false u v p q = q refl

  -- THE CONTEXT IN HAND

  asks_near : (o t h : ℕ) (help found : Option Held) (k : Looked) (f : Bool) → (h == wanted t help) ≡ true →
      ((g : Held) → found ≡ Some g → level blocked holds clean (Some g) + 1 ≤ level blocked holds clean help) →
      Nearer (there f help (Some h) k t) (asks blocked holds clean (seat o t (Some h) help k f) found)
  unfolding Nearer there
  asks_near o t h help None k f here l n e = absurd (none-some n e)
  asks_near o t h help (Some g) k f here l n e =
      let new = seat o t (Some h) (Some g) k f in
      let zero = at_hand h (wanted t help) k here in
      let less : near blocked holds clean new + 1 ≤ there f help (Some h) k t =
      omega (arith, zero, l g refl, place_most g.owner (Some h) k) in
      subst (λ (x : Seat). near blocked holds clean x + 1 ≤ there f help (Some h) k t) (same_Some new n e) less

  gives_near : (o t h : ℕ) (help : Option Held) (k : Looked) (f : Bool) → (h == wanted t help) ≡ false →
      Nearer (there f help (Some h) k t) (Some (seat o t None help k f))
  unfolding there
  gives_near o t h help k f off =
      let four = off_hand h (wanted t help) k off in
      nearer_to (there f help (Some h) k t) (seat o t None help k f)
      (omega (arith, four, no_hand_most (wanted t help) k))

  freed_near : (o t h : ℕ) (g : Held) (k : Looked) (f : Bool) → (h == g.owner) ≡ true → holds g ≡ false →
      Nearer (there f (Some g) (Some h) k t) (Some (seat o t None None k f))
  unfolding there
  freed_near o t h g k f here freed =
      nearer_to (there f (Some g) (Some h) k t) (seat o t None None k f)
      (omega (arith, at_hand h g.owner k here, level_free g freed, no_hand_most t k))

  helped_near : (o t h : ℕ) (help : Option Held) (k : Looked) (f : Bool) →
      Nearer (there f help (Some h) k t) (with_help blocked holds clean (seat o t (Some h) help k f) h help)
  helped_near o t h None k f =
      let v = seat o t (Some h) None k f in
      nearer_if (there f None (Some h) k t) (h == t) (asks blocked holds clean v (blocked h)) (Some (seat o t None None k f))
      (λ here. asks_near o t h None (blocked h) k f here (λ g b.
      let r = ranked.found h g b in
      omega (arith, r.0, level_held g r.1)))
      (λ off. gives_near o t h None k f off)
  helped_near o t h (Some g) k f =
      let v = seat o t (Some h) (Some g) k f in
      let from = there f (Some g) (Some h) k t in
      let ask = asks blocked holds clean v (blocked h) in
      let free = Some (seat o t None None k f) in
      nearer_if from (h == g.owner) (if holds g then ask else free) (Some (seat o t None (Some g) k f))
      (λ here.
      let same : h ≡ g.owner = grind (arith, nat_tests) in
      nearer_if from (holds g) ask free
      (λ held. asks_near o t h (Some g) (blocked h) k f here (λ x b.
      let r = ranked.found h x b in
      let up = ranked.above g x held (ap blocked (sym same) ∙ b) in
      omega (arith, r.0, up, level_held x r.1, level_held g held)))
      (λ freed. freed_near o t h g k f here freed))
      (λ off. gives_near o t h (Some g) k f off)

  -- THE SWITCH ENDS

  ended_near : (o u : ℕ) (help : Option Held) (k : Looked) (b : Bool) (most : ℕ) → 40 ≤ most →
      near blocked holds clean (record {
        own = o;
        target = u;
        hand = None;
        help = help;
        looked = k;
        begins = b;
        finished = false;
      }) + 1 ≤ most
  ended_near o u help k true most l = omega (arith, l)
  ended_near o u help k false most l = omega (arith, l, level_most help, no_hand_most (wanted u help) k)

  -- WITHOUT A HAND

  took_near : (o t : ℕ) (help : Option Held) (f : Bool) →
      Nearer (there f help None Now t) (Some (seat o t (Some (wanted t help)) help No f))
  unfolding there
  took_near o t help f =
      let w = wanted t help in
      let same : (w == w) ≡ true = grind (arith, nat_tests) in
      nearer_to (there f help None Now t) (seat o t (Some w) help No f) (omega (arith, at_hand w w No same))

  looked_near : (o t : ℕ) (g : Held) (f : Bool) →
      Nearer (there f (Some g) None No t) (Some (if clean g then seat o t None None No f else seat o t None (Some g) Now f))
  unfolding there
  looked_near o t g f =
      let from = there f (Some g) None No t in
      let free = seat o t None None No f in
      let seen = seat o t None (Some g) Now f in
      elim (cases_Bool (clean g)) [
        | inl e ↦ rw e (nearer_to from free (omega (arith, level_free g (ranked.freed g e))))
        | inr e ↦ rw e (nearer_to from seen (omega arith))
      ]

  -- each move that isn't a section's brings the carrier nearer
  move_near : (o t : ℕ) (hand : Option ℕ) (help : Option Held) (k : Looked) (begins f : Bool) (turned : Turned) →
      (begins ≡ true → f ≡ false) →
      let v : Seat = record {
        own = o;
        target = t;
        hand = hand;
        help = help;
        looked = k;
        begins = begins;
        finished = f;
      } in
      Nearer (near blocked holds clean v) (next_seat blocked holds clean v turned)
  unfolding there
  move_near o t None help k true true turned h = absurd (true≢false (h refl))
  move_near o t None help k true false turned h = nearer_to 31 (seat o o None None Now false) (omega arith)
  move_near o t (Some i) help k true f turned h =
      let new : Seat = record {
        own = o;
        target = t;
        hand = None;
        help = help;
        looked = k;
        begins = true;
        finished = f;
      } in
      nearer_to 32 new (omega arith)
  move_near o t None help Old false f turned h =
      nearer_to (there f help None Old t) (seat o t None help No f) (omega arith)
  move_near o t None help Now false f turned h = took_near o t help f
  move_near o t None None No false f turned h =
      nearer_to (there f None None No t) (seat o t None None Now f) (omega arith)
  move_near o t None (Some g) No false f turned h = looked_near o t g f
  move_near o t (Some i) help k false false turned h = helped_near o t i help k false
  move_near o t (Some i) help k false true turned h =
      let from = there true help (Some i) k t in
      let new : Seat = record {
        own = o;
        target = turned.target;
        hand = None;
        help = help;
        looked = k;
        begins = turned.begins;
        finished = false;
      } in
      let on = with_help blocked holds clean (seat o t (Some i) help k true) i help in
      nearer_if from (i == o) (Some new) on
      (λ here. nearer_to from new (ended_near o turned.target help k turned.begins from (omega arith)))
      (λ off. helped_near o t i help k true)

pub near_falls : (blocked : ℕ → Option Held) (holds clean : Held → Bool) (seat next : Seat) (turned : Turned) →
    IsRanked blocked holds clean → (seat.begins ≡ true → seat.finished ≡ false) →
    next_seat blocked holds clean seat turned ≡ Some next → near blocked holds clean next < near blocked holds clean seat
unfolding Nearer
near_falls blocked holds clean v next turned ranked once e =
    let less = move_near blocked holds clean ranked v.own v.target v.hand v.help v.looked v.begins v.finished turned once in
    omega (arith, less next e)
