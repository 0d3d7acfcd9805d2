-- A switch ends: the carrier turns to the thread that was taken, or to none.
use Rattle.std.proofs.Common.{◌≡◌, ◌≢◌, ℕ, ◌+◌, ◌*◌, ◌<◌, ◌≤◌, Bool, true, false, not, refl, sym, ap, ◌∙◌}
use Rattle.std.proofs.Common.{subst}
use Rattle.std.proofs.Common.{arith, Option, Some, None, inl, inr}
use Rattle.std.specs.Prelude.{◌&&◌, ◌==◌, is_some, if◌then◌else◌}
use Rattle.std.proofs.lemmas.Bool.{false≢true}
use Rattle.std.proofs.lemmas.Bool.Decides.{eqb_tells, nat_tests}
use Rattle.k_ids.specs.declared.threads.ThreadId.{ThreadId}
use Rattle.k_model.proofs.Maps.{upd_same, upd_other}
use Rattle.k_script.specs.Plays.{Position}
use Rattle.k_switch.specs.declared.goal.Goal.{Goal}
use Rattle.k_switch.specs.declared.goal.Switched.{Switched}
use Rattle.k_switch.specs.declared.switch.SwitchCall.{SwitchCall}
use Rattle.k_switch.specs.Switches as switch
use Rattle.k_board.specs.Words.{Programs}
use Rattle.k_board.specs.Boards.{At, Board, Context, InSwitch, Resting}
use Rattle.k_board.specs.Steps.{placed}
use Rattle.k_tokens.specs.World.{Carrier, ContextName, OfCarrier, OwnContext, World, has_switch, is_finished}
use Rattle.k_tokens.specs.World as stage
use Rattle.k_switching.specs.Rules.{begins, given_own, is_interrupted, put_down, switched_to, wants_switch}
use Rattle.k_stages.specs.Stages.{IsOwn, id_in}
use Rattle.k_paired.specs.Pairs.{IsPair}
use Rattle.k_queues.specs.Queues.{IsProper}
use Rattle.k_schedule.specs.Parts.{Falls}
use Rattle.k_owed.specs.Owes.{one_for, owes, owes_of}
use Rattle.k_owed.specs.Owed.{owed, owed_at, owed_by, steps_owed}
use Rattle.k_owed.proofs.Lowers.{others_owe}
use Rattle.k_owed.proofs.Sums.{sum_moves, sum_same}
use Rattle.k_owed.proofs.Turns.{placed_alone}
use Rattle.k_work.specs.Near.{hand_place, is_settled, lacking_worth, level_of, looked_place, near_free}
use Rattle.k_work.specs.Near.{near_hand}
use Rattle.k_work.specs.Near.{near_of}
use Rattle.k_work.specs.Work.{contexts_of, flags_of, lacks_goal, starts_of, switches_by, switches_of}
use Rattle.k_work.specs.Work.{threads_at, threads_by}
use Rattle.k_work.specs.Work.{threads_had, work_parts}
use Rattle.k_work.proofs.Gives.{level_most}
use Rattle.k_work.proofs.Looks.{looked_most}

-- ON THE BOARD

owed_stays : (b : Board) (i count : ℕ) (s : SwitchCall) (o : Switched) →
    (b.context i).at ≡ InSwitch s (switch.Finished o) →
    owed (placed b i (record (b.context i) { at = Resting })) count ≡ owed b count
owed_stays b i count s o at =
    sum_same (owed_by b) (owed_by (placed b i (record (b.context i) { at = Resting }))) count each
  where
    each : (t : ℕ) → owed_by (placed b i (record (b.context i) { at = Resting })) t ≡ owed_by b t
    each t = elim (eqb_tells t i) [
      | inl q ↦
          subst (λ (n : ℕ). owed_by (placed b i (record (b.context i) { at = Resting })) n ≡ owed_by b n)
          (sym q.1)
          (let now = ap (λ (x : Context). owed_at x.at) (upd_same b.context i (record (b.context i) {
            at =
                Resting;
          })) in
          let was = ap owed_at at in omega (arith, now, was))
      | inr q ↦
          let same = ap (λ (x : Context). owed_at x.at) (upd_other b.context i (record (b.context i) {
            at =
                Resting;
          }) t q.1) in
          omega (arith, same)
    ]

steps_fall : (g : Programs) (work : Position → ℕ) (b : Board) → IsProper g b →
    (i count : ℕ) (s : SwitchCall) (o : Switched) →
    (b.context i).at ≡ InSwitch s (switch.Finished o) → i < count →
    steps_owed work (placed b i (record (b.context i) { at = Resting })) count + 6 * one_for o.goal ≤
    steps_owed work b count
steps_fall g work b proper i count s o at inside =
    let moves = sum_moves (owes work b) (owes work (placed b i (record (b.context i) { at = Resting }))) i
    count inside
    (others_owe g work b proper.good i (placed b i (record (b.context i) { at = Resting }))
    (placed_alone g work b proper i count inside (record (b.context i) { at = Resting })) (λ t. refl)) in
    let now = ap (owes_of work (placed b i (record (b.context i) { at = Resting })) i)
    (upd_same b.context i (record (b.context i) { at = Resting })) in
    let was = ap (λ (p : At). owes_of work b i (record (b.context i) { at = p })) at in
    omega (arith, moves, now, was)

-- OF THE CARRIER

one_id : (o : Option Goal) → one_for (id_in o) ≡ one_for o
one_id None = refl
one_id (Some goal) = refl

-- one that isn't settled has a goal, or a flag
unsettled : (o : Option Goal) (goal : Option ThreadId) (counted : Bool) (starts flags : ℕ) → goal ≡ id_in o →
    counted ≡ is_some o → starts ≤ flags →
    ((((not (is_some goal) && true) && true) && not counted) && (starts == 0)) ≡ false →
    lacks_goal goal flags ≡ 0
unsettled (Some g) goal counted starts flags is n few e = ap (λ (x : Option ThreadId). lacks_goal x flags) is
unsettled None goal counted starts flags is n few e =
    ap (λ (x : Option ThreadId). lacks_goal x flags) is
    ∙ flagged starts flags few (sym (shape goal counted is n) ∙ e)
  where
    shape : (x : Option ThreadId) (y : Bool) → x ≡ None → y ≡ false →
        ((((not (is_some x) && true) && true) && not y) && (starts == 0)) ≡ (starts == 0)
    shape x y a f = λ z. (((not (is_some (a z)) && true) && true) && not (f z)) && (starts == 0)

    flagged : (n m : ℕ) → n ≤ m → (n == 0) ≡ false → lacks_goal None m ≡ 0
    flagged n m l f = grind (arith, nat_tests, l, f)

free_most : (t : Bool) (l p : ℕ) → l ≤ 5 → p ≤ 3 → (if t then 31 else 0 + 5 * l + p) ≤ 31
free_most true l p a e = omega arith
free_most false l p a e = omega (arith, a, e)

quiet_by : (s v : Bool) → s ≡ true → (not s && v) ≡ false
quiet_by true v e = refl
quiet_by false v e = absurd (false≢true e)

hand_least : (t f : Bool) (g l p : ℕ) → t ≡ false → f ≡ true → 40 ≤
    (if t then 32 else (if f then 40 else 0) + g + 5 * l + p)
hand_least false true g l p e q = omega arith
hand_least true f g l p e q = absurd (false≢true (sym e))
hand_least false false g l p e q = absurd (false≢true q)

falls_near : (o o' s s' r n n' : ℕ) → o' ≡ o → s' ≤ s → n' < n →
    Falls (record { room = r; owed = o; steps = s; near = n }) (record {
      room = r;
      owed = o';
      steps =
          s';
      near = n';
    })
falls_near o o' s s' r n n' a e l = inr (inr (inr (omega arith, omega (arith, a), e, l)))

module _ (g : Programs) (work : Position → ℕ) (b : Board) (w : World) (proper : IsProper g b)
    (h : IsPair g b w) (c : ℕ)
    (low : c < w.carriers) (s : SwitchCall) (o : Switched) (hand : (w.carrier c).hand ≡ Some (OfCarrier c))
    (at : (b.context (b.size + c)).at ≡ InSwitch s (switch.Finished o)) where
  abbrev k' : Carrier
  k' = switched_to (put_down w (w.carrier c) (OfCarrier c)) (w.own c)

  own_is : IsOwn (InSwitch s (switch.Finished o)) (w.own c)
  own_is = subst (λ (q : At). IsOwn q (w.own c)) at (h.alike.stages c)

  stands : has_switch (w.own c).stage ≡ true
  stands = ap has_switch own_is.0

  mine : (given_own w c c true).carrier c ≡ switched_to (put_down w (w.carrier c) (OfCarrier c)) (w.own c)
  mine = upd_same w.carrier c (switched_to (put_down w (w.carrier c) (OfCarrier c)) (w.own c))

  own_after : (given_own w c c true).own c ≡ record (w.own c) { stage = stage.NoSwitch }
  own_after = upd_same w.own c (record (w.own c) { stage = stage.NoSwitch })

  near_falls : near_of (given_own w c c true) c < near_of w c
  near_falls = together now before most least
    where
      now : near_of (given_own w c c true) c ≡
          near_free (given_own w c c true) c (switched_to (put_down w (w.carrier c) (OfCarrier c))
          (w.own c)) stage.NoSwitch
      now = λ z. near_hand (given_own w c c true) c (mine z) (own_after z).stage (mine z).hand

      before : near_of w c ≡ near_hand w c (w.carrier c) (w.own c).stage (Some (OfCarrier c))
      before = ap (near_hand w c (w.carrier c) (w.own c).stage) hand

      most : near_free (given_own w c c true) c (switched_to (put_down w (w.carrier c) (OfCarrier c))
          (w.own c))
          stage.NoSwitch ≤ 31
      most =
          let k = switched_to (put_down w (w.carrier c) (OfCarrier c)) (w.own c) in
          free_most (begins k) (level_of (given_own w c c true) k.help) (looked_place (given_own w c c true)
          c k k.looked)
          (level_most (given_own w c c true) k.help) (looked_most (given_own w c c true) c k k.looked)

      least : 40 ≤ near_hand w c (w.carrier c) (w.own c).stage (Some (OfCarrier c))
      least =
          hand_least (is_interrupted (w.carrier c)) (is_finished (w.own c).stage) (lacking_worth
          (w.carrier c))
          (level_of w (w.carrier c).help) (hand_place w c (w.carrier c) (OfCarrier c))
          (quiet_by (w.carrier c).switching (wants_switch (w.carrier c)) ((h.world.1.carriers c).switch_own
          stands))
          (ap is_finished own_is.0)

      together : {n m : ℕ} → near_of (given_own w c c true) c ≡ n → near_of w c ≡ m → n ≤ 31 → 40 ≤ m →
          near_of (given_own w c c true) c < near_of w c
      together a e l f = omega (arith, a, e, l, f)

  threads_rise : threads_had (given_own w c c true) ≤ threads_had w + one_for o.goal
  threads_rise =
      let m = sum_moves (threads_at w) (threads_at (given_own w c c true)) c w.carriers low others in
      let i = one_id o.goal in let j = ap (λ (x : Option ThreadId). one_for x) own_is.1 in
      omega (arith, m, i, j, now, before)
    where
      others : (d : ℕ) → d ≢ c → threads_at (given_own w c c true) d ≤ threads_at w d
      others d ne =
          let x = upd_other w.own c (record (w.own c) { stage = stage.NoSwitch }) d ne in
          let y = upd_other w.carrier c (switched_to (put_down w (w.carrier c) (OfCarrier c)) (w.own c)) d
          ne in
          let same : threads_at (given_own w c c true) d ≡ threads_at w d =
          λ z. threads_by (has_switch (x z).stage) (y z).goal (starts_of (y z)) in omega (arith, same)

      now : threads_at (given_own w c c true) c ≡ one_for (w.own c).goal + starts_of (w.carrier c)
      now = λ z. threads_by (has_switch (own_after z).stage) (mine z).goal (starts_of (mine z))

      before : threads_at w c ≡ 0 + starts_of (w.carrier c)
      before = ap (λ (t : Bool). threads_by t (w.carrier c).goal (starts_of (w.carrier c))) stands

  switches_stay : is_settled ((given_own w c c true).carrier c) ≡ false →
      switches_of ((given_own w c c true).own c) ((given_own w c c true).carrier c) ≡ switches_of (w.own c)
      (w.carrier c)
  switches_stay alive =
      together (flags_of (w.carrier c)) (lacks_goal (w.own c).goal (flags_of (w.carrier c))) now before lacks
    where
      lacks : lacks_goal (w.own c).goal (flags_of (w.carrier c)) ≡ 0
      lacks =
          unsettled o.goal (w.own c).goal (w.own c).counted (starts_of (w.carrier c))
          (flags_of (w.carrier c)) own_is.1
          own_is.2 (omega arith) (sym (ap is_settled mine) ∙ alive)

      now : switches_of ((given_own w c c true).own c) ((given_own w c c true).carrier c) ≡
          flags_of (w.carrier c) + lacks_goal (w.own c).goal (flags_of (w.carrier c))
      now = λ z. switches_by (has_switch (own_after z).stage) (mine z).goal (flags_of (mine z))

      before : switches_of (w.own c) (w.carrier c) ≡ flags_of (w.carrier c) + 0
      before = ap (λ (t : Bool). switches_by t (w.carrier c).goal (flags_of (w.carrier c))) stands

      together : (n m : ℕ) →
          switches_of ((given_own w c c true).own c) ((given_own w c c true).carrier c) ≡ n + m →
          switches_of (w.own c) (w.carrier c) ≡ n + 0 → m ≡ 0 →
          switches_of ((given_own w c c true).own c) ((given_own w c c true).carrier c) ≡ switches_of
          (w.own c) (w.carrier c)
      together n m a e z = omega (arith, a, e, z)

  pub ended : is_settled ((given_own w c c true).carrier c) ≡ false → (room : ℕ) →
      Falls (work_parts work b w c room (near_of w c))
      (work_parts work (placed b (b.size + c) (record (b.context (b.size + c)) { at = Resting }))
      (given_own w c c true) c
      room (near_of (given_own w c c true) c))
  ended alive room =
      let steps = steps_fall g work b proper (b.size + c) (contexts_of b w) s o at (omega (arith, low)) in
      let stay = switches_stay alive in
      falls_near _ _ _ _ room _ _ (owed_stays b (b.size + c) (contexts_of b w) s o at)
      (omega (arith, steps, stay, threads_rise)) near_falls
