-- A carrier that looks at a context comes nearer, or drops its goal.
use Rattle.std.proofs.Common.{◌≡◌, ◌≢◌, ℕ, ◌+◌, ◌-◌, ◌*◌, ◌<◌, ◌≤◌, Bool, true, false, not, refl, sym, ap}
use Rattle.std.proofs.Common.{◌∙◌}
use Rattle.std.proofs.Common.{arith, Option, Some, None}
use Rattle.std.specs.Prelude.{◌&&◌, ◌||◌, is_some, if◌then◌else◌}
use Rattle.std.proofs.lemmas.Bool.{false≢true}
use Rattle.k_ids.specs.declared.context_word.ContextWord.{ContextWord}
use Rattle.k_model.specs.Maps.{upd}
use Rattle.k_model.proofs.Maps.{upd_same, upd_other}
use Rattle.k_tokens.specs.World.{Carrier, ContextName, Help, OfCarrier, OfThread, World, holds}
use Rattle.k_tokens.specs.World.{is_finished, with_carrier}
use Rattle.k_switching.specs.Rules.{begins}
use Rattle.k_switching.specs.Rules.{context_at, looking, same_word}
use Rattle.k_switching.specs.Rules.{target_of, wants_switch, without_help, word_of}
use Rattle.k_work.specs.Near.{finished_worth, level_of, looked_place, near_free, near_hand, near_of, rank_of}
use Rattle.k_work.specs.Work.{switches_of, threads_had}
use Rattle.k_work.proofs.Carriers.{HasLess}
use Rattle.k_work.proofs.Gives.{level_same}
use Rattle.k_work.proofs.Rests.{free, word_same}

-- what a move that is no step of a section does to the carrier's work: it comes nearer, or drops its goal
pub data Approaches (w v : World) (c : ℕ) : Type 0 where
  comes_nearer : near_of v c < near_of w c → HasLess w v c false → Approaches w v c
  drops_goal : v.carriers ≡ w.carriers → 6 * threads_had v + 5 * switches_of (v.own c) (v.carrier c) <
      6 * threads_had w + 5 * switches_of (w.own c) (w.carrier c) → Approaches w v c

-- the world is as it was but for this carrier
pub record IsOne (w v : World) (c : ℕ) (k : Carrier) : Type 0 where
  pub threads : v.threads ≡ w.threads
  pub own : v.own ≡ w.own
  pub held : v.held ≡ w.held
  pub held_own : v.held_own ≡ w.held_own
  pub carriers : v.carriers ≡ w.carriers
  pub mine : v.carrier c ≡ k
  pub others : (d : ℕ) → d ≢ c → v.carrier d ≡ w.carrier d

pub one_with : (w : World) (c : ℕ) (k : Carrier) → IsOne w (with_carrier w c k) c k
one_with w c k = record {
  threads = refl;
  own = refl;
  held = refl;
  held_own = refl;
  carriers = refl;
  mine = upd_same w.carrier c k;
  others = λ d ne. upd_other w.carrier c k d ne;
}

-- what the carriers and their own contexts are
pub record HasMoved (w v : World) (c : ℕ) (k : Carrier) : Type 0 where
  pub own : v.own ≡ w.own
  pub carriers : v.carriers ≡ w.carriers
  pub mine : v.carrier c ≡ k
  pub others : (d : ℕ) → d ≢ c → v.carrier d ≡ w.carrier d

pub moved_of : (w v : World) (c : ℕ) (k : Carrier) → IsOne w v c k → HasMoved w v c k
moved_of w v c k o = record { own = o.own; carriers = o.carriers; mine = o.mine; others = o.others }

pub moved_with : (w : World) (c : ℕ) (k : Carrier) → HasMoved w (with_carrier w c k) c k
moved_with w c k = moved_of w (with_carrier w c k) c k (one_with w c k)

-- twice
pub one_then : (w : World) (c : ℕ) (k m : Carrier) → IsOne w (with_carrier (with_carrier w c k) c m) c m
one_then w c k m = record {
  threads = refl;
  own = refl;
  held = refl;
  held_own = refl;
  carriers = refl;
  mine = upd_same (upd w.carrier c k) c m;
  others = λ d ne. upd_other (upd w.carrier c k) c m d ne ∙ upd_other w.carrier c k d ne;
}

words_same : (w v : World) (c : ℕ) (k : Carrier) → IsOne w v c k → (x : ContextName) →
    word_of v x ≡ word_of w x
words_same w v c k o (OfThread t) =
    λ z. word_of (record w { threads = o.threads z; held = o.held z }) (OfThread t)
words_same w v c k o (OfCarrier d) = λ z. word_of (record w {
  own = o.own z;
  held_own =
      o.held_own z;
}) (OfCarrier d)

place_most : (t : Bool) → (if t then 1 else 3) ≤ 3
place_most true = omega arith
place_most false = omega arith

pub looked_most : (w : World) (c : ℕ) (k : Carrier) (o : Option ContextWord) → looked_place w c k o ≤ 3
looked_most w c k None = omega arith
looked_most w c k (Some word) = place_most (same_word word (word_of w (context_at c (target_of k))))

parked_less : (p : Bool) (n m : ℕ) → n < m → (if p then 5 + n else n) < (if p then 5 + m else m)
parked_less true n m l = omega (arith, l)
parked_less false n m l = l

module _ (w : World) (c : ℕ) (hand : (w.carrier c).hand ≡ None) where
  pub near_before : near_of w c ≡ near_hand w c (w.carrier c) (w.own c).stage None
  near_before = ap (near_hand w c (w.carrier c) (w.own c).stage) hand

  pub near_after : (v : World) (k : Carrier) → IsOne w v c k → k.hand ≡ None →
      near_of v c ≡ near_hand v c k (w.own c).stage None
  near_after v k o free = λ z. near_hand v c (o.mine z) (o.own z c).stage (hand_is z)
    where
      hand_is : (v.carrier c).hand ≡ None
      hand_is = ap (λ (x : Carrier). x.hand) o.mine ∙ free

  -- nearer by what is free of the hand
  nearer : (v : World) (k : Carrier) → IsOne w v c k → k.hand ≡ None → k.putting ≡ (w.carrier c).putting →
      near_free v c k (w.own c).stage < near_free w c (w.carrier c) (w.own c).stage →
      near_of v c < near_of w c
  nearer v k o free same less =
      let l = parked_less (w.carrier c).putting (near_free v c k (w.own c).stage)
      (near_free w c (w.carrier c) (w.own c).stage) less in
      let p = ap (λ (t : Bool). if t then 5 + near_free v c k (w.own c).stage else near_free v c k
      (w.own c).stage) same in
      let a = near_after v k o free in
      let e = near_before in
      omega (arith, l, p, a, e)

  -- A carrier that begins to switch looks at its own context.
  pub begun_nearer : (v : World) (k : Carrier) → IsOne w v c k → k.hand ≡ None →
      k.putting ≡ (w.carrier c).putting →
      k.switching ≡ true → k.help ≡ None → is_finished (w.own c).stage ≡ false → begins (w.carrier c) ≡ true →
      near_of v c < near_of w c
  begun_nearer v k o free same switching help unfinished b =
      nearer v k o free same (omega (arith, now, before, f, looked_most v c k k.looked))
    where
      f : finished_worth (w.own c).stage ≡ 0
      f = ap (λ (t : Bool). if t then 40 else 0) unfinished

      now : near_free v c k (w.own c).stage ≡ finished_worth (w.own c).stage + 5 * 4 + looked_place v c k
          k.looked
      now =
          λ z. if (not (switching z) && wants_switch k) || (not (switching z) && not (is_some k.goal)) then 31
          else finished_worth (w.own c).stage + 5 * level_of v (help z) + looked_place v c k k.looked

      before : near_free w c (w.carrier c) (w.own c).stage ≡ 31
      before = ap (λ (t : Bool). if t then 31 else finished_worth (w.own c).stage + 5 * level_of w
          (w.carrier c).help
          + looked_place w c (w.carrier c) (w.carrier c).looked) b

  -- A carrier that has seen the word of the context that it is to take, or sees that it has changed.
  module _ (stays : begins (w.carrier c) ≡ false) where
    abbrev place_before : ℕ
    place_before = looked_place w c (w.carrier c) (w.carrier c).looked

    pub before_is : near_free w c (w.carrier c) (w.own c).stage ≡
        finished_worth (w.own c).stage + 5 * level_of w (w.carrier c).help + place_before
    before_is = ap (λ (t : Bool). if t then 31 else finished_worth (w.own c).stage + 5 * level_of w
        (w.carrier c).help
        + place_before) stays

    pub looked_nearer : (v : World) (o : Option ContextWord) → IsOne w v c (record (w.carrier c) {
      looked =
          o;
    }) →
        looked_place v c (record (w.carrier c) { looked = o }) o < place_before → near_of v c < near_of w c
    looked_nearer v o one less =
        nearer v (record (w.carrier c) { looked = o }) one hand refl
        (omega (arith, now, before_is, less, level_same w v one.threads one.own (w.carrier c).help))
      where
        now : near_free v c (record (w.carrier c) { looked = o }) (w.own c).stage ≡
            finished_worth (w.own c).stage + 5 * level_of v (w.carrier c).help
            + looked_place v c (record (w.carrier c) { looked = o }) o
        now = ap (λ (t : Bool). if t then 31 else finished_worth (w.own c).stage + 5 * level_of v
            (w.carrier c).help
            + looked_place v c (record (w.carrier c) { looked = o }) o) stays

    -- the word is the one that is there
    pub saw_nearer : (word : ContextWord) → (w.carrier c).looked ≡ None →
        word_of w (context_at c (target_of (w.carrier c))) ≡ word →
        near_of (with_carrier w c (looking (w.carrier c) word)) c < near_of w c
    saw_nearer word blind is =
        looked_nearer (with_carrier w c (looking (w.carrier c) word)) (Some word)
        (one_with w c (looking (w.carrier c) word)) (omega (arith, now, before))
      where
        before : place_before ≡ 2
        before = ap (looked_place w c (w.carrier c)) blind

        there : same_word word (word_of (with_carrier w c (looking (w.carrier c) word)) (context_at c
            (target_of (w.carrier c))))
            ≡ true
        there =
            ap (same_word word) (words_same w (with_carrier w c (looking (w.carrier c) word)) c
            (looking (w.carrier c) word)
            (one_with w c (looking (w.carrier c) word)) (context_at c (target_of (w.carrier c))) ∙ is)
            ∙ word_same word

        now : looked_place (with_carrier w c (looking (w.carrier c) word)) c (looking (w.carrier c) word)
            (Some word) ≡ 1
        now = ap (λ (t : Bool). if t then 1 else 3) there

    -- The helped context holds nothing: it isn't helped any more.
    pub unhelped_nearer : (h : Help) → (w.carrier c).help ≡ Some h → (w.carrier c).looked ≡ None →
        holds w h.context h.lock ≡ false → near_of (with_carrier w c (without_help (w.carrier c))) c <
        near_of w c
    unhelped_nearer h helps blind released =
        nearer (with_carrier w c (without_help (w.carrier c))) (without_help (w.carrier c))
        (one_with w c (without_help (w.carrier c))) hand refl (omega (
          arith,
          now,
          before_is,
          before,
          level,
          there,
        ))
      where
        before : place_before ≡ 2
        before = ap (looked_place w c (w.carrier c)) blind

        level : level_of w (w.carrier c).help ≡ 5
        level = ap (level_of w) helps ∙ far (holds w h.context h.lock) (3 - rank_of w h) released
          where
            far : (t : Bool) (n : ℕ) → t ≡ false → ◌≡◌ {A = ℕ} (if t then n else 5) 5
            far false n e = refl
            far true n e = absurd (false≢true (sym e))

        there : looked_place (with_carrier w c (without_help (w.carrier c))) c (without_help (w.carrier c))
            (w.carrier c).looked ≡ 2
        there = ap (looked_place (with_carrier w c (without_help (w.carrier c))) c (without_help
            (w.carrier c))) blind

        now : near_free (with_carrier w c (without_help (w.carrier c))) c (without_help (w.carrier c))
            (w.own c).stage ≡
            finished_worth (w.own c).stage + 5 * 4 + looked_place (with_carrier w c (without_help
            (w.carrier c))) c
            (without_help (w.carrier c)) (w.carrier c).looked
        now = ap (λ (t : Bool). if t then 31 else finished_worth (w.own c).stage + 5 * 4
            + looked_place (with_carrier w c (without_help (w.carrier c))) c (without_help (w.carrier c))
            (w.carrier c).looked) stays
