-- A carrier that asks in vain comes nearer, since what it then helps ranks above.
use Rattle.std.proofs.Common.{◌≡◌, ℕ, ◌+◌, ◌-◌, ◌*◌, ◌<◌, ◌≤◌, Bool, true, false, not, refl, sym, ap, ◌∙◌}
use Rattle.std.proofs.Common.{subst}
use Rattle.std.proofs.Common.{arith, Option, Some, None}
use Rattle.std.specs.Prelude.{◌&&◌, is_some, if◌then◌else◌}
use Rattle.std.proofs.lemmas.Bool.{false≢true}
use Rattle.k_locks.specs.declared.locks.Lock.{Lock}
use Rattle.k_locks.specs.declared.locks.Lock.TheVariants as lock
use Rattle.k_tokens.specs.Good.{IsGood}
use Rattle.k_tokens.specs.Steps.{helping}
use Rattle.k_tokens.specs.World.{Carrier, ContextName, Help, OfCarrier, OfThread, World, holds}
use Rattle.k_switching.specs.Claims.{IsAsked}
use Rattle.k_switching.specs.Rules.{is_helped, is_interrupted, is_own, is_released, same_context}
use Rattle.k_switching.specs.Rules.{wants_switch}
use Rattle.k_switching.proofs.Rules.{Kept, kept_by}
use Rattle.k_work.specs.Near.{IsHeldAbove, finished_worth, hand_place, is_wanted_by, lacking_worth, level_of}
use Rattle.k_work.specs.Near.{near_hand, near_of}
use Rattle.k_work.specs.Near.{rank_by, rank_of}
use Rattle.k_work.proofs.Gives.{level_same, same_is}

rank_most : (t : Bool) (l : Option Lock) → rank_by t l ≤ 3
rank_most t (Some lock.Table) = omega arith
rank_most t (Some (lock.Thread n)) = omega arith
rank_most t (Some lock.Ready) = omega arith
rank_most true None = omega arith
rank_most false None = omega arith

place_most : (p t : Bool) → (if p then 4 else (if t then 0 else 4)) ≤ 4
place_most true t = omega arith
place_most false true = omega arith
place_most false false = omega arith

held_level : (w : World) (h : Help) → holds w h.context h.lock ≡ true → level_of w (Some h) ≡ 3 - rank_of w h
held_level w h e = rw e refl

not_interrupted : (s v : Bool) → s ≡ true → (not s && v) ≡ false
not_interrupted true v e = refl
not_interrupted false v e = absurd (false≢true e)

module _ (w : World) (c : ℕ) (good : IsGood w) (x : ContextName) (asked : IsAsked w c x) where
  kept : Kept w c x
  kept = kept_by w c x asked.kept

  -- It isn't interrupted: it would give another's context, and with its own it switches.
  quiet : is_interrupted (w.carrier c) ≡ false
  quiet = go (is_interrupted (w.carrier c)) refl
    where
      own_is : (y : ContextName) → is_own c y ≡ true → y ≡ OfCarrier c
      own_is (OfThread t) e = absurd (false≢true e)
      own_is (OfCarrier d) e = same_is (OfCarrier d) (OfCarrier c) e

      go : (t : Bool) → is_interrupted (w.carrier c) ≡ t → t ≡ false
      go false e = refl
      go true e =
          let own = own_is x (kept.quiet e) in
          let stands = (good.1.carriers c).switch_hand (asked.hand ∙ ap (λ (y : ContextName). Some y) own) in
          let switching = (good.1.carriers c).switch_own stands in
          absurd (false≢true (sym (not_interrupted (w.carrier c).switching (wants_switch (w.carrier c))
          switching) ∙ e))

  -- what it helps with this hand is held
  level_before : (r : ℕ) → r ≤ 3 → ((h : Help) → (w.carrier c).help ≡ Some h →
      holds w h.context h.lock ≡ true →
      rank_of w h < r) → (o : Option Help) → (w.carrier c).help ≡ o → (p : ℕ) →
      5 * (3 - r) + 4 < 5 * level_of w o + p
  level_before r most above None e p = omega (arith, most)
  level_before r most above (Some h) e p =
      let helped : is_helped (Some h) x ≡ true = ap (λ (o : Option Help). is_helped o x) (sym e)
      ∙ kept.helped (ap is_some e) in
      let same = same_is h.context x helped in
      let stays : is_released w (Some h) x ≡ false = ap (λ (o : Option Help). is_released w o x) (sym e)
      ∙ kept.kept in
      let there : holds w x h.lock ≡ true = by (same_context h.context x) (holds w x h.lock) helped stays in
      let held : holds w h.context h.lock ≡ true = ap (λ (y : ContextName). holds w y h.lock) same ∙ there in
      let l = held_level w h held in
      let a = above h e held in
      omega (arith, l, a, most)
    where
      by : (s t : Bool) → s ≡ true → (s && not t) ≡ false → t ≡ true
      by true true a q = refl
      by true false a q = absurd (false≢true (sym q))
      by false t a q = absurd (false≢true a)

  by_parts : (t : Bool) → t ≡ false → (f g l p l' p' : ℕ) → 5 * l' + p' < 5 * l + p →
      (if t then 32 else f + g + 5 * l' + p') < (if t then 32 else f + g + 5 * l + p)
  by_parts true e f g l p l' p' less = absurd (false≢true (sym e))
  by_parts false e f g l p l' p' less = omega (arith, less)

  -- A context finds what it wants held, and the carrier helps who holds it.
  pub vain_nearer : (v : World) (context : ContextName) (wanted : Option Lock) →
      IsHeldAbove w c (record { context = context; lock = wanted }) → v.threads ≡ w.threads → v.own ≡ w.own →
      v.carrier c ≡ helping (w.carrier c) context wanted → near_of v c < near_of w c
  vain_nearer v context wanted found threads own is =
      let now : near_of v c ≡ near_hand v c (helping (w.carrier c) context wanted) (w.own c).stage (Some x) =
      λ z. near_hand v c (is z) (own z c).stage (hand_is z) in
      let before : near_of w c ≡ near_hand w c (w.carrier c) (w.own c).stage (Some x) =
      ap (near_hand w c (w.carrier c) (w.own c).stage) asked.hand in
      let level = level_same w v threads own (Some (record { context = context; lock = wanted })) in
      let held = held_level w (record { context = context; lock = wanted }) found.held in
      let most = place_most (w.carrier c).putting
      (is_wanted_by v c (helping (w.carrier c) context wanted) (Some (record {
        context = context;
        lock =
            wanted;
      })) x) in
      let less = level_before (rank_of w (record { context = context; lock = wanted }))
      (rank_most (holds w context (Some lock.Table)) wanted) found.above (w.carrier c).help refl
      (hand_place w c (w.carrier c) x) in
      let parts = by_parts (is_interrupted (w.carrier c)) quiet (finished_worth (w.own c).stage)
      (lacking_worth (w.carrier c))
      (level_of w (w.carrier c).help) (hand_place w c (w.carrier c) x)
      (level_of v (Some (record { context = context; lock = wanted })))
      (hand_place v c (helping (w.carrier c) context wanted) x)
      (sums (level_of v (Some (record { context = context; lock = wanted })))
      (level_of w (Some (record { context = context; lock = wanted })))
      (rank_of w (record { context = context; lock = wanted })) (hand_place v c (helping (w.carrier c)
      context wanted) x)
      (level_of w (w.carrier c).help) (hand_place w c (w.carrier c) x) level held most less) in
      subst (λ (n : ℕ). n < near_of w c) (sym now)
      (subst (λ (n : ℕ). near_hand v c (helping (w.carrier c) context wanted) (w.own c).stage (Some x) < n)
      (sym before) parts)
    where
      hand_is : (v.carrier c).hand ≡ Some x
      hand_is = ap (λ (k : Carrier). k.hand) is ∙ asked.hand

      sums : (l l' r p m q : ℕ) → l ≡ l' → l' ≡ 3 - r → p ≤ 4 → 5 * (3 - r) + 4 < 5 * m + q →
          5 * l + p < 5 * m + q
      sums l l' r p m q a e most less = omega (arith, a, e, most, less)
