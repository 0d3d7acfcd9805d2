-- The carrier that comes to be settled by its step gives back a finished switch that has taken no thread.
use Rattle.std.proofs.Common.{◌≡◌, ℕ, ◌+◌, ◌<◌, ◌==◌, Bool, true, false, refl, sym, ap, ◌∙◌, subst, Option, Some, None, length}
use Rattle.std.specs.Prelude.{if◌then◌else◌}
use Rattle.std.proofs.lemmas.Bool.{eqb-true, false≢true}
use Rattle.k_ids.specs.ContextWords.{context_word_of}
use Rattle.k_locks.specs.declared.locks.WordName.TheVariants as name
use Rattle.k_locks.specs.Places.{slot_of}
use Rattle.k_script.specs.Script.{Script}
use Rattle.k_switch.specs.declared.goal.Switched.{Switched}
use Rattle.k_context.specs.Contexts.{switched_of}
use Rattle.k_carrier.specs.declared.moves.Awaits.TheVariants as awaits
use Rattle.k_carrier.specs.declared.moves.Stepped.TheVariants as stepped
use Rattle.k_carrier.specs.Answers.{AnswerSeen}
use Rattle.k_carrier.specs.Answers as answers
use Rattle.k_carrier.specs.Asked.{CarrierAsk, LookAt, PutDown, Run, Take, ask_of, asked_by}
use Rattle.k_carrier.specs.Flags.{is_settled}
use Rattle.k_carrier.specs.Resumed.{heard, resumed, switched_to}
use Rattle.k_carrier.specs.Rules.{begins, is_own, is_released, own_switched, readied, switched_in, target_of}
use Rattle.k_carrier.specs.Seen.{CarrierSeen, HandSeen}
use Rattle.k_carrier.specs.Told.{told_switched}
use Rattle.k_carriers.specs.Kernel.{is_told_idle}
use Rattle.k_world.specs.Moves.{took}
use Rattle.k_world.specs.Steps.{moved, told_of}
use Rattle.k_world.specs.Worlds.{Away, Guarded, Resting, Slot, World, carrier_at, slot_at, word_at}
use Rattle.k_places.specs.Memory.{Memory, memory_of}
use Rattle.k_places.proofs.Places.{held_is}
use Rattle.k_joint.proofs.Carried.{put_down_hand}
use Rattle.k_joint.proofs.Runs.{hand_is}
use Rattle.k_tokens.specs.World as tokens
use Rattle.k_tokens.specs.World.{has_switch}
use Rattle.k_moves.specs.Views.{goal_in}
use Rattle.k_aligned.specs.Aligned.{found_in}
use Rattle.k_handling.proofs.Words.{hand_viewed}
use Rattle.k_running.specs.Running.{KernelHolds}
use Rattle.k_ending.specs.Ending.{IsFreshIn}
use Rattle.k_ending.proofs.Settled.{facts, kernel_of, no_switch, settled, viewed}
use Rattle.k_ending.proofs.Steps.{After, IsAs, Told, after_is, begun_switching, has_goal, look_as}
use Rattle.k_ending.proofs.Steps.{readied_same, take_holds, told_is}

not_empty : {A : Type 0} (x : A) → Some x ≡ None → ⊥
not_empty x e = absurd cc

module _ (script : Script) (w : World) (h : KernelHolds script w) (c : ℕ) (low : c < length w.carriers) where
  abbrev K : CarrierSeen
  K = carrier_at w c

  abbrev M : Memory
  M = memory_of w

  -- WHO HAS A GOAL, or a context in hand, is counted

  goal_counted : K.switching ≡ false → begins K ≡ false → K.counted ≡ true
  goal_counted calm quiet =
      let g = has_goal K quiet calm in
      let none = no_switch script w h c low calm in
      let own = h.view.own c in
      let k = h.view.carrier c in
      sym (ap (λ (t : Bool). if t then own.counted else k.counted) none
      ∙ ap (λ (x : tokens.Carrier). x.counted) (viewed script w h c low))
      ∙ (facts script w h c).counted g.0.id
      (ap (λ (t : Bool). if t then own.goal else k.goal) none
      ∙ ap (λ (x : tokens.Carrier). x.goal) (viewed script w h c low) ∙ ap goal_in g.1)

  hand_counted : (x : HandSeen) → K.hand ≡ Some x → K.switching ≡ false → K.counted ≡ true
  hand_counted x hand calm =
      let same = viewed script w h c low in
      sym (ap (λ (k : tokens.Carrier). k.counted) same)
      ∙ h.whole.counted c (subst (λ n. c < n) (sym h.aligned.count) low) _
      (hand_viewed script w h.board h.view h.state (kernel_of script w h) c (Some x) low hand)
      (ap (λ (k : tokens.Carrier). k.switching) same ∙ calm)

  -- it isn't settled by a step that leaves it as it is but for its goal
  never_settled : (y : CarrierSeen) → IsAs (readied K) y → is_settled y ≡ true → ⊥
  never_settled y same e = by (begins K) refl
    where
      calm : (readied K).switching ≡ false
      calm = sym same.switching ∙ (settled y e).calm

      by : (t : Bool) → begins K ≡ t → ⊥
      by true q = absurd (false≢true (sym calm ∙ begun_switching K q))
      by false q =
          let same_k = readied_same K q in
          absurd (false≢true (sym (settled y e).uncounted ∙ same.counted ∙ ap (λ (k : CarrierSeen). k.counted) same_k
          ∙ goal_counted (ap (λ (k : CarrierSeen). k.switching) (sym same_k) ∙ calm) q))

  -- A GIVE of its own context, with a finished switch

  pub record IsOwnOver (x : HandSeen) (s : Switched) : Type 0 where
    pub found : found_in w (script.table + c) ≡ Some x.value
    pub over : switched_of x.value ≡ Some s

  pub own_over : (x : HandSeen) (s : Switched) → K.hand ≡ Some x → own_switched K x ≡ Some s → IsOwnOver x s
  own_over x s hand e = by (is_own K x) refl e
    where
      by : (t : Bool) → is_own K x ≡ t → switched_in t x.value ≡ Some s → IsOwnOver x s
      by false q z = absurd cc
      by true q z =
          let a = h.aligned.carriers c low in
          let place : x.context ≡ script.table + c =
          eqb-true x.context (K.table + K.number) q ∙ (λ i. a.sound.table i + a.number i) in record {
            found =
                ap (found_in w) (sym place)
                ∙ held_is M.context M.slot M.hand c x h.aligned.shows.shows.places (hand_is w c ∙ hand);
            over = z;
          }

  module _ (fresh : IsFreshIn script w c) where
    gives : (x : HandSeen) → K.hand ≡ Some x → (y : CarrierSeen) → y.switching ≡ K.switching → y.counted ≡ K.counted →
        (o : Option Switched) → own_switched K x ≡ o → is_settled (switched_to y o) ≡ true →
        is_told_idle (told_switched o) ≡ true
    gives x hand y switching counted None q e =
        let s = settled y e in
        absurd (false≢true (sym s.uncounted ∙ counted ∙ hand_counted x hand (sym switching ∙ s.calm)))
    gives x hand y switching counted (Some s) q e =
        let over = own_over x s hand q in
        let idle = fresh x.value s over.found over.over (settled (switched_to y (Some s)) e).goal in
        ap (λ (t : Bool). is_told_idle (if t then stepped.Idle else stepped.On)) idle

    abbrev Taking : ℕ → ℕ → AnswerSeen → CarrierSeen
    Taking n bits a = resumed (asked_by script K (Take n bits)) a

    loses : (n bits : ℕ) → is_settled (Taking n bits (answers.TakeLost (word_at w (name.Context n)))) ≡ true → ⊥
    loses n bits e =
        never_settled (Taking n bits (answers.TakeLost (word_at w (name.Context n))))
        (record { switching = refl; counted = refl }) e

    takes : (n bits : ℕ) (t : Bool) (s : Slot) →
        is_settled (Taking n bits (if t then took (word_at w (name.Context n)) s
        else answers.TakeLost (word_at w (name.Context n)))) ≡ true → ⊥
    takes n bits true (Resting v) e =
        let x : CarrierSeen = heard (asked_by script K (Take n bits)) in
        take_holds x (target_of x) v (settled (Taking n bits (answers.Took v)) e).free
    takes n bits true (Guarded g) e = loses n bits e
    takes n bits true Away e = loses n bits e
    takes n bits false s e = loses n bits e

    settles : (a : CarrierAsk) → ask_of K ≡ a → is_settled (After script w c a) ≡ true →
        is_told_idle (Told script w c a) ≡ true
    settles (Run x) q e = absurd (not_empty _ (settled (After script w c (Run x)) e).free)
    settles (LookAt n) q e =
        let x : CarrierSeen = heard (asked_by script K (LookAt n)) in
        let kept = look_as x (target_of x) (context_word_of (word_at w (name.Context n))) (word_at w (name.Context n)) in
        absurd (never_settled (After script w c (LookAt n))
        (record { switching = kept.switching; counted = kept.counted }) e)
    settles (Take n bits) q e = absurd (takes n bits (word_at w (name.Context n) == bits) (slot_at w (slot_of n)) e)
    settles (PutDown x) q e =
        gives x (put_down_hand K x q)
        (record K {
          hand = None;
          putting = false;
          help = if is_released K x then None else K.help;
          awaits = awaits.Nothing;
        }) refl refl (own_switched K x) refl e

    pub ends_idle : is_settled (carrier_at (moved script c w) c) ≡ true → is_told_idle (told_of script c w) ≡ true
    ends_idle e =
        ap is_told_idle (told_is script w c)
        ∙ settles (ask_of K) refl (ap is_settled (sym (after_is script w c low)) ∙ e)
