-- A move in the raw world, and all of its carriers.
use Rattle.std.proofs.Common.{◌≡◌, ℕ, ◌<◌, ◌==◌, Bool, true, false, length, get_or, refl}
use Rattle.std.proofs.Common.{sym, ap, ◌∙◌, subst, Option, Some, List, arith, inl, inr}
use Rattle.std.specs.Prelude.{if◌then◌else◌, IfSome, slice_set}
use Rattle.std.proofs.lemmas.Bool.Decides.{eqb_tells}
use Rattle.std.proofs.lemmas.List.{get_or-set_same, get_or-set_other, length-set}
use Rattle.k_ids.specs.ContextWords.{IsContextSpelling, context_word_of}
use Rattle.k_locks.specs.declared.locks.WordName.TheVariants as name
use Rattle.k_locks.specs.Places.{slot_of}
use Rattle.k_model.specs.Maps.{upd}
use Rattle.k_model.proofs.Maps.{upd_same, upd_other}
use Rattle.k_script.specs.Script.{Script}
use Rattle.k_ready.specs.Lists.{Ready}
use Rattle.k_locks.specs.declared.steps.Answer.{Answer}
use Rattle.k_caller.specs.Threads.{ThreadSeen}
use Rattle.k_context.specs.Contexts.{ContextSeen, Thread, begun, has_switch, ran_of, step_of, with_switch, woken}
use Rattle.k_context.specs.Contexts as contexts
use Rattle.k_carrier.specs.declared.moves.Awaits.TheVariants as awaits
use Rattle.k_carrier.specs.declared.carrier.Target.{Target}
use Rattle.k_carrier.specs.declared.carrier.Target.TheVariants as target
use Rattle.k_carrier.specs.Answers as answer
use Rattle.k_carrier.specs.Asked.{LookAt, PutDown, Run, Take, ask_of, asked, asked_by, lock_acquired, move_by, out_of}
use Rattle.k_carrier.specs.Resumed as carriers
use Rattle.k_carrier.specs.Rules.{context_at, own_context, readied, target_of}
use Rattle.k_carrier.specs.Seen.{CarrierSeen, HandSeen, new_carrier}
use Rattle.k_world.specs.Moves.{answer_by, took}
use Rattle.k_world.specs.Steps.{carrier_after, moved, step_in}
use Rattle.k_world.specs.Steps as world
use Rattle.k_carrier.specs.Flags as flags
use Rattle.k_carrier.specs.Starts.{is_due}
use Rattle.k_moves.proofs.Outside.{park_is_same, slice_is_same, start_is_same}
use Rattle.k_world.specs.Worlds.{Slot, Resting, carrier_at, slot_at, word_at}
use Rattle.k_world.specs.Worlds as raw
use Rattle.k_tokens.specs.Steps.{ThreadStep, without_goal}
use Rattle.k_tokens.specs.World.{World, with_carrier}
use Rattle.k_tokens.specs.World as tokens
use Rattle.k_switching.specs.Rules as rules
use Rattle.k_moves.specs.Views.{IsViewed, ShowsContext, ShowsThread, carrier_view}
use Rattle.k_moves.specs.Switched.{IsStepped}
use Rattle.k_moves.specs.Told.{IsTold}
use Rattle.k_carrier.specs.Resumed.{told_in}
use Rattle.k_moves.proofs.Threads.{thread_carrier, thread_steps}
use Rattle.k_moves.specs.Moved.{IsInHand, is_replaced}
use Rattle.k_moves.specs.Sums.{AreViewed, IsThere, MayMove}
use Rattle.k_moves.proofs.Looks.{gone_is, look_asks, look_drops, look_same, take_asks}
use Rattle.k_moves.proofs.Wins.{not_readied, take_lost, take_ready}
use Rattle.k_moves.proofs.Takes.{take_is_same}
use Rattle.k_moves.proofs.Gives.{give_is_same}

module _ (script : Script) (c : ℕ) (r : raw.World) where
  abbrev K : CarrierSeen
  K = carrier_at r c

  -- the carrier after its move
  abbrev pub Next : CarrierSeen
  Next = carriers.resumed (asked script K) (answer_by r (out_of script K))

  next_is : carrier_after (step_in script c r) ≡ Next
  unfolding step_in
  next_is = refl

  carriers_moved : (moved script c r).carriers ≡ slice_set r.carriers c Next
  unfolding moved step_in
  carriers_moved = refl

  -- with one of them changed
  pub set_viewed : (r' : raw.World) (k : CarrierSeen) → r'.carriers ≡ slice_set r.carriers c k → (w w' : World) → AreViewed r w →
      c < length r.carriers → w'.carrier ≡ upd w.carrier c (carrier_view k) → AreViewed r' w'
  set_viewed r' k is w w' v lt e = record {
    carriers =
        λ d few. ap (λ (f : ℕ → tokens.Carrier). f d) e ∙ at d (subst (λ m. d < m) (ap length is ∙ length-set r.carriers c k) few)
        ∙ ap (λ (xs : List CarrierSeen). carrier_view (get_or xs d (new_carrier 0 0))) (sym is);
  }
    where
      at : (d : ℕ) → d < length r.carriers → upd w.carrier c (carrier_view k) d ≡
          carrier_view (get_or (slice_set r.carriers c k) d (new_carrier 0 0))
      at d few = elim (eqb_tells d c) [
        | inl q ↦
            ap (upd w.carrier c (carrier_view k)) q.1 ∙ upd_same w.carrier c (carrier_view k)
            ∙ ap carrier_view (sym (get_or-set_same r.carriers c k (new_carrier 0 0) lt)
            ∙ ap (λ m. get_or (slice_set r.carriers c k) m (new_carrier 0 0)) (sym q.1))
        | inr q ↦
            upd_other w.carrier c (carrier_view k) d q.1 ∙ v.carriers d few
            ∙ ap carrier_view (sym (get_or-set_other r.carriers c d k (new_carrier 0 0) q.1))
      ]

  pub move_viewed : (w w' : World) → AreViewed r w → c < length r.carriers → w'.carrier ≡ upd w.carrier c (carrier_view Next) →
      AreViewed (moved script c r) w'
  move_viewed = set_viewed (moved script c r) Next carriers_moved

  module _ (w : World) (s : ThreadStep) (all : AreViewed r w) (may : MayMove r w c) where
    viewed : IsViewed w K
    viewed = ap w.carrier may.number ∙ all.carriers c may.inside

    stepped : rules.carrier_step w K.number s ≡ rules.carrier_step w c s
    stepped = ap (λ m. rules.carrier_step w m s) may.number

    -- whatever the step, where the carrier comes out
    comes_out : (a : answer.AnswerSeen) → answer_by r (out_of script K) ≡ a →
        (rules.carrier_step w K.number s).carrier ≡ upd w.carrier K.number (carrier_view (carriers.resumed (asked script K) a)) →
        AreViewed (moved script c r) (rules.carrier_step w c s)
    comes_out a e q =
        move_viewed w (rules.carrier_step w c s) all may.inside
        (ap (λ (x : World). x.carrier) (sym stepped) ∙ q ∙ (λ z.
        upd w.carrier (may.number z) (carrier_view (carriers.resumed (asked script K) (sym e z)))))

    pub look_sum : (n : ℕ) → ask_of K ≡ LookAt n → is_replaced (target_of (readied K))
        (context_word_of (word_at r (name.Context n))) ≡ false → AreViewed (moved script c r) (rules.carrier_step w c s)
    look_sum n asks same =
        comes_out (answer.Looked (word_at r (name.Context n))) (ap (λ x. answer_by r (move_by script K x)) asks)
        (ap (λ (x : World). x.carrier) (look_same script w K n (word_at r (name.Context n)) s viewed may.given asks
        (may.words n (look_asks K n asks).place) same))

    pub give_sum : (h : HandSeen) → ask_of K ≡ PutDown h → ShowsContext w K.table h.context h.value →
        AreViewed (moved script c r) (rules.carrier_step w c s)
    give_sum h asks shows =
        comes_out answer.Given (ap (λ x. answer_by r (move_by script K x)) asks)
        (give_is_same script w K h s viewed asks shows).carrier

    pub replaced_sum : (n : ℕ) → ask_of K ≡ LookAt n → is_replaced (target_of (readied K))
        (context_word_of (word_at r (name.Context n))) ≡ true →
        AreViewed (moved script c r) (with_carrier w c (without_goal (w.carrier c)))
    replaced_sum n asks gone =
        move_viewed w (with_carrier w c (without_goal (w.carrier c))) all may.inside
        (ap (upd w.carrier c) (ap without_goal (all.carriers c may.inside
        ∙ ap carrier_view (sym (gone_is K (context_word_of bits) gone).same))
        ∙ sym (look_drops script w K n bits s viewed may.given asks (may.words n (look_asks K n asks).place) gone)
        ∙ ap (λ a. carrier_view (carriers.resumed (asked script K) a))
        (sym (ap (λ x. answer_by r (move_by script K x)) asks))))
      where
        bits : ℕ
        bits = word_at r (name.Context n)

    -- A TAKE

    took_hand : (k : CarrierSeen) (t : Target) (v : ContextSeen) →
        (v' : ContextSeen) × IsInHand (carriers.after_take k t v) (context_at k t) v'
    took_hand k (target.Helped n) v = (v, refl)
    took_hand k (target.GoalOf g) v = (woken v, refl)
    took_hand k target.Own v = by (has_switch v)
      where
        by : (b : Bool) → (v' : ContextSeen) × IsInHand (if b then carriers.in_hand k
            (own_context k) v else carriers.switch_begun k v) (own_context k) v'
        by true = (v, refl)
        by false = (with_switch (carriers.switch_call k) v, refl)

    module _ (n bits : ℕ) (asks : ask_of K ≡ Take n bits) (there : IsThere r n bits) where
      still : readied K ≡ K
      still = not_readied K (take_ready K n bits asks)

      at : context_at K (target_of K) ≡ n
      at = ap (λ (x : CarrierSeen). context_at x (target_of x)) (sym still) ∙ (take_asks K n bits asks).place

      spelled : IsContextSpelling bits
      spelled =
          subst (λ o. IfSome o IsContextSpelling) (ap (λ (x : CarrierSeen). x.looked) (sym still)
          ∙ (take_asks K n bits asks).looked) may.looked

      in_hand_then : (v : ContextSeen) → (v' : ContextSeen) × IsInHand (carriers.resumed (asked script K) (answer.Took v)) n v'
      in_hand_then v =
          let h = took_hand (record K { awaits = awaits.Nothing }) (target_of K) v in (
            h.0,
            ap (λ (x : CarrierSeen). x.hand) resumes ∙ subst
                (λ m. (carriers.after_take (record K { awaits = awaits.Nothing }) (target_of K) v).hand ≡
                Some (record { context = m; value = h.0 })) at h.1,
          )
        where
          resumes : carriers.resumed (asked script K) (answer.Took v) ≡
              carriers.after_take (record K { awaits = awaits.Nothing }) (target_of K) v
          resumes =
              ap (λ a. carriers.resumed (asked_by script K a) (answer.Took v)) asks
              ∙ ap (λ (x : CarrierSeen). carriers.after_take (record x { awaits = awaits.Nothing }) (target_of x) v) still

      answered : answer_by r (out_of script K) ≡ (if word_at r (name.Context n) ==
          bits then took (word_at r (name.Context n)) (slot_at r (slot_of n)) else answer.TakeLost
          (word_at r (name.Context n)))
      answered = ap (λ x. answer_by r (move_by script K x)) asks

      pub take_sum : AreViewed (moved script c r) (rules.carrier_step w c s)
      take_sum = elim (eqb_tells (word_at r (name.Context n)) bits) [
        | inl e ↦ won e.0 e.1 (there.lies e.1)
        | inr e ↦
            comes_out (answer.TakeLost (word_at r (name.Context n)))
            (answered ∙ ap (λ (b : Bool). if b then took (word_at r (name.Context n)) (slot_at r (slot_of n)) else answer.TakeLost
            (word_at r (name.Context n))) e.0) (ap (λ (x : World). x.carrier)
            (take_lost script w K n bits s viewed may.given asks (word_at r (name.Context n))
            (may.words n (take_asks K n bits asks).place) spelled (may.spelled n) e.1))
      ]
        where
          won : (word_at r (name.Context n) == bits) ≡ true → word_at r (name.Context n) ≡ bits →
              (v : ContextSeen) × (slot_at r (slot_of n) ≡ Resting v) → AreViewed (moved script c r) (rules.carrier_step w c s)
          won b e lies =
              comes_out (answer.Took lies.0) (answered ∙ ap (λ (b : Bool).
              if b then took (word_at r (name.Context n)) (slot_at r (slot_of n)) else answer.TakeLost
              (word_at r (name.Context n))) b ∙ ap (took (word_at r (name.Context n))) lies.1)
              (take_is_same script w K n bits s lies.0 (in_hand_then lies.0).0 viewed may.given asks
              (may.words n (take_asks K n bits asks).place ∙ ap context_word_of e) (may.rests n lies.0 lies.1)
              (in_hand_then lies.0).1).carrier

    -- A STEP OF A SECTION

    pub switch_sum : (a : Answer) (n : ℕ) (v : ContextSeen) (ready : Option tokens.ContextName) (l l' : Ready) →
        answer_by r (out_of script K) ≡ answer.Section a → IsStepped w (rules.carrier_step w K.number s) K
        (carriers.resumed (asked script K) (answer.Section a)) n v ready l l' →
        AreViewed (moved script c r) (rules.carrier_step w c s)
    switch_sum a n v ready l l' e h = comes_out (answer.Section a) e h.carrier

    pub thread_sum : (a : Answer) (n : ℕ) (t : ThreadSeen) → answer_by r (out_of script K) ≡ answer.Section a →
        ask_of K ≡ Run (record { context = n; value = Thread t }) → ShowsThread w.threads K.table n t →
        IsTold w K.number K.table n K.goal (lock_acquired (step_of (begun script (Thread t)))) (told_in a)
        (ran_of (contexts.asked (begun script (Thread t))) a) s → AreViewed (moved script c r) (rules.carrier_step w c s)
    thread_sum a n t e asks shows told =
        comes_out (answer.Section a) e (ap (λ (x : World). x.carrier) (thread_steps script w K n t s viewed asks shows)
        ∙ thread_carrier script w K n t s viewed asks shows a told)

-- A START, the end of a slice and a park

module _ (c : ℕ) (r : raw.World) (w : World) (all : AreViewed r w) (may : MayMove r w c) where
  mine : IsViewed w (carrier_at r c)
  mine = ap w.carrier may.number ∙ all.carriers c may.inside

  set_by : (script : Script) (r' : raw.World) (k : CarrierSeen) → r'.carriers ≡ slice_set r.carriers c k → (w' : World) →
      w'.carrier ≡ upd w.carrier (carrier_at r c).number (carrier_view k) → AreViewed r' w'
  set_by script r' k is w' e =
      set_viewed script c r r' k is w w' all may.inside (e ∙ ap (λ m. upd w.carrier m (carrier_view k)) may.number)

  pub start_sum : (script : Script) (number : ℕ) → w.unmade ≡ is_due r.unstarted → number < 64 → number < length r.unstarted →
      AreViewed (world.started c number r) (rules.started w c number)
  unfolding world.started
  start_sum script number made few small =
      set_by script (world.started c number r) (flags.started number (carrier_at r c)) refl (rules.started w c number)
      (ap (λ m. (rules.started w m number).carrier) (sym may.number)
      ∙ ap (λ (x : World). x.carrier) (start_is_same w (carrier_at r c) number r.unstarted mine made
      (let z = may.given.starts in omega (arith, few, z)) small).world)

  pub slice_sum : (script : Script) → AreViewed (world.sliced c r) (rules.sliced w c)
  unfolding world.sliced
  slice_sum script =
      set_by script (world.sliced c r) (flags.sliced (carrier_at r c)) refl (rules.sliced w c)
      (ap (λ m. (rules.sliced w m).carrier) (sym may.number)
      ∙ ap (λ (x : World). x.carrier) (slice_is_same w (carrier_at r c) mine))

  pub park_sum : (script : Script) → flags.has_hand (carrier_at r c) ≡ true → AreViewed (world.parked c r) (rules.parked w c)
  unfolding world.parked
  park_sum script has =
      set_by script (world.parked c r) (flags.parked (carrier_at r c)) refl (rules.parked w c)
      (ap (λ m. (rules.parked w m).carrier) (sym may.number)
      ∙ ap (λ (x : World). x.carrier) (park_is_same w (carrier_at r c) mine has))
