-- A move of a carrier in the running world finds contexts where they are, and leaves them there.
use Rattle.std.proofs.Common.{◌≡◌, ◌≢◌, ℕ, ◌==◌, Bool, true, false, refl, sym, ap, ◌∙◌, subst, Option, Some, inl, inr}
use Rattle.std.specs.Prelude.{if◌then◌else◌}
use Rattle.std.proofs.lemmas.Bool.{cases_Bool}
use Rattle.k_ids.specs.declared.context_word.ContextWord.TheVariants.{Taken}
use Rattle.k_ids.specs.ContextWords.{IsContextWord, IsVersion, context_bits, context_word_of}
use Rattle.k_locks.specs.declared.steps.Step.{Step}
use Rattle.k_locks.specs.Steps.{answer_of, word_of}
use Rattle.k_model.proofs.Maps.{upd_other, upd_same}
use Rattle.k_script.specs.Limits.{IsScript}
use Rattle.k_script.specs.Script.{Script}
use Rattle.k_context.specs.Contexts.{Carrier, ContextSeen, Thread, begun, step_of}
use Rattle.k_carrier.specs.declared.carrier.Target.{Target}
use Rattle.k_carrier.specs.Answers.{AnswerSeen, TakeLost}
use Rattle.k_carrier.specs.Asked.{CarrierAsk, LookAt, PutDown, Run, Take, ask_of, rested, resting_word, taken_word}
use Rattle.k_carrier.specs.Resumed.{resumed}
use Rattle.k_carrier.specs.Rules.{is_own}
use Rattle.k_carrier.specs.Seen.{CarrierSeen, HandSeen}
use Rattle.k_world.specs.Moves.{goods_for, took}
use Rattle.k_world.specs.Steps.{CarrierStep, carrier_after, entry_of, moved, step_in}
use Rattle.k_world.specs.Worlds.{World, Away, Resting, carrier_at, context_at}
use Rattle.k_marks.specs.Moved.{contexts_after, with_move, with_step}
use Rattle.k_board.specs.Boards.{Board}
use Rattle.k_board.specs.Facts.{AllSay}
use Rattle.k_board.specs.Places.{facts_of}
use Rattle.k_places.specs.Contexts.{IsShown, ShowsContext, programs_of}
use Rattle.k_places.specs.Memory.{Memory, Place, Same, at, memory_of, slot_filled}
use Rattle.k_places.specs.Shows.{AreInPlace, context_in}
use Rattle.k_places.proofs.Places.{held_is, version_held}
use Rattle.k_places.proofs.Raw.{word_is}
use Rattle.k_places.proofs.Words.{upd_own}
use Rattle.k_joint.specs.Ready.{IsTaking}
use Rattle.k_joint.specs.Runs.{ShowsLater, acting}
use Rattle.k_joint.proofs.Carried.{maps_asked, put_down_hand}
use Rattle.k_joint.proofs.Grabs.{Aim, Asks, Heard, IsThere, hand_then, there, value_taken}
use Rattle.k_joint.proofs.Runs.{MapsWith, StepWith, hand_is, hand_of_run}
use Rattle.k_kernel.specs.Moves.{CanMove, CanRun, HasRoom, IsRunnable}
use Rattle.k_kernel.specs.Worlds.{WorldHolds}
use Rattle.k_kernel.proofs.Agreeing.{facts_all}
use Rattle.k_kernel.proofs.Runs.{later_shown, move_within}
use Rattle.k_counted.proofs.Asked.{IsAsked, carrier_asked, thread_asked}
use Rattle.k_counted.proofs.Found.{IsElsewhere, found_is, found_with, other_found, word_shown}
use Rattle.k_counted.proofs.Moved.{Meets, by_number, put_there, step_meets}

module _ (script : Script) (limits : IsScript script) (room : HasRoom script) (c : ℕ) (w : World) (h : WorldHolds script w)
    (r : IsRunnable script c w) where
  abbrev pub K : CarrierSeen
  K = carrier_at w c

  abbrev pub M : Memory
  M = memory_of w

  abbrev pub B : Board
  B = h.board

  -- the contexts before the move
  abbrev pub Before : ℕ → Option ContextSeen
  Before = context_at w

  abbrev pub Step_by : CarrierAsk → CarrierStep
  Step_by = StepWith script w c

  abbrev Maps : CarrierAsk → Memory
  Maps = MapsWith script w c

  pub step_is : (a : CarrierAsk) → ask_of K ≡ a → step_in script c w ≡ Step_by a
  unfolding step_in
  step_is a e = ap Step_by e

  pub later : ShowsLater script B (acting (ask_of K)) (entry_of w (step_in script c w)) (moved script c w)
  later = later_shown script limits c w h room r

  places_then : (a : CarrierAsk) → ask_of K ≡ a → AreInPlace (Maps a).context (Maps a).slot (Maps a).hand
  places_then a e =
      subst (λ (m : Memory). AreInPlace m.context m.slot m.hand)
      (maps_asked script w c B h.shows (move_within script limits c w h r) a e) later.shows.shows.places

  -- IN THE HAND

  pub in_hand : (x : HandSeen) → K.hand ≡ Some x → M.hand c ≡ Some x
  in_hand x q = hand_is w c ∙ q

  pub held_found : (x : HandSeen) → K.hand ≡ Some x → Before x.context ≡ Some x.value
  held_found x q = found_is w x.context ∙ held_is M.context M.slot M.hand c x h.shows.shows.places (in_hand x q)

  pub held_shown : (x : HandSeen) → K.hand ≡ Some x →
      ShowsContext (B.seen x.context).word x.context (Some x.value) (B.context x.context)
  held_shown x q =
      subst (λ (o : Option ContextSeen). ShowsContext (B.seen x.context).word x.context o (B.context x.context))
      (held_is M.context M.slot M.hand c x h.shows.shows.places (in_hand x q)) (h.shows.shows.contexts x.context)

  pub can_run : (x : HandSeen) → ask_of K ≡ Run x → CanRun script w x
  can_run x e = subst (CanMove script c w) e r.move

  -- what the context in hand is asked for
  pub run_asked : (x : HandSeen) → ask_of K ≡ Run x → IsAsked B x.context (begun script x.value)
  run_asked x e = by x.value refl
    where
      facts : AllSay (programs_of script) B x.context (B.context x.context) (facts_of (B.context x.context).at)
      facts = facts_all script limits B w.history h.state h.holds x.context

      by : (v : ContextSeen) → x.value ≡ v → IsAsked B x.context (begun script x.value)
      by (Carrier k) q =
          subst (λ (v : ContextSeen). IsAsked B x.context (begun script v)) (sym q)
          (carrier_asked script B x.context facts k)
      by (Thread t) q =
          let shown : IsShown (B.seen x.context).word x.context t (B.context x.context) =
          subst (λ (v : ContextSeen). ShowsContext (B.seen x.context).word x.context (Some v) (B.context x.context)) q
          (held_shown x (hand_of_run K x e)) in
          let can : CanRun script w (record { context = x.context; value = Thread t }) =
          subst (λ (v : ContextSeen). CanRun script w (record { context = x.context; value = v })) q (can_run x e) in
          subst (λ (v : ContextSeen). IsAsked B x.context (begun script v)) (sym q)
          (thread_asked script B x.context facts t shown
          (ap (λ z. z.version) (sym (word_shown script w B h.shows x.context)) ∙ can.made) can.sound)

  -- WHERE CONTEXTS ARE, by what was asked

  abbrev Meets_after : CarrierAsk → Type 0
  Meets_after a =
      (n : ℕ) → context_in (Maps a).context (Maps a).slot (Maps a).hand n ≡ contexts_after script (Step_by a) Before n

  found_same : context_in M.context M.slot M.hand ≡ Before
  found_same = λ d n. sym (found_is w n) d

  abbrev Elsewhere : (a : CarrierAsk) → ask_of K ≡ a → ℕ → Type 0
  Elsewhere a e =
      IsElsewhere M.context (Maps a).context M.slot (Maps a).slot M.hand c (carrier_after (Step_by a)).hand (places_then a e)

  same_there : (a : CarrierAsk) (e : ask_of K ≡ a) (n : ℕ) → (Maps a).context n ≡ M.context n → (Maps a).slot n ≡ M.slot n →
      Elsewhere a e n → context_in (Maps a).context (Maps a).slot (Maps a).hand n ≡ Before n
  same_there a e n u s ne =
      other_found M.context (Maps a).context M.slot (Maps a).slot M.hand c (carrier_after (Step_by a)).hand (places_then a e) n
      u s ne ∙ sym (found_is w n)

  with_hands : (a : CarrierAsk) (e : ask_of K ≡ a) →
      ((n : ℕ) → Elsewhere a e n → context_in (Maps a).context (Maps a).slot (Maps a).hand n ≡
      with_move script (Step_by a).move (Step_by a).answer Before n) → Meets_after a
  with_hands a e f n =
      found_with M.context (Maps a).context M.slot (Maps a).slot M.hand c (carrier_after (Step_by a)).hand (places_then a e)
      (with_move script (Step_by a).move (Step_by a).answer Before) f n

  runs_meet : (x : HandSeen) → ask_of K ≡ Run x → Meets_after (Run x)
  runs_meet x e = with_hands (Run x) e (λ n ne. there_is n ne)
    where
      st : Step
      st = step_of (begun script x.value)

      Hand : Option HandSeen
      Hand = (carrier_after (Step_by (Run x))).hand

      meets : Meets script M B c x.context Hand h.shows.shows st (goods_for w st)
      meets =
          let asked = run_asked x e in
          subst (λ (s : Step). Meets script M B c x.context Hand h.shows.shows s (goods_for w st)) (sym asked.step)
          (step_meets script M B c x.context Hand h.shows.shows asked.ask asked.hand (goods_for w st) asked.permits)

      there_is : (n : ℕ) → Elsewhere (Run x) e n →
          context_in (Maps (Run x)).context (Maps (Run x)).slot (Maps (Run x)).hand n ≡
          with_move script (Step_by (Run x)).move (Step_by (Run x)).answer Before n
      there_is n ne =
          meets (places_then (Run x) e) n ne
          ∙ (λ d. with_step script st (answer_of st (sym (word_is w (word_of st)) d) (goods_for w st)) (found_same d) n)

  puts_meet : (x : HandSeen) → ask_of K ≡ PutDown x → Meets_after (PutDown x)
  puts_meet x e = with_hands (PutDown x) e (λ n ne. by n ne)
    where
      N : ℕ
      N = x.context

      Rests : ContextSeen
      Rests = rested (is_own K x) x.value

      version : IsVersion (version_held x)
      version =
          let was = in_hand x (put_down_hand K x e) in
          let whole : IsContextWord (Taken c (version_held x)) =
          subst IsContextWord (h.shows.shows.places.taken c x was) (h.shows.shows.places.spelled N).whole in whole.1

      by : (n : ℕ) → Elsewhere (PutDown x) e n →
          context_in (Maps (PutDown x)).context (Maps (PutDown x)).slot (Maps (PutDown x)).hand n ≡
          with_move script (Step_by (PutDown x)).move (Step_by (PutDown x)).answer Before n
      by n ne =
          by_number (λ z. Elsewhere (PutDown x) e z →
          context_in (Maps (PutDown x)).context (Maps (PutDown x)).slot (Maps (PutDown x)).hand z ≡
          with_move script (Step_by (PutDown x)).move (Step_by (PutDown x)).answer Before z) n N
          (λ q. put_there M.context M.slot M.hand c (carrier_after (Step_by (PutDown x))).hand N x.value Rests version
          ∙ sym (upd_same Before N (Some Rests)))
          (λ d q. same_there (PutDown x) e n (upd_other M.context N (context_bits (resting_word x.value)) n d)
          (upd_other M.slot N (Resting Rests) n d) q ∙ sym (upd_other Before N (Some Rests) n d)) ne

  looks_meet : (m : ℕ) → ask_of K ≡ LookAt m → Meets_after (LookAt m)
  looks_meet m e =
      with_hands (LookAt m) e (λ n ne. same_there (LookAt m) e n (ap (λ (f : ℕ → ℕ). f n) (upd_own M.context m)) refl ne)

  -- A TAKE

  pub is_taking : (m bits : ℕ) → ask_of K ≡ Take m bits → IsTaking script c K
  is_taking m bits e = subst (CanMove script c w) e r.move

  module _ (m bits : ℕ) (e : ask_of K ≡ Take m bits) where
    abbrev pub Test : Bool
    Test = M.context m == bits

    abbrev pub Asked : CarrierSeen
    Asked = Asks script w c B h.shows (move_within script limits c w h r) m bits e (is_taking m bits e)

    abbrev pub Hearing : CarrierSeen
    Hearing = Heard script w c B h.shows (move_within script limits c w h r) m bits e (is_taking m bits e)

    abbrev pub Aiming : Target
    Aiming = Aim script w c B h.shows (move_within script limits c w h r) m bits e (is_taking m bits e)

    abbrev pub Answered : Bool → AnswerSeen
    Answered q = if q then took (M.context m) (M.slot m) else TakeLost (M.context m)

    pub answer_is : (Step_by (Take m bits)).answer ≡ Answered Test
    unfolding at
    answer_is = refl

    module _ (won : Test ≡ true) where
      pub found_there : (v : ContextSeen) × IsThere script w c B h.shows (move_within script limits c w h r) m bits e
          (is_taking m bits e) won v
      found_there = there script w c B h.shows (move_within script limits c w h r) m bits e (is_taking m bits e) won

      -- what was there, and what comes into the hand
      abbrev pub Was : ContextSeen
      Was = found_there.0

      abbrev pub Taken_then : ContextSeen
      Taken_then = value_taken Hearing Aiming Was

      pub was_slot : M.slot m ≡ Resting Was
      was_slot = found_there.1.slot

      pub was_found : Before m ≡ Some Was
      was_found = found_is w m ∙ found_there.1.rests

      pub taken_hand : (carrier_after (Step_by (Take m bits))).hand ≡ Some (record { context = m; value = Taken_then })
      taken_hand =
          ap (λ (z : AnswerSeen). (resumed Asked z).hand) (answer_is ∙ ap Answered won)
          ∙ hand_then script w c B h.shows (move_within script limits c w h r) m bits e (is_taking m bits e) won Was
          found_there.1

    takes_meet : Meets_after (Take m bits)
    takes_meet =
        with_hands (Take m bits) e (λ n ne. by n ne)
      where
        New : ℕ
        New = context_bits (taken_word K.number (context_word_of bits))

        slot_other : (q : Bool) (n : ℕ) → n ≢ m → slot_filled (if q then Place m Away else Same) M.slot n ≡ M.slot n
        slot_other true n ne = upd_other M.slot m Away n ne
        slot_other false n ne = refl

        IsSame : ℕ → Type 0
        IsSame n =
            Elsewhere (Take m bits) e n →
            context_in (Maps (Take m bits)).context (Maps (Take m bits)).slot (Maps (Take m bits)).hand n ≡ Before n

        here : IsSame m
        here ne = elim (cases_Bool Test) [
          | inl won ↦ absurd (ne (record { context = m; value = Taken_then won }) (taken_hand won) refl)
          | inr lost ↦
              same_there (Take m bits) e m
              (upd_same M.context m (if Test then New else M.context m) ∙ ap (λ q. if q then New else M.context m) lost)
              (ap (λ q. slot_filled (if q then Place m Away else Same) M.slot m) lost) ne
        ]

        by : (n : ℕ) → IsSame n
        by n =
            by_number IsSame n m here (λ d ne. same_there (Take m bits) e n
            (upd_other M.context m (if Test then New else M.context m) n d) (slot_other Test n d) ne)

  -- ANY MOVE

  contexts_met : (a : CarrierAsk) → ask_of K ≡ a → Meets_after a
  contexts_met (Run x) e = runs_meet x e
  contexts_met (PutDown x) e = puts_meet x e
  contexts_met (LookAt m) e = looks_meet m e
  contexts_met (Take m bits) e = takes_meet m bits e

  pub contexts_moved : (n : ℕ) → context_at (moved script c w) n ≡ contexts_after script (step_in script c w) Before n
  contexts_moved n = by (ask_of K) refl
    where
      by : (a : CarrierAsk) → ask_of K ≡ a →
          context_at (moved script c w) n ≡ contexts_after script (step_in script c w) Before n
      by a e =
          found_is (moved script c w) n
          ∙ ap (λ (m : Memory). context_in m.context m.slot m.hand n)
          (maps_asked script w c B h.shows (move_within script limits c w h r) a e)
          ∙ contexts_met a e n ∙ ap (λ (s : CarrierStep). contexts_after script s Before n) (sym (step_is a e))
