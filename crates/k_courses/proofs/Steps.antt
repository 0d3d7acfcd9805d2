-- After any step of the one carrier all holds again of its waits.
use Rattle.std.proofs.Common.{◌≡◌, ℕ, ◌^◌, ◌-◌, ◌<◌, ◌≤◌, ◌==◌, Bool, true, false, refl, sym, ap, ◌∙◌, subst, Option, Some, None}
use Rattle.std.proofs.Common.{length, get_or, arith, ◌⊎◌, inl, inr}
use Rattle.std.specs.Prelude.{◌||◌, not, is_some}
use Rattle.std.proofs.lemmas.Bool.{cases_Bool, cases_lt}
use Rattle.std.proofs.lemmas.List.{get_or_past}
use Rattle.k_locks.specs.declared.steps.Answer.{Answer}
use Rattle.k_locks.specs.declared.steps.Answer.TheVariants as answered
use Rattle.k_locks.specs.declared.steps.Step.{Step}
use Rattle.k_locks.specs.declared.steps.Told.{Told}
use Rattle.k_locks.specs.declared.steps.Told.TheVariants as told
use Rattle.k_locks.specs.Asks.{want_of}
use Rattle.k_locks.specs.Asks as asks
use Rattle.k_locks.specs.Steps.{is_again}
use Rattle.k_script.specs.Script.{Script}
use Rattle.k_context.specs.Contexts.{ContextSeen, asked, owner_of, step_of}
use Rattle.k_carrier.specs.declared.marks.Want.{Want}
use Rattle.k_carrier.specs.Asked.{CarrierAsk, LookAt, PutDown, Run, Take, ask_of, asked_by, move_by}
use Rattle.k_carrier.specs.Rules.{helps, readied}
use Rattle.k_carrier.specs.Running.{runner_of}
use Rattle.k_carrier.specs.Seen.{CarrierSeen, HandSeen, new_carrier}
use Rattle.k_world.specs.Marks.{Course, HeldUp, Onward, Still, course_by, course_of, dropped, got_by, has_mark, held_up, mark_at}
use Rattle.k_world.specs.Marks.{same_goal, standing_at, with_use}
use Rattle.k_world.specs.Moves.{answer_by}
use Rattle.k_world.specs.Steps.{is_helping, moved, step_in, unbroken_waits, waits_by}
use Rattle.k_world.specs.Worlds.{WaitLog, World, carrier_at, context_at}
use Rattle.k_world.proofs.Worlds.{lawful_moved, sized_moved}
use Rattle.k_marks.proofs.Contexts.{resumed_again}
use Rattle.k_places.specs.Memory.{at, memory_of}
use Rattle.k_places.specs.Shows.{IsInHand, Stands}
use Rattle.k_joint.specs.Ready.{IsTaking}
use Rattle.k_joint.proofs.Grabs.{there}
use Rattle.k_joint.proofs.Runs.{hand_is}
use Rattle.k_aligned.specs.Aligned.{IsAligned, found_in}
use Rattle.k_sections.proofs.Tables.{ThreadTables}
use Rattle.k_waits.specs.Waits.{IsWaiting, IsWaitingFor, WaitsHold}
use Rattle.k_waits.proofs.Asking.{asked_same, asks_remove}
use Rattle.k_waits.proofs.Carried.{carried}
use Rattle.k_waits.proofs.Courses.{Courses, kept, odd, onward, owned, taken}
use Rattle.k_waits.proofs.Outside.{stands_unbroken}
use Rattle.k_waits.proofs.Owed.{look_still, take_still}
use Rattle.k_onward.specs.Stepping.{IsStepping}
use Rattle.k_onward.proofs.Asks.{removing}
use Rattle.k_onward.proofs.Carriers.{Becomes, IsForSame, IsLike, after, give_is, like_same, look_is, readied_same, run_same}
use Rattle.k_onward.proofs.Carriers.{same_runner, same_works, take_is}
use Rattle.k_onward.proofs.Goes.{log_size, onward_once, onward_waits}
use Rattle.k_courses.proofs.Courses.{held_waits}
use Rattle.k_courses.proofs.Handed.{IsUnmoved, give_unmoved, look_unmoved, lost_unmoved, won_unmoved}
use Rattle.k_onward.proofs.Marks.{AreWithin, dropped_links, dropped_marks, held_size}
use Rattle.k_onward.proofs.Marks.{held_within, not_dropped, onward_size}
use Rattle.k_onward.proofs.Marks.{onward_within, used_links, used_standing}
use Rattle.k_onward.proofs.Stepping.{A, V, course, found_now, heard, was}
use Rattle.k_courses.proofs.Taking.{not_over, rests_same, takes_same}
use Rattle.k_courses.proofs.Victims.{removes_another}

not_false : (q : Bool) → not q ≡ false → q ≡ true
not_false true e = refl
not_false false e = absurd cc

-- a step that finds its context taken is to be asked again
told_again : (u : ContextSeen) (s : Step) (t : Told) → course_by u s (answered.Told t) ≡ Still → is_again (answered.Told t) ≡ true
told_again u s (told.Owned i) e = refl
told_again u s (told.Holds i) e = refl
told_again u s (told.Taken i c) e = refl
told_again u s (told.Loaded bits) e = absurd cc
told_again u s told.Stored e = absurd cc
told_again u s told.Won e = absurd cc
told_again u s (told.Lost bits) e = absurd cc
told_again u s told.Released e = absurd cc
told_again u s told.Placed e = absurd cc
told_again u s told.Removed e = absurd cc

still_again : (u : ContextSeen) (s : Step) (a : Answer) → course_by u s a ≡ Still → is_again a ≡ true
still_again u s (answered.Got g) e = absurd cc
still_again u s (answered.Told t) e = told_again u s t e

-- a context, wherever it is
context_found : (w : World) (i : ℕ) → context_at w i ≡ found_in w i
unfolding at
context_found w i = refl

module _ (tables : ThreadTables) (script : Script) (w : World) (s : IsStepping script w) (ws : WaitsHold script w) where
  abbrev K : CarrierSeen
  K = carrier_at w 0

  al : IsAligned script 0 (carrier_at w 0) s.before.view
  al = s.before.aligned.carriers 0 (let c = s.one in omega (arith, c))

  -- WHAT THE STEP MAKES OF THE LOG

  -- whether the goal is dropped
  abbrev Drops : CarrierAsk → Bool
  Drops a = not (same_goal (carrier_at w 0).goal (Becomes script w a).goal)

  abbrev CourseOf : CarrierAsk → Course
  CourseOf a = course_of (asked_by script (carrier_at w 0) a).hand (move_by script (carrier_at w 0) a)
      (answer_by w (move_by script (carrier_at w 0) a))

  log_is : (a : CarrierAsk) → ask_of (carrier_at w 0) ≡ a → (moved script 0 w).waits ≡ dropped 0 (Drops a)
      (waits_by w 0 (is_helping (asked_by script (carrier_at w 0) a) (asked_by script (carrier_at w 0) a).hand) (CourseOf a)
      (unbroken_waits w))
  unfolding moved step_in
  log_is a e =
      ap (λ z. dropped 0 (Drops z) (waits_by w 0
      (is_helping (asked_by script (carrier_at w 0) z) (asked_by script (carrier_at w 0) z).hand) (CourseOf z)
      (unbroken_waits w))) e

  -- it is enough to know it of the log before a goal is dropped
  finish : (b : Bool) (l : WaitLog) → (moved script 0 w).waits ≡ dropped 0 b l → length l.standing ≡ 1 → AreWithin l.marks →
      ((k : ℕ) → b ≡ false → standing_at l 0 ≡ Some k → (moved script 0 w).waits.marks ≡ l.marks →
      (moved script 0 w).waits.links ≡ l.links → IsWaiting script (moved script 0 w) k) → WaitsHold script (moved script 0 w)
  finish b l log size within waiting =
      let sized = sized_moved script 0 w in
      let marks = ap (λ (z : WaitLog). z.marks) log ∙ dropped_marks b l in
      let links = ap (λ (z : WaitLog). z.links) log ∙ dropped_links b l in
      record {
        carriers = sized.carriers ∙ ws.carriers;
        log = lawful_moved script 0 w ws.log;
        size = sized.standing ∙ ws.size;
        used = subst AreWithin (sym marks) within;
        waiting = λ k e.
            let st = stands_unbroken (moved script 0 w) k (sized.carriers ∙ ws.carriers) (sized.standing ∙ ws.size) e in
            let d = not_dropped b l k size (ap (λ z. standing_at z 0) (sym log) ∙ st.1) in
            waiting k d.0 d.1 marks links;
      }

  -- A STEP THAT IS NONE OF A SECTION

  other : (a : CarrierAsk) → ask_of (carrier_at w 0) ≡ a → CourseOf a ≡ Still →
      ((k : ℕ) → IsWaiting script w k → readied (carrier_at w 0) ≡ carrier_at w 0 →
      IsLike (carrier_at w 0) (Becomes script w a) × IsUnmoved script w (moved script 0 w)) → WaitsHold script (moved script 0 w)
  other a e still rests =
      finish (Drops a) (unbroken_waits w)
      (log_is a e ∙ ap (λ c. dropped 0 (Drops a) (waits_by w 0
      (is_helping (asked_by script (carrier_at w 0) a) (asked_by script (carrier_at w 0) a).hand) c (unbroken_waits w))) still)
      (log_size tables script w s ws) ws.used waits
    where
      waits : (k : ℕ) → Drops a ≡ false → standing_at (unbroken_waits w) 0 ≡ Some k →
          (moved script 0 w).waits.marks ≡ w.waits.marks → (moved script 0 w).waits.links ≡ w.waits.links →
          IsWaiting script (moved script 0 w) k
      waits k keeps st marks links =
          let m = ws.waiting k st in
          let calm = (stands_unbroken w k ws.carriers ws.size st).0 in
          let both = rests k m (readied_same (carrier_at w 0) calm m.works) in
          let is = after script w s.one a e in
          let for = like_same (carrier_at w 0) (Becomes script w a) both.0 (not_false _ keeps) in
          subst (IsWaitingFor script (moved script 0 w) k) (sym (ap (λ ms. (mark_at ms k).requester) marks))
          (carried script w (moved script 0 w) k (mark_at w.waits.marks k).requester (record {
            shows = both.1.shows;
            found = both.1.found;
            runner = ap runner_of is ∙ same_runner (carrier_at w 0) (Becomes script w a) for;
            works =
                ap (λ (c : CarrierSeen). c.switching || is_some c.goal) is ∙ same_works (carrier_at w 0) (Becomes script w a) for;
            help = elim both.0.help [
              | inl same ↦ inl (ap (λ (c : CarrierSeen). c.help) is ∙ same)
              | inr none ↦ inr (ap (λ (c : CarrierSeen). c.help) is ∙ none)
            ];
            marks = marks;
            links = links;
          }) m)

  looks : (n : ℕ) → ask_of (carrier_at w 0) ≡ LookAt n → WaitsHold script (moved script 0 w)
  looks n e =
      other (LookAt n) e (look_still (asked_by script (carrier_at w 0) (LookAt n)).hand n _)
      (λ k m ready. (look_is script w ready n, look_unmoved script w s n e))

  gives : (h : HandSeen) → ask_of (carrier_at w 0) ≡ PutDown h → WaitsHold script (moved script 0 w)
  gives h e =
      other (PutDown h) e refl (λ k m ready.
      let none = not_over script w s k (mark_at w.waits.marks k).requester m ready h e in (
        give_is script w h none,
        give_unmoved script w s h e (rests_same script w s k (mark_at w.waits.marks k).requester m ready h none),
      ))

  takes : (n bits : ℕ) → ask_of (carrier_at w 0) ≡ Take n bits → WaitsHold script (moved script 0 w)
  takes n bits e =
      other (Take n bits) e (take_still (asked_by script (carrier_at w 0) (Take n bits)).hand n bits _ _)
      (λ k m ready. (take_is script w ready n bits, by k m ready))
    where
      sound : IsTaking script 0 (carrier_at w 0)
      sound = record { sound = al.sound; number = al.number }

      by : (k : ℕ) → IsWaiting script w k → readied (carrier_at w 0) ≡ carrier_at w 0 → IsUnmoved script w (moved script 0 w)
      by k m ready = elim (cases_Bool ((memory_of w).context n == bits)) [
        | inr lost ↦ lost_unmoved script w s n bits e sound lost
        | inl won ↦
            let t = there script w 0 s.before.board s.before.aligned.shows s.within n bits e sound won in
            won_unmoved script w s n bits e sound won t.0 t.1
            (takes_same script w s k (mark_at w.waits.marks k).requester m ready n bits e sound won t.0 t.1)
      ]

  -- A STEP OF A SECTION

  module _ (x : HandSeen) (e : ask_of (carrier_at w 0) ≡ Run x) where
    abbrev Then : Course → WaitLog
    Then c = waits_by w 0 (helps (carrier_at w 0).help x.context) c (unbroken_waits w)

    log_run : (c : Course) → course_by (asked (V script w s x e)) (step_of (V script w s x e)) (A script w s x e) ≡ c →
        (moved script 0 w).waits ≡ dropped 0 (Drops (Run x)) (Then c)
    log_run c q =
        log_is (Run x) e ∙ ap (λ (a : Answer). dropped 0 (Drops (Run x)) (Then
        (course_by (asked (V script w s x e)) (step_of (V script w s x e)) a))) (heard script w s x e)
        ∙ ap (λ z. dropped 0 (Drops (Run x)) (Then z)) q

    for_same : Drops (Run x) ≡ false → IsForSame (carrier_at w 0) (carrier_at (moved script 0 w) 0)
    for_same keeps =
        subst (IsForSame (carrier_at w 0)) (sym (after script w s.one (Run x) e)) (run_same script w x (not_false _ keeps))

    goes : (v : ContextSeen) → course_by (asked (V script w s x e)) (step_of (V script w s x e)) (A script w s x e) ≡ Onward v →
        WaitsHold script (moved script 0 w)
    goes v q =
        let l = with_use 0 (has_mark v) (got_by (owner_of v) (unbroken_waits w)) in
        finish (Drops (Run x)) l (log_run (Onward v) q)
        (onward_size (has_mark v) (owner_of v) (unbroken_waits w) ∙ log_size tables script w s ws)
        (onward_within (has_mark v) (owner_of v) (unbroken_waits w) ws.used (onward_once tables script w s ws x e v q))
        (λ k keeps st marks links. onward_waits tables script w s ws x e v q (for_same keeps) k
        (ap (λ z. get_or z 0 None) (sym (used_standing (has_mark v) (got_by (owner_of v) (unbroken_waits w)))) ∙ st) marks
        (links ∙ used_links (has_mark v) (got_by (owner_of v) (unbroken_waits w))))

    held : (v : ContextSeen) (wanted : Want) (j : ℕ) →
        course_by (asked (V script w s x e)) (step_of (V script w s x e)) (A script w s x e) ≡ HeldUp v wanted j →
        WaitsHold script (moved script 0 w)
    held v wanted j q =
        let l = held_up 0 (helps (carrier_at w 0).help x.context) v wanted (found_in w j) (unbroken_waits w) in
        finish (Drops (Run x)) l
        (log_run (HeldUp v wanted j) q ∙ ap (λ c. dropped 0 (Drops (Run x))
        (held_up 0 (helps (carrier_at w 0).help x.context) v wanted c (unbroken_waits w))) (context_found w j))
        (held_size (helps (carrier_at w 0).help x.context) v wanted (found_in w j) (unbroken_waits w)
        ∙ log_size tables script w s ws)
        (held_within (helps (carrier_at w 0).help x.context) v wanted (found_in w j) (unbroken_waits w) ws.used few)
        (λ k keeps st marks links. held_waits tables script w s ws x e v wanted j q (for_same keeps) k (carrier_at w 0).help refl
        (found_in w j) refl st marks links)
      where
        few : (k : ℕ) → k < length w.waits.marks → (mark_at w.waits.marks k).allowed ≤ 2 ^ 32 - 1
        few k low = let a = (ws.log.waits k low).allowed in omega (arith, a)

    -- The one carrier has the context in its hand that would remove itself.
    not_taken : (c : Course) → Courses (memory_of w) (asked (V script w s x e)) (step_of (V script w s x e)) c → c ≡ Still →
        is_again (A script w s x e) ≡ true → ⊥
    not_taken _ (onward h) z again = absurd cc
    not_taken _ (owned l o q word) z again = absurd cc
    not_taken _ (kept id version q word) z again = absurd cc
    not_taken _ (odd id q strange) z again = absurd cc
    not_taken _ (taken id c version q word) z again = by (cases_lt c 1) st
      where
        st : IsInHand ((memory_of w).hand c) id.number version
        st =
            subst (Stands (memory_of w).slot (memory_of w).hand id.number) word
            (s.before.aligned.shows.shows.places.stands id.number)

        now : found_in (moved script 0 w) x.context ≡ Some (V script w s x e)
        now =
            found_now script w s x e ∙ ap Some (resumed_again (asked (V script w s x e)) (A script w s x e) again
            ∙ asked_same (V script w s x e) (asks.Context id.number) (ap want_of (asks_remove (V script w s x e) id q)))

        by : (c < 1) ⊎ (1 ≤ c) → IsInHand ((memory_of w).hand c) id.number version → ⊥
        by (inl low) hand =
            let zero : c ≡ 0 = omega (arith, low) in
            let mine : (memory_of w).hand c ≡ Some x = ap (memory_of w).hand zero ∙ was script w s x e in
            let same = (subst (λ (o : Option HandSeen). IsInHand o id.number version) mine hand).0 in
            removes_another script s.limits (moved script 0 w) s.later x.context (V script w s x e) id now
            (removing (V script w s x e) id (asks_remove (V script w s x e) id q)) (sym same)
        by (inr past) hand =
            let none : (memory_of w).hand c ≡ None =
            hand_is w c ∙ ap (λ (z : CarrierSeen). z.hand) (get_or_past w.carriers c (new_carrier 0 0)
            (let n = ws.carriers in omega (arith, past, n))) in
            subst (λ (o : Option HandSeen). IsInHand o id.number version) none hand

    runs : (c : Course) → course_by (asked (V script w s x e)) (step_of (V script w s x e)) (A script w s x e) ≡ c →
        WaitsHold script (moved script 0 w)
    runs (Onward v) q = goes v q
    runs (HeldUp v wanted j) q = held v wanted j q
    runs Still q =
        absurd (not_taken _ (course script w s x e) q
        (still_again (asked (V script w s x e)) (step_of (V script w s x e)) (A script w s x e) q))

  pub step_keeps : WaitsHold script (moved script 0 w)
  step_keeps = by (ask_of (carrier_at w 0)) refl
    where
      by : (a : CarrierAsk) → ask_of (carrier_at w 0) ≡ a → WaitsHold script (moved script 0 w)
      by (Run x) e = runs x e (course_by (asked (V script w s x e)) (step_of (V script w s x e)) (A script w s x e)) refl
      by (PutDown h) e = gives h e
      by (LookAt n) e = looks n e
      by (Take n bits) e = takes n bits e
