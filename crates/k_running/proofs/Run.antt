-- A step of a thread's context, in the raw world, on the board and in the view: from one moment to the next.
use Rattle.std.proofs.Common.{◌≡◌, ℕ, ◌+◌, ◌<◌, true, refl, sym, ap, ◌∙◌, subst, Option, Some, List, [], ◌++◌, length}
use Rattle.k_ids.specs.declared.histories.Entry.{Entry}
use Rattle.k_ids.specs.declared.threads.ThreadId.{ThreadId}
use Rattle.k_ids.specs.ContextWords.{context_word_of}
use Rattle.k_locks.specs.Asks.{Remove}
use Rattle.k_locks.specs.Steps as steps
use Rattle.k_locks.specs.Steps.{answer_of, word_of}
use Rattle.k_locks.specs.declared.locks.Lock.{Lock}
use Rattle.k_locks.specs.declared.points.Point.{Point}
use Rattle.k_locks.specs.declared.steps.Answer.{Answer}
use Rattle.k_locks.specs.declared.steps.Step.{Step}
use Rattle.k_model.specs.Maps.{upd}
use Rattle.k_model.specs.State.{KernelState}
use Rattle.k_model.proofs.Maps.{upd_same, upd_other}
use Rattle.k_script.specs.Limits.{IsScript}
use Rattle.k_script.specs.Script.{Script}
use Rattle.k_caller.specs.declared.ran.Ran.TheVariants as ran
use Rattle.k_caller.specs.Activities as activities
use Rattle.k_caller.specs.Threads.{ThreadSeen}
use Rattle.k_caller.specs.Threads as threads
use Rattle.k_context.specs.Contexts.{Thread}
use Rattle.k_context.specs.Contexts as contexts
use Rattle.k_carrier.specs.Answers as answers
use Rattle.k_carrier.specs.Asked.{Run, ask_of, asked, lock_acquired, move_by, out_of}
use Rattle.k_carrier.specs.Resumed.{help_after, resumed, told_in}
use Rattle.k_carrier.specs.Seen.{CarrierSeen, HandSeen}
use Rattle.k_world.specs.Moves.{answer_by}
use Rattle.k_world.specs.Steps.{moved, recorded}
use Rattle.k_world.specs.Worlds.{World, carrier_at}
use Rattle.k_board.specs.Boards.{Board, Coming}
use Rattle.k_points.specs.Points.{turn_point}
use Rattle.k_legal.specs.Runs.{entries_of}
use Rattle.k_plays.specs.Scripts.{programs_of, ranged_programs}
use Rattle.k_places.specs.Answers.{answer_in}
use Rattle.k_places.specs.Memory.{Memory, memory_of}
use Rattle.k_places.specs.Shows.{Shows}
use Rattle.k_places.proofs.Places.{held_is}
use Rattle.k_places.proofs.Raw.{word_is}
use Rattle.k_turns.specs.Sections.{section_maps}
use Rattle.k_turns.specs.Spelled.{IsSpelled, ask_in}
use Rattle.k_joint.proofs.Runs.{goods_is, hand_is, hand_of_run}
use Rattle.k_tokens.specs.World.{OfThread}
use Rattle.k_tokens.specs.World as tokens
use Rattle.k_tokens.specs.Steps.{ThreadStep, after_step}
use Rattle.k_switching.specs.Claims.{IsAsked}
use Rattle.k_switching.specs.Rules.{carrier_step}
use Rattle.k_switching.specs.Rules as rules
use Rattle.k_switching.proofs.Rules.{is_run}
use Rattle.k_grants.specs.Granted.{Finding, IsFound, IsFreeToRemove, is_again}
use Rattle.k_moves.specs.Sums.{AreViewed}
use Rattle.k_moves.specs.Told.{IsPush, IsTold, finding_by}
use Rattle.k_moves.specs.Views.{IsViewed, ShowsThread, carrier_view, condition_of}
use Rattle.k_moves.proofs.Granted.{granted_told, waits_so}
use Rattle.k_moves.proofs.Sums.{move_viewed}
use Rattle.k_moves.proofs.Threads.{thread_carrier}
use Rattle.k_aligned.specs.Aligned.{IsAligned}
use Rattle.k_handling.specs.Handling.{IsKernel}
use Rattle.k_whole.proofs.Hands.{step_one}
use Rattle.k_running.specs.Threads.{HasMade}
use Rattle.k_running.proofs.Again.{again_alike, is_removing}
use Rattle.k_running.proofs.Begun.{push_is, unmade_left}
use Rattle.k_running.proofs.Free.{is_free}
use Rattle.k_running.proofs.Helped.{IsWithin, helps_on}
use Rattle.k_running.proofs.One.{ComesOnce}
use Rattle.k_running.proofs.Shown.{IsFoundAt, condition_shown, is_shown, push_shown, stands, stands_like}
use Rattle.k_running.proofs.Told.{push_told}
use Rattle.k_running.proofs.Turned.{HasTurned, Stands, has_turned, step_taken}

module _ (script : Script) (limits : IsScript script) (w : World) (b : Board) (view : tokens.World) (state : KernelState)
    (kernel : IsKernel script w b view state) (c n : ℕ) (t : ThreadSeen) (low : c < length w.carriers)
    (asks : ask_of (carrier_at w c) ≡ Run (record { context = n; value = Thread t })) where
  abbrev pub K : CarrierSeen
  K = carrier_at w c

  abbrev pub M : Memory
  M = memory_of w

  abbrev pub H : HandSeen
  H = record { context = n; value = Thread t }

  -- with its call begun
  abbrev pub T : ThreadSeen
  T = threads.begun script t

  abbrev S : Step
  S = threads.step_of T

  -- the lock that it acquires, where it does
  abbrev pub Wanted : Option Lock
  Wanted = lock_acquired (contexts.step_of (contexts.begun script (Thread t)))

  pub carrier : IsAligned script c K view
  carrier = kernel.aligned.carriers c low

  pub was : M.hand c ≡ Some H
  was = hand_is w c ∙ hand_of_run K H asks

  -- A moment between two moves, or within one: board and view may be those after the call has begun, and then so is the context
  -- in hand.
  pub record IsMoment (m : Memory) (b0 : Board) (v : tokens.World) (es : List Entry) : Type 0 where
    pub shows : Shows script m b0
    pub stands : Stands script b0 v es
    pub viewed : AreViewed w v
    pub count : v.carriers ≡ view.carriers
    pub unmade : v.unmade ≡ view.unmade
    pub found : IsFoundAt m n T
    pub made : (b0.context n).at ≡ Coming → ⊥
    pub asked : IsAsked v c (OfThread n)
    pub thread : ShowsThread v.threads K.table n t
    pub hand : (h : HandSeen) → upd m.hand c (Some h) ≡ upd M.hand c (Some h)
    pub answers : answer_in m S ≡ answer_in M S
    pub words : (id : ThreadId) → ask_in T.id T.own T.activity ≡ Remove id →
        rules.word_of v (OfThread id.number) ≡ context_word_of (m.context id.number)

  -- after the move, with this history, from this board, these carriers and that history
  pub record HasStepped (b0 : Board) (v : tokens.World) (before : List Entry) (b' : Board) (es : List Entry) : Type 0 where
    pub world : tokens.World
    pub viewed : AreViewed (moved script c w) world
    pub stands : Stands script b' world es
    pub count : world.carriers ≡ length w.carriers
    pub unmade : world.unmade ≡ view.unmade
    pub answered : answer_by w (out_of script K) ≡ answers.Section (answer_in M S)
    pub help : IsWithin (script.table + length w.carriers) (help_after K.help Wanted (told_in (answer_in M S)))
    pub made : HasMade script c n T b0 v before b' world es

  module _ (m : Memory) (b0 : Board) (v : tokens.World) (es : List Entry) (h : IsMoment m b0 v es)
      (can : activities.can_ask T.activity ≡ true) (spelled : IsSpelled script.table (ask_in T.id T.own T.activity))
      (made : Option Entry) (o : ComesOnce script (programs_of script) n b0 (section_maps script m c n (Thread T)) made) where
    abbrev X : Answer
    X = answer_in m S

    -- the thread after the step
    abbrev After : ThreadSeen
    After = threads.resumed (threads.asked T) X

    abbrev Held : HandSeen
    Held = record { context = n; value = Thread After }

    abbrev m' : Memory
    m' = section_maps script m c n (Thread T)

    abbrev F : Finding
    F = finding_by K.table K.goal Wanted (told_in X) (threads.ran_of (threads.asked T) X)

    is : m'.hand c ≡ Some Held
    is = upd_same m.hand c (Some Held)

    found_after : IsFoundAt m' n After
    found_after = held_is m'.context m'.slot m'.hand c Held o.shows.places is

    free : IsFreeToRemove b0 v n o.board
    free =
        is_free w v h.viewed (h.count ∙ kernel.aligned.count) h.stands.whole.hands h.stands.whole.pair.world script m' b0 o.board
        o.shows c n H Held was is refl
        (λ d ne. ap (λ (f : ℕ → Option HandSeen). f d) (h.hand Held) ∙ upd_other M.hand c (Some Held) d ne)

    in_view : c < v.carriers
    in_view = subst (λ k. c < k) (sym (h.count ∙ kernel.aligned.count)) low

    turned : HasTurned script b0 v es c n o.board F (turn_point (programs_of script) b0 n o.board o.turn)
    turned =
        has_turned script limits b0 v es h.stands c n in_view h.asked o.board F (waits_so K.table Wanted (told_in X)) free o.turn

    abbrev Granted_step : ThreadStep
    Granted_step = turned.step

    abbrev v' : tokens.World
    v' = carrier_step v c Granted_step

    taken : v' ≡ after_step v c n Granted_step
    taken = step_taken v c n h.asked Granted_step

    again : is_again (ranged_programs script) b0 n o.board turned.turn ≡ steps.is_again X
    again =
        again_alike script m b0 h.shows n T h.found h.made can spelled (ranged_programs script) o.board turned.turn
        (stands_like is_removing (o.board.seen n).word n After (o.board.context n)
        (is_shown script m' o.board o.shows n After found_after) refl)

    condition : (after_step v c n Granted_step).threads.condition n ≡ condition_of After.activity
    condition =
        ap (λ (x : tokens.World). x.threads.condition n) (sym taken)
        ∙ condition_shown script m' o.board o.shows n After found_after v' turned.stands.whole.pair.alike.agrees

    pushed : (p : ℕ) → threads.ran_of (threads.asked T) X ≡ ran.Pushed p → IsPush Granted_step
    pushed p e =
        let put = push_told m T can p e in
        push_is v c n Granted_step put.0
        (push_shown script m b0 h.shows n T h.found v h.stands.whole.pair.alike.agrees ∙ put.1)
        (ap (λ (x : tokens.World). x.threads.push n) (sym taken)
        ∙ push_shown script m' o.board o.shows n After found_after v' turned.stands.whole.pair.alike.agrees ∙ put.2)

    told : IsTold v c K.table n K.goal Wanted (told_in X) (threads.ran_of (threads.asked T) X) Granted_step
    told =
        let good = h.stands.whole.pair.world in
        granted_told v c K.table n K.goal Wanted (threads.asked T) X Granted_step good.0
        (is_run v good.0 good.1 c n h.asked.hand h.asked.kept) turned.grants (subst (λ q. IsFound F q Granted_step) again turned.kind)
        condition pushed

    viewed_here : IsViewed v K
    viewed_here = ap v.carrier carrier.number ∙ h.viewed.carriers c low

    -- the carrier is as its view has it
    carried : v'.carrier ≡ upd v.carrier c (carrier_view (resumed (asked script K) (answers.Section X)))
    carried =
        ap (λ (x : tokens.World). x.carrier) taken
        ∙ ap (λ k. (after_step v k n Granted_step).carrier) (sym carrier.number)
        ∙ thread_carrier script v K n t Granted_step viewed_here asks h.thread X
        (subst (λ k. IsTold v k K.table n K.goal Wanted (told_in X) (threads.ran_of (threads.asked T) X) Granted_step) (sym carrier.number) told)
        ∙ ap (λ k. upd v.carrier k (carrier_view (resumed (asked script K) (answers.Section X)))) carrier.number

    answered : answer_by w (out_of script K) ≡ answers.Section (answer_in M S)
    answered =
        ap (λ a. answer_by w (move_by script K a)) asks
        ∙ (λ d. answers.Section (answer_of S (word_is w (word_of S) d) (goods_is w S d)))

    -- whom it helps then
    helps : IsWithin (script.table + length w.carriers) (help_after K.help Wanted (told_in (answer_in M S)))
    helps =
        subst (λ a. IsWithin (script.table + length w.carriers) (help_after K.help Wanted (told_in a))) h.answers
        (subst (λ k. IsWithin k (help_after K.help Wanted (told_in X))) size
        (helps_on script (ranged_programs script) m b0 v n T h.shows h.stands.whole.pair
        (stands script m b0 h.shows n T h.found h.made) spelled K.help Wanted
        (subst (λ k. IsWithin k K.help) (sym size) (kernel.helps c low))))
      where
        size : b0.size + v.carriers ≡ script.table + length w.carriers
        size = λ d. h.shows.size d + (h.count ∙ kernel.aligned.count) d

    entries : es ++ entries_of b0 (turn_point (programs_of script) b0 n o.board o.turn) ≡ es ++ recorded made []
    entries = ap (λ z. es ++ z) o.entries

    stepped : HasMade script c n T b0 v es o.board v' (es ++ recorded made [])
    stepped = record {
      turned = record {
        found = F;
        asked = h.asked;
        waits = waits_so K.table Wanted (told_in X);
        free = free;
        turn = turned.turn;
        made = Granted_step;
        kind = turned.kind;
        grants = turned.grants;
        leads = refl;
      };
      maps = m;
      size = K.table;
      goal = K.goal;
      shows = h.shows;
      sized = carrier.sound.table ∙ sym h.shows.size;
      there = h.found;
      made = h.made;
      can = can;
      spelled = spelled;
      words = h.words;
      finds = refl;
      again = again;
      grows = ap (λ z. es ++ z) (sym o.entries) ∙ ap (λ (p : Option Point). es ++ entries_of b0 p) (sym turned.point);
    }

    pub has_stepped : HasStepped b0 v es o.board (es ++ recorded made [])
    has_stepped = record {
      world = v';
      viewed =
          move_viewed script c w v v' h.viewed low
          (carried ∙ ap (λ a. upd v.carrier c (carrier_view (resumed (asked script K) a)))
          (ap answers.Section h.answers ∙ sym answered));
      stands = subst (Stands script o.board v') entries turned.stands;
      count = (step_one c v Granted_step).carriers ∙ h.count ∙ kernel.aligned.count;
      unmade = ap (λ (x : tokens.World). x.unmade) taken ∙ unmade_left v c n Granted_step ∙ h.unmade;
      answered = answered;
      help = helps;
      made = stepped;
    }
