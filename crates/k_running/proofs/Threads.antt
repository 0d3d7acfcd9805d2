-- A step of a thread's context keeps the kernel.
use Rattle.std.proofs.Common.{◌≡◌, ◌≢◌, ℕ, ◌+◌, ◌<◌, ◌≤◌, false, refl, sym, ap, ◌∙◌, subst, Option, Some, List, [], ◌++◌}
use Rattle.std.proofs.Common.{arith, length, get_or, ◌⊎◌, inl, inr}
use Rattle.std.specs.Prelude.{IfSome, slice_set}
use Rattle.std.proofs.lemmas.Bool.Decides.{eqb_tells}
use Rattle.std.proofs.lemmas.List.{append-nil, get_or-set_other, get_or-set_same, length-set}
use Rattle.k_ids.specs.declared.calls.Reply.{Reply}
use Rattle.k_ids.specs.declared.histories.Entry.{Entry}
use Rattle.k_ids.specs.declared.threads.ThreadId.{ThreadId}
use Rattle.k_ids.specs.ContextWords.{context_word_of}
use Rattle.k_locks.specs.Asks.{Remove}
use Rattle.k_locks.specs.Steps.{answer_of}
use Rattle.k_locks.specs.Steps as steps
use Rattle.k_locks.specs.declared.points.Point.{Point}
use Rattle.k_model.specs.State.{KernelState}
use Rattle.k_model.proofs.Maps.{upd_other, upd_same}
use Rattle.k_script.specs.Limits.{IsScript}
use Rattle.k_script.specs.Script.{Script}
use Rattle.k_script.specs.Plays.{next_of}
use Rattle.k_caller.specs.declared.activity.Activity.{Activity}
use Rattle.k_caller.specs.declared.activity.Activity.TheVariants as activity
use Rattle.k_caller.specs.declared.thread.ThreadLocation.TheVariants as location
use Rattle.k_caller.specs.Threads.{ThreadSeen}
use Rattle.k_caller.specs.Threads as threads
use Rattle.k_context.specs.Contexts.{Thread}
use Rattle.k_carrier.specs.Answers as answers
use Rattle.k_carrier.specs.Asked.{Run, ask_of, asked, asked_by, out_of}
use Rattle.k_carrier.specs.Resumed.{resumed}
use Rattle.k_carrier.specs.Seen.{CarrierSeen, HandSeen, new_carrier}
use Rattle.k_carrier.specs.Starts.{is_due}
use Rattle.k_world.specs.Moves.{answer_by}
use Rattle.k_world.specs.Steps.{moved, recorded, step_in}
use Rattle.k_world.specs.Worlds.{World, carrier_at}
use Rattle.k_board.specs.Boards.{Board, id_at}
use Rattle.k_good.specs.Ranges.{FitsAt}
use Rattle.k_legal.specs.Runs.{entries_of}
use Rattle.k_points.specs.Points.{turn_point}
use Rattle.k_plays.specs.Scripts.{programs_of, ranged_programs}
use Rattle.k_places.specs.Answers.{answer_in}
use Rattle.k_places.specs.Contexts.{at_in}
use Rattle.k_places.specs.Memory.{Memory, memory_of}
use Rattle.k_places.specs.Shows.{Shows, ShowsBoard}
use Rattle.k_places.proofs.Held.{with_hand}
use Rattle.k_places.proofs.Places.{held_is}
use Rattle.k_turns.specs.Spelled.{ask_in}
use Rattle.k_turns.specs.Sections.{Comes, Turns, more, none, section_entry, section_maps}
use Rattle.k_turns.proofs.Begins.{IsBegun}
use Rattle.k_turns.proofs.Begins as begins
use Rattle.k_joint.specs.Ready.{IsReady}
use Rattle.k_joint.proofs.Runs.{entry_run, hand_is, hand_of_run, maps_run, whole_moved}
use Rattle.k_joint.proofs.Sections.{begun_board, begun_comes, begun_made, goods_same, same_entry, same_maps, step_comes}
use Rattle.k_joint.proofs.Sections.{upd_twice, word_same}
use Rattle.k_tokens.specs.World.{Awake, OfThread, no_locks}
use Rattle.k_tokens.specs.World as tokens
use Rattle.k_tokens.specs.Steps.{FindsTaken, ThreadStep, after_step}
use Rattle.k_switching.specs.Claims.{IsAsked}
use Rattle.k_switching.specs.Rules.{carrier_step, word_of}
use Rattle.k_grants.specs.Granted.{Agrees, Finding, IsFound, IsFreeToRemove, IsMade}
use Rattle.k_grants.specs.Views.{held_of, look_at}
use Rattle.k_moves.specs.Sums.{AreViewed}
use Rattle.k_moves.specs.Views.{ShowsThread, carrier_view, condition_of}
use Rattle.k_moves.proofs.Names.{name_inside}
use Rattle.k_caller.specs.Activities.{locks_of}
use Rattle.k_kernel.specs.Moves.{CanMove, HasRoom, IsRunnable, IsSpelledIn}
use Rattle.k_kernel.specs.Worlds.{WorldHolds}
use Rattle.k_kernel.proofs.Runs.{history_told, move_within, run_ready}
use Rattle.k_kernel.specs.Serials.{SerialsHold}
use Rattle.k_whole.specs.Whole.{WholeHolds}
use Rattle.k_whole.proofs.Hands.{step_one}
use Rattle.k_handling.specs.Handling.{IsKernel, IsMatched}
use Rattle.k_handling.proofs.Words.{word_shown}
use Rattle.k_running.specs.Threads.{HasBegun, HasBegunAndMade, HasMade, HasRun}
use Rattle.k_running.proofs.Asked.{asked_still, is_asked}
use Rattle.k_running.proofs.Begun.{IsCalm, begun_again, begun_calm, begun_removes, carriers_left, unmade_left}
use Rattle.k_running.proofs.Free.{is_free}
use Rattle.k_running.proofs.Helped.{removed_within}
use Rattle.k_running.proofs.One.{ComesOnce, comes_once}
use Rattle.k_running.proofs.Run.{HasStepped, has_stepped}
use Rattle.k_running.proofs.Shown.{IsFoundAt, condition_shown, is_thread, push_shown, stands, thread_shown}
use Rattle.k_running.proofs.Turned.{HasTurned, Stands, has_turned, step_taken}

-- ONE CARRIER CHANGES

module _ (script : Script) (w : World) (c : ℕ) (low : c < length w.carriers) where
  abbrev pub Next : CarrierSeen
  Next = resumed (asked script (carrier_at w c)) (answer_by w (out_of script (carrier_at w c)))

  carriers_are : (moved script c w).carriers ≡ slice_set w.carriers c Next
  unfolding moved step_in
  carriers_are = refl

  unchanged : (moved script c w).unstarted ≡ w.unstarted
  unfolding moved
  unchanged = refl

  same_count : length (moved script c w).carriers ≡ length w.carriers
  same_count = ap length carriers_are ∙ length-set w.carriers c Next

  pub next_at : carrier_at (moved script c w) c ≡ Next
  next_at = ap (λ xs. get_or xs c (new_carrier 0 0)) carriers_are ∙ get_or-set_same w.carriers c Next (new_carrier 0 0) low

  other_at : (d : ℕ) → d ≢ c → carrier_at (moved script c w) d ≡ carrier_at w d
  other_at d ne =
      ap (λ xs. get_or xs d (new_carrier 0 0)) carriers_are ∙ get_or-set_other w.carriers c d Next (new_carrier 0 0) ne

  -- what is so of the one that moves and of the others is so of each
  each : (P : ℕ → CarrierSeen → Type 0) → P c Next → ((d : ℕ) → d < length w.carriers → d ≢ c → P d (carrier_at w d)) →
      (d : ℕ) → d < length (moved script c w).carriers → P d (carrier_at (moved script c w) d)
  each P here there d few = elim (eqb_tells d c) [
    | inl e ↦
        subst (λ m. P m (carrier_at (moved script c w) m)) (sym e.1)
        (subst (P c) (sym next_at) here)
    | inr ne ↦
        subst (P d) (sym (other_at d ne.1)) (there d (subst (λ m. d < m) same_count few) ne.1)
  ]

module _ (script : Script) (limits : IsScript script) (room : HasRoom script) (w : World) (b : Board) (view : tokens.World)
    (state : KernelState) (kernel : IsKernel script w b view state) (c n : ℕ) (t : ThreadSeen) (runnable : IsRunnable script c w)
    (asks : ask_of (carrier_at w c) ≡ Run (record { context = n; value = Thread t })) where
  low : c < length w.carriers
  low = runnable.carrier

  abbrev C : CarrierSeen
  C = carrier_at w c

  abbrev Mem : Memory
  Mem = memory_of w

  abbrev Hand : HandSeen
  Hand = record { context = n; value = Thread t }

  abbrev Begun : ThreadSeen
  Begun = threads.begun script t

  abbrev Made : Option Entry
  Made = section_entry Mem n (Thread Begun)

  sh : Shows script Mem b
  sh = kernel.aligned.shows.shows

  abbrev held : WorldHolds script w
  held = record {
    board = b;
    state = state;
    shows = kernel.aligned.shows;
    holds = kernel.whole.holds;
    serials = kernel.serials;
  }

  ready : IsReady script b n (Thread t)
  ready =
      run_ready script limits c w held Hand room asks (subst (CanMove script c w) asks runnable.move)
      (subst (IsSpelledIn script) asks runnable.spelled)

  in_hand : Mem.hand c ≡ Some Hand
  in_hand = hand_is w c ∙ hand_of_run C Hand asks

  found : IsFoundAt Mem n t
  found = held_is Mem.context Mem.slot Mem.hand c Hand sh.places in_hand

  number : C.number ≡ c
  number = (kernel.aligned.carriers c low).number

  inside : n < C.table
  inside =
      subst (λ k. n < k) (sh.size ∙ sym (kernel.aligned.carriers c low).sound.table)
      (kernel.whole.pair.within.threads n (is_thread script Mem b sh n t found ready.made)).number

  agrees : Agrees b view
  agrees = kernel.whole.pair.alike.agrees

  thread : ShowsThread view.threads C.table n t
  thread = thread_shown script Mem b sh n t found view agrees C.table inside

  asked_first : IsAsked view c (OfThread n)
  asked_first = is_asked view C c n t number (kernel.aligned.carriers c low).viewed asks thread

  first : Stands script b view w.history
  first = record { state = state; whole = kernel.whole; serials = kernel.serials }

  viewed : AreViewed w view
  viewed = record { carriers = λ d few. (kernel.aligned.carriers d few).viewed }

  -- the history after the move
  abbrev Then : List Entry
  Then = w.history ++ recorded Made []

  -- The board that is shown after the move, with the carriers then; its last turn is from this board and these carriers.
  record IsDone : Type 0 where
    from : Board
    seen : tokens.World
    board : Board
    count : ℕ
    turns : Turns (programs_of script) n count b board
    shows : Shows script (section_maps script Mem c n (Thread Begun)) board
    stepped : HasStepped script limits w b view state kernel c n t low asks from seen w.history board Then
    ways : HasMade script c n Begun b view w.history board stepped.world Then
        ⊎ HasBegunAndMade script c n Begun b view w.history board stepped.world Then

  -- A STEP OF A CALL
  module _ (same : Begun ≡ t) where
    -- a context that it is to remove has its word in the view
    words : (id : ThreadId) → ask_in Begun.id Begun.own Begun.activity ≡ Remove id →
        word_of view (OfThread id.number) ≡ context_word_of (Mem.context id.number)
    words id e =
        ap (word_of view) (sym (name_inside script.table id.number small))
        ∙ word_shown script w b view state kernel id.number (omega (arith, small))
      where
        at : (b.context n).at ≡ at_in Begun.activity
        at = stands script Mem b sh n t found ready.made ∙ ap (λ (u : ThreadSeen). at_in u.activity) (sym same)

        small : id.number < script.table
        small =
            subst (λ k. id.number < k) sh.size
            (removed_within b.size Begun Begun.activity (subst (FitsAt b.size) at (kernel.whole.pair.within.targets n)) id e)

    goes_on : IsDone
    goes_on = record {
      from = b;
      seen = view;
      board = once.board;
      count = 1;
      turns = more b once.board once.board once.turn (none once.board);
      shows = once.shows;
      stepped = stepped;
      ways = inl stepped.made;
    }
      where
        once : ComesOnce script (programs_of script) n b (section_maps script Mem c n (Thread Begun)) Made
        once =
            comes_once script (programs_of script) n b (section_maps script Mem c n (Thread Begun)) Made
            (subst (λ (u : ThreadSeen). Comes script (programs_of script) n 1 b (section_maps script Mem c n (Thread u))
            (section_entry Mem n (Thread u))) (sym same) (step_comes script Mem b c Hand sh in_hand ready t refl same))

        stepped : HasStepped script limits w b view state kernel c n t low asks b view w.history once.board Then
        stepped =
            has_stepped script limits w b view state kernel c n t low asks Mem b view w.history (record {
              shows = sh;
              stands = first;
              viewed = viewed;
              count = refl;
              unmade = refl;
              found = subst (IsFoundAt Mem n) (sym same) found;
              made = ready.made;
              asked = asked_first;
              thread = thread;
              hand = λ h. refl;
              answers = refl;
              words = words;
            }) ready.asks ready.spelled Made once

  -- A CALL THAT BEGINS, and its first step
  module _ (last : Option Reply) (e : t.activity ≡ activity.Alone (location.Between last)) where
    abbrev Begun_hand : HandSeen
    Begun_hand = record { context = n; value = Thread Begun }

    abbrev Mem1 : Memory
    Mem1 = with_hand Mem c (Some Begun_hand)

    abbrev begun : IsBegun script b n Mem1 (begins.next_at b.size (id_at b n) (next_of script.version (b.context n).position last))
    begun = begun_board script Mem b c Hand sh in_hand ready t refl last e

    abbrev B1 : Board
    B1 = begun.board

    found1 : IsFoundAt Mem1 n Begun
    found1 = held_is Mem1.context Mem1.slot Mem1.hand c Begun_hand begun.shows.places (upd_same Mem.hand c (Some Begun_hand))

    abbrev Nothing : Finding
    Nothing = record { above = false; waits = FindsTaken }

    free1 : IsFreeToRemove b view n B1
    free1 =
        is_free w view viewed kernel.aligned.count kernel.whole.hands kernel.whole.pair.world script Mem1 b B1 begun.shows c n Hand
        Begun_hand in_hand (upd_same Mem.hand c (Some Begun_hand)) refl
        (λ d ne. upd_other Mem.hand c (Some Begun_hand) d ne)

    in_view : c < view.carriers
    in_view = subst (λ k. c < k) (sym kernel.aligned.count) low

    turned1 : HasTurned script b view w.history c n B1 Nothing (turn_point (programs_of script) b n B1 begun.turn)
    turned1 = has_turned script limits b view w.history first c n in_view asked_first B1 Nothing tt free1 begun.turn

    abbrev S1 : ThreadStep
    S1 = turned1.step

    abbrev V1 : tokens.World
    V1 = carrier_step view c S1

    taken1 : V1 ≡ after_step view c n S1
    taken1 = step_taken view c n asked_first S1

    made1 : IsMade false S1
    made1 =
        subst (λ q. IsFound Nothing q S1) (begun_again (ranged_programs script) b n B1 turned1.turn last
        (stands script Mem b sh n t found ready.made ∙ ap at_in e)) turned1.kind

    calm : IsCalm t.id Begun
    calm = begun_calm script t last e

    agrees1 : Agrees B1 V1
    agrees1 = turned1.stands.whole.pair.alike.agrees

    awake1 : V1.threads.condition n ≡ Awake
    awake1 = condition_shown script Mem1 B1 begun.shows n Begun found1 V1 agrees1 ∙ calm.awake

    carriers1 : V1.carrier ≡ view.carrier
    carriers1 =
        ap (λ (x : tokens.World). x.carrier) taken1
        ∙ carriers_left view c n false S1 made1 turned1.grants
        (ap (λ (x : tokens.World). x.threads.condition n) (sym taken1) ∙ awake1)
        (push_shown script Mem b sh n t found view agrees ∙ ap (λ a. (look_at (at_in a)).push) e)

    thread1 : ShowsThread V1.threads C.table n Begun
    thread1 = thread_shown script Mem1 B1 begun.shows n Begun found1 V1 agrees1 C.table inside

    free_locks : held_of (locks_of t.activity) ≡ no_locks
    free_locks = ap (λ a. held_of (locks_of a)) e

    locks1 : V1.threads.locks n ≡ no_locks
    locks1 = thread1.locks ∙ calm.free

    version1 : V1.threads.made n ≡ t.id.version
    version1 = thread1.made ∙ ap (λ x. x.version) calm.same

    asked1 : IsAsked V1 c (OfThread n)
    asked1 =
        asked_still view V1 n (thread.locks ∙ free_locks ∙ sym locks1) (thread.made ∙ sym version1) c
        (ap (λ (f : ℕ → tokens.Carrier). f c) (sym carriers1)) asked_first

    stands1 : Stands script B1 V1 w.history
    stands1 =
        subst (Stands script B1 V1)
        (ap (λ (p : Option Point). w.history ++ entries_of b p) begun.silent ∙ append-nil w.history) turned1.stands

    begins1 : HasBegun script c n b view B1 V1
    begins1 = record {
      turned = record {
        found = Nothing;
        asked = asked_first;
        waits = tt;
        free = free1;
        turn = turned1.turn;
        made = S1;
        kind = turned1.kind;
        grants = turned1.grants;
        leads = refl;
      };
      last = last;
      between = stands script Mem b sh n t found ready.made ∙ ap at_in e;
      below = refl;
      goes = begun_again (ranged_programs script) b n B1 turned1.turn last
          (stands script Mem b sh n t found ready.made ∙ ap at_in e);
      silent = turned1.point ∙ begun.silent;
      carriers = carriers1;
    }

    begins_on : IsDone
    begins_on = record {
      from = B1;
      seen = V1;
      board = once.board;
      count = 2;
      turns = more b B1 once.board begun.turn (more B1 once.board once.board once.turn (none once.board));
      shows =
          subst (λ (m : Memory). Shows script m once.board) (same_maps script Mem c n (Some Begun_hand) (Thread Begun)) once.shows;
      stepped = stepped;
      ways = inr (record {
        board = B1;
        view = V1;
        state = stands1.state;
        begins = begins1;
        whole = stands1.whole;
        makes = stepped.made;
      });
    }
      where
        once : ComesOnce script (programs_of script) n B1 (section_maps script Mem1 c n (Thread Begun)) Made
        once =
            comes_once script (programs_of script) n B1 (section_maps script Mem1 c n (Thread Begun)) Made
            (subst (Comes script (programs_of script) n 1 B1 (section_maps script Mem1 c n (Thread Begun)))
            (same_entry script Mem c n (Some Begun_hand) (Thread Begun))
            (begun_comes script Mem b c Hand sh in_hand ready t refl last e))

        stepped : HasStepped script limits w b view state kernel c n t low asks B1 V1 w.history once.board Then
        stepped =
            has_stepped script limits w b view state kernel c n t low asks Mem1 B1 V1 w.history (record {
              shows = begun.shows;
              stands = stands1;
              viewed = record { carriers = λ d few. ap (λ (f : ℕ → tokens.Carrier). f d) carriers1 ∙ viewed.carriers d few };
              count = (step_one c view S1).carriers;
              unmade = ap (λ (x : tokens.World). x.unmade) taken1 ∙ unmade_left view c n S1;
              found = found1;
              made = begun_made script Mem b c Hand sh in_hand ready t refl last e;
              asked = asked1;
              thread = record {
                number = thread.number;
                inside = inside;
                made = version1;
                condition = awake1 ∙ sym (ap condition_of e);
                locks = locks1 ∙ sym free_locks;
              };
              hand = λ h. upd_twice Mem.hand c (Some Begun_hand) (Some h);
              answers =
                  λ d. answer_of (threads.step_of Begun) (word_same Mem Mem1.hand (steps.word_of (threads.step_of Begun)) d)
                  (goods_same Mem Mem1.hand (threads.step_of Begun) d);
              words = λ id q. absurd (begun_removes script t last e id q);
            }) ready.asks ready.spelled Made once

  by_doing : (a : Activity) → t.activity ≡ a → IsDone
  by_doing (activity.Alone (location.Between last)) e = begins_on last e
  by_doing a e = goes_on (ap (threads.begun_at script t) e)

  done : IsDone
  done = by_doing t.activity refl

  -- AFTER THE MOVE

  abbrev After : World
  After = moved script c w

  next_is : Next script w c low ≡ resumed (asked_by script C (Run Hand)) (answers.Section (answer_in Mem (threads.step_of Begun)))
  next_is = (λ d. resumed (asked_by script C (asks d)) (answer_by w (out_of script C)))
      ∙ ap (λ a. resumed (asked_by script C (Run Hand)) a) done.stepped.answered

  history_is : w.history ++ recorded Made [] ≡ After.history
  history_is =
      sym (history_told script limits c w held (ap (λ (o : Option Entry). recorded o []) (sym (entry_run script w c Hand asks))))

  shows_after : ShowsBoard script After done.board
  shows_after = record {
    whole = whole_moved script w c kernel.aligned.shows.whole;
    shows = subst (λ (m : Memory). Shows script m done.board)
        (sym (maps_run script w c Hand asks (move_within script limits c w held runnable))) done.shows;
  }

  abbrev Fits : ℕ → CarrierSeen → Type 0
  Fits size k = IfSome k.help (λ p. p.context < script.table + size)

  pub has_run : HasRun script b view w.history c n t After
  has_run = let s = done.stepped in record {
    board = done.board;
    count = done.count;
    turns = done.turns;
    view = s.world;
    state = s.stands.state;
    matched = record {
      shows = shows_after;
      carriers =
          each script w c low (λ d k. IsMatched d k s.world) here there;
      count = s.count ∙ sym (same_count script w c low);
      few = subst (λ k. k ≤ 8) (sym (same_count script w c low)) kernel.aligned.few;
      unstarted = s.unmade ∙ kernel.aligned.unstarted ∙ ap is_due (sym (unchanged script w c low));
      numbers = ap length (unchanged script w c low) ∙ kernel.aligned.numbers;
    };
    helps =
        each script w c low (λ d k. Fits (length After.carriers) k) (fits (Next script w c low)
        (subst (Fits (length w.carriers)) (sym next_is) s.help)) (λ d few ne. fits (carrier_at w d) (kernel.helps d few));
    whole = subst (λ (es : List Entry). WholeHolds script done.board s.world es s.stands.state) history_is s.stands.whole;
    serials = subst (λ (es : List Entry). SerialsHold done.board (length es)) history_is s.stands.serials;
    ways = subst (λ (es : List Entry). HasMade script c n Begun b view w.history done.board s.world es
        ⊎ HasBegunAndMade script c n Begun b view w.history done.board s.world es) history_is done.ways;
  }
    where
      fits : (k : CarrierSeen) → Fits (length w.carriers) k → Fits (length After.carriers) k
      fits k h = subst (λ m. Fits m k) (sym (same_count script w c low)) h

      viewed_at : (d : ℕ) → d < length w.carriers → done.stepped.world.carrier d ≡ carrier_view (carrier_at After d)
      viewed_at d few =
          done.stepped.viewed.carriers d (subst (λ m. d < m) (sym (same_count script w c low)) few)

      here : IsMatched c (Next script w c low) done.stepped.world
      here = record {
        number = ap (λ (k : CarrierSeen). k.number) next_is ∙ number;
        answered = ap (λ (k : CarrierSeen). k.awaits) next_is;
        starts = ap (λ (k : CarrierSeen). length k.starts) next_is ∙ (kernel.aligned.carriers c low).given.starts;
        viewed = viewed_at c low ∙ ap carrier_view (next_at script w c low);
      }

      there : (d : ℕ) → d < length w.carriers → d ≢ c → IsMatched d (carrier_at w d) done.stepped.world
      there d few ne = let a = kernel.aligned.carriers d few in record {
        number = a.number;
        answered = a.answered;
        starts = a.given.starts;
        viewed = viewed_at d few ∙ ap carrier_view (other_at script w c low d ne);
      }
