-- A carrier's look at a context, and its give of one: the world after it shows the same board, but for the end of a switch.
use Rattle.std.proofs.Common.{◌≡◌, ℕ, ◌≤◌, ◌==◌, Bool, true, false, refl, sym, ap, ◌∙◌, subst, Option, Some, None, arith}
use Rattle.std.specs.Prelude.{if◌then◌else◌, []}
use Rattle.k_ids.specs.declared.context_word.ContextWord.{ContextWord}
use Rattle.k_ids.specs.declared.context_word.ContextWord.TheVariants.{Clean, Empty, Holds, Taken}
use Rattle.k_ids.specs.ContextWords.{IsContextWord, IsVersion, context_bits, context_word_of}
use Rattle.k_ids.specs.declared.histories.Entry.{Entry}
use Rattle.k_model.specs.Maps.{upd}
use Rattle.k_model.proofs.Maps.{upd_same}
use Rattle.k_script.specs.Script.{Script}
use Rattle.k_switch.specs.declared.carrier_context.CarrierContext.{CarrierContext}
use Rattle.k_switch.specs.declared.goal.Switched.{Switched}
use Rattle.k_switch.specs.declared.switch.Switch.{Switch}
use Rattle.k_switch.specs.declared.switch.SwitchLocation.{SwitchLocation}
use Rattle.k_switch.specs.declared.switch.SwitchLocation.TheVariants as location
use Rattle.k_switch.specs.Switches as switch
use Rattle.k_context.specs.Contexts.{ContextSeen, Thread, Carrier, owner_of, without_switch}
use Rattle.k_carrier.specs.declared.carrier.Target.{Target}
use Rattle.k_carrier.specs.declared.carrier.Target.TheVariants.{GoalOf, Helped, Own}
use Rattle.k_carrier.specs.Answers as answer
use Rattle.k_carrier.specs.Asked.{CarrierAsk, LookAt, PutDown, Run, ask_at, ask_of, ask_with}
use Rattle.k_carrier.specs.Asked.{asked_by, rested, resting_word, version_in, version_of}
use Rattle.k_carrier.specs.Moves.{Look}
use Rattle.k_carrier.specs.Resumed.{after_look, heard, is_holding, resumed, seen, switched_to}
use Rattle.k_carrier.specs.Rules.{begins, gives, is_own, readied, target_of}
use Rattle.k_carrier.specs.Seen.{CarrierSeen, HandSeen}
use Rattle.k_world.specs.Moves.{found_by}
use Rattle.k_world.specs.Steps.{carrier_after, entry_of, moved, parked, recorded, sliced, started, step_in}
use Rattle.k_world.specs.Worlds.{World, Resting as Lying, carrier_at}
use Rattle.k_world.proofs.Worlds.{sized_parked, sized_sliced, sized_started}
use Rattle.k_board.specs.Boards.{Board, InSwitch, Resting}
use Rattle.k_board.specs.Steps.{placed}
use Rattle.k_board.specs.Turns.{ends_switch}
use Rattle.k_places.specs.Contexts.{ShowsContext, programs_of, switch_at}
use Rattle.k_places.specs.Fits.{IsStepWithin}
use Rattle.k_places.specs.Memory.{Memory, memory_of}
use Rattle.k_joint.specs.Runs.{ShowsLater}
use Rattle.k_turns.specs.Sections.{Turns, entries_along, more, none}
use Rattle.k_places.specs.Shows.{Shows, ShowsBoard}
use Rattle.k_places.proofs.Held.{held_shown, with_hand}
use Rattle.k_places.proofs.Places.{held_is, version_held}
use Rattle.k_places.proofs.Raw.{maps_moved, maps_parked, maps_sliced, maps_started}
use Rattle.k_joint.proofs.Runs.{MapsWith, StepWith, hand_is, whole_moved}
use Rattle.k_joint.proofs.Sections.{upd_twice}
use Rattle.k_places.proofs.Takes.{given_shown, nothing_changed, with_places}

-- WITHOUT A MOVE

module _ (script : Script) (w : World) (b : Board) (sh : ShowsBoard script w b) where
  pub started_shown : (c number : ℕ) → ShowsBoard script (started c number w) b
  started_shown c number =
      let s = sized_started c number w in record {
        whole = record {
          words = s.words ∙ sh.whole.words;
          slots = s.slots ∙ sh.whole.slots;
          serials = s.serials ∙ sh.whole.serials;
        };
        shows = subst (λ (m : Memory). Shows script m b) (sym (maps_started c number w)) sh.shows;
      }

  pub sliced_shown : (c : ℕ) → ShowsBoard script (sliced c w) b
  sliced_shown c =
      let s = sized_sliced c w in record {
        whole = record {
          words = s.words ∙ sh.whole.words;
          slots = s.slots ∙ sh.whole.slots;
          serials = s.serials ∙ sh.whole.serials;
        };
        shows = subst (λ (m : Memory). Shows script m b)
            (sym (maps_sliced c w)) sh.shows;
      }

  pub parked_shown : (c : ℕ) → ShowsBoard script (parked c w) b
  parked_shown c =
      let s = sized_parked c w in record {
        whole = record {
          words = s.words ∙ sh.whole.words;
          slots = s.slots ∙ sh.whole.slots;
          serials = s.serials ∙ sh.whole.serials;
        };
        shows = subst (λ (m : Memory). Shows script m b)
            (sym (maps_parked c w)) sh.shows;
      }

-- WHAT A CARRIER HAS IN HAND

pub not_held : (k : CarrierSeen) (x : HandSeen) (t : Bool) (a : CarrierAsk) → (if t then PutDown x else Run x) ≡ a →
    ((y : HandSeen) → a ≡ PutDown y → ⊥) → ((y : HandSeen) → a ≡ Run y → ⊥) → ⊥
not_held k x true a e p r = p x (sym e)
not_held k x false a e p r = r x (sym e)

pub look_empty : (k : CarrierSeen) (n : ℕ) → ask_of k ≡ LookAt n → k.hand ≡ None
look_empty k n e = by k.hand refl e
  where
    by : (o : Option HandSeen) → k.hand ≡ o → ask_with k o ≡ LookAt n → k.hand ≡ None
    by None q z = q
    by (Some x) q z = absurd (not_held k x (gives k x) (LookAt n) z (λ y d. absurd cc) (λ y d. absurd cc))

pub readied_hand : (k : CarrierSeen) → (readied k).hand ≡ k.hand
readied_hand k = by (begins k)
  where
    by : (t : Bool) → (if t then record k { switching = true; help = None; looked = None } else k).hand ≡ k.hand
    by true = refl
    by false = refl

seen_hand : (k : CarrierSeen) (w : ContextWord) (bits : ℕ) → (seen k w bits).hand ≡ k.hand
seen_hand k (Clean version) bits = refl
seen_hand k (Holds version) bits = refl
seen_hand k (Taken c version) bits = refl
seen_hand k Empty bits = refl

looked_hand : (k : CarrierSeen) (t : Target) (w : ContextWord) (bits : ℕ) → (after_look k t w bits).hand ≡ k.hand
looked_hand k (Helped n) w bits = by (is_holding w)
  where
    by : (t : Bool) → (if t then record k { looked = Some bits } else record k { help = None }).hand ≡ k.hand
    by true = refl
    by false = refl
looked_hand k Own w bits = seen_hand k w bits
looked_hand k (GoalOf g) w bits = by (version_in w == g.id.version)
  where
    by : (t : Bool) → (if t then seen k w bits else record k { goal = None }).hand ≡ k.hand
    by true = seen_hand k w bits
    by false = refl

pub looked_after : (k : CarrierSeen) (bits : ℕ) → (resumed k (answer.Looked bits)).hand ≡ k.hand
looked_after k bits = looked_hand (heard k) (target_of k) (context_word_of bits) bits

pub given_hand : (k : CarrierSeen) (s : Option Switched) → (switched_to k s).hand ≡ k.hand
given_hand k None = refl
given_hand k (Some s) = refl

pub put_down_hand : (k : CarrierSeen) (h : HandSeen) → ask_of k ≡ PutDown h → k.hand ≡ Some h
put_down_hand k h e = by k.hand refl e
  where
    at_none : (s : Option ℕ) → ask_at (readied k) s ≡ PutDown h → ⊥
    at_none None z = absurd cc
    at_none (Some bits) z = absurd cc

    held : (x : HandSeen) (t : Bool) → (if t then PutDown x else Run x) ≡ PutDown h → x ≡ h
    held x true z = cc
    held x false z = absurd cc

    by : (o : Option HandSeen) → k.hand ≡ o → ask_with k o ≡ PutDown h → k.hand ≡ Some h
    by (Some x) q z = q ∙ ap Some (held x (gives k x) z)
    by None q z = absurd (at_none (readied k).looked z)

module _ (script : Script) (w : World) (c : ℕ) (b : Board) (sh : ShowsBoard script w b)
    (within : IsStepWithin w (step_in script c w)) where
  abbrev K : CarrierSeen
  K = carrier_at w c

  abbrev M : Memory
  M = memory_of w

  pub maps_asked : (a : CarrierAsk) → ask_of K ≡ a → memory_of (moved script c w) ≡ MapsWith script w c a
  unfolding moved step_in
  maps_asked a e = maps_moved script w (step_in script c w) within ∙ ap (MapsWith script w c) e

  -- the board that the world shows after the move, whose context is this
  abbrev pub Later : ℕ → Type 0
  Later i = ShowsLater script b i (entry_of w (step_in script c w)) (moved script c w)

  pub entry_asked : (a : CarrierAsk) → ask_of K ≡ a → entry_of w (step_in script c w) ≡ entry_of w (StepWith script w c a)
  unfolding step_in
  entry_asked a e = ap (λ (z : CarrierAsk). entry_of w (StepWith script w c z)) e

  -- the board is another, some turns later, which have no points
  pub later : (i n : ℕ) → n ≤ 2 → (b' : Board) → (turns : Turns (programs_of script) i n b b') →
      entries_along (programs_of script) i n b b' turns ≡ [] → (a : CarrierAsk) → ask_of K ≡ a →
      entry_of w (StepWith script w c a) ≡ None → Shows script (MapsWith script w c a) b' → Later i
  later i n few b' turns silent a e quiet shows = record {
    count = n;
    few = few;
    board = b';
    turns = turns;
    shows = record {
      whole = whole_moved script w c sh.whole;
      shows = subst (λ (m : Memory). Shows script m b') (sym (maps_asked a e)) shows;
    };
    entries = silent ∙ ap (λ (o : Option Entry). recorded o []) (sym (entry_asked a e ∙ quiet));
  }

  -- A LOOK

  pub look_shown : (n i : ℕ) → ask_of K ≡ LookAt n → Later i
  look_shown n i e =
      later i 0 (omega arith) b (none b) refl (LookAt n) e refl (subst
      (λ (h : Option HandSeen). Shows script (with_places M (upd M.context n (M.context n)) M.slot (upd M.hand c h)) b)
      (sym empty) (nothing_changed script M b c n sh.shows (hand_is w c ∙ look_empty K n e)))
    where
      empty : (carrier_after (StepWith script w c (LookAt n))).hand ≡ None
      empty = looked_after (asked_by script K (LookAt n)) (found_by w (Look n)) ∙ readied_hand K ∙ look_empty K n e

  -- A GIVE

  module _ (h : HandSeen) (e : ask_of K ≡ PutDown h) where
    abbrev N : ℕ
    N = h.context

    was : M.hand c ≡ Some h
    was = hand_is w c ∙ put_down_hand K h e

    -- its version is one of a word
    version : IsVersion (version_held h)
    version =
        let whole : IsContextWord (Taken c (version_held h)) =
        subst IsContextWord (sh.shows.places.taken c h was) (sh.shows.places.spelled N).whole in whole.1

    empty_after : (carrier_after (StepWith script w c (PutDown h))).hand ≡ None
    empty_after = given_hand _ _

    -- what is put down is this
    abbrev Given : ContextSeen → Memory
    Given v = with_places M (upd M.context N (context_bits (resting_word h.value))) (upd M.slot N (Lying v)) (upd M.hand c None)

    maps_given : Given (rested (is_own K h) h.value) ≡ MapsWith script w c (PutDown h)
    maps_given =
        ap (λ (o : Option HandSeen). with_places M (upd M.context N (context_bits (resting_word h.value)))
        (upd M.slot N (Lying (rested (is_own K h) h.value))) (upd M.hand c o)) (sym empty_after)

    as_it_is : rested (is_own K h) h.value ≡ h.value → Later N
    as_it_is same =
        later N 0 (omega arith) b (none b) refl (PutDown h) e refl (subst (λ (m : Memory). Shows script m b)
        (ap Given (sym same) ∙ maps_given) (given_shown script M b c N h.value sh.shows was version))

    -- a switch that is finished ends
    ends : (z : CarrierContext) (q : Switch) (d : Switched) → h.value ≡ Carrier z → z.switch ≡ Some q →
        q.location ≡ location.Finished d → rested (is_own K h) h.value ≡ without_switch h.value →
        Later N
    ends z q d is on over same =
        later N 1 (omega arith) After (more b After After (ends_switch q.call d at) (none After)) refl (PutDown h) e refl
        (subst (λ (m : Memory). Shows script m After) (maps_same ∙ maps_given)
        (given_shown script (with_hand M c (Some H2)) After c N V2 held (upd_same M.hand c (Some H2)) version2))
      where
        V2 : ContextSeen
        V2 = without_switch (Carrier z)

        H2 : HandSeen
        H2 = record { context = N; value = V2 }

        stands : (b.context N).at ≡ switch_at z.switch
        stands =
            subst (λ (o : Option ContextSeen). ShowsContext (b.seen N).word N o (b.context N))
            (held_is M.context M.slot M.hand c h sh.shows.places was ∙ ap Some is) (sh.shows.contexts N)

        at : (b.context N).at ≡ InSwitch q.call (switch.Finished d)
        at = stands ∙ ap switch_at on ∙ ap (λ l. InSwitch q.call (switch.at_of l)) over

        After : Board
        After = placed b N (record (b.context N) { at = Resting })

        held_version : version_held H2 ≡ version_held h
        held_version = ap (λ (v : ContextSeen). version_of (owner_of v)) (sym is)

        version2 : IsVersion (version_held H2)
        version2 = subst IsVersion (sym held_version) version

        held : Shows script (with_hand M c (Some H2)) After
        held = held_shown script M b c N h V2 (record (b.context N) { at = Resting }) sh.shows was refl held_version refl refl

        -- it holds no lock, before and after
        same_word : resting_word V2 ≡ resting_word h.value
        same_word =
            (λ x. resting_word (Carrier (record {
              carrier = z.carrier;
              serial = z.serial;
              done = z.done;
              switch = Some (record { call = q.call; location = sym over x });
            })))
            ∙ (λ x. resting_word (Carrier (record { carrier = z.carrier; serial = z.serial; done = z.done; switch = sym on x })))
            ∙ ap resting_word (sym is)

        maps_same : with_places (with_hand M c (Some H2)) (upd M.context N (context_bits (resting_word V2)))
            (upd M.slot N (Lying V2)) (upd (with_hand M c (Some H2)).hand c None) ≡ Given (rested (is_own K h) h.value)
        maps_same =
            λ x. with_places M (upd M.context N (context_bits (same_word x)))
            (upd M.slot N (Lying ((ap without_switch (sym is) ∙ sym same) x))) (upd_twice M.hand c (Some H2) None x)

    -- by what it is
    by_own : (o : Bool) → is_own K h ≡ o → (v : ContextSeen) → h.value ≡ v → Later N
    by_own false o v is = as_it_is (ap (λ (t : Bool). rested t h.value) o)
    by_own true o (Thread t) is = as_it_is ((λ x. rested (o x) (is x)) ∙ sym is)
    by_own true o (Carrier z) is = by_switch z.switch refl
      where
        rested_is : rested (is_own K h) h.value ≡ rested true (Carrier z)
        rested_is = λ x. rested (o x) (is x)

        going : (q : Switch) → z.switch ≡ Some q → switch.switched_at q.location ≡ None → Later N
        going q on none_yet = as_it_is (rested_is ∙ rw on (rw none_yet refl) ∙ sym is)

        by_switch : (s : Option Switch) → z.switch ≡ s → Later N
        by_switch None on = as_it_is (rested_is ∙ rw on refl ∙ sym is)
        by_switch (Some q) on = by_location q.location refl
          where
            by_location : (l : SwitchLocation) → q.location ≡ l → Later N
            by_location (location.Finished d) over =
                ends z q d is on over (rested_is ∙ rw on (rw over refl) ∙ ap without_switch (sym is))
            by_location location.AcquireReady over = going q on (ap switch.switched_at over)
            by_location (location.Locked p lists) over = going q on (ap switch.switched_at over)
            by_location (location.ListsReturned p) over = going q on (ap switch.switched_at over)

    pub give_shown : Later N
    give_shown = by_own (is_own K h) refl h.value refl
