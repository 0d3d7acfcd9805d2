-- A carrier puts a context down: the board stays, but for the end of the carrier's own switch.
use Rattle.std.proofs.Common.{◌≡◌, ℕ, ◌+◌, ◌<◌, ◌≤◌, Bool, true, false, length, refl, sym, ap, ◌∙◌, subst}
use Rattle.std.proofs.Common.{Option, Some, None, arith, inl, inr}
use Rattle.std.specs.Prelude.{IfSome, if◌then◌else◌, is_some}
use Rattle.std.proofs.lemmas.Bool.{eqb-true}
use Rattle.k_ids.specs.declared.context_word.ContextWord.TheVariants.{Taken}
use Rattle.k_ids.specs.ContextWords.{IsContextWord, IsVersion, context_bits}
use Rattle.k_model.specs.Maps.{upd}
use Rattle.k_model.proofs.Maps.{upd_same}
use Rattle.k_ids.specs.declared.calls.Reply.{Reply}
use Rattle.k_script.specs.Script.{Script}
use Rattle.k_caller.specs.declared.thread.ThreadLocation.TheVariants as thread_location
use Rattle.k_switch.specs.declared.carrier_context.CarrierContext.{CarrierContext}
use Rattle.k_switch.specs.declared.goal.Switched.{Switched}
use Rattle.k_switch.specs.declared.switch.Switch.{Switch}
use Rattle.k_switch.specs.declared.switch.SwitchLocation.{SwitchLocation}
use Rattle.k_switch.specs.declared.switch.SwitchLocation.TheVariants as location
use Rattle.k_switch.specs.Carriers as own
use Rattle.k_switch.specs.Switches as switch
use Rattle.k_context.specs.Contexts.{ContextSeen, Thread, Carrier, IsSound, owner_of, without_switch}
use Rattle.k_carrier.specs.declared.moves.Awaits.TheVariants as awaits
use Rattle.k_carrier.specs.Answers as answer
use Rattle.k_carrier.specs.Asked.{PutDown, ask_of, asked, asked_by, rested, resting_word, version_of}
use Rattle.k_carrier.specs.Conditions.{IsHand, IsOfNumber}
use Rattle.k_carrier.specs.Resumed.{resumed, switched_to}
use Rattle.k_carrier.specs.Rules.{is_own, is_released, own_context, own_switched, switched_in}
use Rattle.k_carrier.specs.Seen.{CarrierSeen, HandSeen}
use Rattle.k_world.specs.Steps.{moved}
use Rattle.k_world.specs.Worlds.{Resting as Lying, carrier_at}
use Rattle.k_board.specs.Boards.{Alone, Board, InSwitch, Resting}
use Rattle.k_board.specs.Steps.{placed}
use Rattle.k_board.specs.Turns as turn
use Rattle.k_plays.specs.Scripts.{ranged_programs}
use Rattle.k_places.specs.Contexts.{ShowsContext, switch_at}
use Rattle.k_places.specs.Memory.{Memory, memory_of}
use Rattle.k_places.specs.Shows.{Shows}
use Rattle.k_places.proofs.Held.{held_shown, with_hand}
use Rattle.k_places.proofs.Places.{held_is, version_held}
use Rattle.k_places.proofs.Takes.{given_shown, with_places}
use Rattle.k_joint.proofs.Runs.{MapsWith, hand_is}
use Rattle.k_joint.proofs.Sections.{upd_twice}
use Rattle.k_tokens.specs.Steps.{FindsTaken, ThreadStep}
use Rattle.k_tokens.specs.World.{ContextName, OfCarrier, OfThread}
use Rattle.k_switching.specs.Claims.{IsAsked}
use Rattle.k_switching.specs.Rules.{carrier_step, given as put_given, given_own, has_switched}
use Rattle.k_switching.specs.Rules as rules
use Rattle.k_grants.specs.Views.{name_of}
use Rattle.k_moves.specs.Moved.{IsMoved}
use Rattle.k_moves.specs.Views as view_of
use Rattle.k_moves.specs.Views.{IsViewed}
use Rattle.k_moves.proofs.Gives.{give_is_same, hand_so, put_asks}
use Rattle.k_moves.proofs.Names.{name_beyond}
use Rattle.k_moves.proofs.Rules.{gives_same, named_so}
use Rattle.k_paired.specs.Pairs.{IsStill}
use Rattle.k_aligned.specs.Aligned.{found_in}
use Rattle.k_whole.specs.Whole.{ends_switch, stays}
use Rattle.k_handling.specs.Handling.{IsHandled}
use Rattle.k_handling.proofs.Handles.{IsAfter, Moment, given, number_is, serials_kept, table_is, viewed}
use Rattle.k_handling.proofs.Moves.{IsKept, IsLooked, after_kept, handled_so, still_as}
use Rattle.k_handling.proofs.Words.{hand_viewed, shown}

-- a finished switch in its carrier's own context
pub record IsOver (mine : Bool) (v : ContextSeen) (s : Switched) : Type 0 where
  pub its_own : mine ≡ true
  pub value : CarrierContext
  pub switch : Switch
  pub is : v ≡ Carrier value
  pub on : value.switch ≡ Some switch
  pub over : switch.location ≡ location.Finished s

over_is : (mine : Bool) (v : ContextSeen) (s : Switched) → switched_in mine v ≡ Some s → IsOver mine v s
over_is false v s e = absurd cc
over_is true (Thread t) s e = absurd cc
over_is true (Carrier z) s e = by z.switch refl e
  where
    at : (q : Switch) (l : SwitchLocation) → z.switch ≡ Some q → q.location ≡ l → switch.switched_at l ≡ Some s →
        IsOver true (Carrier z) s
    at q (location.Finished d) on is f = record {
      its_own = refl;
      value = z;
      switch = q;
      is = refl;
      on = on;
      over = is ∙ ap location.Finished (let y : d ≡ s = cc in y);
    }
    at q location.AcquireReady on is f = absurd cc
    at q (location.Locked p lists) on is f = absurd cc
    at q (location.ListsReturned p) on is f = absurd cc

    by : (o : Option Switch) → z.switch ≡ o → own.switched_in o ≡ Some s → IsOver true (Carrier z) s
    by None on f = absurd cc
    by (Some q) on f = at q q.location on refl f

given_kept : (x : CarrierSeen) (s : Option Switched) → IsLooked x (switched_to x s)
given_kept x None = record { kept = record { number = refl; awaits = refl; starts = refl; help = inl refl }; hand = refl }
given_kept x (Some s) = record { kept = record { number = refl; awaits = refl; starts = refl; help = inl refl }; hand = refl }

-- a number of a context that is sound has a word
pub number_within : (script : Script) (n : ℕ) (v : ContextSeen) → script.table ≤ 64 → IsOfNumber script.table n v →
    IsSound script v → n < 72
number_within script n (Thread t) few e s = let l = s.inside in omega (arith, few, e, l)
number_within script n (Carrier z) few e s = let l = s.carrier in omega (arith, few, e, l)

module _ (now : Moment) (h : HandSeen)
    (asks : ask_of (carrier_at now.w now.c) ≡ PutDown h) where
  open now use {script, limits, w, b, view, state, k, c, low}

  abbrev K : CarrierSeen
  K = carrier_at w c

  abbrev M : Memory
  M = memory_of w

  abbrev N : ℕ
  N = h.context

  number : K.number ≡ c
  number = number_is now

  table : K.table ≡ script.table
  table = table_is now

  mine : IsViewed view K
  mine = viewed now

  in_hand : K.hand ≡ Some h
  in_hand = (put_asks K h asks).hand

  was : M.hand c ≡ Some h
  was = hand_is w c ∙ in_hand

  hand_sound : IsHand script K.table h
  hand_sound = subst (λ (o : Option HandSeen). IfSome o (IsHand script K.table)) in_hand (k.aligned.carriers c low).sound.hand

  found : found_in w N ≡ Some h.value
  found = held_is M.context M.slot M.hand c h k.aligned.shows.shows.places was

  shows : view_of.ShowsContext view K.table N h.value
  shows =
      subst (λ m. view_of.ShowsContext view m N h.value) (sym table) (shown script w b view state k N h.value found)

  word : N < 72
  word =
      number_within script N h.value (limits.table.1) (subst (λ m. IsOfNumber m N h.value) table hand_sound.number)
      hand_sound.sound

  -- THE CARRIER THEN

  abbrev J : CarrierSeen
  J = resumed (asked_by script K (PutDown h)) answer.Given

  abbrev Put : CarrierSeen
  Put = record K {
    hand = None;
    putting = false;
    help = if is_released K h then None else K.help;
    awaits = awaits.Nothing;
  }

  put_kept : (t : Bool) (x : CarrierSeen) → IsKept (record K {
    hand = None;
    putting = false;
    help = if t then None else K.help;
    awaits = awaits.Nothing;
  }) x → IsKept (record K { awaits = awaits.Nothing }) x
  put_kept true x y = record {
    number = y.number;
    awaits = y.awaits;
    starts = y.starts;
    help = elim y.help [ inl e ↦ inr e | inr e ↦ inr e ];
  }
  put_kept false x y = record { number = y.number; awaits = y.awaits; starts = y.starts; help = y.help }

  after : IsAfter now J
  after =
      after_kept now (record K { awaits = awaits.Nothing }) J
      (put_kept (is_released K h) J (given_kept Put (own_switched K h)).kept) number refl
      (given now).starts (k.helps c low)

  moves : (t : ThreadStep) → IsMoved view (carrier_step view K.number t) K (resumed (asked script K) answer.Given) N
      (rested (is_own K h) h.value) None
  moves t = give_is_same script view K h t mine asks shows

  -- THE WORDS AND SLOTS THEN

  version : IsVersion (version_held h)
  version =
      let whole : IsContextWord (Taken c (version_held h)) =
      subst IsContextWord (k.aligned.shows.shows.places.taken c h was) (k.aligned.shows.shows.places.spelled N).whole in whole.1

  -- what is put down is this
  abbrev Given : ContextSeen → Memory
  Given v = with_places M (upd M.context N (context_bits (resting_word h.value))) (upd M.slot N (Lying v)) (upd M.hand c None)

  maps_given : Given (rested (is_own K h) h.value) ≡ MapsWith script w c (PutDown h)
  maps_given =
      ap (λ (o : Option HandSeen). with_places M (upd M.context N (context_bits (resting_word h.value)))
      (upd M.slot N (Lying (rested (is_own K h) h.value))) (upd M.hand c o)) (sym (given_kept Put (own_switched K h)).hand)

  -- AS IT IS

  kept_rested : own_switched K h ≡ None → rested (is_own K h) h.value ≡ h.value
  kept_rested e = ap (λ (o : Option Switched). if is_some o then without_switch h.value else h.value) e

  put_down : (t : ThreadStep) → carrier_step view K.number t ≡ put_given view K.number (name_of K.table N)
  put_down t = hand_so view K h t true mine (put_asks K h asks) shows

  still_given : (x : ContextName) → has_switched view K.number x ≡ false → IsStill view (put_given view K.number x)
  still_given (OfThread t) e = record { threads = refl; ready = refl; lists = refl; running = refl; own = refl }
  still_given (OfCarrier d) e =
      still_as (ap (given_own view K.number d) e) (record {
        threads = refl;
        ready = refl;
        lists = refl;
        running = refl;
        own = refl;
      })

  hand_name : (view.carrier c).hand ≡ Some (name_of K.table N)
  hand_name = hand_viewed script w b view state k c (Some h) low in_hand ∙ ap (λ m. Some (name_of m N)) (sym table)

  nobody : (context : ContextName) → IsAsked view c context → ⊥
  nobody context a =
      let e : Some (name_of K.table N) ≡ Some context = sym hand_name ∙ a.hand in
      let f : name_of K.table N ≡ context = some_same e in
      let z : true ≡ false = sym (gives_same view K h shows ∙ (put_asks K h asks).gives)
      ∙ (λ i. rules.gives view (number i) (sym (k.aligned.carriers c low).viewed i) (f i)) ∙ a.kept in absurd cc
    where
      some_same : {x y : ContextName} → Some x ≡ Some y → x ≡ y
      some_same e = cc

  as_it_is : own_switched K h ≡ None → IsHandled script b view c (moved script c w) w.history state
  as_it_is none =
      handled_so now (PutDown h) asks answer.Given refl (λ x. refl) word after b
      (subst (λ (m : Memory). Shows script m b) (ap Given (sym (kept_rested none)) ∙ maps_given)
      (given_shown script M b c N h.value k.aligned.shows.shows was version)) k.serials
      (stays nobody (still_as (ap (λ m. carrier_step view m FindsTaken) (sym number) ∙ put_down FindsTaken)
      (still_given (name_of K.table N) ((named_so view K N h.value shows).switched ∙ ap is_some none)))) refl
      (λ t. (moves t).carrier) (λ t. (moves t).unmade)

  -- ITS SWITCH IS OVER

  module _ (s : Switched) (o : IsOver (is_own K h) h.value s) where
    own_place : N ≡ b.size + c
    own_place =
        eqb-true N (own_context K) o.its_own ∙ (λ i. table i + number i) ∙ ap (λ m. m + c) (sym k.aligned.shows.shows.size)

    abbrev H2 : HandSeen
    H2 = record { context = N; value = without_switch (Carrier o.value) }

    stands : (b.context N).at ≡ switch_at o.value.switch
    stands =
        subst (λ (x : Option ContextSeen). ShowsContext (b.seen N).word N x (b.context N)) (found ∙ ap Some o.is)
        (k.aligned.shows.shows.contexts N)

    at : (b.context N).at ≡ InSwitch o.switch.call (switch.Finished s)
    at = stands ∙ ap switch_at o.on ∙ ap (λ l. InSwitch o.switch.call (switch.at_of l)) o.over

    abbrev After : ℕ → Board
    After n = placed b n (record (b.context n) { at = Resting })

    held_version : version_held H2 ≡ version_held h
    held_version = ap (λ (v : ContextSeen). version_of (owner_of v)) (sym o.is)

    held : Shows script (with_hand M c (Some H2)) (After N)
    held =
        held_shown script M b c N h (without_switch (Carrier o.value)) (record (b.context N) { at = Resting })
        k.aligned.shows.shows was refl held_version refl refl

    -- it holds no lock, before and after
    same_word : resting_word (without_switch (Carrier o.value)) ≡ resting_word h.value
    same_word =
        (λ x. resting_word (Carrier (record {
          carrier = o.value.carrier;
          serial = o.value.serial;
          done = o.value.done;
          switch = Some (record { call = o.switch.call; location = sym o.over x });
        })))
        ∙ (λ x. resting_word (Carrier (record {
          carrier = o.value.carrier;
          serial = o.value.serial;
          done = o.value.done;
          switch = sym o.on x;
        })))
        ∙ ap resting_word (sym o.is)

    rested_is : without_switch (Carrier o.value) ≡ rested (is_own K h) h.value
    rested_is =
        ap without_switch (sym o.is)
        ∙ sym (ap (λ (x : Option Switched). if is_some x then without_switch h.value else h.value) switched)
      where
        switched : own_switched K h ≡ Some s
        switched =
            (λ i. switched_in (o.its_own i) (o.is i)) ∙ ap own.switched_in o.on ∙ ap switch.switched_at o.over

    maps_same : with_places (with_hand M c (Some H2))
        (upd M.context N (context_bits (resting_word (without_switch (Carrier o.value)))))
        (upd M.slot N (Lying (without_switch (Carrier o.value)))) (upd (with_hand M c (Some H2)).hand c None) ≡
        Given (rested (is_own K h) h.value)
    maps_same =
        λ x. with_places M (upd M.context N (context_bits (same_word x))) (upd M.slot N (Lying (rested_is x)))
        (upd_twice M.hand c (Some H2) None x)

    shows_after : Shows script (MapsWith script w c (PutDown h)) (After N)
    shows_after =
        subst (λ (m : Memory). Shows script m (After N)) (maps_same ∙ maps_given)
        (given_shown script (with_hand M c (Some H2)) (After N) c N (without_switch (Carrier o.value)) held
        (upd_same M.hand c (Some H2)) (subst IsVersion (sym held_version) version))

    own_at : (b.context (b.size + c)).at ≡ InSwitch o.switch.call (switch.Finished s)
    own_at = ap (λ m. (b.context m).at) (sym own_place) ∙ at

    hand_own : (view.carrier c).hand ≡ Some (OfCarrier c)
    hand_own =
        hand_name ∙ ap Some (ap (name_of K.table) (eqb-true N (own_context K) o.its_own) ∙ name_beyond K.table K.number
        ∙ ap OfCarrier number)

    ends : IsHandled script b view c (moved script c w) w.history state
    ends =
        handled_so now (PutDown h) asks answer.Given refl (λ x. refl) word after
        (After (b.size + c)) (subst (λ m. Shows script (MapsWith script w c (PutDown h)) (After m)) own_place shows_after)
        (serials_kept (ranged_programs script) b (b.size + c) (length w.history) k.serials calm (After (b.size + c))
        (turn.ends_switch o.switch.call s own_at) refl) (ends_switch o.switch.call s hand_own own_at) refl
        (λ t. (moves t).carrier) (λ t. (moves t).unmade)
      where
        calm : (l : Option Reply) → (b.context (b.size + c)).at ≡ Alone (thread_location.Between l) → ⊥
        calm l e =
            let z : Alone (thread_location.Between l) ≡ InSwitch o.switch.call (switch.Finished s) = sym e ∙ own_at in absurd cc

  pub give_handled : IsHandled script b view c (moved script c w) w.history state
  give_handled = by (own_switched K h) refl
    where
      by : (o : Option Switched) → own_switched K h ≡ o → IsHandled script b view c (moved script c w) w.history state
      by None e = as_it_is e
      by (Some s) e = ends s (over_is (is_own K h) h.value s e)
