-- The words, the slots and the hands after a take of a context: they show the board as it was, or with a switch that begins, or
-- with a thread that wakes.
use Rattle.std.proofs.Common.{◌≡◌, ℕ, ◌<◌, ◌==◌, Bool, true, false, refl, sym, ap, ◌∙◌, subst, Option, Some}
use Rattle.std.proofs.Common.{None, arith, inl, inr}
use Rattle.std.specs.Prelude.{IfSome, if◌then◌else◌}
use Rattle.std.proofs.lemmas.Bool.{cases_Bool, eqb-true}
use Rattle.k_ids.specs.declared.context_word.ContextWord.{ContextWord}
use Rattle.k_ids.specs.declared.context_word.ContextWord.TheVariants.{Clean, Empty, Holds, Taken}
use Rattle.k_ids.specs.ContextWords.{IsContextSpelling, IsVersion, context_bits, context_word_of}
use Rattle.k_locks.specs.declared.locks.WordName.TheVariants as word
use Rattle.k_locks.specs.declared.points.Point.{Point}
use Rattle.k_model.specs.Maps.{upd}
use Rattle.k_model.proofs.Maps.{upd_same}
use Rattle.k_caller.specs.declared.activity.Activity.TheVariants as activity
use Rattle.k_caller.specs.declared.thread.ThreadLocation.TheVariants as location
use Rattle.k_caller.specs.Activities.{section_own}
use Rattle.k_caller.specs.Threads.{ThreadSeen}
use Rattle.k_switch.specs.declared.carrier_context.CarrierContext.{CarrierContext}
use Rattle.k_switch.specs.declared.switch.SwitchCall.{SwitchCall}
use Rattle.k_switch.specs.Carriers as carriers
use Rattle.k_switch.specs.Switches as switch
use Rattle.k_context.specs.Contexts.{ContextSeen, Thread, Carrier, has_switch, owner_of, with_switch, woken}
use Rattle.k_carrier.specs.declared.carrier.Target.{Target}
use Rattle.k_carrier.specs.declared.carrier.Target.TheVariants.{GoalOf, Helped, Own}
use Rattle.k_carrier.specs.Answers.{AnswerSeen, TakeLost, Took}
use Rattle.k_carrier.specs.Asked.{Take, ask_of, asked_by, taken_word, version_in, version_of}
use Rattle.k_carrier.specs.Conditions.{IsResting}
use Rattle.k_carrier.specs.Resumed.{after_take, heard, point_of, resumed, switch_call}
use Rattle.k_carrier.specs.Rules.{context_at, readied, target_of}
use Rattle.k_carrier.specs.Seen.{CarrierSeen, HandSeen}
use Rattle.k_world.specs.Moves.{took}
use Rattle.k_world.specs.Steps.{caller_in, entry_by}
use Rattle.k_world.specs.Worlds.{Slot, Away, Guarded, Resting as Lying, carrier_at, resting_in}
use Rattle.k_board.specs.Boards.{Alone, Board, Context, InSwitch, Resting}
use Rattle.k_board.specs.Steps.{placed}
use Rattle.k_places.specs.Contexts.{IsShown, ShowsContext, at_in, switch_at, thread_at}
use Rattle.k_places.specs.Memory.{Memory, Place, Same, at, memory_of, memory_with, serials_with}
use Rattle.k_places.specs.Shows.{Rests, Shows, ShowsBoard, Stands, context_by}
use Rattle.k_places.proofs.Held.{held_shown, with_hand}
use Rattle.k_places.proofs.Places.{version_held}
use Rattle.k_places.proofs.Takes.{nothing_changed, taken_shown, with_places}
use Rattle.k_joint.proofs.Runs.{MapsWith, hand_is}
use Rattle.k_joint.proofs.Sections.{upd_twice}
use Rattle.k_moves.proofs.Looks.{take_asks}
use Rattle.k_aligned.specs.Aligned.{found_in}
use Rattle.k_moves.proofs.Wins.{not_readied, take_ready}
use Rattle.k_handling.proofs.Handles.{Moment, number_is}
use Rattle.k_handling.proofs.Moves.{readied_kept}

-- what comes into the hand, of the context that was there
abbrev pub value_taken : CarrierSeen → Target → ContextSeen → ContextSeen
value_taken k (Helped n) v = v
value_taken k Own v = if has_switch v then v else with_switch (switch_call k) v
value_taken k (GoalOf g) v = woken v

take_hand : (k : CarrierSeen) (t : Target) (v : ContextSeen) →
    (after_take k t v).hand ≡ Some (record { context = context_at k t; value = value_taken k t v })
take_hand k (Helped n) v = refl
take_hand k Own v = elim (cases_Bool (has_switch v)) [
  | inl e ↦ rw e refl
  | inr e ↦ rw e refl
]
take_hand k (GoalOf g) v = refl

module _ (now : Moment) (n s : ℕ) (e : ask_of (carrier_at now.w now.c) ≡ Take n s) where
  open now use {script, w, b, view, k, c, low}

  abbrev K : CarrierSeen
  K = carrier_at w c

  abbrev M : Memory
  M = memory_of w

  sh : ShowsBoard script w b
  sh = k.aligned.shows

  -- it doesn't begin to switch now
  pub still : readied K ≡ K
  still = not_readied K (take_ready K n s e)

  few : c < 8
  few = let l = low in let f = k.aligned.few in omega (arith, l, f)

  -- what it has looked at is the word of a context that rests
  pub looked : IsContextSpelling s × IsResting (context_word_of s)
  looked =
      subst (λ (o : Option ℕ). IfSome o (λ x. IsContextSpelling x × IsResting (context_word_of x)))
      (ap (λ (x : CarrierSeen). x.looked) (sym still) ∙ (take_asks K n s e).looked) (k.aligned.carriers c low).sound.looked

  -- as it was asked
  abbrev pub Asks : CarrierSeen
  Asks = asked_by script K (Take n s)

  abbrev New : ℕ
  New = context_bits (taken_word K.number (context_word_of s))

  -- by whether the word is the one that was seen
  abbrev Maps : Bool → Slot → Memory
  Maps q sl =
      memory_with M (word.Context n) (if q then New else M.context n) (if q then Place n Away else Same)
      (upd M.hand c (resumed Asks (if q then took (M.context n) sl else TakeLost (M.context n))).hand) M.serial

  abbrev Answered : Bool → Slot → AnswerSeen
  Answered q sl = if q then took (M.context n) sl else TakeLost (M.context n)

  -- no event is made
  no_point : (q : Bool) (sl : Slot) → point_of Asks (caller_in w Asks.hand) (Answered q sl) ≡ None
  no_point false sl = refl
  no_point true (Lying v) = refl
  no_point true (Guarded g) = refl
  no_point true Away = refl

  abbrev MapsNoted : Option Point → Memory
  MapsNoted p =
      memory_with M (word.Context n) (if M.context n == s then New else M.context n)
      (if M.context n == s then Place n Away else Same) (upd M.hand c
      (resumed Asks (Answered (M.context n == s) (M.slot n))).hand) (serials_with (entry_by w p) M.serial)

  maps_noted : MapsWith script w c (Take n s) ≡ MapsNoted
      (point_of Asks (caller_in w Asks.hand) (Answered (M.context n == s) (M.slot n)))
  unfolding at
  maps_noted = refl

  maps_take : MapsWith script w c (Take n s) ≡ Maps (M.context n == s) (M.slot n)
  maps_take = maps_noted ∙ ap MapsNoted (no_point (M.context n == s) (M.slot n))

  empty : M.hand c ≡ None
  empty = hand_is w c ∙ (take_asks K n s e).free

  -- A TAKE IN VAIN

  pub shows_lost : (M.context n == s) ≡ false → Shows script (MapsWith script w c (Take n s)) b
  shows_lost q =
      subst (λ (m : Memory). Shows script m b) (back ∙ sym (maps_take ∙ ap (λ t. Maps t (M.slot n)) q))
      (nothing_changed script M b c n sh.shows empty)
    where
      back : with_places M (upd M.context n (M.context n)) M.slot (upd M.hand c None) ≡ Maps false (M.slot n)
      back =
          ap (λ (h : Option HandSeen). with_places M (upd M.context n (M.context n)) M.slot (upd M.hand c h))
          (sym ((readied_kept K).hand ∙ (take_asks K n s e).free))

  -- A TAKE THAT IS WON

  abbrev Word : ContextWord
  Word = context_word_of (M.context n)

  -- the carrier, and the context that it takes
  abbrev pub Hears : CarrierSeen
  Hears = heard Asks

  abbrev pub Aim : Target
  Aim = target_of Asks

  aims : context_at Hears Aim ≡ n
  aims = (take_asks K n s e).place

  module _ (won : (M.context n == s) ≡ true) where
    found : M.context n ≡ s
    found = eqb-true (M.context n) s won

    -- the context lies there
    pub record IsThere (v : ContextSeen) : Type 0 where
      pub slot : M.slot n ≡ Lying v
      pub version : version_in Word ≡ version_of (owner_of v)
      pub rests : found_in w n ≡ Some v
      pub free : (d x : ℕ) → Word ≡ Taken d x → ⊥
      pub whole : IsVersion (version_of (owner_of v))

    there_in : (sl : Slot) (holds : Bool) (v0 : ℕ) → M.slot n ≡ sl → Rests sl holds v0 → version_in Word ≡ v0 → IsVersion v0 →
        found_in w n ≡ resting_in (M.slot n) → ((d x : ℕ) → Word ≡ Taken d x → ⊥) → (v : ContextSeen) × IsThere v
    there_in (Lying v) holds v0 q r is whole at free = (
      v,
      record {
        slot = q;
        version = is ∙ sym r.1;
        rests = at ∙ ap resting_in q;
        free = free;
        whole = subst IsVersion (sym r.1) whole;
      },
    )
    there_in (Guarded g) holds v0 q r is whole at free = absurd r
    there_in Away holds v0 q r is whole at free = absurd r

    there_by : (x : ContextWord) → Word ≡ x → IsResting x → Stands M.slot M.hand n x → (v : ContextSeen) × IsThere v
    there_by (Clean v0) q r st =
        there_in (M.slot n) false v0 refl st (ap version_in q) r (ap (context_by M.slot M.hand n) q)
        (λ d x z. let no : Clean v0 ≡ Taken d x = sym q ∙ z in absurd cc)
    there_by (Holds v0) q r st =
        there_in (M.slot n) true v0 refl st (ap version_in q) r (ap (context_by M.slot M.hand n) q)
        (λ d x z. let no : Holds v0 ≡ Taken d x = sym q ∙ z in absurd cc)
    there_by (Taken d x) q r st = absurd r
    there_by Empty q r st = absurd r

    pub there : (v : ContextSeen) × IsThere v
    there = there_by Word refl (subst IsResting (ap context_word_of (sym found)) looked.1) (sh.shows.places.stands n)

    module _ (v : ContextSeen) (h : IsThere v) where
      abbrev Has : ContextSeen → HandSeen
      Has u = record { context = n; value = u }

      abbrev pub Value : ContextSeen
      Value = value_taken Hears Aim v

      -- with this in hand
      abbrev Final : ContextSeen → Memory
      Final u =
          with_places M (upd M.context n (context_bits (Taken c (version_held (Has v))))) (upd M.slot n Away)
          (upd M.hand c (Some (Has u)))

      new_is : New ≡ context_bits (Taken c (version_held (Has v)))
      new_is = λ d. context_bits (Taken (number_is now d) ((ap (λ z. version_in (context_word_of z)) (sym found) ∙ h.version) d))

      pub hand_then : (resumed Asks (Took v)).hand ≡ Some (Has Value)
      hand_then = take_hand Hears Aim v ∙ ap (λ (x : ℕ). Some (record { context = x; value = Value })) aims

      maps_won : Maps true (M.slot n) ≡ Final Value
      maps_won =
          λ d. with_places M (upd M.context n (new_is d)) (upd M.slot n Away)
          (upd M.hand c ((ap (λ (z : Slot). (resumed Asks (took (M.context n) z)).hand) h.slot ∙ hand_then) d))

      first : Shows script (Final v) b
      first = taken_shown script M b c n v sh.shows Word empty (refl, h.rests, h.free) (few, h.whole)

      shown : ShowsContext (b.seen n).word n (Some v) (b.context n)
      shown = subst (λ (o : Option ContextSeen). ShowsContext (b.seen n).word n o (b.context n)) h.rests (sh.shows.contexts n)

      maps_are : (u : ContextSeen) → Value ≡ u → Final u ≡ MapsWith script w c (Take n s)
      maps_are u q = sym (maps_take ∙ ap (λ t. Maps t (M.slot n)) won ∙ maps_won ∙ ap Final q)

      -- as it lay there
      pub shows_same : Value ≡ v → Shows script (MapsWith script w c (Take n s)) b
      shows_same q = subst (λ (m : Memory). Shows script m b) (maps_are v q) first

      -- A SWITCH BEGINS
      module _ (z : CarrierContext) (call : SwitchCall) (is : v ≡ Carrier z) (idle : z.switch ≡ None)
          (q : Value ≡ Carrier (carriers.with_switch call z)) where
        abbrev Begun : ContextSeen
        Begun = Carrier (carriers.with_switch call z)

        abbrev pub Switching : Board
        Switching = placed b n (record (b.context n) { at = InSwitch call switch.AcquireReady })

        pub at_rest : (b.context n).at ≡ Resting
        at_rest =
            subst (λ (y : ContextSeen). ShowsContext (b.seen n).word n (Some y) (b.context n)) is shown ∙ ap switch_at idle

        next : Shows script (with_hand (Final v) c (Some (Has Begun))) Switching
        next =
            held_shown script (Final v) b c n (Has v) Begun
            (record (b.context n) { at = InSwitch call switch.AcquireReady }) first (upd_same M.hand c (Some (Has v))) refl
            (ap (λ (y : ContextSeen). version_of (owner_of y)) (sym is)) refl refl

        pub shows_switching : Shows script (MapsWith script w c (Take n s)) Switching
        shows_switching =
            subst (λ (m : Memory). Shows script m Switching)
            (ap (λ (x : ℕ → Option HandSeen). record (Final v) { hand = x })
            (upd_twice M.hand c (Some (Has v)) (Some (Has Begun))) ∙ maps_are Begun q) next

      -- A THREAD WAKES
      module _ (t : ThreadSeen) (is : v ≡ Thread t) (asleep : t.activity ≡ activity.Alone location.Asleep)
          (q : Value ≡ Thread (record t { activity = activity.Alone location.LookAgain })) where
        abbrev Woken : ContextSeen
        Woken = Thread (record t { activity = activity.Alone location.LookAgain })

        abbrev pub Awake : Board
        Awake = placed b n (record (b.context n) { at = Alone location.LookAgain })

        thread : IsShown (b.seen n).word n t (b.context n)
        thread = subst (λ (y : ContextSeen). ShowsContext (b.seen n).word n (Some y) (b.context n)) is shown

        made : (x : Bool) → ((b.seen n).word.version == t.id.version) ≡ x → x ≡ true
        made true y = refl
        made false y =
            let no : activity.Alone (location.Between None) ≡ activity.Alone location.Asleep =
            sym (thread.coming (ap (λ (z : Context). z.at) thread.context ∙ rw y refl)).doing ∙ asleep in absurd cc

        ver : ((b.seen n).word.version == t.id.version) ≡ true
        ver = made ((b.seen n).word.version == t.id.version) refl

        pub at_asleep : (b.context n).at ≡ Alone location.Asleep
        at_asleep = ap (λ (z : Context). z.at) thread.context ∙ rw ver (ap at_in asleep)

        woken_shown : IsShown (b.seen n).word n (record t { activity = activity.Alone location.LookAgain })
            (record (b.context n) { at = Alone location.LookAgain })
        woken_shown = record {
          number = thread.number;
          coming = λ y. absurd cc;
          context =
              λ d. record {
                serial = ap (λ (z : Context). z.serial) thread.context d;
                own = (ap (λ (z : Context). z.own) thread.context ∙ ap (section_own t.own) asleep) d;
                position = ap (λ (z : Context). z.position) thread.context d;
                at = stands d;
              };
        }
          where
            stands : Alone location.LookAgain ≡ thread_at (b.seen n).word
                (record t { activity = activity.Alone location.LookAgain })
            stands = sym (rw ver refl)

        next_awake : Shows script (with_hand (Final v) c (Some (Has Woken))) Awake
        next_awake =
            held_shown script (Final v) b c n (Has v) Woken (record (b.context n) { at = Alone location.LookAgain }) first
            (upd_same M.hand c (Some (Has v))) refl (ap (λ (y : ContextSeen). version_of (owner_of y)) (sym is)) woken_shown refl

        pub shows_awake : Shows script (MapsWith script w c (Take n s)) Awake
        shows_awake =
            subst (λ (m : Memory). Shows script m Awake)
            (ap (λ (x : ℕ → Option HandSeen). record (Final v) { hand = x })
            (upd_twice M.hand c (Some (Has v)) (Some (Has Woken))) ∙ maps_are Woken q) next_awake
