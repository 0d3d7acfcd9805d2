-- A carrier's take of a context: the world after it shows the same board, but for a thread that wakes and a switch that begins.
use Rattle.std.proofs.Common.{◌≡◌, ℕ, ◌<◌, ◌==◌, Bool, true, false, refl, sym, ap}
use Rattle.std.proofs.Common.{◌∙◌, subst, Option, Some, None, arith, inl, inr}
use Rattle.std.specs.Prelude.{if◌then◌else◌, IfSome}
use Rattle.std.proofs.lemmas.Bool.{cases_Bool, eqb-true}
use Rattle.k_ids.specs.declared.context_word.ContextWord.{ContextWord}
use Rattle.k_ids.specs.declared.context_word.ContextWord.TheVariants.{Clean, Empty, Holds, Taken}
use Rattle.k_ids.specs.ContextWords.{IsContextSpelling, IsVersion, context_bits, context_word_of}
use Rattle.k_locks.specs.declared.locks.WordName.TheVariants as word
use Rattle.k_locks.specs.declared.points.Point.{Point}
use Rattle.k_model.specs.Maps.{upd}
use Rattle.k_model.proofs.Maps.{upd_same}
use Rattle.k_script.specs.Script.{Script}
use Rattle.k_caller.specs.declared.activity.Activity.{Activity}
use Rattle.k_caller.specs.declared.activity.Activity.TheVariants as activity
use Rattle.k_caller.specs.declared.thread.ThreadLocation.TheVariants as location
use Rattle.k_caller.specs.Activities as about
use Rattle.k_caller.specs.Activities.{section_own}
use Rattle.k_caller.specs.Threads.{ThreadSeen}
use Rattle.k_switch.specs.declared.carrier_context.CarrierContext.{CarrierContext}
use Rattle.k_switch.specs.declared.switch.Switch.{Switch}
use Rattle.k_switch.specs.declared.switch.SwitchCall.{SwitchCall}
use Rattle.k_switch.specs.Carriers as carriers
use Rattle.k_switch.specs.Switches as switch
use Rattle.k_context.specs.Contexts.{ContextSeen, Thread, Carrier, has_switch, owner_of, with_switch, woken}
use Rattle.k_carrier.specs.declared.carrier.Target.{Target}
use Rattle.k_carrier.specs.declared.carrier.Target.TheVariants.{GoalOf, Helped, Own}
use Rattle.k_carrier.specs.Answers.{AnswerSeen, TakeLost}
use Rattle.k_carrier.specs.Asked.{Take, ask_at, ask_of, ask_with, asked_by, taken_word, version_in, version_of}
use Rattle.k_carrier.specs.Conditions.{IsResting}
use Rattle.k_carrier.specs.Resumed.{after_take, heard, point_of, resumed, switch_call}
use Rattle.k_carrier.specs.Rules.{begins, context_at, gives, readied, target_of}
use Rattle.k_carrier.specs.Seen.{CarrierSeen, HandSeen}
use Rattle.k_world.specs.Moves.{took}
use Rattle.k_world.specs.Steps.{caller_in, entry_by, entry_of, step_in}
use Rattle.k_world.specs.Worlds.{Slot, World, Away, Guarded, Resting as Lying, carrier_at, resting_in}
use Rattle.k_board.specs.Boards.{Alone, Board, Context, InSwitch, Resting}
use Rattle.k_board.specs.Steps.{placed}
use Rattle.k_board.specs.Turns.{begins_switch, wakes}
use Rattle.k_places.specs.Contexts.{IsShown, ShowsContext, at_in, switch_at, thread_at}
use Rattle.k_places.specs.Fits.{IsStepWithin}
use Rattle.k_places.specs.Memory.{Memory, Place, Same, at, memory_of, memory_with, serials_with}
use Rattle.k_joint.specs.Ready.{IsTaking}
use Rattle.k_turns.specs.Sections.{more, none}
use Rattle.k_places.specs.Shows.{Rests, Shows, ShowsBoard, Stands, context_by, context_in}
use Rattle.k_joint.proofs.Carried.{Later, later, not_held, readied_hand}
use Rattle.k_places.proofs.Held.{held_shown, with_hand}
use Rattle.k_places.proofs.Places.{version_held}
use Rattle.k_joint.proofs.Runs.{MapsWith, StepWith, hand_is}
use Rattle.k_joint.proofs.Sections.{upd_twice}
use Rattle.k_places.proofs.Takes.{nothing_changed, taken_shown, with_places}

-- WHAT IS TAKEN

-- what comes into the hand, of the context that was there
abbrev pub value_taken : CarrierSeen → Target → ContextSeen → ContextSeen
value_taken k (Helped n) v = v
value_taken k Own v = if has_switch v then v else with_switch (switch_call k) v
value_taken k (GoalOf g) v = woken v

take_hand : (k : CarrierSeen) (t : Target) (v : ContextSeen) →
    (after_take k t v).hand ≡ Some (record { context = context_at k t; value = value_taken k t v })
take_hand k (Helped n) v = refl
take_hand k Own v = elim (cases_Bool (has_switch v)) [
  | inl e ↦ rw e refl
  | inr e ↦ rw e refl
]
take_hand k (GoalOf g) v = refl

-- THE CARRIER

pub take_empty : (k : CarrierSeen) (n s : ℕ) → ask_of k ≡ Take n s → k.hand ≡ None
take_empty k n s e = by k.hand refl e
  where
    by : (o : Option HandSeen) → k.hand ≡ o → ask_with k o ≡ Take n s → k.hand ≡ None
    by None q z = q
    by (Some x) q z = absurd (not_held k x (gives k x) (Take n s) z (λ y d. absurd cc) (λ y d. absurd cc))

take_asks : (k : CarrierSeen) (n s : ℕ) → ask_of k ≡ Take n s → ask_at (readied k) (readied k).looked ≡ Take n s
take_asks k n s e = ap (ask_with k) (sym (take_empty k n s e)) ∙ e

place_is : {a x y z : ℕ} → Take a x ≡ Take y z → a ≡ y
place_is e = cc

word_is : {a x y z : ℕ} → Take a x ≡ Take y z → x ≡ z
word_is e = cc

take_place : (k : CarrierSeen) (n s : ℕ) (o : Option ℕ) → ask_at k o ≡ Take n s → context_at k (target_of k) ≡ n
take_place k n s None e = absurd cc
take_place k n s (Some x) e = place_is e

take_word : (k : CarrierSeen) (n s : ℕ) (o : Option ℕ) → ask_at k o ≡ Take n s → o ≡ Some s
take_word k n s None e = absurd cc
take_word k n s (Some x) e = ap Some (word_is e)

-- a carrier that begins to switch has looked at nothing
looked_is : (k : CarrierSeen) (s : ℕ) → (readied k).looked ≡ Some s → k.looked ≡ Some s
looked_is k s = by (begins k)
  where
    by : (t : Bool) → (if t then record k { switching = true; help = None; looked = None } else k).looked ≡ Some s →
        k.looked ≡ Some s
    by true e = absurd cc
    by false e = e

module _ (script : Script) (w : World) (c : ℕ) (b : Board) (sh : ShowsBoard script w b)
    (within : IsStepWithin w (step_in script c w)) (n s : ℕ) (e : ask_of (carrier_at w c) ≡ Take n s)
    (sound : IsTaking script c (carrier_at w c)) where
  abbrev K : CarrierSeen
  K = carrier_at w c

  abbrev M : Memory
  M = memory_of w

  -- as it was asked
  abbrev pub Asks : CarrierSeen
  Asks = asked_by script K (Take n s)

  abbrev New : ℕ
  New = context_bits (taken_word K.number (context_word_of s))

  -- by whether the word is the one that was seen
  abbrev Maps : Bool → Slot → Memory
  Maps q sl =
      memory_with M (word.Context n) (if q then New else M.context n) (if q then Place n Away else Same)
      (upd M.hand c (resumed Asks (if q then took (M.context n) sl else TakeLost (M.context n))).hand) M.serial

  abbrev Answered : Bool → Slot → AnswerSeen
  Answered q sl = if q then took (M.context n) sl else TakeLost (M.context n)

  -- no event is made
  no_point : (q : Bool) (sl : Slot) → point_of Asks (caller_in w Asks.hand) (Answered q sl) ≡ None
  no_point false sl = refl
  no_point true (Lying v) = refl
  no_point true (Guarded g) = refl
  no_point true Away = refl

  abbrev MapsNoted : Option Point → Memory
  MapsNoted p =
      memory_with M (word.Context n) (if M.context n == s then New else M.context n)
      (if M.context n == s then Place n Away else Same) (upd M.hand c
      (resumed Asks (Answered (M.context n == s) (M.slot n))).hand) (serials_with (entry_by w p) M.serial)

  maps_noted : MapsWith script w c (Take n s) ≡ MapsNoted
      (point_of Asks (caller_in w Asks.hand) (Answered (M.context n == s) (M.slot n)))
  unfolding at
  maps_noted = refl

  maps_take : MapsWith script w c (Take n s) ≡ Maps (M.context n == s) (M.slot n)
  maps_take = maps_noted ∙ ap MapsNoted (no_point (M.context n == s) (M.slot n))

  quiet : entry_of w (StepWith script w c (Take n s)) ≡ None
  unfolding at
  quiet = ap (entry_by w) (no_point (M.context n == s) (M.slot n))

  empty : M.hand c ≡ None
  empty = hand_is w c ∙ take_empty K n s e

  -- A TAKE IN VAIN

  lost : (M.context n == s) ≡ false → Later script w c b sh within n
  lost q =
      later script w c b sh within n 0 (omega arith) b (none b) refl (Take n s) e quiet
      (subst (λ (m : Memory). Shows script m b) (back ∙ sym (maps_take ∙ ap (λ t. Maps t (M.slot n)) q))
      (nothing_changed script M b c n sh.shows empty))
    where
      back : with_places M (upd M.context n (M.context n)) M.slot (upd M.hand c None) ≡ Maps false (M.slot n)
      back =
          ap (λ (h : Option HandSeen). with_places M (upd M.context n (M.context n)) M.slot (upd M.hand c h))
          (sym (readied_hand K ∙ take_empty K n s e))

  -- A TAKE THAT IS WON

  abbrev Word : ContextWord
  Word = context_word_of (M.context n)

  -- the carrier, and the context that it takes
  abbrev pub Heard : CarrierSeen
  Heard = heard Asks

  abbrev pub Aim : Target
  Aim = target_of Asks

  pub aims : context_at Heard Aim ≡ n
  aims = take_place (readied K) n s (readied K).looked (take_asks K n s e)

  looked : IsContextSpelling s × IsResting (context_word_of s)
  looked =
      subst (λ (o : Option ℕ). IfSome o (λ bits. IsContextSpelling bits × IsResting (context_word_of bits)))
      (looked_is K s (take_word (readied K) n s (readied K).looked (take_asks K n s e))) sound.sound.looked

  module _ (won : (M.context n == s) ≡ true) where
    found : M.context n ≡ s
    found = eqb-true (M.context n) s won

    -- the context lies there
    pub record IsThere (v : ContextSeen) : Type 0 where
      pub slot : M.slot n ≡ Lying v
      pub version : version_in Word ≡ version_of (owner_of v)
      pub rests : context_in M.context M.slot M.hand n ≡ Some v
      pub free : (d x : ℕ) → Word ≡ Taken d x → ⊥
      pub whole : IsVersion (version_of (owner_of v))

    there_in : (sl : Slot) (holds : Bool) (v0 : ℕ) → M.slot n ≡ sl → Rests sl holds v0 → version_in Word ≡ v0 → IsVersion v0 →
        context_in M.context M.slot M.hand n ≡ resting_in (M.slot n) → ((d x : ℕ) → Word ≡ Taken d x → ⊥) →
        (v : ContextSeen) × IsThere v
    there_in (Lying v) holds v0 q r is whole at free = (
      v,
      record {
        slot = q;
        version = is ∙ sym r.1;
        rests = at ∙ ap resting_in q;
        free = free;
        whole = subst IsVersion (sym r.1) whole;
      },
    )
    there_in (Guarded g) holds v0 q r is whole at free = absurd r
    there_in Away holds v0 q r is whole at free = absurd r

    there_by : (x : ContextWord) → Word ≡ x → IsResting x → Stands M.slot M.hand n x → (v : ContextSeen) × IsThere v
    there_by (Clean v0) q r st =
        there_in (M.slot n) false v0 refl st (ap version_in q) r (ap (context_by M.slot M.hand n) q)
        (λ d x z. let no : Clean v0 ≡ Taken d x = sym q ∙ z in absurd cc)
    there_by (Holds v0) q r st =
        there_in (M.slot n) true v0 refl st (ap version_in q) r (ap (context_by M.slot M.hand n) q)
        (λ d x z. let no : Holds v0 ≡ Taken d x = sym q ∙ z in absurd cc)
    there_by (Taken d x) q r st = absurd r
    there_by Empty q r st = absurd r

    pub there : (v : ContextSeen) × IsThere v
    there = there_by Word refl (subst IsResting (ap context_word_of (sym found)) looked.1) (sh.shows.places.stands n)

    module _ (v : ContextSeen) (h : IsThere v) where
      abbrev Has : ContextSeen → HandSeen
      Has u = record { context = n; value = u }

      -- with this in hand
      abbrev Final : ContextSeen → Memory
      Final u =
          with_places M (upd M.context n (context_bits (Taken c (version_held (Has v))))) (upd M.slot n Away)
          (upd M.hand c (Some (Has u)))

      new_is : New ≡ context_bits (Taken c (version_held (Has v)))
      new_is = λ d. context_bits (Taken (sound.number d) ((ap (λ z. version_in (context_word_of z)) (sym found) ∙ h.version) d))

      pub hand_then : (resumed Asks (took (M.context n) (M.slot n))).hand ≡ Some (Has (value_taken Heard Aim v))
      hand_then =
          ap (λ (z : Slot). (resumed Asks (took (M.context n) z)).hand) h.slot ∙ take_hand Heard Aim v
          ∙ ap (λ (x : ℕ). Some (record { context = x; value = value_taken Heard Aim v })) aims

      maps_won : Maps true (M.slot n) ≡ Final (value_taken Heard Aim v)
      maps_won = λ d. with_places M (upd M.context n (new_is d)) (upd M.slot n Away) (upd M.hand c (hand_then d))

      first : Shows script (Final v) b
      first =
          taken_shown script M b c n v sh.shows Word empty (refl, h.rests, h.free)
          (subst (λ x. x < 8) sound.number sound.sound.number, h.whole)

      shown : ShowsContext (b.seen n).word n (Some v) (b.context n)
      shown = subst (λ (o : Option ContextSeen). ShowsContext (b.seen n).word n o (b.context n)) h.rests (sh.shows.contexts n)

      maps_are : (u : ContextSeen) → value_taken Heard Aim v ≡ u → Final u ≡ MapsWith script w c (Take n s)
      maps_are u q = sym (maps_take ∙ ap (λ t. Maps t (M.slot n)) won ∙ maps_won ∙ ap Final q)

      -- as it lay there
      as_it_is : value_taken Heard Aim v ≡ v → Later script w c b sh within n
      as_it_is q =
          later script w c b sh within n 0 (omega arith) b (none b) refl (Take n s) e quiet
          (subst (λ (m : Memory). Shows script m b) (maps_are v q) first)

      -- a switch begins
      switched : (z : CarrierContext) (call : SwitchCall) → v ≡ Carrier z → z.switch ≡ None →
          value_taken Heard Aim v ≡ Carrier (carriers.with_switch call z) → Later script w c b sh within n
      switched z call is idle q =
          later script w c b sh within n 1 (omega arith) After (more b After After (begins_switch call at_rest) (none After)) refl
          (Take n s) e quiet (subst (λ (m : Memory). Shows script m After)
          (ap (λ (x : ℕ → Option HandSeen). record (Final v) { hand = x }) (upd_twice M.hand c (Some (Has v)) (Some (Has U)))
          ∙ maps_are U q) next)
        where
          U : ContextSeen
          U = Carrier (carriers.with_switch call z)

          X2 : Context
          X2 = record (b.context n) { at = InSwitch call switch.AcquireReady }

          After : Board
          After = placed b n X2

          at_rest : (b.context n).at ≡ Resting
          at_rest =
              subst (λ (y : ContextSeen). ShowsContext (b.seen n).word n (Some y) (b.context n)) is shown ∙ ap switch_at idle

          next : Shows script (with_hand (Final v) c (Some (Has U))) After
          next =
              held_shown script (Final v) b c n (Has v) U X2 first (upd_same M.hand c (Some (Has v))) refl
              (ap (λ (y : ContextSeen). version_of (owner_of y)) (sym is)) refl refl

      -- a thread wakes
      wakes_up : (t : ThreadSeen) → v ≡ Thread t → t.activity ≡ activity.Alone location.Asleep →
          value_taken Heard Aim v ≡ Thread (record t { activity = activity.Alone location.LookAgain }) →
          Later script w c b sh within n
      wakes_up t is asleep q =
          later script w c b sh within n 1 (omega arith) After (more b After After (wakes at_asleep) (none After)) refl (Take n s) e quiet
          (subst (λ (m : Memory). Shows script m After) (ap (λ (x : ℕ → Option HandSeen). record (Final v) { hand = x })
          (upd_twice M.hand c (Some (Has v)) (Some (Has U))) ∙ maps_are U q) next)
        where
          U : ContextSeen
          U = Thread (record t { activity = activity.Alone location.LookAgain })

          X2 : Context
          X2 = record (b.context n) { at = Alone location.LookAgain }

          After : Board
          After = placed b n X2

          thread : IsShown (b.seen n).word n t (b.context n)
          thread = subst (λ (y : ContextSeen). ShowsContext (b.seen n).word n (Some y) (b.context n)) is shown

          made : (x : Bool) → ((b.seen n).word.version == t.id.version) ≡ x → x ≡ true
          made true y = refl
          made false y =
              let no : activity.Alone (location.Between None) ≡ activity.Alone location.Asleep =
              sym (thread.coming (ap (λ (z : Context). z.at) thread.context ∙ rw y refl)).doing ∙ asleep in absurd cc

          ver : ((b.seen n).word.version == t.id.version) ≡ true
          ver = made ((b.seen n).word.version == t.id.version) refl

          at_asleep : (b.context n).at ≡ Alone location.Asleep
          at_asleep = ap (λ (z : Context). z.at) thread.context ∙ rw ver (ap at_in asleep)

          woken_shown : IsShown (b.seen n).word n (record t { activity = activity.Alone location.LookAgain }) X2
          woken_shown = record {
            number = thread.number;
            coming = λ y. absurd cc;
            context =
                λ d. record {
                  serial = ap (λ (z : Context). z.serial) thread.context d;
                  own = (ap (λ (z : Context). z.own) thread.context ∙ ap (section_own t.own) asleep) d;
                  position = ap (λ (z : Context). z.position) thread.context d;
                  at = stands d;
                };
          }
            where
              stands : Alone location.LookAgain ≡ thread_at (b.seen n).word
                  (record t { activity = activity.Alone location.LookAgain })
              stands = sym (rw ver refl)

          next : Shows script (with_hand (Final v) c (Some (Has U))) After
          next =
              held_shown script (Final v) b c n (Has v) U X2 first (upd_same M.hand c (Some (Has v))) refl
              (ap (λ (y : ContextSeen). version_of (owner_of y)) (sym is)) woken_shown refl

      asleep_is : (a : Activity) → about.is_asleep a ≡ true → a ≡ activity.Alone location.Asleep
      asleep_is (activity.Alone location.Asleep) q = refl
      asleep_is (activity.Alone (location.Between last)) q = absurd cc
      asleep_is (activity.Alone location.FallAsleep) q = absurd cc
      asleep_is (activity.Alone location.LookAgain) q = absurd cc
      asleep_is (activity.Alone (location.LoadMail from)) q = absurd cc
      asleep_is (activity.Alone (location.Work count)) q = absurd cc
      asleep_is (activity.Alone location.CommitEnd) q = absurd cc
      asleep_is (activity.Alone location.Ended) q = absurd cc
      asleep_is (activity.Alone location.Dead) q = absurd cc
      asleep_is (activity.Send x) q = absurd cc
      asleep_is (activity.Receive x) q = absurd cc
      asleep_is (activity.Create x) q = absurd cc
      asleep_is (activity.Destroy x) q = absurd cc

      taking : (a : Target) → Aim ≡ a → (u : ContextSeen) → v ≡ u → Later script w c b sh within n
      taking (Helped x) q u is = as_it_is (ap (λ y. value_taken Heard y v) q)
      taking Own q (Thread t) is = as_it_is ((λ d. value_taken Heard (q d) (is d)) ∙ sym is)
      taking Own q (Carrier z) is = by z.switch refl
        where
          by : (o : Option Switch) → z.switch ≡ o → Later script w c b sh within n
          by None on = switched z (switch_call Heard) is on ((λ d. value_taken Heard (q d) (is d)) ∙ rw on refl)
          by (Some x) on = as_it_is ((λ d. value_taken Heard (q d) (is d)) ∙ rw on refl ∙ sym is)
      taking (GoalOf g) q (Carrier z) is = as_it_is ((λ d. value_taken Heard (q d) (is d)) ∙ sym is)
      taking (GoalOf g) q (Thread t) is = elim (cases_Bool (about.is_asleep t.activity)) [
        | inl y ↦ wakes_up t is (asleep_is t.activity y) ((λ d. value_taken Heard (q d) (is d)) ∙ rw y refl)
        | inr y ↦ as_it_is ((λ d. value_taken Heard (q d) (is d)) ∙ rw y refl ∙ sym is)
      ]

    won_shown : Later script w c b sh within n
    won_shown = taking there.0 there.1 Aim refl there.0 refl

  pub take_shown : Later script w c b sh within n
  take_shown = elim (cases_Bool (M.context n == s)) [ inl q ↦ won_shown q | inr q ↦ lost q ]
