-- The step of a thread's context in the raw world comes to a turn of the board, whatever the thread is about.
use Rattle.std.proofs.Common.{◌≡◌, ℕ, ◌==◌, Bool, true, false, refl, sym, ap, ◌∙◌, subst, Option, Some, arith}
use Rattle.std.specs.Prelude.{not}
use Rattle.std.proofs.lemmas.Bool.{and_parts, eqb-true}
use Rattle.k_ids.specs.declared.state_word.StateWord.{StateWord}
use Rattle.k_ids.specs.declared.threads.ThreadId.{ThreadId}
use Rattle.k_ids.specs.ContextWords.{IsVersion}
use Rattle.k_ids.specs.StateWords.{IsPartner}
use Rattle.k_locks.specs.Asks.{Ask}
use Rattle.k_locks.specs.Asks as asks
use Rattle.k_locks.specs.Shown.{is_dead}
use Rattle.k_script.specs.Script.{Script}
use Rattle.k_ipc.specs.declared.send.SendSection.{SendSection}
use Rattle.k_ipc.specs.declared.receive.ReceiveSection.{ReceiveSection}
use Rattle.k_ipc.specs.SendTable as send
use Rattle.k_ipc.specs.ReceiveTable as receive
use Rattle.k_threads.specs.declared.create.CreateSection.{CreateSection}
use Rattle.k_threads.specs.declared.create.CreateLocation.{CreateLocation}
use Rattle.k_threads.specs.declared.create.CreateLocation.TheVariants as create_location
use Rattle.k_threads.specs.declared.create.CreateLocked.TheVariants as create_locked
use Rattle.k_threads.specs.CreateTable as create
use Rattle.k_threads.specs.declared.destroy.DestroySection.{DestroySection}
use Rattle.k_threads.specs.declared.destroy.DestroyLocation.{DestroyLocation}
use Rattle.k_threads.specs.declared.destroy.DestroyLocation.TheVariants as destroy_location
use Rattle.k_threads.specs.declared.destroy.DestroyLocked.TheVariants as destroy_locked
use Rattle.k_threads.specs.declared.destroy.DestroyVictim.TheVariants as victim
use Rattle.k_threads.specs.DestroyTable as destroy
use Rattle.k_caller.specs.declared.activity.Activity.{Activity}
use Rattle.k_caller.specs.declared.activity.Activity.TheVariants as activity
use Rattle.k_caller.specs.declared.thread.ThreadLocation.{ThreadLocation}
use Rattle.k_caller.specs.Activities as about
use Rattle.k_caller.specs.Activities.{section_own}
use Rattle.k_caller.specs.Threads.{ThreadSeen}
use Rattle.k_context.specs.Contexts.{ContextSeen, Thread}
use Rattle.k_carrier.specs.Seen.{HandSeen}
use Rattle.k_board.specs.Boards.{At, Board, Coming, Context, InCreate, InDestroy, InReceive, id_at}
use Rattle.k_board.specs.Facts.{AllSay}
use Rattle.k_board.specs.Places.{facts_of}
use Rattle.k_good.specs.Locks.{LocksHold, locks_at}
use Rattle.k_places.specs.Contexts.{IsShown, ShowsContext, at_in, hand_in, held_on, programs_of, thread_at}
use Rattle.k_places.specs.Memory.{Memory}
use Rattle.k_places.specs.Asks.{IsAskFit}
use Rattle.k_turns.specs.Spelled.{IsSpelled, ask_in}
use Rattle.k_turns.specs.Needs.{Needs}
use Rattle.k_turns.specs.Sections.{Comes, section_entry, section_maps}
use Rattle.k_places.specs.Shows.{IsLockOf, Shows, context_in}
use Rattle.k_turns.proofs.AloneSteps.{alone_steps, usual as alone_usual}
use Rattle.k_turns.proofs.CreateSteps.{IsPlain as IsPlainCreate, create_steps, usual as create_usual}
use Rattle.k_turns.proofs.DestroySteps.{IsPlain as IsPlainDestroy, destroy_steps, usual as destroy_usual}
use Rattle.k_turns.proofs.Destroys.{KillsIt}
use Rattle.k_turns.proofs.Makes.{create_commits}
use Rattle.k_turns.proofs.Placements.{create_places}
use Rattle.k_places.proofs.Places.{held_is, version_held}
use Rattle.k_turns.proofs.ReceiveSteps.{receive_steps, usual as receive_usual}
use Rattle.k_turns.proofs.Removals.{destroy_removes}
use Rattle.k_places.proofs.Rested.{clean_free, nowhere_empty}
use Rattle.k_turns.proofs.SendSteps.{send_steps, usual as send_usual}
use Rattle.k_places.proofs.Steps.{IsUsual}

-- WHAT SOME STEPS NEED OF THE BOARD

-- the facts of the location give it
pub needs_met : (script : Script) (b : Board) (i : ℕ) (x : Context) (p : At) → AllSay (programs_of script) b i x (facts_of p) →
    Needs script b p
needs_met script b i x (InCreate c (create.Locked (create_locked.PlaceContext id))) h = (h.1.1.1.1.1.1.0.1, h.1.1.1.1.1.1.1.0.1)
needs_met script b i x (InCreate c (create.Locked (create_locked.CommitCreate id))) h = (h.1.1.1.1.1.1.0.1, h.1.1.1.1.1.1.1.0.1)
needs_met script b i x (InDestroy c (destroy.Victim (victim.CommitKill w))) h =
    sym (eqb-true w.version c.who.version (and_parts (w.version == c.who.version) (not (is_dead w)) h.1.1.1.1.1.1.1.0).0)
needs_met script b i x p h = tt

-- a step that is on no context finds what it may find
pub usual_fit : (m : Memory) (b : Board) {size : ℕ} (a : Ask) → b.size ≡ size → IsUsual a → IsSpelled size a → IsAskFit m b a
usual_fit m b (asks.Load n) e u s = tt
usual_fit m b (asks.LoadMail n) e u s = tt
usual_fit m b (asks.Post n message) e u s = s
usual_fit m b (asks.Exchange n old new) e u s = s
usual_fit m b (asks.Acquire l) e u s = subst (λ n. IsLockOf n l) (sym e) s
usual_fit m b (asks.Release l) e u s = subst (λ n. IsLockOf n l) (sym e) s
usual_fit m b (asks.Place id program priority) e u s = absurd u
usual_fit m b (asks.Remove id) e u s = absurd u

-- whether a thread's context stands where it does, its thread made
pub made_test : (w : StateWord) (t : ThreadSeen) (q : Bool) → (w.version == t.id.version) ≡ q → (thread_at w t ≡ Coming → ⊥) →
    q ≡ true
made_test w t true e h = refl
made_test w t false e h = absurd (h (rw e refl))

module _ (script : Script) (m : Memory) (b : Board) (c i : ℕ) (k : HandSeen) (t : ThreadSeen) (sh : Shows script m b)
    (locks : LocksHold b.owner b.table b.ready b.context) (was : m.hand c ≡ Some k) (mine : k.context ≡ i)
    (is : k.value ≡ Thread t) (made : (b.context i).at ≡ Coming → ⊥) (needs : Needs script b (b.context i).at)
    (can : about.can_ask t.activity ≡ true) (spelled : IsSpelled script.table (ask_in t.id t.own t.activity)) where
  abbrev X : Context
  X = b.context i

  abbrev Result : ℕ → ThreadSeen → Type 0
  Result n s = Comes script (programs_of script) n 1 b (section_maps script m c n (Thread s)) (section_entry m n (Thread s))

  found : context_in m.context m.slot m.hand i ≡ Some (Thread t)
  found = ap (context_in m.context m.slot m.hand) (sym mine) ∙ held_is m.context m.slot m.hand c k sh.places was ∙ ap Some is

  shown : IsShown (b.seen i).word i t X
  shown = subst (λ (o : Option ContextSeen). ShowsContext (b.seen i).word i o X) found (sh.contexts i)

  ver : ((b.seen i).word.version == t.id.version) ≡ true
  ver =
      made_test (b.seen i).word t ((b.seen i).word.version == t.id.version) refl
      (λ q. made (ap (λ (z : Context). z.at) shown.context ∙ q))

  at : X.at ≡ at_in t.activity
  at = ap (λ (z : Context). z.at) shown.context ∙ rw ver refl

  own_is : X.own ≡ section_own t.own t.activity
  own_is = ap (λ (z : Context). z.own) shown.context

  hand : hand_in t.activity ≡ held_on b (locks_at X.at)
  hand = sh.goods.hands i (Thread t) found

  held : version_held k ≡ t.id.version
  held = ap (λ (v : ContextSeen). version_held (record { context = i; value = v })) is

  serial_is : X.serial ≡ t.serial
  serial_is = ap (λ (z : Context). z.serial) shown.context

  position_is : X.position ≡ t.position
  position_is = ap (λ (z : Context). z.position) shown.context

  -- OUTSIDE OF ANY SECTION

  alone_comes : (p : ThreadLocation) → t.activity ≡ activity.Alone p → Result i t
  alone_comes p e =
      subst (Result i) same (alone_steps script m b c i p t.done k sh locks was mine fit (at ∙ ap at_in e)
      (sym (ap about.can_ask e) ∙ can) (held ∙ sym (eqb-true (b.seen i).word.version t.id.version ver)))
    where
      id_is : id_at b i ≡ t.id
      id_is = λ d. record { number = sym shown.number d; version = eqb-true (b.seen i).word.version t.id.version ver d }

      own_alone : X.own ≡ t.own
      own_alone = own_is ∙ ap (section_own t.own) e

      same : record {
        id = id_at b i;
        position = X.position;
        own = X.own;
        serial = X.serial;
        done = t.done;
        activity = activity.Alone p;
      } ≡ t
      same =
          λ d. record {
            id = id_is d;
            position = position_is d;
            own = own_alone d;
            serial = serial_is d;
            done = t.done;
            activity = sym e d;
          }

      fit : IsAskFit m b (ask_in (id_at b i) X.own (activity.Alone p))
      fit =
          usual_fit m b _ sh.size (alone_usual (id_at b i) X.own p)
          (subst (λ (z : Activity). IsSpelled script.table (ask_in (id_at b i) X.own z)) e
          (subst (λ (z : StateWord). IsSpelled script.table (ask_in (id_at b i) z t.activity)) (sym own_alone)
          (subst (λ (z : ThreadId). IsSpelled script.table (ask_in z t.own t.activity)) (sym id_is) spelled)))

  -- IN A SECTION

  send_comes : (s : SendSection) → t.activity ≡ activity.Send s → s.call.caller ≡ t.id → Result i t
  send_comes s e caller =
      subst (Result i) same (send_steps script m b c i s.call s.location s.done t.done t.own k sh locks was mine fit
      (at ∙ ap at_in e) (sym (ap about.can_ask e) ∙ can) (sym (ap hand_in e) ∙ hand)
      (held ∙ ap (λ (z : ThreadId). z.version) (sym caller)) (ap (λ (z : ThreadId). z.number) caller ∙ shown.number)
      (ap (λ (z : ThreadId). (b.seen i).word.version == z.version) caller ∙ ver))
    where
      word : X.own ≡ s.own
      word = own_is ∙ ap (section_own t.own) e

      same : record {
        id = s.call.caller;
        position = X.position;
        own = t.own;
        serial = X.serial;
        done = t.done;
        activity = activity.Send (record { call = s.call; own = X.own; location = s.location; done = s.done });
      } ≡ t
      same =
          λ d. record {
            id = caller d;
            position = position_is d;
            own = t.own;
            serial = serial_is d;
            done = t.done;
            activity = (ap (λ (o : StateWord). activity.Send (record s { own = o })) word ∙ sym e) d;
          }

      fit : IsAskFit m b (send.ask_of s.call X.own (send.at_of s.location))
      fit =
          usual_fit m b _ sh.size (send_usual s.call X.own (send.at_of s.location))
          (subst (λ (z : StateWord). IsSpelled script.table (send.ask_of s.call z (send.at_of s.location))) (sym word)
          (subst (λ (z : Activity). IsSpelled script.table (ask_in t.id t.own z)) e spelled))

  receive_comes : (s : ReceiveSection) → t.activity ≡ activity.Receive s → s.call.caller ≡ t.id → Result i t
  receive_comes s e caller =
      by num (subst (Result s.call.caller.number) same
      (receive_steps script m b c s.call s.location s.done t.done t.own k sh locks was (mine ∙ sym num) fit (here at')
      (sym (ap about.can_ask e) ∙ can) (sym (ap hand_in e) ∙ hand ∙ ap (λ z. held_on b (locks_at (b.context z).at)) (sym num))
      (held ∙ ap (λ (z : ThreadId). z.version) (sym caller)) ver'))
    where
      num : s.call.caller.number ≡ i
      num = ap (λ (z : ThreadId). z.number) caller ∙ shown.number

      by : {n : ℕ} → n ≡ i → Result n t → Result i t
      by q = subst (λ (z : ℕ). Result z t) q

      at' : X.at ≡ InReceive s.call (receive.at_of s.location)
      at' = at ∙ ap at_in e

      here : X.at ≡ InReceive s.call (receive.at_of s.location) →
          (b.context s.call.caller.number).at ≡ InReceive s.call (receive.at_of s.location)
      here q = ap (λ z. (b.context z).at) num ∙ q

      ver' : ((b.seen s.call.caller.number).word.version == s.call.caller.version) ≡ true
      ver' = (λ d. (b.seen (num d)).word.version == (caller d).version) ∙ ver

      word : (b.context s.call.caller.number).own ≡ s.own
      word = ap (λ z. (b.context z).own) num ∙ own_is ∙ ap (section_own t.own) e

      same : record {
        id = s.call.caller;
        position = (b.context s.call.caller.number).position;
        own = t.own;
        serial = (b.context s.call.caller.number).serial;
        done = t.done;
        activity = activity.Receive (record {
          call = s.call;
          own = (b.context s.call.caller.number).own;
          location = s.location;
          done = s.done;
        });
      } ≡ t
      same =
          λ d. record {
            id = caller d;
            position = (ap (λ z. (b.context z).position) num ∙ position_is) d;
            own = t.own;
            serial = (ap (λ z. (b.context z).serial) num ∙ serial_is) d;
            done = t.done;
            activity = (ap (λ (o : StateWord). activity.Receive (record s { own = o })) word ∙ sym e) d;
          }

      fit : IsAskFit m b (receive.ask_of s.call (b.context s.call.caller.number).own (receive.at_of s.location))
      fit =
          usual_fit m b _ sh.size (receive_usual s.call _ (receive.at_of s.location))
          (subst (λ (z : StateWord). IsSpelled script.table (receive.ask_of s.call z (receive.at_of s.location))) (sym word)
          (subst (λ (z : Activity). IsSpelled script.table (ask_in t.id t.own z)) e spelled))

  -- A CREATE

  module _ (s : CreateSection) (e : t.activity ≡ activity.Create s) (caller : s.call.caller ≡ t.id) where
    create_word : X.own ≡ s.own
    create_word = own_is ∙ ap (section_own t.own) e

    create_held : version_held k ≡ s.call.caller.version
    create_held = held ∙ ap (λ (z : ThreadId). z.version) (sym caller)

    create_number : s.call.caller.number ≡ i
    create_number = ap (λ (z : ThreadId). z.number) caller ∙ shown.number

    create_version : ((b.seen i).word.version == s.call.caller.version) ≡ true
    create_version = ap (λ (z : ThreadId). (b.seen i).word.version == z.version) caller ∙ ver

    create_at : (l : CreateLocation) → s.location ≡ l → X.at ≡ InCreate s.call (create.at_of l)
    create_at l el = at ∙ ap at_in e ∙ ap (λ z. InCreate s.call (create.at_of z)) el

    create_hand : (l : CreateLocation) → s.location ≡ l → create.hand_of l ≡ held_on b (locks_at X.at)
    create_hand l el = ap create.hand_of (sym el) ∙ sym (ap hand_in e) ∙ hand

    create_same : (l : CreateLocation) → s.location ≡ l →
        record {
          id = s.call.caller;
          position = X.position;
          own = t.own;
          serial = X.serial;
          done = t.done;
          activity = activity.Create (record { call = s.call; own = X.own; location = l; done = s.done });
        } ≡ t
    create_same l el =
        λ d. record {
          id = caller d;
          position = position_is d;
          own = t.own;
          serial = serial_is d;
          done = t.done;
          activity = ((λ x. activity.Create (record s { own = create_word x; location = sym el x })) ∙ sym e) d;
        }

    create_spelled : (l : CreateLocation) → s.location ≡ l → IsSpelled script.table (create.ask_of s.call X.own (create.at_of l))
    create_spelled l el =
        subst (λ z. IsSpelled script.table (create.ask_of s.call X.own (create.at_of z))) el
        (subst (λ (z : StateWord). IsSpelled script.table (create.ask_of s.call z (create.at_of s.location))) (sym create_word)
        (subst (λ (z : Activity). IsSpelled script.table (ask_in t.id t.own z)) e spelled))

    create_can : create.can_ask s.location ≡ true
    create_can = sym (ap about.can_ask e) ∙ can

    create_plain : IsPlainCreate (create.at_of s.location) → Result i t
    create_plain pl =
        subst (Result i) (create_same s.location refl)
        (create_steps script m b c i s.call s.location s.done t.done t.own k sh locks was mine pl
        (usual_fit m b _ sh.size (create_usual s.call X.own (create.at_of s.location) pl) (create_spelled s.location refl))
        (create_at s.location refl) create_can (create_hand s.location refl) create_held create_number create_version)

    create_located : create.IsSound s → (l : CreateLocation) → s.location ≡ l → Result i t
    create_located sound (create_location.Locked (create_locked.CommitCreate id) numbers) el =
        let l = create_location.Locked (create_locked.CommitCreate id) numbers in
        let need = subst (Needs script b) (create_at l el) needs in
        let next = subst create.IsSoundLocation el sound.located in
        subst (Result i) (create_same l el)
        (create_commits script m b c i s.call id numbers s.done t.done t.own k sh locks was mine (create_spelled l el)
        (create_at l el) (create_hand l el) create_held create_number create_version need.0 need.1 (omega (arith, next.next)))
    create_located sound (create_location.Locked (create_locked.PlaceContext id) numbers) el =
        let l = create_location.Locked (create_locked.PlaceContext id) numbers in
        let need = subst (Needs script b) (create_at l el) needs in
        let next = subst create.IsSoundLocation el sound.located in
        subst (Result i) (create_same l el)
        (create_places script m b c i s.call id numbers s.done t.done t.own k sh locks was mine
        (nowhere_empty script m b sh id.number need.1) (create_at l el)
        (create_hand l el) create_held create_number create_version need.0
        (record { born = omega (arith, next.next); small = next.version }))
    create_located sound l el = create_plain (subst (λ z. IsPlainCreate (create.at_of z)) (sym el) tt)

    create_comes : create.IsSound s → Result i t
    create_comes sound = create_located sound s.location refl

  -- A DESTROY

  module _ (s : DestroySection) (e : t.activity ≡ activity.Destroy s) (caller : s.call.caller ≡ t.id) where
    destroy_word : X.own ≡ s.own
    destroy_word = own_is ∙ ap (section_own t.own) e

    destroy_held : version_held k ≡ s.call.caller.version
    destroy_held = held ∙ ap (λ (z : ThreadId). z.version) (sym caller)

    destroy_number : s.call.caller.number ≡ i
    destroy_number = ap (λ (z : ThreadId). z.number) caller ∙ shown.number

    destroy_version : ((b.seen i).word.version == s.call.caller.version) ≡ true
    destroy_version = ap (λ (z : ThreadId). (b.seen i).word.version == z.version) caller ∙ ver

    destroy_at : (l : DestroyLocation) → s.location ≡ l → X.at ≡ InDestroy s.call (destroy.at_of l)
    destroy_at l el = at ∙ ap at_in e ∙ ap (λ z. InDestroy s.call (destroy.at_of z)) el

    destroy_hand : (l : DestroyLocation) → s.location ≡ l → destroy.hand_of l ≡ held_on b (locks_at X.at)
    destroy_hand l el = ap destroy.hand_of (sym el) ∙ sym (ap hand_in e) ∙ hand

    destroy_same : (l : DestroyLocation) → s.location ≡ l →
        record {
          id = s.call.caller;
          position = X.position;
          own = t.own;
          serial = X.serial;
          done = t.done;
          activity = activity.Destroy (record { call = s.call; own = X.own; location = l; done = s.done });
        } ≡ t
    destroy_same l el =
        λ d. record {
          id = caller d;
          position = position_is d;
          own = t.own;
          serial = serial_is d;
          done = t.done;
          activity = ((λ x. activity.Destroy (record s { own = destroy_word x; location = sym el x })) ∙ sym e) d;
        }

    destroy_spelled : (l : DestroyLocation) → s.location ≡ l →
        IsSpelled script.table (destroy.ask_of s.call X.own (destroy.at_of l))
    destroy_spelled l el =
        subst (λ z. IsSpelled script.table (destroy.ask_of s.call X.own (destroy.at_of z))) el
        (subst (λ (z : StateWord). IsSpelled script.table (destroy.ask_of s.call z (destroy.at_of s.location))) (sym destroy_word)
        (subst (λ (z : Activity). IsSpelled script.table (ask_in t.id t.own z)) e spelled))

    destroy_can : destroy.can_ask s.location ≡ true
    destroy_can = sym (ap about.can_ask e) ∙ can

    victim_version : destroy.IsSound s → IsVersion s.call.who.version
    victim_version sound = let who : IsPartner s.call.who = sound.call.victim in record { born = who.born; small = who.version }

    destroy_plain : IsPlainDestroy (destroy.at_of s.location) → KillsIt s.call (destroy.at_of s.location) → Result i t
    destroy_plain pl kills =
        subst (Result i) (destroy_same s.location refl)
        (destroy_steps script m b c i s.call s.location s.done t.done t.own k sh locks was mine pl kills
        (usual_fit m b _ sh.size (destroy_usual s.call X.own (destroy.at_of s.location) pl) (destroy_spelled s.location refl))
        (destroy_at s.location refl) destroy_can (destroy_hand s.location refl) destroy_held destroy_number destroy_version)

    -- a kill is of the victim
    kills_it : (p : destroy.DestroyAt) → Needs script b (InDestroy s.call p) → KillsIt s.call p
    kills_it (destroy.Victim (victim.CommitKill w)) h = h
    kills_it p h = tt

    destroy_located : destroy.IsSound s → (l : DestroyLocation) → s.location ≡ l → Result i t
    destroy_located sound (destroy_location.Locked destroy_locked.RemoveContext numbers) el =
        let l = destroy_location.Locked destroy_locked.RemoveContext numbers in
        subst (Result i) (destroy_same l el)
        (destroy_removes script m b c i s.call numbers s.done t.done t.own k sh locks was mine
        (clean_free script m b sh s.call.who.number locks s.call.who.version (victim_version sound)) (destroy_at l el)
        (destroy_hand l el) destroy_held destroy_number destroy_version (victim_version sound))
    destroy_located sound (destroy_location.Returned r) el =
        let no : false ≡ true = sym (ap destroy.can_ask el) ∙ destroy_can in absurd cc
    destroy_located sound l el =
        destroy_plain (subst (λ z. IsPlainDestroy (destroy.at_of z)) (sym el) tt)
        (kills_it (destroy.at_of s.location) (subst (Needs script b) (destroy_at s.location refl) needs))

    destroy_comes : destroy.IsSound s → Result i t
    destroy_comes sound = destroy_located sound s.location refl

  pub thread_comes : about.IsSoundAt t.id t.own t.activity → Result i t
  thread_comes sound = by t.activity refl sound
    where
      by : (a : Activity) → t.activity ≡ a → about.IsSoundAt t.id t.own a → Result i t
      by (activity.Alone p) e h = alone_comes p e
      by (activity.Send s) e h = send_comes s e h.caller
      by (activity.Receive s) e h = receive_comes s e h.caller
      by (activity.Create s) e h = create_comes s e h.caller h.sound
      by (activity.Destroy s) e h = destroy_comes s e h.caller h.sound
