-- A turn of a thread's context asks for the same step again exactly where the step in the raw world does.
use Rattle.std.proofs.Common.{◌≡◌, ℕ, ◌==◌, Bool, true, false, nat_lt, refl, sym, ap, ◌∙◌, subst, Some, None, ◌⊎◌, inl, inr}
use Rattle.std.specs.Prelude.{if◌then◌else◌}
use Rattle.std.proofs.lemmas.Bool.{eqb-true}
use Rattle.k_ids.specs.declared.context_word.ContextWord.{ContextWord}
use Rattle.k_ids.specs.declared.context_word.ContextWord.TheVariants as context_word
use Rattle.k_ids.specs.declared.state_word.StateWord.{StateWord}
use Rattle.k_ids.specs.declared.threads.ThreadId.{ThreadId}
use Rattle.k_ids.specs.ContextWords.{context_bits, context_word_of}
use Rattle.k_ids.specs.StateWords.{state_bits}
use Rattle.k_locks.specs.Asks.{Ask, Response, response_of, step_for, told_of}
use Rattle.k_locks.specs.Asks as asks
use Rattle.k_locks.specs.Hands.{Hand, nothing}
use Rattle.k_locks.specs.Steps.{not_removed}
use Rattle.k_locks.specs.Steps as steps
use Rattle.k_locks.specs.declared.locks.Lock.{Lock}
use Rattle.k_locks.specs.declared.steps.Answer.{Answer}
use Rattle.k_locks.specs.declared.steps.Answer.TheVariants as answer
use Rattle.k_locks.specs.declared.steps.Told.TheVariants as told
use Rattle.k_locks.proofs.Responses.{again_heard}
use Rattle.k_model.proofs.Maps.{upd_same}
use Rattle.k_script.specs.Script.{Script}
use Rattle.k_ipc.specs.ReceiveTable as receive
use Rattle.k_ipc.specs.SendTable as send
use Rattle.k_threads.specs.declared.create.CreateCall.{CreateCall}
use Rattle.k_threads.specs.declared.create.CreateLocked.TheVariants as create_locked
use Rattle.k_threads.specs.declared.create.CreateOutside.TheVariants as create_outside
use Rattle.k_threads.specs.declared.destroy.DestroyCall.{DestroyCall}
use Rattle.k_threads.specs.declared.destroy.DestroyLocation.{DestroyLocation}
use Rattle.k_threads.specs.declared.destroy.DestroyLocation.TheVariants as destroy_location
use Rattle.k_threads.specs.declared.destroy.DestroyLocked.TheVariants as destroy_locked
use Rattle.k_threads.specs.declared.destroy.DestroyRelease.TheVariants as destroy_release
use Rattle.k_threads.specs.declared.destroy.DestroySection.{DestroySection}
use Rattle.k_threads.specs.CreateTable.{CreateAt}
use Rattle.k_threads.specs.CreateTable as create
use Rattle.k_threads.specs.DestroyTable.{DestroyAt}
use Rattle.k_threads.specs.DestroyTable as destroy
use Rattle.k_caller.specs.declared.activity.Activity.{Activity}
use Rattle.k_caller.specs.declared.activity.Activity.TheVariants as activity
use Rattle.k_caller.specs.declared.thread.ThreadLocation.{ThreadLocation}
use Rattle.k_caller.specs.declared.thread.ThreadLocation.TheVariants as location
use Rattle.k_caller.specs.Activities.{section_own, step_at}
use Rattle.k_caller.specs.Activities as activities
use Rattle.k_caller.specs.Threads.{ThreadSeen, asked, resumed, step_of}
use Rattle.k_caller.specs.Waits as alone
use Rattle.k_board.specs.Words.{Programs}
use Rattle.k_board.specs.Boards.{Alone, At, Board, Coming, Context, InCreate, InDestroy, InReceive, InSend, InSwitch, hand_of, id_at}
use Rattle.k_board.specs.Steps.{Answers, destroy_at, destroy_context, destroy_contexts, destroy_number}
use Rattle.k_board.specs.Turns.{Turn, sends, receives, creates, destroys, goes_alone, begins}
use Rattle.k_board.specs.Turns.{turns_to_work, wakes, switches, begins_switch, ends_switch}
use Rattle.k_good.specs.Ranges.{is_threads}
use Rattle.k_grants.specs.Granted.{is_again}
use Rattle.k_places.specs.Answers.{answer_in, goods_found}
use Rattle.k_places.specs.Contexts.{IsShown, at_in}
use Rattle.k_places.specs.Memory.{Memory}
use Rattle.k_places.specs.Shows.{IsLockOf, Shows}
use Rattle.k_places.proofs.Heard.{MayWait, again_asks}
use Rattle.k_places.proofs.Steps.{IsUsual}
use Rattle.k_places.proofs.Words.{step_finds}
use Rattle.k_turns.specs.Spelled.{IsSpelled, ask_in}
use Rattle.k_turns.proofs.AloneSteps.{usual as alone_usual}
use Rattle.k_turns.proofs.DestroySteps.{IsPlain, usual as destroy_usual}
use Rattle.k_turns.proofs.ReceiveSteps.{usual as receive_usual}
use Rattle.k_turns.proofs.SendSteps.{usual as send_usual}
use Rattle.k_running.proofs.Shown.{IsFoundAt, is_shown, is_thread, stands, version_shown}

-- WHETHER A REMOVAL IS TO BE MADE THERE

abbrev pub is_removing : At → Bool
is_removing (InDestroy c (destroy.Locked destroy_locked.RemoveContext)) = true
is_removing p = false

-- a visit is none
visits : (c : DestroyCall) (n : ℕ) → is_removing (InDestroy c (destroy.Locked (destroy.visit_number c n))) ≡ false
visits c n = by (nat_lt n c.count)
  where
    by : (q : Bool) → is_removing (InDestroy c (destroy.Locked
        (if q then destroy_locked.AcquireVisitedLock n else destroy_locked.Release destroy_release.Killed))) ≡ false
    by true = refl
    by false = refl

pub no_remove : (a : Ask) → IsUsual a → (id : ThreadId) → a ≡ asks.Remove id → ⊥
no_remove a u id e = subst IsUsual e u

pub create_removes : (c : CreateCall) (own : StateWord) (p : CreateAt) (id : ThreadId) → create.ask_of c own p ≡ asks.Remove id → ⊥
create_removes c own (create.Outside create_outside.AcquireTable) id e = absurd cc
create_removes c own (create.Outside (create_outside.Ended w)) id e = absurd cc
create_removes c own (create.Locked create_locked.LoadCaller) id e = absurd cc
create_removes c own (create.Locked (create_locked.PlaceContext who)) id e = absurd cc
create_removes c own (create.Locked (create_locked.CommitCreate who)) id e = absurd cc
create_removes c own (create.Locked (create_locked.AcquireReady who)) id e = absurd cc
create_removes c own (create.Locked (create_locked.Release r)) id e = absurd cc
create_removes c own (create.PushCreated who) id e = absurd cc

pub plain_or : (p : DestroyAt) → IsPlain p ⊎ (p ≡ destroy.Locked destroy_locked.RemoveContext)
plain_or (destroy.Locked destroy_locked.RemoveContext) = inr refl
plain_or p = inl tt

-- WHAT A STEP FINDS, found again

-- a lock is owned or isn't
acquired_alike : (b : Board) (l : Lock) (r s : Response) → Answers b (asks.Acquire l) r → Answers b (asks.Acquire l) s →
    asks.is_again r ≡ asks.is_again s
acquired_alike b l asks.Got asks.Got x y = refl
acquired_alike b l asks.Got (asks.Owned o) x y = let no : None ≡ Some o = sym x ∙ y in absurd cc
acquired_alike b l (asks.Owned o) asks.Got x y = let no : None ≡ Some o = sym y ∙ x in absurd cc
acquired_alike b l (asks.Owned o) (asks.Owned p) x y = refl
acquired_alike b l asks.Got s x y = absurd y
acquired_alike b l (asks.Owned o) s x y = absurd y
acquired_alike b l r s x y = absurd x

calm : (b : Board) (a : Ask) (r : Response) → (MayWait a → ⊥) → Answers b a r → asks.is_again r ≡ false
calm b a r never an = by (asks.is_again r) refl
  where
    by : (q : Bool) → asks.is_again r ≡ q → q ≡ false
    by false e = refl
    by true e = absurd (never (again_asks b a r an e))

module _ (script : Script) (m : Memory) (b : Board) (sh : Shows script m b) (h : Hand) where
  abbrev X : Ask → Answer
  X a = answer_in m (step_for a h)

  exchanged : (q : Bool) (x : ℕ) → steps.is_again (answer.Told (if q then told.Won else told.Lost x)) ≡ false
  exchanged true x = refl
  exchanged false x = refl

  -- by what is asked for, but for a removal
  answered_alike : (a : Ask) (r : Response) → IsSpelled script.table a → Answers b a r →
      ((id : ThreadId) → a ≡ asks.Remove id → asks.is_again r ≡ steps.is_again (X a)) → asks.is_again r ≡ steps.is_again (X a)
  answered_alike (asks.Acquire l) r s an rem =
      acquired_alike b l r _ an (step_finds m b (asks.Acquire l) h (goods_found m (step_for (asks.Acquire l) h)) sh.seen sh.owners
      (subst (λ k. IsLockOf k l) (sym sh.size) s)) ∙ sym (again_heard (asks.Acquire l) (X (asks.Acquire l)))
  answered_alike (asks.Remove id) r s an rem = rem id refl
  answered_alike (asks.Load n) r s an rem = calm b (asks.Load n) r (λ z. z) an
  answered_alike (asks.LoadMail n) r s an rem = calm b (asks.LoadMail n) r (λ z. z) an
  answered_alike (asks.Post n message) r s an rem = calm b (asks.Post n message) r (λ z. z) an
  answered_alike (asks.Exchange n old new) r s an rem =
      calm b (asks.Exchange n old new) r (λ z. z) an ∙ sym (exchanged (m.state n == state_bits old) (m.state n))
  answered_alike (asks.Release l) r s an rem = calm b (asks.Release l) r (λ z. z) an
  answered_alike (asks.Place id program priority) r s an rem = calm b (asks.Place id program priority) r (λ z. z) an

-- A REMOVAL IN THE RAW WORLD goes on where it is made, and stays where it is else

module _ (m : Memory) (t : ThreadSeen) where
  abbrev Then : ThreadSeen → ThreadSeen
  Then u = resumed (asked u) (answer_in m (step_of u))

  abbrev Stays : ThreadSeen → Type 0
  Stays u = is_removing (at_in (Then u).activity) ≡ steps.is_again (answer_in m (step_of u))

  module _ (s : DestroySection) where
    abbrev With : DestroyLocation → ThreadSeen
    With l = record t { activity = activity.Destroy (record s { location = l }) }

    removal_stays : (l : DestroyLocation) → destroy.can_ask l ≡ true → (id : ThreadId) →
        destroy.ask_of s.call s.own (destroy.at_of l) ≡ asks.Remove id → Stays (With l)
    removal_stays (destroy_location.Locked destroy_locked.RemoveContext numbers) up id e =
        by (m.context s.call.who.number == context_bits (context_word.Clean s.call.who.version))
        (context_word_of (m.context s.call.who.number))
      where
        U : ThreadSeen
        U = With (destroy_location.Locked destroy_locked.RemoveContext numbers)

        by : (q : Bool) (w : ContextWord) → is_removing (at_in (resumed (asked U)
            (answer.Told (if q then told.Removed else not_removed s.call.who.number w))).activity) ≡
            steps.is_again (answer.Told (if q then told.Removed else not_removed s.call.who.number w))
        by true w = visits s.call (destroy.but_victim s.call 0)
        by false context_word.Empty = refl
        by false (context_word.Clean v) = refl
        by false (context_word.Holds v) = refl
        by false (context_word.Taken x v) = refl
    removal_stays (destroy_location.Returned r) up id e = absurd cc
    removal_stays l up id e =
        absurd (no_remove (destroy.ask_of s.call s.own (destroy.at_of l)) (destroy_usual s.call s.own (destroy.at_of l) tt) id e)

  stays_by : (a : Activity) → activities.can_ask a ≡ true → (id : ThreadId) → ask_in t.id t.own a ≡ asks.Remove id →
      Stays (record t { activity = a })
  stays_by (activity.Alone p) up id e = absurd (no_remove (alone.ask_of t.id t.own p) (alone_usual t.id t.own p) id e)
  stays_by (activity.Send s) up id e =
      absurd (no_remove (send.ask_of s.call s.own (send.at_of s.location)) (send_usual s.call s.own (send.at_of s.location)) id e)
  stays_by (activity.Receive s) up id e =
      absurd (no_remove (receive.ask_of s.call s.own (receive.at_of s.location))
      (receive_usual s.call s.own (receive.at_of s.location)) id e)
  stays_by (activity.Create s) up id e = absurd (create_removes s.call s.own (create.at_of s.location) id e)
  stays_by (activity.Destroy s) up id e = removal_stays s s.location up id e

  -- what the step is
  abbrev pub hand_for : Activity → Hand
  hand_for (activity.Alone p) = nothing
  hand_for (activity.Send s) = send.hand_after s.call (send.hand_of s.location) (send.at_of s.location) asks.Released
  hand_for (activity.Receive s) =
      receive.hand_after s.call (receive.hand_of s.location) (receive.at_of s.location) asks.Released
  hand_for (activity.Create s) = create.hand_after s.call (create.hand_of s.location) (create.at_of s.location) asks.Released
  hand_for (activity.Destroy s) =
      destroy.hand_after s.call (destroy.hand_of s.location) (destroy.at_of s.location) asks.Released

  pub step_is : (a : Activity) → step_at t.id t.own a ≡ step_for (ask_in t.id t.own a) (hand_for a)
  step_is (activity.Alone p) = refl
  step_is (activity.Send s) = refl
  step_is (activity.Receive s) = refl
  step_is (activity.Create s) = refl
  step_is (activity.Destroy s) = refl

-- A TURN OF THE BOARD

module _ (script : Script) (m : Memory) (b : Board) (sh : Shows script m b) (n : ℕ) (t : ThreadSeen) (found : IsFoundAt m n t)
    (made : (b.context n).at ≡ Coming → ⊥) (can : activities.can_ask t.activity ≡ true)
    (spelled : IsSpelled script.table (ask_in t.id t.own t.activity)) where
  abbrev C : Context
  C = b.context n

  shown : IsShown (b.seen n).word n t C
  shown = is_shown script m b sh n t found

  here : C.at ≡ at_in t.activity
  here = stands script m b sh n t found made

  -- what is asked for at a location
  abbrev AskAt : At → Ask
  AskAt (Alone p) = alone.ask_of (id_at b n) C.own p
  AskAt (InSend c p) = send.ask_of c C.own p
  AskAt (InReceive c p) = receive.ask_of c C.own p
  AskAt (InCreate c p) = create.ask_of c C.own p
  AskAt (InDestroy c p) = destroy.ask_of c C.own p
  AskAt p = asks.Load n

  asked_same : AskAt C.at ≡ ask_in t.id t.own t.activity
  asked_same = ap AskAt here ∙ by t.activity (ap (λ (z : Context). z.own) shown.context)
    where
      by : (a : Activity) → C.own ≡ section_own t.own a → AskAt (at_in a) ≡ ask_in t.id t.own a
      by (activity.Alone p) e =
          λ d. alone.ask_of (record {
            number = sym shown.number d;
            version = eqb-true (b.seen n).word.version t.id.version (version_shown script m b sh n t found made) d;
          }) (e d) p
      by (activity.Send s) e = ap (λ o. send.ask_of s.call o (send.at_of s.location)) e
      by (activity.Receive s) e = ap (λ o. receive.ask_of s.call o (receive.at_of s.location)) e
      by (activity.Create s) e = ap (λ o. create.ask_of s.call o (create.at_of s.location)) e
      by (activity.Destroy s) e = ap (λ o. destroy.ask_of s.call o (destroy.at_of s.location)) e

  -- it is at none that isn't asked
  alone_can : (p : ThreadLocation) → C.at ≡ Alone p → alone.can_ask p ≡ true
  alone_can p e = by t.activity can (sym here ∙ e)
    where
      by : (a : Activity) → activities.can_ask a ≡ true → at_in a ≡ Alone p → alone.can_ask p ≡ true
      by (activity.Alone q) up z = let y : q ≡ p = cc in sym (ap alone.can_ask y) ∙ up
      by (activity.Send s) up z = absurd cc
      by (activity.Receive s) up z = absurd cc
      by (activity.Create s) up z = absurd cc
      by (activity.Destroy s) up z = absurd cc

  not_between : (p : ThreadLocation) → alone.can_ask p ≡ false → C.at ≡ Alone p → ⊥
  not_between p f e = let no : false ≡ true = sym f ∙ alone_can p e in absurd cc

  not_threads : (p : At) → is_threads p ≡ false → C.at ≡ p → ⊥
  not_threads p f e = let no : false ≡ true = sym f ∙ ap is_threads (sym e) ∙ is_thread script m b sh n t found made in absurd cc

  -- what a turn has heard
  record IsHeard (g : Programs) (b' : Board) (turn : Turn g b n b') : Type 0 where
    response : Response
    answers : Answers b (AskAt C.at) response
    again : is_again g b n b' turn ≡ asks.is_again response
    removes : (id : ThreadId) → AskAt C.at ≡ asks.Remove id → is_removing (b'.context n).at ≡ asks.is_again response

  said : (p : At) (r : Response) → C.at ≡ p → Answers b (AskAt p) r → Answers b (AskAt C.at) r
  said p r e = subst (λ q. Answers b (AskAt q) r) (sym e)

  usual_removes : {A : Type 0} (p : At) → C.at ≡ p → IsUsual (AskAt p) → (id : ThreadId) → AskAt C.at ≡ asks.Remove id → A
  usual_removes p e u id q = absurd (no_remove (AskAt p) u id (sym (ap AskAt e) ∙ q))

  -- a removal that isn't made stays where it is
  destroy_removes : (c : DestroyCall) (p : DestroyAt) (r : Response) (h : Hand) → C.at ≡ InDestroy c p →
      Answers b (destroy.ask_of c C.own p) r → (id : ThreadId) → AskAt C.at ≡ asks.Remove id →
      is_removing (destroy_context C c p r h).at ≡ asks.is_again r
  destroy_removes c p r h e an id q = elim (plain_or p) [
    | inl plain ↦ usual_removes (InDestroy c p) e (destroy_usual c C.own p plain) id q
    | inr at ↦
        subst (λ z. is_removing (destroy_at c (destroy.leads c h z r)) ≡ asks.is_again r) (sym at)
        (by r (subst (λ z. Answers b (destroy.ask_of c C.own z) r) at an))
  ]
    where
      by : (r : Response) → Answers b (asks.Remove c.who) r →
          is_removing (destroy_at c (destroy.leads c h (destroy.Locked destroy_locked.RemoveContext) r)) ≡ asks.is_again r
      by asks.Removed x = visits c (destroy.but_victim c 0)
      by asks.Kept x = refl
      by r x = absurd x

  heard : (g : Programs) (b' : Board) (turn : Turn g b n b') → IsHeard g b' turn
  heard g _ (sends c p r e an) = record {
    response = r;
    answers = said (InSend c p) r e an;
    again = refl;
    removes = usual_removes (InSend c p) e (send_usual c C.own p);
  }
  heard g _ (receives c p r e an) = record {
    response = r;
    answers = said (InReceive c p) r e an;
    again = refl;
    removes = usual_removes (InReceive c p) e (receive_usual c C.own p);
  }
  heard g _ (creates c p r e an) = record {
    response = r;
    answers = said (InCreate c p) r e an;
    again = refl;
    removes = λ id q. absurd (create_removes c C.own p id (sym (ap AskAt e) ∙ q));
  }
  heard g _ (destroys c p r e an) = record {
    response = r;
    answers = said (InDestroy c p) r e an;
    again = refl;
    removes = λ id q. ap (λ (z : Context). is_removing z.at) (upd_same (destroy_contexts c p r b.context) n _)
        ∙ destroy_removes c p r (hand_of b (b.queue (destroy_number c p))) e an id q;
  }
  heard g _ (goes_alone p r e up an) = record {
    response = r;
    answers = said (Alone p) r e an;
    again = refl;
    removes = usual_removes (Alone p) e (alone_usual (id_at b n) C.own p);
  }
  heard g _ (begins l f e z) = absurd (not_between (location.Between l) refl e)
  heard g _ (turns_to_work l count e z) = absurd (not_between (location.Between l) refl e)
  heard g _ (wakes e) = absurd (not_between location.Asleep refl e)
  heard g _ (switches c p r e going an) = absurd (not_threads (InSwitch c p) refl e)
  heard g _ (begins_switch c e) = absurd (not_threads _ refl e)
  heard g _ (ends_switch c s e) = absurd (not_threads _ refl e)

  -- the step in the raw world asks again exactly where the turn does, if the board after the turn has the thread after its step
  pub again_alike : (g : Programs) (b' : Board) (turn : Turn g b n b') →
      is_removing (b'.context n).at ≡ is_removing (at_in (resumed (asked t) (answer_in m (step_of t))).activity) →
      is_again g b n b' turn ≡ steps.is_again (answer_in m (step_of t))
  again_alike g b' turn after =
      h.again ∙ answered_alike script m b sh (hand_for m t t.activity) (ask_in t.id t.own t.activity) h.response spelled
      (subst (λ a. Answers b a h.response) asked_same h.answers) removes
      ∙ ap (λ s. steps.is_again (answer_in m s)) (sym (step_is m t t.activity))
    where
      h : IsHeard g b' turn
      h = heard g b' turn

      removes : (id : ThreadId) → ask_in t.id t.own t.activity ≡ asks.Remove id →
          asks.is_again h.response ≡ steps.is_again (answer_in m (step_for (ask_in t.id t.own t.activity)
          (hand_for m t t.activity)))
      removes id e =
          sym (h.removes id (asked_same ∙ e)) ∙ after ∙ stays_by m t t.activity can id e
          ∙ ap (λ s. steps.is_again (answer_in m s)) (step_is m t t.activity)
