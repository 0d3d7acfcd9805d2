-- The step of the context in a carrier's hand comes to one turn of the board, or to two where the context begins its next call.
use Rattle.std.proofs.Common.{◌≡◌, ℕ, ◌<◌, ◌==◌, true, false, refl, sym, ap, ◌∙◌, subst, Option, Some, None, arith, inl, inr}
use Rattle.std.specs.Prelude.{◌-◌, ◌^◌, [], ◌++◌}
use Rattle.std.proofs.lemmas.Bool.{eqb-true}
use Rattle.std.proofs.lemmas.Bool.Decides.{eqb_tells}
use Rattle.k_ids.specs.declared.calls.Phase.TheVariants as phase
use Rattle.k_ids.specs.declared.calls.Reply.{Reply}
use Rattle.k_ids.specs.declared.histories.Entry.{Entry}
use Rattle.k_ids.specs.declared.threads.ThreadId.{ThreadId}
use Rattle.k_ids.specs.StateWords.{state_word_of}
use Rattle.k_locks.specs.declared.goods.Goods.{Goods}
use Rattle.k_locks.specs.declared.locks.WordName.{WordName}
use Rattle.k_locks.specs.declared.locks.WordName.TheVariants as word
use Rattle.k_locks.specs.declared.steps.Step.{Step}
use Rattle.k_locks.specs.declared.steps.Step.TheVariants as step
use Rattle.k_locks.specs.Steps.{answer_of, becomes, word_of}
use Rattle.k_model.specs.Maps.{upd}
use Rattle.k_model.proofs.Maps.{upd_other, upd_same}
use Rattle.k_script.specs.declared.registers.Next.{Next}
use Rattle.k_script.specs.declared.registers.Next.TheVariants as next
use Rattle.k_script.specs.Script.{Script}
use Rattle.k_script.specs.Plays.{next_of, went_on}
use Rattle.k_caller.specs.declared.activity.Activity.{Activity}
use Rattle.k_caller.specs.declared.activity.Activity.TheVariants as activity
use Rattle.k_caller.specs.declared.thread.ThreadLocation.TheVariants as location
use Rattle.k_caller.specs.Activities as about
use Rattle.k_caller.specs.Activities.{section_own}
use Rattle.k_caller.specs.Threads.{ThreadSeen, begun_after, begun_at, begun_next}
use Rattle.k_caller.specs.Threads as threads
use Rattle.k_switch.specs.declared.carrier_context.CarrierContext.{CarrierContext}
use Rattle.k_switch.specs.declared.switch.Switch.{Switch}
use Rattle.k_switch.specs.Carriers as carriers
use Rattle.k_switch.specs.Switches as switch
use Rattle.k_context.specs.Contexts.{ContextSeen, Thread, Carrier, asked, begun, can_ask, points, resumed, step_of}
use Rattle.k_carrier.specs.Seen.{HandSeen}
use Rattle.k_world.specs.Steps.{recorded}
use Rattle.k_board.specs.Boards.{Alone, Board, Coming, Context, InSwitch, id_at}
use Rattle.k_good.specs.Locks.{locks_at}
use Rattle.k_legal.specs.Runs.{entries_of}
use Rattle.k_places.specs.Contexts.{IsShown, ShowsContext, at_in, held_on, programs_of, switch_at, switch_hand}
use Rattle.k_places.specs.Memory.{Filling, Memory, filling_by, memory_with, serials_with, word_in}
use Rattle.k_places.specs.Asks.{IsAskFit}
use Rattle.k_joint.specs.Ready.{IsReady}
use Rattle.k_turns.specs.Spelled.{IsSpelled, ask_at, ask_in, ask_of_switch}
use Rattle.k_turns.specs.Sections.{Comes, context_after, more, section_entry, section_maps}
use Rattle.k_joint.specs.Runs.{ComesSoon}
use Rattle.k_places.specs.Answers.{entry_in, goods_found}
use Rattle.k_places.specs.Shows.{Shows, context_in}
use Rattle.k_turns.proofs.Begins.{IsBegun, begins_shown, next_at}
use Rattle.k_turns.specs.Needs.{Needs}
use Rattle.k_turns.proofs.Comes.{made_test, needs_met, thread_comes, usual_fit}
use Rattle.k_places.proofs.Held.{with_hand}
use Rattle.k_places.proofs.Places.{held_is, version_held}
use Rattle.k_joint.proofs.SwitchSteps.{switch_steps, usual as switch_usual}

-- a map changed twice at one number
pub upd_twice : {A : Type 0} (f : ℕ → A) (n : ℕ) (v w : A) → upd (upd f n v) n w ≡ upd f n w
upd_twice f n v w = λ d u. point f n v w u d
  where
    point : {A : Type 0} (f : ℕ → A) (n : ℕ) (v w : A) (u : ℕ) → upd (upd f n v) n w u ≡ upd f n w u
    point f n v w u = elim (eqb_tells u n) [
      | inl e ↦ ap (upd (upd f n v) n w) e.1 ∙ upd_same (upd f n v) n w ∙ sym (upd_same f n w) ∙ ap (upd f n w) (sym e.1)
      | inr e ↦ upd_other (upd f n v) n w u e.1 ∙ upd_other f n v u e.1 ∙ sym (upd_other f n w u e.1)
    ]

-- WHAT WAS IN THE HAND BEFORE doesn't matter to a step

pub word_same : (m : Memory) (hs : ℕ → Option HandSeen) (name : WordName) → word_in (record m { hand = hs }) name ≡ word_in m name
word_same m hs (word.State n) = refl
word_same m hs (word.Mail n) = refl
word_same m hs (word.Lock l) = refl
word_same m hs (word.Context n) = refl

pub goods_same : (m : Memory) (hs : ℕ → Option HandSeen) (s : Step) → goods_found (record m { hand = hs }) s ≡ goods_found m s
goods_same m hs (step.Acquire l) = refl
goods_same m hs (step.Release l g) = refl
goods_same m hs (step.Load name) = refl
goods_same m hs (step.Store name value) = refl
goods_same m hs (step.Exchange name old new) = refl
goods_same m hs (step.Place id program priority) = refl
goods_same m hs (step.Remove id) = refl

with_same : (m : Memory) (hs : ℕ → Option HandSeen) (name : WordName) (v : ℕ) (f : Filling) (hands : ℕ → Option HandSeen)
    (serials : ℕ → ℕ) → memory_with (record m { hand = hs }) name v f hands serials ≡ memory_with m name v f hands serials
with_same m hs (word.State n) v f hands serials = refl
with_same m hs (word.Mail n) v f hands serials = refl
with_same m hs (word.Lock l) v f hands serials = refl
with_same m hs (word.Context n) v f hands serials = refl

module _ (script : Script) (m : Memory) (c i : ℕ) (h : Option HandSeen) (v : ContextSeen) where
  abbrev Maps : Memory → ℕ → Goods → Memory
  Maps mem found g =
      memory_with mem (word_of (step_of v)) (becomes i (step_of v) found) (filling_by script (step_of v) found)
      (upd mem.hand c (Some (record { context = i; value = resumed (asked v) (answer_of (step_of v) found g) })))
      (serials_with (entry_in mem.serial (points (asked v) (state_word_of (mem.state i))
      (answer_of (step_of v) found g))) mem.serial)

  pub same_maps : section_maps script (with_hand m c h) c i v ≡ section_maps script m c i v
  same_maps =
      let found = word_in m (word_of (step_of v)) in
      let g = goods_found m (step_of v) in
      (λ d. Maps (with_hand m c h) (word_same m (upd m.hand c h) (word_of (step_of v)) d)
      (goods_same m (upd m.hand c h) (step_of v) d))
      ∙ with_same m (upd m.hand c h) (word_of (step_of v)) (becomes i (step_of v) found) (filling_by script (step_of v) found) _ _
      ∙ ap (λ (z : ℕ → Option HandSeen). record (section_maps script m c i v) { hand = z })
      (upd_twice m.hand c h (Some (record { context = i; value = context_after m v })))

  pub same_entry : section_entry (with_hand m c h) i v ≡ section_entry m i v
  same_entry =
      λ d. entry_in m.serial (points (asked v) (state_word_of (m.state i)) (answer_of (step_of v)
      (word_same m (upd m.hand c h) (word_of (step_of v)) d) (goods_same m (upd m.hand c h) (step_of v) d)))

-- THE NEXT CALL

next_made : (size : ℕ) (me : ThreadId) (n : Next) → next_at size me n ≡ Coming → ⊥
next_made size me (next.Work count) q = absurd cc
next_made size me (next.Phase (phase.Send to message zero joined)) q = absurd cc
next_made size me (next.Phase (phase.Reply to message zero)) q = absurd cc
next_made size me (next.Phase (phase.Receive from zero)) q = absurd cc
next_made size me (next.Phase (phase.Create program priority)) q = absurd cc
next_made size me (next.Phase (phase.Destroy who)) q = absurd cc
next_made size me (next.Phase phase.End) q = absurd cc

next_needs : (script : Script) (b : Board) (size : ℕ) (me : ThreadId) (n : Next) → Needs script b (next_at size me n)
next_needs script b size me (next.Work count) = tt
next_needs script b size me (next.Phase (phase.Send to message zero joined)) = tt
next_needs script b size me (next.Phase (phase.Reply to message zero)) = tt
next_needs script b size me (next.Phase (phase.Receive from zero)) = tt
next_needs script b size me (next.Phase (phase.Create program priority)) = tt
next_needs script b size me (next.Phase (phase.Destroy who)) = tt
next_needs script b size me (next.Phase phase.End) = tt

module _ (script : Script) (m : Memory) (b : Board) (c : ℕ) (k : HandSeen) (sh : Shows script m b) (was : m.hand c ≡ Some k)
    (ready : IsReady script b k.context k.value) where
  abbrev I : ℕ
  I = k.context

  abbrev X : Context
  X = b.context I

  abbrev Result : ContextSeen → Type 0
  Result v = ComesSoon script (programs_of script) I b (section_maps script m c I v) (section_entry m I v)

  once : {n : Memory} {made : Option Entry} → Comes script (programs_of script) I 1 b n made →
      ComesSoon script (programs_of script) I b n made
  once h = record { count = 1; few = omega arith; comes = h }

  found : context_in m.context m.slot m.hand I ≡ Some k.value
  found = held_is m.context m.slot m.hand c k sh.places was

  needs : Needs script b X.at
  needs = needs_met script b I X X.at ready.facts

  module _ (t : ThreadSeen) (is : k.value ≡ Thread t) where
    shown : IsShown (b.seen I).word I t X
    shown = subst (λ (o : Option ContextSeen). ShowsContext (b.seen I).word I o X) (found ∙ ap Some is) (sh.contexts I)

    ready_thread : IsReady script b I (Thread t)
    ready_thread = subst (IsReady script b I) is ready

    -- its step, where it is about something
    pub step_comes : threads.begun script t ≡ t →
        Comes script (programs_of script) I 1 b (section_maps script m c I (Thread t)) (section_entry m I (Thread t))
    step_comes same =
        thread_comes script m b c I k t sh ready.locks was refl is ready.made needs
        (subst (λ (z : ThreadSeen). threads.can_ask z ≡ true) same ready_thread.asks)
        (subst (λ (z : ThreadSeen). IsSpelled script.table (ask_in z.id z.own z.activity)) same ready_thread.spelled)
        (subst (λ (z : ThreadSeen). about.IsSoundAt z.id z.own z.activity) same ready_thread.sound.doing)

    goes_on : threads.begun script t ≡ t → Result (begun script k.value)
    goes_on same = subst Result (ap Thread (sym same) ∙ ap (begun script) (sym is)) (once (step_comes same))

    -- its next call, and the first step of it
    module _ (last : Option Reply) (e : t.activity ≡ activity.Alone (location.Between last)) where
      ver : ((b.seen I).word.version == t.id.version) ≡ true
      ver =
          made_test (b.seen I).word t ((b.seen I).word.version == t.id.version) refl
          (λ q. ready.made (ap (λ (z : Context). z.at) shown.context ∙ q))

      at : X.at ≡ Alone (location.Between last)
      at = ap (λ (z : Context). z.at) shown.context ∙ rw ver (ap at_in e)

      id_is : id_at b I ≡ t.id
      id_is = λ d. record { number = sym shown.number d; version = eqb-true (b.seen I).word.version t.id.version ver d }

      position_is : X.position ≡ t.position
      position_is = ap (λ (z : Context). z.position) shown.context

      serial_is : X.serial ≡ t.serial
      serial_is = ap (λ (z : Context). z.serial) shown.context

      own_is : X.own ≡ t.own
      own_is = ap (λ (z : Context). z.own) shown.context ∙ ap (section_own t.own) e

      abbrev pub Begun : ThreadSeen
      Begun = threads.begun script t

      abbrev pub Begun_hand : HandSeen
      Begun_hand = record { context = I; value = Thread Begun }

      next_is : begun_next script.table (record {
        id = id_at b I;
        position = went_on X.position last;
        own = X.own;
        serial = X.serial;
        done = t.done;
        activity = activity.Alone (location.Between last);
      })
          (next_of script.version X.position last) ≡ Begun
      next_is =
          (λ d. begun_next script.table (record {
            id = id_is d;
            position = went_on (position_is d) last;
            own = own_is d;
            serial = serial_is d;
            done = t.done;
            activity = sym e d;
          }) (next_of script.version (position_is d) last))
          ∙ ap (begun_at script t) (sym e)

      -- the board on which it has begun
      pub begun_board : IsBegun script b I (with_hand m c (Some Begun_hand)) (next_at b.size (id_at b I) (next_of script.version X.position last))
      begun_board =
          subst (λ (z : ThreadSeen). IsBegun script b I (with_hand m c (Some (record { context = I; value = Thread z })))
          (next_at b.size (id_at b I) (next_of script.version X.position last))) next_is
          (begins_shown script m b c I last t.done k sh ready.locks was refl (next_of script.version X.position last) refl at
          (subst (λ n. n < 2 ^ 32 - 1) (sym serial_is) ready_thread.counted)
          (ap (λ (v : ContextSeen). version_held (record { context = I; value = v })) is
          ∙ sym (eqb-true (b.seen I).word.version t.id.version ver)))

      -- the context is one whose thread is made
      pub begun_made : (begun_board.board.context I).at ≡ Coming → ⊥
      begun_made q = next_made b.size (id_at b I) (next_of script.version X.position last) (sym begun_board.stands ∙ q)

      -- .. and the step
      pub begun_comes : Comes script (programs_of script) I 1 begun_board.board (section_maps script (with_hand m c (Some Begun_hand)) c I (Thread Begun))
          (section_entry (with_hand m c (Some Begun_hand)) I (Thread Begun))
      begun_comes =
          thread_comes script (with_hand m c (Some Begun_hand)) begun_board.board c I Begun_hand Begun begun_board.shows begun_board.locks
          (upd_same m.hand c (Some Begun_hand)) refl refl
          begun_made
          (subst (Needs script begun_board.board) (sym begun_board.stands) (next_needs script begun_board.board b.size (id_at b I)
          (next_of script.version X.position last)))
          ready_thread.asks ready_thread.spelled ready_thread.sound.doing

      begins_on : Result (begun script k.value)
      begins_on =
          subst Result (ap (begun script) (sym is))
          (subst (λ (z : Memory). ComesSoon script (programs_of script) I b z (section_entry m I (Thread Begun)))
          (same_maps script m c I (Some Begun_hand) (Thread Begun)) (record {
            count = 2;
            few = omega arith;
            comes = record {
              board = begun_comes.board;
              turns = more b begun_board.board begun_comes.board begun_board.turn begun_comes.turns;
              shows = begun_comes.shows;
              entries = (λ d. entries_of b (begun_board.silent d) ++ begun_comes.entries d)
                  ∙ ap (λ (z : Option Entry). recorded z []) (same_entry script m c I (Some Begun_hand) (Thread Begun));
            };
          }))

    by_doing : (a : Activity) → t.activity ≡ a → Result (begun script k.value)
    by_doing (activity.Alone (location.Between last)) e = begins_on last e
    by_doing a e = goes_on (ap (begun_at script t) e)

  -- a switch
  switch_on : (z : CarrierContext) → k.value ≡ Carrier z → (o : Option Switch) → z.switch ≡ o → Result (begun script k.value)
  switch_on z is None e =
      let no : false ≡ true = sym (ap carriers.can_ask_in e)
      ∙ subst (λ (v : ContextSeen). can_ask (begun script v) ≡ true) is ready.asks in absurd cc
  switch_on z is (Some s) e =
      subst Result (ap Carrier same ∙ ap (begun script) (sym is))
      (once (switch_steps script m b c I s.call s.location z.carrier z.serial z.done
      k sh ready.locks was refl fit at can hand held))
    where
      same : record { carrier = z.carrier; serial = z.serial; done = z.done; switch = Some s } ≡ z
      same = λ d. record { carrier = z.carrier; serial = z.serial; done = z.done; switch = sym e d }

      shown : X.at ≡ switch_at z.switch
      shown = subst (λ (o : Option ContextSeen). ShowsContext (b.seen I).word I o X) (found ∙ ap Some is) (sh.contexts I)

      at : X.at ≡ InSwitch s.call (switch.at_of s.location)
      at = shown ∙ ap switch_at e

      can : switch.can_ask s.location ≡ true
      can = sym (ap carriers.can_ask_in e) ∙ subst (λ (v : ContextSeen). can_ask (begun script v) ≡ true) is ready.asks

      hand : switch.hand_of s.location ≡ held_on b (locks_at X.at)
      hand = sym (ap switch_hand e) ∙ sh.goods.hands I (Carrier z) (found ∙ ap Some is)

      held : version_held k ≡ 1
      held = ap (λ (v : ContextSeen). version_held (record { context = I; value = v })) is

      fit : IsAskFit m b (switch.ask_of s.call (switch.at_of s.location))
      fit =
          usual_fit m b _ sh.size (switch_usual s.call (switch.at_of s.location))
          (subst (λ (o : Option Switch). IsSpelled script.table (ask_of_switch o)) e
          (subst (λ (v : ContextSeen). IsSpelled script.table (ask_at (begun script v))) is ready.spelled))

  -- what the context in hand is
  pub section_comes : Result (begun script k.value)
  section_comes = by k.value refl
    where
      by : (v : ContextSeen) → k.value ≡ v → Result (begun script k.value)
      by (Thread t) e = by_doing t e t.activity refl
      by (Carrier z) e = switch_on z e z.switch refl
