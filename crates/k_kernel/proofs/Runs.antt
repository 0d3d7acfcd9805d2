-- A move of a carrier keeps what holds of the world.
use Rattle.std.proofs.Common.{◌≡◌, ℕ, refl, sym, ap, ◌∙◌, subst, arith, Option, Some, None, List, [], ◌++◌, length, ◌<◌}
use Rattle.std.proofs.lemmas.List.{append-nil}
use Rattle.k_ids.specs.declared.histories.Entry.{Entry}
use Rattle.k_ids.specs.StateWords.{state_word_of}
use Rattle.k_ids.specs.declared.state_word.StateWord.{StateWord}
use Rattle.k_locks.specs.declared.locks.WordName.TheVariants as word
use Rattle.k_script.specs.Limits.{IsScript}
use Rattle.k_script.specs.Script.{Script}
use Rattle.k_switch.specs.declared.switch.Switch.{Switch}
use Rattle.k_context.specs.Contexts.{Carrier, ContextSeen, Thread}
use Rattle.k_carrier.specs.Asked.{CarrierAsk, LookAt, PutDown, Run, Take, ask_of}
use Rattle.k_carrier.specs.Seen.{HandSeen}
use Rattle.k_world.specs.Steps.{entry_of, moved, recorded, step_in}
use Rattle.k_world.specs.Worlds.{World, carrier_at, state_at}
use Rattle.k_board.specs.Boards.{Coming, Context, Resting}
use Rattle.k_places.specs.Contexts.{IsShown, ShowsContext, switch_at}
use Rattle.k_places.specs.Fits.{IsStepWithin}
use Rattle.k_places.specs.Memory.{Memory, memory_of}
use Rattle.k_joint.specs.Ready.{IsCounted, IsMoveReady, IsReady}
use Rattle.k_joint.specs.Runs.{ShowsLater, acting}
use Rattle.k_room.proofs.Wholes.{whole_few}
use Rattle.k_places.proofs.Places.{held_is}
use Rattle.k_places.proofs.Raw.{word_is}
use Rattle.k_joint.proofs.Moves.{move_shown}
use Rattle.k_joint.proofs.Runs.{hand_is, hand_of_run}
use Rattle.k_kernel.specs.Moves.{CanMove, CanRun, HasRoom, IsMade, IsRunnable, IsSpelledIn}
use Rattle.k_kernel.specs.Worlds.{WorldHolds}
use Rattle.k_kernel.proofs.Agreeing.{facts_all}
use Rattle.k_kernel.proofs.Moves.{Reached, turns_hold}

-- A context that is made doesn't stand as one that is to come.
switch_stands : (s : Option Switch) → switch_at s ≡ Coming → ⊥
switch_stands None e = let no : Resting ≡ Coming = e in absurd cc
switch_stands (Some s) e = absurd cc

made_stands : (word : StateWord) (n : ℕ) (v : ContextSeen) (x : Context) → ShowsContext word n (Some v) x → IsMade word v →
    x.at ≡ Coming → ⊥
made_stands word n (Thread t) x shown made e = let next = (shown.coming e).version in omega (arith, made, next)
made_stands word n (Carrier k) x shown made e = switch_stands k.switch (sym shown ∙ e)

-- the board's words are the world's
pub word_seen : (script : Script) (w : World) (h : WorldHolds script w) (n : ℕ) → state_at w n ≡ (h.board.seen n).word
word_seen script w h n = ap state_word_of (word_is w (word.State n)) ∙ sym (h.shows.shows.seen n).word

step_of_carrier : (script : Script) (c : ℕ) (w : World) → c < length w.carriers → (step_in script c w).number < length w.carriers
unfolding step_in
step_of_carrier script c w inside = inside

-- the history has the entry of the step, if it makes one
pub moved_history : (script : Script) (w : World) (c : ℕ) →
    (moved script c w).history ≡ recorded (entry_of w (step_in script c w)) w.history
unfolding moved
moved_history script w c = refl

recorded_last : (made : Option Entry) (entries : List Entry) → recorded made entries ≡ entries ++ recorded made []
recorded_last None entries = sym (append-nil entries)
recorded_last (Some e) entries = refl

module _ (script : Script) (limits : IsScript script) (c : ℕ) (w : World) (h : WorldHolds script w) where
  abbrev M : Memory
  M = memory_of w

  in_hand : (x : HandSeen) → ask_of (carrier_at w c) ≡ Run x → M.hand c ≡ Some x
  in_hand x e = hand_is w c ∙ hand_of_run (carrier_at w c) x e

  shown_in_hand : (x : HandSeen) → ask_of (carrier_at w c) ≡ Run x →
      ShowsContext (h.board.seen x.context).word x.context (Some x.value) (h.board.context x.context)
  shown_in_hand x e =
      subst (λ (o : Option ContextSeen). ShowsContext (h.board.seen x.context).word x.context o (h.board.context x.context))
      (held_is M.context M.slot M.hand c x h.shows.shows.places (in_hand x e)) (h.shows.shows.contexts x.context)

  -- a serial is one above the count of entries at most, of which there is a bound
  counted_here : (x : HandSeen) → HasRoom script → ask_of (carrier_at w c) ≡ Run x → IsCounted x.value
  counted_here x room e = by x.value refl
    where
      by : (v : ContextSeen) → x.value ≡ v → IsCounted v
      by (Carrier k) q = tt
      by (Thread t) q =
          let shown : IsShown (h.board.seen x.context).word x.context t (h.board.context x.context) =
          subst (λ (v : ContextSeen). ShowsContext (h.board.seen x.context).word x.context (Some v)
          (h.board.context x.context)) q (shown_in_hand x e) in
          let serial : (h.board.context x.context).serial ≡ t.serial = ap (λ (y : Context). y.serial) shown.context in
          let low = h.serials.serials x.context in
          let few = whole_few script w.history h.state limits h.holds.ledgers.leads.follows in
          omega (arith, serial, low, few, room)

  pub run_ready : (x : HandSeen) → HasRoom script → ask_of (carrier_at w c) ≡ Run x → CanRun script w x → IsSpelledIn script (Run x) →
      IsReady script h.board x.context x.value
  run_ready x room e can spelled = record {
    facts = facts_all script limits h.board w.history h.state h.holds x.context;
    locks = h.holds.proper.good.locks;
    made =
        made_stands (h.board.seen x.context).word x.context x.value (h.board.context x.context) (shown_in_hand x e)
        (subst (λ (v : StateWord). IsMade v x.value) (word_seen script w h x.context) can.made);
    sound = can.sound;
    asks = can.asks;
    counted = counted_here x room e;
    spelled = spelled;
  }

  move_ready : (a : CarrierAsk) → HasRoom script → ask_of (carrier_at w c) ≡ a → CanMove script c w a → IsSpelledIn script a →
      IsMoveReady script c h.board (carrier_at w c) a
  move_ready (Run x) room e can spelled = run_ready x room e can spelled
  move_ready (PutDown x) room e can spelled = tt
  move_ready (LookAt n) room e can spelled = tt
  move_ready (Take n bits) room e can spelled = can

  -- it has grown by the entry that the turns have
  pub history_told : {told : List Entry} → told ≡ recorded (entry_of w (step_in script c w)) [] →
      (moved script c w).history ≡ w.history ++ told
  history_told e =
      moved_history script w c ∙ recorded_last (entry_of w (step_in script c w)) w.history ∙ ap (λ z. w.history ++ z) (sym e)

  -- it has its sizes, and the move is of words and numbers that there are
  pub move_within : IsRunnable script c w → IsStepWithin w (step_in script c w)
  move_within r = record {
    words = h.shows.whole.words;
    slots = h.shows.whole.slots;
    carrier = step_of_carrier script c w r.carrier;
    word = r.word;
    entry = r.entry;
  }

  -- the board that is shown then
  pub later_shown : HasRoom script → IsRunnable script c w →
      ShowsLater script h.board (acting (ask_of (carrier_at w c))) (entry_of w (step_in script c w)) (moved script c w)
  later_shown room r =
      move_shown script w c h.board h.shows (move_within r)
      (move_ready (ask_of (carrier_at w c)) room refl r.move r.spelled)

  pub moved_holds : HasRoom script → IsRunnable script c w → WorldHolds script (moved script c w)
  moved_holds room r =
      let later = later_shown room r in
      let before : Reached script h.board w.history = record { state = h.state; holds = h.holds; serials = h.serials } in
      let after = turns_hold script limits
      (acting (ask_of (carrier_at w c))) later.count h.board later.board w.history later.turns before in
      let reached : Reached script later.board (moved script c w).history =
      subst (Reached script later.board) (sym (history_told later.entries)) after in
      record {
        board = later.board;
        state = reached.state;
        shows = later.shows;
        holds = reached.holds;
        serials = reached.serials;
      }
