-- What a move of a carrier finds in the running world is something to count.
use Rattle.std.proofs.Common.{◌≡◌, ℕ, ◌-◌, ◌<◌, true, refl, sym, ap, ◌∙◌, subst, arith, Option, Some, None, inl, inr}
use Rattle.std.proofs.lemmas.Bool.{cases_Bool}
use Rattle.k_ids.specs.declared.context_word.ContextWord.TheVariants.{Empty}
use Rattle.k_ids.specs.declared.state_word.StateWord.{StateWord}
use Rattle.k_ids.specs.declared.threads.ThreadId.{ThreadId}
use Rattle.k_ids.specs.ContextWords.{context_word_of}
use Rattle.k_ids.proofs.ContextSpelled.{context-read}
use Rattle.k_locks.specs.declared.steps.Step.{Step}
use Rattle.k_locks.specs.declared.steps.Step.TheVariants as step
use Rattle.k_locks.specs.Asks.{Ask, step_for}
use Rattle.k_locks.specs.Asks as asks
use Rattle.k_locks.specs.Hands.{Hand}
use Rattle.k_room.proofs.Wholes.{whole_few}
use Rattle.k_script.specs.Limits.{IsScript}
use Rattle.k_script.specs.Script.{Script}
use Rattle.k_caller.specs.Threads.{ThreadSeen}
use Rattle.k_switch.specs.declared.carrier_context.CarrierContext.{CarrierContext}
use Rattle.k_switch.specs.Carriers as carriers
use Rattle.k_switch.specs.Carriers.{last_serial}
use Rattle.k_context.specs.Contexts.{Carrier, ContextSeen, Thread, begun, can_ask}
use Rattle.k_carrier.specs.declared.carrier.Target.{Target}
use Rattle.k_carrier.specs.declared.carrier.Target.TheVariants.{GoalOf, Helped, Own}
use Rattle.k_carrier.specs.Answers.{TakeLost, Took}
use Rattle.k_carrier.specs.Asked.{CarrierAsk, LookAt, PutDown, Run, Take, ask_of}
use Rattle.k_carrier.specs.Moves.{Section}
use Rattle.k_carrier.specs.Resumed.{heard}
use Rattle.k_carrier.specs.Rules.{context_at, target_of}
use Rattle.k_carrier.specs.Seen.{CarrierSeen, HandSeen}
use Rattle.k_world.specs.Moves.{took}
use Rattle.k_world.specs.Steps.{CarrierStep, step_in}
use Rattle.k_world.specs.Worlds.{Resting, Slot, World, state_at}
use Rattle.k_marks.specs.Moved.{IsCountable}
use Rattle.k_marks.specs.Runs.{counting_in}
use Rattle.k_board.specs.Boards.{Context}
use Rattle.k_places.specs.Contexts.{IsShown, ShowsContext}
use Rattle.k_places.specs.Shows.{context_by}
use Rattle.k_places.proofs.Rested.{nowhere_empty}
use Rattle.k_joint.proofs.Grabs.{aims}
use Rattle.k_joint.proofs.Runs.{hand_of_run}
use Rattle.k_kernel.specs.Moves.{HasRoom, IsRunnable}
use Rattle.k_kernel.specs.Worlds.{WorldHolds}
use Rattle.k_kernel.proofs.Runs.{move_within}
use Rattle.k_counted.specs.Marks.{placed_version, version_with}
use Rattle.k_counted.proofs.Asked.{IsPlacing, IsRemoving, Permits}
use Rattle.k_counted.proofs.Contexts as move
use Rattle.k_counted.proofs.Found.{found_is, some_is, word_shown}

-- WHAT IS ASKED FOR, by the step

section_is : {s t : Step} → Section s ≡ Section t → s ≡ t
section_is e = cc

module _ (P : ThreadId → Type 0) where
  placed_by : (a : Ask) (h : Hand) (id : ThreadId) (program priority : ℕ) → step_for a h ≡ step.Place id program priority →
      ((j : ThreadId) (x y : ℕ) → a ≡ asks.Place j x y → P j) → P id
  placed_by (asks.Place j x y) h id program priority e f = subst P (same e) (f j x y refl)
    where
      same : {a b : ThreadId} {x y p q : ℕ} → step.Place a x y ≡ step.Place b p q → a ≡ b
      same q = cc
  placed_by (asks.Load n) h id program priority e f = absurd cc
  placed_by (asks.LoadMail n) h id program priority e f = absurd cc
  placed_by (asks.Post n message) h id program priority e f = absurd cc
  placed_by (asks.Exchange n old new) h id program priority e f = absurd cc
  placed_by (asks.Acquire l) h id program priority e f = absurd cc
  placed_by (asks.Release l) h id program priority e f = absurd cc
  placed_by (asks.Remove j) h id program priority e f = absurd cc

  removed_by : (a : Ask) (h : Hand) (id : ThreadId) → step_for a h ≡ step.Remove id → ((j : ThreadId) → a ≡ asks.Remove j → P j) →
      P id
  removed_by (asks.Remove j) h id e f = subst P (same e) (f j refl)
    where
      same : {a b : ThreadId} → step.Remove a ≡ step.Remove b → a ≡ b
      same q = cc
  removed_by (asks.Load n) h id e f = absurd cc
  removed_by (asks.LoadMail n) h id e f = absurd cc
  removed_by (asks.Post n message) h id e f = absurd cc
  removed_by (asks.Exchange n old new) h id e f = absurd cc
  removed_by (asks.Acquire l) h id e f = absurd cc
  removed_by (asks.Release l) h id e f = absurd cc
  removed_by (asks.Place j x y) h id e f = absurd cc

-- a carrier that has heard its answer aims at the same
heard_aims : (k : CarrierSeen) (t : Target) → context_at k t ≡ context_at (heard k) t
heard_aims k (Helped n) = refl
heard_aims k Own = refl
heard_aims k (GoalOf g) = refl

took_is : (n : ℕ) (u v : ContextSeen) (s : Slot) → s ≡ Resting u → took n s ≡ Took v → u ≡ v
took_is n u v s e q = same (sym (ap (took n) e) ∙ q)
  where
    same : Took u ≡ Took v → u ≡ v
    same z = cc

module _ (script : Script) (limits : IsScript script) (room : HasRoom script) (c : ℕ) (w : World) (h : WorldHolds script w)
    (r : IsRunnable script c w) where
  abbrev K : CarrierSeen
  K = move.K script limits room c w h r

  abbrev Before : ℕ → Option ContextSeen
  Before = move.Before script limits room c w h r

  abbrev Step_by : CarrierAsk → CarrierStep
  Step_by = move.Step_by script limits room c w h r

  one_hand : (x y : HandSeen) → K.hand ≡ Some x → K.hand ≡ Some y → x ≡ y
  one_hand x y p q = some_is (sym p ∙ q)

  -- where the move places a context
  pub placing : (a : CarrierAsk) → ask_of K ≡ a → (id : ThreadId) (program priority : ℕ) →
      (Step_by a).move ≡ Section (step.Place id program priority) → IsPlacing h.board id
  placing (Run x) e id program priority q =
      let asked = move.run_asked script limits room c w h r x e in
      placed_by (IsPlacing h.board) asked.ask asked.hand id program priority (sym asked.step ∙ section_is q)
      (λ j y z p. subst (Permits h.board x.context) p asked.permits)
  placing (PutDown x) e id program priority q = absurd cc
  placing (LookAt n) e id program priority q = absurd cc
  placing (Take n bits) e id program priority q = absurd cc

  -- where it removes one
  pub removing : (a : CarrierAsk) → ask_of K ≡ a → (id : ThreadId) → (Step_by a).move ≡ Section (step.Remove id) →
      (x : HandSeen) → K.hand ≡ Some x → IsRemoving h.board x.context id
  removing (Run y) e id q x p =
      let asked = move.run_asked script limits room c w h r y e in
      subst (λ (z : HandSeen). IsRemoving h.board z.context id) (one_hand y x (hand_of_run K y e) p)
      (removed_by (IsRemoving h.board y.context) asked.ask asked.hand id (sym asked.step ∙ section_is q)
      (λ j s. subst (Permits h.board y.context) s asked.permits))
  removing (PutDown y) e id q x p = absurd cc
  removing (LookAt n) e id q x p = absurd cc
  removing (Take n bits) e id q x p = absurd cc

  pub none_there : (id : ThreadId) → IsPlacing h.board id → Before id.number ≡ None
  none_there id p =
      let m = move.M script limits room c w h r in
      found_is w id.number
      ∙ ap (λ (bits : ℕ). context_by m.slot m.hand id.number (context_word_of bits))
      (nowhere_empty script m h.board h.shows.shows id.number p.vacant)
      ∙ ap (context_by m.slot m.hand id.number) (context-read Empty tt)

  pub one_before : (id : ThreadId) → IsPlacing h.board id → placed_version w id.number < id.version
  one_before id p =
      let is : placed_version w id.number ≡ id.version - 1 =
      ap (version_with (state_at w id.number).version) (none_there id p)
      ∙ ap (λ (z : StateWord). z.version) (word_shown script w h.board h.shows id.number ∙ p.unmade) in
      omega (arith, is, p.version.born)

  -- a serial is one above the count of entries at most, of which there is a bound
  serial_below : (x : HandSeen) (t : ThreadSeen) → K.hand ≡ Some x → x.value ≡ Thread t → t.serial < last_serial
  serial_below x t p q =
      let shown : IsShown (h.board.seen x.context).word x.context t (h.board.context x.context) =
      subst (λ (v : ContextSeen). ShowsContext (h.board.seen x.context).word x.context (Some v) (h.board.context x.context)) q
      (move.held_shown script limits room c w h r x p) in
      let serial : (h.board.context x.context).serial ≡ t.serial = ap (λ (y : Context). y.serial) shown.context in
      let low = h.serials.serials x.context in
      let few = whole_few script w.history h.state limits h.holds.ledgers.leads.follows in
      omega (arith, serial, low, few, room)

  -- what is run can be asked for its step
  asked_step : (a : CarrierAsk) → ask_of K ≡ a → (x : HandSeen) (k : CarrierContext) (st : Step) → K.hand ≡ Some x →
      x.value ≡ Carrier k → (Step_by a).move ≡ Section st → carriers.can_ask k ≡ true
  asked_step (Run y) e x k st p q m =
      subst (λ (v : ContextSeen). can_ask (begun script v) ≡ true)
      (ap (λ (z : HandSeen). z.value) (one_hand y x (hand_of_run K y e) p) ∙ q)
      (move.can_run script limits room c w h r y e).asks
  asked_step (PutDown y) e x k st p q m = absurd cc
  asked_step (LookAt n) e x k st p q m = absurd cc
  asked_step (Take n bits) e x k st p q m = absurd cc

  -- what is taken was there
  taken_there : (a : CarrierAsk) → ask_of K ≡ a → (v : ContextSeen) → (Step_by a).answer ≡ Took v →
      Before (context_at (Step_by a).asked (target_of (Step_by a).asked)) ≡ Some v
  taken_there (Run x) e v q = absurd cc
  taken_there (PutDown x) e v q = absurd cc
  taken_there (LookAt n) e v q = absurd cc
  taken_there (Take n bits) e v q = elim (cases_Bool (move.Test script limits room c w h r n bits e)) [
    | inl won ↦
        let is = move.answer_is script limits room c w h r n bits e
        ∙ ap (move.Answered script limits room c w h r n bits e) won in
        let k = (Step_by (Take n bits)).asked in
        let at : context_at k (target_of k) ≡ n =
        heard_aims k (target_of k) ∙ aims script w c h.board h.shows (move_within script limits c w h r) n bits e
        (move.is_taking script limits room c w h r n bits e) in
        let same = took_is _ (move.Was script limits room c w h r n bits e won) v _
        (move.was_slot script limits room c w h r n bits e won) (sym is ∙ q) in
        ap Before at ∙ move.was_found script limits room c w h r n bits e won ∙ ap Some same
    | inr lost ↦
        let is = move.answer_is script limits room c w h r n bits e
        ∙ ap (move.Answered script limits room c w h r n bits e) lost in
        absurd (no_loss (sym is ∙ q))
  ]
    where
      no_loss : {x : ℕ} {u : ContextSeen} → TakeLost x ≡ Took u → ⊥
      no_loss z = absurd cc

  countable_by : (a : CarrierAsk) → ask_of K ≡ a → IsCountable (Step_by a) (counting_in w (placed_version w))
  countable_by a e = record {
    hand = move.held_found script limits room c w h r;
    took = taken_there a e;
    vacant = λ id program priority m x. none_there id (placing a e id program priority m);
    later = λ id program priority m x. one_before id (placing a e id program priority m);
    apart = λ x id p m. (removing a e id m x p).apart;
    serial = λ x t last p q s. serial_below x t p q;
    ready = asked_step a e;
  }

  pub countable : IsCountable (step_in script c w) (counting_in w (placed_version w))
  countable = by (ask_of K) refl
    where
      by : (a : CarrierAsk) → ask_of K ≡ a → IsCountable (step_in script c w) (counting_in w (placed_version w))
      by a e =
          subst (λ (s : CarrierStep). IsCountable s (counting_in w (placed_version w)))
          (sym (move.step_is script limits room c w h r a e)) (countable_by a e)
