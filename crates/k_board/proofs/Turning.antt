-- The facts of all contexts hold after any turn.
use Rattle.std.proofs.Common.{◌≡◌, ◌≢◌, ℕ, refl, sym, ap, ◌∙◌, subst, Some, None, [], ◌⊎◌, inl, inr}
use Rattle.std.proofs.lemmas.Bool.Decides.{eqb_tells}
use Rattle.k_model.specs.Maps.{upd}
use Rattle.k_model.proofs.Maps.{upd_same, upd_other}
use Rattle.k_locks.specs.Asks.{Response}
use Rattle.k_locks.specs.Asks as asks
use Rattle.k_ipc.specs.declared.send.SendCall.{SendCall}
use Rattle.k_ipc.specs.SendTable.{SendAt}
use Rattle.k_ipc.specs.SendTable as send
use Rattle.k_ipc.specs.declared.receive.ReceiveCall.{ReceiveCall}
use Rattle.k_ipc.specs.ReceiveTable.{ReceiveAt}
use Rattle.k_ipc.specs.ReceiveTable as receive
use Rattle.k_threads.specs.declared.create.CreateCall.{CreateCall}
use Rattle.k_threads.specs.declared.create.CreateLocked.TheVariants as create_locked
use Rattle.k_threads.specs.CreateTable.{CreateAt}
use Rattle.k_threads.specs.CreateTable as create
use Rattle.k_threads.specs.declared.destroy.DestroyCall.{DestroyCall}
use Rattle.k_threads.specs.declared.destroy.DestroyLocked.TheVariants as destroy_locked
use Rattle.k_threads.specs.DestroyTable.{DestroyAt}
use Rattle.k_threads.specs.DestroyTable as destroy
use Rattle.k_caller.specs.declared.thread.ThreadLocation.TheVariants as location
use Rattle.k_board.specs.Words.{Programs}
use Rattle.k_switch.specs.Switches as switch
use Rattle.k_board.specs.Boards.{At, Alone, InSend, InReceive, InCreate, InDestroy, InSwitch, Resting, Coming, Nowhere, Context, Board, hand_of}
use Rattle.k_board.specs.Facts.{AllSay}
use Rattle.k_board.specs.Places.{PlacesHold, facts_of}
use Rattle.k_board.specs.Moves.{Change, IsAway, Leaves, PlaceStep, same}
use Rattle.k_board.specs.Steps.{Answers, alone_context, create_board, create_context, destroy_board, destroy_context, destroy_number, new_context, placed, receive_board, receive_context, send_board, send_context, switch_context}
use Rattle.k_board.specs.Turns.{Supports, Turn, sends, receives, creates, destroys, goes_alone, begins, turns_to_work, wakes, switches, begins_switch, ends_switch}
use Rattle.k_board.proofs.AlonePlaces.{ok_begins, ok_switch_begins, ok_switch_ends, ok_woken, ok_work}
use Rattle.k_board.proofs.CreatePlaces.{made_starts}
use Rattle.k_board.proofs.Goes.{alone_goes, create_goes, create_me, destroy_goes, destroy_me, receive_goes, receive_me, send_goes, send_me, switch_goes}
use Rattle.k_board.proofs.Keep.{places_kept}

there_is : (b : Board) (i : ℕ) (p : At) → (b.context i).at ≡ p → (IsAway p → ⊥) → IsAway (b.context i).at → ⊥
there_is b i p at n a = n (subst IsAway at a)

module _ (g : Programs) (b : Board) (i : ℕ) where
  -- one context moves
  one_moved : (b' : Board) (x : Context) → (there : IsAway (b.context i).at → ⊥) → ((n : ℕ) → b'.context n ≡ upd b.context i x n) → PlaceStep g b i x b' → PlacesHold g b → PlacesHold g b'
  one_moved b' x there ctx step h = places_kept g b b' i x there step (λ n ne. inl (ctx n ∙ upd_other b.context i x n ne)) (ctx i ∙ upd_same b.context i x) h

  -- another is placed, begins, or is removed
  two_moved : (b' : Board) (x y : Context) (m : ℕ) → (there : IsAway (b.context i).at → ⊥) → ((n : ℕ) → b'.context n ≡ upd (upd b.context m y) i x n) → b.table ≡ Some i → AllSay g b' m y (facts_of y.at) → PlaceStep g b i x b' → PlacesHold g b → PlacesHold g b'
  two_moved b' x y m there ctx tb f step h = places_kept g b b' i x there step moved (ctx i ∙ upd_same (upd b.context m y) i x) h
    where
      moved : (n : ℕ) → n ≢ i → (b'.context n ≡ b.context n) ⊎ ((b.table ≡ Some i) × AllSay g b' n (b'.context n) (facts_of (b'.context n).at))
      moved n ne = elim (eqb_tells n m) [
        | inl e ↦ inr (tb, subst (λ (k : ℕ). AllSay g b' k (b'.context n) (facts_of (b'.context n).at)) (sym e.1) (subst (λ (z : Context). AllSay g b' m z (facts_of z.at)) (sym (ctx n ∙ upd_other (upd b.context m y) i x n ne ∙ ap (upd b.context m y) e.1 ∙ upd_same b.context m y)) f))
        | inr e ↦ inl (ctx n ∙ upd_other (upd b.context m y) i x n ne ∙ upd_other b.context m y n e.1)
      ]

module _ (g : Programs) (b : Board) (h : PlacesHold g b) where
  facts_at : (i : ℕ) (p : At) → (b.context i).at ≡ p → AllSay g b i (b.context i) (facts_of p)
  facts_at i p at = subst (λ (q : At). AllSay g b i (b.context i) (facts_of q)) at (h i)

  send_turns : (c : SendCall) (p : SendAt) (r : Response) → (b.context c.caller.number).at ≡ InSend c p → Supports b c.caller.number → Answers b (send.ask_of c (b.context c.caller.number).own p) r → PlacesHold g (send_board g b c.caller.number (b.context c.caller.number) c p r)
  send_turns c p r at s an = one_moved g b c.caller.number _ (send_context (b.context c.caller.number) c p r (hand_of b (b.queue c.to.number))) (there_is b c.caller.number (InSend c p) at (λ a. elim a [ inl e ↦ cc | inr e ↦ cc ])) (λ n. refl) (send_goes g b c p r at s an (facts_at c.caller.number (InSend c p) at)) h

  receive_turns : (c : ReceiveCall) (p : ReceiveAt) (r : Response) → (b.context c.caller.number).at ≡ InReceive c p → Supports b c.caller.number → Answers b (receive.ask_of c (b.context c.caller.number).own p) r → PlacesHold g (receive_board g b c.caller.number (b.context c.caller.number) c p r)
  receive_turns c p r at s an = one_moved g b c.caller.number _ (receive_context (b.context c.caller.number) c p r (hand_of b (b.queue c.caller.number))) (there_is b c.caller.number (InReceive c p) at (λ a. elim a [ inl e ↦ cc | inr e ↦ cc ])) (λ n. refl) (receive_goes g b c p r s an (facts_at c.caller.number (InReceive c p) at)) h

  module _ (c : CreateCall) where
    abbrev created : CreateAt → Response → Context
    created p r = create_context (b.context c.caller.number) c p r (hand_of b [])

    abbrev Created : CreateAt → Response → Type 0
    Created p r = PlacesHold g (create_board g b c.caller.number (b.context c.caller.number) c p r)

    create_moved : (p : CreateAt) (r : Response) → (IsAway (b.context c.caller.number).at → ⊥) → AllSay g b c.caller.number (b.context c.caller.number) (facts_of (InCreate c p)) → PlaceStep g b c.caller.number (created p r) (create_board g b c.caller.number (b.context c.caller.number) c p r) → Created p r
    create_moved (create.Locked (create_locked.PlaceContext id)) asks.Placed there f step = two_moved g b c.caller.number _ (created (create.Locked (create_locked.PlaceContext id)) asks.Placed) (new_context g c id Coming) id.number there (λ n. refl) f.0 tt step h
    create_moved (create.Locked (create_locked.CommitCreate id)) asks.Won there f step = two_moved g b c.caller.number _ (created (create.Locked (create_locked.CommitCreate id)) asks.Won) (new_context g c id (Alone (location.Between None))) id.number there (λ n. refl) f.0 (made_starts g b (b.context c.caller.number) c id f) step h
    create_moved p r there f step = one_moved g b c.caller.number _ (created p r) there (λ n. refl) step h

    create_turns : (p : CreateAt) (r : Response) → (b.context c.caller.number).at ≡ InCreate c p → Supports b c.caller.number → Answers b (create.ask_of c (b.context c.caller.number).own p) r → Created p r
    create_turns p r at s an = create_moved p r (there_is b c.caller.number (InCreate c p) at (λ a. elim a [ inl e ↦ cc | inr e ↦ cc ])) (facts_at c.caller.number (InCreate c p) at) (create_goes g b c p r at s an (facts_at c.caller.number (InCreate c p) at))

  module _ (c : DestroyCall) where
    abbrev destroyed : DestroyAt → Response → Context
    destroyed p r = destroy_context (b.context c.caller.number) c p r (hand_of b (b.queue (destroy_number c p)))

    abbrev Destroyed : DestroyAt → Response → Type 0
    Destroyed p r = PlacesHold g (destroy_board g b c.caller.number (b.context c.caller.number) c p r)

    destroy_moved : (p : DestroyAt) (r : Response) → (IsAway (b.context c.caller.number).at → ⊥) → AllSay g b c.caller.number (b.context c.caller.number) (facts_of (InDestroy c p)) → PlaceStep g b c.caller.number (destroyed p r) (destroy_board g b c.caller.number (b.context c.caller.number) c p r) → Destroyed p r
    destroy_moved (destroy.Locked destroy_locked.RemoveContext) asks.Removed there f step = two_moved g b c.caller.number _ (destroyed (destroy.Locked destroy_locked.RemoveContext) asks.Removed) (record (b.context c.who.number) { at = Nowhere }) c.who.number there (λ n. refl) f.1.0 tt step h
    destroy_moved p r there f step = one_moved g b c.caller.number _ (destroyed p r) there (λ n. refl) step h

    destroy_turns : (p : DestroyAt) (r : Response) → (b.context c.caller.number).at ≡ InDestroy c p → Supports b c.caller.number → Answers b (destroy.ask_of c (b.context c.caller.number).own p) r → Destroyed p r
    destroy_turns p r at s an = destroy_moved p r (there_is b c.caller.number (InDestroy c p) at (λ a. elim a [ inl e ↦ cc | inr e ↦ cc ])) (facts_at c.caller.number (InDestroy c p) at) (destroy_goes g b c p r at s an (facts_at c.caller.number (InDestroy c p) at))

  -- one context's location alone changes
  rests : (i : ℕ) (x : Context) → (IsAway (b.context i).at → ⊥) → PlaceStep g b i x (placed b i x) → PlacesHold g (placed b i x)
  rests i x there step = one_moved g b i (placed b i x) x there (λ n. refl) step h

  pub turn_keeps : (i : ℕ) (b' : Board) → Supports b i → Turn g b i b' → PlacesHold g b'
  turn_keeps i _ s (sends c p r at an) =
      subst (λ (n : ℕ). (b.context n).at ≡ InSend c p → Supports b n → Answers b (send.ask_of c (b.context n).own p) r → PlacesHold g (send_board g b n (b.context n) c p r)) (send_me g b i (b.context i) c p (facts_at i (InSend c p) at)) (send_turns c p r) at s an
  turn_keeps i _ s (receives c p r at an) =
      subst (λ (n : ℕ). (b.context n).at ≡ InReceive c p → Supports b n → Answers b (receive.ask_of c (b.context n).own p) r → PlacesHold g (receive_board g b n (b.context n) c p r)) (receive_me g b i (b.context i) c p (facts_at i (InReceive c p) at)) (receive_turns c p r) at s an
  turn_keeps i _ s (creates c p r at an) =
      subst (λ (n : ℕ). (b.context n).at ≡ InCreate c p → Supports b n → Answers b (create.ask_of c (b.context n).own p) r → PlacesHold g (create_board g b n (b.context n) c p r)) (create_me g b i (b.context i) c p (facts_at i (InCreate c p) at)) (create_turns c p r) at s an
  turn_keeps i _ s (destroys c p r at an) =
      subst (λ (n : ℕ). (b.context n).at ≡ InDestroy c p → Supports b n → Answers b (destroy.ask_of c (b.context n).own p) r → PlacesHold g (destroy_board g b n (b.context n) c p r)) (destroy_me g b i (b.context i) c p (facts_at i (InDestroy c p) at)) (destroy_turns c p r) at s an
  turn_keeps i _ s (goes_alone p r at can an) = one_moved g b i _ (alone_context (b.context i) p r) (there_is b i (Alone p) at (λ a. elim a [ inl e ↦ cc | inr e ↦ cc ])) (λ n. refl) (alone_goes g b i p r can an (facts_at i (Alone p) at)) h
  turn_keeps i _ s (begins l f at e) = rests i _ (there_is b i (Alone (location.Between l)) at (λ a. elim a [ inl e ↦ cc | inr e ↦ cc ])) (ok_begins g b i (b.context i) l (facts_at i (Alone (location.Between l)) at) f e)
  turn_keeps i _ s (turns_to_work l count at e) = rests i _ (there_is b i (Alone (location.Between l)) at (λ a. elim a [ inl e ↦ cc | inr e ↦ cc ])) (ok_work g b i (b.context i) l (facts_at i (Alone (location.Between l)) at) count e)
  turn_keeps i _ s (wakes at) = rests i _ (there_is b i (Alone location.Asleep) at (λ a. elim a [ inl e ↦ cc | inr e ↦ cc ])) (ok_woken g b i (b.context i) (facts_at i (Alone location.Asleep) at))
  turn_keeps i _ s (switches c p r at going an) = one_moved g b i _ (switch_context (b.context i) c p r (hand_of b [])) (there_is b i (InSwitch c p) at (λ a. elim a [ inl e ↦ cc | inr e ↦ cc ])) (λ n. refl) (switch_goes g b i c p r going an (facts_at i (InSwitch c p) at)) h
  turn_keeps i _ s (begins_switch c at) = rests i _ (there_is b i Resting at (λ a. elim a [ inl e ↦ cc | inr e ↦ cc ])) (ok_switch_begins g b i (b.context i) c)
  turn_keeps i _ s (ends_switch c q at) = rests i _ (there_is b i (InSwitch c (switch.Finished q)) at (λ a. elim a [ inl e ↦ cc | inr e ↦ cc ])) (ok_switch_ends g b i (b.context i) c)

-- What a turn changes of what is seen is permitted.
module _ (g : Programs) (b : Board) (h : PlacesHold g b) where
  abbrev pub Changes : ℕ → Board → Type 0
  Changes i b' = (t : ℕ) → Change b i t (b'.seen t)

  pub turn_changes : (i : ℕ) (b' : Board) → Supports b i → Turn g b i b' → Changes i b'
  turn_changes i _ s (sends c p r at an) =
      subst (λ (n : ℕ). (b.context n).at ≡ InSend c p → Supports b n → Answers b (send.ask_of c (b.context n).own p) r → Changes n (send_board g b n (b.context n) c p r)) (send_me g b i (b.context i) c p (facts_at g b h i (InSend c p) at)) (λ at s an. (send_goes g b c p r at s an (facts_at g b h c.caller.number (InSend c p) at)).changes) at s an
  turn_changes i _ s (receives c p r at an) =
      subst (λ (n : ℕ). (b.context n).at ≡ InReceive c p → Supports b n → Answers b (receive.ask_of c (b.context n).own p) r → Changes n (receive_board g b n (b.context n) c p r)) (receive_me g b i (b.context i) c p (facts_at g b h i (InReceive c p) at)) (λ at s an. (receive_goes g b c p r s an (facts_at g b h c.caller.number (InReceive c p) at)).changes) at s an
  turn_changes i _ s (creates c p r at an) =
      subst (λ (n : ℕ). (b.context n).at ≡ InCreate c p → Supports b n → Answers b (create.ask_of c (b.context n).own p) r → Changes n (create_board g b n (b.context n) c p r)) (create_me g b i (b.context i) c p (facts_at g b h i (InCreate c p) at)) (λ at s an. (create_goes g b c p r at s an (facts_at g b h c.caller.number (InCreate c p) at)).changes) at s an
  turn_changes i _ s (destroys c p r at an) =
      subst (λ (n : ℕ). (b.context n).at ≡ InDestroy c p → Supports b n → Answers b (destroy.ask_of c (b.context n).own p) r → Changes n (destroy_board g b n (b.context n) c p r)) (destroy_me g b i (b.context i) c p (facts_at g b h i (InDestroy c p) at)) (λ at s an. (destroy_goes g b c p r at s an (facts_at g b h c.caller.number (InDestroy c p) at)).changes) at s an
  turn_changes i _ s (goes_alone p r at can an) = (alone_goes g b i p r can an (facts_at g b h i (Alone p) at)).changes
  turn_changes i _ s (begins l f at e) = λ t. same t
  turn_changes i _ s (turns_to_work l count at e) = λ t. same t
  turn_changes i _ s (wakes at) = λ t. same t
  turn_changes i _ s (switches c p r at going an) = λ t. same t
  turn_changes i _ s (begins_switch c at) = λ t. same t
  turn_changes i _ s (ends_switch c q at) = λ t. same t

-- What a turn leaves of what others own.
module _ (g : Programs) (b : Board) (h : PlacesHold g b) where
  abbrev pub LeavesOthers : ℕ → Board → Type 0
  LeavesOthers i b' = (k : ℕ) → k ≢ i → Leaves b k b'

  pub turn_leaves : (i : ℕ) (b' : Board) → Supports b i → Turn g b i b' → LeavesOthers i b'
  turn_leaves i _ s (sends c p r at an) =
      subst (λ (n : ℕ). (b.context n).at ≡ InSend c p → Supports b n → Answers b (send.ask_of c (b.context n).own p) r → LeavesOthers n (send_board g b n (b.context n) c p r)) (send_me g b i (b.context i) c p (facts_at g b h i (InSend c p) at)) (λ at s an. (send_goes g b c p r at s an (facts_at g b h c.caller.number (InSend c p) at)).others) at s an
  turn_leaves i _ s (receives c p r at an) =
      subst (λ (n : ℕ). (b.context n).at ≡ InReceive c p → Supports b n → Answers b (receive.ask_of c (b.context n).own p) r → LeavesOthers n (receive_board g b n (b.context n) c p r)) (receive_me g b i (b.context i) c p (facts_at g b h i (InReceive c p) at)) (λ at s an. (receive_goes g b c p r s an (facts_at g b h c.caller.number (InReceive c p) at)).others) at s an
  turn_leaves i _ s (creates c p r at an) =
      subst (λ (n : ℕ). (b.context n).at ≡ InCreate c p → Supports b n → Answers b (create.ask_of c (b.context n).own p) r → LeavesOthers n (create_board g b n (b.context n) c p r)) (create_me g b i (b.context i) c p (facts_at g b h i (InCreate c p) at)) (λ at s an. (create_goes g b c p r at s an (facts_at g b h c.caller.number (InCreate c p) at)).others) at s an
  turn_leaves i _ s (destroys c p r at an) =
      subst (λ (n : ℕ). (b.context n).at ≡ InDestroy c p → Supports b n → Answers b (destroy.ask_of c (b.context n).own p) r → LeavesOthers n (destroy_board g b n (b.context n) c p r)) (destroy_me g b i (b.context i) c p (facts_at g b h i (InDestroy c p) at)) (λ at s an. (destroy_goes g b c p r at s an (facts_at g b h c.caller.number (InDestroy c p) at)).others) at s an
  turn_leaves i _ s (goes_alone p r at can an) = (alone_goes g b i p r can an (facts_at g b h i (Alone p) at)).others
  turn_leaves i _ s (begins l f at e) = λ k ne. record { owner = λ t o. o; table = λ o. o; ready = λ o. o; queue = λ t o. refl; numbers = λ o. refl }
  turn_leaves i _ s (turns_to_work l count at e) = λ k ne. record { owner = λ t o. o; table = λ o. o; ready = λ o. o; queue = λ t o. refl; numbers = λ o. refl }
  turn_leaves i _ s (wakes at) = λ k ne. record { owner = λ t o. o; table = λ o. o; ready = λ o. o; queue = λ t o. refl; numbers = λ o. refl }
  turn_leaves i _ s (switches c p r at going an) = (switch_goes g b i c p r going an (facts_at g b h i (InSwitch c p) at)).others
  turn_leaves i _ s (begins_switch c at) = λ k ne. record { owner = λ t o. o; table = λ o. o; ready = λ o. o; queue = λ t o. refl; numbers = λ o. refl }
  turn_leaves i _ s (ends_switch c q at) = λ k ne. record { owner = λ t o. o; table = λ o. o; ready = λ o. o; queue = λ t o. refl; numbers = λ o. refl }
