-- A step that is held up leaves the board as it is.
use Rattle.std.proofs.Common.{◌≡◌, ℕ, refl, sym, ap, ◌∙◌, subst, Option, Some, None, arith, inl, inr}
use Rattle.std.proofs.lemmas.Bool.Decides.{eqb_tells}
use Rattle.std.proofs.lemmas.Grind.{common_steps}
use Rattle.k_ids.specs.declared.threads.ThreadId.{ThreadId}
use Rattle.k_model.specs.Maps.{upd}
use Rattle.k_model.proofs.Maps.{upd_other, upd_same}
use Rattle.k_locks.specs.declared.locks.Lock.{Lock}
use Rattle.k_locks.specs.Asks.{Ask, Response, Want, want_for, want_of}
use Rattle.k_locks.specs.Asks as asks
use Rattle.k_locks.specs.Locks.{lowest_held}
use Rattle.k_ipc.specs.declared.send.SendCall.{SendCall}
use Rattle.k_ipc.specs.declared.send.SendLocked.TheVariants as send_locked
use Rattle.k_ipc.specs.declared.send.SendOutside.TheVariants as send_outside
use Rattle.k_ipc.specs.SendTable.{SendAt}
use Rattle.k_ipc.specs.SendTable as send
use Rattle.k_ipc.specs.declared.receive.ReceiveCall.{ReceiveCall}
use Rattle.k_ipc.specs.declared.receive.ReceiveLocked.TheVariants as receive_locked
use Rattle.k_ipc.specs.declared.receive.ReceiveOutside.TheVariants as receive_outside
use Rattle.k_ipc.specs.ReceiveTable.{ReceiveAt}
use Rattle.k_ipc.specs.ReceiveTable as receive
use Rattle.k_threads.specs.declared.create.CreateCall.{CreateCall}
use Rattle.k_threads.specs.declared.create.CreateLocked.TheVariants as create_locked
use Rattle.k_threads.specs.declared.create.CreateOutside.TheVariants as create_outside
use Rattle.k_threads.specs.CreateTable.{CreateAt}
use Rattle.k_threads.specs.CreateTable as create
use Rattle.k_threads.specs.declared.destroy.DestroyCall.{DestroyCall}
use Rattle.k_threads.specs.declared.destroy.DestroyLocked.TheVariants as destroy_locked
use Rattle.k_threads.specs.declared.destroy.DestroyOutside.TheVariants as destroy_outside
use Rattle.k_threads.specs.declared.destroy.DestroyVictim.TheVariants as victim
use Rattle.k_threads.specs.declared.destroy.DestroyVisit.TheVariants as visit
use Rattle.k_threads.specs.DestroyTable.{DestroyAt}
use Rattle.k_threads.specs.DestroyTable as destroy
use Rattle.k_switch.specs.declared.switch.SwitchCall.{SwitchCall}
use Rattle.k_switch.specs.Switches.{SwitchAt}
use Rattle.k_switch.specs.Switches as switch
use Rattle.k_board.specs.Words.{Programs}
use Rattle.k_board.specs.Boards.{At, Alone, InSend, InReceive, InCreate, InDestroy, InSwitch, Resting}
use Rattle.k_board.specs.Boards.{Coming, Nowhere, Board, Context, owner_of}
use Rattle.k_board.specs.Steps.{create_board, destroy_board, placed, receive_board, send_board, switch_board}
use Rattle.k_good.specs.Locks.{locks_at}
use Rattle.k_sections.specs.Situations.{holder_of, itself, want_at}
use Rattle.k_sections.specs.Stepping.{acquired, board_after, removed_by, response_to}
use Rattle.k_sections.proofs.Answered.{holder_is, some_is}

pub own_there : {A : Type 0} (f : ℕ → A) (n : ℕ) → upd f n (f n) ≡ f
own_there f n = λ d u. point u d
  where
    point : (u : ℕ) → upd f n (f n) u ≡ f u
    point u = elim (eqb_tells u n) [
      | inl e ↦ ap (upd f n (f n)) e.1 ∙ upd_same f n (f n) ∙ ap f (sym e.1)
      | inr e ↦ upd_other f n (f n) u e.1
    ]

-- a context that is put where it is
pub same_there : (b : Board) (i : ℕ) (p : At) → (b.context i).at ≡ p → placed b i (record (b.context i) { at = p }) ≡ b
same_there b i p e =
    ap (λ (q : At). placed b i (record (b.context i) { at = q })) (sym e)
    ∙ ap (λ (f : ℕ → Context). record b { context = f }) (own_there b.context i)

module _ (g : Programs) (b : Board) (i o : ℕ) where
  abbrev X : Context
  X = b.context i

  send_still : (c : SendCall) (p : SendAt) (w : Want) → X.at ≡ InSend c p → want_of (send.ask_of c X.own p) ≡ Some w →
      send_board g b i X c p (asks.Owned o) ≡ b
  send_still c (send.Outside send_outside.AcquireReceiver) w at e = same_there b i _ at
  send_still c (send.Locked (send_locked.AcquireReady priority)) w at e = same_there b i _ at
  send_still c p w at e = absurd (grind (arith, common_steps, e))

  receive_still : (c : ReceiveCall) (p : ReceiveAt) (w : Want) → X.at ≡ InReceive c p →
      want_of (receive.ask_of c X.own p) ≡ Some w → receive_board g b i X c p (asks.Owned o) ≡ b
  receive_still c (receive.Outside receive_outside.AcquireOwn) w at e = same_there b i _ at
  receive_still c (receive.Locked (receive_locked.AcquireReady entry)) w at e = same_there b i _ at
  receive_still c p w at e = absurd (grind (arith, common_steps, e))

  create_still : (c : CreateCall) (p : CreateAt) (w : Want) → X.at ≡ InCreate c p →
      want_of (create.ask_of c X.own p) ≡ Some w → create_board g b i X c p (asks.Owned o) ≡ b
  create_still c (create.Outside create_outside.AcquireTable) w at e = same_there b i _ at
  create_still c (create.Locked (create_locked.AcquireReady id)) w at e = same_there b i _ at
  create_still c p w at e = absurd (grind (arith, common_steps, e))

  destroy_still : (c : DestroyCall) (p : DestroyAt) (l : Lock) → X.at ≡ InDestroy c p →
      destroy.ask_of c X.own p ≡ asks.Acquire l → destroy_board g b i X c p (asks.Owned o) ≡ b
  destroy_still c (destroy.Outside destroy_outside.AcquireTable) l at e = same_there b i _ at
  destroy_still c (destroy.Locked destroy_locked.AcquireVictimLock) l at e = same_there b i _ at
  destroy_still c (destroy.Locked destroy_locked.AcquireReadyForVictim) l at e = same_there b i _ at
  destroy_still c (destroy.Locked (destroy_locked.AcquireVisitedLock visited)) l at e = same_there b i _ at
  destroy_still c (destroy.Victim (victim.AcquireReadyForSender sender seen)) l at e = same_there b i _ at
  destroy_still c (destroy.Visit (visit.AcquireReadyForVisited visited seen)) l at e = same_there b i _ at
  destroy_still c p l at e = absurd (grind (arith, common_steps, e))

  switch_still : (c : SwitchCall) (p : SwitchAt) (w : Want) → X.at ≡ InSwitch c p → want_of (switch.ask_of c p) ≡ Some w →
      switch_board b i X c p (asks.Owned o) ≡ b
  switch_still c switch.AcquireReady w at e = same_there b i _ at
  switch_still c p w at e = absurd (grind (arith, common_steps, e))

  -- the lock that is wanted
  owned_lock : (l : Lock) (w : Want) → want_of (asks.Acquire l) ≡ Some w → holder_of b w ≡ Some o → owner_of b l ≡ Some o
  owned_lock l w e h = sym (holder_is b l) ∙ ap (holder_of b) (some_is e) ∙ h

  -- what is answered where it is held up
  held_acquire : (l : Lock) (w : Want) → want_of (asks.Acquire l) ≡ Some w → holder_of b w ≡ Some o →
      response_to b (asks.Acquire l) ≡ asks.Owned o
  held_acquire l w e h = ap acquired (owned_lock l w e h)

  not_none : (n : ℕ) (q : Option Lock) → itself n q ≡ Some o → removed_by q ≡ asks.Kept
  not_none n None e = absurd cc
  not_none n (Some l) e = refl

  held_remove : (n : ℕ) (w : Want) → Some (asks.Context n) ≡ Some w → holder_of b w ≡ Some o →
      removed_by (lowest_held (locks_at (b.context n).at)) ≡ asks.Kept
  held_remove n w e h = not_none n (lowest_held (locks_at (b.context n).at)) (ap (holder_of b) (some_is e) ∙ h)

  -- by what it asks for
  by_want : (P : Response → Type 0) (a : Ask) (w : Want) → want_of a ≡ Some w → holder_of b w ≡ Some o →
      ((l : Lock) → a ≡ asks.Acquire l → P (asks.Owned o)) → ((id : ThreadId) → a ≡ asks.Remove id → P asks.Kept) →
      P (response_to b a)
  by_want P (asks.Acquire l) w e h lock gone = subst P (sym (held_acquire l w e h)) (lock l refl)
  by_want P (asks.Remove id) w e h lock gone = subst P (sym (held_remove id.number w e h)) (gone id refl)
  by_want P (asks.Load n) w e h lock gone = absurd cc
  by_want P (asks.LoadMail n) w e h lock gone = absurd cc
  by_want P (asks.Post n x) w e h lock gone = absurd cc
  by_want P (asks.Exchange n old new) w e h lock gone = absurd cc
  by_want P (asks.Release l) w e h lock gone = absurd cc
  by_want P (asks.Place id program priority) w e h lock gone = absurd cc

  pub removes_is : (c : DestroyCall) (p : DestroyAt) (id : ThreadId) → destroy.ask_of c X.own p ≡ asks.Remove id →
      p ≡ destroy.Locked destroy_locked.RemoveContext
  removes_is c (destroy.Locked destroy_locked.RemoveContext) id e = refl
  removes_is c p id e = absurd (grind (arith, common_steps, e))

  pub kept_still : (c : DestroyCall) (p : DestroyAt) (id : ThreadId) → X.at ≡ InDestroy c p →
      destroy.ask_of c X.own p ≡ asks.Remove id → destroy_board g b i X c p asks.Kept ≡ b
  kept_still c p id at e =
      let q = removes_is c p id e in
      subst (λ (z : DestroyAt). destroy_board g b i X c z asks.Kept ≡ b) (sym q)
      (same_there b i _ (at ∙ ap (InDestroy c) q))

  -- no other section removes a context
  send_keeps : (c : SendCall) (p : SendAt) (id : ThreadId) → send.ask_of c X.own p ≡ asks.Remove id → ⊥
  send_keeps c p id e = grind (arith, common_steps, e)

  receive_keeps : (c : ReceiveCall) (p : ReceiveAt) (id : ThreadId) → receive.ask_of c X.own p ≡ asks.Remove id → ⊥
  receive_keeps c p id e = grind (arith, common_steps, e)

  create_keeps : (c : CreateCall) (p : CreateAt) (id : ThreadId) → create.ask_of c X.own p ≡ asks.Remove id → ⊥
  create_keeps c p id e = grind (arith, common_steps, e)

  switch_keeps : (c : SwitchCall) (p : SwitchAt) (id : ThreadId) → switch.ask_of c p ≡ asks.Remove id → ⊥
  switch_keeps c p id e = grind (arith, common_steps, e)

  switch_goes : (c : SwitchCall) (p : SwitchAt) (w : Want) → want_of (switch.ask_of c p) ≡ Some w →
      p ≡ switch.AcquireReady
  switch_goes c switch.AcquireReady w e = refl
  switch_goes c p w e = absurd (grind (arith, common_steps, e))

  -- the board after a step that is held up
  still_at : (calls : Board → ℕ → SwitchCall) (p : At) (w : Want) → X.at ≡ p → want_at X.own p ≡ Some w →
      holder_of b w ≡ Some o → board_after g calls b i p ≡ b
  still_at calls (InSend c p) w at e h =
      by_want (λ r. send_board g b i X c p r ≡ b) (send.ask_of c X.own p) w e h
      (λ l q. send_still c p w at e) (λ id q. absurd (send_keeps c p id q))
  still_at calls (InReceive c p) w at e h =
      by_want (λ r. receive_board g b i X c p r ≡ b) (receive.ask_of c X.own p) w e h
      (λ l q. receive_still c p w at e) (λ id q. absurd (receive_keeps c p id q))
  still_at calls (InCreate c p) w at e h =
      by_want (λ r. create_board g b i X c p r ≡ b) (create.ask_of c X.own p) w e h
      (λ l q. create_still c p w at e) (λ id q. absurd (create_keeps c p id q))
  still_at calls (InDestroy c p) w at e h =
      by_want (λ r. destroy_board g b i X c p r ≡ b) (destroy.ask_of c X.own p) w e h
      (λ l q. destroy_still c p l at q) (λ id q. kept_still c p id at q)
  still_at calls (InSwitch c p) w at e h =
      let ready = switch_goes c p w e in
      subst (λ (z : SwitchAt). board_after g calls b i (InSwitch c z) ≡ b) (sym ready)
      (by_want (λ r. switch_board b i X c switch.AcquireReady r ≡ b) (switch.ask_of c switch.AcquireReady) w
      (subst (λ (z : SwitchAt). want_of (switch.ask_of c z) ≡ Some w) ready e) h
      (λ l q. switch_still c switch.AcquireReady w (at ∙ ap (InSwitch c) ready)
      (subst (λ (z : SwitchAt). want_of (switch.ask_of c z) ≡ Some w) ready e))
      (λ id q. absurd (switch_keeps c switch.AcquireReady id q)))
  still_at calls (Alone p) w at e h = absurd cc
  still_at calls Resting w at e h = absurd cc
  still_at calls Coming w at e h = absurd cc
  still_at calls Nowhere w at e h = absurd cc

  -- A step that is held up changes nothing on the board.
  pub still : (calls : Board → ℕ → SwitchCall) (w : Want) → want_at X.own X.at ≡ Some w → holder_of b w ≡ Some o →
      board_after g calls b i X.at ≡ b
  still calls w e h = still_at calls X.at w refl e h
