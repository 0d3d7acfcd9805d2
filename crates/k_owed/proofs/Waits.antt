-- Where the same step has to be made again, nothing changes of what is owed.
use Rattle.std.proofs.Common.{◌≡◌, ◌≢◌, ℕ, ◌+◌, ◌*◌, Bool, true, false, refl, sym, ap, ◌∙◌, subst, arith}
use Rattle.std.proofs.Common.{Option, Some, None, List, [], inl, inr}
use Rattle.std.proofs.lemmas.Bool.{false≢true}
use Rattle.std.proofs.lemmas.Bool.Decides.{eqb_tells}
use Rattle.k_ids.specs.declared.threads.ThreadId.{ThreadId}
use Rattle.k_model.specs.Maps.{upd}
use Rattle.k_model.proofs.Maps.{upd_same, upd_other}
use Rattle.k_senders.specs.declared.entries.SenderEntry.{SenderEntry}
use Rattle.k_locks.specs.Asks.{Response}
use Rattle.k_locks.specs.Asks as asks
use Rattle.k_locks.proofs.Responses.{Again, again_by}
use Rattle.k_script.specs.Plays.{Position}
use Rattle.k_room.specs.Room.{sum_below}
use Rattle.k_ipc.specs.declared.send.SendCall.{SendCall}
use Rattle.k_ipc.specs.declared.send.SendOutside.TheVariants as send_outside
use Rattle.k_ipc.specs.declared.send.SendLocked.TheVariants as send_locked
use Rattle.k_ipc.specs.declared.send.SendPushing.TheVariants as send_pushing
use Rattle.k_ipc.specs.SendTable.{SendAt}
use Rattle.k_ipc.specs.SendTable as send
use Rattle.k_ipc.specs.declared.receive.ReceiveCall.{ReceiveCall}
use Rattle.k_ipc.specs.declared.receive.ReceiveOutside.TheVariants as receive_outside
use Rattle.k_ipc.specs.declared.receive.ReceiveLocked.TheVariants as receive_locked
use Rattle.k_ipc.specs.declared.receive.ReceivePushing.TheVariants as receive_pushing
use Rattle.k_ipc.specs.ReceiveTable.{ReceiveAt}
use Rattle.k_ipc.specs.ReceiveTable as receive
use Rattle.k_threads.specs.declared.create.CreateCall.{CreateCall}
use Rattle.k_threads.specs.declared.create.CreateOutside.TheVariants as create_outside
use Rattle.k_threads.specs.declared.create.CreateLocked.TheVariants as create_locked
use Rattle.k_threads.specs.CreateTable.{CreateAt}
use Rattle.k_threads.specs.CreateTable as create
use Rattle.k_threads.specs.declared.destroy.DestroyCall.{DestroyCall}
use Rattle.k_threads.specs.declared.destroy.DestroyOutside.TheVariants as destroy_outside
use Rattle.k_threads.specs.declared.destroy.DestroyLocked.TheVariants as destroy_locked
use Rattle.k_threads.specs.declared.destroy.DestroyVictim.TheVariants as victim
use Rattle.k_threads.specs.declared.destroy.DestroyVisit.TheVariants as visit
use Rattle.k_threads.specs.declared.destroy.DestroyPushing.TheVariants as destroy_pushing
use Rattle.k_threads.specs.DestroyTable.{DestroyAt}
use Rattle.k_threads.specs.DestroyTable as destroy
use Rattle.k_caller.specs.declared.thread.ThreadLocation.{ThreadLocation}
use Rattle.k_caller.specs.declared.thread.ThreadLocation.TheVariants as location
use Rattle.k_caller.specs.Waits as alone
use Rattle.k_switch.specs.declared.switch.SwitchCall.{SwitchCall}
use Rattle.k_switch.specs.declared.switch.SwitchLocked.TheVariants as switch_locked
use Rattle.k_switch.specs.Switches.{SwitchAt}
use Rattle.k_switch.specs.Switches as switch
use Rattle.k_board.specs.Words.{Programs}
use Rattle.k_board.specs.Boards.{Alone, InSend, InReceive, InCreate, InDestroy, InSwitch, Context, Board}
use Rattle.k_board.specs.Boards.{id_at}
use Rattle.k_board.specs.Steps.{alone_board, create_board, destroy_board, receive_board, send_board}
use Rattle.k_board.specs.Steps.{switch_board}
use Rattle.k_board.specs.Turns.{Turn, begins, begins_switch, creates, destroys, ends_switch, goes_alone}
use Rattle.k_board.specs.Turns.{receives, sends, switches, turns_to_work, wakes}
use Rattle.k_good.proofs.Owners.{suits_is}
use Rattle.k_grants.specs.Granted.{is_again}
use Rattle.k_owed.specs.Owes.{owes, owes_of}
use Rattle.k_owed.specs.Owed.{entries_in, leave_owed, owed, owed_at, owed_by, steps_owed}
use Rattle.k_owed.proofs.Lowers.{SameWords, at_same}
use Rattle.k_owed.proofs.Sums.{sum_same}

pub record LeavesAll (b b' : Board) : Type 0 where
  pub size : b'.size ≡ b.size
  pub contexts : (j : ℕ) → b'.context j ≡ b.context j
  pub words : SameWords b b'
  pub queues : (j : ℕ) → b'.queue j ≡ b.queue j
  pub lists : b'.lists ≡ b.lists

pub owed_stays : (b b' : Board) (count : ℕ) → LeavesAll b b' → owed b' count ≡ owed b count
owed_stays b b' count l = sum_same (owed_by b) (owed_by b') count each
  where
    each : (t : ℕ) → owed_by b' t ≡ owed_by b t
    each t =
        let w = ap leave_owed (l.words t) in
        let c = ap (λ (x : Context). owed_at x.at) (l.contexts t) in
        omega (arith, w, c)

pub steps_stay : (work : Position → ℕ) (b b' : Board) (count : ℕ) → LeavesAll b b' →
    steps_owed work b' count ≡ steps_owed work b count
steps_stay work b b' count l =
    let s = sum_same (owes work b) (owes work b') count each in
    let n = ap (λ (ls : List (List ThreadId)). entries_in ls) (ap (λ r. r.lists) l.lists) in
    omega (arith, s, n)
  where
    each : (j : ℕ) → owes work b' j ≡ owes work b j
    each j = ap (owes_of work b' j) (l.contexts j)
        ∙ at_same work b b' j l.size l.words (b.context j).at (λ c q at held. l.queues j)

module _ (g : Programs) (b : Board) (i : ℕ) where
  abbrev x : Context
  x = b.context i

  all_stay : (y : Context) → y ≡ x → (j : ℕ) → upd b.context i y j ≡ b.context j
  all_stay y same j = elim (eqb_tells j i) [
    | inl e ↦ ap (upd b.context i y) e.1 ∙ upd_same b.context i y ∙ same ∙ ap b.context (sym e.1)
    | inr e ↦ upd_other b.context i y j e.1
  ]

  send_again : (c : SendCall) (p : SendAt) → x.at ≡ InSend c p →
      Again (send.ask_of c x.own p) (λ r. LeavesAll b (send_board g b i x c p r))
  send_again c (send.Outside send_outside.AcquireReceiver) at = λ owner. record {
    size = refl;
    contexts = all_stay _ (λ d. record x { at = sym at d });
    words = λ t. refl;
    queues = λ j. refl;
    lists = refl;
  }
  send_again c (send.Locked (send_locked.AcquireReady priority)) at = λ owner. record {
    size = refl;
    contexts = all_stay _ (λ d. record x { at = sym at d });
    words = λ t. refl;
    queues = λ j. refl;
    lists = refl;
  }
  send_again c (send.Pushing (send_pushing.PushReceiver priority)) at = tt
  send_again c p at = tt

  receive_again : (c : ReceiveCall) (p : ReceiveAt) → x.at ≡ InReceive c p →
      Again (receive.ask_of c x.own p) (λ r. LeavesAll b (receive_board g b i x c p r))
  receive_again c (receive.Outside receive_outside.AcquireOwn) at = λ owner. record {
    size = refl;
    contexts = all_stay _ (λ d. record x { at = sym at d });
    words = λ t. refl;
    queues = λ j. refl;
    lists = refl;
  }
  receive_again c (receive.Locked (receive_locked.AcquireReady e)) at = λ owner. record {
    size = refl;
    contexts = all_stay _ (λ d. record x { at = sym at d });
    words = λ t. refl;
    queues = λ j. refl;
    lists = refl;
  }
  receive_again c (receive.Pushing (receive_pushing.LoadFreed e)) at = tt
  receive_again c (receive.Pushing (receive_pushing.PushFreed e w)) at = tt
  receive_again c p at = tt

  create_again : (c : CreateCall) (p : CreateAt) → x.at ≡ InCreate c p →
      Again (create.ask_of c x.own p) (λ r. LeavesAll b (create_board g b i x c p r))
  create_again c (create.Outside create_outside.AcquireTable) at = λ owner. record {
    size = refl;
    contexts = all_stay _ (λ d. record x { at = sym at d });
    words = λ t. refl;
    queues = λ j. refl;
    lists = refl;
  }
  create_again c (create.Locked (create_locked.AcquireReady id)) at = λ owner. record {
    size = refl;
    contexts = all_stay _ (λ d. record x { at = sym at d });
    words = λ t. refl;
    queues = λ j. refl;
    lists = refl;
  }
  create_again c p at = tt

  abbrev Destroyed : DestroyCall → DestroyAt → Response → Type 0
  Destroyed c p r = LeavesAll b (destroy_board g b i x c p r)

  destroy_again : (c : DestroyCall) (p : DestroyAt) → x.at ≡ InDestroy c p →
      Again (destroy.ask_of c x.own p) (Destroyed c p)
  destroy_again c (destroy.Outside destroy_outside.AcquireTable) at = λ owner. record {
    size = refl;
    contexts = all_stay _ (λ d. record x { at = sym at d });
    words = λ t. refl;
    queues = λ j. refl;
    lists = refl;
  }
  destroy_again c (destroy.Locked destroy_locked.AcquireVictimLock) at = λ owner. record {
    size = refl;
    contexts = all_stay _ (λ d. record x { at = sym at d });
    words = λ t. refl;
    queues = λ j. refl;
    lists = refl;
  }
  destroy_again c (destroy.Victim (victim.AcquireReadyForSender sender seen)) at = λ owner. record {
    size = refl;
    contexts = all_stay _ (λ d. record x { at = sym at d });
    words = λ t. refl;
    queues = λ j. refl;
    lists = refl;
  }
  destroy_again c (destroy.Locked destroy_locked.AcquireReadyForVictim) at = λ owner. record {
    size = refl;
    contexts = all_stay _ (λ d. record x { at = sym at d });
    words = λ t. refl;
    queues = λ j. refl;
    lists = refl;
  }
  destroy_again c (destroy.Locked destroy_locked.RemoveContext) at = record {
    size = refl;
    contexts = all_stay _ (λ d. record x { at = sym at d });
    words = λ t. refl;
    queues = λ j. refl;
    lists = refl;
  }
  destroy_again c (destroy.Locked (destroy_locked.AcquireVisitedLock visited)) at = λ owner. record {
    size = refl;
    contexts = all_stay _ (λ d. record x { at = sym at d });
    words = λ t. refl;
    queues = λ j. refl;
    lists = refl;
  }
  destroy_again c (destroy.Visit (visit.AcquireReadyForVisited visited seen)) at = λ owner. record {
    size = refl;
    contexts = all_stay _ (λ d. record x { at = sym at d });
    words = λ t. refl;
    queues = λ j. refl;
    lists = refl;
  }
  destroy_again c (destroy.Pushing (destroy_pushing.PushSender sender seen)) at = tt
  destroy_again c (destroy.Pushing (destroy_pushing.PushVisited visited seen)) at = tt
  destroy_again c p at = tt

  switch_again : (c : SwitchCall) (p : SwitchAt) → x.at ≡ InSwitch c p →
      Again (switch.ask_of c p) (λ r. LeavesAll b (switch_board b i x c p r))
  switch_again c switch.AcquireReady at = λ owner. record {
    size = refl;
    contexts = all_stay _ (λ d. record x { at = sym at d });
    words = λ t. refl;
    queues = λ j. refl;
    lists = refl;
  }
  switch_again c (switch.Locked (switch_locked.LoadGoal goal)) at = tt
  switch_again c (switch.Locked (switch_locked.LoadStart back number)) at = tt
  switch_again c (switch.Locked (switch_locked.ReleaseReady back started)) at = tt
  switch_again c p at = tt

  -- outside of any section nothing is made again
  alone_again : (p : ThreadLocation) (P : Response → Type 0) → Again (alone.ask_of (id_at b i) x.own p) P
  alone_again location.FallAsleep P = tt
  alone_again location.LookAgain P = tt
  alone_again (location.LoadMail from) P = tt
  alone_again (location.Work count) P = tt
  alone_again location.CommitEnd P = tt
  alone_again p P = tt

  pub again_leaves : (b' : Board) (t : Turn g b i b') → is_again g b i b' t ≡ true → LeavesAll b b'
  again_leaves _ (sends c p r at an) again =
      let ask = send.ask_of c x.own p in
      let P : Response → Type 0 = λ q. LeavesAll b (send_board g b i x c p q) in
      again_by ask r P (suits_is b ask r an) again (send_again c p at)
  again_leaves _ (receives c p r at an) again =
      let ask = receive.ask_of c x.own p in
      let P : Response → Type 0 = λ q. LeavesAll b (receive_board g b i x c p q) in
      again_by ask r P (suits_is b ask r an) again (receive_again c p at)
  again_leaves _ (creates c p r at an) again =
      let ask = create.ask_of c x.own p in
      let P : Response → Type 0 = λ q. LeavesAll b (create_board g b i x c p q) in
      again_by ask r P (suits_is b ask r an) again (create_again c p at)
  again_leaves _ (destroys c p r at an) again =
      let ask = destroy.ask_of c x.own p in
      again_by ask r (Destroyed c p) (suits_is b ask r an) again (destroy_again c p at)
  again_leaves _ (goes_alone p r at can an) again =
      let ask = alone.ask_of (id_at b i) x.own p in
      let P : Response → Type 0 = λ q. LeavesAll b (alone_board g b i x p q) in
      again_by ask r P (suits_is b ask r an) again (alone_again p P)
  again_leaves _ (begins l f at e) again = absurd (false≢true again)
  again_leaves _ (turns_to_work l count at e) again = absurd (false≢true again)
  again_leaves _ (wakes at) again = absurd (false≢true again)
  again_leaves _ (switches c p r at going an) again =
      let ask = switch.ask_of c p in
      let P : Response → Type 0 = λ q. LeavesAll b (switch_board b i x c p q) in
      again_by ask r P (suits_is b ask r an) again (switch_again c p at)
  again_leaves _ (begins_switch c at) again = absurd (false≢true again)
  again_leaves _ (ends_switch c s at) again = absurd (false≢true again)
