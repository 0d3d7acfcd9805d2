-- The step of each location, for each response that it can have: the changes are permitted, and the facts of the next location hold.
use Rattle.std.proofs.Common.{◌≡◌, ◌≢◌, ℕ, Bool, true, false, refl, sym, ap, ◌∙◌, subst, Some, None, List, arith}
use Rattle.std.proofs.lemmas.Bool.{and_parts}
use Rattle.std.proofs.Common.{eqb}
use Rattle.k_ipc.specs.Words.{sends_to}
use Rattle.k_ids.specs.declared.threads.ThreadId.{ThreadId}
use Rattle.k_ids.specs.declared.state_word.State.{State}
use Rattle.k_ids.specs.declared.state_word.State.TheVariants as state
use Rattle.k_ids.specs.declared.state_word.StateWord.{StateWord}
use Rattle.k_senders.specs.declared.entries.SenderEntry.{SenderEntry}
use Rattle.k_senders.specs.Entries.{number_of, sender_of}
use Rattle.k_locks.specs.Asks.{Response}
use Rattle.k_locks.specs.Asks as asks
use Rattle.k_ipc.specs.declared.send.Manner.{Manner}
use Rattle.k_ipc.specs.declared.send.Manner.TheVariants as manner
use Rattle.k_ipc.specs.declared.send.SendCall.{SendCall}
use Rattle.k_ipc.specs.declared.send.SendOutside.TheVariants.{LoadCaller, AcquireReceiver, CheckCaller, Ended}
use Rattle.k_ipc.specs.declared.send.SendLocked.TheVariants.{LoadReceiver, StoreMail, CommitPass, WakeReceiver, ReloadReceiver, AcquireReady, CommitWait, Release}
use Rattle.k_ipc.specs.declared.send.SendRelease.TheVariants as release
use Rattle.k_ipc.specs.declared.send.SendPushing.TheVariants.{PushReceiver}
use Rattle.k_ipc.specs.SendTable.{SendAt, Outside, Locked, Pushing}
use Rattle.k_ipc.specs.SendTable as send
use Rattle.k_ipc.specs.declared.receive.ReceiveCall.{ReceiveCall}
use Rattle.k_ipc.specs.declared.receive.ReceiveOutside.TheVariants as outside
use Rattle.k_ipc.specs.declared.receive.ReceiveLocked.TheVariants as locked
use Rattle.k_ipc.specs.declared.receive.ReceiveRelease.TheVariants as returns
use Rattle.k_ipc.specs.declared.receive.ReceivePushing.TheVariants as pushing
use Rattle.k_ipc.specs.ReceiveTable.{ReceiveAt, still_waits}
use Rattle.k_ipc.specs.ReceiveTable as receive
use Rattle.k_threads.specs.declared.create.CreateCall.{CreateCall}
use Rattle.k_threads.specs.declared.create.CreateOutside.TheVariants as create_outside
use Rattle.k_threads.specs.declared.create.CreateLocked.TheVariants as create_locked
use Rattle.k_threads.specs.declared.create.CreateRelease.TheVariants as create_release
use Rattle.k_threads.specs.CreateTable.{CreateAt}
use Rattle.k_threads.specs.CreateTable as create
use Rattle.k_threads.specs.declared.destroy.DestroyCall.{DestroyCall}
use Rattle.k_threads.specs.declared.destroy.DestroyOutside.TheVariants as destroy_outside
use Rattle.k_threads.specs.declared.destroy.DestroyLocked.TheVariants as destroy_locked
use Rattle.k_threads.specs.declared.destroy.DestroyRelease.TheVariants as destroy_release
use Rattle.k_threads.specs.declared.destroy.DestroyVictim.TheVariants as victim
use Rattle.k_threads.specs.declared.destroy.DestroyVisit.TheVariants as visit
use Rattle.k_threads.specs.declared.destroy.DestroyPushing.TheVariants as destroy_pushing
use Rattle.k_threads.specs.DestroyTable.{DestroyAt}
use Rattle.k_threads.specs.DestroyTable as destroy
use Rattle.k_threads.specs.Words.{is_receiving_from}
use Rattle.k_caller.specs.declared.thread.ThreadLocation.{ThreadLocation}
use Rattle.k_caller.specs.declared.thread.ThreadLocation.TheVariants as location
use Rattle.k_switch.specs.declared.switch.SwitchCall.{SwitchCall}
use Rattle.k_switch.specs.declared.switch.SwitchLocked.TheVariants as switch_locked
use Rattle.k_switch.specs.Switches.{SwitchAt}
use Rattle.k_switch.specs.Switches as switch
use Rattle.k_caller.specs.Waits.{can_ask, is_waiting}
use Rattle.k_caller.specs.Waits as alone
use Rattle.k_board.specs.Words.{Programs}
use Rattle.k_board.specs.Boards.{At, Board, Context, InSend, InCreate, InDestroy, hand_of, id_at}
use Rattle.k_board.specs.Facts.{AllSay, Fact, IsFront, is_open}
use Rattle.k_board.specs.Places.{facts_alone, facts_create, facts_destroy, facts_receive, facts_send, facts_switch, sender, begins}
use Rattle.k_board.specs.Moves.{PlaceStep}
use Rattle.k_board.specs.Steps.{Answers, pick_call, receive_board, receive_context}
use Rattle.k_board.specs.Turns.{Supports, excepted_by, excepts, is_going, is_number}
use Rattle.k_board.proofs.SendPlaces as sends
use Rattle.k_board.proofs.ReceivePlaces as receives
use Rattle.k_board.proofs.ReceivePlaces.{sends_is}
use Rattle.k_board.proofs.CreatePlaces as creates
use Rattle.k_board.proofs.DestroyPlaces as destroys
use Rattle.k_board.proofs.AlonePlaces as alones

-- A SECTION'S CALLER IS ITS CONTEXT'S

module _ (g : Programs) (b : Board) (i : ℕ) (x : Context) where
  sender_me : (m : Manner) (me : ThreadId) (fs : List Fact) → AllSay g b i x (sender m me fs) → me.number ≡ i
  sender_me manner.Plain me fs h = h.0.0
  sender_me manner.Joined me fs h = h.0.0
  sender_me manner.Reply me fs h = h.0.0

  pub send_me : (c : SendCall) (p : SendAt) → AllSay g b i x (facts_send c p) → c.caller.number ≡ i
  send_me c (Outside LoadCaller) h = h.1.0.0
  send_me c (Outside AcquireReceiver) h = h.1.0.0
  send_me c (Locked LoadReceiver) h = h.1.1.0.0
  send_me c (Locked (StoreMail w)) h = h.1.1.0.0
  send_me c (Locked (CommitPass w)) h = h.1.1.1.0.0
  send_me c (Locked (WakeReceiver w)) h = sender_me c.manner c.caller _ h
  send_me c (Locked ReloadReceiver) h = sender_me c.manner c.caller _ h
  send_me c (Locked (AcquireReady priority)) h = sender_me c.manner c.caller _ h
  send_me c (Pushing (PushReceiver priority)) h = sender_me c.manner c.caller _ h
  send_me c (Locked (Release release.Passed)) h = sender_me c.manner c.caller _ h
  send_me c (Locked (Release release.Dead)) h = h.1.1.0.0
  send_me c (Locked (Release (release.Refused r))) h = h.1.0.0
  send_me c (Outside (CheckCaller r)) h = h.0.0
  send_me c (Locked CommitWait) h = h.1.1.0.0
  send_me c (Locked (Release release.Queued)) h = h.0.0
  send_me c (Outside (Ended w)) h = absurd h.0

  begins_me : (c : ReceiveCall) (p : Bool) → AllSay g b i x (begins p c) → c.caller.number ≡ i
  begins_me c true h = h.1.0.0
  begins_me c false h = h.1.0.0

  pub receive_me : (c : ReceiveCall) (p : ReceiveAt) → AllSay g b i x (facts_receive c p) → c.caller.number ≡ i
  receive_me c (receive.Outside outside.LoadCaller) h = h.1.0.0
  receive_me c (receive.Outside outside.AcquireOwn) h = begins_me c c.picks h
  receive_me c (receive.Locked locked.LoadOwn) h = h.1.1.0.0
  receive_me c (receive.Locked (locked.LoadSender e)) h = h.1.1.0.0
  receive_me c (receive.Locked (locked.FreeSender e w)) h = h.1.1.1.0.0
  receive_me c (receive.Locked (locked.AcquireReady e)) h = h.1.0.0
  receive_me c (receive.Pushing (pushing.LoadFreed e)) h = h.1.0.0
  receive_me c (receive.Pushing (pushing.PushFreed e w)) h = h.1.0.0
  receive_me c (receive.Locked (locked.Release (returns.Taken e))) h = h.1.0.0
  receive_me c (receive.Locked locked.CommitWait) h = h.1.1.0.0
  receive_me c (receive.Locked (locked.LoadPartner from)) h = h.1.0.0
  receive_me c (receive.Locked (locked.CommitGone from)) h = h.0.0
  receive_me c (receive.Locked (locked.Release returns.Waits)) h = h.0.0
  receive_me c (receive.Locked (locked.Release returns.Gone)) h = h.1.0.0
  receive_me c (receive.Locked (locked.Release returns.Nobody)) h = h.1.0.0
  receive_me c (receive.Locked (locked.Release returns.Dead)) h = h.1.1.0.0
  receive_me c (receive.Locked locked.LoadPicking) h = h.1.1.0.0
  receive_me c (receive.Locked (locked.LoadNext e)) h = h.1.0.0
  receive_me c (receive.Locked (locked.FreeNext e w)) h = h.1.0.0
  receive_me c (receive.Locked (locked.EndPick e w)) h = h.1.0.0
  receive_me c (receive.Locked locked.SettlePick) h = h.1.0.0
  receive_me c (receive.Locked (locked.Release returns.Delivered)) h = h.1.0.0
  receive_me c (receive.Outside (outside.Ended w)) h = absurd h.0

  pub create_me : (c : CreateCall) (p : CreateAt) → AllSay g b i x (facts_create c p) → c.caller.number ≡ i
  create_me c (create.Outside create_outside.AcquireTable) h = h.0.0
  create_me c (create.Locked create_locked.LoadCaller) h = h.1.0.0
  create_me c (create.Locked (create_locked.PlaceContext id)) h = h.1.0.0
  create_me c (create.Locked (create_locked.CommitCreate id)) h = h.1.0.0
  create_me c (create.Locked (create_locked.AcquireReady id)) h = h.1.0.0
  create_me c (create.PushCreated id) h = h.1.0.0
  create_me c (create.Locked (create_locked.Release (create_release.Made id))) h = h.1.0.0
  create_me c (create.Locked (create_locked.Release (create_release.Full alive worn))) h = h.1.0.0
  create_me c (create.Locked (create_locked.Release create_release.Dead)) h = h.1.1.0.0
  create_me c (create.Outside (create_outside.Ended w)) h = absurd h.0

  pub destroy_me : (c : DestroyCall) (p : DestroyAt) → AllSay g b i x (facts_destroy c p) → c.caller.number ≡ i
  destroy_me c (destroy.Outside destroy_outside.LoadOwn) h = h.1.0.0
  destroy_me c (destroy.Outside destroy_outside.AcquireTable) h = h.1.0.0
  destroy_me c (destroy.Locked destroy_locked.LoadCaller) h = h.1.1.0.0
  destroy_me c (destroy.Locked destroy_locked.AcquireVictimLock) h = h.1.1.0.0
  destroy_me c (destroy.Victim victim.LoadVictim) h = h.1.1.1.0.0
  destroy_me c (destroy.Victim (victim.CommitKill seen)) h = h.1.1.1.0.0
  destroy_me c (destroy.Victim (victim.LoadSender sender_)) h = h.1.1.0.0
  destroy_me c (destroy.Victim (victim.FreeSender sender_ seen)) h = h.1.1.0.0
  destroy_me c (destroy.Victim (victim.AcquireReadyForSender sender_ seen)) h = h.1.1.0.0
  destroy_me c (destroy.Pushing (destroy_pushing.PushSender sender_ seen)) h = h.1.1.0.0
  destroy_me c (destroy.Victim victim.ReleaseVictimLock) h = h.1.1.0.0
  destroy_me c (destroy.Locked destroy_locked.AcquireReadyForVictim) h = h.1.1.0.0
  destroy_me c (destroy.UnlistVictim) h = h.1.1.0.0
  destroy_me c (destroy.Locked destroy_locked.RemoveContext) h = h.1.1.0.0
  destroy_me c (destroy.Locked (destroy_locked.AcquireVisitedLock visited)) h = h.1.1.0.0
  destroy_me c (destroy.Visit (visit.LoadVisited visited)) h = h.1.1.0.0
  destroy_me c (destroy.Visit (visit.FreeVisited visited seen)) h = h.1.1.0.0
  destroy_me c (destroy.Visit (visit.AcquireReadyForVisited visited seen)) h = h.1.1.0.0
  destroy_me c (destroy.Pushing (destroy_pushing.PushVisited visited seen)) h = h.1.1.0.0
  destroy_me c (destroy.Visit (visit.ReleaseVisitedLock visited)) h = h.1.1.0.0
  destroy_me c (destroy.Locked (destroy_locked.Release destroy_release.Killed)) h = h.1.1.0.0
  destroy_me c (destroy.Victim (victim.ReleaseVictimLockAbsent found)) h = h.1.1.0.0
  destroy_me c (destroy.Locked (destroy_locked.Release (destroy_release.Absent found))) h = h.1.0.0
  destroy_me c (destroy.Locked (destroy_locked.Release destroy_release.Dead)) h = h.1.1.0.0
  destroy_me c (destroy.Outside (destroy_outside.Ended w)) h = absurd h.0

lost_is : {A : Type 0} (w v old : A) → (w ≡ v) × (v ≢ old) → w ≢ old
lost_is w v old h q = h.1 (sym h.0 ∙ q)

sending_told : (b : Board) (i : ℕ) (s : Supports b i) (t : ℕ) (to : ThreadId) (joined : Bool) → (b.seen t).word.state ≡ state.Sending to joined → (b.seen t).told ≡ None
sending_told b i s t to joined e = s.unanswered t (ap is_waiting e) (grind (arith))

open_waits : (st : State) → is_open st ≡ true → is_waiting st ≡ true
open_waits st o = grind arith

-- one that takes messages, whose lock context i owns where it excepts nobody
open_told : (b : Board) (i : ℕ) (s : Supports b i) (t : ℕ) → is_open (b.seen t).word.state ≡ true → b.owner t ≡ Some i → excepted_by (Some i) b.context t ≡ false → (b.seen t).told ≡ None
open_told b i s t o own e = s.unanswered t (open_waits (b.seen t).word.state o) (grind (arith, own, e))

module _ (g : Programs) (b : Board) where
  -- A SEND

  pub send_goes : (c : SendCall) (p : SendAt) (r : Response) → (b.context c.caller.number).at ≡ InSend c p → Supports b c.caller.number → Answers b (send.ask_of c (b.context c.caller.number).own p) r → AllSay g b c.caller.number (b.context c.caller.number) (facts_send c p) → sends.Fine g b (b.context c.caller.number) c p r
  send_goes c (Outside LoadCaller) (asks.Word w) at s an h = sends.ok_self g b (b.context c.caller.number) c w an h
  send_goes c (Outside AcquireReceiver) (asks.Got) at s an h = sends.ok_acquire g b (b.context c.caller.number) c h an
  send_goes c (Outside AcquireReceiver) (asks.Owned o) at s an h = sends.ok_acquire_owned g b (b.context c.caller.number) c o h
  send_goes c (Locked LoadReceiver) (asks.Word w) at s an h = sends.ok_load g b (b.context c.caller.number) c w an h
  send_goes c (Locked (StoreMail w)) (asks.Stored) at s an h = sends.ok_store g b (b.context c.caller.number) c w h
  send_goes c (Locked (CommitPass w)) (asks.Won) at s an h = sends.ok_pass g b (b.context c.caller.number) c.caller c.to c.message c.zero c.manner w (open_told b c.caller.number s c.to.number (sends.open_of c (b.seen c.to.number).word h.1.0.1) h.1.0.0 (ap (λ (q : At). is_number (excepts q) c.to.number) at)) an h
  send_goes c (Locked (CommitPass w)) (asks.Lost v) at s an h = sends.ok_pass_lost g b (b.context c.caller.number) c w v (lost_is _ _ _ an) h
  send_goes c (Locked (WakeReceiver w)) (asks.Won) at s an h = sends.ok_wake g b (b.context c.caller.number) c.caller c.to c.message c.zero c.manner w an h
  send_goes c (Locked (WakeReceiver w)) (asks.Lost v) at s an h = sends.ok_wake_lost g b (b.context c.caller.number) c.caller c.to c.message c.zero c.manner w v h
  send_goes c (Locked ReloadReceiver) (asks.Word w) at s an h = sends.ok_reload g b (b.context c.caller.number) c.caller c.to c.message c.zero c.manner w an h
  send_goes c (Locked (AcquireReady priority)) (asks.Got) at s an h = sends.ok_ready g b (b.context c.caller.number) c.caller c.to c.message c.zero c.manner priority an h
  send_goes c (Locked (AcquireReady priority)) (asks.Owned o) at s an h = sends.ok_ready_owned g b (b.context c.caller.number) c.caller c.to c.message c.zero c.manner priority o h
  send_goes c (Pushing (PushReceiver priority)) (asks.Released) at s an h = sends.ok_push g b (b.context c.caller.number) c.caller c.to c.message c.zero c.manner priority h
  send_goes c (Locked (Release release.Passed)) (asks.Released) at s an h = sends.ok_release_passed g b (b.context c.caller.number) c.caller c.to c.message c.zero c.manner h
  send_goes c (Locked (Release release.Dead)) (asks.Released) at s an h = sends.ok_release_dead g b (b.context c.caller.number) c h
  send_goes c (Locked (Release (release.Refused q))) (asks.Released) at s an h = sends.ok_release_refused g b (b.context c.caller.number) c q h
  send_goes c (Outside (CheckCaller q)) (asks.Word w) at s an h = sends.ok_check g b (b.context c.caller.number) c q w an h
  send_goes c (Locked CommitWait) (asks.Won) at s an h = sends.ok_wait g b (b.context c.caller.number) c (s.fresh c at an) an h
  send_goes c (Locked CommitWait) (asks.Lost v) at s an h = sends.ok_wait_lost g b (b.context c.caller.number) c v (lost_is _ _ _ an) h
  send_goes c (Locked (Release release.Queued)) (asks.Released) at s an h = sends.ok_release_queued g b (b.context c.caller.number) c h
  send_goes c (Outside (Ended w)) r at s an h = absurd h.0
  send_goes c p r at s an h = absurd an

  -- A RECEIVE, AND A PICK

  abbrev plain_of : ReceiveCall → ReceiveCall
  plain_of c = record { caller = c.caller; from = c.from; zero = c.zero; picks = false }

  plain_is : (c : ReceiveCall) → c.picks ≡ false → plain_of c ≡ c
  plain_is c e = λ d. record { caller = c.caller; from = c.from; zero = c.zero; picks = sym e d }

  module _ (c : ReceiveCall) (p : ReceiveAt) (r : Response) (h : AllSay g b c.caller.number (b.context c.caller.number) (facts_receive c p)) where
    by_plain : c.picks ≡ false → (receives.Sound g b (b.context c.caller.number) (plain_of c) p → receives.Fine g b (b.context c.caller.number) (plain_of c) p r) → receives.Fine g b (b.context c.caller.number) c p r
    by_plain e f =
        subst (λ (d : ReceiveCall). PlaceStep g b c.caller.number (receive_context (b.context c.caller.number) d p r (hand_of b (b.queue c.caller.number))) (receive_board g b c.caller.number (b.context c.caller.number) d p r)) (plain_is c e)
        (f (subst (λ (d : ReceiveCall). AllSay g b c.caller.number (b.context c.caller.number) (facts_receive d p)) (sym (plain_is c e)) h))

    by_pick : c ≡ pick_call c.caller → (receives.Sound g b (b.context c.caller.number) (pick_call c.caller) p → receives.Fine g b (b.context c.caller.number) (pick_call c.caller) p r) → receives.Fine g b (b.context c.caller.number) c p r
    by_pick e f =
        subst (λ (d : ReceiveCall). PlaceStep g b c.caller.number (receive_context (b.context c.caller.number) d p r (hand_of b (b.queue c.caller.number))) (receive_board g b c.caller.number (b.context c.caller.number) d p r)) (sym e)
        (f (subst (λ (d : ReceiveCall). AllSay g b c.caller.number (b.context c.caller.number) (facts_receive d p)) e h))

  acquires : (c : ReceiveCall) (picks : Bool) → c.picks ≡ picks → (h : AllSay g b c.caller.number (b.context c.caller.number) (facts_receive c (receive.Outside outside.AcquireOwn))) → b.owner c.caller.number ≡ None → receives.Fine g b (b.context c.caller.number) c (receive.Outside outside.AcquireOwn) asks.Got
  acquires c true e h free = by_pick c (receive.Outside outside.AcquireOwn) asks.Got h (picks_so c e h) (λ k. receives.pick_acquire g b (b.context c.caller.number) c.caller k free)
    where
      picks_so : (c : ReceiveCall) → c.picks ≡ true → AllSay g b c.caller.number (b.context c.caller.number) (begins c.picks c) → c ≡ pick_call c.caller
      picks_so c e h = (subst (λ (q : Bool). AllSay g b c.caller.number (b.context c.caller.number) (begins q c)) e h).0
  acquires c false e h free = by_plain c (receive.Outside outside.AcquireOwn) asks.Got h e (λ k. receives.ok_acquire g b (b.context c.caller.number) c.caller c.from c.zero k free)

  owned_again : (c : ReceiveCall) (o : ℕ) (picks : Bool) → c.picks ≡ picks → (h : AllSay g b c.caller.number (b.context c.caller.number) (facts_receive c (receive.Outside outside.AcquireOwn))) → receives.Fine g b (b.context c.caller.number) c (receive.Outside outside.AcquireOwn) (asks.Owned o)
  owned_again c o true e h = by_pick c (receive.Outside outside.AcquireOwn) (asks.Owned o) h ((subst (λ (q : Bool). AllSay g b c.caller.number (b.context c.caller.number) (begins q c)) e h).0) (λ k. receives.pick_acquire_owned g b (b.context c.caller.number) c.caller o k)
  owned_again c o false e h = by_plain c (receive.Outside outside.AcquireOwn) (asks.Owned o) h e (λ k. receives.ok_acquire_owned g b (b.context c.caller.number) c.caller c.from c.zero o k)

  waits_told : (c : ReceiveCall) (e : SenderEntry) (w : StateWord) → Supports b c.caller.number → still_waits c e w ≡ true → (b.seen (number_of e)).word ≡ w → (b.seen (number_of e)).told ≡ None
  waits_told c e w s q won = let st = sends_is c.caller w.state (and_parts (eqb w.version (sender_of e).version) (sends_to c.caller w.state) q).1 in sending_told b c.caller.number s (number_of e) c.caller st.joined (ap (λ (u : StateWord). u.state) won ∙ st.is)

  pub receive_goes : (c : ReceiveCall) (p : ReceiveAt) (r : Response) → Supports b c.caller.number → Answers b (receive.ask_of c (b.context c.caller.number).own p) r → AllSay g b c.caller.number (b.context c.caller.number) (facts_receive c p) → receives.Fine g b (b.context c.caller.number) c p r
  receive_goes c (receive.Outside outside.LoadCaller) (asks.Word w) s an h = by_plain c (receive.Outside outside.LoadCaller) (asks.Word w) h h.0.0 (λ k. receives.ok_self g b (b.context c.caller.number) c.caller c.from c.zero w an k)
  receive_goes c (receive.Outside outside.AcquireOwn) (asks.Got) s an h = acquires c c.picks refl h an
  receive_goes c (receive.Outside outside.AcquireOwn) (asks.Owned o) s an h = owned_again c o c.picks refl h
  receive_goes c (receive.Locked locked.LoadOwn) (asks.Word w) s an h = by_plain c (receive.Locked locked.LoadOwn) (asks.Word w) h h.0.0 (λ k. receives.ok_load g b (b.context c.caller.number) c.caller c.from c.zero w (s.once c.caller.number) an k)
  receive_goes c (receive.Locked (locked.LoadSender e)) (asks.Word w) s an h = by_plain c (receive.Locked (locked.LoadSender e)) (asks.Word w) h h.0.0 (λ k. receives.ok_sender g b (b.context c.caller.number) c.caller c.from c.zero e w (s.once c.caller.number) an k)
  receive_goes c (receive.Locked (locked.FreeSender e w)) (asks.Won) s an h = by_plain c (receive.Locked (locked.FreeSender e w)) (asks.Won) h h.0.0 (λ k. receives.ok_free g b (b.context c.caller.number) c.caller c.from c.zero e w an (waits_told c e w s h.1.1.0 an) k)
  receive_goes c (receive.Locked (locked.FreeSender e w)) (asks.Lost v) s an h = receives.ok_free_lost g b (b.context c.caller.number) c e w v h
  receive_goes c (receive.Locked (locked.AcquireReady e)) (asks.Got) s an h = receives.ok_ready g b (b.context c.caller.number) c e an h
  receive_goes c (receive.Locked (locked.AcquireReady e)) (asks.Owned o) s an h = receives.ok_ready_owned g b (b.context c.caller.number) c e o h
  receive_goes c (receive.Pushing (pushing.LoadFreed e)) (asks.Word w) s an h = receives.ok_freed g b (b.context c.caller.number) c e w h
  receive_goes c (receive.Pushing (pushing.PushFreed e w)) (asks.Released) s an h = receives.ok_push g b (b.context c.caller.number) c e w h
  receive_goes c (receive.Locked locked.CommitWait) (asks.Won) s an h = by_plain c (receive.Locked locked.CommitWait) (asks.Won) h h.0.0 (λ k. receives.ok_wait g b (b.context c.caller.number) c.caller c.from c.zero k)
  receive_goes c (receive.Locked locked.CommitWait) (asks.Lost v) s an h = absurd (lost_is _ _ _ an h.1.1.1.1.1.0.1)
  receive_goes c (receive.Locked (locked.LoadPartner f)) (asks.Word w) s an h = by_plain c (receive.Locked (locked.LoadPartner f)) (asks.Word w) h h.1.1.1.1.1.0.0 (λ k. receives.ok_partner g b (b.context c.caller.number) c.caller c.from c.zero f w k)
  receive_goes c (receive.Locked (locked.CommitGone f)) (asks.Won) s an h = by_plain c (receive.Locked (locked.CommitGone f)) asks.Won h h.1.1.1.1.1.0.0 (λ k. receives.ok_gone g b (b.context c.caller.number) c.caller c.from c.zero f k)
  receive_goes c (receive.Locked (locked.CommitGone f)) (asks.Lost v) s an h = absurd (lost_is _ _ _ an h.1.1.1.0.1)
  receive_goes c (receive.Locked locked.LoadPicking) (asks.Word w) s an h = by_pick c (receive.Locked locked.LoadPicking) (asks.Word w) h h.0 (λ k. receives.pick_load g b (b.context c.caller.number) c.caller w (s.once c.caller.number) an k)
  receive_goes c (receive.Locked (locked.LoadNext e)) (asks.Word w) s an h = by_pick c (receive.Locked (locked.LoadNext e)) (asks.Word w) h h.0 (λ k. receives.pick_next g b (b.context c.caller.number) c.caller e w (s.once c.caller.number) an k)
  receive_goes c (receive.Locked (locked.FreeNext e w)) (asks.Won) s an h = by_pick c (receive.Locked (locked.FreeNext e w)) (asks.Won) h h.0 (λ k. receives.pick_free g b (b.context c.caller.number) c.caller e w an (waits_told c e w s h.1.1.1.1.1.0 an) k)
  receive_goes c (receive.Locked (locked.FreeNext e w)) (asks.Lost v) s an h = receives.pick_free_lost g b (b.context c.caller.number) c e w v h
  receive_goes c (receive.Locked (locked.EndPick e w)) (asks.Won) s an h = by_pick c (receive.Locked (locked.EndPick e w)) (asks.Won) h h.0 (λ k. receives.pick_end g b (b.context c.caller.number) c.caller e w k)
  receive_goes c (receive.Locked (locked.EndPick e w)) (asks.Lost v) s an h = absurd (lost_is _ _ _ an h.1.1.1.1.0.1)
  receive_goes c (receive.Locked locked.SettlePick) (asks.Won) s an h = by_pick c (receive.Locked locked.SettlePick) (asks.Won) h h.0 (λ k. receives.pick_settle g b (b.context c.caller.number) c.caller k)
  receive_goes c (receive.Locked locked.SettlePick) (asks.Lost v) s an h = absurd (lost_is _ _ _ an h.1.1.1.1.0.1)
  receive_goes c (receive.Locked (locked.Release (returns.Taken e))) (asks.Released) s an h = receives.ok_release_taken g b (b.context c.caller.number) c e h
  receive_goes c (receive.Locked (locked.Release returns.Gone)) (asks.Released) s an h = receives.ok_release_gone g b (b.context c.caller.number) c h
  receive_goes c (receive.Locked (locked.Release returns.Nobody)) (asks.Released) s an h = receives.ok_release_nobody g b (b.context c.caller.number) c h
  receive_goes c (receive.Locked (locked.Release returns.Dead)) (asks.Released) s an h = receives.ok_release_dead g b (b.context c.caller.number) c h
  receive_goes c (receive.Locked (locked.Release returns.Waits)) (asks.Released) s an h = receives.ok_release_waits g b (b.context c.caller.number) c h
  receive_goes c (receive.Locked (locked.Release returns.Delivered)) (asks.Released) s an h = receives.ok_release_delivered g b (b.context c.caller.number) c h
  receive_goes c (receive.Outside (outside.Ended w)) r s an h = absurd h.0
  receive_goes c p r s an h = absurd an

  -- A CREATE

  pub create_goes : (c : CreateCall) (p : CreateAt) (r : Response) → (b.context c.caller.number).at ≡ InCreate c p → Supports b c.caller.number → Answers b (create.ask_of c (b.context c.caller.number).own p) r → AllSay g b c.caller.number (b.context c.caller.number) (facts_create c p) → creates.Fine g b (b.context c.caller.number) c p r
  create_goes c (create.Outside create_outside.AcquireTable) (asks.Got) at s an h = creates.ok_acquire g b (b.context c.caller.number) c an h
  create_goes c (create.Outside create_outside.AcquireTable) (asks.Owned o) at s an h = creates.ok_acquire_owned g b (b.context c.caller.number) c o h
  create_goes c (create.Locked create_locked.LoadCaller) (asks.Word w) at s an h = creates.ok_load g b (b.context c.caller.number) c w (λ n q. s.unused c n at h.1.1.1.0.0 q) an h
  create_goes c (create.Locked (create_locked.PlaceContext id)) (asks.Placed) at s an h = creates.ok_place g b (b.context c.caller.number) c id h
  create_goes c (create.Locked (create_locked.CommitCreate id)) (asks.Won) at s an h = creates.ok_commit g b (b.context c.caller.number) c id h
  create_goes c (create.Locked (create_locked.CommitCreate id)) (asks.Lost v) at s an h = absurd (lost_is _ _ _ an h.1.1.1.1.1.1.0.1)
  create_goes c (create.Locked (create_locked.AcquireReady id)) (asks.Got) at s an h = creates.ok_ready g b (b.context c.caller.number) c id an h
  create_goes c (create.Locked (create_locked.AcquireReady id)) (asks.Owned o) at s an h = creates.ok_ready_owned g b (b.context c.caller.number) c id o h
  create_goes c (create.PushCreated id) (asks.Released) at s an h = creates.ok_push g b (b.context c.caller.number) c id h
  create_goes c (create.Locked (create_locked.Release (create_release.Made id))) (asks.Released) at s an h = creates.ok_release_made g b (b.context c.caller.number) c id h
  create_goes c (create.Locked (create_locked.Release (create_release.Full alive_ worn_))) (asks.Released) at s an h = creates.ok_release_full g b (b.context c.caller.number) c alive_ worn_ h
  create_goes c (create.Locked (create_locked.Release create_release.Dead)) (asks.Released) at s an h = creates.ok_release_dead g b (b.context c.caller.number) c h
  create_goes c (create.Outside (create_outside.Ended w)) r at s an h = absurd h.0
  create_goes c p r at s an h = absurd an

  -- A DESTROY

  freed_told : (c : DestroyCall) (n : ℕ) (w : StateWord) → Supports b c.caller.number → IsFront c.who (b.queue c.who.number) n w → (b.seen n).word ≡ w → (b.seen n).told ≡ None
  freed_told c n w s f won = let st = destroys.front_sends c.who (b.queue c.who.number) n w f in sending_told b c.caller.number s n c.who st.joined (ap (λ (u : StateWord). u.state) won ∙ st.is)

  visited_told : (c : DestroyCall) (n : ℕ) (w : StateWord) → Supports b c.caller.number → excepted_by (Some c.caller.number) b.context n ≡ false → b.owner n ≡ Some c.caller.number → is_receiving_from c.who w.state ≡ true → (b.seen n).word ≡ w → (b.seen n).told ≡ None
  visited_told c n w s ex own q won = open_told b c.caller.number s n (ap (λ (u : StateWord). is_open u.state) won ∙ ap is_open (destroys.receiving_is c.who w.state q)) own ex

  pub destroy_goes : (c : DestroyCall) (p : DestroyAt) (r : Response) → (b.context c.caller.number).at ≡ InDestroy c p → Supports b c.caller.number → Answers b (destroy.ask_of c (b.context c.caller.number).own p) r → AllSay g b c.caller.number (b.context c.caller.number) (facts_destroy c p) → destroys.Fine g b (b.context c.caller.number) c p r
  destroy_goes c (destroy.Outside destroy_outside.LoadOwn) (asks.Word w) at s an h = destroys.ok_self g b (b.context c.caller.number) c w an h
  destroy_goes c (destroy.Outside destroy_outside.AcquireTable) (asks.Got) at s an h = destroys.ok_acquire g b (b.context c.caller.number) c an h
  destroy_goes c (destroy.Outside destroy_outside.AcquireTable) (asks.Owned o) at s an h = destroys.ok_acquire_owned g b (b.context c.caller.number) c o h
  destroy_goes c (destroy.Locked destroy_locked.LoadCaller) (asks.Word w) at s an h = destroys.ok_load g b (b.context c.caller.number) c w an h
  destroy_goes c (destroy.Locked destroy_locked.AcquireVictimLock) (asks.Got) at s an h = destroys.ok_victim g b (b.context c.caller.number) c an h
  destroy_goes c (destroy.Locked destroy_locked.AcquireVictimLock) (asks.Owned o) at s an h = destroys.ok_victim_owned g b (b.context c.caller.number) c o h
  destroy_goes c (destroy.Victim victim.LoadVictim) (asks.Word w) at s an h = destroys.ok_load_victim g b (b.context c.caller.number) c w h
  destroy_goes c (destroy.Victim (victim.CommitKill w)) (asks.Won) at s an h = destroys.ok_kill g b (b.context c.caller.number) c w an (s.row c w at an) (s.alone c w at an) h
  destroy_goes c (destroy.Victim (victim.CommitKill w)) (asks.Lost v) at s an h = destroys.ok_kill_lost g b (b.context c.caller.number) c w v h
  destroy_goes c (destroy.Victim (victim.LoadSender n)) (asks.Word w) at s an h = destroys.ok_load_sender g b (b.context c.caller.number) c n w an h
  destroy_goes c (destroy.Victim (victim.FreeSender n w)) (asks.Won) at s an h = destroys.ok_free g b (b.context c.caller.number) c n w an (freed_told c n w s h.1.1.1.1.1.1.1.1.1.1.0.1 an) (s.once c.who.number) h
  destroy_goes c (destroy.Victim (victim.FreeSender n w)) (asks.Lost v) at s an h = destroys.ok_free_lost g b (b.context c.caller.number) c n w v h
  destroy_goes c (destroy.Victim (victim.AcquireReadyForSender n w)) (asks.Got) at s an h = destroys.ok_ready_sender g b (b.context c.caller.number) c n w an h
  destroy_goes c (destroy.Victim (victim.AcquireReadyForSender n w)) (asks.Owned o) at s an h = destroys.ok_ready_sender_owned g b (b.context c.caller.number) c n w o h
  destroy_goes c (destroy.Pushing (destroy_pushing.PushSender n w)) (asks.Released) at s an h = destroys.ok_push_sender g b (b.context c.caller.number) c n w h
  destroy_goes c (destroy.Victim victim.ReleaseVictimLock) (asks.Released) at s an h = destroys.ok_release_victim g b (b.context c.caller.number) c h
  destroy_goes c (destroy.Locked destroy_locked.AcquireReadyForVictim) (asks.Got) at s an h = destroys.ok_ready_victim g b (b.context c.caller.number) c an h
  destroy_goes c (destroy.Locked destroy_locked.AcquireReadyForVictim) (asks.Owned o) at s an h = destroys.ok_ready_victim_owned g b (b.context c.caller.number) c o h
  destroy_goes c (destroy.UnlistVictim) (asks.Released) at s an h = destroys.ok_unlist g b (b.context c.caller.number) c h
  destroy_goes c (destroy.Locked destroy_locked.RemoveContext) (asks.Removed) at s an h = destroys.ok_remove g b (b.context c.caller.number) c h
  destroy_goes c (destroy.Locked destroy_locked.RemoveContext) (asks.Kept) at s an h = destroys.ok_remove_kept g b (b.context c.caller.number) c h
  destroy_goes c (destroy.Locked (destroy_locked.AcquireVisitedLock n)) (asks.Got) at s an h = destroys.ok_visited g b (b.context c.caller.number) c n an h
  destroy_goes c (destroy.Locked (destroy_locked.AcquireVisitedLock n)) (asks.Owned o) at s an h = destroys.ok_visited_owned g b (b.context c.caller.number) c n o h
  destroy_goes c (destroy.Visit (visit.LoadVisited n)) (asks.Word w) at s an h = destroys.ok_load_visited g b (b.context c.caller.number) c n w an h
  destroy_goes c (destroy.Visit (visit.FreeVisited n w)) (asks.Won) at s an h = destroys.ok_free_visited g b (b.context c.caller.number) c n w an (visited_told c n w s (ap (λ (q : At). is_number (excepts q) n) at) h.1.1.1.1.1.1.1.1.1.0 h.1.1.1.1.1.1.1.1.1.1.0.1 an) h
  destroy_goes c (destroy.Visit (visit.FreeVisited n w)) (asks.Lost v) at s an h = destroys.ok_free_visited_lost g b (b.context c.caller.number) c n w v h
  destroy_goes c (destroy.Visit (visit.AcquireReadyForVisited n w)) (asks.Got) at s an h = destroys.ok_ready_visited g b (b.context c.caller.number) c n w an h
  destroy_goes c (destroy.Visit (visit.AcquireReadyForVisited n w)) (asks.Owned o) at s an h = destroys.ok_ready_visited_owned g b (b.context c.caller.number) c n w o h
  destroy_goes c (destroy.Pushing (destroy_pushing.PushVisited n w)) (asks.Released) at s an h = destroys.ok_push_visited g b (b.context c.caller.number) c n w h
  destroy_goes c (destroy.Visit (visit.ReleaseVisitedLock n)) (asks.Released) at s an h = destroys.ok_release_visited g b (b.context c.caller.number) c n h
  destroy_goes c (destroy.Locked (destroy_locked.Release destroy_release.Killed)) (asks.Released) at s an h = destroys.ok_release_killed g b (b.context c.caller.number) c h
  destroy_goes c (destroy.Victim (victim.ReleaseVictimLockAbsent f)) (asks.Released) at s an h = destroys.ok_release_absent g b (b.context c.caller.number) c f h
  destroy_goes c (destroy.Locked (destroy_locked.Release (destroy_release.Absent f))) (asks.Released) at s an h = destroys.ok_release_table g b (b.context c.caller.number) c f h
  destroy_goes c (destroy.Locked (destroy_locked.Release destroy_release.Dead)) (asks.Released) at s an h = destroys.ok_release_dead g b (b.context c.caller.number) c h
  destroy_goes c (destroy.Outside (destroy_outside.Ended w)) r at s an h = absurd h.0
  destroy_goes c p r at s an h = absurd an

  -- A THREAD OUTSIDE OF ANY SECTION, AND A SWITCH

  pub alone_goes : (i : ℕ) (p : ThreadLocation) (r : Response) → can_ask p ≡ true → Answers b (alone.ask_of (id_at b i) (b.context i).own p) r → AllSay g b i (b.context i) (facts_alone p) → alones.Fine g b i (b.context i) p r
  alone_goes i (location.FallAsleep) (asks.Won) can an h = alones.ok_leave g b i (b.context i) an h
  alone_goes i (location.FallAsleep) (asks.Lost w) can an h = alones.ok_stays_on g b i (b.context i) w h
  alone_goes i (location.LookAgain) (asks.Word w) can an h = alones.ok_looks g b i (b.context i) w an h
  alone_goes i (location.LoadMail from) (asks.Mail m) can an h = alones.ok_collects g b i (b.context i) from m an h
  alone_goes i (location.Work count) (asks.Word w) can an h = alones.ok_works g b i (b.context i) count w an h
  alone_goes i (location.CommitEnd) (asks.Won) can an h = alones.ok_ends g b i (b.context i) an h
  alone_goes i (location.CommitEnd) (asks.Lost w) can an h = alones.ok_ends_lost g b i (b.context i) w (lost_is _ _ _ an) h
  alone_goes i (location.Between l) r can an h = absurd cc
  alone_goes i (location.Asleep) r can an h = absurd cc
  alone_goes i (location.Ended) r can an h = absurd cc
  alone_goes i (location.Dead) r can an h = absurd cc
  alone_goes i p r can an h = absurd an

  pub switch_goes : (i : ℕ) (c : SwitchCall) (p : SwitchAt) (r : Response) → is_going p ≡ true → Answers b (switch.ask_of c p) r → AllSay g b i (b.context i) (facts_switch c p) → alones.Switches g b i (b.context i) c p r
  switch_goes i c (switch.AcquireReady) (asks.Got) asked an h = alones.ok_switch_acquire g b i (b.context i) c an h
  switch_goes i c (switch.AcquireReady) (asks.Owned o) asked an h = alones.ok_switch_owned g b i (b.context i) c o h
  switch_goes i c (switch.Locked (switch_locked.LoadGoal goal)) (asks.Word w) asked an h = alones.ok_switch_goal g b i (b.context i) c goal w h
  switch_goes i c (switch.Locked (switch_locked.LoadStart back number)) (asks.Word w) asked an h = alones.ok_switch_start g b i (b.context i) c back number w h
  switch_goes i c (switch.Locked (switch_locked.ReleaseReady back started)) (asks.Released) asked an h = alones.ok_switch_release g b i (b.context i) c back started h
  switch_goes i c (switch.Returned q) (asks.Released) asked an h = alones.ok_switch_returned g b i (b.context i) c q h
  switch_goes i c (switch.Finished q) r asked an h = absurd cc
  switch_goes i c p r asked an h = absurd an
