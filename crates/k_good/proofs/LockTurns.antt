-- A lock names a context exactly where the context's location holds it, after any turn.
use Rattle.std.proofs.Common.{◌≡◌, ◌≢◌, ℕ, zero, suc, Bool, true, false, refl, sym, ap, ◌∙◌, subst, arith, Option, Some, None, [], ◌∷◌, inl, inr}
use Rattle.std.specs.Prelude.{slice_get, ◌<◌, if◌then◌else◌}
use Rattle.std.proofs.lemmas.Bool.Decides.{eqb_tells}
use Rattle.k_model.specs.Maps.{upd}
use Rattle.k_model.proofs.Maps.{upd_same, upd_other}
use Rattle.k_locks.specs.declared.locks.Lock.{Lock}
use Rattle.k_locks.specs.declared.locks.Lock.TheVariants as lock
use Rattle.k_locks.specs.declared.steps.Went.{Went}
use Rattle.k_locks.specs.declared.steps.Went.TheVariants as went
use Rattle.k_locks.specs.Asks.{Ask, Response}
use Rattle.k_locks.specs.Asks as asks
use Rattle.k_locks.specs.Hands.{Hand}
use Rattle.k_locks.specs.Locks.{Holds, rank_of}
use Rattle.k_locks.specs.Tables.{IsAbove, IsHeld, locks_after}
use Rattle.k_ids.specs.declared.threads.ThreadId.{ThreadId}
use Rattle.k_ipc.specs.declared.send.SendCall.{SendCall}
use Rattle.k_ipc.specs.declared.send.SendOutside.TheVariants as send_outside
use Rattle.k_ipc.specs.SendTable.{SendAt}
use Rattle.k_ipc.specs.SendTable as send
use Rattle.k_ipc.proofs.SendRuns as send_runs
use Rattle.k_ipc.specs.declared.receive.ReceiveCall.{ReceiveCall}
use Rattle.k_ipc.specs.declared.receive.ReceiveOutside.TheVariants as receive_outside
use Rattle.k_ipc.specs.ReceiveTable.{ReceiveAt}
use Rattle.k_ipc.specs.ReceiveTable as receive
use Rattle.k_ipc.proofs.ReceiveRuns as receive_runs
use Rattle.k_threads.specs.declared.create.CreateCall.{CreateCall}
use Rattle.k_threads.specs.declared.create.CreateOutside.TheVariants as create_outside
use Rattle.k_threads.specs.declared.create.CreateLocked.TheVariants as create_locked
use Rattle.k_threads.specs.CreateTable.{CreateAt}
use Rattle.k_threads.specs.CreateTable as create
use Rattle.k_threads.specs.declared.destroy.DestroyCall.{DestroyCall}
use Rattle.k_threads.specs.declared.destroy.DestroyOutside.TheVariants as destroy_outside
use Rattle.k_threads.specs.declared.destroy.DestroyLocked.TheVariants as destroy_locked
use Rattle.k_threads.specs.declared.destroy.DestroyVictim.TheVariants as victim
use Rattle.k_threads.specs.declared.destroy.DestroyVisit.TheVariants as visit
use Rattle.k_threads.specs.declared.destroy.DestroyPushing.TheVariants as destroy_pushing
use Rattle.k_threads.specs.Goods.{table_and_thread}
use Rattle.k_threads.specs.Words.{is_receiving_from}
use Rattle.k_ids.specs.declared.state_word.StateWord.{StateWord}
use Rattle.k_threads.specs.DestroyTable.{DestroyAt}
use Rattle.k_threads.specs.DestroyTable as destroy
use Rattle.k_caller.specs.declared.thread.ThreadLocation.TheVariants as location
use Rattle.k_switch.specs.declared.switch.SwitchCall.{SwitchCall}
use Rattle.k_switch.specs.declared.switch.SwitchLocked.TheVariants as switch_locked
use Rattle.k_switch.specs.Switches.{SwitchAt}
use Rattle.k_switch.specs.Switches as switch
use Rattle.k_board.specs.Words.{Programs}
use Rattle.k_board.specs.Boards.{At, Alone, InSend, InReceive, InCreate, InDestroy, InSwitch, Resting, Coming, Nowhere, Context, Board, hand_of, owner_of}
use Rattle.k_board.specs.Facts.{AllSay}
use Rattle.k_board.specs.Places.{PlacesHold, facts_of}
use Rattle.k_board.specs.Steps.{Answers, after, alone_board, alone_context, receive_board, send_board, switch_board, create_at, create_board, create_context, destroy_at, destroy_board, destroy_context, destroy_number, new_context, placed, receive_at, receive_context, send_at, send_context, switch_context}
use Rattle.k_board.specs.Turns.{Turn, is_going, sends, receives, creates, destroys, goes_alone, begins, turns_to_work, wakes, switches, begins_switch, ends_switch}
use Rattle.k_board.specs.Steps.{begun_at}
use Rattle.k_ids.specs.declared.calls.Phase.{Phase}
use Rattle.k_ids.specs.declared.calls.Phase.TheVariants as phase
use Rattle.k_good.specs.Locks.{locks_at, owner_by}
use Rattle.k_good.proofs.Owners.{IsThree, Named, Owners, Owns, owners_move, owners_step, suits_is}

-- WHAT LOCATIONS HOLD

after_none : (me : ThreadId) (w : Went) → locks_at (after me w) ≡ None ∷ None ∷ None ∷ []
after_none me (went.Ends r) = refl
after_none me went.Waits = refl
after_none me went.Picks = refl
after_none me went.CallerDead = refl
after_none me went.On = refl
after_none me went.Again = refl
after_none me (went.Pushed priority) = refl

send_locks : (c : SendCall) (p : SendAt) → locks_at (send_at c p) ≡ send.locks_of c p
send_locks c (send.Outside (send_outside.Ended w)) = after_none c.caller w
send_locks c (send.Outside send_outside.LoadCaller) = refl
send_locks c (send.Outside send_outside.AcquireReceiver) = refl
send_locks c (send.Outside (send_outside.CheckCaller r)) = refl
send_locks c (send.Locked p) = refl
send_locks c (send.Pushing p) = refl

receive_locks : (c : ReceiveCall) (p : ReceiveAt) → locks_at (receive_at c p) ≡ receive.locks_of c p
receive_locks c (receive.Outside (receive_outside.Ended w)) = after_none c.caller w
receive_locks c (receive.Outside receive_outside.LoadCaller) = refl
receive_locks c (receive.Outside receive_outside.AcquireOwn) = refl
receive_locks c (receive.Locked p) = refl
receive_locks c (receive.Pushing p) = refl

create_locks : (c : CreateCall) (p : CreateAt) → locks_at (create_at c p) ≡ create.locks_of c p
create_locks c (create.Outside (create_outside.Ended w)) = after_none c.caller w
create_locks c (create.Outside create_outside.AcquireTable) = refl
create_locks c (create.Locked p) = refl
create_locks c (create.PushCreated id) = refl

destroy_locks : (c : DestroyCall) (p : DestroyAt) → locks_at (destroy_at c p) ≡ destroy.locks_of c p
destroy_locks c (destroy.Outside (destroy_outside.Ended w)) = after_none c.caller w
destroy_locks c (destroy.Outside destroy_outside.LoadOwn) = refl
destroy_locks c (destroy.Outside destroy_outside.AcquireTable) = refl
destroy_locks c (destroy.Locked p) = refl
destroy_locks c (destroy.Victim p) = refl
destroy_locks c (destroy.Visit p) = refl
destroy_locks c destroy.UnlistVictim = refl
destroy_locks c (destroy.Pushing p) = refl

three_of : (x y z : Option Lock) → IsThree (x ∷ y ∷ z ∷ [])
three_of x y z = record { table = x; thread = y; ready = z; is = refl }

three_at : (p : At) → IsThree (locks_at p)
three_at (Alone p) = three_of _ _ _
three_at Resting = three_of _ _ _
three_at Coming = three_of _ _ _
three_at Nowhere = three_of _ _ _
three_at (InSend c (send.Outside p)) = three_of _ _ _
three_at (InSend c (send.Locked p)) = three_of _ _ _
three_at (InSend c (send.Pushing p)) = three_of _ _ _
three_at (InReceive c (receive.Outside p)) = three_of _ _ _
three_at (InReceive c (receive.Locked p)) = three_of _ _ _
three_at (InReceive c (receive.Pushing p)) = three_of _ _ _
three_at (InCreate c (create.Outside p)) = three_of _ _ _
three_at (InCreate c (create.Locked p)) = three_of _ _ _
three_at (InCreate c (create.PushCreated id)) = three_of _ _ _
three_at (InDestroy c (destroy.Outside p)) = three_of _ _ _
three_at (InDestroy c (destroy.Locked p)) = three_of _ _ _
three_at (InDestroy c (destroy.Victim p)) = three_of _ _ _
three_at (InDestroy c (destroy.Visit p)) = three_of _ _ _
three_at (InDestroy c destroy.UnlistVictim) = three_of _ _ _
three_at (InDestroy c (destroy.Pushing p)) = three_of _ _ _
three_at (InSwitch c switch.AcquireReady) = three_of _ _ _
three_at (InSwitch c (switch.Locked p)) = three_of _ _ _
three_at (InSwitch c (switch.Returned s)) = three_of _ _ _
three_at (InSwitch c (switch.Finished s)) = three_of _ _ _

none_held : (l : Lock) → Holds l (None ∷ None ∷ None ∷ []) → ⊥
none_held (lock.Thread n) q = cc
none_held lock.Table q = cc
none_held lock.Ready q = cc

-- THE LOCKS OF A CREATE AND A DESTROY

none_at : (rank : ℕ) (m : Lock) → slice_get (None ∷ None ∷ None ∷ []) rank ≡ Some (Some m) → ⊥
none_at zero m q = cc
none_at (suc zero) m q = cc
none_at (suc (suc zero)) m q = cc
none_at (suc (suc (suc n))) m q = cc

lock_is : (a c : Lock) → Some (Some a) ≡ Some (Some c) → a ≡ c
lock_is a c q = cc

table_below : (rank : ℕ) (m : Lock) → slice_get (Some lock.Table ∷ None ∷ None ∷ []) rank ≡ Some (Some m) → rank_of m < 2
table_below zero m q = subst (λ (l : Lock). rank_of l < 2) (lock_is _ _ q) (grind arith)
table_below (suc zero) m q = absurd cc
table_below (suc (suc zero)) m q = absurd cc
table_below (suc (suc (suc n))) m q = absurd cc

table_under : (rank : ℕ) (m : Lock) → slice_get (Some lock.Table ∷ None ∷ None ∷ []) rank ≡ Some (Some m) → rank_of m < 1
table_under zero m q = subst (λ (l : Lock). rank_of l < 1) (lock_is _ _ q) (grind arith)
table_under (suc zero) m q = absurd cc
table_under (suc (suc zero)) m q = absurd cc
table_under (suc (suc (suc n))) m q = absurd cc

both_below : (n rank : ℕ) (m : Lock) → slice_get (Some lock.Table ∷ Some (lock.Thread n) ∷ None ∷ []) rank ≡ Some (Some m) → rank_of m < 2
both_below n zero m q = subst (λ (l : Lock). rank_of l < 2) (lock_is _ _ q) (grind arith)
both_below n (suc zero) m q = subst (λ (l : Lock). rank_of l < 2) (lock_is _ _ q) (grind arith)
both_below n (suc (suc zero)) m q = absurd cc
both_below n (suc (suc (suc k))) m q = absurd cc

create_held : (c : CreateCall) (own : StateWord) (h : Hand) (p : CreateAt) (r : Response) (b : Board) → Answers b (create.ask_of c own p) r → create.locks_of c (create.leads c h p r) ≡ locks_after (create.ask_of c own p) r (create.locks_of c p)
create_held c own h (create.Outside create_outside.AcquireTable) (asks.Got) b an = refl
create_held c own h (create.Outside create_outside.AcquireTable) (asks.Owned o) b an = refl
create_held c own h (create.Locked create_locked.LoadCaller) (asks.Word w) b an = refl
create_held c own h (create.Locked (create_locked.PlaceContext id)) (asks.Placed) b an = refl
create_held c own h (create.Locked (create_locked.CommitCreate id)) (asks.Won) b an = refl
create_held c own h (create.Locked (create_locked.CommitCreate id)) (asks.Lost w) b an = refl
create_held c own h (create.Locked (create_locked.AcquireReady id)) (asks.Got) b an = refl
create_held c own h (create.Locked (create_locked.AcquireReady id)) (asks.Owned o) b an = refl
create_held c own h (create.PushCreated id) (asks.Released) b an = refl
create_held c own h (create.Locked (create_locked.Release e)) (asks.Released) b an = refl
create_held c own h (create.Outside (create_outside.Ended e)) (asks.Word w) b an = refl
create_held c own h p r b an = absurd an

create_above : (c : CreateCall) (own : StateWord) (p : CreateAt) → IsAbove (create.ask_of c own p) (create.locks_of c p)
create_above c own (create.Outside create_outside.AcquireTable) = λ rank m q. absurd (none_at rank m q)
create_above c own (create.Locked create_locked.LoadCaller) = tt
create_above c own (create.Locked (create_locked.PlaceContext id)) = tt
create_above c own (create.Locked (create_locked.CommitCreate id)) = tt
create_above c own (create.Locked (create_locked.AcquireReady id)) = λ rank m q. table_below rank m q
create_above c own (create.PushCreated id) = tt
create_above c own (create.Locked (create_locked.Release e)) = tt
create_above c own (create.Outside (create_outside.Ended e)) = tt

create_mine : (c : CreateCall) (own : StateWord) (p : CreateAt) → IsHeld (create.ask_of c own p) (create.locks_of c p)
create_mine c own (create.Outside create_outside.AcquireTable) = tt
create_mine c own (create.Locked create_locked.LoadCaller) = tt
create_mine c own (create.Locked (create_locked.PlaceContext id)) = tt
create_mine c own (create.Locked (create_locked.CommitCreate id)) = tt
create_mine c own (create.Locked (create_locked.AcquireReady id)) = tt
create_mine c own (create.PushCreated id) = refl
create_mine c own (create.Locked (create_locked.Release e)) = refl
create_mine c own (create.Outside (create_outside.Ended e)) = tt

loaded_visit : (c : DestroyCall) (n : ℕ) (w : StateWord) (a : Bool) → destroy.locks_of c (destroy.Visit (if a then visit.FreeVisited n w else visit.ReleaseVisitedLock n)) ≡ table_and_thread n
loaded_visit c n w true = refl
loaded_visit c n w false = refl

freed_visit : (c : DestroyCall) (n : ℕ) (w : StateWord) (a : Bool) → destroy.locks_of c (destroy.Visit (if a then visit.ReleaseVisitedLock n else visit.AcquireReadyForVisited n w)) ≡ table_and_thread n
freed_visit c n w true = refl
freed_visit c n w false = refl

destroy_held : (c : DestroyCall) (own : StateWord) (h : Hand) (p : DestroyAt) (r : Response) (b : Board) → Answers b (destroy.ask_of c own p) r → destroy.locks_of c (destroy.leads c h p r) ≡ locks_after (destroy.ask_of c own p) r (destroy.locks_of c p)
destroy_held c own h (destroy.Outside destroy_outside.LoadOwn) (asks.Word w) b an = refl
destroy_held c own h (destroy.Outside destroy_outside.AcquireTable) (asks.Got) b an = refl
destroy_held c own h (destroy.Outside destroy_outside.AcquireTable) (asks.Owned o) b an = refl
destroy_held c own h (destroy.Locked destroy_locked.LoadCaller) (asks.Word w) b an = refl
destroy_held c own h (destroy.Locked destroy_locked.AcquireVictimLock) (asks.Got) b an = refl
destroy_held c own h (destroy.Locked destroy_locked.AcquireVictimLock) (asks.Owned o) b an = refl
destroy_held c own h (destroy.Victim victim.LoadVictim) (asks.Word w) b an = refl
destroy_held c own h (destroy.Victim (victim.CommitKill v)) (asks.Won) b an = refl
destroy_held c own h (destroy.Victim (victim.CommitKill v)) (asks.Lost w) b an = refl
destroy_held c own h (destroy.Victim (victim.LoadSender n)) (asks.Word w) b an = refl
destroy_held c own h (destroy.Victim (victim.FreeSender n v)) (asks.Won) b an = refl
destroy_held c own h (destroy.Victim (victim.FreeSender n v)) (asks.Lost w) b an = refl
destroy_held c own h (destroy.Victim (victim.AcquireReadyForSender n v)) (asks.Got) b an = refl
destroy_held c own h (destroy.Victim (victim.AcquireReadyForSender n v)) (asks.Owned o) b an = refl
destroy_held c own h (destroy.Pushing (destroy_pushing.PushSender n v)) (asks.Released) b an = refl
destroy_held c own h (destroy.Victim victim.ReleaseVictimLock) (asks.Released) b an = refl
destroy_held c own h (destroy.Locked destroy_locked.AcquireReadyForVictim) (asks.Got) b an = refl
destroy_held c own h (destroy.Locked destroy_locked.AcquireReadyForVictim) (asks.Owned o) b an = refl
destroy_held c own h (destroy.UnlistVictim) (asks.Released) b an = refl
destroy_held c own h (destroy.Locked destroy_locked.RemoveContext) (asks.Removed) b an = refl
destroy_held c own h (destroy.Locked destroy_locked.RemoveContext) (asks.Kept) b an = refl
destroy_held c own h (destroy.Locked (destroy_locked.AcquireVisitedLock n)) (asks.Got) b an = refl
destroy_held c own h (destroy.Locked (destroy_locked.AcquireVisitedLock n)) (asks.Owned o) b an = refl
destroy_held c own h (destroy.Visit (visit.LoadVisited n)) (asks.Word w) b an = loaded_visit c n w (is_receiving_from c.who w.state)
destroy_held c own h (destroy.Visit (visit.FreeVisited n v)) (asks.Won) b an = freed_visit c n v v.on
destroy_held c own h (destroy.Visit (visit.FreeVisited n v)) (asks.Lost w) b an = refl
destroy_held c own h (destroy.Visit (visit.AcquireReadyForVisited n v)) (asks.Got) b an = refl
destroy_held c own h (destroy.Visit (visit.AcquireReadyForVisited n v)) (asks.Owned o) b an = refl
destroy_held c own h (destroy.Pushing (destroy_pushing.PushVisited n v)) (asks.Released) b an = refl
destroy_held c own h (destroy.Visit (visit.ReleaseVisitedLock n)) (asks.Released) b an = refl
destroy_held c own h (destroy.Locked (destroy_locked.Release e)) (asks.Released) b an = refl
destroy_held c own h (destroy.Victim (victim.ReleaseVictimLockAbsent f)) (asks.Released) b an = refl
destroy_held c own h (destroy.Outside (destroy_outside.Ended e)) (asks.Word w) b an = refl
destroy_held c own h p r b an = absurd an

destroy_above : (c : DestroyCall) (own : StateWord) (p : DestroyAt) → IsAbove (destroy.ask_of c own p) (destroy.locks_of c p)
destroy_above c own (destroy.Outside destroy_outside.LoadOwn) = tt
destroy_above c own (destroy.Outside destroy_outside.AcquireTable) = λ rank m q. absurd (none_at rank m q)
destroy_above c own (destroy.Locked destroy_locked.LoadCaller) = tt
destroy_above c own (destroy.Locked destroy_locked.AcquireVictimLock) = λ rank m q. table_under rank m q
destroy_above c own (destroy.Victim victim.LoadVictim) = tt
destroy_above c own (destroy.Victim (victim.CommitKill v)) = tt
destroy_above c own (destroy.Victim (victim.LoadSender n)) = tt
destroy_above c own (destroy.Victim (victim.FreeSender n v)) = tt
destroy_above c own (destroy.Victim (victim.AcquireReadyForSender n v)) = λ rank m q. both_below c.who.number rank m q
destroy_above c own (destroy.Pushing (destroy_pushing.PushSender n v)) = tt
destroy_above c own (destroy.Victim victim.ReleaseVictimLock) = tt
destroy_above c own (destroy.Locked destroy_locked.AcquireReadyForVictim) = λ rank m q. table_below rank m q
destroy_above c own (destroy.UnlistVictim) = tt
destroy_above c own (destroy.Locked destroy_locked.RemoveContext) = tt
destroy_above c own (destroy.Locked (destroy_locked.AcquireVisitedLock n)) = λ rank m q. table_under rank m q
destroy_above c own (destroy.Visit (visit.LoadVisited n)) = tt
destroy_above c own (destroy.Visit (visit.FreeVisited n v)) = tt
destroy_above c own (destroy.Visit (visit.AcquireReadyForVisited n v)) = λ rank m q. both_below n rank m q
destroy_above c own (destroy.Pushing (destroy_pushing.PushVisited n v)) = tt
destroy_above c own (destroy.Visit (visit.ReleaseVisitedLock n)) = tt
destroy_above c own (destroy.Locked (destroy_locked.Release e)) = tt
destroy_above c own (destroy.Victim (victim.ReleaseVictimLockAbsent f)) = tt
destroy_above c own (destroy.Outside (destroy_outside.Ended e)) = tt

destroy_mine : (c : DestroyCall) (own : StateWord) (p : DestroyAt) → IsHeld (destroy.ask_of c own p) (destroy.locks_of c p)
destroy_mine c own (destroy.Outside destroy_outside.LoadOwn) = tt
destroy_mine c own (destroy.Outside destroy_outside.AcquireTable) = tt
destroy_mine c own (destroy.Locked destroy_locked.LoadCaller) = tt
destroy_mine c own (destroy.Locked destroy_locked.AcquireVictimLock) = tt
destroy_mine c own (destroy.Victim victim.LoadVictim) = tt
destroy_mine c own (destroy.Victim (victim.CommitKill v)) = tt
destroy_mine c own (destroy.Victim (victim.LoadSender n)) = tt
destroy_mine c own (destroy.Victim (victim.FreeSender n v)) = tt
destroy_mine c own (destroy.Victim (victim.AcquireReadyForSender n v)) = tt
destroy_mine c own (destroy.Pushing (destroy_pushing.PushSender n v)) = refl
destroy_mine c own (destroy.Victim victim.ReleaseVictimLock) = refl
destroy_mine c own (destroy.Locked destroy_locked.AcquireReadyForVictim) = tt
destroy_mine c own (destroy.UnlistVictim) = refl
destroy_mine c own (destroy.Locked destroy_locked.RemoveContext) = tt
destroy_mine c own (destroy.Locked (destroy_locked.AcquireVisitedLock n)) = tt
destroy_mine c own (destroy.Visit (visit.LoadVisited n)) = tt
destroy_mine c own (destroy.Visit (visit.FreeVisited n v)) = tt
destroy_mine c own (destroy.Visit (visit.AcquireReadyForVisited n v)) = tt
destroy_mine c own (destroy.Pushing (destroy_pushing.PushVisited n v)) = refl
destroy_mine c own (destroy.Visit (visit.ReleaseVisitedLock n)) = refl
destroy_mine c own (destroy.Locked (destroy_locked.Release e)) = refl
destroy_mine c own (destroy.Victim (victim.ReleaseVictimLockAbsent f)) = refl
destroy_mine c own (destroy.Outside (destroy_outside.Ended e)) = tt

-- ONE TURN

to_owners : (b : Board) → Named b → Owners (owner_of b) (λ n. locks_at (b.context n).at)
to_owners b h = record { held = λ l i q. h.held l i (by l q); named = λ l i q. back l (h.named l i q) }
  where
    by : (l : Lock) {i : ℕ} → owner_of b l ≡ Some i → owner_by b.owner b.table b.ready l ≡ Some i
    by (lock.Thread n) q = q
    by lock.Table q = q
    by lock.Ready q = q

    back : (l : Lock) {i : ℕ} → owner_by b.owner b.table b.ready l ≡ Some i → owner_of b l ≡ Some i
    back (lock.Thread n) q = q
    back lock.Table q = q
    back lock.Ready q = q

from_owners : (b : Board) → Owners (owner_of b) (λ n. locks_at (b.context n).at) → Named b
from_owners b h = record { held = λ l i q. h.held l i (by l q); named = λ l i q. back l (h.named l i q) }
  where
    by : (l : Lock) {i : ℕ} → owner_by b.owner b.table b.ready l ≡ Some i → owner_of b l ≡ Some i
    by (lock.Thread n) q = q
    by lock.Table q = q
    by lock.Ready q = q

    back : (l : Lock) {i : ℕ} → owner_of b l ≡ Some i → owner_by b.owner b.table b.ready l ≡ Some i
    back (lock.Thread n) q = q
    back lock.Table q = q
    back lock.Ready q = q

module _ (b b' : Board) (i : ℕ) (x : Context) (h : Named b) (a : Ask) (r : Response) (an : Answers b a r) (own : Owns b b' i a r) (up : IsAbove a (locks_at (b.context i).at)) (mine : IsHeld a (locks_at (b.context i).at)) (e : locks_at x.at ≡ locks_after a r (locks_at (b.context i).at)) where
  one_locks : ((n : ℕ) → b'.context n ≡ upd b.context i x n) → Named b'
  one_locks ctx =
      from_owners b' (owners_step b b' i (λ n. locks_at (b.context n).at) (λ n. locks_at (b'.context n).at) (to_owners b h) (three_at (b.context i).at)
      (λ n ne l. let same = ap (λ (y : Context). locks_at y.at) (ctx n ∙ upd_other b.context i x n ne) in (subst (Holds l) same, subst (Holds l) (sym same)))
      a r an (owners_move b b' i a r an own) up mine (ap (λ (y : Context). locks_at y.at) (ctx i ∙ upd_same b.context i x) ∙ e))

  two_locks : (m : ℕ) (y : Context) → ((n : ℕ) → b'.context n ≡ upd (upd b.context m y) i x n) → ((l : Lock) → Holds l (locks_at (b.context m).at) → ⊥) → ((l : Lock) → Holds l (locks_at y.at) → ⊥) → Named b'
  two_locks m y ctx before now =
      from_owners b' (owners_step b b' i (λ n. locks_at (b.context n).at) (λ n. locks_at (b'.context n).at) (to_owners b h) (three_at (b.context i).at) others
      a r an (owners_move b b' i a r an own) up mine (ap (λ (z : Context). locks_at z.at) (ctx i ∙ upd_same (upd b.context m y) i x) ∙ e))
    where
      others : (n : ℕ) → n ≢ i → (l : Lock) → (Holds l (locks_at (b'.context n).at) → Holds l (locks_at (b.context n).at)) × (Holds l (locks_at (b.context n).at) → Holds l (locks_at (b'.context n).at))
      others n ne l = elim (eqb_tells n m) [
        | inl d ↦ ((λ q. absurd (now l (subst (λ (z : Context). Holds l (locks_at z.at)) (ctx n ∙ upd_other (upd b.context m y) i x n ne ∙ ap (upd b.context m y) d.1 ∙ upd_same b.context m y) q))), (λ q. absurd (before l (subst (λ (k : ℕ). Holds l (locks_at (b.context k).at)) d.1 q))))
        | inr d ↦ let same = ap (λ (z : Context). locks_at z.at) (ctx n ∙ upd_other (upd b.context m y) i x n ne ∙ upd_other b.context m y n d.1) in (subst (Holds l) same, subst (Holds l) (sym same))
      ]

-- a step that reads alone
still : (b : Board) (i : ℕ) (x : Context) → Named b → locks_at x.at ≡ locks_at (b.context i).at → Named (placed b i x)
still b i x h e = one_locks b (placed b i x) i x h (asks.Load 0) (asks.Word (b.seen 0).word) refl (refl, refl, refl) tt tt e (λ n. refl)

begun_none : (size : ℕ) (me : ThreadId) (f : Phase) → locks_at (begun_at size me f) ≡ None ∷ None ∷ None ∷ []
begun_none size me (phase.Send to message no_wait joined) = refl
begun_none size me (phase.Reply to message no_wait) = refl
begun_none size me (phase.Receive from no_wait) = refl
begun_none size me (phase.Create program priority) = refl
begun_none size me (phase.Destroy who) = refl
begun_none size me phase.End = refl

switch_held : (c : SwitchCall) (h : Hand) (p : SwitchAt) (r : Response) (b : Board) → is_going p ≡ true → Answers b (switch.ask_of c p) r → switch.locks_of (switch.leads c h p r) ≡ locks_after (switch.ask_of c p) r (switch.locks_of p)
switch_held c h switch.AcquireReady asks.Got b go an = refl
switch_held c h switch.AcquireReady (asks.Owned o) b go an = refl
switch_held c h (switch.Locked (switch_locked.LoadGoal goal)) (asks.Word w) b go an = refl
switch_held c h (switch.Locked (switch_locked.LoadStart back number)) (asks.Word w) b go an = refl
switch_held c h (switch.Locked (switch_locked.ReleaseReady back started)) asks.Released b go an = refl
switch_held c h (switch.Returned s) asks.Released b go an = refl
switch_held c h (switch.Finished s) r b go an = absurd cc
switch_held c h p r b go an = absurd an

switch_above : (c : SwitchCall) (p : SwitchAt) → is_going p ≡ true → IsAbove (switch.ask_of c p) (switch.locks_of p)
switch_above c switch.AcquireReady go = λ rank m q. absurd (none_at rank m q)
switch_above c (switch.Locked (switch_locked.LoadGoal goal)) go = tt
switch_above c (switch.Locked (switch_locked.LoadStart back number)) go = tt
switch_above c (switch.Locked (switch_locked.ReleaseReady back started)) go = tt
switch_above c (switch.Returned s) go = tt
switch_above c (switch.Finished s) go = absurd cc

switch_mine : (c : SwitchCall) (p : SwitchAt) → is_going p ≡ true → IsHeld (switch.ask_of c p) (switch.locks_of p)
switch_mine c switch.AcquireReady go = tt
switch_mine c (switch.Locked (switch_locked.LoadGoal goal)) go = tt
switch_mine c (switch.Locked (switch_locked.LoadStart back number)) go = tt
switch_mine c (switch.Locked (switch_locked.ReleaseReady back started)) go = refl
switch_mine c (switch.Returned s) go = refl
switch_mine c (switch.Finished s) go = absurd cc

module _ (g : Programs) (b : Board) (f : PlacesHold g b) (h : Named b) where
  facts_at : (i : ℕ) (p : At) → (b.context i).at ≡ p → AllSay g b i (b.context i) (facts_of p)
  facts_at i p at = subst (λ (q : At). AllSay g b i (b.context i) (facts_of q)) at (f i)

  vacant : (n : ℕ) (p : At) → (b.context n).at ≡ p → locks_at p ≡ None ∷ None ∷ None ∷ [] → (l : Lock) → Holds l (locks_at (b.context n).at) → ⊥
  vacant n p at e l q = none_held l (subst (Holds l) (ap locks_at at ∙ e) q)

  unowned : (n : ℕ) → ((l : Lock) → owner_of b l ≢ Some n) → (l : Lock) → Holds l (locks_at (b.context n).at) → ⊥
  unowned n none l q = none l ((to_owners b h).named l n q)

  create_locked_turns : (i : ℕ) (c : CreateCall) (p : CreateAt) (r : Response) → (b.context i).at ≡ InCreate c p → Answers b (create.ask_of c (b.context i).own p) r → Named (create_board g b i (b.context i) c p r)
  create_locked_turns i c p r at an = go p r at an (λ m y ctx. two_locks b (create_board g b i (b.context i) c p r) i (create_context (b.context i) c p r (hand_of b [])) h (create.ask_of c (b.context i).own p) r an (refl, refl, refl) up mine e m y ctx) (λ ctx. one_locks b (create_board g b i (b.context i) c p r) i (create_context (b.context i) c p r (hand_of b [])) h (create.ask_of c (b.context i).own p) r an (refl, refl, refl) up mine e ctx)
    where
      up : IsAbove (create.ask_of c (b.context i).own p) (locks_at (b.context i).at)
      up = subst (λ (q : At). IsAbove (create.ask_of c (b.context i).own p) (locks_at q)) (sym at) (create_above c (b.context i).own p)

      mine : IsHeld (create.ask_of c (b.context i).own p) (locks_at (b.context i).at)
      mine = subst (λ (q : At). IsHeld (create.ask_of c (b.context i).own p) (locks_at q)) (sym at) (create_mine c (b.context i).own p)

      e : locks_at (create_at c (create.leads c (hand_of b []) p r)) ≡ locks_after (create.ask_of c (b.context i).own p) r (locks_at (b.context i).at)
      e = create_locks c (create.leads c (hand_of b []) p r) ∙ create_held c (b.context i).own (hand_of b []) p r b an ∙ ap (λ (q : At). locks_after (create.ask_of c (b.context i).own p) r (locks_at q)) (sym at)

      go : (p : CreateAt) (r : Response) → (b.context i).at ≡ InCreate c p → Answers b (create.ask_of c (b.context i).own p) r → ((m : ℕ) (y : Context) → ((n : ℕ) → (create_board g b i (b.context i) c p r).context n ≡ upd (upd b.context m y) i (create_context (b.context i) c p r (hand_of b [])) n) → ((l : Lock) → Holds l (locks_at (b.context m).at) → ⊥) → ((l : Lock) → Holds l (locks_at y.at) → ⊥) → Named (create_board g b i (b.context i) c p r)) → (((n : ℕ) → (create_board g b i (b.context i) c p r).context n ≡ upd b.context i (create_context (b.context i) c p r (hand_of b [])) n) → Named (create_board g b i (b.context i) c p r)) → Named (create_board g b i (b.context i) c p r)
      go (create.Locked (create_locked.PlaceContext id)) asks.Placed at an two one = two id.number (new_context g c id Coming) (λ n. refl) (vacant id.number Nowhere (facts_at i (InCreate c (create.Locked (create_locked.PlaceContext id))) at).1.1.1.1.1.1.1.0.1 refl) none_held
      go (create.Locked (create_locked.CommitCreate id)) asks.Won at an two one = two id.number (new_context g c id (Alone (location.Between None))) (λ n. refl) (vacant id.number Coming (ap (λ (y : Context). y.at) (facts_at i (InCreate c (create.Locked (create_locked.CommitCreate id))) at).1.1.1.1.1.1.1.0.1) refl) none_held
      go p r at an two one = one (λ n. refl)

  destroy_locked_turns : (i : ℕ) (c : DestroyCall) (p : DestroyAt) (r : Response) → (b.context i).at ≡ InDestroy c p → Answers b (destroy.ask_of c (b.context i).own p) r → Named (destroy_board g b i (b.context i) c p r)
  destroy_locked_turns i c p r at an = go p r at an (λ m y ctx. two_locks b (destroy_board g b i (b.context i) c p r) i (destroy_context (b.context i) c p r (hand_of b (b.queue (destroy_number c p)))) h (destroy.ask_of c (b.context i).own p) r an (refl, refl, refl) up mine e m y ctx) (λ ctx. one_locks b (destroy_board g b i (b.context i) c p r) i (destroy_context (b.context i) c p r (hand_of b (b.queue (destroy_number c p)))) h (destroy.ask_of c (b.context i).own p) r an (refl, refl, refl) up mine e ctx)
    where
      up : IsAbove (destroy.ask_of c (b.context i).own p) (locks_at (b.context i).at)
      up = subst (λ (q : At). IsAbove (destroy.ask_of c (b.context i).own p) (locks_at q)) (sym at) (destroy_above c (b.context i).own p)

      mine : IsHeld (destroy.ask_of c (b.context i).own p) (locks_at (b.context i).at)
      mine = subst (λ (q : At). IsHeld (destroy.ask_of c (b.context i).own p) (locks_at q)) (sym at) (destroy_mine c (b.context i).own p)

      e : locks_at (destroy_at c (destroy.leads c (hand_of b (b.queue (destroy_number c p))) p r)) ≡ locks_after (destroy.ask_of c (b.context i).own p) r (locks_at (b.context i).at)
      e = destroy_locks c (destroy.leads c (hand_of b (b.queue (destroy_number c p))) p r) ∙ destroy_held c (b.context i).own (hand_of b (b.queue (destroy_number c p))) p r b an ∙ ap (λ (q : At). locks_after (destroy.ask_of c (b.context i).own p) r (locks_at q)) (sym at)

      go : (p : DestroyAt) (r : Response) → (b.context i).at ≡ InDestroy c p → Answers b (destroy.ask_of c (b.context i).own p) r → ((m : ℕ) (y : Context) → ((n : ℕ) → (destroy_board g b i (b.context i) c p r).context n ≡ upd (upd b.context m y) i (destroy_context (b.context i) c p r (hand_of b (b.queue (destroy_number c p)))) n) → ((l : Lock) → Holds l (locks_at (b.context m).at) → ⊥) → ((l : Lock) → Holds l (locks_at y.at) → ⊥) → Named (destroy_board g b i (b.context i) c p r)) → (((n : ℕ) → (destroy_board g b i (b.context i) c p r).context n ≡ upd b.context i (destroy_context (b.context i) c p r (hand_of b (b.queue (destroy_number c p)))) n) → Named (destroy_board g b i (b.context i) c p r)) → Named (destroy_board g b i (b.context i) c p r)
      go (destroy.Locked destroy_locked.RemoveContext) asks.Removed at an two one = two c.who.number (record (b.context c.who.number) { at = Nowhere }) (λ n. refl) (unowned c.who.number an) none_held
      go p r at an two one = one (λ n. refl)

  pub locks_keep : (i : ℕ) (b' : Board) → Turn g b i b' → Named b'
  locks_keep i _ (sends c p r at an) =
      one_locks b (send_board g b i (b.context i) c p r) i (send_context (b.context i) c p r (hand_of b (b.queue c.to.number))) h (send.ask_of c (b.context i).own p) r an (refl, refl, refl)
      (subst (λ (q : At). IsAbove (send.ask_of c (b.context i).own p) (locks_at q)) (sym at) ((send_runs.rising c).rising (b.context i).own p))
      (subst (λ (q : At). IsHeld (send.ask_of c (b.context i).own p) (locks_at q)) (sym at) ((send_runs.rising c).releasing (b.context i).own p))
      (send_locks c _ ∙ (send_runs.rising c).held (b.context i).own (hand_of b (b.queue c.to.number)) p r (suits_is b (send.ask_of c (b.context i).own p) r an) ∙ ap (λ (q : At). locks_after (send.ask_of c (b.context i).own p) r (locks_at q)) (sym at))
      (λ n. refl)
  locks_keep i _ (receives c p r at an) =
      one_locks b (receive_board g b i (b.context i) c p r) i (receive_context (b.context i) c p r (hand_of b (b.queue i))) h (receive.ask_of c (b.context i).own p) r an (refl, refl, refl)
      (subst (λ (q : At). IsAbove (receive.ask_of c (b.context i).own p) (locks_at q)) (sym at) ((receive_runs.rising c).rising (b.context i).own p))
      (subst (λ (q : At). IsHeld (receive.ask_of c (b.context i).own p) (locks_at q)) (sym at) ((receive_runs.rising c).releasing (b.context i).own p))
      (receive_locks c _ ∙ (receive_runs.rising c).held (b.context i).own (hand_of b (b.queue i)) p r (suits_is b (receive.ask_of c (b.context i).own p) r an) ∙ ap (λ (q : At). locks_after (receive.ask_of c (b.context i).own p) r (locks_at q)) (sym at))
      (λ n. refl)
  locks_keep i _ (creates c p r at an) = create_locked_turns i c p r at an
  locks_keep i _ (destroys c p r at an) = destroy_locked_turns i c p r at an
  locks_keep i _ (goes_alone p r at can an) = one_locks b (alone_board g b i (b.context i) p r) i (alone_context (b.context i) p r) h (asks.Load 0) (asks.Word (b.seen 0).word) refl (refl, refl, refl) tt tt (ap locks_at (sym at)) (λ n. refl)
  locks_keep i _ (begins l f at e) = still b i _ h (begun_none b.size _ f ∙ ap locks_at (sym at))
  locks_keep i _ (turns_to_work l count at e) = still b i _ h (ap locks_at (sym at))
  locks_keep i _ (wakes at) = still b i _ h (ap locks_at (sym at))
  locks_keep i _ (switches c p r at going an) =
      one_locks b (switch_board b i (b.context i) c p r) i (switch_context (b.context i) c p r (hand_of b [])) h (switch.ask_of c p) r an (refl, refl, refl)
      (subst (λ (q : At). IsAbove (switch.ask_of c p) (locks_at q)) (sym at) (switch_above c p going))
      (subst (λ (q : At). IsHeld (switch.ask_of c p) (locks_at q)) (sym at) (switch_mine c p going))
      (switch_held c (hand_of b []) p r b going an ∙ ap (λ (q : At). locks_after (switch.ask_of c p) r (locks_at q)) (sym at))
      (λ n. refl)
  locks_keep i _ (begins_switch c at) = still b i _ h (ap locks_at (sym at))
  locks_keep i _ (ends_switch c q at) = still b i _ h (ap locks_at (sym at))
