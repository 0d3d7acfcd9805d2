-- What the next step of a context does with locks, whatever its section: what it asks for, what it is answered, and what it holds
-- before and after. All laws on locks and ranks follow from this.
use Rattle.std.proofs.Common.{◌≡◌, ℕ, ◌≤◌, false, refl, sym, ap, ◌∙◌, subst, arith, Option, None, List, [], ◌∷◌}
use Rattle.std.proofs.lemmas.Grind.{common_steps}
use Rattle.k_ids.specs.declared.threads.ThreadId.{ThreadId}
use Rattle.k_ids.specs.declared.calls.Reply.{Reply}
use Rattle.k_ids.specs.declared.calls.Phase.{Phase}
use Rattle.k_ids.specs.declared.calls.Phase.TheVariants as phase
use Rattle.k_ids.specs.declared.state_word.StateWord.{StateWord}
use Rattle.k_model.specs.Maps.{upd}
use Rattle.k_model.proofs.Maps.{upd_same}
use Rattle.k_locks.specs.declared.locks.Lock.{Lock}
use Rattle.k_locks.specs.declared.steps.Went.{Went}
use Rattle.k_locks.specs.declared.steps.Went.TheVariants as went
use Rattle.k_locks.specs.Asks.{Ask, Response, Want, want_of}
use Rattle.k_locks.specs.Asks as asks
use Rattle.k_locks.specs.Locks.{Holds, IsByRank, rank_of}
use Rattle.k_locks.specs.Hands.{Hand}
use Rattle.k_locks.specs.Tables.{IsAbove, IsHeld, IsRising, Table, locks_after}
use Rattle.k_script.specs.declared.registers.Next.{Next}
use Rattle.k_script.specs.declared.registers.Next.TheVariants as next
use Rattle.k_ipc.specs.declared.send.SendCall.{SendCall}
use Rattle.k_ipc.specs.declared.send.SendOutside.TheVariants as send_outside
use Rattle.k_ipc.specs.SendTable.{SendAt}
use Rattle.k_ipc.specs.SendTable as send
use Rattle.k_ipc.proofs.SendRuns as send_runs
use Rattle.k_ipc.specs.declared.receive.ReceiveCall.{ReceiveCall}
use Rattle.k_ipc.specs.declared.receive.ReceiveOutside.TheVariants as receive_outside
use Rattle.k_ipc.specs.ReceiveTable.{ReceiveAt}
use Rattle.k_ipc.specs.ReceiveTable as receive
use Rattle.k_ipc.proofs.ReceiveRuns as receive_runs
use Rattle.k_threads.specs.declared.create.CreateCall.{CreateCall}
use Rattle.k_threads.specs.declared.create.CreateOutside.TheVariants as create_outside
use Rattle.k_threads.specs.CreateTable.{CreateAt}
use Rattle.k_threads.specs.CreateTable as create
use Rattle.k_threads.specs.declared.destroy.DestroyCall.{DestroyCall}
use Rattle.k_threads.specs.declared.destroy.DestroyOutside.TheVariants as destroy_outside
use Rattle.k_threads.specs.DestroyTable.{DestroyAt}
use Rattle.k_threads.specs.DestroyTable as destroy
use Rattle.k_caller.specs.declared.thread.ThreadLocation.{ThreadLocation}
use Rattle.k_caller.specs.declared.thread.ThreadLocation.TheVariants as location
use Rattle.k_switch.specs.declared.switch.SwitchCall.{SwitchCall}
use Rattle.k_switch.specs.Switches.{SwitchAt}
use Rattle.k_switch.specs.Switches as switch
use Rattle.k_switch.proofs.SwitchRuns as switch_runs
use Rattle.k_board.specs.Words.{Programs}
use Rattle.k_board.specs.Boards.{At, Alone, InSend, InReceive, InCreate, InDestroy, InSwitch}
use Rattle.k_board.specs.Boards.{Resting, Coming, Nowhere, Context, Board, hand_of, id_at}
use Rattle.k_board.specs.Steps.{Answers, after, begun_at, create_at, create_context, create_contexts}
use Rattle.k_board.specs.Steps.{destroy_at, destroy_context, destroy_contexts, destroy_number}
use Rattle.k_board.specs.Steps.{receive_at, receive_context, send_at, send_context, switch_board}
use Rattle.k_good.specs.Locks.{locks_at}
use Rattle.k_good.proofs.Owners.{IsThree, Named, Owns, suits_is}
use Rattle.k_sections.specs.Situations.{want_at}
use Rattle.k_sections.specs.Stepping.{alone_after, board_after, called_board, response_to, switch_after}
use Rattle.k_sections.proofs.Answered.{response_may}
use Rattle.k_sections.proofs.Tables.{ThreadTables}

-- WHAT A RELEASE LEAVES

-- A lock that is released ranks above all others that are held.
abbrev pub IsLast : Ask → List (Option Lock) → Type 0
IsLast a locks = (l m : Lock) → a ≡ asks.Release l → Holds m locks → rank_of m ≤ rank_of l

send_last : (c : SendCall) (own : StateWord) (p : SendAt) → IsLast (send.ask_of c own p) (send.locks_of c p)
send_last c own (send.Outside p) l m e h = grind (arith, common_steps, e, h)
send_last c own (send.Locked p) l m e h = grind (arith, common_steps, e, h)
send_last c own (send.Pushing p) l m e h = grind (arith, common_steps, e, h)

receive_last : (c : ReceiveCall) (own : StateWord) (p : ReceiveAt) → IsLast (receive.ask_of c own p) (receive.locks_of c p)
receive_last c own (receive.Outside p) l m e h = grind (arith, common_steps, e, h)
receive_last c own (receive.Locked p) l m e h = grind (arith, common_steps, e, h)
receive_last c own (receive.Pushing p) l m e h = grind (arith, common_steps, e, h)

create_last : (c : CreateCall) (own : StateWord) (p : CreateAt) → IsLast (create.ask_of c own p) (create.locks_of c p)
create_last c own (create.Outside p) l m e h = grind (arith, common_steps, e, h)
create_last c own (create.Locked p) l m e h = grind (arith, common_steps, e, h)
create_last c own (create.PushCreated id) l m e h = grind (arith, common_steps, e, h)

destroy_last : (c : DestroyCall) (own : StateWord) (p : DestroyAt) → IsLast (destroy.ask_of c own p) (destroy.locks_of c p)
destroy_last c own (destroy.Outside p) l m e h = grind (arith, common_steps, e, h)
destroy_last c own (destroy.Locked p) l m e h = grind (arith, common_steps, e, h)
destroy_last c own (destroy.Victim p) l m e h = grind (arith, common_steps, e, h)
destroy_last c own (destroy.Visit p) l m e h = grind (arith, common_steps, e, h)
destroy_last c own destroy.UnlistVictim l m e h = grind (arith, common_steps, e, h)
destroy_last c own (destroy.Pushing p) l m e h = grind (arith, common_steps, e, h)

switch_last : (c : SwitchCall) (p : SwitchAt) → IsLast (switch.ask_of c p) (switch.locks_of p)
switch_last c p l m e h = grind (arith, common_steps, e, h)

-- WHAT A LOCATION HOLDS

after_none : (me : ThreadId) (w : Went) → locks_at (after me w) ≡ None ∷ None ∷ None ∷ []
after_none me (went.Ends r) = refl
after_none me went.Waits = refl
after_none me went.Picks = refl
after_none me went.CallerDead = refl
after_none me went.On = refl
after_none me went.Again = refl
after_none me (went.Pushed priority) = refl

send_locks : (c : SendCall) (p : SendAt) → locks_at (send_at c p) ≡ send.locks_of c p
send_locks c (send.Outside (send_outside.Ended w)) = after_none c.caller w
send_locks c (send.Outside send_outside.LoadCaller) = refl
send_locks c (send.Outside send_outside.AcquireReceiver) = refl
send_locks c (send.Outside (send_outside.CheckCaller r)) = refl
send_locks c (send.Locked p) = refl
send_locks c (send.Pushing p) = refl

receive_locks : (c : ReceiveCall) (p : ReceiveAt) → locks_at (receive_at c p) ≡ receive.locks_of c p
receive_locks c (receive.Outside (receive_outside.Ended w)) = after_none c.caller w
receive_locks c (receive.Outside receive_outside.LoadCaller) = refl
receive_locks c (receive.Outside receive_outside.AcquireOwn) = refl
receive_locks c (receive.Locked p) = refl
receive_locks c (receive.Pushing p) = refl

create_locks : (c : CreateCall) (p : CreateAt) → locks_at (create_at c p) ≡ create.locks_of c p
create_locks c (create.Outside (create_outside.Ended w)) = after_none c.caller w
create_locks c (create.Outside create_outside.AcquireTable) = refl
create_locks c (create.Locked p) = refl
create_locks c (create.PushCreated id) = refl

destroy_locks : (c : DestroyCall) (p : DestroyAt) → locks_at (destroy_at c p) ≡ destroy.locks_of c p
destroy_locks c (destroy.Outside (destroy_outside.Ended w)) = after_none c.caller w
destroy_locks c (destroy.Outside destroy_outside.LoadOwn) = refl
destroy_locks c (destroy.Outside destroy_outside.AcquireTable) = refl
destroy_locks c (destroy.Locked p) = refl
destroy_locks c (destroy.Victim p) = refl
destroy_locks c (destroy.Visit p) = refl
destroy_locks c destroy.UnlistVictim = refl
destroy_locks c (destroy.Pushing p) = refl

begun_none : (size : ℕ) (me : ThreadId) (f : Phase) → locks_at (begun_at size me f) ≡ None ∷ None ∷ None ∷ []
begun_none size me (phase.Send to message no_wait joined) = refl
begun_none size me (phase.Reply to message no_wait) = refl
begun_none size me (phase.Receive from no_wait) = refl
begun_none size me (phase.Create program priority) = refl
begun_none size me (phase.Destroy who) = refl
begun_none size me phase.End = refl

three_of : (x y z : Option Lock) → IsThree (x ∷ y ∷ z ∷ [])
three_of x y z = record { table = x; thread = y; ready = z; is = refl }

pub three_at : (p : At) → IsThree (locks_at p)
three_at (Alone p) = three_of _ _ _
three_at Resting = three_of _ _ _
three_at Coming = three_of _ _ _
three_at Nowhere = three_of _ _ _
three_at (InSend c (send.Outside p)) = three_of _ _ _
three_at (InSend c (send.Locked p)) = three_of _ _ _
three_at (InSend c (send.Pushing p)) = three_of _ _ _
three_at (InReceive c (receive.Outside p)) = three_of _ _ _
three_at (InReceive c (receive.Locked p)) = three_of _ _ _
three_at (InReceive c (receive.Pushing p)) = three_of _ _ _
three_at (InCreate c (create.Outside p)) = three_of _ _ _
three_at (InCreate c (create.Locked p)) = three_of _ _ _
three_at (InCreate c (create.PushCreated id)) = three_of _ _ _
three_at (InDestroy c (destroy.Outside p)) = three_of _ _ _
three_at (InDestroy c (destroy.Locked p)) = three_of _ _ _
three_at (InDestroy c (destroy.Victim p)) = three_of _ _ _
three_at (InDestroy c (destroy.Visit p)) = three_of _ _ _
three_at (InDestroy c destroy.UnlistVictim) = three_of _ _ _
three_at (InDestroy c (destroy.Pushing p)) = three_of _ _ _
three_at (InSwitch c switch.AcquireReady) = three_of _ _ _
three_at (InSwitch c (switch.Locked p)) = three_of _ _ _
three_at (InSwitch c (switch.Returned s)) = three_of _ _ _
three_at (InSwitch c (switch.Finished s)) = three_of _ _ _

none_ranked : IsByRank (None ∷ None ∷ None ∷ [])
none_ranked =
    (switch_runs.rises (record { goal = None; start = None; counted = false; slice_ended = false })).ranked switch.AcquireReady

pub ranked_at : ThreadTables → (p : At) → IsByRank (locks_at p)
ranked_at tables (Alone p) = none_ranked
ranked_at tables Resting = none_ranked
ranked_at tables Coming = none_ranked
ranked_at tables Nowhere = none_ranked
ranked_at tables (InSend c p) = (send_runs.rising c).ranked p
ranked_at tables (InReceive c p) = (receive_runs.rising c).ranked p
ranked_at tables (InCreate c p) = (tables.create_rises c).ranked p
ranked_at tables (InDestroy c p) = (tables.destroy_rises c).ranked p
ranked_at tables (InSwitch c p) = (switch_runs.rises c).ranked p

-- ONE STEP

pub record LockStep (b b' : Board) (i : ℕ) (p : At) : Type 0 where
  pub ask : Ask
  pub response : Response
  pub may : Answers b ask response
  pub owns : Owns b b' i ask response
  pub wants : want_at (b.context i).own p ≡ want_of ask
  pub above : IsAbove ask (locks_at p)
  pub mine : IsHeld ask (locks_at p)
  pub last : IsLast ask (locks_at p)
  pub onward : locks_at (b'.context i).at ≡ locks_after ask response (locks_at p)

module _ (b : Board) (h : Named b) (i : ℕ) where
  -- one context moves, and no lock does
  still_step : (x : Context) (p : At) → want_at (b.context i).own p ≡ None → locks_at p ≡ None ∷ None ∷ None ∷ [] →
      locks_at x.at ≡ None ∷ None ∷ None ∷ [] → (b' : Board) → b'.owner ≡ b.owner → b'.table ≡ b.table → b'.ready ≡ b.ready →
      ((n : ℕ) → b'.context n ≡ upd b.context i x n) → LockStep b b' i p
  still_step x p w e e' b' o t r ctx = record {
    ask = asks.Load 0;
    response = asks.Word (b.seen 0).word;
    may = refl;
    owns = (o, t, r);
    wants = w;
    above = tt;
    mine = tt;
    last = λ l m e q. absurd cc;
    onward = ap (λ (y : Context). locks_at y.at) (ctx i ∙ upd_same b.context i x) ∙ e' ∙ sym e;
  }

  -- nothing moves
  no_step : (p : At) → (b.context i).at ≡ p → want_at (b.context i).own p ≡ None → LockStep b b i p
  no_step p at w = record {
    ask = asks.Load 0;
    response = asks.Word (b.seen 0).word;
    may = refl;
    owns = (refl, refl, refl);
    wants = w;
    above = tt;
    mine = tt;
    last = λ l m e q. absurd cc;
    onward = ap locks_at at;
  }

  called_step : (g : Programs) (last : Option Reply) (n : Next) →
      LockStep b (called_board g b i last n) i (Alone (location.Between last))
  called_step g last (next.Phase f) =
      still_step _ (Alone (location.Between last)) refl refl (begun_none b.size (id_at b i) f) _ refl refl refl (λ n. refl)
  called_step g last (next.Work count) = still_step _ (Alone (location.Between last)) refl refl refl _ refl refl refl (λ n. refl)

  alone_step : (g : Programs) (q : ThreadLocation) → (b.context i).at ≡ Alone q → LockStep b (alone_after g b i q) i (Alone q)
  alone_step g (location.Between last) at = called_step g last (g.next (b.context i).position last)
  alone_step g location.Asleep at = still_step _ (Alone location.Asleep) refl refl refl _ refl refl refl (λ n. refl)
  alone_step g location.Ended at = no_step (Alone location.Ended) at refl
  alone_step g location.Dead at = no_step (Alone location.Dead) at refl
  alone_step g location.FallAsleep at = still_step _ (Alone location.FallAsleep) refl refl refl _ refl refl refl (λ n. refl)
  alone_step g location.LookAgain at = still_step _ (Alone location.LookAgain) refl refl refl _ refl refl refl (λ n. refl)
  alone_step g (location.LoadMail from) at =
      still_step _ (Alone (location.LoadMail from)) refl refl refl _ refl refl refl (λ n. refl)
  alone_step g (location.Work count) at = still_step _ (Alone (location.Work count)) refl refl refl _ refl refl refl (λ n. refl)
  alone_step g location.CommitEnd at = still_step _ (Alone location.CommitEnd) refl refl refl _ refl refl refl (λ n. refl)

  -- by the table of a section
  table_step : {L : Type 0} (t : Table L) → IsRising t → (own : StateWord) (hand : Hand) (l : L) (p : At) →
      locks_at p ≡ t.locks l → want_at (b.context i).own p ≡ want_of (t.ask own l) → IsLast (t.ask own l) (t.locks l) →
      (b' : Board) → Owns b b' i (t.ask own l) (response_to b (t.ask own l)) →
      locks_at (b'.context i).at ≡ t.locks (t.leads hand l (response_to b (t.ask own l))) → LockStep b b' i p
  table_step t rises own hand l p e w last b' owns onward =
      let a = t.ask own l in
      let may = response_may b h a in
      record {
        ask = a;
        response = response_to b a;
        may = may;
        owns = owns;
        wants = w;
        above = subst (IsAbove a) (sym e) (rises.rising own l);
        mine = subst (IsHeld a) (sym e) (rises.releasing own l);
        last = subst (IsLast a) (sym e) last;
        onward =
            onward ∙ rises.held own hand l (response_to b a) (suits_is b a (response_to b a) may)
            ∙ ap (locks_after a (response_to b a)) (sym e);
      }

  switch_asked : (c : SwitchCall) (p : SwitchAt) → LockStep b
      (switch_board b i (b.context i) c p (response_to b (switch.ask_of c p))) i (InSwitch c p)
  switch_asked c p =
      table_step (switch.switch_table c) (switch_runs.rises c) (b.context i).own (hand_of b []) p (InSwitch c p) refl refl
      (switch_last c p) _ (refl, refl, refl) (ap (λ (y : Context). locks_at y.at) (upd_same b.context i _))

  switch_step : (c : SwitchCall) (p : SwitchAt) → LockStep b (switch_after b i c p) i (InSwitch c p)
  switch_step c (switch.Finished s) = still_step _ (InSwitch c (switch.Finished s)) refl refl refl _ refl refl refl (λ n. refl)
  switch_step c switch.AcquireReady = switch_asked c switch.AcquireReady
  switch_step c (switch.Locked p) = switch_asked c (switch.Locked p)
  switch_step c (switch.Returned s) = switch_asked c (switch.Returned s)

  pub lock_step : ThreadTables → (g : Programs) (calls : Board → ℕ → SwitchCall) (p : At) → (b.context i).at ≡ p →
      LockStep b (board_after g calls b i p) i p
  lock_step tables g calls (Alone q) at = alone_step g q at
  lock_step tables g calls (InSend c q) at =
      let x = b.context i in
      let r = response_to b (send.ask_of c x.own q) in
      let hand = hand_of b (b.queue c.to.number) in
      table_step (send.send_table c) (send_runs.rising c) x.own hand q (InSend c q) refl refl (send_last c x.own q) _
      (refl, refl, refl)
      (ap (λ (y : Context). locks_at y.at) (upd_same b.context i (send_context x c q r hand))
      ∙ send_locks c (send.leads c hand q r))
  lock_step tables g calls (InReceive c q) at =
      let x = b.context i in
      let r = response_to b (receive.ask_of c x.own q) in
      let hand = hand_of b (b.queue i) in
      table_step (receive.receive_table c) (receive_runs.rising c) x.own hand q (InReceive c q) refl refl
      (receive_last c x.own q) _ (refl, refl, refl)
      (ap (λ (y : Context). locks_at y.at) (upd_same b.context i (receive_context x c q r hand))
      ∙ receive_locks c (receive.leads c hand q r))
  lock_step tables g calls (InCreate c q) at =
      let x = b.context i in
      let r = response_to b (create.ask_of c x.own q) in
      let hand = hand_of b [] in
      table_step (create.create_table c) (tables.create_rises c) x.own hand q (InCreate c q) refl refl (create_last c x.own q) _
      (refl, refl, refl)
      (ap (λ (y : Context). locks_at y.at) (upd_same (create_contexts g c q r b.context) i (create_context x c q r hand))
      ∙ create_locks c (create.leads c hand q r))
  lock_step tables g calls (InDestroy c q) at =
      let x = b.context i in
      let r = response_to b (destroy.ask_of c x.own q) in
      let hand = hand_of b (b.queue (destroy_number c q)) in
      table_step (destroy.destroy_table c) (tables.destroy_rises c) x.own hand q (InDestroy c q) refl refl
      (destroy_last c x.own q) _ (refl, refl, refl)
      (ap (λ (y : Context). locks_at y.at) (upd_same (destroy_contexts c q r b.context) i (destroy_context x c q r hand))
      ∙ destroy_locks c (destroy.leads c hand q r))
  lock_step tables g calls (InSwitch c q) at = switch_step c q
  lock_step tables g calls Resting at = still_step _ Resting refl refl refl _ refl refl refl (λ n. refl)
  lock_step tables g calls Coming at = no_step Coming at refl
  lock_step tables g calls Nowhere at = no_step Nowhere at refl
