-- The list of numbers agrees with the words after any turn; and so the number that a create chooses is unused.
use Rattle.std.proofs.Common.{◌≡◌, ◌≢◌, ℕ, Bool, true, false, refl, sym, ap, ◌∙◌, subst, [], ◌∷◌, Option, Some, None, not}
use Rattle.std.specs.Prelude.{length}
use Rattle.std.proofs.lemmas.Bool.{and_parts}
use Rattle.k_model.proofs.Maps.{lowest-Some}
use Rattle.k_locks.specs.declared.locks.Lock.TheVariants as lock
use Rattle.k_locks.specs.Asks.{Response}
use Rattle.k_locks.specs.Locks.{Holds}
use Rattle.k_locks.specs.Numbers.{is_free, is_present, lowest_free}
use Rattle.k_locks.specs.Shown.{is_dead}
use Rattle.k_ipc.specs.declared.send.SendCall.{SendCall}
use Rattle.k_ids.specs.declared.state_word.StateWord.{StateWord}
use Rattle.k_ipc.specs.declared.send.SendOutside.TheVariants as send_outside
use Rattle.k_ipc.specs.declared.send.SendLocked.TheVariants as send_locked
use Rattle.k_ipc.specs.declared.send.SendPushing.TheVariants as send_pushing
use Rattle.k_ipc.specs.declared.receive.ReceiveOutside.TheVariants as receive_outside
use Rattle.k_ipc.specs.declared.receive.ReceiveLocked.TheVariants as receive_locked
use Rattle.k_ipc.specs.declared.receive.ReceivePushing.TheVariants as receive_pushing
use Rattle.k_ipc.specs.SendTable.{SendAt}
use Rattle.k_ipc.specs.SendTable as send
use Rattle.k_ipc.specs.declared.receive.ReceiveCall.{ReceiveCall}
use Rattle.k_ipc.specs.ReceiveTable.{ReceiveAt}
use Rattle.k_ipc.specs.ReceiveTable as receive
use Rattle.k_threads.specs.declared.create.CreateCall.{CreateCall}
use Rattle.k_threads.specs.declared.create.CreateLocked.TheVariants as create_locked
use Rattle.k_threads.specs.CreateTable as create
use Rattle.k_threads.specs.Words.{dead_word}
use Rattle.k_caller.specs.declared.thread.ThreadLocation.TheVariants as location
use Rattle.k_caller.specs.declared.thread.ThreadLocation.{ThreadLocation}
use Rattle.k_switch.specs.declared.switch.SwitchCall.{SwitchCall}
use Rattle.k_switch.specs.declared.switch.SwitchLocked.TheVariants as switch_locked
use Rattle.k_switch.specs.Switches.{SwitchAt}
use Rattle.k_switch.specs.Switches as switch
use Rattle.k_board.specs.Words.{Programs}
use Rattle.k_board.specs.Boards.{At, Alone, InSend, InReceive, InCreate, InDestroy, InSwitch, Resting, Context, Board, hand_of, id_at}
use Rattle.k_board.specs.Facts.{AllSay}
use Rattle.k_board.specs.Places.{PlacesHold, facts_of}
use Rattle.k_board.specs.Moves.{same}
use Rattle.k_board.specs.Steps.{alone_board, alone_context, begun, begun_at, placed, receive_board, receive_context, send_board, send_context, switch_board, switch_context, table_owned, working}
use Rattle.k_board.specs.Turns.{IsUnused, Supports, Turn, sends, receives, creates, destroys, goes_alone, begins, turns_to_work, wakes, switches, begins_switch, ends_switch}
use Rattle.k_board.proofs.Goes.{create_me, destroy_me}
use Rattle.k_board.proofs.Turning.{turn_changes}
use Rattle.k_good.specs.Locks.{locks_at}
use Rattle.k_good.specs.Numbers.{by_owner, killed_at, made_at, there_at}
use Rattle.k_good.proofs.Owners.{Named}
use Rattle.k_good.proofs.Numbers.{IsQuiet, Numbered, begun_quiet, quiet_step, receive_quiet, send_quiet}
use Rattle.k_good.proofs.NumberTurns.{create_numbers}
use Rattle.k_good.proofs.NumberDestroys.{destroy_numbers}

send_table : (c : SendCall) (p : SendAt) → Holds lock.Table (send.locks_of c p) → ⊥
send_table c (send.Outside p) q = cc
send_table c (send.Locked p) q = cc
send_table c (send.Pushing p) q = cc

receive_table : (c : ReceiveCall) (p : ReceiveAt) → Holds lock.Table (receive.locks_of c p) → ⊥
receive_table c (receive.Outside p) q = cc
receive_table c (receive.Locked p) q = cc
receive_table c (receive.Pushing p) q = cc

switch_table : (p : SwitchAt) → Holds lock.Table (switch.locks_of p) → ⊥
switch_table switch.AcquireReady q = cc
switch_table (switch.Locked p) q = cc
switch_table (switch.Returned s) q = cc
switch_table (switch.Finished s) q = cc

none_table : Holds lock.Table (None ∷ None ∷ None ∷ []) → ⊥
none_table q = cc

at_quiet : (p q : At) → p ≡ q → IsQuiet q → IsQuiet p
at_quiet p q e h = subst IsQuiet (sym e) h

alone_quiet : (p : ThreadLocation) → IsQuiet (Alone p)
alone_quiet p = record { made = λ t. refl; killed = λ t. refl; there = λ t. refl; somewhere = λ q. absurd cc }

switch_quiet : (c : SwitchCall) (p : SwitchAt) → IsQuiet (InSwitch c p)
switch_quiet c p = record { made = λ t. refl; killed = λ t. refl; there = λ t. refl; somewhere = λ q. absurd cc }

rest_quiet : IsQuiet Resting
rest_quiet = record { made = λ t. refl; killed = λ t. refl; there = λ t. refl; somewhere = λ q. absurd cc }

send_here : (c : SendCall) (p : SendAt) → IsQuiet (InSend c p)
send_here c p = record { made = λ t. refl; killed = λ t. refl; there = λ t. refl; somewhere = λ q. absurd cc }

receive_here : (c : ReceiveCall) (p : ReceiveAt) → IsQuiet (InReceive c p)
receive_here c p = record { made = λ t. refl; killed = λ t. refl; there = λ t. refl; somewhere = λ q. absurd cc }

-- The table lock is no business of a send, a receive or a switch.
send_owns : (b : Board) (i : ℕ) (o : Option ℕ) (c : SendCall) (own : StateWord) (p : SendAt) (r : Response) → table_owned o i (send.ask_of c own p) r ≡ o
send_owns b i o c own (send.Outside send_outside.LoadCaller) r = refl
send_owns b i o c own (send.Outside send_outside.AcquireReceiver) r = refl
send_owns b i o c own (send.Outside (send_outside.CheckCaller q)) r = refl
send_owns b i o c own (send.Outside (send_outside.Ended w)) r = refl
send_owns b i o c own (send.Locked send_locked.LoadReceiver) r = refl
send_owns b i o c own (send.Locked (send_locked.StoreMail w)) r = refl
send_owns b i o c own (send.Locked (send_locked.CommitPass w)) r = refl
send_owns b i o c own (send.Locked (send_locked.WakeReceiver w)) r = refl
send_owns b i o c own (send.Locked send_locked.ReloadReceiver) r = refl
send_owns b i o c own (send.Locked (send_locked.AcquireReady priority)) r = refl
send_owns b i o c own (send.Locked send_locked.CommitWait) r = refl
send_owns b i o c own (send.Locked (send_locked.Release q)) r = refl
send_owns b i o c own (send.Pushing (send_pushing.PushReceiver priority)) r = refl

receive_owns : (b : Board) (i : ℕ) (o : Option ℕ) (c : ReceiveCall) (own : StateWord) (p : ReceiveAt) (r : Response) → table_owned o i (receive.ask_of c own p) r ≡ o
receive_owns b i o c own (receive.Outside receive_outside.LoadCaller) r = refl
receive_owns b i o c own (receive.Outside receive_outside.AcquireOwn) r = refl
receive_owns b i o c own (receive.Outside (receive_outside.Ended w)) r = refl
receive_owns b i o c own (receive.Locked receive_locked.LoadOwn) r = refl
receive_owns b i o c own (receive.Locked (receive_locked.LoadSender e)) r = refl
receive_owns b i o c own (receive.Locked (receive_locked.FreeSender e w)) r = refl
receive_owns b i o c own (receive.Locked (receive_locked.AcquireReady e)) r = refl
receive_owns b i o c own (receive.Locked receive_locked.CommitWait) r = refl
receive_owns b i o c own (receive.Locked (receive_locked.LoadPartner q)) r = refl
receive_owns b i o c own (receive.Locked (receive_locked.CommitGone q)) r = refl
receive_owns b i o c own (receive.Locked receive_locked.LoadPicking) r = refl
receive_owns b i o c own (receive.Locked (receive_locked.LoadNext e)) r = refl
receive_owns b i o c own (receive.Locked (receive_locked.FreeNext e w)) r = refl
receive_owns b i o c own (receive.Locked (receive_locked.EndPick e w)) r = refl
receive_owns b i o c own (receive.Locked receive_locked.SettlePick) r = refl
receive_owns b i o c own (receive.Locked (receive_locked.Release q)) r = refl
receive_owns b i o c own (receive.Pushing (receive_pushing.LoadFreed e)) r = refl
receive_owns b i o c own (receive.Pushing (receive_pushing.PushFreed e w)) r = refl

switch_owns : (o : Option ℕ) (i : ℕ) (c : SwitchCall) (p : SwitchAt) (r : Response) → table_owned o i (switch.ask_of c p) r ≡ o
switch_owns o i c switch.AcquireReady r = refl
switch_owns o i c (switch.Locked (switch_locked.LoadGoal goal)) r = refl
switch_owns o i c (switch.Locked (switch_locked.LoadStart back number)) r = refl
switch_owns o i c (switch.Locked (switch_locked.ReleaseReady back started)) r = refl
switch_owns o i c (switch.Returned s) r = refl
switch_owns o i c (switch.Finished s) r = refl

module _ (g : Programs) (b : Board) (f : PlacesHold g b) (l : Named b) (h : Numbered b) where
  facts_at : (i : ℕ) (p : At) → (b.context i).at ≡ p → AllSay g b i (b.context i) (facts_of p)
  facts_at i p at = subst (λ (q : At). AllSay g b i (b.context i) (facts_of q)) at (f i)

  -- a context at a location without the table lock doesn't own it
  unowned : (i : ℕ) (p : At) → (b.context i).at ≡ p → (Holds lock.Table (locks_at p) → ⊥) → b.table ≢ Some i
  unowned i p at none o = none (subst (λ (q : At). Holds lock.Table (locks_at q)) at (l.held lock.Table i o))

  rests : (i : ℕ) (x : Context) (p : At) → (b.context i).at ≡ p → (Holds lock.Table (locks_at p) → ⊥) → IsQuiet p → IsQuiet x.at → Numbered (placed b i x)
  rests i x p at none was now = quiet_step b (placed b i x) i x h refl refl (unowned i p at none) (λ t. same t) (λ n. refl) (at_quiet _ _ at was) now

  pub numbers_keep : (i : ℕ) (b' : Board) → Supports b i → Turn g b i b' → Numbered b'
  numbers_keep i _ s (sends c p r at an) =
      let b' = send_board g b i (b.context i) c p r in
      quiet_step b b' i (send_context (b.context i) c p r (hand_of b (b.queue c.to.number))) h refl (send_owns b i b.table c (b.context i).own p r) (unowned i (InSend c p) at (send_table c p)) (turn_changes g b f i b' s (sends c p r at an)) (λ n. refl) (at_quiet _ _ at (send_here c p)) (send_quiet c _)
  numbers_keep i _ s (receives c p r at an) =
      let b' = receive_board g b i (b.context i) c p r in
      quiet_step b b' i (receive_context (b.context i) c p r (hand_of b (b.queue i))) h refl (receive_owns b i b.table c (b.context i).own p r) (unowned i (InReceive c p) at (receive_table c p)) (turn_changes g b f i b' s (receives c p r at an)) (λ n. refl) (at_quiet _ _ at (receive_here c p)) (receive_quiet c _)
  numbers_keep i _ s (creates c p r at an) = create_numbers g b i h c p r at (create_me g b i (b.context i) c p (facts_at i (InCreate c p) at)) an (facts_at i (InCreate c p) at)
  numbers_keep i _ s (destroys c p r at an) = destroy_numbers g b i h c p r at (destroy_me g b i (b.context i) c p (facts_at i (InDestroy c p) at)) an (facts_at i (InDestroy c p) at)
  numbers_keep i _ s (goes_alone p r at can an) =
      quiet_step b (alone_board g b i (b.context i) p r) i (alone_context (b.context i) p r) h refl refl (unowned i (Alone p) at none_table) (turn_changes g b f i (alone_board g b i (b.context i) p r) s (goes_alone p r at can an)) (λ n. refl) (at_quiet _ _ at (alone_quiet p)) (alone_quiet _)
  numbers_keep i _ s (begins m q at e) = rests i (begun g (b.context i) m (begun_at b.size (id_at b i) q)) (Alone (location.Between m)) at none_table (alone_quiet _) (begun_quiet b.size (id_at b i) q)
  numbers_keep i _ s (turns_to_work m count at e) = rests i (working g (b.context i) m count) (Alone (location.Between m)) at none_table (alone_quiet _) (alone_quiet _)
  numbers_keep i _ s (wakes at) = rests i (record (b.context i) { at = Alone location.LookAgain }) (Alone location.Asleep) at none_table (alone_quiet _) (alone_quiet _)
  numbers_keep i _ s (switches c p r at going an) =
      quiet_step b (switch_board b i (b.context i) c p r) i (switch_context (b.context i) c p r (hand_of b [])) h refl (switch_owns b.table i c p r) (unowned i (InSwitch c p) at (switch_table p)) (λ t. same t) (λ n. refl) (at_quiet _ _ at (switch_quiet c p)) (switch_quiet c _)
  numbers_keep i _ s (begins_switch c at) = rests i (record (b.context i) { at = InSwitch c switch.AcquireReady }) Resting at none_table rest_quiet (switch_quiet c _)
  numbers_keep i _ s (ends_switch c q at) = rests i (record (b.context i) { at = Resting }) (InSwitch c (switch.Finished q)) at (switch_table (switch.Finished q)) (switch_quiet c _) rest_quiet

  -- the number that a create chooses
  pub unused_is : (i n : ℕ) (c : CreateCall) → (b.context i).at ≡ InCreate c (create.Locked create_locked.LoadCaller) → lowest_free b.numbers ≡ Some n → IsUnused b n
  unused_is i n c at e = (h.spelled n dead ∙ ap dead_word (sym (h.version n (quiet made_at refl))), h.vacant n (lowest-Some (is_free b.numbers) (length b.numbers.versions) n e).0 dead (quiet there_at refl))
    where
      quiet : (test : At → ℕ → Bool) → test (InCreate c (create.Locked create_locked.LoadCaller)) n ≡ false → by_owner test b.table b.context n ≡ false
      quiet test q = ap (λ (o : Option ℕ). by_owner test o b.context n) (facts_at i (InCreate c (create.Locked create_locked.LoadCaller)) at).0 ∙ ap (λ (p : At). test p n) at ∙ q

      absent : is_present b.numbers n ≡ false
      absent = not_true (is_present b.numbers n) (and_parts _ _ (lowest-Some (is_free b.numbers) (length b.numbers.versions) n e).1).0
        where
          not_true : (a : Bool) → not a ≡ true → a ≡ false
          not_true true q = sym q
          not_true false q = refl

      dead : is_dead (b.seen n).word ≡ true
      dead = not_false (is_dead (b.seen n).word) (sym (h.present n (quiet made_at refl) (quiet killed_at refl)) ∙ absent)
        where
          not_false : (a : Bool) → not a ≡ false → a ≡ true
          not_false true q = refl
          not_false false q = sym q
