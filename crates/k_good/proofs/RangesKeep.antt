-- A board stays within its ranges after any turn.
use Rattle.std.proofs.Common.{◌≡◌, ◌≢◌, ℕ, ◌+◌, ◌≤◌, ◌<◌, Bool, true, false, refl, sym, ap, ◌∙◌, subst, arith, None, List, [], inl, inr}
use Rattle.std.specs.Prelude.{length, nat_lt}
use Rattle.std.proofs.lemmas.Bool.{and_parts}
use Rattle.std.proofs.lemmas.Bool.Decides.{eqb_tells, nat_tests}
use Rattle.std.proofs.lemmas.List.{length-set}
use Rattle.k_ids.specs.declared.threads.ThreadId.{ThreadId}
use Rattle.k_model.specs.Maps.{upd}
use Rattle.k_model.specs.Step.{last_version}
use Rattle.k_model.proofs.Maps.{lowest-Some, upd_same, upd_other}
use Rattle.k_locks.specs.Asks.{Response}
use Rattle.k_locks.specs.Asks as asks
use Rattle.k_locks.specs.Numbers.{is_free, version_at}
use Rattle.k_ipc.specs.declared.send.SendCall.{SendCall}
use Rattle.k_ipc.specs.SendTable as send
use Rattle.k_ipc.specs.declared.receive.ReceiveCall.{ReceiveCall}
use Rattle.k_ipc.specs.ReceiveTable as receive
use Rattle.k_threads.specs.declared.create.CreateCall.{CreateCall}
use Rattle.k_threads.specs.declared.create.CreateLocked.TheVariants as create_locked
use Rattle.k_threads.specs.declared.create.CreateRelease.TheVariants as create_release
use Rattle.k_threads.specs.CreateTable.{CreateAt}
use Rattle.k_threads.specs.CreateTable as create
use Rattle.k_threads.specs.declared.destroy.DestroyLocked.TheVariants as destroy_locked
use Rattle.k_threads.specs.DestroyTable.{DestroyAt}
use Rattle.k_threads.specs.DestroyTable as destroy
use Rattle.k_script.specs.Plays.{IsInRange}
use Rattle.k_caller.specs.declared.thread.ThreadLocation.TheVariants as location
use Rattle.k_caller.specs.Waits as alone
use Rattle.k_ipc.specs.declared.send.Manner.{Manner}
use Rattle.k_ipc.specs.declared.send.Manner.TheVariants as manner
use Rattle.k_ipc.specs.declared.send.SendOutside.TheVariants.{LoadCaller, AcquireReceiver, CheckCaller, Ended}
use Rattle.k_ipc.specs.declared.send.SendLocked.TheVariants.{LoadReceiver, StoreMail, CommitPass, WakeReceiver, ReloadReceiver, AcquireReady, CommitWait, Release}
use Rattle.k_ipc.specs.declared.send.SendRelease.TheVariants as release
use Rattle.k_ipc.specs.declared.send.SendPushing.TheVariants.{PushReceiver}
use Rattle.k_ipc.specs.SendTable.{SendAt, Outside, Locked, Pushing}
use Rattle.k_ipc.specs.declared.receive.ReceiveOutside.TheVariants as outside
use Rattle.k_ipc.specs.declared.receive.ReceiveLocked.TheVariants as locked
use Rattle.k_ipc.specs.declared.receive.ReceiveRelease.TheVariants as returns
use Rattle.k_ipc.specs.declared.receive.ReceivePushing.TheVariants as pushing
use Rattle.k_ipc.specs.ReceiveTable.{ReceiveAt, still_waits}
use Rattle.k_threads.specs.declared.destroy.DestroyVictim.TheVariants as victim
use Rattle.k_threads.specs.declared.destroy.DestroyPushing.TheVariants as pushing_of
use Rattle.k_threads.specs.declared.destroy.DestroyVisit.TheVariants as visit_of
use Rattle.k_threads.specs.declared.destroy.DestroyRelease.TheVariants as destroy_release
use Rattle.k_threads.specs.Goods.{rest}
use Rattle.k_switch.specs.Switches as switch
use Rattle.std.proofs.Common.{cond}
use Rattle.k_board.specs.Facts.{Fact}
use Rattle.k_board.specs.Places.{facts_receive, facts_send, sender}
use Rattle.k_board.specs.Places.{begins as begins_facts}
use Rattle.k_board.specs.Words.{Programs, Seen}
use Rattle.k_board.specs.Boards.{At, Alone, InSend, InReceive, InCreate, InDestroy, InSwitch, Resting, Coming, Nowhere, Board, Context, hand_of, id_at}
use Rattle.k_board.specs.Facts.{AllSay}
use Rattle.k_board.specs.Moves.{Change, same, calls, settles, passes, delivers, takes, joins, frees_sender, frees_receiver, kills, makes, leaves, posts}
use Rattle.k_board.specs.Places.{PlacesHold, facts_create, facts_of}
use Rattle.k_board.specs.Steps.{alone_board, alone_context, begun, begun_at, create_board, create_context, destroy_board, destroy_context, destroy_number, new_context, placed, receive_board, receive_context, send_board, send_context, switch_board, switch_context, working}
use Rattle.k_board.specs.Turns.{Supports, Turn, sends, receives, creates, destroys, goes_alone, begins, turns_to_work, wakes, switches, begins_switch, ends_switch}
use Rattle.k_board.proofs.Turning.{turn_changes}
use Rattle.k_good.specs.Ranges.{FitsAt, FitsState, IsWithin, NamesFit, is_threads}
use Rattle.k_good.proofs.Ranges.{alone_asks, alone_fits, begun_fits, create_asks, create_fits, destroy_asks, destroy_fits, receive_asks, receive_fits, send_asks, send_fits, words_fit}

coming_not : (p : At) → p ≡ Coming → is_threads p ≡ true → ⊥
coming_not p e q = grind (arith, e)

sender_caller : (g : Programs) (b : Board) (i : ℕ) (x : Context) (m : Manner) (me : ThreadId) (fs : List Fact) → AllSay g b i x (sender m me fs) → (me.number ≡ i) × (me.version ≡ (b.seen i).word.version)
sender_caller g b i x manner.Plain me fs h = h.0
sender_caller g b i x manner.Joined me fs h = h.0
sender_caller g b i x manner.Reply me fs h = h.0

begins_caller : (g : Programs) (b : Board) (i : ℕ) (x : Context) (c : ReceiveCall) (p : Bool) → AllSay g b i x (begins_facts p c) → (c.caller.number ≡ i) × (c.caller.version ≡ (b.seen i).word.version)
begins_caller g b i x c true h = h.1.0
begins_caller g b i x c false h = h.1.0

pub send_caller : (g : Programs) (b : Board) (i : ℕ) (x : Context) (c : SendCall) (p : SendAt) → AllSay g b i x (facts_send c p) → (c.caller.number ≡ i) × (c.caller.version ≡ (b.seen i).word.version)
send_caller g b i x c (Outside LoadCaller) h = h.1.0
send_caller g b i x c (Outside AcquireReceiver) h = h.1.0
send_caller g b i x c (Locked LoadReceiver) h = h.1.1.0
send_caller g b i x c (Locked (StoreMail w)) h = h.1.1.0
send_caller g b i x c (Locked (CommitPass w)) h = h.1.1.1.0
send_caller g b i x c (Locked (WakeReceiver w)) h = sender_caller g b i x c.manner c.caller _ h
send_caller g b i x c (Locked ReloadReceiver) h = sender_caller g b i x c.manner c.caller _ h
send_caller g b i x c (Locked (AcquireReady priority)) h = sender_caller g b i x c.manner c.caller _ h
send_caller g b i x c (Pushing (PushReceiver priority)) h = sender_caller g b i x c.manner c.caller _ h
send_caller g b i x c (Locked (Release release.Passed)) h = sender_caller g b i x c.manner c.caller _ h
send_caller g b i x c (Locked (Release release.Dead)) h = h.1.1.0
send_caller g b i x c (Locked (Release (release.Refused r))) h = h.1.0
send_caller g b i x c (Outside (CheckCaller r)) h = h.0
send_caller g b i x c (Locked CommitWait) h = h.1.1.0
send_caller g b i x c (Locked (Release release.Queued)) h = h.0
send_caller g b i x c (Outside (Ended w)) h = absurd h.0

pub receive_caller : (g : Programs) (b : Board) (i : ℕ) (x : Context) (c : ReceiveCall) (p : ReceiveAt) → AllSay g b i x (facts_receive c p) → (c.caller.number ≡ i) × (c.caller.version ≡ (b.seen i).word.version)
receive_caller g b i x c (receive.Outside outside.LoadCaller) h = h.1.0
receive_caller g b i x c (receive.Outside outside.AcquireOwn) h = begins_caller g b i x c c.picks h
receive_caller g b i x c (receive.Locked locked.LoadOwn) h = h.1.1.0
receive_caller g b i x c (receive.Locked (locked.LoadSender e)) h = h.1.1.0
receive_caller g b i x c (receive.Locked (locked.FreeSender e w)) h = h.1.1.1.0
receive_caller g b i x c (receive.Locked (locked.AcquireReady e)) h = h.1.0
receive_caller g b i x c (receive.Pushing (pushing.LoadFreed e)) h = h.1.0
receive_caller g b i x c (receive.Pushing (pushing.PushFreed e w)) h = h.1.0
receive_caller g b i x c (receive.Locked (locked.Release (returns.Taken e))) h = h.1.0
receive_caller g b i x c (receive.Locked locked.CommitWait) h = h.1.1.0
receive_caller g b i x c (receive.Locked (locked.LoadPartner from)) h = h.1.0
receive_caller g b i x c (receive.Locked (locked.CommitGone from)) h = h.0
receive_caller g b i x c (receive.Locked (locked.Release returns.Waits)) h = h.0
receive_caller g b i x c (receive.Locked (locked.Release returns.Gone)) h = h.1.0
receive_caller g b i x c (receive.Locked (locked.Release returns.Nobody)) h = h.1.0
receive_caller g b i x c (receive.Locked (locked.Release returns.Dead)) h = h.1.1.0
receive_caller g b i x c (receive.Locked locked.LoadPicking) h = h.1.1.0
receive_caller g b i x c (receive.Locked (locked.LoadNext e)) h = h.1.0
receive_caller g b i x c (receive.Locked (locked.FreeNext e w)) h = h.1.0
receive_caller g b i x c (receive.Locked (locked.EndPick e w)) h = h.1.0
receive_caller g b i x c (receive.Locked locked.SettlePick) h = h.1.0
receive_caller g b i x c (receive.Locked (locked.Release returns.Delivered)) h = h.1.0
receive_caller g b i x c (receive.Outside (outside.Ended w)) h = absurd h.0

-- A thread keeps its version, but where a new one is made.
version_keeps : (b : Board) (i : ℕ) (t : ℕ) (v : Seen) → Change b i t v → (is_threads (b.context t).at ≡ true) → v.word.version ≡ (b.seen t).word.version
version_keeps b i _ _ (same t) th = refl
version_keeps b i _ _ (calls w r p run goes) th = goes.version
version_keeps b i _ _ (settles v o ver al al2 ns us) th = ver
version_keeps b i _ _ (passes t r o op none) th = refl
version_keeps b i _ _ (delivers t from o op told) th = refl
version_keeps b i _ _ (takes t to o nj st none) th = refl
version_keeps b i _ _ (joins t to o nj hr st) th = refl
version_keeps b i _ _ (frees_sender t to joined o tb dd st none) th = refl
version_keeps b i _ _ (frees_receiver t from o tb dd st none) th = refl
version_keeps b i _ _ (kills t o tb nk al) th = refl
version_keeps b i _ _ (makes t w p tb d nw rn ver) th = absurd (coming_not (b.context t).at nw th)
version_keeps b i _ _ (leaves wt) th = refl
version_keeps b i _ _ (posts t m o op) th = refl

-- one context moves, and the words, the list of numbers and the size stay in range
module _ (b b' : Board) (i : ℕ) (x : Context) (h : IsWithin b) (ch : (t : ℕ) → Change b i t (b'.seen t)) where
  moved_within : b'.size ≡ b.size → length b'.numbers.versions ≡ length b.numbers.versions → ((t : ℕ) → FitsState b.size (b'.seen t).word.state) → ((n : ℕ) → b'.context n ≡ upd b.context i x n) → (is_threads x.at ≡ true → is_threads (b.context i).at ≡ true) → FitsAt b.size x.at → IsWithin b'
  moved_within z n w ctx th f = record {
    count = n ∙ h.count ∙ sym z;
    words = λ t. subst (λ (k : ℕ). FitsState k (b'.seen t).word.state) (sym z) (w t);
    threads = λ t q. subst (λ (k : ℕ). IsInRange k (id_at b' t)) (sym z) (thread t q (was t q));
    targets = λ t. subst (λ (k : ℕ). FitsAt k (b'.context t).at) (sym z) (target t);
  }
    where
      at_i : b'.context i ≡ x
      at_i = ctx i ∙ upd_same b.context i x

      at_other : (t : ℕ) → t ≢ i → b'.context t ≡ b.context t
      at_other t ne = ctx t ∙ upd_other b.context i x t ne

      was : (t : ℕ) → is_threads (b'.context t).at ≡ true → is_threads (b.context t).at ≡ true
      was t q = elim (eqb_tells t i) [
        | inl e ↦ subst (λ (k : ℕ). is_threads (b.context k).at ≡ true) (sym e.1) (th (ap (λ (y : Context). is_threads y.at) (sym at_i) ∙ subst (λ (k : ℕ). is_threads (b'.context k).at ≡ true) e.1 q))
        | inr e ↦ ap (λ (y : Context). is_threads y.at) (sym (at_other t e.1)) ∙ q
      ]

      thread : (t : ℕ) → is_threads (b'.context t).at ≡ true → is_threads (b.context t).at ≡ true → IsInRange b.size (id_at b' t)
      thread t q p = subst (λ (n : ℕ). IsInRange b.size (record { number = t; version = n })) (sym (version_keeps b i t (b'.seen t) (ch t) p)) (h.threads t p)

      target : (t : ℕ) → FitsAt b.size (b'.context t).at
      target t = elim (eqb_tells t i) [
        | inl e ↦ subst (λ (k : ℕ). FitsAt b.size (b'.context k).at) (sym e.1) (subst (λ (y : Context). FitsAt b.size y.at) (sym at_i) f)
        | inr e ↦ subst (λ (y : Context). FitsAt b.size y.at) (sym (at_other t e.1)) (h.targets t)
      ]

  -- another context is placed, begins, or is removed
  moved_both : (m : ℕ) (y : Context) → b'.size ≡ b.size → length b'.numbers.versions ≡ length b.numbers.versions → ((t : ℕ) → FitsState b.size (b'.seen t).word.state) → ((n : ℕ) → b'.context n ≡ upd (upd b.context m y) i x n) → (is_threads x.at ≡ true → is_threads (b.context i).at ≡ true) → FitsAt b.size x.at → FitsAt b.size y.at → (is_threads y.at ≡ true → IsInRange b.size (id_at b' m)) → IsWithin b'
  moved_both m y z n w ctx th f fy thy = record {
    count = n ∙ h.count ∙ sym z;
    words = λ t. subst (λ (k : ℕ). FitsState k (b'.seen t).word.state) (sym z) (w t);
    threads = λ t q. subst (λ (k : ℕ). IsInRange k (id_at b' t)) (sym z) (thread t q);
    targets = λ t. subst (λ (k : ℕ). FitsAt k (b'.context t).at) (sym z) (target t);
  }
    where
      at_i : b'.context i ≡ x
      at_i = ctx i ∙ upd_same (upd b.context m y) i x

      at_m : (t : ℕ) → t ≢ i → t ≡ m → b'.context t ≡ y
      at_m t ne e = ctx t ∙ upd_other (upd b.context m y) i x t ne ∙ ap (upd b.context m y) e ∙ upd_same b.context m y

      at_other : (t : ℕ) → t ≢ i → t ≢ m → b'.context t ≡ b.context t
      at_other t ne nm = ctx t ∙ upd_other (upd b.context m y) i x t ne ∙ upd_other b.context m y t nm

      same_id_at : (t : ℕ) → is_threads (b.context t).at ≡ true → IsInRange b.size (id_at b' t)
      same_id_at t p = subst (λ (n : ℕ). IsInRange b.size (record { number = t; version = n })) (sym (version_keeps b i t (b'.seen t) (ch t) p)) (h.threads t p)

      thread : (t : ℕ) → is_threads (b'.context t).at ≡ true → IsInRange b.size (id_at b' t)
      thread t q = elim (eqb_tells t i) [
        | inl e ↦ subst (λ (k : ℕ). IsInRange b.size (id_at b' k)) (sym e.1) (same_id_at i (th (ap (λ (y : Context). is_threads y.at) (sym at_i) ∙ subst (λ (k : ℕ). is_threads (b'.context k).at ≡ true) e.1 q)))
        | inr e ↦ elim (eqb_tells t m) [
          | inl d ↦ subst (λ (k : ℕ). IsInRange b.size (id_at b' k)) (sym d.1) (thy (ap (λ (z : Context). is_threads z.at) (sym (at_m t e.1 d.1)) ∙ q))
          | inr d ↦ same_id_at t (ap (λ (z : Context). is_threads z.at) (sym (at_other t e.1 d.1)) ∙ q)
        ]
      ]

      target : (t : ℕ) → FitsAt b.size (b'.context t).at
      target t = elim (eqb_tells t i) [
        | inl e ↦ subst (λ (k : ℕ). FitsAt b.size (b'.context k).at) (sym e.1) (subst (λ (y : Context). FitsAt b.size y.at) (sym at_i) f)
        | inr e ↦ elim (eqb_tells t m) [
          | inl d ↦ subst (λ (z : Context). FitsAt b.size z.at) (sym (at_m t e.1 d.1)) fy
          | inr d ↦ subst (λ (z : Context). FitsAt b.size z.at) (sym (at_other t e.1 d.1)) (h.targets t)
        ]
      ]

module _ (g : Programs) (b : Board) (f : PlacesHold g b) (h : IsWithin b) (names : NamesFit g b.size) where
  facts_at : (i : ℕ) (p : At) → (b.context i).at ≡ p → AllSay g b i (b.context i) (facts_of p)
  facts_at i p at = subst (λ (q : At). AllSay g b i (b.context i) (facts_of q)) at (f i)

  target_at : (i : ℕ) (p : At) → (b.context i).at ≡ p → FitsAt b.size p
  target_at i p at = subst (λ (q : At). FitsAt b.size q) at (h.targets i)

  thread_at : (i : ℕ) (p : At) → (b.context i).at ≡ p → is_threads p ≡ true → IsInRange b.size (id_at b i)
  thread_at i p at q = h.threads i (ap is_threads at ∙ q)

  -- a section's caller is in range
  me_at : (i : ℕ) (me : ThreadId) → IsInRange b.size (id_at b i) → (me.number ≡ i) × (me.version ≡ (b.seen i).word.version) → IsInRange b.size me
  me_at i me r m = subst (λ (id : ThreadId). IsInRange b.size id) (λ d. record { number = sym m.0 d; version = sym m.1 d }) r

  created_fits : (i : ℕ) (c : CreateCall) (id : ThreadId) → AllSay g b i (b.context i) (facts_create c (create.Locked (create_locked.CommitCreate id))) → IsInRange b.size id
  created_fits i c id q =
      let low = lowest-Some (is_free b.numbers) (length b.numbers.versions) id.number q.1.1.1.1.1.0.1 in
      record {
        number = subst (λ (n : ℕ). id.number < n) h.count low.0;
        first = some_version id.version (version_at b.numbers id.number) q.1.1.1.1.1.0.2;
        last = last_is id.version (version_at b.numbers id.number) q.1.1.1.1.1.0.2 (and_parts _ _ low.1).1;
      }
    where
      some_version : (v n : ℕ) → v ≡ n + 1 → 1 ≤ v
      some_version v n e = omega (arith, e)

      last_is : (v n : ℕ) → v ≡ n + 1 → nat_lt n last_version ≡ true → v ≤ 1048575
      last_is v n e l = grind (arith, nat_tests)

  pub within_keeps : (i : ℕ) (b' : Board) → Supports b i → Turn g b i b' → IsWithin b'
  within_keeps i _ s (sends c p r at an) =
      let b' = send_board g b i (b.context i) c p r in
      let me = me_at i c.caller (thread_at i (InSend c p) at refl) (send_caller g b i (b.context i) c p (facts_at i (InSend c p) at)) in
      moved_within b b' i (send_context (b.context i) c p r (hand_of b (b.queue c.to.number))) h (turn_changes g b f i b' s (sends c p r at an)) refl refl
      (words_fit b.size g b (b.context i).position (send.points c (b.seen i).word (hand_of b (b.queue c.to.number)) p r) (send.ask_of c (b.context i).own p) r an (send_asks b.size c (b.context i).own p me (target_at i (InSend c p) at)) h.words)
      (λ n. refl) (λ q. ap is_threads at) (send_fits b.size c _ (target_at i (InSend c p) at))
  within_keeps i _ s (receives c p r at an) =
      let b' = receive_board g b i (b.context i) c p r in
      let me = me_at i c.caller (thread_at i (InReceive c p) at refl) (receive_caller g b i (b.context i) c p (facts_at i (InReceive c p) at)) in
      moved_within b b' i (receive_context (b.context i) c p r (hand_of b (b.queue i))) h (turn_changes g b f i b' s (receives c p r at an)) refl refl
      (words_fit b.size g b (b.context i).position (receive.points c (b.seen i).word (hand_of b (b.queue i)) p r) (receive.ask_of c (b.context i).own p) r an (receive_asks b.size c (b.context i).own p me (target_at i (InReceive c p) at)) h.words)
      (λ n. refl) (λ q. ap is_threads at) (receive_fits b.size c _ (target_at i (InReceive c p) at))
  within_keeps i _ s (creates c p r at an) = created p r at (turn_changes g b f i (create_board g b i (b.context i) c p r) s (creates c p r at an)) (words_fit b.size g b (b.context i).position (create.points c (b.seen i).word (hand_of b []) p r) (create.ask_of c (b.context i).own p) r an (create_asks b.size c (b.context i).own p) h.words) (facts_at i (InCreate c p) at)
    where
      created : (p : CreateAt) (r : Response) → (b.context i).at ≡ InCreate c p → ((t : ℕ) → Change b i t ((create_board g b i (b.context i) c p r).seen t)) → ((t : ℕ) → FitsState b.size ((create_board g b i (b.context i) c p r).seen t).word.state) → AllSay g b i (b.context i) (facts_create c p) → IsWithin (create_board g b i (b.context i) c p r)
      created (create.Locked (create_locked.PlaceContext id)) asks.Placed at ch w q = moved_both b (create_board g b i (b.context i) c (create.Locked (create_locked.PlaceContext id)) asks.Placed) i (create_context (b.context i) c (create.Locked (create_locked.PlaceContext id)) asks.Placed (hand_of b [])) h ch id.number (new_context g c id Coming) refl refl w (λ n. refl) (λ z. ap is_threads at) tt tt (λ z. absurd cc)
      created (create.Locked (create_locked.CommitCreate id)) asks.Won at ch w q = moved_both b (create_board g b i (b.context i) c (create.Locked (create_locked.CommitCreate id)) asks.Won) i (create_context (b.context i) c (create.Locked (create_locked.CommitCreate id)) asks.Won (hand_of b [])) h ch id.number (new_context g c id (Alone (location.Between None))) refl refl w (λ n. refl) (λ z. ap is_threads at) tt tt (λ z. subst (λ (n : ℕ). IsInRange b.size (record { number = id.number; version = n })) (sym (ap (λ (u : Seen). u.word.version) (upd_same _ id.number _))) (created_fits i c id q))
      created (create.Locked (create_locked.Release (create_release.Made id))) asks.Released at ch w q = moved_within b (create_board g b i (b.context i) c (create.Locked (create_locked.Release (create_release.Made id))) asks.Released) i (create_context (b.context i) c (create.Locked (create_locked.Release (create_release.Made id))) asks.Released (hand_of b [])) h ch refl (length-set b.numbers.versions id.number (version_at b.numbers id.number + 1)) w (λ n. refl) (λ z. ap is_threads at) tt
      created (create.PushCreated id) asks.Released at ch w q = moved_within b (create_board g b i (b.context i) c (create.PushCreated id) asks.Released) i (create_context (b.context i) c (create.PushCreated id) asks.Released (hand_of b [])) h ch refl refl w (λ n. refl) (λ z. ap is_threads at) (create_fits b.size c (create.leads c (hand_of b []) (create.PushCreated id) asks.Released))
      created p r at ch w q = moved_within b (create_board g b i (b.context i) c p r) i (create_context (b.context i) c p r (hand_of b [])) h ch refl refl w (λ n. refl) (λ z. ap is_threads at) (create_fits b.size c (create.leads c (hand_of b []) p r))
  within_keeps i _ s (destroys c p r at an) = destroyed p r at (turn_changes g b f i (destroy_board g b i (b.context i) c p r) s (destroys c p r at an)) (words_fit b.size g b (b.context i).position (destroy.points c (b.seen i).word (hand_of b (b.queue (destroy_number c p))) p r) (destroy.ask_of c (b.context i).own p) r an (destroy_asks b.size c (b.context i).own p) h.words) (target_at i (InDestroy c p) at)
    where
      destroyed : (p : DestroyAt) (r : Response) → (b.context i).at ≡ InDestroy c p → ((t : ℕ) → Change b i t ((destroy_board g b i (b.context i) c p r).seen t)) → ((t : ℕ) → FitsState b.size ((destroy_board g b i (b.context i) c p r).seen t).word.state) → IsInRange b.size c.who × (c.count ≡ b.size) → IsWithin (destroy_board g b i (b.context i) c p r)
      destroyed (destroy.Locked destroy_locked.RemoveContext) asks.Removed at ch w q = moved_both b (destroy_board g b i (b.context i) c (destroy.Locked destroy_locked.RemoveContext) asks.Removed) i (destroy_context (b.context i) c (destroy.Locked destroy_locked.RemoveContext) asks.Removed (hand_of b (b.queue c.who.number))) h ch c.who.number (record (b.context c.who.number) { at = Nowhere }) refl refl w (λ n. refl) (λ z. ap is_threads at) (destroy_fits b.size c (destroy.leads c (hand_of b (b.queue (destroy_number c (destroy.Locked destroy_locked.RemoveContext)))) (destroy.Locked destroy_locked.RemoveContext) asks.Removed) q) tt (λ z. absurd cc)
      destroyed (destroy.Victim (victim.FreeSender n v)) asks.Won at ch w q = moved_within b (destroy_board g b i (b.context i) c (destroy.Victim (victim.FreeSender n v)) asks.Won) i (destroy_context (b.context i) c (destroy.Victim (victim.FreeSender n v)) asks.Won (hand_of b (b.queue c.who.number))) h ch refl (by v.on) w (λ n. refl) (λ z. ap is_threads at) (destroy_fits b.size c (destroy.leads c (hand_of b (b.queue c.who.number)) (destroy.Victim (victim.FreeSender n v)) asks.Won) q)
        where
          by : (on : Bool) → length (cond on (record (hand_of b (b.queue c.who.number)) { queue = record (hand_of b (b.queue c.who.number)).queue { entries = rest (b.queue c.who.number) } }) (hand_of b (b.queue c.who.number))).numbers.versions ≡ length b.numbers.versions
          by true = refl
          by false = refl
      destroyed (destroy.Pushing (pushing_of.PushSender n v)) asks.Released at ch w q = moved_within b (destroy_board g b i (b.context i) c (destroy.Pushing (pushing_of.PushSender n v)) asks.Released) i (destroy_context (b.context i) c (destroy.Pushing (pushing_of.PushSender n v)) asks.Released (hand_of b (b.queue (destroy_number c (destroy.Pushing (pushing_of.PushSender n v)))))) h ch refl refl w (λ n. refl) (λ z. ap is_threads at) (destroy_fits b.size c (destroy.leads c (hand_of b (b.queue (destroy_number c (destroy.Pushing (pushing_of.PushSender n v))))) (destroy.Pushing (pushing_of.PushSender n v)) asks.Released) q)
      destroyed (destroy.UnlistVictim) asks.Released at ch w q = moved_within b (destroy_board g b i (b.context i) c (destroy.UnlistVictim) asks.Released) i (destroy_context (b.context i) c (destroy.UnlistVictim) asks.Released (hand_of b (b.queue (destroy_number c (destroy.UnlistVictim))))) h ch refl refl w (λ n. refl) (λ z. ap is_threads at) (destroy_fits b.size c (destroy.leads c (hand_of b (b.queue (destroy_number c (destroy.UnlistVictim)))) (destroy.UnlistVictim) asks.Released) q)
      destroyed (destroy.Pushing (pushing_of.PushVisited n v)) asks.Released at ch w q = moved_within b (destroy_board g b i (b.context i) c (destroy.Pushing (pushing_of.PushVisited n v)) asks.Released) i (destroy_context (b.context i) c (destroy.Pushing (pushing_of.PushVisited n v)) asks.Released (hand_of b (b.queue (destroy_number c (destroy.Pushing (pushing_of.PushVisited n v)))))) h ch refl refl w (λ n. refl) (λ z. ap is_threads at) (destroy_fits b.size c (destroy.leads c (hand_of b (b.queue (destroy_number c (destroy.Pushing (pushing_of.PushVisited n v))))) (destroy.Pushing (pushing_of.PushVisited n v)) asks.Released) q)
      destroyed (destroy.Visit (visit_of.ReleaseVisitedLock n)) asks.Released at ch w q = moved_within b (destroy_board g b i (b.context i) c (destroy.Visit (visit_of.ReleaseVisitedLock n)) asks.Released) i (destroy_context (b.context i) c (destroy.Visit (visit_of.ReleaseVisitedLock n)) asks.Released (hand_of b (b.queue (destroy_number c (destroy.Visit (visit_of.ReleaseVisitedLock n)))))) h ch refl refl w (λ n. refl) (λ z. ap is_threads at) (destroy_fits b.size c (destroy.leads c (hand_of b (b.queue (destroy_number c (destroy.Visit (visit_of.ReleaseVisitedLock n))))) (destroy.Visit (visit_of.ReleaseVisitedLock n)) asks.Released) q)
      destroyed (destroy.Locked (destroy_locked.Release destroy_release.Killed)) asks.Released at ch w q = moved_within b (destroy_board g b i (b.context i) c (destroy.Locked (destroy_locked.Release destroy_release.Killed)) asks.Released) i (destroy_context (b.context i) c (destroy.Locked (destroy_locked.Release destroy_release.Killed)) asks.Released (hand_of b (b.queue (destroy_number c (destroy.Locked (destroy_locked.Release destroy_release.Killed)))))) h ch refl refl w (λ n. refl) (λ z. ap is_threads at) (destroy_fits b.size c (destroy.leads c (hand_of b (b.queue (destroy_number c (destroy.Locked (destroy_locked.Release destroy_release.Killed))))) (destroy.Locked (destroy_locked.Release destroy_release.Killed)) asks.Released) q)
      destroyed p r at ch w q = moved_within b (destroy_board g b i (b.context i) c p r) i (destroy_context (b.context i) c p r (hand_of b (b.queue (destroy_number c p)))) h ch refl refl w (λ n. refl) (λ z. ap is_threads at) (destroy_fits b.size c (destroy.leads c (hand_of b (b.queue (destroy_number c p))) p r) q)
  within_keeps i _ s (goes_alone p r at can an) =
      let b' = alone_board g b i (b.context i) p r in
      moved_within b b' i (alone_context (b.context i) p r) h (turn_changes g b f i b' s (goes_alone p r at can an)) refl refl
      (words_fit b.size g b (b.context i).position (alone.points (id_at b i) p r) (alone.ask_of (id_at b i) (b.context i).own p) r an (alone_asks b.size (id_at b i) (b.context i).own p) h.words)
      (λ n. refl) (λ q. ap is_threads at) (alone_fits b.size b i (b.context i).own p r an h.words (target_at i (Alone p) at))
  within_keeps i _ s (begins l q at e) = moved_within b (placed b i (begun g (b.context i) l (begun_at b.size (id_at b i) q))) i (begun g (b.context i) l (begun_at b.size (id_at b i) q)) h (λ t. same t) refl refl h.words (λ n. refl) (λ z. ap is_threads at) (begun_fits b.size (id_at b i) q (names (b.context i).position l q e))
  within_keeps i _ s (turns_to_work l count at e) = moved_within b (placed b i (working g (b.context i) l count)) i (working g (b.context i) l count) h (λ t. same t) refl refl h.words (λ n. refl) (λ z. ap is_threads at) tt
  within_keeps i _ s (wakes at) = moved_within b (placed b i (record (b.context i) { at = Alone location.LookAgain })) i (record (b.context i) { at = Alone location.LookAgain }) h (λ t. same t) refl refl h.words (λ n. refl) (λ z. ap is_threads at) tt
  within_keeps i _ s (switches c p r at going an) = moved_within b (switch_board b i (b.context i) c p r) i (switch_context (b.context i) c p r (hand_of b [])) h (λ t. same t) refl refl h.words (λ n. refl) (λ z. absurd cc) tt
  within_keeps i _ s (begins_switch c at) = moved_within b (placed b i (record (b.context i) { at = InSwitch c switch.AcquireReady })) i (record (b.context i) { at = InSwitch c switch.AcquireReady }) h (λ t. same t) refl refl h.words (λ n. refl) (λ z. absurd cc) tt
  within_keeps i _ s (ends_switch c q at) = moved_within b (placed b i (record (b.context i) { at = Resting })) i (record (b.context i) { at = Resting }) h (λ t. same t) refl refl h.words (λ n. refl) (λ z. absurd cc) tt
