-- Of which kind each step of a send is.
use Rattle.std.proofs.Common.{◌≡◌, ◌≢◌, ℕ, ◌<◌, ◌≤◌, true, refl, sym, ap, ◌∙◌, subst, arith}
use Rattle.std.proofs.Common.{Option, [], ◌∷◌, ◌++◌, ◌⊎◌, inl, inr, List, None, Some, false}
use Rattle.std.specs.Prelude.{not, ◌^◌}
use Rattle.std.proofs.Common.{eqb}
use Rattle.std.proofs.lemmas.Bool.{and_parts}
use Rattle.k_ids.specs.declared.threads.ThreadId.{ThreadId}
use Rattle.k_ids.specs.declared.calls.Reply.TheVariants as reply
use Rattle.k_ids.specs.declared.calls.Act.TheVariants as act
use Rattle.k_ids.specs.declared.state_word.StateWord.{StateWord}
use Rattle.k_model.specs.State.{takes_from}
use Rattle.k_model.proofs.Maps.{upd_same, upd_other}
use Rattle.k_senders.specs.declared.entries.SenderEntry.{SenderEntry}
use Rattle.k_senders.specs.Queue.{entry_of, stands}
use Rattle.k_senders.specs.Entries.{entry_for, number_of, sender_of}
use Rattle.k_senders.proofs.EntrySpelled.{entry_sender, entry_small}
use Rattle.k_locks.specs.declared.points.Point.{Point}
use Rattle.k_locks.specs.Asks.{Response}
use Rattle.k_locks.specs.Asks as asks
use Rattle.k_locks.specs.Shown.{found_in, is_dead, is_present_in, shows}
use Rattle.k_script.specs.Plays.{IsInRange}
use Rattle.k_ipc.specs.declared.send.Manner.{Manner}
use Rattle.k_ipc.specs.declared.send.Manner.TheVariants as manner
use Rattle.k_ipc.specs.declared.send.SendCall.{SendCall}
use Rattle.k_ipc.specs.declared.send.SendOutside.TheVariants.{LoadCaller, AcquireReceiver, CheckCaller, Ended}
use Rattle.k_ipc.specs.declared.send.SendLocked.{SendLocked}
use Rattle.k_ipc.specs.declared.send.SendLocked.TheVariants.{LoadReceiver, StoreMail, CommitPass, WakeReceiver}
use Rattle.k_ipc.specs.declared.send.SendLocked.TheVariants.{ReloadReceiver, AcquireReady, CommitWait, Release}
use Rattle.k_ipc.specs.declared.send.SendRelease.TheVariants as release
use Rattle.k_ipc.specs.declared.send.SendPushing.TheVariants.{PushReceiver}
use Rattle.k_ipc.specs.SendTable.{SendAt, Outside, Locked, Pushing, after_receiver, passed_word, phase_by}
use Rattle.k_ipc.specs.SendTable as send
use Rattle.k_ipc.specs.Words.{sends_to}
use Rattle.k_board.specs.Words.{Programs}
use Rattle.k_board.specs.Boards.{InSend, Board, Context, hand_of, id_at}
use Rattle.k_board.specs.Facts.{AllSay, Apart, Loaded, Passing}
use Rattle.k_board.specs.Places.{facts_send, sender}
use Rattle.k_board.specs.Steps.{Answers, send_board, send_context, send_queues}
use Rattle.k_board.proofs.Cases.{if_cases}
use Rattle.k_good.specs.Outward.{SendsOutward}
use Rattle.k_queues.specs.Tasks.{Idle, task_at, task_of, task_send}
use Rattle.k_queues.specs.Queues.{QueuesHold, Reason, by_free, by_kill, by_take, by_wait}
use Rattle.k_queues.proofs.Lists.{queued, wait_noted}
use Rattle.k_queues.proofs.StepKinds.{IsPlain, Move, begins, comes, stays}
use Rattle.k_queues.proofs.Moves.{idle_comes}
use Rattle.k_queues.proofs.Steps.{waits_parts}
use Rattle.k_queues.proofs.Quiet.{SameWait}
use Rattle.k_queues.proofs.Entries.{none_stands, of_number, same_self, sends_state, some_is, true_false}
use Rattle.k_queues.proofs.Tasks.{TaskSays, freed_destroying, visited_dead, visits_other}
use Rattle.k_queues.proofs.Words.{IsQuietAsk, after_idle, at_mine, calm_alive, calm_silent, calm_wait, is_calm, open_calm}
use Rattle.k_queues.proofs.Words.{lost_won, plain_if, plain_none, sides, task_mine, unwritten_word, words_quiet, written_word}

passed_wait : (m : Manner) (to : ThreadId) (own : StateWord) → is_calm own.state ≡ true → SameWait own (passed_word m to own)
passed_wait manner.Plain to own c = calm_wait own (passed_word manner.Plain to own) refl c refl
passed_wait manner.Joined to own c = calm_wait own (passed_word manner.Joined to own) refl c refl
passed_wait manner.Reply to own c = calm_wait own (passed_word manner.Reply to own) refl c refl

receiver_idle : (c : SendCall) (w : StateWord) → task_send c (Locked (after_receiver c w)) ≡ Idle
receiver_idle c w =
    if_cases (λ (p : SendLocked). task_send c (Locked p) ≡ Idle) (not (is_present_in w c.to))
    (Release (release.Refused (reply.Absent (found_in c.to.number w)))) _ (λ e. refl)
    (λ e. if_cases (λ (p : SendLocked). task_send c (Locked p) ≡ Idle) (takes_from (shows w.state) c.caller c.zero)
    (StoreMail w) _ (λ e. refl)
    (λ e. if_cases (λ (p : SendLocked). task_send c (Locked p) ≡ Idle) c.zero
    (Release (release.Refused (reply.Busy (found_in c.to.number w)))) CommitWait (λ e. refl) (λ e. refl)))

dead_calm : (v : StateWord) → is_calm v.state ≡ true → is_dead v ≡ true → ⊥
dead_calm v c d = true_false d (calm_alive v.state c)

-- who begins to wait has no entry of before
pub fresh_here : (g : Programs) (b : Board) (i : ℕ) → QueuesHold b → ((n : ℕ) → TaskSays b n (task_of b n)) → (c : SendCall) →
    AllSay g b i (b.context i) (facts_send c (Locked CommitWait)) → (b.seen i).word ≡ (b.context i).own →
    stands c.caller.number (b.queue c.to.number) ≡ false
fresh_here g b i h says c f won =
    none_stands c.caller.number (b.queue c.to.number) (λ e q. let k =
    subst (λ (n : ℕ). entry_of n (b.queue c.to.number) ≡ Some e) f.1.1.0.0 q in stale e k (h.reasons c.to.number i e k))
  where
    calm : is_calm (b.seen i).word.state ≡ true
    calm = ap (λ (u : StateWord). is_calm u.state) won ∙ ap is_calm f.1.1.1.1.1.0.0.state

    present : is_present_in (b.seen c.to.number).word c.to ≡ true
    present = f.1.0.1

    stale : (e : SenderEntry) → entry_of i (b.queue c.to.number) ≡ Some e → Reason b c.to.number i e → ⊥
    stale e q (by_wait k) =
        true_false (waits_parts (id_at b c.to.number) e (b.seen i).word k).1
        (calm_silent (b.seen i).word.state (id_at b c.to.number) calm)
    stale e q (by_take k) = f.0 (some_is (sym (subst (TaskSays b c.to.number) k (says c.to.number)) ∙ f.1.0.0))
    stale e q (by_free k) =
        true_false (and_parts (eqb (b.seen c.to.number).word.version c.to.version)
        (not (is_dead (b.seen c.to.number).word)) present).1
        (ap not (freed_destroying b k.number c.to.number i (task_of b k.number) (says k.number) k.has).1)
    stale e q (by_kill k) =
        dead_calm (b.seen i).word calm (subst (λ (n : ℕ). is_dead (b.seen n).word ≡ true) (of_number i (b.queue c.to.number) e q)
        (visited_dead b k.number c.to.number (sender_of e) (task_of b k.number) (says k.number) k.has))

module _ (g : Programs) (b : Board) (i : ℕ) (h : QueuesHold b) (says : (n : ℕ) → TaskSays b n (task_of b n))
    (outward : SendsOutward b.seen) (c : SendCall) (inside : IsInRange b.size c.caller) (to : IsInRange b.size c.to) where
  abbrev point_at : SendAt → Response → Option Point
  point_at p r = send.points c (b.seen i).word (hand_of b (b.queue c.to.number)) p r

  abbrev Kept : SendAt → Response → Type 0
  Kept p r = Move b (send_board g b i (b.context i) c p r) i (point_at p r)

  abbrev moved : SendAt → Response → Context
  moved p r = send_context (b.context i) c p r (hand_of b (b.queue c.to.number))

  waits_after : (f : ℕ → List SenderEntry) (m : Manner) →
      wait_noted f c.caller (act.Call (phase_by c m)) ≡ queued f c.caller c.to c.message
  waits_after f manner.Plain = refl
  waits_after f manner.Joined = refl
  waits_after f manner.Reply = refl

  -- of a receiver that takes the message
  wake_open : (m : Manner) (w : StateWord) →
      AllSay g b i (b.context i) (sender m c.caller (Apart c.to.number ∷ Passing c ∷ Loaded c.to.number w ∷ [])) →
      is_calm w.state ≡ true
  wake_open manner.Plain w f = open_calm w.state f.1.1.1.1.1.1.1.0.1
  wake_open manner.Joined w f = open_calm w.state f.1.1.1.1.1.1.1.0.1
  wake_open manner.Reply w f = open_calm w.state f.1.1.1.1.1.1.0.1

  -- a step that changes neither queues nor who waits
  quiet : (p : SendAt) (r : Response) → (b.context i).at ≡ InSend c p → Answers b (send.ask_of c (b.context i).own p) r →
      task_send c p ≡ Idle → (r ≡ asks.Won → IsQuietAsk (send.ask_of c (b.context i).own p)) →
      ((t : ℕ) → send_queues c p r b.queue t ≡ b.queue t) → task_at (moved p r).at ≡ Idle → IsPlain (point_at p r) → Kept p r
  quiet p r at an idle q same k pl =
      let b' = send_board g b i (b.context i) c p r in
      let was = ap task_at at ∙ idle in
      stays (sides b b' i (moved p r) (λ n. refl)) (task_mine b b' i (moved p r) (λ n. refl) ∙ k ∙ sym was)
      (λ r e. idle_comes (sym was ∙ e)) same
      (words_quiet g b (b.context i).position (point_at p r) (send.ask_of c (b.context i).own p) r an q) pl

  -- the caller begins to wait
  waits_now : (b.context i).at ≡ InSend c (Locked CommitWait) → (b.seen c.caller.number).word ≡ (b.context i).own →
      AllSay g b i (b.context i) (facts_send c (Locked CommitWait)) → Kept (Locked CommitWait) asks.Won
  waits_now at won f =
      begins c (sides b b' i x (λ n. refl)) (ap task_at at) (at_mine b b' i x (λ n. refl)) (λ t. refl)
      (λ n ne. unwritten_word g b (b.context i).position point c.caller.number own (send.waiting_word c own) n (λ z. ne (z ∙ me)))
      (ap (λ (w : StateWord). w.version) new ∙ ap (λ (w : StateWord). w.version) (sym was))
      (ap is_dead was ∙ calm_alive own.state calm)
      (ap is_dead new)
      (λ r. ap (λ (w : StateWord). sends_to r w.state) was ∙ calm_silent own.state r calm)
      (λ r. ap (λ (w : StateWord). sends_to r w.state) new)
      f.1.0.1 f.1.0.0 (subst (λ (n : ℕ). stands n (b.queue c.to.number) ≡ false) me (fresh_here g b i h says c f was))
      (λ k. waits_after k c.manner)
    where
      own : StateWord
      own = (b.context i).own

      b' : Board
      b' = send_board g b i (b.context i) c (Locked CommitWait) asks.Won

      x : Context
      x = moved (Locked CommitWait) asks.Won

      point : Option Point
      point = send.points c (b.seen i).word (hand_of b (b.queue c.to.number)) (Locked CommitWait) asks.Won

      me : c.caller.number ≡ i
      me = f.1.1.0.0

      was : (b.seen i).word ≡ own
      was = ap (λ (n : ℕ). (b.seen n).word) (sym me) ∙ won

      new : (b'.seen i).word ≡ send.waiting_word c own
      new =
          ap (λ (n : ℕ). (b'.seen n).word) (sym me) ∙ written_word g b (b.context i).position point c.caller.number own
          (send.waiting_word c own)

      calm : is_calm own.state ≡ true
      calm = ap is_calm f.1.1.1.1.1.0.0.state

  -- its entry comes into the queue
  comes_now : (b.context i).at ≡ InSend c (Locked (Release release.Queued)) →
      AllSay g b i (b.context i) (facts_send c (Locked (Release release.Queued))) →
      Kept (Locked (Release release.Queued)) asks.Released
  comes_now at f =
      comes c (sides b b' i x (λ n. refl)) at (task_mine b b' i x (λ n. refl))
      (words_quiet g b (b.context i).position point (send.ask_of c (b.context i).own
      (Locked (Release release.Queued))) asks.Released tt (λ z. tt))
      (upd_same b.queue c.to.number (b.queue c.to.number ++ e ∷ []))
      (λ t ne. upd_other b.queue c.to.number (b.queue c.to.number ++ e ∷ []) t ne)
      number sender
      record {
        spelled = entry_small c.caller c.message small version;
        sender = subst (IsInRange b.size) (sym is) inside;
        apart = λ z. apart (sym z ∙ number);
        inside = to.number;
      }
      f.1.1.1.0.5 lives f.1.1.1.0.0 plain_none
    where
      b' : Board
      b' = send_board g b i (b.context i) c (Locked (Release release.Queued)) asks.Released

      x : Context
      x = moved (Locked (Release release.Queued)) asks.Released

      point : Option Point
      point = send.points c (b.seen i).word (hand_of b (b.queue c.to.number)) (Locked (Release release.Queued)) asks.Released

      e : SenderEntry
      e = entry_for c.caller c.message

      small : c.caller.number < 64
      small = less c.caller.number b.size inside.number h.size
        where
          less : (n k : ℕ) → n < k → k ≤ 64 → n < 64
          less n k l m = omega (arith, l, m)

      version : c.caller.version < 2 ^ 20
      version = less c.caller.version inside.last
        where
          less : (n : ℕ) → n ≤ 1048575 → n < 2 ^ 20
          less n l = omega (arith, l)

      is : sender_of e ≡ c.caller
      is = entry_sender c.caller c.message small version

      sender : sender_of e ≡ id_at b i
      sender = is ∙ (λ d. record { number = f.0.0 d; version = f.0.1 d })

      number : number_of e ≡ i
      number = ap (λ (id : ThreadId). id.number) sender

      lives : (is_dead (b.seen i).word ≡ true) ⊎ (sends_to c.to (b.seen i).word.state ≡ true)
      lives = elim f.1.1.1.0.3 [
        | inl q ↦ inr (ap (λ (w : StateWord). sends_to c.to w.state) q ∙ ap (sends_to c.to) f.1.1.1.0.4.1 ∙ same_self c.to)
        | inr q ↦ inl q
      ]

      apart : c.to.number ≢ i
      apart = elim lives [
        | inl d ↦ let s = h.coming i c.to (ap task_at at) d in visits_other (task_of b s.number) (id_at b i) c.to.number s.has
        | inr y ↦ let z = sends_state c.to (b.seen i).word.state y in outward i c.to z.0 z.1
      ]

  receiver_plain : (w : StateWord) → IsPlain (point_at (Locked LoadReceiver) (asks.Word w))
  receiver_plain w = plain_if (is_dead (b.seen i).word) None _ plain_none
      (plain_if (not (is_present_in w c.to)) _ _ (λ k. refl)
      (plain_if (takes_from (shows w.state) c.caller c.zero) None _ plain_none (plain_if c.zero _ None (λ k. refl) plain_none)))

  pub send_moves : (p : SendAt) (r : Response) → (b.context i).at ≡ InSend c p → Answers b (send.ask_of c (b.context i).own p) r →
      AllSay g b i (b.context i) (facts_send c p) → Kept p r
  send_moves (Outside LoadCaller) (asks.Word w) at an f =
      quiet (Outside LoadCaller) (asks.Word w) at an refl (λ z. tt) (λ t. refl) (after_idle c.caller _)
      (plain_if (is_dead w) None _ plain_none (λ k. refl))
  send_moves (Outside AcquireReceiver) asks.Got at an f =
      quiet (Outside AcquireReceiver) asks.Got at an refl (λ z. tt) (λ t. refl) refl plain_none
  send_moves (Outside AcquireReceiver) (asks.Owned o) at an f =
      quiet (Outside AcquireReceiver) (asks.Owned o) at an refl (λ z. tt) (λ t. refl) refl plain_none
  send_moves (Locked LoadReceiver) (asks.Word w) at an f =
      quiet (Locked LoadReceiver) (asks.Word w) at an refl (λ z. tt) (λ t. refl) (receiver_idle c w) (receiver_plain w)
  send_moves (Locked (StoreMail w)) asks.Stored at an f =
      quiet (Locked (StoreMail w)) asks.Stored at an refl (λ z. tt) (λ t. refl) refl plain_none
  send_moves (Locked (CommitPass w)) asks.Won at an f =
      quiet (Locked (CommitPass w)) asks.Won at an refl (λ z.
      passed_wait c.manner c.to (b.context i).own (ap is_calm f.1.1.1.1.1.1.0.0.state)) (λ t. refl) refl (λ k. refl)
  send_moves (Locked (CommitPass w)) (asks.Lost v) at an f =
      quiet (Locked (CommitPass w)) (asks.Lost v) at an refl (λ z. absurd (lost_won z)) (λ t. refl) refl plain_none
  send_moves (Locked (WakeReceiver w)) asks.Won at an f =
      quiet (Locked (WakeReceiver w)) asks.Won at an refl (λ z.
      calm_wait w (send.delivered_word c w) refl (wake_open c.manner w f) refl) (λ t. refl)
      (if_cases (λ (p : SendLocked). task_send c (Locked p) ≡ Idle) w.on (Release release.Passed) (AcquireReady w.priority)
      (λ o. refl) (λ o. refl)) plain_none
  send_moves (Locked (WakeReceiver w)) (asks.Lost v) at an f =
      quiet (Locked (WakeReceiver w)) (asks.Lost v) at an refl (λ z. absurd (lost_won z)) (λ t. refl) refl plain_none
  send_moves (Locked ReloadReceiver) (asks.Word w) at an f =
      quiet (Locked ReloadReceiver) (asks.Word w) at an refl (λ z. tt) (λ t. refl) refl plain_none
  send_moves (Locked (AcquireReady priority)) asks.Got at an f =
      quiet (Locked (AcquireReady priority)) asks.Got at an refl (λ z. tt) (λ t. refl) refl plain_none
  send_moves (Locked (AcquireReady priority)) (asks.Owned o) at an f =
      quiet (Locked (AcquireReady priority)) (asks.Owned o) at an refl (λ z. tt) (λ t. refl) refl plain_none
  send_moves (Pushing (PushReceiver priority)) asks.Released at an f =
      quiet (Pushing (PushReceiver priority)) asks.Released at an refl (λ z. tt) (λ t. refl) refl plain_none
  send_moves (Locked (Release release.Passed)) asks.Released at an f =
      quiet (Locked (Release release.Passed)) asks.Released at an refl (λ z. tt) (λ t. refl) (after_idle c.caller _) plain_none
  send_moves (Locked (Release release.Dead)) asks.Released at an f =
      quiet (Locked (Release release.Dead)) asks.Released at an refl (λ z. tt) (λ t. refl) refl plain_none
  send_moves (Locked (Release (release.Refused q))) asks.Released at an f =
      quiet (Locked (Release (release.Refused q))) asks.Released at an refl (λ z. tt) (λ t. refl) refl plain_none
  send_moves (Outside (CheckCaller q)) (asks.Word w) at an f =
      quiet (Outside (CheckCaller q)) (asks.Word w) at an refl (λ z. tt) (λ t. refl) (after_idle c.caller _) plain_none
  send_moves (Locked CommitWait) asks.Won at an f = waits_now at an f
  send_moves (Locked CommitWait) (asks.Lost v) at an f =
      quiet (Locked CommitWait) (asks.Lost v) at an refl (λ z. absurd (lost_won z)) (λ t. refl) refl plain_none
  send_moves (Locked (Release release.Queued)) asks.Released at an f = comes_now at f
  send_moves (Outside (Ended w)) r at an f = absurd f.0
  send_moves p r at an f = absurd an
