-- The queues hold after any turn; they tell what a turn stands on; and they hold at the start.
use Rattle.std.proofs.Common.{◌≡◌, ℕ, ◌≤◌, true, refl, sym, ap, ◌∙◌, subst, Some, [], eqb, None}
use Rattle.std.proofs.lemmas.Bool.{and_parts, eqb-true}
use Rattle.std.specs.Prelude.{not}
use Rattle.k_ids.specs.declared.threads.ThreadId.{ThreadId}
use Rattle.k_ids.specs.declared.state_word.StateWord.{StateWord}
use Rattle.k_senders.specs.declared.entries.SenderEntry.{SenderEntry}
use Rattle.k_senders.specs.Entries.{sender_of}
use Rattle.k_senders.specs.Queue.{IsOnceEach, entry_of}
use Rattle.k_locks.specs.Shown.{is_dead}
use Rattle.k_script.specs.Plays.{IsInRange}
use Rattle.k_ipc.specs.declared.send.SendLocked.TheVariants as send_locked
use Rattle.k_ipc.specs.SendTable as send
use Rattle.k_ipc.specs.Words.{sends_to}
use Rattle.k_threads.specs.declared.destroy.DestroyCall.{DestroyCall}
use Rattle.k_threads.specs.declared.destroy.DestroyVictim.TheVariants as victim
use Rattle.k_threads.specs.DestroyTable as destroy
use Rattle.k_caller.specs.Waits.{can_ask, ended_word, off_word}
use Rattle.k_caller.specs.Waits as alone
use Rattle.k_caller.specs.declared.thread.ThreadLocation.{ThreadLocation}
use Rattle.k_caller.specs.declared.thread.ThreadLocation.TheVariants as location
use Rattle.k_switch.specs.Switches as switch
use Rattle.k_locks.specs.Asks.{Response}
use Rattle.k_locks.specs.Asks as asks
use Rattle.k_board.specs.Words.{Programs}
use Rattle.k_board.specs.Boards.{At, Alone, InCreate, InDestroy, InReceive, InSend}
use Rattle.k_board.specs.Boards.{InSwitch, Resting, Board, Context, hand_of, id_at}
use Rattle.k_board.specs.Boots.{Booted, has_carrier, has_none, has_thread}
use Rattle.k_board.specs.Facts.{AllSay, AllWait, waits_for}
use Rattle.k_board.specs.Places.{facts_alone, facts_of}
use Rattle.k_board.specs.Steps.{alone_board, alone_context, begun, begun_at, placed, switch_board, switch_context, working}
use Rattle.k_board.specs.Turns.{Turn, begins, begins_switch, creates, destroys, ends_switch}
use Rattle.k_board.specs.Turns.{goes_alone, receives, sends, switches, turns_to_work, wakes}
use Rattle.k_good.specs.Good.{IsGood, QueuesTell}
use Rattle.k_good.specs.Ranges.{FitsAt, IsWithin, is_threads}
use Rattle.k_good.proofs.RangesKeep.{send_caller}
use Rattle.k_ids.specs.declared.calls.Phase.{Phase}
use Rattle.k_ids.specs.declared.calls.Phase.TheVariants as phase
use Rattle.k_queues.specs.Tasks.{Idle, IsFreed, IsToVisit, Task, task_at, task_of}
use Rattle.k_queues.specs.Queues.{CallsUnanswered, QueuesHold, Reason, by_free, by_kill, by_take, by_wait}
use Rattle.k_queues.proofs.Creates.{create_moves}
use Rattle.k_queues.proofs.Destroys.{destroy_moves}
use Rattle.k_queues.proofs.Entries.{all_wait, dead_silent, none_some, some_is, true_false}
use Rattle.k_points.specs.Points.{turn_point}
use Rattle.k_queues.proofs.StepKinds.{IsPlain, Move, move_keeps, stays}
use Rattle.k_queues.proofs.Moves.{idle_comes, idle_takes}
use Rattle.k_queues.proofs.Quiet.{same_wait}
use Rattle.k_queues.proofs.Receives.{receive_moves}
use Rattle.k_queues.proofs.Sends.{fresh_here, send_moves}
use Rattle.k_queues.proofs.Tasks.{TaskSays, freed_mine, task_says, visits_mine}
use Rattle.k_queues.proofs.Words.{IsQuietAsk, calm_wait, is_calm, plain_none, sides, task_mine, words_quiet}

-- a call begins
begun_idle : (size : ℕ) (me : ThreadId) (f : Phase) → task_at (begun_at size me f) ≡ Idle
begun_idle size me (phase.Send to message wait joined) = refl
begun_idle size me (phase.Reply to message wait) = refl
begun_idle size me (phase.Receive from wait) = refl
begun_idle size me (phase.Create program priority) = refl
begun_idle size me (phase.Destroy who) = refl
begun_idle size me phase.End = refl

-- the exchanges of a thread outside of any section
alone_quiet : (g : Programs) (b : Board) (i : ℕ) (x : Context) (me : ThreadId) (p : ThreadLocation) →
    AllSay g b i x (facts_alone p) → IsQuietAsk (alone.ask_of me x.own p)
alone_quiet g b i x me location.FallAsleep f = record { version = refl; dead = refl; sends = λ to. refl }
alone_quiet g b i x me location.CommitEnd f = calm_wait x.own (ended_word x.own) refl (ap is_calm f.1.1.0.0.state) refl
alone_quiet g b i x me location.LookAgain f = tt
alone_quiet g b i x me (location.LoadMail from) f = tt
alone_quiet g b i x me (location.Work count) f = tt
alone_quiet g b i x me (location.Between l) f = tt
alone_quiet g b i x me location.Asleep f = tt
alone_quiet g b i x me location.Ended f = tt
alone_quiet g b i x me location.Dead f = tt

alone_plain : (me : ThreadId) (p : ThreadLocation) (r : Response) → IsPlain (alone.points me p r)
alone_plain me location.CommitEnd asks.Won f = refl
alone_plain me p r f = refl

turn_size : (g : Programs) (b : Board) (i : ℕ) (b' : Board) → Turn g b i b' → b'.size ≡ b.size
turn_size g b i _ (sends c p r at an) = refl
turn_size g b i _ (receives c p r at an) = refl
turn_size g b i _ (creates c p r at an) = refl
turn_size g b i _ (destroys c p r at an) = refl
turn_size g b i _ (goes_alone p r at can an) = refl
turn_size g b i _ (begins l f at e) = refl
turn_size g b i _ (turns_to_work l count at e) = refl
turn_size g b i _ (wakes at) = refl
turn_size g b i _ (switches c p r at going an) = refl
turn_size g b i _ (begins_switch c at) = refl
turn_size g b i _ (ends_switch c s at) = refl

module _ (g : Programs) (b : Board) (good : IsGood g b) (w : IsWithin b) (h : QueuesHold b) where
  says : (n : ℕ) → TaskSays b n (task_of b n)
  says = task_says g b good.places w

  facts_at : (i : ℕ) (p : At) → (b.context i).at ≡ p → AllSay g b i (b.context i) (facts_of p)
  facts_at i p at = subst (λ (q : At). AllSay g b i (b.context i) (facts_of q)) at (good.places i)

  target_at : (i : ℕ) (p : At) → (b.context i).at ≡ p → FitsAt b.size p
  target_at i p at = subst (λ (q : At). FitsAt b.size q) at (w.targets i)

  -- a context moves between locations where it has nothing to do in queues
  at_rest : (i : ℕ) (x : Context) (p : At) → (b.context i).at ≡ p → task_at p ≡ Idle → task_at x.at ≡ Idle →
      Move b (placed b i x) i None
  at_rest i x p at was now =
      let idle = ap task_at at ∙ was in
      stays (sides b (placed b i x) i x (λ n. refl)) (task_mine b (placed b i x) i x (λ n. refl) ∙ now ∙ sym idle)
      (λ to e. idle_comes (sym idle ∙ e)) (λ t. refl)
      (λ t. same_wait (b.seen t).word (b.seen t).word refl) plain_none

  me_in : (i : ℕ) (me : ThreadId) → (me.number ≡ i) × (me.version ≡ (b.seen i).word.version) →
      is_threads (b.context i).at ≡ true → IsInRange b.size me
  me_in i me m t =
      subst (λ (id : ThreadId). IsInRange b.size id) (λ d. record { number = sym m.0 d; version = sym m.1 d }) (w.threads i t)

  -- of which kind a turn is
  pub turn_moves : (i : ℕ) (b' : Board) (t : Turn g b i b') → Move b b' i (turn_point g b i b' t)
  turn_moves i _ (sends c p r at an) =
      send_moves g b i h says good.outward c (me_in i c.caller (send_caller g b i (b.context i) c p (facts_at i (InSend c p) at))
      (ap is_threads at)) (target_at i (InSend c p) at) p r at an (facts_at i (InSend c p) at)
  turn_moves i _ (receives c p r at an) = receive_moves g b i c p r at an (facts_at i (InReceive c p) at)
  turn_moves i _ (creates c p r at an) = create_moves g b i c p r at an (facts_at i (InCreate c p) at)
  turn_moves i _ (destroys c p r at an) =
      let t = target_at i (InDestroy c p) at in destroy_moves g b i h says c t.0 t.1 p r at an (facts_at i (InDestroy c p) at)
  turn_moves i _ (goes_alone p r at can an) =
      let b' = alone_board g b i (b.context i) p r in
      let x = alone_context (b.context i) p r in
      stays (sides b b' i x (λ n. refl)) (task_mine b b' i x (λ n. refl) ∙ sym (ap task_at at))
      (λ to e. idle_comes (sym (ap task_at at) ∙ e)) (λ t. refl)
      (words_quiet g b (b.context i).position (alone.points (id_at b i) p r) (alone.ask_of (id_at b i) (b.context i).own p) r an
      (λ z. alone_quiet g b i (b.context i) (id_at b i) p (facts_at i (Alone p) at)))
      (alone_plain (id_at b i) p r)
  turn_moves i _ (begins l f at e) =
      at_rest i (begun g (b.context i) l (begun_at b.size (id_at b i) f)) (Alone (location.Between l)) at refl
      (begun_idle b.size (id_at b i) f)
  turn_moves i _ (turns_to_work l count at e) =
      at_rest i (working g (b.context i) l count) (Alone (location.Between l)) at refl refl
  turn_moves i _ (wakes at) =
      at_rest i (record (b.context i) { at = Alone location.LookAgain }) (Alone location.Asleep) at refl refl
  turn_moves i _ (switches c p r at going an) =
      let b' = switch_board b i (b.context i) c p r in
      let x = switch_context (b.context i) c p r (hand_of b []) in
      stays (sides b b' i x (λ n. refl)) (task_mine b b' i x (λ n. refl) ∙ sym (ap task_at at))
      (λ to e. idle_comes (sym (ap task_at at) ∙ e)) (λ t. refl)
      (λ t. same_wait (b.seen t).word (b.seen t).word refl) plain_none
  turn_moves i _ (begins_switch c at) =
      at_rest i (record (b.context i) { at = InSwitch c switch.AcquireReady }) Resting at refl refl
  turn_moves i _ (ends_switch c s at) =
      at_rest i (record (b.context i) { at = Resting }) (InSwitch c (switch.Finished s)) at refl refl

  pub turn_keeps_queues : (i : ℕ) (b' : Board) → Turn g b i b' → QueuesHold b'
  turn_keeps_queues i b' t = move_keeps b b' i (turn_point g b i b' t) (turn_size g b i b' t) h says (turn_moves i b' t)

  -- WHAT THE QUEUES TELL

  -- those in the queue of one that is destroyed wait for it
  row : (i : ℕ) (c : DestroyCall) (v : StateWord) → (b.context i).at ≡ InDestroy c (destroy.Victim (victim.CommitKill v)) →
      (b.seen c.who.number).word ≡ v → AllWait c.who b.seen (b.queue c.who.number)
  row i c v at won =
      all_wait c.who b.seen (b.queue c.who.number) (h.once c.who.number)
      (λ n e q. subst (λ (id : ThreadId). waits_for id e (b.seen n).word ≡ true) is (stays n e (h.reasons c.who.number n e q)))
    where
      f : AllSay g b i (b.context i) (facts_of (InDestroy c (destroy.Victim (victim.CommitKill v))))
      f = facts_at i (InDestroy c (destroy.Victim (victim.CommitKill v))) at

      was : task_of b i ≡ Idle
      was = ap task_at at

      is : id_at b c.who.number ≡ c.who
      is =
          ap (λ (k : ℕ). record { number = c.who.number; version = k })
          (ap (λ (u : StateWord). u.version) won ∙ eqb-true v.version c.who.version
          (and_parts (eqb v.version c.who.version) (not (is_dead v)) f.1.1.1.1.1.1.1.0).0)

      stays : (n : ℕ) (e : SenderEntry) → Reason b c.who.number n e → waits_for (id_at b c.who.number) e (b.seen n).word ≡ true
      stays n e (by_wait k) = k
      stays n e (by_take k) =
          let mine : c.who.number ≡ i = some_is (sym (subst (TaskSays b c.who.number) k (says c.who.number)) ∙ f.1.1.0) in
          absurd (idle_takes (sym was ∙ ap (task_of b) (sym mine) ∙ k))
      stays n e (by_free k) =
          absurd (subst (λ (u : Task). IsFreed u c.who.number n) was (freed_mine b says i f.1.0 c.who.number n k))
      stays n e (by_kill k) =
          absurd (subst (λ (u : Task). IsToVisit u (sender_of e) c.who.number) was
          (visits_mine b says i f.1.0 c.who.number (sender_of e) k))

  pub queues_tell : (i : ℕ) → CallsUnanswered b → QueuesTell b i
  queues_tell i u = record {
    once = h.once;
    unanswered = u;
    fresh = λ c at won. fresh_here g b i h says c (facts_at i (InSend c (send.Locked send_locked.CommitWait)) at) won;
    row = row i;
  }

-- THE START

pub idle_at : (g : Programs) (b : Board) (n : ℕ) → Booted g b n → task_of b n ≡ Idle
idle_at g b n (has_thread program priority t) = ap (λ (x : Context). task_at x.at) t.context
idle_at g b n (has_none d e) = ap task_at e
idle_at g b n (has_carrier d e) = ap task_at e

silent_at : (g : Programs) (b : Board) (n : ℕ) (to : ThreadId) → Booted g b n → sends_to to (b.seen n).word.state ≡ true → ⊥
silent_at g b n to (has_thread program priority t) y = true_false y (ap (λ (u : StateWord). sends_to to u.state) t.word)
silent_at g b n to (has_none d e) y = dead_silent to (b.seen n).word d y
silent_at g b n to (has_carrier d e) y = dead_silent to (b.seen n).word d y

pub queues_start : (g : Programs) (b : Board) → ((n : ℕ) → Booted g b n) → ((t : ℕ) → b.queue t ≡ []) → b.size ≤ 64 → QueuesHold b
queues_start g b h empty size = record {
  size = size;
  once = λ t. subst IsOnceEach (sym (empty t)) tt;
  senders = λ t n e q. absurd (nothing t n e q);
  reasons = λ t n e q. absurd (nothing t n e q);
  waiting = λ n to y. absurd (silent_at g b n to (h n) y);
  coming = λ n to k d. absurd (idle_comes (sym (idle_at g b n (h n)) ∙ k));
  freed = λ i t n k. absurd (subst (λ (u : Task). IsFreed u t n) (idle_at g b i (h i)) k);
}
  where
    nothing : (t n : ℕ) (e : SenderEntry) → entry_of n (b.queue t) ≡ Some e → ⊥
    nothing t n e q = none_some (sym (ap (entry_of n) (empty t)) ∙ q)
