-- A receive alone makes the specification's event.
use Rattle.std.proofs.Common.{◌≡◌, ◌≢◌, ℕ, ◌+◌, Bool, true, false, not, ◌&&◌, eqb, List, [], ◌∷◌, map, length, refl, sym, ap, ◌∙◌, subst, Option, Some, None, inl, inr}
use Rattle.std.proofs.lemmas.Bool.{cases_Bool, or_parts}
use Rattle.k_ids.specs.declared.threads.ThreadId.{ThreadId}
use Rattle.k_ids.specs.declared.threads.Status.TheVariants as status
use Rattle.k_ids.specs.declared.calls.Phase.TheVariants as phase
use Rattle.k_ids.specs.declared.calls.Act.TheVariants as act
use Rattle.k_ids.specs.declared.calls.Outcome.TheVariants as outcome
use Rattle.k_ids.specs.declared.calls.Reply.{Reply}
use Rattle.k_ids.specs.declared.calls.Reply.TheVariants as reply
use Rattle.k_ids.specs.declared.histories.ReplyLine.{ReplyLine}
use Rattle.k_ids.specs.declared.state_word.Result4.TheVariants as result4
use Rattle.k_ids.specs.declared.state_word.State.{State}
use Rattle.k_ids.specs.declared.state_word.State.TheVariants as state
use Rattle.k_ids.specs.declared.state_word.StateWord.{StateWord}
use Rattle.k_senders.specs.declared.entries.SenderEntry.{SenderEntry}
use Rattle.k_senders.specs.Entries.{number_of}
use Rattle.k_senders.specs.Queue.{Queue}
use Rattle.std.specs.List.{AllByRecursion}
use Rattle.k_locks.specs.Shown.{shows, is_present_in}
use Rattle.k_ipc.specs.declared.receive.ReceiveCall.{ReceiveCall}
use Rattle.k_ipc.specs.Candidates.{first_admitted}
use Rattle.k_ipc.specs.ReceiveTable.{receive_of, stays_out}
use Rattle.k_senders.specs.Entries.{sender_of, message_of}
use Rattle.k_ipc.specs.Words.{is_joined_to}
use Rattle.k_model.specs.State.{KernelState, answered, is_dead, is_present, with_status, waits_for_absent, id_of}
use Rattle.k_model.specs.Step.{called, taken, is_own, status_after}
use Rattle.k_model.specs.Sound.{IsQueued}
use Rattle.k_model.proofs.Maps.{upd_same, upd_other}
use Rattle.k_shown.specs.Leaves.{state_told}
use Rattle.k_shown.specs.Memory.{Memory, Shows, joined_of, table, waiting_of, with_queue, with_word}
use Rattle.k_senders.specs.Entries.{IsEntry}
use Rattle.k_shown.specs.Sound.{IsCaller, IsSoundMemory, IsSoundWords}
use Rattle.k_alone.specs.Alone.{Makes, begun}
use Rattle.k_shown.specs.Rows.{Gives, IsIn, call_of, called_by, next_serial, told, sent_line}
use Rattle.k_shown.proofs.Alike.{alike_from, caller_in, present_same}
use Rattle.k_shown.proofs.ReceiveRows.{gone_row, nobody_row, own_row, takes_row, waits_row}
use Rattle.k_alone.specs.ReceiveAlone.{IsReceiveCall, receive_kind}
use Rattle.k_shown.proofs.Kept.{Renews, SameThreads, pushed, pushed_words, off_nowhere, queued_words, all_without, renewed_words, same_threads, numbers_kept, contexts_kept}
use Rattle.k_shown.proofs.States.{caller_present, renews, upd_twice}
use Rattle.k_shown.specs.Words.{on_with}
use Rattle.std.proofs.lemmas.Option.{none-some, same_Some}
use Rattle.k_lists.proofs.All.{all_inside}
use Rattle.k_alone.proofs.Queues.{FoundAt, admits_none, admits_some, rest_shown}
use Rattle.k_alone.proofs.Receives.{taking, taken_shows, taken_word, without_entry, receiving, taken_threads, words_taken, receiving_threads, receiving_sound}
use Rattle.k_shown.proofs.Left.{leaves_all}
use Rattle.k_alone.proofs.ReceiveLeft.{gone_left, or_joined, pushed_left, sender_turns, taken_left, waits_left}
use Rattle.k_alone.proofs.Made.{makes, makes_one, replay_on, reply_first}
use Rattle.k_alone.proofs.ReceiveRuns.{entry_by, runs_own, runs_nobody, runs_open, runs_closed, runs_gone, runs_taken, runs_pushed}
use Rattle.k_shown.proofs.Statuses.{run_sends, run_waits, sends_one}

-- whose status is sending
pub record Sends (s : State) (to : ThreadId) : Type 0 where
  pub joined : Bool
  pub state : s ≡ state.Sending to joined

pub sends_from : (s : State) (to : ThreadId) → shows s ≡ status.Sending to → Sends s to
sends_from state.Dead to e = absurd cc
sends_from (state.Run r) to e = absurd cc
sends_from (state.Sending a joined) to e = record { joined = joined; state = ap (λ (x : ThreadId). state.Sending x joined) (sends_one a to e) }
sends_from (state.Receiving from) to e = absurd cc
sends_from state.Picking to e = absurd cc
sends_from state.Ended to e = absurd cc

-- the entry that a receiver takes is that of a sender to it
pub record IsSender (m : Memory) (me : ThreadId) (e : SenderEntry) : Type 0 where
  pub version : (m.word (number_of e)).version ≡ (sender_of e).version
  pub sends : Sends (m.word (number_of e)).state me

pub sender_found : (m : Memory) (me : ThreadId) (from : Option ThreadId) (e : SenderEntry) → IsSoundMemory m → (m.word me.number).version ≡ me.version → (f : FoundAt from (m.queue me.number).entries e) → IsSender m me e
sender_found m me from e good v f =
    let q = all_inside (IsQueued (table m) me.number) (map waiting_of f.before) (waiting_of e) (map waiting_of f.after) (subst (AllByRecursion (IsQueued (table m) me.number)) f.first.list (good.lists.queued me.number)) in
    let me_is : id_of (table m) me.number ≡ me = λ d. record { number = me.number; version = v d } in
    record { version = q.version; sends = sends_from (m.word (number_of e)).state me (q.status ∙ ap status.Sending me_is) }

-- presence under the same threads
pub present_stays : (m m' : Memory) → SameThreads m m' → (id : ThreadId) → is_present (table m') id ≡ is_present (table m) id
present_stays m m' s id = λ d. (eqb (s.version id.number d) id.version) && not (s.dead id.number d)

module _ (c : ReceiveCall) (m : Memory) (k : KernelState) (own : StateWord) (h : Shows m k) (good : IsSoundMemory m) (call : IsCaller m c.caller own) (parts : IsReceiveCall c) where
  abbrev Law : Type 0
  Law = Makes (receive_kind ((k.place c.caller.number).serial + 1)) (begun m (receive_of c own)) k (call_of k c.caller (phase.Receive c.from c.zero))

  caller_runs : (k.place c.caller.number).status ≡ status.Run
  caller_runs = h.status c.caller.number ∙ ap (λ (w : StateWord). shows w.state) call.word ∙ ap shows call.runs

  called_runs : ((called k c.caller ((k.place c.caller.number).serial + 1)).place c.caller.number).status ≡ status.Run
  called_runs = ap (λ p. p.status) (upd_same k.place c.caller.number (record (k.place c.caller.number) { serial = (k.place c.caller.number).serial + 1 })) ∙ caller_runs

  runs : IsIn m c.caller status.Run
  runs = caller_in m c.caller own call

  stays : SameThreads m m
  stays = record { size = refl; version = λ n. refl; dead = λ n. refl; context = refl; numbers = refl; room = λ n. refl }

  own_law : is_own c.from c.caller ≡ true → Law
  own_law same =
      let me = c.caller in
      let s = next_serial k me in
      makes_one (receive_kind s) (begun m (receive_of c own)) _ k _ (call_of k me (phase.Receive c.from c.zero)) outcome.Own (told me s reply.Own ∷ [])
      h good (own_row m m k me c.from c.zero h runs same (alike_from m m refl (λ n. refl) (λ n. refl))) (runs_own c s m own good call same parts.receives) refl
      stays good.words
      (reply_first me s reply.Own [], called_runs)
      (leaves_all (call_of k me (phase.Receive c.from c.zero)) outcome.Own (told me s reply.Own ∷ []) m good.words.ready (refl, tt) refl (ap (λ (x : Option Reply). state_told x (m.word me.number).state) (reply_first me s reply.Own [])))

  nobody_law : is_own c.from c.caller ≡ false → first_admitted c.from (m.queue c.caller.number).entries ≡ None → c.zero ≡ true → Law
  nobody_law other none zero =
      let me = c.caller in
      let s = next_serial k me in
      makes_one (receive_kind s) (begun m (receive_of c own)) _ k _ (call_of k me (phase.Receive c.from c.zero)) outcome.Nobody (told me s reply.Nobody ∷ [])
      h good (nobody_row m m k me c.from c.zero h runs other (admits_none c.from (m.queue me.number).entries none) zero (alike_from m m refl (λ n. refl) (λ n. refl))) (runs_nobody c s m own good call other parts.receives none zero) refl
      stays good.words
      (reply_first me s reply.Nobody [], called_runs)
      (leaves_all (call_of k me (phase.Receive c.from c.zero)) outcome.Nobody (told me s reply.Nobody ∷ []) m good.words.ready (refl, tt) refl (ap (λ (x : Option Reply). state_told x (m.word me.number).state) (reply_first me s reply.Nobody [])))

  -- the caller waits, for any or for one that is there
  abbrev waiting_state : KernelState
  waiting_state = with_status (called_by k c.caller) c.caller.number (status.Receiving c.from)

  abbrev waiting_memory : Memory
  waiting_memory = receiving m c.caller own c.from

  waits_status : (waiting_state.place c.caller.number).status ≡ status.Receiving c.from
  waits_status = ap (λ p. p.status) (upd_same (called_by k c.caller).place c.caller.number (record ((called_by k c.caller).place c.caller.number) { status = status.Receiving c.from; joined = false }))

  row_waits : is_own c.from c.caller ≡ false → first_admitted c.from (m.queue c.caller.number).entries ≡ None → c.zero ≡ false → Gives k (call_of k c.caller (phase.Receive c.from c.zero)) outcome.Waits waiting_state [] waiting_memory
  row_waits other none long =
      waits_row m waiting_memory k c.caller c.from c.zero h runs other (admits_none c.from (m.queue c.caller.number).entries none) long (on_with own (state.Receiving c.from))
      (record { version = call.version; status = refl; joined = refl }) (alike_from _ waiting_memory refl (λ n. refl) (λ n. refl))

  threads_waiting : SameThreads m waiting_memory
  threads_waiting = receiving_threads m c.caller own c.from call

  open_law : c.from ≡ None → first_admitted c.from (m.queue c.caller.number).entries ≡ None → c.zero ≡ false → Law
  open_law any none long =
      let me = c.caller in
      let s = next_serial k me in
      let other : is_own c.from me ≡ false = ap (λ (f : Option ThreadId). is_own f me) any in
      makes_one (receive_kind s) (begun m (receive_of c own)) _ k waiting_state (call_of k me (phase.Receive c.from c.zero)) outcome.Waits []
      h good (row_waits other none long) (runs_open c s m own good call any parts.receives none long) refl
      threads_waiting (receiving_sound m me own c.from call good.words parts.from (λ id q. absurd (none-some id (sym any ∙ q))))
      (refl, rw waits_status refl, rw waits_status refl)
      (waits_left m me own s good call.word call.on (act.Call (phase.Receive c.from c.zero)) c.from threads_waiting)

  closed_law : (from : ThreadId) → c.from ≡ Some from → is_own c.from c.caller ≡ false → first_admitted c.from (m.queue c.caller.number).entries ≡ None → c.zero ≡ false → is_present_in (waiting_memory.word from.number) from ≡ true → Law
  closed_law from closed other none long here =
      let me = c.caller in
      let s = next_serial k me in
      let there : is_present (table m) from ≡ true = sym (present_stays m waiting_memory threads_waiting from) ∙ (sym (present_same waiting_memory from) ∙ here) in
      makes_one (receive_kind s) (begun m (receive_of c own)) _ k waiting_state (call_of k me (phase.Receive c.from c.zero)) outcome.Waits []
      h good (row_waits other none long) (runs_closed c s m own good call from closed other parts.receives none long parts.from here) refl
      threads_waiting (receiving_sound m me own c.from call good.words parts.from (λ id q. subst (λ (x : ThreadId). is_present (table m) x ≡ true) (same_Some from id (sym closed ∙ q)) there))
      (refl, rw waits_status refl, rw waits_status refl)
      (waits_left m me own s good call.word call.on (act.Call (phase.Receive c.from c.zero)) c.from threads_waiting)

  -- the one for whom it waits isn't there: it is freed at once
  gone_law : (from : ThreadId) → c.from ≡ Some from → is_own c.from c.caller ≡ false → first_admitted c.from (m.queue c.caller.number).entries ≡ None → c.zero ≡ false → is_present_in (waiting_memory.word from.number) from ≡ false → Law
  gone_law from closed other none long gone =
      let me = c.caller in
      let n = me.number in
      let s = next_serial k me in
      let k1 = called_by k me in
      let k2 = waiting_state in
      let k3 = answered (with_status k2 n status.Run) me s reply.Gone in
      let w = on_with own (state.Run result4.Gone) in
      let m1 = waiting_memory in
      let m2 = with_word m1 n w in
      let mg = with_word m n w in
      let twice : mg ≡ m2 = ap (λ (f : ℕ → StateWord). record m { word = f }) (sym (upd_twice m.word n (on_with own (state.Receiving c.from)) w)) in
      let lives : is_dead (shows (m.word n).state) ≡ false = ap (λ (x : StateWord). is_dead (shows x.state)) call.word ∙ ap (λ (x : State). is_dead (shows x)) call.runs in
      let threads : SameThreads m m2 = subst (SameThreads m) twice (same_threads m n w (sym (ap (λ (x : StateWord). x.version) call.word)) (sym lives)) in
      let words : IsSoundWords m2 = subst IsSoundWords twice (renewed_words m n w (subst (λ (x : StateWord). Renews m n (on_with x (state.Run result4.Gone))) call.word (renews m n (state.Run result4.Gone) (good.words.words n) lives refl tt (λ id q. absurd (run_sends id q)) (λ id q. absurd (run_waits id q)))) good.words) in
      let waits = row_waits other none long in
      let word_is : m1.word n ≡ on_with own (state.Receiving c.from) = upd_same m.word n (on_with own (state.Receiving c.from)) in
      let is : IsIn m1 me (status.Receiving c.from) = record { version = ap (λ (x : StateWord). x.version) word_is ∙ call.version; status = ap (λ (x : StateWord). shows x.state) word_is } in
      let absent : waits_for_absent (table m1) (status.Receiving c.from) ≡ true = rw closed (ap not (sym (present_same m1 from) ∙ gone)) in
      let serial : (k2.place n).serial ≡ s = ap (λ p. p.serial) (upd_same k1.place n (record (k1.place n) { status = status.Receiving c.from; joined = false })) ∙ ap (λ p. p.serial) (upd_same k.place n (record (k.place n) { serial = s })) in
      let freed : Gives k2 (record { who = me; serial = s; act = act.Gone }) outcome.Freed k3 (told me s reply.Gone ∷ []) m2 =
      subst (λ (x : ℕ). Gives k2 (record { who = me; serial = x; act = act.Gone }) outcome.Freed (answered (with_status k2 n status.Run) me x reply.Gone) (told me x reply.Gone ∷ []) m2) serial
      (gone_row m1 m2 k2 me (status.Receiving c.from) w waits.shows is absent (record { version = call.version; status = refl; joined = refl }) (alike_from _ m2 refl (λ n. refl) (λ n. refl))) in
      makes (receive_kind s) (begun m (receive_of c own)) _ k k3 (call_of k me (phase.Receive c.from c.zero)) outcome.Waits (entry_by s c act.Gone outcome.Freed ∷ []) (record { id = me; serial = s; reply = reply.Gone } ∷ [])
      (runs_gone c s m own good call from closed other parts.receives none long parts.from gone)
      (record {
        shown = h;
        good = good;
        frees = (record { gone = refl; freed = refl }, tt);
        entries = refl;
        legal = replay_on k k2 k3 (call_of k me (phase.Receive c.from c.zero)) outcome.Waits (entry_by s c act.Gone outcome.Freed ∷ []) waits.enabled waits.makes
            (replay_on k2 k3 k3 (record { who = me; serial = s; act = act.Gone }) outcome.Freed [] freed.enabled freed.makes refl);
        shows = freed.shows;
        size = refl;
        room = λ n. refl;
        words = words;
        numbers = numbers_kept m m2 threads good.numbers;
        contexts = contexts_kept m m2 threads good.contexts;
        replies = refl;
        leaves = gone_left m me own s good call.word call.on (phase.Receive c.from c.zero) c.from threads;
        tells = (reply_first me s reply.Gone [], ap (λ p. p.status) (upd_same k2.place n (record (k2.place n) { status = status.Run; joined = false })));
      })

  -- A message is taken.
  module _ (e : SenderEntry) (other : is_own c.from c.caller ≡ false) (some : first_admitted c.from (m.queue c.caller.number).entries ≡ Some e) where
    found_at : FoundAt c.from (m.queue c.caller.number).entries e
    found_at = admits_some c.from (m.queue c.caller.number).entries e (good.lists.apart c.caller.number) some

    sender : IsSender m c.caller e
    sender = sender_found m c.caller c.from e good (ap (λ (w : StateWord). w.version) call.word ∙ call.version) found_at

    not_me : c.caller.number ≢ number_of e
    not_me q =
        let one : status.Run ≡ status.Sending c.caller = sym (ap (λ (w : StateWord). shows w.state) call.word ∙ ap shows call.runs) ∙ ap (λ (n : ℕ). shows (m.word n).state) q ∙ ap shows sender.sends.state in
        cc

    sends : IsIn m (sender_of e) (status.Sending c.caller)
    sends = record { version = sender.version; status = ap shows sender.sends.state }

    abbrev taken_state : KernelState
    taken_state = taken (called_by k c.caller) c.caller (next_serial k c.caller) (length (map waiting_of found_at.before))

    -- whether the sender's send was joined
    abbrev was_joined : Bool
    was_joined = joined_of (m.word (number_of e)).state

    joined_is : was_joined ≡ sender.sends.joined
    joined_is = ap joined_of sender.sends.state

    abbrev freed_line : List ReplyLine
    freed_line = sent_line (sender_of e) (k.place (number_of e)).serial (status_after was_joined c.caller)

    abbrev lines_taken : List ReplyLine
    lines_taken = told c.caller (next_serial k c.caller) (reply.Got (sender_of e) (message_of e)) ∷ freed_line

    -- a memory with these words and queues shows the state
    row_taken : (m' : Memory) → m'.size ≡ m.size → m'.word ≡ (taking m c.caller e sender.sends.joined).word → m'.queue ≡ (taking m c.caller e sender.sends.joined).queue → Gives k (call_of k c.caller (phase.Receive c.from c.zero)) (outcome.Took (sender_of e) (message_of e)) taken_state lines_taken m'
    row_taken m' es ew eq =
        let me = c.caller in
        let q = without_entry (m.queue me.number) e in
        takes_row m m' k me c.from c.zero h runs (waiting_of e) (map waiting_of found_at.before) (map waiting_of found_at.after) found_at.first sends other (taken_word sender.sends.joined me (m.word (number_of e))) q
        (taken_shows m me e sender.sends.joined sender.sends.state sender.version) (rest_shown c.from (m.queue me.number).entries e found_at)
        (alike_from _ m' es (λ n. ap (λ (f : ℕ → StateWord). f n) ew) (λ n. ap (λ (f : ℕ → Queue). f n) eq))

    threads_taken : SameThreads m (taking m c.caller e sender.sends.joined)
    threads_taken = taken_threads m c.caller e sender.sends.joined sender.sends.state

    taken_runs : (taken_state.place c.caller.number).status ≡ status.Run
    taken_runs = (row_taken (taking m c.caller e sender.sends.joined) refl refl refl).shows.status c.caller.number ∙ ap (λ (w : StateWord). shows w.state) (upd_other m.word (number_of e) (taken_word sender.sends.joined c.caller (m.word (number_of e))) c.caller.number not_me) ∙ ap (λ (w : StateWord). shows w.state) call.word ∙ ap shows call.runs

    stays_law : stays_out (m.word (number_of e)) ≡ true → Law
    stays_law stays =
        let me = c.caller in
        let s = next_serial k me in
        let j = sender.sends.joined in
        makes_one (receive_kind s) (begun m (receive_of c own)) _ k taken_state (call_of k me (phase.Receive c.from c.zero)) (outcome.Took (sender_of e) (message_of e)) lines_taken
        h good (row_taken (taking m me e j) refl refl refl)
        (runs_taken c s m own good call e j sender.sends.state sender.version parts.caller (caller_present m me own call) other parts.receives some stays) refl
        threads_taken (queued_words _ me.number (without_entry (m.queue me.number) e) (all_without IsEntry (number_of e) (m.queue me.number).entries (good.words.entries me.number)) (words_taken m me e j sender.sends.state good.words parts.caller (caller_present m me own call)))
        (reply_first me s (reply.Got (sender_of e) (message_of e)) freed_line, taken_runs)
        (taken_left m me s good e j sender.sends.state not_me _ joined_is (k.place (number_of e)).serial (act.Call (phase.Receive c.from c.zero)) (taking m me e j) threads_taken
        (sender_turns m me s good e j sender.sends.state not_me _ joined_is (k.place (number_of e)).serial)
        (upd_same m.word (number_of e) (taken_word j me (m.word (number_of e))))
        (ap (λ (x : StateWord). x.state) (upd_other m.word (number_of e) (taken_word j me (m.word (number_of e))) me.number not_me))
        refl refl (sym (or_joined (m.word (number_of e)).state me j (m.word (number_of e)).on sender.sends.state) ∙ stays) refl)

    pushed_law : stays_out (m.word (number_of e)) ≡ false → Law
    pushed_law off =
        let me = c.caller in
        let n = number_of e in
        let s = (k.place me.number).serial + 1 in
        let j = sender.sends.joined in
        let both = or_parts _ _ off in
        let plain : j ≡ false = sym (ap is_joined_to sender.sends.state) ∙ both.0 in
        let st : (m.word n).state ≡ state.Sending me false = sender.sends.state ∙ ap (state.Sending me) plain in
        let w = taken_word false me (m.word n) in
        let m1 = with_word m n w in
        let is : m1.word n ≡ w = upd_same m.word n w in
        let words1 = words_taken m me e false st good.words parts.caller (caller_present m me own call) in
        let words2 : IsSoundWords (pushed m1 (sender_of e) (m.word n).priority) =
        subst (λ (p : ℕ). IsSoundWords (pushed m1 (sender_of e) p)) (ap (λ (x : StateWord). x.priority) is)
        (pushed_words m1 (sender_of e) words1 (ap (λ (x : StateWord). x.version) is ∙ sender.version) (ap (λ (x : StateWord). is_dead (shows x.state)) is) (ap (λ (x : StateWord). x.on) is) (off_nowhere m n good.words.ready both.1)) in
        let t = subst (λ (b : Bool). SameThreads m (taking m me e b)) plain threads_taken in
        let mp = with_queue (pushed m1 (sender_of e) (m.word n).priority) me.number (without_entry (m.queue me.number) e) in
        makes_one (receive_kind s) (begun m (receive_of c own)) _ k taken_state (call_of k me (phase.Receive c.from c.zero)) (outcome.Took (sender_of e) (message_of e)) lines_taken
        h good (row_taken mp refl (ap (λ (b : Bool). (taking m me e b).word) (sym plain)) refl)
        (runs_pushed c s m own good call e st sender.version parts.caller (caller_present m me own call) other parts.receives some off) refl
        (record { size = t.size; version = t.version; dead = t.dead; context = t.context; numbers = t.numbers; room = t.room })
        (queued_words _ me.number (without_entry (m.queue me.number) e) (all_without IsEntry (number_of e) (m.queue me.number).entries (good.words.entries me.number)) words2)
        (reply_first me s (reply.Got (sender_of e) (message_of e)) freed_line, taken_runs)
        (pushed_left m me s good e false st not_me _ (joined_is ∙ plain) (k.place n).serial (act.Call (phase.Receive c.from c.zero)) (with_queue (pushed m1 (sender_of e) (m.word n).priority) me.number (without_entry (m.queue me.number) e))
        (record { size = t.size; version = t.version; dead = t.dead; context = t.context; numbers = t.numbers; room = t.room })
        (sender_turns m me s good e false st not_me _ (joined_is ∙ plain) (k.place n).serial)
        is
        (ap (λ (x : StateWord). x.state) (upd_other m.word n w me.number not_me))
        refl refl refl both.1 refl)

    took_law : Law
    took_law = elim (cases_Bool (stays_out (m.word (number_of e)))) [ inl y ↦ stays_law y | inr y ↦ pushed_law y ]

  -- by whom it waits for, with nobody there
  none_law : is_own c.from c.caller ≡ false → first_admitted c.from (m.queue c.caller.number).entries ≡ None → Law
  none_law other none = elim (cases_Bool c.zero) [ inl zero ↦ nobody_law other none zero | inr long ↦ by_from c.from refl long ]
    where
      by_from : (f : Option ThreadId) → c.from ≡ f → c.zero ≡ false → Law
      by_from None e long = open_law e none long
      by_from (Some p) e long = elim (cases_Bool (is_present_in (waiting_memory.word p.number) p)) [ inl here ↦ closed_law p e other none long here | inr gone ↦ gone_law p e other none long gone ]

  any_law : is_own c.from c.caller ≡ false → Law
  any_law other = by_entry (first_admitted c.from (m.queue c.caller.number).entries) refl
    where
      by_entry : (o : Option SenderEntry) → first_admitted c.from (m.queue c.caller.number).entries ≡ o → Law
      by_entry None e = none_law other e
      by_entry (Some x) e = took_law x other e

  pub receive_law : Makes (receive_kind ((k.place c.caller.number).serial + 1)) (begun m (receive_of c own)) k (call_of k c.caller (phase.Receive c.from c.zero))
  receive_law = elim (cases_Bool (is_own c.from c.caller)) [ inl own ↦ own_law own | inr other ↦ any_law other ]
