-- A send alone makes the specification's event.
use Rattle.std.proofs.Common.{◌≡◌, ◌≢◌, ℕ, ◌+◌, ◌^◌, ◌<◌, true, false, List, [], ◌∷◌, ◌++◌, refl, sym, ap, ◌∙◌, subst, arith, Option, Some, inl, inr}
use Rattle.std.proofs.lemmas.Bool.{and_parts, eqb-true, cases_Bool, cond_both, not-true}
use Rattle.std.proofs.lemmas.List.{map_push}
use Rattle.k_ids.specs.declared.threads.ThreadId.{ThreadId}
use Rattle.k_ids.specs.declared.threads.Message.{Message}
use Rattle.k_ids.specs.declared.threads.Status.{Status}
use Rattle.k_ids.specs.declared.threads.Status.TheVariants as status
use Rattle.k_ids.specs.declared.calls.Outcome.{Outcome}
use Rattle.k_ids.specs.declared.calls.Outcome.TheVariants as outcome
use Rattle.k_ids.specs.declared.calls.Reply.{Reply}
use Rattle.k_ids.specs.declared.calls.Reply.TheVariants as reply
use Rattle.k_ids.specs.declared.histories.ReplyLine.{ReplyLine}
use Rattle.k_ids.specs.declared.state_word.Result4.TheVariants as result4
use Rattle.k_ids.specs.declared.state_word.State.{State}
use Rattle.k_ids.specs.declared.state_word.State.TheVariants as state
use Rattle.k_ids.specs.declared.state_word.StateWord.{StateWord}
use Rattle.k_senders.proofs.EntrySpelled.{entry_message, entry_sender, entry_small}
use Rattle.k_locks.specs.Shown.{shows, is_present_in, found_in}
use Rattle.k_ipc.specs.declared.send.Manner.{Manner}
use Rattle.k_ipc.specs.declared.send.Manner.TheVariants as manner
use Rattle.k_ipc.specs.declared.send.SendCall.{SendCall}
use Rattle.k_ipc.specs.declared.send.SendLocked.TheVariants.{Release}
use Rattle.k_ipc.specs.declared.send.SendRelease.TheVariants as release
use Rattle.k_ipc.specs.SendTable.{send_of, phase_by, passed_end, is_joined, after_receiver, refusal_of, point_of}
use Rattle.k_senders.specs.Entries.{entry_for}
use Rattle.k_model.specs.State.{KernelState, Waiting, answered, is_dead, is_present, is_run, same_id, takes_from, with_status}
use Rattle.k_model.specs.Step.{called, sent, passed}
use Rattle.k_model.specs.Answered.{reply_to}
use Rattle.k_model.specs.Maps.{upd}
use Rattle.k_model.proofs.Maps.{upd_same}
use Rattle.k_model.proofs.Places.{queued_status}
use Rattle.k_shown.specs.Leaves.{made_by, state_told}
use Rattle.k_shown.specs.Memory.{Memory, Shows, table, joined_of, waiting, waiting_of}
use Rattle.k_shown.specs.Sound.{IsCaller, IsSoundMemory, IsSoundWords}
use Rattle.k_alone.specs.Alone.{Makes, Tells, begun}
use Rattle.k_shown.specs.Rows.{Answers, Gives, IsIn, Sending, call_of, called_by, next_serial, sending_of, told, sent_line}
use Rattle.k_shown.proofs.Alike.{alike_from, caller_in, present_same}
use Rattle.k_shown.proofs.SendRows.{absent_row, busy_row, own_row, passes_row, same_turned, waits_row}
use Rattle.k_senders.specs.Queue.{Queue}
use Rattle.k_ipc.specs.Words.{IsRoom}
use Rattle.k_alone.specs.SendAlone.{Delivers, IsSendCall, send_kind}
use Rattle.k_shown.proofs.Kept.{SameThreads, pushed, pushed_words, off_nowhere}
use Rattle.k_shown.proofs.States.{caller_present, apart_numbers, upd_swap}
use Rattle.k_shown.specs.Words.{on_with}
use Rattle.k_alone.proofs.Sends.{passing, passed_threads, passed_words, queued_threads, queued_sound, waits_at}
use Rattle.k_shown.proofs.Rooms.{caller_fresh, caller_inside, present_inside, queue_short}
use Rattle.k_shown.proofs.Left.{leaves_all}
use Rattle.k_alone.proofs.SendLeft.{passed_off_left, passed_on_left, waits_left}
use Rattle.k_alone.proofs.Made.{makes_one, reply_first, reply_other}
use Rattle.k_alone.proofs.SendRuns.{state_after, runs_own, runs_refused, runs_queued, runs_passed_on, runs_passed_off, after_partner, after_live}

-- an entry shows its sender and its message
pub entry_shows : (who : ThreadId) (message : Message) → who.number < 64 → who.version < 2 ^ 20 → message.low < 2 ^ 32 → waiting_of (entry_for who message) ≡ (who, message)
entry_shows who message n v l = λ d. (entry_sender who message n v d, entry_message who message l d)

after_joined : (a : Manner) (to : ThreadId) → joined_of (state_after a to) ≡ false
after_joined manner.Plain to = refl
after_joined manner.Joined to = refl
after_joined manner.Reply to = refl

after_alive : (a : Manner) (to : ThreadId) → is_dead (shows (state_after a to)) ≡ false
after_alive manner.Plain to = refl
after_alive manner.Joined to = refl
after_alive manner.Reply to = refl

after_sends : (a : Manner) (to id : ThreadId) → shows (state_after a to) ≡ status.Sending id → ⊥
after_sends manner.Plain to id e = cc
after_sends manner.Joined to id e = cc
after_sends manner.Reply to id e = cc

after_waits : (a : Manner) (to id : ThreadId) → shows (state_after a to) ≡ status.Receiving (Some id) → to ≡ id
after_waits manner.Plain to id e = absurd cc
after_waits manner.Joined to id e = cc
after_waits manner.Reply to id e = absurd cc

-- what each manner sends
abbrev sending_by : SendCall → Manner → Sending
sending_by c a = record { to = c.to; message = c.message; zero = c.zero; joined = is_joined a; after = shows (state_after a c.to) }

sending_is : (c : SendCall) (a : Manner) → sending_of (phase_by c a) ≡ Some (sending_by c a)
sending_is c manner.Plain = refl
sending_is c manner.Joined = refl
sending_is c manner.Reply = refl

tells_passed : (a : Manner) (me to : ThreadId) (serial : ℕ) → Tells (passed_end a) (shows (state_after a to)) (reply_to (sent_line me serial (shows (state_after a to))) me serial)
tells_passed manner.Plain me to serial = (reply_first me serial reply.Sent [], refl)
tells_passed manner.Joined me to serial = (refl, refl, refl)
tells_passed manner.Reply me to serial = (refl, refl)

sent_status : (k : KernelState) (who : ThreadId) (serial : ℕ) (after : Status) → ((sent k who serial after).place who.number).status ≡ after
sent_status k who serial after =
    let e = ap (λ p. p.status) (upd_same k.place who.number (record (k.place who.number) { status = after; joined = false })) in
    cond_both (is_run after) _ _ (λ (r : KernelState). (r.place who.number).status ≡ after) (λ _. e) (λ _. e)

passed_caller : (k : KernelState) (me : ThreadId) (serial : ℕ) (to : ThreadId) (message : Message) (after : Status) → ((passed k me serial to message after).place me.number).status ≡ after
unfolding passed
passed_caller k me serial to message after = sent_status (answered (with_status k to.number status.Run) to (k.place to.number).serial (reply.Got me message)) me serial after

-- There is room in each queue for a caller's entry.
room_for : (m : Memory) (me : ThreadId) (own : StateWord) → IsSoundMemory m → IsCaller m me own → (n : ℕ) → n < m.size → IsRoom me (m.queue n)
room_for m me own good call n inside =
    let room = good.room n inside in
    let mine = caller_inside m me own good call in
    record { few = queue_short m me own good call n inside; inside = omega (arith, mine, room); fresh = caller_fresh m me own good call n }

module _ (c : SendCall) (m : Memory) (k : KernelState) (own : StateWord) (h : Shows m k) (good : IsSoundMemory m) (call : IsCaller m c.caller own) (parts : IsSendCall c) where
  abbrev Law : Type 0
  Law = Makes (send_kind ((k.place c.caller.number).serial + 1)) (begun m (send_of c own)) k (call_of k c.caller (phase_by c c.manner))

  caller_runs : (k.place c.caller.number).status ≡ status.Run
  caller_runs = h.status c.caller.number ∙ ap (λ (w : StateWord). shows w.state) call.word ∙ ap shows call.runs

  called_runs : ((called k c.caller ((k.place c.caller.number).serial + 1)).place c.caller.number).status ≡ status.Run
  called_runs = ap (λ p. p.status) (upd_same k.place c.caller.number (record (k.place c.caller.number) { serial = (k.place c.caller.number).serial + 1 })) ∙ caller_runs

  runs : IsIn m c.caller status.Run
  runs = caller_in m c.caller own call

  abbrev what : Sending
  what = sending_by c c.manner

  what_is : sending_of (phase_by c c.manner) ≡ Some what
  what_is = sending_is c c.manner

  stays : SameThreads m m
  stays = record { size = refl; version = λ n. refl; dead = λ n. refl; context = refl; numbers = refl; room = λ n. refl }

  own_law : same_id c.to c.caller ≡ true → Law
  own_law same =
      let me = c.caller in
      let s = next_serial k me in
      makes_one (send_kind s) (begun m (send_of c own)) _ k _ (call_of k me (phase_by c c.manner)) outcome.Own (told me s reply.Own ∷ [])
      h good (own_row m m k me (phase_by c c.manner) what h runs what_is same (alike_from m m refl (λ n. refl) (λ n. refl))) (runs_own c s m own good call same) refl
      stays good.words
      (reply_first me s reply.Own [], called_runs)
      (leaves_all (call_of k me (phase_by c c.manner)) outcome.Own (told me s reply.Own ∷ []) m good.words.ready (refl, tt) refl (ap (λ (x : Option Reply). state_told x (m.word me.number).state) (reply_first me s reply.Own [])))

  -- refused with this reply
  refused_law : (r : Reply) (o : Outcome) → ((s : State) → state_told (Some r) s ≡ s) → made_by o ≡ [] → same_id c.to c.caller ≡ false → after_receiver c (m.word c.to.number) ≡ Release (release.Refused r) → refusal_of c (m.word c.to.number) ≡ Some (point_of c o) → Answers k c.caller (phase_by c c.manner) o r m → Law
  refused_law r o kept nobody other leads tells row =
      let me = c.caller in
      let s = next_serial k me in
      makes_one (send_kind s) (begun m (send_of c own)) _ k _ (call_of k me (phase_by c c.manner)) o (told me s r ∷ [])
      h good row (runs_refused c s m own good call r o other leads tells) refl
      stays good.words
      (reply_first me s r [], called_runs)
      (leaves_all (call_of k me (phase_by c c.manner)) o (told me s r ∷ []) m good.words.ready (refl, tt) nobody (ap (λ (x : Option Reply). state_told x (m.word me.number).state) (reply_first me s r []) ∙ kept (m.word me.number).state))

  absent_law : same_id c.to c.caller ≡ false → is_present_in (m.word c.to.number) c.to ≡ false → Law
  absent_law other gone =
      refused_law (reply.Absent (found_in c.to.number (m.word c.to.number))) (outcome.Absent (found_in c.to.number (m.word c.to.number))) (λ _. refl) refl other (rw gone refl) (rw gone refl)
      (absent_row m m k c.caller (phase_by c c.manner) what h runs what_is other gone (alike_from m m refl (λ n. refl) (λ n. refl)))

  busy_law : same_id c.to c.caller ≡ false → is_present_in (m.word c.to.number) c.to ≡ true → takes_from (shows (m.word c.to.number).state) c.caller c.zero ≡ false → c.zero ≡ true → Law
  busy_law other here takes zero =
      refused_law (reply.Busy (found_in c.to.number (m.word c.to.number))) (outcome.Busy (found_in c.to.number (m.word c.to.number))) (λ _. refl) refl other (rw (here, takes, zero) refl) (rw (here, takes, zero) refl)
      (busy_row m m k c.caller (phase_by c c.manner) what h runs what_is other here takes zero (alike_from m m refl (λ n. refl) (λ n. refl)))

  apart : same_id c.to c.caller ≡ false → is_present_in (m.word c.to.number) c.to ≡ true → c.caller.number ≢ c.to.number
  apart other here = apart_numbers m c.caller c.to (caller_present m c.caller own call) (sym (present_same m c.to) ∙ here) (same_turned c.caller c.to ∙ other)

  waits_law : same_id c.to c.caller ≡ false → is_present_in (m.word c.to.number) c.to ≡ true → takes_from (shows (m.word c.to.number).state) c.caller c.zero ≡ false → c.zero ≡ false → Law
  waits_law other here takes zero =
      let me = c.caller in
      let s = next_serial k me in
      let j = is_joined c.manner in
      let e = entry_for me c.message in
      let w = on_with own (state.Sending c.to j) in
      let q : Queue = record (m.queue c.to.number) { entries = (m.queue c.to.number).entries ++ e ∷ [] } in
      let longer : waiting q ≡ waiting (m.queue c.to.number) ++ (me, c.message) ∷ [] = map_push waiting_of (m.queue c.to.number).entries e ∙ ap (λ (x : Waiting). waiting (m.queue c.to.number) ++ x ∷ []) (entry_shows me c.message parts.caller.number parts.caller.version parts.low) in
      let row = waits_row m _ k me (phase_by c c.manner) what h runs what_is other here takes zero w q (record { version = call.version; status = refl; joined = refl }) longer (alike_from _ (waits_at m me own j c.to e) refl (λ n. refl) (λ n. refl)) in
      let st = queued_status (called_by k me) me c.to c.message j me.number (apart other here) ∙ upd_same (λ u. ((called_by k me).place u).status) me.number (status.Sending c.to) in
      makes_one (send_kind s) (begun m (send_of c own)) _ k _ (call_of k me (phase_by c c.manner)) outcome.Waits []
      h good row (runs_queued c s m own good call other (rw (here, takes, zero) refl) (rw (here, takes, zero) refl) parts.to (room_for m me own good call c.to.number (present_inside m c.to good (sym (present_same m c.to) ∙ here)))) refl
      (queued_threads m me own j c.to e call)
      (queued_sound m me own j c.to e call good.words (entry_small me c.message parts.caller.number parts.caller.version) parts.to (sym (present_same m c.to) ∙ here) (apart other here))
      (refl, rw st refl, rw st refl)
      (waits_left m me own s (phase_by c c.manner) c.to good call j e (queued_threads m me own j c.to e call))

  module _ (other : same_id c.to c.caller ≡ false) (here : is_present_in (m.word c.to.number) c.to ≡ true) (takes : takes_from (shows (m.word c.to.number).state) c.caller c.zero ≡ true) where
    alive : is_dead (shows (m.word c.to.number).state) ≡ false
    alive = not-true (is_dead (shows (m.word c.to.number).state)) (and_parts _ _ (sym (present_same m c.to) ∙ here)).1

    version_there : (m.word c.to.number).version ≡ c.to.version
    version_there = eqb-true _ _ (and_parts _ _ here).0

    abbrev passed_to : KernelState
    passed_to = passed (called_by k c.caller) c.caller (next_serial k c.caller) c.to c.message (shows (state_after c.manner c.to))

    abbrev memory_after : Memory
    memory_after = passing m c.caller own (state_after c.manner c.to) c.to c.message

    abbrev got_line : ReplyLine
    got_line = told c.to (k.place c.to.number).serial (reply.Got c.caller c.message)

    abbrev lines_after : List ReplyLine
    lines_after = got_line ∷ sent_line c.caller (next_serial k c.caller) (shows (state_after c.manner c.to))

    -- a memory with these words and queues shows the state
    row_after : (m' : Memory) → m'.size ≡ m.size → m'.word ≡ memory_after.word → m'.queue ≡ m.queue → Gives k (call_of k c.caller (phase_by c c.manner)) outcome.Passed passed_to lines_after m'
    row_after m' es ew eq =
        let me = c.caller in
        let w = on_with own (state_after c.manner c.to) in
        let v = on_with (m.word c.to.number) (state.Run (result4.Delivered me)) in
        passes_row m m' k me (phase_by c c.manner) what h runs what_is other here takes w v
        (record { version = call.version; status = refl; joined = after_joined c.manner c.to })
        (record { version = version_there; status = refl; joined = refl })
        (alike_from _ m' es (λ n. ap (λ (f : ℕ → StateWord). f n) (ew ∙ upd_swap m.word me.number c.to.number w v (apart other here))) (λ n. ap (λ (f : ℕ → Queue). f n) eq))

    threads_after : SameThreads m memory_after
    threads_after = passed_threads m c.caller own (state_after c.manner c.to) c.to c.message call (apart other here) alive (after_alive c.manner c.to)

    words_after : IsSoundWords memory_after
    words_after =
        passed_words m c.caller own (state_after c.manner c.to) c.to c.message call (apart other here) good.words (after_partner c.manner c.to parts.to) (after_live c.manner c.to)
        (λ id q. absurd (after_sends c.manner c.to id q))
        (λ id q. subst (λ (x : ThreadId). is_present (table m) x ≡ true) (after_waits c.manner c.to id q) (sym (present_same m c.to) ∙ here))
        alive parts.caller

    told_after : Tells (passed_end c.manner) (passed_to.place c.caller.number).status (reply_to lines_after c.caller (next_serial k c.caller))
    told_after =
        let me = c.caller in
        let s = next_serial k me in
        let lines = sent_line me s (shows (state_after c.manner c.to)) in
        let st = passed_caller (called_by k me) me s c.to c.message (shows (state_after c.manner c.to)) in
        let rest = reply_other me s got_line lines other in
        subst (λ (x : Status). Tells (passed_end c.manner) x (reply_to lines_after me s)) (sym st)
        (subst (λ (r : Option Reply). Tells (passed_end c.manner) (shows (state_after c.manner c.to)) r) (sym rest) (tells_passed c.manner me c.to s))

    passed_on_law : (m.word c.to.number).on ≡ true → Law
    passed_on_law was =
        let me = c.caller in
        let s = next_serial k me in
        makes_one (send_kind s) (begun m (send_of c own)) _ k passed_to (call_of k me (phase_by c c.manner)) outcome.Passed lines_after
        h good (row_after memory_after refl refl refl)
        (runs_passed_on c s m own good call other (apart other here) (rw (here, takes) refl) (rw (here, takes) refl) parts alive was) refl
        threads_after words_after
        told_after
        (passed_on_left m me own s (phase_by c c.manner) c.to c.message got_line.serial good call other (apart other here) c.manner c.zero takes was threads_after)

    passed_off_law : (m.word c.to.number).on ≡ false → Law
    passed_off_law was =
        let me = c.caller in
        let s = next_serial k me in
        let d = on_with (m.word c.to.number) (state.Run (result4.Delivered me)) in
        let is : memory_after.word c.to.number ≡ d = upd_same _ c.to.number d in
        let words : IsSoundWords (pushed memory_after c.to (m.word c.to.number).priority) =
        subst (λ (p : ℕ). IsSoundWords (pushed memory_after c.to p)) (ap (λ (w : StateWord). w.priority) is)
        (pushed_words memory_after c.to words_after (ap (λ (w : StateWord). w.version) is ∙ version_there) (ap (λ (w : StateWord). is_dead (shows w.state)) is) (ap (λ (w : StateWord). w.on) is) (off_nowhere m c.to.number good.words.ready was)) in
        let t = threads_after in
        makes_one (send_kind s) (begun m (send_of c own)) _ k passed_to (call_of k me (phase_by c c.manner)) outcome.Passed lines_after
        h good (row_after (pushed memory_after c.to (m.word c.to.number).priority) refl refl refl)
        (runs_passed_off c s m own good call other (apart other here) (rw (here, takes) refl) (rw (here, takes) refl) parts alive was) refl
        (record { size = t.size; version = t.version; dead = t.dead; context = t.context; numbers = t.numbers; room = t.room })
        words
        told_after
        (passed_off_left m me own s (phase_by c c.manner) c.to c.message got_line.serial good call other (apart other here) c.manner c.zero takes was (record { size = t.size; version = t.version; dead = t.dead; context = t.context; numbers = t.numbers; room = t.room }))

    passed_law : Law
    passed_law = elim (cases_Bool (m.word c.to.number).on) [ inl e ↦ passed_on_law e | inr e ↦ passed_off_law e ]

  pub send_law : Makes (send_kind ((k.place c.caller.number).serial + 1)) (begun m (send_of c own)) k (call_of k c.caller (phase_by c c.manner))
  send_law =
      elim (cases_Bool (same_id c.to c.caller)) [
        | inl own ↦ own_law own
        | inr other ↦ elim (cases_Bool (is_present_in (m.word c.to.number) c.to)) [
          | inr gone ↦ absent_law other gone
          | inl here ↦ elim (cases_Bool (takes_from (shows (m.word c.to.number).state) c.caller c.zero)) [
            | inl takes ↦ passed_law other here takes
            | inr busy ↦ elim (cases_Bool c.zero) [ inl zero ↦ busy_law other here busy zero | inr long ↦ waits_law other here busy long ]
          ]
        ]
      ]

-- A message that passes is left with its receiver.
pub delivers_law : (c : SendCall) (serial : ℕ) (m : Memory) (own : StateWord) → IsSoundMemory m → IsCaller m c.caller own → IsSendCall c → same_id c.to c.caller ≡ false → is_present_in (m.word c.to.number) c.to ≡ true → takes_from (shows (m.word c.to.number).state) c.caller c.zero ≡ true → Delivers c (send_kind serial) (begun m (send_of c own))
delivers_law c serial m own good call parts other here takes =
    let ne = apart_numbers m c.caller c.to (caller_present m c.caller own call) (sym (present_same m c.to) ∙ here) (same_turned c.caller c.to ∙ other) in
    let alive = not-true (is_dead (shows (m.word c.to.number).state)) (and_parts _ _ (sym (present_same m c.to) ∙ here)).1 in
    let w = on_with (m.word c.to.number) (state.Run (result4.Delivered c.caller)) in
    let is = upd_same (upd m.word c.caller.number (on_with own (state_after c.manner c.to))) c.to.number w in
    let mail = upd_same m.mail c.to.number c.message in
    elim (cases_Bool (m.word c.to.number).on) [
      | inl was ↦ let g = runs_passed_on c serial m own good call other ne (rw (here, takes) refl) (rw (here, takes) refl) parts alive was in
          record { steps = g.steps; final = _; runs = g.runs; able = g.able; went = refl; mail = mail; word = ap (λ (x : StateWord). x.state) is; on = ap (λ (x : StateWord). x.on) is }
      | inr was ↦ let g = runs_passed_off c serial m own good call other ne (rw (here, takes) refl) (rw (here, takes) refl) parts alive was in
          record { steps = g.steps; final = _; runs = g.runs; able = g.able; went = refl; mail = mail; word = ap (λ (x : StateWord). x.state) is; on = ap (λ (x : StateWord). x.on) is }
    ]
