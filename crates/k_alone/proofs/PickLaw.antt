-- A pick alone makes the specification's event.
use Rattle.std.proofs.Common.{◌≡◌, ◌≢◌, ℕ, Bool, true, false, List, [], ◌∷◌, ◌++◌, map, refl, sym, ap, ◌∙◌, subst, Option, Some, None, inl, inr}
use Rattle.std.proofs.lemmas.Bool.{eq-eqb, false≢true, cases_Bool, or_parts}
use Rattle.k_ids.specs.declared.threads.ThreadId.{ThreadId}
use Rattle.k_ids.specs.declared.threads.Status.TheVariants as status
use Rattle.k_ids.specs.declared.calls.Act.TheVariants as act
use Rattle.k_ids.specs.declared.calls.Outcome.TheVariants as outcome
use Rattle.k_ids.specs.declared.calls.Reply.TheVariants as reply
use Rattle.k_ids.specs.declared.histories.ReplyLine.{ReplyLine}
use Rattle.k_ids.specs.declared.state_word.Result4.TheVariants as result4
use Rattle.k_ids.specs.declared.state_word.State.{State}
use Rattle.k_ids.specs.declared.state_word.State.TheVariants as state
use Rattle.k_ids.specs.declared.state_word.StateWord.{StateWord}
use Rattle.k_ids.specs.StateWords.{IsPartner}
use Rattle.k_senders.specs.declared.entries.SenderEntry.{SenderEntry}
use Rattle.k_senders.specs.Entries.{number_of}
use Rattle.k_senders.specs.Queue.{Queue}
use Rattle.k_locks.specs.Shown.{shows}
use Rattle.k_ipc.specs.Candidates.{first_admitted}
use Rattle.k_ipc.specs.ReceiveTable.{receive_of, stays_out}
use Rattle.k_senders.specs.Entries.{sender_of, message_of}
use Rattle.k_ipc.specs.Words.{is_joined_to}
use Rattle.k_model.specs.State.{KernelState, Waiting, is_dead, is_present, with_status}
use Rattle.k_model.specs.Step.{taken, status_after}
use Rattle.k_model.specs.Maps.{upd}
use Rattle.k_model.proofs.Maps.{upd_cases, upd_same, upd_other}
use Rattle.k_shown.specs.Memory.{Memory, Shows, joined_of, table, waiting, waiting_of, with_word, with_queue}
use Rattle.k_senders.specs.Entries.{IsEntry}
use Rattle.k_shown.specs.Sound.{IsPicker, IsSoundMemory, IsSoundWords}
use Rattle.k_alone.specs.Alone.{Makes, begun}
use Rattle.k_shown.specs.Rows.{Gives, IsIn, IsUnwanted, pick_of, told, sent_line}
use Rattle.k_shown.proofs.Alike.{alike_from, picker_in}
use Rattle.k_shown.proofs.ReceiveRows.{pick_takes_row, pick_waits_row}
use Rattle.k_alone.specs.ReceiveAlone.{pick_call, receive_kind}
use Rattle.k_shown.proofs.Kept.{Renews, SameThreads, pushed, pushed_words, off_nowhere, queued_words, all_without, renewed_words, same_threads, then_threads}
use Rattle.k_shown.proofs.States.{renews, upd_swap}
use Rattle.k_shown.specs.Words.{on_with}
use Rattle.k_alone.proofs.Queues.{FoundAt, admits_some, rest_shown}
use Rattle.k_alone.proofs.Receives.{taking, taken_shows, taken_word, without_entry, taken_threads, words_taken}
use Rattle.k_shown.proofs.Left.{Turns, caller_turns}
use Rattle.k_alone.proofs.ReceiveLeft.{or_joined, pushed_left, taken_left, taken_turns, waits_left}
use Rattle.k_alone.proofs.Made.{makes_one, reply_first}
use Rattle.k_alone.proofs.ReceiveLaw.{IsSender, sender_found, present_stays}
use Rattle.k_alone.proofs.PickRuns.{runs_settled, runs_picked, runs_picked_off, picked}
use Rattle.k_shown.proofs.Statuses.{any_sends, any_waits, run_sends, run_waits}

-- who waits is wanted by one who receives from any
nobody_wants : (es : List SenderEntry) → first_admitted None es ≡ None → map waiting_of es ≡ []
nobody_wants [] none = refl
nobody_wants (e ∷ es) none = let no_entry : Some e ≡ None = none in absurd cc

none_before : (ws : List Waiting) → IsUnwanted None ws → ws ≡ []
none_before [] u = refl
none_before (w ∷ ws) u = absurd (false≢true (sym u.0))

module _ (me : ThreadId) (m : Memory) (k : KernelState) (own : StateWord) (h : Shows m k) (good : IsSoundMemory m) (call : IsPicker m me own) (mine : IsPartner me) where
  abbrev Law : Type 0
  Law = Makes (receive_kind (k.place me.number).serial) (begun m (receive_of (pick_call me) own)) k (pick_of k me)

  lives : is_dead (shows (m.word me.number).state) ≡ false
  lives = ap (λ (x : StateWord). is_dead (shows x.state)) call.word ∙ ap (λ (x : State). is_dead (shows x)) call.picks

  here : is_present (table m) me ≡ true
  here = rw (call.word, call.picks, call.version, eq-eqb me.version me.version refl) refl

  picks : IsIn m me status.Picking
  picks = picker_in m me own call

  -- the caller runs, while it looks at its list
  abbrev running : Memory
  running = with_word m me.number (on_with own (state.Run result4.Plain))

  version_is : (on_with own (state.Run result4.Plain)).version ≡ (m.word me.number).version
  version_is = sym (ap (λ (x : StateWord). x.version) call.word)

  running_renews : Renews m me.number (on_with own (state.Run result4.Plain))
  running_renews = subst (λ (x : StateWord). Renews m me.number (on_with x (state.Run result4.Plain))) call.word (renews m me.number (state.Run result4.Plain) (good.words.words me.number) lives refl tt (λ id q. absurd (run_sends id q)) (λ id q. absurd (run_waits id q)))

  running_words : IsSoundWords running
  running_words = renewed_words m me.number _ running_renews good.words

  running_threads : SameThreads m running
  running_threads = same_threads m me.number (on_with own (state.Run result4.Plain)) version_is (sym lives)

  settled_law : first_admitted None (m.queue me.number).entries ≡ None → Law
  settled_law none =
      let s = (k.place me.number).serial in
      let n = me.number in
      let k1 = with_status k n status.Run in
      let w = on_with own (state.Receiving None) in
      let r = subst (λ (x : StateWord). Renews m n (on_with x (state.Receiving None))) call.word (renews m n (state.Receiving None) (good.words.words n) lives refl tt (λ id q. absurd (any_sends id q)) (λ id q. absurd (any_waits id q))) in
      let row = pick_waits_row m (with_word m n w) k me h picks (nobody_wants (m.queue n).entries none) w (record { version = call.version; status = refl; joined = refl }) (alike_from _ (with_word m n w) refl (λ n. refl) (λ n. refl)) in
      let st : ((with_status k1 n (status.Receiving None)).place n).status ≡ status.Receiving None = ap (λ p. p.status) (upd_same k1.place n (record (k1.place n) { status = status.Receiving None; joined = false })) in
      makes_one (receive_kind s) (begun m (receive_of (pick_call me) own)) _ k (with_status k1 n (status.Receiving None)) (pick_of k me) outcome.Waits []
      h good row (runs_settled me s m own good call none) refl
      (same_threads m n w (sym (ap (λ (x : StateWord). x.version) call.word)) (sym lives)) (renewed_words m n w r good.words)
      (refl, rw st refl, rw st refl)
      (waits_left m me own s good call.word call.on act.Pick None (same_threads m n w (sym (ap (λ (x : StateWord). x.version) call.word)) (sym lives)))

  module _ (e : SenderEntry) (some : first_admitted None (m.queue me.number).entries ≡ Some e) where
    found_at : FoundAt None (m.queue me.number).entries e
    found_at = admits_some None (m.queue me.number).entries e (good.lists.apart me.number) some

    first : waiting (m.queue me.number) ≡ waiting_of e ∷ map waiting_of found_at.after
    first = found_at.first.list ∙ ap (λ (ws : List Waiting). ws ++ waiting_of e ∷ map waiting_of found_at.after) (none_before (map waiting_of found_at.before) found_at.first.unwanted)

    rest : waiting (without_entry (m.queue me.number) e) ≡ map waiting_of found_at.after
    rest = rest_shown None (m.queue me.number).entries e found_at ∙ ap (λ (ws : List Waiting). ws ++ map waiting_of found_at.after) (none_before (map waiting_of found_at.before) found_at.first.unwanted)

    sender : IsSender m me e
    sender = sender_found m me None e good (ap (λ (w : StateWord). w.version) call.word ∙ call.version) found_at

    not_me : me.number ≢ number_of e
    not_me q =
        let one : status.Picking ≡ status.Sending me = sym (ap (λ (w : StateWord). shows w.state) call.word ∙ ap shows call.picks) ∙ ap (λ (n : ℕ). shows (m.word n).state) q ∙ ap shows sender.sends.state in
        cc

    same_sender : running.word (number_of e) ≡ m.word (number_of e)
    same_sender = upd_other m.word me.number (on_with own (state.Run result4.Plain)) (number_of e) (λ q. not_me (sym q))

    state_is : (running.word (number_of e)).state ≡ state.Sending me sender.sends.joined
    state_is = ap (λ (x : StateWord). x.state) same_sender ∙ sender.sends.state

    sends : IsIn m (sender_of e) (status.Sending me)
    sends = record { version = sender.version; status = ap shows sender.sends.state }

    abbrev taken_state : KernelState
    taken_state = taken (with_status k me.number status.Run) me (k.place me.number).serial 0

    -- whether the sender's send was joined
    abbrev was_joined : Bool
    was_joined = joined_of (m.word (number_of e)).state

    joined_is : was_joined ≡ sender.sends.joined
    joined_is = ap joined_of sender.sends.state

    abbrev freed_line : List ReplyLine
    freed_line = sent_line (sender_of e) (k.place (number_of e)).serial (status_after was_joined me)

    abbrev lines_taken : List ReplyLine
    lines_taken = told me (k.place me.number).serial (reply.Got (sender_of e) (message_of e)) ∷ freed_line

    -- the words at the end
    abbrev picked_memory : Bool → Memory
    picked_memory j = picked me (k.place me.number).serial m own good call e j

    -- a memory with these words and queues shows the state
    row_taken : (m' : Memory) → m'.size ≡ m.size → m'.word ≡ (picked_memory sender.sends.joined).word → m'.queue ≡ (with_queue m me.number (without_entry (m.queue me.number) e)).queue → Gives k (pick_of k me) (outcome.Took (sender_of e) (message_of e)) taken_state lines_taken m'
    row_taken m' es ew eq =
        let u = on_with own (state.Run result4.Plain) in
        let v = taken_word sender.sends.joined me (m.word (number_of e)) in
        pick_takes_row m m' k me h picks u (record { version = call.version; status = refl; joined = refl }) (waiting_of e) (map waiting_of found_at.after) first sends v (without_entry (m.queue me.number) e)
        (taken_shows m me e sender.sends.joined sender.sends.state sender.version) rest
        (alike_from _ m' es (λ n. ap (λ (f : ℕ → StateWord). f n) (ew ∙ sym (upd_swap m.word me.number (number_of e) u v not_me))) (λ n. ap (λ (f : ℕ → Queue). f n) eq))

    -- first the sender's word and then the caller's, or the other way round
    turned : taking running me e sender.sends.joined ≡ with_queue (picked me (k.place me.number).serial m own good call e sender.sends.joined) me.number (without_entry (m.queue me.number) e)
    turned =
        ap (λ (x : StateWord). with_queue (with_word running (number_of e) (taken_word sender.sends.joined me x)) me.number (without_entry (m.queue me.number) e)) same_sender
        ∙ ap (λ (f : ℕ → StateWord). with_queue (record m { word = f }) me.number (without_entry (m.queue me.number) e)) (upd_swap m.word me.number (number_of e) (on_with own (state.Run result4.Plain)) (taken_word sender.sends.joined me (m.word (number_of e))) not_me)

    threads_taken : SameThreads m (with_queue (picked me (k.place me.number).serial m own good call e sender.sends.joined) me.number (without_entry (m.queue me.number) e))
    threads_taken = subst (SameThreads m) turned (then_threads m running _ running_threads (taken_threads running me e sender.sends.joined state_is))

    taken_runs : (taken_state.place me.number).status ≡ status.Run
    taken_runs = (row_taken (with_queue (picked_memory sender.sends.joined) me.number (without_entry (m.queue me.number) e)) refl refl refl).shows.status me.number ∙ ap (λ (w : StateWord). shows w.state) (upd_same _ me.number (on_with own (state.Run result4.Plain)))

    words_running : IsSoundWords (with_word running (number_of e) (taken_word sender.sends.joined me (running.word (number_of e))))
    words_running = words_taken running me e sender.sends.joined state_is running_words mine (present_stays m running running_threads me ∙ here)

    words_turned : with_word running (number_of e) (taken_word sender.sends.joined me (running.word (number_of e))) ≡ picked me (k.place me.number).serial m own good call e sender.sends.joined
    words_turned =
        ap (λ (x : StateWord). with_word running (number_of e) (taken_word sender.sends.joined me x)) same_sender
        ∙ ap (λ (f : ℕ → StateWord). record m { word = f }) (upd_swap m.word me.number (number_of e) (on_with own (state.Run result4.Plain)) (taken_word sender.sends.joined me (m.word (number_of e))) not_me)

    words_picked : IsSoundWords (picked me (k.place me.number).serial m own good call e sender.sends.joined)
    words_picked = subst IsSoundWords words_turned words_running

    -- the words at the end
    turns : (j : Bool) → (m.word (number_of e)).state ≡ state.Sending me j → (n : ℕ) → Turns m me n ((picked me (k.place me.number).serial m own good call e j).word n)
    turns j st n =
        let v = on_with own (state.Run result4.Plain) in
        upd_cases (Turns m me n) (upd m.word (number_of e) (taken_word j me (m.word (number_of e)))) me.number v n
        (λ x. caller_turns m me own (state.Run result4.Plain) n call.word call.on x)
        (λ _. upd_cases (Turns m me n) m.word (number_of e) (taken_word j me (m.word (number_of e))) n (λ x. taken_turns m me me (number_of e) j n st x) (λ _. inl refl))

    word_is : (j : Bool) → (picked me (k.place me.number).serial m own good call e j).word (number_of e) ≡ taken_word j me (m.word (number_of e))
    word_is j =
        let w = taken_word j me (m.word (number_of e)) in
        upd_other (upd m.word (number_of e) w) me.number (on_with own (state.Run result4.Plain)) (number_of e) (λ q. not_me (sym q)) ∙ upd_same m.word (number_of e) w

    stays_law : stays_out (m.word (number_of e)) ≡ true → Law
    stays_law stays =
        let s = (k.place me.number).serial in
        makes_one (receive_kind s) (begun m (receive_of (pick_call me) own)) _ k taken_state (pick_of k me) (outcome.Took (sender_of e) (message_of e)) lines_taken
        h good (row_taken (with_queue (picked_memory sender.sends.joined) me.number (without_entry (m.queue me.number) e)) refl refl refl)
        (runs_picked me s m own good call e sender.sends.joined sender.sends.state sender.version mine here not_me some stays) refl
        threads_taken (queued_words _ me.number (without_entry (m.queue me.number) e) (all_without IsEntry (number_of e) (m.queue me.number).entries (good.words.entries me.number)) words_picked)
        (reply_first me s (reply.Got (sender_of e) (message_of e)) freed_line, taken_runs)
        (taken_left m me s good e sender.sends.joined sender.sends.state not_me _ joined_is (k.place (number_of e)).serial act.Pick _ threads_taken
        (turns sender.sends.joined sender.sends.state)
        (word_is sender.sends.joined)
        (ap (λ (x : StateWord). x.state) (upd_same _ me.number (on_with own (state.Run result4.Plain))))
        refl refl (sym (or_joined (m.word (number_of e)).state me sender.sends.joined (m.word (number_of e)).on sender.sends.state) ∙ stays) refl)

    pushed_law : stays_out (m.word (number_of e)) ≡ false → Law
    pushed_law off =
        let n = number_of e in
        let s = (k.place me.number).serial in
        let both = or_parts _ _ off in
        let plain : sender.sends.joined ≡ false = sym (ap is_joined_to sender.sends.state) ∙ both.0 in
        let st : (m.word n).state ≡ state.Sending me false = sender.sends.state ∙ ap (state.Sending me) plain in
        let w = taken_word false me (m.word n) in
        let m2 = picked me s m own good call e false in
        let is : m2.word n ≡ w = upd_other _ me.number (on_with own (state.Run result4.Plain)) n (λ q. not_me (sym q)) ∙ upd_same m.word n w in
        let words1 : IsSoundWords m2 = subst (λ (b : Bool). IsSoundWords (picked me s m own good call e b)) plain words_picked in
        let words2 : IsSoundWords (pushed m2 (sender_of e) (m.word n).priority) =
        subst (λ (p : ℕ). IsSoundWords (pushed m2 (sender_of e) p)) (ap (λ (x : StateWord). x.priority) is)
        (pushed_words m2 (sender_of e) words1 (ap (λ (x : StateWord). x.version) is ∙ sender.version) (ap (λ (x : StateWord). is_dead (shows x.state)) is) (ap (λ (x : StateWord). x.on) is) (off_nowhere m n good.words.ready both.1)) in
        let t = subst (λ (b : Bool). SameThreads m (with_queue (picked me s m own good call e b) me.number (without_entry (m.queue me.number) e))) plain threads_taken in
        makes_one (receive_kind s) (begun m (receive_of (pick_call me) own)) _ k taken_state (pick_of k me) (outcome.Took (sender_of e) (message_of e)) lines_taken
        h good (row_taken (with_queue (pushed m2 (sender_of e) (m.word n).priority) me.number (without_entry (m.queue me.number) e)) refl (ap (λ (b : Bool). (picked_memory b).word) (sym plain)) refl)
        (runs_picked_off me s m own good call e st sender.version mine here not_me some off) refl
        (record { size = t.size; version = t.version; dead = t.dead; context = t.context; numbers = t.numbers; room = t.room })
        (queued_words _ me.number (without_entry (m.queue me.number) e) (all_without IsEntry (number_of e) (m.queue me.number).entries (good.words.entries me.number)) words2)
        (reply_first me s (reply.Got (sender_of e) (message_of e)) freed_line, taken_runs)
        (pushed_left m me s good e false st not_me _ (joined_is ∙ plain) (k.place n).serial act.Pick _
        (record { size = t.size; version = t.version; dead = t.dead; context = t.context; numbers = t.numbers; room = t.room })
        (turns false st)
        (word_is false)
        (ap (λ (x : StateWord). x.state) (upd_same _ me.number (on_with own (state.Run result4.Plain))))
        refl refl refl both.1 refl)

    took_law : Law
    took_law = elim (cases_Bool (stays_out (m.word (number_of e)))) [ inl y ↦ stays_law y | inr y ↦ pushed_law y ]

  pub pick_law : Makes (receive_kind (k.place me.number).serial) (begun m (receive_of (pick_call me) own)) k (pick_of k me)
  pick_law = by_entry (first_admitted None (m.queue me.number).entries) refl
    where
      by_entry : (o : Option SenderEntry) → first_admitted None (m.queue me.number).entries ≡ o → Law
      by_entry None e = settled_law e
      by_entry (Some x) e = took_law x e
