-- The runs of a receive.
use Rattle.std.proofs.Common.{◌≡◌, ℕ, Bool, true, false, List, [], ◌∷◌, refl, sym, ap, ◌∙◌, subst, Option, Some, None}
use Rattle.std.proofs.lemmas.Bool.{eq-eqb, or_parts}
use Rattle.std.specs.Option.{IfSome}
use Rattle.k_ids.specs.declared.threads.ThreadId.{ThreadId}
use Rattle.k_ids.specs.declared.calls.Act.{Act}
use Rattle.k_ids.specs.declared.calls.Act.TheVariants as act
use Rattle.k_ids.specs.declared.calls.Outcome.{Outcome}
use Rattle.k_ids.specs.declared.calls.Phase.TheVariants as phase
use Rattle.k_ids.specs.declared.calls.Outcome.TheVariants as outcome
use Rattle.k_ids.specs.declared.calls.Reply.TheVariants as reply
use Rattle.k_ids.specs.declared.histories.Entry.{Entry}
use Rattle.k_ids.specs.declared.state_word.Result4.TheVariants as result4
use Rattle.k_ids.specs.declared.state_word.State.{State}
use Rattle.k_ids.specs.declared.state_word.State.TheVariants as state
use Rattle.k_ids.specs.declared.state_word.StateWord.{StateWord}
use Rattle.k_ids.specs.LockWords.{lock_bits}
use Rattle.k_ids.specs.StateWords.{IsStateWord, IsPartner, state_bits, state_word_of, partner_of, is_live}
use Rattle.k_ids.proofs.StateSpelled.{state-read, state-whole}
use Rattle.k_senders.specs.declared.entries.SenderEntry.{SenderEntry}
use Rattle.k_senders.specs.Entries.{number_of}
use Rattle.k_locks.specs.declared.goods.Goods.TheVariants as goods
use Rattle.k_locks.specs.declared.locks.Lock.TheVariants as lock
use Rattle.k_locks.specs.declared.locks.WordName.TheVariants as word
use Rattle.k_locks.specs.declared.steps.Step.TheVariants as step
use Rattle.k_locks.specs.declared.steps.Answer.TheVariants as answer
use Rattle.k_locks.specs.declared.steps.Told.TheVariants as told_by
use Rattle.k_locks.specs.declared.steps.Went.{Went}
use Rattle.k_locks.specs.declared.steps.Went.TheVariants as went
use Rattle.k_locks.specs.Shown.{shows, is_present_in}
use Rattle.k_ipc.specs.declared.receive.ReceiveCall.{ReceiveCall}
use Rattle.k_ipc.specs.declared.receive.ReceiveSection.{ReceiveSection}
use Rattle.k_ipc.specs.declared.receive.ReceiveOutside.TheVariants.{Ended}
use Rattle.k_ipc.specs.declared.receive.ReceiveLocked.TheVariants.{LoadOwn, LoadSender, FreeSender, AcquireReady, CommitWait, LoadPartner, CommitGone, Release}
use Rattle.k_ipc.specs.declared.receive.ReceiveRelease.TheVariants as release
use Rattle.k_ipc.specs.declared.receive.ReceivePushing.TheVariants.{LoadFreed, PushFreed}
use Rattle.k_ipc.specs.declared.receive.ReceiveLocation.{ReceiveLocation}
use Rattle.k_ipc.specs.declared.receive.ReceiveLocation.TheVariants as location
use Rattle.k_ipc.specs.Candidates.{first_admitted}
use Rattle.k_ipc.specs.ReceiveTable.{receive_of, point_by, after_free, stays_out, still_waits, after_wait, is_pushed}
use Rattle.k_senders.specs.Entries.{sender_of, message_of}
use Rattle.k_ipc.specs.Words.{freed, in_state}
use Rattle.k_model.specs.State.{is_present}
use Rattle.k_model.specs.State.{is_dead as is_dead_status}
use Rattle.k_model.specs.Step.{is_own}
use Rattle.k_model.proofs.Maps.{upd_same, upd_cases}
use Rattle.k_shown.specs.Memory.{Memory, table, with_word, with_queue}
use Rattle.k_shown.specs.Sound.{IsCaller, IsSoundMemory, IsSoundWords}
use Rattle.k_alone.specs.Alone.{Run, begun, entry_at}
use Rattle.k_alone.specs.ReceiveAlone.{receive_kind}
use Rattle.k_shown.proofs.Kept.{off_nowhere, pushed}
use Rattle.k_alone.proofs.Receives.{taking, taken_word, without_entry, receiving, words_taken}
use Rattle.k_shown.proofs.States.{on_word}
use Rattle.k_shown.specs.Words.{on_with}
use Rattle.k_alone.proofs.Runs.{Goes, arrived, can, load, on, one, spelled, won, writes}
use Rattle.k_alone.proofs.SendRuns.{read_word, caller_read, caller_there, put_back_same}
use Rattle.k_shown.proofs.Alike.{dead_same}
use Rattle.k_shown.proofs.Statuses.{same_self}

abbrev pub sec : ReceiveCall → StateWord → ReceiveLocation → ℕ → ReceiveSection
sec c own l d = record { call = c; own = own; location = l; done = d }

abbrev pub receive_at : Memory → ReceiveSection → List Entry → Went → Run ReceiveSection
receive_at m s es w = record { memory = m; section = s; entries = es; went = w }

-- the entry of the caller's event
abbrev pub entry_by : ℕ → ReceiveCall → Act → Outcome → Entry
entry_by serial c a o = entry_at (λ n. serial) (point_by c a o)

pub freed_is : (me : ThreadId) (w : StateWord) (j : Bool) → w.state ≡ state.Sending me j → freed me w ≡ taken_word j me w
freed_is me w true st = rw st refl
freed_is me w false st = rw st refl

module _ (c : ReceiveCall) (serial : ℕ) (m : Memory) (own : StateWord) (good : IsSoundMemory m) (call : IsCaller m c.caller own) where
  pub runs_own : is_own c.from c.caller ≡ true → c.picks ≡ false → Goes (receive_kind serial) (begun m (receive_of c own)) (receive_at m (sec c own (location.Outside (Ended (went.Ends reply.Own))) 1) (entry_by serial c (act.Call (phase.Receive c.from c.zero)) outcome.Own ∷ []) (went.Ends reply.Own))
  runs_own same picks =
      let t = receive_kind serial in
      let r0 = begun m (receive_of c own) in
      let r1 = receive_at m (sec c own (location.Outside (Ended (went.Ends reply.Own))) 1) (entry_by serial c (act.Call (phase.Receive c.from c.zero)) outcome.Own ∷ []) (went.Ends reply.Own) in
      on t r0 r1 r1 (rw same (record { ask = (refl, tt); tell = (refl, spelled m good c.caller.number) })) (load t r0 c.caller.number (rw same refl) (good.words.words c.caller.number) ∙ rw (same, caller_read m c.caller own good call, picks) refl) (arrived t r1)

  -- nobody waits, and neither does the caller
  pub runs_nobody : is_own c.from c.caller ≡ false → c.picks ≡ false → first_admitted c.from (m.queue c.caller.number).entries ≡ None → c.zero ≡ true → Goes (receive_kind serial) (begun m (receive_of c own)) (receive_at m (sec c own (location.Outside (Ended (went.Ends reply.Nobody))) 3) (entry_by serial c (act.Call (phase.Receive c.from c.zero)) outcome.Nobody ∷ []) (went.Ends reply.Nobody))
  unfolding lock_bits
  runs_nobody other picks none zero =
      let t = receive_kind serial in
      let q = m.queue c.caller.number in
      let e = entry_by serial c (act.Call (phase.Receive c.from c.zero)) outcome.Nobody in
      let r0 = begun m (receive_of c own) in
      let r1 = receive_at m (sec c own (location.Locked LoadOwn q) 1) [] went.On in
      let r2 = receive_at m (sec c own (location.Locked (Release release.Nobody) q) 2) (e ∷ []) went.On in
      let r3 = receive_at m (sec c own (location.Outside (Ended (went.Ends reply.Nobody))) 3) (e ∷ []) (went.Ends reply.Nobody) in
      on t r0 r1 r3 (rw other (record { ask = (refl, tt); tell = (refl, tt) })) (rw (other, picks) refl)
      (on t r1 r2 r3 (record { ask = (refl, tt); tell = (refl, spelled m good c.caller.number) }) (load t r1 c.caller.number refl (good.words.words c.caller.number) ∙ rw (caller_read m c.caller own good call, none, zero, picks) refl)
      (on t r2 r3 r3 (record { ask = (refl, tt); tell = (refl, tt) }) (one t r2 (step.Release (lock.Thread c.caller.number) (goods.Senders q)) (answer.Told told_by.Released) m r3.section None (e ∷ []) (went.Ends reply.Nobody) refl refl (put_back_same m c.caller.number) refl refl refl refl) (arrived t r3)))

  -- the caller's word while it waits
  wait_is : in_state (state.Receiving c.from) own ≡ on_with own (state.Receiving c.from)
  wait_is = λ d. record own { on = call.on d; state = state.Receiving c.from }

  caller_lives : is_dead_status (shows (m.word c.caller.number).state) ≡ false
  caller_lives = sym (dead_same (m.word c.caller.number).state) ∙ caller_there m c.caller own call

  pub wait_sound : (s : State) → is_live s ≡ true → IfSome (partner_of s) IsPartner → IsStateWord (on_with own s)
  wait_sound s l p = subst (λ (w : StateWord). IsStateWord (on_with w s)) call.word (on_word (m.word c.caller.number) s (good.words.words c.caller.number) caller_lives l p)

  -- the caller begins to wait
  to_wait : (final : Run ReceiveSection) → is_own c.from c.caller ≡ false → c.picks ≡ false → first_admitted c.from (m.queue c.caller.number).entries ≡ None → c.zero ≡ false → IfSome c.from IsPartner → Goes (receive_kind serial) (receive_at (receiving m c.caller own c.from) (sec c (in_state (state.Receiving c.from) own) (location.Locked (after_wait c.from) (m.queue c.caller.number)) 3) (entry_by serial c (act.Call (phase.Receive c.from c.zero)) outcome.Waits ∷ []) went.On) final → Goes (receive_kind serial) (begun m (receive_of c own)) final
  unfolding lock_bits
  to_wait final other picks none long partner rest =
      let t = receive_kind serial in
      let q = m.queue c.caller.number in
      let me = c.caller.number in
      let e = entry_by serial c (act.Call (phase.Receive c.from c.zero)) outcome.Waits in
      let v = in_state (state.Receiving c.from) own in
      let m1 = receiving m c.caller own c.from in
      let sound : IsStateWord v = subst IsStateWord (sym wait_is) (wait_sound (state.Receiving c.from) refl partner) in
      let r0 = begun m (receive_of c own) in
      let r1 = receive_at m (sec c own (location.Locked LoadOwn q) 1) [] went.On in
      let r2 = receive_at m (sec c own (location.Locked CommitWait q) 2) [] went.On in
      let r3 = receive_at m1 (sec c v (location.Locked (after_wait c.from) q) 3) (e ∷ []) went.On in
      on t r0 r1 final (rw other (record { ask = (refl, tt); tell = (refl, tt) })) (rw (other, picks) refl)
      (on t r1 r2 final (record { ask = (refl, tt); tell = (refl, spelled m good c.caller.number) }) (load t r1 c.caller.number refl (good.words.words c.caller.number) ∙ rw (caller_read m c.caller own good call, none, long) refl)
      (on t r2 r3 final (can t r2 (answer.Told told_by.Won) (refl, tt) (won m me own v call.word) (refl, tt)) (one t r2 (step.Exchange (word.State me) (state_bits own) (state_bits v)) (answer.Told told_by.Won) m1 r3.section (Some e) (e ∷ []) went.On refl (won m me own v call.word) (writes m me own v call.word sound ∙ ap (with_word m me) wait_is) refl (rw picks refl) refl refl)
      rest))

  -- it waits for any
  pub runs_open : c.from ≡ None → c.picks ≡ false → first_admitted c.from (m.queue c.caller.number).entries ≡ None → c.zero ≡ false → Goes (receive_kind serial) (begun m (receive_of c own)) (receive_at (receiving m c.caller own c.from) (sec c (in_state (state.Receiving c.from) own) (location.Outside (Ended went.Waits)) 4) (entry_by serial c (act.Call (phase.Receive c.from c.zero)) outcome.Waits ∷ []) went.Waits)
  runs_open any picks none long =
      let t = receive_kind serial in
      let q = m.queue c.caller.number in
      let e = entry_by serial c (act.Call (phase.Receive c.from c.zero)) outcome.Waits in
      let v = in_state (state.Receiving c.from) own in
      let m1 = receiving m c.caller own c.from in
      let r3 = receive_at m1 (sec c v (location.Locked (Release release.Waits) q) 3) (e ∷ []) went.On in
      let r4 = receive_at m1 (sec c v (location.Outside (Ended went.Waits)) 4) (e ∷ []) went.Waits in
      to_wait r4 (ap (λ (f : Option ThreadId). is_own f c.caller) any) picks none long (subst (λ (f : Option ThreadId). IfSome f IsPartner) (sym any) tt)
      (subst (λ (f : Option ThreadId). Goes t (receive_at m1 (sec c v (location.Locked (after_wait f) q) 3) (e ∷ []) went.On) r4) (sym any)
      (on t r3 r4 r4 (record { ask = (refl, tt); tell = (refl, tt) }) (one t r3 (step.Release (lock.Thread c.caller.number) (goods.Senders q)) (answer.Told told_by.Released) m1 r4.section None (e ∷ []) went.Waits refl refl (put_back_same m1 c.caller.number) refl refl refl refl) (arrived t r4)))

  module _ (from : ThreadId) (closed : c.from ≡ Some from) (other : is_own c.from c.caller ≡ false) (picks : c.picks ≡ false) (none : first_admitted c.from (m.queue c.caller.number).entries ≡ None) (long : c.zero ≡ false) (partner : IfSome c.from IsPartner) where
    -- each word is a spelling while the caller waits
    waits_words : (t : ℕ) → IsStateWord ((receiving m c.caller own c.from).word t)
    waits_words t = upd_cases IsStateWord m.word c.caller.number (on_with own (state.Receiving c.from)) t (λ _. wait_sound (state.Receiving c.from) refl partner) (λ _. good.words.words t)

    -- its partner is there
    pub runs_closed : is_present_in ((receiving m c.caller own c.from).word from.number) from ≡ true → Goes (receive_kind serial) (begun m (receive_of c own)) (receive_at (receiving m c.caller own c.from) (sec c (in_state (state.Receiving c.from) own) (location.Outside (Ended went.Waits)) 5) (entry_by serial c (act.Call (phase.Receive c.from c.zero)) outcome.Waits ∷ []) went.Waits)
    runs_closed here =
        let t = receive_kind serial in
        let q = m.queue c.caller.number in
        let e = entry_by serial c (act.Call (phase.Receive c.from c.zero)) outcome.Waits in
        let v = in_state (state.Receiving c.from) own in
        let m1 = receiving m c.caller own c.from in
        let r3 = receive_at m1 (sec c v (location.Locked (LoadPartner from) q) 3) (e ∷ []) went.On in
        let r4 = receive_at m1 (sec c v (location.Locked (Release release.Waits) q) 4) (e ∷ []) went.On in
        let r5 = receive_at m1 (sec c v (location.Outside (Ended went.Waits)) 5) (e ∷ []) went.Waits in
        to_wait r5 other picks none long partner
        (subst (λ (f : Option ThreadId). Goes t (receive_at m1 (sec c v (location.Locked (after_wait f) q) 3) (e ∷ []) went.On) r5) (sym closed)
        (on t r3 r4 r5 (record { ask = (refl, tt); tell = (refl, state-whole (m1.word from.number) (waits_words from.number)) }) (load t r3 from.number refl (waits_words from.number) ∙ rw (state-read (m1.word from.number) (waits_words from.number), here) refl)
        (on t r4 r5 r5 (record { ask = (refl, tt); tell = (refl, tt) }) (one t r4 (step.Release (lock.Thread c.caller.number) (goods.Senders q)) (answer.Told told_by.Released) m1 r5.section None (e ∷ []) went.Waits refl refl (put_back_same m1 c.caller.number) refl refl refl refl) (arrived t r5))))

    -- its partner isn't there, and the caller runs again
    pub runs_gone : is_present_in ((receiving m c.caller own c.from).word from.number) from ≡ false → Goes (receive_kind serial) (begun m (receive_of c own)) (receive_at (with_word (receiving m c.caller own c.from) c.caller.number (on_with own (state.Run result4.Gone))) (sec c (in_state (state.Run result4.Gone) (in_state (state.Receiving c.from) own)) (location.Outside (Ended (went.Ends reply.Gone))) 6) (entry_by serial c (act.Call (phase.Receive c.from c.zero)) outcome.Waits ∷ entry_by serial c act.Gone outcome.Freed ∷ []) (went.Ends reply.Gone))
    runs_gone gone =
        let t = receive_kind serial in
        let q = m.queue c.caller.number in
        let me = c.caller.number in
        let e = entry_by serial c (act.Call (phase.Receive c.from c.zero)) outcome.Waits in
        let g = entry_by serial c act.Gone outcome.Freed in
        let v = in_state (state.Receiving c.from) own in
        let u = in_state (state.Run result4.Gone) v in
        let w = on_with own (state.Run result4.Gone) in
        let same : u ≡ w = λ d. record own { on = call.on d; state = state.Run result4.Gone } in
        let m1 = receiving m c.caller own c.from in
        let m2 = with_word m1 me w in
        let there : m1.word me ≡ v = upd_same m.word me (on_with own (state.Receiving c.from)) ∙ sym wait_is in
        let sound : IsStateWord u = subst IsStateWord (sym same) (wait_sound (state.Run result4.Gone) refl tt) in
        let r3 = receive_at m1 (sec c v (location.Locked (LoadPartner from) q) 3) (e ∷ []) went.On in
        let r4 = receive_at m1 (sec c v (location.Locked (CommitGone from) q) 4) (e ∷ g ∷ []) went.On in
        let r5 = receive_at m2 (sec c u (location.Locked (Release release.Gone) q) 5) (e ∷ g ∷ []) went.On in
        let r6 = receive_at m2 (sec c u (location.Outside (Ended (went.Ends reply.Gone))) 6) (e ∷ g ∷ []) (went.Ends reply.Gone) in
        to_wait r6 other picks none long partner
        (subst (λ (f : Option ThreadId). Goes t (receive_at m1 (sec c v (location.Locked (after_wait f) q) 3) (e ∷ []) went.On) r6) (sym closed)
        (on t r3 r4 r6 (record { ask = (refl, tt); tell = (refl, state-whole (m1.word from.number) (waits_words from.number)) }) (load t r3 from.number refl (waits_words from.number) ∙ rw (state-read (m1.word from.number) (waits_words from.number), gone) refl)
        (on t r4 r5 r6 (can t r4 (answer.Told told_by.Won) (refl, tt) (won m1 me v u there) (refl, tt)) (one t r4 (step.Exchange (word.State me) (state_bits v) (state_bits u)) (answer.Told told_by.Won) m2 r5.section None (e ∷ g ∷ []) went.On refl (won m1 me v u there) (writes m1 me v u there sound ∙ ap (with_word m1 me) same) refl refl refl refl)
        (on t r5 r6 r6 (record { ask = (refl, tt); tell = (refl, tt) }) (one t r5 (step.Release (lock.Thread me) (goods.Senders q)) (answer.Told told_by.Released) m2 r6.section None (e ∷ g ∷ []) (went.Ends reply.Gone) refl refl (put_back_same m2 me) refl refl refl refl) (arrived t r6)))))

  -- A message is taken. `m1` is the memory once the sender's word says so.
  module _ (e : SenderEntry) (j : Bool) (st : (m.word (number_of e)).state ≡ state.Sending c.caller j) (ver : (m.word (number_of e)).version ≡ (sender_of e).version) (mine : IsPartner c.caller) (present : is_present (table m) c.caller ≡ true) where
    abbrev freed_memory : Memory
    freed_memory = with_word m (number_of e) (taken_word j c.caller (m.word (number_of e)))

    pub freed_words : IsSoundWords (with_word m (number_of e) (taken_word j c.caller (m.word (number_of e))))
    freed_words = words_taken m c.caller e j st good.words mine present

    freed_sound : IsStateWord (freed c.caller (m.word (number_of e)))
    freed_sound = subst IsStateWord (upd_same m.word (number_of e) (taken_word j c.caller (m.word (number_of e))) ∙ sym (freed_is c.caller (m.word (number_of e)) j st)) (freed_words.words (number_of e))

    pub waits_still : still_waits c e (m.word (number_of e)) ≡ true
    waits_still = rw (st, ver, eq-eqb (sender_of e).version (sender_of e).version refl, same_self c.caller) refl

    to_taken : (final : Run ReceiveSection) → is_own c.from c.caller ≡ false → c.picks ≡ false → first_admitted c.from (m.queue c.caller.number).entries ≡ Some e → Goes (receive_kind serial) (receive_at freed_memory (sec c own (location.Locked (after_free e (m.word (number_of e))) (m.queue c.caller.number)) 4) (entry_by serial c (act.Call (phase.Receive c.from c.zero)) (outcome.Took (sender_of e) (message_of e)) ∷ []) went.On) final → Goes (receive_kind serial) (begun m (receive_of c own)) final
    unfolding lock_bits
    to_taken final other picks some rest =
        let t = receive_kind serial in
        let q = m.queue c.caller.number in
        let n = number_of e in
        let w = m.word n in
        let o = entry_by serial c (act.Call (phase.Receive c.from c.zero)) (outcome.Took (sender_of e) (message_of e)) in
        let r0 = begun m (receive_of c own) in
        let r1 = receive_at m (sec c own (location.Locked LoadOwn q) 1) [] went.On in
        let r2 = receive_at m (sec c own (location.Locked (LoadSender e) q) 2) [] went.On in
        let r3 = receive_at m (sec c own (location.Locked (FreeSender e w) q) 3) [] went.On in
        let r4 = receive_at freed_memory (sec c own (location.Locked (after_free e w) q) 4) (o ∷ []) went.On in
        on t r0 r1 final (rw other (record { ask = (refl, tt); tell = (refl, tt) })) (rw (other, picks) refl)
        (on t r1 r2 final (record { ask = (refl, tt); tell = (refl, spelled m good c.caller.number) }) (load t r1 c.caller.number refl (good.words.words c.caller.number) ∙ rw (caller_read m c.caller own good call, some) refl)
        (on t r2 r3 final (record { ask = (refl, tt); tell = (refl, spelled m good n) }) (load t r2 n refl (good.words.words n) ∙ rw (read_word m n good, waits_still) refl)
        (on t r3 r4 final (can t r3 (answer.Told told_by.Won) (refl, tt) (won m n w (freed c.caller w) refl) (refl, tt)) (one t r3 (step.Exchange (word.State n) (state_bits w) (state_bits (freed c.caller w))) (answer.Told told_by.Won) freed_memory r4.section (Some o) (o ∷ []) went.On refl (won m n w (freed c.caller w) refl) (writes m n w (freed c.caller w) refl freed_sound ∙ ap (with_word m n) (freed_is c.caller w j st)) refl (rw picks refl) refl refl)
        rest)))

    pub runs_taken : is_own c.from c.caller ≡ false → c.picks ≡ false → first_admitted c.from (m.queue c.caller.number).entries ≡ Some e → stays_out (m.word (number_of e)) ≡ true → Goes (receive_kind serial) (begun m (receive_of c own)) (receive_at (taking m c.caller e j) (sec c own (location.Outside (Ended (went.Ends (reply.Got (sender_of e) (message_of e))))) 5) (entry_by serial c (act.Call (phase.Receive c.from c.zero)) (outcome.Took (sender_of e) (message_of e)) ∷ []) (went.Ends (reply.Got (sender_of e) (message_of e))))
    runs_taken other picks some stays =
        let t = receive_kind serial in
        let q = m.queue c.caller.number in
        let o = entry_by serial c (act.Call (phase.Receive c.from c.zero)) (outcome.Took (sender_of e) (message_of e)) in
        let w = went.Ends (reply.Got (sender_of e) (message_of e)) in
        let r4 = receive_at freed_memory (sec c own (location.Locked (Release (release.Taken e)) q) 4) (o ∷ []) went.On in
        let r5 = receive_at (taking m c.caller e j) (sec c own (location.Outside (Ended w)) 5) (o ∷ []) w in
        to_taken r5 other picks some (rw stays (on t r4 r5 r5 (record { ask = (refl, tt); tell = (refl, tt) }) refl (arrived t r5)))

  -- .. of a sender that was off, and is pushed
  module _ (e : SenderEntry) (st : (m.word (number_of e)).state ≡ state.Sending c.caller false) (ver : (m.word (number_of e)).version ≡ (sender_of e).version) (mine : IsPartner c.caller) (present : is_present (table m) c.caller ≡ true) where
    abbrev pub pushed_memory : Memory
    pushed_memory = pushed (with_word m (number_of e) (taken_word false c.caller (m.word (number_of e)))) (sender_of e) (m.word (number_of e)).priority

    pub runs_pushed : is_own c.from c.caller ≡ false → c.picks ≡ false → first_admitted c.from (m.queue c.caller.number).entries ≡ Some e → stays_out (m.word (number_of e)) ≡ false → Goes (receive_kind serial) (begun m (receive_of c own)) (receive_at (with_queue pushed_memory c.caller.number (without_entry (m.queue c.caller.number) e)) (sec c own (location.Outside (Ended (went.Ends (reply.Got (sender_of e) (message_of e))))) 8) (entry_by serial c (act.Call (phase.Receive c.from c.zero)) (outcome.Took (sender_of e) (message_of e)) ∷ []) (went.Ends (reply.Got (sender_of e) (message_of e))))
    unfolding lock_bits
    runs_pushed other picks some off =
        let t = receive_kind serial in
        let q = m.queue c.caller.number in
        let n = number_of e in
        let w = m.word n in
        let w1 = taken_word false c.caller w in
        let m1 = with_word m n w1 in
        let is : m1.word n ≡ w1 = upd_same m.word n w1 in
        let read : state_word_of (state_bits (m1.word n)) ≡ w1 = state-read (m1.word n) ((freed_words e false st ver mine present).words n) ∙ is in
        let runs : is_pushed e w1 ≡ true = rw (ver, eq-eqb (sender_of e).version (sender_of e).version refl) refl in
        let o = entry_by serial c (act.Call (phase.Receive c.from c.zero)) (outcome.Took (sender_of e) (message_of e)) in
        let g = went.Ends (reply.Got (sender_of e) (message_of e)) in
        let m2 = pushed_memory in
        let r4 = receive_at m1 (sec c own (location.Locked (AcquireReady e) q) 4) (o ∷ []) went.On in
        let r5 = receive_at m1 (sec c own (location.Pushing (LoadFreed e) q m.ready) 5) (o ∷ []) went.On in
        let r6 = receive_at m1 (sec c own (location.Pushing (PushFreed e w1) q m.ready) 6) (o ∷ []) went.On in
        let r7 = receive_at m2 (sec c own (location.Locked (Release (release.Taken e)) q) 7) (o ∷ []) (went.Pushed w.priority) in
        let r8 = receive_at (with_queue m2 c.caller.number (without_entry q e)) (sec c own (location.Outside (Ended g)) 8) (o ∷ []) g in
        to_taken e false st ver mine present r8 other picks some
        (rw off
        (on t r4 r5 r8 (record { ask = (refl, tt); tell = (refl, tt) }) refl
        (on t r5 r6 r8 (record { ask = (refl, tt); tell = (refl, state-whole (m1.word n) ((freed_words e false st ver mine present).words n)) }) (load t r5 n refl ((freed_words e false st ver mine present).words n) ∙ rw read refl)
        (on t r6 r7 r8 (record { ask = (refl, (λ _. off_nowhere m n good.words.ready (or_parts _ _ off).1)); tell = (refl, tt) }) (rw runs refl)
        (on t r7 r8 r8 (record { ask = (refl, tt); tell = (refl, tt) }) refl (arrived t r8))))))
