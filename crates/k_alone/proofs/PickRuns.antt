-- The runs of a pick.
use Rattle.std.proofs.Common.{◌≡◌, ◌≢◌, ℕ, Bool, true, false, [], ◌∷◌, refl, sym, ap, ◌∙◌, subst, Some, None}
use Rattle.std.proofs.lemmas.Bool.{eq-eqb, or_parts}
use Rattle.std.specs.Option.{IfSome}
use Rattle.k_ids.specs.declared.threads.ThreadId.{ThreadId}
use Rattle.k_ids.specs.declared.calls.Act.TheVariants as act
use Rattle.k_ids.specs.declared.calls.Outcome.TheVariants as outcome
use Rattle.k_ids.specs.declared.calls.Reply.TheVariants as reply
use Rattle.k_ids.specs.declared.state_word.Result4.TheVariants as result4
use Rattle.k_ids.specs.declared.state_word.State.{State}
use Rattle.k_ids.specs.declared.state_word.State.TheVariants as state
use Rattle.k_ids.specs.declared.state_word.StateWord.{StateWord}
use Rattle.k_ids.specs.LockWords.{lock_bits}
use Rattle.k_ids.specs.StateWords.{IsStateWord, IsPartner, state_bits, state_word_of, partner_of, is_live}
use Rattle.k_ids.proofs.StateSpelled.{state-read, state-whole}
use Rattle.k_senders.specs.declared.entries.SenderEntry.{SenderEntry}
use Rattle.k_senders.specs.Entries.{number_of}
use Rattle.k_locks.specs.declared.goods.Goods.TheVariants as goods
use Rattle.k_locks.specs.declared.locks.Lock.TheVariants as lock
use Rattle.k_locks.specs.declared.locks.WordName.TheVariants as word
use Rattle.k_locks.specs.declared.steps.Step.TheVariants as step
use Rattle.k_locks.specs.declared.steps.Answer.TheVariants as answer
use Rattle.k_locks.specs.declared.steps.Told.TheVariants as told_by
use Rattle.k_locks.specs.declared.steps.Went.TheVariants as went
use Rattle.k_locks.specs.Shown.{shows, is_dead, is_dead_state}
use Rattle.k_ipc.specs.declared.receive.ReceiveSection.{ReceiveSection}
use Rattle.k_ipc.specs.declared.receive.ReceiveOutside.TheVariants.{Ended}
use Rattle.k_ipc.specs.declared.receive.ReceiveLocked.TheVariants.{AcquireReady, LoadPicking, LoadNext, FreeNext, EndPick, SettlePick, Release}
use Rattle.k_ipc.specs.declared.receive.ReceiveRelease.TheVariants as release
use Rattle.k_ipc.specs.declared.receive.ReceivePushing.TheVariants.{LoadFreed, PushFreed}
use Rattle.k_ipc.specs.declared.receive.ReceiveLocation.TheVariants as location
use Rattle.k_ipc.specs.Candidates.{first_admitted}
use Rattle.k_ipc.specs.ReceiveTable.{receive_of, after_free, stays_out, still_waits, is_pushed}
use Rattle.k_senders.specs.Entries.{sender_of, message_of}
use Rattle.k_ipc.specs.Words.{freed, on_in}
use Rattle.k_model.specs.State.{is_present}
use Rattle.k_model.specs.State.{is_dead as is_dead_status}
use Rattle.k_model.proofs.Maps.{upd_same, upd_other}
use Rattle.k_shown.specs.Memory.{Memory, table, with_word, with_queue}
use Rattle.k_shown.specs.Sound.{IsPicker, IsDelivered, IsSoundMemory}
use Rattle.k_alone.specs.Alone.{Run, begun, MakesNothing}
use Rattle.k_alone.specs.ReceiveAlone.{receive_kind, pick_call}
use Rattle.k_shown.proofs.Kept.{off_nowhere, pushed}
use Rattle.k_alone.proofs.Receives.{taken_word, without_entry, words_taken}
use Rattle.k_shown.proofs.States.{on_word}
use Rattle.k_shown.specs.Words.{on_with}
use Rattle.k_alone.proofs.Runs.{Goes, arrived, can, load, on, one, spelled, won, writes}
use Rattle.k_alone.proofs.SendRuns.{read_word, put_back_same}
use Rattle.k_alone.proofs.ReceiveRuns.{entry_by, sec, receive_at, freed_is}
use Rattle.k_shown.proofs.Statuses.{same_self}

module _ (me : ThreadId) (serial : ℕ) (m : Memory) (own : StateWord) (good : IsSoundMemory m) where
  -- a message has come meanwhile
  pub runs_delivered : IsDelivered m me → MakesNothing (receive_kind serial) (begun m (receive_of (pick_call me) own))
  unfolding lock_bits
  runs_delivered d =
      let t = receive_kind serial in
      let c = pick_call me in
      let q = m.queue me.number in
      let r0 = begun m (receive_of c own) in
      let r1 = receive_at m (sec c own (location.Locked LoadPicking q) 1) [] went.On in
      let r2 = receive_at m (sec c own (location.Locked (Release release.Delivered) q) 2) [] went.On in
      let r3 = receive_at m (sec c own (location.Outside (Ended went.Waits)) 3) [] went.Waits in
      let g = on t r0 r1 r3 (record { ask = (refl, tt); tell = (refl, tt) }) refl
      (on t r1 r2 r3 (record { ask = (refl, tt); tell = (refl, spelled m good me.number) }) (load t r1 me.number refl (good.words.words me.number) ∙ rw (read_word m me.number good, d.runs) refl)
      (on t r2 r3 r3 (record { ask = (refl, tt); tell = (refl, tt) }) (one t r2 (step.Release (lock.Thread me.number) (goods.Senders q)) (answer.Told told_by.Released) m r3.section None [] went.Waits refl refl (put_back_same m me.number) refl refl refl refl) (arrived t r3))) in
      record { steps = g.steps; final = r3; runs = g.runs; able = g.able; entries = refl; memory = refl; waits = refl }

  module _ (call : IsPicker m me own) where
    pub own_sound : (s : State) → is_live s ≡ true → IfSome (partner_of s) IsPartner → IsStateWord (on_with own s)
    own_sound s l p = subst (λ (w : StateWord). IsStateWord (on_with w s)) call.word (on_word (m.word me.number) s (good.words.words me.number) (ap (λ (w : StateWord). is_dead_status (shows w.state)) call.word ∙ ap (λ (x : State). is_dead_status (shows x)) call.picks) l p)

    caller_there : is_dead (m.word me.number) ≡ false
    caller_there = ap (λ (w : StateWord). is_dead w) call.word ∙ ap (λ (x : State). is_dead_state x) call.picks

    -- nobody waits to send to it
    pub runs_settled : first_admitted None (m.queue me.number).entries ≡ None → Goes (receive_kind serial) (begun m (receive_of (pick_call me) own)) (receive_at (with_word m me.number (on_with own (state.Receiving None))) (sec (pick_call me) (on_in (state.Receiving None) own) (location.Outside (Ended went.Waits)) 4) (entry_by serial (pick_call me) act.Pick outcome.Waits ∷ []) went.Waits)
    unfolding lock_bits
    runs_settled none =
        let t = receive_kind serial in
        let c = pick_call me in
        let q = m.queue me.number in
        let v = on_in (state.Receiving None) own in
        let e = entry_by serial c act.Pick outcome.Waits in
        let m1 = with_word m me.number v in
        let r0 = begun m (receive_of c own) in
        let r1 = receive_at m (sec c own (location.Locked LoadPicking q) 1) [] went.On in
        let r2 = receive_at m (sec c own (location.Locked SettlePick q) 2) [] went.On in
        let r3 = receive_at m1 (sec c v (location.Locked (Release release.Waits) q) 3) (e ∷ []) went.On in
        let r4 = receive_at m1 (sec c v (location.Outside (Ended went.Waits)) 4) (e ∷ []) went.Waits in
        on t r0 r1 r4 (record { ask = (refl, tt); tell = (refl, tt) }) refl
        (on t r1 r2 r4 (record { ask = (refl, tt); tell = (refl, spelled m good me.number) }) (load t r1 me.number refl (good.words.words me.number) ∙ rw (read_word m me.number good, call.word, call.picks, none) refl)
        (on t r2 r3 r4 (can t r2 (answer.Told told_by.Won) (refl, tt) (won m me.number own v call.word) (refl, tt)) (one t r2 (step.Exchange (word.State me.number) (state_bits own) (state_bits v)) (answer.Told told_by.Won) m1 r3.section (Some e) (e ∷ []) went.On refl (won m me.number own v call.word) (writes m me.number own v call.word (own_sound (state.Receiving None) refl tt)) refl refl refl refl)
        (on t r3 r4 r4 (record { ask = (refl, tt); tell = (refl, tt) }) (one t r3 (step.Release (lock.Thread me.number) (goods.Senders q)) (answer.Told told_by.Released) m1 r4.section None (e ∷ []) went.Waits refl refl (put_back_same m1 me.number) refl refl refl refl) (arrived t r4))))

    -- The first message is taken: the sender's word, and then the caller's.
    abbrev pub picked : SenderEntry → Bool → Memory
    picked e j = with_word (with_word m (number_of e) (taken_word j me (m.word (number_of e)))) me.number (on_with own (state.Run result4.Plain))

    module _ (e : SenderEntry) (j : Bool) (st : (m.word (number_of e)).state ≡ state.Sending me j) (ver : (m.word (number_of e)).version ≡ (sender_of e).version) (mine : IsPartner me) (present : is_present (table m) me ≡ true) (ne : me.number ≢ number_of e) where
      freed_sound : IsStateWord (freed me (m.word (number_of e)))
      freed_sound = subst IsStateWord (upd_same m.word (number_of e) (taken_word j me (m.word (number_of e))) ∙ sym (freed_is me (m.word (number_of e)) j st)) ((words_taken m me e j st good.words mine present).words (number_of e))

      waits_still : still_waits (pick_call me) e (m.word (number_of e)) ≡ true
      waits_still = rw (st, ver, eq-eqb (sender_of e).version (sender_of e).version refl, same_self me) refl

      to_picked : (final : Run ReceiveSection) → first_admitted None (m.queue me.number).entries ≡ Some e → Goes (receive_kind serial) (receive_at (picked e j) (sec (pick_call me) (on_in (state.Run result4.Plain) own) (location.Locked (after_free e (m.word (number_of e))) (m.queue me.number)) 5) (entry_by serial (pick_call me) act.Pick (outcome.Took (sender_of e) (message_of e)) ∷ []) went.On) final → Goes (receive_kind serial) (begun m (receive_of (pick_call me) own)) final
      unfolding lock_bits
      to_picked final some rest =
          let t = receive_kind serial in
          let c = pick_call me in
          let q = m.queue me.number in
          let n = number_of e in
          let w = m.word n in
          let v = on_in (state.Run result4.Plain) own in
          let o = entry_by serial c act.Pick (outcome.Took (sender_of e) (message_of e)) in
          let m1 = with_word m n (taken_word j me w) in
          let there : m1.word me.number ≡ own = upd_other m.word n (taken_word j me w) me.number ne ∙ call.word in
          let r0 = begun m (receive_of c own) in
          let r1 = receive_at m (sec c own (location.Locked LoadPicking q) 1) [] went.On in
          let r2 = receive_at m (sec c own (location.Locked (LoadNext e) q) 2) [] went.On in
          let r3 = receive_at m (sec c own (location.Locked (FreeNext e w) q) 3) [] went.On in
          let r4 = receive_at m1 (sec c own (location.Locked (EndPick e w) q) 4) (o ∷ []) went.On in
          let r5 = receive_at (picked e j) (sec c v (location.Locked (after_free e w) q) 5) (o ∷ []) went.On in
          on t r0 r1 final (record { ask = (refl, tt); tell = (refl, tt) }) refl
          (on t r1 r2 final (record { ask = (refl, tt); tell = (refl, spelled m good me.number) }) (load t r1 me.number refl (good.words.words me.number) ∙ rw (read_word m me.number good, call.word, call.picks, some) refl)
          (on t r2 r3 final (record { ask = (refl, tt); tell = (refl, spelled m good n) }) (load t r2 n refl (good.words.words n) ∙ rw (read_word m n good, waits_still) refl)
          (on t r3 r4 final (can t r3 (answer.Told told_by.Won) (refl, tt) (won m n w (freed me w) refl) (refl, tt)) (one t r3 (step.Exchange (word.State n) (state_bits w) (state_bits (freed me w))) (answer.Told told_by.Won) m1 r4.section (Some o) (o ∷ []) went.On refl (won m n w (freed me w) refl) (writes m n w (freed me w) refl freed_sound ∙ ap (with_word m n) (freed_is me w j st)) refl refl refl refl)
          (on t r4 r5 final (can t r4 (answer.Told told_by.Won) (refl, tt) (won m1 me.number own v there) (refl, tt)) (one t r4 (step.Exchange (word.State me.number) (state_bits own) (state_bits v)) (answer.Told told_by.Won) (picked e j) r5.section None (o ∷ []) went.On refl (won m1 me.number own v there) (writes m1 me.number own v there (own_sound (state.Run result4.Plain) refl tt)) refl refl refl refl)
          rest))))

      pub runs_picked : first_admitted None (m.queue me.number).entries ≡ Some e → stays_out (m.word (number_of e)) ≡ true → Goes (receive_kind serial) (begun m (receive_of (pick_call me) own)) (receive_at (with_queue (picked e j) me.number (without_entry (m.queue me.number) e)) (sec (pick_call me) (on_in (state.Run result4.Plain) own) (location.Outside (Ended (went.Ends (reply.Got (sender_of e) (message_of e))))) 6) (entry_by serial (pick_call me) act.Pick (outcome.Took (sender_of e) (message_of e)) ∷ []) (went.Ends (reply.Got (sender_of e) (message_of e))))
      runs_picked some stays =
          let t = receive_kind serial in
          let c = pick_call me in
          let q = m.queue me.number in
          let v = on_in (state.Run result4.Plain) own in
          let o = entry_by serial c act.Pick (outcome.Took (sender_of e) (message_of e)) in
          let g = went.Ends (reply.Got (sender_of e) (message_of e)) in
          let r5 = receive_at (picked e j) (sec c v (location.Locked (Release (release.Taken e)) q) 5) (o ∷ []) went.On in
          let r6 = receive_at (with_queue (picked e j) me.number (without_entry q e)) (sec c v (location.Outside (Ended g)) 6) (o ∷ []) g in
          to_picked r6 some (rw stays (on t r5 r6 r6 (record { ask = (refl, tt); tell = (refl, tt) }) refl (arrived t r6)))

    -- .. of a sender that was off, and is pushed
    pub runs_picked_off : (e : SenderEntry) → (m.word (number_of e)).state ≡ state.Sending me false → (m.word (number_of e)).version ≡ (sender_of e).version → IsPartner me → is_present (table m) me ≡ true → me.number ≢ number_of e → first_admitted None (m.queue me.number).entries ≡ Some e → stays_out (m.word (number_of e)) ≡ false → Goes (receive_kind serial) (begun m (receive_of (pick_call me) own)) (receive_at (with_queue (pushed (picked e false) (sender_of e) (m.word (number_of e)).priority) me.number (without_entry (m.queue me.number) e)) (sec (pick_call me) (on_in (state.Run result4.Plain) own) (location.Outside (Ended (went.Ends (reply.Got (sender_of e) (message_of e))))) 9) (entry_by serial (pick_call me) act.Pick (outcome.Took (sender_of e) (message_of e)) ∷ []) (went.Ends (reply.Got (sender_of e) (message_of e))))
    unfolding lock_bits
    runs_picked_off e st ver mine present ne some off =
        let t = receive_kind serial in
        let c = pick_call me in
        let q = m.queue me.number in
        let n = number_of e in
        let w = m.word n in
        let w1 = taken_word false me w in
        let v = on_in (state.Run result4.Plain) own in
        let m1 = with_word m n w1 in
        let m2 = picked e false in
        let m3 = pushed m2 (sender_of e) w.priority in
        let is : m2.word n ≡ w1 = upd_other m1.word me.number v n (λ q. ne (sym q)) ∙ upd_same m.word n w1 in
        let sound : IsStateWord w1 = subst IsStateWord (upd_same m.word n w1) ((words_taken m me e false st good.words mine present).words n) in
        let there : IsStateWord (m2.word n) = subst IsStateWord (sym is) sound in
        let read : state_word_of (state_bits (m2.word n)) ≡ w1 = ap (λ (x : StateWord). state_word_of (state_bits x)) is ∙ state-read w1 sound in
        let runs : is_pushed e w1 ≡ true = rw (ver, eq-eqb (sender_of e).version (sender_of e).version refl) refl in
        let o = entry_by serial c act.Pick (outcome.Took (sender_of e) (message_of e)) in
        let g = went.Ends (reply.Got (sender_of e) (message_of e)) in
        let r5 = receive_at m2 (sec c v (location.Locked (AcquireReady e) q) 5) (o ∷ []) went.On in
        let r6 = receive_at m2 (sec c v (location.Pushing (LoadFreed e) q m.ready) 6) (o ∷ []) went.On in
        let r7 = receive_at m2 (sec c v (location.Pushing (PushFreed e w1) q m.ready) 7) (o ∷ []) went.On in
        let r8 = receive_at m3 (sec c v (location.Locked (Release (release.Taken e)) q) 8) (o ∷ []) (went.Pushed w.priority) in
        let r9 = receive_at (with_queue m3 me.number (without_entry q e)) (sec c v (location.Outside (Ended g)) 9) (o ∷ []) g in
        to_picked e false st ver mine present ne r9 some
        (rw off
        (on t r5 r6 r9 (record { ask = (refl, tt); tell = (refl, tt) }) refl
        (on t r6 r7 r9 (record { ask = (refl, tt); tell = (refl, state-whole (m2.word n) there) }) (load t r6 n refl there ∙ rw read refl)
        (on t r7 r8 r9 (record { ask = (refl, (λ _. off_nowhere m n good.words.ready (or_parts _ _ off).1)); tell = (refl, tt) }) (rw runs refl)
        (on t r8 r9 r9 (record { ask = (refl, tt); tell = (refl, tt) }) refl (arrived t r9))))))
