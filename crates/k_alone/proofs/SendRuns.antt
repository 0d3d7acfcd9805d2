-- The runs of a send.
use Rattle.std.proofs.Common.{◌≡◌, ◌≢◌, ℕ, true, false, List, [], ◌∷◌, refl, sym, ap, ◌∙◌, subst, Some, None}
use Rattle.std.specs.Option.{IfSome}
use Rattle.std.specs.Prelude.{if◌then◌else◌}
use Rattle.k_ids.specs.declared.threads.ThreadId.{ThreadId}
use Rattle.k_ids.specs.declared.calls.Outcome.{Outcome}
use Rattle.k_ids.specs.declared.calls.Outcome.TheVariants as outcome
use Rattle.k_ids.specs.declared.calls.Reply.{Reply}
use Rattle.k_ids.specs.declared.calls.Reply.TheVariants as reply
use Rattle.k_ids.specs.declared.histories.Entry.{Entry}
use Rattle.k_ids.specs.declared.state_word.Result4.TheVariants as result4
use Rattle.k_ids.specs.declared.state_word.State.{State}
use Rattle.k_ids.specs.declared.state_word.State.TheVariants as state
use Rattle.k_ids.specs.declared.state_word.StateWord.{StateWord}
use Rattle.k_ids.specs.LockWords.{lock_bits}
use Rattle.k_ids.specs.Messages.{message_bits}
use Rattle.k_ids.specs.StateWords.{IsStateWord, IsPartner, state_bits, state_word_of, partner_of, is_live}
use Rattle.k_ids.proofs.StateSpelled.{state-read}
use Rattle.k_senders.specs.Queue.{Queue}
use Rattle.k_locks.specs.declared.goods.Goods.TheVariants as goods
use Rattle.k_locks.specs.declared.locks.Lock.TheVariants as lock
use Rattle.k_locks.specs.declared.locks.WordName.TheVariants as word
use Rattle.k_locks.specs.declared.steps.Step.TheVariants as step
use Rattle.k_locks.specs.declared.steps.Answer.TheVariants as answer
use Rattle.k_locks.specs.declared.steps.Told.TheVariants as told_by
use Rattle.k_locks.specs.declared.steps.Went.{Went}
use Rattle.k_locks.specs.declared.steps.Went.TheVariants as went
use Rattle.k_locks.specs.Shown.{shows, is_dead, is_dead_state}
use Rattle.k_ipc.specs.declared.send.Manner.{Manner}
use Rattle.k_ipc.specs.declared.send.Manner.TheVariants as manner
use Rattle.k_ipc.specs.declared.send.SendCall.{SendCall}
use Rattle.k_ipc.specs.declared.send.SendSection.{SendSection}
use Rattle.k_ipc.specs.declared.send.SendOutside.TheVariants.{CheckCaller, Ended}
use Rattle.k_ipc.specs.declared.send.SendLocked.TheVariants.{LoadReceiver, StoreMail, CommitPass, WakeReceiver, AcquireReady, CommitWait, Release}
use Rattle.k_ipc.specs.declared.send.SendRelease.TheVariants as release
use Rattle.k_ipc.specs.declared.send.SendPushing.TheVariants.{PushReceiver}
use Rattle.k_ipc.specs.declared.send.SendLocation.{SendLocation}
use Rattle.k_ipc.specs.declared.send.SendLocation.TheVariants as location
use Rattle.k_ipc.specs.SendTable.{send_of, point_of, after_receiver, refusal_of, passed_word, waiting_word, passed_end, is_joined}
use Rattle.k_ipc.specs.Words.{IsRoom}
use Rattle.k_senders.specs.Entries.{entry_for}
use Rattle.k_model.specs.State.{same_id}
use Rattle.k_model.specs.State.{is_dead as is_dead_status}
use Rattle.k_model.proofs.Maps.{upd_other}
use Rattle.k_shown.specs.Memory.{Memory, with_word, with_mail, with_queue}
use Rattle.k_shown.specs.Sound.{IsCaller, IsSoundMemory}
use Rattle.k_alone.specs.Alone.{Run, begun, entry_at}
use Rattle.k_alone.specs.SendAlone.{send_kind, IsSendCall}
use Rattle.k_shown.proofs.Alike.{dead_same}
use Rattle.k_shown.proofs.Kept.{off_nowhere, pushed}
use Rattle.k_alone.proofs.Sends.{passing, waits_at}
use Rattle.k_shown.proofs.States.{on_word, upd_self}
use Rattle.k_shown.specs.Words.{on_with}
use Rattle.k_alone.proofs.Runs.{Goes, arrived, can, load, on, one, spelled, stores, won, writes}

-- a loaded word is the one that is there
pub read_word : (m : Memory) (n : ℕ) → IsSoundMemory m → state_word_of (state_bits (m.word n)) ≡ m.word n
read_word m n good = state-read (m.word n) (good.words.words n)

pub caller_read : (m : Memory) (me : ThreadId) (own : StateWord) → IsSoundMemory m → IsCaller m me own → is_dead (state_word_of (state_bits (m.word me.number))) ≡ false
caller_read m me own good call = ap (λ (w : StateWord). is_dead w) (read_word m me.number good ∙ call.word) ∙ ap (λ (x : State). is_dead_state x) call.runs

pub caller_there : (m : Memory) (me : ThreadId) (own : StateWord) → IsCaller m me own → is_dead (m.word me.number) ≡ false
caller_there m me own call = ap (λ (w : StateWord). is_dead w) call.word ∙ ap (λ (x : State). is_dead_state x) call.runs

-- a queue that is put back as it was
pub put_back_same : (m : Memory) (n : ℕ) → with_queue m n (m.queue n) ≡ m
put_back_same m n = ap (λ (f : ℕ → Queue). record m { queue = f }) (upd_self m.queue n)

-- what the caller does once its message has passed
abbrev pub state_after : Manner → ThreadId → State
state_after manner.Plain to = state.Run result4.Sent
state_after manner.Joined to = state.Receiving (Some to)
state_after manner.Reply to = state.Picking

-- the entry of the caller's call
abbrev pub entry_of : ℕ → SendCall → Outcome → Entry
entry_of serial c o = entry_at (λ n. serial) (point_of c o)

pub passed_is : (a : Manner) (to : ThreadId) (own : StateWord) → own.on ≡ true → passed_word a to own ≡ on_with own (state_after a to)
passed_is manner.Plain to own e = λ d. record own { on = e d; state = state.Run result4.Sent }
passed_is manner.Joined to own e = λ d. record own { on = e d; state = state.Receiving (Some to) }
passed_is manner.Reply to own e = refl

pub after_live : (a : Manner) (to : ThreadId) → is_live (state_after a to) ≡ true
after_live manner.Plain to = refl
after_live manner.Joined to = refl
after_live manner.Reply to = refl

pub after_partner : (a : Manner) (to : ThreadId) → IsPartner to → IfSome (partner_of (state_after a to)) IsPartner
after_partner manner.Plain to p = tt
after_partner manner.Joined to p = p
after_partner manner.Reply to p = tt

abbrev pub sec : SendCall → StateWord → SendLocation → ℕ → SendSection
sec c own l d = record { call = c; own = own; location = l; done = d }

abbrev pub send_at : Memory → SendSection → List Entry → Went → Run SendSection
send_at m s es w = record { memory = m; section = s; entries = es; went = w }

module _ (c : SendCall) (serial : ℕ) (m : Memory) (own : StateWord) (good : IsSoundMemory m) (call : IsCaller m c.caller own) where
  pub runs_own : same_id c.to c.caller ≡ true → Goes (send_kind serial) (begun m (send_of c own)) (send_at m (sec c own (location.Outside (Ended (went.Ends reply.Own))) 1) (entry_of serial c outcome.Own ∷ []) (went.Ends reply.Own))
  runs_own same =
      let t = send_kind serial in
      let r0 = begun m (send_of c own) in
      let r1 = send_at m (sec c own (location.Outside (Ended (went.Ends reply.Own))) 1) (entry_of serial c outcome.Own ∷ []) (went.Ends reply.Own) in
      on t r0 r1 r1 (rw same (record { ask = (refl, tt); tell = (refl, spelled m good c.caller.number) })) (load t r0 c.caller.number (rw same refl) (good.words.words c.caller.number) ∙ rw (same, caller_read m c.caller own good call) refl) (arrived t r1)

  -- refused, by what the receiver's word shows
  pub runs_refused : (r : Reply) (o : Outcome) → same_id c.to c.caller ≡ false → after_receiver c (m.word c.to.number) ≡ Release (release.Refused r) → refusal_of c (m.word c.to.number) ≡ Some (point_of c o) → Goes (send_kind serial) (begun m (send_of c own)) (send_at m (sec c own (location.Outside (Ended (went.Ends r))) 4) (entry_of serial c o ∷ []) (went.Ends r))
  unfolding lock_bits
  runs_refused r o other leads tells =
      let t = send_kind serial in
      let q = m.queue c.to.number in
      let e = entry_of serial c o in
      let r0 = begun m (send_of c own) in
      let r1 = send_at m (sec c own (location.Locked LoadReceiver q) 1) [] went.On in
      let r2 = send_at m (sec c own (location.Locked (Release (release.Refused r)) q) 2) (e ∷ []) went.On in
      let r3 = send_at m (sec c own (location.Outside (CheckCaller r)) 3) (e ∷ []) went.On in
      let r4 = send_at m (sec c own (location.Outside (Ended (went.Ends r))) 4) (e ∷ []) (went.Ends r) in
      on t r0 r1 r4 (rw other (record { ask = (refl, tt); tell = (refl, tt) })) (rw other refl)
      (on t r1 r2 r4 (record { ask = (refl, tt); tell = (refl, spelled m good c.to.number) }) (load t r1 c.to.number refl (good.words.words c.to.number) ∙ rw (read_word m c.to.number good, caller_there m c.caller own call, leads, tells) refl)
      (on t r2 r3 r4 (record { ask = (refl, tt); tell = (refl, tt) }) (one t r2 (step.Release (lock.Thread c.to.number) (goods.Senders q)) (answer.Told told_by.Released) m r3.section None (e ∷ []) went.On refl refl (put_back_same m c.to.number) refl refl refl refl)
      (on t r3 r4 r4 (record { ask = (refl, tt); tell = (refl, spelled m good c.caller.number) }) (load t r3 c.caller.number refl (good.words.words c.caller.number) ∙ rw (caller_read m c.caller own good call) refl) (arrived t r4))))

  -- the caller waits
  pub runs_queued : same_id c.to c.caller ≡ false → after_receiver c (m.word c.to.number) ≡ CommitWait → refusal_of c (m.word c.to.number) ≡ None → IsPartner c.to → IsRoom c.caller (m.queue c.to.number) → Goes (send_kind serial) (begun m (send_of c own)) (send_at (waits_at m c.caller own (is_joined c.manner) c.to (entry_for c.caller c.message)) (sec c (waiting_word c own) (location.Outside (Ended went.Waits)) 4) (entry_of serial c outcome.Waits ∷ []) went.Waits)
  unfolding lock_bits
  runs_queued other leads tells partner room =
      let t = send_kind serial in
      let q = m.queue c.to.number in
      let me = c.caller.number in
      let e = entry_of serial c outcome.Waits in
      let j = is_joined c.manner in
      let v = waiting_word c own in
      let same : v ≡ on_with own (state.Sending c.to j) = λ d. record own { on = call.on d; state = state.Sending c.to j } in
      let sound : IsStateWord v = subst IsStateWord (sym same) (subst (λ (w : StateWord). IsStateWord (on_with w (state.Sending c.to j))) call.word (on_word (m.word me) (state.Sending c.to j) (good.words.words me) (sym (dead_same (m.word me).state) ∙ caller_there m c.caller own call) refl partner)) in
      let m1 = with_word m me (on_with own (state.Sending c.to j)) in
      let r0 = begun m (send_of c own) in
      let r1 = send_at m (sec c own (location.Locked LoadReceiver q) 1) [] went.On in
      let r2 = send_at m (sec c own (location.Locked CommitWait q) 2) [] went.On in
      let r3 = send_at m1 (sec c v (location.Locked (Release release.Queued) q) 3) (e ∷ []) went.On in
      let r4 = send_at (waits_at m c.caller own j c.to (entry_for c.caller c.message)) (sec c v (location.Outside (Ended went.Waits)) 4) (e ∷ []) went.Waits in
      on t r0 r1 r4 (rw other (record { ask = (refl, tt); tell = (refl, tt) })) (rw other refl)
      (on t r1 r2 r4 (record { ask = (refl, tt); tell = (refl, spelled m good c.to.number) }) (load t r1 c.to.number refl (good.words.words c.to.number) ∙ rw (read_word m c.to.number good, caller_there m c.caller own call, leads, tells) refl)
      (on t r2 r3 r4 (can t r2 (answer.Told told_by.Won) (refl, tt) (won m me own v call.word) (refl, tt)) (one t r2 (step.Exchange (word.State me) (state_bits own) (state_bits v)) (answer.Told told_by.Won) m1 r3.section (Some e) (e ∷ []) went.On refl (won m me own v call.word) (writes m me own v call.word sound ∙ ap (with_word m me) same) refl refl refl refl)
      (on t r3 r4 r4 (record { ask = (refl, room); tell = (refl, tt) }) refl (arrived t r4))))

  -- The message passes, and the receiver is woken. It was on, or is pushed.
  runs_woken : (final : Run SendSection) → same_id c.to c.caller ≡ false → c.caller.number ≢ c.to.number → after_receiver c (m.word c.to.number) ≡ StoreMail (m.word c.to.number) → refusal_of c (m.word c.to.number) ≡ None → IsSendCall c → is_dead_status (shows (m.word c.to.number).state) ≡ false → Goes (send_kind serial) (send_at (passing m c.caller own (state_after c.manner c.to) c.to c.message) (sec c (passed_word c.manner c.to own) (location.Locked (if (m.word c.to.number).on then Release release.Passed else AcquireReady (m.word c.to.number).priority) (m.queue c.to.number)) 5) (entry_of serial c outcome.Passed ∷ []) went.On) final → Goes (send_kind serial) (begun m (send_of c own)) final
  unfolding lock_bits
  runs_woken final other ne leads tells parts alive rest =
      let t = send_kind serial in
      let q = m.queue c.to.number in
      let wt = m.word c.to.number in
      let me = c.caller.number in
      let s = state_after c.manner c.to in
      let v = passed_word c.manner c.to own in
      let same = passed_is c.manner c.to own call.on in
      let lives : is_dead_status (shows (m.word me).state) ≡ false = sym (dead_same (m.word me).state) ∙ caller_there m c.caller own call in
      let sound : IsStateWord v = subst IsStateWord (sym same) (subst (λ (w : StateWord). IsStateWord (on_with w s)) call.word (on_word (m.word me) s (good.words.words me) lives (after_live c.manner c.to) (after_partner c.manner c.to parts.to))) in
      let d = on_with wt (state.Run (result4.Delivered c.caller)) in
      let sound2 : IsStateWord d = on_word wt (state.Run (result4.Delivered c.caller)) (good.words.words c.to.number) alive refl parts.caller in
      let m1 = with_mail m c.to.number c.message in
      let m2 = with_word m1 me (on_with own s) in
      let m3 = with_word m2 c.to.number d in
      let there : m2.word c.to.number ≡ wt = upd_other m.word me (on_with own s) c.to.number (λ e. ne (sym e)) in
      let e = entry_of serial c outcome.Passed in
      let r0 = begun m (send_of c own) in
      let r1 = send_at m (sec c own (location.Locked LoadReceiver q) 1) [] went.On in
      let r2 = send_at m (sec c own (location.Locked (StoreMail wt) q) 2) [] went.On in
      let r3 = send_at m1 (sec c own (location.Locked (CommitPass wt) q) 3) [] went.On in
      let r4 = send_at m2 (sec c v (location.Locked (WakeReceiver wt) q) 4) (e ∷ []) went.On in
      let r5 = send_at m3 (sec c v (location.Locked (if wt.on then Release release.Passed else AcquireReady wt.priority) q) 5) (e ∷ []) went.On in
      on t r0 r1 final (rw other (record { ask = (refl, tt); tell = (refl, tt) })) (rw other refl)
      (on t r1 r2 final (record { ask = (refl, tt); tell = (refl, spelled m good c.to.number) }) (load t r1 c.to.number refl (good.words.words c.to.number) ∙ rw (read_word m c.to.number good, caller_there m c.caller own call, leads, tells) refl)
      (on t r2 r3 final (record { ask = (refl, tt); tell = (refl, tt) }) (one t r2 (step.Store (word.Mail c.to.number) (message_bits c.message)) (answer.Told told_by.Stored) m1 r3.section None [] went.On refl refl (stores m c.to.number c.message parts.low) refl refl refl refl)
      (on t r3 r4 final (can t r3 (answer.Told told_by.Won) (refl, tt) (won m1 me own v call.word) (refl, tt)) (one t r3 (step.Exchange (word.State me) (state_bits own) (state_bits v)) (answer.Told told_by.Won) m2 r4.section (Some e) (e ∷ []) went.On refl (won m1 me own v call.word) (writes m1 me own v call.word sound ∙ ap (with_word m1 me) same) refl refl refl refl)
      (on t r4 r5 final (can t r4 (answer.Told told_by.Won) (refl, tt) (won m2 c.to.number wt d there) (refl, tt)) (one t r4 (step.Exchange (word.State c.to.number) (state_bits wt) (state_bits d)) (answer.Told told_by.Won) m3 r5.section None (e ∷ []) went.On refl (won m2 c.to.number wt d there) (writes m2 c.to.number wt d there sound2) refl refl refl refl)
      rest))))

  pub runs_passed_on : same_id c.to c.caller ≡ false → c.caller.number ≢ c.to.number → after_receiver c (m.word c.to.number) ≡ StoreMail (m.word c.to.number) → refusal_of c (m.word c.to.number) ≡ None → IsSendCall c → is_dead_status (shows (m.word c.to.number).state) ≡ false → (m.word c.to.number).on ≡ true → Goes (send_kind serial) (begun m (send_of c own)) (send_at (passing m c.caller own (state_after c.manner c.to) c.to c.message) (sec c (passed_word c.manner c.to own) (location.Outside (Ended (passed_end c.manner))) 6) (entry_of serial c outcome.Passed ∷ []) (passed_end c.manner))
  unfolding lock_bits
  runs_passed_on other ne leads tells parts alive was =
      let t = send_kind serial in
      let q = m.queue c.to.number in
      let wt = m.word c.to.number in
      let v = passed_word c.manner c.to own in
      let m3 = passing m c.caller own (state_after c.manner c.to) c.to c.message in
      let e = entry_of serial c outcome.Passed in
      let r5 = send_at m3 (sec c v (location.Locked (if wt.on then Release release.Passed else AcquireReady wt.priority) q) 5) (e ∷ []) went.On in
      let r5' = send_at m3 (sec c v (location.Locked (Release release.Passed) q) 5) (e ∷ []) went.On in
      let r6 = send_at m3 (sec c v (location.Outside (Ended (passed_end c.manner))) 6) (e ∷ []) (passed_end c.manner) in
      let back : with_queue m3 c.to.number q ≡ m3 = put_back_same m3 c.to.number in
      runs_woken r6 other ne leads tells parts alive
      (rw was (on t r5' r6 r6 (record { ask = (refl, tt); tell = (refl, tt) }) (one t r5' (step.Release (lock.Thread c.to.number) (goods.Senders q)) (answer.Told told_by.Released) m3 r6.section None (e ∷ []) (passed_end c.manner) refl refl back refl refl refl refl) (arrived t r6)))

  pub runs_passed_off : same_id c.to c.caller ≡ false → c.caller.number ≢ c.to.number → after_receiver c (m.word c.to.number) ≡ StoreMail (m.word c.to.number) → refusal_of c (m.word c.to.number) ≡ None → IsSendCall c → is_dead_status (shows (m.word c.to.number).state) ≡ false → (m.word c.to.number).on ≡ false → Goes (send_kind serial) (begun m (send_of c own)) (send_at (pushed (passing m c.caller own (state_after c.manner c.to) c.to c.message) c.to (m.word c.to.number).priority) (sec c (passed_word c.manner c.to own) (location.Outside (Ended (passed_end c.manner))) 8) (entry_of serial c outcome.Passed ∷ []) (passed_end c.manner))
  unfolding lock_bits
  runs_passed_off other ne leads tells parts alive was =
      let t = send_kind serial in
      let q = m.queue c.to.number in
      let wt = m.word c.to.number in
      let p = wt.priority in
      let v = passed_word c.manner c.to own in
      let m3 = passing m c.caller own (state_after c.manner c.to) c.to c.message in
      let m4 = pushed m3 c.to p in
      let e = entry_of serial c outcome.Passed in
      let r5 = send_at m3 (sec c v (location.Locked (AcquireReady p) q) 5) (e ∷ []) went.On in
      let r6 = send_at m3 (sec c v (location.Pushing (PushReceiver p) q m.ready) 6) (e ∷ []) went.On in
      let r7 = send_at m4 (sec c v (location.Locked (Release release.Passed) q) 7) (e ∷ []) (went.Pushed p) in
      let r8 = send_at m4 (sec c v (location.Outside (Ended (passed_end c.manner))) 8) (e ∷ []) (passed_end c.manner) in
      let back : with_queue m4 c.to.number q ≡ m4 = put_back_same m4 c.to.number in
      runs_woken r8 other ne leads tells parts alive
      (rw was
      (on t r5 r6 r8 (record { ask = (refl, tt); tell = (refl, tt) }) refl
      (on t r6 r7 r8 (record { ask = (refl, off_nowhere m c.to.number good.words.ready was); tell = (refl, tt) }) refl
      (on t r7 r8 r8 (record { ask = (refl, tt); tell = (refl, tt) }) (one t r7 (step.Release (lock.Thread c.to.number) (goods.Senders q)) (answer.Told told_by.Released) m4 r8.section None (e ∷ []) (passed_end c.manner) refl refl back refl refl refl refl) (arrived t r8)))))
