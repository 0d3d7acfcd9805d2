-- What a send makes of a memory: the same threads are there, and its words are sound.
use Rattle.std.proofs.Common.{◌≡◌, ◌≢◌, Bool, true, false, [], ◌∷◌, ◌++◌, refl, sym, ap, ◌∙◌, subst, Some}
use Rattle.k_ids.specs.declared.threads.ThreadId.{ThreadId}
use Rattle.k_ids.specs.declared.threads.Message.{Message}
use Rattle.k_ids.specs.declared.threads.Status.TheVariants as status
use Rattle.k_ids.specs.declared.state_word.Result4.TheVariants as result4
use Rattle.k_ids.specs.declared.state_word.State.{State}
use Rattle.k_ids.specs.declared.state_word.State.TheVariants as state
use Rattle.k_ids.specs.declared.state_word.StateWord.{StateWord}
use Rattle.k_ids.specs.StateWords.{IsPartner, partner_of, is_live}
use Rattle.std.specs.Option.{IfSome}
use Rattle.k_senders.specs.declared.entries.SenderEntry.{SenderEntry}
use Rattle.k_locks.specs.Shown.{shows}
use Rattle.k_model.specs.State.{is_dead, is_present}
use Rattle.k_model.proofs.Maps.{upd_other}
use Rattle.k_shown.specs.Memory.{Memory, table, with_word, with_mail, with_queue}
use Rattle.k_senders.specs.Entries.{IsEntry}
use Rattle.k_shown.specs.Sound.{IsCaller, IsSoundWords}
use Rattle.k_lists.proofs.All.{all_push}
use Rattle.k_shown.proofs.Kept.{Renews, SameThreads, room_kept, same_threads, then_threads, renewed_words, mailed_words, queued_words}
use Rattle.k_shown.proofs.States.{renews}
use Rattle.k_shown.specs.Words.{on_with}
use Rattle.k_shown.proofs.Statuses.{run_sends, run_waits, sends_waits, sends_one}

-- PASSED

-- the caller's word, and then the receiver's
abbrev pub passing : Memory → ThreadId → StateWord → State → ThreadId → Message → Memory
passing m me own s to message = with_word (with_word (with_mail m to.number message) me.number (on_with own s)) to.number (on_with (m.word to.number) (state.Run (result4.Delivered me)))

module _ (m : Memory) (me : ThreadId) (own : StateWord) (s : State) (to : ThreadId) (message : Message) (c : IsCaller m me own) (ne : me.number ≢ to.number) where
  pub passed_threads : is_dead (shows (m.word to.number).state) ≡ false → is_dead (shows s) ≡ false → SameThreads m (passing m me own s to message)
  passed_threads d a =
      let m1 = with_mail m to.number message in
      let m2 = with_word m1 me.number (on_with own s) in
      then_threads m m1 _ (record { size = refl; version = λ n. refl; dead = λ n. refl; context = refl; numbers = refl; room = λ n. refl })
      (then_threads m1 m2 _
      (same_threads m1 me.number (on_with own s) (sym (ap (λ (x : StateWord). x.version) c.word)) (a ∙ sym (ap (λ (x : StateWord). is_dead (shows x.state)) c.word ∙ ap (λ (x : State). is_dead (shows x)) c.runs)))
      (same_threads m2 to.number (on_with (m.word to.number) (state.Run (result4.Delivered me)))
      (sym (ap (λ (x : StateWord). x.version) (upd_other m.word me.number (on_with own s) to.number (λ e. ne (sym e)))))
      (sym (ap (λ (x : StateWord). is_dead (shows x.state)) (upd_other m.word me.number (on_with own s) to.number (λ e. ne (sym e))) ∙ d))))

  pub passed_words : IsSoundWords m → IfSome (partner_of s) IsPartner → is_live s ≡ true → ((id : ThreadId) → shows s ≡ status.Sending id → (is_present (table m) id ≡ true) × (id.number ≢ me.number)) → ((id : ThreadId) → shows s ≡ status.Receiving (Some id) → is_present (table m) id ≡ true) → is_dead (shows (m.word to.number).state) ≡ false → IsPartner me → IsSoundWords (passing m me own s to message)
  passed_words i p l sends waits d mine =
      let m1 = with_mail m to.number message in
      let m2 = with_word m1 me.number (on_with own s) in
      let w = on_with (m.word to.number) (state.Run (result4.Delivered me)) in
      let i1 = mailed_words m to.number message i in
      let alive : is_dead (shows (m.word me.number).state) ≡ false = ap (λ (x : StateWord). is_dead (shows x.state)) c.word ∙ ap (λ (x : State). is_dead (shows x)) c.runs in
      let r1 = subst (λ (x : StateWord). Renews m1 me.number (on_with x s)) c.word (renews m1 me.number s (i.words me.number) alive l p sends waits) in
      let i2 = renewed_words m1 me.number (on_with own s) r1 i1 in
      let same : m2.word to.number ≡ m.word to.number = upd_other m.word me.number (on_with own s) to.number (λ e. ne (sym e)) in
      let r2 = subst (λ (x : StateWord). Renews m2 to.number (on_with x (state.Run (result4.Delivered me)))) same
      (renews m2 to.number (state.Run (result4.Delivered me)) (i2.words to.number) (ap (λ (x : StateWord). is_dead (shows x.state)) same ∙ d) refl mine (λ id e. absurd (run_sends id e)) (λ id e. absurd (run_waits id e))) in
      renewed_words m2 to.number w r2 i2

-- WAITS

-- the caller's word, and then the queue
abbrev pub waits_at : Memory → ThreadId → StateWord → Bool → ThreadId → SenderEntry → Memory
waits_at m me own joined to e = with_queue (with_word m me.number (on_with own (state.Sending to joined))) to.number (record (m.queue to.number) { entries = (m.queue to.number).entries ++ e ∷ [] })

module _ (m : Memory) (me : ThreadId) (own : StateWord) (joined : Bool) (to : ThreadId) (e : SenderEntry) (c : IsCaller m me own) where
  pub queued_threads : SameThreads m (waits_at m me own joined to e)
  queued_threads =
      let m1 = with_word m me.number (on_with own (state.Sending to joined)) in
      then_threads m m1 _ (same_threads m me.number (on_with own (state.Sending to joined)) (sym (ap (λ (x : StateWord). x.version) c.word)) (sym (ap (λ (x : StateWord). is_dead (shows x.state)) c.word ∙ ap (λ (x : State). is_dead (shows x)) c.runs)))
      (record { size = refl; version = λ n. refl; dead = λ n. refl; context = refl; numbers = refl; room = room_kept m1 to.number (record (m.queue to.number) { entries = (m.queue to.number).entries ++ e ∷ [] }) refl })

  pub queued_sound : IsSoundWords m → IsEntry e → IsPartner to → is_present (table m) to ≡ true → me.number ≢ to.number → IsSoundWords (waits_at m me own joined to e)
  queued_sound i spelled p here ne =
      let alive : is_dead (shows (m.word me.number).state) ≡ false = ap (λ (x : StateWord). is_dead (shows x.state)) c.word ∙ ap (λ (x : State). is_dead (shows x)) c.runs in
      let r = subst (λ (x : StateWord). Renews m me.number (on_with x (state.Sending to joined))) c.word
      (renews m me.number (state.Sending to joined) (i.words me.number) alive refl p (λ id q. subst (λ (x : ThreadId). (is_present (table m) x ≡ true) × (x.number ≢ me.number)) (sends_one to id q) (here, λ x. ne (sym x))) (λ id q. absurd (sends_waits to id q))) in
      queued_words (with_word m me.number (on_with own (state.Sending to joined))) to.number _ (all_push IsEntry (m.queue to.number).entries e (i.entries to.number) spelled) (renewed_words m me.number _ r i)
