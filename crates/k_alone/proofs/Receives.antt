-- What a receive makes of a memory: the same threads are there, and its words are sound.
use Rattle.std.proofs.Common.{◌≡◌, ℕ, Bool, true, false, refl, sym, ap, ◌∙◌, subst, Option, Some}
use Rattle.std.proofs.lemmas.Option.{same_Some}
use Rattle.std.specs.Option.{IfSome}
use Rattle.k_ids.specs.declared.threads.ThreadId.{ThreadId}
use Rattle.k_ids.specs.declared.state_word.Result4.TheVariants as result4
use Rattle.k_ids.specs.declared.state_word.State.{State}
use Rattle.k_ids.specs.declared.state_word.State.TheVariants as state
use Rattle.k_ids.specs.declared.state_word.StateWord.{StateWord}
use Rattle.k_ids.specs.StateWords.{IsPartner}
use Rattle.k_senders.specs.declared.entries.SenderEntry.{SenderEntry}
use Rattle.k_senders.specs.Entries.{number_of}
use Rattle.k_senders.specs.Queue.{Queue, without}
use Rattle.k_locks.specs.Shown.{shows}
use Rattle.k_model.specs.State.{is_dead, is_present}
use Rattle.k_model.specs.Step.{status_after}
use Rattle.k_shown.specs.Memory.{Memory, table, with_word, with_queue, joined_of}
use Rattle.k_shown.specs.Rows.{IsWordOf}
use Rattle.k_senders.specs.Entries.{sender_of}
use Rattle.k_shown.specs.Sound.{IsCaller, IsSoundWords}
use Rattle.k_shown.proofs.Kept.{Renews, SameThreads, room_kept, same_threads, then_threads, renewed_words}
use Rattle.k_shown.proofs.States.{renews, alive_version}
use Rattle.k_shown.specs.Words.{on_with}
use Rattle.k_shown.proofs.Statuses.{run_sends, run_waits, receives_sends, receives_one}

-- TOOK

-- the word of a sender whose message was taken
abbrev pub taken_word : Bool → ThreadId → StateWord → StateWord
taken_word true me w = record w { state = state.Receiving (Some me) }
taken_word false me w = on_with w (state.Run result4.Sent)

abbrev pub without_entry : Queue → SenderEntry → Queue
without_entry q e = record q { entries = without (number_of e) q.entries }

-- the sender's word, and the receiver's queue
abbrev pub taking : Memory → ThreadId → SenderEntry → Bool → Memory
taking m me e j = with_queue (with_word m (number_of e) (taken_word j me (m.word (number_of e)))) me.number (without_entry (m.queue me.number) e)

after_shown : (j : Bool) (me : ThreadId) (w : StateWord) → shows (taken_word j me w).state ≡ status_after j me
after_shown true me w = refl
after_shown false me w = refl

after_joined : (j : Bool) (me : ThreadId) (w : StateWord) → joined_of (taken_word j me w).state ≡ false
after_joined true me w = refl
after_joined false me w = refl

after_version : (j : Bool) (me : ThreadId) (w : StateWord) → (taken_word j me w).version ≡ w.version
after_version true me w = refl
after_version false me w = refl

after_alive : (j : Bool) (me : ThreadId) → is_dead (status_after j me) ≡ false
after_alive true me = refl
after_alive false me = refl

-- a sender's word once its message was taken
pub taken_renews : (m : Memory) (me : ThreadId) (n : ℕ) (j : Bool) → is_dead (shows (m.word n).state) ≡ false → IsSoundWords m → IsPartner me → is_present (table m) me ≡ true → Renews m n (taken_word j me (m.word n))
taken_renews m me n true alive i p here =
    let w = i.words n in
    record {
      word = record { version = w.version; priority = w.priority; partner = p; agrees = alive_version (m.word n) w alive };
      version = refl;
      alive = refl;
      lived = alive;
      on = λ h. h;
      level = refl;
      sending = λ to q. absurd (receives_sends (Some me) to q);
      receiving = λ from q. subst (λ (x : ThreadId). is_present (table m) x ≡ true) (same_Some me from (receives_one (Some me) from q)) here;
    }
taken_renews m me n false alive i p here = renews m n (state.Run result4.Sent) (i.words n) alive refl tt (λ to q. absurd (run_sends to q)) (λ from q. absurd (run_waits from q))

-- the sender's word, before the queue is put back
pub words_taken : (m : Memory) (me : ThreadId) (e : SenderEntry) (j : Bool) → (m.word (number_of e)).state ≡ state.Sending me j → IsSoundWords m → IsPartner me → is_present (table m) me ≡ true → IsSoundWords (with_word m (number_of e) (taken_word j me (m.word (number_of e))))
words_taken m me e j st i p here =
    let alive : is_dead (shows (m.word (number_of e)).state) ≡ false = ap (λ (x : State). is_dead (shows x)) st in
    renewed_words m (number_of e) _ (taken_renews m me (number_of e) j alive i p here) i

module _ (m : Memory) (me : ThreadId) (e : SenderEntry) (j : Bool) (st : (m.word (number_of e)).state ≡ state.Sending me j) where
  -- the sender's word shows what the specification makes of the sender
  pub taken_shows : (m.word (number_of e)).version ≡ (sender_of e).version → IsWordOf (sender_of e) (status_after (joined_of (m.word (number_of e)).state) me) false (taken_word j me (m.word (number_of e)))
  taken_shows there =
      let w = m.word (number_of e) in
      record {
        version = after_version j me w ∙ there;
        status = after_shown j me w ∙ sym (ap (λ (s : State). status_after (joined_of s) me) st);
        joined = after_joined j me w;
      }

  pub taken_threads : SameThreads m (taking m me e j)
  taken_threads =
      let n = number_of e in
      let w = taken_word j me (m.word n) in
      let alive : is_dead (shows (m.word n).state) ≡ false = ap (λ (x : State). is_dead (shows x)) st in
      let m1 = with_word m n w in
      then_threads m m1 _ (same_threads m n w (after_version j me (m.word n)) (ap is_dead (after_shown j me (m.word n)) ∙ after_alive j me ∙ sym alive))
      (record { size = refl; version = λ n. refl; dead = λ n. refl; context = refl; numbers = refl; room = room_kept m1 me.number (without_entry (m.queue me.number) e) refl })

-- WAITS

abbrev pub receiving : Memory → ThreadId → StateWord → Option ThreadId → Memory
receiving m me own from = with_word m me.number (on_with own (state.Receiving from))

module _ (m : Memory) (me : ThreadId) (own : StateWord) (from : Option ThreadId) (c : IsCaller m me own) where
  caller_alive : is_dead (shows (m.word me.number).state) ≡ false
  caller_alive = ap (λ (x : StateWord). is_dead (shows x.state)) c.word ∙ ap (λ (x : State). is_dead (shows x)) c.runs

  pub receiving_threads : SameThreads m (receiving m me own from)
  receiving_threads = same_threads m me.number (on_with own (state.Receiving from)) (sym (ap (λ (x : StateWord). x.version) c.word)) (sym caller_alive)

  pub receiving_sound : IsSoundWords m → IfSome from IsPartner → ((id : ThreadId) → from ≡ Some id → is_present (table m) id ≡ true) → IsSoundWords (receiving m me own from)
  receiving_sound i p here =
      let r = subst (λ (x : StateWord). Renews m me.number (on_with x (state.Receiving from))) c.word
      (renews m me.number (state.Receiving from) (i.words me.number) caller_alive refl p (λ id q. absurd (receives_sends from id q)) (λ id q. here id (receives_one from id q))) in
      renewed_words m me.number _ r i
