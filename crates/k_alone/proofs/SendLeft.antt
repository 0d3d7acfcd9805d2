-- What a send leaves of words, mails and lists.
use Rattle.std.proofs.Common.{◌≡◌, ◌≢◌, ℕ, Bool, true, false, not, ◌&&◌, eqb, List, [], ◌∷◌, ◌++◌, refl, sym, ap, ◌∙◌, Option, inl}
use Rattle.std.proofs.lemmas.Bool.{false≢true, eq-eqb, or_parts}
use Rattle.std.specs.List.{AllByRecursion, list_any}
use Rattle.k_ids.specs.declared.threads.ThreadId.{ThreadId}
use Rattle.k_ids.specs.declared.threads.Message.{Message}
use Rattle.k_ids.specs.declared.threads.Status.{Status}
use Rattle.k_ids.specs.declared.threads.Status.TheVariants as status
use Rattle.k_ids.specs.declared.calls.Phase.{Phase}
use Rattle.k_ids.specs.declared.calls.Act.TheVariants as act
use Rattle.k_ids.specs.declared.calls.Outcome.TheVariants as outcome
use Rattle.k_ids.specs.declared.calls.Reply.{Reply}
use Rattle.k_ids.specs.declared.calls.Reply.TheVariants as reply
use Rattle.k_ids.specs.declared.histories.Event.{Event}
use Rattle.k_ids.specs.declared.histories.ReplyLine.{ReplyLine}
use Rattle.k_ids.specs.declared.state_word.Result4.TheVariants as result4
use Rattle.k_ids.specs.declared.state_word.State.{State}
use Rattle.k_ids.specs.declared.state_word.State.TheVariants as state
use Rattle.k_ids.specs.declared.state_word.StateWord.{StateWord}
use Rattle.k_senders.specs.declared.entries.SenderEntry.{SenderEntry}
use Rattle.k_senders.specs.Queue.{Queue}
use Rattle.k_locks.specs.Shown.{shows}
use Rattle.k_ipc.specs.declared.send.Manner.{Manner}
use Rattle.k_ipc.specs.declared.send.Manner.TheVariants as manner
use Rattle.k_model.specs.Answered.{reply_to}
use Rattle.k_model.specs.Maps.{upd}
use Rattle.k_model.specs.State.{is_run, same_id, takes_from}
use Rattle.k_model.proofs.Maps.{upd_cases, upd_same, upd_other}
use Rattle.k_shown.specs.Memory.{Memory, waiting}
use Rattle.k_shown.specs.Leaves.{IsWoken, Leaves, pushed_by, state_told, woken_by}
use Rattle.k_shown.specs.Sound.{IsCaller, IsSoundMemory}
use Rattle.k_shown.proofs.Kept.{SameThreads, pushed}
use Rattle.k_shown.proofs.Left.{Turns, all_stay, caller_turns, leaves_from, lists_kept, lists_pushed, longer, no_other, woken_turns}
use Rattle.k_alone.proofs.Made.{reply_first, reply_other}
use Rattle.k_shown.specs.Rows.{sent_line}
use Rattle.k_alone.proofs.SendRuns.{state_after}
use Rattle.k_alone.proofs.Sends.{passing, waits_at}
use Rattle.k_shown.specs.Words.{on_with}
use Rattle.k_shown.proofs.Statuses.{same_self}

sends_runs : (to : ThreadId) → status.Sending to ≡ status.Run → ⊥
sends_runs to e = cc

module _ (m : Memory) (me : ThreadId) (own : StateWord) (serial : ℕ) (phase : Phase) (to : ThreadId) (good : IsSoundMemory m) (call : IsCaller m me own) where
  abbrev event : Event
  event = record { who = me; serial = serial; act = act.Call phase }

  -- The caller waits.
  pub waits_left : (joined : Bool) (e : SenderEntry) → SameThreads m (waits_at m me own joined to e) → Leaves event outcome.Waits [] m (waits_at m me own joined to e)
  waits_left joined e t =
      let m' = waits_at m me own joined to e in
      let s = state.Sending to joined in
      let q : Queue = record (m.queue to.number) { entries = (m.queue to.number).entries ++ e ∷ [] } in
      let mine : m'.word me.number ≡ on_with own s = upd_same m.word me.number (on_with own s) in
      leaves_from event outcome.Waits [] m m' t
      (λ n. upd_cases (Turns m me n) m.word me.number (on_with own s) n (λ x. caller_turns m me own s n call.word call.on x) (λ _. inl refl))
      tt
      (λ r. absurd (sends_runs to (sym (ap (λ (w : StateWord). shows w.state) mine) ∙ r)))
      (λ n _. refl)
      (λ n. upd_cases (λ (x : Queue). waiting x ≡ waiting (m.queue n) → x ≡ m.queue n) m.queue to.number q n (λ x h. absurd (longer (m.queue to.number) e (h ∙ ap (λ (j : ℕ). waiting (m.queue j)) x))) (λ _ _. refl))
      (lists_kept m m' [] (all_stay m m' good.words.ready t) refl refl)
      refl

takes_not : (s : Status) (who : ThreadId) (zero : Bool) → takes_from s who zero ≡ true → is_run s ≡ false
takes_not status.Dead who zero h = refl
takes_not status.Run who zero h = absurd (false≢true h)
takes_not (status.Sending to) who zero h = refl
takes_not (status.Receiving from) who zero h = refl
takes_not status.Picking who zero h = refl
takes_not status.Ended who zero h = refl

-- THE MESSAGE PASSES

module _ (m : Memory) (me : ThreadId) (own : StateWord) (serial : ℕ) (phase : Phase) (to : ThreadId) (message : Message) (to_serial : ℕ) (good : IsSoundMemory m) (call : IsCaller m me own) (other : same_id to me ≡ false) (ne : me.number ≢ to.number) where
  abbrev got : ReplyLine
  got = record { id = to; serial = to_serial; reply = reply.Got me message }

  abbrev replies : Manner → List ReplyLine
  replies a = got ∷ sent_line me serial (shows (state_after a to))

  abbrev passed_event : Event
  passed_event = record { who = me; serial = serial; act = act.Call phase }

  woken_is : (a : Manner) → woken_by me (replies a) ≡ to ∷ []
  woken_is manner.Plain = rw (other, same_self me) refl
  woken_is manner.Joined = rw other refl
  woken_is manner.Reply = rw other refl

  woken_all : (P : ReplyLine → Type 0) (a : Manner) → P got → AllByRecursion (λ line. same_id line.id me ≡ false → P line) (replies a)
  woken_all P manner.Plain p = ((λ _. p), ((λ f. no_other me me refl f), tt))
  woken_all P manner.Joined p = ((λ _. p), tt)
  woken_all P manner.Reply p = ((λ _. p), tt)

  own_told : (a : Manner) (old : State) → shows (state_after a to) ≡ status.Run → state_after a to ≡ state_told (reply_to (replies a) me serial) old
  own_told manner.Plain old r = sym (ap (λ (x : Option Reply). state_told x old) (reply_other me serial got (record { id = me; serial = serial; reply = reply.Sent } ∷ []) other ∙ reply_first me serial reply.Sent []))
  own_told manner.Joined old r = absurd cc
  own_told manner.Reply old r = absurd cc

  module _ (a : Manner) (zero : Bool) (takes : takes_from (shows (m.word to.number).state) me zero ≡ true) where
    abbrev left : Memory
    left = passing m me own (state_after a to) to message

    woken_word : left.word to.number ≡ on_with (m.word to.number) (state.Run (result4.Delivered me))
    woken_word = upd_same (upd m.word me.number (on_with own (state_after a to))) to.number (on_with (m.word to.number) (state.Run (result4.Delivered me)))

    own_word : left.word me.number ≡ on_with own (state_after a to)
    own_word = upd_other (upd m.word me.number (on_with own (state_after a to))) to.number (on_with (m.word to.number) (state.Run (result4.Delivered me))) me.number ne ∙ upd_same m.word me.number (on_with own (state_after a to))

    turns : (n : ℕ) → Turns m me n (left.word n)
    turns n =
        let s = state_after a to in
        upd_cases (Turns m me n) (upd m.word me.number (on_with own s)) to.number (on_with (m.word to.number) (state.Run (result4.Delivered me))) n
        (λ x. woken_turns m me to.number (state.Run (result4.Delivered me)) n refl (takes_not (shows (m.word to.number).state) me zero takes) x)
        (λ _. upd_cases (Turns m me n) m.word me.number (on_with own s) n (λ x. caller_turns m me own s n call.word call.on x) (λ _. inl refl))

    mail_is : left.mail to.number ≡ message
    mail_is = upd_same m.mail to.number message

    mails : (n : ℕ) → list_any (λ line. eqb line.id.number n && not (same_id line.id me)) (replies a) ≡ false → left.mail n ≡ m.mail n
    mails n none =
        let first : (eqb to.number n && not (same_id to me)) ≡ false = (or_parts _ _ none).0 in
        upd_other m.mail to.number message n (λ x. false≢true (sym first ∙ rw (eq-eqb to.number n (sym x), other) refl))

    -- the receiver was on
    pub passed_on_left : (m.word to.number).on ≡ true → SameThreads m left → Leaves passed_event outcome.Passed (replies a) m left
    passed_on_left was t =
        let none : pushed_by m me outcome.Passed (replies a) ≡ [] = rw (woken_is a, was) refl in
        leaves_from passed_event outcome.Passed (replies a) m left t turns
        (woken_all (IsWoken m left) a (record { word = woken_word; mail = mail_is }))
        (λ r. ap (λ (w : StateWord). w.state) own_word ∙ own_told a (m.word me.number).state (sym (ap (λ (w : StateWord). shows w.state) own_word) ∙ r))
        mails
        (λ n _. refl)
        (lists_kept m left (pushed_by m me outcome.Passed (replies a)) (all_stay m left good.words.ready t) refl none)
        refl

    -- .. or is pushed
    pub passed_off_left : (m.word to.number).on ≡ false → SameThreads m (pushed left to (m.word to.number).priority) → Leaves passed_event outcome.Passed (replies a) m (pushed left to (m.word to.number).priority)
    passed_off_left was t =
        let p = (m.word to.number).priority in
        let m' = pushed left to p in
        let one : pushed_by m me outcome.Passed (replies a) ≡ to ∷ [] = rw (woken_is a, was) refl in
        leaves_from passed_event outcome.Passed (replies a) m m' t turns
        (woken_all (IsWoken m m') a (record { word = woken_word; mail = mail_is }))
        (λ r. ap (λ (w : StateWord). w.state) own_word ∙ own_told a (m.word me.number).state (sym (ap (λ (w : StateWord). shows w.state) own_word) ∙ r))
        mails
        (λ n _. refl)
        (lists_pushed m m' (pushed_by m me outcome.Passed (replies a)) to p (all_stay m m' good.words.ready t) good.words.ready.count refl one (ap (λ (w : StateWord). w.priority) woken_word) (good.words.words to.number).priority)
        refl
