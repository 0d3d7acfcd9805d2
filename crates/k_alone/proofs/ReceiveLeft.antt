-- What a receive, or a pick, leaves of words, mails and lists.
use Rattle.std.proofs.Common.{◌≡◌, ◌≢◌, ℕ, Bool, true, false, ◌||◌, List, [], ◌∷◌, refl, sym, ap, ◌∙◌, subst, Option, Some, inl, inr}
use Rattle.std.proofs.lemmas.Bool.{false≢true, ne_eqb}
use Rattle.std.specs.List.{AllByRecursion}
use Rattle.k_ids.specs.declared.threads.ThreadId.{ThreadId}
use Rattle.k_ids.specs.declared.threads.Message.{Message}
use Rattle.k_ids.specs.declared.threads.Status.TheVariants as status
use Rattle.k_ids.specs.declared.calls.Phase.{Phase}
use Rattle.k_ids.specs.declared.calls.Act.{Act}
use Rattle.k_ids.specs.declared.calls.Act.TheVariants as act
use Rattle.k_ids.specs.declared.calls.Outcome.{Outcome}
use Rattle.k_ids.specs.declared.calls.Outcome.TheVariants as outcome
use Rattle.k_ids.specs.declared.calls.Reply.{Reply}
use Rattle.k_ids.specs.declared.calls.Reply.TheVariants as reply
use Rattle.k_ids.specs.declared.histories.Event.{Event}
use Rattle.k_ids.specs.declared.histories.ReplyLine.{ReplyLine}
use Rattle.k_ids.specs.declared.state_word.Result4.TheVariants as result4
use Rattle.k_ids.specs.declared.state_word.State.{State}
use Rattle.k_ids.specs.declared.state_word.State.TheVariants as state
use Rattle.k_ids.specs.declared.state_word.StateWord.{StateWord}
use Rattle.k_senders.specs.declared.entries.SenderEntry.{SenderEntry}
use Rattle.k_senders.specs.Entries.{number_of}
use Rattle.k_senders.specs.Queue.{Queue}
use Rattle.k_locks.specs.Shown.{shows}
use Rattle.k_senders.specs.Entries.{message_of, sender_of}
use Rattle.k_ipc.specs.Words.{is_joined_to}
use Rattle.k_model.specs.Answered.{reply_to}
use Rattle.k_model.specs.Maps.{upd}
use Rattle.k_model.specs.State.{is_run, same_id}
use Rattle.k_model.specs.Step.{status_after}
use Rattle.k_model.proofs.Maps.{upd_cases, upd_same, upd_other}
use Rattle.k_shown.specs.Memory.{Memory, waiting, with_word}
use Rattle.k_shown.specs.Leaves.{IsWoken, Leaves, moved_word, pushed_by, state_told, state_with}
use Rattle.k_shown.specs.Sound.{IsSoundMemory}
use Rattle.k_shown.proofs.Kept.{SameThreads, pushed}
use Rattle.k_shown.proofs.Left.{Turns, all_stay, caller_turns, leaves_from, lists_kept, lists_pushed, mine_pushed, no_other, moved_in, shorter, woken_turns}
use Rattle.k_alone.proofs.Made.{reply_first}
use Rattle.k_shown.specs.Rows.{sent_line}
use Rattle.k_alone.proofs.Receives.{receiving, taken_word, without_entry}
use Rattle.k_shown.specs.Words.{on_with}
use Rattle.k_shown.proofs.Statuses.{receives_runs, same_self}

-- that of a sender whose message is taken
pub taken_turns : (m : Memory) (who me : ThreadId) (t : ℕ) (j : Bool) (n : ℕ) → (m.word t).state ≡ state.Sending me j → n ≡ t → Turns m who n (taken_word j me (m.word t))
taken_turns m who me t true n st e = inr (
  moved_in (state.Receiving (Some me)) (m.word t) refl ∙ ap (moved_word (state.Receiving (Some me))) (ap m.word (sym e)),
  inr (λ q. let one : status.Receiving (Some me) ≡ status.Sending me = q ∙ ap (λ (j : ℕ). shows (m.word j).state) e ∙ ap shows st in cc),
)
taken_turns m who me t false n st e = woken_turns m who t (state.Run result4.Sent) n refl (ap (λ (s : State). is_run (shows s)) st) e

pub or_joined : (s : State) (me : ThreadId) (j on : Bool) → s ≡ state.Sending me j → (is_joined_to s || on) ≡ (j || on)
or_joined s me j on e = ap (λ (x : State). is_joined_to x || on) e

module _ (m : Memory) (me : ThreadId) (own : StateWord) (serial : ℕ) (good : IsSoundMemory m) (is : m.word me.number ≡ own) (on : own.on ≡ true) where
  abbrev event_of : Act → Event
  event_of a = record { who = me; serial = serial; act = a }

  mine : (s : State) → (with_word m me.number (on_with own s)).word me.number ≡ on_with own s
  mine s = upd_same m.word me.number (on_with own s)

  turns : (s : State) (n : ℕ) → Turns m me n ((with_word m me.number (on_with own s)).word n)
  turns s n = upd_cases (Turns m me n) m.word me.number (on_with own s) n (λ x. caller_turns m me own s n is on x) (λ _. inl refl)

  -- The caller waits.
  pub waits_left : (a : Act) (from : Option ThreadId) → SameThreads m (receiving m me own from) → Leaves (event_of a) outcome.Waits [] m (receiving m me own from)
  waits_left a from t =
      let m' = receiving m me own from in
      let s = state.Receiving from in
      leaves_from (event_of a) outcome.Waits [] m m' t (turns s) tt
      (λ r. absurd (receives_runs from (sym (ap (λ (w : StateWord). shows w.state) (mine s)) ∙ r)))
      (λ n _. refl)
      (λ n _. refl)
      (lists_kept m m' [] (all_stay m m' good.words.ready t) refl refl)
      refl

  -- It is freed at once.
  pub gone_left : (phase : Phase) (from : Option ThreadId) → SameThreads m (with_word (receiving m me own from) me.number (on_with own (state.Run result4.Gone))) → Leaves (event_of (act.Call phase)) outcome.Waits (record { id = me; serial = serial; reply = reply.Gone } ∷ []) m (with_word (receiving m me own from) me.number (on_with own (state.Run result4.Gone)))
  gone_left phase from t =
      let w = on_with own (state.Run result4.Gone) in
      let m1 = receiving m me own from in
      let m' = with_word m1 me.number w in
      let lines : List ReplyLine = record { id = me; serial = serial; reply = reply.Gone } ∷ [] in
      leaves_from (event_of (act.Call phase)) outcome.Waits lines m m' t
      (λ n. upd_cases (Turns m me n) m1.word me.number w n (λ x. caller_turns m me own (state.Run result4.Gone) n is on x) (λ ne. inl (upd_other m.word me.number (on_with own (state.Receiving from)) n ne)))
      ((λ f. no_other me me refl f), tt)
      (λ _. ap (λ (x : StateWord). x.state) (upd_same m1.word me.number w) ∙ sym (ap (λ (r : Option Reply). state_told r (m.word me.number).state) (reply_first me serial reply.Gone [])))
      (λ n _. refl)
      (λ n _. refl)
      (lists_kept m m' (pushed_by m me outcome.Waits lines) (all_stay m m' good.words.ready t) refl (mine_pushed m me outcome.Waits lines (refl, tt) refl))
      refl

-- A MESSAGE IS TAKEN

module _ (m : Memory) (me : ThreadId) (serial : ℕ) (good : IsSoundMemory m) (e : SenderEntry) (j : Bool) (st : (m.word (number_of e)).state ≡ state.Sending me j) (ne : me.number ≢ number_of e) (b : Bool) (joined : b ≡ j) (sent_serial : ℕ) where
  abbrev got : ReplyLine
  got = record { id = me; serial = serial; reply = reply.Got (sender_of e) (message_of e) }

  abbrev sent : ReplyLine
  sent = record { id = sender_of e; serial = sent_serial; reply = reply.Sent }

  -- the receiver's line, and the sender's where its send wasn't joined
  abbrev pub replies : List ReplyLine
  replies = got ∷ sent_line (sender_of e) sent_serial (status_after b me)

  abbrev took : Outcome
  took = outcome.Took (sender_of e) (message_of e)

  other : same_id (sender_of e) me ≡ false
  other = rw (ne_eqb (number_of e) me.number (λ q. ne (sym q))) refl

  woken_all : (P : ReplyLine → Type 0) (c : Bool) → (c ≡ false → P sent) → AllByRecursion (λ line. same_id line.id me ≡ false → P line) (got ∷ sent_line (sender_of e) sent_serial (status_after c me))
  woken_all P true p = ((λ f. no_other me me refl f), tt)
  woken_all P false p = ((λ f. no_other me me refl f), ((λ _. p refl), tt))

  none_pushed : (c : Bool) → (c || (m.word (number_of e)).on) ≡ true → pushed_by m me took (got ∷ sent_line (sender_of e) sent_serial (status_after c me)) ≡ []
  none_pushed true h = rw (same_self me) refl
  none_pushed false h = rw (same_self me, other, h) refl

  one_pushed : (c : Bool) → c ≡ false → (m.word (number_of e)).on ≡ false → pushed_by m me took (got ∷ sent_line (sender_of e) sent_serial (status_after c me)) ≡ sender_of e ∷ []
  one_pushed true n h = absurd (false≢true (sym n))
  one_pushed false n h = rw (same_self me, other, h) refl

  queue_left : (n : ℕ) → waiting (upd m.queue me.number (without_entry (m.queue me.number) e) n) ≡ waiting (m.queue n) → upd m.queue me.number (without_entry (m.queue me.number) e) n ≡ m.queue n
  queue_left n = upd_cases (λ (x : Queue). waiting x ≡ waiting (m.queue n) → x ≡ m.queue n) m.queue me.number (without_entry (m.queue me.number) e) n
      (λ x h. shorter (m.queue me.number) (number_of e) (h ∙ ap (λ (i : ℕ). waiting (m.queue i)) x) ∙ ap m.queue (sym x))
      (λ _ _. refl)

  pub sender_turns : (n : ℕ) → Turns m me n (upd m.word (number_of e) (taken_word j me (m.word (number_of e))) n)
  sender_turns n = upd_cases (Turns m me n) m.word (number_of e) (taken_word j me (m.word (number_of e))) n (λ x. taken_turns m me me (number_of e) j n st x) (λ _. inl refl)

  -- Once the words are told: `a` is a receive, or a pick.
  module _ (a : Act) (m' : Memory) (t : SameThreads m m') (turned : (n : ℕ) → Turns m me n (m'.word n)) (word : m'.word (number_of e) ≡ taken_word j me (m.word (number_of e))) (own : (m'.word me.number).state ≡ state_with a (Some (reply.Got (sender_of e) (message_of e))) (m.word me.number).state) (mails : m'.mail ≡ m.mail) (queues : m'.queue ≡ upd m.queue me.number (without_entry (m.queue me.number) e)) where
    abbrev event : Event
    event = record { who = me; serial = serial; act = a }

    woken_word : b ≡ false → IsWoken m m' sent
    woken_word f = record { word = word ∙ ap (λ (c : Bool). taken_word c me (m.word (number_of e))) (sym joined ∙ f); mail = ap (λ (g : ℕ → Message). g (number_of e)) mails }

    own_told : (m'.word me.number).state ≡ state_with a (reply_to replies me serial) (m.word me.number).state
    own_told = own ∙ sym (ap (λ (r : Option Reply). state_with a r (m.word me.number).state) (reply_first me serial (reply.Got (sender_of e) (message_of e)) (sent_line (sender_of e) sent_serial (status_after b me))))

    queues_left : (n : ℕ) → waiting (m'.queue n) ≡ waiting (m.queue n) → m'.queue n ≡ m.queue n
    queues_left n = subst (λ (f : ℕ → Queue). waiting (f n) ≡ waiting (m.queue n) → f n ≡ m.queue n) (sym queues) (queue_left n)

    -- the sender was on, or its send was joined
    pub taken_left : (j || (m.word (number_of e)).on) ≡ true → m'.ready ≡ m.ready → Leaves event took replies m m'
    taken_left stays same =
        leaves_from event took replies m m' t turned (woken_all (IsWoken m m') b woken_word) (λ _. own_told) (λ n _. ap (λ (g : ℕ → Message). g n) mails) queues_left
        (lists_kept m m' (pushed_by m me took replies) (all_stay m m' good.words.ready t) same (none_pushed b (ap (λ (c : Bool). c || (m.word (number_of e)).on) joined ∙ stays)))
        (ap (λ r. r.running) same)

    -- .. or it is pushed
    pub pushed_left : j ≡ false → (m.word (number_of e)).on ≡ false → m'.ready ≡ (pushed m (sender_of e) (m.word (number_of e)).priority).ready → Leaves event took replies m m'
    pushed_left plain off same =
        let p = (m.word (number_of e)).priority in
        let level : (m'.word (number_of e)).priority ≡ p = ap (λ (x : StateWord). x.priority) (word ∙ ap (λ (c : Bool). taken_word c me (m.word (number_of e))) plain) in
        leaves_from event took replies m m' t turned (woken_all (IsWoken m m') b woken_word) (λ _. own_told) (λ n _. ap (λ (g : ℕ → Message). g n) mails) queues_left
        (lists_pushed m m' (pushed_by m me took replies) (sender_of e) p (all_stay m m' good.words.ready t) good.words.ready.count same (one_pushed b (joined ∙ plain) off) level (good.words.words (number_of e)).priority)
        (ap (λ r. r.running) same)
