-- The rows of a send, as a memory shows them.
use Rattle.std.proofs.Common.{◌≡◌, ◌≢◌, ℕ, Bool, true, false, ◌&&◌, eqb, [], ◌∷◌, ◌++◌, refl, sym, ap, ◌∙◌, Some, inl, inr}
use Rattle.std.proofs.lemmas.Bool.{false≢true, and_parts, eqb-true, eq-eqb, ne_eqb, cases_eq}
use Rattle.std.proofs.lemmas.List.{append-nil, append_assoc}
use Rattle.k_ids.specs.declared.threads.ThreadId.{ThreadId}
use Rattle.k_ids.specs.declared.threads.Message.{Message}
use Rattle.k_ids.specs.declared.threads.Status.{Status}
use Rattle.k_ids.specs.declared.threads.Status.TheVariants as status
use Rattle.k_ids.specs.declared.calls.Phase.{Phase}
use Rattle.k_ids.specs.declared.calls.Phase.TheVariants as phase
use Rattle.k_ids.specs.declared.calls.Outcome.{Outcome}
use Rattle.k_ids.specs.declared.calls.Outcome.TheVariants as outcome
use Rattle.k_ids.specs.declared.calls.Reply.TheVariants as reply
use Rattle.k_ids.specs.declared.state_word.StateWord.{StateWord}
use Rattle.k_senders.specs.Queue.{Queue}
use Rattle.k_locks.specs.Shown.{shows, found_in, is_present_in}
use Rattle.k_model.specs.State.{KernelState, Place, answered, found_of, is_present, same_id, takes_from, with_place, with_status}
use Rattle.k_model.specs.Step.{acted, made, outcome_of, passed, queued, send}
use Rattle.k_model.proofs.Maps.{upd_other}
use Rattle.k_shown.specs.Memory.{Memory, Shows, waiting, with_queue, with_word}
use Rattle.k_shown.specs.Rows.{Alike, Answers, Gives, IsIn, IsWordOf, Sending, call_of, called_by, next_serial, sending_of, sent_line, told}
use Rattle.k_shown.proofs.Shown.{shows_answered, shows_called, shows_queue, shows_status, shows_word}
use Rattle.k_shown.proofs.Alike.{answers, found_is, may_call, sent_replies, shows_alike, shows_sent, there_is}

-- the rows of a send
module _ (k : KernelState) (me : ThreadId) (serial : ℕ) (to : ThreadId) (message : Message) (zero joined : Bool) (after : Status) where
  send_own : same_id me to ≡ true → send k me serial to message zero joined after ≡ (answered k me serial reply.Own, outcome.Own)
  unfolding send
  send_own e = rw e refl

  send_absent : same_id me to ≡ false → is_present k to ≡ false → send k me serial to message zero joined after ≡ (answered k me serial (reply.Absent (found_of k to.number)), outcome.Absent (found_of k to.number))
  unfolding send
  send_absent e p = rw (e, p) refl

  send_passes : same_id me to ≡ false → is_present k to ≡ true → takes_from (k.place to.number).status me zero ≡ true → send k me serial to message zero joined after ≡ (passed k me serial to message after, outcome.Passed)
  unfolding send
  send_passes e p r = rw (e, p, r) refl

  send_busy : same_id me to ≡ false → is_present k to ≡ true → takes_from (k.place to.number).status me zero ≡ false → zero ≡ true → send k me serial to message zero joined after ≡ (answered k me serial (reply.Busy (found_of k to.number)), outcome.Busy (found_of k to.number))
  unfolding send
  send_busy e p r z = rw (e, p, r, z) refl

  send_waits : same_id me to ≡ false → is_present k to ≡ true → takes_from (k.place to.number).status me zero ≡ false → zero ≡ false → send k me serial to message zero joined after ≡ (queued k me to message joined, outcome.Waits)
  unfolding send
  send_waits e p r z = rw (e, p, r, z) refl

pub same_turned : (a b : ThreadId) → same_id a b ≡ same_id b a
same_turned a b = λ d. eqb_turned a.number b.number d && eqb_turned a.version b.version d
  where
    eqb_turned : (x y : ℕ) → eqb x y ≡ eqb y x
    eqb_turned x y = elim (cases_eq x y) [ inl e ↦ eq-eqb x y e ∙ sym (eq-eqb y x (sym e)) | inr ne ↦ ne_eqb x y ne ∙ sym (ne_eqb y x (λ e. ne (sym e))) ]

-- a call and a reply are sends of the specification
made_is : (k : KernelState) (me : ThreadId) (serial : ℕ) (p : Phase) (s : Sending) → sending_of p ≡ Some s → made k me serial p ≡ send k me serial s.to s.message s.zero s.joined s.after
unfolding made
made_is k me serial (phase.Send to message zero joined) s e = ap (λ (x : Sending). send k me serial x.to x.message x.zero x.joined x.after) (the_same _ s e)
  where
    the_same : (a b : Sending) → Some a ≡ Some b → a ≡ b
    the_same a b q = cc
made_is k me serial (phase.Reply to message zero) s e = ap (λ (x : Sending). send k me serial x.to x.message x.zero x.joined x.after) (the_same _ s e)
  where
    the_same : (a b : Sending) → Some a ≡ Some b → a ≡ b
    the_same a b q = cc
made_is k me serial (phase.Receive from zero) s e = absurd cc
made_is k me serial (phase.Create program priority) s e = absurd cc
made_is k me serial (phase.Destroy who) s e = absurd cc
made_is k me serial phase.End s e = absurd cc

pub passed_replies : (k : KernelState) (me : ThreadId) (serial : ℕ) (to : ThreadId) (message : Message) (after : Status) → (passed k me serial to message after).replies ≡ k.replies ++ (told to (k.place to.number).serial (reply.Got me message) ∷ sent_line me serial after)
unfolding passed
passed_replies k me serial to message after =
    sent_replies (answered (with_status k to.number status.Run) to (k.place to.number).serial (reply.Got me message)) me serial after
    ∙ append_assoc k.replies (told to (k.place to.number).serial (reply.Got me message) ∷ []) (sent_line me serial after)

pub queued_replies : (k : KernelState) (me to : ThreadId) (message : Message) (joined : Bool) → (queued k me to message joined).replies ≡ k.replies ++ []
unfolding queued
queued_replies k me to message joined = sym (append-nil k.replies)

-- the message passes: the receiver's word, and then the sender's
shows_passed : (m : Memory) (k : KernelState) (me : ThreadId) (serial : ℕ) (to : ThreadId) (message : Message) (after : Status) (w v : StateWord) → me.number ≢ to.number → Shows m k → (m.word me.number).version ≡ me.version → (m.word to.number).version ≡ to.version → IsWordOf me after false w → IsWordOf to status.Run false v → Shows (with_word (with_word m to.number v) me.number w) (passed k me serial to message after)
unfolding passed
shows_passed m k me serial to message after w v ne h mine his iw iv =
    let m1 = with_word m to.number v in
    let h1 = shows_answered m1 _ to (k.place to.number).serial (reply.Got me message) (shows_status m k to.number v status.Run (iv.version ∙ sym his) iv.status iv.joined h) in
    let there : (m1.word me.number).version ≡ me.version = ap (λ (x : StateWord). x.version) (upd_other m.word to.number v me.number ne) ∙ mine in
    shows_sent m1 _ me serial after w (iw.version ∙ sym there) iw.status iw.joined h1

-- the caller waits: its word, and then its partner's queue
shows_queued : (m : Memory) (k : KernelState) (me to : ThreadId) (message : Message) (joined : Bool) (w : StateWord) (q : Queue) → Shows m k → (m.word me.number).version ≡ me.version → IsWordOf me (status.Sending to) joined w → waiting q ≡ waiting (m.queue to.number) ++ (me, message) ∷ [] → Shows (with_queue (with_word m me.number w) to.number q) (queued k me to message joined)
unfolding queued
shows_queued m k me to message joined w q h mine iw longer =
    let p : Place = record (k.place me.number) { status = status.Sending to; joined = joined } in
    let h1 = shows_word m k me.number w p (record { version = h.version me.number ∙ mine ∙ sym iw.version; status = sym iw.status; joined = sym iw.joined; waiting = h.waiting me.number }) h in
    let k1 = with_place k me.number p in
    let m1 = with_word m me.number w in
    shows_queue m1 k1 to.number q (record (k1.place to.number) { waiting = (k1.place to.number).waiting ++ (me, message) ∷ [] })
    (record { version = h1.version to.number; status = h1.status to.number; joined = h1.joined to.number; waiting = ap (λ ws. ws ++ (me, message) ∷ []) (h1.waiting to.number) ∙ sym longer }) h1

-- a running thread and another that is there
pub apart_from : (m : Memory) (a b : ThreadId) → (m.word a.number).version ≡ a.version → (m.word b.number).version ≡ b.version → same_id a b ≡ false → a.number ≢ b.number
apart_from m a b va vb ne e =
    let v : a.version ≡ b.version = sym va ∙ ap (λ (j : ℕ). (m.word j).version) e ∙ vb in
    false≢true (sym ne ∙ rw (eq-eqb a.number b.number e, eq-eqb a.version b.version v) refl)

module _ (m m' : Memory) (k : KernelState) (me : ThreadId) (p : Phase) (s : Sending) (h : Shows m k) (runs : IsIn m me status.Run) (is : sending_of p ≡ Some s) where
  h1 : Shows m (called_by k me)
  h1 = shows_called m k me (next_serial k me) h

  -- the row of the call
  row_is : (r : KernelState × Outcome) → send (called_by k me) me (next_serial k me) s.to s.message s.zero s.joined s.after ≡ r → outcome_of k (call_of k me p) ≡ r
  unfolding acted
  row_is r row = made_is (called_by k me) me (next_serial k me) p s is ∙ row

  found_there : found_of (called_by k me) s.to.number ≡ found_in s.to.number (m.word s.to.number)
  found_there = found_is m (called_by k me) h1 s.to.number

  takes_is : takes_from ((called_by k me).place s.to.number).status me s.zero ≡ takes_from (shows (m.word s.to.number).state) me s.zero
  takes_is = ap (λ (x : Status). takes_from x me s.zero) (h1.status s.to.number)

  pub own_row : same_id s.to me ≡ true → Alike m m' → Answers k me p outcome.Own reply.Own m'
  own_row own a =
      answers m k h m' me p outcome.Own reply.Own runs a
      (row_is _ (send_own (called_by k me) me (next_serial k me) s.to s.message s.zero s.joined s.after (same_turned me s.to ∙ own)))

  module _ (other : same_id s.to me ≡ false) where
    apart_ids : same_id me s.to ≡ false
    apart_ids = same_turned me s.to ∙ other

    pub absent_row : is_present_in (m.word s.to.number) s.to ≡ false → Alike m m' → Answers k me p (outcome.Absent (found_in s.to.number (m.word s.to.number))) (reply.Absent (found_in s.to.number (m.word s.to.number))) m'
    absent_row gone a =
        answers m k h m' me p _ _ runs a
        (row_is _ (rw (← found_there) (send_absent (called_by k me) me (next_serial k me) s.to s.message s.zero s.joined s.after apart_ids (there_is m (called_by k me) h1 s.to ∙ gone))))

    module _ (here : is_present_in (m.word s.to.number) s.to ≡ true) where
      there : is_present (called_by k me) s.to ≡ true
      there = there_is m (called_by k me) h1 s.to ∙ here

      version_there : (m.word s.to.number).version ≡ s.to.version
      version_there = eqb-true _ _ (and_parts _ _ here).0

      apart : me.number ≢ s.to.number
      apart = apart_from m me s.to runs.version version_there apart_ids

      pub busy_row : takes_from (shows (m.word s.to.number).state) me s.zero ≡ false → s.zero ≡ true → Alike m m' → Answers k me p (outcome.Busy (found_in s.to.number (m.word s.to.number))) (reply.Busy (found_in s.to.number (m.word s.to.number))) m'
      busy_row takes zero a =
          answers m k h m' me p _ _ runs a
          (row_is _ (rw (← found_there) (send_busy (called_by k me) me (next_serial k me) s.to s.message s.zero s.joined s.after apart_ids there (takes_is ∙ takes) zero)))

      pub passes_row : takes_from (shows (m.word s.to.number).state) me s.zero ≡ true → (w v : StateWord) → IsWordOf me s.after false w → IsWordOf s.to status.Run false v → Alike (with_word (with_word m s.to.number v) me.number w) m' → Gives k (call_of k me p) outcome.Passed (passed (called_by k me) me (next_serial k me) s.to s.message s.after) (told s.to (k.place s.to.number).serial (reply.Got me s.message) ∷ sent_line me (next_serial k me) s.after) m'
      passes_row takes w v iw iv a =
          let k1 = called_by k me in
          let serial = next_serial k me in
          let last : (k1.place s.to.number).serial ≡ (k.place s.to.number).serial = ap (λ (q : Place). q.serial) (upd_other k.place me.number (record (k.place me.number) { serial = serial }) s.to.number (λ e. apart (sym e))) in
          record {
            enabled = may_call m k h me p runs;
            makes = row_is _ (send_passes k1 me serial s.to s.message s.zero s.joined s.after apart_ids there (takes_is ∙ takes));
            replies = passed_replies k1 me serial s.to s.message s.after ∙ ap (λ (n : ℕ). k.replies ++ (told s.to n (reply.Got me s.message) ∷ sent_line me serial s.after)) last;
            shows = shows_alike _ m' _ (shows_passed m k1 me serial s.to s.message s.after w v apart h1 runs.version version_there iw iv) a;
          }

      pub waits_row : takes_from (shows (m.word s.to.number).state) me s.zero ≡ false → s.zero ≡ false → (w : StateWord) (q : Queue) → IsWordOf me (status.Sending s.to) s.joined w → waiting q ≡ waiting (m.queue s.to.number) ++ (me, s.message) ∷ [] → Alike (with_queue (with_word m me.number w) s.to.number q) m' → Gives k (call_of k me p) outcome.Waits (queued (called_by k me) me s.to s.message s.joined) [] m'
      waits_row takes long w q iw longer a =
          let k1 = called_by k me in
          record {
            enabled = may_call m k h me p runs;
            makes = row_is _ (send_waits k1 me (next_serial k me) s.to s.message s.zero s.joined s.after apart_ids there (takes_is ∙ takes) long);
            replies = queued_replies k1 me s.to s.message s.joined;
            shows = shows_alike _ m' _ (shows_queued m k1 me s.to s.message s.joined w q h1 runs.version iw longer) a;
          }
