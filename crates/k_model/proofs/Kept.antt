-- An event of message passing keeps versions, serials and settled statuses, but for its caller's.
use Rattle.std.proofs.Common.{◌≡◌, ◌≢◌, ℕ, ◌<◌, Bool, true, false, not, [], ◌∷◌, ◌++◌, length, refl, sym, ap, ◌∙◌, remove, Option, Some, None}
use Rattle.std.proofs.lemmas.Bool.{and_parts, false≢true, cond_both}
use Rattle.std.proofs.lemmas.List.Quantifiers.{position-Some}
use Rattle.k_lists.proofs.All.{all_at}
use Rattle.k_ids.specs.declared.threads.ThreadId.{ThreadId}
use Rattle.k_ids.specs.declared.threads.Message.{Message}
use Rattle.k_ids.specs.declared.threads.Status.{Status}
use Rattle.k_ids.specs.declared.threads.Status.TheVariants as status
use Rattle.k_ids.specs.declared.calls.Reply.{Reply}
use Rattle.k_ids.specs.declared.calls.Reply.TheVariants as reply
use Rattle.k_ids.specs.declared.calls.Outcome.{Outcome}
use Rattle.k_ids.specs.declared.calls.Phase.{Phase}
use Rattle.k_ids.specs.declared.calls.Phase.TheVariants as phase
use Rattle.k_ids.specs.declared.calls.Act.TheVariants as act
use Rattle.k_model.specs.State.{KernelState, Place, with_place, with_status, answered, same_id, is_run, is_present, takes_from, waits_for_absent}
use Rattle.k_model.specs.Step.{no_one, entry_at, called, without, sent, status_after, queued, passed, taken, send, receive, received, is_own, match_at, made, acted, may_act}
use Rattle.k_model.specs.Sound.{IsSound, IsQueued}
use Rattle.k_model.specs.Keeps.{is_settled, Keeps, is_message_phase}
use Rattle.k_model.proofs.Maps.{upd_same, upd_other, upd_cases}
use Rattle.k_model.proofs.Sound.{kept, run_from, picking_from, called-sound, with_status-sound, acts_alive, acts_free}

pub then_keeps : (k m n : KernelState) (t : ℕ) → Keeps k m t → Keeps m n t → Keeps k n t
then_keeps k m n t p q = record {
  version = q.version ∙ p.version;
  serial = q.serial ∙ p.serial;
  settled = λ h. q.settled (ap is_settled (p.settled h) ∙ h) ∙ p.settled h;
}

answered_keeps : (k : KernelState) (who : ThreadId) (serial : ℕ) (r : Reply) (t : ℕ) → Keeps k (answered k who serial r) t
answered_keeps k who serial r t = record { version = refl; serial = refl; settled = λ _. refl }

-- A number that isn't settled may change its status and its list.
place_keeps : (k : KernelState) (n : ℕ) (p : Place) (t : ℕ) → p.version ≡ (k.place n).version → p.serial ≡ (k.place n).serial → (is_settled (k.place n).status ≡ true → p.status ≡ (k.place n).status) → Keeps k (with_place k n p) t
place_keeps k n p t ev es free = record {
  version = kept (λ q. q.version) k n p ev t;
  serial = kept (λ q. q.serial) k n p es t;
  settled = upd_cases (λ q. is_settled (k.place t).status ≡ true → q.status ≡ (k.place t).status) k.place n p t
      (λ e h. free (sym (ap (λ (j : ℕ). is_settled (k.place j).status) e) ∙ h) ∙ sym (ap (λ (j : ℕ). (k.place j).status) e))
      (λ _ _. refl);
}

status_keeps : (k : KernelState) (n : ℕ) (st : Status) (t : ℕ) → is_settled (k.place n).status ≡ false → Keeps k (with_status k n st) t
status_keeps k n st t free = place_keeps k n (record (k.place n) { status = st; joined = false }) t refl refl (λ h. absurd (false≢true (sym free ∙ h)))

sent_keeps : (k : KernelState) (who : ThreadId) (serial : ℕ) (after : Status) (t : ℕ) → is_settled (k.place who.number).status ≡ false → Keeps k (sent k who serial after) t
sent_keeps k who serial after t free =
    let moved = status_keeps k who.number after t free in
    cond_both (is_run after) _ _ (λ (r : KernelState). Keeps k r t)
    (λ _. then_keeps k (with_status k who.number after) (answered (with_status k who.number after) who serial reply.Sent) t moved (answered_keeps _ who serial reply.Sent t))
    (λ _. moved)

taker_free : (st : Status) (who : ThreadId) (zero : Bool) → takes_from st who zero ≡ true → is_settled st ≡ false
taker_free status.Dead who zero h = absurd (false≢true h)
taker_free status.Run who zero h = absurd (false≢true h)
taker_free (status.Sending to) who zero h = absurd (false≢true h)
taker_free (status.Receiving from) who zero h = refl
taker_free status.Picking who zero h = refl
taker_free status.Ended who zero h = absurd (false≢true h)

module _ (k : KernelState) (me : ThreadId) (serial : ℕ) (run : (k.place me.number).status ≡ status.Run) (t : ℕ) where
  run_free : is_settled (k.place me.number).status ≡ false
  run_free = ap is_settled run

  passed_keeps : (to : ThreadId) (message : Message) (zero : Bool) (after : Status) → takes_from (k.place to.number).status me zero ≡ true → Keeps k (passed k me serial to message after) t
  unfolding passed
  passed_keeps to message zero after r =
      let woken = with_status k to.number status.Run in
      let told = answered woken to (k.place to.number).serial (reply.Got me message) in
      let still : (woken.place me.number).status ≡ status.Run = upd_cases (λ q. q.status ≡ status.Run) k.place to.number (record (k.place to.number) { status = status.Run; joined = false }) me.number (λ _. refl) (λ _. run) in
      then_keeps k told (sent told me serial after) t
      (then_keeps k woken told t (status_keeps k to.number status.Run t (taker_free (k.place to.number).status me zero r)) (answered_keeps woken to (k.place to.number).serial (reply.Got me message) t))
      (sent_keeps told me serial after t (ap is_settled still))

  queued_keeps : (to : ThreadId) (message : Message) (joined : Bool) → Keeps k (queued k me to message joined) t
  unfolding queued
  queued_keeps to message joined =
      let p = record (k.place me.number) { status = status.Sending to; joined = joined } in
      let m = with_place k me.number p in
      let q = record (m.place to.number) { waiting = (m.place to.number).waiting ++ (me, message) ∷ [] } in
      then_keeps k m (with_place m to.number q) t
      (place_keeps k me.number p t refl refl (λ h. absurd (false≢true (sym run_free ∙ h))))
      (place_keeps m to.number q t refl refl (λ _. refl))

  send_keeps : (to : ThreadId) (message : Message) (zero joined : Bool) (after : Status) → Keeps k (send k me serial to message zero joined after).0 t
  unfolding send
  send_keeps to message zero joined after =
      cond_both (same_id me to) _ _ (λ (r : KernelState × Outcome). Keeps k r.0 t) (λ _. answered_keeps k me serial _ t)
      (λ _. cond_both (not (is_present k to)) _ _ (λ (r : KernelState × Outcome). Keeps k r.0 t) (λ _. answered_keeps k me serial _ t)
      (λ _. cond_both (takes_from (k.place to.number).status me zero) _ _ (λ (r : KernelState × Outcome). Keeps k r.0 t) (λ r. passed_keeps to message zero after r)
      (λ _. cond_both zero _ _ (λ (r : KernelState × Outcome). Keeps k r.0 t) (λ _. answered_keeps k me serial _ t) (λ _. queued_keeps to message joined))))

  taken_keeps : (at : ℕ) → at < length (k.place me.number).waiting → IsSound k → Keeps k (taken k me serial at) t
  unfolding taken
  taken_keeps at ai s =
      let w = entry_at k me.number at in
      let p = record (k.place me.number) { waiting = remove (k.place me.number).waiting at } in
      let m = without k me.number at in
      let q = all_at (IsQueued k me.number) (k.place me.number).waiting at no_one (s.queued me.number) ai in
      let got = answered m me serial (reply.Got w.0 w.1) in
      let after = status_after (k.place w.0.number).joined me in
      let free : is_settled (got.place w.0.number).status ≡ false = ap is_settled (kept (λ r. r.status) k me.number p refl w.0.number ∙ q.status) in
      then_keeps k got (sent got w.0 (k.place w.0.number).serial after) t
      (then_keeps k m got t (place_keeps k me.number p t refl refl (λ _. refl)) (answered_keeps m me serial (reply.Got w.0 w.1) t))
      (sent_keeps got w.0 (k.place w.0.number).serial after t free)

  received_keeps : (from : Option ThreadId) (zero : Bool) (at : Option ℕ) → match_at k me from ≡ at → IsSound k → Keeps k (received k me serial from zero at).0 t
  unfolding received
  received_keeps from zero (Some at) e s = taken_keeps at (position-Some _ (k.place me.number).waiting at no_one e).0 s
  received_keeps from true None e s = answered_keeps k me serial _ t
  received_keeps from false None e s = status_keeps k me.number (status.Receiving from) t run_free

  receive_keeps : (from : Option ThreadId) (zero : Bool) → IsSound k → Keeps k (receive k me serial from zero).0 t
  unfolding receive
  receive_keeps from zero s =
      cond_both (is_own from me) _ _ (λ (r : KernelState × Outcome). Keeps k r.0 t) (λ _. answered_keeps k me serial _ t) (λ _. received_keeps from zero (match_at k me from) refl s)

  made_keeps : (p : Phase) → is_message_phase p ≡ true → IsSound k → Keeps k (made k me serial p).0 t
  unfolding made
  made_keeps (phase.Send to message zero joined) plain s = send_keeps to message zero joined (status_after joined to)
  made_keeps (phase.Reply to message zero) plain s = send_keeps to message zero false status.Picking
  made_keeps (phase.Receive from zero) plain s = receive_keeps from zero s
  made_keeps (phase.Create program priority) plain s = absurd (false≢true plain)
  made_keeps (phase.Destroy who) plain s = absurd (false≢true plain)
  made_keeps phase.End plain s = status_keeps k me.number status.Ended t run_free

waiting_free : (k : KernelState) (st : Status) → waits_for_absent k st ≡ true → is_settled st ≡ false
waiting_free k status.Dead h = absurd (false≢true h)
waiting_free k status.Run h = absurd (false≢true h)
waiting_free k (status.Sending to) h = refl
waiting_free k (status.Receiving from) h = refl
waiting_free k status.Picking h = absurd (false≢true h)
waiting_free k status.Ended h = absurd (false≢true h)

-- The serial that the caller's number shows once the event is made.
called_place : (k : KernelState) (who : ThreadId) (serial : ℕ) (t : ℕ) → t ≢ who.number → Keeps k (called k who serial) t
called_place k who serial t ne =
    let q = record (k.place who.number) { serial = serial } in
    record {
      version = ap (λ r. r.version) (upd_other k.place who.number q t ne);
      serial = ap (λ r. r.serial) (upd_other k.place who.number q t ne);
      settled = λ _. ap (λ r. r.status) (upd_other k.place who.number q t ne);
    }

called_run : (k : KernelState) (who : ThreadId) (serial : ℕ) (p : Phase) → may_act k who serial (act.Call p) ≡ true → ((called k who serial).place who.number).status ≡ status.Run
called_run k who serial p may =
    ap (λ r. r.status) (upd_same k.place who.number (record (k.place who.number) { serial = serial })) ∙ run_from (k.place who.number).status (and_parts _ _ (and_parts _ _ may).0).1

-- Every number but the caller's, in a call.
pub call_keeps_others : (k : KernelState) (who : ThreadId) (serial : ℕ) (p : Phase) (t : ℕ) → may_act k who serial (act.Call p) ≡ true → is_message_phase p ≡ true → IsSound k → t ≢ who.number → Keeps k (acted k who serial (act.Call p)).0 t
unfolding acted
call_keeps_others k who serial p t may plain s ne =
    let m = called k who serial in
    then_keeps k m (made m who serial p).0 t (called_place k who serial t ne)
    (made_keeps m who serial (called_run k who serial p may) t p plain (called-sound k who serial s))

-- The caller's number has its thread, which has taken its serial.
pub call_keeps_caller : (k : KernelState) (who : ThreadId) (serial : ℕ) (p : Phase) → may_act k who serial (act.Call p) ≡ true → is_message_phase p ≡ true → IsSound k → (((acted k who serial (act.Call p)).0.place who.number).version ≡ (k.place who.number).version) × (((acted k who serial (act.Call p)).0.place who.number).serial ≡ serial)
unfolding acted
call_keeps_caller k who serial p may plain s =
    let q = record (k.place who.number) { serial = serial } in
    let m = called k who serial in
    let row = made_keeps m who serial (called_run k who serial p may) who.number p plain (called-sound k who serial s) in
    (row.version ∙ ap (λ r. r.version) (upd_same k.place who.number q), row.serial ∙ ap (λ r. r.serial) (upd_same k.place who.number q))

-- A thread that ends is settled.
pub end_settles : (k : KernelState) (who : ThreadId) (serial : ℕ) → ((acted k who serial (act.Call phase.End)).0.place who.number).status ≡ status.Ended
unfolding acted made
end_settles k who serial =
    let m = called k who serial in
    ap (λ r. r.status) (upd_same m.place who.number (record (m.place who.number) { status = status.Ended; joined = false }))

-- Every number, in an event that isn't a call.
pub gone_keeps : (k : KernelState) (who : ThreadId) (serial : ℕ) (t : ℕ) → may_act k who serial act.Gone ≡ true → Keeps k (acted k who serial act.Gone).0 t
unfolding acted
gone_keeps k who serial t may =
    let m = with_status k who.number status.Run in
    let free = waiting_free k (k.place who.number).status (and_parts _ _ (and_parts _ _ may).0).1 in
    then_keeps k m (answered m who serial reply.Gone) t (status_keeps k who.number status.Run t free) (answered_keeps m who serial reply.Gone t)

pub pick_keeps : (k : KernelState) (who : ThreadId) (serial : ℕ) (t : ℕ) → may_act k who serial act.Pick ≡ true → IsSound k → Keeps k (acted k who serial act.Pick).0 t
unfolding acted
pick_keeps k who serial t may s =
    let m = with_status k who.number status.Run in
    let free = ap is_settled (picking_from (k.place who.number).status (and_parts _ _ (and_parts _ _ may).0).1) in
    let sound = with_status-sound k who.number status.Run (λ e. cc) (acts_alive k who serial act.Pick may).1 (acts_free k who serial act.Pick may s) s in
    then_keeps k m (receive m who serial None false).0 t (status_keeps k who.number status.Run t free)
    (receive_keeps m who serial (ap (λ r. r.status) (upd_same k.place who.number (record (k.place who.number) { status = status.Run; joined = false }))) t None false sound)
