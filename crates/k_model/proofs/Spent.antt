-- Each event takes from what is still to come.
use Rattle.std.proofs.Common.{◌≡◌, ℕ, suc, ◌+◌, ◌*◌, ◌<◌, ◌≤◌, Bool, true, false, not, [], ◌∷◌, ◌++◌, length, refl, sym, ap, ◌∙◌, subst, arith, remove, inl, inr, Option, Some, None}
use Rattle.std.proofs.lemmas.Bool.{cases_lt, cases_eq, and_parts, eqb-true, false≢true, cond_both}
use Rattle.std.proofs.lemmas.List.Quantifiers.{position-Some}
use Rattle.k_lists.proofs.All.{all_at}
use Rattle.k_ids.specs.declared.threads.ThreadId.{ThreadId}
use Rattle.k_ids.specs.declared.threads.Message.{Message}
use Rattle.k_ids.specs.declared.threads.Status.{Status}
use Rattle.k_ids.specs.declared.threads.Status.TheVariants as status
use Rattle.k_ids.specs.declared.calls.Reply.TheVariants as reply
use Rattle.k_ids.specs.declared.calls.Outcome.{Outcome}
use Rattle.k_ids.specs.declared.calls.Phase.{Phase}
use Rattle.k_ids.specs.declared.calls.Phase.TheVariants as phase
use Rattle.k_ids.specs.declared.calls.Act.{Act}
use Rattle.k_ids.specs.declared.calls.Act.TheVariants as act
use Rattle.k_model.specs.Maps.{upd, lowest}
use Rattle.k_model.specs.State.{KernelState, Place, with_place, with_status, answered, same_id, is_run, is_present, takes_from, waits_for_absent}
use Rattle.k_model.specs.Step.{no_one, entry_at, called, without, sent, status_after, queued, passed, taken, send, receive, received, is_own, match_at, is_free, created, create, left_by, left_everywhere, killed, destroy, made, acted, may_act}
use Rattle.k_model.specs.Sound.{IsSound, IsQueued}
use Rattle.k_model.specs.Effort.{wait_of, effort_at, effort_below, effort, unlimited, waits, added_at, added_call, added}
use Rattle.k_model.proofs.Maps.{upd_same, upd_other}
use Rattle.k_model.proofs.Sound.{kept, called-sound, with_status-sound, acts_alive, acts_free, inside_from, picking_from}

module _ (limit : ℕ → ℕ) where
  effort_past : (f : ℕ → Place) (n : ℕ) (q : Place) (size : ℕ) → size ≤ n → effort_below limit (upd f n q) size ≡ effort_below limit f size
  effort_past f n q (suc m) l = rw (effort_past f n q m (omega (arith, l))) (rw (upd_other f n q m (omega (arith, l))) refl)
  effort_past f n q m l = refl

  effort_upd : (f : ℕ → Place) (n : ℕ) (q : Place) (size : ℕ) → n < size → effort_below limit (upd f n q) size + effort_at (limit n) (f n) ≡ effort_below limit f size + effort_at (limit n) q
  effort_upd f n q (suc m) l = elim (cases_eq n m) [
    | inl e ↦
        let below = effort_past f n q m (omega (arith, e)) in
        let here : upd f n q m ≡ q = ap (upd f n q) (sym e) ∙ upd_same f n q in
        rw (below, here) (subst (λ (j : ℕ). effort_below limit f m + effort_at (limit j) q + effort_at (limit n) (f n) ≡ effort_below limit f m + effort_at (limit j) (f j) + effort_at (limit n) q) e (omega arith))
    | inr ne ↦
        let below = effort_upd f n q m (omega (arith, l, ne)) in
        rw (upd_other f n q m (λ e. ne (sym e))) (omega (arith, below))
  ]
  effort_upd f n q m l = absurd (omega arith)

  -- One place changes, and takes at most c more.
  place_effort : (k : KernelState) (n : ℕ) (q : Place) (c : ℕ) → effort_at (limit n) q ≤ effort_at (limit n) (k.place n) + c → effort limit (with_place k n q) ≤ effort limit k + c
  place_effort k n q c h = elim (cases_lt n k.size) [
    | inl l ↦ omega (arith, effort_upd k.place n q k.size l, h)
    | inr l ↦ omega (arith, effort_past k.place n q k.size l)
  ]

  status_effort : (k : KernelState) (n : ℕ) (st : Status) (c : ℕ) → wait_of st ≤ wait_of (k.place n).status + c → effort limit (with_status k n st) ≤ effort limit k + c
  status_effort k n st c h = place_effort k n (record (k.place n) { status = st; joined = false }) c (omega (arith, h))

  sent_effort : (k : KernelState) (who : ThreadId) (serial : ℕ) (after : Status) (c : ℕ) → wait_of after ≤ wait_of (k.place who.number).status + c → effort limit (sent k who serial after) ≤ effort limit k + c
  sent_effort k who serial after c h =
      let moved = status_effort k who.number after c h in
      cond_both (is_run after) _ _ (λ (r : KernelState). effort limit r ≤ effort limit k + c) (λ _. moved) (λ _. moved)

  after_wait : (joined : Bool) (to : ThreadId) → wait_of (status_after joined to) ≤ 1
  after_wait true to = omega arith
  after_wait false to = omega arith

  passed_effort : (k : KernelState) (me : ThreadId) (serial : ℕ) (to : ThreadId) (message : Message) (after : Status) → wait_of after ≤ 1 → effort limit (passed k me serial to message after) ≤ effort limit k + 1
  unfolding passed
  passed_effort k me serial to message after h =
      let woken = with_status k to.number status.Run in
      let told = answered woken to (k.place to.number).serial (reply.Got me message) in
      omega (arith, status_effort k to.number status.Run 0 (omega arith), sent_effort told me serial after 1 (omega (arith, h)))

  queued_effort : (k : KernelState) (me to : ThreadId) (message : Message) (joined : Bool) → effort limit (queued k me to message joined) ≤ effort limit k + 1
  unfolding queued
  queued_effort k me to message joined =
      let p = record (k.place me.number) { status = status.Sending to; joined = joined } in
      let m = with_place k me.number p in
      let one = place_effort k me.number p 1 (omega arith) in
      let two = place_effort m to.number (record (m.place to.number) { waiting = (m.place to.number).waiting ++ (me, message) ∷ [] }) 0 (omega arith) in
      omega (arith, one, two)

  send_effort : (k : KernelState) (me : ThreadId) (serial : ℕ) (to : ThreadId) (message : Message) (zero joined : Bool) (after : Status) → wait_of after ≤ 1 → effort limit (send k me serial to message zero joined after).0 ≤ effort limit k + 1
  unfolding send
  send_effort k me serial to message zero joined after h =
      cond_both (same_id me to) _ _ (λ (r : KernelState × Outcome). effort limit r.0 ≤ effort limit k + 1) (λ _. omega arith)
      (λ _. cond_both (not (is_present k to)) _ _ (λ (r : KernelState × Outcome). effort limit r.0 ≤ effort limit k + 1) (λ _. omega arith)
      (λ _. cond_both (takes_from (k.place to.number).status me zero) _ _ (λ (r : KernelState × Outcome). effort limit r.0 ≤ effort limit k + 1) (λ _. passed_effort k me serial to message after h)
      (λ _. cond_both zero _ _ (λ (r : KernelState × Outcome). effort limit r.0 ≤ effort limit k + 1) (λ _. omega arith) (λ _. queued_effort k me to message joined))))

  -- The sender that is taken did wait, so nothing is added.
  taken_effort : (k : KernelState) (me : ThreadId) (serial at : ℕ) → at < length (k.place me.number).waiting → IsSound k → effort limit (taken k me serial at) ≤ effort limit k
  unfolding taken
  taken_effort k me serial at ai s =
      let w = entry_at k me.number at in
      let p = record (k.place me.number) { waiting = remove (k.place me.number).waiting at } in
      let m = without k me.number at in
      let got = answered m me serial (reply.Got w.0 w.1) in
      let after = status_after (k.place w.0.number).joined me in
      let q = all_at (IsQueued k me.number) (k.place me.number).waiting at no_one (s.queued me.number) ai in
      let waits : wait_of (got.place w.0.number).status ≡ 1 = ap wait_of (kept (λ r. r.status) k me.number p refl w.0.number ∙ q.status) in
      let one = place_effort k me.number p 0 (omega arith) in
      omega (arith, one, sent_effort got w.0 (k.place w.0.number).serial after 0 (omega (arith, waits, after_wait (k.place w.0.number).joined me)))

  received_effort : (k : KernelState) (me : ThreadId) (serial : ℕ) (from : Option ThreadId) (zero : Bool) (at : Option ℕ) → match_at k me from ≡ at → IsSound k → effort limit (received k me serial from zero at).0 ≤ effort limit k + wait_of (status.Receiving from)
  unfolding received
  received_effort k me serial from zero (Some at) e s = omega (arith, taken_effort k me serial at (position-Some _ (k.place me.number).waiting at no_one e).0 s)
  received_effort k me serial from true None e s = omega arith
  received_effort k me serial from false None e s = status_effort k me.number (status.Receiving from) (wait_of (status.Receiving from)) (omega arith)

  receive_effort : (k : KernelState) (me : ThreadId) (serial : ℕ) (from : Option ThreadId) (zero : Bool) → IsSound k → effort limit (receive k me serial from zero).0 ≤ effort limit k + wait_of (status.Receiving from)
  unfolding receive
  receive_effort k me serial from zero s =
      cond_both (is_own from me) _ _ (λ (r : KernelState × Outcome). effort limit r.0 ≤ effort limit k + wait_of (status.Receiving from)) (λ _. omega arith) (λ _. received_effort k me serial from zero (match_at k me from) refl s)

  receiving_wait : (from : Option ThreadId) → wait_of (status.Receiving from) ≤ 1
  receiving_wait None = omega arith
  receiving_wait (Some from) = omega arith

  created_effort : (k : KernelState) (me : ThreadId) (serial : ℕ) (at : Option ℕ) → effort limit (created k me serial at).0 ≤ effort limit k + added_at limit at
  unfolding created
  created_effort k me serial (Some n) = place_effort k n _ (2 * limit n) (omega arith)
  created_effort k me serial None = omega arith

  left_effort : (f : ℕ → Place) (who : ThreadId) (size : ℕ) → effort_below limit (λ n. left_by who (f n)) size ≡ effort_below limit f size
  left_effort f who (suc m) = rw (left_effort f who m) refl
  left_effort f who m = refl

  killed_effort : (k : KernelState) (who : ThreadId) → effort limit (killed k who) ≤ effort limit k
  unfolding killed
  killed_effort k who =
      let m = left_everywhere k who in
      omega (arith, left_effort k.place who k.size, place_effort m who.number (record (m.place who.number) { status = status.Dead; joined = false; waiting = [] }) 0 (omega arith))

  destroy_effort : (k : KernelState) (me : ThreadId) (serial : ℕ) (victim : ThreadId) → effort limit (destroy k me serial victim).0 ≤ effort limit k
  unfolding destroy
  destroy_effort k me serial victim =
      cond_both (same_id me victim) _ _ (λ (r : KernelState × Outcome). effort limit r.0 ≤ effort limit k) (λ _. omega arith)
      (λ _. cond_both (not (is_present k victim)) _ _ (λ (r : KernelState × Outcome). effort limit r.0 ≤ effort limit k) (λ _. omega arith) (λ _. killed_effort k victim))

  made_effort : (k : KernelState) (me : ThreadId) (serial : ℕ) (p : Phase) → IsSound k → effort limit (made k me serial p).0 ≤ effort limit k + 1 + added_call limit k p
  unfolding made create
  made_effort k me serial (phase.Send to message zero joined) s = omega (arith, send_effort k me serial to message zero joined (status_after joined to) (after_wait joined to))
  made_effort k me serial (phase.Reply to message zero) s = omega (arith, send_effort k me serial to message zero false status.Picking (omega arith))
  made_effort k me serial (phase.Receive from zero) s = omega (arith, receive_effort k me serial from zero s, receiving_wait from)
  made_effort k me serial (phase.Create program priority) s = omega (arith, created_effort k me serial (lowest (λ n. is_free (k.place n)) k.size))
  made_effort k me serial (phase.Destroy who) s = omega (arith, destroy_effort k me serial who)
  made_effort k me serial phase.End s = omega (arith, status_effort k me.number status.Ended 1 (omega arith))

  waiting_one : (k : KernelState) (st : Status) → waits_for_absent k st ≡ true → wait_of st ≡ 1
  waiting_one k status.Dead h = absurd (false≢true h)
  waiting_one k status.Run h = absurd (false≢true h)
  waiting_one k (status.Sending to) h = refl
  waiting_one k (status.Receiving None) h = absurd (false≢true h)
  waiting_one k (status.Receiving (Some from)) h = refl
  waiting_one k status.Picking h = absurd (false≢true h)
  waiting_one k status.Ended h = absurd (false≢true h)

  -- An event of a thread below its limit takes at least one, but for what a create adds.
  pub acted_effort : (k : KernelState) (who : ThreadId) (serial : ℕ) (a : Act) → (k.place who.number).serial < limit who.number → may_act k who serial a ≡ true → IsSound k → effort limit (acted k who serial a).0 + 1 ≤ effort limit k + added limit (called k who serial) a
  unfolding acted
  acted_effort k who serial (act.Call p) below may s =
      let n = who.number in
      let q = record (k.place n) { serial = serial } in
      let count : serial ≡ (k.place n).serial + 1 = eqb-true serial ((k.place n).serial + 1) (and_parts _ _ may).1 in
      let inside = inside_from k n s (acts_alive k who serial (act.Call p) may).1 in
      omega (arith, made_effort (called k who serial) who serial p (called-sound k who serial s), effort_upd k.place n q k.size inside, count, below)
  acted_effort k who serial act.Gone below may s =
      let n = who.number in
      let one = waiting_one k (k.place n).status (and_parts _ _ (and_parts _ _ may).0).1 in
      let inside = inside_from k n s (acts_alive k who serial act.Gone may).1 in
      omega (arith, effort_upd k.place n (record (k.place n) { status = status.Run; joined = false }) k.size inside, one)
  acted_effort k who serial act.Pick below may s =
      let n = who.number in
      let m = with_status k n status.Run in
      let one : wait_of (k.place n).status ≡ 1 = ap wait_of (picking_from (k.place n).status (and_parts _ _ (and_parts _ _ may).0).1) in
      let alive = (acts_alive k who serial act.Pick may).1 in
      let sound = with_status-sound k n status.Run (λ e. cc) alive (acts_free k who serial act.Pick may s) s in
      omega (arith, receive_effort m who serial None false sound, effort_upd k.place n (record (k.place n) { status = status.Run; joined = false }) k.size (inside_from k n s alive), one)

  -- What a call may add, and that the other events take one, whatever the limits are.
  pub call_effort : (k : KernelState) (who : ThreadId) (serial : ℕ) (p : Phase) → IsSound k → effort limit (acted k who serial (act.Call p)).0 ≤ effort limit (called k who serial) + 1 + added_call limit (called k who serial) p
  unfolding acted
  call_effort k who serial p s = made_effort (called k who serial) who serial p (called-sound k who serial s)

  pub gone_effort : (k : KernelState) (who : ThreadId) (serial : ℕ) → may_act k who serial act.Gone ≡ true → IsSound k → effort limit (acted k who serial act.Gone).0 + 1 ≤ effort limit k
  unfolding acted
  gone_effort k who serial may s =
      let n = who.number in
      let one = waiting_one k (k.place n).status (and_parts _ _ (and_parts _ _ may).0).1 in
      let inside = inside_from k n s (acts_alive k who serial act.Gone may).1 in
      omega (arith, effort_upd k.place n (record (k.place n) { status = status.Run; joined = false }) k.size inside, one)

  pub pick_effort : (k : KernelState) (who : ThreadId) (serial : ℕ) → may_act k who serial act.Pick ≡ true → IsSound k → effort limit (acted k who serial act.Pick).0 + 1 ≤ effort limit k
  unfolding acted
  pick_effort k who serial may s =
      let n = who.number in
      let m = with_status k n status.Run in
      let one : wait_of (k.place n).status ≡ 1 = ap wait_of (picking_from (k.place n).status (and_parts _ _ (and_parts _ _ may).0).1) in
      let alive = (acts_alive k who serial act.Pick may).1 in
      let sound = with_status-sound k n status.Run (λ e. cc) alive (acts_free k who serial act.Pick may s) s in
      omega (arith, receive_effort m who serial None false sound, effort_upd k.place n (record (k.place n) { status = status.Run; joined = false }) k.size (inside_from k n s alive), one)

-- A call adds one at most to the threads that wait.

none_added : (k : KernelState) (p : Phase) → added_call unlimited k p ≡ 0
none_added k (phase.Send to message zero joined) = refl
none_added k (phase.Reply to message zero) = refl
none_added k (phase.Receive from zero) = refl
none_added k (phase.Create program priority) = go (lowest (λ n. is_free (k.place n)) k.size)
  where
    go : (at : Option ℕ) → added_at unlimited at ≡ 0
    go None = refl
    go (Some number) = refl
none_added k (phase.Destroy who) = refl
none_added k phase.End = refl

pub call_waits : (k : KernelState) (who : ThreadId) (serial : ℕ) (p : Phase) → IsSound k → waits (acted k who serial (act.Call p)).0 ≤ waits k + 1
call_waits k who serial p s =
    let taking = place_effort unlimited k who.number (record (k.place who.number) { serial = serial }) 0 (omega arith) in
    omega (arith, call_effort unlimited k who serial p s, none_added (called k who serial) p, taking)
