-- An event keeps the versions in their range, and its replies name threads of the table.
use Rattle.std.proofs.Common.{◌≡◌, ℕ, ◌+◌, ◌<◌, ◌≤◌, Bool, true, false, not, List, [], ◌∷◌, ◌++◌, length, refl, sym, ap, ◌∙◌, arith, remove, Option, Some, None}
use Rattle.std.specs.Prelude.{nat_lt}
use Rattle.std.specs.List.{AllByRecursion}
use Rattle.std.proofs.lemmas.Bool.{and_parts, not-false, false≢true, cond_both}
use Rattle.std.proofs.lemmas.Bool.Decides.{nat_tests}
use Rattle.std.proofs.lemmas.List.Quantifiers.{position-Some}
use Rattle.k_lists.proofs.All.{all_at, all_push, all_weaker}
use Rattle.k_ids.specs.declared.threads.ThreadId.{ThreadId}
use Rattle.k_ids.specs.declared.threads.Message.{Message}
use Rattle.k_ids.specs.declared.threads.Status.{Status}
use Rattle.k_ids.specs.declared.threads.Status.TheVariants as status
use Rattle.k_ids.specs.declared.calls.Reply.{Reply}
use Rattle.k_ids.specs.declared.calls.Reply.TheVariants as reply
use Rattle.k_ids.specs.declared.calls.Outcome.{Outcome}
use Rattle.k_ids.specs.declared.calls.Phase.{Phase}
use Rattle.k_ids.specs.declared.calls.Phase.TheVariants as phase
use Rattle.k_ids.specs.declared.calls.Act.{Act}
use Rattle.k_ids.specs.declared.calls.Act.TheVariants as act
use Rattle.k_ids.specs.declared.histories.ReplyLine.{ReplyLine}
use Rattle.k_model.specs.Maps.{lowest}
use Rattle.k_model.specs.State.{KernelState, Place, with_place, with_status, answered, id_of, same_id, is_dead, is_run, is_present, takes_from}
use Rattle.k_model.specs.Step.{no_one, entry_at, called, without, sent, status_after, queued, passed, taken, send, receive, received, is_own, match_at, last_version, is_free, renewed, created, create, left_everywhere, killed, destroy, made, acted, may_act}
use Rattle.k_model.specs.Sound.{IsQueued, IsSound}
use Rattle.k_model.specs.Ranges.{IsKnown, TellsKnown, IsRanged}
use Rattle.k_model.specs.History.{opened}
use Rattle.k_model.proofs.Maps.{upd_same, upd_cases, lowest-Some}
use Rattle.k_model.proofs.Sound.{kept, inside_from, alive_from, called-sound, with_status-sound, acts_alive, acts_free}
use Rattle.k_model.proofs.Listed.{acts_living, taker_lives}

-- STATES ON THE WAY

module _ (k m : KernelState) (size : m.size ≡ k.size) (grows : (t : ℕ) → (k.place t).version ≤ (m.place t).version) where
  known_on : (id : ThreadId) → IsKnown k id → IsKnown m id
  known_on id h = record { inside = omega (arith, h.inside, size); first = h.first; version = omega (arith, h.version, grows id.number) }

  tells_on : (r : Reply) → TellsKnown k r → TellsKnown m r
  tells_on reply.Sent h = tt
  tells_on (reply.Got from message) h = known_on from h
  tells_on (reply.Made id) h = known_on id h
  tells_on reply.Killed h = tt
  tells_on (reply.Absent found) h = tt
  tells_on (reply.Busy found) h = tt
  tells_on reply.Nobody h = tt
  tells_on reply.Own h = tt
  tells_on (reply.Full alive worn) h = tt
  tells_on reply.Gone h = tt

place_grows : (k : KernelState) (n : ℕ) (p : Place) → (k.place n).version ≤ p.version → (t : ℕ) → (k.place t).version ≤ ((with_place k n p).place t).version
place_grows k n p l t = upd_cases (λ q. (k.place t).version ≤ q.version) k.place n p t (λ e. omega (arith, l, ap (λ (j : ℕ). (k.place j).version) e)) (λ _. omega arith)

known-place : (k : KernelState) (n : ℕ) (p : Place) (id : ThreadId) → (k.place n).version ≤ p.version → IsKnown k id → IsKnown (with_place k n p) id
known-place k n p id l h = known_on k (with_place k n p) refl (place_grows k n p l) id h

known-answered : (k : KernelState) (who : ThreadId) (serial : ℕ) (r : Reply) (id : ThreadId) → IsKnown k id → IsKnown (answered k who serial r) id
known-answered k who serial r id h = record { inside = h.inside; first = h.first; version = h.version }

-- A present thread is known.
known_if : (k : KernelState) (who : ThreadId) → (k.place who.number).version ≡ who.version → is_dead (k.place who.number).status ≡ false → IsSound k → IsRanged k → IsKnown k who
known_if k who version alive s r = record {
  inside = inside_from k who.number s (λ e. false≢true (sym alive ∙ ap is_dead e));
  first = omega (arith, version, r.begun who.number alive);
  version = omega (arith, version);
}

-- A number takes the same version or a higher one in the range.
place-ranged : (k : KernelState) (n : ℕ) (p : Place) → (k.place n).version ≤ p.version → p.version ≤ last_version → (is_dead p.status ≡ false → 1 ≤ p.version) → IsRanged k → IsRanged (with_place k n p)
place-ranged k n p grows last begun r =
    let m = with_place k n p in
    record {
      versions = λ t. upd_cases (λ q. q.version ≤ last_version) k.place n p t (λ _. last) (λ _. r.versions t);
      begun = λ t. upd_cases (λ q. is_dead q.status ≡ false → 1 ≤ q.version) k.place n p t (λ _. begun) (λ _. r.begun t);
      known = all_weaker (λ l. IsKnown k l.id) (λ l. IsKnown m l.id) (λ l. known_on k m refl (place_grows k n p grows) l.id) k.replies r.known;
      told = all_weaker (λ l. TellsKnown k l.reply) (λ l. TellsKnown m l.reply) (λ l. tells_on k m refl (place_grows k n p grows) l.reply) k.replies r.told;
    }

same-ranged : (k : KernelState) (n : ℕ) (p : Place) → p.version ≡ (k.place n).version → (is_dead p.status ≡ false → is_dead (k.place n).status ≡ false) → IsRanged k → IsRanged (with_place k n p)
same-ranged k n p version alive r =
    place-ranged k n p (omega (arith, version)) (omega (arith, version, r.versions n)) (λ h. omega (arith, version, r.begun n (alive h))) r

answered-ranged : (k : KernelState) (who : ThreadId) (serial : ℕ) (x : Reply) → IsKnown k who → TellsKnown k x → IsRanged k → IsRanged (answered k who serial x)
answered-ranged k who serial x known tells r =
    let m = answered k who serial x in
    let line : ReplyLine = record { id = who; serial = serial; reply = x } in
    let same : (t : ℕ) → (k.place t).version ≤ (m.place t).version = λ t. omega arith in
    record {
      versions = r.versions;
      begun = r.begun;
      known = all_push (λ l. IsKnown m l.id) k.replies line (all_weaker (λ l. IsKnown k l.id) (λ l. IsKnown m l.id) (λ l. known_on k m refl same l.id) k.replies r.known) (known_on k m refl same who known);
      told = all_push (λ l. TellsKnown m l.reply) k.replies line (all_weaker (λ l. TellsKnown k l.reply) (λ l. TellsKnown m l.reply) (λ l. tells_on k m refl same l.reply) k.replies r.told) (tells_on k m refl same x tells);
    }

sent-ranged : (k : KernelState) (who : ThreadId) (serial : ℕ) (after : Status) → IsKnown k who → is_dead (k.place who.number).status ≡ false → IsRanged k → IsRanged (sent k who serial after)
sent-ranged k who serial after known alive r =
    let p = record (k.place who.number) { status = after; joined = false } in
    let moved = same-ranged k who.number p refl (λ _. alive) r in
    cond_both (is_run after) _ _ IsRanged (λ _. answered-ranged (with_status k who.number after) who serial reply.Sent (known-place k who.number p who (omega arith) known) tt moved) (λ _. moved)

-- ONE CALL AFTER ANOTHER, of a known caller that is alive

module _ (k : KernelState) (me : ThreadId) (serial : ℕ) (mine : IsKnown k me) (run : is_dead (k.place me.number).status ≡ false) (s : IsSound k) (r : IsRanged k) where
  passed-ranged : (to : ThreadId) (message : Message) (zero : Bool) (after : Status) → is_present k to ≡ true → takes_from (k.place to.number).status me zero ≡ true → IsRanged (passed k me serial to message after)
  unfolding passed
  passed-ranged to message zero after here takes =
      let p = record (k.place to.number) { status = status.Run; joined = false } in
      let woken = with_status k to.number status.Run in
      let awaited = (k.place to.number).serial in
      let told = answered woken to awaited (reply.Got me message) in
      let lives = taker_lives (k.place to.number).status me zero takes in
      let theirs = known_if k to (alive_from k to here).0 lives s r in
      let one = same-ranged k to.number p refl (λ _. lives) r in
      let known = known-place k to.number p me (omega arith) mine in
      let two = answered-ranged woken to awaited (reply.Got me message) (known-place k to.number p to (omega arith) theirs) known one in
      let alive : is_dead (woken.place me.number).status ≡ false = upd_cases (λ q. is_dead q.status ≡ false) k.place to.number p me.number (λ _. refl) (λ _. run) in
      sent-ranged told me serial after (known-answered woken to awaited (reply.Got me message) me known) alive two

  queued-ranged : (to : ThreadId) (message : Message) (joined : Bool) → IsRanged (queued k me to message joined)
  unfolding queued
  queued-ranged to message joined =
      let p = record (k.place me.number) { status = status.Sending to; joined = joined } in
      let m = with_place k me.number p in
      same-ranged m to.number (record (m.place to.number) { waiting = (m.place to.number).waiting ++ (me, message) ∷ [] }) refl (λ h. h) (same-ranged k me.number p refl (λ _. run) r)

  send-ranged : (to : ThreadId) (message : Message) (zero joined : Bool) (after : Status) → IsRanged (send k me serial to message zero joined after).0
  unfolding send
  send-ranged to message zero joined after =
      cond_both (same_id me to) _ _ (λ (x : KernelState × Outcome). IsRanged x.0) (λ _. answered-ranged k me serial reply.Own mine tt r)
      (λ _. cond_both (not (is_present k to)) _ _ (λ (x : KernelState × Outcome). IsRanged x.0) (λ _. answered-ranged k me serial (reply.Absent _) mine tt r)
      (λ here. cond_both (takes_from (k.place to.number).status me zero) _ _ (λ (x : KernelState × Outcome). IsRanged x.0) (λ takes. passed-ranged to message zero after (not-false _ here) takes)
      (λ _. cond_both zero _ _ (λ (x : KernelState × Outcome). IsRanged x.0) (λ _. answered-ranged k me serial (reply.Busy _) mine tt r) (λ _. queued-ranged to message joined))))

  taken-ranged : (at : ℕ) → at < length (k.place me.number).waiting → IsRanged (taken k me serial at)
  unfolding taken
  taken-ranged at inside =
      let w = entry_at k me.number at in
      let p = record (k.place me.number) { waiting = remove (k.place me.number).waiting at } in
      let m = without k me.number at in
      let q = all_at (IsQueued k me.number) (k.place me.number).waiting at no_one (s.queued me.number) inside in
      let lives : is_dead (k.place w.0.number).status ≡ false = ap is_dead q.status in
      let known = known-place k me.number p w.0 (omega arith) (known_if k w.0 q.version lives s r) in
      let two = answered-ranged m me serial (reply.Got w.0 w.1) (known-place k me.number p me (omega arith) mine) known (same-ranged k me.number p refl (λ h. h) r) in
      sent-ranged (answered m me serial (reply.Got w.0 w.1)) w.0 (k.place w.0.number).serial (status_after (k.place w.0.number).joined me)
      (known-answered m me serial (reply.Got w.0 w.1) w.0 known) (ap is_dead (kept (λ x. x.status) k me.number p refl w.0.number) ∙ lives) two

  received-ranged : (from : Option ThreadId) (zero : Bool) (at : Option ℕ) → match_at k me from ≡ at → IsRanged (received k me serial from zero at).0
  unfolding received
  received-ranged from zero (Some at) e = taken-ranged at (position-Some _ (k.place me.number).waiting at no_one e).0
  received-ranged from true None e = answered-ranged k me serial reply.Nobody mine tt r
  received-ranged from false None e = same-ranged k me.number (record (k.place me.number) { status = status.Receiving from; joined = false }) refl (λ _. run) r

  receive-ranged : (from : Option ThreadId) (zero : Bool) → IsRanged (receive k me serial from zero).0
  unfolding receive
  receive-ranged from zero =
      cond_both (is_own from me) _ _ (λ (x : KernelState × Outcome). IsRanged x.0) (λ _. answered-ranged k me serial reply.Own mine tt r) (λ _. received-ranged from zero (match_at k me from) refl)

  created-ranged : (at : Option ℕ) → lowest (λ n. is_free (k.place n)) k.size ≡ at → IsRanged (created k me serial at).0
  unfolding created
  created-ranged (Some n) e =
      let found = lowest-Some (λ t. is_free (k.place t)) k.size n e in
      let low : nat_lt (k.place n).version last_version ≡ true = (and_parts _ _ found.1).1 in
      let below : (k.place n).version < last_version = grind (arith, nat_tests, low) in
      let p = record (k.place n) { version = (k.place n).version + 1; status = status.Run; joined = false; serial = 0 } in
      let one = place-ranged k n p (omega arith) (omega (arith, below)) (λ _. omega arith) r in
      let version : ((renewed k n).place n).version ≡ (k.place n).version + 1 = ap (λ q. q.version) (upd_same k.place n p) in
      let new : IsKnown (renewed k n) (id_of (renewed k n) n) = record { inside = found.0; first = omega (arith, version); version = omega arith } in
      answered-ranged (renewed k n) me serial (reply.Made (id_of (renewed k n) n)) (known-place k n p me (omega arith) mine) new one
  created-ranged None e = answered-ranged k me serial (reply.Full _ _) mine tt r

  killed-ranged : (victim : ThreadId) → IsRanged (killed k victim)
  unfolding killed
  killed-ranged victim =
      let m = left_everywhere k victim in
      let same : (t : ℕ) → (k.place t).version ≤ (m.place t).version = λ t. omega arith in
      let left : IsRanged m = record {
        versions = r.versions;
        begun = r.begun;
        known = all_weaker (λ l. IsKnown k l.id) (λ l. IsKnown m l.id) (λ l. known_on k m refl same l.id) k.replies r.known;
        told = all_weaker (λ l. TellsKnown k l.reply) (λ l. TellsKnown m l.reply) (λ l. tells_on k m refl same l.reply) k.replies r.told;
      } in
      same-ranged m victim.number (record (m.place victim.number) { status = status.Dead; joined = false; waiting = [] }) refl (λ h. absurd (false≢true (sym h))) left

  killed-known : (victim : ThreadId) → IsKnown (killed k victim) me
  unfolding killed
  killed-known victim =
      let m = left_everywhere k victim in
      let known : IsKnown m me = record { inside = mine.inside; first = mine.first; version = mine.version } in
      known-place m victim.number (record (m.place victim.number) { status = status.Dead; joined = false; waiting = [] }) me (omega arith) known

  destroy-ranged : (victim : ThreadId) → IsRanged (destroy k me serial victim).0
  unfolding destroy
  destroy-ranged victim =
      cond_both (same_id me victim) _ _ (λ (x : KernelState × Outcome). IsRanged x.0) (λ _. answered-ranged k me serial reply.Own mine tt r)
      (λ _. cond_both (not (is_present k victim)) _ _ (λ (x : KernelState × Outcome). IsRanged x.0) (λ _. answered-ranged k me serial (reply.Absent _) mine tt r)
      (λ _. answered-ranged (killed k victim) me serial reply.Killed (killed-known victim) tt (killed-ranged victim)))

  made-ranged : (p : Phase) → IsRanged (made k me serial p).0
  unfolding made create
  made-ranged (phase.Send to message zero joined) = send-ranged to message zero joined (status_after joined to)
  made-ranged (phase.Reply to message zero) = send-ranged to message zero false status.Picking
  made-ranged (phase.Receive from zero) = receive-ranged from zero
  made-ranged (phase.Create program priority) = created-ranged (lowest (λ n. is_free (k.place n)) k.size) refl
  made-ranged (phase.Destroy who) = destroy-ranged who
  made-ranged phase.End = same-ranged k me.number (record (k.place me.number) { status = status.Ended; joined = false }) refl (λ _. run) r

-- THE LAW

pub acted-ranged : (k : KernelState) (who : ThreadId) (serial : ℕ) (a : Act) → may_act k who serial a ≡ true → IsSound k → IsRanged k → IsRanged (acted k who serial a).0
unfolding acted
acted-ranged k who serial (act.Call ph) may s r =
    let p = record (k.place who.number) { serial = serial } in
    let lives = acts_living k who serial (act.Call ph) may in
    let known = known_if k who (acts_alive k who serial (act.Call ph) may).0 lives s r in
    made-ranged (called k who serial) who serial (known-place k who.number p who (omega arith) known)
    (ap (λ q. is_dead q.status) (upd_same k.place who.number p) ∙ lives) (called-sound k who serial s) (same-ranged k who.number p refl (λ h. h) r) ph
acted-ranged k who serial act.Gone may s r =
    let p = record (k.place who.number) { status = status.Run; joined = false } in
    let lives = acts_living k who serial act.Gone may in
    let known = known_if k who (acts_alive k who serial act.Gone may).0 lives s r in
    answered-ranged (with_status k who.number status.Run) who serial reply.Gone (known-place k who.number p who (omega arith) known) tt (same-ranged k who.number p refl (λ _. lives) r)
acted-ranged k who serial act.Pick may s r =
    let p = record (k.place who.number) { status = status.Run; joined = false } in
    let lives = acts_living k who serial act.Pick may in
    let alive = acts_alive k who serial act.Pick may in
    let known = known_if k who alive.0 lives s r in
    receive-ranged (with_status k who.number status.Run) who serial (known-place k who.number p who (omega arith) known)
    (ap (λ q. is_dead q.status) (upd_same k.place who.number p))
    (with_status-sound k who.number status.Run (λ e. cc) alive.1 (acts_free k who serial act.Pick may s) s) (same-ranged k who.number p refl (λ _. lives) r) None false

pub opened-ranged : (vs : List ℕ) (n : ℕ) → AllByRecursion (λ v. v ≤ last_version) vs → IsRanged (opened vs n)
opened-ranged vs n low = record {
  versions = λ t. cond_both (not (nat_lt t (length vs))) _ _ (λ (p : Place). p.version ≤ last_version) (λ _. omega arith)
      (λ inside. cond_both (nat_lt t n) _ _ (λ (p : Place). p.version ≤ last_version) (λ _. omega arith) (λ _. all_at (λ v. v ≤ last_version) vs t 0 low (grind (arith, nat_tests, inside))));
  begun = λ t. cond_both (not (nat_lt t (length vs))) _ _ (λ (p : Place). is_dead p.status ≡ false → 1 ≤ p.version) (λ _ h. absurd (false≢true (sym h)))
      (λ _. cond_both (nat_lt t n) _ _ (λ (p : Place). is_dead p.status ≡ false → 1 ≤ p.version) (λ _ _. omega arith) (λ _ h. absurd (false≢true (sym h))));
  known = tt;
  told = tt;
}
