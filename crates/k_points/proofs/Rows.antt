-- The rows of the specification, and when a call may be made.
use Rattle.std.proofs.Common.{◌≡◌, ℕ, ◌+◌, Bool, true, false, refl, sym, ap, ◌∙◌, Option, Some, None, Ok, eqb, ◌&&◌, not}
use Rattle.std.proofs.lemmas.Bool.{eq-eqb}
use Rattle.k_ids.specs.declared.threads.ThreadId.{ThreadId}
use Rattle.k_ids.specs.declared.threads.Message.{Message}
use Rattle.k_ids.specs.declared.threads.Status.{Status}
use Rattle.k_ids.specs.declared.threads.Status.TheVariants as status
use Rattle.k_ids.specs.declared.calls.Phase.{Phase}
use Rattle.k_ids.specs.declared.calls.Phase.TheVariants as phase
use Rattle.k_ids.specs.declared.calls.Reply.TheVariants as reply
use Rattle.k_ids.specs.declared.calls.Act.TheVariants as act
use Rattle.k_ids.specs.declared.calls.Outcome.{Outcome}
use Rattle.k_ids.specs.declared.calls.Outcome.TheVariants as outcome
use Rattle.k_ids.specs.declared.histories.Event.{Event}
use Rattle.k_model.specs.Maps.{lowest}
use Rattle.k_model.specs.State.{KernelState, id_of, is_present, same_id, found_of, answered, takes_from, with_status, is_dead}
use Rattle.k_model.specs.Step.{send, passed, queued, receive, received, taken, match_at, entry_at, is_own}
use Rattle.k_model.specs.Step.{step, made, acted, called, may_act, is_enabled, outcome_of, status_after}
use Rattle.k_model.specs.Step.{create, created, destroy, killed, renewed, is_free, alive, worn}
use Rattle.k_model.specs.State.{waits_for_absent}
use Rattle.k_model.proofs.Maps.{upd_cases}
use Rattle.k_points.specs.Shown.{Line, Tells}

pub stepped : (k : KernelState) (e : Event) (new : KernelState) (o : Outcome) → is_enabled k e ≡ true →
    outcome_of k e ≡ (new, o) → step k e ≡ Ok (new, o)
unfolding step
stepped k e new o en out = rw (en, out) refl

pub may_call : (k : KernelState) (f : ℕ → Line) (me : ThreadId) (serial : ℕ) (p : Phase) → Tells k f →
    (f me.number).version ≡ me.version → (f me.number).status ≡ status.Run → serial ≡ (f me.number).serial + 1 →
    may_act k me serial (act.Call p) ≡ true
may_call k f me serial p t v s n =
    let kv : (k.place me.number).version ≡ me.version = ap (λ (l : Line). l.version) (t me.number) ∙ v in
    let ks : (k.place me.number).status ≡ status.Run = ap (λ (l : Line). l.status) (t me.number) ∙ s in
    let kn : serial ≡ (k.place me.number).serial + 1 = n ∙ ap (λ (l : Line). l.serial + 1) (sym (t me.number)) in
    rw (ks, kv, eq-eqb me.version me.version refl) (eq-eqb serial ((k.place me.number).serial + 1) kn)

pub present_by : (k : KernelState) (f : ℕ → Line) (id : ThreadId) → Tells k f →
    is_present k id ≡ (eqb (f id.number).version id.version && not (is_dead (f id.number).status))
present_by k f id t = ap (λ (l : Line). eqb l.version id.version && not (is_dead l.status)) (t id.number)

-- THE ROWS OF A SEND

module _ (k : KernelState) (me : ThreadId) (serial : ℕ) (to : ThreadId) (message : Message) (soon joined : Bool)
    (after : Status) where
  pub send_own : same_id me to ≡ true →
      send k me serial to message soon joined after ≡ (answered k me serial reply.Own, outcome.Own)
  unfolding send
  send_own e = rw e refl

  pub send_absent : same_id me to ≡ false → is_present k to ≡ false →
      send k me serial to message soon joined after ≡ (
        answered k me serial (reply.Absent (found_of k to.number)),
        outcome.Absent (found_of k to.number),
      )
  unfolding send
  send_absent e p = rw (e, p) refl

  pub send_passes : same_id me to ≡ false → is_present k to ≡ true → takes_from (k.place to.number).status me soon ≡ true →
      send k me serial to message soon joined after ≡ (passed k me serial to message after, outcome.Passed)
  unfolding send
  send_passes e p r = rw (e, p, r) refl

  pub send_busy : same_id me to ≡ false → is_present k to ≡ true → takes_from (k.place to.number).status me soon ≡ false →
      soon ≡ true →
      send k me serial to message soon joined after ≡ (
        answered k me serial (reply.Busy (found_of k to.number)),
        outcome.Busy (found_of k to.number),
      )
  unfolding send
  send_busy e p r z = rw (e, p, r, z) refl

  pub send_waits : same_id me to ≡ false → is_present k to ≡ true → takes_from (k.place to.number).status me soon ≡ false →
      soon ≡ false → send k me serial to message soon joined after ≡ (queued k me to message joined, outcome.Waits)
  unfolding send
  send_waits e p r z = rw (e, p, r, z) refl

-- THE ROWS OF A RECEIVE

module _ (k : KernelState) (me : ThreadId) (serial : ℕ) (from : Option ThreadId) (soon : Bool) where
  pub receive_own : is_own from me ≡ true → receive k me serial from soon ≡ (answered k me serial reply.Own, outcome.Own)
  unfolding receive
  receive_own e = rw e refl

  pub receive_takes : (at : ℕ) → is_own from me ≡ false → match_at k me from ≡ Some at →
      receive k me serial from soon ≡ (taken k me serial at, outcome.Took (entry_at k me.number at).0 (entry_at k me.number at).1)
  unfolding receive received
  receive_takes at e p = rw (e, p) refl

  pub receive_nobody : is_own from me ≡ false → match_at k me from ≡ None → soon ≡ true →
      receive k me serial from soon ≡ (answered k me serial reply.Nobody, outcome.Nobody)
  unfolding receive received
  receive_nobody e p z = rw (e, p, z) refl

  pub receive_waits : is_own from me ≡ false → match_at k me from ≡ None → soon ≡ false →
      receive k me serial from soon ≡ (with_status k me.number (status.Receiving from), outcome.Waits)
  unfolding receive received
  receive_waits e p z = rw (e, p, z) refl

-- THE ROWS OF A CREATE AND A DESTROY

module _ (k : KernelState) (me : ThreadId) (serial : ℕ) where
  pub create_makes : (n : ℕ) → lowest (λ i. is_free (k.place i)) k.size ≡ Some n →
      create k me serial ≡ (
        answered (renewed k n) me serial (reply.Made (id_of (renewed k n) n)),
        outcome.Made (id_of (renewed k n) n),
      )
  unfolding create created
  create_makes n e = rw e refl

  pub create_full : lowest (λ i. is_free (k.place i)) k.size ≡ None →
      create k me serial ≡ (answered k me serial (reply.Full (alive k) (worn k)), outcome.Full (alive k) (worn k))
  unfolding create created
  create_full e = rw e refl

  pub destroy_own : (v : ThreadId) → same_id me v ≡ true → destroy k me serial v ≡ (answered k me serial reply.Own, outcome.Own)
  unfolding destroy
  destroy_own v e = rw e refl

  pub destroy_absent : (v : ThreadId) → same_id me v ≡ false → is_present k v ≡ false →
      destroy k me serial v ≡ (answered k me serial (reply.Absent (found_of k v.number)), outcome.Absent (found_of k v.number))
  unfolding destroy
  destroy_absent v e p = rw (e, p) refl

  pub destroy_kills : (v : ThreadId) → same_id me v ≡ false → is_present k v ≡ true →
      destroy k me serial v ≡ (answered (killed k v) me serial reply.Killed, outcome.Killed)
  unfolding destroy
  destroy_kills v e p = rw (e, p) refl

-- a phase is made from the state in which the caller has taken its serial
module _ (k : KernelState) (me : ThreadId) (serial : ℕ) where
  pub send_is : (to : ThreadId) (message : Message) (zero joined : Bool) →
      acted k me serial (act.Call (phase.Send to message zero joined)) ≡
      send (called k me serial) me serial to message zero joined (status_after joined to)
  unfolding acted made
  send_is to message zero joined = refl

  pub reply_is : (to : ThreadId) (message : Message) (zero : Bool) →
      acted k me serial (act.Call (phase.Reply to message zero)) ≡
      send (called k me serial) me serial to message zero false status.Picking
  unfolding acted made
  reply_is to message zero = refl

  pub receive_is : (from : Option ThreadId) (zero : Bool) →
      acted k me serial (act.Call (phase.Receive from zero)) ≡ receive (called k me serial) me serial from zero
  unfolding acted made
  receive_is from zero = refl

  pub gone_is : acted k me serial act.Gone ≡ (answered (with_status k me.number status.Run) me serial reply.Gone, outcome.Freed)
  unfolding acted
  gone_is = refl

  pub pick_is : acted k me serial act.Pick ≡ receive (with_status k me.number status.Run) me serial None false
  unfolding acted
  pick_is = refl

  pub create_is : (program priority : ℕ) →
      acted k me serial (act.Call (phase.Create program priority)) ≡ create (called k me serial) me serial
  unfolding acted made
  create_is program priority = refl

  pub destroy_is : (v : ThreadId) → acted k me serial (act.Call (phase.Destroy v)) ≡ destroy (called k me serial) me serial v
  unfolding acted made
  destroy_is v = refl

  pub end_is : acted k me serial (act.Call phase.End) ≡ (with_status (called k me serial) me.number status.Ended, outcome.Ended)
  unfolding acted made
  end_is = refl

-- what a call leaves of the lists
pub waiting_now : (k : KernelState) (me : ThreadId) (serial n : ℕ) → ((called k me serial).place n).waiting ≡ (k.place n).waiting
waiting_now k me serial n =
    upd_cases (λ p. p.waiting ≡ (k.place n).waiting) k.place me.number (record (k.place me.number) { serial = serial }) n
    (λ e. ap (λ (m : ℕ). (k.place m).waiting) (sym e)) (λ _. refl)

pub waiting_run : (k : KernelState) (m n : ℕ) → ((with_status k m status.Run).place n).waiting ≡ (k.place n).waiting
waiting_run k m n =
    upd_cases (λ p. p.waiting ≡ (k.place n).waiting) k.place m (record (k.place m) { status = status.Run; joined = false }) n
    (λ e. ap (λ (j : ℕ). (k.place j).waiting) (sym e)) (λ _. refl)

pub may_gone : (k : KernelState) (f : ℕ → Line) (who : ThreadId) (serial : ℕ) → Tells k f → (f who.number).version ≡ who.version →
    is_dead (f who.number).status ≡ false → waits_for_absent k (f who.number).status ≡ true → serial ≡ (f who.number).serial →
    may_act k who serial act.Gone ≡ true
may_gone k f who serial t v d w n =
    let kv : (k.place who.number).version ≡ who.version = ap (λ (l : Line). l.version) (t who.number) ∙ v in
    let ks : (k.place who.number).status ≡ (f who.number).status = ap (λ (l : Line). l.status) (t who.number) in
    let kn : serial ≡ (k.place who.number).serial = n ∙ ap (λ (l : Line). l.serial) (sym (t who.number)) in
    rw (ks, d, w, kv, eq-eqb who.version who.version refl) (eq-eqb serial (k.place who.number).serial kn)

pub may_pick : (k : KernelState) (f : ℕ → Line) (who : ThreadId) (serial : ℕ) → Tells k f → (f who.number).version ≡ who.version →
    (f who.number).status ≡ status.Picking → serial ≡ (f who.number).serial → may_act k who serial act.Pick ≡ true
may_pick k f who serial t v s n =
    let kv : (k.place who.number).version ≡ who.version = ap (λ (l : Line). l.version) (t who.number) ∙ v in
    let ks : (k.place who.number).status ≡ status.Picking = ap (λ (l : Line). l.status) (t who.number) ∙ s in
    let kn : serial ≡ (k.place who.number).serial = n ∙ ap (λ (l : Line). l.serial) (sym (t who.number)) in
    rw (ks, kv, eq-eqb who.version who.version refl) (eq-eqb serial (k.place who.number).serial kn)
