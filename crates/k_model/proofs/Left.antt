-- What an event leaves at each number, creates and destroys among them.
use Rattle.std.proofs.Common.{◌≡◌, ◌≢◌, ℕ, ◌+◌, true, false, not, refl, sym, ap, ◌∙◌, subst, Option, Some, None}
use Rattle.std.proofs.lemmas.Bool.{and_parts, false≢true, cond_both}
use Rattle.k_ids.specs.declared.threads.ThreadId.{ThreadId}
use Rattle.k_ids.specs.declared.threads.Status.{Status}
use Rattle.k_ids.specs.declared.threads.Status.TheVariants as status
use Rattle.k_ids.specs.declared.calls.Reply.{Reply}
use Rattle.k_ids.specs.declared.calls.Reply.TheVariants as reply
use Rattle.k_ids.specs.declared.calls.Outcome.{Outcome}
use Rattle.k_ids.specs.declared.calls.Outcome.TheVariants as outcome
use Rattle.k_ids.specs.declared.calls.Phase.{Phase}
use Rattle.k_ids.specs.declared.calls.Phase.TheVariants as phase
use Rattle.k_ids.specs.declared.calls.Act.{Act}
use Rattle.k_ids.specs.declared.calls.Act.TheVariants as act
use Rattle.k_model.specs.Maps.{lowest}
use Rattle.k_model.specs.State.{KernelState, Place, answered, found_of, is_dead, is_present, same_id}
use Rattle.k_model.specs.Step.{called, is_free, alive, worn, renewed, created, create, killed, destroy, made, acted, may_act}
use Rattle.k_model.specs.Sound.{IsSound}
use Rattle.k_model.specs.Keeps.{IsRenewed, is_settled, Keeps, Leaves, renewed_call, renewed_number}
use Rattle.k_model.proofs.Maps.{upd_same, upd_other, upd_cases, lowest-Some}
use Rattle.k_model.proofs.Places.{killed_version, killed_serial, killed_status}
use Rattle.k_model.proofs.Sound.{run_from, free_dead}
use Rattle.k_model.proofs.Kept.{call_keeps_others, call_keeps_caller, gone_keeps, pick_keeps}

dead_settled : (st : Status) → is_dead st ≡ true → is_settled st ≡ true
dead_settled status.Dead e = refl
dead_settled status.Run e = absurd (false≢true e)
dead_settled (status.Sending to) e = absurd (false≢true e)
dead_settled (status.Receiving from) e = absurd (false≢true e)
dead_settled status.Picking e = absurd (false≢true e)
dead_settled status.Ended e = absurd (false≢true e)

pub leaves_from : (k n : KernelState) (t : ℕ) → Keeps k n t → Leaves k n t
leaves_from k n t h = record {
  version = h.version;
  serial = h.serial;
  settled = λ e. ap is_settled (h.settled e) ∙ e;
  dead = λ e. ap is_dead (h.settled (dead_settled (k.place t).status e)) ∙ e;
}

answered_leaves : (k : KernelState) (who : ThreadId) (serial : ℕ) (r : Reply) (t : ℕ) → Leaves k (answered k who serial r) t
answered_leaves k who serial r t = record { version = refl; serial = refl; settled = λ e. e; dead = λ e. e }

then_leaves : (k m n : KernelState) (t : ℕ) → Leaves k m t → Leaves m n t → Leaves k n t
then_leaves k m n t p q = record {
  version = q.version ∙ p.version;
  serial = q.serial ∙ p.serial;
  settled = λ e. q.settled (p.settled e);
  dead = λ e. q.dead (p.dead e);
}

-- Only the place's list, or nothing, changes at another number.
called_leaves : (k : KernelState) (who : ThreadId) (serial t : ℕ) → t ≢ who.number → Leaves k (called k who serial) t
called_leaves k who serial t ne =
    let q = record (k.place who.number) { serial = serial } in
    let same : (called k who serial).place t ≡ k.place t = upd_other k.place who.number q t ne in
    record {
      version = ap (λ (p : Place). p.version) same;
      serial = ap (λ (p : Place). p.serial) same;
      settled = λ e. ap (λ (p : Place). is_settled p.status) same ∙ e;
      dead = λ e. ap (λ (p : Place). is_dead p.status) same ∙ e;
    }

-- DESTROY

killed_leaves : (k : KernelState) (victim : ThreadId) (t : ℕ) → Leaves k (killed k victim) t
killed_leaves k victim t =
    let statuses = λ (u : ℕ). (k.place u).status in
    record {
      version = killed_version k victim t;
      serial = killed_serial k victim t;
      settled = λ e. ap is_settled (killed_status k victim t) ∙ upd_cases (λ (s : Status). is_settled s ≡ true) statuses victim.number status.Dead t (λ _. refl) (λ _. e);
      dead = λ e. ap is_dead (killed_status k victim t) ∙ upd_cases (λ (s : Status). is_dead s ≡ true) statuses victim.number status.Dead t (λ _. refl) (λ _. e);
    }

destroy_leaves : (k : KernelState) (me : ThreadId) (serial : ℕ) (victim : ThreadId) (t : ℕ) → Leaves k (destroy k me serial victim).0 t
unfolding destroy
destroy_leaves k me serial victim t =
    cond_both (same_id me victim) _ _ (λ (r : KernelState × Outcome). Leaves k r.0 t) (λ _. answered_leaves k me serial reply.Own t)
    (λ _. cond_both (not (is_present k victim)) _ _ (λ (r : KernelState × Outcome). Leaves k r.0 t) (λ _. answered_leaves k me serial (reply.Absent (found_of k victim.number)) t)
    (λ _. then_leaves k (killed k victim) _ t (killed_leaves k victim t) (answered_leaves (killed k victim) me serial reply.Killed t)))

-- CREATE: the lowest free number gets a new thread, and the others keep theirs.

created_leaves : (k : KernelState) (me : ThreadId) (serial : ℕ) (at : Option ℕ) (t : ℕ) → at ≢ Some t → Leaves k (created k me serial at).0 t
unfolding created
created_leaves k me serial None t ne = answered_leaves k me serial (reply.Full (alive k) (worn k)) t
created_leaves k me serial (Some number) t ne =
    let q = record (k.place number) { version = (k.place number).version + 1; status = status.Run; joined = false; serial = 0 } in
    let other : t ≢ number = λ e. ne (ap Some (sym e)) in
    let same : (renewed k number).place t ≡ k.place t = upd_other k.place number q t other in
    record {
      version = ap (λ (p : Place). p.version) same;
      serial = ap (λ (p : Place). p.serial) same;
      settled = λ e. ap (λ (p : Place). is_settled p.status) same ∙ e;
      dead = λ e. ap (λ (p : Place). is_dead p.status) same ∙ e;
    }

created_renews : (k : KernelState) (me : ThreadId) (serial number : ℕ) → lowest (λ n. is_free (k.place n)) k.size ≡ Some number → IsRenewed k number (created k me serial (Some number)).0
unfolding created
created_renews k me serial number found =
    let q = record (k.place number) { version = (k.place number).version + 1; status = status.Run; joined = false; serial = 0 } in
    let low = lowest-Some (λ n. is_free (k.place n)) k.size number found in
    let same : (renewed k number).place number ≡ q = upd_same k.place number q in
    record {
      inside = low.0;
      free = ap is_dead (free_dead (k.place number) low.1);
      version = ap (λ (p : Place). p.version) same;
      serial = ap (λ (p : Place). p.serial) same;
      run = ap (λ (p : Place). p.status) same;
    }

module _ (k : KernelState) (who : ThreadId) (serial : ℕ) where
  caller_runs : (p : Phase) → may_act k who serial (act.Call p) ≡ true → ((called k who serial).place who.number).status ≡ status.Run
  caller_runs p may =
      let q = record (k.place who.number) { serial = serial } in
      ap (λ (r : Place). r.status) (upd_same k.place who.number q) ∙ run_from (k.place who.number).status (and_parts _ _ (and_parts _ _ may).0).1

  -- The caller runs, so it doesn't stand at the number that gets the thread.
  pub renewed_other : (program priority number : ℕ) → may_act k who serial (act.Call (phase.Create program priority)) ≡ true → renewed_call (called k who serial) (phase.Create program priority) ≡ Some number → who.number ≢ number
  renewed_other program priority number may found e =
      let m = called k who serial in
      let low = lowest-Some (λ n. is_free (m.place n)) m.size number found in
      let dead : is_dead (m.place number).status ≡ true = ap is_dead (free_dead (m.place number) low.1) in
      let runs : is_dead (m.place number).status ≡ false = ap (λ (j : ℕ). is_dead (m.place j).status) (sym e) ∙ ap is_dead (caller_runs (phase.Create program priority) may) in
      false≢true (sym runs ∙ dead)

  -- A create that finds a free number, and one that finds none.
  create_makes : (program priority number : ℕ) → renewed_call (called k who serial) (phase.Create program priority) ≡ Some number → acted k who serial (act.Call (phase.Create program priority)) ≡ created (called k who serial) who serial (Some number)
  unfolding acted made create
  create_makes program priority number found = ap (created (called k who serial) who serial) found

  create_refuses : (program priority : ℕ) → renewed_call (called k who serial) (phase.Create program priority) ≡ None → acted k who serial (act.Call (phase.Create program priority)) ≡ created (called k who serial) who serial None
  unfolding acted made create
  create_refuses program priority found = ap (created (called k who serial) who serial) found

  pub create_renews : (program priority number : ℕ) → may_act k who serial (act.Call (phase.Create program priority)) ≡ true → renewed_call (called k who serial) (phase.Create program priority) ≡ Some number → IsRenewed k number (acted k who serial (act.Call (phase.Create program priority))).0
  create_renews program priority number may found =
      let m = called k who serial in
      let q = record (k.place who.number) { serial = serial } in
      let other : number ≢ who.number = λ e. renewed_other program priority number may found (sym e) in
      let same : m.place number ≡ k.place number = upd_other k.place who.number q number other in
      let r = created_renews m who serial number found in
      let there = subst (λ (x : KernelState × Outcome). IsRenewed m number x.0) (sym (create_makes program priority number found)) r in
      record {
        inside = r.inside;
        free = ap (λ (p : Place). is_dead p.status) (sym same) ∙ r.free;
        version = there.version ∙ ap (λ (p : Place). p.version + 1) same;
        serial = there.serial;
        run = there.run;
      }

  -- the outcome, with the new thread's id
  pub create_tells : (program priority number : ℕ) → may_act k who serial (act.Call (phase.Create program priority)) ≡ true → renewed_call (called k who serial) (phase.Create program priority) ≡ Some number → (acted k who serial (act.Call (phase.Create program priority))).1 ≡ outcome.Made (record { number = number; version = (k.place number).version + 1 })
  unfolding created
  create_tells program priority number may found =
      let m = called k who serial in
      let q = record (k.place who.number) { serial = serial } in
      let c = record (m.place number) { version = (m.place number).version + 1; status = status.Run; joined = false; serial = 0 } in
      let other : number ≢ who.number = λ e. renewed_other program priority number may found (sym e) in
      let same : m.place number ≡ k.place number = upd_other k.place who.number q number other in
      let new : ((renewed m number).place number).version ≡ (k.place number).version + 1 = ap (λ (p : Place). p.version) (upd_same m.place number c) ∙ ap (λ (p : Place). p.version + 1) same in
      ap (λ (r : KernelState × Outcome). r.1) (create_makes program priority number found) ∙ ap (λ (v : ℕ). outcome.Made (record { number = number; version = v })) new

  -- EVERY EVENT: each number but the caller's, and but that of the new thread.
  pub acted_leaves : (a : Act) (t : ℕ) → may_act k who serial a ≡ true → IsSound k → t ≢ who.number → renewed_number (called k who serial) a ≢ Some t → Leaves k (acted k who serial a).0 t
  unfolding acted made create
  acted_leaves (act.Call (phase.Send to message zero joined)) t may s ne apart = leaves_from _ _ t (call_keeps_others k who serial (phase.Send to message zero joined) t may refl s ne)
  acted_leaves (act.Call (phase.Reply to message zero)) t may s ne apart = leaves_from _ _ t (call_keeps_others k who serial (phase.Reply to message zero) t may refl s ne)
  acted_leaves (act.Call (phase.Receive from zero)) t may s ne apart = leaves_from _ _ t (call_keeps_others k who serial (phase.Receive from zero) t may refl s ne)
  acted_leaves (act.Call (phase.Create program priority)) t may s ne apart =
      let m = called k who serial in
      then_leaves k m _ t (called_leaves k who serial t ne) (created_leaves m who serial (lowest (λ n. is_free (m.place n)) m.size) t apart)
  acted_leaves (act.Call (phase.Destroy victim)) t may s ne apart =
      let m = called k who serial in
      then_leaves k m _ t (called_leaves k who serial t ne) (destroy_leaves m who serial victim t)
  acted_leaves (act.Call phase.End) t may s ne apart = leaves_from _ _ t (call_keeps_others k who serial phase.End t may refl s ne)
  acted_leaves act.Gone t may s ne apart = leaves_from _ _ t (gone_keeps k who serial t may)
  acted_leaves act.Pick t may s ne apart = leaves_from _ _ t (pick_keeps k who serial t may s)

  -- The caller's number has its thread, which has taken its serial.
  took_serial : ((called k who serial).place who.number).serial ≡ serial
  took_serial = ap (λ (p : Place). p.serial) (upd_same k.place who.number (record (k.place who.number) { serial = serial }))

  took_version : ((called k who serial).place who.number).version ≡ (k.place who.number).version
  took_version = ap (λ (p : Place). p.version) (upd_same k.place who.number (record (k.place who.number) { serial = serial }))

  pub call_caller : (p : Phase) → may_act k who serial (act.Call p) ≡ true → IsSound k → (((acted k who serial (act.Call p)).0.place who.number).version ≡ (k.place who.number).version) × (((acted k who serial (act.Call p)).0.place who.number).serial ≡ serial)
  unfolding acted made create
  call_caller (phase.Send to message zero joined) may s = call_keeps_caller k who serial (phase.Send to message zero joined) may refl s
  call_caller (phase.Reply to message zero) may s = call_keeps_caller k who serial (phase.Reply to message zero) may refl s
  call_caller (phase.Receive from zero) may s = call_keeps_caller k who serial (phase.Receive from zero) may refl s
  call_caller (phase.Create program priority) may s =
      let m = called k who serial in
      let l = created_leaves m who serial (lowest (λ n. is_free (m.place n)) m.size) who.number (λ e. renewed_other program priority who.number may e refl) in
      (l.version ∙ took_version, l.serial ∙ took_serial)
  call_caller (phase.Destroy victim) may s =
      let l = destroy_leaves (called k who serial) who serial victim who.number in
      (l.version ∙ took_version, l.serial ∙ took_serial)
  call_caller phase.End may s = call_keeps_caller k who serial phase.End may refl s

  -- The number of a new thread, in every event.
  pub acted_renews : (a : Act) (number : ℕ) → may_act k who serial a ≡ true → renewed_number (called k who serial) a ≡ Some number → IsRenewed k number (acted k who serial a).0
  acted_renews (act.Call (phase.Send to message zero joined)) number may found = absurd cc
  acted_renews (act.Call (phase.Reply to message zero)) number may found = absurd cc
  acted_renews (act.Call (phase.Receive from zero)) number may found = absurd cc
  acted_renews (act.Call (phase.Create program priority)) number may found = create_renews program priority number may found
  acted_renews (act.Call (phase.Destroy victim)) number may found = absurd cc
  acted_renews (act.Call phase.End) number may found = absurd cc
  acted_renews act.Gone number may found = absurd cc
  acted_renews act.Pick number may found = absurd cc

  pub create_refused : (program priority : ℕ) → renewed_call (called k who serial) (phase.Create program priority) ≡ None → (acted k who serial (act.Call (phase.Create program priority))).1 ≡ outcome.Full (alive (called k who serial)) (worn (called k who serial))
  unfolding created
  create_refused program priority found = ap (λ (r : KernelState × Outcome). r.1) (create_refuses program priority found)
