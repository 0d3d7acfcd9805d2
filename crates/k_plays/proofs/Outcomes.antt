-- No call has the outcome of a thread that is freed.
use Rattle.std.proofs.Common.{◌≡◌, ℕ, Bool, true, false, not, refl, sym, ap, ◌∙◌, Option, Some, None}
use Rattle.std.proofs.lemmas.Bool.{cond_both}
use Rattle.k_ids.specs.declared.threads.ThreadId.{ThreadId}
use Rattle.k_ids.specs.declared.threads.Message.{Message}
use Rattle.k_ids.specs.declared.threads.Status.{Status}
use Rattle.k_ids.specs.declared.threads.Status.TheVariants as status
use Rattle.k_ids.specs.declared.calls.Act.TheVariants as act
use Rattle.k_ids.specs.declared.calls.Outcome.{Outcome}
use Rattle.k_ids.specs.declared.calls.Outcome.TheVariants as outcome
use Rattle.k_ids.specs.declared.calls.Phase.{Phase}
use Rattle.k_ids.specs.declared.calls.Phase.TheVariants as phase
use Rattle.k_model.specs.Maps.{lowest}
use Rattle.k_model.specs.State.{KernelState, is_present, same_id, takes_from}
use Rattle.k_model.specs.Step.{acted, called, create, created, destroy, is_free, is_own}
use Rattle.k_model.specs.Step.{made, match_at, receive, received, send, status_after}

abbrev pub is_freed : Outcome → Bool
is_freed outcome.Freed = true
is_freed o = false

abbrev Unfreed : KernelState × Outcome → Type 0
Unfreed r = is_freed r.1 ≡ false

send_unfreed : (k : KernelState) (me : ThreadId) (serial : ℕ) (to : ThreadId) (message : Message) (zero joined : Bool)
    (after : Status) → Unfreed (send k me serial to message zero joined after)
unfolding send
send_unfreed k me serial to message zero joined after =
    cond_both (same_id me to) _ _ Unfreed (λ _. refl)
    (λ _. cond_both (not (is_present k to)) _ _ Unfreed (λ _. refl)
    (λ _. cond_both (takes_from (k.place to.number).status me zero) _ _ Unfreed (λ _. refl)
    (λ _. cond_both zero _ _ Unfreed (λ _. refl) (λ _. refl))))

received_unfreed : (k : KernelState) (me : ThreadId) (serial : ℕ) (from : Option ThreadId) (zero : Bool) (at : Option ℕ) →
    Unfreed (received k me serial from zero at)
unfolding received
received_unfreed k me serial from zero (Some at) = refl
received_unfreed k me serial from zero None = cond_both zero _ _ Unfreed (λ _. refl) (λ _. refl)

receive_unfreed : (k : KernelState) (me : ThreadId) (serial : ℕ) (from : Option ThreadId) (zero : Bool) →
    Unfreed (receive k me serial from zero)
unfolding receive
receive_unfreed k me serial from zero =
    cond_both (is_own from me) _ _ Unfreed (λ _. refl) (λ _. received_unfreed k me serial from zero (match_at k me from))

created_unfreed : (k : KernelState) (me : ThreadId) (serial : ℕ) (at : Option ℕ) → Unfreed (created k me serial at)
unfolding created
created_unfreed k me serial (Some number) = refl
created_unfreed k me serial None = refl

destroy_unfreed : (k : KernelState) (me : ThreadId) (serial : ℕ) (victim : ThreadId) → Unfreed (destroy k me serial victim)
unfolding destroy
destroy_unfreed k me serial victim =
    cond_both (same_id me victim) _ _ Unfreed (λ _. refl)
    (λ _. cond_both (not (is_present k victim)) _ _ Unfreed (λ _. refl) (λ _. refl))

made_unfreed : (k : KernelState) (me : ThreadId) (serial : ℕ) (f : Phase) → Unfreed (made k me serial f)
unfolding made create
made_unfreed k me serial (phase.Send to message zero joined) =
    send_unfreed k me serial to message zero joined (status_after joined to)
made_unfreed k me serial (phase.Reply to message zero) = send_unfreed k me serial to message zero false status.Picking
made_unfreed k me serial (phase.Receive from zero) = receive_unfreed k me serial from zero
made_unfreed k me serial (phase.Create program priority) = created_unfreed k me serial (lowest (λ n. is_free (k.place n)) k.size)
made_unfreed k me serial (phase.Destroy victim) = destroy_unfreed k me serial victim
made_unfreed k me serial phase.End = refl

pub call_unfreed : (k n : KernelState) (who : ThreadId) (serial : ℕ) (f : Phase) (o : Outcome) →
    acted k who serial (act.Call f) ≡ (n, o) → is_freed o ≡ false
unfolding acted
call_unfreed k n who serial f o gives =
    sym (ap (λ (r : KernelState × Outcome). is_freed r.1) gives) ∙ made_unfreed (called k who serial) who serial f
