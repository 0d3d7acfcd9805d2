-- A thread outside of any section stays sound over its step.
use Rattle.std.proofs.Common.{◌≡◌, ◌≤◌, ℕ, ◌-◌, true, false, refl, ap, subst, arith, None, IfSome}
use Rattle.std.proofs.lemmas.Bool.{cond_both, eqb-false}
use Rattle.std.specs.Prelude.{◌==◌}
use Rattle.k_ids.specs.declared.threads.ThreadId.{ThreadId}
use Rattle.k_ids.specs.declared.state_word.Result4.{Result4}
use Rattle.k_ids.specs.declared.state_word.Result4.TheVariants as result4
use Rattle.k_ids.specs.declared.state_word.State.{State}
use Rattle.k_ids.specs.declared.state_word.State.TheVariants as state
use Rattle.k_ids.specs.declared.state_word.StateWord.{StateWord}
use Rattle.k_ids.specs.StateWords.{IsPartner, partner_of}
use Rattle.k_locks.specs.Asks.{Response}
use Rattle.k_locks.specs.Asks as asks
use Rattle.k_locks.specs.Shown.{is_dead, is_dead_state}
use Rattle.k_locks.specs.Threads.{runs}
use Rattle.k_caller.specs.Waits.{IsFit, IsSoundAt, IsWordOf, is_waiting, leads, looked, own_of, worked}
use Rattle.k_caller.specs.declared.thread.ThreadLocation.{ThreadLocation}
use Rattle.k_caller.specs.declared.thread.ThreadLocation.TheVariants as location

-- the word of a thread whose wait is over
looked_run : (me : ThreadId) (w : StateWord) (r : Result4) → w.state ≡ state.Run r → IsWordOf me w →
    IsSoundAt me w (looked (state.Run r))
looked_run me w result4.Sent e word = (word, ap runs e)
looked_run me w (result4.Delivered from) e word =
    (word, ap runs e, subst (λ (s : State). IfSome (partner_of s) IsPartner) e word.whole.partner)
looked_run me w result4.Gone e word = (word, ap runs e)
looked_run me w result4.Plain e word = tt

looked_sound : (me : ThreadId) (w : StateWord) (s : State) → w.state ≡ s → (is_dead w ≡ false →
    IsWordOf me w) → IsSoundAt me w (looked s)
looked_sound me w state.Dead e word = tt
looked_sound me w (state.Run r) e word = looked_run me w r e (word (ap is_dead_state e))
looked_sound me w (state.Sending to joined) e word = (word (ap is_dead_state e), ap is_waiting e)
looked_sound me w (state.Receiving from) e word = (word (ap is_dead_state e), ap is_waiting e)
looked_sound me w state.Picking e word = tt
looked_sound me w state.Ended e word = tt

worked_sound : (me : ThreadId) (own : StateWord) (count : ℕ) → IsWordOf me own → runs own.state ≡ true →
    1 ≤ count → IsSoundAt me own (worked count)
worked_sound me own count word running some =
    cond_both (count == 1) (location.Between None) (location.Work (count - 1)) (IsSoundAt me own) (λ e.
    (word, running))
    (λ e. let more = eqb-false count 1 e in (word, running, omega (arith, some, more)))

pub alone_stays : (me : ThreadId) (own : StateWord) (p : ThreadLocation) (r : Response) →
    IsSoundAt me own p → IsFit me p r → IsSoundAt me (own_of own p r) (leads p r)
alone_stays me own location.FallAsleep asks.Won sound fit = tt
alone_stays me own location.FallAsleep (asks.Lost w) sound fit = tt
alone_stays me own location.LookAgain (asks.Word w) sound fit = looked_sound me w w.state refl fit.1
alone_stays me own (location.LoadMail from) (asks.Mail message) sound fit = (sound.0, sound.1)
alone_stays me own (location.Work count) (asks.Word w) sound fit =
    cond_both (is_dead w) location.Dead (worked count) (IsSoundAt me own) (λ e. tt) (λ e. worked_sound me
    own count sound.0 sound.1 sound.2)
alone_stays me own location.CommitEnd asks.Won sound fit = tt
alone_stays me own location.CommitEnd (asks.Lost w) sound fit = tt
alone_stays me own p r sound fit = sound
