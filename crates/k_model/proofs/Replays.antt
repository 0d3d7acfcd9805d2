-- A history goes on by one event.
use Rattle.std.proofs.Common.{◌≡◌, Bool, true, false, cond, List, [], ◌∷◌, ◌++◌, refl, sym, ap, ◌∙◌, subst, Ok, Err, Result}
use Rattle.std.proofs.lemmas.List.{append-nil}
use Rattle.std.proofs.Common.{append_assoc}
use Rattle.k_ids.specs.declared.threads.ThreadId.{ThreadId}
use Rattle.k_ids.specs.declared.histories.Entry.{Entry}
use Rattle.k_ids.specs.declared.histories.Event.{Event}
use Rattle.k_ids.specs.declared.calls.Outcome.{Outcome}
use Rattle.k_ids.specs.declared.histories.Unlawful.{Unlawful}
use Rattle.k_model.specs.State.{KernelState, found_of}
use Rattle.k_model.specs.Step.{step, is_enabled, outcome_of}
use Rattle.k_model.specs.Sound.{IsListed, IsSound}
use Rattle.k_model.proofs.Listed.{acted-listed}
use Rattle.k_model.specs.Answered.{IsAnswered}
use Rattle.k_model.proofs.Sound.{acted-sound}
use Rattle.k_model.proofs.Answered.{acted-answered}
use Rattle.k_model.specs.History.{IsReplay, calls_of, call_of}

pub replay_push : (old mid new : KernelState) (es : List Entry) (e : Entry) → IsReplay old es mid → step mid e.event ≡ Ok (new, e.outcome) → IsReplay old (es ++ e ∷ []) new
replay_push old mid new [] e h s = (new, rw (← h) s, refl)
replay_push old mid new (x ∷ es) e h s = (h.0, h.1, replay_push h.0 mid new es e h.2 s)

pub calls_push : (id : ThreadId) (es : List Entry) (e : Entry) → calls_of id (es ++ e ∷ []) ≡ calls_of id es ++ call_of id e
calls_push id [] e = append-nil (call_of id e)
calls_push id (x ∷ es) e = ap (λ (c : _). call_of id x ++ c) (calls_push id es e) ∙ sym (append_assoc (call_of id x) (calls_of id es) (call_of id e))

-- What a step gives: its event may be made, and this is what it makes.
pub step_enabled : (k : KernelState) (e : Event) (new : KernelState × Outcome) → step k e ≡ Ok new → (is_enabled k e ≡ true) × (outcome_of k e ≡ new)
unfolding step
step_enabled k e new h = go (is_enabled k e) refl h
  where
    go : (b : Bool) → is_enabled k e ≡ b → cond {A = Result (KernelState × Outcome) Unlawful} b (Ok (outcome_of k e)) (Err (record { found = found_of k e.who.number; serial = (k.place e.who.number).serial })) ≡ Ok new → (is_enabled k e ≡ true) × (outcome_of k e ≡ new)
    go true e h = (e, cc)
    go false e h = absurd cc

-- Each state of a legal history is good.
pub replay_good : (old : KernelState) (es : List Entry) (new : KernelState) → IsSound old → IsAnswered old → IsReplay old es new → IsSound new × IsAnswered new
replay_good old [] new s a h = (subst IsSound (sym h) s, subst IsAnswered (sym h) a)
replay_good old (e ∷ es) new s a h =
    let made = step_enabled old e.event (h.0, e.outcome) h.1 in
    let after : (outcome_of old e.event).0 ≡ h.0 = ap (λ (r : KernelState × Outcome). r.0) made.1 in
    replay_good h.0 es new
    (subst IsSound after (acted-sound old e.event.who e.event.serial e.event.act made.0 s))
    (subst IsAnswered after (acted-answered old e.event.who e.event.serial e.event.act made.0 s a)) h.2

pub replay_listed : (old : KernelState) (es : List Entry) (new : KernelState) → IsSound old → IsListed old → IsReplay old es new → IsListed new
replay_listed old [] new s l h = subst IsListed (sym h) l
replay_listed old (e ∷ es) new s l h =
    let made = step_enabled old e.event (h.0, e.outcome) h.1 in
    let after : (outcome_of old e.event).0 ≡ h.0 = ap (λ (r : KernelState × Outcome). r.0) made.1 in
    replay_listed h.0 es new
    (subst IsSound after (acted-sound old e.event.who e.event.serial e.event.act made.0 s))
    (subst IsListed after (acted-listed old e.event.who e.event.serial e.event.act made.0 s l)) h.2
