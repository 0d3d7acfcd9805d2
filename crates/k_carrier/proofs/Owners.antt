-- A step leaves a context that of its thread, or of its carrier.
use Rattle.std.proofs.Common.{◌≡◌, ◌<◌, ℕ, ◌+◌, Bool, List, Option, Some, None, IfSome, refl, ap, ◌∙◌}
use Rattle.std.specs.Prelude.{option_map}
use Rattle.k_ids.specs.declared.threads.ThreadId.{ThreadId}
use Rattle.k_model.proofs.Maps.{lowest-Some}
use Rattle.k_switch.specs.Switches.{IsGoal}
use Rattle.k_carrier.specs.Starts.{first_start, is_due}
use Rattle.k_locks.specs.declared.steps.Answer.{Answer}
use Rattle.k_locks.specs.Steps.{is_again}
use Rattle.k_script.specs.Script.{Script}
use Rattle.k_script.specs.Plays.{next_of, went_on}
use Rattle.k_script.specs.declared.registers.Next.{Next}
use Rattle.k_script.specs.declared.registers.Next.TheVariants as next
use Rattle.k_caller.specs.declared.activity.Activity.{Activity}
use Rattle.k_caller.specs.declared.activity.Activity.TheVariants as activity
use Rattle.k_caller.specs.declared.thread.ThreadLocation.TheVariants as location
use Rattle.k_caller.specs.Threads.{ThreadSeen}
use Rattle.k_caller.specs.Threads as threads
use Rattle.k_caller.proofs.Owned.{either}
use Rattle.k_switch.specs.declared.switch.SwitchCall.{SwitchCall}
use Rattle.k_switch.specs.declared.carrier_context.CarrierContext.{CarrierContext}
use Rattle.k_switch.specs.Carriers as carriers
use Rattle.k_switch.specs.Switches as switches
use Rattle.k_context.specs.Contexts.{ContextSeen}
use Rattle.k_context.specs.Contexts as contexts
use Rattle.k_carrier.specs.Conditions.{IsOfNumber}

-- A THREAD'S

next_id : (table : ℕ) (t : ThreadSeen) (n : Next) → (threads.begun_next table t n).id ≡ t.id
next_id table t (next.Phase f) = refl
next_id table t (next.Work count) = refl

begun_at_id : (script : Script) (t : ThreadSeen) (a : Activity) → (threads.begun_at script t a).id ≡ t.id
begun_at_id script t (activity.Alone (location.Between last)) = next_id script.table (record t { position = went_on t.position last }) (next_of script.version t.position last)
begun_at_id script t a = refl

resumed_id : (t : ThreadSeen) (a : Answer) → (threads.resumed t a).id ≡ t.id
resumed_id t a = either (λ (x : ThreadSeen). x.id ≡ t.id) (is_again a) t (threads.moved t a) refl refl

woken_id : (t : ThreadSeen) → (threads.woken t).id ≡ t.id
woken_id t = either (λ (x : ThreadSeen). x.id ≡ t.id) (threads.is_asleep t) (record t { activity = activity.Alone location.LookAgain }) t refl refl

-- ANY

pub asked_number : (script : Script) (table context : ℕ) (v : ContextSeen) → IsOfNumber table context v → IsOfNumber table context (contexts.asked (contexts.begun script v))
asked_number script table context (contexts.Thread t) is = ap (λ (i : ThreadId). i.number) (begun_at_id script t t.activity) ∙ is
asked_number script table context (contexts.Carrier k) is = is

pub resumed_number : (table context : ℕ) (v : ContextSeen) (a : Answer) → IsOfNumber table context v → IsOfNumber table context (contexts.resumed v a)
resumed_number table context (contexts.Thread t) a is = ap (λ (i : ThreadId). i.number) (resumed_id t a) ∙ is
resumed_number table context (contexts.Carrier k) a is = either (λ (x : CarrierContext). table + x.carrier ≡ context) (is_again a) k (record k { done = carriers.done_after k; switch = option_map (λ s. switches.moved s a) k.switch }) is is

pub woken_number : (table context : ℕ) (v : ContextSeen) → IsOfNumber table context v → IsOfNumber table context (contexts.woken v)
woken_number table context (contexts.Thread t) is = ap (λ (i : ThreadId). i.number) (woken_id t) ∙ is
woken_number table context (contexts.Carrier k) is = is

pub switching_number : (table context : ℕ) (c : SwitchCall) (v : ContextSeen) → IsOfNumber table context v → IsOfNumber table context (contexts.with_switch c v)
switching_number table context c (contexts.Thread t) is = is
switching_number table context c (contexts.Carrier k) is = is

-- WHAT STAYS SOUND

pub begun_switch_sound : (script : Script) (call : SwitchCall) (v : ContextSeen) → contexts.IsSound script v → IfSome call.goal IsGoal → IfSome call.start (λ number. number < 64) → contexts.IsSound script (contexts.with_switch call v)
begun_switch_sound script call (contexts.Thread t) s goal start = s
begun_switch_sound script call (contexts.Carrier k) s goal start = record { carrier = s.carrier; uncounted = λ e. refl; switch = record { goal = goal; start = start; located = tt } }

-- the lowest number that is to be started
pub first_small : (starts : List Bool) → IfSome (first_start starts) (λ number. number < 64)
first_small starts = go (first_start starts) refl
  where
    go : (o : Option ℕ) → first_start starts ≡ o → IfSome o (λ number. number < 64)
    go None e = tt
    go (Some number) e = (lowest-Some (is_due starts) 64 number e).0

pub woken_sound : (script : Script) (v : ContextSeen) → contexts.IsSound script v → contexts.IsSound script (contexts.woken v)
woken_sound script (contexts.Thread t) s = either (threads.IsSound script) (threads.is_asleep t) (record t { activity = activity.Alone location.LookAgain }) t (record { id = s.id; inside = s.inside; within = s.within; doing = tt; tells = tt }) s
woken_sound script (contexts.Carrier k) s = s
