-- What the functions of a context make of its owner, its serial and its count.
use Rattle.std.proofs.Common.{◌≡◌, ℕ, ◌+◌, ◌≤◌, ◌<◌, Bool, true, false, cond, refl, ap, ◌∙◌, arith, Option, inl, inr}
use Rattle.std.proofs.lemmas.Bool.{cases_lt}
use Rattle.k_ids.specs.declared.threads.ThreadId.{ThreadId}
use Rattle.k_ids.specs.declared.calls.Reply.{Reply}
use Rattle.k_locks.specs.declared.steps.Answer.{Answer}
use Rattle.k_locks.specs.Steps.{is_again, one_more}
use Rattle.k_script.specs.Script.{Script}
use Rattle.k_script.specs.Plays.{next_of, went_on}
use Rattle.k_script.specs.declared.registers.Next.{Next}
use Rattle.k_script.specs.declared.registers.Next.TheVariants as next
use Rattle.k_caller.specs.declared.activity.Activity.{Activity}
use Rattle.k_caller.specs.declared.activity.Activity.TheVariants as activity
use Rattle.k_caller.specs.declared.thread.ThreadLocation.TheVariants as location
use Rattle.k_caller.specs.Threads.{ThreadSeen, begun_at, begun_next}
use Rattle.k_caller.specs.Threads as threads
use Rattle.k_switch.specs.declared.switch.SwitchCall.{SwitchCall}
use Rattle.k_switch.specs.Carriers.{last_serial}
use Rattle.k_context.specs.Contexts.{Carrier, ContextSeen, Thread, asked, begun, owner_of, resumed}
use Rattle.k_context.specs.Contexts.{serial_of, thread_of, with_switch, without_switch, woken}
use Rattle.k_marks.specs.Counting.{Goes, IsNew, begins, stands_still, stays}

-- A STEP

pub resumed_owner : (v : ContextSeen) (a : Answer) → is_again a ≡ false → owner_of (resumed v a) ≡ owner_of v
resumed_owner (Thread t) a n = rw n refl
resumed_owner (Carrier k) a n = rw n refl

pub resumed_serial : (v : ContextSeen) (a : Answer) → is_again a ≡ false → serial_of (resumed v a) ≡ serial_of v
resumed_serial (Thread t) a n = rw n refl
resumed_serial (Carrier k) a n = rw n refl

pub resumed_again : (v : ContextSeen) (a : Answer) → is_again a ≡ true → resumed v a ≡ v
resumed_again (Thread t) a y = rw y refl
resumed_again (Carrier k) a y = rw y refl

-- NO STEP

pub asked_goes : (v : ContextSeen) → Goes v (asked v)
asked_goes (Thread t) = stays refl refl refl
asked_goes (Carrier k) = stays refl refl refl

pub woken_goes : (v : ContextSeen) → Goes v (woken v)
woken_goes (Thread t) = by (threads.is_asleep t)
  where
    by : (a : Bool) → Goes (Thread t) (Thread (cond a (record t { activity = activity.Alone location.LookAgain }) t))
    by true = stays refl refl refl
    by false = stays refl refl refl
woken_goes (Carrier k) = stays refl refl refl

pub without_goes : (v : ContextSeen) → Goes v (without_switch v)
without_goes (Thread t) = stays refl refl refl
without_goes (Carrier k) = stays refl refl refl

one_below : (n : ℕ) → n < last_serial → one_more n ≡ n + 1
one_below n l = omega (arith, l)

one_at_end : (n : ℕ) → last_serial ≤ n → one_more n ≡ last_serial
one_at_end n l = omega (arith, l)

pub with_goes : (c : SwitchCall) (v : ContextSeen) → serial_of v ≤ last_serial → Goes v (with_switch c v)
with_goes c (Thread t) l = stays refl refl refl
with_goes c (Carrier k) l = elim (cases_lt k.serial last_serial) [
  | inl below ↦ begins refl below (one_below k.serial below) refl
  | inr above ↦ stands_still k.carrier refl refl (omega (arith, l, above)) (one_at_end k.serial above) refl
]

-- A CALL BEGINS

next_goes : (table : ℕ) (t u : ThreadSeen) (n : Next) → u.id ≡ t.id → u.serial ≡ t.serial → u.done ≡ t.done →
    t.serial < last_serial → Goes (Thread t) (Thread (begun_next table u n))
next_goes table t u (next.Phase f) i s d l =
    begins (ap (λ (x : ThreadId). owner_of (Thread (record t { id = x }))) i) l (ap one_more s ∙ one_below t.serial l) refl
next_goes table t u (next.Work count) i s d l = stays (ap (λ (x : ThreadId). owner_of (Thread (record t { id = x }))) i) s d

pub begun_goes : (script : Script) (v : ContextSeen) → ((t : ThreadSeen) (last : Option Reply) → v ≡ Thread t →
    t.activity ≡ activity.Alone (location.Between last) → t.serial < last_serial) → Goes v (begun script v)
begun_goes script (Thread t) l = by t.activity refl
  where
    by : (a : Activity) → t.activity ≡ a → Goes (Thread t) (Thread (begun_at script t a))
    by (activity.Alone (location.Between last)) e =
        next_goes script.table t (record t { position = went_on t.position last })
        (next_of script.version t.position last) refl refl refl (l t last refl e)
    by a e = stays refl refl refl
begun_goes script (Carrier k) l = stays refl refl refl

pub placed_new : (script : Script) (id : ThreadId) (program priority : ℕ) → IsNew id (thread_of script id program priority)
placed_new script id program priority = record { owner = refl; serial = refl; done = refl }
