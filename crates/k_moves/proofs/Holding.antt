-- Which locks a context holds: in its own words, and in those of the world.
use Rattle.std.proofs.Common.{◌≡◌, ℕ, ◌==◌, Bool, true, false, refl, sym, ap, ◌∙◌, Option, Some, None, List, [], ◌∷◌}
use Rattle.std.specs.Prelude.{◌||◌}
use Rattle.k_locks.specs.declared.locks.Lock.{Lock}
use Rattle.k_locks.specs.declared.locks.Lock.TheVariants as lock
use Rattle.k_ipc.specs.declared.send.SendCall.{SendCall}
use Rattle.k_ipc.specs.declared.receive.ReceiveCall.{ReceiveCall}
use Rattle.k_threads.specs.declared.create.CreateCall.{CreateCall}
use Rattle.k_threads.specs.declared.destroy.DestroyCall.{DestroyCall}
use Rattle.k_ipc.specs.SendTable as send
use Rattle.k_ipc.specs.ReceiveTable as receive
use Rattle.k_threads.specs.CreateTable as create
use Rattle.k_threads.specs.DestroyTable as destroy
use Rattle.k_caller.specs.declared.activity.Activity.{Activity}
use Rattle.k_caller.specs.declared.activity.Activity.TheVariants as activity
use Rattle.k_caller.specs.Activities.{locks_of}
use Rattle.k_switch.specs.declared.switch.SwitchLocked.TheVariants as locked
use Rattle.k_switch.specs.Switches.{SwitchAt}
use Rattle.k_switch.specs.Switches as switch
use Rattle.k_carrier.specs.Rules.{holds_any, still_holds}
use Rattle.k_tokens.specs.World.{HeldLocks, holds_ready, is_lock_of}
use Rattle.k_tokens.specs.World as tokens
use Rattle.k_grants.specs.Views.{held_of}
use Rattle.k_moves.specs.Views.{stage_of}
use Rattle.k_moves.proofs.Names.{tests_turn}

-- locks by rank: whether the table lock is held, whose lock is, and whether the ready lock is
abbrev pub table_if : Bool → Option Lock
table_if true = Some lock.Table
table_if false = None

abbrev pub number_if : Option ℕ → Option Lock
number_if (Some m) = Some (lock.Thread m)
number_if None = None

abbrev pub ready_if : Bool → Option Lock
ready_if true = Some lock.Ready
ready_if false = None

abbrev pub ranked : Bool → Option ℕ → Bool → List (Option Lock)
ranked t n r = table_if t ∷ number_if n ∷ ready_if r ∷ []

pub record AreRanked (held : List (Option Lock)) : Type 0 where
  pub table : Bool
  pub number : Option ℕ
  pub ready : Bool
  pub are : held ≡ ranked table number ready

-- EACH LOCATION HOLDS LOCKS BY RANK

send_ranked : (c : SendCall) (p : send.SendAt) → AreRanked (send.locks_of c p)
send_ranked c (send.Outside p) = record { table = false; number = None; ready = false; are = refl }
send_ranked c (send.Locked p) = record { table = false; number = Some c.to.number; ready = false; are = refl }
send_ranked c (send.Pushing p) = record { table = false; number = Some c.to.number; ready = true; are = refl }

receive_ranked : (c : ReceiveCall) (p : receive.ReceiveAt) → AreRanked (receive.locks_of c p)
receive_ranked c (receive.Outside p) = record { table = false; number = None; ready = false; are = refl }
receive_ranked c (receive.Locked p) = record { table = false; number = Some c.caller.number; ready = false; are = refl }
receive_ranked c (receive.Pushing p) = record { table = false; number = Some c.caller.number; ready = true; are = refl }

create_ranked : (c : CreateCall) (p : create.CreateAt) → AreRanked (create.locks_of c p)
create_ranked c (create.Outside p) = record { table = false; number = None; ready = false; are = refl }
create_ranked c (create.Locked p) = record { table = true; number = None; ready = false; are = refl }
create_ranked c (create.PushCreated id) = record { table = true; number = None; ready = true; are = refl }

destroy_ranked : (c : DestroyCall) (p : destroy.DestroyAt) → AreRanked (destroy.locks_of c p)
destroy_ranked c (destroy.Outside p) = record { table = false; number = None; ready = false; are = refl }
destroy_ranked c (destroy.Locked p) = record { table = true; number = None; ready = false; are = refl }
destroy_ranked c (destroy.Victim p) = record { table = true; number = Some c.who.number; ready = false; are = refl }
destroy_ranked c (destroy.Visit p) = record { table = true; number = Some (destroy.visited_at p); ready = false; are = refl }
destroy_ranked c destroy.UnlistVictim = record { table = true; number = None; ready = true; are = refl }
destroy_ranked c (destroy.Pushing p) = record { table = true; number = Some (destroy.queue_at c p); ready = true; are = refl }

pub activity_ranked : (a : Activity) → AreRanked (locks_of a)
activity_ranked (activity.Alone p) = record { table = false; number = None; ready = false; are = refl }
activity_ranked (activity.Send s) = send_ranked s.call (send.at_of s.location)
activity_ranked (activity.Receive s) = receive_ranked s.call (receive.at_of s.location)
activity_ranked (activity.Create s) = create_ranked s.call (create.at_of s.location)
activity_ranked (activity.Destroy s) = destroy_ranked s.call (destroy.at_of s.location)

-- WHAT IS HELD OF THEM

any_turns : (k m : ℕ) → ((k == m) || false) ≡ (m == k)
any_turns k m = by (k == m) refl
  where
    by : (t : Bool) → (k == m) ≡ t → (t || false) ≡ (m == k)
    by true e = sym e ∙ tests_turn k m
    by false e = sym e ∙ tests_turn k m

abbrev pub holds_in : HeldLocks → Option Lock → Bool
holds_in held None = tokens.holds_any held
holds_in held (Some lock.Table) = held.table
holds_in held (Some (lock.Thread number)) = is_lock_of number held.thread
holds_in held (Some lock.Ready) = held.ready

ranked_held : (t : Bool) (n : Option ℕ) (r : Bool) (wanted : Option Lock) →
    still_holds wanted (ranked t n r) ≡ holds_in (held_of (ranked t n r)) wanted
ranked_held true None true None = refl
ranked_held true None false None = refl
ranked_held true (Some m) true None = refl
ranked_held true (Some m) false None = refl
ranked_held false None true None = refl
ranked_held false None false None = refl
ranked_held false (Some m) true None = refl
ranked_held false (Some m) false None = refl
ranked_held true None true (Some lock.Table) = refl
ranked_held true None false (Some lock.Table) = refl
ranked_held true (Some m) true (Some lock.Table) = refl
ranked_held true (Some m) false (Some lock.Table) = refl
ranked_held false None true (Some lock.Table) = refl
ranked_held false None false (Some lock.Table) = refl
ranked_held false (Some m) true (Some lock.Table) = refl
ranked_held false (Some m) false (Some lock.Table) = refl
ranked_held true None true (Some lock.Ready) = refl
ranked_held true None false (Some lock.Ready) = refl
ranked_held true (Some m) true (Some lock.Ready) = refl
ranked_held true (Some m) false (Some lock.Ready) = refl
ranked_held false None true (Some lock.Ready) = refl
ranked_held false None false (Some lock.Ready) = refl
ranked_held false (Some m) true (Some lock.Ready) = refl
ranked_held false (Some m) false (Some lock.Ready) = refl
ranked_held true None true (Some (lock.Thread k)) = refl
ranked_held true None false (Some (lock.Thread k)) = refl
ranked_held true (Some m) true (Some (lock.Thread k)) = any_turns k m
ranked_held true (Some m) false (Some (lock.Thread k)) = any_turns k m
ranked_held false None true (Some (lock.Thread k)) = refl
ranked_held false None false (Some (lock.Thread k)) = refl
ranked_held false (Some m) true (Some (lock.Thread k)) = any_turns k m
ranked_held false (Some m) false (Some (lock.Thread k)) = any_turns k m

pub held_is : (held : List (Option Lock)) → AreRanked held → (wanted : Option Lock) →
    still_holds wanted held ≡ holds_in (held_of held) wanted
held_is held r wanted =
    ap (still_holds wanted) r.are ∙ ranked_held r.table r.number r.ready wanted
    ∙ sym (ap (λ l. holds_in (held_of l) wanted) r.are)

-- a context of a thread that holds any
pub any_is : (held : List (Option Lock)) → AreRanked held → holds_any held ≡ tokens.holds_any (held_of held)
any_is held r = held_is held r None

-- A SWITCH holds the ready lock from its acquire to its release.

abbrev pub holds_by : Bool → Option Lock → Bool
holds_by ready None = ready
holds_by ready (Some lock.Table) = false
holds_by ready (Some (lock.Thread number)) = false
holds_by ready (Some lock.Ready) = ready

no_lock_held : (wanted : Option Lock) → still_holds wanted switch.no_lock ≡ holds_by false wanted
no_lock_held None = refl
no_lock_held (Some lock.Table) = refl
no_lock_held (Some (lock.Thread number)) = refl
no_lock_held (Some lock.Ready) = refl

ready_held : (wanted : Option Lock) → still_holds wanted switch.only_ready ≡ holds_by true wanted
ready_held None = refl
ready_held (Some lock.Table) = refl
ready_held (Some (lock.Thread number)) = refl
ready_held (Some lock.Ready) = refl

pub switch_held : (p : SwitchAt) (wanted : Option Lock) →
    still_holds wanted (switch.locks_of p) ≡ holds_by (holds_ready (stage_of p)) wanted
switch_held switch.AcquireReady wanted = no_lock_held wanted
switch_held (switch.Locked (locked.LoadGoal g)) wanted = ready_held wanted
switch_held (switch.Locked (locked.LoadStart b n)) wanted = ready_held wanted
switch_held (switch.Locked (locked.ReleaseReady b s)) wanted = ready_held wanted
switch_held (switch.Returned s) wanted = ready_held wanted
switch_held (switch.Finished s) wanted = no_lock_held wanted
