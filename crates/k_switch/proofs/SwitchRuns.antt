-- A switch: its locks, and how many steps are left.
use Rattle.std.proofs.Common.{◌≡◌, ℕ, ◌+◌, ◌≤◌, Bool, true, false, Option, Some, None, List, length, refl, arith}
use Rattle.std.proofs.lemmas.Grind.{common_steps}
use Rattle.std.specs.Prelude.{slice_get, is_some, if◌then◌else◌}
use Rattle.k_ids.specs.declared.state_word.StateWord.{StateWord}
use Rattle.k_locks.specs.declared.goods.Goods.{Goods}
use Rattle.k_locks.specs.declared.locks.Lock.{Lock}
use Rattle.k_locks.specs.declared.locks.Lock.TheVariants as lock
use Rattle.k_locks.specs.Asks.{Response, suits_response}
use Rattle.k_locks.specs.Hands.{Hand}
use Rattle.k_locks.specs.Locks.{Holds, IsByRank, rank_of}
use Rattle.k_locks.specs.Tables.{IsAbove, IsHeld, IsMade, IsReleasedInTime, IsRising, Run, hand_came, locks_after, makes, stops}
use Rattle.k_locks.proofs.Responses.{made_by, told_by}
use Rattle.k_locks.proofs.Tables.{IsFalling, is_exchange, released_in_time}
use Rattle.k_switch.specs.declared.switch.SwitchCall.{SwitchCall}
use Rattle.k_switch.specs.declared.switch.SwitchLocked.TheVariants.{LoadGoal, LoadStart, ReleaseReady}
use Rattle.k_switch.specs.declared.goal.Goal.{Goal}
use Rattle.k_switch.specs.Switches.{SwitchAt, AcquireReady, Locked, Returned, Finished, ask_of, hand_after, leads, left_locked, left_of, left_ready, locks_of, no_lock, only_ready, shown_on, switch_table, to_start}

-- LOCKS

nothing_held : (rank : ℕ) (l : Lock) → slice_get no_lock rank ≡ Some (Some l) → ⊥
nothing_held rank l e = grind (arith, common_steps)

ready_ranked : (rank : ℕ) (l : Lock) → slice_get only_ready rank ≡ Some (Some l) → rank_of l ≡ rank
ready_ranked rank l e = grind (arith, common_steps)

ranked : (p : SwitchAt) → IsByRank (locks_of p)
ranked AcquireReady rank l e = absurd (nothing_held rank l e)
ranked (Locked p) rank l e = ready_ranked rank l e
ranked (Returned s) rank l e = ready_ranked rank l e
ranked (Finished s) rank l e = absurd (nothing_held rank l e)

above : (c : SwitchCall) (own : StateWord) (p : SwitchAt) → IsAbove (ask_of c p) (locks_of p)
above c own AcquireReady = λ rank m e. absurd (nothing_held rank m e)
above c own (Locked (LoadGoal goal)) = tt
above c own (Locked (LoadStart back number)) = tt
above c own (Locked (ReleaseReady back started)) = tt
above c own (Returned s) = tt
above c own (Finished s) = tt

releasing : (c : SwitchCall) (own : StateWord) (p : SwitchAt) → IsHeld (ask_of c p) (locks_of p)
releasing c own AcquireReady = tt
releasing c own (Locked (LoadGoal goal)) = tt
releasing c own (Locked (LoadStart back number)) = tt
releasing c own (Locked (ReleaseReady back started)) = refl
releasing c own (Returned s) = refl
releasing c own (Finished s) = tt

-- the locks after a step
abbrev Follows : SwitchCall → Hand → SwitchAt → Response → Type 0
Follows c h p r = locks_of (leads c h p r) ≡ locks_after (ask_of c p) r (locks_of p)

held : (c : SwitchCall) (own : StateWord) (h : Hand) (p : SwitchAt) (r : Response) → suits_response (ask_of c p) r ≡ true → Follows c h p r
held c own h AcquireReady r s = told_by (ask_of c AcquireReady) r (Follows c h AcquireReady) s refl (λ owner. refl)
held c own h (Locked (LoadGoal goal)) r s = told_by (ask_of c (Locked (LoadGoal goal))) r (Follows c h (Locked (LoadGoal goal))) s (λ v. refl) tt
held c own h (Locked (LoadStart back number)) r s = told_by (ask_of c (Locked (LoadStart back number))) r (Follows c h (Locked (LoadStart back number))) s (λ v. refl) tt
held c own h (Locked (ReleaseReady back started)) r s = told_by (ask_of c (Locked (ReleaseReady back started))) r (Follows c h (Locked (ReleaseReady back started))) s refl tt
held c own h (Returned e) r s = told_by (ask_of c (Returned e)) r (Follows c h (Returned e)) s refl tt
held c own h (Finished e) r s = told_by (ask_of c (Finished e)) r (Follows c h (Finished e)) s (λ v. refl) tt

pub rises : (c : SwitchCall) → IsRising (switch_table c)
rises c = record { none = refl; ranked = ranked; rising = above c; releasing = releasing c; held = held c }

-- STEPS LEFT

no_thread : (p : SwitchAt) (n : ℕ) → Holds (lock.Thread n) (locks_of p) → ⊥
no_thread AcquireReady n holds = absurd (nothing_held 1 (lock.Thread n) holds)
no_thread (Locked p) n holds = grind (arith, common_steps)
no_thread (Returned s) n holds = grind (arith, common_steps)
no_thread (Finished s) n holds = absurd (nothing_held 1 (lock.Thread n) holds)

no_table : (p : SwitchAt) → Holds lock.Table (locks_of p) → ⊥
no_table AcquireReady holds = absurd (nothing_held 0 lock.Table holds)
no_table (Locked p) holds = grind (arith, common_steps)
no_table (Returned s) holds = grind (arith, common_steps)
no_table (Finished s) holds = absurd (nothing_held 0 lock.Table holds)

-- each step leaves one step less up to the release of the ready lock
abbrev Falls : SwitchCall → Hand → SwitchAt → Response → Type 0
Falls c h p r = 1 + left_ready c (leads c h p r) ≤ left_ready c p

started_left : (c : SwitchCall) (start : Option ℕ) (back : Option Goal) → 1 + left_locked c (to_start start back) ≤ (if is_some start then 3 else 2)
started_left c None back = omega arith
started_left c (Some number) back = omega arith

ready_falls : (c : SwitchCall) (own : StateWord) (h : Hand) (p : SwitchAt) (r : Response) (g : Goods) → Holds lock.Ready (locks_of p) → IsMade (switch_table c) own h p r g → 1 + left_ready c (leads c h p r) ≤ left_ready c p
ready_falls c own h AcquireReady r g holds m = absurd (nothing_held 2 lock.Ready holds)
ready_falls c own h (Locked (LoadGoal goal)) r g holds m = made_by (ask_of c (Locked (LoadGoal goal))) r (Falls c h (Locked (LoadGoal goal))) m.suiting m.made (λ w. started_left c c.start (shown_on goal.id w))
ready_falls c own h (Locked (LoadStart back number)) r g holds m = made_by (ask_of c (Locked (LoadStart back number))) r (Falls c h (Locked (LoadStart back number))) m.suiting m.made (λ w. omega arith)
ready_falls c own h (Locked (ReleaseReady back started)) r g holds m = made_by (ask_of c (Locked (ReleaseReady back started))) r (Falls c h (Locked (ReleaseReady back started))) m.suiting m.made (omega arith)
ready_falls c own h (Returned s) r g holds m = made_by (ask_of c (Returned s)) r (Falls c h (Returned s)) m.suiting m.made (omega arith)
ready_falls c own h (Finished s) r g holds m = absurd (nothing_held 2 lock.Ready holds)

falls : (c : SwitchCall) (k : Lock) (own : StateWord) (h : Hand) (p : SwitchAt) (r : Response) (g : Goods) → Holds k (locks_of p) → IsMade (switch_table c) own h p r g → 1 + left_of c (leads c h p r) k ≤ left_of c p k
falls c lock.Table own h p r g holds m = absurd (no_table p holds)
falls c (lock.Thread n) own h p r g holds m = absurd (no_thread p n holds)
falls c lock.Ready own h p r g holds m = ready_falls c own h p r g holds m

goal_left : (c : SwitchCall) (b : Bool) → 1 ≤ (if b then 3 else 2)
goal_left c true = omega arith
goal_left c false = omega arith

some : (c : SwitchCall) (p : SwitchAt) (k : Lock) → Holds k (locks_of p) → 1 ≤ left_of c p k
some c p lock.Table holds = absurd (no_table p holds)
some c p (lock.Thread n) holds = absurd (no_thread p n holds)
some c AcquireReady lock.Ready holds = absurd (nothing_held 2 lock.Ready holds)
some c (Locked (LoadGoal goal)) lock.Ready holds = goal_left c (is_some c.start)
some c (Locked (LoadStart back number)) lock.Ready holds = omega arith
some c (Locked (ReleaseReady back started)) lock.Ready holds = omega arith
some c (Returned s) lock.Ready holds = omega arith
some c (Finished s) lock.Ready holds = absurd (nothing_held 2 lock.Ready holds)

only : (c : SwitchCall) (p : SwitchAt) (k : Lock) → 1 ≤ left_of c p k → Holds k (locks_of p)
only c p lock.Table l = absurd (omega (arith, l))
only c p (lock.Thread n) l = absurd (omega (arith, l))
only c AcquireReady lock.Ready l = absurd (omega (arith, l))
only c (Locked p) lock.Ready l = refl
only c (Returned s) lock.Ready l = refl
only c (Finished s) lock.Ready l = absurd (omega (arith, l))

quiet : (c : SwitchCall) (p : SwitchAt) → is_exchange (ask_of c p) ≡ false
quiet c AcquireReady = refl
quiet c (Locked (LoadGoal goal)) = refl
quiet c (Locked (LoadStart back number)) = refl
quiet c (Locked (ReleaseReady back started)) = refl
quiet c (Returned s) = refl
quiet c (Finished s) = refl

falling : (c : SwitchCall) → IsFalling (switch_table c)
falling c = record {
  start = λ h. tt;
  keeps = λ own h p r g fits m. tt;
  falls = λ k own h p r g there fits holds m missed. falls c k own h p r g holds m;
  missed = λ k own h p r g fits holds m. let f = falls c k own h p r g holds m in omega (arith, f);
  above = λ h p there k fits. omega arith;
  low = λ h p k fits holds. omega arith;
  high = λ h p k fits holds. omega arith;
  quiet = λ own p holds. quiet c p;
  columns = λ h p k. refl;
  some = λ h p k fits holds. some c p k holds;
  only = λ h p k l. only c p k l;
}

pub in_time : (c : SwitchCall) → IsReleasedInTime (switch_table c)
in_time c = released_in_time (switch_table c) (falling c)

pub most : (c : SwitchCall) (k : Lock) (own : StateWord) (h : Hand) (p : SwitchAt) (answers : List Response) → Run (switch_table c) k own h p answers → length answers ≤ left_of c p k
most c k own h p answers (stops v i l) = omega arith
most c k own h p answers (makes v i l r g more holds m run) =
    let f = falls c k own h p r g holds m in
    let n = most c k own (hand_came r g (hand_after c h p r)) (leads c h p r) more run in
    omega (arith, f, n)
