-- A create: its locks, and how many steps are left.
use Rattle.std.proofs.Common.{◌≡◌, ℕ, ◌+◌, ◌≤◌, true, false, Option, Some, None, List, length, refl, arith}
use Rattle.std.proofs.lemmas.Bool.{cond_both}
use Rattle.std.proofs.lemmas.Grind.{common_steps}
use Rattle.k_ids.specs.declared.state_word.StateWord.{StateWord}
use Rattle.k_locks.specs.declared.goods.Goods.{Goods}
use Rattle.k_locks.specs.declared.locks.Lock.{Lock}
use Rattle.k_locks.specs.declared.locks.Lock.TheVariants as lock
use Rattle.k_locks.specs.Asks.{Response, suits_response}
use Rattle.k_locks.specs.Hands.{Hand}
use Rattle.k_locks.specs.Locks.{Holds, IsByRank, rank_of}
use Rattle.k_locks.specs.Numbers.{ThreadNumbers, lowest_free}
use Rattle.k_locks.specs.Shown.{is_dead}
use Rattle.k_locks.specs.Tables.{IsAbove, IsHeld, IsMade, IsReleasedInTime, IsRising, Run, hand_came, locks_after, makes, stops}
use Rattle.k_locks.proofs.Responses.{made_by, told_by}
use Rattle.k_locks.proofs.Tables.{IsFalling, is_exchange, released_in_time}
use Rattle.k_threads.specs.declared.create.CreateCall.{CreateCall}
use Rattle.k_threads.specs.declared.create.CreateLocked.TheVariants.{LoadCaller, PlaceContext, CommitCreate, AcquireReady, Release}
use Rattle.k_threads.specs.declared.create.CreateOutside.TheVariants.{AcquireTable, Ended}
use Rattle.k_threads.specs.CreateTable.{CreateAt, IsNotLost, Locked, Outside, PushCreated, ask_of, choose, create_table, hand_after, leads, left_of, left_ready, left_table, locks_of}
use Rattle.k_threads.proofs.Held.{nothing_held, table_ready_ranked, table_ranked}

-- LOCKS

ranked : (c : CreateCall) (p : CreateAt) → IsByRank (locks_of c p)
ranked c (Outside p) rank l e = absurd (nothing_held rank l e)
ranked c (Locked p) rank l e = table_ranked rank l e
ranked c (PushCreated id) rank l e = table_ready_ranked rank l e

above : (c : CreateCall) (own : StateWord) (p : CreateAt) → IsAbove (ask_of c own p) (locks_of c p)
above c own (Outside AcquireTable) = λ rank m e. absurd (nothing_held rank m e)
above c own (Outside (Ended w)) = tt
above c own (Locked LoadCaller) = tt
above c own (Locked (PlaceContext id)) = tt
above c own (Locked (CommitCreate id)) = tt
above c own (Locked (AcquireReady id)) = λ rank m e. grind (arith, common_steps)
above c own (Locked (Release r)) = tt
above c own (PushCreated id) = tt

releasing : (c : CreateCall) (own : StateWord) (p : CreateAt) → IsHeld (ask_of c own p) (locks_of c p)
releasing c own (Outside AcquireTable) = tt
releasing c own (Outside (Ended w)) = tt
releasing c own (Locked LoadCaller) = tt
releasing c own (Locked (PlaceContext id)) = tt
releasing c own (Locked (CommitCreate id)) = tt
releasing c own (Locked (AcquireReady id)) = tt
releasing c own (Locked (Release r)) = refl
releasing c own (PushCreated id) = refl

-- the locks after a step
abbrev Follows : CreateCall → StateWord → Hand → CreateAt → Response → Type 0
Follows c own h p r = locks_of c (leads c h p r) ≡ locks_after (ask_of c own p) r (locks_of c p)

held : (c : CreateCall) (own : StateWord) (h : Hand) (p : CreateAt) (r : Response) → suits_response (ask_of c own p) r ≡ true → Follows c own h p r
held c own h (Outside AcquireTable) r s = told_by (ask_of c own (Outside AcquireTable)) r (Follows c own h (Outside AcquireTable)) s refl (λ owner. refl)
held c own h (Outside (Ended w)) r s = told_by (ask_of c own (Outside (Ended w))) r (Follows c own h (Outside (Ended w))) s (λ v. refl) tt
held c own h (Locked LoadCaller) r s = told_by (ask_of c own (Locked LoadCaller)) r (Follows c own h (Locked LoadCaller)) s (λ v. refl) tt
held c own h (Locked (PlaceContext id)) r s = told_by (ask_of c own (Locked (PlaceContext id))) r (Follows c own h (Locked (PlaceContext id))) s refl tt
held c own h (Locked (CommitCreate id)) r s = told_by (ask_of c own (Locked (CommitCreate id))) r (Follows c own h (Locked (CommitCreate id))) s (refl, λ v. refl) tt
held c own h (Locked (AcquireReady id)) r s = told_by (ask_of c own (Locked (AcquireReady id))) r (Follows c own h (Locked (AcquireReady id))) s refl (λ owner. refl)
held c own h (Locked (Release e)) r s = told_by (ask_of c own (Locked (Release e))) r (Follows c own h (Locked (Release e))) s refl tt
held c own h (PushCreated id) r s = told_by (ask_of c own (PushCreated id)) r (Follows c own h (PushCreated id)) s refl tt

pub rises : (c : CreateCall) → IsRising (create_table c)
rises c = record { none = refl; ranked = ranked c; rising = above c; releasing = releasing c; held = held c }

-- STEPS LEFT

-- each step of one that isn't lost leaves one step less up to the release of the table lock
abbrev Falls : CreateCall → Hand → CreateAt → Response → Type 0
Falls c h p r = IsNotLost r → 1 + left_table (leads c h p r) ≤ left_table p

chosen_left : (n : ThreadNumbers) (o : Option ℕ) → 1 + left_table (Locked (choose n o)) ≤ 6
chosen_left n None = omega arith
chosen_left n (Some number) = omega arith

table_falls : (c : CreateCall) (own : StateWord) (h : Hand) (p : CreateAt) (r : Response) (g : Goods) → Holds lock.Table (locks_of c p) → IsMade (create_table c) own h p r g → 1 + left_table (leads c h p r) ≤ left_table p
table_falls c own h (Outside p) r g holds m = absurd (nothing_held 0 lock.Table holds)
table_falls c own h (Locked LoadCaller) r g holds m = made_by (ask_of c own (Locked LoadCaller)) r (Falls c h (Locked LoadCaller)) m.suiting m.made (λ w kept. cond_both (is_dead w) _ _ (λ q. 1 + left_table (Locked q) ≤ 6) (λ _. omega arith) (λ _. chosen_left h.numbers (lowest_free h.numbers))) m.allowed
table_falls c own h (Locked (PlaceContext id)) r g holds m = made_by (ask_of c own (Locked (PlaceContext id))) r (Falls c h (Locked (PlaceContext id))) m.suiting m.made (λ kept. omega arith) m.allowed
table_falls c own h (Locked (CommitCreate id)) r g holds m = made_by (ask_of c own (Locked (CommitCreate id))) r (Falls c h (Locked (CommitCreate id))) m.suiting m.made (λ kept. omega arith, λ w lost. absurd lost) m.allowed
table_falls c own h (Locked (AcquireReady id)) r g holds m = made_by (ask_of c own (Locked (AcquireReady id))) r (Falls c h (Locked (AcquireReady id))) m.suiting m.made (λ kept. omega arith) m.allowed
table_falls c own h (Locked (Release e)) r g holds m = made_by (ask_of c own (Locked (Release e))) r (Falls c h (Locked (Release e))) m.suiting m.made (λ kept. omega arith) m.allowed
table_falls c own h (PushCreated id) r g holds m = made_by (ask_of c own (PushCreated id)) r (Falls c h (PushCreated id)) m.suiting m.made (λ kept. omega arith) m.allowed

no_thread : (c : CreateCall) (p : CreateAt) (n : ℕ) → Holds (lock.Thread n) (locks_of c p) → ⊥
no_thread c (Outside p) n holds = absurd (nothing_held 1 (lock.Thread n) holds)
no_thread c (Locked p) n holds = grind (arith, common_steps)
no_thread c (PushCreated id) n holds = grind (arith, common_steps)

ready_falls : (c : CreateCall) (own : StateWord) (h : Hand) (p : CreateAt) (r : Response) (g : Goods) → Holds lock.Ready (locks_of c p) → IsMade (create_table c) own h p r g → 1 + left_ready (leads c h p r) ≤ left_ready p
ready_falls c own h (Outside p) r g holds m = absurd (nothing_held 2 lock.Ready holds)
ready_falls c own h (Locked p) r g holds m = absurd (grind (arith, common_steps))
ready_falls c own h (PushCreated id) r g holds m = made_by (ask_of c own (PushCreated id)) r (λ q. 1 + left_ready (leads c h (PushCreated id) q) ≤ 1) m.suiting m.made (omega arith)

falls : (c : CreateCall) (k : Lock) (own : StateWord) (h h' : Hand) (p : CreateAt) (r : Response) (g : Goods) → Holds k (locks_of c p) → IsMade (create_table c) own h p r g → 1 + left_of c h' (leads c h p r) k ≤ left_of c h p k
falls c lock.Table own h h' p r g holds m = table_falls c own h p r g holds m
falls c (lock.Thread n) own h h' p r g holds m = absurd (no_thread c p n holds)
falls c lock.Ready own h h' p r g holds m = ready_falls c own h p r g holds m

some : (c : CreateCall) (h : Hand) (p : CreateAt) (k : Lock) → Holds k (locks_of c p) → 1 ≤ left_of c h p k
some c h (Outside p) k holds = absurd (nothing_held (rank_of k) k holds)
some c h p (lock.Thread n) holds = absurd (no_thread c p n holds)
some c h (Locked LoadCaller) lock.Table holds = omega arith
some c h (Locked (PlaceContext id)) lock.Table holds = omega arith
some c h (Locked (CommitCreate id)) lock.Table holds = omega arith
some c h (Locked (AcquireReady id)) lock.Table holds = omega arith
some c h (Locked (Release r)) lock.Table holds = omega arith
some c h (Locked p) lock.Ready holds = absurd (grind (arith, common_steps))
some c h (PushCreated id) lock.Table holds = omega arith
some c h (PushCreated id) lock.Ready holds = omega arith

only : (c : CreateCall) (h : Hand) (p : CreateAt) (k : Lock) → 1 ≤ left_of c h p k → Holds k (locks_of c p)
only c h (Outside p) lock.Table l = absurd (omega (arith, l))
only c h (Locked p) lock.Table l = refl
only c h (PushCreated id) lock.Table l = refl
only c h p (lock.Thread n) l = absurd (omega (arith, l))
only c h (Outside p) lock.Ready l = absurd (omega (arith, l))
only c h (Locked p) lock.Ready l = absurd (omega (arith, l))
only c h (PushCreated id) lock.Ready l = refl

quiet : (c : CreateCall) (own : StateWord) (p : CreateAt) → Holds lock.Ready (locks_of c p) → is_exchange (ask_of c own p) ≡ false
quiet c own (Outside p) holds = absurd (nothing_held 2 lock.Ready holds)
quiet c own (Locked p) holds = absurd (grind (arith, common_steps))
quiet c own (PushCreated id) holds = refl

falling : (c : CreateCall) → IsFalling (create_table c)
falling c = record {
  start = λ h. tt;
  keeps = λ own h p r g fits m. tt;
  falls = λ k own h p r g there fits holds m missed. falls c k own h (hand_came r g (hand_after c h p r)) p r g holds m;
  missed = λ k own h p r g fits holds m. let f = falls c k own h (hand_came r g (hand_after c h p r)) p r g holds m in omega (arith, f);
  above = λ h p there k fits. omega arith;
  low = λ h p k fits holds. omega arith;
  high = λ h p k fits holds. omega arith;
  quiet = quiet c;
  columns = λ h p k. refl;
  some = λ h p k fits holds. some c h p k holds;
  only = only c;
}

pub in_time : (c : CreateCall) → IsReleasedInTime (create_table c)
in_time c = released_in_time (create_table c) (falling c)

pub most : (c : CreateCall) (k : Lock) (own : StateWord) (h : Hand) (p : CreateAt) (answers : List Response) → Run (create_table c) k own h p answers → length answers ≤ left_of c h p k
most c k own h p answers (stops v i l) = omega arith
most c k own h p answers (makes v i l r g more holds m run) =
    let f = falls c k own h (hand_came r g (hand_after c h p r)) p r g holds m in
    let n = most c k own (hand_came r g (hand_after c h p r)) (leads c h p r) more run in
    omega (arith, f, n)
