-- The table of a send: its locks, and how many steps are left.
use Rattle.std.proofs.Common.{◌≡◌, ◌≢◌, ℕ, ◌+◌, ◌*◌, ◌≤◌, Bool, true, false, not, Some, None, refl, sym, ap, arith}
use Rattle.std.proofs.lemmas.Bool.{false≢true, cond_both, eq-eqb, eqb-true}
use Rattle.std.proofs.lemmas.Grind.{common_steps}
use Rattle.std.specs.Prelude.{◌==◌, slice_get, if◌then◌else◌}
use Rattle.k_ids.specs.declared.state_word.StateWord.{StateWord}
use Rattle.k_model.specs.State.{takes_from}
use Rattle.k_locks.specs.declared.goods.Goods.{Goods}
use Rattle.k_locks.specs.declared.locks.Lock.{Lock}
use Rattle.k_locks.specs.declared.locks.Lock.TheVariants as lock
use Rattle.k_locks.specs.Asks.{Response, is_lost}
use Rattle.k_locks.specs.Hands.{Hand}
use Rattle.k_locks.specs.Locks.{Holds, IsByRank}
use Rattle.k_locks.specs.Shown.{is_present_in, shows}
use Rattle.k_locks.specs.Tables.{IsAbove, IsHeld, IsMade, IsReleasedInTime, IsRising, hand_came, locks_after, misses, there_after}
use Rattle.k_locks.proofs.Responses.{Each, Again, made_by, told_by}
use Rattle.k_locks.proofs.Tables.{IsFalling, is_exchange, released_in_time}
use Rattle.k_ipc.specs.declared.send.SendCall.{SendCall}
use Rattle.k_ipc.specs.declared.send.SendOutside.TheVariants.{LoadCaller, AcquireReceiver, CheckCaller, Ended}
use Rattle.k_ipc.specs.declared.send.SendLocked.{SendLocked}
use Rattle.k_ipc.specs.declared.send.SendLocked.TheVariants.{LoadReceiver, StoreMail, CommitPass, WakeReceiver, ReloadReceiver, AcquireReady, CommitWait, Release}
use Rattle.k_ipc.specs.declared.send.SendRelease.TheVariants as release
use Rattle.k_ipc.specs.declared.send.SendPushing.TheVariants.{PushReceiver}
use Rattle.k_ipc.specs.SendTable.{SendAt, Outside, Locked, Pushing, after_receiver, ask_of, counted, hand_after, leads, left_of, left_ready, left_thread, locks_of, rest_of, rest_thread, seen_of, send_table, stays}
use Rattle.k_ipc.proofs.Held.{by_thread, none_held, own_number}

-- LOCKS

held_by_rank : (c : SendCall) (p : SendAt) → IsByRank (locks_of c p)
held_by_rank c (Outside p) rank l e = grind (arith, common_steps)
held_by_rank c (Locked p) rank l e = grind (arith, common_steps)
held_by_rank c (Pushing p) rank l e = grind (arith, common_steps)

above : (c : SendCall) (own : StateWord) (p : SendAt) → IsAbove (ask_of c own p) (locks_of c p)
above c own (Outside LoadCaller) = tt
above c own (Outside AcquireReceiver) = λ rank m e. absurd (none_held rank m e)
above c own (Outside (CheckCaller r)) = tt
above c own (Outside (Ended w)) = tt
above c own (Locked LoadReceiver) = tt
above c own (Locked (StoreMail w)) = tt
above c own (Locked (CommitPass w)) = tt
above c own (Locked (WakeReceiver w)) = tt
above c own (Locked ReloadReceiver) = tt
above c own (Locked (AcquireReady priority)) = λ rank m e. grind (arith, common_steps)
above c own (Locked CommitWait) = tt
above c own (Locked (Release r)) = tt
above c own (Pushing (PushReceiver priority)) = tt

releases_held : (c : SendCall) (own : StateWord) (p : SendAt) → IsHeld (ask_of c own p) (locks_of c p)
releases_held c own (Outside LoadCaller) = tt
releases_held c own (Outside AcquireReceiver) = tt
releases_held c own (Outside (CheckCaller r)) = tt
releases_held c own (Outside (Ended w)) = tt
releases_held c own (Locked LoadReceiver) = tt
releases_held c own (Locked (StoreMail w)) = tt
releases_held c own (Locked (CommitPass w)) = tt
releases_held c own (Locked (WakeReceiver w)) = tt
releases_held c own (Locked ReloadReceiver) = tt
releases_held c own (Locked (AcquireReady priority)) = tt
releases_held c own (Locked CommitWait) = tt
releases_held c own (Locked (Release r)) = refl
releases_held c own (Pushing (PushReceiver priority)) = refl

-- after each response the locks are those that were held, with the one that was got, without the one that was released
abbrev Follows : SendCall → StateWord → Hand → SendAt → Response → Type 0
Follows c own h p r = locks_of c (leads c h p r) ≡ locks_after (ask_of c own p) r (locks_of c p)

follow : (c : SendCall) (own : StateWord) (h : Hand) (p : SendAt) → Each (ask_of c own p) (Follows c own h p)
follow c own h (Outside LoadCaller) = λ w. refl
follow c own h (Outside AcquireReceiver) = refl
follow c own h (Outside (CheckCaller r)) = λ w. refl
follow c own h (Outside (Ended w)) = λ v. refl
follow c own h (Locked LoadReceiver) = λ w. refl
follow c own h (Locked (StoreMail w)) = refl
follow c own h (Locked (CommitPass w)) = (refl, λ v. refl)
follow c own h (Locked (WakeReceiver w)) = (refl, λ v. refl)
follow c own h (Locked ReloadReceiver) = λ w. refl
follow c own h (Locked (AcquireReady priority)) = refl
follow c own h (Locked CommitWait) = (refl, λ v. refl)
follow c own h (Locked (Release release.Passed)) = refl
follow c own h (Locked (Release release.Dead)) = refl
follow c own h (Locked (Release (release.Refused r))) = refl
follow c own h (Locked (Release release.Queued)) = refl
follow c own h (Pushing (PushReceiver priority)) = refl

follow_again : (c : SendCall) (own : StateWord) (h : Hand) (p : SendAt) → Again (ask_of c own p) (Follows c own h p)
follow_again c own h (Outside LoadCaller) = tt
follow_again c own h (Outside AcquireReceiver) = λ j. refl
follow_again c own h (Outside (CheckCaller r)) = tt
follow_again c own h (Outside (Ended w)) = tt
follow_again c own h (Locked LoadReceiver) = tt
follow_again c own h (Locked (StoreMail w)) = tt
follow_again c own h (Locked (CommitPass w)) = tt
follow_again c own h (Locked (WakeReceiver w)) = tt
follow_again c own h (Locked ReloadReceiver) = tt
follow_again c own h (Locked (AcquireReady priority)) = λ j. refl
follow_again c own h (Locked CommitWait) = tt
follow_again c own h (Locked (Release r)) = tt
follow_again c own h (Pushing (PushReceiver priority)) = tt

pub rising : (c : SendCall) → IsRising (send_table c)
rising c = record {
  none = refl;
  ranked = held_by_rank c;
  rising = above c;
  releasing = releases_held c;
  held = λ own h p r s. told_by (ask_of c own p) r (Follows c own h p) s (follow c own h p) (follow_again c own h p);
}

-- STEPS LEFT

-- One step: what is left falls by it.
abbrev Falls : SendCall → StateWord → Hand → SendAt → Response → Type 0
Falls c own h p r = (there : Bool) → (misses (seen_of c p) (ask_of c own p) r ≡ true → there ≡ false) → 1 + rest_thread (there_after there r) (leads c h p r) ≤ rest_thread there p

received : (c : SendCall) (w : StateWord) (there : Bool) (n : ℕ) → rest_thread there (Locked (StoreMail w)) ≤ n → 2 ≤ n → rest_thread there (Locked (after_receiver c w)) ≤ n
received c w there n l m =
    let P = λ (q : SendLocked). rest_thread there (Locked q) ≤ n in
    cond_both (not (is_present_in w c.to)) _ _ P (λ _. omega (arith, m))
    (λ _. cond_both (takes_from (shows w.state) c.caller c.zero) _ _ P (λ _. l)
    (λ _. cond_both c.zero _ _ P (λ _. omega (arith, m)) (λ _. omega (arith, m))))

woken : (w : StateWord) (there : Bool) → rest_thread there (Locked (if w.on then Release release.Passed else AcquireReady w.priority)) ≤ 3
woken w there = cond_both w.on _ _ (λ (q : SendLocked). rest_thread there (Locked q) ≤ 3) (λ _. omega arith) (λ _. omega arith)

falls : (c : SendCall) (own : StateWord) (h : Hand) (p : SendAt) → left_thread p ≢ 0 → Each (ask_of c own p) (Falls c own h p)
falls c own h (Outside p) held = absurd (held refl)
falls c own h (Locked LoadReceiver) held = λ w there m. let f = received c w true 6 (omega arith) (omega arith) in omega (arith, f)
falls c own h (Locked (StoreMail w)) held = λ there m. two there
  where
    two : (there : Bool) → 1 + (if there then 5 else 7) ≤ (if there then 6 else 8)
    two true = omega arith
    two false = omega arith
falls c own h (Locked (CommitPass w)) held = (λ there m. won there, λ v there m. lost there)
  where
    won : (there : Bool) → 1 + (if there then 4 else 6) ≤ (if there then 5 else 7)
    won true = omega arith
    won false = omega arith

    lost : (there : Bool) → 2 ≤ (if there then 5 else 7)
    lost true = omega arith
    lost false = omega arith
falls c own h (Locked (WakeReceiver w)) held = (λ there m. won there, λ v there m. lost there (m (eq-eqb c.to.number c.to.number refl)))
  where
    won : (there : Bool) → 1 + rest_thread there (Locked (if w.on then Release release.Passed else AcquireReady w.priority)) ≤ (if there then 4 else 6)
    won true = let f = woken w true in omega (arith, f)
    won false = let f = woken w false in omega (arith, f)

    lost : (there : Bool) → there ≡ false → 6 ≤ (if there then 4 else 6)
    lost true q = absurd (false≢true (sym q))
    lost false q = omega arith
falls c own h (Locked ReloadReceiver) held = λ w there m. omega arith
falls c own h (Locked (AcquireReady priority)) held = λ there m. omega arith
falls c own h (Locked CommitWait) held = (λ there m. omega arith, λ v there m. omega arith)
falls c own h (Locked (Release release.Passed)) held = λ there m. omega arith
falls c own h (Locked (Release release.Dead)) held = λ there m. omega arith
falls c own h (Locked (Release (release.Refused r))) held = λ there m. omega arith
falls c own h (Locked (Release release.Queued)) held = λ there m. omega arith
falls c own h (Pushing (PushReceiver priority)) held = λ there m. omega arith

-- One step after which the loaded word is gone: two more are made.
abbrev Misses : SendCall → StateWord → Hand → SendAt → Response → Type 0
Misses c own h p r = 1 + rest_thread false (leads c h p r) ≤ rest_thread (not (is_lost r)) p + 2

missed : (c : SendCall) (own : StateWord) (h : Hand) (p : SendAt) → left_thread p ≢ 0 → Each (ask_of c own p) (Misses c own h p)
missed c own h (Outside p) held = absurd (held refl)
missed c own h (Locked LoadReceiver) held = λ w. let f = received c w false 8 (omega arith) (omega arith) in omega (arith, f)
missed c own h (Locked (StoreMail w)) held = omega arith
missed c own h (Locked (CommitPass w)) held = (omega arith, λ v. omega arith)
missed c own h (Locked (WakeReceiver w)) held = (let f = woken w false in omega (arith, f), λ v. omega arith)
missed c own h (Locked ReloadReceiver) held = λ w. omega arith
missed c own h (Locked (AcquireReady priority)) held = omega arith
missed c own h (Locked CommitWait) held = (omega arith, λ v. omega arith)
missed c own h (Locked (Release release.Passed)) held = omega arith
missed c own h (Locked (Release release.Dead)) held = omega arith
missed c own h (Locked (Release (release.Refused r))) held = omega arith
missed c own h (Locked (Release release.Queued)) held = omega arith
missed c own h (Pushing (PushReceiver priority)) held = omega arith

-- the columns, location by location
least : (p : SendAt) (there : Bool) → rest_thread true p ≤ rest_thread there p
least p true = omega arith
least (Outside p) false = omega arith
least (Locked LoadReceiver) false = omega arith
least (Locked (StoreMail w)) false = omega arith
least (Locked (CommitPass w)) false = omega arith
least (Locked (WakeReceiver w)) false = omega arith
least (Locked ReloadReceiver) false = omega arith
least (Locked (AcquireReady priority)) false = omega arith
least (Locked CommitWait) false = omega arith
least (Locked (Release release.Passed)) false = omega arith
least (Locked (Release release.Dead)) false = omega arith
least (Locked (Release (release.Refused r))) false = omega arith
least (Locked (Release release.Queued)) false = omega arith
least (Pushing (PushReceiver priority)) false = omega arith

-- what `left` counts of the lost exchanges
abbrev IsCounted : SendAt → Type 0
IsCounted p = (rest_thread true p + 2 * counted p ≤ left_thread p) × (rest_thread false p + 2 * counted p ≤ left_thread p + 2)

counts : (p : SendAt) → IsCounted p
counts (Outside p) = (omega arith, omega arith)
counts (Locked LoadReceiver) = (omega arith, omega arith)
counts (Locked (StoreMail w)) = (go w.on, stop w.on)
  where
    go : (on : Bool) → 6 + 2 * (if on then 1 else 0) ≤ (if on then 8 else 6)
    go true = omega arith
    go false = omega arith

    stop : (on : Bool) → 8 + 2 * (if on then 1 else 0) ≤ (if on then 8 else 6) + 2
    stop true = omega arith
    stop false = omega arith
counts (Locked (CommitPass w)) = (go w.on, stop w.on)
  where
    go : (on : Bool) → 5 + 2 * (if on then 1 else 0) ≤ (if on then 7 else 5)
    go true = omega arith
    go false = omega arith

    stop : (on : Bool) → 7 + 2 * (if on then 1 else 0) ≤ (if on then 7 else 5) + 2
    stop true = omega arith
    stop false = omega arith
counts (Locked (WakeReceiver w)) = (omega arith, omega arith)
counts (Locked ReloadReceiver) = (omega arith, omega arith)
counts (Locked (AcquireReady priority)) = (omega arith, omega arith)
counts (Locked CommitWait) = (omega arith, omega arith)
counts (Locked (Release release.Passed)) = (omega arith, omega arith)
counts (Locked (Release release.Dead)) = (omega arith, omega arith)
counts (Locked (Release (release.Refused r))) = (omega arith, omega arith)
counts (Locked (Release release.Queued)) = (omega arith, omega arith)
counts (Pushing (PushReceiver priority)) = (omega arith, omega arith)

abbrev AreSame : ℕ → ℕ → Type 0
AreSame a b = a ≡ b

left_rest : (p : SendAt) → left_thread p ≡ rest_thread (stays p) p
left_rest (Outside p) = refl
left_rest (Locked LoadReceiver) = refl
left_rest (Locked (StoreMail w)) = go w.on
  where
    go : (on : Bool) → AreSame (if on then 8 else 6) (if not on then 6 else 8)
    go true = refl
    go false = refl
left_rest (Locked (CommitPass w)) = go w.on
  where
    go : (on : Bool) → AreSame (if on then 7 else 5) (if not on then 5 else 7)
    go true = refl
    go false = refl
left_rest (Locked (WakeReceiver w)) = refl
left_rest (Locked ReloadReceiver) = refl
left_rest (Locked (AcquireReady priority)) = refl
left_rest (Locked CommitWait) = refl
left_rest (Locked (Release release.Passed)) = refl
left_rest (Locked (Release release.Dead)) = refl
left_rest (Locked (Release (release.Refused r))) = refl
left_rest (Locked (Release release.Queued)) = refl
left_rest (Pushing (PushReceiver priority)) = refl

-- a lock is left while it is held
some_locked : (p : SendLocked) → 1 ≤ left_thread (Locked p)
some_locked LoadReceiver = omega arith
some_locked (StoreMail w) = cond_both w.on 8 6 (λ (n : ℕ). 1 ≤ n) (λ _. omega arith) (λ _. omega arith)
some_locked (CommitPass w) = cond_both w.on 7 5 (λ (n : ℕ). 1 ≤ n) (λ _. omega arith) (λ _. omega arith)
some_locked (WakeReceiver w) = omega arith
some_locked ReloadReceiver = omega arith
some_locked (AcquireReady priority) = omega arith
some_locked CommitWait = omega arith
some_locked (Release release.Passed) = omega arith
some_locked (Release release.Dead) = omega arith
some_locked (Release (release.Refused r)) = omega arith
some_locked (Release release.Queued) = omega arith

ready_falls : (c : SendCall) (own : StateWord) (h : Hand) (p : SendAt) → Holds lock.Ready (locks_of c p) → Each (ask_of c own p) (λ r. 1 + left_ready (leads c h p r) ≤ left_ready p)
ready_falls c own h (Outside p) holds = absurd cc
ready_falls c own h (Locked p) holds = absurd cc
ready_falls c own h (Pushing (PushReceiver priority)) holds = omega arith

-- THE TABLE

-- What holds of the thread lock, and, where the ready lock is held, of that, holds of any lock that is held.
by_lock : (c : SendCall) (k : Lock) (p : SendAt) (P : Lock → Type 0) → Holds k (locks_of c p) → (1 ≤ left_thread p → P (lock.Thread c.to.number)) → (Holds lock.Ready (locks_of c p) → P lock.Ready) → P k
by_lock c lock.Table (Outside p) P h thread ready = absurd cc
by_lock c (lock.Thread n) (Outside p) P h thread ready = absurd cc
by_lock c lock.Ready (Outside p) P h thread ready = absurd cc
by_lock c k (Locked p) P h thread ready = by_thread c.to.number None k P h (thread (some_locked p)) (λ e. absurd cc)
by_lock c k (Pushing (PushReceiver priority)) P h thread ready = by_thread c.to.number (Some lock.Ready) k P h (thread (omega arith)) (λ e. ready refl)

table_falls : (c : SendCall) (k : Lock) (own : StateWord) (h : Hand) (p : SendAt) (r : Response) (g : Goods) (there : Bool) → Holds k (locks_of c p) → IsMade (send_table c) own h p r g → (misses (seen_of c p) (ask_of c own p) r ≡ true → there ≡ false) → 1 + rest_of c (hand_came r g (hand_after c h p r)) (there_after there r) (leads c h p r) k ≤ rest_of c h there p k
table_falls c k own h p r g there holds made m =
    by_lock c k p (λ (l : Lock). 1 + rest_of c (hand_came r g (hand_after c h p r)) (there_after there r) (leads c h p r) l ≤ rest_of c h there p l) holds
    (λ held.
    let f = made_by (ask_of c own p) r (Falls c own h p) made.suiting made.made (falls c own h p (λ e. absurd (omega (arith, held, e)))) there m in
    let after = own_number c.to.number (rest_thread (there_after there r) (leads c h p r)) in
    let before = own_number c.to.number (rest_thread there p) in
    omega (arith, f, after, before))
    (λ lists. made_by (ask_of c own p) r (λ x. 1 + left_ready (leads c h p x) ≤ left_ready p) made.suiting made.made (ready_falls c own h p lists))

table_missed : (c : SendCall) (k : Lock) (own : StateWord) (h : Hand) (p : SendAt) (r : Response) (g : Goods) → Holds k (locks_of c p) → IsMade (send_table c) own h p r g → 1 + rest_of c (hand_came r g (hand_after c h p r)) false (leads c h p r) k ≤ rest_of c h (not (is_lost r)) p k + 2
table_missed c k own h p r g holds made =
    by_lock c k p (λ (l : Lock). 1 + rest_of c (hand_came r g (hand_after c h p r)) false (leads c h p r) l ≤ rest_of c h (not (is_lost r)) p l + 2) holds
    (λ held.
    let f = made_by (ask_of c own p) r (Misses c own h p) made.suiting made.made (missed c own h p (λ e. absurd (omega (arith, held, e)))) in
    let after = own_number c.to.number (rest_thread false (leads c h p r)) in
    let before = own_number c.to.number (rest_thread (not (is_lost r)) p) in
    omega (arith, f, after, before))
    (λ lists. let f = made_by (ask_of c own p) r (λ x. 1 + left_ready (leads c h p x) ≤ left_ready p) made.suiting made.made (ready_falls c own h p lists) in omega (arith, f))

table_least : (c : SendCall) (h : Hand) (p : SendAt) (there : Bool) (k : Lock) → rest_of c h true p k ≤ rest_of c h there p k
table_least c h p there lock.Table = omega arith
table_least c h p there (lock.Thread number) = go (number == c.to.number)
  where
    go : (b : Bool) → (if b then rest_thread true p else 0) ≤ (if b then rest_thread there p else 0)
    go true = least p there
    go false = omega arith
table_least c h p there lock.Ready = omega arith

-- while the ready lock is held, no exchange is asked for, and none was counted
quiet : (c : SendCall) (own : StateWord) (p : SendAt) → Holds lock.Ready (locks_of c p) → is_exchange (ask_of c own p) ≡ false
quiet c own (Outside p) holds = absurd cc
quiet c own (Locked p) holds = absurd cc
quiet c own (Pushing (PushReceiver priority)) holds = refl

ready_column : (c : SendCall) (p : SendAt) → Holds lock.Ready (locks_of c p) → (counted p ≡ 0) × (1 ≤ left_ready p)
ready_column c (Outside p) holds = absurd cc
ready_column c (Locked p) holds = absurd cc
ready_column c (Pushing (PushReceiver priority)) holds = (refl, omega arith)

table_low : (c : SendCall) (h : Hand) (p : SendAt) (k : Lock) → Holds k (locks_of c p) → rest_of c h true p k + 2 * counted p ≤ left_of c h p k
table_low c h p k holds =
    by_lock c k p (λ (l : Lock). rest_of c h true p l + 2 * counted p ≤ left_of c h p l) holds
    (λ held. let f = (counts p).0 in let a = own_number c.to.number (rest_thread true p) in let b = own_number c.to.number (left_thread p) in omega (arith, f, a, b))
    (λ lists. let f = (ready_column c p lists).0 in omega (arith, f))

table_high : (c : SendCall) (h : Hand) (p : SendAt) (k : Lock) → Holds k (locks_of c p) → rest_of c h false p k + 2 * counted p ≤ left_of c h p k + 2
table_high c h p k holds =
    by_lock c k p (λ (l : Lock). rest_of c h false p l + 2 * counted p ≤ left_of c h p l + 2) holds
    (λ held. let f = (counts p).1 in let a = own_number c.to.number (rest_thread false p) in let b = own_number c.to.number (left_thread p) in omega (arith, f, a, b))
    (λ lists. let f = (ready_column c p lists).0 in omega (arith, f))

table_columns : (c : SendCall) (h : Hand) (p : SendAt) (k : Lock) → left_of c h p k ≡ rest_of c h (stays p) p k
table_columns c h p lock.Table = refl
table_columns c h p (lock.Thread number) = ap (λ (x : ℕ). if number == c.to.number then x else 0) (left_rest p)
table_columns c h p lock.Ready = refl

table_some : (c : SendCall) (h : Hand) (p : SendAt) (k : Lock) → Holds k (locks_of c p) → 1 ≤ left_of c h p k
table_some c h p k holds =
    by_lock c k p (λ (l : Lock). 1 ≤ left_of c h p l) holds
    (λ held. let b = own_number c.to.number (left_thread p) in omega (arith, held, b))
    (λ lists. (ready_column c p lists).1)

-- a lock of which steps are left is held
thread_held : (c : SendCall) (p : SendAt) (number : ℕ) (b : Bool) → (number == c.to.number) ≡ b → 1 ≤ (if b then left_thread p else 0) → slice_get (locks_of c p) 1 ≡ Some (Some (lock.Thread number))
thread_held c (Outside p) number true q l = absurd (omega (arith, l))
thread_held c (Locked p) number true q l = ap (λ (x : ℕ). Some (Some (lock.Thread x))) (sym (eqb-true number c.to.number q))
thread_held c (Pushing p) number true q l = ap (λ (x : ℕ). Some (Some (lock.Thread x))) (sym (eqb-true number c.to.number q))
thread_held c p number false q l = absurd (omega (arith, l))

table_only : (c : SendCall) (h : Hand) (p : SendAt) (k : Lock) → 1 ≤ left_of c h p k → Holds k (locks_of c p)
table_only c h p lock.Table l = absurd (omega (arith, l))
table_only c h p (lock.Thread number) l = thread_held c p number (number == c.to.number) refl l
table_only c h (Outside p) lock.Ready l = absurd (omega (arith, l))
table_only c h (Locked p) lock.Ready l = absurd (omega (arith, l))
table_only c h (Pushing p) lock.Ready l = refl

falling : (c : SendCall) → IsFalling (send_table c)
falling c = record {
  start = λ h. tt;
  keeps = λ own h p r g fits made. tt;
  falls = λ k own h p r g there fits. table_falls c k own h p r g there;
  missed = λ k own h p r g fits. table_missed c k own h p r g;
  above = λ h p there k fits. table_least c h p there k;
  low = λ h p k fits. table_low c h p k;
  high = λ h p k fits. table_high c h p k;
  quiet = quiet c;
  columns = table_columns c;
  some = λ h p k fits. table_some c h p k;
  only = table_only c;
}

pub in_time : (c : SendCall) → IsReleasedInTime (send_table c)
in_time c = released_in_time (send_table c) (falling c)
