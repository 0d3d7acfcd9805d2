-- The table of a receive: its locks, and how many steps are left.
use Rattle.std.proofs.Common.{◌≡◌, ◌≢◌, ℕ, zero, suc, ◌+◌, ◌*◌, ◌≤◌, Bool, true, false, not, Option, Some, None, List, refl, sym, ap, arith}
use Rattle.std.proofs.lemmas.Bool.{false≢true, cond_both, eq-eqb, eqb-true}
use Rattle.std.proofs.lemmas.Grind.{common_steps}
use Rattle.std.specs.Prelude.{◌==◌, slice_get, if◌then◌else◌}
use Rattle.k_ids.specs.declared.threads.ThreadId.{ThreadId}
use Rattle.k_ids.specs.declared.state_word.State.{State}
use Rattle.k_ids.specs.declared.state_word.State.TheVariants as state
use Rattle.k_ids.specs.declared.state_word.StateWord.{StateWord}
use Rattle.k_senders.specs.declared.entries.SenderEntry.{SenderEntry}
use Rattle.k_senders.specs.Entries.{number_of}
use Rattle.k_senders.specs.Queue.{IsOnceEach, Queue}
use Rattle.k_locks.specs.declared.goods.Goods.{Goods}
use Rattle.k_locks.specs.declared.goods.Goods.TheVariants as goods
use Rattle.k_locks.specs.declared.locks.Lock.{Lock}
use Rattle.k_locks.specs.declared.locks.Lock.TheVariants as lock
use Rattle.k_locks.specs.Asks as asks
use Rattle.k_locks.specs.Asks.{Response, is_lost}
use Rattle.k_locks.specs.Hands.{Hand}
use Rattle.k_locks.specs.Locks.{Holds, IsByRank}
use Rattle.k_locks.specs.Shown.{is_dead, is_present_in}
use Rattle.k_locks.specs.Tables.{IsAbove, IsHeld, IsMade, IsReleasedInTime, IsRising, brings, hand_came, locks_after, misses, there_after}
use Rattle.k_locks.proofs.Responses.{Each, Again, made_by, told_by}
use Rattle.k_locks.proofs.Tables.{IsFalling, is_exchange, released_in_time}
use Rattle.k_ipc.specs.declared.receive.ReceiveCall.{ReceiveCall}
use Rattle.k_ipc.specs.declared.receive.ReceiveOutside.TheVariants.{LoadCaller, AcquireOwn, Ended}
use Rattle.k_ipc.specs.declared.receive.ReceiveLocked.{ReceiveLocked}
use Rattle.k_ipc.specs.declared.receive.ReceiveLocked.TheVariants.{LoadOwn, LoadSender, FreeSender, AcquireReady, CommitWait, LoadPartner, CommitGone, LoadPicking, LoadNext, FreeNext, EndPick, SettlePick, Release}
use Rattle.k_ipc.specs.declared.receive.ReceiveRelease.TheVariants as release
use Rattle.k_ipc.specs.declared.receive.ReceivePushing.TheVariants.{LoadFreed, PushFreed}
use Rattle.k_ipc.specs.Candidates.{admitted, first_admitted, past}
use Rattle.k_ipc.specs.ReceiveTable.{IsAllowed, IsCandidate, IsChosen, IsCounted, ReceiveAt, Outside, Locked, Pushing, after_free, after_wait, ask_of, candidates_after, candidates_from, counted, first_locked, hand_after, leads, left_none, left_of, left_own, left_picking, left_ready, left_thread, left_wait, locks_of, none_left, picking_by, receive_table, rest_of, rest_thread, seen_of, stays_out, still_waits, try_next, try_sender}
use Rattle.k_ipc.proofs.Chosen.{first_is, next_is, some_left}
use Rattle.k_ipc.proofs.Held.{by_thread, none_held, own_number}

-- LOCKS

held_by_rank : (c : ReceiveCall) (p : ReceiveAt) → IsByRank (locks_of c p)
held_by_rank c (Outside p) rank l e = grind (arith, common_steps)
held_by_rank c (Locked p) rank l e = grind (arith, common_steps)
held_by_rank c (Pushing p) rank l e = grind (arith, common_steps)

above : (c : ReceiveCall) (own : StateWord) (p : ReceiveAt) → IsAbove (ask_of c own p) (locks_of c p)
above c own (Outside LoadCaller) = tt
above c own (Outside AcquireOwn) = λ rank m e. absurd (none_held rank m e)
above c own (Outside (Ended w)) = tt
above c own (Locked LoadOwn) = tt
above c own (Locked (LoadSender d)) = tt
above c own (Locked (FreeSender d w)) = tt
above c own (Locked (AcquireReady d)) = λ rank m e. grind (arith, common_steps)
above c own (Locked CommitWait) = tt
above c own (Locked (LoadPartner from)) = tt
above c own (Locked (CommitGone from)) = tt
above c own (Locked LoadPicking) = tt
above c own (Locked (LoadNext d)) = tt
above c own (Locked (FreeNext d w)) = tt
above c own (Locked (EndPick d w)) = tt
above c own (Locked SettlePick) = tt
above c own (Locked (Release r)) = tt
above c own (Pushing (LoadFreed d)) = tt
above c own (Pushing (PushFreed d w)) = tt

releases_held : (c : ReceiveCall) (own : StateWord) (p : ReceiveAt) → IsHeld (ask_of c own p) (locks_of c p)
releases_held c own (Outside LoadCaller) = tt
releases_held c own (Outside AcquireOwn) = tt
releases_held c own (Outside (Ended w)) = tt
releases_held c own (Locked LoadOwn) = tt
releases_held c own (Locked (LoadSender d)) = tt
releases_held c own (Locked (FreeSender d w)) = tt
releases_held c own (Locked (AcquireReady d)) = tt
releases_held c own (Locked CommitWait) = tt
releases_held c own (Locked (LoadPartner from)) = tt
releases_held c own (Locked (CommitGone from)) = tt
releases_held c own (Locked LoadPicking) = tt
releases_held c own (Locked (LoadNext d)) = tt
releases_held c own (Locked (FreeNext d w)) = tt
releases_held c own (Locked (EndPick d w)) = tt
releases_held c own (Locked SettlePick) = tt
releases_held c own (Locked (Release r)) = refl
releases_held c own (Pushing (LoadFreed d)) = tt
releases_held c own (Pushing (PushFreed d w)) = refl

-- after each response the locks are those that were held, with the one that was got, without the one that was released
abbrev Follows : ReceiveCall → StateWord → Hand → ReceiveAt → Response → Type 0
Follows c own h p r = locks_of c (leads c h p r) ≡ locks_after (ask_of c own p) r (locks_of c p)

follow : (c : ReceiveCall) (own : StateWord) (h : Hand) (p : ReceiveAt) → Each (ask_of c own p) (Follows c own h p)
follow c own h (Outside LoadCaller) = λ v. refl
follow c own h (Outside AcquireOwn) = refl
follow c own h (Outside (Ended w)) = λ v. refl
follow c own h (Locked LoadOwn) = λ v. refl
follow c own h (Locked (LoadSender d)) = λ v. refl
follow c own h (Locked (FreeSender d w)) = (refl, λ v. refl)
follow c own h (Locked (AcquireReady d)) = refl
follow c own h (Locked CommitWait) = (refl, λ v. refl)
follow c own h (Locked (LoadPartner from)) = λ v. refl
follow c own h (Locked (CommitGone from)) = (refl, λ v. refl)
follow c own h (Locked LoadPicking) = λ v. refl
follow c own h (Locked (LoadNext d)) = λ v. refl
follow c own h (Locked (FreeNext d w)) = (refl, λ v. refl)
follow c own h (Locked (EndPick d w)) = (refl, λ v. refl)
follow c own h (Locked SettlePick) = (refl, λ v. refl)
follow c own h (Locked (Release r)) = refl
follow c own h (Pushing (LoadFreed d)) = λ v. refl
follow c own h (Pushing (PushFreed d w)) = refl

follow_again : (c : ReceiveCall) (own : StateWord) (h : Hand) (p : ReceiveAt) → Again (ask_of c own p) (Follows c own h p)
follow_again c own h (Outside LoadCaller) = tt
follow_again c own h (Outside AcquireOwn) = λ j. refl
follow_again c own h (Outside (Ended w)) = tt
follow_again c own h (Locked LoadOwn) = tt
follow_again c own h (Locked (LoadSender d)) = tt
follow_again c own h (Locked (FreeSender d w)) = tt
follow_again c own h (Locked (AcquireReady d)) = λ j. refl
follow_again c own h (Locked CommitWait) = tt
follow_again c own h (Locked (LoadPartner from)) = tt
follow_again c own h (Locked (CommitGone from)) = tt
follow_again c own h (Locked LoadPicking) = tt
follow_again c own h (Locked (LoadNext d)) = tt
follow_again c own h (Locked (FreeNext d w)) = tt
follow_again c own h (Locked (EndPick d w)) = tt
follow_again c own h (Locked SettlePick) = tt
follow_again c own h (Locked (Release r)) = tt
follow_again c own h (Pushing (LoadFreed d)) = tt
follow_again c own h (Pushing (PushFreed d w)) = tt

pub rising : (c : ReceiveCall) → IsRising (receive_table c)
rising c = record {
  none = refl;
  ranked = held_by_rank c;
  rising = above c;
  releasing = releases_held c;
  held = λ own h p r s. told_by (ask_of c own p) r (Follows c own h p) s (follow c own h p) (follow_again c own h p);
}

-- CANDIDATES

one_left : (c : ReceiveCall) (h : Hand) (d : SenderEntry) → IsCandidate c h.queue d → 1 ≤ candidates_from c h d
one_left c h d i = let s = some_left c.from h.queue.entries d i.standing i.wanted in omega (arith, s)

chosen_next : (c : ReceiveCall) (queue : Queue) (o : Option SenderEntry) (es : List SenderEntry) → ((e : SenderEntry) → first_admitted c.from es ≡ Some e → IsCandidate c queue e) → first_admitted c.from es ≡ o → IsChosen c queue (try_sender c o) × IsChosen c queue (try_next o)
chosen_next c queue (Some e) es f q = (f e q, f e q)
chosen_next c queue None es f q = (cond_both c.zero _ _ (IsChosen c queue) (λ _. tt) (λ _. tt), tt)

first_chosen : (c : ReceiveCall) (h : Hand) → IsOnceEach h.queue.entries → (e : SenderEntry) → first_admitted c.from h.queue.entries ≡ Some e → IsCandidate c h.queue e
first_chosen c h o e q = let f = first_is c.from h.queue.entries e o q in record { standing = f.standing; wanted = f.wanted }

later_chosen : (c : ReceiveCall) (h : Hand) (d : SenderEntry) → IsOnceEach h.queue.entries → IsCandidate c h.queue d → (e : SenderEntry) → first_admitted c.from (past (number_of d) h.queue.entries) ≡ Some e → IsCandidate c h.queue e
later_chosen c h d o i e q = let f = next_is c.from h.queue.entries d e o i.standing i.wanted q in record { standing = f.standing; wanted = f.wanted }

picked_chosen : (c : ReceiveCall) (queue : Queue) (o : Option SenderEntry) (s : State) → IsChosen c queue (try_next o) → IsChosen c queue (picking_by o s)
picked_chosen c queue o state.Dead i = tt
picked_chosen c queue o state.Picking i = i
picked_chosen c queue o (state.Run r) i = tt
picked_chosen c queue o (state.Sending to joined) i = tt
picked_chosen c queue o (state.Receiving from) i = tt
picked_chosen c queue o state.Ended i = tt

freed_chosen : (c : ReceiveCall) (queue : Queue) (e : SenderEntry) (w : StateWord) → IsChosen c queue (after_free e w)
freed_chosen c queue e w = cond_both (stays_out w) _ _ (IsChosen c queue) (λ _. tt) (λ _. tt)

waits_chosen : (c : ReceiveCall) (queue : Queue) (o : Option ThreadId) → IsChosen c queue (after_wait o)
waits_chosen c queue None = tt
waits_chosen c queue (Some from) = tt

-- What `left` takes for granted holds after a step: the queue in hand is as it was, and a candidate of it is tried.
abbrev Keeps : ReceiveCall → StateWord → Hand → ReceiveAt → Response → Type 0
Keeps c own h p r = (g : Goods) → brings (ask_of c own p) r g ≡ true → IsAllowed (hand_came r g (hand_after c h p r)) p r → IsCounted c (hand_came r g (hand_after c h p r)) (leads c h p r)

lists_come : (h : Hand) (g : Goods) → brings (asks.Acquire lock.Ready) asks.Got g ≡ true → IsOnceEach h.queue.entries → IsOnceEach (hand_came asks.Got g h).queue.entries
lists_come h (goods.Ready lists) b u = u
lists_come h (goods.Senders queue) b u = absurd (false≢true b)
lists_come h (goods.Numbers numbers) b u = absurd (false≢true b)

first_chosen_of : (c : ReceiveCall) (queue : Queue) → IsChosen c queue (first_locked c)
first_chosen_of c queue = cond_both c.picks _ _ (IsChosen c queue) (λ _. tt) (λ _. tt)

keeps : (c : ReceiveCall) (own : StateWord) (h : Hand) (p : ReceiveAt) → IsCounted c h p → Each (ask_of c own p) (Keeps c own h p)
keeps c own h (Outside LoadCaller) i = λ w g b a. tt
keeps c own h (Outside AcquireOwn) i = λ g b a. (a, first_chosen_of c (hand_came asks.Got g h).queue)
keeps c own h (Outside (Ended w)) i = λ v g b a. tt
keeps c own h (Locked LoadOwn) i = λ w g b a. (i.0, cond_both (is_dead w) _ _ (IsChosen c h.queue) (λ _. tt) (λ _. (chosen_next c h.queue (first_admitted c.from h.queue.entries) h.queue.entries (first_chosen c h i.0) refl).0))
keeps c own h (Locked (LoadSender d)) i = λ w g b a. (i.0, cond_both (still_waits c d w) _ _ (IsChosen c h.queue) (λ _. i.1) (λ _. (chosen_next c h.queue (candidates_after c h d) (past (number_of d) h.queue.entries) (later_chosen c h d i.0 i.1) refl).0))
keeps c own h (Locked (FreeSender d w)) i = (λ g b a. (i.0, freed_chosen c h.queue d w), λ v g b a. (i.0, i.1))
keeps c own h (Locked (AcquireReady d)) i = λ g b a. lists_come h g b i.0
keeps c own h (Locked CommitWait) i = (λ g b a. (i.0, waits_chosen c h.queue c.from), λ v g b a. absurd (false≢true (sym a)))
keeps c own h (Locked (LoadPartner from)) i = λ w g b a. (i.0, cond_both (is_present_in w from) _ _ (IsChosen c h.queue) (λ _. tt) (λ _. tt))
keeps c own h (Locked (CommitGone from)) i = (λ g b a. (i.0, tt), λ v g b a. absurd (false≢true (sym a)))
keeps c own h (Locked LoadPicking) i = λ w g b a. (i.0, picked_chosen c h.queue (first_admitted c.from h.queue.entries) w.state ((chosen_next c h.queue (first_admitted c.from h.queue.entries) h.queue.entries (first_chosen c h i.0) refl).1))
keeps c own h (Locked (LoadNext d)) i = λ w g b a. (i.0, cond_both (still_waits c d w) _ _ (IsChosen c h.queue) (λ _. i.1) (λ _. (chosen_next c h.queue (candidates_after c h d) (past (number_of d) h.queue.entries) (later_chosen c h d i.0 i.1) refl).1))
keeps c own h (Locked (FreeNext d w)) i = (λ g b a. (i.0, tt), λ v g b a. (i.0, i.1))
keeps c own h (Locked (EndPick d w)) i = (λ g b a. (i.0, freed_chosen c h.queue d w), λ v g b a. absurd (false≢true (sym a)))
keeps c own h (Locked SettlePick) i = (λ g b a. (i.0, tt), λ v g b a. absurd (false≢true (sym a)))
keeps c own h (Locked (Release r)) i = λ g b a. tt
keeps c own h (Pushing (LoadFreed d)) i = λ w g b a. i
keeps c own h (Pushing (PushFreed d w)) i = λ g b a. (i, tt)

-- STEPS LEFT

-- the steps that it costs if the loaded word is gone
abbrev slack : Bool → ℕ
slack true = 0
slack false = 2

wait_few : (o : Option ThreadId) → left_wait o ≤ 4
wait_few None = omega arith
wait_few (Some from) = omega arith

none_few : (c : ReceiveCall) (h : Hand) (b : Bool) → rest_thread c h b (Locked (none_left c)) ≤ 4 + slack b
none_few c h b =
    let w = wait_few c.from in
    cond_both c.zero _ _ (λ (q : ReceiveLocked). rest_thread c h b (Locked q) ≤ 4 + slack b) (λ _. omega arith) (λ _. omega (arith, w))

none_below : (c : ReceiveCall) (h : Hand) (b : Bool) → rest_thread c h b (Locked (none_left c)) + 1 ≤ left_none c + slack b
none_below c h b = go c.zero
  where
    go : (z : Bool) → rest_thread c h b (Locked (if z then Release release.Nobody else CommitWait)) + 1 ≤ (if z then 2 else 1 + left_wait c.from) + slack b
    go true = omega arith
    go false = omega arith

own_least : (c : ReceiveCall) (m : ℕ) → 2 ≤ left_own c m
own_least c zero = cond_both c.zero 2 (1 + left_wait c.from) (λ (k : ℕ). 2 ≤ k) (λ _. omega arith) (λ _. least c.from)
  where
    least : (o : Option ThreadId) → 2 ≤ 1 + left_wait o
    least None = omega arith
    least (Some from) = omega arith
own_least c (suc m) = omega arith

own_some : (c : ReceiveCall) (m : ℕ) → 1 ≤ m → left_own c m ≡ m + 6
own_some c zero l = absurd (omega (arith, l))
own_some c (suc m) l = refl

own_none : (c : ReceiveCall) (h : Hand) (m : ℕ) (b : Bool) → rest_thread c h b (Locked (none_left c)) + 1 ≤ left_own c m + slack b
own_none c h zero b = none_below c h b
own_none c h (suc m) b = let f = none_few c h b in omega (arith, f)

picking_some : (m : ℕ) → 1 ≤ m → left_picking m ≡ m + 7
picking_some zero l = absurd (omega (arith, l))
picking_some (suc m) l = refl

picking_least : (m : ℕ) → 3 ≤ left_picking m
picking_least zero = omega arith
picking_least (suc m) = omega arith

-- at the first load: a candidate is tried, or none
try_own : (c : ReceiveCall) (h : Hand) (b : Bool) (o : Option SenderEntry) → IsOnceEach h.queue.entries → first_admitted c.from h.queue.entries ≡ o → rest_thread c h b (Locked (try_sender c o)) + 1 ≤ left_own c (admitted c.from h.queue.entries) + slack b
try_own c h b None u q = own_none c h (admitted c.from h.queue.entries) b
try_own c h b (Some e) u q =
    let f = first_is c.from h.queue.entries e u q in
    let m = f.many in
    let s = one_left c h e (record { standing = f.standing; wanted = f.wanted }) in
    let l = own_some c (admitted c.from h.queue.entries) (omega (arith, m, s)) in
    omega (arith, m, l)

try_pick : (c : ReceiveCall) (h : Hand) (b : Bool) (o : Option SenderEntry) → IsOnceEach h.queue.entries → first_admitted c.from h.queue.entries ≡ o → rest_thread c h b (Locked (try_next o)) + 1 ≤ left_picking (admitted c.from h.queue.entries) + slack b
try_pick c h b None u q = let l = picking_least (admitted c.from h.queue.entries) in omega (arith, l)
try_pick c h b (Some e) u q =
    let f = first_is c.from h.queue.entries e u q in
    let m = f.many in
    let s = one_left c h e (record { standing = f.standing; wanted = f.wanted }) in
    let l = picking_some (admitted c.from h.queue.entries) (omega (arith, m, s)) in
    omega (arith, m, l)

pick_by : (c : ReceiveCall) (h : Hand) (b : Bool) (m : ℕ) (o : Option SenderEntry) (s : State) → rest_thread c h b (Locked (try_next o)) + 1 ≤ left_picking m + slack b → rest_thread c h b (Locked (picking_by o s)) + 1 ≤ left_picking m + slack b
pick_by c h b m o state.Dead t = let l = picking_least m in omega (arith, l)
pick_by c h b m o state.Picking t = t
pick_by c h b m o (state.Run r) t = let l = picking_least m in omega (arith, l)
pick_by c h b m o (state.Sending to joined) t = let l = picking_least m in omega (arith, l)
pick_by c h b m o (state.Receiving from) t = let l = picking_least m in omega (arith, l)
pick_by c h b m o state.Ended t = let l = picking_least m in omega (arith, l)

-- a candidate that is passed over
try_later : (c : ReceiveCall) (h : Hand) (d : SenderEntry) (b : Bool) (o : Option SenderEntry) → IsOnceEach h.queue.entries → IsCandidate c h.queue d → candidates_after c h d ≡ o → rest_thread c h b (Locked (try_sender c o)) + 1 ≤ candidates_from c h d + 5 + slack b
try_later c h d b None u i q = let f = none_few c h b in let s = one_left c h d i in omega (arith, f, s)
try_later c h d b (Some e) u i q = let f = (next_is c.from h.queue.entries d e u i.standing i.wanted q).fewer in omega (arith, f)

pick_later : (c : ReceiveCall) (h : Hand) (d : SenderEntry) (b : Bool) (o : Option SenderEntry) → IsOnceEach h.queue.entries → IsCandidate c h.queue d → candidates_after c h d ≡ o → rest_thread c h b (Locked (try_next o)) + 1 ≤ candidates_from c h d + 6 + slack b
pick_later c h d b None u i q = let s = one_left c h d i in omega (arith, s)
pick_later c h d b (Some e) u i q = let f = (next_is c.from h.queue.entries d e u i.standing i.wanted q).fewer in omega (arith, f)

freed_all : (c : ReceiveCall) (h : Hand) (b : Bool) (e : SenderEntry) (w : StateWord) → rest_thread c h b (Locked (after_free e w)) ≤ 4
freed_all c h b e w = cond_both (stays_out w) _ _ (λ (q : ReceiveLocked). rest_thread c h b (Locked q) ≤ 4) (λ _. omega arith) (λ _. omega arith)

waits_fall : (c : ReceiveCall) (h : Hand) (b : Bool) (o : Option ThreadId) → 1 + rest_thread c h b (Locked (after_wait o)) ≤ left_wait o
waits_fall c h b None = omega arith
waits_fall c h b (Some from) = omega arith

-- One step: what is left falls by it.
abbrev Falls : ReceiveCall → StateWord → Hand → ReceiveAt → Response → Type 0
Falls c own h p r = (g : Goods) → IsAllowed (hand_came r g (hand_after c h p r)) p r → (there : Bool) → (misses (seen_of p) (ask_of c own p) r ≡ true → there ≡ false)
    → 1 + rest_thread c (hand_came r g (hand_after c h p r)) (there_after there r) (leads c h p r) ≤ rest_thread c h there p

-- at an exchange of a sender's word
free_won : (n m : ℕ) (there : Bool) → n ≤ 4 → 5 ≤ m → 1 + n ≤ (if there then 5 else m)
free_won n m true l k = omega (arith, l)
free_won n m false l k = omega (arith, l, k)

next_won : (m : ℕ) (there : Bool) → 6 ≤ m → 6 ≤ (if there then 6 else m)
next_won m true k = omega arith
next_won m false k = k

free_lost : (n m k : ℕ) (there : Bool) → there ≡ false → 1 + n ≤ m → 1 + n ≤ (if there then k else m)
free_lost n m k true q l = absurd (false≢true (sym q))
free_lost n m k false q l = l

falls : (c : ReceiveCall) (own : StateWord) (h : Hand) (p : ReceiveAt) → IsCounted c h p → left_thread c h p ≢ 0 → Each (ask_of c own p) (Falls c own h p)
falls c own h (Outside p) i held = absurd (held refl)
falls c own h (Locked LoadOwn) i held = λ w g a there m.
    let least = own_least c (admitted c.from h.queue.entries) in
    cond_both (is_dead w) _ _ (λ (q : ReceiveLocked). 1 + rest_thread c h true (Locked q) ≤ left_own c (admitted c.from h.queue.entries)) (λ _. omega (arith, least)) (λ _. let t = try_own c h true (first_admitted c.from h.queue.entries) i.0 refl in omega (arith, t))
falls c own h (Locked (LoadSender d)) i held = λ w g a there m.
    let s = one_left c h d i.1 in
    cond_both (still_waits c d w) _ _ (λ (q : ReceiveLocked). 1 + rest_thread c h true (Locked q) ≤ candidates_from c h d + 5) (λ _. omega (arith, s)) (λ _. let t = try_later c h d true (candidates_after c h d) i.0 i.1 refl in omega (arith, t))
falls c own h (Locked (FreeSender d w)) i held = (
  λ g a there m. let f = freed_all c h there d w in free_won (rest_thread c h there (Locked (after_free d w))) (candidates_from c h d + 6) there f (omega arith),
  λ v g a there m. free_lost (candidates_from c h d + 5) (candidates_from c h d + 6) 5 there (m (eq-eqb (number_of d) (number_of d) refl)) (omega arith),
)
falls c own h (Locked (AcquireReady d)) i held = λ g a there m. omega arith
falls c own h (Locked CommitWait) i held = (λ g a there m. waits_fall c h there c.from, λ v g a there m. absurd (false≢true (sym a)))
falls c own h (Locked (LoadPartner from)) i held = λ w g a there m. cond_both (is_present_in w from) _ _ (λ (q : ReceiveLocked). 1 + rest_thread c h true (Locked q) ≤ 3) (λ _. omega arith) (λ _. omega arith)
falls c own h (Locked (CommitGone from)) i held = (λ g a there m. omega arith, λ v g a there m. absurd (false≢true (sym a)))
falls c own h (Locked LoadPicking) i held = λ w g a there m. let t = pick_by c h true (admitted c.from h.queue.entries) (first_admitted c.from h.queue.entries) w.state (try_pick c h true (first_admitted c.from h.queue.entries) i.0 refl) in omega (arith, t)
falls c own h (Locked (LoadNext d)) i held = λ w g a there m.
    let s = one_left c h d i.1 in
    cond_both (still_waits c d w) _ _ (λ (q : ReceiveLocked). 1 + rest_thread c h true (Locked q) ≤ candidates_from c h d + 6) (λ _. omega (arith, s)) (λ _. let t = pick_later c h d true (candidates_after c h d) i.0 i.1 refl in omega (arith, t))
falls c own h (Locked (FreeNext d w)) i held = (
  λ g a there m. next_won (candidates_from c h d + 7) there (omega arith),
  λ v g a there m. free_lost (candidates_from c h d + 6) (candidates_from c h d + 7) 6 there (m (eq-eqb (number_of d) (number_of d) refl)) (omega arith),
)
falls c own h (Locked (EndPick d w)) i held = (λ g a there m. let f = freed_all c h there d w in omega (arith, f), λ v g a there m. absurd (false≢true (sym a)))
falls c own h (Locked SettlePick) i held = (λ g a there m. omega arith, λ v g a there m. absurd (false≢true (sym a)))
falls c own h (Locked (Release r)) i held = λ g a there m. omega arith
falls c own h (Pushing (LoadFreed d)) i held = λ w g a there m. omega arith
falls c own h (Pushing (PushFreed d w)) i held = λ g a there m. omega arith

-- One step after which the loaded word is gone: two more are made.
abbrev Misses : ReceiveCall → StateWord → Hand → ReceiveAt → Response → Type 0
Misses c own h p r = (g : Goods) → IsAllowed (hand_came r g (hand_after c h p r)) p r → 1 + rest_thread c (hand_came r g (hand_after c h p r)) false (leads c h p r) ≤ rest_thread c h (not (is_lost r)) p + 2

missed : (c : ReceiveCall) (own : StateWord) (h : Hand) (p : ReceiveAt) → IsCounted c h p → left_thread c h p ≢ 0 → Each (ask_of c own p) (Misses c own h p)
missed c own h (Outside p) i held = absurd (held refl)
missed c own h (Locked LoadOwn) i held = λ w g a.
    cond_both (is_dead w) _ _ (λ (q : ReceiveLocked). 1 + rest_thread c h false (Locked q) ≤ left_own c (admitted c.from h.queue.entries) + 2) (λ _. omega arith) (λ _. let t = try_own c h false (first_admitted c.from h.queue.entries) i.0 refl in omega (arith, t))
missed c own h (Locked (LoadSender d)) i held = λ w g a.
    cond_both (still_waits c d w) _ _ (λ (q : ReceiveLocked). 1 + rest_thread c h false (Locked q) ≤ candidates_from c h d + 5 + 2) (λ _. omega arith) (λ _. let t = try_later c h d false (candidates_after c h d) i.0 i.1 refl in omega (arith, t))
missed c own h (Locked (FreeSender d w)) i held = (λ g a. let f = freed_all c h false d w in omega (arith, f), λ v g a. omega arith)
missed c own h (Locked (AcquireReady d)) i held = λ g a. omega arith
missed c own h (Locked CommitWait) i held = (λ g a. let f = waits_fall c h false c.from in omega (arith, f), λ v g a. absurd (false≢true (sym a)))
missed c own h (Locked (LoadPartner from)) i held = λ w g a. cond_both (is_present_in w from) _ _ (λ (q : ReceiveLocked). 1 + rest_thread c h false (Locked q) ≤ 3 + 2) (λ _. omega arith) (λ _. omega arith)
missed c own h (Locked (CommitGone from)) i held = (λ g a. omega arith, λ v g a. absurd (false≢true (sym a)))
missed c own h (Locked LoadPicking) i held = λ w g a. let t = pick_by c h false (admitted c.from h.queue.entries) (first_admitted c.from h.queue.entries) w.state (try_pick c h false (first_admitted c.from h.queue.entries) i.0 refl) in omega (arith, t)
missed c own h (Locked (LoadNext d)) i held = λ w g a.
    cond_both (still_waits c d w) _ _ (λ (q : ReceiveLocked). 1 + rest_thread c h false (Locked q) ≤ candidates_from c h d + 6 + 2) (λ _. omega arith) (λ _. let t = pick_later c h d false (candidates_after c h d) i.0 i.1 refl in omega (arith, t))
missed c own h (Locked (FreeNext d w)) i held = (λ g a. omega arith, λ v g a. omega arith)
missed c own h (Locked (EndPick d w)) i held = (λ g a. let f = freed_all c h false d w in omega (arith, f), λ v g a. absurd (false≢true (sym a)))
missed c own h (Locked SettlePick) i held = (λ g a. omega arith, λ v g a. absurd (false≢true (sym a)))
missed c own h (Locked (Release r)) i held = λ g a. omega arith
missed c own h (Pushing (LoadFreed d)) i held = λ w g a. omega arith
missed c own h (Pushing (PushFreed d w)) i held = λ g a. omega arith

-- the columns, location by location
least : (c : ReceiveCall) (h : Hand) (p : ReceiveAt) (there : Bool) → IsCounted c h p → rest_thread c h true p ≤ rest_thread c h there p
least c h p true i = omega arith
least c h (Outside p) false i = omega arith
least c h (Locked LoadOwn) false i = omega arith
least c h (Locked (LoadSender d)) false i = omega arith
least c h (Locked (FreeSender d w)) false i = omega arith
least c h (Locked (AcquireReady d)) false i = omega arith
least c h (Locked CommitWait) false i = omega arith
least c h (Locked (LoadPartner from)) false i = omega arith
least c h (Locked (CommitGone from)) false i = omega arith
least c h (Locked LoadPicking) false i = omega arith
least c h (Locked (LoadNext d)) false i = omega arith
least c h (Locked (FreeNext d w)) false i = omega arith
least c h (Locked (EndPick d w)) false i = omega arith
least c h (Locked SettlePick) false i = omega arith
least c h (Locked (Release r)) false i = omega arith
least c h (Pushing (LoadFreed d)) false i = omega arith
least c h (Pushing (PushFreed d w)) false i = omega arith

-- what `left` counts of the lost exchanges
counts : (c : ReceiveCall) (h : Hand) (p : ReceiveAt) → IsCounted c h p → (rest_thread c h true p + 2 * counted p ≤ left_thread c h p) × (rest_thread c h false p + 2 * counted p ≤ left_thread c h p + 2)
counts c h (Outside p) i = (omega arith, omega arith)
counts c h (Locked LoadOwn) i = (omega arith, omega arith)
counts c h (Locked (LoadSender d)) i = (omega arith, omega arith)
counts c h (Locked (FreeSender d w)) i = (let s = one_left c h d i.1 in omega (arith, s), omega arith)
counts c h (Locked (AcquireReady d)) i = (omega arith, omega arith)
counts c h (Locked CommitWait) i = (omega arith, omega arith)
counts c h (Locked (LoadPartner from)) i = (omega arith, omega arith)
counts c h (Locked (CommitGone from)) i = (omega arith, omega arith)
counts c h (Locked LoadPicking) i = (omega arith, omega arith)
counts c h (Locked (LoadNext d)) i = (omega arith, omega arith)
counts c h (Locked (FreeNext d w)) i = (let s = one_left c h d i.1 in omega (arith, s), omega arith)
counts c h (Locked (EndPick d w)) i = (omega arith, omega arith)
counts c h (Locked SettlePick) i = (omega arith, omega arith)
counts c h (Locked (Release r)) i = (omega arith, omega arith)
counts c h (Pushing (LoadFreed d)) i = (omega arith, omega arith)
counts c h (Pushing (PushFreed d w)) i = (omega arith, omega arith)

left_rest : (c : ReceiveCall) (h : Hand) (p : ReceiveAt) → left_thread c h p ≡ rest_thread c h false p
left_rest c h (Outside p) = refl
left_rest c h (Locked LoadOwn) = refl
left_rest c h (Locked (LoadSender d)) = refl
left_rest c h (Locked (FreeSender d w)) = refl
left_rest c h (Locked (AcquireReady d)) = refl
left_rest c h (Locked CommitWait) = refl
left_rest c h (Locked (LoadPartner from)) = refl
left_rest c h (Locked (CommitGone from)) = refl
left_rest c h (Locked LoadPicking) = refl
left_rest c h (Locked (LoadNext d)) = refl
left_rest c h (Locked (FreeNext d w)) = refl
left_rest c h (Locked (EndPick d w)) = refl
left_rest c h (Locked SettlePick) = refl
left_rest c h (Locked (Release r)) = refl
left_rest c h (Pushing (LoadFreed d)) = refl
left_rest c h (Pushing (PushFreed d w)) = refl

-- a lock is left while it is held
some_wait : (o : Option ThreadId) → 1 ≤ left_wait o
some_wait None = omega arith
some_wait (Some from) = omega arith

some_locked : (c : ReceiveCall) (h : Hand) (p : ReceiveLocked) → 1 ≤ left_thread c h (Locked p)
some_locked c h LoadOwn = let m = own_least c (admitted c.from h.queue.entries) in omega (arith, m)
some_locked c h (LoadSender d) = omega arith
some_locked c h (FreeSender d w) = omega arith
some_locked c h (AcquireReady d) = omega arith
some_locked c h CommitWait = some_wait c.from
some_locked c h (LoadPartner from) = omega arith
some_locked c h (CommitGone from) = omega arith
some_locked c h LoadPicking = let m = picking_least (admitted c.from h.queue.entries) in omega (arith, m)
some_locked c h (LoadNext d) = omega arith
some_locked c h (FreeNext d w) = omega arith
some_locked c h (EndPick d w) = omega arith
some_locked c h SettlePick = omega arith
some_locked c h (Release r) = omega arith

ready_falls : (c : ReceiveCall) (own : StateWord) (h : Hand) (p : ReceiveAt) → Holds lock.Ready (locks_of c p) → Each (ask_of c own p) (λ r. 1 + left_ready (leads c h p r) ≤ left_ready p)
ready_falls c own h (Outside p) holds = absurd cc
ready_falls c own h (Locked p) holds = absurd cc
ready_falls c own h (Pushing (LoadFreed d)) holds = λ w. omega arith
ready_falls c own h (Pushing (PushFreed d w)) holds = omega arith

-- THE TABLE

-- What holds of the thread lock, and, where the ready lock is held, of that, holds of any lock that is held.
by_lock : (c : ReceiveCall) (h : Hand) (k : Lock) (p : ReceiveAt) (P : Lock → Type 0) → Holds k (locks_of c p) → (1 ≤ left_thread c h p → P (lock.Thread c.caller.number)) → (Holds lock.Ready (locks_of c p) → P lock.Ready) → P k
by_lock c h lock.Table (Outside p) P held thread ready = absurd cc
by_lock c h (lock.Thread n) (Outside p) P held thread ready = absurd cc
by_lock c h lock.Ready (Outside p) P held thread ready = absurd cc
by_lock c h k (Locked p) P held thread ready = by_thread c.caller.number None k P held (thread (some_locked c h p)) (λ e. absurd cc)
by_lock c h k (Pushing (LoadFreed d)) P held thread ready = by_thread c.caller.number (Some lock.Ready) k P held (thread (omega arith)) (λ e. ready refl)
by_lock c h k (Pushing (PushFreed d w)) P held thread ready = by_thread c.caller.number (Some lock.Ready) k P held (thread (omega arith)) (λ e. ready refl)

table_keeps : (c : ReceiveCall) (own : StateWord) (h : Hand) (p : ReceiveAt) (r : Response) (g : Goods) → IsCounted c h p → IsMade (receive_table c) own h p r g → IsCounted c (hand_came r g (hand_after c h p r)) (leads c h p r)
table_keeps c own h p r g i made = made_by (ask_of c own p) r (Keeps c own h p) made.suiting made.made (keeps c own h p i) g made.guarded made.allowed

table_falls : (c : ReceiveCall) (k : Lock) (own : StateWord) (h : Hand) (p : ReceiveAt) (r : Response) (g : Goods) (there : Bool) → IsCounted c h p → Holds k (locks_of c p) → IsMade (receive_table c) own h p r g → (misses (seen_of p) (ask_of c own p) r ≡ true → there ≡ false)
    → 1 + rest_of c (hand_came r g (hand_after c h p r)) (there_after there r) (leads c h p r) k ≤ rest_of c h there p k
table_falls c k own h p r g there i holds made m =
    let h' = hand_came r g (hand_after c h p r) in
    by_lock c h k p (λ (l : Lock). 1 + rest_of c h' (there_after there r) (leads c h p r) l ≤ rest_of c h there p l) holds
    (λ held.
    let f = made_by (ask_of c own p) r (Falls c own h p) made.suiting made.made (falls c own h p i (λ e. absurd (omega (arith, held, e)))) g made.allowed there m in
    let after = own_number c.caller.number (rest_thread c h' (there_after there r) (leads c h p r)) in
    let before = own_number c.caller.number (rest_thread c h there p) in
    omega (arith, f, after, before))
    (λ lists. made_by (ask_of c own p) r (λ x. 1 + left_ready (leads c h p x) ≤ left_ready p) made.suiting made.made (ready_falls c own h p lists))

table_missed : (c : ReceiveCall) (k : Lock) (own : StateWord) (h : Hand) (p : ReceiveAt) (r : Response) (g : Goods) → IsCounted c h p → Holds k (locks_of c p) → IsMade (receive_table c) own h p r g → 1 + rest_of c (hand_came r g (hand_after c h p r)) false (leads c h p r) k ≤ rest_of c h (not (is_lost r)) p k + 2
table_missed c k own h p r g i holds made =
    let h' = hand_came r g (hand_after c h p r) in
    by_lock c h k p (λ (l : Lock). 1 + rest_of c h' false (leads c h p r) l ≤ rest_of c h (not (is_lost r)) p l + 2) holds
    (λ held.
    let f = made_by (ask_of c own p) r (Misses c own h p) made.suiting made.made (missed c own h p i (λ e. absurd (omega (arith, held, e)))) g made.allowed in
    let after = own_number c.caller.number (rest_thread c h' false (leads c h p r)) in
    let before = own_number c.caller.number (rest_thread c h (not (is_lost r)) p) in
    omega (arith, f, after, before))
    (λ lists. let f = made_by (ask_of c own p) r (λ x. 1 + left_ready (leads c h p x) ≤ left_ready p) made.suiting made.made (ready_falls c own h p lists) in omega (arith, f))

table_least : (c : ReceiveCall) (h : Hand) (p : ReceiveAt) (there : Bool) (k : Lock) → IsCounted c h p → rest_of c h true p k ≤ rest_of c h there p k
table_least c h p there lock.Table i = omega arith
table_least c h p there (lock.Thread number) i = go (number == c.caller.number)
  where
    go : (b : Bool) → (if b then rest_thread c h true p else 0) ≤ (if b then rest_thread c h there p else 0)
    go true = least c h p there i
    go false = omega arith
table_least c h p there lock.Ready i = omega arith

-- while the ready lock is held, no exchange is asked for, and none was counted
quiet : (c : ReceiveCall) (own : StateWord) (p : ReceiveAt) → Holds lock.Ready (locks_of c p) → is_exchange (ask_of c own p) ≡ false
quiet c own (Outside p) holds = absurd cc
quiet c own (Locked p) holds = absurd cc
quiet c own (Pushing (LoadFreed d)) holds = refl
quiet c own (Pushing (PushFreed d w)) holds = refl

ready_column : (c : ReceiveCall) (p : ReceiveAt) → Holds lock.Ready (locks_of c p) → (counted p ≡ 0) × (1 ≤ left_ready p)
ready_column c (Outside p) holds = absurd cc
ready_column c (Locked p) holds = absurd cc
ready_column c (Pushing (LoadFreed d)) holds = (refl, omega arith)
ready_column c (Pushing (PushFreed d w)) holds = (refl, omega arith)

table_low : (c : ReceiveCall) (h : Hand) (p : ReceiveAt) (k : Lock) → IsCounted c h p → Holds k (locks_of c p) → rest_of c h true p k + 2 * counted p ≤ left_of c h p k
table_low c h p k i holds =
    by_lock c h k p (λ (l : Lock). rest_of c h true p l + 2 * counted p ≤ left_of c h p l) holds
    (λ held. let f = (counts c h p i).0 in let a = own_number c.caller.number (rest_thread c h true p) in let b = own_number c.caller.number (left_thread c h p) in omega (arith, f, a, b))
    (λ lists. let f = (ready_column c p lists).0 in omega (arith, f))

table_high : (c : ReceiveCall) (h : Hand) (p : ReceiveAt) (k : Lock) → IsCounted c h p → Holds k (locks_of c p) → rest_of c h false p k + 2 * counted p ≤ left_of c h p k + 2
table_high c h p k i holds =
    by_lock c h k p (λ (l : Lock). rest_of c h false p l + 2 * counted p ≤ left_of c h p l + 2) holds
    (λ held. let f = (counts c h p i).1 in let a = own_number c.caller.number (rest_thread c h false p) in let b = own_number c.caller.number (left_thread c h p) in omega (arith, f, a, b))
    (λ lists. let f = (ready_column c p lists).0 in omega (arith, f))

table_columns : (c : ReceiveCall) (h : Hand) (p : ReceiveAt) (k : Lock) → left_of c h p k ≡ rest_of c h false p k
table_columns c h p lock.Table = refl
table_columns c h p (lock.Thread number) = ap (λ (x : ℕ). if number == c.caller.number then x else 0) (left_rest c h p)
table_columns c h p lock.Ready = refl

table_some : (c : ReceiveCall) (h : Hand) (p : ReceiveAt) (k : Lock) → Holds k (locks_of c p) → 1 ≤ left_of c h p k
table_some c h p k holds =
    by_lock c h k p (λ (l : Lock). 1 ≤ left_of c h p l) holds
    (λ held. let b = own_number c.caller.number (left_thread c h p) in omega (arith, held, b))
    (λ lists. (ready_column c p lists).1)

-- a lock of which steps are left is held
thread_held : (c : ReceiveCall) (h : Hand) (p : ReceiveAt) (number : ℕ) (b : Bool) → (number == c.caller.number) ≡ b → 1 ≤ (if b then left_thread c h p else 0) → slice_get (locks_of c p) 1 ≡ Some (Some (lock.Thread number))
thread_held c h (Outside p) number true q l = absurd (omega (arith, l))
thread_held c h (Locked p) number true q l = ap (λ (x : ℕ). Some (Some (lock.Thread x))) (sym (eqb-true number c.caller.number q))
thread_held c h (Pushing p) number true q l = ap (λ (x : ℕ). Some (Some (lock.Thread x))) (sym (eqb-true number c.caller.number q))
thread_held c h p number false q l = absurd (omega (arith, l))

table_only : (c : ReceiveCall) (h : Hand) (p : ReceiveAt) (k : Lock) → 1 ≤ left_of c h p k → Holds k (locks_of c p)
table_only c h p lock.Table l = absurd (omega (arith, l))
table_only c h p (lock.Thread number) l = thread_held c h p number (number == c.caller.number) refl l
table_only c h (Outside p) lock.Ready l = absurd (omega (arith, l))
table_only c h (Locked p) lock.Ready l = absurd (omega (arith, l))
table_only c h (Pushing p) lock.Ready l = refl

falling : (c : ReceiveCall) → IsFalling (receive_table c)
falling c = record {
  start = λ h. tt;
  keeps = table_keeps c;
  falls = table_falls c;
  missed = table_missed c;
  above = λ h p there k i. table_least c h p there k i;
  low = table_low c;
  high = table_high c;
  quiet = quiet c;
  columns = table_columns c;
  some = λ h p k i. table_some c h p k;
  only = table_only c;
}

pub in_time : (c : ReceiveCall) → IsReleasedInTime (receive_table c)
in_time c = released_in_time (receive_table c) (falling c)
