-- A destroy: how many steps are left.
use Rattle.std.proofs.Common.{◌≡◌, ◌<◌, ◌≤◌, ◌+◌, ◌-◌, ◌*◌, ℕ, Bool, true, false, not, Option, Some, List, [], ◌∷◌, length, refl, sym, ap, subst, arith}
use Rattle.std.specs.Prelude.{nat_lt, if◌then◌else◌}
use Rattle.std.proofs.lemmas.Bool.{cond_both, eq-eqb, eqb-true, false≢true}
use Rattle.std.proofs.lemmas.Bool.Decides.{nat_tests}
use Rattle.std.proofs.lemmas.Grind.{common_steps}
use Rattle.k_ids.specs.declared.state_word.StateWord.{StateWord}
use Rattle.k_senders.specs.declared.entries.SenderEntry.{SenderEntry}
use Rattle.k_senders.specs.Queue.{Queue}
use Rattle.k_locks.specs.declared.goods.Goods.{Goods}
use Rattle.k_locks.specs.declared.goods.Goods.TheVariants as goods
use Rattle.k_locks.specs.declared.locks.Lock.{Lock}
use Rattle.k_locks.specs.declared.locks.Lock.TheVariants as lock
use Rattle.k_locks.specs.Asks.{Ask, Response, is_lost}
use Rattle.k_locks.specs.Asks as plain
use Rattle.k_locks.specs.Hands.{Hand, with_goods}
use Rattle.k_locks.specs.Locks.{Holds, guards}
use Rattle.k_locks.specs.Shown.{is_dead, is_present_in}
use Rattle.k_locks.specs.Tables.{IsMade, IsReleasedInTime, Reached, Run, brings, hand_came, is_found, lost_in, lost_later, misses, there_after}
use Rattle.k_locks.proofs.Responses.{made_by}
use Rattle.k_locks.proofs.Tables.{IsFalling, is_exchange, released_in_time}
use Rattle.k_threads.specs.declared.destroy.DestroyCall.{DestroyCall}
use Rattle.k_threads.specs.declared.destroy.DestroyOutside.TheVariants.{LoadOwn, AcquireTable, Ended}
use Rattle.k_threads.specs.declared.destroy.DestroyLocked.TheVariants.{LoadCaller, AcquireVictimLock, AcquireReadyForVictim, RemoveContext, AcquireVisitedLock, Release}
use Rattle.k_threads.specs.declared.destroy.DestroyRelease.TheVariants as release
use Rattle.k_threads.specs.declared.destroy.DestroyVictim.TheVariants.{LoadVictim, CommitKill, LoadSender, FreeSender, AcquireReadyForSender, ReleaseVictimLock, ReleaseVictimLockAbsent}
use Rattle.k_threads.specs.declared.destroy.DestroyVisit.TheVariants.{LoadVisited, FreeVisited, AcquireReadyForVisited, ReleaseVisitedLock}
use Rattle.k_threads.specs.declared.destroy.DestroyPushing.TheVariants.{PushSender, PushVisited}
use Rattle.k_threads.specs.DestroyTable.{DestroyAt, Fits, IsOther, IsShort, Locked, Outside, Pushing, UnlistVictim, Victim, Visit, ask_of, but_victim, counted, destroy_table, first_of, free_first, hand_after, in_queue, leads, left_of, left_ready, left_table, left_thread, locks_of, locks_thread, queue_at, rest_of, rest_table, rest_thread, seen_of, to_visit, visit_from, visited_at, visits}
use Rattle.k_threads.specs.Goods.{rest, without_first}
use Rattle.k_threads.specs.Words.{is_receiving_from}
use Rattle.k_threads.proofs.Held.{nothing_held}

-- THE QUEUE AND THE NUMBERS

rest_length : (es : List SenderEntry) → 1 ≤ length es → length (rest es) + 1 ≡ length es
rest_length [] f = absurd (omega (arith, f))
rest_length (e ∷ es) f = omega arith

-- the ready lock doesn't come with a queue
same_queue : (g : Goods) (h : Hand) → guards lock.Ready g ≡ true → (with_goods g h).queue ≡ h.queue
same_queue (goods.Numbers n) h e = absurd (false≢true e)
same_queue (goods.Senders q) h e = absurd (false≢true e)
same_queue (goods.Ready l) h e = refl

-- the visited number is still to be visited
some_visit : (c : DestroyCall) (x : ℕ) → c.who.number < c.count → IsOther c x → 1 ≤ to_visit c x
some_visit c x i o = let a = o.inside in let b = o.other in grind (arith, common_steps, nat_tests)

-- WHAT THE COUNTS REST ON

fits_free : (c : DestroyCall) (h : Hand) (es : List SenderEntry) → length es ≡ in_queue h → Fits c h (Victim (free_first es))
fits_free c h [] e = tt
fits_free c h (f ∷ es) e = omega (arith, e)

fits_visit : (c : DestroyCall) (h : Hand) (n : ℕ) → Fits c h (Locked (visit_from c n))
fits_visit c h n = go (nat_lt (but_victim c n) c.count) refl
  where
    go : (b : Bool) → nat_lt (but_victim c n) c.count ≡ b → Fits c h (Locked (if b then AcquireVisitedLock (but_victim c n) else Release release.Killed))
    go true e = record { inside = grind (arith, common_steps, nat_tests); other = λ same. absurd (grind (arith, common_steps, nat_tests)) }
    go false e = tt

-- after a step
abbrev Keeps : DestroyCall → StateWord → Hand → DestroyAt → Goods → Response → Type 0
Keeps c own h p g r = brings (ask_of c own p) r g ≡ true → Fits c (hand_came r g (hand_after c h p r)) (leads c h p r)

fits_freed : (c : DestroyCall) (h : Hand) (sender : ℕ) (seen : StateWord) (on : Bool) → 1 ≤ in_queue h → Fits c (if on then record h { queue = without_first h.queue } else h) (Victim (if on then free_first (rest h.queue.entries) else AcquireReadyForSender sender seen))
fits_freed c h sender seen true f = fits_free c (record h { queue = without_first h.queue }) (rest h.queue.entries) refl
fits_freed c h sender seen false f = f

fits_ready : (c : DestroyCall) (h : Hand) (sender : ℕ) (seen : StateWord) (g : Goods) → 1 ≤ in_queue h → guards lock.Ready g ≡ true → Fits c (with_goods g h) (Pushing (PushSender sender seen))
fits_ready c h sender seen g f e = subst (λ (q : Queue). 1 ≤ length q.entries) (sym (same_queue g h e)) f

keeps : (c : DestroyCall) (own : StateWord) (h : Hand) (p : DestroyAt) (r : Response) (g : Goods) → Fits c h p → IsMade (destroy_table c) own h p r g → Fits c (hand_came r g (hand_after c h p r)) (leads c h p r)
keeps c own h (Outside LoadOwn) r g f m = made_by (ask_of c own (Outside LoadOwn)) r (Keeps c own h (Outside LoadOwn) g) m.suiting m.made (λ w b. tt) m.guarded
keeps c own h (Outside AcquireTable) r g f m = made_by (ask_of c own (Outside AcquireTable)) r (Keeps c own h (Outside AcquireTable) g) m.suiting m.made (λ b. tt) m.guarded
keeps c own h (Outside (Ended w)) r g f m = made_by (ask_of c own (Outside (Ended w))) r (Keeps c own h (Outside (Ended w)) g) m.suiting m.made (λ v b. tt) m.guarded
keeps c own h (Locked LoadCaller) r g f m = made_by (ask_of c own (Locked LoadCaller)) r (Keeps c own h (Locked LoadCaller) g) m.suiting m.made (λ w b. cond_both (is_dead w) _ _ (λ q. Fits c h (Locked q)) (λ _. tt) (λ _. tt)) m.guarded
keeps c own h (Locked AcquireVictimLock) r g f m = made_by (ask_of c own (Locked AcquireVictimLock)) r (Keeps c own h (Locked AcquireVictimLock) g) m.suiting m.made (λ b. tt) m.guarded
keeps c own h (Locked AcquireReadyForVictim) r g f m = made_by (ask_of c own (Locked AcquireReadyForVictim)) r (Keeps c own h (Locked AcquireReadyForVictim) g) m.suiting m.made (λ b. tt) m.guarded
keeps c own h (Locked RemoveContext) r g f m = made_by (ask_of c own (Locked RemoveContext)) r (Keeps c own h (Locked RemoveContext) g) m.suiting m.made (λ b. fits_visit c h 0) m.guarded
keeps c own h (Locked (AcquireVisitedLock visited)) r g f m = made_by (ask_of c own (Locked (AcquireVisitedLock visited))) r (Keeps c own h (Locked (AcquireVisitedLock visited)) g) m.suiting m.made (λ b. f) m.guarded
keeps c own h (Locked (Release e)) r g f m = made_by (ask_of c own (Locked (Release e))) r (Keeps c own h (Locked (Release e)) g) m.suiting m.made (λ b. tt) m.guarded
keeps c own h (Victim LoadVictim) r g f m = made_by (ask_of c own (Victim LoadVictim)) r (Keeps c own h (Victim LoadVictim) g) m.suiting m.made (λ w b. cond_both (is_present_in w c.who) _ _ (λ q. Fits c h (Victim q)) (λ _. tt) (λ _. tt)) m.guarded
keeps c own h (Victim (CommitKill seen)) r g f m = made_by (ask_of c own (Victim (CommitKill seen))) r (Keeps c own h (Victim (CommitKill seen)) g) m.suiting m.made (λ b. fits_free c h h.queue.entries refl, λ w b. tt) m.guarded
keeps c own h (Victim (LoadSender sender)) r g f m = made_by (ask_of c own (Victim (LoadSender sender))) r (Keeps c own h (Victim (LoadSender sender)) g) m.suiting m.made (λ w b. f) m.guarded
keeps c own h (Victim (FreeSender sender seen)) r g f m = made_by (ask_of c own (Victim (FreeSender sender seen))) r (Keeps c own h (Victim (FreeSender sender seen)) g) m.suiting m.made (λ b. fits_freed c h sender seen seen.on f, λ w b. f) m.guarded
keeps c own h (Victim (AcquireReadyForSender sender seen)) r g f m = made_by (ask_of c own (Victim (AcquireReadyForSender sender seen))) r (Keeps c own h (Victim (AcquireReadyForSender sender seen)) g) m.suiting m.made (λ b. fits_ready c h sender seen g f b) m.guarded
keeps c own h (Victim ReleaseVictimLock) r g f m = made_by (ask_of c own (Victim ReleaseVictimLock)) r (Keeps c own h (Victim ReleaseVictimLock) g) m.suiting m.made (λ b. tt) m.guarded
keeps c own h (Victim (ReleaseVictimLockAbsent found)) r g f m = made_by (ask_of c own (Victim (ReleaseVictimLockAbsent found))) r (Keeps c own h (Victim (ReleaseVictimLockAbsent found)) g) m.suiting m.made (λ b. tt) m.guarded
keeps c own h (Visit (LoadVisited visited)) r g f m = made_by (ask_of c own (Visit (LoadVisited visited))) r (Keeps c own h (Visit (LoadVisited visited)) g) m.suiting m.made (λ w b. cond_both (is_receiving_from c.who w.state) _ _ (λ q. Fits c h (Visit q)) (λ _. f) (λ _. f)) m.guarded
keeps c own h (Visit (FreeVisited visited seen)) r g f m = made_by (ask_of c own (Visit (FreeVisited visited seen))) r (Keeps c own h (Visit (FreeVisited visited seen)) g) m.suiting m.made (λ b. cond_both seen.on _ _ (λ q. Fits c h (Visit q)) (λ _. f) (λ _. f), λ w b. f) m.guarded
keeps c own h (Visit (AcquireReadyForVisited visited seen)) r g f m = made_by (ask_of c own (Visit (AcquireReadyForVisited visited seen))) r (Keeps c own h (Visit (AcquireReadyForVisited visited seen)) g) m.suiting m.made (λ b. f) m.guarded
keeps c own h (Visit (ReleaseVisitedLock visited)) r g f m = made_by (ask_of c own (Visit (ReleaseVisitedLock visited))) r (Keeps c own h (Visit (ReleaseVisitedLock visited)) g) m.suiting m.made (λ b. fits_visit c h (visited + 1)) m.guarded
keeps c own h UnlistVictim r g f m = made_by (ask_of c own UnlistVictim) r (Keeps c own h UnlistVictim g) m.suiting m.made (λ b. tt) m.guarded
keeps c own h (Pushing (PushSender sender seen)) r g f m = made_by (ask_of c own (Pushing (PushSender sender seen))) r (Keeps c own h (Pushing (PushSender sender seen)) g) m.suiting m.made (λ b. fits_free c (record h { queue = without_first h.queue }) (rest h.queue.entries) refl) m.guarded
keeps c own h (Pushing (PushVisited visited seen)) r g f m = made_by (ask_of c own (Pushing (PushVisited visited seen))) r (Keeps c own h (Pushing (PushVisited visited seen)) g) m.suiting m.made (λ b. f) m.guarded

-- THE TABLE LOCK

-- one step, told whether the loaded word is still there
abbrev FallsTable : DestroyCall → StateWord → Hand → DestroyAt → Goods → Bool → Response → Type 0
FallsTable c own h p g there r = brings (ask_of c own p) r g ≡ true → IsShort c (hand_came r g (hand_after c h p r)) p r → (misses (seen_of c p) (ask_of c own p) r ≡ true → there ≡ false)
    → 1 + rest_table c (hand_came r g (hand_after c h p r)) (there_after there r) (leads c h p r) ≤ rest_table c h there p

free_table : (c : DestroyCall) (h : Hand) (there : Bool) (es : List SenderEntry) → length es ≡ in_queue h → rest_table c h there (Victim (free_first es)) ≤ 4 * in_queue h + visits c
free_table c h there [] e = omega arith
free_table c h there (f ∷ es) e = omega arith

-- a kill is won, or lost where the word isn't there
killed_table : (there : Bool) (x y : ℕ) → x ≤ y → 1 + x ≤ y + (if there then 1 else 3)
killed_table true x y e = omega (arith, e)
killed_table false x y e = omega (arith, e)

kill_lost : (there : Bool) (y : ℕ) → there ≡ false → 1 + (y + 2) ≤ y + (if there then 1 else 3)
kill_lost true y e = absurd (false≢true (sym e))
kill_lost false y e = omega arith

freed_table : (c : DestroyCall) (h : Hand) (there : Bool) → 1 ≤ in_queue h → rest_table c (record h { queue = without_first h.queue }) there (Victim (free_first (rest h.queue.entries))) + 4 ≤ 4 * in_queue h + visits c
freed_table c h there f = let e : length (rest h.queue.entries) + 1 ≡ length h.queue.entries = rest_length h.queue.entries f in let b = free_table c (record h { queue = without_first h.queue }) there (rest h.queue.entries) refl in omega (arith, e, b)

won_table : (c : DestroyCall) (h : Hand) (sender : ℕ) (seen : StateWord) (on there : Bool) → 1 ≤ in_queue h → 1 + rest_table c (if on then record h { queue = without_first h.queue } else h) there (Victim (if on then free_first (rest h.queue.entries) else AcquireReadyForSender sender seen)) ≤ 4 * in_queue h + visits c + 1 - (if there then 2 else 0)
won_table c h sender seen true true f = let b = freed_table c h true f in omega (arith, b)
won_table c h sender seen true false f = let b = freed_table c h false f in omega (arith, b)
won_table c h sender seen false true f = omega (arith, f)
won_table c h sender seen false false f = omega (arith, f)

free_lost : (there : Bool) (y : ℕ) → there ≡ false → 1 + y ≤ y + 1 - (if there then 2 else 0)
free_lost true y e = absurd (false≢true (sym e))
free_lost false y e = omega arith

sender_ready : (c : DestroyCall) (h : Hand) (g : Goods) → 1 ≤ in_queue h → guards lock.Ready g ≡ true → 1 + (4 * length (with_goods g h).queue.entries + visits c - 3) ≤ 4 * in_queue h + visits c - 2
sender_ready c h g f e = let q = ap (λ (q : Queue). length q.entries) (same_queue g h e) in omega (arith, q, f)

first_visit : (c : DestroyCall) (h : Hand) (there : Bool) → c.who.number < c.count → rest_table c h there (Locked (visit_from c 0)) ≤ 6 * (c.count - 1) + 1
first_visit c h there i = grind (arith, common_steps, nat_tests)

next_visit : (c : DestroyCall) (h : Hand) (there : Bool) (x : ℕ) → c.who.number < c.count → IsOther c x → rest_table c h there (Locked (visit_from c (x + 1))) + 5 ≤ 6 * to_visit c x
next_visit c h there x i o = let a = o.inside in let b = o.other in grind (arith, common_steps, nat_tests)

loaded_visit : (c : DestroyCall) (h : Hand) (x : ℕ) (w : StateWord) (b : Bool) → 1 ≤ to_visit c x → 1 + rest_table c h true (Visit (if b then FreeVisited x w else ReleaseVisitedLock x)) ≤ 6 * to_visit c x
loaded_visit c h x w true some = go (to_visit c x) some
  where
    go : (k : ℕ) → 1 ≤ k → 1 + (6 * k + 1 - 2) ≤ 6 * k
    go k some = omega arith
loaded_visit c h x w false some = go (to_visit c x) some
  where
    go : (k : ℕ) → 1 ≤ k → 1 + (6 * k - 4) ≤ 6 * k
    go k some = omega arith

on_visit : (k : ℕ) (there : Bool) → 1 ≤ k → 1 + (6 * k - 4) ≤ 6 * k + 1 - (if there then 2 else 0)
on_visit k true some = omega arith
on_visit k false some = omega arith

off_visit : (k : ℕ) (there : Bool) → 1 ≤ k → 1 + (6 * k - 2) ≤ 6 * k + 1 - (if there then 2 else 0)
off_visit k true some = omega arith
off_visit k false some = omega arith

freed_visit : (c : DestroyCall) (h : Hand) (x : ℕ) (seen : StateWord) (on there : Bool) → 1 ≤ to_visit c x → 1 + rest_table c h there (Visit (if on then ReleaseVisitedLock x else AcquireReadyForVisited x seen)) ≤ 6 * to_visit c x + 1 - (if there then 2 else 0)
freed_visit c h x seen true there some = on_visit (to_visit c x) there some
freed_visit c h x seen false there some = off_visit (to_visit c x) there some

visited_ready : (k : ℕ) → 1 ≤ k → 1 + (6 * k - 3) ≤ 6 * k - 2
visited_ready k some = omega arith

visited_pushed : (k : ℕ) → 1 ≤ k → 1 + (6 * k - 4) ≤ 6 * k - 3
visited_pushed k some = omega arith

table_falls : (c : DestroyCall) (own : StateWord) (h : Hand) (p : DestroyAt) (r : Response) (g : Goods) (there : Bool) → c.who.number < c.count → Fits c h p → Holds lock.Table (locks_of c p) → IsMade (destroy_table c) own h p r g → (misses (seen_of c p) (ask_of c own p) r ≡ true → there ≡ false) → 1 + rest_table c (hand_came r g (hand_after c h p r)) (there_after there r) (leads c h p r) ≤ rest_table c h there p
table_falls c own h (Outside p) r g there i f holds m = absurd (nothing_held 0 lock.Table holds)
table_falls c own h (Locked LoadCaller) r g there i f holds m = made_by (ask_of c own (Locked LoadCaller)) r (FallsTable c own h (Locked LoadCaller) g there) m.suiting m.made (λ w b a n. cond_both (is_dead w) _ _ (λ q. 1 + rest_table c h true (Locked q) ≤ 4 * (c.count - 1) + visits c + 4) (λ _. omega arith) (λ _. omega arith)) m.guarded m.allowed
table_falls c own h (Locked AcquireVictimLock) r g there i f holds m = made_by (ask_of c own (Locked AcquireVictimLock)) r (FallsTable c own h (Locked AcquireVictimLock) g there) m.suiting m.made (λ b a n. omega (arith, a)) m.guarded m.allowed
table_falls c own h (Locked AcquireReadyForVictim) r g there i f holds m = made_by (ask_of c own (Locked AcquireReadyForVictim)) r (FallsTable c own h (Locked AcquireReadyForVictim) g there) m.suiting m.made (λ b a n. omega arith) m.guarded m.allowed
table_falls c own h (Locked RemoveContext) r g there i f holds m = made_by (ask_of c own (Locked RemoveContext)) r (FallsTable c own h (Locked RemoveContext) g there) m.suiting m.made (λ b a n. let v = first_visit c h there i in omega (arith, v)) m.guarded m.allowed
table_falls c own h (Locked (AcquireVisitedLock visited)) r g there i f holds m = made_by (ask_of c own (Locked (AcquireVisitedLock visited))) r (FallsTable c own h (Locked (AcquireVisitedLock visited)) g there) m.suiting m.made (λ b a n. omega arith) m.guarded m.allowed
table_falls c own h (Locked (Release e)) r g there i f holds m = made_by (ask_of c own (Locked (Release e))) r (FallsTable c own h (Locked (Release e)) g there) m.suiting m.made (λ b a n. omega arith) m.guarded m.allowed
table_falls c own h (Victim LoadVictim) r g there i f holds m = made_by (ask_of c own (Victim LoadVictim)) r (FallsTable c own h (Victim LoadVictim) g there) m.suiting m.made (λ w b a n. cond_both (is_present_in w c.who) _ _ (λ q. 1 + rest_table c h true (Victim q) ≤ 4 * in_queue h + visits c + 2) (λ _. omega arith) (λ _. omega arith)) m.guarded m.allowed
table_falls c own h (Victim (CommitKill seen)) r g there i f holds m = made_by (ask_of c own (Victim (CommitKill seen))) r (FallsTable c own h (Victim (CommitKill seen)) g there) m.suiting m.made (λ b a n. killed_table there _ _ (free_table c h there h.queue.entries refl), λ w b a n. kill_lost there (4 * in_queue h + visits c) (n (eq-eqb c.who.number c.who.number refl))) m.guarded m.allowed
table_falls c own h (Victim (LoadSender sender)) r g there i f holds m = made_by (ask_of c own (Victim (LoadSender sender))) r (FallsTable c own h (Victim (LoadSender sender)) g there) m.suiting m.made (λ w b a n. omega (arith, f)) m.guarded m.allowed
table_falls c own h (Victim (FreeSender sender seen)) r g there i f holds m = made_by (ask_of c own (Victim (FreeSender sender seen))) r (FallsTable c own h (Victim (FreeSender sender seen)) g there) m.suiting m.made (λ b a n. won_table c h sender seen seen.on there f, λ w b a n. free_lost there (4 * in_queue h + visits c) (n (eq-eqb sender sender refl))) m.guarded m.allowed
table_falls c own h (Victim (AcquireReadyForSender sender seen)) r g there i f holds m = made_by (ask_of c own (Victim (AcquireReadyForSender sender seen))) r (FallsTable c own h (Victim (AcquireReadyForSender sender seen)) g there) m.suiting m.made (λ b a n. sender_ready c h g f b) m.guarded m.allowed
table_falls c own h (Victim ReleaseVictimLock) r g there i f holds m = made_by (ask_of c own (Victim ReleaseVictimLock)) r (FallsTable c own h (Victim ReleaseVictimLock) g there) m.suiting m.made (λ b a n. omega arith) m.guarded m.allowed
table_falls c own h (Victim (ReleaseVictimLockAbsent found)) r g there i f holds m = made_by (ask_of c own (Victim (ReleaseVictimLockAbsent found))) r (FallsTable c own h (Victim (ReleaseVictimLockAbsent found)) g there) m.suiting m.made (λ b a n. omega arith) m.guarded m.allowed
table_falls c own h (Visit (LoadVisited visited)) r g there i f holds m = made_by (ask_of c own (Visit (LoadVisited visited))) r (FallsTable c own h (Visit (LoadVisited visited)) g there) m.suiting m.made (λ w b a n. loaded_visit c h visited w (is_receiving_from c.who w.state) (some_visit c visited i f)) m.guarded m.allowed
table_falls c own h (Visit (FreeVisited visited seen)) r g there i f holds m = made_by (ask_of c own (Visit (FreeVisited visited seen))) r (FallsTable c own h (Visit (FreeVisited visited seen)) g there) m.suiting m.made (λ b a n. freed_visit c h visited seen seen.on there (some_visit c visited i f), λ w b a n. free_lost there (6 * to_visit c visited) (n (eq-eqb visited visited refl))) m.guarded m.allowed
table_falls c own h (Visit (AcquireReadyForVisited visited seen)) r g there i f holds m = made_by (ask_of c own (Visit (AcquireReadyForVisited visited seen))) r (FallsTable c own h (Visit (AcquireReadyForVisited visited seen)) g there) m.suiting m.made (λ b a n. visited_ready (to_visit c visited) (some_visit c visited i f)) m.guarded m.allowed
table_falls c own h (Visit (ReleaseVisitedLock visited)) r g there i f holds m = made_by (ask_of c own (Visit (ReleaseVisitedLock visited))) r (FallsTable c own h (Visit (ReleaseVisitedLock visited)) g there) m.suiting m.made (λ b a n. let v = next_visit c h there visited i f in let k = some_visit c visited i f in omega (arith, v, k)) m.guarded m.allowed
table_falls c own h UnlistVictim r g there i f holds m = made_by (ask_of c own UnlistVictim) r (FallsTable c own h UnlistVictim g there) m.suiting m.made (λ b a n. omega arith) m.guarded m.allowed
table_falls c own h (Pushing (PushSender sender seen)) r g there i f holds m = made_by (ask_of c own (Pushing (PushSender sender seen))) r (FallsTable c own h (Pushing (PushSender sender seen)) g there) m.suiting m.made (λ b a n. let d = freed_table c h there f in omega (arith, d)) m.guarded m.allowed
table_falls c own h (Pushing (PushVisited visited seen)) r g there i f holds m = made_by (ask_of c own (Pushing (PushVisited visited seen))) r (FallsTable c own h (Pushing (PushVisited visited seen)) g there) m.suiting m.made (λ b a n. visited_pushed (to_visit c visited) (some_visit c visited i f)) m.guarded m.allowed

-- THE THREAD LOCK

abbrev FallsThread : DestroyCall → StateWord → Hand → DestroyAt → Goods → Bool → Response → Type 0
FallsThread c own h p g there r = brings (ask_of c own p) r g ≡ true → (misses (seen_of c p) (ask_of c own p) r ≡ true → there ≡ false)
    → 1 + rest_thread (hand_came r g (hand_after c h p r)) (there_after there r) (leads c h p r) ≤ rest_thread h there p

free_thread : (h : Hand) (there : Bool) (es : List SenderEntry) → length es ≡ in_queue h → rest_thread h there (Victim (free_first es)) ≤ 4 * in_queue h + 1
free_thread h there [] e = omega arith
free_thread h there (f ∷ es) e = omega arith

killed_thread : (there : Bool) (x q : ℕ) → x ≤ 4 * q + 1 → 1 + x ≤ 4 * q + (if there then 2 else 4)
killed_thread true x q e = omega (arith, e)
killed_thread false x q e = omega (arith, e)

kill_lost_thread : (there : Bool) (q : ℕ) → there ≡ false → 1 + (4 * q + 3) ≤ 4 * q + (if there then 2 else 4)
kill_lost_thread true q e = absurd (false≢true (sym e))
kill_lost_thread false q e = omega arith

freed_thread : (h : Hand) (there : Bool) → 1 ≤ in_queue h → rest_thread (record h { queue = without_first h.queue }) there (Victim (free_first (rest h.queue.entries))) + 3 ≤ 4 * in_queue h
freed_thread h there f = let e : length (rest h.queue.entries) + 1 ≡ length h.queue.entries = rest_length h.queue.entries f in let b = free_thread (record h { queue = without_first h.queue }) there (rest h.queue.entries) refl in omega (arith, e, b)

won_thread : (h : Hand) (sender : ℕ) (seen : StateWord) (on there : Bool) → 1 ≤ in_queue h → 1 + rest_thread (if on then record h { queue = without_first h.queue } else h) there (Victim (if on then free_first (rest h.queue.entries) else AcquireReadyForSender sender seen)) ≤ 4 * in_queue h + (if there then 0 else 2)
won_thread h sender seen true true f = let b = freed_thread h true f in omega (arith, b)
won_thread h sender seen true false f = let b = freed_thread h false f in omega (arith, b)
won_thread h sender seen false true f = omega (arith, f)
won_thread h sender seen false false f = omega (arith, f)

free_lost_thread : (there : Bool) (q : ℕ) → there ≡ false → 1 + (4 * q + 1) ≤ 4 * q + (if there then 0 else 2)
free_lost_thread true q e = absurd (false≢true (sym e))
free_lost_thread false q e = omega arith

sender_ready_thread : (h : Hand) (g : Goods) → 1 ≤ in_queue h → guards lock.Ready g ≡ true → 1 + (4 * length (with_goods g h).queue.entries - 2) ≤ 4 * in_queue h - 1
sender_ready_thread h g f e = let q = ap (λ (q : Queue). length q.entries) (same_queue g h e) in omega (arith, q, f)

freed_visit_thread : (h : Hand) (x : ℕ) (seen : StateWord) (on there : Bool) → 1 + rest_thread h there (Visit (if on then ReleaseVisitedLock x else AcquireReadyForVisited x seen)) ≤ (if there then 4 else 6)
freed_visit_thread h x seen true true = omega arith
freed_visit_thread h x seen true false = omega arith
freed_visit_thread h x seen false true = omega arith
freed_visit_thread h x seen false false = omega arith

visit_lost_thread : (there : Bool) → there ≡ false → 1 + 5 ≤ (if there then 4 else 6)
visit_lost_thread true e = absurd (false≢true (sym e))
visit_lost_thread false e = omega arith

unheld : (c : DestroyCall) (p : DestroyAt) (n : ℕ) → Holds (lock.Thread n) (locks_of c p) → locks_thread c p n ≡ true
unheld c (Outside p) n holds = absurd (nothing_held 1 (lock.Thread n) holds)
unheld c (Locked p) n holds = absurd cc
unheld c (Victim p) n holds = let e : c.who.number ≡ n = cc in rw e (eq-eqb n n refl)
unheld c (Visit p) n holds = let e : visited_at p ≡ n = cc in rw e (eq-eqb n n refl)
unheld c UnlistVictim n holds = absurd cc
unheld c (Pushing p) n holds = let e : queue_at c p ≡ n = cc in rw e (eq-eqb n n refl)

thread_held : (c : DestroyCall) (p : DestroyAt) (n : ℕ) → locks_thread c p n ≡ true → Holds (lock.Thread n) (locks_of c p)
thread_held c (Outside p) n e = absurd (false≢true e)
thread_held c (Locked p) n e = absurd (false≢true e)
thread_held c (Victim p) n e = ap (λ (x : ℕ). Some (Some (lock.Thread x))) (sym (eqb-true n c.who.number e))
thread_held c (Visit p) n e = ap (λ (x : ℕ). Some (Some (lock.Thread x))) (sym (eqb-true n (visited_at p) e))
thread_held c UnlistVictim n e = absurd (false≢true e)
thread_held c (Pushing p) n e = ap (λ (x : ℕ). Some (Some (lock.Thread x))) (sym (eqb-true n (queue_at c p) e))

thread_falls : (c : DestroyCall) (own : StateWord) (h : Hand) (p : DestroyAt) (r : Response) (g : Goods) (there : Bool) (n : ℕ) → Fits c h p → Holds (lock.Thread n) (locks_of c p) → IsMade (destroy_table c) own h p r g → (misses (seen_of c p) (ask_of c own p) r ≡ true → there ≡ false) → 1 + rest_thread (hand_came r g (hand_after c h p r)) (there_after there r) (leads c h p r) ≤ rest_thread h there p
thread_falls c own h (Outside p) r g there n f holds m = absurd (nothing_held 1 (lock.Thread n) holds)
thread_falls c own h (Locked p) r g there n f holds m = absurd cc
thread_falls c own h UnlistVictim r g there n f holds m = absurd cc
thread_falls c own h (Victim LoadVictim) r g there n f holds m = made_by (ask_of c own (Victim LoadVictim)) r (FallsThread c own h (Victim LoadVictim) g there) m.suiting m.made (λ w b n. cond_both (is_present_in w c.who) _ _ (λ q. 1 + rest_thread h true (Victim q) ≤ 4 * in_queue h + 3) (λ _. omega arith) (λ _. omega arith)) m.guarded
thread_falls c own h (Victim (CommitKill seen)) r g there n f holds m = made_by (ask_of c own (Victim (CommitKill seen))) r (FallsThread c own h (Victim (CommitKill seen)) g there) m.suiting m.made (λ b n. killed_thread there _ (in_queue h) (free_thread h there h.queue.entries refl), λ w b n. kill_lost_thread there (in_queue h) (n (eq-eqb c.who.number c.who.number refl))) m.guarded
thread_falls c own h (Victim (LoadSender sender)) r g there n f holds m = made_by (ask_of c own (Victim (LoadSender sender))) r (FallsThread c own h (Victim (LoadSender sender)) g there) m.suiting m.made (λ w b n. omega arith) m.guarded
thread_falls c own h (Victim (FreeSender sender seen)) r g there n f holds m = made_by (ask_of c own (Victim (FreeSender sender seen))) r (FallsThread c own h (Victim (FreeSender sender seen)) g there) m.suiting m.made (λ b n. won_thread h sender seen seen.on there f, λ w b n. free_lost_thread there (in_queue h) (n (eq-eqb sender sender refl))) m.guarded
thread_falls c own h (Victim (AcquireReadyForSender sender seen)) r g there n f holds m = made_by (ask_of c own (Victim (AcquireReadyForSender sender seen))) r (FallsThread c own h (Victim (AcquireReadyForSender sender seen)) g there) m.suiting m.made (λ b n. sender_ready_thread h g f b) m.guarded
thread_falls c own h (Victim ReleaseVictimLock) r g there n f holds m = made_by (ask_of c own (Victim ReleaseVictimLock)) r (FallsThread c own h (Victim ReleaseVictimLock) g there) m.suiting m.made (λ b n. omega arith) m.guarded
thread_falls c own h (Victim (ReleaseVictimLockAbsent found)) r g there n f holds m = made_by (ask_of c own (Victim (ReleaseVictimLockAbsent found))) r (FallsThread c own h (Victim (ReleaseVictimLockAbsent found)) g there) m.suiting m.made (λ b n. omega arith) m.guarded
thread_falls c own h (Visit (LoadVisited visited)) r g there n f holds m = made_by (ask_of c own (Visit (LoadVisited visited))) r (FallsThread c own h (Visit (LoadVisited visited)) g there) m.suiting m.made (λ w b n. cond_both (is_receiving_from c.who w.state) _ _ (λ q. 1 + rest_thread h true (Visit q) ≤ 5) (λ _. omega arith) (λ _. omega arith)) m.guarded
thread_falls c own h (Visit (FreeVisited visited seen)) r g there n f holds m = made_by (ask_of c own (Visit (FreeVisited visited seen))) r (FallsThread c own h (Visit (FreeVisited visited seen)) g there) m.suiting m.made (λ b n. freed_visit_thread h visited seen seen.on there, λ w b n. visit_lost_thread there (n (eq-eqb visited visited refl))) m.guarded
thread_falls c own h (Visit (AcquireReadyForVisited visited seen)) r g there n f holds m = made_by (ask_of c own (Visit (AcquireReadyForVisited visited seen))) r (FallsThread c own h (Visit (AcquireReadyForVisited visited seen)) g there) m.suiting m.made (λ b n. omega arith) m.guarded
thread_falls c own h (Visit (ReleaseVisitedLock visited)) r g there n f holds m = made_by (ask_of c own (Visit (ReleaseVisitedLock visited))) r (FallsThread c own h (Visit (ReleaseVisitedLock visited)) g there) m.suiting m.made (λ b n. omega arith) m.guarded
thread_falls c own h (Pushing (PushSender sender seen)) r g there n f holds m = made_by (ask_of c own (Pushing (PushSender sender seen))) r (FallsThread c own h (Pushing (PushSender sender seen)) g there) m.suiting m.made (λ b n. let d = freed_thread h there f in omega (arith, d, f)) m.guarded
thread_falls c own h (Pushing (PushVisited visited seen)) r g there n f holds m = made_by (ask_of c own (Pushing (PushVisited visited seen))) r (FallsThread c own h (Pushing (PushVisited visited seen)) g there) m.suiting m.made (λ b n. omega arith) m.guarded

-- THE READY LOCK

free_ready : (es : List SenderEntry) → left_ready (Victim (free_first es)) ≡ 0
free_ready [] = refl
free_ready (e ∷ es) = refl

ready_falls : (c : DestroyCall) (own : StateWord) (h : Hand) (p : DestroyAt) (r : Response) (g : Goods) → Holds lock.Ready (locks_of c p) → IsMade (destroy_table c) own h p r g → 1 + left_ready (leads c h p r) ≤ left_ready p
ready_falls c own h (Outside p) r g holds m = absurd (nothing_held 2 lock.Ready holds)
ready_falls c own h (Locked p) r g holds m = absurd cc
ready_falls c own h (Victim p) r g holds m = absurd cc
ready_falls c own h (Visit p) r g holds m = absurd cc
ready_falls c own h UnlistVictim r g holds m = made_by (ask_of c own UnlistVictim) r (λ q. 1 + left_ready (leads c h UnlistVictim q) ≤ 1) m.suiting m.made (omega arith)
ready_falls c own h (Pushing (PushSender sender seen)) r g holds m = made_by (ask_of c own (Pushing (PushSender sender seen))) r (λ q. 1 + left_ready (leads c h (Pushing (PushSender sender seen)) q) ≤ 1) m.suiting m.made (let f = free_ready (rest h.queue.entries) in omega (arith, f))
ready_falls c own h (Pushing (PushVisited visited seen)) r g holds m = made_by (ask_of c own (Pushing (PushVisited visited seen))) r (λ q. 1 + left_ready (leads c h (Pushing (PushVisited visited seen)) q) ≤ 1) m.suiting m.made (omega arith)

-- EACH LOCK

if_most : (b : Bool) (x : ℕ) → (if b then x else 0) ≤ x
if_most true x = omega arith
if_most false x = omega arith

falls : (c : DestroyCall) (k : Lock) (own : StateWord) (h : Hand) (p : DestroyAt) (r : Response) (g : Goods) (there : Bool) → c.who.number < c.count → Fits c h p → Holds k (locks_of c p) → IsMade (destroy_table c) own h p r g → (misses (seen_of c p) (ask_of c own p) r ≡ true → there ≡ false) → 1 + rest_of c (hand_came r g (hand_after c h p r)) (there_after there r) (leads c h p r) k ≤ rest_of c h there p k
falls c lock.Table own h p r g there i f holds m missed = table_falls c own h p r g there i f holds m missed
falls c (lock.Thread n) own h p r g there i f holds m missed =
    let t = thread_falls c own h p r g there n f holds m missed in
    let b = if_most (locks_thread c (leads c h p r) n) (rest_thread (hand_came r g (hand_after c h p r)) (there_after there r) (leads c h p r)) in
    rw (unheld c p n holds) (omega (arith, t, b))
falls c lock.Ready own h p r g there i f holds m missed = ready_falls c own h p r g holds m

above_table : (c : DestroyCall) (h : Hand) (p : DestroyAt) (there : Bool) → rest_table c h true p ≤ rest_table c h there p
above_table c h p true = omega arith
above_table c h (Victim (CommitKill seen)) false = omega arith
above_table c h (Victim (FreeSender sender seen)) false = omega arith
above_table c h (Visit (FreeVisited visited seen)) false = omega arith
above_table c h p false = omega arith

above_thread : (h : Hand) (p : DestroyAt) (there : Bool) → rest_thread h true p ≤ rest_thread h there p
above_thread h p true = omega arith
above_thread h (Victim (CommitKill seen)) false = omega arith
above_thread h (Victim (FreeSender sender seen)) false = omega arith
above_thread h (Visit (FreeVisited visited seen)) false = omega arith
above_thread h p false = omega arith

if_below : (b : Bool) (x y : ℕ) → x ≤ y → (if b then x else 0) ≤ (if b then y else 0)
if_below true x y l = l
if_below false x y l = omega arith

above_rest : (c : DestroyCall) (h : Hand) (p : DestroyAt) (there : Bool) (k : Lock) → rest_of c h true p k ≤ rest_of c h there p k
above_rest c h p there lock.Table = above_table c h p there
above_rest c h p there (lock.Thread n) = if_below (locks_thread c p n) _ _ (above_thread h p there)
above_rest c h p there lock.Ready = omega arith

-- where the loaded word isn't there any more, two steps more are made
within_table : (c : DestroyCall) (h : Hand) (p : DestroyAt) (there : Bool) → rest_table c h there p ≤ rest_table c h true p + 2
within_table c h p true = omega arith
within_table c h (Victim (CommitKill seen)) false = omega arith
within_table c h (Victim (FreeSender sender seen)) false = omega arith
within_table c h (Visit (FreeVisited visited seen)) false = omega arith
within_table c h p false = omega arith

within_thread : (h : Hand) (p : DestroyAt) (there : Bool) → rest_thread h there p ≤ rest_thread h true p + 2
within_thread h p true = omega arith
within_thread h (Victim (CommitKill seen)) false = omega arith
within_thread h (Victim (FreeSender sender seen)) false = omega arith
within_thread h (Visit (FreeVisited visited seen)) false = omega arith
within_thread h p false = omega arith

if_within : (b : Bool) (x y : ℕ) → x ≤ y + 2 → (if b then x else 0) ≤ (if b then y else 0) + 2
if_within true x y l = l
if_within false x y l = omega arith

pub within : (c : DestroyCall) (h : Hand) (p : DestroyAt) (there : Bool) (k : Lock) → rest_of c h there p k ≤ rest_of c h true p k + 2
within c h p there lock.Table = within_table c h p there
within c h p there (lock.Thread n) = if_within (locks_thread c p n) _ _ (within_thread h p there)
within c h p there lock.Ready = omega arith

-- steps are left of a lock that is held, and of no other
some_of_visit : (k m : ℕ) → 1 ≤ k → m ≤ 4 → 1 ≤ 6 * k - m
some_of_visit k m some few = omega arith

freeing_visit : (k : ℕ) → 1 ≤ k → 1 ≤ 6 * k + 1 - 2
freeing_visit k some = omega arith

some_table : (c : DestroyCall) (h : Hand) (p : DestroyAt) → c.who.number < c.count → Fits c h p → Holds lock.Table (locks_of c p) → 1 ≤ rest_table c h true p
some_table c h (Outside p) i f holds = absurd (nothing_held 0 lock.Table holds)
some_table c h (Locked LoadCaller) i f holds = omega arith
some_table c h (Locked AcquireVictimLock) i f holds = omega arith
some_table c h (Locked AcquireReadyForVictim) i f holds = omega arith
some_table c h (Locked RemoveContext) i f holds = omega arith
some_table c h (Locked (AcquireVisitedLock visited)) i f holds = omega arith
some_table c h (Locked (Release e)) i f holds = omega arith
some_table c h (Victim LoadVictim) i f holds = omega arith
some_table c h (Victim (CommitKill seen)) i f holds = omega arith
some_table c h (Victim (LoadSender sender)) i f holds = omega (arith, f)
some_table c h (Victim (FreeSender sender seen)) i f holds = omega (arith, f)
some_table c h (Victim (AcquireReadyForSender sender seen)) i f holds = omega (arith, f)
some_table c h (Victim ReleaseVictimLock) i f holds = omega arith
some_table c h (Victim (ReleaseVictimLockAbsent found)) i f holds = omega arith
some_table c h (Visit (LoadVisited visited)) i f holds = let k = some_visit c visited i f in omega (arith, k)
some_table c h (Visit (FreeVisited visited seen)) i f holds = freeing_visit (to_visit c visited) (some_visit c visited i f)
some_table c h (Visit (AcquireReadyForVisited visited seen)) i f holds = some_of_visit (to_visit c visited) 2 (some_visit c visited i f) (omega arith)
some_table c h (Visit (ReleaseVisitedLock visited)) i f holds = some_of_visit (to_visit c visited) 4 (some_visit c visited i f) (omega arith)
some_table c h UnlistVictim i f holds = omega arith
some_table c h (Pushing (PushSender sender seen)) i f holds = omega (arith, f)
some_table c h (Pushing (PushVisited visited seen)) i f holds = some_of_visit (to_visit c visited) 3 (some_visit c visited i f) (omega arith)

some_thread : (c : DestroyCall) (h : Hand) (p : DestroyAt) (n : ℕ) → Fits c h p → Holds (lock.Thread n) (locks_of c p) → 1 ≤ rest_thread h true p
some_thread c h (Outside p) n f holds = absurd (nothing_held 1 (lock.Thread n) holds)
some_thread c h (Locked p) n f holds = absurd cc
some_thread c h UnlistVictim n f holds = absurd cc
some_thread c h (Victim LoadVictim) n f holds = omega arith
some_thread c h (Victim (CommitKill seen)) n f holds = omega arith
some_thread c h (Victim (LoadSender sender)) n f holds = omega (arith, f)
some_thread c h (Victim (FreeSender sender seen)) n f holds = omega (arith, f)
some_thread c h (Victim (AcquireReadyForSender sender seen)) n f holds = omega (arith, f)
some_thread c h (Victim ReleaseVictimLock) n f holds = omega arith
some_thread c h (Victim (ReleaseVictimLockAbsent found)) n f holds = omega arith
some_thread c h (Visit (LoadVisited visited)) n f holds = omega arith
some_thread c h (Visit (FreeVisited visited seen)) n f holds = omega arith
some_thread c h (Visit (AcquireReadyForVisited visited seen)) n f holds = omega arith
some_thread c h (Visit (ReleaseVisitedLock visited)) n f holds = omega arith
some_thread c h (Pushing (PushSender sender seen)) n f holds = omega (arith, f)
some_thread c h (Pushing (PushVisited visited seen)) n f holds = omega arith

some_ready : (c : DestroyCall) (p : DestroyAt) → Holds lock.Ready (locks_of c p) → 1 ≤ left_ready p
some_ready c (Outside p) holds = absurd (nothing_held 2 lock.Ready holds)
some_ready c (Locked p) holds = absurd cc
some_ready c (Victim p) holds = absurd cc
some_ready c (Visit p) holds = absurd cc
some_ready c UnlistVictim holds = omega arith
some_ready c (Pushing (PushSender sender seen)) holds = omega arith
some_ready c (Pushing (PushVisited visited seen)) holds = omega arith

some_rest : (c : DestroyCall) (h : Hand) (p : DestroyAt) (k : Lock) → c.who.number < c.count → Fits c h p → Holds k (locks_of c p) → 1 ≤ rest_of c h true p k
some_rest c h p lock.Table i f holds = some_table c h p i f holds
some_rest c h p (lock.Thread n) i f holds = rw (unheld c p n holds) (some_thread c h p n f holds)
some_rest c h p lock.Ready i f holds = some_ready c p holds

left_zero : (h : Hand) (p : DestroyAt) (b : Bool) → 1 ≤ (if b then left_thread h p else 0) → b ≡ true
left_zero h p true l = refl
left_zero h p false l = absurd (omega (arith, l))

only : (c : DestroyCall) (h : Hand) (p : DestroyAt) (k : Lock) → 1 ≤ left_of c h p k → Holds k (locks_of c p)
only c h (Outside p) lock.Table l = absurd (omega (arith, l))
only c h (Locked p) lock.Table l = refl
only c h (Victim p) lock.Table l = refl
only c h (Visit p) lock.Table l = refl
only c h UnlistVictim lock.Table l = refl
only c h (Pushing p) lock.Table l = refl
only c h p (lock.Thread n) l = thread_held c p n (left_zero h p (locks_thread c p n) l)
only c h (Outside p) lock.Ready l = absurd (omega (arith, l))
only c h (Locked p) lock.Ready l = absurd (omega (arith, l))
only c h (Victim p) lock.Ready l = absurd (omega (arith, l))
only c h (Visit p) lock.Ready l = absurd (omega (arith, l))
only c h UnlistVictim lock.Ready l = refl
only c h (Pushing p) lock.Ready l = refl

quiet : (c : DestroyCall) (own : StateWord) (p : DestroyAt) → Holds lock.Ready (locks_of c p) → is_exchange (ask_of c own p) ≡ false
quiet c own (Outside p) holds = absurd (nothing_held 2 lock.Ready holds)
quiet c own (Locked p) holds = absurd cc
quiet c own (Victim p) holds = absurd cc
quiet c own (Visit p) holds = absurd cc
quiet c own UnlistVictim holds = refl
quiet c own (Pushing (PushSender sender seen)) holds = refl
quiet c own (Pushing (PushVisited visited seen)) holds = refl

-- the column is the rest where the loaded word isn't there any more
columns_table : (c : DestroyCall) (h : Hand) (p : DestroyAt) → left_table c h p ≡ rest_table c h false p
columns_table c h (Victim (CommitKill seen)) = refl
columns_table c h (Victim (FreeSender sender seen)) = omega arith
columns_table c h (Visit (FreeVisited visited seen)) = omega arith
columns_table c h p = refl

columns_thread : (h : Hand) (p : DestroyAt) → left_thread h p ≡ rest_thread h false p
columns_thread h (Victim (CommitKill seen)) = refl
columns_thread h (Victim (FreeSender sender seen)) = refl
columns_thread h (Visit (FreeVisited visited seen)) = refl
columns_thread h p = refl

columns : (c : DestroyCall) (h : Hand) (p : DestroyAt) (k : Lock) → left_of c h p k ≡ rest_of c h false p k
columns c h p lock.Table = columns_table c h p
columns c h p (lock.Thread n) = ap (λ (x : ℕ). if locks_thread c p n then x else 0) (columns_thread h p)
columns c h p lock.Ready = refl

-- what the column counts of lost exchanges
low_table : (c : DestroyCall) (h : Hand) (p : DestroyAt) → c.who.number < c.count → Fits c h p → rest_table c h true p + 2 * counted p ≤ left_table c h p
low_table c h (Victim (CommitKill seen)) i f = omega arith
low_table c h (Victim (FreeSender sender seen)) i f = omega arith
low_table c h (Visit (FreeVisited visited seen)) i f = go (to_visit c visited) (some_visit c visited i f)
  where
    go : (k : ℕ) → 1 ≤ k → 6 * k + 1 - 2 + 2 * 1 ≤ 6 * k + 1
    go k some = omega arith
low_table c h p i f = omega arith

low_thread : (c : DestroyCall) (h : Hand) (p : DestroyAt) → rest_thread h true p + 2 * counted p ≤ left_thread h p
low_thread c h (Victim (CommitKill seen)) = omega arith
low_thread c h (Victim (FreeSender sender seen)) = omega arith
low_thread c h (Visit (FreeVisited visited seen)) = omega arith
low_thread c h p = omega arith

uncounted_ready : (c : DestroyCall) (p : DestroyAt) → Holds lock.Ready (locks_of c p) → counted p ≡ 0
uncounted_ready c (Outside p) holds = absurd (nothing_held 2 lock.Ready holds)
uncounted_ready c (Locked p) holds = absurd cc
uncounted_ready c (Victim p) holds = absurd cc
uncounted_ready c (Visit p) holds = absurd cc
uncounted_ready c UnlistVictim holds = refl
uncounted_ready c (Pushing p) holds = refl

low : (c : DestroyCall) (h : Hand) (p : DestroyAt) (k : Lock) → c.who.number < c.count → Fits c h p → Holds k (locks_of c p) → rest_of c h true p k + 2 * counted p ≤ left_of c h p k
low c h p lock.Table i f holds = low_table c h p i f
low c h p (lock.Thread n) i f holds = rw (unheld c p n holds) (low_thread c h p)
low c h p lock.Ready i f holds = let z = uncounted_ready c p holds in omega (arith, z)

few_counted : (p : DestroyAt) → counted p ≤ 1
few_counted (Victim (CommitKill seen)) = omega arith
few_counted (Victim (FreeSender sender seen)) = omega arith
few_counted (Visit (FreeVisited visited seen)) = omega arith
few_counted p = omega arith

-- an exchange that misses its word is lost
lost_missed : (seen : Option ℕ) (a : Ask) (r : Response) → misses seen a r ≡ true → not (is_lost r) ≡ false
lost_missed (Some n) (plain.Exchange number old new) (plain.Lost w) e = refl
lost_missed seen a r e = absurd (false≢true e)

fits_first : (c : DestroyCall) (h : Hand) → Fits c h (first_of c)
fits_first c h = tt

-- where the loaded word is gone once the step is made
missed : (c : DestroyCall) (k : Lock) (own : StateWord) (h : Hand) (p : DestroyAt) (r : Response) (g : Goods) → c.who.number < c.count → Fits c h p → Holds k (locks_of c p) → IsMade (destroy_table c) own h p r g → 1 + rest_of c (hand_came r g (hand_after c h p r)) false (leads c h p r) k ≤ rest_of c h (not (is_lost r)) p k + 2
missed c k own h p r g i f holds m =
    let l = falls c k own h p r g (not (is_lost r)) i f holds m (lost_missed (seen_of c p) (ask_of c own p) r) in
    let a = above_rest c (hand_came r g (hand_after c h p r)) (leads c h p r) (there_after (not (is_lost r)) r) k in
    let w = within c (hand_came r g (hand_after c h p r)) (leads c h p r) false k in
    omega (arith, l, a, w)

falling : (c : DestroyCall) → c.who.number < c.count → IsFalling (destroy_table c)
falling c i = record {
  start = λ h. fits_first c h;
  keeps = keeps c;
  falls = λ k own h p r g there f holds m lost. falls c k own h p r g there i f holds m lost;
  missed = λ k own h p r g f holds m. missed c k own h p r g i f holds m;
  above = λ h p there k f. above_rest c h p there k;
  low = λ h p k f holds. low c h p k i f holds;
  high = λ h p k f holds. let e = columns c h p k in let n = few_counted p in omega (arith, e, n);
  quiet = quiet c;
  columns = columns c;
  some = λ h p k f holds. let s = some_rest c h p k i f holds in let a = above_rest c h p false k in let e = columns c h p k in omega (arith, s, a, e);
  only = only c;
}

pub in_time : (c : DestroyCall) → c.who.number < c.count → IsReleasedInTime (destroy_table c)
in_time c i = released_in_time (destroy_table c) (falling c i)

-- told that the loaded word is still there, two steps more for each lost exchange
pub rested : (c : DestroyCall) (k : Lock) (own : StateWord) (h : Hand) (p : DestroyAt) (answers : List Response) → c.who.number < c.count → Reached (destroy_table c) own h p → Run (destroy_table c) k own h p answers → length answers ≤ rest_of c h true p k + 2 * lost_in answers
rested c k own h p answers i reached run =
    let t = in_time c i in
    let e = t.exact k own h p answers (t.fits own h p reached) run in
    let w = within c h p (is_found answers) k in
    go answers e w
  where
    go : (answers : List Response) → length answers ≤ rest_of c h (is_found answers) p k + 2 * lost_later answers → rest_of c h (is_found answers) p k ≤ rest_of c h true p k + 2 → length answers ≤ rest_of c h true p k + 2 * lost_in answers
    go [] e w = omega arith
    go (plain.Lost v ∷ more) e w = omega (arith, e, w)
    go (r ∷ more) e w = omega (arith, e)
