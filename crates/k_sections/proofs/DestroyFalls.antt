-- A step of a destroy brings it nearer to each release.
use Rattle.std.proofs.Common.{◌≡◌, ℕ, ◌+◌, ◌<◌, ◌≤◌, Bool, true, false, refl, sym, ap, ◌∙◌}
use Rattle.std.proofs.Common.{subst, arith, Option, Some, None, List, [], ◌∷◌, length}
use Rattle.std.proofs.lemmas.Bool.{cond_both}
use Rattle.std.proofs.lemmas.Grind.{common_steps}
use Rattle.std.specs.Prelude.{if◌then◌else◌}
use Rattle.k_ids.specs.declared.state_word.StateWord.{StateWord}
use Rattle.k_model.specs.Maps.{upd}
use Rattle.k_model.proofs.Maps.{upd_same}
use Rattle.k_senders.specs.declared.entries.SenderEntry.{SenderEntry}
use Rattle.k_senders.specs.Queue.{Queue, first_number}
use Rattle.k_locks.specs.declared.locks.Lock.{Lock}
use Rattle.k_locks.specs.declared.locks.Lock.TheVariants as lock
use Rattle.k_locks.specs.declared.points.Point.{Point}
use Rattle.k_locks.specs.Asks.{Response, is_again}
use Rattle.k_locks.specs.Asks as asks
use Rattle.k_locks.specs.Hands.{Hand}
use Rattle.k_locks.specs.Locks.{Holds}
use Rattle.k_locks.specs.Shown.{is_present_in}
use Rattle.k_locks.specs.Tables.{hand_came, misses, there_after}
use Rattle.k_locks.proofs.Responses.{Each, made_by}
use Rattle.k_threads.specs.declared.destroy.DestroyCall.{DestroyCall}
use Rattle.k_threads.specs.declared.destroy.DestroyOutside.TheVariants.{LoadOwn, AcquireTable, Ended}
use Rattle.k_threads.specs.declared.destroy.DestroyLocked.{DestroyLocked}
use Rattle.k_threads.specs.declared.destroy.DestroyLocked.TheVariants.{LoadCaller, AcquireVictimLock, AcquireReadyForVictim}
use Rattle.k_threads.specs.declared.destroy.DestroyLocked.TheVariants.{RemoveContext, AcquireVisitedLock, Release}
use Rattle.k_threads.specs.declared.destroy.DestroyRelease.TheVariants as release
use Rattle.k_threads.specs.declared.destroy.DestroyVictim.{DestroyVictim}
use Rattle.k_threads.specs.declared.destroy.DestroyVictim.TheVariants.{LoadVictim, CommitKill, LoadSender}
use Rattle.k_threads.specs.declared.destroy.DestroyVictim.TheVariants.{FreeSender, AcquireReadyForSender}
use Rattle.k_threads.specs.declared.destroy.DestroyVictim.TheVariants.{ReleaseVictimLock, ReleaseVictimLockAbsent}
use Rattle.k_threads.specs.declared.destroy.DestroyVisit.{DestroyVisit}
use Rattle.k_threads.specs.declared.destroy.DestroyVisit.TheVariants.{LoadVisited, FreeVisited}
use Rattle.k_threads.specs.declared.destroy.DestroyVisit.TheVariants.{AcquireReadyForVisited, ReleaseVisitedLock}
use Rattle.k_threads.specs.declared.destroy.DestroyPushing.TheVariants.{PushSender, PushVisited}
use Rattle.k_threads.specs.DestroyTable.{DestroyAt, Fits, IsShort, Locked, Outside, Pushing, UnlistVictim, Victim, Visit}
use Rattle.k_threads.specs.DestroyTable.{ask_of, destroy_table, free_first, hand_after, leads, left_of, locks_of}
use Rattle.k_threads.specs.DestroyTable.{locks_thread, points, rest_of, rest_table, rest_thread, seen_of, visit_from}
use Rattle.k_threads.specs.Goods.{rest, without_first}
use Rattle.k_threads.specs.Words.{is_receiving_from}
use Rattle.k_board.specs.Words.{Programs, Seen, noted}
use Rattle.k_board.specs.Boards.{InDestroy, Context, Board, hand_of}
use Rattle.k_board.specs.Facts.{AllSay}
use Rattle.k_board.specs.Places.{facts_destroy}
use Rattle.k_board.specs.Steps.{Answers, destroy_at, destroy_board, destroy_number, wrote}
use Rattle.k_good.proofs.Owners.{suits_is}
use Rattle.k_sections.specs.Situations.{is_there, loaded_destroy, rest_at}
use Rattle.k_sections.proofs.Falls.{always, brought, ended_rest, fall_by, just_loaded, lost_there, never, unloaded, within_by}
use Rattle.k_sections.proofs.Tables.{ThreadTables}

-- WHERE THE LOADED WORD IS STILL THERE, NO MORE ARE LEFT

table_above : (c : DestroyCall) (h : Hand) (p : DestroyAt) → rest_table c h true p ≤ rest_table c h false p
table_above c h (Outside p) = omega arith
table_above c h (Locked p) = omega arith
table_above c h UnlistVictim = omega arith
table_above c h (Pushing p) = omega arith
table_above c h (Victim p) = grind (arith, common_steps)
table_above c h (Visit p) = grind (arith, common_steps)

thread_above : (h : Hand) (p : DestroyAt) → rest_thread h true p ≤ rest_thread h false p
thread_above h (Outside p) = omega arith
thread_above h (Locked p) = omega arith
thread_above h UnlistVictim = omega arith
thread_above h (Pushing p) = omega arith
thread_above h (Victim p) = grind (arith, common_steps)
thread_above h (Visit p) = grind (arith, common_steps)

rest_above : (c : DestroyCall) (h : Hand) (p : DestroyAt) (there : Bool) (k : Lock) → rest_of c h true p k ≤ rest_of c h there p k
rest_above c h p true k = omega arith
rest_above c h p false lock.Table = table_above c h p
rest_above c h p false lock.Ready = omega arith
rest_above c h p false (lock.Thread n) = go (locks_thread c p n)
  where
    go : (b : Bool) → (if b then rest_thread h true p else 0) ≤ (if b then rest_thread h false p else 0)
    go true = thread_above h p
    go false = omega arith

-- under the table lock alone no queue counts
pub locked_rest : (c : DestroyCall) (h h' : Hand) (there : Bool) (p : DestroyLocked) (k : Lock) →
    rest_of c h there (Locked p) k ≡ rest_of c h' there (Locked p) k
locked_rest c h h' there p (lock.Thread n) = refl
locked_rest c h h' there p lock.Ready = refl
locked_rest c h h' there p lock.Table = grind (arith, common_steps)

-- LOCATIONS WITHOUT A LOADED WORD

none_freed : (c : DestroyCall) (es : List SenderEntry) → loaded_destroy c (Victim (free_first es)) ≡ None
none_freed c [] = refl
none_freed c (e ∷ es) = refl

none_pushed : (c : DestroyCall) (es : List SenderEntry) (sender : ℕ) (seen : StateWord) →
    loaded_destroy c (Victim (if seen.on then free_first es else AcquireReadyForSender sender seen)) ≡ None
none_pushed c es sender seen =
    cond_both seen.on _ _ (λ (q : DestroyVictim). loaded_destroy c (Victim q) ≡ None) (λ _. none_freed c es) (λ _. refl)

none_visited : (c : DestroyCall) (visited : ℕ) (seen : StateWord) →
    loaded_destroy c (Visit (if seen.on then ReleaseVisitedLock visited else AcquireReadyForVisited visited seen)) ≡ None
none_visited c visited seen =
    cond_both seen.on _ _ (λ (q : DestroyVisit). loaded_destroy c (Visit q) ≡ None) (λ _. refl) (λ _. refl)

front_some : (es : List SenderEntry) (sender : ℕ) → first_number es ≡ Some sender → 1 ≤ length es
front_some [] sender e = absurd cc
front_some (e ∷ es) sender q = omega arith

module _ (tables : ThreadTables) (g : Programs) (b : Board) (i : ℕ) (c : DestroyCall) where
  abbrev pub x : Context
  x = b.context i

  abbrev pub hand : DestroyAt → Hand
  hand p = hand_of b (b.queue (destroy_number c p))

  abbrev pub point : DestroyAt → Response → Option Point
  point p r = points c (b.seen i).word (hand p) p r

  abbrev now : DestroyAt → Response → ℕ → Seen
  now p r = wrote (noted g b.seen x.position (point p r)) (ask_of c x.own p) r

  abbrev after : DestroyAt → Response → Board
  after p r = destroy_board g b i x c p r

  -- What a step does to the loaded word; what it tells of it; what isn't so is never answered; and what is left by what is in
  -- hand after it.
  abbrev IsSameRest : DestroyAt → Response → Type 0
  IsSameRest p r =
      (there : Bool) (k : Lock) → rest_of c (hand_of (after p r)
      ((after p r).queue (destroy_number c (leads c (hand p) p r)))) there (leads c (hand p) p r) k ≡
      rest_of c (hand_came r (brought b (ask_of c x.own p)) (hand_after c (hand p) p r)) there (leads c (hand p) p r) k

  abbrev Tells : DestroyAt → Response → Type 0
  Tells p r =
      (is_there (now p r) (loaded_destroy c (leads c (hand p) p r)) ≡ false →
      there_after (is_there b.seen (loaded_destroy c p)) r ≡ false) ×
      (misses (seen_of c p) (ask_of c x.own p) r ≡ true → is_there b.seen (loaded_destroy c p) ≡ false) ×
      IsShort c (hand_came r (brought b (ask_of c x.own p)) (hand_after c (hand p) p r)) p r ×
      IsSameRest p r

  abbrev Told : DestroyAt → Response → Type 0
  Told p r = Answers b (ask_of c x.own p) r → Tells p r

  victim_loaded : (w : StateWord) → (b.seen c.who.number).word ≡ w → {A : Type 0} →
      is_there (now (Victim LoadVictim) (asks.Word w)) (loaded_destroy c
      (leads c (hand (Victim LoadVictim)) (Victim LoadVictim) (asks.Word w))) ≡ false → A
  victim_loaded w an {A} =
      cond_both (is_present_in w c.who) _ _ (λ (q : DestroyVictim).
      is_there (now (Victim LoadVictim) (asks.Word w)) (loaded_destroy c (Victim q)) ≡ false → A)
      (λ _. just_loaded g b.seen x.position (point (Victim LoadVictim) (asks.Word w)) c.who.number c.who.number w an)
      (λ _. always)

  visited_loaded : (visited : ℕ) (w : StateWord) → (b.seen visited).word ≡ w → {A : Type 0} →
      is_there (now (Visit (LoadVisited visited)) (asks.Word w))
      (loaded_destroy c (leads c (hand (Visit (LoadVisited visited))) (Visit (LoadVisited visited)) (asks.Word w))) ≡ false → A
  visited_loaded visited w an {A} =
      cond_both (is_receiving_from c.who w.state) _ _ (λ (q : DestroyVisit).
      is_there (now (Visit (LoadVisited visited)) (asks.Word w)) (loaded_destroy c (Visit q)) ≡ false → A)
      (λ _. just_loaded g b.seen x.position (point (Visit (LoadVisited visited)) (asks.Word w)) visited visited w an)
      (λ _. always)

  -- the first entry goes once its sender was freed
  freed_hand : (h : Hand) (q : ℕ → List SenderEntry) (n room : ℕ) (on : Bool) → h.queue ≡ record { entries = q n; room = room } →
      ◌≡◌ {A = Hand} (record {
        numbers = (if on then record h { queue = without_first h.queue } else h).numbers;
        queue = record { entries = (if on then upd q n (rest (q n)) else q) n; room = room };
        lists = (if on then record h { queue = without_first h.queue } else h).lists;
      }) (if on then record h { queue = without_first h.queue } else h)
  freed_hand h q n room true e =
      λ d. record h {
        queue = record {
          entries = (upd_same q n (rest (q n)) ∙ ap (λ (z : Queue). rest z.entries) (sym e)) d;
          room = ap (λ (z : Queue). z.room) (sym e) d;
        };
      }
  freed_hand h q n room false e = λ d. record h { queue = sym e d }

  freed_rest : (sender : ℕ) (seen : StateWord) → IsSameRest (Victim (FreeSender sender seen)) asks.Won
  freed_rest sender seen there k =
      ap (λ (h : Hand). rest_of c h there (leads c (hand (Victim (FreeSender sender seen)))
      (Victim (FreeSender sender seen)) asks.Won) k) (freed_hand
      (hand (Victim (FreeSender sender seen))) b.queue c.who.number b.size seen.on refl)

  pushed_rest : (sender : ℕ) (seen : StateWord) → IsSameRest (Pushing (PushSender sender seen)) asks.Released
  pushed_rest sender seen there k =
      let h = hand_after c (hand (Pushing (PushSender sender seen))) (Pushing (PushSender sender seen)) asks.Released in
      ap (λ (es : List SenderEntry). rest_of c (record h { queue = record { entries = es; room = b.size } }) there
      (leads c (hand (Pushing (PushSender sender seen))) (Pushing (PushSender sender seen)) asks.Released) k)
      (upd_same b.queue c.who.number (rest (b.queue c.who.number)))

  looked_rest : (visited : ℕ) (w : StateWord) → IsSameRest (Visit (LoadVisited visited)) (asks.Word w)
  looked_rest visited w there k =
      cond_both (is_receiving_from c.who w.state) _ _ (λ (q : DestroyVisit).
      rest_of c (hand_of b (b.queue (destroy_number c (Visit q)))) there (Visit q) k ≡
      rest_of c (hand_of b (b.queue visited)) there (Visit q) k) (λ _. refl) (λ _. refl)

  visited_rest : (visited : ℕ) (seen : StateWord) → IsSameRest (Visit (FreeVisited visited seen)) asks.Won
  visited_rest visited seen there k =
      cond_both seen.on _ _ (λ (q : DestroyVisit). rest_of c (hand_of b (b.queue (destroy_number c (Visit q)))) there
      (Visit q) k ≡ rest_of c (hand_of b (b.queue visited)) there (Visit q) k) (λ _. refl) (λ _. refl)

  returned_rest : (visited : ℕ) → IsSameRest (Visit (ReleaseVisitedLock visited)) asks.Released
  returned_rest visited there k =
      let p = Visit (ReleaseVisitedLock visited) in
      locked_rest c (hand_of (after p asks.Released) ((after p asks.Released).queue c.who.number))
      (hand_after c (hand p) p asks.Released) there (visit_from c (visited + 1)) k

  destroy_tells : (p : DestroyAt) → length (b.queue c.who.number) < c.count → AllSay g b i x (facts_destroy c p) →
      Each (ask_of c x.own p) (Told p)
  destroy_tells (Outside LoadOwn) s f = λ w an. (always, never, tt, λ t k. refl)
  destroy_tells (Outside AcquireTable) s f = λ an. (always, never, tt, λ t k. refl)
  destroy_tells (Outside (Ended w)) s f = λ v an. (always, never, tt, λ t k. refl)
  destroy_tells (Locked LoadCaller) s f = λ w an. (always, never, tt, λ t k. refl)
  destroy_tells (Locked AcquireVictimLock) s f = λ an. (always, never, s, λ t k. refl)
  destroy_tells (Locked AcquireReadyForVictim) s f = λ an. (always, never, tt, λ t k. refl)
  destroy_tells (Locked RemoveContext) s f = λ an. (always, never, tt, λ t k. refl)
  destroy_tells (Locked (AcquireVisitedLock visited)) s f = λ an. (always, never, tt, λ t k. refl)
  destroy_tells (Locked (Release release.Killed)) s f = λ an. (always, never, tt, λ t k. refl)
  destroy_tells (Locked (Release (release.Absent found))) s f = λ an. (always, never, tt, λ t k. refl)
  destroy_tells (Locked (Release release.Dead)) s f = λ an. (always, never, tt, λ t k. refl)
  destroy_tells (Victim LoadVictim) s f = λ w an. (victim_loaded w an, never, tt, λ t k. refl)
  destroy_tells (Victim (CommitKill seen)) s f = (
    (λ an. (unloaded (now (Victim (CommitKill seen)) asks.Won) _ (none_freed c _), never, tt, λ t k. refl)),
    (λ v an. (always, (λ q. lost_there b.seen c.who.number v seen an.0 an.1), tt, λ t k. refl)),
  )
  destroy_tells (Victim (LoadSender sender)) s f =
      λ w an. (
        just_loaded g b.seen x.position (point (Victim (LoadSender sender)) (asks.Word w)) sender sender w an,
        never,
        tt,
        λ t k. refl,
      )
  destroy_tells (Victim (FreeSender sender seen)) s f = (
    (λ an. (
      unloaded (now (Victim (FreeSender sender seen)) asks.Won) _ (none_pushed c _ sender seen),
      never,
      tt,
      freed_rest sender seen,
    )),
    (λ v an. (always, (λ q. lost_there b.seen sender v seen an.0 an.1), tt, λ t k. refl)),
  )
  destroy_tells (Victim (AcquireReadyForSender sender seen)) s f = λ an. (always, never, tt, λ t k. refl)
  destroy_tells (Victim ReleaseVictimLock) s f = λ an. (always, never, tt, λ t k. refl)
  destroy_tells (Victim (ReleaseVictimLockAbsent found)) s f = λ an. (always, never, tt, λ t k. refl)
  destroy_tells (Visit (LoadVisited visited)) s f = λ w an. (visited_loaded visited w an, never, tt, looked_rest visited w)
  destroy_tells (Visit (FreeVisited visited seen)) s f = (
    (λ an. (
      unloaded (now (Visit (FreeVisited visited seen)) asks.Won) _ (none_visited c visited seen),
      never,
      tt,
      visited_rest visited seen,
    )),
    (λ v an. (always, (λ q. lost_there b.seen visited v seen an.0 an.1), tt, λ t k. refl)),
  )
  destroy_tells (Visit (AcquireReadyForVisited visited seen)) s f = λ an. (always, never, tt, λ t k. refl)
  destroy_tells (Visit (ReleaseVisitedLock visited)) s f = λ an. (always, never, tt, returned_rest visited)
  destroy_tells UnlistVictim s f = λ an. (always, never, tt, λ t k. refl)
  destroy_tells (Pushing (PushSender sender seen)) s f =
      λ an. (
        unloaded (now (Pushing (PushSender sender seen)) asks.Released) _ (none_freed c _),
        never,
        tt,
        pushed_rest sender seen,
      )
  destroy_tells (Pushing (PushVisited visited seen)) s f = λ an. (always, never, tt, λ t k. refl)

  -- what the counts rest on
  fits_at : (p : DestroyAt) → AllSay g b i x (facts_destroy c p) → Fits c (hand p) p
  fits_at (Victim (LoadSender sender)) f = front_some (b.queue c.who.number) sender f.1.1.1.1.1.1.1.1.1.0.1
  fits_at (Victim (FreeSender sender seen)) f = front_some (b.queue c.who.number) sender f.1.1.1.1.1.1.1.1.1.0.1
  fits_at (Victim (AcquireReadyForSender sender seen)) f = front_some (b.queue c.who.number) sender f.1.1.1.1.1.1.1.1.1.0.1
  fits_at (Pushing (PushSender sender seen)) f = front_some (b.queue c.who.number) sender f.1.1.1.1.1.1.1.1.1.0.1
  fits_at (Locked (AcquireVisitedLock visited)) f = let v = f.1.1.1.1.1.1.1.1.0 in record { inside = v.1; other = v.0 }
  fits_at (Visit (LoadVisited visited)) f = let v = f.1.1.1.1.1.1.1.1.0 in record { inside = v.1; other = v.0 }
  fits_at (Visit (FreeVisited visited seen)) f = let v = f.1.1.1.1.1.1.1.1.0 in record { inside = v.1; other = v.0 }
  fits_at (Visit (AcquireReadyForVisited visited seen)) f = let v = f.1.1.1.1.1.1.1.1.0 in record { inside = v.1; other = v.0 }
  fits_at (Visit (ReleaseVisitedLock visited)) f = let v = f.1.1.1.1.1.1.1.1.0 in record { inside = v.1; other = v.0 }
  fits_at (Pushing (PushVisited visited seen)) f = let v = f.1.1.1.1.1.1.1.1.0 in record { inside = v.1; other = v.0 }
  fits_at (Outside p) f = tt
  fits_at (Locked LoadCaller) f = tt
  fits_at (Locked AcquireVictimLock) f = tt
  fits_at (Locked AcquireReadyForVictim) f = tt
  fits_at (Locked RemoveContext) f = tt
  fits_at (Locked (Release r)) f = tt
  fits_at (Victim LoadVictim) f = tt
  fits_at (Victim (CommitKill seen)) f = tt
  fits_at (Victim ReleaseVictimLock) f = tt
  fits_at (Victim (ReleaseVictimLockAbsent found)) f = tt
  fits_at UnlistVictim f = tt

  left_rest : (b' : Board) (p : DestroyAt) (k : Lock) → rest_at b' i (destroy_at c p) k ≤
      rest_of c (hand_of b' (b'.queue (destroy_number c p))) (is_there b'.seen (loaded_destroy c p)) p k
  left_rest b' (Outside (Ended w)) k = let e = ended_rest b' i c.caller w k in omega (arith, e)
  left_rest b' (Outside LoadOwn) k = omega arith
  left_rest b' (Outside AcquireTable) k = omega arith
  left_rest b' (Locked p) k = omega arith
  left_rest b' (Victim p) k = omega arith
  left_rest b' (Visit p) k = omega arith
  left_rest b' UnlistVictim k = omega arith
  left_rest b' (Pushing p) k = omega arith

  pub destroy_falls : c.who.number < c.count → length (b.queue c.who.number) < c.count → (p : DestroyAt) →
      AllSay g b i x (facts_destroy c p) → (k : Lock) → Holds k (locks_of c p) → (r : Response) → Answers b (ask_of c x.own p) r →
      is_again r ≡ false → 1 + rest_at (destroy_board g b i x c p r) i (destroy_at c (leads c (hand p) p r)) k ≤
      rest_at b i (InDestroy c p) k
  destroy_falls inside short p f k holds r may once =
      let a = ask_of c x.own p in
      let b' = after p r in
      let p' = leads c (hand p) p r in
      let suits = suits_is b a r may in
      let told = made_by a r (Told p) suits once (destroy_tells p short f) may in
      let there' = is_there b'.seen (loaded_destroy c p') in
      fall_by (destroy_table c) (tables.destroy_in_time c inside) (rest_above c) b k x.own (hand p) p r
      (is_there b.seen (loaded_destroy c p)) there' (rest_at b' i (destroy_at c p') k)
      (fits_at p f) holds suits once told.2 told.1 told.0
      (subst (λ (n : ℕ). rest_at b' i (destroy_at c p') k ≤ n) (told.3 there' k) (left_rest b' p' k))

  pub destroy_within : c.who.number < c.count → (p : DestroyAt) (k : Lock) →
      rest_at b i (InDestroy c p) k ≤ left_of c (hand p) p k
  destroy_within inside p k =
      within_by (destroy_table c) (tables.destroy_in_time c inside) (rest_above c) (hand p) p
      (is_there b.seen (loaded_destroy c p)) k never
