-- The runs of a destroy.
use Rattle.std.proofs.Common.{◌≡◌, ◌≢◌, ℕ, true, false, eqb, List, [], ◌∷◌, map, refl, sym, ap, ◌∙◌, Some, None}
use Rattle.std.proofs.lemmas.Bool.{eqb-false, eq-eqb, ne_eqb}
use Rattle.std.proofs.lemmas.List.{append-nil}
use Rattle.std.proofs.lemmas.Map.Keys.{IsDistinct-head, IsDistinct-tail}
use Rattle.std.specs.List.{AllByRecursion, IsDistinct}
use Rattle.k_ids.specs.declared.threads.Status.TheVariants as status
use Rattle.k_ids.specs.declared.calls.Outcome.{Outcome}
use Rattle.k_ids.specs.declared.calls.Outcome.TheVariants as outcome
use Rattle.k_ids.specs.declared.calls.Reply.TheVariants as reply
use Rattle.k_ids.specs.declared.histories.Entry.{Entry}
use Rattle.k_ids.specs.declared.context_word.ContextWord.TheVariants.{Empty, Clean}
use Rattle.k_ids.specs.declared.state_word.StateWord.{StateWord}
use Rattle.k_ids.specs.ContextWords.{context_bits}
use Rattle.k_ids.specs.LockWords.{lock_bits}
use Rattle.k_ids.specs.StateWords.{IsStateWord, state_bits}
use Rattle.k_senders.specs.declared.entries.SenderEntry.{SenderEntry}
use Rattle.k_senders.specs.Entries.{number_of}
use Rattle.k_senders.specs.Queue.{Queue, IsOnceEach}
use Rattle.k_senders.specs.Queue.{stands as waits}
use Rattle.k_ready.specs.Lists.{Ready}
use Rattle.k_locks.specs.Numbers.{ThreadNumbers}
use Rattle.k_locks.specs.declared.goods.Goods.TheVariants as goods
use Rattle.k_locks.specs.declared.locks.Lock.TheVariants as lock
use Rattle.k_locks.specs.declared.locks.WordName.TheVariants as word
use Rattle.k_locks.specs.declared.steps.Step.TheVariants as step
use Rattle.k_locks.specs.declared.steps.Answer.TheVariants as answer
use Rattle.k_locks.specs.declared.steps.Told.TheVariants as told_by
use Rattle.k_locks.specs.declared.steps.Went.{Went}
use Rattle.k_locks.specs.declared.steps.Went.TheVariants as went
use Rattle.k_locks.specs.Numbers.{without_thread}
use Rattle.k_locks.specs.Shown.{shows, is_present_in, found_in}
use Rattle.k_threads.specs.declared.destroy.DestroyCall.{DestroyCall}
use Rattle.k_threads.specs.Goods.{unlisted}
use Rattle.k_locks.specs.Hands.{no_lists, no_queue, nothing}
use Rattle.k_locks.specs.Steps.{one_more}
use Rattle.k_threads.specs.Words.{dead_word}
use Rattle.k_threads.specs.declared.destroy.DestroyOutside.TheVariants.{Ended}
use Rattle.k_threads.specs.declared.destroy.DestroyLocked.TheVariants.{LoadCaller, AcquireVictimLock, AcquireReadyForVictim, RemoveContext, Release}
use Rattle.k_threads.specs.declared.destroy.DestroyVictim.TheVariants.{LoadVictim, CommitKill, ReleaseVictimLock, ReleaseVictimLockAbsent}
use Rattle.k_threads.specs.declared.destroy.DestroyRelease.TheVariants as release
use Rattle.k_threads.specs.declared.destroy.DestroySection.{DestroySection}
use Rattle.k_threads.specs.DestroyTable.{Outside, Locked, Victim, UnlistVictim, destroy_of, free_first, point_of, visit_from}
use Rattle.k_model.specs.State.{Waiting, id_of, same_id}
use Rattle.k_model.specs.Sound.{IsQueued, numbers}
use Rattle.k_lists.proofs.All.{all_of_map, all_weaker}
use Rattle.k_model.proofs.Maps.{upd_other}
use Rattle.k_shown.specs.Memory.{Memory, table, waiting_of, with_word, with_queue, with_context, with_ready, with_numbers}
use Rattle.k_shown.specs.Sound.{IsCaller, IsSoundMemory}
use Rattle.k_alone.specs.Alone.{Run, begun, entry_at}
use Rattle.k_alone.specs.DestroyAlone.{destroy_kind}
use Rattle.k_alone.proofs.Runs.{Goes, arrived, can, load, on, one, removes, spelled, won, writes}
use Rattle.k_alone.proofs.SendRuns.{caller_read, put_back_same, read_word}
use Rattle.k_alone.proofs.FreeRuns.{IsWaiter, at, hand_with}

-- No two entries have a number.
pub once_each : (es : List SenderEntry) → IsDistinct eqb (numbers (map waiting_of es)) → IsOnceEach es
once_each [] d = tt
once_each (e ∷ es) d =
    let head = all_of_map (λ n. eqb (number_of e) n ≡ false) (λ (w : Waiting). w.0.number) (map waiting_of es) (IsDistinct-head eqb (number_of e) (numbers (map waiting_of es)) d) in
    (none (number_of e) es (all_of_map (λ (w : Waiting). eqb (number_of e) w.0.number ≡ false) waiting_of es head), once_each es (IsDistinct-tail eqb (number_of e) (numbers (map waiting_of es)) d))
  where
    none : (n : ℕ) (es : List SenderEntry) → AllByRecursion (λ x. eqb n (number_of x) ≡ false) es → waits n es ≡ false
    none n [] h = refl
    none n (x ∷ es) h = rw (ne_eqb (number_of x) n (λ q. eqb-false n (number_of x) h.0 (sym q))) (none n es h.1)

-- Who stands in the victim's queue waits for it, and isn't the victim.
pub waiters : (c : DestroyCall) (m : Memory) (w : StateWord) → IsSoundMemory m → (m.word c.who.number).version ≡ c.who.version → AllByRecursion (λ e. IsWaiter c (with_word m c.who.number w) (number_of e)) (m.queue c.who.number).entries
waiters c m w good v =
    let who_is : id_of (table m) c.who.number ≡ c.who = λ d. record { number = c.who.number; version = v d } in
    all_weaker (λ (e : SenderEntry). IsQueued (table m) c.who.number (waiting_of e)) (λ (e : SenderEntry). IsWaiter c (with_word m c.who.number w) (number_of e))
    (λ e q. let sends : shows (m.word (number_of e)).state ≡ status.Sending c.who = q.status ∙ ap status.Sending who_is in
    let other : number_of e ≢ c.who.number = λ x. (good.words.sending (number_of e) c.who sends).1 (sym x) in
    record { sends = ap (λ (y : StateWord). shows y.state) (upd_other m.word c.who.number w (number_of e) other) ∙ sends; other = other })
    (m.queue c.who.number).entries
    (all_of_map (IsQueued (table m) c.who.number) waiting_of (m.queue c.who.number).entries (good.lists.queued c.who.number))

-- the entry of the caller's call
abbrev pub destroyed : DestroyCall → (ℕ → ℕ) → Outcome → Entry
destroyed c serials o = entry_at serials (point_of c o)

module _ (c : DestroyCall) (serials : ℕ → ℕ) (m : Memory) (own : StateWord) (good : IsSoundMemory m) (call : IsCaller m c.caller own) where
  pub runs_own : same_id c.who c.caller ≡ true → Goes (destroy_kind serials) (begun m (destroy_of c own)) (at c own m (Outside (Ended (went.Ends reply.Own))) nothing (destroyed c serials outcome.Own ∷ []) (went.Ends reply.Own) 1)
  runs_own same =
      let t = destroy_kind serials in
      let r0 = begun m (destroy_of c own) in
      let r1 = at c own m (Outside (Ended (went.Ends reply.Own))) nothing (destroyed c serials outcome.Own ∷ []) (went.Ends reply.Own) 1 in
      on t r0 r1 r1 (rw same (record { ask = (refl, tt); tell = (refl, spelled m good c.caller.number) })) (load t r0 c.caller.number (rw same refl) (good.words.words c.caller.number) ∙ rw (same, caller_read m c.caller own good call) refl) (arrived t r1)

  -- up to the load of the victim's word
  to_victim : (final : Run DestroySection) → same_id c.who c.caller ≡ false → Goes (destroy_kind serials) (at c own m (Victim LoadVictim) (hand_with m.numbers (m.queue c.who.number) no_lists) [] went.On 3) final → Goes (destroy_kind serials) (begun m (destroy_of c own)) final
  unfolding lock_bits
  to_victim final other rest =
      let t = destroy_kind serials in
      let r0 = begun m (destroy_of c own) in
      let r1 = at c own m (Locked LoadCaller) (hand_with m.numbers no_queue no_lists) [] went.On 1 in
      let r2 = at c own m (Locked AcquireVictimLock) (hand_with m.numbers no_queue no_lists) [] went.On 2 in
      let r3 = at c own m (Victim LoadVictim) (hand_with m.numbers (m.queue c.who.number) no_lists) [] went.On 3 in
      on t r0 r1 final (rw other (record { ask = (refl, tt); tell = (refl, tt) })) (rw other refl)
      (on t r1 r2 final (record { ask = (refl, tt); tell = (refl, spelled m good c.caller.number) }) (load t r1 c.caller.number refl (good.words.words c.caller.number) ∙ rw (caller_read m c.caller own good call) refl)
      (on t r2 r3 final (record { ask = (refl, tt); tell = (refl, tt) }) refl rest))

  pub runs_absent : same_id c.who c.caller ≡ false → is_present_in (m.word c.who.number) c.who ≡ false → Goes (destroy_kind serials) (begun m (destroy_of c own)) (at c own m (Outside (Ended (went.Ends (reply.Absent (found_in c.who.number (m.word c.who.number)))))) nothing (destroyed c serials (outcome.Absent (found_in c.who.number (m.word c.who.number))) ∷ []) (went.Ends (reply.Absent (found_in c.who.number (m.word c.who.number)))) 6)
  runs_absent other gone =
      let t = destroy_kind serials in
      let q = m.queue c.who.number in
      let f = found_in c.who.number (m.word c.who.number) in
      let e = destroyed c serials (outcome.Absent f) in
      let r3 = at c own m (Victim LoadVictim) (hand_with m.numbers q no_lists) [] went.On 3 in
      let r4 = at c own m (Victim (ReleaseVictimLockAbsent f)) (hand_with m.numbers q no_lists) (e ∷ []) went.On 4 in
      let r5 = at c own m (Locked (Release (release.Absent f))) (hand_with m.numbers no_queue no_lists) (e ∷ []) went.On 5 in
      let r6 = at c own m (Outside (Ended (went.Ends (reply.Absent f)))) nothing (e ∷ []) (went.Ends (reply.Absent f)) 6 in
      to_victim r6 other
      (on t r3 r4 r6 (record { ask = (refl, tt); tell = (refl, spelled m good c.who.number) }) (load t r3 c.who.number refl (good.words.words c.who.number) ∙ rw (read_word m c.who.number good, gone) refl)
      (on t r4 r5 r6 (record { ask = (refl, tt); tell = (refl, tt) }) (one t r4 (step.Release (lock.Thread c.who.number) (goods.Senders q)) (answer.Told told_by.Released) m r5.section None (e ∷ []) went.On refl refl (put_back_same m c.who.number) refl refl refl refl)
      (on t r5 r6 r6 (record { ask = (refl, tt); tell = (refl, tt) }) refl (arrived t r6))))

  -- the victim is killed
  pub runs_killed : same_id c.who c.caller ≡ false → is_present_in (m.word c.who.number) c.who ≡ true → IsStateWord (dead_word c.who.version) → Goes (destroy_kind serials) (begun m (destroy_of c own)) (at c own (with_word m c.who.number (dead_word c.who.version)) (Victim (free_first (m.queue c.who.number).entries)) (hand_with m.numbers (m.queue c.who.number) no_lists) (destroyed c serials outcome.Killed ∷ []) went.On 5)
  runs_killed other here sound =
      let t = destroy_kind serials in
      let q = m.queue c.who.number in
      let n = c.who.number in
      let w = m.word n in
      let d = dead_word c.who.version in
      let e = destroyed c serials outcome.Killed in
      let m1 = with_word m n d in
      let r3 = at c own m (Victim LoadVictim) (hand_with m.numbers q no_lists) [] went.On 3 in
      let r4 = at c own m (Victim (CommitKill w)) (hand_with m.numbers q no_lists) [] went.On 4 in
      let r5 = at c own m1 (Victim (free_first q.entries)) (hand_with m.numbers q no_lists) (e ∷ []) went.On 5 in
      to_victim r5 other
      (on t r3 r4 r5 (record { ask = (refl, tt); tell = (refl, spelled m good n) }) (load t r3 n refl (good.words.words n) ∙ rw (read_word m n good, here) refl)
      (on t r4 r5 r5 (can t r4 (answer.Told told_by.Won) (refl, tt) (won m n w d refl) (refl, tt)) (one t r4 (step.Exchange (word.State n) (state_bits w) (state_bits d)) (answer.Told told_by.Won) m1 r5.section (Some e) (e ∷ []) went.On refl (won m n w d refl) (writes m n w d refl sound) refl refl refl refl) (arrived t r5)))

-- After the senders: the victim's lock is released, it leaves the ready lists, and its context is removed.
abbrev pub removed : DestroyCall → Memory → Queue → Memory
removed c mb q = with_context (with_ready (with_queue mb c.who.number q) (unlisted c.who mb.ready)) c.who.number Empty

pub runs_removed : (c : DestroyCall) (own : StateWord) (serials : ℕ → ℕ) (mb : Memory) (numbers : ThreadNumbers) (q : Queue) (rd : Ready) (before : List Entry) (w : Went) (d : ℕ) → mb.context c.who.number ≡ Clean c.who.version → Goes (destroy_kind serials) (at c own mb (Victim ReleaseVictimLock) (hand_with numbers q rd) before w d) (at c own (removed c mb q) (Locked (visit_from c 0)) (hand_with numbers no_queue no_lists) before went.On (one_more (one_more (one_more (one_more d)))))
unfolding lock_bits
runs_removed c own serials mb numbers q rd before w d clean =
    let t = destroy_kind serials in
    let n = c.who.number in
    let m1 = with_queue mb n q in
    let m2 = with_ready m1 (unlisted c.who mb.ready) in
    let m3 = removed c mb q in
    let same : eqb (context_bits (m2.context n)) (context_bits (Clean c.who.version)) ≡ true = eq-eqb _ _ (ap context_bits clean) in
    let d1 = one_more d in
    let d2 = one_more d1 in
    let d3 = one_more d2 in
    let r0 = at c own mb (Victim ReleaseVictimLock) (hand_with numbers q rd) before w d in
    let r1 = at c own m1 (Locked AcquireReadyForVictim) (hand_with numbers no_queue rd) before went.On d1 in
    let r2 = at c own m1 UnlistVictim (hand_with numbers no_queue mb.ready) before went.On d2 in
    let r3 = at c own m2 (Locked RemoveContext) (hand_with numbers no_queue no_lists) before went.On d3 in
    let r4 = at c own m3 (Locked (visit_from c 0)) (hand_with numbers no_queue no_lists) before went.On (one_more d3) in
    on t r0 r1 r4 (record { ask = (refl, tt); tell = (refl, tt) }) (one t r0 (step.Release (lock.Thread n) (goods.Senders q)) (answer.Told told_by.Released) m1 r1.section None before went.On refl refl refl refl refl (append-nil before) refl)
    (on t r1 r2 r4 (record { ask = (refl, tt); tell = (refl, tt) }) (one t r1 (step.Acquire lock.Ready) (answer.Got (goods.Ready mb.ready)) m1 r2.section None before went.On refl refl refl refl refl (append-nil before) refl)
    (on t r2 r3 r4 (record { ask = (refl, tt); tell = (refl, tt) }) (one t r2 (step.Release lock.Ready (goods.Ready (unlisted c.who mb.ready))) (answer.Told told_by.Released) m2 r3.section None before went.On refl refl refl refl refl (append-nil before) refl)
    (on t r3 r4 r4 (can t r3 (answer.Told told_by.Removed) (refl, tt) (rw same refl) (refl, tt)) (one t r3 (step.Remove c.who) (answer.Told told_by.Removed) m3 r4.section None before went.On refl (rw same refl) (removes m2 c.who clean) refl refl (append-nil before) refl) (arrived t r4))))

-- The numbers are put back.
pub runs_ended : (c : DestroyCall) (own : StateWord) (serials : ℕ → ℕ) (me : Memory) (numbers : ThreadNumbers) (q : Queue) (rd : Ready) (before : List Entry) (w : Went) (d : ℕ) → Goes (destroy_kind serials) (at c own me (Locked (Release release.Killed)) (hand_with numbers q rd) before w d) (at c own (with_numbers me (without_thread c.who.number numbers)) (Outside (Ended (went.Ends reply.Killed))) nothing before (went.Ends reply.Killed) (one_more d))
runs_ended c own serials me numbers q rd before w d =
    let t = destroy_kind serials in
    let r0 = at c own me (Locked (Release release.Killed)) (hand_with numbers q rd) before w d in
    let r1 = at c own (with_numbers me (without_thread c.who.number numbers)) (Outside (Ended (went.Ends reply.Killed))) nothing before (went.Ends reply.Killed) (one_more d) in
    on t r0 r1 r1 (record { ask = (refl, tt); tell = (refl, tt) }) (one t r0 (step.Release lock.Table (goods.Numbers (without_thread c.who.number numbers))) (answer.Told told_by.Released) r1.memory r1.section None before (went.Ends reply.Killed) refl refl refl refl refl (append-nil before) refl) (arrived t r1)
