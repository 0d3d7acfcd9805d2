-- A destroy alone makes the specification's event, and the gone events of the threads that it frees.
use Rattle.std.proofs.Common.{◌≡◌, ◌≢◌, ℕ, ◌+◌, ◌<◌, ◌≤◌, true, false, not, eqb, List, [], ◌∷◌, ◌++◌, map, refl, sym, ap, ◌∙◌, subst, arith, Option, Some, inl, inr, ◌⊎◌}
use Rattle.std.proofs.lemmas.Bool.{false≢true, eqb-true, cases_Bool, cases_eq, cases_lt, and_parts, not-true}
use Rattle.std.proofs.lemmas.List.{append_assoc, get_or-set_other, get_or-set_same, length-set, map-append}
use Rattle.std.proofs.lemmas.List.Elements.{filter-append}
use Rattle.std.specs.List.{AllByRecursion, filter}
use Rattle.k_ids.specs.declared.threads.ThreadId.{ThreadId}
use Rattle.k_ids.specs.declared.threads.Status.TheVariants as status
use Rattle.k_ids.specs.declared.calls.Phase.TheVariants as phase
use Rattle.k_ids.specs.declared.calls.Act.TheVariants as act
use Rattle.k_ids.specs.declared.calls.Outcome.{Outcome}
use Rattle.k_ids.specs.declared.calls.Outcome.TheVariants as outcome
use Rattle.k_ids.specs.declared.calls.Reply.{Reply}
use Rattle.k_ids.specs.declared.calls.Reply.TheVariants as reply
use Rattle.k_ids.specs.declared.histories.Entry.{Entry}
use Rattle.k_ids.specs.declared.histories.ReplyLine.{ReplyLine}
use Rattle.k_ids.specs.declared.context_word.ContextWord.{ContextWord}
use Rattle.k_ids.specs.declared.context_word.ContextWord.TheVariants.{Empty, Clean}
use Rattle.k_ids.specs.declared.state_word.State.{State}
use Rattle.k_ids.specs.declared.state_word.StateWord.{StateWord}
use Rattle.k_senders.specs.Queue.{Queue}
use Rattle.k_ready.specs.Lists.{IsOnceEach, list_of}
use Rattle.k_locks.specs.Numbers.{ThreadNumbers}
use Rattle.k_locks.specs.declared.steps.Went.TheVariants as went
use Rattle.k_locks.specs.Numbers.{without_thread}
use Rattle.k_locks.specs.Numbers.{is_present as is_there}
use Rattle.k_locks.specs.Shown.{shows, is_present_in, found_in}
use Rattle.k_threads.specs.declared.destroy.DestroyCall.{DestroyCall}
use Rattle.k_threads.specs.Goods.{unlisted}
use Rattle.k_locks.specs.Hands.{no_lists, no_queue, nothing}
use Rattle.k_threads.specs.Words.{dead_word}
use Rattle.k_threads.specs.declared.destroy.DestroyOutside.TheVariants.{Ended}
use Rattle.k_threads.specs.declared.destroy.DestroyLocked.TheVariants.{Release}
use Rattle.k_threads.specs.declared.destroy.DestroyVictim.TheVariants.{ReleaseVictimLock}
use Rattle.k_threads.specs.declared.destroy.DestroyRelease.TheVariants as release
use Rattle.k_threads.specs.DestroyTable.{Locked, Outside, Victim, destroy_of, free_first, visit_from}
use Rattle.k_model.specs.State.{KernelState, Waiting, answered, is_dead, is_present, same_id}
use Rattle.k_model.specs.Step.{killed}
use Rattle.k_model.specs.History.{IsReplay}
use Rattle.k_model.specs.Maps.{upd}
use Rattle.k_model.proofs.Sound.{inside_from}
use Rattle.k_model.proofs.Maps.{upd_same, upd_other}
use Rattle.k_lists.proofs.All.{all_append, all_weaker}
use Rattle.k_model.proofs.Places.{killed_waiting}
use Rattle.k_shown.specs.Leaves.{made_by, state_told}
use Rattle.k_shown.specs.Memory.{Memory, Shows, table, waiting, waiting_of, with_word, with_queue, with_ready, with_numbers}
use Rattle.k_senders.specs.Entries.{IsEntry}
use Rattle.k_shown.specs.Sound.{IsCaller, IsContext, IsReady, IsSoundContexts, IsSoundMemory, IsSoundNumbers, IsSoundWords}
use Rattle.k_locks.specs.Steps.{one_more}
use Rattle.k_alone.specs.Alone.{IsFreed, Makes, begun, current}
use Rattle.k_shown.specs.Rows.{Answers, IsIn, call_of, next_serial, told}
use Rattle.k_shown.proofs.Alike.{alike_from, caller_in, may_call, present_same}
use Rattle.k_shown.proofs.SendRows.{same_turned}
use Rattle.k_shown.proofs.TableRows.{absent_row, killed_replies, kills_is, own_row}
use Rattle.k_alone.specs.DestroyAlone.{IsDestroyCall, destroy_kind}
use Rattle.k_shown.proofs.Shown.{shows_called}
use Rattle.k_shown.proofs.States.{caller_present, apart_numbers}
use Rattle.k_shown.proofs.Left.{leaves_all}
use Rattle.k_alone.proofs.Gone.{IsGone, at_level, cut_is, gone_kept, gone_later, ids_of, is_not, level_append}
use Rattle.k_alone.proofs.DestroyLeft.{killed_left}
use Rattle.k_alone.proofs.Made.{makes, makes_one, replay_on, reply_first}
use Rattle.k_alone.proofs.Unlinked.{listed_map, unlinked_waiting, unlinked_entries}
use Rattle.k_alone.proofs.Killing.{Half, Listed, fewer}
use Rattle.k_alone.proofs.Killed.{dead_sound, half_killed, half_unlisted, half_context, half_queue}
use Rattle.k_alone.proofs.FreeRuns.{Frees, at, call_state, hand_with, senders_freed, AllTaken}
use Rattle.k_alone.proofs.VisitRuns.{HalfAt, Visited, visits}
use Rattle.k_alone.proofs.DestroyRuns.{destroyed, once_each, waiters, removed, runs_own, runs_absent, runs_killed, runs_removed, runs_ended}
use Rattle.k_alone.proofs.Runs.{Goes, then}

replay_append : (a b new : KernelState) (es fs : List Entry) → IsReplay a es b → IsReplay b fs new → IsReplay a (es ++ fs) new
replay_append a b new [] fs h g = subst (λ (x : KernelState). IsReplay x fs new) h g
replay_append a b new (e ∷ es) fs h g = (h.0, h.1, replay_append h.0 b new es fs h.2 g)

-- THE MEMORY AT THE END

module _ (c : DestroyCall) (m : Memory) (k : KernelState) (hk : Shows m k) (good : IsSoundMemory m) (parts : IsDestroyCall m c) (inside : c.who.number < m.size) (mf : Memory) (kf : KernelState) (h : Half m k c.who c.caller ⊥ (λ t. ⊥) (λ t. c.count ≤ t) mf kf) (v : Visited c m c.count mf) where
  outside_dead : (n : ℕ) → m.size ≤ n → is_dead (shows (m.word n).state) ≡ true
  outside_dead n l = ap is_dead (good.lists.outside n l)

  queue_past : (n : ℕ) → m.size ≤ n → waiting (m.queue n) ≡ []
  queue_past n l = good.lists.dead n (good.lists.outside n l)

  waiting_is : (n : ℕ) → (kf.place n).waiting ≡ waiting (mf.queue n)
  waiting_is n = h.waiting n ∙ killed_waiting k c.who n ∙ by_number (cases_eq n c.who.number)
    where
      kept : n ≢ c.who.number → filter (λ (w : Waiting). not (same_id w.0 c.who)) (k.place n).waiting ≡ waiting (mf.queue n)
      kept ne = elim (cases_lt n m.size) [
        | inl l ↦ ap (filter (λ (w : Waiting). not (same_id w.0 c.who))) (hk.waiting n) ∙ sym (unlinked_waiting c.who (m.queue n) (good.words.entries n) parts.who (good.lists.apart n)) ∙ sym (ap waiting (v.done n (let cs = parts.count in omega arith) ne))
        | inr l ↦ ap (filter (λ (w : Waiting). not (same_id w.0 c.who))) (hk.waiting n ∙ queue_past n l) ∙ sym (ap waiting (v.todo n (let cs = parts.count in omega arith) ne) ∙ queue_past n l)
      ]

      by_number : (n ≡ c.who.number) ⊎ (n ≡ c.who.number → ⊥) → upd (λ u. filter (λ (w : Waiting). not (same_id w.0 c.who)) (k.place u).waiting) c.who.number [] n ≡ waiting (mf.queue n)
      by_number (inl e) = ap (upd (λ u. filter (λ (w : Waiting). not (same_id w.0 c.who)) (k.place u).waiting) c.who.number []) e ∙ upd_same (λ u. filter (λ (w : Waiting). not (same_id w.0 c.who)) (k.place u).waiting) c.who.number [] ∙ sym (ap (λ (x : ℕ). waiting (mf.queue x)) e ∙ ap (map waiting_of) v.victim)
      by_number (inr ne) = upd_other (λ u. filter (λ (w : Waiting). not (same_id w.0 c.who)) (k.place u).waiting) c.who.number [] n ne ∙ kept ne

  pub shown_end : (ns : ThreadNumbers) → Shows (with_numbers mf ns) kf
  shown_end ns = record {
    size = h.table_size ∙ sym h.size;
    version = h.k_version;
    status = h.doing;
    joined = h.joined;
    waiting = waiting_is;
  }

  pub words_end : (ns : ThreadNumbers) → IsSoundWords (with_numbers mf ns)
  words_end ns = record {
    words = h.words;
    sending = λ n to e. (elim (h.sending n to e) [ inl p ↦ p | inr q ↦ absurd q.1 ], h.apart n to e);
    receiving = λ n from e. elim (h.receiving n from e) [
      | inl p ↦ p
      | inr q ↦ let l : c.count ≤ n = q.1 in
          let cs = parts.count in
          let ne : n ≢ c.who.number = omega (arith, l, inside) in
          absurd (false≢true (sym (ap is_dead e) ∙ h.alive n ne ∙ outside_dead n (omega (arith, l))))
    ];
    ready = record {
      count = h.count;
      ready = λ p. all_weaker (Listed ⊥ c.who mf p) (IsReady (with_numbers mf ns) p) (λ id x. elim x [ inl r ↦ record { version = r.version; alive = r.alive; on = r.on; level = r.level } | inr q ↦ absurd q.0 ]) (list_of mf.ready.lists p) (h.ready p);
      once = h.once;
    };
    entries = λ n. entries_at n (cases_eq n c.who.number);
  }
    where
      entries_at : (n : ℕ) → (n ≡ c.who.number) ⊎ (n ≡ c.who.number → ⊥) → AllByRecursion IsEntry (mf.queue n).entries
      entries_at n (inl e) = subst (λ (x : ℕ). AllByRecursion IsEntry (mf.queue x).entries) (sym e) (subst (AllByRecursion IsEntry) (sym v.victim) tt)
      entries_at n (inr ne) = elim (cases_lt n c.count) [
        | inl l ↦ subst (λ (q : Queue). AllByRecursion IsEntry q.entries) (sym (v.done n l ne)) (unlinked_entries c.who (m.queue n).entries (good.words.entries n))
        | inr l ↦ subst (λ (q : Queue). AllByRecursion IsEntry q.entries) (sym (v.todo n l ne)) (good.words.entries n)
      ]

  pub numbers_end : IsSoundNumbers (with_numbers mf (without_thread c.who.number m.numbers))
  numbers_end =
      let s = good.numbers in
      record {
        versions = s.versions ∙ sym h.size;
        presences = length-set m.numbers.present c.who.number false ∙ s.presences ∙ sym h.size;
        version = λ n l. s.version n (subst (λ (x : ℕ). n < x) h.size l) ∙ sym (h.version n);
        present = λ n l. there_at n (subst (λ (x : ℕ). n < x) h.size l) (cases_eq n c.who.number);
      }
    where
      there_at : (n : ℕ) → n < m.size → (n ≡ c.who.number) ⊎ (n ≡ c.who.number → ⊥) → is_there (without_thread c.who.number m.numbers) n ≡ not (is_dead (shows (mf.word n).state))
      there_at n l (inl e) = rw e (get_or-set_same m.numbers.present c.who.number false false (let ps = good.numbers.presences in omega (arith, inside, ps)) ∙ sym (ap (λ (w : StateWord). not (is_dead (shows w.state))) h.dead))
      there_at n l (inr ne) = get_or-set_other m.numbers.present c.who.number n false false ne ∙ good.numbers.present n l ∙ ap not (sym (h.alive n ne))

  pub contexts_end : (ns : ThreadNumbers) → mf.context ≡ upd m.context c.who.number Empty → IsSoundContexts (with_numbers mf ns)
  contexts_end ns e = record {
    there = λ n q. there_at n q (cases_eq n c.who.number);
    none = λ n q. none_at n q (cases_eq n c.who.number);
  }
    where
      there_at : (n : ℕ) → is_dead (shows (mf.word n).state) ≡ false → (n ≡ c.who.number) ⊎ (n ≡ c.who.number → ⊥) → IsContext (mf.word n).version (mf.context n)
      there_at n q (inl x) = absurd (false≢true (sym q ∙ ap (λ (y : ℕ). is_dead (shows (mf.word y).state)) x ∙ ap (λ (w : StateWord). is_dead (shows w.state)) h.dead))
      there_at n q (inr ne) = subst (IsContext (mf.word n).version) (sym (ap (λ (f : ℕ → ContextWord). f n) e ∙ upd_other m.context c.who.number Empty n ne)) (subst (λ (x : ℕ). IsContext x (m.context n)) (sym (h.version n)) (good.contexts.there n (sym (h.alive n ne) ∙ q)))

      none_at : (n : ℕ) → is_dead (shows (mf.word n).state) ≡ true → (n ≡ c.who.number) ⊎ (n ≡ c.who.number → ⊥) → mf.context n ≡ Empty
      none_at n q (inl x) = ap (λ (f : ℕ → ContextWord). f n) e ∙ ap (upd m.context c.who.number Empty) x ∙ upd_same m.context c.who.number Empty
      none_at n q (inr ne) = ap (λ (f : ℕ → ContextWord). f n) e ∙ upd_other m.context c.who.number Empty n ne ∙ good.contexts.none n (sym (h.alive n ne) ∙ q)

-- THE READY LISTS

-- who stands in a list under the victim's number is the victim
victim_entries : (m : Memory) (k : KernelState) (who me : ThreadId) (V : Type 0) (S R : ℕ → Type 0) (m' : Memory) (k' : KernelState) → Half m k who me V S R m' k' → (p : ℕ) → AllByRecursion (λ id. id.number ≡ who.number → id ≡ who) (list_of m'.ready.lists p)
victim_entries m k who me V S R m' k' h p = all_weaker (Listed V who m' p) (λ id. id.number ≡ who.number → id ≡ who) each (list_of m'.ready.lists p) (h.ready p)
  where
    each : (id : ThreadId) → Listed V who m' p id → id.number ≡ who.number → id ≡ who
    each id (inl r) e = absurd (false≢true (sym r.alive ∙ ap (λ (j : ℕ). is_dead (shows (m'.word j).state)) e ∙ ap (λ (w : StateWord). is_dead (shows w.state)) h.dead))
    each id (inr q) e = q.1

-- the lists after both freeings, with the victim taken out between them
left_lists : (m : Memory) (who : ThreadId) (mb mf : Memory) (first second : List ReplyLine) → ((p : ℕ) → IsOnceEach (list_of mb.ready.lists p)) → ((p : ℕ) → AllByRecursion (λ id. id.number ≡ who.number → id ≡ who) (list_of mb.ready.lists p)) → ((p : ℕ) → list_of mb.ready.lists p ≡ list_of m.ready.lists p ++ at_level m p (ids_of first)) → ((p : ℕ) → list_of mf.ready.lists p ≡ list_of (unlisted who mb.ready).lists p ++ at_level m p (ids_of second)) → ((p : ℕ) → filter (is_not who.number) (at_level m p (ids_of first)) ≡ at_level m p (ids_of first)) → (p : ℕ) → list_of mf.ready.lists p ≡ filter (is_not who.number) (list_of m.ready.lists p) ++ at_level m p (ids_of (first ++ second))
left_lists m who mb mf first second once entries early late kept p =
    let old = list_of m.ready.lists p in
    let a = at_level m p (ids_of first) in
    let b = at_level m p (ids_of second) in
    let cut : list_of (unlisted who mb.ready).lists p ≡ filter (is_not who.number) old ++ a =
    listed_map who mb.ready.lists p ∙ cut_is who (list_of mb.ready.lists p) (once p) (entries p) ∙ ap (filter (is_not who.number)) (early p) ∙ filter-append (is_not who.number) old a ∙ ap (λ (xs : List ThreadId). filter (is_not who.number) old ++ xs) (kept p) in
    late p ∙ ap (λ (xs : List ThreadId). xs ++ b) cut ∙ append_assoc (filter (is_not who.number) old) a b
    ∙ ap (λ (xs : List ThreadId). filter (is_not who.number) old ++ xs) (sym (level_append m p (ids_of first) (ids_of second)) ∙ ap (at_level m p) (sym (map-append (λ (line : ReplyLine). line.id) first second)))

-- THE LAW

module _ (c : DestroyCall) (m : Memory) (k : KernelState) (own : StateWord) (h : Shows m k) (good : IsSoundMemory m) (call : IsCaller m c.caller own) (parts : IsDestroyCall m c) where
  abbrev Law : Type 0
  Law = Makes (destroy_kind (current k c.caller)) (begun m (destroy_of c own)) k (call_of k c.caller (phase.Destroy c.who))

  serial_is : current k c.caller c.caller.number ≡ (k.place c.caller.number).serial + 1
  serial_is = ap (λ p. p.serial) (upd_same k.place c.caller.number (record (k.place c.caller.number) { serial = (k.place c.caller.number).serial + 1 }))

  entry_is : (o : Outcome) → destroyed c (current k c.caller) o ≡ record { event = call_of k c.caller (phase.Destroy c.who); outcome = o }
  entry_is o = ap (λ (x : ℕ). record { event = record { who = c.caller; serial = x; act = act.Call (phase.Destroy c.who) }; outcome = o }) serial_is

  caller_runs : (k.place c.caller.number).status ≡ status.Run
  caller_runs = h.status c.caller.number ∙ ap (λ (w : StateWord). shows w.state) call.word ∙ ap shows call.runs

  called_runs : ((call_state c k).place c.caller.number).status ≡ status.Run
  called_runs = ap (λ p. p.status) (upd_same k.place c.caller.number (record (k.place c.caller.number) { serial = (k.place c.caller.number).serial + 1 })) ∙ caller_runs

  shown_called : Shows m (call_state c k)
  shown_called = shows_called m k c.caller ((k.place c.caller.number).serial + 1) h

  runs : IsIn m c.caller status.Run
  runs = caller_in m c.caller own call

  refused_law : (r : Reply) (o : Outcome) (d : ℕ) → ((s : State) → state_told (Some r) s ≡ s) → made_by o ≡ [] → Answers k c.caller (phase.Destroy c.who) o r m → Goes (destroy_kind (current k c.caller)) (begun m (destroy_of c own)) (at c own m (Outside (Ended (went.Ends r))) nothing (destroyed c (current k c.caller) o ∷ []) (went.Ends r) d) → Law
  refused_law r o d kept nobody row goes =
      let me = c.caller in
      let s = next_serial k me in
      makes_one (destroy_kind (current k me)) (begun m (destroy_of c own)) _ k _ (call_of k me (phase.Destroy c.who)) o (told me s r ∷ [])
      h good row goes (ap (λ (x : Entry). x ∷ []) (entry_is o))
      (record { size = refl; version = λ n. refl; dead = λ n. refl; context = refl; numbers = refl; room = λ n. refl })
      good.words
      (reply_first me s r [], called_runs)
      (leaves_all (call_of k me (phase.Destroy c.who)) o (told me s r ∷ []) m good.words.ready (refl, tt) nobody (ap (λ (x : Option Reply). state_told x (m.word me.number).state) (reply_first me s r []) ∙ kept (m.word me.number).state))

  own_law : same_id c.who c.caller ≡ true → Law
  own_law same = refused_law reply.Own outcome.Own 1 (λ _. refl) refl (own_row m m k c.caller h runs c.who same (alike_from m m refl (λ n. refl) (λ n. refl))) (runs_own c (current k c.caller) m own good call same)

  absent_law : same_id c.who c.caller ≡ false → is_present_in (m.word c.who.number) c.who ≡ false → Law
  absent_law other gone =
      refused_law (reply.Absent (found_in c.who.number (m.word c.who.number))) (outcome.Absent (found_in c.who.number (m.word c.who.number))) 6 (λ _. refl) refl
      (absent_row m m k c.caller h runs c.who other gone (alike_from m m refl (λ n. refl) (λ n. refl)))
      (runs_absent c (current k c.caller) m own good call other gone)

  killed_law : same_id c.who c.caller ≡ false → is_present_in (m.word c.who.number) c.who ≡ true → Law
  killed_law other here =
      let me = c.caller in
      let v = c.who.number in
      let s = (k.place me.number).serial + 1 in
      let kc = call_state c k in
      let serials = current k me in
      let t = destroy_kind serials in
      let q = m.queue v in
      let present : is_present (table m) c.who ≡ true = sym (present_same m c.who) ∙ here in
      let version : (m.word v).version ≡ c.who.version = eqb-true (m.word v).version c.who.version (and_parts (eqb (m.word v).version c.who.version) (not (is_dead (shows (m.word v).state))) present).0 in
      let ne = apart_numbers m me c.who (caller_present m me own call) present (same_turned me c.who ∙ other) in
      let living : ((table m).place v).status ≢ status.Dead = λ e. false≢true (sym (not-true (is_dead (shows (m.word v).state)) (and_parts (eqb (m.word v).version c.who.version) (not (is_dead (shows (m.word v).state))) present).1) ∙ ap is_dead e) in
      let inside : v < m.size = inside_from (table m) v good.lists living in
      let counted : v < c.count = let cs = parts.count in omega (arith, inside) in
      let row = kills_is m m k me h runs c.who other here in
      let mk = with_word m v (dead_word c.who.version) in
      let k2 = answered (killed kc c.who) me s reply.Killed in
      let e = destroyed c serials outcome.Killed in
      let hk = half_killed m kc c.who me s shown_called good present ne called_runs in
      let f1 : Frees c own k m (Unit {0}) (λ t. ⊥) (λ t. Unit {0}) (AllTaken c own k m (Unit {0}) (λ t. Unit {0}) mk.queue q.room) (at c own mk (Victim (free_first q.entries)) (hand_with m.numbers q no_lists) (e ∷ []) went.On 5) k2 (Victim ReleaseVictimLock) m.numbers =
      senders_freed c own k m (Unit {0}) (λ t. Unit {0}) q.entries q.room mk k2 m.numbers no_lists (e ∷ []) went.On 5 hk (waiters c m (dead_word c.who.version) good version) (once_each q.entries (good.lists.apart v)) in
      let mb = f1.memory in
      let mr = removed c mb f1.queue in
      let clean : mb.context v ≡ Clean c.who.version = ap (λ (f : ℕ → ContextWord). f v) f1.contexts ∙ parts.home other present in
      let hq = half_queue m kc c.who me (Unit {0}) (λ t. ⊥) (λ t. Unit {0}) mb f1.state f1.half v f1.queue (f1.held.2 ∙ sym (ap (λ (f : ℕ → Queue). (f v).room) f1.held.0)) in
      let hu = half_unlisted m kc c.who me (Unit {0}) (λ t. ⊥) (λ t. Unit {0}) (with_queue mb v f1.queue) f1.state hq in
      let hx = half_context m kc c.who me ⊥ (λ t. ⊥) (λ t. Unit {0}) (with_ready (with_queue mb v f1.queue) (unlisted c.who mb.ready)) f1.state hu v Empty in
      let h0 : HalfAt c own k m counted 0 mr f1.state = fewer m kc c.who me ⊥ (λ t. ⊥) (λ t. Unit {0}) mr f1.state hx (λ t. ⊥) (λ t. 0 ≤ t) (λ _ _ _ y. y) (λ n _ _ _. omega arith) in
      let v0 : Visited c m 0 mr = record {
        done = λ n l _. absurd (omega (arith, l));
        todo = λ n _ apart. upd_other mb.queue v f1.queue n apart ∙ ap (λ (f : ℕ → Queue). f n) f1.held.0;
        victim = ap (λ (x : Queue). x.entries) (upd_same mb.queue v f1.queue) ∙ f1.held.1;
      } in
      let before = (e ∷ []) ++ f1.freed in
      let d2 = one_more (one_more (one_more (one_more f1.done))) in
      let f2 = visits c own k m counted c.count 0 (omega arith) mr f1.state m.numbers no_queue no_lists before went.On d2 h0 v0 in
      let mf = f2.memory in
      let ns = without_thread v m.numbers in
      let end = with_numbers mf ns in
      let ended = at c own end (Outside (Ended (went.Ends reply.Killed))) nothing (before ++ f2.freed) (went.Ends reply.Killed) (one_more f2.done) in
      let a0 = begun m (destroy_of c own) in
      let a1 = at c own mk (Victim (free_first q.entries)) (hand_with m.numbers q no_lists) (e ∷ []) went.On 5 in
      let a2 = at c own mb (Victim ReleaseVictimLock) (hand_with m.numbers f1.queue f1.ready) before f1.went f1.done in
      let a3 = at c own mr (Locked (visit_from c 0)) (hand_with m.numbers no_queue no_lists) before went.On d2 in
      let a4 = at c own mf (Locked (Release release.Killed)) (hand_with m.numbers f2.queue f2.ready) (before ++ f2.freed) f2.went f2.done in
      let goes = then t a0 a1 ended (runs_killed c serials m own good call other here (dead_sound m kc c.who me s shown_called good present ne called_runs))
      (then t a1 a2 ended f1.goes
      (then t a2 a3 ended (runs_removed c own serials mb m.numbers f1.queue f1.ready before f1.went f1.done clean)
      (then t a3 a4 ended f2.goes (runs_ended c own serials mf m.numbers f2.queue f2.ready (before ++ f2.freed) f2.went f2.done)))) in
      let freed_all = f1.freed ++ f2.freed in
      let line : ReplyLine = record { id = me; serial = s; reply = reply.Killed } in
      let k2_replies : k2.replies ≡ k.replies ++ line ∷ [] = ap (λ (x : List ReplyLine). x ++ line ∷ []) (killed_replies kc c.who) in
      let contexts : mf.context ≡ upd m.context v Empty = f2.contexts ∙ ap (λ (f : ℕ → ContextWord). upd f v Empty) f1.contexts in
      let gone1 = gone_later m c.who me mb mf f2.stays f1.lines f1.woken in
      let all_gone = all_append (IsGone m c.who me mf) f1.lines f2.lines gone1 f2.woken in
      let lists = left_lists m c.who mb mf f1.lines f2.lines f1.half.once (λ p. victim_entries m kc c.who me (Unit {0}) (λ t. ⊥) (λ t. Unit {0}) mb f1.state f1.half p) f1.lists f2.lists (λ p. gone_kept m c.who me mf p f1.lines gone1) in
      makes t a0 ended k f2.state (call_of k me (phase.Destroy c.who)) outcome.Killed freed_all (line ∷ (f1.lines ++ f2.lines))
      goes
      (record {
        shown = h;
        good = good;
        frees = all_append IsFreed f1.freed f2.freed f1.frees f2.frees;
        entries = ap (λ (x : Entry). x ∷ freed_all) (entry_is outcome.Killed);
        legal = replay_on k k2 f2.state (call_of k me (phase.Destroy c.who)) outcome.Killed freed_all (may_call m k h me (phase.Destroy c.who) runs) row (replay_append k2 f1.state f2.state f1.freed f2.freed f1.legal f2.legal);
        shows = shown_end c m kc shown_called good parts inside mf f2.state f2.half f2.held ns;
        size = f2.half.size;
        room = f2.half.room;
        words = words_end c m kc shown_called good parts inside mf f2.state f2.half f2.held ns;
        numbers = numbers_end c m kc shown_called good parts inside mf f2.state f2.half f2.held;
        contexts = contexts_end c m kc shown_called good parts inside mf f2.state f2.half f2.held ns contexts;
        replies = f2.replies ∙ ap (λ (x : List ReplyLine). x ++ f2.lines) (f1.replies ∙ ap (λ (x : List ReplyLine). x ++ f1.lines) k2_replies ∙ append_assoc k.replies (line ∷ []) f1.lines) ∙ append_assoc k.replies (line ∷ f1.lines) f2.lines;
        tells = (reply_first me s reply.Killed (f1.lines ++ f2.lines), f2.half.caller);
        leaves = killed_left c m kc own s good call present ne mf f2.state f2.half f2.held (f1.lines ++ f2.lines) all_gone ns contexts lists;
      })

  pub destroy_law : Makes (destroy_kind (current k c.caller)) (begun m (destroy_of c own)) k (call_of k c.caller (phase.Destroy c.who))
  destroy_law = elim (cases_Bool (same_id c.who c.caller)) [
    | inl same ↦ own_law same
    | inr other ↦ elim (cases_Bool (is_present_in (m.word c.who.number) c.who)) [ inl here ↦ killed_law other here | inr gone ↦ absent_law other gone ]
  ]
