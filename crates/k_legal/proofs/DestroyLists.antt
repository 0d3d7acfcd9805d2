-- Who waits to send, over the turns of a destroy.
use Rattle.std.specs.Prelude.{◌^◌}
use Rattle.std.proofs.lemmas.Bool.{and_parts}
use Rattle.std.proofs.Common.{◌≡◌, ◌≢◌, ℕ, ◌<◌, Bool, true, false, cond, not, ◌&&◌, eqb, refl, sym, ap}
use Rattle.std.proofs.Common.{◌∙◌, subst, List, [], ◌++◌, map, Option, Some, None, arith, inl, inr}
use Rattle.std.specs.List.{filter}
use Rattle.std.proofs.lemmas.Bool.{cases_eq, eqb-true, ne_eqb, eq-eqb}
use Rattle.std.proofs.lemmas.Bool.Decides.{eqb_tells}
use Rattle.k_ids.specs.declared.calls.Outcome.TheVariants as outcome
use Rattle.k_ids.specs.declared.state_word.State.TheVariants as state
use Rattle.k_ids.specs.declared.state_word.StateWord.{StateWord}
use Rattle.k_ids.specs.declared.threads.ThreadId.{ThreadId}
use Rattle.k_model.specs.Maps.{upd}
use Rattle.k_model.specs.State.{Waiting, same_id}
use Rattle.k_model.proofs.Maps.{upd_other, upd_same}
use Rattle.k_senders.specs.declared.entries.SenderEntry.{SenderEntry}
use Rattle.k_senders.specs.Entries.{number_of, sender_of, thread_of, who_of}
use Rattle.k_senders.specs.Queue.{without_thread}
use Rattle.k_senders.proofs.EntrySpelled.{sender_named, thread_named}
use Rattle.k_locks.specs.declared.locks.Lock.TheVariants as lock
use Rattle.k_locks.specs.declared.points.Point.{Point}
use Rattle.k_locks.specs.Asks.{Ask, Response}
use Rattle.k_locks.specs.Asks as asks
use Rattle.k_locks.specs.Shown.{found_in, is_dead, is_dead_state, is_present_in}
use Rattle.k_ipc.specs.Words.{sends_to}
use Rattle.k_threads.specs.declared.destroy.DestroyCall.{DestroyCall}
use Rattle.k_threads.specs.declared.destroy.DestroyOutside.TheVariants as outside
use Rattle.k_threads.specs.declared.destroy.DestroyLocked.TheVariants as locked
use Rattle.k_threads.specs.declared.destroy.DestroyVictim.TheVariants as victim
use Rattle.k_threads.specs.declared.destroy.DestroyVisit.TheVariants as visit
use Rattle.k_threads.specs.declared.destroy.DestroyPushing.TheVariants as pushing
use Rattle.k_threads.specs.DestroyTable.{DestroyAt}
use Rattle.k_threads.specs.DestroyTable as destroy
use Rattle.k_threads.specs.Words.{dead_word, freed_word, thread_at}
use Rattle.k_board.specs.Words.{Programs}
use Rattle.k_board.specs.Boards.{At, Board, Context, InDestroy, Nowhere, hand_of, id_at}
use Rattle.k_board.specs.Facts.{AllSay, waits_for}
use Rattle.k_legal.proofs.TableLists.{after_comes, and_false, both_left, by_entries, dead_sends, idle_waits, won_other, won_same}
use Rattle.std.proofs.lemmas.List.Elements.{filter-append}
use Rattle.k_threads.specs.Goods.{rest}
use Rattle.k_shown.specs.Memory.{waiting_of}
use Rattle.k_board.specs.Places.{facts_destroy}
use Rattle.k_board.specs.Steps.{Answers, destroy_at, destroy_board, destroy_context, destroy_number}
use Rattle.k_board.proofs.ReceivePlaces.{SendsTo}
use Rattle.k_board.proofs.DestroyPlaces.{front_sends, receiving_is}
use Rattle.k_legal.specs.Waiting.{coming_at, coming_by, waiters}
use Rattle.k_legal.proofs.Entries.{calm_alike, dead_waiters, entries, is_calm, left_without_thread, living_waiters, moved_comes}
use Rattle.k_legal.proofs.Entries.{owned_comes, plain_waiters, plain_words, removed_comes, same_waiters, tested, waits, IsPlain}
use Rattle.k_points.proofs.Exceptions.{Owns}
use Rattle.k_legal.proofs.ListRows.{lists_by, without_id}

destroy_comes : (c : DestroyCall) (p : DestroyAt) (n : ℕ) → coming_at (destroy_at c p) n ≡ []
destroy_comes c (destroy.Outside (outside.Ended w)) n = after_comes c.caller w n
destroy_comes c p n = refl

module _ (g : Programs) (b : Board) (c : DestroyCall) where
  abbrev i : ℕ
  i = c.caller.number

  abbrev x : Context
  x = b.context c.caller.number

  abbrev New : DestroyAt → Response → Board
  New p r = destroy_board g b c.caller.number (b.context c.caller.number) c p r

  abbrev Here : DestroyAt → Type 0
  Here p = (b.context c.caller.number).at ≡ InDestroy c p

  abbrev Sound : DestroyAt → Type 0
  Sound p = AllSay g b c.caller.number (b.context c.caller.number) (facts_destroy c p)

  abbrev Point_of : DestroyAt → Response → Option Point
  Point_of p r = destroy.points c (b.seen c.caller.number).word (hand_of b (b.queue (destroy_number c p))) p r

  abbrev Ask_of : DestroyAt → Ask
  Ask_of p = destroy.ask_of c (b.context c.caller.number).own p

  abbrev moved : DestroyAt → Response → Context
  moved p r = destroy_context (b.context c.caller.number) c p r (hand_of b (b.queue (destroy_number c p)))

  silent : (p : DestroyAt) → Here p → (n : ℕ) → coming_at (b.context c.caller.number).at n ≡ []
  silent p at n = ap (λ (a : At). coming_at a n) at

  by_locks : (p : DestroyAt) (r : Response) → Here p → Owns b.owner i (Ask_of p) r → (n : ℕ) →
      coming_by ((New p r).owner n) (upd b.context i (moved p r)) n ≡ coming_by (b.owner n) b.context n
  by_locks p r at o =
      owned_comes b.context _ (moved_comes b.context i (moved p r)
      (λ n. destroy_comes c (destroy.leads c (hand_of b (b.queue (destroy_number c p))) p r) n ∙ sym (silent p at n))) i
      (silent p at) b.owner (Ask_of p) r o

  comes : (p : DestroyAt) (r : Response) → Here p → Answers b (Ask_of p) r → Sound p → (n : ℕ) →
      coming_by ((New p r).owner n) (New p r).context n ≡ coming_by (b.owner n) b.context n
  comes (destroy.Locked locked.AcquireVictimLock) asks.Got at an h =
      by_locks (destroy.Locked locked.AcquireVictimLock) asks.Got at an
  comes (destroy.Victim victim.ReleaseVictimLock) asks.Released at an h =
      by_locks (destroy.Victim victim.ReleaseVictimLock) asks.Released at h.1.1.1.1.1.1.1.0
  comes (destroy.Victim (victim.ReleaseVictimLockAbsent found)) asks.Released at an h =
      by_locks (destroy.Victim (victim.ReleaseVictimLockAbsent found)) asks.Released at h.1.0
  comes (destroy.Locked (locked.AcquireVisitedLock visited)) asks.Got at an h =
      by_locks (destroy.Locked (locked.AcquireVisitedLock visited)) asks.Got at an
  comes (destroy.Visit (visit.ReleaseVisitedLock visited)) asks.Released at an h =
      by_locks (destroy.Visit (visit.ReleaseVisitedLock visited)) asks.Released at h.1.1.1.1.1.1.1.1.1.0
  comes (destroy.Locked locked.RemoveContext) asks.Removed at an h =
      removed_comes b.context c.who.number i (record (b.context c.who.number) { at = Nowhere })
      (moved (destroy.Locked locked.RemoveContext) asks.Removed)
      (λ n. destroy_comes c (destroy.leads c (hand_of b (b.queue c.who.number))
      (destroy.Locked locked.RemoveContext) asks.Removed) n) (silent (destroy.Locked locked.RemoveContext) at) b.owner
      (λ n. an (lock.Thread n))
  comes (destroy.Outside outside.LoadOwn) r at an h = by_locks (destroy.Outside outside.LoadOwn) r at tt
  comes (destroy.Outside outside.AcquireTable) r at an h = by_locks (destroy.Outside outside.AcquireTable) r at tt
  comes (destroy.Outside (outside.Ended w)) r at an h = absurd h.0
  comes (destroy.Locked locked.LoadCaller) r at an h = by_locks (destroy.Locked locked.LoadCaller) r at tt
  comes (destroy.Victim victim.LoadVictim) r at an h = by_locks (destroy.Victim victim.LoadVictim) r at tt
  comes (destroy.Victim (victim.CommitKill seen)) r at an h = by_locks (destroy.Victim (victim.CommitKill seen)) r at tt
  comes (destroy.Victim (victim.LoadSender m)) r at an h = by_locks (destroy.Victim (victim.LoadSender m)) r at tt
  comes (destroy.Victim (victim.FreeSender m seen)) r at an h = by_locks (destroy.Victim (victim.FreeSender m seen)) r at tt
  comes (destroy.Victim (victim.AcquireReadyForSender m seen)) r at an h =
      by_locks (destroy.Victim (victim.AcquireReadyForSender m seen)) r at tt
  comes (destroy.Pushing (pushing.PushSender m seen)) r at an h = by_locks (destroy.Pushing (pushing.PushSender m seen)) r at tt
  comes (destroy.Pushing (pushing.PushVisited m seen)) r at an h = by_locks (destroy.Pushing (pushing.PushVisited m seen)) r at tt
  comes (destroy.Locked locked.AcquireReadyForVictim) r at an h = by_locks (destroy.Locked locked.AcquireReadyForVictim) r at tt
  comes destroy.UnlistVictim r at an h = by_locks destroy.UnlistVictim r at tt
  comes (destroy.Visit (visit.LoadVisited m)) r at an h = by_locks (destroy.Visit (visit.LoadVisited m)) r at tt
  comes (destroy.Visit (visit.FreeVisited m seen)) r at an h = by_locks (destroy.Visit (visit.FreeVisited m seen)) r at tt
  comes (destroy.Visit (visit.AcquireReadyForVisited m seen)) r at an h =
      by_locks (destroy.Visit (visit.AcquireReadyForVisited m seen)) r at tt
  comes (destroy.Locked (locked.Release q)) r at an h = by_locks (destroy.Locked (locked.Release q)) r at tt
  comes p r at an h = by_locks p r at tt

  -- the queues stay, and the words tell the same
  plain : (p : DestroyAt) (r : Response) → Here p → Answers b (Ask_of p) r → Sound p → IsPlain (Ask_of p) r →
      ((n : ℕ) → (New p r).queue n ≡ b.queue n) → (n : ℕ) → waiters b n ≡ waiters (New p r) n
  plain p r at ans h q queues n =
      sym (plain_waiters b (New p r) (plain_words g b x.position (Point_of p r) (Ask_of p) r ans q)
      (λ m d. queues m d ++ comes p r at ans h m d) n)

  -- the victim's queue is shown no more
  but_victim : (p : DestroyAt) (r : Response) → Here p → Answers b (Ask_of p) r → Sound p → IsPlain (Ask_of p) r →
      is_dead (b.seen c.who.number).word ≡ true → ((n : ℕ) → n ≢ c.who.number → (New p r).queue n ≡ b.queue n) → (n : ℕ) →
      waiters b n ≡ waiters (New p r) n
  but_victim p r at ans h q dead queues n =
      sym (same_waiters b (New p r) (plain_words g b x.position (Point_of p r) (Ask_of p) r ans q) n
      (λ alive. ap (filter (waits b n)) (λ d. queues n (λ e. absurd (other e alive)) d ++ comes p r at ans h n d)))
    where
      other : n ≡ c.who.number → is_dead (b.seen n).word ≡ false → ⊥
      other e alive = grind arith

  load_own_point : (dead : Bool) (f : ℕ → List Waiting) (n : ℕ) →
      lists_by (cond dead None (Some (destroy.point_of c outcome.Own))) f n ≡ f n
  load_own_point true f n = refl
  load_own_point false f n = refl

  load_victim_point : (present : Bool) (w : StateWord) (f : ℕ → List Waiting) (n : ℕ) →
      lists_by (cond present None (Some (destroy.point_of c (outcome.Absent (found_in c.who.number w))))) f n ≡ f n
  load_victim_point true w f n = refl
  load_victim_point false w f n = refl

  -- the victim's own list is no more, and it is in no other's
  killed : (seen : StateWord) → Here (destroy.Victim (victim.CommitKill seen)) → (b.seen c.who.number).word ≡ seen →
      Sound (destroy.Victim (victim.CommitKill seen)) → (n : ℕ) →
      upd (λ m. without_id c.who (waiters b m)) c.who.number [] n ≡
      waiters (New (destroy.Victim (victim.CommitKill seen)) asks.Won) n
  killed seen at won h n = elim (eqb_tells n c.who.number) [
    | inl q ↦
        subst (λ (m : ℕ). upd (λ j. without_id c.who (waiters b j)) c.who.number [] m ≡
        waiters (New (destroy.Victim (victim.CommitKill seen)) asks.Won) m) (sym q.1)
        (upd_same (λ j. without_id c.who (waiters b j)) c.who.number []
        ∙ sym (dead_waiters (New (destroy.Victim (victim.CommitKill seen)) asks.Won) c.who.number (ap is_dead new_word)))
    | inr q ↦ upd_other (λ j. without_id c.who (waiters b j)) c.who.number [] n q.1 ∙ others n q.1
  ]
    where
      new_word : ((New (destroy.Victim (victim.CommitKill seen)) asks.Won).seen c.who.number).word ≡ dead_word c.who.version
      new_word =
          won_same g b.seen x.position (Some (destroy.point_of c outcome.Killed)) c.who.number seen (dead_word c.who.version)

      old_word : (t : ℕ) → t ≢ c.who.number →
          ((New (destroy.Victim (victim.CommitKill seen)) asks.Won).seen t).word ≡ (b.seen t).word
      old_word t ne =
          won_other g b.seen x.position (Some (destroy.point_of c outcome.Killed)) c.who.number seen
          (dead_word c.who.version) t ne

      version : (b.seen c.who.number).word.version ≡ c.who.version
      version = ap (λ (u : StateWord). u.version) won ∙ eqb-true seen.version c.who.version (and_parts _ _ h.1.1.1.1.1.1.1.0).0

      others : (n : ℕ) → n ≢ c.who.number →
          without_id c.who (waiters b n) ≡ waiters (New (destroy.Victim (victim.CommitKill seen)) asks.Won) n
      others n ne = go (is_dead (b.seen n).word) refl
        where
          test : (e : SenderEntry) →
              waits (New (destroy.Victim (victim.CommitKill seen)) asks.Won) n e ≡
              (waits b n e && not (same_id (sender_of e) c.who))
          test e = elim (eqb_tells (number_of e) c.who.number) [
            | inl q ↦
                idle_waits (New (destroy.Victim (victim.CommitKill seen)) asks.Won) n e
                (ap (λ (m : ℕ). sends_to (id_at (New (destroy.Victim (victim.CommitKill seen)) asks.Won) n)
                ((New (destroy.Victim (victim.CommitKill seen)) asks.Won).seen m).word.state) q.1
                ∙ ap (λ (u : StateWord). sends_to
                (id_at (New (destroy.Victim (victim.CommitKill seen)) asks.Won) n) u.state) new_word)
                ∙ sym (own q.1)
            | inr q ↦
                (λ d. waits_for (record { number = n; version = ap (λ (u : StateWord). u.version) (old_word n ne) d }) e
                (old_word (number_of e) q.1 d)) ∙ sym (ap (λ (d : Bool). waits b n e && not d)
                (ap (λ (d : Bool). d && eqb (sender_of e).version c.who.version) (ne_eqb (number_of e) c.who.number q.1))
                ∙ and_true _)
          ]
            where
              and_true : (d : Bool) → (d && true) ≡ d
              and_true true = refl
              and_true false = refl

              -- an entry of the victim's number counts as one of its thread alone
              own : number_of e ≡ c.who.number → (waits b n e && not (same_id (sender_of e) c.who)) ≡ false
              own q = elim (cases_eq (sender_of e).version c.who.version) [
                | inl v ↦
                    ap (λ (d : Bool). waits b n e && not d) (λ d. eq-eqb (number_of e) c.who.number q d && eq-eqb
                    (sender_of e).version c.who.version v d) ∙ and_false _
                | inr v ↦
                    ap (λ (d : Bool). (d && sends_to (id_at b n) (b.seen (number_of e)).word.state) && not
                    (same_id (sender_of e) c.who)) (ne_eqb (b.seen (number_of e)).word.version (sender_of e).version
                    (λ f. v (sym f ∙ ap (λ (m : ℕ). (b.seen m).word.version) q ∙ version)))
              ]

          go : (d : Bool) → is_dead (b.seen n).word ≡ d →
              without_id c.who (waiters b n) ≡ waiters (New (destroy.Victim (victim.CommitKill seen)) asks.Won) n
          go true d =
              ap (without_id c.who) (dead_waiters b n d)
              ∙ sym (dead_waiters (New (destroy.Victim (victim.CommitKill seen)) asks.Won) n (ap is_dead (old_word n ne) ∙ d))
          go false d = ap (without_id c.who) (living_waiters b n d)
              ∙ tested (λ w. not (same_id w.0 c.who)) (waits b n)
              (waits (New (destroy.Victim (victim.CommitKill seen)) asks.Won) n) test (entries b n)
              ∙ ap (λ (es : List SenderEntry). map waiting_of (filter
              (waits (New (destroy.Victim (victim.CommitKill seen)) asks.Won) n) es))
              (λ d. b.queue n ++ sym (comes (destroy.Victim (victim.CommitKill seen)) asks.Won at won h n) d)
              ∙ sym (living_waiters (New (destroy.Victim (victim.CommitKill seen)) asks.Won) n (ap is_dead (old_word n ne) ∙ d))

  -- one that waited for the victim is freed, and what is shown of others stays
  freed : (m : ℕ) (seen : StateWord) → Here (destroy.Victim (victim.FreeSender m seen)) → (b.seen m).word ≡ seen →
      Sound (destroy.Victim (victim.FreeSender m seen)) → (n : ℕ) →
      waiters b n ≡ waiters (New (destroy.Victim (victim.FreeSender m seen)) asks.Won) n
  freed m seen at won h n = sym (by_entries b (New (destroy.Victim (victim.FreeSender m seen)) asks.Won) n (dead n) left)
    where
      st : SendsTo c.who seen.state
      st = front_sends c.who (b.queue c.who.number) m seen h.1.1.1.1.1.1.1.1.1.1.0.1

      was : (b.seen m).word.state ≡ state.Sending c.who st.joined
      was = ap (λ (u : StateWord). u.state) won ∙ st.is

      new_word : ((New (destroy.Victim (victim.FreeSender m seen)) asks.Won).seen m).word ≡ freed_word seen
      new_word = won_same g b.seen x.position (Some (destroy.freed (thread_at m seen))) m seen (freed_word seen)

      old_word : (t : ℕ) → t ≢ m → ((New (destroy.Victim (victim.FreeSender m seen)) asks.Won).seen t).word ≡ (b.seen t).word
      old_word t ne = won_other g b.seen x.position (Some (destroy.freed (thread_at m seen))) m seen (freed_word seen) t ne

      dead : (t : ℕ) → is_dead ((New (destroy.Victim (victim.FreeSender m seen)) asks.Won).seen t).word ≡ is_dead (b.seen t).word
      dead t = elim (eqb_tells t m) [
        | inl q ↦
            subst (λ (j : ℕ). is_dead ((New (destroy.Victim (victim.FreeSender m seen)) asks.Won).seen j).word ≡
            is_dead (b.seen j).word) (sym q.1) (ap is_dead new_word ∙ sym (ap is_dead_state was))
        | inr q ↦ ap is_dead (old_word t q.1)
      ]

      version : (t : ℕ) →
          ((New (destroy.Victim (victim.FreeSender m seen)) asks.Won).seen t).word.version ≡ (b.seen t).word.version
      version t = elim (eqb_tells t m) [
        | inl q ↦
            subst (λ (j : ℕ). ((New (destroy.Victim (victim.FreeSender m seen)) asks.Won).seen j).word.version ≡
            (b.seen j).word.version) (sym q.1) (ap (λ (u : StateWord). u.version) new_word
            ∙ sym (ap (λ (u : StateWord). u.version) won))
        | inr q ↦ ap (λ (u : StateWord). u.version) (old_word t q.1)
      ]

      left : is_dead (b.seen n).word ≡ false →
          filter (waits (New (destroy.Victim (victim.FreeSender m seen)) asks.Won) n)
          (entries (New (destroy.Victim (victim.FreeSender m seen)) asks.Won) n) ≡ filter (waits b n) (entries b n)
      left alive =
          both_left (waits b n) (waits (New (destroy.Victim (victim.FreeSender m seen)) asks.Won) n) (entries b n)
          (entries (New (destroy.Victim (victim.FreeSender m seen)) asks.Won) n) same
          (λ d. queues seen.on d ++ comes (destroy.Victim (victim.FreeSender m seen)) asks.Won at won h n d)
        where
          apart : n ≢ c.who.number
          apart e = other e alive
            where
              other : n ≡ c.who.number → is_dead (b.seen n).word ≡ false → ⊥
              other e alive = let d = h.0.1 in grind arith

          queues : (on : Bool) → cond on (upd b.queue c.who.number (rest (b.queue c.who.number))) b.queue n ≡ b.queue n
          queues true = upd_other b.queue c.who.number (rest (b.queue c.who.number)) n apart
          queues false = refl

          same : (e : SenderEntry) → waits (New (destroy.Victim (victim.FreeSender m seen)) asks.Won) n e ≡ waits b n e
          same e = elim (eqb_tells (number_of e) m) [
            | inl q ↦
                idle_waits (New (destroy.Victim (victim.FreeSender m seen)) asks.Won) n e
                (ap (λ (j : ℕ). sends_to (id_at (New (destroy.Victim (victim.FreeSender m seen)) asks.Won) n)
                ((New (destroy.Victim (victim.FreeSender m seen)) asks.Won).seen j).word.state) q.1
                ∙ ap (λ (u : StateWord). sends_to
                (id_at (New (destroy.Victim (victim.FreeSender m seen)) asks.Won) n) u.state) new_word)
                ∙ sym (idle_waits b n e (ap (λ (j : ℕ). sends_to (id_at b n) (b.seen j).word.state) q.1
                ∙ ap (sends_to (id_at b n)) was ∙ ap (λ (d : Bool). d && eqb c.who.version (b.seen n).word.version)
                (ne_eqb c.who.number n (λ f. apart (sym f)))))
            | inr q ↦ (λ d. waits_for (record { number = n; version = version n d }) e (old_word (number_of e) q.1 d))
          ]

  -- the victim's entry leaves the queue of a number that is visited: it doesn't count any more
  unlinked : c.who.number < 64 → c.who.version < 2 ^ 20 → (m : ℕ) → Here (destroy.Visit (visit.ReleaseVisitedLock m)) →
      Sound (destroy.Visit (visit.ReleaseVisitedLock m)) → (n : ℕ) →
      waiters b n ≡ waiters (New (destroy.Visit (visit.ReleaseVisitedLock m)) asks.Released) n
  unlinked few small m at h n =
      sym (same_waiters b (New (destroy.Visit (visit.ReleaseVisitedLock m)) asks.Released)
      (plain_words g b x.position None (asks.Release (lock.Thread m)) asks.Released tt tt) n (λ _. left))
    where
      gone : (e : SenderEntry) → e.who ≡ who_of c.who → waits b n e ≡ false
      gone e q =
          idle_waits b n e (dead_sends (b.seen (number_of e)).word (id_at b n)
          (ap (λ (j : ℕ). is_dead (b.seen j).word) (ap (λ (id : ThreadId). id.number)
          (sender_named e ∙ ap thread_of q ∙ thread_named c.who few small)) ∙ h.0.1))

      queue : filter (waits b n) (upd b.queue m (without_thread (who_of c.who) (b.queue m)) n) ≡ filter (waits b n) (b.queue n)
      queue = elim (eqb_tells n m) [
        | inl q ↦
            subst (λ (j : ℕ). filter (waits b n) (upd b.queue m (without_thread (who_of c.who) (b.queue m)) j) ≡
            filter (waits b n) (b.queue j)) (sym q.1) (ap (filter (waits b n))
            (upd_same b.queue m (without_thread (who_of c.who) (b.queue m)))
            ∙ left_without_thread (waits b n) (who_of c.who) gone (b.queue m))
        | inr q ↦ ap (filter (waits b n)) (upd_other b.queue m (without_thread (who_of c.who) (b.queue m)) n q.1)
      ]

      left : filter (waits b n) (entries (New (destroy.Visit (visit.ReleaseVisitedLock m)) asks.Released) n) ≡
          filter (waits b n) (entries b n)
      left =
          filter-append (waits b n) _ _
          ∙ (λ d. queue d ++ filter (waits b n) (comes (destroy.Visit (visit.ReleaseVisitedLock m)) asks.Released at tt h n d))
          ∙ sym (filter-append (waits b n) (b.queue n) (coming_by (b.owner n) b.context n))

  open_calm : (seen : StateWord) → seen.state ≡ state.Receiving (Some c.who) → is_calm seen.state ≡ true
  open_calm seen e = ap is_calm e

  -- each location, for each response that it can have
  pub destroy_waits : c.who.number < 64 → c.who.version < 2 ^ 20 → (p : DestroyAt) (r : Response) → Here p →
      Answers b (Ask_of p) r → Sound p → (n : ℕ) → lists_by (Point_of p r) (waiters b) n ≡ waiters (New p r) n
  destroy_waits few small (destroy.Outside outside.LoadOwn) (asks.Word w) at ans h n =
      load_own_point (is_dead w) (waiters b) n ∙ plain (destroy.Outside outside.LoadOwn) (asks.Word w) at ans h tt (λ m. refl) n
  destroy_waits few small (destroy.Outside outside.AcquireTable) asks.Got at ans h n =
      plain (destroy.Outside outside.AcquireTable) asks.Got at ans h tt (λ m. refl) n
  destroy_waits few small (destroy.Outside outside.AcquireTable) (asks.Owned o) at ans h n =
      plain (destroy.Outside outside.AcquireTable) (asks.Owned o) at ans h tt (λ m. refl) n
  destroy_waits few small (destroy.Locked locked.LoadCaller) (asks.Word w) at ans h n =
      plain (destroy.Locked locked.LoadCaller) (asks.Word w) at ans h tt (λ m. refl) n
  destroy_waits few small (destroy.Locked locked.AcquireVictimLock) asks.Got at ans h n =
      plain (destroy.Locked locked.AcquireVictimLock) asks.Got at ans h tt (λ m. refl) n
  destroy_waits few small (destroy.Locked locked.AcquireVictimLock) (asks.Owned o) at ans h n =
      plain (destroy.Locked locked.AcquireVictimLock) (asks.Owned o) at ans h tt (λ m. refl) n
  destroy_waits few small (destroy.Victim victim.LoadVictim) (asks.Word w) at ans h n =
      load_victim_point (is_present_in w c.who) w (waiters b) n
      ∙ plain (destroy.Victim victim.LoadVictim) (asks.Word w) at ans h tt (λ m. refl) n
  destroy_waits few small (destroy.Victim (victim.CommitKill seen)) asks.Won at ans h n = killed seen at ans h n
  destroy_waits few small (destroy.Victim (victim.CommitKill seen)) (asks.Lost v) at ans h n =
      plain (destroy.Victim (victim.CommitKill seen)) (asks.Lost v) at ans h tt (λ m. refl) n
  destroy_waits few small (destroy.Victim (victim.LoadSender m)) (asks.Word w) at ans h n =
      plain (destroy.Victim (victim.LoadSender m)) (asks.Word w) at ans h tt (λ j. refl) n
  destroy_waits few small (destroy.Victim (victim.FreeSender m seen)) asks.Won at ans h n = freed m seen at ans h n
  destroy_waits few small (destroy.Victim (victim.FreeSender m seen)) (asks.Lost v) at ans h n =
      plain (destroy.Victim (victim.FreeSender m seen)) (asks.Lost v) at ans h tt (λ j. refl) n
  destroy_waits few small (destroy.Victim (victim.AcquireReadyForSender m seen)) asks.Got at ans h n =
      plain (destroy.Victim (victim.AcquireReadyForSender m seen)) asks.Got at ans h tt (λ j. refl) n
  destroy_waits few small (destroy.Victim (victim.AcquireReadyForSender m seen)) (asks.Owned o) at ans h n =
      plain (destroy.Victim (victim.AcquireReadyForSender m seen)) (asks.Owned o) at ans h tt (λ j. refl) n
  destroy_waits few small (destroy.Pushing (pushing.PushSender m seen)) asks.Released at ans h n =
      but_victim (destroy.Pushing (pushing.PushSender m seen)) asks.Released at ans h tt h.0.1
      (λ j ne. upd_other b.queue c.who.number (rest (b.queue c.who.number)) j ne) n
  destroy_waits few small (destroy.Victim victim.ReleaseVictimLock) asks.Released at ans h n =
      plain (destroy.Victim victim.ReleaseVictimLock) asks.Released at ans h tt (λ j. refl) n
  destroy_waits few small (destroy.Locked locked.AcquireReadyForVictim) asks.Got at ans h n =
      plain (destroy.Locked locked.AcquireReadyForVictim) asks.Got at ans h tt (λ j. refl) n
  destroy_waits few small (destroy.Locked locked.AcquireReadyForVictim) (asks.Owned o) at ans h n =
      plain (destroy.Locked locked.AcquireReadyForVictim) (asks.Owned o) at ans h tt (λ j. refl) n
  destroy_waits few small destroy.UnlistVictim asks.Released at ans h n =
      plain destroy.UnlistVictim asks.Released at ans h tt (λ j. refl) n
  destroy_waits few small (destroy.Locked locked.RemoveContext) asks.Removed at ans h n =
      plain (destroy.Locked locked.RemoveContext) asks.Removed at ans h tt (λ j. refl) n
  destroy_waits few small (destroy.Locked locked.RemoveContext) asks.Kept at ans h n =
      plain (destroy.Locked locked.RemoveContext) asks.Kept at ans h tt (λ j. refl) n
  destroy_waits few small (destroy.Locked (locked.AcquireVisitedLock m)) asks.Got at ans h n =
      plain (destroy.Locked (locked.AcquireVisitedLock m)) asks.Got at ans h tt (λ j. refl) n
  destroy_waits few small (destroy.Locked (locked.AcquireVisitedLock m)) (asks.Owned o) at ans h n =
      plain (destroy.Locked (locked.AcquireVisitedLock m)) (asks.Owned o) at ans h tt (λ j. refl) n
  destroy_waits few small (destroy.Visit (visit.LoadVisited m)) (asks.Word w) at ans h n =
      plain (destroy.Visit (visit.LoadVisited m)) (asks.Word w) at ans h tt (λ j. refl) n
  destroy_waits few small (destroy.Visit (visit.FreeVisited m seen)) asks.Won at ans h n =
      plain (destroy.Visit (visit.FreeVisited m seen)) asks.Won at ans h
      (calm_alike seen (freed_word seen) refl (open_calm seen (receiving_is c.who seen.state h.1.1.1.1.1.1.1.1.1.1.0.1)) refl)
      (λ j. refl) n
  destroy_waits few small (destroy.Visit (visit.FreeVisited m seen)) (asks.Lost v) at ans h n =
      plain (destroy.Visit (visit.FreeVisited m seen)) (asks.Lost v) at ans h tt (λ j. refl) n
  destroy_waits few small (destroy.Visit (visit.AcquireReadyForVisited m seen)) asks.Got at ans h n =
      plain (destroy.Visit (visit.AcquireReadyForVisited m seen)) asks.Got at ans h tt (λ j. refl) n
  destroy_waits few small (destroy.Visit (visit.AcquireReadyForVisited m seen)) (asks.Owned o) at ans h n =
      plain (destroy.Visit (visit.AcquireReadyForVisited m seen)) (asks.Owned o) at ans h tt (λ j. refl) n
  destroy_waits few small (destroy.Pushing (pushing.PushVisited m seen)) asks.Released at ans h n =
      plain (destroy.Pushing (pushing.PushVisited m seen)) asks.Released at ans h tt (λ j. refl) n
  destroy_waits few small (destroy.Visit (visit.ReleaseVisitedLock m)) asks.Released at ans h n = unlinked few small m at h n
  destroy_waits few small (destroy.Locked (locked.Release q)) asks.Released at ans h n =
      plain (destroy.Locked (locked.Release q)) asks.Released at ans h tt (λ j. refl) n
  destroy_waits few small (destroy.Victim (victim.ReleaseVictimLockAbsent found)) asks.Released at ans h n =
      plain (destroy.Victim (victim.ReleaseVictimLockAbsent found)) asks.Released at ans h tt (λ j. refl) n
  destroy_waits few small (destroy.Outside (outside.Ended w)) r at ans h n = absurd h.0
  destroy_waits few small p r at ans h n = absurd ans
