-- Of which kind each step of a destroy is.
use Rattle.std.proofs.Common.{◌≡◌, ◌≢◌, ℕ, ◌+◌, ◌<◌, ◌≤◌, Bool, true, false, refl, sym, ap, ◌∙◌}
use Rattle.std.proofs.Common.{subst, arith, Option, Some, None, List, [], ◌∷◌, ◌⊎◌, inl, inr, eqb}
use Rattle.std.specs.Prelude.{◌==◌, if◌then◌else◌, nat_lt, not, ◌^◌}
use Rattle.std.proofs.lemmas.Bool.{and_parts, cases_Bool, eq-eqb, eqb-true}
use Rattle.std.proofs.lemmas.Bool.Decides.{eqb_tells, nat_tests}
use Rattle.k_ids.specs.declared.threads.ThreadId.{ThreadId}
use Rattle.k_ids.specs.declared.state_word.State.{State}
use Rattle.k_ids.specs.declared.state_word.StateWord.{StateWord}
use Rattle.k_model.specs.Maps.{upd}
use Rattle.k_model.proofs.Maps.{upd_same, upd_other}
use Rattle.k_links.proofs.Removed.{once_without}
use Rattle.k_senders.specs.declared.entries.SenderEntry.{SenderEntry}
use Rattle.k_senders.specs.Entries.{IsEntry, number_of, sender_of, thread_of, who_of}
use Rattle.k_senders.specs.Places.{is_of}
use Rattle.k_senders.specs.Queue.{IsOnceEach, entry_of, sends, without, without_thread}
use Rattle.k_senders.proofs.EntrySpelled.{sender_same, thread_named}
use Rattle.k_senders.proofs.Positions.{sends_is, without_nobody, without_sender}
use Rattle.k_locks.specs.declared.points.Point.{Point}
use Rattle.k_locks.specs.Asks.{Response}
use Rattle.k_locks.specs.Asks as asks
use Rattle.k_locks.specs.Shown.{found_in, is_dead, is_dead_state, is_present_in}
use Rattle.k_script.specs.Plays.{IsInRange}
use Rattle.k_ipc.specs.Words.{sends_to}
use Rattle.k_threads.specs.declared.destroy.DestroyCall.{DestroyCall}
use Rattle.k_threads.specs.declared.destroy.DestroyOutside.TheVariants as destroy_outside
use Rattle.k_threads.specs.declared.destroy.DestroyLocked.{DestroyLocked}
use Rattle.k_threads.specs.declared.destroy.DestroyLocked.TheVariants as destroy_locked
use Rattle.k_threads.specs.declared.destroy.DestroyRelease.TheVariants as destroy_release
use Rattle.k_threads.specs.declared.destroy.DestroyVictim.{DestroyVictim}
use Rattle.k_threads.specs.declared.destroy.DestroyVictim.TheVariants as victim
use Rattle.k_threads.specs.declared.destroy.DestroyVisit.{DestroyVisit}
use Rattle.k_threads.specs.declared.destroy.DestroyVisit.TheVariants as visit
use Rattle.k_threads.specs.declared.destroy.DestroyPushing.TheVariants as destroy_pushing
use Rattle.k_threads.specs.DestroyTable.{DestroyAt, but_victim, free_first, visit_from}
use Rattle.k_threads.specs.DestroyTable as destroy
use Rattle.k_threads.specs.Goods.{rest}
use Rattle.k_threads.specs.Words.{dead_word, freed_word, is_receiving_from}
use Rattle.k_board.specs.Words.{Programs}
use Rattle.k_board.specs.Boards.{InDestroy, Nowhere, Board, Context, hand_of, id_at}
use Rattle.k_board.specs.Facts.{AllSay}
use Rattle.k_board.specs.Places.{facts_destroy}
use Rattle.k_board.specs.Steps.{Answers, Holds, destroy_board, destroy_context, destroy_number, destroy_queues}
use Rattle.k_board.proofs.Cases.{if_cases}
use Rattle.k_board.proofs.DestroyPlaces.{receiving_is}
use Rattle.k_queues.specs.Tasks.{Comes, Idle, IsAhead, IsEmptied, IsFreed, IsToVisit}
use Rattle.k_queues.specs.Tasks.{Task, Visits, task_at, task_destroy, task_of}
use Rattle.k_queues.specs.Queues.{QueuesHold}
use Rattle.k_queues.proofs.Lists.{left}
use Rattle.k_queues.proofs.Entries.{left_entry, of_number, sends_once, sends_state, stays_entry, true_false, without_first}
use Rattle.k_queues.proofs.StepKinds.{IsPlain, Move, empties, frees, goes_on, kills, stays, visits}
use Rattle.k_queues.proofs.Quiet.{SameWait, same_wait}
use Rattle.k_queues.proofs.Steps.{waits_parts}
use Rattle.k_queues.proofs.Tasks.{TaskSays, unlocked_idle}
use Rattle.k_queues.proofs.Words.{IsQuietAsk, after_idle, calm_wait, is_calm, lost_won, both_mine, both_sides}
use Rattle.k_queues.proofs.Words.{plain_if, plain_none, sides, task_mine, unwritten_word, words_quiet, written_word}

-- WHERE AN ANSWER LEADS

module _ (c : DestroyCall) (q : List SenderEntry) where
  abbrev first_task : Task
  first_task = task_destroy c (destroy.Victim (free_first q))

free_visits : (c : DestroyCall) (q : List SenderEntry) (id : ThreadId) (t : ℕ) → IsAhead c 0 id t →
    IsToVisit (first_task c q) id t
free_visits c [] id t a = a
free_visits c (e ∷ q) id t a = a

free_empties : (c : DestroyCall) (q : List SenderEntry) (n : ℕ) (e : SenderEntry) → entry_of n q ≡ Some e →
    IsEmptied (first_task c q) c.who
free_empties c [] n e h = absurd cc
free_empties c (f ∷ q) n e h = refl

free_frees : (c : DestroyCall) (q : List SenderEntry) (t n : ℕ) → IsFreed (first_task c q) t n → ⊥
free_frees c [] t n k = k
free_frees c (e ∷ q) t n k = k

free_comes : (c : DestroyCall) (q : List SenderEntry) (r : ThreadId) → first_task c q ≡ Comes r → ⊥
free_comes c [] r k = cc
free_comes c (e ∷ q) r k = cc

from_zero : (t : ℕ) → 0 ≤ t
from_zero t = omega arith

-- a number that is ahead is visited
but_ahead : (n v t : ℕ) → n ≤ t → t ≢ v → (if n == v then n + 1 else n) ≤ t
but_ahead n v t l ne = elim (eqb_tells n v) [ inl e ↦ rw e.0 (next e.1) | inr e ↦ rw e.0 l ]
  where
    next : n ≡ v → n + 1 ≤ t
    next e = grind (arith, nat_tests)

abbrev visit_task : DestroyCall → ℕ → Task
visit_task c n = task_destroy c (destroy.Locked (visit_from c n))

from_visits : (c : DestroyCall) (n : ℕ) (id : ThreadId) (t : ℕ) → IsAhead c n id t → IsToVisit (visit_task c n) id t
from_visits c n id t a =
    if_cases (λ (p : DestroyLocked). IsToVisit (task_destroy c (destroy.Locked p)) id t) (nat_lt (but_victim c n) c.count)
    (destroy_locked.AcquireVisitedLock (but_victim c n)) (destroy_locked.Release destroy_release.Killed)
    (λ e. record { who = a.who; other = a.other; inside = a.inside; ahead = but_ahead n c.who.number t a.ahead a.other })
    (λ e. absurd (past (but_victim c n) (but_ahead n c.who.number t a.ahead a.other) e))
  where
    past : (m : ℕ) → m ≤ t → nat_lt m c.count ≡ false → ⊥
    past m l e = let inside = a.inside in grind (arith, nat_tests)

from_frees : (c : DestroyCall) (n t m : ℕ) → IsFreed (visit_task c n) t m → ⊥
from_frees c n t m =
    if_cases (λ (p : DestroyLocked). IsFreed (task_destroy c (destroy.Locked p)) t m → ⊥) (nat_lt (but_victim c n) c.count)
    (destroy_locked.AcquireVisitedLock (but_victim c n)) (destroy_locked.Release destroy_release.Killed) (λ e k. k) (λ e k. k)

from_comes : (c : DestroyCall) (n : ℕ) (r : ThreadId) → visit_task c n ≡ Comes r → ⊥
from_comes c n r =
    if_cases (λ (p : DestroyLocked). task_destroy c (destroy.Locked p) ≡ Comes r → ⊥) (nat_lt (but_victim c n) c.count)
    (destroy_locked.AcquireVisitedLock (but_victim c n)) (destroy_locked.Release destroy_release.Killed) (λ e k. cc) (λ e k. cc)

-- A QUEUE WITHOUT THE VICTIM'S ENTRY

module _ (who : ThreadId) (q : List SenderEntry) (once : IsOnceEach q)
    (spelled : (n : ℕ) (e : SenderEntry) → entry_of n q ≡ Some e → IsEntry e) (number : who.number < 64)
    (version : who.version < 2 ^ 20) where
  named : thread_of (who_of who) ≡ who
  named = thread_named who number version

  -- the victim's own entry, if there is one
  sends_of : (n : ℕ) (e : SenderEntry) → entry_of n q ≡ Some e → sender_of e ≡ who → sends (who_of who) q ≡ true
  sends_of n e h s =
      let at : entry_of (thread_of (who_of who)).number q ≡ Some e =
      ap (λ (k : ℕ). entry_of k q) (ap (λ (id : ThreadId). id.number) (named ∙ sym s) ∙ of_number n q e h) ∙ h in
      let same : e.who ≡ who_of who = (sender_same e who (spelled n e h) number version).1 s in
      sym (sends_is (who_of who) q once) ∙ ap (is_of (who_of who)) at ∙ eq-eqb e.who (who_of who) same

  sent_by : (e : SenderEntry) → entry_of who.number q ≡ Some e → sends (who_of who) q ≡ true → sender_of e ≡ who
  sent_by e h s =
      let at : entry_of (thread_of (who_of who)).number q ≡ Some e =
      ap (λ (k : ℕ). entry_of k q) (ap (λ (id : ThreadId). id.number) named) ∙ h in
      (sender_same e who (spelled who.number e h) number version).0
      (eqb-true e.who (who_of who) (ap (is_of (who_of who)) (sym at) ∙ sends_is (who_of who) q once ∙ s))

  taken_out : sends (who_of who) q ≡ true → without_thread (who_of who) q ≡ without who.number q
  taken_out s = without_sender (who_of who) q once s ∙ ap (λ (id : ThreadId). without id.number q) named

  pub victim_cut : (without_thread (who_of who) q ≡ q) ⊎ (without_thread (who_of who) q ≡ without who.number q)
  victim_cut =
      elim (cases_Bool (sends (who_of who) q)) [ inl s ↦ inr (taken_out s) | inr s ↦ inl (without_nobody (who_of who) q s) ]

  pub victim_once : IsOnceEach (without_thread (who_of who) q)
  victim_once = elim (cases_Bool (sends (who_of who) q)) [
    | inl s ↦ subst IsOnceEach (sym (taken_out s)) (once_without number_of who.number q once)
    | inr s ↦ subst IsOnceEach (sym (without_nobody (who_of who) q s)) once
  ]

  pub victim_left : (n : ℕ) (e : SenderEntry) → entry_of n (without_thread (who_of who) q) ≡ Some e →
      (entry_of n q ≡ Some e) × (sender_of e ≢ who)
  victim_left n e h = elim (cases_Bool (sends (who_of who) q)) [
    | inl s ↦
        let l = left_entry n who.number q e once (ap (entry_of n) (sym (taken_out s)) ∙ h) in
        (l.0, λ z. l.1 (sym (of_number n q e l.0) ∙ ap (λ (id : ThreadId). id.number) z))
    | inr s ↦ let l = ap (entry_of n) (sym (without_nobody (who_of who) q s)) ∙ h in (l, λ z. true_false (sends_of n e l z) s)
  ]

  pub victim_keep : (n : ℕ) (e : SenderEntry) → entry_of n q ≡ Some e → sender_of e ≢ who →
      entry_of n (without_thread (who_of who) q) ≡ Some e
  victim_keep n e h ne = elim (cases_Bool (sends (who_of who) q)) [
    | inl s ↦
        ap (entry_of n) (taken_out s) ∙ stays_entry n who.number q e once h
        (λ z. ne (sent_by e (subst (λ (k : ℕ). entry_of k q ≡ Some e) z h) s))
    | inr s ↦ ap (entry_of n) (without_nobody (who_of who) q s) ∙ h
  ]

-- THE STEPS

module _ (g : Programs) (b : Board) (i : ℕ) (h : QueuesHold b) (says : (n : ℕ) → TaskSays b n (task_of b n))
    (c : DestroyCall) (range : IsInRange b.size c.who) (count : c.count ≡ b.size) where
  abbrev point_at : DestroyAt → Response → Option Point
  point_at p r = destroy.points c (b.seen i).word (hand_of b (b.queue (destroy_number c p))) p r

  abbrev Kept : DestroyAt → Response → Type 0
  Kept p r = Move b (destroy_board g b i (b.context i) c p r) i (point_at p r)

  abbrev moved : DestroyAt → Response → Context
  moved p r = destroy_context (b.context i) c p r (hand_of b (b.queue (destroy_number c p)))

  -- a step that changes neither queues nor who waits
  quiet : (p : DestroyAt) (r : Response) → (b.context i).at ≡ InDestroy c p →
      Answers b (destroy.ask_of c (b.context i).own p) r → ((to : ThreadId) → task_destroy c p ≡ Comes to → ⊥) →
      (r ≡ asks.Won → IsQuietAsk (destroy.ask_of c (b.context i).own p)) →
      ((t : ℕ) → destroy_queues c p r b.queue t ≡ b.queue t) →
      ((n : ℕ) → (destroy_board g b i (b.context i) c p r).context n ≡ upd b.context i (moved p r) n) →
      task_at (moved p r).at ≡ task_destroy c p → IsPlain (point_at p r) → Kept p r
  quiet p r at an none q same one k pl =
      let b' = destroy_board g b i (b.context i) c p r in
      stays (sides b b' i (moved p r) one) (task_mine b b' i (moved p r) one ∙ k ∙ sym (ap task_at at))
      (λ to e. none to (sym (ap task_at at) ∙ e)) same
      (words_quiet g b (b.context i).position (point_at p r) (destroy.ask_of c (b.context i).own p) r an q) pl

  gone_id : (is_dead (b.seen c.who.number).word ≡ true) → ((b.seen c.who.number).word.version ≡ c.who.version) →
      id_at b c.who.number ≡ c.who
  gone_id d v = ap (λ (k : ℕ). record { number = c.who.number; version = k }) v

  -- the victim is killed
  kills_now : (seen : StateWord) → (b.context i).at ≡ InDestroy c (destroy.Victim (victim.CommitKill seen)) →
      (b.seen c.who.number).word ≡ seen → AllSay g b i (b.context i) (facts_destroy c (destroy.Victim (victim.CommitKill seen))) →
      Kept (destroy.Victim (victim.CommitKill seen)) asks.Won
  kills_now seen at won f =
      kills c (sides b b' i x (λ n. refl)) (ap task_at at) f.1.0 f.1.1.0
      (ap (λ (k : ℕ). record { number = c.who.number; version = k }) was) (λ t. refl)
      (λ n ne. unwritten_word g b (b.context i).position point c.who.number seen (dead_word c.who.version) n ne)
      (ap (λ (w : StateWord). w.version) new ∙ sym was) (ap is_dead new)
      (λ t ne l. subst (λ (k : Task). IsToVisit k c.who t) (sym mine)
      (free_visits c q c.who t record {
        who = refl;
        other = ne;
        inside = subst (λ (k : ℕ). t < k) (sym count) l;
        ahead = from_zero t;
      }))
      (λ n e k. subst (λ (u : Task). IsEmptied u c.who) (sym mine) (free_empties c q n e k))
      (λ t n k. free_frees c q t n (subst (λ (u : Task). IsFreed u t n) mine k))
      (λ r k. free_comes c q r (sym mine ∙ k))
      (λ k. at_victim k c.who.number refl) (λ k t ne. at_other k t ne)
    where
      b' : Board
      b' = destroy_board g b i (b.context i) c (destroy.Victim (victim.CommitKill seen)) asks.Won

      x : Context
      x = moved (destroy.Victim (victim.CommitKill seen)) asks.Won

      q : List SenderEntry
      q = b.queue c.who.number

      point : Option Point
      point = point_at (destroy.Victim (victim.CommitKill seen)) asks.Won

      mine : task_of b' i ≡ first_task c q
      mine = task_mine b b' i x (λ n. refl)

      was : (b.seen c.who.number).word.version ≡ c.who.version
      was =
          ap (λ (w : StateWord). w.version) won ∙ eqb-true seen.version c.who.version
          (and_parts (eqb seen.version c.who.version) (not (is_dead seen)) f.1.1.1.1.1.1.1.0).0

      at_victim : (k : ℕ → List SenderEntry) (t : ℕ) → t ≡ c.who.number →
          (if t == c.who.number then [] else left c.who (k t)) ≡ []
      at_victim k t e = rw (eq-eqb t c.who.number e) refl

      at_other : (k : ℕ → List SenderEntry) (t : ℕ) → t ≢ c.who.number →
          (if t == c.who.number then [] else left c.who (k t)) ≡ left c.who (k t)
      at_other k t ne = elim (eqb_tells t c.who.number) [ inl e ↦ absurd (ne e.1) | inr e ↦ rw e.0 refl ]

      new : (b'.seen c.who.number).word ≡ dead_word c.who.version
      new = written_word g b (b.context i).position point c.who.number seen (dead_word c.who.version)

  -- a sender is freed
  module _ (n : ℕ) (w : StateWord) (at : (b.context i).at ≡ InDestroy c (destroy.Victim (victim.FreeSender n w)))
      (won : (b.seen n).word ≡ w)
      (f : AllSay g b i (b.context i) (facts_destroy c (destroy.Victim (victim.FreeSender n w)))) where
    abbrev F : Board
    F = destroy_board g b i (b.context i) c (destroy.Victim (victim.FreeSender n w)) asks.Won

    abbrev X : Context
    X = moved (destroy.Victim (victim.FreeSender n w)) asks.Won

    abbrev Q : List SenderEntry
    Q = b.queue c.who.number

    waits : sends_to c.who w.state ≡ true
    waits = let front = f.1.1.1.1.1.1.1.1.1.1.0.1 in (waits_parts c.who front.entry w front.waits).1

    waited : sends_to c.who (b.seen n).word.state ≡ true
    waited = ap (λ (u : StateWord). sends_to c.who u.state) won ∙ waits

    lives : is_dead w ≡ false
    lives = let s = sends_state c.who w.state waits in subst (λ (u : State). is_dead_state u ≡ false) (sym s.1) refl

    new : (F.seen n).word ≡ freed_word w
    new = written_word g b (b.context i).position (point_at (destroy.Victim (victim.FreeSender n w)) asks.Won) n w (freed_word w)

    unchanged : (t : ℕ) → t ≢ n → SameWait (b.seen t).word (F.seen t).word
    unchanged t ne =
        unwritten_word g b (b.context i).position (point_at (destroy.Victim (victim.FreeSender n w)) asks.Won) n w
        (freed_word w) t ne

    version : (F.seen n).word.version ≡ (b.seen n).word.version
    version = ap (λ (u : StateWord). u.version) new ∙ ap (λ (u : StateWord). u.version) (sym won)

    dead : is_dead (F.seen n).word ≡ is_dead (b.seen n).word
    dead = ap is_dead new ∙ sym (ap is_dead won ∙ lives)

    none : (r : ThreadId) → sends_to r (F.seen n).word.state ≡ false
    none r = ap (λ (u : StateWord). sends_to r u.state) new

    by_n : (t : ℕ) → (t ≡ n) ⊎ (t ≢ n)
    by_n t = elim (eqb_tells t n) [ inl e ↦ inl e.1 | inr e ↦ inr e.1 ]

    victim_is : id_at b c.who.number ≡ c.who
    victim_is = gone_id f.0.1 f.0.2

    frees_off : w.on ≡ false → Kept (destroy.Victim (victim.FreeSender n w)) asks.Won
    frees_off off =
        frees c n (sides b F i X (λ t. refl)) (ap task_at at)
        (task_mine b F i X (λ t. refl) ∙ ap (λ (a : Bool). task_destroy c
        (destroy.Victim (if a then free_first (rest Q) else victim.AcquireReadyForSender n w))) off)
        (λ t. ap (λ (a : Bool). (if a then upd b.queue c.who.number (rest Q) else b.queue) t) off)
        victim_is f.0.1 waited unchanged version dead none (λ k. refl)

    frees_on : w.on ≡ true → Kept (destroy.Victim (victim.FreeSender n w)) asks.Won
    frees_on on =
        empties c None n (sides b F i X (λ t. refl)) (ap task_at at) f.0.1 (λ t m k. absurd k)
        (λ id t a. subst (λ (k : Task). IsToVisit k id t) (sym mine) (free_visits c (rest Q) id t a))
        (λ m e k. subst (λ (u : Task). IsEmptied u c.who) (sym mine)
        (free_empties c (rest Q) m e (ap (entry_of m) (sym here) ∙ k)))
        (λ t m k. free_frees c (rest Q) t m (subst (λ (u : Task). IsFreed u t m) mine k))
        (λ r k. free_comes c (rest Q) r (sym mine ∙ k))
        f.1.1.1.1.1.1.1.0 victim_is
        (here ∙ sym (without_first n Q f.1.1.1.1.1.1.1.1.1.0.1))
        (λ t ne. ap (λ (a : Bool). (if a then upd b.queue c.who.number (rest Q) else b.queue) t) on
        ∙ upd_other b.queue c.who.number (rest Q) t ne)
        (λ t. elim (by_n t) [
          | inl e ↦ subst (λ (k : ℕ). (F.seen k).word.version ≡ (b.seen k).word.version) (sym e) version
          | inr e ↦ (unchanged t e).version
        ])
        (λ t. elim (by_n t) [
          | inl e ↦ subst (λ (k : ℕ). is_dead (F.seen k).word ≡ is_dead (b.seen k).word) (sym e) dead
          | inr e ↦ (unchanged t e).dead
        ])
        unchanged
        (λ r ne. none r ∙ sym (not_other r ne))
        (none c.who) (λ k. refl)
      where
        mine : task_of F i ≡ first_task c (rest Q)
        mine =
            task_mine b F i X (λ t. refl) ∙ ap (λ (a : Bool). task_destroy c
            (destroy.Victim (if a then free_first (rest Q) else victim.AcquireReadyForSender n w))) on

        here : F.queue c.who.number ≡ rest Q
        here =
            ap (λ (a : Bool). (if a then upd b.queue c.who.number (rest Q) else b.queue) c.who.number) on
            ∙ upd_same b.queue c.who.number (rest Q)

        not_other : (r : ThreadId) → r ≢ c.who → sends_to r (b.seen n).word.state ≡ false
        not_other r ne =
            elim (cases_Bool (sends_to r (b.seen n).word.state)) [
              | inl y ↦
                  absurd (ne (sends_once r c.who (b.seen n).word.state y waited))
              | inr y ↦ y
            ]

    frees_now : Kept (destroy.Victim (victim.FreeSender n w)) asks.Won
    frees_now = elim (cases_Bool w.on) [ inl e ↦ frees_on e | inr e ↦ frees_off e ]

  -- the sender that was freed is pushed
  pushes_now : (n : ℕ) (w : StateWord) → (b.context i).at ≡ InDestroy c (destroy.Pushing (destroy_pushing.PushSender n w)) →
      AllSay g b i (b.context i) (facts_destroy c (destroy.Pushing (destroy_pushing.PushSender n w))) →
      Kept (destroy.Pushing (destroy_pushing.PushSender n w)) asks.Released
  pushes_now n w at f =
      empties c (Some n) n (sides b b' i x (λ t. refl)) (ap task_at at) f.0.1 (λ t m k. k)
      (λ id t a. subst (λ (k : Task). IsToVisit k id t) (sym mine) (free_visits c (rest q) id t a))
      (λ m e k. subst (λ (u : Task). IsEmptied u c.who) (sym mine) (free_empties c (rest q) m e (ap (entry_of m) (sym here) ∙ k)))
      (λ t m k. free_frees c (rest q) t m (subst (λ (u : Task). IsFreed u t m) mine k))
      (λ r k. free_comes c (rest q) r (sym mine ∙ k))
      f.1.1.1.1.1.1.1.0 victim_is
      (here ∙ sym (without_first n q f.1.1.1.1.1.1.1.1.1.0.1))
      (λ t ne. upd_other b.queue c.who.number (rest q) t ne)
      (λ t. (words t).version) (λ t. (words t).dead) (λ t ne. words t)
      (λ r ne. (words n).sends r)
      ((words n).sends c.who ∙ subst (λ (id : ThreadId). sends_to id (b.seen n).word.state ≡ false) victim_is
      (h.freed i c.who.number n (subst (λ (k : Task). IsFreed k c.who.number n) (sym (ap task_at at))
      (refl, refl)))) plain_none
    where
      p : DestroyAt
      p = destroy.Pushing (destroy_pushing.PushSender n w)

      b' : Board
      b' = destroy_board g b i (b.context i) c (destroy.Pushing (destroy_pushing.PushSender n w)) asks.Released

      x : Context
      x = moved (destroy.Pushing (destroy_pushing.PushSender n w)) asks.Released

      q : List SenderEntry
      q = b.queue c.who.number

      mine : task_of b' i ≡ first_task c (rest q)
      mine = task_mine b b' i x (λ t. refl)

      here : b'.queue c.who.number ≡ rest q
      here = upd_same b.queue c.who.number (rest q)

      words : (t : ℕ) → SameWait (b.seen t).word (b'.seen t).word
      words t = same_wait (b.seen t).word (b'.seen t).word refl

      victim_is : id_at b c.who.number ≡ c.who
      victim_is = gone_id f.0.1 f.0.2

  -- the victim's context is removed, and the visits begin
  removes_now : (b.context i).at ≡ InDestroy c (destroy.Locked destroy_locked.RemoveContext) → Holds b c.who.number →
      Kept (destroy.Locked destroy_locked.RemoveContext) asks.Removed
  removes_now at none =
      goes_on c 0 (both_sides b b' i x c.who.number y (λ n. refl) refl
      (unlocked_idle b c.who.number (task_of b c.who.number) (says c.who.number) none)) (ap task_at at)
      (λ id t a. subst (λ (k : Task). IsToVisit k id t) (sym mine) (from_visits c 0 id t a))
      (λ t m k. from_frees c 0 t m (subst (λ (u : Task). IsFreed u t m) mine k))
      (λ r k. from_comes c 0 r (sym mine ∙ k))
      (λ t. same_wait (b.seen t).word (b'.seen t).word refl) (λ t. refl) plain_none
    where
      p : DestroyAt
      p = destroy.Locked destroy_locked.RemoveContext

      b' : Board
      b' = destroy_board g b i (b.context i) c (destroy.Locked destroy_locked.RemoveContext) asks.Removed

      x : Context
      x = moved (destroy.Locked destroy_locked.RemoveContext) asks.Removed

      y : Context
      y = record (b.context c.who.number) { at = Nowhere }

      mine : task_of b' i ≡ visit_task c 0
      mine = both_mine b b' i x c.who.number y (λ n. refl)

  -- a visit is over
  visits_now : (m : ℕ) → (b.context i).at ≡ InDestroy c (destroy.Visit (visit.ReleaseVisitedLock m)) →
      AllSay g b i (b.context i) (facts_destroy c (destroy.Visit (visit.ReleaseVisitedLock m))) →
      Kept (destroy.Visit (visit.ReleaseVisitedLock m)) asks.Released
  visits_now m at f =
      visits c m (sides b b' i x (λ t. refl)) (ap task_at at)
      (λ id t a ne. subst (λ (k : Task). IsToVisit k id t) (sym mine)
      (from_visits c (m + 1) id t record { who = a.who; other = a.other; inside = a.inside; ahead = after m t a.ahead ne }))
      (λ t n k. from_frees c (m + 1) t n (subst (λ (u : Task). IsFreed u t n) mine k))
      (λ r k. from_comes c (m + 1) r (sym mine ∙ k))
      f.1.1.1.1.1.1.1.1.1.0 f.0.1
      (λ t. same_wait (b.seen t).word (b'.seen t).word refl)
      (λ t ne. upd_other b.queue m (without_thread (who_of c.who) q) t ne)
      (subst IsOnceEach (sym here) (victim_once c.who q (h.once m) spelled number version))
      (λ n e k. victim_left c.who q (h.once m) spelled number version n e (ap (entry_of n) (sym here) ∙ k))
      (λ n e k ne. ap (entry_of n) here ∙ victim_keep c.who q (h.once m) spelled number version n e k ne)
      (elim (victim_cut c.who q (h.once m) spelled number version) [ inl e ↦ inl (here ∙ e) | inr e ↦ inr (here ∙ e) ]) plain_none
    where
      p : DestroyAt
      p = destroy.Visit (visit.ReleaseVisitedLock m)

      b' : Board
      b' = destroy_board g b i (b.context i) c (destroy.Visit (visit.ReleaseVisitedLock m)) asks.Released

      x : Context
      x = moved (destroy.Visit (visit.ReleaseVisitedLock m)) asks.Released

      q : List SenderEntry
      q = b.queue m

      mine : task_of b' i ≡ visit_task c (m + 1)
      mine = task_mine b b' i x (λ t. refl)

      here : b'.queue m ≡ without_thread (who_of c.who) q
      here = upd_same b.queue m (without_thread (who_of c.who) q)

      after : (k t : ℕ) → k ≤ t → t ≢ k → k + 1 ≤ t
      after k t l ne = grind (arith, nat_tests)

      spelled : (n : ℕ) (e : SenderEntry) → entry_of n q ≡ Some e → IsEntry e
      spelled n e k = (h.senders m n e k).spelled

      number : c.who.number < 64
      number = less c.who.number b.size range.number h.size
        where
          less : (n k : ℕ) → n < k → k ≤ 64 → n < 64
          less n k l z = omega (arith, l, z)

      version : c.who.version < 2 ^ 20
      version = less c.who.version range.last
        where
          less : (n : ℕ) → n ≤ 1048575 → n < 2 ^ 20
          less n l = omega (arith, l)

  load_idle : (w : StateWord) →
      task_destroy c
      (destroy.Locked (if is_dead w then destroy_locked.Release destroy_release.Dead else destroy_locked.AcquireVictimLock)) ≡
      Idle
  load_idle w =
      if_cases (λ (p : DestroyLocked). task_destroy c (destroy.Locked p) ≡ Idle) (is_dead w)
      (destroy_locked.Release destroy_release.Dead) destroy_locked.AcquireVictimLock (λ e. refl) (λ e. refl)

  victim_idle : (w : StateWord) → task_destroy c (destroy.Victim (destroy.after_victim c w)) ≡ Idle
  victim_idle w =
      if_cases (λ (p : DestroyVictim). task_destroy c (destroy.Victim p) ≡ Idle) (is_present_in w c.who) (victim.CommitKill w)
      (victim.ReleaseVictimLockAbsent (found_in c.who.number w)) (λ e. refl) (λ e. refl)

  visited_stays : (n : ℕ) (w : StateWord) → task_destroy c (destroy.Visit (destroy.after_visited c n w)) ≡ Visits c n
  visited_stays n w =
      if_cases (λ (p : DestroyVisit). task_destroy c (destroy.Visit p) ≡ Visits c n) (is_receiving_from c.who w.state)
      (visit.FreeVisited n w) (visit.ReleaseVisitedLock n) (λ e. refl) (λ e. refl)

  freed_stays : (n : ℕ) (w : StateWord) →
      task_destroy c (destroy.Visit (if w.on then visit.ReleaseVisitedLock n else visit.AcquireReadyForVisited n w)) ≡ Visits c n
  freed_stays n w =
      if_cases (λ (p : DestroyVisit). task_destroy c (destroy.Visit p) ≡ Visits c n) w.on (visit.ReleaseVisitedLock n)
      (visit.AcquireReadyForVisited n w) (λ e. refl) (λ e. refl)

  pub destroy_moves : (p : DestroyAt) (r : Response) → (b.context i).at ≡ InDestroy c p →
      Answers b (destroy.ask_of c (b.context i).own p) r → AllSay g b i (b.context i) (facts_destroy c p) → Kept p r
  destroy_moves (destroy.Outside destroy_outside.LoadOwn) (asks.Word w) at an f =
      quiet (destroy.Outside destroy_outside.LoadOwn) (asks.Word w) at an (λ to e. cc) (λ z. tt) (λ t. refl) (λ n. refl)
      (after_idle c.caller _) (plain_if (is_dead w) None _ plain_none (λ k. refl))
  destroy_moves (destroy.Outside destroy_outside.AcquireTable) asks.Got at an f =
      quiet (destroy.Outside destroy_outside.AcquireTable) asks.Got at an (λ to e. cc) (λ z. tt) (λ t. refl)
      (λ n. refl) refl plain_none
  destroy_moves (destroy.Outside destroy_outside.AcquireTable) (asks.Owned o) at an f =
      quiet (destroy.Outside destroy_outside.AcquireTable) (asks.Owned o) at an (λ to e. cc) (λ z. tt) (λ t. refl)
      (λ n. refl) refl plain_none
  destroy_moves (destroy.Locked destroy_locked.LoadCaller) (asks.Word w) at an f =
      quiet (destroy.Locked destroy_locked.LoadCaller) (asks.Word w) at an (λ to e. cc) (λ z. tt) (λ t. refl) (λ n. refl)
      (load_idle w) plain_none
  destroy_moves (destroy.Locked destroy_locked.AcquireVictimLock) asks.Got at an f =
      quiet (destroy.Locked destroy_locked.AcquireVictimLock) asks.Got at an (λ to e. cc) (λ z. tt) (λ t. refl)
      (λ n. refl) refl plain_none
  destroy_moves (destroy.Locked destroy_locked.AcquireVictimLock) (asks.Owned o) at an f =
      quiet (destroy.Locked destroy_locked.AcquireVictimLock) (asks.Owned o) at an (λ to e. cc) (λ z. tt) (λ t. refl)
      (λ n. refl) refl plain_none
  destroy_moves (destroy.Victim victim.LoadVictim) (asks.Word w) at an f =
      quiet (destroy.Victim victim.LoadVictim) (asks.Word w) at an (λ to e. cc) (λ z. tt) (λ t. refl) (λ n. refl) (victim_idle w)
      (plain_if (is_present_in w c.who) None _ plain_none (λ k. refl))
  destroy_moves (destroy.Victim (victim.CommitKill w)) asks.Won at an f = kills_now w at an f
  destroy_moves (destroy.Victim (victim.CommitKill w)) (asks.Lost v) at an f =
      quiet (destroy.Victim (victim.CommitKill w)) (asks.Lost v) at an (λ to e. cc) (λ z. absurd (lost_won z)) (λ t. refl)
      (λ n. refl) refl plain_none
  destroy_moves (destroy.Victim (victim.LoadSender n)) (asks.Word w) at an f =
      quiet (destroy.Victim (victim.LoadSender n)) (asks.Word w) at an (λ to e. cc) (λ z. tt) (λ t. refl)
      (λ n. refl) refl plain_none
  destroy_moves (destroy.Victim (victim.FreeSender n w)) asks.Won at an f = frees_now n w at an f
  destroy_moves (destroy.Victim (victim.FreeSender n w)) (asks.Lost v) at an f =
      quiet (destroy.Victim (victim.FreeSender n w)) (asks.Lost v) at an (λ to e. cc) (λ z. absurd (lost_won z)) (λ t. refl)
      (λ n. refl) refl plain_none
  destroy_moves (destroy.Victim (victim.AcquireReadyForSender n w)) asks.Got at an f =
      quiet (destroy.Victim (victim.AcquireReadyForSender n w)) asks.Got at an (λ to e. cc) (λ z. tt) (λ t. refl)
      (λ n. refl) refl plain_none
  destroy_moves (destroy.Victim (victim.AcquireReadyForSender n w)) (asks.Owned o) at an f =
      quiet (destroy.Victim (victim.AcquireReadyForSender n w)) (asks.Owned o) at an (λ to e. cc) (λ z. tt) (λ t. refl)
      (λ n. refl) refl plain_none
  destroy_moves (destroy.Pushing (destroy_pushing.PushSender n w)) asks.Released at an f = pushes_now n w at f
  destroy_moves (destroy.Victim victim.ReleaseVictimLock) asks.Released at an f =
      quiet (destroy.Victim victim.ReleaseVictimLock) asks.Released at an (λ to e. cc) (λ z. tt) (λ t. refl)
      (λ n. refl) refl plain_none
  destroy_moves (destroy.Locked destroy_locked.AcquireReadyForVictim) asks.Got at an f =
      quiet (destroy.Locked destroy_locked.AcquireReadyForVictim) asks.Got at an (λ to e. cc) (λ z. tt) (λ t. refl)
      (λ n. refl) refl plain_none
  destroy_moves (destroy.Locked destroy_locked.AcquireReadyForVictim) (asks.Owned o) at an f =
      quiet (destroy.Locked destroy_locked.AcquireReadyForVictim) (asks.Owned o) at an (λ to e. cc) (λ z. tt) (λ t. refl)
      (λ n. refl) refl plain_none
  destroy_moves destroy.UnlistVictim asks.Released at an f =
      quiet destroy.UnlistVictim asks.Released at an (λ to e. cc) (λ z. tt) (λ t. refl) (λ n. refl) refl plain_none
  destroy_moves (destroy.Locked destroy_locked.RemoveContext) asks.Removed at an f = removes_now at an
  destroy_moves (destroy.Locked destroy_locked.RemoveContext) asks.Kept at an f =
      quiet (destroy.Locked destroy_locked.RemoveContext) asks.Kept at an (λ to e. cc) (λ z. tt) (λ t. refl)
      (λ n. refl) refl plain_none
  destroy_moves (destroy.Locked (destroy_locked.AcquireVisitedLock n)) asks.Got at an f =
      quiet (destroy.Locked (destroy_locked.AcquireVisitedLock n)) asks.Got at an (λ to e. cc) (λ z. tt) (λ t. refl)
      (λ n. refl) refl plain_none
  destroy_moves (destroy.Locked (destroy_locked.AcquireVisitedLock n)) (asks.Owned o) at an f =
      quiet (destroy.Locked (destroy_locked.AcquireVisitedLock n)) (asks.Owned o) at an (λ to e. cc) (λ z. tt) (λ t. refl)
      (λ n. refl) refl plain_none
  destroy_moves (destroy.Visit (visit.LoadVisited n)) (asks.Word w) at an f =
      quiet (destroy.Visit (visit.LoadVisited n)) (asks.Word w) at an (λ to e. cc) (λ z. tt) (λ t. refl) (λ n. refl)
      (visited_stays n w) plain_none
  destroy_moves (destroy.Visit (visit.FreeVisited n w)) asks.Won at an f =
      quiet (destroy.Visit (visit.FreeVisited n w)) asks.Won at an (λ to e. cc)
      (λ z. calm_wait w (freed_word w) refl (ap is_calm (receiving_is c.who w.state f.1.1.1.1.1.1.1.1.1.1.0.1)) refl) (λ t. refl)
      (λ n. refl) (freed_stays n w) (λ k. refl)
  destroy_moves (destroy.Visit (visit.FreeVisited n w)) (asks.Lost v) at an f =
      quiet (destroy.Visit (visit.FreeVisited n w)) (asks.Lost v) at an (λ to e. cc) (λ z. absurd (lost_won z)) (λ t. refl)
      (λ n. refl) refl plain_none
  destroy_moves (destroy.Visit (visit.AcquireReadyForVisited n w)) asks.Got at an f =
      quiet (destroy.Visit (visit.AcquireReadyForVisited n w)) asks.Got at an (λ to e. cc) (λ z. tt) (λ t. refl)
      (λ n. refl) refl plain_none
  destroy_moves (destroy.Visit (visit.AcquireReadyForVisited n w)) (asks.Owned o) at an f =
      quiet (destroy.Visit (visit.AcquireReadyForVisited n w)) (asks.Owned o) at an (λ to e. cc) (λ z. tt) (λ t. refl)
      (λ n. refl) refl plain_none
  destroy_moves (destroy.Pushing (destroy_pushing.PushVisited n w)) asks.Released at an f =
      quiet (destroy.Pushing (destroy_pushing.PushVisited n w)) asks.Released at an (λ to e. cc) (λ z. tt) (λ t. refl)
      (λ n. refl) refl plain_none
  destroy_moves (destroy.Visit (visit.ReleaseVisitedLock n)) asks.Released at an f = visits_now n at f
  destroy_moves (destroy.Locked (destroy_locked.Release destroy_release.Killed)) asks.Released at an f =
      quiet (destroy.Locked (destroy_locked.Release destroy_release.Killed)) asks.Released at an (λ to e. cc) (λ z. tt)
      (λ t. refl) (λ n. refl) refl plain_none
  destroy_moves (destroy.Victim (victim.ReleaseVictimLockAbsent a)) asks.Released at an f =
      quiet (destroy.Victim (victim.ReleaseVictimLockAbsent a)) asks.Released at an (λ to e. cc) (λ z. tt) (λ t. refl)
      (λ n. refl) refl plain_none
  destroy_moves (destroy.Locked (destroy_locked.Release (destroy_release.Absent a))) asks.Released at an f =
      quiet (destroy.Locked (destroy_locked.Release (destroy_release.Absent a))) asks.Released at an (λ to e. cc) (λ z. tt)
      (λ t. refl) (λ n. refl) refl plain_none
  destroy_moves (destroy.Locked (destroy_locked.Release destroy_release.Dead)) asks.Released at an f =
      quiet (destroy.Locked (destroy_locked.Release destroy_release.Dead)) asks.Released at an (λ to e. cc) (λ z. tt) (λ t. refl)
      (λ n. refl) refl plain_none
  destroy_moves (destroy.Outside (destroy_outside.Ended w)) r at an f = absurd f.0
  destroy_moves p r at an f = absurd an
