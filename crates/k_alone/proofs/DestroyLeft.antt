-- What a destroy leaves of words, mails and lists.
use Rattle.std.proofs.Common.{◌≡◌, ◌≢◌, ℕ, suc, ◌≤◌, Bool, true, false, not, ◌&&◌, eqb, List, [], ◌∷◌, ◌++◌, map, length, refl, sym, ap, ◌∙◌, subst, arith, Option, inl, inr}
use Rattle.std.proofs.lemmas.Bool.{false≢true, and_parts, eq-eqb, ne_eqb, cases_Bool, cases_eq, cases_lt, not-true}
use Rattle.std.proofs.lemmas.List.{append-nil, length-map}
use Rattle.std.proofs.Math.Bool.{and-false}
use Rattle.std.specs.List.{AllByRecursion, filter}
use Rattle.k_ids.specs.declared.threads.ThreadId.{ThreadId}
use Rattle.k_ids.specs.declared.threads.Message.{Message}
use Rattle.k_ids.specs.declared.threads.Status.{Status}
use Rattle.k_ids.specs.declared.threads.Status.TheVariants as status
use Rattle.k_ids.specs.declared.calls.Phase.TheVariants as phase
use Rattle.k_ids.specs.declared.calls.Act.TheVariants as act
use Rattle.k_ids.specs.declared.calls.Outcome.TheVariants as outcome
use Rattle.k_ids.specs.declared.calls.Reply.{Reply}
use Rattle.k_ids.specs.declared.calls.Reply.TheVariants as reply
use Rattle.k_ids.specs.declared.histories.Event.{Event}
use Rattle.k_ids.specs.declared.histories.ReplyLine.{ReplyLine}
use Rattle.k_ids.specs.declared.context_word.ContextWord.{ContextWord}
use Rattle.k_ids.specs.declared.context_word.ContextWord.TheVariants.{Empty}
use Rattle.k_ids.specs.declared.state_word.Result4.TheVariants as result4
use Rattle.k_ids.specs.declared.state_word.State.TheVariants as state
use Rattle.k_ids.specs.declared.state_word.StateWord.{StateWord}
use Rattle.k_senders.specs.declared.entries.SenderEntry.{SenderEntry}
use Rattle.k_senders.specs.Queue.{Queue, without_thread}
use Rattle.k_ready.specs.Lists.{list_of}
use Rattle.k_locks.specs.Numbers.{ThreadNumbers}
use Rattle.k_locks.specs.Shown.{shows}
use Rattle.k_ipc.specs.Words.{on_in}
use Rattle.k_threads.specs.declared.destroy.DestroyCall.{DestroyCall}
use Rattle.k_threads.specs.Goods.{unlinked}
use Rattle.k_model.specs.Maps.{upd}
use Rattle.k_model.specs.State.{KernelState, is_dead, is_present, is_run, same_id}
use Rattle.k_lists.proofs.All.{all_filter, all_map, all_weaker, filter_all, filter_same}
use Rattle.k_model.proofs.Maps.{upd_cases}
use Rattle.k_shown.specs.Memory.{Memory, table, waiting, waiting_of, with_numbers}
use Rattle.k_shown.specs.Leaves.{IsWoken, Leaves, mail_with, moved_word, pushed_by, result_with, state_told}
use Rattle.k_shown.specs.Sound.{IsCaller, IsReady, IsSoundMemory}
use Rattle.k_alone.proofs.Gone.{IsGone, at_level, ids_of, is_not}
use Rattle.k_alone.proofs.Killing.{Half}
use Rattle.k_shown.proofs.Left.{Turns, no_other, turned_same, turned_word, woken_turns}
use Rattle.k_alone.proofs.Made.{reply_first}
use Rattle.k_alone.proofs.VisitRuns.{Visited}
use Rattle.k_shown.proofs.Statuses.{same_self}

run_not : (s : Status) → s ≢ status.Run → is_run s ≡ false
run_not status.Dead ne = refl
run_not status.Run ne = absurd (ne refl)
run_not (status.Sending to) ne = refl
run_not (status.Receiving from) ne = refl
run_not status.Picking ne = refl
run_not status.Ended ne = refl

-- QUEUES

unlinked_same : (who : ℕ) (es : List SenderEntry) → length (without_thread who es) ≡ length es → without_thread who es ≡ es
unlinked_same who [] h = refl
unlinked_same who (e ∷ es) h = elim (cases_Bool (eqb e.who who)) [
  | inl y ↦ let all : without_thread who (e ∷ es) ≡ es = rw y refl in
      let short : length es ≡ suc (length es) = sym (ap length all) ∙ h in
      absurd (omega (arith, short))
  | inr y ↦ let all : without_thread who (e ∷ es) ≡ e ∷ without_thread who es = rw y refl in
      let more : suc (length (without_thread who es)) ≡ suc (length es) = sym (ap length all) ∙ h in
      all ∙ ap (λ (xs : List SenderEntry). e ∷ xs) (unlinked_same who es (omega (arith, more)))
]

-- a queue without the victim's entry shows another list, or had none
unlinked_kept : (id : ThreadId) (q : Queue) → waiting (unlinked id q) ≡ waiting q → unlinked id q ≡ q
unlinked_kept id q h =
    let a = length-map (unlinked id q).entries waiting_of in
    let b = length-map q.entries waiting_of in
    let c = ap length h in
    let same = unlinked_same _ q.entries (omega (arith, a, b, c)) in
    λ i. record q { entries = same i }

no_entries : (es : List SenderEntry) → map waiting_of es ≡ [] → es ≡ []
no_entries [] h = refl
no_entries (e ∷ es) h =
    let a = length-map (e ∷ es) waiting_of in
    let b = ap length h in
    absurd (omega (arith, a, b))

-- AT THE END

module _ (c : DestroyCall) (m : Memory) (k : KernelState) (own : StateWord) (serial : ℕ) (good : IsSoundMemory m) (call : IsCaller m c.caller own) (here : is_present (table m) c.who ≡ true) (ne : c.caller.number ≢ c.who.number) (mf : Memory) (kf : KernelState) (h : Half m k c.who c.caller ⊥ (λ t. ⊥) (λ t. c.count ≤ t) mf kf) (v : Visited c m c.count mf) (lines : List ReplyLine) (gone : AllByRecursion (IsGone m c.who c.caller mf) lines) (ns : ThreadNumbers) where
  abbrev left : Memory
  left = with_numbers mf ns

  abbrev event : Event
  event = record { who = c.caller; serial = serial; act = act.Call (phase.Destroy c.who) }

  abbrev killed_line : ReplyLine
  killed_line = record { id = c.caller; serial = serial; reply = reply.Killed }

  -- the victim lived, and is dead
  lived : (n : ℕ) → n ≡ c.who.number → is_dead (shows (m.word n).state) ≡ false
  lived n e = ap (λ (j : ℕ). is_dead (shows (m.word j).state)) e ∙ not-true (is_dead (shows (m.word c.who.number).state)) (and_parts (eqb (m.word c.who.number).version c.who.version) (not (is_dead (shows (m.word c.who.number).state))) here).1

  dead : (n : ℕ) → n ≡ c.who.number → is_dead (shows (mf.word n).state) ≡ true
  dead n e = ap (λ (j : ℕ). is_dead (shows (mf.word j).state)) e ∙ ap (λ (w : StateWord). is_dead (shows w.state)) h.dead

  turns : (n : ℕ) → n ≢ c.who.number → Turns m c.caller n (mf.word n)
  turns n other = elim (h.moved n other) [
    | inl e ↦ inl e
    | inr q ↦ subst (Turns m c.caller n) (sym q.0) (woken_turns m c.caller n (state.Run result4.Gone) n refl (run_not (shows (m.word n).state) q.1.runs) refl)
  ]

  words : (n : ℕ) → is_dead (shows (mf.word n).state) ≡ false → mf.word n ≡ moved_word (mf.word n).state (m.word n)
  words n alive = elim (cases_eq n c.who.number) [
    | inl e ↦ absurd (false≢true (sym alive ∙ dead n e))
    | inr other ↦ turned_word m c.caller n (mf.word n) (turns n other)
  ]

  same : (n : ℕ) → n ≢ c.caller.number → shows (mf.word n).state ≡ shows (m.word n).state → mf.word n ≡ m.word n
  same n mine q = elim (cases_eq n c.who.number) [
    | inl e ↦ absurd (false≢true (sym (lived n e) ∙ sym (ap is_dead q) ∙ dead n e))
    | inr other ↦ turned_same m c.caller n (mf.word n) (turns n other) mine q
  ]

  not_made : (n : ℕ) → is_dead (shows (m.word n).state) ≡ true → is_dead (shows (mf.word n).state) ≡ false → ⊥
  not_made n was lives = elim (cases_eq n c.who.number) [
    | inl e ↦ false≢true (sym lives ∙ dead n e)
    | inr other ↦ false≢true (sym lives ∙ h.alive n other ∙ was)
  ]

  -- the caller runs, and so its word is the same
  caller_same : mf.word c.caller.number ≡ m.word c.caller.number
  caller_same = elim (h.moved c.caller.number ne) [
    | inl e ↦ e
    | inr q ↦ absurd (q.1.runs (ap (λ (w : StateWord). shows w.state) call.word ∙ ap shows call.runs))
  ]

  woken : AllByRecursion (λ line. same_id line.id c.caller ≡ false → IsWoken m left line) (killed_line ∷ lines)
  woken = (
    (λ f. no_other c.caller c.caller refl f),
    all_weaker (IsGone m c.who c.caller mf) (λ line. same_id line.id c.caller ≡ false → IsWoken m left line)
        (λ line g _. record {
          word = g.word ∙ sym (ap (λ (r : Reply). on_in (state.Run (result_with r)) (m.word line.id.number)) g.reply);
          mail = ap (λ (f : ℕ → Message). f line.id.number) h.mails ∙ sym (ap (λ (r : Reply). mail_with r (m.mail line.id.number)) g.reply);
        }) lines gone,
  )

  queues : (n : ℕ) → waiting (mf.queue n) ≡ waiting (m.queue n) → mf.queue n ≡ m.queue n
  queues n q = elim (cases_eq n c.who.number) [
    | inl e ↦ let none : (mf.queue n).entries ≡ [] = ap (λ (j : ℕ). (mf.queue j).entries) e ∙ v.victim in
        let old : (m.queue n).entries ≡ [] = no_entries (m.queue n).entries (sym q ∙ ap (map waiting_of) none) in
        λ i. record { entries = (none ∙ sym old) i; room = h.room n i }
    | inr other ↦ elim (cases_lt n c.count) [
      | inl l ↦ let is = v.done n l other in is ∙ unlinked_kept c.who (m.queue n) (sym (ap waiting is) ∙ q)
      | inr l ↦ v.todo n l other
    ]
  ]

  contexts : mf.context ≡ upd m.context c.who.number Empty → (n : ℕ) → is_dead (shows (mf.word n).state) ≡ is_dead (shows (m.word n).state) → mf.context n ≡ m.context n
  contexts is n q =
      ap (λ (f : ℕ → ContextWord). f n) is ∙ upd_cases (λ (x : ContextWord). x ≡ m.context n) m.context c.who.number Empty n (λ e. absurd (false≢true (sym (lived n e) ∙ sym q ∙ dead n e))) (λ _. refl)

  -- THE LISTS

  -- who stood in a list is there still, but for the victim
  stayed : (p : ℕ) → filter (is_not c.who.number) (list_of m.ready.lists p) ≡ filter (λ id. is_present (table left) id) (list_of m.ready.lists p)
  stayed p = filter_same (is_not c.who.number) (λ id. is_present (table left) id) (list_of m.ready.lists p) (all_weaker (IsReady m p) (λ id. is_not c.who.number id ≡ is_present (table left) id) at (list_of m.ready.lists p) (good.words.ready.ready p))
    where
      at : (id : ThreadId) → IsReady m p id → is_not c.who.number id ≡ is_present (table left) id
      at id r = elim (cases_eq id.number c.who.number) [
        | inl e ↦ ap not (eq-eqb id.number c.who.number e) ∙ sym (ap (λ (b : Bool). eqb (mf.word id.number).version id.version && not b) (dead id.number e) ∙ and-false (eqb (mf.word id.number).version id.version))
        | inr other ↦ ap not (ne_eqb id.number c.who.number other) ∙ sym (rw (h.version id.number, h.alive id.number other, r.version, r.alive, eq-eqb id.version id.version refl) refl)
      ]

  others : filter (λ id. not (same_id id c.caller)) (ids_of lines) ≡ ids_of lines
  others = filter_all (λ id. not (same_id id c.caller)) (ids_of lines) (all_map (λ id. not (same_id id c.caller) ≡ true) (λ line. line.id) lines (all_weaker (IsGone m c.who c.caller mf) (λ line. not (same_id line.id c.caller) ≡ true) (λ line g. ap not g.other) lines gone))

  pushed_are : pushed_by m c.caller outcome.Killed (killed_line ∷ lines) ≡ filter (λ id. not (m.word id.number).on) (ids_of lines)
  pushed_are = rw (same_self c.caller) (ap (filter (λ id. not (m.word id.number).on)) (append-nil _ ∙ others))

  levels : (p : ℕ) → filter (λ id. eqb (mf.word id.number).priority p) (filter (λ id. not (m.word id.number).on) (ids_of lines)) ≡ at_level m p (ids_of lines)
  levels p = filter_same (λ id. eqb (mf.word id.number).priority p) (λ id. eqb (m.word id.number).priority p) (filter (λ id. not (m.word id.number).on) (ids_of lines))
      (all_filter (λ id. eqb (mf.word id.number).priority p ≡ eqb (m.word id.number).priority p) (λ id. not (m.word id.number).on) (ids_of lines)
      (all_map (λ id. eqb (mf.word id.number).priority p ≡ eqb (m.word id.number).priority p) (λ line. line.id) lines
      (all_weaker (IsGone m c.who c.caller mf) (λ line. eqb (mf.word line.id.number).priority p ≡ eqb (m.word line.id.number).priority p) (λ line g. ap (λ (w : StateWord). eqb w.priority p) g.word) lines gone)))

  pub killed_left : mf.context ≡ upd m.context c.who.number Empty → ((p : ℕ) → list_of mf.ready.lists p ≡ filter (is_not c.who.number) (list_of m.ready.lists p) ++ at_level m p (ids_of lines)) → Leaves event outcome.Killed (killed_line ∷ lines) m left
  killed_left context lists = record {
    words = λ n _. words n;
    same = same;
    made = λ n was lives. absurd (not_made n was lives);
    woken = woken;
    own = λ _. ap (λ (w : StateWord). w.state) caller_same ∙ sym (ap (λ (r : Option Reply). state_told r (m.word c.caller.number).state) (reply_first c.caller serial reply.Killed lines));
    mails = λ n _. ap (λ (f : ℕ → Message). f n) h.mails;
    queues = queues;
    contexts = contexts context;
    lists = λ p. lists p ∙ ap (λ (xs : List ThreadId). xs ++ at_level m p (ids_of lines)) (stayed p) ∙ ap (λ (xs : List ThreadId). filter (λ id. is_present (table left) id) (list_of m.ready.lists p) ++ xs) (sym (ap (filter (λ id. eqb (mf.word id.number).priority p)) pushed_are ∙ levels p));
    running = h.running;
  }
