-- What a run leaves of words and lists, put together from its parts.
use Rattle.std.proofs.Common.{◌≡◌, ◌≢◌, ℕ, suc, ◌<◌, Bool, true, false, not, ◌&&◌, ◌||◌, eqb, List, [], ◌∷◌, ◌++◌, map, length, set, refl, sym, ap, ◌∙◌, arith, inl, inr, ◌⊎◌}
use Rattle.std.specs.Prelude.{if◌then◌else◌}
use Rattle.std.proofs.lemmas.Bool.{false≢true, eq-eqb, ne_eqb, cases_Bool}
use Rattle.std.proofs.lemmas.List.{append-nil, length-map, length-append}
use Rattle.std.specs.List.{AllByRecursion, filter, list_any}
use Rattle.k_ids.specs.declared.threads.ThreadId.{ThreadId}
use Rattle.k_ids.specs.declared.threads.Status.TheVariants as status
use Rattle.k_ids.specs.declared.calls.Outcome.{Outcome}
use Rattle.k_ids.specs.declared.histories.Event.{Event}
use Rattle.k_ids.specs.declared.histories.ReplyLine.{ReplyLine}
use Rattle.k_ids.specs.declared.state_word.State.{State}
use Rattle.k_ids.specs.declared.state_word.StateWord.{StateWord}
use Rattle.k_senders.specs.declared.entries.SenderEntry.{SenderEntry}
use Rattle.k_senders.specs.Entries.{number_of}
use Rattle.k_senders.specs.Queue.{Queue, without}
use Rattle.k_ready.specs.Lists.{list_of, with_list}
use Rattle.k_locks.specs.Shown.{shows}
use Rattle.k_model.specs.Answered.{reply_to}
use Rattle.k_model.specs.State.{is_present, is_run, same_id}
use Rattle.k_lists.proofs.All.{all_weaker}
use Rattle.k_shown.specs.Memory.{Memory, table, waiting, waiting_of}
use Rattle.k_shown.specs.Leaves.{IsWoken, Leaves, made_by, moved_word, pushed_by, state_with, woken_by}
use Rattle.k_shown.specs.Sound.{IsReady, IsSoundReady}
use Rattle.k_shown.proofs.Kept.{SameThreads, list_cases}
use Rattle.k_shown.specs.Words.{on_with}
use Rattle.k_shown.proofs.Statuses.{same_self}

-- WORDS

and_not : (b : Bool) → (b && not b) ≡ false
and_not true = refl
and_not false = refl

or_false : (b : Bool) → (b || false) ≡ b
or_false true = refl
or_false false = refl

or_true : (b : Bool) → (b || true) ≡ true
or_true true = refl
or_true false = refl

pub moved_same : (w : StateWord) → moved_word w.state w ≡ w
moved_same w =
    let e : (w.on || (is_run (shows w.state) && not (is_run (shows w.state)))) ≡ w.on = ap (λ (b : Bool). w.on || b) (and_not (is_run (shows w.state))) ∙ or_false w.on in
    λ d. record w { on = e d }

-- who is on stays on
pub moved_on : (s : State) (w : StateWord) → w.on ≡ true → on_with w s ≡ moved_word s w
moved_on s w e =
    let same : (w.on || (is_run (shows s) && not (is_run (shows w.state)))) ≡ true = ap (λ (b : Bool). b || (is_run (shows s) && not (is_run (shows w.state)))) e in
    λ d. record w { on = (sym same) d; state = s }

-- who runs now and didn't is on
pub moved_run : (s : State) (w : StateWord) → is_run (shows s) ≡ true → is_run (shows w.state) ≡ false → on_with w s ≡ moved_word s w
moved_run s w r n =
    let same : (w.on || (is_run (shows s) && not (is_run (shows w.state)))) ≡ true = rw (r, n) (or_true w.on) in
    λ d. record w { on = (sym same) d; state = s }

-- who doesn't run is on where it was
pub moved_in : (s : State) (w : StateWord) → is_run (shows s) ≡ false → record w { state = s } ≡ moved_word s w
moved_in s w n =
    let same : (w.on || (is_run (shows s) && not (is_run (shows w.state)))) ≡ w.on = rw n (or_false w.on) in
    λ d. record w { on = (sym same) d; state = s }

-- What becomes of a word: it is the same; or it is that of the caller, or of a thread whose status changes.
abbrev pub Turns : Memory → ThreadId → ℕ → StateWord → Type 0
Turns m who n w = (w ≡ m.word n) ⊎ ((w ≡ moved_word w.state (m.word n)) × ((n ≡ who.number) ⊎ (shows w.state ≢ shows (m.word n).state)))

module _ (m : Memory) (who : ThreadId) (n : ℕ) (w : StateWord) where
  pub turned_word : Turns m who n w → w ≡ moved_word w.state (m.word n)
  turned_word (inl e) = e ∙ sym (ap (λ (x : StateWord). moved_word x.state (m.word n)) e ∙ moved_same (m.word n))
  turned_word (inr t) = t.0

  pub turned_same : Turns m who n w → n ≢ who.number → shows w.state ≡ shows (m.word n).state → w ≡ m.word n
  turned_same (inl e) ne s = e
  turned_same (inr t) ne s = elim t.1 [ inl mine ↦ absurd (ne mine) | inr change ↦ absurd (change s) ]

-- the caller's word
pub caller_turns : (m : Memory) (me : ThreadId) (own : StateWord) (s : State) (n : ℕ) → m.word me.number ≡ own → own.on ≡ true → n ≡ me.number → Turns m me n (on_with own s)
caller_turns m me own s n is on e = inr (moved_on s own on ∙ ap (moved_word s) (sym is ∙ ap m.word (sym e)), inl e)

-- that of a thread that is woken
pub woken_turns : (m : Memory) (who : ThreadId) (t : ℕ) (s : State) (n : ℕ) → is_run (shows s) ≡ true → is_run (shows (m.word t).state) ≡ false → n ≡ t → Turns m who n (on_with (m.word t) s)
woken_turns m who t s n runs not_yet e = inr (
  moved_run s (m.word t) runs not_yet ∙ ap (moved_word s) (ap m.word (sym e)),
  inr (λ q. false≢true (sym not_yet ∙ ap (λ (j : ℕ). is_run (shows (m.word j).state)) (sym e) ∙ sym (ap is_run q) ∙ runs)),
)

-- LISTS

-- who stands in a list is there still
pub all_there : (m m' : Memory) (p : ℕ) → ((id : ThreadId) → IsReady m p id → is_present (table m') id ≡ true) → (ids : List ThreadId) → AllByRecursion (IsReady m p) ids → filter (λ id. is_present (table m') id) ids ≡ ids
all_there m m' p there [] all = refl
all_there m m' p there (id ∷ ids) all = rw (there id all.0) (ap (λ (xs : List ThreadId). id ∷ xs) (all_there m m' p there ids all.1))

-- .. in each list
abbrev pub AllStay : Memory → Memory → Type 0
AllStay m m' = (p : ℕ) → filter (λ id. is_present (table m') id) (list_of m.ready.lists p) ≡ list_of m.ready.lists p

pub all_stay : (m m' : Memory) → IsSoundReady m → SameThreads m m' → AllStay m m'
all_stay m m' s t p = all_there m m' p (λ id r. rw (t.version id.number, t.dead id.number, r.version, r.alive, eq-eqb id.version id.version refl) refl) (list_of m.ready.lists p) (s.ready p)

-- nobody is pushed
pub lists_kept : (m m' : Memory) (ids : List ThreadId) → AllStay m m' → m'.ready ≡ m.ready → ids ≡ [] → (p : ℕ) → list_of m'.ready.lists p ≡ filter (λ id. is_present (table m') id) (list_of m.ready.lists p) ++ filter (λ id. eqb (m'.word id.number).priority p) ids
lists_kept m m' ids stay same none p = rw (none, same) (rw (stay p) (sym (append-nil (list_of m.ready.lists p))))

-- a list, once a thread is pushed
pub pushed_list : (lists : List (List ThreadId)) (id : ThreadId) (q p : ℕ) → q < 64 → length lists ≡ 64 → list_of (set lists q (list_of lists q ++ id ∷ [])) p ≡ list_of lists p ++ (if eqb q p then id ∷ [] else [])
pushed_list lists id q p small count =
    list_cases (λ (xs : List ThreadId). xs ≡ list_of lists p ++ (if eqb q p then id ∷ [] else [])) lists q (list_of lists q ++ id ∷ []) p (omega (arith, small, count))
    (λ e. rw (eq-eqb q p (sym e)) (ap (λ (j : ℕ). list_of lists j ++ id ∷ []) (sym e)))
    (λ ne. rw (ne_eqb q p (λ e. ne (sym e))) (sym (append-nil (list_of lists p))))

-- one is pushed
pub lists_pushed : (m m' : Memory) (ids : List ThreadId) (id : ThreadId) (q : ℕ) → AllStay m m' → length m.ready.lists ≡ 64 → m'.ready ≡ with_list m.ready q (list_of m.ready.lists q ++ id ∷ []) → ids ≡ id ∷ [] → (m'.word id.number).priority ≡ q → q < 64 → (p : ℕ) → list_of m'.ready.lists p ≡ filter (λ id. is_present (table m') id) (list_of m.ready.lists p) ++ filter (λ id. eqb (m'.word id.number).priority p) ids
lists_pushed m m' ids id q stay count same one level small p = rw (one, same) (rw (level, stay p) (pushed_list m.ready.lists id q p small count))

-- QUEUES

-- a queue with one entry more shows another list
pub longer : (q : Queue) (e : SenderEntry) → map waiting_of (q.entries ++ e ∷ []) ≡ waiting q → ⊥
longer q e h =
    let a = length-map (q.entries ++ e ∷ []) waiting_of in
    let b = length-append q.entries (e ∷ []) in
    let c = length-map q.entries waiting_of in
    let d = ap length h in
    omega (arith, a, b, c, d)

without_same : (n : ℕ) (es : List SenderEntry) → length (without n es) ≡ length es → without n es ≡ es
without_same n [] h = refl
without_same n (e ∷ es) h = elim (cases_Bool (eqb (number_of e) n)) [
  | inl y ↦ let all : without n (e ∷ es) ≡ es = rw y refl in
      let short : length es ≡ suc (length es) = sym (ap length all) ∙ h in
      absurd (omega (arith, short))
  | inr y ↦ let all : without n (e ∷ es) ≡ e ∷ without n es = rw y refl in
      let more : suc (length (without n es)) ≡ suc (length es) = sym (ap length all) ∙ h in
      all ∙ ap (λ (xs : List SenderEntry). e ∷ xs) (without_same n es (omega (arith, more)))
]

-- a queue without an entry shows another list, or had none
pub shorter : (q : Queue) (n : ℕ) → map waiting_of (without n q.entries) ≡ waiting q → record q { entries = without n q.entries } ≡ q
shorter q n h =
    let a = length-map (without n q.entries) waiting_of in
    let c = length-map q.entries waiting_of in
    let d = ap length h in
    let same = without_same n q.entries (omega (arith, a, c, d)) in
    λ i. record q { entries = same i }

-- TOGETHER

-- the same threads are there
pub leaves_from : (event : Event) (o : Outcome) (lines : List ReplyLine) (m m' : Memory) → SameThreads m m' → ((n : ℕ) → Turns m event.who n (m'.word n)) → AllByRecursion (λ line. same_id line.id event.who ≡ false → IsWoken m m' line) lines → (shows (m'.word event.who.number).state ≡ status.Run → (m'.word event.who.number).state ≡ state_with event.act (reply_to lines event.who event.serial) (m.word event.who.number).state) → ((n : ℕ) → list_any (λ line. eqb line.id.number n && not (same_id line.id event.who)) lines ≡ false → m'.mail n ≡ m.mail n) → ((n : ℕ) → waiting (m'.queue n) ≡ waiting (m.queue n) → m'.queue n ≡ m.queue n) → ((p : ℕ) → list_of m'.ready.lists p ≡ filter (λ id. is_present (table m') id) (list_of m.ready.lists p) ++ filter (λ id. eqb (m'.word id.number).priority p) (pushed_by m event.who o lines)) → m'.ready.running ≡ m.ready.running → Leaves event o lines m m'
leaves_from event o lines m m' t turns woken own mails queues lists running = record {
  words = λ n _ _. turned_word m event.who n (m'.word n) (turns n);
  same = λ n. turned_same m event.who n (m'.word n) (turns n);
  made = λ n d a. absurd (false≢true (sym a ∙ t.dead n ∙ d));
  woken = woken;
  own = own;
  mails = mails;
  queues = queues;
  contexts = λ n _. ap (λ f. f n) t.context;
  lists = lists;
  running = running;
}

-- REPLIES TO THE CALLER ALONE

-- a line of the caller wakes nobody
pub no_other : {P : Type 0} (who id : ThreadId) → id ≡ who → same_id id who ≡ false → P
no_other who id e f = absurd (false≢true (sym f ∙ ap (λ (i : ThreadId). same_id i who) e ∙ same_self who))

mine_woken : (who : ThreadId) (lines : List ReplyLine) → AllByRecursion (λ line. line.id ≡ who) lines → woken_by who lines ≡ []
mine_woken who [] all = refl
mine_woken who (line ∷ lines) all =
    let same : same_id line.id who ≡ true = ap (λ (i : ThreadId). same_id i who) all.0 ∙ same_self who in
    rw same (mine_woken who lines all.1)

pub mine_pushed : (m : Memory) (who : ThreadId) (o : Outcome) (lines : List ReplyLine) → AllByRecursion (λ line. line.id ≡ who) lines → made_by o ≡ [] → pushed_by m who o lines ≡ []
mine_pushed m who o lines all none = rw (mine_woken who lines all, none) refl

-- nothing changes
pub leaves_all : (event : Event) (o : Outcome) (lines : List ReplyLine) (m : Memory) → IsSoundReady m → AllByRecursion (λ line. line.id ≡ event.who) lines → made_by o ≡ [] → state_with event.act (reply_to lines event.who event.serial) (m.word event.who.number).state ≡ (m.word event.who.number).state → Leaves event o lines m m
leaves_all event o lines m s mine none own =
    let t : SameThreads m m = record { size = refl; version = λ n. refl; dead = λ n. refl; context = refl; numbers = refl; room = λ n. refl } in
    leaves_from event o lines m m t (λ n. inl refl) (all_weaker (λ (line : ReplyLine). line.id ≡ event.who) (λ (line : ReplyLine). same_id line.id event.who ≡ false → IsWoken m m line) (λ line e f. no_other event.who line.id e f) lines mine) (λ _. sym own) (λ n _. refl) (λ n _. refl) (lists_kept m m (pushed_by m event.who o lines) (all_stay m m s t) refl (mine_pushed m event.who o lines mine none)) refl
