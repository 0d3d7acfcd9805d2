-- A memory while a destroy goes on: its victim is dead, and not all who wait for it have been freed yet.
use Rattle.std.proofs.Common.{◌≡◌, ◌≢◌, ℕ, ◌<◌, true, false, not, ◌&&◌, eqb, List, [], ◌∷◌, ◌++◌, length, refl, sym, ap, ◌∙◌, subst, arith, Some, inl, inr, ◌⊎◌}
use Rattle.std.proofs.lemmas.Bool.{false≢true, eq-eqb, ne_eqb}
use Rattle.std.proofs.lemmas.List.{length-set}
use Rattle.std.proofs.Math.Bool.{and-false}
use Rattle.std.specs.List.{AllByRecursion}
use Rattle.k_ids.specs.declared.threads.ThreadId.{ThreadId}
use Rattle.k_ids.specs.declared.threads.Status.TheVariants as status
use Rattle.k_ids.specs.declared.calls.Act.TheVariants as act
use Rattle.k_ids.specs.declared.calls.Reply.TheVariants as reply
use Rattle.k_ids.specs.declared.state_word.Result4.TheVariants as result4
use Rattle.k_ids.specs.declared.state_word.State.TheVariants as state
use Rattle.k_ids.specs.declared.state_word.StateWord.{StateWord}
use Rattle.k_ids.specs.StateWords.{IsStateWord}
use Rattle.k_ready.specs.Lists.{IsOnceEach, list_of, stands}
use Rattle.k_links.proofs.Appended.{once_append}
use Rattle.k_locks.specs.Shown.{shows}
use Rattle.k_threads.specs.Words.{dead_word, freed_word}
use Rattle.k_model.specs.State.{KernelState, Place, answered, is_dead, is_present, waits_for_absent, with_status}
use Rattle.k_model.specs.Step.{killed, may_act}
use Rattle.k_model.proofs.Maps.{upd_tells, upd_cases, upd_other}
use Rattle.k_lists.proofs.All.{all_weaker, all_push}
use Rattle.k_shown.specs.Memory.{Memory, table, with_word, joined_of}
use Rattle.k_shown.specs.Sound.{IsReady}
use Rattle.k_shown.proofs.Kept.{pushed, list_cases}
use Rattle.k_shown.proofs.States.{on_word}
use Rattle.k_shown.proofs.Statuses.{run_sends, run_waits, dead_sends, dead_waits}

-- who stands in a ready list: a thread that may, or the victim, as long as `V`
abbrev pub Listed : Type 0 → ThreadId → Memory → ℕ → ThreadId → Type 0
Listed V who m p id = IsReady m p id ⊎ (V × (id ≡ who))

-- a thread that waits for the victim, by its word
pub record Waits (who : ThreadId) (w : StateWord) : Type 0 where
  pub alive : is_dead (shows w.state) ≡ false
  pub ends : (k : KernelState) → is_present k who ≡ false → waits_for_absent k (shows w.state) ≡ true
  pub runs : shows w.state ≢ status.Run

-- what becomes of a word: it is the same, or that of a thread that waited for the victim, and was freed
abbrev pub Moves : Memory → ThreadId → ℕ → StateWord → Type 0
Moves m who n w = (w ≡ m.word n) ⊎ ((w ≡ freed_word (m.word n)) × Waits who (m.word n))

-- `m` and `k` are those before; `S` and `R` say who may still send to, or receive from, the victim.
pub record Half (m : Memory) (k : KernelState) (who me : ThreadId) (V : Type 0) (S R : ℕ → Type 0) (m' : Memory) (k' : KernelState) : Type 0 where
  pub size : m'.size ≡ m.size
  pub table_size : k'.size ≡ m.size
  pub version : (n : ℕ) → (m'.word n).version ≡ (m.word n).version
  pub alive : (n : ℕ) → n ≢ who.number → is_dead (shows (m'.word n).state) ≡ is_dead (shows (m.word n).state)
  pub dead : m'.word who.number ≡ dead_word who.version
  pub k_version : (n : ℕ) → (k'.place n).version ≡ (m'.word n).version
  pub doing : (n : ℕ) → (k'.place n).status ≡ shows (m'.word n).state
  pub joined : (n : ℕ) → (k'.place n).joined ≡ joined_of (m'.word n).state
  pub waiting : (n : ℕ) → (k'.place n).waiting ≡ ((killed k who).place n).waiting
  pub serial : (n : ℕ) → (k'.place n).serial ≡ (k.place n).serial
  pub words : (n : ℕ) → IsStateWord (m'.word n)
  pub sending : (n : ℕ) (to : ThreadId) → shows (m'.word n).state ≡ status.Sending to → (is_present (table m') to ≡ true) ⊎ ((to ≡ who) × S n)
  pub apart : (n : ℕ) (to : ThreadId) → shows (m'.word n).state ≡ status.Sending to → to.number ≢ n
  pub receiving : (n : ℕ) (from : ThreadId) → shows (m'.word n).state ≡ status.Receiving (Some from) → (is_present (table m') from ≡ true) ⊎ ((from ≡ who) × R n)
  pub count : length m'.ready.lists ≡ 64
  pub ready : (p : ℕ) → AllByRecursion (Listed V who m' p) (list_of m'.ready.lists p)
  pub once : (p : ℕ) → IsOnceEach (list_of m'.ready.lists p)
  pub caller : (k'.place me.number).status ≡ status.Run
  pub room : (n : ℕ) → (m'.queue n).room ≡ (m.queue n).room
  pub moved : (n : ℕ) → n ≢ who.number → Moves m who n (m'.word n)
  pub mails : m'.mail ≡ m.mail
  pub running : m'.ready.running ≡ m.ready.running

pub sending_waits : (who : ThreadId) (w : StateWord) → shows w.state ≡ status.Sending who → Waits who w
sending_waits who w e = record {
  alive = ap is_dead e;
  ends = λ k gone. rw (e, gone) refl;
  runs = λ r. let one : status.Run ≡ status.Sending who = sym r ∙ e in cc;
}

pub receiving_waits : (who : ThreadId) (w : StateWord) → shows w.state ≡ status.Receiving (Some who) → Waits who w
receiving_waits who w e = record {
  alive = ap is_dead e;
  ends = λ k gone. rw (e, gone) refl;
  runs = λ r. let one : status.Run ≡ status.Receiving (Some who) = sym r ∙ e in cc;
}

module _ (m : Memory) (k : KernelState) (who me : ThreadId) (V : Type 0) (S R : ℕ → Type 0) (m' : Memory) (k' : KernelState) (h : Half m k who me V S R m' k') where
  pub victim_absent : is_present k' who ≡ false
  victim_absent = rw (h.doing who.number, h.dead) (and-false (eqb (k'.place who.number).version who.version))

  -- The gone event of a thread that waits for the victim may be made.
  pub may_free : (n : ℕ) → Waits who (m'.word n) → may_act k' (record { number = n; version = (m'.word n).version }) (k.place n).serial act.Gone ≡ true
  may_free n w =
      let st = h.doing n in
      rw (h.k_version n, st, w.alive, w.ends k' victim_absent, h.serial n, eq-eqb (m'.word n).version (m'.word n).version refl, eq-eqb (k.place n).serial (k.place n).serial refl) refl

  -- fewer may still wait, where it is told which of them don't any more
  pub fewer : (S' R' : ℕ → Type 0) → ((n : ℕ) → n ≢ who.number → shows (m'.word n).state ≡ status.Sending who → S n → S' n) → ((n : ℕ) → n ≢ who.number → shows (m'.word n).state ≡ status.Receiving (Some who) → R n → R' n) → Half m k who me V S' R' m' k'
  fewer S' R' fs fr = record {
    size = h.size;
    table_size = h.table_size;
    version = h.version;
    alive = h.alive;
    dead = h.dead;
    k_version = h.k_version;
    doing = h.doing;
    joined = h.joined;
    waiting = h.waiting;
    serial = h.serial;
    words = h.words;
    sending = λ n to e. elim (h.sending n to e) [ inl p ↦ inl p | inr q ↦ inr (q.0, fs n (living n (λ x. dead_sends to (sym (ap (λ (y : ℕ). shows (m'.word y).state) x ∙ ap (λ (y : StateWord). shows y.state) h.dead) ∙ e))) (e ∙ ap status.Sending q.0) q.1) ];
    receiving = λ n from e. elim (h.receiving n from e) [ inl p ↦ inl p | inr q ↦ inr (q.0, fr n (living n (λ x. dead_waits from (sym (ap (λ (y : ℕ). shows (m'.word y).state) x ∙ ap (λ (y : StateWord). shows y.state) h.dead) ∙ e))) (e ∙ ap (λ (y : ThreadId). status.Receiving (Some y)) q.0) q.1) ];
    apart = h.apart;
    count = h.count;
    ready = h.ready;
    once = h.once;
    caller = h.caller;
    room = h.room;
    moved = h.moved;
    mails = h.mails;
    running = h.running;
  }
    where
      living : (n : ℕ) → (n ≡ who.number → ⊥) → n ≢ who.number
      living n f = f

  -- A thread that waits for the victim runs again, with the reply Gone.
  module _ (n : ℕ) (w : Waits who (m'.word n)) (ne : n ≢ who.number) where
    abbrev pub freed_state : KernelState
    freed_state = answered (with_status k' n status.Run) (record { number = n; version = (m'.word n).version }) (k.place n).serial reply.Gone

    abbrev pub freed_memory : Memory
    freed_memory = with_word m' n (freed_word (m'.word n))

    present_freed : (id : ThreadId) → is_present (table freed_memory) id ≡ is_present (table m') id
    present_freed id =
        upd_cases (λ (v : StateWord). (eqb v.version id.version && not (is_dead (shows v.state))) ≡ is_present (table m') id) m'.word n (freed_word (m'.word n)) id.number
        (λ e. rw e (rw w.alive refl))
        (λ _. refl)

    pub freed_sound : IsStateWord (freed_word (m'.word n))
    freed_sound = on_word (m'.word n) (state.Run result4.Gone) (h.words n) w.alive refl tt

    listed_freed : (p : ℕ) (id : ThreadId) → Listed V who m' p id → Listed V who freed_memory p id
    listed_freed p id (inr q) = inr q
    listed_freed p id (inl r) = inl (record {
      version = upd_cases (λ (v : StateWord). v.version ≡ id.version) m'.word n (freed_word (m'.word n)) id.number (λ e. ap (λ (x : ℕ). (m'.word x).version) (sym e) ∙ r.version) (λ _. r.version);
      alive = upd_cases (λ (v : StateWord). is_dead (shows v.state) ≡ false) m'.word n (freed_word (m'.word n)) id.number (λ _. refl) (λ _. r.alive);
      on = upd_cases (λ (v : StateWord). v.on ≡ true) m'.word n (freed_word (m'.word n)) id.number (λ _. refl) (λ _. r.on);
      level = upd_cases (λ (v : StateWord). v.priority ≡ p) m'.word n (freed_word (m'.word n)) id.number (λ e. ap (λ (x : ℕ). (m'.word x).priority) (sym e) ∙ r.level) (λ _. r.level);
    })

    -- one that waits still has its word
    pub waits_same : m'.word n ≡ m.word n
    waits_same = elim (h.moved n ne) [ inl e ↦ e | inr q ↦ absurd (w.runs (ap (λ (x : StateWord). shows x.state) q.0)) ]

    freed_moves : Moves m who n (freed_word (m'.word n))
    freed_moves = inr (ap freed_word waits_same, subst (Waits who) waits_same w)

    moved_freed : (t : ℕ) → t ≢ who.number → Moves m who t (freed_memory.word t)
    moved_freed t apart = upd_cases (Moves m who t) m'.word n (freed_word (m'.word n)) t (λ e. subst (λ (j : ℕ). Moves m who j (freed_word (m'.word n))) (sym e) freed_moves) (λ _. h.moved t apart)

    pub not_caller : me.number ≢ n
    not_caller e = w.runs (sym (h.doing n) ∙ ap (λ (x : ℕ). (k'.place x).status) (sym e) ∙ h.caller)

    pub freed_half : Half m k who me V (λ t. S t × (t ≢ n)) (λ t. R t × (t ≢ n)) freed_memory freed_state
    freed_half =
        let q : Place = record (k'.place n) { status = status.Run; joined = false } in
        record {
          size = h.size;
          table_size = h.table_size;
          version = λ t. upd_cases (λ (v : StateWord). v.version ≡ (m.word t).version) m'.word n (freed_word (m'.word n)) t (λ e. h.version n ∙ ap (λ (x : ℕ). (m.word x).version) (sym e)) (λ _. h.version t);
          alive = λ t other. upd_cases (λ (v : StateWord). is_dead (shows v.state) ≡ is_dead (shows (m.word t).state)) m'.word n (freed_word (m'.word n)) t (λ e. sym w.alive ∙ h.alive n ne ∙ ap (λ (x : ℕ). is_dead (shows (m.word x).state)) (sym e)) (λ _. h.alive t other);
          dead = upd_other m'.word n (freed_word (m'.word n)) who.number (λ e. ne (sym e)) ∙ h.dead;
          k_version = λ t. grind (arith, upd_tells, h.k_version t);
          doing = λ t. grind (arith, upd_tells, h.doing t);
          joined = λ t. grind (arith, upd_tells, h.joined t);
          waiting = λ t. upd_cases (λ (p : Place). p.waiting ≡ ((killed k who).place t).waiting) k'.place n q t (λ e. h.waiting n ∙ ap (λ (x : ℕ). ((killed k who).place x).waiting) (sym e)) (λ _. h.waiting t);
          serial = λ t. upd_cases (λ (p : Place). p.serial ≡ (k.place t).serial) k'.place n q t (λ e. h.serial n ∙ ap (λ (x : ℕ). (k.place x).serial) (sym e)) (λ _. h.serial t);
          words = λ t. upd_cases IsStateWord m'.word n (freed_word (m'.word n)) t (λ _. freed_sound) (λ _. h.words t);
          sending = λ t to e. sends_still t to e;
          apart = λ t to. upd_cases (λ (v : StateWord). shows v.state ≡ status.Sending to → to.number ≢ t) m'.word n (freed_word (m'.word n)) t (λ _ e. absurd (run_sends to e)) (λ _. h.apart t to);
          receiving = λ t from e. waits_still t from e;
          count = h.count;
          ready = λ p. all_weaker (Listed V who m' p) (Listed V who freed_memory p) (listed_freed p) (list_of m'.ready.lists p) (h.ready p);
          once = h.once;
          room = h.room;
          moved = λ t apart. moved_freed t apart;
          mails = h.mails;
          running = h.running;
          caller = ap (λ (p : Place). p.status) (upd_other k'.place n q me.number not_caller) ∙ h.caller;
        }
      where
        sends_still : (t : ℕ) (to : ThreadId) → shows (freed_memory.word t).state ≡ status.Sending to → (is_present (table freed_memory) to ≡ true) ⊎ ((to ≡ who) × (S t × (t ≢ n)))
        sends_still t to = upd_cases (λ (v : StateWord). shows v.state ≡ status.Sending to → (is_present (table freed_memory) to ≡ true) ⊎ ((to ≡ who) × (S t × (t ≢ n)))) m'.word n (freed_word (m'.word n)) t
            (λ _ e. absurd (run_sends to e))
            (λ other e. elim (h.sending t to e) [ inl p ↦ inl (present_freed to ∙ p) | inr q ↦ inr (q.0, (q.1, other)) ])

        waits_still : (t : ℕ) (from : ThreadId) → shows (freed_memory.word t).state ≡ status.Receiving (Some from) → (is_present (table freed_memory) from ≡ true) ⊎ ((from ≡ who) × (R t × (t ≢ n)))
        waits_still t from = upd_cases (λ (v : StateWord). shows v.state ≡ status.Receiving (Some from) → (is_present (table freed_memory) from ≡ true) ⊎ ((from ≡ who) × (R t × (t ≢ n)))) m'.word n (freed_word (m'.word n)) t
            (λ _ e. absurd (run_waits from e))
            (λ other e. elim (h.receiving t from e) [ inl p ↦ inl (present_freed from ∙ p) | inr q ↦ inr (q.0, (q.1, other)) ])

  -- Who is off, and isn't the victim, stands in no list.
  off_lacks : (p n : ℕ) (ids : List ThreadId) → (m'.word n).on ≡ false → n ≢ who.number → AllByRecursion (Listed V who m' p) ids → stands n ids ≡ false
  off_lacks p n [] off ne all = refl
  off_lacks p n (id ∷ ids) off ne all =
      let other : id.number ≢ n = λ e. elim all.0 [
        | inl r ↦ false≢true (sym off ∙ ap (λ (j : ℕ). (m'.word j).on) (sym e) ∙ r.on)
        | inr q ↦ ne (sym e ∙ ap (λ (x : ThreadId). x.number) q.1)
      ] in
      rw (ne_eqb id.number n other) (off_lacks p n ids off ne all.1)

  pub off_nowhere : (n : ℕ) → (m'.word n).on ≡ false → n ≢ who.number → (p : ℕ) → stands n (list_of m'.ready.lists p) ≡ false
  off_nowhere n off ne p = off_lacks p n (list_of m'.ready.lists p) off ne (h.ready p)

  -- A thread that is on, and stands in none, is pushed.
  pub pushed_half : (id : ThreadId) → (m'.word id.number).version ≡ id.version → is_dead (shows (m'.word id.number).state) ≡ false → (m'.word id.number).on ≡ true → ((p : ℕ) → stands id.number (list_of m'.ready.lists p) ≡ false) → Half m k who me V S R (pushed m' id (m'.word id.number).priority) k'
  pushed_half id v a on free =
      let p = (m'.word id.number).priority in
      let mp = pushed m' id p in
      let l : p < length m'.ready.lists = let small = (h.words id.number).priority in omega (arith, h.count) in
      let same : (q : ℕ) (i : ThreadId) → Listed V who m' q i → Listed V who mp q i = λ q i x. kept_listed mp q i x in
      record {
        size = h.size;
        table_size = h.table_size;
        version = h.version;
        alive = h.alive;
        dead = h.dead;
        k_version = h.k_version;
        doing = h.doing;
        joined = h.joined;
        waiting = h.waiting;
        serial = h.serial;
        words = h.words;
        sending = h.sending;
        apart = h.apart;
        receiving = h.receiving;
        count = length-set m'.ready.lists p (list_of m'.ready.lists p ++ id ∷ []) ∙ h.count;
        ready = λ q. list_cases (AllByRecursion (Listed V who mp q)) m'.ready.lists p (list_of m'.ready.lists p ++ id ∷ []) q l
            (λ e. subst (λ (j : ℕ). AllByRecursion (Listed V who mp j) (list_of m'.ready.lists p ++ id ∷ [])) (sym e)
            (all_push (Listed V who mp p) (list_of m'.ready.lists p) id (all_weaker (Listed V who m' p) (Listed V who mp p) (same p) (list_of m'.ready.lists p) (h.ready p)) (inl (record { version = v; alive = a; on = on; level = refl }))))
            (λ _. all_weaker (Listed V who m' q) (Listed V who mp q) (same q) (list_of m'.ready.lists q) (h.ready q));
        once = λ q. list_cases IsOnceEach m'.ready.lists p (list_of m'.ready.lists p ++ id ∷ []) q l
            (λ _. once_append (λ (i : ThreadId). i.number) (list_of m'.ready.lists p) id (h.once p) (free p))
            (λ _. h.once q);
        caller = h.caller;
        room = h.room;
        moved = h.moved;
        mails = h.mails;
        running = h.running;
      }
    where
      kept_listed : (mp : Memory) (q : ℕ) (i : ThreadId) → Listed V who m' q i → Listed V who (pushed m' id (m'.word id.number).priority) q i
      kept_listed mp q i (inr x) = inr x
      kept_listed mp q i (inl r) = inl (record { version = r.version; alive = r.alive; on = r.on; level = r.level })
