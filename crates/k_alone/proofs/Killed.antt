-- The victim is killed, leaves the ready lists, and loses its context.
use Rattle.std.proofs.Common.{◌≡◌, ◌≢◌, ℕ, true, false, not, ◌&&◌, eqb, List, refl, sym, ap, ◌∙◌, subst, arith, Some, inl, inr, ◌⊎◌}
use Rattle.std.proofs.lemmas.Bool.{eqb-true, and_parts, cases_eq}
use Rattle.std.proofs.lemmas.List.{length-map}
use Rattle.std.specs.List.{AllByRecursion}
use Rattle.k_ids.specs.declared.threads.ThreadId.{ThreadId}
use Rattle.k_ids.specs.declared.threads.Status.TheVariants as status
use Rattle.k_ids.specs.declared.calls.Reply.TheVariants as reply
use Rattle.k_ids.specs.declared.context_word.ContextWord.{ContextWord}
use Rattle.k_ids.specs.declared.state_word.StateWord.{StateWord}
use Rattle.k_ids.specs.StateWords.{IsStateWord}
use Rattle.k_senders.specs.Queue.{Queue}
use Rattle.k_senders.specs.Queue.{stands as waits}
use Rattle.k_ready.specs.Lists.{IsOnceEach, list_of}
use Rattle.k_locks.specs.Shown.{shows}
use Rattle.k_threads.specs.Goods.{unlisted, without_it}
use Rattle.k_threads.specs.Words.{dead_word}
use Rattle.k_model.specs.Maps.{upd}
use Rattle.k_model.specs.State.{KernelState, answered, id_of, is_dead, is_present}
use Rattle.k_model.specs.Step.{killed}
use Rattle.k_model.proofs.Maps.{upd_cases, upd_same, upd_other}
use Rattle.k_lists.proofs.All.{all_weaker}
use Rattle.k_model.proofs.Places.{killed_version, killed_serial, killed_status, killed_joined}
use Rattle.k_shown.specs.Memory.{Memory, Shows, table, with_word, with_queue, with_context, with_ready, joined_of}
use Rattle.k_shown.specs.Sound.{IsReady, IsSoundMemory}
use Rattle.k_shown.proofs.Kept.{room_kept}
use Rattle.k_alone.proofs.Killing.{Half, Listed}
use Rattle.k_alone.proofs.Unlinked.{has_stands, listed_map, without_it_all, without_it_once}
use Rattle.k_shown.proofs.TableRows.{killed_size}
use Rattle.k_shown.proofs.Statuses.{dead_sends, dead_waits}

module _ (m : Memory) (k : KernelState) (who me : ThreadId) (serial : ℕ) (h : Shows m k) (good : IsSoundMemory m) (here : is_present (table m) who ≡ true) (ne : me.number ≢ who.number) (runs : (k.place me.number).status ≡ status.Run) where
  version_is : (m.word who.number).version ≡ who.version
  version_is = eqb-true _ _ (and_parts _ _ here).0

  abbrev pub killed_memory : Memory
  killed_memory = with_word m who.number (dead_word who.version)

  pub dead_sound : IsStateWord (dead_word who.version)
  dead_sound = let small = (good.words.words who.number).version in record { version = omega (arith, version_is); priority = omega arith; partner = tt; agrees = (refl, refl) }

  -- present still, or the victim
  there : (to : ThreadId) → is_present (table m) to ≡ true → (is_present (table killed_memory) to ≡ true) ⊎ (to ≡ who)
  there to p = elim (cases_eq to.number who.number) [
    | inl e ↦ let v : to.version ≡ who.version = sym (eqb-true _ _ (and_parts _ _ p).0) ∙ ap (λ (x : ℕ). (m.word x).version) e ∙ version_is in inr (λ d. record { number = e d; version = v d })
    | inr other ↦ inl (ap (λ (w : StateWord). eqb w.version to.version && not (is_dead (shows w.state))) (upd_other m.word who.number (dead_word who.version) to.number other) ∙ p)
  ]

  listed_still : (p : ℕ) (id : ThreadId) → IsReady m p id → Listed (Unit {0}) who killed_memory p id
  listed_still p id r = elim (cases_eq id.number who.number) [
    | inl e ↦ let v : id.version ≡ who.version = sym r.version ∙ ap (λ (x : ℕ). (m.word x).version) e ∙ version_is in inr (tt, (λ d. record { number = e d; version = v d }))
    | inr other ↦ let same : killed_memory.word id.number ≡ m.word id.number = upd_other m.word who.number (dead_word who.version) id.number other in
        inl (record {
          version = ap (λ (w : StateWord). w.version) same ∙ r.version;
          alive = ap (λ (w : StateWord). is_dead (shows w.state)) same ∙ r.alive;
          on = ap (λ (w : StateWord). w.on) same ∙ r.on;
          level = ap (λ (w : StateWord). w.priority) same ∙ r.level;
        })
  ]

  pub half_killed : Half m k who me (Unit {0}) (λ t. waits t (m.queue who.number).entries ≡ true) (λ t. Unit {0}) killed_memory (answered (killed k who) me serial reply.Killed)
  half_killed = record {
    size = refl;
    table_size = killed_size k who ∙ h.size;
    version = λ n. upd_cases (λ (w : StateWord). w.version ≡ (m.word n).version) m.word who.number (dead_word who.version) n (λ e. sym version_is ∙ ap (λ (x : ℕ). (m.word x).version) (sym e)) (λ _. refl);
    alive = λ n other. ap (λ (w : StateWord). is_dead (shows w.state)) (upd_other m.word who.number (dead_word who.version) n other);
    dead = upd_same m.word who.number (dead_word who.version);
    k_version = λ n. killed_version k who n ∙ h.version n ∙ upd_cases (λ (w : StateWord). (m.word n).version ≡ w.version) m.word who.number (dead_word who.version) n (λ e. ap (λ (x : ℕ). (m.word x).version) e ∙ version_is) (λ _. refl);
    doing = λ n. killed_status k who n ∙ upd_cases (λ (w : StateWord). upd (λ u. (k.place u).status) who.number status.Dead n ≡ shows w.state) m.word who.number (dead_word who.version) n (λ e. ap (upd (λ u. (k.place u).status) who.number status.Dead) e ∙ upd_same (λ u. (k.place u).status) who.number status.Dead) (λ other. upd_other (λ u. (k.place u).status) who.number status.Dead n other ∙ h.status n);
    joined = λ n. killed_joined k who n ∙ upd_cases (λ (w : StateWord). upd (λ u. (k.place u).joined) who.number false n ≡ joined_of w.state) m.word who.number (dead_word who.version) n (λ e. ap (upd (λ u. (k.place u).joined) who.number false) e ∙ upd_same (λ u. (k.place u).joined) who.number false) (λ other. upd_other (λ u. (k.place u).joined) who.number false n other ∙ h.joined n);
    waiting = λ n. refl;
    serial = λ n. killed_serial k who n;
    words = λ n. upd_cases IsStateWord m.word who.number (dead_word who.version) n (λ _. dead_sound) (λ _. good.words.words n);
    sending = λ n to. upd_cases (λ (w : StateWord). shows w.state ≡ status.Sending to → (is_present (table killed_memory) to ≡ true) ⊎ ((to ≡ who) × (waits n (m.queue who.number).entries ≡ true))) m.word who.number (dead_word who.version) n
        (λ _ e. absurd (dead_sends to e))
        (λ _ e. let p = (good.words.sending n to e).0 in elim (there to p) [
          | inl y ↦ inl y
          | inr y ↦ inr (y, subst (λ (x : ThreadId). waits n (m.queue x.number).entries ≡ true) y (has_stands (id_of (table m) n) (m.queue to.number).entries (good.listed.listed n to e p)))
        ]);
    apart = λ n to. upd_cases (λ (w : StateWord). shows w.state ≡ status.Sending to → to.number ≢ n) m.word who.number (dead_word who.version) n (λ _ e. absurd (dead_sends to e)) (λ _ e. (good.words.sending n to e).1);
    receiving = λ n from. upd_cases (λ (w : StateWord). shows w.state ≡ status.Receiving (Some from) → (is_present (table killed_memory) from ≡ true) ⊎ ((from ≡ who) × Unit {0})) m.word who.number (dead_word who.version) n
        (λ _ e. absurd (dead_waits from e))
        (λ _ e. elim (there from (good.words.receiving n from e)) [ inl y ↦ inl y | inr y ↦ inr (y, tt) ]);
    count = good.words.ready.count;
    ready = λ p. all_weaker (IsReady m p) (Listed (Unit {0}) who killed_memory p) (listed_still p) (list_of m.ready.lists p) (good.words.ready.ready p);
    once = good.words.ready.once;
    room = λ n. refl;
    moved = λ n other. inl (upd_other m.word who.number (dead_word who.version) n other);
    mails = refl;
    running = refl;
    caller = killed_status k who me.number ∙ upd_other (λ u. (k.place u).status) who.number status.Dead me.number ne ∙ runs;
  }

module _ (m : Memory) (k : KernelState) (who me : ThreadId) (V : Type 0) (S R : ℕ → Type 0) (m' : Memory) (k' : KernelState) (h : Half m k who me V S R m' k') where
  relisted : (mx : Memory) → mx.word ≡ m'.word → (p : ℕ) (id : ThreadId) → IsReady m' p id → IsReady mx p id
  relisted mx e p id r = record {
    version = ap (λ (f : ℕ → StateWord). (f id.number).version) e ∙ r.version;
    alive = ap (λ (f : ℕ → StateWord). is_dead (shows (f id.number).state)) e ∙ r.alive;
    on = ap (λ (f : ℕ → StateWord). (f id.number).on) e ∙ r.on;
    level = ap (λ (f : ℕ → StateWord). (f id.number).priority) e ∙ r.level;
  }

  -- The victim leaves the ready lists.
  pub half_unlisted : Half m k who me ⊥ S R (with_ready m' (unlisted who m'.ready)) k'
  half_unlisted =
      let mx = with_ready m' (unlisted who m'.ready) in
      record {
        size = h.size;
        table_size = h.table_size;
        version = h.version;
        alive = h.alive;
        dead = h.dead;
        k_version = h.k_version;
        doing = h.doing;
        joined = h.joined;
        waiting = h.waiting;
        serial = h.serial;
        words = h.words;
        sending = h.sending;
        apart = h.apart;
        receiving = h.receiving;
        count = length-map m'.ready.lists (without_it who) ∙ h.count;
        ready = λ p. subst (λ (ids : List ThreadId). AllByRecursion (Listed ⊥ who mx p) ids) (sym (listed_map who m'.ready.lists p))
            (all_weaker (IsReady mx p) (Listed ⊥ who mx p) (λ id r. inl r) (without_it who (list_of m'.ready.lists p))
            (without_it_all who (list_of m'.ready.lists p) (h.once p) V (IsReady mx p) (all_weaker (Listed V who m' p) (λ i. IsReady mx p i ⊎ (V × (i ≡ who))) (λ i x. elim x [ inl r ↦ inl (relisted mx refl p i r) | inr y ↦ inr y ]) (list_of m'.ready.lists p) (h.ready p))));
        once = λ p. subst IsOnceEach (sym (listed_map who m'.ready.lists p)) (without_it_once who (list_of m'.ready.lists p) (h.once p));
        caller = h.caller;
        room = h.room;
        moved = h.moved;
        mails = h.mails;
        running = h.running;
      }

  listed_in : (mx : Memory) → mx.word ≡ m'.word → (p : ℕ) (id : ThreadId) → Listed V who m' p id → Listed V who mx p id
  listed_in mx e p id (inl r) = inl (relisted mx e p id r)
  listed_in mx e p id (inr q) = inr q

  -- a context goes, or a queue changes
  pub half_context : (n : ℕ) (w : ContextWord) → Half m k who me V S R (with_context m' n w) k'
  half_context n w = record {
    size = h.size;
    table_size = h.table_size;
    version = h.version;
    alive = h.alive;
    dead = h.dead;
    k_version = h.k_version;
    doing = h.doing;
    joined = h.joined;
    waiting = h.waiting;
    serial = h.serial;
    words = h.words;
    sending = h.sending;
    apart = h.apart;
    receiving = h.receiving;
    count = h.count;
    ready = λ p. all_weaker (Listed V who m' p) (Listed V who (with_context m' n w) p) (listed_in (with_context m' n w) refl p) (list_of m'.ready.lists p) (h.ready p);
    once = h.once;
    caller = h.caller;
    room = h.room;
    moved = h.moved;
    mails = h.mails;
    running = h.running;
  }

  pub half_queue : (n : ℕ) (q : Queue) → q.room ≡ (m'.queue n).room → Half m k who me V S R (with_queue m' n q) k'
  half_queue n q room = record {
    size = h.size;
    table_size = h.table_size;
    version = h.version;
    alive = h.alive;
    dead = h.dead;
    k_version = h.k_version;
    doing = h.doing;
    joined = h.joined;
    waiting = h.waiting;
    serial = h.serial;
    words = h.words;
    sending = h.sending;
    apart = h.apart;
    receiving = h.receiving;
    count = h.count;
    ready = λ p. all_weaker (Listed V who m' p) (Listed V who (with_queue m' n q) p) (listed_in (with_queue m' n q) refl p) (list_of m'.ready.lists p) (h.ready p);
    once = h.once;
    caller = h.caller;
    room = λ t. room_kept m' n q room t ∙ h.room t;
    moved = h.moved;
    mails = h.mails;
    running = h.running;
  }
