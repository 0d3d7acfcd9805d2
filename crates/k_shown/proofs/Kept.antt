-- What a change of one word, or a push, leaves of a sound memory.
use Rattle.std.proofs.Common.{◌≡◌, ◌≢◌, ℕ, ◌<◌, ◌≤◌, true, false, not, ◌&&◌, eqb, List, [], ◌∷◌, ◌++◌, length, refl, sym, ap, ◌∙◌, subst, arith, inl, inr, Some, get_or, set}
use Rattle.std.proofs.lemmas.Bool.{false≢true, cases_eq, ne_eqb, cond_both}
use Rattle.std.proofs.lemmas.List.{get_or-set_same, get_or-set_other, length-set}
use Rattle.std.specs.List.{AllByRecursion}
use Rattle.k_ids.specs.declared.threads.ThreadId.{ThreadId}
use Rattle.k_ids.specs.declared.threads.Message.{Message}
use Rattle.k_ids.specs.declared.threads.Status.TheVariants as status
use Rattle.k_ids.specs.declared.state_word.StateWord.{StateWord}
use Rattle.k_ids.specs.StateWords.{IsStateWord}
use Rattle.k_senders.specs.declared.entries.SenderEntry.{SenderEntry}
use Rattle.k_senders.specs.Queue.{Queue, without}
use Rattle.k_senders.specs.Entries.{IsEntry}
use Rattle.k_senders.specs.Entries.{number_of as number_of_entry}
use Rattle.k_ready.specs.Lists.{IsOnceEach, list_of, stands}
use Rattle.k_links.proofs.Appended.{once_append}
use Rattle.k_ids.specs.declared.context_word.ContextWord.{ContextWord}
use Rattle.k_locks.specs.Numbers.{ThreadNumbers}
use Rattle.k_locks.specs.Numbers.{version_at}
use Rattle.k_locks.specs.Numbers.{is_present as is_there}
use Rattle.k_model.specs.Maps.{upd}
use Rattle.k_model.specs.State.{KernelState, is_dead, is_present}
use Rattle.k_model.specs.Sound.{IsSound, IsListed}
use Rattle.k_model.proofs.Maps.{upd_tells, upd_cases}
use Rattle.k_lists.proofs.All.{all_weaker, all_push}
use Rattle.k_shown.specs.Memory.{Memory, Shows, table, with_word, with_mail, with_queue, with_ready, with_numbers}
use Rattle.k_locks.specs.Shown.{shows}
use Rattle.k_locks.specs.Hands.{pushed as listed_last}
use Rattle.k_shown.specs.Sound.{IsReady, IsSoundReady, IsSoundWords, IsSoundNumbers, IsSoundContexts, IsContext, IsSoundMemory}
use Rattle.k_shown.proofs.Shown.{same_shown, shows_table, sound_like, listed_like}

-- The number keeps its thread, which stays on where it was, and waits for nobody that isn't there.
pub record Renews (m : Memory) (n : ℕ) (w : StateWord) : Type 0 where
  pub word : IsStateWord w
  pub version : w.version ≡ (m.word n).version
  pub alive : is_dead (shows w.state) ≡ false
  pub lived : is_dead (shows (m.word n).state) ≡ false
  pub on : (m.word n).on ≡ true → w.on ≡ true
  pub level : w.priority ≡ (m.word n).priority
  pub sending : (to : ThreadId) → shows w.state ≡ status.Sending to → (is_present (table m) to ≡ true) × (to.number ≢ n)
  pub receiving : (from : ThreadId) → shows w.state ≡ status.Receiving (Some from) → is_present (table m) from ≡ true

module _ (m : Memory) (n : ℕ) (w : StateWord) (r : Renews m n w) where
  pub present_kept : (id : ThreadId) → is_present (table (with_word m n w)) id ≡ is_present (table m) id
  present_kept id =
      upd_cases (λ (v : StateWord). (eqb v.version id.version && not (is_dead (shows v.state))) ≡ is_present (table m) id) m.word n w id.number
      (λ e. rw (r.version, r.alive) (rw e (rw r.lived refl)))
      (λ _. refl)

  ready_at : (p : ℕ) (id : ThreadId) → IsReady m p id → IsReady (with_word m n w) p id
  ready_at p id h = record {
    version = grind (arith, upd_tells, r.version, h.version);
    alive = grind (arith, upd_tells, r.alive, h.alive);
    on = upd_cases (λ (v : StateWord). v.on ≡ true) m.word n w id.number (λ e. r.on (ap (λ (j : ℕ). (m.word j).on) (sym e) ∙ h.on)) (λ _. h.on);
    level = grind (arith, upd_tells, r.level, h.level);
  }

  pub renewed_words : IsSoundWords m → IsSoundWords (with_word m n w)
  renewed_words s = record {
    words = λ t. upd_cases IsStateWord m.word n w t (λ _. r.word) (λ _. s.words t);
    sending = λ t to h. let q = upd_cases (λ (v : StateWord). shows v.state ≡ status.Sending to → (is_present (table m) to ≡ true) × (to.number ≢ t)) m.word n w t (λ e q. ((r.sending to q).0, (λ x. (r.sending to q).1 (x ∙ e)))) (λ _. s.sending t to) h in (present_kept to ∙ q.0, q.1);
    receiving = λ t to h. present_kept to ∙ upd_cases (λ (v : StateWord). shows v.state ≡ status.Receiving (Some to) → is_present (table m) to ≡ true) m.word n w t (λ _. r.receiving to) (λ _. s.receiving t to) h;
    entries = s.entries;
    ready = record {
      count = s.ready.count;
      ready = λ p. all_weaker (IsReady m p) (IsReady (with_word m n w) p) (ready_at p) (list_of m.ready.lists p) (s.ready.ready p);
      once = s.ready.once;
    };
  }

-- Mails and queues don't count.
pub mailed_words : (m : Memory) (n : ℕ) (message : Message) → IsSoundWords m → IsSoundWords (with_mail m n message)
mailed_words m n message s = record {
  words = s.words;
  sending = s.sending;
  receiving = s.receiving;
  entries = s.entries;
  ready = record {
    count = s.ready.count;
    ready = λ p. all_weaker (IsReady m p) (IsReady (with_mail m n message) p) (λ id h. record { version = h.version; alive = h.alive; on = h.on; level = h.level }) (list_of m.ready.lists p) (s.ready.ready p);
    once = s.ready.once;
  };
}

-- Who isn't on stands in no ready list.
off_lacks : (m : Memory) (p n : ℕ) (ids : List ThreadId) → (m.word n).on ≡ false → AllByRecursion (IsReady m p) ids → stands n ids ≡ false
off_lacks m p n [] off h = refl
off_lacks m p n (id ∷ ids) off h =
    let ne : id.number ≢ n = λ e. false≢true (sym off ∙ ap (λ (j : ℕ). (m.word j).on) (sym e) ∙ h.0.on) in
    rw (ne_eqb id.number n ne) (off_lacks m p n ids off h.1)

pub off_nowhere : (m : Memory) (n : ℕ) → IsSoundReady m → (m.word n).on ≡ false → (p : ℕ) → stands n (list_of m.ready.lists p) ≡ false
off_nowhere m n s off p = off_lacks m p n (list_of m.ready.lists p) off (s.ready p)

-- A thread that is on, and stands in none, is pushed.
abbrev pub pushed : Memory → ThreadId → ℕ → Memory
pushed m id p = with_ready m (listed_last id p m.ready)

-- what the lists are after one is changed
pub list_cases : (P : List ThreadId → Type 0) (lists : List (List ThreadId)) (p : ℕ) (es : List ThreadId) (q : ℕ) → p < length lists → (q ≡ p → P es) → (q ≢ p → P (list_of lists q)) → P (list_of (set lists p es) q)
list_cases P lists p es q l same other =
    elim (cases_eq q p) [
      | inl e ↦ subst P (sym (ap (λ (j : ℕ). get_or (set lists p es) j []) e ∙ get_or-set_same lists p es [] l)) (same e)
      | inr ne ↦ subst P (sym (get_or-set_other lists p q es [] ne)) (other ne)
    ]

pub pushed_words : (m : Memory) (id : ThreadId) → IsSoundWords m → (m.word id.number).version ≡ id.version → is_dead (shows (m.word id.number).state) ≡ false → (m.word id.number).on ≡ true → ((p : ℕ) → stands id.number (list_of m.ready.lists p) ≡ false) → IsSoundWords (pushed m id (m.word id.number).priority)
pushed_words m id s v a on free =
    let p = (m.word id.number).priority in
    let m' = pushed m id p in
    let l : p < length m.ready.lists = let small = (s.words id.number).priority in omega (arith, s.ready.count) in
    let same : (q : ℕ) (i : ThreadId) → IsReady m q i → IsReady m' q i = λ q i h. record { version = h.version; alive = h.alive; on = h.on; level = h.level } in
    record {
      words = s.words;
      sending = s.sending;
      receiving = s.receiving;
      entries = s.entries;
      ready = record {
        count = length-set m.ready.lists p (list_of m.ready.lists p ++ id ∷ []) ∙ s.ready.count;
        ready = λ q. list_cases (AllByRecursion (IsReady m' q)) m.ready.lists p (list_of m.ready.lists p ++ id ∷ []) q l
            (λ e. subst (λ (j : ℕ). AllByRecursion (IsReady m' j) (list_of m.ready.lists p ++ id ∷ [])) (sym e)
            (all_push (IsReady m' p) (list_of m.ready.lists p) id (all_weaker (IsReady m p) (IsReady m' p) (same p) (list_of m.ready.lists p) (s.ready.ready p)) (record { version = v; alive = a; on = on; level = refl })))
            (λ _. all_weaker (IsReady m q) (IsReady m' q) (same q) (list_of m.ready.lists q) (s.ready.ready q));
        once = λ q. list_cases IsOnceEach m.ready.lists p (list_of m.ready.lists p ++ id ∷ []) q l
            (λ _. once_append (λ (i : ThreadId). i.number) (list_of m.ready.lists p) id (s.ready.once p) (free p))
            (λ _. s.ready.once q);
      };
    }

-- The queue of a number changes.
pub queued_words : (m : Memory) (n : ℕ) (q : Queue) → AllByRecursion IsEntry q.entries → IsSoundWords m → IsSoundWords (with_queue m n q)
queued_words m n q all s = record {
  words = s.words;
  sending = s.sending;
  receiving = s.receiving;
  entries = λ t. upd_cases (λ (x : Queue). AllByRecursion IsEntry x.entries) m.queue n q t (λ _. all) (λ _. s.entries t);
  ready = record {
    count = s.ready.count;
    ready = λ p. all_weaker (IsReady m p) (IsReady (with_queue m n q) p) (λ id h. record { version = h.version; alive = h.alive; on = h.on; level = h.level }) (list_of m.ready.lists p) (s.ready.ready p);
    once = s.ready.once;
  };
}

-- The lists are those of a state that shows the memory.
pub sound_memory : (m : Memory) (k : KernelState) → Shows m k → m.size ≤ 64 → ((n : ℕ) → n < m.size → (m.queue n).room ≡ m.size) → IsSoundWords m → IsSoundNumbers m → IsSoundContexts m → IsSound k → IsListed k → IsSoundMemory m
sound_memory m k h small room w n c s l =
    let e = same_shown m k (table m) h (shows_table m) in
    record { small = small; room = room; words = w; numbers = n; contexts = c; lists = sound_like k (table m) e s; listed = listed_like k (table m) e l }

pub sound_state : (m : Memory) (k : KernelState) → Shows m k → IsSoundMemory m → IsSound k
sound_state m k h s = sound_like (table m) k (same_shown m (table m) k (shows_table m) h) s.lists

pub listed_state : (m : Memory) (k : KernelState) → Shows m k → IsSoundMemory m → IsListed k
listed_state m k h s = listed_like (table m) k (same_shown m (table m) k (shows_table m) h) s.listed

-- Which numbers have a thread, and of which version, is as before.
pub record SameThreads (m m' : Memory) : Type 0 where
  pub size : m'.size ≡ m.size
  pub version : (n : ℕ) → (m'.word n).version ≡ (m.word n).version
  pub dead : (n : ℕ) → is_dead (shows (m'.word n).state) ≡ is_dead (shows (m.word n).state)
  pub context : m'.context ≡ m.context
  pub numbers : m'.numbers ≡ m.numbers
  pub room : (n : ℕ) → (m'.queue n).room ≡ (m.queue n).room

pub numbers_kept : (m m' : Memory) → SameThreads m m' → IsSoundNumbers m → IsSoundNumbers m'
numbers_kept m m' e s = record {
  versions = ap (λ (x : ThreadNumbers). length x.versions) e.numbers ∙ s.versions ∙ sym e.size;
  presences = ap (λ (x : ThreadNumbers). length x.present) e.numbers ∙ s.presences ∙ sym e.size;
  version = λ n l. ap (λ (x : ThreadNumbers). version_at x n) e.numbers ∙ s.version n (subst (λ (x : ℕ). n < x) e.size l) ∙ sym (e.version n);
  present = λ n l. ap (λ (x : ThreadNumbers). is_there x n) e.numbers ∙ s.present n (subst (λ (x : ℕ). n < x) e.size l) ∙ ap not (sym (e.dead n));
}

pub contexts_kept : (m m' : Memory) → SameThreads m m' → IsSoundContexts m → IsSoundContexts m'
contexts_kept m m' e s = record {
  there = λ n h. subst (λ (v : ℕ). IsContext v (m'.context n)) (sym (e.version n)) (subst (λ (f : ℕ → ContextWord). IsContext (m.word n).version (f n)) (sym e.context) (s.there n (sym (e.dead n) ∙ h)));
  none = λ n h. ap (λ (f : ℕ → ContextWord). f n) e.context ∙ s.none n (sym (e.dead n) ∙ h);
}

-- a queue changes, and its room stays
pub room_kept : (m : Memory) (n : ℕ) (q : Queue) → q.room ≡ (m.queue n).room → (t : ℕ) → (upd m.queue n q t).room ≡ (m.queue t).room
room_kept m n q e t = upd_cases (λ (x : Queue). x.room ≡ (m.queue t).room) m.queue n q t (λ s. e ∙ ap (λ (j : ℕ). (m.queue j).room) (sym s)) (λ _. refl)

-- a word of a thread that stays
pub same_threads : (m : Memory) (n : ℕ) (w : StateWord) → w.version ≡ (m.word n).version → is_dead (shows w.state) ≡ is_dead (shows (m.word n).state) → SameThreads m (with_word m n w)
same_threads m n w v d = record {
  size = refl;
  version = λ t. upd_cases (λ (x : StateWord). x.version ≡ (m.word t).version) m.word n w t (λ e. v ∙ ap (λ (j : ℕ). (m.word j).version) (sym e)) (λ _. refl);
  dead = λ t. upd_cases (λ (x : StateWord). is_dead (shows x.state) ≡ is_dead (shows (m.word t).state)) m.word n w t (λ e. d ∙ ap (λ (j : ℕ). is_dead (shows (m.word j).state)) (sym e)) (λ _. refl);
  context = refl;
  numbers = refl;
  room = λ t. refl;
}

pub then_threads : (a b c : Memory) → SameThreads a b → SameThreads b c → SameThreads a c
then_threads a b c f g = record {
  size = g.size ∙ f.size;
  version = λ n. g.version n ∙ f.version n;
  dead = λ n. g.dead n ∙ f.dead n;
  context = g.context ∙ f.context;
  numbers = g.numbers ∙ f.numbers;
  room = λ n. g.room n ∙ f.room n;
}

pub numbered_words : (m : Memory) (ns : ThreadNumbers) → IsSoundWords m → IsSoundWords (with_numbers m ns)
numbered_words m ns s = record {
  words = s.words;
  sending = s.sending;
  receiving = s.receiving;
  entries = s.entries;
  ready = record {
    count = s.ready.count;
    ready = λ p. all_weaker (IsReady m p) (IsReady (with_numbers m ns) p) (λ id h. record { version = h.version; alive = h.alive; on = h.on; level = h.level }) (list_of m.ready.lists p) (s.ready.ready p);
    once = s.ready.once;
  };
}

-- an entry less
pub all_without : (P : SenderEntry → Type 0) (n : ℕ) (es : List SenderEntry) → AllByRecursion P es → AllByRecursion P (without n es)
all_without P n [] h = tt
all_without P n (e ∷ es) h = cond_both (eqb (number_of_entry e) n) _ _ (AllByRecursion P) (λ _. h.1) (λ _. (h.0, all_without P n es h.1))
