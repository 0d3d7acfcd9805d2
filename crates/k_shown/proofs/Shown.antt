-- Changes of a memory and of the state that shows it go together.
use Rattle.std.proofs.Common.{◌≡◌, ℕ, false, List, refl, sym, ap, ◌∙◌, arith, subst, eqb, ◌&&◌, not, ◌≤◌}
use Rattle.std.specs.List.{AllByRecursion, IsDistinct}
use Rattle.k_ids.specs.declared.threads.ThreadId.{ThreadId}
use Rattle.k_ids.specs.declared.threads.Status.{Status}
use Rattle.k_ids.specs.declared.threads.Status.TheVariants as status
use Rattle.k_ids.specs.declared.calls.Reply.{Reply}
use Rattle.k_ids.specs.declared.state_word.StateWord.{StateWord}
use Rattle.k_senders.specs.Queue.{Queue}
use Rattle.k_model.specs.State.{KernelState, Waiting, Place, with_place, with_status, answered, id_of, is_present, is_dead}
use Rattle.k_model.specs.Step.{called}
use Rattle.k_model.specs.Sound.{IsSound, IsListed, IsQueued, numbers, has_entry}
use Rattle.k_model.proofs.Maps.{upd_tells, upd_cases}
use Rattle.k_lists.proofs.All.{all_weaker}
use Rattle.k_shown.specs.Memory.{Memory, Shows, joined_of, waiting, table, with_word, with_queue}
use Rattle.k_locks.specs.Shown.{shows}

-- a place of the state shows a word and a queue
pub record Fits (p : Place) (w : StateWord) (q : Queue) : Type 0 where
  pub version : p.version ≡ w.version
  pub status : p.status ≡ shows w.state
  pub joined : p.joined ≡ joined_of w.state
  pub waiting : p.waiting ≡ waiting q

pub fits_at : (m : Memory) (k : KernelState) → Shows m k → (n : ℕ) → Fits (k.place n) (m.word n) (m.queue n)
fits_at m k h n = record { version = h.version n; status = h.status n; joined = h.joined n; waiting = h.waiting n }

pub shows_from : (m : Memory) (k : KernelState) → k.size ≡ m.size → ((n : ℕ) → Fits (k.place n) (m.word n) (m.queue n)) → Shows m k
shows_from m k s f = record { size = s; version = λ n. (f n).version; status = λ n. (f n).status; joined = λ n. (f n).joined; waiting = λ n. (f n).waiting }

pub shows_table : (m : Memory) → Shows m (table m)
shows_table m = record { size = refl; version = λ n. refl; status = λ n. refl; joined = λ n. refl; waiting = λ n. refl }

pub shows_called : (m : Memory) (k : KernelState) (me : ThreadId) (serial : ℕ) → Shows m k → Shows m (called k me serial)
shows_called m k me serial h =
    shows_from m (called k me serial) h.size
    (λ n. upd_cases (λ p. Fits p (m.word n) (m.queue n)) k.place me.number (record (k.place me.number) { serial = serial }) n
    (λ e. let f = fits_at m k h me.number in record { version = f.version ∙ ap (λ (j : ℕ). (m.word j).version) (sym e); status = f.status ∙ ap (λ (j : ℕ). shows (m.word j).state) (sym e); joined = f.joined ∙ ap (λ (j : ℕ). joined_of (m.word j).state) (sym e); waiting = f.waiting ∙ ap (λ (j : ℕ). waiting (m.queue j)) (sym e) })
    (λ ne. fits_at m k h n))

pub shows_answered : (m : Memory) (k : KernelState) (me : ThreadId) (serial : ℕ) (r : Reply) → Shows m k → Shows m (answered k me serial r)
shows_answered m k me serial r h = record { size = h.size; version = h.version; status = h.status; joined = h.joined; waiting = h.waiting }

-- one place and one word change
pub shows_word : (m : Memory) (k : KernelState) (n : ℕ) (w : StateWord) (p : Place) → Fits p w (m.queue n) → Shows m k → Shows (with_word m n w) (with_place k n p)
shows_word m k n w p f h =
    shows_from (with_word m n w) (with_place k n p) h.size
    (λ t. record {
      version = grind (arith, upd_tells, h.version t);
      status = grind (arith, upd_tells, h.status t);
      joined = grind (arith, upd_tells, h.joined t);
      waiting = grind (arith, upd_tells, h.waiting t);
    })

-- a place and a queue change
pub shows_queue : (m : Memory) (k : KernelState) (n : ℕ) (q : Queue) (p : Place) → Fits p (m.word n) q → Shows m k → Shows (with_queue m n q) (with_place k n p)
shows_queue m k n q p f h =
    shows_from (with_queue m n q) (with_place k n p) h.size
    (λ t. record {
      version = grind (arith, upd_tells, h.version t);
      status = grind (arith, upd_tells, h.status t);
      joined = grind (arith, upd_tells, h.joined t);
      waiting = grind (arith, upd_tells, h.waiting t);
    })

-- a thread takes a status other than sending
pub shows_status : (m : Memory) (k : KernelState) (n : ℕ) (w : StateWord) (s : Status) → w.version ≡ (m.word n).version → shows w.state ≡ s → joined_of w.state ≡ false → Shows m k → Shows (with_word m n w) (with_status k n s)
shows_status m k n w s ev es ej h =
    shows_word m k n w (record (k.place n) { status = s; joined = false })
    (record { version = h.version n ∙ sym ev; status = sym es; joined = sym ej; waiting = h.waiting n }) h

-- Two states that show one memory differ in serials and replies alone, and so one has sound lists where the other has.
queued_like : (a b : KernelState) (t : ℕ) (w : Waiting) → ((n : ℕ) → (b.place n).version ≡ (a.place n).version) → ((n : ℕ) → (b.place n).status ≡ (a.place n).status) → IsQueued a t w → IsQueued b t w
queued_like a b t w v s h = record {
  version = v w.0.number ∙ h.version;
  status = s w.0.number ∙ h.status ∙ ap (λ (x : ℕ). status.Sending (record { number = t; version = x })) (sym (v t));
}

pub record Same (a b : KernelState) : Type 0 where
  pub size : b.size ≡ a.size
  pub version : (n : ℕ) → (b.place n).version ≡ (a.place n).version
  pub status : (n : ℕ) → (b.place n).status ≡ (a.place n).status
  pub waiting : (n : ℕ) → (b.place n).waiting ≡ (a.place n).waiting

pub same_shown : (m : Memory) (a b : KernelState) → Shows m a → Shows m b → Same a b
same_shown m a b g h = record {
  size = h.size ∙ sym g.size;
  version = λ n. h.version n ∙ sym (g.version n);
  status = λ n. h.status n ∙ sym (g.status n);
  waiting = λ n. h.waiting n ∙ sym (g.waiting n);
}

pub sound_like : (a b : KernelState) → Same a b → IsSound a → IsSound b
sound_like a b e s = record {
  queued = λ t. subst (λ (ws : List Waiting). AllByRecursion (IsQueued b t) ws) (sym (e.waiting t)) (all_weaker (IsQueued a t) (IsQueued b t) (λ w. queued_like a b t w e.version e.status) (a.place t).waiting (s.queued t));
  apart = λ t. subst (λ (ws : List Waiting). IsDistinct eqb (numbers ws)) (sym (e.waiting t)) (s.apart t);
  dead = λ t d. e.waiting t ∙ s.dead t (sym (e.status t) ∙ d);
  outside = λ t l. e.status t ∙ s.outside t (subst (λ (x : ℕ). x ≤ t) e.size l);
}

present_like : (a b : KernelState) → Same a b → (id : ThreadId) → is_present b id ≡ is_present a id
present_like a b e id = λ d. (eqb (e.version id.number d) id.version) && not (is_dead (e.status id.number d))

id_like : (a b : KernelState) → Same a b → (n : ℕ) → id_of b n ≡ id_of a n
id_like a b e n = λ d. record { number = n; version = e.version n d }

pub listed_like : (a b : KernelState) → Same a b → IsListed a → IsListed b
listed_like a b e l = record {
  known = λ n to h. subst (λ (x : ℕ). to.version ≤ x) (sym (e.version to.number)) (l.known n to (sym (e.status n) ∙ h));
  listed = λ n to h p. ap (λ (ws : List Waiting). has_entry ws (id_of b n)) (e.waiting to.number) ∙ ap (has_entry (a.place to.number).waiting) (id_like a b e n) ∙ l.listed n to (sym (e.status n) ∙ h) (sym (present_like a b e to) ∙ p);
}
