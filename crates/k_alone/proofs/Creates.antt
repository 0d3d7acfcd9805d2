-- What a create makes of a memory: its words, numbers and contexts are sound.
use Rattle.std.proofs.Common.{◌≡◌, ◌≢◌, ℕ, ◌+◌, ◌<◌, Bool, true, false, not, ◌&&◌, eqb, length, refl, sym, ap, ◌∙◌, subst, arith, inl, inr, Some}
use Rattle.std.proofs.lemmas.Bool.{false≢true, and_parts, cases_eq}
use Rattle.std.proofs.lemmas.List.{length-set, get_or-set_same, get_or-set_other}
use Rattle.k_ids.specs.declared.threads.ThreadId.{ThreadId}
use Rattle.k_ids.specs.declared.threads.Status.TheVariants as status
use Rattle.k_ids.specs.declared.context_word.ContextWord.{ContextWord}
use Rattle.k_ids.specs.declared.context_word.ContextWord.TheVariants.{Empty, Clean}
use Rattle.k_ids.specs.declared.state_word.State.{State}
use Rattle.k_ids.specs.declared.state_word.State.TheVariants as state
use Rattle.k_ids.specs.declared.state_word.StateWord.{StateWord}
use Rattle.k_ids.specs.StateWords.{IsStateWord, Agrees}
use Rattle.k_locks.specs.Numbers.{ThreadNumbers}
use Rattle.k_locks.specs.Numbers.{version_at, with_thread}
use Rattle.k_locks.specs.Numbers.{is_present as is_there}
use Rattle.k_locks.specs.Shown.{shows}
use Rattle.k_ready.specs.Lists.{list_of}
use Rattle.k_model.specs.Maps.{upd}
use Rattle.k_model.specs.State.{is_dead, is_present}
use Rattle.k_model.specs.Step.{last_version}
use Rattle.k_model.proofs.Maps.{upd_cases, upd_same, upd_other}
use Rattle.k_lists.proofs.All.{all_weaker}
use Rattle.k_shown.specs.Memory.{Memory, table, with_word, with_context}
use Rattle.k_shown.specs.Words.{new_word}
use Rattle.k_shown.specs.Sound.{IsReady, IsSoundWords, IsSoundNumbers, IsSoundContexts, IsContext}
use Rattle.k_shown.proofs.Kept.{pushed, pushed_words, off_nowhere}
use Rattle.k_shown.proofs.Statuses.{run_sends, run_waits}

-- the context is placed, and the word written
abbrev pub making : Memory → ThreadId → ℕ → Memory
making m id priority = with_word (with_context m id.number (Clean id.version)) id.number (new_word id.version priority)

pub dead_off : (s : State) (w : StateWord) → Agrees s w → is_dead (shows s) ≡ true → w.on ≡ false
dead_off state.Dead w a d = a.0
dead_off (state.Run r) w a d = absurd (false≢true d)
dead_off (state.Sending to joined) w a d = absurd (false≢true d)
dead_off (state.Receiving from) w a d = absurd (false≢true d)
dead_off state.Picking w a d = absurd (false≢true d)
dead_off state.Ended w a d = absurd (false≢true d)

both_dead : (b : Bool) → not b ≡ true → b ≡ true → ⊥
both_dead true e f = false≢true e
both_dead false e f = false≢true f

module _ (m : Memory) (id : ThreadId) (priority : ℕ) (dead : is_dead (shows (m.word id.number).state) ≡ true) (next : id.version ≡ (m.word id.number).version + 1) (young : (m.word id.number).version < last_version) (small : priority < 64) where
  new_sound : IsStateWord (new_word id.version priority)
  new_sound = record { version = omega (arith, young, next); priority = omega (arith, small); partner = tt; agrees = omega (arith, next) }

  present_stays : (to : ThreadId) → is_present (table m) to ≡ true → is_present (table (making m id priority)) to ≡ true
  present_stays to p =
      let ne : to.number ≢ id.number = λ e. let living = (and_parts _ _ p).1 in both_dead (is_dead (shows (m.word to.number).state)) living (ap (λ (j : ℕ). is_dead (shows (m.word j).state)) e ∙ dead) in
      ap (λ (w : StateWord). eqb w.version to.version && not (is_dead (shows w.state))) (upd_other m.word id.number (new_word id.version priority) to.number ne) ∙ p

  not_ready : (p : ℕ) (i : ThreadId) → IsReady m p i → i.number ≢ id.number
  not_ready p i h e = false≢true (sym h.alive ∙ ap (λ (j : ℕ). is_dead (shows (m.word j).state)) e ∙ dead)

  ready_stays : (p : ℕ) (i : ThreadId) → IsReady m p i → IsReady (making m id priority) p i
  ready_stays p i h =
      let same : upd m.word id.number (new_word id.version priority) i.number ≡ m.word i.number = upd_other m.word id.number (new_word id.version priority) i.number (not_ready p i h) in
      record {
        version = ap (λ (w : StateWord). w.version) same ∙ h.version;
        alive = ap (λ (w : StateWord). is_dead (shows w.state)) same ∙ h.alive;
        on = ap (λ (w : StateWord). w.on) same ∙ h.on;
        level = ap (λ (w : StateWord). w.priority) same ∙ h.level;
      }

  pub made_words : IsSoundWords m → IsSoundWords (making m id priority)
  made_words i =
      let m' = making m id priority in
      let w = new_word id.version priority in
      record {
        words = λ t. upd_cases IsStateWord m.word id.number w t (λ _. new_sound) (λ _. i.words t);
        sending = λ t to q. let r = upd_cases (λ (v : StateWord). shows v.state ≡ status.Sending to → (is_present (table m) to ≡ true) × (to.number ≢ t)) m.word id.number w t (λ _ q. absurd (run_sends to q)) (λ _. i.sending t to) q in (present_stays to r.0, r.1);
        receiving = λ t to q. present_stays to (upd_cases (λ (v : StateWord). shows v.state ≡ status.Receiving (Some to) → is_present (table m) to ≡ true) m.word id.number w t (λ _ q. absurd (run_waits to q)) (λ _. i.receiving t to) q);
        entries = i.entries;
        ready = record {
          count = i.ready.count;
          ready = λ p. all_weaker (IsReady m p) (IsReady m' p) (ready_stays p) (list_of m.ready.lists p) (i.ready.ready p);
          once = i.ready.once;
        };
      }

  new_is : (making m id priority).word id.number ≡ new_word id.version priority
  new_is = upd_same m.word id.number (new_word id.version priority)

  pub pushed_made : IsSoundWords m → IsSoundWords (pushed (making m id priority) id priority)
  pushed_made i =
      let off : (m.word id.number).on ≡ false = dead_off (m.word id.number).state (m.word id.number) (i.words id.number).agrees dead in
      subst (λ (p : ℕ). IsSoundWords (pushed (making m id priority) id p)) (ap (λ (w : StateWord). w.priority) new_is)
      (pushed_words (making m id priority) id (made_words i) (ap (λ (w : StateWord). w.version) new_is) (ap (λ (w : StateWord). is_dead (shows w.state)) new_is) (ap (λ (w : StateWord). w.on) new_is) (off_nowhere m id.number i.ready off))

  -- the numbers and the contexts after the create
  pub numbers_made : (m' : Memory) → m'.size ≡ m.size → m'.word ≡ (making m id priority).word → m'.numbers ≡ with_thread id.number m.numbers → id.number < m.size → IsSoundNumbers m → IsSoundNumbers m'
  numbers_made m' es ew en inside s =
      let v1 = version_at m.numbers id.number + 1 in
      record {
        versions = ap (λ (x : ThreadNumbers). length x.versions) en ∙ length-set m.numbers.versions id.number v1 ∙ s.versions ∙ sym es;
        presences = ap (λ (x : ThreadNumbers). length x.present) en ∙ length-set m.numbers.present id.number true ∙ s.presences ∙ sym es;
        version = λ t l. ap (λ (x : ThreadNumbers). version_at x t) en ∙ version_made t (subst (λ (x : ℕ). t < x) es l) ∙ sym (ap (λ (f : ℕ → StateWord). (f t).version) ew);
        present = λ t l. ap (λ (x : ThreadNumbers). is_there x t) en ∙ there_made t (subst (λ (x : ℕ). t < x) es l) ∙ sym (ap (λ (f : ℕ → StateWord). not (is_dead (shows (f t).state))) ew);
      }
    where
      version_made : (t : ℕ) → t < m.size → version_at (with_thread id.number m.numbers) t ≡ ((making m id priority).word t).version
      version_made t l = elim (cases_eq t id.number) [
        | inl e ↦ rw e (get_or-set_same m.numbers.versions id.number (version_at m.numbers id.number + 1) 0 (omega (arith, inside, s.versions)) ∙ ap (λ (x : ℕ). x + 1) (s.version id.number inside) ∙ sym next ∙ sym (ap (λ (w : StateWord). w.version) new_is))
        | inr ne ↦ get_or-set_other m.numbers.versions id.number t (version_at m.numbers id.number + 1) 0 ne ∙ s.version t l ∙ sym (ap (λ (w : StateWord). w.version) (upd_other m.word id.number (new_word id.version priority) t ne))
      ]

      there_made : (t : ℕ) → t < m.size → is_there (with_thread id.number m.numbers) t ≡ not (is_dead (shows ((making m id priority).word t).state))
      there_made t l = elim (cases_eq t id.number) [
        | inl e ↦ rw e (get_or-set_same m.numbers.present id.number true false (omega (arith, inside, s.presences)) ∙ sym (ap (λ (w : StateWord). not (is_dead (shows w.state))) new_is))
        | inr ne ↦ get_or-set_other m.numbers.present id.number t true false ne ∙ s.present t l ∙ sym (ap (λ (w : StateWord). not (is_dead (shows w.state))) (upd_other m.word id.number (new_word id.version priority) t ne))
      ]

  pub contexts_made : (m' : Memory) → m'.word ≡ (making m id priority).word → m'.context ≡ (making m id priority).context → IsSoundContexts m → IsSoundContexts m'
  contexts_made m' ew ec s = record {
    there = λ t q. subst (λ (f : ℕ → StateWord). IsContext (f t).version (m'.context t)) (sym ew) (subst (λ (f : ℕ → ContextWord). IsContext ((making m id priority).word t).version (f t)) (sym ec) (there_at t (sym (ap (λ (f : ℕ → StateWord). is_dead (shows (f t).state)) ew) ∙ q)));
    none = λ t q. ap (λ (f : ℕ → ContextWord). f t) ec ∙ none_at t (sym (ap (λ (f : ℕ → StateWord). is_dead (shows (f t).state)) ew) ∙ q);
  }
    where
      there_at : (t : ℕ) → is_dead (shows ((making m id priority).word t).state) ≡ false → IsContext ((making m id priority).word t).version ((making m id priority).context t)
      there_at t q = elim (cases_eq t id.number) [
        | inl e ↦ rw e (rw (new_is, upd_same m.context id.number (Clean id.version)) refl)
        | inr ne ↦ let ew : (making m id priority).word t ≡ m.word t = upd_other m.word id.number (new_word id.version priority) t ne in rw (upd_other m.context id.number (Clean id.version) t ne) (rw ew (s.there t (sym (ap (λ (w : StateWord). is_dead (shows w.state)) ew) ∙ q)))
      ]

      none_at : (t : ℕ) → is_dead (shows ((making m id priority).word t).state) ≡ true → (making m id priority).context t ≡ Empty
      none_at t q = elim (cases_eq t id.number) [
        | inl e ↦ absurd (false≢true (sym (ap (λ (w : StateWord). is_dead (shows w.state)) (ap (making m id priority).word e ∙ new_is)) ∙ q))
        | inr ne ↦ upd_other m.context id.number (Clean id.version) t ne ∙ s.none t (sym (ap (λ (w : StateWord). is_dead (shows w.state)) (upd_other m.word id.number (new_word id.version priority) t ne)) ∙ q)
      ]
