-- What a create leaves of words, mails and lists.
use Rattle.std.proofs.Common.{◌≡◌, ◌≢◌, ℕ, ◌<◌, true, false, not, ◌&&◌, eqb, List, [], ◌∷◌, refl, sym, ap, ◌∙◌, Option, inl, inr}
use Rattle.std.proofs.lemmas.Bool.{false≢true, eq-eqb, cases_eq}
use Rattle.k_ids.specs.declared.threads.ThreadId.{ThreadId}
use Rattle.k_ids.specs.declared.calls.Phase.TheVariants as phase
use Rattle.k_ids.specs.declared.calls.Act.TheVariants as act
use Rattle.k_ids.specs.declared.calls.Outcome.TheVariants as outcome
use Rattle.k_ids.specs.declared.calls.Reply.{Reply}
use Rattle.k_ids.specs.declared.calls.Reply.TheVariants as reply
use Rattle.k_ids.specs.declared.histories.Event.{Event}
use Rattle.k_ids.specs.declared.histories.ReplyLine.{ReplyLine}
use Rattle.k_ids.specs.declared.context_word.ContextWord.{ContextWord}
use Rattle.k_ids.specs.declared.context_word.ContextWord.TheVariants.{Clean}
use Rattle.k_ids.specs.declared.state_word.StateWord.{StateWord}
use Rattle.k_ready.specs.Lists.{list_of}
use Rattle.k_locks.specs.Shown.{shows}
use Rattle.k_threads.specs.Words.{created_word}
use Rattle.k_model.specs.State.{is_dead, is_present}
use Rattle.k_model.proofs.Maps.{upd_cases, upd_same, upd_other}
use Rattle.k_shown.specs.Memory.{Memory, table}
use Rattle.k_shown.specs.Leaves.{Leaves, moved_word, pushed_by, state_told}
use Rattle.k_shown.specs.Sound.{IsReady, IsSoundMemory}
use Rattle.k_alone.proofs.CreateRuns.{made_memory}
use Rattle.k_shown.proofs.Left.{AllStay, all_there, lists_pushed, moved_same, no_other}
use Rattle.k_alone.proofs.Made.{reply_first}
use Rattle.k_shown.proofs.Statuses.{same_self}

module _ (m : Memory) (me id : ThreadId) (serial program priority : ℕ) (good : IsSoundMemory m) (dead : is_dead (shows (m.word id.number).state) ≡ true) (ne : me.number ≢ id.number) where
  abbrev left : Memory
  left = made_memory m id priority

  abbrev new : StateWord
  new = created_word id.version priority

  abbrev event : Event
  event = record { who = me; serial = serial; act = act.Call (phase.Create program priority) }

  abbrev lines : List ReplyLine
  lines = record { id = me; serial = serial; reply = reply.Made id } ∷ []

  -- the number was dead
  was_dead : (n : ℕ) → n ≡ id.number → is_dead (shows (m.word n).state) ≡ true
  was_dead n e = ap (λ (j : ℕ). is_dead (shows (m.word j).state)) e ∙ dead

  new_word : left.word id.number ≡ new
  new_word = upd_same m.word id.number new

  words : (n : ℕ) → is_dead (shows (m.word n).state) ≡ false → left.word n ≡ moved_word (left.word n).state (m.word n)
  words n alive = upd_cases (λ (w : StateWord). w ≡ moved_word w.state (m.word n)) m.word id.number new n (λ e. absurd (false≢true (sym alive ∙ was_dead n e))) (λ _. sym (moved_same (m.word n)))

  same : (n : ℕ) → shows (left.word n).state ≡ shows (m.word n).state → left.word n ≡ m.word n
  same n = upd_cases (λ (w : StateWord). shows w.state ≡ shows (m.word n).state → w ≡ m.word n) m.word id.number new n (λ e q. absurd (false≢true (ap is_dead q ∙ was_dead n e))) (λ _ _. refl)

  made : (n : ℕ) → is_dead (shows (m.word n).state) ≡ true → is_dead (shows (left.word n).state) ≡ false → (left.word n ≡ created_word (left.word n).version priority) × (left.context n ≡ Clean (left.word n).version)
  made n was lives = elim (cases_eq n id.number) [
    | inl e ↦ let w : left.word n ≡ new = ap left.word e ∙ new_word in
        let c : left.context n ≡ Clean id.version = ap left.context e ∙ upd_same m.context id.number (Clean id.version) in
        (w ∙ sym (ap (λ (x : StateWord). created_word x.version priority) w), c ∙ sym (ap (λ (x : StateWord). Clean x.version) w))
    | inr other ↦ absurd (false≢true (sym lives ∙ ap (λ (w : StateWord). is_dead (shows w.state)) (upd_other m.word id.number new n other) ∙ was))
  ]

  contexts : (n : ℕ) → is_dead (shows (left.word n).state) ≡ is_dead (shows (m.word n).state) → left.context n ≡ m.context n
  contexts n q = upd_cases (λ (c : ContextWord). c ≡ m.context n) m.context id.number (Clean id.version) n
      (λ e. absurd (false≢true (sym (ap (λ (j : ℕ). is_dead (shows (left.word j).state)) e ∙ ap (λ (w : StateWord). is_dead (shows w.state)) new_word) ∙ q ∙ was_dead n e)))
      (λ _. refl)

  there : (p : ℕ) (i : ThreadId) → IsReady m p i → is_present (table left) i ≡ true
  there p i r =
      let other : i.number ≢ id.number = λ e. false≢true (sym r.alive ∙ was_dead i.number e) in
      ap (λ (w : StateWord). eqb w.version i.version && not (is_dead (shows w.state))) (upd_other m.word id.number new i.number other) ∙ rw (r.version, r.alive, eq-eqb i.version i.version refl) refl

  stay : AllStay m left
  stay p = all_there m left p (there p) (list_of m.ready.lists p) (good.words.ready.ready p)

  pub made_left : (m.word id.number).on ≡ false → priority < 64 → Leaves event (outcome.Made id) lines m left
  made_left off small =
      let one : pushed_by m me (outcome.Made id) lines ≡ id ∷ [] = rw (same_self me, off) refl in
      record {
        words = λ n alive _. words n alive;
        same = λ n _. same n;
        made = made;
        woken = ((λ f. no_other me me refl f), tt);
        own = λ _. ap (λ (w : StateWord). w.state) (upd_other m.word id.number new me.number ne) ∙ sym (ap (λ (r : Option Reply). state_told r (m.word me.number).state) (reply_first me serial (reply.Made id) []));
        mails = λ n _. refl;
        queues = λ n _. refl;
        contexts = contexts;
        lists = lists_pushed m left (pushed_by m me (outcome.Made id) lines) id priority stay good.words.ready.count refl one (ap (λ (w : StateWord). w.priority) new_word) small;
        running = refl;
      }
