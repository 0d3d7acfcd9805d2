-- A caller's word is one with which its section may be begun.
use Rattle.std.proofs.Common.{◌≡◌, ap, ◌∙◌, subst, inl, inr, ◌⊎◌}
use Rattle.k_ids.specs.declared.threads.ThreadId.{ThreadId}
use Rattle.k_ids.specs.declared.state_word.State.{State}
use Rattle.k_ids.specs.declared.state_word.StateWord.{StateWord}
use Rattle.k_ids.specs.StateWords.{IsStateWord, state_bits, state_word_of}
use Rattle.k_ids.proofs.StateSpelled.{state-read, state-whole}
use Rattle.k_locks.specs.Threads.{IsRunOf, runs}
use Rattle.k_ipc.specs.Words.{IsPickingOf}
use Rattle.k_shown.specs.Memory.{Memory}
use Rattle.k_shown.specs.Sound.{IsCaller, IsPicker, IsSoundMemory}

own_sound : (m : Memory) (me : ThreadId) (own : StateWord) → IsSoundMemory m → m.word me.number ≡ own → IsStateWord own
own_sound m me own good is = subst IsStateWord is (good.words.words me.number)

own_read : (m : Memory) (me : ThreadId) (own : StateWord) → IsSoundMemory m → m.word me.number ≡ own → state_word_of (state_bits own) ≡ own
own_read m me own good is = state-read own (own_sound m me own good is)

pub word_begun : (m : Memory) (me : ThreadId) (own : StateWord) → IsSoundMemory m → IsCaller m me own ⊎ IsPicker m me own → state_word_of (state_bits own) ≡ own
word_begun m me own good (inl c) = own_read m me own good c.word
word_begun m me own good (inr c) = own_read m me own good c.word

pub runs_begun : (m : Memory) (me : ThreadId) (own : StateWord) → IsSoundMemory m → IsCaller m me own → IsRunOf me (state_bits own)
runs_begun m me own good c =
    let read = own_read m me own good c.word in
    record {
      spelled = state-whole own (own_sound m me own good c.word);
      version = ap (λ (w : StateWord). w.version) read ∙ c.version;
      running = ap (λ (w : StateWord). runs w.state) read ∙ ap (λ (s : State). runs s) c.runs;
    }

pub picks_begun : (m : Memory) (me : ThreadId) (own : StateWord) → IsSoundMemory m → IsPicker m me own → IsPickingOf me (state_bits own)
picks_begun m me own good c =
    let read = own_read m me own good c.word in
    record {
      spelled = state-whole own (own_sound m me own good c.word);
      version = ap (λ (w : StateWord). w.version) read ∙ c.version;
      picking = ap (λ (w : StateWord). w.state) read ∙ c.picks;
    }
