-- The memory in which a kernel begins. The first numbers have a thread each, of version 1, that runs and stands in the ready
-- list of its priority, in the order of the numbers. The others are dead, of these versions. Nobody waits to send.
use Rattle.std.specs.Prelude.{ℕ, zero, suc, ◌<◌, ◌≤◌, nat_lt, if◌then◌else◌, List, [], length, map, replicate, slice_index_or}
use Rattle.std.specs.List.{AllByRecursion, range_with_len}
use Rattle.k_ids.specs.declared.context_word.ContextWord.{ContextWord}
use Rattle.k_ids.specs.declared.context_word.ContextWord.TheVariants.{Clean, Empty}
use Rattle.k_ids.specs.declared.state_word.StateWord.{StateWord}
use Rattle.k_ready.specs.Lists.{Ready}
use Rattle.k_locks.specs.Numbers.{ThreadNumbers}
use Rattle.k_model.specs.Step.{last_version}
use Rattle.k_locks.specs.Hands.{pushed}
use Rattle.k_shown.specs.Words.{dead_word, new_word}
use Rattle.k_shown.specs.Memory.{Memory}

-- What a kernel may begin with.
pub record IsOpening (versions : List ℕ) (threads : ℕ) (priority : ℕ → ℕ) : Type 0 where
  pub size : length versions ≤ 64
  pub enough : threads ≤ length versions
  pub known : AllByRecursion (λ v. v ≤ last_version) versions
  pub levels : (n : ℕ) → n < threads → priority n < 64

abbrev pub boot_word : List ℕ → ℕ → (ℕ → ℕ) → ℕ → StateWord
boot_word versions threads priority n =
    if nat_lt n threads then new_word 1 (priority n) else dead_word (slice_index_or versions n 0)

abbrev pub boot_context : ℕ → ℕ → ContextWord
boot_context threads n = if nat_lt n threads then Clean 1 else Empty

abbrev pub boot_numbers : List ℕ → ℕ → (ℕ → ℕ) → ThreadNumbers
boot_numbers versions threads priority = record {
  versions = map (λ n. (boot_word versions threads priority n).version) (range_with_len 0 (length versions));
  present = map (λ n. nat_lt n threads) (range_with_len 0 (length versions));
}

-- The threads are pushed one after another.
unfoldable pub boot_ready : (ℕ → ℕ) → ℕ → Ready
boot_ready priority zero = record { lists = replicate 64 []; running = 0 }
boot_ready priority (suc n) = pushed (record { number = n; version = 1 }) (priority n) (boot_ready priority n)

abbrev pub boot : List ℕ → ℕ → (ℕ → ℕ) → Memory
boot versions threads priority = record {
  size = length versions;
  word = boot_word versions threads priority;
  mail = λ n. record { low = 0; high = 0 };
  context = boot_context threads;
  numbers = boot_numbers versions threads priority;
  queue = λ n. record { entries = []; room = length versions };
  ready = boot_ready priority threads;
}
