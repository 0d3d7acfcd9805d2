-- Maps on threads, and lists of threads.
use Rattle.std.specs.Prelude.{ℕ, ◌+◌, Bool, true, false, List, [], ◌∷◌, if◌then◌else◌}
use Rattle.k_ids.specs.declared.threads.ThreadId.{ThreadId}
use Rattle.k_model.specs.State.{same_id}

-- the thread of this number and this version
abbrev pub id_at : ℕ → ℕ → ThreadId
id_at number version = record { number = number; version = version }

-- The map with the value of one thread changed. It is never opened outside its own lemmas: `put_tells` says what it is.
unfoldable pub put : {A : Type 0} → (ThreadId → A) → ThreadId → A → ThreadId → A
put map who value other = if same_id other who then value else map other

-- how many times a thread stands in a list
abbrev pub times : ThreadId → List ThreadId → ℕ
times who [] = 0
times who (other ∷ more) = (if same_id other who then 1 else 0) + times who more

-- the list without a thread
abbrev pub without : ThreadId → List ThreadId → List ThreadId
without who [] = []
without who (other ∷ more) = if same_id other who then without who more else other ∷ without who more

abbrev pub is_filled : List ThreadId → Bool
is_filled [] = false
is_filled (who ∷ more) = true

abbrev pub one_if : Bool → ℕ
one_if holds = if holds then 1 else 0
