-- What holds of the lists of each state that can be reached.
use Rattle.std.specs.Prelude.{ℕ, ◌≡◌, ◌≢◌, ◌≤◌, Bool, true, List, [], map, eqb}
use Rattle.std.specs.List.{AllByRecursion, IsDistinct, list_any}
use Rattle.k_ids.specs.declared.threads.ThreadId.{ThreadId}
use Rattle.k_ids.specs.declared.threads.Status.TheVariants as status
use Rattle.k_model.specs.State.{KernelState, Waiting, id_of, is_present, same_id}

-- A waiting sender is the thread of its number, and sends to this number's thread.
pub record IsQueued (k : KernelState) (number : ℕ) (w : Waiting) : Type 0 where
  pub version : (k.place w.0.number).version ≡ w.0.version
  pub status : (k.place w.0.number).status ≡ status.Sending (id_of k number)

abbrev pub numbers : List Waiting → List ℕ
numbers ws = map (λ w. w.0.number) ws

-- Each entry of a list is that of a sender, none has a number twice, nobody waits for a dead number, and numbers past
-- the table are dead.
pub record IsSound (k : KernelState) : Type 0 where
  pub queued : (number : ℕ) → AllByRecursion (IsQueued k number) (k.place number).waiting
  pub apart : (number : ℕ) → IsDistinct eqb (numbers (k.place number).waiting)
  pub dead : (number : ℕ) → (k.place number).status ≡ status.Dead → (k.place number).waiting ≡ []
  pub outside : (number : ℕ) → k.size ≤ number → (k.place number).status ≡ status.Dead

-- No list has an entry of that number.
abbrev pub WaitsNowhere : KernelState → ℕ → Type 0
WaitsNowhere k number = (t : ℕ) → AllByRecursion (λ w. w.0.number ≢ number) (k.place t).waiting

-- whether a list has an entry of that thread
abbrev pub has_entry : List Waiting → ThreadId → Bool
has_entry ws id = list_any (λ w. same_id w.0 id) ws

-- Who sends, sends to a thread that its number has or had; and where that is present, the sender stands in its list.
pub record IsListed (k : KernelState) : Type 0 where
  pub known : (number : ℕ) (to : ThreadId) → (k.place number).status ≡ status.Sending to → to.version ≤ (k.place to.number).version
  pub listed : (number : ℕ) (to : ThreadId) → (k.place number).status ≡ status.Sending to → is_present k to ≡ true → has_entry (k.place to.number).waiting (id_of k number) ≡ true
