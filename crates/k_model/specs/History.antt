-- Histories: the opening state, which lists of entries are legal, and when a state is finished.
use Rattle.std.specs.Prelude.{◌≡◌, ℕ, ◌<◌, Bool, true, false, ◌||◌, not, if◌then◌else◌, List, [], ◌∷◌, ◌++◌, length, slice_index_or, nat_lt, Ok}
use Rattle.k_ids.specs.declared.threads.ThreadId.{ThreadId}
use Rattle.k_ids.specs.declared.threads.Status.TheVariants as status
use Rattle.k_ids.specs.declared.calls.Phase.{Phase}
use Rattle.k_ids.specs.declared.calls.Act.{Act}
use Rattle.k_ids.specs.declared.calls.Act.TheVariants as act
use Rattle.k_ids.specs.declared.histories.Entry.{Entry}
use Rattle.k_model.specs.State.{KernelState, Place, nowhere, same_id, is_run, is_picking, waits_for_absent}
use Rattle.k_model.specs.Step.{step}

-- THE OPENING STATE: the first numbers have a thread each, and the others show these versions.

abbrev pub new_place : Place
new_place = record { version = 1; status = status.Run; joined = false; serial = 0; waiting = [] }

abbrev pub dead_place : ℕ → Place
dead_place version = record { version = version; status = status.Dead; joined = false; serial = 0; waiting = [] }

abbrev pub opening_place : List ℕ → ℕ → ℕ → Place
opening_place versions threads number =
    if not (nat_lt number (length versions)) then nowhere
    else (if nat_lt number threads then new_place
    else dead_place (slice_index_or versions number 0))

abbrev pub opened : List ℕ → ℕ → KernelState
opened versions threads = record { size = length versions; place = opening_place versions threads; replies = [] }

-- LEGAL: each event may be made when it comes, has the outcome that the state gives it, and the last leaves this state.

abbrev pub IsReplay : KernelState → List Entry → KernelState → Type 0
IsReplay old [] new = new ≡ old
IsReplay old (e ∷ es) new = (mid : KernelState) × (step old e.event ≡ Ok (mid, e.outcome)) × IsReplay mid es new

-- A state that a legal history leaves, from an opening state.
abbrev pub IsReached : List ℕ → ℕ → List Entry → KernelState → Type 0
IsReached versions threads entries k = IsReplay (opened versions threads) entries k

-- FINISHED: nothing is to come from any number, neither a call nor another event.

abbrev pub is_active : KernelState → ℕ → Bool
is_active k number = is_run (k.place number).status || (is_picking (k.place number).status || waits_for_absent k (k.place number).status)

pub record IsLowestActive (k : KernelState) (id : ThreadId) : Type 0 where
  pub inside : id.number < k.size
  pub version : (k.place id.number).version ≡ id.version
  pub active : is_active k id.number ≡ true
  pub lowest : (n : ℕ) → n < id.number → is_active k n ≡ false

abbrev pub IsFinished : KernelState → Type 0
IsFinished k = (n : ℕ) → n < k.size → is_active k n ≡ false

-- THE CALLS OF ONE THREAD, each with its serial, in their order

abbrev pub call_in : Act → ℕ → List (ℕ × Phase)
call_in (act.Call phase) serial = (serial, phase) ∷ []
call_in act.Gone serial = []
call_in act.Pick serial = []

abbrev pub call_of : ThreadId → Entry → List (ℕ × Phase)
call_of id e = if same_id e.event.who id then call_in e.event.act e.event.serial else []

abbrev pub calls_of : ThreadId → List Entry → List (ℕ × Phase)
calls_of id [] = []
calls_of id (e ∷ es) = call_of id e ++ calls_of id es
