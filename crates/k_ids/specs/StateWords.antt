-- State words: their spelling in 64 bits. Here the fields stand at their places; all else follows from `state_bits` and
-- `IsStateWord`.
use Rattle.std.specs.Prelude.{Bool, true, false, ℕ, ◌≡◌, ◌+◌, ◌*◌, ◌/◌, ◌%◌, ◌^◌, ◌<◌, ◌≤◌, ◌==◌, if◌then◌else◌, Option, Some, None, IfSome}
use Rattle.k_ids.specs.declared.threads.ThreadId.{ThreadId}
use Rattle.k_ids.specs.declared.state_word.Result4.{Result4}
use Rattle.k_ids.specs.declared.state_word.Result4.TheVariants as result4
use Rattle.k_ids.specs.declared.state_word.State.{State}
use Rattle.k_ids.specs.declared.state_word.State.TheVariants as state
use Rattle.k_ids.specs.declared.state_word.StateWord.{StateWord}

-- THE FIELDS OF A STATE

abbrev pub code_of : State → ℕ
code_of state.Dead = 0
code_of (state.Run r) = 1
code_of (state.Sending to joined) = 2
code_of (state.Receiving from) = 3
code_of state.Picking = 3
code_of state.Ended = 4

-- A call's sending is joined to the receiving that follows it. In a receiving from any this bit means picking.
abbrev pub is_joined : State → Bool
is_joined (state.Sending to joined) = joined
is_joined state.Picking = true
is_joined state.Dead = false
is_joined (state.Run r) = false
is_joined (state.Receiving from) = false
is_joined state.Ended = false

abbrev pub is_any : State → Bool
is_any (state.Receiving None) = true
is_any state.Picking = true
is_any (state.Receiving (Some from)) = false
is_any state.Dead = false
is_any (state.Run r) = false
is_any (state.Sending to joined) = false
is_any state.Ended = false

abbrev pub result_code : Result4 → ℕ
result_code result4.Plain = 0
result_code result4.Sent = 1
result_code (result4.Delivered from) = 2
result_code result4.Gone = 3

abbrev pub result_of : State → ℕ
result_of (state.Run r) = result_code r
result_of state.Dead = 0
result_of (state.Sending to joined) = 0
result_of (state.Receiving from) = 0
result_of state.Picking = 0
result_of state.Ended = 0

-- The thread that the state names, if it names one.
abbrev pub partner_of : State → Option ThreadId
partner_of (state.Run (result4.Delivered from)) = Some from
partner_of (state.Sending to joined) = Some to
partner_of (state.Receiving from) = from
partner_of (state.Run result4.Plain) = None
partner_of (state.Run result4.Sent) = None
partner_of (state.Run result4.Gone) = None
partner_of state.Dead = None
partner_of state.Picking = None
partner_of state.Ended = None

-- THE SPELLING

abbrev pub bit : Bool → ℕ
bit true = 1
bit false = 0

-- A partner's number stands in bits 8 to 13, its version in bits 14 to 33. Without a partner they are zero.
abbrev pub partner_bits : Option ThreadId → ℕ
partner_bits None = 0
partner_bits (Some id) = 2 ^ 8 * id.number + 2 ^ 14 * id.version

-- Bits 0 to 2 code, 3 on, 4 joined or picking, 5 any, 6 to 7 the result of a run, 8 to 33 the partner, 34 to 53 the version,
-- 54 to 59 the priority. The bits 60 to 63 are zero.
unfoldable pub state_bits : StateWord → ℕ
state_bits w = code_of w.state + 2 ^ 3 * bit w.on + 2 ^ 4 * bit (is_joined w.state) + 2 ^ 5 * bit (is_any w.state)
    + 2 ^ 6 * result_of w.state + partner_bits (partner_of w.state) + 2 ^ 34 * w.version + 2 ^ 54 * w.priority

-- WHICH FIELDS GO TOGETHER

pub record IsPartner (id : ThreadId) : Type 0 where
  pub number : id.number < 64
  pub born : 1 ≤ id.version
  pub version : id.version < 2 ^ 20

-- A dead word has its number's last version, 0 where there was none, and nothing else. An ended thread is never on. All but
-- the dead have a version of at least 1.
abbrev pub Agrees : State → StateWord → Type 0
Agrees state.Dead w = (w.on ≡ false) × (w.priority ≡ 0)
Agrees (state.Run r) w = 1 ≤ w.version
Agrees (state.Sending to joined) w = 1 ≤ w.version
Agrees (state.Receiving from) w = 1 ≤ w.version
Agrees state.Picking w = 1 ≤ w.version
Agrees state.Ended w = (1 ≤ w.version) × (w.on ≡ false)

-- The thread is there and goes on: it is neither dead nor ended, and so may be on.
abbrev pub is_live : State → Bool
is_live (state.Run r) = true
is_live (state.Sending to joined) = true
is_live (state.Receiving from) = true
is_live state.Picking = true
is_live state.Dead = false
is_live state.Ended = false

-- The fields are together those of a spelling.
pub record IsStateWord (w : StateWord) : Type 0 where
  pub version : w.version < 2 ^ 20
  pub priority : w.priority < 64
  pub partner : IfSome (partner_of w.state) IsPartner
  pub agrees : Agrees w.state w

-- READING

abbrev pub result_from : ℕ → ThreadId → Result4
result_from code partner = if code == 1 then result4.Sent
    else (if code == 2 then result4.Delivered partner else (if code == 3 then result4.Gone else result4.Plain))

abbrev pub receiving_from : Bool → Bool → ThreadId → State
receiving_from joined any partner =
    if any then (if joined then state.Picking else state.Receiving None) else state.Receiving (Some partner)

abbrev pub state_from : ℕ → Bool → Bool → ℕ → ThreadId → State
state_from code joined any result partner = if code == 1 then state.Run (result_from result partner)
    else (if code == 2 then state.Sending partner joined
    else (if code == 3 then receiving_from joined any partner
    else (if code == 4 then state.Ended else state.Dead)))

abbrev pub partner_at : ℕ → ThreadId
partner_at n = record { number = n / 2 ^ 8 % 64; version = n / 2 ^ 14 % 2 ^ 20 }

abbrev pub state_at : ℕ → State
state_at n = state_from (n % 8) ((n / 2 ^ 4 % 2) == 1) ((n / 2 ^ 5 % 2) == 1) (n / 2 ^ 6 % 4) (partner_at n)

-- The word of these bits. It is total: bits that are no spelling give some word all the same.
unfoldable pub state_word_of : ℕ → StateWord
state_word_of n = record { version = n / 2 ^ 34 % 2 ^ 20; priority = n / 2 ^ 54 % 64; on = (n / 2 ^ 3 % 2) == 1; state = state_at n }

-- These bits are the spelling of a word.
pub record IsStateSpelling (n : ℕ) : Type 0 where
  pub whole : IsStateWord (state_word_of n)
  pub same : state_bits (state_word_of n) ≡ n
