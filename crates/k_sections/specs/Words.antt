-- Whether two state words are the same, field by field.
use Rattle.std.specs.Prelude.{◌==◌, Bool, true, false, ◌&&◌, Option, Some, None}
use Rattle.k_ids.specs.declared.threads.ThreadId.{ThreadId}
use Rattle.k_ids.specs.declared.state_word.Result4.{Result4}
use Rattle.k_ids.specs.declared.state_word.Result4.TheVariants as result4
use Rattle.k_ids.specs.declared.state_word.State.{State}
use Rattle.k_ids.specs.declared.state_word.State.TheVariants as state
use Rattle.k_ids.specs.declared.state_word.StateWord.{StateWord}
use Rattle.k_model.specs.State.{same_id}

-- both true, or both false
abbrev pub same_flag : Bool → Bool → Bool
same_flag true true = true
same_flag false false = true
same_flag a b = false

-- the same thread, or none
abbrev pub same_from : Option ThreadId → Option ThreadId → Bool
same_from None None = true
same_from (Some a) (Some b) = same_id a b
same_from a b = false

-- the same result, of the same partner
abbrev pub same_result : Result4 → Result4 → Bool
same_result result4.Plain result4.Plain = true
same_result result4.Sent result4.Sent = true
same_result result4.Gone result4.Gone = true
same_result (result4.Delivered a) (result4.Delivered b) = same_id a b
same_result a b = false

-- the same state, with the same partner and result
abbrev pub same_state : State → State → Bool
same_state state.Dead state.Dead = true
same_state (state.Run a) (state.Run b) = same_result a b
same_state (state.Sending a m) (state.Sending b n) = same_id a b && same_flag m n
same_state (state.Receiving a) (state.Receiving b) = same_from a b
same_state state.Picking state.Picking = true
same_state state.Ended state.Ended = true
same_state a b = false

-- the same version, priority, flag and state
abbrev pub same_words : StateWord → StateWord → Bool
same_words v w =
    (v.version == w.version) && ((v.priority == w.priority) && (same_flag v.on w.on && same_state v.state w.state))
