-- A send, a call or a reply, run alone.
use Rattle.std.specs.Prelude.{ℕ, ◌<◌, ◌^◌, ◌≡◌, true}
use Rattle.std.specs.Option.{option_map}
use Rattle.k_ids.specs.declared.state_word.Result4.TheVariants as result4
use Rattle.k_ids.specs.declared.state_word.State.TheVariants as state
use Rattle.k_ids.specs.StateWords.{IsPartner}
use Rattle.k_ipc.specs.declared.send.SendCall.{SendCall}
use Rattle.k_ipc.specs.declared.send.SendSection.{SendSection}
use Rattle.k_ipc.specs.SendTable.{CanPush, IsFit, asked, at_of, can_ask, hand_of, heard, passed_end, points, resumed, step_of, went_of}
use Rattle.k_locks.specs.Steps.{suits}
use Rattle.k_alone.specs.Alone.{CanStep, Kind, Run, entry_at, run}

-- `serial` is that of the caller's call.
abbrev pub send_kind : ℕ → Kind SendSection
send_kind serial = record {
  next = step_of;
  after = λ s a. resumed (asked s) a;
  went = λ s a. went_of s.call (hand_of (asked s).location) (at_of s.location) (heard s a);
  decides = λ m s a. option_map (entry_at (λ n. serial)) (points s.call (m.word s.call.caller.number) (hand_of (asked s).location) (at_of s.location) (heard s a));
  may_ask = λ s. (can_ask s.location ≡ true) × CanPush s.call (hand_of s.location) (at_of s.location);
  may_tell = λ s a. (suits (step_of (asked s)) a ≡ true) × IsFit (at_of (asked s).location) a;
}

-- What is sent: by one thread to another, in words of 32 bits.
pub record IsSendCall (c : SendCall) : Type 0 where
  pub caller : IsPartner c.caller
  pub to : IsPartner c.to
  pub low : c.message.low < 2 ^ 32
  pub high : c.message.high < 2 ^ 32

-- The run ends as that of a message that passes. It leaves the message in the receiver's mail word, and the receiver's state
-- word names the sender.
pub record Delivers (c : SendCall) (t : Kind SendSection) (start : Run SendSection) : Type 0 where
  pub steps : ℕ
  pub final : Run SendSection
  pub runs : run t steps start ≡ final
  pub able : (i : ℕ) → i < steps → CanStep t (run t i start)
  pub went : final.went ≡ passed_end c.manner
  pub mail : final.memory.mail c.to.number ≡ c.message
  pub word : (final.memory.word c.to.number).state ≡ state.Run (result4.Delivered c.caller)
  pub on : (final.memory.word c.to.number).on ≡ true
