-- A receive, or the pick that follows a reply, run alone.
use Rattle.std.specs.Prelude.{ℕ, ◌≡◌, true, false, None, IfSome}
use Rattle.std.specs.Option.{option_map}
use Rattle.k_ids.specs.declared.threads.ThreadId.{ThreadId}
use Rattle.k_ids.specs.StateWords.{IsPartner}
use Rattle.k_ipc.specs.declared.receive.ReceiveCall.{ReceiveCall}
use Rattle.k_ipc.specs.declared.receive.ReceiveSection.{ReceiveSection}
use Rattle.k_ipc.specs.ReceiveTable.{CanPush, IsFit, asked, at_of, can_ask, hand_of, heard, points, resumed, step_of, went_of}
use Rattle.k_locks.specs.Steps.{suits}
use Rattle.k_alone.specs.Alone.{Kind, entry_at}

-- `serial` is that of the caller's call.
abbrev pub receive_kind : ℕ → Kind ReceiveSection
receive_kind serial = record {
  next = step_of;
  after = λ s a. resumed (asked s) a;
  went = λ s a. went_of s.call (hand_of (asked s).location) (at_of s.location) (heard s a);
  decides = λ m s a. option_map (entry_at (λ n. serial)) (points s.call (m.word s.call.caller.number) (hand_of (asked s).location) (at_of s.location) (heard s a));
  may_ask = λ s. (can_ask s.location ≡ true) × CanPush s.call (hand_of s.location) (at_of s.location);
  may_tell = λ s a. (suits (step_of (asked s)) a ≡ true) × IsFit (at_of (asked s).location) a;
}

-- A receive from one thread or from any.
pub record IsReceiveCall (c : ReceiveCall) : Type 0 where
  pub caller : IsPartner c.caller
  pub from : IfSome c.from IsPartner
  pub receives : c.picks ≡ false

-- The pick that follows a reply.
abbrev pub pick_call : ThreadId → ReceiveCall
pick_call me = record { caller = me; from = None; zero = false; picks = true }
