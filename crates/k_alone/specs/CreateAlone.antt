-- The create of a thread, run alone.
use Rattle.std.specs.Prelude.{ℕ, ◌≡◌, true}
use Rattle.std.specs.Option.{option_map}
use Rattle.k_locks.specs.Steps.{suits}
use Rattle.k_threads.specs.declared.create.CreateSection.{CreateSection}
use Rattle.k_threads.specs.CreateTable.{CanPush, IsFit, asked, at_of, can_ask, hand_of, points, heard, resumed, step_of, went_of}
use Rattle.k_alone.specs.Alone.{Kind, entry_at}

-- `serials` has each thread's current call.
abbrev pub create_kind : (ℕ → ℕ) → Kind CreateSection
create_kind serials = record {
  next = step_of;
  after = λ s a. resumed (asked s) a;
  went = λ s a. went_of s.call (hand_of (asked s).location) (at_of s.location) (heard s a);
  decides = λ m s a. option_map (entry_at serials) (points s.call (m.word s.call.caller.number) (hand_of (asked s).location) (at_of s.location) (heard s a));
  may_ask = λ s. (can_ask s.location ≡ true) × CanPush s.call (hand_of s.location) (at_of s.location);
  may_tell = λ s a. (suits (step_of (asked s)) a ≡ true) × IsFit (at_of (asked s).location) a;
}
