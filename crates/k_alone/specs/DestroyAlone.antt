-- The destruction of a thread, run alone.
use Rattle.std.specs.Prelude.{ℕ, ◌≡◌, true, false}
use Rattle.std.specs.Option.{option_map}
use Rattle.k_ids.specs.StateWords.{IsPartner}
use Rattle.k_ids.specs.declared.context_word.ContextWord.TheVariants.{Clean}
use Rattle.k_locks.specs.Steps.{suits}
use Rattle.k_threads.specs.declared.destroy.DestroyCall.{DestroyCall}
use Rattle.k_threads.specs.declared.destroy.DestroySection.{DestroySection}
use Rattle.k_threads.specs.DestroyTable.{CanPush, IsFit, asked, at_of, can_ask, hand_of, points, heard, resumed, step_of, went_of}
use Rattle.k_model.specs.State.{is_present, same_id}
use Rattle.k_shown.specs.Memory.{Memory, table}
use Rattle.k_alone.specs.Alone.{Kind, entry_at}

-- `serials` has each thread's current call.
abbrev pub destroy_kind : (ℕ → ℕ) → Kind DestroySection
destroy_kind serials = record {
  next = step_of;
  after = λ s a. resumed (asked s) a;
  went = λ s a. went_of s.call (hand_of (asked s).location) (at_of s.location) (heard s a);
  decides = λ m s a. option_map (entry_at serials) (points s.call (m.word s.call.caller.number) (hand_of (asked s).location) (at_of s.location) (heard s a));
  may_ask = λ s. (can_ask s.location ≡ true) × CanPush s.call (hand_of s.location) (at_of s.location);
  may_tell = λ s a. (suits (step_of (asked s)) a ≡ true) × IsFit (at_of (asked s).location) a;
}

-- What is destroyed: a thread, in a table of that many numbers. Where it is there, and isn't the caller, its context isn't in a
-- carrier's hand.
pub record IsDestroyCall (m : Memory) (c : DestroyCall) : Type 0 where
  pub who : IsPartner c.who
  pub count : c.count ≡ m.size
  pub home : same_id c.who c.caller ≡ false → is_present (table m) c.who ≡ true → m.context c.who.number ≡ Clean c.who.version
