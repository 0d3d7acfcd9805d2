-- Whether a thread's context has a next step, or a next call.
use Rattle.std.proofs.Common.{◌≡◌, ℕ, true, refl, Some, None}
use Rattle.k_ids.specs.declared.threads.ThreadId.{ThreadId}
use Rattle.k_ids.specs.declared.state_word.StateWord.{StateWord}
use Rattle.k_locks.specs.declared.steps.Went.{Went}
use Rattle.k_locks.specs.declared.steps.Went.TheVariants as went
use Rattle.k_locks.specs.Steps as steps
use Rattle.k_locks.specs.Steps.{is_again, suits}
use Rattle.k_caller.specs.declared.activity.Activity.{Activity}
use Rattle.k_caller.specs.declared.activity.Activity.TheVariants as activity
use Rattle.k_caller.specs.declared.thread.ThreadLocation.{ThreadLocation}
use Rattle.k_caller.specs.declared.thread.ThreadLocation.TheVariants as location
use Rattle.k_caller.specs.Waits as alone
use Rattle.k_caller.specs.Activities.{after_went, can_ask, goes_on, has_next, ran_after}

-- AFTER AN ANSWER

asks_next : (x : Activity) → can_ask x ≡ true → has_next x ≡ true
asks_next (activity.Alone location.FallAsleep) e = refl
asks_next (activity.Alone location.LookAgain) e = refl
asks_next (activity.Alone (location.LoadMail from)) e = refl
asks_next (activity.Alone (location.Work count)) e = refl
asks_next (activity.Alone location.CommitEnd) e = refl
asks_next (activity.Alone (location.Between last)) e = refl
asks_next (activity.Alone location.Asleep) e = e
asks_next (activity.Alone location.Ended) e = e
asks_next (activity.Alone location.Dead) e = e
asks_next (activity.Send s) e = e
asks_next (activity.Receive s) e = e
asks_next (activity.Create s) e = e
asks_next (activity.Destroy s) e = e

pub ended_next : (serial : ℕ) (me : ThreadId) (own : StateWord) (x : Activity) (w : Went) → (steps.goes_on w ≡ true → can_ask x ≡ true) → has_next (after_went me own x w) ≡ goes_on (ran_after serial w)
ended_next serial me own x went.On on = asks_next x (on refl)
ended_next serial me own x went.Again on = asks_next x (on refl)
ended_next serial me own x (went.Pushed priority) on = asks_next x (on refl)
ended_next serial me own x went.Waits on = refl
ended_next serial me own x (went.Ends r) on = refl
ended_next serial me own x went.CallerDead on = refl
ended_next serial me own x went.Picks on = refl

pub alone_next : (serial : ℕ) (p : ThreadLocation) → has_next (activity.Alone p) ≡ goes_on (alone.ran_to serial p)
alone_next serial (location.Between (Some r)) = refl
alone_next serial (location.Between None) = refl
alone_next serial location.FallAsleep = refl
alone_next serial location.LookAgain = refl
alone_next serial (location.LoadMail from) = refl
alone_next serial (location.Work count) = refl
alone_next serial location.CommitEnd = refl
alone_next serial location.Asleep = refl
alone_next serial location.Ended = refl
alone_next serial location.Dead = refl
