-- A thread's context after an answer.
use Rattle.std.proofs.Common.{◌≡◌, ℕ, Bool, false, cond, sym, ap, subst}
use Rattle.k_ids.specs.declared.state_word.StateWord.{StateWord}
use Rattle.k_locks.specs.Steps.{is_again}
use Rattle.k_locks.specs.declared.steps.Answer.{Answer}
use Rattle.k_script.specs.Script.{Script}
use Rattle.k_caller.specs.declared.activity.Activity.{Activity}
use Rattle.k_caller.specs.declared.ran.Ran.TheVariants as ran
use Rattle.k_caller.specs.Activities.{IsSoundAt, TellsAt, TellsIn, activity_after, ran_at}
use Rattle.k_caller.specs.Threads.{IsFit, IsSound, ThreadSeen, ran_of}
use Rattle.k_caller.proofs.Resumed.{after_tells}

pub ran_on : (t : ThreadSeen) (a : Answer) → is_again a ≡ false → ran_of t a ≡ ran_at t.serial t.id t.own t.activity a
ran_on t a e = ap (λ (b : Bool). cond b ran.Again (ran_at t.serial t.id t.own t.activity a)) e

pub answered_sound : (script : Script) (t : ThreadSeen) (a : Answer) (own : StateWord) (done : ℕ) (x : Activity) → IsSound script t → IsFit script t a → is_again a ≡ false → x ≡ activity_after t.id t.own t.activity a → IsSoundAt t.id own x → IsSound script (record t { own = own; done = done; activity = x })
answered_sound script t a own done x sound fit onward e doing = record {
  id = sound.id;
  inside = sound.inside;
  within = sound.within;
  doing = doing;
  tells = subst (TellsAt script.table) (sym e) (after_tells script.table t.serial t.id t.own t.activity a (subst (TellsIn script.table) (ran_on t a onward) fit.tells));
}
