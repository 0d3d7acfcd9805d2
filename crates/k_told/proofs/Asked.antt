-- A carrier's step, by what it asks for: what it is answered, and what is told of it.
use Rattle.std.proofs.Common.{◌≡◌, ℕ, Bool, true, false, refl, sym, subst, Option, Some, None}
use Rattle.std.specs.Prelude.{if◌then◌else◌}
use Rattle.k_locks.specs.declared.steps.Answer.{Answer}
use Rattle.k_locks.specs.Steps.{answer_of, word_of}
use Rattle.k_script.specs.Script.{Script}
use Rattle.k_context.specs.Contexts.{ContextSeen, step_of}
use Rattle.k_carrier.specs.declared.moves.Stepped.{Stepped}
use Rattle.k_carrier.specs.Asked.{CarrierAsk, LookAt, PutDown, Run, Take, ask_of, ask_with, asked_by, move_by}
use Rattle.k_carrier.specs.Rules.{gives}
use Rattle.k_carrier.specs.Seen.{CarrierSeen, HandSeen}
use Rattle.k_carrier.specs.Told.{stepped_of}
use Rattle.k_world.specs.Moves.{answer_by, goods_for}
use Rattle.k_world.specs.Steps.{step_in, told_of}
use Rattle.k_world.specs.Worlds.{World, carrier_at, word_at}

-- it has nothing to do with what it has in hand
abbrev pub IsHandless : CarrierAsk → Type 0
IsHandless (Run x) = ⊥
IsHandless (PutDown x) = ⊥
IsHandless (LookAt n) = Unit {0}
IsHandless (Take n bits) = Unit {0}

-- without a hand it looks at a context, or takes one
pub hand_none : (k : CarrierSeen) (a : CarrierAsk) → ask_of k ≡ a → IsHandless a → k.hand ≡ None
hand_none k a e free = by k.hand refl e
  where
    held : (x : HandSeen) (t : Bool) → (if t then PutDown x else Run x) ≡ a → ⊥
    held x true z = subst IsHandless (sym z) free
    held x false z = subst IsHandless (sym z) free

    by : (o : Option HandSeen) → k.hand ≡ o → ask_with k o ≡ a → k.hand ≡ None
    by None q z = q
    by (Some x) q z = absurd (held x (gives k x) z)

module _ (script : Script) (w : World) (c : ℕ) where
  abbrev K : CarrierSeen
  K = carrier_at w c

  -- what is told of the step that it asks for
  abbrev pub ToldWith : CarrierAsk → Stepped
  ToldWith a = stepped_of (asked_by script K a) (answer_by w (move_by script K a))

  pub told_with : told_of script c w ≡ ToldWith (ask_of K)
  unfolding told_of step_in
  told_with = refl

  -- what comes of the step of a context in its hand
  abbrev pub Heard : ContextSeen → Answer
  Heard v = answer_of (step_of v) (word_at w (word_of (step_of v))) (goods_for w (step_of v))
