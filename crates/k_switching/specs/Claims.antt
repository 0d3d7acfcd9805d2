-- What is asked of a carrier's step, and what a context has that a carrier makes a step of.
use Rattle.std.specs.Prelude.{◌≡◌, ℕ, true, false, Some}
use Rattle.k_tokens.specs.World.{ContextName, OfThread, OfCarrier, Awake, is_open, World}
use Rattle.k_tokens.specs.Steps.{ThreadStep}
use Rattle.k_tokens.specs.Grants.{Grants}
use Rattle.k_switching.specs.Rules.{gives}

-- the context is in the carrier's hand, and no rule gives it back
pub record IsAsked (w : World) (c : ℕ) (context : ContextName) : Type 0 where
  pub hand : (w.carrier c).hand ≡ Some context
  pub kept : gives w c (w.carrier c) context ≡ false

-- where a thread's context makes the step, its location grants it
abbrev pub Granted : World → ℕ → ThreadStep → Type 0
Granted w c step = (t : ℕ) → IsAsked w c (OfThread t) → Grants w t step

-- the context has a next step
abbrev pub CanStep : World → ContextName → Type 0
CanStep w (OfThread t) = w.threads.condition t ≡ Awake
CanStep w (OfCarrier c) = is_open (w.own c).stage ≡ true
