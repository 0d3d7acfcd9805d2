-- A thread's context of the raw world stands on the board where it is.
use Rattle.std.proofs.Common.{◌≡◌, ℕ, ◌==◌, true, refl, ap, ◌∙◌, subst, Option, Some}
use Rattle.k_script.specs.Script.{Script}
use Rattle.k_caller.specs.Threads.{ThreadSeen}
use Rattle.k_context.specs.Contexts.{ContextSeen, Thread}
use Rattle.k_board.specs.Boards.{Board, Coming, Context}
use Rattle.k_places.specs.Contexts.{IsShown, ShowsContext, at_in}
use Rattle.k_places.specs.Memory.{Memory}
use Rattle.k_places.specs.Shows.{Shows, context_in}
use Rattle.k_turns.proofs.Comes.{made_test}

module _ (script : Script) (m : Memory) (b : Board) (sh : Shows script m b) (n : ℕ) (t : ThreadSeen)
    (found : context_in m.context m.slot m.hand n ≡ Some (Thread t)) where
  pub shown_as : IsShown (b.seen n).word n t (b.context n)
  shown_as = subst (λ (o : Option ContextSeen). ShowsContext (b.seen n).word n o (b.context n)) found (sh.contexts n)

  -- once its thread is made
  module _ (made : (b.context n).at ≡ Coming → ⊥) where
    version : ((b.seen n).word.version == t.id.version) ≡ true
    version =
        made_test (b.seen n).word t ((b.seen n).word.version == t.id.version) refl
        (λ q. made (ap (λ (z : Context). z.at) shown_as.context ∙ q))

    pub stands_at : (b.context n).at ≡ at_in t.activity
    stands_at = ap (λ (z : Context). z.at) shown_as.context ∙ rw version refl
