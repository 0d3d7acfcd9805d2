-- A thread between two calls has the specification's reply to its last one.
use Rattle.std.proofs.Common.{◌≡◌, ℕ, ◌==◌, true, sym, ap, ◌∙◌, subst, Option, Some}
use Rattle.std.proofs.lemmas.Bool.{eq-eqb}
use Rattle.k_ids.specs.declared.calls.Reply.{Reply}
use Rattle.k_script.specs.Script.{Script}
use Rattle.k_caller.specs.declared.activity.Activity.TheVariants as activity
use Rattle.k_caller.specs.declared.thread.ThreadLocation.TheVariants as location
use Rattle.k_caller.specs.Threads.{ThreadSeen}
use Rattle.k_context.specs.Contexts.{ContextSeen, Thread}
use Rattle.k_world.specs.Worlds.{World, state_at}
use Rattle.k_board.specs.Boards.{Alone, Context}
use Rattle.k_places.specs.Contexts.{IsShown, ShowsContext, at_in}
use Rattle.k_places.specs.Memory.{Memory, memory_of}
use Rattle.k_places.specs.Shows.{context_in}
use Rattle.k_kernel.specs.Worlds.{WorldHolds}
use Rattle.k_kernel.proofs.Runs.{word_seen}

module _ (script : Script) (w : World) (h : WorldHolds script w) (i : ℕ) (t : ThreadSeen) where
  abbrev Memo : Memory
  Memo = memory_of w

  shown_thread : context_in Memo.context Memo.slot Memo.hand i ≡ Some (Thread t) →
      IsShown (h.board.seen i).word i t (h.board.context i)
  shown_thread e =
      subst (λ (o : Option ContextSeen). ShowsContext (h.board.seen i).word i o (h.board.context i)) e (h.shows.shows.contexts i)

  pub serial_shown : context_in Memo.context Memo.slot Memo.hand i ≡ Some (Thread t) → (h.board.context i).serial ≡ t.serial
  serial_shown e = ap (λ (x : Context). x.serial) (shown_thread e).context

  -- of a thread that is made
  pub between_shown : (r : Reply) → context_in Memo.context Memo.slot Memo.hand i ≡ Some (Thread t) →
      (state_at w i).version ≡ t.id.version
      → t.activity ≡ activity.Alone (location.Between (Some r)) → (h.board.context i).at ≡ Alone (location.Between (Some r))
  between_shown r e made doing =
      let version : (h.board.seen i).word.version ≡ t.id.version = sym (ap (λ v. v.version) (word_seen script w h i)) ∙ made in
      let same : ((h.board.seen i).word.version == t.id.version) ≡ true =
      eq-eqb (h.board.seen i).word.version t.id.version version in
      ap (λ (x : Context). x.at) (shown_thread e).context ∙ rw same (ap at_in doing)
