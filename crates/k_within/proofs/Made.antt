-- A carrier runs no context of a thread that isn't made yet.
use Rattle.std.proofs.Common.{◌≡◌, ℕ, ◌-◌, ◌<◌, ◌≤◌, ◌==◌, nat_lt, Bool, true, false, refl, sym, ap, ◌∙◌}
use Rattle.std.proofs.Common.{subst}
use Rattle.std.proofs.Common.{arith, Option, Some, length}
use Rattle.std.specs.Prelude.{if◌then◌else◌}
use Rattle.std.proofs.lemmas.Bool.{eqb-true, false≢true}
use Rattle.std.proofs.lemmas.Bool.Decides.{nat_tests}
use Rattle.k_ids.specs.declared.state_word.StateWord.{StateWord}
use Rattle.k_model.specs.State.{KernelState}
use Rattle.k_script.specs.Script.{Script}
use Rattle.k_caller.specs.Threads.{ThreadSeen}
use Rattle.k_context.specs.Contexts.{Carrier, ContextSeen, Thread}
use Rattle.k_carrier.specs.Asked.{Run, ask_of}
use Rattle.k_carrier.specs.Seen.{CarrierSeen, HandSeen}
use Rattle.k_world.specs.Worlds.{World, carrier_at, state_at}
use Rattle.k_board.specs.Boards.{Board, Coming, Context}
use Rattle.k_plays.specs.Scripts.{ranged_programs}
use Rattle.k_places.specs.Contexts.{IsShown, ShowsContext, at_in}
use Rattle.k_places.specs.Memory.{Memory, memory_of}
use Rattle.k_places.proofs.Places.{held_is}
use Rattle.k_joint.proofs.Runs.{hand_is}
use Rattle.k_tokens.specs.World.{ContextName, OfThread, OfCarrier}
use Rattle.k_tokens.specs.World as tokens
use Rattle.k_switching.specs.Claims.{IsAsked}
use Rattle.k_switching.specs.Rules as rules
use Rattle.k_grants.specs.Views.{name_by, name_of}
use Rattle.k_kernel.specs.Moves.{IsMade}
use Rattle.k_moves.specs.Views.{carrier_view, number_in}
use Rattle.k_moves.specs.Views as views
use Rattle.k_moves.proofs.Gives.{HasAsked, run_asks}
use Rattle.k_moves.proofs.Rules.{gives_same}
use Rattle.k_aligned.specs.Aligned.{found_in}
use Rattle.k_whole.specs.Next.{has_next, number_of}
use Rattle.k_whole.proofs.Next.{asked_next}
use Rattle.k_handling.specs.Handling.{IsKernel}
use Rattle.k_handling.proofs.Contexts.{context_shown, on_board}
use Rattle.k_spelled.proofs.Worlds.{word_shown}

numbered : (b : Board) (n : ℕ) → number_of b (name_of b.size n) ≡ n
numbered b n = by (nat_lt n b.size) refl
  where
    by : (t : Bool) → nat_lt n b.size ≡ t →
        number_of b (if t then OfThread n else OfCarrier (n - b.size)) ≡ n
    by true e = refl
    by false e = let l : b.size ≤ n = grind (arith, nat_tests, e) in omega (arith, l)

module _ (script : Script) (w : World) (b : Board) (view : tokens.World) (state : KernelState)
    (k : IsKernel script w b view state) (c : ℕ) (inside : c < length w.carriers) (x : HandSeen)
    (asks : ask_of (carrier_at w c) ≡ Run x) where
  abbrev K : CarrierSeen
  K = carrier_at w c

  abbrev M : Memory
  M = memory_of w

  at : HasAsked K x false
  at = run_asks K x asks

  found : found_in w x.context ≡ Some x.value
  found = held_is M.context M.slot M.hand c x k.aligned.shows.shows.places (hand_is w c ∙ at.hand)

  table : K.table ≡ script.table
  table = (k.aligned.carriers c inside).sound.table

  size : K.table ≡ b.size
  size = table ∙ sym k.aligned.shows.shows.size

  -- in the view its step is asked for
  asked : IsAsked view c (name_of b.size x.context)
  asked =
      let mine = k.aligned.carriers c inside in
      let shown : views.ShowsContext view K.table x.context x.value =
      subst (λ n. views.ShowsContext view n x.context x.value) (sym table)
      (context_shown script w b view k.aligned.shows k.whole.pair.alike k.aligned.contexts x.context x.value
      found) in
      record {
        hand =
            ap (λ (j : tokens.Carrier). j.hand) mine.viewed
            ∙ ap (λ (o : Option HandSeen). name_by K.table (number_in o)) at.hand
            ∙ ap (λ n. Some (name_of n x.context)) size;
        kept =
            (λ z. rules.gives view (sym mine.number z) (mine.viewed z) (name_of (sym size z) x.context))
            ∙ gives_same view K x shown ∙ at.gives;
      }

  next : has_next (b.context x.context).at ≡ true
  next =
      ap (λ n. has_next (b.context n).at) (sym (numbered b x.context))
      ∙ asked_next (ranged_programs script) b view k.whole.pair c (name_of b.size x.context) asked

  thread_made : (t : ThreadSeen) → IsShown (b.seen x.context).word x.context t (b.context x.context) →
      (b.seen x.context).word.version ≡ t.id.version
  thread_made t shown = by ((b.seen x.context).word.version == t.id.version) refl
    where
      by : (q : Bool) → ((b.seen x.context).word.version == t.id.version) ≡ q →
          (b.seen x.context).word.version ≡ t.id.version
      by true e = eqb-true (b.seen x.context).word.version t.id.version e
      by false e =
          absurd (false≢true (sym (ap has_next (ap (λ (z : Context). z.at) shown.context
          ∙ ap (λ (q : Bool). if q then at_in t.activity else Coming) e)) ∙ next))

  pub run_made : IsMade (state_at w x.context) x.value
  run_made =
      subst (λ (u : StateWord). IsMade u x.value) (sym (word_shown script w b k.aligned.shows x.context))
      (by x.value (on_board script w b view k.aligned.shows k.whole.pair.alike k.aligned.contexts x.context
      x.value found))
    where
      by : (v : ContextSeen) → ShowsContext (b.seen x.context).word x.context (Some v) (b.context x.context) →
          IsMade (b.seen x.context).word v
      by (Thread t) shown = thread_made t shown
      by (Carrier z) shown = tt
