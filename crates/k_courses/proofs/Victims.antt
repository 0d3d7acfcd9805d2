-- While a destroy is about to remove its victim's context, a context of the victim's number is the victim's.
use Rattle.std.proofs.Common.{◌≡◌, ◌≢◌, ℕ, ◌==◌, Bool, true, false, refl, sym, ap, ◌∙◌, subst, Option, Some, None, arith}
use Rattle.std.specs.Prelude.{if◌then◌else◌}
use Rattle.std.proofs.lemmas.Bool.{eqb-true}
use Rattle.k_ids.specs.declared.state_word.StateWord.{StateWord}
use Rattle.k_ids.specs.declared.threads.ThreadId.{ThreadId}
use Rattle.k_threads.specs.declared.destroy.DestroyCall.{DestroyCall}
use Rattle.k_threads.specs.declared.destroy.DestroyLocked.TheVariants as destroy_locked
use Rattle.k_threads.specs.DestroyTable as destroy
use Rattle.k_caller.specs.declared.activity.Activity.{Activity}
use Rattle.k_caller.specs.declared.activity.Activity.TheVariants as activity
use Rattle.k_caller.specs.declared.thread.ThreadLocation.TheVariants as location
use Rattle.k_caller.specs.Threads.{ThreadSeen}
use Rattle.k_script.specs.Limits.{IsScript}
use Rattle.k_script.specs.Script.{Script}
use Rattle.k_context.specs.Contexts.{Carrier, ContextSeen, Thread, owner_of}
use Rattle.k_carrier.specs.Asked.{version_of}
use Rattle.k_world.specs.Worlds.{World}
use Rattle.k_board.specs.Boards.{Board, Coming, Context, InDestroy}
use Rattle.k_board.specs.Facts.{AllSay}
use Rattle.k_board.specs.Places.{facts_of}
use Rattle.k_good.specs.Ranges.{FitsAt}
use Rattle.k_locks.specs.Shown.{is_dead, is_dead_state}
use Rattle.k_places.specs.Contexts.{IsShown, ShowsContext, at_in, programs_of, thread_at}
use Rattle.k_tokens.specs.Views.{by_owner}
use Rattle.k_tokens.specs.World.{Threads}
use Rattle.k_grants.specs.Views.{Look, look_at, looks_of, made_by}
use Rattle.k_aligned.specs.Aligned.{found_in}
use Rattle.k_kernel.proofs.Agreeing.{facts_all}
use Rattle.k_onward.specs.Stepping.{IsMoment}
use Rattle.k_onward.proofs.Asks.{IsRemoving}

made_looks : (a : Activity) (v : ℕ) → made_by (look_at (at_in a)).is_coming v ≡ v
made_looks (activity.Alone p) v = refl
made_looks (activity.Send s) v = refl
made_looks (activity.Receive s) v = refl
made_looks (activity.Create s) v = refl
made_looks (activity.Destroy s) v = refl

made_shown : (word : StateWord) (n : ℕ) (t : ThreadSeen) (x : Context) → IsShown word n t x →
    made_by (look_at x.at).is_coming word.version ≡ t.id.version
made_shown word n t x shown =
    ap (λ p. made_by (look_at p).is_coming word.version) stands ∙ by (word.version == t.id.version) refl
  where
    stands : x.at ≡ thread_at word t
    stands = ap (λ (y : Context). y.at) shown.context

    by : (q : Bool) → (word.version == t.id.version) ≡ q →
        made_by (look_at (if q then at_in t.activity else Coming)).is_coming word.version ≡ t.id.version
    by true e = made_looks t.activity word.version ∙ eqb-true word.version t.id.version e
    by false e = sym (shown.coming (stands ∙ rw e refl)).version

module _ (script : Script) (limits : IsScript script) (w : World) (h : IsMoment script w) (i : ℕ) (v : ContextSeen)
    (id : ThreadId)
    (found : found_in w i ≡ Some v) (r : IsRemoving v id) where
  abbrev B : Board
  B = h.board

  abbrev Call : DestroyCall
  Call = r.section.call

  shown : IsShown (B.seen i).word i r.thread (B.context i)
  shown =
      subst (λ (o : Option ContextSeen). ShowsContext (B.seen i).word i o (B.context i)) (found ∙ ap Some r.is)
      (h.aligned.shows.shows.contexts i)

  stands : (B.context i).at ≡ InDestroy Call (destroy.Locked destroy_locked.RemoveContext)
  stands = by ((B.seen i).word.version == r.thread.id.version) refl
    where
      by : (q : Bool) → ((B.seen i).word.version == r.thread.id.version) ≡ q →
          (B.context i).at ≡ InDestroy Call (destroy.Locked destroy_locked.RemoveContext)
      by true q = ap (λ (c : Context). c.at) shown.context ∙ rw q (ap at_in r.doing ∙ ap (InDestroy Call) r.at)
      by false q =
          let doing = (shown.coming (ap (λ (c : Context). c.at) shown.context ∙ rw q refl)).doing in
          let no : activity.Destroy r.section ≡ activity.Alone (location.Between None) = sym r.doing ∙ doing in
          absurd cc

  facts : AllSay (programs_of script) B i (B.context i) (facts_of (InDestroy Call (destroy.Locked destroy_locked.RemoveContext)))
  facts =
      subst (λ p. AllSay (programs_of script) B i (B.context i) (facts_of p)) stands
      (facts_all script limits B h.entries h.state h.whole.holds i)

  victim : h.view.threads.victim ≡ Some Call.who
  victim =
      ap (λ (t : Threads). t.victim) h.whole.pair.alike.agrees.threads
      ∙ ap (by_owner None (λ (l : Look). l.victim) (looks_of B)) facts.0.0 ∙ ap (λ p. (look_at p).victim) stands

  made : h.view.threads.made Call.who.number ≡ Call.who.version
  made = (h.whole.pair.world.1.threads.victim Call.who victim).3

  -- a thread's context is of the version that the view has
  made_is : (n : ℕ) (t : ThreadSeen) → found_in w n ≡ Some (Thread t) → h.view.threads.made n ≡ t.id.version
  made_is n t at =
      ap (λ (z : Threads). z.made n) h.whole.pair.alike.agrees.threads
      ∙ made_shown (B.seen n).word n t (B.context n)
      (subst (λ (o : Option ContextSeen). ShowsContext (B.seen n).word n o (B.context n)) at (h.aligned.shows.shows.contexts n))

  within : FitsAt B.size (InDestroy Call (destroy.Locked destroy_locked.RemoveContext))
  within = subst (FitsAt B.size) stands (h.whole.holds.proper.within.targets i)

  pub victims_version : (u : ContextSeen) → found_in w id.number ≡ Some u → version_of (owner_of u) ≡ id.version
  victims_version (Thread t) there =
      let at : found_in w Call.who.number ≡ Some (Thread t) = ap (λ (z : ThreadId). found_in w z.number) r.who ∙ there in
      sym (made_is Call.who.number t at) ∙ made ∙ ap (λ (z : ThreadId). z.version) r.who
  victims_version (Carrier k) there =
      let number = (h.aligned.contexts id.number (Carrier k) there).0 in
      let same = ap (λ (z : ThreadId). z.number) r.who in
      let size = h.aligned.shows.shows.size in
      let inside = within.0.number in
      absurd (omega (arith, number, same, size, inside))

  -- who is removed doesn't remove itself
  pub removes_another : id.number ≢ i
  removes_another same =
      let kept = facts.1.1.1.1.1.0 in
      let own : is_dead (B.seen i).word ≡ false = ap is_dead kept.1 ∙ ap is_dead_state kept.0.state in
      let no : true ≡ false = sym facts.0.1 ∙ ap (λ n. is_dead (B.seen n).word) (ap (λ (z : ThreadId). z.number) r.who ∙ same)
      ∙ own in absurd cc
