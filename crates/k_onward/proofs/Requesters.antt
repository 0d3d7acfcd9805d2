-- The thread for which a carrier works was made: its number's version isn't earlier.
use Rattle.std.proofs.Common.{◌≡◌, ℕ, ◌<◌, ◌≤◌, Bool, true, false, refl, sym, ap, ◌∙◌, subst, Option, Some, None, length, arith}
use Rattle.std.proofs.Common.{inl, inr}
use Rattle.std.proofs.lemmas.Bool.{cases_Bool, cases_lt}
use Rattle.k_ids.specs.declared.state_word.StateWord.{StateWord}
use Rattle.k_ids.specs.declared.threads.ThreadId.{ThreadId}
use Rattle.k_script.specs.Script.{Script}
use Rattle.k_switch.specs.declared.goal.Goal.{Goal}
use Rattle.k_context.specs.declared.owner.Owner.{Owner}
use Rattle.k_context.specs.declared.owner.Owner.TheVariants as owner
use Rattle.k_carrier.specs.Running.{runner_by, runner_of}
use Rattle.k_carrier.specs.Seen.{CarrierSeen}
use Rattle.k_world.specs.Worlds.{World, carrier_at}
use Rattle.k_board.specs.Boards.{Board}
use Rattle.k_places.specs.Shows.{ShowsBoard}
use Rattle.k_tokens.specs.Good.{GoalOf, Holder, Nobody, Parts}
use Rattle.k_tokens.specs.World.{Threads, has_switch}
use Rattle.k_tokens.specs.World as tokens
use Rattle.k_moves.specs.Views.{goal_in}
use Rattle.k_aligned.specs.Aligned.{IsAligned}
use Rattle.k_onward.specs.Stepping.{IsMoment}
use Rattle.k_waits.specs.Waits.{IsPast}

module _ (script : Script) (w : World) (h : IsMoment script w) (low : 0 < length w.carriers) where
  abbrev K : CarrierSeen
  K = carrier_at w 0

  al : IsAligned script 0 K h.view
  al = h.aligned.carriers 0 low

  abbrev holder : ThreadId → Holder
  holder = h.whole.pair.world.0

  parts : Parts h.view holder
  parts = h.whole.pair.world.1

  -- its own context has no switch, unless it is switching
  unswitched : K.switching ≡ false → has_switch (h.view.own 0).stage ≡ false
  unswitched sw = elim (cases_Bool (has_switch (h.view.own 0).stage)) [
    | inr f ↦ f
    | inl t ↦
        let yes : (h.view.carrier 0).switching ≡ true = (parts.carriers 0).switch_own t in
        let no : true ≡ false = sym yes ∙ ap (λ (k : tokens.Carrier). k.switching) al.viewed ∙ sw in
        absurd cc
  ]

  goal_held : (g : Goal) → K.switching ≡ false → K.goal ≡ Some g → holder g.id ≡ GoalOf 0
  goal_held g sw e =
      parts.tokens.goal 0 g.id (rw (unswitched sw)
      (ap (λ (k : tokens.Carrier). k.goal) al.viewed ∙ ap goal_in e))

  version_is : (n : ℕ) → h.view.threads.version n ≡ (h.board.seen n).word.version
  version_is n = ap (λ (t : Threads). t.version n) h.whole.pair.alike.agrees.threads

  goal_past : (g : Goal) → K.switching ≡ false → K.goal ≡ Some g → g.id.version ≤ (h.board.seen g.id.number).word.version
  goal_past g sw e = elim (cases_lt (h.view.threads.version g.id.number) g.id.version) [
    | inl l ↦
        let no : Nobody ≡ GoalOf 0 = sym (parts.threads.old g.id l) ∙ goal_held g sw e in
        absurd cc
    | inr l ↦ let v = version_is g.id.number in omega (arith, l, v)
  ]

  runner_past : (q : Bool) → K.switching ≡ q → (o : Option Goal) → K.goal ≡ o → IsPast h.board (runner_by q K.number o)
  runner_past true sw o e = tt
  runner_past false sw None e = tt
  runner_past false sw (Some g) e = goal_past g sw e

  -- on any board that the world shows
  pub requester_past : (o : Owner) → runner_of K ≡ o → (b : Board) → ShowsBoard script w b → IsPast b o
  requester_past o is b sh =
      subst (IsPast b) is (by (runner_of K) (runner_past K.switching refl K.goal refl))
    where
      by : (r : Owner) → IsPast h.board r → IsPast b r
      by (owner.Carrier number) p = tt
      by (owner.Thread id) p =
          let same : (b.seen id.number).word ≡ (h.board.seen id.number).word =
          (sh.shows.seen id.number).word ∙ sym (h.aligned.shows.shows.seen id.number).word in
          let v = ap (λ (z : StateWord). z.version) same in
          omega (arith, p, v)
