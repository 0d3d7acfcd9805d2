-- What a carrier takes or gives while its mark stands is as it was: its goal isn't asleep, and its switch neither begins nor
-- is over.
use Rattle.std.proofs.Common.{◌≡◌, ℕ, ◌+◌, ◌<◌, ◌==◌, Bool, true, false, refl, sym}
use Rattle.std.proofs.Common.{ap, ◌∙◌, subst, Option, Some, None, IfSome, arith}
use Rattle.std.specs.Prelude.{◌||◌, is_some}
use Rattle.std.proofs.lemmas.Bool.{eqb-true}
use Rattle.k_ids.specs.declared.context_word.ContextWord.{ContextWord}
use Rattle.k_ids.specs.declared.context_word.ContextWord.TheVariants.{Clean, Empty, Holds, Taken}
use Rattle.k_ids.specs.declared.threads.ThreadId.{ThreadId}
use Rattle.k_ids.specs.ContextWords.{context_word_of}
use Rattle.k_locks.specs.Asks.{want_of}
use Rattle.k_script.specs.Script.{Script}
use Rattle.k_switch.specs.declared.goal.Goal.{Goal}
use Rattle.k_context.specs.declared.owner.Owner.{Owner}
use Rattle.k_context.specs.declared.owner.Owner.TheVariants as owner
use Rattle.k_context.specs.Contexts.{Carrier, ContextSeen, Thread, has_switch, owner_of}
use Rattle.k_carrier.specs.declared.carrier.Target.{Target}
use Rattle.k_carrier.specs.declared.carrier.Target.TheVariants.{GoalOf, Own}
use Rattle.k_carrier.specs.declared.moves.Help.{Help}
use Rattle.k_carrier.specs.Asked.{PutDown, Take, ask_at, ask_of, ask_with, rested, version_in, version_of}
use Rattle.k_carrier.specs.Conditions.{IsGoalIn, IsHandSteady}
use Rattle.k_carrier.specs.Rules.{context_at, is_own, own_switched, readied, switched_in, target_of, target_with}
use Rattle.k_carrier.specs.Running.{runner_by}
use Rattle.k_carrier.specs.Seen.{CarrierSeen, HandSeen}
use Rattle.k_world.specs.Worlds.{World, carrier_at}
use Rattle.k_places.specs.Memory.{memory_of}
use Rattle.k_places.proofs.Places.{held_is}
use Rattle.k_joint.specs.Ready.{IsTaking}
use Rattle.k_joint.proofs.Carried.{put_down_hand}
use Rattle.k_joint.proofs.Grabs.{Aim, Heard, IsThere, aims, take_empty, value_taken}
use Rattle.k_joint.proofs.Runs.{hand_is}
use Rattle.k_turns.specs.Spelled.{ask_at as asks_at}
use Rattle.k_tokens.specs.Good.{IsLooked}
use Rattle.k_tokens.specs.World as tokens
use Rattle.k_moves.specs.Views.{goal_in, help_in, word_in}
use Rattle.k_aligned.specs.Aligned.{IsAligned, found_in}
use Rattle.k_waits.specs.Waits.{IsWaitingFor}
use Rattle.k_waits.specs.Words.{number_of}
use Rattle.k_onward.specs.Stepping.{IsStepping}
use Rattle.k_courses.proofs.Resting.{has_switch_then, not_switched, requester_asks, woken_same}

-- the word that it has looked at, where it takes
looked_is : (k : CarrierSeen) (o : Option ℕ) (n bits : ℕ) → ask_at k o ≡ Take n bits → o ≡ Some bits
looked_is k None n bits e = absurd cc
looked_is k (Some x) n bits e = let q : x ≡ bits = cc in ap Some q

-- of a goal's context that word has the goal's version
looked_version : (help : Option tokens.Help) (sw : Bool) (goal : Option ThreadId) (v : ContextWord) (who : ThreadId)
    (version : ℕ) →
    help ≡ None → sw ≡ false → goal ≡ Some who → IsLooked help sw goal v →
    version_in v ≡ version → version ≡ who.version
looked_version None sw goal (Clean x) who version h s g looked e = sym e ∙ looked who s g
looked_version None sw goal (Holds x) who version h s g looked e = sym e ∙ looked who s g
looked_version None sw goal Empty who version h s g looked e = absurd looked
looked_version None sw goal (Taken c x) who version h s g looked e = absurd looked
looked_version (Some p) sw goal v who version h s g looked e = absurd cc

module _ (script : Script) (w : World) (s : IsStepping script w) (k : ℕ) (o : Owner) (m : IsWaitingFor script w k o)
    (ready : readied (carrier_at w 0) ≡ carrier_at w 0) where
  abbrev K : CarrierSeen
  K = carrier_at w 0

  al : IsAligned script 0 (carrier_at w 0) s.before.view
  al = s.before.aligned.carriers 0 (let c = s.one in omega (arith, c))

  -- the carrier's own context, where it switches for itself
  owns : (n : ℕ) (v : ContextSeen) → found_in w n ≡ Some v → (carrier_at w 0).table + (carrier_at w 0).number ≡ n →
      (carrier_at w 0).switching ≡ true → (n ≡ number_of script.table o) × (owner_of v ≡ o)
  owns n v f at sw = (here, by v refl)
    where
      is : o ≡ owner.Carrier (carrier_at w 0).number
      is = sym m.runner ∙ ap (λ q. runner_by q (carrier_at w 0).number (carrier_at w 0).goal) sw

      here : n ≡ number_of script.table o
      here = let table = al.sound.table in
          let num : number_of script.table o ≡ script.table + (carrier_at w 0).number = ap (number_of script.table) is in
          omega (arith, at, table, num)

      by : (c : ContextSeen) → v ≡ c → owner_of v ≡ o
      by (Thread t) q =
          let sound = s.before.aligned.contexts n (Thread t) (f ∙ ap Some q) in
          let inside = sound.1.inside in
          let num = sound.0 in
          let table = al.sound.table in
          absurd (omega (arith, inside, num, table, at))
      by (Carrier z) q =
          let num = (s.before.aligned.contexts n (Carrier z) (f ∙ ap Some q)).0 in
          let table = al.sound.table in
          let same : z.carrier ≡ (carrier_at w 0).number = omega (arith, num, table, at) in
          ap owner_of q ∙ ap owner.Carrier same ∙ sym is

  -- A GIVE

  pub not_over : (h : HandSeen) → ask_of (carrier_at w 0) ≡ PutDown h → own_switched (carrier_at w 0) h ≡ None
  not_over h e = by (is_own (carrier_at w 0) h) refl
    where
      hand : (carrier_at w 0).hand ≡ Some h
      hand = put_down_hand (carrier_at w 0) h e

      steady : IsHandSteady (carrier_at w 0) h
      steady = subst (λ (z : Option HandSeen). IfSome z (IsHandSteady (carrier_at w 0))) hand al.sound.steady

      found : found_in w h.context ≡ Some h.value
      found =
          held_is (memory_of w).context (memory_of w).slot (memory_of w).hand 0 h s.before.aligned.shows.shows.places
          (hand_is w 0 ∙ hand)

      by : (q : Bool) → is_own (carrier_at w 0) h ≡ q → own_switched (carrier_at w 0) h ≡ None
      by false q = ap (λ z. switched_in z h.value) q
      by true q =
          let at : (carrier_at w 0).table + (carrier_at w 0).number ≡ h.context =
          sym (eqb-true h.context ((carrier_at w 0).table + (carrier_at w 0).number) q) in
          let mine = owns h.context h.value found at (steady.0 q) in
          ap (λ z. switched_in z h.value) q
          ∙ not_switched h.value m.mark.want
          (requester_asks script w k o m h.value (ap (found_in w) (sym mine.0) ∙ found) mine.1)

  pub rests_same : (h : HandSeen) → own_switched (carrier_at w 0) h ≡ None → rested (is_own (carrier_at w 0) h) h.value ≡ h.value
  rests_same h e = rw e refl

  -- A TAKE

  module _ (n bits : ℕ) (e : ask_of (carrier_at w 0) ≡ Take n bits) (sound : IsTaking script 0 (carrier_at w 0)) where
    abbrev Took : CarrierSeen
    Took = Heard script w 0 s.before.board s.before.aligned.shows s.within n bits e sound

    abbrev For : Target
    For = Aim script w 0 s.before.board s.before.aligned.shows s.within n bits e sound

    for_is : For ≡ target_with (carrier_at w 0).help (carrier_at w 0).switching (carrier_at w 0).goal
    for_is = ap target_of ready

    at : context_at Took For ≡ n
    at = aims script w 0 s.before.board s.before.aligned.shows s.within n bits e sound

    looked : (carrier_at w 0).looked ≡ Some bits
    looked =
        ap (λ (c : CarrierSeen). c.looked) (sym ready)
        ∙ looked_is (readied (carrier_at w 0)) (readied (carrier_at w 0)).looked n bits
        (ap (ask_with (carrier_at w 0)) (sym (take_empty (carrier_at w 0) n bits e)) ∙ e)

    module _ (won : ((memory_of w).context n == bits) ≡ true) (v : ContextSeen)
        (h : IsThere script w 0 s.before.board s.before.aligned.shows s.within n bits e sound won v) where
      -- its own context has a switch
      takes_own : For ≡ Own → (carrier_at w 0).switching ≡ true → value_taken Took For v ≡ v
      takes_own q sw =
          let here : (carrier_at w 0).table + (carrier_at w 0).number ≡ n =
          ap (λ (c : CarrierSeen). c.table + c.number) (sym ready) ∙ ap (context_at Took) (sym q) ∙ at in
          let mine = owns n v h.rests here sw in
          let asks = requester_asks script w k o m v (ap (found_in w) (sym mine.0) ∙ h.rests) mine.1 in
          ap (λ z. value_taken Took z v) q ∙ own v refl asks mine.1
        where
          is : o ≡ owner.Carrier (carrier_at w 0).number
          is = sym m.runner ∙ ap (λ z. runner_by z (carrier_at w 0).number (carrier_at w 0).goal) sw

          own : (c : ContextSeen) → v ≡ c → want_of (asks_at v) ≡ Some m.mark.want →
              owner_of v ≡ o → value_taken Took Own v ≡ v
          own (Thread t) z asks of =
              let no : owner.Thread t.id ≡ owner.Carrier (carrier_at w 0).number = sym (ap owner_of z) ∙ of ∙ is in absurd cc
          own (Carrier c) z asks of =
              rw (ap has_switch z ∙ has_switch_then c m.mark.want (ap (λ u.
              want_of (asks_at u)) (sym z) ∙ asks)) refl

      -- its goal isn't asleep
      takes_goal : (g : Goal) → For ≡ GoalOf g → (carrier_at w 0).help ≡ None → (carrier_at w 0).switching ≡ false →
          (carrier_at w 0).goal ≡ Some g → value_taken Took For v ≡ v
      takes_goal g q help sw goal =
          ap (λ z. value_taken Took z v) q
          ∙ woken_same v m.mark.want (requester_asks script w k o m v (ap (found_in w) number ∙ h.rests) (by v refl))
        where
          here : g.id.number ≡ n
          here = ap (context_at Took) (sym q) ∙ at

          is : o ≡ owner.Thread g.id
          is = sym m.runner ∙ (λ d. runner_by (sw d) (carrier_at w 0).number (goal d))

          number : number_of script.table o ≡ n
          number = ap (number_of script.table) is ∙ here

          inside : g.id.number < (carrier_at w 0).table
          inside = (subst (λ z. IfSome z (IsGoalIn (carrier_at w 0).table)) goal al.sound.goal).inside

          version : version_of (owner_of v) ≡ g.id.version
          version =
              let c = s.before.view.carrier 0 in
              let word = ap (λ (z : tokens.Carrier). z.looked) al.viewed ∙ ap word_in looked in
              looked_version c.help c.switching c.goal (context_word_of bits) g.id (version_of (owner_of v))
              (ap (λ (z : tokens.Carrier). z.help) al.viewed ∙ ap (help_in (carrier_at w 0).table) help)
              (ap (λ (z : tokens.Carrier). z.switching) al.viewed ∙ sw)
              (ap (λ (z : tokens.Carrier). z.goal) al.viewed ∙ ap goal_in goal)
              ((s.before.whole.pair.world.1.carriers 0).looked (context_word_of bits) word)
              (ap (λ z. version_in (context_word_of z)) (sym (eqb-true ((memory_of w).context n) bits won))
              ∙ h.version)

          by : (c : ContextSeen) → v ≡ c → owner_of v ≡ o
          by (Thread t) z =
              let num = (s.before.aligned.contexts n (Thread t) (h.rests ∙ ap Some z)).0 in
              let ver = sym (ap (λ u. version_of (owner_of u)) z) ∙ version in
              let same : t.id.number ≡ g.id.number = num ∙ sym here in
              ap owner_of z ∙ (λ d. owner.Thread (record { number = same d; version = ver d })) ∙ sym is
          by (Carrier c) z =
              let num = (s.before.aligned.contexts n (Carrier c) (h.rests ∙ ap Some z)).0 in
              let table = al.sound.table in
              absurd (omega (arith, num, here, inside, table))

      pub takes_same : value_taken Took For v ≡ v
      takes_same = by (carrier_at w 0).help refl (carrier_at w 0).switching refl (carrier_at w 0).goal refl
        where
          by : (p : Option Help) → (carrier_at w 0).help ≡ p → (q : Bool) → (carrier_at w 0).switching ≡ q → (g : Option Goal) →
              (carrier_at w 0).goal ≡ g → value_taken Took For v ≡ v
          by (Some p) hp q sw g go =
              ap (λ z. value_taken Took z v) (for_is ∙ ap (λ z. target_with z (carrier_at w 0).switching
              (carrier_at w 0).goal) hp)
          by None hp true sw g go = takes_own (for_is ∙ (λ d. target_with (hp d) (sw d) (carrier_at w 0).goal)) sw
          by None hp false sw (Some g) go = takes_goal g (for_is ∙ (λ d. target_with (hp d) (sw d) (go d))) hp sw go
          by None hp false sw None go =
              let no : true ≡ false = sym m.works ∙ (λ d. sw d || is_some (go d)) in absurd cc
