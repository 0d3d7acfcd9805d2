-- What the raw world says of its carriers is so of those of the good world.
use Rattle.std.proofs.Common.{◌≡◌, ◌≢◌, ℕ, ◌+◌, ◌<◌, ◌≤◌, ◌==◌, Bool, true, false, not, refl, sym, ap, ◌∙◌, subst, arith}
use Rattle.std.proofs.Common.{Option, Some, None, length, inl, inr}
use Rattle.std.specs.Prelude.{◌&&◌, is_none, is_some}
use Rattle.std.proofs.lemmas.Bool.{cases_lt}
use Rattle.std.proofs.lemmas.Bool.Decides.{nat_tests}
use Rattle.k_ids.specs.declared.threads.ThreadId.{ThreadId}
use Rattle.k_model.specs.Maps.{count, lowest}
use Rattle.k_model.specs.State.{KernelState}
use Rattle.k_model.proofs.Maps.{lowest-Some}
use Rattle.k_script.specs.Script.{Script}
use Rattle.k_switch.specs.declared.goal.Goal.{Goal}
use Rattle.k_carrier.specs.Flags.{has_hand}
use Rattle.k_carrier.specs.Flags as raw
use Rattle.k_carrier.specs.Seen.{CarrierSeen, HandSeen}
use Rattle.k_carrier.specs.Starts.{has_start, is_due}
use Rattle.k_world.specs.Worlds.{World, carrier_at}
use Rattle.k_board.specs.Boards.{Board}
use Rattle.k_tokens.specs.Maps.{one_if}
use Rattle.k_tokens.specs.World.{Carrier, ContextName}
use Rattle.k_tokens.specs.World as tokens
use Rattle.k_tokens.proofs.Basics.{count_has}
use Rattle.k_grants.specs.Views.{name_by}
use Rattle.k_moves.specs.Views.{carrier_view, goal_in, number_in}
use Rattle.k_handling.specs.Handling.{IsKernel}
use Rattle.k_work.specs.Near.{IsAlone, is_settled}

-- NOBODY ELSE HAS A CONTEXT IN HAND

nothing_in_hand : (size : ℕ) (o : Option HandSeen) → is_some o ≡ false → name_by size (number_in o) ≡ None
nothing_in_hand size None e = refl
nothing_in_hand size (Some h) e = absurd cc

pub alone_in_view : (script : Script) (w : World) (b : Board) (view : tokens.World) (state : KernelState)
    (k : IsKernel script w b view state) (c : ℕ) →
    ((d : ℕ) → d < length w.carriers → d ≢ c → has_hand (carrier_at w d) ≡ false) → IsAlone view c
alone_in_view script w b view state k c others d ne = elim (cases_lt d view.carriers) [
  | inl l ↦
      let low : d < length w.carriers = subst (λ n. d < n) k.aligned.count l in
      ap (λ (x : Carrier). x.hand) (k.aligned.carriers d low).viewed
      ∙ nothing_in_hand (carrier_at w d).table (carrier_at w d).hand (others d low ne)
  | inr far ↦ k.whole.hands d far
]

-- A CARRIER THAT ISN'T SETTLED

-- who has a start to come has one counted
no_start : (test : ℕ → Bool) (o : Option ℕ) → lowest test 64 ≡ o → is_some o ≡ true → (count test 64 == 0) ≡ false
no_start test None e some = absurd cc
no_start test (Some i) e some =
    let at = lowest-Some test 64 i e in
    let one : one_if (test i) ≡ 1 = ap one_if at.1 in
    let has = count_has test 64 i at.0 in
    let more : 1 ≤ count test 64 = omega (arith, one, has) in
    grind (arith, nat_tests, more)

unsettled_by : (size : ℕ) (goal : Option Goal) (hand : Option HandSeen) (switching counted start none : Bool) →
    (start ≡ true → none ≡ false) →
    (is_none goal && not (is_some hand) && not switching && not counted && not start) ≡ false →
    ((((not (is_some (goal_in goal)) && not (is_some (name_by size (number_in hand)))) && not switching) && not counted)
    && none) ≡ false
unsettled_by size (Some g) hand switching counted start none f e = refl
unsettled_by size None (Some h) switching counted start none f e = refl
unsettled_by size None None true counted start none f e = refl
unsettled_by size None None false true start none f e = refl
unsettled_by size None None false false true none f e = f refl
unsettled_by size None None false false false none f e = absurd cc

pub unsettled_in_view : (k : CarrierSeen) → raw.is_settled k ≡ false → is_settled (carrier_view k) ≡ false
unsettled_in_view k e =
    unsettled_by k.table k.goal k.hand k.switching k.counted (has_start k.starts) (count (is_due k.starts) 64 == 0)
    (no_start (is_due k.starts) (lowest (is_due k.starts) 64) refl) e

-- nor is one that has a context in hand
hand_by : (goal : Option ThreadId) (switching counted none : Bool) (x : ContextName) →
    ((((not (is_some goal) && not (is_some (Some x))) && not switching) && not counted) && none) ≡ false
hand_by None switching counted none x = refl
hand_by (Some g) switching counted none x = refl

pub hand_unsettled : (k : Carrier) (x : ContextName) → k.hand ≡ Some x → is_settled k ≡ false
hand_unsettled k x e =
    ap (λ (o : Option ContextName). ((((not (is_some k.goal) && not (is_some o)) && not k.switching) && not k.counted)
    && (count k.starts 64 == 0))) e
    ∙ hand_by k.goal k.switching k.counted (count k.starts 64 == 0) x
