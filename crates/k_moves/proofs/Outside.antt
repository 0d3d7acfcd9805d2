-- A start, the end of a slice and a park.
use Rattle.std.proofs.Common.{◌≡◌, ℕ, ◌<◌, true, false, Bool, length, refl, sym, ap, ◌∙◌, subst, Option, Some, None, List}
use Rattle.std.specs.Prelude.{is_some, slice_set}
use Rattle.k_model.specs.Maps.{upd}
use Rattle.k_carrier.specs.Flags as flags
use Rattle.k_carrier.specs.Seen.{CarrierSeen, HandSeen}
use Rattle.k_carrier.specs.Starts.{is_due}
use Rattle.k_tokens.specs.Good.{IsGood}
use Rattle.k_tokens.specs.World.{World, with_carrier}
use Rattle.k_tokens.specs.World as tokens
use Rattle.k_tokens.proofs.Keeping.{carrier_changed, facts_with_flags}
use Rattle.k_switching.specs.Rules as rules
use Rattle.k_grants.specs.Views.{name_by}
use Rattle.k_moves.specs.Views.{IsViewed, carrier_view, number_in}
use Rattle.k_moves.specs.Moved.{IsStarted}
use Rattle.k_moves.proofs.Takes.{due_set}

pub start_is_same : (w : World) (k : CarrierSeen) (number : ℕ) (unstarted : List Bool) → IsViewed w k →
    w.unmade ≡ is_due unstarted → number < length k.starts → number < length unstarted →
    IsStarted w (rules.started w k.number number) (flags.started number k) (slice_set unstarted number false)
start_is_same w k number unstarted viewed made few small = record {
  world = λ z. record w { unmade = unmade z; carrier = upd w.carrier k.number (carrier z) };
}
  where
    unmade : upd w.unmade number false ≡ is_due (slice_set unstarted number false)
    unmade = ap (λ f. upd f number false) made ∙ sym (due_set unstarted number false small)

    carrier : record (w.carrier k.number) { starts = upd (w.carrier k.number).starts number true } ≡
        carrier_view (flags.started number k)
    carrier =
        (λ z. record (viewed z) { starts = upd (viewed z).starts number true })
        ∙ (λ z. record (carrier_view k) { starts = sym (due_set k.starts number true few) z })

pub slice_is_same : (w : World) (k : CarrierSeen) → IsViewed w k →
    rules.sliced w k.number ≡ with_carrier w k.number (carrier_view (flags.sliced k))
slice_is_same w k viewed = λ z. with_carrier w k.number (record (viewed z) { slice = true })

pub park_is_same : (w : World) (k : CarrierSeen) → IsViewed w k → flags.has_hand k ≡ true →
    rules.parked w k.number ≡ with_carrier w k.number (carrier_view (flags.parked k))
park_is_same w k viewed has =
    (λ z. with_carrier w k.number (record (viewed z) { putting = is_some (viewed z).hand }))
    ∙ (λ z. with_carrier w k.number (record (carrier_view k) { putting = some z }))
  where
    named : (o : Option HandSeen) → is_some (name_by k.table (number_in o)) ≡ is_some o
    named None = refl
    named (Some h) = refl

    some : is_some (name_by k.table (number_in k.hand)) ≡ true
    some = named k.hand ∙ has

-- also without a hand
pub park_keeps : (w : World) (k : CarrierSeen) → IsViewed w k → IsGood w →
    IsGood (with_carrier w k.number (carrier_view (flags.parked k)))
park_keeps w k viewed (at, g) =
    subst (λ (c : tokens.Carrier). IsGood (with_carrier w k.number (record c { putting = true }))) viewed (
      at,
      carrier_changed w at g k.number (record (w.carrier k.number) { putting = true }) refl refl refl refl
          (facts_with_flags (w.carrier k.number).starts (w.carrier k.number).slice (w.carrier k.number).resched true (λ h. h)
          (g.carriers k.number)),
    )
