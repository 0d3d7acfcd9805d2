-- A step of a carrier, by what it asks for: the carrier afterwards, and what is told.
use Rattle.std.proofs.Common.{◌≡◌, ℕ, ◌<◌, ◌==◌, Bool, true, false, not, refl, sym, ap, Option, Some, None, length}
use Rattle.std.specs.Prelude.{◌&&◌, ◌||◌, if◌then◌else◌, is_none}
use Rattle.std.proofs.lemmas.Bool.{false≢true}
use Rattle.std.proofs.lemmas.List.{get_or-set_same}
use Rattle.k_ids.specs.declared.context_word.ContextWord.{ContextWord}
use Rattle.k_ids.specs.declared.context_word.ContextWord.TheVariants.{Empty, Clean, Holds, Taken}
use Rattle.k_script.specs.Script.{Script}
use Rattle.k_switch.specs.declared.goal.Goal.{Goal}
use Rattle.k_context.specs.Contexts.{ContextSeen, has_switch}
use Rattle.k_carrier.specs.declared.carrier.Target.{Target}
use Rattle.k_carrier.specs.declared.carrier.Target.TheVariants.{GoalOf, Helped, Own}
use Rattle.k_carrier.specs.declared.moves.Stepped.{Stepped}
use Rattle.k_carrier.specs.Asked.{CarrierAsk, ask_of, asked_by, move_by, version_in}
use Rattle.k_carrier.specs.Resumed.{after_look, after_take, in_hand, is_holding, resumed, seen, switch_begun}
use Rattle.k_carrier.specs.Rules.{begins, is_interrupted, own_context, readied}
use Rattle.k_carrier.specs.Seen.{CarrierSeen, new_carrier}
use Rattle.k_carrier.specs.Told.{stepped_of}
use Rattle.k_world.specs.Moves.{answer_by}
use Rattle.k_world.specs.Steps.{moved, step_in, told_of}
use Rattle.k_world.specs.Worlds.{World, carrier_at}

module _ (script : Script) (w : World) (c : ℕ) where
  abbrev K : CarrierSeen
  K = carrier_at w c

  abbrev pub After : CarrierAsk → CarrierSeen
  After a = resumed (asked_by script K a) (answer_by w (move_by script K a))

  abbrev pub Told : CarrierAsk → Stepped
  Told a = stepped_of (asked_by script K a) (answer_by w (move_by script K a))

  pub after_is : c < length w.carriers → carrier_at (moved script c w) c ≡ After (ask_of K)
  unfolding moved step_in
  after_is low = get_or-set_same w.carriers c (After (ask_of K)) (new_carrier 0 0) low

  pub told_is : told_of script c w ≡ Told (ask_of K)
  unfolding told_of step_in
  told_is = refl

-- AFTER A LOOK it switches as before, and is counted as before

pub record IsAs (x y : CarrierSeen) : Type 0 where
  pub switching : y.switching ≡ x.switching
  pub counted : y.counted ≡ x.counted

seen_as : (x : CarrierSeen) (l : ContextWord) (bits : ℕ) → IsAs x (seen x l bits)
seen_as x (Clean version) bits = record { switching = refl; counted = refl }
seen_as x (Holds version) bits = record { switching = refl; counted = refl }
seen_as x (Taken c version) bits = record { switching = refl; counted = refl }
seen_as x Empty bits = record { switching = refl; counted = refl }

pub look_as : (x : CarrierSeen) (t : Target) (l : ContextWord) (bits : ℕ) → IsAs x (after_look x t l bits)
look_as x (Helped context) l bits = by (is_holding l)
  where
    by : (t : Bool) → IsAs x (if t then record x { looked = Some bits } else record x { help = None })
    by true = record { switching = refl; counted = refl }
    by false = record { switching = refl; counted = refl }
look_as x Own l bits = seen_as x l bits
look_as x (GoalOf g) l bits = by (version_in l == g.id.version)
  where
    by : (t : Bool) → IsAs x (if t then seen x l bits else record x { goal = None })
    by true = seen_as x l bits
    by false = record { switching = refl; counted = refl }

-- AFTER A TAKE it has the context in hand

pub take_holds : (x : CarrierSeen) (t : Target) (v : ContextSeen) → (after_take x t v).hand ≡ None → ⊥
take_holds x (Helped context) v e = absurd cc
take_holds x (GoalOf g) v e = absurd cc
take_holds x Own v e = by (has_switch v) e
  where
    by : (t : Bool) → (if t then in_hand x (own_context x) v else switch_begun x v).hand ≡ None → ⊥
    by true z = absurd cc
    by false z = absurd cc

-- WHO DOESN'T BEGIN TO SWITCH, and isn't switching, has a goal

pub has_goal : (k : CarrierSeen) → begins k ≡ false → k.switching ≡ false → (g : Goal) × (k.goal ≡ Some g)
has_goal k e calm = by (is_interrupted k) k.switching k.goal e calm
  where
    by : (i s : Bool) (o : Option Goal) → (i || (not s && is_none o)) ≡ false → s ≡ false → (g : Goal) × (o ≡ Some g)
    by true s o z q = absurd (false≢true (sym z))
    by false true o z q = absurd (false≢true (sym q))
    by false false None z q = absurd (false≢true (sym z))
    by false false (Some g) z q = (g, refl)

-- who begins to switch is switching, once it is ready
pub begun_switching : (k : CarrierSeen) → begins k ≡ true → (readied k).switching ≡ true
begun_switching k e =
    ap (λ (t : Bool). (if t then record k { switching = true; help = None; looked = None } else k).switching) e

-- .. and who doesn't is as it was
pub readied_same : (k : CarrierSeen) → begins k ≡ false → readied k ≡ k
readied_same k e = ap (λ (t : Bool). if t then record k { switching = true; help = None; looked = None } else k) e
