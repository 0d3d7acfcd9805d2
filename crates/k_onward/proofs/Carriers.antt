-- What a move makes of the carrier, as far as its waits go: whom it works for stays, unless its goal is dropped.
use Rattle.std.proofs.Common.{◌≡◌, ℕ, ◌==◌, Bool, true, false, refl, sym, ap}
use Rattle.std.proofs.Common.{◌∙◌, subst, Option, Some, None, length, get_or, arith}
use Rattle.std.proofs.Common.{◌⊎◌, inl, inr}
use Rattle.std.specs.Prelude.{◌||◌, ◌&&◌, not, is_none, is_some, if◌then◌else◌}
use Rattle.std.specs.List.{slice_set}
use Rattle.std.proofs.lemmas.List.{get_or-set_same}
use Rattle.k_ids.specs.declared.context_word.ContextWord.{ContextWord}
use Rattle.k_ids.specs.declared.context_word.ContextWord.TheVariants as word
use Rattle.k_ids.specs.ContextWords.{context_word_of}
use Rattle.k_locks.specs.declared.steps.Answer.{Answer}
use Rattle.k_locks.specs.Places.{slot_of}
use Rattle.k_locks.specs.Steps.{answer_of, word_of}
use Rattle.k_script.specs.Script.{Script}
use Rattle.k_switch.specs.declared.goal.Goal.{Goal}
use Rattle.k_caller.specs.declared.ran.Ran.{Ran}
use Rattle.k_caller.specs.declared.ran.Ran.TheVariants as ran
use Rattle.k_context.specs.declared.owner.Owner.{Owner}
use Rattle.k_context.specs.Contexts.{ContextSeen, begun, has_switch, is_dead, step_of}
use Rattle.k_context.specs.Contexts as contexts
use Rattle.k_carrier.specs.declared.carrier.Target.{Target}
use Rattle.k_carrier.specs.declared.carrier.Target.TheVariants.{GoalOf, Helped, Own}
use Rattle.k_carrier.specs.declared.moves.Awaits.TheVariants as awaits
use Rattle.k_carrier.specs.Answers as answer
use Rattle.k_carrier.specs.Asked.{CarrierAsk, LookAt, PutDown, Run, Take, ask_of, asked_by, lock_acquired, move_by}
use Rattle.k_carrier.specs.Asked.{version_in}
use Rattle.k_carrier.specs.Resumed.{after_give, after_look, after_take, goal_after, heard, help_after, is_holding}
use Rattle.k_carrier.specs.Resumed.{resumed, seen, told_in}
use Rattle.k_carrier.specs.Moves.{Look}
use Rattle.k_carrier.specs.Rules.{is_interrupted, is_released, own_switched, readied, target_of}
use Rattle.k_carrier.specs.Running.{runner_by, runner_of}
use Rattle.k_carrier.specs.Seen.{CarrierSeen, HandSeen, new_carrier}
use Rattle.k_world.specs.Marks.{course_by, course_of, same_goal}
use Rattle.k_world.specs.Moves.{answer_by, found_by, goods_for, took}
use Rattle.k_world.specs.Steps.{course_in, moved, step_in}
use Rattle.k_world.specs.Worlds.{Away, Guarded, Resting, Slot, World, carrier_at, slot_at, word_at}

-- WHOM IT WORKS FOR

-- what of a carrier tells whom it works for
pub record IsForSame (k k' : CarrierSeen) : Type 0 where
  pub number : k'.number ≡ k.number
  pub switching : k'.switching ≡ k.switching
  pub goal : k'.goal ≡ k.goal

pub same_runner : (k k' : CarrierSeen) → IsForSame k k' → runner_of k' ≡ runner_of k
same_runner k k' h = λ d. runner_by (h.switching d) (h.number d) (h.goal d)

pub same_works : (k k' : CarrierSeen) → IsForSame k k' → (k'.switching || is_some k'.goal) ≡ (k.switching || is_some k.goal)
same_works k k' h = λ d. h.switching d || is_some (h.goal d)

not_false : (q : Bool) → not q ≡ false → q ≡ true
not_false true e = refl
not_false false e = absurd cc

-- a goal that is there or isn't any more
pub data IsKept (g : Option Goal) : Option Goal → Type 0 where
  stays : IsKept g g
  goes : IsKept g None

pub kept_is : (g h : Option Goal) → IsKept g h → same_goal g h ≡ true → h ≡ g
kept_is g _ stays e = refl
kept_is None _ goes e = refl
kept_is (Some g) _ goes e = absurd cc

if_kept : (g : Option Goal) (q : Bool) → IsKept g (if q then None else g)
if_kept g true = goes
if_kept g false = stays

goal_kept : (g : Option Goal) (o : Owner) (r : Ran) → IsKept g (goal_after g o r)
goal_kept g o ran.Left = if_kept g _
goal_kept g o ran.Dead = if_kept g _
goal_kept g o r = stays

-- A STEP of the context in hand

module _ (script : Script) (w : World) where
  abbrev pub K : CarrierSeen
  K = carrier_at w 0

  -- the answer to it
  abbrev pub Heard : HandSeen → Answer
  Heard x = answer_of (step_of (begun script x.value)) (word_at w (word_of (step_of (begun script x.value))))
      (goods_for w (step_of (begun script x.value)))

  -- what becomes of the carrier
  abbrev pub Becomes : CarrierAsk → CarrierSeen
  Becomes a = resumed (asked_by script K a) (answer_by w (move_by script K a))

  carriers_are : (moved script 0 w).carriers ≡ slice_set w.carriers 0 (Becomes (ask_of K))
  unfolding moved step_in
  carriers_are = refl

  module _ (one : length w.carriers ≡ 1) where
    pub after : (a : CarrierAsk) → ask_of K ≡ a → carrier_at (moved script 0 w) 0 ≡ Becomes a
    after a e =
        ap (λ ks. get_or ks 0 (new_carrier 0 0)) carriers_are
        ∙ get_or-set_same w.carriers 0 (Becomes (ask_of K)) (new_carrier 0 0) (omega (arith, one)) ∙ ap Becomes e

    -- its goal, if it isn't dropped
    pub kept_goal : (a : CarrierAsk) → ask_of K ≡ a → not (same_goal K.goal (carrier_at (moved script 0 w) 0).goal) ≡ false →
        same_goal K.goal (Becomes a).goal ≡ true
    kept_goal a e q = ap (λ (k : CarrierSeen). same_goal K.goal k.goal) (sym (after a e)) ∙ not_false _ q

  pub run_same : (x : HandSeen) → same_goal K.goal (Becomes (Run x)).goal ≡ true → IsForSame K (Becomes (Run x))
  run_same x e = record {
    number = refl;
    switching = refl;
    goal = kept_is K.goal (Becomes (Run x)).goal (goal_kept K.goal _ _) e;
  }

  pub run_help : (x : HandSeen) →
      (Becomes (Run x)).help ≡ help_after K.help (lock_acquired (step_of (begun script x.value))) (told_in (Heard x))
  run_help x = refl

  -- the course of the step
  pub run_course : (x : HandSeen) → ask_of K ≡ Run x → course_in (step_in script 0 w) ≡
      course_by (contexts.asked (begun script x.value)) (step_of (begun script x.value)) (Heard x)
  unfolding step_in
  run_course x e = λ d. course_of (asked_by script K (e d)).hand (move_by script K (e d)) (answer_by w (move_by script K (e d)))

-- A LOOK, A TAKE AND A GIVE

-- the carrier is as it was, but that it may have dropped its goal, or its help
pub record IsLike (k k' : CarrierSeen) : Type 0 where
  pub number : k'.number ≡ k.number
  pub switching : k'.switching ≡ k.switching
  pub goal : IsKept k.goal k'.goal
  pub help : (k'.help ≡ k.help) ⊎ (k'.help ≡ None)

pub like_same : (k k' : CarrierSeen) → IsLike k k' → same_goal k.goal k'.goal ≡ true → IsForSame k k'
like_same k k' h e = record { number = h.number; switching = h.switching; goal = kept_is k.goal k'.goal h.goal e }

seen_like : (k : CarrierSeen) (v : ContextWord) (bits : ℕ) → IsLike k (seen k v bits)
seen_like k (word.Clean version) bits = record { number = refl; switching = refl; goal = stays; help = inl refl }
seen_like k (word.Holds version) bits = record { number = refl; switching = refl; goal = stays; help = inl refl }
seen_like k (word.Taken c version) bits = record { number = refl; switching = refl; goal = stays; help = inl refl }
seen_like k word.Empty bits = record { number = refl; switching = refl; goal = stays; help = inl refl }

look_like : (k : CarrierSeen) (t : Target) (v : ContextWord) (bits : ℕ) → IsLike k (after_look k t v bits)
look_like k (Helped n) v bits = by (is_holding v)
  where
    by : (q : Bool) → IsLike k (if q then record k { looked = Some bits } else record k { help = None })
    by true = record { number = refl; switching = refl; goal = stays; help = inl refl }
    by false = record { number = refl; switching = refl; goal = stays; help = inr refl }
look_like k Own v bits = seen_like k v bits
look_like k (GoalOf g) v bits = by (version_in v == g.id.version)
  where
    by : (q : Bool) → IsLike k (if q then seen k v bits else record k { goal = None })
    by true = seen_like k v bits
    by false = record { number = refl; switching = refl; goal = goes; help = inl refl }

take_like : (k : CarrierSeen) (t : Target) (v : ContextSeen) → IsLike k (after_take k t v)
take_like k (Helped n) v = record { number = refl; switching = refl; goal = stays; help = inl refl }
take_like k Own v = by (has_switch v) refl
  where
    by : (q : Bool) → has_switch v ≡ q → IsLike k (after_take k Own v)
    by true e = rw e (record { number = refl; switching = refl; goal = stays; help = inl refl })
    by false e = rw e (record { number = refl; switching = refl; goal = stays; help = inl refl })
take_like k (GoalOf g) v = record { number = refl; switching = refl; goal = if_kept k.goal (is_dead v); help = inl refl }

took_like : (k : CarrierSeen) (bits : ℕ) (sl : Slot) → IsLike (heard k) (resumed k (took bits sl))
took_like k bits (Resting v) = take_like (heard k) (target_of k) v
took_like k bits (Guarded g) = record { number = refl; switching = refl; goal = stays; help = inl refl }
took_like k bits Away = record { number = refl; switching = refl; goal = stays; help = inl refl }

-- It doesn't begin to switch, where it isn't interrupted and works for somebody.
not_begins : (i sw : Bool) (g : Option Goal) → i ≡ false → (sw || is_some g) ≡ true → (i || (not sw && is_none g)) ≡ false
not_begins true sw g calm e = absurd cc
not_begins false true g calm e = refl
not_begins false false (Some g) calm e = refl
not_begins false false None calm e = absurd cc

pub readied_same : (k : CarrierSeen) → is_interrupted k ≡ false → (k.switching || is_some k.goal) ≡ true → readied k ≡ k
readied_same k calm works = rw (not_begins (is_interrupted k) k.switching k.goal calm works) refl

module _ (script : Script) (w : World) (ready : readied (carrier_at w 0) ≡ carrier_at w 0) where
  like : (k : CarrierSeen) → IsLike (readied (carrier_at w 0)) k → IsLike (carrier_at w 0) k
  like k = subst (λ z. IsLike z k) ready

  pub look_is : (n : ℕ) → IsLike (carrier_at w 0) (Becomes script w (LookAt n))
  look_is n =
      let h = look_like (heard (asked_by script (carrier_at w 0) (LookAt n))) (target_of (asked_by script (carrier_at w 0)
      (LookAt n)))
      (context_word_of (found_by w (Look n))) (found_by w (Look n)) in
      like (Becomes script w (LookAt n))
      (record { number = h.number; switching = h.switching; goal = h.goal; help = h.help })

  pub take_is : (n bits : ℕ) → IsLike (carrier_at w 0) (Becomes script w (Take n bits))
  take_is n bits = by (found_by w (move_by script (carrier_at w 0) (Take n bits)) == bits)
    where
      by : (q : Bool) → IsLike (carrier_at w 0) (resumed (asked_by script (carrier_at w 0) (Take n bits))
          (if q then took (found_by w (move_by script (carrier_at w 0) (Take n bits))) (slot_at w (slot_of n))
          else answer.TakeLost (found_by w (move_by script (carrier_at w 0) (Take n bits)))))
      by true =
          let h = took_like (asked_by script (carrier_at w 0) (Take n bits))
          (found_by w (move_by script (carrier_at w 0) (Take n bits))) (slot_at w (slot_of n)) in
          like _ (record { number = h.number; switching = h.switching; goal = h.goal; help = h.help })
      by false = like _ (record { number = refl; switching = refl; goal = stays; help = inl refl })

pub give_is : (script : Script) (w : World) (h : HandSeen) → own_switched (carrier_at w 0) h ≡ None →
    IsLike (carrier_at w 0) (Becomes script w (PutDown h))
give_is script w h e =
    subst (λ o. IsLike (carrier_at w 0) (after_give (heard (asked_by script (carrier_at w 0) (PutDown h)))
    (awaits.Give o (is_released (carrier_at w 0) h)))) (sym e) (by (is_released (carrier_at w 0) h))
  where
    by : (q : Bool) → IsLike (carrier_at w 0) (after_give (heard (asked_by script (carrier_at w 0) (PutDown h)))
        (awaits.Give None q))
    by true = record { number = refl; switching = refl; goal = stays; help = inr refl }
    by false = record { number = refl; switching = refl; goal = stays; help = inl refl }
