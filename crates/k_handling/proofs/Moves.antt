-- A move that makes no entry: what it leaves of the raw world, and of the carrier that makes it.
use Rattle.std.proofs.Common.{◌≡◌, ℕ, ◌+◌, ◌<◌, ◌==◌, Bool, true, false, length, refl, sym, ap, ◌∙◌, subst}
use Rattle.std.proofs.Common.{Option, Some, None, arith, ◌⊎◌, inl, inr}
use Rattle.std.specs.Prelude.{IfSome, if◌then◌else◌}
use Rattle.std.proofs.lemmas.List.{length-set}
use Rattle.k_ids.specs.declared.context_word.ContextWord.{ContextWord}
use Rattle.k_ids.specs.declared.context_word.ContextWord.TheVariants.{Empty, Clean, Holds, Taken}
use Rattle.k_ids.specs.declared.histories.Entry.{Entry}
use Rattle.k_ids.specs.declared.state_word.StateWord.{StateWord}
use Rattle.k_locks.specs.Places.{IsWord}
use Rattle.k_model.specs.Maps.{upd}
use Rattle.k_switch.specs.declared.goal.Goal.{Goal}
use Rattle.k_context.specs.Contexts.{ContextSeen, has_switch}
use Rattle.k_carrier.specs.declared.carrier.Target.{Target}
use Rattle.k_carrier.specs.declared.carrier.Target.TheVariants.{GoalOf, Helped, Own}
use Rattle.k_carrier.specs.declared.moves.Awaits.TheVariants as awaits
use Rattle.k_carrier.specs.declared.moves.Help.{Help}
use Rattle.k_carrier.specs.Answers.{AnswerSeen}
use Rattle.k_carrier.specs.Asked.{CarrierAsk, ask_of, asked, asked_by, move_by, version_in}
use Rattle.k_carrier.specs.Resumed.{after_look, after_take, is_holding, point_of, resumed, seen}
use Rattle.k_carrier.specs.Resumed as carriers
use Rattle.k_carrier.specs.Rules.{begins, context_at, own_context, readied, target_of, target_with}
use Rattle.k_carrier.specs.Seen.{CarrierSeen}
use Rattle.k_carrier.specs.Starts.{first_start}
use Rattle.k_carrier.specs.Starts as starts
use Rattle.k_world.specs.Moves.{answer_by, word_on}
use Rattle.k_world.specs.Steps.{caller_in, carrier_after, entry_by, entry_of, moved, recorded, step_in}
use Rattle.k_world.specs.Worlds.{carrier_at}
use Rattle.k_board.specs.Boards.{Board}
use Rattle.k_places.specs.Fits.{IsEntryWithin, IsStepWithin}
use Rattle.k_places.specs.Memory.{Memory}
use Rattle.k_places.specs.Shows.{Shows, ShowsBoard}
use Rattle.k_joint.proofs.Carried.{maps_asked}
use Rattle.k_joint.proofs.Runs.{MapsWith, whole_moved}
use Rattle.k_plays.specs.Scripts.{ranged_programs}
use Rattle.k_tokens.specs.Steps.{ThreadStep}
use Rattle.k_tokens.specs.World as tokens
use Rattle.k_switching.specs.Claims.{IsAsked}
use Rattle.k_switching.specs.Rules.{carrier_step}
use Rattle.k_moves.specs.Moved.{IsGoalGiven}
use Rattle.k_moves.specs.Views.{carrier_view}
use Rattle.k_paired.specs.Pairs.{IsStill}
use Rattle.k_whole.specs.Whole.{Step}
use Rattle.k_kernel.specs.Serials.{SerialsHold}
use Rattle.k_handling.specs.Handling.{IsHandled, is_of_thread}
use Rattle.k_handling.proofs.Handles.{IsAfter, Moment, by_step, given, number_is, table_is}

-- THE CARRIER

-- It has its number, waits for the same, and helps whom it helped, or nobody.
pub record IsKept (x y : CarrierSeen) : Type 0 where
  pub number : y.number ≡ x.number
  pub awaits : y.awaits ≡ x.awaits
  pub starts : length y.starts ≡ length x.starts
  pub help : (y.help ≡ x.help) ⊎ (y.help ≡ None)

-- .. and has the same in hand
pub record IsLooked (x y : CarrierSeen) : Type 0 where
  pub kept : IsKept x y
  pub hand : y.hand ≡ x.hand

pub readied_kept : (x : CarrierSeen) → IsLooked x (readied x)
readied_kept x = by (begins x)
  where
    by : (t : Bool) → IsLooked x (if t then record x { switching = true; help = None; looked = None } else x)
    by true = record { kept = record { number = refl; awaits = refl; starts = refl; help = inr refl }; hand = refl }
    by false = record { kept = record { number = refl; awaits = refl; starts = refl; help = inl refl }; hand = refl }

seen_kept : (x : CarrierSeen) (l : ContextWord) (bits : ℕ) → IsLooked x (seen x l bits)
seen_kept x (Clean version) bits = record {
  kept = record { number = refl; awaits = refl; starts = refl; help = inl refl };
  hand = refl;
}
seen_kept x (Holds version) bits = record {
  kept = record { number = refl; awaits = refl; starts = refl; help = inl refl };
  hand = refl;
}
seen_kept x (Taken c version) bits = record {
  kept = record { number = refl; awaits = refl; starts = refl; help = inl refl };
  hand = refl;
}
seen_kept x Empty bits = record {
  kept = record { number = refl; awaits = refl; starts = refl; help = inl refl };
  hand = refl;
}

pub look_kept : (x : CarrierSeen) (t : Target) (l : ContextWord) (bits : ℕ) → IsLooked x (after_look x t l bits)
look_kept x (Helped context) l bits = by (is_holding l)
  where
    by : (t : Bool) → IsLooked x (if t then record x { looked = Some bits } else record x { help = None })
    by true = record { kept = record { number = refl; awaits = refl; starts = refl; help = inl refl }; hand = refl }
    by false = record { kept = record { number = refl; awaits = refl; starts = refl; help = inr refl }; hand = refl }
look_kept x Own l bits = seen_kept x l bits
look_kept x (GoalOf g) l bits = by (version_in l == g.id.version)
  where
    by : (t : Bool) → IsLooked x (if t then seen x l bits else record x { goal = None })
    by true = seen_kept x l bits
    by false = record { kept = record { number = refl; awaits = refl; starts = refl; help = inl refl }; hand = refl }

pub take_kept : (x : CarrierSeen) (t : Target) (v : ContextSeen) → IsKept x (after_take x t v)
take_kept x (Helped context) v = record { number = refl; awaits = refl; starts = refl; help = inl refl }
take_kept x (GoalOf g) v = record { number = refl; awaits = refl; starts = refl; help = inl refl }
take_kept x Own v = by (has_switch v)
  where
    without : (o : Option ℕ) → length (starts.without_start x.starts o) ≡ length x.starts
    without None = refl
    without (Some number) = length-set x.starts number false

    by : (t : Bool) → IsKept x (if t then carriers.in_hand x (own_context x) v else carriers.switch_begun x v)
    by true = record { number = refl; awaits = refl; starts = refl; help = inl refl }
    by false = record { number = refl; awaits = refl; starts = without (first_start x.starts); help = inl refl }

module _ (now : Moment) where
  open now use {script, limits, w, b, view, state, k, c, low}

  abbrev K : CarrierSeen
  K = carrier_at w c

  pub after_kept : (x y : CarrierSeen) → IsKept x y → x.number ≡ c → x.awaits ≡ awaits.Nothing → length x.starts ≡ 64 →
      IfSome x.help (λ p. p.context < script.table + length w.carriers) → IsAfter now y
  after_kept x y h number answered starts help = record {
    number = h.number ∙ number;
    answered = h.awaits ∙ answered;
    starts = h.starts ∙ starts;
    help = elim h.help [
      | inl e ↦ subst (λ (o : Option Help). IfSome o (λ p. p.context < script.table + length w.carriers)) (sym e) help
      | inr e ↦ subst (λ (o : Option Help). IfSome o (λ p. p.context < script.table + length w.carriers)) (sym e) tt
    ];
  }

  -- the carrier that has heard of its move
  abbrev pub Heard : CarrierSeen
  Heard = record (readied K) { awaits = awaits.Nothing }

  pub heard_after : (x : CarrierSeen) → IsKept Heard x → IsAfter now x
  heard_after x h =
      after_kept (record K { awaits = awaits.Nothing }) x
      (record {
        number = h.number ∙ r.number;
        awaits = h.awaits;
        starts = h.starts ∙ r.starts;
        help = elim h.help [
          | inl q ↦ elim r.help [ inl z ↦ inl (q ∙ z) | inr z ↦ inr (q ∙ z) ]
          | inr q ↦ inr q
        ];
      })
      (k.aligned.carriers c low).number refl (given now).starts (k.helps c low)
    where
      r : IsKept K (readied K)
      r = (readied_kept K).kept

  -- the context that it is to take is one that there is
  aim_in : (x : CarrierSeen) → x.table ≡ script.table → x.number < length w.carriers →
      IfSome x.help (λ p. p.context < script.table + length w.carriers) → IsGoalGiven x.table x.goal →
      context_at x (target_of x) < script.table + length w.carriers
  aim_in x size few = by x.help x.switching x.goal
    where
      own : own_context x < script.table + length w.carriers
      own = omega (arith, size, few)

      by : (h : Option Help) (s : Bool) (g : Option Goal) →
          IfSome h (λ p. p.context < script.table + length w.carriers) → IsGoalGiven x.table g →
          context_at x (target_with h s g) < script.table + length w.carriers
      by (Some p) s g h i = h
      by None true g h i = own
      by None false None h i = own
      by None false (Some g) h i = let l = i.0 in omega (arith, size, l)

  pub aim_within : context_at (readied K) (target_of (readied K)) < script.table + length w.carriers
  aim_within = by (begins K)
    where
      few : K.number < length w.carriers
      few = subst (λ n. n < length w.carriers) (sym (k.aligned.carriers c low).number) low

      by : (t : Bool) → context_at (if t then record K { switching = true; help = None; looked = None } else K)
          (target_of (if t then record K { switching = true; help = None; looked = None } else K)) <
          script.table + length w.carriers
      by true = let e = table_is now in let f = few in omega (arith, e, f)
      by false =
          aim_in K (table_is now) few (k.helps c low) (given now).goal

  -- THE WORLD

  module _ (a : CarrierAsk) (asks : ask_of K ≡ a) (found : AnswerSeen) (answers : answer_by w (move_by script K a) ≡ found)
      (silent : (x : StateWord) → point_of (asked_by script K a) x found ≡ None)
      (word : IsWord (word_on (move_by script K a))) where
    pub next_is : carrier_after (step_in script c w) ≡ resumed (asked_by script K a) found
    unfolding step_in
    next_is =
        ap (λ (z : CarrierAsk). resumed (asked_by script K z) (answer_by w (move_by script K z))) asks
        ∙ ap (resumed (asked_by script K a)) answers

    no_entry : entry_of w (step_in script c w) ≡ None
    unfolding step_in
    no_entry =
        ap (λ (z : CarrierAsk). entry_by w (point_of (asked_by script K z) (caller_in w (asked_by script K z).hand)
        (answer_by w (move_by script K z)))) asks
        ∙ ap (λ (z : AnswerSeen). entry_by w (point_of (asked_by script K a) (caller_in w (asked_by script K a).hand) z)) answers
        ∙ ap (entry_by w) (silent (caller_in w (asked_by script K a).hand))

    pub history_is : (moved script c w).history ≡ w.history
    unfolding moved
    history_is = ap (λ (e : Option Entry). recorded e w.history) no_entry

    within_by : (e : Option Entry) → entry_of w (step_in script c w) ≡ e → IsEntryWithin (length w.serials) e →
        IsStepWithin w (step_in script c w)
    unfolding step_in
    within_by e is h = record {
      words = k.aligned.shows.whole.words;
      slots = k.aligned.shows.whole.slots;
      carrier = low;
      word = subst (λ (z : CarrierAsk). IsWord (word_on (move_by script K z))) (sym asks) word;
      entry = subst (IsEntryWithin (length w.serials)) (sym is) h;
    }

    pub within : IsStepWithin w (step_in script c w)
    within = within_by None no_entry tt

    pub board_shown : (b' : Board) → Shows script (MapsWith script w c a) b' → ShowsBoard script (moved script c w) b'
    board_shown b' h = record {
      whole = whole_moved script w c k.aligned.shows.whole;
      shows =
          subst (λ (m : Memory). Shows script m b') (sym (maps_asked script w c b k.aligned.shows within a asks)) h;
    }

    -- the carrier then
    abbrev pub J : CarrierSeen
    J = resumed (asked_by script K a) found

    -- the step is one of the whole, and the board is shown
    pub handled_as : IsAfter now J → (b' : Board) → ShowsBoard script (moved script c w) b' →
        SerialsHold b' (length w.history) → (s : Step (ranged_programs script) b view c b') →
        is_of_thread (ranged_programs script) b view c b' s ≡ false →
        ((t : ThreadStep) → (carrier_step view K.number t).carrier ≡
        upd view.carrier K.number (carrier_view (resumed (asked script K) found))) →
        ((t : ThreadStep) → (carrier_step view K.number t).unmade ≡ view.unmade) →
        IsHandled script b view c (moved script c w) w.history state
    handled_as fits b' shows serials s other one unmade =
        by_step now J next_is fits b' shows history_is serials s other
        (λ t. ap (λ m. (carrier_step view m t).carrier) (sym number) ∙ one t ∙ (λ z. upd view.carrier (number z)
        (carrier_view (resumed (asked_by script K (asks z)) found))))
        (λ t. ap (λ m. (carrier_step view m t).unmade) (sym number) ∙ unmade t)
      where
        number : K.number ≡ c
        number = number_is now

    -- .. by its maps
    pub handled_so : IsAfter now J → (b' : Board) → Shows script (MapsWith script w c a) b' →
        SerialsHold b' (length w.history) → (s : Step (ranged_programs script) b view c b') →
        is_of_thread (ranged_programs script) b view c b' s ≡ false →
        ((t : ThreadStep) → (carrier_step view K.number t).carrier ≡
        upd view.carrier K.number (carrier_view (resumed (asked script K) found))) →
        ((t : ThreadStep) → (carrier_step view K.number t).unmade ≡ view.unmade) →
        IsHandled script b view c (moved script c w) w.history state
    handled_so fits b' shows = handled_as fits b' (board_shown b' shows)

-- nobody is asked for a step
pub nobody_in_hand : (view : tokens.World) (c : ℕ) → (view.carrier c).hand ≡ None →
    (context : tokens.ContextName) → IsAsked view c context → ⊥
nobody_in_hand view c e context a = let z : None ≡ Some context = sym e ∙ a.hand in absurd cc

-- with a world at which two worlds are the same
pub still_as : {w v u : tokens.World} → v ≡ u → IsStill w u → IsStill w v
still_as {w} {v} {u} e h = subst (IsStill w) (sym e) h
