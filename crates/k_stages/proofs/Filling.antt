-- What the release of a switch makes of the ready lists, as a map by priority.
use Rattle.std.specs.Prelude.{◌-◌}
use Rattle.std.proofs.Common.{◌≡◌, ℕ, zero, suc, ◌<◌, Bool, true, false, cond, refl, sym, ap}
use Rattle.std.proofs.Common.{◌∙◌, subst, Option, Some, None, List, [], ◌∷◌, length, arith}
use Rattle.std.proofs.lemmas.List.{length-set}
use Rattle.k_ids.specs.declared.threads.ThreadId.{ThreadId}
use Rattle.k_ready.specs.Lists.{Ready, list_of}
use Rattle.k_ready.specs.Popped.{Level, first_or, highest_below}
use Rattle.k_ready.proofs.Changed.{list_changed}
use Rattle.k_switch.specs.declared.switch.SwitchCall.{SwitchCall}
use Rattle.k_switch.specs.Switches as switch
use Rattle.k_tokens.specs.Maps.{is_filled, one_if}
use Rattle.k_switching.specs.Switch as stage
use Rattle.k_switching.specs.Switch.{highest_filled}
use Rattle.k_stages.specs.Stages.{goal_by, start_by}

-- THE HIGHEST

abbrev pub level_in : List ThreadId → ℕ → Option Level
level_in [] p = None
level_in (e ∷ es) p = Some (record { id = e; priority = p })

abbrev pub level_by : (ℕ → List ThreadId) → Option ℕ → Option Level
level_by lists None = None
level_by lists (Some p) = level_in (lists p) p

pub highest_by : (n : ℕ) (lists : List (List ThreadId)) →
    highest_below n lists ≡ level_by (list_of lists) (highest_filled n (list_of lists))
unfolding highest_below
highest_by zero lists = refl
highest_by (suc p) lists = by (list_of lists p) refl (highest_by p lists)
  where
    by : (es : List ThreadId) → list_of lists p ≡ es → highest_below p lists ≡
        level_by (list_of lists) (highest_filled p (list_of lists))
        → first_or (list_of lists p) p (highest_below p lists) ≡
        level_by (list_of lists) (cond (is_filled (list_of lists p)) (Some p) (highest_filled p (list_of lists)))
    by [] e h =
        ap (λ (l : List ThreadId). first_or l p (highest_below p lists)) e ∙ h
        ∙ sym (ap (λ (l : List ThreadId). level_by (list_of lists)
        (cond (is_filled l) (Some p) (highest_filled p (list_of lists)))) e)
    by (x ∷ es) e h = ap (λ (l : List ThreadId). first_or l p (highest_below p lists)) e
        ∙ sym (ap (λ (l : List ThreadId). level_by (list_of lists)
        (cond (is_filled l) (Some p) (highest_filled p (list_of lists)))) e ∙ ap (λ (l : List ThreadId). level_in l p) e)

-- THE LISTS

-- a priority that was told is in range
abbrev pub IsLow : Option ℕ → Type 0
IsLow seen = (p : ℕ) → seen ≡ Some p → p < 64

module _ (r : Ready) (size : length r.lists ≡ 64) where
  inside : (p : ℕ) → p < 64 → p < length r.lists
  inside p l = subst (λ (n : ℕ). p < n) (sym size) l

  pub put_is : (goal : Option ThreadId) (seen : Option ℕ) (ended : Bool) → ((who : ThreadId) → goal ≡ Some who → IsLow seen) →
      list_of (switch.put_back ended (goal_by goal seen) r).lists ≡ stage.put_back (list_of r.lists) goal seen ended
  put_is None seen true low = refl
  put_is None seen false low = refl
  put_is (Some who) None true low = refl
  put_is (Some who) None false low = refl
  put_is (Some who) (Some p) true low = list_changed r p _ (inside p (low who refl p refl))
  put_is (Some who) (Some p) false low = list_changed r p _ (inside p (low who refl p refl))

  pub put_size : (goal : Option ThreadId) (seen : Option ℕ) (ended : Bool) →
      length (switch.put_back ended (goal_by goal seen) r).lists ≡ 64
  put_size None seen true = size
  put_size None seen false = size
  put_size (Some who) None true = size
  put_size (Some who) None false = size
  put_size (Some who) (Some p) true = length-set r.lists p _ ∙ size
  put_size (Some who) (Some p) false = length-set r.lists p _ ∙ size

  pub put_running : (goal : Option ThreadId) (seen : Option ℕ) (ended : Bool) →
      (switch.put_back ended (goal_by goal seen) r).running ≡ r.running
  put_running None seen true = refl
  put_running None seen false = refl
  put_running (Some who) None true = refl
  put_running (Some who) None false = refl
  put_running (Some who) (Some p) true = refl
  put_running (Some who) (Some p) false = refl

  pub entered_is : (start : Option ℕ) (seen : Option ℕ) → ((n : ℕ) → start ≡ Some n → IsLow seen) →
      list_of (switch.entered (start_by start seen) r).lists ≡ stage.entered (list_of r.lists) start seen
  entered_is None seen low = refl
  entered_is (Some n) None low = refl
  entered_is (Some n) (Some p) low = list_changed r p _ (inside p (low n refl p refl))

  pub entered_size : (start : Option ℕ) (seen : Option ℕ) → length (switch.entered (start_by start seen) r).lists ≡ 64
  entered_size None seen = size
  entered_size (Some n) None = size
  entered_size (Some n) (Some p) = length-set r.lists p _ ∙ size

  pub entered_running : (start : Option ℕ) (seen : Option ℕ) → (switch.entered (start_by start seen) r).running ≡ r.running
  entered_running None seen = refl
  entered_running (Some n) None = refl
  entered_running (Some n) (Some p) = refl

uncounted_lists : (d : Bool) (r : Ready) → (switch.uncounted d r).lists ≡ r.lists
uncounted_lists true r = refl
uncounted_lists false r = refl

uncounted_running : (d : Bool) (r : Ready) → (switch.uncounted d r).running ≡ r.running - one_if d
uncounted_running true r = refl
uncounted_running false r = sub_zero r.running
  where
    sub_zero : (n : ℕ) → n ≡ n - 0
    sub_zero n = omega arith

-- The lists from which the next thread is taken.
module _ (c : SwitchCall) (goal : Option ThreadId) (start : Option ℕ) (seen told : Option ℕ) (r : Ready)
    (size : length r.lists ≡ 64) (low : (who : ThreadId) → goal ≡ Some who → IsLow seen)
    (few : (n : ℕ) → start ≡ Some n → IsLow told) where
  abbrev first : Ready
  first = switch.uncounted c.counted r

  abbrev back : Ready
  back = switch.put_back c.slice_ended (goal_by goal seen) first

  first_size : length first.lists ≡ 64
  first_size = ap (λ (l : List (List ThreadId)). length l) (uncounted_lists c.counted r) ∙ size

  pub filled_is : list_of (switch.filled c (goal_by goal seen) (start_by start told) r).lists ≡
      stage.entered (stage.put_back (list_of r.lists) goal seen c.slice_ended) start told
  filled_is = entered_is back (put_size first first_size goal seen c.slice_ended) start told few
      ∙ ap (λ (f : ℕ → List ThreadId). stage.entered f start told) (put_is first first_size goal seen c.slice_ended low
      ∙ ap (λ (l : List (List ThreadId)). stage.put_back (list_of l) goal seen c.slice_ended) (uncounted_lists c.counted r))

  pub filled_size : length (switch.filled c (goal_by goal seen) (start_by start told) r).lists ≡ 64
  filled_size = entered_size back (put_size first first_size goal seen c.slice_ended) start told

  pub filled_running : (switch.filled c (goal_by goal seen) (start_by start told) r).running ≡ r.running - one_if c.counted
  filled_running =
      entered_running back (put_size first first_size goal seen c.slice_ended) start told
      ∙ put_running first first_size goal seen c.slice_ended ∙ uncounted_running c.counted r
