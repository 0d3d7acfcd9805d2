-- The ready lists as a map: what a switch puts into them, and what it takes.
use Rattle.std.proofs.Common.{◌≡◌, ℕ, zero, suc, ◌-◌, ◌<◌, Bool, true, false, length, refl, sym, ap}
use Rattle.std.proofs.Common.{◌∙◌, Option, Some, None, List, [], ◌∷◌, ◌++◌, arith, ◌⊎◌, inl, inr}
use Rattle.std.specs.Prelude.{if◌then◌else◌}
use Rattle.std.proofs.lemmas.Bool.Decides.{eqb_tells}
use Rattle.std.proofs.lemmas.List.{get_or-set_same, get_or-set_other, length-set}
use Rattle.k_ids.specs.declared.threads.ThreadId.{ThreadId}
use Rattle.k_model.specs.Maps.{upd}
use Rattle.k_model.proofs.Maps.{upd_same, upd_other}
use Rattle.k_ready.specs.Lists.{Ready, list_of, with_list}
use Rattle.k_ready.specs.Popped.{first_or, highest_below}
use Rattle.k_switch.specs.declared.goal.Goal.{Goal}
use Rattle.k_switch.specs.Switches as switch
use Rattle.k_tokens.specs.Maps.{is_filled, one_if}
use Rattle.k_switching.specs.Switch as rules
use Rattle.k_moves.specs.Views.{first_by, told_goal}

abbrev pub Lists : Ready → ℕ → List ThreadId
Lists r = list_of r.lists

-- ONE LIST CHANGED

pub list_changed : (r : Ready) (p : ℕ) (es : List ThreadId) → p < length r.lists → Lists (with_list r p es) ≡ upd (Lists r) p es
list_changed r p es lt = λ z u. point u z
  where
    point : (u : ℕ) → Lists (with_list r p es) u ≡ upd (Lists r) p es u
    point u = elim (eqb_tells u p) [
      | inl e ↦
          ap (Lists (with_list r p es)) e.1 ∙ get_or-set_same r.lists p es [] lt ∙ sym (upd_same (Lists r) p es)
          ∙ ap (upd (Lists r) p es) (sym e.1)
      | inr ne ↦ get_or-set_other r.lists p u es [] ne.1 ∙ sym (upd_other (Lists r) p es u ne.1)
    ]

-- WHO IS PUT INTO A LIST, in a list that there is

abbrev pub IsListed : ℕ → Option Goal → Type 0
IsListed size None = Unit {0}
IsListed size (Some g) = g.priority < size

pub put_back_same : (r : Ready) (goal : Option ThreadId) (seen : Option ℕ) (ended : Bool) →
    IsListed (length r.lists) (told_goal goal seen) → rules.put_back (Lists r) goal seen ended ≡
    Lists (switch.put_back ended (told_goal goal seen) r)
put_back_same r None seen ended low = refl
put_back_same r (Some who) None ended low = refl
put_back_same r (Some who) (Some p) true low = sym (list_changed r p (list_of r.lists p ++ who ∷ []) low)
put_back_same r (Some who) (Some p) false low = sym (list_changed r p (who ∷ list_of r.lists p) low)

pub put_back_length : (r : Ready) (back : Option Goal) (ended : Bool) →
    length (switch.put_back ended back r).lists ≡ length r.lists
put_back_length r None ended = refl
put_back_length r (Some g) true = length-set r.lists g.priority (list_of r.lists g.priority ++ g.id ∷ [])
put_back_length r (Some g) false = length-set r.lists g.priority (g.id ∷ list_of r.lists g.priority)

pub put_back_runs : (r : Ready) (back : Option Goal) (ended : Bool) → (switch.put_back ended back r).running ≡ r.running
put_back_runs r None ended = refl
put_back_runs r (Some g) true = refl
put_back_runs r (Some g) false = refl

pub entered_same : (r : Ready) (start seen : Option ℕ) → IsListed (length r.lists) (told_goal (first_by start) seen) →
    rules.entered (Lists r) start seen ≡ Lists (switch.entered (told_goal (first_by start) seen) r)
entered_same r None seen low = refl
entered_same r (Some n) None low = refl
entered_same r (Some n) (Some p) low = sym (list_changed r p (list_of r.lists p ++ switch.first_of_number n ∷ []) low)

pub entered_length : (r : Ready) (g : Option Goal) → length (switch.entered g r).lists ≡ length r.lists
entered_length r None = refl
entered_length r (Some g) = length-set r.lists g.priority (list_of r.lists g.priority ++ g.id ∷ [])

pub entered_runs : (r : Ready) (g : Option Goal) → (switch.entered g r).running ≡ r.running
entered_runs r None = refl
entered_runs r (Some g) = refl

pub uncounted_same : (r : Ready) (t : Bool) → (r.running - one_if t ≡ (switch.uncounted t r).running) ×
    ((switch.uncounted t r).lists ≡ r.lists)
uncounted_same r true = (refl, refl)
uncounted_same r false = ((let e : r.running - 0 ≡ r.running = omega arith in e), refl)

-- WHO IS TAKEN

-- the first thread of this list
pub record IsFirst (n : ℕ) (lists : List (List ThreadId)) : Type 0 where
  pub priority : ℕ
  pub who : ThreadId
  pub more : List ThreadId
  pub inside : priority < n
  pub stands : list_of lists priority ≡ who ∷ more
  pub level : highest_below n lists ≡ Some (record { id = who; priority = priority })
  pub filled : rules.highest_filled n (list_of lists) ≡ Some priority

pub record AreEmpty (n : ℕ) (lists : List (List ThreadId)) : Type 0 where
  pub level : highest_below n lists ≡ None
  pub filled : rules.highest_filled n (list_of lists) ≡ None

pub found_first : (n : ℕ) (lists : List (List ThreadId)) → IsFirst n lists ⊎ AreEmpty n lists
unfolding highest_below
found_first zero lists = inr (record { level = refl; filled = refl })
found_first (suc p) lists = by (list_of lists p) refl (found_first p lists)
  where
    by : (es : List ThreadId) → list_of lists p ≡ es → IsFirst p lists ⊎ AreEmpty p lists →
        IsFirst (suc p) lists ⊎ AreEmpty (suc p) lists
    by (e ∷ es) q lower =
        inl (record {
          priority = p;
          who = e;
          more = es;
          inside = omega arith;
          stands = q;
          level = ap (λ l. first_or l p (highest_below p lists)) q;
          filled = ap (λ l. if is_filled l then Some p else rules.highest_filled p (list_of lists)) q;
        })
    by [] q (inl f) =
        inl (record {
          priority = f.priority;
          who = f.who;
          more = f.more;
          inside = (let l = f.inside in omega (arith, l));
          stands = f.stands;
          level = ap (λ l. first_or l p (highest_below p lists)) q ∙ f.level;
          filled = ap (λ l. if is_filled l then Some p else rules.highest_filled p (list_of lists)) q ∙ f.filled;
        })
    by [] q (inr f) =
        inr (record {
          level = ap (λ l. first_or l p (highest_below p lists)) q ∙ f.level;
          filled = ap (λ l. if is_filled l then Some p else rules.highest_filled p (list_of lists)) q ∙ f.filled;
        })
