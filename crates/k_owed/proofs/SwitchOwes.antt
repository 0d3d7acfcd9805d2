-- What each step of a switch takes, with the threads that it has and those in the ready lists.
use Rattle.std.proofs.Common.{◌≡◌, ℕ, ◌+◌, ◌*◌, ◌≤◌, Bool, true, false, refl, arith, Option, Some, None, []}
use Rattle.std.proofs.lemmas.Bool.{false≢true}
use Rattle.k_locks.specs.Asks.{Response}
use Rattle.k_locks.specs.Asks as asks
use Rattle.k_locks.specs.Hands.{Hand}
use Rattle.k_locks.proofs.Responses.{Each}
use Rattle.k_script.specs.Plays.{Position}
use Rattle.k_switch.specs.declared.goal.Goal.{Goal}
use Rattle.k_switch.specs.declared.switch.SwitchCall.{SwitchCall}
use Rattle.k_switch.specs.declared.switch.SwitchLocked.TheVariants.{LoadGoal, LoadStart, ReleaseReady}
use Rattle.k_switch.specs.Switches.{SwitchAt, AcquireReady, Locked, Returned, Finished, first_of_number}
use Rattle.k_switch.specs.Switches.{shown_on, to_goal, to_start}
use Rattle.k_switch.specs.Switches as switch
use Rattle.k_board.specs.Boards.{InSwitch, Context, Board, hand_of}
use Rattle.k_board.specs.Steps.{switch_board, switch_context}
use Rattle.k_board.specs.Turns.{is_going}
use Rattle.k_owed.specs.Owes.{one_for, owes_switch}
use Rattle.k_owed.specs.Owed.{entries_in}
use Rattle.k_owed.proofs.Entries.{switched_entries}
use Rattle.k_owed.proofs.Lowers.{Takes}

one_most : {A : Type 0} (o : Option A) → one_for o ≤ 1
one_most None = omega arith
one_most (Some a) = omega arith

to_start_less : (c : SwitchCall) (start : Option ℕ) (back : Option Goal) →
    owes_switch c (Locked (to_start start back)) ≤ 1 + one_for start + 6 * (one_for back + one_for start)
to_start_less c None back = omega arith
to_start_less c (Some n) back = omega arith

to_goal_less : (c : SwitchCall) (goal : Option Goal) → one_for c.start ≤ 1 →
    owes_switch c (Locked (to_goal c.start goal)) ≤ 1 + one_for goal + one_for c.start + 6 * (one_for goal +
    one_for c.start)
to_goal_less c None few = let l = to_start_less c c.start None in omega (arith, l)
to_goal_less c (Some goal) few = omega arith

module _ (work : Position → ℕ) (b : Board) (i : ℕ) (c : SwitchCall) where
  abbrev hand : Hand
  hand = hand_of b []

  abbrev Told : SwitchAt → Response → Type 0
  Told p r = Takes work b i (InSwitch c p) (switch_board b i (b.context i) c p r) (switch_context
      (b.context i) c p r hand)

  pub switch_owes : (p : SwitchAt) → is_going p ≡ true → Each (switch.ask_of c p) (Told p)
  switch_owes AcquireReady going =
      record {
        falls = let l = to_goal_less c c.goal (one_most c.start) in omega (arith, l);
        exchanges =
            omega arith;
      }
  switch_owes (Locked (LoadGoal goal)) going =
      λ w. record {
        falls =
            let l = to_start_less c c.start (shown_on goal.id w) in let m = one_most (shown_on goal.id w) in
            omega (arith, l, m);
        exchanges = omega arith;
      }
  switch_owes (Locked (LoadStart back number)) going =
      λ w. record {
        falls = let m = one_most (shown_on (first_of_number number) w) in omega (arith, m);
        exchanges = omega arith;
      }
  switch_owes (Locked (ReleaseReady back started)) going =
      record {
        falls = let e = switched_entries c back started b.lists in omega (arith, e);
        exchanges =
            omega arith;
      }
  switch_owes (Returned s) going = record { falls = omega arith; exchanges = omega arith }
  switch_owes (Finished s) going = λ w. absurd (false≢true going)
