-- A new thread's number is one of the table.
use Rattle.std.proofs.Common.{◌≡◌, ℕ, true, refl, sym, ap, ◌∙◌, subst, Option, Some, None, Ok}
use Rattle.k_ids.specs.declared.calls.Phase.TheVariants as phase
use Rattle.k_ids.specs.declared.calls.Act.{Act}
use Rattle.k_ids.specs.declared.calls.Act.TheVariants as act
use Rattle.k_ids.specs.declared.calls.Outcome.{Outcome}
use Rattle.k_ids.specs.declared.calls.Outcome.TheVariants as outcome
use Rattle.k_ids.specs.declared.histories.Event.{Event}
use Rattle.k_model.specs.State.{KernelState}
use Rattle.k_model.specs.Step.{step, may_act, acted, called}
use Rattle.k_model.specs.Keeps.{renewed_call}
use Rattle.k_model.proofs.Left.{acted_renews, create_tells, create_refused}
use Rattle.k_script.specs.Plays.{created_program}
use Rattle.k_positions.specs.Positions.{MakesInside}
use Rattle.k_positions.proofs.Histories.{step_gives}

pub made_inside : (k n : KernelState) (e : Event) (o : Outcome) → step k e ≡ Ok (n, o) → MakesInside k.size (created_program e.act) o
made_inside k n e o ok = let g = step_gives k n e o ok in go e.act g.0 g.1
  where
    create : (program priority : ℕ) (r : Option ℕ) → renewed_call (called k e.who e.serial) (phase.Create program priority) ≡ r → may_act k e.who e.serial (act.Call (phase.Create program priority)) ≡ true → acted k e.who e.serial (act.Call (phase.Create program priority)) ≡ (n, o) → MakesInside k.size (Some program) o
    create program priority None found may gives =
        let is : outcome.Full _ _ ≡ o = sym (create_refused k e.who e.serial program priority found) ∙ ap (λ (r : KernelState × Outcome). r.1) gives in
        subst (MakesInside k.size (Some program)) is tt
    create program priority (Some number) found may gives =
        let is : outcome.Made _ ≡ o = sym (create_tells k e.who e.serial program priority number may found) ∙ ap (λ (r : KernelState × Outcome). r.1) gives in
        subst (MakesInside k.size (Some program)) is (acted_renews k e.who e.serial (act.Call (phase.Create program priority)) number may found).inside

    go : (a : Act) → may_act k e.who e.serial a ≡ true → acted k e.who e.serial a ≡ (n, o) → MakesInside k.size (created_program a) o
    go (act.Call (phase.Send to message zero joined)) may gives = tt
    go (act.Call (phase.Reply to message zero)) may gives = tt
    go (act.Call (phase.Receive from zero)) may gives = tt
    go (act.Call (phase.Create program priority)) may gives = create program priority (renewed_call (called k e.who e.serial) (phase.Create program priority)) refl may gives
    go (act.Call (phase.Destroy victim)) may gives = tt
    go (act.Call phase.End) may gives = tt
    go act.Gone may gives = tt
    go act.Pick may gives = tt
