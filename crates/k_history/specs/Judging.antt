-- The parts of a check as its functions see them.
use Rattle.std.specs.Prelude.{ℕ, ◌+◌, ◌≡◌, ◌≢◌, List, Ok, Err}
use Rattle.k_ids.specs.declared.calls.Outcome.{Outcome}
use Rattle.k_ids.specs.declared.histories.Entry.{Entry}
use Rattle.k_model.specs.State.{KernelState}
use Rattle.k_model.specs.History.{IsFinished, IsLowestActive}
use Rattle.k_model.specs.Step.{step}
use Rattle.k_script.specs.Script.{Script}
use Rattle.k_script.specs.Plays.{Position}
use Rattle.k_positions.specs.Positions.{IsNextAct, positions_after}
use Rattle.k_history.specs.declared.verdict.Verdict.{Verdict}
use Rattle.k_history.specs.declared.verdict.Verdict.TheVariants as verdict
use Rattle.k_history.specs.Lines.{Tells}
use Rattle.k_history.specs.Verdicts.{IsUnreadable}

-- ONE ENTRY

-- The history goes on with the entry.
pub record GoesOn (script : Script) (k : KernelState) (at : ℕ → Position) (e : Entry) (n : KernelState) (to : ℕ → Position) : Type 0 where
  pub made : step k e.event ≡ Ok (n, e.outcome)
  pub next : IsNextAct script k at e.event.who e.event.act
  pub moves : (t : ℕ) → to t ≡ positions_after script k at e t

-- It doesn't, for this reason.
abbrev pub StopsAt : Script → KernelState → (ℕ → Position) → ℕ → Entry → Verdict → Type 0
StopsAt script k at index e (verdict.Illegal i found serial) = (i ≡ index) × (step k e.event ≡ Err (record { found = found; serial = serial }))
StopsAt script k at index e (verdict.Strange i) = (i ≡ index) × ((after : KernelState × Outcome) × (step k e.event ≡ Ok after)) × (IsNextAct script k at e.event.who e.event.act → ⊥)
StopsAt script k at index e (verdict.Differs i outcome) = (i ≡ index) × ((after : KernelState) × (step k e.event ≡ Ok (after, outcome))) × IsNextAct script k at e.event.who e.event.act × (e.outcome ≢ outcome)
StopsAt script k at index e (verdict.Unreadable number) = ⊥
StopsAt script k at index e (verdict.Legal events) = ⊥
StopsAt script k at index e (verdict.Unfinished who) = ⊥

-- ONE LINE

pub record LineGoesOn (script : Script) (k : KernelState) (at : ℕ → Position) (line : List ℕ) (n : KernelState) (to : ℕ → Position) : Type 0 where
  pub entry : Entry
  pub tells : Tells script.table line entry
  pub goes : GoesOn script k at entry n to

pub record LineStopsAt (script : Script) (k : KernelState) (at : ℕ → Position) (index : ℕ) (line : List ℕ) (v : Verdict) : Type 0 where
  pub entry : Entry
  pub tells : Tells script.table line entry
  pub stops : StopsAt script k at index entry v

abbrev pub IsJudged : Script → KernelState → (ℕ → Position) → ℕ → List ℕ → Verdict → Type 0
IsJudged script k at index line (verdict.Unreadable number) = (number ≡ index + 1) × IsUnreadable script line
IsJudged script k at index line (verdict.Illegal i found serial) = LineStopsAt script k at index line (verdict.Illegal i found serial)
IsJudged script k at index line (verdict.Strange i) = LineStopsAt script k at index line (verdict.Strange i)
IsJudged script k at index line (verdict.Differs i outcome) = LineStopsAt script k at index line (verdict.Differs i outcome)
IsJudged script k at index line (verdict.Legal events) = ⊥
IsJudged script k at index line (verdict.Unfinished who) = ⊥

-- BEHIND THE LAST LINE
abbrev pub IsLast : KernelState → ℕ → Verdict → Type 0
IsLast k count (verdict.Legal events) = (events ≡ count) × IsFinished k
IsLast k count (verdict.Unfinished who) = IsLowestActive k who
IsLast k count (verdict.Unreadable number) = ⊥
IsLast k count (verdict.Illegal index found serial) = ⊥
IsLast k count (verdict.Strange index) = ⊥
IsLast k count (verdict.Differs index outcome) = ⊥
