-- What contracts see of the logs of marks: what a world shows of them (k_world), and how many marks more they take without
-- memory.
use Rattle.std.specs.Prelude.{ℕ, ◌≡◌, ◌<◌, Option, Some, None, List, length, map, slice_index_or}
use Rattle.k_script.specs.Script.{Script}
use Rattle.k_carrier.specs.declared.carrier.Carrier.{Carrier}
use Rattle.k_carrier.specs.declared.marks.StepMark.{StepMark}
use Rattle.k_carrier.specs.declared.marks.WaitMark.{WaitMark}
use Rattle.k_carrier.specs.Seen.{CarrierSeen, carrier_in}
use Rattle.k_world.specs.Worlds.{WaitLog}

-- how many more of each kind there is room for
pub record Room : Type 0 where
  pub steps : ℕ
  pub marks : ℕ
  pub links : ℕ

pub record Logged : Type 0 where
  pub steps : List StepMark
  pub waits : WaitLog
  pub room : Room

-- one more of each kind
pub record HasRoom (r : Room) : Type 0 where
  pub steps : 0 < r.steps
  pub marks : 0 < r.marks
  pub links : 0 < r.links

-- each mark that stands is one of the log's
abbrev pub AreInside : List (Option ℕ) → List WaitMark → Type 0
AreInside standing marks = (c k : ℕ) → slice_index_or standing c None ≡ Some k → k < length marks

abbrev pub carriers_in : Script → List Carrier → List CarrierSeen
carriers_in script carriers = map (carrier_in script) carriers
