-- What contracts see of the world as code has it, and the world (k_world) that it shows.
use Rattle.std.specs.Prelude.{ℕ, Bool, Option, List, []}
use Rattle.std.specs.List.{All}
use Rattle.k_ids.specs.declared.histories.Entry.{Entry}
use Rattle.k_locks.specs.declared.points.Point.{Point}
use Rattle.k_script.specs.Script.{Script}
use Rattle.k_carrier.specs.declared.carrier.Carrier.{Carrier}
use Rattle.k_carrier.specs.Asked.{asked, out_of}
use Rattle.k_carrier.specs.Seen.{CarrierSeen, carrier_in}
use Rattle.k_carrier.specs.Seen as carriers
use Rattle.k_world.specs.Boot.{no_waits}
use Rattle.k_world.specs.Steps.{CarrierStep, entry_by, step_with}
use Rattle.k_world.specs.Worlds.{World}
use Rattle.k_store.specs.Stores.{Contents, slots_in, with_store}
use Rattle.k_store.specs.Stores as stores
use Rattle.k_logs.specs.Seen.{Logged, carriers_in}

-- The history, with the last serial of each number, and how many entries there is room for in all.
pub record Recorded : Type 0 where
  pub serials : List ℕ
  pub entries : List Entry
  pub capacity : ℕ

-- all of it
pub record Parts : Type 0 where
  pub store : Contents
  pub carriers : List Carrier
  pub unstarted : List Bool
  pub recorded : Recorded
  pub logs : Logged
  pub made : ℕ

-- the world that these parts show
abbrev pub world_in : Script → Parts → World
world_in script p = record {
  words = p.store.words;
  slots = slots_in script p.store.slots;
  carriers = carriers_in script p.carriers;
  serials = p.recorded.serials;
  unstarted = p.unstarted;
  made = p.made;
  history = p.recorded.entries;
  steps = p.logs.steps;
  waits = p.logs.waits;
}

-- A world of nothing. With a store it is what a move is made in, which asks for nothing else.
abbrev pub no_world : World
no_world = record {
  words = [];
  slots = [];
  carriers = [];
  serials = [];
  unstarted = [];
  made = 0;
  history = [];
  steps = [];
  waits = no_waits 0;
}

abbrev pub store_world : Script → Contents → World
store_world script s = with_store script s no_world

-- a world with these carriers
abbrev pub with_carriers : Script → List Carrier → World → World
with_carriers script cs w = record w { carriers = carriers_in script cs }

-- the step that this carrier of this number makes in a world
abbrev pub step_by : Script → World → ℕ → CarrierSeen → CarrierStep
step_by script w c k = step_with w c k (asked script k) (out_of script k)

-- the step that a carrier makes on a store
abbrev pub turn_of : Script → Contents → Carrier → CarrierStep
turn_of script s k = step_by script (store_world script s) k.number (carrier_in script k)

-- the entry of a point, where each number has this last serial
abbrev pub entry_at : List ℕ → Option Point → Option Entry
entry_at serials point = entry_by (record no_world { serials = serials }) point

-- THE PLACES OF THREADS

-- The place of each thread is one of this script, whether its context rests or is in a hand.
pub record ArePlaced (script : Script) (p : Parts) : Type 0 where
  pub store : stores.IsPlaced script p.store
  pub carriers : All (carriers.IsPlaced script) p.carriers
