-- What the running kernel gives to the code of a step, and what code makes of it.
use Rattle.std.proofs.Common.{◌≡◌, ◌<◌, ◌≤◌, ℕ, ◌*◌, false, get_or, sym, ◌∙◌, subst, length}
use Rattle.std.specs.Prelude.{Err, IfOk, IfSome, Ok, Result, map}
use Rattle.std.proofs.Common.{ap}
use Rattle.std.specs.List.{All, range_with_len, slice_set}
use Rattle.std.proofs.lemmas.List.{length-map, length-set}
use Rattle.std.proofs.lemmas.List.Elements.{All-get_or, All-set}
use Rattle.std.proofs.lemmas.List.FromFn.{length-map-range_with_len}
use Rattle.k_ids.specs.declared.memory.NoMemory.{NoMemory}
use Rattle.k_ids.specs.StateWords.{IsStateSpelling}
use Rattle.k_locks.specs.declared.locks.WordName.TheVariants as word
use Rattle.k_script.specs.Script.{Script}
use Rattle.k_script.specs.Weight.{phases_of}
use Rattle.k_context.specs.Contexts.{ContextSeen}
use Rattle.k_carrier.specs.declared.carrier.Carrier.{Carrier}
use Rattle.k_carrier.specs.declared.marks.Want.{Want}
use Rattle.k_carrier.specs.Seen.{carrier_in, new_carrier}
use Rattle.k_carrier.specs.Seen as carriers
use Rattle.k_world.specs.Boot.{booted}
use Rattle.k_world.specs.Marks.{HeldUp}
use Rattle.k_world.specs.Steps.{carrier_after, course_in, entry_of, moved, step_in}
use Rattle.k_world.specs.Worlds.{World, carrier_at, word_at}
use Rattle.k_places.proofs.Raw.{word_is}
use Rattle.k_logs.specs.Seen.{HasRoom}
use Rattle.k_running.specs.Running.{KernelHolds}
use Rattle.k_running.specs.Turning.{CanFind, CanTurn, IsElsewhere, IsEntryFit}
use Rattle.k_core.specs.Conditions.{CanStep}
use Rattle.k_core.specs.Parts.{ArePlaced, Parts, world_in}
use Rattle.k_core.specs.Running.{IsRunning}
use Rattle.k_core.proofs.Can.{can_step}

module _ (script : Script) (p : Parts) where
  abbrev W : World
  W = world_in script p

  pub same_count : length W.carriers ≡ length p.carriers
  same_count = length-map p.carriers (carrier_in script)

  pub inside : (c : ℕ) → c < length p.carriers → c < length W.carriers
  inside c l = subst (λ n. c < n) (sym same_count) l

  pub steps : (c : ℕ) → IsRunning script p → c < length p.carriers → HasRoom p.logs.room →
      CanTurn script W (carrier_at W c) → IfSome (entry_of W (step_in script c W)) (IsEntryFit W) →
      ((v : ContextSeen) (wants : Want) (i : ℕ) → course_in (step_in script c W) ≡ HeldUp v wants i →
      CanFind script W i × IsElsewhere c W i) →
      length (moved script c W).history ≤ 2 * phases_of script → CanStep script p c
  steps c h l room turn entry found few =
      can_step script p c (2 * phases_of script) l h.placed turn entry found few h.room h.kernel.waits.0
      (h.kernel.waits.1 ∙ same_count) room

-- The parts that show a world of a running kernel, with the same room in the history, are a running kernel.
pub runs_on : (script : Script) (p q : Parts) (w : World) → IsRunning script p → world_in script q ≡ w →
    KernelHolds script w → ArePlaced script q → q.recorded.capacity ≡ p.recorded.capacity → IsRunning script q
runs_on script p q w h same kernel placed room = record {
  kernel = subst (KernelHolds script) (sym same) kernel;
  placed = placed;
  room = subst (λ (k : ℕ). 2 * phases_of script ≤ k) (sym room) h.room;
}

-- THE PLACES OF THREADS, where one carrier has changed

pub placed_at : (script : Script) (p : Parts) (c : ℕ) (x : Carrier) → ArePlaced script p → c < length p.carriers →
    x ≡ get_or p.carriers c x → carriers.IsPlaced script x
placed_at script p c x h l e = subst (carriers.IsPlaced script) (sym e)
    (All-get_or (carriers.IsPlaced script) p.carriers c x l h.carriers)

pub placed_with : (script : Script) (p : Parts) (i : ℕ) (y : Carrier) → ArePlaced script p →
    carriers.IsPlaced script y → ArePlaced script (record p { carriers = slice_set p.carriers i y })
placed_with script p i y h placed = record {
  store = h.store;
  carriers = All-set (carriers.IsPlaced script) p.carriers i y placed h.carriers;
}

pub placed_started : (script : Script) (p : Parts) (i j : ℕ) (y : Carrier) → ArePlaced script p →
    carriers.IsPlaced script y →
    ArePlaced script (record p { carriers = slice_set p.carriers i y; unstarted = slice_set p.unstarted j false })
placed_started script p i j y h placed = record {
  store = h.store;
  carriers = All-set (carriers.IsPlaced script) p.carriers i y placed h.carriers;
}

-- Each state word of a running kernel has a spelling.
pub state_spelled : (script : Script) (w : World) (n : ℕ) → KernelHolds script w →
    IsStateSpelling (word_at w (word.State n))
state_spelled script w n h = subst IsStateSpelling (sym (word_is w (word.State n)))
    (h.aligned.shows.shows.seen n).spelled

-- THE CARRIERS, which are as many as before

booted_count : (script : Script) (carriers : ℕ) → length (booted script carriers).carriers ≡ carriers
unfolding booted
booted_count script carriers = length-map-range_with_len (λ c. new_carrier c script.table) 0 carriers

moved_count : (script : Script) (c : ℕ) (w : World) → length (moved script c w).carriers ≡ length w.carriers
unfolding moved
moved_count script c w = let s = step_in script c w in length-set w.carriers s.number (carrier_after s)

pub first_count : (script : Script) (p : Parts) (carriers : ℕ) → world_in script p ≡ booted script carriers →
    length p.carriers ≡ carriers
first_count script p carriers same = sym (same_count script p)
    ∙ (ap (λ (w : World). length w.carriers) same ∙ booted_count script carriers)

pub next_count : (script : Script) (p q : Parts) (c : ℕ) →
    world_in script q ≡ moved script c (world_in script p) → length q.carriers ≡ length p.carriers
next_count script p q c same = sym (same_count script q)
    ∙ (ap (λ (w : World). length w.carriers) same
    ∙ (moved_count script c (world_in script p) ∙ same_count script p))

-- WHERE THERE WAS MEMORY

pub first_runs : (script : Script) (carriers : ℕ) (r : Result Parts NoMemory) →
    ((p : Parts) → world_in script p ≡ booted script carriers → ArePlaced script p →
    2 * phases_of script ≤ p.recorded.capacity → IsRunning script p) →
    IfOk r (λ p. world_in script p ≡ booted script carriers) → IfOk r (ArePlaced script) →
    IfOk r (λ p. 2 * phases_of script ≤ p.recorded.capacity) → IfOk r (IsRunning script)
first_runs script carriers (Ok p) goes same placed room = goes p same placed room
first_runs script carriers (Err e) goes same placed room = tt

pub first_counted : (script : Script) (carriers : ℕ) (r : Result Parts NoMemory) →
    IfOk r (λ p. world_in script p ≡ booted script carriers) → IfOk r (λ p. length p.carriers ≡ carriers)
first_counted script carriers (Ok p) same = first_count script p carriers same
first_counted script carriers (Err e) same = tt
