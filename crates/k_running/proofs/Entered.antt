-- A carrier's step can be made, and its entry is of numbers that there are.
use Rattle.std.proofs.Common.{◌≡◌, ℕ, ◌-◌, ◌^◌, ◌<◌, refl, Option, Some, None, arith, length}
use Rattle.std.specs.Prelude.{IfSome}
use Rattle.k_ids.specs.declared.calls.Act.{Act}
use Rattle.k_ids.specs.declared.calls.Act.TheVariants as act
use Rattle.k_ids.specs.StateWords.{IsStateSpelling}
use Rattle.k_locks.specs.declared.locks.WordName.TheVariants as word
use Rattle.k_locks.specs.declared.points.Point.{Point}
use Rattle.k_locks.specs.Points.{serial_for}
use Rattle.k_script.specs.Limits.{IsScript}
use Rattle.k_script.specs.Script.{Script}
use Rattle.k_carrier.specs.Asked.{asked, out_of}
use Rattle.k_carrier.specs.Conditions.{CanAsk, CanTell}
use Rattle.k_carrier.specs.Resumed.{point_of}
use Rattle.k_carrier.specs.Seen.{CarrierSeen}
use Rattle.k_store.specs.Conditions.{CanPerform, IsNumber, found_at}
use Rattle.k_world.specs.Moves.{answer_by}
use Rattle.k_world.specs.Steps.{caller_in, entry_by, entry_of, running, step_in}
use Rattle.k_world.specs.Worlds.{World, serial_at}
use Rattle.k_room.proofs.Wholes.{whole_few}
use Rattle.k_places.specs.Fits.{IsEntryWithin, IsStepWithin}
use Rattle.k_places.specs.Memory.{at, memory_of}
use Rattle.k_kernel.specs.Moves.{HasRoom}
use Rattle.k_running.specs.Running.{KernelHolds}
use Rattle.k_running.specs.Turning.{CanTurn, IsEntryFit}

pub can_turn : (script : Script) (w : World) (k : CarrierSeen) → CanAsk script k →
    CanPerform w.words w.slots (running (asked script k).hand) (out_of script k) →
    CanTell script (asked script k) (answer_by w (out_of script k)) → IsNumber (running (asked script k).hand) ×
    IsStateSpelling (found_at w.words (word.State (running (asked script k).hand))) → CanTurn script w k
can_turn script w k asks performs tells caller = record {
  asks = asks;
  performs = performs;
  tells = tells;
  number = caller.0;
  caller = caller.1;
}

serial_few : (a : Act) (last : ℕ) → last < 2 ^ 32 - 1 → serial_for a last < 2 ^ 32
serial_few (act.Call phase) last few = omega (arith, few)
serial_few act.Gone last few = omega (arith, few)
serial_few act.Pick last few = omega (arith, few)

serial_is : (w : World) (n : ℕ) → serial_at w n ≡ (memory_of w).serial n
unfolding at
serial_is w n = refl

module _ (script : Script) (limits : IsScript script) (room : HasRoom script) (w : World) (h : KernelHolds script w) where
  -- no number has made more calls than there are entries
  last_few : (n : ℕ) → serial_at w n < 2 ^ 32 - 1
  last_few n =
      let same = serial_is w n in
      let shown = h.aligned.shows.shows.serials n in
      let low = h.serials.lasts n in
      let few = whole_few script w.history h.state limits h.whole.holds.ledgers.leads.follows in
      omega (arith, same, shown, low, few, room)

  fits : (p : Option Point) → IsEntryWithin (length w.serials) (entry_by w p) → IfSome (entry_by w p) (IsEntryFit w)
  fits None within = tt
  fits (Some p) within = record {
    within = within;
    serial = serial_few p.act (serial_at w p.who.number) (last_few p.who.number);
  }

  pub entry_fits : (c : ℕ) → IsStepWithin w (step_in script c w) → IfSome (entry_of w (step_in script c w)) (IsEntryFit w)
  entry_fits c within =
      let s = step_in script c w in fits (point_of s.asked (caller_in w s.asked.hand) s.answer) within.entry
