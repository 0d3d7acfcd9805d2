-- The linearization point of a step (Herlihy and Wing, *Linearizability*): the event that it appends to the history.
use Rattle.std.specs.Prelude.{ℕ, ◌+◌}
use Rattle.k_ids.specs.declared.calls.Act.{Act}
use Rattle.k_ids.specs.declared.calls.Act.TheVariants as act
use Rattle.k_ids.specs.declared.histories.Entry.{Entry}
use Rattle.k_locks.specs.declared.points.Point.{Point}

-- A call takes the next serial of its thread. A gone and a pick go on with the thread's last call.
abbrev pub serial_for : Act → ℕ → ℕ
serial_for (act.Call phase) last = last + 1
serial_for act.Gone last = last
serial_for act.Pick last = last

-- the entry of a point, where `last` has each number's last serial
abbrev pub entry_with : (ℕ → ℕ) → Point → Entry
entry_with last p = record {
  event = record { who = p.who; serial = serial_for p.act (last p.who.number); act = p.act };
  outcome = p.outcome;
}
