-- What comes of a step on the maps of the raw world.
use Rattle.std.specs.Prelude.{ℕ, Option, Some, None}
use Rattle.k_ids.specs.declared.histories.Entry.{Entry}
use Rattle.k_locks.specs.declared.goods.Goods.{Goods}
use Rattle.k_locks.specs.declared.goods.Goods.TheVariants as goods
use Rattle.k_locks.specs.declared.points.Point.{Point}
use Rattle.k_locks.specs.declared.steps.Answer.{Answer}
use Rattle.k_locks.specs.declared.steps.Step.{Step}
use Rattle.k_locks.specs.declared.steps.Step.TheVariants as step
use Rattle.k_locks.specs.Hands.{no_queue}
use Rattle.k_locks.specs.Places.{lock_number}
use Rattle.k_locks.specs.Points.{entry_with}
use Rattle.k_locks.specs.Steps.{answer_of, word_of}
use Rattle.k_world.specs.Worlds.{goods_in}
use Rattle.k_places.specs.Memory.{Memory, word_in}

-- what comes with the lock, where the step gets one
abbrev pub goods_found : Memory → Step → Goods
goods_found m (step.Acquire l) = goods_in (m.home (lock_number l))
goods_found m s = goods.Senders no_queue

abbrev pub answer_in : Memory → Step → Answer
answer_in m s = answer_of s (word_in m (word_of s)) (goods_found m s)

-- the entry of a point, by the last serials
abbrev pub entry_in : (ℕ → ℕ) → Option Point → Option Entry
entry_in last None = None
entry_in last (Some p) = Some (entry_with last p)
