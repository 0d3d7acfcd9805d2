-- The world in which a kernel begins. The first numbers have a thread each, of version 1, that runs and stands in the ready list
-- of its priority, in the order of the numbers; but one that waits for a start stands in none. The others are dead, of these
-- versions. No carrier has begun.
use Rattle.std.specs.Prelude.{ℕ, zero, suc, ◌==◌, nat_lt, Bool, false, not, ◌&&◌, List, [], ◌∷◌, ◌++◌, None, if◌then◌else◌}
use Rattle.k_ids.specs.declared.threads.ThreadId.{ThreadId}
use Rattle.k_tokens.specs.Maps.{id_at}
use Rattle.k_tokens.specs.World.{no_locks, Absent, Awake, Threads, NoSwitch, OwnContext, Carrier, World}

-- what a kernel begins with
pub record Opening : Type 0 where
  pub threads : ℕ  -- how many
  pub carriers : ℕ
  pub priority : ℕ → ℕ
  pub late : ℕ → Bool  -- it waits for a start
  pub aged : ℕ → ℕ  -- the version of a number without a thread

abbrev pub is_thread : ℕ → ℕ → Bool
is_thread threads number = nat_lt number threads

-- the list of a priority, of the first threads
abbrev pub boot_list : Opening → ℕ → ℕ → List ThreadId
boot_list o zero p = []
boot_list o (suc t) p = boot_list o t p ++ (if not (o.late t) && (o.priority t == p) then id_at t 1 ∷ [] else [])

abbrev pub boot_version : Opening → ℕ → ℕ
boot_version o t = if is_thread o.threads t then 1 else o.aged t

abbrev pub boot_threads : Opening → Threads
boot_threads o = record {
  version = boot_version o;
  present = is_thread o.threads;
  on = is_thread o.threads;
  ended = λ t. false;
  priority = o.priority;
  condition = λ t. if is_thread o.threads t then Awake else Absent;
  made = boot_version o;
  locks = λ t. no_locks;
  push = λ t. None;
  table = None;
  victim = None;
  listed = false;
  making = None;
}

abbrev pub boot_own : OwnContext
boot_own = record {
  stage = NoSwitch;
  goal = None;
  counted = false;
  slice_ended = false;
  start = None;
  goal_seen = None;
  start_seen = None;
  idle = false;
}

abbrev pub boot_carrier : Carrier
boot_carrier = record {
  goal = None;
  counted = false;
  hand = None;
  help = None;
  switching = false;
  looked = None;
  starts = λ t. false;
  slice = false;
  resched = false;
  putting = false;
}

abbrev pub boot : Opening → World
boot o = record {
  threads = boot_threads o;
  lists = boot_list o o.threads;
  running = 0;
  ready_owner = None;
  own = λ c. boot_own;
  carrier = λ c. boot_carrier;
  held = λ t. None;
  held_own = λ c. None;
  unmade = λ t. is_thread o.threads t && o.late t;
  carriers = o.carriers;
}
