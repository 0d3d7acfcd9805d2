-- The marks of steps over a whole run. Each context that is there counts the marks of its call, or of its switch; and no call
-- that is still to come has a mark, be it of this context or of a later thread of its number.
use Rattle.std.specs.Prelude.{◌≡◌, ℕ, ◌+◌, ◌≤◌, ◌<◌, true, false, Option, Some, None, List, [], ◌++◌, length}
use Rattle.k_ids.specs.declared.threads.ThreadId.{ThreadId}
use Rattle.k_model.specs.Maps.{upd}
use Rattle.k_locks.specs.declared.steps.Answer.{Answer}
use Rattle.k_locks.specs.Steps.{is_again}
use Rattle.k_switch.specs.Carriers.{last_serial}
use Rattle.k_context.specs.declared.owner.Owner.{Owner}
use Rattle.k_context.specs.declared.owner.Owner.TheVariants as owner
use Rattle.k_context.specs.Contexts.{ContextSeen, done_of, owner_of, resumed, serial_of}
use Rattle.k_carrier.specs.declared.marks.StepMark.{StepMark}
use Rattle.k_world.specs.Lawful.{IsLawfulMarks, numbers_of}
use Rattle.k_world.specs.Marks.{Onward, has_mark, marks_by}

-- The log of marks, the contexts by number, and for each number the version of the last thread for which a context was placed.
pub record Counting : Type 0 where
  pub marks : List StepMark
  pub context : ℕ → Option ContextSeen
  pub version : ℕ → ℕ

-- the number of an owner's context: the contexts of carriers come after those of threads
abbrev pub number_of : ℕ → Owner → ℕ
number_of table (owner.Thread id) = id.number
number_of table (owner.Carrier c) = table + c

-- whether the owner is a thread of a version that its number hasn't had
abbrev pub IsToCome : (ℕ → ℕ) → Owner → Type 0
IsToCome version (owner.Thread id) = version id.number < id.version
IsToCome version (owner.Carrier c) = ⊥

-- What a context has counted: the marks of its last call. Its next calls have none.
pub record Counts (marks : List StepMark) (v : ContextSeen) : Type 0 where
  pub serial : serial_of v ≤ last_serial
  pub done : done_of v ≤ last_serial
  pub call : length (numbers_of (owner_of v) (serial_of v) marks) ≡ done_of v
  pub next : (serial : ℕ) → serial_of v < serial → numbers_of (owner_of v) serial marks ≡ []

pub record IsCounted (table : ℕ) (s : Counting) : Type 0 where
  pub lawful : IsLawfulMarks s.marks
  pub number : (n : ℕ) (v : ContextSeen) → s.context n ≡ Some v → number_of table (owner_of v) ≡ n
  pub counts : (n : ℕ) (v : ContextSeen) → s.context n ≡ Some v → Counts s.marks v
  pub known : (n : ℕ) (v : ContextSeen) → s.context n ≡ Some v → IsToCome s.version (owner_of v) → ⊥
  pub to_come : (o : Owner) (serial : ℕ) → IsToCome s.version o → numbers_of o serial s.marks ≡ []
  pub uncounted : (c : ℕ) → numbers_of (owner.Carrier c) last_serial s.marks ≡ []

-- What a context becomes without a mark. Its call is the same, or its next call begins, which has a serial left; or its next
-- switch begins, from the last serial on with no serial of its own.
pub data Goes (v w : ContextSeen) : Type 0 where
  stays : owner_of w ≡ owner_of v → serial_of w ≡ serial_of v → done_of w ≡ done_of v → Goes v w
  begins : owner_of w ≡ owner_of v → serial_of v < last_serial → serial_of w ≡ serial_of v + 1 → done_of w ≡ 0 → Goes v w
  stands_still : (c : ℕ) → owner_of v ≡ owner.Carrier c → owner_of w ≡ owner.Carrier c → serial_of v ≡ last_serial →
      serial_of w ≡ last_serial → done_of w ≡ 0 → Goes v w

-- a context of a thread that has made no call
pub record IsNew (id : ThreadId) (v : ContextSeen) : Type 0 where
  pub owner : owner_of v ≡ owner.Thread id
  pub serial : serial_of v ≡ 0
  pub done : done_of v ≡ 0

-- What may become of the contexts and the log. A step of a section that isn't to be made again leaves its mark, if it has one,
-- and is counted; a switch has fewer steps than can be counted. A context is placed for a thread of a version that its number
-- hasn't had.
pub data Change (s : Counting) : Counting → Type 0 where
  goes : (n : ℕ) (v w : ContextSeen) → s.context n ≡ Some v → Goes v w →
      Change s (record s { context = upd s.context n (Some w) })
  steps : (n : ℕ) (v : ContextSeen) (a : Answer) (runner : Owner) → s.context n ≡ Some v → is_again a ≡ false →
      (has_mark v ≡ true → done_of v < last_serial) →
      Change s (record s { marks = s.marks ++ marks_by runner (Onward v); context = upd s.context n (Some (resumed v a)) })
  places : (id : ThreadId) (v : ContextSeen) → s.context id.number ≡ None → IsNew id v → s.version id.number < id.version →
      Change s (record s { context = upd s.context id.number (Some v); version = upd s.version id.number id.version })
  removes : (n : ℕ) → Change s (record s { context = upd s.context n None })

-- any number of changes, one after the other
pub data Changes (s : Counting) : Counting → Type 0 where
  none : Changes s s
  more : (m t : Counting) → Changes s m → Change m t → Changes s t

-- where nothing was marked yet
pub record IsUnmarked (table : ℕ) (s : Counting) : Type 0 where
  pub marks : s.marks ≡ []
  pub number : (n : ℕ) (v : ContextSeen) → s.context n ≡ Some v → number_of table (owner_of v) ≡ n
  pub serial : (n : ℕ) (v : ContextSeen) → s.context n ≡ Some v → serial_of v ≡ 0
  pub done : (n : ℕ) (v : ContextSeen) → s.context n ≡ Some v → done_of v ≡ 0
  pub known : (n : ℕ) (v : ContextSeen) → s.context n ≡ Some v → IsToCome s.version (owner_of v) → ⊥
