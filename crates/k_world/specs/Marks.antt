-- What a step leaves in the logs: the mark of a step of a section, and the marks of waits with their links.
--
-- The mark of a wait stands from the step that found the want held up until the requester's step is made (then it was got), or
-- its carrier is interrupted or drops its goal (then it was broken, and `got` stays false). At a step this comes in this order:
-- marks of interrupted carriers are broken; a requester has got what it wanted; the step is counted; what is held up is marked;
-- the mark of a goal that was dropped is broken.
use Rattle.std.specs.Prelude.{ℕ, ◌+◌, ◌-◌, ◌^◌, ◌==◌, min, nat_lt, Bool, true, false, ◌&&◌, if◌then◌else◌, Option, Some, None, List, [], ◌∷◌, ◌++◌, length, map, slice_index_or, slice_set}
use Rattle.std.specs.List.{list_any}
use Rattle.k_locks.specs.declared.locks.Lock.{Lock}
use Rattle.k_locks.specs.declared.locks.Lock.TheVariants as lock
use Rattle.k_locks.specs.declared.steps.Answer.{Answer}
use Rattle.k_locks.specs.declared.steps.Answer.TheVariants as answered
use Rattle.k_locks.specs.declared.steps.Step.{Step}
use Rattle.k_locks.specs.declared.steps.Step.TheVariants as step
use Rattle.k_locks.specs.declared.steps.Told.{Told}
use Rattle.k_locks.specs.declared.steps.Told.TheVariants as told
use Rattle.k_locks.specs.Steps.{one_more}
use Rattle.k_model.specs.State.{same_id}
use Rattle.k_caller.specs.Activities.{is_of_call}
use Rattle.k_switch.specs.declared.goal.Goal.{Goal}
use Rattle.k_switch.specs.Carriers.{last_serial}
use Rattle.k_context.specs.declared.owner.Owner.{Owner}
use Rattle.k_context.specs.declared.owner.Owner.TheVariants as owner
use Rattle.k_context.specs.Contexts.{ContextSeen, Thread, Carrier, done_of, owner_of, serial_of}
use Rattle.k_carrier.specs.declared.marks.Link.{Link}
use Rattle.k_carrier.specs.declared.marks.StepMark.{StepMark}
use Rattle.k_carrier.specs.declared.marks.WaitMark.{WaitMark}
use Rattle.k_carrier.specs.declared.marks.Want.{Want}
use Rattle.k_carrier.specs.declared.marks.Want.TheVariants as want
use Rattle.k_carrier.specs.Answers.{AnswerSeen}
use Rattle.k_carrier.specs.Answers as answer
use Rattle.k_carrier.specs.Moves.{MoveSeen}
use Rattle.k_carrier.specs.Moves as move
use Rattle.k_carrier.specs.Rules.{is_interrupted, same_lock}
use Rattle.k_carrier.specs.Running.{left_for}
use Rattle.k_carrier.specs.Seen.{CarrierSeen, HandSeen}
use Rattle.k_world.specs.Worlds.{WaitLog}

-- THE SAME

abbrev pub same_owner : Owner → Owner → Bool
same_owner (owner.Thread a) (owner.Thread b) = same_id a b
same_owner (owner.Carrier a) (owner.Carrier b) = a == b
same_owner (owner.Thread a) (owner.Carrier b) = false
same_owner (owner.Carrier a) (owner.Thread b) = false

abbrev pub same_want : Want → Want → Bool
same_want (want.Lock a) (want.Lock b) = same_lock a b
same_want (want.Context a) (want.Context b) = a == b
same_want (want.Lock a) (want.Context b) = false
same_want (want.Context a) (want.Lock b) = false

-- the same thread, or none
abbrev pub same_goal : Option Goal → Option Goal → Bool
same_goal None None = true
same_goal (Some a) (Some b) = same_id a.id b.id
same_goal None (Some b) = false
same_goal (Some a) None = false

-- WHAT BECAME OF THE SECTION IN HAND

pub data Course : Type 0 where
  Still : Course  -- no step of a section, or a context that is to be removed is in another carrier's hand
  Onward : ContextSeen → Course  -- the section of this context went on
  HeldUp : ContextSeen → Want → ℕ → Course  -- what this context wants is held up by the context of this number

-- no other step finds a lock owned
abbrev pub lock_wanted : Step → Lock
lock_wanted (step.Acquire l) = l
lock_wanted s = lock.Ready

abbrev pub course_told : ContextSeen → Step → Told → Course
course_told v s (told.Owned i) = HeldUp v (want.Lock (lock_wanted s)) i
course_told v s (told.Holds i) = HeldUp v (want.Context i) i
course_told v s (told.Taken i carrier) = Still
course_told v s t = Onward v

abbrev pub course_by : ContextSeen → Step → Answer → Course
course_by v s (answered.Got goods) = Onward v
course_by v s (answered.Told t) = course_told v s t

-- of a hand's move, and its answer; looks, takes and gives are no steps of a section
abbrev pub course_of : Option HandSeen → MoveSeen → AnswerSeen → Course
course_of (Some h) (move.Section s) (answer.Section a) = course_by h.value s a
course_of hand m a = Still

-- STEP MARKS

-- Work belongs to no call. The numbers end: of a call's steps and of a carrier's switches.
abbrev pub has_mark : ContextSeen → Bool
has_mark (Thread t) = is_of_call t.activity && nat_lt t.done last_serial
has_mark (Carrier k) = nat_lt k.serial last_serial

-- the mark of the step that this context makes next, by this runner
abbrev pub step_mark : ContextSeen → Owner → StepMark
step_mark v runner = record { owner = owner_of v; serial = serial_of v; number = done_of v; runner = runner }

abbrev pub marks_by : Owner → Course → List StepMark
marks_by runner Still = []
marks_by runner (Onward v) = if has_mark v then step_mark v runner ∷ [] else []
marks_by runner (HeldUp v wanted i) = []

-- MARKS OF WAITS

-- a count stays at the end of its type
abbrev pub capped : ℕ → ℕ
capped n = min n (2 ^ 32 - 1)

abbrev pub standing_at : WaitLog → ℕ → Option ℕ
standing_at l c = slice_index_or l.standing c None

abbrev pub no_mark : WaitMark
no_mark = record {
  requester = owner.Carrier 0;
  serial = 0;
  wants = want.Lock lock.Ready;
  got = false;
  allowed = 0;
  used = 0;
  first = 0;
  count = 0;
}

abbrev pub mark_at : List WaitMark → ℕ → WaitMark
mark_at marks k = slice_index_or marks k no_mark

-- 1. Of a carrier that is interrupted no mark stands.
abbrev pub unbroken : Bool → Option ℕ → Option ℕ
unbroken true mark = None
unbroken false mark = mark

abbrev pub broken : List CarrierSeen → List (Option ℕ) → List (Option ℕ)
broken [] standing = standing
broken (k ∷ ks) [] = []
broken (k ∷ ks) (mark ∷ standing) = unbroken (is_interrupted k) mark ∷ broken ks standing

-- 2. The requester's section went on, whoever made its step: what it waited for was got.
abbrev pub is_of : Owner → List WaitMark → Option ℕ → Bool
is_of requester marks None = false
is_of requester marks (Some k) = same_owner (mark_at marks k).requester requester

abbrev pub with_got : Owner → List WaitMark → Option ℕ → List WaitMark
with_got requester marks None = marks
with_got requester marks (Some k) =
    if is_of requester marks (Some k) then slice_set marks k (record (mark_at marks k) { got = true }) else marks

abbrev pub all_got : Owner → List (Option ℕ) → List WaitMark → List WaitMark
all_got requester [] marks = marks
all_got requester (mark ∷ standing) marks = all_got requester standing (with_got requester marks mark)

abbrev pub still_waits : Owner → List WaitMark → Option ℕ → Option ℕ
still_waits requester marks mark = if is_of requester marks mark then None else mark

abbrev pub got_by : Owner → WaitLog → WaitLog
got_by requester l = record l {
  marks = all_got requester l.standing l.marks;
  standing = map (still_waits requester l.marks) l.standing;
}

-- 3. A step with a mark counts in the mark that stands of the carrier that makes it.
abbrev pub used_once : WaitMark → WaitMark
used_once m = record m { used = one_more m.used }

abbrev pub counted_in : Option ℕ → List WaitMark → List WaitMark
counted_in None marks = marks
counted_in (Some k) marks = slice_set marks k (used_once (mark_at marks k))

abbrev pub with_use : ℕ → Bool → WaitLog → WaitLog
with_use c true l = record l { marks = counted_in (standing_at l c) l.marks }
with_use c false l = l

-- 4. Who holds up a want is linked to the mark that stands, with the steps that it has left until it has released what is wanted.
abbrev pub link_of : ℕ → ContextSeen → Want → Link
link_of k holder wanted = record {
  mark = k;
  owner = owner_of holder;
  serial = serial_of holder;
  wants = wanted;
  left = left_for holder wanted;
}

-- whether two links are of the same mark, owner and want
abbrev pub is_alike : Link → Link → Bool
is_alike a b = (a.mark == b.mark) && (same_owner a.owner b.owner && same_want a.wants b.wants)

abbrev pub is_linked : Link → List Link → Bool
is_linked link links = list_any (λ l. is_alike l link) links

-- a mark with one link more, of so many steps
abbrev pub more_allowed : ℕ → WaitMark → WaitMark
more_allowed left m = record m { allowed = capped (m.allowed + left); count = one_more m.count }

abbrev pub with_link : Link → WaitLog → WaitLog
with_link link l = record l {
  marks = slice_set l.marks link.mark (more_allowed link.left (mark_at l.marks link.mark));
  links = l.links ++ link ∷ [];
}

-- unless it is in the chain
abbrev pub chained : Link → WaitLog → WaitLog
chained link l = if is_linked link l.links then l else with_link link l

-- a mark whose first link has this index, and so many steps left
abbrev pub mark_of : ContextSeen → Want → ℕ → ℕ → WaitMark
mark_of v wanted first left = record {
  requester = owner_of v;
  serial = serial_of v;
  wants = wanted;
  got = false;
  allowed = capped left;
  used = 0;
  first = first;
  count = 1;
}

-- A mark begins with its first link, and stands.
abbrev pub mark_begun : ℕ → ContextSeen → Want → Link → WaitLog → WaitLog
mark_begun c v wanted link l = record {
  marks = l.marks ++ mark_of v wanted (length l.links) link.left ∷ [];
  links = l.links ++ link ∷ [];
  standing = slice_set l.standing c (Some (length l.marks));
}

-- By the mark that stands. Who is helped is linked to it. A requester begins one where none stands; where one does, it asks again
-- for the same, and adds nothing.
abbrev pub held_up_by : ℕ → Bool → ContextSeen → Want → ContextSeen → Option ℕ → WaitLog → WaitLog
held_up_by c true v wanted holder None l = l
held_up_by c true v wanted holder (Some k) l = chained (link_of k holder wanted) l
held_up_by c false v wanted holder None l = mark_begun c v wanted (link_of (length l.marks) holder wanted) l
held_up_by c false v wanted holder (Some k) l = l

abbrev pub held_up : ℕ → Bool → ContextSeen → Want → Option ContextSeen → WaitLog → WaitLog
held_up c is_helped v wanted None l = l
held_up c is_helped v wanted (Some holder) l = held_up_by c is_helped v wanted holder (standing_at l c) l

-- 5. The goal that the carrier had was dropped.
abbrev pub dropped : ℕ → Bool → WaitLog → WaitLog
dropped c true l = record l { standing = slice_set l.standing c None }
dropped c false l = l
