-- A worked chain of two owners. Context 3 asks for the table lock. Context 2 owns it, and asks for the lock of thread 1.
-- Context 1 owns that one: it has a step to make before it releases it. Context 2 then acquires it, releases it, and releases
-- the table lock.
use Rattle.std.specs.Prelude.{ℕ, ◌==◌, Bool, true, false, List, [], ◌∷◌, Option, Some, None, replicate}
use Rattle.k_locks.specs.Asks.{Want, Table, Context, Thread, Ready}
use Rattle.k_bound.specs.Sections.{Sections}
use Rattle.k_bound.specs.Hands.{Carrier, StepTells, Steps, first_carrier, run_of}
use Rattle.k_bound.specs.Logs.{MarkEntry}
use Rattle.k_bound.specs.Waits.{Helping, Link, SectionStep, WaitMark, owner_found, run, started}

-- what has happened last
pub data Moment : Type 0 where
  Begun : Moment
  FirstWorked : Moment
  FirstReleased : Moment
  SecondAcquired : Moment
  SecondReleased : Moment
  TableReleased : Moment

abbrev pub second_wants : Moment → Option Want
second_wants Begun = Some (Thread 1)
second_wants FirstWorked = Some (Thread 1)
second_wants FirstReleased = Some (Thread 1)
second_wants m = None

abbrev pub table_owner : Moment → Option ℕ
table_owner TableReleased = None
table_owner m = Some 2

abbrev pub thread_owner : Moment → Option ℕ
thread_owner Begun = Some 1
thread_owner FirstWorked = Some 1
thread_owner SecondAcquired = Some 2
thread_owner m = None

abbrev pub table_rest : Moment → ℕ
table_rest Begun = 3
table_rest FirstWorked = 3
table_rest FirstReleased = 3
table_rest SecondAcquired = 2
table_rest SecondReleased = 1
table_rest TableReleased = 0

abbrev pub thread_rest : Moment → ℕ
thread_rest Begun = 2
thread_rest FirstWorked = 1
thread_rest SecondAcquired = 1
thread_rest m = 0

abbrev pub after_first : Moment → Moment
after_first Begun = FirstWorked
after_first FirstWorked = FirstReleased
after_first m = m

-- as long as context 1 owns the lock, context 2 doesn't go on
abbrev pub after_second : Moment → Moment
after_second FirstReleased = SecondAcquired
after_second SecondAcquired = SecondReleased
after_second SecondReleased = TableReleased
after_second m = m

-- by whether the context is 3, and whether it is 2
abbrev pub wants_by : Bool → Bool → Moment → Option Want
wants_by true is_second m = Some Table
wants_by false true m = second_wants m
wants_by false false m = None

-- by whether the context is 1, and whether it is 2
abbrev pub after_by : Bool → Bool → Moment → Moment
after_by true is_second m = after_first m
after_by false true m = after_second m
after_by false false m = m

-- by whether the thread is 1
abbrev pub owner_by : Bool → Moment → Option ℕ
owner_by true m = thread_owner m
owner_by false m = None

abbrev pub owner_in : Moment → Want → Option ℕ
owner_in m Table = table_owner m
owner_in m (Thread number) = owner_by (number == 1) m
owner_in m (Context number) = None
owner_in m Ready = None

abbrev pub rest_in : Moment → Want → ℕ
rest_in m Table = table_rest m
rest_in m (Thread number) = thread_rest m
rest_in m (Context number) = 0
rest_in m Ready = 0

abbrev pub worked_sections : Sections Moment
worked_sections = record {
  wants = λ m context. wants_by (context == 3) (context == 2) m;
  holder = owner_in;
  rest = λ m context want. rest_in m want;
  left = λ m context want. rest_in m want;
  step = λ m context. after_by (context == 1) (context == 2) m;
  removed = λ m context. false;
}

-- Context 3 is answered twice that the lock is owned, and context 2 once. Five steps are made for the two owners. Then context 3
-- gets the lock.
abbrev pub worked_end : Helping Moment
worked_end = run worked_sections (replicate 9 SectionStep) (started Begun 3)

-- The same by the rules of the hand, where context 4 is the carrier's own and its switch has one step. The carrier looks at a
-- context, takes it, makes its steps and gives it back: first 4, then 3, 2, 1, 3, 2 and 3.
abbrev pub switches_to_third : StepTells
switches_to_third = record { goal_ends = false; preempts = false; switch_ends = true; next_goal = Some 3 }

abbrev pub worked_carrier : Carrier Moment
worked_carrier = run_of worked_sections (replicate 30 (Steps switches_to_third)) (first_carrier Begun 4)

abbrev pub first_link : Link
first_link = record { found = owner_found 2 Table; left = 3 }

abbrev pub second_link : Link
second_link = record { found = owner_found 1 (Thread 1); left = 2 }

-- two links, the last one first; five steps allowed, and five used
abbrev pub worked_mark : WaitMark
worked_mark = record {
  want = Table;
  links = second_link ∷ first_link ∷ [];
  used = 5;
  by_owners = true;
  helped = owner_found 2 Table ∷ owner_found 2 Table ∷ owner_found 2 Table
      ∷ owner_found 1 (Thread 1) ∷ owner_found 1 (Thread 1) ∷ [];
}

-- Its links in a log where links of another mark stand before them and between them, each with the index of its mark.
abbrev pub worked_log : List (ℕ × Link)
worked_log = (6, second_link) ∷ (7, first_link) ∷ (6, first_link) ∷ (7, second_link) ∷ []

abbrev pub mark_logged : ℕ × Link → ℕ
mark_logged logged = logged.0

abbrev pub link_logged : ℕ × Link → Link
link_logged logged = logged.1

abbrev pub worked_entry : MarkEntry
worked_entry = record { want = Table; allowed = 5; used = 5; first = 1; count = 2 }
