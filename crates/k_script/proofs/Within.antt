-- The calls of a script name numbers of its table, where the replies do.
use Rattle.std.proofs.Common.{◌≡◌, ℕ, suc, ◌≤◌, ◌==◌, ◌&&◌, Bool, true, false, List, [], ◌∷◌, length, refl, sym, subst, arith, Option, Some, None, inl, inr}
use Rattle.std.specs.List.{repeat, AllByRecursion}
use Rattle.std.proofs.lemmas.Bool.{cases_Bool, cases_lt}
use Rattle.k_lists.proofs.All.{all_append, all_weaker}
use Rattle.k_ids.specs.declared.threads.ThreadId.{ThreadId}
use Rattle.k_ids.specs.declared.threads.Message.{Message}
use Rattle.k_ids.specs.declared.calls.Reply.{Reply}
use Rattle.k_ids.specs.declared.calls.Reply.TheVariants as reply
use Rattle.k_script.specs.declared.operation.Who.{Who}
use Rattle.k_script.specs.declared.operation.Who.TheVariants as who
use Rattle.k_script.specs.declared.operation.Operation.{Operation}
use Rattle.k_script.specs.declared.operation.Operation.TheVariants as operation
use Rattle.k_script.specs.declared.registers.Registers.{Registers}
use Rattle.k_script.specs.declared.registers.Next.TheVariants as next
use Rattle.k_script.specs.Script.{Script, Program, operations_of}
use Rattle.k_script.specs.Limits.{IsWho, IsOperation, IsScript}
use Rattle.k_script.specs.Flat.{levels, levels_before, in_front, repeated, flat, first_level}
use Rattle.k_script.specs.Plays.{Position, phase_next, moved, phase_in, move_in, phase_of, reply_phase, first_phase, first_move, coming, after_work, filled, is_sent, id_of, start_of, IsInRange, AreInRange, TellsInRange, NamesInRange, AllLeft, IsWithin, next_for, first_next, next_in, next_of, went_in, went_on}
use Rattle.k_script.proofs.Onward.{past_nothing}

-- WRITTEN OUT, a program has its own operations.

pub all_repeat : {X : Type 0} (P : X → Type 0) (n : ℕ) (xs : List X) → AllByRecursion P xs → AllByRecursion P (repeat n xs)
all_repeat P (suc n) xs h = all_append P xs (repeat n xs) h (all_repeat P n xs h)
all_repeat P n xs h = tt

abbrev AllIn : (Operation → Type 0) → List (List Operation) → Type 0
AllIn P ls = AllByRecursion (λ l. AllByRecursion P l) ls

all_front : (P : Operation → Type 0) (op : Operation) (ls : List (List Operation)) → P op → AllIn P ls → AllIn P (in_front op ls)
all_front P op [] h a = tt
all_front P op (l ∷ ls) h a = ((h, a.0), a.1)

all_repeated : (P : Operation → Type 0) (count : ℕ) (ls : List (List Operation)) → AllIn P ls → AllIn P (repeated count ls)
all_repeated P count [] a = tt
all_repeated P count (l ∷ []) a = (all_repeat P count l a.0, tt)
all_repeated P count (l ∷ m ∷ ls) a = (all_append P (repeat count l) m (all_repeat P count l a.0) a.1.0, a.1.1)

all_before : (P : Operation → Type 0) (op : Operation) (ls : List (List Operation)) → P op → AllIn P ls → AllIn P (levels_before op ls)
all_before P (operation.Repeat count) ls h a = all_repeated P count ls a
all_before P operation.Again ls h a = (tt, a)
all_before P (operation.Send to low high zero) ls h a = all_front P (operation.Send to low high zero) ls h a
all_before P (operation.Receive from zero) ls h a = all_front P (operation.Receive from zero) ls h a
all_before P (operation.Call to low high zero) ls h a = all_front P (operation.Call to low high zero) ls h a
all_before P (operation.Reply low high zero) ls h a = all_front P (operation.Reply low high zero) ls h a
all_before P (operation.Create program priority) ls h a = all_front P (operation.Create program priority) ls h a
all_before P (operation.Destroy victim) ls h a = all_front P (operation.Destroy victim) ls h a
all_before P (operation.Work count) ls h a = all_front P (operation.Work count) ls h a

all_levels : (P : Operation → Type 0) (ops : List Operation) → AllByRecursion P ops → AllIn P (levels ops)
all_levels P [] h = (tt, tt)
all_levels P (op ∷ ops) h = all_before P op (levels ops) h.0 (all_levels P ops h.1)

all_first : (P : Operation → Type 0) (ls : List (List Operation)) → AllIn P ls → AllByRecursion P (first_level ls)
all_first P [] a = tt
all_first P (l ∷ ls) a = a.0

pub all_flat : (P : Operation → Type 0) (ops : List Operation) → AllByRecursion P ops → AllByRecursion P (flat ops)
all_flat P ops h = all_first P (levels ops) (all_levels P ops h)

-- THE START

more_programs : (table before programs : ℕ) (op : Operation) → before ≤ programs → IsOperation table before op → IsOperation table programs op
more_programs table before programs (operation.Create program priority) few h = (omega (arith, h.0), h.1)
more_programs table before programs (operation.Send to low high zero) few h = h
more_programs table before programs (operation.Receive (Some from) zero) few h = h
more_programs table before programs (operation.Receive None zero) few h = h
more_programs table before programs (operation.Call to low high zero) few h = h
more_programs table before programs (operation.Reply low high zero) few h = h
more_programs table before programs (operation.Destroy victim) few h = h
more_programs table before programs (operation.Work count) few h = h
more_programs table before programs (operation.Repeat count) few h = h
more_programs table before programs operation.Again few h = h

operations_within : (script : Script) (program : ℕ) → IsScript script → AllByRecursion (IsOperation script.table (length script.programs)) (operations_of script program)
operations_within script program h = elim (cases_lt program (length script.programs)) [
  | inl l ↦ all_weaker (IsOperation script.table program) (IsOperation script.table (length script.programs)) (λ op g. more_programs script.table program (length script.programs) op (omega arith) g) (operations_of script program) (h.programs program l).operations
  | inr g ↦ subst (λ (p : Program). AllByRecursion (IsOperation script.table (length script.programs)) p.operations) (sym (past_nothing script.programs program g)) tt
]

pub start_within : (script : Script) (program : ℕ) (id : ThreadId) → IsScript script → IsInRange script.table id → IsWithin script (start_of script program id)
start_within script program id h range = record {
  registers = record { last = range; created = range };
  left = all_flat (IsOperation script.table (length script.programs)) (operations_of script program) (operations_within script program h);
}

-- EACH CALL

filled_within : (table : ℕ) (r : Registers) (last : Option Reply) → AreInRange table r → TellsInRange table last → AreInRange table (filled r last)
filled_within table r None a t = a
filled_within table r (Some reply.Sent) a t = a
filled_within table r (Some (reply.Got from message)) a t = record { last = t; created = a.created }
filled_within table r (Some (reply.Made id)) a t = record { last = a.last; created = t }
filled_within table r (Some reply.Killed) a t = a
filled_within table r (Some (reply.Absent found)) a t = a
filled_within table r (Some (reply.Busy found)) a t = a
filled_within table r (Some reply.Nobody) a t = a
filled_within table r (Some reply.Own) a t = a
filled_within table r (Some (reply.Full alive worn)) a t = a
filled_within table r (Some reply.Gone) a t = a

who_within : (table : ℕ) (r : Registers) (w : Who) → AreInRange table r → IsWho table w → IsInRange table (id_of r w)
who_within table r (who.Number n) a h = record { number = h; first = omega arith; last = omega arith }
who_within table r who.Last a h = a.last
who_within table r who.Made a h = a.created

reply_within : (script : Script) (version : ℕ) (to : ThreadId) (message : Message) (zero two : Bool) → (version == 2) ≡ two → IsInRange script.table to → NamesInRange script (reply_phase version to message zero)
reply_within script version to message zero true e h = rw e h
reply_within script version to message zero false e h = rw e h

phase_within : (script : Script) (version : ℕ) (r : Registers) (op : Operation) → AreInRange script.table r → IsOperation script.table (length script.programs) op → NamesInRange script (phase_of version r op)
phase_within script version r (operation.Send to low high zero) a h = who_within script.table r to a h.0
phase_within script version r (operation.Receive (Some from) zero) a h = who_within script.table r from a h
phase_within script version r (operation.Receive None zero) a h = tt
phase_within script version r (operation.Call to low high zero) a h = who_within script.table r to a h.0
phase_within script version r (operation.Reply low high zero) a h = reply_within script version r.last _ zero (version == 2) refl a.last
phase_within script version r (operation.Create program priority) a h = h
phase_within script version r (operation.Destroy victim) a h = who_within script.table r victim a h
phase_within script version r (operation.Work count) a h = tt
phase_within script version r (operation.Repeat count) a h = tt
phase_within script version r operation.Again a h = tt

work_within : (P : Operation → Type 0) (ops : List Operation) → AllByRecursion P ops → AllByRecursion P (after_work ops)
work_within P [] h = tt
work_within P (operation.Work count ∷ ops) h = work_within P ops h.1
work_within P (operation.Send to low high zero ∷ ops) h = h
work_within P (operation.Receive from zero ∷ ops) h = h
work_within P (operation.Call to low high zero ∷ ops) h = h
work_within P (operation.Reply low high zero ∷ ops) h = h
work_within P (operation.Create program priority ∷ ops) h = h
work_within P (operation.Destroy victim ∷ ops) h = h
work_within P (operation.Repeat count ∷ ops) h = h
work_within P (operation.Again ∷ ops) h = h

coming_within : (script : Script) (replying : Bool) (last : Option Reply) (ops : List Operation) → AllByRecursion (IsOperation script.table (length script.programs)) ops → AllByRecursion (IsOperation script.table (length script.programs)) (coming replying last ops)
coming_within script replying last ops h = elim (cases_Bool (replying && is_sent last)) [
  | inl t ↦ rw t (tt, h)
  | inr f ↦ rw f h
]

first_within : (script : Script) (version : ℕ) (r : Registers) (ops : List Operation) → AreInRange script.table r → AllByRecursion (IsOperation script.table (length script.programs)) ops → NamesInRange script (first_phase version r ops) × IsWithin script (first_move r ops)
first_within script version r [] a h = (tt, record { registers = a; left = tt })
first_within script version r (op ∷ ops) a h = (phase_within script version r op a h.0, record { registers = a; left = h.1 })

abbrev IsStep : Script → ℕ → Position → Option Reply → Option (List Operation) → Type 0
IsStep script version p last left = NamesInRange script (phase_in version p last left) × IsWithin script (move_in p last left)

step_within : (script : Script) (version : ℕ) (p : Position) (last : Option Reply) (left : Option (List Operation)) → IsWithin script p → TellsInRange script.table last → AllLeft script left → IsStep script version p last left
step_within script version p last None w t h = (tt, w)
step_within script version p last (Some ops) w t h =
    let all = work_within (IsOperation script.table (length script.programs)) (coming p.replying last ops) (coming_within script p.replying last ops h) in
    first_within script version (filled p.registers last) (after_work (coming p.replying last ops)) (filled_within script.table p.registers last w.registers t) all

pub next_within : (script : Script) (version : ℕ) (p : Position) (last : Option Reply) → IsWithin script p → TellsInRange script.table last → NamesInRange script (phase_next version p last) × IsWithin script (moved p last)
next_within script version p last w t = step_within script version p last p.left w t w.left

-- EACH LOAD OF WORK: its count is that of an operation.

work_count : (script : Script) (version count : ℕ) (r : Registers) (op : Operation) → IsOperation script.table (length script.programs) op → next_for version r op ≡ next.Work count → (1 ≤ count) × (count ≤ 4294967295)
work_count script version count r (operation.Work n) h e = let same : n ≡ count = cc in subst (λ (k : ℕ). (1 ≤ k) × (k ≤ 4294967295)) same h
work_count script version count r (operation.Repeat n) h e = absurd cc
work_count script version count r operation.Again h e = absurd cc
work_count script version count r (operation.Send to low high zero) h e = absurd cc
work_count script version count r (operation.Receive from zero) h e = absurd cc
work_count script version count r (operation.Call to low high zero) h e = absurd cc
work_count script version count r (operation.Reply low high zero) h e = absurd cc
work_count script version count r (operation.Create program priority) h e = absurd cc
work_count script version count r (operation.Destroy victim) h e = absurd cc

first_work : (script : Script) (version count : ℕ) (r : Registers) (ops : List Operation) → AllByRecursion (IsOperation script.table (length script.programs)) ops → first_next version r ops ≡ next.Work count → (1 ≤ count) × (count ≤ 4294967295)
first_work script version count r [] a e = absurd cc
first_work script version count r (op ∷ ops) a e = work_count script version count r op a.0 e

abbrev IsLoad : Script → ℕ → Position → Option Reply → Option (List Operation) → Type 0
IsLoad script count p last left = (1 ≤ count) × (count ≤ 4294967295) × IsWithin script (went_in p last left)

load_within : (script : Script) (version count : ℕ) (p : Position) (last : Option Reply) (left : Option (List Operation)) → IsWithin script p → TellsInRange script.table last → AllLeft script left → next_in version p last left ≡ next.Work count → IsLoad script count p last left
load_within script version count p last None w t h e = absurd cc
load_within script version count p last (Some ops) w t h e =
    let all = coming_within script p.replying last ops h in
    let bounds = first_work script version count (filled p.registers last) (coming p.replying last ops) all e in
    (bounds.0, bounds.1, (first_within script version (filled p.registers last) (coming p.replying last ops) (filled_within script.table p.registers last w.registers t) all).1)

pub work_in_range : (script : Script) (version count : ℕ) (p : Position) (last : Option Reply) → IsWithin script p → TellsInRange script.table last → next_of version p last ≡ next.Work count → (1 ≤ count) × (count ≤ 4294967295) × IsWithin script (went_on p last)
work_in_range script version count p last w t e = load_within script version count p last p.left w t w.left e
