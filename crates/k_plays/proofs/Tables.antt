-- Programs of which each call names threads of the table and sends two words of 32 bits.
use Rattle.std.proofs.Common.{◌≡◌, ℕ, ◌<◌, ◌≤◌, true, ◌&&◌, refl, sym, subst, arith, Option, Some, None, inl, inr}
use Rattle.std.specs.Prelude.{nat_le, nat_lt}
use Rattle.std.proofs.lemmas.Bool.{and_from, and_parts, cases_Bool}
use Rattle.std.proofs.lemmas.Bool.Decides.{nat_tests}
use Rattle.k_ids.specs.declared.threads.ThreadId.{ThreadId}
use Rattle.k_ids.specs.declared.calls.Phase.{Phase}
use Rattle.k_ids.specs.declared.calls.Phase.TheVariants as phase
use Rattle.k_ids.specs.declared.calls.Reply.{Reply}
use Rattle.k_caller.specs.Threads.{NamesIn}
use Rattle.k_good.specs.Ranges.{NamesFit}
use Rattle.k_ids.specs.declared.threads.Message.{Message}
use Rattle.k_plays.proofs.Messages.{next_words}
use Rattle.k_plays.specs.Messages.{AllSendWords, HasWords, SendsWords, has_words, sends_words}
use Rattle.k_plays.specs.Scripts.{AreOf, IsInBounds, is_in_table, names_table, programs_of, ranged_programs, within_table}
use Rattle.k_script.proofs.Onward.{calls_on}
use Rattle.k_script.proofs.Within.{next_within}
use Rattle.k_script.specs.Plays.{IsInRange, NamesInRange, Position, next_of, phase_next}
use Rattle.k_script.specs.Script.{Script}
use Rattle.k_script.specs.declared.registers.Next.{Next}
use Rattle.k_script.specs.declared.registers.Next.TheVariants as next

-- THE TEST of an id is that it is in range.

in_range : (table : ℕ) (id : ThreadId) → is_in_table table id ≡ true → IsInRange table id
in_range table id h =
    let p = and_parts (nat_lt id.number table) (nat_le 1 id.version && nat_le id.version 1048575) h in
    let q = and_parts (nat_le 1 id.version) (nat_le id.version 1048575) p.1 in
    let number : nat_lt id.number table ≡ true = p.0 in
    let first : nat_le 1 id.version ≡ true = q.0 in
    let last : nat_le id.version 1048575 ≡ true = q.1 in
    record {
      number = grind (arith, nat_tests, number);
      first = grind (arith, nat_tests, first);
      last = grind (arith, nat_tests, last);
    }

in_table : (table : ℕ) (id : ThreadId) → IsInRange table id → is_in_table table id ≡ true
in_table table id h =
    let number : id.number < table = h.number in
    let first : 1 ≤ id.version = h.first in
    let last : id.version ≤ 1048575 = h.last in
    let below : nat_lt id.number table ≡ true = grind (arith, nat_tests, number) in
    let above : nat_le 1 id.version ≡ true = grind (arith, nat_tests, first) in
    let within : nat_le id.version 1048575 ≡ true = grind (arith, nat_tests, last) in
    and_from _ _ below (and_from _ _ above within)

-- So it is with the test of a call.

names_in : (table : ℕ) (f : Phase) → names_table table f ≡ true → NamesIn table f
names_in table (phase.Send to message zero joined) h = in_range table to h
names_in table (phase.Receive (Some from) zero) h = in_range table from h
names_in table (phase.Receive None zero) h = tt
names_in table (phase.Create program priority) h = grind (arith, nat_tests, h)
names_in table (phase.Destroy victim) h = in_range table victim h
names_in table (phase.Reply to message zero) h = in_range table to h
names_in table phase.End h = tt

pub names_of : (script : Script) (f : Phase) → NamesInRange script f → names_table script.table f ≡ true
names_of script (phase.Send to message zero joined) h = in_table script.table to h
names_of script (phase.Receive (Some from) zero) h = in_table script.table from h
names_of script (phase.Receive None zero) h = refl
names_of script (phase.Create program priority) h = let few : priority ≤ 63 = h.1 in grind (arith, nat_tests, few)
names_of script (phase.Destroy victim) h = in_table script.table victim h
names_of script (phase.Reply to message zero) h = in_table script.table to h
names_of script phase.End h = refl

-- THE TEST of a message is that it is two words.

is_words : (m : Message) → has_words m ≡ true → HasWords m
is_words m h =
    let p = and_parts (nat_le m.low 4294967295) (nat_le m.high 4294967295) h in
    let low : nat_le m.low 4294967295 ≡ true = p.0 in
    let high : nat_le m.high 4294967295 ≡ true = p.1 in
    record { low = grind (arith, nat_tests, low); high = grind (arith, nat_tests, high) }

words_are : (m : Message) → HasWords m → has_words m ≡ true
words_are m h =
    let low : m.low ≤ 4294967295 = h.low in
    let high : m.high ≤ 4294967295 = h.high in
    let below : nat_le m.low 4294967295 ≡ true = grind (arith, nat_tests, low) in
    let above : nat_le m.high 4294967295 ≡ true = grind (arith, nat_tests, high) in
    and_from _ _ below above

sends_in : (f : Phase) → sends_words f ≡ true → SendsWords f
sends_in (phase.Send to message zero joined) h = is_words message h
sends_in (phase.Reply to message zero) h = is_words message h
sends_in (phase.Receive from zero) h = tt
sends_in (phase.Create program priority) h = tt
sends_in (phase.Destroy victim) h = tt
sends_in phase.End h = tt

sends_of : (f : Phase) → SendsWords f → sends_words f ≡ true
sends_of (phase.Send to message zero joined) h = words_are message h
sends_of (phase.Reply to message zero) h = words_are message h
sends_of (phase.Receive from zero) h = refl
sends_of (phase.Create program priority) h = refl
sends_of (phase.Destroy victim) h = refl
sends_of phase.End h = refl

-- EACH CALL of the ranged programs names threads of the table, and sends two words.

phase_is : (f g : Phase) → next.Phase f ≡ next.Phase g → f ≡ g
phase_is f g h = cc

within_fits : (table : ℕ) (n : Next) (f : Phase) → within_table table n ≡ next.Phase f → NamesIn table f × SendsWords f
within_fits table (next.Work count) f h = let no : next.Work count ≡ next.Phase f = h in absurd cc
within_fits table (next.Phase g) f h = elim (cases_Bool (names_table table g && sends_words g)) [
  | inl t ↦
      let is : next.Phase g ≡ next.Phase f = rw t at h in
      let both = and_parts (names_table table g) (sends_words g) t in
      subst (λ (c : Phase). NamesIn table c × SendsWords c) (phase_is g f is) (names_in table g both.0, sends_in g both.1)
  | inr n ↦
      let is : next.Phase phase.End ≡ next.Phase f = rw n at h in
      subst (λ (c : Phase). NamesIn table c × SendsWords c) (phase_is phase.End f is) (tt, tt)
]

pub ranged_fit : (script : Script) → NamesFit (ranged_programs script) script.table
ranged_fit script p r f h = (within_fits script.table (next_of script.version p r) f h).0

pub ranged_words : (script : Script) → AllSendWords (ranged_programs script)
ranged_words script p r f h = (within_fits script.table (next_of script.version p r) f h).1

-- Within the script they are the script's.

within_same : (script : Script) (p : Position) (r : Option Reply) (n : Next) → next_of script.version p r ≡ n →
    IsInBounds script p r → within_table script.table n ≡ n
within_same script p r (next.Work count) e b = refl
within_same script p r (next.Phase f) e b =
    let is : phase_next script.version p r ≡ f = sym (calls_on script.version p r f e).phase in
    let names : NamesInRange script f = subst (NamesInRange script) is
    (next_within script script.version p r b.within b.told).0 in
    let sends : SendsWords f = subst SendsWords is (next_words script p r b.within b.filled b.words) in
    let both : (names_table script.table f && sends_words f) ≡ true = and_from _ _ (names_of script f names) (sends_of f sends) in
    rw both refl

pub ranged_are : (script : Script) → AreOf script (ranged_programs script)
ranged_are script = record {
  starts = λ id program. refl;
  gives = λ p r b. within_same script p r (next_of script.version p r) refl b;
  leads = λ p r. refl;
}

pub own_are : (script : Script) → AreOf script (programs_of script)
own_are script = record { starts = λ id program. refl; gives = λ p r b. refl; leads = λ p r. refl }
