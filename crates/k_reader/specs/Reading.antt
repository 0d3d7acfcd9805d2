-- Reading, line by line: why a line is bad, or what it adds. Of the reasons of a line the first counts, in the order Word,
-- Order, Nest, Number, Unknown, Table, Many.
use Rattle.std.specs.Prelude.{ℕ, ◌+◌, ◌==◌, nat_le, nat_lt, Bool, true, false, not, ◌&&◌, ◌||◌, List, [], ◌∷◌, ◌++◌, length, codes, slice_set, slice_index, Option, Some, None, option_and_then, option_map, is_some, is_none, Result, Ok, Err, if◌then◌else◌}
use Rattle.std.specs.List.{list_all, sum_by}
use Rattle.std.specs.Str.{bytes_eq}
use Rattle.k_script.specs.declared.operation.Who.{Who}
use Rattle.k_script.specs.declared.operation.Who.TheVariants as who
use Rattle.k_script.specs.declared.operation.Value.{Value}
use Rattle.k_script.specs.declared.operation.Value.TheVariants as value
use Rattle.k_script.specs.declared.operation.Operation.{Operation}
use Rattle.k_script.specs.declared.operation.Operation.TheVariants as operation
use Rattle.k_script.specs.declared.lines.AtWhat.{AtWhat}
use Rattle.k_script.specs.declared.lines.AtWhat.TheVariants as what
use Rattle.k_script.specs.declared.lines.Item.{Item}
use Rattle.k_script.specs.declared.lines.Item.TheVariants as item
use Rattle.k_script.specs.Script.{Program, Script}
use Rattle.k_script.specs.Limits.{depth_behind, steps_of}
use Rattle.k_lines.specs.declared.numeral.Numeral.{Numeral}
use Rattle.k_lines.specs.declared.line.WhoWord.{WhoWord}
use Rattle.k_lines.specs.declared.line.WhoWord.TheVariants as who_word
use Rattle.k_lines.specs.declared.line.ValueWord.{ValueWord}
use Rattle.k_lines.specs.declared.line.ValueWord.TheVariants as value_word
use Rattle.k_lines.specs.declared.line.ItemWord.{ItemWord}
use Rattle.k_lines.specs.declared.line.ItemWord.TheVariants as item_word
use Rattle.k_lines.specs.declared.line.OperationLine.{OperationLine}
use Rattle.k_lines.specs.declared.line.OperationLine.TheVariants as op
use Rattle.k_lines.specs.declared.line.Line.{Line}
use Rattle.k_lines.specs.declared.line.Line.TheVariants as line
use Rattle.k_lines.specs.Words.{words_of, lines_of, is_plain, has_words}
use Rattle.k_lines.specs.Numbers.{in_range}
use Rattle.k_lines.specs.Lines.{Word, line_of, items_of}
use Rattle.k_reader.specs.declared.fault.Why.{Why}
use Rattle.k_reader.specs.declared.fault.Why.TheVariants as why
use Rattle.k_reader.specs.Draft.{Draft, opened, table_of, carriers_of, script_of, is_nil, free_of_events, free_of_threads, free_of_programs, free_of_show, is_aged, is_started, program_at, falls}

-- A CHAIN OF REASONS: it is bad for this one if the test passes or the value is missing, else the rest decides.

abbrev pub bad_if : {A : Type 0} → Bool → Why → Result A Why → Result A Why
bad_if true reason rest = Err reason
bad_if false reason rest = rest

abbrev pub given : {A B : Type 0} → Option A → Why → (A → Result B Why) → Result B Why
given None reason rest = Err reason
given (Some x) reason rest = rest x

abbrev pub on_ok : {A B : Type 0} → Result A Why → (A → Result B Why) → Result B Why
on_ok (Err reason) rest = Err reason
on_ok (Ok x) rest = rest x

-- OPERATIONS

-- A number of the table and a carrier have no range: which there are, the table and the carriers judge.
abbrev pub below : ℕ → Numeral → Option ℕ
below size n = if nat_lt n.value size then Some n.value else None

abbrev pub is_led : WhoWord → Bool
is_led (who_word.Number n) = n.led
is_led who_word.Last = false
is_led who_word.Made = false

abbrev pub who_in : ℕ → WhoWord → Option Who
who_in table (who_word.Number n) = option_map who.Number (below table n)
who_in table who_word.Last = Some who.Last
who_in table who_word.Made = Some who.Made

abbrev pub value_in : ValueWord → Option Value
value_in (value_word.Number n) = option_map value.Number (in_range 0 4294967295 n)
value_in value_word.Got0 = Some value.Got0
value_in value_word.Got1 = Some value.Got1

unfoldable pub thread_in : ℕ → WhoWord → Result Who Why
thread_in table w = bad_if (is_led w) why.Number (given (who_in table w) why.Table (λ t. Ok t))

unfoldable pub message_in : ℕ → WhoWord → ValueWord → ValueWord → Result (Who × Value × Value) Why
message_in table to low high =
    bad_if (is_led to) why.Number
    (given (value_in low) why.Number λ l.
    given (value_in high) why.Number λ h.
    given (who_in table to) why.Table λ t. Ok (t, l, h))

abbrev pub send_in : ℕ → WhoWord → ValueWord → ValueWord → Bool → Result Operation Why
send_in table to low high zero = on_ok (message_in table to low high) (λ m. Ok (operation.Send m.0 m.1 m.2 zero))

abbrev pub call_in : ℕ → WhoWord → ValueWord → ValueWord → Bool → Result Operation Why
call_in table to low high zero = on_ok (message_in table to low high) (λ m. Ok (operation.Call m.0 m.1 m.2 zero))

abbrev pub receive_in : ℕ → WhoWord → Bool → Result Operation Why
receive_in table from zero = on_ok (thread_in table from) (λ t. Ok (operation.Receive (Some t) zero))

abbrev pub destroy_in : ℕ → WhoWord → Result Operation Why
destroy_in table victim = on_ok (thread_in table victim) (λ t. Ok (operation.Destroy t))

abbrev pub reply_in : ValueWord → ValueWord → Bool → Result Operation Why
reply_in low high zero = given (value_in low) why.Number (λ l. given (value_in high) why.Number (λ h. Ok (operation.Reply l h zero)))

abbrev pub create_in : List Program → Word → Numeral → Result Operation Why
create_in programs name priority = given (in_range 0 63 priority) why.Number (λ p. given (program_at name programs) why.Unknown (λ k. Ok (operation.Create k p)))

abbrev pub work_in : Numeral → Result Operation Why
work_in count = given (in_range 1 4294967295 count) why.Number (λ n. Ok (operation.Work n))

abbrev pub repeat_in : Numeral → Result Operation Why
repeat_in count = given (in_range 1 65535 count) why.Number (λ n. Ok (operation.Repeat n))

unfoldable pub operation_in : ℕ → List Program → OperationLine → Result Operation Why
operation_in table programs (op.Send to low high zero) = send_in table to low high zero
operation_in table programs (op.Receive from zero) = receive_in table from zero
operation_in table programs (op.Wait zero) = Ok (operation.Receive None zero)
operation_in table programs (op.Call to low high zero) = call_in table to low high zero
operation_in table programs (op.Reply low high zero) = reply_in low high zero
operation_in table programs (op.Create name priority) = create_in programs name priority
operation_in table programs (op.Destroy victim) = destroy_in table victim
operation_in table programs (op.Work count) = work_in count
operation_in table programs (op.Repeat count) = repeat_in count
operation_in table programs op.Again = Ok operation.Again

-- With so many repeats open: a repeat at a fifth level, or an again without a repeat. (What is read nests well so far, so there
-- is a count.)
abbrev pub misnests : Option ℕ → OperationLine → Bool
misnests (Some depth) (op.Repeat count) = nat_le 4 depth
misnests (Some depth) op.Again = depth == 0
misnests depth other = false

abbrev pub with_operation : Draft → Program → Operation → Draft
with_operation d p o = record d { open_program = Some (record p { operations = p.operations ++ o ∷ [] }) }

unfoldable pub accept_operation : Draft → OperationLine → Result Draft Why
accept_operation d o =
    given d.open_program why.Order λ p.
    bad_if (misnests (depth_behind 0 p.operations) o) why.Nest
    (on_ok (operation_in (table_of d) d.programs o) λ operation.
    bad_if (nat_le 4096 (length p.operations)) why.Many
    (Ok (with_operation d p operation)))

-- EACH OTHER KIND OF LINE

unfoldable pub accept_table : Draft → Numeral → Result Draft Why
accept_table d n =
    bad_if (is_some d.table) why.Order
    (given (in_range 1 64 n) why.Number λ size. Ok (record d { table = Some size }))

unfoldable pub accept_carriers : Draft → Numeral → Result Draft Why
accept_carriers d n =
    bad_if (is_none d.table || is_some d.carriers || not (free_of_show d)) why.Order
    (given (in_range 1 8 n) why.Number λ count. Ok (record d { carriers = Some count }))

unfoldable pub accept_show : Draft → Result Draft Why
accept_show d = bad_if (is_none d.table || not (free_of_show d)) why.Order (Ok (record d { show_steps = true }))

unfoldable pub accept_aged : Draft → Numeral → Numeral → Result Draft Why
accept_aged d t v =
    bad_if (is_none d.table || not (free_of_programs d) || is_aged d.aged t) why.Order
    (bad_if t.led why.Number
    (given (in_range 1 1048575 v) why.Number λ version.
    given (below (table_of d) t) why.Table λ number. Ok (record d { aged = slice_set d.aged number version })))

abbrev pub with_program : Draft → Word → Draft
with_program d name = record d { open_program = Some (record { name = name; operations = [] }) }

unfoldable pub accept_program : Draft → Word → Result Draft Why
accept_program d name =
    bad_if (is_none d.table || is_some d.open_program || not (free_of_threads d) || is_some (program_at name d.programs)) why.Order
    (bad_if (nat_le 255 (length d.programs)) why.Many
    (Ok (with_program d name)))

abbrev pub closed : Draft → Program → Draft
closed d p = record d { programs = d.programs ++ p ∷ []; open_program = None }

-- no repeat is open
abbrev pub is_closed : Option ℕ → Bool
is_closed None = false
is_closed (Some depth) = depth == 0

unfoldable pub accept_end : Draft → Result Draft Why
accept_end d =
    given d.open_program why.Order λ p.
    bad_if (not (is_closed (depth_behind 0 p.operations))) why.Nest
    (Ok (closed d p))

abbrev pub with_thread : Draft → ℕ → ℕ → Draft
with_thread d priority program = record d { threads = d.threads ++ record { priority = priority; program = program } ∷ [] }

-- It is past the table, or its number has an `aged` line.
abbrev pub has_no_number : Draft → Bool
has_no_number d = nat_le (table_of d) (length d.threads) || not (slice_index d.aged (length d.threads) == 0)

unfoldable pub accept_thread : Draft → Numeral → Word → Result Draft Why
accept_thread d prio name =
    bad_if (is_none d.table || is_some d.open_program || not (free_of_events d)) why.Order
    (given (in_range 0 63 prio) why.Number λ priority.
    given (program_at name d.programs) why.Unknown λ program.
    bad_if (has_no_number d) why.Table
    (Ok (with_thread d priority program)))

abbrev pub with_event : Draft → ℕ → AtWhat → Draft
with_event d step what = record d { at_lines = d.at_lines ++ record { step = step; what = what } ∷ [] }

-- An `at` line of this step may not stand here.
abbrev pub is_late : Draft → Numeral → Bool
is_late d step = is_some d.open_program || is_nil d.threads || not (is_nil d.turns) || falls d.at_lines step

abbrev pub is_full : Draft → Bool
is_full d = nat_le 10000 (length d.at_lines)

unfoldable pub accept_start : Draft → Numeral → Numeral → Result Draft Why
accept_start d k t =
    bad_if (is_late d k || is_started d.at_lines t) why.Order
    (given (in_range 0 4294967295 k) why.Number λ step.
    bad_if t.led why.Number
    (given (below (length d.threads) t) why.Table λ number.
    bad_if (is_full d) why.Many
    (Ok (with_event d step (what.Start number)))))

unfoldable pub accept_slice : Draft → Numeral → Numeral → Result Draft Why
accept_slice d k c =
    bad_if (is_late d k) why.Order
    (given (in_range 0 4294967295 k) why.Number λ step.
    bad_if c.led why.Number
    (given (below (carriers_of d) c) why.Table λ carrier.
    bad_if (is_full d) why.Many
    (Ok (with_event d step (what.Slice carrier)))))

unfoldable pub accept : Draft → Line → Result Draft Why
accept d (line.Kernel version) = Err why.Order
accept d (line.Table size) = accept_table d size
accept d (line.Carriers count) = accept_carriers d count
accept d line.ShowSteps = accept_show d
accept d (line.Aged number version) = accept_aged d number version
accept d (line.Program name) = accept_program d name
accept d line.End = accept_end d
accept d (line.Thread priority program) = accept_thread d priority program
accept d (line.Start step number) = accept_start d step number
accept d (line.Slice step carrier) = accept_slice d step carrier
accept d (line.Operation o) = accept_operation d o

-- TURNS

abbrev pub count_of : Numeral → Option ℕ
count_of n = in_range 1 1000000 n

abbrev pub has_numbers : ItemWord → Bool
has_numbers (item_word.Steps carrier count) = not carrier.led && is_some (count_of count)
has_numbers (item_word.Park carrier) = not carrier.led

abbrev pub item_in : ℕ → ItemWord → Option Item
item_in carriers (item_word.Steps carrier count) = option_and_then (λ n. option_map (λ c. item.Steps c n) (below carriers carrier)) (count_of count)
item_in carriers (item_word.Park carrier) = option_map item.Park (below carriers carrier)

abbrev pub items_in : ℕ → List ItemWord → Option (List Item)
items_in carriers [] = Some []
items_in carriers (i ∷ is) = option_and_then (λ x. option_map (λ xs. x ∷ xs) (items_in carriers is)) (item_in carriers i)

abbrev pub are_many : List Item → List Item → Bool
are_many turns more = nat_lt 10000 (length turns + length more) || nat_lt 1000000 (sum_by steps_of turns + sum_by steps_of more)

unfoldable pub accept_turns : Draft → List ItemWord → Result Draft Why
accept_turns d words =
    bad_if (is_some d.open_program || is_nil d.threads || nat_lt (carriers_of d) 2) why.Order
    (bad_if (not (list_all has_numbers words)) why.Number
    (given (items_in (carriers_of d) words) why.Table λ more.
    bad_if (are_many d.turns more) why.Many
    (Ok (record d { turns = d.turns ++ more }))))

-- ALL LINES: what they say, or the first bad one. Lines are counted from 1, those without words too.

-- A line with no word says nothing.
unfoldable pub accept_words : Draft → List Word → Result Draft Why
accept_words d [] = Ok d
accept_words d (w ∷ ws) =
    if bytes_eq w (codes "turns") then given (items_of ws) why.Word (accept_turns d)
    else given (line_of w ws) why.Word (accept d)

unfoldable pub accept_text : Draft → List ℕ → Result Draft Why
accept_text d text = if is_plain text then accept_words d (words_of text) else Err why.Word

pub record BadLine : Type 0 where
  pub line : ℕ
  pub why : Why

abbrev pub then_lines : Result Draft Why → ℕ → (Draft → Result Draft BadLine) → Result Draft BadLine
then_lines (Err reason) n more = Err (record { line = n; why = reason })
then_lines (Ok d) n more = more d

abbrev pub read_lines : Draft → ℕ → List (List ℕ) → Result Draft BadLine
read_lines d n [] = Ok d
read_lines d n (text ∷ texts) = then_lines (accept_text d text) n (λ e. read_lines e (n + 1) texts)

-- THE FIRST LINE WITH WORDS is `kernel 1` or `kernel 2`. Any other has the reason Version, also where a byte of it is bad.

abbrev pub version_in : Line → Option ℕ
version_in (line.Kernel n) = in_range 1 2 n
version_in other = None

abbrev pub version_of : List Word → Option ℕ
version_of [] = None
version_of (w ∷ ws) = option_and_then version_in (line_of w ws)

unfoldable pub first_version : List ℕ → Option ℕ
first_version text = if is_plain text then version_of (words_of text) else None

abbrev pub from_version : Option ℕ → ℕ → (Draft → Result Draft BadLine) → Result Draft BadLine
from_version None n more = Err (record { line = n; why = why.Version })
from_version (Some version) n more = more (opened version)

abbrev pub read_from : ℕ → List (List ℕ) → Result Draft BadLine
read_from n [] = Err (record { line = n; why = why.Version })
read_from n (text ∷ texts) =
    if has_words text then from_version (first_version text) n (λ d. read_lines d (n + 1) texts)
    else (if is_plain text then read_from (n + 1) texts else Err (record { line = n; why = why.Word }))

-- THE END: what is missing there is bad at the line behind the last.

unfoldable pub finished : Draft → Result Script Why
finished d =
    bad_if (is_some d.open_program) why.Nest
    (bad_if (is_none d.table || is_nil d.threads) why.Order
    (Ok (script_of d)))

abbrev pub end_at : Result Script Why → ℕ → Result Script BadLine
end_at (Err reason) n = Err (record { line = n; why = reason })
end_at (Ok s) n = Ok s

abbrev pub at_end : Result Draft BadLine → ℕ → Result Script BadLine
at_end (Err bad) n = Err bad
at_end (Ok d) n = end_at (finished d) n

-- What the bytes say, or the first bad line.
unfoldable pub read_of : List ℕ → Result Script BadLine
read_of bytes = at_end (read_from 1 (lines_of bytes)) (length (lines_of bytes) + 1)
