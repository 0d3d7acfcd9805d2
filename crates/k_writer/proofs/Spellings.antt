-- Each line of a script is spelled in words that may stand in a text.
use Rattle.std.proofs.Common.{◌≡◌, ℕ, ◌+◌, ◌<◌, ◌≤◌, Bool, true, false, not, eqb, leb, ◌&&◌, ◌||◌, List, [], ◌∷◌, ◌++◌, length, map, refl, sym, ap, ◌∙◌, subst, arith, inl, inr, decimal, Some, None, append_assoc}
use Rattle.std.specs.Prelude.{codes}
use Rattle.std.specs.Str.{all_ascii_digits}
use Rattle.std.specs.Char.{is_ascii_digit}
use Rattle.std.specs.List.{list_all, flat_map, AllByRecursion}
use Rattle.std.proofs.lemmas.Bool.{and_parts, or_cases, leb-true, le-leb, eqb-true, ne_eqb}
use Rattle.std.proofs.lemmas.List.{length-append, get_or_at}
use Rattle.std.proofs.lemmas.Fmt.{decimal_nonempty}
use Rattle.k_script.specs.declared.operation.Who.{Who}
use Rattle.k_script.specs.declared.operation.Who.TheVariants as who
use Rattle.k_script.specs.declared.operation.Value.{Value}
use Rattle.k_script.specs.declared.operation.Value.TheVariants as value
use Rattle.k_script.specs.declared.operation.Operation.{Operation}
use Rattle.k_script.specs.declared.operation.Operation.TheVariants as operation
use Rattle.k_script.specs.declared.lines.ThreadLine.{ThreadLine}
use Rattle.k_script.specs.declared.lines.AtWhat.{AtWhat}
use Rattle.k_script.specs.declared.lines.AtWhat.TheVariants as what
use Rattle.k_script.specs.declared.lines.AtLine.{AtLine}
use Rattle.k_script.specs.declared.lines.Item.{Item}
use Rattle.k_script.specs.declared.lines.Item.TheVariants as item
use Rattle.k_script.specs.Script.{Program, program_in, nothing}
use Rattle.k_script.specs.Limits.{is_name_byte, is_name, IsWho, IsValue, IsOperation, IsProgram, IsThread, IsEvent, IsAtLine, IsItem}
use Rattle.k_lines.specs.Words.{is_empty}
use Rattle.k_lines.specs.Numbers.{exactly}
use Rattle.k_lines.specs.Lines.{Word, spelled, spelled_who, spelled_value, spelled_timeout, spelled_item}
use Rattle.k_lines.specs.declared.line.Line.{Line}
use Rattle.k_lines.specs.declared.line.Line.TheVariants as line
use Rattle.k_lines.proofs.Digits.{number_digits}
use Rattle.k_reader.specs.Grammar.{Age, IsAge, aged_line, who_line, value_line, operation_line, operation_lines, program_lines, thread_line, event_line, at_line, item_line, turns_line}
use Rattle.k_writer.proofs.Clean.{is_clean_byte, is_clean, IsGoodLine, weaker, all_both}

-- BYTES

clean_between : (b : ℕ) → 33 ≤ b → b ≤ 126 → (b ≡ 59 → ⊥) → is_clean_byte b ≡ true
clean_between b l m n = rw (le-leb 33 b l) (rw (le-leb b 126 m) (rw (ne_eqb b 59 n) refl))

clean_range : (b low high : ℕ) → 33 ≤ low → high ≤ 126 → (b ≡ 59 → low ≤ b → b ≤ high → ⊥) → (leb low b && leb b high) ≡ true → is_clean_byte b ≡ true
clean_range b low high l m n h =
    let both = and_parts (leb low b) (leb b high) h in
    let above = leb-true low b both.0 in
    let below = leb-true b high both.1 in
    clean_between b (omega (arith, l, above)) (omega (arith, m, below)) (λ e. n e above below)

digit_clean : (b : ℕ) → is_ascii_digit b ≡ true → is_clean_byte b ≡ true
digit_clean b h = clean_range b 48 57 (omega arith) (omega arith) (λ e l m. omega (arith, e, m)) h

name_clean : (b : ℕ) → is_name_byte b ≡ true → is_clean_byte b ≡ true
name_clean b h = elim (or_cases ((leb 97 b && leb b 122) || (leb 48 b && leb b 57)) (eqb b 95) h) [
  | inl t ↦ elim (or_cases (leb 97 b && leb b 122) (leb 48 b && leb b 57) t) [
    | inl u ↦ clean_range b 97 122 (omega arith) (omega arith) (λ e l m. omega (arith, e, l)) u
    | inr u ↦ clean_range b 48 57 (omega arith) (omega arith) (λ e l m. omega (arith, e, m)) u
  ]
  | inr t ↦ let same = eqb-true b 95 t in clean_between b (omega (arith, same)) (omega (arith, same)) (λ e. omega (arith, e, same))
]

-- WORDS

all_digits : (w : List ℕ) → all_ascii_digits w ≡ list_all is_ascii_digit w
all_digits [] = refl
all_digits (c ∷ cs) = ap (λ (b : Bool). is_ascii_digit c && b) (all_digits cs)

filled : (w : List ℕ) → 0 < length w → not (is_empty w) ≡ true
filled [] h = absurd (omega (arith, h))
filled (b ∷ bs) h = refl

decimal_bytes : (n : ℕ) → n ≤ 4294967295 → list_all is_clean_byte (decimal n) ≡ true
decimal_bytes n h = weaker is_ascii_digit is_clean_byte digit_clean (decimal n) (sym (all_digits (decimal n)) ∙ number_digits (exactly n) (record { plain = refl; small = h }))

decimal_filled : (n : ℕ) → n ≤ 4294967295 → 0 < length (decimal n)
decimal_filled n h = decimal_nonempty n (omega (arith, h))

number_word : (n : ℕ) → n ≤ 4294967295 → is_clean (decimal n) ≡ true
number_word n h = rw (filled (decimal n) (decimal_filled n h)) (decimal_bytes n h)

name_word : (w : Word) → is_name w ≡ true → is_clean w ≡ true
name_word w h =
    let both = and_parts (leb 1 (length w) && leb (length w) 16) (list_all is_name_byte w) h in
    let some = leb-true 1 (length w) (and_parts (leb 1 (length w)) (leb (length w) 16) both.0).0 in
    rw (filled w (omega (arith, some))) (weaker is_name_byte is_clean_byte name_clean w both.1)

who_word : (table : ℕ) (t : Who) → table ≤ 64 → IsWho table t → is_clean (spelled_who (who_line t)) ≡ true
who_word table (who.Number n) small h = decimal_bytes n (omega (arith, small, h))
who_word table who.Last small h = refl
who_word table who.Made small h = refl

value_word : (v : Value) → IsValue v → is_clean (spelled_value (value_line v)) ≡ true
value_word (value.Number n) h = number_word n h
value_word value.Got0 h = refl
value_word value.Got1 h = refl

timeout_words : (zero : Bool) → list_all is_clean (spelled_timeout zero) ≡ true
timeout_words true = refl
timeout_words false = refl

marked_filled : (w x : List ℕ) → 0 < length w → not (is_empty (w ++ x)) ≡ true
marked_filled [] x h = absurd (omega (arith, h))
marked_filled (b ∷ bs) x h = refl

item_word : (carriers : ℕ) (i : Item) → carriers ≤ 8 → IsItem carriers i → is_clean (spelled_item (item_line i)) ≡ true
item_word carriers (item.Steps carrier count) small h =
    let low : carrier ≤ 4294967295 = omega (arith, small, h.0) in
    rw (marked_filled (decimal carrier) (42 ∷ decimal count) (decimal_filled carrier low)) (all_both is_clean_byte (decimal carrier) (42 ∷ decimal count) (decimal_bytes carrier low) (decimal_bytes count (omega (arith, h.2))))
item_word carriers (item.Park carrier) small h =
    let low : carrier ≤ 4294967295 = omega (arith, small, h) in
    rw (marked_filled (decimal carrier) (33 ∷ []) (decimal_filled carrier low)) (all_both is_clean_byte (decimal carrier) (33 ∷ []) (decimal_bytes carrier low) refl)

-- LINES

-- a line whose spelling may stand in a text
abbrev pub IsGood : Line → Type 0
IsGood l = IsGoodLine (spelled l)

two_words : (k w : Word) → is_clean k ≡ true → is_clean w ≡ true → IsGoodLine (k ∷ w ∷ [])
two_words k w a b = (omega arith, rw (a, b) refl)

pub numbered : (k : Word) (n : ℕ) → is_clean k ≡ true → n ≤ 4294967295 → IsGoodLine (k ∷ decimal n ∷ [])
numbered k n h l = two_words k (decimal n) h (number_word n l)

with_message : (k : Word) (low high : Value) (zero : Bool) → is_clean k ≡ true → IsValue low → IsValue high → IsGoodLine (k ∷ spelled_value (value_line low) ∷ spelled_value (value_line high) ∷ spelled_timeout zero)
with_message k low high zero h l m = (omega arith, rw (h, value_word low l, value_word high m) (timeout_words zero))

with_target : (k : Word) (table : ℕ) (to : Who) (low high : Value) (zero : Bool) → is_clean k ≡ true → table ≤ 64 → IsWho table to → IsValue low → IsValue high →
    IsGoodLine (k ∷ spelled_who (who_line to) ∷ spelled_value (value_line low) ∷ spelled_value (value_line high) ∷ spelled_timeout zero)
with_target k table to low high zero h small t l m = (omega arith, rw (h, who_word table to small t, value_word low l, value_word high m) (timeout_words zero))

operation_good : (table before : ℕ) (ps : List Program) (r : Operation) → table ≤ 64 → ((k : ℕ) → k < before → is_name (program_in ps k).name ≡ true) → IsOperation table before r → IsGood (line.Operation (operation_line ps r))
operation_good table before ps (operation.Send to low high zero) small n h = with_target (codes "send") table to low high zero refl small h.0 h.1 h.2
operation_good table before ps (operation.Receive (Some from) zero) small n h = (omega arith, rw (who_word table from small h) (timeout_words zero))
operation_good table before ps (operation.Receive None zero) small n h = (omega arith, timeout_words zero)
operation_good table before ps (operation.Call to low high zero) small n h = with_target (codes "call") table to low high zero refl small h.0 h.1 h.2
operation_good table before ps (operation.Reply low high zero) small n h = with_message (codes "reply") low high zero refl h.0 h.1
operation_good table before ps (operation.Create program priority) small n h = (omega arith, rw (name_word (program_in ps program).name (n program h.0), number_word priority (omega (arith, h.1))) refl)
operation_good table before ps (operation.Destroy victim) small n h = two_words (codes "destroy") (spelled_who (who_line victim)) refl (who_word table victim small h)
operation_good table before ps (operation.Work count) small n h = numbered (codes "work") count refl h.1
operation_good table before ps (operation.Repeat count) small n h = numbered (codes "repeat") count refl (omega (arith, h.1))
operation_good table before ps operation.Again small n h = (omega arith, refl)

-- KINDS OF LINES

pub all_append : {X : Type 0} (P : X → Type 0) (xs ys : List X) → AllByRecursion P xs → AllByRecursion P ys → AllByRecursion P (xs ++ ys)
all_append P [] ys h i = i
all_append P (x ∷ xs) ys h i = (h.0, all_append P xs ys h.1 i)

pub ages_good : (table : ℕ) (ages : List Age) → table ≤ 64 → AllByRecursion (IsAge table) ages → AllByRecursion IsGood (map aged_line ages)
ages_good table [] small h = tt
ages_good table (a ∷ ages) small h =
    let inside = h.0.number in
    let high = h.0.version.1 in
    ((omega arith, rw (number_word a.number (omega (arith, inside, small)), number_word a.version (omega (arith, high))) refl), ages_good table ages small h.1)

operations_good : (table before : ℕ) (ps : List Program) (rs : List Operation) → table ≤ 64 → ((k : ℕ) → k < before → is_name (program_in ps k).name ≡ true) → AllByRecursion (IsOperation table before) rs → AllByRecursion IsGood (operation_lines ps rs)
operations_good table before ps [] small n h = tt
operations_good table before ps (r ∷ rs) small n h = (operation_good table before ps r small n h.0, operations_good table before ps rs small n h.1)

program_good : (table before : ℕ) (ps : List Program) (p : Program) → table ≤ 64 → ((k : ℕ) → k < before → is_name (program_in ps k).name ≡ true) → IsProgram table before p → AllByRecursion IsGood (program_lines ps p)
program_good table before ps p small n h = (two_words (codes "program") p.name refl (name_word p.name h.name), all_append IsGood (operation_lines ps p.operations) (line.End ∷ []) (operations_good table before ps p.operations small n h.operations) ((omega arith, refl), tt))

-- The programs before the rest may be named in it.
pub programs_good : (table : ℕ) (done rest : List Program) → table ≤ 64 → ((k : ℕ) → k < length (done ++ rest) → IsProgram table k (program_in (done ++ rest) k)) → AllByRecursion IsGood (flat_map (program_lines (done ++ rest)) rest)
programs_good table done [] small h = tt
programs_good table done (p ∷ rest) small h =
    let long : length (done ++ p ∷ rest) ≡ length done + length (p ∷ rest) = length-append done (p ∷ rest) in
    let same : (done ++ p ∷ []) ++ rest ≡ done ++ p ∷ rest = append_assoc done (p ∷ []) rest in
    let here : program_in (done ++ p ∷ rest) (length done) ≡ p = get_or_at done p rest nothing (length done) refl in
    let fits = subst (IsProgram table (length done)) here (h (length done) (omega (arith, long))) in
    let more = programs_good table (done ++ p ∷ []) rest small (subst (λ (ps : List Program). (k : ℕ) → k < length ps → IsProgram table k (program_in ps k)) (sym same) h) in
    all_append IsGood (program_lines (done ++ p ∷ rest) p) (flat_map (program_lines (done ++ p ∷ rest)) rest)
    (program_good table (length done) (done ++ p ∷ rest) p small (λ k l. (h k (omega (arith, l, long))).name) fits)
    (subst (λ (ps : List Program). AllByRecursion IsGood (flat_map (program_lines ps) rest)) same more)

pub threads_good : (ps : List Program) (ts : List ThreadLine) → ((k : ℕ) → k < length ps → is_name (program_in ps k).name ≡ true) → AllByRecursion (IsThread (length ps)) ts → AllByRecursion IsGood (map (thread_line ps) ts)
threads_good ps [] n h = tt
threads_good ps (t ∷ ts) n h =
    let low = h.0.priority in
    ((omega arith, rw (number_word t.priority (omega (arith, low)), name_word (program_in ps t.program).name (n t.program h.0.program)) refl), threads_good ps ts n h.1)

event_good : (carriers threads step : ℕ) (w : AtWhat) → carriers ≤ 8 → threads ≤ 64 → step ≤ 4294967295 → IsEvent carriers threads w → IsGood (event_line step w)
event_good carriers threads step (what.Start n) a b low h = (omega arith, rw (number_word step low, number_word n (omega (arith, b, h))) refl)
event_good carriers threads step (what.Slice n) a b low h = (omega arith, rw (number_word step low, number_word n (omega (arith, a, h))) refl)

pub events_good : (carriers threads : ℕ) (xs : List AtLine) → carriers ≤ 8 → threads ≤ 64 → AllByRecursion (IsAtLine carriers threads) xs → AllByRecursion IsGood (map at_line xs)
events_good carriers threads [] a b h = tt
events_good carriers threads (x ∷ xs) a b h = (event_good carriers threads x.step x.what a b h.0.step h.0.event, events_good carriers threads xs a b h.1)

items_good : (carriers : ℕ) (is : List Item) → carriers ≤ 8 → AllByRecursion (IsItem carriers) is → list_all is_clean (map (λ i. spelled_item (item_line i)) is) ≡ true
items_good carriers [] small h = refl
items_good carriers (i ∷ is) small h = rw (item_word carriers i small h.0) (items_good carriers is small h.1)

pub turns_good : (carriers : ℕ) (is : List Item) → carriers ≤ 8 → AllByRecursion (IsItem carriers) is → IsGoodLine (turns_line is)
turns_good carriers is small h = (omega arith, items_good carriers is small h)
