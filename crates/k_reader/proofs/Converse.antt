-- A text of a script is read as that script.
use Rattle.std.proofs.Common.{◌≡◌, ℕ, ◌+◌, ◌<◌, ◌≤◌, Bool, true, false, List, [], ◌∷◌, ◌++◌, map, take, length, replicate, refl, sym, ap, ◌∙◌, subst, arith, Option, Some, None, Result, Ok, Err, inl, inr, append_assoc, unwrap_or}
use Rattle.std.specs.Prelude.{codes, slice_index}
use Rattle.std.specs.List.{list_all, flat_map, AllByRecursion, sum_by}
use Rattle.std.specs.Str.{bytes_eq}
use Rattle.std.proofs.lemmas.Bool.{and_parts, cases_Bool}
use Rattle.std.proofs.lemmas.List.{length-append, get_or-take, get_or-replicate, get_or_at}
use Rattle.k_lists.proofs.All.{all_append, all_parts}
use Rattle.k_script.specs.declared.lines.ThreadLine.{ThreadLine}
use Rattle.k_script.specs.declared.lines.AtWhat.{AtWhat}
use Rattle.k_script.specs.declared.lines.AtWhat.TheVariants as what
use Rattle.k_script.specs.declared.lines.AtLine.{AtLine}
use Rattle.k_script.specs.declared.lines.Item.{Item}
use Rattle.k_script.specs.declared.operation.Operation.{Operation}
use Rattle.k_script.specs.declared.operation.Operation.TheVariants as operation
use Rattle.k_script.specs.Script.{Program, Script, program_in, nothing}
use Rattle.k_script.specs.Limits.{is_name, IsOperation, IsProgram, IsThread, IsAtLine, IsEvent, IsItem, steps_of, IsScript}
use Rattle.k_lines.specs.declared.line.ItemWord.{ItemWord}
use Rattle.k_lines.specs.declared.line.Line.{Line}
use Rattle.k_lines.specs.declared.line.Line.TheVariants as line
use Rattle.k_lines.specs.Words.{words_of, lines_of, is_plain, has_words}
use Rattle.k_lines.specs.Numbers.{exactly}
use Rattle.k_lines.specs.Lines.{Word, spelled, IsProper, IsNamed, IsNamedOperation, items_of}
use Rattle.k_lines.proofs.Spelled.{line-spelled, line_from}
use Rattle.k_lines.proofs.Items.{items-spelled}
use Rattle.k_reader.specs.declared.fault.Why.{Why}
use Rattle.k_reader.specs.declared.fault.Why.TheVariants as why
use Rattle.k_reader.specs.Draft.{Draft, opened, is_nil}
use Rattle.k_reader.specs.Reading.{on_ok, given, accept, accept_turns, accept_words, accept_text, BadLine, then_lines, read_lines, from_version, read_from, finished, end_at, at_end, read_of}
use Rattle.k_reader.specs.Grammar.{Age, IsAge, Layout, IsLayout, carriers_lines, show_lines, aged_by, numbers_of, aged_line, operation_line, operation_lines, program_lines, thread_line, event_line, at_line, item_line, turns_line, with_words, content, IsText}
use Rattle.k_reader.proofs.Proper.{number_proper, operation-proper, items-proper}
use Rattle.k_reader.proofs.Aging.{zeros_zero}
use Rattle.k_reader.proofs.Openings.{no-words, some-words, first-spelled}
use Rattle.k_reader.proofs.Meaning.{spelled_items, aged_take, zeros_take}
use Rattle.k_reader.proofs.Taken.{taken, taken-both, taken-one, draft, accept-table, accept-carriers, accept-show, taken-aged, taken-programs}
use Rattle.k_reader.proofs.Scheduled.{taken-threads, taken-events, taken_turns, taken-turns}

-- WORDS, taken in line by line

abbrev taken_words : Draft → List (List Word) → Result Draft Why
taken_words d [] = Ok d
taken_words d (ws ∷ more) = on_ok (accept_words d ws) (λ e. taken_words e more)

words-both : (d e f : Draft) (ls ms : List (List Word)) → taken_words d ls ≡ Ok e → taken_words e ms ≡ Ok f → taken_words d (ls ++ ms) ≡ Ok f
words-both d e f [] ms h i = let same : d ≡ e = cc in ap (λ (x : Draft). taken_words x ms) same ∙ i
words-both d e f (ws ∷ ls) ms h i = go (accept_words d ws) refl h (λ g q. words-both g e f ls ms q i)
  where
    go : (r : Result Draft Why) → accept_words d ws ≡ r → on_ok r (λ g. taken_words g ls) ≡ Ok e → ((g : Draft) → taken_words g ls ≡ Ok e → taken_words g (ls ++ ms) ≡ Ok f) → on_ok (accept_words d ws) (λ g. taken_words g (ls ++ ms)) ≡ Ok f
    go (Err reason) a b more = absurd cc
    go (Ok g) a b more = ap (λ (x : Result Draft Why). on_ok x (λ g. taken_words g (ls ++ ms))) a ∙ more g b

-- a first word that isn't `turns`
abbrev not_turns : List Word → Type 0
not_turns [] = ⊥
not_turns (w ∷ ws) = bytes_eq w (codes "turns") ≡ false

accept-from : (d : Draft) (ws : List Word) (l : Line) → not_turns ws → line_from ws ≡ Some l → accept_words d ws ≡ accept d l
unfolding accept_words
accept-from d [] l n h = absurd n
accept-from d (w ∷ ws) l n h = rw n (rw h refl)

operation_not_turns : (ps : List Program) (r : Operation) → not_turns (spelled (line.Operation (operation_line ps r)))
operation_not_turns ps (operation.Send to low high zero) = refl
operation_not_turns ps (operation.Receive (Some from) zero) = refl
operation_not_turns ps (operation.Receive None zero) = refl
operation_not_turns ps (operation.Call to low high zero) = refl
operation_not_turns ps (operation.Reply low high zero) = refl
operation_not_turns ps (operation.Create program priority) = refl
operation_not_turns ps (operation.Destroy victim) = refl
operation_not_turns ps (operation.Work count) = refl
operation_not_turns ps (operation.Repeat count) = refl
operation_not_turns ps operation.Again = refl

-- a line whose spelling is read as it
pub record IsGood (l : Line) : Type 0 where
  pub named : IsNamed l
  pub proper : IsProper l
  pub other : not_turns (spelled l)

words-taken : (d e : Draft) (ls : List Line) → AllByRecursion IsGood ls → taken d ls ≡ Ok e → taken_words d (map spelled ls) ≡ Ok e
words-taken d e [] h t = t
words-taken d e (l ∷ ls) h t =
    let same = accept-from d (spelled l) l h.0.other (line-spelled l h.0.named h.0.proper) in
    go (accept d l) refl t same (λ f q. words-taken f e ls h.1 q)
  where
    go : (r : Result Draft Why) → accept d l ≡ r → on_ok r (λ f. taken f ls) ≡ Ok e → accept_words d (spelled l) ≡ accept d l → ((f : Draft) → taken f ls ≡ Ok e → taken_words f (map spelled ls) ≡ Ok e) → on_ok (accept_words d (spelled l)) (λ f. taken_words f (map spelled ls)) ≡ Ok e
    go (Err reason) a b c more = absurd cc
    go (Ok f) a b c more = ap (λ (x : Result Draft Why). on_ok x (λ f. taken_words f (map spelled ls))) (c ∙ a) ∙ more f b

-- the turns lines
turns-spelled : (carriers : ℕ) (is : List Item) → carriers ≤ 8 → 1 ≤ length is → AllByRecursion (IsItem carriers) is → (d : Draft) → accept_words d (turns_line is) ≡ accept_turns d (map item_line is)
unfolding accept_words
turns-spelled carriers is small some h d = ap (λ (o : Option (List ItemWord)). given o why.Word (accept_turns d)) (ap items_of (sym (spelled_items (map item_line is) is refl)) ∙ items-spelled (map item_line is) (long is some) (items-proper carriers is small h))
  where
    long : (is : List Item) → 1 ≤ length is → 1 ≤ length (map item_line is)
    long [] l = absurd (omega (arith, l))
    long (i ∷ is) l = omega arith

turns-taken : (carriers : ℕ) (d e : Draft) (splits : List (List Item)) → carriers ≤ 8 → AllByRecursion (λ (is : List Item). 1 ≤ length is) splits → AllByRecursion (IsItem carriers) (flat_map (λ is. is) splits) → taken_turns d splits ≡ Ok e → taken_words d (map turns_line splits) ≡ Ok e
turns-taken carriers d e [] small some h t = t
turns-taken carriers d e (is ∷ splits) small some h t =
    let both = all_parts (IsItem carriers) is (flat_map (λ is. is) splits) h in
    let same = turns-spelled carriers is small some.0 both.0 d in
    go (accept_turns d (map item_line is)) refl t same (λ f q. turns-taken carriers f e splits small some.1 both.1 q)
  where
    go : (r : Result Draft Why) → accept_turns d (map item_line is) ≡ r → on_ok r (λ f. taken_turns f splits) ≡ Ok e → accept_words d (turns_line is) ≡ accept_turns d (map item_line is) → ((f : Draft) → taken_turns f splits ≡ Ok e → taken_words f (map turns_line splits) ≡ Ok e) → on_ok (accept_words d (turns_line is)) (λ f. taken_words f (map turns_line splits)) ≡ Ok e
    go (Err reason) a b c more = absurd cc
    go (Ok f) a b c more = ap (λ (x : Result Draft Why). on_ok x (λ f. taken_words f (map turns_line splits))) (c ∙ a) ∙ more f b

-- THE LINES OF A SCRIPT ARE GOOD

ages-good : (table : ℕ) (ages : List Age) → table ≤ 64 → AllByRecursion (IsAge table) ages → AllByRecursion IsGood (map aged_line ages)
ages-good table [] small h = tt
ages-good table (a ∷ ages) small h = let inside = h.0.number in let high = h.0.version.1 in (record { named = tt; proper = (number_proper a.number (omega (arith, inside, small)), number_proper a.version (omega (arith, high))); other = refl }, ages-good table ages small h.1)

operation-named : (table before : ℕ) (ps : List Program) (r : Operation) → ((k : ℕ) → k < before → is_name (program_in ps k).name ≡ true) → IsOperation table before r → IsNamedOperation (operation_line ps r)
operation-named table before ps (operation.Send to low high zero) n h = tt
operation-named table before ps (operation.Receive (Some from) zero) n h = tt
operation-named table before ps (operation.Receive None zero) n h = tt
operation-named table before ps (operation.Call to low high zero) n h = tt
operation-named table before ps (operation.Reply low high zero) n h = tt
operation-named table before ps (operation.Create program priority) n h = n program h.0
operation-named table before ps (operation.Destroy victim) n h = tt
operation-named table before ps (operation.Work count) n h = tt
operation-named table before ps (operation.Repeat count) n h = tt
operation-named table before ps operation.Again n h = tt

operations-good : (table before : ℕ) (ps : List Program) (rs : List Operation) → table ≤ 64 → ((k : ℕ) → k < before → is_name (program_in ps k).name ≡ true) → AllByRecursion (IsOperation table before) rs → AllByRecursion IsGood (operation_lines ps rs)
operations-good table before ps [] small n h = tt
operations-good table before ps (r ∷ rs) small n h = (record { named = operation-named table before ps r n h.0; proper = operation-proper table before ps r small h.0; other = operation_not_turns ps r }, operations-good table before ps rs small n h.1)

program-good : (table before : ℕ) (ps : List Program) (p : Program) → table ≤ 64 → ((k : ℕ) → k < before → is_name (program_in ps k).name ≡ true) → IsProgram table before p → AllByRecursion IsGood (program_lines ps p)
program-good table before ps p small n h = (record { named = h.name; proper = tt; other = refl }, all_append IsGood (operation_lines ps p.operations) (line.End ∷ []) (operations-good table before ps p.operations small n h.operations) (record { named = tt; proper = tt; other = refl }, tt))

programs-good : (table : ℕ) (done rest : List Program) → table ≤ 64 → ((k : ℕ) → k < length (done ++ rest) → IsProgram table k (program_in (done ++ rest) k)) → AllByRecursion IsGood (flat_map (program_lines (done ++ rest)) rest)
programs-good table done [] small h = tt
programs-good table done (p ∷ rest) small h =
    let long : length (done ++ p ∷ rest) ≡ length done + length (p ∷ rest) = length-append done (p ∷ rest) in
    let same : (done ++ p ∷ []) ++ rest ≡ done ++ p ∷ rest = append_assoc done (p ∷ []) rest in
    let here : program_in (done ++ p ∷ rest) (length done) ≡ p = get_or_at done p rest nothing (length done) refl in
    let fits = subst (IsProgram table (length done)) here (h (length done) (omega (arith, long))) in
    let more = programs-good table (done ++ p ∷ []) rest small (subst (λ (ps : List Program). (k : ℕ) → k < length ps → IsProgram table k (program_in ps k)) (sym same) h) in
    all_append IsGood (program_lines (done ++ p ∷ rest) p) (flat_map (program_lines (done ++ p ∷ rest)) rest)
    (program-good table (length done) (done ++ p ∷ rest) p small (λ k l. (h k (omega (arith, l, long))).name) fits)
    (subst (λ (ps : List Program). AllByRecursion IsGood (flat_map (program_lines ps) rest)) same more)

threads-good : (ps : List Program) (ts : List ThreadLine) → ((k : ℕ) → k < length ps → is_name (program_in ps k).name ≡ true) → AllByRecursion (IsThread (length ps)) ts → AllByRecursion IsGood (map (thread_line ps) ts)
threads-good ps [] n h = tt
threads-good ps (t ∷ ts) n h = let low = h.0.priority in (record { named = n t.program h.0.program; proper = number_proper t.priority (omega (arith, low)); other = refl }, threads-good ps ts n h.1)

event-good : (carriers threads step : ℕ) (w : AtWhat) → carriers ≤ 8 → threads ≤ 64 → step ≤ 4294967295 → IsEvent carriers threads w → IsGood (event_line step w)
event-good carriers threads step (what.Start n) a b low h = record { named = tt; proper = (number_proper step low, number_proper n (omega (arith, b, h))); other = refl }
event-good carriers threads step (what.Slice n) a b low h = record { named = tt; proper = (number_proper step low, number_proper n (omega (arith, a, h))); other = refl }

events-good : (carriers threads : ℕ) (xs : List AtLine) → carriers ≤ 8 → threads ≤ 64 → AllByRecursion (IsAtLine carriers threads) xs → AllByRecursion IsGood (map at_line xs)
events-good carriers threads [] a b h = tt
events-good carriers threads (x ∷ xs) a b h = (event-good carriers threads x.step x.what a b h.0.step h.0.event, events-good carriers threads xs a b h.1)

-- ALL LINES BEHIND THE FIRST

abbrev tail_lines : Script → Layout → List Line
tail_lines s l =
    line.Table (exactly s.table) ∷ carriers_lines l.carriers s.carriers ++ show_lines s.show_steps
    ++ map aged_line l.ages ++ flat_map (program_lines s.programs) s.programs ++ map (thread_line s.programs) s.threads ++ map at_line s.at_lines

carriers_written : Bool → ℕ → Option ℕ
carriers_written true c = Some c
carriers_written false c = None

written_count : (b : Bool) (c : ℕ) → (b ≡ false → c ≡ 1) → unwrap_or (carriers_written b c) 1 ≡ c
unfolding carriers_written
written_count true c h = refl
written_count false c h = sym (h refl)

abbrev zeros : List ℕ
zeros = replicate 64 0

-- the draft of a script, with the `aged` lines of a text
whole : Script → Layout → Draft
whole s l = draft s.version s.table (carriers_written l.carriers s.carriers) s.show_steps (aged_by l.ages zeros) s.programs None s.threads s.at_lines s.turns

carriers-taken : (v t c : ℕ) (b : Bool) → 1 ≤ t → t ≤ 64 → 1 ≤ c → c ≤ 8 → taken (opened v) (line.Table (exactly t) ∷ carriers_lines b c) ≡ Ok (draft v t (carriers_written b c) false zeros [] None [] [] [])
unfolding carriers_written
carriers-taken v t c true low high l h =
    taken-one (opened v) (draft v t None false zeros [] None [] [] []) (draft v t (Some c) false zeros [] None [] [] []) (line.Table (exactly t)) (line.Carriers (exactly c) ∷ []) (accept-table v t low high)
    (taken-one (draft v t None false zeros [] None [] [] []) (draft v t (Some c) false zeros [] None [] [] []) (draft v t (Some c) false zeros [] None [] [] []) (line.Carriers (exactly c)) [] (accept-carriers v t c zeros (zeros_zero 64) l h) refl)
carriers-taken v t c false low high l h =
    taken-one (opened v) (draft v t None false zeros [] None [] [] []) (draft v t None false zeros [] None [] [] []) (line.Table (exactly t)) [] (accept-table v t low high) refl

show-taken : (v t : ℕ) (c : Option ℕ) (s : Bool) → taken (draft v t c false zeros [] None [] [] []) (show_lines s) ≡ Ok (draft v t c s zeros [] None [] [] [])
show-taken v t c true = taken-one (draft v t c false zeros [] None [] [] []) (draft v t c true zeros [] None [] [] []) (draft v t c true zeros [] None [] [] []) line.ShowSteps [] (accept-show v t c zeros (zeros_zero 64)) refl
show-taken v t c false = refl

zero_numbers : (t : ℕ) (ages : List Age) → t ≤ 64 → AllByRecursion (IsAge t) ages → AllByRecursion (λ n. slice_index zeros n ≡ 0) (numbers_of ages)
zero_numbers t [] small h = tt
zero_numbers t (a ∷ ages) small h = let inside = h.0.number in (get_or-replicate 64 a.number 0 0 (omega (arith, inside, small)), zero_numbers t ages small h.1)

-- the versions of a script and those of its draft
aged-same : (s : Script) (l : Layout) → s.table ≤ 64 → IsLayout s l → take s.table (aged_by l.ages zeros) ≡ s.aged
aged-same s l small i = aged_take l.ages zeros s.table ∙ ap (aged_by l.ages) (zeros_take s.table 64 small) ∙ sym i.aged

fresh-numbers : (s : Script) (l : Layout) → IsScript s → IsLayout s l → (n : ℕ) → n < length s.threads → slice_index (aged_by l.ages zeros) n ≡ 0
fresh-numbers s l h i n less =
    let few = h.lines.1 in
    sym (get_or-take s.table (aged_by l.ages zeros) n 0 (omega (arith, less, few))) ∙ ap (λ (x : List ℕ). slice_index x n) (aged-same s l h.table.1 i) ∙ h.fresh n less

some_lines : {X : Type 0} (xs : List X) → 1 ≤ length xs → is_nil xs ≡ false
some_lines [] h = absurd (omega (arith, h))
some_lines (x ∷ xs) h = refl

tail-taken : (s : Script) (l : Layout) → IsScript s → IsLayout s l → taken (opened s.version) (tail_lines s l) ≡ Ok (draft s.version s.table (carriers_written l.carriers s.carriers) s.show_steps (aged_by l.ages zeros) s.programs None s.threads s.at_lines [])
tail-taken s l h i =
    let v = s.version in
    let t = s.table in
    let c = carriers_written l.carriers s.carriers in
    let ag = aged_by l.ages zeros in
    let head = carriers-taken v t s.carriers l.carriers h.table.0 h.table.1 h.carriers.0 h.carriers.1 in
    let shown = taken-both (opened v) (draft v t c false zeros [] None [] [] []) (draft v t c s.show_steps zeros [] None [] [] []) (line.Table (exactly t) ∷ carriers_lines l.carriers s.carriers) (show_lines s.show_steps) head (show-taken v t c s.show_steps) in
    let old = taken-both (opened v) (draft v t c s.show_steps zeros [] None [] [] []) (draft v t c s.show_steps ag [] None [] [] []) (line.Table (exactly t) ∷ carriers_lines l.carriers s.carriers ++ show_lines s.show_steps) (map aged_line l.ages) shown (taken-aged v t c s.show_steps zeros l.ages i.ages i.apart (zero_numbers t l.ages h.table.1 i.ages)) in
    let programs = taken-both (opened v) (draft v t c s.show_steps ag [] None [] [] []) (draft v t c s.show_steps ag s.programs None [] [] []) (line.Table (exactly t) ∷ carriers_lines l.carriers s.carriers ++ show_lines s.show_steps ++ map aged_line l.ages) (flat_map (program_lines s.programs) s.programs) old (taken-programs v t c s.show_steps ag [] s.programs h.few h.names h.programs) in
    let threads = taken-both (opened v) (draft v t c s.show_steps ag s.programs None [] [] []) (draft v t c s.show_steps ag s.programs None s.threads [] []) (line.Table (exactly t) ∷ carriers_lines l.carriers s.carriers ++ show_lines s.show_steps ++ map aged_line l.ages ++ flat_map (program_lines s.programs) s.programs) (map (thread_line s.programs) s.threads) programs (taken-threads v t c s.show_steps ag s.programs [] s.threads h.lines.1 (fresh-numbers s l h i) h.names h.threads) in
    taken-both (opened v) (draft v t c s.show_steps ag s.programs None s.threads [] []) (draft v t c s.show_steps ag s.programs None s.threads s.at_lines []) (line.Table (exactly t) ∷ carriers_lines l.carriers s.carriers ++ show_lines s.show_steps ++ map aged_line l.ages ++ flat_map (program_lines s.programs) s.programs ++ map (thread_line s.programs) s.threads) (map at_line s.at_lines) threads
    (taken-events v t c s.show_steps ag s.programs s.threads s.carriers [] s.at_lines (some_lines s.threads h.lines.0) (written_count l.carriers s.carriers i.carriers) h.at_lines.few h.at_lines.rising h.at_lines.once h.at_lines.events)

tail-good : (s : Script) (l : Layout) → IsScript s → IsLayout s l → AllByRecursion IsGood (tail_lines s l)
tail-good s l h i =
    let small = h.table.1 in
    let few = h.lines.1 in
    let names : (k : ℕ) → k < length s.programs → is_name (program_in s.programs k).name ≡ true = λ k less. (h.programs k less).name in
    let head : AllByRecursion IsGood (line.Table (exactly s.table) ∷ carriers_lines l.carriers s.carriers) = (record { named = tt; proper = number_proper s.table (omega (arith, small)); other = refl }, carriers_good l.carriers s.carriers h.carriers.1) in
    let one = all_append IsGood (line.Table (exactly s.table) ∷ carriers_lines l.carriers s.carriers) (show_lines s.show_steps) head (show_good s.show_steps) in
    let two = all_append IsGood (line.Table (exactly s.table) ∷ carriers_lines l.carriers s.carriers ++ show_lines s.show_steps) (map aged_line l.ages) one (ages-good s.table l.ages small i.ages) in
    let three = all_append IsGood (line.Table (exactly s.table) ∷ carriers_lines l.carriers s.carriers ++ show_lines s.show_steps ++ map aged_line l.ages) (flat_map (program_lines s.programs) s.programs) two (programs-good s.table [] s.programs small h.programs) in
    let four = all_append IsGood (line.Table (exactly s.table) ∷ carriers_lines l.carriers s.carriers ++ show_lines s.show_steps ++ map aged_line l.ages ++ flat_map (program_lines s.programs) s.programs) (map (thread_line s.programs) s.threads) three (threads-good s.programs s.threads names h.threads) in
    all_append IsGood (line.Table (exactly s.table) ∷ carriers_lines l.carriers s.carriers ++ show_lines s.show_steps ++ map aged_line l.ages ++ flat_map (program_lines s.programs) s.programs ++ map (thread_line s.programs) s.threads) (map at_line s.at_lines) four (events-good s.carriers (length s.threads) s.at_lines h.carriers.1 (omega (arith, small, few)) h.at_lines.events)
  where
    carriers_good : (b : Bool) (c : ℕ) → c ≤ 8 → AllByRecursion IsGood (carriers_lines b c)
    carriers_good true c k = (record { named = tt; proper = number_proper c (omega (arith, k)); other = refl }, tt)
    carriers_good false c k = tt

    show_good : (b : Bool) → AllByRecursion IsGood (show_lines b)
    show_good true = (record { named = tt; proper = tt; other = refl }, tt)
    show_good false = tt

turns_several : {X : Type 0} (rest : List (List X)) → AllByRecursion (λ (is : List X). 1 ≤ length is) rest → 1 ≤ length rest → 1 ≤ length (flat_map (λ is. is) rest)
turns_several [] h l = absurd (omega (arith, l))
turns_several (is ∷ rest) h l = let some = h.0 in omega (arith, some, length-append is (flat_map (λ is. is) rest))

all-taken : (s : Script) (l : Layout) → IsScript s → IsLayout s l → taken_words (opened s.version) (map spelled (tail_lines s l) ++ map turns_line l.turns) ≡ Ok (whole s l)
unfolding whole
all-taken s l h i =
    let c = carriers_written l.carriers s.carriers in
    let ag = aged_by l.ages zeros in
    let before : Draft = draft s.version s.table c s.show_steps ag s.programs None s.threads s.at_lines [] in
    let items = subst (AllByRecursion (IsItem s.carriers)) (sym i.turns) h.turns.items in
    let turns = taken-turns s.version s.table c s.show_steps ag s.programs s.threads s.at_lines s.carriers [] l.turns (some_lines s.threads h.lines.0) (written_count l.carriers s.carriers i.carriers) (λ n. h.turns.several (subst (λ (x : List Item). 1 ≤ length x) i.turns (turns_several l.turns i.some n))) items (subst (λ (x : List Item). length x ≤ 10000) (sym i.turns) h.turns.few) (subst (λ (x : List Item). sum_by steps_of x ≤ 1000000) (sym i.turns) h.turns.bounded) in
    words-both (opened s.version) before (draft s.version s.table c s.show_steps ag s.programs None s.threads s.at_lines s.turns) (map spelled (tail_lines s l)) (map turns_line l.turns)
    (words-taken (opened s.version) before (tail_lines s l) (tail-good s l h i) (tail-taken s l h i))
    (turns-taken s.carriers before (draft s.version s.table c s.show_steps ag s.programs None s.threads s.at_lines s.turns) l.turns h.carriers.1 i.some items (turns ∙ ap (λ (x : List Item). Ok (draft s.version s.table c s.show_steps ag s.programs None s.threads s.at_lines x)) i.turns))

whole-finished : (s : Script) (l : Layout) → IsScript s → IsLayout s l → finished (whole s l) ≡ Ok s
unfolding finished whole
whole-finished s l h i = rw (some_lines s.threads h.lines.0) (rw (written_count l.carriers s.carriers i.carriers, aged-same s l h.table.1 i) refl)

-- TEXTS THAT SPELL WORDS

some_inside : (r : Result Draft Why) (ls : List (List Word)) (e : Draft) → on_ok r (λ f. taken_words f ls) ≡ Ok e → (f : Draft) × (r ≡ Ok f) × (taken_words f ls ≡ Ok e)
some_inside (Err reason) ls e h = absurd cc
some_inside (Ok f) ls e h = (f, refl, h)

text_comes : (d f : Draft) (text : List ℕ) → is_plain text ≡ true → accept_words d (words_of text) ≡ Ok f → accept_text d text ≡ Ok f
unfolding accept_text
text_comes d f text p h = rw p h

nothing_said : (d : Draft) → accept_words d [] ≡ Ok d
unfolding accept_words
nothing_said d = refl

line_read : (d f e : Draft) (n : ℕ) (text : List ℕ) (texts : List (List ℕ)) → accept_text d text ≡ Ok f → read_lines f (n + 1) texts ≡ Ok e → read_lines d n (text ∷ texts) ≡ Ok e
line_read d f e n text texts h more = ap (λ (r : Result Draft Why). then_lines r n (λ g. read_lines g (n + 1) texts)) h ∙ more

texts-read : (d e : Draft) (n : ℕ) (texts : List (List ℕ)) (ls : List (List Word)) → list_all is_plain texts ≡ true → content texts ≡ ls → taken_words d ls ≡ Ok e → read_lines d n texts ≡ Ok e
texts-read d e n [] [] plain says h = let same : d ≡ e = cc in ap Ok same
texts-read d e n [] (l ∷ ls) plain says h = absurd cc
texts-read d e n (text ∷ texts) ls plain says h =
    go (words_of text) refl ls says h (λ f ms a b. texts-read f e (n + 1) texts ms both.1 a b)
  where
    both : (is_plain text ≡ true) × (list_all is_plain texts ≡ true)
    both = and_parts (is_plain text) (list_all is_plain texts) plain

    go : (ws : List Word) → words_of text ≡ ws → (ms : List (List Word)) → with_words (ws ∷ map words_of texts) ≡ ms → taken_words d ms ≡ Ok e → ((f : Draft) (ns : List (List Word)) → content texts ≡ ns → taken_words f ns ≡ Ok e → read_lines f (n + 1) texts ≡ Ok e) → read_lines d n (text ∷ texts) ≡ Ok e
    go [] q ms a b more = line_read d d e n text texts (text_comes d d text both.0 (ap (accept_words d) q ∙ nothing_said d)) (more d ms a b)
    go (w ∷ ws) q [] a b more = absurd cc
    go (w ∷ ws) q (m ∷ ms) a b more =
        let first : w ∷ ws ≡ m = cc in
        let rest : content texts ≡ ms = cc in
        let s = some_inside (accept_words d m) ms e b in
        line_read d s.0 e n text texts (text_comes d s.0 text both.0 (ap (accept_words d) (q ∙ first) ∙ s.1)) (more s.0 ms rest s.2)

from-read : (v n : ℕ) (e : Draft) (texts : List (List ℕ)) (ls : List (List Word)) → 1 ≤ v → v ≤ 2 → list_all is_plain texts ≡ true → content texts ≡ spelled (line.Kernel (exactly v)) ∷ ls → taken_words (opened v) ls ≡ Ok e → read_from n texts ≡ Ok e
from-read v n e [] ls low high plain says h = absurd cc
from-read v n e (text ∷ texts) ls low high plain says h =
    go (words_of text) refl says (λ a. from-read v (n + 1) e texts ls low high both.1 a h)
  where
    both : (is_plain text ≡ true) × (list_all is_plain texts ≡ true)
    both = and_parts (is_plain text) (list_all is_plain texts) plain

    go : (ws : List Word) → words_of text ≡ ws → with_words (ws ∷ map words_of texts) ≡ spelled (line.Kernel (exactly v)) ∷ ls → (content texts ≡ spelled (line.Kernel (exactly v)) ∷ ls → read_from (n + 1) texts ≡ Ok e) → read_from n (text ∷ texts) ≡ Ok e
    go [] q a more = elim (cases_Bool (has_words text)) [
      | inl t ↦ let some = some-words text t in let none : length (words_of text) ≡ 0 = ap (λ (x : List Word). length x) q in absurd (omega (arith, some, none))
      | inr f ↦ rw f (rw both.0 (more a))
    ]
    go (w ∷ ws) q a more =
        let first : w ∷ ws ≡ spelled (line.Kernel (exactly v)) = cc in
        let rest : content texts ≡ ls = cc in
        elim (cases_Bool (has_words text)) [
          | inr f ↦ let none = no-words text both.0 f in let no : w ∷ ws ≡ [] = sym q ∙ none in absurd cc
          | inl t ↦
              let got = first-spelled text v both.0 (q ∙ first) low high in
              rw t (ap (λ (o : Option ℕ). from_version o n (λ d. read_lines d (n + 1) texts)) got ∙ texts-read (opened v) e (n + 1) texts ls both.1 rest h)
        ]

pub text-read : (bytes : List ℕ) (s : Script) → IsText bytes s → read_of bytes ≡ Ok s
unfolding read_of
text-read bytes s h =
    let l = h.spells.layout in
    let lines = from-read s.version 1 (whole s l) (lines_of bytes) (map spelled (tail_lines s l) ++ map turns_line l.turns) h.within.version.0 h.within.version.1 h.spells.plain h.spells.said (all-taken s l h.within h.spells.fits) in
    ap (λ (r : Result Draft BadLine). at_end r (length (lines_of bytes) + 1)) lines
    ∙ ap (λ (r : Result Script Why). end_at r (length (lines_of bytes) + 1)) (whole-finished s l h.within h.spells.fits)
