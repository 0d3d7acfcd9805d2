-- What is written is a text of the script.
use Rattle.std.proofs.Common.{◌≡◌, ℕ, ◌+◌, ◌<◌, ◌≤◌, Bool, true, false, not, eqb, List, [], ◌∷◌, ◌++◌, length, map, replicate, refl, sym, ap, ◌∙◌, arith, inl, inr, append_assoc, Ok}
use Rattle.std.specs.Prelude.{codes}
use Rattle.std.specs.List.{flat_map, AllByRecursion, IsDistinct}
use Rattle.std.proofs.lemmas.Bool.{cases_Bool, eqb-true, eqb-false, ne_eqb, false≢true}
use Rattle.std.proofs.lemmas.List.{append-nil, length-append, set_at}
use Rattle.k_script.specs.declared.lines.Item.{Item}
use Rattle.k_script.specs.Script.{Script, program_in}
use Rattle.k_script.specs.Limits.{is_name, IsItem, IsScript}
use Rattle.k_script.specs.Weight.{weight_of}
use Rattle.k_lines.specs.declared.line.Line.{Line}
use Rattle.k_lines.specs.declared.line.Line.TheVariants as line
use Rattle.k_lines.specs.Numbers.{exactly}
use Rattle.k_lines.specs.Lines.{Word, spelled}
use Rattle.k_reader.specs.Grammar.{IsAge, IsLayout, layout_lines, layout_words, carriers_lines, show_lines, aged_line, aged_by, numbers_of, program_lines, thread_line, at_line, turns_line, IsText}
use Rattle.k_writer.specs.Canonical.{ages_from, one_line, canonical, text_of}
use Rattle.k_reader.specs.Reading.{read_of}
use Rattle.k_reader.specs.Refused.{IsRead}
use Rattle.k_reader.proofs.Converse.{text-read}
use Rattle.k_reader.proofs.Meaning.{script-read}
use Rattle.k_writer.proofs.Shortest.{no_shorter}
use Rattle.k_writer.proofs.Clean.{IsGoodLine, content_whole, plain_whole}
use Rattle.k_writer.proofs.Spellings.{IsGood, numbered, all_append, ages_good, programs_good, threads_good, events_good, turns_good}

-- THE AGED LINES

push_zeros : (done vs : List ℕ) (v : ℕ) → done ++ v ∷ replicate (length vs) 0 ≡ (done ++ v ∷ []) ++ replicate (length vs) 0
push_zeros done vs v = sym (append_assoc done (v ∷ []) (replicate (length vs) 0))

length_one : (done : List ℕ) (v : ℕ) → length (done ++ v ∷ []) ≡ length done + 1
length_one done v = length-append done (v ∷ [])

-- The lines give these versions to numbers of which none had one.
ages_give : (done vs : List ℕ) → aged_by (ages_from (length done) vs) (done ++ replicate (length vs) 0) ≡ done ++ vs
ages_give done [] = refl
ages_give done (v ∷ vs) =
    let more : aged_by (ages_from (length done + 1) vs) ((done ++ v ∷ []) ++ replicate (length vs) 0) ≡ done ++ v ∷ vs = sym (ap (λ (n : ℕ). aged_by (ages_from n vs) ((done ++ v ∷ []) ++ replicate (length vs) 0)) (length_one done v)) ∙ ages_give (done ++ v ∷ []) vs ∙ append_assoc done (v ∷ []) vs in
    elim (cases_Bool (eqb v 0)) [
      | inl t ↦ rw t (ap (λ (m : ℕ). aged_by (ages_from (length done + 1) vs) (done ++ m ∷ replicate (length vs) 0)) (sym (eqb-true v 0 t)) ∙ ap (aged_by (ages_from (length done + 1) vs)) (push_zeros done vs v) ∙ more)
      | inr f ↦ rw f (ap (aged_by (ages_from (length done + 1) vs)) (set_at done 0 (replicate (length vs) 0) v (length done) refl ∙ push_zeros done vs v) ∙ more)
    ]

ages_in : (table n : ℕ) (vs : List ℕ) → n + length vs ≤ table → AllByRecursion (λ v. v ≤ 1048575) vs → AllByRecursion (IsAge table) (ages_from n vs)
ages_in table n [] l h = tt
ages_in table n (v ∷ vs) l h = elim (cases_Bool (eqb v 0)) [
  | inl t ↦ rw t (ages_in table (n + 1) vs (omega (arith, l)) h.1)
  | inr f ↦ let some = eqb-false v 0 f in rw f (record { number = omega (arith, l); version = (omega (arith, some), h.0) }, ages_in table (n + 1) vs (omega (arith, l)) h.1)
]

-- all numbers of lines from n on are other ones than those before
ages_later : (n m : ℕ) (vs : List ℕ) → m < n → AllByRecursion (λ k. eqb m k ≡ false) (numbers_of (ages_from n vs))
ages_later n m [] l = tt
ages_later n m (v ∷ vs) l = elim (cases_Bool (eqb v 0)) [
  | inl t ↦ rw t (ages_later (n + 1) m vs (omega (arith, l)))
  | inr f ↦ rw f (ne_eqb m n (λ e. omega (arith, e, l)), ages_later (n + 1) m vs (omega (arith, l)))
]

ages_apart : (n : ℕ) (vs : List ℕ) → IsDistinct (λ a b. eqb a b) (numbers_of (ages_from n vs))
unfolding IsDistinct
ages_apart n [] = tt
ages_apart n (v ∷ vs) = elim (cases_Bool (eqb v 0)) [
  | inl t ↦ rw t (ages_apart (n + 1) vs)
  | inr f ↦ rw f (ages_later (n + 1) n vs (omega arith), ages_apart (n + 1) vs)
]

-- THE LAYOUT

one_carrier : (carriers : ℕ) → not (eqb carriers 1) ≡ false → carriers ≡ 1
one_carrier carriers h = elim (cases_Bool (eqb carriers 1)) [
  | inl t ↦ eqb-true carriers 1 t
  | inr f ↦ absurd (false≢true (sym h ∙ ap not f))
]

one_turns : (items : List Item) → flat_map (λ (is : List Item). is) (one_line items) ≡ items
one_turns [] = refl
one_turns (i ∷ items) = append-nil (i ∷ items)

one_some : (items : List Item) → AllByRecursion (λ (is : List Item). 1 ≤ length is) (one_line items)
one_some [] = tt
one_some (i ∷ items) = (omega arith, tt)

canonical_fits : (s : Script) → IsScript s → IsLayout s (canonical s)
canonical_fits s h =
    let numbered = h.numbered in
    record {
      carriers = one_carrier s.carriers;
      apart = ages_apart 0 s.aged;
      ages = ages_in s.table 0 s.aged (omega (arith, numbered)) h.aged;
      aged = sym (ages_give [] s.aged) ∙ ap (λ (n : ℕ). aged_by (ages_from 0 s.aged) (replicate n 0)) numbered;
      turns = one_turns s.turns;
      some = one_some s.turns;
    }

-- ITS LINES

lines_good : (ls : List Line) → AllByRecursion IsGood ls → AllByRecursion IsGoodLine (map spelled ls)
lines_good [] h = tt
lines_good (l ∷ ls) h = (h.0, lines_good ls h.1)

turns_lines : (carriers : ℕ) (items : List Item) → carriers ≤ 8 → AllByRecursion (IsItem carriers) items → AllByRecursion IsGoodLine (map turns_line (one_line items))
turns_lines carriers [] small h = tt
turns_lines carriers (i ∷ items) small h = (turns_good carriers (i ∷ items) small h, tt)

carriers_good : (written : Bool) (carriers : ℕ) → carriers ≤ 8 → AllByRecursion IsGood (carriers_lines written carriers)
carriers_good true carriers small = (numbered (codes "carriers") carriers refl (omega (arith, small)), tt)
carriers_good false carriers small = tt

show_good : (shown : Bool) → AllByRecursion IsGood (show_lines shown)
show_good true = ((omega arith, refl), tt)
show_good false = tt

layout_good : (s : Script) → IsScript s → AllByRecursion IsGoodLine (layout_words s (canonical s))
layout_good s h =
    let version = h.version.1 in
    let table = h.table.1 in
    let few = h.lines.1 in
    let names : (k : ℕ) → k < length s.programs → is_name (program_in s.programs k).name ≡ true = λ k l. (h.programs k l).name in
    let head : AllByRecursion IsGood (line.Kernel (exactly s.version) ∷ line.Table (exactly s.table) ∷ carriers_lines (not (eqb s.carriers 1)) s.carriers) = (numbered (codes "kernel") s.version refl (omega (arith, version)), (numbered (codes "table") s.table refl (omega (arith, table)), carriers_good (not (eqb s.carriers 1)) s.carriers h.carriers.1)) in
    let shown = all_append IsGood (line.Kernel (exactly s.version) ∷ line.Table (exactly s.table) ∷ carriers_lines (not (eqb s.carriers 1)) s.carriers) (show_lines s.show_steps) head (show_good s.show_steps) in
    let aged = all_append IsGood (line.Kernel (exactly s.version) ∷ line.Table (exactly s.table) ∷ carriers_lines (not (eqb s.carriers 1)) s.carriers ++ show_lines s.show_steps) (map aged_line (ages_from 0 s.aged)) shown (ages_good s.table (ages_from 0 s.aged) table (canonical_fits s h).ages) in
    let programs = all_append IsGood (line.Kernel (exactly s.version) ∷ line.Table (exactly s.table) ∷ carriers_lines (not (eqb s.carriers 1)) s.carriers ++ show_lines s.show_steps ++ map aged_line (ages_from 0 s.aged)) (flat_map (program_lines s.programs) s.programs) aged (programs_good s.table [] s.programs table h.programs) in
    let threads = all_append IsGood (line.Kernel (exactly s.version) ∷ line.Table (exactly s.table) ∷ carriers_lines (not (eqb s.carriers 1)) s.carriers ++ show_lines s.show_steps ++ map aged_line (ages_from 0 s.aged) ++ flat_map (program_lines s.programs) s.programs) (map (thread_line s.programs) s.threads) programs (threads_good s.programs s.threads names h.threads) in
    let events = all_append IsGood (line.Kernel (exactly s.version) ∷ line.Table (exactly s.table) ∷ carriers_lines (not (eqb s.carriers 1)) s.carriers ++ show_lines s.show_steps ++ map aged_line (ages_from 0 s.aged) ++ flat_map (program_lines s.programs) s.programs ++ map (thread_line s.programs) s.threads) (map at_line s.at_lines) threads (events_good s.carriers (length s.threads) s.at_lines h.carriers.1 (omega (arith, few, table)) h.at_lines.events) in
    all_append IsGoodLine (map spelled (layout_lines s (canonical s))) (map turns_line (one_line s.turns)) (lines_good (layout_lines s (canonical s)) events) (turns_lines s.carriers s.turns h.carriers.1 h.turns.items)

layout_some : (s : Script) → 1 ≤ length (layout_words s (canonical s))
layout_some s = omega arith

pub canonical_text : (s : Script) → IsScript s → IsText (text_of s) s
canonical_text s h = record {
  within = h;
  spells = record {
    layout = canonical s;
    fits = canonical_fits s h;
    said = content_whole (layout_words s (canonical s)) (layout_some s) (layout_good s h);
    plain = plain_whole (layout_words s (canonical s)) (layout_some s) (layout_good s h);
  };
}

some_words : (lines : List (List Word)) → AllByRecursion IsGoodLine lines → AllByRecursion (λ (ws : List Word). 1 ≤ length ws) lines
some_words [] h = tt
some_words (ws ∷ lines) h = (h.0.0, some_words lines h.1)

pub shortest : (s : Script) (bytes : List ℕ) → IsText bytes s → length (text_of s) ≤ length bytes
shortest s bytes h = no_shorter s bytes (some_words (layout_words s (canonical s)) (layout_good s h.within)) h.spells

pub text_is_read : (s : Script) → IsScript s → read_of (text_of s) ≡ Ok s
text_is_read s h = text-read (text_of s) s (canonical_text s h)

pub text_answered : (s : Script) → IsScript s → length (text_of s) ≤ 1048576 → weight_of s ≤ 4000000 → IsRead (text_of s) (Ok s)
text_answered s h few light = (few, text_is_read s h, light)

pub text_taken : (bytes : List ℕ) (s : Script) → IsRead bytes (Ok s) → IsRead (text_of s) (Ok s)
text_taken bytes s h =
    let few = h.0 in
    let text = script-read bytes s h.1 in
    text_answered s text.within (omega (arith, shortest s bytes text, few)) h.2
