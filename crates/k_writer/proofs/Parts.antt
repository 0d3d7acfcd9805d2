-- The text of lines, one part behind another.
use Rattle.std.proofs.Common.{◌≡◌, ℕ, ◌+◌, ◌<◌, Bool, true, false, not, cond, eqb, List, [], ◌∷◌, ◌++◌, length, get_or, map, take, refl, sym, ap, ◌∙◌, arith, append_assoc, decimal}
use Rattle.std.specs.Prelude.{codes}
use Rattle.std.specs.List.{flat_map}
use Rattle.std.proofs.lemmas.Bool.{ne_eqb}
use Rattle.std.proofs.lemmas.List.{map-append, append-nil, take_more, length-take-le}
use Rattle.std.proofs.lemmas.List.Concat.{flat_map-append}
use Rattle.k_script.specs.declared.lines.Item.{Item}
use Rattle.k_script.specs.Script.{Script}
use Rattle.k_lines.specs.declared.line.Line.{Line}
use Rattle.k_lines.specs.declared.line.Line.TheVariants as line
use Rattle.k_lines.specs.Numbers.{exactly}
use Rattle.k_lines.specs.Lines.{Word, spelled, spelled_item}
use Rattle.k_text.specs.Texts.{joined}
use Rattle.k_reader.specs.Grammar.{Age, carriers_lines, show_lines, aged_line, program_lines, thread_line, at_line, item_line, turns_line}
use Rattle.k_writer.specs.Canonical.{ages_from, one_line, fed, feeds, text_of}

-- the text of lines that are spelled
abbrev pub text : List Line → List ℕ
text lines = feeds (map spelled lines)

text-append : (a b : List Line) → text (a ++ b) ≡ text a ++ text b
text-append a b = ap feeds (map-append spelled a b) ∙ flat_map-append fed (map spelled a) (map spelled b)

text_one : (a : List Line) (l : Line) → text (a ++ l ∷ []) ≡ text a ++ fed (spelled l)
text_one a l = text-append a (l ∷ []) ∙ ap (λ (t : List ℕ). text a ++ t) (append-nil (fed (spelled l)))

-- THE AGED LINES

in_front : (none : Bool) (a : Age) (all before last : List Age) → all ≡ before ++ last → cond none all (a ∷ all) ≡ cond none before (a ∷ before) ++ last
in_front true a all before last h = h
in_front false a all before last h = ap (λ (ages : List Age). a ∷ ages) h

ages_push : (n : ℕ) (vs : List ℕ) (v : ℕ) → ages_from n (vs ++ v ∷ []) ≡ ages_from n vs ++ ages_from (n + length vs) (v ∷ [])
ages_push n [] v = ap (λ (m : ℕ). ages_from m (v ∷ [])) (omega arith)
ages_push n (w ∷ vs) v =
    let more : ages_from (n + 1) (vs ++ v ∷ []) ≡ ages_from (n + 1) vs ++ ages_from (n + length (w ∷ vs)) (v ∷ []) = ages_push (n + 1) vs v ∙ ap (λ (m : ℕ). ages_from (n + 1) vs ++ ages_from m (v ∷ [])) (omega arith) in
    in_front (eqb w 0) (record { number = n; version = w }) (ages_from (n + 1) (vs ++ v ∷ [])) (ages_from (n + 1) vs) (ages_from (n + length (w ∷ vs)) (v ∷ [])) more

ages_more : (vs : List ℕ) (number : ℕ) → number < length vs → ages_from 0 (take (number + 1) vs) ≡ ages_from 0 (take number vs) ++ ages_from number (get_or vs number 0 ∷ [])
ages_more vs number l =
    ap (ages_from 0) (take_more vs number 0 l) ∙ ages_push 0 (take number vs) (get_or vs number 0)
    ∙ ap (λ (m : ℕ). ages_from 0 (take number vs) ++ ages_from m (get_or vs number 0 ∷ [])) (let e = length-take-le number vs (omega (arith, l)) in omega (arith, e))

-- A number without a version has no line.
pub ages_kept : (vs : List ℕ) (number version : ℕ) (out now : List ℕ) → number < length vs → version ≡ get_or vs number 0 → version ≡ 0 →
    now ≡ out ++ text (map aged_line (ages_from 0 (take number vs))) → now ≡ out ++ text (map aged_line (ages_from 0 (take (number + 1) vs)))
ages_kept vs number version out now l e z before =
    before ∙ ap (λ (ages : List Age). out ++ text (map aged_line ages)) (sym (ages_more vs number l ∙ ap (λ (v : ℕ). ages_from 0 (take number vs) ++ ages_from number (v ∷ [])) (sym e ∙ z) ∙ append-nil (ages_from 0 (take number vs))))

pub ages_grown : (vs : List ℕ) (number version : ℕ) (out old new words : List ℕ) → number < length vs → version ≡ get_or vs number 0 → (version ≡ 0 → ⊥) →
    old ≡ out ++ text (map aged_line (ages_from 0 (take number vs))) → words ≡ joined (codes "aged" ∷ decimal number ∷ decimal version ∷ []) → new ≡ old ++ (codes "\n" ++ words) →
    new ≡ out ++ text (map aged_line (ages_from 0 (take (number + 1) vs)))
ages_grown vs number version out old new words l e some before said after =
    let a : Age = record { number = number; version = version } in
    let one : ages_from number (version ∷ []) ≡ a ∷ [] = rw (ne_eqb version 0 some) refl in
    let lines : ages_from 0 (take (number + 1) vs) ≡ ages_from 0 (take number vs) ++ a ∷ [] = ages_more vs number l ∙ ap (λ (v : ℕ). ages_from 0 (take number vs) ++ ages_from number (v ∷ [])) (sym e) ∙ ap (λ (ages : List Age). ages_from 0 (take number vs) ++ ages) one in
    after ∙ ap (λ (t : List ℕ). old ++ (codes "\n" ++ t)) said ∙ ap (λ (t : List ℕ). t ++ fed (spelled (aged_line a))) before
    ∙ append_assoc out (text (map aged_line (ages_from 0 (take number vs)))) (fed (spelled (aged_line a)))
    ∙ ap (λ (t : List ℕ). out ++ t) (sym (ap (λ (ages : List Age). text (map aged_line ages)) lines ∙ ap text (map-append aged_line (ages_from 0 (take number vs)) (a ∷ [])) ∙ text_one (map aged_line (ages_from 0 (take number vs))) (aged_line a)))

-- TURNS

abbrev pub item_words : List Item → List Word
item_words items = map (λ i. spelled_item (item_line i)) items

-- THE WHOLE TEXT

glue : (k h a p t e w : List ℕ) → k ++ (((((h ++ a) ++ p) ++ t) ++ e) ++ w) ≡ ((((([] ++ (k ++ h)) ++ a) ++ p) ++ t) ++ e) ++ w
glue k h a p t e w = simp (append_assoc)

pub text_whole : (s : Script) (x0 x1 x2 x3 x4 x5 x6 : List ℕ) → x0 ≡ [] →
    x1 ≡ x0 ++ (joined (spelled (line.Kernel (exactly s.version))) ++ text (line.Table (exactly s.table) ∷ carriers_lines (not (eqb s.carriers 1)) s.carriers ++ show_lines s.show_steps)) →
    x2 ≡ x1 ++ text (map aged_line (ages_from 0 s.aged)) → x3 ≡ x2 ++ text (flat_map (program_lines s.programs) s.programs) →
    x4 ≡ x3 ++ text (map (thread_line s.programs) s.threads) → x5 ≡ x4 ++ text (map at_line s.at_lines) → x6 ≡ x5 ++ feeds (map turns_line (one_line s.turns)) → x6 ≡ text_of s
text_whole s x0 x1 x2 x3 x4 x5 x6 e0 e1 e2 e3 e4 e5 e6 =
    let k : List ℕ = joined (spelled (line.Kernel (exactly s.version))) in
    let head : List Line = line.Table (exactly s.table) ∷ carriers_lines (not (eqb s.carriers 1)) s.carriers ++ show_lines s.show_steps in
    let ages : List Line = map aged_line (ages_from 0 s.aged) in
    let programs : List Line = flat_map (program_lines s.programs) s.programs in
    let threads : List Line = map (thread_line s.programs) s.threads in
    let events : List Line = map at_line s.at_lines in
    let turns : List (List Word) = map turns_line (one_line s.turns) in
    let lines : text (head ++ ages ++ programs ++ threads ++ events) ≡ (((text head ++ text ages) ++ text programs) ++ text threads) ++ text events =
    text-append (head ++ ages ++ programs ++ threads) events ∙ ap (λ (t : List ℕ). t ++ text events) (text-append (head ++ ages ++ programs) threads
    ∙ ap (λ (t : List ℕ). t ++ text threads) (text-append (head ++ ages) programs ∙ ap (λ (t : List ℕ). t ++ text programs) (text-append head ages))) in
    let whole : text_of s ≡ k ++ (((((text head ++ text ages) ++ text programs) ++ text threads) ++ text events) ++ feeds turns) =
    ap (λ (t : List ℕ). k ++ t) (flat_map-append fed (map spelled (head ++ ages ++ programs ++ threads ++ events)) turns ∙ ap (λ (t : List ℕ). t ++ feeds turns) lines) in
    e6 ∙ ap (λ (t : List ℕ). t ++ feeds turns) (e5 ∙ ap (λ (t : List ℕ). t ++ text events) (e4 ∙ ap (λ (t : List ℕ). t ++ text threads) (e3 ∙ ap (λ (t : List ℕ). t ++ text programs) (e2 ∙ ap (λ (t : List ℕ). t ++ text ages) (e1 ∙ ap (λ (t : List ℕ). t ++ (k ++ text head)) e0)))))
    ∙ sym (glue k (text head) (text ages) (text programs) (text threads) (text events) (feeds turns)) ∙ sym whole
