-- No layout of a script needs fewer bytes than the one that is written.
use Rattle.std.proofs.Common.{◌≡◌, ℕ, zero, suc, ◌+◌, ◌≤◌, Bool, true, false, not, cond, eqb, List, [], ◌∷◌, ◌++◌, length, map, replicate, refl, sym, ap, ◌∙◌, arith, inl, inr}
use Rattle.std.specs.Prelude.{slice_set}
use Rattle.std.specs.List.{flat_map, AllByRecursion}
use Rattle.std.proofs.lemmas.Bool.{cases_Bool}
use Rattle.std.proofs.lemmas.List.{map-append}
use Rattle.k_script.specs.declared.lines.Item.{Item}
use Rattle.k_script.specs.Script.{Script}
use Rattle.k_lines.specs.declared.line.Line.{Line}
use Rattle.k_lines.specs.declared.line.Line.TheVariants as line
use Rattle.k_lines.specs.Numbers.{exactly}
use Rattle.k_lines.specs.Words.{lines_of}
use Rattle.k_lines.specs.Lines.{Word, spelled, spelled_item}
use Rattle.k_reader.specs.Grammar.{Age, Layout, IsLayout, layout_lines, layout_words, carriers_lines, show_lines, aged_line, aged_by, program_lines, thread_line, at_line, item_line, turns_line, content, Spells}
use Rattle.k_writer.specs.Canonical.{ages_from, one_line, canonical, text_of}
use Rattle.k_writer.proofs.Costs.{words_cost, lines_cost, words_cost-append, lines_cost-append, whole_cost, text_cost}

-- LINES, as they are spelled

abbrev pub cost : List Line → ℕ
cost lines = lines_cost (map spelled lines)

cost-append : (a b : List Line) → cost (a ++ b) ≡ cost a + cost b
cost-append a b = ap lines_cost (map-append spelled a b) ∙ lines_cost-append (map spelled a) (map spelled b)

parts_cost : (h k s a b p t e : List Line) → cost h ≤ cost k → cost a ≤ cost b → cost (h ++ s ++ a ++ p ++ t ++ e) ≤ cost (k ++ s ++ b ++ p ++ t ++ e)
parts_cost h k s a b p t e l m =
    omega (
      arith,
      l,
      m,
      cost-append (h ++ s ++ a ++ p ++ t) e,
      cost-append (h ++ s ++ a ++ p) t,
      cost-append (h ++ s ++ a) p,
      cost-append (h ++ s) a,
      cost-append h s,
      cost-append (k ++ s ++ b ++ p ++ t) e,
      cost-append (k ++ s ++ b ++ p) t,
      cost-append (k ++ s ++ b) p,
      cost-append (k ++ s) b,
      cost-append k s,
    )

-- the `carriers` line
carriers_cost : (written : Bool) (carriers : ℕ) → (written ≡ false → carriers ≡ 1) → cost (carriers_lines (not (eqb carriers 1)) carriers) ≤ cost (carriers_lines written carriers)
carriers_cost true carriers h = elim (cases_Bool (eqb carriers 1)) [
  | inl t ↦ rw t (omega arith)
  | inr f ↦ rw f (omega arith)
]
carriers_cost false carriers h = rw (h refl) (omega arith)

-- THE AGED LINES: what each number costs that had a thread

abbrev pub age_cost : ℕ → ℕ → ℕ
age_cost n v = cost (aged_line (record { number = n; version = v }) ∷ [])

abbrev pub versions_cost : ℕ → List ℕ → ℕ
versions_cost n [] = 0
versions_cost n (v ∷ vs) = cond (eqb v 0) 0 (age_cost n v) + versions_cost (n + 1) vs

ages_cost : (n : ℕ) (vs : List ℕ) → cost (map aged_line (ages_from n vs)) ≡ versions_cost n vs
ages_cost n [] = refl
ages_cost n (v ∷ vs) = elim (cases_Bool (eqb v 0)) [
  | inl t ↦ rw t (omega (arith, ages_cost (n + 1) vs))
  | inr f ↦ rw f (omega (arith, ages_cost (n + 1) vs))
]

cond_cost : (b : Bool) (m : ℕ) → cond b 0 m ≤ m
cond_cost true m = omega arith
cond_cost false m = omega arith

-- One more line costs what it adds at least.
set_cost : (n i v : ℕ) (vs : List ℕ) → versions_cost n (slice_set vs i v) ≤ age_cost (n + i) v + versions_cost n vs
set_cost n i v [] = omega arith
set_cost n zero v (w ∷ vs) =
    let same : age_cost (n + zero) v ≡ age_cost n v = ap (λ (m : ℕ). age_cost m v) (omega arith) in
    omega (arith, same, cond_cost (eqb v 0) (age_cost n v))
set_cost n (suc i) v (w ∷ vs) =
    let same : age_cost (n + suc i) v ≡ age_cost (n + 1 + i) v = ap (λ (m : ℕ). age_cost m v) (omega arith) in
    omega (arith, same, set_cost (n + 1) i v vs)

aged_cost : (ages : List Age) (vs : List ℕ) → versions_cost 0 (aged_by ages vs) ≤ cost (map aged_line ages) + versions_cost 0 vs
aged_cost [] vs = omega arith
aged_cost (a ∷ ages) vs =
    let same : age_cost (0 + a.number) a.version ≡ age_cost a.number a.version = ap (λ (m : ℕ). age_cost m a.version) (omega arith) in
    omega (arith, same, aged_cost ages (slice_set vs a.number a.version), set_cost 0 a.number a.version vs)

zeros_cost : (n m : ℕ) → versions_cost n (replicate m 0) ≡ 0
zeros_cost n zero = refl
zeros_cost n (suc m) = omega (arith, zeros_cost (n + 1) m)

-- THE TURNS: each line has a word of its own

abbrev pub items_cost : List Item → ℕ
items_cost items = words_cost (map (λ i. spelled_item (item_line i)) items)

items_cost-append : (a b : List Item) → items_cost (a ++ b) ≡ items_cost a + items_cost b
items_cost-append a b = ap words_cost (map-append (λ i. spelled_item (item_line i)) a b) ∙ words_cost-append (map (λ i. spelled_item (item_line i)) a) (map (λ i. spelled_item (item_line i)) b)

split_items : (splits : List (List Item)) → items_cost (flat_map (λ items. items) splits) ≤ lines_cost (map turns_line splits)
split_items [] = omega arith
split_items (items ∷ splits) = omega (arith, items_cost-append items (flat_map (λ items. items) splits), split_items splits)

one_line_cost : (items : List Item) → lines_cost (map turns_line (one_line items)) ≤ 6 + items_cost items
one_line_cost [] = omega arith
one_line_cost (i ∷ items) = omega arith

turns_cost : (splits : List (List Item)) → lines_cost (map turns_line (one_line (flat_map (λ items. items) splits))) ≤ lines_cost (map turns_line splits)
turns_cost [] = omega arith
turns_cost (items ∷ splits) =
    omega (arith, one_line_cost (items ++ flat_map (λ items. items) splits), items_cost-append items (flat_map (λ items. items) splits), split_items splits)

-- THE WHOLE TEXT

pub layout_cost : (s : Script) (l : Layout) → IsLayout s l → lines_cost (layout_words s (canonical s)) ≤ lines_cost (layout_words s l)
layout_cost s l h =
    let head : cost (line.Kernel (exactly s.version) ∷ line.Table (exactly s.table) ∷ carriers_lines (not (eqb s.carriers 1)) s.carriers) ≤ cost (line.Kernel (exactly s.version) ∷ line.Table (exactly s.table) ∷ carriers_lines l.carriers s.carriers) = omega (arith, carriers_cost l.carriers s.carriers h.carriers) in
    let versions : versions_cost 0 s.aged ≡ versions_cost 0 (aged_by l.ages (replicate s.table 0)) = ap (versions_cost 0) h.aged in
    let ages : cost (map aged_line (ages_from 0 s.aged)) ≤ cost (map aged_line l.ages) = omega (arith, ages_cost 0 s.aged, versions, aged_cost l.ages (replicate s.table 0), zeros_cost 0 s.table) in
    let lines = parts_cost (line.Kernel (exactly s.version) ∷ line.Table (exactly s.table) ∷ carriers_lines (not (eqb s.carriers 1)) s.carriers) (line.Kernel (exactly s.version) ∷ line.Table (exactly s.table) ∷ carriers_lines l.carriers s.carriers) (show_lines s.show_steps) (map aged_line (ages_from 0 s.aged)) (map aged_line l.ages) (flat_map (program_lines s.programs) s.programs) (map (thread_line s.programs) s.threads) (map at_line s.at_lines) head ages in
    let same : lines_cost (map turns_line (one_line s.turns)) ≡ lines_cost (map turns_line (one_line (flat_map (λ items. items) l.turns))) = ap (λ (items : List Item). lines_cost (map turns_line (one_line items))) (sym h.turns) in
    omega (
      arith,
      lines,
      same,
      turns_cost l.turns,
      lines_cost-append (map spelled (layout_lines s (canonical s))) (map turns_line (one_line s.turns)),
      lines_cost-append (map spelled (layout_lines s l)) (map turns_line l.turns),
    )

pub no_shorter : (s : Script) (bytes : List ℕ) → AllByRecursion (λ (ws : List Word). 1 ≤ length ws) (layout_words s (canonical s)) → Spells bytes s → length (text_of s) ≤ length bytes
no_shorter s bytes some h =
    let said : lines_cost (content (lines_of bytes)) ≡ lines_cost (layout_words s h.layout) = ap lines_cost h.said in
    omega (arith, said, text_cost bytes, layout_cost s h.layout h.fits, whole_cost (layout_words s (canonical s)) (omega arith) some)
