-- A script that is read is what the bytes spell, within the limits.
use Rattle.std.proofs.Common.{◌≡◌, ℕ, zero, suc, ◌+◌, ◌≤◌, Bool, true, false, cond, List, [], ◌∷◌, ◌++◌, length, map, replicate, take, refl, sym, ap, ◌∙◌, subst, arith, Option, Some, None, Result, Ok, Err, inl, inr, unwrap_or, append_assoc}
use Rattle.std.specs.Prelude.{codes, slice_set}
use Rattle.std.specs.List.{flat_map, list_all, AllByRecursion, IsDistinct}
use Rattle.std.specs.Str.{bytes_eq}
use Rattle.std.proofs.lemmas.Bool.{cases_Bool, false≢true}
use Rattle.std.proofs.lemmas.List.{append-nil, map-append}
use Rattle.std.proofs.lemmas.Grind.{flat_map-append}
use Rattle.std.proofs.lemmas.Slice.Eq.{bytes_eq-Decides}
use Rattle.k_lists.proofs.All.{all_push}
use Rattle.k_script.specs.declared.lines.Item.{Item}
use Rattle.k_script.specs.declared.lines.ThreadLine.{ThreadLine}
use Rattle.k_script.specs.declared.lines.AtLine.{AtLine}
use Rattle.k_script.specs.Script.{Program, Script}
use Rattle.k_script.specs.Limits.{IsScript}
use Rattle.k_lines.specs.declared.line.ItemWord.{ItemWord}
use Rattle.k_lines.specs.declared.line.Line.{Line}
use Rattle.k_lines.specs.declared.line.Line.TheVariants as line
use Rattle.k_lines.specs.Words.{words_of, lines_of, is_plain, has_words}
use Rattle.k_lines.specs.Numbers.{exactly}
use Rattle.k_lines.specs.Lines.{Word, spelled, spelled_item, line_of, items_of, IsProperItem}
use Rattle.k_lines.proofs.Spelled.{line-read, line-named}
use Rattle.k_lines.proofs.Items.{items-read}
use Rattle.k_reader.specs.declared.fault.Why.{Why}
use Rattle.k_reader.specs.declared.fault.Why.TheVariants as why
use Rattle.k_reader.specs.Draft.{Draft, opened, table_of, carriers_of, script_of}
use Rattle.k_reader.specs.Reading.{given, accept, accept_turns, accept_words, accept_text, BadLine, then_lines, read_lines, first_version, from_version, read_from, finished, end_at, at_end, read_of}
use Rattle.k_reader.specs.Grammar.{Age, IsLayout, layout_lines, layout_words, aged_by, aged_line, show_lines, program_lines, thread_line, at_line, turns_line, item_line, with_words, content, IsText}
use Rattle.k_reader.proofs.Chains.{ok_given}
use Rattle.k_reader.proofs.Resolved.{ok_same, items-resolved}
use Rattle.k_reader.proofs.Proper.{items-proper}
use Rattle.k_reader.proofs.Within.{IsWithin, within_opened}
use Rattle.k_reader.proofs.Kept.{some_of, turns-told}
use Rattle.k_reader.proofs.Openings.{no-words, first-read}
use Rattle.k_reader.proofs.Keeps.{line-keeps, turns-keeps}
use Rattle.k_reader.proofs.Finished.{finished-told, finished-within}
use Rattle.k_reader.proofs.Laid.{parts, draft_lines}
use Rattle.k_reader.proofs.Follows.{IsLaid, line-follows, carriers_small, table_small}

-- ALL WORDS of a draft

abbrev pub draft_words : Draft → List Age → List (List Item) → List (List Word)
draft_words d ages splits = map spelled (draft_lines d ages) ++ map turns_line splits

-- a draft that is within the limits, and what was said so far
pub record Drafted (d : Draft) (said : List (List Word)) : Type 0 where
  pub within : IsWithin d
  pub ages : List Age
  pub splits : List (List Item)
  pub laid : IsLaid d ages splits
  pub same : draft_words d ages splits ≡ said

-- Where no turn was said, there is no turns line.
pub no_splits : (splits : List (List Item)) → flat_map (λ items. items) splits ≡ [] → AllByRecursion (λ (items : List Item). 1 ≤ length items) splits → splits ≡ []
no_splits [] e h = refl
no_splits ([] ∷ splits) e h = absurd (omega (arith, h.0))
no_splits ((i ∷ is) ∷ splits) e h = absurd cc

-- one more line before the turns
lined : (d e : Draft) (ages more : List Age) (splits : List (List Item)) (l : Line) (said : List (List Word)) (ws : List Word) → splits ≡ [] → draft_lines e more ≡ draft_lines d ages ++ l ∷ [] → draft_words d ages splits ≡ said → ws ≡ spelled l → draft_words e more splits ≡ said ++ ws ∷ []
lined d e ages more splits l said ws none f same spells =
    let now : draft_words e more [] ≡ map spelled (draft_lines d ages) ++ spelled l ∷ [] = append-nil (map spelled (draft_lines e more)) ∙ ap (map spelled) f ∙ map-append spelled (draft_lines d ages) (l ∷ []) in
    let before : map spelled (draft_lines d ages) ≡ said = sym (append-nil (map spelled (draft_lines d ages))) ∙ ap (λ (x : List (List Item)). draft_words d ages x) (sym none) ∙ same in
    ap (λ (x : List (List Item)). draft_words e more x) none ∙ now ∙ ap (λ (x : List (List Word)). x ++ spelled l ∷ []) before ∙ ap (λ (x : List Word). said ++ x ∷ []) (sym spells)

line-drafted : (d e : Draft) (said : List (List Word)) (w : Word) (ws : List Word) (l : Line) → Drafted d said → line_of w ws ≡ Some l → accept d l ≡ Ok e → Drafted e (said ++ (w ∷ ws) ∷ [])
line-drafted d e said w ws l h r a =
    let s = line-follows d e h.ages h.splits l h.within h.laid a in
    let none = no_splits h.splits (h.laid.joined ∙ s.none) h.laid.some in
    record {
      within = line-keeps d e l h.within (line-named w ws l r) a;
      ages = s.more;
      splits = h.splits;
      laid = s.laid;
      same = lined d e h.ages s.more h.splits l said (w ∷ ws) none s.follows h.same (line-read w ws l r s.proper);
    }

pub spelled_items : (ws : List ItemWord) (is : List Item) → ws ≡ map item_line is → map spelled_item ws ≡ map (λ i. spelled_item (item_line i)) is
spelled_items ws is e = ap (map spelled_item) e ∙ again is
  where
    again : (is : List Item) → map spelled_item (map item_line is) ≡ map (λ i. spelled_item (item_line i)) is
    again [] = refl
    again (i ∷ is) = ap (λ (x : List Word). spelled_item (item_line i) ∷ x) (again is)

lengths : (ws : List ItemWord) (is : List Item) → ws ≡ map item_line is → 1 ≤ length ws → 1 ≤ length is
lengths ws [] e l = let none : ws ≡ [] = e in absurd (omega (arith, ap (λ (x : List ItemWord). length x) none, l))
lengths ws (i ∷ is) e l = omega arith

turns-drafted : (d e : Draft) (said : List (List Word)) (w : Word) (ws : List Word) (is : List ItemWord) → Drafted d said → w ≡ codes "turns" → items_of ws ≡ Some is → accept_turns d is ≡ Ok e → Drafted e (said ++ (w ∷ ws) ∷ [])
turns-drafted d e said w ws is h word r a =
    let t = turns-told d e is a in
    let q = items-resolved (carriers_of d) is t.0 t.4 t.5 in
    let proper = subst (AllByRecursion IsProperItem) (sym q.1) (items-proper (carriers_of d) t.0 (carriers_small d h.within) q.0) in
    let s = items-read ws is r proper in
    let spells : w ∷ ws ≡ turns_line t.0 = ap (λ (x : Word). x ∷ ws) word ∙ ap (λ (x : List Word). codes "turns" ∷ x) (s.0 ∙ spelled_items is t.0 q.1) in
    record {
      within = turns-keeps d e is h.within a;
      ages = h.ages;
      splits = h.splits ++ t.0 ∷ [];
      laid = subst (λ (x : Draft). IsLaid x h.ages (h.splits ++ t.0 ∷ [])) t.7 (record {
        first = h.laid.first;
        apart = h.laid.apart;
        each = h.laid.each;
        versions = h.laid.versions;
        joined = flat_map-append (λ items. items) h.splits (t.0 ∷ []) ∙ ap (λ (x : List Item). flat_map (λ items. items) h.splits ++ x) (append-nil t.0) ∙ ap (λ (x : List Item). x ++ t.0) h.laid.joined;
        some = all_push (λ (items : List Item). 1 ≤ length items) h.splits t.0 h.laid.some (lengths is t.0 q.1 s.1);
      });
      same =
          ap (λ (x : Draft). draft_words x h.ages (h.splits ++ t.0 ∷ [])) (sym t.7)
          ∙ ap (λ (x : List (List Word)). map spelled (draft_lines d h.ages) ++ x) (map-append turns_line h.splits (t.0 ∷ []))
          ∙ sym (append_assoc (map spelled (draft_lines d h.ages)) (map turns_line h.splits) (turns_line t.0 ∷ []))
          ∙ ap (λ (x : List (List Word)). x ++ turns_line t.0 ∷ []) h.same
          ∙ ap (λ (x : List Word). said ++ x ∷ []) (sym spells);
    }

pub words-drafted : (d e : Draft) (said : List (List Word)) (w : Word) (ws : List Word) → Drafted d said → accept_words d (w ∷ ws) ≡ Ok e → Drafted e (said ++ (w ∷ ws) ∷ [])
unfolding accept_words
words-drafted d e said w ws h a = elim (cases_Bool (bytes_eq w (codes "turns"))) [
  | inl t ↦
      let got : given (items_of ws) why.Word (accept_turns d) ≡ Ok e = sym (rw t refl) ∙ a in
      let g = ok_given (items_of ws) why.Word (accept_turns d) e got in
      turns-drafted d e said w ws g.0 h ((bytes_eq-Decides w (codes "turns")).0 t) g.1 g.2
  | inr f ↦
      let got : given (line_of w ws) why.Word (accept d) ≡ Ok e = sym (rw f refl) ∙ a in
      let g = ok_given (line_of w ws) why.Word (accept d) e got in
      line-drafted d e said w ws g.0 h g.1 g.2
]

-- the words of a line, if it has some
abbrev said_by : List Word → List (List Word)
said_by [] = []
said_by (w ∷ ws) = (w ∷ ws) ∷ []

with_more : (ws : List Word) (ls : List (List Word)) → with_words (ws ∷ ls) ≡ said_by ws ++ with_words ls
with_more [] ls = refl
with_more (w ∷ ws) ls = refl

text-drafted : (d e : Draft) (said : List (List Word)) (text : List ℕ) → Drafted d said → accept_text d text ≡ Ok e → (is_plain text ≡ true) × Drafted e (said ++ said_by (words_of text))
unfolding accept_text accept_words
text-drafted d e said text h a = elim (cases_Bool (is_plain text)) [
  | inr f ↦ let no : ◌≡◌ {A = Result Draft Why} (Err why.Word) (Ok e) = sym (rw f refl) ∙ a in absurd cc
  | inl t ↦ (t, go (words_of text) (sym (rw t refl) ∙ a))
]
  where
    go : (ws : List Word) → accept_words d ws ≡ Ok e → Drafted e (said ++ said_by ws)
    go [] b = let same = ok_same d e b in subst (λ (x : List (List Word)). Drafted e x) (sym (append-nil said)) (subst (λ (x : Draft). Drafted x said) same h)
    go (w ∷ ws) b = words-drafted d e said w ws h b

then_parts : (r : Result Draft Why) (n : ℕ) (more : Draft → Result Draft BadLine) (e : Draft) → then_lines r n more ≡ Ok e → (d : Draft) × (r ≡ Ok d) × (more d ≡ Ok e)
then_parts (Err reason) n more e h = absurd cc
then_parts (Ok d) n more e h = (d, refl, h)

pub record Lined (e : Draft) (said : List (List Word)) (texts : List (List ℕ)) : Type 0 where
  pub plain : list_all is_plain texts ≡ true
  pub drafted : Drafted e (said ++ content texts)

pub lines-drafted : (d e : Draft) (said : List (List Word)) (n : ℕ) (texts : List (List ℕ)) → Drafted d said → read_lines d n texts ≡ Ok e → Lined e said texts
lines-drafted d e said n [] h r =
    let same : d ≡ e = cc in
    record { plain = refl; drafted = subst (λ (x : List (List Word)). Drafted e x) (sym (append-nil said)) (subst (λ (x : Draft). Drafted x said) same h) }
lines-drafted d e said n (text ∷ texts) h r =
    let p = then_parts (accept_text d text) n (λ f. read_lines f (n + 1) texts) e r in
    let t = text-drafted d p.0 said text h p.1 in
    let more = lines-drafted p.0 e (said ++ said_by (words_of text)) (n + 1) texts t.1 p.2 in
    record {
      plain = rw t.0 more.plain;
      drafted = subst (λ (x : List (List Word)). Drafted e x) (append_assoc said (said_by (words_of text)) (content texts) ∙ ap (λ (x : List (List Word)). said ++ x) (sym (with_more (words_of text) (map words_of texts)))) more.drafted;
    }

-- ALL LINES

first-drafted : (v : ℕ) (ws : List Word) → ws ≡ spelled (line.Kernel (exactly v)) → 1 ≤ v → v ≤ 2 → Drafted (opened v) (said_by ws)
unfolding IsDistinct
first-drafted v ws e low high = record {
  within = within_opened v low high;
  ages = [];
  splits = [];
  laid = record { first = λ _. (refl, refl, refl); apart = tt; each = tt; versions = refl; joined = refl; some = tt };
  same = ap said_by (sym e);
}

from_parts : (o : Option ℕ) (n : ℕ) (more : Draft → Result Draft BadLine) (e : Draft) → from_version o n more ≡ Ok e → (v : ℕ) × (o ≡ Some v) × (more (opened v) ≡ Ok e)
from_parts None n more e h = absurd cc
from_parts (Some v) n more e h = (v, refl, h)

pub from-drafted : (n : ℕ) (texts : List (List ℕ)) (e : Draft) → read_from n texts ≡ Ok e → Lined e [] texts
from-drafted n [] e h = absurd cc
from-drafted n (text ∷ texts) e h = elim (cases_Bool (has_words text)) [
  | inl t ↦
      let got : from_version (first_version text) n (λ d. read_lines d (n + 1) texts) ≡ Ok e = sym (rw t refl) ∙ h in
      let p = from_parts (first_version text) n (λ d. read_lines d (n + 1) texts) e got in
      let f = first-read text p.0 p.1 in
      let more = lines-drafted (opened p.0) e (said_by (words_of text)) (n + 1) texts (first-drafted p.0 (words_of text) f.1 f.2 f.3) p.2 in
      record { plain = rw f.0 more.plain; drafted = subst (λ (x : List (List Word)). Drafted e x) (sym (with_more (words_of text) (map words_of texts))) more.drafted }
  | inr f ↦
      let got : cond (is_plain text) (read_from (n + 1) texts) (Err (record { line = n; why = why.Word })) ≡ Ok e = sym (rw f refl) ∙ h in
      elim (cases_Bool (is_plain text)) [
        | inr q ↦ let no : ◌≡◌ {A = Result Draft BadLine} (Err (record { line = n; why = why.Word })) (Ok e) = sym (rw q refl) ∙ got in absurd cc
        | inl q ↦
            let rest : read_from (n + 1) texts ≡ Ok e = sym (rw q refl) ∙ got in
            let more = from-drafted (n + 1) texts e rest in
            let none : said_by (words_of text) ≡ [] = ap said_by (no-words text q f) in
            record { plain = rw q more.plain; drafted = subst (λ (x : List (List Word)). Drafted e x) (sym (with_more (words_of text) (map words_of texts) ∙ ap (λ (x : List (List Word)). x ++ content texts) none)) more.drafted }
      ]
]

at_end_parts : (r : Result Draft BadLine) (n : ℕ) (s : Script) → at_end r n ≡ Ok s → (d : Draft) × (r ≡ Ok d) × (finished d ≡ Ok s)
at_end_parts (Err bad) n s h = absurd cc
at_end_parts (Ok d) n s h = (d, refl, go (finished d) refl h)
  where
    go : (f : Result Script Why) → finished d ≡ f → end_at f n ≡ Ok s → finished d ≡ Ok s
    go (Err reason) e g = absurd cc
    go (Ok t) e g = let same : t ≡ s = cc in e ∙ ap Ok same

-- what was read is within the limits
pub read_within : (bytes : List ℕ) (d : Draft) (s : Script) → read_from 1 (lines_of bytes) ≡ Ok d → finished d ≡ Ok s → IsScript s
read_within bytes d s h f = let l = from-drafted 1 (lines_of bytes) d h in finished-within d s l.drafted.within f

pub read_to : (bytes : List ℕ) (r : Result Draft BadLine) (d : Draft) → read_from 1 (lines_of bytes) ≡ r → r ≡ Ok d → (s : Script) → finished d ≡ Ok s → IsScript s
read_to bytes r d h i s f = read_within bytes d s (h ∙ i) f

-- THE LAYOUT of a draft that is whole

said_carriers : Option ℕ → Bool
said_carriers None = false
said_carriers (Some n) = true

script_with : (v n c : ℕ) (s : Bool) (aged : List ℕ) (ps : List Program) (ts : List ThreadLine) (events : List AtLine) (turns : List Item) → Script
script_with v n c s aged ps ts events turns = record { version = v; table = n; carriers = c; show_steps = s; aged = aged; programs = ps; threads = ts; at_lines = events; turns = turns }

layout-parts : (v n : ℕ) (c : Option ℕ) (s : Bool) (aged : List ℕ) (ages : List Age) (ps : List Program) (ts : List ThreadLine) (events : List AtLine) (turns : List Item) (splits : List (List Item)) → parts v (Some n) c s ages ps None ts events ≡ layout_lines (script_with v n (unwrap_or c 1) s aged ps ts events turns) (record { carriers = said_carriers c; ages = ages; turns = splits })
unfolding said_carriers script_with
layout-parts v n None s aged ages ps ts events turns splits =
    let front : List Line = line.Kernel (exactly v) ∷ line.Table (exactly n) ∷ show_lines s ++ map aged_line ages ++ flat_map (program_lines ps) ps in
    ap (λ (x : List Line). x ++ map (thread_line ps) ts ++ map at_line events) (append-nil front)
layout-parts v n (Some c) s aged ages ps ts events turns splits =
    let front : List Line = line.Kernel (exactly v) ∷ line.Table (exactly n) ∷ line.Carriers (exactly c) ∷ show_lines s ++ map aged_line ages ++ flat_map (program_lines ps) ps in
    ap (λ (x : List Line). x ++ map (thread_line ps) ts ++ map at_line events) (append-nil front)

take_set : {X : Type 0} (n : ℕ) (xs : List X) (i : ℕ) (a : X) → take n (slice_set xs i a) ≡ slice_set (take n xs) i a
take_set zero xs i a = refl
take_set (suc n) [] i a = refl
take_set (suc n) (x ∷ xs) zero a = refl
take_set {X = X} (suc n) (x ∷ xs) (suc i) a = ap (λ (y : List X). x ∷ y) (take_set n xs i a)

pub aged_take : (ages : List Age) (versions : List ℕ) (n : ℕ) → take n (aged_by ages versions) ≡ aged_by ages (take n versions)
aged_take [] versions n = refl
aged_take (a ∷ ages) versions n = aged_take ages (slice_set versions a.number a.version) n ∙ ap (aged_by ages) (take_set n versions a.number a.version)

pub zeros_take : (n k : ℕ) → n ≤ k → take n (replicate {A = ℕ} k 0) ≡ replicate n 0
zeros_take zero k h = refl
zeros_take (suc n) zero h = absurd (omega (arith, h))
zeros_take (suc n) (suc k) h = ap (λ (y : List ℕ). 0 ∷ y) (zeros_take n k (omega (arith, h)))

whole-layout : (d : Draft) (ages : List Age) (splits : List (List Item)) (n : ℕ) → n ≤ 64 → d.table ≡ Some n → IsLaid d ages splits → IsLayout (script_of d) (record { carriers = said_carriers d.carriers; ages = ages; turns = splits })
unfolding said_carriers
whole-layout d ages splits n small t i = record {
  carriers = λ e. unsaid d.carriers e;
  apart = i.apart;
  ages = i.each;
  aged = ap (take (table_of d)) i.versions ∙ aged_take ages (replicate 64 0) (table_of d) ∙ ap (aged_by ages) (zeros_take (table_of d) 64 (rw t small));
  turns = i.joined;
  some = i.some;
}
  where
    unsaid : (c : Option ℕ) → said_carriers c ≡ false → unwrap_or c 1 ≡ 1
    unsaid None e = refl
    unsaid (Some k) e = absurd (false≢true (sym e))

whole-words : (d : Draft) (ages : List Age) (splits : List (List Item)) (n : ℕ) → d.table ≡ Some n → d.open_program ≡ None → draft_words d ages splits ≡ layout_words (script_of d) (record { carriers = said_carriers d.carriers; ages = ages; turns = splits })
unfolding script_with
whole-words d ages splits n t o = ap (λ (x : List Line). map spelled x ++ map turns_line splits)
    (ap (λ (x : Option ℕ). parts d.version x d.carriers d.show_steps ages d.programs d.open_program d.threads d.at_lines) t
    ∙ ap (λ (x : Option Program). parts d.version (Some n) d.carriers d.show_steps ages d.programs x d.threads d.at_lines) o
    ∙ layout-parts d.version n d.carriers d.show_steps (take (table_of d) d.aged) ages d.programs d.threads d.at_lines d.turns splits
    ∙ ap (λ (x : Option ℕ). layout_lines (script_with d.version (unwrap_or x 0) (carriers_of d) d.show_steps (take (table_of d) d.aged) d.programs d.threads d.at_lines d.turns) (record { carriers = said_carriers d.carriers; ages = ages; turns = splits })) (sym t))

finished-text : (bytes : List ℕ) (d : Draft) (s : Script) → Lined d [] (lines_of bytes) → finished d ≡ Ok s → IsText bytes s
finished-text bytes d s l f =
    let t = finished-told d s f in
    let n = some_of d.table t.1 in
    let h = l.drafted in
    let small = table_small d h.within in
    subst (IsText bytes) t.3 (record {
      within = subst IsScript (sym t.3) (finished-within d s h.within f);
      spells = record {
        layout = record { carriers = said_carriers d.carriers; ages = h.ages; turns = h.splits };
        fits = whole-layout d h.ages h.splits n.0 (subst (λ (x : Option ℕ). unwrap_or x 0 ≤ 64) n.1 small) n.1 h.laid;
        said = sym (sym (whole-words d h.ages h.splits n.0 n.1 t.0) ∙ h.same);
        plain = l.plain;
      };
    })

pub script-read : (bytes : List ℕ) (s : Script) → read_of bytes ≡ Ok s → IsText bytes s
unfolding read_of
script-read bytes s h =
    let p = at_end_parts (read_from 1 (lines_of bytes)) (length (lines_of bytes) + 1) s h in
    finished-text bytes p.0 s (from-drafted 1 (lines_of bytes) p.0 p.1) p.2
