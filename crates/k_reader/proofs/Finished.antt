-- A draft to which nothing is missing is a script within the limits.
use Rattle.std.proofs.Common.{◌≡◌, ℕ, zero, suc, ◌+◌, ◌<◌, ◌≤◌, Bool, false, eqb, ◌||◌, List, [], ◌∷◌, length, take, refl, sym, ap, ◌∙◌, subst, arith, Option, Some, None, Ok, unwrap_or, is_some, is_none}
use Rattle.std.specs.Prelude.{◌==◌}
use Rattle.std.specs.List.{IsDistinct}
use Rattle.std.specs.Option.{IfSome}
use Rattle.std.specs.Str.{bytes_eq}
use Rattle.std.proofs.lemmas.Bool.{or_parts, false≢true}
use Rattle.std.proofs.lemmas.List.{append-nil, length-take-le, get_or-take}
use Rattle.k_lists.proofs.All.{all_take}
use Rattle.k_script.specs.Script.{Program, Script, program_in}
use Rattle.k_script.specs.Limits.{IsProgram, IsScript}
use Rattle.k_reader.specs.declared.fault.Why.TheVariants as why
use Rattle.k_reader.specs.Draft.{Draft, table_of, carriers_of, script_of, is_nil}
use Rattle.k_reader.specs.Reading.{bad_if, finished}
use Rattle.k_reader.proofs.Chains.{ok_bad_if}
use Rattle.k_reader.proofs.Resolved.{ok_same}
use Rattle.k_reader.proofs.Within.{AllPrograms, Programs, IsWithin, names_of}
use Rattle.k_reader.proofs.Kept.{none_of}

pub finished-told : (d : Draft) (s : Script) → finished d ≡ Ok s → (d.open_program ≡ None) × (is_none d.table ≡ false) × (is_nil d.threads ≡ false) × (script_of d ≡ s)
unfolding finished
finished-told d s h =
    let b = ok_bad_if (is_some d.open_program) why.Nest (bad_if (is_none d.table || is_nil d.threads) why.Order (Ok (script_of d))) s h in
    let c = ok_bad_if (is_none d.table || is_nil d.threads) why.Order (Ok (script_of d)) s b.1 in
    let p = or_parts (is_none d.table) (is_nil d.threads) c.0 in
    (none_of d.open_program b.0, p.0, p.1, ok_same (script_of d) s c.1)

program_at_place : (table before : ℕ) (ps : List Program) (k : ℕ) → AllPrograms table before ps → k < length ps → IsProgram table (before + k) (program_in ps k)
program_at_place table before [] k h l = absurd (omega (arith, l))
program_at_place table before (p ∷ ps) zero h l = let e : before ≡ before + 0 = omega arith in subst (λ (b : ℕ). IsProgram table b p) e h.0
program_at_place table before (p ∷ ps) (suc k) h l = let e : before + 1 + k ≡ before + suc k = omega arith in subst (λ (b : ℕ). IsProgram table b (program_in ps k)) e (program_at_place table (before + 1) ps k h.1 (omega (arith, l)))

some_lines : {X : Type 0} (xs : List X) → is_nil xs ≡ false → 1 ≤ length xs
some_lines [] h = absurd (false≢true (sym h))
some_lines (x ∷ xs) h = omega arith

carriers_few : (o : Option ℕ) → IfSome o (λ n. (1 ≤ n) × (n ≤ 8)) → (1 ≤ unwrap_or o 1) × (unwrap_or o 1 ≤ 8)
carriers_few None h = (omega arith, omega arith)
carriers_few (Some n) h = h

table_few : (o : Option ℕ) → is_none o ≡ false → IfSome o (λ n. (1 ≤ n) × (n ≤ 64)) → (1 ≤ unwrap_or o 0) × (unwrap_or o 0 ≤ 64)
table_few None n h = absurd (false≢true (sym n))
table_few (Some k) n h = h

pub finished-within : (d : Draft) (s : Script) → IsWithin d → finished d ≡ Ok s → IsScript s
finished-within d s w h =
    let t = finished-told d s h in
    let table = table_few d.table t.1 w.table in
    let few = w.threads.few in
    let small = table.1 in
    let numbered = w.ages.numbered in
    let none : Programs (table_of d) d.programs None = subst (Programs (table_of d) d.programs) t.0 w.programs in
    subst IsScript t.3 (record {
      version = w.version;
      table = table;
      carriers = carriers_few d.carriers w.carriers;
      numbered = length-take-le (table_of d) d.aged (omega (arith, small, numbered));
      aged = all_take (λ v. v ≤ 1048575) (table_of d) d.aged w.ages.small;
      fresh = λ n l. get_or-take (table_of d) d.aged n 0 (omega (arith, l, few)) ∙ w.ages.fresh n l;
      few = subst (λ (ps : List Program). length ps ≤ 255) (append-nil d.programs) none.few;
      names = subst (λ (ps : List Program). IsDistinct bytes_eq (names_of ps)) (append-nil d.programs) none.names;
      programs = λ k l. let e : 0 + k ≡ k = omega arith in subst (λ (b : ℕ). IsProgram (table_of d) b (program_in d.programs k)) e (program_at_place (table_of d) 0 d.programs k none.all l);
      lines = (some_lines d.threads t.2, few);
      threads = w.threads.all;
      at_lines = w.schedule.at_lines;
      turns = w.schedule.turns;
    })

finished-is : (d : Draft) (t : ℕ) → is_some d.open_program ≡ false → d.table ≡ Some t → is_nil d.threads ≡ false → finished d ≡ Ok (script_of d)
unfolding finished
finished-is d t o e n = rw o (rw n (has_table d.table e))
  where
    has_table : (x : Option ℕ) → x ≡ Some t → bad_if (is_none x || false) why.Order (Ok (script_of d)) ≡ Ok (script_of d)
    has_table None q = absurd cc
    has_table (Some k) q = refl

-- the parts of a draft to which nothing is missing
pub finish_fits : (i d : Draft) (t carriers : ℕ) → i ≡ d → ((s : Script) → finished d ≡ Ok s → IsScript s) → is_some i.open_program ≡ false → i.table ≡ Some t → is_nil i.threads ≡ false → carriers ≡ carriers_of d → IsScript (record { version = i.version; table = t; carriers = carriers; show_steps = i.show_steps; aged = take t i.aged; programs = i.programs; threads = i.threads; at_lines = i.at_lines; turns = i.turns })
finish_fits i d t carriers same fits o e n c =
    let whole : IsScript (script_of i) = fits (script_of i) (ap finished (sym same) ∙ finished-is i t o e n) in
    let size : unwrap_or i.table 0 ≡ t = ap (λ (x : Option ℕ). unwrap_or x 0) e in
    let count : carriers_of i ≡ carriers = ap carriers_of same ∙ sym c in
    subst (λ (k : ℕ). IsScript (record { version = i.version; table = t; carriers = k; show_steps = i.show_steps; aged = take t i.aged; programs = i.programs; threads = i.threads; at_lines = i.at_lines; turns = i.turns })) count
    (subst (λ (k : ℕ). IsScript (record { version = i.version; table = k; carriers = carriers_of i; show_steps = i.show_steps; aged = take k i.aged; programs = i.programs; threads = i.threads; at_lines = i.at_lines; turns = i.turns })) size whole)

pub some_threads : {X : Type 0} (xs : List X) (n : ℕ) (b : Bool) → length xs ≡ n → b ≡ (n == 0) → b ≡ false → is_nil xs ≡ false
some_threads [] n b l e f = let no : eqb 0 0 ≡ eqb n 0 = ap (λ (k : ℕ). eqb k 0) l in absurd (false≢true (sym f ∙ e ∙ sym no))
some_threads (x ∷ xs) n b l e f = refl
