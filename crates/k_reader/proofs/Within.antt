-- What is read is within the limits.
use Rattle.std.proofs.Common.{◌≡◌, ℕ, zero, suc, ◌+◌, ◌-◌, ◌<◌, ◌≤◌, true, false, eqb, List, [], ◌∷◌, ◌++◌, length, map, replicate, refl, sym, ap, ◌∙◌, subst, arith, Option, Some, None, inl, inr, is_some}
use Rattle.std.specs.Prelude.{slice_set, slice_get, slice_index}
use Rattle.std.specs.List.{AllByRecursion, IsDistinct, sum_by}
use Rattle.std.specs.Option.{option_to_list, IfSome}
use Rattle.std.specs.Str.{bytes_eq}
use Rattle.std.proofs.lemmas.Bool.{cases_lt, false≢true}
use Rattle.std.proofs.lemmas.List.{append-nil, map_push, length_push, length-append, length-set, length-replicate}
use Rattle.std.proofs.lemmas.Grind.{flat_map-append}
use Rattle.k_lists.proofs.Positions.{absent_passes}
use Rattle.k_lists.proofs.Distinct.{distinct_push}
use Rattle.k_lists.proofs.All.{all_append, all_set, all_map, all_push}
use Rattle.k_script.specs.declared.lines.ThreadLine.{ThreadLine}
use Rattle.k_script.specs.declared.lines.AtLine.{AtLine}
use Rattle.k_script.specs.declared.lines.Item.{Item}
use Rattle.k_script.specs.declared.operation.Operation.{Operation}
use Rattle.k_script.specs.Script.{Program}
use Rattle.k_script.specs.Limits.{is_name, depth_behind, IsOperation, IsProgram, IsThread, IsAtLine, IsRising, started, started_by, IsAtLines, IsItem, steps_of, IsTurns}
use Rattle.k_reader.specs.Draft.{Draft, opened, table_of, carriers_of, program_at}

abbrev pub names_of : List Program → List (List ℕ)
names_of ps = map (λ p. p.name) ps

-- VERSIONS of numbers, so many of which have threads

pub record Ages (aged : List ℕ) (threads : ℕ) : Type 0 where
  pub numbered : length aged ≡ 64
  pub small : AllByRecursion (λ v. v ≤ 1048575) aged
  pub fresh : (n : ℕ) → n < threads → slice_index aged n ≡ 0

-- PROGRAMS: each within the limits, given how many stand before it

abbrev pub AllPrograms : ℕ → ℕ → List Program → Type 0
AllPrograms table before [] = Unit {0}
AllPrograms table before (p ∷ ps) = IsProgram table before p × AllPrograms table (before + 1) ps

-- a program that has no end yet
pub record IsBegun (table before : ℕ) (p : Program) : Type 0 where
  pub name : is_name p.name ≡ true
  pub short : length p.operations ≤ 4096
  pub nested : is_some (depth_behind 0 p.operations) ≡ true
  pub operations : AllByRecursion (IsOperation table before) p.operations

pub record Programs (table : ℕ) (ps : List Program) (o : Option Program) : Type 0 where
  pub few : length (ps ++ option_to_list o) ≤ 255
  pub names : IsDistinct bytes_eq (names_of (ps ++ option_to_list o))
  pub all : AllPrograms table 0 ps
  pub begun : IfSome o (IsBegun table (length ps))

-- THREADS AND THE SCHEDULE

pub record Threads (table programs : ℕ) (ts : List ThreadLine) : Type 0 where
  pub few : length ts ≤ table
  pub all : AllByRecursion (IsThread programs) ts

pub record Schedule (carriers threads : ℕ) (events : List AtLine) (items : List Item) : Type 0 where
  pub at_lines : IsAtLines carriers threads events
  pub turns : IsTurns carriers items

-- no line of a later kind
pub record Nothing (lines : List ThreadLine) (events : List AtLine) (items : List Item) : Type 0 where
  pub threads : lines ≡ []
  pub at_lines : events ≡ []
  pub turns : items ≡ []

abbrev pub Bare : Draft → Type 0
Bare d = Nothing d.threads d.at_lines d.turns

pub record IsWithin (d : Draft) : Type 0 where
  pub version : (1 ≤ d.version) × (d.version ≤ 2)
  pub table : IfSome d.table (λ n. (1 ≤ n) × (n ≤ 64))
  pub carriers : IfSome d.carriers (λ n. (1 ≤ n) × (n ≤ 8))
  pub ages : Ages d.aged (length d.threads)
  pub programs : Programs (table_of d) d.programs d.open_program
  pub threads : Threads (table_of d) (length d.programs) d.threads
  pub schedule : Schedule (carriers_of d) (length d.threads) d.at_lines d.turns
  pub first : d.table ≡ None → (d.programs ≡ []) × (d.open_program ≡ None) × Bare d
  pub last : is_some d.open_program ≡ true → Bare d

-- WHERE NOTHING IS YET

pub programs_none : (table : ℕ) → Programs table [] None
unfolding IsDistinct
programs_none table = record { few = omega arith; names = tt; all = tt; begun = tt }

pub threads_none : (table programs : ℕ) → Threads table programs []
threads_none table programs = record { few = omega arith; all = tt }

pub schedule_none : (carriers threads : ℕ) → Schedule carriers threads [] []
unfolding IsDistinct
schedule_none carriers threads = record {
  at_lines = record { few = omega arith; events = tt; rising = tt; once = tt };
  turns = record { few = omega arith; items = tt; bounded = omega arith; several = λ h. absurd (omega (arith, h)) };
}

pub programs_empty : (table : ℕ) (ps : List Program) (o : Option Program) → ps ≡ [] → o ≡ None → Programs table ps o
programs_empty table ps o a b = rw (a, b) (programs_none table)

pub threads_empty : (table programs : ℕ) (ts : List ThreadLine) → ts ≡ [] → Threads table programs ts
threads_empty table programs ts a = rw a (threads_none table programs)

pub schedule_empty : (carriers threads : ℕ) (events : List AtLine) (items : List Item) → events ≡ [] → items ≡ [] → Schedule carriers threads events items
schedule_empty carriers threads events items a b = rw (a, b) (schedule_none carriers threads)

zeros_small : (n : ℕ) → AllByRecursion (λ v. v ≤ 1048575) (replicate n 0)
zeros_small zero = tt
zeros_small (suc n) = (omega arith, zeros_small n)

pub within_opened : (version : ℕ) → 1 ≤ version → version ≤ 2 → IsWithin (opened version)
within_opened version low high = record {
  version = (low, high);
  table = tt;
  carriers = tt;
  ages = record { numbered = length-replicate {A = ℕ} 64 0; small = zeros_small 64; fresh = λ n h. absurd (omega (arith, h)) };
  programs = programs_none 0;
  threads = threads_none 0 0;
  schedule = schedule_none 1 0;
  first = λ _. (refl, refl, record { threads = refl; at_lines = refl; turns = refl });
  last = λ h. absurd (false≢true h);
}

-- ONE MORE OF EACH

pub ages_set : (aged : List ℕ) (number version : ℕ) → Ages aged 0 → version ≤ 1048575 → Ages (slice_set aged number version) 0
ages_set aged number version a h = record {
  numbered = length-set aged number version ∙ a.numbered;
  small = all_set (λ v. v ≤ 1048575) aged number version a.small h;
  fresh = λ n l. absurd (omega (arith, l));
}

pub ages_set_first : (aged : List ℕ) (ts : List ThreadLine) (number version : ℕ) → ts ≡ [] → Ages aged (length ts) → version ≤ 1048575 → Ages (slice_set aged number version) (length ts)
ages_set_first aged ts number version e a h =
    let none : Ages aged 0 = subst (λ (us : List ThreadLine). Ages aged (length us)) e a in
    subst (λ (us : List ThreadLine). Ages (slice_set aged number version) (length us)) (sym e) (ages_set aged number version none h)

pub ages_more : (aged : List ℕ) (threads more : ℕ) → more ≡ threads + 1 → Ages aged threads → slice_index aged threads ≡ 0 → Ages aged more
ages_more aged threads more e a h = record {
  numbered = a.numbered;
  small = a.small;
  fresh = λ n l. elim (cases_lt n threads) [
    | inl b ↦ a.fresh n b
    | inr b ↦ let same : n ≡ threads = omega (arith, l, b, e) in ap (λ (k : ℕ). slice_index aged k) same ∙ h
  ];
}

pub all_programs_push : (table before count : ℕ) (ps : List Program) (p : Program) → before + length ps ≡ count → AllPrograms table before ps → IsProgram table count p → AllPrograms table before (ps ++ p ∷ [])
all_programs_push table before count [] p e h i = let same : count ≡ before = omega (arith, e) in (subst (λ (k : ℕ). IsProgram table k p) same i, tt)
all_programs_push table before count (q ∷ ps) p e h i = (h.0, all_programs_push table (before + 1) count ps p (omega (arith, e)) h.1 i)

pub program_begun : (table : ℕ) (ps : List Program) (name : List ℕ) → Programs table ps None → length ps < 255 → program_at name ps ≡ None → is_name name ≡ true → Programs table ps (Some (record { name = name; operations = [] }))
program_begun table ps name h few free good =
    let p : Program = record { name = name; operations = [] } in
    record {
      few = omega (arith, few, length_push ps p);
      names = subst (IsDistinct bytes_eq) (sym (map_push (λ p. p.name) ps p)) (distinct_push bytes_eq (names_of ps) name (subst (λ (qs : List Program). IsDistinct bytes_eq (names_of qs)) (append-nil ps) h.names) (all_map (λ n. bytes_eq n name ≡ false) (λ p. p.name) ps (absent_passes (λ p. bytes_eq p.name name) ps free)));
      all = h.all;
      begun = record { name = good; short = omega arith; nested = refl; operations = tt };
    }

abbrev pub with_one : Program → Operation → Program
with_one p o = record p { operations = p.operations ++ o ∷ [] }

pub program_more : (table : ℕ) (ps : List Program) (p : Program) (o : Operation) → Programs table ps (Some p) → length p.operations < 4096 → is_some (depth_behind 0 (p.operations ++ o ∷ [])) ≡ true → IsOperation table (length ps) o → Programs table ps (Some (with_one p o))
program_more table ps p o h short nested fits =
    let few = h.few in
    record {
      few = omega (arith, length_push ps p, length_push ps (with_one p o), few);
      names = subst (IsDistinct bytes_eq) (map_push (λ p. p.name) ps p ∙ sym (map_push (λ p. p.name) ps (with_one p o))) h.names;
      all = h.all;
      begun = record { name = h.begun.name; short = omega (arith, short, length_push p.operations o); nested = nested; operations = all_push (IsOperation table (length ps)) p.operations o h.begun.operations fits };
    }

pub program_closed : (table : ℕ) (ps : List Program) (p : Program) → Programs table ps (Some p) → depth_behind 0 p.operations ≡ Some 0 → Programs table (ps ++ p ∷ []) None
program_closed table ps p h nested = record {
  few = subst (λ (qs : List Program). length qs ≤ 255) (sym (append-nil (ps ++ p ∷ []))) h.few;
  names = subst (λ (qs : List Program). IsDistinct bytes_eq (names_of qs)) (sym (append-nil (ps ++ p ∷ []))) h.names;
  all = all_programs_push table 0 (length ps) ps p (omega arith) h.all (record { name = h.begun.name; short = h.begun.short; nested = nested; operations = h.begun.operations });
  begun = tt;
}

pub threads_more : (table programs : ℕ) (ts : List ThreadLine) (t : ThreadLine) → Threads table programs ts → length ts < table → IsThread programs t → Threads table programs (ts ++ t ∷ [])
threads_more table programs ts t h room i = record { few = omega (arith, room, length_push ts t); all = all_push (IsThread programs) ts t h.all i }

-- the last of the lines isn't later
pub rising_push : (ls : List AtLine) (a : AtLine) → IsRising ls → IfSome (slice_get ls (length ls - 1)) (λ b. b.step ≤ a.step) → IsRising (ls ++ a ∷ [])
rising_push [] a h l = tt
rising_push (b ∷ []) a h l = (l, tt)
rising_push (b ∷ c ∷ ls) a h l = (h.0, rising_push (c ∷ ls) a h.1 (last_behind (slice_get (b ∷ c ∷ ls) (length (b ∷ c ∷ ls) - 1)) (slice_get (c ∷ ls) (length (c ∷ ls) - 1)) (behind b c ls) l))
  where
    last_behind : (x y : Option AtLine) → x ≡ y → IfSome x (λ d. d.step ≤ a.step) → IfSome y (λ d. d.step ≤ a.step)
    last_behind x y e i = subst (λ (z : Option AtLine). IfSome z (λ d. d.step ≤ a.step)) e i

    behind : (b c : AtLine) (ls : List AtLine) → slice_get (b ∷ c ∷ ls) (length (b ∷ c ∷ ls) - 1) ≡ slice_get (c ∷ ls) (length (c ∷ ls) - 1)
    behind b c ls = let e : length (b ∷ c ∷ ls) - 1 ≡ suc (length (c ∷ ls) - 1) = omega arith in ap (slice_get (b ∷ c ∷ ls)) e

started_push : (ls : List AtLine) (a : AtLine) → started (ls ++ a ∷ []) ≡ started ls ++ started_by a.what
started_push ls a = flat_map-append (λ a. started_by a.what) ls (a ∷ []) ∙ ap (λ (x : List ℕ). started ls ++ x) (append-nil (started_by a.what))

pub event_more : (carriers threads : ℕ) (ls : List AtLine) (turns : List Item) (a : AtLine) → Schedule carriers threads ls turns → length ls < 10000 → IsAtLine carriers threads a → IfSome (slice_get ls (length ls - 1)) (λ b. b.step ≤ a.step) → IsDistinct (λ a b. eqb a b) (started ls ++ started_by a.what) → Schedule carriers threads (ls ++ a ∷ []) turns
event_more carriers threads ls turns a h room fits late once = record {
  at_lines = record {
    few = omega (arith, room, length_push ls a);
    events = all_push (IsAtLine carriers threads) ls a h.at_lines.events fits;
    rising = rising_push ls a h.at_lines.rising late;
    once = subst (IsDistinct (λ a b. eqb a b)) (sym (started_push ls a)) once;
  };
  turns = h.turns;
}

pub turns_more : (carriers threads : ℕ) (ls : List AtLine) (turns more : List Item) → Schedule carriers threads ls turns → AllByRecursion (IsItem carriers) more → length turns + length more ≤ 10000 → sum_by steps_of (turns ++ more) ≤ 1000000 → 2 ≤ carriers → Schedule carriers threads ls (turns ++ more)
turns_more carriers threads ls turns more h all few bounded several = record {
  at_lines = h.at_lines;
  turns = record {
    few = omega (arith, few, length-append turns more);
    items = all_append (IsItem carriers) turns more h.turns.items all;
    bounded = bounded;
    several = λ _. several;
  };
}
