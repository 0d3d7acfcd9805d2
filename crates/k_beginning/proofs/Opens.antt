-- The board on which the kernel begins to run a script is an opening of the good world: its threads, and the carriers' own
-- contexts.
use Rattle.std.proofs.Common.{◌≡◌, ℕ, zero, suc, ◌+◌, ◌<◌, ◌≤◌, ◌==◌, Bool, true, false, length, map, refl}
use Rattle.std.proofs.Common.{sym, ap, ◌∙◌, subst, [], ◌∷◌, ◌++◌, arith, ◌⊎◌, inl, inr}
use Rattle.std.specs.Prelude.{◌&&◌, if◌then◌else◌, not, slice_index_or}
use Rattle.std.specs.List.{filter, range_with_len}
use Rattle.std.proofs.lemmas.Bool.{cases_Bool, cases_lt, le-ltb, lt-ltb, ne_eqb}
use Rattle.std.proofs.lemmas.List.{get_or_past, length-map, map-append}
use Rattle.std.proofs.lemmas.List.Elements.{filter-append}
use Rattle.std.proofs.lemmas.List.FromFn.{get_or-map-range_with_len, length-range_with_len}
use Rattle.k_lists.proofs.All.{all_at}
use Rattle.k_ids.specs.declared.state_word.StateWord.{StateWord}
use Rattle.k_locks.specs.Shown.{is_dead}
use Rattle.k_ready.specs.Lists.{list_of}
use Rattle.k_script.specs.Limits.{IsScript, IsThread}
use Rattle.k_script.specs.Script.{Script}
use Rattle.k_switch.specs.Switches.{first_of_number}
use Rattle.k_world.specs.Boot.{boot_ready, boot_state, has_start, has_thread, is_carriers, is_ready}
use Rattle.k_world.specs.Boot.{thread_line}
use Rattle.k_world.specs.Boot as first
use Rattle.k_board.specs.Boards.{Board, Nowhere, Resting}
use Rattle.k_board.specs.Boots.{Booted, IsThreadAt, has_carrier, has_none}
use Rattle.k_board.specs.Boots as boots
use Rattle.k_plays.specs.Scripts.{ranged_programs}
use Rattle.k_invariant.specs.Invariant.{IsOpeningBoard}
use Rattle.k_places.specs.Boots.{boot_at, boot_board}
use Rattle.k_tokens.specs.Maps.{id_at}
use Rattle.k_switching.specs.Boot.{Opening, boot_list}
use Rattle.k_stages.specs.Opening.{IsOpening}
use Rattle.k_kernel.proofs.Starts.{boot_opens}
use Rattle.k_whole.specs.Whole.{IsBeginning}

range_more : (a n : ℕ) → range_with_len a (suc n) ≡ range_with_len a n ++ (a + n) ∷ []
range_more a zero = ap (λ m. m ∷ []) (omega arith)
range_more a (suc n) = ap (λ xs. a ∷ xs) (range_more (a + 1) n ∙ ap (λ m. range_with_len (a + 1) n ++ m ∷ []) (omega arith))

pub and_false : (t : Bool) → (t && false) ≡ false
and_false true = refl
and_false false = refl

-- what the good world begins with
abbrev pub opening_of : Script → ℕ → Opening
opening_of script carriers = record {
  threads = length script.threads;
  carriers = carriers;
  priority = λ n. (thread_line script n).priority;
  late = has_start script;
  aged = λ n. slice_index_or script.aged n 0;
}

module _ (script : Script) (carriers : ℕ) (limits : IsScript script) (few : carriers ≤ 8) where
  abbrev B : Board
  B = boot_board script carriers

  abbrev O : Opening
  O = opening_of script carriers

  opens : IsOpeningBoard script B
  opens = boot_opens script carriers limits few

  there : (n : ℕ) → n < length script.threads → has_thread script n ≡ true
  there n l = lt-ltb n (length script.threads) l

  away : (n : ℕ) → length script.threads ≤ n → has_thread script n ≡ false
  away n l = le-ltb n (length script.threads) l

  pub low : (n : ℕ) → (thread_line script n).priority < 64
  low n = elim (cases_lt n (length script.threads)) [
    | inl l ↦
        let p = (all_at (IsThread (length script.programs)) script.threads n (record { priority = 0; program = 0 }) limits.threads
        l).priority in omega (arith, p)
    | inr l ↦
        subst (λ t. t.priority < 64) (sym (get_or_past script.threads n (record { priority = 0; program = 0 }) l)) (omega arith)
  ]

  thread : (n : ℕ) → n < length script.threads →
      (program : ℕ) × IsThreadAt (ranged_programs script) B n program (thread_line script n).priority
  thread n l = by (opens.first.booted n)
    where
      alive : is_dead (boot_state script n) ≡ false
      alive = rw (there n l) refl

      priority : (boot_state script n).priority ≡ (thread_line script n).priority
      priority = rw (there n l) refl

      by : Booted (ranged_programs script) B n →
          (program : ℕ) × IsThreadAt (ranged_programs script) B n program (thread_line script n).priority
      by (boots.has_thread program p t) = (
        program,
        subst (IsThreadAt (ranged_programs script) B n program) (sym (ap (λ (x : StateWord). x.priority) t.word)
            ∙ priority) t,
      )
      by (has_none dead at) = absurd (let z : true ≡ false = sym dead ∙ alive in cc)
      by (has_carrier dead at) = absurd (let z : true ≡ false = sym dead ∙ alive in cc)

  nobody : (n : ℕ) → length script.threads ≤ n → (boot_at script carriers n ≡ Nowhere) ⊎ (boot_at script carriers n ≡ Resting)
  nobody n l = elim (cases_Bool (is_carriers script carriers n)) [
    | inl e ↦ inr (rw (away n l) (rw e refl))
    | inr e ↦ inl (rw (away n l) (rw e refl))
  ]

  -- READY LISTS

  one_more : (p n : ℕ) → map first_of_number (filter (is_ready script p) (n ∷ [])) ≡
      (if not (has_start script n) && ((thread_line script n).priority == p) then id_at n 1 ∷ [] else [])
  one_more p n = by (is_ready script p n) refl
    where
      by : (t : Bool) → is_ready script p n ≡ t → map first_of_number (filter (is_ready script p) (n ∷ [])) ≡
          (if is_ready script p n then id_at n 1 ∷ [] else [])
      by true e = rw e refl
      by false e = rw e refl

  list_is : (p n : ℕ) → map first_of_number (filter (is_ready script p) (range_with_len 0 n)) ≡ boot_list O n p
  list_is p zero = refl
  list_is p (suc n) =
      ap (λ xs. map first_of_number (filter (is_ready script p) xs))
      (range_more 0 n ∙ ap (λ m. range_with_len 0 n ++ m ∷ []) (omega arith))
      ∙ ap (map first_of_number) (filter-append (is_ready script p) (range_with_len 0 n) (n ∷ []))
      ∙ map-append first_of_number (filter (is_ready script p) (range_with_len 0 n)) (filter (is_ready script p) (n ∷ []))
      ∙ (λ z. list_is p n z ++ one_more p n z)

  none_above : (p n : ℕ) → 64 ≤ p → boot_list O n p ≡ []
  none_above p zero l = refl
  none_above p (suc n) l =
      (λ z. none_above p n l z ++ (if not (has_start script n) && other z then id_at n 1 ∷ [] else []))
      ∙ ap (λ (t : Bool). if t then id_at n 1 ∷ [] else []) (and_false (not (has_start script n)))
    where
      other : ((thread_line script n).priority == p) ≡ false
      other = ne_eqb (thread_line script n).priority p (λ e. let h = low n in omega (arith, e, h, l))

  lists : list_of (boot_ready script).lists ≡ boot_list O (length script.threads)
  lists = λ z p. point p z
    where
      point : (p : ℕ) → list_of (boot_ready script).lists p ≡ boot_list O (length script.threads) p
      point p = elim (cases_lt p 64) [
        | inl l ↦
            get_or-map-range_with_len (first.boot_list script) 0 64 p p [] l (omega arith) ∙ list_is p (length script.threads)
        | inr l ↦
            get_or_past (boot_ready script).lists p []
            (omega (arith, l, length-map (range_with_len 0 64) (first.boot_list script), length-range_with_len 0 64))
            ∙ sym (none_above p (length script.threads) l)
      ]

  whole : length (boot_ready script).lists ≡ 64
  whole = length-map (range_with_len 0 64) (first.boot_list script) ∙ length-range_with_len 0 64

  opening : IsOpening (ranged_programs script) B O
  opening = record {
    thread = thread;
    none = λ n l. rw (away n l) refl;
    away = nobody;
    few = limits.lines.1;
    table = refl;
    ready = refl;
    lists = lists;
    whole = whole;
    running = refl;
  }

  own_rests : (d : ℕ) → d < carriers → boot_at script carriers (script.table + d) ≡ Resting
  own_rests d l =
      rw (away (script.table + d) (let t = limits.lines.1 in omega (arith, t)))
      (rw (le-ltb (script.table + d) script.table (omega arith))
      (rw (lt-ltb (script.table + d) (script.table + carriers) (omega (arith, l))) refl))

  pub beginning : IsBeginning script (boot_board script carriers) (opening_of script carriers)
  beginning = record { board = opens; world = opening; low = low; owns = own_rests }
