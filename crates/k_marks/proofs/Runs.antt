-- Along a run of turns each context has counted the marks of its call.
use Rattle.std.proofs.Common.{◌≡◌, ℕ, ◌+◌, ◌*◌, ◌≤◌, ◌<◌, Bool, true, false, List, []}
use Rattle.std.proofs.Common.{◌∷◌, refl, sym, ap, ◌∙◌, subst, arith, Option, inl, inr}
use Rattle.std.proofs.lemmas.Bool.{cases_lt}
use Rattle.std.proofs.lemmas.Bool.Decides.{nat_tests}
use Rattle.std.proofs.lemmas.List.{get_or_past}
use Rattle.k_ids.specs.declared.context_word.ContextWord.{ContextWord}
use Rattle.k_ids.specs.declared.context_word.ContextWord.TheVariants.{Clean, Empty}
use Rattle.k_ids.specs.ContextWords.{context_bits, context_word_of}
use Rattle.k_ids.proofs.ContextSpelled.{context-read}
use Rattle.k_locks.specs.declared.locks.WordName.TheVariants as word
use Rattle.k_script.specs.Script.{Script}
use Rattle.k_context.specs.Contexts.{ContextSeen}
use Rattle.k_carrier.specs.declared.marks.StepMark.{StepMark}
use Rattle.k_world.specs.Boot.{boot_context, boot_resting, booted, has_thread, is_carriers}
use Rattle.k_world.specs.Lawful.{IsLawfulMarks}
use Rattle.k_world.specs.Runs.{Turn, after_turns, run_of, turned}
use Rattle.k_world.specs.Runs as run
use Rattle.k_world.specs.Steps.{moved, parked, sliced, started}
use Rattle.k_world.specs.Worlds.{Away, World, context_at, context_by, resting_in, word_at}
use Rattle.k_world.proofs.Booted.{booted_context, booted_sized, booted_slot}
use Rattle.k_marks.specs.Booted.{boot_counting}
use Rattle.k_marks.specs.Counting.{Counting}
use Rattle.k_marks.specs.Runs.{AreInPlace, IsInPlace, IsRoomy, boot_versions, counting_in, versions_moved}
use Rattle.k_marks.specs.Brief.{IsTallied}
use Rattle.k_marks.proofs.Boot.{booted_tallied}
use Rattle.k_marks.proofs.Flags.{parked_contexts, parked_log, sliced_contexts, sliced_log, started_contexts, started_log}
use Rattle.k_marks.proofs.Moving.{log_is, move_keeps}

-- the same contexts and the same log
same_counting : (table : ℕ) (marks marks' : List StepMark) (f f' : ℕ → Option ContextSeen) (versions : ℕ → ℕ) → marks ≡ marks' →
    ((n : ℕ) → f n ≡ f' n) → IsTallied table (record { marks = marks; context = f; version = versions }) →
    IsTallied table (record { marks = marks'; context = f'; version = versions })
same_counting table marks marks' f f' versions m e h =
    subst (λ (s : Counting). IsTallied table s) (λ i. record { marks = m i; context = λ n. e n i; version = versions }) h

module _ (script : Script) (table : ℕ) where
  pub move_counts : (c : ℕ) (w : World) (versions : ℕ → ℕ) → IsInPlace script c w versions →
      IsTallied table (counting_in w versions) → IsTallied table
      (counting_in (moved script c w) (versions_moved script c w versions))
  move_counts c w versions k h =
      same_counting table _ _ _ _ (versions_moved script c w versions) (log_is script c w (counting_in w versions))
      (λ n. sym (k.contexts n)) (move_keeps script c table w (counting_in w versions) h refl k.countable)

  runs_count : (turns : List Turn) (w : World) (versions : ℕ → ℕ) → AreInPlace script turns w versions →
      IsTallied table (counting_in w versions) → IsLawfulMarks (after_turns script turns w).steps
  runs_count [] w versions k h = h.counted.lawful
  runs_count (run.Step c ∷ turns) w versions k h =
      runs_count turns (moved script c w) (versions_moved script c w versions) k.1 (move_counts c w versions k.0 h)
  runs_count (run.Start c number ∷ turns) w versions k h =
      runs_count turns (started c number w) versions k (same_counting table _ _ _ _ versions (sym (started_log c number w))
      (λ n. sym (started_contexts c number w n)) h)
  runs_count (run.Slice c ∷ turns) w versions k h =
      runs_count turns (sliced c w) versions k (same_counting table _ _ _ _ versions (sym (sliced_log c w))
      (λ n. sym (sliced_contexts c w n)) h)
  runs_count (run.Park c ∷ turns) w versions k h =
      runs_count turns (parked c w) versions k (same_counting table _ _ _ _ versions (sym (parked_log c w))
      (λ n. sym (parked_contexts c w n)) h)

-- THE WORLD IN WHICH A RUN BEGINS

module _ (script : Script) (carriers : ℕ) (roomy : IsRoomy script carriers) where
  -- a number of no thread and no carrier
  none_past : (n : ℕ) → 72 ≤ n → (has_thread script n ≡ false) × (is_carriers script carriers n ≡ false)
  none_past n l = (grind (arith, nat_tests, roomy.threads), grind (arith, nat_tests, roomy.numbers))

  empty_past : (n : ℕ) → 72 ≤ n → boot_context script carriers n ≡ Empty
  empty_past n l = rw ((none_past n l).0, (none_past n l).1) refl

  away_past : (n : ℕ) → 72 ≤ n → boot_resting script carriers n ≡ Away
  away_past n l = rw ((none_past n l).0, (none_past n l).1) refl

word_72 : (script : Script) (carriers : ℕ) → word_at (booted script carriers) (word.Context 72) ≡
    context_bits (boot_context script carriers 72)
unfolding booted
word_72 script carriers = refl

word_73 : (script : Script) (carriers : ℕ) → word_at (booted script carriers) (word.Context 73) ≡
    context_bits (boot_context script carriers 73)
unfolding booted
word_73 script carriers = refl

booted_log : (script : Script) (carriers : ℕ) → (booted script carriers).steps ≡ []
unfolding booted
booted_log script carriers = refl

empty_bits : context_bits Empty ≡ 0
unfolding context_bits
empty_bits = refl

empty_read : context_word_of (context_bits Empty) ≡ Empty
empty_read = context-read Empty tt

clean_read : context_word_of (context_bits (Clean 1)) ≡ Clean 1
clean_read = context-read (Clean 1) record { born = omega arith; small = omega arith }

module _ (script : Script) (carriers : ℕ) (roomy : IsRoomy script carriers) where
  word_past : (n : ℕ) → 72 ≤ n → word_at (booted script carriers) (word.Context n) ≡ context_bits Empty
  word_past n l = elim (cases_lt n 74) [
    | inr over ↦
        get_or_past (booted script carriers).words (4 * n + 3) 0 (omega (arith, over, (booted_sized script carriers).words))
        ∙ sym empty_bits
    | inl under ↦ elim (cases_lt n 73) [
      | inl one ↦ near 72 (omega (arith, l, one)) (omega arith) (word_72 script carriers)
      | inr two ↦ near 73 (omega (arith, two, under)) (omega arith) (word_73 script carriers)
    ]
  ]
    where
      near : (m : ℕ) → n ≡ m → 72 ≤ m → word_at (booted script carriers) (word.Context m) ≡
          context_bits (boot_context script carriers m) → word_at (booted script carriers) (word.Context n) ≡ context_bits Empty
      near m e k q =
          ap (λ (i : ℕ). word_at (booted script carriers) (word.Context i)) e
          ∙ (q ∙ ap context_bits (empty_past script carriers roomy m k))

  past : (n : ℕ) → 72 ≤ n → context_at (booted script carriers) n ≡ resting_in (boot_resting script carriers n)
  past n l =
      ap (context_by (booted script carriers) n) (ap context_word_of (word_past n l) ∙ empty_read)
      ∙ sym (ap resting_in (away_past script carriers roomy n l))

  -- by whether the number has a thread, or a carrier
  within : (n : ℕ) → n < 72 → context_at (booted script carriers) n ≡ resting_in (boot_resting script carriers n)
  within n l =
      ap (λ (bits : ℕ). context_by (booted script carriers) n (context_word_of bits)) (booted_context script carriers n l)
      ∙ by (has_thread script n) (is_carriers script carriers n) refl refl
    where
      rests : context_by (booted script carriers) n (context_word_of (context_bits (Clean 1))) ≡
          resting_in (boot_resting script carriers n)
      rests = ap (context_by (booted script carriers) n) clean_read ∙ ap resting_in (booted_slot script carriers n l)

      by : (t d : Bool) → has_thread script n ≡ t → is_carriers script carriers n ≡ d →
          context_by (booted script carriers) n (context_word_of (context_bits (boot_context script carriers n))) ≡
          resting_in (boot_resting script carriers n)
      by true d ht hd =
          ap (λ (v : ContextWord). context_by (booted script carriers) n (context_word_of (context_bits v))) clean ∙ rests
        where
          clean : boot_context script carriers n ≡ Clean 1
          clean = rw ht refl
      by false true ht hd =
          ap (λ (v : ContextWord). context_by (booted script carriers) n (context_word_of (context_bits v))) clean ∙ rests
        where
          clean : boot_context script carriers n ≡ Clean 1
          clean = rw (ht, hd) refl
      by false false ht hd =
          ap (λ (v : ContextWord). context_by (booted script carriers) n (context_word_of (context_bits v))) empty
          ∙ (ap (context_by (booted script carriers) n) empty_read ∙ sym (ap resting_in away))
        where
          empty : boot_context script carriers n ≡ Empty
          empty = rw (ht, hd) refl

          away : boot_resting script carriers n ≡ Away
          away = rw (ht, hd) refl

  booted_contexts : (n : ℕ) → context_at (booted script carriers) n ≡ resting_in (boot_resting script carriers n)
  booted_contexts n = elim (cases_lt n 72) [ inl l ↦ within n l | inr l ↦ past n l ]

  pub booted_counts : IsTallied script.table (counting_in (booted script carriers) (boot_versions script))
  booted_counts =
      same_counting script.table [] (booted script carriers).steps (boot_counting script carriers).context
      (context_at (booted script carriers)) (boot_versions script) (sym (booted_log script carriers))
      (λ n. sym (booted_contexts n)) (booted_tallied script carriers)

  pub run_lawful : (turns : List Turn) → AreInPlace script turns (booted script carriers) (boot_versions script) →
      IsLawfulMarks (run_of script carriers turns).steps
  run_lawful turns k = runs_count script script.table turns (booted script carriers) (boot_versions script) k booted_counts
