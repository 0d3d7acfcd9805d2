-- The board that the first world shows is one on which the kernel begins to run a script.
use Rattle.std.proofs.Common.{◌≡◌, ℕ, ◌<◌, ◌≤◌, Bool, true, false, refl, ap, ◌∙◌, arith, [], length}
use Rattle.std.specs.Prelude.{not, slice_index_or}
use Rattle.std.proofs.lemmas.Bool.Decides.{nat_tests}
use Rattle.std.proofs.lemmas.List.{get_or_default, length-map}
use Rattle.std.proofs.lemmas.List.FromFn.{length-range_with_len}
use Rattle.k_script.specs.declared.lines.ThreadLine.{ThreadLine}
use Rattle.k_script.specs.Limits.{IsScript}
use Rattle.k_script.specs.Plays.{IsWithin, first_id, no_thread, opened_for}
use Rattle.k_script.specs.Script.{Script}
use Rattle.k_script.proofs.Within.{start_within}
use Rattle.k_locks.specs.Shown.{is_dead}
use Rattle.k_positions.specs.Positions.{program_at}
use Rattle.k_switch.specs.Switches.{first_of_number}
use Rattle.k_world.specs.Boot.{boot_state, booted, has_thread, table_numbers, thread_line}
use Rattle.k_board.specs.Boots.{Booted, has_carrier, has_none, has_thread as booted_thread}
use Rattle.k_plays.specs.Scripts.{programs_of, ranged_programs}
use Rattle.k_places.specs.Boots.{boot_board, boot_position}
use Rattle.k_places.proofs.Boots.{boot_free, boot_is, boot_numbers_agree, boot_shown}
use Rattle.k_board.specs.Boards.{Board}
use Rattle.k_invariant.specs.Invariant.{BoardHolds, IsOpeningBoard}
use Rattle.k_kernel.specs.Worlds.{WorldHolds}

module _ (script : Script) (carriers : ℕ) (limits : IsScript script) (few : carriers ≤ 8) where
  -- both programs start alike
  ranged_booted : (n : ℕ) → Booted (programs_of script) (boot_board script carriers) n →
      Booted (ranged_programs script) (boot_board script carriers) n
  ranged_booted n (booted_thread program priority t) =
      booted_thread program priority (record {
        word = t.word;
        last = t.last;
        told = t.told;
        position = t.position;
        context = t.context;
      })
  ranged_booted n (has_none dead at) = has_none dead at
  ranged_booted n (has_carrier dead at) = has_carrier dead at

  dead_is : (n : ℕ) (t : Bool) → has_thread script n ≡ t → is_dead (boot_state script n) ≡ not t
  dead_is n true e = rw e refl
  dead_is n false e = rw e refl

  -- a number without a thread has the version that it had last
  aged_is : (n : ℕ) → length script.threads ≤ n → (boot_state script n).version ≡ slice_index_or script.aged n 0
  aged_is n past = let none : has_thread script n ≡ false = grind (arith, nat_tests, past) in rw none refl

  program_is : (n : ℕ) → n < length script.threads → (thread_line script n).program ≡ program_at script n
  program_is n inside =
      ap (λ (t : ThreadLine). t.program) (get_or_default script.threads n (record { priority = 0; program = 0 }) no_thread inside)

  place_within : (n : ℕ) → n < script.table → IsWithin script (boot_position script n)
  place_within n inside =
      start_within script (thread_line script n).program (first_of_number n) limits
      (record { number = inside; first = omega arith; last = omega arith })

  pub boot_opens : IsOpeningBoard script (boot_board script carriers)
  boot_opens = let agree = boot_numbers_agree script carriers limits few in record {
    size = refl;
    first = record {
      booted = λ n. ranged_booted n (boot_is script carriers limits few n);
      free = boot_free script carriers limits few;
      empty = λ n. refl;
      agree = agree;
      count =
          length-map (table_numbers script) (λ (number : ℕ). (boot_state script number).version)
          ∙ length-range_with_len 0 script.table;
      few = limits.lines.1;
      who = λ n. dead_is n (has_thread script n) refl;
      unused = λ n dead. (refl, refl);
    };
    aged = λ n past. agree.version n ∙ aged_is n past;
    programs = λ n inside. ap (λ (p : ℕ). (ranged_programs script).start (first_id n) p) (program_is n inside);
    within = place_within;
    filled = λ n inside. record { low = omega arith; high = omega arith };
  }

  -- where what holds of each opening board is known
  pub first_holds : ((s : Script) (b : Board) → IsScript s → IsOpeningBoard s b → BoardHolds s b [] (opened_for s)) →
      WorldHolds script (booted script carriers)
  unfolding booted
  first_holds opens = record {
    board = boot_board script carriers;
    state = opened_for script;
    shows = boot_shown script carriers limits few;
    holds = opens script (boot_board script carriers) limits boot_opens;
    serials = record { lasts = λ n. omega arith; serials = λ i. omega arith };
  }
