-- A script's opening state: its threads are in bounds, and all that is still to come is what the script's phases allow.
use Rattle.std.proofs.Common.{◌≡◌, ℕ, zero, suc, ◌+◌, ◌*◌, ◌<◌, ◌≤◌, Bool, true, false, cond, not, List}
use Rattle.std.proofs.Common.{[], length, get_or, take, refl, sym, ap, ◌∙◌, arith, add-one, inl, inr}
use Rattle.std.specs.Prelude.{nat_lt}
use Rattle.std.specs.List.{sum_by}
use Rattle.std.proofs.lemmas.Bool.{cases_lt, false≢true}
use Rattle.std.proofs.lemmas.List.{take_all}
use Rattle.std.proofs.lemmas.List.Sums.{sum_by_more, sum_by-take-le}
use Rattle.k_lists.proofs.All.{all_at}
use Rattle.k_ids.specs.declared.threads.Status.TheVariants as status
use Rattle.k_model.specs.State.{Place, nowhere}
use Rattle.k_model.specs.History.{opening_place, new_place, dead_place}
use Rattle.k_model.specs.Effort.{wait_of, effort_below, unlimited, waits}
use Rattle.k_script.specs.declared.lines.ThreadLine.{ThreadLine}
use Rattle.k_script.specs.Script.{Script}
use Rattle.k_script.specs.Limits.{IsScript, IsThread}
use Rattle.k_script.specs.Weight.{phases_of, phases_of_program}
use Rattle.k_script.specs.Plays.{Position, phases_left, first_id, start_of, opened_for, no_thread}
use Rattle.k_script.proofs.Within.{start_within}
use Rattle.k_script.proofs.Shares.{start_counts}
use Rattle.k_positions.specs.Positions.{program_at}
use Rattle.k_positions.proofs.Opens.{opening_dead, opens_new, opens_playing}
use Rattle.k_room.specs.Room.{share, shares, sum_below, to_come}
use Rattle.k_room.proofs.Counted.{IsInBounds, IsCounted}

opening_wait : (versions : List ℕ) (threads t : ℕ) → wait_of (opening_place versions threads t).status ≡ 0
opening_wait versions threads t = go (nat_lt t (length versions)) (nat_lt t threads)
  where
    go : (inside thread : Bool) → wait_of (cond (not inside) nowhere
        (cond thread new_place (dead_place (get_or versions t 0)))).status ≡ 0
    go false thread = refl
    go true true = refl
    go true false = refl

thread_line : (script : Script) (t : ℕ) → IsScript script → t < length script.threads →
    IsThread (length script.programs) (get_or script.threads t no_thread)
thread_line script t s l = all_at (IsThread (length script.programs)) script.threads t no_thread s.threads l

-- A thread's program is a part of the whole.
thread_part : (script : Script) (t : ℕ) → t < length script.threads →
    phases_of_program script (program_at script t) ≤ phases_of script
thread_part script t l =
    let f = λ (t : ThreadLine). phases_of_program script t.program in
    let more : sum_by f (take (t + 1) script.threads) ≡ sum_by f (take t script.threads) + f (get_or script.threads t no_thread) =
    sum_by_more f script.threads t no_thread l in
    let all : phases_of script ≡ sum_by f script.threads = refl in
    omega (arith, more, all, sum_by-take-le f script.threads (t + 1))

module _ (script : Script) (at : ℕ → Position) (s : IsScript script)
    (starts : (t : ℕ) → t < length script.threads → at t ≡ start_of script (program_at script t) (first_id t)) where
  opens_bounds : (t : ℕ) → t < length script.threads → IsInBounds script (opened_for script) at t
  opens_bounds t l =
      let line = thread_line script t s l in
      let program = program_at script t in
      let none : ((opened_for script).place t).serial ≡ 0 = ap (λ (p : Place). p.serial) (opens_new script at s starts t l) in
      let left : phases_left script (at t) ≡ phases_of_program script program =
      ap (phases_left script) (starts t l) ∙ start_counts script program (first_id t) s line.program in
      record {
        within =
            rw (starts t l) (start_within script program (first_id t) s
            (record { number = omega (arith, s.lines.1, l); first = omega arith; last = omega arith }));
        bounded = omega (arith, none, left, thread_part script t l);
      }

  pub starts_counted : IsCounted script [] (opened_for script) at
  starts_counted = record {
    playing = opens_playing script at s starts;
    bounds = λ t alive. elim (cases_lt t (length script.threads)) [
      | inl l ↦ opens_bounds t l
      | inr l ↦ absurd (false≢true (sym alive ∙ opening_dead script.aged (length script.threads) t l))
    ];
  }

-- ALL THAT IS STILL TO COME at first is what the script's phases allow.

no_waits : (script : Script) (n : ℕ) → effort_below unlimited (opened_for script).place n ≡ 0
no_waits script zero = refl
no_waits script (suc n) = omega (arith, no_waits script n, opening_wait script.aged (length script.threads) n)

module _ (script : Script) (at : ℕ → Position) (s : IsScript script)
    (starts : (t : ℕ) → t < length script.threads → at t ≡ start_of script (program_at script t) (first_id t)) where
  shares_to : (n : ℕ) → sum_below (λ t. share script (at t) ((opened_for script).place t).status) n ≤
      sum_by (λ (t : ThreadLine). phases_of_program script t.program) (take n script.threads)
  shares_to zero = omega arith
  shares_to (suc n) =
      let f = λ (t : ThreadLine). phases_of_program script t.program in
      let below = shares_to n in
      elim (cases_lt n (length script.threads)) [
        | inl l ↦
            let more : sum_by f (take (suc n) script.threads) ≡ sum_by f (take n script.threads) +
            f (get_or script.threads n no_thread) = rw (← add-one n) (sum_by_more f script.threads n no_thread l) in
            let line = thread_line script n s l in
            let new : ((opened_for script).place n).status ≡ status.Run =
            ap (λ (p : Place). p.status) (opens_new script at s starts n l) in
            let left : phases_left script (at n) ≡ phases_of_program script (program_at script n) =
            ap (phases_left script) (starts n l) ∙ start_counts script (program_at script n) (first_id n) s line.program in
            let here : share script (at n) ((opened_for script).place n).status ≡ phases_left script (at n) = rw new refl in
            omega (arith, below, more, here, left)
        | inr l ↦
            let whole : take (suc n) script.threads ≡ take n script.threads =
            take_all (suc n) script.threads (omega (arith, l)) ∙ sym (take_all n script.threads l) in
            let same : sum_by f (take (suc n) script.threads) ≡ sum_by f (take n script.threads) =
            ap (λ (ts : List ThreadLine). sum_by f ts) whole in
            let here : share script (at n) ((opened_for script).place n).status ≡ 0 =
            rw (opening_dead script.aged (length script.threads) n l) refl in
            omega (arith, below, same, here)
      ]

  pub starts_whole : to_come script (opened_for script) at ≤ 2 * phases_of script
  starts_whole =
      let f = λ (t : ThreadLine). phases_of_program script t.program in
      let size = (opened_for script).size in
      let sums : shares script (opened_for script) at ≤ sum_by f (take size script.threads) = shares_to size in
      let all : phases_of script ≡ sum_by f script.threads = refl in
      let none : waits (opened_for script) ≡ 0 = no_waits script size in
      omega (arith, sums, all, none, sum_by-take-le f script.threads size)
