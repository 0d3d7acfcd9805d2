-- What an entry takes from what is still to come.
use Rattle.std.proofs.Common.{◌≡◌, ◌≢◌, ℕ, ◌+◌, ◌<◌, ◌≤◌, true, false, List, [], ◌∷◌, ◌++◌}
use Rattle.std.proofs.Common.{sym, ap, ◌∙◌, subst, arith, Some, None, is_some, Ok, inl, inr}
use Rattle.std.proofs.lemmas.Bool.{cases_eq, cases_Bool, and_parts, eqb-true, false≢true}
use Rattle.k_ids.specs.declared.threads.ThreadId.{ThreadId}
use Rattle.k_ids.specs.declared.threads.Status.TheVariants as status
use Rattle.k_ids.specs.declared.calls.Phase.{Phase}
use Rattle.k_ids.specs.declared.calls.Phase.TheVariants as phase
use Rattle.k_ids.specs.declared.calls.Act.{Act}
use Rattle.k_ids.specs.declared.calls.Act.TheVariants as act
use Rattle.k_ids.specs.declared.calls.Outcome.{Outcome}
use Rattle.k_ids.specs.declared.histories.Entry.{Entry}
use Rattle.k_model.specs.State.{KernelState, is_dead}
use Rattle.k_model.specs.Step.{step, acted, called}
use Rattle.k_model.specs.Ranges.{IsRanged}
use Rattle.k_model.specs.Keeps.{IsRenewed, is_settled, Leaves, renewed_call}
use Rattle.k_model.specs.History.{call_in}
use Rattle.k_model.specs.Effort.{unlimited, waits}
use Rattle.k_model.proofs.Ranged.{acted-ranged}
use Rattle.k_model.proofs.Sound.{acts_alive, inside_from, size-acted, run_from}
use Rattle.k_model.proofs.Listed.{acts_living}
use Rattle.k_model.proofs.Spent.{call_waits, gone_effort, pick_effort}
use Rattle.k_model.proofs.Left.{acted_leaves, acted_renews, call_caller, renewed_other}
use Rattle.k_script.specs.Script.{Script}
use Rattle.k_script.specs.Limits.{IsScript}
use Rattle.k_script.specs.Weight.{phases_of_program}
use Rattle.k_script.specs.Plays.{Position, phase_next, phases_left, phases_given, NamesInRange, TellsInRange}
use Rattle.k_script.proofs.Goes.{next_left}
use Rattle.k_script.proofs.Within.{start_within, next_within}
use Rattle.k_script.proofs.Shares.{start_counts}
use Rattle.k_positions.specs.Positions.{IsNextAct, positions_after, reply_to_last}
use Rattle.k_positions.proofs.Histories.{step_gives}
use Rattle.k_positions.proofs.Moves.{there, Happens, OfOthers, OfCalls, OfCreates, moves_by}
use Rattle.k_positions.proofs.Going.{goes_on}
use Rattle.k_room.specs.Room.{to_come}
use Rattle.k_room.proofs.Counted.{IsInBounds, IsCounted}
use Rattle.k_room.proofs.Ranges.{tells_in}
use Rattle.k_room.proofs.Spends.{wait_spends, call_spends, create_spends}

-- WHAT AN EVENT GAINS: less is to come, and the threads stay in bounds.
record Gains (script : Script) (k n : KernelState) (at to : ℕ → Position) : Type 0 where
  pub falls : to_come script n to + 1 ≤ to_come script k at
  pub bounds : (t : ℕ) → is_dead (n.place t).status ≡ false → IsInBounds script n to t

module _ (script : Script) (limits : IsScript script) (es : List Entry) (k n : KernelState) (at to : ℕ → Position)
    (who : ThreadId) (serial : ℕ) (o : Outcome) (p : IsCounted script es k at) (inside : who.number < k.size) where
  same_size : (a : Act) → Happens script k n at to who serial o a → n.size ≡ k.size
  same_size a g = sym (ap (λ (r : KernelState × Outcome). r.0.size) g.1) ∙ size-acted k who serial a

  -- A thread that is left as it was
  stays : (t : ℕ) → to t ≡ at t → Leaves k n t → is_dead (n.place t).status ≡ false → IsInBounds script n to t
  stays t stand l alive =
      let lived : is_dead (k.place t).status ≡ false = elim (cases_Bool (is_dead (k.place t).status)) [
        | inl d ↦ absurd (false≢true (sym alive ∙ l.dead d))
        | inr d ↦ d
      ] in
      let b = p.bounds t lived in
      let left : phases_left script (to t) ≡ phases_left script (at t) = ap (phases_left script) stand in
      record { within = rw stand b.within; bounded = omega (arith, b.bounded, l.serial, left) }

  -- AN EVENT THAT ISN'T A CALL takes one from the threads that wait.
  fewer : (a : Act) → Happens script k n at to who serial o a → call_in a serial ≡ [] → waits n + 1 ≤ waits k
  fewer (act.Call c) g none = absurd cc
  fewer act.Gone g none =
      subst (λ (m : KernelState). waits m + 1 ≤ waits k) (ap (λ (r : KernelState × Outcome). r.0) g.1)
      (gone_effort unlimited k who serial g.0 p.playing.sound)
  fewer act.Pick g none =
      subst (λ (m : KernelState). waits m + 1 ≤ waits k) (ap (λ (r : KernelState × Outcome). r.0) g.1)
      (pick_effort unlimited k who serial g.0 p.playing.sound)

  other_gains : OfOthers script k n at to who serial o (λ a. Gains script k n at to)
  other_gains a g none renews creates stand leaves = record {
    falls = wait_spends script k n at to who.number (same_size a g) inside stand leaves (fewer a g none);
    bounds = λ t alive. stays t (stand t) (leaves t) alive;
  }

  -- A CALL of the next phase
  module _ (c : Phase) (g : Happens script k n at to who serial o (act.Call c))
      (next : c ≡ phase_next script.version (at who.number) (reply_to_last k who))
      (moves : to who.number ≡ there script k n at to who serial o) where
    got : (acted k who serial (act.Call c)).0 ≡ n
    got = ap (λ (r : KernelState × Outcome). r.0) g.1

    alive : is_dead (k.place who.number).status ≡ false
    alive = acts_living k who serial (act.Call c) g.0

    more : waits n ≤ waits k + 1
    more = subst (λ (m : KernelState). waits m ≤ waits k + 1) got (call_waits k who serial c p.playing.sound)

    leaves_at : (t : ℕ) → t ≢ who.number → renewed_call (called k who serial) c ≢ Some t → Leaves k n t
    leaves_at t ne other =
        subst (λ (m : KernelState). Leaves k m t) got (acted_leaves k who serial (act.Call c) t g.0 p.playing.sound ne other)

    call_going : is_some (at who.number).left ≡ true
    call_going =
        let run : (k.place who.number).status ≡ status.Run =
        run_from (k.place who.number).status (and_parts _ _ (and_parts _ _ g.0).0).1 in
        (p.playing.present who.number alive).going (ap is_settled run)

    -- what is left of the caller's program, and what a new thread gets of it
    left_falls : phases_left script (to who.number) + phases_given script c + 1 ≤ phases_left script (at who.number)
    left_falls = rw (moves, next) (next_left script script.version (at who.number) (reply_to_last k who) call_going)

    replied : TellsInRange script.table (reply_to_last k who)
    replied = tells_in k who (k.place who.number).serial script.table p.playing.size p.playing.ranged

    mine : IsInBounds script n to who.number
    mine =
        let b = p.bounds who.number alive in
        let count : serial ≡ (k.place who.number).serial + 1 = eqb-true serial _ (and_parts _ _ g.0).1 in
        let counted : (n.place who.number).serial ≡ serial =
        sym (ap (λ (m : KernelState). (m.place who.number).serial) got)
        ∙ (call_caller k who serial c g.0 p.playing.sound).1 in
        record {
          within = rw moves (next_within script script.version (at who.number) (reply_to_last k who) b.within replied).1;
          bounded = omega (arith, count, counted, left_falls, b.bounded);
        }

  call_gains : OfCalls script k n at to who serial o (λ a. Gains script k n at to)
  call_gains c g next moves renews unmade stand =
      let leaves : (t : ℕ) → t ≢ who.number → Leaves k n t =
      λ t ne. leaves_at c g next moves t ne (λ e. let no : None ≡ Some t = sym renews ∙ e in cc) in
      record {
        falls =
            call_spends script k n at to who.number (same_size (act.Call c) g) inside (alive c g next moves)
            (more c g next moves) stand leaves (omega (arith, left_falls c g next moves));
        bounds = λ t lives. elim (cases_eq t who.number) [
          | inl e ↦ subst (IsInBounds script n to) (sym e) (mine c g next moves)
          | inr ne ↦ stays t (stand t ne) (leaves t ne) lives
        ];
      }

  -- A CREATE that makes a thread
  create_gains : OfCreates script k n at to who serial o (λ a. Gains script k n at to)
  create_gains program priority number g next moves found begins stand =
      let c = phase.Create program priority in
      let new : ThreadId = record { number = number; version = (k.place number).version + 1 } in
      let apart : who.number ≢ number = renewed_other k who serial program priority number g.0 found in
      let r : IsRenewed k number n = subst (IsRenewed k number) (got c g next moves)
      (acted_renews k who serial (act.Call c) number g.0 found) in
      let ranged : IsRanged n = subst IsRanged (got c g next moves)
      (acted-ranged k who serial (act.Call c) g.0 p.playing.sound p.playing.ranged) in
      let b = p.bounds who.number (alive c g next moves) in
      let programs = (subst (NamesInRange script) (sym next)
      (next_within script script.version (at who.number) (reply_to_last k who) b.within (replied c g next moves)).0).0 in
      let falls = left_falls c g next moves in
      let given : phases_left script (to number) ≡ phases_of_program script program =
      ap (phases_left script) begins ∙ start_counts script program new limits programs in
      let leaves : (t : ℕ) → t ≢ who.number → t ≢ number → Leaves k n t =
      λ t ne nq. leaves_at c g next moves t ne (λ e. nq (let same : Some number ≡ Some t = sym found ∙ e in cc)) in
      let born : IsInBounds script n to number = record {
        within =
            rw begins (start_within script program new limits (record {
              number = omega (arith, r.inside, p.playing.size);
              first = omega arith;
              last = omega (arith, r.version, ranged.versions number);
            }));
        bounded = omega (arith, r.serial, given, falls, b.bounded);
      } in
      record {
        falls =
            create_spends script k n at to who.number (same_size (act.Call c) g) inside (alive c g next moves)
            (more c g next moves) number (phases_of_program script program) r.inside apart stand leaves
            (omega (arith, given)) falls;
        bounds = λ t lives. elim (cases_eq t who.number) [
          | inl e ↦ subst (IsInBounds script n to) (sym e) (mine c g next moves)
          | inr ne ↦ elim (cases_eq t number) [
            | inl q ↦ subst (IsInBounds script n to) (sym q) born
            | inr nq ↦ stays t (stand t ne nq) (leaves t ne nq) lives
          ]
        ];
      }

-- An entry whose event may be made, and which is the next one of its thread's program if it is a call: the history plays on, and
-- less is to come.
pub record GoesOn (script : Script) (fs : List Entry) (k n : KernelState) (at to : ℕ → Position) : Type 0 where
  pub counted : IsCounted script fs n to
  pub falls : to_come script n to + 1 ≤ to_come script k at

pub counts_on : (script : Script) → IsScript script → (es : List Entry) (k n : KernelState) (at to : ℕ → Position) (e : Entry) →
    IsCounted script es k at → step k e.event ≡ Ok (n, e.outcome) → IsNextAct script k at e.event.who e.event.act →
    ((t : ℕ) → to t ≡ positions_after script k at e t) → GoesOn script (es ++ e ∷ []) k n at to
counts_on script limits es k n at to e p ok next moves =
    let id = e.event.who in
    let serial = e.event.serial in
    let o = e.outcome in
    let g = step_gives k n e.event o ok in
    let inside : id.number < k.size = inside_from k id.number p.playing.sound (acts_alive k id serial e.event.act g.0).1 in
    let gains = moves_by script k n at to id serial o p.playing.sound (λ a. Gains script k n at to)
    (other_gains script limits es k n at to id serial o p inside) (call_gains script limits es k n at to id serial o p inside)
    (create_gains script limits es k n at to id serial o p inside) e.event.act g next moves in
    record {
      counted = record { playing = goes_on script es k n at to e p.playing ok next moves; bounds = gains.bounds };
      falls = gains.falls;
    }
