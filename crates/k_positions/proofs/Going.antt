-- A history goes on with an entry whose event may be made, has the outcome that comes of it, and, if it is a call, is the next
-- one of its thread's program.
use Rattle.std.proofs.Common.{◌≡◌, ◌≢◌, ◌⊎◌, ℕ, ◌+◌, true, false, List, [], ◌∷◌, ◌++◌, refl, sym, ap, ◌∙◌, subst, arith, Some, None, Ok, inl, inr}
use Rattle.std.proofs.lemmas.Bool.{cases_eq, cases_Bool}
use Rattle.k_ids.specs.declared.threads.ThreadId.{ThreadId}
use Rattle.k_ids.specs.declared.calls.Phase.TheVariants as phase
use Rattle.k_ids.specs.declared.calls.Act.{Act}
use Rattle.k_ids.specs.declared.calls.Act.TheVariants as act
use Rattle.k_ids.specs.declared.calls.Outcome.{Outcome}
use Rattle.k_ids.specs.declared.calls.Outcome.TheVariants as outcome
use Rattle.k_ids.specs.declared.histories.Entry.{Entry}
use Rattle.k_model.specs.State.{KernelState, id_of, same_id}
use Rattle.k_model.specs.Step.{step, acted}
use Rattle.k_model.specs.Keeps.{IsRenewed, Leaves}
use Rattle.k_model.specs.History.{calls_of}
use Rattle.k_model.proofs.Left.{acted_leaves, acted_renews, create_tells, renewed_other}
use Rattle.k_script.specs.Script.{Script}
use Rattle.k_script.specs.Plays.{Position, start_of, program_of, makes}
use Rattle.k_positions.specs.Positions.{IsNextAct, positions_after}
use Rattle.k_positions.proofs.Playing.{IsAt, IsPlaying}
use Rattle.k_positions.proofs.Histories.{step_gives, same_is, same_self, apart_from, calls_apart, program_stays, program_given, none_made, other_made, this_made}
use Rattle.k_positions.proofs.Moves.{entry_for, OfOthers, OfCalls, OfCreates, moves_by}
use Rattle.k_positions.proofs.Plays.{keeps_playing, keeps_others, mine_stays, mine_moves, at_other}

module _ (script : Script) (es : List Entry) (k n : KernelState) (at to : ℕ → Position) (who : ThreadId) (serial : ℕ) (o : Outcome) (p : IsPlaying script es k at) where
  abbrev Goes : Act → Type 0
  Goes a = step k (record { who = who; serial = serial; act = a }) ≡ Ok (n, o) → IsPlaying script (es ++ entry_for who serial a o ∷ []) n to

  -- AN EVENT THAT ISN'T A CALL
  other_goes : OfOthers script k n at to who serial o Goes
  other_goes a g none renews creates stand leaves ok =
      let entry = entry_for who serial a o in
      let mine = mine_stays script es k n at who serial a o g.0 g.1 p none (leaves who.number) in
      keeps_playing script es k n at who serial a o g.0 g.1 p to ok
      (subst (λ (q : Position). IsAt script (es ++ entry ∷ []) n who q) (sym (stand who.number)) mine)
      (keeps_others script es k n at who serial a o g.0 g.1 p to renews (λ t _. stand t))
      (λ id. inl (program_stays script es entry id (none_made entry id creates)))

  -- A CALL that makes no thread
  call_goes : OfCalls script k n at to who serial o Goes
  call_goes c g next moves renews unmade stand ok =
      let entry = entry_for who serial (act.Call c) o in
      keeps_playing script es k n at who serial (act.Call c) o g.0 g.1 p to ok (mine_moves script es k n at to who serial c o g.0 g.1 p next moves)
      (keeps_others script es k n at who serial (act.Call c) o g.0 g.1 p to renews stand)
      (λ id. inl (program_stays script es entry id (unmade id)))

  -- A CREATE that makes a thread
  create_goes : OfCreates script k n at to who serial o Goes
  create_goes program priority number g next moves found begins stand ok =
      let c = phase.Create program priority in
      let got : (acted k who serial (act.Call c)).0 ≡ n = ap (λ (r : KernelState × Outcome). r.0) g.1 in
      let new : ThreadId = record { number = number; version = (k.place number).version + 1 } in
      let entry = entry_for who serial (act.Call c) o in
      let fs = es ++ entry ∷ [] in
      let tells : o ≡ outcome.Made new = sym (ap (λ (r : KernelState × Outcome). r.1) g.1) ∙ create_tells k who serial program priority number g.0 found in
      let apart : who.number ≢ number = renewed_other k who serial program priority number g.0 found in
      let r : IsRenewed k number n = subst (IsRenewed k number) got (acted_renews k who serial (act.Call c) number g.0 found) in
      let none : program_of script es new ≡ None = p.unborn new (omega arith) in
      let uncalled : calls_of new es ≡ [] = rw none at (p.played new) in
      let other : same_id who new ≡ false = apart_from who new (λ e. apart (ap (λ (x : ThreadId). x.number) e)) in
      let is_made : makes o new ≡ true = ap (λ (x : Outcome). makes x new) tells ∙ same_self new in
      let born : IsAt script fs n new (start_of script program new) = record {
        program = program;
        is = program_given script es entry new program none (this_made entry new program is_made refl);
        runs = rw (calls_apart es entry new other, uncalled) (refl, ap (λ (s : ℕ). s + 1) r.serial);
        going = λ _. refl;
      } in
      let born_at : IsAt script fs n new (to number) = subst (IsAt script fs n new) (sym begins) born in
      let id : new ≡ id_of n number = ap (λ (v : ℕ). record { number = number; version = v }) (sym r.version) in
      keeps_playing script es k n at who serial (act.Call c) o g.0 g.1 p to ok (mine_moves script es k n at to who serial c o g.0 g.1 p next moves)
      (λ t ne lives. elim (cases_eq t number) [
        | inl e ↦ subst (λ (j : ℕ). IsAt script fs n (id_of n j) (to j)) (sym e) (subst (λ (x : ThreadId). IsAt script fs n x (to number)) id born_at)
        | inr nq ↦
            let l = subst (λ (m : KernelState). Leaves k m t) got (acted_leaves k who serial (act.Call c) t g.0 p.sound ne (λ e. nq (let same : Some number ≡ Some t = sym found ∙ e in cc))) in
            subst (λ (q : Position). IsAt script fs n (id_of n t) q) (sym (stand t ne nq)) (at_other script es k n at who serial (act.Call c) o g.0 g.1 p t ne l lives)
      ])
      (λ id. elim (cases_Bool (same_id new id)) [
        | inl t ↦ subst (λ (x : ThreadId). (program_of script fs x ≡ program_of script es x) ⊎ ((x.version ≡ (n.place x.number).version) × IsAt script fs n x (to x.number))) (same_is new id t) (inr (sym r.version, born_at))
        | inr f ↦ inl (program_stays script es entry id (other_made entry id (ap (λ (x : Outcome). makes x id) tells ∙ f)))
      ])

pub goes_on : (script : Script) (es : List Entry) (k n : KernelState) (at to : ℕ → Position) (e : Entry) → IsPlaying script es k at → step k e.event ≡ Ok (n, e.outcome) → IsNextAct script k at e.event.who e.event.act → ((t : ℕ) → to t ≡ positions_after script k at e t) → IsPlaying script (es ++ e ∷ []) n to
goes_on script es k n at to e p ok next tos =
    let who = e.event.who in
    let serial = e.event.serial in
    let o = e.outcome in
    moves_by script k n at to who serial o p.sound (Goes script es k n at to who serial o p) (other_goes script es k n at to who serial o p) (call_goes script es k n at to who serial o p) (create_goes script es k n at to who serial o p) e.event.act (step_gives k n e.event o ok) next tos ok
