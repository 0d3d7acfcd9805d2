-- Threads that have programs are those of the table, and their programs stay within the script.
use Rattle.std.proofs.Common.{◌≤◌, ◌≡◌, ℕ, ◌+◌, ◌<◌, true, false, List, [], ◌∷◌, length, length-append}
use Rattle.std.proofs.Common.{refl, sym, ap, ◌∙◌, subst, arith, Option, Some, None, Ok, inl, inr}
use Rattle.std.specs.Prelude.{nat_lt, ◌==◌}
use Rattle.std.specs.Option.{option_or}
use Rattle.std.proofs.lemmas.Bool.{cases_Bool, and_parts, cond_both, eqb-true}
use Rattle.std.proofs.lemmas.Bool.Decides.{nat_tests}
use Rattle.k_ids.specs.declared.threads.ThreadId.{ThreadId}
use Rattle.k_ids.specs.declared.calls.Phase.{Phase}
use Rattle.k_ids.specs.declared.calls.Phase.TheVariants as phase
use Rattle.k_ids.specs.declared.calls.Reply.{Reply}
use Rattle.k_ids.specs.declared.calls.Act.{Act}
use Rattle.k_ids.specs.declared.calls.Act.TheVariants as act
use Rattle.k_ids.specs.declared.calls.Outcome.{Outcome}
use Rattle.k_ids.specs.declared.calls.Outcome.TheVariants as outcome
use Rattle.k_ids.specs.declared.histories.Entry.{Entry}
use Rattle.k_model.specs.State.{KernelState, same_id}
use Rattle.k_model.specs.Step.{step, may_act, acted, called}
use Rattle.k_model.specs.Sound.{IsSound}
use Rattle.k_model.specs.Ranges.{IsRanged}
use Rattle.k_model.specs.Keeps.{IsRenewed, renewed_call}
use Rattle.k_model.specs.History.{IsReplay, call_in, call_of, calls_of}
use Rattle.k_model.proofs.Sound.{acted-sound, size-acted}
use Rattle.k_model.proofs.Ranged.{acted-ranged}
use Rattle.k_model.proofs.Left.{acted_renews, create_tells, create_refused}
use Rattle.k_script.specs.Script.{Script}
use Rattle.k_script.specs.Limits.{IsScript}
use Rattle.k_script.specs.Plays.{IsInRange, IsWithin, Position, Runs, TellsInRange, created_program, is_first, made_program}
use Rattle.k_script.specs.Plays.{makes, moved, opened_for, program_made, program_of, reply_before, start_of}
use Rattle.k_script.proofs.Within.{next_within, start_within}
use Rattle.k_positions.proofs.Histories.{same_is, step_gives}
use Rattle.k_positions.proofs.Opens.{opens_playing}
use Rattle.k_positions.proofs.Playing.{IsPlaying}
use Rattle.k_positions.specs.Positions.{program_at}
use Rattle.k_script.specs.Plays.{first_id}

-- A THREAD THAT AN ENTRY MAKES

module _ (k n : KernelState) (who : ThreadId) (serial : ℕ) (o : Outcome) (id : ThreadId) (made : makes o id ≡ true)
    (sound : IsSound k) (ranged : IsRanged k) where
  create_range : (program priority : ℕ) (r : Option ℕ) → renewed_call (called k who serial) (phase.Create program priority) ≡ r →
      may_act k who serial (act.Call (phase.Create program priority)) ≡ true →
      acted k who serial (act.Call (phase.Create program priority)) ≡ (n, o) → IsInRange k.size id
  create_range program priority None found may gives =
      let is : o ≡ outcome.Full _ _ = sym (ap (λ (r : KernelState × Outcome). r.1) gives)
      ∙ create_refused k who serial program priority found in
      let no : true ≡ false = sym made ∙ ap (λ (x : Outcome). makes x id) is in
      absurd cc
  create_range program priority (Some number) found may gives =
      let a = act.Call (phase.Create program priority) in
      let new : ThreadId = record { number = number; version = (k.place number).version + 1 } in
      let is : o ≡ outcome.Made new = sym (ap (λ (r : KernelState × Outcome). r.1) gives)
      ∙ create_tells k who serial program priority number may found in
      let same : new ≡ id = same_is new id (sym (ap (λ (x : Outcome). makes x id) is) ∙ made) in
      let r : IsRenewed k number (acted k who serial a).0 = acted_renews k who serial a number may found in
      let after : IsRanged (acted k who serial a).0 = acted-ranged k who serial a may sound ranged in
      subst (IsInRange k.size) same (record {
        number = r.inside;
        first = omega arith;
        last = omega (arith, r.version, after.versions number);
      })

  made_range : (a : Act) (program : ℕ) → created_program a ≡ Some program → may_act k who serial a ≡ true →
      acted k who serial a ≡ (n, o) → IsInRange k.size id
  made_range (act.Call (phase.Create program priority)) q e may gives =
      create_range program priority (renewed_call (called k who serial) (phase.Create program priority)) refl may gives
  made_range (act.Call (phase.Send to message zero joined)) q e may gives = let no : None ≡ Some q = e in absurd cc
  made_range (act.Call (phase.Reply to message zero)) q e may gives = let no : None ≡ Some q = e in absurd cc
  made_range (act.Call (phase.Receive from zero)) q e may gives = let no : None ≡ Some q = e in absurd cc
  made_range (act.Call (phase.Destroy victim)) q e may gives = let no : None ≡ Some q = e in absurd cc
  made_range (act.Call phase.End) q e may gives = let no : None ≡ Some q = e in absurd cc
  made_range act.Gone q e may gives = let no : None ≡ Some q = e in absurd cc
  made_range act.Pick q e may gives = let no : None ≡ Some q = e in absurd cc

pub entry_range : (k n : KernelState) (e : Entry) (id : ThreadId) (program : ℕ) → IsSound k → IsRanged k →
    step k e.event ≡ Ok (n, e.outcome) → program_made e id ≡ Some program → IsInRange k.size id
entry_range k n e id program sound ranged ok is = elim (cases_Bool (makes e.outcome id)) [
  | inl t ↦
      let g = step_gives k n e.event e.outcome ok in
      made_range k n e.event.who e.event.serial e.outcome id t sound ranged e.event.act program (rw t at is) g.0 g.1
  | inr f ↦ let no : None ≡ Some program = rw f at is in absurd cc
]

-- EACH THREAD THAT A HISTORY MAKES
replay_range : (k : KernelState) (es : List Entry) (n : KernelState) (id : ThreadId) (program : ℕ) → IsSound k → IsRanged k →
    IsReplay k es n → made_program es id ≡ Some program → IsInRange k.size id
replay_range k [] n id program sound ranged h is = let no : None ≡ Some program = is in absurd cc
replay_range k (e ∷ es) n id program sound ranged h is =
    let g = step_gives k h.0 e.event e.outcome h.1 in
    let got : (acted k e.event.who e.event.serial e.event.act).0 ≡ h.0 = ap (λ (s : KernelState × Outcome). s.0) g.1 in
    let size : h.0.size ≡ k.size = sym (ap (λ (m : KernelState). m.size) got)
    ∙ size-acted k e.event.who e.event.serial e.event.act in
    let rest = replay_range h.0 es n id program (subst IsSound got
    (acted-sound k e.event.who e.event.serial e.event.act g.0 sound))
    (subst IsRanged got (acted-ranged k e.event.who e.event.serial e.event.act g.0 sound ranged)) h.2 in
    go (program_made e id) refl is (λ x. subst (λ (m : ℕ). IsInRange m id) size (rest x))
  where
    go : (r : Option ℕ) → program_made e id ≡ r → option_or r (made_program es id) ≡ Some program →
        (made_program es id ≡ Some program → IsInRange k.size id) → IsInRange k.size id
    go (Some p) r x rest = entry_range k h.0 e id p sound ranged h.1 r
    go None r x rest = rest x

-- EACH THREAD THAT HAS A PROGRAM
pub program_range : (script : Script) (es : List Entry) (k : KernelState) (id : ThreadId) (program : ℕ) → IsScript script →
    IsReplay (opened_for script) es k → program_of script es id ≡ Some program → IsInRange script.table id
program_range script es k id program s h is = elim (cases_Bool (is_first script id)) [
  | inl f ↦
      let p = and_parts (id.version == 1) (nat_lt id.number (length script.threads)) f in
      let version : id.version ≡ 1 = eqb-true id.version 1 p.0 in
      let test : nat_lt id.number (length script.threads) ≡ true = p.1 in
      let below : id.number < length script.threads = grind (arith, nat_tests, test) in
      record { number = omega (arith, s.lines.1, below); first = omega (arith, version); last = omega (arith, version) }
  | inr f ↦
      let at : ℕ → Position = λ t. start_of script (program_at script t) (first_id t) in
      let p : IsPlaying script [] (opened_for script) at = opens_playing script at s (λ t _. refl) in
      subst (λ (m : ℕ). IsInRange m id) s.numbered (replay_range (opened_for script) es k id program p.sound p.ranged h
      (rw f at is))
]

-- A PROGRAM STAYS WITHIN THE SCRIPT, where the replies name threads of the table.
runs_within : (script : Script) (replies : ℕ → Option Reply) (p q : Position) (s next : ℕ) (calls : List (ℕ × Phase)) →
    ((i : ℕ) → TellsInRange script.table (replies i)) → IsWithin script p → Runs script.version replies p s calls q next →
    IsWithin script q
runs_within script replies p q s next [] told w h = subst (IsWithin script) (sym h.0) w
runs_within script replies p q s next (c ∷ calls) told w h =
    runs_within script replies (moved p (replies s)) q (s + 1) next calls told
    (next_within script script.version p (replies s) w (told s)).1 h.2

pub stands_within : (script : Script) (es : List Entry) (k : KernelState) (id : ThreadId) (program : ℕ) (q : Position)
    (next : ℕ) → IsScript script → IsReplay (opened_for script) es k →
    ((i : ℕ) → TellsInRange script.table (reply_before k id i)) → program_of script es id ≡ Some program →
    Runs script.version (reply_before k id) (start_of script program id) 1 (calls_of id es) q next → IsWithin script q
stands_within script es k id program q next s h told is runs =
    runs_within script (reply_before k id) (start_of script program id) q 1 next (calls_of id es) told
    (start_within script program id s (program_range script es k id program s h is)) runs

-- EACH CALL is an entry.

calls_few : (id : ThreadId) (es : List Entry) → length (calls_of id es) ≤ length es
calls_few id [] = omega arith
calls_few id (e ∷ es) = omega (arith, calls_few id es, length-append (call_of id e) (calls_of id es), one_call id e)
  where
    one_in : (a : Act) (serial : ℕ) → length (call_in a serial) ≤ 1
    one_in (act.Call c) serial = omega arith
    one_in act.Gone serial = omega arith
    one_in act.Pick serial = omega arith

    one_call : (id : ThreadId) (e : Entry) → length (call_of id e) ≤ 1
    one_call id e =
        cond_both (same_id e.event.who id) (call_in e.event.act e.event.serial) [] (λ (cs : List (ℕ × Phase)). length cs ≤ 1)
        (λ _. one_in e.event.act e.event.serial) (λ _. omega arith)

runs_count : (version : ℕ) (replies : ℕ → Option Reply) (p q : Position) (s next : ℕ) (calls : List (ℕ × Phase)) →
    Runs version replies p s calls q next → next ≡ s + length calls
runs_count version replies p q s next [] h = omega (arith, h.1)
runs_count version replies p q s next (c ∷ calls) h =
    omega (arith, runs_count version replies (moved p (replies s)) q (s + 1) next calls h.2)

pub runs_few : (version : ℕ) (replies : ℕ → Option Reply) (p q : Position) (last : ℕ) (id : ThreadId) (es : List Entry) →
    Runs version replies p 1 (calls_of id es) q (last + 1) → last ≤ length es
runs_few version replies p q last id es h =
    omega (arith, runs_count version replies p q 1 (last + 1) (calls_of id es) h, calls_few id es)
