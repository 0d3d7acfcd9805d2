-- A step of a context writes words and mails beside its point, which moves no ledger.
use Rattle.std.proofs.Common.{◌≡◌, ◌≢◌, ℕ, ◌+◌, true, List, [], ◌∷◌, ◌++◌, refl, sym, ap, ◌∙◌, subst, Option, Some, None}
use Rattle.k_board.specs.Steps.{with_word, wrote}
use Rattle.k_board.specs.Words.{Programs, Seen, call_noted, noted}
use Rattle.k_ids.specs.declared.calls.Act.{Act}
use Rattle.k_ids.specs.declared.calls.Act.TheVariants as act
use Rattle.k_ids.specs.declared.calls.Outcome.{Outcome}
use Rattle.k_ids.specs.declared.calls.Outcome.TheVariants as outcome
use Rattle.k_ids.specs.declared.calls.Phase.{Phase}
use Rattle.k_ids.specs.declared.calls.Phase.TheVariants as phase
use Rattle.k_ids.specs.declared.histories.Entry.{Entry}
use Rattle.k_ids.specs.declared.threads.ThreadId.{ThreadId}
use Rattle.k_locks.specs.Asks.{Ask, Response}
use Rattle.k_locks.specs.Asks as asks
use Rattle.k_locks.specs.Points.{entry_with}
use Rattle.k_locks.specs.declared.points.Point.{Point}
use Rattle.k_model.proofs.Left.{create_refused, create_tells, renewed_other}
use Rattle.k_model.proofs.Maps.{upd_cases, upd_other, upd_same}
use Rattle.k_model.specs.Keeps.{renewed_call}
use Rattle.k_model.specs.Maps.{upd}
use Rattle.k_model.specs.State.{KernelState}
use Rattle.k_model.specs.Step.{acted, called, may_act}
use Rattle.k_plays.proofs.Noted.{call_moves}
use Rattle.k_plays.proofs.Outcomes.{call_unfreed}
use Rattle.k_plays.proofs.Points.{point_played}
use Rattle.k_plays.specs.Ledgers.{AreLedgers, IsGiven, MakesPoint, places_of}
use Rattle.k_plays.specs.Messages.{IsFilled}
use Rattle.k_plays.specs.Scripts.{AreOf}
use Rattle.k_positions.proofs.Histories.{step_gives}
use Rattle.k_positions.specs.Positions.{begun}
use Rattle.k_room.specs.Histories.{LeadsTo}
use Rattle.k_script.specs.Limits.{IsScript}
use Rattle.k_script.specs.Plays.{IsWithin, Position, created_program, start_of}
use Rattle.k_script.specs.Script.{Script}

-- WRITES

pub wrote_places : (s : ℕ → Seen) (a : Ask) (r : Response) (t : ℕ) → places_of (wrote s a r) t ≡ places_of s t
wrote_places s (asks.Post n m) asks.Stored t =
    upd_cases (λ (v : Seen). v.position ≡ (s t).position) s n (record (s n) { mail = m }) t (λ e. ap (places_of s) (sym e))
    (λ _. refl)
wrote_places s (asks.Exchange n old new) asks.Won t =
    upd_cases (λ (v : Seen). v.position ≡ (s t).position) s n (with_word (s n) new) t (λ e. ap (places_of s) (sym e)) (λ _. refl)
wrote_places s a r t = refl

-- Ledgers with the same positions
same_ledgers : (script : Script) (es : List Entry) (k : KernelState) (s v : ℕ → Seen) →
    ((t : ℕ) → places_of v t ≡ places_of s t) → AreLedgers script es k s → AreLedgers script es k v
same_ledgers script es k s v same h =
    let maps : places_of s ≡ places_of v = λ i t. sym (same t) i in
    record {
      leads = subst (LeadsTo script es k) maps h.leads;
      within = λ t l. subst (IsWithin script) (sym (same t)) (h.within t l);
      filled = λ t l. subst IsFilled (sym (same t)) (h.filled t l);
      words = h.words;
    }

pub writes_keep : (script : Script) (es : List Entry) (k : KernelState) (s : ℕ → Seen) (a : Ask) (r : Response) →
    AreLedgers script es k s → AreLedgers script es k (wrote s a r)
writes_keep script es k s a r h = same_ledgers script es k s (wrote s a r) (wrote_places s a r) h

-- THE CALLER'S OWN POSITION after its call is the one that its context has: the thread that it may have made is another.

module _ (script : Script) (k n : KernelState) (who : ThreadId) (serial : ℕ) (o : Outcome) (m : ℕ → Position) where
  create_own : (program priority : ℕ) (r : Option ℕ) → renewed_call (called k who serial) (phase.Create program priority) ≡ r →
      may_act k who serial (act.Call (phase.Create program priority)) ≡ true →
      acted k who serial (act.Call (phase.Create program priority)) ≡ (n, o) →
      begun script m (Some program) o who.number ≡ m who.number
  create_own program priority None found may gives =
      let is : o ≡ outcome.Full _ _ = sym (ap (λ (r : KernelState × Outcome). r.1) gives)
      ∙ create_refused k who serial program priority found in
      ap (λ (x : Outcome). begun script m (Some program) x who.number) is
  create_own program priority (Some number) found may gives =
      let new : ThreadId = record { number = number; version = (k.place number).version + 1 } in
      let is : o ≡ outcome.Made new = sym (ap (λ (r : KernelState × Outcome). r.1) gives)
      ∙ create_tells k who serial program priority number may found in
      let apart : who.number ≢ number = renewed_other k who serial program priority number may found in
      ap (λ (x : Outcome). begun script m (Some program) x who.number) is
      ∙ upd_other m number (start_of script program new) who.number apart

  call_own : (c : Phase) → may_act k who serial (act.Call c) ≡ true → acted k who serial (act.Call c) ≡ (n, o) →
      begun script m (created_program (act.Call c)) o who.number ≡ m who.number
  call_own (phase.Create program priority) may gives =
      create_own program priority (renewed_call (called k who serial) (phase.Create program priority)) refl may gives
  call_own (phase.Send to message zero joined) may gives = refl
  call_own (phase.Reply to message zero) may gives = refl
  call_own (phase.Receive from zero) may gives = refl
  call_own (phase.Destroy victim) may gives = refl
  call_own phase.End may gives = refl

own_place : (script : Script) (g : Programs) (k n : KernelState) (s : ℕ → Seen) (who : ThreadId) (serial : ℕ) (c : Phase)
    (o : Outcome) (at : Position) → AreOf script g → may_act k who serial (act.Call c) ≡ true →
    acted k who serial (act.Call c) ≡ (n, o) → places_of (call_noted g s who at c o) who.number ≡ at
own_place script g k n s who serial c o at are may gives =
    call_moves script g are s who at c who.number o (call_unfreed k n who serial c o gives)
    ∙ call_own script k n who serial o (upd (places_of s) who.number at) c may gives
    ∙ upd_same (places_of s) who.number at

-- A STEP WITH A POINT

module _ (script : Script) (g : Programs) (es : List Entry) (k n : KernelState) (s : ℕ → Seen) (last : ℕ → ℕ) (p : Point)
    (at : Position) (a : Ask) (r : Response) (limits : IsScript script) (are : AreOf script g) (h : AreLedgers script es k s)
    (m : MakesPoint g k s last p (wrote (noted g s at (Some p)) a r p.who.number).position n) where
  abbrev after : ℕ → Seen
  after = wrote (noted g s at (Some p)) a r

  given_at : (b : Act) (serial : ℕ) → p.act ≡ b → may_act k p.who serial b ≡ true → acted k p.who serial b ≡ (n, p.outcome) →
      IsGiven g k s p.who b (after p.who.number).position → IsGiven g k s p.who b at
  given_at (act.Call c) serial is may gives d =
      let own = own_place script g k n s p.who serial c p.outcome at are may gives in
      let here : (noted g s at (Some p) p.who.number).position ≡ at = own_noted is own in
      subst (λ (q : Position). IsGiven g k s p.who (act.Call c) q)
      (wrote_places (noted g s at (Some p)) a r p.who.number ∙ here) d
    where
      own_noted : p.act ≡ act.Call c → places_of (call_noted g s p.who at c p.outcome) p.who.number ≡ at →
          (noted g s at (Some p) p.who.number).position ≡ at
      own_noted is own = rw is own
  given_at act.Gone serial is may gives d = tt
  given_at act.Pick serial is may gives d = tt

  pub step_keeps : AreLedgers script (es ++ entry_with last p ∷ []) n after
  step_keeps =
      let made = step_gives k n (entry_with last p).event p.outcome m.made in
      let given = given_at p.act (entry_with last p).event.serial refl made.0 made.1 m.given in
      writes_keep script (es ++ entry_with last p ∷ []) n (noted g s at (Some p)) a r
      (point_played script g es k n s last p at limits are h (record { made = m.made; given = given }))
