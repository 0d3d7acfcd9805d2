-- The bound on waits, for the kernel's sections on a board.
use Rattle.std.proofs.Common.{◌≡◌, ◌≢◌, ℕ, false, refl, sym, subst, Option, Some, None, List, [], ◌∷◌, arith}
use Rattle.std.proofs.lemmas.Bool.Decides.{nat_tests}
use Rattle.k_locks.specs.Asks.{Want}
use Rattle.k_locks.specs.Asks as asks
use Rattle.k_bound.specs.Chains.{IsMarkSound}
use Rattle.k_bound.specs.Hands.{Carrier, IsCarrierSound, first_carrier, live_help, meets_taken, removes_taken, requester_of}
use Rattle.k_bound.specs.Sections.{RemoveOthers, Sections}
use Rattle.k_bound.specs.Waits.{AreBounded, HelpingStep, WaitMark, run, started}
use Rattle.k_bound.proofs.Hands as hands
use Rattle.k_bound.proofs.Steps.{run_sound}
use Rattle.k_board.specs.Boards.{Board}
use Rattle.k_board.specs.Words.{Programs}
use Rattle.k_switch.specs.declared.switch.SwitchCall.{SwitchCall}
use Rattle.k_sections.specs.Forgetting.{BoardEvent, Happens, Forgets, carrier_after, forgotten, run_on}
use Rattle.k_sections.specs.Kept.{IsGoodSituation, IsKept}
use Rattle.k_sections.specs.Situations.{Situation, situation_of}
use Rattle.k_sections.specs.Stepping.{kernel_sections}
use Rattle.k_sections.proofs.RestLaws.{begins, laws, others}
use Rattle.k_sections.proofs.Tables.{ThreadTables}

-- A hand doesn't remove itself, and without a hand no word says that a context is taken.
removes_other : {S : Type 0} (v : Carrier S) (h : ℕ) → v.hand ≡ Some h → (w : Option Want) →
    ((n : ℕ) → w ≡ Some (asks.Context n) → n ≢ h) → removes_taken v w ≡ false
removes_other v h at None other = refl
removes_other v h at (Some asks.Table) other = refl
removes_other v h at (Some (asks.Context n)) other = let ne = other n refl in rw at (grind (arith, nat_tests, ne))
removes_other v h at (Some (asks.Thread n)) other = refl
removes_other v h at (Some asks.Ready) other = refl

meets_none : {S : Type 0} (k : Sections S) (Good : S → Type 0) (v : Carrier S) (hand : Option ℕ) → v.hand ≡ hand → Good v.state →
    RemoveOthers S k Good → meets_taken k v hand ≡ false
meets_none k Good v None at g apart = rw at refl
meets_none k Good v (Some h) at g apart = removes_other v h at (k.wants v.state h) (λ n. apart v.state h n g)

module _ (tables : ThreadTables) (g : Programs) (calls : Board → ℕ → SwitchCall) (I : Board → Type 0) (k : IsKept g I) where
  abbrev pub sections : Sections Situation
  sections = kernel_sections g calls

  pub got_bounded : (b : Board) (requester : ℕ) (steps : List HelpingStep) → I b →
      AreBounded (run sections steps (started (situation_of b) requester)).got
  got_bounded b requester steps h =
      (run_sound sections (IsGoodSituation I) (laws tables g calls I k) steps (situation_of b) requester
      (begins tables g calls I k b h)).1

  -- where no mark stands it doesn't matter which contexts were removed
  forgotten_ok : (v : Carrier Situation) (m : Option WaitMark) → v.mark ≡ m → IsCarrierSound sections (IsGoodSituation I) v →
      IsCarrierSound sections (IsGoodSituation I) (forgotten v m)
  forgotten_ok v (Some mark) e ok = ok
  forgotten_ok v None e ok =
      let s = situation_of v.state.board in
      let unmarked = subst (λ (m : Option WaitMark). IsMarkSound sections s (requester_of v) (live_help sections s v.help) m)
      (sym e) tt in
      ((begins tables g calls I k v.state.board ok.0.0.board, ok.0.1, unmarked), ok.1, ok.2)

  after_ok : (event : BoardEvent) (v : Carrier Situation) → IsCarrierSound sections (IsGoodSituation I) v →
      IsCarrierSound sections (IsGoodSituation I) (carrier_after g calls event v)
  after_ok (Happens event) v ok = hands.happened_ok sections (IsGoodSituation I) (laws tables g calls I k) event v ok
  after_ok Forgets v ok = forgotten_ok v v.mark refl ok

  run_ok : (events : List BoardEvent) (v : Carrier Situation) → IsCarrierSound sections (IsGoodSituation I) v →
      IsCarrierSound sections (IsGoodSituation I) (run_on g calls events v)
  run_ok [] v ok = ok
  run_ok (event ∷ events) v ok = run_ok events (carrier_after g calls event v) (after_ok event v ok)

  pub carrier_sound : (b : Board) (own : ℕ) (events : List BoardEvent) → I b →
      IsCarrierSound sections (IsGoodSituation I) (run_on g calls events (first_carrier (situation_of b) own))
  carrier_sound b own events h =
      run_ok events (first_carrier (situation_of b) own) ((begins tables g calls I k b h, tt, tt), tt, λ z. cc)

  pub got_by_hand : (b : Board) (own : ℕ) (events : List BoardEvent) → I b →
      AreBounded (run_on g calls events (first_carrier (situation_of b) own)).got
  got_by_hand b own events h = (carrier_sound b own events h).0.1

  pub never_taken : (b : Board) (own : ℕ) (events : List BoardEvent) → I b →
      meets_taken sections (run_on g calls events (first_carrier (situation_of b) own))
      (run_on g calls events (first_carrier (situation_of b) own)).hand ≡ false
  never_taken b own events h =
      let v = run_on g calls events (first_carrier (situation_of b) own) in
      meets_none sections (IsGoodSituation I) v v.hand refl (carrier_sound b own events h).0.0 (others tables g calls I k)
