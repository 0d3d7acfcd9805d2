-- On a board on which the invariant holds, a script's programs and those within its table give the same next at each position
-- that a
-- context has reached.
use Rattle.std.proofs.Common.{◌≡◌, ℕ, ◌<◌, true, refl, ap, subst, List}
use Rattle.k_ids.specs.declared.histories.Entry.{Entry}
use Rattle.k_model.specs.State.{KernelState, id_of}
use Rattle.k_script.specs.Limits.{IsScript}
use Rattle.k_script.specs.Script.{Script}
use Rattle.k_board.specs.Words.{Programs}
use Rattle.k_switch.specs.declared.switch.SwitchCall.{SwitchCall}
use Rattle.k_switch.specs.Switches.{SwitchAt}
use Rattle.k_switch.specs.Switches as switch
use Rattle.k_board.specs.Boards.{Alone, At, Board, Coming, Context, InCreate, InDestroy}
use Rattle.k_board.specs.Boards.{InReceive, InSend, InSwitch, Nowhere, Resting}
use Rattle.k_board.specs.Facts.{AllSay}
use Rattle.k_board.specs.Places.{facts_of, facts_switch}
use Rattle.k_good.specs.Ranges.{is_threads}
use Rattle.k_plays.specs.Scripts.{programs_of, ranged_programs}
use Rattle.k_plays.proofs.Points.{goes_on_with}
use Rattle.k_plays.proofs.Tables.{ranged_are}
use Rattle.k_invariant.specs.Invariant.{BoardHolds}
use Rattle.k_invariant.proofs.Keeps.{told_by}
use Rattle.k_kernel.proofs.Programs.{Agree, all_own}
use Rattle.k_kernel.proofs.Turns.{AgreeHere}

module _ (script : Script) (limits : IsScript script) (b : Board) (es : List Entry) (k : KernelState)
    (h : BoardHolds script b es k) where
  abbrev G : Programs
  G = ranged_programs script

  -- within the table
  pub agree : (i : ℕ) → i < script.table → Agree (programs_of script) G.next (b.seen i).position (b.seen i).told
  agree i inside q r walk =
      let x = goes_on_with script G es k b.seen (id_of k i) q r limits (ranged_are script) h.ledgers inside
      (told_by script limits b es k h (id_of k i) refl) walk in
      (ranged_are script).gives q r x.bounds

  -- each thread is of the table
  pub inside_table : (i : ℕ) → is_threads (b.context i).at ≡ true → i < script.table
  inside_table i t = subst (λ (n : ℕ). i < n) h.size (h.proper.within.threads i t).number

  pub agree_here : (i : ℕ) → AgreeHere (programs_of script) G.next b i
  agree_here i l at =
      let inside = inside_table i (ap is_threads at) in
      let facts = subst (λ (p : At). AllSay G b i (b.context i) (facts_of p)) at (h.proper.good.places i) in
      agree i inside (b.context i).position l facts.1.1.0.1

  facts_own : (i : ℕ) → i < script.table → AllSay (programs_of script) b i (b.context i) (facts_of (b.context i).at)
  facts_own i inside =
      all_own (programs_of script) G.next b i (agree i inside) (b.context i) (facts_of (b.context i).at) (h.proper.good.places i)

  -- no fact of a switch is about a program
  switch_own : (i : ℕ) (x : Context) (c : SwitchCall) (p : SwitchAt) → AllSay G b i x (facts_switch c p) →
      AllSay (programs_of script) b i x (facts_switch c p)
  switch_own i x c switch.AcquireReady s = tt
  switch_own i x c (switch.Locked p) s = (s.0, tt)
  switch_own i x c (switch.Returned d) s = (s.0, tt)
  switch_own i x c (switch.Finished d) s = tt

  pub facts_all : (i : ℕ) → AllSay (programs_of script) b i (b.context i) (facts_of (b.context i).at)
  facts_all i = go (b.context i).at refl
    where
      own : is_threads (b.context i).at ≡ true → (p : At) → (b.context i).at ≡ p →
          AllSay (programs_of script) b i (b.context i) (facts_of p)
      own t p e =
          subst (λ (q : At). AllSay (programs_of script) b i (b.context i) (facts_of q)) e (facts_own i (inside_table i t))

      go : (p : At) → (b.context i).at ≡ p → AllSay (programs_of script) b i (b.context i) (facts_of p)
      go (Alone p) e = own (ap is_threads e) (Alone p) e
      go (InSend c p) e = own (ap is_threads e) (InSend c p) e
      go (InReceive c p) e = own (ap is_threads e) (InReceive c p) e
      go (InCreate c p) e = own (ap is_threads e) (InCreate c p) e
      go (InDestroy c p) e = own (ap is_threads e) (InDestroy c p) e
      go (InSwitch c p) e =
          switch_own i (b.context i) c p (subst (λ (q : At). AllSay G b i (b.context i) (facts_of q)) e (h.proper.good.places i))
      go Resting e = tt
      go Coming e = tt
      go Nowhere e = tt
