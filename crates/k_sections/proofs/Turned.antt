-- The next step of a context is a turn of the board. Each turn is its next step, but for a removal that waits for a carrier,
-- and for the
-- call that begins a switch.
use Rattle.std.proofs.Common.{◌≡◌, ℕ, true, refl, ◌⊎◌, inl, inr, Option, ◌≢◌, Bool, false, sym, ap, ◌∙◌, subst, Some, None}
use Rattle.k_ids.specs.declared.calls.Reply.{Reply}
use Rattle.k_script.specs.declared.registers.Next.{Next}
use Rattle.k_script.specs.declared.registers.Next.TheVariants as next
use Rattle.k_ipc.specs.SendTable as send
use Rattle.k_ipc.specs.ReceiveTable as receive
use Rattle.k_threads.specs.CreateTable as create
use Rattle.k_threads.specs.DestroyTable as destroy
use Rattle.k_caller.specs.declared.thread.ThreadLocation.{ThreadLocation}
use Rattle.k_caller.specs.declared.thread.ThreadLocation.TheVariants as location
use Rattle.k_caller.specs.Waits as alone
use Rattle.k_switch.specs.declared.switch.SwitchCall.{SwitchCall}
use Rattle.k_switch.specs.Switches.{SwitchAt}
use Rattle.k_switch.specs.Switches as switch
use Rattle.k_board.specs.Words.{Programs}
use Rattle.k_board.specs.Boards.{At, Alone, InSend, InReceive, InCreate, InDestroy, InSwitch}
use Rattle.k_board.specs.Boards.{Resting, Coming, Nowhere, Board, id_at, owner_of}
use Rattle.k_board.specs.Steps.{alone_board, switch_board, Answers, create_board, destroy_board, receive_board, send_board}
use Rattle.k_board.specs.Turns.{Turn, is_going, sends, receives, creates, destroys, goes_alone}
use Rattle.k_board.specs.Turns.{begins, turns_to_work, wakes, switches, begins_switch, ends_switch}
use Rattle.k_good.proofs.Owners.{Named}
use Rattle.k_sections.specs.Stepping.{IsStill, has_ended, is_coming, has_died, is_nowhere, alone_after, board_after}
use Rattle.k_sections.specs.Stepping.{called_board, response_to, switch_after, IsStep, acquired, removed_by}
use Rattle.k_sections.proofs.Answered.{response_may, held_owned}
use Rattle.std.specs.Prelude.{if◌then◌else◌}
use Rattle.std.proofs.lemmas.Bool.{false≢true}
use Rattle.k_ids.specs.declared.threads.Message.{Message}
use Rattle.k_ids.specs.declared.state_word.StateWord.{StateWord}
use Rattle.k_locks.specs.declared.locks.Lock.{Lock}
use Rattle.k_locks.specs.Asks.{Ask, Response, want_of}
use Rattle.k_locks.specs.Asks as asks
use Rattle.k_locks.specs.Locks.{lowest_held}
use Rattle.k_locks.proofs.Ranks.{lowest_is_held}
use Rattle.k_good.specs.Locks.{locks_at}
use Rattle.k_sections.specs.Stepping as stepping
use Rattle.k_sections.specs.Words.{same_words}
use Rattle.k_sections.proofs.LockSteps.{ranked_at}
use Rattle.k_sections.proofs.Tables.{ThreadTables}
use Rattle.k_sections.proofs.Wanted.{create_wants, receive_wants, removes_at, send_wants, switch_wants}
use Rattle.k_sections.proofs.Words.{differ_where, same_where}

module _ (g : Programs) (b : Board) (h : Named b) (i : ℕ) where
  call_turns : (last : Option Reply) (n : Next) → (b.context i).at ≡ Alone (location.Between last) →
      g.next (b.context i).position last ≡ n → Turn g b i (called_board g b i last n)
  call_turns last (next.Phase f) at e = begins last f at e
  call_turns last (next.Work count) at e = turns_to_work last count at e

  asked_turns : (q : ThreadLocation) → (b.context i).at ≡ Alone q → alone.can_ask q ≡ true →
      Turn g b i (alone_board g b i (b.context i) q (response_to b (alone.ask_of (id_at b i) (b.context i).own q)))
  asked_turns q at can =
      let a = alone.ask_of (id_at b i) (b.context i).own q in
      goes_alone q (response_to b a) at can (response_may b h a)

  alone_turns : (q : ThreadLocation) → (b.context i).at ≡ Alone q → (Turn g b i (alone_after g b i q)) ⊎ IsStill (Alone q)
  alone_turns (location.Between last) at = inl (call_turns last (g.next (b.context i).position last) at refl)
  alone_turns location.Asleep at = inl (wakes at)
  alone_turns location.Ended at = inr has_ended
  alone_turns location.Dead at = inr has_died
  alone_turns location.FallAsleep at = inl (asked_turns location.FallAsleep at refl)
  alone_turns location.LookAgain at = inl (asked_turns location.LookAgain at refl)
  alone_turns (location.LoadMail from) at = inl (asked_turns (location.LoadMail from) at refl)
  alone_turns (location.Work count) at = inl (asked_turns (location.Work count) at refl)
  alone_turns location.CommitEnd at = inl (asked_turns location.CommitEnd at refl)

  switch_asked : (c : SwitchCall) (q : SwitchAt) → (b.context i).at ≡ InSwitch c q → is_going q ≡ true →
      Turn g b i (switch_board b i (b.context i) c q (response_to b (switch.ask_of c q)))
  switch_asked c q at going =
      let a = switch.ask_of c q in
      switches c q (response_to b a) at going (response_may b h a)

  switch_turns : (c : SwitchCall) (q : SwitchAt) → (b.context i).at ≡ InSwitch c q → Turn g b i (switch_after b i c q)
  switch_turns c (switch.Finished s) at = ends_switch c s at
  switch_turns c switch.AcquireReady at = switch_asked c switch.AcquireReady at refl
  switch_turns c (switch.Locked p) at = switch_asked c (switch.Locked p) at refl
  switch_turns c (switch.Returned s) at = switch_asked c (switch.Returned s) at refl

  turns_at : (calls : Board → ℕ → SwitchCall) (p : At) → (b.context i).at ≡ p →
      (Turn g b i (board_after g calls b i p)) ⊎ IsStill p
  turns_at calls (Alone q) at = alone_turns q at
  turns_at calls (InSend c q) at =
      let a = send.ask_of c (b.context i).own q in inl (sends c q (response_to b a) at (response_may b h a))
  turns_at calls (InReceive c q) at =
      let a = receive.ask_of c (b.context i).own q in inl (receives c q (response_to b a) at (response_may b h a))
  turns_at calls (InCreate c q) at =
      let a = create.ask_of c (b.context i).own q in inl (creates c q (response_to b a) at (response_may b h a))
  turns_at calls (InDestroy c q) at =
      let a = destroy.ask_of c (b.context i).own q in inl (destroys c q (response_to b a) at (response_may b h a))
  turns_at calls (InSwitch c q) at = inl (switch_turns c q at)
  turns_at calls Resting at = inl (begins_switch (calls b i) at)
  turns_at calls Coming at = inr is_coming
  turns_at calls Nowhere at = inr is_nowhere

  pub step_turns : (calls : Board → ℕ → SwitchCall) → (Turn g b i (board_after g calls b i (b.context i).at)) ⊎
      IsStill (b.context i).at
  step_turns calls = turns_at calls (b.context i).at refl

-- EACH TURN IS THE NEXT STEP

record KeptWant (a : Ask) : Type 0 where
  number : ℕ
  wants : want_of a ≡ Some (asks.Context number)

module _ (tables : ThreadTables) (b : Board) (h : Named b) where
  exchanged_is : (n : ℕ) (old : StateWord) (r : Response) (t : Bool) → same_words (b.seen n).word old ≡ t →
      r ≡ (if t then asks.Won else asks.Lost (b.seen n).word) →
      r ≡ (if same_words (b.seen n).word old then asks.Won else asks.Lost (b.seen n).word)
  exchanged_is n old r t e q = q ∙ ap (λ (z : Bool). if z then asks.Won else asks.Lost (b.seen n).word) (sym e)

  unlocked : (n : ℕ) → ((l : Lock) → owner_of b l ≢ Some n) → (o : Option Lock) → lowest_held (locks_at (b.context n).at) ≡ o →
      asks.Removed ≡ removed_by o
  unlocked n none None e = refl
  unlocked n none (Some l) e =
      absurd (none l (held_owned b h l n (lowest_is_held (locks_at (b.context n).at) l (ranked_at tables (b.context n).at) e)))

  -- What a step may be answered is what the words and locks give, or that a context isn't removed.
  response_is : (a : Ask) (r : Response) → Answers b a r → (r ≡ response_to b a) ⊎ (r ≡ asks.Kept)
  response_is (asks.Load n) (asks.Word w) e = inl (ap (λ (v : StateWord). asks.Word v) (sym e))
  response_is (asks.LoadMail n) (asks.Mail m) e = inl (ap (λ (v : Message). asks.Mail v) (sym e))
  response_is (asks.Post n m) asks.Stored e = inl refl
  response_is (asks.Exchange n old new) asks.Won e =
      inl (exchanged_is n old asks.Won true (same_where (b.seen n).word old e) refl)
  response_is (asks.Exchange n old new) (asks.Lost w) e =
      inl (exchanged_is n old (asks.Lost w) false (differ_where (b.seen n).word old (λ q. e.1 (sym e.0 ∙ q)))
      (ap (λ (v : StateWord). asks.Lost v) (sym e.0)))
  response_is (asks.Acquire l) asks.Got e = inl (ap acquired (sym e))
  response_is (asks.Acquire l) (asks.Owned o) e = inl (ap acquired (sym e))
  response_is (asks.Release l) asks.Released e = inl refl
  response_is (asks.Place id program priority) asks.Placed e = inl refl
  response_is (asks.Remove id) asks.Removed e = inl (unlocked id.number e (lowest_held (locks_at (b.context id.number).at)) refl)
  response_is (asks.Remove id) asks.Kept e = inr refl
  response_is a r e = absurd e

  -- a step that is answered so removes a context
  kept_wants : (a : Ask) → Answers b a asks.Kept → KeptWant a
  kept_wants (asks.Remove id) an = record { number = id.number; wants = refl }
  kept_wants a an = absurd an

-- THE TURN

module _ (tables : ThreadTables) (g : Programs) (calls : Board → ℕ → SwitchCall) (b : Board) (h : Named b) (i : ℕ) where
  at_step : (p : At) → (b.context i).at ≡ p → board_after g calls b i p ≡ board_after g calls b i (b.context i).at
  at_step p at = ap (board_after g calls b i) (sym at)

  alone_kept : (p : ThreadLocation) → Answers b (alone.ask_of (id_at b i) (b.context i).own p) asks.Kept → ⊥
  alone_kept location.FallAsleep an = an
  alone_kept location.LookAgain an = an
  alone_kept (location.LoadMail from) an = an
  alone_kept (location.Work count) an = an
  alone_kept location.CommitEnd an = an
  alone_kept (location.Between last) an = an
  alone_kept location.Asleep an = an
  alone_kept location.Ended an = an
  alone_kept location.Dead an = an

  alone_is : (p : ThreadLocation) → alone.can_ask p ≡ true →
      alone_board g b i (b.context i) p (response_to b (alone.ask_of (id_at b i) (b.context i).own p)) ≡ alone_after g b i p
  alone_is location.FallAsleep can = refl
  alone_is location.LookAgain can = refl
  alone_is (location.LoadMail from) can = refl
  alone_is (location.Work count) can = refl
  alone_is location.CommitEnd can = refl
  alone_is (location.Between last) can = absurd (false≢true can)
  alone_is location.Asleep can = absurd (false≢true can)
  alone_is location.Ended can = absurd (false≢true can)
  alone_is location.Dead can = absurd (false≢true can)

  switch_is : (c : SwitchCall) (p : SwitchAt) → is_going p ≡ true →
      switch_board b i (b.context i) c p (response_to b (switch.ask_of c p)) ≡ switch_after b i c p
  switch_is c switch.AcquireReady going = refl
  switch_is c (switch.Locked p) going = refl
  switch_is c (switch.Returned s) going = refl
  switch_is c (switch.Finished s) going = absurd (false≢true going)

  -- the board where a removal has to wait
  abbrev kept_board : At → Board
  kept_board (InDestroy c p) = destroy_board g b i (b.context i) c p asks.Kept
  kept_board p = b

  pub turn_steps : (b' : Board) → Turn g b i b' → IsStep g calls b i b'
  turn_steps _ (sends c p r at an) = elim (response_is tables b h (send.ask_of c (b.context i).own p) r an) [
    | inl e ↦ stepping.steps (ap (λ (z : Response). send_board g b i (b.context i) c p z) e ∙ at_step (InSend c p) at)
    | inr e ↦
        let w = kept_wants tables b h (send.ask_of c (b.context i).own p)
        (subst (Answers b (send.ask_of c (b.context i).own p)) e an) in
        absurd (send_wants c (b.context i).own p w.number w.wants)
  ]
  turn_steps _ (receives c p r at an) = elim (response_is tables b h (receive.ask_of c (b.context i).own p) r an) [
    | inl e ↦ stepping.steps (ap (λ (z : Response). receive_board g b i (b.context i) c p z) e ∙ at_step (InReceive c p) at)
    | inr e ↦
        let w = kept_wants tables b h (receive.ask_of c (b.context i).own p)
        (subst (Answers b (receive.ask_of c (b.context i).own p)) e an) in
        absurd (receive_wants c (b.context i).own p w.number w.wants)
  ]
  turn_steps _ (creates c p r at an) = elim (response_is tables b h (create.ask_of c (b.context i).own p) r an) [
    | inl e ↦ stepping.steps (ap (λ (z : Response). create_board g b i (b.context i) c p z) e ∙ at_step (InCreate c p) at)
    | inr e ↦
        let w = kept_wants tables b h (create.ask_of c (b.context i).own p)
        (subst (Answers b (create.ask_of c (b.context i).own p)) e an) in
        absurd (create_wants c (b.context i).own p w.number w.wants)
  ]
  turn_steps _ (destroys c p r at an) = elim (response_is tables b h (destroy.ask_of c (b.context i).own p) r an) [
    | inl e ↦ stepping.steps (ap (λ (z : Response). destroy_board g b i (b.context i) c p z) e ∙ at_step (InDestroy c p) at)
    | inr e ↦
        let w = kept_wants tables b h (destroy.ask_of c (b.context i).own p)
        (subst (Answers b (destroy.ask_of c (b.context i).own p)) e an) in
        let m = removes_at (b.context i).own (InDestroy c p) w.number w.wants in
        stepping.keeps m.call (at ∙ m.at) (ap (λ (z : Response). destroy_board g b i (b.context i) c p z) e ∙ ap kept_board m.at)
  ]
  turn_steps _ (goes_alone p r at can an) = elim (response_is tables b h (alone.ask_of (id_at b i) (b.context i).own p) r an) [
    | inl e ↦
        stepping.steps (ap (λ (z : Response). alone_board g b i (b.context i) p z) e ∙ alone_is p can ∙ at_step (Alone p) at)
    | inr e ↦ absurd (alone_kept p (subst (Answers b (alone.ask_of (id_at b i) (b.context i).own p)) e an))
  ]
  turn_steps _ (begins l f at e) = stepping.steps (ap (called_board g b i l) (sym e) ∙ at_step (Alone (location.Between l)) at)
  turn_steps _ (turns_to_work l count at e) =
      stepping.steps (ap (called_board g b i l) (sym e) ∙ at_step (Alone (location.Between l)) at)
  turn_steps _ (wakes at) = stepping.steps (at_step (Alone location.Asleep) at)
  turn_steps _ (switches c p r at going an) = elim (response_is tables b h (switch.ask_of c p) r an) [
    | inl e ↦
        stepping.steps (ap (λ (z : Response). switch_board b i (b.context i) c p z) e ∙ switch_is c p going
        ∙ at_step (InSwitch c p) at)
    | inr e ↦
        let w = kept_wants tables b h (switch.ask_of c p) (subst (Answers b (switch.ask_of c p)) e an) in
        absurd (switch_wants c p w.number w.wants)
  ]
  turn_steps _ (begins_switch c at) = stepping.begins c at refl
  turn_steps _ (ends_switch c s at) = stepping.steps (at_step (InSwitch c (switch.Finished s)) at)
