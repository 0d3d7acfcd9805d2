-- The steps of a thread outside of any section, the beginnings of its calls, and a switch.
use Rattle.std.proofs.Common.{◌≡◌, ◌≢◌, ℕ, ◌+◌, Bool, true, false, cond, refl, sym, ap, ◌∙◌, subst, [], Option, Some, None, arith, ◌⊎◌, inl, inr, eqb}
use Rattle.k_ids.specs.declared.threads.ThreadId.{ThreadId}
use Rattle.k_ids.specs.declared.threads.Message.{Message}
use Rattle.k_ids.specs.declared.calls.Phase.{Phase}
use Rattle.k_ids.specs.declared.calls.Phase.TheVariants as phase
use Rattle.k_ids.specs.declared.calls.Reply.{Reply}
use Rattle.k_ids.specs.declared.calls.Reply.TheVariants as reply
use Rattle.k_ids.specs.declared.state_word.Result4.TheVariants as result4
use Rattle.k_ids.specs.declared.state_word.State.{State}
use Rattle.k_ids.specs.declared.state_word.State.TheVariants as state
use Rattle.k_ids.specs.declared.state_word.StateWord.{StateWord}
use Rattle.k_model.specs.Maps.{upd}
use Rattle.k_model.specs.State.{same_id}
use Rattle.k_model.specs.Step.{is_own}
use Rattle.k_model.proofs.Maps.{upd_same}
use Rattle.k_locks.specs.Asks.{Response}
use Rattle.k_locks.specs.Asks as asks
use Rattle.k_locks.specs.Shown.{is_dead}
use Rattle.k_script.specs.declared.registers.Next.TheVariants as next
use Rattle.k_ipc.specs.declared.send.Manner.{Manner}
use Rattle.k_ipc.specs.declared.send.Manner.TheVariants as manner
use Rattle.k_ipc.specs.declared.send.SendCall.{SendCall}
use Rattle.k_ipc.specs.SendTable as send
use Rattle.k_ipc.specs.declared.send.SendOutside.TheVariants as send_outside
use Rattle.k_ipc.specs.declared.receive.ReceiveCall.{ReceiveCall}
use Rattle.k_ipc.specs.declared.receive.ReceiveOutside.TheVariants as receive_outside
use Rattle.k_ipc.specs.ReceiveTable as receive
use Rattle.k_threads.specs.declared.destroy.DestroyCall.{DestroyCall}
use Rattle.k_threads.specs.declared.destroy.DestroyOutside.TheVariants as destroy_outside
use Rattle.k_threads.specs.DestroyTable as destroy
use Rattle.k_caller.specs.declared.thread.ThreadLocation.{ThreadLocation}
use Rattle.k_caller.specs.declared.thread.ThreadLocation.TheVariants as location
use Rattle.k_caller.specs.Waits.{ended_word, is_waiting, looked, off_word, worked}
use Rattle.k_switch.specs.declared.switch.SwitchCall.{SwitchCall}
use Rattle.k_switch.specs.declared.switch.SwitchLocked.TheVariants.{LoadGoal, LoadStart, ReleaseReady}
use Rattle.k_switch.specs.declared.goal.Goal.{Goal}
use Rattle.k_switch.specs.declared.goal.Switched.{Switched}
use Rattle.k_switch.specs.Switches.{SwitchAt}
use Rattle.k_switch.specs.Switches as switch
use Rattle.k_board.specs.Words.{Seen, Programs, called, here, works}
use Rattle.k_board.specs.Boards.{Board, Context, Alone, InSend, InReceive, InDestroy, InSwitch, Resting, hand_of, id_at}
use Rattle.k_board.specs.Facts.{AllSay, IsOr, WaitsBy}
use Rattle.k_board.specs.Places.{facts_alone, facts_switch}
use Rattle.k_board.specs.Moves.{Change, same, calls, leaves, PlaceStep}
use Rattle.k_board.specs.Steps.{alone_board, alone_context, begun, begun_at, placed, switch_board, switch_context, with_word, working}
use Rattle.k_board.proofs.Cases.{if_cases, changed_one, changed_written, kept_free, kept_lock}

-- what a word of one that waits can say
plain_waits : (v : Seen) → WaitsBy v → v.word.state ≡ state.Run result4.Plain → ⊥
plain_waits v (inl d) e = grind arith
plain_waits v (inr (inl d)) e = grind arith
plain_waits v (inr (inr (inl d))) e = grind arith
plain_waits v (inr (inr (inr (inl d)))) e = grind arith
plain_waits v (inr (inr (inr (inr d)))) e = grind (arith, d.state)

sent_waits : (v : Seen) → WaitsBy v → v.word.state ≡ state.Run result4.Sent → (v.word.on ≡ true) × (v.told ≡ Some reply.Sent)
sent_waits v (inl d) e = absurd (grind arith)
sent_waits v (inr (inl d)) e = absurd (grind arith)
sent_waits v (inr (inr (inl d))) e = (d.1, d.2)
sent_waits v (inr (inr (inr (inl d)))) e = absurd (grind arith)
sent_waits v (inr (inr (inr (inr d)))) e = absurd (grind (arith, d.state))

gone_waits : (v : Seen) → WaitsBy v → v.word.state ≡ state.Run result4.Gone → (v.word.on ≡ true) × (v.told ≡ Some reply.Gone)
gone_waits v (inl d) e = absurd (grind arith)
gone_waits v (inr (inl d)) e = absurd (grind arith)
gone_waits v (inr (inr (inl d))) e = absurd (grind arith)
gone_waits v (inr (inr (inr (inl d)))) e = (d.1, d.2)
gone_waits v (inr (inr (inr (inr d)))) e = absurd (grind (arith, d.state))

delivered_waits : (v : Seen) (from : ThreadId) → WaitsBy v → v.word.state ≡ state.Run (result4.Delivered from) → (v.word.on ≡ true) × (v.told ≡ Some (reply.Got from v.mail))
delivered_waits v from (inl d) e = absurd (grind arith)
delivered_waits v from (inr (inl d)) e = absurd (grind arith)
delivered_waits v from (inr (inr (inl d))) e = absurd (grind arith)
delivered_waits v from (inr (inr (inr (inl d)))) e = absurd (grind arith)
delivered_waits v from (inr (inr (inr (inr d)))) e = let same_from : d.from ≡ from = grind (arith, d.state) in (d.on, d.told ∙ ap (λ (u : ThreadId). Some (reply.Got u v.mail)) same_from)

other_waits : (v : Seen) (s : State) → WaitsBy v → v.word.state ≡ s → (s ≡ state.Picking) ⊎ (s ≡ state.Ended) → ⊥
other_waits v s (inl d) e k = grind arith
other_waits v s (inr (inl d)) e k = grind arith
other_waits v s (inr (inr (inl d))) e k = grind arith
other_waits v s (inr (inr (inr (inl d)))) e k = grind arith
other_waits v s (inr (inr (inr (inr d)))) e k = grind (arith, d.state)

module _ (g : Programs) (b : Board) (i : ℕ) (x : Context) where
  abbrev pub Fine : ThreadLocation → Response → Type 0
  Fine p r = PlaceStep g b i (alone_context x p r) (alone_board g b i x p r)

  abbrev pub Sound : ThreadLocation → Type 0
  Sound p = AllSay g b i x (facts_alone p)

  abbrev pub Placed : Context → Type 0
  Placed y = PlaceStep g b i y (placed b i y)

  -- asleep and awake

  pub ok_leave : (b.seen i).word ≡ x.own → Sound location.FallAsleep → Fine location.FallAsleep asks.Won
  ok_leave won h =
      record {
        changes = changed_one (λ t v. Change b i t v) b.seen i (with_word (b.seen i) (off_word x.own)) (subst (λ (u : StateWord). Change b i i (with_word (b.seen i) (off_word u))) won (leaves (ap (λ (u : StateWord). is_waiting u.state) won ∙ h.1.1.1.0))) (λ t. same t);
        others = λ k ne. record { owner = λ t o. o; table = λ o. o; ready = λ o. o; queue = λ t o. refl; numbers = λ o. refl };
        facts = rw (upd_same b.seen i (with_word (b.seen i) (off_word x.own))) (h.0, (h.1.0, (asleep (b.seen i) x.own won h.1.1.1.0 h.1.1.0, tt)));
      }
    where
      asleep : (v : Seen) (own : StateWord) → v.word ≡ own → is_waiting own.state ≡ true → WaitsBy v → WaitsBy (with_word v (off_word own))
      asleep v own e wt (inl d) = grind arith
      asleep v own e wt (inr (inl m)) = inr (inl (grind arith))
      asleep v own e wt (inr (inr (inl s))) = grind arith
      asleep v own e wt (inr (inr (inr (inl s)))) = grind arith
      asleep v own e wt (inr (inr (inr (inr s)))) = grind (arith, s.state)

  pub ok_stays_on : (w : StateWord) → Sound location.FallAsleep → Fine location.FallAsleep (asks.Lost w)
  ok_stays_on w h = record { changes = λ t. same t; others = λ k ne. record { owner = λ t o. o; table = λ o. o; ready = λ o. o; queue = λ t o. refl; numbers = λ o. refl }; facts = (h.0, (h.1.0, (h.1.1.0, tt))) }

  pub ok_woken : Sound location.Asleep → Placed (record x { at = Alone location.LookAgain })
  ok_woken h = record { changes = λ t. same t; others = λ k ne. record { owner = λ t o. o; table = λ o. o; ready = λ o. o; queue = λ t o. refl; numbers = λ o. refl }; facts = h }

  pub ok_looks : (w : StateWord) → (b.seen i).word ≡ w → Sound location.LookAgain → Fine location.LookAgain (asks.Word w)
  ok_looks w is h = record { changes = λ t. same t; others = λ k ne. record { owner = λ t o. o; table = λ o. o; ready = λ o. o; queue = λ t o. refl; numbers = λ o. refl }; facts = by w.state refl }
    where
      said : (s : State) → w.state ≡ s → (b.seen i).word.state ≡ s
      said s e = ap (λ (u : StateWord). u.state) is ∙ e

      on_is : (b.seen i).word.on ≡ true → w.on ≡ true
      on_is q = ap (λ (u : StateWord). u.on) (sym is) ∙ q

      by : (s : State) → w.state ≡ s → AllSay g (alone_board g b i x location.LookAgain (asks.Word w)) i (alone_context x location.LookAgain (asks.Word w)) (facts_alone (looked s))
      by state.Dead e = (grind arith, tt)
      by (state.Run result4.Plain) e = absurd (plain_waits (b.seen i) h.1.1.0 (said _ e))
      by (state.Run result4.Sent) e = let t = sent_waits (b.seen i) h.1.1.0 (said _ e) in (h.0, ((record { result = result4.Sent; state = e; on = on_is t.0 }, inl is), ((ap is_waiting (said _ e), rw (h.1.0, t.1) here), tt)))
      by (state.Run (result4.Delivered from)) e = let t = delivered_waits (b.seen i) from h.1.1.0 (said _ e) in (h.0, (h.1.0, ((record { result = result4.Delivered from; state = e; on = on_is t.0 }, inl is), ((ap is_waiting (said _ e), t.1), tt))))
      by (state.Run result4.Gone) e = let t = gone_waits (b.seen i) h.1.1.0 (said _ e) in (h.0, ((record { result = result4.Gone; state = e; on = on_is t.0 }, inl is), ((ap is_waiting (said _ e), rw (h.1.0, t.1) here), tt)))
      by (state.Sending to joined) e = (h.0, (h.1.0, (h.1.1.0, (ap is_waiting e, tt))))
      by (state.Receiving from) e = (h.0, (h.1.0, (h.1.1.0, (ap is_waiting e, tt))))
      by state.Picking e = absurd (other_waits (b.seen i) _ h.1.1.0 (said _ e) (inl refl))
      by state.Ended e = absurd (other_waits (b.seen i) _ h.1.1.0 (said _ e) (inr refl))

  pub ok_collects : (from : ThreadId) (m : Message) → (b.seen i).mail ≡ m → Sound (location.LoadMail from) → Fine (location.LoadMail from) (asks.Mail m)
  ok_collects from m is h = record { changes = λ t. same t; others = λ k ne. record { owner = λ t o. o; table = λ o. o; ready = λ o. o; queue = λ t o. refl; numbers = λ o. refl }; facts = (h.0, (h.1.1.0, ((h.1.1.1.0.0, rw (h.1.0, h.1.1.1.0.1, is) here), tt))) }

  pub ok_works : (count : ℕ) (w : StateWord) → (b.seen i).word ≡ w → Sound (location.Work count) → Fine (location.Work count) (asks.Word w)
  ok_works count w is h = record {
    changes = λ t. same t;
    others = λ k ne. record { owner = λ t o. o; table = λ o. o; ready = λ o. o; queue = λ t o. refl; numbers = λ o. refl };
    facts = if_cases (λ (p : ThreadLocation). AllSay g (alone_board g b i x (location.Work count) (asks.Word w)) i (alone_context x (location.Work count) (asks.Word w)) (facts_alone p)) (is_dead w) location.Dead (worked count)
        (λ d. (ap (λ (u : StateWord). is_dead u) is ∙ d, tt))
        (λ d. if_cases (λ (p : ThreadLocation). AllSay g (alone_board g b i x (location.Work count) (asks.Word w)) i (alone_context x (location.Work count) (asks.Word w)) (facts_alone p)) (eqb count 1) (location.Between None) _ (λ q. h) (λ q. h));
  }

  pub ok_ends : (b.seen i).word ≡ x.own → Sound location.CommitEnd → Fine location.CommitEnd asks.Won
  ok_ends won h =
      let run = h.1.1.0.0 in
      let v : Seen = called (b.seen i) None x.position in
      record {
        changes = changed_written (λ t u. Change b i t u) b.seen i v (ended_word x.own)
            (calls (ended_word x.own) None x.position (grind (arith, run.state)) record { version = ap (λ (u : StateWord). u.version) (sym won); alive = refl; any = λ e. absurd cc; one = λ from e. absurd cc; sends = λ to joined e. absurd cc }) (λ t. same t);
        others = λ k ne. record { owner = λ t o. o; table = λ o. o; ready = λ o. o; queue = λ t o. refl; numbers = λ o. refl };
        facts = rw (written b.seen v (ended_word x.own)) (h.0, (refl, ((refl, inl refl), tt)));
      }
    where
      written : (s : ℕ → Seen) (v : Seen) (w : StateWord) → upd (upd s i v) i (with_word (upd s i v i) w) i ≡ with_word v w
      written s v w = upd_same (upd s i v) i _ ∙ ap (λ (u : Seen). with_word u w) (upd_same s i v)

  pub ok_ends_lost : (w : StateWord) → (b.seen i).word ≢ x.own → Sound location.CommitEnd → Fine location.CommitEnd (asks.Lost w)
  ok_ends_lost w lost h = record { changes = λ t. same t; others = λ k ne. record { owner = λ t o. o; table = λ o. o; ready = λ o. o; queue = λ t o. refl; numbers = λ o. refl }; facts = (killed_of h.1.1.0.1 lost, tt) }
    where
      killed_of : IsOr (b.seen i).word x.own → (b.seen i).word ≢ x.own → is_dead (b.seen i).word ≡ true
      killed_of (inl e) n = absurd (n e)
      killed_of (inr d) n = d

  -- what comes next in its program
  module _ (r : Option Reply) (h : Sound (location.Between r)) where
    pub ok_work : (count : ℕ) → g.next x.position r ≡ next.Work count → Placed (working g x r count)
    ok_work count e = record { changes = λ t. same t; others = λ k ne. record { owner = λ t o. o; table = λ o. o; ready = λ o. o; queue = λ t o. refl; numbers = λ o. refl }; facts = (h.0, (h.1.0, ((h.1.1.0.0, works x.position r count h.1.1.0.1 e), tt))) }

    abbrev Begun_by : Phase → Type 0
    Begun_by f = g.next x.position r ≡ next.Phase f → Placed (begun g x r (begun_at b.size (id_at b i) f))

    abbrev send_by : ThreadId → Message → Bool → Manner → SendCall
    send_by to message zero m = record { caller = id_at b i; to = to; message = message; zero = zero; manner = m }

    send_begins : (to : ThreadId) (message : Message) (zero : Bool) (m : Manner) (own : Bool) → same_id to (id_at b i) ≡ own → g.next x.position r ≡ next.Phase (send.phase_by (send_by to message zero m) m) → Placed (begun g x r (InSend (send_by to message zero m) (send.Outside (cond own send_outside.LoadCaller send_outside.AcquireReceiver))))
    send_begins to message zero m true s p = record { changes = λ t. same t; others = λ k ne. record { owner = λ t o. o; table = λ o. o; ready = λ o. o; queue = λ t o. refl; numbers = λ o. refl }; facts = (s, ((refl, refl), (ap (λ (n : ℕ). n + 1) h.0, ((h.1.1.0.0, record { at = x.position; last = r; walk = h.1.1.0.1; call = p; moved = refl }), (h.1.0, tt))))) }
    send_begins to message zero m false s p = record { changes = λ t. same t; others = λ k ne. record { owner = λ t o. o; table = λ o. o; ready = λ o. o; queue = λ t o. refl; numbers = λ o. refl }; facts = (s, ((refl, refl), (ap (λ (n : ℕ). n + 1) h.0, ((h.1.1.0.0, record { at = x.position; last = r; walk = h.1.1.0.1; call = p; moved = refl }), (h.1.0, tt))))) }

    abbrev receive_by : Option ThreadId → Bool → ReceiveCall
    receive_by from zero = record { caller = id_at b i; from = from; zero = zero; picks = false }

    receive_begins : (from : Option ThreadId) (zero own : Bool) → is_own from (id_at b i) ≡ own → g.next x.position r ≡ next.Phase (phase.Receive from zero) → Placed (begun g x r (InReceive (receive_by from zero) (receive.Outside (cond own receive_outside.LoadCaller receive_outside.AcquireOwn))))
    receive_begins from zero true s p = record { changes = λ t. same t; others = λ k ne. record { owner = λ t o. o; table = λ o. o; ready = λ o. o; queue = λ t o. refl; numbers = λ o. refl }; facts = ((refl, s), ((refl, refl), (ap (λ (n : ℕ). n + 1) h.0, ((h.1.1.0.0, record { at = x.position; last = r; walk = h.1.1.0.1; call = p; moved = refl }), (h.1.0, tt))))) }
    receive_begins from zero false s p = record { changes = λ t. same t; others = λ k ne. record { owner = λ t o. o; table = λ o. o; ready = λ o. o; queue = λ t o. refl; numbers = λ o. refl }; facts = ((refl, s), ((refl, refl), (ap (λ (n : ℕ). n + 1) h.0, ((h.1.1.0.0, record { at = x.position; last = r; walk = h.1.1.0.1; call = p; moved = refl }), (h.1.0, tt))))) }

    abbrev destroy_by : ThreadId → DestroyCall
    destroy_by who = record { caller = id_at b i; who = who; count = b.size }

    destroy_begins : (who : ThreadId) (own : Bool) → same_id who (id_at b i) ≡ own → g.next x.position r ≡ next.Phase (phase.Destroy who) → Placed (begun g x r (InDestroy (destroy_by who) (destroy.Outside (cond own destroy_outside.LoadOwn destroy_outside.AcquireTable))))
    destroy_begins who true s p = record { changes = λ t. same t; others = λ k ne. record { owner = λ t o. o; table = λ o. o; ready = λ o. o; queue = λ t o. refl; numbers = λ o. refl }; facts = (s, ((refl, refl), (ap (λ (n : ℕ). n + 1) h.0, ((h.1.1.0.0, record { at = x.position; last = r; walk = h.1.1.0.1; call = p; moved = refl }), (h.1.0, tt))))) }
    destroy_begins who false s p = record { changes = λ t. same t; others = λ k ne. record { owner = λ t o. o; table = λ o. o; ready = λ o. o; queue = λ t o. refl; numbers = λ o. refl }; facts = (s, ((refl, refl), (ap (λ (n : ℕ). n + 1) h.0, ((h.1.1.0.0, record { at = x.position; last = r; walk = h.1.1.0.1; call = p; moved = refl }), (h.1.0, tt))))) }

    pub ok_begins : (f : Phase) → Begun_by f
    ok_begins (phase.Send to message zero true) p = send_begins to message zero manner.Joined (same_id to (id_at b i)) refl p
    ok_begins (phase.Send to message zero false) p = send_begins to message zero manner.Plain (same_id to (id_at b i)) refl p
    ok_begins (phase.Reply to message zero) p = send_begins to message zero manner.Reply (same_id to (id_at b i)) refl p
    ok_begins (phase.Receive from zero) p = receive_begins from zero (is_own from (id_at b i)) refl p
    ok_begins (phase.Create program priority) p = record { changes = λ t. same t; others = λ k ne. record { owner = λ t o. o; table = λ o. o; ready = λ o. o; queue = λ t o. refl; numbers = λ o. refl }; facts = ((refl, refl), (ap (λ (n : ℕ). n + 1) h.0, ((h.1.1.0.0, record { at = x.position; last = r; walk = h.1.1.0.1; call = p; moved = refl }), (h.1.0, tt)))) }
    ok_begins (phase.Destroy who) p = destroy_begins who (same_id who (id_at b i)) refl p
    ok_begins phase.End p = record { changes = λ t. same t; others = λ k ne. record { owner = λ t o. o; table = λ o. o; ready = λ o. o; queue = λ t o. refl; numbers = λ o. refl }; facts = (ap (λ (n : ℕ). n + 1) h.0, ((h.1.1.0.0, record { at = x.position; last = r; walk = h.1.1.0.1; call = p; moved = refl }), (h.1.0, tt))) }

-- A SWITCH

module _ (g : Programs) (b : Board) (i : ℕ) (x : Context) (c : SwitchCall) where
  abbrev pub Switches : SwitchAt → Response → Type 0
  Switches p r = PlaceStep g b i (switch_context x c p r (hand_of b [])) (switch_board b i x c p r)

  pub ok_switch_acquire : b.ready ≡ None → AllSay g b i x (facts_switch c switch.AcquireReady) → Switches switch.AcquireReady asks.Got
  ok_switch_acquire free h = record { changes = λ t. same t; others = λ k ne. record { owner = λ t o. o; table = λ o. o; ready = kept_free (Some i) free; queue = λ t o. refl; numbers = λ o. refl }; facts = (refl, tt) }

  pub ok_switch_owned : (o : ℕ) → AllSay g b i x (facts_switch c switch.AcquireReady) → Switches switch.AcquireReady (asks.Owned o)
  ok_switch_owned o h = record { changes = λ t. same t; others = λ k ne. record { owner = λ t o. o; table = λ o. o; ready = λ o. o; queue = λ t o. refl; numbers = λ o. refl }; facts = tt }

  pub ok_switch_goal : (goal : Goal) (w : StateWord) → AllSay g b i x (facts_switch c (switch.Locked (LoadGoal goal))) → Switches (switch.Locked (LoadGoal goal)) (asks.Word w)
  ok_switch_goal goal w h = record { changes = λ t. same t; others = λ k ne. record { owner = λ t o. o; table = λ o. o; ready = λ o. o; queue = λ t o. refl; numbers = λ o. refl }; facts = h }

  pub ok_switch_start : (back : Option Goal) (number : ℕ) (w : StateWord) → AllSay g b i x (facts_switch c (switch.Locked (LoadStart back number))) → Switches (switch.Locked (LoadStart back number)) (asks.Word w)
  ok_switch_start back number w h = record { changes = λ t. same t; others = λ k ne. record { owner = λ t o. o; table = λ o. o; ready = λ o. o; queue = λ t o. refl; numbers = λ o. refl }; facts = h }

  pub ok_switch_release : (back started : Option Goal) → AllSay g b i x (facts_switch c (switch.Locked (ReleaseReady back started))) → Switches (switch.Locked (ReleaseReady back started)) asks.Released
  ok_switch_release back started h = record { changes = λ t. same t; others = λ k ne. record { owner = λ t o. o; table = λ o. o; ready = kept_lock ne None h.0; queue = λ t o. refl; numbers = λ o. refl }; facts = tt }

  pub ok_switch_returned : (s : Switched) → AllSay g b i x (facts_switch c (switch.Returned s)) → Switches (switch.Returned s) asks.Released
  ok_switch_returned s h = record { changes = λ t. same t; others = λ k ne. record { owner = λ t o. o; table = λ o. o; ready = kept_lock ne None h.0; queue = λ t o. refl; numbers = λ o. refl }; facts = tt }

  -- a switch begins in a carrier's own context, and is taken out once it is over
  pub ok_switch_begins : PlaceStep g b i (record x { at = InSwitch c switch.AcquireReady }) (placed b i (record x { at = InSwitch c switch.AcquireReady }))
  ok_switch_begins = record { changes = λ t. same t; others = λ k ne. record { owner = λ t o. o; table = λ o. o; ready = λ o. o; queue = λ t o. refl; numbers = λ o. refl }; facts = tt }

  pub ok_switch_ends : PlaceStep g b i (record x { at = Resting }) (placed b i (record x { at = Resting }))
  ok_switch_ends = record { changes = λ t. same t; others = λ k ne. record { owner = λ t o. o; table = λ o. o; ready = λ o. o; queue = λ t o. refl; numbers = λ o. refl }; facts = tt }
