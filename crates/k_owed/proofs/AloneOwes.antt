-- What a thread's steps outside of any section take.
use Rattle.std.proofs.Common.{◌≡◌, ◌≢◌, ℕ, ◌+◌, ◌-◌, ◌<◌, ◌≤◌, Bool, true, false, refl, sym, ap, ◌∙◌, subst}
use Rattle.std.proofs.Common.{arith, Option, Some, None, inl, inr, ◌⊎◌}
use Rattle.std.specs.Prelude.{◌==◌, ◌&&◌, if◌then◌else◌}
use Rattle.std.proofs.lemmas.Bool.{false≢true}
use Rattle.std.proofs.lemmas.Bool.Decides.{nat_tests}
use Rattle.k_ids.specs.declared.threads.ThreadId.{ThreadId}
use Rattle.k_ids.specs.declared.calls.Phase.{Phase}
use Rattle.k_ids.specs.declared.calls.Phase.TheVariants as phase
use Rattle.k_ids.specs.declared.calls.Reply.{Reply}
use Rattle.k_ids.specs.declared.state_word.Result4.TheVariants as result4
use Rattle.k_ids.specs.declared.state_word.State.{State}
use Rattle.k_ids.specs.declared.state_word.State.TheVariants as state
use Rattle.k_ids.specs.declared.state_word.StateWord.{StateWord}
use Rattle.k_model.specs.State.{same_id}
use Rattle.k_model.proofs.Maps.{upd_same}
use Rattle.k_model.specs.Step.{is_own}
use Rattle.k_locks.specs.Asks.{Response}
use Rattle.k_locks.specs.Asks as asks
use Rattle.k_locks.specs.Shown.{is_dead, is_dead_state}
use Rattle.k_locks.proofs.Responses.{Each}
use Rattle.k_script.specs.Plays.{Position}
use Rattle.k_script.specs.declared.registers.Next.TheVariants as next
use Rattle.k_ipc.specs.SendTable as send
use Rattle.k_ipc.specs.declared.send.SendOutside.TheVariants as send_outside
use Rattle.k_ipc.specs.declared.send.SendCall.{SendCall}
use Rattle.k_ipc.specs.declared.send.Manner.TheVariants as manner
use Rattle.k_ipc.specs.ReceiveTable as receive
use Rattle.k_ipc.specs.declared.receive.ReceiveOutside.TheVariants as receive_outside
use Rattle.k_ipc.specs.declared.receive.ReceiveCall.{ReceiveCall}
use Rattle.k_threads.specs.DestroyTable as destroy
use Rattle.k_threads.specs.declared.destroy.DestroyOutside.TheVariants as destroy_outside
use Rattle.k_threads.specs.declared.destroy.DestroyCall.{DestroyCall}
use Rattle.k_caller.specs.declared.thread.ThreadLocation.{ThreadLocation}
use Rattle.k_caller.specs.declared.thread.ThreadLocation.TheVariants.{Between, Work, FallAsleep, Asleep}
use Rattle.k_caller.specs.declared.thread.ThreadLocation.TheVariants.{LookAgain, LoadMail, CommitEnd, Ended}
use Rattle.k_caller.specs.declared.thread.ThreadLocation.TheVariants.{Dead}
use Rattle.k_caller.specs.Waits.{can_ask, is_waiting, looked, off_word, worked}
use Rattle.k_caller.specs.Waits as alone
use Rattle.k_board.specs.Words.{Programs, Seen}
use Rattle.k_board.specs.Boards.{Alone, InSend, InReceive, InDestroy, Context, Board, id_at}
use Rattle.k_board.specs.Facts.{AllSay, WaitsBy, may_wait}
use Rattle.k_board.specs.Places.{facts_alone}
use Rattle.k_board.specs.Steps.{Answers, alone_board, alone_context, begun, begun_at, placed, with_word}
use Rattle.k_board.specs.Steps.{working, write}
use Rattle.k_owed.specs.Works.{CountsWork}
use Rattle.k_owed.specs.Owes.{owes_at, owes_of, owes_waiting, rest_of}
use Rattle.k_owed.specs.Owed.{HasStepsLeft, leave_owed, owed_at}
use Rattle.k_owed.proofs.Ends.{loaded_owes, lost_owes, written_leaves}
use Rattle.k_owed.proofs.Lowers.{Exchanges, Lowers, Spends}

-- who is off leaves no more
off_left : (w : StateWord) → leave_owed (off_word w) ≡ 0
off_left w = go (is_waiting w.state)
  where
    go : (t : Bool) → ◌≡◌ {A = ℕ} (if t && false then 1 else 0) 0
    go true = refl
    go false = refl

on_left : (w : StateWord) → is_waiting w.state ≡ true → w.on ≡ true → leave_owed w ≡ 1
on_left w waits on = rw (waits, on) refl

waiting_alive : (s : State) → is_waiting s ≡ true → is_dead_state s ≡ false
waiting_alive (state.Sending to joined) e = refl
waiting_alive (state.Receiving from) e = refl
waiting_alive state.Picking e = refl
waiting_alive state.Dead e = absurd (false≢true e)
waiting_alive (state.Run result) e = absurd (false≢true e)
waiting_alive state.Ended e = absurd (false≢true e)

-- what a thread that waits may find of itself
abbrev is_found : State → Bool
is_found state.Dead = true
is_found (state.Run result4.Plain) = false
is_found (state.Run result4.Sent) = true
is_found (state.Run (result4.Delivered from)) = true
is_found (state.Run result4.Gone) = true
is_found (state.Sending to joined) = true
is_found (state.Receiving from) = true
is_found state.Picking = false
is_found state.Ended = false

dead_found : (s : State) → is_dead_state s ≡ true → is_found s ≡ true
dead_found state.Dead e = refl
dead_found s e = absurd (false≢true e)

may_found : (s : State) → may_wait s ≡ true → is_found s ≡ true
may_found (state.Sending to joined) e = refl
may_found (state.Receiving from) e = refl
may_found s e = absurd (false≢true e)

waits_found : (v : Seen) → WaitsBy v → is_found v.word.state ≡ true
waits_found v (inl d) = dead_found v.word.state d
waits_found v (inr (inl m)) = may_found v.word.state m
waits_found v (inr (inr (inl s))) = ap is_found s.0
waits_found v (inr (inr (inr (inl s)))) = ap is_found s.0
waits_found v (inr (inr (inr (inr d)))) = ap is_found d.state

module _ (g : Programs) (work : Position → ℕ) (b : Board) (i : ℕ) where
  abbrev x : Context
  x = b.context i

  abbrev rest : ℕ
  rest = rest_of work b x

  abbrev now : ThreadLocation → Response → Board
  now p r = alone_board g b i x p r

  abbrev Told : ThreadLocation → Response → Type 0
  Told p r = Answers b (alone.ask_of (id_at b i) x.own p) r → alone.points (id_at b i) p r ≡ None →
      Spends work b i (Alone p) (now p r) (alone_context x p r) r

  -- it falls asleep
  leaves : is_waiting x.own.state ≡ true → (b.seen i).word ≡ x.own → (b.seen i).word.on ≡ true →
      Exchanges b i (Alone FallAsleep) (now FallAsleep asks.Won) (alone_context x FallAsleep asks.Won)
  leaves waits won on = record {
    leaves = written_leaves b.seen i (off_word x.own) (off_left x.own);
    falls =
        let is : leave_owed (write b.seen i (off_word x.own) i).word ≡ 0 =
        ap (λ (v : Seen). leave_owed v.word) (upd_same b.seen i (with_word (b.seen i) (off_word x.own)))
        ∙ off_left x.own in
        let was = on_left (b.seen i).word (ap (λ (w : StateWord). is_waiting w.state) won ∙ waits) on in
        omega (arith, is, was);
  }

  looks : (b' : Board) (w : StateWord) → (b'.seen i).word ≡ w → (s : State) → is_found s ≡ true →
      owes_at rest b' i w (Alone (looked s)) + 1 ≤ 2 + rest
  looks b' w is state.Dead e = omega arith
  looks b' w is (state.Run result4.Plain) e = absurd (false≢true e)
  looks b' w is (state.Run result4.Sent) e = omega arith
  looks b' w is (state.Run (result4.Delivered from)) e = omega arith
  looks b' w is (state.Run result4.Gone) e = omega arith
  looks b' w is (state.Sending to joined) e =
      let m = loaded_owes b'.seen i w is 1 1 (owes_waiting rest) (omega arith) in omega (arith, m)
  looks b' w is (state.Receiving from) e =
      let m = loaded_owes b'.seen i w is 1 1 (owes_waiting rest) (omega arith) in omega (arith, m)
  looks b' w is state.Picking e = absurd (false≢true e)
  looks b' w is state.Ended e = absurd (false≢true e)

  works : (b' : Board) (own : StateWord) (count : ℕ) → 1 ≤ count → (dead last : Bool) → (count == 1) ≡ last →
      owes_at rest b' i own (Alone (if dead then Dead else (if last then Between None else Work
      (count - 1)))) + 1 ≤ count + rest
  works b' own count some true last e = omega (arith, some)
  works b' own count some false true e = omega (arith, some)
  works b' own count some false false e = omega (arith, some)

  pub alone_owes : HasStepsLeft b i → (p : ThreadLocation) → x.at ≡ Alone p → can_ask p ≡ true →
      AllSay g b i x (facts_alone p) →
      Each (alone.ask_of (id_at b i) x.own p) (Told p)
  alone_owes left FallAsleep at can f = (
    (λ an silent. inl (leaves f.1.1.1.0 an
        (left.on at (ap is_dead an ∙ waiting_alive x.own.state f.1.1.1.0)))),
    (λ v an silent. inr (
      (λ z. absurd cc),
      record {
        falls = lost_owes b.seen i x.own v an.0 an.1 (2 + rest + 1) 1 (owes_waiting rest) (omega arith);
        exchanges = omega arith;
        entries = omega arith;
      },
    )),
  )
  alone_owes left LookAgain at can f =
      λ w an silent. inr (
        (λ z. absurd cc),
        record {
          falls = looks (now LookAgain (asks.Word w)) w an w.state
              (ap (λ (u : StateWord). is_found u.state) (sym an) ∙ waits_found (b.seen i) f.1.1.0);
          exchanges = omega arith;
          entries = omega arith;
        },
      )
  alone_owes left (LoadMail from) at can f =
      λ m an silent. inr (
        (λ z. absurd cc),
        record {
          falls = omega arith;
          exchanges = omega arith;
          entries =
              omega arith;
        },
      )
  alone_owes left (Work count) at can f =
      λ w an silent. inr (
        (λ z. absurd cc),
        record {
          falls = works (now (Work count) (asks.Word w)) x.own count (left.work count at) (is_dead w)
              (count == 1) refl;
          exchanges = omega arith;
          entries = omega arith;
        },
      )
  alone_owes left CommitEnd at can f = (
    (λ an silent. absurd cc),
    (λ v an silent. inr (
      (λ z. absurd cc),
      record {
        falls = omega arith;
        exchanges = omega arith;
        entries =
            omega arith;
      },
    )),
  )
  alone_owes left (Between last) at can f = absurd (false≢true can)
  alone_owes left Asleep at can f = absurd (false≢true can)
  alone_owes left Ended at can f = absurd (false≢true can)
  alone_owes left Dead at can f = absurd (false≢true can)

  -- WHAT MAKES NO STEP OF ITS OWN

  sent_less : (rest' : ℕ) (b' : Board) (own : StateWord) (c : SendCall) (t : Bool) →
      owes_at rest' b' i own (InSend c (send.Outside (if t then send_outside.LoadCaller
      else send_outside.AcquireReceiver))) + 1 ≤
      b.size + 7
  sent_less rest' b' own c true = omega arith
  sent_less rest' b' own c false = omega arith

  sent_owed : (c : SendCall) (t : Bool) →
      owed_at (InSend c (send.Outside (if t then send_outside.LoadCaller
      else send_outside.AcquireReceiver))) ≡ 0
  sent_owed c t = refl

  received_less : (rest' : ℕ) (b' : Board) (own : StateWord) (c : ReceiveCall) → c.picks ≡ false →
      b'.size ≡ b.size → (t : Bool) →
      owes_at rest' b' i own
      (InReceive c (receive.Outside (if t then receive_outside.LoadCaller else receive_outside.AcquireOwn)))
      + 1 ≤ b.size + 7
  received_less rest' b' own c picks size true = omega arith
  received_less rest' b' own c picks size false = rw picks (omega (arith, size))

  destroyed_less : (rest' : ℕ) (b' : Board) (own : StateWord) (c : DestroyCall) (t : Bool) →
      owes_at rest' b' i own (InDestroy c (destroy.Outside (if t then destroy_outside.LoadOwn
      else destroy_outside.AcquireTable))) + 1 ≤
      b.size + 7
  destroyed_less rest' b' own c true = omega arith
  destroyed_less rest' b' own c false = omega arith

  -- the next call has fewer steps up to its point than are counted between two calls
  begun_less : (rest' : ℕ) (b' : Board) (own : StateWord) (me : ThreadId) (f : Phase) → b'.size ≡ b.size →
      owes_at rest' b' i own (begun_at b.size me f) + 1 ≤ b.size + 7
  begun_less rest' b' own me (phase.Send to message zero joined) size =
      sent_less rest' b' own (record {
        caller = me;
        to = to;
        message = message;
        zero = zero;
        manner = send.manner_of joined;
      }) (same_id to me)
  begun_less rest' b' own me (phase.Reply to message zero) size =
      sent_less rest' b' own (record {
        caller = me;
        to = to;
        message = message;
        zero = zero;
        manner = manner.Reply;
      }) (same_id to me)
  begun_less rest' b' own me (phase.Receive from zero) size =
      received_less rest' b' own (record { caller = me; from = from; zero = zero; picks = false }) refl size
      (is_own from me)
  begun_less rest' b' own me (phase.Create program priority) size = omega arith
  begun_less rest' b' own me (phase.Destroy who) size =
      destroyed_less rest' b' own (record { caller = me; who = who; count = b.size }) (same_id who me)
  begun_less rest' b' own me phase.End size = omega arith

  begun_owed : (me : ThreadId) (f : Phase) → owed_at (begun_at b.size me f) ≡ 0
  begun_owed me (phase.Send to message zero joined) = refl
  begun_owed me (phase.Reply to message zero) = refl
  begun_owed me (phase.Receive from zero) = refl
  begun_owed me (phase.Create program priority) = refl
  begun_owed me (phase.Destroy who) = refl
  begun_owed me phase.End = refl

  pub begins_owes : (last : Option Reply) (f : Phase) → Lowers work b i (Alone (Between last))
      (placed b i (begun g x last (begun_at b.size (id_at b i) f))) (begun g x last (begun_at b.size
      (id_at b i) f))
  begins_owes last f = record {
    falls =
        let l = begun_less (rest_of work b (begun g x last (begun_at b.size (id_at b i) f)))
        (placed b i (begun g x last (begun_at b.size (id_at b i) f))) x.own (id_at b i) f refl in
        omega (arith, l);
    exchanges = let o = begun_owed (id_at b i) f in omega (arith, o);
    entries = omega arith;
  }

  pub works_owes : CountsWork g work → (last : Option Reply) (count : ℕ) →
      g.next x.position last ≡ next.Work count →
      Lowers work b i (Alone (Between last)) (placed b i (working g x last count)) (working g x last count)
  works_owes counts last count e = record {
    falls = let f = counts.falls x.position last count e in omega (arith, f);
    exchanges = omega arith;
    entries = omega arith;
  }

  pub wakes_owes : Lowers work b i (Alone Asleep) (placed b i (record x { at = Alone LookAgain }))
      (record x { at = Alone LookAgain })
  wakes_owes = record { falls = omega arith; exchanges = omega arith; entries = omega arith }
