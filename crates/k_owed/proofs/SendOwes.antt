-- What each step of a send takes.
use Rattle.std.proofs.Common.{◌≡◌, ◌≢◌, ℕ, ◌+◌, ◌<◌, ◌≤◌, Bool, true, false, not, refl, sym, ap, ◌∙◌, subst}
use Rattle.std.proofs.Common.{arith, Option, Some, None, inl, inr, ◌⊎◌, List}
use Rattle.std.specs.Prelude.{if◌then◌else◌}
use Rattle.k_ids.specs.declared.calls.Outcome.TheVariants as outcome
use Rattle.k_ids.specs.declared.calls.Reply.{Reply}
use Rattle.k_ids.specs.declared.calls.Reply.TheVariants as reply
use Rattle.k_ids.specs.declared.state_word.StateWord.{StateWord}
use Rattle.k_model.specs.State.{takes_from}
use Rattle.k_locks.specs.declared.points.Point.{Point}
use Rattle.k_locks.specs.declared.steps.Went.{Went}
use Rattle.k_locks.specs.declared.steps.Went.TheVariants as went
use Rattle.k_locks.specs.Asks.{Response, is_again}
use Rattle.k_locks.specs.Asks as asks
use Rattle.k_locks.specs.Hands.{Hand}
use Rattle.k_locks.specs.Shown.{found_in, is_dead, is_present_in, shows}
use Rattle.k_locks.proofs.Responses.{Each}
use Rattle.k_script.specs.Plays.{Position}
use Rattle.k_ipc.specs.declared.send.Manner.{Manner}
use Rattle.k_ipc.specs.declared.send.Manner.TheVariants as manner
use Rattle.k_ipc.specs.declared.send.SendCall.{SendCall}
use Rattle.k_ipc.specs.declared.send.SendOutside.TheVariants.{LoadCaller, AcquireReceiver, CheckCaller, Ended}
use Rattle.k_ipc.specs.declared.send.SendLocked.{SendLocked}
use Rattle.k_ipc.specs.declared.send.SendLocked.TheVariants.{LoadReceiver, StoreMail, CommitPass}
use Rattle.k_ipc.specs.declared.send.SendLocked.TheVariants.{WakeReceiver}
use Rattle.k_ipc.specs.declared.send.SendLocked.TheVariants.{ReloadReceiver, AcquireReady, CommitWait}
use Rattle.k_ipc.specs.declared.send.SendLocked.TheVariants.{Release}
use Rattle.k_ipc.specs.declared.send.SendRelease.TheVariants as release
use Rattle.k_ipc.specs.declared.send.SendPushing.TheVariants.{PushReceiver}
use Rattle.k_ipc.specs.SendTable.{SendAt, Outside, Locked, Pushing, delivered_word, passed_end}
use Rattle.k_ipc.specs.SendTable as send
use Rattle.k_board.specs.Words.{Programs, Seen, noted}
use Rattle.k_board.specs.Boards.{At, Alone, InSend, Context, Board, hand_of}
use Rattle.k_board.specs.Facts.{AllSay, Apart, Loaded, Passing}
use Rattle.k_board.specs.Places.{facts_send, sender}
use Rattle.k_board.specs.Steps.{Answers, after, send_at, send_board, send_context, write, wrote}
use Rattle.k_good.proofs.Words.{noted_word, word_upd}
use Rattle.k_sections.proofs.Falls.{lost_there}
use Rattle.k_sections.proofs.Words.{same_where}
use Rattle.k_sections.specs.Situations.{is_there, loaded_of}
use Rattle.k_owed.specs.Owes.{expected, owes_at, owes_of, owes_passed, owes_pick, owes_waiting, rest_of}
use Rattle.k_owed.specs.Owed.{entries_in, leave_owed, owed_at}
use Rattle.k_owed.proofs.Ends.{ended_owed, loaded_owes, lost_owes, one_or, own_ends, waits_owes}
use Rattle.k_owed.proofs.Ends.{written_leaves}
use Rattle.k_owed.proofs.Entries.{pushed_entries}
use Rattle.k_owed.proofs.Lowers.{Exchanges, Lowers, Spends, cost}

module _ (g : Programs) (work : Position → ℕ) (b : Board) (i : ℕ) (c : SendCall) where
  abbrev x : Context
  x = b.context i

  abbrev hand : Hand
  hand = hand_of b (b.queue c.to.number)

  abbrev now : SendAt → Response → Board
  now p r = send_board g b i x c p r

  abbrev moved : SendAt → Response → Context
  moved p r = send_context x c p r hand

  abbrev rest : ℕ
  rest = rest_of work b x

  abbrev dead : Bool
  dead = is_dead (b.seen i).word

  abbrev Spent : SendAt → Response → Type 0
  Spent p r = Spends work b i (InSend c p) (now p r) (moved p r) r

  abbrev Told : SendAt → Response → Type 0
  Told p r = Answers b (send.ask_of c x.own p) r → send.points c (b.seen i).word hand p r ≡ None → Spent p r

  -- THE ENDS

  checked_ends : (b' : Board) (own : StateWord) (d : Bool) (r : Reply) →
      owes_at rest b' i own (send_at c (Outside (Ended (if d then went.CallerDead else went.Ends r)))) + 1 ≤
      (if d then 1 else 1 + rest)
  checked_ends b' own true r = omega arith
  checked_ends b' own false r = omega arith

  passed_ends : (b' : Board) (own : StateWord) (m : Manner) → b'.size ≡ b.size →
      owes_at rest b' i own (after c.caller (passed_end m)) ≤ owes_passed b.size rest m
  passed_ends b' own manner.Plain size = omega arith
  passed_ends b' own manner.Joined size = waits_owes rest b' i own c.caller
  passed_ends b' own manner.Reply size = omega (arith, size)

  -- THE RECEIVER'S WORD

  received : (b' : Board) (own w : StateWord) (absent takes zero d : Bool) (p q : Point) (r s : Reply) →
      is_dead (b'.seen i).word ≡ d →
      ◌≡◌ {A = Option Point} (if d then None else (if absent then Some p else (if takes then None else
      (if zero then Some q else None)))) None →
      owes_at rest b' i own (send_at c (Locked (if absent then Release (release.Refused r) else
      (if takes then StoreMail w else (if zero then Release (release.Refused s) else CommitWait))))) + 1 ≤ 4
  received b' own w true takes zero true p q r s dies e = rw dies (omega arith)
  received b' own w true takes zero false p q r s dies e = absurd cc
  received b' own w false true zero d p q r s dies e = omega arith
  received b' own w false false true true p q r s dies e = rw dies (omega arith)
  received b' own w false false true false p q r s dies e = absurd cc
  received b' own w false false false d p q r s dies e =
      let m = one_or (is_there b'.seen (expected (send.ask_of c own (Locked CommitWait)))) 2 (omega arith)
      in omega (arith, m)

  received_owed : (w : StateWord) (absent takes zero : Bool) (r s : Reply) →
      owed_at (send_at c (Locked (if absent then Release (release.Refused r) else
      (if takes then StoreMail w else (if zero then Release (release.Refused s) else CommitWait))))) ≡ 0
  received_owed w true takes zero r s = refl
  received_owed w false true zero r s = refl
  received_owed w false false true r s = refl
  received_owed w false false false r s = refl

  -- the receiver is told: its word is that of a thread that runs
  wakes : (w : StateWord) → Exchanges b i (InSend c (Locked (WakeReceiver w)))
      (now (Locked (WakeReceiver w)) asks.Won) (moved (Locked (WakeReceiver w)) asks.Won)
  wakes w = record { leaves = each; falls = less w.on }
    where
      each : (t : ℕ) → leave_owed (write b.seen c.to.number (delivered_word c w) t).word ≤
          leave_owed (b.seen t).word
      each = written_leaves b.seen c.to.number (delivered_word c w) refl

      less : (on : Bool) → leave_owed (write b.seen c.to.number (delivered_word c w) i).word +
          owed_at (send_at c (Locked (if on then Release release.Passed else AcquireReady w.priority))) <
          leave_owed (b.seen i).word + 1
      less true = let e = each i in omega (arith, e)
      less false = let e = each i in omega (arith, e)

  -- LOCATION BY LOCATION

  pub send_owes : (p : SendAt) → AllSay g b i x (facts_send c p) → Each (send.ask_of c x.own p) (Told p)
  send_owes (Outside LoadCaller) f =
      λ w an silent. inr (
        (λ z. absurd cc),
        record {
          falls = own_ends rest (now (Outside LoadCaller) (asks.Word w)) i x.own c.caller (is_dead w)
              (send.point_of c outcome.Own) reply.Own silent;
          exchanges = let o = ended_owed c.caller (if is_dead w then went.CallerDead else went.Ends
              reply.Own) in omega (arith, o);
          entries = omega arith;
        },
      )
  send_owes (Outside AcquireReceiver) f =
      λ an silent. inr (
        (λ z. absurd cc),
        record {
          falls = omega arith;
          exchanges = omega arith;
          entries =
              omega arith;
        },
      )
  send_owes (Outside (CheckCaller r)) f =
      λ w an silent. inr (
        (λ z. absurd cc),
        record {
          falls = let e = checked_ends (now (Outside (CheckCaller r)) (asks.Word w)) x.own (is_dead w) r in
              checked w an e;
          exchanges = let o = ended_owed c.caller (if is_dead w then went.CallerDead else went.Ends r) in
              omega (arith, o);
          entries = omega arith;
        },
      )
    where
      -- the word that it loads is its own
      checked : (w : StateWord) → (b.seen c.caller.number).word ≡ w → {n : ℕ} → n ≤
          (if is_dead w then 1 else 1 + rest) →
          n ≤ (if dead then 1 else 1 + rest)
      checked w an {n} e = subst (λ (v : StateWord). n ≤ (if is_dead v then 1 else 1 + rest))
          (sym an ∙ ap (λ (k : ℕ). (b.seen k).word) f.0.0) e
  send_owes (Outside (Ended w)) f = λ v an silent. absurd f.0
  send_owes (Locked LoadReceiver) f =
      λ w an silent. inr (
        (λ z. absurd cc),
        record {
          falls = received (now (Locked LoadReceiver) (asks.Word w)) x.own w (not (is_present_in w c.to))
              (takes_from (shows w.state) c.caller c.zero) c.zero dead
              (send.point_of c (outcome.Absent (found_in c.to.number w))) (send.point_of c (outcome.Busy
              (found_in c.to.number w)))
              (reply.Absent (found_in c.to.number w)) (reply.Busy (found_in c.to.number w))
              (ap is_dead (noted_word g b.seen x.position (send.points c (b.seen i).word hand
              (Locked LoadReceiver) (asks.Word w)) i)) silent;
          exchanges = let o = received_owed w (not (is_present_in w c.to)) (takes_from (shows w.state)
              c.caller c.zero) c.zero
              (reply.Absent (found_in c.to.number w)) (reply.Busy (found_in c.to.number w)) in
              omega (arith, o);
          entries = omega arith;
        },
      )
  send_owes (Locked (StoreMail w)) f =
      λ an silent. inr (
        (λ z. absurd cc),
        record {
          falls = let m = one_or (is_there (now (Locked (StoreMail w)) asks.Stored).seen
              (expected (send.ask_of c x.own (Locked (CommitPass w))))) 2 (omega arith) in omega (arith, m);
          exchanges = omega arith;
          entries = omega arith;
        },
      )
  send_owes (Locked (CommitPass w)) f = (
    (λ an silent. absurd cc),
    (λ v an silent. inr (
      (λ z. absurd cc),
      record {
        falls = lost_owes b.seen c.caller.number x.own v an.0 an.1 2 1 2 (omega arith);
        exchanges = omega arith;
        entries = omega arith;
      },
    )),
  )
  send_owes (Locked (WakeReceiver w)) f = (
    (λ an silent. inl (wakes w)),
    (λ v an silent. inr (
      (λ z. absurd cc),
      record {
        falls = lost_owes b.seen c.to.number w v an.0 an.1 3 1 3 (omega arith);
        exchanges = omega arith;
        entries = omega arith;
      },
    )),
  )
  send_owes (Locked ReloadReceiver) f =
      λ w an silent. inr (
        (λ z. absurd cc),
        record {
          falls = let m = loaded_owes b.seen c.to.number w an 1 1 3 (omega arith) in omega (arith, m);
          exchanges = omega arith;
          entries = omega arith;
        },
      )
  send_owes (Locked (AcquireReady priority)) f =
      λ an silent. inr (
        (λ z. absurd cc),
        record {
          falls = omega arith;
          exchanges = omega arith;
          entries =
              omega arith;
        },
      )
  send_owes (Pushing (PushReceiver priority)) f =
      λ an silent. inr (
        (λ z. absurd cc),
        record {
          falls = omega arith;
          exchanges = omega arith;
          entries = pushed_entries c.to priority b.lists;
        },
      )
  send_owes (Locked CommitWait) f = (
    (λ an silent. absurd cc),
    (λ v an silent. inr (
      (λ z. absurd cc),
      record {
        falls = lost_owes b.seen c.caller.number x.own v an.0 an.1 2 1 2 (omega arith);
        exchanges = omega arith;
        entries = omega arith;
      },
    )),
  )
  send_owes (Locked (Release release.Passed)) f =
      λ an silent. inr (
        (λ z. absurd cc),
        record {
          falls = let e = passed_ends (now (Locked (Release release.Passed)) asks.Released) x.own c.manner
              refl in omega (arith, e);
          exchanges = let o = ended_owed c.caller (passed_end c.manner) in omega (arith, o);
          entries = omega arith;
        },
      )
  send_owes (Locked (Release release.Dead)) f =
      λ an silent. inr (
        (λ z. absurd cc),
        record {
          falls = omega arith;
          exchanges = omega arith;
          entries =
              omega arith;
        },
      )
  send_owes (Locked (Release (release.Refused r))) f =
      λ an silent. inr (
        (λ z. absurd cc),
        record {
          falls = go dead;
          exchanges = omega arith;
          entries =
              omega arith;
        },
      )
    where
      go : (d : Bool) → (if d then 1 else 1 + rest) + 1 ≤ (if d then 2 else 2 + rest)
      go true = omega arith
      go false = omega arith
  send_owes (Locked (Release release.Queued)) f =
      λ an silent. inr (
        (λ z. absurd cc),
        record {
          falls = let e = waits_owes rest (now (Locked (Release release.Queued)) asks.Released) i x.own
              c.caller in omega (arith, e);
          exchanges = omega arith;
          entries = omega arith;
        },
      )
