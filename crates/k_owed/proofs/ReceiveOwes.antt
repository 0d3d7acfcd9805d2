-- What each step of a receive or of a pick takes.
use Rattle.std.proofs.Common.{◌≡◌, ◌≢◌, ℕ, ◌+◌, ◌<◌, ◌≤◌, Bool, true, false, refl, sym, ap, ◌∙◌, subst, arith}
use Rattle.std.proofs.Common.{Option, Some, None, inl, inr, ◌⊎◌, List, length}
use Rattle.std.specs.Prelude.{if◌then◌else◌}
use Rattle.k_ids.specs.declared.threads.ThreadId.{ThreadId}
use Rattle.k_ids.specs.declared.calls.Outcome.TheVariants as outcome
use Rattle.k_ids.specs.declared.calls.Act.TheVariants as act
use Rattle.k_ids.specs.declared.calls.Reply.TheVariants as reply
use Rattle.k_ids.specs.declared.state_word.Result4.TheVariants as result4
use Rattle.k_ids.specs.declared.state_word.State.{State}
use Rattle.k_ids.specs.declared.state_word.State.TheVariants as state
use Rattle.k_ids.specs.declared.state_word.StateWord.{StateWord}
use Rattle.k_model.specs.State.{admits}
use Rattle.k_senders.specs.declared.entries.SenderEntry.{SenderEntry}
use Rattle.k_senders.specs.Entries.{number_of, sender_of}
use Rattle.k_senders.specs.Queue.{IsOnceEach, entry_of}
use Rattle.k_locks.specs.declared.points.Point.{Point}
use Rattle.k_locks.specs.declared.steps.Went.TheVariants as went
use Rattle.k_locks.specs.Asks.{Response}
use Rattle.k_locks.specs.Asks as asks
use Rattle.k_locks.specs.Hands.{Hand, pushed}
use Rattle.k_locks.specs.Shown.{is_dead, is_present_in}
use Rattle.k_locks.proofs.Responses.{Each}
use Rattle.k_script.specs.Plays.{Position}
use Rattle.k_ipc.specs.Candidates.{admitted, first_admitted, onward, past}
use Rattle.k_ipc.proofs.Chosen.{first_is, next_is, some_left}
use Rattle.k_ipc.proofs.Scanned.{admitted_few}
use Rattle.k_ipc.specs.Words.{in_state, on_in}
use Rattle.k_ipc.specs.declared.receive.ReceiveCall.{ReceiveCall}
use Rattle.k_ipc.specs.declared.receive.ReceiveOutside.TheVariants.{LoadCaller, AcquireOwn, Ended}
use Rattle.k_ipc.specs.declared.receive.ReceiveLocked.{ReceiveLocked}
use Rattle.k_ipc.specs.declared.receive.ReceiveLocked.TheVariants.{LoadOwn, LoadSender, FreeSender}
use Rattle.k_ipc.specs.declared.receive.ReceiveLocked.TheVariants.{AcquireReady}
use Rattle.k_ipc.specs.declared.receive.ReceiveLocked.TheVariants.{CommitWait, LoadPartner, CommitGone}
use Rattle.k_ipc.specs.declared.receive.ReceiveLocked.TheVariants.{LoadPicking}
use Rattle.k_ipc.specs.declared.receive.ReceiveLocked.TheVariants.{LoadNext, FreeNext, EndPick, SettlePick}
use Rattle.k_ipc.specs.declared.receive.ReceiveLocked.TheVariants.{Release}
use Rattle.k_ipc.specs.declared.receive.ReceiveRelease.TheVariants as release
use Rattle.k_ipc.specs.declared.receive.ReceivePushing.TheVariants.{LoadFreed, PushFreed}
use Rattle.k_ipc.specs.ReceiveTable.{ReceiveAt, Outside, Locked, Pushing, after_free, is_pushed, nobody_left}
use Rattle.k_ipc.specs.ReceiveTable.{none_left}
use Rattle.k_ipc.specs.ReceiveTable.{picking_by, stays_out, still_waits, try_next, try_sender}
use Rattle.k_ipc.specs.ReceiveTable as receive
use Rattle.k_board.specs.Words.{Programs, Seen, noted}
use Rattle.k_board.specs.Boards.{At, Alone, InReceive, Context, Board, hand_of}
use Rattle.k_board.specs.Facts.{AllSay}
use Rattle.k_board.specs.Places.{facts_receive}
use Rattle.k_board.specs.Steps.{Answers, after, receive_at, receive_board, receive_context, write, wrote}
use Rattle.k_good.proofs.RangesKeep.{receive_caller}
use Rattle.k_good.proofs.Words.{noted_word}
use Rattle.k_owed.specs.Owes.{candidates, expected, owes_at, owes_of, owes_pick, owes_waiting, rest_of}
use Rattle.k_owed.specs.Owed.{entries_in, is_some_push, leave_owed, may_begin, owed_at}
use Rattle.k_owed.proofs.Ends.{ended_owed, loaded_owes, lost_owes, one_or, own_ends, waits_owes}
use Rattle.k_owed.proofs.Ends.{written_leaves}
use Rattle.k_owed.proofs.Entries.{pushed_entries}
use Rattle.k_owed.proofs.Lowers.{Exchanges, Lowers, Spends, cost}

module _ (g : Programs) (work : Position → ℕ) (b : Board) (i : ℕ) (c : ReceiveCall)
    (once : IsOnceEach (b.queue i)) (short : length (b.queue i) < b.size) where
  abbrev x : Context
  x = b.context i

  abbrev queue : List SenderEntry
  queue = b.queue i

  abbrev hand : Hand
  hand = hand_of b queue

  abbrev point : ReceiveAt → Response → Option Point
  point p r = receive.points c (b.seen i).word hand p r

  abbrev now : ReceiveAt → Response → Board
  now p r = receive_board g b i x c p r

  abbrev moved : ReceiveAt → Response → Context
  moved p r = receive_context x c p r hand

  abbrev rest : ℕ
  rest = rest_of work b x

  abbrev Told : ReceiveAt → Response → Type 0
  Told p r = Answers b (receive.ask_of c x.own p) r → point p r ≡ None →
      Spends work b i (InReceive c p) (now p r) (moved p r) r

  -- what the context owes at a location under its lock, as long as the queue is as it was
  abbrev owes_locked : Board → StateWord → ReceiveLocked → ℕ
  owes_locked b' own p = owes_at rest b' i own (InReceive c (Locked p))

  -- CANDIDATES

  abbrev IsIn : SenderEntry → Type 0
  IsIn e = (entry_of (number_of e) queue ≡ Some e) × (admits c.from (sender_of e) ≡ true)

  one_left : (e : SenderEntry) → IsIn e → 1 ≤ candidates c queue e
  one_left e s = let l = some_left c.from queue e s.0 s.1 in omega (arith, l)

  none_tried : (b' : Board) (own : StateWord) (zero : Bool) (p : Point) →
      ◌≡◌ {A = Option Point} (if zero then Some p else None) None →
      owes_locked b' own (if zero then Release release.Nobody else CommitWait) + 1 ≤ 2
  none_tried b' own true p e = absurd cc
  none_tried b' own false p e = omega arith

  none_owed : (zero : Bool) → owed_at (InReceive c (Locked (if zero then Release release.Nobody
      else CommitWait))) ≡ 0
  none_owed true = refl
  none_owed false = refl

  tried_owed : (o : Option SenderEntry) → owed_at (InReceive c (Locked (try_sender c o))) ≡ 0
  tried_owed (Some e) = refl
  tried_owed None = none_owed c.zero

  next_owed : (o : Option SenderEntry) → owed_at (InReceive c (Locked (try_next o))) ≡ 0
  next_owed (Some e) = refl
  next_owed None = refl

  -- the first candidate is tried, or there is none
  first_tried : (b' : Board) (own : StateWord) → b'.queue i ≡ queue → (dead : Bool) (o : Option SenderEntry) →
      first_admitted c.from queue ≡ o → ◌≡◌ {A = Option Point} (if dead then None else nobody_left c o) None →
      owes_locked b' own (if dead then Release release.Dead else try_sender c o) + 1 ≤
      2 + admitted c.from queue
  first_tried b' own q true o e silent = omega arith
  first_tried b' own q false (Some s) e silent =
      let m = (first_is c.from queue s once e).many in
      let same = ap (λ (es : List SenderEntry). candidates c es s) q in omega (arith, m, same)
  first_tried b' own q false None e silent =
      let n = none_tried b' own c.zero (receive.point_by c (receive.act_of c) outcome.Nobody) silent in
      omega (arith, n)

  first_owed : (dead : Bool) (o : Option SenderEntry) →
      owed_at (InReceive c (Locked (if dead then Release release.Dead else try_sender c o))) ≡ 0
  first_owed true o = refl
  first_owed false o = tried_owed o

  -- the next candidate is tried, or there is none
  later_tried : (b' : Board) (own : StateWord) → b'.queue i ≡ queue → (e : SenderEntry) → IsIn e →
      (w : StateWord) →
      (b'.seen (number_of e)).word ≡ w → (waits : Bool) (o : Option SenderEntry) →
      first_admitted c.from (past (number_of e) queue) ≡ o →
      ◌≡◌ {A = Option Point} (if waits then None else nobody_left c o) None →
      owes_locked b' own (if waits then FreeSender e w else try_sender c o) + 1 ≤ 1 + candidates c queue e
  later_tried b' own q e s w is true o n silent =
      let l = one_left e s in
      let m = loaded_owes b'.seen (number_of e) w is 1 1 (2 + candidates c (b'.queue i) e) (omega arith) in
      omega (arith, l, m)
  later_tried b' own q e s w is false (Some f) n silent =
      let m = (next_is c.from queue e f once s.0 s.1 n).fewer in
      let same = ap (λ (es : List SenderEntry). candidates c es f) q in omega (arith, m, same)
  later_tried b' own q e s w is false None n silent =
      let l = one_left e s in
      let m = none_tried b' own c.zero (receive.point_by c (receive.act_of c) outcome.Nobody) silent in
      omega (arith, l, m)

  later_owed : (e : SenderEntry) (w : StateWord) (waits : Bool) (o : Option SenderEntry) →
      owed_at (InReceive c (Locked (if waits then FreeSender e w else try_sender c o))) ≡ 0
  later_owed e w true o = refl
  later_owed e w false o = tried_owed o

  -- the same in a pick
  next_tried : (b' : Board) (own : StateWord) → b'.queue i ≡ queue → (e : SenderEntry) → IsIn e →
      (w : StateWord) →
      (b'.seen (number_of e)).word ≡ w → (waits : Bool) (o : Option SenderEntry) →
      first_admitted c.from (past (number_of e) queue) ≡ o →
      owes_locked b' own (if waits then FreeNext e w else try_next o) + 1 ≤ 1 + candidates c queue e
  next_tried b' own q e s w is true o n =
      let l = one_left e s in
      let m = loaded_owes b'.seen (number_of e) w is 1 1 (2 + candidates c (b'.queue i) e) (omega arith) in
      omega (arith, l, m)
  next_tried b' own q e s w is false (Some f) n =
      let m = (next_is c.from queue e f once s.0 s.1 n).fewer in
      let same = ap (λ (es : List SenderEntry). candidates c es f) q in omega (arith, m, same)
  next_tried b' own q e s w is false None n = let l = one_left e s in omega (arith, l)

  later_next_owed : (e : SenderEntry) (w : StateWord) (waits : Bool) (o : Option SenderEntry) →
      owed_at (InReceive c (Locked (if waits then FreeNext e w else try_next o))) ≡ 0
  later_next_owed e w true o = refl
  later_next_owed e w false o = next_owed o

  -- the caller's word tells whether it still picks
  picked : (b' : Board) (own : StateWord) → b'.queue i ≡ queue → (o : Option SenderEntry) →
      first_admitted c.from queue ≡ o →
      (s : State) → owes_locked b' own (picking_by o s) + 1 ≤ 2 + admitted c.from queue + owes_waiting rest
  picked b' own q o e state.Dead = omega arith
  picked b' own q (Some f) e state.Picking =
      let m = (first_is c.from queue f once e).many in
      let same = ap (λ (es : List SenderEntry). candidates c es f) q in omega (arith, m, same)
  picked b' own q None e state.Picking = omega arith
  picked b' own q o e (state.Run result) = omega arith
  picked b' own q o e (state.Sending to joined) = omega arith
  picked b' own q o e (state.Receiving from) = omega arith
  picked b' own q o e state.Ended = omega arith

  picked_owed : (o : Option SenderEntry) (s : State) → owed_at (InReceive c (Locked (picking_by o s))) ≡ 0
  picked_owed o state.Dead = refl
  picked_owed o state.Picking = next_owed o
  picked_owed o (state.Run result) = refl
  picked_owed o (state.Sending to joined) = refl
  picked_owed o (state.Receiving from) = refl
  picked_owed o state.Ended = refl

  acquired : (b' : Board) (own : StateWord) → b'.queue i ≡ queue → (picks : Bool) →
      owes_locked b' own (if picks then LoadPicking else LoadOwn) + 1 ≤
      (if picks then owes_pick b.size rest else b.size + 3)
  acquired b' own q true =
      let m = admitted_few c.from queue in
      let same = ap (λ (es : List SenderEntry). admitted c.from es) q in omega (arith, m, same, short)
  acquired b' own q false =
      let m = admitted_few c.from queue in
      let same = ap (λ (es : List SenderEntry). admitted c.from es) q in omega (arith, m, same, short)

  acquired_owed : (picks : Bool) → owed_at (InReceive c (Locked (if picks then LoadPicking else LoadOwn))) ≡ 0
  acquired_owed true = refl
  acquired_owed false = refl

  -- the partner is there, or the receive is over
  partnered : (b' : Board) (own : StateWord) (from : ThreadId) (present : Bool) (p : Point) →
      ◌≡◌ {A = Option Point} (if present then None else Some p) None →
      owes_locked b' own (if present then Release release.Waits else CommitGone from) + 1 ≤
      2 + owes_waiting rest
  partnered b' own from true p e = omega arith
  partnered b' own from false p e = absurd cc

  partnered_owed : (from : ThreadId) (present : Bool) (p : Point) →
      ◌≡◌ {A = Option Point} (if present then None else Some p) None →
      owed_at (InReceive c (Locked (if present then Release release.Waits else CommitGone from))) ≡ 0
  partnered_owed from true p e = refl
  partnered_owed from false p e = absurd cc

  -- the freed sender is pushed where it still runs
  pushed_falls : (r : ℕ) (priority : ℕ) (t : Bool) →
      1 + r + cost (is_some_push (if t then Some priority else None)) ≤ 13 + r
  pushed_falls r priority true = omega arith
  pushed_falls r priority false = omega arith

  pushed_all : (e : SenderEntry) (w : StateWord) (t : Bool) →
      entries_in (if t then pushed (sender_of e) w.priority b.lists else b.lists).lists ≤
      entries_in b.lists.lists + may_begin (is_some_push (if t then Some w.priority else None))
  pushed_all e w true = pushed_entries (sender_of e) w.priority b.lists
  pushed_all e w false = omega arith

  freed_owed : (e : SenderEntry) (w : StateWord) → owed_at (InReceive c (Locked (after_free e w))) ≡ 0
  freed_owed e w = go (stays_out w)
    where
      go : (t : Bool) → owed_at (InReceive c (Locked (if t then Release (release.Taken e) else AcquireReady
          e))) ≡ 0
      go true = refl
      go false = refl

  -- EXCHANGES OF THE CALLER'S OWN WORD

  -- none is lost
  kept : {A : Type 0} (v : StateWord) → c.caller.number ≡ i → (b.seen i).word ≡ x.own →
      ((b.seen c.caller.number).word ≡ v) × (v ≢ x.own) → A
  kept v me own an = absurd (an.1 (sym an.0 ∙ ap (λ (n : ℕ). (b.seen n).word) me ∙ own))

  -- the caller goes on
  goes_on : (p p' : ReceiveLocked) (new : StateWord) (b' : Board) (own : StateWord) →
      b'.seen ≡ write b.seen c.caller.number new → leave_owed new ≡ 0 →
      owed_at (InReceive c (Locked p)) ≡ 1 → owed_at (InReceive c (Locked p')) ≡ 0 →
      Exchanges b i (InReceive c (Locked p)) b' (record x { own = own; at = InReceive c (Locked p') })
  goes_on p p' new b' own is none was gone = record {
    leaves = each;
    falls = let e = each i in omega (arith, e, was, gone);
  }
    where
      each : (t : ℕ) → leave_owed (b'.seen t).word ≤ leave_owed (b.seen t).word
      each t = subst (λ (s : ℕ → Seen). leave_owed (s t).word ≤ leave_owed (b.seen t).word) (sym is)
          (written_leaves b.seen c.caller.number new none t)

  -- LOCATION BY LOCATION

  abbrev word_now : (p : ReceiveAt) (n : ℕ) (w : StateWord) → Type 0
  word_now p n w = (noted g b.seen x.position (point p (asks.Word w)) n).word ≡ w

  just : (p : ReceiveAt) (n : ℕ) (w : StateWord) → (b.seen n).word ≡ w → word_now p n w
  just p n w an = noted_word g b.seen x.position (point p (asks.Word w)) n ∙ an

  pub receive_owes : (p : ReceiveAt) → AllSay g b i x (facts_receive c p) →
      Each (receive.ask_of c x.own p) (Told p)
  receive_owes (Outside LoadCaller) f =
      λ w an silent. inr (
        (λ z. absurd cc),
        record {
          falls = own_ends rest (now (Outside LoadCaller) (asks.Word w)) i x.own c.caller (is_dead w)
              (receive.point_by c (receive.act_of c) outcome.Own) reply.Own silent;
          exchanges = let o = ended_owed c.caller (if is_dead w then went.CallerDead else went.Ends
              reply.Own) in omega (arith, o);
          entries = omega arith;
        },
      )
  receive_owes (Outside AcquireOwn) f =
      λ an silent. inr (
        (λ z. absurd cc),
        record {
          falls = acquired (now (Outside AcquireOwn) asks.Got) x.own refl c.picks;
          exchanges = let o = acquired_owed c.picks in omega (arith, o);
          entries = omega arith;
        },
      )
  receive_owes (Outside (Ended w)) f = λ v an silent. absurd f.0
  receive_owes (Locked LoadOwn) f =
      λ w an silent. inr (
        (λ z. absurd cc),
        record {
          falls = first_tried (now (Locked LoadOwn) (asks.Word w)) x.own refl (is_dead w) (first_admitted
              c.from queue) refl silent;
          exchanges = let o = first_owed (is_dead w) (first_admitted c.from queue) in omega (arith, o);
          entries = omega arith;
        },
      )
  receive_owes (Locked (LoadSender e)) f =
      let r = f.1.1.1.1.1.1.0 in
      λ w an silent. inr (
        (λ z. absurd cc),
        record {
          falls = later_tried (now (Locked (LoadSender e)) (asks.Word w)) x.own refl e (r.2, r.3) w
              (just (Locked (LoadSender e)) (number_of e) w an) (still_waits c e w)
              (first_admitted c.from (past (number_of e) queue)) refl silent;
          exchanges = let o = later_owed e w (still_waits c e w) (first_admitted c.from (past (number_of e)
              queue)) in omega (arith, o);
          entries = omega arith;
        },
      )
  receive_owes (Locked (FreeSender e w)) f = (
    (λ an silent. absurd cc),
    (λ v an silent. inr (
      (λ z. absurd cc),
      record {
        falls = lost_owes b.seen (number_of e) w v an.0 an.1 (1 + candidates c queue e + 1) 1
            (2 + candidates c queue e) (omega arith);
        exchanges = omega arith;
        entries = omega arith;
      },
    )),
  )
  receive_owes (Locked (AcquireReady e)) f =
      λ an silent. inr (
        (λ z. absurd cc),
        record {
          falls = omega arith;
          exchanges = omega arith;
          entries =
              omega arith;
        },
      )
  receive_owes (Locked CommitWait) f =
      ((λ an silent. absurd cc), (λ v an silent. kept v f.1.1.0.0 f.1.1.1.1.1.0.1 an))
  receive_owes (Locked (LoadPartner from)) f =
      λ w an silent. inr (
        (λ z. absurd cc),
        record {
          falls = partnered (now (Locked (LoadPartner from)) (asks.Word w)) x.own from (is_present_in w from)
              (receive.point_by c act.Gone outcome.Freed) silent;
          exchanges = let o = partnered_owed from (is_present_in w from) (receive.point_by c act.Gone
              outcome.Freed) silent in omega (arith, o);
          entries = omega arith;
        },
      )
  receive_owes (Locked (CommitGone from)) f = (
    (λ an silent. inl (goes_on (CommitGone from) (Release release.Gone) (in_state (state.Run result4.Gone)
        x.own)
        (now (Locked (CommitGone from)) asks.Won) (in_state (state.Run result4.Gone) x.own) refl refl refl
        refl)),
    (λ v an silent. kept v f.0.0 f.1.1.1.0.1 an),
  )
  receive_owes (Locked LoadPicking) f =
      λ w an silent. inr (
        (λ z. absurd cc),
        record {
          falls = picked (now (Locked LoadPicking) (asks.Word w)) x.own refl (first_admitted c.from queue)
              refl w.state;
          exchanges = let o = picked_owed (first_admitted c.from queue) w.state in omega (arith, o);
          entries = omega arith;
        },
      )
  receive_owes (Locked (LoadNext e)) f =
      let r = f.1.1.1.1.1.0 in
      λ w an silent. inr (
        (λ z. absurd cc),
        record {
          falls = next_tried (now (Locked (LoadNext e)) (asks.Word w)) x.own refl e (r.2, r.3) w
              (just (Locked (LoadNext e)) (number_of e) w an) (still_waits c e w)
              (first_admitted c.from (past (number_of e) queue)) refl;
          exchanges =
              let o = later_next_owed e w (still_waits c e w) (first_admitted c.from (past (number_of e)
              queue)) in omega (arith, o);
          entries = omega arith;
        },
      )
  receive_owes (Locked (FreeNext e w)) f = (
    (λ an silent. absurd cc),
    (λ v an silent. inr (
      (λ z. absurd cc),
      record {
        falls = lost_owes b.seen (number_of e) w v an.0 an.1 (1 + candidates c queue e + 1) 1
            (2 + candidates c queue e) (omega arith);
        exchanges = omega arith;
        entries = omega arith;
      },
    )),
  )
  receive_owes (Locked (EndPick e w)) f = (
    (λ an silent. inl (goes_on (EndPick e w) (after_free e w) (on_in (state.Run result4.Plain) x.own)
        (now (Locked (EndPick e w)) asks.Won) (on_in (state.Run result4.Plain) x.own) refl refl refl
        (freed_owed e w))),
    (λ v an silent. kept v f.1.0.0 f.1.1.1.1.0.1 an),
  )
  receive_owes (Locked SettlePick) f =
      ((λ an silent. absurd cc), (λ v an silent. kept v f.1.0.0 f.1.1.1.1.0.1 an))
  receive_owes (Locked (Release (release.Taken e))) f =
      λ an silent. inr (
        (λ z. absurd cc),
        record {
          falls = omega arith;
          exchanges = omega arith;
          entries =
              omega arith;
        },
      )
  receive_owes (Locked (Release release.Waits)) f =
      λ an silent. inr (
        (λ z. absurd cc),
        record {
          falls = let e = waits_owes rest (now (Locked (Release release.Waits)) asks.Released) i x.own
              c.caller in omega (arith, e);
          exchanges = omega arith;
          entries = omega arith;
        },
      )
  receive_owes (Locked (Release release.Delivered)) f =
      λ an silent. inr (
        (λ z. absurd cc),
        record {
          falls = let e = waits_owes rest (now (Locked (Release release.Delivered)) asks.Released) i x.own
              c.caller in omega (arith, e);
          exchanges = omega arith;
          entries = omega arith;
        },
      )
  receive_owes (Locked (Release release.Gone)) f =
      λ an silent. inr (
        (λ z. absurd cc),
        record {
          falls = omega arith;
          exchanges = omega arith;
          entries =
              omega arith;
        },
      )
  receive_owes (Locked (Release release.Nobody)) f =
      λ an silent. inr (
        (λ z. absurd cc),
        record {
          falls = omega arith;
          exchanges = omega arith;
          entries =
              omega arith;
        },
      )
  receive_owes (Locked (Release release.Dead)) f =
      λ an silent. inr (
        (λ z. absurd cc),
        record {
          falls = omega arith;
          exchanges = omega arith;
          entries =
              omega arith;
        },
      )
  receive_owes (Pushing (LoadFreed e)) f =
      λ w an silent. inr (
        (λ z. absurd cc),
        record {
          falls = omega arith;
          exchanges = omega arith;
          entries =
              omega arith;
        },
      )
  receive_owes (Pushing (PushFreed e w)) f =
      λ an silent. inr (
        (λ z. absurd cc),
        record {
          falls = let l = pushed_falls rest w.priority (is_pushed e w) in omega (arith, l);
          exchanges = omega arith;
          entries = pushed_all e w (is_pushed e w);
        },
      )
