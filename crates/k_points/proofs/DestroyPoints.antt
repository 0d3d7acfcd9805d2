-- The turns of a destroy: own, absent, killed, and each thread that it frees are events of the specification, and all else shows
-- the same.
use Rattle.std.proofs.Common.{◌≡◌, ◌≢◌, ℕ, Bool, true, false, cond, not, ◌&&◌, eqb}
use Rattle.std.proofs.Common.{refl, sym, ap, ◌∙◌, subst, Option, Some, None, arith}
use Rattle.std.proofs.lemmas.Bool.{and_parts, eqb-true}
use Rattle.std.proofs.lemmas.Bool.Decides.{nat_tests}
use Rattle.k_ids.specs.declared.threads.Found.{Found}
use Rattle.k_ids.specs.declared.threads.Status.{Status}
use Rattle.k_ids.specs.declared.threads.Status.TheVariants as status
use Rattle.k_ids.specs.declared.calls.Outcome.TheVariants as outcome
use Rattle.k_ids.specs.declared.calls.Reply.TheVariants as reply
use Rattle.k_ids.specs.declared.state_word.Result4.TheVariants as result4
use Rattle.k_ids.specs.declared.state_word.State.TheVariants as state
use Rattle.k_ids.specs.declared.state_word.StateWord.{StateWord}
use Rattle.k_model.specs.Answered.{IsAnswered}
use Rattle.k_model.specs.Answered.{is_waiting as is_waiting_status}
use Rattle.k_model.specs.Maps.{upd}
use Rattle.k_model.specs.State.{KernelState, found_of, is_present, same_id, waits_for_absent}
use Rattle.k_model.specs.State.{answered as answered_in}
use Rattle.k_model.specs.Step.{killed}
use Rattle.k_model.specs.State.{is_dead as is_dead_status}
use Rattle.k_model.proofs.Maps.{upd_other, upd_same}
use Rattle.k_locks.specs.Asks.{Response}
use Rattle.k_locks.specs.Asks as asks
use Rattle.k_locks.specs.Shown.{found_in, is_dead, is_present_in, shows}
use Rattle.k_locks.specs.declared.locks.Lock.TheVariants as lock
use Rattle.k_locks.specs.declared.points.Point.{Point}
use Rattle.k_shown.proofs.SendRows.{same_turned}
use Rattle.k_threads.specs.declared.destroy.DestroyCall.{DestroyCall}
use Rattle.k_threads.specs.declared.destroy.DestroyOutside.TheVariants as outside
use Rattle.k_threads.specs.declared.destroy.DestroyLocked.TheVariants.{LoadCaller, AcquireVictimLock, AcquireReadyForVictim}
use Rattle.k_threads.specs.declared.destroy.DestroyLocked.TheVariants.{RemoveContext, AcquireVisitedLock, Release}
use Rattle.k_threads.specs.declared.destroy.DestroyVictim.TheVariants.{LoadVictim, CommitKill, LoadSender}
use Rattle.k_threads.specs.declared.destroy.DestroyVictim.TheVariants.{FreeSender, AcquireReadyForSender}
use Rattle.k_threads.specs.declared.destroy.DestroyVictim.TheVariants.{ReleaseVictimLock, ReleaseVictimLockAbsent}
use Rattle.k_threads.specs.declared.destroy.DestroyVisit.TheVariants.{LoadVisited, FreeVisited}
use Rattle.k_threads.specs.declared.destroy.DestroyVisit.TheVariants.{AcquireReadyForVisited, ReleaseVisitedLock}
use Rattle.k_threads.specs.declared.destroy.DestroyPushing.TheVariants.{PushSender, PushVisited}
use Rattle.k_threads.specs.DestroyTable.{DestroyAt, Outside, Locked, Victim, Visit, UnlistVictim}
use Rattle.k_threads.specs.DestroyTable.{Pushing, ask_of, freed, leads, point_of, points}
use Rattle.k_threads.specs.Words.{dead_word, freed_word, thread_at}
use Rattle.k_board.specs.Words.{Programs, Seen, answered, called, noted}
use Rattle.k_board.specs.Boards.{At, Board, Context, InDestroy, Nowhere, hand_of}
use Rattle.k_board.specs.Facts.{AllSay}
use Rattle.k_board.specs.Places.{destroy_phase, facts_destroy, facts_of}
use Rattle.k_board.specs.Steps.{Answers, destroy_board, destroy_context, destroy_number, write}
use Rattle.k_board.specs.Turns.{excepted_by, excepts, is_number}
use Rattle.k_board.proofs.DestroyPlaces.{front_sends, killed_it, killed_me, killed_other, receiving_is, written_it, written_other}
use Rattle.k_board.proofs.Goes.{destroy_me}
use Rattle.k_good.specs.Good.{IsGood}
use Rattle.k_points.specs.Shown.{Line, Shows, Tells, line_answered, line_status, shown, shown_by, status_by}
use Rattle.k_points.specs.Points.{Decided, Goes}
use Rattle.k_points.proofs.Calls.{answers, decides, found_now, now, now_line, now_me, now_tells, present_now, serial_of}
use Rattle.k_points.proofs.Cases.{by_number, by_numbers}
use Rattle.k_points.proofs.Exceptions.{Owns, SameExceptions, destroy_none, moved_same, owned_still, quiet, removed_still}
use Rattle.k_points.proofs.Gones.{gone_row, present_is}
use Rattle.k_points.proofs.Lines.{tells_answered, tells_killed}
use Rattle.k_points.proofs.Rows.{destroy_absent, destroy_is, destroy_kills, destroy_own}
use Rattle.k_points.proofs.Status.{and_false, closed_status}

module _ (g : Programs) (b : Board) (k : KernelState) (c : DestroyCall) where
  abbrev i : ℕ
  i = c.caller.number

  abbrev x : Context
  x = b.context c.caller.number

  abbrev New : DestroyAt → Response → Board
  New p r = destroy_board g b c.caller.number (b.context c.caller.number) c p r

  abbrev pub GoesBy : DestroyAt → Response → Type 0
  GoesBy p r = Goes g b k (points c (b.seen c.caller.number).word (hand_of b (b.queue (destroy_number c p))) p r) (New p r)

  abbrev Sound : DestroyAt → Type 0
  Sound p = AllSay g b c.caller.number (b.context c.caller.number) (facts_destroy c p)

  -- who is excepted stays, where the locks of threads are taken and released as they have to
  by_locks : (p : DestroyAt) (r : Response) → (b.context c.caller.number).at ≡ InDestroy c p →
      Owns b.owner i (ask_of c x.own p) r → (n : ℕ) →
      excepted_by ((New p r).owner n) (upd b.context i (destroy_context x c p r (hand_of b (b.queue (destroy_number c p))))) n ≡
      excepted_by (b.owner n) b.context n
  by_locks p r at o =
      owned_still b.context _ (moved_same b.context i (destroy_context x c p r (hand_of b (b.queue (destroy_number c p))))
      (destroy_none c (leads c (hand_of b (b.queue (destroy_number c p))) p r) ∙ sym (ap excepts at))) i
      (ap excepts at) b.owner (ask_of c x.own p) r o

  same_exceptions : (p : DestroyAt) (r : Response) → (b.context c.caller.number).at ≡ InDestroy c p →
      Answers b (ask_of c x.own p) r → Sound p → SameExceptions b (New p r)
  same_exceptions (Locked AcquireVictimLock) asks.Got at an h = by_locks (Locked AcquireVictimLock) asks.Got at an
  same_exceptions (Victim ReleaseVictimLock) asks.Released at an h =
      by_locks (Victim ReleaseVictimLock) asks.Released at h.1.1.1.1.1.1.1.0
  same_exceptions (Victim (ReleaseVictimLockAbsent found)) asks.Released at an h =
      by_locks (Victim (ReleaseVictimLockAbsent found)) asks.Released at h.1.0
  same_exceptions (Locked (AcquireVisitedLock visited)) asks.Got at an h =
      by_locks (Locked (AcquireVisitedLock visited)) asks.Got at an
  same_exceptions (Visit (ReleaseVisitedLock visited)) asks.Released at an h =
      by_locks (Visit (ReleaseVisitedLock visited)) asks.Released at h.1.1.1.1.1.1.1.1.1.0
  same_exceptions (Locked RemoveContext) asks.Removed at an h =
      removed_still b.context c.who.number i (record (b.context c.who.number) { at = Nowhere })
      (destroy_context x c (Locked RemoveContext) asks.Removed (hand_of b (b.queue c.who.number))) refl
      (destroy_none c (leads c (hand_of b (b.queue c.who.number)) (Locked RemoveContext) asks.Removed)) (ap excepts at) b.owner
      (λ n. an (lock.Thread n))
  same_exceptions (Outside outside.LoadOwn) r at an h = by_locks (Outside outside.LoadOwn) r at tt
  same_exceptions (Outside outside.AcquireTable) r at an h = by_locks (Outside outside.AcquireTable) r at tt
  same_exceptions (Outside (outside.Ended w)) r at an h = absurd h.0
  same_exceptions (Locked LoadCaller) r at an h = by_locks (Locked LoadCaller) r at tt
  same_exceptions (Victim LoadVictim) r at an h = by_locks (Victim LoadVictim) r at tt
  same_exceptions (Victim (CommitKill seen)) r at an h = by_locks (Victim (CommitKill seen)) r at tt
  same_exceptions (Victim (LoadSender n)) r at an h = by_locks (Victim (LoadSender n)) r at tt
  same_exceptions (Victim (FreeSender n seen)) r at an h = by_locks (Victim (FreeSender n seen)) r at tt
  same_exceptions (Victim (AcquireReadyForSender n seen)) r at an h = by_locks (Victim (AcquireReadyForSender n seen)) r at tt
  same_exceptions (Pushing (PushSender n seen)) r at an h = by_locks (Pushing (PushSender n seen)) r at tt
  same_exceptions (Pushing (PushVisited n seen)) r at an h = by_locks (Pushing (PushVisited n seen)) r at tt
  same_exceptions (Locked AcquireReadyForVictim) r at an h = by_locks (Locked AcquireReadyForVictim) r at tt
  same_exceptions UnlistVictim r at an h = by_locks UnlistVictim r at tt
  same_exceptions (Visit (LoadVisited n)) r at an h = by_locks (Visit (LoadVisited n)) r at tt
  same_exceptions (Visit (FreeVisited n seen)) r at an h = by_locks (Visit (FreeVisited n seen)) r at tt
  same_exceptions (Visit (AcquireReadyForVisited n seen)) r at an h = by_locks (Visit (AcquireReadyForVisited n seen)) r at tt
  same_exceptions (Locked (Release q)) r at an h = by_locks (Locked (Release q)) r at tt
  same_exceptions p r at an h = by_locks p r at tt

  module _ (good : IsGood g b) (sh : Shows b k) (an : IsAnswered k) where
    quiet_by : (p : DestroyAt) (r : Response) → (b.context c.caller.number).at ≡ InDestroy c p → Answers b (ask_of c x.own p) r →
        Sound p → ((n : ℕ) → (New p r).seen n ≡ b.seen n) → Tells k (shown (New p r))
    quiet_by p r at ans h is = quiet k b (New p r) sh.lines (same_exceptions p r at ans h) is

    -- a location that notes this point
    abbrev led : DestroyAt → Response → Option Point → Board
    led p r e = record (New p r) { seen = noted g b.seen x.position e }

    abbrev Led : DestroyAt → Response → Option Point → Type 0
    Led p r e = Goes g b k e (led p r e)

    abbrev serial : ℕ
    serial = serial_of b c.caller

    -- the caller would destroy itself
    load_own : (w : StateWord) → (b.context c.caller.number).at ≡ InDestroy c (Outside outside.LoadOwn) → (b.seen i).word ≡ w →
        Sound (Outside outside.LoadOwn) → GoesBy (Outside outside.LoadOwn) (asks.Word w)
    load_own w at is h = go (is_dead w) refl
      where
        still : SameExceptions b (New (Outside outside.LoadOwn) (asks.Word w))
        still = same_exceptions (Outside outside.LoadOwn) (asks.Word w) at is h

        go : (dead : Bool) → is_dead w ≡ dead →
            Led (Outside outside.LoadOwn) (asks.Word w) (cond dead None (Some (point_of c outcome.Own)))
        go true d = quiet k b (led (Outside outside.LoadOwn) (asks.Word w) None) sh.lines still (λ n. refl)
        go false d =
            let own : (b.seen i).word ≡ x.own = grind arith in
            answers b k sh.lines an c.caller x.own own h.1.1.1.1.0.0 h.1.0.1 g (destroy_phase c) x.position h.1.1.1.0.1
            (led (Outside outside.LoadOwn) (asks.Word w) (Some (point_of c outcome.Own))) still outcome.Own reply.Own
            (destroy_is k c.caller serial c.who ∙ destroy_own (now b k c.caller) c.caller serial c.who
            (same_turned c.caller c.who ∙ h.0)) (λ n. refl)

    differs : same_id c.who (record { number = c.caller.number; version = (b.seen c.caller.number).word.version }) ≡ false →
        c.caller.version ≡ (b.seen c.caller.number).word.version → same_id c.caller c.who ≡ false
    differs d v =
        same_turned c.caller c.who ∙ ap (λ (m : ℕ). same_id c.who (record { number = c.caller.number; version = m })) v ∙ d

    -- nobody is excepted by a destroy
    mine_shown : (p : DestroyAt) → (b.context c.caller.number).at ≡ InDestroy c p → (n : ℕ) → b.owner n ≡ Some c.caller.number →
        excepted_by (b.owner n) b.context n ≡ false
    mine_shown p at n own = ap (λ (o : Option ℕ). excepted_by o b.context n) own ∙ ap (λ (a : At). is_number (excepts a) n) at

    -- the victim isn't there
    load_victim : (w : StateWord) → (b.context c.caller.number).at ≡ InDestroy c (Victim LoadVictim) →
        (b.seen c.who.number).word ≡ w → Sound (Victim LoadVictim) → GoesBy (Victim LoadVictim) (asks.Word w)
    load_victim w at is h = go (is_present_in w c.who) refl
      where
        still : SameExceptions b (New (Victim LoadVictim) (asks.Word w))
        still = same_exceptions (Victim LoadVictim) (asks.Word w) at is h

        go : (present : Bool) → is_present_in w c.who ≡ present →
            Led (Victim LoadVictim) (asks.Word w) (cond present None
            (Some (point_of c (outcome.Absent (found_in c.who.number w)))))
        go true p = quiet k b (led (Victim LoadVictim) (asks.Word w) None) sh.lines still (λ n. refl)
        go false p =
            let run = h.1.1.1.1.1.1.0.0 in
            let own = h.1.1.1.1.1.1.0.1 in
            let v = h.1.1.1.0.1 in
            let found : found_of (now b k c.caller) c.who.number ≡ found_in c.who.number w =
            found_now b k sh.lines an c.caller x.own own run v (destroy_phase c) c.who.number
            (mine_shown (Victim LoadVictim) at c.who.number h.1.1.0) ∙ ap (found_in c.who.number) is in
            answers b k sh.lines an c.caller x.own own run v g (destroy_phase c) x.position h.1.1.1.1.1.0.1
            (led (Victim LoadVictim) (asks.Word w) (Some (point_of c (outcome.Absent (found_in c.who.number w))))) still
            (outcome.Absent (found_in c.who.number w)) (reply.Absent (found_in c.who.number w))
            (destroy_is k c.caller serial c.who ∙ destroy_absent (now b k c.caller) c.caller serial c.who (differs h.0 v)
            (present_now b k sh.lines an c.caller x.own own run v (destroy_phase c) c.who
            ∙ ap (λ (u : StateWord). is_present_in u c.who) is ∙ p)
            ∙ ap (λ (q : Found). (answered_in (now b k c.caller) c.caller serial (reply.Absent q), outcome.Absent q)) found)
            (λ n. refl)

    -- the victim is killed
    kill : (seen : StateWord) → (b.context c.caller.number).at ≡ InDestroy c (Victim (CommitKill seen)) →
        (b.seen c.who.number).word ≡ seen → Sound (Victim (CommitKill seen)) → GoesBy (Victim (CommitKill seen)) asks.Won
    kill seen at won h =
        let n = c.who.number in
        let run = h.1.1.1.1.1.1.0.0 in
        let own = h.1.1.1.1.1.1.0.1 in
        let v = h.1.1.1.0.1 in
        let k1 = now b k c.caller in
        let f1 = now_line b c.caller in
        let f2 = line_status f1 n status.Dead in
        let m2 : f2 i ≡ record (shown b i) { serial = serial; told = None } =
        upd_other f1 n _ i (λ q. apart (sym q)) ∙ now_me b k sh.lines an c.caller x.own own run v in
        decides b k sh.lines an c.caller x.own own run v g (destroy_phase c) x.position h.1.1.1.1.1.0.1
        (New (Victim (CommitKill seen)) asks.Won) outcome.Killed (answered_in (killed k1 c.who) c.caller serial reply.Killed)
        (destroy_is k c.caller serial c.who ∙ destroy_kills k1 c.caller serial c.who (differs h.0 v)
        (present_now b k sh.lines an c.caller x.own own run v (destroy_phase c) c.who
        ∙ ap (λ (u : StateWord). is_present_in u c.who) won ∙ h.1.1.1.1.1.1.1.0))
        (ap (λ (u : Seen). u.position) (killed_me b.seen i n (called (b.seen i) (Some reply.Killed) x.position)
        (dead_word c.who.version) apart))
        (λ j. tells_answered (killed k1 c.who) f2 c.caller serial reply.Killed (ap (λ (l : Line). l.version) m2 ∙ sym v)
        (ap (λ (l : Line). l.serial) m2) (ap (λ (l : Line). l.told) m2)
        (tells_killed k1 f1 c.who (now_tells b k sh.lines an c.caller x.own own run v (destroy_phase c))) j
        ∙ lines j
        ∙ ap (λ (d : Bool). shown_by d ((New (Victim (CommitKill seen)) asks.Won).seen j))
        (sym (same_exceptions (Victim (CommitKill seen)) asks.Won at won h j)))
      where
        version : (b.seen c.who.number).word.version ≡ c.who.version
        version = ap (λ (u : StateWord). u.version) won ∙ eqb-true seen.version c.who.version (and_parts _ _ h.1.1.1.1.1.1.1.0).0

        apart : c.who.number ≢ c.caller.number
        apart q = by h.0 q version
          where
            by : same_id c.who (record { number = c.caller.number; version = (b.seen c.caller.number).word.version }) ≡ false →
                c.who.number ≡ c.caller.number → (b.seen c.who.number).word.version ≡ c.who.version → ⊥
            by d e f = grind (arith, nat_tests)

        lines : (j : ℕ) →
            line_answered (line_status (now_line b c.caller) c.who.number status.Dead) i reply.Killed j ≡
            shown_by (excepted_by (b.owner j) b.context j) ((New (Victim (CommitKill seen)) asks.Won).seen j)
        lines =
            let n = c.who.number in
            let v : Seen = called (b.seen i) (Some reply.Killed) x.position in
            let w = dead_word c.who.version in
            let e : ℕ → Bool = λ j. excepted_by (b.owner j) b.context j in
            let f1 = now_line b c.caller in
            let f2 = line_status f1 n status.Dead in
            by_numbers (λ (j : ℕ). line_answered f2 i reply.Killed j ≡
            shown_by (e j) ((New (Victim (CommitKill seen)) asks.Won).seen j)) i n
            (upd_same f2 i _ ∙ ap (λ (l : Line). record l { told = Some reply.Killed })
            (upd_other f1 n _ i (λ q. apart (sym q)) ∙ upd_same (shown b) i _)
            ∙ ap (shown_by (e i)) (sym (killed_me b.seen i n v w apart)))
            (upd_other f2 i _ n apart ∙ upd_same f1 n _ ∙ ap (λ (l : Line). record l { status = status.Dead; joined = false })
            (upd_other (shown b) i _ n apart)
            ∙ (λ d. record {
              version = version d;
              status = sym (closed_status (e n) state.Dead refl) d;
              joined = false;
              serial = (b.seen n).last;
              told = (b.seen n).told;
            }) ∙ ap (shown_by (e n)) (sym (killed_it b.seen i n v w apart)))
            (λ j ni nn. upd_other f2 i _ j ni ∙ upd_other f1 n _ j nn ∙ upd_other (shown b) i _ j ni
            ∙ ap (shown_by (e j)) (sym (killed_other b.seen i n v w apart j ni nn)))

    -- One that waits for the victim alone is freed, once the victim is dead.
    frees : (n : ℕ) (seen : StateWord) (st : Status) → (b.seen n).word ≡ seen → is_dead (b.seen c.who.number).word ≡ true →
        status_by (excepted_by (b.owner n) b.context n) (b.seen n).word.state ≡ st → is_dead_status st ≡ false →
        is_waiting_status st ≡ true → (is_present k c.who ≡ false → waits_for_absent k st ≡ true) → (b' : Board) →
        SameExceptions b b' →
        ((j : ℕ) → b'.seen j ≡ write (upd b.seen n (answered (b.seen n) reply.Gone)) n (freed_word seen) j) →
        Decided g b k (freed (thread_at n seen)) b'
    frees n seen st won dead is alive waits absent b' same seen_is =
        gone_row b k sh.lines g an (thread_at n seen) st b' (ap (λ (u : StateWord). u.version) won) is alive waits
        (absent (present_is b k sh.lines c.who ∙ ap (λ (d : Bool).
        eqb (b.seen c.who.number).word.version c.who.version && not d) dead ∙ and_false _))
        (ap (λ (u : Seen). u.position) (seen_is n ∙ written_it b.seen n (answered (b.seen n) reply.Gone) (freed_word seen)))
        (λ j. lines j ∙ (λ d. shown_by (sym (same j) d) (sym (seen_is j) d)))
      where
        lines : (j : ℕ) →
            line_answered (line_status (shown b) n status.Run) n reply.Gone j ≡
            shown_by (excepted_by (b.owner j) b.context j) (write (upd b.seen n (answered (b.seen n) reply.Gone)) n
            (freed_word seen) j)
        lines =
            let v : Seen = answered (b.seen n) reply.Gone in
            let e : ℕ → Bool = λ j. excepted_by (b.owner j) b.context j in
            let f1 = line_status (shown b) n status.Run in
            by_number (λ (j : ℕ). line_answered f1 n reply.Gone j ≡
            shown_by (e j) (write (upd b.seen n v) n (freed_word seen) j)) n
            (upd_same f1 n _ ∙ ap (λ (l : Line). record l { told = Some reply.Gone }) (upd_same (shown b) n _)
            ∙ (λ d. record {
              version = ap (λ (u : StateWord). u.version) won d;
              status = sym (closed_status (e n) (state.Run result4.Gone) refl) d;
              joined = false;
              serial = (b.seen n).last;
              told = Some reply.Gone;
            }) ∙ ap (shown_by (e n)) (sym (written_it b.seen n v (freed_word seen))))
            (λ j ne. upd_other f1 n _ j ne ∙ upd_other (shown b) n _ j ne
            ∙ ap (shown_by (e j)) (sym (written_other b.seen n v (freed_word seen) j ne)))

    free_sender : (n : ℕ) (seen : StateWord) → (b.context c.caller.number).at ≡ InDestroy c (Victim (FreeSender n seen)) →
        (b.seen n).word ≡ seen → Sound (Victim (FreeSender n seen)) → GoesBy (Victim (FreeSender n seen)) asks.Won
    free_sender n seen at won h =
        let st = front_sends c.who (b.queue c.who.number) n seen h.1.1.1.1.1.1.1.1.1.1.0.1 in
        let is : status_by (excepted_by (b.owner n) b.context n) (b.seen n).word.state ≡ status.Sending c.who =
        ap (status_by (excepted_by (b.owner n) b.context n)) (ap (λ (u : StateWord). u.state) won ∙ st.is)
        ∙ closed_status (excepted_by (b.owner n) b.context n) (state.Sending c.who st.joined) refl in
        frees n seen (status.Sending c.who) won h.0.1 is refl refl (λ q. ap not q) (New (Victim (FreeSender n seen)) asks.Won)
        (same_exceptions (Victim (FreeSender n seen)) asks.Won at won h) (λ j. refl)

    free_visited : (n : ℕ) (seen : StateWord) → (b.context c.caller.number).at ≡ InDestroy c (Visit (FreeVisited n seen)) →
        (b.seen n).word ≡ seen → Sound (Visit (FreeVisited n seen)) → GoesBy (Visit (FreeVisited n seen)) asks.Won
    free_visited n seen at won h =
        let st : (b.seen n).word.state ≡ state.Receiving (Some c.who) =
        ap (λ (u : StateWord). u.state) won ∙ receiving_is c.who seen.state h.1.1.1.1.1.1.1.1.1.1.0.1 in
        let is : status_by (excepted_by (b.owner n) b.context n) (b.seen n).word.state ≡ status.Receiving (Some c.who) =
        ap (λ (d : Bool). status_by d (b.seen n).word.state)
        (mine_shown (Visit (FreeVisited n seen)) at n h.1.1.1.1.1.1.1.1.1.0) ∙ ap shows st in
        frees n seen (status.Receiving (Some c.who)) won h.0.1 is refl refl (λ q. ap not q)
        (New (Visit (FreeVisited n seen)) asks.Won) (same_exceptions (Visit (FreeVisited n seen)) asks.Won at won h) (λ j. refl)

    -- each location, for each response that it can have
    goes : (p : DestroyAt) (r : Response) → (b.context c.caller.number).at ≡ InDestroy c p →
        Answers b (ask_of c (b.context c.caller.number).own p) r → Sound p → GoesBy p r
    goes (Outside outside.LoadOwn) (asks.Word w) at ans h = load_own w at ans h
    goes (Outside outside.AcquireTable) asks.Got at ans h = quiet_by (Outside outside.AcquireTable) asks.Got at ans h (λ n. refl)
    goes (Outside outside.AcquireTable) (asks.Owned o) at ans h =
        quiet_by (Outside outside.AcquireTable) (asks.Owned o) at ans h (λ n. refl)
    goes (Locked LoadCaller) (asks.Word w) at ans h = quiet_by (Locked LoadCaller) (asks.Word w) at ans h (λ n. refl)
    goes (Locked AcquireVictimLock) asks.Got at ans h = quiet_by (Locked AcquireVictimLock) asks.Got at ans h (λ n. refl)
    goes (Locked AcquireVictimLock) (asks.Owned o) at ans h =
        quiet_by (Locked AcquireVictimLock) (asks.Owned o) at ans h (λ n. refl)
    goes (Victim LoadVictim) (asks.Word w) at ans h = load_victim w at ans h
    goes (Victim (CommitKill seen)) asks.Won at ans h = kill seen at ans h
    goes (Victim (CommitKill seen)) (asks.Lost v) at ans h =
        quiet_by (Victim (CommitKill seen)) (asks.Lost v) at ans h (λ n. refl)
    goes (Victim (LoadSender n)) (asks.Word w) at ans h = quiet_by (Victim (LoadSender n)) (asks.Word w) at ans h (λ n. refl)
    goes (Victim (FreeSender n seen)) asks.Won at ans h = free_sender n seen at ans h
    goes (Victim (FreeSender n seen)) (asks.Lost v) at ans h =
        quiet_by (Victim (FreeSender n seen)) (asks.Lost v) at ans h (λ n. refl)
    goes (Victim (AcquireReadyForSender n seen)) asks.Got at ans h =
        quiet_by (Victim (AcquireReadyForSender n seen)) asks.Got at ans h (λ n. refl)
    goes (Victim (AcquireReadyForSender n seen)) (asks.Owned o) at ans h =
        quiet_by (Victim (AcquireReadyForSender n seen)) (asks.Owned o) at ans h (λ n. refl)
    goes (Pushing (PushSender n seen)) asks.Released at ans h =
        quiet_by (Pushing (PushSender n seen)) asks.Released at ans h (λ n. refl)
    goes (Victim ReleaseVictimLock) asks.Released at ans h =
        quiet_by (Victim ReleaseVictimLock) asks.Released at ans h (λ n. refl)
    goes (Locked AcquireReadyForVictim) asks.Got at ans h = quiet_by (Locked AcquireReadyForVictim) asks.Got at ans h (λ n. refl)
    goes (Locked AcquireReadyForVictim) (asks.Owned o) at ans h =
        quiet_by (Locked AcquireReadyForVictim) (asks.Owned o) at ans h (λ n. refl)
    goes UnlistVictim asks.Released at ans h = quiet_by UnlistVictim asks.Released at ans h (λ n. refl)
    goes (Locked RemoveContext) asks.Removed at ans h = quiet_by (Locked RemoveContext) asks.Removed at ans h (λ n. refl)
    goes (Locked RemoveContext) asks.Kept at ans h = quiet_by (Locked RemoveContext) asks.Kept at ans h (λ n. refl)
    goes (Locked (AcquireVisitedLock n)) asks.Got at ans h =
        quiet_by (Locked (AcquireVisitedLock n)) asks.Got at ans h (λ n. refl)
    goes (Locked (AcquireVisitedLock n)) (asks.Owned o) at ans h =
        quiet_by (Locked (AcquireVisitedLock n)) (asks.Owned o) at ans h (λ n. refl)
    goes (Visit (LoadVisited n)) (asks.Word w) at ans h = quiet_by (Visit (LoadVisited n)) (asks.Word w) at ans h (λ n. refl)
    goes (Visit (FreeVisited n seen)) asks.Won at ans h = free_visited n seen at ans h
    goes (Visit (FreeVisited n seen)) (asks.Lost v) at ans h =
        quiet_by (Visit (FreeVisited n seen)) (asks.Lost v) at ans h (λ n. refl)
    goes (Visit (AcquireReadyForVisited n seen)) asks.Got at ans h =
        quiet_by (Visit (AcquireReadyForVisited n seen)) asks.Got at ans h (λ n. refl)
    goes (Visit (AcquireReadyForVisited n seen)) (asks.Owned o) at ans h =
        quiet_by (Visit (AcquireReadyForVisited n seen)) (asks.Owned o) at ans h (λ n. refl)
    goes (Pushing (PushVisited n seen)) asks.Released at ans h =
        quiet_by (Pushing (PushVisited n seen)) asks.Released at ans h (λ n. refl)
    goes (Visit (ReleaseVisitedLock n)) asks.Released at ans h =
        quiet_by (Visit (ReleaseVisitedLock n)) asks.Released at ans h (λ n. refl)
    goes (Locked (Release q)) asks.Released at ans h = quiet_by (Locked (Release q)) asks.Released at ans h (λ n. refl)
    goes (Victim (ReleaseVictimLockAbsent found)) asks.Released at ans h =
        quiet_by (Victim (ReleaseVictimLockAbsent found)) asks.Released at ans h (λ n. refl)
    goes (Outside (outside.Ended w)) r at ans h = absurd h.0
    goes p r at ans h = absurd ans

-- A turn of a destroy is one event of the specification where it has a point, and shows the same where it has none.
pub destroy_points : (g : Programs) (b : Board) (k : KernelState) → IsGood g b → Shows b k → IsAnswered k →
    (i : ℕ) (c : DestroyCall) (p : DestroyAt) (r : Response) → (b.context i).at ≡ InDestroy c p →
    Answers b (ask_of c (b.context i).own p) r →
    Goes g b k (points c (b.seen i).word (hand_of b (b.queue (destroy_number c p))) p r) (destroy_board g b i (b.context i) c p r)
destroy_points g b k good sh an i c p r at ans =
    let h : AllSay g b i (b.context i) (facts_destroy c p) =
    subst (λ (q : At). AllSay g b i (b.context i) (facts_of q)) at (good.places i) in
    subst (λ (m : ℕ). (b.context m).at ≡ InDestroy c p → Answers b (ask_of c (b.context m).own p) r →
    Goes g b k (points c (b.seen m).word (hand_of b (b.queue (destroy_number c p))) p r)
    (destroy_board g b m (b.context m) c p r)) (destroy_me g b i (b.context i) c p h)
    (λ at ans. goes g b k c good sh an p r at ans (subst (λ (q : At).
    AllSay g b c.caller.number (b.context c.caller.number) (facts_of q)) at (good.places c.caller.number))) at ans
