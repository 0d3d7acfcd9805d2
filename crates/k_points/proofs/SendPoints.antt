-- Each step of a send decides its point, or leaves what the board shows.
use Rattle.std.proofs.Common.{◌≡◌, ℕ, Bool, true, false, cond, refl, sym, ap, ◌∙◌, Option, Some, None, List, [], ◌∷◌, arith, not}
use Rattle.std.proofs.lemmas.Bool.{eq-eqb, ne_eqb}
use Rattle.k_ids.specs.declared.calls.Reply.TheVariants as reply
use Rattle.k_ids.specs.declared.calls.Outcome.TheVariants as outcome
use Rattle.k_ids.specs.declared.state_word.Result4.TheVariants as result4
use Rattle.k_ids.specs.declared.state_word.State.TheVariants as state
use Rattle.k_ids.specs.declared.state_word.StateWord.{StateWord}
use Rattle.k_model.specs.Answered.{IsAnswered}
use Rattle.k_model.specs.Maps.{upd}
use Rattle.k_model.specs.State.{KernelState, same_id, takes_from}
use Rattle.k_model.proofs.Maps.{upd_same}
use Rattle.k_locks.specs.declared.points.Point.{Point}
use Rattle.k_locks.specs.declared.steps.Went.{Went}
use Rattle.k_locks.specs.declared.steps.Went.TheVariants as went
use Rattle.k_locks.specs.Asks.{Response}
use Rattle.k_locks.specs.Asks as asks
use Rattle.k_locks.specs.Shown.{found_in, is_dead, is_present_in, shows}
use Rattle.k_ipc.specs.declared.send.Manner.{Manner}
use Rattle.k_ipc.specs.declared.send.Manner.TheVariants as manner
use Rattle.k_ipc.specs.declared.send.SendCall.{SendCall}
use Rattle.k_ipc.specs.declared.send.SendOutside.TheVariants.{LoadCaller, AcquireReceiver, CheckCaller, Ended}
use Rattle.k_ipc.specs.declared.send.SendLocked.{SendLocked}
use Rattle.k_ipc.specs.declared.send.SendLocked.TheVariants.{LoadReceiver, StoreMail, CommitPass, WakeReceiver}
use Rattle.k_ipc.specs.declared.send.SendLocked.TheVariants.{ReloadReceiver, AcquireReady, CommitWait, Release}
use Rattle.k_ipc.specs.declared.send.SendRelease.TheVariants as release
use Rattle.k_ipc.specs.declared.send.SendPushing.TheVariants.{PushReceiver}
use Rattle.k_ipc.specs.SendTable.{SendAt, Outside, Locked, Pushing, passed_end, passed_word, phase_by, point_of}
use Rattle.k_ipc.specs.SendTable as send
use Rattle.k_ipc.specs.Words.{on_in}
use Rattle.k_board.specs.Words.{Programs, Seen, noted}
use Rattle.k_board.specs.Boards.{Board, Context, InSend, hand_of}
use Rattle.k_board.specs.Facts.{AllSay, IsOr, IsRun, Fact, HoldsThread, is_open}
use Rattle.k_board.specs.Places.{PlacesHold, facts_send, sender}
use Rattle.k_board.specs.Steps.{Answers, after, send_board, send_context, with_word, write}
use Rattle.k_board.specs.Turns.{excepted_by, excepts, is_number}
use Rattle.k_board.proofs.Cases.{if_cases}
use Rattle.k_board.proofs.SendPlaces.{open_of}
use Rattle.k_points.specs.Points.{Goes}
use Rattle.k_points.specs.Shown.{Tells, line, shown, shown_by}
use Rattle.k_points.proofs.Calls.{run_closed}
use Rattle.k_points.proofs.Quiet.{acquired_still, delivered_shown, released_still, same_still, settled_still, still}
use Rattle.k_points.proofs.SendRows.{absent_row, apart_is, busy_row, differs_is, noted_is, own_row, passes_row, waits_row}
use Rattle.k_points.proofs.Status.{excepted_same, passing_of, unexcepted}

pub alive_own : (w own : StateWord) → IsOr w own → is_dead w ≡ false → w ≡ own
alive_own w own h d = grind arith

module _ (g : Programs) (b : Board) (k : KernelState) (ok : PlacesHold g b) (sh : Tells k (shown b)) (an : IsAnswered k)
    (c : SendCall) where
  abbrev i : ℕ
  i = c.caller.number

  abbrev x : Context
  x = b.context c.caller.number

  abbrev Here : SendAt → Type 0
  Here p = (b.context c.caller.number).at ≡ InSend c p

  abbrev Sound : SendAt → Type 0
  Sound p = AllSay g b c.caller.number (b.context c.caller.number) (facts_send c p)

  abbrev Step : SendAt → Response → Type 0
  Step p r =
      Goes g b k (send.points c (b.seen c.caller.number).word (hand_of b (b.queue c.to.number)) p r)
      (send_board g b c.caller.number (b.context c.caller.number) c p r)

  abbrev ended : Bool → Context
  ended dead = record (b.context c.caller.number) { at = after c.caller (cond dead went.CallerDead (went.Ends reply.Own)) }

  abbrev passing : StateWord → Context
  passing w = send_context (b.context c.caller.number) c (Locked (CommitPass w)) asks.Won (hand_of b (b.queue c.to.number))

  -- a section that has read, and whose location is this now
  abbrev Led : Option Point → SendLocked → Type 0
  Led e p =
      Goes g b k e (record b {
        seen = noted g b.seen (b.context c.caller.number).position e;
        context = upd b.context c.caller.number (record (b.context c.caller.number) { at = InSend c (Locked p) });
      })

  -- the section's context alone changes
  quiet : (p : SendAt) (x' : Context) → Here p → excepts x'.at ≡ excepts (InSend c p) → (n : ℕ) →
      line k n ≡ shown_by (excepted_by (b.owner n) (upd b.context c.caller.number x') n) (b.seen n)
  quiet p x' at e n = sh n ∙ sym (still b c.caller.number x' (e ∙ sym (ap excepts at)) n)

  released : (p : SendAt) (x' : Context) → Here p → b.owner c.to.number ≡ Some c.caller.number → excepts x'.at ≡ None →
      excepts (InSend c p) ≡ None → (n : ℕ) →
      line k n ≡ shown_by (excepted_by (upd b.owner c.to.number None n) (upd b.context c.caller.number x') n) (b.seen n)
  released p x' at o e old n = sh n ∙ sym (released_still b c.caller.number x' c.to.number o e (ap excepts at ∙ old) n)

  -- Who is excepted stays, where the section's old and new locations except nobody.
  alike : (p : SendAt) (x' : Context) → Here p → excepts (InSend c p) ≡ None → excepts x'.at ≡ None → (j : ℕ) →
      excepted_by (b.owner j) (upd b.context c.caller.number x') j ≡ excepted_by (b.owner j) b.context j
  alike p x' at old new j =
      excepted_same (b.owner j) b.context c.caller.number x' j
      (ap (λ (o : Option ℕ). is_number o j) (new ∙ sym (ap excepts at ∙ old)))

  -- the receiver isn't excepted while the section has its lock, and excepts nobody
  free_to : (p : SendAt) → Here p → excepts (InSend c p) ≡ None → b.owner c.to.number ≡ Some c.caller.number →
      excepted_by (b.owner c.to.number) b.context c.to.number ≡ false
  free_to p at old o =
      ap (λ (q : Option ℕ). excepted_by q b.context c.to.number) o
      ∙ ap (λ (q : Option ℕ). is_number q c.to.number) (ap excepts at ∙ old)

  -- a caller that runs isn't excepted
  free_me : (own : StateWord) → (b.seen c.caller.number).word ≡ own → IsRun own →
      excepted_by (b.owner c.caller.number) b.context c.caller.number ≡ false
  free_me own is run = unexcepted g b ok c.caller.number (ap (λ (u : StateWord). is_open u.state) is ∙ run_closed own run)

  -- THE LOCATIONS

  selfs : (w : StateWord) → (b.seen c.caller.number).word ≡ w → Here (Outside LoadCaller) → Sound (Outside LoadCaller) →
      Step (Outside LoadCaller) (asks.Word w)
  selfs w is at h = go (is_dead w) refl
    where
      go : (dead : Bool) → is_dead w ≡ dead →
          Goes g b k (cond dead None (Some (point_of c outcome.Own)))
          (record b {
            seen = noted g b.seen (b.context c.caller.number).position (cond dead None (Some (point_of c outcome.Own)));
            context = upd b.context c.caller.number (ended dead);
          })
      go true d = quiet (Outside LoadCaller) (ended true) at refl
      go false d =
          own_row g b k sh an c (b.context c.caller.number).own
          (alive_own _ _ h.1.1.1.1.0.1 (ap is_dead is ∙ d)) h.1.1.1.1.0.0 h.1.0.1
          (b.context c.caller.number).position h.1.1.1.0.1 _ h.0 (alike (Outside LoadCaller) (ended false) at refl refl)
          (λ j. refl)

  loads : (w : StateWord) → (b.seen c.to.number).word ≡ w → Here (Locked LoadReceiver) → Sound (Locked LoadReceiver) →
      Step (Locked LoadReceiver) (asks.Word w)
  loads w is at h =
      go (is_present_in w c.to) (takes_from (shows w.state) c.caller c.zero) c.zero
      (is_dead (b.seen c.caller.number).word) refl refl refl refl
    where
      own : is_dead (b.seen c.caller.number).word ≡ false → (b.seen c.caller.number).word ≡ (b.context c.caller.number).own
      own d = alive_own _ _ h.1.1.1.1.1.0.1 d

      diff : same_id c.caller c.to ≡ false
      diff =
          differs_is c.caller c.to (b.seen c.caller.number).word.version h.1.1.0.1
          (ap (λ (n : ℕ). same_id c.to (record { number = n; version = (b.seen c.caller.number).word.version })) h.1.1.0.0 ∙ h.0)

      go : (present takes_ zero_ dead : Bool) → is_present_in w c.to ≡ present →
          takes_from (shows w.state) c.caller c.zero ≡ takes_ → c.zero ≡ zero_ → is_dead (b.seen c.caller.number).word ≡ dead →
          Led (cond dead None (cond (not present) (Some (point_of c (outcome.Absent (found_in c.to.number w))))
          (cond takes_ None (cond zero_ (Some (point_of c (outcome.Busy (found_in c.to.number w)))) None))))
          (cond (not present) (Release (release.Refused (reply.Absent (found_in c.to.number w))))
          (cond takes_ (StoreMail w) (cond zero_
          (Release (release.Refused (reply.Busy (found_in c.to.number w)))) CommitWait)))
      go false tk z true p q s d = quiet (Locked LoadReceiver) _ at refl
      go false tk z false p q s d =
          absent_row g b k sh an c (b.context c.caller.number).own (own d) h.1.1.1.1.1.0.0 h.1.1.0.1
          (b.context c.caller.number).position h.1.1.1.1.0.1 _ diff (free_to (Locked LoadReceiver) at refl h.1.0) w is p
          (alike (Locked LoadReceiver) _ at refl refl) (λ j. refl)
      go true true z true p q s d = quiet (Locked LoadReceiver) _ at refl
      go true true z false p q s d = quiet (Locked LoadReceiver) _ at refl
      go true false true true p q s d = quiet (Locked LoadReceiver) _ at refl
      go true false true false p q s d =
          busy_row g b k sh an c (b.context c.caller.number).own (own d) h.1.1.1.1.1.0.0 h.1.1.0.1
          (b.context c.caller.number).position h.1.1.1.1.0.1 _ diff (free_to (Locked LoadReceiver) at refl h.1.0) w is p q s
          (alike (Locked LoadReceiver) _ at refl refl) (λ j. refl)
      go true false false true p q s d = quiet (Locked LoadReceiver) _ at refl
      go true false false false p q s d = quiet (Locked LoadReceiver) _ at refl

  waits : (b.seen c.caller.number).word ≡ (b.context c.caller.number).own → Here (Locked CommitWait) → Sound (Locked CommitWait) →
      Step (Locked CommitWait) asks.Won
  waits own at h =
      waits_row g b k sh an c (b.context c.caller.number).own own h.1.1.1.1.1.0.0 h.1.1.0.1
      (b.context c.caller.number).position h.1.1.1.1.0.1 _ (apart_is c.caller c.to h.0)
      (free_to (Locked CommitWait) at refl h.1.0.0) h.1.0.1 h.1.0.2 h.1.0.3
      (free_me (b.context c.caller.number).own own h.1.1.1.1.1.0.0)
      (alike (Locked CommitWait) _ at refl refl) (λ j. refl)

  passes : (w : StateWord) → (b.seen c.caller.number).word ≡ (b.context c.caller.number).own → Here (Locked (CommitPass w)) →
      Sound (Locked (CommitPass w)) → Step (Locked (CommitPass w)) asks.Won
  passes w own at h =
      passes_row g b k sh an c (b.context c.caller.number).own own h.1.1.1.1.1.1.0.0 h.1.1.1.0.1
      (b.context c.caller.number).position h.1.1.1.1.1.0.1 _ (apart_is c.caller c.to h.0)
      (free_to (Locked (CommitPass w)) at refl h.1.0.0) h.0 h.1.0.1.0 h.1.0.1.1 (open_of c (b.seen c.to.number).word h.1.0.1)
      (excepted_same (b.owner c.caller.number) b.context c.caller.number (passing w) c.caller.number
      (ne_eqb c.to.number c.caller.number h.0 ∙ sym (ap (λ (o : Option ℕ). is_number o c.caller.number) (ap excepts at)))
      ∙ free_me (b.context c.caller.number).own own h.1.1.1.1.1.1.0.0)
      (rw (h.1.0.0, upd_same b.context c.caller.number (passing w)) (eq-eqb c.to.number c.to.number refl))
      (λ j na nc. excepted_same (b.owner j) b.context c.caller.number (passing w) j
      (ne_eqb c.to.number j (λ q. nc (sym q)) ∙ sym (ap (λ (o : Option ℕ). is_number o j) (ap excepts at))))
      (λ j. ap (λ (s : ℕ → Seen). write s c.caller.number (passed_word c.manner c.to (b.context c.caller.number).own) j)
      (noted_is b.seen c (b.context c.caller.number).position c.manner))

  wakes : (w : StateWord) → (b.seen c.to.number).word ≡ w → Here (Locked (WakeReceiver w)) → Sound (Locked (WakeReceiver w)) →
      Step (Locked (WakeReceiver w)) asks.Won
  wakes w won at h =
      let p = passing_of g b c.caller.number (b.context c.caller.number) c.manner c.caller c _ h in
      λ n. sh n ∙ sym (settled_still b c.caller.number _ c.to.number _ p.0 (free_excepts w.on) (ap excepts at)
      (ap (λ (u : StateWord). shown_by false (with_word (b.seen c.to.number)
      (on_in (state.Run (result4.Delivered c.caller)) u))) (sym won) ∙ delivered_shown c.caller (b.seen c.to.number) p.1) n)
    where
      free_excepts : (o : Bool) → excepts (InSend c (Locked (cond o (Release release.Passed) (AcquireReady w.priority)))) ≡ None
      free_excepts true = refl
      free_excepts false = refl

  ends_none : (m : Manner) → excepts (after c.caller (passed_end m)) ≡ None
  ends_none manner.Plain = refl
  ends_none manner.Joined = refl
  ends_none manner.Reply = refl

  holds_of : (m : Manner) (j : ℕ) (y : Context) (fs : List Fact) →
      AllSay g b j y (sender m c.caller (HoldsThread c.to.number ∷ fs)) → b.owner c.to.number ≡ Some j
  holds_of manner.Plain j y fs h = h.1.1.1.1.1.0
  holds_of manner.Joined j y fs h = h.1.1.1.1.1.0
  holds_of manner.Reply j y fs h = h.1.1.1.1.0

  -- every location, with every response that the board gives
  pub send_points : (p : SendAt) (r : Response) → Here p → Answers b (send.ask_of c (b.context c.caller.number).own p) r →
      Sound p → Step p r
  send_points (Outside LoadCaller) (asks.Word w) at a h = selfs w a at h
  send_points (Outside AcquireReceiver) asks.Got at a h =
      λ n. sh n ∙ sym (acquired_still b c.caller.number _ c.to.number a refl (ap excepts at) n)
  send_points (Outside AcquireReceiver) (asks.Owned o) at a h = quiet (Outside AcquireReceiver) _ at refl
  send_points (Locked LoadReceiver) (asks.Word w) at a h = loads w a at h
  send_points (Locked (StoreMail w)) asks.Stored at a h =
      λ n. sh n ∙ sym (same_still b c.caller.number _ c.to.number _ (sym (ap excepts at)) (λ d. refl) n)
  send_points (Locked (CommitPass w)) asks.Won at a h = passes w a at h
  send_points (Locked (CommitPass w)) (asks.Lost v) at a h = quiet (Locked (CommitPass w)) _ at refl
  send_points (Locked (WakeReceiver w)) asks.Won at a h = wakes w a at h
  send_points (Locked (WakeReceiver w)) (asks.Lost v) at a h = quiet (Locked (WakeReceiver w)) _ at refl
  send_points (Locked ReloadReceiver) (asks.Word w) at a h = quiet (Locked ReloadReceiver) _ at refl
  send_points (Locked (AcquireReady priority)) asks.Got at a h = quiet (Locked (AcquireReady priority)) _ at refl
  send_points (Locked (AcquireReady priority)) (asks.Owned o) at a h = quiet (Locked (AcquireReady priority)) _ at refl
  send_points (Pushing (PushReceiver priority)) asks.Released at a h = quiet (Pushing (PushReceiver priority)) _ at refl
  send_points (Locked (Release release.Passed)) asks.Released at a h =
      released (Locked (Release release.Passed)) _ at (holds_of c.manner c.caller.number (b.context c.caller.number) [] h)
      (ends_none c.manner) refl
  send_points (Locked (Release release.Dead)) asks.Released at a h = released (Locked (Release release.Dead)) _ at h.0 refl refl
  send_points (Locked (Release (release.Refused r))) asks.Released at a h =
      released (Locked (Release (release.Refused r))) _ at h.0 refl refl
  send_points (Locked (Release release.Queued)) asks.Released at a h =
      released (Locked (Release release.Queued)) _ at h.1.1.1.0.0 refl refl
  send_points (Outside (CheckCaller r)) (asks.Word w) at a h =
      quiet (Outside (CheckCaller r)) _ at (if_cases (λ (v : Went). excepts (after c.caller v) ≡ None) (is_dead w) went.CallerDead
      (went.Ends r) (λ _. refl) (λ _. refl))
  send_points (Locked CommitWait) asks.Won at a h = waits a at h
  send_points (Locked CommitWait) (asks.Lost v) at a h = quiet (Locked CommitWait) _ at refl
  send_points (Outside (Ended w)) r at a h = absurd h.0
  send_points p r at a h = absurd a
