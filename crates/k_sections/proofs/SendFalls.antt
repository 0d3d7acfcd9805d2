-- A step of a send brings it nearer to each release.
use Rattle.std.proofs.Common.{◌≡◌, ◌≢◌, ℕ, ◌+◌, ◌≤◌, Bool, true, false, not, refl, ◌∙◌, arith, Some, None, inl, inr}
use Rattle.std.proofs.lemmas.Bool.{cond_both}
use Rattle.std.proofs.lemmas.Bool.Decides.{nat_tests}
use Rattle.std.proofs.lemmas.Grind.{common_steps}
use Rattle.std.specs.Prelude.{◌==◌, if◌then◌else◌}
use Rattle.k_ids.specs.declared.state_word.StateWord.{StateWord}
use Rattle.k_model.specs.State.{takes_from}
use Rattle.k_locks.specs.declared.locks.Lock.{Lock}
use Rattle.k_locks.specs.declared.locks.Lock.TheVariants as lock
use Rattle.k_locks.specs.Asks.{Response, is_again}
use Rattle.k_locks.specs.Asks as asks
use Rattle.k_locks.specs.Hands.{Hand}
use Rattle.k_locks.specs.Locks.{Holds}
use Rattle.k_locks.specs.Shown.{is_present_in, shows}
use Rattle.k_locks.specs.Tables.{hand_came, misses, there_after}
use Rattle.k_locks.proofs.Responses.{Each, made_by}
use Rattle.k_caller.specs.Waits.{off_word}
use Rattle.k_ipc.specs.declared.send.SendCall.{SendCall}
use Rattle.k_ipc.specs.declared.send.SendOutside.TheVariants.{LoadCaller, AcquireReceiver, CheckCaller, Ended}
use Rattle.k_ipc.specs.declared.send.SendLocked.{SendLocked}
use Rattle.k_ipc.specs.declared.send.SendLocked.TheVariants.{LoadReceiver, StoreMail, CommitPass, WakeReceiver}
use Rattle.k_ipc.specs.declared.send.SendLocked.TheVariants.{ReloadReceiver, AcquireReady, CommitWait, Release}
use Rattle.k_ipc.specs.declared.send.SendRelease.TheVariants as release
use Rattle.k_ipc.specs.declared.send.SendPushing.TheVariants.{PushReceiver}
use Rattle.k_ipc.specs.SendTable.{SendAt, Outside, Locked, Pushing, ask_of, leads}
use Rattle.k_ipc.specs.SendTable.{locks_of, points, rest_of, seen_of, send_table, stays}
use Rattle.k_ipc.specs.SendTable as send
use Rattle.k_ipc.proofs.SendRuns.{in_time}
use Rattle.k_board.specs.Words.{Programs, Seen, noted}
use Rattle.k_board.specs.Boards.{InSend, Context, Board, hand_of}
use Rattle.k_board.specs.Facts.{AllSay, IsLoaded}
use Rattle.k_board.specs.Places.{facts_send}
use Rattle.k_board.specs.Steps.{Answers, send_at, send_board, wrote}
use Rattle.k_good.proofs.Owners.{suits_is}
use Rattle.k_sections.specs.Situations.{is_there, loaded_send, rest_at}
use Rattle.k_sections.specs.Words.{same_words}
use Rattle.k_sections.proofs.Falls.{always, brought, ended_rest, fall_by, just_loaded, lost_there}
use Rattle.k_sections.proofs.Falls.{never, quiet, stored_there, within_by, won_there}
use Rattle.k_sections.proofs.Words.{same_where}

-- The steps that are left of a send don't depend on what is in hand.
pub same_rest : (c : SendCall) (h h' : Hand) (there : Bool) (p : SendAt) (k : Lock) →
    rest_of c h there p k ≡ rest_of c h' there p k
same_rest c h h' there p (lock.Thread n) = refl
same_rest c h h' there p lock.Table = refl
same_rest c h h' there p lock.Ready = refl

-- where the loaded word is still there, no more are left
rest_above : (c : SendCall) (h : Hand) (p : SendAt) (there : Bool) (k : Lock) → rest_of c h true p k ≤ rest_of c h there p k
rest_above c h p true k = omega arith
rest_above c h p false lock.Table = omega arith
rest_above c h p false lock.Ready = omega arith
rest_above c h p false (lock.Thread n) = go p (n == c.to.number)
  where
    go : (p : SendAt) (b : Bool) → (if b then send.rest_thread true p else 0) ≤ (if b then send.rest_thread false p else 0)
    go p false = omega arith
    go (Outside p) true = omega arith
    go (Pushing p) true = omega arith
    go (Locked p) true = grind (arith, common_steps)

module _ (g : Programs) (b : Board) (i : ℕ) (c : SendCall) where
  abbrev pub x : Context
  x = b.context i

  abbrev pub hand : Hand
  hand = hand_of b (b.queue c.to.number)

  -- what a step does to the loaded word, and what it tells of it
  abbrev Tells : SendAt → Response → Type 0
  Tells p r =
      (is_there (wrote (noted g b.seen x.position (points c (b.seen i).word hand p r)) (ask_of c x.own p) r)
      (loaded_send c (leads c hand p r)) ≡ false → there_after (is_there b.seen (loaded_send c p)) r ≡ false) ×
      (misses (seen_of c p) (ask_of c x.own p) r ≡ true → is_there b.seen (loaded_send c p) ≡ false)

  abbrev Told : SendAt → Response → Type 0
  Told p r = Answers b (ask_of c x.own p) r → Tells p r

  receiver_told : (w : StateWord) → (b.seen c.to.number).word ≡ w → {A : Type 0} →
      is_there (wrote (noted g b.seen x.position (points c (b.seen i).word hand (Locked LoadReceiver) (asks.Word w)))
      (asks.Load c.to.number) (asks.Word w)) (loaded_send c (leads c hand (Locked LoadReceiver) (asks.Word w))) ≡ false → A
  receiver_told w e {A} =
      let now = wrote (noted g b.seen x.position (points c (b.seen i).word hand (Locked LoadReceiver) (asks.Word w)))
      (asks.Load c.to.number) (asks.Word w) in
      let P : SendLocked → Type 0 = λ q. is_there now (loaded_send c (Locked q)) ≡ false → A in
      cond_both (not (is_present_in w c.to)) _ _ P (λ _. always)
      (λ _. cond_both (takes_from (shows w.state) c.caller c.zero) _ _ P
      (λ _. just_loaded g b.seen x.position (points c (b.seen i).word hand (Locked LoadReceiver)
      (asks.Word w)) c.to.number c.to.number w e)
      (λ _. cond_both c.zero _ _ P (λ _. always) (λ _. always)))

  woken_told : (w : StateWord) (now : ℕ → Seen) {A : Type 0} →
      is_there now (loaded_send c (Locked (if w.on then Release release.Passed else AcquireReady w.priority))) ≡ false → A
  woken_told w now {A} =
      cond_both w.on _ _ (λ (q : SendLocked). is_there now (loaded_send c (Locked q)) ≡ false → A) (λ _. always) (λ _. always)

  -- at a pass the caller's word is exchanged, and the receiver's was loaded
  passed_told : (w v : StateWord) → c.to.number ≢ c.caller.number →
      misses (Some c.to.number) (ask_of c x.own (Locked (CommitPass w))) (asks.Lost v) ≡ true →
      is_there b.seen (loaded_send c (Locked (CommitPass w))) ≡ false
  passed_told w v apart e = absurd (apart (grind (arith, nat_tests, e)))

  send_tells : (p : SendAt) → AllSay g b i x (facts_send c p) → Each (ask_of c x.own p) (Told p)
  send_tells (Outside LoadCaller) f = λ w an. quiet
  send_tells (Outside AcquireReceiver) f = λ an. quiet
  send_tells (Outside (CheckCaller r)) f = λ w an. quiet
  send_tells (Outside (Ended w)) f = λ v an. quiet
  send_tells (Locked LoadReceiver) f = λ w an. (receiver_told w an, never)
  send_tells (Locked (StoreMail w)) f = λ an. (stored_there g b.seen x.position None c.to.number c.to.number c.message w, never)
  send_tells (Locked (CommitPass w)) f =
      let apart : c.to.number ≢ c.caller.number = λ e. f.0 (e ∙ f.1.1.1.0.0) in (
        (λ an. (
          won_there g b.seen x.position (points c (b.seen i).word hand
              (Locked (CommitPass w)) asks.Won) c.to.number c.caller.number x.own (send.passed_word c.manner c.to x.own) w apart,
          never,
        )),
        (λ v an. (always, passed_told w v apart)),
      )
  send_tells (Locked (WakeReceiver w)) f = (
    (λ an. (
      woken_told w (wrote (noted g b.seen x.position (points c (b.seen i).word hand (Locked (WakeReceiver w)) asks.Won))
          (ask_of c x.own (Locked (WakeReceiver w))) asks.Won),
      never,
    )),
    (λ v an. (always, λ e. lost_there b.seen c.to.number v w an.0 an.1)),
  )
  send_tells (Locked ReloadReceiver) f = λ w an. (just_loaded g b.seen x.position None c.to.number c.to.number w an, never)
  send_tells (Locked (AcquireReady priority)) f = λ an. quiet
  send_tells (Locked CommitWait) f = ((λ an. quiet), (λ v an. quiet))
  send_tells (Locked (Release release.Passed)) f = λ an. quiet
  send_tells (Locked (Release release.Dead)) f = λ an. quiet
  send_tells (Locked (Release (release.Refused r))) f = λ an. quiet
  send_tells (Locked (Release release.Queued)) f = λ an. quiet
  send_tells (Pushing (PushReceiver priority)) f = λ an. quiet

  sent_rest : (b' : Board) (p : SendAt) (k : Lock) (h : Hand) →
      rest_at b' i (send_at c p) k ≤ rest_of c h (is_there b'.seen (loaded_send c p)) p k
  sent_rest b' (Outside (Ended w)) k h = let e = ended_rest b' i c.caller w k in omega (arith, e)
  sent_rest b' (Outside LoadCaller) k h =
      let e = same_rest c (hand_of b' (b'.queue c.to.number)) h true (Outside LoadCaller) k in omega (arith, e)
  sent_rest b' (Outside AcquireReceiver) k h =
      let e = same_rest c (hand_of b' (b'.queue c.to.number)) h true (Outside AcquireReceiver) k in omega (arith, e)
  sent_rest b' (Outside (CheckCaller r)) k h =
      let e = same_rest c (hand_of b' (b'.queue c.to.number)) h true (Outside (CheckCaller r)) k in omega (arith, e)
  sent_rest b' (Locked p) k h =
      let e = same_rest c (hand_of b' (b'.queue c.to.number)) h (is_there b'.seen (loaded_send c (Locked p))) (Locked p) k in
      omega (arith, e)
  sent_rest b' (Pushing p) k h = let e = same_rest c (hand_of b' (b'.queue c.to.number)) h true (Pushing p) k in omega (arith, e)

  pub send_falls : (p : SendAt) → AllSay g b i x (facts_send c p) → (k : Lock) → Holds k (locks_of c p) → (r : Response) →
      Answers b (ask_of c x.own p) r → is_again r ≡ false →
      1 + rest_at (send_board g b i x c p r) i (send_at c (leads c hand p r)) k ≤ rest_at b i (InSend c p) k
  send_falls p f k holds r may once =
      let a = ask_of c x.own p in
      let b' = send_board g b i x c p r in
      let p' = leads c hand p r in
      let suits = suits_is b a r may in
      let told = made_by a r (Told p) suits once (send_tells p f) may in
      fall_by (send_table c) (in_time c) (rest_above c) b k x.own hand p r (is_there b.seen (loaded_send c p))
      (is_there b'.seen (loaded_send c p')) (rest_at b' i (send_at c p') k) tt holds suits once tt told.1 told.0
      (sent_rest b' p' k (hand_came r (brought b a) (send.hand_after c hand p r)))

  -- WHAT IS PUBLISHED

  off_there : (v w : StateWord) → IsLoaded v w → not w.on ≡ true → same_words v w ≡ true
  off_there v w (inl e) off = same_where v w e
  off_there v w (inr e) off = same_where v w (e ∙ same_off w off)
    where
      same_off : (w : StateWord) → not w.on ≡ true → off_word w ≡ w
      same_off w off = let o : false ≡ w.on = grind (arith, off) in λ d. record w { on = o d }

  stays_there : (p : SendAt) → AllSay g b i x (facts_send c p) → stays p ≡ true → is_there b.seen (loaded_send c p) ≡ true
  stays_there (Locked (StoreMail w)) f e = off_there (b.seen c.to.number).word w f.1.1.1.1.1.1.0.2 e
  stays_there (Locked (CommitPass w)) f e = off_there (b.seen c.to.number).word w f.1.1.1.1.1.1.1.0.2 e
  stays_there (Locked (WakeReceiver w)) f e = never e
  stays_there (Outside p) f e = never e
  stays_there (Pushing p) f e = never e
  stays_there (Locked LoadReceiver) f e = never e
  stays_there (Locked ReloadReceiver) f e = never e
  stays_there (Locked (AcquireReady priority)) f e = never e
  stays_there (Locked CommitWait) f e = never e
  stays_there (Locked (Release r)) f e = never e

  pub send_within : (p : SendAt) → AllSay g b i x (facts_send c p) → (k : Lock) →
      rest_at b i (InSend c p) k ≤ send.left_of c hand p k
  send_within p f k =
      within_by (send_table c) (in_time c) (rest_above c) hand p (is_there b.seen (loaded_send c p)) k (stays_there p f)
