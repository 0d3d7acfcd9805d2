-- A step of a receive or of a pick brings it nearer to each release.
use Rattle.std.proofs.Common.{◌≡◌, ◌≢◌, ℕ, ◌+◌, ◌≤◌, Bool, true, false, refl, sym, ◌∙◌, subst, arith, Option, Some, None}
use Rattle.std.proofs.lemmas.Bool.{cond_both}
use Rattle.std.proofs.lemmas.Grind.{common_steps}
use Rattle.std.specs.Prelude.{◌==◌, if◌then◌else◌}
use Rattle.k_ids.specs.declared.threads.ThreadId.{ThreadId}
use Rattle.k_ids.specs.declared.state_word.State.{State}
use Rattle.k_ids.specs.declared.state_word.State.TheVariants as state
use Rattle.k_ids.specs.declared.state_word.StateWord.{StateWord}
use Rattle.k_senders.specs.declared.entries.SenderEntry.{SenderEntry}
use Rattle.k_senders.specs.Entries.{number_of}
use Rattle.k_senders.specs.Queue.{IsOnceEach}
use Rattle.k_locks.specs.declared.locks.Lock.{Lock}
use Rattle.k_locks.specs.declared.locks.Lock.TheVariants as lock
use Rattle.k_locks.specs.declared.points.Point.{Point}
use Rattle.k_locks.specs.Asks.{Response, is_again}
use Rattle.k_locks.specs.Asks as asks
use Rattle.k_locks.specs.Hands.{Hand}
use Rattle.k_locks.specs.Locks.{Holds}
use Rattle.k_locks.specs.Shown.{is_dead, is_present_in}
use Rattle.k_locks.specs.Tables.{hand_came, misses, there_after}
use Rattle.k_locks.proofs.Responses.{Each, made_by}
use Rattle.k_ipc.specs.declared.receive.ReceiveCall.{ReceiveCall}
use Rattle.k_ipc.specs.declared.receive.ReceiveOutside.{ReceiveOutside}
use Rattle.k_ipc.specs.declared.receive.ReceiveOutside.TheVariants.{LoadCaller, AcquireOwn, Ended}
use Rattle.k_ipc.specs.declared.receive.ReceiveLocked.{ReceiveLocked}
use Rattle.k_ipc.specs.declared.receive.ReceiveLocked.TheVariants.{LoadOwn, LoadSender, FreeSender, AcquireReady}
use Rattle.k_ipc.specs.declared.receive.ReceiveLocked.TheVariants.{CommitWait, LoadPartner, CommitGone, LoadPicking}
use Rattle.k_ipc.specs.declared.receive.ReceiveLocked.TheVariants.{LoadNext, FreeNext, EndPick, SettlePick, Release}
use Rattle.k_ipc.specs.declared.receive.ReceiveRelease.TheVariants as release
use Rattle.k_ipc.specs.declared.receive.ReceivePushing.TheVariants.{LoadFreed, PushFreed}
use Rattle.k_ipc.specs.ReceiveTable.{IsAllowed, IsCounted, ReceiveAt, Outside, Locked, Pushing, after_free, after_wait, ask_of}
use Rattle.k_ipc.specs.ReceiveTable.{hand_after, leads, left_of, locks_of, none_left, picking_by, points, receive_table}
use Rattle.k_ipc.specs.ReceiveTable.{released_end, rest_of, rest_thread, seen_of, stays_out, still_waits, try_next, try_sender}
use Rattle.k_ipc.proofs.ReceiveRuns.{in_time}
use Rattle.k_board.specs.Words.{Programs, Seen, noted}
use Rattle.k_board.specs.Boards.{InReceive, Context, Board, hand_of}
use Rattle.k_board.specs.Facts.{AllSay}
use Rattle.k_board.specs.Places.{facts_receive}
use Rattle.k_board.specs.Steps.{Answers, receive_at, receive_board, wrote}
use Rattle.k_good.proofs.Owners.{suits_is}
use Rattle.k_sections.specs.Situations.{is_there, loaded_receive, rest_at}
use Rattle.k_sections.proofs.Falls.{always, brought, ended_rest, fall_by, just_loaded, lost_there, never, unloaded, within_by}

-- where the loaded word is still there, no more are left
rest_above : (c : ReceiveCall) (h : Hand) (p : ReceiveAt) (there : Bool) (k : Lock) → rest_of c h true p k ≤ rest_of c h there p k
rest_above c h p true k = omega arith
rest_above c h p false lock.Table = omega arith
rest_above c h p false lock.Ready = omega arith
rest_above c h p false (lock.Thread n) = go p (n == c.caller.number)
  where
    go : (p : ReceiveAt) (b : Bool) → (if b then rest_thread c h true p else 0) ≤ (if b then rest_thread c h false p else 0)
    go p false = omega arith
    go (Outside p) true = omega arith
    go (Pushing p) true = omega arith
    go (Locked p) true = grind (arith, common_steps)

-- LOCATIONS WITHOUT A LOADED WORD

none_waited : (c : ReceiveCall) → loaded_receive (Locked (none_left c)) ≡ None
none_waited c = cond_both c.zero _ _ (λ (q : ReceiveLocked). loaded_receive (Locked q) ≡ None) (λ _. refl) (λ _. refl)

none_tried : (c : ReceiveCall) (o : Option SenderEntry) → loaded_receive (Locked (try_sender c o)) ≡ None
none_tried c (Some e) = refl
none_tried c None = none_waited c

none_next : (o : Option SenderEntry) → loaded_receive (Locked (try_next o)) ≡ None
none_next (Some e) = refl
none_next None = refl

none_picked : (o : Option SenderEntry) (s : State) → loaded_receive (Locked (picking_by o s)) ≡ None
none_picked o state.Dead = refl
none_picked o state.Picking = none_next o
none_picked o (state.Run result) = refl
none_picked o (state.Sending to joined) = refl
none_picked o (state.Receiving from) = refl
none_picked o state.Ended = refl

none_freed : (e : SenderEntry) (w : StateWord) → loaded_receive (Locked (after_free e w)) ≡ None
none_freed e w = cond_both (stays_out w) _ _ (λ (q : ReceiveLocked). loaded_receive (Locked q) ≡ None) (λ _. refl) (λ _. refl)

none_after : (from : Option ThreadId) → loaded_receive (Locked (after_wait from)) ≡ None
none_after None = refl
none_after (Some from) = refl

none_owned : (c : ReceiveCall) (o : Option SenderEntry) (w : StateWord) →
    loaded_receive (Locked (if is_dead w then Release release.Dead else try_sender c o)) ≡ None
none_owned c o w =
    cond_both (is_dead w) _ _ (λ (q : ReceiveLocked). loaded_receive (Locked q) ≡ None) (λ _. refl) (λ _. none_tried c o)

none_partner : (from : ThreadId) (w : StateWord) → loaded_receive
    (Locked (if is_present_in w from then Release release.Waits else CommitGone from)) ≡ None
none_partner from w =
    cond_both (is_present_in w from) _ _ (λ (q : ReceiveLocked). loaded_receive (Locked q) ≡ None) (λ _. refl) (λ _. refl)

-- outside of its lock nothing is left
outside_rest : (c : ReceiveCall) (h h' : Hand) (there : Bool) (w : ReceiveOutside) (k : Lock) →
    rest_of c h there (Outside w) k ≡ rest_of c h' there (Outside w) k
outside_rest c h h' there w (lock.Thread n) = refl
outside_rest c h h' there w lock.Table = refl
outside_rest c h h' there w lock.Ready = refl

module _ (g : Programs) (b : Board) (c : ReceiveCall) where
  abbrev pub x : Context
  x = b.context c.caller.number

  abbrev pub hand : Hand
  hand = hand_of b (b.queue c.caller.number)

  abbrev pub point : ReceiveAt → Response → Option Point
  point p r = points c (b.seen c.caller.number).word hand p r

  -- What a step does to the loaded word; what it tells of it; what isn't so is never answered; and what is left by what is in
  -- hand after it.
  abbrev Tells : ReceiveAt → Response → Type 0
  Tells p r =
      (is_there (wrote (noted g b.seen x.position (point p r)) (ask_of c x.own p) r) (loaded_receive (leads c hand p r)) ≡ false →
      there_after (is_there b.seen (loaded_receive p)) r ≡ false) ×
      (misses (seen_of p) (ask_of c x.own p) r ≡ true → is_there b.seen (loaded_receive p) ≡ false) ×
      IsAllowed (hand_came r (brought b (ask_of c x.own p)) (hand_after c hand p r)) p r ×
      ((there : Bool) (k : Lock) → rest_of c (hand_of (receive_board g b c.caller.number x c p r)
      ((receive_board g b c.caller.number x c p r).queue c.caller.number)) there (leads c hand p r) k ≡
      rest_of c (hand_came r (brought b (ask_of c x.own p)) (hand_after c hand p r)) there (leads c hand p r) k)

  abbrev now : ReceiveAt → Response → ℕ → Seen
  now p r = wrote (noted g b.seen x.position (point p r)) (ask_of c x.own p) r

  abbrev Told : ReceiveAt → Response → Type 0
  Told p r = Answers b (ask_of c x.own p) r → Tells p r

  kept_word : {A : Type 0} (v : StateWord) → (b.seen c.caller.number).word ≡ x.own → (b.seen c.caller.number).word ≡ v →
      v ≢ x.own → A
  kept_word v own e ne = absurd (ne (sym e ∙ own))

  sender_loaded : (e : SenderEntry) (w : StateWord) (other : ReceiveLocked) → (b.seen (number_of e)).word ≡ w →
      loaded_receive (Locked other) ≡ None → (at : Option Point) {A : Type 0} →
      is_there (wrote (noted g b.seen x.position at) (asks.Load (number_of e)) (asks.Word w))
      (loaded_receive (Locked (if still_waits c e w then FreeSender e w else other))) ≡ false → A
  sender_loaded e w other an none at {A} =
      let now = wrote (noted g b.seen x.position at) (asks.Load (number_of e)) (asks.Word w) in
      cond_both (still_waits c e w) _ _ (λ (q : ReceiveLocked). is_there now (loaded_receive (Locked q)) ≡ false → A)
      (λ _. just_loaded g b.seen x.position at (number_of e) (number_of e) w an)
      (λ _. unloaded now (loaded_receive (Locked other)) none)

  next_loaded : (e : SenderEntry) (w : StateWord) (other : ReceiveLocked) → (b.seen (number_of e)).word ≡ w →
      loaded_receive (Locked other) ≡ None → (at : Option Point) {A : Type 0} →
      is_there (wrote (noted g b.seen x.position at) (asks.Load (number_of e)) (asks.Word w))
      (loaded_receive (Locked (if still_waits c e w then FreeNext e w else other))) ≡ false → A
  next_loaded e w other an none at {A} =
      let now = wrote (noted g b.seen x.position at) (asks.Load (number_of e)) (asks.Word w) in
      cond_both (still_waits c e w) _ _ (λ (q : ReceiveLocked). is_there now (loaded_receive (Locked q)) ≡ false → A)
      (λ _. just_loaded g b.seen x.position at (number_of e) (number_of e) w an)
      (λ _. unloaded now (loaded_receive (Locked other)) none)

  taken_hand : SenderEntry → Hand
  taken_hand e =
      let b' = receive_board g b c.caller.number x c (Locked (Release (release.Taken e))) asks.Released in
      hand_of b' (b'.queue c.caller.number)

  receive_tells : (p : ReceiveAt) → IsOnceEach (b.queue c.caller.number) → AllSay g b c.caller.number x (facts_receive c p) →
      Each (ask_of c x.own p) (Told p)
  receive_tells (Outside LoadCaller) once f = λ w an. (always, never, tt, λ t k. refl)
  receive_tells (Outside AcquireOwn) once f =
      λ an. (unloaded (now (Outside AcquireOwn) asks.Got) _ (first_loaded c.picks), never, once, λ t k. refl)
    where
      first_loaded : (picks : Bool) → loaded_receive (Locked (if picks then LoadPicking else LoadOwn)) ≡ None
      first_loaded true = refl
      first_loaded false = refl
  receive_tells (Outside (Ended w)) once f = λ v an. (always, never, tt, λ t k. refl)
  receive_tells (Locked LoadOwn) once f =
      λ w an. (unloaded (now (Locked LoadOwn) (asks.Word w)) _ (none_owned c _ w), never, tt, λ t k. refl)
  receive_tells (Locked (LoadSender e)) once f =
      λ w an. (sender_loaded e w _ an (none_tried c _) (point (Locked (LoadSender e)) (asks.Word w)), never, tt, λ t k. refl)
  receive_tells (Locked (FreeSender e w)) once f = (
    (λ an. (unloaded (now (Locked (FreeSender e w)) asks.Won) _ (none_freed e w), never, tt, λ t k. refl)),
    (λ v an. (always, (λ q. lost_there b.seen (number_of e) v w an.0 an.1), tt, λ t k. refl)),
  )
  receive_tells (Locked (AcquireReady e)) once f = λ an. (always, never, tt, λ t k. refl)
  receive_tells (Locked CommitWait) once f = (
    (λ an. (unloaded (now (Locked CommitWait) asks.Won) _ (none_after c.from), never, refl, λ t k. refl)),
    (λ v an. kept_word v f.1.1.1.1.1.0.1 an.0 an.1),
  )
  receive_tells (Locked (LoadPartner from)) once f =
      λ w an. (unloaded (now (Locked (LoadPartner from)) (asks.Word w)) _ (none_partner from w), never, tt, λ t k. refl)
  receive_tells (Locked (CommitGone from)) once f =
      ((λ an. (always, never, refl, λ t k. refl)), (λ v an. kept_word v f.1.1.1.0.1 an.0 an.1))
  receive_tells (Locked LoadPicking) once f =
      λ w an. (unloaded (now (Locked LoadPicking) (asks.Word w)) _ (none_picked _ w.state), never, tt, λ t k. refl)
  receive_tells (Locked (LoadNext e)) once f =
      λ w an. (next_loaded e w _ an (none_next _) (point (Locked (LoadNext e)) (asks.Word w)), never, tt, λ t k. refl)
  receive_tells (Locked (FreeNext e w)) once f = (
    (λ an. (always, never, tt, λ t k. refl)),
    (λ v an. (
      always,
      (λ q. lost_there b.seen (number_of e) v w an.0 an.1),
      tt,
      λ t k. refl,
    )),
  )
  receive_tells (Locked (EndPick e w)) once f = (
    (λ an. (unloaded (now (Locked (EndPick e w)) asks.Won) _ (none_freed e w), never, refl, λ t k. refl)),
    (λ v an. kept_word v f.1.1.1.1.0.1 an.0 an.1),
  )
  receive_tells (Locked SettlePick) once f =
      ((λ an. (always, never, refl, λ t k. refl)), (λ v an. kept_word v f.1.1.1.1.0.1 an.0 an.1))
  receive_tells (Locked (Release (release.Taken e))) once f =
      λ an. (
        always,
        never,
        tt,
        λ t k. outside_rest c (taken_hand e)
            (hand_after c hand (Locked (Release (release.Taken e))) asks.Released) t (Ended (released_end (release.Taken e))) k,
      )
  receive_tells (Locked (Release release.Waits)) once f = λ an. (always, never, tt, λ t k. refl)
  receive_tells (Locked (Release release.Delivered)) once f = λ an. (always, never, tt, λ t k. refl)
  receive_tells (Locked (Release release.Gone)) once f = λ an. (always, never, tt, λ t k. refl)
  receive_tells (Locked (Release release.Nobody)) once f = λ an. (always, never, tt, λ t k. refl)
  receive_tells (Locked (Release release.Dead)) once f = λ an. (always, never, tt, λ t k. refl)
  receive_tells (Pushing (LoadFreed e)) once f = λ w an. (always, never, tt, λ t k. refl)
  receive_tells (Pushing (PushFreed e w)) once f = λ an. (always, never, tt, λ t k. refl)

  counted_at : (p : ReceiveAt) → IsOnceEach (b.queue c.caller.number) → AllSay g b c.caller.number x (facts_receive c p) →
      IsCounted c hand p
  counted_at (Outside p) once f = tt
  counted_at (Pushing p) once f = once
  counted_at (Locked LoadOwn) once f = (once, tt)
  counted_at (Locked (LoadSender e)) once f = let r = f.1.1.1.1.1.1.0 in (once, record { standing = r.2; wanted = r.3 })
  counted_at (Locked (FreeSender e w)) once f = let r = f.1.1.1.1.1.1.1.0 in (once, record { standing = r.2; wanted = r.3 })
  counted_at (Locked (AcquireReady e)) once f = (once, tt)
  counted_at (Locked CommitWait) once f = (once, tt)
  counted_at (Locked (LoadPartner from)) once f = (once, tt)
  counted_at (Locked (CommitGone from)) once f = (once, tt)
  counted_at (Locked LoadPicking) once f = (once, tt)
  counted_at (Locked (LoadNext e)) once f = let r = f.1.1.1.1.1.0 in (once, record { standing = r.2; wanted = r.3 })
  counted_at (Locked (FreeNext e w)) once f = let r = f.1.1.1.1.1.1.0 in (once, record { standing = r.2; wanted = r.3 })
  counted_at (Locked (EndPick e w)) once f = (once, tt)
  counted_at (Locked SettlePick) once f = (once, tt)
  counted_at (Locked (Release r)) once f = (once, tt)

  got_rest : (b' : Board) (p : ReceiveAt) (k : Lock) → rest_at b' c.caller.number (receive_at c p) k ≤
      rest_of c (hand_of b' (b'.queue c.caller.number)) (is_there b'.seen (loaded_receive p)) p k
  got_rest b' (Outside (Ended w)) k = let e = ended_rest b' c.caller.number c.caller w k in omega (arith, e)
  got_rest b' (Outside LoadCaller) k = omega arith
  got_rest b' (Outside AcquireOwn) k = omega arith
  got_rest b' (Locked p) k = omega arith
  got_rest b' (Pushing p) k = omega arith

  pub receive_falls : (p : ReceiveAt) → IsOnceEach (b.queue c.caller.number) → AllSay g b c.caller.number x (facts_receive c p) →
      (k : Lock) → Holds k (locks_of c p) → (r : Response) → Answers b (ask_of c x.own p) r → is_again r ≡ false →
      1 + rest_at (receive_board g b c.caller.number x c p r) c.caller.number (receive_at c (leads c hand p r)) k ≤
      rest_at b c.caller.number (InReceive c p) k
  receive_falls p each f k holds r may once =
      let a = ask_of c x.own p in
      let b' = receive_board g b c.caller.number x c p r in
      let p' = leads c hand p r in
      let suits = suits_is b a r may in
      let told = made_by a r (Told p) suits once (receive_tells p each f) may in
      let there' = is_there b'.seen (loaded_receive p') in
      fall_by (receive_table c) (in_time c) (rest_above c) b k x.own hand p r (is_there b.seen (loaded_receive p)) there'
      (rest_at b' c.caller.number (receive_at c p') k) (counted_at p each f) holds suits once told.2 told.1 told.0
      (subst (λ (n : ℕ). rest_at b' c.caller.number (receive_at c p') k ≤ n) (told.3 there' k) (got_rest b' p' k))

  pub receive_within : (p : ReceiveAt) (k : Lock) → rest_at b c.caller.number (InReceive c p) k ≤ left_of c hand p k
  receive_within p k = within_by (receive_table c) (in_time c) (rest_above c) hand p (is_there b.seen (loaded_receive p)) k never
