-- The turns of a receive, and of a pick.
use Rattle.std.specs.Prelude.{◌==◌, ◌||◌}
use Rattle.std.proofs.Common.{◌≡◌, ◌≢◌, ℕ, ◌<◌, Bool, true, false, cond, refl, sym, ap}
use Rattle.std.proofs.Common.{◌∙◌, subst, Option, Some, None, arith, ◌⊎◌, inl, inr}
use Rattle.std.proofs.lemmas.Bool.{and_parts}
use Rattle.std.proofs.lemmas.Bool.Decides.{nat_tests}
use Rattle.k_ids.specs.declared.threads.ThreadId.{ThreadId}
use Rattle.k_ids.specs.declared.calls.Reply.TheVariants as reply
use Rattle.k_ids.specs.declared.state_word.Result4.TheVariants as result4
use Rattle.k_ids.specs.declared.state_word.State.{State}
use Rattle.k_ids.specs.declared.state_word.State.TheVariants as state
use Rattle.k_ids.specs.declared.state_word.StateWord.{StateWord}
use Rattle.k_model.specs.Maps.{upd}
use Rattle.k_model.proofs.Maps.{upd_same, upd_other}
use Rattle.k_ready.specs.Lists.{Ready}
use Rattle.k_senders.specs.declared.entries.SenderEntry.{SenderEntry}
use Rattle.k_senders.specs.Entries.{number_of, sender_of}
use Rattle.k_locks.specs.Hands.{pushed}
use Rattle.k_locks.specs.Asks.{Response}
use Rattle.k_locks.specs.Asks as asks
use Rattle.k_locks.specs.Shown.{is_dead, is_dead_state, is_present_in}
use Rattle.k_ipc.specs.Words.{freed, in_state, is_joined_to, on_in, sends_to}
use Rattle.k_ipc.specs.declared.receive.ReceiveCall.{ReceiveCall}
use Rattle.k_ipc.specs.declared.receive.ReceiveOutside.TheVariants.{LoadCaller, AcquireOwn, Ended}
use Rattle.k_ipc.specs.declared.receive.ReceiveLocked.{ReceiveLocked}
use Rattle.k_ipc.specs.declared.receive.ReceiveLocked.TheVariants.{LoadOwn, LoadSender, FreeSender, AcquireReady}
use Rattle.k_ipc.specs.declared.receive.ReceiveLocked.TheVariants.{CommitWait, LoadPartner, CommitGone, LoadPicking}
use Rattle.k_ipc.specs.declared.receive.ReceiveLocked.TheVariants.{LoadNext, FreeNext, EndPick, SettlePick, Release}
use Rattle.k_ipc.specs.declared.receive.ReceiveRelease.{ReceiveRelease}
use Rattle.k_ipc.specs.declared.receive.ReceiveRelease.TheVariants as release
use Rattle.k_ipc.specs.declared.receive.ReceivePushing.TheVariants.{LoadFreed, PushFreed}
use Rattle.k_ipc.specs.ReceiveTable.{ReceiveAt, Outside, Locked, Pushing, after_free, after_wait, is_pushed, none_left}
use Rattle.k_ipc.specs.ReceiveTable.{picking_by, released_end, stays_out, still_waits, try_next, try_sender}
use Rattle.k_ipc.specs.ReceiveTable as receive
use Rattle.k_board.specs.Words.{Programs}
use Rattle.k_board.specs.Boards.{At, InReceive, Board, Context, hand_of}
use Rattle.k_board.specs.Facts.{AllSay}
use Rattle.k_board.specs.Places.{facts_receive}
use Rattle.k_board.specs.Steps.{Answers, receive_at, receive_board, receive_context}
use Rattle.k_board.proofs.Cases.{if_cases}
use Rattle.k_tokens.specs.World.{HeldLocks, World, holds_any}
use Rattle.k_tokens.proofs.Views.{view_upd}
use Rattle.k_grants.specs.Views.{Look, is_ended, look_at, sight_of, sights_of}
use Rattle.k_grants.specs.Pushes.{IsLoaded, IsOn, IsOnAt, IsTaken, PushSays, WasKilled, board_threads, told_by, word_at}
use Rattle.k_grants.specs.Granted.{Agrees, Finding, IsWait}
use Rattle.k_grants.proofs.Granting.{IsMoved, IsQuiet, IsTurning, IsUnready, acquires_ready, pushed_by, pushes, turns_on}
use Rattle.k_grants.proofs.Looks.{acquiring, dying, pushing, quiet, silent, turning}
use Rattle.k_grants.proofs.Says.{Turned, silently}
use Rattle.k_grants.proofs.Sights.{sighted, sights_after, sight_kept, words_after, written}
use Rattle.k_grants.proofs.Tells.{told_of_any, told_quietly}
use Rattle.k_grants.proofs.Turned as kinds
use Rattle.k_grants.proofs.Turned.{own_is}
use Rattle.k_grants.proofs.Words.{in_state_same, on_same, run_same, sends_alive, sends_goes, told_loaded, turned_on_by}
use Rattle.k_grants.proofs.Worlds.{world_of}

abbrev inside_of : ReceiveCall → ReceiveLocked → At
inside_of c p = InReceive c (Locked p)

-- what may come after a candidate was looked at
quiet_left : (c : ReceiveCall) (p : ReceiveLocked) → IsQuiet (inside_of c p) (inside_of c CommitWait) →
    IsQuiet (inside_of c p) (inside_of c (Release release.Nobody))
    → IsQuiet (inside_of c p) (inside_of c (none_left c))
quiet_left c p x y = if_cases (λ (q : ReceiveLocked). IsQuiet (inside_of c p) (inside_of c q)) c.zero _ _ (λ z. y) (λ z. x)

own_try : (c : ReceiveCall) (o : Option SenderEntry) → IsQuiet (inside_of c LoadOwn) (inside_of c (try_sender c o))
own_try c None = quiet_left c LoadOwn (silent refl refl refl refl) (silent refl refl refl refl)
own_try c (Some e) = silent refl refl refl refl

sender_try : (c : ReceiveCall) (f : SenderEntry) (o : Option SenderEntry) →
    IsQuiet (inside_of c (LoadSender f)) (inside_of c (try_sender c o))
sender_try c f None = quiet_left c (LoadSender f) (silent refl refl refl refl) (silent refl refl refl refl)
sender_try c f (Some e) = silent refl refl refl refl

picking_try : (c : ReceiveCall) (o : Option SenderEntry) → IsQuiet (inside_of c LoadPicking) (inside_of c (try_next o))
picking_try c None = silent refl refl refl refl
picking_try c (Some e) = silent refl refl refl refl

next_try : (c : ReceiveCall) (f : SenderEntry) (o : Option SenderEntry) →
    IsQuiet (inside_of c (LoadNext f)) (inside_of c (try_next o))
next_try c f None = silent refl refl refl refl
next_try c f (Some e) = silent refl refl refl refl

picking_quiet : (c : ReceiveCall) (o : Option SenderEntry) (s : State) →
    IsQuiet (inside_of c LoadPicking) (inside_of c (picking_by o s))
picking_quiet c o state.Dead = silent refl refl refl refl
picking_quiet c o state.Picking = picking_try c o
picking_quiet c o (state.Run r) = silent refl refl refl refl
picking_quiet c o (state.Sending to joined) = silent refl refl refl refl
picking_quiet c o (state.Receiving from) = silent refl refl refl refl
picking_quiet c o state.Ended = silent refl refl refl refl

wait_quiet : (c : ReceiveCall) (o : Option ThreadId) → IsQuiet (inside_of c CommitWait) (inside_of c (after_wait o))
wait_quiet c None = silent refl refl refl refl
wait_quiet c (Some from) = silent refl refl refl refl

lists_by : (e : SenderEntry) (v : StateWord) (r : Ready) (d : Bool) →
    cond d (pushed (sender_of e) v.priority r) r ≡ pushed_by (cond d (Some v.priority) None) (sender_of e) r
lists_by e v r true = refl
lists_by e v r false = refl

module _ (g : Programs) (b : Board) (w : World) (k i : ℕ) (a : Agrees b w) (low : (t : ℕ) → (b.seen t).word.priority < 64)
    (inside : i < b.size) (finding : Finding) (wait : IsWait finding.waits) (c : ReceiveCall) where
  abbrev After : ReceiveAt → Response → Board
  After p r = receive_board g b i (b.context i) c p r

  abbrev Next : ReceiveAt → Response → At
  Next p r = receive_at c (receive.leads c (hand_of b (b.queue i)) p r)

  moved : (p : ReceiveAt) (r : Response) → IsMoved b (After p r) i (Next p r)
  moved p r = record {
    size = refl;
    looks = view_upd (λ (y : Context). look_at y.at) b.context i (receive_context (b.context i) c p r (hand_of b (b.queue i)));
  }

  abbrev Stood : ReceiveAt → Response → Type 0
  Stood p r = Turned (After p r) (world_of w b) k i finding (asks.is_again r) (Next p r)

  abbrev Answered : ReceiveAt → Response → Type 0
  Answered p r = Answers b (receive.ask_of c (b.context i).own p) r

  seen_after : (p : ReceiveAt) (r : Response) → Answered p r →
      sights_of (After p r) ≡ sighted (sights_of b) (receive.ask_of c (b.context i).own p) r
  seen_after p r an =
      sights_after g b (b.context i).position (receive.points c (b.seen i).word (hand_of b (b.queue i)) p r)
      (receive.ask_of c (b.context i).own p) r an

  abbrev Quietly : ReceiveAt → Response → Type 0
  Quietly p r = IsQuiet (InReceive c p) (Next p r)

  module _ (p : ReceiveAt) (r : Response) (at : (b.context i).at ≡ InReceive c p) (an : Answered p r)
      (u : IsUnready b (After p r)) (t : (After p r).table ≡ b.table)
      (e : sighted (sights_of b) (receive.ask_of c (b.context i).own p) r ≡ sights_of b) where
    goes : (look_at (InReceive c p)).push ≡ None → Quietly p r → Turned (After p r) (world_of w b) k i finding false (Next p r)
    goes n h = kinds.goes w b k i a finding (InReceive c p) at (After p r) (Next p r) (moved p r) u t (seen_after p r an ∙ e) n h

    carries : Quietly p r → PushSays (After p r).seen (board_threads (After p r)) (Next p r) →
        Turned (After p r) (world_of w b) k i finding false (Next p r)
    carries h s =
        kinds.carries w b k i a finding (InReceive c p) at (After p r) (Next p r) (moved p r) u t (seen_after p r an ∙ e) h s

    waits : look_at (Next p r) ≡ look_at (InReceive c p) → (look_at (InReceive c p)).locks.ready ≡ false →
        PushSays (After p r).seen (board_threads (After p r)) (Next p r) →
        Turned (After p r) (world_of w b) k i finding true (Next p r)
    waits h n s =
        kinds.waits w b k i a finding (InReceive c p) at (After p r) (Next p r) (moved p r) u t (seen_after p r an ∙ e) wait h n s

  -- The word of a sender whose message is taken.
  module _ (e : SenderEntry) (v : StateWord) (still : still_waits c e v ≡ true) (p : ReceiveAt)
      (ask : receive.ask_of c (b.context i).own p ≡ asks.Exchange (number_of e) v (freed c.caller v))
      (an : Answered p asks.Won) where
    won : (b.seen (number_of e)).word ≡ v
    won = subst (λ (x : asks.Ask). Answers b x asks.Won) ask an

    version : v.version ≡ (sender_of e).version
    version = same_number v.version (sender_of e).version (and_parts _ _ still).0
      where
        same_number : (m n : ℕ) → (m == n) ≡ true → m ≡ n
        same_number m n h = grind (arith, nat_tests)

    sends : sends_to c.caller v.state ≡ true
    sends = (and_parts _ _ still).1

    sights_freed : sights_of (After p asks.Won) ≡ upd (sights_of b) (number_of e) (sight_of (freed c.caller v))
    sights_freed = seen_after p asks.Won an ∙ ap (λ (x : asks.Ask). sighted (sights_of b) x asks.Won) ask

    joined_same : is_joined_to v.state ≡ true → sight_of (freed c.caller v) ≡ sight_of v
    joined_same j =
        ap (λ (d : Bool). sight_of (cond d (in_state (state.Receiving (Some c.caller)) v) (on_in (state.Run result4.Sent) v))) j
        ∙ in_state_same v (state.Receiving (Some c.caller)) (sym (sends_alive c.caller v.state sends))
        (sym (sends_goes c.caller v.state sends))

    plain_same : is_joined_to v.state ≡ false → v.on ≡ true → sight_of (freed c.caller v) ≡ sight_of v
    plain_same j o =
        ap (λ (d : Bool). sight_of (cond d (in_state (state.Receiving (Some c.caller)) v) (on_in (state.Run result4.Sent) v))) j
        ∙ on_same v (state.Run result4.Sent) o (sends_alive c.caller v.state sends) (sends_goes c.caller v.state sends) refl refl

    plain_turned : is_joined_to v.state ≡ false → sight_of (freed c.caller v) ≡ record (sight_of v) { on = true }
    plain_turned j =
        ap (λ (d : Bool). sight_of (cond d (in_state (state.Receiving (Some c.caller)) v) (on_in (state.Run result4.Sent) v))) j
        ∙ turned_on_by v (state.Run result4.Sent) (sends_alive c.caller v.state sends)
        (sends_goes c.caller v.state sends) refl refl

    word : word_at (After p asks.Won).seen (sender_of e) ≡ freed c.caller v
    word =
        ap (λ (f : ℕ → StateWord). f (number_of e)) (words_after g b (b.context i).position
        (receive.points c (b.seen i).word (hand_of b (b.queue i)) p asks.Won)
        (receive.ask_of c (b.context i).own p) asks.Won an
        ∙ ap (λ (x : asks.Ask). written (λ t. (b.seen t).word) x asks.Won) ask)
        ∙ upd_same (λ t. (b.seen t).word) (number_of e) (freed c.caller v)

    taken : is_joined_to v.state ≡ false → IsTaken (After p asks.Won).seen (sender_of e)
    taken j =
        inl (subst (λ (x : StateWord). IsOn x (sender_of e))
        (sym (word ∙ ap (λ (d : Bool). cond d (in_state (state.Receiving (Some c.caller)) v)
        (on_in (state.Run result4.Sent) v)) j))
        record { version = version; running = refl; on = refl })

    -- by whether it was off and not joined
    freed_turned : (at : (b.context i).at ≡ InReceive c p) → IsUnready b (After p asks.Won) → (After p asks.Won).table ≡ b.table
        → (look_at (InReceive c p)).push ≡ None
        → (stays_out v ≡ true → Quietly p asks.Won) → (stays_out v ≡ false →
        IsTurning (InReceive c p) (Next p asks.Won) (sender_of e))
        → (stays_out v ≡ false → PushSays (After p asks.Won).seen (board_threads (After p asks.Won)) (Next p asks.Won)) →
        Stood p asks.Won
    freed_turned at u t n stay turn says = go (is_joined_to v.state) v.on refl refl
      where
        stays_by : (j o : Bool) → is_joined_to v.state ≡ j → v.on ≡ o → stays_out v ≡ (j || o)
        stays_by j o x y = λ z. x z || y z

        go : (j o : Bool) → is_joined_to v.state ≡ j → v.on ≡ o → Stood p asks.Won
        go true o x y =
            kinds.goes w b k i a finding (InReceive c p) at (After p asks.Won) (Next p asks.Won) (moved p asks.Won) u t
            (sights_freed ∙ sight_kept (sights_of b) (number_of e) _ (joined_same x ∙ ap sight_of (sym won))) n
            (stay (stays_by true o x y))
        go false true x y =
            kinds.goes w b k i a finding (InReceive c p) at (After p asks.Won) (Next p asks.Won) (moved p asks.Won) u t
            (sights_freed ∙ sight_kept (sights_of b) (number_of e) _ (plain_same x y ∙ ap sight_of (sym won))) n
            (stay (stays_by false true x y))
        go false false x y = record {
          granted =
              turns_on w b k i a finding (InReceive c p) at (After p asks.Won) (Next p asks.Won) (moved p asks.Won) u
              (sender_of e) v (freed c.caller v) won sights_freed t
              (plain_turned x) version (sends_alive c.caller v.state sends) y (sends_goes c.caller v.state sends)
              (turn (stays_by false false x y));
          says = says (stays_by false false x y);
        }

  released : (p : ReceiveRelease) → (b.context i).at ≡ InReceive c (Locked (Release p)) →
      AllSay g b i (b.context i) (facts_receive c (Locked (Release p))) → Stood (Locked (Release p)) asks.Released
  released (release.Taken e) at h =
      goes (Locked (Release (release.Taken e))) asks.Released at tt record { ready = refl; lists = refl } refl refl refl
      (silent refl refl refl refl)
  released release.Waits at h =
      goes (Locked (Release release.Waits)) asks.Released at tt record { ready = refl; lists = refl } refl refl refl
      (silent refl refl refl refl)
  released release.Delivered at h =
      goes (Locked (Release release.Delivered)) asks.Released at tt record { ready = refl; lists = refl } refl refl refl
      (silent refl refl refl refl)
  released release.Gone at h =
      goes (Locked (Release release.Gone)) asks.Released at tt record { ready = refl; lists = refl } refl refl refl
      (silent refl refl refl refl)
  released release.Nobody at h =
      goes (Locked (Release release.Nobody)) asks.Released at tt record { ready = refl; lists = refl } refl refl refl
      (silent refl refl refl refl)
  released release.Dead at h =
      kinds.dead w b k i a finding (inside_of c (Release release.Dead)) at (After (Locked (Release release.Dead)) asks.Released)
      (Next (Locked (Release release.Dead)) asks.Released)
      (moved (Locked (Release release.Dead)) asks.Released) record { ready = refl; lists = refl } refl
      (seen_after (Locked (Release release.Dead)) asks.Released tt) h.1.0 (dying refl refl refl refl)

  -- the caller's own word, written
  settles : (p : ReceiveAt) (old new : StateWord) → receive.ask_of c (b.context i).own p ≡ asks.Exchange c.caller.number old new →
      Answered p asks.Won → sight_of new ≡ sight_of old
      → sighted (sights_of b) (receive.ask_of c (b.context i).own p) asks.Won ≡ sights_of b
  settles p old new ask an e =
      ap (λ (x : asks.Ask). sighted (sights_of b) x asks.Won) ask ∙ sight_kept (sights_of b) c.caller.number (sight_of new)
      (e ∙ ap sight_of (sym (subst (λ (x : asks.Ask). Answers b x asks.Won) ask an)))

  pick_freed : (e : SenderEntry) (v : StateWord) → (b.context i).at ≡ inside_of c (FreeNext e v) →
      Answered (Locked (FreeNext e v)) asks.Won → still_waits c e v ≡ true
      → Stood (Locked (FreeNext e v)) asks.Won
  pick_freed e v at an still =
      freed_turned e v still (Locked (FreeNext e v)) refl an at record { ready = refl; lists = refl } refl refl
      (λ o.
      quiet
      (ap (λ (d : Bool). record (look_at (inside_of c (FreeNext e v))) {
        push =
            cond d None (Some (sender_of e));
      }) o) refl refl (λ who z. refl))
      (λ o. turning (ap (λ (d : Bool).
      record (look_at (inside_of c (FreeNext e v))) { push = cond d None (Some (sender_of e)) }) o) refl refl)
      (λ o z. taken e v still (Locked (FreeNext e v)) refl an (unjoined v o))
    where
      unjoined : (v : StateWord) → stays_out v ≡ false → is_joined_to v.state ≡ false
      unjoined v o = by (is_joined_to v.state) v.on o
        where
          by : (j n : Bool) → (j || n) ≡ false → j ≡ false
          by true n q = q
          by false n q = refl

  sender_freed : (e : SenderEntry) (v : StateWord) → (b.context i).at ≡ inside_of c (FreeSender e v) →
      Answered (Locked (FreeSender e v)) asks.Won → still_waits c e v ≡ true
      → Stood (Locked (FreeSender e v)) asks.Won
  sender_freed e v at an still =
      freed_turned e v still (Locked (FreeSender e v)) refl an at record { ready = refl; lists = refl } refl refl
      (λ o. subst (λ (d : Bool). IsQuiet (inside_of c (FreeSender e v))
      (inside_of c (cond d (Release (release.Taken e)) (AcquireReady e)))) (sym o) (silent refl refl refl refl))
      (λ o. subst (λ (d : Bool). IsTurning (inside_of c (FreeSender e v))
      (inside_of c (cond d (Release (release.Taken e)) (AcquireReady e))) (sender_of e)) (sym o) (turning refl refl refl))
      (λ o. subst (λ (d : Bool). PushSays (After (Locked (FreeSender e v)) asks.Won).seen
      (board_threads (After (Locked (FreeSender e v)) asks.Won))
      (inside_of c (cond d (Release (release.Taken e)) (AcquireReady e)))) (sym o)
      (taken e v still (Locked (FreeSender e v)) refl an (unjoined v o)))
    where
      unjoined : (v : StateWord) → stays_out v ≡ false → is_joined_to v.state ≡ false
      unjoined v o = by (is_joined_to v.state) v.on o
        where
          by : (j n : Bool) → (j || n) ≡ false → j ≡ false
          by true n q = q
          by false n q = refl

  -- the pick ends, and its sender is pushed where it was off
  pick_ended : (e : SenderEntry) (v : StateWord) → (b.context i).at ≡ inside_of c (EndPick e v) →
      Answered (Locked (EndPick e v)) asks.Won → AllSay g b i (b.context i) (facts_receive c (Locked (EndPick e v)))
      → (stays_out v ≡ false → IsTaken b.seen (sender_of e)) → Stood (Locked (EndPick e v)) asks.Won
  pick_ended e v at an h s =
      carries p asks.Won at an record { ready = refl; lists = refl } refl
      (settles p (b.context i).own (on_in (state.Run result4.Plain) (b.context i).own) refl an
      (on_same (b.context i).own (state.Run result4.Plain) h.1.1.1.1.0.3 (ap is_dead_state h.1.1.1.1.0.2)
      (ap is_ended h.1.1.1.1.0.2) refl refl))
      (go (stays_out v)) (says (stays_out v) refl)
    where
      p : ReceiveAt
      p = Locked (EndPick e v)

      quieted : (d : Bool) → look_at (inside_of c (cond d (Release (release.Taken e)) (AcquireReady e))) ≡
          record (look_at (inside_of c (EndPick e v))) { push = cond d None (Some (sender_of e)) }
      quieted true = refl
      quieted false = refl

      locked : (d : Bool) → (look_at (inside_of c (cond d (Release (release.Taken e)) (AcquireReady e)))).locks ≡
          (look_at (inside_of c (EndPick e v))).locks
      locked d = ap (λ (x : Look). x.locks) (quieted d)

      go : (d : Bool) → IsQuiet (inside_of c (EndPick e v)) (inside_of c (after_free e v))
      go d =
          quiet (quieted (stays_out v) ∙ (λ z.
          record (look_at (inside_of c (EndPick e v))) { locks = sym (locked (stays_out v)) z }))
          (ap (λ (x : HeldLocks). x.table) (locked (stays_out v)))
          (ap (λ (x : HeldLocks). x.ready) (locked (stays_out v))) (λ who z. ap holds_any (locked (stays_out v)))

      apart : number_of e ≢ c.caller.number
      apart q = h.1.1.1.1.1.1.1.0 (q ∙ h.1.0.0)

      word : word_at (After p asks.Won).seen (sender_of e) ≡ word_at b.seen (sender_of e)
      word =
          ap (λ (f : ℕ → StateWord). f (number_of e)) (words_after g b (b.context i).position
          (receive.points c (b.seen i).word (hand_of b (b.queue i)) p asks.Won)
          (receive.ask_of c (b.context i).own p) asks.Won an)
          ∙ upd_other (λ t. (b.seen t).word) c.caller.number (on_in (state.Run result4.Plain) (b.context i).own)
          (number_of e) apart

      says : (d : Bool) → stays_out v ≡ d → PushSays (After p asks.Won).seen (board_threads (After p asks.Won))
          (inside_of c (cond d (Release (release.Taken e)) (AcquireReady e)))
      says true o = tt
      says false o = subst (λ (x : StateWord). IsOn x (sender_of e) ⊎ WasKilled x (sender_of e)) (sym word) (s o)

  loaded_freed : (e : SenderEntry) (v : StateWord) → (b.context i).at ≡ InReceive c (Pushing (LoadFreed e)) →
      (b.seen (number_of e)).word ≡ v → IsTaken b.seen (sender_of e)
      → IsLoaded b.seen (board_threads (After (Pushing (LoadFreed e)) (asks.Word v))) e v
  loaded_freed e v at is s = record {
    who = at_priority s;
    told =
        told_quietly pri b (After (Pushing (LoadFreed e)) (asks.Word v)) i (InReceive c (Pushing (LoadFreed e)))
        (InReceive c (Pushing (PushFreed e v))) at (moved (Pushing (LoadFreed e)) (asks.Word v)) refl refl
        (quiet refl refl refl (λ who z. refl)) (sender_of e) (told_by e v)
        (told_loaded pri b e v is (subst (λ (x : StateWord). x.priority < 64) is (low (number_of e)))
        (subst (λ (x : StateWord). IsOn x (sender_of e) ⊎ WasKilled x (sender_of e)) is s));
  }
    where
      pri : ℕ → ℕ
      pri t = (b.seen t).word.priority

      at_priority : IsTaken b.seen (sender_of e) → IsOnAt (word_at b.seen (sender_of e)) (sender_of e) v.priority ⊎
          WasKilled (word_at b.seen (sender_of e)) (sender_of e)
      at_priority (inl o) = inl (o, ap (λ (x : StateWord). x.priority) is)
      at_priority (inr z) = inr z

  pub receive_turned : (p : ReceiveAt) (r : Response) → (b.context i).at ≡ InReceive c p → Answered p r →
      AllSay g b i (b.context i) (facts_receive c p)
      → PushSays b.seen (board_threads b) (InReceive c p) → Stood p r
  receive_turned (Outside LoadCaller) (asks.Word v) at an h s =
      kinds.by_life w b k i a finding (InReceive c (Outside LoadCaller)) at (After (Outside LoadCaller) (asks.Word v))
      (Next (Outside LoadCaller) (asks.Word v)) (moved (Outside LoadCaller) (asks.Word v))
      record { ready = refl; lists = refl } refl (seen_after (Outside LoadCaller) (asks.Word v) an) c.caller v reply.Own refl
      (own_is b i c.caller.number v h.1.0.0 an) refl
  receive_turned (Outside AcquireOwn) asks.Got at an h s =
      goes (Outside AcquireOwn) asks.Got at an record { ready = refl; lists = refl } refl refl refl
      (if_cases (λ (q : ReceiveLocked). IsQuiet (InReceive c (Outside AcquireOwn)) (inside_of c q)) c.picks _ _
      (λ z. silent refl refl refl refl) (λ z. silent refl refl refl refl))
  receive_turned (Outside AcquireOwn) (asks.Owned o) at an h s =
      waits (Outside AcquireOwn) (asks.Owned o) at an record { ready = refl; lists = refl } refl refl refl refl tt
  receive_turned (Locked LoadOwn) (asks.Word v) at an h s =
      goes (Locked LoadOwn) (asks.Word v) at an record { ready = refl; lists = refl } refl refl refl
      (if_cases (λ (q : ReceiveLocked). IsQuiet (inside_of c LoadOwn) (inside_of c q)) (is_dead v) _ _
      (λ z. silent refl refl refl refl) (λ z. own_try c _))
  receive_turned (Locked (LoadSender e)) (asks.Word v) at an h s =
      goes (Locked (LoadSender e)) (asks.Word v) at an record { ready = refl; lists = refl } refl refl refl
      (if_cases (λ (q : ReceiveLocked). IsQuiet (inside_of c (LoadSender e)) (inside_of c q)) (still_waits c e v) _ _
      (λ z. silent refl refl refl refl) (λ z. sender_try c e _))
  receive_turned (Locked (FreeSender e v)) asks.Won at an h s = sender_freed e v at an h.1.1.0
  receive_turned (Locked (FreeSender e v)) (asks.Lost x) at an h s =
      goes (Locked (FreeSender e v)) (asks.Lost x) at an record { ready = refl; lists = refl } refl refl refl
      (silent refl refl refl refl)
  receive_turned (Locked (AcquireReady e)) asks.Got at an h s = record {
    granted =
        acquires_ready w b k i a finding (inside_of c (AcquireReady e)) at (After (Locked (AcquireReady e)) asks.Got)
        (Next (Locked (AcquireReady e)) asks.Got) (moved (Locked (AcquireReady e)) asks.Got)
        (seen_after (Locked (AcquireReady e)) asks.Got an) refl an refl refl inside (acquiring refl refl);
    says = s;
  }
  receive_turned (Locked (AcquireReady e)) (asks.Owned o) at an h s =
      waits (Locked (AcquireReady e)) (asks.Owned o) at an record { ready = refl; lists = refl } refl refl refl refl s
  receive_turned (Pushing (LoadFreed e)) (asks.Word v) at an h s =
      carries (Pushing (LoadFreed e)) (asks.Word v) at an record { ready = refl; lists = refl } refl refl
      (quiet refl refl refl (λ who z. refl)) (loaded_freed e v at an s)
  receive_turned (Pushing (PushFreed e v)) asks.Released at an h s =
      silently (pushes w b k i a finding (InReceive c (Pushing (PushFreed e v))) at
      (After (Pushing (PushFreed e v)) asks.Released) (Next (Pushing (PushFreed e v)) asks.Released)
      (moved (Pushing (PushFreed e v)) asks.Released)
      (sender_of e) (told_by e v) (seen_after (Pushing (PushFreed e v)) asks.Released an) refl refl
      (lists_by e v b.lists (is_pushed e v))
      (told_of_any (λ t. (b.seen t).word.priority) w.threads.priority b (sender_of e) (told_by e v) s.told)
      (pushing refl refl refl refl refl)) refl
  receive_turned (Locked CommitWait) asks.Won at an h s =
      goes (Locked CommitWait) asks.Won at an record { ready = refl; lists = refl } refl
      (settles (Locked CommitWait) (b.context i).own (in_state (state.Receiving c.from) (b.context i).own) refl an
      (run_same (b.context i).own (state.Receiving c.from) h.1.1.1.1.1.0.0 refl refl)) refl (wait_quiet c c.from)
  receive_turned (Locked CommitWait) (asks.Lost x) at an h s =
      goes (Locked CommitWait) (asks.Lost x) at an record { ready = refl; lists = refl } refl refl refl
      (silent refl refl refl refl)
  receive_turned (Locked (LoadPartner f)) (asks.Word v) at an h s =
      goes (Locked (LoadPartner f)) (asks.Word v) at an record { ready = refl; lists = refl } refl refl refl
      (if_cases (λ (q : ReceiveLocked). IsQuiet (inside_of c (LoadPartner f)) (inside_of c q)) (is_present_in v f) _ _
      (λ z. silent refl refl refl refl) (λ z. silent refl refl refl refl))
  receive_turned (Locked (CommitGone f)) asks.Won at an h s =
      goes (Locked (CommitGone f)) asks.Won at an record { ready = refl; lists = refl } refl
      (settles (Locked (CommitGone f)) (b.context i).own (in_state (state.Run result4.Gone) (b.context i).own) refl an
      (in_state_same (b.context i).own (state.Run result4.Gone) (sym (ap is_dead_state h.1.1.1.0.2))
      (sym (ap is_ended h.1.1.1.0.2)))) refl (silent refl refl refl refl)
  receive_turned (Locked (CommitGone f)) (asks.Lost x) at an h s =
      goes (Locked (CommitGone f)) (asks.Lost x) at an record { ready = refl; lists = refl } refl refl refl
      (silent refl refl refl refl)
  receive_turned (Locked LoadPicking) (asks.Word v) at an h s =
      goes (Locked LoadPicking) (asks.Word v) at an record { ready = refl; lists = refl } refl refl refl
      (picking_quiet c _ v.state)
  receive_turned (Locked (LoadNext e)) (asks.Word v) at an h s =
      goes (Locked (LoadNext e)) (asks.Word v) at an record { ready = refl; lists = refl } refl refl refl
      (if_cases (λ (q : ReceiveLocked). IsQuiet (inside_of c (LoadNext e)) (inside_of c q)) (still_waits c e v) _ _
      (λ z. silent refl refl refl refl) (λ z. next_try c e _))
  receive_turned (Locked (FreeNext e v)) asks.Won at an h s = pick_freed e v at an h.1.1.1.1.1.0
  receive_turned (Locked (FreeNext e v)) (asks.Lost x) at an h s =
      goes (Locked (FreeNext e v)) (asks.Lost x) at an record { ready = refl; lists = refl } refl refl refl
      (silent refl refl refl refl)
  receive_turned (Locked (EndPick e v)) asks.Won at an h s = pick_ended e v at an h s
  receive_turned (Locked (EndPick e v)) (asks.Lost x) at an h s =
      carries (Locked (EndPick e v)) (asks.Lost x) at an record { ready = refl; lists = refl } refl refl
      (quiet refl refl refl (λ who z. refl)) s
  receive_turned (Locked SettlePick) asks.Won at an h s =
      goes (Locked SettlePick) asks.Won at an record { ready = refl; lists = refl } refl
      (settles (Locked SettlePick) (b.context i).own (on_in (state.Receiving None) (b.context i).own) refl an
      (on_same (b.context i).own (state.Receiving None) h.1.1.1.1.0.3 (ap is_dead_state h.1.1.1.1.0.2)
      (ap is_ended h.1.1.1.1.0.2) refl refl)) refl (silent refl refl refl refl)
  receive_turned (Locked SettlePick) (asks.Lost x) at an h s =
      goes (Locked SettlePick) (asks.Lost x) at an record { ready = refl; lists = refl } refl refl refl
      (silent refl refl refl refl)
  receive_turned (Locked (Release p)) asks.Released at an h s = released p at h
  receive_turned (Outside (Ended v)) r at an h s = absurd h.0
  receive_turned p r at an h s = absurd an
