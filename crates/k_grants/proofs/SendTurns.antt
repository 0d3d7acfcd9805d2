-- The turns of a send.
use Rattle.std.proofs.Common.{◌≡◌, ℕ, ◌<◌, Bool, true, false, cond, refl, sym, ap, ◌∙◌, subst, Some, None, List, [], ◌∷◌, not}
use Rattle.k_ids.specs.declared.threads.ThreadId.{ThreadId}
use Rattle.k_ids.specs.declared.calls.Reply.TheVariants as reply
use Rattle.k_ids.specs.declared.state_word.Result4.TheVariants as result4
use Rattle.k_ids.specs.declared.state_word.State.TheVariants as state
use Rattle.k_ids.specs.declared.state_word.StateWord.{StateWord}
use Rattle.k_model.specs.State.{takes_from}
use Rattle.k_model.proofs.Maps.{upd_same}
use Rattle.k_locks.specs.Asks.{Response}
use Rattle.k_locks.specs.Asks as asks
use Rattle.k_locks.specs.Shown.{is_present_in, shows}
use Rattle.k_ipc.specs.declared.send.Manner.{Manner}
use Rattle.k_ipc.specs.declared.send.Manner.TheVariants as manner
use Rattle.k_ipc.specs.declared.send.SendCall.{SendCall}
use Rattle.k_ipc.specs.declared.send.SendOutside.TheVariants.{LoadCaller, AcquireReceiver, CheckCaller, Ended}
use Rattle.k_ipc.specs.declared.send.SendLocked.{SendLocked}
use Rattle.k_ipc.specs.declared.send.SendLocked.TheVariants.{LoadReceiver, StoreMail, CommitPass, WakeReceiver}
use Rattle.k_ipc.specs.declared.send.SendLocked.TheVariants.{ReloadReceiver, AcquireReady, CommitWait, Release}
use Rattle.k_ipc.specs.declared.send.SendRelease.TheVariants as release
use Rattle.k_ipc.specs.declared.send.SendPushing.TheVariants.{PushReceiver}
use Rattle.k_ipc.specs.SendTable.{SendAt, Outside, Locked, Pushing, passed_end, passed_word}
use Rattle.k_ipc.specs.SendTable as send
use Rattle.k_board.specs.Words.{Programs}
use Rattle.k_board.specs.Boards.{At, InSend, Board, Context, hand_of}
use Rattle.k_board.specs.Facts.{AllSay, Apart, Fact, Loaded, Passing, is_open}
use Rattle.k_board.specs.Places.{facts_send, sender}
use Rattle.k_board.specs.Steps.{Answers, after, send_at, send_board, send_context}
use Rattle.k_board.proofs.Cases.{if_cases}
use Rattle.k_tokens.specs.World.{World}
use Rattle.k_tokens.proofs.Views.{view_upd}
use Rattle.k_grants.specs.Views.{look_at, sight_of, sights_of}
use Rattle.k_grants.specs.Pushes.{IsOnAt, PushSays, board_threads, word_at}
use Rattle.k_grants.proofs.Words.{on_same, open_alive, open_goes, passed_same, present_version, run_same, told_on, turned_on_by}
use Rattle.k_grants.proofs.Says.{Turned, silently}
use Rattle.k_grants.proofs.Turned as kinds
use Rattle.k_grants.proofs.Turned.{own_is}
use Rattle.k_grants.specs.Granted.{Agrees, Finding, IsWait}
use Rattle.k_grants.proofs.Granting.{IsMoved, IsQuiet, IsTurning, IsUnready, acquires_ready, pushes, turns_on}
use Rattle.k_grants.proofs.Sights.{sighted, sights_after, sight_kept, words_after}
use Rattle.k_grants.proofs.Worlds.{world_of}
use Rattle.k_grants.proofs.Looks.{acquiring, dying, pushing, silent, turning}

-- the receiver's word, and the locations that its loading leads to
abbrev pub here : SendCall → SendLocked → At
here c p = InSend c (Locked p)

-- what a sender whose message has passed knows besides
sender_rest : (g : Programs) (b : Board) (i : ℕ) (x : Context) (m : Manner) (me : ThreadId) (fs : List Fact) →
    AllSay g b i x (sender m me fs) → AllSay g b i x fs
sender_rest g b i x manner.Plain me fs h = h.1.1.1.1.1
sender_rest g b i x manner.Joined me fs h = h.1.1.1.1.1
sender_rest g b i x manner.Reply me fs h = h.1.1.1.1

module _ (g : Programs) (b : Board) (w : World) (k i : ℕ) (a : Agrees b w) (low : (t : ℕ) → w.threads.priority t < 64)
    (inside : i < b.size) (finding : Finding) (wait : IsWait finding.waits) (c : SendCall) where
  abbrev After : SendAt → Response → Board
  After p r = send_board g b i (b.context i) c p r

  abbrev Next : SendAt → Response → At
  Next p r = send_at c (send.leads c (hand_of b (b.queue c.to.number)) p r)

  moved : (p : SendAt) (r : Response) → IsMoved b (After p r) i (Next p r)
  moved p r = record {
    size = refl;
    looks =
        view_upd (λ (y : Context). look_at y.at) b.context i (send_context (b.context i) c p r (hand_of b (b.queue c.to.number)));
  }

  abbrev Stood : SendAt → Response → Type 0
  Stood p r = Turned (After p r) (world_of w b) k i finding (asks.is_again r) (Next p r)

  abbrev Answered : SendAt → Response → Type 0
  Answered p r = Answers b (send.ask_of c (b.context i).own p) r

  seen_after : (p : SendAt) (r : Response) → Answered p r →
      sights_of (After p r) ≡ sighted (sights_of b) (send.ask_of c (b.context i).own p) r
  seen_after p r an =
      sights_after g b (b.context i).position (send.points c (b.seen i).word (hand_of b (b.queue c.to.number)) p r)
      (send.ask_of c (b.context i).own p) r an

  module _ (p : SendAt) (r : Response) (at : (b.context i).at ≡ InSend c p) (an : Answered p r)
      (u : IsUnready b (After p r)) (t : (After p r).table ≡ b.table) where
    goes : sighted (sights_of b) (send.ask_of c (b.context i).own p) r ≡ sights_of b → (look_at (InSend c p)).push ≡ None →
        IsQuiet (InSend c p) (Next p r)
        → Turned (After p r) (world_of w b) k i finding false (Next p r)
    goes e n h = kinds.goes w b k i a finding (InSend c p) at (After p r) (Next p r) (moved p r) u t (seen_after p r an ∙ e) n h

    waits : sighted (sights_of b) (send.ask_of c (b.context i).own p) r ≡ sights_of b →
        look_at (Next p r) ≡ look_at (InSend c p) → (look_at (InSend c p)).locks.ready ≡ false
        → PushSays (After p r).seen (board_threads (After p r)) (Next p r) →
        Turned (After p r) (world_of w b) k i finding true (Next p r)
    waits e h n s =
        kinds.waits w b k i a finding (InSend c p) at (After p r) (Next p r) (moved p r) u t (seen_after p r an ∙ e) wait h n s

  receiver_loaded : (v : StateWord) → IsQuiet (here c LoadReceiver) (here c (send.after_receiver c v))
  receiver_loaded v =
      if_cases (λ (q : SendLocked). IsQuiet (here c LoadReceiver) (here c q)) (not (is_present_in v c.to)) _ _
      (λ z. silent refl refl refl refl)
      (λ z. if_cases (λ (q : SendLocked). IsQuiet (here c LoadReceiver) (here c q))
      (takes_from (shows v.state) c.caller c.zero) _ _ (λ z. silent refl refl refl refl)
      (λ z. if_cases (λ (q : SendLocked). IsQuiet (here c LoadReceiver) (here c q)) c.zero _ _ (λ z. silent refl refl refl refl)
      (λ z. silent refl refl refl refl)))

  passed_quiet : (m : Manner) → IsQuiet (here c (Release release.Passed)) (after c.caller (passed_end m))
  passed_quiet manner.Plain = silent refl refl refl refl
  passed_quiet manner.Joined = silent refl refl refl refl
  passed_quiet manner.Reply = silent refl refl refl refl

  woken : (v : StateWord) → (b.context i).at ≡ InSend c (Locked (WakeReceiver v)) → Answered (Locked (WakeReceiver v)) asks.Won
      → AllSay g b i (b.context i) (Apart c.to.number ∷ Passing c ∷ Loaded c.to.number v ∷ []) →
      Stood (Locked (WakeReceiver v)) asks.Won
  woken v at an h = go v.on refl
    where
      p : SendAt
      p = Locked (WakeReceiver v)

      opened : is_open v.state ≡ true
      opened = h.1.1.0.1

      version : v.version ≡ c.to.version
      version = ap (λ (x : StateWord). x.version) (sym an) ∙ present_version (word_at b.seen c.to) c.to h.1.0.4

      word : word_at (After p asks.Won).seen c.to ≡ send.delivered_word c v
      word =
          ap (λ (f : ℕ → StateWord). f c.to.number) (words_after g b (b.context i).position
          (send.points c (b.seen i).word (hand_of b (b.queue c.to.number)) p asks.Won)
          (send.ask_of c (b.context i).own p) asks.Won an)
          ∙ upd_same (λ t. (b.seen t).word) c.to.number (send.delivered_word c v)

      go : (o : Bool) → v.on ≡ o → Stood p asks.Won
      go true o = goes p asks.Won at an record { ready = refl; lists = refl } refl
          (sight_kept (sights_of b) c.to.number _ (on_same v (state.Run (result4.Delivered c.caller)) o
          (open_alive v.state opened) (open_goes v.state opened) refl refl ∙ ap sight_of (sym an))) refl
          (subst (λ (x : Bool). IsQuiet (here c (WakeReceiver v))
          (here c (cond x (Release release.Passed) (AcquireReady v.priority)))) (sym o) (silent refl refl refl refl))
      go false o = record {
        granted =
            turns_on w b k i a finding (InSend c p) at (After p asks.Won) (Next p asks.Won)
            (moved p asks.Won) record { ready = refl; lists = refl } c.to v (send.delivered_word c v) an
            (seen_after p asks.Won an) refl (turned_on_by v (state.Run (result4.Delivered c.caller)) (open_alive v.state opened)
            (open_goes v.state opened) refl refl) version (open_alive v.state opened) o (open_goes v.state opened)
            (subst (λ (x : Bool). IsTurning (here c (WakeReceiver v))
            (here c (cond x (Release release.Passed) (AcquireReady v.priority))) c.to) (sym o) (turning refl refl refl));
        says =
            subst (λ (x : Bool). PushSays (After p asks.Won).seen (board_threads (After p asks.Won))
            (here c (cond x (Release release.Passed) (AcquireReady v.priority)))) (sym o)
            (subst (λ (x : StateWord). IsOnAt x c.to v.priority) (sym word)
            (record { version = version; running = refl; on = refl }, refl));
      }

  pub send_turned : (p : SendAt) (r : Response) → (b.context i).at ≡ InSend c p → Answered p r →
      AllSay g b i (b.context i) (facts_send c p)
      → PushSays b.seen (board_threads b) (InSend c p) → Stood p r
  send_turned (Outside LoadCaller) (asks.Word v) at an h s =
      kinds.by_life w b k i a finding (InSend c (Outside LoadCaller)) at (After (Outside LoadCaller) (asks.Word v))
      (Next (Outside LoadCaller) (asks.Word v)) (moved (Outside LoadCaller) (asks.Word v))
      record { ready = refl; lists = refl } refl (seen_after (Outside LoadCaller) (asks.Word v) an) c.caller v reply.Own refl
      (own_is b i c.caller.number v h.1.0.0 an) refl
  send_turned (Outside AcquireReceiver) asks.Got at an h s =
      goes (Outside AcquireReceiver) asks.Got at an record { ready = refl; lists = refl } refl refl refl
      (silent refl refl refl refl)
  send_turned (Outside AcquireReceiver) (asks.Owned o) at an h s =
      waits (Outside AcquireReceiver) (asks.Owned o) at an record { ready = refl; lists = refl } refl refl refl refl tt
  send_turned (Locked LoadReceiver) (asks.Word v) at an h s =
      goes (Locked LoadReceiver) (asks.Word v) at an record { ready = refl; lists = refl } refl refl refl (receiver_loaded v)
  send_turned (Locked (StoreMail v)) asks.Stored at an h s =
      goes (Locked (StoreMail v)) asks.Stored at an record { ready = refl; lists = refl } refl refl refl
      (silent refl refl refl refl)
  send_turned (Locked (Release release.Passed)) asks.Released at an h s =
      goes (Locked (Release release.Passed)) asks.Released at an record { ready = refl; lists = refl } refl refl refl
      (passed_quiet c.manner)
  send_turned (Locked (CommitPass v)) asks.Won at an h s =
      goes (Locked (CommitPass v)) asks.Won at an record { ready = refl; lists = refl } refl
      (sight_kept (sights_of b) c.caller.number _ (passed_same c.manner c.to (b.context i).own h.1.1.1.1.1.1.0.0
      ∙ ap sight_of (sym an))) refl (silent refl refl refl refl)
  send_turned (Locked (CommitPass v)) (asks.Lost x) at an h s =
      goes (Locked (CommitPass v)) (asks.Lost x) at an record { ready = refl; lists = refl } refl refl refl
      (silent refl refl refl refl)
  send_turned (Locked (WakeReceiver v)) asks.Won at an h s = woken v at an (sender_rest g b i (b.context i) c.manner c.caller _ h)
  send_turned (Locked (WakeReceiver v)) (asks.Lost x) at an h s =
      goes (Locked (WakeReceiver v)) (asks.Lost x) at an record { ready = refl; lists = refl } refl refl refl
      (silent refl refl refl refl)
  send_turned (Locked ReloadReceiver) (asks.Word v) at an h s =
      goes (Locked ReloadReceiver) (asks.Word v) at an record { ready = refl; lists = refl } refl refl refl
      (silent refl refl refl refl)
  send_turned (Locked (AcquireReady n)) asks.Got at an h s = record {
    granted =
        acquires_ready w b k i a finding (InSend c (Locked (AcquireReady n))) at (After (Locked (AcquireReady n)) asks.Got) _
        (moved (Locked (AcquireReady n)) asks.Got) (seen_after (Locked (AcquireReady n)) asks.Got an) refl an refl refl inside
        (acquiring refl refl);
    says = s;
  }
  send_turned (Locked (AcquireReady n)) (asks.Owned o) at an h s =
      waits (Locked (AcquireReady n)) (asks.Owned o) at an record { ready = refl; lists = refl } refl refl refl refl s
  send_turned (Pushing (PushReceiver n)) asks.Released at an h s =
      silently (pushes w b k i a finding (InSend c (Pushing (PushReceiver n))) at
      (After (Pushing (PushReceiver n)) asks.Released) _ (moved (Pushing (PushReceiver n)) asks.Released) c.to (Some n)
      (seen_after (Pushing (PushReceiver n)) asks.Released an) refl refl refl
      (told_on w.threads.priority b c.to n low a.priorities s) (pushing refl refl refl refl refl)) refl
  send_turned (Locked (Release release.Dead)) asks.Released at an h s =
      kinds.dead w b k i a finding (here c (Release release.Dead)) at (After (Locked (Release release.Dead)) asks.Released)
      (Next (Locked (Release release.Dead)) asks.Released)
      (moved (Locked (Release release.Dead)) asks.Released) record { ready = refl; lists = refl } refl
      (seen_after (Locked (Release release.Dead)) asks.Released an) h.1.0 (dying refl refl refl refl)
  send_turned (Locked (Release (release.Refused q))) asks.Released at an h s =
      goes (Locked (Release (release.Refused q))) asks.Released at an record { ready = refl; lists = refl } refl refl refl
      (silent refl refl refl refl)
  send_turned (Outside (CheckCaller q)) (asks.Word v) at an h s =
      kinds.by_life w b k i a finding (InSend c (Outside (CheckCaller q))) at (After (Outside (CheckCaller q)) (asks.Word v))
      (Next (Outside (CheckCaller q)) (asks.Word v)) (moved (Outside (CheckCaller q)) (asks.Word v))
      record { ready = refl; lists = refl } refl (seen_after (Outside (CheckCaller q)) (asks.Word v) an) c.caller v q refl
      (own_is b i c.caller.number v h.0.0 an) refl
  send_turned (Locked CommitWait) asks.Won at an h s =
      goes (Locked CommitWait) asks.Won at an record { ready = refl; lists = refl } refl
      (sight_kept (sights_of b) c.caller.number _ (run_same (b.context i).own
      (state.Sending c.to (send.is_joined c.manner)) h.1.1.1.1.1.0.0 refl refl ∙ ap sight_of (sym an))) refl
      (silent refl refl refl refl)
  send_turned (Locked CommitWait) (asks.Lost x) at an h s =
      goes (Locked CommitWait) (asks.Lost x) at an record { ready = refl; lists = refl } refl refl refl
      (silent refl refl refl refl)
  send_turned (Locked (Release release.Queued)) asks.Released at an h s =
      goes (Locked (Release release.Queued)) asks.Released at an record { ready = refl; lists = refl } refl refl refl
      (silent refl refl refl refl)
  send_turned (Outside (Ended v)) r at an h s = absurd h.0
  send_turned p r at an h s = absurd an
