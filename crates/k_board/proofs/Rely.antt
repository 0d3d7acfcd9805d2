-- What a step of one context leaves of what another rests on: one clause for each kind of change and each use that a fact makes of the
-- board.
use Rattle.std.proofs.Common.{◌≡◌, ◌≢◌, ℕ, Bool, true, false, refl, subst, Some, None, arith, ◌⊎◌, inr}
use Rattle.std.proofs.lemmas.Bool.Decides.{nat_tests}
use Rattle.k_ids.specs.declared.threads.ThreadId.{ThreadId}
use Rattle.k_ids.specs.declared.calls.Reply.{Reply}
use Rattle.k_ids.specs.declared.state_word.State.{State}
use Rattle.k_ids.specs.declared.state_word.State.TheVariants as state
use Rattle.k_ids.specs.declared.state_word.StateWord.{StateWord}
use Rattle.k_model.specs.State.{takes_from}
use Rattle.k_senders.specs.declared.entries.SenderEntry.{SenderEntry}
use Rattle.k_locks.specs.Shown.{is_dead, is_present_in, shows}
use Rattle.k_locks.specs.Threads.{runs}
use Rattle.k_ipc.specs.declared.send.SendCall.{SendCall}
use Rattle.k_ids.specs.declared.state_word.Result4.TheVariants as result4
use Rattle.k_ipc.specs.Words.{in_state, on_in, sends_to}
use Rattle.k_threads.specs.Words.{dead_word, is_receiving_from}
use Rattle.k_caller.specs.Waits.{is_waiting}
use Rattle.k_board.specs.Words.{Seen}
use Rattle.k_board.specs.Boards.{Board, Coming}
use Rattle.k_board.specs.Facts.{is_open, IsOr, IsLoaded, Fits, WaitsBy, PicksBy, waits_for}
use Rattle.k_board.specs.Moves.{Change, same, calls, settles, passes, delivers, takes, joins, frees_sender, frees_receiver, kills, makes, leaves, posts, Goes, is_sending}

-- A caller that begins to receive doesn't take the message of one that holds its lock.
busy_state : (b : Board) (j i : ℕ) (w : StateWord) (goes : Goes b j w) (c : SendCall) (s : State) → i ≢ j → w.state ≡ s → c.caller.number ≡ i → is_waiting (b.seen i).word.state ≡ false → b.owner j ≡ Some i → c.zero ≡ false → takes_from (shows s) c.caller c.zero ≡ false
busy_state b j i w goes c state.Dead ne e mine idle k z = refl
busy_state b j i w goes c (state.Run r) ne e mine idle k z = refl
busy_state b j i w goes c (state.Sending to joined) ne e mine idle k z = refl
busy_state b j i w goes c (state.Receiving None) ne e mine idle k z = grind (arith, goes.any e)
busy_state b j i w goes c (state.Receiving (Some from)) ne e mine idle k z = grind (arith, nat_tests, goes.one from e)
busy_state b j i w goes c state.Picking ne e mine idle k z = z
busy_state b j i w goes c state.Ended ne e mine idle k z = refl

busy_calls : (b : Board) (j i : ℕ) → i ≢ j → (w : StateWord) (goes : Goes b j w) (c : SendCall) → c.caller.number ≡ i → is_waiting (b.seen i).word.state ≡ false → b.owner j ≡ Some i → c.zero ≡ false → takes_from (shows w.state) c.caller c.zero ≡ false
busy_calls b j i ne w goes c mine idle k z = busy_state b j i w goes c w.state ne refl mine idle k z

-- A word that doesn't send isn't one that waits for a thread whose lock is held; and one that begins to send does so under that lock.
pub quits_unsent : (w : StateWord) (to : ThreadId) (e : SenderEntry) → is_sending w.state ≡ false → waits_for to e w ≡ false
quits_unsent w to e n = grind arith

quits_run : (w : StateWord) (to : ThreadId) (e : SenderEntry) → runs w.state ≡ true → waits_for to e w ≡ false
quits_run w to e n = grind arith

quits_state : (b : Board) (j i : ℕ) (w : StateWord) (goes : Goes b j w) (to : ThreadId) (s : State) → i ≢ j → w.state ≡ s → b.owner to.number ≡ Some i → sends_to to s ≡ false
quits_state b j i w goes to (state.Sending other joined) ne e k = grind (arith, nat_tests, goes.sends other joined e)
quits_state b j i w goes to state.Dead ne e k = refl
quits_state b j i w goes to (state.Run r) ne e k = refl
quits_state b j i w goes to (state.Receiving from) ne e k = refl
quits_state b j i w goes to state.Picking ne e k = refl
quits_state b j i w goes to state.Ended ne e k = refl

quits_calls : (b : Board) (j i : ℕ) → i ≢ j → (w : StateWord) (goes : Goes b j w) (to : ThreadId) (e : SenderEntry) → b.owner to.number ≡ Some i → waits_for to e w ≡ false
quits_calls b j i ne w goes to e k = let s = quits_state b j i w goes to w.state ne refl k in grind arith

-- Nobody begins to receive from a thread that was destroyed, but under its own lock.
deaf_state : (b : Board) (j i : ℕ) (w : StateWord) (goes : Goes b j w) (id : ThreadId) (s : State) → i ≢ j → w.state ≡ s → b.owner j ≡ Some i → is_dead (b.seen id.number).word ≡ true → is_receiving_from id s ≡ false
deaf_state b j i w goes id (state.Receiving None) ne e k d = refl
deaf_state b j i w goes id (state.Receiving (Some from)) ne e k d = grind (arith, nat_tests, goes.one from e)
deaf_state b j i w goes id state.Dead ne e k d = refl
deaf_state b j i w goes id (state.Run r) ne e k d = refl
deaf_state b j i w goes id (state.Sending to joined) ne e k d = refl
deaf_state b j i w goes id state.Picking ne e k d = refl
deaf_state b j i w goes id state.Ended ne e k d = refl

deaf_calls : (b : Board) (j i : ℕ) → i ≢ j → (w : StateWord) (goes : Goes b j w) (id : ThreadId) → b.owner j ≡ Some i → is_dead (b.seen id.number).word ≡ true → is_receiving_from id w.state ≡ false
deaf_calls b j i ne w goes id k d = deaf_state b j i w goes id w.state ne refl k d

deaf_joins : (b : Board) (j : ℕ) (to id : ThreadId) → is_present_in (b.seen j).word to ≡ true → to.number ≡ j → is_dead (b.seen id.number).word ≡ true → is_receiving_from id (state.Receiving (Some to)) ≡ false
deaf_joins b j to id hr nj d = grind (arith, nat_tests)

deaf_run : (w : StateWord) (id : ThreadId) → runs w.state ≡ true → is_receiving_from id w.state ≡ false
deaf_run w id rn = grind arith

module _ (b : Board) (i j : ℕ) (ne : i ≢ j) (there : (b.context i).at ≡ Coming → ⊥) where
  pub version_stays : (t : ℕ) (v : Seen) → Change b j t v → t ≡ i → v.word.version ≡ (b.seen t).word.version
  version_stays _ _ (same t) e = grind arith
  version_stays _ _ (calls w r p run goes) e = goes.version
  version_stays _ _ (settles v o ver al al2 ns us) e = ver
  version_stays _ _ (passes t r o op none) e = grind arith
  version_stays _ _ (delivers t from o op told) e = grind arith
  version_stays _ _ (takes t to o nj st none) e = grind arith
  version_stays _ _ (joins t to o nj hr st) e = grind arith
  version_stays _ _ (frees_sender t to joined o tb dd st none) e = grind arith
  version_stays _ _ (frees_receiver t from o tb dd st none) e = grind arith
  version_stays _ _ (kills t o tb nk al) e = grind arith
  version_stays _ _ (makes t w p tb d nw rn ver) e = absurd (there (subst (λ (n : ℕ). (b.context n).at ≡ Coming) e nw))
  version_stays _ _ (leaves wt) e = grind arith
  version_stays _ _ (posts t m o op) e = grind arith

  pub last_stays : (t : ℕ) (v : Seen) → Change b j t v → t ≡ i → v.last ≡ (b.seen t).last
  last_stays _ _ (same t) e = grind arith
  last_stays _ _ (calls w r p run goes) e = grind arith
  last_stays _ _ (settles v o ver al al2 ns us) e = grind arith
  last_stays _ _ (passes t r o op none) e = grind arith
  last_stays _ _ (delivers t from o op told) e = grind arith
  last_stays _ _ (takes t to o nj st none) e = grind arith
  last_stays _ _ (joins t to o nj hr st) e = grind arith
  last_stays _ _ (frees_sender t to joined o tb dd st none) e = grind arith
  last_stays _ _ (frees_receiver t from o tb dd st none) e = grind arith
  last_stays _ _ (kills t o tb nk al) e = grind arith
  last_stays _ _ (makes t w p tb d nw rn ver) e = absurd (there (subst (λ (n : ℕ). (b.context n).at ≡ Coming) e nw))
  last_stays _ _ (leaves wt) e = grind arith
  last_stays _ _ (posts t m o op) e = grind arith

  pub position_stays : (t : ℕ) (v : Seen) → Change b j t v → t ≡ i → v.position ≡ (b.seen t).position
  position_stays _ _ (same t) e = grind arith
  position_stays _ _ (calls w r p run goes) e = grind arith
  position_stays _ _ (settles v o ver al al2 ns us) e = grind arith
  position_stays _ _ (passes t r o op none) e = grind arith
  position_stays _ _ (delivers t from o op told) e = grind arith
  position_stays _ _ (takes t to o nj st none) e = grind arith
  position_stays _ _ (joins t to o nj hr st) e = grind arith
  position_stays _ _ (frees_sender t to joined o tb dd st none) e = grind arith
  position_stays _ _ (frees_receiver t from o tb dd st none) e = grind arith
  position_stays _ _ (kills t o tb nk al) e = grind arith
  position_stays _ _ (makes t w p tb d nw rn ver) e = absurd (there (subst (λ (n : ℕ). (b.context n).at ≡ Coming) e nw))
  position_stays _ _ (leaves wt) e = grind arith
  position_stays _ _ (posts t m o op) e = grind arith

  pub told_stays : (t : ℕ) (v : Seen) → Change b j t v → t ≡ i → (x : Reply) → (b.seen t).told ≡ Some x → v.told ≡ Some x
  told_stays _ _ (same t) e x h = grind arith
  told_stays _ _ (calls w r p run goes) e x h = grind arith
  told_stays _ _ (settles v o ver al al2 ns us) e x h = grind arith
  told_stays _ _ (passes t r o op none) e x h = grind arith
  told_stays _ _ (delivers t from o op told) e x h = grind arith
  told_stays _ _ (takes t to o nj st none) e x h = grind arith
  told_stays _ _ (joins t to o nj hr st) e x h = grind arith
  told_stays _ _ (frees_sender t to joined o tb dd st none) e x h = grind arith
  told_stays _ _ (frees_receiver t from o tb dd st none) e x h = grind arith
  told_stays _ _ (kills t o tb nk al) e x h = grind arith
  told_stays _ _ (makes t w p tb d nw rn ver) e x h = absurd (there (subst (λ (n : ℕ). (b.context n).at ≡ Coming) e nw))
  told_stays _ _ (leaves wt) e x h = grind arith
  told_stays _ _ (posts t m o op) e x h = grind arith

  pub idle_stays : (t : ℕ) (v : Seen) → Change b j t v → t ≡ i → is_waiting (b.seen t).word.state ≡ false → is_waiting v.word.state ≡ false
  idle_stays _ _ (same t) e h = grind arith
  idle_stays _ _ (calls w r p run goes) e h = grind arith
  idle_stays _ _ (settles v o ver al al2 ns us) e h = grind arith
  idle_stays _ _ (passes t r o op none) e h = grind arith
  idle_stays _ _ (delivers t from o op told) e h = grind arith
  idle_stays _ _ (takes t to o nj st none) e h = grind arith
  idle_stays _ _ (joins t to o nj hr st) e h = grind arith
  idle_stays _ _ (frees_sender t to joined o tb dd st none) e h = grind arith
  idle_stays _ _ (frees_receiver t from o tb dd st none) e h = grind arith
  idle_stays _ _ (kills t o tb nk al) e h = grind arith
  idle_stays _ _ (makes t w p tb d nw rn ver) e h = absurd (there (subst (λ (n : ℕ). (b.context n).at ≡ Coming) e nw))
  idle_stays _ _ (leaves wt) e h = grind arith
  idle_stays _ _ (posts t m o op) e h = grind arith

  pub quiet_stays : (t : ℕ) (v : Seen) → Change b j t v → t ≡ i → is_waiting (b.seen t).word.state ≡ false → v.told ≡ (b.seen t).told
  quiet_stays _ _ (same t) e h = grind arith
  quiet_stays _ _ (calls w r p run goes) e h = grind arith
  quiet_stays _ _ (settles v o ver al al2 ns us) e h = grind arith
  quiet_stays _ _ (passes t r o op none) e h = grind arith
  quiet_stays _ _ (delivers t from o op told) e h = grind arith
  quiet_stays _ _ (takes t to o nj st none) e h = grind arith
  quiet_stays _ _ (joins t to o nj hr st) e h = grind arith
  quiet_stays _ _ (frees_sender t to joined o tb dd st none) e h = grind arith
  quiet_stays _ _ (frees_receiver t from o tb dd st none) e h = grind arith
  quiet_stays _ _ (kills t o tb nk al) e h = grind arith
  quiet_stays _ _ (makes t w p tb d nw rn ver) e h = absurd (there (subst (λ (n : ℕ). (b.context n).at ≡ Coming) e nw))
  quiet_stays _ _ (leaves wt) e h = grind arith
  quiet_stays _ _ (posts t m o op) e h = grind arith

  pub mail_idle_stays : (t : ℕ) (v : Seen) → Change b j t v → t ≡ i → is_waiting (b.seen t).word.state ≡ false → v.mail ≡ (b.seen t).mail
  mail_idle_stays _ _ (same t) e h = grind arith
  mail_idle_stays _ _ (calls w r p run goes) e h = grind arith
  mail_idle_stays _ _ (settles v o ver al al2 ns us) e h = grind arith
  mail_idle_stays _ _ (passes t r o op none) e h = grind arith
  mail_idle_stays _ _ (delivers t from o op told) e h = grind arith
  mail_idle_stays _ _ (takes t to o nj st none) e h = grind arith
  mail_idle_stays _ _ (joins t to o nj hr st) e h = grind arith
  mail_idle_stays _ _ (frees_sender t to joined o tb dd st none) e h = grind arith
  mail_idle_stays _ _ (frees_receiver t from o tb dd st none) e h = grind arith
  mail_idle_stays _ _ (kills t o tb nk al) e h = grind arith
  mail_idle_stays _ _ (makes t w p tb d nw rn ver) e h = absurd (there (subst (λ (n : ℕ). (b.context n).at ≡ Coming) e nw))
  mail_idle_stays _ _ (leaves wt) e h = grind arith
  mail_idle_stays _ _ (posts t m o op) e h = grind arith

  pub free_stays : (t : ℕ) (v : Seen) → Change b j t v → t ≡ i → (own : StateWord) → runs own.state ≡ true → IsOr (b.seen t).word own → IsOr v.word own
  free_stays _ _ (same t) e own run_ h = grind arith
  free_stays _ _ (calls w r p run goes) e own run_ h = grind arith
  free_stays _ _ (settles v o ver al al2 ns us) e own run_ h = grind arith
  free_stays _ _ (passes t r o op none) e own run_ h = grind arith
  free_stays _ _ (delivers t from o op told) e own run_ h = grind arith
  free_stays _ _ (takes t to o nj st none) e own run_ h = grind arith
  free_stays _ _ (joins t to o nj hr st) e own run_ h = grind arith
  free_stays _ _ (frees_sender t to joined o tb dd st none) e own run_ h = grind arith
  free_stays _ _ (frees_receiver t from o tb dd st none) e own run_ h = grind arith
  free_stays _ _ (kills t o tb nk al) e own run_ h = grind arith
  free_stays _ _ (makes t w p tb d nw rn ver) e own run_ h = absurd (there (subst (λ (n : ℕ). (b.context n).at ≡ Coming) e nw))
  free_stays _ _ (leaves wt) e own run_ h = grind arith
  free_stays _ _ (posts t m o op) e own run_ h = grind arith

  pub rested_stays : (t : ℕ) (v : Seen) → Change b j t v → t ≡ i → (own : StateWord) → own.state ≡ state.Ended → IsOr (b.seen t).word own → IsOr v.word own
  rested_stays _ _ (same t) e own is_ h = grind arith
  rested_stays _ _ (calls w r p run goes) e own is_ h = grind arith
  rested_stays _ _ (settles v o ver al al2 ns us) e own is_ h = grind arith
  rested_stays _ _ (passes t r o op none) e own is_ h = grind arith
  rested_stays _ _ (delivers t from o op told) e own is_ h = grind arith
  rested_stays _ _ (takes t to o nj st none) e own is_ h = grind arith
  rested_stays _ _ (joins t to o nj hr st) e own is_ h = grind arith
  rested_stays _ _ (frees_sender t to joined o tb dd st none) e own is_ h = grind arith
  rested_stays _ _ (frees_receiver t from o tb dd st none) e own is_ h = grind arith
  rested_stays _ _ (kills t o tb nk al) e own is_ h = grind arith
  rested_stays _ _ (makes t w p tb d nw rn ver) e own is_ h = absurd (there (subst (λ (n : ℕ). (b.context n).at ≡ Coming) e nw))
  rested_stays _ _ (leaves wt) e own is_ h = grind arith
  rested_stays _ _ (posts t m o op) e own is_ h = grind arith

  pub kept_stays : (t : ℕ) (v : Seen) → Change b j t v → t ≡ i → (own : StateWord) → runs own.state ≡ true → (b.owner i ≡ Some i) ⊎ (b.table ≡ Some i) → (b.seen t).word ≡ own → v.word ≡ own
  kept_stays _ _ (same t) e own run_ k h = grind arith
  kept_stays _ _ (calls w r p run goes) e own run_ k h = grind arith
  kept_stays _ _ (settles v o ver al al2 ns us) e own run_ k h = grind arith
  kept_stays _ _ (passes t r o op none) e own run_ k h = grind arith
  kept_stays _ _ (delivers t from o op told) e own run_ k h = grind arith
  kept_stays _ _ (takes t to o nj st none) e own run_ k h = grind arith
  kept_stays _ _ (joins t to o nj hr st) e own run_ k h = grind arith
  kept_stays _ _ (frees_sender t to joined o tb dd st none) e own run_ k h = grind arith
  kept_stays _ _ (frees_receiver t from o tb dd st none) e own run_ k h = grind arith
  kept_stays _ _ (kills t o tb nk al) e own run_ k h = grind arith
  kept_stays _ _ (makes t w p tb d nw rn ver) e own run_ k h = absurd (there (subst (λ (n : ℕ). (b.context n).at ≡ Coming) e nw))
  kept_stays _ _ (leaves wt) e own run_ k h = grind arith
  kept_stays _ _ (posts t m o op) e own run_ k h = grind arith

  pub held_stays : (t : ℕ) (v : Seen) → Change b j t v → t ≡ i → (own : StateWord) → b.owner i ≡ Some i → is_open own.state ≡ true → (b.seen t).word ≡ own → v.word ≡ own
  held_stays _ _ (same t) e own k so h = grind arith
  held_stays _ _ (calls w r p run goes) e own k so h = grind arith
  held_stays _ _ (settles v o ver al al2 ns us) e own k so h = grind arith
  held_stays _ _ (passes t r o op none) e own k so h = grind arith
  held_stays _ _ (delivers t from o op told) e own k so h = grind arith
  held_stays _ _ (takes t to o nj st none) e own k so h = grind arith
  held_stays _ _ (joins t to o nj hr st) e own k so h = grind arith
  held_stays _ _ (frees_sender t to joined o tb dd st none) e own k so h = grind arith
  held_stays _ _ (frees_receiver t from o tb dd st none) e own k so h = grind arith
  held_stays _ _ (kills t o tb nk al) e own k so h = grind arith
  held_stays _ _ (makes t w p tb d nw rn ver) e own k so h = absurd (there (subst (λ (n : ℕ). (b.context n).at ≡ Coming) e nw))
  held_stays _ _ (leaves wt) e own k so h = grind arith
  held_stays _ _ (posts t m o op) e own k so h = grind arith

  pub queued_stays : (t : ℕ) (v : Seen) → Change b j t v → t ≡ i → (own : StateWord) (to_ : ThreadId) (joined_ : Bool) → b.owner to_.number ≡ Some i → own.state ≡ state.Sending to_ joined_ → IsOr (b.seen t).word own → IsOr v.word own
  queued_stays _ _ (same t) e own to_ joined_ k so h = grind arith
  queued_stays _ _ (calls w r p run goes) e own to_ joined_ k so h = grind arith
  queued_stays _ _ (settles v o ver al al2 ns us) e own to_ joined_ k so h = grind arith
  queued_stays _ _ (passes t r o op none) e own to_ joined_ k so h = grind arith
  queued_stays _ _ (delivers t from o op told) e own to_ joined_ k so h = grind arith
  queued_stays _ _ (takes t to o nj st none) e own to_ joined_ k so h = grind arith
  queued_stays _ _ (joins t to o nj hr st) e own to_ joined_ k so h = grind arith
  queued_stays _ _ (frees_sender t to joined o tb dd st none) e own to_ joined_ k so h = grind arith
  queued_stays _ _ (frees_receiver t from o tb dd st none) e own to_ joined_ k so h = grind arith
  queued_stays _ _ (kills t o tb nk al) e own to_ joined_ k so h = grind arith
  queued_stays _ _ (makes t w p tb d nw rn ver) e own to_ joined_ k so h = absurd (there (subst (λ (n : ℕ). (b.context n).at ≡ Coming) e nw))
  queued_stays _ _ (leaves wt) e own to_ joined_ k so h = grind arith
  queued_stays _ _ (posts t m o op) e own to_ joined_ k so h = grind arith

  pub died_stays : (t : ℕ) (v : Seen) → Change b j t v → t ≡ i → is_dead (b.seen t).word ≡ true → is_dead v.word ≡ true
  died_stays _ _ (same t) e h = grind arith
  died_stays _ _ (calls w r p run goes) e h = grind arith
  died_stays _ _ (settles v o ver al al2 ns us) e h = grind arith
  died_stays _ _ (passes t r o op none) e h = grind arith
  died_stays _ _ (delivers t from o op told) e h = grind arith
  died_stays _ _ (takes t to o nj st none) e h = grind arith
  died_stays _ _ (joins t to o nj hr st) e h = grind arith
  died_stays _ _ (frees_sender t to joined o tb dd st none) e h = grind arith
  died_stays _ _ (frees_receiver t from o tb dd st none) e h = grind arith
  died_stays _ _ (kills t o tb nk al) e h = grind arith
  died_stays _ _ (makes t w p tb d nw rn ver) e h = absurd (there (subst (λ (n : ℕ). (b.context n).at ≡ Coming) e nw))
  died_stays _ _ (leaves wt) e h = grind arith
  died_stays _ _ (posts t m o op) e h = grind arith

  pub mail_stays : (t : ℕ) (v : Seen) → Change b j t v → b.owner t ≡ Some i → v.mail ≡ (b.seen t).mail
  mail_stays _ _ (same t) k = grind arith
  mail_stays _ _ (calls w r p run goes) k = grind arith
  mail_stays _ _ (settles v o ver al al2 ns us) k = grind arith
  mail_stays _ _ (passes t r o op none) k = grind arith
  mail_stays _ _ (delivers t from o op told) k = grind arith
  mail_stays _ _ (takes t to o nj st none) k = grind arith
  mail_stays _ _ (joins t to o nj hr st) k = grind arith
  mail_stays _ _ (frees_sender t to joined o tb dd st none) k = grind arith
  mail_stays _ _ (frees_receiver t from o tb dd st none) k = grind arith
  mail_stays _ _ (kills t o tb nk al) k = grind arith
  mail_stays _ _ (makes t w p tb d nw rn ver) k = grind arith
  mail_stays _ _ (leaves wt) k = grind arith
  mail_stays _ _ (posts t m o op) k = grind arith

  pub fits_stays : (t : ℕ) (v : Seen) → Change b j t v → (c : SendCall) → b.owner t ≡ Some i → Fits c (b.seen t).word → Fits c v.word
  fits_stays _ _ (same t) c k h = grind arith
  fits_stays _ _ (calls w r p run goes) c k h = grind arith
  fits_stays _ _ (settles v o ver al al2 ns us) c k h = grind arith
  fits_stays _ _ (passes t r o op none) c k h = grind arith
  fits_stays _ _ (delivers t from o op told) c k h = grind arith
  fits_stays _ _ (takes t to o nj st none) c k h = grind arith
  fits_stays _ _ (joins t to o nj hr st) c k h = grind arith
  fits_stays _ _ (frees_sender t to joined o tb dd st none) c k h = grind arith
  fits_stays _ _ (frees_receiver t from o tb dd st none) c k h = grind arith
  fits_stays _ _ (kills t o tb nk al) c k h = grind arith
  fits_stays _ _ (makes t w p tb d nw rn ver) c k h = grind arith
  fits_stays _ _ (leaves wt) c k h = grind arith
  fits_stays _ _ (posts t m o op) c k h = grind arith

  pub opens_stays : (t : ℕ) (v : Seen) → Change b j t v → b.owner t ≡ Some i → is_open (b.seen t).word.state ≡ true → is_open v.word.state ≡ true
  opens_stays _ _ (same t) k h = grind arith
  opens_stays _ _ (calls w r p run goes) k h = grind arith
  opens_stays _ _ (settles v o ver al al2 ns us) k h = grind arith
  opens_stays _ _ (passes t r o op none) k h = grind arith
  opens_stays _ _ (delivers t from o op told) k h = grind arith
  opens_stays _ _ (takes t to o nj st none) k h = grind arith
  opens_stays _ _ (joins t to o nj hr st) k h = grind arith
  opens_stays _ _ (frees_sender t to joined o tb dd st none) k h = grind arith
  opens_stays _ _ (frees_receiver t from o tb dd st none) k h = grind arith
  opens_stays _ _ (kills t o tb nk al) k h = grind arith
  opens_stays _ _ (makes t w p tb d nw rn ver) k h = grind arith
  opens_stays _ _ (leaves wt) k h = grind arith
  opens_stays _ _ (posts t m o op) k h = grind arith

  pub loaded_stays : (t : ℕ) (v : Seen) → Change b j t v → (w_ : StateWord) → b.owner t ≡ Some i → is_open w_.state ≡ true → IsLoaded (b.seen t).word w_ → IsLoaded v.word w_
  loaded_stays _ _ (same t) w_ k so h = grind arith
  loaded_stays _ _ (calls w r p run goes) w_ k so h = grind arith
  loaded_stays _ _ (settles v o ver al al2 ns us) w_ k so h = grind arith
  loaded_stays _ _ (passes t r o op none) w_ k so h = grind arith
  loaded_stays _ _ (delivers t from o op told) w_ k so h = grind arith
  loaded_stays _ _ (takes t to o nj st none) w_ k so h = grind arith
  loaded_stays _ _ (joins t to o nj hr st) w_ k so h = grind arith
  loaded_stays _ _ (frees_sender t to joined o tb dd st none) w_ k so h = grind arith
  loaded_stays _ _ (frees_receiver t from o tb dd st none) w_ k so h = grind arith
  loaded_stays _ _ (kills t o tb nk al) w_ k so h = grind arith
  loaded_stays _ _ (makes t w p tb d nw rn ver) w_ k so h = grind arith
  loaded_stays _ _ (leaves wt) w_ k so h = grind arith
  loaded_stays _ _ (posts t m o op) w_ k so h = grind arith

  pub told_held_stays : (t : ℕ) (v : Seen) → Change b j t v → (x : Reply) → b.owner t ≡ Some i → is_open (b.seen t).word.state ≡ true → (b.seen t).told ≡ Some x → v.told ≡ Some x
  told_held_stays _ _ (same t) x k op_ h = grind arith
  told_held_stays _ _ (calls w r p run goes) x k op_ h = grind arith
  told_held_stays _ _ (settles v o ver al al2 ns us) x k op_ h = grind arith
  told_held_stays _ _ (passes t r o op none) x k op_ h = grind arith
  told_held_stays _ _ (delivers t from o op told) x k op_ h = grind arith
  told_held_stays _ _ (takes t to o nj st none) x k op_ h = grind arith
  told_held_stays _ _ (joins t to o nj hr st) x k op_ h = grind arith
  told_held_stays _ _ (frees_sender t to joined o tb dd st none) x k op_ h = grind arith
  told_held_stays _ _ (frees_receiver t from o tb dd st none) x k op_ h = grind arith
  told_held_stays _ _ (kills t o tb nk al) x k op_ h = grind arith
  told_held_stays _ _ (makes t w p tb d nw rn ver) x k op_ h = grind arith
  told_held_stays _ _ (leaves wt) x k op_ h = grind arith
  told_held_stays _ _ (posts t m o op) x k op_ h = grind arith

  pub waits_stays : (t : ℕ) (v : Seen) → Change b j t v → t ≡ i → WaitsBy (b.seen t) → WaitsBy v
  waits_stays _ _ (same t) e h = h
  waits_stays _ _ (calls w r p run goes) e h = grind arith
  waits_stays _ _ (settles v o ver al al2 ns us) e h = grind arith
  waits_stays _ _ (passes t r o op none) e h = grind arith
  waits_stays _ _ (delivers t from o op told) e h = inr (inr (inr (inr record { from = from; state = refl; on = refl; told = told })))
  waits_stays _ _ (takes t to o nj st none) e h = grind arith
  waits_stays _ _ (joins t to o nj hr st) e h = grind arith
  waits_stays _ _ (frees_sender t to joined o tb dd st none) e h = grind arith
  waits_stays _ _ (frees_receiver t from o tb dd st none) e h = grind arith
  waits_stays _ _ (kills t o tb nk al) e h = grind arith
  waits_stays _ _ (makes t w p tb d nw rn ver) e h = absurd (there (subst (λ (n : ℕ). (b.context n).at ≡ Coming) e nw))
  waits_stays _ _ (leaves wt) e h = grind arith
  waits_stays _ _ (posts t m o op) e h = grind arith

  pub picks_stays : (t : ℕ) (v : Seen) → Change b j t v → t ≡ i → (own : StateWord) → own.state ≡ state.Picking → PicksBy own (b.seen t) → PicksBy own v
  picks_stays _ _ (same t) e own so h = h
  picks_stays _ _ (calls w r p run goes) e own so h = grind arith
  picks_stays _ _ (settles v o ver al al2 ns us) e own so h = grind arith
  picks_stays _ _ (passes t r o op none) e own so h = grind arith
  picks_stays _ _ (delivers t from o op told) e own so h = inr record { from = from; state = refl; on = refl; told = told }
  picks_stays _ _ (takes t to o nj st none) e own so h = grind arith
  picks_stays _ _ (joins t to o nj hr st) e own so h = grind arith
  picks_stays _ _ (frees_sender t to joined o tb dd st none) e own so h = grind arith
  picks_stays _ _ (frees_receiver t from o tb dd st none) e own so h = grind arith
  picks_stays _ _ (kills t o tb nk al) e own so h = grind arith
  picks_stays _ _ (makes t w p tb d nw rn ver) e own so h = absurd (there (subst (λ (n : ℕ). (b.context n).at ≡ Coming) e nw))
  picks_stays _ _ (leaves wt) e own so h = grind arith
  picks_stays _ _ (posts t m o op) e own so h = grind arith

  pub busy_stays : (t : ℕ) (v : Seen) → Change b j t v → (c : SendCall) → b.owner t ≡ Some i → c.zero ≡ false → c.caller.number ≡ i → is_waiting (b.seen i).word.state ≡ false → takes_from (shows (b.seen t).word.state) c.caller c.zero ≡ false → takes_from (shows v.word.state) c.caller c.zero ≡ false
  busy_stays _ _ (same t) c k z mine idle h = grind arith
  busy_stays _ _ (calls w r p run goes) c k z mine idle h = busy_calls b j i ne w goes c mine idle k z
  busy_stays _ _ (settles v o ver al al2 ns us) c k z mine idle h = grind arith
  busy_stays _ _ (passes t r o op none) c k z mine idle h = grind arith
  busy_stays _ _ (delivers t from o op told) c k z mine idle h = grind arith
  busy_stays _ _ (takes t to o nj st none) c k z mine idle h = grind arith
  busy_stays _ _ (joins t to o nj hr st) c k z mine idle h = grind arith
  busy_stays _ _ (frees_sender t to joined o tb dd st none) c k z mine idle h = grind arith
  busy_stays _ _ (frees_receiver t from o tb dd st none) c k z mine idle h = grind arith
  busy_stays _ _ (kills t o tb nk al) c k z mine idle h = grind arith
  busy_stays _ _ (makes t w p tb d nw rn ver) c k z mine idle h = grind arith
  busy_stays _ _ (leaves wt) c k z mine idle h = grind arith
  busy_stays _ _ (posts t m o op) c k z mine idle h = grind arith

  pub present_stays : (t : ℕ) (v : Seen) → Change b j t v → (id : ThreadId) → b.owner t ≡ Some i → is_present_in (b.seen t).word id ≡ true → is_present_in v.word id ≡ true
  present_stays _ _ (same t) id k h = grind arith
  present_stays _ _ (calls w r p run goes) id k h = grind (arith, goes.version, goes.alive)
  present_stays _ _ (settles v o ver al al2 ns us) id k h = grind arith
  present_stays _ _ (passes t r o op none) id k h = grind arith
  present_stays _ _ (delivers t from o op told) id k h = grind arith
  present_stays _ _ (takes t to o nj st none) id k h = grind arith
  present_stays _ _ (joins t to o nj hr st) id k h = grind arith
  present_stays _ _ (frees_sender t to joined o tb dd st none) id k h = grind arith
  present_stays _ _ (frees_receiver t from o tb dd st none) id k h = grind arith
  present_stays _ _ (kills t o tb nk al) id k h = grind arith
  present_stays _ _ (makes t w p tb d nw rn ver) id k h = grind arith
  present_stays _ _ (leaves wt) id k h = grind arith
  present_stays _ _ (posts t m o op) id k h = grind arith

  pub dead_stays : (t : ℕ) (v : Seen) → Change b j t v → b.table ≡ Some i → is_dead (b.seen t).word ≡ true → v.word ≡ (b.seen t).word
  dead_stays _ _ (same t) k h = grind arith
  dead_stays _ _ (calls w r p run goes) k h = grind arith
  dead_stays _ _ (settles v o ver al al2 ns us) k h = grind arith
  dead_stays _ _ (passes t r o op none) k h = grind arith
  dead_stays _ _ (delivers t from o op told) k h = grind arith
  dead_stays _ _ (takes t to o nj st none) k h = grind arith
  dead_stays _ _ (joins t to o nj hr st) k h = grind arith
  dead_stays _ _ (frees_sender t to joined o tb dd st none) k h = grind arith
  dead_stays _ _ (frees_receiver t from o tb dd st none) k h = grind arith
  dead_stays _ _ (kills t o tb nk al) k h = grind arith
  dead_stays _ _ (makes t w p tb d nw rn ver) k h = grind arith
  dead_stays _ _ (leaves wt) k h = grind arith
  dead_stays _ _ (posts t m o op) k h = grind arith

  pub living_stays : (t : ℕ) (v : Seen) → Change b j t v → (id : ThreadId) → b.table ≡ Some i → is_present_in (b.seen t).word id ≡ true → is_present_in v.word id ≡ true
  living_stays _ _ (same t) id k h = grind arith
  living_stays _ _ (calls w r p run goes) id k h = grind (arith, goes.version, goes.alive)
  living_stays _ _ (settles v o ver al al2 ns us) id k h = grind arith
  living_stays _ _ (passes t r o op none) id k h = grind arith
  living_stays _ _ (delivers t from o op told) id k h = grind arith
  living_stays _ _ (takes t to o nj st none) id k h = grind arith
  living_stays _ _ (joins t to o nj hr st) id k h = grind arith
  living_stays _ _ (frees_sender t to joined o tb dd st none) id k h = grind arith
  living_stays _ _ (frees_receiver t from o tb dd st none) id k h = grind arith
  living_stays _ _ (kills t o tb nk al) id k h = grind arith
  living_stays _ _ (makes t w p tb d nw rn ver) id k h = grind arith
  living_stays _ _ (leaves wt) id k h = grind arith
  living_stays _ _ (posts t m o op) id k h = grind arith

  pub version_held_stays : (t : ℕ) (v : Seen) → Change b j t v → b.table ≡ Some i → v.word.version ≡ (b.seen t).word.version
  version_held_stays _ _ (same t) k = grind arith
  version_held_stays _ _ (calls w r p run goes) k = goes.version
  version_held_stays _ _ (settles v o ver al al2 ns us) k = ver
  version_held_stays _ _ (passes t r o op none) k = grind arith
  version_held_stays _ _ (delivers t from o op told) k = grind arith
  version_held_stays _ _ (takes t to o nj st none) k = grind arith
  version_held_stays _ _ (joins t to o nj hr st) k = grind arith
  version_held_stays _ _ (frees_sender t to joined o tb dd st none) k = grind arith
  version_held_stays _ _ (frees_receiver t from o tb dd st none) k = grind arith
  version_held_stays _ _ (kills t o tb nk al) k = grind arith
  version_held_stays _ _ (makes t w p tb d nw rn ver) k = grind arith
  version_held_stays _ _ (leaves wt) k = grind arith
  version_held_stays _ _ (posts t m o op) k = grind arith

  pub sends_stays : (t : ℕ) (v : Seen) → Change b j t v → (to_ : ThreadId) (e : SenderEntry) → b.owner to_.number ≡ Some i → b.table ≡ Some i → waits_for to_ e (b.seen t).word ≡ true → waits_for to_ e v.word ≡ true
  sends_stays _ _ (same t) to_ e k kt h = grind (arith, nat_tests)
  sends_stays _ _ (calls w r p run goes) to_ e k kt h = grind (arith, nat_tests)
  sends_stays _ _ (settles v o ver al al2 ns us) to_ e k kt h = grind (arith, nat_tests)
  sends_stays _ _ (passes t r o op none) to_ e k kt h = grind (arith, nat_tests)
  sends_stays _ _ (delivers t from o op told) to_ e k kt h = grind (arith, nat_tests)
  sends_stays _ _ (takes t to o nj st none) to_ e k kt h = grind (arith, nat_tests)
  sends_stays _ _ (joins t to o nj hr st) to_ e k kt h = grind (arith, nat_tests)
  sends_stays _ _ (frees_sender t to joined o tb dd st none) to_ e k kt h = grind (arith, nat_tests)
  sends_stays _ _ (frees_receiver t from o tb dd st none) to_ e k kt h = grind (arith, nat_tests)
  sends_stays _ _ (kills t o tb nk al) to_ e k kt h = grind (arith, nat_tests)
  sends_stays _ _ (makes t w p tb d nw rn ver) to_ e k kt h = grind (arith, nat_tests)
  sends_stays _ _ (leaves wt) to_ e k kt h = grind (arith, nat_tests)
  sends_stays _ _ (posts t m o op) to_ e k kt h = grind (arith, nat_tests)

  pub quits_stays : (t : ℕ) (v : Seen) → Change b j t v → (to_ : ThreadId) (e : SenderEntry) → b.owner to_.number ≡ Some i → waits_for to_ e (b.seen t).word ≡ false → waits_for to_ e v.word ≡ false
  quits_stays _ _ (same t) to_ e k h = grind arith
  quits_stays _ _ (calls w r p run goes) to_ e k h = quits_calls b j i ne w goes to_ e k
  quits_stays _ _ (settles v o ver al al2 ns us) to_ e k h = quits_unsent v.word to_ e ns
  quits_stays _ _ (passes t r o op none) to_ e k h = grind arith
  quits_stays _ _ (delivers t from o op told) to_ e k h = quits_unsent (on_in (state.Run (result4.Delivered from)) (b.seen t).word) to_ e refl
  quits_stays _ _ (takes t to o nj st none) to_ e k h = quits_unsent (on_in (state.Run result4.Sent) (b.seen t).word) to_ e refl
  quits_stays _ _ (joins t to o nj hr st) to_ e k h = quits_unsent (in_state (state.Receiving (Some to)) (b.seen t).word) to_ e refl
  quits_stays _ _ (frees_sender t to joined o tb dd st none) to_ e k h = quits_unsent (on_in (state.Run result4.Gone) (b.seen t).word) to_ e refl
  quits_stays _ _ (frees_receiver t from o tb dd st none) to_ e k h = quits_unsent (on_in (state.Run result4.Gone) (b.seen t).word) to_ e refl
  quits_stays _ _ (kills t o tb nk al) to_ e k h = quits_unsent (dead_word (b.seen t).word.version) to_ e refl
  quits_stays _ _ (makes t w p tb d nw rn ver) to_ e k h = quits_run w to_ e rn
  quits_stays _ _ (leaves wt) to_ e k h = grind arith
  quits_stays _ _ (posts t m o op) to_ e k h = grind arith

  pub deaf_stays : (t : ℕ) (v : Seen) → Change b j t v → (id : ThreadId) → b.owner t ≡ Some i → is_dead (b.seen id.number).word ≡ true → is_receiving_from id (b.seen t).word.state ≡ false → is_receiving_from id v.word.state ≡ false
  deaf_stays _ _ (same t) id k dead_ h = grind arith
  deaf_stays _ _ (calls w r p run goes) id k dead_ h = deaf_calls b j i ne w goes id k dead_
  deaf_stays _ _ (settles v o ver al al2 ns us) id k dead_ h = grind arith
  deaf_stays _ _ (passes t r o op none) id k dead_ h = grind arith
  deaf_stays _ _ (delivers t from o op told) id k dead_ h = grind arith
  deaf_stays _ _ (takes t to o nj st none) id k dead_ h = grind arith
  deaf_stays _ _ (joins t to o nj hr st) id k dead_ h = deaf_joins b j to id hr nj dead_
  deaf_stays _ _ (frees_sender t to joined o tb dd st none) id k dead_ h = grind arith
  deaf_stays _ _ (frees_receiver t from o tb dd st none) id k dead_ h = grind arith
  deaf_stays _ _ (kills t o tb nk al) id k dead_ h = grind arith
  deaf_stays _ _ (makes t w p tb d nw rn ver) id k dead_ h = deaf_run w id rn
  deaf_stays _ _ (leaves wt) id k dead_ h = grind arith
  deaf_stays _ _ (posts t m o op) id k dead_ h = grind arith
