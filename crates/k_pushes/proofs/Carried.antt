-- Pushes at the start, over a carrier's turns, and who makes the next step.
use Rattle.std.proofs.Common.{◌≡◌, ℕ, Bool, true, false, refl, sym, ap, ◌∙◌, subst, Option, Some, None, not, [], ◌⊎◌, inl, inr}
use Rattle.std.proofs.lemmas.Bool.Decides.{eqb_tells}
use Rattle.k_ids.specs.declared.threads.ThreadId.{ThreadId}
use Rattle.k_model.specs.Maps.{upd}
use Rattle.k_model.proofs.Maps.{upd_same, upd_other}
use Rattle.k_locks.specs.Asks.{Response}
use Rattle.k_locks.specs.Shown.{is_dead}
use Rattle.k_ipc.specs.ReceiveTable as receive
use Rattle.k_ipc.specs.declared.receive.ReceivePushing.TheVariants as receive_pushing
use Rattle.k_senders.specs.Entries.{sender_of}
use Rattle.k_caller.specs.declared.thread.ThreadLocation.TheVariants as location
use Rattle.k_switch.specs.declared.switch.SwitchCall.{SwitchCall}
use Rattle.k_switch.specs.declared.switch.SwitchLocked.TheVariants as switch_locked
use Rattle.k_switch.specs.Switches.{SwitchAt}
use Rattle.k_switch.specs.Switches as switch
use Rattle.k_caller.specs.Waits.{can_ask}
use Rattle.k_board.specs.Words.{Programs, Seen}
use Rattle.k_caller.specs.declared.thread.ThreadLocation.{ThreadLocation}
use Rattle.k_board.specs.Boards.{At, Alone, InReceive, InSwitch, Resting, Nowhere, Board, Context, hand_of, id_at}
use Rattle.k_board.specs.Boots.{Booted, has_thread, has_none, has_carrier}
use Rattle.k_board.specs.Steps.{placed, switch_board, switch_context, table_owned}
use Rattle.k_board.specs.Turns.{Turn, sends, receives, creates, destroys, goes_alone, begins}
use Rattle.k_board.specs.Turns.{turns_to_work, wakes, switches, begins_switch, ends_switch}
use Rattle.k_good.specs.Ranges.{is_threads}
use Rattle.k_tokens.specs.World.{Absent, Awake, Threads, World}
use Rattle.k_tokens.specs.Good.{Parts, Told, is_coming}
use Rattle.k_tokens.specs.Views.{by_owner}
use Rattle.k_tokens.proofs.Views.{owner_stays}
use Rattle.k_grants.specs.Views.{Look, look_at, looks_of, threads_of}
use Rattle.k_grants.specs.Pushes.{PushSays, PushesHold, board_threads}
use Rattle.k_grants.specs.Granted.{MayTurn}
use Rattle.k_grants.proofs.Says.{says_nothing}
use Rattle.k_grants.proofs.Worlds.{to_world, world_of}
use Rattle.k_pushes.specs.Calm.{IsCalm, IsCarriers}

-- AT THE START

pub pushes_start : (g : Programs) (b : Board) → ((n : ℕ) → Booted g b n) → PushesHold b
pushes_start g b h k = by (h k)
  where
    silent : (p : At) → (b.context k).at ≡ p → (look_at p).push ≡ None → PushSays b.seen (board_threads b) (b.context k).at
    silent p at e = says_nothing b.seen (board_threads b) (b.context k).at (ap (λ (x : At). (look_at x).push) at ∙ e)

    by : Booted g b k → PushSays b.seen (board_threads b) (b.context k).at
    by (has_thread program priority t) = silent (Alone (location.Between None)) (ap (λ (x : Context). x.at) t.context) refl
    by (has_none d e) = silent Nowhere e refl
    by (has_carrier d e) = silent Resting e refl

-- A CARRIER'S TURN

-- Where words stay, and who owns the table lock is about the same, pushes stay.
module _ (b b' : Board) (i : ℕ) (x : Context) (p : At) (at : (b.context i).at ≡ p) (seen : b'.seen ≡ b.seen)
    (table : b'.table ≡ b.table) (context : b'.context ≡ upd b.context i x)
    (victim : (look_at x.at).victim ≡ (look_at p).victim) (listed : (look_at x.at).listed ≡ (look_at p).listed)
    (none : (look_at x.at).push ≡ None) where
  looks_at : ℕ → Look
  looks_at t = look_at (upd b.context i x t).at

  victim_by : by_owner {P = Look} None (λ (l : Look). l.victim) (looks_of b') b'.table ≡
      by_owner {P = Look} None (λ (l : Look). l.victim) (looks_of b) b.table
  victim_by = (λ z. by_owner {P = Look} None (λ (l : Look). l.victim) (λ t. look_at (context z t).at) (table z))
      ∙ owner_stays None (λ (y : Context). (look_at y.at).victim) b.context b.table i x
      (λ z. victim ∙ sym (ap (λ (q : At). (look_at q).victim) at))

  listed_by : by_owner {P = Look} false (λ (l : Look). l.listed) (looks_of b') b'.table ≡
      by_owner {P = Look} false (λ (l : Look). l.listed) (looks_of b) b.table
  listed_by = (λ z. by_owner {P = Look} false (λ (l : Look). l.listed) (λ t. look_at (context z t).at) (table z))
      ∙ owner_stays false (λ (y : Context). (look_at y.at).listed) b.context b.table i x
      (λ z. listed ∙ sym (ap (λ (q : At). (look_at q).listed) at))

  told_moved : (who : ThreadId) (s : Option ℕ) → Told (board_threads b) who s → Told (board_threads b') who s
  told_moved who s d = again (subst (λ (x : Threads). Told x who s) (λ z. record (board_threads b) {
    version = λ t. (sym seen z t).word.version;
    present = λ t. not (is_dead (sym seen z t).word);
    victim = sym victim_by z;
    listed = sym listed_by z;
  }) d)
    where
      again : Told (record (board_threads b) {
        version = (board_threads b').version;
        present = (board_threads b').present;
        victim = (board_threads b').victim;
        listed = (board_threads b').listed;
      }) who s
          → Told (board_threads b') who s
      again d = record { shown = d.shown; absent = d.absent }

  says_moved : (q : At) → PushSays b.seen (board_threads b) q → PushSays b'.seen (board_threads b') q
  says_moved q h = by q (subst (λ (s : ℕ → Seen). PushSays s (board_threads b) q) (sym seen) h)
    where
      by : (q : At) → PushSays b'.seen (board_threads b) q → PushSays b'.seen (board_threads b') q
      by (InReceive c (receive.Pushing (receive_pushing.PushFreed e v))) h = record {
        who = h.who;
        told = told_moved (sender_of e) _ h.told;
      }
      by q h = h

  pushes_moved : PushesHold b → PushesHold b'
  pushes_moved h k = elim (eqb_tells k i) [
    | inl e ↦ says_nothing b'.seen (board_threads b') (b'.context k).at
        (ap (λ (f : ℕ → Context). (look_at (f k).at).push) context ∙ ap (λ (n : ℕ). (look_at (upd b.context i x n).at).push) e.1
        ∙ ap (λ (y : Context). (look_at y.at).push) (upd_same b.context i x) ∙ none)
    | inr e ↦
        subst (λ (y : Context). PushSays b'.seen (board_threads b') y.at)
        (sym (ap (λ (f : ℕ → Context). f k) context ∙ upd_other b.context i x k e.1)) (says_moved (b.context k).at (h k))
  ]

switch_owns : (o : Option ℕ) (i : ℕ) (c : SwitchCall) (p : SwitchAt) (r : Response) → table_owned o i (switch.ask_of c p) r ≡ o
switch_owns o i c switch.AcquireReady r = refl
switch_owns o i c (switch.Locked (switch_locked.LoadGoal goal)) r = refl
switch_owns o i c (switch.Locked (switch_locked.LoadStart back number)) r = refl
switch_owns o i c (switch.Locked (switch_locked.ReleaseReady back started)) r = refl
switch_owns o i c (switch.Returned s) r = refl
switch_owns o i c (switch.Finished s) r = refl

not_carriers : (b : Board) (i : ℕ) (p : At) → (b.context i).at ≡ p → is_threads p ≡ true → (p ≡ Alone location.Asleep → ⊥) →
    IsCarriers (b.context i).at → ⊥
not_carriers b i p at th awake (inl e) = awake (sym at ∙ e)
not_carriers b i p at th awake (inr e) = true_not (sym (ap is_threads at ∙ th) ∙ e)
  where
    true_not : true ≡ false → ⊥
    true_not z = cc

pub carriers_keep : (g : Programs) (b : Board) (i : ℕ) (b' : Board) → PushesHold b → IsCarriers (b.context i).at → Turn g b i b' →
    PushesHold b'
carriers_keep g b i _ h n (sends c p r at an) = absurd (not_carriers b i _ at refl (λ e. cc) n)
carriers_keep g b i _ h n (receives c p r at an) = absurd (not_carriers b i _ at refl (λ e. cc) n)
carriers_keep g b i _ h n (creates c p r at an) = absurd (not_carriers b i _ at refl (λ e. cc) n)
carriers_keep g b i _ h n (destroys c p r at an) = absurd (not_carriers b i _ at refl (λ e. cc) n)
carriers_keep g b i _ h n (goes_alone p r at can an) = absurd (not_carriers b i _ at refl (λ e. asleep p can (located e)) n)
  where
    asleep : (p : ThreadLocation) → can_ask p ≡ true → p ≡ location.Asleep → ⊥
    asleep p can e = true_not (sym can ∙ ap can_ask e)
      where
        true_not : true ≡ false → ⊥
        true_not z = cc

    located : {p q : ThreadLocation} → Alone p ≡ Alone q → p ≡ q
    located e = cc
carriers_keep g b i _ h n (begins l f at e) = absurd (not_carriers b i _ at refl (λ e. cc) n)
carriers_keep g b i _ h n (turns_to_work l count at e) = absurd (not_carriers b i _ at refl (λ e. cc) n)
carriers_keep g b i _ h n (wakes at) =
    pushes_moved b (placed b i (record (b.context i) { at = Alone location.LookAgain })) i
    (record (b.context i) { at = Alone location.LookAgain }) (Alone location.Asleep) at refl refl refl refl refl refl h
carriers_keep g b i _ h n (switches c p r at going an) =
    pushes_moved b (switch_board b i (b.context i) c p r) i (switch_context (b.context i) c p r (hand_of b []))
    (InSwitch c p) at refl (switch_owns b.table i c p r) refl refl refl refl h
carriers_keep g b i _ h n (begins_switch c at) =
    pushes_moved b (placed b i (record (b.context i) { at = InSwitch c switch.AcquireReady })) i
    (record (b.context i) { at = InSwitch c switch.AcquireReady }) Resting at refl refl refl refl refl refl h
carriers_keep g b i _ h n (ends_switch c q at) =
    pushes_moved b (placed b i (record (b.context i) { at = Resting })) i (record (b.context i) { at = Resting })
    (InSwitch c (switch.Finished q)) at refl refl refl refl refl refl h

-- WHO MAKES THE NEXT STEP

module _ (g : Programs) (b : Board) (w : World) (c i : ℕ) (m : MayTurn g b w c i) where
  parts : Parts (world_of w b) m.holder
  parts = to_world (λ (u : World). Parts u m.holder) w b m.agrees m.parts

  awake : (looks_of b i).condition ≡ Awake
  awake = to_world (λ (u : World). u.threads.condition i ≡ Awake) w b m.agrees m.run.awake

  own_version : (d : Bool) → not (is_dead (b.seen i).word) ≡ d →
      (threads_of w.threads.priority b).made i ≡ (b.seen i).word.version
  own_version true e = (parts.threads.here i e).1
  own_version false e = by (parts.threads.stays i e (λ a. awake_not (sym awake ∙ a)))
    where
      awake_not : Awake ≡ Absent → ⊥
      awake_not z = cc

      by : ((threads_of w.threads.priority b).victim ≡ Some (id_at b i)) ⊎ ((threads_of w.threads.priority b).making ≡ Some i) →
          (threads_of w.threads.priority b).made i ≡ (b.seen i).word.version
      by (inl v) = (parts.threads.victim (id_at b i) v).3
      by (inr v) = absurd (to_world (λ (u : World). u.threads.making ≡ Some i → ⊥) w b m.agrees m.run.old v)

  pub calm_is : IsCalm b i
  calm_is k e = false_not (sym calm ∙ ap is_coming (parts.tokens.push k (id_at b i) e))
    where
      false_not : false ≡ true → ⊥
      false_not z = cc

      calm : is_coming (m.holder (id_at b i)) ≡ false
      calm =
          ap (λ (n : ℕ). is_coming (m.holder (record { number = i; version = n })))
          (sym (own_version (not (is_dead (b.seen i).word)) refl))
          ∙ to_world (λ (u : World). is_coming (m.holder (record { number = i; version = u.threads.made i })) ≡
          false) w b m.agrees m.run.calm
