-- A send: what its step comes to is what the board has of it.
use Rattle.std.proofs.Common.{◌≡◌, ℕ, true, false, refl, sym, ap, Some, None, [], ◌∷◌, ◌++◌}
use Rattle.std.specs.Prelude.{not}
use Rattle.k_ids.specs.declared.calls.Outcome.TheVariants as outcome
use Rattle.k_ids.specs.declared.state_word.StateWord.{StateWord}
use Rattle.k_locks.specs.declared.goods.Goods.TheVariants as goods
use Rattle.k_locks.specs.declared.locks.Lock.{Lock}
use Rattle.k_locks.specs.declared.locks.Lock.TheVariants as lock
use Rattle.k_locks.specs.Asks.{Response, hand_asked}
use Rattle.k_locks.specs.Asks as asks
use Rattle.k_locks.specs.Hands.{Hand, trimmed}
use Rattle.k_locks.specs.Locks.{Holds}
use Rattle.k_locks.specs.Shown.{found_in, is_dead, is_present_in, shows}
use Rattle.k_locks.specs.Tables.{hand_came}
use Rattle.k_model.specs.Maps.{upd}
use Rattle.k_model.specs.State.{takes_from}
use Rattle.k_model.proofs.Maps.{upd_same, upd_other}
use Rattle.k_senders.specs.declared.entries.SenderEntry.{SenderEntry}
use Rattle.k_senders.specs.Entries.{entry_for}
use Rattle.k_ipc.specs.declared.send.Manner.{Manner}
use Rattle.k_ipc.specs.declared.send.Manner.TheVariants as manner
use Rattle.k_ipc.specs.declared.send.SendCall.{SendCall}
use Rattle.k_ipc.specs.declared.send.SendOutside.TheVariants as outside
use Rattle.k_ipc.specs.declared.send.SendLocked.TheVariants as locked
use Rattle.k_ipc.specs.declared.send.SendPushing.TheVariants as pushing
use Rattle.k_ipc.specs.declared.send.SendRelease.TheVariants as release
use Rattle.k_ipc.specs.declared.send.SendSection.{SendSection}
use Rattle.k_ipc.specs.Words.{alive_or_dead}
use Rattle.k_ipc.specs.SendTable.{SendAt, Outside, Locked, Pushing, ask_of, hand_after, is_open, leads, location_with, locks_of}
use Rattle.k_ipc.specs.SendTable.{own_of, passed_end, passed_word, point_of, points, pushed_at, refusal_of, went_at}
use Rattle.k_caller.specs.declared.activity.Activity.{Activity}
use Rattle.k_caller.specs.declared.activity.Activity.TheVariants as activity
use Rattle.k_caller.specs.Activities.{after_went}
use Rattle.k_board.specs.Words.{Programs}
use Rattle.k_board.specs.Boards.{Board, Context, hand_of}
use Rattle.k_board.specs.Steps.{Answers, send_at, send_board}
use Rattle.k_places.specs.Contexts.{goods_on}
use Rattle.k_places.proofs.Goes.{FitsPoint, Goes, IsEnd, KeepsVersion, end_if, ended_at}
use Rattle.k_places.proofs.Goes.{ended_hand, ended_own, fits_if, goods_asked}

passed_version : (m : Manner) (c : SendCall) (own : StateWord) →
    KeepsVersion (asks.Exchange c.caller.number own (passed_word m c.to own))
passed_version manner.Plain c own = refl
passed_version manner.Joined c own = refl
passed_version manner.Reply c own = refl

passed_ends : (m : Manner) → IsEnd (passed_end m)
passed_ends manner.Plain = tt
passed_ends manner.Joined = tt
passed_ends manner.Reply = tt

module _ (g : Programs) (b : Board) (i : ℕ) (x : Context) (c : SendCall) (caller : StateWord) (d : ℕ) where
  -- what the board has of what it may have in hand, what is in hand once it was asked for the step, and what comes then
  abbrev On : Hand
  On = hand_of b (b.queue c.to.number)

  abbrev Left : SendAt → Hand
  Left p = hand_asked (ask_of c x.own p) (trimmed (locks_of c p) On)

  abbrev Came : SendAt → Response → Hand
  Came p r = hand_came r (goods_asked (ask_of c x.own p) b) (hand_after c (Left p) p r)

  abbrev Section : SendAt → Response → SendSection
  Section p r = record {
    call = c;
    own = own_of c x.own p r;
    location = location_with (Came p r) (leads c (Left p) p r);
    done = d;
  }

  abbrev Doing : SendAt → Response → Activity
  Doing p r =
      after_went c.caller (own_of c x.own p r) (activity.Send (Section p r)) (went_at (pushed_at p) (leads c (Left p) p r))

  abbrev SendGoes : SendAt → Response → Type 0
  SendGoes p r =
      Goes b (send_board g b i x c p r) (ask_of c x.own p) (locks_of c p) (Doing p r) (own_of c x.own p r)
      (send_at c (leads c On p r)) (own_of c x.own p r) (hand_after c (trimmed (locks_of c p) On) p asks.Released)
      (points c caller (Left p) p r) (points c caller On p r) (KeepsVersion (ask_of c x.own p))

  refusal_fits : (w : StateWord) → FitsPoint (refusal_of c w)
  refusal_fits w =
      fits_if (not (is_present_in w c.to)) (Some (point_of c (outcome.Absent (found_in c.to.number w)))) _ tt
      (fits_if (takes_from (shows w.state) c.caller c.zero) None _ tt
      (fits_if c.zero (Some (point_of c (outcome.Busy (found_in c.to.number w)))) None tt tt))

  -- no other queue than the receiver's changes
  queued : (e : SenderEntry) (l : Lock) → (Holds l (locks_of c (Locked (locked.Release release.Queued))) → ⊥) →
      goods_on (record b { queue = upd b.queue c.to.number (b.queue c.to.number ++ e ∷ []) }) l ≡ goods_on b l
  queued e (lock.Thread k) n =
      ap (λ es. goods.Senders (record { entries = es; room = b.size }))
      (upd_other b.queue c.to.number _ k (λ q. n (ap (λ z. Some (Some (lock.Thread z))) (sym q))))
  queued e lock.Table n = refl
  queued e lock.Ready n = refl

  only_ready : (l : Lock) (p : _) → (Holds l (locks_of c (Pushing p)) → ⊥) →
      goods_on (send_board g b i x c (Pushing p) asks.Released) l ≡ goods_on b l
  only_ready (lock.Thread k) (pushing.PushReceiver priority) n = refl
  only_ready lock.Table (pushing.PushReceiver priority) n = refl
  only_ready lock.Ready (pushing.PushReceiver priority) n = absurd (n refl)

  pub send_goes : (p : SendAt) (r : Response) → is_open p ≡ true → Answers b (ask_of c x.own p) r → asks.is_again r ≡ false →
      SendGoes p r
  send_goes (Outside outside.LoadCaller) (asks.Word w) op an na = let k = end_if (is_dead w) _ _ tt tt in record {
    at = ended_at c.caller x.own _ (alive_or_dead w _) k;
    own_word = ended_own c.caller x.own _ (alive_or_dead w _) k;
    hand = ended_hand b c.caller x.own _ (alive_or_dead w _) k;
    others = λ l n. refl;
    returned = tt;
    point = refl;
    fits = fits_if (is_dead w) None (Some (point_of c outcome.Own)) tt tt;
    version = tt;
  }
  send_goes (Outside outside.AcquireReceiver) asks.Got op an na = record {
    at = refl;
    own_word = refl;
    hand = refl;
    others = λ l n. refl;
    returned = tt;
    point = refl;
    fits = tt;
    version = tt;
  }
  send_goes (Locked locked.LoadReceiver) (asks.Word w) op an na = record {
    at = refl;
    own_word = refl;
    hand = refl;
    others = λ l n. refl;
    returned = tt;
    point = refl;
    fits = fits_if (is_dead caller) None (refusal_of c w) tt (refusal_fits w);
    version = tt;
  }
  send_goes (Locked (locked.StoreMail w)) asks.Stored op an na = record {
    at = refl;
    own_word = refl;
    hand = refl;
    others = λ l n. refl;
    returned = tt;
    point = refl;
    fits = tt;
    version = tt;
  }
  send_goes (Locked (locked.CommitPass w)) asks.Won op an na = record {
    at = refl;
    own_word = refl;
    hand = refl;
    others = λ l n. refl;
    returned = tt;
    point = refl;
    fits = tt;
    version = passed_version c.manner c x.own;
  }
  send_goes (Locked (locked.CommitPass w)) (asks.Lost v) op an na = record {
    at = refl;
    own_word = refl;
    hand = refl;
    others = λ l n. refl;
    returned = tt;
    point = refl;
    fits = tt;
    version = passed_version c.manner c x.own;
  }
  send_goes (Locked (locked.WakeReceiver w)) asks.Won op an na = record {
    at = refl;
    own_word = refl;
    hand = refl;
    others = λ l n. refl;
    returned = tt;
    point = refl;
    fits = tt;
    version = refl;
  }
  send_goes (Locked (locked.WakeReceiver w)) (asks.Lost v) op an na = record {
    at = refl;
    own_word = refl;
    hand = refl;
    others = λ l n. refl;
    returned = tt;
    point = refl;
    fits = tt;
    version = refl;
  }
  send_goes (Locked locked.ReloadReceiver) (asks.Word w) op an na = record {
    at = refl;
    own_word = refl;
    hand = refl;
    others = λ l n. refl;
    returned = tt;
    point = refl;
    fits = tt;
    version = tt;
  }
  send_goes (Locked (locked.AcquireReady priority)) asks.Got op an na = record {
    at = refl;
    own_word = refl;
    hand = refl;
    others = λ l n. refl;
    returned = tt;
    point = refl;
    fits = tt;
    version = tt;
  }
  send_goes (Pushing (pushing.PushReceiver priority)) asks.Released op an na = record {
    at = refl;
    own_word = refl;
    hand = refl;
    others = λ l n. only_ready l (pushing.PushReceiver priority) n;
    returned = refl;
    point = refl;
    fits = tt;
    version = tt;
  }
  send_goes (Locked (locked.Release release.Passed)) asks.Released op an na = let k = passed_ends c.manner in record {
    at = ended_at c.caller x.own _ (passed_end c.manner) k;
    own_word = ended_own c.caller x.own _ (passed_end c.manner) k;
    hand = ended_hand b c.caller x.own _ (passed_end c.manner) k;
    others = λ l n. refl;
    returned = refl;
    point = refl;
    fits = tt;
    version = tt;
  }
  send_goes (Locked (locked.Release release.Dead)) asks.Released op an na = record {
    at = refl;
    own_word = refl;
    hand = refl;
    others = λ l n. refl;
    returned = refl;
    point = refl;
    fits = tt;
    version = tt;
  }
  send_goes (Locked (locked.Release (release.Refused q))) asks.Released op an na = record {
    at = refl;
    own_word = refl;
    hand = refl;
    others = λ l n. refl;
    returned = refl;
    point = refl;
    fits = tt;
    version = tt;
  }
  send_goes (Outside (outside.CheckCaller q)) (asks.Word w) op an na = let k = end_if (is_dead w) _ _ tt tt in record {
    at = ended_at c.caller x.own _ (alive_or_dead w q) k;
    own_word = ended_own c.caller x.own _ (alive_or_dead w q) k;
    hand = ended_hand b c.caller x.own _ (alive_or_dead w q) k;
    others = λ l n. refl;
    returned = tt;
    point = refl;
    fits = tt;
    version = tt;
  }
  send_goes (Locked locked.CommitWait) asks.Won op an na = record {
    at = refl;
    own_word = refl;
    hand = refl;
    others = λ l n. refl;
    returned = tt;
    point = refl;
    fits = tt;
    version = refl;
  }
  send_goes (Locked locked.CommitWait) (asks.Lost v) op an na = record {
    at = refl;
    own_word = refl;
    hand = refl;
    others = λ l n. refl;
    returned = tt;
    point = refl;
    fits = tt;
    version = refl;
  }
  send_goes (Locked (locked.Release release.Queued)) asks.Released op an na = record {
    at = refl;
    own_word = refl;
    hand = refl;
    others = queued (entry_for c.caller c.message);
    returned = ap (λ es. goods.Senders (record { entries = es; room = b.size })) (sym (upd_same b.queue c.to.number _));
    point = refl;
    fits = tt;
    version = tt;
  }
  send_goes (Outside outside.AcquireReceiver) (asks.Owned o) op an na = absurd cc
  send_goes (Locked (locked.AcquireReady priority)) (asks.Owned o) op an na = absurd cc
  send_goes (Outside (outside.Ended w)) r op an na = absurd cc
  send_goes p r op an na = absurd an
