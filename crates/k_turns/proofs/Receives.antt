-- A receive, and a pick: what its step comes to is what the board has of it.
use Rattle.std.proofs.Common.{◌≡◌, ℕ, Bool, true, false, refl, sym, ap, Option, Some, None}
use Rattle.std.specs.Prelude.{if◌then◌else◌}
use Rattle.k_ids.specs.declared.calls.Act.TheVariants as act
use Rattle.k_ids.specs.declared.calls.Outcome.TheVariants as outcome
use Rattle.k_ids.specs.declared.state_word.StateWord.{StateWord}
use Rattle.k_ids.specs.declared.threads.ThreadId.{ThreadId}
use Rattle.k_locks.specs.declared.goods.Goods.TheVariants as goods
use Rattle.k_locks.specs.declared.locks.Lock.{Lock}
use Rattle.k_locks.specs.declared.locks.Lock.TheVariants as lock
use Rattle.k_locks.specs.Asks.{Response, hand_asked}
use Rattle.k_locks.specs.Asks as asks
use Rattle.k_locks.specs.Hands.{Hand, trimmed}
use Rattle.k_locks.specs.Locks.{Holds}
use Rattle.k_locks.specs.Shown.{is_dead, is_present_in}
use Rattle.k_locks.specs.Tables.{hand_came}
use Rattle.k_model.proofs.Maps.{upd_same, upd_other}
use Rattle.k_senders.specs.declared.entries.SenderEntry.{SenderEntry}
use Rattle.k_senders.specs.Entries.{number_of}
use Rattle.k_ipc.specs.declared.receive.ReceiveCall.{ReceiveCall}
use Rattle.k_ipc.specs.declared.receive.ReceiveOutside.TheVariants as outside
use Rattle.k_ipc.specs.declared.receive.ReceiveLocked.{ReceiveLocked}
use Rattle.k_ipc.specs.declared.receive.ReceiveLocked.TheVariants as locked
use Rattle.k_ipc.specs.declared.receive.ReceivePushing.TheVariants as pushing
use Rattle.k_ipc.specs.declared.receive.ReceiveRelease.TheVariants as returns
use Rattle.k_ipc.specs.declared.receive.ReceiveSection.{ReceiveSection}
use Rattle.k_ipc.specs.Candidates.{first_admitted}
use Rattle.k_ipc.specs.Words.{alive_or_dead, freed, is_joined_to}
use Rattle.k_ipc.specs.ReceiveTable.{ReceiveAt, Outside, Locked, Pushing, act_of, ask_of, candidates_after}
use Rattle.k_ipc.specs.ReceiveTable.{hand_after, is_open, is_pushed, leads, location_with, locks_of}
use Rattle.k_ipc.specs.ReceiveTable.{nobody_left, own_of, point_by, points, pushed_at, still_waits, went_at}
use Rattle.k_caller.specs.declared.activity.Activity.{Activity}
use Rattle.k_caller.specs.declared.activity.Activity.TheVariants as activity
use Rattle.k_caller.specs.Activities.{after_went, section_own}
use Rattle.k_board.specs.Words.{Programs}
use Rattle.k_board.specs.Boards.{Board, Context, hand_of}
use Rattle.k_board.specs.Steps.{Answers, receive_at, receive_board}
use Rattle.k_places.specs.Contexts.{at_in, goods_on, hand_in}
use Rattle.k_places.proofs.Goes.{FitsPoint, Goes, KeepsVersion, end_if, ended_at, ended_hand, ended_own, fits_if, goods_asked}

freed_version : (me : ThreadId) (n : ℕ) (w : StateWord) → KeepsVersion (asks.Exchange n w (freed me w))
freed_version me n w = by (is_joined_to w.state) refl
  where
    by : (t : Bool) → is_joined_to w.state ≡ t → (freed me w).version ≡ w.version
    by true e = rw e refl
    by false e = rw e refl

-- a push is told, and leads on
pushed_on : (me : ThreadId) (own : StateWord) (s : Activity) (t : Bool) (priority : ℕ) (p : ReceiveLocked) →
    after_went me own s (went_at (if t then Some priority else None) (Locked p)) ≡ s
pushed_on me own s true priority p = refl
pushed_on me own s false priority p = refl

module _ (g : Programs) (b : Board) (x : Context) (c : ReceiveCall) (caller : StateWord) (d : ℕ) where
  -- what the board has of what it may have in hand, what is in hand once it was asked for the step, and what comes then
  abbrev On : Hand
  On = hand_of b (b.queue c.caller.number)

  abbrev Left : ReceiveAt → Hand
  Left p = hand_asked (ask_of c x.own p) (trimmed (locks_of c p) On)

  abbrev Came : ReceiveAt → Response → Hand
  Came p r = hand_came r (goods_asked (ask_of c x.own p) b) (hand_after c (Left p) p r)

  abbrev Section : ReceiveAt → Response → ReceiveSection
  Section p r = record {
    call = c;
    own = own_of c x.own p r;
    location = location_with (Came p r) (leads c (Left p) p r);
    done = d;
  }

  abbrev Doing : ReceiveAt → Response → Activity
  Doing p r =
      after_went c.caller (own_of c x.own p r) (activity.Receive (Section p r)) (went_at (pushed_at p) (leads c (Left p) p r))

  abbrev After : ReceiveAt → Response → Board
  After p r = receive_board g b c.caller.number x c p r

  abbrev ReceiveGoes : ReceiveAt → Response → Type 0
  ReceiveGoes p r =
      Goes b (After p r) (ask_of c x.own p) (locks_of c p) (Doing p r) (own_of c x.own p r) (receive_at c (leads c On p r))
      (own_of c x.own p r) (hand_after c (trimmed (locks_of c p) On) p asks.Released) (points c caller (Left p) p r)
      (points c caller On p r) (KeepsVersion (ask_of c x.own p))

  nobody_fits : (o : Option SenderEntry) → FitsPoint (nobody_left c o)
  nobody_fits (Some e) = tt
  nobody_fits None = fits_if c.zero (Some (point_by c (act_of c) outcome.Nobody)) None tt tt

  -- no other queue than the caller's changes
  taken : (e : SenderEntry) (l : Lock) → (Holds l (locks_of c (Locked (locked.Release (returns.Taken e)))) → ⊥) →
      goods_on (After (Locked (locked.Release (returns.Taken e))) asks.Released) l ≡ goods_on b l
  taken e (lock.Thread k) n =
      ap (λ es. goods.Senders (record { entries = es; room = b.size }))
      (upd_other b.queue c.caller.number _ k (λ q. n (ap (λ z. Some (Some (lock.Thread z))) (sym q))))
  taken e lock.Table n = refl
  taken e lock.Ready n = refl

  only_ready : (e : SenderEntry) (w : StateWord) (l : Lock) → (Holds l (locks_of c (Pushing (pushing.PushFreed e w))) → ⊥) →
      goods_on (After (Pushing (pushing.PushFreed e w)) asks.Released) l ≡ goods_on b l
  only_ready e w (lock.Thread k) n = refl
  only_ready e w lock.Table n = refl
  only_ready e w lock.Ready n = absurd (n refl)

  pub receive_goes : (p : ReceiveAt) (r : Response) → is_open p ≡ true → Answers b (ask_of c x.own p) r →
      asks.is_again r ≡ false → ReceiveGoes p r
  receive_goes (Outside outside.LoadCaller) (asks.Word w) op an na = let k = end_if (is_dead w) _ _ tt tt in record {
    at = ended_at c.caller x.own _ (alive_or_dead w _) k;
    own_word = ended_own c.caller x.own _ (alive_or_dead w _) k;
    hand = ended_hand b c.caller x.own _ (alive_or_dead w _) k;
    others = λ l n. refl;
    returned = tt;
    point = refl;
    fits = fits_if (is_dead w) None (Some (point_by c (act_of c) outcome.Own)) tt tt;
    version = tt;
  }
  receive_goes (Outside outside.AcquireOwn) asks.Got op an na = record {
    at = refl;
    own_word = refl;
    hand = refl;
    others = λ l n. refl;
    returned = tt;
    point = refl;
    fits = tt;
    version = tt;
  }
  receive_goes (Locked locked.LoadOwn) (asks.Word w) op an na = record {
    at = refl;
    own_word = refl;
    hand = refl;
    others = λ l n. refl;
    returned = tt;
    point = refl;
    fits =
        fits_if (is_dead w) None (nobody_left c (first_admitted c.from On.queue.entries)) tt
        (nobody_fits (first_admitted c.from On.queue.entries));
    version = tt;
  }
  receive_goes (Locked (locked.LoadSender e)) (asks.Word w) op an na = record {
    at = refl;
    own_word = refl;
    hand = refl;
    others = λ l n. refl;
    returned = tt;
    point = refl;
    fits = fits_if (still_waits c e w) None (nobody_left c (candidates_after c On e)) tt (nobody_fits (candidates_after c On e));
    version = tt;
  }
  receive_goes (Locked (locked.FreeSender e w)) asks.Won op an na = record {
    at = refl;
    own_word = refl;
    hand = refl;
    others = λ l n. refl;
    returned = tt;
    point = refl;
    fits = tt;
    version = freed_version c.caller (number_of e) w;
  }
  receive_goes (Locked (locked.FreeSender e w)) (asks.Lost v) op an na = record {
    at = refl;
    own_word = refl;
    hand = refl;
    others = λ l n. refl;
    returned = tt;
    point = refl;
    fits = tt;
    version = freed_version c.caller (number_of e) w;
  }
  receive_goes (Locked (locked.AcquireReady e)) asks.Got op an na = record {
    at = refl;
    own_word = refl;
    hand = refl;
    others = λ l n. refl;
    returned = tt;
    point = refl;
    fits = tt;
    version = tt;
  }
  receive_goes (Pushing (pushing.LoadFreed e)) (asks.Word w) op an na = record {
    at = refl;
    own_word = refl;
    hand = refl;
    others = λ l n. refl;
    returned = tt;
    point = refl;
    fits = tt;
    version = tt;
  }
  receive_goes (Pushing (pushing.PushFreed e w)) asks.Released op an na = record {
    at = ap at_in (pushed_on c.caller x.own _ (is_pushed e w) w.priority (locked.Release (returns.Taken e)));
    own_word = ap (section_own x.own) (pushed_on c.caller x.own _ (is_pushed e w) w.priority (locked.Release (returns.Taken e)));
    hand = ap hand_in (pushed_on c.caller x.own _ (is_pushed e w) w.priority (locked.Release (returns.Taken e)));
    others = only_ready e w;
    returned = refl;
    point = refl;
    fits = tt;
    version = tt;
  }
  receive_goes (Locked locked.CommitWait) asks.Won op an na = record {
    at = refl;
    own_word = refl;
    hand = refl;
    others = λ l n. refl;
    returned = tt;
    point = refl;
    fits = tt;
    version = refl;
  }
  receive_goes (Locked locked.CommitWait) (asks.Lost v) op an na = record {
    at = refl;
    own_word = refl;
    hand = refl;
    others = λ l n. refl;
    returned = tt;
    point = refl;
    fits = tt;
    version = refl;
  }
  receive_goes (Locked (locked.CommitGone from)) asks.Won op an na = record {
    at = refl;
    own_word = refl;
    hand = refl;
    others = λ l n. refl;
    returned = tt;
    point = refl;
    fits = tt;
    version = refl;
  }
  receive_goes (Locked (locked.CommitGone from)) (asks.Lost v) op an na = record {
    at = refl;
    own_word = refl;
    hand = refl;
    others = λ l n. refl;
    returned = tt;
    point = refl;
    fits = tt;
    version = refl;
  }
  receive_goes (Locked (locked.LoadPartner from)) (asks.Word w) op an na = record {
    at = refl;
    own_word = refl;
    hand = refl;
    others = λ l n. refl;
    returned = tt;
    point = refl;
    fits = fits_if (is_present_in w from) None (Some (point_by c act.Gone outcome.Freed)) tt tt;
    version = tt;
  }
  receive_goes (Locked locked.LoadPicking) (asks.Word w) op an na = record {
    at = refl;
    own_word = refl;
    hand = refl;
    others = λ l n. refl;
    returned = tt;
    point = refl;
    fits = tt;
    version = tt;
  }
  receive_goes (Locked (locked.LoadNext e)) (asks.Word w) op an na = record {
    at = refl;
    own_word = refl;
    hand = refl;
    others = λ l n. refl;
    returned = tt;
    point = refl;
    fits = tt;
    version = tt;
  }
  receive_goes (Locked (locked.FreeNext e w)) asks.Won op an na = record {
    at = refl;
    own_word = refl;
    hand = refl;
    others = λ l n. refl;
    returned = tt;
    point = refl;
    fits = tt;
    version = freed_version c.caller (number_of e) w;
  }
  receive_goes (Locked (locked.FreeNext e w)) (asks.Lost v) op an na = record {
    at = refl;
    own_word = refl;
    hand = refl;
    others = λ l n. refl;
    returned = tt;
    point = refl;
    fits = tt;
    version = freed_version c.caller (number_of e) w;
  }
  receive_goes (Locked (locked.EndPick e w)) asks.Won op an na = record {
    at = refl;
    own_word = refl;
    hand = refl;
    others = λ l n. refl;
    returned = tt;
    point = refl;
    fits = tt;
    version = refl;
  }
  receive_goes (Locked (locked.EndPick e w)) (asks.Lost v) op an na = record {
    at = refl;
    own_word = refl;
    hand = refl;
    others = λ l n. refl;
    returned = tt;
    point = refl;
    fits = tt;
    version = refl;
  }
  receive_goes (Locked locked.SettlePick) asks.Won op an na = record {
    at = refl;
    own_word = refl;
    hand = refl;
    others = λ l n. refl;
    returned = tt;
    point = refl;
    fits = tt;
    version = refl;
  }
  receive_goes (Locked locked.SettlePick) (asks.Lost v) op an na = record {
    at = refl;
    own_word = refl;
    hand = refl;
    others = λ l n. refl;
    returned = tt;
    point = refl;
    fits = tt;
    version = refl;
  }
  receive_goes (Locked (locked.Release returns.Waits)) asks.Released op an na = record {
    at = refl;
    own_word = refl;
    hand = refl;
    others = λ l n. refl;
    returned = refl;
    point = refl;
    fits = tt;
    version = tt;
  }
  receive_goes (Locked (locked.Release returns.Delivered)) asks.Released op an na = record {
    at = refl;
    own_word = refl;
    hand = refl;
    others = λ l n. refl;
    returned = refl;
    point = refl;
    fits = tt;
    version = tt;
  }
  receive_goes (Locked (locked.Release returns.Gone)) asks.Released op an na = record {
    at = refl;
    own_word = refl;
    hand = refl;
    others = λ l n. refl;
    returned = refl;
    point = refl;
    fits = tt;
    version = tt;
  }
  receive_goes (Locked (locked.Release returns.Nobody)) asks.Released op an na = record {
    at = refl;
    own_word = refl;
    hand = refl;
    others = λ l n. refl;
    returned = refl;
    point = refl;
    fits = tt;
    version = tt;
  }
  receive_goes (Locked (locked.Release returns.Dead)) asks.Released op an na = record {
    at = refl;
    own_word = refl;
    hand = refl;
    others = λ l n. refl;
    returned = refl;
    point = refl;
    fits = tt;
    version = tt;
  }
  receive_goes (Locked (locked.Release (returns.Taken e))) asks.Released op an na = record {
    at = refl;
    own_word = refl;
    hand = refl;
    others = taken e;
    returned = ap (λ es. goods.Senders (record { entries = es; room = b.size })) (sym (upd_same b.queue c.caller.number _));
    point = refl;
    fits = tt;
    version = tt;
  }
  receive_goes (Outside outside.AcquireOwn) (asks.Owned o) op an na = absurd cc
  receive_goes (Locked (locked.AcquireReady e)) (asks.Owned o) op an na = absurd cc
  receive_goes (Outside (outside.Ended w)) r op an na = absurd cc
  receive_goes p r op an na = absurd an
