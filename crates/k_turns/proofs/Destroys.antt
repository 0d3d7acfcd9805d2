-- A destroy: what its step comes to is what the board has of it.
use Rattle.std.proofs.Common.{◌≡◌, ◌≢◌, ℕ, Bool, true, false, refl, sym, ap, Some, None, List}
use Rattle.k_ids.specs.declared.calls.Outcome.TheVariants as outcome
use Rattle.k_ids.specs.declared.state_word.State.{State}
use Rattle.k_ids.specs.declared.state_word.StateWord.{StateWord}
use Rattle.k_locks.specs.declared.goods.Goods.TheVariants as goods
use Rattle.k_locks.specs.declared.locks.Lock.{Lock}
use Rattle.k_locks.specs.declared.locks.Lock.TheVariants as lock
use Rattle.k_locks.specs.Asks.{Response, hand_asked}
use Rattle.k_locks.specs.Asks as asks
use Rattle.k_locks.specs.Hands.{Hand, no_lists, trimmed}
use Rattle.k_locks.specs.Locks.{Holds}
use Rattle.k_locks.specs.Shown.{found_in, is_dead, is_present_in}
use Rattle.k_locks.specs.Tables.{hand_came}
use Rattle.k_model.specs.Maps.{upd}
use Rattle.k_model.proofs.Maps.{upd_same, upd_other}
use Rattle.k_senders.specs.declared.entries.SenderEntry.{SenderEntry}
use Rattle.k_threads.specs.declared.destroy.DestroyCall.{DestroyCall}
use Rattle.k_threads.specs.declared.destroy.DestroyOutside.TheVariants as outside
use Rattle.k_threads.specs.declared.destroy.DestroyLocked.TheVariants as locked
use Rattle.k_threads.specs.declared.destroy.DestroyRelease.TheVariants as release
use Rattle.k_threads.specs.declared.destroy.DestroyVictim.TheVariants as victim
use Rattle.k_threads.specs.declared.destroy.DestroyVisit.TheVariants as visit
use Rattle.k_threads.specs.declared.destroy.DestroyPushing.TheVariants as pushing
use Rattle.k_threads.specs.declared.destroy.DestroySection.{DestroySection}
use Rattle.k_threads.specs.DestroyTable.{DestroyAt, Outside, Locked, Victim, Visit, UnlistVictim, Pushing}
use Rattle.k_threads.specs.DestroyTable.{alive_or_dead, ask_of, hand_after, is_open, leads, location_with}
use Rattle.k_threads.specs.DestroyTable.{locks_of, own_of, point_of, points, pushed_at, went_at}
use Rattle.k_threads.specs.Words.{is_receiving_from}
use Rattle.k_caller.specs.declared.activity.Activity.{Activity}
use Rattle.k_caller.specs.declared.activity.Activity.TheVariants as activity
use Rattle.k_caller.specs.Activities.{after_went}
use Rattle.k_board.specs.Words.{Programs}
use Rattle.k_board.specs.Boards.{Board, Context, hand_of}
use Rattle.k_board.specs.Steps.{Answers, destroy_at, destroy_board, destroy_number}
use Rattle.k_good.specs.Locks.{locks_at}
use Rattle.k_places.specs.Contexts.{goods_on, hand_in, held_on}
use Rattle.k_places.proofs.Goes.{Goes, KeepsVersion, end_if, ended_at, ended_hand, ended_own, fits_if, goods_asked}

-- where a kill is about to be made, the word that was loaded is that of the victim
abbrev pub KillsIt : DestroyCall → DestroyAt → Type 0
KillsIt c (Victim (victim.CommitKill v)) = c.who.version ≡ v.version
KillsIt c p = Unit {0}

module _ (g : Programs) (b : Board) (i : ℕ) (x : Context) (c : DestroyCall) (caller : StateWord) (d : ℕ) where
  -- what the board has of what it may have in hand, what is in hand once it was asked for the step, and what comes then
  abbrev On : DestroyAt → Hand
  On p = hand_of b (b.queue (destroy_number c p))

  abbrev Left : DestroyAt → Hand
  Left p = hand_asked (ask_of c x.own p) (trimmed (locks_of c p) (On p))

  abbrev Came : DestroyAt → Response → Hand
  Came p r = hand_came r (goods_asked (ask_of c x.own p) b) (hand_after c (Left p) p r)

  abbrev Section : DestroyAt → Response → DestroySection
  Section p r = record {
    call = c;
    own = own_of c x.own p r;
    location = location_with (Came p r) (leads c (Left p) p r);
    done = d;
  }

  abbrev Doing : DestroyAt → Response → Activity
  Doing p r = after_went c.caller x.own (activity.Destroy (Section p r)) (went_at (pushed_at c p) (leads c (Left p) p r))

  abbrev After : DestroyAt → Response → Board
  After p r = destroy_board g b i x c p r

  abbrev DestroyGoes : DestroyAt → Response → Type 0
  DestroyGoes p r =
      Goes b (After p r) (ask_of c x.own p) (locks_of c p) (Doing p r) x.own (destroy_at c (leads c (On p) p r)) x.own
      (hand_after c (trimmed (locks_of c p) (On p)) p asks.Released) (points c caller (Left p) p r) (points c caller (On p) p r)
      (KeepsVersion (ask_of c x.own p))

  -- no other queue than this one changes
  but_queue : (es : List SenderEntry) (k n : ℕ) → k ≢ n →
      goods.Senders (record { entries = upd b.queue n es k; room = b.size }) ≡
      goods.Senders (record { entries = b.queue k; room = b.size })
  but_queue es k n ne = ap (λ q. goods.Senders (record { entries = q; room = b.size })) (upd_other b.queue n es k ne)

  named : {k n : ℕ} → (Some (Some (lock.Thread n)) ≡ Some (Some (lock.Thread k)) → ⊥) → k ≢ n
  named h q = h (ap (λ z. Some (Some (lock.Thread z))) (sym q))

  abbrev Others : DestroyAt → Response → Type 0
  Others p r = (l : Lock) → (Holds l (locks_of c p) → ⊥) → goods_on (After p r) l ≡ goods_on b l

  pushed_sender : (n : ℕ) (v : StateWord) → Others (Pushing (pushing.PushSender n v)) asks.Released
  pushed_sender n v (lock.Thread k) h = but_queue _ k c.who.number (named h)
  pushed_sender n v lock.Table h = refl
  pushed_sender n v lock.Ready h = absurd (h refl)

  pushed_visited : (n : ℕ) (v : StateWord) → Others (Pushing (pushing.PushVisited n v)) asks.Released
  pushed_visited n v (lock.Thread k) h = refl
  pushed_visited n v lock.Table h = refl
  pushed_visited n v lock.Ready h = absurd (h refl)

  unlisted_only : Others UnlistVictim asks.Released
  unlisted_only (lock.Thread k) h = refl
  unlisted_only lock.Table h = refl
  unlisted_only lock.Ready h = absurd (h refl)

  killed_only : Others (Locked (locked.Release release.Killed)) asks.Released
  killed_only (lock.Thread k) h = refl
  killed_only lock.Table h = absurd (h refl)
  killed_only lock.Ready h = refl

  unlinked_only : (n : ℕ) → Others (Visit (visit.ReleaseVisitedLock n)) asks.Released
  unlinked_only n (lock.Thread k) h = but_queue _ k n (named h)
  unlinked_only n lock.Table h = refl
  unlinked_only n lock.Ready h = refl

  -- the first entry is gone from the victim's queue
  at_first : (n : ℕ) (v : StateWord) → hand_in (Doing (Pushing (pushing.PushSender n v)) asks.Released) ≡
      held_on (After (Pushing (pushing.PushSender n v)) asks.Released)
      (locks_at (destroy_at c (leads c (On (Pushing (pushing.PushSender n v))) (Pushing (pushing.PushSender n v)) asks.Released)))
  at_first n v =
      ap (λ es. record { numbers = b.numbers; queue = record { entries = es; room = b.size }; lists = no_lists })
      (sym (upd_same b.queue c.who.number _))

  freed_others : (n ver pri : ℕ) (s : State) → Others (Victim
      (victim.FreeSender n (record { version = ver; priority = pri; on = true; state = s }))) asks.Won
  freed_others n ver pri s (lock.Thread k) h = but_queue _ k c.who.number (named h)
  freed_others n ver pri s lock.Table h = refl
  freed_others n ver pri s lock.Ready h = refl

  freed_sender : (n ver pri : ℕ) (on : Bool) (s : State) →
      DestroyGoes (Victim (victim.FreeSender n (record { version = ver; priority = pri; on = on; state = s }))) asks.Won
  freed_sender n ver pri true s = record {
    at = refl;
    own_word = refl;
    hand =
        ap (λ es. record { numbers = b.numbers; queue = record { entries = es; room = b.size }; lists = no_lists })
        (sym (upd_same b.queue c.who.number _));
    others = freed_others n ver pri s;
    returned = tt;
    point = refl;
    fits = tt;
    version = refl;
  }
  freed_sender n ver pri false s = record {
    at = refl;
    own_word = refl;
    hand = refl;
    others = λ l h. refl;
    returned = tt;
    point = refl;
    fits = tt;
    version = refl;
  }

  freed_visit : (n ver pri : ℕ) (on : Bool) (s : State) →
      DestroyGoes (Visit (visit.FreeVisited n (record { version = ver; priority = pri; on = on; state = s }))) asks.Won
  freed_visit n ver pri true s = record {
    at = refl;
    own_word = refl;
    hand = refl;
    others = λ l h. refl;
    returned = tt;
    point = refl;
    fits = tt;
    version = refl;
  }
  freed_visit n ver pri false s = record {
    at = refl;
    own_word = refl;
    hand = refl;
    others = λ l h. refl;
    returned = tt;
    point = refl;
    fits = tt;
    version = refl;
  }

  loaded_visit : (n : ℕ) (w : StateWord) (t : Bool) → is_receiving_from c.who w.state ≡ t →
      DestroyGoes (Visit (visit.LoadVisited n)) (asks.Word w)
  loaded_visit n w true e = record {
    at = refl;
    own_word = refl;
    hand = rw e refl;
    others = λ l h. refl;
    returned = tt;
    point = refl;
    fits = tt;
    version = tt;
  }
  loaded_visit n w false e = record {
    at = refl;
    own_word = refl;
    hand = rw e refl;
    others = λ l h. refl;
    returned = tt;
    point = refl;
    fits = tt;
    version = tt;
  }

  pub destroy_goes : (p : DestroyAt) (r : Response) → is_open p ≡ true → Answers b (ask_of c x.own p) r →
      asks.is_again r ≡ false → KillsIt c p → DestroyGoes p r
  destroy_goes (Outside outside.LoadOwn) (asks.Word w) op an na kv = let k = end_if (is_dead w) _ _ tt tt in record {
    at = ended_at c.caller x.own _ (alive_or_dead w) k;
    own_word = ended_own c.caller x.own _ (alive_or_dead w) k;
    hand = ended_hand b c.caller x.own _ (alive_or_dead w) k;
    others = λ l n. refl;
    returned = tt;
    point = refl;
    fits = fits_if (is_dead w) None (Some (point_of c outcome.Own)) tt tt;
    version = tt;
  }
  destroy_goes (Outside outside.AcquireTable) asks.Got op an na kv = record {
    at = refl;
    own_word = refl;
    hand = refl;
    others = λ l n. refl;
    returned = tt;
    point = refl;
    fits = tt;
    version = tt;
  }
  destroy_goes (Locked locked.LoadCaller) (asks.Word w) op an na kv = record {
    at = refl;
    own_word = refl;
    hand = refl;
    others = λ l n. refl;
    returned = tt;
    point = refl;
    fits = tt;
    version = tt;
  }
  destroy_goes (Locked locked.AcquireVictimLock) asks.Got op an na kv = record {
    at = refl;
    own_word = refl;
    hand = refl;
    others = λ l n. refl;
    returned = tt;
    point = refl;
    fits = tt;
    version = tt;
  }
  destroy_goes (Victim victim.LoadVictim) (asks.Word w) op an na kv = record {
    at = refl;
    own_word = refl;
    hand = refl;
    others = λ l n. refl;
    returned = tt;
    point = refl;
    fits = fits_if (is_present_in w c.who) None (Some (point_of c (outcome.Absent (found_in c.who.number w)))) tt tt;
    version = tt;
  }
  destroy_goes (Victim (victim.CommitKill v)) asks.Won op an na kv = record {
    at = refl;
    own_word = refl;
    hand = refl;
    others = λ l n. refl;
    returned = tt;
    point = refl;
    fits = tt;
    version = kv;
  }
  destroy_goes (Victim (victim.CommitKill v)) (asks.Lost w) op an na kv = record {
    at = refl;
    own_word = refl;
    hand = refl;
    others = λ l n. refl;
    returned = tt;
    point = refl;
    fits = tt;
    version = kv;
  }
  destroy_goes (Victim (victim.LoadSender n)) (asks.Word w) op an na kv = record {
    at = refl;
    own_word = refl;
    hand = refl;
    others = λ l n. refl;
    returned = tt;
    point = refl;
    fits = tt;
    version = tt;
  }
  destroy_goes (Victim (victim.FreeSender n v)) asks.Won op an na kv = freed_sender n v.version v.priority v.on v.state
  destroy_goes (Victim (victim.FreeSender n v)) (asks.Lost w) op an na kv = record {
    at = refl;
    own_word = refl;
    hand = refl;
    others = λ l n. refl;
    returned = tt;
    point = refl;
    fits = tt;
    version = refl;
  }
  destroy_goes (Victim (victim.AcquireReadyForSender n v)) asks.Got op an na kv = record {
    at = refl;
    own_word = refl;
    hand = refl;
    others = λ l n. refl;
    returned = tt;
    point = refl;
    fits = tt;
    version = tt;
  }
  destroy_goes (Pushing (pushing.PushSender n v)) asks.Released op an na kv = record {
    at = refl;
    own_word = refl;
    hand = at_first n v;
    others = pushed_sender n v;
    returned = refl;
    point = refl;
    fits = tt;
    version = tt;
  }
  destroy_goes (Victim victim.ReleaseVictimLock) asks.Released op an na kv = record {
    at = refl;
    own_word = refl;
    hand = refl;
    others = λ l n. refl;
    returned = refl;
    point = refl;
    fits = tt;
    version = tt;
  }
  destroy_goes (Locked locked.AcquireReadyForVictim) asks.Got op an na kv = record {
    at = refl;
    own_word = refl;
    hand = refl;
    others = λ l n. refl;
    returned = tt;
    point = refl;
    fits = tt;
    version = tt;
  }
  destroy_goes UnlistVictim asks.Released op an na kv = record {
    at = refl;
    own_word = refl;
    hand = refl;
    others = unlisted_only;
    returned = refl;
    point = refl;
    fits = tt;
    version = tt;
  }
  destroy_goes (Locked locked.RemoveContext) asks.Removed op an na kv = record {
    at = refl;
    own_word = refl;
    hand = refl;
    others = λ l n. refl;
    returned = tt;
    point = refl;
    fits = tt;
    version = tt;
  }
  destroy_goes (Locked (locked.AcquireVisitedLock n)) asks.Got op an na kv = record {
    at = refl;
    own_word = refl;
    hand = refl;
    others = λ l n. refl;
    returned = tt;
    point = refl;
    fits = tt;
    version = tt;
  }
  destroy_goes (Visit (visit.LoadVisited n)) (asks.Word w) op an na kv = loaded_visit n w (is_receiving_from c.who w.state) refl
  destroy_goes (Visit (visit.FreeVisited n v)) asks.Won op an na kv = freed_visit n v.version v.priority v.on v.state
  destroy_goes (Visit (visit.FreeVisited n v)) (asks.Lost w) op an na kv = record {
    at = refl;
    own_word = refl;
    hand = refl;
    others = λ l n. refl;
    returned = tt;
    point = refl;
    fits = tt;
    version = refl;
  }
  destroy_goes (Visit (visit.AcquireReadyForVisited n v)) asks.Got op an na kv = record {
    at = refl;
    own_word = refl;
    hand = refl;
    others = λ l n. refl;
    returned = tt;
    point = refl;
    fits = tt;
    version = tt;
  }
  destroy_goes (Pushing (pushing.PushVisited n v)) asks.Released op an na kv = record {
    at = refl;
    own_word = refl;
    hand = refl;
    others = pushed_visited n v;
    returned = refl;
    point = refl;
    fits = tt;
    version = tt;
  }
  destroy_goes (Visit (visit.ReleaseVisitedLock n)) asks.Released op an na kv = record {
    at = refl;
    own_word = refl;
    hand = refl;
    others = unlinked_only n;
    returned = ap (λ es. goods.Senders (record { entries = es; room = b.size })) (sym (upd_same b.queue n _));
    point = refl;
    fits = tt;
    version = tt;
  }
  destroy_goes (Locked (locked.Release release.Killed)) asks.Released op an na kv = record {
    at = refl;
    own_word = refl;
    hand = refl;
    others = killed_only;
    returned = refl;
    point = refl;
    fits = tt;
    version = tt;
  }
  destroy_goes (Locked (locked.Release (release.Absent f))) asks.Released op an na kv = record {
    at = refl;
    own_word = refl;
    hand = refl;
    others = λ l n. refl;
    returned = refl;
    point = refl;
    fits = tt;
    version = tt;
  }
  destroy_goes (Locked (locked.Release release.Dead)) asks.Released op an na kv = record {
    at = refl;
    own_word = refl;
    hand = refl;
    others = λ l n. refl;
    returned = refl;
    point = refl;
    fits = tt;
    version = tt;
  }
  destroy_goes (Victim (victim.ReleaseVictimLockAbsent f)) asks.Released op an na kv = record {
    at = refl;
    own_word = refl;
    hand = refl;
    others = λ l n. refl;
    returned = refl;
    point = refl;
    fits = tt;
    version = tt;
  }
  destroy_goes (Outside outside.AcquireTable) (asks.Owned o) op an na kv = absurd cc
  destroy_goes (Locked locked.AcquireVictimLock) (asks.Owned o) op an na kv = absurd cc
  destroy_goes (Victim (victim.AcquireReadyForSender n v)) (asks.Owned o) op an na kv = absurd cc
  destroy_goes (Locked locked.AcquireReadyForVictim) (asks.Owned o) op an na kv = absurd cc
  destroy_goes (Locked (locked.AcquireVisitedLock n)) (asks.Owned o) op an na kv = absurd cc
  destroy_goes (Visit (visit.AcquireReadyForVisited n v)) (asks.Owned o) op an na kv = absurd cc
  destroy_goes (Locked locked.RemoveContext) asks.Kept op an na kv = absurd cc
  destroy_goes (Outside (outside.Ended w)) r op an na kv = absurd cc
  destroy_goes p r op an na kv = absurd an
