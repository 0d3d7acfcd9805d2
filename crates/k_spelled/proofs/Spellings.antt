-- The words that steps write have spellings, where those have that they are made of.
use Rattle.std.proofs.Common.{◌≡◌, ℕ, ◌≤◌, ◌<◌, Bool, true, refl, arith, Some}
use Rattle.std.specs.Prelude.{IfSome, ◌^◌}
use Rattle.k_ids.specs.declared.threads.ThreadId.{ThreadId}
use Rattle.k_ids.specs.declared.state_word.Result4.TheVariants as result4
use Rattle.k_ids.specs.declared.state_word.State.{State}
use Rattle.k_ids.specs.declared.state_word.State.TheVariants as state
use Rattle.k_ids.specs.declared.state_word.StateWord.{StateWord}
use Rattle.k_ids.specs.StateWords.{Agrees, IsPartner, IsStateWord, is_live, partner_of}
use Rattle.k_locks.specs.declared.locks.Lock.TheVariants as lock
use Rattle.k_script.specs.Plays.{IsInRange}
use Rattle.k_ipc.specs.declared.send.Manner.{Manner}
use Rattle.k_ipc.specs.declared.send.Manner.TheVariants as manner
use Rattle.k_ipc.specs.SendTable.{passed_word}
use Rattle.k_ipc.specs.Words.{freed, is_joined_to, sends_to}
use Rattle.k_threads.specs.Words.{created_word, dead_word, is_receiving_from}
use Rattle.k_caller.specs.Waits.{ended_word, is_waiting, off_word}
use Rattle.k_board.specs.Facts.{is_open}
use Rattle.k_board.proofs.Cases.{if_cases}
use Rattle.k_places.specs.Shows.{IsLockOf}

-- IDS

pub partner_in : (size : ℕ) (id : ThreadId) → size ≤ 64 → IsInRange size id → IsPartner id
partner_in size id few h = record {
  number = omega (arith, h.number);
  born = h.first;
  version = omega (arith, h.last);
}

pub lock_in : (size n : ℕ) → size ≤ 64 → n < size → IsLockOf size (lock.Thread n)
lock_in size n few h = (omega arith, h)

-- WHO IS LIVE

live_agrees : (s : State) (w : StateWord) → is_live s ≡ true → 1 ≤ w.version → Agrees s w
live_agrees state.Dead w l v = absurd cc
live_agrees (state.Run r) w l v = v
live_agrees (state.Sending to joined) w l v = v
live_agrees (state.Receiving from) w l v = v
live_agrees state.Picking w l v = v
live_agrees state.Ended w l v = absurd cc

born_by : (s : State) (w : StateWord) → Agrees s w → is_live s ≡ true → 1 ≤ w.version
born_by state.Dead w a l = absurd cc
born_by (state.Run r) w a l = a
born_by (state.Sending to joined) w a l = a
born_by (state.Receiving from) w a l = a
born_by state.Picking w a l = a
born_by state.Ended w a l = absurd cc

-- one that is live has a version
pub born : (w : StateWord) → IsStateWord w → is_live w.state ≡ true → 1 ≤ w.version
born w h l = born_by w.state w h.agrees l

pub waiting_live : (s : State) → is_waiting s ≡ true → is_live s ≡ true
waiting_live state.Dead e = absurd cc
waiting_live (state.Run r) e = absurd cc
waiting_live (state.Sending to joined) e = refl
waiting_live (state.Receiving from) e = refl
waiting_live state.Picking e = refl
waiting_live state.Ended e = absurd cc

pub open_live : (s : State) → is_open s ≡ true → is_live s ≡ true
open_live state.Dead e = absurd cc
open_live (state.Run r) e = absurd cc
open_live (state.Sending to joined) e = absurd cc
open_live (state.Receiving from) e = refl
open_live state.Picking e = refl
open_live state.Ended e = absurd cc

pub sends_live : (to : ThreadId) (s : State) → sends_to to s ≡ true → is_live s ≡ true
sends_live to state.Dead e = absurd cc
sends_live to (state.Run r) e = absurd cc
sends_live to (state.Sending other joined) e = refl
sends_live to (state.Receiving from) e = absurd cc
sends_live to state.Picking e = absurd cc
sends_live to state.Ended e = absurd cc

pub receives_live : (who : ThreadId) (s : State) → is_receiving_from who s ≡ true → is_live s ≡ true
receives_live who state.Dead e = absurd cc
receives_live who (state.Run r) e = absurd cc
receives_live who (state.Sending to joined) e = absurd cc
receives_live who (state.Receiving from) e = refl
receives_live who state.Picking e = absurd cc
receives_live who state.Ended e = absurd cc

-- WORDS

-- a live thread with another live state
pub changed : (w : StateWord) (on : Bool) (s : State) → IsStateWord w → is_live w.state ≡ true →
    is_live s ≡ true →
    IfSome (partner_of s) IsPartner → IsStateWord (record w { on = on; state = s })
changed w on s h was is p = record {
  version = h.version;
  priority = h.priority;
  partner = p;
  agrees = live_agrees s (record w { on = on; state = s }) is (born w h was);
}

pub passed_spelled : (m : Manner) (to : ThreadId) (own : StateWord) → IsStateWord own →
    is_live own.state ≡ true → IsPartner to →
    IsStateWord (passed_word m to own)
passed_spelled manner.Plain to own h l p = changed own own.on (state.Run result4.Sent) h l refl tt
passed_spelled manner.Joined to own h l p = changed own own.on (state.Receiving (Some to)) h l refl p
passed_spelled manner.Reply to own h l p = changed own true state.Picking h l refl tt

pub freed_spelled : (me : ThreadId) (w : StateWord) → IsStateWord w → is_live w.state ≡ true → IsPartner me →
    IsStateWord (freed me w)
freed_spelled me w h l p =
    if_cases IsStateWord (is_joined_to w.state) (record w { state = state.Receiving (Some me) })
    (record w { on = true; state = state.Run result4.Sent })
    (λ e. changed w w.on (state.Receiving (Some me)) h l refl p)
    (λ e. changed w true (state.Run result4.Sent) h l refl tt)

pub created_spelled : (version priority : ℕ) → 1 ≤ version → version < 2 ^ 20 → priority < 64 →
    IsStateWord (created_word version priority)
created_spelled version priority v small low = record
    { version = small; priority = low; partner = tt; agrees = v }

pub dead_spelled : (version : ℕ) → version < 2 ^ 20 → IsStateWord (dead_word version)
dead_spelled version small = record {
  version = small;
  priority = omega arith;
  partner = tt;
  agrees =
      (refl, refl);
}

off_agrees : (s : State) (w : StateWord) → Agrees s w → Agrees s (off_word w)
off_agrees state.Dead w a = (refl, a.1)
off_agrees (state.Run r) w a = a
off_agrees (state.Sending to joined) w a = a
off_agrees (state.Receiving from) w a = a
off_agrees state.Picking w a = a
off_agrees state.Ended w a = (a.0, refl)

pub off_spelled : (w : StateWord) → IsStateWord w → IsStateWord (off_word w)
off_spelled w h = record {
  version = h.version;
  priority = h.priority;
  partner = h.partner;
  agrees = off_agrees w.state w h.agrees;
}

pub ended_spelled : (w : StateWord) → IsStateWord w → is_live w.state ≡ true → IsStateWord (ended_word w)
ended_spelled w h l = record {
  version = h.version;
  priority = h.priority;
  partner = tt;
  agrees = (born w h l, refl);
}
