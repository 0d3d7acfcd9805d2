-- What the words that sections write show.
use Rattle.std.specs.Prelude.{◌==◌, ◌&&◌}
use Rattle.std.proofs.Common.{◌≡◌, ℕ, ◌<◌, Bool, true, false, refl, sym, ap, ◌∙◌}
use Rattle.std.proofs.Common.{subst, Some, None, not, cond, arith, ◌⊎◌, inl, inr}
use Rattle.std.proofs.lemmas.Bool.Decides.{nat_tests}
use Rattle.k_ids.specs.declared.threads.ThreadId.{ThreadId}
use Rattle.k_ids.specs.declared.state_word.State.{State}
use Rattle.k_ids.specs.declared.state_word.State.TheVariants as state
use Rattle.k_ids.specs.declared.state_word.Result4.TheVariants as result4
use Rattle.k_ids.specs.declared.state_word.StateWord.{StateWord}
use Rattle.k_locks.specs.Shown.{is_dead, is_dead_state, is_present_in}
use Rattle.k_locks.specs.Threads.{runs}
use Rattle.k_ipc.specs.Words.{in_state, on_in, sends_to}
use Rattle.k_senders.specs.declared.entries.SenderEntry.{SenderEntry}
use Rattle.k_senders.specs.Entries.{sender_of}
use Rattle.k_ipc.specs.ReceiveTable.{is_pushed}
use Rattle.k_ipc.specs.declared.send.Manner.{Manner}
use Rattle.k_ipc.specs.declared.send.Manner.TheVariants as manner
use Rattle.k_ipc.specs.SendTable.{passed_word}
use Rattle.k_threads.specs.Words.{is_receiving_from}
use Rattle.k_caller.specs.Waits.{is_waiting}
use Rattle.k_board.specs.Facts.{IsRun, is_open}
use Rattle.k_board.specs.Boards.{Board}
use Rattle.k_tokens.specs.World.{is_present}
use Rattle.k_tokens.specs.Good.{Told}
use Rattle.k_grants.specs.Views.{PrioritiesAre, is_ended, sight_of, sights_of, threads_of}
use Rattle.k_grants.specs.Pushes.{IsOn, IsOnAt, WasKilled, told_by, word_at}

-- STATES

pub open_alive : (s : State) → is_open s ≡ true → is_dead_state s ≡ false
open_alive state.Dead e = absurd cc
open_alive (state.Run r) e = refl
open_alive (state.Sending to joined) e = refl
open_alive (state.Receiving from) e = refl
open_alive state.Picking e = refl
open_alive state.Ended e = refl

pub open_goes : (s : State) → is_open s ≡ true → is_ended s ≡ false
open_goes state.Dead e = refl
open_goes (state.Run r) e = refl
open_goes (state.Sending to joined) e = refl
open_goes (state.Receiving from) e = refl
open_goes state.Picking e = refl
open_goes state.Ended e = absurd cc

pub runs_alive : (s : State) → runs s ≡ true → is_dead_state s ≡ false
runs_alive state.Dead e = absurd cc
runs_alive (state.Run r) e = refl
runs_alive (state.Sending to joined) e = refl
runs_alive (state.Receiving from) e = refl
runs_alive state.Picking e = refl
runs_alive state.Ended e = refl

-- SIGHTS

pub sight_same : (w : StateWord) (s : State) (on : Bool) → on ≡ w.on → is_dead_state s ≡ is_dead_state w.state →
    is_ended s ≡ is_ended w.state
    → sight_of (record w { on = on; state = s }) ≡ sight_of w
sight_same w s on o d e = λ z. record { version = w.version; present = not (d z); on = o z; ended = e z; priority = w.priority }

pub in_state_same : (w : StateWord) (s : State) → is_dead_state s ≡ is_dead_state w.state → is_ended s ≡ is_ended w.state →
    sight_of (in_state s w) ≡ sight_of w
in_state_same w s d e = sight_same w s w.on refl d e

-- one that runs, and so another that does neither lie dead nor at its end
pub run_same : (w : StateWord) (s : State) → IsRun w → is_dead_state s ≡ false → is_ended s ≡ false →
    sight_of (in_state s w) ≡ sight_of w
run_same w s r d e = in_state_same w s (d ∙ sym (ap is_dead_state r.state)) (e ∙ sym (ap is_ended r.state))

pub on_same : (w : StateWord) (s : State) → w.on ≡ true → is_dead w ≡ false → is_ended w.state ≡ false → is_dead_state s ≡ false →
    is_ended s ≡ false
    → sight_of (on_in s w) ≡ sight_of w
on_same w s o d e ds es = sight_same w s true (sym o) (ds ∙ sym d) (es ∙ sym e)

pub turned_on_by : (w : StateWord) (s : State) → is_dead w ≡ false → is_ended w.state ≡ false → is_dead_state s ≡ false →
    is_ended s ≡ false
    → sight_of (on_in s w) ≡ record (sight_of w) { on = true }
turned_on_by w s d e ds es =
    λ z. record { version = w.version; present = not ((ds ∙ sym d) z); on = true; ended = (es ∙ sym e) z; priority = w.priority }

pub passed_same : (m : Manner) (to : ThreadId) (w : StateWord) → IsRun w → sight_of (passed_word m to w) ≡ sight_of w
passed_same manner.Plain to w r = run_same w (state.Run result4.Sent) r refl refl
passed_same manner.Joined to w r = run_same w (state.Receiving (Some to)) r refl refl
passed_same manner.Reply to w r = on_same w state.Picking r.on (ap is_dead_state r.state) (ap is_ended r.state) refl refl

-- WHO IS THERE

pub present_version : (w : StateWord) (id : ThreadId) → is_present_in w id ≡ true → w.version ≡ id.version
present_version w id e = grind (arith, nat_tests)

pub present_alive : (w : StateWord) (id : ThreadId) → is_present_in w id ≡ true → is_dead w ≡ false
present_alive w id e = grind (arith, nat_tests)

module _ (y : ℕ → ℕ) (b : Board) (who : ThreadId) where
  pub on_present : IsOn (word_at b.seen who) who → is_present (threads_of y b) who ≡ true
  on_present o = there (word_at b.seen who) o.version (runs_alive _ o.running)
    where
      there : (w : StateWord) → w.version ≡ who.version → is_dead w ≡ false →
          (not (is_dead w) && (w.version == who.version)) ≡ true
      there w v d = grind (arith, nat_tests)

  pub killed_absent : WasKilled (word_at b.seen who) who → is_present (threads_of y b) who ≡ false
  killed_absent (inl l) = gone (word_at b.seen who) l
    where
      gone : (w : StateWord) → who.version < w.version → (not (is_dead w) && (w.version == who.version)) ≡ false
      gone w v = grind (arith, nat_tests)
  killed_absent (inr l) = gone (word_at b.seen who) l.1
    where
      gone : (w : StateWord) → is_dead w ≡ true → (not (is_dead w) && (w.version == who.version)) ≡ false
      gone w v = grind (arith, nat_tests)

  pub told_on : (n : ℕ) → ((t : ℕ) → y t < 64) → PrioritiesAre y (sights_of b) → IsOnAt (word_at b.seen who) who n →
      Told (threads_of y b) who (Some n)
  told_on n low agree o = record {
    shown =
        λ p e. (
          subst (λ (x : ℕ). x < 64) (agree who.number (ap not (runs_alive _ o.0.running)) ∙ o.1 ∙ some_is e)
              (low who.number),
          inl (on_present o.0),
        );
    absent = λ e. absurd (some_not e);
  }
    where
      some_is : {m n : ℕ} → Some m ≡ Some n → m ≡ n
      some_is e = cc

      some_not : {m : ℕ} → Some m ≡ None → ⊥
      some_not e = cc

-- A thread that waits to send is there, and not at its end.
pub sends_alive : (to : ThreadId) (s : State) → sends_to to s ≡ true → is_dead_state s ≡ false
sends_alive to state.Dead e = absurd cc
sends_alive to (state.Run r) e = refl
sends_alive to (state.Sending id joined) e = refl
sends_alive to (state.Receiving from) e = refl
sends_alive to state.Picking e = refl
sends_alive to state.Ended e = refl

pub sends_goes : (to : ThreadId) (s : State) → sends_to to s ≡ true → is_ended s ≡ false
sends_goes to state.Dead e = refl
sends_goes to (state.Run r) e = refl
sends_goes to (state.Sending id joined) e = refl
sends_goes to (state.Receiving from) e = refl
sends_goes to state.Picking e = refl
sends_goes to state.Ended e = absurd cc

-- what the load of the word of a thread whose message was taken tells
module _ (y : ℕ → ℕ) (b : Board) (e : SenderEntry) (v : StateWord) (loaded : word_at b.seen (sender_of e) ≡ v) where
  pub told_loaded : v.priority < 64 → IsOn v (sender_of e) ⊎ WasKilled v (sender_of e) →
      Told (threads_of y b) (sender_of e) (told_by e v)
  told_loaded low (inl o) =
      subst (Told (threads_of y b) (sender_of e)) (sym (ap (λ (d : Bool). cond d (Some v.priority) None)
      (runs_pushed o))) record {
        shown =
            λ n q. (
              subst (λ (x : ℕ). x < 64) (some_is q) low,
              inl
                  (on_present y b (sender_of e) (subst (λ (x : StateWord). IsOn x (sender_of e)) (sym loaded) o)),
            );
        absent = λ q. absurd (some_not q);
      }
    where
      runs_pushed : IsOn v (sender_of e) → is_pushed e v ≡ true
      runs_pushed o = both (runs v.state) v.version (sender_of e).version o.running o.version
        where
          both : (r : Bool) (m n : ℕ) → r ≡ true → m ≡ n → (r && (m == n)) ≡ true
          both r m n x z = grind (arith, nat_tests)

      some_is : {m n : ℕ} → Some m ≡ Some n → m ≡ n
      some_is q = cc

      some_not : {m : ℕ} → Some m ≡ None → ⊥
      some_not q = cc
  told_loaded low (inr k) =
      subst (Told (threads_of y b) (sender_of e)) (sym (ap (λ (d : Bool). cond d (Some v.priority) None)
      (killed_not v k))) record {
        shown = λ n q. absurd (none_not q);
        absent = λ q. killed_absent y b (sender_of e) (subst (λ (x : StateWord). WasKilled x (sender_of e)) (sym loaded) k);
      }
    where
      none_not : {n : ℕ} → None ≡ Some n → ⊥
      none_not q = cc

      killed_not : (x : StateWord) → WasKilled x (sender_of e) → is_pushed e x ≡ false
      killed_not x (inl l) = grind (arith, nat_tests)
      killed_not x (inr l) = grind (arith, nat_tests, l.1)

-- So is one that waits for a message of one thread.
pub receives_alive : (from : ThreadId) (s : State) → is_receiving_from from s ≡ true → is_dead_state s ≡ false
receives_alive from state.Dead e = absurd cc
receives_alive from (state.Run r) e = refl
receives_alive from (state.Sending id joined) e = refl
receives_alive from (state.Receiving o) e = refl
receives_alive from state.Picking e = refl
receives_alive from state.Ended e = refl

pub receives_goes : (from : ThreadId) (s : State) → is_receiving_from from s ≡ true → is_ended s ≡ false
receives_goes from state.Dead e = refl
receives_goes from (state.Run r) e = refl
receives_goes from (state.Sending id joined) e = refl
receives_goes from (state.Receiving o) e = refl
receives_goes from state.Picking e = refl
receives_goes from state.Ended e = absurd cc

pub waiting_alive : (s : State) → is_waiting s ≡ true → is_dead_state s ≡ false
waiting_alive state.Dead e = absurd cc
waiting_alive (state.Run r) e = refl
waiting_alive (state.Sending id joined) e = refl
waiting_alive (state.Receiving o) e = refl
waiting_alive state.Picking e = refl
waiting_alive state.Ended e = refl
