-- A send: what it writes has a spelling, and so has what it knows after its step.
use Rattle.std.proofs.Common.{◌≡◌, ℕ, ◌≤◌, true, refl, ap, subst, List, not}
use Rattle.k_ids.specs.declared.state_word.State.TheVariants as state
use Rattle.k_ids.specs.declared.state_word.StateWord.{StateWord}
use Rattle.k_ids.specs.declared.threads.ThreadId.{ThreadId}
use Rattle.k_ids.specs.StateWords.{IsStateWord, is_live}
use Rattle.k_model.specs.State.{takes_from}
use Rattle.k_ids.specs.declared.calls.Reply.TheVariants as reply
use Rattle.k_ids.specs.declared.state_word.Result4.TheVariants as result4
use Rattle.k_locks.specs.Asks.{Response}
use Rattle.k_locks.specs.Asks as asks
use Rattle.k_locks.specs.Hands.{Hand}
use Rattle.k_locks.specs.Shown.{found_in, is_present_in, shows}
use Rattle.k_script.specs.Plays.{IsInRange}
use Rattle.k_ipc.specs.declared.send.Manner.{Manner}
use Rattle.k_ipc.specs.declared.send.Manner.TheVariants as manner
use Rattle.k_ipc.specs.declared.send.SendCall.{SendCall}
use Rattle.k_ipc.specs.declared.send.SendLocked.{SendLocked}
use Rattle.k_ipc.specs.declared.send.SendLocked.TheVariants.{AcquireReady, CommitPass, CommitWait}
use Rattle.k_ipc.specs.declared.send.SendLocked.TheVariants.{LoadReceiver, Release}
use Rattle.k_ipc.specs.declared.send.SendLocked.TheVariants.{ReloadReceiver, StoreMail, WakeReceiver}
use Rattle.k_ipc.specs.declared.send.SendOutside.{SendOutside}
use Rattle.k_ipc.specs.declared.send.SendOutside.TheVariants.{AcquireReceiver, CheckCaller, Ended, LoadCaller}
use Rattle.k_ipc.specs.declared.send.SendPushing.TheVariants.{PushReceiver}
use Rattle.k_ipc.specs.declared.send.SendRelease.TheVariants as release
use Rattle.k_ipc.specs.SendTable.{Locked, Outside, Pushing, SendAt}
use Rattle.k_ipc.specs.SendTable as send
use Rattle.k_board.specs.Words.{Programs}
use Rattle.k_board.specs.Boards.{Board, Context}
use Rattle.k_board.specs.Facts.{AllSay, Fact}
use Rattle.k_board.specs.Places.{facts_send, sender}
use Rattle.k_board.specs.Steps.{Answers}
use Rattle.k_board.proofs.Cases.{if_cases}
use Rattle.k_legal.specs.Waiting.{IsMessage}
use Rattle.k_turns.specs.Spelled.{IsSpelled}
use Rattle.k_spelled.specs.Words.{SpelledSend}
use Rattle.k_spelled.proofs.Spellings.{changed, lock_in, open_live, partner_in, passed_spelled}

sender_rest : (g : Programs) (b : Board) (i : ℕ) (x : Context) (m : Manner) (me : ThreadId) (fs : List Fact) →
    AllSay g b i x (sender m me fs) → AllSay g b i x fs
sender_rest g b i x manner.Plain me fs h = h.1.1.1.1.1
sender_rest g b i x manner.Joined me fs h = h.1.1.1.1.1
sender_rest g b i x manner.Reply me fs h = h.1.1.1.1

module _ (g : Programs) (b : Board) (i : ℕ) (x : Context) (few : b.size ≤ 64) (own : IsStateWord x.own) where
  pub send_spelled : (c : SendCall) (p : SendAt) → IsInRange b.size c.caller → IsInRange b.size c.to →
      IsMessage c.message →
      SpelledSend p → AllSay g b i x (facts_send c p) → IsSpelled b.size (send.ask_of c x.own p)
  send_spelled c (Locked (StoreMail w)) me to m k h = m
  send_spelled c (Locked (CommitPass w)) me to m k h =
      let live : is_live x.own.state ≡ true = ap is_live h.1.1.1.1.1.1.0.0.state in
      (own, passed_spelled c.manner c.to x.own own live (partner_in b.size c.to few to))
  send_spelled c (Locked (WakeReceiver w)) me to m k h =
      let rest = sender_rest g b i x c.manner c.caller _ h in (
        k,
        changed w true (state.Run (result4.Delivered c.caller)) k (open_live w.state rest.1.1.0.1) refl
            (partner_in b.size c.caller few me),
      )
  send_spelled c (Locked CommitWait) me to m k h =
      let live : is_live x.own.state ≡ true = ap is_live h.1.1.1.1.1.0.0.state in (
        own,
        changed x.own x.own.on (state.Sending c.to (send.is_joined c.manner)) own live refl
            (partner_in b.size c.to few to),
      )
  send_spelled c (Locked (Release r)) me to m k h = lock_in b.size c.to.number few to.number
  send_spelled c (Locked LoadReceiver) me to m k h = tt
  send_spelled c (Locked ReloadReceiver) me to m k h = tt
  send_spelled c (Locked (AcquireReady priority)) me to m k h = tt
  send_spelled c (Pushing (PushReceiver priority)) me to m k h = tt
  send_spelled c (Outside p) me to m k h = outside p
    where
      outside : (p : SendOutside) → IsSpelled b.size (send.ask_of c x.own (Outside p))
      outside LoadCaller = tt
      outside AcquireReceiver = lock_in b.size c.to.number few to.number
      outside (CheckCaller r) = tt
      outside (Ended w) = tt

-- its own word is one that it wrote, or as before
pub send_own : (size : ℕ) (c : SendCall) (own : StateWord) (p : SendAt) (r : Response) → IsStateWord own →
    IsSpelled size (send.ask_of c own p) → IsStateWord (send.own_of c own p r)
send_own size c own (Locked (CommitPass w)) asks.Won h s = s.1
send_own size c own (Locked CommitWait) asks.Won h s = s.1
send_own size c own p r h s = h

-- a word that was loaded stood there
after_receiver_spelled : (c : SendCall) (w : StateWord) → IsStateWord w →
    SpelledSend (Locked (send.after_receiver c w))
after_receiver_spelled c w h =
    if_cases (λ (p : SendLocked). SpelledSend (Locked p)) (not (is_present_in w c.to))
    (Release (release.Refused (reply.Absent (found_in c.to.number w)))) _ (λ e. tt)
    (λ e. if_cases (λ (p : SendLocked). SpelledSend (Locked p)) (takes_from (shows w.state) c.caller c.zero)
    (StoreMail w) _
    (λ e. h)
    (λ e. if_cases (λ (p : SendLocked). SpelledSend (Locked p)) c.zero
    (Release (release.Refused (reply.Busy (found_in c.to.number w)))) CommitWait (λ e. tt) (λ e. tt)))

pub send_knows : (b : Board) (c : SendCall) (own : StateWord) (h : Hand) (p : SendAt) (r : Response) →
    Answers b (send.ask_of c own p) r → ((t : ℕ) → IsStateWord (b.seen t).word) → SpelledSend p →
    SpelledSend (send.leads c h p r)
send_knows b c own h (Locked LoadReceiver) (asks.Word w) an words k =
    after_receiver_spelled c w (subst IsStateWord an (words c.to.number))
send_knows b c own h (Locked (CommitPass w)) (asks.Lost v) an words k = tt
send_knows b c own h (Locked (WakeReceiver w)) asks.Won an words k =
    if_cases (λ (p : SendLocked). SpelledSend (Locked p)) w.on (Release release.Passed)
    (AcquireReady w.priority) (λ e. tt)
    (λ e. k.priority)
send_knows b c own h (Locked (WakeReceiver w)) (asks.Lost v) an words k = tt
send_knows b c own h (Locked ReloadReceiver) (asks.Word w) an words k =
    subst IsStateWord an (words c.to.number)
send_knows b c own h (Pushing (PushReceiver priority)) asks.Released an words k = tt
send_knows b c own h (Outside LoadCaller) (asks.Word w) an words k = tt
send_knows b c own h (Outside AcquireReceiver) asks.Got an words k = tt
send_knows b c own h (Outside (CheckCaller r)) (asks.Word w) an words k = tt
send_knows b c own h (Outside (Ended w)) r an words k = tt
send_knows b c own h (Locked (StoreMail w)) asks.Stored an words k = k
send_knows b c own h (Locked (CommitPass w)) asks.Won an words k = k
send_knows b c own h (Locked (AcquireReady priority)) asks.Got an words k = k
send_knows b c own h (Locked CommitWait) asks.Won an words k = tt
send_knows b c own h (Locked CommitWait) (asks.Lost v) an words k = tt
send_knows b c own h (Locked (Release release.Passed)) asks.Released an words k = tt
send_knows b c own h (Locked (Release release.Dead)) asks.Released an words k = tt
send_knows b c own h (Locked (Release (release.Refused r))) asks.Released an words k = tt
send_knows b c own h (Locked (Release release.Queued)) asks.Released an words k = tt
send_knows b c own h p r an words k = k
