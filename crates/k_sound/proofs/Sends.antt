-- A send stays sound over its step.
use Rattle.std.proofs.Common.{◌≡◌, ℕ, Bool, true, false, refl, sym, subst, arith}
use Rattle.std.proofs.lemmas.Bool.{and_parts, eqb-true}
use Rattle.std.specs.Prelude.{◌==◌, if◌then◌else◌, not}
use Rattle.k_ids.specs.declared.threads.ThreadId.{ThreadId}
use Rattle.k_ids.specs.declared.state_word.StateWord.{StateWord}
use Rattle.k_ids.specs.StateWords.{IsPartner, IsStateWord, state_word_of}
use Rattle.k_ids.specs.declared.calls.Reply.TheVariants as reply
use Rattle.k_model.specs.State.{takes_from}
use Rattle.k_locks.specs.Asks.{Response, response_of}
use Rattle.k_locks.specs.Asks as asks
use Rattle.k_locks.specs.Hands.{Hand, hand_with}
use Rattle.k_locks.specs.Shown.{found_in, is_dead, is_present_in, shows}
use Rattle.k_locks.specs.Threads.{IsThread}
use Rattle.k_locks.specs.declared.steps.Answer.{Answer}
use Rattle.k_locks.specs.declared.steps.Answer.TheVariants as answer
use Rattle.k_locks.specs.declared.steps.Told.TheVariants as told
use Rattle.k_ipc.specs.declared.send.Manner.{Manner}
use Rattle.k_ipc.specs.declared.send.Manner.TheVariants as manner
use Rattle.k_ipc.specs.declared.send.SendCall.{SendCall}
use Rattle.k_ipc.specs.declared.send.SendOutside.TheVariants as outside
use Rattle.k_ipc.specs.declared.send.SendLocked.{SendLocked}
use Rattle.k_ipc.specs.declared.send.SendLocked.TheVariants as locked
use Rattle.k_ipc.specs.declared.send.SendPushing.TheVariants as pushing
use Rattle.k_ipc.specs.declared.send.SendRelease.TheVariants as release
use Rattle.k_ipc.specs.declared.send.SendSection.{SendSection}
use Rattle.k_ipc.specs.SendTable.{IsFit, IsSound, IsSoundAt, SendAt, Outside, Locked, Pushing, after_receiver}
use Rattle.k_ipc.specs.SendTable.{ask_of, at_of, hand_after, hand_of, heard, leads, moved, own_of}
use Rattle.k_ipc.specs.SendTable.{passed_word}
use Rattle.k_ipc.proofs.SendLaws.{at_with, hears_word}
use Rattle.k_caller.specs.Owns.{PassedOwns, SendOwns}
use Rattle.k_caller.specs.Waits.{IsWordOf}
use Rattle.k_caller.specs.Activities.{IsSoundSend}
use Rattle.k_caller.proofs.Owned.{either, send_owned}

-- WHAT IS TOLD: each loaded word has a spelling, and a receiver's that was loaded again is a thread's

abbrev TellsWord : SendAt → StateWord → Type 0
TellsWord (Locked locked.ReloadReceiver) w = IsThread w
TellsWord p w = IsStateWord w

abbrev Tells : SendAt → Response → Type 0
Tells p (asks.Word w) = TellsWord p w
Tells p r = Unit {0}

word_told : (p : SendAt) (n : ℕ) → IsFit p (answer.Told (told.Loaded n)) → TellsWord p (state_word_of n)
word_told (Locked locked.ReloadReceiver) n fit = fit.1
word_told p n fit = fit.whole

tells_heard : (c : SendCall) (own : StateWord) (p : SendAt) (a : Answer) → IsFit p a →
    Tells p (response_of a (ask_of c own p))
tells_heard c own p (answer.Told (told.Loaded n)) fit =
    subst (Tells p) (sym (hears_word c own p n)) (word_told p n fit)
tells_heard c own p a fit = tt

-- WHERE IT LEADS

-- a word of a thread is one that a thread has
pub thread_word : (me : ThreadId) (own : StateWord) → IsPartner me → IsWordOf me own → IsThread own
thread_word me own id word = record { whole = word.whole; born = omega (arith, word.version, id.born) }

-- a word that shows a thread is a thread's
pub present_thread : (w : StateWord) (id : ThreadId) → IsPartner id → IsStateWord w →
    is_present_in w id ≡ true → IsThread w
present_thread w id partner whole e =
    let same : w.version ≡ id.version = eqb-true w.version id.version (and_parts (w.version == id.version)
    (not (is_dead w)) e).0 in
    record { whole = whole; born = omega (arith, same, partner.born) }

received : (c : SendCall) (w : StateWord) → IsPartner c.to → IsStateWord w →
    IsSoundAt (Locked (after_receiver c w))
received c w to whole =
    let P : SendLocked → Type 0 = λ q. IsSoundAt (Locked q) in
    by (is_present_in w c.to) refl
    (λ e. either P (takes_from (shows w.state) c.caller c.zero) _ _ (present_thread w c.to to whole e)
    (either P c.zero _ _ tt tt))
  where
    by : (q : Bool) → is_present_in w c.to ≡ q → (is_present_in w c.to ≡ true →
        IsSoundAt (Locked (if takes_from (shows w.state) c.caller c.zero then locked.StoreMail w else (if
        c.zero then locked.Release (release.Refused (reply.Busy (found_in c.to.number w))) else
        locked.CommitWait)))) → IsSoundAt (Locked (after_receiver c w))
    by true e there = rw e (there e)
    by false e there = rw e tt

woken : (w : StateWord) → IsThread w → IsSoundAt (Locked (if w.on then locked.Release release.Passed else
    locked.AcquireReady w.priority))
woken w thread = either (λ q. IsSoundAt (Locked q)) w.on (locked.Release release.Passed)
    (locked.AcquireReady w.priority) tt thread.whole.priority

located : (c : SendCall) (h : Hand) (p : SendAt) (r : Response) → IsPartner c.to → IsSoundAt p → Tells p r →
    IsSoundAt (leads c h p r)
located c h (Outside outside.LoadCaller) (asks.Word w) to sound told = tt
located c h (Outside outside.AcquireReceiver) asks.Got to sound told = tt
located c h (Outside (outside.CheckCaller r)) (asks.Word w) to sound told = tt
located c h (Locked locked.LoadReceiver) (asks.Word w) to sound told = received c w to told
located c h (Locked (locked.StoreMail w)) asks.Stored to sound told = sound
located c h (Locked (locked.CommitPass w)) asks.Won to sound told = sound
located c h (Locked (locked.CommitPass w)) (asks.Lost v) to sound told = tt
located c h (Locked (locked.WakeReceiver w)) asks.Won to sound told = woken w sound
located c h (Locked (locked.WakeReceiver w)) (asks.Lost v) to sound told = tt
located c h (Locked locked.ReloadReceiver) (asks.Word w) to sound told = told
located c h (Locked (locked.AcquireReady priority)) asks.Got to sound told = sound
located c h (Locked locked.CommitWait) asks.Won to sound told = tt
located c h (Locked locked.CommitWait) (asks.Lost v) to sound told = tt
located c h (Locked (locked.Release release.Passed)) asks.Released to sound told = tt
located c h (Locked (locked.Release release.Dead)) asks.Released to sound told = tt
located c h (Locked (locked.Release (release.Refused r))) asks.Released to sound told = tt
located c h (Locked (locked.Release release.Queued)) asks.Released to sound told = tt
located c h (Pushing (pushing.PushReceiver priority)) asks.Released to sound told = tt
located c h p r to sound told = sound

-- THE CALLER'S WORD

passed_thread : (me : ThreadId) (own : StateWord) (m : Manner) → IsPartner me → PassedOwns me own m →
    IsThread own
passed_thread me own manner.Plain id owns = thread_word me own id owns.word
passed_thread me own manner.Joined id owns = thread_word me own id owns.word
passed_thread me own manner.Reply id owns = thread_word me own id owns.word

own_thread : (c : SendCall) (own : StateWord) (h : Hand) (p : SendAt) (r : Response) → IsPartner c.caller →
    IsPartner c.to → IsThread own → SendOwns c own p → IsThread (own_of c own p r)
own_thread c own h (Locked (locked.CommitPass w)) asks.Won id to thread owns =
    passed_thread c.caller (passed_word c.manner c.to own) c.manner id (send_owned c own h (Locked
    (locked.CommitPass w)) asks.Won id to owns)
own_thread c own h (Locked locked.CommitWait) asks.Won id to thread owns =
    thread_word c.caller _ id (send_owned c own h (Locked locked.CommitWait) asks.Won id to owns).word
own_thread c own h p r id to thread owns = thread

pub send_stays : (me : ThreadId) (s : SendSection) (a : Answer) → IsSoundSend me s →
    IsFit (at_of s.location) a → IsSound (moved s a)
send_stays me s a sound fit =
    let h = hand_of s.location in
    let p = at_of s.location in
    record {
      caller = sound.sound.caller;
      to = sound.sound.to;
      own = own_thread s.call s.own h p (heard s a) sound.sound.caller sound.sound.to sound.sound.own
          sound.own;
      located = subst IsSoundAt (sym (at_with (hand_with a (hand_after s.call h p (heard s a))) (leads
          s.call h p (heard s a))))
          (located s.call h p (heard s a) sound.sound.to sound.sound.located (tells_heard s.call s.own p a
          fit));
    }
