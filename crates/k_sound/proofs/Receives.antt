-- A receive, or a pick, stays sound over its step.
use Rattle.std.proofs.Common.{◌≡◌, Bool, true, false, refl, subst, Option, Some, None, IfSome}
use Rattle.std.proofs.lemmas.Bool.{and_parts, false≢true}
use Rattle.std.specs.Prelude.{◌==◌, if◌then◌else◌}
use Rattle.k_ids.specs.declared.threads.ThreadId.{ThreadId}
use Rattle.k_ids.specs.declared.state_word.Result4.TheVariants as result4
use Rattle.k_ids.specs.declared.state_word.State.{State}
use Rattle.k_ids.specs.declared.state_word.State.TheVariants as state
use Rattle.k_ids.specs.declared.state_word.StateWord.{StateWord}
use Rattle.k_ids.specs.StateWords.{Agrees, IsPartner, IsStateWord, state_word_of}
use Rattle.k_senders.specs.declared.entries.SenderEntry.{SenderEntry}
use Rattle.k_senders.specs.Entries.{number_of, sender_of}
use Rattle.k_senders.specs.Queue.{IsOnceEach, Queue}
use Rattle.k_locks.specs.Asks.{Response, response_of}
use Rattle.k_locks.specs.Asks as asks
use Rattle.k_locks.specs.Hands.{hand_with}
use Rattle.k_locks.specs.Shown.{is_dead, is_present_in}
use Rattle.k_locks.specs.Steps.{suits}
use Rattle.k_locks.specs.Threads.{IsThread}
use Rattle.k_locks.specs.declared.goods.Goods.TheVariants as goods
use Rattle.k_locks.specs.declared.steps.Answer.{Answer}
use Rattle.k_locks.specs.declared.steps.Answer.TheVariants as answer
use Rattle.k_locks.specs.declared.steps.Told.TheVariants as told
use Rattle.k_ipc.specs.Candidates.{first_admitted, past}
use Rattle.k_ipc.specs.Words.{sends_to}
use Rattle.k_ipc.specs.declared.receive.ReceiveCall.{ReceiveCall}
use Rattle.k_ipc.specs.declared.receive.ReceiveLocation.{ReceiveLocation}
use Rattle.k_ipc.specs.declared.receive.ReceiveLocation.TheVariants as location
use Rattle.k_ipc.specs.declared.receive.ReceiveLocked.{ReceiveLocked}
use Rattle.k_ipc.specs.declared.receive.ReceiveLocked.TheVariants as locked
use Rattle.k_ipc.specs.declared.receive.ReceiveOutside.TheVariants as outside
use Rattle.k_ipc.specs.declared.receive.ReceivePushing.TheVariants as pushing
use Rattle.k_ipc.specs.declared.receive.ReceiveRelease.TheVariants as release
use Rattle.k_ipc.specs.declared.receive.ReceiveSection.{ReceiveSection}
use Rattle.k_ipc.specs.ReceiveTable.{IsCandidate, IsFit, IsSound, IsSoundLocation, IsSoundLocked, IsWaiting}
use Rattle.k_ipc.specs.ReceiveTable.{ReceiveAt, Locked, after_free, after_wait, ask_of, at_of, hand_after}
use Rattle.k_ipc.specs.ReceiveTable.{hand_of, heard, leads, location_with, moved, next_of, none_left, own_of}
use Rattle.k_ipc.specs.ReceiveTable.{picking_by, step_of, stays_out, still_waits, try_next, try_sender}
use Rattle.k_ipc.proofs.Chosen.{first_is, next_is}
use Rattle.k_caller.specs.Activities.{IsSoundReceive}
use Rattle.k_caller.specs.Owns.{ReceiveOwns}
use Rattle.k_caller.proofs.Owned.{either, word_in}
use Rattle.k_sound.proofs.Sends.{thread_word}

-- THE CANDIDATE THAT IS TRIED

first_candidate : (c : ReceiveCall) (q : Queue) (e : SenderEntry) → IsOnceEach q.entries →
    first_admitted c.from q.entries ≡ Some e → IsCandidate c q e
first_candidate c q e once found =
    let first = first_is c.from q.entries e once found in
    record { standing = first.standing; wanted = first.wanted }

next_candidate : (c : ReceiveCall) (q : Queue) (d e : SenderEntry) → IsOnceEach q.entries →
    IsCandidate c q d → first_admitted c.from (past (number_of d) q.entries) ≡ Some e → IsCandidate c q e
next_candidate c q d e once tried found =
    let next = next_is c.from q.entries d e once tried.standing tried.wanted found in
    record { standing = next.standing; wanted = next.wanted }

none_sound : (c : ReceiveCall) (q : Queue) → IsSoundLocked c (none_left c) q
none_sound c q = either (λ p. IsSoundLocked c p q) c.zero (locked.Release release.Nobody) locked.CommitWait
    tt tt

sender_sound : (c : ReceiveCall) (q : Queue) (o : Option SenderEntry) → ((e : SenderEntry) → o ≡ Some e →
    IsCandidate c q e) → IsSoundLocked c (try_sender c o) q
sender_sound c q (Some e) is = is e refl
sender_sound c q None is = none_sound c q

next_sound : (c : ReceiveCall) (q : Queue) (o : Option SenderEntry) → ((e : SenderEntry) → o ≡ Some e →
    IsCandidate c q e) → IsSoundLocked c (try_next o) q
next_sound c q (Some e) is = is e refl
next_sound c q None is = tt

picking_sound : (c : ReceiveCall) (q : Queue) (o : Option SenderEntry) (s : State) → ((e : SenderEntry) →
    o ≡ Some e → IsCandidate c q e) → IsSoundLocked c (picking_by o s) q
picking_sound c q o state.Dead is = tt
picking_sound c q o state.Picking is = next_sound c q o is
picking_sound c q o (state.Run result) is = tt
picking_sound c q o (state.Sending to joined) is = tt
picking_sound c q o (state.Receiving from) is = tt
picking_sound c q o state.Ended is = tt

waited_sound : (c : ReceiveCall) (q : Queue) (from : Option ThreadId) → IsSoundLocked c (after_wait from) q
waited_sound c q None = tt
waited_sound c q (Some from) = tt

freed_sound : (c : ReceiveCall) (q : Queue) (e : SenderEntry) (w : StateWord) → IsCandidate c q e →
    IsSoundLocked c (after_free e w) q
freed_sound c q e w tried = either (λ p. IsSoundLocked c p q) (stays_out w) (locked.Release (release.Taken
    e)) (locked.AcquireReady e) tried tried

-- a word of one that sends is a thread's
sending_thread : (to : ThreadId) (w : StateWord) → IsStateWord w → sends_to to w.state ≡ true → IsThread w
sending_thread to w whole e = by w.state refl e
  where
    by : (s : State) → w.state ≡ s → sends_to to s ≡ true → IsThread w
    by (state.Sending t joined) q e = record {
      whole = whole;
      born =
          subst (λ (s : State). Agrees s w) q whole.agrees;
    }
    by state.Dead q e = absurd (false≢true e)
    by (state.Run result) q e = absurd (false≢true e)
    by (state.Receiving from) q e = absurd (false≢true e)
    by state.Picking q e = absurd (false≢true e)
    by state.Ended q e = absurd (false≢true e)

waiting_sound : (c : ReceiveCall) (q : Queue) (e : SenderEntry) (w : StateWord) → IsCandidate c q e →
    IsStateWord w → still_waits c e w ≡ true → IsWaiting c q e w
waiting_sound c q e w tried whole waits = record {
  candidate = tried;
  word = sending_thread c.caller w whole (and_parts (w.version == (sender_of e).version) (sends_to c.caller
      w.state) waits).1;
}

-- by whether the candidate's sender still waits
choice : (P : ReceiveLocked → Type 0) (b : Bool) (x y : ReceiveLocked) → (b ≡ true → P x) → P y →
    P (if b then x else y)
choice P true x y so other = so refl
choice P false x y so other = other

-- WHERE IT LEADS

abbrev Stays : ReceiveCall → StateWord → ReceiveLocation → Answer → Type 0
Stays c own l a =
    let r = response_of a (ask_of c own (at_of l)) in
    IsSoundLocation c (location_with (hand_with a (hand_after c (hand_of l) (at_of l) r)) (leads c (hand_of
    l) (at_of l) r))

located : (c : ReceiveCall) (own : StateWord) (l : ReceiveLocation) (a : Answer) →
    suits (next_of c own (hand_of l) (at_of l)) a ≡ true → IsOnceEach (hand_of l).queue.entries →
    IsFit (at_of l) a → IsSoundLocation c l → Stays c own l a
located c own (location.Outside outside.LoadCaller) (answer.Told (told.Loaded n)) s once fit sound = tt
located c own (location.Outside outside.AcquireOwn) (answer.Got g) s once fit sound =
    either (λ p. IsSoundLocked c p (hand_with (answer.Got g) (hand_of (location.Outside
    outside.AcquireOwn))).queue) c.picks locked.LoadPicking locked.LoadOwn tt tt
located c own (location.Outside outside.AcquireOwn) (answer.Told (told.Owned owner)) s once fit sound = tt
located c own (location.Outside (outside.Ended w)) (answer.Told (told.Loaded n)) s once fit sound = tt
located c own (location.Locked locked.LoadOwn q) (answer.Told (told.Loaded n)) s once fit sound =
    either (λ p. IsSoundLocked c p q) (is_dead (state_word_of n)) (locked.Release release.Dead) (try_sender
    c (first_admitted c.from q.entries)) tt
    (sender_sound c q (first_admitted c.from q.entries) (λ e found. first_candidate c q e once found))
located c own (location.Locked (locked.LoadSender d) q) (answer.Told (told.Loaded n)) s once fit sound =
    let o = first_admitted c.from (past (number_of d) q.entries) in
    choice (λ p. IsSoundLocked c p q) (still_waits c d (state_word_of n)) (locked.FreeSender d
    (state_word_of n)) (try_sender c o)
    (λ waits. waiting_sound c q d (state_word_of n) sound fit.whole waits)
    (sender_sound c q o (λ e found. next_candidate c q d e once sound found))
located c own (location.Locked (locked.FreeSender d w) q) (answer.Told told.Won) s once fit sound =
    freed_sound c q d w sound.candidate
located c own (location.Locked (locked.FreeSender d w) q) (answer.Told (told.Lost n)) s once fit sound =
    sound.candidate
located c own (location.Locked (locked.AcquireReady d) q) (answer.Got (goods.Ready lists)) s once fit sound
    = sound
located c own (location.Locked (locked.AcquireReady d) q) (answer.Told (told.Owned owner)) s once fit sound
    = sound
located c own (location.Locked locked.CommitWait q) (answer.Told told.Won) s once fit sound =
    waited_sound c q c.from
located c own (location.Locked locked.CommitWait q) (answer.Told (told.Lost n)) s once fit sound = tt
located c own (location.Locked (locked.LoadPartner from) q) (answer.Told (told.Loaded n)) s once fit sound =
    either (λ p. IsSoundLocked c p q) (is_present_in (state_word_of n) from) (locked.Release release.Waits)
    (locked.CommitGone from) tt tt
located c own (location.Locked (locked.CommitGone from) q) (answer.Told told.Won) s once fit sound = tt
located c own (location.Locked (locked.CommitGone from) q) (answer.Told (told.Lost n)) s once fit sound = tt
located c own (location.Locked locked.LoadPicking q) (answer.Told (told.Loaded n)) s once fit sound =
    picking_sound c q (first_admitted c.from q.entries) (state_word_of n).state (λ e found. first_candidate
    c q e once found)
located c own (location.Locked (locked.LoadNext d) q) (answer.Told (told.Loaded n)) s once fit sound =
    let o = first_admitted c.from (past (number_of d) q.entries) in
    choice (λ p. IsSoundLocked c p q) (still_waits c d (state_word_of n)) (locked.FreeNext d (state_word_of
    n)) (try_next o)
    (λ waits. waiting_sound c q d (state_word_of n) sound fit.whole waits)
    (next_sound c q o (λ e found. next_candidate c q d e once sound found))
located c own (location.Locked (locked.FreeNext d w) q) (answer.Told told.Won) s once fit sound =
    sound.candidate
located c own (location.Locked (locked.FreeNext d w) q) (answer.Told (told.Lost n)) s once fit sound =
    sound.candidate
located c own (location.Locked (locked.EndPick d w) q) (answer.Told told.Won) s once fit sound =
    freed_sound c q d w sound
located c own (location.Locked (locked.EndPick d w) q) (answer.Told (told.Lost n)) s once fit sound = sound
located c own (location.Locked locked.SettlePick q) (answer.Told told.Won) s once fit sound = tt
located c own (location.Locked locked.SettlePick q) (answer.Told (told.Lost n)) s once fit sound = tt
located c own (location.Locked (locked.Release r) q) (answer.Told told.Released) s once fit sound = tt
located c own (location.Pushing (pushing.LoadFreed d) q lists) (answer.Told (told.Loaded n)) s once fit
    sound = (sound, fit.whole.priority)
located c own (location.Pushing (pushing.PushFreed d w) q lists) (answer.Told told.Released) s once fit
    sound = sound.0
located c own (location.ListsReturned d w q) (answer.Told told.Released) s once fit sound = sound
located c own (location.QueueReturned r) (answer.Told told.Released) s once fit sound = tt
located c own l a s once fit sound = absurd (false≢true s)

-- THE CALLER'S WORD

own_thread : (c : ReceiveCall) (own : StateWord) (p : ReceiveAt) (r : Response) → IsPartner c.caller →
    IfSome c.from IsPartner → IsThread own → ReceiveOwns c own p → IsThread (own_of c own p r)
own_thread c own (Locked locked.CommitWait) asks.Won id from thread owns =
    thread_word c.caller _ id (word_in c.caller own own.on (state.Receiving c.from) id owns.word refl from)
own_thread c own (Locked (locked.CommitGone f)) asks.Won id from thread owns =
    thread_word c.caller _ id (word_in c.caller own own.on (state.Run result4.Gone) id owns.word refl tt)
own_thread c own (Locked (locked.EndPick e w)) asks.Won id from thread owns =
    thread_word c.caller _ id (word_in c.caller own true (state.Run result4.Plain) id owns.word refl tt)
own_thread c own (Locked locked.SettlePick) asks.Won id from thread owns =
    thread_word c.caller _ id (word_in c.caller own true (state.Receiving None) id owns.word refl tt)
own_thread c own p r id from thread owns = thread

pub receive_stays : (me : ThreadId) (s : ReceiveSection) (a : Answer) → IsSoundReceive me s →
    suits (step_of s) a ≡ true → IsOnceEach (hand_of s.location).queue.entries →
    IsFit (at_of s.location) a → IsSound (moved s a)
receive_stays me s a sound suiting once fit = record {
  caller = sound.sound.caller;
  from = sound.sound.from;
  own = own_thread s.call s.own (at_of s.location) (heard s a) sound.sound.caller sound.sound.from
      sound.sound.own sound.own;
  located = located s.call s.own s.location a suiting once fit sound.sound.located;
}
