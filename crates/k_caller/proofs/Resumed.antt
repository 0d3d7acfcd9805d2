-- What a thread is about once its step was answered.
use Rattle.std.proofs.Common.{◌≡◌, ℕ, Bool, true, false, cond, refl, sym, subst, arith, Some, None}
use Rattle.k_ids.specs.declared.threads.ThreadId.{ThreadId}
use Rattle.k_ids.specs.declared.state_word.StateWord.{StateWord}
use Rattle.k_ids.specs.StateWords.{IsPartner}
use Rattle.k_locks.specs.Asks.{response_of}
use Rattle.k_locks.specs.Steps.{is_again}
use Rattle.k_locks.specs.declared.steps.Answer.{Answer}
use Rattle.k_locks.specs.declared.steps.Went.{Went}
use Rattle.k_locks.specs.declared.steps.Went.TheVariants as went
use Rattle.k_locks.specs.Hands.{hand_with}
use Rattle.k_ipc.specs.declared.send.SendSection.{SendSection}
use Rattle.k_ipc.specs.declared.receive.ReceiveSection.{ReceiveSection}
use Rattle.k_ipc.specs.SendTable.{SendAt}
use Rattle.k_ipc.specs.SendTable as send
use Rattle.k_ipc.specs.ReceiveTable.{ReceiveAt}
use Rattle.k_ipc.specs.ReceiveTable as receive
use Rattle.k_ipc.proofs.SendLaws as send_laws
use Rattle.k_ipc.proofs.ReceiveLaws as receive_laws
use Rattle.k_threads.specs.declared.create.CreateSection.{CreateSection}
use Rattle.k_threads.specs.declared.destroy.DestroySection.{DestroySection}
use Rattle.k_threads.specs.CreateTable as create
use Rattle.k_threads.specs.DestroyTable as destroy
use Rattle.k_caller.specs.declared.activity.Activity.{Activity}
use Rattle.k_caller.specs.declared.activity.Activity.TheVariants as activity
use Rattle.k_caller.specs.declared.thread.ThreadLocation.{ThreadLocation}
use Rattle.k_caller.specs.declared.thread.ThreadLocation.TheVariants as location
use Rattle.k_caller.specs.Waits as alone
use Rattle.k_caller.specs.Owns.{EndOwns, IsPicking, ReceiveOwns, SendOwns}
use Rattle.k_caller.specs.Activities.{IsSoundAt, IsSoundCreate, IsSoundDestroy, IsSoundReceive, IsSoundSend, TellsAt, TellsIn, activity_after, after_went, ran_after, ran_at, section_went}
use Rattle.k_caller.proofs.Owned.{receive_owned, send_owned}

-- ANSWERED: a section stays its caller's, and sound

-- what either choice keeps
kept : {A : Type 0} (P Q : A → Type 0) (b : Bool) (x y : A) → P (cond b x y) → Q x → (P y → Q y) → Q (cond b x y)
kept P Q true x y sound old new = old
kept P Q false x y sound old new = new sound

send_moved : (me : ThreadId) (s : SendSection) (a : Answer) → IsSoundSend me s → send.IsSound (send.moved s a) → IsSoundSend me (send.moved s a)
send_moved me s a old now = record {
  sound = now;
  caller = old.caller;
  own = subst (λ (p : SendAt). SendOwns s.call (send.moved s a).own p) (sym (send_laws.at_with (hand_with a (send.hand_after s.call (send.hand_of s.location) (send.at_of s.location) (send.heard s a))) (send.leads s.call (send.hand_of s.location) (send.at_of s.location) (send.heard s a)))) (send_owned s.call s.own (send.hand_of s.location) (send.at_of s.location) (send.heard s a) old.sound.caller old.sound.to old.own);
}

pub send_resumed : (me : ThreadId) (s t : SendSection) (a : Answer) → IsSoundSend me s → t ≡ send.resumed s a → send.IsSound t → IsSoundSend me t
send_resumed me s t a old e now = subst (IsSoundSend me) (sym e) (kept send.IsSound (IsSoundSend me) (is_again a) s (send.moved s a) (subst send.IsSound e now) old (send_moved me s a old))

receive_moved : (me : ThreadId) (s : ReceiveSection) (a : Answer) → IsSoundReceive me s → receive.IsSound (receive.moved s a) → IsSoundReceive me (receive.moved s a)
receive_moved me s a old now = record {
  sound = now;
  caller = old.caller;
  own = subst (λ (p : ReceiveAt). ReceiveOwns s.call (receive.moved s a).own p) (sym (receive_laws.at_with (hand_with a (receive.hand_after s.call (receive.hand_of s.location) (receive.at_of s.location) (receive.heard s a))) (receive.leads s.call (receive.hand_of s.location) (receive.at_of s.location) (receive.heard s a)))) (receive_owned s.call s.own (receive.hand_of s.location) (receive.at_of s.location) (receive.heard s a) old.sound.caller old.sound.from old.own);
}

pub receive_resumed : (me : ThreadId) (s t : ReceiveSection) (a : Answer) → IsSoundReceive me s → t ≡ receive.resumed s a → receive.IsSound t → IsSoundReceive me t
receive_resumed me s t a old e now = subst (IsSoundReceive me) (sym e) (kept receive.IsSound (IsSoundReceive me) (is_again a) s (receive.moved s a) (subst receive.IsSound e now) old (receive_moved me s a old))

create_moved : (me : ThreadId) (s : CreateSection) (a : Answer) → IsSoundCreate me s → create.IsSound (create.moved s a) → IsSoundCreate me (create.moved s a)
create_moved me s a old now = record { sound = now; caller = old.caller }

pub create_resumed : (me : ThreadId) (s t : CreateSection) (a : Answer) → IsSoundCreate me s → t ≡ create.resumed s a → create.IsSound t → IsSoundCreate me t
create_resumed me s t a old e now = subst (IsSoundCreate me) (sym e) (kept create.IsSound (IsSoundCreate me) (is_again a) s (create.moved s a) (subst create.IsSound e now) old (create_moved me s a old))

destroy_moved : (me : ThreadId) (s : DestroySection) (a : Answer) → IsSoundDestroy me s → destroy.IsSound (destroy.moved s a) → IsSoundDestroy me (destroy.moved s a)
destroy_moved me s a old now = record { sound = now; caller = old.caller }

pub destroy_resumed : (me : ThreadId) (s t : DestroySection) (a : Answer) → IsSoundDestroy me s → t ≡ destroy.resumed s a → destroy.IsSound t → IsSoundDestroy me t
destroy_resumed me s t a old e now = subst (IsSoundDestroy me) (sym e) (kept destroy.IsSound (IsSoundDestroy me) (is_again a) s (destroy.moved s a) (subst destroy.IsSound e now) old (destroy_moved me s a old))

-- ENDED: what the thread is about where a section has gone on so

pick_sound : (me : ThreadId) (own : StateWord) → IsPartner me → IsPicking me own → IsSoundReceive me (receive.receive_of (record { caller = me; from = None; zero = false; picks = true }) own)
pick_sound me own id picks = record {
  sound = record { caller = id; from = tt; own = record { whole = picks.word.whole; born = omega (arith, picks.word.version, id.born) }; located = tt };
  caller = refl;
  own = picks;
}

pub ended_sound : (me : ThreadId) (own : StateWord) (a : Activity) (w : Went) → IsPartner me → IsSoundAt me own a → EndOwns me own w → IsSoundAt me own (after_went me own a w)
ended_sound me own a went.On id sound owns = sound
ended_sound me own a went.Again id sound owns = sound
ended_sound me own a (went.Pushed priority) id sound owns = sound
ended_sound me own a went.Waits id sound owns = (owns.word, owns.waiting)
ended_sound me own a (went.Ends r) id sound owns = (owns.word, owns.running)
ended_sound me own a went.CallerDead id sound owns = tt
ended_sound me own a went.Picks id sound owns = pick_sound me own id owns

-- TOLD: where the reply names threads of a table, so does the one that the next call takes in

section_tells : (table serial : ℕ) (me : ThreadId) (own : StateWord) (a : Activity) (w : Went) → TellsAt table a → TellsIn table (ran_after serial w) → TellsAt table (after_went me own a w)
section_tells table serial me own a went.On old tells = old
section_tells table serial me own a went.Again old tells = old
section_tells table serial me own a (went.Pushed priority) old tells = old
section_tells table serial me own a went.Waits old tells = tt
section_tells table serial me own a (went.Ends r) old tells = tells
section_tells table serial me own a went.CallerDead old tells = tt
section_tells table serial me own a went.Picks old tells = tt

alone_tells : (table serial : ℕ) (p : ThreadLocation) → TellsIn table (alone.ran_to serial p) → TellsAt table (activity.Alone p)
alone_tells table serial (location.Between (Some r)) tells = tells
alone_tells table serial (location.Between None) tells = tt
alone_tells table serial location.FallAsleep tells = tt
alone_tells table serial location.LookAgain tells = tt
alone_tells table serial (location.LoadMail from) tells = tt
alone_tells table serial (location.Work count) tells = tt
alone_tells table serial location.CommitEnd tells = tt
alone_tells table serial location.Asleep tells = tt
alone_tells table serial location.Ended tells = tt
alone_tells table serial location.Dead tells = tt

pub after_tells : (table serial : ℕ) (me : ThreadId) (own : StateWord) (a : Activity) (answer : Answer) → TellsIn table (ran_at serial me own a answer) → TellsAt table (activity_after me own a answer)
after_tells table serial me own (activity.Alone p) answer tells = alone_tells table serial (alone.leads p (response_of answer (alone.ask_of me own p))) tells
after_tells table serial me own (activity.Send s) answer tells = section_tells table serial me (send.resumed s answer).own (activity.Send (send.resumed s answer)) (section_went (activity.Send s) answer) tt tells
after_tells table serial me own (activity.Receive s) answer tells = section_tells table serial me (receive.resumed s answer).own (activity.Receive (receive.resumed s answer)) (section_went (activity.Receive s) answer) tt tells
after_tells table serial me own (activity.Create s) answer tells = section_tells table serial me (create.resumed s answer).own (activity.Create (create.resumed s answer)) (section_went (activity.Create s) answer) tt tells
after_tells table serial me own (activity.Destroy s) answer tells = section_tells table serial me (destroy.resumed s answer).own (activity.Destroy (destroy.resumed s answer)) (section_went (activity.Destroy s) answer) tt tells
