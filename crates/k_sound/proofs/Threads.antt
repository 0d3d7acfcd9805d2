-- A thread's context stays sound: where its next call begins, where it is asked for its step, and where
-- that was answered.
use Rattle.std.proofs.Common.{◌≡◌, ◌≤◌, ◌<◌, ℕ, Bool, true, false, refl, sym, subst, arith, Option, IfSome}
use Rattle.std.specs.Prelude.{if◌then◌else◌}
use Rattle.k_ids.specs.declared.calls.Phase.{Phase}
use Rattle.k_ids.specs.declared.calls.Phase.TheVariants as phase
use Rattle.k_ids.specs.declared.calls.Reply.{Reply}
use Rattle.k_ids.specs.declared.threads.ThreadId.{ThreadId}
use Rattle.k_ids.specs.declared.state_word.StateWord.{StateWord}
use Rattle.k_ids.specs.StateWords.{IsPartner}
use Rattle.k_locks.specs.Asks.{response_of}
use Rattle.k_locks.specs.Steps.{is_again, one_more, suits}
use Rattle.k_locks.specs.declared.steps.Answer.{Answer}
use Rattle.k_locks.specs.declared.steps.Answer.TheVariants as answer
use Rattle.k_script.specs.Limits.{IsScript}
use Rattle.k_script.specs.Plays.{IsInRange, next_of, went_on}
use Rattle.k_script.specs.Script.{Script}
use Rattle.k_script.specs.declared.registers.Next.{Next}
use Rattle.k_script.specs.declared.registers.Next.TheVariants as next
use Rattle.k_script.proofs.Within.{start_within}
use Rattle.k_ipc.specs.declared.receive.ReceiveCall.{ReceiveCall}
use Rattle.k_ipc.specs.declared.send.Manner.TheVariants as manner
use Rattle.k_ipc.specs.declared.send.SendCall.{SendCall}
use Rattle.k_ipc.specs.SendTable as send
use Rattle.k_ipc.specs.ReceiveTable as receive
use Rattle.k_ipc.proofs.SendLaws as send_laws
use Rattle.k_ipc.proofs.ReceiveLaws as receive_laws
use Rattle.k_threads.specs.CreateTable as create
use Rattle.k_threads.specs.DestroyTable as destroy
use Rattle.k_caller.specs.declared.activity.Activity.{Activity}
use Rattle.k_caller.specs.declared.activity.Activity.TheVariants as activity
use Rattle.k_caller.specs.declared.thread.ThreadLocation.TheVariants as location
use Rattle.k_caller.specs.Activities.{IsFitAt, IsSoundAt, IsSoundReceive, IsSoundSend, TellsAt}
use Rattle.k_caller.specs.Activities.{activity_after, asked_activity, is_open, own_after, section_went}
use Rattle.k_caller.specs.Activities.{step_at}
use Rattle.k_caller.specs.Owns.{IsRunning, ReceiveOwns, SendOwns}
use Rattle.k_caller.specs.Threads.{IsFit, IsSound, NamesIn, ThreadSeen, asked, begun, begun_at, begun_by}
use Rattle.k_caller.specs.Threads.{begun_next, moved, resumed, step_of, thread_of}
use Rattle.k_caller.specs.Threads as threads
use Rattle.k_caller.specs.Waits as alone
use Rattle.k_caller.proofs.Answered.{answered_sound}
use Rattle.k_caller.proofs.Begun.{begun_names, called_sound, own_runs, partner, partners, receive_begun}
use Rattle.k_caller.proofs.Begun.{send_begun, worked_sound}
use Rattle.k_caller.proofs.Owned.{create_section_goes, destroy_section_goes, receive_section_goes}
use Rattle.k_caller.proofs.Owned.{send_section_goes}
use Rattle.k_caller.proofs.Resumed.{create_resumed, destroy_resumed, ended_sound, receive_resumed}
use Rattle.k_caller.proofs.Resumed.{send_resumed}
use Rattle.k_sound.specs.Hands.{HasProper}
use Rattle.k_sound.proofs.Alones.{alone_stays}
use Rattle.k_sound.proofs.Creates.{create_asked, create_stays}
use Rattle.k_sound.proofs.Destroys.{destroy_asked, destroy_stays}
use Rattle.k_sound.proofs.Receives.{receive_stays}
use Rattle.k_sound.proofs.Sends.{send_stays, thread_word}

-- THE NEXT CALL BEGINS

send_call : (table : ℕ) (c : SendCall) (own : StateWord) → IsPartner c.caller → IsRunning c.caller own →
    table ≤ 64 → IsInRange table c.to → IsSoundSend c.caller (send.send_of c own)
send_call table c own id running few to = send_begun c own (send.send_of c own) refl
    (record {
      caller = id;
      to = partner table c.to few to;
      own =
          thread_word c.caller own id running.word;
      located = tt;
    }) running

receive_call : (table : ℕ) (c : ReceiveCall) (own : StateWord) → c.picks ≡ false → IsPartner c.caller →
    IsRunning c.caller own → table ≤ 64 → IfSome c.from (IsInRange table) →
    IsSoundReceive c.caller (receive.receive_of c own)
receive_call table c own plain id running few from = receive_begun c own (receive.receive_of c own) refl plain
    (record {
      caller = id;
      from = partners table c.from few from;
      own =
          thread_word c.caller own id running.word;
      located = tt;
    }) running

call_sound : (table : ℕ) (me : ThreadId) (own : StateWord) (f : Phase) → IsPartner me → IsRunning me own →
    table ≤ 64 → NamesIn table f → IsSoundAt me own (begun_by table me own f)
call_sound table me own (phase.Send to message zero joined) id running few names =
    send_call table (record {
      caller = me;
      to = to;
      message = message;
      zero = zero;
      manner =
          send.manner_of joined;
    }) own id running few names
call_sound table me own (phase.Reply to message zero) id running few names =
    send_call table (record {
      caller = me;
      to = to;
      message = message;
      zero = zero;
      manner =
          manner.Reply;
    }) own id running few names
call_sound table me own (phase.Receive from zero) id running few names =
    receive_call table (record {
      caller = me;
      from = from;
      zero = zero;
      picks =
          false;
    }) own refl id running few names
call_sound table me own (phase.Create program priority) id running few names = record {
  sound = record {
    priority = omega (arith, names);
    own = thread_word me own id running.word;
    version = running.word.version;
    running = running.running;
    located = tt;
  };
  caller = refl;
}
call_sound table me own (phase.Destroy who) id running few names = record {
  sound = record {
    call = record { victim = partner table who few names; size = few };
    own = thread_word me own id running.word;
    version = running.word.version;
    running = running.running;
    located = tt;
  };
  caller = refl;
}
call_sound table me own phase.End id running few names = (running.word, running.running)

next_begun : (script : Script) (t : ThreadSeen) (last : Option Reply) (n : Next) → IsScript script →
    IsSound script t → t.activity ≡ activity.Alone (location.Between last) →
    next_of script.version t.position last ≡ n →
    IsSound script (begun_next script.table (record t { position = went_on t.position last }) n)
next_begun script t last (next.Phase f) whole sound at n =
    let own = own_runs script t last sound at in
    called_sound script t last f script.table (one_more t.serial) 0 (begun_by script.table t.id t.own f)
    sound at n
    (call_sound script.table t.id t.own f sound.id (record {
      word = own.0;
      running =
          own.1;
    }) whole.table.1 (begun_names script t last f sound at n)) refl
next_begun script t last (next.Work count) whole sound at n =
    worked_sound script t last count t.serial t.done sound at n

begun_here : (script : Script) (t : ThreadSeen) (a : Activity) → IsScript script → IsSound script t →
    t.activity ≡ a → IsSound script (begun_at script t a)
begun_here script t (activity.Alone (location.Between last)) whole sound at =
    next_begun script t last (next_of script.version t.position last) whole sound at refl
begun_here script t a whole sound at = sound

pub thread_begun : (script : Script) (t : ThreadSeen) → IsScript script → IsSound script t →
    IsSound script (begun script t)
thread_begun script t whole sound = begun_here script t t.activity whole sound refl

-- IT IS ASKED FOR ITS STEP

asked_at : (me : ThreadId) (own : StateWord) (a : Activity) → IsSoundAt me own a →
    IsSoundAt me own (asked_activity a)
asked_at me own (activity.Alone p) sound = sound
asked_at me own (activity.Send s) sound = record {
  sound = send_laws.asked_sound s sound.sound;
  caller = sound.caller;
  own = subst (SendOwns s.call s.own) (sym (send_laws.asked_at s.location)) sound.own;
}
asked_at me own (activity.Receive s) sound = record {
  sound = receive_laws.asked_sound s sound.sound;
  caller = sound.caller;
  own = subst (ReceiveOwns s.call s.own) (sym (receive_laws.asked_at s.location)) sound.own;
}
asked_at me own (activity.Create s) sound = record {
  sound = create_asked s sound.sound;
  caller =
      sound.caller;
}
asked_at me own (activity.Destroy s) sound = record {
  sound = destroy_asked s sound.sound;
  caller =
      sound.caller;
}

asked_tells : (table : ℕ) (a : Activity) → TellsAt table a → TellsAt table (asked_activity a)
asked_tells table (activity.Alone p) tells = tells
asked_tells table (activity.Send s) tells = tt
asked_tells table (activity.Receive s) tells = tt
asked_tells table (activity.Create s) tells = tt
asked_tells table (activity.Destroy s) tells = tt

pub thread_asked : (script : Script) (t : ThreadSeen) → IsSound script t → IsSound script (asked t)
thread_asked script t sound = record {
  id = sound.id;
  inside = sound.inside;
  within = sound.within;
  doing = asked_at t.id t.own t.activity sound.doing;
  tells = asked_tells script.table t.activity sound.tells;
}

-- ITS STEP WAS ANSWERED

-- what a section is where the same step isn't asked for again
went : {A : Type 0} (P : A → Type 0) (b : Bool) (x y : A) → b ≡ false → P y → P (if b then x else y)
went P true x y e h = absurd cc
went P false x y e h = h

answered_at : (me : ThreadId) (own : StateWord) (a : Activity) (x : Answer) → IsPartner me →
    is_open a ≡ true → IsSoundAt me own a → suits (step_at me own a) x ≡ true → HasProper a →
    IsFitAt me own a x → is_again x ≡ false → IsSoundAt me (own_after me own a x) (activity_after me own a x)
answered_at me own (activity.Alone p) (answer.Told t) id opened sound suiting proper fit once =
    alone_stays me own p (response_of (answer.Told t) (alone.ask_of me own p)) sound fit.fit
answered_at me own (activity.Alone p) (answer.Got g) id opened sound suiting proper fit once = absurd fit
answered_at me own (activity.Send s) x id opened sound suiting proper fit once =
    let now : send.IsSound (send.resumed s x) =
    went send.IsSound (is_again x) s (send.moved s x) once (send_stays me s x sound fit) in
    ended_sound me (send.resumed s x).own (activity.Send (send.resumed s x)) (section_went (activity.Send s)
    x) id (send_resumed me s (send.resumed s x) x sound refl now) (send_section_goes me s x id sound once)
answered_at me own (activity.Receive s) x id opened sound suiting proper fit once =
    let now : receive.IsSound (receive.resumed s x) =
    went receive.IsSound (is_again x) s (receive.moved s x) once (receive_stays me s x sound suiting
    proper.once fit) in
    ended_sound me (receive.resumed s x).own (activity.Receive (receive.resumed s x)) (section_went
    (activity.Receive s) x) id (receive_resumed me s (receive.resumed s x) x sound refl now)
    (receive_section_goes me s x id sound once)
answered_at me own (activity.Create s) x id opened sound suiting proper fit once =
    let now : create.IsSound (create.resumed s x) =
    went create.IsSound (is_again x) s (create.moved s x) once (create_stays me s x sound suiting
    proper.few) in
    ended_sound me (create.resumed s x).own (activity.Create (create.resumed s x)) (section_went
    (activity.Create s) x) id (create_resumed me s (create.resumed s x) x sound refl now)
    (create_section_goes me s x id sound opened once)
answered_at me own (activity.Destroy s) x id opened sound suiting proper fit once =
    let now : destroy.IsSound (destroy.resumed s x) =
    went destroy.IsSound (is_again x) s (destroy.moved s x) once (destroy_stays me s x sound suiting
    fit) in
    ended_sound me (destroy.resumed s x).own (activity.Destroy (destroy.resumed s x)) (section_went
    (activity.Destroy s) x) id (destroy_resumed me s (destroy.resumed s x) x sound refl now)
    (destroy_section_goes me s x id sound opened once)

pub thread_answered : (script : Script) (t : ThreadSeen) (x : Answer) → threads.is_open t ≡ true →
    IsSound script t → suits (step_of t) x ≡ true → HasProper t.activity → IsFit script t x →
    IsSound script (resumed t x)
thread_answered script t x opened sound suiting proper fit = by (is_again x) refl
  where
    by : (b : Bool) → is_again x ≡ b → IsSound script (if b then t else moved t x)
    by true e = sound
    by false e = answered_sound script t x (own_after t.id t.own t.activity x) _ (activity_after t.id t.own
        t.activity x) sound fit e refl (answered_at t.id t.own t.activity x sound.id opened sound.doing
        suiting proper fit.told e)

-- A NEW ONE

pub thread_new : (script : Script) (id : ThreadId) (program priority : ℕ) → IsScript script →
    IsInRange script.table id → priority < 64 → IsSound script (thread_of script id program priority)
thread_new script id program priority whole inside low =
    let partner : IsPartner id = partner script.table id whole.table.1 inside in
    record {
      id = partner;
      inside = inside.number;
      within = start_within script program id whole inside;
      doing = (
        record {
          whole = record {
            version = partner.version;
            priority = low;
            partner = tt;
            agrees =
                inside.first;
          };
          version = refl;
        },
        refl,
      );
      tells = tt;
    }
