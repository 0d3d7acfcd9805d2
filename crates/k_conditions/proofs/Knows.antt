-- What the board says of the words that a location loads, and of the reply that it is about to give, follows from the
-- facts of the location.
use Rattle.std.proofs.Common.{◌≡◌, ◌⊎◌, ◌≤◌, ◌<◌, ℕ, Bool, true, false, not, refl, sym, ap, ◌∙◌, subst, arith, inl}
use Rattle.std.proofs.Common.{inr, Some, List, [], ◌∷◌, length}
use Rattle.std.proofs.lemmas.Bool.{and_parts, eq-eqb, eqb-true, false≢true}
use Rattle.std.specs.Prelude.{◌==◌, if◌then◌else◌}
use Rattle.k_ids.specs.declared.calls.Phase.{Phase}
use Rattle.k_ids.specs.declared.calls.Phase.TheVariants as phase
use Rattle.k_ids.specs.declared.calls.Reply.{Reply}
use Rattle.k_ids.specs.declared.state_word.State.{State}
use Rattle.k_ids.specs.declared.state_word.State.TheVariants as state
use Rattle.k_ids.specs.declared.state_word.StateWord.{StateWord}
use Rattle.k_ids.specs.declared.threads.ThreadId.{ThreadId}
use Rattle.k_ids.specs.StateWords.{IsPartner}
use Rattle.k_model.specs.State.{KernelState, id_of, same_id}
use Rattle.k_model.specs.Step.{is_own}
use Rattle.k_senders.specs.declared.entries.SenderEntry.{SenderEntry}
use Rattle.k_senders.specs.Entries.{number_of, sender_of}
use Rattle.k_senders.specs.Queue.{entry_of, first_number}
use Rattle.k_locks.specs.Hands.{Hand}
use Rattle.k_locks.specs.Numbers.{ThreadNumbers}
use Rattle.k_locks.specs.Shown.{is_dead, is_dead_state, is_present_in}
use Rattle.k_script.specs.Limits.{IsScript}
use Rattle.k_script.specs.Plays.{IsInRange, TellsInRange, next_of, went_on}
use Rattle.k_script.specs.Script.{Script}
use Rattle.k_script.specs.declared.registers.Next.{Next}
use Rattle.k_script.specs.declared.registers.Next.TheVariants as next
use Rattle.k_ipc.specs.Words.{sends_to}
use Rattle.k_ipc.specs.declared.send.Manner.{Manner}
use Rattle.k_ipc.specs.declared.send.Manner.TheVariants as manner
use Rattle.k_ipc.specs.declared.send.SendCall.{SendCall}
use Rattle.k_ipc.specs.declared.send.SendLocked.TheVariants as send_locked
use Rattle.k_ipc.specs.declared.send.SendOutside.{SendOutside}
use Rattle.k_ipc.specs.declared.send.SendOutside.TheVariants as send_outside
use Rattle.k_ipc.specs.SendTable as send
use Rattle.k_ipc.specs.declared.receive.ReceiveCall.{ReceiveCall}
use Rattle.k_ipc.specs.declared.receive.ReceiveLocked.TheVariants as receive_locked
use Rattle.k_ipc.specs.declared.receive.ReceiveOutside.{ReceiveOutside}
use Rattle.k_ipc.specs.declared.receive.ReceiveOutside.TheVariants as receive_outside
use Rattle.k_ipc.specs.declared.receive.ReceiveRelease.TheVariants as receive_release
use Rattle.k_ipc.specs.ReceiveTable as receive
use Rattle.k_threads.specs.declared.create.CreateCall.{CreateCall}
use Rattle.k_threads.specs.declared.create.CreateLocation.{CreateLocation}
use Rattle.k_threads.specs.declared.create.CreateLocation.TheVariants as create_location
use Rattle.k_threads.specs.declared.create.CreateLocked.TheVariants as create_locked
use Rattle.k_threads.specs.declared.create.CreateOutside.TheVariants as create_outside
use Rattle.k_threads.specs.declared.create.CreateRelease.TheVariants as create_release
use Rattle.k_threads.specs.CreateTable as create
use Rattle.k_threads.specs.declared.destroy.DestroyCall.{DestroyCall}
use Rattle.k_threads.specs.declared.destroy.DestroyOutside.{DestroyOutside}
use Rattle.k_threads.specs.declared.destroy.DestroyOutside.TheVariants as destroy_outside
use Rattle.k_threads.specs.declared.destroy.DestroyVictim.TheVariants as victim
use Rattle.k_threads.specs.DestroyTable as destroy
use Rattle.k_caller.specs.declared.activity.Activity.{Activity}
use Rattle.k_caller.specs.declared.activity.Activity.TheVariants as activity
use Rattle.k_caller.specs.declared.thread.ThreadLocation.{ThreadLocation}
use Rattle.k_caller.specs.declared.thread.ThreadLocation.TheVariants as location
use Rattle.k_caller.specs.Activities.{IsSoundAt}
use Rattle.k_caller.specs.Threads.{ThreadSeen, begun, begun_at, begun_by, begun_next}
use Rattle.k_caller.specs.Waits.{has_way}
use Rattle.k_caller.proofs.Owned.{either}
use Rattle.k_board.specs.Boards.{Alone, Board, InCreate}
use Rattle.k_board.specs.Facts.{AllSay, AllWait, Apart, Passing, WaitsBy, may_wait, waits_for}
use Rattle.k_board.specs.Places.{facts_alone, facts_destroy, facts_of, facts_receive, facts_send, sender}
use Rattle.k_board.specs.Words.{here}
use Rattle.k_good.specs.Ranges.{FitsAt}
use Rattle.k_invariant.proofs.Keeps.{told_by}
use Rattle.k_places.specs.Contexts.{at_in, hand_in, held_on}
use Rattle.k_good.specs.Locks.{locks_at}
use Rattle.k_whole.specs.Next.{has_next}
use Rattle.k_conditions.proofs.Asks.{create_asks}
use Rattle.k_plays.specs.Scripts.{ranged_programs}
use Rattle.k_plays.proofs.Points.{goes_on_with}
use Rattle.k_plays.proofs.Tables.{ranged_are}
use Rattle.k_invariant.specs.Invariant.{BoardHolds}
use Rattle.k_ids.specs.declared.histories.Entry.{Entry}
use Rattle.k_conditions.proofs.Fits.{KnowsAlone, KnowsCreate, KnowsDestroy, KnowsReceive, KnowsSend}

-- of what a thread is about
abbrev pub Knows : Board → ℕ → ThreadId → Activity → Type 0
Knows b table me (activity.Alone p) = KnowsAlone b table me p
Knows b table me (activity.Send s) = KnowsSend b table s.call (send.at_of s.location)
Knows b table me (activity.Receive s) = KnowsReceive table (receive.at_of s.location)
Knows b table me (activity.Create s) = KnowsCreate table (create.at_of s.location)
Knows b table me (activity.Destroy s) = KnowsDestroy b (destroy.at_of s.location)

-- WHERE THE NEXT CALL BEGINS nothing needs to be known

call_knows : (b : Board) (table : ℕ) (me : ThreadId) (own : StateWord) (f : Phase) →
    Knows b table me (begun_by table me own f)
call_knows b table me own (phase.Send to message zero joined) =
    let c : SendCall = record {
      caller = me;
      to = to;
      message = message;
      zero = zero;
      manner = send.manner_of joined;
    } in
    either (λ (p : SendOutside). KnowsSend b table c (send.Outside p)) (same_id to me) send_outside.LoadCaller
    send_outside.AcquireReceiver tt tt
call_knows b table me own (phase.Reply to message zero) =
    let c : SendCall = record {
      caller = me;
      to = to;
      message = message;
      zero = zero;
      manner = manner.Reply;
    } in
    either (λ (p : SendOutside). KnowsSend b table c (send.Outside p)) (same_id to me) send_outside.LoadCaller
    send_outside.AcquireReceiver tt tt
call_knows b table me own (phase.Receive from zero) =
    either (λ (p : ReceiveOutside). KnowsReceive table (receive.Outside p)) (is_own from me)
    receive_outside.LoadCaller receive_outside.AcquireOwn tt tt
call_knows b table me own (phase.Create program priority) = tt
call_knows b table me own (phase.Destroy who) =
    either (λ (p : DestroyOutside). KnowsDestroy b (destroy.Outside p)) (same_id who me)
    destroy_outside.LoadOwn destroy_outside.AcquireTable tt tt
call_knows b table me own phase.End = tt

next_knows : (b : Board) (table : ℕ) (t : ThreadSeen) (n : Next) →
    Knows b table t.id (begun_next table t n).activity
next_knows b table t (next.Phase f) = call_knows b table t.id t.own f
next_knows b table t (next.Work count) = tt

pub begun_knows : (script : Script) (b : Board) (t : ThreadSeen) → Knows b script.table t.id t.activity →
    Knows b script.table t.id (begun script t).activity
begun_knows script b t knows = by t.activity knows
  where
    by : (a : Activity) → Knows b script.table t.id a →
        Knows b script.table t.id (begun_at script (record t { activity = a }) a).activity
    by (activity.Alone (location.Between last)) knows =
        next_knows b script.table (record t { position = went_on t.position last })
        (next_of script.version t.position last)
    by (activity.Alone location.FallAsleep) knows = knows
    by (activity.Alone location.LookAgain) knows = knows
    by (activity.Alone (location.LoadMail from)) knows = knows
    by (activity.Alone (location.Work count)) knows = knows
    by (activity.Alone location.CommitEnd) knows = knows
    by (activity.Alone location.Asleep) knows = knows
    by (activity.Alone location.Ended) knows = knows
    by (activity.Alone location.Dead) knows = knows
    by (activity.Send s) knows = knows
    by (activity.Receive s) knows = knows
    by (activity.Create s) knows = knows
    by (activity.Destroy s) knows = knows

next_id : (table : ℕ) (t : ThreadSeen) (n : Next) → (begun_next table t n).id ≡ t.id
next_id table t (next.Phase f) = refl
next_id table t (next.Work count) = refl

pub begun_id : (script : Script) (t : ThreadSeen) → (begun script t).id ≡ t.id
begun_id script t = by t.activity
  where
    by : (a : Activity) → (begun_at script t a).id ≡ t.id
    by (activity.Alone (location.Between last)) =
        next_id script.table (record t { position = went_on t.position last })
        (next_of script.version t.position last)
    by (activity.Alone location.FallAsleep) = refl
    by (activity.Alone location.LookAgain) = refl
    by (activity.Alone (location.LoadMail from)) = refl
    by (activity.Alone (location.Work count)) = refl
    by (activity.Alone location.CommitEnd) = refl
    by (activity.Alone location.Asleep) = refl
    by (activity.Alone location.Ended) = refl
    by (activity.Alone location.Dead) = refl
    by (activity.Send s) = refl
    by (activity.Receive s) = refl
    by (activity.Create s) = refl
    by (activity.Destroy s) = refl

-- WHO WAITS finds that its wait is over, or that it still waits

dead_way : (s : State) → is_dead_state s ≡ true → has_way s ≡ true
dead_way state.Dead e = refl
dead_way (state.Run r) e = absurd (false≢true e)
dead_way (state.Sending to joined) e = absurd (false≢true e)
dead_way (state.Receiving from) e = absurd (false≢true e)
dead_way state.Picking e = absurd (false≢true e)
dead_way state.Ended e = absurd (false≢true e)

waiting_way : (s : State) → may_wait s ≡ true → has_way s ≡ true
waiting_way state.Dead e = refl
waiting_way (state.Run r) e = absurd (false≢true e)
waiting_way (state.Sending to joined) e = refl
waiting_way (state.Receiving from) e = refl
waiting_way state.Picking e = absurd (false≢true e)
waiting_way state.Ended e = absurd (false≢true e)

module _ (script : Script) (limits : IsScript script) (b : Board) (es : List Entry) (k : KernelState)
    (h : BoardHolds script b es k) (i : ℕ)
    (inside : i < script.table) (lists : length b.lists.lists ≡ 64) where
  some : 1 ≤ b.size
  some = let e = h.size in omega (arith, inside, e)

  waits_way : WaitsBy (b.seen i) → has_way (b.seen i).word.state ≡ true
  waits_way (inl dead) = dead_way (b.seen i).word.state dead
  waits_way (inr (inl waits)) = waiting_way (b.seen i).word.state waits
  waits_way (inr (inr (inl sent))) = ap has_way sent.0
  waits_way (inr (inr (inr (inl gone)))) = ap has_way gone.0
  waits_way (inr (inr (inr (inr delivered)))) = ap has_way delivered.state

  -- the reply that its ledger has names threads of the table
  told_range : TellsInRange script.table (b.seen i).told
  told_range =
      (goes_on_with script (ranged_programs script) es k b.seen (id_of k i) (b.seen i).position
      (b.seen i).told limits (ranged_are script) h.ledgers inside
      (told_by script limits b es k h (id_of k i) refl) here).bounds.told

  -- who sends has a version
  sender_version : (to : ThreadId) (e : SenderEntry) (v : StateWord) → waits_for to e v ≡ true →
      1 ≤ (sender_of e).version → 1 ≤ v.version
  sender_version to e v waits born =
      let same = eqb-true v.version (sender_of e).version
      (and_parts (v.version == (sender_of e).version) (sends_to to v.state) waits).0 in
      omega (arith, same, born)

  -- BY WHERE IT STANDS

  refused : (c : SendCall) (r : Reply) → c.caller.number ≡ i →
      (is_dead (b.seen i).word ≡ true) ⊎ ((b.context i).serial ≡ (b.seen i).last ×
      (b.context i).position ≡ (b.seen i).position × (b.seen i).told ≡ Some r) →
      is_dead (b.seen c.caller.number).word ≡ false → TellsInRange script.table (Some r)
  refused c r me (inl dead) alive = absurd
      (false≢true (sym (ap (λ n. is_dead (b.seen n).word) (sym me) ∙ alive) ∙ dead))
  refused c r me (inr told) alive = subst (TellsInRange script.table) told.2 told_range

  first_sender : (to : ThreadId) (es : List SenderEntry) (n : ℕ) → first_number es ≡ Some n →
      AllWait to b.seen es → ((e : SenderEntry) → entry_of n es ≡ Some e → 1 ≤ (sender_of e).version) →
      1 ≤ (b.seen n).word.version
  first_sender to [] n e all born = absurd cc
  first_sender to (f ∷ es) n e all born =
      let same : number_of f ≡ n = cc in
      let is : entry_of n (f ∷ es) ≡ Some f = ap (λ (t : Bool). if t then Some f else entry_of n es)
      (eq-eqb (number_of f) n same) in
      sender_version to f (b.seen n).word (ap (λ m. waits_for to f (b.seen m).word) (sym same) ∙ all.0)
      (born f is)

  alone_knows : (me : ThreadId) (p : ThreadLocation) → me.number ≡ i → (b.seen i).word.version ≡ me.version →
      FitsAt b.size (Alone p) → AllSay (ranged_programs script) b i (b.context i) (facts_alone p) →
      KnowsAlone b script.table me p
  alone_knows me location.LookAgain is version fits f = (
    ap (λ n. has_way (b.seen n).word.state) is ∙ waits_way f.1.1.0,
    ap (λ n. (b.seen n).word.version) is
        ∙ version,
  )
  alone_knows me (location.LoadMail from) is version fits f = subst (λ n. IsInRange n from) h.size fits
  alone_knows me p is version fits f = tt

  present_born : (c : SendCall) → IsPartner c.to → is_present_in (b.seen c.to.number).word c.to ≡ true →
      1 ≤ (b.seen c.to.number).word.version
  present_born c to present =
      let v : StateWord = (b.seen c.to.number).word in
      let same = eqb-true v.version c.to.version (and_parts (v.version == c.to.version) (not (is_dead v))
      present).0 in
      let born = to.born in
      omega (arith, same, born)

  reloads : (m : Manner) (me : ThreadId) (c : SendCall) → IsPartner c.to →
      AllSay (ranged_programs script) b i (b.context i) (sender m me (Apart c.to.number ∷ Passing c ∷ [])) →
      1 ≤ (b.seen c.to.number).word.version
  reloads manner.Plain me c to f = present_born c to f.1.1.1.1.1.1.0.4
  reloads manner.Joined me c to f = present_born c to f.1.1.1.1.1.1.0.4
  reloads manner.Reply me c to f = present_born c to f.1.1.1.1.1.0.4

  send_knows : (c : SendCall) (p : send.SendAt) → IsPartner c.to →
      AllSay (ranged_programs script) b i (b.context i) (facts_send c p) → KnowsSend b script.table c p
  send_knows c (send.Locked send_locked.ReloadReceiver) to f = reloads c.manner c.caller c to f
  send_knows c (send.Outside (send_outside.CheckCaller r)) to f = refused c r f.0.0 f.1.1.0
  send_knows c (send.Outside (send_outside.Ended v)) to f = f.0
  send_knows c p to f = tt

  receive_knows : (c : ReceiveCall) (p : receive.ReceiveAt) →
      AllSay (ranged_programs script) b i (b.context i) (facts_receive c p) → KnowsReceive script.table p
  receive_knows c (receive.Locked (receive_locked.Release (receive_release.Taken e))) f =
      let standing = f.1.1.1.1.1.1.0.2 in
      subst (λ n. IsInRange n (sender_of e)) h.size
      (h.proper.queues.senders i (number_of e) e standing).sender
  receive_knows c (receive.Outside (receive_outside.Ended v)) f = f.0
  receive_knows c p f = tt

  destroy_knows : (c : DestroyCall) (p : destroy.DestroyAt) →
      AllSay (ranged_programs script) b i (b.context i) (facts_destroy c p) → KnowsDestroy b p
  destroy_knows c (destroy.Victim (victim.LoadSender n)) f =
      let fs = f.1.1.1.1.1.1.1 in
      first_sender c.who (b.queue c.who.number) n fs.1.1.0.1 fs.1.0.2
      (λ e s. (h.proper.queues.senders c.who.number n e s).sender.first)
  destroy_knows c (destroy.Outside (destroy_outside.Ended v)) f = f.0
  destroy_knows c p f = tt

  -- under the table lock it has the list of numbers in hand
  abbrev pub HasNumbers : CreateLocation → Type 0
  HasNumbers (create_location.Locked p numbers) = numbers ≡ b.numbers
  HasNumbers l = Unit {0}

  pub has_numbers : (c : CreateCall) (l : CreateLocation) →
      create.hand_of l ≡ held_on b (locks_at (InCreate c (create.at_of l))) → HasNumbers l
  has_numbers c (create_location.Locked p numbers) hand = ap (λ (x : Hand). x.numbers) hand
  has_numbers c l hand = tt

  create_knows : (l : CreateLocation) → create.can_ask l ≡ true → create.IsSoundLocation l → HasNumbers l →
      KnowsCreate script.table (create.at_of l)
  create_knows (create_location.Locked (create_locked.Release (create_release.Made id)) numbers) can sound
      same = record {
        number = let low = sound.inside in let e : length numbers.versions ≡ script.table =
            ap (λ (n : ThreadNumbers). length n.versions) same ∙ h.proper.within.count ∙ h.size in
            omega (arith, low, e);
        first = let n = sound.next in omega (arith, n);
        last = let v = sound.version in omega (arith, v);
      }
  create_knows (create_location.Outside (create_outside.Ended v)) can sound same = absurd (false≢true can)
  create_knows (create_location.NumbersReturned r) can sound same = absurd (false≢true can)
  create_knows l can sound same = tt

  pub knows : (me : ThreadId) (own : StateWord) (a : Activity) → me.number ≡ i →
      (b.seen i).word.version ≡ me.version → FitsAt b.size (at_in a) →
      AllSay (ranged_programs script) b i (b.context i) (facts_of (at_in a)) → IsSoundAt me own a →
      hand_in a ≡ held_on b (locks_at (at_in a)) →
      has_next (at_in a) ≡ true → Knows b script.table me a
  knows me own (activity.Alone p) is version fits f sound hand next = alone_knows me p is version fits f
  knows me own (activity.Send s) is version fits f sound hand next = send_knows s.call (send.at_of s.location)
      sound.sound.to f
  knows me own (activity.Receive s) is version fits f sound hand next =
      receive_knows s.call (receive.at_of s.location) f
  knows me own (activity.Create s) is version fits f sound hand next =
      create_knows s.location (create_asks b some lists h.proper.within.count s.call s.location next hand)
      sound.sound.located (has_numbers s.call s.location hand)
  knows me own (activity.Destroy s) is version fits f sound hand next =
      destroy_knows s.call (destroy.at_of s.location) f
