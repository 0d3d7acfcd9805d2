-- The locations of a destroy.
use Rattle.std.proofs.Common.{◌≡◌, ◌≢◌, ℕ, ◌+◌, ◌<◌, Bool, true, false, cond, refl, sym, ap, ◌∙◌, subst, List, [], ◌∷◌, Option, Some, None, arith, inr, eqb}
use Rattle.std.proofs.lemmas.Bool.{eqb-true, and_parts}
use Rattle.std.proofs.lemmas.Bool.Decides.{nat_tests}
use Rattle.k_ids.specs.declared.threads.ThreadId.{ThreadId}
use Rattle.k_ids.specs.declared.threads.Found.{Found}
use Rattle.k_ids.specs.declared.calls.Reply.{Reply}
use Rattle.k_ids.specs.declared.calls.Reply.TheVariants as reply
use Rattle.k_ids.specs.declared.calls.Outcome.TheVariants as outcome
use Rattle.k_ids.specs.declared.state_word.State.{State}
use Rattle.k_ids.specs.declared.state_word.State.TheVariants as state
use Rattle.k_ids.specs.declared.state_word.StateWord.{StateWord}
use Rattle.k_model.specs.Maps.{upd}
use Rattle.k_model.specs.State.{same_id}
use Rattle.k_model.proofs.Maps.{upd_tells, upd_same, upd_other}
use Rattle.k_locks.specs.declared.points.Point.{Point}
use Rattle.k_locks.specs.declared.steps.Went.TheVariants as went
use Rattle.k_locks.specs.Asks.{Response}
use Rattle.k_locks.specs.Asks as asks
use Rattle.k_locks.specs.Shown.{found_in, is_dead, is_present_in}
use Rattle.k_board.specs.Words.{Seen, Programs, called, answered, noted, here}
use Rattle.k_board.specs.Boards.{Board, Context, InDestroy, Nowhere, hand_of}
use Rattle.std.specs.Prelude.{nat_lt, ◌==◌}
use Rattle.k_senders.specs.declared.entries.SenderEntry.{SenderEntry}
use Rattle.k_senders.specs.Entries.{number_of, sender_of}
use Rattle.k_senders.specs.Queue.{IsOnceEach, first_number, stands}
use Rattle.k_threads.specs.declared.destroy.DestroyCall.{DestroyCall}
use Rattle.k_threads.specs.declared.destroy.DestroyOutside.TheVariants as outside
use Rattle.k_threads.specs.declared.destroy.DestroyLocked.{DestroyLocked}
use Rattle.k_threads.specs.declared.destroy.DestroyLocked.TheVariants.{LoadCaller, AcquireVictimLock, AcquireReadyForVictim, RemoveContext, AcquireVisitedLock, Release}
use Rattle.k_threads.specs.declared.destroy.DestroyRelease.TheVariants as release
use Rattle.k_threads.specs.declared.destroy.DestroyVictim.TheVariants.{LoadVictim, CommitKill, LoadSender, FreeSender, AcquireReadyForSender, ReleaseVictimLock, ReleaseVictimLockAbsent}
use Rattle.k_threads.specs.declared.destroy.DestroyVisit.{DestroyVisit}
use Rattle.k_threads.specs.declared.destroy.DestroyVisit.TheVariants.{LoadVisited, FreeVisited, AcquireReadyForVisited, ReleaseVisitedLock}
use Rattle.k_threads.specs.declared.destroy.DestroyPushing.TheVariants.{PushSender, PushVisited}
use Rattle.k_threads.specs.DestroyTable.{DestroyAt, Outside, Locked, Victim, Visit, UnlistVictim, Pushing, but_victim, free_first, point_of, visit_from}
use Rattle.k_threads.specs.Goods.{rest}
use Rattle.k_threads.specs.Words.{dead_word, freed_word, is_receiving_from}
use Rattle.k_board.specs.Facts.{AllSay, AllWait, IsFront, IsRun, waits_for}
use Rattle.k_board.specs.Places.{facts_destroy, killed}
use Rattle.k_board.specs.Moves.{Change, same, calls, kills, frees_sender, frees_receiver, PlaceStep}
use Rattle.k_board.specs.Steps.{after, with_word, write, destroy_board, destroy_context, destroy_number}
use Rattle.k_board.proofs.Cases.{if_cases, by_two, changed_one, changed_written, acquired, released, kept_free, kept_lock, kept_queue, not_both}
use Rattle.k_board.proofs.ReceivePlaces.{SendsTo, ends, same_is, sends_is}

-- Words that show the same of those who have an entry
all_wait_but : (to : ThreadId) (s s' : ℕ → Seen) (n : ℕ) (es : List SenderEntry) → ((t : ℕ) → t ≢ n → (s' t).word ≡ (s t).word) → stands n es ≡ false → AllWait to s es → AllWait to s' es
all_wait_but to s s' n [] same_ none h = tt
all_wait_but to s s' n (e ∷ es) same_ none h = (subst (λ (w : StateWord). waits_for to e w ≡ true) (sym (same_ (number_of e) (λ q. grind (arith, nat_tests)))) h.0, all_wait_but to s s' n es same_ (grind (arith, nat_tests)) h.1)

first_waits : (to : ThreadId) (s : ℕ → Seen) (es : List SenderEntry) (sender : ℕ) → AllWait to s es → first_number es ≡ Some sender → IsFront to es sender (s sender).word
first_waits to s [] sender h q = absurd cc
first_waits to s (e ∷ es) sender h q =
    let n : number_of e ≡ sender = cc in
    record { entry = e; more = es; queue = refl; number = n; waits = subst (λ (m : ℕ). waits_for to e (s m).word ≡ true) n h.0 }

front_alone : (to : ThreadId) (es : List SenderEntry) (sender : ℕ) (w : StateWord) → IsOnceEach es → IsFront to es sender w → stands sender (rest es) ≡ false
front_alone to es sender w once f = subst (λ (m : ℕ). stands m (rest es) ≡ false) f.number (subst (λ (xs : List SenderEntry). stands (number_of f.entry) (rest xs) ≡ false) (sym f.queue) (subst (λ (xs : List SenderEntry). IsOnceEach xs) f.queue once).0)

pub front_sends : (to : ThreadId) (es : List SenderEntry) (sender : ℕ) (w : StateWord) → IsFront to es sender w → SendsTo to w.state
front_sends to es sender w f = sends_is to w.state (and_parts (eqb w.version (sender_of f.entry).version) _ f.waits).1

all_rest : (to : ThreadId) (s : ℕ → Seen) (es : List SenderEntry) → AllWait to s es → AllWait to s (rest es)
all_rest to s [] h = tt
all_rest to s (e ∷ es) h = h.1

pub receiving_is : (who : ThreadId) (s : State) → is_receiving_from who s ≡ true → s ≡ state.Receiving (Some who)
receiving_is who (state.Receiving None) q = absurd (grind arith)
receiving_is who (state.Receiving (Some f)) q = ap (λ (u : ThreadId). state.Receiving (Some u)) (same_is f who q)
receiving_is who state.Dead q = absurd (grind arith)
receiving_is who (state.Run r) q = absurd (grind arith)
receiving_is who (state.Sending to joined) q = absurd (grind arith)
receiving_is who state.Picking q = absurd (grind arith)
receiving_is who state.Ended q = absurd (grind arith)

pub dead_apart : (b : Board) (x : Context) (n i : ℕ) → is_dead (b.seen n).word ≡ true → IsRun x.own → (b.seen i).word ≡ x.own → n ≢ i
dead_apart b x n i d run own e = grind (arith, run.state)

-- someone else's number, and the word of it written
module _ (s : ℕ → Seen) (n : ℕ) (v : Seen) (w : StateWord) where
  pub written_it : write (upd s n v) n w n ≡ with_word v w
  written_it = upd_same (upd s n v) n _ ∙ ap (λ (u : Seen). with_word u w) (upd_same s n v)

  pub written_other : (t : ℕ) → t ≢ n → write (upd s n v) n w t ≡ s t
  written_other t ne = upd_other (upd s n v) n _ t ne ∙ upd_other s n v t ne

module _ (s : ℕ → Seen) (i n : ℕ) (v : Seen) (w : StateWord) (ne : n ≢ i) where
  pub killed_me : write (upd s i v) n w i ≡ v
  killed_me = upd_other (upd s i v) n _ i (λ e. ne (sym e)) ∙ upd_same s i v

  pub killed_it : write (upd s i v) n w n ≡ with_word (s n) w
  killed_it = upd_same (upd s i v) n _ ∙ ap (λ (u : Seen). with_word u w) (upd_other s i v n ne)

  pub killed_other : (t : ℕ) → t ≢ i → t ≢ n → write (upd s i v) n w t ≡ s t
  killed_other t ni nn = upd_other (upd s i v) n _ t nn ∙ upd_other s i v t ni

module _ (g : Programs) (b : Board) (x : Context) (c : DestroyCall) where
  abbrev pub Fine : DestroyAt → Response → Type 0
  Fine p f = PlaceStep g b c.caller.number (destroy_context x c p f (hand_of b (b.queue (destroy_number c p)))) (destroy_board g b c.caller.number x c p f)

  abbrev pub Sound : DestroyAt → Type 0
  Sound p = AllSay g b c.caller.number x (facts_destroy c p)

  abbrev Led : Option Point → DestroyAt → Type 0
  Led e p = PlaceStep g b c.caller.number (record x { at = InDestroy c p }) (record b { seen = noted g b.seen x.position e; context = upd b.context c.caller.number (record x { at = InDestroy c p }) })

  -- the victim's number has no context, also after a step of the caller's
  vacant : (y : Context) (at : (b.table ≡ Some c.caller.number) × ((b.context c.who.number).at ≡ Nowhere)) → (b.table ≡ Some c.caller.number) × (is_dead (b.seen c.who.number).word ≡ true) × ((b.seen c.who.number).word.version ≡ c.who.version) → IsRun x.own → (b.seen c.caller.number).word ≡ x.own → (upd b.context c.caller.number y c.who.number).at ≡ Nowhere
  vacant y at gone run own = ap (λ (z : Context). z.at) (upd_other b.context c.caller.number y c.who.number (dead_apart b x c.who.number c.caller.number gone.1 run own)) ∙ at.1

  refuses : (r : Reply) → IsRun x.own → (b.seen c.caller.number).word ≡ x.own → (t : ℕ) → Change b c.caller.number t (upd b.seen c.caller.number (called (b.seen c.caller.number) (Some r) x.position) t)
  refuses r run own =
      changed_one (λ t v. Change b c.caller.number t v) b.seen c.caller.number (called (b.seen c.caller.number) (Some r) x.position)
      (calls (b.seen c.caller.number).word (Some r) x.position (grind (arith, run.state)) record { version = refl; alive = grind (arith, run.state); any = λ q. absurd (grind (arith, run.state)); one = λ f q. absurd (grind (arith, run.state)); sends = λ to joined q. absurd (grind (arith, run.state)) }) (λ t. same t)

  pub ok_self : (w : StateWord) → (b.seen c.caller.number).word ≡ w → Sound (Outside outside.LoadOwn) → Fine (Outside outside.LoadOwn) (asks.Word w)
  ok_self w is h = go (is_dead w) refl
    where
      go : (dead : Bool) → is_dead w ≡ dead → PlaceStep g b c.caller.number (record x { at = after c.caller (cond dead went.CallerDead (went.Ends reply.Own)) }) (record b { seen = noted g b.seen x.position (cond dead None (Some (point_of c outcome.Own))); context = upd b.context c.caller.number (record x { at = after c.caller (cond dead went.CallerDead (went.Ends reply.Own)) }) })
      go true d = record { changes = λ t. same t; others = λ k ne. record { owner = λ t o. o; table = λ o. o; ready = λ o. o; queue = λ t o. refl; numbers = λ o. refl }; facts = (grind arith, tt) }
      go false d =
          let own : (b.seen c.caller.number).word ≡ x.own = grind arith in
          record { changes = refuses reply.Own h.1.1.1.1.0.0 own; others = λ k ne. record { owner = λ t o. o; table = λ o. o; ready = λ o. o; queue = λ t o. refl; numbers = λ o. refl }; facts = rw (upd_same b.seen c.caller.number (called (b.seen c.caller.number) (Some reply.Own) x.position)) (h.1.1.0, (h.1.1.1.1.0, ((h.1.1.1.0.0, here), tt))) }

  pub ok_acquire : b.table ≡ None → Sound (Outside outside.AcquireTable) → Fine (Outside outside.AcquireTable) asks.Got
  ok_acquire free h = record { changes = λ t. same t; others = λ k ne. record { owner = λ t o. o; table = kept_free (Some c.caller.number) free; ready = λ o. o; queue = λ t o. refl; numbers = λ o. refl }; facts = (h.0, (refl, h.1)) }

  pub ok_acquire_owned : (o : ℕ) → Sound (Outside outside.AcquireTable) → Fine (Outside outside.AcquireTable) (asks.Owned o)
  ok_acquire_owned o h = record { changes = λ t. same t; others = λ k ne. record { owner = λ t o. o; table = λ o. o; ready = λ o. o; queue = λ t o. refl; numbers = λ o. refl }; facts = h }

  pub ok_load : (w : StateWord) → (b.seen c.caller.number).word ≡ w → Sound (Locked LoadCaller) → Fine (Locked LoadCaller) (asks.Word w)
  ok_load w is h = go (is_dead w) refl
    where
      go : (dead : Bool) → is_dead w ≡ dead → Led None (Locked (cond dead (Release release.Dead) AcquireVictimLock))
      go true d = record { changes = λ t. same t; others = λ k ne. record { owner = λ t o. o; table = λ o. o; ready = λ o. o; queue = λ t o. refl; numbers = λ o. refl }; facts = (h.1.0, (grind arith, (h.1.1.0, tt))) }
      go false d =
          let own : (b.seen c.caller.number).word ≡ x.own = grind arith in
          record { changes = λ t. same t; others = λ k ne. record { owner = λ t o. o; table = λ o. o; ready = λ o. o; queue = λ t o. refl; numbers = λ o. refl }; facts = (h.0, (h.1.0, (h.1.1.0, (h.1.1.1.0, (h.1.1.1.1.0, ((h.1.1.1.1.1.0.0, own, inr h.1.0), tt)))))) }

  pub ok_victim : b.owner c.who.number ≡ None → Sound (Locked AcquireVictimLock) → Fine (Locked AcquireVictimLock) asks.Got
  ok_victim free h = record { changes = λ t. same t; others = λ k ne. record { owner = acquired b.owner c.who.number c.caller.number k free; table = λ o. o; ready = λ o. o; queue = λ t o. refl; numbers = λ o. refl }; facts = (h.0, (h.1.0, (upd_same b.owner c.who.number (Some c.caller.number), (h.1.1.0, (h.1.1.1.0, (h.1.1.1.1.0, ((h.1.1.1.1.1.0.0, h.1.1.1.1.1.0.1, inr h.1.0), tt))))))) }

  pub ok_victim_owned : (o : ℕ) → Sound (Locked AcquireVictimLock) → Fine (Locked AcquireVictimLock) (asks.Owned o)
  ok_victim_owned o h = record { changes = λ t. same t; others = λ k ne. record { owner = λ t o. o; table = λ o. o; ready = λ o. o; queue = λ t o. refl; numbers = λ o. refl }; facts = h }

  pub ok_load_victim : (w : StateWord) → Sound (Victim LoadVictim) → Fine (Victim LoadVictim) (asks.Word w)
  ok_load_victim w h = go (is_present_in w c.who) refl
    where
      go : (present : Bool) → is_present_in w c.who ≡ present → Led (cond present None (Some (point_of c (outcome.Absent (found_in c.who.number w))))) (Victim (cond present (CommitKill w) (ReleaseVictimLockAbsent (found_in c.who.number w))))
      go true p = record { changes = λ t. same t; others = λ k ne. record { owner = λ t o. o; table = λ o. o; ready = λ o. o; queue = λ t o. refl; numbers = λ o. refl }; facts = (h.0, (h.1.0, (h.1.1.0, (h.1.1.1.0, (h.1.1.1.1.0, (h.1.1.1.1.1.0, (h.1.1.1.1.1.1.0, (p, tt)))))))) }
      go false p = record { changes = refuses (reply.Absent (found_in c.who.number w)) h.1.1.1.1.1.1.0.0 h.1.1.1.1.1.1.0.1; others = λ k ne. record { owner = λ t o. o; table = λ o. o; ready = λ o. o; queue = λ t o. refl; numbers = λ o. refl }; facts = rw (upd_same b.seen c.caller.number (called (b.seen c.caller.number) (Some (reply.Absent (found_in c.who.number w))) x.position)) (h.1.0, (h.1.1.0, (h.1.1.1.0, (h.1.1.1.1.0, (refl, (h.1.1.1.1.1.1.0, (refl, tt))))))) }

  -- Whoever has an entry in the victim's queue waits for it, and it has none itself: that is the part on queues.
  pub ok_kill : (seen : StateWord) → (b.seen c.who.number).word ≡ seen → AllWait c.who b.seen (b.queue c.who.number) → stands c.who.number (b.queue c.who.number) ≡ false → Sound (Victim (CommitKill seen)) → Fine (Victim (CommitKill seen)) asks.Won
  ok_kill seen won row none h =
      let i = c.caller.number in
      let n = c.who.number in
      let run = h.1.1.1.1.1.1.0.0 in
      let v : Seen = called (b.seen i) (Some reply.Killed) x.position in
      let w = dead_word c.who.version in
      let me = killed_me b.seen i n v w apart in
      let it = killed_it b.seen i n v w apart in
      record {
        changes = by_two (λ t u. Change b i t u) _ i n
            (subst (λ (u : Seen). Change b i i u) (sym me) (calls (b.seen i).word (Some reply.Killed) x.position (grind (arith, run.state)) record { version = refl; alive = grind (arith, run.state); any = λ q. absurd (grind (arith, run.state)); one = λ f q. absurd (grind (arith, run.state)); sends = λ to joined q. absurd (grind (arith, run.state)) }))
            (subst (λ (u : Seen). Change b i n u) (sym (it ∙ ap (λ (m : ℕ). with_word (b.seen n) (dead_word m)) (sym version))) (kills n h.1.1.0 h.1.0 apart (ap (λ (u : StateWord). is_dead u) won ∙ living seen c.who h.1.1.1.1.1.1.1.0)))
            (λ t ni nn. subst (λ (u : Seen). Change b i t u) (sym (killed_other b.seen i n v w apart t ni nn)) (same t));
        others = λ k ne. record { owner = λ t o. o; table = λ o. o; ready = λ o. o; queue = λ t o. refl; numbers = λ o. refl };
        facts = by (b.queue n) refl;
      }
    where
      living : (w : StateWord) (id : ThreadId) → is_present_in w id ≡ true → is_dead w ≡ false
      living w id p = grind arith

      version : (b.seen c.who.number).word.version ≡ c.who.version
      version = ap (λ (u : StateWord). u.version) won ∙ eqb-true seen.version c.who.version (and_parts _ _ h.1.1.1.1.1.1.1.0).0

      apart : c.who.number ≢ c.caller.number
      apart q = differs h.0 q version
        where
          differs : same_id c.who (record { number = c.caller.number; version = (b.seen c.caller.number).word.version }) ≡ false → c.who.number ≡ c.caller.number → (b.seen c.who.number).word.version ≡ c.who.version → ⊥
          differs d e f = grind (arith, nat_tests)

      new : ℕ → Seen
      new = write (upd b.seen c.caller.number (called (b.seen c.caller.number) (Some reply.Killed) x.position)) c.who.number (dead_word c.who.version)

      word_same : (t : ℕ) → t ≢ c.who.number → (new t).word ≡ (b.seen t).word
      word_same t ne = grind (arith, upd_tells)

      by : (q : List SenderEntry) → b.queue c.who.number ≡ q → AllSay g (destroy_board g b c.caller.number x c (Victim (CommitKill seen)) asks.Won) c.caller.number (destroy_context x c (Victim (CommitKill seen)) asks.Won (hand_of b (b.queue c.who.number))) (facts_destroy c (Victim (free_first q)))
      by [] q = rw (killed_me b.seen c.caller.number c.who.number (called (b.seen c.caller.number) (Some reply.Killed) x.position) (dead_word c.who.version) apart, killed_it b.seen c.caller.number c.who.number (called (b.seen c.caller.number) (Some reply.Killed) x.position) (dead_word c.who.version) apart) ((h.1.0, refl, refl), (h.1.0, (h.1.1.1.0, (h.1.1.1.1.0, (refl, ((h.1.1.1.1.1.1.0.0, h.1.1.1.1.1.1.0.1, inr h.1.0), (refl, (h.1.1.0, ((h.1.1.0, q), tt)))))))))
      by (e ∷ es) q = rw (killed_me b.seen c.caller.number c.who.number (called (b.seen c.caller.number) (Some reply.Killed) x.position) (dead_word c.who.version) apart, killed_it b.seen c.caller.number c.who.number (called (b.seen c.caller.number) (Some reply.Killed) x.position) (dead_word c.who.version) apart) ((h.1.0, refl, refl), (h.1.0, (h.1.1.1.0, (h.1.1.1.1.0, (refl, ((h.1.1.1.1.1.1.0.0, h.1.1.1.1.1.1.0.1, inr h.1.0), (refl, (h.1.1.0, ((h.1.0, h.1.1.0, all_wait_but c.who b.seen new c.who.number (b.queue c.who.number) word_same none row), ((h.1.1.0, ap first_number q), tt))))))))))

  pub ok_kill_lost : (seen w : StateWord) → Sound (Victim (CommitKill seen)) → Fine (Victim (CommitKill seen)) (asks.Lost w)
  ok_kill_lost seen w h = record { changes = λ t. same t; others = λ k ne. record { owner = λ t o. o; table = λ o. o; ready = λ o. o; queue = λ t o. refl; numbers = λ o. refl }; facts = (h.0, (h.1.0, (h.1.1.0, (h.1.1.1.0, (h.1.1.1.1.0, (h.1.1.1.1.1.0, (h.1.1.1.1.1.1.0, tt))))))) }

  pub ok_load_sender : (sender : ℕ) (w : StateWord) → (b.seen sender).word ≡ w → Sound (Victim (LoadSender sender)) → Fine (Victim (LoadSender sender)) (asks.Word w)
  ok_load_sender sender w is h = record { changes = λ t. same t; others = λ k ne. record { owner = λ t o. o; table = λ o. o; ready = λ o. o; queue = λ t o. refl; numbers = λ o. refl }; facts = (h.0, (h.1.0, (h.1.1.0, (h.1.1.1.0, (h.1.1.1.1.0, (h.1.1.1.1.1.0, (h.1.1.1.1.1.1.0, (h.1.1.1.1.1.1.1.0, (h.1.1.1.1.1.1.1.1.0, (h.1.1.1.1.1.1.1.1.1.0, ((h.1.1.1.1.1.1.1.0, subst (λ (u : StateWord). IsFront c.who (b.queue c.who.number) sender u) is (first_waits c.who b.seen (b.queue c.who.number) sender h.1.1.1.1.1.1.1.1.0.2 h.1.1.1.1.1.1.1.1.1.0.1)), tt))))))))))) }

  pub ok_free_lost : (sender : ℕ) (seen w : StateWord) → Sound (Victim (FreeSender sender seen)) → Fine (Victim (FreeSender sender seen)) (asks.Lost w)
  ok_free_lost sender seen w h = record { changes = λ t. same t; others = λ k ne. record { owner = λ t o. o; table = λ o. o; ready = λ o. o; queue = λ t o. refl; numbers = λ o. refl }; facts = (h.0, (h.1.0, (h.1.1.0, (h.1.1.1.0, (h.1.1.1.1.0, (h.1.1.1.1.1.0, (h.1.1.1.1.1.1.0, (h.1.1.1.1.1.1.1.0, (h.1.1.1.1.1.1.1.1.0, (h.1.1.1.1.1.1.1.1.1.0, tt)))))))))) }

  pub ok_ready_sender : (sender : ℕ) (seen : StateWord) → b.ready ≡ None → Sound (Victim (AcquireReadyForSender sender seen)) → Fine (Victim (AcquireReadyForSender sender seen)) asks.Got
  ok_ready_sender sender seen free h = record { changes = λ t. same t; others = λ k ne. record { owner = λ t o. o; table = λ o. o; ready = kept_free (Some c.caller.number) free; queue = λ t o. refl; numbers = λ o. refl }; facts = (h.0, (h.1.0, (h.1.1.0, (h.1.1.1.0, (h.1.1.1.1.0, (h.1.1.1.1.1.0, (h.1.1.1.1.1.1.0, (h.1.1.1.1.1.1.1.0, (h.1.1.1.1.1.1.1.1.0, (h.1.1.1.1.1.1.1.1.1.0, (refl, tt))))))))))) }

  pub ok_ready_sender_owned : (sender : ℕ) (seen : StateWord) (o : ℕ) → Sound (Victim (AcquireReadyForSender sender seen)) → Fine (Victim (AcquireReadyForSender sender seen)) (asks.Owned o)
  ok_ready_sender_owned sender seen o h = record { changes = λ t. same t; others = λ k ne. record { owner = λ t o. o; table = λ o. o; ready = λ o. o; queue = λ t o. refl; numbers = λ o. refl }; facts = h }

  pub ok_push_sender : (sender : ℕ) (seen : StateWord) → Sound (Pushing (PushSender sender seen)) → Fine (Pushing (PushSender sender seen)) asks.Released
  ok_push_sender sender seen h = record { changes = λ t. same t; others = λ k ne. record { owner = λ t o. o; table = λ o. o; ready = kept_lock ne None h.1.1.1.1.1.1.1.1.1.1.0; queue = kept_queue b.owner b.queue c.who.number c.caller.number k _ h.1.1.1.1.1.1.1.0 ne; numbers = λ o. refl }; facts = by (rest (b.queue c.who.number)) refl }
    where
      by : (q : List SenderEntry) → rest (b.queue c.who.number) ≡ q → AllSay g (destroy_board g b c.caller.number x c (Pushing (PushSender sender seen)) asks.Released) c.caller.number (destroy_context x c (Pushing (PushSender sender seen)) asks.Released (hand_of b (b.queue c.who.number))) (facts_destroy c (Victim (free_first q)))
      by [] q = (h.0, (h.1.0, (h.1.1.0, (h.1.1.1.0, (h.1.1.1.1.0, (h.1.1.1.1.1.0, (h.1.1.1.1.1.1.0, (h.1.1.1.1.1.1.1.0, ((h.1.1.1.1.1.1.1.0, upd_same b.queue c.who.number (rest (b.queue c.who.number)) ∙ q), tt)))))))))
      by (e ∷ es) q = (h.0, (h.1.0, (h.1.1.0, (h.1.1.1.0, (h.1.1.1.1.0, (h.1.1.1.1.1.0, (h.1.1.1.1.1.1.0, (h.1.1.1.1.1.1.1.0, ((h.1.0, h.1.1.1.1.1.1.1.0, rw (upd_same b.queue c.who.number (rest (b.queue c.who.number))) h.1.1.1.1.1.1.1.1.0.2), ((h.1.1.1.1.1.1.1.0, ap first_number (upd_same b.queue c.who.number (rest (b.queue c.who.number)) ∙ q)), tt))))))))))

  pub ok_release_victim : Sound (Victim ReleaseVictimLock) → Fine (Victim ReleaseVictimLock) asks.Released
  ok_release_victim h = record { changes = λ t. same t; others = λ k ne. record { owner = released b.owner c.who.number c.caller.number k h.1.1.1.1.1.1.1.0 ne; table = λ o. o; ready = λ o. o; queue = λ t o. refl; numbers = λ o. refl }; facts = (h.0, (h.1.0, (h.1.1.0, (h.1.1.1.0, (h.1.1.1.1.0, ((h.1.1.1.1.1.0.0, h.1.1.1.1.1.0.1, inr h.1.0), (h.1.1.1.1.1.1.0, tt))))))) }

  pub ok_ready_victim : b.ready ≡ None → Sound (Locked AcquireReadyForVictim) → Fine (Locked AcquireReadyForVictim) asks.Got
  ok_ready_victim free h = record { changes = λ t. same t; others = λ k ne. record { owner = λ t o. o; table = λ o. o; ready = kept_free (Some c.caller.number) free; queue = λ t o. refl; numbers = λ o. refl }; facts = (h.0, (h.1.0, (h.1.1.0, (h.1.1.1.0, (h.1.1.1.1.0, (h.1.1.1.1.1.0, (h.1.1.1.1.1.1.0, (refl, tt)))))))) }

  pub ok_ready_victim_owned : (o : ℕ) → Sound (Locked AcquireReadyForVictim) → Fine (Locked AcquireReadyForVictim) (asks.Owned o)
  ok_ready_victim_owned o h = record { changes = λ t. same t; others = λ k ne. record { owner = λ t o. o; table = λ o. o; ready = λ o. o; queue = λ t o. refl; numbers = λ o. refl }; facts = h }

  pub ok_unlist : Sound UnlistVictim → Fine UnlistVictim asks.Released
  ok_unlist h = record { changes = λ t. same t; others = λ k ne. record { owner = λ t o. o; table = λ o. o; ready = kept_lock ne None h.1.1.1.1.1.1.1.0; queue = λ t o. refl; numbers = λ o. refl }; facts = (h.0, (h.1.0, (h.1.1.0, (h.1.1.1.0, (h.1.1.1.1.0, (h.1.1.1.1.1.0, (h.1.1.1.1.1.1.0, tt))))))) }

  pub ok_remove_kept : Sound (Locked RemoveContext) → Fine (Locked RemoveContext) asks.Kept
  ok_remove_kept h = record { changes = λ t. same t; others = λ k ne. record { owner = λ t o. o; table = λ o. o; ready = λ o. o; queue = λ t o. refl; numbers = λ o. refl }; facts = h }

  -- on to the next number
  but_apart : (n : ℕ) → but_victim c n ≢ c.who.number
  but_apart n = if_cases (λ (m : ℕ). m ≢ c.who.number) (n == c.who.number) (n + 1) n (λ q e. grind (arith, nat_tests)) (λ q e. grind (arith, nat_tests))

  visits : (B : Board) (X : Context) (n : ℕ) → AllSay g B c.caller.number X (killed c []) → (B.table ≡ Some c.caller.number) × ((B.context c.who.number).at ≡ Nowhere) → AllSay g B c.caller.number X (facts_destroy c (Locked (visit_from c n)))
  visits B X n h v =
      if_cases (λ (p : DestroyLocked). AllSay g B c.caller.number X (facts_destroy c (Locked p))) (nat_lt (but_victim c n) c.count) (AcquireVisitedLock (but_victim c n)) (Release release.Killed)
      (λ q. (h.0, (h.1.0, (h.1.1.0, (h.1.1.1.0, (h.1.1.1.1.0, (h.1.1.1.1.1.0, (h.1.1.1.1.1.1.0, (v, ((but_apart n, below q), tt))))))))))
      (λ q. (h.0, (h.1.0, (h.1.1.0, (h.1.1.1.0, (h.1.1.1.1.0, (h.1.1.1.1.1.0, (h.1.1.1.1.1.1.0, (v, tt)))))))))
    where
      below : nat_lt (but_victim c n) c.count ≡ true → but_victim c n < c.count
      below q = grind (arith, nat_tests)

  pub ok_remove : Sound (Locked RemoveContext) → Fine (Locked RemoveContext) asks.Removed
  ok_remove h = record { changes = λ t. same t; others = λ k ne. record { owner = λ t o. o; table = λ o. o; ready = λ o. o; queue = λ t o. refl; numbers = λ o. refl }; facts = visits (destroy_board g b c.caller.number x c (Locked RemoveContext) asks.Removed) (destroy_context x c (Locked RemoveContext) asks.Removed (hand_of b (b.queue c.who.number))) 0 h (h.1.0, ap (λ (z : Context). z.at) (upd_other (upd b.context c.who.number (record (b.context c.who.number) { at = Nowhere })) c.caller.number _ c.who.number (dead_apart b x c.who.number c.caller.number h.0.1 h.1.1.1.1.1.0.0 h.1.1.1.1.1.0.1) ∙ upd_same b.context c.who.number (record (b.context c.who.number) { at = Nowhere }))) }

  pub ok_visited : (visited : ℕ) → b.owner visited ≡ None → Sound (Locked (AcquireVisitedLock visited)) → Fine (Locked (AcquireVisitedLock visited)) asks.Got
  ok_visited visited free h = record { changes = λ t. same t; others = λ k ne. record { owner = acquired b.owner visited c.caller.number k free; table = λ o. o; ready = λ o. o; queue = λ t o. refl; numbers = λ o. refl }; facts = (h.0, (h.1.0, (h.1.1.0, (h.1.1.1.0, (h.1.1.1.1.0, ((h.1.1.1.1.1.0.0, h.1.1.1.1.1.0.1, inr h.1.0), (h.1.1.1.1.1.1.0, ((h.1.0, vacant _ h.1.1.1.1.1.1.1.0 h.0 h.1.1.1.1.1.0.0 h.1.1.1.1.1.0.1), (h.1.1.1.1.1.1.1.1.0, (upd_same b.owner visited (Some c.caller.number), tt)))))))))) }

  pub ok_visited_owned : (visited o : ℕ) → Sound (Locked (AcquireVisitedLock visited)) → Fine (Locked (AcquireVisitedLock visited)) (asks.Owned o)
  ok_visited_owned visited o h = record { changes = λ t. same t; others = λ k ne. record { owner = λ t o. o; table = λ o. o; ready = λ o. o; queue = λ t o. refl; numbers = λ o. refl }; facts = (h.0, (h.1.0, (h.1.1.0, (h.1.1.1.0, (h.1.1.1.1.0, (h.1.1.1.1.1.0, (h.1.1.1.1.1.1.0, ((h.1.0, vacant _ h.1.1.1.1.1.1.1.0 h.0 h.1.1.1.1.1.0.0 h.1.1.1.1.1.0.1), (h.1.1.1.1.1.1.1.1.0, tt))))))))) }

  pub ok_load_visited : (visited : ℕ) (w : StateWord) → (b.seen visited).word ≡ w → Sound (Visit (LoadVisited visited)) → Fine (Visit (LoadVisited visited)) (asks.Word w)
  ok_load_visited visited w is h = go (is_receiving_from c.who w.state) refl
    where
      go : (waits : Bool) → is_receiving_from c.who w.state ≡ waits → Led None (Visit (cond waits (FreeVisited visited w) (ReleaseVisitedLock visited)))
      go true r = record { changes = λ t. same t; others = λ k ne. record { owner = λ t o. o; table = λ o. o; ready = λ o. o; queue = λ t o. refl; numbers = λ o. refl }; facts = (h.0, (h.1.0, (h.1.1.0, (h.1.1.1.0, (h.1.1.1.1.0, (h.1.1.1.1.1.0, (h.1.1.1.1.1.1.0, ((h.1.0, vacant _ h.1.1.1.1.1.1.1.0 h.0 h.1.1.1.1.1.0.0 h.1.1.1.1.1.0.1), (h.1.1.1.1.1.1.1.1.0, (h.1.1.1.1.1.1.1.1.1.0, ((h.1.0, r, ap (λ (u : StateWord). u.version) (sym is)), tt))))))))))) }
      go false r = record { changes = λ t. same t; others = λ k ne. record { owner = λ t o. o; table = λ o. o; ready = λ o. o; queue = λ t o. refl; numbers = λ o. refl }; facts = (h.0, (h.1.0, (h.1.1.0, (h.1.1.1.0, (h.1.1.1.1.0, (h.1.1.1.1.1.0, (h.1.1.1.1.1.1.0, ((h.1.0, vacant _ h.1.1.1.1.1.1.1.0 h.0 h.1.1.1.1.1.0.0 h.1.1.1.1.1.0.1), (h.1.1.1.1.1.1.1.1.0, (h.1.1.1.1.1.1.1.1.1.0, ((h.1.0, h.1.1.1.1.1.1.1.1.1.0, h.0.1, ap (λ (u : StateWord). is_receiving_from c.who u.state) is ∙ r), tt))))))))))) }

  pub ok_free_visited_lost : (visited : ℕ) (seen w : StateWord) → Sound (Visit (FreeVisited visited seen)) → Fine (Visit (FreeVisited visited seen)) (asks.Lost w)
  ok_free_visited_lost visited seen w h = record { changes = λ t. same t; others = λ k ne. record { owner = λ t o. o; table = λ o. o; ready = λ o. o; queue = λ t o. refl; numbers = λ o. refl }; facts = (h.0, (h.1.0, (h.1.1.0, (h.1.1.1.0, (h.1.1.1.1.0, (h.1.1.1.1.1.0, (h.1.1.1.1.1.1.0, ((h.1.0, vacant _ h.1.1.1.1.1.1.1.0 h.0 h.1.1.1.1.1.0.0 h.1.1.1.1.1.0.1), (h.1.1.1.1.1.1.1.1.0, (h.1.1.1.1.1.1.1.1.1.0, tt)))))))))) }

  pub ok_free_visited : (visited : ℕ) (seen : StateWord) → (b.seen visited).word ≡ seen → (b.seen visited).told ≡ None → Sound (Visit (FreeVisited visited seen)) → Fine (Visit (FreeVisited visited seen)) asks.Won
  ok_free_visited visited seen won none h =
      let i = c.caller.number in
      let v : Seen = answered (b.seen visited) reply.Gone in
      let st : (b.seen visited).word.state ≡ state.Receiving (Some c.who) = ap (λ (u : StateWord). u.state) won ∙ receiving_is c.who seen.state h.1.1.1.1.1.1.1.1.1.1.0.1 in
      record {
        changes = changed_written (λ t u. Change b i t u) b.seen visited v (freed_word seen) (subst (λ (u : StateWord). Change b i visited (with_word v (freed_word u))) won (frees_receiver visited c.who h.1.1.1.1.1.1.1.1.1.0 h.1.0 h.0.1 st none)) (λ t. same t);
        others = λ k ne. record { owner = λ t o. o; table = λ o. o; ready = λ o. o; queue = λ t o. refl; numbers = λ o. refl };
        facts = if_cases (λ (p : DestroyVisit). AllSay g (destroy_board g b i x c (Visit (FreeVisited visited seen)) asks.Won) i (destroy_context x c (Visit (FreeVisited visited seen)) asks.Won (hand_of b (b.queue visited))) (facts_destroy c (Visit p))) seen.on (ReleaseVisitedLock visited) (AcquireReadyForVisited visited seen) (λ _. all st) (λ _. all st);
      }
    where
      all : (b.seen visited).word.state ≡ state.Receiving (Some c.who) → AllSay g (destroy_board g b c.caller.number x c (Visit (FreeVisited visited seen)) asks.Won) c.caller.number (destroy_context x c (Visit (FreeVisited visited seen)) asks.Won (hand_of b (b.queue visited))) (facts_destroy c (Visit (ReleaseVisitedLock visited)))
      all st =
          let v : Seen = answered (b.seen visited) reply.Gone in
          let run = h.1.1.1.1.1.0.0 in
          let me = written_other b.seen visited v (freed_word seen) c.caller.number (λ e. grind (arith, run.state, h.1.1.1.1.1.0.1)) in
          let who = written_other b.seen visited v (freed_word seen) c.who.number (λ e. h.1.1.1.1.1.1.1.1.0.0 (sym e)) in
          let it = written_it b.seen visited v (freed_word seen) in
          rw (me, who, it) (h.0, (h.1.0, (h.1.1.0, (h.1.1.1.0, (h.1.1.1.1.0, (h.1.1.1.1.1.0, (h.1.1.1.1.1.1.0, ((h.1.0, vacant _ h.1.1.1.1.1.1.1.0 h.0 h.1.1.1.1.1.0.0 h.1.1.1.1.1.0.1), (h.1.1.1.1.1.1.1.1.0, (h.1.1.1.1.1.1.1.1.1.0, ((h.1.0, h.1.1.1.1.1.1.1.1.1.0, h.0.1, refl), tt)))))))))))

  pub ok_ready_visited : (visited : ℕ) (seen : StateWord) → b.ready ≡ None → Sound (Visit (AcquireReadyForVisited visited seen)) → Fine (Visit (AcquireReadyForVisited visited seen)) asks.Got
  ok_ready_visited visited seen free h = record { changes = λ t. same t; others = λ k ne. record { owner = λ t o. o; table = λ o. o; ready = kept_free (Some c.caller.number) free; queue = λ t o. refl; numbers = λ o. refl }; facts = (h.0, (h.1.0, (h.1.1.0, (h.1.1.1.0, (h.1.1.1.1.0, (h.1.1.1.1.1.0, (h.1.1.1.1.1.1.0, ((h.1.0, vacant _ h.1.1.1.1.1.1.1.0 h.0 h.1.1.1.1.1.0.0 h.1.1.1.1.1.0.1), (h.1.1.1.1.1.1.1.1.0, (h.1.1.1.1.1.1.1.1.1.0, (h.1.1.1.1.1.1.1.1.1.1.0, (refl, tt)))))))))))) }

  pub ok_ready_visited_owned : (visited : ℕ) (seen : StateWord) (o : ℕ) → Sound (Visit (AcquireReadyForVisited visited seen)) → Fine (Visit (AcquireReadyForVisited visited seen)) (asks.Owned o)
  ok_ready_visited_owned visited seen o h = record { changes = λ t. same t; others = λ k ne. record { owner = λ t o. o; table = λ o. o; ready = λ o. o; queue = λ t o. refl; numbers = λ o. refl }; facts = (h.0, (h.1.0, (h.1.1.0, (h.1.1.1.0, (h.1.1.1.1.0, (h.1.1.1.1.1.0, (h.1.1.1.1.1.1.0, ((h.1.0, vacant _ h.1.1.1.1.1.1.1.0 h.0 h.1.1.1.1.1.0.0 h.1.1.1.1.1.0.1), (h.1.1.1.1.1.1.1.1.0, (h.1.1.1.1.1.1.1.1.1.0, (h.1.1.1.1.1.1.1.1.1.1.0, tt))))))))))) }

  pub ok_push_visited : (visited : ℕ) (seen : StateWord) → Sound (Pushing (PushVisited visited seen)) → Fine (Pushing (PushVisited visited seen)) asks.Released
  ok_push_visited visited seen h = record { changes = λ t. same t; others = λ k ne. record { owner = λ t o. o; table = λ o. o; ready = kept_lock ne None h.1.1.1.1.1.1.1.1.1.1.1.0; queue = λ t o. refl; numbers = λ o. refl }; facts = (h.0, (h.1.0, (h.1.1.0, (h.1.1.1.0, (h.1.1.1.1.0, (h.1.1.1.1.1.0, (h.1.1.1.1.1.1.0, ((h.1.0, vacant _ h.1.1.1.1.1.1.1.0 h.0 h.1.1.1.1.1.0.0 h.1.1.1.1.1.0.1), (h.1.1.1.1.1.1.1.1.0, (h.1.1.1.1.1.1.1.1.1.0, (h.1.1.1.1.1.1.1.1.1.1.0, tt))))))))))) }

  pub ok_release_visited : (visited : ℕ) → Sound (Visit (ReleaseVisitedLock visited)) → Fine (Visit (ReleaseVisitedLock visited)) asks.Released
  ok_release_visited visited h = record { changes = λ t. same t; others = λ k ne. record { owner = released b.owner visited c.caller.number k h.1.1.1.1.1.1.1.1.1.0 ne; table = λ o. o; ready = λ o. o; queue = kept_queue b.owner b.queue visited c.caller.number k _ h.1.1.1.1.1.1.1.1.1.0 ne; numbers = λ o. refl }; facts = visits (destroy_board g b c.caller.number x c (Visit (ReleaseVisitedLock visited)) asks.Released) (destroy_context x c (Visit (ReleaseVisitedLock visited)) asks.Released (hand_of b (b.queue visited))) (visited + 1) (h.0, (h.1.0, (h.1.1.0, (h.1.1.1.0, (h.1.1.1.1.0, ((h.1.1.1.1.1.0.0, h.1.1.1.1.1.0.1, inr h.1.0), (h.1.1.1.1.1.1.0, tt))))))) (h.1.0, vacant _ h.1.1.1.1.1.1.1.0 h.0 h.1.1.1.1.1.0.0 h.1.1.1.1.1.0.1) }

  pub ok_release_killed : Sound (Locked (Release release.Killed)) → Fine (Locked (Release release.Killed)) asks.Released
  ok_release_killed h = record { changes = λ t. same t; others = λ k ne. record { owner = λ t o. o; table = kept_lock ne None h.1.0; ready = λ o. o; queue = λ t o. refl; numbers = λ o. absurd (not_both ne h.1.0 o) }; facts = ends g b x c.caller reply.Killed (h.1.1.0, (h.1.1.1.0, (h.1.1.1.1.0, (h.1.1.1.1.1.0, (h.1.1.1.1.1.1.0, tt))))) }

  pub ok_release_absent : (found : Found) → Sound (Victim (ReleaseVictimLockAbsent found)) → Fine (Victim (ReleaseVictimLockAbsent found)) asks.Released
  ok_release_absent found h = record { changes = λ t. same t; others = λ k ne. record { owner = released b.owner c.who.number c.caller.number k h.1.0 ne; table = λ o. o; ready = λ o. o; queue = λ t o. refl; numbers = λ o. refl }; facts = (h.0, (h.1.1.0, (h.1.1.1.0, (h.1.1.1.1.0, ((h.1.1.1.1.1.0.0, h.1.1.1.1.1.0.1, inr h.0), (h.1.1.1.1.1.1.0, tt)))))) }

  pub ok_release_table : (found : Found) → Sound (Locked (Release (release.Absent found))) → Fine (Locked (Release (release.Absent found))) asks.Released
  ok_release_table found h = record { changes = λ t. same t; others = λ k ne. record { owner = λ t o. o; table = kept_lock ne None h.0; ready = λ o. o; queue = λ t o. refl; numbers = λ o. refl }; facts = ends g b x c.caller (reply.Absent found) h.1 }

  pub ok_release_dead : Sound (Locked (Release release.Dead)) → Fine (Locked (Release release.Dead)) asks.Released
  ok_release_dead h = record { changes = λ t. same t; others = λ k ne. record { owner = λ t o. o; table = kept_lock ne None h.0; ready = λ o. o; queue = λ t o. refl; numbers = λ o. refl }; facts = (h.1.0, tt) }

-- THE FREEING OF A SENDER, by whether it was on

abbrev pub word_of : ℕ → ℕ → Bool → State → StateWord
word_of version priority on s = record { version = version; priority = priority; on = on; state = s }

module _ (g : Programs) (b : Board) (x : Context) (c : DestroyCall) (sender version priority : ℕ) (s : State) where
  module _ (on : Bool) (won : (b.seen sender).word ≡ word_of version priority on s) (none : (b.seen sender).told ≡ None) (once : IsOnceEach (b.queue c.who.number)) (h : Sound g b x c (Victim (FreeSender sender (word_of version priority on s)))) where
    sends : SendsTo c.who s
    sends = front_sends c.who (b.queue c.who.number) sender (word_of version priority on s) h.1.1.1.1.1.1.1.1.1.1.0.1

    freeing : (t : ℕ) → Change b c.caller.number t (write (upd b.seen sender (answered (b.seen sender) reply.Gone)) sender (freed_word (word_of version priority on s)) t)
    freeing = changed_written (λ t u. Change b c.caller.number t u) b.seen sender (answered (b.seen sender) reply.Gone) (freed_word (word_of version priority on s)) (subst (λ (u : StateWord). Change b c.caller.number sender (with_word (answered (b.seen sender) reply.Gone) (freed_word u))) won (frees_sender sender c.who sends.joined h.1.1.1.1.1.1.1.0 h.1.0 h.0.1 (ap (λ (u : StateWord). u.state) won ∙ sends.is) none)) (λ t. same t)

    me_same : write (upd b.seen sender (answered (b.seen sender) reply.Gone)) sender (freed_word (word_of version priority on s)) c.caller.number ≡ b.seen c.caller.number
    me_same = written_other b.seen sender (answered (b.seen sender) reply.Gone) (freed_word (word_of version priority on s)) c.caller.number (λ e. run_not h.1.1.1.1.1.0.0 h.1.1.1.1.1.0.1 e)
      where
        run_not : IsRun x.own → (b.seen c.caller.number).word ≡ x.own → c.caller.number ≡ sender → ⊥
        run_not run own e = grind (arith, run.state, sends.is)

    who_same : write (upd b.seen sender (answered (b.seen sender) reply.Gone)) sender (freed_word (word_of version priority on s)) c.who.number ≡ b.seen c.who.number
    who_same = written_other b.seen sender (answered (b.seen sender) reply.Gone) (freed_word (word_of version priority on s)) c.who.number (λ e. dead_not h.0.1 e)
      where
        dead_not : is_dead (b.seen c.who.number).word ≡ true → c.who.number ≡ sender → ⊥
        dead_not d e = grind (arith, sends.is)

    rest_waits : AllWait c.who (write (upd b.seen sender (answered (b.seen sender) reply.Gone)) sender (freed_word (word_of version priority on s))) (rest (b.queue c.who.number))
    rest_waits = all_wait_but c.who b.seen (write (upd b.seen sender (answered (b.seen sender) reply.Gone)) sender (freed_word (word_of version priority on s))) sender (rest (b.queue c.who.number)) (λ t ne. ap (λ (u : Seen). u.word) (written_other b.seen sender (answered (b.seen sender) reply.Gone) (freed_word (word_of version priority on s)) t ne)) (front_alone c.who (b.queue c.who.number) sender (word_of version priority on s) once h.1.1.1.1.1.1.1.1.1.1.0.1) (all_rest c.who b.seen (b.queue c.who.number) h.1.1.1.1.1.1.1.1.0.2)

  free_off : (b.seen sender).word ≡ word_of version priority false s → (b.seen sender).told ≡ None → IsOnceEach (b.queue c.who.number) → Sound g b x c (Victim (FreeSender sender (word_of version priority false s))) → Fine g b x c (Victim (FreeSender sender (word_of version priority false s))) asks.Won
  free_off won none once h = record { changes = freeing false won none once h; others = λ k ne. record { owner = λ t o. o; table = λ o. o; ready = λ o. o; queue = λ t o. refl; numbers = λ o. refl }; facts = rw (me_same false won none once h, who_same false won none once h) (h.0, (h.1.0, (h.1.1.0, (h.1.1.1.0, (h.1.1.1.1.0, (h.1.1.1.1.1.0, (h.1.1.1.1.1.1.0, (h.1.1.1.1.1.1.1.0, ((h.1.0, h.1.1.1.1.1.1.1.0, rest_waits false won none once h), (h.1.1.1.1.1.1.1.1.1.0, tt)))))))))) }

  free_on : (b.seen sender).word ≡ word_of version priority true s → (b.seen sender).told ≡ None → IsOnceEach (b.queue c.who.number) → Sound g b x c (Victim (FreeSender sender (word_of version priority true s))) → Fine g b x c (Victim (FreeSender sender (word_of version priority true s))) asks.Won
  free_on won none once h = record { changes = freeing true won none once h; others = λ k ne. record { owner = λ t o. o; table = λ o. o; ready = λ o. o; queue = kept_queue b.owner b.queue c.who.number c.caller.number k _ h.1.1.1.1.1.1.1.0 ne; numbers = λ o. refl }; facts = by (rest (b.queue c.who.number)) refl }
    where
      by : (q : List SenderEntry) → rest (b.queue c.who.number) ≡ q → AllSay g (destroy_board g b c.caller.number x c (Victim (FreeSender sender (word_of version priority true s))) asks.Won) c.caller.number (destroy_context x c (Victim (FreeSender sender (word_of version priority true s))) asks.Won (hand_of b (b.queue c.who.number))) (facts_destroy c (Victim (free_first q)))
      by [] q = rw (me_same true won none once h, who_same true won none once h) (h.0, (h.1.0, (h.1.1.0, (h.1.1.1.0, (h.1.1.1.1.0, (h.1.1.1.1.1.0, (h.1.1.1.1.1.1.0, (h.1.1.1.1.1.1.1.0, ((h.1.1.1.1.1.1.1.0, upd_same b.queue c.who.number (rest (b.queue c.who.number)) ∙ q), tt)))))))))
      by (e ∷ es) q = rw (me_same true won none once h, who_same true won none once h) (h.0, (h.1.0, (h.1.1.0, (h.1.1.1.0, (h.1.1.1.1.0, (h.1.1.1.1.1.0, (h.1.1.1.1.1.1.0, (h.1.1.1.1.1.1.1.0, ((h.1.0, h.1.1.1.1.1.1.1.0, rw (upd_same b.queue c.who.number (rest (b.queue c.who.number))) (rest_waits true won none once h)), ((h.1.1.1.1.1.1.1.0, ap first_number (upd_same b.queue c.who.number (rest (b.queue c.who.number)) ∙ q)), tt))))))))))

  free_by : (on : Bool) → (b.seen sender).word ≡ word_of version priority on s → (b.seen sender).told ≡ None → IsOnceEach (b.queue c.who.number) → Sound g b x c (Victim (FreeSender sender (word_of version priority on s))) → Fine g b x c (Victim (FreeSender sender (word_of version priority on s))) asks.Won
  free_by true won none once h = free_on won none once h
  free_by false won none once h = free_off won none once h

pub ok_free : (g : Programs) (b : Board) (x : Context) (c : DestroyCall) (sender : ℕ) (seen : StateWord) → (b.seen sender).word ≡ seen → (b.seen sender).told ≡ None → IsOnceEach (b.queue c.who.number) → Sound g b x c (Victim (FreeSender sender seen)) → Fine g b x c (Victim (FreeSender sender seen)) asks.Won
ok_free g b x c sender seen won none once h = free_by g b x c sender seen.version seen.priority seen.state seen.on won none once h
