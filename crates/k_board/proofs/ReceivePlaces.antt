-- The locations of a receive, and of the pick after a reply.
use Rattle.std.proofs.Common.{◌≡◌, ◌≢◌, ℕ, Bool, true, false, cond, refl, sym, ap, ◌∙◌, subst, [], ◌∷◌, Option, Some, None, arith, ◌⊎◌, inl, inr, eqb}
use Rattle.std.proofs.lemmas.Bool.{eqb-true, and_parts}
use Rattle.std.proofs.lemmas.Bool.Decides.{nat_tests}
use Rattle.k_ids.specs.declared.threads.ThreadId.{ThreadId}
use Rattle.k_ids.specs.declared.calls.Phase.TheVariants as phase
use Rattle.k_ids.specs.declared.calls.Reply.{Reply}
use Rattle.k_ids.specs.declared.calls.Reply.TheVariants as reply
use Rattle.k_ids.specs.declared.calls.Act.TheVariants as act
use Rattle.k_ids.specs.declared.calls.Outcome.TheVariants as outcome
use Rattle.k_ids.specs.declared.state_word.Result4.{Result4}
use Rattle.k_ids.specs.declared.state_word.Result4.TheVariants as result4
use Rattle.k_ids.specs.declared.state_word.State.{State}
use Rattle.k_ids.specs.declared.state_word.State.TheVariants as state
use Rattle.k_ids.specs.declared.state_word.StateWord.{StateWord}
use Rattle.k_model.specs.Maps.{upd}
use Rattle.k_model.specs.State.{admits, same_id}
use Rattle.k_model.specs.Step.{is_own}
use Rattle.k_model.proofs.Maps.{upd_same, upd_other}
use Rattle.k_senders.specs.declared.entries.SenderEntry.{SenderEntry}
use Rattle.k_senders.specs.Entries.{number_of, sender_of}
use Rattle.k_senders.specs.Queue.{IsOnceEach, entry_of}
use Rattle.k_locks.specs.declared.points.Point.{Point}
use Rattle.k_locks.specs.declared.steps.Went.TheVariants as went
use Rattle.k_locks.specs.Asks.{Response}
use Rattle.k_locks.specs.Asks as asks
use Rattle.k_locks.specs.Queues.{before}
use Rattle.k_locks.specs.Shown.{is_dead, is_present_in}
use Rattle.k_ipc.specs.Candidates.{first_admitted}
use Rattle.k_ipc.specs.Words.{in_state, is_joined_to, on_in, sends_to}
use Rattle.k_ipc.specs.declared.receive.ReceiveCall.{ReceiveCall}
use Rattle.k_ipc.specs.declared.receive.ReceiveOutside.TheVariants as outside
use Rattle.k_ipc.specs.declared.receive.ReceiveLocked.{ReceiveLocked}
use Rattle.k_ipc.specs.declared.receive.ReceiveLocked.TheVariants as locked
use Rattle.k_ipc.specs.declared.receive.ReceiveRelease.TheVariants as returns
use Rattle.k_ipc.specs.declared.receive.ReceivePushing.TheVariants as pushing
use Rattle.k_ipc.specs.ReceiveTable.{ReceiveAt, after_free, after_wait, candidates_after, nobody_left, picking_by, point_by, stays_out, still_waits, try_next, try_sender}
use Rattle.k_ipc.specs.ReceiveTable as receive
use Rattle.k_ipc.proofs.Chosen.{first_is, next_is}
use Rattle.k_caller.specs.Waits.{is_waiting}
use Rattle.k_caller.specs.declared.thread.ThreadLocation.TheVariants as location
use Rattle.k_board.specs.Words.{Seen, Programs, called, answered, noted, tells, here}
use Rattle.k_board.specs.Boards.{Board, Context, Alone, InReceive, hand_of}
use Rattle.k_board.specs.Facts.{AllSay, IsRun, PicksBy, WaitsBy, NoneWaits, is_open, may_wait, Me, Called, Settled, Kept, Told, Fresh, Begun}
use Rattle.k_board.specs.Places.{facts_of, facts_receive, got, receive_phase, settling}
use Rattle.k_board.specs.Moves.{Change, same, calls, settles, takes, joins, PlaceStep, is_sending}
use Rattle.k_board.specs.Steps.{after, with_word, write, receive_board, receive_context, pick_call}
use Rattle.k_board.proofs.Cases.{if_cases, by_two, changed_one, changed_written, acquired, released, kept_queue, kept_lock, kept_free}
use Rattle.k_board.proofs.Rely.{quits_unsent}
use Rattle.k_board.proofs.Scan.{none_before, none_left, none_next, none_end}
use Rattle.k_board.proofs.SendPlaces.{run_idle}

pub same_is : (a c : ThreadId) → same_id a c ≡ true → a ≡ c
same_is a c q = let h = and_parts _ _ q in λ d. record { number = eqb-true a.number c.number h.0 d; version = eqb-true a.version c.version h.1 d }

pub record SendsTo (to : ThreadId) (s : State) : Type 0 where
  pub joined : Bool
  pub is : s ≡ state.Sending to joined

pub sends_is : (to : ThreadId) (s : State) → sends_to to s ≡ true → SendsTo to s
sends_is to state.Dead q = absurd (grind arith)
sends_is to (state.Run r) q = absurd (grind arith)
sends_is to (state.Sending u j) q = record { joined = j; is = ap (λ (v : ThreadId). state.Sending v j) (same_is u to q) }
sends_is to (state.Receiving f) q = absurd (grind arith)
sends_is to state.Picking q = absurd (grind arith)
sends_is to state.Ended q = absurd (grind arith)

open_alive : (w own : StateWord) (s : State) → w ≡ own → own.state ≡ s → is_open s ≡ true → is_dead w ≡ false
open_alive w own s e st o = grind arith

run_alive : (w own : StateWord) → IsRun own → w ≡ own → is_dead w ≡ false
run_alive w own r e = grind (arith, r.state)

-- the caller is there
here_is : (b : Board) (me : ThreadId) → (me.number ≡ me.number) × (me.version ≡ (b.seen me.number).word.version) → is_dead (b.seen me.number).word ≡ false → is_present_in (b.seen me.number).word me ≡ true
here_is b me m d = grind (arith, nat_tests)

open_unsent : (w own : StateWord) (s : State) → w ≡ own → own.state ≡ s → is_open s ≡ true → is_sending w.state ≡ false
open_unsent w own s e st o = grind arith

picking_own : (own : StateWord) (v : Seen) → PicksBy own v → v.word.state ≡ state.Picking → v.word ≡ own
picking_own own v (inl (inl e)) q = e
picking_own own v (inl (inr d)) q = absurd (grind arith)
picking_own own v (inr d) q = absurd (grind (arith, d.state))

picks_waits : (own : StateWord) (v : Seen) → own.state ≡ state.Picking → PicksBy own v → (r : Result4) → v.word.state ≡ state.Run r → WaitsBy v
picks_waits own v p (inl (inl e)) r q = absurd (grind arith)
picks_waits own v p (inl (inr d)) r q = inl d
picks_waits own v p (inr d) r q = inr (inr (inr (inr d)))

picks_not : (own : StateWord) (v : Seen) → own.state ≡ state.Picking → PicksBy own v → (s : State) → v.word.state ≡ s → (may_wait s ≡ true) ⊎ (s ≡ state.Ended) → ⊥
picks_not own v p (inl (inl e)) s q n = grind arith
picks_not own v p (inl (inr d)) s q n = grind arith
picks_not own v p (inr d) s q n = grind (arith, d.state)

joined_is : (to_ : Bool) (s : State) {caller : ThreadId} → SendsTo caller s → to_ ≡ is_joined_to s → s ≡ state.Sending caller to_
joined_is j s st q = st.is ∙ ap (λ (k : Bool). state.Sending _ k) (sym (q ∙ ap is_joined_to st.is))

-- THE TOOK: the caller's number becomes v, and the sender is freed

module _ (b : Board) (caller : ThreadId) (e : SenderEntry) (w : StateWord) (v : Seen) where
  joined_at : (b.seen (number_of e)).word ≡ w → number_of e ≢ caller.number → is_joined_to (upd b.seen caller.number v (number_of e)).word.state ≡ is_joined_to w.state
  joined_at won ne = ap (λ (u : Seen). is_joined_to u.word.state) (upd_other b.seen caller.number v (number_of e) ne) ∙ ap (λ (u : StateWord). is_joined_to u.state) won

  me_after : number_of e ≢ caller.number → (J1 J2 : Bool) → write (cond J1 (upd b.seen caller.number v) (tells (upd b.seen caller.number v) (sender_of e) reply.Sent)) (number_of e) (cond J2 (in_state (state.Receiving (Some caller)) w) (on_in (state.Run result4.Sent) w)) caller.number ≡ v
  me_after ne true J2 = upd_other (upd b.seen caller.number v) (number_of e) _ caller.number (λ q. ne (sym q)) ∙ upd_same b.seen caller.number v
  me_after ne false J2 = upd_other (tells (upd b.seen caller.number v) (sender_of e) reply.Sent) (number_of e) _ caller.number (λ q. ne (sym q)) ∙ upd_other (upd b.seen caller.number v) (number_of e) _ caller.number (λ q. ne (sym q)) ∙ upd_same b.seen caller.number v

  -- the sender waits no more
  quit_after : (c : ReceiveCall) (s : ℕ → Seen) (J2 : Bool) → still_waits c e (write s (number_of e) (cond J2 (in_state (state.Receiving (Some caller)) w) (on_in (state.Run result4.Sent) w)) (number_of e)).word ≡ false
  quit_after c s true = rw (upd_same s (number_of e) (with_word (s (number_of e)) (in_state (state.Receiving (Some caller)) w))) (quits_unsent (in_state (state.Receiving (Some caller)) w) c.caller e refl)
  quit_after c s false = rw (upd_same s (number_of e) (with_word (s (number_of e)) (on_in (state.Run result4.Sent) w))) (quits_unsent (on_in (state.Run result4.Sent) w) c.caller e refl)

  taken : (b.seen (number_of e)).word ≡ w → SendsTo caller w.state → number_of e ≢ caller.number → b.owner caller.number ≡ Some caller.number → is_present_in (b.seen caller.number).word caller ≡ true → (b.seen (number_of e)).told ≡ None → Change b caller.number caller.number v →
      (J1 J2 : Bool) → J2 ≡ is_joined_to w.state → J1 ≡ J2 → (t : ℕ) → Change b caller.number t (write (cond J1 (upd b.seen caller.number v) (tells (upd b.seen caller.number v) (sender_of e) reply.Sent)) (number_of e) (cond J2 (in_state (state.Receiving (Some caller)) w) (on_in (state.Run result4.Sent) w)) t)
  taken won st ne o pr none h true true j2 j1 =
      by_two (λ t u. Change b caller.number t u) _ caller.number (number_of e)
      (subst (λ u. Change b caller.number caller.number u) (sym (me_after ne true true)) h)
      (subst (λ u. Change b caller.number (number_of e) u) (sym (upd_same (upd b.seen caller.number v) (number_of e) _ ∙ ap (λ (u : Seen). with_word u (in_state (state.Receiving (Some caller)) w)) (upd_other b.seen caller.number v (number_of e) ne)))
      (subst (λ (u : StateWord). Change b caller.number (number_of e) (with_word (b.seen (number_of e)) (in_state (state.Receiving (Some caller)) u))) won (joins (number_of e) caller o refl pr (ap (λ (u : StateWord). u.state) won ∙ joined_is true w.state st j2))))
      (λ t na nc. subst (λ u. Change b caller.number t u) (sym (upd_other (upd b.seen caller.number v) (number_of e) _ t nc ∙ upd_other b.seen caller.number v t na)) (same t))
  taken won st ne o pr none h false false j2 j1 =
      by_two (λ t u. Change b caller.number t u) _ caller.number (number_of e)
      (subst (λ u. Change b caller.number caller.number u) (sym (me_after ne false false)) h)
      (subst (λ u. Change b caller.number (number_of e) u) (sym (upd_same (tells (upd b.seen caller.number v) (sender_of e) reply.Sent) (number_of e) _ ∙ ap (λ (u : Seen). with_word u (on_in (state.Run result4.Sent) w)) (upd_same (upd b.seen caller.number v) (number_of e) _ ∙ ap (λ (u : Seen). answered u reply.Sent) (upd_other b.seen caller.number v (number_of e) ne))))
      (subst (λ (u : StateWord). Change b caller.number (number_of e) (with_word (answered (b.seen (number_of e)) reply.Sent) (on_in (state.Run result4.Sent) u))) won (takes (number_of e) caller o refl (ap (λ (u : StateWord). u.state) won ∙ joined_is false w.state st j2) none)))
      (λ t na nc. subst (λ u. Change b caller.number t u) (sym (upd_other (tells (upd b.seen caller.number v) (sender_of e) reply.Sent) (number_of e) _ t nc ∙ upd_other (upd b.seen caller.number v) (number_of e) _ t nc ∙ upd_other b.seen caller.number v t na)) (same t))
  taken won st ne o pr none h true false j2 j1 = λ t. absurd (grind arith)
  taken won st ne o pr none h false true j2 j1 = λ t. absurd (grind arith)

-- a call that has ended hands out its reply
pub ends : (g : Programs) (b : Board) (x : Context) (c : ThreadId) (r : Reply) → AllSay g b c.number x (Me c ∷ Called ∷ Settled ∷ Kept ∷ Told r ∷ []) → AllSay g b c.number x (facts_of (Alone (location.Between (Some r))))
ends g b x c r h = let own = h.1.1.1.0 in (h.1.0, ((own.0, inl own.1), ((run_idle x.own _ own.0 (inl own.1), rw (h.1.1.0, h.1.1.1.1.0) here), tt)))

module _ (g : Programs) (b : Board) (x : Context) where
  abbrev pub Fine : ReceiveCall → ReceiveAt → Response → Type 0
  Fine c p f = PlaceStep g b c.caller.number (receive_context x c p f (hand_of b (b.queue c.caller.number))) (receive_board g b c.caller.number x c p f)

  abbrev pub Sound : ReceiveCall → ReceiveAt → Type 0
  Sound c p = AllSay g b c.caller.number x (facts_receive c p)

  abbrev stands_at : ReceiveCall → ReceiveLocked → Context
  stands_at c p = record x { at = InReceive c (receive.Locked p) }

  abbrev Led : ReceiveCall → Option Point → ReceiveLocked → Type 0
  Led c e p = PlaceStep g b c.caller.number (stands_at c p) (record b { seen = noted g b.seen x.position e; context = upd b.context c.caller.number (stands_at c p) })

  refuses : (i : ℕ) (r : Reply) → IsRun x.own → (b.seen i).word ≡ x.own → (t : ℕ) → Change b i t (upd b.seen i (called (b.seen i) (Some r) x.position) t)
  refuses i r run own_ =
      let own : IsRun x.own × ((b.seen i).word ≡ x.own) = (run, own_) in
      changed_one (λ t v. Change b i t v) b.seen i (called (b.seen i) (Some r) x.position)
      (calls (b.seen i).word (Some r) x.position (grind (arith, own.0.state)) record { version = refl; alive = grind (arith, own.0.state); any = λ q. absurd (grind (arith, own.0.state)); one = λ f q. absurd (grind (arith, own.0.state)); sends = λ to joined q. absurd (grind (arith, own.0.state)) }) (λ t. same t)

  abbrev pub R : ThreadId → Option ThreadId → Bool → ReceiveCall
  R caller from zero = record { caller = caller; from = from; zero = zero; picks = false }

  module _ (caller : ThreadId) (from : Option ThreadId) where
    pub ok_self : (zero : Bool) (w : StateWord) → (b.seen caller.number).word ≡ w → Sound (R caller from zero) (receive.Outside outside.LoadCaller) → Fine (R caller from zero) (receive.Outside outside.LoadCaller) (asks.Word w)
    ok_self zero w is h = go (is_dead w) refl
      where
        go : (dead : Bool) → is_dead w ≡ dead → PlaceStep g b caller.number (record x { at = after caller (cond dead went.CallerDead (went.Ends reply.Own)) }) (record b { seen = noted g b.seen x.position (cond dead None (Some (point_by (R caller from zero) (act.Call (phase.Receive from zero)) outcome.Own))); context = upd b.context caller.number (record x { at = after caller (cond dead went.CallerDead (went.Ends reply.Own)) }) })
        go true d = record { changes = λ t. same t; others = λ k ne. record { owner = λ t o. o; table = λ o. o; ready = λ o. o; queue = λ t o. refl; numbers = λ o. refl }; facts = (grind arith, tt) }
        go false d =
            let own : (b.seen caller.number).word ≡ x.own = grind arith in
            record { changes = refuses caller.number reply.Own h.1.1.1.1.0.0 own; others = λ k ne. record { owner = λ t o. o; table = λ o. o; ready = λ o. o; queue = λ t o. refl; numbers = λ o. refl }; facts = rw (upd_same b.seen caller.number (called (b.seen caller.number) (Some reply.Own) x.position)) (h.1.1.0, (h.1.1.1.1.0, ((h.1.1.1.0.0, here), tt))) }

    pub ok_acquire : (zero : Bool) → Sound (R caller from zero) (receive.Outside outside.AcquireOwn) → b.owner caller.number ≡ None → Fine (R caller from zero) (receive.Outside outside.AcquireOwn) asks.Got
    ok_acquire zero h free = record { changes = λ t. same t; others = λ k ne. record { owner = acquired b.owner caller.number caller.number k free; table = λ o. o; ready = λ o. o; queue = λ t o. refl; numbers = λ o. refl }; facts = (h.0, (upd_same b.owner caller.number (Some caller.number), h.1)) }

    pub ok_acquire_owned : (zero : Bool) (o : ℕ) → Sound (R caller from zero) (receive.Outside outside.AcquireOwn) → Fine (R caller from zero) (receive.Outside outside.AcquireOwn) (asks.Owned o)
    ok_acquire_owned zero o h = record { changes = λ t. same t; others = λ k ne. record { owner = λ t o. o; table = λ o. o; ready = λ o. o; queue = λ t o. refl; numbers = λ o. refl }; facts = h }

    -- the first candidate that is left, or none
    none_or : (zero : Bool) (o : Option SenderEntry) → is_own from caller ≡ false → b.owner caller.number ≡ Some caller.number → ((e : SenderEntry) → o ≡ Some e → (entry_of (number_of e) (b.queue caller.number) ≡ Some e) × (admits from (sender_of e) ≡ true) × NoneWaits (R caller from zero) b.seen (before (number_of e) (b.queue caller.number))) → (o ≡ None → NoneWaits (R caller from zero) b.seen (b.queue caller.number)) → AllSay g b caller.number x (Me caller ∷ Fresh ∷ Begun (receive_phase (R caller from zero)) ∷ Kept ∷ []) → Led (R caller from zero) (nobody_left (R caller from zero) o) (try_sender (R caller from zero) o)
    none_or zero (Some e) iso o some none h = let s = some e refl in record { changes = λ t. same t; others = λ k ne. record { owner = λ t o. o; table = λ o. o; ready = λ o. o; queue = λ t o. refl; numbers = λ o. refl }; facts = ((refl, iso), (o, (h.0, (h.1.0, (h.1.1.0, (h.1.1.1.0, ((refl, o, s.0, s.1, s.2), tt))))))) }
    none_or true None iso o some none h = record { changes = refuses caller.number reply.Nobody h.1.1.1.0.0 h.1.1.1.0.1; others = λ k ne. record { owner = λ t o. o; table = λ o. o; ready = λ o. o; queue = λ t o. refl; numbers = λ o. refl }; facts = rw (upd_same b.seen caller.number (called (b.seen caller.number) (Some reply.Nobody) x.position)) (o, (h.0, (h.1.0, (refl, (h.1.1.1.0, (refl, tt)))))) }
    none_or false None iso o some none h = record { changes = λ t. same t; others = λ k ne. record { owner = λ t o. o; table = λ o. o; ready = λ o. o; queue = λ t o. refl; numbers = λ o. refl }; facts = ((refl, iso), (o, (h.0, (h.1.0, (h.1.1.0, (h.1.1.1.0, (refl, ((refl, o, none refl), tt)))))))) }

    pub ok_load : (zero : Bool) (w : StateWord) → IsOnceEach (b.queue caller.number) → (b.seen caller.number).word ≡ w → Sound (R caller from zero) (receive.Locked locked.LoadOwn) → Fine (R caller from zero) (receive.Locked locked.LoadOwn) (asks.Word w)
    ok_load zero w once is h = go (is_dead w) refl
      where
        first : (e : SenderEntry) → first_admitted from (b.queue caller.number) ≡ Some e → (entry_of (number_of e) (b.queue caller.number) ≡ Some e) × (admits from (sender_of e) ≡ true) × NoneWaits (R caller from zero) b.seen (before (number_of e) (b.queue caller.number))
        first e q = let f = first_is from (b.queue caller.number) e once q in (f.standing, f.wanted, none_before (R caller from zero) b.seen (b.queue caller.number) e q)

        go : (dead : Bool) → is_dead w ≡ dead → Led (R caller from zero) (cond dead None (nobody_left (R caller from zero) (first_admitted from (b.queue caller.number)))) (cond dead (locked.Release returns.Dead) (try_sender (R caller from zero) (first_admitted from (b.queue caller.number))))
        go true d = record { changes = λ t. same t; others = λ k ne. record { owner = λ t o. o; table = λ o. o; ready = λ o. o; queue = λ t o. refl; numbers = λ o. refl }; facts = (h.1.0, (grind arith, (h.1.1.0, tt))) }
        go false d =
            let own : (b.seen caller.number).word ≡ x.own = grind arith in
            none_or zero (first_admitted from (b.queue caller.number)) h.0.1 h.1.0 first (λ q. none_left (R caller from zero) b.seen (b.queue caller.number) q) (h.1.1.0, (h.1.1.1.0, (h.1.1.1.1.0, ((h.1.1.1.1.1.0.0, own, inl h.1.0), tt))))

    pub ok_sender : (zero : Bool) (e : SenderEntry) (w : StateWord) → IsOnceEach (b.queue caller.number) → (b.seen (number_of e)).word ≡ w → Sound (R caller from zero) (receive.Locked (locked.LoadSender e)) → Fine (R caller from zero) (receive.Locked (locked.LoadSender e)) (asks.Word w)
    ok_sender zero e w once is h = go (still_waits (R caller from zero) e w) refl
      where
        reach : AllSay g b caller.number x (facts_receive (R caller from zero) (receive.Locked (locked.LoadSender e))) → (entry_of (number_of e) (b.queue caller.number) ≡ Some e) × (admits from (sender_of e) ≡ true) × NoneWaits (R caller from zero) b.seen (before (number_of e) (b.queue caller.number))
        reach h = (h.1.1.1.1.1.1.0.2, h.1.1.1.1.1.1.0.3, h.1.1.1.1.1.1.0.4)

        next : still_waits (R caller from zero) e w ≡ false → (d : SenderEntry) → candidates_after (R caller from zero) (hand_of b (b.queue caller.number)) e ≡ Some d → (entry_of (number_of d) (b.queue caller.number) ≡ Some d) × (admits from (sender_of d) ≡ true) × NoneWaits (R caller from zero) b.seen (before (number_of d) (b.queue caller.number))
        next s d q =
            let r = reach h in
            let f = next_is from (b.queue caller.number) e d once r.0 r.1 q in
            (f.standing, f.wanted, none_next (R caller from zero) b.seen (b.queue caller.number) e d r.0 (λ a. subst (λ (u : StateWord). still_waits (R caller from zero) e u ≡ false) (sym is) s) r.2 q)

        end : still_waits (R caller from zero) e w ≡ false → candidates_after (R caller from zero) (hand_of b (b.queue caller.number)) e ≡ None → NoneWaits (R caller from zero) b.seen (b.queue caller.number)
        end s q = let r = reach h in none_end (R caller from zero) b.seen (b.queue caller.number) e r.0 (λ a. subst (λ (u : StateWord). still_waits (R caller from zero) e u ≡ false) (sym is) s) r.2 q

        go : (waits : Bool) → still_waits (R caller from zero) e w ≡ waits → Led (R caller from zero) (cond waits None (nobody_left (R caller from zero) (candidates_after (R caller from zero) (hand_of b (b.queue caller.number)) e))) (cond waits (locked.FreeSender e w) (try_sender (R caller from zero) (candidates_after (R caller from zero) (hand_of b (b.queue caller.number)) e)))
        go true s = record { changes = λ t. same t; others = λ k ne. record { owner = λ t o. o; table = λ o. o; ready = λ o. o; queue = λ t o. refl; numbers = λ o. refl }; facts = (h.0, (h.1.0, (s, h.1.1))) }
        go false s = none_or zero (candidates_after (R caller from zero) (hand_of b (b.queue caller.number)) e) h.0.1 h.1.0 (next s) (end s) (h.1.1.0, (h.1.1.1.0, (h.1.1.1.1.0, (h.1.1.1.1.1.0, tt))))

    pub ok_wait : (zero : Bool) → Sound (R caller from zero) (receive.Locked locked.CommitWait) → Fine (R caller from zero) (receive.Locked locked.CommitWait) asks.Won
    ok_wait zero h =
        let i = caller.number in
        let own = h.1.1.1.1.1.0 in
        let v : Seen = called (b.seen i) None x.position in
        let new = in_state (state.Receiving from) x.own in
        record {
          changes = changed_written (λ t v. Change b i t v) b.seen i v new
              (calls new None x.position (grind (arith, own.0.state)) record { version = ap (λ (u : StateWord). u.version) (sym own.1); alive = refl; any = λ q. h.1.0; one = λ f q. inl h.1.0; sends = λ to joined q. absurd cc }) (λ t. same t);
          others = λ k ne. record { owner = λ t o. o; table = λ o. o; ready = λ o. o; queue = λ t o. refl; numbers = λ o. refl };
          facts = by from refl;
        }
      where
        written : (s : ℕ → Seen) (i : ℕ) (v : Seen) (w : StateWord) → upd (upd s i v) i (with_word (upd s i v i) w) i ≡ with_word v w
        written s i v w = upd_same (upd s i v) i _ ∙ ap (λ (u : Seen). with_word u w) (upd_same s i v)

        by : (f : Option ThreadId) → from ≡ f → AllSay g (receive_board g b caller.number x (R caller from zero) (receive.Locked locked.CommitWait) asks.Won) caller.number (receive_context x (R caller from zero) (receive.Locked locked.CommitWait) asks.Won (hand_of b (b.queue caller.number))) (facts_receive (R caller from zero) (receive.Locked (after_wait f)))
        by None q = rw (written b.seen caller.number (called (b.seen caller.number) None x.position) (in_state (state.Receiving from) x.own)) ((h.1.1.0.0, h.1.1.0.1 ∙ ap (λ (u : StateWord). u.version) h.1.1.1.1.1.0.1), (h.1.1.1.0, (refl, ((h.1.0, refl, refl, h.1.1.1.1.1.0.0.on, refl), tt))))
        by (Some s) q = rw (written b.seen caller.number (called (b.seen caller.number) None x.position) (in_state (state.Receiving from) x.own)) (q, ((h.1.1.0.0, h.1.1.0.1 ∙ ap (λ (u : StateWord). u.version) h.1.1.1.1.1.0.1), (h.1.1.1.0, (refl, ((h.1.0, refl, refl, h.1.1.1.1.1.0.0.on, refl), (h.0, tt))))))

    pub ok_free : (zero : Bool) (e : SenderEntry) (w : StateWord) → (b.seen (number_of e)).word ≡ w → (b.seen (number_of e)).told ≡ None → Sound (R caller from zero) (receive.Locked (locked.FreeSender e w)) → Fine (R caller from zero) (receive.Locked (locked.FreeSender e w)) asks.Won
    ok_free zero e w won none h =
        let c = R caller from zero in
        let st = sends_is caller w.state (and_parts (eqb w.version (sender_of e).version) (sends_to caller w.state) h.1.1.0).1 in
        let own = h.1.1.1.1.1.1.0 in
        let reach = h.1.1.1.1.1.1.1.0 in
        let ne : number_of e ≢ caller.number = λ q. grind (arith, st.is, own.0.state) in
        let v : Seen = called (b.seen caller.number) (Some (got e)) x.position in
        let j = joined_at b caller e w v won ne in
        let at = me_after b caller e w v ne (is_joined_to (upd b.seen caller.number v (number_of e)).word.state) (is_joined_to w.state) in
        let quit = quit_after b caller e w v c _ (is_joined_to w.state) in
        record {
          changes = taken b caller e w v won st ne h.1.0 (here_is b caller h.1.1.1.0 (run_alive _ x.own own.0 own.1)) none
              (calls (b.seen caller.number).word (Some (got e)) x.position (grind (arith, own.0.state)) record { version = refl; alive = grind (arith, own.0.state); any = λ q. absurd (grind (arith, own.0.state)); one = λ f q. absurd (grind (arith, own.0.state)); sends = λ to joined q. absurd (grind (arith, own.0.state)) })
              (is_joined_to (upd b.seen caller.number v (number_of e)).word.state) (is_joined_to w.state) refl j;
          others = λ k ne. record { owner = λ t o. o; table = λ o. o; ready = λ o. o; queue = λ t o. refl; numbers = λ o. refl };
          facts = if_cases (λ p. AllSay g (receive_board g b caller.number x c (receive.Locked (locked.FreeSender e w)) asks.Won) caller.number (receive_context x c (receive.Locked (locked.FreeSender e w)) asks.Won (hand_of b (b.queue caller.number))) (facts_receive c (receive.Locked p))) (stays_out w) (locked.Release (returns.Taken e)) (locked.AcquireReady e)
              (λ _. rw at (h.1.0, (h.1.1.1.0, (h.1.1.1.1.0, (refl, ((own.0, own.1, inl h.1.0), (refl, ((refl, h.1.0, reach.2, quit), tt))))))))
              (λ _. rw at (h.1.0, (h.1.1.1.0, (h.1.1.1.1.0, (refl, ((own.0, own.1, inl h.1.0), (refl, ((refl, h.1.0, reach.2, quit), tt))))))));
        }

    pub ok_partner : (zero : Bool) (f : ThreadId) (w : StateWord) → Sound (R caller from zero) (receive.Locked (locked.LoadPartner f)) → Fine (R caller from zero) (receive.Locked (locked.LoadPartner f)) (asks.Word w)
    ok_partner zero f w h = go (is_present_in w f) refl
      where
        go : (present : Bool) → is_present_in w f ≡ present → Led (R caller from zero) (cond present None (Some (point_by (R caller from zero) act.Gone outcome.Freed))) (cond present (locked.Release returns.Waits) (locked.CommitGone f))
        go true p = record { changes = λ t. same t; others = λ k ne. record { owner = λ t o. o; table = λ o. o; ready = λ o. o; queue = λ t o. refl; numbers = λ o. refl }; facts = (h.1.0, (h.1.1.0, (h.1.1.1.0, (h.1.1.1.1.0, tt)))) }
        go false p =
            let v : Seen = answered (b.seen caller.number) reply.Gone in
            let alive = open_alive (b.seen caller.number).word x.own _ h.1.1.1.1.0.1 h.1.1.1.1.0.2 h.1.1.1.1.0.4 in
            record {
              changes = changed_one (λ t v. Change b caller.number t v) b.seen caller.number v (settles v h.1.1.1.1.0.0 refl alive alive (open_unsent (b.seen caller.number).word x.own _ h.1.1.1.1.0.1 h.1.1.1.1.0.2 h.1.1.1.1.0.4) (open_unsent (b.seen caller.number).word x.own _ h.1.1.1.1.0.1 h.1.1.1.1.0.2 h.1.1.1.1.0.4)) (λ t. same t);
              others = λ k ne. record { owner = λ t o. o; table = λ o. o; ready = λ o. o; queue = λ t o. refl; numbers = λ o. refl };
              facts = rw (upd_same b.seen caller.number v) (h.1.0, (h.1.1.0, (h.1.1.1.0, (h.1.1.1.1.0, (refl, (h.1.1.1.1.1.0, tt))))));
            }

    pub ok_gone : (zero : Bool) (f : ThreadId) → Sound (R caller from zero) (receive.Locked (locked.CommitGone f)) → Fine (R caller from zero) (receive.Locked (locked.CommitGone f)) asks.Won
    ok_gone zero f h =
        let own = h.1.1.1.0 in
        let v : Seen = with_word (b.seen caller.number) (in_state (state.Run result4.Gone) x.own) in
        record {
          changes = changed_one (λ t v. Change b caller.number t v) b.seen caller.number v (settles v own.0 (ap (λ (u : StateWord). u.version) (sym own.1)) (open_alive _ x.own _ own.1 own.2 own.4) refl refl (open_unsent _ x.own _ own.1 own.2 own.4)) (λ t. same t);
          others = λ k ne. record { owner = λ t o. o; table = λ o. o; ready = λ o. o; queue = λ t o. refl; numbers = λ o. refl };
          facts = rw (upd_same b.seen caller.number v) (own.0, ((h.0.0, h.0.1 ∙ ap (λ (u : StateWord). u.version) own.1), (h.1.0, (h.1.1.0, ((record { result = result4.Gone; state = refl; on = own.3 }, refl, inl own.0), (h.1.1.1.1.0, tt))))));
        }

  -- THE PICK

  module _ (caller : ThreadId) where
    pub pick_acquire : Sound (pick_call caller) (receive.Outside outside.AcquireOwn) → b.owner caller.number ≡ None → Fine (pick_call caller) (receive.Outside outside.AcquireOwn) asks.Got
    pick_acquire h free = record { changes = λ t. same t; others = λ k ne. record { owner = acquired b.owner caller.number caller.number k free; table = λ o. o; ready = λ o. o; queue = λ t o. refl; numbers = λ o. refl }; facts = (refl, (upd_same b.owner caller.number (Some caller.number), h.1)) }

    pub pick_acquire_owned : (o : ℕ) → Sound (pick_call caller) (receive.Outside outside.AcquireOwn) → Fine (pick_call caller) (receive.Outside outside.AcquireOwn) (asks.Owned o)
    pick_acquire_owned o h = record { changes = λ t. same t; others = λ k ne. record { owner = λ t o. o; table = λ o. o; ready = λ o. o; queue = λ t o. refl; numbers = λ o. refl }; facts = h }

    abbrev Settled_on : ReceiveLocked → Type 0
    Settled_on p = Led (pick_call caller) None p

    next_or : (o : Option SenderEntry) → ((e : SenderEntry) → o ≡ Some e → (entry_of (number_of e) (b.queue caller.number) ≡ Some e) × NoneWaits (pick_call caller) b.seen (before (number_of e) (b.queue caller.number))) → (o ≡ None → NoneWaits (pick_call caller) b.seen (b.queue caller.number)) → AllSay g b caller.number x (settling caller state.Picking []) → Settled_on (try_next o)
    next_or None some none h = record { changes = λ t. same t; others = λ k ne. record { owner = λ t o. o; table = λ o. o; ready = λ o. o; queue = λ t o. refl; numbers = λ o. refl }; facts = (refl, (h.0, (h.1.0, (h.1.1.0, (h.1.1.1.0, ((refl, h.1.1.1.0.0, none refl), tt)))))) }
    next_or (Some e) some none h = let s = some e refl in record { changes = λ t. same t; others = λ k ne. record { owner = λ t o. o; table = λ o. o; ready = λ o. o; queue = λ t o. refl; numbers = λ o. refl }; facts = (refl, (h.0, (h.1.0, (h.1.1.0, (h.1.1.1.0, ((refl, h.1.1.1.0.0, s.0, refl, s.1), tt)))))) }

    pub pick_load : (w : StateWord) → IsOnceEach (b.queue caller.number) → (b.seen caller.number).word ≡ w → Sound (pick_call caller) (receive.Locked locked.LoadPicking) → Fine (pick_call caller) (receive.Locked locked.LoadPicking) (asks.Word w)
    pick_load w once is h = by w.state refl
      where
        first : (e : SenderEntry) → first_admitted None (b.queue caller.number) ≡ Some e → (entry_of (number_of e) (b.queue caller.number) ≡ Some e) × NoneWaits (pick_call caller) b.seen (before (number_of e) (b.queue caller.number))
        first e q = let f = first_is None (b.queue caller.number) e once q in (f.standing, none_before (pick_call caller) b.seen (b.queue caller.number) e q)

        by : (s : State) → w.state ≡ s → Settled_on (picking_by (first_admitted None (b.queue caller.number)) s)
        by state.Dead e = record { changes = λ t. same t; others = λ k ne. record { owner = λ t o. o; table = λ o. o; ready = λ o. o; queue = λ t o. refl; numbers = λ o. refl }; facts = (h.1.0, (grind arith, (h.1.1.0, tt))) }
        by state.Picking e = next_or (first_admitted None (b.queue caller.number)) first (λ q. none_left (pick_call caller) b.seen (b.queue caller.number) q) (h.1.1.0, (h.1.1.1.0, (h.1.1.1.1.0, ((h.1.0, picking_own x.own (b.seen caller.number) h.1.1.1.1.1.0.2 (ap (λ (u : StateWord). u.state) is ∙ e), h.1.1.1.1.1.0.0, h.1.1.1.1.1.0.1, refl), tt))))
        by (state.Run r) e = record { changes = λ t. same t; others = λ k ne. record { owner = λ t o. o; table = λ o. o; ready = λ o. o; queue = λ t o. refl; numbers = λ o. refl }; facts = (h.1.0, (h.1.1.0, (h.1.1.1.0, (h.1.1.1.1.0, (picks_waits x.own (b.seen caller.number) h.1.1.1.1.1.0.0 h.1.1.1.1.1.0.2 r (ap (λ (u : StateWord). u.state) is ∙ e), (ap is_waiting h.1.1.1.1.1.0.0, tt)))))) }
        by (state.Sending to joined) e = absurd (picks_not x.own (b.seen caller.number) h.1.1.1.1.1.0.0 h.1.1.1.1.1.0.2 _ (ap (λ (u : StateWord). u.state) is ∙ e) (inl refl))
        by (state.Receiving f) e = absurd (picks_not x.own (b.seen caller.number) h.1.1.1.1.1.0.0 h.1.1.1.1.1.0.2 _ (ap (λ (u : StateWord). u.state) is ∙ e) (inl refl))
        by state.Ended e = absurd (picks_not x.own (b.seen caller.number) h.1.1.1.1.1.0.0 h.1.1.1.1.1.0.2 _ (ap (λ (u : StateWord). u.state) is ∙ e) (inr refl))

    pub pick_next : (e : SenderEntry) (w : StateWord) → IsOnceEach (b.queue caller.number) → (b.seen (number_of e)).word ≡ w → Sound (pick_call caller) (receive.Locked (locked.LoadNext e)) → Fine (pick_call caller) (receive.Locked (locked.LoadNext e)) (asks.Word w)
    pick_next e w once is h = go (still_waits (pick_call caller) e w) refl
      where
        next : still_waits (pick_call caller) e w ≡ false → (d : SenderEntry) → candidates_after (pick_call caller) (hand_of b (b.queue caller.number)) e ≡ Some d → (entry_of (number_of d) (b.queue caller.number) ≡ Some d) × NoneWaits (pick_call caller) b.seen (before (number_of d) (b.queue caller.number))
        next s d q =
            let f = next_is None (b.queue caller.number) e d once h.1.1.1.1.1.0.2 h.1.1.1.1.1.0.3 q in
            (f.standing, none_next (pick_call caller) b.seen (b.queue caller.number) e d h.1.1.1.1.1.0.2 (λ a. subst (λ (u : StateWord). still_waits (pick_call caller) e u ≡ false) (sym is) s) h.1.1.1.1.1.0.4 q)

        end : still_waits (pick_call caller) e w ≡ false → candidates_after (pick_call caller) (hand_of b (b.queue caller.number)) e ≡ None → NoneWaits (pick_call caller) b.seen (b.queue caller.number)
        end s q = none_end (pick_call caller) b.seen (b.queue caller.number) e h.1.1.1.1.1.0.2 (λ a. subst (λ (u : StateWord). still_waits (pick_call caller) e u ≡ false) (sym is) s) h.1.1.1.1.1.0.4 q

        go : (waits : Bool) → still_waits (pick_call caller) e w ≡ waits → Settled_on (cond waits (locked.FreeNext e w) (try_next (candidates_after (pick_call caller) (hand_of b (b.queue caller.number)) e)))
        go true s = record { changes = λ t. same t; others = λ k ne. record { owner = λ t o. o; table = λ o. o; ready = λ o. o; queue = λ t o. refl; numbers = λ o. refl }; facts = (refl, (h.1.0, (h.1.1.0, (h.1.1.1.0, (h.1.1.1.1.0, (s, (h.1.1.1.1.1.0, tt))))))) }
        go false s = next_or (candidates_after (pick_call caller) (hand_of b (b.queue caller.number)) e) (next s) (end s) (h.1.0, (h.1.1.0, (h.1.1.1.0, (h.1.1.1.1.0, tt))))

    pub pick_free : (e : SenderEntry) (w : StateWord) → (b.seen (number_of e)).word ≡ w → (b.seen (number_of e)).told ≡ None → Sound (pick_call caller) (receive.Locked (locked.FreeNext e w)) → Fine (pick_call caller) (receive.Locked (locked.FreeNext e w)) asks.Won
    pick_free e w won none h =
        let st = sends_is caller w.state (and_parts (eqb w.version (sender_of e).version) (sends_to caller w.state) h.1.1.1.1.1.0).1 in
        let own = h.1.1.1.1.0 in
        let reach = h.1.1.1.1.1.1.0 in
        let ne : number_of e ≢ caller.number = λ q. grind (arith, st.is, own.1, own.2) in
        let v : Seen = answered (b.seen caller.number) (got e) in
        let j = joined_at b caller e w v won ne in
        let at = me_after b caller e w v ne (is_joined_to (upd b.seen caller.number v (number_of e)).word.state) (is_joined_to w.state) in
        let alive = open_alive (b.seen caller.number).word x.own _ own.1 own.2 own.4 in
        let quit = quit_after b caller e w v (pick_call caller) _ (is_joined_to w.state) in
        record {
          changes = taken b caller e w v won st ne own.0 (here_is b caller h.1.0 alive) none
              (settles v own.0 refl alive alive (open_unsent (b.seen caller.number).word x.own _ own.1 own.2 own.4) (open_unsent (b.seen caller.number).word x.own _ own.1 own.2 own.4))
              (is_joined_to (upd b.seen caller.number v (number_of e)).word.state) (is_joined_to w.state) refl j;
          others = λ k ne. record { owner = λ t o. o; table = λ o. o; ready = λ o. o; queue = λ t o. refl; numbers = λ o. refl };
          facts = rw at (refl, (h.1.0, (h.1.1.0, (h.1.1.1.0, (own, (refl, ((refl, own.0, reach.2, quit), (ne, tt))))))));
        }

    pub pick_end : (e : SenderEntry) (w : StateWord) → Sound (pick_call caller) (receive.Locked (locked.EndPick e w)) → Fine (pick_call caller) (receive.Locked (locked.EndPick e w)) asks.Won
    pick_end e w h =
        let own = h.1.1.1.1.0 in
        let v : Seen = with_word (b.seen caller.number) (on_in (state.Run result4.Plain) x.own) in
        let at = upd_same b.seen caller.number v in
        let it = upd_other b.seen caller.number v (number_of e) h.1.1.1.1.1.1.1.0 in
        record {
          changes = changed_one (λ t v. Change b caller.number t v) b.seen caller.number v (settles v own.0 (ap (λ (u : StateWord). u.version) (sym own.1)) (open_alive _ x.own _ own.1 own.2 own.4) refl refl (open_unsent _ x.own _ own.1 own.2 own.4)) (λ t. same t);
          others = λ k ne. record { owner = λ t o. o; table = λ o. o; ready = λ o. o; queue = λ t o. refl; numbers = λ o. refl };
          facts = if_cases (λ p. AllSay g (receive_board g b caller.number x (pick_call caller) (receive.Locked (locked.EndPick e w)) asks.Won) caller.number (receive_context x (pick_call caller) (receive.Locked (locked.EndPick e w)) asks.Won (hand_of b (b.queue caller.number))) (facts_receive (pick_call caller) (receive.Locked p))) (stays_out w) (locked.Release (returns.Taken e)) (locked.AcquireReady e)
              (λ _. rw (at, it) (own.0, ((h.1.0.0, h.1.0.1 ∙ ap (λ (u : StateWord). u.version) own.1), (h.1.1.0, (h.1.1.1.0, ((record { result = result4.Plain; state = refl; on = refl }, refl, inl own.0), (h.1.1.1.1.1.0, (h.1.1.1.1.1.1.0, tt))))))))
              (λ _. rw (at, it) (own.0, ((h.1.0.0, h.1.0.1 ∙ ap (λ (u : StateWord). u.version) own.1), (h.1.1.0, (h.1.1.1.0, ((record { result = result4.Plain; state = refl; on = refl }, refl, inl own.0), (h.1.1.1.1.1.0, (h.1.1.1.1.1.1.0, tt))))))));
        }

    pub pick_settle : Sound (pick_call caller) (receive.Locked locked.SettlePick) → Fine (pick_call caller) (receive.Locked locked.SettlePick) asks.Won
    pick_settle h =
        let own = h.1.1.1.1.0 in
        let v : Seen = with_word (b.seen caller.number) (on_in (state.Receiving None) x.own) in
        record {
          changes = changed_one (λ t v. Change b caller.number t v) b.seen caller.number v (settles v own.0 (ap (λ (u : StateWord). u.version) (sym own.1)) (open_alive _ x.own _ own.1 own.2 own.4) refl refl (open_unsent _ x.own _ own.1 own.2 own.4)) (λ t. same t);
          others = λ k ne. record { owner = λ t o. o; table = λ o. o; ready = λ o. o; queue = λ t o. refl; numbers = λ o. refl };
          facts = rw (upd_same b.seen caller.number v) ((h.1.0.0, h.1.0.1 ∙ ap (λ (u : StateWord). u.version) own.1), (h.1.1.0, (h.1.1.1.0, ((own.0, refl, refl, refl, refl), tt))));
        }

-- LOCATIONS OF BOTH

module _ (g : Programs) (b : Board) (x : Context) (c : ReceiveCall) where
  pub ok_ready : (e : SenderEntry) → b.ready ≡ None → Sound g b x c (receive.Locked (locked.AcquireReady e)) → Fine g b x c (receive.Locked (locked.AcquireReady e)) asks.Got
  ok_ready e free h = record { changes = λ t. same t; others = λ k ne. record { owner = λ t o. o; table = λ o. o; ready = kept_free (Some c.caller.number) free; queue = λ t o. refl; numbers = λ o. refl }; facts = (h.0, (h.1.0, (h.1.1.0, (h.1.1.1.0, (h.1.1.1.1.0, (h.1.1.1.1.1.0, (h.1.1.1.1.1.1.0, (refl, tt)))))))) }

  pub ok_ready_owned : (e : SenderEntry) (o : ℕ) → Sound g b x c (receive.Locked (locked.AcquireReady e)) → Fine g b x c (receive.Locked (locked.AcquireReady e)) (asks.Owned o)
  ok_ready_owned e o h = record { changes = λ t. same t; others = λ k ne. record { owner = λ t o. o; table = λ o. o; ready = λ o. o; queue = λ t o. refl; numbers = λ o. refl }; facts = h }

  pub ok_freed : (e : SenderEntry) (w : StateWord) → Sound g b x c (receive.Pushing (pushing.LoadFreed e)) → Fine g b x c (receive.Pushing (pushing.LoadFreed e)) (asks.Word w)
  ok_freed e w h = record { changes = λ t. same t; others = λ k ne. record { owner = λ t o. o; table = λ o. o; ready = λ o. o; queue = λ t o. refl; numbers = λ o. refl }; facts = h }

  pub ok_push : (e : SenderEntry) (w : StateWord) → Sound g b x c (receive.Pushing (pushing.PushFreed e w)) → Fine g b x c (receive.Pushing (pushing.PushFreed e w)) asks.Released
  ok_push e w h = record { changes = λ t. same t; others = λ k ne. record { owner = λ t o. o; table = λ o. o; ready = kept_lock ne None h.1.1.1.1.1.1.1.0; queue = λ t o. refl; numbers = λ o. refl }; facts = (h.0, (h.1.0, (h.1.1.0, (h.1.1.1.0, (h.1.1.1.1.0, (h.1.1.1.1.1.0, (h.1.1.1.1.1.1.0, tt))))))) }

  pub ok_free_lost : (e : SenderEntry) (w v : StateWord) → Sound g b x c (receive.Locked (locked.FreeSender e w)) → Fine g b x c (receive.Locked (locked.FreeSender e w)) (asks.Lost v)
  ok_free_lost e w v h = record { changes = λ t. same t; others = λ k ne. record { owner = λ t o. o; table = λ o. o; ready = λ o. o; queue = λ t o. refl; numbers = λ o. refl }; facts = (h.0, (h.1.0, h.1.1.1)) }

  pub pick_free_lost : (e : SenderEntry) (w v : StateWord) → Sound g b x c (receive.Locked (locked.FreeNext e w)) → Fine g b x c (receive.Locked (locked.FreeNext e w)) (asks.Lost v)
  pick_free_lost e w v h = record { changes = λ t. same t; others = λ k ne. record { owner = λ t o. o; table = λ o. o; ready = λ o. o; queue = λ t o. refl; numbers = λ o. refl }; facts = (h.0, (h.1.0, (h.1.1.0, (h.1.1.1.0, (h.1.1.1.1.0, (h.1.1.1.1.1.1.0, tt)))))) }

  pub ok_release_taken : (e : SenderEntry) → Sound g b x c (receive.Locked (locked.Release (returns.Taken e))) → Fine g b x c (receive.Locked (locked.Release (returns.Taken e))) asks.Released
  ok_release_taken e h = record { changes = λ t. same t; others = λ k ne. record { owner = released b.owner c.caller.number c.caller.number k h.0 ne; table = λ o. o; ready = λ o. o; queue = kept_queue b.owner b.queue c.caller.number c.caller.number k _ h.0 ne; numbers = λ o. refl }; facts = ends g b x c.caller (got e) (h.1.0, (h.1.1.0, (h.1.1.1.0, (h.1.1.1.1.0, (h.1.1.1.1.1.0, tt))))) }

  pub ok_release_gone : Sound g b x c (receive.Locked (locked.Release returns.Gone)) → Fine g b x c (receive.Locked (locked.Release returns.Gone)) asks.Released
  ok_release_gone h = record { changes = λ t. same t; others = λ k ne. record { owner = released b.owner c.caller.number c.caller.number k h.0 ne; table = λ o. o; ready = λ o. o; queue = λ t o. refl; numbers = λ o. refl }; facts = ends g b x c.caller reply.Gone h.1 }

  pub ok_release_nobody : Sound g b x c (receive.Locked (locked.Release returns.Nobody)) → Fine g b x c (receive.Locked (locked.Release returns.Nobody)) asks.Released
  ok_release_nobody h = record { changes = λ t. same t; others = λ k ne. record { owner = released b.owner c.caller.number c.caller.number k h.0 ne; table = λ o. o; ready = λ o. o; queue = λ t o. refl; numbers = λ o. refl }; facts = ends g b x c.caller reply.Nobody h.1 }

  pub ok_release_dead : Sound g b x c (receive.Locked (locked.Release returns.Dead)) → Fine g b x c (receive.Locked (locked.Release returns.Dead)) asks.Released
  ok_release_dead h = record { changes = λ t. same t; others = λ k ne. record { owner = released b.owner c.caller.number c.caller.number k h.0 ne; table = λ o. o; ready = λ o. o; queue = λ t o. refl; numbers = λ o. refl }; facts = (h.1.0, tt) }

  pub ok_release_waits : Sound g b x c (receive.Locked (locked.Release returns.Waits)) → Fine g b x c (receive.Locked (locked.Release returns.Waits)) asks.Released
  ok_release_waits h = let own = h.1.1.1.0 in record { changes = λ t. same t; others = λ k ne. record { owner = released b.owner c.caller.number c.caller.number k h.1.1.1.0.0 ne; table = λ o. o; ready = λ o. o; queue = λ t o. refl; numbers = λ o. refl }; facts = (h.1.0, (h.1.1.0, (inr (inl (ap (λ (u : StateWord). may_wait u.state) own.1 ∙ ap may_wait own.2)), (ap is_waiting own.2, tt)))) }

  pub ok_release_delivered : Sound g b x c (receive.Locked (locked.Release returns.Delivered)) → Fine g b x c (receive.Locked (locked.Release returns.Delivered)) asks.Released
  ok_release_delivered h = record { changes = λ t. same t; others = λ k ne. record { owner = released b.owner c.caller.number c.caller.number k h.0 ne; table = λ o. o; ready = λ o. o; queue = λ t o. refl; numbers = λ o. refl }; facts = h.1.1 }
