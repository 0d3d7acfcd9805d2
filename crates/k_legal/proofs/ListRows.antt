-- What an event of the specification makes of the lists of those who wait to send, by its outcome.
use Rattle.std.proofs.Common.{◌≡◌, ℕ, zero, suc, ◌+◌, ◌<◌, Bool, true, false, not, eqb, refl, sym, ap, ◌∙◌, subst}
use Rattle.std.proofs.Common.{List, [], ◌∷◌, ◌++◌, length, get_or, remove, Option, Some, None, Ok, arith}
use Rattle.std.specs.List.{AllByRecursion, IsDistinct, filter}
use Rattle.std.specs.Prelude.{◌==◌}
use Rattle.std.proofs.lemmas.Bool.{cond_both, eq-eqb}
use Rattle.std.proofs.lemmas.Bool.Decides.{nat_tests}
use Rattle.std.proofs.lemmas.Map.Keys.{IsDistinct-tail}
use Rattle.k_lists.proofs.All.{all_at, all_of_map, all_weaker, filter_all}
use Rattle.k_lists.proofs.Positions.{position_at}
use Rattle.k_ids.specs.declared.calls.Act.{Act}
use Rattle.k_ids.specs.declared.calls.Act.TheVariants as act
use Rattle.k_ids.specs.declared.calls.Outcome.{Outcome}
use Rattle.k_ids.specs.declared.calls.Outcome.TheVariants as outcome
use Rattle.k_ids.specs.declared.calls.Phase.{Phase}
use Rattle.k_ids.specs.declared.calls.Phase.TheVariants as phase
use Rattle.k_ids.specs.declared.calls.Reply.TheVariants as reply
use Rattle.k_ids.specs.declared.threads.Message.{Message}
use Rattle.k_ids.specs.declared.threads.Status.{Status}
use Rattle.k_ids.specs.declared.threads.Status.TheVariants as status
use Rattle.k_ids.specs.declared.threads.ThreadId.{ThreadId}
use Rattle.k_ids.specs.declared.histories.Event.{Event}
use Rattle.k_model.specs.Maps.{lowest, upd}
use Rattle.k_model.specs.Sound.{IsSound, numbers}
use Rattle.k_model.specs.State.{KernelState, Place, Waiting, answered, is_present}
use Rattle.k_model.specs.State.{is_run, same_id, takes_from, with_place, with_status}
use Rattle.k_model.specs.Step.{acted, called, create, created, destroy, entry_at, is_free, is_own, made, match_at, may_act}
use Rattle.k_model.specs.Step.{step, no_one, passed, queued, receive, received, send, sent, status_after, taken, without}
use Rattle.k_model.proofs.Maps.{upd_cases, upd_other, upd_same}
use Rattle.k_model.proofs.Places.{killed_waiting}
use Rattle.k_model.proofs.Sound.{acts_alive, acts_free, called-sound, kept, with_status-sound}
use Rattle.k_locks.specs.Points.{entry_with}
use Rattle.k_locks.specs.declared.points.Point.{Point}
use Rattle.k_board.specs.Words.{Programs}
use Rattle.k_board.specs.Boards.{Board}
use Rattle.k_points.specs.Points.{Grows, lasts}
use Rattle.k_legal.specs.Waiting.{ShowsLists, waiters}
use Rattle.k_points.proofs.Sums.{made_of}

abbrev pub lists : KernelState → ℕ → List Waiting
lists k n = (k.place n).waiting

-- the list without those of a number
abbrev pub without_number : ℕ → List Waiting → List Waiting
without_number m ws = filter (λ w. not (w.0.number == m)) ws

-- the list without those of a thread
abbrev pub without_id : ThreadId → List Waiting → List Waiting
without_id who ws = filter (λ w. not (same_id w.0 who)) ws

-- what becomes of the lists: a sender comes to the end of one, or is taken out of one, or leaves them all as it is destroyed
abbrev pub call_lists : ThreadId → Phase → Outcome → (ℕ → List Waiting) → ℕ → List Waiting
call_lists me (phase.Send to message soon joined) outcome.Waits f = upd f to.number (f to.number ++ (me, message) ∷ [])
call_lists me (phase.Reply to message soon) outcome.Waits f = upd f to.number (f to.number ++ (me, message) ∷ [])
call_lists me (phase.Receive from soon) (outcome.Took who message) f = upd f me.number (without_number who.number (f me.number))
call_lists me (phase.Destroy who) outcome.Killed f = upd (λ n. without_id who (f n)) who.number []
call_lists me p o f = f

abbrev pub pick_lists : ThreadId → Outcome → (ℕ → List Waiting) → ℕ → List Waiting
pick_lists me (outcome.Took who message) f = upd f me.number (without_number who.number (f me.number))
pick_lists me o f = f

abbrev pub lists_after : ThreadId → Act → Outcome → (ℕ → List Waiting) → ℕ → List Waiting
lists_after me (act.Call p) o f = call_lists me p o f
lists_after me act.Gone o f = f
lists_after me act.Pick o f = pick_lists me o f

-- ONE ENTRY IS TAKEN OUT

turned : (a b : ℕ) → eqb a b ≡ false → (not (b == a)) ≡ true
turned a b e = grind (arith, nat_tests)

remove_is : (ws : List Waiting) (i : ℕ) → i < length ws → IsDistinct eqb (numbers ws) →
    remove ws i ≡ without_number (get_or ws i no_one).0.number ws
unfolding IsDistinct
remove_is [] i l h = absurd (omega arith)
remove_is (v ∷ ws) zero l h =
    let same : (v.0.number == v.0.number) ≡ true = eq-eqb v.0.number v.0.number refl in
    let others : AllByRecursion (λ (w : Waiting). not (w.0.number == v.0.number) ≡ true) ws =
    all_weaker (λ (w : Waiting). eqb v.0.number w.0.number ≡ false) (λ (w : Waiting). not (w.0.number == v.0.number) ≡ true)
    (λ w e. turned v.0.number w.0.number e) ws (all_of_map (λ n. eqb v.0.number n ≡ false)
    (λ (w : Waiting). w.0.number) ws h.0) in
    rw same (sym (filter_all (λ (w : Waiting). not (w.0.number == v.0.number)) ws others))
remove_is (v ∷ ws) (suc i) l h =
    let other : (v.0.number == (get_or ws i no_one).0.number) ≡ false =
    all_at (λ (w : Waiting). eqb v.0.number w.0.number ≡ false) ws i no_one
    (all_of_map (λ n. eqb v.0.number n ≡ false) (λ (w : Waiting). w.0.number) ws h.0) (omega (arith, l)) in
    rw other (ap (λ (us : List Waiting). v ∷ us) (remove_is ws i (omega (arith, l))
    (IsDistinct-tail eqb v.0.number (numbers ws) h)))

-- THE ROWS

placed_lists : (k : KernelState) (n : ℕ) (p : Place) → p.waiting ≡ (k.place n).waiting → (t : ℕ) →
    lists (with_place k n p) t ≡ lists k t
placed_lists k n p e t = kept (λ (q : Place). q.waiting) k n p e t

sent_lists : (k : KernelState) (who : ThreadId) (serial : ℕ) (after : Status) (t : ℕ) →
    lists (sent k who serial after) t ≡ lists k t
sent_lists k who serial after t =
    cond_both (is_run after) _ _ (λ (m : KernelState). lists m t ≡ lists k t)
    (λ _. placed_lists k who.number (record (k.place who.number) { status = after; joined = false }) refl t)
    (λ _. placed_lists k who.number (record (k.place who.number) { status = after; joined = false }) refl t)

module _ (k : KernelState) (me : ThreadId) (serial : ℕ) where
  passed_lists : (to : ThreadId) (message : Message) (after : Status) (t : ℕ) →
      lists (passed k me serial to message after) t ≡ lists k t
  unfolding passed
  passed_lists to message after t =
      sent_lists (answered (with_status k to.number status.Run) to (k.place to.number).serial
      (reply.Got me message)) me serial after t
      ∙ placed_lists k to.number (record (k.place to.number) { status = status.Run; joined = false }) refl t

  queued_lists : (to : ThreadId) (message : Message) (joined : Bool) (t : ℕ) →
      lists (queued k me to message joined) t ≡ upd (lists k) to.number (lists k to.number ++ (me, message) ∷ []) t
  unfolding queued
  queued_lists to message joined t =
      let p : Place = record (k.place me.number) { status = status.Sending to; joined = joined } in
      let m = with_place k me.number p in
      let q : Place = record (m.place to.number) { waiting = (m.place to.number).waiting ++ (me, message) ∷ [] } in
      let same : (n : ℕ) → lists m n ≡ lists k n = placed_lists k me.number p refl in
      upd_cases (λ (u : Place). u.waiting ≡ upd (lists k) to.number
      (lists k to.number ++ (me, message) ∷ []) t) m.place to.number q t
      (λ e. ap (λ (ws : List Waiting). ws ++ (me, message) ∷ []) (same to.number)
      ∙ sym (ap (upd (lists k) to.number (lists k to.number ++ (me, message) ∷ [])) e ∙ upd_same (lists k) to.number _))
      (λ e. same t ∙ sym (upd_other (lists k) to.number _ t e))

  abbrev BySend : ThreadId → Message → KernelState × Outcome → Type 0
  BySend to message r = (t : ℕ) → lists r.0 t ≡ call_lists me (phase.Send to message false false) r.1 (lists k) t

  send_lists : (to : ThreadId) (message : Message) (soon joined : Bool) (after : Status) →
      BySend to message (send k me serial to message soon joined after)
  unfolding send
  send_lists to message soon joined after =
      cond_both (same_id me to) _ _ (BySend to message) (λ _ t. refl)
      (λ _. cond_both (not (is_present k to)) _ _ (BySend to message) (λ _ t. refl)
      (λ _. cond_both (takes_from (k.place to.number).status me soon) _ _ (BySend to message) (λ _. passed_lists to message after)
      (λ _. cond_both soon _ _ (BySend to message) (λ _ t. refl) (λ _. queued_lists to message joined))))

  taken_lists : (at : ℕ) → at < length (k.place me.number).waiting → IsDistinct eqb (numbers (k.place me.number).waiting) →
      (t : ℕ) →
      lists (taken k me serial at) t ≡ upd (lists k) me.number
      (without_number (entry_at k me.number at).0.number (lists k me.number)) t
  unfolding taken
  taken_lists at l d t =
      let w = entry_at k me.number at in
      let p : Place = record (k.place me.number) { waiting = remove (k.place me.number).waiting at } in
      sent_lists (answered (without k me.number at) me serial (reply.Got w.0 w.1)) w.0 (k.place w.0.number).serial
      (status_after (k.place w.0.number).joined me) t
      ∙ upd_cases (λ (u : Place). u.waiting ≡ upd (lists k) me.number
      (without_number w.0.number (lists k me.number)) t) k.place me.number p t
      (λ e. remove_is (k.place me.number).waiting at l d ∙ sym
      (ap (upd (lists k) me.number (without_number w.0.number (lists k me.number))) e ∙ upd_same (lists k) me.number _))
      (λ e. sym (upd_other (lists k) me.number _ t e))

  abbrev ByReceive : KernelState × Outcome → Type 0
  ByReceive r = (t : ℕ) → lists r.0 t ≡ pick_lists me r.1 (lists k) t

  received_lists : IsSound k → (from : Option ThreadId) (soon : Bool) (at : Option ℕ) → match_at k me from ≡ at →
      ByReceive (received k me serial from soon at)
  unfolding received
  received_lists s from soon (Some at) e =
      taken_lists at (subst (λ (i : ℕ). i < length (k.place me.number).waiting) (position_at _ (k.place me.number).waiting at e).0
      (position_at _ (k.place me.number).waiting at e).1) (s.apart me.number)
  received_lists s from soon None e =
      cond_both soon _ _ ByReceive (λ _ t. refl) (λ _. placed_lists k me.number
      (record (k.place me.number) { status = status.Receiving from; joined = false }) refl)

  receive_lists : IsSound k → (from : Option ThreadId) (soon : Bool) → ByReceive (receive k me serial from soon)
  unfolding receive
  receive_lists s from soon =
      cond_both (is_own from me) _ _ ByReceive (λ _ t. refl) (λ _. received_lists s from soon (match_at k me from) refl)

  abbrev Keeps : KernelState × Outcome → Type 0
  Keeps r = (t : ℕ) → lists r.0 t ≡ lists k t

  created_lists : (n : Option ℕ) → Keeps (created k me serial n)
  unfolding created
  created_lists (Some n) t =
      placed_lists k n (record (k.place n) {
        version = (k.place n).version + 1;
        status = status.Run;
        joined = false;
        serial = 0;
      }) refl t
  created_lists None t = refl

  create_lists : Keeps (create k me serial)
  unfolding create
  create_lists = created_lists (lowest (λ n. is_free (k.place n)) k.size)

  abbrev ByDestroy : ThreadId → KernelState × Outcome → Type 0
  ByDestroy who r = (t : ℕ) → lists r.0 t ≡ call_lists me (phase.Destroy who) r.1 (lists k) t

  destroy_lists : (who : ThreadId) → ByDestroy who (destroy k me serial who)
  unfolding destroy
  destroy_lists who =
      cond_both (same_id me who) _ _ (ByDestroy who) (λ _ t. refl)
      (λ _. cond_both (not (is_present k who)) _ _ (ByDestroy who) (λ _ t. refl) (λ _ t. killed_waiting k who t))

  abbrev Makes : Phase → KernelState × Outcome → Type 0
  Makes p r = (t : ℕ) → lists r.0 t ≡ call_lists me p r.1 (lists k) t

  made_lists : IsSound k → (p : Phase) → Makes p (made k me serial p)
  unfolding made
  made_lists s (phase.Send to message soon joined) = send_lists to message soon joined (status_after joined to)
  made_lists s (phase.Reply to message soon) = send_lists to message soon false status.Picking
  made_lists s (phase.Receive from soon) = receive_lists s from soon
  made_lists s (phase.Create program priority) = create_lists
  made_lists s (phase.Destroy who) = destroy_lists who
  made_lists s phase.End = placed_lists k me.number (record (k.place me.number) { status = status.Ended; joined = false }) refl

abbrev Acts : KernelState → ThreadId → Act → KernelState × Outcome → Type 0
Acts k who a r = (t : ℕ) → lists r.0 t ≡ lists_after who a r.1 (lists k) t

called_lists : (k : KernelState) (who : ThreadId) (serial t : ℕ) → lists (called k who serial) t ≡ lists k t
called_lists k who serial t = placed_lists k who.number (record (k.place who.number) { serial = serial }) refl t

pub acted_lists : (k : KernelState) (who : ThreadId) (serial : ℕ) (a : Act) → may_act k who serial a ≡ true → IsSound k →
    Acts k who a (acted k who serial a)
unfolding acted
acted_lists k who serial (act.Call p) may s t =
    made_lists (called k who serial) who serial (called-sound k who serial s) p t
    ∙ ap (λ (f : ℕ → List Waiting). call_lists who p (made (called k who serial) who serial p).1 f t)
    (λ d n. called_lists k who serial n d)
acted_lists k who serial act.Gone may s t =
    placed_lists k who.number (record (k.place who.number) { status = status.Run; joined = false }) refl t
acted_lists k who serial act.Pick may s t =
    let m = with_status k who.number status.Run in
    receive_lists m who serial (with_status-sound k who.number status.Run (λ e. cc) (acts_alive k who serial act.Pick may).1
    (acts_free k who serial act.Pick may s) s) None false t
    ∙ ap (λ (f : ℕ → List Waiting). pick_lists who (receive m who serial None false).1 f t)
    (λ d n. placed_lists k who.number (record (k.place who.number) { status = status.Run; joined = false }) refl n d)

-- a step of the specification
pub step_lists : (k : KernelState) (e : Event) (new : KernelState) (o : Outcome) → IsSound k → step k e ≡ Ok (new, o) → (t : ℕ) →
    lists new t ≡ lists_after e.who e.act o (lists k) t
step_lists k e new o s made t =
    let m = made_of k e new o made in
    subst (λ (r : KernelState × Outcome). lists r.0 t ≡ lists_after e.who e.act r.1 (lists k) t) m.1
    (acted_lists k e.who e.serial e.act m.0 s t)

-- A TURN

-- what a point makes of the lists
abbrev pub lists_by : Option Point → (ℕ → List Waiting) → ℕ → List Waiting
lists_by None f = f
lists_by (Some p) f = lists_after p.who p.act p.outcome f

-- The board's own lists change as the point has it. So the new state's lists are shown.
pub shows_after : (g : Programs) (b b' : Board) (k new : KernelState) (p : Option Point) → IsSound k → ShowsLists b k →
    Grows g b k p new b' → ((n : ℕ) → lists_by p (waiters b) n ≡ waiters b' n) → ShowsLists b' new
shows_after g b b' k new None s sh is h n = ap (λ (m : KernelState). lists m n) is ∙ sh n ∙ h n
shows_after g b b' k new (Some p) s sh grows h n =
    step_lists k (entry_with (lasts b) p).event new p.outcome s grows.0 n
    ∙ ap (λ (f : ℕ → List Waiting). lists_after p.who p.act p.outcome f n) (λ d m. sh m d) ∙ h n
