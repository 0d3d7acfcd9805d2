-- An event keeps the lists of a state sound.
use Rattle.std.proofs.Common.{◌≡◌, ◌≢◌, ℕ, suc, ◌<◌, ◌≤◌, Bool, true, false, not, ◌&&◌, ◌==◌, List, [], ◌∷◌, ◌++◌, length, eqb, refl, sym, ap, ◌∙◌, subst, arith, remove, inl, inr, Option, Some, None}
use Rattle.std.specs.List.{AllByRecursion, IsDistinct, list_any, filter}
use Rattle.std.proofs.lemmas.Bool.{cases_lt, and_parts, eqb-true, not-false, eq-eqb, ne_eqb, or_cases, false≢true, cond_both}
use Rattle.std.proofs.lemmas.Map.Steps.{length-le_from_distinct_below}
use Rattle.std.proofs.lemmas.Map.Keys.{IsDistinct-cons}
use Rattle.std.proofs.lemmas.List.{length-map}
use Rattle.std.proofs.lemmas.List.Quantifiers.{position-Some}
use Rattle.k_lists.proofs.All.{all_at, all_both, all_filter, all_filtered, all_map, all_push, all_remove, all_weaker}
use Rattle.std.proofs.Math.Bool.{and-false}
use Rattle.k_ids.specs.declared.threads.ThreadId.{ThreadId}
use Rattle.k_ids.specs.declared.threads.Message.{Message}
use Rattle.k_ids.specs.declared.threads.Status.{Status}
use Rattle.k_ids.specs.declared.threads.Status.TheVariants as status
use Rattle.k_ids.specs.declared.calls.Reply.{Reply}
use Rattle.k_ids.specs.declared.calls.Reply.TheVariants as reply
use Rattle.k_ids.specs.declared.calls.Outcome.{Outcome}
use Rattle.k_ids.specs.declared.calls.Phase.{Phase}
use Rattle.k_ids.specs.declared.calls.Phase.TheVariants as phase
use Rattle.k_ids.specs.declared.calls.Act.{Act}
use Rattle.k_ids.specs.declared.calls.Act.TheVariants as act
use Rattle.k_model.specs.Maps.{lowest}
use Rattle.k_model.specs.State.{KernelState, Place, Waiting, with_place, with_status, answered, id_of, same_id, is_dead, is_run, is_picking, is_present, takes_from, waits_for_absent}
use Rattle.k_model.specs.Step.{no_one, entry_at, called, without, sent, status_after, queued, passed, taken, send, receive, received, is_own, match_at, is_free, renewed, created, create, left_everywhere, killed, destroy, made, acted, may_act}
use Rattle.k_model.specs.Sound.{IsQueued, IsSound, WaitsNowhere, numbers}
use Rattle.k_model.proofs.Maps.{upd_same, upd_other, upd_cases, lowest-Some}
use Rattle.k_model.proofs.Lists.{distinct_push, distinct_remove, lacks_removed, distinct_filter}

-- nobody of that number waits in a list
abbrev pub Lacks : ℕ → List Waiting → Type 0
Lacks n ws = AllByRecursion (λ w. w.0.number ≢ n) ws

abbrev pub StandsNowhere : KernelState → ℕ → Type 0
StandsNowhere k n = (t : ℕ) → Lacks n (k.place t).waiting

-- A field that a change of one place leaves is as before at each number.
pub kept : {A : Type 0} (f : Place → A) (k : KernelState) (n : ℕ) (p : Place) → f p ≡ f (k.place n) → (t : ℕ) → f ((with_place k n p).place t) ≡ f (k.place t)
kept f k n p e t = upd_cases (λ q. f q ≡ f (k.place t)) k.place n p t (λ i. e ∙ ap (λ (j : ℕ). f (k.place j)) (sym i)) (λ _. refl)

queued_from : (k m : KernelState) (t : ℕ) (w : Waiting) → (m.place t).version ≡ (k.place t).version → (m.place w.0.number).version ≡ (k.place w.0.number).version → (m.place w.0.number).status ≡ (k.place w.0.number).status → IsQueued k t w → IsQueued m t w
queued_from k m t w et ev es h = record {
  version = ev ∙ h.version;
  status = es ∙ h.status ∙ ap (λ (v : ℕ). status.Sending (record { number = t; version = v })) (sym et);
}

-- A number that stands in no list may become another place.
pub vacant-sound : (k : KernelState) (n : ℕ) (p : Place) → StandsNowhere k n → AllByRecursion (IsQueued (with_place k n p) n) p.waiting → IsDistinct eqb (numbers p.waiting) → (p.status ≡ status.Dead → p.waiting ≡ []) → (k.size ≤ n → p.status ≡ status.Dead) → IsSound k → IsSound (with_place k n p)
vacant-sound k n p free all apart dead out s =
    let m = with_place k n p in
    record {
      queued = λ t. upd_cases (λ q. AllByRecursion (IsQueued m t) q.waiting) k.place n p t
          (λ e. subst (λ (j : ℕ). AllByRecursion (IsQueued m j) p.waiting) (sym e) all)
          (λ ne. all_both (λ w. w.0.number ≢ n) (IsQueued k t) (IsQueued m t) (λ w other q. queued_from k m t w (ap (λ r. r.version) (upd_other k.place n p t ne)) (ap (λ r. r.version) (upd_other k.place n p w.0.number other)) (ap (λ r. r.status) (upd_other k.place n p w.0.number other)) q) (k.place t).waiting (free t) (s.queued t));
      apart = λ t. upd_cases (λ q. IsDistinct eqb (numbers q.waiting)) k.place n p t (λ _. apart) (λ _. s.apart t);
      dead = λ t. upd_cases (λ q. q.status ≡ status.Dead → q.waiting ≡ []) k.place n p t (λ _. dead) (λ _. s.dead t);
      outside = λ t l. upd_cases (λ q. q.status ≡ status.Dead) k.place n p t (λ e. out (omega (arith, l, e))) (λ _. s.outside t l);
    }

-- A number may take another list of those that send to it.
pub relist-sound : (k : KernelState) (n : ℕ) (p : Place) → p.version ≡ (k.place n).version → p.status ≡ (k.place n).status → AllByRecursion (IsQueued k n) p.waiting → IsDistinct eqb (numbers p.waiting) → (p.status ≡ status.Dead → p.waiting ≡ []) → IsSound k → IsSound (with_place k n p)
relist-sound k n p ev es all apart dead s =
    let m = with_place k n p in
    let step : (t : ℕ) (w : Waiting) → IsQueued k t w → IsQueued m t w = λ t w. queued_from k m t w (kept (λ q. q.version) k n p ev t) (kept (λ q. q.version) k n p ev w.0.number) (kept (λ q. q.status) k n p es w.0.number) in
    record {
      queued = λ t. upd_cases (λ q. AllByRecursion (IsQueued m t) q.waiting) k.place n p t
          (λ e. subst (λ (j : ℕ). AllByRecursion (IsQueued m j) p.waiting) (sym e) (all_weaker (IsQueued k n) (IsQueued m n) (step n) p.waiting all))
          (λ _. all_weaker (IsQueued k t) (IsQueued m t) (step t) (k.place t).waiting (s.queued t));
      apart = λ t. upd_cases (λ q. IsDistinct eqb (numbers q.waiting)) k.place n p t (λ _. apart) (λ _. s.apart t);
      dead = λ t. upd_cases (λ q. q.status ≡ status.Dead → q.waiting ≡ []) k.place n p t (λ _. dead) (λ _. s.dead t);
      outside = λ t l. kept (λ q. q.status) k n p es t ∙ s.outside t l;
    }

-- A number with an empty list that stands in none may become any place with an empty list.
pub empty-sound : (k : KernelState) (n : ℕ) (p : Place) → StandsNowhere k n → p.waiting ≡ [] → (k.size ≤ n → p.status ≡ status.Dead) → IsSound k → IsSound (with_place k n p)
unfolding IsDistinct
empty-sound k n p free e out s = vacant-sound k n p free (rw e tt) (rw e tt) (λ _. e) out s

-- Who doesn't send to a list's thread stands in no list.
lacks_from : (k : KernelState) (t n : ℕ) (ws : List Waiting) → AllByRecursion (IsQueued k t) ws → ((k.place n).status ≡ status.Sending (id_of k t) → ws ≡ []) → Lacks n ws
lacks_from k t n [] h f = tt
lacks_from k t n (w ∷ ws) h f =
    all_weaker (IsQueued k t) (λ v. v.0.number ≢ n) (λ v q e. let no : w ∷ ws ≡ [] = f (sym (ap (λ (j : ℕ). (k.place j).status) e) ∙ q.status) in cc) (w ∷ ws) h

pub nowhere_from : (k : KernelState) (n : ℕ) → IsSound k → ((t : ℕ) → (k.place n).status ≡ status.Sending (id_of k t) → (k.place t).waiting ≡ []) → StandsNowhere k n
nowhere_from k n s f = λ t. lacks_from k t n (k.place t).waiting (s.queued t) (f t)

run_nowhere : (k : KernelState) (n : ℕ) → IsSound k → (k.place n).status ≡ status.Run → StandsNowhere k n
run_nowhere k n s run = nowhere_from k n s (λ t e. let no : status.Run ≡ status.Sending (id_of k t) = sym run ∙ e in cc)

picking_nowhere : (k : KernelState) (n : ℕ) → IsSound k → (k.place n).status ≡ status.Picking → StandsNowhere k n
picking_nowhere k n s at = nowhere_from k n s (λ t e. let no : status.Picking ≡ status.Sending (id_of k t) = sym at ∙ e in cc)

dead_nowhere : (k : KernelState) (n : ℕ) → IsSound k → (k.place n).status ≡ status.Dead → StandsNowhere k n
dead_nowhere k n s at = nowhere_from k n s (λ t e. let no : status.Dead ≡ status.Sending (id_of k t) = sym at ∙ e in cc)

taker_nowhere : (k : KernelState) (n : ℕ) (who : ThreadId) (zero : Bool) → IsSound k → takes_from (k.place n).status who zero ≡ true → StandsNowhere k n
taker_nowhere k n who zero s r = nowhere_from k n s (λ t e. let no : false ≡ true = sym (ap (λ (x : Status). takes_from x who zero) e) ∙ r in cc)

taker_alive : (st : Status) (who : ThreadId) (zero : Bool) → takes_from st who zero ≡ true → st ≢ status.Dead
taker_alive st who zero r e = let no : false ≡ true = sym (ap (λ (x : Status). takes_from x who zero) e) ∙ r in cc

run_alive : (st : Status) → st ≡ status.Run → st ≢ status.Dead
run_alive st run e = let no : status.Run ≡ status.Dead = sym run ∙ e in cc

pub answered-sound : (k : KernelState) (who : ThreadId) (serial : ℕ) (r : Reply) → IsSound k → IsSound (answered k who serial r)
answered-sound k who serial r s =
    let m = answered k who serial r in
    record {
      queued = λ t. all_weaker (IsQueued k t) (IsQueued m t) (λ w. queued_from k m t w refl refl refl) (k.place t).waiting (s.queued t);
      apart = s.apart;
      dead = s.dead;
      outside = s.outside;
    }

pub called-sound : (k : KernelState) (me : ThreadId) (serial : ℕ) → IsSound k → IsSound (called k me serial)
called-sound k me serial s =
    relist-sound k me.number (record (k.place me.number) { serial = serial }) refl refl (s.queued me.number) (s.apart me.number) (s.dead me.number) s

-- A thread that stands in no list may take another status, also with another mark.
restatus-sound : (k : KernelState) (n : ℕ) (st : Status) (mark : Bool) → st ≢ status.Dead → (k.place n).status ≢ status.Dead → StandsNowhere k n → IsSound k → IsSound (with_place k n (record (k.place n) { status = st; joined = mark }))
restatus-sound k n st mark living alive free s =
    let p = record (k.place n) { status = st; joined = mark } in
    let m = with_place k n p in
    vacant-sound k n p free
    (all_both (λ w. w.0.number ≢ n) (IsQueued k n) (IsQueued m n) (λ w other q. queued_from k m n w (ap (λ r. r.version) (upd_same k.place n p)) (ap (λ r. r.version) (upd_other k.place n p w.0.number other)) (ap (λ r. r.status) (upd_other k.place n p w.0.number other)) q) (k.place n).waiting (free n) (s.queued n))
    (s.apart n) (λ e. absurd (living e)) (λ l. absurd (alive (s.outside n l))) s

pub with_status-sound : (k : KernelState) (n : ℕ) (st : Status) → st ≢ status.Dead → (k.place n).status ≢ status.Dead → StandsNowhere k n → IsSound k → IsSound (with_status k n st)
with_status-sound k n st living alive free s = restatus-sound k n st false living alive free s

pub sent-sound : (k : KernelState) (who : ThreadId) (serial : ℕ) (after : Status) → after ≢ status.Dead → (k.place who.number).status ≢ status.Dead → StandsNowhere k who.number → IsSound k → IsSound (sent k who serial after)
sent-sound k who serial after living alive free s =
    let moved = with_status-sound k who.number after living alive free s in
    cond_both (is_run after) _ _ IsSound (λ _. answered-sound (with_status k who.number after) who serial reply.Sent moved) (λ _. moved)

pub after_alive : (joined : Bool) (to : ThreadId) → status_after joined to ≢ status.Dead
after_alive true to e = cc
after_alive false to e = cc

pub passed-sound : (k : KernelState) (me : ThreadId) (serial : ℕ) (to : ThreadId) (message : Message) (zero : Bool) (after : Status) → after ≢ status.Dead → (k.place me.number).status ≡ status.Run → takes_from (k.place to.number).status me zero ≡ true → IsSound k → IsSound (passed k me serial to message after)
unfolding passed
passed-sound k me serial to message zero after living run r s =
    let woken = with_status k to.number status.Run in
    let one = with_status-sound k to.number status.Run (λ e. cc) (taker_alive (k.place to.number).status me zero r) (taker_nowhere k to.number me zero s r) s in
    let two = answered-sound woken to (k.place to.number).serial _ one in
    let still : (woken.place me.number).status ≡ status.Run = upd_cases (λ q. q.status ≡ status.Run) k.place to.number (record (k.place to.number) { status = status.Run; joined = false }) me.number (λ _. refl) (λ _. run) in
    sent-sound _ me serial after living (run_alive (woken.place me.number).status still) (run_nowhere _ me.number two still) two

pub alive_from : (k : KernelState) (id : ThreadId) → is_present k id ≡ true → ((k.place id.number).version ≡ id.version) × ((k.place id.number).status ≢ status.Dead)
alive_from k id h =
    let p = and_parts _ _ h in
    (eqb-true _ _ p.0, λ e. let no : false ≡ true = sym (ap (λ (x : Status). not (is_dead x)) e) ∙ p.1 in cc)

pub queued-sound : (k : KernelState) (me to : ThreadId) (message : Message) (joined : Bool) → (k.place me.number).status ≡ status.Run → (k.place me.number).version ≡ me.version → is_present k to ≡ true → IsSound k → IsSound (queued k me to message joined)
unfolding queued
queued-sound k me to message joined run mv present s =
    let p = record (k.place me.number) { status = status.Sending to; joined = joined } in
    let m = with_place k me.number p in
    let alive = alive_from k to present in
    let free = run_nowhere k me.number s run in
    let one : IsSound m = restatus-sound k me.number (status.Sending to) joined (λ e. cc) (run_alive (k.place me.number).status run) free s in
    let fresh : Lacks me.number (m.place to.number).waiting = upd_cases (λ q. Lacks me.number q.waiting) k.place me.number p to.number (λ _. free me.number) (λ _. free to.number) in
    let version : (m.place to.number).version ≡ to.version = kept (λ q. q.version) k me.number p refl to.number ∙ alive.0 in
    let mine : IsQueued m to.number (me, message) = record {
      version = ap (λ q. q.version) (upd_same k.place me.number p) ∙ mv;
      status = ap (λ q. q.status) (upd_same k.place me.number p) ∙ ap (λ (v : ℕ). status.Sending (record { number = to.number; version = v })) (sym version);
    } in
    let living : (m.place to.number).status ≢ status.Dead = upd_cases (λ q. q.status ≢ status.Dead) k.place me.number p to.number (λ _ e. cc) (λ _. alive.1) in
    relist-sound m to.number (record (m.place to.number) { waiting = (m.place to.number).waiting ++ (me, message) ∷ [] }) refl refl
    (all_push (IsQueued m to.number) (m.place to.number).waiting (me, message) (one.queued to.number) mine)
    (distinct_push (m.place to.number).waiting (me, message) (one.apart to.number) fresh)
    (λ e. absurd (living e)) one

pub without-sound : (k : KernelState) (n at : ℕ) → IsSound k → IsSound (without k n at)
without-sound k n at s =
    relist-sound k n (record (k.place n) { waiting = remove (k.place n).waiting at }) refl refl (all_remove (IsQueued k n) (k.place n).waiting at (s.queued n)) (distinct_remove (k.place n).waiting at (s.apart n)) (λ e. rw (s.dead n e) (no_rest at)) s
  where
    no_rest : (i : ℕ) → remove {X = Waiting} [] i ≡ []
    no_rest (suc i) = refl
    no_rest i = refl

pub taken-sound : (k : KernelState) (me : ThreadId) (serial at : ℕ) → at < length (k.place me.number).waiting → IsSound k → IsSound (taken k me serial at)
unfolding taken
taken-sound k me serial at ai s =
    let w = entry_at k me.number at in
    let p = record (k.place me.number) { waiting = remove (k.place me.number).waiting at } in
    let m = without k me.number at in
    let q = all_at (IsQueued k me.number) (k.place me.number).waiting at no_one (s.queued me.number) ai in
    let one : IsSound m = without-sound k me.number at s in
    let free : StandsNowhere m w.0.number = λ t. upd_cases (λ r. Lacks w.0.number r.waiting) k.place me.number p t
    (λ _. lacks_removed (k.place me.number).waiting at ai (s.apart me.number))
    (λ ne. all_weaker (IsQueued k t) (λ v. v.0.number ≢ w.0.number) (λ v u e. ne (same_list (id_of k t) (id_of k me.number) (sym u.status ∙ ap (λ (j : ℕ). (k.place j).status) e ∙ q.status))) (k.place t).waiting (s.queued t)) in
    let two = answered-sound m me serial (reply.Got w.0 w.1) one in
    let after = status_after (k.place w.0.number).joined me in
    let alive : (m.place w.0.number).status ≢ status.Dead = λ e. let no : status.Sending (id_of k me.number) ≡ status.Dead = sym (kept (λ r. r.status) k me.number p refl w.0.number ∙ q.status) ∙ e in cc in
    sent-sound _ w.0 (k.place w.0.number).serial after (after_alive (k.place w.0.number).joined me) alive free two
  where
    same_list : (a b : ThreadId) → status.Sending a ≡ status.Sending b → a.number ≡ b.number
    same_list a b e = let same : a ≡ b = cc in ap (λ (i : ThreadId). i.number) same

pub received-sound : (k : KernelState) (me : ThreadId) (serial : ℕ) (from : Option ThreadId) (zero : Bool) (at : Option ℕ) → (k.place me.number).status ≡ status.Run → match_at k me from ≡ at → IsSound k → IsSound (received k me serial from zero at).0
unfolding received
received-sound k me serial from zero (Some at) run e s =
    taken-sound k me serial at (position-Some _ (k.place me.number).waiting at no_one e).0 s
received-sound k me serial from true None run e s = answered-sound k me serial _ s
received-sound k me serial from false None run e s =
    with_status-sound k me.number (status.Receiving from) (λ e. cc) (run_alive (k.place me.number).status run) (run_nowhere k me.number s run) s

pub receive-sound : (k : KernelState) (me : ThreadId) (serial : ℕ) (from : Option ThreadId) (zero : Bool) → (k.place me.number).status ≡ status.Run → IsSound k → IsSound (receive k me serial from zero).0
unfolding receive
receive-sound k me serial from zero run s =
    cond_both (is_own from me) _ _ (λ (r : KernelState × Outcome). IsSound r.0) (λ _. answered-sound k me serial _ s) (λ _. received-sound k me serial from zero (match_at k me from) run refl s)

pub send-sound : (k : KernelState) (me : ThreadId) (serial : ℕ) (to : ThreadId) (message : Message) (zero joined : Bool) (after : Status) → after ≢ status.Dead → (k.place me.number).status ≡ status.Run → (k.place me.number).version ≡ me.version → IsSound k → IsSound (send k me serial to message zero joined after).0
unfolding send
send-sound k me serial to message zero joined after living run mv s =
    cond_both (same_id me to) _ _ (λ (r : KernelState × Outcome). IsSound r.0) (λ _. answered-sound k me serial _ s)
    (λ _. cond_both (not (is_present k to)) _ _ (λ (r : KernelState × Outcome). IsSound r.0) (λ _. answered-sound k me serial _ s)
    (λ here. cond_both (takes_from (k.place to.number).status me zero) _ _ (λ (r : KernelState × Outcome). IsSound r.0) (λ r. passed-sound k me serial to message zero after living run r s)
    (λ _. cond_both zero _ _ (λ (r : KernelState × Outcome). IsSound r.0) (λ _. answered-sound k me serial _ s)
    (λ _. queued-sound k me to message joined run mv (not-false _ here) s))))

-- A free number is dead, so it stands in no list and its own is empty.
pub free_dead : (p : Place) → is_free p ≡ true → p.status ≡ status.Dead
free_dead p h = dead_from p.status (and_parts _ _ h).0
  where
    dead_from : (st : Status) → is_dead st ≡ true → st ≡ status.Dead
    dead_from status.Dead h = refl
    dead_from status.Run h = absurd (false≢true h)
    dead_from (status.Sending to) h = absurd (false≢true h)
    dead_from (status.Receiving from) h = absurd (false≢true h)
    dead_from status.Picking h = absurd (false≢true h)
    dead_from status.Ended h = absurd (false≢true h)

pub created-sound : (k : KernelState) (me : ThreadId) (serial : ℕ) (at : Option ℕ) → lowest (λ n. is_free (k.place n)) k.size ≡ at → IsSound k → IsSound (created k me serial at).0
unfolding created
created-sound k me serial (Some n) e s =
    let found = lowest-Some (λ n. is_free (k.place n)) k.size n e in
    let dead = free_dead (k.place n) found.1 in
    answered-sound (renewed k n) me serial _ (empty-sound k n _ (dead_nowhere k n s dead) (s.dead n dead) (λ l. absurd (omega (arith, l, found.0))) s)
created-sound k me serial None e s = answered-sound k me serial _ s

-- Leaving every list keeps the lists sound, and then the thread stands in none.
left-sound : (k : KernelState) (who : ThreadId) → IsSound k → IsSound (left_everywhere k who)
left-sound k who s =
    let m = left_everywhere k who in
    let test : Waiting → Bool = λ w. not (same_id w.0 who) in
    record {
      queued = λ t. all_filter (IsQueued m t) test (k.place t).waiting (all_weaker (IsQueued k t) (IsQueued m t) (λ w. queued_from k m t w refl refl refl) (k.place t).waiting (s.queued t));
      apart = λ t. distinct_filter test (k.place t).waiting (s.apart t);
      dead = λ t e. ap (filter test) (s.dead t e);
      outside = s.outside;
    }

left_nowhere : (k : KernelState) (who : ThreadId) → (k.place who.number).version ≡ who.version → IsSound k → StandsNowhere (left_everywhere k who) who.number
left_nowhere k who ev s = λ t.
    all_filtered (IsQueued k t) (λ w. w.0.number ≢ who.number) (λ w. not (same_id w.0 who)) (λ w q passes e.
    let version : w.0.version ≡ who.version = sym q.version ∙ ap (λ (j : ℕ). (k.place j).version) e ∙ ev in
    let no : not (same_id w.0 who) ≡ false = rw (eq-eqb w.0.number who.number e) (rw (eq-eqb w.0.version who.version version) refl) in
    false≢true (sym no ∙ passes)) (k.place t).waiting (s.queued t)

pub killed-sound : (k : KernelState) (who : ThreadId) → (k.place who.number).version ≡ who.version → IsSound k → IsSound (killed k who)
unfolding killed
killed-sound k who ev s = empty-sound (left_everywhere k who) who.number _ (left_nowhere k who ev s) refl (λ _. refl) (left-sound k who s)

pub destroy-sound : (k : KernelState) (me : ThreadId) (serial : ℕ) (victim : ThreadId) → IsSound k → IsSound (destroy k me serial victim).0
unfolding destroy
destroy-sound k me serial victim s =
    cond_both (same_id me victim) _ _ (λ (r : KernelState × Outcome). IsSound r.0) (λ _. answered-sound k me serial _ s)
    (λ _. cond_both (not (is_present k victim)) _ _ (λ (r : KernelState × Outcome). IsSound r.0) (λ _. answered-sound k me serial _ s)
    (λ here. answered-sound (killed k victim) me serial _ (killed-sound k victim (alive_from k victim (not-false _ here)).0 s)))

pub made-sound : (k : KernelState) (me : ThreadId) (serial : ℕ) (phase : Phase) → (k.place me.number).status ≡ status.Run → (k.place me.number).version ≡ me.version → IsSound k → IsSound (made k me serial phase).0
unfolding made create
made-sound k me serial (phase.Send to message zero joined) run mv s = send-sound k me serial to message zero joined (status_after joined to) (after_alive joined to) run mv s
made-sound k me serial (phase.Reply to message zero) run mv s = send-sound k me serial to message zero false status.Picking (λ e. cc) run mv s
made-sound k me serial (phase.Receive from zero) run mv s = receive-sound k me serial from zero run s
made-sound k me serial (phase.Create program priority) run mv s = created-sound k me serial (lowest (λ n. is_free (k.place n)) k.size) refl s
made-sound k me serial (phase.Destroy who) run mv s = destroy-sound k me serial who s
made-sound k me serial phase.End run mv s =
    with_status-sound k me.number status.Ended (λ e. cc) (run_alive (k.place me.number).status run) (run_nowhere k me.number s run) s

-- Who waits for an absent thread stands in no list.
no_way : (v : ℕ) → not (eqb v v && true) ≡ true → ⊥
no_way v h = let e = eq-eqb v v refl in let no : not (eqb v v && true) ≡ false = rw e refl in false≢true (sym no ∙ h)

absent_nowhere : (k : KernelState) (n : ℕ) → IsSound k → waits_for_absent k (k.place n).status ≡ true → StandsNowhere k n
absent_nowhere k n s w = nowhere_from k n s (λ t e.
    let absent : not (is_present k (id_of k t)) ≡ true = sym (ap (λ (x : Status). waits_for_absent k x) e) ∙ w in
    s.dead t (is_gone (k.place t).version (k.place t).status absent))
  where
    is_gone : (v : ℕ) (st : Status) → not (eqb v v && not (is_dead st)) ≡ true → st ≡ status.Dead
    is_gone v status.Dead h = refl
    is_gone v status.Run h = absurd (no_way v h)
    is_gone v (status.Sending to) h = absurd (no_way v h)
    is_gone v (status.Receiving from) h = absurd (no_way v h)
    is_gone v status.Picking h = absurd (no_way v h)
    is_gone v status.Ended h = absurd (no_way v h)

pub run_from : (st : Status) → is_run st ≡ true → st ≡ status.Run
run_from status.Dead h = absurd (false≢true h)
run_from status.Run h = refl
run_from (status.Sending to) h = absurd (false≢true h)
run_from (status.Receiving from) h = absurd (false≢true h)
run_from status.Picking h = absurd (false≢true h)
run_from status.Ended h = absurd (false≢true h)

pub picking_from : (st : Status) → is_picking st ≡ true → st ≡ status.Picking
picking_from status.Dead h = absurd (false≢true h)
picking_from status.Run h = absurd (false≢true h)
picking_from (status.Sending to) h = absurd (false≢true h)
picking_from (status.Receiving from) h = absurd (false≢true h)
picking_from status.Picking h = refl
picking_from status.Ended h = absurd (false≢true h)

-- Who may act is present, and stands in no list.
pub acts_free : (k : KernelState) (who : ThreadId) (serial : ℕ) (a : Act) → may_act k who serial a ≡ true → IsSound k → StandsNowhere k who.number
acts_free k who serial (act.Call phase) may s = run_nowhere k who.number s (run_from (k.place who.number).status (and_parts _ _ (and_parts _ _ may).0).1)
acts_free k who serial act.Gone may s = absent_nowhere k who.number s (and_parts _ _ (and_parts _ _ may).0).1
acts_free k who serial act.Pick may s = picking_nowhere k who.number s (picking_from (k.place who.number).status (and_parts _ _ (and_parts _ _ may).0).1)

pub acts_alive : (k : KernelState) (who : ThreadId) (serial : ℕ) (a : Act) → may_act k who serial a ≡ true → ((k.place who.number).version ≡ who.version) × ((k.place who.number).status ≢ status.Dead)
acts_alive k who serial (act.Call phase) may = alive_from k who (and_parts _ _ (and_parts _ _ may).0).0
acts_alive k who serial act.Gone may = alive_from k who (and_parts _ _ (and_parts _ _ may).0).0
acts_alive k who serial act.Pick may = alive_from k who (and_parts _ _ (and_parts _ _ may).0).0

pub acted-sound : (k : KernelState) (who : ThreadId) (serial : ℕ) (a : Act) → may_act k who serial a ≡ true → IsSound k → IsSound (acted k who serial a).0
unfolding acted
acted-sound k who serial (act.Call phase) may s =
    let p = record (k.place who.number) { serial = serial } in
    made-sound (called k who serial) who serial phase
    (ap (λ q. q.status) (upd_same k.place who.number p) ∙ run_from (k.place who.number).status (and_parts _ _ (and_parts _ _ may).0).1)
    (ap (λ q. q.version) (upd_same k.place who.number p) ∙ (acts_alive k who serial (act.Call phase) may).0)
    (called-sound k who serial s)
acted-sound k who serial act.Gone may s =
    answered-sound (with_status k who.number status.Run) who serial _
    (with_status-sound k who.number status.Run (λ e. cc) (acts_alive k who serial act.Gone may).1 (acts_free k who serial act.Gone may s) s)
acted-sound k who serial act.Pick may s =
    receive-sound (with_status k who.number status.Run) who serial None false
    (ap (λ q. q.status) (upd_same k.place who.number (record (k.place who.number) { status = status.Run; joined = false })))
    (with_status-sound k who.number status.Run (λ e. cc) (acts_alive k who serial act.Pick may).1 (acts_free k who serial act.Pick may s) s)

-- Who isn't dead has a number of the table.
pub inside_from : (k : KernelState) (n : ℕ) → IsSound k → (k.place n).status ≢ status.Dead → n < k.size
inside_from k n s alive = elim (cases_lt n k.size) [ inl l ↦ l | inr l ↦ absurd (alive (s.outside n l)) ]

pub sender_inside : (k : KernelState) (t : ℕ) (w : Waiting) → IsSound k → IsQueued k t w → w.0.number < k.size
sender_inside k t w s q = inside_from k w.0.number s (λ e. let no : status.Sending (id_of k t) ≡ status.Dead = sym q.status ∙ e in cc)

pub senders_inside : (k : KernelState) (t : ℕ) → IsSound k → AllByRecursion (λ w. w.0.number < k.size) (k.place t).waiting
senders_inside k t s = all_weaker (IsQueued k t) (λ w. w.0.number < k.size) (λ w q. sender_inside k t w s q) (k.place t).waiting (s.queued t)

-- There is always room in a list for one that stands in none.
pub has_room : (k : KernelState) (me t : ℕ) → k.size ≤ 64 → me < k.size → StandsNowhere k me → IsSound k → length (k.place t).waiting < 64
has_room k me t small inside free s =
    let ws = (k.place t).waiting in
    let ns = me ∷ numbers ws in
    let apart : IsDistinct eqb ns = IsDistinct-cons eqb me (numbers ws) (all_map (λ n. eqb me n ≡ false) (λ w. w.0.number) ws (all_weaker (λ w. w.0.number ≢ me) (λ w. eqb me w.0.number ≡ false) (λ w ne. ne_eqb me w.0.number (λ q. ne (sym q))) ws (free t))) (s.apart t) in
    let below : (q : ℕ) → list_any (eqb q) ns ≡ true → q < k.size = λ q h. elim (or_cases _ _ h) [
      | inl e ↦ let same = eqb-true q me e in omega arith
      | inr e ↦ among q ws (senders_inside k t s) e
    ] in
    omega (arith, length-le_from_distinct_below ns k.size apart below, length-map ws (λ (w : Waiting). w.0.number))
  where
    among : (q : ℕ) (ws : List Waiting) → AllByRecursion (λ w. w.0.number < k.size) ws → list_any (eqb q) (numbers ws) ≡ true → q < k.size
    among q [] h e = absurd (false≢true e)
    among q (w ∷ ws) h e = elim (or_cases _ _ e) [
      | inl i ↦ let same = eqb-true q w.0.number i in omega (arith, h.0)
      | inr i ↦ among q ws h.1 i
    ]

-- Who is freed stands in no list, and neither does who is destroyed.
pub freed_nowhere : (k : KernelState) (who : ThreadId) (serial : ℕ) → may_act k who serial act.Gone ≡ true → IsSound k → WaitsNowhere (acted k who serial act.Gone).0 who.number
unfolding acted
freed_nowhere k who serial may s = λ t.
    let p = record (k.place who.number) { status = status.Run; joined = false } in
    upd_cases (λ q. Lacks who.number q.waiting) k.place who.number p t (λ _. acts_free k who serial act.Gone may s who.number) (λ _. acts_free k who serial act.Gone may s t)

pub killed_absent : (k : KernelState) (victim : ThreadId) → is_present (killed k victim) victim ≡ false
unfolding killed
killed_absent k victim =
    let left = left_everywhere k victim in
    let p = record (left.place victim.number) { status = status.Dead; joined = false; waiting = [] } in
    rw (upd_same left.place victim.number p) (and-false ((k.place victim.number).version == victim.version))

pub killed_empty : (k : KernelState) (victim : ThreadId) → ((killed k victim).place victim.number).waiting ≡ []
unfolding killed
killed_empty k victim =
    let left = left_everywhere k victim in
    ap (λ q. q.waiting) (upd_same left.place victim.number (record (left.place victim.number) { status = status.Dead; joined = false; waiting = [] }))

pub killed_nowhere : (k : KernelState) (victim : ThreadId) → is_present k victim ≡ true → IsSound k → WaitsNowhere (killed k victim) victim.number
unfolding killed
killed_nowhere k victim here s = λ t.
    let left = left_everywhere k victim in
    upd_cases (λ q. Lacks victim.number q.waiting) left.place victim.number (record (left.place victim.number) { status = status.Dead; joined = false; waiting = [] }) t (λ _. tt)
    (λ _. left_nowhere k victim (alive_from k victim here).0 s t)

-- The table keeps its size.
size-sent : (k : KernelState) (who : ThreadId) (serial : ℕ) (after : Status) → (sent k who serial after).size ≡ k.size
size-sent k who serial after = cond_both (is_run after) _ _ (λ (r : KernelState). r.size ≡ k.size) (λ _. refl) (λ _. refl)

size-send : (k : KernelState) (me : ThreadId) (serial : ℕ) (to : ThreadId) (message : Message) (zero joined : Bool) (after : Status) → (send k me serial to message zero joined after).0.size ≡ k.size
unfolding send passed queued
size-send k me serial to message zero joined after =
    cond_both (same_id me to) _ _ (λ (r : KernelState × Outcome). r.0.size ≡ k.size) (λ _. refl)
    (λ _. cond_both (not (is_present k to)) _ _ (λ (r : KernelState × Outcome). r.0.size ≡ k.size) (λ _. refl)
    (λ _. cond_both (takes_from (k.place to.number).status me zero) _ _ (λ (r : KernelState × Outcome). r.0.size ≡ k.size) (λ _. size-sent _ me serial after)
    (λ _. cond_both zero _ _ (λ (r : KernelState × Outcome). r.0.size ≡ k.size) (λ _. refl) (λ _. refl))))

size-received : (k : KernelState) (me : ThreadId) (serial : ℕ) (from : Option ThreadId) (zero : Bool) (at : Option ℕ) → (received k me serial from zero at).0.size ≡ k.size
unfolding received taken
size-received k me serial from zero (Some at) = size-sent _ (entry_at k me.number at).0 _ _
size-received k me serial from true None = refl
size-received k me serial from false None = refl

size-receive : (k : KernelState) (me : ThreadId) (serial : ℕ) (from : Option ThreadId) (zero : Bool) → (receive k me serial from zero).0.size ≡ k.size
unfolding receive
size-receive k me serial from zero =
    cond_both (is_own from me) _ _ (λ (r : KernelState × Outcome). r.0.size ≡ k.size) (λ _. refl) (λ _. size-received k me serial from zero (match_at k me from))

size-created : (k : KernelState) (me : ThreadId) (serial : ℕ) (at : Option ℕ) → (created k me serial at).0.size ≡ k.size
unfolding created
size-created k me serial (Some n) = refl
size-created k me serial None = refl

size-destroy : (k : KernelState) (me : ThreadId) (serial : ℕ) (victim : ThreadId) → (destroy k me serial victim).0.size ≡ k.size
unfolding destroy killed
size-destroy k me serial victim =
    cond_both (same_id me victim) _ _ (λ (r : KernelState × Outcome). r.0.size ≡ k.size) (λ _. refl)
    (λ _. cond_both (not (is_present k victim)) _ _ (λ (r : KernelState × Outcome). r.0.size ≡ k.size) (λ _. refl) (λ _. refl))

pub size-made : (k : KernelState) (me : ThreadId) (serial : ℕ) (p : Phase) → (made k me serial p).0.size ≡ k.size
unfolding made create
size-made k me serial (phase.Send to message zero joined) = size-send k me serial to message zero joined _
size-made k me serial (phase.Reply to message zero) = size-send k me serial to message zero false _
size-made k me serial (phase.Receive from zero) = size-receive k me serial from zero
size-made k me serial (phase.Create program priority) = size-created k me serial _
size-made k me serial (phase.Destroy who) = size-destroy k me serial who
size-made k me serial phase.End = refl

pub size-acted : (k : KernelState) (who : ThreadId) (serial : ℕ) (a : Act) → (acted k who serial a).0.size ≡ k.size
unfolding acted
size-acted k who serial (act.Call phase) = size-made (called k who serial) who serial phase
size-acted k who serial act.Gone = refl
size-acted k who serial act.Pick = size-receive (with_status k who.number status.Run) who serial None false
