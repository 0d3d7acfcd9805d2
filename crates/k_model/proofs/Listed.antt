-- Who sends to a present thread stands in its list, and every event keeps it so.
use Rattle.std.proofs.Common.{◌≡◌, ◌≢◌, ℕ, suc, ◌+◌, ◌<◌, ◌≤◌, Bool, true, false, not, ◌||◌, List, [], ◌∷◌, ◌++◌, length, get_or, refl, sym, ap, ◌∙◌, subst, arith, remove, inl, inr, Option, Some, None}
use Rattle.std.specs.Prelude.{nat_lt}
use Rattle.std.specs.List.{filter}
use Rattle.std.proofs.lemmas.Bool.{cases_eq, and_parts, eqb-true, not-false, eq-eqb, or_cases, false≢true, cond_both}
use Rattle.std.proofs.lemmas.List.Folds.{list_any-append}
use Rattle.std.proofs.lemmas.List.Quantifiers.{position-Some}
use Rattle.k_lists.proofs.All.{all_at}
use Rattle.k_ids.specs.declared.threads.ThreadId.{ThreadId}
use Rattle.k_ids.specs.declared.threads.Message.{Message}
use Rattle.k_ids.specs.declared.threads.Status.{Status}
use Rattle.k_ids.specs.declared.threads.Status.TheVariants as status
use Rattle.k_ids.specs.declared.calls.Reply.{Reply}
use Rattle.k_ids.specs.declared.calls.Reply.TheVariants as reply
use Rattle.k_ids.specs.declared.calls.Outcome.{Outcome}
use Rattle.k_ids.specs.declared.calls.Phase.{Phase}
use Rattle.k_ids.specs.declared.calls.Phase.TheVariants as phase
use Rattle.k_ids.specs.declared.calls.Act.{Act}
use Rattle.k_ids.specs.declared.calls.Act.TheVariants as act
use Rattle.k_model.specs.Maps.{lowest}
use Rattle.k_model.specs.State.{KernelState, Place, Waiting, with_place, with_status, answered, id_of, same_id, is_dead, is_run, is_present, takes_from}
use Rattle.k_model.specs.Step.{no_one, entry_at, called, without, sent, status_after, queued, passed, taken, send, receive, received, is_own, match_at, is_free, renewed, created, create, left_everywhere, killed, destroy, made, acted, may_act}
use Rattle.k_model.specs.Sound.{IsQueued, IsSound, IsListed, has_entry}
use Rattle.k_model.specs.History.{opened, opening_place}
use Rattle.k_model.proofs.Maps.{upd_same, upd_other, upd_cases}
use Rattle.k_model.proofs.Sound.{kept, alive_from, run_from, called-sound, with_status-sound, acts_alive, acts_free}

-- ENTRIES OF A LIST

or_right : (a b : Bool) → b ≡ true → (a || b) ≡ true
or_right true b e = refl
or_right false b e = e

alive_if : (b : Bool) → not b ≡ true → b ≡ false
alive_if true h = absurd (false≢true h)
alive_if false h = refl

same_number : (a b : ThreadId) → same_id a b ≡ true → a.number ≡ b.number
same_number a b h = eqb-true a.number b.number (and_parts _ _ h).0

has_removed : (ws : List Waiting) (i : ℕ) (id : ThreadId) → id.number ≢ (get_or ws i no_one).0.number → has_entry ws id ≡ true → has_entry (remove ws i) id ≡ true
has_removed (w ∷ ws) (suc i) id ne h = elim (or_cases (same_id w.0 id) (has_entry ws id) h) [ inl e ↦ rw e refl | inr e ↦ or_right _ _ (has_removed ws i id ne e) ]
has_removed (w ∷ ws) i id ne h = elim (or_cases (same_id w.0 id) (has_entry ws id) h) [ inl e ↦ absurd (ne (sym (same_number w.0 id e))) | inr e ↦ e ]
has_removed [] i id ne h = absurd (false≢true h)

has_filtered : (who : ThreadId) (ws : List Waiting) (id : ThreadId) → id.number ≢ who.number → has_entry ws id ≡ true → has_entry (filter (λ w. not (same_id w.0 who)) ws) id ≡ true
has_filtered who [] id ne h = h
has_filtered who (w ∷ ws) id ne h = elim (or_cases (same_id w.0 id) (has_entry ws id) h) [
  | inl e ↦ cond_both (not (same_id w.0 who)) _ _ (λ (us : List Waiting). has_entry us id ≡ true) (λ _. rw e refl)
      (λ gone. absurd (ne (sym (same_number w.0 id e) ∙ same_number w.0 who (not-false _ gone))))
  | inr e ↦
      let rest = has_filtered who ws id ne e in
      cond_both (not (same_id w.0 who)) _ _ (λ (us : List Waiting). has_entry us id ≡ true) (λ _. or_right _ _ rest) (λ _. rest)
]

has_pushed : (ws : List Waiting) (w : Waiting) (id : ThreadId) → has_entry ws id ≡ true → has_entry (ws ++ w ∷ []) id ≡ true
has_pushed ws w id h = list_any-append (λ (v : Waiting). same_id v.0 id) ws (w ∷ []) ∙ rw h refl

has_new : (ws : List Waiting) (w : Waiting) (id : ThreadId) → same_id w.0 id ≡ true → has_entry (ws ++ w ∷ []) id ≡ true
has_new ws w id h = list_any-append (λ (v : Waiting). same_id v.0 id) ws (w ∷ []) ∙ or_right (has_entry ws id) _ (rw h refl)

-- STATES ON THE WAY

-- All but one number are listed.
record ListedBut (x : ℕ) (k : KernelState) : Type 0 where
  known : (n : ℕ) (to : ThreadId) → n ≢ x → (k.place n).status ≡ status.Sending to → to.version ≤ (k.place to.number).version
  listed : (n : ℕ) (to : ThreadId) → n ≢ x → (k.place n).status ≡ status.Sending to → is_present k to ≡ true → has_entry (k.place to.number).waiting (id_of k n) ≡ true

but : (k : KernelState) (x : ℕ) → IsListed k → ListedBut x k
but k x l = record { known = λ n to _ e. l.known n to e; listed = λ n to _ e here. l.listed n to e here }

present_from : (k : KernelState) (to : ThreadId) → (k.place to.number).version ≡ to.version → is_dead (k.place to.number).status ≡ false → is_present k to ≡ true
present_from k to version alive = rw (eq-eqb (k.place to.number).version to.version version) (rw alive refl)

-- A present thread, before a change that revives none.
present_before : (k m : KernelState) (to : ThreadId) → (m.place to.number).version ≡ (k.place to.number).version → (is_dead (m.place to.number).status ≡ false → is_dead (k.place to.number).status ≡ false) → is_present m to ≡ true → is_present k to ≡ true
present_before k m to version alive here =
    let p = and_parts _ _ here in
    present_from k to (sym version ∙ eqb-true _ _ p.0) (alive (alive_if _ p.1))

-- The one that was left out doesn't send.
all-listed : (k : KernelState) (x : ℕ) → ((to : ThreadId) → (k.place x).status ≢ status.Sending to) → ListedBut x k → IsListed k
all-listed k x never l =
    let apart : (n : ℕ) (to : ThreadId) → (k.place n).status ≡ status.Sending to → n ≢ x = λ n to e same. never to (ap (λ (j : ℕ). (k.place j).status) (sym same) ∙ e) in
    record { known = λ n to e. l.known n to (apart n to e) e; listed = λ n to e here. l.listed n to (apart n to e) e here }

-- A number keeps its version and its list, and takes another status.
place-listed : (k : KernelState) (n : ℕ) (p : Place) → p.version ≡ (k.place n).version → p.waiting ≡ (k.place n).waiting → is_dead (k.place n).status ≡ false → ListedBut n k → ListedBut n (with_place k n p)
place-listed k n p ev ew alive l =
    let m = with_place k n p in
    let versions = kept (λ q. q.version) k n p ev in
    let lists = kept (λ q. q.waiting) k n p ew in
    let statuses : (t : ℕ) → t ≢ n → (m.place t).status ≡ (k.place t).status = λ t ne. ap (λ q. q.status) (upd_other k.place n p t ne) in
    let living : (t : ℕ) → is_dead (m.place t).status ≡ false → is_dead (k.place t).status ≡ false = λ t. upd_cases (λ q. is_dead q.status ≡ false → is_dead (k.place t).status ≡ false) k.place n p t (λ e _. ap (λ (j : ℕ). is_dead (k.place j).status) e ∙ alive) (λ _ h. h) in
    record {
      known = λ t to ne e. omega (arith, versions to.number, l.known t to ne (sym (statuses t ne) ∙ e));
      listed = λ t to ne e here.
          let old = l.listed t to ne (sym (statuses t ne) ∙ e) (present_before k m to (versions to.number) (living to.number) here) in
          ap (λ (ws : List Waiting). has_entry ws (id_of m t)) (lists to.number) ∙ ap (λ (v : ℕ). has_entry (k.place to.number).waiting (record { number = t; version = v })) (versions t) ∙ old;
    }

-- One that doesn't send takes such a status.
rest-listed : (k : KernelState) (n : ℕ) (p : Place) → p.version ≡ (k.place n).version → p.waiting ≡ (k.place n).waiting → is_dead (k.place n).status ≡ false → ((to : ThreadId) → p.status ≢ status.Sending to) → ListedBut n k → IsListed (with_place k n p)
rest-listed k n p ev ew alive never l =
    all-listed (with_place k n p) n (λ to e. never to (sym (ap (λ q. q.status) (upd_same k.place n p)) ∙ e)) (place-listed k n p ev ew alive l)

answered-listed : (k : KernelState) (x : ℕ) (who : ThreadId) (serial : ℕ) (r : Reply) → ListedBut x k → ListedBut x (answered k who serial r)
answered-listed k x who serial r l = record { known = l.known; listed = l.listed }

refused-listed : (k : KernelState) (who : ThreadId) (serial : ℕ) (r : Reply) → IsListed k → IsListed (answered k who serial r)
refused-listed k who serial r l = record { known = l.known; listed = l.listed }

abbrev Rests : Status → Type 0
Rests st = (to : ThreadId) → st ≢ status.Sending to

sent-listed : (k : KernelState) (who : ThreadId) (serial : ℕ) (after : Status) → Rests after → is_dead (k.place who.number).status ≡ false → ListedBut who.number k → IsListed (sent k who serial after)
sent-listed k who serial after rests alive l =
    let moved = rest-listed k who.number (record (k.place who.number) { status = after; joined = false }) refl refl alive rests l in
    cond_both (is_run after) _ _ IsListed (λ _. refused-listed (with_status k who.number after) who serial reply.Sent moved) (λ _. moved)

without-listed : (k : KernelState) (n at : ℕ) → IsListed k → ListedBut (entry_at k n at).0.number (without k n at)
without-listed k n at l =
    let p = record (k.place n) { waiting = remove (k.place n).waiting at } in
    let m = without k n at in
    let versions = kept (λ q. q.version) k n p refl in
    let statuses = kept (λ q. q.status) k n p refl in
    record {
      known = λ t to ne e. omega (arith, versions to.number, l.known t to (sym (statuses t) ∙ e));
      listed = λ t to ne e here.
          let old = l.listed t to (sym (statuses t) ∙ e) (present_before k m to (versions to.number) (λ h. ap is_dead (sym (statuses to.number)) ∙ h) here) in
          let still : has_entry (m.place to.number).waiting (id_of k t) ≡ true = upd_cases (λ q. has_entry q.waiting (id_of k t) ≡ true) k.place n p to.number
          (λ same. has_removed (k.place n).waiting at (id_of k t) ne (subst (λ (j : ℕ). has_entry (k.place j).waiting (id_of k t) ≡ true) same old))
          (λ _. old) in
          ap (λ (v : ℕ). has_entry (m.place to.number).waiting (record { number = t; version = v })) (versions t) ∙ still;
    }

-- The one that was left out is put last into its partner's list.
append-listed : (k : KernelState) (to me : ThreadId) (message : Message) → (k.place me.number).status ≡ status.Sending to → (k.place me.number).version ≡ me.version → (k.place to.number).version ≡ to.version → ListedBut me.number k → IsListed (with_place k to.number (record (k.place to.number) { waiting = (k.place to.number).waiting ++ (me, message) ∷ [] }))
append-listed k to me message sends mine theirs l =
    let p = record (k.place to.number) { waiting = (k.place to.number).waiting ++ (me, message) ∷ [] } in
    let m = with_place k to.number p in
    let versions = kept (λ q. q.version) k to.number p refl in
    let statuses = kept (λ q. q.status) k to.number p refl in
    let partner : (r : ThreadId) → (m.place me.number).status ≡ status.Sending r → to ≡ r = λ r e. sending_same to r (sym sends ∙ sym (statuses me.number) ∙ e) in
    let fresh : has_entry (m.place to.number).waiting (id_of m me.number) ≡ true = ap (λ q. has_entry q.waiting (id_of m me.number)) (upd_same k.place to.number p)
    ∙ has_new (k.place to.number).waiting (me, message) (id_of m me.number) (rw (eq-eqb me.number me.number refl) (eq-eqb me.version (m.place me.number).version (sym mine ∙ sym (versions me.number)))) in
    record {
      known = λ t r e. elim (cases_eq t me.number) [
        | inl same ↦ let r_is = partner r (ap (λ (j : ℕ). (m.place j).status) (sym same) ∙ e) in subst (λ (x : ThreadId). x.version ≤ (m.place x.number).version) r_is (omega (arith, versions to.number, theirs))
        | inr ne ↦ omega (arith, versions r.number, l.known t r ne (sym (statuses t) ∙ e))
      ];
      listed = λ t r e here. elim (cases_eq t me.number) [
        | inl same ↦
            let r_is = partner r (ap (λ (j : ℕ). (m.place j).status) (sym same) ∙ e) in
            subst (λ (x : ThreadId). has_entry (m.place x.number).waiting (id_of m t) ≡ true) r_is (subst (λ (j : ℕ). has_entry (m.place to.number).waiting (id_of m j) ≡ true) (sym same) fresh)
        | inr ne ↦
            let old = l.listed t r ne (sym (statuses t) ∙ e) (present_before k m r (versions r.number) (λ h. ap is_dead (sym (statuses r.number)) ∙ h) here) in
            let still : has_entry (m.place r.number).waiting (id_of k t) ≡ true = upd_cases (λ q. has_entry q.waiting (id_of k t) ≡ true) k.place to.number p r.number
            (λ at. has_pushed (k.place to.number).waiting (me, message) (id_of k t) (subst (λ (j : ℕ). has_entry (k.place j).waiting (id_of k t) ≡ true) at old))
            (λ _. old) in
            ap (λ (v : ℕ). has_entry (m.place r.number).waiting (record { number = t; version = v })) (versions t) ∙ still
      ];
    }
  where
    sending_same : (a b : ThreadId) → status.Sending a ≡ status.Sending b → a ≡ b
    sending_same a b e = cc

-- ONE CALL AFTER ANOTHER

run_lives : (st : Status) → st ≡ status.Run → is_dead st ≡ false
run_lives st e = ap is_dead e

run_rests : Rests status.Run
run_rests to e = cc

after_rests : (joined : Bool) (partner : ThreadId) → Rests (status_after joined partner)
after_rests true partner to e = cc
after_rests false partner to e = cc

pub taker_lives : (st : Status) (who : ThreadId) (zero : Bool) → takes_from st who zero ≡ true → is_dead st ≡ false
taker_lives status.Dead who zero h = absurd (false≢true h)
taker_lives status.Run who zero h = refl
taker_lives (status.Sending to) who zero h = refl
taker_lives (status.Receiving from) who zero h = refl
taker_lives status.Picking who zero h = refl
taker_lives status.Ended who zero h = refl

passed-listed : (k : KernelState) (me : ThreadId) (serial : ℕ) (to : ThreadId) (message : Message) (zero : Bool) (after : Status) → Rests after → (k.place me.number).status ≡ status.Run → takes_from (k.place to.number).status me zero ≡ true → IsListed k → IsListed (passed k me serial to message after)
unfolding passed
passed-listed k me serial to message zero after rests run takes l =
    let p = record (k.place to.number) { status = status.Run; joined = false } in
    let woken = with_status k to.number status.Run in
    let told = answered woken to (k.place to.number).serial (reply.Got me message) in
    let one : IsListed woken = rest-listed k to.number p refl refl (taker_lives (k.place to.number).status me zero takes) run_rests (but k to.number l) in
    let alive : is_dead (woken.place me.number).status ≡ false = upd_cases (λ q. is_dead q.status ≡ false) k.place to.number p me.number (λ _. refl) (λ _. run_lives (k.place me.number).status run) in
    sent-listed told me serial after rests alive (but told me.number (refused-listed woken to (k.place to.number).serial (reply.Got me message) one))

queued-listed : (k : KernelState) (me to : ThreadId) (message : Message) (joined : Bool) → (k.place me.number).status ≡ status.Run → (k.place me.number).version ≡ me.version → is_present k to ≡ true → IsListed k → IsListed (queued k me to message joined)
unfolding queued
queued-listed k me to message joined run mine here l =
    let p = record (k.place me.number) { status = status.Sending to; joined = joined } in
    let m = with_place k me.number p in
    append-listed m to me message (ap (λ q. q.status) (upd_same k.place me.number p)) (ap (λ q. q.version) (upd_same k.place me.number p) ∙ mine)
    (kept (λ q. q.version) k me.number p refl to.number ∙ (alive_from k to here).0)
    (place-listed k me.number p refl refl (run_lives (k.place me.number).status run) (but k me.number l))

send-listed : (k : KernelState) (me : ThreadId) (serial : ℕ) (to : ThreadId) (message : Message) (zero joined : Bool) (after : Status) → Rests after → (k.place me.number).status ≡ status.Run → (k.place me.number).version ≡ me.version → IsListed k → IsListed (send k me serial to message zero joined after).0
unfolding send
send-listed k me serial to message zero joined after rests run mine l =
    cond_both (same_id me to) _ _ (λ (r : KernelState × Outcome). IsListed r.0) (λ _. refused-listed k me serial _ l)
    (λ _. cond_both (not (is_present k to)) _ _ (λ (r : KernelState × Outcome). IsListed r.0) (λ _. refused-listed k me serial _ l)
    (λ here. cond_both (takes_from (k.place to.number).status me zero) _ _ (λ (r : KernelState × Outcome). IsListed r.0) (λ takes. passed-listed k me serial to message zero after rests run takes l)
    (λ _. cond_both zero _ _ (λ (r : KernelState × Outcome). IsListed r.0) (λ _. refused-listed k me serial _ l)
    (λ _. queued-listed k me to message joined run mine (not-false _ here) l))))

taken-listed : (k : KernelState) (me : ThreadId) (serial at : ℕ) → at < length (k.place me.number).waiting → IsSound k → IsListed k → IsListed (taken k me serial at)
unfolding taken
taken-listed k me serial at inside s l =
    let w = entry_at k me.number at in
    let p = record (k.place me.number) { waiting = remove (k.place me.number).waiting at } in
    let m = without k me.number at in
    let q = all_at (IsQueued k me.number) (k.place me.number).waiting at no_one (s.queued me.number) inside in
    let alive : is_dead (m.place w.0.number).status ≡ false = ap is_dead (kept (λ r. r.status) k me.number p refl w.0.number ∙ q.status) in
    sent-listed (answered m me serial (reply.Got w.0 w.1)) w.0 (k.place w.0.number).serial (status_after (k.place w.0.number).joined me)
    (after_rests (k.place w.0.number).joined me) alive (answered-listed m w.0.number me serial (reply.Got w.0 w.1) (without-listed k me.number at l))

received-listed : (k : KernelState) (me : ThreadId) (serial : ℕ) (from : Option ThreadId) (zero : Bool) (at : Option ℕ) → match_at k me from ≡ at → (k.place me.number).status ≡ status.Run → IsSound k → IsListed k → IsListed (received k me serial from zero at).0
unfolding received
received-listed k me serial from zero (Some at) e run s l = taken-listed k me serial at (position-Some _ (k.place me.number).waiting at no_one e).0 s l
received-listed k me serial from true None e run s l = refused-listed k me serial _ l
received-listed k me serial from false None e run s l =
    rest-listed k me.number (record (k.place me.number) { status = status.Receiving from; joined = false }) refl refl (run_lives (k.place me.number).status run) (λ to e. cc) (but k me.number l)

receive-listed : (k : KernelState) (me : ThreadId) (serial : ℕ) (from : Option ThreadId) (zero : Bool) → (k.place me.number).status ≡ status.Run → IsSound k → IsListed k → IsListed (receive k me serial from zero).0
unfolding receive
receive-listed k me serial from zero run s l =
    cond_both (is_own from me) _ _ (λ (r : KernelState × Outcome). IsListed r.0) (λ _. refused-listed k me serial _ l) (λ _. received-listed k me serial from zero (match_at k me from) refl run s l)

-- A new thread: nobody sends to it yet, since its version is new.
renewed-listed : (k : KernelState) (n : ℕ) → IsListed k → IsListed (renewed k n)
renewed-listed k n l =
    let p = record (k.place n) { version = (k.place n).version + 1; status = status.Run; joined = false; serial = 0 } in
    let m = renewed k n in
    let grows : (t : ℕ) → (k.place t).version ≤ (m.place t).version = λ t. upd_cases (λ q. (k.place t).version ≤ q.version) k.place n p t (λ e. omega (arith, ap (λ (j : ℕ). (k.place j).version) e)) (λ _. omega arith) in
    let apart : (t : ℕ) (to : ThreadId) → (m.place t).status ≡ status.Sending to → t ≢ n = λ t to e same. run_rests to (sym (ap (λ q. q.status) (upd_same k.place n p)) ∙ ap (λ (j : ℕ). (m.place j).status) (sym same) ∙ e) in
    let before : (t : ℕ) (to : ThreadId) → (m.place t).status ≡ status.Sending to → (k.place t).status ≡ status.Sending to = λ t to e. ap (λ q. q.status) (sym (upd_other k.place n p t (apart t to e))) ∙ e in
    record {
      known = λ t to e. omega (arith, grows to.number, l.known t to (before t to e));
      listed = λ t to e here. elim (cases_eq to.number n) [
        | inl same ↦
            let known = l.known t to (before t to e) in
            let newer : (m.place to.number).version ≡ (k.place n).version + 1 = ap (λ (j : ℕ). (m.place j).version) same ∙ ap (λ q. q.version) (upd_same k.place n p) in
            let now : (m.place to.number).version ≡ to.version = (alive_from m to here).0 in
            let then : (k.place to.number).version ≡ (k.place n).version = ap (λ (j : ℕ). (k.place j).version) same in
            absurd (omega (arith, known, newer, now, then))
        | inr ne ↦
            let other = upd_other k.place n p to.number ne in
            let old = l.listed t to (before t to e) (present_before k m to (ap (λ q. q.version) other) (λ h. ap (λ q. is_dead q.status) (sym other) ∙ h) here) in
            ap (λ q. has_entry q.waiting (id_of m t)) other ∙ ap (λ q. has_entry (k.place to.number).waiting (record { number = t; version = q.version })) (upd_other k.place n p t (apart t to e)) ∙ old
      ];
    }

created-listed : (k : KernelState) (me : ThreadId) (serial : ℕ) (at : Option ℕ) → IsListed k → IsListed (created k me serial at).0
unfolding created
created-listed k me serial (Some n) l = refused-listed (renewed k n) me serial _ (renewed-listed k n l)
created-listed k me serial None l = refused-listed k me serial _ l

killed-listed : (k : KernelState) (victim : ThreadId) → IsListed k → IsListed (killed k victim)
unfolding killed
killed-listed k victim l =
    let left = left_everywhere k victim in
    let n = victim.number in
    let p = record (left.place n) { status = status.Dead; joined = false; waiting = [] } in
    let m = with_place left n p in
    let versions : (t : ℕ) → (m.place t).version ≡ (k.place t).version = kept (λ q. q.version) left n p refl in
    let apart : (t : ℕ) (to : ThreadId) → (m.place t).status ≡ status.Sending to → t ≢ n = λ t to e same. dead_rests to (sym (ap (λ q. q.status) (upd_same left.place n p)) ∙ ap (λ (j : ℕ). (m.place j).status) (sym same) ∙ e) in
    let before : (t : ℕ) (to : ThreadId) → (m.place t).status ≡ status.Sending to → (k.place t).status ≡ status.Sending to = λ t to e. ap (λ q. q.status) (sym (upd_other left.place n p t (apart t to e))) ∙ e in
    let elsewhere : (to : ThreadId) → is_present m to ≡ true → to.number ≢ n = λ to here same.
    let dead : is_dead (m.place to.number).status ≡ true = ap (λ (j : ℕ). is_dead (m.place j).status) same ∙ ap (λ q. is_dead q.status) (upd_same left.place n p) in
    false≢true (sym (alive_if _ (and_parts _ _ here).1) ∙ dead) in
    record {
      known = λ t to e. omega (arith, versions to.number, l.known t to (before t to e));
      listed = λ t to e here.
          let other = upd_other left.place n p to.number (elsewhere to here) in
          let old = l.listed t to (before t to e) (present_before k m to (versions to.number) (λ h. ap (λ q. is_dead q.status) (sym other) ∙ h) here) in
          ap (λ q. has_entry q.waiting (id_of m t)) other ∙ ap (λ (v : ℕ). has_entry (left.place to.number).waiting (record { number = t; version = v })) (versions t)
          ∙ has_filtered victim (k.place to.number).waiting (id_of k t) (apart t to e) old;
    }
  where
    dead_rests : Rests status.Dead
    dead_rests to e = cc

destroy-listed : (k : KernelState) (me : ThreadId) (serial : ℕ) (victim : ThreadId) → IsListed k → IsListed (destroy k me serial victim).0
unfolding destroy
destroy-listed k me serial victim l =
    cond_both (same_id me victim) _ _ (λ (r : KernelState × Outcome). IsListed r.0) (λ _. refused-listed k me serial _ l)
    (λ _. cond_both (not (is_present k victim)) _ _ (λ (r : KernelState × Outcome). IsListed r.0) (λ _. refused-listed k me serial _ l)
    (λ _. refused-listed (killed k victim) me serial _ (killed-listed k victim l)))

made-listed : (k : KernelState) (me : ThreadId) (serial : ℕ) (p : Phase) → (k.place me.number).status ≡ status.Run → (k.place me.number).version ≡ me.version → IsSound k → IsListed k → IsListed (made k me serial p).0
unfolding made create
made-listed k me serial (phase.Send to message zero joined) run mine s l = send-listed k me serial to message zero joined (status_after joined to) (after_rests joined to) run mine l
made-listed k me serial (phase.Reply to message zero) run mine s l = send-listed k me serial to message zero false status.Picking (λ to e. cc) run mine l
made-listed k me serial (phase.Receive from zero) run mine s l = receive-listed k me serial from zero run s l
made-listed k me serial (phase.Create program priority) run mine s l = created-listed k me serial (lowest (λ n. is_free (k.place n)) k.size) l
made-listed k me serial (phase.Destroy who) run mine s l = destroy-listed k me serial who l
made-listed k me serial phase.End run mine s l =
    rest-listed k me.number (record (k.place me.number) { status = status.Ended; joined = false }) refl refl (run_lives (k.place me.number).status run) (λ to e. cc) (but k me.number l)

-- THE LAW

pub acts_living : (k : KernelState) (who : ThreadId) (serial : ℕ) (a : Act) → may_act k who serial a ≡ true → is_dead (k.place who.number).status ≡ false
acts_living k who serial (act.Call p) may = alive_if _ (and_parts _ _ (and_parts _ _ (and_parts _ _ may).0).0).1
acts_living k who serial act.Gone may = alive_if _ (and_parts _ _ (and_parts _ _ (and_parts _ _ may).0).0).1
acts_living k who serial act.Pick may = alive_if _ (and_parts _ _ (and_parts _ _ (and_parts _ _ may).0).0).1

pub acted-listed : (k : KernelState) (who : ThreadId) (serial : ℕ) (a : Act) → may_act k who serial a ≡ true → IsSound k → IsListed k → IsListed (acted k who serial a).0
unfolding acted
acted-listed k who serial (act.Call ph) may s l =
    let p = record (k.place who.number) { serial = serial } in
    let run : (k.place who.number).status ≡ status.Run = run_from (k.place who.number).status (and_parts _ _ (and_parts _ _ may).0).1 in
    let rests : Rests (k.place who.number).status = λ to e. run_rests to (sym run ∙ e) in
    made-listed (called k who serial) who serial ph
    (ap (λ q. q.status) (upd_same k.place who.number p) ∙ run)
    (ap (λ q. q.version) (upd_same k.place who.number p) ∙ (acts_alive k who serial (act.Call ph) may).0)
    (called-sound k who serial s)
    (rest-listed k who.number p refl refl (acts_living k who serial (act.Call ph) may) rests (but k who.number l))
acted-listed k who serial act.Gone may s l =
    refused-listed (with_status k who.number status.Run) who serial reply.Gone
    (rest-listed k who.number (record (k.place who.number) { status = status.Run; joined = false }) refl refl (acts_living k who serial act.Gone may) run_rests (but k who.number l))
acted-listed k who serial act.Pick may s l =
    let p = record (k.place who.number) { status = status.Run; joined = false } in
    receive-listed (with_status k who.number status.Run) who serial None false
    (ap (λ q. q.status) (upd_same k.place who.number p))
    (with_status-sound k who.number status.Run (λ e. cc) (acts_alive k who serial act.Pick may).1 (acts_free k who serial act.Pick may s) s)
    (rest-listed k who.number p refl refl (acts_living k who serial act.Pick may) run_rests (but k who.number l))

pub opened-listed : (vs : List ℕ) (n : ℕ) → IsListed (opened vs n)
opened-listed vs n = record { known = λ t to e. absurd (rests t to e); listed = λ t to e here. absurd (rests t to e) }
  where
    rests : (t : ℕ) → Rests (opening_place vs n t).status
    rests t =
        cond_both (not (nat_lt t (length vs))) _ _ (λ (p : Place). Rests p.status) (λ _ to e. cc)
        (λ _. cond_both (nat_lt t n) _ _ (λ (p : Place). Rests p.status) (λ _ to e. cc) (λ _ to e. cc))
