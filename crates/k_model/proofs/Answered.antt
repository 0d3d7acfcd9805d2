-- An event keeps the replies of a state in order, and adds none but to last calls that had none.
use Rattle.std.proofs.Common.{◌≡◌, ◌≢◌, ℕ, suc, ◌+◌, ◌<◌, ◌≤◌, ◌==◌, Bool, true, false, not, ◌&&◌, List, [], ◌∷◌, ◌++◌, length, map, eqb, refl, sym, ap, ◌∙◌, subst, arith, append_assoc, cond, inl, inr, ◌⊎◌, Option, Some, None, remove}
use Rattle.std.specs.Prelude.{nat_lt}
use Rattle.std.specs.List.{AllByRecursion, IsDistinct, find}
use Rattle.std.specs.Option.{option_map, option_or}
use Rattle.std.proofs.lemmas.Bool.{cases_eq, and_parts, eqb-true, not-false, eq-eqb, ne_eqb, false≢true, cond_both}
use Rattle.std.proofs.lemmas.Bool.Decides.{eqb_tells}
use Rattle.std.proofs.lemmas.List.{length_push, append-nil}
use Rattle.std.proofs.lemmas.Map.Keys.{IsDistinct-head, IsDistinct-tail, IsDistinct-cons}
use Rattle.std.proofs.lemmas.List.Quantifiers.{position-Some}
use Rattle.std.proofs.Math.Bool.{and-false}
use Rattle.k_lists.proofs.All.{all_at, all_of_none, all_push, all_right, all_weaker}
use Rattle.k_ids.specs.declared.threads.ThreadId.{ThreadId}
use Rattle.k_ids.specs.declared.threads.Message.{Message}
use Rattle.k_ids.specs.declared.threads.Status.{Status}
use Rattle.k_ids.specs.declared.threads.Status.TheVariants as status
use Rattle.k_ids.specs.declared.calls.Reply.{Reply}
use Rattle.k_ids.specs.declared.calls.Reply.TheVariants as reply
use Rattle.k_ids.specs.declared.calls.Outcome.{Outcome}
use Rattle.k_ids.specs.declared.calls.Phase.{Phase}
use Rattle.k_ids.specs.declared.calls.Phase.TheVariants as phase
use Rattle.k_ids.specs.declared.calls.Act.{Act}
use Rattle.k_ids.specs.declared.calls.Act.TheVariants as act
use Rattle.k_ids.specs.declared.histories.ReplyLine.{ReplyLine}
use Rattle.k_model.specs.Maps.{lowest}
use Rattle.k_model.specs.State.{KernelState, Place, with_place, with_status, answered, id_of, same_id, is_run, is_present, takes_from, waits_for_absent}
use Rattle.k_model.specs.Step.{no_one, entry_at, called, without, sent, status_after, queued, passed, taken, send, receive, received, is_own, match_at, is_free, renewed, created, create, left_everywhere, killed, destroy, made, acted, may_act}
use Rattle.k_model.specs.Sound.{IsQueued, IsSound}
use Rattle.k_model.specs.History.{opened, opening_place}
use Rattle.k_model.specs.Answered.{is_reply_to, reply_to, same_call, is_waiting, IsLastCall, IsEarlierCall, IsOfCall, IsAnswered, AddsReplies}
use Rattle.k_model.proofs.Maps.{upd_same, upd_other, upd_cases, lowest-Some}
use Rattle.k_model.proofs.Sound.{kept, free_dead, alive_from, acts_alive, acts_free, run_from, picking_from, called-sound, with_status-sound}

-- REPLIES AS A LIST

-- A call without a reply: no line is one to it.
none_all : (id : ThreadId) (serial : ℕ) (ls : List ReplyLine) → reply_to ls id serial ≡ None → AllByRecursion (λ l. is_reply_to id serial l ≡ false) ls
none_all id serial [] h = tt
none_all id serial (l ∷ ls) h = go (is_reply_to id serial l) refl h (none_all id serial ls)
  where
    go : (b : Bool) → is_reply_to id serial l ≡ b → option_map (λ (x : ReplyLine). x.reply) (cond b (Some l) (find (is_reply_to id serial) ls)) ≡ None → (reply_to ls id serial ≡ None → AllByRecursion (λ x. is_reply_to id serial x ≡ false) ls) → AllByRecursion (λ x. is_reply_to id serial x ≡ false) (l ∷ ls)
    go true e g rest = absurd cc
    go false e g rest = (e, rest g)

pub all_none : (id : ThreadId) (serial : ℕ) (ls : List ReplyLine) → AllByRecursion (λ l. is_reply_to id serial l ≡ false) ls → reply_to ls id serial ≡ None
all_none id serial [] h = refl
all_none id serial (l ∷ ls) h = rw h.0 (all_none id serial ls h.1)

none_push : (id : ThreadId) (serial : ℕ) (ls : List ReplyLine) (l : ReplyLine) → reply_to ls id serial ≡ None → is_reply_to id serial l ≡ false → reply_to (ls ++ l ∷ []) id serial ≡ None
none_push id serial ls l h e = all_none id serial (ls ++ l ∷ []) (all_push (λ x. is_reply_to id serial x ≡ false) ls l (none_all id serial ls h) e)

-- One more line answers its own call, if that had no reply.
pub reply_push : (id : ThreadId) (serial : ℕ) (ls : List ReplyLine) (l : ReplyLine) → reply_to (ls ++ l ∷ []) id serial ≡ option_or (reply_to ls id serial) (cond (is_reply_to id serial l) (Some l.reply) None)
reply_push id serial [] l = cond_both (is_reply_to id serial l) _ _ (λ (o : Option ReplyLine). option_map (λ (x : ReplyLine). x.reply) o ≡ cond (is_reply_to id serial l) (Some l.reply) None) (λ e. rw e refl) (λ e. rw e refl)
reply_push id serial (x ∷ xs) l = go (is_reply_to id serial x) refl (reply_push id serial xs l)
  where
    go : (b : Bool) → is_reply_to id serial x ≡ b → reply_to (xs ++ l ∷ []) id serial ≡ option_or (reply_to xs id serial) (cond (is_reply_to id serial l) (Some l.reply) None) → reply_to (x ∷ (xs ++ l ∷ [])) id serial ≡ option_or (reply_to (x ∷ xs) id serial) (cond (is_reply_to id serial l) (Some l.reply) None)
    go true e rest = rw e refl
    go false e rest = rw e rest

-- Lines to other calls change no reply.
pub others_keep : (id : ThreadId) (serial : ℕ) (ls ms : List ReplyLine) → AllByRecursion (λ l. is_reply_to id serial l ≡ false) ms → reply_to (ls ++ ms) id serial ≡ reply_to ls id serial
others_keep id serial [] ms h = all_none id serial ms h
others_keep id serial (x ∷ xs) ms h = go (is_reply_to id serial x) refl (others_keep id serial xs ms h)
  where
    go : (b : Bool) → is_reply_to id serial x ≡ b → reply_to (xs ++ ms) id serial ≡ reply_to xs id serial → reply_to (x ∷ (xs ++ ms)) id serial ≡ reply_to (x ∷ xs) id serial
    go true e rest = rw e refl
    go false e rest = rw e rest

-- A reply stays.
some_stays : (id : ThreadId) (serial : ℕ) (r : Reply) (ls ms : List ReplyLine) → reply_to ls id serial ≡ Some r → reply_to (ls ++ ms) id serial ≡ Some r
some_stays id serial r [] ms h = absurd cc
some_stays id serial r (x ∷ xs) ms h = go (is_reply_to id serial x) refl h (some_stays id serial r xs ms)
  where
    go : (b : Bool) → is_reply_to id serial x ≡ b → option_map (λ (y : ReplyLine). y.reply) (cond b (Some x) (find (is_reply_to id serial) xs)) ≡ Some r → (reply_to xs id serial ≡ Some r → reply_to (xs ++ ms) id serial ≡ Some r) → reply_to (x ∷ (xs ++ ms)) id serial ≡ Some r
    go true e g rest = rw e g
    go false e g rest = rw e (rest g)

pub other_number : (id : ThreadId) (serial : ℕ) (l : ReplyLine) → l.id.number ≢ id.number → is_reply_to id serial l ≡ false
other_number id serial l ne = rw (ne_eqb l.id.number id.number ne) refl

no_middle : (a c : Bool) → ((a && false) && c) ≡ false
no_middle true c = refl
no_middle false c = refl

other_version : (id : ThreadId) (serial : ℕ) (l : ReplyLine) → l.id.version ≢ id.version → is_reply_to id serial l ≡ false
other_version id serial l ne = rw (ne_eqb l.id.version id.version ne) (no_middle (l.id.number == id.number) (l.serial == serial))

other_serial : (id : ThreadId) (serial : ℕ) (l : ReplyLine) → l.serial ≢ serial → is_reply_to id serial l ≡ false
other_serial id serial l ne = rw (ne_eqb l.serial serial ne) (and-false (same_id l.id id))

once_push : (ls : List ReplyLine) (l : ReplyLine) → IsDistinct same_call ls → AllByRecursion (λ x. same_call x l ≡ false) ls → IsDistinct same_call (ls ++ l ∷ [])
once_push [] l d h = IsDistinct-cons same_call l [] tt d
once_push (x ∷ xs) l d h =
    IsDistinct-cons same_call x (xs ++ l ∷ []) (all_push (λ y. same_call x y ≡ false) xs l (IsDistinct-head same_call x xs d) h.0)
    (once_push xs l (IsDistinct-tail same_call x xs d) h.1)

-- Of two lists of distinct lines together, no line of the second is one to a call of the first.
once_right : (ls ms : List ReplyLine) → IsDistinct same_call (ls ++ ms) → IsDistinct same_call ms
once_right [] ms d = d
once_right (x ∷ xs) ms d = once_right xs ms (IsDistinct-tail same_call x (xs ++ ms) d)

across : (ls ms : List ReplyLine) → IsDistinct same_call (ls ++ ms) → AllByRecursion (λ m. AllByRecursion (λ l. same_call l m ≡ false) ls) ms
across [] ms d = trivial ms
  where
    trivial : (ys : List ReplyLine) → AllByRecursion (λ m. AllByRecursion (λ l. same_call l m ≡ false) []) ys
    trivial [] = tt
    trivial (y ∷ ys) = (tt, trivial ys)
across (x ∷ xs) ms d =
    both ms (all_right (λ y. same_call x y ≡ false) xs ms (IsDistinct-head same_call x (xs ++ ms) d)) (across xs ms (IsDistinct-tail same_call x (xs ++ ms) d))
  where
    both : (ys : List ReplyLine) → AllByRecursion (λ y. same_call x y ≡ false) ys → AllByRecursion (λ m. AllByRecursion (λ l. same_call l m ≡ false) xs) ys → AllByRecursion (λ m. AllByRecursion (λ l. same_call l m ≡ false) (x ∷ xs)) ys
    both [] h i = tt
    both (y ∷ ys) h i = ((h.0, i.0), both ys h.1 i.1)

-- STATES ON THE WAY

-- A call of a thread that is its last, and has no reply yet.
record IsOpen (k : KernelState) (who : ThreadId) (serial : ℕ) : Type 0 where
  version : (k.place who.number).version ≡ who.version
  last : (k.place who.number).serial ≡ serial
  first : 1 ≤ serial
  unanswered : reply_to k.replies who serial ≡ None

-- A state on the way of an event: its replies are in order, and it has so many lines more at most, each to a last call.
record IsGrown (old : KernelState) (most : ℕ) (k : KernelState) : Type 0 where
  good : IsAnswered k
  lines : List ReplyLine
  replies : k.replies ≡ old.replies ++ lines
  last : AllByRecursion (λ l. IsLastCall k l.id l.serial) lines
  few : length lines ≤ most

start : (k : KernelState) → IsAnswered k → IsGrown k 0 k
start k a = record { good = a; lines = []; replies = sym (append-nil k.replies); last = tt; few = omega arith }

more : (old k : KernelState) (n m : ℕ) → n ≤ m → IsGrown old n k → IsGrown old m k
more old k n m l g = record { good = g.good; lines = g.lines; replies = g.replies; last = g.last; few = omega (arith, l, g.few) }

-- A number goes on: a later version, or the same with no lower serial.
abbrev GoesOn : KernelState → KernelState → ℕ → Type 0
GoesOn k m n =
    ((k.place n).version < (m.place n).version) ⊎ (((k.place n).version ≡ (m.place n).version) × ((k.place n).serial ≤ (m.place n).serial))

of_call_on : (k m : KernelState) (l : ReplyLine) → GoesOn k m l.id.number → IsOfCall k l → IsOfCall m l
of_call_on k m l on c = record {
  first = c.first;
  called = elim on [
    | inl newer ↦ inl (elim c.called [ inl v ↦ omega (arith, v, newer) | inr v ↦ omega (arith, v.0, newer) ])
    | inr same ↦ elim c.called [ inl v ↦ inl (omega (arith, v, same.0)) | inr v ↦ inr (v.0 ∙ same.0, omega (arith, v.1, same.1)) ]
  ];
}

waiting-open : (k : KernelState) (n : ℕ) → IsAnswered k → is_waiting (k.place n).status ≡ true → IsOpen k (id_of k n) (k.place n).serial
waiting-open k n a w = record { version = refl; last = refl; first = a.begun n w; unanswered = a.unanswered n w }

same_who : (k : KernelState) (who : ThreadId) → (k.place who.number).version ≡ who.version → id_of k who.number ≡ who
same_who k who e = λ i. record { number = who.number; version = e i }

-- A waiting thread's last call is open.
open_of : (k : KernelState) (who : ThreadId) → IsAnswered k → (k.place who.number).version ≡ who.version → is_waiting (k.place who.number).status ≡ true → IsOpen k who (k.place who.number).serial
open_of k who a e w = subst (λ (id : ThreadId). IsOpen k id (k.place who.number).serial) (same_who k who e) (waiting-open k who.number a w)

-- The same call, as the number shows it.
open_shown : (k : KernelState) (who : ThreadId) (serial : ℕ) → IsOpen k who serial → IsOpen k (id_of k who.number) (k.place who.number).serial
open_shown k who serial h =
    subst (λ (n : ℕ). IsOpen k (id_of k who.number) n) (sym h.last) (subst (λ (id : ThreadId). IsOpen k id serial) (sym (same_who k who h.version)) h)

open-place : (k : KernelState) (n : ℕ) (p : Place) (who : ThreadId) (serial : ℕ) → p.version ≡ (k.place n).version → p.serial ≡ (k.place n).serial → IsOpen k who serial → IsOpen (with_place k n p) who serial
open-place k n p who serial ev es h = record {
  version = kept (λ q. q.version) k n p ev who.number ∙ h.version;
  last = kept (λ q. q.serial) k n p es who.number ∙ h.last;
  first = h.first;
  unanswered = h.unanswered;
}

open-answered : (k : KernelState) (other : ThreadId) (s : ℕ) (r : Reply) (who : ThreadId) (serial : ℕ) → who.number ≢ other.number → IsOpen k who serial → IsOpen (answered k other s r) who serial
open-answered k other s r who serial ne h = record {
  version = h.version;
  last = h.last;
  first = h.first;
  unanswered = none_push who serial k.replies (record { id = other; serial = s; reply = r }) h.unanswered (other_number who serial (record { id = other; serial = s; reply = r }) (λ e. ne (sym e)));
}

-- A number keeps its version and its serial, and waits only where its last call is open.
place-grown : (old : KernelState) (most : ℕ) (k : KernelState) (n : ℕ) (p : Place) → p.version ≡ (k.place n).version → p.serial ≡ (k.place n).serial → (is_waiting p.status ≡ true → IsOpen k (id_of k n) (k.place n).serial) → IsGrown old most k → IsGrown old most (with_place k n p)
place-grown old most k n p ev es waits g =
    let m = with_place k n p in
    let versions = kept (λ q. q.version) k n p ev in
    let serials = kept (λ q. q.serial) k n p es in
    record {
      good = record {
        made = all_weaker (IsOfCall k) (IsOfCall m) (λ l. of_call_on k m l (inr (sym (versions l.id.number), omega (arith, serials l.id.number)))) k.replies g.good.made;
        once = g.good.once;
        begun = λ t. upd_cases (λ q. is_waiting q.status ≡ true → 1 ≤ q.serial) k.place n p t (λ _ w. omega (arith, es, (waits w).first)) (λ _. g.good.begun t);
        unanswered = λ t. upd_cases (λ q. is_waiting q.status ≡ true → reply_to k.replies (record { number = t; version = q.version }) q.serial ≡ None) k.place n p t
            (λ e w. subst (λ (j : ℕ). reply_to k.replies (record { number = j; version = p.version }) p.serial ≡ None) (sym e) (rw (ev, es) (waits w).unanswered))
            (λ _. g.good.unanswered t);
      };
      lines = g.lines;
      replies = g.replies;
      last = all_weaker (λ l. IsLastCall k l.id l.serial) (λ l. IsLastCall m l.id l.serial) (λ l h. record { version = versions l.id.number ∙ h.version; serial_is = serials l.id.number ∙ h.serial_is }) g.lines g.last;
      few = g.few;
    }

-- Before any line: a number goes on to a place that doesn't wait.
fresh-grown : (old k : KernelState) (n : ℕ) (p : Place) → ((k.place n).version < p.version) ⊎ (((k.place n).version ≡ p.version) × ((k.place n).serial ≤ p.serial)) → is_waiting p.status ≡ false → IsGrown old 0 k → IsGrown old 0 (with_place k n p)
fresh-grown old k n p on rests g =
    let m = with_place k n p in
    let goes : (t : ℕ) → GoesOn k m t = λ t. upd_cases (λ q. ((k.place t).version < q.version) ⊎ (((k.place t).version ≡ q.version) × ((k.place t).serial ≤ q.serial))) k.place n p t
    (λ e. subst (λ (j : ℕ). ((k.place j).version < p.version) ⊎ (((k.place j).version ≡ p.version) × ((k.place j).serial ≤ p.serial))) (sym e) on)
    (λ _. inr (refl, omega arith)) in
    record {
      good = record {
        made = all_weaker (IsOfCall k) (IsOfCall m) (λ l. of_call_on k m l (goes l.id.number)) k.replies g.good.made;
        once = g.good.once;
        begun = λ t. upd_cases (λ q. is_waiting q.status ≡ true → 1 ≤ q.serial) k.place n p t (λ _ w. absurd (false≢true (sym rests ∙ w))) (λ _. g.good.begun t);
        unanswered = λ t. upd_cases (λ q. is_waiting q.status ≡ true → reply_to k.replies (record { number = t; version = q.version }) q.serial ≡ None) k.place n p t
            (λ _ w. absurd (false≢true (sym rests ∙ w))) (λ _. g.good.unanswered t);
      };
      lines = g.lines;
      replies = g.replies;
      last = all_of_none _ g.lines g.few;
      few = g.few;
    }

answered-grown : (old : KernelState) (most : ℕ) (k : KernelState) (who : ThreadId) (serial : ℕ) (r : Reply) → IsOpen k who serial → is_waiting (k.place who.number).status ≡ false → IsGrown old most k → IsGrown old (suc most) (answered k who serial r)
answered-grown old most k who serial r h rests g =
    let m = answered k who serial r in
    let line : ReplyLine = record { id = who; serial = serial; reply = r } in
    record {
      good = record {
        made = all_push (IsOfCall m) k.replies line (all_weaker (IsOfCall k) (IsOfCall m) (λ l. of_call_on k m l (inr (refl, omega arith))) k.replies g.good.made) (record { first = h.first; called = inr (sym h.version, omega (arith, h.last)) });
        once = once_push k.replies line g.good.once (none_all who serial k.replies h.unanswered);
        begun = g.good.begun;
        unanswered = λ t w. elim (cases_eq t who.number) [
          | inl e ↦ absurd (false≢true (sym rests ∙ ap (λ (j : ℕ). is_waiting (k.place j).status) (sym e) ∙ w))
          | inr ne ↦ none_push (id_of k t) (k.place t).serial k.replies line (g.good.unanswered t w) (other_number (id_of k t) (k.place t).serial line (λ e. ne (sym e)))
        ];
      };
      lines = g.lines ++ line ∷ [];
      replies = ap (λ (ls : List ReplyLine). ls ++ line ∷ []) g.replies ∙ append_assoc old.replies g.lines (line ∷ []);
      last = all_push (λ l. IsLastCall m l.id l.serial) g.lines line (all_weaker (λ l. IsLastCall k l.id l.serial) (λ l. IsLastCall m l.id l.serial) (λ l e. record { version = e.version; serial_is = e.serial_is }) g.lines g.last) (record { version = h.version; serial_is = h.last });
      few = omega (arith, length_push g.lines line, g.few);
    }

run_rests : (st : Status) → is_run st ≡ true → is_waiting st ≡ false
run_rests st h = ap is_waiting (run_from st h)

sent-grown : (old : KernelState) (most : ℕ) (k : KernelState) (who : ThreadId) (serial : ℕ) (after : Status) → IsOpen k who serial → IsGrown old most k → IsGrown old (suc most) (sent k who serial after)
sent-grown old most k who serial after h g =
    let p = record (k.place who.number) { status = after; joined = false } in
    let moved = place-grown old most k who.number p refl refl (λ _. open_shown k who serial h) g in
    cond_both (is_run after) _ _ (IsGrown old (suc most))
    (λ run. answered-grown old most (with_status k who.number after) who serial reply.Sent (open-place k who.number p who serial refl refl h) (ap (λ q. is_waiting q.status) (upd_same k.place who.number p) ∙ run_rests after run) moved)
    (λ _. more old (with_status k who.number after) most (suc most) (omega arith) moved)

-- ONE CALL AFTER ANOTHER

taker_waits : (st : Status) (who : ThreadId) (zero : Bool) → takes_from st who zero ≡ true → is_waiting st ≡ true
taker_waits status.Dead who zero h = absurd (false≢true h)
taker_waits status.Run who zero h = absurd (false≢true h)
taker_waits (status.Sending to) who zero h = refl
taker_waits (status.Receiving from) who zero h = refl
taker_waits status.Picking who zero h = refl
taker_waits status.Ended who zero h = absurd (false≢true h)

absent_waits : (k : KernelState) (st : Status) → waits_for_absent k st ≡ true → is_waiting st ≡ true
absent_waits k status.Dead h = absurd (false≢true h)
absent_waits k status.Run h = absurd (false≢true h)
absent_waits k (status.Sending to) h = refl
absent_waits k (status.Receiving from) h = refl
absent_waits k status.Picking h = refl
absent_waits k status.Ended h = absurd (false≢true h)

-- A running thread isn't a waiting one.
run_apart : (k : KernelState) (a b : ℕ) → (k.place a).status ≡ status.Run → is_waiting (k.place b).status ≡ true → a ≢ b
run_apart k a b run w e = false≢true (sym (ap is_waiting run) ∙ ap (λ (j : ℕ). is_waiting (k.place j).status) e ∙ w)

-- The caller runs, and its call is open.
record IsCalling (k : KernelState) (me : ThreadId) (serial : ℕ) : Type 0 where
  run : (k.place me.number).status ≡ status.Run
  called : IsOpen k me serial

refused-grown : (old k : KernelState) (me : ThreadId) (serial : ℕ) (r : Reply) → IsCalling k me serial → IsGrown old 0 k → IsGrown old 2 (answered k me serial r)
refused-grown old k me serial r c g = more old (answered k me serial r) 1 2 (omega arith) (answered-grown old 0 k me serial r c.called (ap is_waiting c.run) g)

passed-grown : (old k : KernelState) (me : ThreadId) (serial : ℕ) (to : ThreadId) (message : Message) (zero : Bool) (after : Status) → IsCalling k me serial → is_present k to ≡ true → takes_from (k.place to.number).status me zero ≡ true → IsGrown old 0 k → IsGrown old 2 (passed k me serial to message after)
unfolding passed
passed-grown old k me serial to message zero after c present takes g =
    let p = record (k.place to.number) { status = status.Run; joined = false } in
    let woken = with_status k to.number status.Run in
    let awaited = (k.place to.number).serial in
    let waits = taker_waits (k.place to.number).status me zero takes in
    let theirs = open_of k to g.good (alive_from k to present).0 waits in
    let one = place-grown old 0 k to.number p refl refl (λ w. absurd (false≢true w)) g in
    let two = answered-grown old 0 woken to awaited (reply.Got me message) (open-place k to.number p to awaited refl refl theirs) (ap (λ q. is_waiting q.status) (upd_same k.place to.number p)) one in
    sent-grown old 1 (answered woken to awaited (reply.Got me message)) me serial after
    (open-answered woken to awaited (reply.Got me message) me serial (run_apart k me.number to.number c.run waits) (open-place k to.number p me serial refl refl c.called)) two

queued-grown : (old k : KernelState) (me : ThreadId) (serial : ℕ) (to : ThreadId) (message : Message) (joined : Bool) → IsCalling k me serial → IsGrown old 0 k → IsGrown old 0 (queued k me to message joined)
unfolding queued
queued-grown old k me serial to message joined c g =
    let p = record (k.place me.number) { status = status.Sending to; joined = joined } in
    let m = with_place k me.number p in
    let one = place-grown old 0 k me.number p refl refl (λ _. open_shown k me serial c.called) g in
    place-grown old 0 m to.number (record (m.place to.number) { waiting = (m.place to.number).waiting ++ (me, message) ∷ [] }) refl refl (λ w. waiting-open m to.number one.good w) one

send-grown : (old k : KernelState) (me : ThreadId) (serial : ℕ) (to : ThreadId) (message : Message) (zero joined : Bool) (after : Status) → IsCalling k me serial → IsGrown old 0 k → IsGrown old 2 (send k me serial to message zero joined after).0
unfolding send
send-grown old k me serial to message zero joined after c g =
    cond_both (same_id me to) _ _ (λ (r : KernelState × Outcome). IsGrown old 2 r.0) (λ _. refused-grown old k me serial _ c g)
    (λ _. cond_both (not (is_present k to)) _ _ (λ (r : KernelState × Outcome). IsGrown old 2 r.0) (λ _. refused-grown old k me serial _ c g)
    (λ here. cond_both (takes_from (k.place to.number).status me zero) _ _ (λ (r : KernelState × Outcome). IsGrown old 2 r.0) (λ takes. passed-grown old k me serial to message zero after c (not-false _ here) takes g)
    (λ _. cond_both zero _ _ (λ (r : KernelState × Outcome). IsGrown old 2 r.0) (λ _. refused-grown old k me serial _ c g)
    (λ _. more old (queued k me to message joined) 0 2 (omega arith) (queued-grown old k me serial to message joined c g)))))

taken-grown : (old k : KernelState) (me : ThreadId) (serial at : ℕ) → IsCalling k me serial → at < length (k.place me.number).waiting → IsSound k → IsGrown old 0 k → IsGrown old 2 (taken k me serial at)
unfolding taken
taken-grown old k me serial at c inside s g =
    let w = entry_at k me.number at in
    let p = record (k.place me.number) { waiting = remove (k.place me.number).waiting at } in
    let m = without k me.number at in
    let awaited = (k.place w.0.number).serial in
    let q = all_at (IsQueued k me.number) (k.place me.number).waiting at no_one (s.queued me.number) inside in
    let waits : is_waiting (k.place w.0.number).status ≡ true = ap is_waiting q.status in
    let theirs = open_of k w.0 g.good q.version waits in
    let one = place-grown old 0 k me.number p refl refl (λ v. waiting-open k me.number g.good v) g in
    let two = answered-grown old 0 m me serial (reply.Got w.0 w.1) (open-place k me.number p me serial refl refl c.called) (ap is_waiting (kept (λ r. r.status) k me.number p refl me.number ∙ c.run)) one in
    sent-grown old 1 (answered m me serial (reply.Got w.0 w.1)) w.0 awaited (status_after (k.place w.0.number).joined me)
    (open-answered m me serial (reply.Got w.0 w.1) w.0 awaited (λ e. run_apart k me.number w.0.number c.run waits (sym e)) (open-place k me.number p w.0 awaited refl refl theirs)) two

received-grown : (old k : KernelState) (me : ThreadId) (serial : ℕ) (from : Option ThreadId) (zero : Bool) (at : Option ℕ) → match_at k me from ≡ at → IsCalling k me serial → IsSound k → IsGrown old 0 k → IsGrown old 2 (received k me serial from zero at).0
unfolding received
received-grown old k me serial from zero (Some at) e c s g = taken-grown old k me serial at c (position-Some _ (k.place me.number).waiting at no_one e).0 s g
received-grown old k me serial from true None e c s g = refused-grown old k me serial _ c g
received-grown old k me serial from false None e c s g =
    more old (with_status k me.number (status.Receiving from)) 0 2 (omega arith)
    (place-grown old 0 k me.number (record (k.place me.number) { status = status.Receiving from; joined = false }) refl refl (λ _. open_shown k me serial c.called) g)

receive-grown : (old k : KernelState) (me : ThreadId) (serial : ℕ) (from : Option ThreadId) (zero : Bool) → IsCalling k me serial → IsSound k → IsGrown old 0 k → IsGrown old 2 (receive k me serial from zero).0
unfolding receive
receive-grown old k me serial from zero c s g =
    cond_both (is_own from me) _ _ (λ (r : KernelState × Outcome). IsGrown old 2 r.0) (λ _. refused-grown old k me serial _ c g) (λ _. received-grown old k me serial from zero (match_at k me from) refl c s g)

created-grown : (old k : KernelState) (me : ThreadId) (serial : ℕ) (at : Option ℕ) → lowest (λ n. is_free (k.place n)) k.size ≡ at → IsCalling k me serial → IsGrown old 0 k → IsGrown old 2 (created k me serial at).0
unfolding created
created-grown old k me serial (Some n) e c g =
    let p = record (k.place n) { version = (k.place n).version + 1; status = status.Run; joined = false; serial = 0 } in
    let dead = free_dead (k.place n) (lowest-Some (λ t. is_free (k.place t)) k.size n e).1 in
    let apart : me.number ≢ n = λ q. let no : status.Run ≡ status.Dead = sym c.run ∙ ap (λ (j : ℕ). (k.place j).status) q ∙ dead in cc in
    let same = upd_other k.place n p me.number apart in
    let renews = fresh-grown old k n p (inl (omega arith)) refl g in
    let calling : IsCalling (renewed k n) me serial = record {
      run = ap (λ q. q.status) same ∙ c.run;
      called = record { version = ap (λ q. q.version) same ∙ c.called.version; last = ap (λ q. q.serial) same ∙ c.called.last; first = c.called.first; unanswered = c.called.unanswered };
    } in
    refused-grown old (renewed k n) me serial _ calling renews
created-grown old k me serial None e c g = refused-grown old k me serial _ c g

killed-grown : (old k : KernelState) (victim : ThreadId) → IsGrown old 0 k → IsGrown old 0 (killed k victim)
unfolding killed
killed-grown old k victim g =
    let m = left_everywhere k victim in
    let left : IsGrown old 0 m = record {
      good = record {
        made = all_weaker (IsOfCall k) (IsOfCall m) (λ l c. record { first = c.first; called = c.called }) k.replies g.good.made;
        once = g.good.once;
        begun = g.good.begun;
        unanswered = g.good.unanswered;
      };
      lines = g.lines;
      replies = g.replies;
      last = all_of_none _ g.lines g.few;
      few = g.few;
    } in
    place-grown old 0 m victim.number (record (m.place victim.number) { status = status.Dead; joined = false; waiting = [] }) refl refl (λ w. absurd (false≢true w)) left

after_kill-grown : (old k : KernelState) (me : ThreadId) (serial : ℕ) (victim : ThreadId) (r : Reply) → IsCalling k me serial → IsGrown old 0 (killed k victim) → IsGrown old 1 (answered (killed k victim) me serial r)
unfolding killed
after_kill-grown old k me serial victim r c h =
    let m = left_everywhere k victim in
    let p = record (m.place victim.number) { status = status.Dead; joined = false; waiting = [] } in
    let opens : IsOpen m me serial = record { version = c.called.version; last = c.called.last; first = c.called.first; unanswered = c.called.unanswered } in
    answered-grown old 0 (killed k victim) me serial r (open-place m victim.number p me serial refl refl opens)
    (upd_cases (λ q. is_waiting q.status ≡ false) m.place victim.number p me.number (λ _. refl) (λ _. ap is_waiting c.run)) h

destroy-grown : (old k : KernelState) (me : ThreadId) (serial : ℕ) (victim : ThreadId) → IsCalling k me serial → IsGrown old 0 k → IsGrown old 2 (destroy k me serial victim).0
unfolding destroy
destroy-grown old k me serial victim c g =
    cond_both (same_id me victim) _ _ (λ (r : KernelState × Outcome). IsGrown old 2 r.0) (λ _. refused-grown old k me serial _ c g)
    (λ _. cond_both (not (is_present k victim)) _ _ (λ (r : KernelState × Outcome). IsGrown old 2 r.0) (λ _. refused-grown old k me serial _ c g)
    (λ _. more old (answered (killed k victim) me serial reply.Killed) 1 2 (omega arith) (after_kill-grown old k me serial victim reply.Killed c (killed-grown old k victim g))))

made-grown : (old k : KernelState) (me : ThreadId) (serial : ℕ) (p : Phase) → IsCalling k me serial → IsSound k → IsGrown old 0 k → IsGrown old 2 (made k me serial p).0
unfolding made create
made-grown old k me serial (phase.Send to message zero joined) c s g = send-grown old k me serial to message zero joined (status_after joined to) c g
made-grown old k me serial (phase.Reply to message zero) c s g = send-grown old k me serial to message zero false status.Picking c g
made-grown old k me serial (phase.Receive from zero) c s g = receive-grown old k me serial from zero c s g
made-grown old k me serial (phase.Create program priority) c s g = created-grown old k me serial (lowest (λ n. is_free (k.place n)) k.size) refl c g
made-grown old k me serial (phase.Destroy who) c s g = destroy-grown old k me serial who c g
made-grown old k me serial phase.End c s g =
    more old (with_status k me.number status.Ended) 0 2 (omega arith) (place-grown old 0 k me.number (record (k.place me.number) { status = status.Ended; joined = false }) refl refl (λ w. absurd (false≢true w)) g)

-- A call that wasn't made yet has no reply, and no call has serial 0.
unmade : (k : KernelState) (who : ThreadId) (serial : ℕ) → (k.place who.number).version ≡ who.version → (k.place who.number).serial < serial → (ls : List ReplyLine) → AllByRecursion (IsOfCall k) ls → AllByRecursion (λ l. is_reply_to who serial l ≡ false) ls
unmade k who serial version later [] h = tt
unmade k who serial version later (l ∷ ls) h = (go (eqb_tells l.id.number who.number), unmade k who serial version later ls h.1)
  where
    go : ((eqb l.id.number who.number ≡ true) × (l.id.number ≡ who.number)) ⊎ ((eqb l.id.number who.number ≡ false) × (l.id.number ≢ who.number)) → is_reply_to who serial l ≡ false
    go (inr other) = other_number who serial l other.1
    go (inl same) = elim h.0.called [
      | inl older ↦ other_version who serial l (λ e. let v = ap (λ (j : ℕ). (k.place j).version) same.1 in omega (arith, older, v, version, e))
      | inr known ↦ other_serial who serial l (λ e. let v = ap (λ (j : ℕ). (k.place j).serial) same.1 in omega (arith, known.1, v, later, e))
    ]

pub unanswered_next : (k : KernelState) (who : ThreadId) (serial : ℕ) (p : Phase) → IsAnswered k → may_act k who serial (act.Call p) ≡ true → reply_to k.replies who serial ≡ None
unanswered_next k who serial p a may =
    let count : serial ≡ (k.place who.number).serial + 1 = eqb-true serial ((k.place who.number).serial + 1) (and_parts _ _ may).1 in
    all_none who serial k.replies (unmade k who serial (acts_alive k who serial (act.Call p) may).0 (omega (arith, count)) k.replies a.made)

pub unanswered_zero : (k : KernelState) (id : ThreadId) → IsAnswered k → reply_to k.replies id 0 ≡ None
unanswered_zero k id a = all_none id 0 k.replies (all_weaker (IsOfCall k) (λ l. is_reply_to id 0 l ≡ false) (λ l c. other_serial id 0 l (λ e. omega (arith, c.first, e))) k.replies a.made)

-- THE LAWS

acted-grown : (k : KernelState) (who : ThreadId) (serial : ℕ) (a : Act) → may_act k who serial a ≡ true → IsSound k → IsAnswered k → IsGrown k 2 (acted k who serial a).0
unfolding acted
acted-grown k who serial (act.Call ph) may s a =
    let n = who.number in
    let p = record (k.place n) { serial = serial } in
    let run = run_from (k.place n).status (and_parts _ _ (and_parts _ _ may).0).1 in
    let count : serial ≡ (k.place n).serial + 1 = eqb-true serial ((k.place n).serial + 1) (and_parts _ _ may).1 in
    let calling : IsCalling (called k who serial) who serial = record {
      run = ap (λ q. q.status) (upd_same k.place n p) ∙ run;
      called = record {
        version = ap (λ q. q.version) (upd_same k.place n p) ∙ (acts_alive k who serial (act.Call ph) may).0;
        last = ap (λ q. q.serial) (upd_same k.place n p);
        first = omega (arith, count);
        unanswered = unanswered_next k who serial ph a may;
      };
    } in
    made-grown k (called k who serial) who serial ph calling (called-sound k who serial s)
    (fresh-grown k k n p (inr (refl, omega (arith, count))) (ap is_waiting run) (start k a))
acted-grown k who serial act.Gone may s a =
    let n = who.number in
    let p = record (k.place n) { status = status.Run; joined = false } in
    let waits = absent_waits k (k.place n).status (and_parts _ _ (and_parts _ _ may).0).1 in
    let last : serial ≡ (k.place n).serial = eqb-true serial (k.place n).serial (and_parts _ _ may).1 in
    let opens : IsOpen k who serial = subst (λ (j : ℕ). IsOpen k who j) (sym last) (open_of k who a (acts_alive k who serial act.Gone may).0 waits) in
    let calling : IsCalling (with_status k n status.Run) who serial = record { run = ap (λ q. q.status) (upd_same k.place n p); called = open-place k n p who serial refl refl opens } in
    refused-grown k (with_status k n status.Run) who serial reply.Gone calling (place-grown k 0 k n p refl refl (λ w. absurd (false≢true w)) (start k a))
acted-grown k who serial act.Pick may s a =
    let n = who.number in
    let p = record (k.place n) { status = status.Run; joined = false } in
    let picks : is_waiting (k.place n).status ≡ true = ap is_waiting (picking_from (k.place n).status (and_parts _ _ (and_parts _ _ may).0).1) in
    let last : serial ≡ (k.place n).serial = eqb-true serial (k.place n).serial (and_parts _ _ may).1 in
    let alive = acts_alive k who serial act.Pick may in
    let opens : IsOpen k who serial = subst (λ (j : ℕ). IsOpen k who j) (sym last) (open_of k who a alive.0 picks) in
    let calling : IsCalling (with_status k n status.Run) who serial = record { run = ap (λ q. q.status) (upd_same k.place n p); called = open-place k n p who serial refl refl opens } in
    receive-grown k (with_status k n status.Run) who serial None false calling
    (with_status-sound k n status.Run (λ e. cc) alive.1 (acts_free k who serial act.Pick may s) s)
    (place-grown k 0 k n p refl refl (λ w. absurd (false≢true w)) (start k a))

pub opened-answered : (vs : List ℕ) (n : ℕ) → IsAnswered (opened vs n)
unfolding IsDistinct
opened-answered vs n = record {
  made = tt;
  once = tt;
  begun = λ t w. absurd (false≢true (sym (rests t) ∙ w));
  unanswered = λ t w. refl;
}
  where
    rests : (t : ℕ) → is_waiting (opening_place vs n t).status ≡ false
    rests t =
        cond_both (not (nat_lt t (length vs))) _ _ (λ (p : Place). is_waiting p.status ≡ false) (λ _. refl)
        (λ _. cond_both (nat_lt t n) _ _ (λ (p : Place). is_waiting p.status ≡ false) (λ _. refl) (λ _. refl))

pub acted-answered : (k : KernelState) (who : ThreadId) (serial : ℕ) (a : Act) → may_act k who serial a ≡ true → IsSound k → IsAnswered k → IsAnswered (acted k who serial a).0
acted-answered k who serial a may s h = (acted-grown k who serial a may s h).good

numbers_apart : (k : KernelState) (ls : List ReplyLine) → IsDistinct same_call ls → AllByRecursion (λ l. IsLastCall k l.id l.serial) ls → IsDistinct eqb (map (λ l. l.id.number) ls)
unfolding IsDistinct
numbers_apart k [] d h = tt
numbers_apart k (l ∷ ls) d h =
    IsDistinct-cons eqb l.id.number (map (λ x. x.id.number) ls) (each ls (IsDistinct-head same_call l ls d) h.1) (numbers_apart k ls (IsDistinct-tail same_call l ls d) h.1)
  where
    apart_from : (m : ReplyLine) → same_call l m ≡ false → IsLastCall k m.id m.serial → eqb l.id.number m.id.number ≡ false
    apart_from m differ last = elim (eqb_tells l.id.number m.id.number) [
      | inr other ↦ other.0
      | inl same ↦
          let version : l.id.version ≡ m.id.version = sym h.0.version ∙ ap (λ (j : ℕ). (k.place j).version) same.1 ∙ last.version in
          let serial : l.serial ≡ m.serial = sym h.0.serial_is ∙ ap (λ (j : ℕ). (k.place j).serial) same.1 ∙ last.serial_is in
          let yes : same_call l m ≡ true = rw (eq-eqb l.id.number m.id.number same.1) (rw (eq-eqb l.id.version m.id.version version) (rw (eq-eqb l.serial m.serial serial) refl)) in
          absurd (false≢true (sym differ ∙ yes))
    ]

    each : (ms : List ReplyLine) → AllByRecursion (λ m. same_call l m ≡ false) ms → AllByRecursion (λ m. IsLastCall k m.id m.serial) ms → AllByRecursion (λ n. eqb l.id.number n ≡ false) (map (λ x. x.id.number) ms)
    each [] d h = tt
    each (m ∷ ms) d h = (apart_from m d.0 h.0, each ms d.1 h.1)

pub acted-adds : (k : KernelState) (who : ThreadId) (serial : ℕ) (a : Act) → may_act k who serial a ≡ true → IsSound k → IsAnswered k → (lines : List ReplyLine) × AddsReplies k (acted k who serial a).0 lines
acted-adds k who serial a may s h =
    let g = acted-grown k who serial a may s h in
    let once : IsDistinct same_call (k.replies ++ g.lines) = subst (λ (ls : List ReplyLine). IsDistinct same_call ls) g.replies g.good.once in (
      g.lines,
      record {
        replies = g.replies;
        last = g.last;
        first = all_weaker (λ m. AllByRecursion (λ l. same_call l m ≡ false) k.replies) (λ m. reply_to k.replies m.id m.serial ≡ None) (λ m f. all_none m.id m.serial k.replies f) g.lines (across k.replies g.lines once);
        apart = numbers_apart (acted k who serial a).0 g.lines (once_right k.replies g.lines once) g.last;
        few = g.few;
      },
    )

-- The replies to earlier calls, and those that there are, never change.
earlier_apart : (k : KernelState) (id : ThreadId) (serial : ℕ) (l : ReplyLine) → IsEarlierCall k id serial → IsLastCall k l.id l.serial → is_reply_to id serial l ≡ false
earlier_apart k id serial l early last = elim (eqb_tells l.id.number id.number) [
  | inr other ↦ other_number id serial l other.1
  | inl same ↦ elim early [
    | inl older ↦ other_version id serial l (λ e. let v = ap (λ (j : ℕ). (k.place j).version) same.1 in omega (arith, older, v, last.version, e))
    | inr past ↦ other_serial id serial l (λ e. let v = ap (λ (j : ℕ). (k.place j).serial) same.1 in omega (arith, past.1, v, last.serial_is, e))
  ]
]

pub acted-keeps_earlier : (k : KernelState) (who : ThreadId) (serial : ℕ) (a : Act) → may_act k who serial a ≡ true → IsSound k → IsAnswered k → (id : ThreadId) (s : ℕ) → IsEarlierCall (acted k who serial a).0 id s → reply_to (acted k who serial a).0.replies id s ≡ reply_to k.replies id s
acted-keeps_earlier k who serial a may s h id i early =
    let g = acted-grown k who serial a may s h in
    ap (λ (ls : List ReplyLine). reply_to ls id i) g.replies
    ∙ others_keep id i k.replies g.lines (all_weaker (λ l. IsLastCall (acted k who serial a).0 l.id l.serial) (λ l. is_reply_to id i l ≡ false) (λ l. earlier_apart (acted k who serial a).0 id i l early) g.lines g.last)

pub acted-keeps_replies : (k : KernelState) (who : ThreadId) (serial : ℕ) (a : Act) → may_act k who serial a ≡ true → IsSound k → IsAnswered k → (id : ThreadId) (s : ℕ) (r : Reply) → reply_to k.replies id s ≡ Some r → reply_to (acted k who serial a).0.replies id s ≡ Some r
acted-keeps_replies k who serial a may s h id i r e =
    let g = acted-grown k who serial a may s h in
    ap (λ (ls : List ReplyLine). reply_to ls id i) g.replies ∙ some_stays id i r k.replies g.lines e

-- Who is freed learns it.
pub freed_told : (k : KernelState) (who : ThreadId) (serial : ℕ) → may_act k who serial act.Gone ≡ true → IsSound k → IsAnswered k → reply_to (acted k who serial act.Gone).0.replies who serial ≡ Some reply.Gone
unfolding acted
freed_told k who serial may s a =
    let waits = absent_waits k (k.place who.number).status (and_parts _ _ (and_parts _ _ may).0).1 in
    let last : serial ≡ (k.place who.number).serial = eqb-true serial (k.place who.number).serial (and_parts _ _ may).1 in
    let none : reply_to k.replies who serial ≡ None = subst (λ (j : ℕ). reply_to k.replies who j ≡ None) (sym last) (open_of k who a (acts_alive k who serial act.Gone may).0 waits).unanswered in
    let line : ReplyLine = record { id = who; serial = serial; reply = reply.Gone } in
    let mine : is_reply_to who serial line ≡ true = rw (eq-eqb who.number who.number refl) (rw (eq-eqb who.version who.version refl) (eq-eqb serial serial refl)) in
    reply_push who serial k.replies line ∙ rw none (rw mine refl)
