-- The messages of a state stay two words of 32 bits, where an event sends such.
use Rattle.std.proofs.Common.{◌≡◌, ℕ, ◌+◌, ◌<◌, Bool, true, false, not, List, [], ◌∷◌, ◌++◌}
use Rattle.std.proofs.Common.{length, refl, remove, subst, Option, Some, None, Ok, inl, inr}
use Rattle.std.specs.Prelude.{nat_lt}
use Rattle.std.specs.List.{AllByRecursion}
use Rattle.std.proofs.lemmas.Bool.{cases_Bool, cond_both}
use Rattle.std.proofs.lemmas.List.Quantifiers.{position-Some}
use Rattle.k_lists.proofs.All.{all_at, all_filter, all_push, all_remove}
use Rattle.k_ids.specs.declared.threads.ThreadId.{ThreadId}
use Rattle.k_ids.specs.declared.threads.Message.{Message}
use Rattle.k_ids.specs.declared.threads.Status.{Status}
use Rattle.k_ids.specs.declared.threads.Status.TheVariants as status
use Rattle.k_ids.specs.declared.calls.Act.{Act}
use Rattle.k_ids.specs.declared.calls.Act.TheVariants as act
use Rattle.k_ids.specs.declared.calls.Outcome.{Outcome}
use Rattle.k_ids.specs.declared.calls.Phase.{Phase}
use Rattle.k_ids.specs.declared.calls.Phase.TheVariants as phase
use Rattle.k_ids.specs.declared.calls.Reply.{Reply}
use Rattle.k_ids.specs.declared.calls.Reply.TheVariants as reply
use Rattle.k_ids.specs.declared.histories.Event.{Event}
use Rattle.k_ids.specs.declared.histories.ReplyLine.{ReplyLine}
use Rattle.k_model.proofs.Maps.{upd_cases}
use Rattle.k_model.specs.Answered.{is_reply_to, reply_to}
use Rattle.k_model.specs.History.{opened}
use Rattle.k_model.specs.Maps.{lowest}
use Rattle.k_model.specs.State.{KernelState, Place, Waiting, answered, id_of, is_present}
use Rattle.k_model.specs.State.{is_run, same_id, takes_from, with_place, with_status}
use Rattle.k_model.specs.Step.{acted, called, create, created, destroy, entry_at, is_free, is_own}
use Rattle.k_model.specs.Step.{killed, left_everywhere, made, match_at, no_one, passed, queued, receive}
use Rattle.k_model.specs.Step.{received, renewed, send, sent, status_after, step, taken, without}
use Rattle.k_positions.proofs.Histories.{step_gives}
use Rattle.k_plays.specs.Messages.{ActSendsWords, HasWords, SendsWords, StateHasWords, TellsWords, ToldWords}

abbrev AllWords : List Waiting → Type 0
AllWords ws = AllByRecursion (λ w. HasWords w.1) ws

-- CHANGES of a state

place_words : (k : KernelState) (n : ℕ) (p : Place) → AllWords p.waiting → StateHasWords k → StateHasWords (with_place k n p)
place_words k n p ws h = record {
  waiting = λ t. upd_cases (λ (q : Place). AllWords q.waiting) k.place n p t (λ _. ws) (λ _. h.waiting t);
  told = h.told;
}

status_words : (k : KernelState) (n : ℕ) (s : Status) → StateHasWords k → StateHasWords (with_status k n s)
status_words k n s h = place_words k n (record (k.place n) { status = s; joined = false }) (h.waiting n) h

answered_words : (k : KernelState) (who : ThreadId) (serial : ℕ) (r : Reply) → TellsWords r → StateHasWords k →
    StateHasWords (answered k who serial r)
answered_words k who serial r t h = record {
  waiting = h.waiting;
  told = all_push (λ (l : ReplyLine). TellsWords l.reply) k.replies (record { id = who; serial = serial; reply = r }) h.told t;
}

sent_words : (k : KernelState) (who : ThreadId) (serial : ℕ) (after : Status) → StateHasWords k →
    StateHasWords (sent k who serial after)
sent_words k who serial after h =
    let moved = status_words k who.number after h in
    cond_both (is_run after) _ _ StateHasWords (λ _. answered_words
    (with_status k who.number after) who serial reply.Sent tt moved) (λ _. moved)

-- ONE CALL AFTER ANOTHER

module _ (k : KernelState) (me : ThreadId) (serial : ℕ) (h : StateHasWords k) where
  abbrev Words : KernelState × Outcome → Type 0
  Words x = StateHasWords x.0

  passed_words : (to : ThreadId) (message : Message) (after : Status) → HasWords message →
      StateHasWords (passed k me serial to message after)
  unfolding passed
  passed_words to message after m =
      let woken = with_status k to.number status.Run in
      let awaited = (k.place to.number).serial in
      sent_words (answered woken to awaited (reply.Got me message)) me serial after
      (answered_words woken to awaited (reply.Got me message) m (status_words k to.number status.Run h))

  queued_words : (to : ThreadId) (message : Message) (joined : Bool) → HasWords message →
      StateHasWords (queued k me to message joined)
  unfolding queued
  queued_words to message joined m =
      let s = with_place k me.number (record (k.place me.number) { status = status.Sending to; joined = joined }) in
      let sending = place_words k me.number (record (k.place me.number) { status = status.Sending to; joined = joined })
      (h.waiting me.number) h in
      let p = record (s.place to.number) { waiting = (s.place to.number).waiting ++ (me, message) ∷ [] } in
      place_words s to.number p (all_push (λ (w : Waiting). HasWords w.1) (s.place to.number).waiting (me, message)
      (sending.waiting to.number) m) sending

  send_words : (to : ThreadId) (message : Message) (zero joined : Bool) (after : Status) → HasWords message →
      Words (send k me serial to message zero joined after)
  unfolding send
  send_words to message zero joined after m =
      cond_both (same_id me to) _ _ Words (λ _. answered_words k me serial reply.Own tt h)
      (λ _. cond_both (not (is_present k to)) _ _ Words (λ _. answered_words k me serial (reply.Absent _) tt h)
      (λ _. cond_both (takes_from (k.place to.number).status me zero) _ _ Words (λ _. passed_words to message after m)
      (λ _. cond_both zero _ _ Words (λ _. answered_words k me serial (reply.Busy _) tt h)
      (λ _. queued_words to message joined m))))

  taken_words : (at : ℕ) → at < length (k.place me.number).waiting → StateHasWords (taken k me serial at)
  unfolding taken
  taken_words at inside =
      let w = entry_at k me.number at in
      let m = without k me.number at in
      let p = record (k.place me.number) { waiting = remove (k.place me.number).waiting at } in
      let left = place_words k me.number p (all_remove (λ (v : Waiting). HasWords v.1) (k.place me.number).waiting at
      (h.waiting me.number)) h in
      let words : HasWords w.1 = all_at (λ (v : Waiting). HasWords v.1) (k.place me.number).waiting at no_one
      (h.waiting me.number) inside in
      sent_words (answered m me serial (reply.Got w.0 w.1)) w.0 (k.place w.0.number).serial
      (status_after (k.place w.0.number).joined me)
      (answered_words m me serial (reply.Got w.0 w.1) words left)

  received_words : (from : Option ThreadId) (zero : Bool) (at : Option ℕ) → match_at k me from ≡ at →
      Words (received k me serial from zero at)
  unfolding received
  received_words from zero (Some at) e = taken_words at (position-Some _ (k.place me.number).waiting at no_one e).0
  received_words from true None e = answered_words k me serial reply.Nobody tt h
  received_words from false None e = status_words k me.number (status.Receiving from) h

  receive_words : (from : Option ThreadId) (zero : Bool) → Words (receive k me serial from zero)
  unfolding receive
  receive_words from zero =
      cond_both (is_own from me) _ _ Words (λ _. answered_words k me serial reply.Own tt h)
      (λ _. received_words from zero (match_at k me from) refl)

  created_words : (at : Option ℕ) → Words (created k me serial at)
  unfolding created
  created_words (Some n) =
      let p = record (k.place n) { version = (k.place n).version + 1; status = status.Run; joined = false; serial = 0 } in
      answered_words (renewed k n) me serial (reply.Made (id_of (renewed k n) n)) tt (place_words k n p (h.waiting n) h)
  created_words None = answered_words k me serial (reply.Full _ _) tt h

  killed_words : (victim : ThreadId) → StateHasWords (killed k victim)
  unfolding killed
  killed_words victim =
      let m = left_everywhere k victim in
      let left : StateHasWords m = record {
        waiting =
            λ t. all_filter (λ (w : Waiting). HasWords w.1) (λ w. not (same_id w.0 victim)) (k.place t).waiting (h.waiting t);
        told = h.told;
      } in
      place_words m victim.number (record (m.place victim.number) { status = status.Dead; joined = false; waiting = [] }) tt left

  destroy_words : (victim : ThreadId) → Words (destroy k me serial victim)
  unfolding destroy
  destroy_words victim =
      cond_both (same_id me victim) _ _ Words (λ _. answered_words k me serial reply.Own tt h)
      (λ _. cond_both (not (is_present k victim)) _ _ Words (λ _. answered_words k me serial (reply.Absent _) tt h)
      (λ _. answered_words (killed k victim) me serial reply.Killed tt (killed_words victim)))

  made_words : (f : Phase) → SendsWords f → Words (made k me serial f)
  unfolding made create
  made_words (phase.Send to message zero joined) m = send_words to message zero joined (status_after joined to) m
  made_words (phase.Reply to message zero) m = send_words to message zero false status.Picking m
  made_words (phase.Receive from zero) m = receive_words from zero
  made_words (phase.Create program priority) m = created_words (lowest (λ n. is_free (k.place n)) k.size)
  made_words (phase.Destroy who) m = destroy_words who
  made_words phase.End m = status_words k me.number status.Ended h

-- EACH EVENT

acted_words : (k : KernelState) (who : ThreadId) (serial : ℕ) (a : Act) → ActSendsWords a → StateHasWords k →
    StateHasWords (acted k who serial a).0
unfolding acted
acted_words k who serial (act.Call f) m h =
    made_words (called k who serial) who serial (place_words k who.number (record (k.place who.number) { serial = serial })
    (h.waiting who.number) h) f m
acted_words k who serial act.Gone m h =
    answered_words (with_status k who.number status.Run) who serial reply.Gone tt (status_words k who.number status.Run h)
acted_words k who serial act.Pick m h =
    receive_words (with_status k who.number status.Run) who serial (status_words k who.number status.Run h) None false

pub step_words : (k new : KernelState) (e : Event) (o : Outcome) → ActSendsWords e.act → StateHasWords k →
    step k e ≡ Ok (new, o) → StateHasWords new
step_words k new e o m h made =
    subst (λ (x : KernelState × Outcome). StateHasWords x.0) (step_gives k new e o made).1
    (acted_words k e.who e.serial e.act m h)

-- AT FIRST nobody waits, and nothing was told.
pub opened_words : (versions : List ℕ) (threads : ℕ) → StateHasWords (opened versions threads)
opened_words versions threads = record {
  waiting = λ t. cond_both (not (nat_lt t (length versions))) _ _ (λ (p : Place). AllWords p.waiting) (λ _. tt)
      (λ _. cond_both (nat_lt t threads) _ _ (λ (p : Place). AllWords p.waiting) (λ _. tt) (λ _. tt));
  told = tt;
}

-- EACH REPLY that is found

found_words : (lines : List ReplyLine) (id : ThreadId) (serial : ℕ) (r : Reply) →
    AllByRecursion (λ (l : ReplyLine). TellsWords l.reply) lines → reply_to lines id serial ≡ Some r → TellsWords r
found_words [] id serial r all e = let no : None ≡ Some r = e in absurd cc
found_words (line ∷ lines) id serial r all e = elim (cases_Bool (is_reply_to id serial line)) [
  | inl t ↦ let same : Some line.reply ≡ Some r = rw t at e in let is : line.reply ≡ r = cc in subst TellsWords is all.0
  | inr f ↦ found_words lines id serial r all.1 (rw f at e)
]

pub told_words : (k : KernelState) (id : ThreadId) (serial : ℕ) → StateHasWords k → ToldWords (reply_to k.replies id serial)
told_words k id serial h = go (reply_to k.replies id serial) refl
  where
    go : (o : Option Reply) → reply_to k.replies id serial ≡ o → ToldWords o
    go None e = tt
    go (Some r) e = found_words k.replies id serial r h.told e
