-- What a row needs of a memory: who may act, and one word that changes.
use Rattle.std.proofs.Common.{◌≡◌, ℕ, Bool, true, false, not, ◌&&◌, eqb, [], ◌∷◌, ◌++◌, refl, sym, ap, ◌∙◌, Some, None, Ok, List}
use Rattle.std.specs.Prelude.{if◌then◌else◌}
use Rattle.std.proofs.lemmas.Bool.{eq-eqb, cond_both}
use Rattle.std.proofs.lemmas.List.{append-nil}
use Rattle.k_ids.specs.declared.threads.ThreadId.{ThreadId}
use Rattle.k_ids.specs.declared.threads.Status.{Status}
use Rattle.k_ids.specs.declared.threads.Status.TheVariants as status
use Rattle.k_ids.specs.declared.calls.Phase.{Phase}
use Rattle.k_ids.specs.declared.calls.Outcome.{Outcome}
use Rattle.k_ids.specs.declared.histories.Event.{Event}
use Rattle.k_ids.specs.declared.histories.ReplyLine.{ReplyLine}
use Rattle.k_ids.specs.declared.calls.Reply.{Reply}
use Rattle.k_ids.specs.declared.calls.Reply.TheVariants as reply
use Rattle.k_ids.specs.declared.state_word.State.{State}
use Rattle.k_ids.specs.declared.state_word.State.TheVariants as state
use Rattle.k_ids.specs.declared.state_word.StateWord.{StateWord}
use Rattle.k_locks.specs.Shown.{shows, found_in, is_dead_state, is_present_in}
use Rattle.k_model.specs.State.{KernelState, answered, found_of, is_dead, is_present, is_run, waits_for_absent, with_status}
use Rattle.k_model.specs.Step.{step, is_enabled, outcome_of, sent}
use Rattle.k_shown.specs.Memory.{Memory, Shows, joined_of, table, waiting, with_word}
use Rattle.k_shown.specs.Sound.{IsCaller, IsPicker}
use Rattle.k_shown.specs.Rows.{Alike, Answers, Gives, IsIn, IsWordOf, call_of, called_by, next_serial, sent_line, told}
use Rattle.k_shown.proofs.Shown.{shows_answered, shows_called, shows_status}

pub shows_alike : (m m' : Memory) (k : KernelState) → Shows m k → Alike m m' → Shows m' k
shows_alike m m' k h a = record {
  size = h.size ∙ sym a.size;
  version = λ n. h.version n ∙ sym (a.version n);
  status = λ n. h.status n ∙ sym (a.status n);
  joined = λ n. h.joined n ∙ sym (a.joined n);
  waiting = λ n. h.waiting n ∙ sym (a.waiting n);
}

-- what gives to one gives to the other
pub alike_from : (m m' : Memory) → m'.size ≡ m.size → ((n : ℕ) → m'.word n ≡ m.word n) → ((n : ℕ) → m'.queue n ≡ m.queue n) → Alike m m'
alike_from m m' s w q = record {
  size = s;
  version = λ n. ap (λ (x : StateWord). x.version) (w n);
  status = λ n. ap (λ (x : StateWord). shows x.state) (w n);
  joined = λ n. ap (λ (x : StateWord). joined_of x.state) (w n);
  waiting = λ n. ap (λ q. waiting q) (q n);
}

-- a caller runs, and one who picks is picking
pub caller_in : (m : Memory) (me : ThreadId) (own : StateWord) → IsCaller m me own → IsIn m me status.Run
caller_in m me own c = record {
  version = ap (λ (w : StateWord). w.version) c.word ∙ c.version;
  status = ap (λ (w : StateWord). shows w.state) c.word ∙ ap shows c.runs;
}

pub picker_in : (m : Memory) (me : ThreadId) (own : StateWord) → IsPicker m me own → IsIn m me status.Picking
picker_in m me own c = record {
  version = ap (λ (w : StateWord). w.version) c.word ∙ c.version;
  status = ap (λ (w : StateWord). shows w.state) c.word ∙ ap shows c.picks;
}

pub dead_same : (s : State) → is_dead_state s ≡ is_dead (shows s)
dead_same state.Dead = refl
dead_same (state.Run r) = refl
dead_same (state.Sending to joined) = refl
dead_same (state.Receiving from) = refl
dead_same state.Picking = refl
dead_same state.Ended = refl

-- presence, as a word shows it
pub present_same : (m : Memory) (id : ThreadId) → is_present_in (m.word id.number) id ≡ is_present (table m) id
present_same m id = ap (λ (b : Bool). eqb (m.word id.number).version id.version && not b) (dead_same (m.word id.number).state)

module _ (m : Memory) (k : KernelState) (h : Shows m k) where
  pub there_is : (id : ThreadId) → is_present k id ≡ is_present_in (m.word id.number) id
  there_is id = (λ d. (eqb (h.version id.number d) id.version) && not (is_dead (h.status id.number d))) ∙ sym (present_same m id)

  pub found_is : (n : ℕ) → found_of k n ≡ found_in n (m.word n)
  found_is n = λ d. record { id = record { number = n; version = h.version n d }; status = h.status n d }

  -- a thread in this status
  module _ (id : ThreadId) (s : Status) (is : IsIn m id s) where
    pub status_is : (k.place id.number).status ≡ s
    status_is = h.status id.number ∙ is.status

    pub version_is : (k.place id.number).version ≡ id.version
    version_is = h.version id.number ∙ is.version

    pub present_in : is_dead s ≡ false → is_present k id ≡ true
    present_in alive = rw (version_is, status_is, alive, eq-eqb id.version id.version refl) refl

    -- it takes a status other than sending
    pub shows_turned : (t : Status) (w : StateWord) → IsWordOf id t false w → Shows (with_word m id.number w) (with_status k id.number t)
    shows_turned t w i = shows_status m k id.number w t (i.version ∙ sym is.version) i.status i.joined h

  pub waits_is : (s : Status) → waits_for_absent k s ≡ waits_for_absent (table m) s
  waits_is status.Dead = refl
  waits_is status.Run = refl
  waits_is (status.Sending to) = ap not (there_is to ∙ present_same m to)
  waits_is (status.Receiving None) = refl
  waits_is (status.Receiving (Some from)) = ap not (there_is from ∙ present_same m from)
  waits_is status.Picking = refl
  waits_is status.Ended = refl

  -- who runs may make its next call
  pub may_call : (me : ThreadId) (p : Phase) → IsIn m me status.Run → is_enabled k (call_of k me p) ≡ true
  may_call me p is = rw (version_is me status.Run is, status_is me status.Run is, eq-eqb me.version me.version refl, eq-eqb (next_serial k me) (next_serial k me) refl) refl

  -- a call with a reply that changes no thread
  pub answers : (m' : Memory) (me : ThreadId) (p : Phase) (o : Outcome) (r : Reply) → IsIn m me status.Run → Alike m m' → outcome_of k (call_of k me p) ≡ (answered (called_by k me) me (next_serial k me) r, o) → Answers k me p o r m'
  answers m' me p o r is a row = record {
    enabled = may_call me p is;
    makes = row;
    replies = refl;
    shows = shows_alike m m' _ (shows_answered m (called_by k me) me (next_serial k me) r (shows_called m k me (next_serial k me) h)) a;
  }

-- So the event is a step of the specification.
pub gives_step : (k : KernelState) (event : Event) (o : Outcome) (k' : KernelState) (lines : List ReplyLine) (m' : Memory) → Gives k event o k' lines m' → step k event ≡ Ok (k', o)
unfolding step
gives_step k event o k' lines m' g = rw (g.enabled) (ap (λ (r : KernelState × Outcome). Ok r) g.makes)

-- A SENDER WHOSE MESSAGE HAS PASSED

pub shows_sent : (m : Memory) (k : KernelState) (who : ThreadId) (serial : ℕ) (after : Status) (w : StateWord) → w.version ≡ (m.word who.number).version → shows w.state ≡ after → joined_of w.state ≡ false → Shows m k → Shows (with_word m who.number w) (sent k who serial after)
shows_sent m k who serial after w v s j h =
    let moved = shows_status m k who.number w after v s j h in
    cond_both (is_run after) _ _ (Shows (with_word m who.number w)) (λ _. shows_answered _ _ who serial reply.Sent moved) (λ _. moved)

pub sent_replies : (k : KernelState) (who : ThreadId) (serial : ℕ) (after : Status) → (sent k who serial after).replies ≡ k.replies ++ sent_line who serial after
sent_replies k who serial after = go (is_run after)
  where
    go : (b : Bool) → (if b then answered (with_status k who.number after) who serial reply.Sent else with_status k who.number after).replies ≡ k.replies ++ (if b then told who serial reply.Sent ∷ [] else [])
    go true = refl
    go false = sym (append-nil k.replies)
