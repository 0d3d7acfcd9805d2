-- What a point makes of ledgers leaves words and mails, and its serial is that of the entry.
use Rattle.std.proofs.Common.{◌≡◌, ℕ, ◌+◌, Bool, true, false, refl, sym, ap, ◌∙◌, subst, Option, Some, None, inl, inr}
use Rattle.std.specs.Prelude.{if◌then◌else◌}
use Rattle.std.proofs.lemmas.Bool.Decides.{eqb_tells}
use Rattle.k_ids.specs.declared.calls.Act.{Act}
use Rattle.k_ids.specs.declared.calls.Act.TheVariants as act
use Rattle.k_ids.specs.declared.calls.Outcome.{Outcome}
use Rattle.k_ids.specs.declared.calls.Outcome.TheVariants as outcome
use Rattle.k_ids.specs.declared.calls.Phase.{Phase}
use Rattle.k_ids.specs.declared.calls.Phase.TheVariants as phase
use Rattle.k_ids.specs.declared.calls.Reply.{Reply}
use Rattle.k_ids.specs.declared.calls.Reply.TheVariants as reply
use Rattle.k_ids.specs.declared.threads.ThreadId.{ThreadId}
use Rattle.k_locks.specs.declared.points.Point.{Point}
use Rattle.k_locks.specs.Points.{serial_for}
use Rattle.k_model.specs.Maps.{upd}
use Rattle.k_model.proofs.Maps.{upd_same, upd_other, upd_cases}
use Rattle.k_script.specs.Plays.{Position}
use Rattle.k_ipc.specs.Words.{is_joined_to}
use Rattle.k_board.specs.Words.{Seen, Programs, act_noted, call_noted, calls, noted, opens}
use Rattle.k_board.specs.Words.{passes_to, pick_noted, sent_reply, tells, tells_sent}
use Rattle.k_places.specs.Memory.{new_serial, serials_with}
use Rattle.k_places.specs.Answers.{entry_in}
use Rattle.k_places.specs.Shows.{ShowsSeen}
use Rattle.k_places.proofs.Goes.{FitsOutcome, FitsPoint}
use Rattle.k_places.proofs.Words.{upd_own}

-- WORDS AND MAILS

-- the same word and the same mail at each number
pub record AreAlike (s s' : ℕ → Seen) : Type 0 where
  pub word : (n : ℕ) → (s' n).word ≡ (s n).word
  pub mail : (n : ℕ) → (s' n).mail ≡ (s n).mail

alike_then : {s t u : ℕ → Seen} → AreAlike s t → AreAlike t u → AreAlike s u
alike_then a c = record { word = λ n. c.word n ∙ a.word n; mail = λ n. c.mail n ∙ a.mail n }

alike_self : {s : ℕ → Seen} → AreAlike s s
alike_self = record { word = λ n. refl; mail = λ n. refl }

alike_upd : (s : ℕ → Seen) (k : ℕ) (v : Seen) → v.word ≡ (s k).word → v.mail ≡ (s k).mail → AreAlike s (upd s k v)
alike_upd s k v w m = record {
  word = λ n. upd_cases (λ (u : Seen). u.word ≡ (s n).word) s k v n (λ e. w ∙ ap (λ t. (s t).word) (sym e)) (λ ne. refl);
  mail = λ n. upd_cases (λ (u : Seen). u.mail ≡ (s n).mail) s k v n (λ e. m ∙ ap (λ t. (s t).mail) (sym e)) (λ ne. refl);
}

alike_tells : (s : ℕ → Seen) (id : ThreadId) (r : Reply) → AreAlike s (tells s id r)
alike_tells s id r = alike_upd s id.number _ refl refl

alike_calls : (s : ℕ → Seen) (me : ThreadId) (p : Position) (r : Option Reply) → AreAlike s (calls s me p r)
alike_calls s me p r = alike_upd s me.number _ refl refl

alike_sent : (s : ℕ → Seen) (id : ThreadId) → AreAlike s (tells_sent s id)
alike_sent s id = by (is_joined_to (s id.number).word.state)
  where
    by : (t : Bool) → AreAlike s (if t then s else tells s id reply.Sent)
    by true = alike_self
    by false = alike_tells s id reply.Sent

alike_passes : (s : ℕ → Seen) (me : ThreadId) (f : Phase) → AreAlike s (passes_to s me f)
alike_passes s me (phase.Send to message zero joined) = alike_tells s to _
alike_passes s me (phase.Reply to message zero) = alike_tells s to _
alike_passes s me (phase.Receive from zero) = alike_self
alike_passes s me (phase.Create program priority) = alike_self
alike_passes s me (phase.Destroy who) = alike_self
alike_passes s me phase.End = alike_self

alike_opens : (g : Programs) (s : ℕ → Seen) (id : ThreadId) (f : Phase) → AreAlike s (opens g s id f)
alike_opens g s id (phase.Create program priority) = alike_upd s id.number _ refl refl
alike_opens g s id (phase.Send to message zero joined) = alike_self
alike_opens g s id (phase.Reply to message zero) = alike_self
alike_opens g s id (phase.Receive from zero) = alike_self
alike_opens g s id (phase.Destroy who) = alike_self
alike_opens g s id phase.End = alike_self

alike_call : (g : Programs) (s : ℕ → Seen) (me : ThreadId) (p : Position) (f : Phase) (o : Outcome) →
    AreAlike s (call_noted g s me p f o)
alike_call g s me p f outcome.Passed = alike_then (alike_calls s me p _) (alike_passes (calls s me p (sent_reply f)) me f)
alike_call g s me p f outcome.Waits = alike_calls s me p None
alike_call g s me p f (outcome.Took from message) =
    alike_then (alike_calls s me p _) (alike_sent (calls s me p (Some (reply.Got from message))) from)
alike_call g s me p f (outcome.Absent found) = alike_calls s me p _
alike_call g s me p f (outcome.Busy found) = alike_calls s me p _
alike_call g s me p f outcome.Nobody = alike_calls s me p _
alike_call g s me p f outcome.Own = alike_calls s me p _
alike_call g s me p f outcome.Killed = alike_calls s me p _
alike_call g s me p f (outcome.Made id) =
    alike_then (alike_calls s me p _) (alike_opens g (calls s me p (Some (reply.Made id))) id f)
alike_call g s me p f (outcome.Full alive worn) = alike_calls s me p _
alike_call g s me p f outcome.Ended = alike_calls s me p None
alike_call g s me p f outcome.Freed = alike_self

alike_pick : (s : ℕ → Seen) (me : ThreadId) (o : Outcome) → AreAlike s (pick_noted s me o)
alike_pick s me (outcome.Took from message) =
    alike_then (alike_tells s me _) (alike_sent (tells s me (reply.Got from message)) from)
alike_pick s me outcome.Passed = alike_self
alike_pick s me outcome.Waits = alike_self
alike_pick s me (outcome.Absent found) = alike_self
alike_pick s me (outcome.Busy found) = alike_self
alike_pick s me outcome.Nobody = alike_self
alike_pick s me outcome.Own = alike_self
alike_pick s me outcome.Killed = alike_self
alike_pick s me (outcome.Made id) = alike_self
alike_pick s me (outcome.Full alive worn) = alike_self
alike_pick s me outcome.Ended = alike_self
alike_pick s me outcome.Freed = alike_self

pub alike_noted : (g : Programs) (s : ℕ → Seen) (at : Position) (p : Option Point) → AreAlike s (noted g s at p)
alike_noted g s at None = alike_self
alike_noted g s at (Some p) = by p.act
  where
    by : (a : Act) → AreAlike s (act_noted g s p.who at a p.outcome)
    by (act.Call f) = alike_call g s p.who at f p.outcome
    by act.Gone = alike_tells s p.who reply.Gone
    by act.Pick = alike_pick s p.who p.outcome

pub noted_shown : (g : Programs) (st ml : ℕ → ℕ) (s : ℕ → Seen) (at : Position) (p : Option Point) → ShowsSeen st ml s →
    ShowsSeen st ml (noted g s at p)
noted_shown g st ml s at p h n =
    let a = alike_noted g s at p in record { spelled = (h n).spelled; word = a.word n ∙ (h n).word; mail = a.mail n ∙ (h n).mail }

-- SERIALS

abbrev pub HasLast : (ℕ → Seen) → (ℕ → ℕ) → Type 0
HasLast s f = (n : ℕ) → (s n).last ≡ f n

last_upd : (s : ℕ → Seen) (f : ℕ → ℕ) (k : ℕ) (v : Seen) (y : ℕ) → HasLast s f → v.last ≡ y → HasLast (upd s k v) (upd f k y)
last_upd s f k v y h e n = elim (eqb_tells n k) [
  | inl q ↦
      subst (λ t. (upd s k v t).last ≡ upd f k y t) (sym q.1)
      (ap (λ (u : Seen). u.last) (upd_same s k v) ∙ e ∙ sym (upd_same f k y))
  | inr q ↦ ap (λ (u : Seen). u.last) (upd_other s k v n q.1) ∙ h n ∙ sym (upd_other f k y n q.1)
]

last_kept : (s : ℕ → Seen) (f : ℕ → ℕ) (k : ℕ) (v : Seen) → HasLast s f → v.last ≡ (s k).last → HasLast (upd s k v) f
last_kept s f k v h e n = upd_cases (λ (u : Seen). u.last ≡ f n) s k v n (λ q. e ∙ h k ∙ ap f (sym q)) (λ ne. h n)

last_tells : (s : ℕ → Seen) (f : ℕ → ℕ) (id : ThreadId) (r : Reply) → HasLast s f → HasLast (tells s id r) f
last_tells s f id r h = last_kept s f id.number _ h refl

last_sent : (s : ℕ → Seen) (f : ℕ → ℕ) (id : ThreadId) → HasLast s f → HasLast (tells_sent s id) f
last_sent s f id h = by (is_joined_to (s id.number).word.state)
  where
    by : (t : Bool) → HasLast (if t then s else tells s id reply.Sent) f
    by true = h
    by false = last_tells s f id reply.Sent h

last_passes : (s : ℕ → Seen) (f : ℕ → ℕ) (me : ThreadId) (p : Phase) → HasLast s f → HasLast (passes_to s me p) f
last_passes s f me (phase.Send to message zero joined) h = last_tells s f to _ h
last_passes s f me (phase.Reply to message zero) h = last_tells s f to _ h
last_passes s f me (phase.Receive from zero) h = h
last_passes s f me (phase.Create program priority) h = h
last_passes s f me (phase.Destroy who) h = h
last_passes s f me phase.End h = h

module _ (g : Programs) (s : ℕ → Seen) (f : ℕ → ℕ) (h : HasLast s f) (at : Position) where
  abbrev Next : ThreadId → ℕ → ℕ
  Next me = upd f me.number (f me.number + 1)

  last_calls : (me : ThreadId) (r : Option Reply) → HasLast (calls s me at r) (Next me)
  last_calls me r = last_upd s f me.number _ (f me.number + 1) h (ap (λ k. k + 1) (h me.number))

  abbrev CallLast : ThreadId → Phase → Outcome → Type 0
  CallLast me p o = FitsOutcome (act.Call p) o → HasLast (call_noted g s me at p o) (new_serial o (Next me))

  made_last : (me : ThreadId) (p : Phase) (id : ThreadId) → CallLast me p (outcome.Made id)
  made_last me (phase.Create program priority) id k =
      last_upd (calls s me at (Some (reply.Made id))) (Next me) id.number _ 0 (last_calls me _) refl
  made_last me (phase.Send to message zero joined) id k = absurd k
  made_last me (phase.Reply to message zero) id k = absurd k
  made_last me (phase.Receive from zero) id k = absurd k
  made_last me (phase.Destroy who) id k = absurd k
  made_last me phase.End id k = absurd k

  last_call : (me : ThreadId) (p : Phase) (o : Outcome) → CallLast me p o
  last_call me p outcome.Passed k = last_passes (calls s me at (sent_reply p)) (Next me) me p (last_calls me _)
  last_call me p outcome.Waits k = last_calls me None
  last_call me p (outcome.Took from message) k = last_sent (calls s me at _) (Next me) from (last_calls me _)
  last_call me p (outcome.Absent found) k = last_calls me _
  last_call me p (outcome.Busy found) k = last_calls me _
  last_call me p outcome.Nobody k = last_calls me _
  last_call me p outcome.Own k = last_calls me _
  last_call me p outcome.Killed k = last_calls me _
  last_call me p (outcome.Made id) k = made_last me p id k
  last_call me p (outcome.Full alive worn) k = last_calls me _
  last_call me p outcome.Ended k = last_calls me None
  last_call me p outcome.Freed k = absurd k

  -- what a gone or a pick makes of the serials: nothing
  own_serial : (me : ThreadId) (o : Outcome) (s' : ℕ → Seen) → HasLast s' f → ((id : ThreadId) → o ≡ outcome.Made id → ⊥) →
      HasLast s' (new_serial o (upd f me.number (f me.number)))
  own_serial me (outcome.Made id) s' k ne = absurd (ne id refl)
  own_serial me outcome.Passed s' k ne = subst (HasLast s') (sym (upd_own f me.number)) k
  own_serial me outcome.Waits s' k ne = subst (HasLast s') (sym (upd_own f me.number)) k
  own_serial me (outcome.Took from message) s' k ne = subst (HasLast s') (sym (upd_own f me.number)) k
  own_serial me (outcome.Absent found) s' k ne = subst (HasLast s') (sym (upd_own f me.number)) k
  own_serial me (outcome.Busy found) s' k ne = subst (HasLast s') (sym (upd_own f me.number)) k
  own_serial me outcome.Nobody s' k ne = subst (HasLast s') (sym (upd_own f me.number)) k
  own_serial me outcome.Own s' k ne = subst (HasLast s') (sym (upd_own f me.number)) k
  own_serial me outcome.Killed s' k ne = subst (HasLast s') (sym (upd_own f me.number)) k
  own_serial me (outcome.Full alive worn) s' k ne = subst (HasLast s') (sym (upd_own f me.number)) k
  own_serial me outcome.Ended s' k ne = subst (HasLast s') (sym (upd_own f me.number)) k
  own_serial me outcome.Freed s' k ne = subst (HasLast s') (sym (upd_own f me.number)) k

  last_pick : (me : ThreadId) (o : Outcome) → HasLast (pick_noted s me o) f
  last_pick me (outcome.Took from message) = last_sent (tells s me _) f from (last_tells s f me _ h)
  last_pick me outcome.Passed = h
  last_pick me outcome.Waits = h
  last_pick me (outcome.Absent found) = h
  last_pick me (outcome.Busy found) = h
  last_pick me outcome.Nobody = h
  last_pick me outcome.Own = h
  last_pick me outcome.Killed = h
  last_pick me (outcome.Made id) = h
  last_pick me (outcome.Full alive worn) = h
  last_pick me outcome.Ended = h
  last_pick me outcome.Freed = h

  unmade : (o : Outcome) → FitsOutcome act.Pick o → (id : ThreadId) → o ≡ outcome.Made id → ⊥
  unmade o k id e = subst (FitsOutcome act.Pick) e k

  ungone : (o : Outcome) → FitsOutcome act.Gone o → (id : ThreadId) → o ≡ outcome.Made id → ⊥
  ungone o k id e = subst (FitsOutcome act.Gone) e k

  pub last_noted : (p : Option Point) → FitsPoint p → HasLast (noted g s at p) (serials_with (entry_in f p) f)
  last_noted None k = h
  last_noted (Some p) k = by p.act k
    where
      by : (a : Act) → FitsOutcome a p.outcome → HasLast (act_noted g s p.who at a p.outcome)
          (new_serial p.outcome (upd f p.who.number (serial_for a (f p.who.number))))
      by (act.Call c) k = last_call p.who c p.outcome k
      by act.Gone k = own_serial p.who p.outcome (tells s p.who reply.Gone) (last_tells s f p.who _ h) (ungone p.outcome k)
      by act.Pick k = own_serial p.who p.outcome (pick_noted s p.who p.outcome) (last_pick p.who p.outcome) (unmade p.outcome k)
