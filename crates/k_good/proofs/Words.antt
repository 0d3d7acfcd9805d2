-- What a step makes of state words: an exchange that is won writes one, and nothing else does.
use Rattle.std.proofs.Common.{◌≡◌, ℕ, Bool, true, false, refl, sym, ap, ◌∙◌, subst, Option, Some, None, ◌⊎◌, inl, inr}
use Rattle.std.specs.Prelude.{if◌then◌else◌}
use Rattle.std.proofs.lemmas.Bool.Decides.{eqb_tells}
use Rattle.k_ids.specs.declared.threads.ThreadId.{ThreadId}
use Rattle.k_ids.specs.declared.calls.Phase.{Phase}
use Rattle.k_ids.specs.declared.calls.Phase.TheVariants as phase
use Rattle.k_ids.specs.declared.calls.Reply.{Reply}
use Rattle.k_ids.specs.declared.calls.Reply.TheVariants as reply
use Rattle.k_ids.specs.declared.calls.Act.{Act}
use Rattle.k_ids.specs.declared.calls.Act.TheVariants as act
use Rattle.k_ids.specs.declared.calls.Outcome.{Outcome}
use Rattle.k_ids.specs.declared.calls.Outcome.TheVariants as outcome
use Rattle.k_ids.specs.declared.state_word.StateWord.{StateWord}
use Rattle.k_model.specs.Maps.{upd}
use Rattle.k_model.proofs.Maps.{upd_same, upd_other}
use Rattle.k_locks.specs.declared.points.Point.{Point}
use Rattle.k_locks.specs.Asks.{Ask, Response}
use Rattle.k_locks.specs.Asks as asks
use Rattle.k_script.specs.Plays.{Position}
use Rattle.k_ipc.specs.Words.{is_joined_to}
use Rattle.k_board.specs.Words.{Programs, Seen, act_noted, answered, call_noted, calls, noted, opens, passes_to, pick_noted, tells}
use Rattle.k_board.specs.Boards.{Board}
use Rattle.k_board.specs.Steps.{Answers, with_word, wrote}

-- A note leaves words as they are.
pub word_upd : (s : ℕ → Seen) (n : ℕ) (v : Seen) → v.word ≡ (s n).word → (t : ℕ) → (upd s n v t).word ≡ (s t).word
word_upd s n v e t = elim (eqb_tells t n) [ inl q ↦ ap (λ (k : ℕ). (upd s n v k).word) q.1 ∙ ap (λ (u : Seen). u.word) (upd_same s n v) ∙ e ∙ ap (λ (k : ℕ). (s k).word) (sym q.1) | inr q ↦ ap (λ (u : Seen). u.word) (upd_other s n v t q.1) ]

sent_word : (s : ℕ → Seen) (id : ThreadId) (a : Bool) (t : ℕ) → ((if a then s else tells s id reply.Sent) t).word ≡ (s t).word
sent_word s id true t = refl
sent_word s id false t = word_upd s id.number _ refl t

passes_word : (s : ℕ → Seen) (me : ThreadId) (p : Phase) (t : ℕ) → (passes_to s me p t).word ≡ (s t).word
passes_word s me (phase.Send to message wait joined) t = word_upd s to.number _ refl t
passes_word s me (phase.Reply to message wait) t = word_upd s to.number _ refl t
passes_word s me (phase.Receive from wait) t = refl
passes_word s me (phase.Create program priority) t = refl
passes_word s me (phase.Destroy who) t = refl
passes_word s me phase.End t = refl

opens_word : (g : Programs) (s : ℕ → Seen) (id : ThreadId) (p : Phase) (t : ℕ) → (opens g s id p t).word ≡ (s t).word
opens_word g s id (phase.Create program priority) t = word_upd s id.number _ refl t
opens_word g s id (phase.Send to message wait joined) t = refl
opens_word g s id (phase.Reply to message wait) t = refl
opens_word g s id (phase.Receive from wait) t = refl
opens_word g s id (phase.Destroy who) t = refl
opens_word g s id phase.End t = refl

module _ (g : Programs) (s : ℕ → Seen) (me : ThreadId) (at : Position) where
  calls_word : (r : Option Reply) (t : ℕ) → (calls s me at r t).word ≡ (s t).word
  calls_word r t = word_upd s me.number _ refl t

  call_word : (p : Phase) (o : Outcome) (t : ℕ) → (call_noted g s me at p o t).word ≡ (s t).word
  call_word p outcome.Passed t = passes_word _ me p t ∙ calls_word _ t
  call_word p outcome.Waits t = calls_word _ t
  call_word p (outcome.Took from message) t = sent_word (calls s me at (Some (reply.Got from message))) from (is_joined_to (calls s me at (Some (reply.Got from message)) from.number).word.state) t ∙ calls_word (Some (reply.Got from message)) t
  call_word p (outcome.Absent found) t = calls_word _ t
  call_word p (outcome.Busy found) t = calls_word _ t
  call_word p outcome.Nobody t = calls_word _ t
  call_word p outcome.Own t = calls_word _ t
  call_word p outcome.Killed t = calls_word _ t
  call_word p (outcome.Made id) t = opens_word g _ id p t ∙ calls_word _ t
  call_word p (outcome.Full alive worn) t = calls_word _ t
  call_word p outcome.Ended t = calls_word _ t
  call_word p outcome.Freed t = refl

  pick_word : (o : Outcome) (t : ℕ) → (pick_noted s me o t).word ≡ (s t).word
  pick_word (outcome.Took from message) t = sent_word (tells s me (reply.Got from message)) from (is_joined_to (tells s me (reply.Got from message) from.number).word.state) t ∙ word_upd s me.number (answered (s me.number) (reply.Got from message)) refl t
  pick_word outcome.Passed t = refl
  pick_word outcome.Waits t = refl
  pick_word (outcome.Absent found) t = refl
  pick_word (outcome.Busy found) t = refl
  pick_word outcome.Nobody t = refl
  pick_word outcome.Own t = refl
  pick_word outcome.Killed t = refl
  pick_word (outcome.Made id) t = refl
  pick_word (outcome.Full alive worn) t = refl
  pick_word outcome.Ended t = refl
  pick_word outcome.Freed t = refl

  act_word : (a : Act) (o : Outcome) (t : ℕ) → (act_noted g s me at a o t).word ≡ (s t).word
  act_word (act.Call p) o t = call_word p o t
  act_word act.Gone o t = word_upd s me.number _ refl t
  act_word act.Pick o t = pick_word o t

pub noted_word : (g : Programs) (s : ℕ → Seen) (at : Position) (p : Option Point) (t : ℕ) → (noted g s at p t).word ≡ (s t).word
noted_word g s at None t = refl
noted_word g s at (Some p) t = act_word g s p.who at p.act p.outcome t

-- the word of this number was written
pub record IsWritten (b : Board) (a : Ask) (r : Response) (t : ℕ) (w : StateWord) : Type 0 where
  pub old : StateWord
  pub asked : a ≡ asks.Exchange t old w
  pub won : r ≡ asks.Won
  pub was : (b.seen t).word ≡ old

pub word_after : (g : Programs) (b : Board) (at : Position) (p : Option Point) (a : Ask) (r : Response) → Answers b a r → (t : ℕ) → ((wrote (noted g b.seen at p) a r t).word ≡ (b.seen t).word) ⊎ IsWritten b a r t (wrote (noted g b.seen at p) a r t).word
word_after g b at p (asks.Exchange n old new) asks.Won an t = elim (eqb_tells t n) [
  | inl q ↦ inr (subst (λ (k : ℕ). IsWritten b (asks.Exchange n old new) asks.Won k (wrote (noted g b.seen at p) (asks.Exchange n old new) asks.Won k).word) (sym q.1) record { old = old; asked = ap (λ (w : StateWord). asks.Exchange n old w) (sym (ap (λ (u : Seen). u.word) (upd_same (noted g b.seen at p) n (with_word (noted g b.seen at p n) new)))); won = refl; was = an })
  | inr q ↦ inl (ap (λ (u : Seen). u.word) (upd_other (noted g b.seen at p) n (with_word (noted g b.seen at p n) new) t q.1) ∙ noted_word g b.seen at p t)
]
word_after g b at p (asks.Exchange n old new) (asks.Lost w) an t = inl (noted_word g b.seen at p t)
word_after g b at p (asks.Load n) (asks.Word w) an t = inl (noted_word g b.seen at p t)
word_after g b at p (asks.LoadMail n) (asks.Mail m) an t = inl (noted_word g b.seen at p t)
word_after g b at p (asks.Post n m) asks.Stored an t = inl (word_upd (noted g b.seen at p) n _ refl t ∙ noted_word g b.seen at p t)
word_after g b at p (asks.Acquire l) asks.Got an t = inl (noted_word g b.seen at p t)
word_after g b at p (asks.Acquire l) (asks.Owned k) an t = inl (noted_word g b.seen at p t)
word_after g b at p (asks.Release l) asks.Released an t = inl (noted_word g b.seen at p t)
word_after g b at p (asks.Place id program priority) asks.Placed an t = inl (noted_word g b.seen at p t)
word_after g b at p (asks.Remove id) asks.Removed an t = inl (noted_word g b.seen at p t)
word_after g b at p (asks.Remove id) asks.Kept an t = inl (noted_word g b.seen at p t)
word_after g b at p a r an t = absurd an
