-- What a step makes of words, as far as waits to send go.
use Rattle.std.proofs.Common.{◌≡◌, ◌≢◌, ℕ, Bool, true, false, refl, sym, ap, ◌∙◌, subst, Option, inl, inr, None}
use Rattle.std.specs.Prelude.{if◌then◌else◌}
use Rattle.std.proofs.lemmas.Bool.Decides.{eqb_tells}
use Rattle.k_ids.specs.declared.threads.ThreadId.{ThreadId}
use Rattle.k_ids.specs.declared.state_word.State.{State}
use Rattle.k_ids.specs.declared.state_word.State.TheVariants as state
use Rattle.k_ids.specs.declared.state_word.StateWord.{StateWord}
use Rattle.k_model.specs.Maps.{upd}
use Rattle.k_model.proofs.Maps.{upd_same, upd_other}
use Rattle.k_locks.specs.declared.points.Point.{Point}
use Rattle.k_locks.specs.declared.steps.Went.{Went}
use Rattle.k_locks.specs.declared.steps.Went.TheVariants as went
use Rattle.k_locks.specs.Asks.{Ask, Response}
use Rattle.k_locks.specs.Asks as asks
use Rattle.k_locks.specs.Shown.{is_dead_state}
use Rattle.k_script.specs.Plays.{Position}
use Rattle.k_ipc.specs.Words.{sends_to}
use Rattle.k_board.specs.Words.{Programs, Seen, noted}
use Rattle.k_board.specs.Boards.{Board, Context}
use Rattle.k_board.specs.Steps.{Answers, after, with_word, wrote}
use Rattle.k_board.specs.Facts.{is_open}
use Rattle.k_good.proofs.Words.{IsWritten, noted_word, word_after}
use Rattle.k_queues.specs.Tasks.{Idle, task_at, task_of}
use Rattle.k_queues.proofs.StepKinds.{IsPlain, OthersStay}
use Rattle.k_queues.proofs.Quiet.{SameWait, same_wait}

-- a thread of this state is there, and doesn't wait to send
abbrev pub is_calm : State → Bool
is_calm state.Dead = false
is_calm (state.Sending to joined) = false
is_calm (state.Run result) = true
is_calm (state.Receiving from) = true
is_calm state.Picking = true
is_calm state.Ended = true

pub calm_alive : (s : State) → is_calm s ≡ true → is_dead_state s ≡ false
calm_alive state.Dead c = absurd cc
calm_alive (state.Sending to joined) c = absurd cc
calm_alive (state.Run result) c = refl
calm_alive (state.Receiving from) c = refl
calm_alive state.Picking c = refl
calm_alive state.Ended c = refl

pub calm_silent : (s : State) (to : ThreadId) → is_calm s ≡ true → sends_to to s ≡ false
calm_silent state.Dead to c = absurd cc
calm_silent (state.Sending r joined) to c = absurd cc
calm_silent (state.Run result) to c = refl
calm_silent (state.Receiving from) to c = refl
calm_silent state.Picking to c = refl
calm_silent state.Ended to c = refl

pub open_calm : (s : State) → is_open s ≡ true → is_calm s ≡ true
open_calm state.Dead o = absurd cc
open_calm (state.Sending to joined) o = absurd cc
open_calm (state.Run result) o = absurd cc
open_calm (state.Receiving from) o = refl
open_calm state.Picking o = refl
open_calm state.Ended o = absurd cc

pub calm_wait : (w u : StateWord) → u.version ≡ w.version → is_calm w.state ≡ true → is_calm u.state ≡ true → SameWait w u
calm_wait w u v c d = record {
  version = v;
  dead = calm_alive u.state d ∙ sym (calm_alive w.state c);
  sends = λ to. calm_silent u.state to d ∙ sym (calm_silent w.state to c);
}

-- an exchange after which the word tells the same
abbrev pub IsQuietAsk : Ask → Type 0
IsQuietAsk (asks.Exchange n old new) = SameWait old new
IsQuietAsk a = Unit {0}

asked_quiet : (b : Board) (a : Ask) (r : Response) (n : ℕ) (w : StateWord) → (r ≡ asks.Won → IsQuietAsk a) → IsWritten b a r n w →
    SameWait (b.seen n).word w
asked_quiet b a r n w q i = subst (λ (u : StateWord). SameWait u w) (sym i.was) (subst IsQuietAsk i.asked (q i.won))

pub words_quiet : (g : Programs) (b : Board) (at : Position) (p : Option Point) (a : Ask) (r : Response) → Answers b a r →
    (r ≡ asks.Won → IsQuietAsk a) → (n : ℕ) → SameWait (b.seen n).word (wrote (noted g b.seen at p) a r n).word
words_quiet g b at p a r an q n = elim (word_after g b at p a r an n) [
  | inl e ↦ same_wait (b.seen n).word (wrote (noted g b.seen at p) a r n).word e
  | inr i ↦ asked_quiet b a r n (wrote (noted g b.seen at p) a r n).word q i
]

-- an exchange that is won
pub written_word : (g : Programs) (b : Board) (at : Position) (p : Option Point) (n : ℕ) (old new : StateWord) →
    (wrote (noted g b.seen at p) (asks.Exchange n old new) asks.Won n).word ≡ new
written_word g b at p n old new =
    ap (λ (v : Seen). v.word) (upd_same (noted g b.seen at p) n (with_word (noted g b.seen at p n) new))

pub unwritten_word : (g : Programs) (b : Board) (at : Position) (p : Option Point) (n : ℕ) (old new : StateWord) (t : ℕ) → t ≢ n →
    SameWait (b.seen t).word (wrote (noted g b.seen at p) (asks.Exchange n old new) asks.Won t).word
unwritten_word g b at p n old new t ne =
    same_wait (b.seen t).word (wrote (noted g b.seen at p) (asks.Exchange n old new) asks.Won t).word
    (ap (λ (v : Seen). v.word) (upd_other (noted g b.seen at p) n (with_word (noted g b.seen at p n) new) t ne)
    ∙ noted_word g b.seen at p t)

pub lost_won : {w : StateWord} → asks.Lost w ≡ asks.Won → ⊥
lost_won e = cc

-- WHERE ONE CONTEXT MOVES

module _ (b b' : Board) (i : ℕ) (x : Context) (moved : (n : ℕ) → b'.context n ≡ upd b.context i x n) where
  pub sides : OthersStay b b' i
  sides n ne = inl (ap (λ (y : Context). y.at) (moved n ∙ upd_other b.context i x n ne))

  pub at_mine : (b'.context i).at ≡ x.at
  at_mine = ap (λ (y : Context). y.at) (moved i ∙ upd_same b.context i x)

  pub task_mine : task_of b' i ≡ task_at x.at
  task_mine = ap (λ (y : Context). task_at y.at) (moved i ∙ upd_same b.context i x)

-- where another context is placed, begins, or is removed
module _ (b b' : Board) (i : ℕ) (x : Context) (m : ℕ) (y : Context)
    (moved : (n : ℕ) → b'.context n ≡ upd (upd b.context m y) i x n) where
  pub both_sides : task_at y.at ≡ Idle → task_of b m ≡ Idle → OthersStay b b' i
  both_sides now was n ne = elim (eqb_tells n m) [
    | inl d ↦
        inr (
          ap (task_of b) d.1 ∙ was,
          ap (λ (z : Context). task_at z.at)
              (moved n ∙ upd_other (upd b.context m y) i x n ne ∙ ap (upd b.context m y) d.1 ∙ upd_same b.context m y) ∙ now,
        )
    | inr d ↦ inl (ap (λ (z : Context). z.at) (moved n ∙ upd_other (upd b.context m y) i x n ne ∙ upd_other b.context m y n d.1))
  ]

  pub both_mine : task_of b' i ≡ task_at x.at
  both_mine = ap (λ (z : Context). task_at z.at) (moved i ∙ upd_same (upd b.context m y) i x)

-- a point that may be there
pub plain_if : (a : Bool) (p q : Option Point) → IsPlain p → IsPlain q → IsPlain (if a then p else q)
plain_if true p q h k = h
plain_if false p q h k = k

pub plain_none : IsPlain None
plain_none f = refl

-- a section at its end has nothing to do in queues
pub after_idle : (me : ThreadId) (w : Went) → task_at (after me w) ≡ Idle
after_idle me (went.Ends r) = refl
after_idle me went.Waits = refl
after_idle me went.Picks = refl
after_idle me went.CallerDead = refl
after_idle me went.On = refl
after_idle me went.Again = refl
after_idle me (went.Pushed priority) = refl
