-- What a context owes where a section has come to its end, and at an exchange.
use Rattle.std.proofs.Common.{◌≡◌, ◌≢◌, ℕ, ◌+◌, ◌≤◌, Bool, true, false, Option, Some, None, refl, sym, ap}
use Rattle.std.proofs.Common.{◌∙◌, subst, arith, inl, inr}
use Rattle.std.specs.Prelude.{if◌then◌else◌}
use Rattle.std.proofs.lemmas.Bool.{cases_eq}
use Rattle.k_ids.specs.declared.threads.ThreadId.{ThreadId}
use Rattle.k_ids.specs.declared.calls.Reply.{Reply}
use Rattle.k_ids.specs.declared.state_word.StateWord.{StateWord}
use Rattle.k_model.proofs.Maps.{upd_same, upd_other}
use Rattle.k_locks.specs.declared.points.Point.{Point}
use Rattle.k_locks.specs.declared.steps.Went.{Went}
use Rattle.k_locks.specs.declared.steps.Went.TheVariants as went
use Rattle.k_board.specs.Words.{Seen}
use Rattle.k_board.specs.Boards.{Board}
use Rattle.k_board.specs.Steps.{after, with_word, write}
use Rattle.k_sections.proofs.Falls.{lost_there}
use Rattle.k_sections.proofs.Words.{same_where}
use Rattle.k_sections.specs.Situations.{is_there, loaded_of}
use Rattle.k_owed.specs.Owes.{owes_at, owes_waiting}
use Rattle.k_owed.specs.Owed.{leave_owed, owed_at}

pub one_or : (there : Bool) (n : ℕ) → 1 ≤ n → (if there then 1 else n) ≤ n
one_or true n some = some
one_or false n some = omega arith

-- A caller looks whether it was destroyed. Where it wasn't, the step decides.
pub own_ends : (rest : ℕ) (b : Board) (i : ℕ) (own : StateWord) (me : ThreadId) (dead : Bool) (p : Point)
    (r : Reply) →
    ◌≡◌ {A = Option Point} (if dead then None else Some p) None →
    owes_at rest b i own (after me (if dead then went.CallerDead else went.Ends r)) + 1 ≤ 1
own_ends rest b i own me true p r e = omega arith
own_ends rest b i own me false p r e = absurd cc

-- one that is about to fall asleep
pub waits_owes : (rest : ℕ) (b : Board) (i : ℕ) (own : StateWord) (me : ThreadId) →
    owes_at rest b i own (after me went.Waits) ≤ owes_waiting rest
waits_owes rest b i own me = one_or (is_there b.seen (loaded_of i own)) (3 + rest) (omega arith)

pub ended_owed : (me : ThreadId) (w : Went) → owed_at (after me w) ≡ 0
ended_owed me (went.Ends r) = refl
ended_owed me went.Waits = refl
ended_owed me went.Picks = refl
ended_owed me went.CallerDead = refl
ended_owed me went.On = refl
ended_owed me went.Again = refl
ended_owed me (went.Pushed priority) = refl

-- where an exchange is lost, the word isn't the expected one
pub lost_owes : (seen : ℕ → Seen) (n : ℕ) (old v : StateWord) → (seen n).word ≡ v → v ≢ old →
    (k fresh stale : ℕ) → k ≤ stale →
    k ≤ (if is_there seen (loaded_of n old) then fresh else stale)
lost_owes seen n old v is ne k fresh stale least =
    subst (λ (t : Bool). k ≤ (if t then fresh else stale)) (sym (lost_there seen n v old is ne)) least

-- where it was just loaded, it is
pub loaded_owes : (seen : ℕ → Seen) (n : ℕ) (w : StateWord) → (seen n).word ≡ w → (k fresh stale : ℕ) →
    fresh ≤ k →
    (if is_there seen (loaded_of n w) then fresh else stale) ≤ k
loaded_owes seen n w is k fresh stale most =
    subst (λ (t : Bool). (if t then fresh else stale) ≤ k) (sym (same_where (seen n).word w is)) most

-- where an exchange is won, too
pub won_owes : (seen : ℕ → Seen) (n : ℕ) (w : StateWord) → (seen n).word ≡ w → (k fresh stale : ℕ) → k ≤
    fresh →
    k ≤ (if is_there seen (loaded_of n w) then fresh else stale)
won_owes seen n w is k fresh stale least =
    subst (λ (t : Bool). k ≤ (if t then fresh else stale)) (sym (same_where (seen n).word w is)) least

-- A word is written that isn't of one that waits.
pub written_leaves : (seen : ℕ → Seen) (n : ℕ) (new : StateWord) → leave_owed new ≡ 0 → (t : ℕ) →
    leave_owed (write seen n new t).word ≤ leave_owed (seen t).word
written_leaves seen n new none t = elim (cases_eq t n) [
  | inl e ↦
      let is : leave_owed (write seen n new t).word ≡ leave_owed new =
      ap (λ (k : ℕ). leave_owed (write seen n new k).word) e
      ∙ ap (λ (v : Seen). leave_owed v.word) (upd_same seen n (with_word (seen n) new)) in
      omega (arith, is, none)
  | inr ne ↦
      let is : leave_owed (write seen n new t).word ≡ leave_owed (seen t).word =
      ap (λ (v : Seen). leave_owed v.word) (upd_other seen n (with_word (seen n) new) t ne) in
      omega (arith, is)
]
