-- Where no step of a context can change who counts as running although its word takes messages: in a create, in a destroy,
-- outside of
-- any section, and in a switch. So what is seen of the numbers decides what such a step's board shows.
use Rattle.std.proofs.Common.{◌≡◌, ◌≢◌, ℕ, refl, sym, ap, ◌∙◌, Option, Some, None}
use Rattle.k_ids.specs.declared.threads.ThreadId.{ThreadId}
use Rattle.k_ids.specs.declared.calls.Phase.{Phase}
use Rattle.k_ids.specs.declared.calls.Phase.TheVariants as phase
use Rattle.k_model.specs.Maps.{upd}
use Rattle.k_model.proofs.Maps.{upd_cases, upd_other}
use Rattle.k_locks.specs.declared.locks.Lock.TheVariants as lock
use Rattle.k_locks.specs.declared.steps.Went.{Went}
use Rattle.k_locks.specs.declared.steps.Went.TheVariants as went
use Rattle.k_locks.specs.Asks.{Ask, Response}
use Rattle.k_locks.specs.Asks as asks
use Rattle.k_threads.specs.declared.create.CreateCall.{CreateCall}
use Rattle.k_threads.specs.declared.create.CreateOutside.TheVariants as create_outside
use Rattle.k_threads.specs.CreateTable.{CreateAt}
use Rattle.k_threads.specs.CreateTable as create
use Rattle.k_threads.specs.declared.destroy.DestroyCall.{DestroyCall}
use Rattle.k_threads.specs.declared.destroy.DestroyOutside.TheVariants as destroy_outside
use Rattle.k_threads.specs.DestroyTable.{DestroyAt}
use Rattle.k_threads.specs.DestroyTable as destroy
use Rattle.k_model.specs.State.{KernelState}
use Rattle.k_board.specs.Boards.{Board, Context}
use Rattle.k_board.specs.Steps.{after, begun_at, create_at, destroy_at, owned}
use Rattle.k_board.specs.Turns.{excepted_by, excepts, is_number}
use Rattle.k_points.specs.Shown.{Tells, shown, shown_by}

-- WHERE NOBODY IS EXCEPTED

pub after_none : (me : ThreadId) (w : Went) → excepts (after me w) ≡ None
after_none me (went.Ends r) = refl
after_none me went.Waits = refl
after_none me went.Picks = refl
after_none me went.CallerDead = refl
after_none me went.On = refl
after_none me went.Again = refl
after_none me (went.Pushed priority) = refl

pub create_none : (c : CreateCall) (p : CreateAt) → excepts (create_at c p) ≡ None
create_none c (create.Outside (create_outside.Ended w)) = after_none c.caller w
create_none c p = refl

pub destroy_none : (c : DestroyCall) (p : DestroyAt) → excepts (destroy_at c p) ≡ None
destroy_none c (destroy.Outside (destroy_outside.Ended w)) = after_none c.caller w
destroy_none c p = refl

pub begun_none : (size : ℕ) (me : ThreadId) (f : Phase) → excepts (begun_at size me f) ≡ None
begun_none size me (phase.Send to message zero joined) = refl
begun_none size me (phase.Reply to message zero) = refl
begun_none size me (phase.Receive from zero) = refl
begun_none size me (phase.Create program priority) = refl
begun_none size me (phase.Destroy who) = refl
begun_none size me phase.End = refl

-- CONTEXTS

abbrev pub SameExcepts : (ℕ → Context) → (ℕ → Context) → Type 0
SameExcepts c d = (j : ℕ) → excepts (d j).at ≡ excepts (c j).at

pub moved_same : (c : ℕ → Context) (i : ℕ) (x : Context) → excepts x.at ≡ excepts (c i).at → SameExcepts c (upd c i x)
moved_same c i x e j =
    upd_cases (λ (y : Context). excepts y.at ≡ excepts (c j).at) c i x j (λ q. e ∙ ap (λ (m : ℕ). excepts (c m).at) (sym q))
    (λ _. refl)

-- two contexts move
pub both_same : (c : ℕ → Context) (m i : ℕ) (y x : Context) → excepts y.at ≡ excepts (c m).at → excepts x.at ≡ excepts (c i).at →
    SameExcepts c (upd (upd c m y) i x)
both_same c m i y x f e j = moved_same (upd c m y) i x (e ∙ sym (moved_same c m y f i)) j ∙ moved_same c m y f j

pub excepted_still : (c d : ℕ → Context) → SameExcepts c d → (o : Option ℕ) (n : ℕ) → excepted_by o d n ≡ excepted_by o c n
excepted_still c d same None n = refl
excepted_still c d same (Some j) n = ap (λ (x : Option ℕ). is_number x n) (same j)

-- BOARDS

abbrev pub SameExceptions : Board → Board → Type 0
SameExceptions b b' = (n : ℕ) → excepted_by (b'.owner n) b'.context n ≡ excepted_by (b.owner n) b.context n

-- What is seen of the numbers is the same, so the new board shows the same.
pub quiet : (k : KernelState) (b b' : Board) → Tells k (shown b) → SameExceptions b b' → ((n : ℕ) → b'.seen n ≡ b.seen n) →
    Tells k (shown b')
quiet k b b' t same is n = t n ∙ (λ d. shown_by (sym (same n) d) (sym (is n) d))

-- LOCKS

-- a lock that is taken was free, and one that is released was the context's
abbrev pub Owns : (ℕ → Option ℕ) → ℕ → Ask → Response → Type 0
Owns o i (asks.Acquire (lock.Thread n)) asks.Got = o n ≡ None
Owns o i (asks.Release (lock.Thread n)) asks.Released = o n ≡ Some i
Owns o i a r = Unit {0}

-- a context that excepts nobody takes or releases a lock
pub owned_still : (c d : ℕ → Context) → SameExcepts c d → (i : ℕ) → excepts (c i).at ≡ None →
    (o : ℕ → Option ℕ) (a : Ask) (r : Response) → Owns o i a r → (n : ℕ) →
    excepted_by (owned o i a r n) d n ≡ excepted_by (o n) c n
owned_still c d same i none o (asks.Acquire (lock.Thread m)) asks.Got free n =
    upd_cases (λ (x : Option ℕ). excepted_by x d n ≡ excepted_by (o n) c n) o m (Some i) n
    (λ q. ap (λ (x : Option ℕ). is_number x n) (same i ∙ none) ∙ sym (ap (λ (x : Option ℕ). excepted_by x c n) (ap o q ∙ free)))
    (λ _. excepted_still c d same (o n) n)
owned_still c d same i none o (asks.Release (lock.Thread m)) asks.Released mine n =
    upd_cases (λ (x : Option ℕ). excepted_by x d n ≡ excepted_by (o n) c n) o m None n
    (λ q. sym (ap (λ (x : Option ℕ). excepted_by x c n) (ap o q ∙ mine) ∙ ap (λ (x : Option ℕ). is_number x n) none))
    (λ _. excepted_still c d same (o n) n)
owned_still c d same i none o a r h n = excepted_still c d same (o n) n

-- The context of a number that owns no lock is removed.
pub removed_still : (c : ℕ → Context) (m i : ℕ) (y x : Context) → excepts y.at ≡ None → excepts x.at ≡ None →
    excepts (c i).at ≡ None → (o : ℕ → Option ℕ) → ((n : ℕ) → o n ≢ Some m) → (n : ℕ) →
    excepted_by (o n) (upd (upd c m y) i x) n ≡ excepted_by (o n) c n
removed_still c m i y x ey ex none o free n = by (o n) refl
  where
    at : (j : ℕ) → j ≢ m → excepts (upd (upd c m y) i x j).at ≡ excepts (c j).at
    at j ne =
        upd_cases (λ (z : Context). excepts z.at ≡ excepts (c j).at) (upd c m y) i x j
        (λ q. ex ∙ sym (ap (λ (a : ℕ). excepts (c a).at) q ∙ none))
        (λ _. ap (λ (z : Context). excepts z.at) (upd_other c m y j ne))

    by : (a : Option ℕ) → o n ≡ a → excepted_by a (upd (upd c m y) i x) n ≡ excepted_by a c n
    by None e = refl
    by (Some j) e = ap (λ (a : Option ℕ). is_number a n) (at j (λ q. free n (e ∙ ap Some q)))
