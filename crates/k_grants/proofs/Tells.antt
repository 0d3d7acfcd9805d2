-- What a load told of a thread holds of the board after a quiet turn.
use Rattle.std.proofs.Common.{◌≡◌, ℕ, sym, ◌∙◌, subst, Option}
use Rattle.k_ids.specs.declared.threads.ThreadId.{ThreadId}
use Rattle.k_board.specs.Boards.{At, Board}
use Rattle.k_tokens.specs.World.{HeldLocks, Threads}
use Rattle.k_tokens.specs.Good.{Told}
use Rattle.k_tokens.specs.Steps.{holding}
use Rattle.k_grants.specs.Views.{look_at, looks_of, sights_of, threads_by, threads_of}
use Rattle.k_grants.proofs.Granting.{IsMoved, IsQuiet}
use Rattle.k_grants.proofs.Moves.{holding_is}

held_told : (threads : Threads) (i : ℕ) (held : HeldLocks) (who : ThreadId) (seen : Option ℕ) → Told threads who seen →
    Told (holding threads i held) who seen
held_told threads i held who seen t = record { shown = t.shown; absent = t.absent }

-- priorities are no matter
pub told_of_any : (y z : ℕ → ℕ) (b : Board) (who : ThreadId) (seen : Option ℕ) → Told (threads_of y b) who seen →
    Told (threads_of z b) who seen
told_of_any y z b who seen t = record { shown = t.shown; absent = t.absent }

pub told_quietly : (y : ℕ → ℕ) (b b' : Board) (i : ℕ) (p q : At) → (b.context i).at ≡ p → IsMoved b b' i q →
    sights_of b' ≡ sights_of b → b'.table ≡ b.table → IsQuiet p q
    → (who : ThreadId) (seen : Option ℕ) → Told (threads_of y b) who seen → Told (threads_of y b') who seen
told_quietly y b b' i p q at m e t h who seen told =
    subst (λ (x : Threads). Told x who seen)
    (sym ((λ z. threads_by y (e z) (m.looks z) (t z)) ∙ holding_is y (sights_of b) (looks_of b) b.table i (look_at q)
    (look_at q).locks k.about k.same))
    (held_told (threads_of y b) i (look_at q).locks who seen told)
  where
    k : IsQuiet (b.context i).at q
    k = subst (λ (x : At). IsQuiet x q) (sym at) h
