-- Who is about to fall asleep is on.
use Rattle.std.proofs.Common.{◌≡◌, Bool, true, false, not, refl, sym, ap, ◌∙◌, ℕ, inl, inr}
use Rattle.k_locks.specs.Shown.{is_dead}
use Rattle.k_caller.specs.declared.thread.ThreadLocation.TheVariants as location
use Rattle.k_board.specs.Words.{Programs}
use Rattle.k_board.specs.Boards.{Alone, At, Board}
use Rattle.k_tokens.specs.World.{Asleep, Awake, Ended, Threads, World}
use Rattle.k_grants.specs.Views.{look_at}
use Rattle.k_paired.specs.Pairs.{IsPair}

awake_asleep : Awake ≡ Asleep → {A : Type 0} → A
awake_asleep e = absurd cc

awake_ended : Awake ≡ Ended → {A : Type 0} → A
awake_ended e = absurd cc

pub asleep_on : (g : Programs) (b : Board) (w : World) (i : ℕ) → IsPair g b w →
    (b.context i).at ≡ Alone location.FallAsleep →
    is_dead (b.seen i).word ≡ false → (b.seen i).word.on ≡ true
asleep_on g b w i h at alive = go (w.threads.on i) refl
  where
    present : w.threads.present i ≡ true
    present = ap (λ (t : Threads). t.present i) h.alike.agrees.threads ∙ ap not alive

    condition : w.threads.condition i ≡ Awake
    condition = ap (λ (t : Threads). t.condition i) h.alike.agrees.threads
        ∙ ap (λ (p : At). (look_at p).condition) at

    on_is : w.threads.on i ≡ (b.seen i).word.on
    on_is = ap (λ (t : Threads). t.on i) h.alike.agrees.threads

    go : (t : Bool) → w.threads.on i ≡ t → (b.seen i).word.on ≡ true
    go true e = sym on_is ∙ e
    go false e = elim (h.world.1.threads.resting i present e) [
      | inl q ↦ awake_asleep (sym condition ∙ q)
      | inr q ↦ awake_ended (sym condition ∙ q)
    ]
