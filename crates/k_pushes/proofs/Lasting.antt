-- What is said of a thread that is pushed lasts over the changes that another context makes.
use Rattle.std.proofs.Common.{◌≡◌, ◌≢◌, ℕ, ◌<◌, ◌+◌, true, false, refl, sym, ◌∙◌, subst, Some, arith, ◌⊎◌, inl, inr}
use Rattle.k_ids.specs.declared.threads.ThreadId.{ThreadId}
use Rattle.k_ids.specs.declared.state_word.StateWord.{StateWord}
use Rattle.k_locks.specs.Shown.{is_dead}
use Rattle.k_locks.specs.Threads.{runs}
use Rattle.k_board.specs.Words.{Seen}
use Rattle.k_board.specs.Boards.{Board}
use Rattle.k_board.specs.Moves.{Change, same, calls, settles, passes, delivers, takes, joins}
use Rattle.k_board.specs.Moves.{frees_sender, frees_receiver, kills, makes, leaves, posts}
use Rattle.k_grants.specs.Pushes.{WasKilled}

-- destroyed by a context that owns the thread's lock and the table lock
pub record IsKilled (b : Board) (j t : ℕ) (v : StateWord) : Type 0 where
  pub owner : b.owner t ≡ Some j
  pub table : b.table ≡ Some j
  pub version : v.version ≡ (b.seen t).word.version
  pub dead : is_dead v ≡ true

module _ (b : Board) (j : ℕ) where
  -- A word of another thread that runs stays, but where the thread is destroyed.
  pub run_stays : (t : ℕ) (v : Seen) → Change b j t v → t ≢ j → runs (b.seen t).word.state ≡ true →
      (v.word ≡ (b.seen t).word) ⊎ IsKilled b j t v.word
  run_stays _ _ (same t) ne r = inl refl
  run_stays _ _ (calls w q p run goes) ne r = absurd (ne refl)
  run_stays _ _ (settles v o ver al al2 ns us) ne r = absurd (ne refl)
  run_stays _ _ (passes t q o op none) ne r = inl refl
  run_stays _ _ (delivers t from o op told) ne r = absurd (grind (arith, op, r))
  run_stays _ _ (takes t to o nj st none) ne r = absurd (grind (arith, st, r))
  run_stays _ _ (joins t to o nj hr st) ne r = absurd (grind (arith, st, r))
  run_stays _ _ (frees_sender t to joined o tb dd st none) ne r = absurd (grind (arith, st, r))
  run_stays _ _ (frees_receiver t from o tb dd st none) ne r = absurd (grind (arith, st, r))
  run_stays _ _ (kills t o tb nk al) ne r = inr record { owner = o; table = tb; version = refl; dead = refl }
  run_stays _ _ (makes t w p tb d nw rn ver) ne r = absurd (grind (arith, d, r))
  run_stays _ _ (leaves wt) ne r = absurd (ne refl)
  run_stays _ _ (posts t m o op) ne r = inl refl

  -- A number's version stays, and a dead word stays dead; or the number has a new thread.
  versions : (t : ℕ) (v : Seen) → Change b j t v
      → ((v.word.version ≡ (b.seen t).word.version) × (is_dead (b.seen t).word ≡ true → is_dead v.word ≡ true)) ⊎
      (v.word.version ≡ (b.seen t).word.version + 1)
  versions _ _ (same t) = inl (refl, λ d. d)
  versions _ _ (calls w q p run goes) = inl (goes.version, λ d. absurd (grind (arith, run, d)))
  versions _ _ (settles v o ver al al2 ns us) = inl (ver, λ d. absurd (let z : true ≡ false = sym d ∙ al in cc))
  versions _ _ (passes t q o op none) = inl (refl, λ d. d)
  versions _ _ (delivers t from o op told) = inl (refl, λ d. absurd (grind (arith, op, d)))
  versions _ _ (takes t to o nj st none) = inl (refl, λ d. absurd (grind (arith, st, d)))
  versions _ _ (joins t to o nj hr st) = inl (refl, λ d. absurd (grind (arith, st, d)))
  versions _ _ (frees_sender t to joined o tb dd st none) = inl (refl, λ d. absurd (grind (arith, st, d)))
  versions _ _ (frees_receiver t from o tb dd st none) = inl (refl, λ d. absurd (grind (arith, st, d)))
  versions _ _ (kills t o tb nk al) = inl (refl, λ d. refl)
  versions _ _ (makes t w p tb d nw rn ver) = inr ver
  versions _ _ (leaves wt) = inl (refl, λ d. d)
  versions _ _ (posts t m o op) = inl (refl, λ d. d)

  -- Who was destroyed stays so.
  pub killed_stays : (who : ThreadId) (t : ℕ) (v : Seen) → Change b j t v → WasKilled (b.seen t).word who → WasKilled v.word who
  killed_stays who t v h k = by (versions t v h) k
    where
      by : ((v.word.version ≡ (b.seen t).word.version) × (is_dead (b.seen t).word ≡ true → is_dead v.word ≡ true)) ⊎
          (v.word.version ≡ (b.seen t).word.version + 1)
          → WasKilled (b.seen t).word who → WasKilled v.word who
      by (inl e) (inl l) = inl (subst (λ (n : ℕ). who.version < n) (sym e.0) l)
      by (inl e) (inr d) = inr (e.0 ∙ d.0, e.1 d.1)
      by (inr e) (inl l) = inl (omega (arith, l, e))
      by (inr e) (inr d) = inl (let z = d.0 in omega (arith, z, e))
