-- What a step does to one lock, and what follows for the locks that its context still holds.
use Rattle.std.proofs.Common.{◌≡◌, ◌≢◌, ℕ, ◌<◌, ◌≤◌, refl, sym, ap, ◌∙◌, subst, arith, Option, Some, None, inl, inr}
use Rattle.std.proofs.lemmas.Grind.{common_steps}
use Rattle.k_locks.specs.declared.locks.Lock.{Lock}
use Rattle.k_locks.specs.declared.locks.Lock.TheVariants as lock
use Rattle.k_locks.specs.Asks.{Ask, Response, Want, want_for, want_of}
use Rattle.k_locks.specs.Asks as asks
use Rattle.k_locks.specs.Locks.{Holds, IsByRank, lowest_held, rank_of}
use Rattle.k_locks.proofs.Ranks.{lowest_is_held}
use Rattle.k_bound.specs.Sections.{want_rank}
use Rattle.k_board.specs.Boards.{At, Board, owner_of}
use Rattle.k_good.specs.Locks.{locks_at}
use Rattle.k_good.proofs.Owners.{Moves, Named, owners_move, same_lock}
use Rattle.k_sections.specs.Situations.{holder_of, itself}
use Rattle.k_sections.proofs.Answered.{held_owned, holder_is, none_some, owned_held, unheld_owns}
use Rattle.k_sections.proofs.Elsewhere.{itself_is}
use Rattle.k_sections.proofs.LockSteps.{LockStep}
use Rattle.k_sections.proofs.Wanted.{Wanted, a_context, a_lock, wanted}

-- ONE LOCK

pub data Moved (b b' : Board) (i : ℕ) (a : Ask) (l : Lock) : Type 0 where
  unmoved : owner_of b' l ≡ owner_of b l → Moved b b' i a l
  got : a ≡ asks.Acquire l → owner_of b' l ≡ Some i → Moved b b' i a l
  returned : a ≡ asks.Release l → owner_of b' l ≡ None → Moved b b' i a l

moved_by : (b b' : Board) (i : ℕ) (a : Ask) (r : Response) → Moves b b' i a r → (l : Lock) → Moved b b' i a l
moved_by b b' i (asks.Acquire m) asks.Got o l =
    elim (same_lock l m) [
      | inl e ↦ got (ap (λ (k : Lock). asks.Acquire k) (sym e)) (ap (owner_of b') e ∙ o.this)
      | inr ne ↦ unmoved (o.others l ne)
    ]
moved_by b b' i (asks.Release m) asks.Released o l =
    elim (same_lock l m) [
      | inl e ↦ returned (ap (λ (k : Lock). asks.Release k) (sym e)) (ap (owner_of b') e ∙ o.this)
      | inr ne ↦ unmoved (o.others l ne)
    ]
moved_by b b' i a r o l = unmoved (o l)

module _ (b b' : Board) (i : ℕ) (p : At) (st : LockStep b b' i p) where
  pub moved : (l : Lock) → Moved b b' i st.ask l
  moved l = moved_by b b' i st.ask st.response (owners_move b b' i st.ask st.response st.may st.owns) l

  -- what is released ranks above all that is still held
  pub released_last : Named b → p ≡ (b.context i).at → (l : Lock) → owner_of b l ≡ Some i → owner_of b' l ≢ Some i → (m : Lock) →
      owner_of b' m ≡ Some i → rank_of m ≤ rank_of l
  released_last h at l mine lost m kept = by_lock (moved l)
    where
      by_lock : Moved b b' i st.ask l → rank_of m ≤ rank_of l
      by_lock (unmoved e) = absurd (lost (e ∙ mine))
      by_lock (got a e) = absurd (lost e)
      by_lock (returned a e) = by_other a (moved m)
        where
          by_other : st.ask ≡ asks.Release l → Moved b b' i st.ask m → rank_of m ≤ rank_of l
          by_other a (unmoved d) =
              st.last l m a (subst (λ (q : At). Holds m (locks_at q)) (sym at) (owned_held b h m i (sym d ∙ kept)))
          by_other a (got c d) = absurd cc
          by_other a (returned c d) = absurd (none_some d kept)

-- RANKS

pub rank_above : (l m : Lock) → rank_of l < rank_of m → want_rank (want_for l) < want_rank (want_for m)
rank_above l m e = grind (arith, common_steps, e)

pub rank_within : (l m : Lock) → rank_of l ≤ rank_of m → want_rank (want_for l) ≤ want_rank (want_for m)
rank_within l m e = grind (arith, common_steps, e)

-- each lock but the table lock ranks above contexts
pub rank_context : (l : Lock) → l ≢ lock.Table → 1 < want_rank (want_for l)
rank_context (lock.Thread n) ne = omega arith
rank_context lock.Table ne = absurd (ne refl)
rank_context lock.Ready ne = omega arith

pub rank_lowest : (l : Lock) → rank_of l ≤ 0 → l ≡ lock.Table
rank_lowest (lock.Thread n) e = absurd (omega (arith, e))
rank_lowest lock.Table e = refl
rank_lowest lock.Ready e = absurd (omega (arith, e))

-- WHO HOLDS ANYTHING

-- a lock that a context owns
pub record OwnsOne (b : Board) (i : ℕ) : Type 0 where
  pub lock : Lock
  pub owned : owner_of b lock ≡ Some i

module _ (b : Board) (h : Named b) (i : ℕ) where
  pub owns_lowest : lowest_held (locks_at (b.context i).at) ≢ None → IsByRank (locks_at (b.context i).at) → OwnsOne b i
  owns_lowest some ranked = go (lowest_held (locks_at (b.context i).at)) refl some
    where
      go : (o : Option Lock) → lowest_held (locks_at (b.context i).at) ≡ o → o ≢ None → OwnsOne b i
      go None e ne = absurd (ne refl)
      go (Some l) e ne = record { lock = l; owned = held_owned b h l i (lowest_is_held (locks_at (b.context i).at) l ranked e) }

  pub owns_some : (l : Lock) → owner_of b l ≡ Some i → lowest_held (locks_at (b.context i).at) ≢ None
  owns_some l e q = unheld_owns b h i q l e

  itself_some : (o : Option Lock) → o ≢ None → itself i o ≡ Some i
  itself_some None ne = absurd (ne refl)
  itself_some (Some l) ne = refl

  itself_none : (o : Option Lock) → o ≡ None → itself i o ≡ Some i → ⊥
  itself_none o e q = cc

  -- who holds up anything holds a lock
  pub holds_some : (want : Want) → holder_of b want ≡ Some i → lowest_held (locks_at (b.context i).at) ≢ None
  holds_some want q = go want (wanted want) q
    where
      go : (want : Want) → Wanted want → holder_of b want ≡ Some i → lowest_held (locks_at (b.context i).at) ≢ None
      go _ (a_lock l) q = owns_some l (sym (holder_is b l) ∙ q)
      go _ (a_context n) q =
          let same = itself_is n (lowest_held (locks_at (b.context n).at)) i q in
          λ e. itself_none (lowest_held (locks_at (b.context i).at)) e
          (subst (λ (k : ℕ). itself k (lowest_held (locks_at (b.context k).at)) ≡ Some i) same q)

  -- and holds up its own removal
  pub holds_itself : lowest_held (locks_at (b.context i).at) ≢ None → holder_of b (asks.Context i) ≡ Some i
  holds_itself ne = itself_some (lowest_held (locks_at (b.context i).at)) ne
