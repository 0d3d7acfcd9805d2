-- The laws on wants, holders and ranks, of the kernel's sections.
use Rattle.std.proofs.Common.{◌≡◌, ◌≢◌, ℕ, ◌<◌, ◌≤◌, refl, sym, ap, ◌∙◌, subst, arith}
use Rattle.std.proofs.Common.{Option, Some, None, List, [], ◌∷◌, ◌⊎◌, inl, inr}
use Rattle.std.proofs.lemmas.Bool.Decides.{eqb_tells}
use Rattle.k_model.specs.Maps.{upd}
use Rattle.k_model.proofs.Maps.{upd_same, upd_other}
use Rattle.k_locks.specs.declared.locks.Lock.{Lock}
use Rattle.k_locks.specs.declared.locks.Lock.TheVariants as lock
use Rattle.k_locks.specs.Asks.{Ask, Want, want_for, want_of}
use Rattle.k_locks.specs.Asks as asks
use Rattle.k_locks.specs.Locks.{Holds, lowest_held, rank_of}
use Rattle.k_locks.specs.Tables.{IsAbove}
use Rattle.k_bound.specs.Sections.{want_rank}
use Rattle.k_threads.specs.declared.destroy.DestroyLocked.TheVariants as destroy_locked
use Rattle.k_threads.specs.DestroyTable as destroy
use Rattle.k_switch.specs.declared.switch.SwitchCall.{SwitchCall}
use Rattle.k_board.specs.Words.{Programs}
use Rattle.k_board.specs.Boards.{At, InDestroy, Context, Board, owner_of}
use Rattle.k_good.specs.Locks.{locks_at}
use Rattle.k_good.proofs.Owners.{Named}
use Rattle.k_sections.specs.Kept.{IsGoodSituation, IsKept}
use Rattle.k_sections.specs.Situations.{Situation, holder_of, kept_want, want_at, wants_of}
use Rattle.k_sections.specs.Stepping.{IsStill, board_after, has_ended, if_removed, is_coming}
use Rattle.k_sections.specs.Stepping.{has_died, is_nowhere, removed_after, removes, situation_after}
use Rattle.k_sections.proofs.Answered.{held_owned, holder_is, none_some, owned_held, some_is}
use Rattle.k_sections.proofs.Elsewhere.{Elsewhere, arrives, goes, holder_moves, itself_is, locks_elsewhere, other_context, stays}
use Rattle.k_sections.proofs.LockSteps.{LockStep, lock_step, ranked_at}
use Rattle.k_sections.proofs.Moved.{Moved, got, holds_itself, holds_some, moved, owns_lowest, owns_some, rank_above}
use Rattle.k_sections.proofs.Moved.{rank_context, rank_lowest, rank_within, released_last, returned, unmoved}
use Rattle.k_sections.proofs.Tables.{ThreadTables}
use Rattle.k_sections.proofs.Turned.{step_turns}
use Rattle.k_sections.proofs.Wanted.{RemovesAt, Wanted, a_context, a_lock, no_context, removes_at, removes_other, wanted}

pub same_still : (g : Programs) (calls : Board → ℕ → SwitchCall) (b : Board) (i : ℕ) (p : At) → IsStill p →
    board_after g calls b i p ≡ b
same_still g calls b i _ is_coming = refl
same_still g calls b i _ is_nowhere = refl
same_still g calls b i _ has_ended = refl
same_still g calls b i _ has_died = refl

-- a context that asks for one holds the table lock
removing_locks : (p : At) (n : ℕ) → RemovesAt p n → locks_at p ≡ Some lock.Table ∷ None ∷ None ∷ []
removing_locks p n r = ap locks_at r.at

table_alone : (l : Lock) → Holds l (Some lock.Table ∷ None ∷ None ∷ []) → l ≡ lock.Table
table_alone (lock.Thread n) e = absurd cc
table_alone lock.Table e = refl
table_alone lock.Ready e = absurd cc

if_removed_is : (m : ℕ) (o : Option Lock) (n : ℕ) → if_removed m o ≡ Some n → (m ≡ n) × (o ≡ None)
if_removed_is m None n e = (cc, refl)
if_removed_is m (Some l) n e = absurd cc

removed_unlocked : (b : Board) (p : At) (n : ℕ) → removes b p ≡ Some n →
    RemovesAt p n × (lowest_held (locks_at (b.context n).at) ≡ None)
removed_unlocked b (InDestroy c (destroy.Locked destroy_locked.RemoveContext)) n e =
    let t = if_removed_is c.who.number (lowest_held (locks_at (b.context c.who.number).at)) n e in
    (record { call = c; at = refl; number = t.0 }, subst (λ (k : ℕ). lowest_held (locks_at (b.context k).at) ≡ None) t.0 t.1)
removed_unlocked b p n e = absurd cc

module _ (tables : ThreadTables) (g : Programs) (calls : Board → ℕ → SwitchCall) (I : Board → Type 0) (k : IsKept g I) where
  abbrev pub next_board : Board → ℕ → Board
  next_board b i = board_after g calls b i (b.context i).at

  -- the next step of a context that is there
  abbrev pub next_of : Situation → ℕ → Situation
  next_of s i = situation_after g calls s i None

  abbrev pub step_of : Situation → ℕ → Situation
  step_of s i = situation_after g calls s i (s.removed i)

  pub named : (b : Board) → I b → Named b
  named b h = (k.good b h).locks

  pub kept_after : (b : Board) (i : ℕ) → I b → I (next_board b i)
  kept_after b i h = elim (step_turns g b (named b h) i calls) [
    | inl t ↦ k.kept b (next_board b i) i h t
    | inr s ↦ subst I (sym (same_still g calls b i (b.context i).at s)) h
  ]

  pub lock_moves : (b : Board) (i : ℕ) → I b → LockStep b (next_board b i) i (b.context i).at
  lock_moves b i h = lock_step b (named b h) i tables g calls (b.context i).at refl

  pub elsewhere : (b : Board) (i n : ℕ) → I b → n ≢ i → Elsewhere b.context (next_board b i).context
      (removes b (b.context i).at) n
  elsewhere b i n h ne = other_context g b i n ne calls (b.context i).at ((k.good b h).places i)

  pub locks_same : (b : Board) (i n : ℕ) → I b → n ≢ i → locks_at ((next_board b i).context n).at ≡ locks_at (b.context n).at
  locks_same b i n h ne = locks_elsewhere b.context (next_board b i).context (removes b (b.context i).at) n (elsewhere b i n h ne)

  -- a context that was removed makes no step
  pub by_step : (P : Situation → Type 0) (s : Situation) (i : ℕ) → P s → (s.removed i ≡ None → P (next_of s i)) → P (step_of s i)
  by_step P s i same next = go (s.removed i) refl
    where
      go : (o : Option (Option Want)) → s.removed i ≡ o → P (situation_after g calls s i o)
      go None e = next e
      go (Some w) e = same

  -- who holds up anything wasn't removed
  pub holder_there : (s : Situation) (i : ℕ) (want : Want) → IsGoodSituation I s → holder_of s.board want ≡ Some i →
      s.removed i ≡ None
  holder_there s i want h q = go (s.removed i) refl
    where
      go : (o : Option (Option Want)) → s.removed i ≡ o → o ≡ None
      go None e = refl
      go (Some w) e = absurd (holds_some s.board (named s.board h.board) i want q (h.unlocked i w e))

  pub wants_there : (s : Situation) (i : ℕ) → s.removed i ≡ None →
      wants_of s i ≡ want_at (s.board.context i).own (s.board.context i).at
  wants_there s i e = ap (λ (o : Option (Option Want)). kept_want o (want_at (s.board.context i).own (s.board.context i).at)) e

  -- what another context asks for, in one that stays, arrives or goes
  asks_same : (b : Board) (i n : ℕ) → I b → n ≢ i → removes b (b.context i).at ≢ Some n →
      want_at ((next_board b i).context n).own ((next_board b i).context n).at ≡ want_at (b.context n).own (b.context n).at
  asks_same b i n h ne spared = go (elsewhere b i n h ne)
    where
      go : Elsewhere b.context (next_board b i).context (removes b (b.context i).at) n →
          want_at ((next_board b i).context n).own ((next_board b i).context n).at ≡ want_at (b.context n).own (b.context n).at
      go (stays e) = ap (λ (x : Context). want_at x.own x.at) e
      go (arrives w v) = v.1 ∙ sym w.1
      go (goes d e at) = absurd (spared d)

  -- WHO CAN ASK FOR A CONTEXT

  removing : (s : Situation) (i n : ℕ) → IsGoodSituation I s → wants_of s i ≡ Some (asks.Context n) →
      RemovesAt (s.board.context i).at n
  removing s i n h e = go (s.removed i) refl e
    where
      go : (o : Option (Option Want)) → s.removed i ≡ o → kept_want o (want_at (s.board.context i).own (s.board.context i).at) ≡
          Some (asks.Context n) → RemovesAt (s.board.context i).at n
      go None r q = removes_at (s.board.context i).own (s.board.context i).at n q
      go (Some w) r q = absurd (h.spared i w r n q)

  pub others_removed : (s : Situation) (i n : ℕ) → IsGoodSituation I s → wants_of s i ≡ Some (asks.Context n) → n ≢ i
  others_removed s i n h e = removes_other g s.board i n ((k.good s.board h.board).places i) (removing s i n h e)

  remover_owns : (b : Board) (i n : ℕ) → I b → RemovesAt (b.context i).at n → b.table ≡ Some i
  remover_owns b i n h r =
      held_owned b (named b h) lock.Table i (subst (λ (ls : List (Option Lock)). Holds lock.Table ls)
      (sym (removing_locks (b.context i).at n r)) refl)

  -- THE BOARD STAYS GOOD

  pub stays_good : (s : Situation) (i : ℕ) → IsGoodSituation I s → IsGoodSituation I (step_of s i)
  stays_good s i h = by_step (IsGoodSituation I) s i h next
    where
      b : Board
      b = s.board

      left : Option ℕ
      left = removes b (b.context i).at

      -- what was removed before, and what is removed now
      old : (n : ℕ) → s.removed i ≡ None → (want : Option Want) → s.removed n ≡ Some want → n ≢ i
      old n there want e d = absurd (none_some (ap s.removed d ∙ there) e)

      unlocked_now : (n : ℕ) → n ≢ i → lowest_held (locks_at (b.context n).at) ≡ None →
          lowest_held (locks_at ((next_board b i).context n).at) ≡ None
      unlocked_now n ne e = ap lowest_held (locks_same b i n h.board ne) ∙ e

      by_left : (there : s.removed i ≡ None) (o : Option ℕ) → left ≡ o → (n : ℕ) (want : Option Want) →
          removed_after s o n ≡ Some want → (lowest_held (locks_at ((next_board b i).context n).at) ≡ None) ×
          ((m : ℕ) → want ≢ Some (asks.Context m))
      by_left there None e n want q = (unlocked_now n (old n there want q) (h.unlocked n want q), h.spared n want q)
      by_left there (Some m) e n want q = elim (eqb_tells n m) [
        | inl d ↦ now d.1
        | inr d ↦
            let q' = sym (upd_other s.removed m (Some (wants_of s m)) n d.1) ∙ q in
            (unlocked_now n (old n there want q') (h.unlocked n want q'), h.spared n want q')
      ]
        where
          freed : RemovesAt (b.context i).at m × (lowest_held (locks_at (b.context m).at) ≡ None)
          freed = removed_unlocked b (b.context i).at m e

          now : n ≡ m → (lowest_held (locks_at ((next_board b i).context n).at) ≡ None) × ((m : ℕ) → want ≢ Some (asks.Context m))
          now d = (
            unlocked_now n (λ x. removes_other g b i m ((k.good b h.board).places i) freed.0 (sym d ∙ x))
                (subst (λ (z : ℕ). lowest_held (locks_at (b.context z).at) ≡ None) (sym d) freed.1),
            spared,
          )
            where
              kept : wants_of s m ≡ want
              kept =
                  some_is (sym (ap (λ (z : ℕ). upd s.removed m (Some (wants_of s m)) z) d
                  ∙ upd_same s.removed m (Some (wants_of s m))) ∙ q)

              spared : (x : ℕ) → want ≢ Some (asks.Context x)
              spared x z =
                  let owns = remover_owns b m x h.board (removing s m x h (kept ∙ z)) in
                  owns_some b (named b h.board) m lock.Table owns freed.1

      next : s.removed i ≡ None → IsGoodSituation I (next_of s i)
      next there = record {
        board = kept_after b i h.board;
        unlocked = λ n want q. (by_left there left refl n want q).0;
        spared = λ n want q. (by_left there left refl n want q).1;
      }

  -- A STEP OF ANOTHER

  pub wants_same : (s : Situation) (this other : ℕ) → IsGoodSituation I s → this ≢ other →
      wants_of (step_of s other) this ≡ wants_of s this
  wants_same s this other h ne =
      by_step (λ t. wants_of t this ≡ wants_of s this) s other refl (λ there. go (removes b (b.context other).at) refl)
    where
      b : Board
      b = s.board

      now : Option Want
      now = want_at ((next_board b other).context this).own ((next_board b other).context this).at

      go : (o : Option ℕ) → removes b (b.context other).at ≡ o → kept_want (removed_after s o this) now ≡ wants_of s this
      go None e = ap (kept_want (s.removed this)) (asks_same b other this h.board ne (λ d. none_some e d))
      go (Some m) e = elim (eqb_tells this m) [
        | inl d ↦
            ap (λ (o : Option (Option Want)). kept_want o now)
            (ap (λ (z : ℕ). upd s.removed m (Some (wants_of s m)) z) d.1 ∙ upd_same s.removed m (Some (wants_of s m)))
            ∙ ap (wants_of s) (sym d.1)
        | inr d ↦
            ap (λ (o : Option (Option Want)). kept_want o now) (upd_other s.removed m (Some (wants_of s m)) this d.1)
            ∙ ap (kept_want (s.removed this)) (asks_same b other this h.board ne (λ q. d.1 (sym (some_is (sym e ∙ q)))))
      ]

  pub holds_on : (s : Situation) (this other : ℕ) (want : Want) → IsGoodSituation I s → this ≢ other →
      holder_of s.board want ≡ Some this → holder_of (step_of s other).board want ≡ Some this
  holds_on s this other want h ne q =
      by_step (λ t. holder_of t.board want ≡ Some this) s other q
      (λ there. holder_moves s.board (next_board s.board other) (named s.board h.board)
      (named (next_board s.board other) (kept_after s.board other h.board)) this
      (locks_same s.board other this h.board ne) want q)

  pub held_before : (s : Situation) (this other : ℕ) (want : Want) → IsGoodSituation I s → this ≢ other →
      holder_of (step_of s other).board want ≡ Some this → holder_of s.board want ≡ Some this
  held_before s this other want h ne =
      by_step (λ t. holder_of t.board want ≡ Some this → holder_of s.board want ≡ Some this) s other (λ q. q)
      (λ there q. holder_moves (next_board s.board other) s.board
      (named (next_board s.board other) (kept_after s.board other h.board)) (named s.board h.board) this
      (sym (locks_same s.board other this h.board ne)) want q)

  -- RANKS

  ask_rises : (b : Board) (i : ℕ) → I b → (l : Lock) → owner_of b l ≡ Some i → (next : Want) →
      want_at (b.context i).own (b.context i).at ≡ Some next → want_rank (want_for l) < want_rank next
  ask_rises b i h l mine next e = go next (wanted next) e
    where
      st : LockStep b (next_board b i) i (b.context i).at
      st = lock_moves b i h

      held : Holds l (locks_at (b.context i).at)
      held = owned_held b (named b h) l i mine

      want_is : (a : Ask) (m : Lock) → want_of a ≡ Some (want_for m) → a ≡ asks.Acquire m
      want_is (asks.Acquire k) m e = ap (λ (z : Lock). asks.Acquire z) (lock_is k m e)
        where
          lock_is : (k m : Lock) → Some (want_for k) ≡ Some (want_for m) → k ≡ m
          lock_is (lock.Thread x) (lock.Thread y) e = cc
          lock_is lock.Table lock.Table e = refl
          lock_is lock.Ready lock.Ready e = refl
          lock_is (lock.Thread x) lock.Table e = absurd cc
          lock_is (lock.Thread x) lock.Ready e = absurd cc
          lock_is lock.Table (lock.Thread y) e = absurd cc
          lock_is lock.Table lock.Ready e = absurd cc
          lock_is lock.Ready (lock.Thread y) e = absurd cc
          lock_is lock.Ready lock.Table e = absurd cc
      want_is (asks.Remove id) m e = absurd (no_context m (sym e))
      want_is a m e = absurd cc

      go : (next : Want) → Wanted next → want_at (b.context i).own (b.context i).at ≡ Some next →
          want_rank (want_for l) < want_rank next
      go _ (a_lock m) e =
          let a = want_is st.ask m (sym st.wants ∙ e) in
          rank_above l m (subst (λ (z : Ask). IsAbove z (locks_at (b.context i).at)) a st.above (rank_of l) l held)
      go _ (a_context n) e =
          let r = removes_at (b.context i).own (b.context i).at n e in
          let t = table_alone l (subst (Holds l) (removing_locks (b.context i).at n r) held) in
          subst (λ (z : Lock). want_rank (want_for z) < 1) (sym t) (omega arith)

  pub rank_rises : (s : Situation) (context owner : ℕ) (want next : Want) → IsGoodSituation I s → wants_of s context ≡ Some want →
      holder_of s.board want ≡ Some owner → wants_of s owner ≡ Some next → want_rank want < want_rank next
  rank_rises s context owner want next h asked holds e = go want (wanted want) asked holds
    where
      b : Board
      b = s.board

      go : (want : Want) → Wanted want → wants_of s context ≡ Some want → holder_of b want ≡ Some owner →
          want_rank want < want_rank next
      go _ (a_lock l) asked holds =
          ask_rises b owner h.board l (sym (holder_is b l) ∙ holds) next
          (sym (wants_there s owner (holder_there s owner (want_for l) h holds)) ∙ e)
      go _ (a_context n) asked holds =
          let same = itself_is n (lowest_held (locks_at (b.context n).at)) owner holds in
          let r = removing s context n h asked in
          let other = others_removed s context n h asked in
          let one = owns_lowest b (named b h.board) owner (holds_some b (named b h.board) owner (asks.Context n) holds)
          (ranked_at tables (b.context owner).at) in
          let up = ask_rises b owner h.board one.lock one.owned next
          (sym (wants_there s owner (holder_there s owner (asks.Context n) h holds)) ∙ e) in
          let above = rank_context one.lock (λ t. other (same
          ∙ some_is (sym (subst (λ (z : Lock). owner_of b z ≡ Some owner) t one.owned)
          ∙ remover_owns b context n h.board r))) in
          omega (arith, up, above)

  -- WHAT IS RELEASED, AND WHAT IS GAINED

  pub last_first : (s : Situation) (context : ℕ) (released kept : Want) → IsGoodSituation I s →
      holder_of s.board released ≡ Some context → holder_of (step_of s context).board released ≢ Some context →
      holder_of (step_of s context).board kept ≡ Some context → want_rank kept ≤ want_rank released
  last_first s context released kept h mine =
      by_step (λ t. holder_of t.board released ≢ Some context → holder_of t.board kept ≡ Some context →
      want_rank kept ≤ want_rank released) s context (λ ne q. absurd (ne mine))
      (λ there ne q. go released (wanted released) kept (wanted kept) mine ne q)
    where
      b : Board
      b = s.board

      b' : Board
      b' = next_board b context

      now : Named b'
      now = named b' (kept_after b context h.board)

      last : (l : Lock) → owner_of b l ≡ Some context → owner_of b' l ≢ Some context → (m : Lock) → owner_of b' m ≡ Some context →
          rank_of m ≤ rank_of l
      last = released_last b b' context (b.context context).at (lock_moves b context h.board) (named b h.board) refl

      go : (released : Want) → Wanted released → (kept : Want) → Wanted kept → holder_of b released ≡ Some context →
          holder_of b' released ≢ Some context → holder_of b' kept ≡ Some context → want_rank kept ≤ want_rank released
      go _ (a_lock l) _ (a_lock m) mine ne q =
          rank_within m l (last l (sym (holder_is b l) ∙ mine) (λ e. ne (holder_is b' l ∙ e)) m (sym (holder_is b' m) ∙ q))
      go _ (a_lock l) _ (a_context n) mine ne q =
          let one = owns_lowest b' now context (holds_some b' now context (asks.Context n) q)
          (ranked_at tables (b'.context context).at) in
          let below = last l (sym (holder_is b l) ∙ mine) (λ e. ne (holder_is b' l ∙ e)) one.lock one.owned in
          let above = rank_context l (λ t. ne (holder_is b' l
          ∙ subst (λ (z : Lock). owner_of b' z ≡ Some context)
          (rank_lowest one.lock (subst (λ (z : Lock). rank_of one.lock ≤ rank_of z) t below) ∙ sym t) one.owned)) in
          omega (arith, above)
      go _ (a_context n) kept w mine ne q =
          let same = itself_is n (lowest_held (locks_at (b.context n).at)) context mine in
          absurd (ne (subst (λ (z : ℕ). holder_of b' (asks.Context z) ≡ Some context) (sym same)
          (holds_itself b' now context (holds_some b' now context kept q))))

  pub gains_asked : (s : Situation) (context : ℕ) (held gained : Want) → IsGoodSituation I s →
      holder_of s.board held ≡ Some context → holder_of (step_of s context).board gained ≡ Some context →
      (holder_of s.board gained ≡ Some context) ⊎ (wants_of s context ≡ Some gained)
  gains_asked s context held gained h mine =
      by_step (λ t. holder_of t.board gained ≡ Some context →
      (holder_of s.board gained ≡ Some context) ⊎ (wants_of s context ≡ Some gained)) s context (λ q. inl q)
      (λ there q. go there gained (wanted gained) q)
    where
      b : Board
      b = s.board

      st : LockStep b (next_board b context) context (b.context context).at
      st = lock_moves b context h.board

      go : s.removed context ≡ None → (gained : Want) → Wanted gained → holder_of (next_board b context) gained ≡ Some context →
          (holder_of b gained ≡ Some context) ⊎ (wants_of s context ≡ Some gained)
      go there _ (a_lock l) q = by_lock (moved b (next_board b context) context (b.context context).at st l)
        where
          by_lock : Moved b (next_board b context) context st.ask l →
              (holder_of b (want_for l) ≡ Some context) ⊎ (wants_of s context ≡ Some (want_for l))
          by_lock (unmoved e) = inl (holder_is b l ∙ sym e ∙ sym (holder_is (next_board b context) l) ∙ q)
          by_lock (got a e) = inr (wants_there s context there ∙ st.wants ∙ ap want_of a)
          by_lock (returned a e) = absurd (none_some e (sym (holder_is (next_board b context) l) ∙ q))
      go there _ (a_context n) q =
          let same = itself_is n (lowest_held (locks_at ((next_board b context).context n).at)) context q in
          inl (subst (λ (z : ℕ). holder_of b (asks.Context z) ≡ Some context) (sym same)
          (holds_itself b (named b h.board) context (holds_some b (named b h.board) context held mine)))
