-- The entries that wait, where one word becomes a sender's, or is one no more.
use Rattle.std.proofs.Common.{◌≡◌, ◌≢◌, ℕ, Bool, true, false, cond, not, eqb, ◌&&◌}
use Rattle.std.proofs.Common.{refl, sym, ap, ◌∙◌, List, [], ◌∷◌, ◌++◌, map, arith}
use Rattle.std.specs.Prelude.{◌==◌}
use Rattle.std.specs.List.{filter}
use Rattle.std.proofs.lemmas.Bool.{eq-eqb}
use Rattle.k_ids.specs.declared.threads.ThreadId.{ThreadId}
use Rattle.k_ids.specs.declared.state_word.StateWord.{StateWord}
use Rattle.k_model.specs.State.{Waiting}
use Rattle.k_senders.specs.declared.entries.SenderEntry.{SenderEntry}
use Rattle.k_senders.specs.Entries.{number_of, sender_of}
use Rattle.k_senders.specs.Queue.{stands}
use Rattle.k_locks.specs.Shown.{is_dead}
use Rattle.k_ipc.specs.Words.{sends_to}
use Rattle.k_board.specs.Words.{Seen}
use Rattle.k_board.specs.Boards.{Board, id_at}
use Rattle.k_board.specs.Facts.{waits_for}
use Rattle.k_shown.specs.Memory.{waiting_of}
use Rattle.k_legal.specs.Waiting.{entries_by, waiters, waiters_in}

-- WORDS

-- Whoever has this word waits for the thread by the new word as by the old.
abbrev pub SameTo : ThreadId → StateWord → StateWord → Type 0
SameTo to v w = (e : SenderEntry) → waits_for to e w ≡ waits_for to e v

and_none : (a : Bool) → (a && false) ≡ false
and_none true = refl
and_none false = refl

pub same_sends : (to : ThreadId) (v w : StateWord) → w.version ≡ v.version → sends_to to w.state ≡ sends_to to v.state →
    SameTo to v w
same_sends to v w ver s e = λ d. eqb (ver d) (sender_of e).version && s d

pub neither_sends : (to : ThreadId) (v w : StateWord) → sends_to to v.state ≡ false → sends_to to w.state ≡ false → SameTo to v w
neither_sends to v w p q e =
    ap (λ (s : Bool). eqb w.version (sender_of e).version && s) q ∙ and_none _
    ∙ sym (ap (λ (s : Bool). eqb v.version (sender_of e).version && s) p ∙ and_none _)

-- THE ENTRIES OF A LIST

module _ (to : ThreadId) (s s' : ℕ → Seen) where
  abbrev test : (ℕ → Seen) → SenderEntry → Bool
  test u e = waits_for to e (u (number_of e)).word

  pub same_waiters : ((t : ℕ) → SameTo to (s t).word (s' t).word) → (es : List SenderEntry) →
      waiters_in to s' es ≡ waiters_in to s es
  same_waiters h es = λ d. map waiting_of (filter (λ e. h (number_of e) e d) es)

  -- a list in which the number whose word changes has no entry
  pub apart_waiters : (m : ℕ) → ((t : ℕ) → t ≢ m → SameTo to (s t).word (s' t).word) → (es : List SenderEntry) →
      stands m es ≡ false → waiters_in to s' es ≡ waiters_in to s es
  apart_waiters m h [] none = refl
  apart_waiters m h (e ∷ es) none =
      let ne : number_of e ≢ m = λ q. let yes : (number_of e == m) ≡ true = eq-eqb (number_of e) m q in grind arith in
      let rest : stands m es ≡ false = grind arith in
      (λ d. map waiting_of (cond (h (number_of e) ne e d) (e ∷ filter (test s') es) (filter (test s') es)))
      ∙ step (test s e) (apart_waiters m h es rest)
    where
      step : (w : Bool) → waiters_in to s' es ≡ waiters_in to s es →
          map waiting_of (cond w (e ∷ filter (test s') es) (filter (test s') es)) ≡
          map waiting_of (cond w (e ∷ filter (test s) es) (filter (test s) es))
      step true q = ap (λ (ws : List Waiting). waiting_of e ∷ ws) q
      step false q = q

  -- whom a test drops, once the senders that it concerns wait no more
  pub dropped_waiters : (drops : Waiting → Bool) → ((e : SenderEntry) → test s' e ≡ (test s e && not (drops (waiting_of e)))) →
      (es : List SenderEntry) → waiters_in to s' es ≡ filter (λ w. not (drops w)) (waiters_in to s es)
  dropped_waiters drops h [] = refl
  dropped_waiters drops h (e ∷ es) =
      ap (λ (w : Bool). map waiting_of (cond w (e ∷ filter (test s') es) (filter (test s') es))) (h e)
      ∙ step (test s e) (dropped_waiters drops h es)
    where
      kept : (x : Bool) → waiters_in to s' es ≡ filter (λ w. not (drops w)) (waiters_in to s es) →
          map waiting_of (cond x (e ∷ filter (test s') es) (filter (test s') es)) ≡
          cond x (waiting_of e ∷ filter (λ w. not (drops w)) (waiters_in to s es))
          (filter (λ w. not (drops w)) (waiters_in to s es))
      kept true q = ap (λ (ws : List Waiting). waiting_of e ∷ ws) q
      kept false q = q

      step : (w : Bool) → waiters_in to s' es ≡ filter (λ w. not (drops w)) (waiters_in to s es) →
          map waiting_of (cond (w && not (drops (waiting_of e))) (e ∷ filter (test s') es) (filter (test s') es)) ≡
          filter (λ w. not (drops w)) (map waiting_of (cond w (e ∷ filter (test s) es) (filter (test s) es)))
      step true q = kept (not (drops (waiting_of e))) q
      step false q = q

module _ (to : ThreadId) (s : ℕ → Seen) where
  pub append_waiters : (es fs : List SenderEntry) → waiters_in to s (es ++ fs) ≡ waiters_in to s es ++ waiters_in to s fs
  append_waiters [] fs = refl
  append_waiters (e ∷ es) fs = go (waits_for to e (s (number_of e)).word) (append_waiters es fs)
    where
      go : (w : Bool) → waiters_in to s (es ++ fs) ≡ waiters_in to s es ++ waiters_in to s fs →
          map waiting_of (cond w (e ∷ filter (λ f. waits_for to f (s (number_of f)).word) (es ++ fs))
          (filter (λ f. waits_for to f (s (number_of f)).word) (es ++ fs))) ≡
          map waiting_of (cond w (e ∷ filter (λ f. waits_for to f (s (number_of f)).word) es)
          (filter (λ f. waits_for to f (s (number_of f)).word) es)) ++ waiters_in to s fs
      go true q = ap (λ (ws : List Waiting). waiting_of e ∷ ws) q
      go false q = q

-- A NUMBER'S WAITERS

-- They become what the change makes of those of the number's thread, which is the same, or was destroyed before and after.
module _ (b b' : Board) (n : ℕ) where
  pub waiters_change : (f : List Waiting → List Waiting) → (is_dead (b.seen n).word ≡ true → f [] ≡ []) →
      is_dead (b'.seen n).word ≡ is_dead (b.seen n).word → (b'.seen n).word.version ≡ (b.seen n).word.version →
      (is_dead (b.seen n).word ≡ false → waiters_in (id_at b n) b'.seen (entries_by b'.queue b'.owner b'.context n) ≡
      f (waiters_in (id_at b n) b.seen (entries_by b.queue b.owner b.context n))) →
      waiters b' n ≡ f (waiters b n)
  waiters_change f none dead version same =
      ap (λ (d : Bool). cond d [] (waiters_in (id_at b' n) b'.seen (entries_by b'.queue b'.owner b'.context n))) dead
      ∙ go (is_dead (b.seen n).word) refl
    where
      go : (d : Bool) → is_dead (b.seen n).word ≡ d →
          cond d [] (waiters_in (id_at b' n) b'.seen (entries_by b'.queue b'.owner b'.context n)) ≡
          f (cond d [] (waiters_in (id_at b n) b.seen (entries_by b.queue b.owner b.context n)))
      go true e = sym (none e)
      go false e =
          ap (λ (v : ℕ). waiters_in (record { number = n; version = v }) b'.seen
          (entries_by b'.queue b'.owner b'.context n)) version
          ∙ same e
