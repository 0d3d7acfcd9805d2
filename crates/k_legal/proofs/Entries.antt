-- The entries of a queue that wait, over a step: which words tell the same, and what becomes of the list where an entry goes.
use Rattle.std.proofs.Common.{◌≡◌, ◌≢◌, ℕ, Bool, true, false, cond, ◌&&◌, eqb, refl, sym, ap, ◌∙◌}
use Rattle.std.proofs.Common.{subst, List, [], ◌∷◌, map, Option, Some, None, arith, inl, inr}
use Rattle.std.specs.List.{filter}
use Rattle.std.specs.Prelude.{◌==◌}
use Rattle.std.proofs.lemmas.Bool.{eqb-true}
use Rattle.std.proofs.lemmas.Bool.Decides.{nat_tests}
use Rattle.k_ids.specs.declared.state_word.State.{State}
use Rattle.k_ids.specs.declared.state_word.State.TheVariants as state
use Rattle.k_ids.specs.declared.state_word.StateWord.{StateWord}
use Rattle.k_ids.specs.declared.threads.ThreadId.{ThreadId}
use Rattle.k_model.specs.Maps.{upd}
use Rattle.k_model.specs.State.{Waiting}
use Rattle.k_model.proofs.Maps.{upd_cases, upd_other}
use Rattle.k_senders.specs.declared.entries.SenderEntry.{SenderEntry}
use Rattle.k_senders.specs.Entries.{number_of, sender_of}
use Rattle.k_senders.specs.Queue.{entry_of, stands, without, without_thread}
use Rattle.k_locks.specs.declared.locks.Lock.TheVariants as lock
use Rattle.k_locks.specs.declared.points.Point.{Point}
use Rattle.k_locks.specs.Asks.{Ask, Response}
use Rattle.k_locks.specs.Asks as asks
use Rattle.k_locks.specs.Shown.{is_dead}
use Rattle.k_script.specs.Plays.{Position}
use Rattle.k_ipc.specs.Words.{sends_to}
use Rattle.k_board.specs.Words.{Programs, noted}
use Rattle.k_board.specs.Boards.{Board, Context, id_at}
use Rattle.k_board.specs.Facts.{waits_for}
use Rattle.k_board.specs.Steps.{Answers, owned, wrote}
use Rattle.k_good.proofs.Words.{IsWritten, word_after}
use Rattle.k_shown.specs.Memory.{waiting_of}
use Rattle.k_legal.specs.Waiting.{coming_at, coming_by, entries_by, waiters, waiters_in}
use Rattle.k_points.proofs.Exceptions.{Owns}

-- LISTS

-- a test of the entries that are left
pub tested : (test : Waiting → Bool) (p q : SenderEntry → Bool) → ((e : SenderEntry) → q e ≡ (p e && test (waiting_of e))) →
    (es : List SenderEntry) → filter test (map waiting_of (filter p es)) ≡ map waiting_of (filter q es)
tested test p q h [] = refl
tested test p q h (e ∷ es) = go (p e) (test (waiting_of e)) refl refl (h e) (tested test p q h es)
  where
    go : (a d : Bool) → p e ≡ a → test (waiting_of e) ≡ d → q e ≡ (p e && test (waiting_of e)) →
        filter test (map waiting_of (filter p es)) ≡ map waiting_of (filter q es) →
        filter test (map waiting_of (cond (p e) (e ∷ filter p es) (filter p es))) ≡
        map waiting_of (cond (q e) (e ∷ filter q es) (filter q es))
    go false d f t k r = rw (f, k) (rw f r)
    go true false f t k r = rw (f, k) (rw (f, t) r)
    go true true f t k r = rw (f, k) (rw (f, t) (ap (λ (ws : List Waiting). waiting_of e ∷ ws) r))

pub none_left : (p : SenderEntry → Bool) → ((e : SenderEntry) → p e ≡ false) → (es : List SenderEntry) → filter p es ≡ []
none_left p h [] = refl
none_left p h (e ∷ es) = rw (h e) (none_left p h es)

-- tests that differ at one number alone, of which there is no entry
pub left_but : (p q : SenderEntry → Bool) (n : ℕ) → ((e : SenderEntry) → number_of e ≢ n → q e ≡ p e) → (es : List SenderEntry) →
    stands n es ≡ false → filter q es ≡ filter p es
left_but p q n h [] s = refl
left_but p q n h (e ∷ es) s =
    rw (h e (λ d. grind (arith, nat_tests))) (ap (λ (fs : List SenderEntry). cond (p e) (e ∷ fs) fs)
    (left_but p q n h es (grind (arith, nat_tests))))

-- an entry that doesn't pass goes
pub left_without : (p : SenderEntry → Bool) (n : ℕ) (f : SenderEntry) → p f ≡ false → (es : List SenderEntry) →
    entry_of n es ≡ Some f → filter p (without n es) ≡ filter p es
left_without p n f off [] s = refl
left_without p n f off (e ∷ es) s = go (number_of e == n) refl s (left_without p n f off es)
  where
    go : (a : Bool) → (number_of e == n) ≡ a → cond a (Some e) (entry_of n es) ≡ Some f →
        (entry_of n es ≡ Some f → filter p (without n es) ≡ filter p es) →
        filter p (cond a es (e ∷ without n es)) ≡ filter p (e ∷ es)
    go true q t r = rw (ap p (same e f t) ∙ off) refl
      where
        same : (a c : SenderEntry) → Some a ≡ Some c → a ≡ c
        same a c q = cc
    go false q t r = ap (λ (fs : List SenderEntry). cond (p e) (e ∷ fs) fs) (r t)

pub left_without_thread : (p : SenderEntry → Bool) (who : ℕ) → ((e : SenderEntry) → e.who ≡ who → p e ≡ false) →
    (es : List SenderEntry) → filter p (without_thread who es) ≡ filter p es
left_without_thread p who h [] = refl
left_without_thread p who h (e ∷ es) = go (e.who == who) refl (left_without_thread p who h es)
  where
    go : (a : Bool) → (e.who == who) ≡ a → filter p (without_thread who es) ≡ filter p es →
        filter p (cond a es (e ∷ without_thread who es)) ≡ filter p (e ∷ es)
    go true q r = rw (h e (eqb-true e.who who q)) refl
    go false q r = ap (λ (fs : List SenderEntry). cond (p e) (e ∷ fs) fs) r

-- WORDS

-- The second word tells the same of its thread: which it is, whether it is there, and for whom it waits.
pub record Alike (w u : StateWord) : Type 0 where
  pub version : u.version ≡ w.version
  pub dead : is_dead u ≡ is_dead w
  pub sends : (to : ThreadId) → sends_to to u.state ≡ sends_to to w.state

pub alike_is : (w u : StateWord) → u ≡ w → Alike w u
alike_is w u e = record {
  version = ap (λ (v : StateWord). v.version) e;
  dead = ap is_dead e;
  sends = λ to. ap (λ (v : StateWord). sends_to to v.state) e;
}

-- whether a thread of this state is there, and waits not to send
abbrev pub is_calm : State → Bool
is_calm state.Dead = false
is_calm (state.Sending to joined) = false
is_calm (state.Run result) = true
is_calm (state.Receiving from) = true
is_calm state.Picking = true
is_calm state.Ended = true

pub calm_sends : (s : State) (to : ThreadId) → is_calm s ≡ true → sends_to to s ≡ false
calm_sends state.Dead to c = absurd cc
calm_sends (state.Sending r joined) to c = absurd cc
calm_sends (state.Run result) to c = refl
calm_sends (state.Receiving from) to c = refl
calm_sends state.Picking to c = refl
calm_sends state.Ended to c = refl

calm_there : (w : StateWord) → is_calm w.state ≡ true → is_dead w ≡ false
calm_there w c = grind (arith)

pub calm_alike : (w u : StateWord) → u.version ≡ w.version → is_calm w.state ≡ true → is_calm u.state ≡ true → Alike w u
calm_alike w u v c d = record {
  version = v;
  dead = calm_there u d ∙ sym (calm_there w c);
  sends = λ to. calm_sends u.state to d ∙ sym (calm_sends w.state to c);
}

-- an exchange that is won writes a word that tells the same
abbrev pub IsPlain : Ask → Response → Type 0
IsPlain (asks.Exchange n old new) asks.Won = Alike old new
IsPlain a r = Unit {0}

pub plain_words : (g : Programs) (b : Board) (at : Position) (p : Option Point) (a : Ask) (r : Response) → Answers b a r →
    IsPlain a r → (t : ℕ) → Alike (b.seen t).word (wrote (noted g b.seen at p) a r t).word
plain_words g b at p a r an q t =
    elim (word_after g b at p a r an t) [
      | inl e ↦ alike_is (b.seen t).word (wrote (noted g b.seen at p) a r t).word e
      | inr i ↦ written (wrote (noted g b.seen at p) a r t).word i
    ]
  where
    written : (w : StateWord) → IsWritten b a r t w → Alike (b.seen t).word w
    written w i =
        subst (λ (u : StateWord). Alike u w) (sym i.was) (subst (IsPlain (asks.Exchange t i.old w)) i.won
        (subst (λ (c : Ask). IsPlain c r) i.asked q))

-- WHO IS ABOUT TO COME

abbrev pub SameComing : (ℕ → Context) → (ℕ → Context) → Type 0
SameComing c d = (j n : ℕ) → coming_at (d j).at n ≡ coming_at (c j).at n

pub moved_comes : (c : ℕ → Context) (i : ℕ) (x : Context) → ((n : ℕ) → coming_at x.at n ≡ coming_at (c i).at n) →
    SameComing c (upd c i x)
moved_comes c i x e j n =
    upd_cases (λ (y : Context). coming_at y.at n ≡ coming_at (c j).at n) c i x j
    (λ q. e n ∙ ap (λ (m : ℕ). coming_at (c m).at n) (sym q)) (λ _. refl)

pub both_come : (c : ℕ → Context) (m i : ℕ) (y x : Context) → ((n : ℕ) → coming_at y.at n ≡ coming_at (c m).at n) →
    ((n : ℕ) → coming_at x.at n ≡ coming_at (c i).at n) → SameComing c (upd (upd c m y) i x)
both_come c m i y x f e j n = moved_comes (upd c m y) i x (λ t. e t ∙ sym (moved_comes c m y f i t)) j n ∙ moved_comes c m y f j n

pub comes_still : (c d : ℕ → Context) → SameComing c d → (o : Option ℕ) (n : ℕ) → coming_by o d n ≡ coming_by o c n
comes_still c d same None n = refl
comes_still c d same (Some j) n = same j n

-- a context from which no entry is about to come takes or releases a lock
pub owned_comes : (c d : ℕ → Context) → SameComing c d → (i : ℕ) → ((n : ℕ) → coming_at (c i).at n ≡ []) →
    (o : ℕ → Option ℕ) (a : Ask) (r : Response) → Owns o i a r → (n : ℕ) → coming_by (owned o i a r n) d n ≡ coming_by (o n) c n
owned_comes c d same i none o (asks.Acquire (lock.Thread m)) asks.Got free n =
    upd_cases (λ (x : Option ℕ). coming_by x d n ≡ coming_by (o n) c n) o m (Some i) n
    (λ q. same i n ∙ none n ∙ sym (ap (λ (x : Option ℕ). coming_by x c n) (ap o q ∙ free))) (λ _. comes_still c d same (o n) n)
owned_comes c d same i none o (asks.Release (lock.Thread m)) asks.Released mine n =
    upd_cases (λ (x : Option ℕ). coming_by x d n ≡ coming_by (o n) c n) o m None n
    (λ q. sym (ap (λ (x : Option ℕ). coming_by x c n) (ap o q ∙ mine) ∙ none n)) (λ _. comes_still c d same (o n) n)
owned_comes c d same i none o a r h n = comes_still c d same (o n) n

-- the context of a number that owns no lock is removed
pub removed_comes : (c : ℕ → Context) (m i : ℕ) (y x : Context) → ((n : ℕ) → coming_at x.at n ≡ []) →
    ((n : ℕ) → coming_at (c i).at n ≡ []) → (o : ℕ → Option ℕ) → ((n : ℕ) → o n ≢ Some m) → (n : ℕ) →
    coming_by (o n) (upd (upd c m y) i x) n ≡ coming_by (o n) c n
removed_comes c m i y x ex none o free n = by (o n) refl
  where
    at : (j : ℕ) → j ≢ m → coming_at (upd (upd c m y) i x j).at n ≡ coming_at (c j).at n
    at j ne =
        upd_cases (λ (z : Context). coming_at z.at n ≡ coming_at (c j).at n) (upd c m y) i x j
        (λ q. ex n ∙ sym (ap (λ (a : ℕ). coming_at (c a).at n) q ∙ none n))
        (λ _. ap (λ (z : Context). coming_at z.at n) (upd_other c m y j ne))

    by : (a : Option ℕ) → o n ≡ a → coming_by a (upd (upd c m y) i x) n ≡ coming_by a c n
    by None e = refl
    by (Some j) e = at j (λ q. free n (e ∙ ap Some q))

-- THE LISTS OF A BOARD

abbrev pub entries : Board → ℕ → List SenderEntry
entries b n = entries_by b.queue b.owner b.context n

abbrev pub waits : Board → ℕ → SenderEntry → Bool
waits b n e = waits_for (id_at b n) e (b.seen (number_of e)).word

pub dead_waiters : (b : Board) (n : ℕ) → is_dead (b.seen n).word ≡ true → waiters b n ≡ []
dead_waiters b n d = ap (λ (a : Bool). cond a [] (waiters_in (id_at b n) b.seen (entries b n))) d

pub living_waiters : (b : Board) (n : ℕ) → is_dead (b.seen n).word ≡ false →
    waiters b n ≡ waiters_in (id_at b n) b.seen (entries b n)
living_waiters b n d = ap (λ (a : Bool). cond a [] (waiters_in (id_at b n) b.seen (entries b n))) d

module _ (b b' : Board) (words : (t : ℕ) → Alike (b.seen t).word (b'.seen t).word) where
  pub waits_same : (n : ℕ) (e : SenderEntry) → waits b' n e ≡ waits b n e
  waits_same n e =
      let w = words (number_of e) in
      let sends : sends_to (id_at b' n) (b'.seen (number_of e)).word.state ≡
      sends_to (id_at b n) (b.seen (number_of e)).word.state =
      w.sends (id_at b' n) ∙ ap (λ (v : ℕ). sends_to (record { number = n; version = v }) (b.seen (number_of e)).word.state)
      (words n).version in
      λ d. eqb (w.version d) (sender_of e).version && sends d

  -- the words tell the same, and the entries that wait stay
  pub same_waiters : (n : ℕ) →
      (is_dead (b.seen n).word ≡ false → filter (waits b n) (entries b' n) ≡ filter (waits b n) (entries b n)) →
      waiters b' n ≡ waiters b n
  same_waiters n h = go (is_dead (b.seen n).word) refl
    where
      go : (d : Bool) → is_dead (b.seen n).word ≡ d → waiters b' n ≡ waiters b n
      go true d = dead_waiters b' n ((words n).dead ∙ d) ∙ sym (dead_waiters b n d)
      go false d =
          living_waiters b' n ((words n).dead ∙ d)
          ∙ ap (λ (p : SenderEntry → Bool). map waiting_of (filter p (entries b' n))) (λ i e. waits_same n e i)
          ∙ ap (map waiting_of) (h d) ∙ sym (living_waiters b n d)

  pub plain_waiters : ((n : ℕ) → entries b' n ≡ entries b n) → (n : ℕ) → waiters b' n ≡ waiters b n
  plain_waiters e n = same_waiters n (λ _. ap (filter (waits b n)) (e n))
