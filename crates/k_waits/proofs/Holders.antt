-- Who holds up what, on a board, by the words and the contexts of the world that shows it.
use Rattle.std.proofs.Common.{◌≡◌, ℕ, Bool, true, false, refl, sym, ap, ◌∙◌, subst, Option, Some, None, List, [], ◌∷◌, arith}
use Rattle.std.proofs.lemmas.Bool.Decides.{nat_tests}
use Rattle.k_ids.specs.declared.context_word.ContextWord.TheVariants.{Clean, Empty, Holds as HoldsOne}
use Rattle.k_ids.specs.declared.lock_word.LockWord.TheVariants as locked
use Rattle.k_ids.specs.ContextWords.{context_word_of}
use Rattle.k_ids.specs.LockWords.{lock_word_of}
use Rattle.k_locks.specs.declared.locks.Lock.{Lock}
use Rattle.k_locks.specs.declared.locks.Lock.TheVariants as lock
use Rattle.k_locks.specs.Asks.{want_for}
use Rattle.k_locks.specs.Asks as asks
use Rattle.k_locks.specs.Locks.{Holds, lowest_held}
use Rattle.k_locks.specs.Places.{IsLock, lock_number}
use Rattle.k_script.specs.Script.{Script}
use Rattle.k_context.specs.Contexts.{ContextSeen, locks_of}
use Rattle.k_carrier.specs.Rules.{holds_any, holds_lock, still_holds}
use Rattle.k_world.specs.Worlds.{Away, Guarded, Resting, Slot, resting_in}
use Rattle.k_board.specs.Boards.{Board, Nowhere, owner_of}
use Rattle.k_good.specs.Locks.{locks_at, owner_by}
use Rattle.k_good.proofs.Owners.{Named}
use Rattle.k_places.specs.Contexts.{ShowsContext}
use Rattle.k_places.specs.Memory.{Memory}
use Rattle.k_places.specs.Shows.{Rests, Shows, Stands, context_by, context_in, owner_in}
use Rattle.k_places.proofs.Guarded.{locks_by, ranked_at}
use Rattle.k_sections.specs.Situations.{holder_of, itself}
use Rattle.k_sections.proofs.Answered.{held_owned, holder_is}
use Rattle.k_sections.proofs.Moved.{holds_itself}
use Rattle.k_waits.specs.Words.{want_helped}
use Rattle.k_waits.proofs.Published.{any_lowest, locks_shown}

-- THE LOCKS THAT A CONTEXT HOLDS

pub none_lowest : (ls : List (Option Lock)) → holds_any ls ≡ false → lowest_held ls ≡ None
none_lowest [] e = refl
none_lowest (Some l ∷ ls) e = absurd cc
none_lowest (None ∷ ls) e = none_lowest ls e

by_ranks : (t : Bool) (n : Option ℕ) (r : Bool) (l : Lock) → holds_lock l (locks_by t n r) ≡ true → Holds l (locks_by t n r)
by_ranks true None r lock.Table e = refl
by_ranks true (Some k) r lock.Table e = refl
by_ranks false None true lock.Table e = absurd cc
by_ranks false None false lock.Table e = absurd cc
by_ranks false (Some k) true lock.Table e = absurd cc
by_ranks false (Some k) false lock.Table e = absurd cc
by_ranks t None true lock.Ready e = refl
by_ranks t (Some k) true lock.Ready e = refl
by_ranks true None false lock.Ready e = absurd cc
by_ranks false None false lock.Ready e = absurd cc
by_ranks true (Some k) false lock.Ready e = absurd cc
by_ranks false (Some k) false lock.Ready e = absurd cc
by_ranks true None true (lock.Thread n) e = absurd cc
by_ranks true None false (lock.Thread n) e = absurd cc
by_ranks false None true (lock.Thread n) e = absurd cc
by_ranks false None false (lock.Thread n) e = absurd cc
by_ranks true (Some k) true (lock.Thread n) e =
    let q : k ≡ n = grind (arith, nat_tests, e) in ap (λ z. Some (Some (lock.Thread z))) q
by_ranks true (Some k) false (lock.Thread n) e =
    let q : k ≡ n = grind (arith, nat_tests, e) in ap (λ z. Some (Some (lock.Thread z))) q
by_ranks false (Some k) true (lock.Thread n) e =
    let q : k ≡ n = grind (arith, nat_tests, e) in ap (λ z. Some (Some (lock.Thread z))) q
by_ranks false (Some k) false (lock.Thread n) e =
    let q : k ≡ n = grind (arith, nat_tests, e) in ap (λ z. Some (Some (lock.Thread z))) q

module _ (b : Board) (named : Named b) (i : ℕ) where
  lock_held : (l : Lock) → holds_lock l (locks_at (b.context i).at) ≡ true → Holds l (locks_at (b.context i).at)
  lock_held l e =
      let r = ranked_at (b.context i).at in
      subst (Holds l) (sym r.is) (by_ranks r.table r.thread r.ready l (ap (holds_lock l) (sym r.is) ∙ e))

  pub any_holds : holds_any (locks_at (b.context i).at) ≡ true → holder_of b (asks.Context i) ≡ Some i
  any_holds e = holds_itself b named i (any_lowest (locks_at (b.context i).at) e)

  -- who still holds what it is helped for holds that up
  pub still_holder : (v : ContextSeen) (o : Option Lock) → locks_at (b.context i).at ≡ locks_of v →
      still_holds o (locks_of v) ≡ true → holder_of b (want_helped i o) ≡ Some i
  still_holder v (Some l) same e =
      holder_is b l ∙ held_owned b named l i (lock_held l (ap (holds_lock l) same ∙ e))
  still_holder v None same e = any_holds (ap holds_any same ∙ e)

-- BY THE WORDS

module _ (script : Script) (m : Memory) (b : Board) (named : Named b) (sh : Shows script m b) where
  owner_is : (l : Lock) → owner_by b.owner b.table b.ready l ≡ owner_of b l
  owner_is (lock.Thread n) = refl
  owner_is lock.Table = refl
  owner_is lock.Ready = refl

  lock_owner : (l : Lock) → IsLock l → owner_of b l ≡ owner_in (lock_word_of (m.lock (lock_number l)))
  lock_owner l is = sym (owner_is l) ∙ sh.owners l is

  pub owned_holder : (l : Lock) (o : ℕ) → IsLock l → lock_word_of (m.lock (lock_number l)) ≡ locked.Owned o →
      holder_of b (want_for l) ≡ Some o
  owned_holder l o is e = holder_is b l ∙ lock_owner l is ∙ ap owner_in e

  pub free_holder : (l : Lock) → IsLock l → lock_word_of (m.lock (lock_number l)) ≡ locked.Free →
      holder_of b (want_for l) ≡ None
  free_holder l is e = holder_is b l ∙ lock_owner l is ∙ ap owner_in e

  -- a context that rests
  pub record IsResting (n : ℕ) (holds : Bool) (version : ℕ) : Type 0 where
    pub value : ContextSeen
    pub found : context_in m.context m.slot m.hand n ≡ Some value
    pub holding : holds_any (locks_of value) ≡ holds
    pub locks : locks_at (b.context n).at ≡ locks_of value

  resting_by : (n : ℕ) (holds : Bool) (version : ℕ) (s : Slot) → m.slot n ≡ s → Rests s holds version →
      context_in m.context m.slot m.hand n ≡ resting_in (m.slot n) → IsResting n holds version
  resting_by n holds version (Resting v) e r at =
      let found : context_in m.context m.slot m.hand n ≡ Some v = at ∙ ap resting_in e in record {
        value = v;
        found = found;
        holding = r.0;
        locks = locks_shown (b.seen n).word n v (b.context n) (subst (λ (o : Option ContextSeen).
            ShowsContext (b.seen n).word n o (b.context n)) found (sh.contexts n));
      }
  resting_by n holds version (Guarded g) e r at = absurd r
  resting_by n holds version Away e r at = absurd r

  pub holds_there : (n version : ℕ) → context_word_of (m.context n) ≡ HoldsOne version → IsResting n true version
  holds_there n version e =
      resting_by n true version (m.slot n) refl (subst (Stands m.slot m.hand n) e (sh.places.stands n))
      (ap (context_by m.slot m.hand n) e)

  pub kept_holder : (n version : ℕ) → context_word_of (m.context n) ≡ HoldsOne version →
      holder_of b (asks.Context n) ≡ Some n
  kept_holder n version e =
      let r = holds_there n version e in any_holds b named n (ap holds_any r.locks ∙ r.holding)

  pub clean_there : (n version : ℕ) → context_word_of (m.context n) ≡ Clean version → IsResting n false version
  clean_there n version e =
      resting_by n false version (m.slot n) refl (subst (Stands m.slot m.hand n) e (sh.places.stands n))
      (ap (context_by m.slot m.hand n) e)

  -- one that rests without a lock holds up nobody
  pub clean_holder : (n version : ℕ) → context_word_of (m.context n) ≡ Clean version → holder_of b (asks.Context n) ≡ None
  clean_holder n version e =
      let r = clean_there n version e in
      ap (itself n) (none_lowest (locks_at (b.context n).at) (ap holds_any r.locks ∙ r.holding))

  -- nor does one that isn't there
  pub empty_holder : (n : ℕ) → context_word_of (m.context n) ≡ Empty → holder_of b (asks.Context n) ≡ None
  empty_holder n e =
      let none : context_in m.context m.slot m.hand n ≡ None = ap (context_by m.slot m.hand n) e in
      let at : (b.context n).at ≡ Nowhere =
      subst (λ (o : Option ContextSeen). ShowsContext (b.seen n).word n o (b.context n)) none (sh.contexts n) in
      ap (λ p. itself n (lowest_held (locks_at p))) at
