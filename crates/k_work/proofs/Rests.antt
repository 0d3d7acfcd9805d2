-- While no other carrier has a context in hand, and this one has none, each context rests.
use Rattle.std.proofs.Common.{◌≡◌, ℕ, Bool, true, false, refl, sym, ap, ◌∙◌, subst, arith, Option, Some, None}
use Rattle.std.proofs.Common.{inl, inr, ◌⊎◌}
use Rattle.std.specs.Prelude.{◌||◌, is_some, if◌then◌else◌}
use Rattle.std.proofs.lemmas.Bool.{cases_eq, false≢true}
use Rattle.std.proofs.lemmas.Bool.Decides.{nat_tests}
use Rattle.k_ids.specs.declared.context_word.ContextWord.{ContextWord}
use Rattle.k_ids.specs.declared.context_word.ContextWord.TheVariants.{Empty, Clean, Holds, Taken}
use Rattle.k_locks.specs.declared.locks.Lock.{Lock}
use Rattle.k_locks.specs.declared.locks.Lock.TheVariants as lock
use Rattle.k_tokens.specs.Good.{IsGood}
use Rattle.k_tokens.specs.World.{Condition, Absent, Awake, Asleep, Ended, Dead, ContextName, OfCarrier}
use Rattle.k_tokens.specs.World.{OfThread, World}
use Rattle.k_tokens.specs.World.{holds, holds_any, holds_ready, is_absent, is_lock_of}
use Rattle.k_switching.specs.Rules.{same_word, slot_word, thread_word, word_of}
use Rattle.k_work.specs.Near.{IsAlone}

-- WHAT A CONTEXT HOLDS

any_by : (t r : Bool) (o : Option ℕ) → (t ≡ true) ⊎ ((r ≡ true) ⊎ (is_some o ≡ true)) →
    ((t || r) || is_some o) ≡ true
any_by true r o e = refl
any_by false true o e = refl
any_by false false (Some n) e = refl
any_by false false None (inl e) = absurd (false≢true e)
any_by false false None (inr (inl e)) = absurd (false≢true e)
any_by false false None (inr (inr e)) = absurd (false≢true e)

lock_some : (n : ℕ) (o : Option ℕ) → is_lock_of n o ≡ true → is_some o ≡ true
lock_some n (Some m) e = refl
lock_some n None e = absurd (false≢true e)

thread_any : (w : World) (t : ℕ) (l : Option Lock) → holds w (OfThread t) l ≡ true →
    holds_any (w.threads.locks t) ≡ true
thread_any w t None e = e
thread_any w t (Some lock.Table) e =
    any_by (w.threads.locks t).table (w.threads.locks t).ready (w.threads.locks t).thread (inl e)
thread_any w t (Some lock.Ready) e =
    any_by (w.threads.locks t).table (w.threads.locks t).ready (w.threads.locks t).thread (inr (inl e))
thread_any w t (Some (lock.Thread n)) e =
    any_by (w.threads.locks t).table (w.threads.locks t).ready (w.threads.locks t).thread
    (inr (inr (lock_some n (w.threads.locks t).thread e)))

own_any : (w : World) (d : ℕ) (l : Option Lock) → holds w (OfCarrier d) l ≡ true →
    holds_ready (w.own d).stage ≡ true
own_any w d None e = e
own_any w d (Some lock.Ready) e = e
own_any w d (Some lock.Table) e = absurd (false≢true e)
own_any w d (Some (lock.Thread n)) e = absurd (false≢true e)

-- THE WORD OF A CONTEXT THAT RESTS

pub data IsResting (held : Bool) (version : ℕ) : ContextWord → Type 0 where
  is_empty : held ≡ false → IsResting held version Empty
  is_clean : held ≡ false → IsResting held version (Clean version)
  is_held : held ≡ true → IsResting held version (Holds version)

slot_rests : (held : Bool) (version : ℕ) → IsResting held version (slot_word None held version)
slot_rests true version = is_held refl
slot_rests false version = is_clean refl

thread_rests : (condition : Condition) (held : Bool) (version : ℕ) → (is_absent condition ≡ true →
    held ≡ false) →
    IsResting held version (thread_word condition None held version)
thread_rests condition held version quiet = go (is_absent condition) refl
  where
    go : (t : Bool) → is_absent condition ≡ t → IsResting held version (if t then Empty else slot_word None
        held version)
    go true e = is_empty (quiet e)
    go false e = slot_rests held version

some_is : {x y : ContextName} → Some x ≡ Some y → x ≡ y
some_is e = cc

absent_quiet : (k : Condition) → is_absent k ≡ true → k ≡ Awake → ⊥
absent_quiet Absent e q = cc
absent_quiet Awake e q = false≢true e
absent_quiet Asleep e q = false≢true e
absent_quiet Ended e q = false≢true e
absent_quiet Dead e q = false≢true e

module _ (w : World) (c : ℕ) (good : IsGood w) (alone : IsAlone w c) (hand : (w.carrier c).hand ≡ None) where
  nobody : (d : ℕ) → (w.carrier d).hand ≡ None
  nobody d = elim (cases_eq d c) [
    | inl e ↦ ap (λ (n : ℕ). (w.carrier n).hand) e ∙ hand
    | inr ne ↦ alone d ne
  ]

  none_some : (d : ℕ) (x : ContextName) → (w.carrier d).hand ≡ Some x → ⊥
  none_some d x e = by (sym (nobody d) ∙ e)
    where
      by : None ≡ Some x → ⊥
      by q = cc

  pub held_none : (t : ℕ) → w.held t ≡ None
  held_none t = go (w.held t) refl
    where
      go : (o : Option ℕ) → w.held t ≡ o → o ≡ None
      go None e = refl
      go (Some d) e = absurd (none_some d (OfThread t) (good.1.hands.thread_is d t e))

  pub own_none : (d : ℕ) → w.held_own d ≡ None
  own_none d = go (w.held_own d) refl
    where
      go : (o : Option ℕ) → w.held_own d ≡ o → o ≡ None
      go None e = refl
      go (Some f) e = absurd (none_some f (OfCarrier d) (good.1.hands.own_is f d e))

  abbrev pub is_holding : ContextName → Bool
  is_holding (OfThread t) = holds_any (w.threads.locks t)
  is_holding (OfCarrier d) = holds_ready (w.own d).stage

  abbrev pub version_of : ContextName → ℕ
  version_of (OfThread t) = w.threads.made t
  version_of (OfCarrier d) = 1

  pub rests : (x : ContextName) → IsResting (is_holding x) (version_of x) (word_of w x)
  rests (OfThread t) =
      subst (λ (o : Option ℕ). IsResting (holds_any (w.threads.locks t)) (w.threads.made t)
      (thread_word (w.threads.condition t) o (holds_any (w.threads.locks t)) (w.threads.made t)))
      (sym (held_none t))
      (thread_rests (w.threads.condition t) (holds_any (w.threads.locks t)) (w.threads.made t)
      (λ e. good.1.threads.quiet t (absent_quiet (w.threads.condition t) e)))
  rests (OfCarrier d) =
      subst (λ (o : Option ℕ). IsResting (holds_ready (w.own d).stage) 1 (slot_word o (holds_ready
      (w.own d).stage) 1))
      (sym (own_none d)) (slot_rests (holds_ready (w.own d).stage) 1)

  pub holding : (x : ContextName) (l : Option Lock) → holds w x l ≡ true → is_holding x ≡ true
  holding (OfThread t) l e = thread_any w t l e
  holding (OfCarrier d) l e = own_any w d l e

  pub free : (x : ContextName) (l : Option Lock) → is_holding x ≡ false → holds w x l ≡ false
  free x l e = go (holds w x l) refl
    where
      go : (t : Bool) → holds w x l ≡ t → t ≡ false
      go false q = refl
      go true q = absurd (false≢true (sym e ∙ holding x l q))

-- a word is the same as itself
pub word_same : (v : ContextWord) → same_word v v ≡ true
word_same Empty = refl
word_same (Clean v) = grind (arith, nat_tests)
word_same (Holds v) = grind (arith, nat_tests)
word_same (Taken c v) = grind (arith, nat_tests)
