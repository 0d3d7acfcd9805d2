-- What becomes of a section by what its step finds: it goes on, or it is held up by the owner of a lock or by a context.
use Rattle.std.proofs.Common.{◌≡◌, ℕ, ◌==◌, Bool, true, false, refl, sym, ap, ◌∙◌, arith}
use Rattle.std.specs.Prelude.{if◌then◌else◌}
use Rattle.std.proofs.lemmas.Bool.{eqb-true}
use Rattle.std.proofs.lemmas.Bool.Decides.{eqb_tells}
use Rattle.k_ids.specs.declared.context_word.ContextWord.{ContextWord}
use Rattle.k_ids.specs.declared.context_word.ContextWord.TheVariants.{Empty, Clean, Holds, Taken}
use Rattle.k_ids.specs.declared.lock_word.LockWord.{LockWord}
use Rattle.k_ids.specs.declared.lock_word.LockWord.TheVariants as locked
use Rattle.k_ids.specs.declared.threads.ThreadId.{ThreadId}
use Rattle.k_ids.specs.ContextWords.{context_bits, context_word_of}
use Rattle.k_ids.specs.LockWords.{lock_bits, lock_word_of}
use Rattle.k_ids.proofs.LockSpelled.{lock-same}
use Rattle.k_locks.specs.declared.goods.Goods.{Goods}
use Rattle.k_locks.specs.declared.locks.Lock.{Lock}
use Rattle.k_locks.specs.declared.steps.Answer.TheVariants as answered
use Rattle.k_locks.specs.declared.steps.Step.{Step}
use Rattle.k_locks.specs.declared.steps.Step.TheVariants as step
use Rattle.k_locks.specs.declared.steps.Told.TheVariants as told
use Rattle.k_locks.specs.Places.{lock_number}
use Rattle.k_locks.specs.Steps.{not_acquired, not_removed}
use Rattle.k_context.specs.Contexts.{ContextSeen}
use Rattle.k_carrier.specs.declared.marks.Want.TheVariants as want
use Rattle.k_world.specs.Marks.{Course, HeldUp, Onward, Still, course_by}
use Rattle.k_places.specs.Answers.{answer_in, goods_found}
use Rattle.k_places.specs.Memory.{Memory, word_in}

-- nobody holds up the step
abbrev pub IsUnheld : Memory → Step → Type 0
IsUnheld m (step.Acquire l) = lock_word_of (m.lock (lock_number l)) ≡ locked.Free
IsUnheld m (step.Remove id) = m.context id.number ≡ context_bits (Clean id.version)
IsUnheld m s = Unit {0}

-- a word that tells neither that the context can be removed nor who has it
pub data IsOdd (m : Memory) (id : ThreadId) : Type 0 where
  is_empty : context_word_of (m.context id.number) ≡ Empty → IsOdd m id
  is_others : (version : ℕ) → context_word_of (m.context id.number) ≡ Clean version →
      (m.context id.number ≡ context_bits (Clean id.version) → ⊥) → IsOdd m id

pub data Courses (m : Memory) (u : ContextSeen) (s : Step) : Course → Type 0 where
  onward : IsUnheld m s → Courses m u s (Onward u)
  owned : (l : Lock) (o : ℕ) → s ≡ step.Acquire l → lock_word_of (m.lock (lock_number l)) ≡ locked.Owned o →
      Courses m u s (HeldUp u (want.Lock l) o)
  kept : (id : ThreadId) (version : ℕ) → s ≡ step.Remove id → context_word_of (m.context id.number) ≡ Holds version →
      Courses m u s (HeldUp u (want.Context id.number) id.number)
  odd : (id : ThreadId) → s ≡ step.Remove id → IsOdd m id → Courses m u s (HeldUp u (want.Context id.number) id.number)
  taken : (id : ThreadId) (carrier version : ℕ) → s ≡ step.Remove id →
      context_word_of (m.context id.number) ≡ Taken carrier version → Courses m u s Still

module _ (m : Memory) (u : ContextSeen) where
  self : (z : ℕ) → (z == z) ≡ true
  self z = grind (arith, eqb_tells)

  differs : (x y : ℕ) → (x == y) ≡ false → x ≡ y → ⊥
  differs x y f e = let t : (x == y) ≡ true = ap (λ z. z == y) e ∙ self y in absurd (let no = sym t ∙ f in cc)

  acquires : (l : Lock) (g : Goods) (q : Bool) → (m.lock (lock_number l) == lock_bits locked.Free) ≡ q →
      Courses m u (step.Acquire l) (course_by u (step.Acquire l)
      (if q then answered.Got g else answered.Told (not_acquired (lock_word_of (m.lock (lock_number l))))))
  acquires l g true e =
      let x = m.lock (lock_number l) in onward ((lock-same x locked.Free).0 (eqb-true x (lock_bits locked.Free) e))
  acquires l g false e = by (lock_word_of (m.lock (lock_number l))) refl
    where
      by : (w : LockWord) → lock_word_of (m.lock (lock_number l)) ≡ w → Courses m u (step.Acquire l)
          (course_by u (step.Acquire l) (answered.Told (not_acquired w)))
      by (locked.Owned o) d = owned l o refl d
      by locked.Free d =
          let x = m.lock (lock_number l) in absurd (differs x (lock_bits locked.Free) e ((lock-same x locked.Free).1 d))

  removes : (id : ThreadId) (q : Bool) → (m.context id.number == context_bits (Clean id.version)) ≡ q →
      Courses m u (step.Remove id) (course_by u (step.Remove id)
      (answered.Told (if q then told.Removed else not_removed id.number (context_word_of (m.context id.number)))))
  removes id true e = onward (eqb-true (m.context id.number) (context_bits (Clean id.version)) e)
  removes id false e = by (context_word_of (m.context id.number)) refl
    where
      by : (w : ContextWord) → context_word_of (m.context id.number) ≡ w → Courses m u (step.Remove id)
          (course_by u (step.Remove id) (answered.Told (not_removed id.number w)))
      by (Taken carrier version) d = taken id carrier version refl d
      by (Holds version) d = kept id version refl d
      by Empty d = odd id refl (is_empty d)
      by (Clean version) d =
          odd id refl (is_others version d (differs (m.context id.number) (context_bits (Clean id.version)) e))

  exchanges : (q : Bool) (x : ℕ) (s : Step) → IsUnheld m s →
      Courses m u s (course_by u s (answered.Told (if q then told.Won else told.Lost x)))
  exchanges true x s h = onward h
  exchanges false x s h = onward h

  pub course_is : (s : Step) → Courses m u s (course_by u s (answer_in m s))
  course_is (step.Load name) = onward tt
  course_is (step.Store name value) = onward tt
  course_is (step.Exchange name old new) = exchanges (word_in m name == old) (word_in m name) (step.Exchange name old new) tt
  course_is (step.Acquire l) =
      acquires l (goods_found m (step.Acquire l)) (m.lock (lock_number l) == lock_bits locked.Free) refl
  course_is (step.Release l g) = onward tt
  course_is (step.Place id program priority) = onward tt
  course_is (step.Remove id) = removes id (m.context id.number == context_bits (Clean id.version)) refl
