-- Lock words and their spellings are one for one.
use Rattle.std.proofs.Common.{◌≡◌, ℕ, ◌+◌, ◌-◌, ◌<◌, ◌≤◌, ◌==◌, ◌↔◌, true, false, Some, None, refl, sym, ap, subst, ◌∙◌, inl, inr, arith}
use Rattle.std.proofs.lemmas.Bool.Decides.{nat_tests, eqb_tells}
use Rattle.k_ids.specs.declared.lock_word.LockWord.{LockWord}
use Rattle.k_ids.specs.declared.lock_word.LockWord.TheVariants.{Free, Owned}
use Rattle.k_ids.specs.LockWords.{IsLockWord, lock_bits, lock_word_of}

pub lock-free : (n : ℕ) → n ≡ 0 → lock_word_of n ≡ Free
unfolding lock_word_of
lock-free n e = let b : (n == 0) ≡ true = grind (arith, nat_tests) in rw b refl

pub lock-owned : (n : ℕ) → 1 ≤ n → lock_word_of n ≡ Owned (n - 1)
unfolding lock_word_of
lock-owned n h = let b : (n == 0) ≡ false = grind (arith, nat_tests) in rw b refl

-- The word of a spelling.
pub lock-read : (w : LockWord) → lock_word_of (lock_bits w) ≡ w
unfolding lock_bits
lock-read Free = lock-free 0 refl
lock-read (Owned context) = lock-owned (context + 1) (omega arith) ∙ ap Owned (let e : context + 1 - 1 ≡ context = omega arith in e)

-- The spelling of a word.
pub lock-spelled : (n : ℕ) → lock_bits (lock_word_of n) ≡ n
unfolding lock_bits
lock-spelled n = elim (eqb_tells n 0) [
  | inl e ↦ rw (lock-free n e.1) (sym e.1)
  | inr ne ↦ let h : 1 ≤ n = omega (arith, ne.1) in rw (lock-owned n h) (omega arith)
]

pub lock-bits_small : (w : LockWord) → IsLockWord w → lock_bits w ≤ 72
unfolding lock_bits
lock-bits_small Free h = omega arith
lock-bits_small (Owned context) h = omega (arith, h)

pub lock-whole : (n : ℕ) → n ≤ 72 → IsLockWord (lock_word_of n)
lock-whole n h = elim (eqb_tells n 0) [
  | inl e ↦ rw (lock-free n e.1) tt
  | inr ne ↦ let more : 1 ≤ n = omega (arith, ne.1) in rw (lock-owned n more) (omega arith)
]

-- THE WORD THAT BITS SPELL

abbrev pub Spells : ℕ → LockWord → Type 0
Spells n w = IsLockWord w × (lock_bits w ≡ n)

pub spells-read : (n : ℕ) (w : LockWord) → Spells n w → lock_word_of n ≡ w
spells-read n w h = ap lock_word_of (sym h.1) ∙ lock-read w

pub some-spelled : (n : ℕ) (v : LockWord) → v ≡ lock_word_of n → n ≤ 72 → (w : LockWord) → (Some v ≡ Some w) ↔ Spells n w
some-spelled n v e small w = (
  λ q. let equal : lock_word_of n ≡ w = let given : v ≡ w = cc in sym e ∙ given in
      (subst IsLockWord equal (lock-whole n small), ap lock_bits (sym equal) ∙ lock-spelled n),
  λ h. ap Some (e ∙ spells-read n w h),
)

pub none-spelled : (n : ℕ) → 72 < n → (w : LockWord) → (None ≡ Some w) ↔ Spells n w
none-spelled n large w = (λ q. absurd cc, λ h. absurd (omega (arith, lock-bits_small w h.0, h.1, large)))

-- bits are the spelling of a word exactly where they are read as it
pub lock-same : (n : ℕ) (w : LockWord) → (n ≡ lock_bits w) ↔ (lock_word_of n ≡ w)
lock-same n w = (λ e. ap lock_word_of e ∙ lock-read w, λ e. sym (lock-spelled n) ∙ ap lock_bits e)

pub lock-one : (v w : LockWord) → lock_bits v ≡ lock_bits w → v ≡ w
lock-one v w e = sym (lock-read v) ∙ ap lock_word_of e ∙ lock-read w
