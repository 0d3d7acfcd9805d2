-- Context words and their spellings are one for one.
use Rattle.std.proofs.Common.{◌≡◌, ℕ, ◌+◌, ◌*◌, ◌/◌, ◌%◌, ◌^◌, ◌<◌, Some, None, ◌↔◌, refl, sym, ap, subst, ◌∙◌, arith}
use Rattle.k_ids.specs.declared.context_word.ContextWord.{ContextWord}
use Rattle.k_ids.specs.declared.context_word.ContextWord.TheVariants.{Empty, Clean, Holds, Taken}
use Rattle.k_ids.specs.ContextWords.{IsContextSpelling, IsContextWord, context_bits, context_from, context_word_of}

-- The fields of a sum of fields.
code_part : (code carrier version : ℕ) → code < 4 → (code + 2 ^ 2 * carrier + 2 ^ 6 * version) % 4 ≡ code
code_part code carrier version a = omega (arith, a)

carrier_part : (code carrier version : ℕ) → code < 4 → carrier < 16 → (code + 2 ^ 2 * carrier + 2 ^ 6 * version) / 2 ^ 2 % 16 ≡ carrier
carrier_part code carrier version a b = omega (arith, a, b)

version_part : (code carrier version : ℕ) → code < 4 → carrier < 16 → version < 2 ^ 20 → (code + 2 ^ 2 * carrier + 2 ^ 6 * version) / 2 ^ 6 % 2 ^ 20 ≡ version
version_part code carrier version a b c = omega (arith, a, b, c)

fields : (n code carrier version : ℕ) → n ≡ code + 2 ^ 2 * carrier + 2 ^ 6 * version → code < 4 → carrier < 16 → version < 2 ^ 20 →
    context_word_of n ≡ context_from code carrier version
unfolding context_word_of
fields n code carrier version e a b c = ap (λ (m : ℕ). context_from (m % 4) (m / 2 ^ 2 % 16) (m / 2 ^ 6 % 2 ^ 20)) e
    ∙ (rw (code_part code carrier version a, carrier_part code carrier version a b, version_part code carrier version a b c) refl)

-- The word of a spelling.
pub context-read : (w : ContextWord) → IsContextWord w → context_word_of (context_bits w) ≡ w
unfolding context_bits
context-read Empty h = fields 0 0 0 0 (omega arith) (omega arith) (omega arith) (omega arith)
context-read (Clean version) h = fields (1 + 2 ^ 6 * version) 1 0 version (omega arith) (omega arith) (omega arith) h.small
context-read (Holds version) h = fields (2 + 2 ^ 6 * version) 2 0 version (omega arith) (omega arith) (omega arith) h.small
context-read (Taken carrier version) h =
    fields (3 + 2 ^ 2 * carrier + 2 ^ 6 * version) 3 carrier version refl (omega arith) (omega (arith, h.0)) (h.1).small

pub context-bits_small : (w : ContextWord) → IsContextWord w → context_bits w < 2 ^ 26
unfolding context_bits
context-bits_small Empty h = omega arith
context-bits_small (Clean version) h = omega (arith, h.small)
context-bits_small (Holds version) h = omega (arith, h.small)
context-bits_small (Taken carrier version) h = omega (arith, h.0, (h.1).small)

-- THE WORD THAT BITS SPELL

abbrev pub Spells : ℕ → ContextWord → Type 0
Spells n w = IsContextWord w × (context_bits w ≡ n)

-- bits spell the word that they are read as, or none
pub spells-read : (n : ℕ) (w : ContextWord) → Spells n w → context_word_of n ≡ w
spells-read n w h = ap context_word_of (sym h.1) ∙ context-read w h.0

pub some-spelled : (n : ℕ) (v : ContextWord) → v ≡ context_word_of n → IsContextWord v → context_bits v ≡ n → (w : ContextWord) → (Some v ≡ Some w) ↔ Spells n w
some-spelled n v e whole same w = (
  λ q. let equal : v ≡ w = cc in (subst IsContextWord equal whole, ap context_bits (sym equal) ∙ same),
  λ h. ap Some (e ∙ spells-read n w h),
)

pub none-spelled : (n : ℕ) (v : ContextWord) → v ≡ context_word_of n → (IsContextWord v → context_bits v ≡ n → ⊥) → (w : ContextWord) → (None ≡ Some w) ↔ Spells n w
none-spelled n v e fails w = (
  λ q. absurd cc,
  λ h. let equal : v ≡ w = e ∙ spells-read n w h in absurd (fails (subst IsContextWord (sym equal) h.0) (ap context_bits equal ∙ h.1)),
)

pub context-whole : (w : ContextWord) → IsContextWord w → IsContextSpelling (context_bits w)
context-whole w h = record { whole = subst IsContextWord (sym (context-read w h)) h; same = ap context_bits (context-read w h) }

-- bits are the spelling of a word exactly where they are read as it
pub context-same : (n : ℕ) (w : ContextWord) → IsContextSpelling n → IsContextWord w → (n ≡ context_bits w) ↔ (context_word_of n ≡ w)
context-same n w s h = (λ e. ap context_word_of e ∙ context-read w h, λ e. sym s.same ∙ ap context_bits e)

pub context-one : (v w : ContextWord) → IsContextWord v → IsContextWord w → context_bits v ≡ context_bits w → v ≡ w
context-one v w g h e = sym (context-read v g) ∙ ap context_word_of e ∙ context-read w h
