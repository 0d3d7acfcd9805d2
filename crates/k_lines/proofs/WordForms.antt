-- What a word is read as is what it spells.
use Rattle.std.proofs.Common.{◌≡◌, Bool, true, false, cond, eqb, List, [], ◌∷◌, refl, sym, ap, ◌∙◌, Some, None, inl, inr, option_map, decimal}
use Rattle.std.specs.Str.{bytes_eq, all_ascii_digits}
use Rattle.std.specs.Prelude.{codes}
use Rattle.std.proofs.lemmas.Bool.{eqb-true, false≢true, false_from_ne_true}
use Rattle.std.proofs.lemmas.Slice.Eq.{bytes_eq-Decides}
use Rattle.k_lists.proofs.Options.{chosen, mapped}
use Rattle.k_script.specs.Limits.{is_name}
use Rattle.k_lines.specs.declared.numeral.Numeral.{Numeral}
use Rattle.k_lines.specs.declared.line.WhoWord.{WhoWord}
use Rattle.k_lines.specs.declared.line.WhoWord.TheVariants as who
use Rattle.k_lines.specs.declared.line.ValueWord.{ValueWord}
use Rattle.k_lines.specs.declared.line.ValueWord.TheVariants as value
use Rattle.k_lines.specs.Numbers.{numeral_of, IsNumber}
use Rattle.k_lines.specs.Lines.{Word, spelled_who, spelled_value, spelled_timeout, IsProperWho, IsProperValue, name_of, hash_of, who_of, value_of, is_now, timeout_of}
use Rattle.k_lines.proofs.Digits.{numeral-read, numeral-spelled, number_digits}

pub word_is : (w k : Word) → bytes_eq w k ≡ true → w ≡ k
word_is w k h = (bytes_eq-Decides w k).0 h

pub name-read : (w n : Word) → name_of w ≡ Some n → (w ≡ n) × (is_name n ≡ true)
name-read w n h = elim (chosen (is_name w) (Some w) None (Some n) h) [
  | inl p ↦ let e : Some w ≡ Some n = p.1 in let same : w ≡ n = cc in (same, sym (ap is_name same) ∙ p.0)
  | inr p ↦ let no : None ≡ Some n = p.1 in absurd cc
]

hash-read : (w : Word) (r : WhoWord) → hash_of w ≡ Some r → IsProperWho r → w ≡ spelled_who r
hash-read [] r h p = absurd cc
hash-read (c ∷ cs) r h p = elim (chosen (eqb c 35) (option_map who.Number (numeral_of cs)) None (Some r) h) [
  | inl q ↦
      let m = mapped who.Number (numeral_of cs) r q.1 in
      go m.0 r m.1 m.2 (eqb-true c 35 q.0) p
  | inr q ↦ let no : None ≡ Some r = q.1 in absurd cc
]
  where
    go : (n : Numeral) (s : WhoWord) → numeral_of cs ≡ Some n → who.Number n ≡ s → c ≡ 35 → IsProperWho s → c ∷ cs ≡ spelled_who s
    go n (who.Number k) a e f i =
        let same : n ≡ k = cc in
        let digits : cs ≡ decimal k.value = numeral-read cs k (a ∙ ap (λ (x : Numeral). Some x) same) i in
        rw f (rw digits refl)
    go n who.Last a e f i = absurd cc
    go n who.Made a e f i = absurd cc

pub who-read : (w : Word) (r : WhoWord) → who_of w ≡ Some r → IsProperWho r → w ≡ spelled_who r
who-read w r h p = elim (chosen (bytes_eq w (codes "last")) (Some who.Last) (cond (bytes_eq w (codes "made")) (Some who.Made) (hash_of w)) (Some r) h) [
  | inl q ↦ let e : Some who.Last ≡ Some r = q.1 in let same : who.Last ≡ r = cc in word_is w (codes "last") q.0 ∙ ap spelled_who same
  | inr q ↦ elim (chosen (bytes_eq w (codes "made")) (Some who.Made) (hash_of w) (Some r) q.1) [
    | inl s ↦ let e : Some who.Made ≡ Some r = s.1 in let same : who.Made ≡ r = cc in word_is w (codes "made") s.0 ∙ ap spelled_who same
    | inr s ↦ hash-read w r s.1 p
  ]
]

number_value : (w : Word) (r : ValueWord) (n : Numeral) → numeral_of w ≡ Some n → value.Number n ≡ r → IsProperValue r → w ≡ spelled_value r
number_value w (value.Number k) n a e i = let same : n ≡ k = cc in numeral-read w k (a ∙ ap (λ (x : Numeral). Some x) same) i
number_value w value.Got0 n a e i = absurd cc
number_value w value.Got1 n a e i = absurd cc

pub value-read : (w : Word) (r : ValueWord) → value_of w ≡ Some r → IsProperValue r → w ≡ spelled_value r
value-read w r h p = elim (chosen (bytes_eq w (codes "got0")) (Some value.Got0) (cond (bytes_eq w (codes "got1")) (Some value.Got1) (option_map value.Number (numeral_of w))) (Some r) h) [
  | inl q ↦ let e : Some value.Got0 ≡ Some r = q.1 in let same : value.Got0 ≡ r = cc in word_is w (codes "got0") q.0 ∙ ap spelled_value same
  | inr q ↦ elim (chosen (bytes_eq w (codes "got1")) (Some value.Got1) (option_map value.Number (numeral_of w)) (Some r) q.1) [
    | inl s ↦ let e : Some value.Got1 ≡ Some r = s.1 in let same : value.Got1 ≡ r = cc in word_is w (codes "got1") s.0 ∙ ap spelled_value same
    | inr s ↦ let m = mapped value.Number (numeral_of w) r s.1 in number_value w r m.0 m.1 m.2 p
  ]
]

pub timeout-read : (ws : List Word) (b : Bool) → timeout_of ws ≡ Some b → ws ≡ spelled_timeout b
unfolding timeout_of
timeout-read [] b h = let same : false ≡ b = cc in ap spelled_timeout same
timeout-read (w ∷ []) b h = elim (chosen (is_now w) (Some true) None (Some b) h) [
  | inl p ↦ let e : Some true ≡ Some b = p.1 in let same : true ≡ b = cc in ap (λ (x : Word). x ∷ []) (word_is w (codes "now") p.0) ∙ ap spelled_timeout same
  | inr p ↦ let no : None ≡ Some b = p.1 in absurd cc
]
timeout-read (w ∷ v ∷ ws) b h = absurd cc

-- What is spelled is read.

-- The digits of a number are no other word.
no_word : (n : Numeral) (k : Word) → IsNumber n → all_ascii_digits k ≡ false → bytes_eq (decimal n.value) k ≡ false
no_word n k i f = false_from_ne_true (bytes_eq (decimal n.value) k) (λ e. false≢true (sym f ∙ sym (ap all_ascii_digits (word_is (decimal n.value) k e)) ∙ number_digits n i))

pub who-spelled : (r : WhoWord) → IsProperWho r → who_of (spelled_who r) ≡ Some r
who-spelled (who.Number n) p = rw (numeral-spelled n p) refl
who-spelled who.Last p = refl
who-spelled who.Made p = refl

pub value-spelled : (r : ValueWord) → IsProperValue r → value_of (spelled_value r) ≡ Some r
value-spelled (value.Number n) p = rw (no_word n (codes "got0") p refl) (rw (no_word n (codes "got1") p refl) (rw (numeral-spelled n p) refl))
value-spelled value.Got0 p = refl
value-spelled value.Got1 p = refl

pub timeout-spelled : (b : Bool) → timeout_of (spelled_timeout b) ≡ Some b
unfolding timeout_of
timeout-spelled true = refl
timeout-spelled false = refl

pub name-spelled : (n : Word) → is_name n ≡ true → name_of n ≡ Some n
name-spelled n h = rw h refl
