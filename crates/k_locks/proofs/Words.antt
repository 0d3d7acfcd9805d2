-- A compare-exchange on bits and on decoded words.
use Rattle.std.proofs.Common.{◌≡◌, true, ℕ, sym, ap}
use Rattle.std.proofs.lemmas.Bool.{eq-eqb, eqb-true}
use Rattle.std.specs.Prelude.{◌==◌}
use Rattle.k_ids.specs.declared.state_word.StateWord.{StateWord}
use Rattle.k_ids.specs.StateWords.{IsStateSpelling, IsStateWord, state_bits, state_word_of}
use Rattle.k_ids.proofs.StateSpelled as spelled
use Rattle.k_locks.specs.Asks.{same_word}

pub wins : (n : ℕ) (w : StateWord) → IsStateSpelling n → IsStateWord w → (n == state_bits w) ≡ same_word (state_word_of n) w
unfolding same_word
wins n w s i = ap (λ m. m == state_bits w) (sym s.same)

pub same_is : (v w : StateWord) → IsStateWord v → IsStateWord w → same_word v w ≡ true → v ≡ w
unfolding same_word
same_is v w a b e = spelled.state-one v w a b (eqb-true (state_bits v) (state_bits w) e)

pub is_same : (v w : StateWord) → v ≡ w → same_word v w ≡ true
unfolding same_word
is_same v w e = eq-eqb (state_bits v) (state_bits w) (ap state_bits e)
