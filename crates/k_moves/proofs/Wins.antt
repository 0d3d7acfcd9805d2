-- A carrier takes a context where its word is still the one that it looked at.
use Rattle.std.proofs.Common.{◌≡◌, ◌≢◌, ℕ, ◌==◌, Bool, true, false, refl, sym, ap, ◌∙◌, Some, None, arith, inl, inr}
use Rattle.std.specs.Prelude.{◌&&◌, if◌then◌else◌}
use Rattle.std.proofs.lemmas.Bool.Decides.{eqb_tells, nat_tests}
use Rattle.k_ids.specs.declared.context_word.ContextWord.{ContextWord}
use Rattle.k_ids.specs.declared.context_word.ContextWord.TheVariants.{Empty, Clean, Holds, Taken}
use Rattle.k_ids.specs.ContextWords.{IsContextSpelling, context_bits, context_word_of}
use Rattle.k_script.specs.Script.{Script}
use Rattle.k_carrier.specs.Answers as answer
use Rattle.k_carrier.specs.Asked.{Take, ask_of, asked, asked_by}
use Rattle.k_carrier.specs.Resumed as carriers
use Rattle.k_carrier.specs.Rules.{begins, context_at, readied, target_of}
use Rattle.k_carrier.specs.Seen.{CarrierSeen}
use Rattle.k_tokens.specs.World.{World, with_carrier}
use Rattle.k_tokens.specs.World as tokens
use Rattle.k_tokens.specs.Steps.{ThreadStep}
use Rattle.k_switching.specs.Rules as rules
use Rattle.k_grants.specs.Views.{name_of}
use Rattle.k_moves.specs.Views.{IsViewed, carrier_view, target_in, word_in}
use Rattle.k_moves.specs.Moved.{IsGiven}
use Rattle.k_moves.proofs.Rules.{begins_same, place_same, target_same}
use Rattle.k_moves.proofs.Looks.{AsksAt, inside_goal, step_free, take_asks}

-- WORDS, and their bits

pub word_itself : (l : ContextWord) → rules.same_word l l ≡ true
word_itself Empty = refl
word_itself (Clean v) = grind (arith, nat_tests)
word_itself (Holds v) = grind (arith, nat_tests)
word_itself (Taken d v) = (λ z. (itself d z) && (itself v z))
  where
    itself : (n : ℕ) → (n == n) ≡ true
    itself n = grind (arith, nat_tests)

pub word_same : (l m : ContextWord) → rules.same_word l m ≡ true → l ≡ m
word_same Empty Empty e = refl
word_same Empty (Clean u) e = absurd cc
word_same Empty (Holds u) e = absurd cc
word_same Empty (Taken d u) e = absurd cc
word_same (Clean v) Empty e = absurd cc
word_same (Clean v) (Clean u) e = ap Clean (grind (arith, nat_tests))
word_same (Clean v) (Holds u) e = absurd cc
word_same (Clean v) (Taken d u) e = absurd cc
word_same (Holds v) Empty e = absurd cc
word_same (Holds v) (Clean u) e = absurd cc
word_same (Holds v) (Holds u) e = ap Holds (grind (arith, nat_tests))
word_same (Holds v) (Taken d u) e = absurd cc
word_same (Taken c v) Empty e = absurd cc
word_same (Taken c v) (Clean u) e = absurd cc
word_same (Taken c v) (Holds u) e = absurd cc
word_same (Taken c v) (Taken d u) e = elim (eqb_tells c d) [
  | inl x ↦ elim (eqb_tells v u) [
    | inl y ↦ (λ z. Taken (x.1 z) (y.1 z))
    | inr y ↦ absurd (let q : true ≡ false = sym e ∙ (λ z. x.0 z && y.0 z) in cc)
  ]
  | inr x ↦ absurd (let q : true ≡ false = sym e ∙ (λ z. x.0 z && (v == u)) in cc)
]

-- words are the same exactly where their bits are
pub bits_same : (a b : ℕ) → IsContextSpelling a → IsContextSpelling b →
    rules.same_word (context_word_of a) (context_word_of b) ≡ (a == b)
bits_same a b s t = elim (eqb_tells a b) [
  | inl e ↦
      ap (λ n. rules.same_word (context_word_of a) (context_word_of n)) (sym e.1) ∙ word_itself (context_word_of a) ∙ sym e.0
  | inr e ↦ by (rules.same_word (context_word_of a) (context_word_of b)) refl e.1 ∙ sym e.0
]
  where
    by : (t' : Bool) → rules.same_word (context_word_of a) (context_word_of b) ≡ t' → a ≢ b →
        rules.same_word (context_word_of a) (context_word_of b) ≡ false
    by true q ne = absurd (ne (sym s.same ∙ ap context_bits (word_same (context_word_of a) (context_word_of b) q) ∙ t.same))
    by false q ne = q

-- A TAKE

-- it doesn't begin to switch now: then it would have looked at nothing
pub take_ready : (k : CarrierSeen) (n bits : ℕ) → ask_of k ≡ Take n bits → begins k ≡ false
take_ready k n bits e = by (begins k) refl (take_asks k n bits e).looked
  where
    by : (t : Bool) → begins k ≡ t → (if t then record k { switching = true; help = None; looked = None } else k).looked ≡
        Some bits → begins k ≡ false
    by true q l = absurd cc
    by false q l = q

pub not_readied : (k : CarrierSeen) → begins k ≡ false → readied k ≡ k
not_readied k e = ap (λ (t : Bool). if t then record k { switching = true; help = None; looked = None } else k) e

module _ (script : Script) (w : World) (k : CarrierSeen) (n bits : ℕ) (s : ThreadStep) (viewed : IsViewed w k) (given : IsGiven k)
    (asks : ask_of k ≡ Take n bits) where
  at : AsksAt k n (Some bits)
  at = take_asks k n bits asks

  same : readied k ≡ k
  same = not_readied k (take_ready k n bits asks)

  place : rules.context_at k.number (target_in k.table (target_of k)) ≡ name_of k.table n
  place =
      ap (rules.context_at k.number) (sym (target_same k)) ∙ place_same k (inside_goal k given.goal)
      ∙ ap (name_of k.table) (ap (λ (x : CarrierSeen). context_at x (target_of x)) (sym same) ∙ at.place)

  taken_so : rules.carrier_step w k.number s ≡ rules.take_step w k.number (target_in k.table (target_of k))
      (rules.same_word (context_word_of bits) (rules.word_of w (name_of k.table n)))
  taken_so =
      step_free w k s viewed at.free ∙ ap (λ (t : Bool). rules.free_step (rules.beginning w k.number t) k.number)
      (ap rules.begins viewed ∙ begins_same k ∙ take_ready k n bits asks)
      ∙ (λ z. rules.target_step w k.number (target z) (looked z))
      ∙ ap (λ (m : tokens.ContextName). rules.take_step w k.number (target_in k.table (target_of k))
      (rules.same_word (context_word_of bits) (rules.word_of w m))) place
    where
      target : rules.target_of (w.carrier k.number) ≡ target_in k.table (target_of k)
      target = ap rules.target_of viewed ∙ target_same k

      looked : (w.carrier k.number).looked ≡ Some (context_word_of bits)
      looked =
          ap (λ (c : tokens.Carrier). c.looked) viewed ∙ ap word_in (ap (λ (x : CarrierSeen). x.looked) (sym same) ∙ at.looked)

  -- the word is still the same
  pub take_won : rules.word_of w (name_of k.table n) ≡ context_word_of bits →
      rules.carrier_step w k.number s ≡ rules.taken w k.number (target_in k.table (target_of k))
  take_won e =
      taken_so ∙ ap (λ (l : ContextWord). rules.take_step w k.number (target_in k.table (target_of k))
      (rules.same_word (context_word_of bits) l)) e ∙ ap (rules.take_step w k.number (target_in k.table (target_of k)))
      (word_itself (context_word_of bits))

  -- it is another
  pub take_lost : (found : ℕ) → rules.word_of w (name_of k.table n) ≡ context_word_of found → IsContextSpelling bits →
      IsContextSpelling found → found ≢ bits → rules.carrier_step w k.number s ≡
      with_carrier w k.number (carrier_view (carriers.resumed (asked script k) (answer.TakeLost found)))
  take_lost found e x y ne =
      taken_so ∙ ap (λ (l : ContextWord). rules.take_step w k.number (target_in k.table (target_of k))
      (rules.same_word (context_word_of bits) l)) e ∙ ap (rules.take_step w k.number (target_in k.table (target_of k)))
      (bits_same bits found x y ∙ other) ∙ ap (with_carrier w k.number)
      ((λ z. record (viewed z) { looked = None }) ∙ (λ z. record (carrier_view (sym same z)) { looked = None })
      ∙ sym (ap (λ a. carrier_view (carriers.resumed (asked_by script k a) (answer.TakeLost found))) asks))
    where
      other : (bits == found) ≡ false
      other = elim (eqb_tells bits found) [ inl z ↦ absurd (ne (sym z.1)) | inr z ↦ z.0 ]
