-- State words and their spellings are one for one.
use Rattle.std.proofs.Common.{◌≡◌, ℕ, ◌+◌, ◌*◌, ◌/◌, ◌%◌, ◌^◌, ◌<◌, ◌≤◌, ◌==◌, Bool, true, false, Option, Some, None, IfSome, ◌↔◌, refl, sym, ap, subst, ◌∙◌, arith}
use Rattle.k_ids.specs.declared.threads.ThreadId.{ThreadId}
use Rattle.k_ids.specs.declared.state_word.Result4.TheVariants.{Plain, Sent, Delivered, Gone}
use Rattle.k_ids.specs.declared.state_word.State.{State}
use Rattle.k_ids.specs.declared.state_word.State.TheVariants.{Dead, Run, Sending, Receiving, Picking, Ended}
use Rattle.k_ids.specs.declared.state_word.StateWord.{StateWord}
use Rattle.k_ids.specs.StateWords.{Agrees, IsPartner, IsStateSpelling, IsStateWord, bit, code_of, is_any, is_joined, is_live, partner_at, partner_bits, partner_of, result_of, state_at, state_bits, state_from, state_word_of}

-- RANGES OF THE FIELDS

bit_small : (b : Bool) → bit b < 2
bit_small true = omega arith
bit_small false = omega arith

bit_is : (b : Bool) → (bit b == 1) ≡ b
bit_is true = refl
bit_is false = refl

code_small : (s : State) → code_of s < 8
code_small Dead = omega arith
code_small (Run r) = omega arith
code_small (Sending to joined) = omega arith
code_small (Receiving from) = omega arith
code_small Picking = omega arith
code_small Ended = omega arith

result_small : (s : State) → result_of s < 4
result_small Dead = omega arith
result_small (Run Plain) = omega arith
result_small (Run Sent) = omega arith
result_small (Run (Delivered from)) = omega arith
result_small (Run Gone) = omega arith
result_small (Sending to joined) = omega arith
result_small (Receiving from) = omega arith
result_small Picking = omega arith
result_small Ended = omega arith

-- the partner, and zeros where there is none
abbrev partner_in : Option ThreadId → ThreadId
partner_in None = record { number = 0; version = 0 }
partner_in (Some id) = id

partner_sum : (o : Option ThreadId) → partner_bits o ≡ 2 ^ 8 * (partner_in o).number + 2 ^ 14 * (partner_in o).version
partner_sum None = omega arith
partner_sum (Some id) = refl

number_small : (o : Option ThreadId) → IfSome o IsPartner → (partner_in o).number < 64
number_small None h = omega arith
number_small (Some id) h = h.number

version_small : (o : Option ThreadId) → IfSome o IsPartner → (partner_in o).version < 2 ^ 20
version_small None h = omega arith
version_small (Some id) h = h.version

-- THE FIELDS OF A SUM OF FIELDS

record Parts : Type 0 where
  code : ℕ
  on : ℕ
  joined : ℕ
  any : ℕ
  outcome : ℕ
  number : ℕ
  partner : ℕ
  version : ℕ
  priority : ℕ
  code_small : code < 8
  on_small : on < 2
  joined_small : joined < 2
  any_small : any < 2
  outcome_small : outcome < 4
  number_small : number < 64
  partner_small : partner < 2 ^ 20
  version_small : version < 2 ^ 20
  priority_small : priority < 64

abbrev sum_of : Parts → ℕ
sum_of p = p.code + 2 ^ 3 * p.on + 2 ^ 4 * p.joined + 2 ^ 5 * p.any + 2 ^ 6 * p.outcome + (2 ^ 8 * p.number + 2 ^ 14 * p.partner)
    + 2 ^ 34 * p.version + 2 ^ 54 * p.priority

code_part : (p : Parts) → sum_of p % 8 ≡ p.code
code_part p = omega arith

on_part : (p : Parts) → sum_of p / 2 ^ 3 % 2 ≡ p.on
on_part p = omega arith

joined_part : (p : Parts) → sum_of p / 2 ^ 4 % 2 ≡ p.joined
joined_part p = omega arith

any_part : (p : Parts) → sum_of p / 2 ^ 5 % 2 ≡ p.any
any_part p = omega arith

outcome_part : (p : Parts) → sum_of p / 2 ^ 6 % 4 ≡ p.outcome
outcome_part p = omega arith

number_part : (p : Parts) → sum_of p / 2 ^ 8 % 64 ≡ p.number
number_part p = omega arith

partner_part : (p : Parts) → sum_of p / 2 ^ 14 % 2 ^ 20 ≡ p.partner
partner_part p = omega arith

version_part : (p : Parts) → sum_of p / 2 ^ 34 % 2 ^ 20 ≡ p.version
version_part p = omega arith

priority_part : (p : Parts) → sum_of p / 2 ^ 54 % 64 ≡ p.priority
priority_part p = omega arith

sum_small : (p : Parts) → sum_of p < 2 ^ 60
sum_small p = omega arith

-- THE WORD OF A SPELLING

-- the parts of a word
abbrev parts_of : (w : StateWord) → IsStateWord w → Parts
parts_of w h = record {
  code = code_of w.state;
  on = bit w.on;
  joined = bit (is_joined w.state);
  any = bit (is_any w.state);
  outcome = result_of w.state;
  number = (partner_in (partner_of w.state)).number;
  partner = (partner_in (partner_of w.state)).version;
  version = w.version;
  priority = w.priority;
  code_small = code_small w.state;
  on_small = bit_small w.on;
  joined_small = bit_small (is_joined w.state);
  any_small = bit_small (is_any w.state);
  outcome_small = result_small w.state;
  number_small = number_small (partner_of w.state) h.partner;
  partner_small = version_small (partner_of w.state) h.partner;
  version_small = h.version;
  priority_small = h.priority;
}

state_sum : (w : StateWord) (h : IsStateWord w) → state_bits w ≡ sum_of (parts_of w h)
unfolding state_bits
state_sum w h = rw (partner_sum (partner_of w.state)) refl

-- A state is told by its fields.
from_own : (s : State) → state_from (code_of s) (is_joined s) (is_any s) (result_of s) (partner_in (partner_of s)) ≡ s
from_own Dead = refl
from_own (Run Plain) = refl
from_own (Run Sent) = refl
from_own (Run (Delivered from)) = refl
from_own (Run Gone) = refl
from_own (Sending to joined) = refl
from_own (Receiving None) = refl
from_own (Receiving (Some from)) = refl
from_own Picking = refl
from_own Ended = refl

state_part : (w : StateWord) (h : IsStateWord w) → state_at (sum_of (parts_of w h)) ≡ w.state
state_part w h =
    let p = parts_of w h in
    let joined : ((sum_of p / 2 ^ 4 % 2) == 1) ≡ is_joined w.state = ap (λ (n : ℕ). n == 1) (joined_part p) ∙ bit_is (is_joined w.state) in
    let any : ((sum_of p / 2 ^ 5 % 2) == 1) ≡ is_any w.state = ap (λ (n : ℕ). n == 1) (any_part p) ∙ bit_is (is_any w.state) in
    let partner : partner_at (sum_of p) ≡ partner_in (partner_of w.state) = λ i. record { number = number_part p i; version = partner_part p i } in
    (λ i. state_from (code_part p i) (joined i) (any i) (outcome_part p i) (partner i)) ∙ from_own w.state

word_of_sum : (w : StateWord) (h : IsStateWord w) → state_word_of (sum_of (parts_of w h)) ≡ w
unfolding state_word_of
word_of_sum w h =
    let p = parts_of w h in
    let on : ((sum_of p / 2 ^ 3 % 2) == 1) ≡ w.on = ap (λ (n : ℕ). n == 1) (on_part p) ∙ bit_is w.on in
    let state : state_at (sum_of p) ≡ w.state = state_part w h in
    λ i. record { version = version_part p i; priority = priority_part p i; on = on i; state = state i }

pub state-read : (w : StateWord) → IsStateWord w → state_word_of (state_bits w) ≡ w
state-read w h = ap state_word_of (state_sum w h) ∙ word_of_sum w h

pub state-bits_small : (w : StateWord) → IsStateWord w → state_bits w < 2 ^ 60
state-bits_small w h = rw (state_sum w h) (sum_small (parts_of w h))

-- THE WORD THAT BITS SPELL

abbrev pub Spells : ℕ → StateWord → Type 0
Spells n w = IsStateWord w × (state_bits w ≡ n)

-- bits spell the word that they are read as, or none
pub spells-read : (n : ℕ) (w : StateWord) → Spells n w → state_word_of n ≡ w
spells-read n w h = ap state_word_of (sym h.1) ∙ state-read w h.0

pub some-spelled : (n : ℕ) (v : StateWord) → v ≡ state_word_of n → IsStateWord v → state_bits v ≡ n → (w : StateWord) → (Some v ≡ Some w) ↔ Spells n w
some-spelled n v e whole same w = (
  λ q. let equal : v ≡ w = cc in (subst IsStateWord equal whole, ap state_bits (sym equal) ∙ same),
  λ h. ap Some (e ∙ spells-read n w h),
)

pub none-spelled : (n : ℕ) (v : StateWord) → v ≡ state_word_of n → (IsStateWord v → state_bits v ≡ n → ⊥) → (w : StateWord) → (None ≡ Some w) ↔ Spells n w
none-spelled n v e fails w = (
  λ q. absurd cc,
  λ h. let equal : v ≡ w = e ∙ spells-read n w h in absurd (fails (subst IsStateWord (sym equal) h.0) (ap state_bits equal ∙ h.1)),
)

pub state-whole : (w : StateWord) → IsStateWord w → IsStateSpelling (state_bits w)
state-whole w h = record { whole = subst IsStateWord (sym (state-read w h)) h; same = ap state_bits (state-read w h) }

-- bits are the spelling of a word exactly where they are read as it
pub state-same : (n : ℕ) (w : StateWord) → IsStateSpelling n → IsStateWord w → (n ≡ state_bits w) ↔ (state_word_of n ≡ w)
state-same n w s h = (λ e. ap state_word_of e ∙ state-read w h, λ e. sym s.same ∙ ap state_bits e)

pub state-one : (v w : StateWord) → IsStateWord v → IsStateWord w → state_bits v ≡ state_bits w → v ≡ w
state-one v w g h e = sym (state-read v g) ∙ ap state_word_of e ∙ state-read w h

-- THE WORDS THAT A STEP WRITES

pub live_agrees : (s : State) (w : StateWord) → is_live s ≡ true → 1 ≤ w.version → Agrees s w
live_agrees Dead w live born = absurd cc
live_agrees (Run r) w live born = born
live_agrees (Sending to joined) w live born = born
live_agrees (Receiving from) w live born = born
live_agrees Picking w live born = born
live_agrees Ended w live born = absurd cc
