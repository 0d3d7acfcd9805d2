-- Two state words are the same exactly where each field is.
use Rattle.std.proofs.Common.{◌≡◌, ◌≢◌, Bool, true, false, refl, subst, Option, Some, None, arith}
use Rattle.std.specs.Prelude.{◌==◌}
use Rattle.std.proofs.lemmas.Bool.{false≢true}
use Rattle.std.proofs.lemmas.Bool.Decides.{nat_tests}
use Rattle.k_ids.specs.declared.threads.ThreadId.{ThreadId}
use Rattle.k_ids.specs.declared.state_word.Result4.{Result4}
use Rattle.k_ids.specs.declared.state_word.Result4.TheVariants as result4
use Rattle.k_ids.specs.declared.state_word.State.{State}
use Rattle.k_ids.specs.declared.state_word.State.TheVariants as state
use Rattle.k_ids.specs.declared.state_word.StateWord.{StateWord}
use Rattle.k_model.specs.State.{same_id}
use Rattle.k_bound.proofs.Founds.{and_true}
use Rattle.k_sections.specs.Words.{same_flag, same_from, same_result, same_state, same_words}

-- THE SAME BY FIELDS IS THE SAME

flag_is : (a b : Bool) → same_flag a b ≡ true → a ≡ b
flag_is true true e = refl
flag_is false false e = refl
flag_is true false e = absurd (false≢true e)
flag_is false true e = absurd (false≢true e)

id_is : (a b : ThreadId) → same_id a b ≡ true → a ≡ b
id_is a b e =
    let t = and_true (a.number == b.number) (a.version == b.version) e in
    let n : a.number ≡ b.number = grind (arith, nat_tests, t.0) in
    let v : a.version ≡ b.version = grind (arith, nat_tests, t.1) in
    λ d. record { number = n d; version = v d }

from_is : (a b : Option ThreadId) → same_from a b ≡ true → a ≡ b
from_is None None e = refl
from_is (Some a) (Some b) e = subst (λ (c : ThreadId). Some a ≡ Some c) (id_is a b e) refl
from_is None (Some b) e = absurd (false≢true e)
from_is (Some a) None e = absurd (false≢true e)

result_is : (a b : Result4) → same_result a b ≡ true → a ≡ b
result_is result4.Plain result4.Plain e = refl
result_is result4.Sent result4.Sent e = refl
result_is result4.Gone result4.Gone e = refl
result_is (result4.Delivered a) (result4.Delivered b) e =
    subst (λ (c : ThreadId). result4.Delivered a ≡ result4.Delivered c) (id_is a b e) refl
result_is a b e = absurd (false≢true e)

state_is : (a b : State) → same_state a b ≡ true → a ≡ b
state_is state.Dead state.Dead e = refl
state_is (state.Run a) (state.Run b) e = subst (λ (c : Result4). state.Run a ≡ state.Run c) (result_is a b e) refl
state_is (state.Sending a m) (state.Sending b n) e =
    let t = and_true (same_id a b) (same_flag m n) e in
    let i = id_is a b t.0 in
    let f = flag_is m n t.1 in
    λ d. state.Sending (i d) (f d)
state_is (state.Receiving a) (state.Receiving b) e =
    subst (λ (c : Option ThreadId). state.Receiving a ≡ state.Receiving c) (from_is a b e) refl
state_is state.Picking state.Picking e = refl
state_is state.Ended state.Ended e = refl
state_is a b e = absurd (false≢true e)

pub words_are : (v w : StateWord) → same_words v w ≡ true → v ≡ w
words_are v w e =
    let t = and_true (v.version == w.version) _ e in
    let u = and_true (v.priority == w.priority) _ t.1 in
    let s = and_true (same_flag v.on w.on) _ u.1 in
    let n : v.version ≡ w.version = grind (arith, nat_tests, t.0) in
    let p : v.priority ≡ w.priority = grind (arith, nat_tests, u.0) in
    let o = flag_is v.on w.on s.0 in
    let q = state_is v.state w.state s.1 in
    λ d. record { version = n d; priority = p d; on = o d; state = q d }

-- AND BACK

flag_same : (a : Bool) → same_flag a a ≡ true
flag_same true = refl
flag_same false = refl

id_same : (a : ThreadId) → same_id a a ≡ true
id_same a = grind (arith, nat_tests)

from_same : (a : Option ThreadId) → same_from a a ≡ true
from_same None = refl
from_same (Some a) = id_same a

result_same : (a : Result4) → same_result a a ≡ true
result_same result4.Plain = refl
result_same result4.Sent = refl
result_same result4.Gone = refl
result_same (result4.Delivered a) = id_same a

state_same : (a : State) → same_state a a ≡ true
state_same state.Dead = refl
state_same (state.Run a) = result_same a
state_same (state.Sending a m) = grind (arith, id_same a, flag_same m)
state_same (state.Receiving a) = from_same a
state_same state.Picking = refl
state_same state.Ended = refl

pub word_same : (v : StateWord) → same_words v v ≡ true
word_same v = grind (arith, nat_tests, flag_same v.on, state_same v.state)

pub same_where : (v w : StateWord) → v ≡ w → same_words v w ≡ true
same_where v w e = subst (λ (u : StateWord). same_words v u ≡ true) e (word_same v)

pub words_differ : (v w : StateWord) → same_words v w ≡ false → v ≡ w → ⊥
words_differ v w e q = absurd (false≢true (subst (λ (t : Bool). t ≡ true) e (same_where v w q)))

pub differ_where : (v w : StateWord) → v ≢ w → same_words v w ≡ false
differ_where v w ne = go (same_words v w) refl
  where
    go : (t : Bool) → same_words v w ≡ t → t ≡ false
    go true q = absurd (ne (words_are v w q))
    go false q = refl
