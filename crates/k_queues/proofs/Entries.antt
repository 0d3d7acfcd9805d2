-- Entries of a queue, by their numbers.
use Rattle.std.proofs.Common.{◌≡◌, ◌≢◌, ℕ, Bool, true, false, refl, sym, ap, ◌∙◌, subst}
use Rattle.std.proofs.Common.{Option, Some, None, List, [], ◌∷◌, ◌++◌, ◌⊎◌, inl, inr, eqb}
use Rattle.std.specs.Prelude.{◌==◌, if◌then◌else◌}
use Rattle.std.proofs.lemmas.Bool.{and_parts, cases_Bool, eqb-true, eq-eqb}
use Rattle.std.proofs.lemmas.Bool.Decides.{eqb_tells}
use Rattle.k_ids.specs.declared.threads.ThreadId.{ThreadId}
use Rattle.k_ids.specs.declared.state_word.State.{State}
use Rattle.k_ids.specs.declared.state_word.State.TheVariants as state
use Rattle.k_ids.specs.declared.state_word.StateWord.{StateWord}
use Rattle.k_model.specs.State.{same_id}
use Rattle.k_links.proofs.Appended.{entry_append, nothing_entry}
use Rattle.k_links.proofs.Linked.{standing_entry}
use Rattle.k_links.proofs.Removed.{entry_number, entry_without}
use Rattle.k_senders.specs.declared.entries.SenderEntry.{SenderEntry}
use Rattle.k_senders.specs.Entries.{number_of}
use Rattle.k_senders.specs.Queue.{IsOnceEach, entry_of, first_number, stands, without}
use Rattle.k_locks.specs.Shown.{is_dead, is_dead_state}
use Rattle.k_ipc.specs.Words.{sends_to}
use Rattle.k_threads.specs.Goods.{rest}
use Rattle.k_board.specs.Words.{Seen}
use Rattle.k_board.specs.Facts.{AllWait, waits_for}

pub some_is : {A : Type 0} {a c : A} → Some a ≡ Some c → a ≡ c
some_is e = cc

pub none_some : {A : Type 0} {a : A} → None ≡ Some a → ⊥
none_some e = cc

pub true_false : {a : Bool} → a ≡ true → a ≡ false → ⊥
true_false e f = cc

-- an entry is of its number
pub of_number : (n : ℕ) (q : List SenderEntry) (e : SenderEntry) → entry_of n q ≡ Some e → number_of e ≡ n
of_number n q e h = entry_number number_of n q e h

pub none_stands : (n : ℕ) (q : List SenderEntry) → ((e : SenderEntry) → entry_of n q ≡ Some e → ⊥) → stands n q ≡ false
none_stands n q h = elim (cases_Bool (stands n q)) [
  | inl y ↦ absurd (by (entry_of n q) refl (standing_entry number_of n q y))
  | inr y ↦ y
]
  where
    by : (o : Option SenderEntry) → entry_of n q ≡ o → entry_of n q ≢ None → ⊥
    by None e ne = ne e
    by (Some f) e ne = h f e

pub nothing_is : (n : ℕ) (q : List SenderEntry) (e : SenderEntry) → stands n q ≡ false → entry_of n q ≡ Some e → ⊥
nothing_is n q e s h = none_some (sym (nothing_entry number_of n q s) ∙ h)

-- the first entry, and one of the others
pub head_entry : (e : SenderEntry) (q : List SenderEntry) → entry_of (number_of e) (e ∷ q) ≡ Some e
head_entry e q = rw (eq-eqb (number_of e) (number_of e) refl) refl

pub tail_entry : (f e : SenderEntry) (n : ℕ) (q : List SenderEntry) → stands (number_of f) q ≡ false → entry_of n q ≡ Some e →
    entry_of n (f ∷ q) ≡ Some e
tail_entry f e n q s h = elim (eqb_tells (number_of f) n) [
  | inl y ↦ absurd (nothing_is n q e (subst (λ (k : ℕ). stands k q ≡ false) y.1 s) h)
  | inr y ↦ rw y.0 h
]

-- what holds of each entry
pub all_wait : (to : ThreadId) (s : ℕ → Seen) (q : List SenderEntry) → IsOnceEach q →
    ((n : ℕ) (e : SenderEntry) → entry_of n q ≡ Some e → waits_for to e (s n).word ≡ true) → AllWait to s q
all_wait to s [] o h = tt
all_wait to s (e ∷ q) o h = (h (number_of e) e (head_entry e q), all_wait to s q o.1 (λ n f i. h n f (tail_entry e f n q o.0 i)))

-- an entry that is left where another number's was taken out
pub left_entry : (n m : ℕ) (q : List SenderEntry) (e : SenderEntry) → IsOnceEach q → entry_of n (without m q) ≡ Some e →
    (entry_of n q ≡ Some e) × (n ≢ m)
left_entry n m q e o h = elim (eqb_tells m n) [
  | inl y ↦ absurd (none_some (sym (entry_without number_of n m q o ∙ at_it y.0) ∙ h))
  | inr y ↦ (sym (entry_without number_of n m q o ∙ at_other y.0) ∙ h, λ z. y.1 (sym z))
]
  where
    at_it : (m == n) ≡ true → (if m == n then None else entry_of n q) ≡ None
    at_it y = rw y refl

    at_other : (m == n) ≡ false → (if m == n then None else entry_of n q) ≡ entry_of n q
    at_other y = rw y refl

pub stays_entry : (n m : ℕ) (q : List SenderEntry) (e : SenderEntry) → IsOnceEach q → entry_of n q ≡ Some e → n ≢ m →
    entry_of n (without m q) ≡ Some e
stays_entry n m q e o h ne = entry_without number_of n m q o ∙ at_other
  where
    at_other : (if m == n then None else entry_of n q) ≡ Some e
    at_other = elim (eqb_tells m n) [ inl y ↦ absurd (ne (sym y.1)) | inr y ↦ rw y.0 h ]

-- an entry after one more has come
pub more_entry : (n : ℕ) (q : List SenderEntry) (e f : SenderEntry) → stands (number_of f) q ≡ false →
    entry_of n (q ++ f ∷ []) ≡ Some e → (entry_of n q ≡ Some e) ⊎ ((n ≡ number_of f) × (e ≡ f))
more_entry n q e f s h = elim (eqb_tells (number_of f) n) [
  | inl y ↦ inr (sym y.1, sym (some_is (sym (at_it y.0) ∙ h)))
  | inr y ↦ inl (sym (at_other y.0) ∙ h)
]
  where
    at_it : (number_of f == n) ≡ true → entry_of n (q ++ f ∷ []) ≡ Some f
    at_it y = entry_append number_of n q f s ∙ rw y refl

    at_other : (number_of f == n) ≡ false → entry_of n (q ++ f ∷ []) ≡ entry_of n q
    at_other y = entry_append number_of n q f s ∙ rw y refl

pub last_entry : (q : List SenderEntry) (f : SenderEntry) → stands (number_of f) q ≡ false →
    entry_of (number_of f) (q ++ f ∷ []) ≡ Some f
last_entry q f s = entry_append number_of (number_of f) q f s ∙ at_it
  where
    at_it : (if number_of f == number_of f then Some f else entry_of (number_of f) q) ≡ Some f
    at_it = rw (eq-eqb (number_of f) (number_of f) refl) refl

pub still_entry : (n : ℕ) (q : List SenderEntry) (e f : SenderEntry) → stands (number_of f) q ≡ false → entry_of n q ≡ Some e →
    entry_of n (q ++ f ∷ []) ≡ Some e
still_entry n q e f s h = elim (eqb_tells (number_of f) n) [
  | inl y ↦ absurd (nothing_is n q e (subst (λ (k : ℕ). stands k q ≡ false) y.1 s) h)
  | inr y ↦ entry_append number_of n q f s ∙ rw y.0 h
]

-- the first entry is taken out
pub without_first : (n : ℕ) (q : List SenderEntry) → first_number q ≡ Some n → without n q ≡ rest q
without_first n [] h = absurd cc
without_first n (e ∷ q) h = rw (eq-eqb (number_of e) n (some_is h)) refl

-- THE TESTS OF A WORD

pub same_is : (a c : ThreadId) → same_id a c ≡ true → a ≡ c
same_is a c h =
    let q = and_parts (eqb a.number c.number) (eqb a.version c.version) h in
    λ d. record { number = eqb-true a.number c.number q.0 d; version = eqb-true a.version c.version q.1 d }

pub same_self : (a : ThreadId) → same_id a a ≡ true
same_self a = rw (eq-eqb a.number a.number refl, eq-eqb a.version a.version refl) refl

pub sends_state : (to : ThreadId) (s : State) → sends_to to s ≡ true → (joined : Bool) × (s ≡ state.Sending to joined)
sends_state to (state.Sending r joined) h = (joined, ap (λ (id : ThreadId). state.Sending id joined) (same_is r to h))
sends_state to state.Dead h = absurd cc
sends_state to (state.Run result) h = absurd cc
sends_state to (state.Receiving from) h = absurd cc
sends_state to state.Picking h = absurd cc
sends_state to state.Ended h = absurd cc

-- who was destroyed doesn't wait
pub dead_silent : (to : ThreadId) (w : StateWord) → is_dead w ≡ true → sends_to to w.state ≡ true → ⊥
dead_silent to w d y = silent w.state d y
  where
    silent : (s : State) → is_dead_state s ≡ true → sends_to to s ≡ true → ⊥
    silent (state.Sending r joined) d y = cc
    silent state.Dead d y = cc
    silent (state.Run result) d y = cc
    silent (state.Receiving from) d y = cc
    silent state.Picking d y = cc
    silent state.Ended d y = cc

-- a thread waits for one thread at a time
pub sends_once : (a c : ThreadId) (s : State) → sends_to a s ≡ true → sends_to c s ≡ true → a ≡ c
sends_once a c (state.Sending r joined) h k = sym (same_is r a h) ∙ same_is r c k
sends_once a c state.Dead h k = absurd cc
sends_once a c (state.Run result) h k = absurd cc
sends_once a c (state.Receiving from) h k = absurd cc
sends_once a c state.Picking h k = absurd cc
sends_once a c state.Ended h k = absurd cc
