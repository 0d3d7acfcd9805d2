-- A caller is there, and a thread's word is renewed.
use Rattle.std.proofs.Common.{◌≡◌, ◌≢◌, ℕ, ◌≤◌, true, false, refl, sym, ap, ◌∙◌, arith, Some}
use Rattle.std.proofs.lemmas.Bool.{false≢true, eqb-true, eq-eqb, and_parts}
use Rattle.std.specs.Option.{IfSome}
use Rattle.k_ids.specs.declared.threads.ThreadId.{ThreadId}
use Rattle.k_ids.specs.declared.threads.Status.TheVariants as status
use Rattle.k_ids.specs.declared.state_word.State.{State}
use Rattle.k_ids.specs.declared.state_word.State.TheVariants as state
use Rattle.k_ids.specs.declared.state_word.StateWord.{StateWord}
use Rattle.k_ids.specs.StateWords.{IsStateWord, IsPartner, Agrees, is_live, partner_of}
use Rattle.k_ids.proofs.StateSpelled.{live_agrees}
use Rattle.k_model.specs.Maps.{upd}
use Rattle.k_model.specs.State.{is_dead, is_present, same_id}
use Rattle.k_model.proofs.Maps.{upd_tells}
use Rattle.k_shown.specs.Memory.{Memory, table}
use Rattle.k_locks.specs.Shown.{shows}
use Rattle.k_shown.specs.Sound.{IsCaller}
use Rattle.k_shown.specs.Words.{on_with}
use Rattle.k_shown.proofs.Kept.{Renews}

pub caller_present : (m : Memory) (me : ThreadId) (own : StateWord) → IsCaller m me own → is_present (table m) me ≡ true
caller_present m me own c = rw (c.word, c.runs, c.version, eq-eqb me.version me.version refl) refl

-- Two present threads of one number are the same.
pub apart_numbers : (m : Memory) (a b : ThreadId) → is_present (table m) a ≡ true → is_present (table m) b ≡ true → same_id a b ≡ false → a.number ≢ b.number
apart_numbers m a b p q ne e =
    let va = eqb-true _ _ (and_parts _ _ p).0 in
    let vb = eqb-true _ _ (and_parts _ _ q).0 in
    let v : a.version ≡ b.version = sym va ∙ ap (λ (j : ℕ). (m.word j).version) e ∙ vb in
    false≢true (sym ne ∙ rw (eq-eqb a.number b.number e, eq-eqb a.version b.version v) refl)

alive_agrees : (s : State) (w : StateWord) → Agrees s w → is_dead (shows s) ≡ false → 1 ≤ w.version
alive_agrees state.Dead w a d = absurd (false≢true (sym d))
alive_agrees (state.Run r) w a d = a
alive_agrees (state.Sending to joined) w a d = a
alive_agrees (state.Receiving from) w a d = a
alive_agrees state.Picking w a d = a
alive_agrees state.Ended w a d = a.0

pub alive_version : (w : StateWord) → IsStateWord w → is_dead (shows w.state) ≡ false → 1 ≤ w.version
alive_version w s d = alive_agrees w.state w s.agrees d

live_alive : (s : State) → is_live s ≡ true → is_dead (shows s) ≡ false
live_alive state.Dead l = sym l
live_alive (state.Run r) l = refl
live_alive (state.Sending to joined) l = refl
live_alive (state.Receiving from) l = refl
live_alive state.Picking l = refl
live_alive state.Ended l = refl

pub on_word : (w : StateWord) (s : State) → IsStateWord w → is_dead (shows w.state) ≡ false → is_live s ≡ true → IfSome (partner_of s) IsPartner → IsStateWord (on_with w s)
on_word w s i d l p = record {
  version = i.version;
  priority = i.priority;
  partner = p;
  agrees = live_agrees s (on_with w s) l (alive_version w i d);
}

pub renews : (m : Memory) (n : ℕ) (s : State) → IsStateWord (m.word n) → is_dead (shows (m.word n).state) ≡ false → is_live s ≡ true → IfSome (partner_of s) IsPartner → ((to : ThreadId) → shows s ≡ status.Sending to → (is_present (table m) to ≡ true) × (to.number ≢ n)) → ((from : ThreadId) → shows s ≡ status.Receiving (Some from) → is_present (table m) from ≡ true) → Renews m n (on_with (m.word n) s)
renews m n s i d l p to from = record {
  word = on_word (m.word n) s i d l p;
  version = refl;
  alive = live_alive s l;
  lived = d;
  on = λ _. refl;
  level = refl;
  sending = to;
  receiving = from;
}

pub upd_swap : {A : Type 0} (f : ℕ → A) (n t : ℕ) (a b : A) → n ≢ t → upd (upd f n a) t b ≡ upd (upd f t b) n a
upd_swap f n t a b ne = λ d u. at u d
  where
    at : (u : ℕ) → upd (upd f n a) t b u ≡ upd (upd f t b) n a u
    at u = grind (arith, upd_tells)

pub upd_self : {A : Type 0} (f : ℕ → A) (n : ℕ) → upd f n (f n) ≡ f
upd_self f n = λ d u. at u d
  where
    at : (u : ℕ) → upd f n (f n) u ≡ f u
    at u = grind (arith, upd_tells)

pub upd_twice : {A : Type 0} (f : ℕ → A) (n : ℕ) (a b : A) → upd (upd f n a) n b ≡ upd f n b
upd_twice f n a b = λ d u. at u d
  where
    at : (u : ℕ) → upd (upd f n a) n b u ≡ upd f n b u
    at u = grind (arith, upd_tells)
