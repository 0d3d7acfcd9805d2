-- What the walked sections rest on.
use Rattle.std.proofs.Common.{◌≡◌, ◌<◌, ◌≤◌, ℕ, true, false, List, [], ◌∷◌, length, refl, sym, ◌∙◌, ap, subst, inl, inr, arith}
use Rattle.std.specs.Int.{bit_at}
use Rattle.std.proofs.lemmas.Bool.{cases_lt}
use Rattle.std.proofs.lemmas.List.{get_or_past}
use Rattle.std.proofs.lemmas.Nat.Bits.{bit_at-zero}
use Rattle.k_ids.specs.declared.threads.ThreadId.{ThreadId}
use Rattle.k_ids.specs.declared.state_word.StateWord.{StateWord}
use Rattle.k_ids.specs.declared.state_word.State.{State}
use Rattle.k_ids.specs.declared.state_word.State.TheVariants as state
use Rattle.k_ids.specs.declared.state_word.Result4.TheVariants as result4
use Rattle.k_ids.specs.StateWords.{IsStateSpelling, IsStateWord, state_bits, state_word_of}
use Rattle.k_ids.proofs.StateSpelled.{state-read, state-whole}
use Rattle.k_ready.specs.Lists.{IsInNone, list_of, mask_bit, stands}
use Rattle.k_locks.specs.Threads.{IsRunOf, runs}
use Rattle.k_locks.specs.declared.steps.Answer.TheVariants as answer
use Rattle.k_locks.specs.declared.steps.Told.TheVariants as told
use Rattle.k_threads.specs.declared.create.CreateLocked.TheVariants as create_locked
use Rattle.k_threads.specs.declared.destroy.DestroyLocked.TheVariants as destroy_locked
use Rattle.k_threads.specs.declared.destroy.DestroyOutside.TheVariants as destroy_outside
use Rattle.k_threads.specs.declared.destroy.DestroyVictim.TheVariants as destroy_victim
use Rattle.k_threads.specs.declared.destroy.DestroyVisit.TheVariants as destroy_visit
use Rattle.k_threads.specs.CreateTable as create
use Rattle.k_threads.specs.DestroyTable as destroy

no_bit : (n : ℕ) (es : List ThreadId) → mask_bit es ≡ 0 → stands n es ≡ false
no_bit n [] e = refl
no_bit n (f ∷ es) e = grind arith

pub empty_lists : (lists : List (List ThreadId)) (mask n : ℕ) → length lists ≡ 64 → ((p : ℕ) → p < 64 → bit_at mask p ≡ mask_bit (list_of lists p)) → mask ≡ 0 → IsInNone n lists
empty_lists lists mask n size bits none p = elim (cases_lt p 64) [
  | inl inside ↦ no_bit n (list_of lists p) (sym (bits p inside) ∙ ap (λ m. bit_at m p) none ∙ bit_at-zero p)
  | inr past ↦ ap (stands n) (get_or_past lists p [] (rw size past))
]

-- a word of a thread can be loaded at each location
pub create_fits : (bits : ℕ) → IsStateSpelling bits × (1 ≤ (state_word_of bits).version) → (p : create.CreateAt) → create.IsFit p (answer.Told (told.Loaded bits))
create_fits bits t (create.Locked create_locked.LoadCaller) = t.0
create_fits bits t p = tt

pub destroy_fits : (bits : ℕ) → IsStateSpelling bits × (1 ≤ (state_word_of bits).version) → (p : destroy.DestroyAt) → destroy.IsFit p (answer.Told (told.Loaded bits))
destroy_fits bits t (destroy.Outside destroy_outside.LoadOwn) = t.0
destroy_fits bits t (destroy.Locked destroy_locked.LoadCaller) = t.0
destroy_fits bits t (destroy.Victim destroy_victim.LoadVictim) = t.0
destroy_fits bits t (destroy.Victim (destroy_victim.LoadSender sender)) = t
destroy_fits bits t (destroy.Visit (destroy_visit.LoadVisited visited)) = t.0
destroy_fits bits t p = tt

pub spelled : (bits : ℕ) (w : StateWord) → IsStateWord w → state_bits w ≡ bits → 1 ≤ w.version → IsStateSpelling bits × (1 ≤ (state_word_of bits).version)
spelled bits w whole same born = subst (λ (n : ℕ). IsStateSpelling n × (1 ≤ (state_word_of n).version)) same (state-whole w whole, subst (λ (v : StateWord). 1 ≤ v.version) (sym (state-read w whole)) born)

pub own_word : (id : ThreadId) (w : StateWord) → IsStateWord w → w.version ≡ id.version → w.state ≡ state.Run result4.Plain → IsRunOf id (state_bits w)
own_word id w whole same running = record {
  spelled = state-whole w whole;
  version = subst (λ (v : StateWord). v.version ≡ id.version) (sym (state-read w whole)) same;
  running = subst (λ (v : StateWord). runs v.state ≡ true) (sym (state-read w whole)) (subst (λ (s : State). runs s ≡ true) (sym running) refl);
}
