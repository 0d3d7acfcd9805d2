-- Only a give of a carrier's own finished switch, in which it has found nobody to run, is told Idle.
use Rattle.std.proofs.Common.{◌≡◌, ℕ, ◌==◌, Bool, true, false, refl, sym, ap, ◌∙◌, Option, Some, None}
use Rattle.std.specs.Prelude.{if◌then◌else◌}
use Rattle.std.proofs.lemmas.Bool.{false≢true}
use Rattle.k_ids.specs.declared.context_word.ContextWord.{ContextWord}
use Rattle.k_ids.specs.declared.context_word.ContextWord.TheVariants as word
use Rattle.k_ids.specs.ContextWords.{context_word_of}
use Rattle.k_locks.specs.declared.locks.Lock.{Lock}
use Rattle.k_locks.specs.declared.locks.WordName.TheVariants as name
use Rattle.k_locks.specs.declared.steps.Answer.{Answer}
use Rattle.k_locks.specs.declared.steps.Told.{Told}
use Rattle.k_locks.specs.declared.steps.Told.TheVariants as told
use Rattle.k_locks.specs.Places.{slot_of}
use Rattle.k_script.specs.Script.{Script}
use Rattle.k_caller.specs.declared.ran.Ran.{Ran}
use Rattle.k_caller.specs.declared.ran.Ran.TheVariants as ran
use Rattle.k_switch.specs.declared.goal.Goal.{Goal}
use Rattle.k_switch.specs.declared.goal.Switched.{Switched}
use Rattle.k_context.specs.declared.owner.Owner.{Owner}
use Rattle.k_context.specs.declared.owner.Owner.TheVariants as owner
use Rattle.k_context.specs.Contexts.{owner_of, ran_of}
use Rattle.k_carrier.specs.declared.moves.Stepped.{Stepped}
use Rattle.k_carrier.specs.declared.moves.Stepped.TheVariants as stepped
use Rattle.k_carrier.specs.Answers as answers
use Rattle.k_carrier.specs.Asked.{CarrierAsk, LookAt, PutDown, Run, Take, ask_of, asked_by}
use Rattle.k_carrier.specs.Resumed.{lock_awaited, told_in}
use Rattle.k_carrier.specs.Rules.{is_goals, own_switched}
use Rattle.k_carrier.specs.Seen.{CarrierSeen, HandSeen}
use Rattle.k_carrier.specs.Told.{blocked, stepped_of, told_by, told_section, told_switched, told_waiting, told_word}
use Rattle.k_carriers.specs.Kernel.{is_told_idle}
use Rattle.k_world.specs.Moves.{took}
use Rattle.k_world.specs.Steps.{told_of}
use Rattle.k_world.specs.Worlds.{Away, Guarded, Resting, Slot, World, carrier_at, slot_at, word_at}
use Rattle.k_ending.proofs.Steps as steps

-- WHAT ELSE IS TOLD

blocked_busy : (l : Option Lock) (n : ℕ) → is_told_idle (blocked l n) ≡ false
blocked_busy None n = refl
blocked_busy (Some l) n = refl

left_busy : (t : Bool) → is_told_idle (if t then stepped.Left else stepped.On) ≡ false
left_busy true = refl
left_busy false = refl

ran_busy : (g : Option Goal) (o : Owner) (r : Ran) → is_told_idle (told_by g o r) ≡ false
ran_busy g o ran.Left = left_busy (is_goals g o)
ran_busy g (owner.Thread id) (ran.Replied serial reply) = refl
ran_busy g (owner.Carrier n) (ran.Replied serial reply) = refl
ran_busy g o ran.On = refl
ran_busy g o ran.Again = refl
ran_busy g o (ran.Pushed priority) = refl
ran_busy g o ran.Dead = refl

waiting_busy : (l : Option Lock) (t : Option Told) (s : Stepped) → is_told_idle s ≡ false →
    is_told_idle (told_waiting l t s) ≡ false
waiting_busy l (Some (told.Owned n)) s e = blocked_busy l n
waiting_busy l (Some (told.Holds n)) s e = refl
waiting_busy l (Some (told.Taken n d)) s e = refl
waiting_busy l t s e = e

section_busy : (k : CarrierSeen) (o : Option HandSeen) (a : Answer) → is_told_idle (told_section k o a) ≡ false
section_busy k (Some x) a =
    waiting_busy (lock_awaited k.awaits) (told_in a) (told_by k.goal (owner_of x.value) (ran_of x.value a))
    (ran_busy k.goal (owner_of x.value) (ran_of x.value a))
section_busy k None a = refl

word_busy : (n : ℕ) (l : ContextWord) → is_told_idle (told_word n l) ≡ false
word_busy n (word.Taken d version) = refl
word_busy n (word.Clean version) = refl
word_busy n (word.Holds version) = refl
word_busy n word.Empty = refl

-- a switch that is over
pub record IsIdle (o : Option Switched) : Type 0 where
  pub switched : Switched
  pub is : o ≡ Some switched
  pub idle : switched.idle ≡ true

switch_idle : (o : Option Switched) → is_told_idle (told_switched o) ≡ true → IsIdle o
switch_idle None e = absurd (false≢true e)
switch_idle (Some s) e = by s.idle refl e
  where
    by : (t : Bool) → s.idle ≡ t → is_told_idle (if t then stepped.Idle else stepped.On) ≡ true → IsIdle (Some s)
    by true q z = record { switched = s; is = refl; idle = q }
    by false q z = absurd (false≢true z)

module _ (script : Script) (w : World) (c : ℕ) where
  abbrev K : CarrierSeen
  K = carrier_at w c

  -- It gives its own context back, with a switch that is over, and idle.
  pub record IsEnding : Type 0 where
    pub hand : HandSeen
    pub asks : ask_of K ≡ PutDown hand
    pub over : IsIdle (own_switched K hand)

  takes_busy : (n bits : ℕ) (t : Bool) (s : Slot) → is_told_idle (stepped_of (asked_by script K (Take n bits))
      (if t then took (word_at w (name.Context n)) s else answers.TakeLost (word_at w (name.Context n)))) ≡ false
  takes_busy n bits true (Resting v) = refl
  takes_busy n bits true (Guarded g) = word_busy _ (context_word_of (word_at w (name.Context n)))
  takes_busy n bits true Away = word_busy _ (context_word_of (word_at w (name.Context n)))
  takes_busy n bits false s = word_busy _ (context_word_of (word_at w (name.Context n)))

  ending_by : (a : CarrierAsk) → ask_of K ≡ a → is_told_idle (steps.Told script w c a) ≡ true → IsEnding
  ending_by (Run x) q e =
      let k : CarrierSeen = asked_by script K (Run x) in absurd (false≢true (sym (section_busy k k.hand _) ∙ e))
  ending_by (LookAt n) q e = absurd (false≢true (sym (word_busy _ (context_word_of (word_at w (name.Context n)))) ∙ e))
  ending_by (Take n bits) q e =
      absurd (false≢true (sym (takes_busy n bits (word_at w (name.Context n) == bits) (slot_at w (slot_of n))) ∙ e))
  ending_by (PutDown x) q e = record { hand = x; asks = q; over = switch_idle (own_switched K x) e }

  pub ending : is_told_idle (told_of script c w) ≡ true → IsEnding
  ending e = ending_by (ask_of K) refl (ap is_told_idle (sym (steps.told_is script w c)) ∙ e)
