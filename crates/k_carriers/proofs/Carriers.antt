-- Each carrier for itself.
use Rattle.std.proofs.Common.{◌≡◌, ◌≢◌, ℕ, ◌<◌, Bool, true, false, not, refl, sym, ap, ◌∙◌, subst, Option}
use Rattle.std.proofs.Common.{Some, None}
use Rattle.std.proofs.Common.{List, length, inl, inr}
use Rattle.std.specs.Prelude.{◌&&◌, ◌||◌, is_none, is_some, if◌then◌else◌, slice_index_or, slice_set}
use Rattle.std.proofs.lemmas.Bool.{cases_eq, cases_lt, false≢true}
use Rattle.std.proofs.lemmas.List.{get_or-set_other, get_or-set_same, set_past}
use Rattle.k_script.specs.Script.{Script}
use Rattle.k_switch.specs.declared.goal.Switched.{Switched}
use Rattle.k_carrier.specs.Asked.{CarrierAsk, PutDown, Run, ask_of, ask_with, asked, asked_by, move_by}
use Rattle.k_carrier.specs.Asked.{out_of}
use Rattle.k_carrier.specs.Flags.{has_hand, is_settled}
use Rattle.k_carrier.specs.Flags as flags
use Rattle.k_carrier.specs.Resumed.{after_give, heard, switched_to}
use Rattle.k_carrier.specs.Rules.{gives, has_switched, is_in_the_way, is_nobodys, is_released, is_stopped}
use Rattle.k_carrier.specs.Rules.{own_switched}
use Rattle.k_carrier.specs.Seen.{CarrierSeen, HandSeen, new_carrier}
use Rattle.k_carrier.specs.Starts.{has_start}
use Rattle.k_world.specs.Steps.{carrier_after, moved, parked, sliced, started, step_in, step_with}
use Rattle.k_world.specs.Worlds.{World, carrier_at}

-- A LIST WITH ONE CARRIER CHANGED

set_other : (ks : List CarrierSeen) (c i : ℕ) (k : CarrierSeen) → i ≢ c →
    slice_index_or (slice_set ks c k) i (new_carrier 0 0) ≡ slice_index_or ks i (new_carrier 0 0)
set_other ks c i k ne = get_or-set_other ks c i k (new_carrier 0 0) ne

-- what the changed one has in common with the one before, each has
set_keeps : {A : Type 0} (f : CarrierSeen → A) (ks : List CarrierSeen) (c i : ℕ) (k : CarrierSeen) →
    f k ≡ f (slice_index_or ks c (new_carrier 0 0)) →
    f (slice_index_or (slice_set ks c k) i (new_carrier 0 0)) ≡ f (slice_index_or ks i (new_carrier 0 0))
set_keeps f ks c i k same = elim (cases_eq i c) [
  | inl e ↦ subst (λ (n : ℕ). f (slice_index_or (slice_set ks c k) n (new_carrier 0 0)) ≡
      f (slice_index_or ks n (new_carrier 0 0))) (sym e) here
  | inr ne ↦ ap f (set_other ks c i k ne)
]
  where
    here : f (slice_index_or (slice_set ks c k) c (new_carrier 0 0)) ≡ f (slice_index_or ks c (new_carrier 0 0))
    here = elim (cases_lt c (length ks)) [
      | inl l ↦ ap f (get_or-set_same ks c k (new_carrier 0 0) l) ∙ same
      | inr l ↦ ap (λ (xs : List CarrierSeen). f (slice_index_or xs c (new_carrier 0 0))) (set_past ks c k l)
    ]

pub step_other : (script : Script) (w : World) (c i : ℕ) → i ≢ c → carrier_at (moved script c w) i ≡ carrier_at w i
unfolding moved step_in
step_other script w c i ne = set_other w.carriers c i _ ne

pub start_other : (w : World) (c number i : ℕ) → i ≢ c → carrier_at (started c number w) i ≡ carrier_at w i
unfolding started
start_other w c number i ne = set_other w.carriers c i _ ne

pub slice_other : (w : World) (c i : ℕ) → i ≢ c → carrier_at (sliced c w) i ≡ carrier_at w i
unfolding sliced
slice_other w c i ne = set_other w.carriers c i _ ne

pub park_other : (w : World) (c i : ℕ) → i ≢ c → carrier_at (parked c w) i ≡ carrier_at w i
unfolding parked
park_other w c i ne = set_other w.carriers c i _ ne

pub start_keeps : {A : Type 0} (f : CarrierSeen → A) (w : World) (c number i : ℕ) →
    f (flags.started number (carrier_at w c)) ≡ f (carrier_at w c) → f (carrier_at (started c number w) i) ≡ f (carrier_at w i)
unfolding started
start_keeps f w c number i same = set_keeps f w.carriers c i (flags.started number (carrier_at w c)) same

pub slice_keeps : {A : Type 0} (f : CarrierSeen → A) (w : World) (c i : ℕ) →
    f (flags.sliced (carrier_at w c)) ≡ f (carrier_at w c) → f (carrier_at (sliced c w) i) ≡ f (carrier_at w i)
unfolding sliced
slice_keeps f w c i same = set_keeps f w.carriers c i (flags.sliced (carrier_at w c)) same

pub park_keeps : {A : Type 0} (f : CarrierSeen → A) (w : World) (c i : ℕ) →
    f (flags.parked (carrier_at w c)) ≡ f (carrier_at w c) → f (carrier_at (parked c w) i) ≡ f (carrier_at w i)
unfolding parked
park_keeps f w c i same = set_keeps f w.carriers c i (flags.parked (carrier_at w c)) same

-- WHO IS SETTLED

pub settled_free : (k : CarrierSeen) → is_settled k ≡ true → has_hand k ≡ false
settled_free k e = by (is_none k.goal) (has_hand k) k.switching k.counted (has_start k.starts) e
  where
    by : (g h s n t : Bool) → ((((g && not h) && not s) && not n) && not t) ≡ true → h ≡ false
    by true false s n t e = refl
    by true true s n t e = absurd (false≢true e)
    by false h s n t e = absurd (false≢true e)

-- WHO IS PARKED

pub park_puts : (w : World) (c : ℕ) → c < length w.carriers → (carrier_at (parked c w) c).putting ≡ true
unfolding parked
park_puts w c low =
    ap (λ (k : CarrierSeen). k.putting) (get_or-set_same w.carriers c (flags.parked (carrier_at w c)) (new_carrier 0 0) low)

put_gives : (k : CarrierSeen) (h : HandSeen) → k.putting ≡ true → gives k h ≡ true
put_gives k h e =
    ap (λ (p : Bool). p || has_switched k h || is_released k h || is_in_the_way k h || is_nobodys k h || is_stopped k h) e

puts_down : (k : CarrierSeen) (h : HandSeen) → k.hand ≡ Some h → k.putting ≡ true → ask_of k ≡ PutDown h
puts_down k h hand e = ap (ask_with k) hand ∙ ap (λ (t : Bool). if t then PutDown h else Run h) (put_gives k h e)

-- a switch that ends with the give leaves no hand either
free_after : (k : CarrierSeen) (o : Option Switched) → k.hand ≡ None → has_hand (switched_to k o) ≡ false
free_after k None e = ap is_some e
free_after k (Some s) e = ap is_some e

module _ (script : Script) (w : World) (c : ℕ) where
  abbrev k : CarrierSeen
  k = carrier_at w c

  -- the carrier after what it asks for
  abbrev then_is : CarrierAsk → CarrierSeen
  then_is a = carrier_after (step_with w c k (asked_by script k a) (move_by script k a))

  given_free : (h : HandSeen) → has_hand (then_is (PutDown h)) ≡ false
  given_free h = free_after _ (own_switched k h) refl

  gives_by : (o : Option HandSeen) → k.hand ≡ o → k.putting ≡ true → is_some o ≡ true → has_hand (then_is (ask_of k)) ≡ false
  gives_by (Some h) hand e some = ap (λ (a : CarrierAsk). has_hand (then_is a)) (puts_down k h hand e) ∙ given_free h
  gives_by None hand e some = absurd (false≢true some)

  pub gives_hand : c < length w.carriers → k.putting ≡ true → has_hand k ≡ true →
      has_hand (carrier_at (moved script c w) c) ≡ false
  unfolding moved step_in
  gives_hand low e some =
      ap has_hand (get_or-set_same w.carriers c (then_is (ask_of k)) (new_carrier 0 0) low) ∙ gives_by k.hand refl e some
