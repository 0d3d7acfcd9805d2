-- What a carrier has in hand isn't removed: whoever has a context in hand has it after the step too, and then the board has it.
use Rattle.std.proofs.Common.{◌≡◌, ◌≢◌, ℕ, ◌-◌, ◌<◌, Bool, true, false, refl, sym, ap, ◌∙◌, subst, Option, Some, None, length, inl, inr}
use Rattle.std.proofs.lemmas.Bool.{cases_lt}
use Rattle.std.proofs.lemmas.Bool.Decides.{eqb_tells}
use Rattle.k_ids.specs.declared.state_word.StateWord.{StateWord}
use Rattle.k_script.specs.Script.{Script}
use Rattle.k_caller.specs.declared.activity.Activity.{Activity}
use Rattle.k_caller.specs.declared.activity.Activity.TheVariants as activity
use Rattle.k_context.specs.Contexts.{Carrier, ContextSeen, Thread}
use Rattle.k_carrier.specs.Seen.{HandSeen}
use Rattle.k_switch.specs.declared.switch.Switch.{Switch}
use Rattle.k_world.specs.Worlds.{carrier_at}
use Rattle.k_world.specs.Worlds as raw
use Rattle.k_board.specs.Boards.{At, Board, Context, Nowhere}
use Rattle.k_places.specs.Contexts.{ShowsContext, at_in, switch_at}
use Rattle.k_places.specs.Memory.{Memory, memory_of}
use Rattle.k_places.specs.Shows.{Shows, context_in}
use Rattle.k_places.proofs.Places.{held_is}
use Rattle.k_joint.proofs.Runs.{hand_is}
use Rattle.k_tokens.specs.World.{ContextName, OfCarrier, OfThread, World}
use Rattle.k_tokens.specs.World as tokens
use Rattle.k_tokens.specs.Good.{IsGood}
use Rattle.k_grants.specs.Granted.{IsFreeToRemove}
use Rattle.k_grants.specs.Views.{name_by, name_of}
use Rattle.k_moves.specs.Sums.{AreViewed}
use Rattle.k_moves.specs.Views.{number_in}
use Rattle.k_moves.proofs.Names.{which}
use Rattle.k_whole.specs.Whole.{HandsWithin}
use Rattle.k_running.proofs.Shown.{stands_like}

abbrev is_nowhere : At → Bool
is_nowhere Nowhere = true
is_nowhere p = false

-- a context that is found isn't nowhere
there : (word : StateWord) (n : ℕ) (v : ContextSeen) (x : Context) → ShowsContext word n (Some v) x → x.at ≡ Nowhere → ⊥
there word n (Thread t) x shown e =
    let no : true ≡ false = sym (ap is_nowhere e) ∙ stands_like is_nowhere word n t x shown refl ∙ by t.activity in absurd cc
  where
    by : (a : Activity) → is_nowhere (at_in a) ≡ false
    by (activity.Alone p) = refl
    by (activity.Send s) = refl
    by (activity.Receive s) = refl
    by (activity.Create s) = refl
    by (activity.Destroy s) = refl
there word n (Carrier k) x shown e = by k.switch (sym shown ∙ e)
  where
    by : (s : Option Switch) → switch_at s ≡ Nowhere → ⊥
    by None z = absurd cc
    by (Some s) z = absurd cc

-- IN WHOSE HAND a thread's context is

pub record IsInHandOf (m : Memory) (t d : ℕ) : Type 0 where
  pub hand : HandSeen
  pub has : m.hand d ≡ Some hand
  pub number : hand.context ≡ t

named_thread : (size n t : ℕ) → name_of size n ≡ OfThread t → n ≡ t
named_thread size n t e = elim (which size n) [
  | inl x ↦ (let z : OfThread n ≡ OfThread t = sym x.1 ∙ e in cc)
  | inr x ↦ (let z : OfCarrier (n - size) ≡ OfThread t = sym x.1 ∙ e in absurd cc)
]

module _ (w : raw.World) (v : World) (viewed : AreViewed w v) (count : v.carriers ≡ length w.carriers) (hands : HandsWithin v)
    (good : IsGood v) where
  few : (t d : ℕ) → (v.carrier d).hand ≡ Some (OfThread t) → d < length w.carriers
  few t d e = elim (cases_lt d v.carriers) [
    | inl l ↦ subst (λ n. d < n) count l
    | inr l ↦ (let no : None ≡ Some (OfThread t) = sym (hands d l) ∙ e in absurd cc)
  ]

  pub in_hand_of : (t d : ℕ) → v.held t ≡ Some d → IsInHandOf (memory_of w) t d
  in_hand_of t d held = by (carrier_at w d).hand refl
    where
      has : (v.carrier d).hand ≡ Some (OfThread t)
      has = good.1.hands.thread_is d t held

      named : name_by (carrier_at w d).table (number_in (carrier_at w d).hand) ≡ Some (OfThread t)
      named = sym (ap (λ (k : tokens.Carrier). k.hand) (viewed.carriers d (few t d has))) ∙ has

      by : (o : Option HandSeen) → (carrier_at w d).hand ≡ o → IsInHandOf (memory_of w) t d
      by None e =
          let no : None ≡ Some (OfThread t) = sym (ap (λ h. name_by (carrier_at w d).table (number_in h)) e) ∙ named in absurd cc
      by (Some h) e = record {
        hand = h;
        has = hand_is w d ∙ e;
        number =
            let z : Some (name_of (carrier_at w d).table h.context) ≡ Some (OfThread t) =
            sym (ap (λ h. name_by (carrier_at w d).table (number_in h)) e) ∙ named in
            let y : name_of (carrier_at w d).table h.context ≡ OfThread t = cc in
            named_thread (carrier_at w d).table h.context t y;
      }

  -- The other hands are as they were after the step, and the carrier has the same context in hand.
  module _ (script : Script) (m : Memory) (b b' : Board) (sh : Shows script m b') (c n : ℕ) (k k' : HandSeen)
      (was : (memory_of w).hand c ≡ Some k) (is : m.hand c ≡ Some k') (same : k'.context ≡ k.context)
      (others : (d : ℕ) → d ≢ c → m.hand d ≡ (memory_of w).hand d) where
    still_in_hand : (t d : ℕ) → IsInHandOf (memory_of w) t d → IsInHandOf m t d
    still_in_hand t d h = elim (eqb_tells d c) [
      | inl e ↦ record {
        hand = k';
        has = ap m.hand e.1 ∙ is;
        number =
            let z : Some k ≡ Some h.hand = sym was ∙ ap (memory_of w).hand (sym e.1) ∙ h.has in
            let y : k ≡ h.hand = cc in
            same ∙ ap (λ (x : HandSeen). x.context) y ∙ h.number;
      }
      | inr e ↦ record { hand = h.hand; has = others d e.1 ∙ h.has; number = h.number }
    ]

    not_gone : (t d : ℕ) → IsInHandOf m t d → (b'.context t).at ≡ Nowhere → ⊥
    not_gone t d h gone =
        there (b'.seen t).word t h.hand.value (b'.context t)
        (subst (λ (o : Option ContextSeen). ShowsContext (b'.seen t).word t o (b'.context t)) found (sh.contexts t)) gone
      where
        found : context_in m.context m.slot m.hand t ≡ Some h.hand.value
        found = ap (context_in m.context m.slot m.hand) (sym h.number) ∙ held_is m.context m.slot m.hand d h.hand sh.places h.has

    pub is_free : IsFreeToRemove b v n b'
    is_free call at gone = by (v.held call.who.number) refl
      where
        by : (o : Option ℕ) → v.held call.who.number ≡ o → v.held call.who.number ≡ None
        by None e = e
        by (Some d) e =
            absurd (not_gone call.who.number d (still_in_hand call.who.number d (in_hand_of call.who.number d e)) gone)
