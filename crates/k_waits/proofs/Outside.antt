-- What comes from outside keeps what holds of the waits; and it holds at the start.
use Rattle.std.proofs.Common.{◌≡◌, ℕ, zero, suc, ◌<◌, ◌≤◌, Bool, true, false, cond, refl, sym, ap, ◌∙◌}
use Rattle.std.proofs.Common.{subst, Option, Some, None, List, [], ◌∷◌, length, get_or, arith, inl, inr}
use Rattle.std.specs.Prelude.{◌||◌, ◌&&◌, not, is_some}
use Rattle.std.specs.List.{slice_set}
use Rattle.std.specs.Option.{option_or}
use Rattle.std.proofs.lemmas.Bool.{cases_Bool, cases_eq, cases_lt}
use Rattle.std.proofs.lemmas.List.{get_or-set_other, get_or-set_same, length-set, set_past}
use Rattle.k_model.specs.Maps.{lowest}
use Rattle.k_script.specs.Script.{Script}
use Rattle.k_carrier.specs.Flags as flags
use Rattle.k_carrier.specs.Rules.{is_interrupted}
use Rattle.k_carrier.specs.Running.{runner_of}
use Rattle.k_carrier.specs.Seen.{CarrierSeen, new_carrier}
use Rattle.k_carrier.specs.Starts.{has_start, is_due, with_start}
use Rattle.k_world.specs.Boot.{booted}
use Rattle.k_world.specs.Lawful.{IsLawfulLog}
use Rattle.k_world.specs.Marks.{broken, mark_at, standing_at, unbroken}
use Rattle.k_world.specs.Steps.{parked, sliced, started, unbroken_waits}
use Rattle.k_world.specs.Worlds.{WaitLog, World, carrier_at}
use Rattle.k_world.proofs.Booted.{booted_sized}
use Rattle.k_world.proofs.Worlds.{lawful_booted}
use Rattle.k_aligned.specs.Aligned.{found_in}
use Rattle.k_joint.proofs.Carried.{parked_shown, sliced_shown, started_shown}
use Rattle.k_places.specs.Memory.{Memory, memory_of}
use Rattle.k_places.specs.Shows.{context_in}
use Rattle.k_places.proofs.Raw.{maps_parked, maps_sliced, maps_started}
use Rattle.k_waits.specs.Waits.{IsWaitingFor, WaitsHold}
use Rattle.k_waits.proofs.Carried.{IsCarried, carried}

-- THE ONE CARRIER

-- what stands of it, once interruptions have broken marks
first_unbroken : (ks : List CarrierSeen) (standing : List (Option ℕ)) (d : CarrierSeen) → length ks ≡ 1 → length standing ≡ 1 →
    get_or (broken ks standing) 0 None ≡ unbroken (is_interrupted (get_or ks 0 d)) (get_or standing 0 None)
first_unbroken [] standing d one size = absurd (omega (arith, one))
first_unbroken (k ∷ ks) [] d one size = absurd (omega (arith, size))
first_unbroken (k ∷ ks) (m ∷ standing) d one size = refl

unbroken_is : (b : Bool) (m : Option ℕ) (k : ℕ) → unbroken b m ≡ Some k → (b ≡ false) × (m ≡ Some k)
unbroken_is true m k e = absurd cc
unbroken_is false m k e = (refl, e)

pub stands_unbroken : (w : World) (k : ℕ) → length w.carriers ≡ 1 → length w.waits.standing ≡ 1 →
    standing_at (unbroken_waits w) 0 ≡ Some k → (is_interrupted (carrier_at w 0) ≡ false) × (standing_at w.waits 0 ≡ Some k)
stands_unbroken w k one size e =
    unbroken_is (is_interrupted (carrier_at w 0)) (standing_at w.waits 0) k
    (sym (first_unbroken w.carriers w.waits.standing (new_carrier 0 0) one size) ∙ e)

pub unbroken_stands : (w : World) (k : ℕ) → length w.carriers ≡ 1 → length w.waits.standing ≡ 1 →
    is_interrupted (carrier_at w 0) ≡ false → standing_at w.waits 0 ≡ Some k → standing_at (unbroken_waits w) 0 ≡ Some k
unbroken_stands w k one size calm e =
    first_unbroken w.carriers w.waits.standing (new_carrier 0 0) one size
    ∙ ap (λ b. unbroken b (standing_at w.waits 0)) calm ∙ e

-- ANOTHER WORLD with the same waits

pub held_on : (script : Script) (w w' : World) → w'.waits ≡ w.waits → length w'.carriers ≡ length w.carriers →
    (is_interrupted (carrier_at w' 0) ≡ false → is_interrupted (carrier_at w 0) ≡ false) → IsCarried script w w' →
    WaitsHold script w → WaitsHold script w'
held_on script w w' waits count calm c h = record {
  carriers = count ∙ h.carriers;
  log = subst IsLawfulLog (sym waits) h.log;
  size = ap (λ l. length l.standing) waits ∙ h.size;
  used = subst (λ (l : WaitLog). (k : ℕ) → k < length l.marks →
      (mark_at l.marks k).used ≤ (mark_at l.marks k).allowed) (sym waits) h.used;
  waiting = λ k e.
      let s = stands_unbroken w' k (count ∙ h.carriers) (ap (λ l. length l.standing) waits ∙ h.size) e in
      let was = h.waiting k (unbroken_stands w k h.carriers h.size (calm s.0) (ap (λ l. standing_at l 0) (sym waits) ∙ s.1)) in
      subst (λ o. IsWaitingFor script w' k o) (ap (λ l. (mark_at l.marks k).requester) (sym waits))
      (carried script w w' k (mark_at w.waits.marks k).requester c was);
}

found_same : (w w' : World) → memory_of w' ≡ memory_of w → (i : ℕ) → found_in w' i ≡ found_in w i
found_same w w' e i = ap (λ (m : Memory). context_in m.context m.slot m.hand i) e

-- STARTS

none_below : (p q : ℕ → Bool) (n : ℕ) → ((j : ℕ) → p j ≡ true → q j ≡ true) → is_some (lowest q n) ≡ false →
    is_some (lowest p n) ≡ false
none_below p q zero f e = refl
none_below p q (suc n) f e =
    let parts = split (lowest q n) (q n) n e in
    join (lowest p n) (p n) n (none_below p q n f parts.0) (not_here parts.1)
  where
    split : (o : Option ℕ) (b : Bool) (n : ℕ) → is_some (option_or o (cond b (Some n) None)) ≡ false →
        (is_some o ≡ false) × (b ≡ false)
    split None false n e = (refl, refl)
    split None true n e = absurd cc
    split (Some m) b n e = absurd cc

    join : (o : Option ℕ) (b : Bool) (n : ℕ) → is_some o ≡ false → b ≡ false →
        is_some (option_or o (cond b (Some n) None)) ≡ false
    join None false n x y = refl
    join None true n x y = absurd cc
    join (Some m) b n x y = absurd cc

    not_here : q n ≡ false → p n ≡ false
    not_here none = elim (cases_Bool (p n)) [ inl t ↦ absurd (let y = f n t in cc) | inr z ↦ z ]

due_still : (starts : List Bool) (number j : ℕ) → is_due starts j ≡ true → is_due (with_start starts number) j ≡ true
due_still starts number j e = elim (cases_lt number (length starts)) [
  | inr past ↦ ap (λ (ss : List Bool). is_due ss j) (set_past starts number true past) ∙ e
  | inl l ↦ elim (cases_eq j number) [
    | inl same ↦ ap (is_due (with_start starts number)) same ∙ get_or-set_same starts number true false l
    | inr ne ↦ get_or-set_other starts number j true false ne ∙ e
  ]
]

pub start_calm : (k : CarrierSeen) (number : ℕ) → is_interrupted (flags.started number k) ≡ false → is_interrupted k ≡ false
start_calm k number e = go k.switching (has_start (with_start k.starts number)) (has_start k.starts) k.slice k.resched refl
    (none_below (is_due k.starts) (is_due (with_start k.starts number)) 64 (due_still k.starts number)) e
  where
    go : (s a b c d : Bool) → k.switching ≡ s → (a ≡ false → b ≡ false) → (not s && ((a || c) || d)) ≡ false →
        (not s && ((b || c) || d)) ≡ false
    go true a b c d q f e = refl
    go false true b c d q f e = absurd cc
    go false false b c d q f e = ap (λ (z : Bool). (z || c) || d) (f refl) ∙ e

pub slice_calm : (k : CarrierSeen) → is_interrupted (flags.sliced k) ≡ false → is_interrupted k ≡ false
slice_calm k e = go k.switching (has_start k.starts) k.slice k.resched e
  where
    go : (s a c d : Bool) → (not s && ((a || true) || d)) ≡ false → (not s && ((a || c) || d)) ≡ false
    go true a c d e = refl
    go false true c d e = absurd cc
    go false false c d e = absurd cc

-- FROM OUTSIDE

module _ (script : Script) (w : World) (h : WaitsHold script w) where
  new_at : (k : CarrierSeen) → get_or (slice_set w.carriers 0 k) 0 (new_carrier 0 0) ≡ k
  new_at k = get_or-set_same w.carriers 0 k (new_carrier 0 0) (let c = h.carriers in omega (arith, c))

  pub started_waits : (number : ℕ) → WaitsHold script (started 0 number w)
  unfolding started
  started_waits number =
      let k = flags.started number (carrier_at w 0) in
      held_on script w (started 0 number w) refl (length-set w.carriers 0 k)
      (λ e. start_calm (carrier_at w 0) number (ap is_interrupted (sym (new_at k)) ∙ e))
      (record {
        shows = λ b s. started_shown script w b s 0 number;
        found = found_same w (started 0 number w) (maps_started 0 number w);
        runner = ap runner_of (new_at k);
        works = ap (λ (x : CarrierSeen). x.switching || is_some x.goal) (new_at k);
        help = inl (ap (λ (x : CarrierSeen). x.help) (new_at k));
        marks = refl;
        links = refl;
      }) h

  pub sliced_waits : WaitsHold script (sliced 0 w)
  unfolding sliced
  sliced_waits =
      let k = flags.sliced (carrier_at w 0) in
      held_on script w (sliced 0 w) refl (length-set w.carriers 0 k)
      (λ e. slice_calm (carrier_at w 0) (ap is_interrupted (sym (new_at k)) ∙ e))
      (record {
        shows = λ b s. sliced_shown script w b s 0;
        found = found_same w (sliced 0 w) (maps_sliced 0 w);
        runner = ap runner_of (new_at k);
        works = ap (λ (x : CarrierSeen). x.switching || is_some x.goal) (new_at k);
        help = inl (ap (λ (x : CarrierSeen). x.help) (new_at k));
        marks = refl;
        links = refl;
      }) h

  pub parked_waits : WaitsHold script (parked 0 w)
  unfolding parked
  parked_waits =
      let k = flags.parked (carrier_at w 0) in
      held_on script w (parked 0 w) refl (length-set w.carriers 0 k)
      (λ e. ap is_interrupted (sym (new_at k)) ∙ e)
      (record {
        shows = λ b s. parked_shown script w b s 0;
        found = found_same w (parked 0 w) (maps_parked 0 w);
        runner = ap runner_of (new_at k);
        works = ap (λ (x : CarrierSeen). x.switching || is_some x.goal) (new_at k);
        help = inl (ap (λ (x : CarrierSeen). x.help) (new_at k));
        marks = refl;
        links = refl;
      }) h

-- AT THE START

none_unbroken : (b : Bool) (k : ℕ) → unbroken b None ≡ Some k → ⊥
none_unbroken true k e = absurd cc
none_unbroken false k e = absurd cc

none_used : (script : Script) (k : ℕ) → k < length (booted script 1).waits.marks →
    (mark_at (booted script 1).waits.marks k).used ≤ (mark_at (booted script 1).waits.marks k).allowed
unfolding booted
none_used script k l = absurd (omega (arith, l))

none_stands : (script : Script) (k : ℕ) → standing_at (booted script 1).waits 0 ≡ Some k → ⊥
unfolding booted
none_stands script k e = absurd cc

pub booted_waits : (script : Script) → WaitsHold script (booted script 1)
booted_waits script =
    let s = booted_sized script 1 in record {
      carriers = s.carriers;
      log = lawful_booted script 1;
      size = s.standing;
      used = none_used script;
      waiting = λ k e. absurd (none_stands script k (stands_unbroken (booted script 1) k s.carriers s.standing e).1);
    }
