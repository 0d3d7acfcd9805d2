-- What is pending comes first.
use Rattle.std.proofs.Common.{◌≡◌, ℕ, Bool, true, false, cond, not, ◌&&◌, ◌||◌, refl, sym, ap, subst, Option, Some, None, IfSome, ◌⊎◌, inl, inr}
use Rattle.std.specs.Prelude.{is_some}
use Rattle.k_script.specs.Script.{Script}
use Rattle.k_carrier.specs.Asked.{PutDown, Run, ask_at, ask_with}
use Rattle.k_carrier.specs.Conditions.{IsHandSteady}
use Rattle.k_carrier.specs.Laws.{SwitchesFirst}
use Rattle.k_carrier.specs.Rules.{gives, has_switched, is_helped, is_in_the_way, is_nobodys, is_own, is_pending, is_put_down, is_released, is_stopped, readied}
use Rattle.k_carrier.specs.Seen.{CarrierSeen, HandSeen}

neither : (a b : Bool) → (a || b) ≡ false → (a ≡ false) × (b ≡ false)
neither false b e = (refl, e)
neither true b e = absurd cc

-- A hand whose step is made isn't put down.
runs_hand : (b : Bool) (k h : HandSeen) → (if_gives : cond b (PutDown k) (Run k) ≡ Run h) → (b ≡ false) × (k ≡ h)
runs_hand true k h e = absurd cc
runs_hand false k h e = (refl, cc)

looks_at : (c : CarrierSeen) (o : Option ℕ) (h : HandSeen) → ask_at c o ≡ Run h → ⊥
looks_at c None h e = cc
looks_at c (Some seen) h e = cc

runs : (c : CarrierSeen) (o : Option HandSeen) (h : HandSeen) → ask_with c o ≡ Run h → (o ≡ Some h) × (gives c h ≡ false)
runs c (Some k) h e =
    let told : (gives c k ≡ false) × (k ≡ h) = runs_hand (gives c k) k h e in
    (ap (λ (x : HandSeen). Some x) told.1, subst (λ (x : HandSeen). gives c x ≡ false) told.1 told.0)
runs c None h e = absurd (looks_at (readied c) (readied c).looked h e)

switches : (switching pending own : Bool) → ((not switching && pending) && not own) ≡ false → pending ≡ true → (own ≡ true → switching ≡ true) → switching ≡ true
switches true pending own e p steady = refl
switches false true true e p steady = steady refl
switches false true false e p steady = sym e
switches false false own e p steady = p

for_whom : (own helping helped : Bool) → (own || helping) ≡ true → (helping && not helped) ≡ false → (own ≡ true) ⊎ (helped ≡ true)
for_whom true helping helped e f = inl refl
for_whom false true true e f = inr refl
for_whom false true false e f = inl (sym f)
for_whom false false helped e f = inl e

pub switches_first : (script : Script) (c : CarrierSeen) → SwitchesFirst script c
switches_first script c h s pending e =
    let told : (c.hand ≡ Some h) × (gives c h ≡ false) = runs c c.hand h e in
    let steady : IsHandSteady c h = subst (λ (o : Option HandSeen). IfSome o (IsHandSteady c)) told.0 s.steady in
    let stopped : ((is_put_down c || has_switched c h || is_released c h || is_in_the_way c h || is_nobodys c h) ≡ false) × (is_stopped c h ≡ false) = neither (is_put_down c || has_switched c h || is_released c h || is_in_the_way c h || is_nobodys c h) (is_stopped c h) told.1 in
    let nobodys : ((is_put_down c || has_switched c h || is_released c h || is_in_the_way c h) ≡ false) × (is_nobodys c h ≡ false) = neither (is_put_down c || has_switched c h || is_released c h || is_in_the_way c h) (is_nobodys c h) stopped.0 in
    let way : ((is_put_down c || has_switched c h || is_released c h) ≡ false) × (is_in_the_way c h ≡ false) = neither (is_put_down c || has_switched c h || is_released c h) (is_in_the_way c h) nobodys.0 in
    let on : c.switching ≡ true = switches c.switching (is_pending c) (is_own c h) stopped.1 pending steady.0 in
    (on, for_whom (is_own c h) (is_some c.help) (is_helped c h) (steady.1 on) way.1)
