-- The carrier with its hand keeps its mark sound: each of its steps is a step of what it shows, or leaves that as it was.
-- v is the carrier, h its hand, f its help.
use Rattle.std.proofs.Common.{◌≡◌, ◌≢◌, ℕ, Bool, true, false, cond, refl, sym, ap, ◌∙◌, subst, List, [], ◌∷◌, Option, Some, None, arith, inl, inr}
use Rattle.std.specs.Prelude.{◌==◌, ◌&&◌, ◌||◌, not}
use Rattle.std.proofs.lemmas.Bool.Decides.{nat_tests}
use Rattle.k_locks.specs.Asks.{Want, Context, Ready, Table, Thread}
use Rattle.k_bound.specs.Sections.{GoesOn, RemoveOthers, SectionLaws, Sections}
use Rattle.k_bound.specs.Waits.{AreBounded, OwnerFound, WaitMark, help_after, holds, is_for, mark_found, mark_helped, owner_found, with_got}
use Rattle.k_bound.specs.Chains.{IsMarkSound}
use Rattle.k_bound.specs.Hands.{Carrier, CarrierEvent, Interrupts, IsCarrierSound, IsHandSound, Parks, StepTells, Steps, begins_switch, broken_where, drops_goal, first_carrier, given, gives_back, hand_answered, hand_stepped, hand_went_on, happened, has_switched, help_given, is_in_the_way, is_nobodys, is_put_down, is_released, is_stopped, live_help, looked_at, meets_taken, removes_taken, requester_of, run_of, stepped_with, switch_begun, taken, thread_goal, without_hand}
use Rattle.k_bound.proofs.Founds.{is_for-refl, is_for-true, or_true, some_is}
use Rattle.k_bound.proofs.Steps.{finds_ok, got_bounded, help_goes_on}

or_false : (a b : Bool) → (a || b) ≡ false → (a ≡ false) × (b ≡ false)
or_false true b h = absurd (grind (arith, nat_tests, h))
or_false false b h = (refl, grind (arith, nat_tests, h))

not_true : (a : Bool) → not a ≡ false → a ≡ true
not_true true h = refl
not_true false h = absurd (grind (arith, nat_tests, h))

not_both : (a b : Bool) → (a && not b) ≡ false → a ≡ true → b ≡ true
not_both true true h e = refl
not_both true false h e = absurd (grind (arith, nat_tests, h))
not_both false b h e = absurd (grind (arith, nat_tests, e))

same_number : (a b : ℕ) → (a == b) ≡ true → a ≡ b
same_number a b h = grind (arith, nat_tests)

thread_goal_ok : (own : ℕ) (goal : Option ℕ) → thread_goal own goal ≢ Some own
thread_goal_ok own goal = go (is_for goal own) refl
  where
    go : (b : Bool) → is_for goal own ≡ b → cond b None goal ≢ Some own
    go true e = λ h. cc
    go false e = λ h. let t = is_for-refl goal own h in cc

module _ {S : Type 0} (k : Sections S) (Good : S → Type 0) (laws : SectionLaws S k Good) where
  help_stays : (s : S) (h : ℕ) (help : Option OwnerFound) → live_help k s (help_given k s h help) ≡ live_help k s help
  help_stays s h None = refl
  help_stays s h (Some f) = go (h == f.owner) (holds k s f) refl
    where
      go : (a b : Bool) → holds k s f ≡ b → live_help k s (cond (a && not b) None (Some f)) ≡ help_after k s f
      go a b e = grind (arith, nat_tests)

  given_ok : (v : Carrier S) (h : ℕ) (next : Option ℕ) → IsCarrierSound k Good v → IsCarrierSound k Good (given k v h next)
  given_ok v h next ok = go (has_switched v h)
    where
      go : (b : Bool) → IsCarrierSound k Good (cond b
          (record v {
            hand = None;
            putting = false;
            help = help_given k v.state h v.help;
            goal = thread_goal v.own next;
            switching = false;
            switched = false;
            mark = None;
          })
          (record v { hand = None; putting = false; help = help_given k v.state h v.help }))
      go true = ((ok.0.0, ok.0.1, tt), tt, thread_goal_ok v.own next)
      go false =
          let same = sym (help_stays v.state h v.help) in
          ((ok.0.0, ok.0.1, subst (λ x. IsMarkSound k v.state (requester_of v) x v.mark) same ok.0.2), tt, ok.2)

  broken_ok : (s : S) (r : ℕ) (help : Option OwnerFound) (m : Option WaitMark) (b : Bool) → IsMarkSound k s r help m →
      IsMarkSound k s r help (broken_where b m)
  broken_ok s r help m true ok = tt
  broken_ok s r help m false ok = ok

  -- A hand that steps without a help is the requester's.
  hand_is : (v : Carrier S) (h : ℕ) → is_nobodys v h None ≡ false → IsHandSound v (Some h) None → h ≡ requester_of v
  hand_is v h n (inl e) = e
  hand_is v h n (inr dropped) =
      let known = or_true (h == v.own) (false || is_for v.goal h) (not_true ((h == v.own) || (false || is_for v.goal h)) n) in
      absurd (elim known [
        | inl e ↦ dropped.1 (same_number h v.own e)
        | inr e ↦
            let is : is_for v.goal h ≡ true = grind (arith, nat_tests, e) in
            let s = is_for-true v.goal h is in
            let z = sym dropped.0 ∙ s in
            cc
      ])

  -- One that steps with a help is whom the carrier helps, and holds what it was found for.
  help_is : (v : Carrier S) (h : ℕ) (f : OwnerFound) → is_released k v.state h (Some f) ≡ false →
      is_in_the_way h (Some f) ≡ false → (f.owner ≡ h) × (holds k v.state f ≡ true)
  help_is v h f released way =
      let same = not_true (h == f.owner) way in
      (sym (same_number h f.owner same), not_both (h == f.owner) (holds k v.state f) released same)

  live_is : (s : S) (f : OwnerFound) → holds k s f ≡ true → help_after k s f ≡ Some f
  live_is s f e = ap (λ b. cond b (Some f) None) e

  -- why the hand isn't given back
  record Stays (v : Carrier S) (h : ℕ) (help : Option OwnerFound) : Type 0 where
    pub helped : v.help ≡ help
    pub hand : v.hand ≡ Some h
    pub released : is_released k v.state h help ≡ false
    pub way : is_in_the_way h help ≡ false
    pub nobodys : is_nobodys v h help ≡ false

  requester_is : (v : Carrier S) (h : ℕ) → Stays v h None → IsCarrierSound k Good v → h ≡ requester_of v
  requester_is v h st ok =
      let at = subst (λ x. IsHandSound v x v.help) st.hand ok.1 in
      hand_is v h st.nobodys (subst (λ x. IsHandSound v (Some h) x) st.helped at)

  mark_is : (v : Carrier S) (h : ℕ) (f : OwnerFound) → Stays v h (Some f) → IsCarrierSound k Good v →
      IsMarkSound k v.state (requester_of v) (Some f) v.mark
  mark_is v h f st ok =
      let i = help_is v h f st.released st.way in
      let live = ap (live_help k v.state) st.helped ∙ live_is v.state f i.1 in
      subst (λ x. IsMarkSound k v.state (requester_of v) x v.mark) live ok.0.2

  bounded_ok : (v : Carrier S) → IsCarrierSound k Good v → AreBounded (with_got v.mark v.got)
  bounded_ok v ok = got_bounded k Good laws v.state (requester_of v) (live_help k v.state v.help) v.mark v.got ok.0.2 ok.0.1

  went_on_ok : (v : Carrier S) (h : ℕ) (help : Option OwnerFound) → Stays v h help → IsCarrierSound k Good v →
      GoesOn k v.state h → (told : StepTells) → IsCarrierSound k Good (hand_went_on k v h help told)
  went_on_ok v h None st ok on told =
      go (drops_goal v h told.goal_ends) refl
    where
      go : (b : Bool) → drops_goal v h told.goal_ends ≡ b → IsCarrierSound k Good (record v {
        state = k.step v.state h;
        goal = cond b None v.goal;
        switched = v.switched || (told.switch_ends && (h == v.own));
        interrupted = v.interrupted || told.preempts;
        mark = None;
        got = with_got v.mark v.got;
      })
      go true e =
          let i : v.goal ≡ Some h = is_for-true v.goal h (grind (arith, nat_tests, e)) in
          let other : h ≢ v.own = λ z. ok.2 (i ∙ ap Some z) in
          ((laws.stays_good v.state h ok.0.0, bounded_ok v ok, tt), rw st.hand (rw st.helped (inr (refl, other))), λ z. cc)
      go false e =
          let mine = requester_is v h st ok in
          ((laws.stays_good v.state h ok.0.0, bounded_ok v ok, tt), rw st.hand (rw st.helped (inl mine)), ok.2)
  went_on_ok v h (Some f) st ok on told =
      let i = help_is v h f st.released st.way in
      let on' : GoesOn k v.state f.owner = subst (λ x. GoesOn k v.state x) (sym i.0) on in
      let kept = help_goes_on k Good laws v.state (requester_of v) f v.mark ok.0.0 (mark_is v h f st ok) on' in
      let after : S → Type 0 = λ x. IsMarkSound k x (requester_of v) (help_after k x f) (mark_helped k v.state f v.mark) in
      let kept' = subst (λ x. after (k.step v.state x)) i.0 kept in
      let marked : Option OwnerFound → Type 0 = λ x.
      IsMarkSound k (k.step v.state h) (requester_of v) (live_help k (k.step v.state h) x) (mark_helped k v.state f v.mark) in
      let ends = told.preempts && not v.switching in
      let broken = broken_ok (k.step v.state h) (requester_of v) (live_help k (k.step v.state h) v.help)
      (mark_helped k v.state f v.mark) ends (subst marked (sym st.helped) kept') in
      ((laws.stays_good v.state h ok.0.0, ok.0.1, broken), rw st.hand (rw st.helped tt), ok.2)

  found_ok : (v : Carrier S) (h : ℕ) (help : Option OwnerFound) → Stays v h help → IsCarrierSound k Good v → (w : Want) →
      k.wants v.state h ≡ Some w → (o : ℕ) → k.holder v.state w ≡ Some o →
      IsMarkSound k v.state (requester_of v) (Some (owner_found o w)) (mark_found k v.state help (owner_found o w) v.mark)
  found_ok v h None st ok w asks o holds =
      let m = subst (λ x. IsMarkSound k v.state (requester_of v) x v.mark) (ap (live_help k v.state) st.helped) ok.0.2 in
      let mine = requester_is v h st ok in
      finds_ok k Good laws v.state (requester_of v) None v.mark w o h ok.0.0 m (inl (refl, mine)) asks holds
  found_ok v h (Some f) st ok w asks o holds =
      let i = help_is v h f st.released st.way in
      let m = mark_is v h f st ok in
      finds_ok k Good laws v.state (requester_of v) (Some f) v.mark w o h ok.0.0 m (inr (f, refl, sym i.0)) asks holds

  answered_ok : (v : Carrier S) (h : ℕ) → Stays v h v.help → IsCarrierSound k Good v → (w : Want) → k.wants v.state h ≡ Some w →
      (o : Option ℕ) → k.holder v.state w ≡ o → (told : StepTells) → IsCarrierSound k Good (hand_answered k v h w o told)
  answered_ok v h st ok w asks None holds told =
      went_on_ok v h v.help st ok (λ x p a q. absurd (
      let i = some_is w x (sym asks ∙ a) in
      let z = sym holds ∙ ap (k.holder v.state) i ∙ q in
      cc
      )) told
  answered_ok v h st ok w asks (Some o) holds told =
      let f = owner_found o w in
      let found = found_ok v h v.help st ok w asks o holds in
      let live = sym (live_is v.state f (is_for-refl (k.holder v.state w) o holds)) in
      let marked : Option OwnerFound → Type 0 = λ x.
      IsMarkSound k v.state (requester_of v) x (mark_found k v.state v.help f v.mark) in
      ((ok.0.0, ok.0.1, subst marked live found), rw st.hand tt, ok.2)

  stepped_ok : (v : Carrier S) (h : ℕ) → Stays v h v.help → IsCarrierSound k Good v → (w : Option Want) → k.wants v.state h ≡ w →
      (told : StepTells) → IsCarrierSound k Good (hand_stepped k v h w told)
  stepped_ok v h st ok None asks told =
      went_on_ok v h v.help st ok (λ x p a q. absurd (let z = sym asks ∙ a in cc)) told
  stepped_ok v h st ok (Some w) asks told = answered_ok v h st ok w asks (k.holder v.state w) refl told

  looked_ok : (v : Carrier S) (help : Option OwnerFound) → v.help ≡ help → v.hand ≡ None → IsCarrierSound k Good v →
      IsCarrierSound k Good (looked_at k v help)
  looked_ok v None e at ok = go (not v.switching && k.removed v.state (requester_of v))
    where
      go : (b : Bool) → IsCarrierSound k Good (cond b (record v { goal = None; mark = None }) (record v { looked = true }))
      go true = ((ok.0.0, ok.0.1, tt), rw at tt, λ z. cc)
      go false = ok
  looked_ok v (Some f) e at ok = go (holds k v.state f) refl
    where
      go : (b : Bool) → holds k v.state f ≡ b →
          IsCarrierSound k Good (cond b (record v { looked = true }) (record v { help = None }))
      go true t = ok
      go false t =
          let gone = ap (live_help k v.state) e ∙ ap (λ b. cond b (Some f) None) t in
          ((ok.0.0, ok.0.1, subst (λ x. IsMarkSound k v.state (requester_of v) x v.mark) gone ok.0.2), rw at tt, ok.2)

  taken_ok : (v : Carrier S) (help : Option OwnerFound) → v.help ≡ help → IsCarrierSound k Good v → (told : StepTells) →
      IsCarrierSound k Good (taken v help told)
  taken_ok v None e ok told = go (drops_goal v (requester_of v) told.goal_ends) refl
    where
      go : (b : Bool) → drops_goal v (requester_of v) told.goal_ends ≡ b → IsCarrierSound k Good (record v {
        hand = Some (requester_of v);
        looked = false;
        goal = cond b None v.goal;
        mark = broken_where b v.mark;
      })
      go true t =
          let i : v.goal ≡ Some (requester_of v) = is_for-true v.goal (requester_of v) (grind (arith, nat_tests, t)) in
          let other : requester_of v ≢ v.own = λ z. ok.2 (i ∙ ap Some z) in
          ((ok.0.0, ok.0.1, tt), rw e (inr (refl, other)), λ z. cc)
      go false t = (ok.0, rw e (inl refl), ok.2)
  taken_ok v (Some f) e ok told = (ok.0, rw e tt, ok.2)

  without_hand_ok : (v : Carrier S) → v.hand ≡ None → IsCarrierSound k Good v → (told : StepTells) →
      IsCarrierSound k Good (without_hand k v told)
  without_hand_ok v at ok told = go v.looked
    where
      go : (b : Bool) → IsCarrierSound k Good (cond b (taken v v.help told) (looked_at k v v.help))
      go true = taken_ok v v.help refl ok told
      go false = looked_ok v v.help refl at ok

  switch_ok : (v : Carrier S) → v.hand ≡ None → IsCarrierSound k Good v → IsCarrierSound k Good (switch_begun v)
  switch_ok v at ok = ((ok.0.0, ok.0.1, tt), rw at tt, ok.2)

  -- why it isn't given back, reason by reason
  stays : (v : Carrier S) (h : ℕ) → v.hand ≡ Some h → gives_back k v h ≡ false → Stays v h v.help
  stays v h at n =
      let released = is_released k v.state h v.help in
      let way = is_in_the_way h v.help in
      let nobodys = is_nobodys v h v.help in
      let stopped = is_stopped v h in
      let a = or_false (is_put_down v) (has_switched v h || (released || (way || (nobodys || stopped)))) n in
      let b = or_false (has_switched v h) (released || (way || (nobodys || stopped))) a.1 in
      let c = or_false released (way || (nobodys || stopped)) b.1 in
      let d = or_false way (nobodys || stopped) c.1 in
      let e = or_false nobodys stopped d.1 in
      record { helped = refl; hand = at; released = c.0; way = d.0; nobodys = e.0 }

  with_hand_ok : (v : Carrier S) (hand : Option ℕ) → v.hand ≡ hand → IsCarrierSound k Good v → (told : StepTells) →
      IsCarrierSound k Good (stepped_with k v hand told)
  with_hand_ok v None at ok told = go (begins_switch v)
    where
      go : (b : Bool) → IsCarrierSound k Good (cond b (without_hand k (switch_begun v) told) (without_hand k v told))
      go true = without_hand_ok (switch_begun v) at (switch_ok v at ok) told
      go false = without_hand_ok v at ok told
  with_hand_ok v (Some h) at ok told = go (gives_back k v h) refl
    where
      go : (b : Bool) → gives_back k v h ≡ b →
          IsCarrierSound k Good (cond b (given k v h told.next_goal) (hand_stepped k v h (k.wants v.state h) told))
      go true n = given_ok v h told.next_goal ok
      go false n = stepped_ok v h (stays v h at n) ok (k.wants v.state h) refl told

  pub happened_ok : (event : CarrierEvent) (v : Carrier S) → IsCarrierSound k Good v → IsCarrierSound k Good (happened k event v)
  happened_ok (Steps told) v ok = with_hand_ok v v.hand refl ok told
  happened_ok Interrupts v ok =
      let broken = broken_ok v.state (requester_of v) (live_help k v.state v.help) v.mark (not v.switching) ok.0.2 in
      ((ok.0.0, ok.0.1, broken), ok.1, ok.2)
  happened_ok Parks v ok = ok

  run_of_ok : (events : List CarrierEvent) (v : Carrier S) → IsCarrierSound k Good v → IsCarrierSound k Good (run_of k events v)
  run_of_ok [] v ok = ok
  run_of_ok (event ∷ events) v ok = run_of_ok events (happened k event v) (happened_ok event v ok)

  pub carrier_sound : (events : List CarrierEvent) (s : S) (own : ℕ) → Good s →
      IsCarrierSound k Good (run_of k events (first_carrier s own))
  carrier_sound events s own g = run_of_ok events (first_carrier s own) ((g, tt, tt), tt, λ z. cc)

  removes_other : (v : Carrier S) (h : ℕ) → v.hand ≡ Some h → (w : Option Want) →
      ((n : ℕ) → w ≡ Some (Context n) → n ≢ h) → removes_taken v w ≡ false
  removes_other v h at None other = refl
  removes_other v h at (Some Table) other = refl
  removes_other v h at (Some (Context n)) other = let ne = other n refl in rw at (grind (arith, nat_tests, ne))
  removes_other v h at (Some (Thread n)) other = refl
  removes_other v h at (Some Ready) other = refl

  meets_none : (v : Carrier S) (hand : Option ℕ) → v.hand ≡ hand → Good v.state → RemoveOthers S k Good →
      meets_taken k v hand ≡ false
  meets_none v None at g others = rw at refl
  meets_none v (Some h) at g others = removes_other v h at (k.wants v.state h) (λ n. others v.state h n g)

  pub never_taken : (events : List CarrierEvent) (s : S) (own : ℕ) → RemoveOthers S k Good → Good s →
      meets_taken k (run_of k events (first_carrier s own)) (run_of k events (first_carrier s own)).hand ≡ false
  never_taken events s own others g =
      let v = run_of k events (first_carrier s own) in
      meets_none v v.hand refl (carrier_sound events s own g).0.0 others
