-- One thread goes from one holder to another.
use Rattle.std.proofs.Common.{◌≡◌, ◌≢◌, ℕ, ◌+◌, Bool, true, false, cond, refl, ap, ◌∙◌, List, ◌∷◌, Option, Some, None, arith}
use Rattle.std.proofs.Common.{◌⊎◌, inl, inr}
use Rattle.std.proofs.lemmas.Bool.Decides.{nat_tests, eqb_tells}
use Rattle.k_ids.specs.declared.threads.ThreadId.{ThreadId}
use Rattle.k_model.specs.Maps.{upd}
use Rattle.k_model.specs.State.{same_id}
use Rattle.k_model.proofs.Maps.{upd_tells}
use Rattle.k_tokens.specs.Maps.{id_at, put, times, without}
use Rattle.k_tokens.specs.Good.{Holder, Nobody, ReadyList, GoalOf, PushOf, StartToCome, StartOf, SwitchOf, times_in, Tokens}
use Rattle.k_tokens.proofs.Basics.{put_tells, id_tells, times_without}

-- the list of this priority has got this thread
abbrev pub Adds : (ℕ → List ThreadId) → ℕ → List ThreadId → ThreadId → Type 0
Adds r p l x = (y : ThreadId) → times y l ≡ times y (r p) + cond (same_id x y) 1 0

-- a thread that stood in a list stands nowhere, and any other one where it was
abbrev pub LeavesLists : (ThreadId → Holder) → ThreadId → Holder → Type 0
LeavesLists at x v = ((v ≡ Nobody) × ((q : ℕ) × (at x ≡ ReadyList q))) ⊎ ((v ≡ at x) × ((p : ℕ) → times_in p (at x) ≡ 0))

abbrev pub is_listed : Holder → Bool
is_listed Nobody = false
is_listed (ReadyList p) = true
is_listed (GoalOf c) = false
is_listed (PushOf i) = false
is_listed StartToCome = false
is_listed (StartOf c) = false
is_listed (SwitchOf c) = false

module _ (at : ThreadId → Holder) (r : ℕ → List ThreadId) (g u : ℕ → Option ThreadId) (m : ℕ → Bool) (s : ℕ → ℕ → Bool)
    (b : ℕ → Option ℕ) (k : Tokens at r g u m s b) where
  pub listed_once : (p : ℕ) (x : ThreadId) → (times_in p (at x) ≡ 0 → ⊥) → at x ≡ ReadyList p
  listed_once p x h = go (at x) refl h
    where
      go : (w : Holder) → at x ≡ w → (times_in p w ≡ 0 → ⊥) → w ≡ ReadyList p
      go Nobody e h = absurd (h refl)
      go (ReadyList q) e h = elim (eqb_tells q p) [ inl z ↦ ap ReadyList z.1 | inr z ↦ absurd (h (grind (arith, nat_tests))) ]
      go (GoalOf c) e h = absurd (h refl)
      go (PushOf i) e h = absurd (h refl)
      go StartToCome e h = absurd (h refl)
      go (StartOf c) e h = absurd (h refl)
      go (SwitchOf c) e h = absurd (h refl)

  two_list : (x : ThreadId) (v : Holder) → LeavesLists at x v → (p : ℕ) → times_in p v ≡ 0
  two_list x v (inl h) p = ap (times_in p) h.0
  two_list x v (inr h) p = ap (times_in p) h.0 ∙ h.1 p

  two_at : (x : ThreadId) (v : Holder) → LeavesLists at x v → ((v ≡ Nobody) × (is_listed (at x) ≡ true)) ⊎ (v ≡ at x)
  two_at x v (inl h) = inl (h.0, ap is_listed h.1.1)
  two_at x v (inr h) = inr h.0

  pub goal_to_list : (d : ℕ) (x : ThreadId) (p : ℕ) (l : List ThreadId) → g d ≡ Some x → Adds r p l x
      → Tokens (put at x (ReadyList p)) (upd r p l) (upd g d None) u m s b
  goal_to_list d x p l has adds = let here : at x ≡ GoalOf d = k.goal d x has in
      record {
        list = λ p y. grind (arith, nat_tests, upd_tells, put_tells, k.list p y, adds y, id_tells x y);
        goal = λ c y e. grind (arith, nat_tests, upd_tells, put_tells, k.goal c y);
        goal_is = λ c y e. grind (arith, nat_tests, upd_tells, put_tells, k.goal_is c y);
        push = λ i y e. grind (arith, nat_tests, upd_tells, put_tells, k.push i y);
        push_is = λ i y e. grind (arith, nat_tests, upd_tells, put_tells, k.push_is i y);
        unmade = λ t e. grind (arith, nat_tests, upd_tells, put_tells, k.unmade t);
        unmade_is = λ y e. grind (arith, nat_tests, upd_tells, put_tells, k.unmade_is y);
        starts = λ c t e. grind (arith, nat_tests, upd_tells, put_tells, k.starts c t);
        starts_is = λ c y e. grind (arith, nat_tests, upd_tells, put_tells, k.starts_is c y);
        begun = λ c t e. grind (arith, nat_tests, upd_tells, put_tells, k.begun c t);
        begun_is = λ c y e. grind (arith, nat_tests, upd_tells, put_tells, k.begun_is c y);
      }

  pub goal_off : (d : ℕ) (x : ThreadId) → g d ≡ Some x → Tokens (put at x Nobody) r (upd g d None) u m s b
  goal_off d x has = let here : at x ≡ GoalOf d = k.goal d x has in
      record {
        list = λ p y. grind (arith, nat_tests, upd_tells, put_tells, k.list p y);
        goal = λ c y e. grind (arith, nat_tests, upd_tells, put_tells, k.goal c y);
        goal_is = λ c y e. grind (arith, nat_tests, upd_tells, put_tells, k.goal_is c y);
        push = λ i y e. grind (arith, nat_tests, upd_tells, put_tells, k.push i y);
        push_is = λ i y e. grind (arith, nat_tests, upd_tells, put_tells, k.push_is i y);
        unmade = λ t e. grind (arith, nat_tests, upd_tells, put_tells, k.unmade t);
        unmade_is = λ y e. grind (arith, nat_tests, upd_tells, put_tells, k.unmade_is y);
        starts = λ c t e. grind (arith, nat_tests, upd_tells, put_tells, k.starts c t);
        starts_is = λ c y e. grind (arith, nat_tests, upd_tells, put_tells, k.starts_is c y);
        begun = λ c t e. grind (arith, nat_tests, upd_tells, put_tells, k.begun c t);
        begun_is = λ c y e. grind (arith, nat_tests, upd_tells, put_tells, k.begun_is c y);
      }

  pub begun_to_list : (d t p : ℕ) (l : List ThreadId) → b d ≡ Some t → Adds r p l (id_at t 1)
      → Tokens (put at (id_at t 1) (ReadyList p)) (upd r p l) g u m s (upd b d None)
  begun_to_list d t p l has adds = let here : at (id_at t 1) ≡ SwitchOf d = k.begun d t has in
      record {
        list = λ p y. grind (arith, nat_tests, upd_tells, put_tells, k.list p y, adds y, id_tells (id_at t 1) y);
        goal = λ c y e. grind (arith, nat_tests, upd_tells, put_tells, k.goal c y);
        goal_is = λ c y e. grind (arith, nat_tests, upd_tells, put_tells, k.goal_is c y);
        push = λ i y e. grind (arith, nat_tests, upd_tells, put_tells, k.push i y);
        push_is = λ i y e. grind (arith, nat_tests, upd_tells, put_tells, k.push_is i y);
        unmade = λ t e. grind (arith, nat_tests, upd_tells, put_tells, k.unmade t);
        unmade_is = λ y e. grind (arith, nat_tests, upd_tells, put_tells, k.unmade_is y);
        starts = λ c t e. grind (arith, nat_tests, upd_tells, put_tells, k.starts c t);
        starts_is = λ c y e. grind (arith, nat_tests, upd_tells, put_tells, k.starts_is c y);
        begun = λ c t e. grind (arith, nat_tests, upd_tells, put_tells, k.begun c t);
        begun_is = λ c y e. grind (arith, nat_tests, upd_tells, put_tells, k.begun_is c y);
      }

  pub begun_off : (d t : ℕ) → b d ≡ Some t → Tokens (put at (id_at t 1) Nobody) r g u m s (upd b d None)
  begun_off d t has = let here : at (id_at t 1) ≡ SwitchOf d = k.begun d t has in
      record {
        list = λ p y. grind (arith, nat_tests, upd_tells, put_tells, k.list p y);
        goal = λ c y e. grind (arith, nat_tests, upd_tells, put_tells, k.goal c y);
        goal_is = λ c y e. grind (arith, nat_tests, upd_tells, put_tells, k.goal_is c y);
        push = λ i y e. grind (arith, nat_tests, upd_tells, put_tells, k.push i y);
        push_is = λ i y e. grind (arith, nat_tests, upd_tells, put_tells, k.push_is i y);
        unmade = λ t e. grind (arith, nat_tests, upd_tells, put_tells, k.unmade t);
        unmade_is = λ y e. grind (arith, nat_tests, upd_tells, put_tells, k.unmade_is y);
        starts = λ c t e. grind (arith, nat_tests, upd_tells, put_tells, k.starts c t);
        starts_is = λ c y e. grind (arith, nat_tests, upd_tells, put_tells, k.starts_is c y);
        begun = λ c t e. grind (arith, nat_tests, upd_tells, put_tells, k.begun c t);
        begun_is = λ c y e. grind (arith, nat_tests, upd_tells, put_tells, k.begun_is c y);
      }

  pub list_to_goal : (d : ℕ) (x : ThreadId) (p : ℕ) (l : List ThreadId) → r p ≡ x ∷ l → g d ≡ None
      → Tokens (put at x (GoalOf d)) (upd r p l) (upd g d (Some x)) u m s b
  list_to_goal d x p l list free =
      let first : (y : ThreadId) → times y (r p) ≡ cond (same_id x y) 1 0 + times y l = λ y. ap (times y) list in
      let here : at x ≡ ReadyList p = listed_once p x
      (λ z. absurd (let a = first x in let q = k.list p x in grind (arith, nat_tests, a, q, z))) in
      record {
        list = λ p y. grind (arith, nat_tests, upd_tells, put_tells, k.list p y, first y, id_tells x y);
        goal = λ c y e. grind (arith, nat_tests, upd_tells, put_tells, k.goal c y);
        goal_is = λ c y e. grind (arith, nat_tests, upd_tells, put_tells, k.goal_is c y);
        push = λ i y e. grind (arith, nat_tests, upd_tells, put_tells, k.push i y);
        push_is = λ i y e. grind (arith, nat_tests, upd_tells, put_tells, k.push_is i y);
        unmade = λ t e. grind (arith, nat_tests, upd_tells, put_tells, k.unmade t);
        unmade_is = λ y e. grind (arith, nat_tests, upd_tells, put_tells, k.unmade_is y);
        starts = λ c t e. grind (arith, nat_tests, upd_tells, put_tells, k.starts c t);
        starts_is = λ c y e. grind (arith, nat_tests, upd_tells, put_tells, k.starts_is c y);
        begun = λ c t e. grind (arith, nat_tests, upd_tells, put_tells, k.begun c t);
        begun_is = λ c y e. grind (arith, nat_tests, upd_tells, put_tells, k.begun_is c y);
      }

  pub wakes : (i : ℕ) (x : ThreadId) → at x ≡ Nobody → u i ≡ None → Tokens (put at x (PushOf i)) r g (upd u i (Some x)) m s b
  wakes i x here free =
      record {
        list = λ p y. grind (arith, nat_tests, upd_tells, put_tells, k.list p y);
        goal = λ c y e. grind (arith, nat_tests, upd_tells, put_tells, k.goal c y);
        goal_is = λ c y e. grind (arith, nat_tests, upd_tells, put_tells, k.goal_is c y);
        push = λ j y e. grind (arith, nat_tests, upd_tells, put_tells, k.push j y);
        push_is = λ j y e. grind (arith, nat_tests, upd_tells, put_tells, k.push_is j y);
        unmade = λ t e. grind (arith, nat_tests, upd_tells, put_tells, k.unmade t);
        unmade_is = λ y e. grind (arith, nat_tests, upd_tells, put_tells, k.unmade_is y);
        starts = λ c t e. grind (arith, nat_tests, upd_tells, put_tells, k.starts c t);
        starts_is = λ c y e. grind (arith, nat_tests, upd_tells, put_tells, k.starts_is c y);
        begun = λ c t e. grind (arith, nat_tests, upd_tells, put_tells, k.begun c t);
        begun_is = λ c y e. grind (arith, nat_tests, upd_tells, put_tells, k.begun_is c y);
      }

  pub push_to_list : (i : ℕ) (x : ThreadId) (p : ℕ) (l : List ThreadId) → u i ≡ Some x → Adds r p l x
      → Tokens (put at x (ReadyList p)) (upd r p l) g (upd u i None) m s b
  push_to_list i x p l has adds = let here : at x ≡ PushOf i = k.push i x has in
      record {
        list = λ p y. grind (arith, nat_tests, upd_tells, put_tells, k.list p y, adds y, id_tells x y);
        goal = λ c y e. grind (arith, nat_tests, upd_tells, put_tells, k.goal c y);
        goal_is = λ c y e. grind (arith, nat_tests, upd_tells, put_tells, k.goal_is c y);
        push = λ j y e. grind (arith, nat_tests, upd_tells, put_tells, k.push j y);
        push_is = λ j y e. grind (arith, nat_tests, upd_tells, put_tells, k.push_is j y);
        unmade = λ t e. grind (arith, nat_tests, upd_tells, put_tells, k.unmade t);
        unmade_is = λ y e. grind (arith, nat_tests, upd_tells, put_tells, k.unmade_is y);
        starts = λ c t e. grind (arith, nat_tests, upd_tells, put_tells, k.starts c t);
        starts_is = λ c y e. grind (arith, nat_tests, upd_tells, put_tells, k.starts_is c y);
        begun = λ c t e. grind (arith, nat_tests, upd_tells, put_tells, k.begun c t);
        begun_is = λ c y e. grind (arith, nat_tests, upd_tells, put_tells, k.begun_is c y);
      }

  pub push_off : (i : ℕ) (x : ThreadId) → u i ≡ Some x → Tokens (put at x Nobody) r g (upd u i None) m s b
  push_off i x has = let here : at x ≡ PushOf i = k.push i x has in
      record {
        list = λ p y. grind (arith, nat_tests, upd_tells, put_tells, k.list p y);
        goal = λ c y e. grind (arith, nat_tests, upd_tells, put_tells, k.goal c y);
        goal_is = λ c y e. grind (arith, nat_tests, upd_tells, put_tells, k.goal_is c y);
        push = λ j y e. grind (arith, nat_tests, upd_tells, put_tells, k.push j y);
        push_is = λ j y e. grind (arith, nat_tests, upd_tells, put_tells, k.push_is j y);
        unmade = λ t e. grind (arith, nat_tests, upd_tells, put_tells, k.unmade t);
        unmade_is = λ y e. grind (arith, nat_tests, upd_tells, put_tells, k.unmade_is y);
        starts = λ c t e. grind (arith, nat_tests, upd_tells, put_tells, k.starts c t);
        starts_is = λ c y e. grind (arith, nat_tests, upd_tells, put_tells, k.starts_is c y);
        begun = λ c t e. grind (arith, nat_tests, upd_tells, put_tells, k.begun c t);
        begun_is = λ c y e. grind (arith, nat_tests, upd_tells, put_tells, k.begun_is c y);
      }

  upd2_tells : (c : ℕ) (f : ℕ → Bool) (e t : ℕ) → ((upd s c f e t ≡ f t) × (e ≡ c)) ⊎ ((upd s c f e t ≡ s e t) × (e ≢ c))
  upd2_tells c f e t = elim (upd_tells s c f e) [ inl h ↦ inl (ap (λ z. z t) h.0, h.1) | inr h ↦ inr (ap (λ z. z t) h.0, h.1) ]

  -- a start is made on carrier c
  pub start_made : (c t : ℕ) → m t ≡ true
      → Tokens (put at (id_at t 1) (StartOf c)) r g u (upd m t false) (upd s c (upd (s c) t true)) b
  start_made c t has = let here : at (id_at t 1) ≡ StartToCome = k.unmade t has in
      record {
        list = λ p y. grind (arith, nat_tests, upd_tells, put_tells, k.list p y);
        goal = λ e y z. grind (arith, nat_tests, upd_tells, put_tells, k.goal e y);
        goal_is = λ e y z. grind (arith, nat_tests, upd_tells, put_tells, k.goal_is e y);
        push = λ i y e. grind (arith, nat_tests, upd_tells, put_tells, k.push i y);
        push_is = λ i y e. grind (arith, nat_tests, upd_tells, put_tells, k.push_is i y);
        unmade = λ u z. grind (arith, nat_tests, upd_tells, put_tells, k.unmade u);
        unmade_is = λ y e. grind (arith, nat_tests, upd_tells, put_tells, k.unmade_is y);
        starts = λ e u z. grind (arith, nat_tests, upd_tells, put_tells, k.starts e u, upd2_tells c (upd (s c) t true) e u);
        starts_is = λ e y z. grind
            (arith, nat_tests, upd_tells, put_tells, k.starts_is e y, upd2_tells c (upd (s c) t true) e y.number);
        begun = λ e u z. grind (arith, nat_tests, upd_tells, put_tells, k.begun e u);
        begun_is = λ e y z. grind (arith, nat_tests, upd_tells, put_tells, k.begun_is e y);
      }

  -- and goes into the switch of carrier c
  pub start_begins : (c t : ℕ) → s c t ≡ true → b c ≡ None
      → Tokens (put at (id_at t 1) (SwitchOf c)) r g u m (upd s c (upd (s c) t false)) (upd b c (Some t))
  start_begins c t has free = let here : at (id_at t 1) ≡ StartOf c = k.starts c t has in
      record {
        list = λ p y. grind (arith, nat_tests, upd_tells, put_tells, k.list p y);
        goal = λ e y z. grind (arith, nat_tests, upd_tells, put_tells, k.goal e y);
        goal_is = λ e y z. grind (arith, nat_tests, upd_tells, put_tells, k.goal_is e y);
        push = λ i y e. grind (arith, nat_tests, upd_tells, put_tells, k.push i y);
        push_is = λ i y e. grind (arith, nat_tests, upd_tells, put_tells, k.push_is i y);
        unmade = λ u z. grind (arith, nat_tests, upd_tells, put_tells, k.unmade u);
        unmade_is = λ y e. grind (arith, nat_tests, upd_tells, put_tells, k.unmade_is y);
        starts = λ e u z. grind (arith, nat_tests, upd_tells, put_tells, k.starts e u, upd2_tells c (upd (s c) t false) e u);
        starts_is = λ e y z. grind
            (arith, nat_tests, upd_tells, put_tells, k.starts_is e y, upd2_tells c (upd (s c) t false) e y.number);
        begun = λ e u z. grind (arith, nat_tests, upd_tells, put_tells, k.begun e u);
        begun_is = λ e y z. grind (arith, nat_tests, upd_tells, put_tells, k.begun_is e y);
      }

  -- the victim goes out of the lists
  pub list_off : (x : ThreadId) (v : Holder) → LeavesLists at x v → Tokens (put at x v) (λ p. without x (r p)) g u m s b
  list_off x v two =
      record {
        list = λ p y. grind
            (arith, nat_tests, upd_tells, put_tells, k.list p y, times_without x y (r p), id_tells x y, two_list x v two p);
        goal = λ c y e. grind (arith, nat_tests, upd_tells, put_tells, k.goal c y, two_at x v two);
        goal_is = λ c y e. grind (arith, nat_tests, upd_tells, put_tells, k.goal_is c y, two_at x v two);
        push = λ i y e. grind (arith, nat_tests, upd_tells, put_tells, k.push i y, two_at x v two);
        push_is = λ i y e. grind (arith, nat_tests, upd_tells, put_tells, k.push_is i y, two_at x v two);
        unmade = λ t e. grind (arith, nat_tests, upd_tells, put_tells, k.unmade t, two_at x v two);
        unmade_is = λ y e. grind (arith, nat_tests, upd_tells, put_tells, k.unmade_is y, two_at x v two);
        starts = λ c t e. grind (arith, nat_tests, upd_tells, put_tells, k.starts c t, two_at x v two);
        starts_is = λ c y e. grind (arith, nat_tests, upd_tells, put_tells, k.starts_is c y, two_at x v two);
        begun = λ c t e. grind (arith, nat_tests, upd_tells, put_tells, k.begun c t, two_at x v two);
        begun_is = λ c y e. grind (arith, nat_tests, upd_tells, put_tells, k.begun_is c y, two_at x v two);
      }
