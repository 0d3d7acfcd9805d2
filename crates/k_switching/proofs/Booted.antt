-- The world in which a kernel begins is good.
use Rattle.std.proofs.Common.{◌≡◌, ℕ, suc, zero, ◌+◌, ◌<◌, ◌≤◌, Bool, true, false, not, cond, eqb, refl, sym, ap, ◌∙◌, List, []}
use Rattle.std.proofs.Common.{◌∷◌, ◌++◌, arith, ◌⊎◌, inl, inr}
use Rattle.std.specs.Prelude.{◌&&◌}
use Rattle.std.proofs.lemmas.Bool.Decides.{nat_tests}
use Rattle.k_ids.specs.declared.threads.ThreadId.{ThreadId}
use Rattle.k_model.specs.Maps.{count}
use Rattle.k_model.specs.State.{same_id}
use Rattle.k_tokens.specs.Maps.{id_at, times}
use Rattle.k_tokens.specs.World.{Absent, Awake, Ended, Dead}
use Rattle.k_tokens.specs.Good.{Holder, Nobody, ReadyList, StartToCome, is_somewhere, times_in, Parts, IsGood}
use Rattle.k_tokens.proofs.Basics.{id_tells, times_append}
use Rattle.k_switching.specs.Boot.{Opening, is_thread, boot_list, boot_version, boot}

abbrev place : Bool → ℕ → Holder
place true p = StartToCome
place false p = ReadyList p

abbrev place_if : Bool → Holder → Holder
place_if true v = v
place_if false v = Nobody

abbrev at_boot : Opening → ℕ → ThreadId → Holder
at_boot o m x = place_if (eqb x.version 1 && is_thread m x.number) (place (o.late x.number) (o.priority x.number))

times_if : (x y : ThreadId) (b : Bool) (l : List ThreadId)
    → times x (l ++ cond b (y ∷ []) []) ≡ times x l + cond b (cond (same_id y x) 1 0) 0
times_if x y true l = times_append x y l
times_if x y false l = ap (times x) (append_nil l) ∙ omega arith
  where
    append_nil : (l : List ThreadId) → l ++ [] ≡ l
    append_nil [] = refl
    append_nil (x ∷ l) = ap (λ z. x ∷ z) (append_nil l)

lists_are : (o : Opening) (m p : ℕ) (x : ThreadId) → times x (boot_list o m p) ≡ times_in p (at_boot o m x)
lists_are o zero p x = grind (arith, nat_tests)
lists_are o (suc k) p x =
    let h = lists_are o k p x in
    let a = times_if x (id_at k 1) (not (o.late k) && eqb (o.priority k) p) (boot_list o k p) in
    let i = id_tells (id_at k 1) x in
    grind (arith, nat_tests, h, a, i)

count_none : (n : ℕ) → 0 ≡ count (λ c. false) n
count_none zero = refl
count_none (suc n) = omega (arith, count_none n)

module _ (o : Opening) (low : (t : ℕ) → o.priority t < 64) where
  abbrev at : ThreadId → Holder
  at x = at_boot o o.threads x

  high_empty : (m p : ℕ) → 64 ≤ p → boot_list o m p ≡ []
  high_empty zero p h = refl
  high_empty (suc k) p h = by (not (o.late k)) (eqb (o.priority k) p) (eqb_no (o.priority k) p (low k) h) (high_empty k p h)
    where
      eqb_no : (q v : ℕ) → q < 64 → 64 ≤ v → eqb q v ≡ false
      eqb_no q v b d = grind (arith, nat_tests)

      by : (a b : Bool) → b ≡ false → boot_list o k p ≡ [] → boot_list o k p ++ cond (a && b) (id_at k 1 ∷ []) [] ≡ []
      by a true e f = cc
      by true false e f = rw f refl
      by false false e f = rw f refl

  at_tells : (x : ThreadId)
      → (at x ≡ Nobody)
      ⊎ ((x.version ≡ 1) × (is_thread o.threads x.number ≡ true) × (o.late x.number ≡ true) × (at x ≡ StartToCome))
      ⊎ ((x.version ≡ 1) × (is_thread o.threads x.number ≡ true) × (o.late x.number ≡ false)
      × (at x ≡ ReadyList (o.priority x.number)))
  at_tells x = by (eqb x.version 1) (is_thread o.threads x.number) (o.late x.number) refl refl refl
    where
      by : (a b l : Bool) → eqb x.version 1 ≡ a → is_thread o.threads x.number ≡ b → o.late x.number ≡ l
          → (at x ≡ Nobody)
          ⊎ ((x.version ≡ 1) × (is_thread o.threads x.number ≡ true) × (o.late x.number ≡ true) × (at x ≡ StartToCome))
          ⊎ ((x.version ≡ 1) × (is_thread o.threads x.number ≡ true) × (o.late x.number ≡ false)
          × (at x ≡ ReadyList (o.priority x.number)))
      by true true true e f g = inr
          (inl (
            grind (arith, nat_tests),
            f,
            g,
            ap
                (λ v. place_if (v && is_thread o.threads x.number) (place (o.late x.number) (o.priority x.number))) e ∙ ap
                (λ v. place_if v (place (o.late x.number) (o.priority x.number))) f ∙ ap (λ v. place v (o.priority x.number)) g,
          ))
      by true true false e f g = inr
          (inr (
            grind (arith, nat_tests),
            f,
            g,
            ap
                (λ v. place_if (v && is_thread o.threads x.number) (place (o.late x.number) (o.priority x.number))) e ∙ ap
                (λ v. place_if v (place (o.late x.number) (o.priority x.number))) f ∙ ap (λ v. place v (o.priority x.number)) g,
          ))
      by false b l e f g = inl
          (ap (λ v. place_if (v && is_thread o.threads x.number) (place (o.late x.number) (o.priority x.number))) e)
      by true false l e f g = inl
          (ap (λ v. place_if (v && is_thread o.threads x.number) (place (o.late x.number) (o.priority x.number))) e ∙ ap
          (λ v. place_if v (place (o.late x.number) (o.priority x.number))) f)

  here_one : (t : ℕ) → is_thread o.threads t ≡ true → boot_version o t ≡ 1
  here_one t e = rw e refl

  place_somewhere : (b : Bool) (p : ℕ) → is_somewhere (place b p) ≡ true
  place_somewhere true p = refl
  place_somewhere false p = refl

  pub boot_parts : Parts (boot o) at
  boot_parts =
      record {
        tokens = record {
          list = λ p x. lists_are o o.threads p x;
          goal = λ c x e. cc;
          goal_is = λ c x e. (let a = at_tells x in grind (arith, a, e));
          push = λ i x e. cc;
          push_is = λ i x e. (let a = at_tells x in grind (arith, a, e));
          unmade = λ t e. (let a = at_tells (id_at t 1) in is_unmade t e);
          unmade_is = λ x e. (let a = at_tells x in grind (arith, a, e));
          starts = λ c t e. cc;
          starts_is = λ c x e. (let a = at_tells x in grind (arith, a, e));
          begun = λ c t e. cc;
          begun_is = λ c x e. (let a = at_tells x in grind (arith, a, e));
        };
        threads = record {
          on = λ t p. on_is t p;
          old = λ x e. (let a = at_tells x in let h = here_one x.number in grind (arith, a, h, e));
          listed = λ p x e. inl (let a = at_tells x in let h = here_one x.number in grind (arith, nat_tests, a, h, e));
          resting = λ t p e. absurd (let z : true ≡ false = sym p ∙ e in cc);
          ended = λ t e. absurd (kind_by (is_thread o.threads t) e);
          ended_word = λ t p e. absurd (kind_by (is_thread o.threads t) e);
          dead = λ t e. absurd (dead_by (is_thread o.threads t) e);
          here = λ t p. (λ e. absent_by (is_thread o.threads t) p e, refl);
          stays = λ t p e. absurd (e (ap (λ v. cond v Awake Absent) p));
          calm = λ t e. cc;
          pushing = λ i x e. cc;
          quiet = λ t e. refl;
          table = λ i e. cc;
          table_is = λ i e. cc;
          victim = λ x e. cc;
          making = λ t e. cc;
          priority = low;
        };
        switches = λ d. record { goal = λ x e. cc; start = λ t e. cc };
        ready = record { thread = λ i e. cc; thread_is = λ i e. cc; own = λ d e. cc; own_is = λ d e. cc };
        runs = record {
          running = count_none o.carriers;
          beyond = λ c b. (refl, refl);
          high = λ p b. high_empty o.threads p b;
          idle = λ c p e. cc;
        };
        carriers = λ c. record {
          counted = λ x e. cc;
          same = λ e. cc;
          idle = λ e. cc;
          begins = λ a b. cc;
          switch_own = λ e. cc;
          switch_help = λ h e. cc;
          switch_hand = λ e. cc;
          switch_thread = λ t e. cc;
          foreign = λ d e. cc;
          hand_looked = λ h e. cc;
          looked = λ l e. cc;
          awake = λ t a e. cc;
        };
        hands = record { thread = λ c t e. cc; thread_is = λ c t e. cc; own = λ c d e. cc; own_is = λ c d e. cc };
      }
    where
      kind_by : (b : Bool) → cond b Awake Absent ≡ Ended → ⊥
      kind_by true e = cc
      kind_by false e = cc

      dead_by : (b : Bool) → cond b Awake Absent ≡ Dead → ⊥
      dead_by true e = cc
      dead_by false e = cc

      absent_by : (b : Bool) → b ≡ true → cond b Awake Absent ≡ Absent → ⊥
      absent_by true p e = cc
      absent_by false p e = cc

      is_unmade : (t : ℕ) → (is_thread o.threads t && o.late t) ≡ true → at (id_at t 1) ≡ StartToCome
      is_unmade t e = by (is_thread o.threads t) (o.late t) refl refl e
        where
          by : (a l : Bool) → is_thread o.threads t ≡ a → o.late t ≡ l → (a && l) ≡ true → at (id_at t 1) ≡ StartToCome
          by true true f g h = ap (λ v. place_if v (place (o.late t) (o.priority t))) f ∙ ap (λ v. place v (o.priority t)) g
          by true false f g h = cc
          by false l f g h = cc

      on_is : (t : ℕ) → is_thread o.threads t ≡ true → is_thread o.threads t ≡ is_somewhere (at (id_at t (boot_version o t)))
      on_is t p = p ∙ sym
          (ap (λ v. is_somewhere (at (id_at t v))) (here_one t p) ∙ ap
          (λ v. is_somewhere (place_if v (place (o.late t) (o.priority t)))) p ∙ place_somewhere (o.late t) (o.priority t))

pub boot_good : (o : Opening) → ((t : ℕ) → o.priority t < 64) → IsGood (boot o)
boot_good o low = (at_boot o o.threads, boot_parts o low)
