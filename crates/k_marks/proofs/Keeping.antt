-- The counts hold where nothing is marked yet, and after any change.
use Rattle.std.proofs.Common.{◌≡◌, ◌≢◌, ℕ, ◌+◌, ◌≤◌, ◌<◌, Bool, true, false, cond, refl, sym, ap, ◌∙◌}
use Rattle.std.proofs.Common.{subst, arith, Option, Some, None, List, [], ◌∷◌, ◌++◌, length, inl, inr}
use Rattle.std.proofs.lemmas.Bool.Decides.{eqb_tells, nat_tests}
use Rattle.std.proofs.lemmas.List.{append-nil}
use Rattle.k_ids.specs.declared.threads.ThreadId.{ThreadId}
use Rattle.k_model.specs.Maps.{upd}
use Rattle.k_model.proofs.Maps.{upd_other, upd_same}
use Rattle.k_locks.specs.declared.steps.Answer.{Answer}
use Rattle.k_locks.specs.Steps.{is_again, one_more}
use Rattle.k_switch.specs.Carriers.{last_serial}
use Rattle.k_context.specs.declared.owner.Owner.{Owner}
use Rattle.k_context.specs.declared.owner.Owner.TheVariants as owner
use Rattle.k_context.specs.Contexts.{Carrier, ContextSeen, Thread, done_of, owner_of, resumed, serial_of}
use Rattle.k_carrier.specs.declared.marks.StepMark.{StepMark}
use Rattle.k_world.specs.Lawful.{IsLawfulMarks, numbers_of}
use Rattle.k_world.specs.Marks.{Onward, has_mark, marks_by, step_mark}
use Rattle.k_world.proofs.Steps.{lawful_next, step_counted}
use Rattle.k_marks.specs.Counting.{Change, Changes, Counting, Counts, Goes, IsCounted, IsNew, IsToCome, IsUnmarked}
use Rattle.k_marks.specs.Counting.{begins, goes, more, none, number_of, places, removes, stands_still, stays, steps}
use Rattle.k_marks.proofs.Contexts.{resumed_owner, resumed_serial}
use Rattle.k_marks.proofs.Numbers.{not_both, numbers_other, numbers_own}

pub some_is : {v w : ContextSeen} → Some v ≡ Some w → v ≡ w
some_is e = cc

pub none_some : {v : ContextSeen} → None ≡ Some v → ⊥
none_some e = cc

-- a fact of each context, where that of one number changed
one_changed : (P : ℕ → ContextSeen → Type 0) (f : ℕ → Option ContextSeen) (n : ℕ) (w : ContextSeen) → P n w →
    ((m : ℕ) (u : ContextSeen) → m ≢ n → f m ≡ Some u → P m u) → (m : ℕ) (u : ContextSeen) → upd f n (Some w) m ≡ Some u → P m u
one_changed P f n w h k m u e = elim (eqb_tells m n) [
  | inl q ↦
      subst (λ (j : ℕ). P j u) (sym q.1) (subst (P n) (some_is (sym (ap (upd f n (Some w)) q.1 ∙ upd_same f n (Some w)) ∙ e)) h)
  | inr q ↦ k m u q.1 (sym (upd_other f n (Some w) m q.1) ∙ e)
]

one_gone : (f : ℕ → Option ContextSeen) (n m : ℕ) (u : ContextSeen) → upd f n None m ≡ Some u → f m ≡ Some u
one_gone f n m u e = elim (eqb_tells m n) [
  | inl q ↦ absurd (none_some (sym (ap (upd f n None) q.1 ∙ upd_same f n None) ∙ e))
  | inr q ↦ sym (upd_other f n None m q.1) ∙ e
]

-- WITHOUT A MARK

goes_owner : {v w : ContextSeen} → Goes v w → owner_of w ≡ owner_of v
goes_owner (stays o s d) = o
goes_owner (begins o l s d) = o
goes_owner (stands_still c v w s t d) = w ∙ sym v

-- the count of a context, by its owner, serial and count
counts_by : (marks : List StepMark) (v w : ContextSeen) → owner_of w ≡ owner_of v → serial_of w ≡ serial_of v →
    done_of w ≡ done_of v → Counts marks v → Counts marks w
counts_by marks v w o s d h = record {
  serial = subst (λ (n : ℕ). n ≤ last_serial) (sym s) h.serial;
  done = subst (λ (n : ℕ). n ≤ last_serial) (sym d) h.done;
  call =
      ap (λ (x : Owner). length (numbers_of x (serial_of w) marks)) o ∙ ap (λ (n : ℕ). length (numbers_of (owner_of v) n marks)) s
      ∙ h.call ∙ sym d;
  next = λ serial l. ap (λ (x : Owner). numbers_of x serial marks) o ∙ h.next serial (subst (λ (n : ℕ). n < serial) s l);
}

counts_go : (marks : List StepMark) (v w : ContextSeen) → ((c : ℕ) → numbers_of (owner.Carrier c) last_serial marks ≡ []) →
    Counts marks v → Goes v w → Counts marks w
counts_go marks v w none_ h (stays o s d) = counts_by marks v w o s d h
counts_go marks v w none_ h (begins o l s d) = record {
  serial = omega (arith, s, l);
  done = omega (arith, d);
  call = ap length (ap (λ (x : Owner). numbers_of x (serial_of w) marks) o ∙ h.next (serial_of w) (omega (arith, s))) ∙ sym d;
  next = λ serial k. ap (λ (x : Owner). numbers_of x serial marks) o ∙ h.next serial (omega (arith, s, k));
}
counts_go marks v w none_ h (stands_still c ov ow s t d) = record {
  serial = omega (arith, t);
  done = omega (arith, d);
  call =
      ap length (ap (λ (x : Owner). numbers_of x (serial_of w) marks) ow ∙ ap (λ (n : ℕ). numbers_of (owner.Carrier c) n marks) t
      ∙ none_ c) ∙ sym d;
  next = λ serial k. ap (λ (x : Owner). numbers_of x serial marks) (ow ∙ sym ov) ∙ h.next serial (omega (arith, s, t, k));
}

-- WITH A MARK

carrier_unended : (v : ContextSeen) (c : ℕ) → has_mark v ≡ true → owner_of v ≡ owner.Carrier c → serial_of v ≡ last_serial → ⊥
carrier_unended (Thread t) c h o s = cc
carrier_unended (Carrier k) c h o s = grind (arith, nat_tests)

module _ (table : ℕ) (s : Counting) (h : IsCounted table s) where
  pub go_keeps : (n : ℕ) (v w : ContextSeen) → s.context n ≡ Some v → Goes v w →
      IsCounted table (record s { context = upd s.context n (Some w) })
  go_keeps n v w at g = record {
    lawful = h.lawful;
    number =
        one_changed (λ m u. number_of table (owner_of u) ≡ m) s.context n w
        (ap (number_of table) (goes_owner g) ∙ h.number n v at) (λ m u ne e. h.number m u e);
    counts =
        one_changed (λ m u. Counts s.marks u) s.context n w (counts_go s.marks v w h.uncounted (h.counts n v at) g)
        (λ m u ne e. h.counts m u e);
    known =
        one_changed (λ m u. IsToCome s.version (owner_of u) → ⊥) s.context n w
        (λ k. h.known n v at (subst (IsToCome s.version) (goes_owner g) k)) (λ m u ne e. h.known m u e);
    to_come = h.to_come;
    uncounted = h.uncounted;
  }

  -- a step whose mark isn't kept
  unmarked_keeps : (n : ℕ) (v : ContextSeen) (a : Answer) → s.context n ≡ Some v → is_again a ≡ false → has_mark v ≡ false →
      IsCounted table (record s { context = upd s.context n (Some (resumed v a)) })
  unmarked_keeps n v a at again none_ =
      go_keeps n v (resumed v a) at (stays (resumed_owner v a again) (resumed_serial v a again)
      (step_counted v a (h.counts n v at).serial (h.counts n v at).done ∙ rw (again, none_) refl))

  module _ (n : ℕ) (v : ContextSeen) (a : Answer) (runner : Owner) (at : s.context n ≡ Some v) (again : is_again a ≡ false)
      (marked : has_mark v ≡ true) (few : done_of v < last_serial) where
    c : Counts s.marks v
    c = h.counts n v at

    marks : List StepMark
    marks = s.marks ++ step_mark v runner ∷ []

    done : done_of (resumed v a) ≡ done_of v + 1
    done = step_counted v a c.serial c.done ∙ rw (again, marked) one
      where
        one : one_more (done_of v) ≡ done_of v + 1
        one = omega (arith, few)

    -- what isn't this context's call
    same_numbers : (o : Owner) (serial : ℕ) → (owner_of v ≡ o → serial_of v ≡ serial → ⊥) →
        numbers_of o serial (s.marks ++ step_mark v runner ∷ []) ≡ numbers_of o serial s.marks
    same_numbers o serial ne = numbers_other o serial s.marks (step_mark v runner) (not_both o serial (step_mark v runner) ne)

    counts_others : (u : ContextSeen) → (owner_of v ≡ owner_of u → ⊥) → Counts s.marks u →
        Counts (s.marks ++ step_mark v runner ∷ []) u
    counts_others u ne k = record {
      serial = k.serial;
      done = k.done;
      call = ap length (same_numbers (owner_of u) (serial_of u) (λ o e. ne o)) ∙ k.call;
      next = λ serial l. same_numbers (owner_of u) serial (λ o e. ne o) ∙ k.next serial l;
    }

    counts_own : Counts (s.marks ++ step_mark v runner ∷ []) (resumed v a)
    counts_own = record {
      serial = subst (λ (k : ℕ). k ≤ last_serial) (sym (resumed_serial v a again)) c.serial;
      done = omega (arith, done, few);
      call =
          ap (λ (x : Owner). length (numbers_of x (serial_of (resumed v a)) (s.marks ++ step_mark v runner ∷ [])))
          (resumed_owner v a again)
          ∙ (ap (λ (k : ℕ). length (numbers_of (owner_of v) k (s.marks ++ step_mark v runner ∷ []))) (resumed_serial v a again)
          ∙ (numbers_own s.marks (step_mark v runner) ∙ (ap (λ (k : ℕ). k + 1) c.call ∙ sym done)));
      next =
          λ serial l. ap (λ (x : Owner). numbers_of x serial (s.marks ++ step_mark v runner ∷ [])) (resumed_owner v a again)
          ∙ (same_numbers (owner_of v) serial (λ o e. apart serial (subst (λ (k : ℕ). k < serial) (resumed_serial v a again) l) e)
          ∙ c.next serial (subst (λ (k : ℕ). k < serial) (resumed_serial v a again) l));
    }
      where
        apart : (serial : ℕ) → serial_of v < serial → serial_of v ≡ serial → ⊥
        apart serial l e = omega (arith, l, e)

    other_owner : (m : ℕ) (u : ContextSeen) → m ≢ n → s.context m ≡ Some u → owner_of v ≡ owner_of u → ⊥
    other_owner m u ne e o = ne (sym (h.number m u e) ∙ (ap (number_of table) (sym o) ∙ h.number n v at))

    marked_keeps : IsCounted table (record s {
      marks = s.marks ++ step_mark v runner ∷ [];
      context = upd s.context n (Some (resumed v a));
    })
    marked_keeps = record {
      lawful = lawful_next s.marks (step_mark v runner) h.lawful c.call;
      number =
          one_changed (λ m u. number_of table (owner_of u) ≡ m) s.context n (resumed v a)
          (ap (number_of table) (resumed_owner v a again) ∙ h.number n v at) (λ m u ne e. h.number m u e);
      counts =
          one_changed (λ m u. Counts (s.marks ++ step_mark v runner ∷ []) u) s.context n (resumed v a) counts_own
          (λ m u ne e. counts_others u (other_owner m u ne e) (h.counts m u e));
      known =
          one_changed (λ m u. IsToCome s.version (owner_of u) → ⊥) s.context n (resumed v a)
          (λ k. h.known n v at (subst (IsToCome s.version) (resumed_owner v a again) k)) (λ m u ne e. h.known m u e);
      to_come =
          λ o serial k. same_numbers o serial (λ e q. h.known n v at (subst (IsToCome s.version) (sym e) k))
          ∙ h.to_come o serial k;
      uncounted = λ k. same_numbers (owner.Carrier k) last_serial (λ o e. carrier_unended v k marked o e) ∙ h.uncounted k;
    }

  pub step_keeps : (n : ℕ) (v : ContextSeen) (a : Answer) (runner : Owner) → s.context n ≡ Some v → is_again a ≡ false →
      (has_mark v ≡ true → done_of v < last_serial) → IsCounted table
      (record s { marks = s.marks ++ marks_by runner (Onward v); context = upd s.context n (Some (resumed v a)) })
  step_keeps n v a runner at again few = by (has_mark v) refl
    where
      by : (k : Bool) → has_mark v ≡ k → IsCounted table (record s {
        marks = s.marks ++ cond k (step_mark v runner ∷ []) [];
        context = upd s.context n (Some (resumed v a));
      })
      by true k = marked_keeps n v a runner at again k (few k)
      by false k =
          subst (λ (xs : List StepMark). IsCounted table (record s {
            marks = xs;
            context = upd s.context n (Some (resumed v a));
          })) (sym (append-nil s.marks)) (unmarked_keeps n v a at again k)

  -- A CONTEXT IS PLACED

  module _ (id : ThreadId) (v : ContextSeen) (new : IsNew id v) (later : s.version id.number < id.version) where
    still_to_come : (o : Owner) → IsToCome (upd s.version id.number id.version) o → IsToCome s.version o
    still_to_come (owner.Carrier c) k = k
    still_to_come (owner.Thread d) k = elim (eqb_tells d.number id.number) [
      | inl e ↦
          let over : id.version < d.version = subst (λ (n : ℕ). n < d.version)
          (ap (upd s.version id.number id.version) e.1 ∙ upd_same s.version id.number id.version) k in
          let was : s.version d.number < id.version = subst (λ (n : ℕ). s.version n < id.version) (sym e.1) later in
          omega (arith, over, was)
      | inr e ↦ subst (λ (n : ℕ). n < d.version) (upd_other s.version id.number id.version d.number e.1) k
    ]

    known_new : (o : Owner) → o ≡ owner.Thread id → IsToCome (upd s.version id.number id.version) o → ⊥
    known_new o e k =
        let over : upd s.version id.number id.version id.number < id.version =
        subst (IsToCome (upd s.version id.number id.version)) e k in
        over_itself id.version (subst (λ (n : ℕ). n < id.version) (upd_same s.version id.number id.version) over)
      where
        over_itself : (n : ℕ) → n < n → ⊥
        over_itself n l = omega (arith, l)

    unmade : (serial : ℕ) → numbers_of (owner_of v) serial s.marks ≡ []
    unmade serial = ap (λ (x : Owner). numbers_of x serial s.marks) new.owner ∙ h.to_come (owner.Thread id) serial later

    pub place_keeps : IsCounted table (record s {
      context = upd s.context id.number (Some v);
      version = upd s.version id.number id.version;
    })
    place_keeps = record {
      lawful = h.lawful;
      number =
          one_changed (λ m u. number_of table (owner_of u) ≡ m) s.context id.number v (ap (number_of table) new.owner)
          (λ m u ne e. h.number m u e);
      counts =
          one_changed (λ m u. Counts s.marks u) s.context id.number v record {
            serial = omega (arith, new.serial);
            done = omega (arith, new.done);
            call = ap length (unmade (serial_of v)) ∙ sym new.done;
            next = λ serial l. unmade serial;
          } (λ m u ne e. h.counts m u e);
      known =
          one_changed (λ m u. IsToCome (upd s.version id.number id.version) (owner_of u) → ⊥) s.context id.number v
          (known_new (owner_of v) new.owner) (λ m u ne e k. h.known m u e (still_to_come (owner_of u) k));
      to_come = λ o serial k. h.to_come o serial (still_to_come o k);
      uncounted = h.uncounted;
    }

  pub remove_keeps : (n : ℕ) → IsCounted table (record s { context = upd s.context n None })
  remove_keeps n = record {
    lawful = h.lawful;
    number = λ m u e. h.number m u (one_gone s.context n m u e);
    counts = λ m u e. h.counts m u (one_gone s.context n m u e);
    known = λ m u e. h.known m u (one_gone s.context n m u e);
    to_come = h.to_come;
    uncounted = h.uncounted;
  }

pub change_keeps : (table : ℕ) (s t : Counting) → IsCounted table s → Change s t → IsCounted table t
change_keeps table s _ h (goes n v w at g) = go_keeps table s h n v w at g
change_keeps table s _ h (steps n v a runner at again few) = step_keeps table s h n v a runner at again few
change_keeps table s _ h (places id v free new later) = place_keeps table s h id v new later
change_keeps table s _ h (removes n) = remove_keeps table s h n

pub changes_keep : (table : ℕ) (s t : Counting) → IsCounted table s → Changes s t → IsCounted table t
changes_keep table s _ h none = h
changes_keep table s t h (more m _ before last) = change_keeps table m t (changes_keep table s m h before) last

pub unmarked_counted : (table : ℕ) (s : Counting) → IsUnmarked table s → IsCounted table s
unmarked_counted table s h = record {
  lawful = subst IsLawfulMarks (sym h.marks) (λ o serial. refl);
  number = h.number;
  counts =
      λ n v e. record {
        serial = omega (arith, h.serial n v e);
        done = omega (arith, h.done n v e);
        call = ap length (nothing (owner_of v) (serial_of v)) ∙ sym (h.done n v e);
        next = λ serial l. nothing (owner_of v) serial;
      };
  known = h.known;
  to_come = λ o serial k. nothing o serial;
  uncounted = λ c. nothing (owner.Carrier c) last_serial;
}
  where
    nothing : (o : Owner) (serial : ℕ) → numbers_of o serial s.marks ≡ []
    nothing o serial = ap (numbers_of o serial) h.marks
