-- Each step of a thread's context keeps the good world.
use Rattle.std.proofs.Common.{◌≡◌, ◌≢◌, ℕ, ◌+◌, ◌≤◌, Bool, true, false, cond, refl, sym, ap, ◌∙◌, subst, List, [], ◌∷◌, ◌++◌}
use Rattle.std.proofs.Common.{Option, Some, None, arith, ◌⊎◌, inl, inr}
use Rattle.std.specs.Prelude.{is_some}
use Rattle.std.proofs.lemmas.Bool.Decides.{nat_tests, eqb_tells}
use Rattle.k_ids.specs.declared.threads.ThreadId.{ThreadId}
use Rattle.k_locks.specs.declared.locks.Lock.{Lock}
use Rattle.k_model.specs.Maps.{upd}
use Rattle.k_model.proofs.Maps.{upd_tells, upd_same, upd_other}
use Rattle.k_tokens.specs.Maps.{id_at, put}
use Rattle.k_tokens.specs.World.{ContextName, OfThread, OfCarrier, Threads, HeldLocks, holds_any, no_locks, Condition, Absent}
use Rattle.k_tokens.specs.World.{Awake, Asleep, Ended, Dead, thread_of, owner_of, is_present, Stage, NoSwitch, AcquireReady}
use Rattle.k_tokens.specs.World.{LoadGoal, LoadStart, ReleaseReady, Finished, OwnContext, has_switch, is_open, Carrier, World}
use Rattle.k_tokens.specs.World.{with_threads, names, HasInterrupt}
use Rattle.k_tokens.specs.Good.{Holder, Nobody, ReadyList, GoalOf, PushOf, StartToCome, StartOf, SwitchOf, is_somewhere}
use Rattle.k_tokens.specs.Good.{times_in, Tokens, TokensOf, ThreadFacts, IsListable, Told, ReadyFacts, CarrierFacts, Parts}
use Rattle.k_tokens.specs.Good.{IsGood, goals_in, come_in, starting_in}
use Rattle.k_tokens.specs.Steps.{ThreadStep, GoesOn, FindsOwned, FindsTaken, TurnsOn, AcquiresReady, Pushes, AcquiresTable}
use Rattle.k_tokens.specs.Steps.{ReleasesTable, Kills, Unlists, Removes, Places, Makes, FallsAsleep, Ends, Dies, after_step}
use Rattle.k_tokens.specs.Steps.{listed_by, unlisted_by, removed_by, made_by, next_thread, with_ready, rescheduled, put_in}
use Rattle.k_tokens.specs.Steps.{taken_out, without_goal, without_goal_if, left, found_dead, helping}
use Rattle.k_tokens.specs.Grants.{Grants, IsRun}
use Rattle.k_tokens.proofs.Basics.{same_is, times_append}
use Rattle.k_tokens.proofs.Moves.{wakes, push_to_list, push_off, list_off, LeavesLists}
use Rattle.k_tokens.proofs.Standing.{goes_off}
use Rattle.k_tokens.proofs.Facts as facts
use Rattle.k_tokens.proofs.Keeping.{seen_by, busy, facts_as, hands_as, carrier_as, goal_dropped, runs_as, no_switch}
use Rattle.k_tokens.proofs.Keeping.{facts_with_flags, facts_changed, carrier_changed}

module _ (w : World) (c i : ℕ) (at : ThreadId → Holder) (g : Parts w at) (n : IsRun w c i at) where
  threads_changed : (f : Threads) (at' : ThreadId → Holder) → TokensOf (with_threads w f) at' → ThreadFacts f at'
      → ((x : ThreadId) → w.ready_owner ≢ None → ((i : ℕ) → w.ready_owner ≢ Some (OfThread i)) → is_somewhere (at x) ≡ true
      → IsListable w.threads x → IsListable f x)
      → ((x : ThreadId) → is_somewhere (at x) ≡ true → is_present w.threads x ≡ false → is_present f x ≡ false)
      → ReadyFacts f.locks w.own w.ready_owner
      → ((e t : ℕ) → w.held t ≡ Some e
      → (f.condition t ≡ Awake) ⊎ ((f.condition t ≡ w.threads.condition t) × (f.made t ≡ w.threads.made t)))
      → Parts (with_threads w f) at'
  threads_changed f at' tokens threads may gone locked same =
      record {
        tokens = tokens;
        threads = threads;
        switches = seen_by w at g f may gone;
        ready = locked;
        runs = g.runs;
        carriers = λ e. facts_as (g.carriers e) (λ t h. same e t (g.hands.thread e t h));
        hands = g.hands;
      }

  locks_keep : (l : HeldLocks) → l.ready ≡ (w.threads.locks i).ready → ReadyFacts (upd w.threads.locks i l) w.own w.ready_owner
  locks_keep l same =
      record {
        thread = λ j e. grind (arith, upd_tells, g.ready.thread j);
        thread_is = λ j e. grind (arith, upd_tells, g.ready.thread_is j);
        own = g.ready.own;
        own_is = g.ready.own_is;
      }

  goes_on_good : (l : HeldLocks) → Grants w i (GoesOn l) → Parts (after_step w c i (GoesOn l)) at
  goes_on_good l h =
      threads_changed _ at g.tokens (facts.goes_on w.threads at g.threads i n.awake n.calm n.old l h.0 h.2) (λ x _ _ _ m. m)
      (λ x _ m. m) (locks_keep l h.1) (λ e t _. inr (refl, refl))

  turns_on_good : (x : ThreadId) → Grants w i (TurnsOn x) → Parts (after_step w c i (TurnsOn x)) (put at x (PushOf i))
  turns_on_good x h =
      let nowhere : at x ≡ Nobody =
      none (at x) (ap (λ v. is_somewhere (at (id_at x.number v))) (sym h.1) ∙ sym (g.threads.on x.number h.0) ∙ h.2) in
      threads_changed _ (put at x (PushOf i)) (wakes at w.lists _ _ _ _ _ g.tokens i x nowhere h.4)
      (facts.turns_on w.threads at g.threads i n.awake n.calm n.old x h.0 h.1 h.2 h.3 h.5)
      (λ x _ _ _ m. m) (λ x _ m. m) g.ready (λ e t _. inr (refl, refl))
    where
      none : (v : Holder) → is_somewhere v ≡ false → v ≡ Nobody
      none Nobody e = refl
      none (ReadyList p) e = cc
      none (GoalOf d) e = cc
      none (PushOf j) e = cc
      none StartToCome e = cc
      none (StartOf d) e = cc
      none (SwitchOf d) e = cc

  -- who asks for the table lock is present while it is free
  caller_here : w.threads.table ≡ None → w.threads.present i ≡ true
  caller_here free = by (w.threads.present i) refl
    where
      by : (b : Bool) → w.threads.present i ≡ b → b ≡ true
      by true e = refl
      by false e = absurd (let a = n.awake in elim (g.threads.stays i e (λ z. (let y : Awake ≡ Absent = sym a ∙ z in cc))) [
        | inl v ↦ (let y : false ≡ true = sym (ap is_some free) ∙ (g.threads.victim (thread_of w.threads i) v).0 in cc)
        | inr m ↦ n.old m
      ])

  acquires_table_good : Grants w i AcquiresTable → Parts (after_step w c i AcquiresTable) at
  acquires_table_good free =
      threads_changed _ at g.tokens
      (facts.acquires_table w.threads at g.threads i n.awake n.calm n.old free (caller_here free)) (λ x _ _ _ m. m)
      (λ x _ m. m) (locks_keep _ refl) (λ e t _. inr (refl, refl))

  releases_table_good : (l : HeldLocks) → Grants w i (ReleasesTable l) → Parts (after_step w c i (ReleasesTable l)) at
  releases_table_good l h =
      threads_changed _ at g.tokens
      (facts.releases_table w.threads at g.threads i n.awake n.calm n.old l h.0 h.1.0 h.1.1 h.2 h.4) (λ x _ _ _ m. m)
      (λ x _ m. m) (locks_keep l h.3) (λ e t _. inr (refl, refl))

  kills_good : (t : ℕ) → Grants w i (Kills t) → Parts (after_step w c i (Kills t)) at
  kills_good t h =
      threads_changed _ at g.tokens (facts.kills w.threads at g.threads i n.awake n.calm n.old t h.0 h.1 h.2 h.3.0 h.3.1)
      (λ x _ _ _ m. facts.kills_list w.threads at g.threads i n.awake n.calm n.old t x h.2 h.3.0 m)
      (λ x _ m. (let u = upd_tells w.threads.present t false x.number in grind (arith, nat_tests, m, u))) g.ready
      (λ e t _. inr (refl, refl))

  removes_good : Grants w i Removes → Parts (after_step w c i Removes) at
  removes_good h = by w.threads.victim refl
    where
      by : (o : Option ThreadId) → w.threads.victim ≡ o → Parts (with_threads w (removed_by w.threads o)) at
      by None e = absurd (let z : None ≡ Some h.0 = sym e ∙ h.1 in cc)
      by (Some x) e = let q : h.0 ≡ x = (let z : Some h.0 ≡ Some x = sym h.1 ∙ e in cc) in
          threads_changed _ at g.tokens
          (facts.removes w.threads at g.threads i n.awake n.calm n.old x e h.3
          (ap (λ (z : ThreadId). holds_any (w.threads.locks z.number)) (sym q) ∙ h.5))
          (λ y _ _ _ m. facts.removes_list w.threads at g.threads i n.awake n.calm n.old y h.3 m) (λ x _ m. m) g.ready
          (λ e t held. elim (upd_tells w.threads.condition x.number Absent t) [
            | inl z ↦ absurd (let y : None ≡ Some e =
                sym h.4 ∙ ap (λ (z : ThreadId). w.held z.number) q ∙ ap w.held (sym z.1) ∙ held in cc)
            | inr z ↦ inr (z.0, refl)
          ])

  places_good : (t : ℕ) → Grants w i (Places t) → Parts (after_step w c i (Places t)) at
  places_good t h =
      threads_changed _ at g.tokens (facts.places w.threads at g.threads i n.awake n.calm n.old t h.0 h.1 h.2 h.3.0 h.3.1)
      (λ x _ _ _ m. m) (λ x _ m. m) g.ready
      (λ e u _. elim (eqb_tells u t) [
        | inl z ↦ inl (ap (upd w.threads.condition t Awake) z.1 ∙ upd_same w.threads.condition t Awake)
        | inr z ↦ inr (upd_other w.threads.condition t Awake u z.1, upd_other w.threads.made t (w.threads.version t + 1) u z.1)
      ])

  makes_good : (p : ℕ) (h : Grants w i (Makes p)) → IsGood (after_step w c i (Makes p))
  makes_good p h = by w.threads.making refl
    where
      by : (o : Option ℕ) → w.threads.making ≡ o → IsGood (with_threads w (made_by w.threads i p o))
      by None e = (at, g)
      by (Some t) e = let q : h.0 ≡ t = (let z : Some h.0 ≡ Some t = sym h.1 ∙ e in cc) in
          let x : ThreadId = next_thread w.threads t in
          let nowhere : at x ≡ Nobody = g.threads.old x (omega arith) in
          let m = g.threads.making t e in (
            put at x (PushOf i),
            threads_changed _ (put at x (PushOf i)) (wakes at w.lists _ _ _ _ _ g.tokens i x nowhere h.3)
                (facts.makes w.threads at g.threads i n.awake n.calm n.old t p h.2 e h.3 h.4)
                (λ y _ _ _ z. facts.makes_list w.threads at g.threads i n.awake n.calm n.old t p y m.1
                (λ y r. (let a = g.threads.victim y r in let z : None ≡ Some t = sym a.4 ∙ e in cc)) z)
                (λ y s z. (let u = upd_tells w.threads.present t true y.number in
                let v = upd_tells w.threads.version t (w.threads.version t + 1) y.number in
                let o = g.threads.old y in
                let ns : at y ≢ Nobody = λ q. (let f : false ≡ true = ap is_somewhere (sym q) ∙ s in cc) in
                grind (arith, nat_tests, z, u, v, o, ns)))
                g.ready (λ e t _. inr (refl, refl)),
          )

  acquires_ready_good : Grants w i AcquiresReady → Parts (after_step w c i AcquiresReady) at
  acquires_ready_good h =
      record {
        tokens = g.tokens;
        threads = facts.goes_on w.threads at g.threads i n.awake n.calm n.old _ refl (λ x e. grind arith);
        switches = seen_by w at g _ (λ x _ _ _ m. m) (λ x _ m. m);
        ready = record {
          thread = λ j e. (let l = g.ready.thread j in let z = h.0 in grind (arith, upd_tells, l, z));
          thread_is = λ j e. (let y : Some (OfThread i) ≡ Some (OfThread j) = e in
              let q : i ≡ j = cc in
              ap (λ (z : HeldLocks). z.ready)
              (ap (upd w.threads.locks i (with_ready (w.threads.locks i))) (sym q) ∙ upd_same w.threads.locks i
              (with_ready (w.threads.locks i))));
          own = λ d e. absurd (let z : None ≡ Some (OfCarrier d) = sym h.0 ∙ g.ready.own d e in cc);
          own_is = λ d e. absurd (let z : Some (OfThread i) ≡ Some (OfCarrier d) = e in cc);
        };
        runs = g.runs;
        carriers = g.carriers;
        hands = g.hands;
      }

  -- the ready lock is freed by the context
  frees_ready : (l : HeldLocks) → (w.threads.locks i).ready ≡ true → l.ready ≡ false
      → ReadyFacts (upd w.threads.locks i l) w.own None
  frees_ready l has free =
      let was : w.ready_owner ≡ Some (OfThread i) = g.ready.thread i has in
      record {
        thread = λ j e. absurd (elim (upd_tells w.threads.locks i l j) [
          | inl y ↦ (let z : false ≡ true = sym free ∙ ap (λ (z : HeldLocks). z.ready) (sym y.0) ∙ e in cc)
          | inr y ↦ (let z : Some (OfThread i) ≡ Some (OfThread j) =
              sym was ∙ g.ready.thread j (ap (λ (z : HeldLocks). z.ready) (sym y.0) ∙ e) in let q : i ≡ j = cc in y.1 (sym q))
        ]);
        thread_is = λ j e. cc;
        own = λ d e. absurd (let z : Some (OfThread i) ≡ Some (OfCarrier d) = sym was ∙ g.ready.own d e in cc);
        own_is = λ d e. cc;
      }

  any_ready : (w.threads.locks i).ready ≡ true → holds_any (w.threads.locks i) ≡ true
  any_ready has = grind (arith, has)

  module _ (l : HeldLocks) (r : Bool) (has : (w.threads.locks i).ready ≡ true) (table : l.table ≡ (w.threads.locks i).table)
      (free : l.ready ≡ false) where
    push_parts : (x : ThreadId) (v : Holder) (list : ℕ → List ThreadId) → w.threads.push i ≡ Some x
        → Tokens (put at x v) list (goals_in w.own w.carrier) (upd w.threads.push i None) w.unmade (come_in w.carrier)
        (starting_in w.own)
        → (v ≡ Nobody → is_present w.threads x ≡ false) → ((p : ℕ) → v ≡ ReadyList p → IsListable w.threads x)
        → ((v ≡ Nobody) ⊎ ((p : ℕ) × (v ≡ ReadyList p))) → ((p : ℕ) → 64 ≤ p → list p ≡ [])
        → Parts (put_in w c i list l r) (put at x v)
    push_parts x v list is tokens gone may two high =
        let kk : Carrier = rescheduled (w.carrier c) r in
        let rises : HasInterrupt (w.carrier c) → HasInterrupt kk =
        λ h. elim h [ inl a ↦ inl a | inr a ↦ elim a [ inl b ↦ inr (inl b) | inr b ↦ inr (inr (grind (arith, b))) ] ] in
        record {
          tokens = carrier_as w.own w.carrier c kk refl refl tokens;
          threads = facts.pushes w.threads at g.threads i n.awake n.calm n.old x v l is
              (g.tokens.push i x is) table gone may two g.tokens.push;
          switches = seen_by w at g _ (λ x _ _ _ m. m) (λ x _ m. m);
          ready = frees_ready l has free;
          runs = (let z = runs_as c kk g.runs refl (inl refl) in record {
            running = z.running;
            beyond = z.beyond;
            high = high;
            idle = λ d p e s. absurd (let b = busy w at g i (any_ready has) (λ q. g.runs.idle d q e s) in omega (arith, b, s));
          });
          carriers = facts_changed w.own w.carrier c kk
              (facts_with_flags (w.carrier c).starts (w.carrier c).slice kk.resched (w.carrier c).putting rises (g.carriers c))
              (λ e ne. g.carriers e);
          hands = hands_as c kk g.hands refl;
        }

    push_good : (o : Option ThreadId) (seen : Option ℕ) (x : ThreadId) → w.threads.push i ≡ o → o ≡ Some x → Told w.threads x seen
        → IsGood (put_in w c i (listed_by w.lists o seen) l r)
    push_good None seen x e f tells = absurd (let z : None ≡ Some x = f in cc)
    push_good (Some y) None x e f tells = let q : y ≡ x = cc in (
      put at y Nobody,
      push_parts y Nobody w.lists e (push_off at w.lists _ _ _ _ _ g.tokens i y e)
          (λ _. subst (λ z. is_present w.threads z ≡ false) (sym q) (tells.absent refl))
          (λ p z. absurd (let z2 : Nobody ≡ ReadyList p = z in cc)) (inl refl) g.runs.high,
    )
    push_good (Some y) (Some p) x e f tells = let q : y ≡ x = cc in (
      put at y (ReadyList p),
      push_parts y (ReadyList p) _ e
          (push_to_list at w.lists _ _ _ _ _ g.tokens i y p (w.lists p ++ y ∷ []) e (λ z. times_append z y (w.lists p)))
          (λ z. absurd (let z2 : ReadyList p ≡ Nobody = z in cc))
          (λ p2 _. subst (IsListable w.threads) (sym q) (tells.shown p refl).1) (inr (p, refl))
          (λ z b. (let low = (tells.shown p refl).0 in let h = g.runs.high z b in grind (arith, upd_tells, h))),
    )

  pushes_good : (seen : Option ℕ) (l : HeldLocks) (r : Bool) (h : Grants w i (Pushes seen l r))
      → IsGood (after_step w c i (Pushes seen l r))
  pushes_good seen l r h = push_good l r h.3 h.4 h.5 (w.threads.push i) seen h.0 refl h.1 h.2

  unlists_good : (l : HeldLocks) (h : Grants w i (Unlists l)) → IsGood (after_step w c i (Unlists l))
  unlists_good l h = by w.threads.victim refl
    where
      in_none : (p : ℕ) (v : Holder) → ((q : ℕ) → v ≡ ReadyList q → ⊥) → times_in p v ≡ 0
      in_none p Nobody out = refl
      in_none p (ReadyList q) out = absurd (out q refl)
      in_none p (GoalOf d) out = refl
      in_none p (PushOf d) out = refl
      in_none p StartToCome out = refl
      in_none p (StartOf d) out = refl
      in_none p (SwitchOf d) out = refl

      parts : (x : ThreadId) (v : Holder) → w.threads.victim ≡ Some x → LeavesLists at x v → (v ≡ Nobody) ⊎ (v ≡ at x)
          → ((p : ℕ) → v ≡ ReadyList p → ⊥)
          → Parts (taken_out w i (unlisted_by w.lists (Some x)) l) (put at x v)
      parts x v is two or none =
          record {
            tokens = list_off at w.lists _ _ _ _ _ g.tokens x v two;
            threads = facts.unlists w.threads at g.threads i n.awake n.calm n.old x v l is or none h.4 h.2;
            switches = seen_by w at g _ (λ y a b _ m. absurd (b i (g.ready.thread i h.3))) (λ x _ m. m);
            ready = frees_ready l h.3 h.5;
            runs = record {
              running = g.runs.running;
              beyond = g.runs.beyond;
              high = λ p b. rw (g.runs.high p b) refl;
              idle = λ d p e s. rw (g.runs.idle d p e s) refl;
            };
            carriers = g.carriers;
            hands = g.hands;
          }

      -- it stands in no list
      stays_put : (x : ThreadId) (v : Holder) → at x ≡ v → w.threads.victim ≡ Some x → ((p : ℕ) → v ≡ ReadyList p → ⊥)
          → Parts (taken_out w i (unlisted_by w.lists (Some x)) l) (put at x v)
      stays_put x v e is out = parts x v is (inr (sym e, λ p. ap (times_in p) e ∙ in_none p v out)) (inr (sym e)) out

      where_by : (x : ThreadId) (v : Holder) → at x ≡ v → w.threads.victim ≡ Some x
          → IsGood (taken_out w i (unlisted_by w.lists (Some x)) l)
      where_by x Nobody e is = (put at x Nobody, stays_put x Nobody e is (λ p z. cc))
      where_by x (ReadyList q) e is = (put at x Nobody, parts x Nobody is (inl (refl, (q, e))) (inl refl) (λ p z. cc))
      where_by x (GoalOf d) e is = (put at x (GoalOf d), stays_put x (GoalOf d) e is (λ p z. cc))
      where_by x (PushOf d) e is = (put at x (PushOf d), stays_put x (PushOf d) e is (λ p z. cc))
      where_by x StartToCome e is = (put at x StartToCome, stays_put x StartToCome e is (λ p z. cc))
      where_by x (StartOf d) e is = (put at x (StartOf d), stays_put x (StartOf d) e is (λ p z. cc))
      where_by x (SwitchOf d) e is = (put at x (SwitchOf d), stays_put x (SwitchOf d) e is (λ p z. cc))

      by : (o : Option ThreadId) → w.threads.victim ≡ o → IsGood (taken_out w i (unlisted_by w.lists o) l)
      by None e = absurd (let z : None ≡ Some h.0 = sym e ∙ h.1 in cc)
      by (Some x) e = where_by x (at x) refl e

  others_hold : (e t : ℕ) → e ≢ c → (w.carrier e).hand ≡ Some (OfThread t) → t ≢ i
  others_hold e t ne h q = ne
      (let a : w.held t ≡ Some e = g.hands.thread e t h in
      let b : w.held i ≡ Some c = g.hands.thread c i n.hand in let z : Some e ≡ Some c = sym a ∙ ap w.held q ∙ b in cc)

  -- the condition of i alone changes, and the others are about other contexts
  others_facts : (v : Condition) (e : ℕ) → e ≢ c
      → CarrierFacts (upd w.threads.condition i v) w.threads.made e (w.carrier e) (w.own e)
  others_facts v e ne = facts_as (g.carriers e) (λ t h. inr (upd_other w.threads.condition i v t (others_hold e t ne h), refl))

  its_hand : (x : ContextName) → (w.carrier c).hand ≡ Some x → x ≡ OfThread i
  its_hand x e = (let z : Some x ≡ Some (OfThread i) = sym e ∙ n.hand in cc)

  -- the goal goes, with the context that the carrier ran for it
  goal_gone : (condition : ℕ → Condition) → (w.carrier c).switching ≡ false
      → CarrierFacts condition w.threads.made c (without_goal (w.carrier c)) (w.own c)
  goal_gone condition off =
      let s = g.carriers c in
      let none = no_switch s off in
      record {
        counted = λ x e. absurd (let z : None ≡ Some x = sym (none_of (w.own c) none) ∙ e in cc);
        same = λ e. absurd (not_switching (w.own c).stage none e);
        idle = s.idle;
        begins = λ a b. inr refl;
        switch_own = s.switch_own;
        switch_help = s.switch_help;
        switch_hand = s.switch_hand;
        switch_thread = s.switch_thread;
        foreign = s.foreign;
        hand_looked = s.hand_looked;
        looked = λ l e. absurd (let z : None ≡ Some l = sym (s.hand_looked (OfThread i) n.hand) ∙ e in cc);
        awake = λ t a b e. cc;
      }
    where
      none_of : (o : OwnContext) → has_switch o.stage ≡ false → cond (has_switch o.stage) o.goal None ≡ None
      none_of o e = rw e refl

      not_switching : (s : Stage) → has_switch s ≡ false → is_open s ≡ true → ⊥
      not_switching NoSwitch e f = cc
      not_switching AcquireReady e f = cc
      not_switching LoadGoal e f = cc
      not_switching LoadStart e f = cc
      not_switching ReleaseReady e f = cc
      not_switching Finished e f = cc

  at_rest : (f : Threads) (at' : ThreadId → Holder) → ThreadFacts f at'
      → ((x : ThreadId) → IsListable w.threads x → IsListable f x)
      → ((x : ThreadId) → is_present w.threads x ≡ false → is_present f x ≡ false)
      → f.push ≡ w.threads.push → ReadyFacts f.locks w.own w.ready_owner → (v : Condition)
      → f.condition ≡ upd w.threads.condition i v → f.made ≡ w.threads.made → (w.carrier c).switching ≡ false
      → (x : ThreadId) → (w.carrier c).goal ≡ Some x → at' ≡ put at x Nobody → Parts (left w c f (without_goal (w.carrier c))) at'
  at_rest f at' threads may gone push locked v condition made off x has is =
      let kk : Carrier = without_goal (w.carrier c) in
      let none = no_switch (g.carriers c) off in
      let carriers : (e : ℕ) → CarrierFacts (upd w.threads.condition i v) w.threads.made e (upd w.carrier c kk e) (w.own e) =
      facts_changed w.own w.carrier c kk (goal_gone _ off) (others_facts v) in
      record {
        tokens = subst
            (λ z. Tokens z w.lists (goals_in w.own (upd w.carrier c kk)) f.push w.unmade (come_in (upd w.carrier c kk))
            (starting_in w.own)) (sym is)
            (subst (λ z. Tokens (put at x Nobody) w.lists (goals_in w.own (upd w.carrier c kk)) z w.unmade
            (come_in (upd w.carrier c kk)) (starting_in w.own)) (sym push)
            (goal_dropped w.own w.carrier c kk x none refl refl has g.tokens));
        threads = threads;
        switches = seen_by w at g f (λ x _ _ _ m. may x m) (λ x _ m. gone x m);
        ready = locked;
        runs = runs_as c kk g.runs refl (inr refl);
        carriers = subst (λ z. (e : ℕ) → CarrierFacts z f.made e (upd w.carrier c kk e) (w.own e)) (sym condition)
            (subst (λ z. (e : ℕ) → CarrierFacts (upd w.threads.condition i v) z e (upd w.carrier c kk e) (w.own e))
            (sym made) carriers);
        hands = hands_as c kk g.hands refl;
      }

  falls_asleep_good : Grants w i FallsAsleep → Parts (after_step w c i FallsAsleep) (put at (owner_of w.threads i) Nobody)
  falls_asleep_good h =
      let r = n.free h.1 in
      at_rest _ _ (facts.falls_asleep w.threads at g.threads i n.awake n.calm n.old h.0 h.1) (λ x m. m)
      (λ x m. m) refl g.ready Asleep refl refl r.1 (owner_of w.threads i) r.0 refl

  ends_good : Grants w i Ends → Parts (after_step w c i Ends) (put at (owner_of w.threads i) Nobody)
  ends_good h =
      let r = n.free h.1 in
      at_rest _ _ (facts.ends w.threads at g.threads i n.awake n.calm n.old h.0 h.1) (λ x m. m)
      (λ x m. m) refl g.ready Ended refl refl r.1 (owner_of w.threads i) r.0 refl

  not_helping : (w.threads.locks i).ready ≡ false → (w.carrier c).switching ≡ false
  not_helping e = by (w.carrier c).switching refl
    where
      by : (b : Bool) → (w.carrier c).switching ≡ b → b ≡ false
      by false h = refl
      by true h = (let z : true ≡ false = sym (n.helped h) ∙ e in cc)

  dies_locked : (w.threads.locks i).ready ≡ false → ReadyFacts (upd w.threads.locks i no_locks) w.own w.ready_owner
  dies_locked free = locks_keep no_locks (sym free)

  dies_good : Grants w i Dies → IsGood (after_step w c i Dies)
  dies_good h = by (names (w.carrier c).goal (owner_of w.threads i)) refl
    where
      names_is : (o : Option ThreadId) (x : ThreadId) → names o x ≡ true → o ≡ Some x
      names_is None x e = cc
      names_is (Some y) x e = ap Some (same_is y x (grind (arith, nat_tests)) (grind (arith, nat_tests)))

      names_not : (o : Option ThreadId) (x : ThreadId) → names o x ≡ false → o ≡ Some x → ⊥
      names_not None x e q = cc
      names_not (Some y) x e q = (let z : y ≡ x = cc in
          let a : y.number ≡ x.number = ap (λ (z : ThreadId). z.number) z in
          let b : y.version ≡ x.version = ap (λ (z : ThreadId). z.version) z in absurd (grind (arith, nat_tests)))

      by : (b : Bool) → names (w.carrier c).goal (owner_of w.threads i) ≡ b
          → IsGood (left w c (found_dead w.threads i) (without_goal_if b (w.carrier c)))
      by true e =
          let x = owner_of w.threads i in
          let died = facts.dies w.threads at g.threads i n.awake n.calm n.old h.0 h.1 h.3 in
          let absent : is_present w.threads x ≡ false = (let z = h.0 in grind (arith, z)) in (
            put at x Nobody,
            at_rest _ _ (goes_off _ at died x absent) (λ x m. m) (λ x m. m) refl
                (dies_locked h.2) Dead refl refl (not_helping h.2) x (names_is _ x e) refl,
          )
      by false e =
          let died = facts.dies w.threads at g.threads i n.awake n.calm n.old h.0 h.1 h.3 in
          let s = g.carriers c in (
            at,
            record {
              tokens = carrier_as w.own w.carrier c (w.carrier c) refl refl g.tokens;
              threads = died;
              switches = seen_by w at g _ (λ x _ _ _ m. m) (λ x _ m. m);
              ready = dies_locked h.2;
              runs = runs_as c (w.carrier c) g.runs refl (inl refl);
              carriers = facts_changed w.own w.carrier c (w.carrier c) (record {
                counted = s.counted;
                same = s.same;
                idle = s.idle;
                begins = s.begins;
                switch_own = s.switch_own;
                switch_help = s.switch_help;
                switch_hand = s.switch_hand;
                switch_thread = s.switch_thread;
                foreign = s.foreign;
                hand_looked = s.hand_looked;
                looked = s.looked;
                awake = λ t a b r. absurd (let y = its_hand (OfThread t) b in
                    let ti : t ≡ i = cc in
                    names_not (w.carrier c).goal (owner_of w.threads i) e (r ∙ ap (λ v. Some (id_at v (w.threads.made v))) ti));
              }) (others_facts Dead);
              hands = hands_as c (w.carrier c) g.hands refl;
            },
          )

  finds_owned_good : (h : ContextName) (l : Option Lock) → Grants w i (FindsOwned h l)
      → Parts (after_step w c i (FindsOwned h l)) at
  finds_owned_good h l z =
      let off = not_helping z in
      let s = g.carriers c in
      carrier_changed w at g c (helping (w.carrier c) h l) refl refl refl refl
      (record {
        counted = s.counted;
        same = s.same;
        idle = s.idle;
        begins = s.begins;
        switch_own = s.switch_own;
        switch_help = λ p on _. absurd (let y : true ≡ false = sym on ∙ off in cc);
        switch_hand = s.switch_hand;
        switch_thread = λ t on _. refl;
        foreign = λ d _ _. refl;
        hand_looked = s.hand_looked;
        looked = λ l e. absurd (let y : None ≡ Some l = sym (s.hand_looked (OfThread i) n.hand) ∙ e in cc);
        awake = s.awake;
      })

  pub thread_good : (what : ThreadStep) → Grants w i what → IsGood (after_step w c i what)
  thread_good (GoesOn l) h = (at, goes_on_good l h)
  thread_good (FindsOwned p l) h = (at, finds_owned_good p l h)
  thread_good FindsTaken h = (at, g)
  thread_good (TurnsOn x) h = (put at x (PushOf i), turns_on_good x h)
  thread_good AcquiresReady h = (at, acquires_ready_good h)
  thread_good (Pushes s l r) h = pushes_good s l r h
  thread_good AcquiresTable h = (at, acquires_table_good h)
  thread_good (ReleasesTable l) h = (at, releases_table_good l h)
  thread_good (Kills t) h = (at, kills_good t h)
  thread_good (Unlists l) h = unlists_good l h
  thread_good Removes h = (at, removes_good h)
  thread_good (Places t) h = (at, places_good t h)
  thread_good (Makes p) h = makes_good p h
  thread_good FallsAsleep h = (put at (owner_of w.threads i) Nobody, falls_asleep_good h)
  thread_good Ends h = (put at (owner_of w.threads i) Nobody, ends_good h)
  thread_good Dies h = dies_good h
