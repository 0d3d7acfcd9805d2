-- A carrier without a context in hand begins to switch, or looks at a context.
use Rattle.std.proofs.Common.{not, ◌≡◌, ◌≢◌, ℕ, Bool, true, false, cond, eqb, refl, sym, ap, ◌∙◌, subst, Option, Some, None}
use Rattle.std.proofs.Common.{arith, ◌⊎◌, inl, inr}
use Rattle.std.specs.Prelude.{◌&&◌, ◌||◌, is_some}
use Rattle.std.proofs.lemmas.Bool.Decides.{nat_tests}
use Rattle.k_ids.specs.declared.threads.ThreadId.{ThreadId}
use Rattle.k_ids.specs.declared.context_word.ContextWord.{ContextWord}
use Rattle.k_ids.specs.declared.context_word.ContextWord.TheVariants.{Empty, Clean, Holds, Taken}
use Rattle.k_model.proofs.Maps.{lowest-Some}
use Rattle.k_model.specs.Maps.{lowest}
use Rattle.k_tokens.specs.Maps.{put}
use Rattle.k_tokens.specs.World.{HasInterrupt, OfThread, OfCarrier, holds_any, Condition, Absent, Awake, Asleep, Ended, Dead}
use Rattle.k_tokens.specs.World.{is_present, has_switch, OwnContext, Help, Carrier, World, with_carrier}
use Rattle.k_tokens.specs.Good.{Holder, Nobody, IsLooked, Parts, IsGood}
use Rattle.k_tokens.specs.Steps.{without_goal}
use Rattle.k_tokens.proofs.Standing.{goes_off}
use Rattle.k_tokens.proofs.Keeping.{hands_as, goal_dropped, runs_as, no_switch, facts_changed, carrier_changed}
use Rattle.k_switching.specs.Rules.{wants_switch, begins, switching_begun, Helped, ItsOwn, ItsGoals, target_by, context_at}
use Rattle.k_switching.specs.Rules.{slot_word, thread_word, word_of, without_help, looking, looking_if, after_look}
use Rattle.k_switching.proofs.Pairs.{not_without}

-- what the word of a thread's context tells
abbrev pub WordTells : World → ℕ → ContextWord → Type 0
WordTells w t l = ((l ≡ Empty) × (w.threads.condition t ≡ Absent))
    ⊎ (((l ≡ Clean (w.threads.made t)) ⊎ (l ≡ Holds (w.threads.made t))) × (w.held t ≡ None) × (w.threads.condition t ≢ Absent))
    ⊎ ((c : ℕ) × (l ≡ Taken c (w.threads.made t)))

none_there : (w : World) (t : ℕ) (l : ContextWord) → l ≡ Empty → WordTells w t l → w.threads.condition t ≡ Absent
none_there w t l e (inl a) = a.1
none_there w t l e (inr (inl b)) = absurd (elim b.0 [
  | inl z ↦ (let y : Empty ≡ Clean (w.threads.made t) = sym e ∙ z in cc)
  | inr z ↦ (let y : Empty ≡ Holds (w.threads.made t) = sym e ∙ z in cc)
])
none_there w t l e (inr (inr b)) = absurd (let y : Empty ≡ Taken b.0 (w.threads.made t) = sym e ∙ b.1 in cc)

version_is : (w : World) (t v : ℕ) (l : ContextWord) → (l ≡ Clean v) ⊎ (l ≡ Holds v) → WordTells w t l → v ≡ w.threads.made t
version_is w t v l (inl e) (inl a) = absurd (let y : Clean v ≡ Empty = sym e ∙ a.0 in cc)
version_is w t v l (inl e) (inr (inl b)) = elim b.0 [
  | inl z ↦ (let y : Clean v ≡ Clean (w.threads.made t) = sym e ∙ z in cc)
  | inr z ↦ absurd (let y : Clean v ≡ Holds (w.threads.made t) = sym e ∙ z in cc)
]
version_is w t v l (inl e) (inr (inr b)) = absurd (let y : Clean v ≡ Taken b.0 (w.threads.made t) = sym e ∙ b.1 in cc)
version_is w t v l (inr e) (inl a) = absurd (let y : Holds v ≡ Empty = sym e ∙ a.0 in cc)
version_is w t v l (inr e) (inr (inl b)) = elim b.0 [
  | inl z ↦ absurd (let y : Holds v ≡ Clean (w.threads.made t) = sym e ∙ z in cc)
  | inr z ↦ (let y : Holds v ≡ Holds (w.threads.made t) = sym e ∙ z in cc)
]
version_is w t v l (inr e) (inr (inr b)) = absurd (let y : Holds v ≡ Taken b.0 (w.threads.made t) = sym e ∙ b.1 in cc)

-- a carrier that begins to switch has an interrupt pending, or no goal
pub wants_reason : (k : Carrier) → wants_switch k ≡ true → HasInterrupt k
wants_reason k e = by (lowest k.starts 64) k.slice k.resched refl refl refl e
  where
    by : (o : Option ℕ) (a b : Bool) → lowest k.starts 64 ≡ o → k.slice ≡ a → k.resched ≡ b → ((is_some o || a) || b) ≡ true
        → HasInterrupt k
    by (Some t) a b l s r e = let z = lowest-Some k.starts 64 t l in inl (t, z.0, z.1)
    by None true b l s r e = inr (inl s)
    by None false true l s r e = inr (inr r)
    by None false false l s r e = cc

begins_reason : (k : Carrier) → begins k ≡ true → HasInterrupt k ⊎ (k.goal ≡ None)
begins_reason k e = by k.switching (wants_switch k) k.goal refl refl e
  where
    by : (s a : Bool) (o : Option ThreadId) → wants_switch k ≡ a → k.goal ≡ o
        → ((not s && a) || (not s && not (is_some o))) ≡ true → HasInterrupt k ⊎ (k.goal ≡ None)
    by true a o x y e = cc
    by false true o x y e = inl (wants_reason k x)
    by false false None x y e = inr y
    by false false (Some t) x y e = cc

module _ (w : World) (at : ThreadId → Holder) (g : Parts w at) where
  pub begins_good : (c : ℕ) → (w.carrier c).hand ≡ None → begins (w.carrier c) ≡ true
      → Parts (with_carrier w c (switching_begun (w.carrier c))) at
  begins_good c free why =
      let s = g.carriers c in
      let reason = begins_reason (w.carrier c) why in
      carrier_changed w at g c (switching_begun (w.carrier c)) refl refl refl refl
      (record {
        counted = s.counted;
        same = s.same;
        idle = s.idle;
        begins = λ _ _. reason;
        switch_own = λ _. refl;
        switch_help = λ h a b. cc;
        switch_hand = s.switch_hand;
        switch_thread = λ t a b. absurd (let z : None ≡ Some (OfThread t) = sym free ∙ b in cc);
        foreign = λ d b _. absurd (let z : None ≡ Some (OfCarrier d) = sym free ∙ b in cc);
        hand_looked = λ h b. absurd (let z : None ≡ Some h = sym free ∙ b in cc);
        looked = λ l b. cc;
        awake = λ t a. cc;
      })

  -- the help is dropped, by a carrier with nothing in hand and nothing looked at
  drops_help : (c : ℕ) → (w.carrier c).hand ≡ None → (w.carrier c).looked ≡ None
      → Parts (with_carrier w c (without_help (w.carrier c))) at
  drops_help c free blind =
      let s = g.carriers c in
      carrier_changed w at g c (without_help (w.carrier c)) refl refl refl refl
      (record {
        counted = s.counted;
        same = s.same;
        idle = s.idle;
        begins = s.begins;
        switch_own = s.switch_own;
        switch_help = λ h a b. cc;
        switch_hand = s.switch_hand;
        switch_thread = λ t a b. absurd (let z : None ≡ Some (OfThread t) = sym free ∙ b in cc);
        foreign = λ d b _. absurd (let z : None ≡ Some (OfCarrier d) = sym free ∙ b in cc);
        hand_looked = s.hand_looked;
        looked = λ l b. absurd (let z : None ≡ Some l = sym blind ∙ b in cc);
        awake = s.awake;
      })

  -- a word is looked at
  looks_at : (c : ℕ) (l : ContextWord) → (w.carrier c).hand ≡ None
      → IsLooked (w.carrier c).help (w.carrier c).switching (w.carrier c).goal l
      → Parts (with_carrier w c (looking (w.carrier c) l)) at
  looks_at c l free fits =
      let s = g.carriers c in
      carrier_changed w at g c (looking (w.carrier c) l) refl refl refl refl
      (record {
        counted = s.counted;
        same = s.same;
        idle = s.idle;
        begins = s.begins;
        switch_own = s.switch_own;
        switch_help = s.switch_help;
        switch_hand = s.switch_hand;
        switch_thread = s.switch_thread;
        foreign = s.foreign;
        hand_looked = λ h b. absurd (let z : None ≡ Some h = sym free ∙ b in cc);
        looked = λ m b. (let z : l ≡ m = cc in
            subst (IsLooked (w.carrier c).help (w.carrier c).switching (w.carrier c).goal) z fits);
        awake = s.awake;
      })

  pub blinks : (c : ℕ) → Parts (with_carrier w c (record (w.carrier c) { looked = None })) at
  blinks c =
      let s = g.carriers c in
      carrier_changed w at g c (record (w.carrier c) { looked = None }) refl refl refl refl
      (record {
        counted = s.counted;
        same = s.same;
        idle = s.idle;
        begins = s.begins;
        switch_own = s.switch_own;
        switch_help = s.switch_help;
        switch_hand = s.switch_hand;
        switch_thread = s.switch_thread;
        foreign = s.foreign;
        hand_looked = λ h b. refl;
        looked = λ m b. cc;
        awake = s.awake;
      })

  -- the goal is gone: another version, or no context at all
  drops_goal : (c : ℕ) (x : ThreadId) → (w.carrier c).goal ≡ Some x → (w.carrier c).switching ≡ false
      → (w.carrier c).hand ≡ None → (w.carrier c).looked ≡ None → is_present w.threads x ≡ false
      → Parts (with_carrier w c (without_goal (w.carrier c))) (put at x Nobody)
  drops_goal c x has off free blind gone =
      let s = g.carriers c in
      let none = no_switch s off in
      let kk : Carrier = without_goal (w.carrier c) in
      record {
        tokens = goal_dropped w.own w.carrier c kk x none refl refl has g.tokens;
        threads = goes_off w.threads at g.threads x gone;
        switches = g.switches;
        ready = g.ready;
        runs = runs_as c kk g.runs refl (inr refl);
        carriers = facts_changed w.own w.carrier c kk (record {
          counted = λ y e. absurd (let z : None ≡ Some y = sym (none_of (w.own c) none) ∙ e in cc);
          same = λ e. absurd (not_without (w.own c).stage none e);
          idle = s.idle;
          begins = λ a b. inr refl;
          switch_own = s.switch_own;
          switch_help = s.switch_help;
          switch_hand = s.switch_hand;
          switch_thread = s.switch_thread;
          foreign = s.foreign;
          hand_looked = s.hand_looked;
          looked = λ l e. absurd (let z : None ≡ Some l = sym blind ∙ e in cc);
          awake = λ t a b e. cc;
        }) (λ e ne. g.carriers e);
        hands = hands_as c kk g.hands refl;
      }
    where
      none_of : (o : OwnContext) → has_switch o.stage ≡ false → cond (has_switch o.stage) o.goal None ≡ None
      none_of o e = rw e refl

  -- the version of a present thread's context is its own
  other_version : (x : ThreadId) → w.threads.made x.number ≢ x.version → is_present w.threads x ≡ false
  other_version x ne = by (w.threads.present x.number) refl
    where
      by : (b : Bool) → w.threads.present x.number ≡ b → (b && eqb (w.threads.version x.number) x.version) ≡ false
      by true e = let h = (g.threads.here x.number e).1 in grind (arith, nat_tests, h)
      by false e = refl

  no_context : (x : ThreadId) → w.threads.condition x.number ≡ Absent → is_present w.threads x ≡ false
  no_context x none = by (w.threads.present x.number) refl
    where
      by : (b : Bool) → w.threads.present x.number ≡ b → (b && eqb (w.threads.version x.number) x.version) ≡ false
      by true e = absurd ((g.threads.here x.number e).0 none)
      by false e = refl

  -- what the word of a thread's slot tells
  pub word_tells : (t : ℕ) (l : ContextWord) → word_of w (OfThread t) ≡ l
      → WordTells w t l
  word_tells t l e = by (w.threads.condition t) refl e
    where
      held_by : (h : Option ℕ) (b : Bool) → w.held t ≡ h → w.threads.condition t ≢ Absent → slot_word h b (w.threads.made t) ≡ l
          → WordTells w t l
      held_by (Some c) b h n e = inr (inr (c, sym e))
      held_by None true h n e = inr (inl (inr (sym e), h, n))
      held_by None false h n e = inr (inl (inl (sym e), h, n))

      by : (k : Condition) → w.threads.condition t ≡ k
          → thread_word k (w.held t) (holds_any (w.threads.locks t)) (w.threads.made t) ≡ l
          → WordTells w t l
      by Absent k e = inl (sym e, k)
      by Awake k e = held_by (w.held t) (holds_any (w.threads.locks t)) refl (λ z. (let y : Awake ≡ Absent = sym k ∙ z in cc)) e
      by Asleep k e = held_by (w.held t) (holds_any (w.threads.locks t)) refl (λ z. (let y : Asleep ≡ Absent = sym k ∙ z in cc)) e
      by Ended k e = held_by (w.held t) (holds_any (w.threads.locks t)) refl (λ z. (let y : Ended ≡ Absent = sym k ∙ z in cc)) e
      by Dead k e = held_by (w.held t) (holds_any (w.threads.locks t)) refl (λ z. (let y : Dead ≡ Absent = sym k ∙ z in cc)) e

  module _ (c : ℕ) (free : (w.carrier c).hand ≡ None) (blind : (w.carrier c).looked ≡ None) where
    looks_help : (p : Help) (l : ContextWord) → (w.carrier c).help ≡ Some p
        → IsGood (with_carrier w c (after_look (w.carrier c) (Helped p.context) l))
    looks_help p Empty e = (at, drops_help c free blind)
    looks_help p (Clean v) e = (at, drops_help c free blind)
    looks_help p (Taken d v) e = (at, drops_help c free blind)
    looks_help p
        (Holds v) e = (
          at,
          looks_at c (Holds v) free
              (subst (λ z. IsLooked z (w.carrier c).switching (w.carrier c).goal (Holds v)) (sym e) tt),
        )

    same_still : Parts (with_carrier w c (w.carrier c)) at
    same_still = carrier_changed w at g c (w.carrier c) refl refl refl refl (g.carriers c)

    looks_mine : (l : ContextWord) → (w.carrier c).help ≡ None → (w.carrier c).switching ≡ true
        → IsGood (with_carrier w c (after_look (w.carrier c) ItsOwn l))
    looks_mine Empty e s = (at, same_still)
    looks_mine (Taken d v) e s = (at, same_still)
    looks_mine (Clean v) e s = (
      at,
      looks_at c (Clean v) free
          (subst (λ z. IsLooked z (w.carrier c).switching (w.carrier c).goal (Clean v)) (sym e)
          (λ x f. absurd (let z : true ≡ false = sym s ∙ f in cc))),
    )
    looks_mine (Holds v) e s = (
      at,
      looks_at c (Holds v) free
          (subst (λ z. IsLooked z (w.carrier c).switching (w.carrier c).goal (Holds v)) (sym e)
          (λ x f. absurd (let z : true ≡ false = sym s ∙ f in cc))),
    )

    module _ (x : ThreadId) (none : (w.carrier c).help ≡ None) (off : (w.carrier c).switching ≡ false)
        (has : (w.carrier c).goal ≡ Some x) where
      fits : (v : ℕ) → v ≡ x.version → (y : ThreadId) → (w.carrier c).switching ≡ false → (w.carrier c).goal ≡ Some y
          → v ≡ y.version
      fits v e y _ f = (let z : Some x ≡ Some y = sym has ∙ f in let q : x ≡ y = cc in e ∙ ap (λ (z : ThreadId). z.version) q)

      looked_goal : (l : ContextWord) (v : ℕ) → v ≡ w.threads.made x.number
          → (v ≡ x.version → IsLooked None (w.carrier c).switching (w.carrier c).goal l)
          → (b : Bool) → eqb v x.version ≡ b → IsGood (with_carrier w c (looking_if b (w.carrier c) l))
      looked_goal l v made good true q =
          let looked = good (grind (arith, nat_tests)) in
          (at, looks_at c l free (subst (λ z. IsLooked z (w.carrier c).switching (w.carrier c).goal l) (sym none) looked))
      looked_goal l v made good false q =
          let other : v ≢ x.version = grind (arith, nat_tests) in
          (put at x Nobody, drops_goal c x has off free blind (other_version x (λ z. other (made ∙ z))))

      looks_goal : (l : ContextWord) → word_of w (OfThread x.number) ≡ l
          → IsGood (with_carrier w c (after_look (w.carrier c) (ItsGoals x) l))
      looks_goal Empty e =
          let tells = word_tells x.number Empty e in
          (put at x Nobody, drops_goal c x has off free blind (no_context x (none_there w x.number Empty refl tells)))
      looks_goal (Taken d v) e = (at, same_still)
      looks_goal (Clean v) e =
          let tells = word_tells x.number (Clean v) e in
          looked_goal (Clean v) v (version_is w x.number v (Clean v) (inl refl) tells) (fits v) (eqb v x.version) refl
      looks_goal (Holds v) e =
          let tells = word_tells x.number (Holds v) e in
          looked_goal (Holds v) v (version_is w x.number v (Holds v) (inr refl) tells) (fits v) (eqb v x.version) refl

    pub look_good : (h : Option Help) (s : Bool) (m : Option ThreadId) → (w.carrier c).help ≡ h → (w.carrier c).switching ≡ s
        → (w.carrier c).goal ≡ m → (s ≡ false → m ≡ None → ⊥)
        → IsGood (with_carrier w c (after_look (w.carrier c) (target_by h s m) (word_of w (context_at c (target_by h s m)))))
    look_good (Some p) s m e f q busy = looks_help p (word_of w p.context) e
    look_good None true m e f q busy = looks_mine (word_of w (OfCarrier c)) e f
    look_good None false None e f q busy = absurd (busy refl refl)
    look_good None false (Some x) e f q busy = looks_goal x e f q (word_of w (OfThread x.number)) refl
