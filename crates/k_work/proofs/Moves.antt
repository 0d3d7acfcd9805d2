-- Without a context in hand a carrier looks, or takes: it comes nearer, drops its goal, begins a switch, or
-- wakes its goal.
use Rattle.std.proofs.Common.{◌≡◌, ℕ, ◌+◌, ◌*◌, ◌<◌, ◌≤◌, Bool, true, false, not, refl, sym, ap, ◌∙◌}
use Rattle.std.proofs.Common.{arith, Option, Some, None, inl, inr, ◌⊎◌}
use Rattle.std.specs.Prelude.{◌&&◌, ◌||◌, ◌==◌, is_some, if◌then◌else◌}
use Rattle.std.proofs.lemmas.Bool.{false≢true}
use Rattle.k_ids.specs.declared.threads.ThreadId.{ThreadId}
use Rattle.k_ids.specs.declared.context_word.ContextWord.{ContextWord}
use Rattle.k_ids.specs.declared.context_word.ContextWord.TheVariants.{Empty, Clean, Holds, Taken}
use Rattle.k_model.specs.Maps.{lowest}
use Rattle.k_tokens.specs.Good.{IsGood}
use Rattle.k_tokens.specs.Steps.{without_goal}
use Rattle.k_tokens.specs.World.{Absent, Asleep, Awake, Condition, Dead, Ended, Carrier, ContextName, Help}
use Rattle.k_tokens.specs.World.{OfCarrier, OfThread}
use Rattle.k_tokens.specs.World.{OwnContext, Stage, World, has_switch, holds, holds_ready, is_finished, names}
use Rattle.k_tokens.specs.World.{owner_of, with_carrier}
use Rattle.k_tokens.specs.World as stage
use Rattle.k_switching.specs.Rules.{Helped, ItsGoals, ItsOwn, Target, after_look, begins, begun_with}
use Rattle.k_switching.specs.Rules.{context_at, looking, looking_if}
use Rattle.k_switching.specs.Rules.{same_word, slot_word, switching_begun}
use Rattle.k_switching.specs.Rules.{taken_asleep, target_by, target_of, wants_switch}
use Rattle.k_switching.specs.Rules.{without_help, word_of}
use Rattle.k_work.specs.Near.{IsAlone, looked_place}
use Rattle.k_work.specs.Work.{flags_of, starts_of, switches_by, switches_of, threads_by, threads_had}
use Rattle.k_work.proofs.Carriers.{HasLess, goal_pays, moves_worth, one_moves, worth_of}
use Rattle.k_work.proofs.Looks.{Approaches, begun_nearer, comes_nearer, drops_goal, looked_nearer}
use Rattle.k_work.proofs.Looks.{HasMoved, moved_of, moved_with, one_then, one_with, saw_nearer}
use Rattle.k_work.proofs.Looks.{unhelped_nearer}
use Rattle.k_work.proofs.Rests.{IsResting, free, is_clean, is_empty, is_held, is_holding, own_none, rests}
use Rattle.k_work.proofs.Rests.{version_of}

unfinished_by : (s : Stage) → has_switch s ≡ false → is_finished s ≡ false
unfinished_by stage.NoSwitch e = refl
unfinished_by stage.AcquireReady e = absurd (false≢true (sym e))
unfinished_by stage.LoadGoal e = absurd (false≢true (sym e))
unfinished_by stage.LoadStart e = absurd (false≢true (sym e))
unfinished_by stage.ReleaseReady e = absurd (false≢true (sym e))
unfinished_by stage.Finished e = absurd (false≢true (sym e))

-- who switches doesn't begin to
begins_still : (s v : Bool) (o : Option ThreadId) → ((not s && v) || (not s && not (is_some o))) ≡ true →
    s ≡ false
begins_still false v o e = refl
begins_still true v o e = absurd (false≢true e)

pub no_switch : (w : World) (c : ℕ) → IsGood w → (w.carrier c).switching ≡ false →
    has_switch (w.own c).stage ≡ false
no_switch w c good off = go (has_switch (w.own c).stage) refl
  where
    go : (t : Bool) → has_switch (w.own c).stage ≡ t → t ≡ false
    go false e = refl
    go true e = absurd (false≢true (sym off ∙ (good.1.carriers c).switch_own e))

-- what it begins or wakes is a step of a section
pub data Moves (w v : World) (c : ℕ) : Type 0 where
  approaches : Approaches w v c → Moves w v c
  begins_switch : has_switch (w.own c).stage ≡ false → v ≡ begun_with w c (lowest (w.carrier c).starts 64) →
      Moves w v c
  wakes_goal : (i : ℕ) → w.threads.condition i ≡ Asleep → v ≡ taken_asleep w c i → Moves w v c

own_slot : (o : Option ℕ) (held : Bool) → o ≡ None → (slot_word o held 1 ≡ Clean 1) ⊎ (slot_word o held 1 ≡
    Holds 1)
own_slot None true e = inr refl
own_slot None false e = inl refl
own_slot (Some d) held e = absurd cc

module _ (w : World) (c : ℕ) (good : IsGood w) (alone : IsAlone w c) (low : c < w.carriers)
    (hand : (w.carrier c).hand ≡ None) where
  -- where the carrier's goal and what makes it switch are as they were
  pub less_by : (v : World) (k : Carrier) → HasMoved w v c k →
      worth_of (has_switch (w.own c).stage) k ≤ worth_of (has_switch (w.own c).stage) (w.carrier c) →
      HasLess w v c false
  less_by v k o l =
      one_moves w v c k false low o.carriers o.mine o.others (λ d z. has_switch (o.own z d).stage)
      (omega (arith, l))

  abbrev Result : World → Type 0
  Result v = Approaches w v c

  -- IT BEGINS TO SWITCH

  pub begun : begins (w.carrier c) ≡ true → (word : ContextWord) →
      Result (with_carrier (with_carrier w c (switching_begun (w.carrier c))) c
      (after_look (switching_begun (w.carrier c)) ItsOwn word))
  begun b word = by word
    where
      off : (w.carrier c).switching ≡ false
      off = begins_still (w.carrier c).switching (wants_switch (w.carrier c)) (w.carrier c).goal b

      unfinished : is_finished (w.own c).stage ≡ false
      unfinished = unfinished_by (w.own c).stage (no_switch w c good off)

      with_look : (o : Option ContextWord) →
          Result (with_carrier (with_carrier w c (switching_begun (w.carrier c))) c
          (record (switching_begun (w.carrier c)) { looked = o }))
      with_look o =
          let k = record (switching_begun (w.carrier c)) { looked = o } in
          let v = with_carrier (with_carrier w c (switching_begun (w.carrier c))) c k in
          let one = one_then w c (switching_begun (w.carrier c)) k in
          comes_nearer (begun_nearer w c hand v k one hand refl refl refl unfinished b) (less_by v k
          (moved_of w v c k one) (omega arith))

      by : (word : ContextWord) → Result (with_carrier (with_carrier w c (switching_begun (w.carrier c))) c
          (after_look (switching_begun (w.carrier c)) ItsOwn word))
      by Empty = with_look None
      by (Clean n) = with_look (Some (Clean n))
      by (Holds n) = with_look (Some (Holds n))
      by (Taken d n) = with_look None

  -- IT LOOKS

  module _ (stays : begins (w.carrier c) ≡ false) where
    saw : (word : ContextWord) → (w.carrier c).looked ≡ None →
        word_of w (context_at c (target_of (w.carrier c))) ≡ word →
        Result (with_carrier w c (looking (w.carrier c) word))
    saw word blind is =
        comes_nearer (saw_nearer w c hand stays word blind is)
        (less_by (with_carrier w c (looking (w.carrier c) word)) (looking (w.carrier c) word)
        (moved_with w c (looking (w.carrier c) word)) (omega arith))

    -- a goal that is dropped while nobody switches
    pub dropped : (v : World) (k : Carrier) → HasMoved w v c k → k.goal ≡ None →
        starts_of k ≡ starts_of (w.carrier c) →
        flags_of k ≡ flags_of (w.carrier c) → (w.carrier c).switching ≡ false →
        is_some (w.carrier c).goal ≡ true → Result v
    dropped v k o none starts flags off some =
        drops_goal o.carriers (omega (arith, m, p, before, now))
      where
        m : 6 * threads_had v + 5 * switches_of (v.own c) (v.carrier c) +
            worth_of (has_switch (w.own c).stage) (w.carrier c) ≤
            6 * threads_had w + 5 * switches_of (w.own c) (w.carrier c) + worth_of
            (has_switch (w.own c).stage) k
        m = moves_worth w v c k low o.carriers o.mine o.others (λ d z. has_switch (o.own z d).stage)

        p : 6 * threads_by false None (starts_of (w.carrier c)) + 5 * switches_by false None
            (flags_of (w.carrier c)) <
            6 * threads_by false (w.carrier c).goal (starts_of (w.carrier c))
            + 5 * switches_by false (w.carrier c).goal (flags_of (w.carrier c))
        p = goal_pays (w.carrier c).goal (starts_of (w.carrier c)) (flags_of (w.carrier c)) some

        before : worth_of (has_switch (w.own c).stage) (w.carrier c) ≡
            6 * threads_by false (w.carrier c).goal (starts_of (w.carrier c))
            + 5 * switches_by false (w.carrier c).goal (flags_of (w.carrier c))
        before = ap (λ (t : Bool). worth_of t (w.carrier c)) (no_switch w c good off)

        now : worth_of (has_switch (w.own c).stage) k ≡
            6 * threads_by false None (starts_of (w.carrier c)) + 5 * switches_by false None
            (flags_of (w.carrier c))
        now = λ z. 6 * threads_by (no_switch w c good off z) (none z) (starts z)
            + 5 * switches_by (no_switch w c good off z) (none z) (flags z)

    -- a word that isn't held
    unhelped : (h : Help) → (w.carrier c).help ≡ Some h → (w.carrier c).looked ≡ None →
        is_holding w c good alone hand h.context ≡ false →
        Result (with_carrier w c (without_help (w.carrier c)))
    unhelped h helps blind f =
        comes_nearer (unhelped_nearer w c hand stays h helps blind (free w c good alone hand h.context
        h.lock f))
        (less_by (with_carrier w c (without_help (w.carrier c))) (without_help (w.carrier c))
        (moved_with w c (without_help (w.carrier c))) (omega arith))

    helped_look : (h : Help) → (w.carrier c).help ≡ Some h → (w.carrier c).looked ≡ None →
        (word : ContextWord) →
        word_of w (context_at c (target_of (w.carrier c))) ≡ word →
        IsResting (is_holding w c good alone hand h.context) (version_of w c good alone hand h.context) word →
        Result (with_carrier w c (after_look (w.carrier c) (Helped h.context) word))
    helped_look h helps blind Empty e (is_empty f) = unhelped h helps blind f
    helped_look h helps blind (Clean n) e (is_clean f) = unhelped h helps blind f
    helped_look h helps blind (Holds n) e (is_held f) = saw (Holds n) blind e
    helped_look h helps blind (Taken d n) e r = elim r [ ]

    own_look : (w.carrier c).looked ≡ None → (word : ContextWord) →
        word_of w (context_at c (target_of (w.carrier c))) ≡ word →
        (word ≡ Clean 1) ⊎ (word ≡ Holds 1) → Result (with_carrier w c (after_look (w.carrier c) ItsOwn word))
    own_look blind (Clean n) e r = saw (Clean n) blind e
    own_look blind (Holds n) e r = saw (Holds n) blind e
    own_look blind Empty e (inl q) = absurd (let z = q in cc)
    own_look blind Empty e (inr q) = absurd (let z = q in cc)
    own_look blind (Taken d n) e (inl q) = absurd (let z = q in cc)
    own_look blind (Taken d n) e (inr q) = absurd (let z = q in cc)

    lost_goal : (w.carrier c).switching ≡ false → is_some (w.carrier c).goal ≡ true →
        Result (with_carrier w c (without_goal (w.carrier c)))
    lost_goal off some =
        dropped (with_carrier w c (without_goal (w.carrier c))) (without_goal (w.carrier c))
        (moved_with w c (without_goal (w.carrier c))) refl refl refl off some

    goal_seen : (who : ThreadId) (t : Bool) (word : ContextWord) → (w.carrier c).switching ≡ false →
        is_some (w.carrier c).goal ≡ true → (w.carrier c).looked ≡ None →
        word_of w (context_at c (target_of (w.carrier c))) ≡ word →
        Result (with_carrier w c (looking_if t (w.carrier c) word))
    goal_seen who true word off some blind e = saw word blind e
    goal_seen who false word off some blind e = lost_goal off some

    goal_look : (who : ThreadId) → (w.carrier c).switching ≡ false → is_some (w.carrier c).goal ≡ true →
        (w.carrier c).looked ≡ None → (word : ContextWord) →
        word_of w (context_at c (target_of (w.carrier c))) ≡ word →
        IsResting (is_holding w c good alone hand (OfThread who.number))
        (version_of w c good alone hand (OfThread who.number)) word →
        Result (with_carrier w c (after_look (w.carrier c) (ItsGoals who) word))
    goal_look who off some blind Empty e (is_empty f) = lost_goal off some
    goal_look who off some blind (Clean n) e (is_clean f) = goal_seen who (n ==
        who.version) (Clean n) off some blind e
    goal_look who off some blind (Holds n) e (is_held f) = goal_seen who (n ==
        who.version) (Holds n) off some blind e
    goal_look who off some blind (Taken d n) e r = elim r [ ]

    -- without a goal it would begin to switch
    pub goal_there : (w.carrier c).switching ≡ false → is_some (w.carrier c).goal ≡ true
    goal_there off = go (w.carrier c).switching (wants_switch (w.carrier c)) (w.carrier c).goal off stays
      where
        go : (s v : Bool) (o : Option ThreadId) → s ≡ false → ((not s && v) || (not s && not (is_some o))) ≡
            false →
            is_some o ≡ true
        go true v o e f = absurd (false≢true (sym e))
        go false v (Some who) e f = refl
        go false true None e f = absurd (false≢true (sym f))
        go false false None e f = absurd (false≢true (sym f))

    pub target_is : (h : Option Help) (s : Bool) (o : Option ThreadId) → (w.carrier c).help ≡ h →
        (w.carrier c).switching ≡ s →
        (w.carrier c).goal ≡ o → target_of (w.carrier c) ≡ target_by h s o
    target_is h s o a e f = λ z. target_by (a z) (e z) (f z)

    own_word : (word_of w (OfCarrier c) ≡ Clean 1) ⊎ (word_of w (OfCarrier c) ≡ Holds 1)
    own_word = own_slot (w.held_own c) (holds_ready (w.own c).stage) (own_none w c good alone hand c)

    look_by : (w.carrier c).looked ≡ None → (h : Option Help) (s : Bool) (o : Option ThreadId) →
        (w.carrier c).help ≡ h →
        (w.carrier c).switching ≡ s → (w.carrier c).goal ≡ o →
        Result (with_carrier w c (after_look (w.carrier c) (target_by h s o) (word_of w (context_at c
        (target_by h s o)))))
    look_by blind (Some h) s o a e f =
        helped_look h a blind (word_of w h.context)
        (ap (λ (t : Target). word_of w (context_at c t)) (target_is (Some h) s o a e f))
        (rests w c good alone hand h.context)
    look_by blind None true o a e f =
        own_look blind (word_of w (OfCarrier c)) (ap (λ (t : Target). word_of w (context_at c t))
        (target_is None true o a e f))
        own_word
    look_by blind None false (Some who) a e f =
        goal_look who e (goal_there e) blind (word_of w (OfThread who.number))
        (ap (λ (t : Target). word_of w (context_at c t)) (target_is None false (Some who) a e f))
        (rests w c good alone hand (OfThread who.number))
    look_by blind None false None a e f = absurd (false≢true (ap is_some (sym f) ∙ goal_there e))

    pub looks : (w.carrier c).looked ≡ None →
        Result (with_carrier w c (after_look (w.carrier c) (target_of (w.carrier c))
        (word_of w (context_at c (target_of (w.carrier c))))))
    looks blind = look_by blind (w.carrier c).help (w.carrier c).switching (w.carrier c).goal refl refl refl

    -- IT TAKES

    -- the word has changed since
    pub lost : (word : ContextWord) → (w.carrier c).looked ≡ Some word →
        same_word word (word_of w (context_at c (target_of (w.carrier c)))) ≡ false →
        Result (with_carrier w c (record (w.carrier c) { looked = None }))
    lost word e gone =
        comes_nearer (looked_nearer w c hand stays (with_carrier w c (record (w.carrier c) {
          looked =
              None;
        })) None
        (one_with w c (record (w.carrier c) { looked = None })) (omega (arith, before)))
        (less_by (with_carrier w c (record (w.carrier c) { looked = None })) (record (w.carrier c)
        { looked = None })
        (moved_with w c (record (w.carrier c) { looked = None })) (omega arith))
      where
        before : looked_place w c (w.carrier c) (w.carrier c).looked ≡ 3
        before = ap (looked_place w c (w.carrier c)) e ∙ ap (λ (t : Bool). if t then 1 else 3) gone
