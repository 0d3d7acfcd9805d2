-- A carrier that takes what it has looked at comes nearer, drops its goal, begins a switch, or wakes its
-- goal.
use Rattle.std.proofs.Common.{◌≡◌, ℕ, ◌+◌, ◌*◌, ◌<◌, Bool, true, false, not, refl, sym, ap, ◌∙◌, subst}
use Rattle.std.proofs.Common.{arith, Option, Some, None}
use Rattle.std.specs.Prelude.{◌&&◌, ◌||◌, ◌==◌, is_some, if◌then◌else◌}
use Rattle.std.proofs.lemmas.Bool.{false≢true}
use Rattle.std.proofs.lemmas.Bool.Decides.{nat_tests}
use Rattle.k_ids.specs.declared.threads.ThreadId.{ThreadId}
use Rattle.k_ids.specs.declared.context_word.ContextWord.{ContextWord}
use Rattle.k_ids.specs.declared.context_word.ContextWord.TheVariants.{Empty, Clean, Holds, Taken}
use Rattle.k_model.proofs.Maps.{upd_same, upd_other}
use Rattle.k_tokens.specs.Good.{IsGood, IsLooked}
use Rattle.k_tokens.specs.Steps.{ThreadStep, without_goal}
use Rattle.k_tokens.specs.World.{Absent, Asleep, Awake, Condition, Dead, Ended, Carrier, ContextName, Help}
use Rattle.k_tokens.specs.World.{OfCarrier, OfThread}
use Rattle.k_tokens.specs.World.{World, has_switch, names, owner_of, with_carrier}
use Rattle.k_switching.specs.Rules.{ItsOwn, after_look, beginning, begins, carrier_step}
use Rattle.k_switching.specs.Rules.{carrier_step_by, context_at, free_step, is_interrupted, same_context}
use Rattle.k_switching.specs.Rules.{same_word}
use Rattle.k_switching.specs.Rules.{switching_begun, take_step, taken, taken_as_it_is, taken_dead, taken_goal}
use Rattle.k_switching.specs.Rules.{taken_own, target_by, target_of, target_step, with_hand, word_of}
use Rattle.k_work.specs.Near.{IsAlone, finished_worth, is_wanted_by, level_of, looked_place}
use Rattle.k_work.specs.Near.{near_free, near_hand, near_of}
use Rattle.k_work.proofs.Gives.{level_same}
use Rattle.k_work.proofs.Looks.{Approaches, HasMoved, before_is, comes_nearer, near_before}
use Rattle.k_work.proofs.Moves.{Moves, approaches, begins_switch, begun, dropped, goal_there, less_by, looks}
use Rattle.k_work.proofs.Moves.{lost}
use Rattle.k_work.proofs.Moves.{wakes_goal}
use Rattle.k_work.proofs.Rests.{IsResting, is_clean, is_empty, is_held, is_holding, rests}

parts : (i l p t : Bool) (f a a' n : ℕ) → (i || l) ≡ false → t ≡ true → a' ≡ a → n ≡ f + 5 * a + 1 →
    (if i then 32 else f + (if l then 40 else 0) + 5 * a' + (if p then 4 else (if t then 0 else 4))) <
    (if p then 5 + n else n)
parts true l p t f a a' n e w s m = absurd (false≢true (sym e))
parts false true p t f a a' n e w s m = absurd (false≢true (sym e))
parts false false p false f a a' n e w s m = absurd (false≢true w)
parts false false true true f a a' n e w s m = omega (arith, s, m)
parts false false false true f a a' n e w s m = omega (arith, s, m)

same_name : (x : ContextName) → same_context x x ≡ true
same_name (OfThread t) = grind (arith, nat_tests)
same_name (OfCarrier d) = grind (arith, nat_tests)

-- the looked word that is still there
rest_version : (s : Bool) (o : Option ThreadId) (who : ThreadId) (held : Bool) (version : ℕ)
    (word found : ContextWord) →
    s ≡ false → o ≡ Some who → IsLooked None s o word → IsResting held version found →
    same_word word found ≡ true →
    version ≡ who.version
rest_version s o who held version (Clean n) _ off g looked (is_clean f) same =
    let e : n ≡ version = grind (arith, nat_tests, same) in sym e ∙ looked who off g
rest_version s o who held version (Holds n) _ off g looked (is_held f) same =
    let e : n ≡ version = grind (arith, nat_tests, same) in sym e ∙ looked who off g
rest_version s o who held version (Clean n) _ off g looked (is_held f) same = absurd (false≢true same)
rest_version s o who held version (Clean n) _ off g looked (is_empty f) same = absurd (false≢true same)
rest_version s o who held version (Holds n) _ off g looked (is_clean f) same = absurd (false≢true same)
rest_version s o who held version (Holds n) _ off g looked (is_empty f) same = absurd (false≢true same)
rest_version s o who held version Empty found off g looked r same = absurd looked
rest_version s o who held version (Taken d n) found off g looked r same = absurd looked

named : (who : ThreadId) (made : ℕ) → made ≡ who.version → ((who.number == who.number) && (who.version ==
    made)) ≡ true
named who made e = grind (arith, nat_tests, e)

own_name : (c : ℕ) → (c == c) ≡ true
own_name c = grind (arith, nat_tests)

module _ (w : World) (c : ℕ) (good : IsGood w) (alone : IsAlone w c) (low : c < w.carriers)
    (hand : (w.carrier c).hand ≡ None) (stays : begins (w.carrier c) ≡ false) where
  -- what it takes is what it wants
  taken_nearer : (v : World) (x : ContextName) → v.threads ≡ w.threads →
      HasMoved w v c (with_hand (w.carrier c) x) →
      is_wanted_by v c (with_hand (w.carrier c) x) (w.carrier c).help x ≡ true →
      looked_place w c (w.carrier c) (w.carrier c).looked ≡ 1 → Approaches w v c
  taken_nearer v x threads m wanted there =
      comes_nearer (together now before less) (less_by w c good alone low hand v (with_hand (w.carrier c) x)
      m (omega arith))
    where
      now : near_of v c ≡ near_hand v c (with_hand (w.carrier c) x) (w.own c).stage (Some x)
      now = λ z. near_hand v c (m.mine z) (m.own z c).stage (m.mine z).hand

      before : near_of w c ≡ near_hand w c (w.carrier c) (w.own c).stage None
      before = near_before w c hand

      free_is : near_free w c (w.carrier c) (w.own c).stage ≡
          finished_worth (w.own c).stage + 5 * level_of w (w.carrier c).help + 1
      free_is = before_is w c hand stays ∙ ap (λ (n : ℕ). finished_worth (w.own c).stage
          + 5 * level_of w (w.carrier c).help + n) there

      less : near_hand v c (with_hand (w.carrier c) x) (w.own c).stage (Some x) <
          near_hand w c (w.carrier c) (w.own c).stage None
      less =
          parts (is_interrupted (w.carrier c)) (not (w.carrier c).switching && not
          (is_some (w.carrier c).goal))
          (w.carrier c).putting (is_wanted_by v c (with_hand (w.carrier c) x) (w.carrier c).help x)
          (finished_worth (w.own c).stage) (level_of w (w.carrier c).help) (level_of v (w.carrier c).help)
          (near_free w c (w.carrier c) (w.own c).stage) stays wanted (level_same w v threads m.own
          (w.carrier c).help) free_is

      together : {n m : ℕ} → near_of v c ≡ n → near_of w c ≡ m → n < m → near_of v c < near_of w c
      together a e l = omega (arith, a, e, l)

  as_it_is_threads : (x : ContextName) → (taken_as_it_is w c x).threads ≡ w.threads
  as_it_is_threads (OfThread t) = refl
  as_it_is_threads (OfCarrier d) = refl

  as_it_is_moved : (x : ContextName) → HasMoved w (taken_as_it_is w c x) c (with_hand (w.carrier c) x)
  as_it_is_moved (OfThread t) = record {
    own = refl;
    carriers = refl;
    mine = upd_same w.carrier c (with_hand (w.carrier c) (OfThread t));
    others = λ d ne. upd_other w.carrier c (with_hand (w.carrier c) (OfThread t)) d ne;
  }
  as_it_is_moved (OfCarrier d) = record {
    own = refl;
    carriers = refl;
    mine = upd_same w.carrier c (with_hand (w.carrier c) (OfCarrier d));
    others = λ e ne. upd_other w.carrier c (with_hand (w.carrier c) (OfCarrier d)) e ne;
  }

  as_it_is : (x : ContextName) → is_wanted_by (taken_as_it_is w c x) c (with_hand (w.carrier c) x)
      (w.carrier c).help x ≡ true →
      looked_place w c (w.carrier c) (w.carrier c).looked ≡ 1 → Approaches w (taken_as_it_is w c x) c
  as_it_is x wanted there = taken_nearer (taken_as_it_is w c x) x (as_it_is_threads x) (as_it_is_moved x)
      wanted there

  -- a goal whose context is dead
  dead_goal : (t : ℕ) → (w.carrier c).switching ≡ false → Approaches w (taken_dead w c t) c
  dead_goal t off =
      dropped w c good alone low hand stays (taken_dead w c t) (without_goal (with_hand (w.carrier c)
      (OfThread t)))
      (record {
        own = refl;
        carriers = refl;
        mine = upd_same w.carrier c (without_goal (with_hand (w.carrier c) (OfThread t)));
        others = λ d ne. upd_other w.carrier c (without_goal (with_hand (w.carrier c) (OfThread t))) d ne;
      }) refl refl refl off (goal_there w c good alone low hand stays off)

  goal_taken : (who : ThreadId) → (w.carrier c).help ≡ None → (w.carrier c).switching ≡ false →
      (w.carrier c).goal ≡ Some who →
      w.threads.made who.number ≡ who.version → looked_place w c (w.carrier c) (w.carrier c).looked ≡ 1 →
      (k : Condition) → w.threads.condition who.number ≡ k → Moves w (taken_goal w c who.number k) c
  goal_taken who helps off goal made there k is = by k is
    where
      wanted : is_wanted_by (taken_as_it_is w c (OfThread who.number)) c (with_hand (w.carrier c)
          (OfThread who.number))
          (w.carrier c).help (OfThread who.number) ≡ true
      wanted =
          (λ z. is_wanted_by (taken_as_it_is w c (OfThread who.number)) c (with_hand (w.carrier c)
          (OfThread who.number))
          (helps z) (OfThread who.number))
          ∙ ((λ z. if off z then false else names (goal z) (owner_of w.threads who.number))
          ∙ named who (w.threads.made who.number) made)

      by : (k : Condition) → w.threads.condition who.number ≡ k → Moves w (taken_goal w c who.number k) c
      by Asleep q = wakes_goal who.number q refl
      by Dead q = approaches (dead_goal who.number off)
      by Absent q = approaches (as_it_is (OfThread who.number) wanted there)
      by Awake q = approaches (as_it_is (OfThread who.number) wanted there)
      by Ended q = approaches (as_it_is (OfThread who.number) wanted there)

  own_taken : (w.carrier c).help ≡ None → (w.carrier c).switching ≡ true →
      looked_place w c (w.carrier c) (w.carrier c).looked ≡ 1 → (t : Bool) → has_switch (w.own c).stage ≡ t →
      Moves w (taken_own w c t) c
  own_taken helps on there false e = begins_switch e refl
  own_taken helps on there true e = approaches (as_it_is (OfCarrier c) wanted there)
    where
      wanted : is_wanted_by (taken_as_it_is w c (OfCarrier c)) c (with_hand (w.carrier c) (OfCarrier c))
          (w.carrier c).help
          (OfCarrier c) ≡ true
      wanted =
          (λ z. is_wanted_by (taken_as_it_is w c (OfCarrier c)) c (with_hand (w.carrier c) (OfCarrier c))
          (helps z)
          (OfCarrier c))
          ∙ ((λ z. if on z then (c == c) else false) ∙ own_name c)

  take_by : (word : ContextWord) → (w.carrier c).looked ≡ Some word →
      (h : Option Help) (s : Bool) (o : Option ThreadId) →
      (w.carrier c).help ≡ h → (w.carrier c).switching ≡ s → (w.carrier c).goal ≡ o →
      same_word word (word_of w (context_at c (target_by h s o))) ≡ true →
      looked_place w c (w.carrier c) (w.carrier c).looked ≡ 1 → Moves w (taken w c (target_by h s o)) c
  take_by word seen (Some h) s o a e f same there = approaches (as_it_is h.context wanted there)
    where
      wanted : is_wanted_by (taken_as_it_is w c h.context) c (with_hand (w.carrier c) h.context)
          (w.carrier c).help h.context ≡
          true
      wanted =
          (λ z. is_wanted_by (taken_as_it_is w c h.context) c (with_hand (w.carrier c) h.context) (a z)
          h.context)
          ∙ same_name h.context
  take_by word seen None true o a e f same there = own_taken a e there (has_switch (w.own c).stage) refl
  take_by word seen None false (Some who) a e f same there =
      goal_taken who a e f made there (w.threads.condition who.number) refl
    where
      looked : IsLooked None (w.carrier c).switching (w.carrier c).goal word
      looked = subst (λ (h : Option Help). IsLooked h (w.carrier c).switching (w.carrier c).goal word) a
          ((good.1.carriers c).looked word seen)

      made : w.threads.made who.number ≡ who.version
      made = rest_version (w.carrier c).switching (w.carrier c).goal who
          (is_holding w c good alone hand (OfThread who.number)) (w.threads.made who.number) word
          (word_of w (OfThread who.number)) e f looked (rests w c good alone hand (OfThread who.number)) same
  take_by word seen None false None a e f same there =
      absurd (false≢true (ap is_some (sym f) ∙ goal_there w c good alone low hand stays e))

  take_moves : (word : ContextWord) → (w.carrier c).looked ≡ Some word → (t : Bool) →
      same_word word (word_of w (context_at c (target_of (w.carrier c)))) ≡ t →
      Moves w (take_step w c (target_of (w.carrier c)) t) c
  take_moves word seen false same = approaches (lost w c good alone low hand stays word seen same)
  take_moves word seen true same =
      take_by word seen (w.carrier c).help (w.carrier c).switching (w.carrier c).goal refl refl refl same
      (ap (looked_place w c (w.carrier c)) seen ∙ ap (λ (t : Bool). if t then 1 else 3) same)

  pub target_moves : (o : Option ContextWord) → (w.carrier c).looked ≡ o →
      Moves w (target_step w c (target_of (w.carrier c)) o) c
  target_moves None seen = approaches (looks w c good alone low hand stays seen)
  target_moves (Some word) seen =
      take_moves word seen (same_word word (word_of w (context_at c (target_of (w.carrier c))))) refl

-- ANY MOVE WITHOUT A HAND

pub free_moves : (w : World) (c : ℕ) (step : ThreadStep) → IsGood w → IsAlone w c → c < w.carriers →
    (w.carrier c).hand ≡ None → Moves w (carrier_step w c step) c
free_moves w c step good alone low hand = by (begins (w.carrier c)) refl
  where
    is : carrier_step w c step ≡ free_step (beginning w c (begins (w.carrier c))) c
    is = ap (carrier_step_by w c step) hand

    look_own : free_step (with_carrier w c (switching_begun (w.carrier c))) c ≡
        with_carrier (with_carrier w c (switching_begun (w.carrier c))) c
        (after_look (switching_begun (w.carrier c)) ItsOwn (word_of w (OfCarrier c)))
    look_own =
        ap (λ (k : Carrier). target_step (with_carrier w c (switching_begun (w.carrier c))) c (target_of k)
        k.looked)
        (upd_same w.carrier c (switching_begun (w.carrier c)))
        ∙ ap (λ (k : Carrier). with_carrier (with_carrier w c (switching_begun (w.carrier c))) c
        (after_look k ItsOwn (word_of w (OfCarrier c)))) (upd_same w.carrier c (switching_begun
        (w.carrier c)))

    by : (t : Bool) → begins (w.carrier c) ≡ t → Moves w (carrier_step w c step) c
    by true b =
        subst (λ (v : World). Moves w v c) (sym (is ∙ ap (λ (t : Bool). free_step (beginning w c t) c) b
        ∙ look_own))
        (approaches (begun w c good alone low hand b (word_of w (OfCarrier c))))
    by false b =
        subst (λ (v : World). Moves w v c) (sym (is ∙ ap (λ (t : Bool). free_step (beginning w c t) c) b))
        (target_moves w c good alone low hand b (w.carrier c).looked refl)
