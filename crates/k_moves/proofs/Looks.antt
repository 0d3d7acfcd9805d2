-- A carrier without a hand looks at the context that it is to take.
use Rattle.std.proofs.Common.{◌≡◌, ◌≢◌, ℕ, ◌<◌, ◌≤◌, ◌==◌, Bool, true, false, not, refl}
use Rattle.std.proofs.Common.{sym, ap, ◌∙◌, subst, Option, Some, None, arith, inl, inr}
use Rattle.std.specs.Prelude.{if◌then◌else◌, IfSome}
use Rattle.std.proofs.lemmas.Bool.Decides.{eqb_tells, nat_tests}
use Rattle.k_ids.specs.declared.context_word.ContextWord.{ContextWord}
use Rattle.k_ids.specs.declared.context_word.ContextWord.TheVariants as word
use Rattle.k_ids.specs.ContextWords.{context_word_of}
use Rattle.k_shown.proofs.States.{upd_twice}
use Rattle.k_model.proofs.Maps.{upd_same}
use Rattle.k_script.specs.Script.{Script}
use Rattle.k_carrier.specs.declared.carrier.Target.{Target}
use Rattle.k_carrier.specs.declared.carrier.Target.TheVariants as target
use Rattle.k_carrier.specs.declared.moves.Awaits.TheVariants as awaits
use Rattle.k_carrier.specs.Answers as answer
use Rattle.k_carrier.specs.Asked.{CarrierAsk, LookAt, PutDown, Run, Take, ask_at, ask_of, ask_with, asked, asked_by}
use Rattle.k_carrier.specs.Resumed as carriers
use Rattle.k_carrier.specs.Rules.{begins, context_at, gives, readied, target_of, target_with}
use Rattle.k_carrier.specs.Seen.{CarrierSeen, HandSeen}
use Rattle.k_tokens.specs.World.{World, with_carrier}
use Rattle.k_tokens.specs.World as tokens
use Rattle.k_tokens.specs.Steps.{FindsTaken, ThreadStep, without_goal}
use Rattle.k_tokens.specs.Good.{IsGood}
use Rattle.k_switching.proofs.Rules.{step_good}
use Rattle.k_moves.proofs.Names.{name_inside}
use Rattle.k_moves.proofs.Replaced.{replaced_good}
use Rattle.k_switching.specs.Rules as rules
use Rattle.k_grants.specs.Views.{name_by, name_of}
use Rattle.k_moves.specs.Views.{IsViewed, carrier_view, goal_in, number_in, readied_by, target_in, word_in}
use Rattle.k_moves.specs.Moved.{IsGiven, IsGoalGiven, is_replaced}
use Rattle.k_switch.specs.declared.goal.Goal.{Goal}
use Rattle.k_carrier.specs.declared.moves.Help.{Help}
use Rattle.k_moves.proofs.Rules.{place_same, readied_same, target_same}

-- WHAT WAS ASKED FOR

not_held : (h : HandSeen) (t : Bool) (a : CarrierAsk) → (if t then PutDown h else Run h) ≡ a →
    ((x : HandSeen) → a ≡ PutDown x → ⊥) → ((x : HandSeen) → a ≡ Run x → ⊥) → ⊥
not_held h true a e p r = p h (sym e)
not_held h false a e p r = r h (sym e)

-- without a hand, and with such a word looked at
pub record AsksAt (k : CarrierSeen) (n : ℕ) (word : Option ℕ) : Type 0 where
  pub free : k.hand ≡ None
  pub looked : (readied k).looked ≡ word
  pub place : context_at (readied k) (target_of (readied k)) ≡ n

pub look_asks : (k : CarrierSeen) (n : ℕ) → ask_of k ≡ LookAt n → AsksAt k n None
look_asks k n e = by k.hand refl e
  where
    at : (s : Option ℕ) → (readied k).looked ≡ s → k.hand ≡ None → ask_at (readied k) s ≡ LookAt n → AsksAt k n None
    at None q h z = record { free = h; looked = q; place = cc }
    at (Some bits) q h z = absurd cc

    by : (o : Option HandSeen) → k.hand ≡ o → ask_with k o ≡ LookAt n → AsksAt k n None
    by None q z = at (readied k).looked refl q z
    by (Some x) q z = absurd (not_held x (gives k x) (LookAt n) z (λ y d. absurd cc) (λ y d. absurd cc))

pub take_asks : (k : CarrierSeen) (n bits : ℕ) → ask_of k ≡ Take n bits → AsksAt k n (Some bits)
take_asks k n bits e = by k.hand refl e
  where
    at : (s : Option ℕ) → (readied k).looked ≡ s → k.hand ≡ None → ask_at (readied k) s ≡ Take n bits → AsksAt k n (Some bits)
    at None q h z = absurd cc
    at (Some other) q h z = record { free = h; looked = q ∙ (let y : other ≡ bits = cc in ap Some y); place = cc }

    by : (o : Option HandSeen) → k.hand ≡ o → ask_with k o ≡ Take n bits → AsksAt k n (Some bits)
    by None q z = at (readied k).looked refl q z
    by (Some x) q z = absurd (not_held x (gives k x) (Take n bits) z (λ y d. absurd cc) (λ y d. absurd cc))

-- BEFORE THE MOVE it begins to switch, where it does.

abbrev pub Readied : World → CarrierSeen → World
Readied w k = rules.beginning w k.number (rules.begins (w.carrier k.number))

pub step_free : (w : World) (k : CarrierSeen) (s : ThreadStep) → IsViewed w k → k.hand ≡ None →
    rules.carrier_step w k.number s ≡ rules.free_step (Readied w k) k.number
step_free w k s v h =
    ap (rules.carrier_step_by w k.number s) (ap (λ (c : tokens.Carrier). c.hand) v ∙ ap (λ o. name_by k.table (number_in o)) h)

-- with another carrier put in its place, nothing is left of that
pub readied_over : (w : World) (k : CarrierSeen) (c : tokens.Carrier) →
    with_carrier (Readied w k) k.number c ≡ with_carrier w k.number c
readied_over w k c = by (rules.begins (w.carrier k.number))
  where
    by : (t : Bool) → with_carrier (rules.beginning w k.number t) k.number c ≡ with_carrier w k.number c
    by true = λ z. record w { carrier = upd_twice w.carrier k.number (rules.switching_begun (w.carrier k.number)) c z }
    by false = refl

pub readied_viewed : (w : World) (k : CarrierSeen) → IsViewed w k → (Readied w k).carrier k.number ≡ carrier_view (readied k)
readied_viewed w k v =
    by (rules.begins (w.carrier k.number)) ∙ (λ z. readied_by (rules.begins (v z)) (v z)) ∙ sym (readied_same k)
  where
    by : (t : Bool) → (rules.beginning w k.number t).carrier k.number ≡ readied_by t (w.carrier k.number)
    by true = upd_same w.carrier k.number (rules.switching_begun (w.carrier k.number))
    by false = refl

pub readied_word : (w : World) (k : CarrierSeen) (c : tokens.ContextName) → rules.word_of (Readied w k) c ≡ rules.word_of w c
readied_word w k c = by (rules.begins (w.carrier k.number)) c
  where
    by : (t : Bool) (c : tokens.ContextName) → rules.word_of (rules.beginning w k.number t) c ≡ rules.word_of w c
    by true (tokens.OfThread n) = refl
    by true (tokens.OfCarrier d) = refl
    by false c = refl

-- what stays of it
pub record IsReadied (k j : CarrierSeen) : Type 0 where
  pub number : j.number ≡ k.number
  pub table : j.table ≡ k.table
  pub goal : j.goal ≡ k.goal
  pub starts : j.starts ≡ k.starts

pub readied_is : (k : CarrierSeen) → IsReadied k (readied k)
readied_is k = by (begins k)
  where
    by : (t : Bool) → IsReadied k (if t then record k { switching = true; help = None; looked = None } else k)
    by true = record { number = refl; table = refl; goal = refl; starts = refl }
    by false = record { number = refl; table = refl; goal = refl; starts = refl }

-- WHAT A LOOK MAKES OF IT

abbrev HasVersion : Target → Type 0
HasVersion (target.GoalOf g) = 1 ≤ g.id.version
HasVersion (target.Helped n) = Unit {0}
HasVersion target.Own = Unit {0}

pub has_version : (k : CarrierSeen) → IsGoalGiven k.table k.goal → HasVersion (target_of k)
has_version k h = by k.help k.switching k.goal h
  where
    by : (p : Option Help) (s : Bool) (g : Option Goal) → IsGoalGiven k.table g → HasVersion (target_with p s g)
    by (Some p) s g i = tt
    by None true g i = tt
    by None false None i = tt
    by None false (Some g) i = i.1

pub inside_goal : (k : CarrierSeen) → IsGoalGiven k.table k.goal → IfSome k.goal (λ (g : Goal). g.id.number < k.table)
inside_goal k h = by k.goal h
  where
    by : (o : Option Goal) → IsGoalGiven k.table o → IfSome o (λ (g : Goal). g.id.number < k.table)
    by None h = tt
    by (Some g) h = h.0

module _ (k : CarrierSeen) (bits : ℕ) where
  pub look_viewed : (t : Target) (l : ContextWord) → context_word_of bits ≡ l → HasVersion t → is_replaced t l ≡ false →
      rules.after_look (carrier_view k) (target_in k.table t) l ≡ carrier_view (carriers.after_look k t l bits)
  look_viewed (target.Helped n) word.Empty e v r = refl
  look_viewed (target.Helped n) (word.Clean m) e v r = refl
  look_viewed (target.Helped n) (word.Holds m) e v r = λ z. record (carrier_view k) { looked = Some (sym e z) }
  look_viewed (target.Helped n) (word.Taken d m) e v r = refl
  look_viewed target.Own word.Empty e v r = refl
  look_viewed target.Own (word.Clean m) e v r = λ z. record (carrier_view k) { looked = Some (sym e z) }
  look_viewed target.Own (word.Holds m) e v r = λ z. record (carrier_view k) { looked = Some (sym e z) }
  look_viewed target.Own (word.Taken d m) e v r = refl
  look_viewed (target.GoalOf g) word.Empty e v r = by (0 == g.id.version) refl
    where
      by : (t : Bool) → (0 == g.id.version) ≡ t → without_goal (carrier_view k) ≡
          carrier_view (if t then k else record k { goal = None })
      by true q = absurd (grind (arith, nat_tests, v, q))
      by false q = refl
  look_viewed (target.GoalOf g) (word.Clean m) e v r = by (m == g.id.version)
    where
      by : (t : Bool) → rules.looking_if t (carrier_view k) (word.Clean m) ≡
          carrier_view (if t then record k { looked = Some bits } else record k { goal = None })
      by true = λ z. record (carrier_view k) { looked = Some (sym e z) }
      by false = refl
  look_viewed (target.GoalOf g) (word.Holds m) e v r = by (m == g.id.version)
    where
      by : (t : Bool) → rules.looking_if t (carrier_view k) (word.Holds m) ≡
          carrier_view (if t then record k { looked = Some bits } else record k { goal = None })
      by true = λ z. record (carrier_view k) { looked = Some (sym e z) }
      by false = refl
  look_viewed (target.GoalOf g) (word.Taken d m) e v r = by (m == g.id.version) r
    where
      by : (t : Bool) → not t ≡ false → carrier_view k ≡ carrier_view (if t then k else record k { goal = None })
      by true q = refl
      by false q = absurd cc

  replaced_viewed : (t : Target) (l : ContextWord) → is_replaced t l ≡ true →
      carrier_view (carriers.after_look k t l bits) ≡ without_goal (carrier_view k)
  replaced_viewed (target.GoalOf g) (word.Taken d m) r = by (m == g.id.version) r
    where
      by : (t : Bool) → not t ≡ true → carrier_view (if t then k else record k { goal = None }) ≡ without_goal (carrier_view k)
      by true q = absurd cc
      by false q = refl
  replaced_viewed (target.GoalOf g) word.Empty r = absurd cc
  replaced_viewed (target.GoalOf g) (word.Clean m) r = absurd cc
  replaced_viewed (target.GoalOf g) (word.Holds m) r = absurd cc
  replaced_viewed (target.Helped n) l r = absurd cc
  replaced_viewed target.Own l r = absurd cc

module _ (script : Script) (w : World) (k : CarrierSeen) (n bits : ℕ) (s : ThreadStep) (viewed : IsViewed w k) (given : IsGiven k)
    (asks : ask_of k ≡ LookAt n) (found : rules.word_of w (name_of k.table n) ≡ context_word_of bits) where
  J : CarrierSeen
  J = readied k

  at : AsksAt k n None
  at = look_asks k n asks

  is : IsReadied k (readied k)
  is = readied_is k

  inside : IsGoalGiven (readied k).table (readied k).goal
  inside = subst (λ m. IsGoalGiven m (readied k).goal) (sym is.table) (subst (IsGoalGiven k.table) (sym is.goal) given.goal)

  place : rules.context_at k.number (rules.target_of (carrier_view (readied k))) ≡ name_of k.table n
  place =
      ap (λ m. rules.context_at m (rules.target_of (carrier_view (readied k)))) (sym is.number)
      ∙ place_same (readied k) (inside_goal (readied k) inside) ∙ (λ z. name_of (is.table z) (at.place z))

  -- a look, as it is before the move
  abbrev Look : tokens.Carrier → tokens.Carrier
  Look c = rules.after_look c (rules.target_of c) (rules.word_of (Readied w k) (rules.context_at k.number (rules.target_of c)))

  abbrev R : World
  R = Readied w k

  unseen : (R.carrier k.number).looked ≡ None
  unseen = ap (λ (c : tokens.Carrier). c.looked) (readied_viewed w k viewed) ∙ ap word_in at.looked

  looked_so : rules.carrier_step w k.number s ≡ with_carrier w k.number
      (rules.after_look (carrier_view (readied k)) (target_in (readied k).table (target_of (readied k))) (context_word_of bits))
  looked_so =
      step_free w k s viewed at.free ∙ ap (rules.target_step R k.number (rules.target_of (R.carrier k.number))) unseen
      ∙ readied_over w k (Look (R.carrier k.number)) ∙ ap (λ c. with_carrier w k.number (Look c)) (readied_viewed w k viewed)
      ∙ (λ z. with_carrier w k.number (rules.after_look (carrier_view (readied k)) (rules.target_of (carrier_view (readied k)))
      (seen z))) ∙ (λ z. with_carrier w k.number (rules.after_look (carrier_view (readied k)) (target_same (readied k) z)
      (context_word_of bits)))
    where
      seen : rules.word_of R (rules.context_at k.number (rules.target_of (carrier_view (readied k)))) ≡ context_word_of bits
      seen = ap (rules.word_of R) place ∙ readied_word w k (name_of k.table n) ∙ found

  asked_is : carrier_view (carriers.resumed (asked script k) (answer.Looked bits)) ≡
      carrier_view (carriers.after_look (readied k) (target_of (readied k)) (context_word_of bits) bits)
  asked_is =
      ap (λ a. carrier_view (carriers.resumed (asked_by script k a) (answer.Looked bits))) asks
      ∙ by (target_of (readied k)) (context_word_of bits)
    where
      seen_as : (l : ContextWord) → carrier_view (carriers.seen
          (carriers.heard (record (readied k) { awaits = awaits.Look })) l bits) ≡
          carrier_view (carriers.seen (readied k) l bits)
      seen_as word.Empty = refl
      seen_as (word.Clean v) = refl
      seen_as (word.Holds v) = refl
      seen_as (word.Taken d v) = refl

      goal : (t : Bool) (l : ContextWord) → carrier_view (if t then carriers.seen
          (carriers.heard (record (readied k) { awaits = awaits.Look })) l bits else record (carriers.heard
          (record (readied k) { awaits = awaits.Look })) { goal = None }) ≡
          carrier_view (if t then carriers.seen (readied k) l bits else record (readied k) { goal = None })
      goal true l = seen_as l
      goal false l = refl

      by : (t : Target) (l : ContextWord) → carrier_view (carriers.after_look
          (carriers.heard (record (readied k) { awaits = awaits.Look })) t l bits) ≡
          carrier_view (carriers.after_look (readied k) t l bits)
      by (target.Helped m) word.Empty = refl
      by (target.Helped m) (word.Clean v) = refl
      by (target.Helped m) (word.Holds v) = refl
      by (target.Helped m) (word.Taken d v) = refl
      by target.Own word.Empty = refl
      by target.Own (word.Clean v) = refl
      by target.Own (word.Holds v) = refl
      by target.Own (word.Taken d v) = refl
      by (target.GoalOf g) word.Empty = goal (0 == g.id.version) word.Empty
      by (target.GoalOf g) (word.Clean v) = goal (v == g.id.version) (word.Clean v)
      by (target.GoalOf g) (word.Holds v) = goal (v == g.id.version) (word.Holds v)
      by (target.GoalOf g) (word.Taken d v) = goal (v == g.id.version) (word.Taken d v)

  pub look_same : is_replaced (target_of (readied k)) (context_word_of bits) ≡ false →
      rules.carrier_step w k.number s ≡ with_carrier w k.number
      (carrier_view (carriers.resumed (asked script k) (answer.Looked bits)))
  look_same r =
      looked_so ∙ ap (with_carrier w k.number) (look_viewed (readied k) bits (target_of (readied k)) (context_word_of bits) refl
      (has_version (readied k) inside) r ∙ sym asked_is)

  pub look_drops : is_replaced (target_of (readied k)) (context_word_of bits) ≡ true →
      carrier_view (carriers.resumed (asked script k) (answer.Looked bits)) ≡ without_goal (carrier_view (readied k))
  look_drops r = asked_is ∙ replaced_viewed (readied k) bits (target_of (readied k)) (context_word_of bits) r

-- THE WORLD STAYS GOOD

-- the goal's context is another thread's, in another's hand
pub record IsGone (k : CarrierSeen) (l : ContextWord) : Type 0 where
  pub goal : Goal
  pub carrier : ℕ
  pub version : ℕ
  pub is : k.goal ≡ Some goal
  pub off : k.switching ≡ false
  pub word : l ≡ word.Taken carrier version
  pub other : version ≢ goal.id.version
  pub same : readied k ≡ k
  pub place : context_at (readied k) (target_of (readied k)) ≡ goal.id.number

gone_at : (j : CarrierSeen) (p : Option Help) (s : Bool) (o : Option Goal) (l : ContextWord) →
    is_replaced (target_with p s o) l ≡ true → (g : Goal) × (d : ℕ) × (v : ℕ) × (o ≡ Some g) × (s ≡ false) ×
    (l ≡ word.Taken d v) × (v ≢ g.id.version) × (context_at j (target_with p s o) ≡ g.id.number)
gone_at j (Some p) s o l r = absurd cc
gone_at j None true o l r = absurd cc
gone_at j None false None l r = absurd cc
gone_at j None false (Some g) word.Empty r = absurd cc
gone_at j None false (Some g) (word.Clean v) r = absurd cc
gone_at j None false (Some g) (word.Holds v) r = absurd cc
gone_at j None false (Some g) (word.Taken d v) r = (
  g,
  d,
  v,
  refl,
  refl,
  refl,
  elim (eqb_tells v g.id.version) [
    | inl x ↦
        absurd (let q : false ≡ true = sym (ap not x.0) ∙ r in cc)
    | inr x ↦ x.1
  ],
  refl,
)

pub gone_is : (k : CarrierSeen) (l : ContextWord) → is_replaced (target_of (readied k)) l ≡ true → IsGone k l
gone_is k l r = by (begins k) refl r
  where
    by : (t : Bool) → begins k ≡ t → is_replaced (target_of
        (if t then record k { switching = true; help = None; looked = None } else k)) l ≡ true → IsGone k l
    by true q z = absurd cc
    by false q z =
        let g = gone_at k k.help k.switching k.goal l z in let same : readied k ≡ k =
        ap (λ (t : Bool). if t then record k { switching = true; help = None; looked = None } else k) q in
        record {
          goal = g.0;
          carrier = g.1;
          version = g.2;
          is = g.3;
          off = g.4;
          word = g.5;
          other = g.6;
          same = same;
          place = ap (λ (j : CarrierSeen). context_at j (target_of j)) same ∙ g.7;
        }

module _ (script : Script) (w : World) (k : CarrierSeen) (n bits : ℕ) (viewed : IsViewed w k) (given : IsGiven k)
    (asks : ask_of k ≡ LookAt n) (found : rules.word_of w (name_of k.table n) ≡ context_word_of bits) (good : IsGood w)
    (few : k.number < w.carriers) where
  empty : (w.carrier k.number).hand ≡ None
  empty = ap (λ (c : tokens.Carrier). c.hand) viewed ∙ ap (λ o. name_by k.table (number_in o)) (look_asks k n asks).free

  pub look_keeps : IsGood (with_carrier w k.number (carrier_view (carriers.resumed (asked script k) (answer.Looked bits))))
  look_keeps = by (is_replaced (target_of (readied k)) (context_word_of bits)) refl
    where
      by : (t : Bool) → is_replaced (target_of (readied k)) (context_word_of bits) ≡ t →
          IsGood (with_carrier w k.number (carrier_view (carriers.resumed (asked script k) (answer.Looked bits))))
      by false r =
          subst IsGood (look_same script w k n bits FindsTaken viewed given asks found r)
          (step_good w k.number FindsTaken good few (λ t a. absurd
          (let z : None ≡ Some (tokens.OfThread t) = sym empty ∙ a.hand in cc)))
      by true r =
          subst IsGood (ap (with_carrier w k.number) (ap without_goal (viewed ∙ ap carrier_view (sym g.same))
          ∙ sym (look_drops script w k n bits FindsTaken viewed given asks found r)))
          (replaced_good w k.number g.goal.id g.carrier g.version good goal off empty unseen there g.other)
        where
          g : IsGone k (context_word_of bits)
          g = gone_is k (context_word_of bits) r

          goal : (w.carrier k.number).goal ≡ Some g.goal.id
          goal = ap (λ (c : tokens.Carrier). c.goal) viewed ∙ ap goal_in g.is

          off : (w.carrier k.number).switching ≡ false
          off = ap (λ (c : tokens.Carrier). c.switching) viewed ∙ g.off

          unseen : (w.carrier k.number).looked ≡ None
          unseen =
              ap (λ (c : tokens.Carrier). c.looked) viewed ∙ ap word_in
              (ap (λ (j : CarrierSeen). j.looked) (sym g.same) ∙ (look_asks k n asks).looked)

          number : n ≡ g.goal.id.number
          number = sym (look_asks k n asks).place ∙ g.place

          small : g.goal.id.number < k.table
          small = (subst (IsGoalGiven k.table) g.is given.goal).0

          there : rules.word_of w (tokens.OfThread g.goal.id.number) ≡ word.Taken g.carrier g.version
          there =
              ap (rules.word_of w) (sym (name_inside k.table g.goal.id.number small) ∙ ap (name_of k.table) (sym number)) ∙ found
              ∙ g.word
