-- Who holds up a step can be told of, and isn't the context that makes it.
use Rattle.std.proofs.Common.{◌≡◌, ℕ, ◌+◌, ◌<◌, ◌≤◌, refl, sym, ap, ◌∙◌, subst, Option, Some, None, arith}
use Rattle.std.proofs.Common.{length, ◌⊎◌, inl, inr}
use Rattle.std.specs.Prelude.{IfSome}
use Rattle.std.proofs.lemmas.Bool.{cases_lt}
use Rattle.std.proofs.lemmas.List.{get_or_past}
use Rattle.k_ids.specs.declared.context_word.ContextWord.{ContextWord}
use Rattle.k_ids.specs.declared.context_word.ContextWord.TheVariants as word
use Rattle.k_ids.specs.ContextWords.{IsContextSpelling, context_word_of}
use Rattle.k_locks.specs.declared.locks.WordName.TheVariants as name
use Rattle.k_locks.specs.declared.steps.Answer.{Answer}
use Rattle.k_locks.specs.declared.steps.Answer.TheVariants as answer
use Rattle.k_locks.specs.declared.steps.Step.{Step}
use Rattle.k_locks.specs.declared.steps.Told.TheVariants as told
use Rattle.k_locks.specs.Steps.{answer_of, word_of}
use Rattle.k_script.specs.Script.{Script}
use Rattle.k_context.specs.Contexts.{ContextSeen, begun, step_of}
use Rattle.k_context.specs.Contexts as contexts
use Rattle.k_carrier.specs.declared.marks.Want.{Want}
use Rattle.k_carrier.specs.declared.moves.Help.{Help}
use Rattle.k_carrier.specs.Answers as answers
use Rattle.k_carrier.specs.Asked.{CarrierAsk, LookAt, PutDown, Run, Take, ask_of, asked_by, move_by}
use Rattle.k_carrier.specs.Resumed.{help_after, resumed, told_in}
use Rattle.k_carrier.specs.Rules.{readied}
use Rattle.k_carrier.specs.Seen.{CarrierSeen, HandSeen, new_carrier}
use Rattle.k_store.specs.Conditions.{IsNumber}
use Rattle.k_world.specs.Marks.{Course, HeldUp, course_by, course_of}
use Rattle.k_world.specs.Moves.{answer_by, goods_for}
use Rattle.k_world.specs.Steps.{course_in, moved, step_in}
use Rattle.k_world.specs.Worlds.{World, carrier_at, resting_in, word_at}
use Rattle.k_world.proofs.Worlds.{sized_moved}
use Rattle.k_places.specs.Memory.{Memory, at, memory_of}
use Rattle.k_places.specs.Shows.{IsInHand as IsHeldAs, Stands, context_by}
use Rattle.k_places.proofs.Raw.{word_is}
use Rattle.k_joint.proofs.Runs.{hand_is}
use Rattle.k_aligned.specs.Aligned.{found_in}
use Rattle.k_running.specs.Running.{KernelHolds}
use Rattle.k_running.specs.Turning.{CanFind, IsElsewhere, IsInHand, IsKnown, IsThere, RestsSound, context_word_at}
use Rattle.k_running.proofs.Kernel.{HasMoved}
use Rattle.k_running.proofs.Threads.{Next, next_at}

-- WHAT IS HELD UP: a step whose answer tells who has to be helped

-- the answer tells this number
abbrev pub Tells : Answer → ℕ → Type 0
Tells a i = (told_in a ≡ Some (told.Owned i)) ⊎ (told_in a ≡ Some (told.Holds i))

told_by : (v u : ContextSeen) (s : Step) (a : Answer) (wants : Want) (i : ℕ) → course_by v s a ≡ HeldUp u wants i → Tells a i
told_by v u s (answer.Got g) wants i e = absurd cc
told_by v u s (answer.Told (told.Owned o)) wants i e = let z : o ≡ i = cc in inl (ap (λ k. Some (told.Owned k)) z)
told_by v u s (answer.Told (told.Holds o)) wants i e = let z : o ≡ i = cc in inr (ap (λ k. Some (told.Holds k)) z)
told_by v u s (answer.Told (told.Taken o d)) wants i e = absurd cc
told_by v u s (answer.Told (told.Loaded bits)) wants i e = absurd cc
told_by v u s (answer.Told told.Stored) wants i e = absurd cc
told_by v u s (answer.Told told.Won) wants i e = absurd cc
told_by v u s (answer.Told (told.Lost bits)) wants i e = absurd cc
told_by v u s (answer.Told told.Released) wants i e = absurd cc
told_by v u s (answer.Told told.Placed) wants i e = absurd cc
told_by v u s (answer.Told told.Removed) wants i e = absurd cc

module _ (script : Script) (w : World) (c : ℕ) where
  abbrev K : CarrierSeen
  K = carrier_at w c

  -- the answer to a step of what the carrier has in hand
  abbrev pub Heard : HandSeen → Answer
  Heard x = answer_of (step_of (begun script x.value)) (word_at w (word_of (step_of (begun script x.value))))
      (goods_for w (step_of (begun script x.value)))

  pub record IsHeldUp (i : ℕ) : Type 0 where
    pub hand : HandSeen
    pub asks : ask_of K ≡ Run hand
    pub tells : Tells (Heard hand) i

  abbrev CourseOf : CarrierAsk → Course
  CourseOf a = course_of (asked_by script K a).hand (move_by script K a) (answer_by w (move_by script K a))

  pub held_up : (v : ContextSeen) (wants : Want) (i : ℕ) → course_in (step_in script c w) ≡ HeldUp v wants i → IsHeldUp i
  unfolding step_in
  held_up v wants i e = by (ask_of K) refl e
    where
      still : (o : Option HandSeen) (n : ℕ) → course_of o (move_by script K (LookAt n)) (answer_by w (move_by script K (LookAt n))) ≡
          HeldUp v wants i → IsHeldUp i
      still None n q = absurd cc
      still (Some x) n q = absurd cc

      takes : (o : Option HandSeen) (n bits : ℕ) →
          course_of o (move_by script K (Take n bits)) (answer_by w (move_by script K (Take n bits))) ≡ HeldUp v wants i → IsHeldUp i
      takes None n bits q = absurd cc
      takes (Some x) n bits q = absurd cc

      by : (a : CarrierAsk) → ask_of K ≡ a → CourseOf a ≡ HeldUp v wants i → IsHeldUp i
      by (Run x) asks q = record {
        hand = x;
        asks = asks;
        tells = told_by (contexts.asked (begun script x.value)) v (step_of (begun script x.value)) (Heard x) wants i q;
      }
      by (PutDown x) asks q = absurd cc
      by (LookAt n) asks q = still (readied K).hand n q
      by (Take n bits) asks q = takes (readied K).hand n bits q

-- WHERE IT IS

module _ (script : Script) (w : World) (h : KernelHolds script w) where
  abbrev M : Memory
  M = memory_of w

  some : {A : Type 0} {x y : A} → Some x ≡ Some y → x ≡ y
  some e = cc

  -- who has something in hand is one of the carriers
  inside : (d : ℕ) (x : HandSeen) → (carrier_at w d).hand ≡ Some x → d < length w.carriers
  inside d x e = elim (cases_lt d (length w.carriers)) [
    | inl l ↦ l
    | inr l ↦
        let no : None ≡ Some x = sym (ap (λ (k : CarrierSeen). k.hand) (get_or_past w.carriers d (new_carrier 0 0) l)) ∙ e in
        absurd cc
  ]

  known : (d i version : ℕ) (o : Option HandSeen) → M.hand d ≡ o → IsHeldAs o i version → IsKnown script w d
  known d i version None e z = absurd z
  known d i version (Some x) e z =
      let low = inside d x (sym (hand_is w d) ∙ e) in record { inside = low; sound = (h.aligned.carriers d low).sound }

  rests : (i : ℕ) → found_in w i ≡ resting_in (M.slot i) → RestsSound script w i
  unfolding at
  rests i e = by (resting_in (M.slot i)) refl
    where
      by : (o : Option ContextSeen) → resting_in (M.slot i) ≡ o → IfSome o (contexts.IsSound script)
      by None q = tt
      by (Some v) q = (h.aligned.contexts i v (e ∙ q)).1

  there : (i : ℕ) (l : ContextWord) → context_word_of (M.context i) ≡ l → IsThere script w i l
  there i (word.Taken d version) e =
      known d i version (M.hand d) refl (subst (Stands M.slot M.hand i) e (h.aligned.shows.shows.places.stands i))
  there i (word.Clean version) e = rests i (ap (context_by M.slot M.hand i) e)
  there i (word.Holds version) e = rests i (ap (context_by M.slot M.hand i) e)
  there i word.Empty e = tt

  word_same : (i : ℕ) → word_at w (name.Context i) ≡ M.context i
  word_same i = word_is w (name.Context i)

  pub can_find : (i : ℕ) → IsNumber i → CanFind script w i
  can_find i number = record {
    number = number;
    spelled = subst IsContextSpelling (sym (word_same i)) (h.aligned.shows.shows.places.spelled i);
    there = there i (context_word_at w i) (ap context_word_of (sym (word_same i)));
  }

  -- it isn't in the carrier's hand, if that has another context
  pub elsewhere : (c i : ℕ) (x : HandSeen) → (carrier_at w c).hand ≡ Some x → (x.context ≡ i → ⊥) → IsElsewhere c w i
  elsewhere c i x e apart = by (context_word_at w i) (ap context_word_of (sym (word_same i)))
    where
      mine : (d version : ℕ) (o : Option HandSeen) → M.hand d ≡ o → IsHeldAs o i version → d ≡ c → ⊥
      mine d version None q z same = z
      mine d version (Some y) q z same =
          apart (ap (λ (k : HandSeen). k.context) (some (sym e ∙ sym (hand_is w c) ∙ ap M.hand (sym same) ∙ q)) ∙ z.0)

      by : (l : ContextWord) → context_word_of (M.context i) ≡ l → IsInHand (λ d. d ≡ c → ⊥) l
      by (word.Taken d version) q =
          mine d version (M.hand d) refl (subst (Stands M.slot M.hand i) q (h.aligned.shows.shows.places.stands i))
      by (word.Clean version) q = tt
      by (word.Holds version) q = tt
      by word.Empty q = tt

  -- HOW LOW ITS NUMBER IS: the carrier helps it then

  module _ (c : ℕ) (low : c < length w.carriers) (after : HasMoved script (moved script c w)) (few : script.table ≤ 64) where
    helps_then : (x : HandSeen) → ask_of (carrier_at w c) ≡ Run x → (i : ℕ) → Tells (Heard script w c x) i →
        (p : Help) × ((Next script w c low).help ≡ Some p) × (p.context ≡ i)
    helps_then x asks i t = elim t [
      | inl e ↦ (_, helped ∙ ap (help_after (carrier_at w c).help _) e, refl)
      | inr e ↦ (_, helped ∙ ap (help_after (carrier_at w c).help _) e, refl)
    ]
      where
        helped : (Next script w c low).help ≡
            (resumed (asked_by script (carrier_at w c) (Run x)) (answers.Section (Heard script w c x))).help
        helped =
            λ d. (resumed (asked_by script (carrier_at w c) (asks d)) (answer_by w (move_by script (carrier_at w c) (asks d)))).help

    pub number_small : (x : HandSeen) → ask_of (carrier_at w c) ≡ Run x → (i : ℕ) → Tells (Heard script w c x) i → IsNumber i
    number_small x asks i t =
        let p = helps_then x asks i t in
        let size : length (moved script c w).carriers ≤ 8 = after.matched.few in
        let here : c < length (moved script c w).carriers = same_low in
        let within : p.0.context < script.table + length (moved script c w).carriers =
        subst (λ o. IfSome o (λ q. q.context < script.table + length (moved script c w).carriers)) p.1
        (subst (λ (k : CarrierSeen). IfSome k.help (λ q. q.context < script.table + length (moved script c w).carriers))
        (next_at script w c low) (after.helps c here)) in
        let same = p.2 in omega (arith, size, few, within, same)
      where
        same_low : c < length (moved script c w).carriers
        same_low = subst (λ k. c < k) (sym (sized_moved script c w).carriers) low
