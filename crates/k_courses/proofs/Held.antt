-- The section in hand is held up: what its step finds, whom the carrier helps then, and that no word and no other context
-- changes.
use Rattle.std.proofs.Common.{◌≡◌, ◌≢◌, ℕ, true, false, refl, sym, ap, ◌∙◌, subst, Option, Some, ◌⊎◌, inl, inr}
use Rattle.std.proofs.lemmas.Bool.{ne_eqb}
use Rattle.k_ids.specs.declared.context_word.ContextWord.{ContextWord}
use Rattle.k_ids.specs.declared.context_word.ContextWord.TheVariants.{Clean, Empty, Holds as HoldsOne, Taken}
use Rattle.k_ids.specs.declared.lock_word.LockWord.TheVariants as locked
use Rattle.k_ids.specs.declared.threads.ThreadId.{ThreadId}
use Rattle.k_ids.specs.ContextWords.{context_bits, context_word_of}
use Rattle.k_ids.specs.LockWords.{lock_bits, lock_word_of}
use Rattle.k_ids.proofs.ContextSpelled.{context-read}
use Rattle.k_ids.proofs.LockSpelled.{lock-same}
use Rattle.k_model.specs.Maps.{upd}
use Rattle.k_locks.specs.declared.locks.Lock.{Lock}
use Rattle.k_locks.specs.declared.steps.Answer.{Answer}
use Rattle.k_locks.specs.declared.steps.Answer.TheVariants as answered
use Rattle.k_locks.specs.declared.steps.Step.{Step}
use Rattle.k_locks.specs.declared.steps.Step.TheVariants as step
use Rattle.k_locks.specs.declared.steps.Told.{Told}
use Rattle.k_locks.specs.declared.steps.Told.TheVariants as told
use Rattle.k_locks.specs.Asks.{want_for, want_of}
use Rattle.k_locks.specs.Asks as asks
use Rattle.k_locks.specs.Places.{lock_number}
use Rattle.k_locks.specs.Steps.{becomes, exchanged, is_again, word_of}
use Rattle.k_script.specs.Script.{Script}
use Rattle.k_context.specs.Contexts.{ContextSeen, asked, owner_of, step_of}
use Rattle.k_carrier.specs.declared.marks.Want.{Want}
use Rattle.k_carrier.specs.declared.marks.Want.TheVariants as want
use Rattle.k_carrier.specs.declared.moves.Help.{Help}
use Rattle.k_carrier.specs.Asked.{Run, ask_of, lock_acquired, version_of}
use Rattle.k_carrier.specs.Resumed.{help_after, told_in}
use Rattle.k_carrier.specs.Seen.{HandSeen}
use Rattle.k_world.specs.Marks.{Course, HeldUp, course_by}
use Rattle.k_world.specs.Steps.{moved}
use Rattle.k_world.specs.Worlds.{Away, Guarded, Resting, Slot, World, carrier_at, resting_in}
use Rattle.k_board.specs.Boards.{Board}
use Rattle.k_bound.specs.Waits.{owner_found}
use Rattle.k_good.proofs.Owners.{Named}
use Rattle.k_marks.proofs.Contexts.{resumed_again}
use Rattle.k_places.specs.Memory.{Memory, filling_by, slot_filled, with_word, word_in}
use Rattle.k_places.specs.Shows.{Rests, Shows, Stands, context_by, context_in}
use Rattle.k_sections.specs.Situations.{holder_of}
use Rattle.k_aligned.specs.Aligned.{found_in}
use Rattle.k_turns.specs.Spelled.{ask_at}
use Rattle.k_waits.specs.Words.{found_in_help, want_in}
use Rattle.k_waits.proofs.Asking.{asked_same, asks_lock, asks_remove}
use Rattle.k_waits.proofs.Courses.{Courses, is_empty, is_others, kept, odd, onward, owned, taken}
use Rattle.k_waits.proofs.HeldUp.{own_there}
use Rattle.k_waits.proofs.Holders.{kept_holder, owned_holder}
use Rattle.k_waits.proofs.Others.{same_found}
use Rattle.k_onward.proofs.Asks.{is_lock, is_version, removing}
use Rattle.k_onward.specs.Stepping.{IsStepping}
use Rattle.k_onward.proofs.Stepping.{A, After, M, N, V, course, found_now, maps, places, was}
use Rattle.k_courses.proofs.Victims.{victims_version}

-- WHAT THE ANSWER TELLS

-- it is to be asked again
told_again : (u v : ContextSeen) (s : Step) (t : Told) (w : Want) (j : ℕ) → course_by u s (answered.Told t) ≡ HeldUp v w j →
    is_again (answered.Told t) ≡ true
told_again u v s (told.Owned i) w j e = refl
told_again u v s (told.Holds i) w j e = refl
told_again u v s (told.Taken i c) w j e = refl
told_again u v s (told.Loaded bits) w j e = absurd cc
told_again u v s told.Stored w j e = absurd cc
told_again u v s told.Won w j e = absurd cc
told_again u v s (told.Lost bits) w j e = absurd cc
told_again u v s told.Released w j e = absurd cc
told_again u v s told.Placed w j e = absurd cc
told_again u v s told.Removed w j e = absurd cc

held_again : (u v : ContextSeen) (s : Step) (a : Answer) (w : Want) (j : ℕ) → course_by u s a ≡ HeldUp v w j → is_again a ≡ true
held_again u v s (answered.Got g) w j e = absurd cc
held_again u v s (answered.Told t) w j e = told_again u v s t w j e

held_is : {u v : ContextSeen} {w x : Want} {i j : ℕ} → HeldUp u w i ≡ HeldUp v x j → (u ≡ v) × (w ≡ x) × (i ≡ j)
held_is e = (cc, cc, cc)

-- whom the carrier helps then, where a lock is owned
lock_told : (u v : ContextSeen) (l : Lock) (t : Told) (w : Want) (j : ℕ) (p : Option Help) →
    course_by u (step.Acquire l) (answered.Told t) ≡ HeldUp v w j →
    found_in_help (help_after p (Some l) (Some t)) ≡ Some (owner_found j (want_in w))
lock_told u v l (told.Owned i) w j p e =
    let is = held_is e in λ d. Some (owner_found (is.2 d) (want_in (is.1 d)))
lock_told u v l (told.Holds i) w j p e =
    let is = held_is e in λ d. Some (owner_found (is.2 d) (want_in (is.1 d)))
lock_told u v l (told.Taken i c) w j p e = absurd cc
lock_told u v l (told.Loaded bits) w j p e = absurd cc
lock_told u v l told.Stored w j p e = absurd cc
lock_told u v l told.Won w j p e = absurd cc
lock_told u v l (told.Lost bits) w j p e = absurd cc
lock_told u v l told.Released w j p e = absurd cc
lock_told u v l told.Placed w j p e = absurd cc
lock_told u v l told.Removed w j p e = absurd cc

lock_help : (u v : ContextSeen) (l : Lock) (a : Answer) (w : Want) (j : ℕ) (p : Option Help) →
    course_by u (step.Acquire l) a ≡ HeldUp v w j →
    found_in_help (help_after p (Some l) (told_in a)) ≡ Some (owner_found j (want_in w))
lock_help u v l (answered.Got g) w j p e = absurd cc
lock_help u v l (answered.Told t) w j p e = lock_told u v l t w j p e

-- and where a context is to be removed
context_told : (u v : ContextSeen) (s : Step) (t : Told) (n j : ℕ) (p : Option Help) (l : Option Lock) →
    course_by u s (answered.Told t) ≡ HeldUp v (want.Context n) j →
    found_in_help (help_after p l (Some t)) ≡ Some (owner_found j (asks.Context n))
context_told u v s (told.Holds i) n j p l e =
    let is = held_is e in let m : i ≡ n = cc in λ d. Some (owner_found (is.2 d) (asks.Context (m d)))
context_told u v s (told.Owned i) n j p l e = absurd cc
context_told u v s (told.Taken i c) n j p l e = absurd cc
context_told u v s (told.Loaded bits) n j p l e = absurd cc
context_told u v s told.Stored n j p l e = absurd cc
context_told u v s told.Won n j p l e = absurd cc
context_told u v s (told.Lost bits) n j p l e = absurd cc
context_told u v s told.Released n j p l e = absurd cc
context_told u v s told.Placed n j p l e = absurd cc
context_told u v s told.Removed n j p l e = absurd cc

context_help : (u v : ContextSeen) (s : Step) (a : Answer) (n j : ℕ) (p : Option Help) (l : Option Lock) →
    course_by u s a ≡ HeldUp v (want.Context n) j →
    found_in_help (help_after p l (told_in a)) ≡ Some (owner_found j (asks.Context n))
context_help u v s (answered.Got g) n j p l e = absurd cc
context_help u v s (answered.Told t) n j p l e = context_told u v s t n j p l e

module _ (script : Script) (w : World) (s : IsStepping script w) (x : HandSeen) (e : ask_of (carrier_at w 0) ≡ Run x)
    (v : ContextSeen) (wanted : Want) (j : ℕ)
    (held : course_by (asked (V script w s x e)) (step_of (V script w s x e)) (A script w s x e) ≡ HeldUp v wanted j) where
  abbrev Ctx : ContextSeen
  Ctx = V script w s x e

  abbrev Maps : Memory
  Maps = M script w s x e

  abbrev Then : Memory
  Then = N script w s x e

  abbrev S : Step
  S = step_of (V script w s x e)

  -- what is known of such a step
  pub record IsHeld : Type 0 where
    pub is : asked (V script w s x e) ≡ v
    pub wants : want_of (ask_at (V script w s x e)) ≡ Some (want_in wanted)
    pub locks : (n : ℕ) → Then.lock n ≡ Maps.lock n
    pub words : (n : ℕ) → Then.context n ≡ Maps.context n
    pub slots : (n : ℕ) → Then.slot n ≡ Maps.slot n
    pub help : (p : Option Help) →
        found_in_help (help_after p (lock_acquired (step_of (V script w s x e))) (told_in (A script w s x e)))
        ≡ Some (owner_found j (want_in wanted))

  pub again : is_again (A script w s x e) ≡ true
  again = held_again (asked Ctx) v S (A script w s x e) wanted j held

  -- WHAT STAYS

  exchanged_same : (old new word : ℕ) → (word ≡ old → ⊥) → exchanged old new word ≡ word
  exchanged_same old new word ne = rw (ne_eqb word old ne) refl

  at_lock : (l : Lock) (o : ℕ) → S ≡ step.Acquire l → want_for l ≡ want_in wanted →
      lock_word_of (Maps.lock (lock_number l)) ≡ locked.Owned o → asked Ctx ≡ v →
      ((p : Option Help) → found_in_help (help_after p (lock_acquired S) (told_in (A script w s x e)))
      ≡ Some (owner_found j (want_in wanted))) → IsHeld
  at_lock l o q same word is help = record {
    is = is;
    wants = ap want_of (asks_lock Ctx l q) ∙ ap Some same;
    locks = locks;
    words = λ n. ap (λ (z : Step). (with_word (word_of z) (becomes x.context z (word_in Maps (word_of z))) Maps).context n) q;
    slots = λ n. ap (λ (z : Step). slot_filled (filling_by script z (word_in Maps (word_of z))) Maps.slot n) q ∙ slot_same n;
    help = help;
  }
    where
      free : (y : ℕ) → lock_word_of y ≡ locked.Owned o → y ≡ lock_bits locked.Free → ⊥
      free y d z = let no : locked.Owned o ≡ locked.Free = sym d ∙ (lock-same y locked.Free).0 z in absurd cc

      locks : (n : ℕ) → Then.lock n ≡ Maps.lock n
      locks n =
          ap (λ (z : Step). (with_word (word_of z) (becomes x.context z (word_in Maps (word_of z))) Maps).lock n) q
          ∙ ap (λ y. upd Maps.lock (lock_number l) y n)
          (exchanged_same (lock_bits locked.Free) _ (Maps.lock (lock_number l)) (free (Maps.lock (lock_number l)) word))
          ∙ ap (λ (f : ℕ → ℕ). f n) (own_there Maps.lock (lock_number l))

      slot_same : (n : ℕ) → slot_filled (filling_by script (step.Acquire l) (Maps.lock (lock_number l))) Maps.slot n ≡ Maps.slot n
      slot_same n =
          rw (ne_eqb (Maps.lock (lock_number l)) (lock_bits locked.Free) (free (Maps.lock (lock_number l)) word)) refl

  at_removal : (id : ThreadId) → S ≡ step.Remove id → asks.Context id.number ≡ want_in wanted →
      (Maps.context id.number ≡ context_bits (Clean id.version) → ⊥) → asked Ctx ≡ v →
      ((p : Option Help) → found_in_help (help_after p (lock_acquired S) (told_in (A script w s x e)))
      ≡ Some (owner_found j (want_in wanted))) → IsHeld
  at_removal id q same apart is help = record {
    is = is;
    wants = ap want_of (asks_remove Ctx id q) ∙ ap Some same;
    locks = λ n. ap (λ (z : Step). (with_word (word_of z) (becomes x.context z (word_in Maps (word_of z))) Maps).lock n) q;
    words = λ n.
        ap (λ (z : Step). (with_word (word_of z) (becomes x.context z (word_in Maps (word_of z))) Maps).context n) q
        ∙ ap (λ y. upd Maps.context id.number y n)
        (exchanged_same (context_bits (Clean id.version)) _ (Maps.context id.number) apart)
        ∙ ap (λ (f : ℕ → ℕ). f n) (own_there Maps.context id.number);
    slots = λ n.
        ap (λ (z : Step). slot_filled (filling_by script z (word_in Maps (word_of z))) Maps.slot n) q
        ∙ rw (ne_eqb (Maps.context id.number) (context_bits (Clean id.version)) apart) refl;
    help = help;
  }

  -- a word of another code isn't that of a clean context
  not_clean : (id : ThreadId) (word : ContextWord) → S ≡ step.Remove id → context_word_of (Maps.context id.number) ≡ word →
      (word ≡ Clean id.version → ⊥) → Maps.context id.number ≡ context_bits (Clean id.version) → ⊥
  not_clean id word q d ne z =
      ne (sym d ∙ ap context_word_of z ∙ context-read (Clean id.version) (is_version script w s x e id q))

  -- by what it finds
  remove_help : (n : ℕ) → want.Context n ≡ wanted → (p : Option Help) →
      found_in_help (help_after p (lock_acquired S) (told_in (A script w s x e))) ≡ Some (owner_found j (want_in wanted))
  remove_help n same p =
      context_help (asked Ctx) v S (A script w s x e) n j p (lock_acquired S) (held ∙ ap (λ z. HeldUp v z j) (sym same))
      ∙ ap (λ z. Some (owner_found j (want_in z))) same

  owned_help : (l : Lock) → S ≡ step.Acquire l → (p : Option Help) →
      found_in_help (help_after p (lock_acquired S) (told_in (A script w s x e))) ≡ Some (owner_found j (want_in wanted))
  owned_help l q p =
      ap (λ (z : Step). found_in_help (help_after p (lock_acquired z) (told_in (A script w s x e)))) q
      ∙ lock_help (asked Ctx) v l (A script w s x e) wanted j p
      (ap (λ (z : Step). course_by (asked Ctx) z (A script w s x e)) (sym q) ∙ held)

  held_by : (c : Course) → Courses Maps (asked Ctx) S c → c ≡ HeldUp v wanted j → IsHeld
  held_by _ (onward h) z = absurd cc
  held_by _ (owned l o q word) z =
      let is = held_is z in at_lock l o q (ap want_in is.1) word is.0 (owned_help l q)
  held_by _ (kept id version q word) z =
      let is = held_is z in
      at_removal id q (ap want_in is.1) (not_clean id (HoldsOne version) q word (λ d. absurd cc)) is.0
      (remove_help id.number is.1)
  held_by _ (odd id q (is_empty word)) z =
      let is = held_is z in
      at_removal id q (ap want_in is.1) (not_clean id Empty q word (λ d. absurd cc)) is.0 (remove_help id.number is.1)
  held_by _ (odd id q (is_others version word apart)) z =
      let is = held_is z in at_removal id q (ap want_in is.1) apart is.0 (remove_help id.number is.1)
  held_by _ (taken id carrier version q word) z = absurd cc

  pub is_held : IsHeld
  is_held = held_by _ (course script w s x e) held

  -- the context in hand stays as it is, with its call begun
  pub stays_there : After script w s x e ≡ V script w s x e
  stays_there =
      resumed_again (asked Ctx) (A script w s x e) again ∙ asked_same Ctx (want_in wanted) is_held.wants

  pub others_same : (i : ℕ) → i ≢ x.context → found_in (moved script 0 w) i ≡ found_in w i
  others_same i ne =
      ap (λ (m : Memory). context_in m.context m.slot m.hand i) (maps script w s x e)
      ∙ same_found script Maps Then 0 x.context (record { context = x.context; value = After script w s x e }) refl refl
      s.before.aligned.shows.shows.places (places script w s x e) i ne (is_held.words i) (is_held.slots i)

  -- a clean context of the victim's number is the victim's
  clean_same : (id : ThreadId) (version : ℕ) → S ≡ step.Remove id → id.number ≢ x.context →
      context_word_of (Maps.context id.number) ≡ Clean version → version ≡ id.version
  clean_same id version q ne d =
      by (Maps.slot id.number) refl
      (subst (Stands Maps.slot Maps.hand id.number) d (s.before.aligned.shows.shows.places.stands id.number))
    where
      by : (y : Slot) → Maps.slot id.number ≡ y → Rests y false version → version ≡ id.version
      by (Resting u) z r =
          let there : found_in w id.number ≡ Some u = ap (context_by Maps.slot Maps.hand id.number) d ∙ ap resting_in z in
          let now : found_in (moved script 0 w) id.number ≡ Some u = others_same id.number ne ∙ there in
          let here : found_in (moved script 0 w) x.context ≡ Some Ctx = found_now script w s x e ∙ ap Some stays_there in
          sym r.1 ∙ victims_version script s.limits (moved script 0 w) s.later x.context Ctx id here
          (removing Ctx id (asks_remove Ctx id q)) u now
      by (Guarded g) z r = absurd r
      by Away z r = absurd r

  -- the context in hand isn't clean
  not_in_hand : (n version : ℕ) → context_word_of (Maps.context n) ≡ Clean version → n ≢ x.context
  not_in_hand n version d same =
      let taken_here = s.before.aligned.shows.shows.places.taken 0 x (was script w s x e) in
      let no : Clean version ≡ Taken 0 (version_of (owner_of x.value)) =
      sym d ∙ ap (λ z. context_word_of (Maps.context z)) same ∙ taken_here in
      absurd cc

  -- WHO HOLDS IT UP, on any board with the same words; or else there is no context that might

  abbrev pub HoldsUp : Type 0
  HoldsUp = (m : Memory) → ((n : ℕ) → m.lock n ≡ Maps.lock n) → ((n : ℕ) → m.context n ≡ Maps.context n) → (b : Board) →
      Shows script m b → Named b → holder_of b (want_in wanted) ≡ Some j

  pub record IsAway : Type 0 where
    pub id : ThreadId
    pub step : step_of (V script w s x e) ≡ step.Remove id
    pub number : id.number ≡ j
    pub wants : asks.Context j ≡ want_in wanted
    pub empty : context_word_of (Maps.context j) ≡ Empty

  holder_by : (c : Course) → Courses Maps (asked Ctx) S c → c ≡ HeldUp v wanted j → HoldsUp ⊎ IsAway
  holder_by _ (onward h) z = absurd cc
  holder_by _ (owned l o q word) z =
      let is = held_is z in
      inl (λ m lk ctx b sh named. ap (holder_of b) (ap want_in (sym is.1))
      ∙ owned_holder script m b named sh l o (is_lock script w s x e l q) (ap lock_word_of (lk (lock_number l)) ∙ word)
      ∙ ap Some is.2)
  holder_by _ (kept id version q word) z =
      let is = held_is z in
      inl (λ m lk ctx b sh named. ap (holder_of b) (ap want_in (sym is.1))
      ∙ kept_holder script m b named sh id.number version (ap context_word_of (ctx id.number) ∙ word) ∙ ap Some is.2)
  holder_by _ (odd id q (is_empty word)) z =
      let is = held_is z in
      inr (record {
        id = id;
        step = q;
        number = is.2;
        wants = ap asks.Context (sym is.2) ∙ ap want_in is.1;
        empty = ap (λ n. context_word_of (Maps.context n)) (sym is.2) ∙ word;
      })
  holder_by _ (odd id q (is_others version word apart)) z =
      let same = clean_same id version q (not_in_hand id.number version word) word in
      let bits = (s.before.aligned.shows.shows.places.spelled id.number).same in
      absurd (apart (sym bits ∙ ap context_bits (word ∙ ap Clean same)))
  holder_by _ (taken id carrier version q word) z = absurd cc

  pub holder : HoldsUp ⊎ IsAway
  holder = holder_by _ (course script w s x e) held
