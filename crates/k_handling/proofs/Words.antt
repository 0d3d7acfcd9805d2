-- In whose hand a context is, and its word: what the words of the raw world tell is what the good world has.
use Rattle.std.proofs.Common.{◌≡◌, ℕ, ◌+◌, ◌-◌, ◌<◌, ◌≤◌, Bool, true, false, length, refl, sym, ap, ◌∙◌}
use Rattle.std.proofs.Common.{subst, Option, Some, None, arith, ◌⊎◌, inl, inr}
use Rattle.std.specs.Prelude.{if◌then◌else◌}
use Rattle.std.proofs.lemmas.Bool.{cases_lt, eqb-true}
use Rattle.std.proofs.lemmas.Bool.Decides.{nat_tests}
use Rattle.std.proofs.lemmas.List.{get_or_past}
use Rattle.k_ids.specs.declared.context_word.ContextWord.{ContextWord}
use Rattle.k_ids.specs.declared.context_word.ContextWord.TheVariants.{Empty, Clean, Holds, Taken}
use Rattle.k_ids.specs.ContextWords.{context_word_of}
use Rattle.k_model.specs.State.{KernelState}
use Rattle.k_script.specs.Script.{Script}
use Rattle.k_caller.specs.declared.activity.Activity.{Activity}
use Rattle.k_caller.specs.declared.activity.Activity.TheVariants as activity
use Rattle.k_caller.specs.declared.thread.ThreadLocation.TheVariants as location
use Rattle.k_context.specs.Contexts.{ContextSeen, Thread, Carrier, locks_of, owner_of}
use Rattle.k_carrier.specs.Asked.{version_of}
use Rattle.k_carrier.specs.Rules.{holds_any}
use Rattle.k_carrier.specs.Seen.{CarrierSeen, HandSeen, new_carrier}
use Rattle.k_world.specs.Worlds.{Slot, World, Guarded, Away, carrier_at, resting_in, held_in}
use Rattle.k_world.specs.Worlds as raw
use Rattle.k_board.specs.Boards.{Board, Nowhere}
use Rattle.k_places.specs.Contexts as places
use Rattle.k_places.specs.Memory.{Memory, memory_of}
use Rattle.k_places.specs.Shows.{AreInPlace, IsInHand, Rests, Stands, context_by}
use Rattle.k_places.proofs.Places.{version_held}
use Rattle.k_joint.proofs.Runs.{hand_is}
use Rattle.k_tokens.specs.Good.{HandFacts}
use Rattle.k_tokens.specs.World.{Absent, Condition, ContextName, OfCarrier, OfThread, Threads, holds}
use Rattle.k_tokens.specs.World.{is_absent}
use Rattle.k_tokens.specs.World as tokens
use Rattle.k_switching.specs.Rules.{same_context, slot_word, thread_word, word_of}
use Rattle.k_grants.specs.Views.{look_at, name_by, name_of}
use Rattle.k_moves.specs.Views.{ShowsContext, condition_of, number_in}
use Rattle.k_moves.proofs.Names.{name_beyond, name_inside, same_name, which}
use Rattle.k_moves.proofs.Rules.{holds_same}
use Rattle.k_whole.proofs.Hands.{hand_within}
use Rattle.k_aligned.specs.Aligned.{found_in}
use Rattle.k_handling.specs.Handling.{IsKernel}
use Rattle.k_handling.proofs.Contexts.{context_shown}

-- NAMES

context_itself : (x : ContextName) → same_context x x ≡ true
context_itself (OfThread t) = grind (arith, nat_tests)
context_itself (OfCarrier d) = grind (arith, nat_tests)

pub name_apart : (size a b : ℕ) → name_of size a ≡ name_of size b → a ≡ b
name_apart size a b e =
    eqb-true a b (sym (same_name size a b) ∙ ap (λ x. same_context x (name_of size b)) e ∙ context_itself (name_of size b))

-- in whose hand a context is, by its word
abbrev pub hand_told : ContextWord → Option ℕ
hand_told (Taken c version) = Some c
hand_told Empty = None
hand_told (Clean version) = None
hand_told (Holds version) = None

abbrev pub held_at : tokens.World → ContextName → Option ℕ
held_at w (OfThread t) = w.held t
held_at w (OfCarrier d) = w.held_own d

-- a thread that has a context isn't absent
thread_there : (a : Activity) (hand : Option ℕ) (locks : Bool) (version : ℕ) →
    thread_word (condition_of a) hand locks version ≡ slot_word hand locks version
thread_there (activity.Alone (location.Between last)) hand locks version = refl
thread_there (activity.Alone location.FallAsleep) hand locks version = refl
thread_there (activity.Alone location.Asleep) hand locks version = refl
thread_there (activity.Alone location.LookAgain) hand locks version = refl
thread_there (activity.Alone (location.LoadMail from)) hand locks version = refl
thread_there (activity.Alone (location.Work count)) hand locks version = refl
thread_there (activity.Alone location.CommitEnd) hand locks version = refl
thread_there (activity.Alone location.Ended) hand locks version = refl
thread_there (activity.Alone location.Dead) hand locks version = refl
thread_there (activity.Send s) hand locks version = refl
thread_there (activity.Receive s) hand locks version = refl
thread_there (activity.Create s) hand locks version = refl
thread_there (activity.Destroy s) hand locks version = refl

module _ (script : Script) (w : World) (b : Board) (view : tokens.World) (state : KernelState)
    (k : IsKernel script w b view state) where
  abbrev M : Memory
  M = memory_of w

  abbrev Word : ℕ → ContextWord
  Word n = context_word_of (M.context n)

  placed : AreInPlace M.context M.slot M.hand
  placed = k.aligned.shows.shows.places

  hands : HandFacts view.held view.held_own view.carrier
  hands = k.whole.pair.world.1.hands

  -- HANDS

  some_is : {A : Type 0} {x y : A} → Some x ≡ Some y → x ≡ y
  some_is e = cc

  none_some : {A : Type 0} {x : A} → None ≡ Some x → ⊥
  none_some e = absurd cc

  -- who has something in hand is one of the carriers
  pub inside : (c : ℕ) (h : HandSeen) → (carrier_at w c).hand ≡ Some h → c < length w.carriers
  inside c h e = elim (cases_lt c (length w.carriers)) [
    | inl l ↦ l
    | inr l ↦ absurd (none_some (sym (ap (λ (x : CarrierSeen). x.hand) (get_or_past w.carriers c (new_carrier 0 0) l)) ∙ e))
  ]

  pub hand_viewed : (c : ℕ) (o : Option HandSeen) → c < length w.carriers → (carrier_at w c).hand ≡ o →
      (view.carrier c).hand ≡ name_by script.table (number_in o)
  hand_viewed c o low e =
      let a = k.aligned.carriers c low in
      ap (λ (x : tokens.Carrier). x.hand) a.viewed ∙ (λ z. name_by (a.sound.table z) (number_in (e z)))

  -- what a carrier has in hand in the raw world
  pub record IsRawHand (c : ℕ) (x : ContextName) (h : HandSeen) : Type 0 where
    pub hand : M.hand c ≡ Some h
    pub name : name_of script.table h.context ≡ x

  raw_hand : (c : ℕ) (x : ContextName) → (view.carrier c).hand ≡ Some x → (h : HandSeen) × IsRawHand c x h
  raw_hand c x e = by (carrier_at w c).hand refl
    where
      low : c < length w.carriers
      low = subst (λ n. c < n) k.aligned.count (hand_within view c x k.whole.hands e)

      by : (o : Option HandSeen) → (carrier_at w c).hand ≡ o → (h : HandSeen) × IsRawHand c x h
      by (Some h) q = (h, record { hand = hand_is w c ∙ q; name = some_is (sym (hand_viewed c (Some h) low q) ∙ e) })
      by None q = absurd (none_some (sym (hand_viewed c None low q) ∙ e))

  held_in_hand : (c : ℕ) (x : ContextName) → (view.carrier c).hand ≡ Some x → held_at view x ≡ Some c
  held_in_hand c (OfThread t) e = hands.thread c t e
  held_in_hand c (OfCarrier d) e = hands.own c d e

  pub hand_held : (c : ℕ) (x : ContextName) → held_at view x ≡ Some c → (view.carrier c).hand ≡ Some x
  hand_held c (OfThread t) e = hands.thread_is c t e
  hand_held c (OfCarrier d) e = hands.own_is c d e

  taken_hand : (c n version : ℕ) (o : Option HandSeen) → M.hand c ≡ o → IsInHand o n version →
      held_at view (name_of script.table n) ≡ Some c
  taken_hand c n version None e h = absurd h
  taken_hand c n version (Some h) e i =
      let q : (carrier_at w c).hand ≡ Some h = sym (hand_is w c) ∙ e in
      ap (λ m. held_at view (name_of script.table m)) (sym i.0)
      ∙ held_in_hand c (name_of script.table h.context) (hand_viewed c (Some h) (inside c h q) q)

  not_taken : (n : ℕ) → ((c version : ℕ) → Word n ≡ Taken c version → ⊥) → held_at view (name_of script.table n) ≡ None
  not_taken n never = by (held_at view (name_of script.table n)) refl
    where
      by : (o : Option ℕ) → held_at view (name_of script.table n) ≡ o → held_at view (name_of script.table n) ≡ None
      by None e = e
      by (Some c) e =
          let r = raw_hand c (name_of script.table n) (hand_held c (name_of script.table n) e) in
          absurd (never c (version_held r.0) (ap Word (sym (name_apart script.table r.0.context n r.1.name))
          ∙ placed.taken c r.0 r.1.hand))

  pub held_told : (n : ℕ) (l : ContextWord) → Word n ≡ l → held_at view (name_of script.table n) ≡ hand_told l
  held_told n (Taken c version) e =
      taken_hand c n version (M.hand c) refl (subst (Stands M.slot M.hand n) e (placed.stands n))
  held_told n Empty e = not_taken n (λ c v q. let z : Empty ≡ Taken c v = sym e ∙ q in absurd cc)
  held_told n (Clean u) e = not_taken n (λ c v q. let z : Clean u ≡ Taken c v = sym e ∙ q in absurd cc)
  held_told n (Holds u) e = not_taken n (λ c v q. let z : Holds u ≡ Taken c v = sym e ∙ q in absurd cc)

  -- WHAT IS THERE

  -- a context, and its word
  pub record IsFound (n : ℕ) (v : ContextSeen) : Type 0 where
    pub found : found_in w n ≡ Some v
    pub word : slot_word (hand_told (Word n)) (holds_any (locks_of v)) (version_of (owner_of v)) ≡ Word n

  abbrev rest_word : Bool → ℕ → ContextWord
  rest_word holds version = if holds then Holds version else Clean version

  word_rests : (holds : Bool) (version : ℕ) → slot_word (hand_told (rest_word holds version)) holds version ≡
      rest_word holds version
  word_rests true version = refl
  word_rests false version = refl

  rests : (n : ℕ) (s : Slot) (holds : Bool) (version : ℕ) → M.slot n ≡ s → Rests s holds version →
      Word n ≡ rest_word holds version → found_in w n ≡ resting_in (M.slot n) → (v : ContextSeen) × IsFound n v
  rests n (raw.Resting v) holds version q r e at = (
    v,
    record {
      found = at ∙ ap resting_in q;
      word = (λ z. slot_word (hand_told (e z)) (r.0 z) (r.1 z)) ∙ word_rests holds version ∙ sym e;
    },
  )
  rests n (Guarded g) holds version q r e at = absurd r
  rests n Away holds version q r e at = absurd r

  in_hand : (n c version : ℕ) (o : Option HandSeen) → M.hand c ≡ o → IsInHand o n version → Word n ≡ Taken c version →
      (v : ContextSeen) × IsFound n v
  in_hand n c version None q i e = absurd i
  in_hand n c version (Some h) q i e = (
    h.value,
    record {
      found = ap (context_by M.slot M.hand n) e ∙ ap held_in q;
      word =
          (λ z. slot_word (hand_told (e z)) (holds_any (locks_of h.value)) (i.1 z)) ∙ sym e;
    },
  )

  found_by : (n : ℕ) (l : ContextWord) → Word n ≡ l → Stands M.slot M.hand n l → (Word n ≡ Empty) ⊎
      ((v : ContextSeen) × IsFound n v)
  found_by n Empty e s = inl e
  found_by n (Clean version) e s =
      inr (rests n (M.slot n) false version refl s e (ap (context_by M.slot M.hand n) e))
  found_by n (Holds version) e s =
      inr (rests n (M.slot n) true version refl s e (ap (context_by M.slot M.hand n) e))
  found_by n (Taken c version) e s = inr (in_hand n c version (M.hand c) refl s e)

  pub shown : (n : ℕ) (v : ContextSeen) → found_in w n ≡ Some v → ShowsContext view script.table n v
  shown = context_shown script w b view k.aligned.shows k.whole.pair.alike k.aligned.contexts

  -- THE WORD

  nothing_there : (n : ℕ) → n < script.table + length w.carriers → Word n ≡ Empty → word_of view (name_of script.table n) ≡ Empty
  nothing_there n low e = elim (which script.table n) [
    | inl x ↦
        ap (word_of view) x.1
        ∙ ap (λ c. thread_word c (view.held n) (tokens.holds_any (view.threads.locks n)) (view.threads.made n))
        (ap (λ (t : Threads). t.condition n) k.whole.pair.alike.agrees.threads ∙ ap (λ p. (look_at p).condition) nowhere)
    | inr x ↦ absurd (k.whole.owns (n - script.table) (carrier x.0)
        (ap (λ m. (b.context m).at) (place x.0) ∙ nowhere))
  ]
    where
      nowhere : (b.context n).at ≡ Nowhere
      nowhere =
          subst (λ (o : Option ContextSeen). places.ShowsContext (b.seen n).word n o (b.context n))
          (ap (context_by M.slot M.hand n) e) (k.aligned.shows.shows.contexts n)

      carrier : script.table ≤ n → n - script.table < view.carriers
      carrier l = subst (λ m. n - script.table < m) (sym k.aligned.count) (omega (arith, l, low))

      place : script.table ≤ n → b.size + (n - script.table) ≡ n
      place l = ap (λ m. m + (n - script.table)) k.aligned.shows.shows.size ∙ (omega (arith, l))

  there : (n : ℕ) (v : ContextSeen) → IsFound n v → word_of view (name_of script.table n) ≡ Word n
  there n v f = by v refl (shown n v f.found) ∙ f.word
    where
      held : (x : ContextName) → name_of script.table n ≡ x → held_at view x ≡ hand_told (Word n)
      held x e = ap (held_at view) (sym e) ∙ held_told n (Word n) refl

      locks : (x : ContextName) → name_of script.table n ≡ x → ShowsContext view script.table n v →
          holds view x None ≡ holds_any (locks_of v)
      locks x e h = ap (λ y. holds view y None) (sym e) ∙ holds_same view script.table n v h None

      by : (u : ContextSeen) → v ≡ u → ShowsContext view script.table n v → word_of view (name_of script.table n) ≡
          slot_word (hand_told (Word n)) (holds_any (locks_of v)) (version_of (owner_of v))
      by (Thread t) e h =
          let s = subst (ShowsContext view script.table n) e h in
          let name = name_inside script.table n s.inside in
          ap (word_of view) name
          ∙ ap (λ c. thread_word c (view.held n) (tokens.holds_any (view.threads.locks n)) (view.threads.made n)) s.condition
          ∙ thread_there t.activity (view.held n) (tokens.holds_any (view.threads.locks n)) (view.threads.made n)
          ∙ (λ z. slot_word (held (OfThread n) name z) (locks (OfThread n) name h z) (s.made z))
          ∙ ap (λ (u : ContextSeen). slot_word (hand_told (Word n)) (holds_any (locks_of v)) (version_of (owner_of u))) (sym e)
      by (Carrier x) e h =
          let s = subst (ShowsContext view script.table n) e h in
          let name : name_of script.table n ≡ OfCarrier x.carrier =
          ap (name_of script.table) s.0 ∙ name_beyond script.table x.carrier in
          ap (word_of view) name
          ∙ (λ z. slot_word (held (OfCarrier x.carrier) name z) (locks (OfCarrier x.carrier) name h z) 1)
          ∙ ap (λ (u : ContextSeen). slot_word (hand_told (Word n)) (holds_any (locks_of v)) (version_of (owner_of u))) (sym e)

  pub word_shown : (n : ℕ) → n < script.table + length w.carriers → word_of view (name_of script.table n) ≡ Word n
  word_shown n low = elim (found_by n (Word n) refl (placed.stands n)) [
    | inl e ↦ nothing_there n low e ∙ sym e
    | inr x ↦ there n x.0 x.1
  ]
