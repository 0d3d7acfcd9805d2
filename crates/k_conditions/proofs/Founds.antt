-- Which contexts are found after a move of a carrier: those that were there, but for the one in its hand, and one that is placed.
use Rattle.std.proofs.Common.{◌≡◌, ℕ, Bool, true, false, refl, sym, ap, ◌∙◌, subst, Option, Some, None, inl, inr}
use Rattle.std.proofs.lemmas.Bool.Decides.{eqb_tells}
use Rattle.std.proofs.lemmas.Bool.{eqb-true}
use Rattle.std.specs.Prelude.{◌==◌, if◌then◌else◌}
use Rattle.k_ids.specs.declared.context_word.ContextWord.{ContextWord}
use Rattle.k_ids.specs.declared.context_word.ContextWord.TheVariants.{Clean, Empty, Taken}
use Rattle.k_ids.specs.declared.histories.Entry.{Entry}
use Rattle.k_ids.specs.declared.threads.ThreadId.{ThreadId}
use Rattle.k_ids.specs.ContextWords.{IsContextWord, IsVersion, context_bits, context_word_of}
use Rattle.k_ids.proofs.ContextSpelled.{context-read}
use Rattle.k_ids.specs.declared.lock_word.LockWord.TheVariants.{Free}
use Rattle.k_ids.specs.LockWords.{lock_bits}
use Rattle.k_locks.specs.declared.locks.Lock.{Lock}
use Rattle.k_locks.specs.Asks.{Ask, step_for}
use Rattle.k_locks.specs.Asks as asks
use Rattle.k_locks.specs.Hands.{Hand}
use Rattle.k_locks.specs.Places.{lock_number}
use Rattle.k_model.specs.Maps.{upd}
use Rattle.k_model.proofs.Maps.{upd_same}
use Rattle.k_script.specs.Script.{Script}
use Rattle.k_context.specs.Contexts.{ContextSeen, thread_of}
use Rattle.k_carrier.specs.Moves.{Section}
use Rattle.k_carrier.specs.Seen.{HandSeen}
use Rattle.k_world.specs.Worlds.{Away, Resting, Slot, resting_in}
use Rattle.k_places.specs.Memory.{Home, Memory, Same, moved_maps, slot_filled}
use Rattle.k_places.specs.Memory as memory
use Rattle.k_places.specs.Shows.{AreInPlace, context_by, context_in}
use Rattle.k_places.proofs.Places.{IsApart, others_held, others_same, places_held, rest_others, rest_this, this_held}
use Rattle.k_places.proofs.Places.{this_is, version_held}
use Rattle.k_places.proofs.Words.{upd_own}

-- P holds of each context that is found, by its number.
abbrev pub AllFound : (ℕ → ContextSeen → Type 0) → (ℕ → ℕ) → (ℕ → Slot) → (ℕ → Option HandSeen) → Type 0
AllFound P words slot hand = (i : ℕ) (v : ContextSeen) → context_in words slot hand i ≡ Some v → P i v

some_is : {A : Type 0} {x y : A} → Some x ≡ Some y → x ≡ y
some_is e = cc

module _ (P : ℕ → ContextSeen → Type 0) (ctx : ℕ → ℕ) (sl : ℕ → Slot) (hd : ℕ → Option HandSeen)
    (h : AreInPlace ctx sl hd)
    (was : AllFound P ctx sl hd) where
  -- one word, its slot and one hand
  pub changed_found : (n : ℕ) (x : ContextWord) (s : Slot) (c : ℕ) (y : Option HandSeen) →
      IsApart ctx sl hd n x s c y → IsContextWord x →
      ((v : ContextSeen) → context_by (upd sl n s) (upd hd c y) n x ≡ Some v → P n v) →
      AllFound P (upd ctx n (context_bits x)) (upd sl n s) (upd hd c y)
  changed_found n x s c y apart whole here i v e = elim (eqb_tells i n) [
    | inl q ↦ subst (λ m. P m v) (sym q.1)
        (here v (sym (this_is ctx sl hd n x s c y whole)
        ∙ subst (λ m. context_in (upd ctx n (context_bits x)) (upd sl n s) (upd hd c y) m ≡ Some v) q.1 e))
    | inr q ↦ was i v (sym (others_same ctx sl hd n x s c y h apart i q.1) ∙ e)
  ]

  -- the context in one hand
  pub held_found : (c : ℕ) (k k' : HandSeen) → hd c ≡ Some k → k'.context ≡ k.context → P k.context k'.value →
      AllFound P ctx sl (upd hd c (Some k'))
  held_found c k k' had same is i v e = elim (eqb_tells i k.context) [
    | inl q ↦
        let value : k'.value ≡ v = some_is (sym (this_held ctx sl hd c k k' had same h)
        ∙ subst (λ m. context_in ctx sl (upd hd c (Some k')) m ≡ Some v) q.1 e) in
        subst (λ m. P m v) (sym q.1) (subst (P k.context) value is)
    | inr q ↦ was i v (sym (others_held ctx sl hd c k k' had same h i q.1) ∙ e)
  ]

  -- one context that rests, or has rested
  pub rest_found : (n : ℕ) (x : ContextWord) (s : Slot) →
      ((d version : ℕ) → context_word_of (ctx n) ≡ Taken d version → ⊥) → IsContextWord x →
      ((v : ContextSeen) → context_by (upd sl n s) hd n x ≡ Some v → P n v) →
      AllFound P (upd ctx n (context_bits x)) (upd sl n s) hd
  rest_found n x s rests whole here i v e = elim (eqb_tells i n) [
    | inl q ↦ subst (λ m. P m v) (sym q.1)
        (here v (sym (rest_this ctx sl hd n x s h rests whole)
        ∙ subst (λ m. context_in (upd ctx n (context_bits x)) (upd sl n s) hd m ≡ Some v) q.1 e))
    | inr q ↦ was i v (sym (rest_others ctx sl hd n x s h rests i q.1) ∙ e)
  ]

-- A STEP OF A SECTION

-- what has to be so of a context that the step places
abbrev pub PlacesSo : Script → (ℕ → ContextSeen → Type 0) → Ask → Type 0
PlacesSo script P (asks.Place id program priority) = P id.number (thread_of script id program priority) ×
    IsVersion id.version
PlacesSo script P (asks.Remove id) = IsVersion id.version
PlacesSo script P a = Unit {0}

home_or_same : (t : Bool) (l : Lock) (slots : ℕ → Slot) → slot_filled (if t then Home l Away else Same)
    slots ≡ slots
home_or_same true l slots = refl
home_or_same false l slots = refl

module _ (script : Script) (P : ℕ → ContextSeen → Type 0) (m : Memory) (c : ℕ) (k k' : HandSeen)
    (h : AreInPlace m.context m.slot m.hand)
    (was : AllFound P m.context m.slot m.hand) (had : m.hand c ≡ Some k) (same : k'.context ≡ k.context)
    (kept : version_held k' ≡ version_held k)
    (now : P k.context k'.value) where
  abbrev Hands : ℕ → Option HandSeen
  Hands = upd m.hand c (Some k')

  held : AllFound P m.context m.slot Hands
  held = held_found P m.context m.slot m.hand h was c k k' had same now

  in_place : AreInPlace m.context m.slot Hands
  in_place = places_held m.context m.slot m.hand c k k' had same h kept

  placed : (id : ThreadId) (program priority : ℕ) → PlacesSo script P (asks.Place id program priority) →
      (t : Bool) → (m.context id.number == context_bits Empty) ≡ t →
      AllFound P (upd m.context id.number (if t then context_bits (Clean id.version) else m.context
      id.number))
      (slot_filled (if t then memory.Place id.number (Resting (thread_of script id program priority)) else
      Same) m.slot) Hands
  placed id program priority so true e =
      rest_found P m.context m.slot Hands in_place held id.number (Clean id.version)
      (Resting (thread_of script id program priority)) rests so.1 here
    where
      empty : context_word_of (m.context id.number) ≡ Empty
      empty = ap context_word_of (eqb-true (m.context id.number) (context_bits Empty) e)
          ∙ context-read Empty tt

      rests : (d version : ℕ) → context_word_of (m.context id.number) ≡ Taken d version → ⊥
      rests d version q = let z : Empty ≡ Taken d version = sym empty ∙ q in cc

      here : (v : ContextSeen) → resting_in
          (upd m.slot id.number (Resting (thread_of script id program priority)) id.number) ≡ Some v →
          P id.number v
      here v q =
          let is : thread_of script id program priority ≡ v =
          some_is (sym (ap resting_in (upd_same m.slot id.number
          (Resting (thread_of script id program priority)))) ∙ q) in
          subst (P id.number) is so.0
  placed id program priority so false e = subst (λ (f : ℕ → ℕ). AllFound P f m.slot Hands)
      (sym (upd_own m.context id.number)) held

  removed : (id : ThreadId) → IsVersion id.version → (t : Bool) →
      (m.context id.number == context_bits (Clean id.version)) ≡ t →
      AllFound P (upd m.context id.number (if t then context_bits Empty else m.context id.number))
      (slot_filled (if t then memory.Place id.number Away else Same) m.slot) Hands
  removed id whole true e = rest_found P m.context m.slot Hands in_place held id.number Empty Away rests tt
      (λ v q. absurd (let z : None ≡ Some v = q in cc))
    where
      clean : context_word_of (m.context id.number) ≡ Clean id.version
      clean = ap context_word_of (eqb-true (m.context id.number) (context_bits (Clean id.version)) e)
          ∙ context-read (Clean id.version) whole

      rests : (d version : ℕ) → context_word_of (m.context id.number) ≡ Taken d version → ⊥
      rests d version q = let z : Clean id.version ≡ Taken d version = sym clean ∙ q in cc
  removed id whole false e = subst (λ (f : ℕ → ℕ). AllFound P f m.slot Hands)
      (sym (upd_own m.context id.number)) held

  abbrev After : Ask → Hand → Option Entry → Memory
  After a g e = moved_maps script m c k.context (Section (step_for a g)) (Some k') e

  pub section_found : (a : Ask) (g : Hand) (e : Option Entry) → PlacesSo script P a →
      AllFound P (After a g e).context (After a g e).slot (After a g e).hand
  section_found (asks.Load n) g e so = held
  section_found (asks.LoadMail n) g e so = held
  section_found (asks.Post n message) g e so = held
  section_found (asks.Exchange n old new) g e so = held
  section_found (asks.Acquire l) g e so = subst (λ (s : ℕ → Slot). AllFound P m.context s Hands)
      (sym (home_or_same (m.lock (lock_number l) == lock_bits Free) l m.slot)) held
  section_found (asks.Release l) g e so = held
  section_found (asks.Place id program priority) g e so =
      placed id program priority so (m.context id.number == context_bits Empty) refl
  section_found (asks.Remove id) g e so =
      removed id so (m.context id.number == context_bits (Clean id.version)) refl

-- A MOVE THAT CHANGES NO CONTEXT

pub unchanged_found : (P : ℕ → ContextSeen → Type 0) (ctx : ℕ → ℕ) (sl : ℕ → Slot) (hd : ℕ → Option HandSeen)
    (n c : ℕ) (y : Option HandSeen) → AllFound P ctx sl hd → y ≡ hd c →
    AllFound P (upd ctx n (ctx n)) sl (upd hd c y)
unchanged_found P ctx sl hd n c y was same =
    subst (λ (f : ℕ → ℕ). AllFound P f sl (upd hd c y)) (sym (upd_own ctx n))
    (subst (λ (o : Option HandSeen). AllFound P ctx sl (upd hd c o)) (sym same)
    (subst (AllFound P ctx sl) (sym (upd_own hd c)) was))
