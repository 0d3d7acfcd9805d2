-- A move of a carrier in the raw world is a change of its maps.
use Rattle.std.proofs.Common.{◌≡◌, ◌≢◌, ℕ, ◌+◌, ◌*◌, ◌<◌, ◌==◌, Bool, true, false, cond, refl, sym, ap}
use Rattle.std.proofs.Common.{◌∙◌, subst, List, length, get_or, Option, Some, None, arith, inl, inr}
use Rattle.std.specs.Prelude.{slice_set}
use Rattle.std.proofs.lemmas.Bool.{cases_lt}
use Rattle.std.proofs.lemmas.Bool.Decides.{eqb_tells}
use Rattle.std.proofs.lemmas.List.{get_or-set_same, get_or-set_other, length-set, set_past}
use Rattle.k_ids.specs.declared.calls.Outcome.{Outcome}
use Rattle.k_ids.specs.declared.calls.Outcome.TheVariants as outcome
use Rattle.k_ids.specs.declared.context_word.ContextWord.TheVariants.{Empty, Clean}
use Rattle.k_ids.specs.declared.histories.Entry.{Entry}
use Rattle.k_ids.specs.declared.lock_word.LockWord.TheVariants.{Free}
use Rattle.k_ids.specs.ContextWords.{context_bits}
use Rattle.k_ids.specs.LockWords.{lock_bits}
use Rattle.k_locks.specs.declared.locks.Lock.{Lock}
use Rattle.k_locks.specs.declared.locks.Lock.TheVariants as lock
use Rattle.k_locks.specs.declared.locks.WordName.{WordName}
use Rattle.k_locks.specs.declared.locks.WordName.TheVariants as word
use Rattle.k_locks.specs.declared.steps.Step.{Step}
use Rattle.k_locks.specs.declared.steps.Step.TheVariants as step
use Rattle.k_locks.specs.Places.{IsLock, IsWord, home_of, index_of, lock_number, slot_of}
use Rattle.k_model.specs.Maps.{upd}
use Rattle.k_model.proofs.Maps.{upd_same, upd_other, upd_tells}
use Rattle.k_script.specs.Script.{Script}
use Rattle.k_carrier.specs.Flags as flags
use Rattle.k_carrier.specs.Moves.{MoveSeen}
use Rattle.k_carrier.specs.Moves as move
use Rattle.k_carrier.specs.Seen.{CarrierSeen, HandSeen, new_carrier}
use Rattle.k_world.specs.Moves.{change_by, change_of, with_change, word_after, word_on, Change}
use Rattle.k_world.specs.Steps.{CarrierStep, carrier_after, counted_serials, entry_of}
use Rattle.k_world.specs.Steps.{moved_by, parked, running, sliced, started, with_new}
use Rattle.k_world.specs.Worlds.{Slot, Away, World, word_at, carrier_at}
use Rattle.k_places.specs.Fits.{IsEntryWithin, IsMadeWithin, IsStepWithin}
use Rattle.k_places.specs.Memory.{Memory, Filling, Same, Home, Place, at, filling_by, home_filled, memory_with, slot_filled}
use Rattle.k_places.specs.Memory.{filling_of, memory_from, memory_of, moved_maps, new_serial, serials_with, with_word, word_in}

-- LISTS AS MAPS

pub at_set : {A : Type 0} (xs : List A) (t : ℕ) (v d : A) → t < length xs → at (slice_set xs t v) d ≡ upd (at xs d) t v
unfolding at
at_set xs t v d lt = λ i u. at_point xs t v d lt u i
  where
    at_point : {A : Type 0} (xs : List A) (t : ℕ) (v d : A) → t < length xs → (u : ℕ) →
        at (slice_set xs t v) d u ≡ upd (at xs d) t v u
    at_point xs t v d lt u = elim (eqb_tells u t) [
      | inl e ↦
          ap (at (slice_set xs t v) d) e.1 ∙ get_or-set_same xs t v d lt ∙ sym (upd_same (at xs d) t v)
          ∙ ap (upd (at xs d) t v) (sym e.1)
      | inr ne ↦ get_or-set_other xs t u v d ne.1 ∙ sym (upd_other (at xs d) t v u ne.1)
    ]

-- a change of the whole map, seen through the places of one kind
hit : {A : Type 0} (g : ℕ → ℕ) → ((x y : ℕ) → g x ≡ g y → x ≡ y) → (f : ℕ → A) (t : ℕ) (v : A) →
    ◌≡◌ {A = ℕ → A} (λ u. upd f (g t) v (g u)) (upd (λ x. f (g x)) t v)
hit {A} g inj f t v = λ d u. point u d
  where
    point : (u : ℕ) → upd f (g t) v (g u) ≡ upd (λ x. f (g x)) t v u
    point u = elim (eqb_tells u t) [
      | inl e ↦
          subst (λ z. upd f (g t) v (g z) ≡ upd (λ x. f (g x)) t v z) (sym e.1)
          (upd_same f (g t) v ∙ sym (upd_same (λ x. f (g x)) t v))
      | inr ne ↦ upd_other f (g t) v (g u) (λ h. ne.1 (inj u t h)) ∙ sym (upd_other (λ x. f (g x)) t v u ne.1)
    ]

miss : {A : Type 0} (g : ℕ → ℕ) (k : ℕ) → ((u : ℕ) → g u ≢ k) → (f : ℕ → A) (v : A) →
    ◌≡◌ {A = ℕ → A} (λ u. upd f k v (g u)) (λ u. f (g u))
miss g k off f v = λ d u. upd_other f k v (g u) (off u) d

abbrev word0 : ℕ → ℕ
word0 x = 4 * x

abbrev word1 : ℕ → ℕ
word1 x = 4 * x + 1

abbrev word2 : ℕ → ℕ
word2 x = 4 * x + 2

abbrev word3 : ℕ → ℕ
word3 x = 4 * x + 3

abbrev slot0 : ℕ → ℕ
slot0 x = 2 * x

abbrev slot1 : ℕ → ℕ
slot1 x = 2 * x + 1

-- PARTS OF A MOVE

module _ (ws : ℕ → ℕ) (ss : ℕ → Slot) (cs : ℕ → CarrierSeen) (sr : ℕ → ℕ) where
  abbrev M : Memory
  M = memory_from ws ss cs sr

  word_set : (name : WordName) (v : ℕ) → memory_from (upd ws (index_of name) v) ss cs sr ≡ with_word name v M
  word_set (word.State t) v = λ d. record {
    state = hit word0 (λ x y q. omega (arith, q)) ws t v d;
    mail = miss word1 (4 * t) (λ u q. omega (arith, q)) ws v d;
    lock = miss word2 (4 * t) (λ u q. omega (arith, q)) ws v d;
    context = miss word3 (4 * t) (λ u q. omega (arith, q)) ws v d;
    home = M.home;
    slot = M.slot;
    hand = M.hand;
    serial = sr;
  }
  word_set (word.Mail t) v = λ d. record {
    state = miss word0 (4 * t + 1) (λ u q. omega (arith, q)) ws v d;
    mail = hit word1 (λ x y q. omega (arith, q)) ws t v d;
    lock = miss word2 (4 * t + 1) (λ u q. omega (arith, q)) ws v d;
    context = miss word3 (4 * t + 1) (λ u q. omega (arith, q)) ws v d;
    home = M.home;
    slot = M.slot;
    hand = M.hand;
    serial = sr;
  }
  word_set (word.Lock l) v = λ d. record {
    state = miss word0 (4 * lock_number l + 2) (λ u q. omega (arith, q)) ws v d;
    mail = miss word1 (4 * lock_number l + 2) (λ u q. omega (arith, q)) ws v d;
    lock = hit word2 (λ x y q. omega (arith, q)) ws (lock_number l) v d;
    context = miss word3 (4 * lock_number l + 2) (λ u q. omega (arith, q)) ws v d;
    home = M.home;
    slot = M.slot;
    hand = M.hand;
    serial = sr;
  }
  word_set (word.Context t) v = λ d. record {
    state = miss word0 (4 * t + 3) (λ u q. omega (arith, q)) ws v d;
    mail = miss word1 (4 * t + 3) (λ u q. omega (arith, q)) ws v d;
    lock = miss word2 (4 * t + 3) (λ u q. omega (arith, q)) ws v d;
    context = hit word3 (λ x y q. omega (arith, q)) ws t v d;
    home = M.home;
    slot = M.slot;
    hand = M.hand;
    serial = sr;
  }

  home_set : (n : ℕ) (x : Slot) → memory_from ws (upd ss (2 * n) x) cs sr ≡ record M { home = upd M.home n x }
  home_set n x = λ d. record {
    state = M.state;
    mail = M.mail;
    lock = M.lock;
    context = M.context;
    home = hit slot0 (λ x y q. omega (arith, q)) ss n x d;
    slot = miss slot1 (2 * n) (λ u q. omega (arith, q)) ss x d;
    hand = M.hand;
    serial = sr;
  }

  slot_set : (n : ℕ) (x : Slot) → memory_from ws (upd ss (2 * n + 1) x) cs sr ≡ record M { slot = upd M.slot n x }
  slot_set n x = λ d. record {
    state = M.state;
    mail = M.mail;
    lock = M.lock;
    context = M.context;
    home = miss slot0 (2 * n + 1) (λ u q. omega (arith, q)) ss x d;
    slot = hit slot1 (λ x y q. omega (arith, q)) ss n x d;
    hand = M.hand;
    serial = sr;
  }

hands : (cs : ℕ → CarrierSeen) (k : ℕ) (c : CarrierSeen) →
    ◌≡◌ {A = ℕ → Option HandSeen} (λ d. (upd cs k c d).hand) (upd (λ d. (cs d).hand) k c.hand)
hands cs k c = λ i d. upd_hand d i
  where
    upd_hand : (d : ℕ) → (upd cs k c d).hand ≡ upd (λ x. (cs x).hand) k c.hand d
    upd_hand d = grind (arith, upd_tells)

-- SLOTS

-- a filling as a change of one slot
abbrev change_for : Filling → Option Change
change_for Same = None
change_for (Home l x) = Some (record { slot = home_of l; holds = x })
change_for (Place n x) = Some (record { slot = slot_of n; holds = x })

by_test : (b : Bool) (x : Filling) → cond b (change_for x) None ≡ change_for (cond b x Same)
by_test true x = refl
by_test false x = refl

change_is : (script : Script) (s : Step) (found : ℕ) → change_by script s found ≡ change_for (filling_by script s found)
change_is script (step.Acquire l) found = by_test (found == lock_bits Free) _
change_is script (step.Release l g) found = refl
change_is script (step.Place id program priority) found = by_test (found == context_bits Empty) _
change_is script (step.Remove id) found = by_test (found == context_bits (Clean id.version)) _
change_is script (step.Load name) found = refl
change_is script (step.Store name value) found = refl
change_is script (step.Exchange name old new) found = refl

moves_slot : (script : Script) (m : MoveSeen) (found : ℕ) → change_of script m found ≡ change_for (filling_of script m found)
moves_slot script (move.Section s) found = change_is script s found
moves_slot script (move.Look n) found = refl
moves_slot script (move.TakeContext n old new) found = by_test (found == old) _
moves_slot script (move.GiveContext n new v) found = refl

-- the place that is filled is there
abbrev IsFillWithin : Filling → Type 0
IsFillWithin Same = Unit {0}
IsFillWithin (Home l x) = IsLock l
IsFillWithin (Place n x) = n < 72

if_within : (b : Bool) (x : Filling) → IsFillWithin x → IsFillWithin (cond b x Same)
if_within true x h = h
if_within false x h = tt

fill_within : (script : Script) (m : MoveSeen) (found : ℕ) → IsWord (word_on m) → IsFillWithin (filling_of script m found)
fill_within script (move.Section (step.Acquire l)) found h = if_within (found == lock_bits Free) _ h
fill_within script (move.Section (step.Release l g)) found h = h
fill_within script (move.Section (step.Place id program priority)) found h = if_within (found == context_bits Empty) _ h
fill_within script (move.Section (step.Remove id)) found h = if_within (found == context_bits (Clean id.version)) _ h
fill_within script (move.Section (step.Load name)) found h = tt
fill_within script (move.Section (step.Store name value)) found h = tt
fill_within script (move.Section (step.Exchange name old new)) found h = tt
fill_within script (move.Look n) found h = tt
fill_within script (move.TakeContext n old new) found h = if_within (found == old) _ h
fill_within script (move.GiveContext n new v) found h = h

home_below : (l : Lock) → IsLock l → home_of l < 148
home_below (lock.Thread n) h = omega (arith, h)
home_below lock.Table h = omega arith
home_below lock.Ready h = omega arith

word_below : (name : WordName) → IsWord name → index_of name < 296
word_below (word.State n) h = omega (arith, h)
word_below (word.Mail n) h = omega (arith, h)
word_below (word.Lock (lock.Thread n)) h = omega (arith, h)
word_below (word.Lock lock.Table) h = omega arith
word_below (word.Lock lock.Ready) h = omega arith
word_below (word.Context n) h = omega (arith, h)

-- with another slot
abbrev filled : Filling → Memory → Memory
filled f m = record m { home = home_filled f m.home; slot = slot_filled f m.slot }

slots_set : (ws : ℕ → ℕ) (xs : List Slot) (cs : ℕ → CarrierSeen) (sr : ℕ → ℕ) (f : Filling) → length xs ≡ 148 → IsFillWithin f →
    memory_from ws (at (with_change (change_for f) xs) Away) cs sr ≡ filled f (memory_from ws (at xs Away) cs sr)
slots_set ws xs cs sr Same e h = refl
slots_set ws xs cs sr (Home l x) e h =
    let b = home_below l h in ap (λ ss. memory_from ws ss cs sr) (at_set xs (home_of l) x Away (omega (arith, b, e)))
    ∙ home_set ws (at xs Away) cs sr (lock_number l) x
slots_set ws xs cs sr (Place n x) e h =
    ap (λ ss. memory_from ws ss cs sr) (at_set xs (slot_of n) x Away (omega (arith, h, e))) ∙ slot_set ws (at xs Away) cs sr n x

-- SERIALS

new_set : (o : Outcome) (xs : List ℕ) → IsMadeWithin (length xs) o → at (with_new o xs) 0 ≡ new_serial o (at xs 0)
new_set (outcome.Made id) xs h = at_set xs id.number 0 0 h
new_set outcome.Passed xs h = refl
new_set outcome.Waits xs h = refl
new_set (outcome.Took from message) xs h = refl
new_set (outcome.Absent found) xs h = refl
new_set (outcome.Busy found) xs h = refl
new_set outcome.Nobody xs h = refl
new_set outcome.Own xs h = refl
new_set outcome.Killed xs h = refl
new_set (outcome.Full alive worn) xs h = refl
new_set outcome.Ended xs h = refl
new_set outcome.Freed xs h = refl

serials_set : (e : Option Entry) (xs : List ℕ) → IsEntryWithin (length xs) e →
    at (counted_serials e xs) 0 ≡ serials_with e (at xs 0)
serials_set None xs h = refl
serials_set (Some e) xs h =
    let size = length-set xs e.event.who.number e.event.serial in
    new_set e.outcome (slice_set xs e.event.who.number e.event.serial) (subst (λ n. IsMadeWithin n e.outcome) (sym size) h.1)
    ∙ ap (new_serial e.outcome) (at_set xs e.event.who.number e.event.serial 0 h.0)

-- THE MOVE

pub word_is : (w : World) (name : WordName) → word_at w name ≡ word_in (memory_of w) name
unfolding at
word_is w (word.State n) = refl
word_is w (word.Mail n) = refl
word_is w (word.Lock l) = refl
word_is w (word.Context n) = refl

-- a word leaves the slots as they are
after_word : (name : WordName) (v : ℕ) (f : Filling) (m : Memory) (h : ℕ → Option HandSeen) (sr : ℕ → ℕ) →
    memory_with m name v f h sr ≡ filled f (with_word name v (record m { hand = h; serial = sr }))
after_word (word.State n) v f m h sr = refl
after_word (word.Mail n) v f m h sr = refl
after_word (word.Lock l) v f m h sr = refl
after_word (word.Context n) v f m h sr = refl

pub maps_moved : (script : Script) (w : World) (s : CarrierStep) → IsStepWithin w s →
    memory_of (moved_by script w s) ≡ moved_maps script (memory_of w) s.number (running s.asked.hand) s.move
    (carrier_after s).hand (entry_of w s)
maps_moved script w s h =
    let name = word_on s.move in
    let found = word_in (memory_of w) name in
    let i = running s.asked.hand in
    let ws = at w.words 0 in
    let cs = at w.carriers (new_carrier 0 0) in
    let sr = at w.serials 0 in
    let e = entry_of w s in
    let is : word_at w name ≡ found = word_is w name in
    let below = word_below name h.word in
    let words : at (slice_set w.words (index_of name) (word_after i s.move (word_at w name))) 0 ≡
    upd ws (index_of name) (word_after i s.move found) =
    at_set w.words (index_of name) (word_after i s.move (word_at w name)) 0 (omega (arith, below, h.words))
    ∙ ap (λ n. upd ws (index_of name) (word_after i s.move n)) is in
    let slots : at (with_change (change_of script s.move (word_at w name)) w.slots) Away ≡
    at (with_change (change_for (filling_of script s.move found)) w.slots) Away =
    ap (λ c. at (with_change c w.slots) Away) (ap (change_of script s.move) is ∙ moves_slot script s.move found) in
    let carriers : at (slice_set w.carriers s.number (carrier_after s)) (new_carrier 0 0) ≡ upd cs s.number (carrier_after s) =
    at_set w.carriers s.number (carrier_after s) (new_carrier 0 0) h.carrier in
    let serials : at (counted_serials e w.serials) 0 ≡ serials_with e sr = serials_set e w.serials h.entry in
    let first : memory_of (moved_by script w s) ≡ memory_from (upd ws (index_of name) (word_after i s.move found))
    (at (with_change (change_for (filling_of script s.move found)) w.slots) Away) (upd cs s.number (carrier_after s))
    (serials_with e sr) =
    λ d. memory_from (words d) (slots d) (carriers d) (serials d) in
    let f = filling_of script s.move found in
    let v = word_after i s.move found in
    first
    ∙ slots_set (upd ws (index_of name) v) w.slots (upd cs s.number (carrier_after s)) (serials_with e sr) f h.slots
    (fill_within script s.move found h.word)
    ∙ ap (filled f) (word_set ws (at w.slots Away) (upd cs s.number (carrier_after s)) (serials_with e sr) name v)
    ∙ ap (λ (hs : ℕ → Option HandSeen). filled f (with_word name v
    (record (memory_of w) { hand = hs; serial = serials_with e sr }))) (hands cs s.number (carrier_after s))
    ∙ sym (after_word name v f (memory_of w) (upd (memory_of w).hand s.number (carrier_after s).hand) (serials_with e sr))

-- WITHOUT A STEP

-- a carrier with the same in hand
same_hands : (w : World) (c : ℕ) (k : CarrierSeen) → k.hand ≡ (carrier_at w c).hand →
    ◌≡◌ {A = ℕ → Option HandSeen} (λ d. (at (slice_set w.carriers c k) (new_carrier 0 0) d).hand)
    (λ d. (at w.carriers (new_carrier 0 0) d).hand)
unfolding at
same_hands w c k e = λ i d. point d i
  where
    point : (d : ℕ) → (get_or (slice_set w.carriers c k) d (new_carrier 0 0)).hand ≡ (get_or w.carriers d (new_carrier 0 0)).hand
    point d = elim (eqb_tells d c) [
      | inl q ↦ elim (cases_lt c (length w.carriers)) [
        | inl l ↦
            ap (λ n. (get_or (slice_set w.carriers c k) n (new_carrier 0 0)).hand) q.1
            ∙ ap (λ (x : CarrierSeen). x.hand) (get_or-set_same w.carriers c k (new_carrier 0 0) l) ∙ e
            ∙ ap (λ n. (get_or w.carriers n (new_carrier 0 0)).hand) (sym q.1)
        | inr g ↦ ap (λ (xs : List CarrierSeen). (get_or xs d (new_carrier 0 0)).hand) (set_past w.carriers c k g)
      ]
      | inr ne ↦ ap (λ (x : CarrierSeen). x.hand) (get_or-set_other w.carriers c d k (new_carrier 0 0) ne.1)
    ]

with_hands : (w : World) (c : ℕ) (k : CarrierSeen) → k.hand ≡ (carrier_at w c).hand →
    memory_from (at w.words 0) (at w.slots Away) (at (slice_set w.carriers c k) (new_carrier 0 0)) (at w.serials 0) ≡ memory_of w
with_hands w c k e = ap (λ (hs : ℕ → Option HandSeen). record (memory_of w) { hand = hs }) (same_hands w c k e)

pub maps_started : (c number : ℕ) (w : World) → memory_of (started c number w) ≡ memory_of w
unfolding started
maps_started c number w = with_hands w c (flags.started number (carrier_at w c)) refl

pub maps_sliced : (c : ℕ) (w : World) → memory_of (sliced c w) ≡ memory_of w
unfolding sliced
maps_sliced c w = with_hands w c (flags.sliced (carrier_at w c)) refl

pub maps_parked : (c : ℕ) (w : World) → memory_of (parked c w) ≡ memory_of w
unfolding parked
maps_parked c w = with_hands w c (flags.parked (carrier_at w c)) refl
