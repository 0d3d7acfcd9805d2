-- What a step leaves as it was: lengths of lists, all words but one, all slots but one, and what was logged.
use Rattle.std.proofs.Common.{◌≡◌, ◌≢◌, ℕ, zero, suc, ◌+◌, ◌≤◌, ◌==◌, Bool, true, false, not, List, [], ◌∷◌, ◌++◌, length, get_or, replicate, Option, Some, None, IfSome, refl, ap, ◌∙◌, arith, inl, inr}
use Rattle.std.specs.List.{IsDistinct, slice_set}
use Rattle.std.proofs.lemmas.Bool.{cases_Bool}
use Rattle.std.proofs.lemmas.List.{get_or-set_other, length-map, length-set, length_push, set-get_or, take_all, take_at}
use Rattle.k_ids.specs.declared.calls.Outcome.{Outcome}
use Rattle.k_ids.specs.declared.calls.Outcome.TheVariants as outcome
use Rattle.k_ids.specs.declared.histories.Entry.{Entry}
use Rattle.k_script.specs.Script.{Script}
use Rattle.k_context.specs.Contexts.{ContextSeen, owner_of}
use Rattle.k_carrier.specs.declared.marks.Link.{Link}
use Rattle.k_carrier.specs.declared.marks.Want.{Want}
use Rattle.k_carrier.specs.Moves.{MoveSeen, Look, TakeContext, GiveContext}
use Rattle.k_carrier.specs.Seen.{CarrierSeen}
use Rattle.k_locks.specs.Places.{index_of, slot_of}
use Rattle.k_world.specs.Boot.{booted}
use Rattle.k_world.specs.Frames.{Extends, IsOfContext, IsSized}
use Rattle.k_world.specs.Lawful.{IsLawfulLog}
use Rattle.k_world.specs.Marks.{Course, Still, Onward, HeldUp, broken, chained, with_use, dropped, got_by, has_mark, held_up, held_up_by, is_linked, link_of, same_goal, standing_at, still_waits}
use Rattle.k_world.specs.Moves.{Change, change_of, found_by, slots_by, with_change, word_on, words_by}
use Rattle.k_world.specs.Steps.{CarrierStep, carrier_after, counted_serials, course_in, entry_of, is_helping, moved, moved_by, parked, recorded, sliced, started, step_in, unbroken_waits, waits_after, waits_by, with_new}
use Rattle.k_world.specs.Worlds.{Slot, Away, WaitLog, World, slot_at}
use Rattle.k_world.proofs.Waits.{lawful_broken, lawful_counted, lawful_dropped, lawful_got, lawful_held_up}

-- THE LOG OF WAITS IS LAWFUL

lawful_by : (w : World) (c : ℕ) (b : Bool) (course : Course) (l : WaitLog) → IsLawfulLog l → IsLawfulLog (waits_by w c b course l)
lawful_by w c b Still l h = h
lawful_by w c b (Onward v) l h = lawful_counted c (has_mark v) (got_by (owner_of v) l) (lawful_got (owner_of v) l h)
lawful_by w c b (HeldUp v wanted i) l h = lawful_held_up c b v wanted _ l h

pub lawful_after : (w : World) (s : CarrierStep) → IsLawfulLog w.waits → IsLawfulLog (waits_after w s)
lawful_after w s h = lawful_dropped s.number (not (same_goal s.before.goal (carrier_after s).goal)) _
    (lawful_by w s.number (is_helping s.asked s.asked.hand) (course_in s) _ (lawful_broken w.carriers w.waits h))

pub lawful_moved : (script : Script) (c : ℕ) (w : World) → IsLawfulLog w.waits → IsLawfulLog (moved script c w).waits
unfolding moved
lawful_moved script c w h = lawful_after w (step_in script c w) h

nothing_stands : (n c k : ℕ) → get_or (replicate n None) c None ≡ Some k → ⊥
nothing_stands zero c k h = absurd cc
nothing_stands (suc n) zero k h = absurd cc
nothing_stands (suc n) (suc c) k h = nothing_stands n c k h

pub lawful_booted : (script : Script) (carriers : ℕ) → IsLawfulLog (booted script carriers).waits
unfolding booted IsDistinct
lawful_booted script carriers = record {
  waits = λ k i. absurd (omega (arith, i));
  once = tt;
  known = λ k i. refl;
  standing = λ c k s. absurd (nothing_stands carriers c k s);
  apart = λ c d k s t. absurd (nothing_stands carriers c k s);
}

-- LENGTHS

broken_size : (ks : List CarrierSeen) (standing : List (Option ℕ)) → length (broken ks standing) ≡ length standing
broken_size [] standing = refl
broken_size (k ∷ ks) [] = refl
broken_size (k ∷ ks) (mark ∷ standing) = ap suc (broken_size ks standing)

chained_size : (link : Link) (l : WaitLog) → length (chained link l).standing ≡ length l.standing
chained_size link l = elim (cases_Bool (is_linked link l.links)) [
  | inl t ↦ rw t refl
  | inr f ↦ rw f refl
]

held_up_by_size : (c : ℕ) (b : Bool) (v : ContextSeen) (wanted : Want) (holder : ContextSeen) (mark : Option ℕ) (l : WaitLog) → length (held_up_by c b v wanted holder mark l).standing ≡ length l.standing
held_up_by_size c true v wanted holder None l = refl
held_up_by_size c true v wanted holder (Some k) l = chained_size (link_of k holder wanted) l
held_up_by_size c false v wanted holder None l = length-set l.standing c (Some (length l.marks))
held_up_by_size c false v wanted holder (Some k) l = refl

held_up_size : (c : ℕ) (b : Bool) (v : ContextSeen) (wanted : Want) (holder : Option ContextSeen) (l : WaitLog) → length (held_up c b v wanted holder l).standing ≡ length l.standing
held_up_size c b v wanted None l = refl
held_up_size c b v wanted (Some holder) l = held_up_by_size c b v wanted holder (standing_at l c) l

counted_size : (c : ℕ) (b : Bool) (l : WaitLog) → length (with_use c b l).standing ≡ length l.standing
counted_size c true l = refl
counted_size c false l = refl

waits_by_size : (w : World) (c : ℕ) (b : Bool) (course : Course) (l : WaitLog) → length (waits_by w c b course l).standing ≡ length l.standing
waits_by_size w c b Still l = refl
waits_by_size w c b (Onward v) l = counted_size c (has_mark v) (got_by (owner_of v) l) ∙ length-map l.standing (still_waits (owner_of v) l.marks)
waits_by_size w c b (HeldUp v wanted i) l = held_up_size c b v wanted _ l

dropped_size : (c : ℕ) (b : Bool) (l : WaitLog) → length (dropped c b l).standing ≡ length l.standing
dropped_size c true l = length-set l.standing c None
dropped_size c false l = refl

waits_size : (w : World) (s : CarrierStep) → length (waits_after w s).standing ≡ length w.waits.standing
waits_size w s = dropped_size s.number (not (same_goal s.before.goal (carrier_after s).goal)) _
    ∙ (waits_by_size w s.number (is_helping s.asked s.asked.hand) (course_in s) _ ∙ broken_size w.carriers w.waits.standing)

new_size : (o : Outcome) (serials : List ℕ) → length (with_new o serials) ≡ length serials
new_size (outcome.Made id) serials = length-set serials id.number 0
new_size outcome.Passed serials = refl
new_size outcome.Waits serials = refl
new_size (outcome.Took from message) serials = refl
new_size outcome.Killed serials = refl
new_size (outcome.Absent found) serials = refl
new_size (outcome.Busy found) serials = refl
new_size outcome.Nobody serials = refl
new_size outcome.Own serials = refl
new_size (outcome.Full alive worn) serials = refl
new_size outcome.Ended serials = refl
new_size outcome.Freed serials = refl

serials_size : (e : Option Entry) (serials : List ℕ) → length (counted_serials e serials) ≡ length serials
serials_size None serials = refl
serials_size (Some e) serials = new_size e.outcome (slice_set serials e.event.who.number e.event.serial) ∙ length-set serials e.event.who.number e.event.serial

slots_size : (ch : Option Change) (slots : List Slot) → length (with_change ch slots) ≡ length slots
slots_size None slots = refl
slots_size (Some ch) slots = length-set slots ch.slot ch.holds

sized_by : (script : Script) (w : World) (s : CarrierStep) → IsSized w (moved_by script w s)
sized_by script w s = record {
  words = length-set w.words _ _;
  slots = slots_size (change_of script s.move (found_by w s.move)) w.slots;
  carriers = length-set w.carriers s.number (carrier_after s);
  serials = serials_size (entry_of w s) w.serials;
  unstarted = refl;
  standing = waits_size w s;
}

pub sized_moved : (script : Script) (c : ℕ) (w : World) → IsSized w (moved script c w)
unfolding moved
sized_moved script c w = sized_by script w (step_in script c w)

pub sized_started : (c number : ℕ) (w : World) → IsSized w (started c number w)
unfolding started
sized_started c number w = record {
  words = refl;
  slots = refl;
  carriers = length-set w.carriers c _;
  serials = refl;
  unstarted = length-set w.unstarted number false;
  standing = refl;
}

pub sized_sliced : (c : ℕ) (w : World) → IsSized w (sliced c w)
unfolding sliced
sized_sliced c w = record { words = refl; slots = refl; carriers = length-set w.carriers c _; serials = refl; unstarted = refl; standing = refl }

pub sized_parked : (c : ℕ) (w : World) → IsSized w (parked c w)
unfolding parked
sized_parked c w = record { words = refl; slots = refl; carriers = length-set w.carriers c _; serials = refl; unstarted = refl; standing = refl }

-- ONE WORD, AND ONE SLOT

pub words_other : (w : World) (r : ℕ) (m : MoveSeen) (i : ℕ) → i ≢ index_of (word_on m) → get_or (words_by w r m) i 0 ≡ get_or w.words i 0
words_other w r m i n = get_or-set_other w.words (index_of (word_on m)) i _ 0 n

pub words_looked : (w : World) (r n : ℕ) → words_by w r (Look n) ≡ w.words
words_looked w r n = set-get_or w.words (index_of (word_on (Look n))) 0

changed_other : (ch : Option Change) (slots : List Slot) (p : ℕ) → IfSome ch (λ x. p ≢ x.slot) → get_or (with_change ch slots) p Away ≡ get_or slots p Away
changed_other None slots p n = refl
changed_other (Some x) slots p n = get_or-set_other slots x.slot p x.holds Away n

pub slots_other : (script : Script) (w : World) (m : MoveSeen) (p : ℕ) → IfSome (change_of script m (found_by w m)) (λ x. p ≢ x.slot) → get_or (slots_by script w m) p Away ≡ slot_at w p
slots_other script w m p n = changed_other (change_of script m (found_by w m)) w.slots p n

look_of : (script : Script) (n : ℕ) → IsOfContext script (Look n) n
look_of script n = record { own_word = refl; own_slot = λ found. tt }

take_of : (script : Script) (n old new : ℕ) → IsOfContext script (TakeContext n old new) n
take_of script n old new = record { own_word = refl; own_slot = slot }
  where
    slot : (found : ℕ) → IfSome (change_of script (TakeContext n old new) found) (λ c. c.slot ≡ slot_of n)
    slot found = elim (cases_Bool (found == old)) [
      | inl t ↦ rw t refl
      | inr f ↦ rw f tt
    ]

give_of : (script : Script) (n new : ℕ) (v : ContextSeen) → IsOfContext script (GiveContext n new v) n
give_of script n new v = record { own_word = refl; own_slot = λ found. refl }

pub of_context : (script : Script) (n old new : ℕ) (v : ContextSeen) → IsOfContext script (Look n) n × IsOfContext script (TakeContext n old new) n × IsOfContext script (GiveContext n new v) n
of_context script n old new v = (look_of script n, take_of script n old new, give_of script n new v)

-- THE LOGS GROW

extends_push : {X : Type 0} (xs : List X) (y : X) → Extends xs (xs ++ y ∷ [])
extends_push xs y = take_at xs (y ∷ []) (length xs) refl

extends_append : {X : Type 0} (xs ys : List X) → Extends xs (xs ++ ys)
extends_append xs ys = take_at xs ys (length xs) refl

extends_same : {X : Type 0} (xs : List X) → Extends xs xs
extends_same xs = take_all (length xs) xs (omega arith)

recorded_extends : (e : Option Entry) (history : List Entry) → Extends history (recorded e history)
recorded_extends None history = extends_same history
recorded_extends (Some e) history = extends_push history e

recorded_size : (e : Option Entry) (history : List Entry) → length (recorded e history) ≤ length history + 1
recorded_size None history = omega arith
recorded_size (Some e) history = omega (arith, length_push history e)

chained_extends : (link : Link) (l : WaitLog) → Extends l.links (chained link l).links
chained_extends link l = elim (cases_Bool (is_linked link l.links)) [
  | inl t ↦ rw t (extends_same l.links)
  | inr f ↦ rw f (extends_push l.links link)
]

held_up_by_extends : (c : ℕ) (b : Bool) (v : ContextSeen) (wanted : Want) (holder : ContextSeen) (mark : Option ℕ) (l : WaitLog) → Extends l.links (held_up_by c b v wanted holder mark l).links
held_up_by_extends c true v wanted holder None l = extends_same l.links
held_up_by_extends c true v wanted holder (Some k) l = chained_extends (link_of k holder wanted) l
held_up_by_extends c false v wanted holder None l = extends_push l.links (link_of (length l.marks) holder wanted)
held_up_by_extends c false v wanted holder (Some k) l = extends_same l.links

held_up_extends : (c : ℕ) (b : Bool) (v : ContextSeen) (wanted : Want) (holder : Option ContextSeen) (l : WaitLog) → Extends l.links (held_up c b v wanted holder l).links
held_up_extends c b v wanted None l = extends_same l.links
held_up_extends c b v wanted (Some holder) l = held_up_by_extends c b v wanted holder (standing_at l c) l

counted_links : (c : ℕ) (b : Bool) (l : WaitLog) → (with_use c b l).links ≡ l.links
counted_links c true l = refl
counted_links c false l = refl

waits_by_extends : (w : World) (c : ℕ) (b : Bool) (course : Course) (l : WaitLog) → Extends l.links (waits_by w c b course l).links
waits_by_extends w c b Still l = extends_same l.links
waits_by_extends w c b (Onward v) l = rw (counted_links c (has_mark v) (got_by (owner_of v) l)) (extends_same l.links)
waits_by_extends w c b (HeldUp v wanted i) l = held_up_extends c b v wanted _ l

dropped_links : (c : ℕ) (b : Bool) (l : WaitLog) → (dropped c b l).links ≡ l.links
dropped_links c true l = refl
dropped_links c false l = refl

links_extend : (w : World) (s : CarrierStep) → Extends w.waits.links (waits_after w s).links
links_extend w s = rw (dropped_links s.number (not (same_goal s.before.goal (carrier_after s).goal)) _)
    (waits_by_extends w s.number (is_helping s.asked s.asked.hand) (course_in s) (unbroken_waits w))

pub history_grows : (script : Script) (c : ℕ) (w : World) → Extends w.history (moved script c w).history
unfolding moved
history_grows script c w = recorded_extends (entry_of w (step_in script c w)) w.history

pub history_by_one : (script : Script) (c : ℕ) (w : World) → length (moved script c w).history ≤ length w.history + 1
unfolding moved
history_by_one script c w = recorded_size (entry_of w (step_in script c w)) w.history

pub steps_grow : (script : Script) (c : ℕ) (w : World) → Extends w.steps (moved script c w).steps
unfolding moved
steps_grow script c w = extends_append w.steps _

pub links_grow : (script : Script) (c : ℕ) (w : World) → Extends w.waits.links (moved script c w).waits.links
unfolding moved
links_grow script c w = links_extend w (step_in script c w)
