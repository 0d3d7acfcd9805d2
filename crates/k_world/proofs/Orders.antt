-- Which marks of waits end and begin at a step, and in which order.
use Rattle.std.proofs.Common.{◌≡◌, ◌≢◌, ℕ, zero, suc, ◌<◌, Bool, true, false, not, List, [], ◌∷◌, length, get_or, Option, Some, None, refl, sym, ap, ◌∙◌, arith, inl, inr}
use Rattle.std.specs.List.{slice_set}
use Rattle.std.proofs.lemmas.Bool.{cases_Bool, cases_lt}
use Rattle.std.proofs.lemmas.List.{get_or-set_other, get_or-set_same, get_or_past, set_past}
use Rattle.k_script.specs.Script.{Script}
use Rattle.k_context.specs.declared.owner.Owner.{Owner}
use Rattle.k_context.specs.Contexts.{ContextSeen, owner_of}
use Rattle.k_carrier.specs.declared.marks.WaitMark.{WaitMark}
use Rattle.k_carrier.specs.declared.marks.Want.{Want}
use Rattle.k_carrier.specs.Rules.{is_interrupted}
use Rattle.k_carrier.specs.Seen.{CarrierSeen}
use Rattle.k_world.specs.Lawful.{IsGot, IsLawfulLog}
use Rattle.k_world.specs.Marks.{Course, Still, Onward, HeldUp, all_got, broken, with_use, counted_in, dropped, got_by, has_mark, held_up, held_up_by, is_linked, is_of, link_of, mark_at, no_mark, same_goal, same_owner, standing_at, still_waits, used_once, with_got}
use Rattle.k_world.specs.Steps.{CarrierStep, carrier_after, course_in, is_helping, moved, step_in, unbroken_waits, waits_after, waits_by}
use Rattle.k_world.specs.Worlds.{WaitLog, World, carrier_at, context_at}
use Rattle.k_world.proofs.Lists.{mapped_at, set_keeps}
use Rattle.k_world.proofs.Waits.{with_got_alike, with_got_size, still_other}

-- 1. BROKEN BY AN INTERRUPTION

broken_at : (ks : List CarrierSeen) (standing : List (Option ℕ)) (d : ℕ) (k0 : CarrierSeen) → d < length ks → is_interrupted (get_or ks d k0) ≡ true → get_or (broken ks standing) d None ≡ None
broken_at [] standing d k0 l e = absurd (omega (arith, l))
broken_at (k ∷ ks) [] d k0 l e = refl
broken_at (k ∷ ks) (mark ∷ standing) zero k0 l e = rw e refl
broken_at (k ∷ ks) (mark ∷ standing) (suc d) k0 l e = broken_at ks standing d k0 (omega (arith, l)) e

-- where nothing stands of another carrier, nothing begins
held_up_by_other : (c d : ℕ) (b : Bool) (v : ContextSeen) (wanted : Want) (holder : ContextSeen) (mark : Option ℕ) (l : WaitLog) → d ≢ c → standing_at (held_up_by c b v wanted holder mark l) d ≡ standing_at l d
held_up_by_other c d true v wanted holder None l n = refl
held_up_by_other c d true v wanted holder (Some k) l n = elim (cases_Bool (is_linked (link_of k holder wanted) l.links)) [
  | inl t ↦ rw t refl
  | inr f ↦ rw f refl
]
held_up_by_other c d false v wanted holder None l n = get_or-set_other l.standing c d (Some (length l.marks)) None n
held_up_by_other c d false v wanted holder (Some k) l n = refl

held_up_other : (c d : ℕ) (b : Bool) (v : ContextSeen) (wanted : Want) (holder : Option ContextSeen) (l : WaitLog) → d ≢ c → standing_at (held_up c b v wanted holder l) d ≡ standing_at l d
held_up_other c d b v wanted None l n = refl
held_up_other c d b v wanted (Some holder) l n = held_up_by_other c d b v wanted holder (standing_at l c) l n

counted_standing : (c d : ℕ) (b : Bool) (l : WaitLog) → standing_at (with_use c b l) d ≡ standing_at l d
counted_standing c d true l = refl
counted_standing c d false l = refl

none_by : (w : World) (c d : ℕ) (b : Bool) (course : Course) (l : WaitLog) → d ≢ c → standing_at l d ≡ None → standing_at (waits_by w c b course l) d ≡ None
none_by w c d b Still l n e = e
none_by w c d b (Onward v) l n e = counted_standing c d (has_mark v) (got_by (owner_of v) l) ∙ (mapped_at (still_waits (owner_of v) l.marks) refl l.standing d ∙ ap (still_waits (owner_of v) l.marks) e)
none_by w c d b (HeldUp v wanted i) l n e = held_up_other c d b v wanted (context_at w i) l n ∙ e

dropped_other : (c d : ℕ) (b : Bool) (l : WaitLog) → d ≢ c → standing_at (dropped c b l) d ≡ standing_at l d
dropped_other c d true l n = get_or-set_other l.standing c d None None n
dropped_other c d false l n = refl

pub interrupted_broken : (script : Script) (c d : ℕ) (w : World) → d ≢ c → d < length w.carriers → is_interrupted (carrier_at w d) ≡ true → standing_at (moved script c w).waits d ≡ None
unfolding moved step_in
interrupted_broken script c d w n l e =
    let s = step_in script c w in
    dropped_other c d (not (same_goal s.before.goal (carrier_after s).goal)) _ n
    ∙ none_by w c d (is_helping s.asked s.asked.hand) (course_in s) (unbroken_waits w) n (broken_at w.carriers w.waits.standing d _ l e)

-- 2. AND 3. GOT, AND NOT COUNTED

abbrev KeepsUsed : WaitMark → WaitMark → Type 0
KeepsUsed m m' = m'.used ≡ m.used

abbrev StaysGot : WaitMark → WaitMark → Type 0
StaysGot m m' = m.got ≡ true → m'.got ≡ true

with_got_used : (o : Owner) (marks : List WaitMark) (mark : Option ℕ) (j : ℕ) → KeepsUsed (mark_at marks j) (mark_at (with_got o marks mark) j)
with_got_used o marks None j = refl
with_got_used o marks (Some k) j = elim (cases_Bool (is_of o marks (Some k))) [
  | inl t ↦ rw t (set_keeps KeepsUsed (λ m. refl) marks k (record (mark_at marks k) { got = true }) no_mark refl j)
  | inr f ↦ rw f refl
]

all_got_used : (o : Owner) (standing : List (Option ℕ)) (marks : List WaitMark) (j : ℕ) → KeepsUsed (mark_at marks j) (mark_at (all_got o standing marks) j)
all_got_used o [] marks j = refl
all_got_used o (mark ∷ standing) marks j = all_got_used o standing (with_got o marks mark) j ∙ with_got_used o marks mark j

with_got_stays : (o : Owner) (marks : List WaitMark) (mark : Option ℕ) (j : ℕ) → StaysGot (mark_at marks j) (mark_at (with_got o marks mark) j)
with_got_stays o marks None j g = g
with_got_stays o marks (Some k) j g = elim (cases_Bool (is_of o marks (Some k))) [
  | inl t ↦ rw t (set_keeps StaysGot (λ m e. e) marks k (record (mark_at marks k) { got = true }) no_mark (λ e. refl) j g)
  | inr f ↦ rw f g
]

all_got_stays : (o : Owner) (standing : List (Option ℕ)) (marks : List WaitMark) (j : ℕ) → StaysGot (mark_at marks j) (mark_at (all_got o standing marks) j)
all_got_stays o [] marks j g = g
all_got_stays o (mark ∷ standing) marks j g = all_got_stays o standing (with_got o marks mark) j (with_got_stays o marks mark j g)

-- the mark of this requester is got
with_got_got : (o : Owner) (marks : List WaitMark) (k : ℕ) → k < length marks → same_owner (mark_at marks k).requester o ≡ true → (mark_at (with_got o marks (Some k)) k).got ≡ true
with_got_got o marks k l e = rw e (ap (λ (m : WaitMark). m.got) (get_or-set_same marks k (record (mark_at marks k) { got = true }) no_mark l))

all_got_got : (o : Owner) (standing : List (Option ℕ)) (marks : List WaitMark) (d k : ℕ) → get_or standing d None ≡ Some k → k < length marks → same_owner (mark_at marks k).requester o ≡ true → (mark_at (all_got o standing marks) k).got ≡ true
all_got_got o [] marks d k s l e = absurd cc
all_got_got o (mark ∷ standing) marks zero k s l e = all_got_stays o standing (with_got o marks mark) k (rw s (with_got_got o marks k l e))
all_got_got o (mark ∷ standing) marks (suc d) k s l e =
    all_got_got o standing (with_got o marks mark) d k s
    (omega (arith, l, with_got_size o marks mark))
    (ap (λ r. same_owner r o) (with_got_alike o marks mark k).requester ∙ e)

-- a step counts in the mark that stands, and in no other
counted_in_other : (mark : Option ℕ) (marks : List WaitMark) (k : ℕ) → (mark ≡ Some k → ⊥) → mark_at (counted_in mark marks) k ≡ mark_at marks k
counted_in_other None marks k n = refl
counted_in_other (Some j) marks k n = get_or-set_other marks j k (used_once (mark_at marks j)) no_mark (λ e. n (ap Some (sym e)))

counted_other : (c : ℕ) (b : Bool) (l : WaitLog) (k : ℕ) → (standing_at l c ≡ Some k → ⊥) → mark_at (with_use c b l).marks k ≡ mark_at l.marks k
counted_other c true l k n = counted_in_other (standing_at l c) l.marks k n
counted_other c false l k n = refl

gone_where_got : (o : Owner) (l : WaitLog) (c k : ℕ) → same_owner (mark_at l.marks k).requester o ≡ true → standing_at (got_by o l) c ≡ Some k → ⊥
gone_where_got o l c k e s =
    let other = still_other o l.marks (standing_at l c) k (sym (mapped_at (still_waits o l.marks) refl l.standing c) ∙ s) in
    let no : true ≡ false = sym e ∙ other.1 in absurd cc

pub got_uncounted : (w : World) (c : ℕ) (b : Bool) (v : ContextSeen) (l : WaitLog) (d k : ℕ) → IsLawfulLog l → standing_at l d ≡ Some k → same_owner (mark_at l.marks k).requester (owner_of v) ≡ true → IsGot l (waits_by w c b (Onward v) l) d k
got_uncounted w c b v l d k h s e =
    let same : mark_at (with_use c (has_mark v) (got_by (owner_of v) l)).marks k ≡ mark_at (got_by (owner_of v) l).marks k = counted_other c (has_mark v) (got_by (owner_of v) l) k (gone_where_got (owner_of v) l c k e) in
    record {
      got = ap (λ (m : WaitMark). m.got) same ∙ all_got_got (owner_of v) l.standing l.marks d k s (h.standing d k s).inside e;
      used = ap (λ (m : WaitMark). m.used) same ∙ all_got_used (owner_of v) l.standing l.marks k;
      over = counted_standing c d (has_mark v) (got_by (owner_of v) l) ∙ (mapped_at (still_waits (owner_of v) l.marks) refl l.standing d ∙ (ap (still_waits (owner_of v) l.marks) s ∙ rw e refl));
    }

-- 4. WHO ASKS AGAIN ADDS NOTHING

again_by : (c : ℕ) (v : ContextSeen) (wanted : Want) (holder : ContextSeen) (mark : Option ℕ) (l : WaitLog) (k : ℕ) → mark ≡ Some k → held_up_by c false v wanted holder mark l ≡ l
again_by c v wanted holder None l k e = absurd cc
again_by c v wanted holder (Some j) l k e = refl

pub asks_again : (c : ℕ) (v : ContextSeen) (wanted : Want) (holder : Option ContextSeen) (l : WaitLog) (k : ℕ) → standing_at l c ≡ Some k → held_up c false v wanted holder l ≡ l
asks_again c v wanted None l k e = refl
asks_again c v wanted (Some holder) l k e = again_by c v wanted holder (standing_at l c) l k e

-- 5. BROKEN BY A DROPPED GOAL

none_set : (standing : List (Option ℕ)) (c : ℕ) → get_or (slice_set standing c None) c None ≡ None
none_set standing c = elim (cases_lt c (length standing)) [
  | inl l ↦ get_or-set_same standing c None None l
  | inr g ↦ ap (λ ys. get_or ys c None) (set_past standing c None g) ∙ get_or_past standing c None g
]

pub dropped_broken : (w : World) (s : CarrierStep) → same_goal s.before.goal (carrier_after s).goal ≡ false → standing_at (waits_after w s) s.number ≡ None
dropped_broken w s e = rw e (none_set _ s.number)
