-- What a step makes of the log of waits: of no mark more steps are used than its links allow.
use Rattle.std.proofs.Common.{◌≡◌, ℕ, ◌^◌, ◌-◌, ◌<◌, ◌≤◌, Bool, true, false, refl, sym, ap, ◌∙◌, subst, List, [], ◌∷◌, ◌++◌}
use Rattle.std.proofs.Common.{length, get_or, Option, Some, None, arith, inl, inr}
use Rattle.std.specs.List.{slice_set}
use Rattle.std.specs.Prelude.{if◌then◌else◌}
use Rattle.std.proofs.lemmas.Bool.{cases_Bool, cases_eq, cases_lt}
use Rattle.std.proofs.lemmas.List.{get_or_append_left, get_or_push, get_or-set_other, get_or-set_same}
use Rattle.std.proofs.lemmas.List.{length-map, length-set, length_push}
use Rattle.k_context.specs.declared.owner.Owner.{Owner}
use Rattle.k_context.specs.Contexts.{ContextSeen}
use Rattle.k_carrier.specs.declared.marks.Link.{Link}
use Rattle.k_carrier.specs.declared.marks.WaitMark.{WaitMark}
use Rattle.k_carrier.specs.declared.marks.Want.{Want}
use Rattle.k_carrier.specs.Seen.{CarrierSeen}
use Rattle.k_world.specs.Marks.{all_got, broken, counted_in, dropped, got_by, held_up, held_up_by, is_linked, is_of, link_of}
use Rattle.k_world.specs.Marks.{mark_at, mark_of, more_allowed, no_mark, with_link}
use Rattle.k_world.specs.Marks.{same_owner, standing_at, still_waits, used_once, with_got, with_use}
use Rattle.k_world.specs.Worlds.{WaitLog}
use Rattle.k_world.proofs.Lists.{mapped_at, set_keeps}
use Rattle.k_world.proofs.Waits.{all_got_size, still_other, with_got_other}

-- NO MORE IS USED THAN ALLOWED

abbrev pub IsWithin : WaitMark → Type 0
IsWithin m = m.used ≤ m.allowed

abbrev pub AreWithin : List WaitMark → Type 0
AreWithin marks = (k : ℕ) → k < length marks → IsWithin (mark_at marks k)

pub within_set : (marks : List WaitMark) (k : ℕ) (m : WaitMark) → AreWithin marks → (k < length marks → IsWithin m) →
    AreWithin (slice_set marks k m)
within_set marks k m h ok j low = elim (cases_eq j k) [
  | inl e ↦
      let inside : k < length marks = subst (λ i. i < length marks) e (subst (λ n. j < n) (length-set marks k m) low) in
      subst IsWithin (sym (ap (mark_at (slice_set marks k m)) e ∙ get_or-set_same marks k m no_mark inside)) (ok inside)
  | inr ne ↦
      subst IsWithin (sym (get_or-set_other marks k j m no_mark ne)) (h j (subst (λ n. j < n) (length-set marks k m) low))
]

with_got_within : (o : Owner) (marks : List WaitMark) (mark : Option ℕ) → AreWithin marks → AreWithin (with_got o marks mark)
with_got_within o marks None h = h
with_got_within o marks (Some k) h = elim (cases_Bool (is_of o marks (Some k))) [
  | inl t ↦ rw t (within_set marks k (record (mark_at marks k) { got = true }) h (λ low. h k low))
  | inr f ↦ rw f h
]

pub got_within : (o : Owner) (standing : List (Option ℕ)) (marks : List WaitMark) → AreWithin marks →
    AreWithin (all_got o standing marks)
got_within o [] marks h = h
got_within o (mark ∷ standing) marks h = got_within o standing (with_got o marks mark) (with_got_within o marks mark h)

-- a mark of another requester is as it was
pub got_other : (o : Owner) (standing : List (Option ℕ)) (marks : List WaitMark) (k : ℕ) →
    same_owner (mark_at marks k).requester o ≡ false → mark_at (all_got o standing marks) k ≡ mark_at marks k
got_other o [] marks k n = refl
got_other o (mark ∷ standing) marks k n =
    let kept : mark_at (with_got o marks mark) k ≡ mark_at marks k = with_got_other o marks mark k n in
    got_other o standing (with_got o marks mark) k (ap (λ (m : WaitMark). same_owner m.requester o) kept ∙ n) ∙ kept

pub counted_within : (mark : Option ℕ) (marks : List WaitMark) → AreWithin marks →
    ((k : ℕ) → mark ≡ Some k → IsWithin (used_once (mark_at marks k))) → AreWithin (counted_in mark marks)
counted_within None marks h once = h
counted_within (Some k) marks h once = within_set marks k (used_once (mark_at marks k)) h (λ low. once k refl)

-- a link more allows no less
pub linked_within : (marks : List WaitMark) (k left : ℕ) → AreWithin marks →
    (k < length marks → (mark_at marks k).allowed ≤ 2 ^ 32 - 1) →
    AreWithin (slice_set marks k (more_allowed left (mark_at marks k)))
linked_within marks k left h few =
    within_set marks k (more_allowed left (mark_at marks k)) h (λ low. let u = h k low in let a = few low in omega (arith, u, a))

pub begun_within : (marks : List WaitMark) (m : WaitMark) → AreWithin marks → IsWithin m → AreWithin (marks ++ m ∷ [])
begun_within marks m h ok j low = elim (cases_lt j (length marks)) [
  | inl inside ↦ subst IsWithin (sym (get_or_append_left marks (m ∷ []) no_mark j inside)) (h j inside)
  | inr past ↦
      let size = length_push marks m in
      let e : length marks ≡ j = omega (arith, low, past, size) in
      subst IsWithin (sym (get_or_push marks m no_mark j e)) ok
]

-- WHAT STANDS

pub broken_size : (ks : List CarrierSeen) (standing : List (Option ℕ)) → length ks ≡ 1 → length standing ≡ 1 →
    length (broken ks standing) ≡ 1
broken_size [] standing one size = absurd (omega (arith, one))
broken_size (k ∷ ks) [] one size = absurd (omega (arith, size))
broken_size (k ∷ []) (m ∷ standing) one size = size
broken_size (k ∷ j ∷ ks) (m ∷ standing) one size = absurd (omega (arith, one))

pub standing_set : (standing : List (Option ℕ)) (o : Option ℕ) → length standing ≡ 1 → get_or (slice_set standing 0 o) 0 None ≡ o
standing_set standing o size = get_or-set_same standing 0 o None (omega (arith, size))

-- What stands then wasn't dropped.
pub not_dropped : (b : Bool) (l : WaitLog) (k : ℕ) → length l.standing ≡ 1 → standing_at (dropped 0 b l) 0 ≡ Some k →
    (b ≡ false) × (standing_at l 0 ≡ Some k)
not_dropped true l k size e = let no : None ≡ Some k = sym (standing_set l.standing None size) ∙ e in absurd cc
not_dropped false l k size e = (refl, e)

-- What stands after a step of this owner is of another requester.
pub got_stands : (o : Owner) (l : WaitLog) (k : ℕ) → standing_at (got_by o l) 0 ≡ Some k →
    (standing_at l 0 ≡ Some k) × (same_owner (mark_at l.marks k).requester o ≡ false)
got_stands o l k e =
    still_other o l.marks (standing_at l 0) k (sym (mapped_at (still_waits o l.marks) refl l.standing 0) ∙ e)

-- WHAT A STEP LEAVES OF A MARK

pub dropped_marks : (b : Bool) (l : WaitLog) → (dropped 0 b l).marks ≡ l.marks
dropped_marks true l = refl
dropped_marks false l = refl

pub dropped_links : (b : Bool) (l : WaitLog) → (dropped 0 b l).links ≡ l.links
dropped_links true l = refl
dropped_links false l = refl

pub used_links : (b : Bool) (l : WaitLog) → (with_use 0 b l).links ≡ l.links
used_links true l = refl
used_links false l = refl

pub used_standing : (b : Bool) (l : WaitLog) → (with_use 0 b l).standing ≡ l.standing
used_standing true l = refl
used_standing false l = refl

-- a mark that stands, after a step of another owner, whether it has a mark or hasn't
pub counted_mark : (b : Bool) (o : Owner) (l : WaitLog) (k : ℕ) → standing_at (got_by o l) 0 ≡ Some k → k < length l.marks →
    mark_at (with_use 0 b (got_by o l)).marks k ≡ (if b then used_once (mark_at l.marks k) else mark_at l.marks k)
counted_mark b o l k e low = by b
  where
    kept : mark_at (all_got o l.standing l.marks) k ≡ mark_at l.marks k
    kept = got_other o l.standing l.marks k (got_stands o l k e).1

    inside : k < length (all_got o l.standing l.marks)
    inside = subst (λ n. k < n) (sym (all_got_size o l.standing l.marks)) low

    by : (b : Bool) → mark_at (with_use 0 b (got_by o l)).marks k ≡ (if b then used_once
        (mark_at l.marks k) else mark_at l.marks k)
    by false = kept
    by true =
        ap (λ (s : Option ℕ). mark_at (counted_in s (all_got o l.standing l.marks)) k) e
        ∙ get_or-set_same (all_got o l.standing l.marks) k (used_once (mark_at (all_got o l.standing l.marks) k)) no_mark inside
        ∙ ap used_once kept

-- all marks, where the one that stands has room for one more
pub onward_within : (b : Bool) (o : Owner) (l : WaitLog) → AreWithin l.marks →
    ((k : ℕ) → standing_at (got_by o l) 0 ≡ Some k → b ≡ true → IsWithin (used_once (mark_at l.marks k))) →
    AreWithin (with_use 0 b (got_by o l)).marks
onward_within false o l h once = got_within o l.standing l.marks h
onward_within true o l h once =
    counted_within (standing_at (got_by o l) 0) (all_got o l.standing l.marks) (got_within o l.standing l.marks h)
    (λ k e. subst (λ (m : WaitMark). IsWithin (used_once m)) (sym (got_other o l.standing l.marks k (got_stands o l k e).1))
    (once k e refl))

-- A STEP THAT IS HELD UP

pub linked_in : (link : Link) (l : WaitLog) (q : Bool) → AreWithin l.marks →
    ((k : ℕ) → k < length l.marks → (mark_at l.marks k).allowed ≤ 2 ^ 32 - 1) →
    AreWithin (if q then l else with_link link l).marks
linked_in link l true h few = h
linked_in link l false h few = linked_within l.marks link.mark link.left h (few link.mark)

held_in : (b : Bool) (v : ContextSeen) (wanted : Want) (holder : ContextSeen) (mark : Option ℕ) (l : WaitLog) →
    AreWithin l.marks →
    ((k : ℕ) → k < length l.marks → (mark_at l.marks k).allowed ≤ 2 ^ 32 - 1) →
    AreWithin (held_up_by 0 b v wanted holder mark l).marks
held_in true v wanted holder None l h few = h
held_in true v wanted holder (Some k) l h few =
    linked_in (link_of k holder wanted) l (is_linked (link_of k holder wanted) l.links) h few
held_in false v wanted holder None l h few =
    begun_within l.marks (mark_of v wanted (length l.links) (link_of (length l.marks) holder wanted).left) h (omega arith)
held_in false v wanted holder (Some k) l h few = h

pub held_within : (b : Bool) (v : ContextSeen) (wanted : Want) (c : Option ContextSeen) (l : WaitLog) → AreWithin l.marks →
    ((k : ℕ) → k < length l.marks → (mark_at l.marks k).allowed ≤ 2 ^ 32 - 1) → AreWithin (held_up 0 b v wanted c l).marks
held_within b v wanted None l h few = h
held_within b v wanted (Some holder) l h few = held_in b v wanted holder (standing_at l 0) l h few

linked_size : (link : Link) (l : WaitLog) (q : Bool) → length (if q then l else with_link link l).standing ≡ length l.standing
linked_size link l true = refl
linked_size link l false = refl

held_by_size : (b : Bool) (v : ContextSeen) (wanted : Want) (holder : ContextSeen) (mark : Option ℕ) (l : WaitLog) →
    length (held_up_by 0 b v wanted holder mark l).standing ≡ length l.standing
held_by_size true v wanted holder None l = refl
held_by_size true v wanted holder (Some k) l =
    linked_size (link_of k holder wanted) l (is_linked (link_of k holder wanted) l.links)
held_by_size false v wanted holder None l = length-set l.standing 0 (Some (length l.marks))
held_by_size false v wanted holder (Some k) l = refl

pub held_size : (b : Bool) (v : ContextSeen) (wanted : Want) (c : Option ContextSeen) (l : WaitLog) →
    length (held_up 0 b v wanted c l).standing ≡ length l.standing
held_size b v wanted None l = refl
held_size b v wanted (Some holder) l = held_by_size b v wanted holder (standing_at l 0) l

pub onward_size : (b : Bool) (o : Owner) (l : WaitLog) → length (with_use 0 b (got_by o l)).standing ≡ length l.standing
onward_size true o l = length-map l.standing (still_waits o l.marks)
onward_size false o l = length-map l.standing (still_waits o l.marks)

-- a link more is of the same requester
pub linked_requester : (marks : List WaitMark) (k left : ℕ) →
    (mark_at (slice_set marks k (more_allowed left (mark_at marks k))) k).requester ≡ (mark_at marks k).requester
linked_requester marks k left =
    set_keeps (λ m m'. m'.requester ≡ m.requester) (λ m. refl) marks k (more_allowed left (mark_at marks k)) no_mark refl k
