-- Each step leaves the log of waits lawful: first the steps that change no links, then a mark that begins, and a link that is added.
use Rattle.std.proofs.Common.{◌≡◌, ℕ, zero, suc, ◌+◌, ◌<◌, ◌≤◌, ◌==◌, Bool, true, false, cond, List, [], ◌∷◌, ◌++◌, length, get_or, take, Option, Some, None, refl, sym, ap, ◌∙◌, ◌⊎◌, subst, arith, inl, inr}
use Rattle.std.specs.List.{AllByRecursion, slice_set, sum_by}
use Rattle.std.proofs.lemmas.Bool.{and_left, cases_Bool, cases_eq, cases_lt, eq-eqb, ne_eqb}
use Rattle.std.proofs.lemmas.List.{append-nil, get_or_append_left, get_or_push, get_or-set_other, get_or-set_same, length-set, length_push, set_past, take-append-le, take_at}
use Rattle.std.proofs.lemmas.List.Elements.{filter-append}
use Rattle.std.proofs.lemmas.List.Sums.{sum_by-append, sum_by-cons}
use Rattle.k_lists.proofs.All.{all_weaker}
use Rattle.k_lists.proofs.Distinct.{distinct_push}
use Rattle.k_context.specs.declared.owner.Owner.{Owner}
use Rattle.k_context.specs.Contexts.{ContextSeen}
use Rattle.k_carrier.specs.declared.marks.Link.{Link}
use Rattle.k_carrier.specs.declared.marks.WaitMark.{WaitMark}
use Rattle.k_carrier.specs.declared.marks.Want.{Want}
use Rattle.k_carrier.specs.Rules.{is_interrupted}
use Rattle.k_carrier.specs.Seen.{CarrierSeen}
use Rattle.k_world.specs.Lawful.{IsLawfulLog, IsLawfulWait, IsStanding, allowed_by, first_want, links_of}
use Rattle.k_world.specs.Marks.{all_got, mark_begun, broken, capped, chained, with_use, counted_in, dropped, got_by, held_up, held_up_by, is_alike, is_linked, is_of, link_of, with_link, mark_at, mark_of, more_allowed, no_mark, same_owner, standing_at, still_waits, unbroken, used_once, with_got}
use Rattle.k_world.specs.Worlds.{WaitLog}
use Rattle.k_world.proofs.Lists.{any_none, fewer_set, mapped_at, none_passes, set_keeps}

-- WHAT A MARK KEEPS

-- all but whether it was got, and what was used
pub record Alike (m m' : WaitMark) : Type 0 where
  pub requester : m'.requester ≡ m.requester
  pub wants : m'.wants ≡ m.wants
  pub allowed : m'.allowed ≡ m.allowed
  pub first : m'.first ≡ m.first
  pub count : m'.count ≡ m.count

alike_same : (m : WaitMark) → Alike m m
alike_same m = record { requester = refl; wants = refl; allowed = refl; first = refl; count = refl }

alike_next : (a b c : WaitMark) → Alike a b → Alike b c → Alike a c
alike_next a b c h g = record {
  requester = g.requester ∙ h.requester;
  wants = g.wants ∙ h.wants;
  allowed = g.allowed ∙ h.allowed;
  first = g.first ∙ h.first;
  count = g.count ∙ h.count;
}

wait_alike : (links : List Link) (k : ℕ) (m m' : WaitMark) → Alike m m' → IsLawfulWait links k m → IsLawfulWait links k m'
wait_alike links k m m' e h = record {
  inside = subst (λ n. n < length links) (sym e.first) h.inside;
  first = ap (λ n. links_of k (take n links)) e.first ∙ h.first;
  count = e.count ∙ h.count;
  wanted = h.wanted ∙ ap Some (sym e.wants);
  allowed = e.allowed ∙ h.allowed;
}

-- A log with the same links, of which the same marks stand or fewer.
record Follows (l l' : WaitLog) : Type 0 where
  pub links : l'.links ≡ l.links
  pub size : length l'.marks ≡ length l.marks
  pub alike : (k : ℕ) → Alike (mark_at l.marks k) (mark_at l'.marks k)
  pub fewer : (c k : ℕ) → standing_at l' c ≡ Some k → standing_at l c ≡ Some k
  pub waiting : (c k : ℕ) → standing_at l' c ≡ Some k → (mark_at l.marks k).got ≡ false → (mark_at l'.marks k).got ≡ false

lawful_follows : (l l' : WaitLog) → Follows l l' → IsLawfulLog l → IsLawfulLog l'
lawful_follows l l' f h = record {
  waits = λ k i. rw f.links (wait_alike l.links k (mark_at l.marks k) (mark_at l'.marks k) (f.alike k) (h.waits k (subst (λ n. k < n) f.size i)));
  once = rw f.links h.once;
  known = λ k i. rw f.links (h.known k (subst (λ n. n ≤ k) f.size i));
  standing = λ c k s. record {
    inside = subst (λ n. k < n) (sym f.size) (h.standing c k (f.fewer c k s)).inside;
    waiting = f.waiting c k s (h.standing c k (f.fewer c k s)).waiting;
  };
  apart = λ c d k s t. h.apart c d k (f.fewer c k s) (f.fewer d k t);
}

-- fewer marks that stand, and all else as it was
follows_fewer : (l : WaitLog) (standing : List (Option ℕ)) → ((c k : ℕ) → get_or standing c None ≡ Some k → standing_at l c ≡ Some k) → Follows l (record l { standing = standing })
follows_fewer l standing f = record {
  links = refl;
  size = refl;
  alike = λ k. alike_same (mark_at l.marks k);
  fewer = f;
  waiting = λ c k s g. g;
}

-- BROKEN, DROPPED

broken_fewer : (ks : List CarrierSeen) (standing : List (Option ℕ)) (c k : ℕ) → get_or (broken ks standing) c None ≡ Some k → get_or standing c None ≡ Some k
broken_fewer [] standing c k h = h
broken_fewer (x ∷ ks) [] c k h = h
broken_fewer (x ∷ ks) (mark ∷ standing) zero k h = unbroken_fewer (is_interrupted x) mark k h
  where
    unbroken_fewer : (b : Bool) (mark : Option ℕ) (k : ℕ) → unbroken b mark ≡ Some k → mark ≡ Some k
    unbroken_fewer true mark k h = absurd cc
    unbroken_fewer false mark k h = h
broken_fewer (x ∷ ks) (mark ∷ standing) (suc c) k h = broken_fewer ks standing c k h

pub lawful_broken : (ks : List CarrierSeen) (l : WaitLog) → IsLawfulLog l → IsLawfulLog (record l { standing = broken ks l.standing })
lawful_broken ks l = lawful_follows l (record l { standing = broken ks l.standing }) (follows_fewer l (broken ks l.standing) (broken_fewer ks l.standing))

pub lawful_dropped : (c : ℕ) (b : Bool) (l : WaitLog) → IsLawfulLog l → IsLawfulLog (dropped c b l)
lawful_dropped c true l h = lawful_follows l (dropped c true l) (follows_fewer l (slice_set l.standing c None) (fewer_set l.standing c)) h
lawful_dropped c false l h = h

-- COUNTED

used_alike : (m : WaitMark) → Alike m (used_once m)
used_alike m = record { requester = refl; wants = refl; allowed = refl; first = refl; count = refl }

follows_counted : (c : ℕ) (mark : Option ℕ) (l : WaitLog) → Follows l (record l { marks = counted_in mark l.marks })
follows_counted c None l = follows_fewer l l.standing (λ c k s. s)
follows_counted c (Some k) l = record {
  links = refl;
  size = length-set l.marks k (used_once (mark_at l.marks k));
  alike = set_keeps Alike alike_same l.marks k (used_once (mark_at l.marks k)) no_mark (used_alike (mark_at l.marks k));
  fewer = λ c j s. s;
  waiting = λ c j s g. set_keeps (λ m m'. m.got ≡ false → m'.got ≡ false) (λ m e. e) l.marks k (used_once (mark_at l.marks k)) no_mark (λ e. e) j g;
}

pub lawful_counted : (c : ℕ) (b : Bool) (l : WaitLog) → IsLawfulLog l → IsLawfulLog (with_use c b l)
lawful_counted c true l h = lawful_follows l (with_use c true l) (follows_counted c (standing_at l c) l) h
lawful_counted c false l h = h

-- GOT

got_alike : (m : WaitMark) → Alike m (record m { got = true })
got_alike m = record { requester = refl; wants = refl; allowed = refl; first = refl; count = refl }

pub with_got_alike : (o : Owner) (marks : List WaitMark) (mark : Option ℕ) (j : ℕ) → Alike (mark_at marks j) (mark_at (with_got o marks mark) j)
with_got_alike o marks None j = alike_same (mark_at marks j)
with_got_alike o marks (Some k) j = elim (cases_Bool (is_of o marks (Some k))) [
  | inl t ↦ rw t (set_keeps Alike alike_same marks k (record (mark_at marks k) { got = true }) no_mark (got_alike (mark_at marks k)) j)
  | inr f ↦ rw f (alike_same (mark_at marks j))
]

pub with_got_size : (o : Owner) (marks : List WaitMark) (mark : Option ℕ) → length (with_got o marks mark) ≡ length marks
with_got_size o marks None = refl
with_got_size o marks (Some k) = elim (cases_Bool (is_of o marks (Some k))) [
  | inl t ↦ rw t (length-set marks k (record (mark_at marks k) { got = true }))
  | inr f ↦ rw f refl
]

-- a mark of another requester is as it was
pub with_got_other : (o : Owner) (marks : List WaitMark) (mark : Option ℕ) (j : ℕ) → same_owner (mark_at marks j).requester o ≡ false → mark_at (with_got o marks mark) j ≡ mark_at marks j
with_got_other o marks None j n = refl
with_got_other o marks (Some k) j n = elim (cases_Bool (is_of o marks (Some k))) [
  | inl t ↦ elim (cases_eq j k) [
    | inl e ↦ let no : true ≡ false = sym t ∙ (ap (λ i. same_owner (mark_at marks i).requester o) (sym e) ∙ n) in absurd cc
    | inr d ↦ rw t (get_or-set_other marks k j (record (mark_at marks k) { got = true }) no_mark d)
  ]
  | inr f ↦ rw f refl
]

all_got_alike : (o : Owner) (standing : List (Option ℕ)) (marks : List WaitMark) (j : ℕ) → Alike (mark_at marks j) (mark_at (all_got o standing marks) j)
all_got_alike o [] marks j = alike_same (mark_at marks j)
all_got_alike o (mark ∷ standing) marks j = alike_next (mark_at marks j) (mark_at (with_got o marks mark) j) (mark_at (all_got o standing (with_got o marks mark)) j) (with_got_alike o marks mark j) (all_got_alike o standing (with_got o marks mark) j)

pub all_got_size : (o : Owner) (standing : List (Option ℕ)) (marks : List WaitMark) → length (all_got o standing marks) ≡ length marks
all_got_size o [] marks = refl
all_got_size o (mark ∷ standing) marks = all_got_size o standing (with_got o marks mark) ∙ with_got_size o marks mark

all_got_other : (o : Owner) (standing : List (Option ℕ)) (marks : List WaitMark) (j : ℕ) → same_owner (mark_at marks j).requester o ≡ false → mark_at (all_got o standing marks) j ≡ mark_at marks j
all_got_other o [] marks j n = refl
all_got_other o (mark ∷ standing) marks j n =
    let kept : mark_at (with_got o marks mark) j ≡ mark_at marks j = with_got_other o marks mark j n in
    all_got_other o standing (with_got o marks mark) j (ap (λ (m : WaitMark). same_owner m.requester o) kept ∙ n) ∙ kept

-- whose mark stands then stood before, and is another's
pub still_other : (o : Owner) (marks : List WaitMark) (mark : Option ℕ) (k : ℕ) → still_waits o marks mark ≡ Some k → (mark ≡ Some k) × (same_owner (mark_at marks k).requester o ≡ false)
still_other o marks None k h = absurd cc
still_other o marks (Some j) k h = elim (cases_Bool (is_of o marks (Some j))) [
  | inl t ↦ let no : None ≡ Some k = sym (rw t refl) ∙ h in absurd cc
  | inr f ↦
      let same : Some j ≡ Some k = sym (rw f refl) ∙ h in
      let it : j ≡ k = cc in
      (same, sym (ap (λ (i : ℕ). same_owner (mark_at marks i).requester o) it) ∙ f)
]

follows_got : (o : Owner) (l : WaitLog) → Follows l (got_by o l)
follows_got o l = record {
  links = refl;
  size = all_got_size o l.standing l.marks;
  alike = all_got_alike o l.standing l.marks;
  fewer = λ c k s. (other c k s).0;
  waiting = λ c k s g. ap (λ (m : WaitMark). m.got) (all_got_other o l.standing l.marks k (other c k s).1) ∙ g;
}
  where
    other : (c k : ℕ) → standing_at (got_by o l) c ≡ Some k → (standing_at l c ≡ Some k) × (same_owner (mark_at l.marks k).requester o ≡ false)
    other c k s = still_other o l.marks (standing_at l c) k (sym (mapped_at (still_waits o l.marks) refl l.standing c) ∙ s)

pub lawful_got : (o : Owner) (l : WaitLog) → IsLawfulLog l → IsLawfulLog (got_by o l)
lawful_got o l = lawful_follows l (got_by o l) (follows_got o l)

-- A MARK BEGINS

-- the links of a mark, with one link more
links_more : (k : ℕ) (links : List Link) (link : Link) → links_of k (links ++ link ∷ []) ≡ links_of k links ++ cond (link.mark == k) (link ∷ []) []
links_more k links link = filter-append (λ (l : Link). l.mark == k) links (link ∷ [])

links_other : (k : ℕ) (links : List Link) (link : Link) → (link.mark ≡ k → ⊥) → links_of k (links ++ link ∷ []) ≡ links_of k links
links_other k links link n = links_more k links link ∙ rw (ne_eqb link.mark k n) (append-nil (links_of k links))

links_same : (k : ℕ) (links : List Link) (link : Link) → link.mark ≡ k → links_of k (links ++ link ∷ []) ≡ links_of k links ++ link ∷ []
links_same k links link e = links_more k links link ∙ rw (eq-eqb link.mark k e) refl

-- a mark whose links are the same in a longer log
wait_longer : (k : ℕ) (links : List Link) (link : Link) (m : WaitMark) → (link.mark ≡ k → ⊥) → IsLawfulWait links k m → IsLawfulWait (links ++ link ∷ []) k m
wait_longer k links link m n h = record {
  inside = omega (arith, length_push links link, h.inside);
  first = ap (links_of k) (take-append-le m.first links (link ∷ []) (omega (arith, h.inside))) ∙ h.first;
  count = h.count ∙ ap (λ ls. capped (length ls)) (sym (links_other k links link n));
  wanted = ap first_want (links_other k links link n) ∙ h.wanted;
  allowed = h.allowed ∙ ap allowed_by (sym (links_other k links link n));
}

-- no link in the log is of a mark that isn't there
not_alike : (link : Link) (links : List Link) → links_of link.mark links ≡ [] → AllByRecursion (λ l. is_alike l link ≡ false) links
not_alike link links h = all_weaker (λ (l : Link). (l.mark == link.mark) ≡ false) (λ l. is_alike l link ≡ false) (λ l e. and_left (l.mark == link.mark) _ e) links (none_passes (λ (l : Link). l.mark == link.mark) links h)

-- a mark with its first link
wait_new : (n : ℕ) (v : ContextSeen) (wanted : Want) (link : Link) (links : List Link) → link.mark ≡ n → link.wants ≡ wanted → links_of n links ≡ [] → IsLawfulWait (links ++ link ∷ []) n (mark_of v wanted (length links) link.left)
wait_new n v wanted link links of for none = record {
  inside = omega (arith, length_push links link);
  first = ap (links_of n) (take_at links (link ∷ []) (length links) refl) ∙ none;
  count = sym (ap (λ ls. capped (length ls)) one ∙ omega arith);
  wanted = ap first_want one ∙ ap Some for;
  allowed = sym (ap allowed_by one ∙ ap capped (omega (arith, sum_by-cons (λ (l : Link). l.left) link [])));
}
  where
    one : links_of n (links ++ link ∷ []) ≡ link ∷ []
    one = links_same n links link of ∙ ap (λ ls. ls ++ link ∷ []) none

-- which mark stands of a carrier, once this one stands of that one
set_stands : (standing : List (Option ℕ)) (c d n k : ℕ) → get_or (slice_set standing c (Some n)) d None ≡ Some k → ((d ≡ c) × (k ≡ n)) ⊎ (get_or standing d None ≡ Some k)
set_stands standing c d n k h = elim (cases_eq d c) [
  | inl e ↦ elim (cases_lt c (length standing)) [
    | inl l ↦ let both : Some n ≡ Some k = sym (get_or-set_same standing c (Some n) None l) ∙ (ap (λ i. get_or (slice_set standing c (Some n)) i None) (sym e) ∙ h) in inl (e, cc)
    | inr g ↦ inr (sym (ap (λ ys. get_or ys d None) (set_past standing c (Some n) g)) ∙ h)
  ]
  | inr o ↦ inr (sym (get_or-set_other standing c d (Some n) None o) ∙ h)
]

begun_wait : (c : ℕ) (v : ContextSeen) (wanted : Want) (link : Link) (l : WaitLog) → link.mark ≡ length l.marks → link.wants ≡ wanted → IsLawfulLog l → (k : ℕ) → k < length (mark_begun c v wanted link l).marks → IsLawfulWait (mark_begun c v wanted link l).links k (mark_at (mark_begun c v wanted link l).marks k)
begun_wait c v wanted link l of for h k i = elim (cases_lt k (length l.marks)) [
  | inl old ↦ rw (get_or_append_left l.marks (mark_of v wanted (length l.links) link.left ∷ []) no_mark k old)
      (wait_longer k l.links link (mark_at l.marks k) (λ e. absurd (omega (arith, e, of, old))) (h.waits k old))
  | inr last ↦
      let new : length l.marks ≡ k = omega (arith, i, last, length_push l.marks (mark_of v wanted (length l.links) link.left)) in
      rw (get_or_push l.marks (mark_of v wanted (length l.links) link.left) no_mark k new)
      (wait_new k v wanted link l.links (of ∙ new) for (h.known k last))
]

begun_standing : (c : ℕ) (v : ContextSeen) (wanted : Want) (link : Link) (l : WaitLog) → IsLawfulLog l → (d k : ℕ) → standing_at (mark_begun c v wanted link l) d ≡ Some k → IsStanding (mark_begun c v wanted link l) k
begun_standing c v wanted link l h d k s = elim (set_stands l.standing c d (length l.marks) k s) [
  | inl new ↦ record {
    inside = omega (arith, new.1, length_push l.marks (mark_of v wanted (length l.links) link.left));
    waiting = ap (λ (m : WaitMark). m.got) (get_or_push l.marks (mark_of v wanted (length l.links) link.left) no_mark k (sym new.1));
  }
  | inr old ↦
      let was : IsStanding l k = h.standing d k old in
      record {
        inside = omega (arith, was.inside, length_push l.marks (mark_of v wanted (length l.links) link.left));
        waiting = ap (λ (m : WaitMark). m.got) (get_or_append_left l.marks (mark_of v wanted (length l.links) link.left ∷ []) no_mark k was.inside) ∙ was.waiting;
      }
]

begun_apart : (c : ℕ) (v : ContextSeen) (wanted : Want) (link : Link) (l : WaitLog) → IsLawfulLog l → (d e k : ℕ) → standing_at (mark_begun c v wanted link l) d ≡ Some k → standing_at (mark_begun c v wanted link l) e ≡ Some k → d ≡ e
begun_apart c v wanted link l h d e k s t = elim (set_stands l.standing c d (length l.marks) k s) [
  | inl new ↦ elim (set_stands l.standing c e (length l.marks) k t) [
    | inl too ↦ new.0 ∙ sym too.0
    | inr old ↦ absurd (omega (arith, new.1, (h.standing e k old).inside))
  ]
  | inr was ↦ elim (set_stands l.standing c e (length l.marks) k t) [
    | inl new ↦ absurd (omega (arith, new.1, (h.standing d k was).inside))
    | inr old ↦ h.apart d e k was old
  ]
]

lawful_begun : (c : ℕ) (v : ContextSeen) (wanted : Want) (link : Link) (l : WaitLog) → link.mark ≡ length l.marks → link.wants ≡ wanted → IsLawfulLog l → IsLawfulLog (mark_begun c v wanted link l)
lawful_begun c v wanted link l of for h = record {
  waits = begun_wait c v wanted link l of for h;
  once = distinct_push is_alike l.links link h.once (not_alike link l.links (h.known link.mark (omega (arith, of))));
  known = λ k i.
      let past : length l.marks + 1 ≤ k = omega (arith, i, length_push l.marks (mark_of v wanted (length l.links) link.left)) in
      links_other k l.links link (λ e. absurd (omega (arith, e, of, past))) ∙ h.known k (omega (arith, past));
  standing = begun_standing c v wanted link l h;
  apart = begun_apart c v wanted link l h;
}

-- A LINK IS ADDED

first_more : (links : List Link) (link : Link) (wanted : Want) → first_want links ≡ Some wanted → first_want (links ++ link ∷ []) ≡ Some wanted
first_more [] link wanted h = absurd cc
first_more (x ∷ links) link wanted h = h

sum_more : (links : List Link) (link : Link) → sum_by (λ (l : Link). l.left) (links ++ link ∷ []) ≡ sum_by (λ (l : Link). l.left) links + link.left
sum_more links link = sum_by-append (λ (l : Link). l.left) links (link ∷ []) ∙ omega (arith, sum_by-cons (λ (l : Link). l.left) link [])

-- a mark with one link more
wait_more : (k : ℕ) (links : List Link) (link : Link) (m : WaitMark) → link.mark ≡ k → IsLawfulWait links k m → IsLawfulWait (links ++ link ∷ []) k (more_allowed link.left m)
wait_more k links link m of h = record {
  inside = omega (arith, length_push links link, h.inside);
  first = ap (links_of k) (take-append-le m.first links (link ∷ []) (omega (arith, h.inside))) ∙ h.first;
  count = omega (arith, h.count, ap length one, length_push (links_of k links) link);
  wanted = ap first_want one ∙ first_more (links_of k links) link m.wants h.wanted;
  allowed = omega (arith, h.allowed, ap (sum_by (λ (l : Link). l.left)) one, sum_more (links_of k links) link);
}
  where
    one : links_of k (links ++ link ∷ []) ≡ links_of k links ++ link ∷ []
    one = links_same k links link of

linked_wait : (link : Link) (l : WaitLog) → link.mark < length l.marks → IsLawfulLog l → (k : ℕ) → k < length (with_link link l).marks → IsLawfulWait (with_link link l).links k (mark_at (with_link link l).marks k)
linked_wait link l inside h k i =
    let here : k < length l.marks = omega (arith, i, length-set l.marks link.mark (more_allowed link.left (mark_at l.marks link.mark))) in
    elim (cases_eq k link.mark) [
      | inl e ↦ rw e (rw (get_or-set_same l.marks link.mark (more_allowed link.left (mark_at l.marks link.mark)) no_mark inside)
          (wait_more link.mark l.links link (mark_at l.marks link.mark) refl (h.waits link.mark inside)))
      | inr n ↦ rw (get_or-set_other l.marks link.mark k (more_allowed link.left (mark_at l.marks link.mark)) no_mark n)
          (wait_longer k l.links link (mark_at l.marks k) (λ e. n (sym e)) (h.waits k here))
    ]

lawful_linked : (link : Link) (l : WaitLog) → link.mark < length l.marks → is_linked link l.links ≡ false → IsLawfulLog l → IsLawfulLog (with_link link l)
lawful_linked link l inside fresh h = record {
  waits = linked_wait link l inside h;
  once = distinct_push is_alike l.links link h.once (any_none (λ x. is_alike x link) l.links fresh);
  known = λ k i.
      let past : length l.marks ≤ k = omega (arith, i, size) in
      links_other k l.links link (λ e. absurd (omega (arith, e, inside, past))) ∙ h.known k past;
  standing = λ c k s. record {
    inside = omega (arith, size, (h.standing c k s).inside);
    waiting = set_keeps (λ (m m' : WaitMark). m.got ≡ false → m'.got ≡ false) (λ m e. e) l.marks link.mark (more_allowed link.left (mark_at l.marks link.mark)) no_mark (λ e. e) k (h.standing c k s).waiting;
  };
  apart = h.apart;
}
  where
    size : length (with_link link l).marks ≡ length l.marks
    size = length-set l.marks link.mark (more_allowed link.left (mark_at l.marks link.mark))

lawful_chained : (link : Link) (l : WaitLog) → link.mark < length l.marks → IsLawfulLog l → IsLawfulLog (chained link l)
lawful_chained link l inside h = elim (cases_Bool (is_linked link l.links)) [
  | inl t ↦ rw t h
  | inr f ↦ rw f (lawful_linked link l inside f h)
]

-- HELD UP

lawful_held_up_by : (c : ℕ) (b : Bool) (v : ContextSeen) (wanted : Want) (holder : ContextSeen) (mark : Option ℕ) (l : WaitLog) → standing_at l c ≡ mark → IsLawfulLog l → IsLawfulLog (held_up_by c b v wanted holder mark l)
lawful_held_up_by c true v wanted holder None l s h = h
lawful_held_up_by c true v wanted holder (Some k) l s h = lawful_chained (link_of k holder wanted) l (h.standing c k s).inside h
lawful_held_up_by c false v wanted holder None l s h = lawful_begun c v wanted (link_of (length l.marks) holder wanted) l refl refl h
lawful_held_up_by c false v wanted holder (Some k) l s h = h

pub lawful_held_up : (c : ℕ) (b : Bool) (v : ContextSeen) (wanted : Want) (holder : Option ContextSeen) (l : WaitLog) → IsLawfulLog l → IsLawfulLog (held_up c b v wanted holder l)
lawful_held_up c b v wanted None l h = h
lawful_held_up c b v wanted (Some holder) l h = lawful_held_up_by c b v wanted holder (standing_at l c) l refl h
