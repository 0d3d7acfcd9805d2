-- The marks that were looked at are got where they are of the requester.
use Rattle.std.proofs.Common.{◌≡◌, ℕ, zero, suc, ◌+◌, ◌<◌, List, [], ◌∷◌, ◌++◌, length, get_or, map, take, drop, Option, Some, None, refl, sym, subst, ap, arith, ◌∙◌, cond}
use Rattle.std.specs.List.{slice_set}
use Rattle.std.specs.Prelude.{IfSome}
use Rattle.std.proofs.lemmas.List.{get_or_default, length-map}
use Rattle.std.proofs.Math.Seq.{take-append_seam}
use Rattle.std.proofs.lemmas.List.Edits.{map_over_more}
use Rattle.k_context.specs.declared.owner.Owner.{Owner}
use Rattle.k_carrier.specs.declared.marks.WaitMark.{WaitMark}
use Rattle.k_world.specs.Lawful.{IsLawfulLog}
use Rattle.k_world.specs.Marks.{all_got, mark_at, same_owner, still_waits, with_got}
use Rattle.k_world.specs.Worlds.{WaitLog}
use Rattle.k_world.proofs.Lists.{mapped_at}
use Rattle.k_world.proofs.Waits.{all_got_size, still_other, with_got_alike}
use Rattle.k_logs.specs.Seen.{AreInside}

-- one more
got_more : (o : Owner) (standing : List (Option ℕ)) (marks : List WaitMark) (i : ℕ) → i < length standing → with_got o (all_got o (take i standing) marks) (get_or standing i None) ≡ all_got o (take (suc i) standing) marks
got_more o [] marks i l = absurd (omega (arith, l))
got_more o (mark ∷ standing) marks zero l = refl
got_more o (mark ∷ standing) marks (suc i) l = got_more o standing (with_got o marks mark) i (omega (arith, l))

-- whose mark it is stays as it was
requester_stays : (o : Owner) (standing : List (Option ℕ)) (marks : List WaitMark) (k : ℕ) → (mark_at (all_got o standing marks) k).requester ≡ (mark_at marks k).requester
requester_stays o [] marks k = refl
requester_stays o (mark ∷ standing) marks k = requester_stays o standing (with_got o marks mark) k ∙ (with_got_alike o marks mark k).requester

-- so whether it stands is told by the marks as they were at first
still_same : (o : Owner) (standing : List (Option ℕ)) (marks : List WaitMark) (mark : Option ℕ) → still_waits o (all_got o standing marks) mark ≡ still_waits o marks mark
still_same o standing marks None = refl
still_same o standing marks (Some k) = ap (λ r. cond (same_owner r o) None (Some k)) (requester_stays o standing marks k)

-- what comes next was not changed yet
at_seam : {X : Type 0} (f : X → X) (xs : List X) (i : ℕ) (d : X) → get_or (map f (take i xs) ++ drop i xs) i d ≡ get_or xs i d
at_seam f [] zero d = refl
at_seam f [] (suc i) d = refl
at_seam f (x ∷ xs) zero d = refl
at_seam f (x ∷ xs) (suc i) d = at_seam f xs i d

-- one more mark that stands, whichever it is
pub record GotMore (o : Owner) (standing : List (Option ℕ)) (marks : List WaitMark) (i : ℕ) (s : List (Option ℕ)) (m : List WaitMark) : Type 0 where
  pub places : s ≡ map (still_waits o marks) (take (i + 1) standing) ++ drop (i + 1) standing
  pub waits : m ≡ all_got o (take (i + 1) standing) marks

pub got_step : (o : Owner) (standing s : List (Option ℕ)) (marks m n : List WaitMark) (i : ℕ) (x r : Option ℕ) → i < length standing → s ≡ map (still_waits o marks) (take i standing) ++ drop i standing → m ≡ all_got o (take i standing) marks → x ≡ get_or s i x → r ≡ still_waits o m x → n ≡ with_got o m x → GotMore o standing marks i (slice_set s i r) n
got_step o standing s marks m n i x r l e g read place got =
    let next : suc i ≡ i + 1 = omega arith in
    let still : r ≡ still_waits o marks x = place ∙ (ap (λ ms. still_waits o ms x) g ∙ still_same o (take i standing) marks x) in
    let here : x ≡ get_or standing i None = read ∙ (ap (λ ys. get_or ys i x) e ∙ (at_seam (still_waits o marks) standing i x ∙ get_or_default standing i x None l)) in
    record {
      places = ap (slice_set s i) still ∙ map_over_more (still_waits o marks) standing s i x l e read;
      waits = got ∙ (ap (λ ms. with_got o ms x) g ∙ (ap (with_got o (all_got o (take i standing) marks)) here ∙ (got_more o standing marks i l ∙ ap (λ j. all_got o (take j standing) marks) next)));
    }

-- WHAT STANDS IS ONE OF THE LOG'S

pub lawful_inside : (l : WaitLog) (standing : List (Option ℕ)) (marks : List WaitMark) → IsLawfulLog l → standing ≡ l.standing → marks ≡ l.marks → AreInside standing marks
lawful_inside l standing marks h e f = λ c k s. subst (λ (ms : List WaitMark). k < length ms) (sym f) (h.standing c k (sym (ap (λ (ss : List (Option ℕ)). get_or ss c None) e) ∙ s)).inside

pub stands_inside : (l : WaitLog) (c k : ℕ) (place : Option ℕ) → IsLawfulLog l → c < length l.standing → place ≡ get_or l.standing c place → place ≡ Some k → k < length l.marks
stands_inside l c k place h n e s = (h.standing c k (sym (e ∙ get_or_default l.standing c place None n) ∙ s)).inside

some_inside : (n : ℕ) (place : Option ℕ) → ((k : ℕ) → place ≡ Some k → k < n) → IfSome place (λ k. k < n)
some_inside n None h = tt
some_inside n (Some k) h = h k refl

-- so it is once others were got
pub still_inside : (o : Owner) (standing s : List (Option ℕ)) (marks m : List WaitMark) (c : ℕ) (place : Option ℕ) → AreInside standing marks → c < length standing → s ≡ map (still_waits o marks) standing → m ≡ all_got o standing marks → place ≡ get_or s c place → IfSome place (λ k. k < length m)
still_inside o standing s marks m c place h n e f read = some_inside (length m) place (λ k is.
    let size : length s ≡ length standing = ap length e ∙ length-map standing (still_waits o marks) in
    let here : place ≡ still_waits o marks (get_or standing c None) =
    read ∙ (get_or_default s c place None (omega (arith, n, size)) ∙ (ap (λ ys. get_or ys c None) e ∙ mapped_at (still_waits o marks) refl standing c)) in
    let inside : k < length marks = h c k (still_other o marks (get_or standing c None) k (sym here ∙ is)).0 in
    omega (arith, inside, ap length f, all_got_size o standing marks))

-- what a slice of a list was made, as the list then has it
pub whole_slice : {X : Type 0} (items old : List X) (n : ℕ) → length items ≡ n → take n (items ++ drop (length items) old) ≡ items
whole_slice items old n e = subst (λ (m : ℕ). take m (items ++ drop (length items) old) ≡ items) e (take-append_seam items (drop (length items) old))
