-- What a log of links shows of a mark as it grows.
use Rattle.std.proofs.Common.{◌≡◌, ◌≢◌, ℕ, ◌+◌, ◌^◌, ◌<◌, ◌≤◌, Bool, true, false, cond, refl, sym, ap, ◌∙◌, List, [], ◌∷◌, ◌++◌, arith, length, map, reverse, take, drop, filter, append-nil, take_all, drop_at}
use Rattle.std.specs.Prelude.{◌==◌}
use Rattle.std.proofs.lemmas.Bool.Decides.{nat_tests}
use Rattle.std.proofs.lemmas.List.{drop-append-le, length-map, length-reverse, length_push, map-append, reverse-append, take-append-le}
use Rattle.std.proofs.lemmas.List.Elements.{filter-append}
use Rattle.k_locks.specs.Steps.{one_more}
use Rattle.k_bound.specs.Waits.{IsBounded, Link, OwnerFound, WaitMark, allowed, mark_begun, mark_counted, mark_linked}
use Rattle.k_bound.specs.Logs.{IsBoundedEntry, IsShown, MarkEntry, capped, entry_begun, entry_counted, entry_linked, links_from, links_in}

reverse_more : (l : Link) (ls : List Link) → reverse (l ∷ ls) ≡ reverse ls ++ l ∷ []
reverse_more l ls = reverse-append (l ∷ []) ls

allowed-append : (xs ys : List Link) → allowed (xs ++ ys) ≡ allowed xs + allowed ys
allowed-append [] ys = omega arith
allowed-append (x ∷ xs) ys = let t = allowed-append xs ys in omega (arith, t)

allowed-reverse : (xs : List Link) → allowed (reverse xs) ≡ allowed xs
allowed-reverse [] = refl
allowed-reverse (x ∷ xs) =
    let t = allowed-reverse xs in
    let a = ap allowed (reverse_more x xs) in
    let b = allowed-append (reverse xs) (x ∷ []) in
    omega (arith, t, a, b)

-- A count that is capped each time it grows is the true one, capped.
pub one_more_capped : (n : ℕ) → one_more (capped n) ≡ capped (n + 1)
one_more_capped n = omega arith

pub sum_capped : (m n : ℕ) → capped (capped m + n) ≡ capped (n + m)
sum_capped m n = omega arith

pub capped_within : (n : ℕ) → capped n ≤ n
capped_within n = omega arith

capped_rises : (m n : ℕ) → m ≤ n → capped m ≤ capped n
capped_rises m n le = omega (arith, le)

one_more_within : (m n : ℕ) → m ≤ capped n → one_more m ≤ capped (n + 1)
one_more_within m n le = omega (arith, le)

module _ {Logged : Type 0} (mark_of : Logged → ℕ) where
  from_more : (mark first : ℕ) (log : List Logged) (l : Logged) (b : Bool) → first ≤ length log → (mark_of l == mark) ≡ b →
      links_from mark_of mark first (log ++ l ∷ []) ≡ links_from mark_of mark first log ++ cond b (l ∷ []) []
  from_more mark first log l b within e =
      let test : Logged → Bool = λ logged. mark_of logged == mark in
      let last : filter test (l ∷ []) ≡ cond b (l ∷ []) [] = ap (λ c. cond c (l ∷ []) []) e in
      ap (filter test) (drop-append-le first log (l ∷ []) within) ∙ filter-append test (drop first log) (l ∷ [])
      ∙ ap (λ xs. filter test (drop first log) ++ xs) last

  from_end : (mark : ℕ) (log : List Logged) (l : Logged) → (mark_of l == mark) ≡ true →
      links_from mark_of mark (length log) (log ++ l ∷ []) ≡ l ∷ []
  from_end mark log l e =
      let test : Logged → Bool = λ logged. mark_of logged == mark in
      ap (filter test) (drop_at log (l ∷ []) (length log) refl) ∙ ap (λ c. cond c (l ∷ []) []) e

  from_all : (mark first : ℕ) (log more : List Logged) → first ≤ length log →
      links_from mark_of mark first (log ++ more) ≡
      links_from mark_of mark first log ++ filter (λ logged. mark_of logged == mark) more
  from_all mark first log more within =
      let test : Logged → Bool = λ logged. mark_of logged == mark in
      ap (filter test) (drop-append-le first log more within) ∙ filter-append test (drop first log) more

module _ {Logged : Type 0} (mark_of : Logged → ℕ) (link_of : Logged → Link) where
  pub begun_shown : (mark : ℕ) (log : List Logged) (l : Logged) → mark_of l ≡ mark →
      IsShown mark_of link_of mark (entry_begun (length log) (link_of l)) (log ++ l ∷ []) (mark_begun (link_of l))
  begun_shown mark log l e =
      let is : (mark_of l == mark) ≡ true = grind (arith, nat_tests, e) in
      record {
        want = refl;
        links = ap (map link_of) (from_end mark_of mark log l is);
        count = refl;
        allowed = omega arith;
        used = omega arith;
        first = omega (arith, length_push log l);
      }

  pub linked_shown : (mark : ℕ) (entry : MarkEntry) (log : List Logged) (shown : WaitMark) (l : Logged) →
      IsShown mark_of link_of mark entry log shown → mark_of l ≡ mark →
      IsShown mark_of link_of mark (entry_linked (link_of l) entry) (log ++ l ∷ []) (mark_linked (link_of l) shown)
  linked_shown mark entry log shown l was e =
      let is : (mark_of l == mark) ≡ true = grind (arith, nat_tests, e) in
      let from = links_from mark_of mark entry.first log in
      let more = from_more mark_of mark entry.first log l true was.first is in
      record {
        want = was.want;
        links = ap (map link_of) more ∙ map-append link_of from (l ∷ []) ∙ ap (λ xs. xs ++ link_of l ∷ []) was.links
            ∙ sym (reverse_more (link_of l) shown.links);
        count = let c = was.count in let m = one_more_capped (length shown.links) in omega (arith, c, m);
        allowed = ap (λ n. capped (n + (link_of l).left)) was.allowed ∙ sum_capped (allowed shown.links) (link_of l).left;
        used = was.used;
        first = let f = was.first in omega (arith, f, length_push log l);
      }

  pub counted_shown : (mark : ℕ) (entry : MarkEntry) (log : List Logged) (shown : WaitMark) (by_owner : Bool)
      (help : OwnerFound) → IsShown mark_of link_of mark entry log shown →
      IsShown mark_of link_of mark (entry_counted entry) log (mark_counted by_owner help shown)
  counted_shown mark entry log shown by_owner help was = record {
    want = was.want;
    links = was.links;
    count = was.count;
    allowed = was.allowed;
    used = one_more_within entry.used shown.used was.used;
    first = was.first;
  }

  -- a step that the log doesn't count
  pub left_out_shown : (mark : ℕ) (entry : MarkEntry) (log : List Logged) (shown : WaitMark) (by_owner : Bool)
      (help : OwnerFound) → IsShown mark_of link_of mark entry log shown →
      IsShown mark_of link_of mark entry log (mark_counted by_owner help shown)
  left_out_shown mark entry log shown by_owner help was = record {
    want = was.want;
    links = was.links;
    count = was.count;
    allowed = was.allowed;
    used = let u = was.used in omega (arith, u);
    first = was.first;
  }

  -- a link of another mark is passed over
  pub passed_shown : (mark : ℕ) (entry : MarkEntry) (log : List Logged) (shown : WaitMark) (l : Logged) →
      IsShown mark_of link_of mark entry log shown → mark_of l ≢ mark →
      IsShown mark_of link_of mark entry (log ++ l ∷ []) shown
  passed_shown mark entry log shown l was other =
      let isnt : (mark_of l == mark) ≡ false = grind (arith, nat_tests, other) in
      let more = from_more mark_of mark entry.first log l false was.first isnt in
      let same = more ∙ append-nil (links_from mark_of mark entry.first log) in
      record {
        want = was.want;
        links = ap (map link_of) same ∙ was.links;
        count = was.count;
        allowed = was.allowed;
        used = was.used;
        first = let f = was.first in omega (arith, f, length_push log l);
      }

  -- The first ones of the mark are its links, whatever was appended.
  pub first_shown : (mark : ℕ) (entry : MarkEntry) (log more : List Logged) (shown : WaitMark) →
      IsShown mark_of link_of mark entry log shown → length shown.links < 2 ^ 32 →
      links_in mark_of link_of mark entry (log ++ more) ≡ reverse shown.links
  first_shown mark entry log more shown was few =
      let from = links_from mark_of mark entry.first log in
      let later = filter (λ logged. mark_of logged == mark) more in
      let many : length from ≡ entry.count =
      let a = length-map from link_of in
      let b = ap length was.links in
      let c = length-reverse shown.links in
      let d = was.count in
      omega (arith, a, b, c, d, few)
      in
      let front = take-append-le entry.count from later (omega (arith, many)) in
      let all = take_all entry.count from (omega (arith, many)) in
      ap (λ xs. map link_of (take entry.count xs)) (from_all mark_of mark entry.first log more was.first)
      ∙ ap (map link_of) (front ∙ all) ∙ was.links

  pub shown_bounded : (mark : ℕ) (entry : MarkEntry) (log : List Logged) (shown : WaitMark) →
      IsShown mark_of link_of mark entry log shown → IsBounded shown → IsBoundedEntry mark_of link_of mark entry log
  shown_bounded mark entry log shown was bounded =
      record {
        used =
            let u = was.used in
            let r = capped_rises shown.used (allowed shown.links) bounded.used in
            let a = was.allowed in
            omega (arith, u, r, a);
        allowed = was.allowed ∙ ap capped (sym (allowed-reverse shown.links) ∙ ap allowed (sym was.links));
      }
