-- Items of a turns line: what a word is read as is what it spells.
use Rattle.std.proofs.Common.{◌≡◌, ℕ, ◌+◌, ◌<◌, ◌≤◌, true, false, eqb, leb, List, [], ◌∷◌, ◌++◌, map, take, drop, length, get_or, refl, sym, ap, ◌∙◌, arith, Option, Some, None, inl, inr, option_map, decimal, position, append_assoc}
use Rattle.std.specs.List.{position_or_len, AllByRecursion}
use Rattle.std.specs.Char.{is_ascii_digit}
use Rattle.std.specs.Str.{all_ascii_digits}
use Rattle.std.proofs.lemmas.Bool.{eqb-true, eq-eqb, ne_eqb, leb-true, lt-ltb, and_parts, or_cases, false≢true}
use Rattle.std.proofs.lemmas.List.{take-append-drop, drop_more, drop_all, length-append, take_at, drop_at, get_or_at}
use Rattle.std.proofs.lemmas.List.Quantifiers.{position-Some}
use Rattle.k_lists.proofs.Options.{bound, chosen, mapped}
use Rattle.k_lines.specs.declared.numeral.Numeral.{Numeral}
use Rattle.k_lines.specs.declared.line.ItemWord.{ItemWord}
use Rattle.k_lines.specs.declared.line.ItemWord.TheVariants as item
use Rattle.k_lines.specs.Numbers.{numeral_of, IsNumber}
use Rattle.k_lines.specs.Lines.{Word, spelled_item, IsProperItem, is_mark, steps_at, park_at, marked_at, item_of, each_item, items_of}
use Rattle.k_lines.proofs.Digits.{numeral-read, numeral-spelled, number_digits}

-- a word around the place of a byte
around : (w : Word) (at : ℕ) → at < length w → w ≡ take at w ++ get_or w at 0 ∷ drop (at + 1) w
around w at h = sym (take-append-drop at w) ∙ ap (λ (x : Word). take at w ++ x) (drop_more w at 0 h)

steps-read : (w : Word) (at : ℕ) (i : ItemWord) → at < length w → get_or w at 0 ≡ 42 → steps_at w at ≡ Some i → IsProperItem i → w ≡ spelled_item i
steps-read w at i inside star h p =
    let c = bound (λ carrier. option_map (λ count. item.Steps carrier count) (numeral_of (drop (at + 1) w))) (numeral_of (take at w)) i h in
    let n = mapped (λ count. item.Steps c.0 count) (numeral_of (drop (at + 1) w)) i c.2 in
    go c.0 n.0 i c.1 n.1 n.2 p
  where
    go : (c n : Numeral) (j : ItemWord) → numeral_of (take at w) ≡ Some c → numeral_of (drop (at + 1) w) ≡ Some n → item.Steps c n ≡ j → IsProperItem j → w ≡ spelled_item j
    go c n (item.Steps d m) a b e q =
        let one : c ≡ d = cc in
        let two : n ≡ m = cc in
        let front = numeral-read (take at w) d (a ∙ ap (λ (x : Numeral). Some x) one) q.0 in
        let back = numeral-read (drop (at + 1) w) m (b ∙ ap (λ (x : Numeral). Some x) two) q.1 in
        around w at inside ∙ ap (λ (x : Word). x ++ get_or w at 0 ∷ drop (at + 1) w) front ∙ ap (λ (x : ℕ). decimal d.value ++ x ∷ drop (at + 1) w) star ∙ ap (λ (x : Word). decimal d.value ++ 42 ∷ x) back
    go c n (item.Park d) a b e q = absurd cc

park-read : (w : Word) (at : ℕ) (i : ItemWord) → at < length w → get_or w at 0 ≡ 33 → park_at w at ≡ Some i → IsProperItem i → w ≡ spelled_item i
park-read w at i inside mark h p = elim (chosen (eqb (at + 1) (length w)) (option_map item.Park (numeral_of (take at w))) None (Some i) h) [
  | inr f ↦ let no : None ≡ Some i = f.1 in absurd cc
  | inl t ↦ let m = mapped item.Park (numeral_of (take at w)) i t.1 in go m.0 i m.1 m.2 (eqb-true _ _ t.0) p
]
  where
    go : (c : Numeral) (j : ItemWord) → numeral_of (take at w) ≡ Some c → item.Park c ≡ j → at + 1 ≡ length w → IsProperItem j → w ≡ spelled_item j
    go c (item.Steps d m) a e l q = absurd cc
    go c (item.Park d) a e l q =
        let one : c ≡ d = cc in
        let front = numeral-read (take at w) d (a ∙ ap (λ (x : Numeral). Some x) one) q in
        let back : drop (at + 1) w ≡ [] = drop_all (at + 1) w (omega (arith, l)) in
        around w at inside ∙ ap (λ (x : Word). x ++ get_or w at 0 ∷ drop (at + 1) w) front ∙ ap (λ (x : ℕ). decimal d.value ++ x ∷ drop (at + 1) w) mark ∙ ap (λ (x : Word). decimal d.value ++ 33 ∷ x) back

the_mark : (b : ℕ) → is_mark b ≡ true → eqb b 42 ≡ false → b ≡ 33
the_mark b h n = elim (or_cases (eqb b 42) (eqb b 33) h) [
  | inl s ↦ absurd (false≢true (sym n ∙ s))
  | inr s ↦ eqb-true b 33 s
]

pub item-read : (w : Word) (i : ItemWord) → item_of w ≡ Some i → IsProperItem i → w ≡ spelled_item i
unfolding item_of
item-read w i h p = go (position is_mark w) refl h
  where
    go : (o : Option ℕ) → position is_mark w ≡ o → marked_at w o ≡ Some i → w ≡ spelled_item i
    go None e g = absurd cc
    go (Some at) e g =
        let found = position-Some is_mark w at 0 e in
        elim (chosen (eqb (get_or w at 0) 42) (steps_at w at) (park_at w at) (Some i) g) [
          | inl s ↦ steps-read w at i found.0 (eqb-true (get_or w at 0) 42 s.0) s.1 p
          | inr s ↦ park-read w at i found.0 (the_mark (get_or w at 0) found.1 s.0) s.1 p
        ]

each-read : (ws : List Word) (is : List ItemWord) → each_item ws ≡ Some is → AllByRecursion IsProperItem is → ws ≡ map spelled_item is
each-read [] [] h p = refl
each-read [] (i ∷ is) h p = absurd cc
each-read (w ∷ ws) js h p =
    let i = bound (λ i. option_map (λ is. i ∷ is) (each_item ws)) (item_of w) js h in
    let is = mapped (λ (is : List ItemWord). i.0 ∷ is) (each_item ws) js i.2 in
    go i.0 is.0 js i.1 is.1 is.2 p (λ (ks : List ItemWord) e q. each-read ws ks e q)
  where
    go : (i : ItemWord) (is ks : List ItemWord) → item_of w ≡ Some i → each_item ws ≡ Some is → i ∷ is ≡ ks → AllByRecursion IsProperItem ks → ((ks : List ItemWord) → each_item ws ≡ Some ks → AllByRecursion IsProperItem ks → ws ≡ map spelled_item ks) → w ∷ ws ≡ map spelled_item ks
    go i is [] a b e q more = absurd cc
    go i is (k ∷ ks) a b e q more =
        let one : i ≡ k = cc in
        let two : is ≡ ks = cc in
        let first = item-read w k (a ∙ ap (λ (x : ItemWord). Some x) one) q.0 in
        let rest = more ks (b ∙ ap (λ (x : List ItemWord). Some x) two) q.1 in
        cc

pub items-read : (ws : List Word) (is : List ItemWord) → items_of ws ≡ Some is → AllByRecursion IsProperItem is → (ws ≡ map spelled_item is) × (1 ≤ length is)
unfolding items_of
items-read [] is h p = absurd cc
items-read (w ∷ ws) [] h p = let no = each-read (w ∷ ws) [] h p in absurd cc
items-read (w ∷ ws) (i ∷ is) h p = (each-read (w ∷ ws) (i ∷ is) h p, omega arith)

-- WHAT IS SPELLED IS READ

no_mark : (c : ℕ) → is_ascii_digit c ≡ true → is_mark c ≡ false
no_mark c h =
    let p = and_parts (leb 48 c) (leb c 57) h in
    let low = leb-true 48 c p.0 in
    rw (ne_eqb c 42 (λ e. omega (arith, low, e))) (ne_eqb c 33 (λ e. omega (arith, low, e)))

mark-place : (ds : Word) (m : ℕ) (rest : Word) → all_ascii_digits ds ≡ true → is_mark m ≡ true → position_or_len is_mark (ds ++ m ∷ rest) ≡ length ds
mark-place [] m rest h i = rw i refl
mark-place (d ∷ ds) m rest h i =
    let p = and_parts (is_ascii_digit d) (all_ascii_digits ds) h in
    let more : position_or_len is_mark ((d ∷ ds) ++ m ∷ rest) ≡ 1 + position_or_len is_mark (ds ++ m ∷ rest) = rw (no_mark d p.0) refl in
    let place = mark-place ds m rest p.1 i in
    omega (arith, more, place)

mark-found : (ds : Word) (m : ℕ) (rest : Word) → all_ascii_digits ds ≡ true → is_mark m ≡ true → position is_mark (ds ++ m ∷ rest) ≡ Some (length ds)
mark-found ds m rest h i =
    let place = mark-place ds m rest h i in
    let long : length (ds ++ m ∷ rest) ≡ length ds + length (m ∷ rest) = length-append ds (m ∷ rest) in
    rw place (rw (lt-ltb (length ds) (length (ds ++ m ∷ rest)) (omega (arith, long))) refl)

behind : (ds : Word) (m : ℕ) (rest : Word) → drop (length ds + 1) (ds ++ m ∷ rest) ≡ rest
behind ds m rest =
    let long : length (ds ++ m ∷ []) ≡ length ds + length (m ∷ []) = length-append ds (m ∷ []) in
    ap (drop (length ds + 1)) (sym (append_assoc ds (m ∷ []) rest)) ∙ drop_at (ds ++ m ∷ []) rest (length ds + 1) (omega (arith, long))

steps-spelled : (c n : Numeral) → IsNumber c → IsNumber n → marked_at (decimal c.value ++ 42 ∷ decimal n.value) (Some (length (decimal c.value))) ≡ Some (item.Steps c n)
steps-spelled c n a b =
    rw (get_or_at (decimal c.value) 42 (decimal n.value) 0 (length (decimal c.value)) refl)
    (rw (take_at (decimal c.value) (42 ∷ decimal n.value) (length (decimal c.value)) refl)
    (rw (behind (decimal c.value) 42 (decimal n.value)) (rw (numeral-spelled c a) (rw (numeral-spelled n b) refl))))

park-spelled : (c : Numeral) → IsNumber c → marked_at (decimal c.value ++ 33 ∷ []) (Some (length (decimal c.value))) ≡ Some (item.Park c)
park-spelled c a =
    let long : length (decimal c.value ++ 33 ∷ []) ≡ length (decimal c.value) + length {A = ℕ} (33 ∷ []) = length-append (decimal c.value) (33 ∷ []) in
    rw (get_or_at (decimal c.value) 33 [] 0 (length (decimal c.value)) refl)
    (rw (eq-eqb (length (decimal c.value) + 1) (length (decimal c.value ++ 33 ∷ [])) (omega (arith, long)))
    (rw (take_at (decimal c.value) (33 ∷ []) (length (decimal c.value)) refl) (rw (numeral-spelled c a) refl)))

pub item-spelled : (i : ItemWord) → IsProperItem i → item_of (spelled_item i) ≡ Some i
unfolding item_of
item-spelled (item.Steps c n) p = ap (marked_at (decimal c.value ++ 42 ∷ decimal n.value)) (mark-found (decimal c.value) 42 (decimal n.value) (number_digits c p.0) refl) ∙ steps-spelled c n p.0 p.1
item-spelled (item.Park c) p = ap (marked_at (decimal c.value ++ 33 ∷ [])) (mark-found (decimal c.value) 33 [] (number_digits c p) refl) ∙ park-spelled c p

each-spelled : (is : List ItemWord) → AllByRecursion IsProperItem is → each_item (map spelled_item is) ≡ Some is
each-spelled [] p = refl
each-spelled (i ∷ is) p = rw (item-spelled i p.0) (rw (each-spelled is p.1) refl)

pub items-spelled : (is : List ItemWord) → 1 ≤ length is → AllByRecursion IsProperItem is → items_of (map spelled_item is) ≡ Some is
unfolding items_of
items-spelled [] h p = absurd (omega arith)
items-spelled (i ∷ is) h p = each-spelled (i ∷ is) p
