-- The text of waits, link by link.
use Rattle.std.proofs.Common.{◌≡◌, ℕ, zero, suc, ◌+◌, ◌-◌, ◌<◌, ◌≤◌, ◌^◌, ◌==◌, true, false, List, [], ◌∷◌, ◌++◌, length, get_or, take, drop, refl, sym, ap, ◌∙◌, arith, codes, decimal, inl, inr, append_assoc, subst, Option, Some}
use Rattle.std.specs.List.{flat_map, range_with_len}
use Rattle.std.proofs.lemmas.Bool.{cases_Bool}
use Rattle.std.proofs.lemmas.List.{append-nil, get_or_default, take_all}
use Rattle.std.proofs.lemmas.List.Concat.{flat_map-append}
use Rattle.k_locks.specs.declared.locks.Lock.TheVariants as lock
use Rattle.k_context.specs.declared.owner.Owner.TheVariants as owner
use Rattle.k_carrier.specs.declared.marks.Want.TheVariants as want
use Rattle.k_carrier.specs.declared.marks.Link.{Link}
use Rattle.k_carrier.specs.declared.marks.WaitMark.{WaitMark}
use Rattle.k_world.specs.Lawful.{IsLawfulWait, links_of}
use Rattle.k_world.specs.Marks.{mark_at, no_mark}
use Rattle.k_text.specs.Texts.{Word, joined, line_text, spaced}
use Rattle.k_report.specs.Putting.{NextOf, PutOn, link_text}
use Rattle.k_report.proofs.Putting.{StillToPut, still_begun, still_on}
use Rattle.k_report.specs.Waits.{chain_of, end_word, link_words, owner_word, wait_text, wait_words, want_words}

-- THE LINKS OF A MARK

pub link_here : (links : List Link) (k at : ℕ) (d : Link) → at < length links → ((get_or links at d).mark == k) ≡ true → links_of k (drop at links) ≡ get_or links at d ∷ links_of k (drop (suc at) links)
link_here [] k at d l h = absurd (omega arith)
link_here (x ∷ xs) k zero d l h = rw h refl
link_here (x ∷ xs) k (suc at) d l h = link_here xs k at d (omega arith) h

pub link_passed : (links : List Link) (k at : ℕ) (d : Link) → at < length links → ((get_or links at d).mark == k) ≡ false → links_of k (drop at links) ≡ links_of k (drop (suc at) links)
link_passed [] k at d l h = absurd (omega arith)
link_passed (x ∷ xs) k zero d l h = rw h refl
link_passed (x ∷ xs) k (suc at) d l h = link_passed xs k at d (omega arith) h

pub no_links : (links : List Link) (k at : ℕ) → length links ≤ at → links_of k (drop at links) ≡ []
no_links [] k zero l = refl
no_links [] k (suc at) l = refl
no_links (x ∷ xs) k zero l = absurd (omega arith)
no_links (x ∷ xs) k (suc at) l = no_links xs k at (omega arith)

-- none of a mark stands before its first one
links_behind : (links : List Link) (k n : ℕ) → links_of k (take n links) ≡ [] → links_of k (drop n links) ≡ links_of k links
links_behind [] k zero h = refl
links_behind [] k (suc n) h = refl
links_behind (x ∷ xs) k zero h = refl
links_behind (x ∷ xs) k (suc n) h = elim (cases_Bool (x.mark == k)) [
  | inl t ↦ let no : x ∷ links_of k (take n xs) ≡ [] = sym (rw t refl) ∙ h in absurd cc
  | inr f ↦
      let rest : links_of k (take n xs) ≡ [] = sym (rw f refl) ∙ h in
      rw f (links_behind xs k n rest)
]

pub all_shown : (links : List Link) (k : ℕ) (m : WaitMark) → IsLawfulWait links k m → length (links_of k links) < 2 ^ 32 → chain_of k m links ≡ links_of k links
all_shown links k m h few = ap (take m.count) (links_behind links k m.first h.first) ∙ take_all m.count (links_of k links) (omega (arith, h.count))

-- THE TEXT OF A WAIT

-- what is behind the words before the chain, where so many links from here on are to come
abbrev pub chain_text : List Link → ℕ → ℕ → ℕ → List ℕ
chain_text links k from left = flat_map link_text (take left (links_of k (drop from links))) ++ codes "\n"

link_texts : (ls : List Link) → spaced (flat_map link_words ls) ≡ flat_map link_text ls
link_texts [] = refl
link_texts (l ∷ ls) = flat_map-append (λ (w : Word). codes " " ++ w) (link_words l) (flat_map link_words ls) ∙ ap (λ (t : List ℕ). link_text l ++ t) (link_texts ls)

line_parts : (first : Word) (ws : List Word) (ls : List Link) → line_text ((first ∷ ws) ++ flat_map link_words ls) ≡ joined (first ∷ ws) ++ (flat_map link_text ls ++ codes "\n")
line_parts first ws ls =
    ap (λ (t : List ℕ). (first ++ t) ++ codes "\n") (flat_map-append (λ (w : Word). codes " " ++ w) ws (flat_map link_words ls) ∙ ap (λ (t : List ℕ). spaced ws ++ t) (link_texts ls))
    ∙ ap (λ (t : List ℕ). t ++ codes "\n") (sym (append_assoc first (spaced ws) (flat_map link_text ls)))
    ∙ append_assoc (first ++ spaced ws) (flat_map link_text ls) (codes "\n")

pub wait_parts : (k : ℕ) (m : WaitMark) (links : List Link) → wait_text k m links ≡ joined (wait_words m) ++ chain_text links k m.first m.count
wait_parts k m links = line_parts (codes "wait") (owner_word m.requester ∷ decimal m.serial ∷ (want_words m.wants ++ end_word m.got ∷ codes "allowed" ∷ decimal m.allowed ∷ codes "used" ∷ decimal m.used ∷ codes "chain" ∷ [])) (chain_of k m links)

-- a link is to come, and it is this one
pub one_link : (links : List Link) (k from left at : ℕ) (x : Link) → 0 < left → links_of k (drop from links) ≡ x ∷ links_of k (drop (at + 1) links) → chain_text links k from left ≡ link_text x ++ chain_text links k (at + 1) (left - 1)
one_link links k from zero at x l h = absurd (omega arith)
one_link links k from (suc left) at x l h =
    let less : suc left - 1 ≡ left = omega arith in
    rw h (rw less (append_assoc (link_text x) (flat_map link_text (take left (links_of k (drop (at + 1) links)))) (codes "\n")))

-- none is to come
pub chain_over : (links : List Link) (k from left : ℕ) → links_of k (drop from links) ≡ [] → chain_text links k from left ≡ codes "\n"
chain_over links k from zero h = refl
chain_over links k from (suc left) h = rw h refl

-- WORDS THAT ARE PUSHED ONE AFTER ANOTHER

pushed : (t : List ℕ) (ws us : List Word) → (t ++ spaced ws) ++ spaced us ≡ t ++ spaced (ws ++ us)
pushed t ws us = append_assoc t (spaced ws) (spaced us) ∙ ap (λ (x : List ℕ). t ++ x) (sym (flat_map-append (λ (w : Word). codes " " ++ w) ws us))

pushed_one : (t : List ℕ) (ws : List Word) (w : Word) → (t ++ spaced ws) ++ (codes " " ++ w) ≡ t ++ spaced (ws ++ w ∷ [])
pushed_one t ws w = ap (λ (x : List ℕ). (t ++ spaced ws) ++ x) (sym (append-nil (codes " " ++ w))) ∙ pushed t ws (w ∷ [])

pub words_pushed : (t : List ℕ) (a b : Word) (ws : List Word) (d : Word) (us : List Word) (z : Word) → (((((t ++ spaced (a ∷ [])) ++ (codes " " ++ b)) ++ spaced ws) ++ spaced (d ∷ [])) ++ spaced us) ++ (codes " " ++ z) ≡ t ++ spaced (a ∷ b ∷ (ws ++ d ∷ (us ++ z ∷ [])))
words_pushed t a b ws d us z =
    ap (λ (x : List ℕ). (((x ++ spaced ws) ++ spaced (d ∷ [])) ++ spaced us) ++ (codes " " ++ z)) (pushed_one t (a ∷ []) b)
    ∙ ap (λ (x : List ℕ). ((x ++ spaced (d ∷ [])) ++ spaced us) ++ (codes " " ++ z)) (pushed t (a ∷ b ∷ []) ws)
    ∙ ap (λ (x : List ℕ). (x ++ spaced us) ++ (codes " " ++ z)) (pushed t (a ∷ b ∷ ws) (d ∷ []))
    ∙ ap (λ (x : List ℕ). x ++ (codes " " ++ z)) (pushed t (a ∷ b ∷ (ws ++ d ∷ [])) us)
    ∙ pushed_one t (a ∷ b ∷ ((ws ++ d ∷ []) ++ us)) z
    ∙ ap (λ (xs : List Word). t ++ spaced (a ∷ b ∷ xs)) (append_assoc (ws ++ d ∷ []) us (z ∷ []) ∙ append_assoc ws (d ∷ []) (us ++ z ∷ []))

-- A LINE THAT IS PUT LINK BY LINK

-- The line so far waits to be put, and so many links from here on are still to come.
pub record Chained (before now : Option (List ℕ)) (faults faults_now : ℕ) (text line : List ℕ) (links : List Link) (k from left count : ℕ) : Type 0 where
  pub bytes : StillToPut before now text (line ++ chain_text links k from left)
  pub short : length line ≤ 127
  pub few : left ≤ count
  pub begun : count ≤ left → length line ≤ 90
  pub calm : faults_now ≡ faults

pub chained_first : (held : Option (List ℕ)) (faults : ℕ) (k : ℕ) (m : WaitMark) (links : List Link) (line : List ℕ) → line ≡ joined (wait_words m) → length line ≤ 90 → Chained held held faults faults (wait_text k m links) line links k m.first m.count m.count
chained_first held faults k m links line e l = record {
  bytes = subst (λ (x : List ℕ). StillToPut held held (wait_text k m links) x) (wait_parts k m links ∙ ap (λ (x : List ℕ). x ++ chain_text links k m.first m.count) (sym e)) (still_begun held (wait_text k m links));
  short = omega arith;
  few = omega arith;
  begun = λ _. l;
  calm = refl;
}

-- what the elements of a list are read as behind its end
abbrev pub no_link : Link
no_link = record { mark = 0; owner = owner.Thread (record { number = 0; version = 0 }); serial = 0; wants = want.Lock lock.Table; left = 0 }

abbrev pub no_wait_mark : WaitMark
no_wait_mark = record { requester = owner.Thread (record { number = 0; version = 0 }); serial = 0; wants = want.Lock lock.Table; got = false; allowed = 0; used = 0; first = 0; count = 0 }

-- one link more
pub chained_more : (a b c : Option (List ℕ)) (f g h : ℕ) (text line next : List ℕ) (links : List Link) (k from left count at : ℕ) → Chained a b f g text line links k from left count → 0 < left → NextOf links from k (Some at) → PutOn b c line (link_text (get_or links at no_link)) next → length next ≤ 127 → h ≡ g → Chained a c f h text next links k (at + 1) (left - 1) count
chained_more a b c f g h text line next links k from left count at s l n p short calm =
    let x = get_or links at no_link in
    record {
      bytes = still_on a b c text line (link_text x) next (chain_text links k (at + 1) (left - 1)) (subst (λ (t : List ℕ). StillToPut a b text (line ++ t)) (one_link links k from left at x l (n.1 no_link)) s.bytes) p;
      short = short;
      few = omega (arith, s.few);
      begun = λ (full : count ≤ left - 1). absurd (omega (arith, s.few, full, l));
      calm = calm ∙ s.calm;
    }

-- behind the last link
pub last_piece : (a b : Option (List ℕ)) (text line : List ℕ) (links : List Link) (k from left : ℕ) → left ≤ 0 → StillToPut a b text (line ++ chain_text links k from left) → StillToPut a b text (line ++ codes "\n")
last_piece a b text line links k from zero l s = s
last_piece a b text line links k from (suc left) l s = absurd (omega arith)

-- THE TEXT OF THE WAITS

-- the lines of the marks from this index on
abbrev pub lines_from : List WaitMark → List Link → ℕ → List ℕ
lines_from marks links k = flat_map (λ i. wait_text i (mark_at marks i) links) (range_with_len k (length marks - k))

pub one_wait : (marks : List WaitMark) (links : List Link) (k : ℕ) → k < length marks → lines_from marks links k ≡ wait_text k (get_or marks k no_wait_mark) links ++ lines_from marks links (k + 1)
one_wait marks links k l =
    let here : get_or marks k no_wait_mark ≡ mark_at marks k = get_or_default marks k no_wait_mark no_mark l in
    let more : length marks - k ≡ suc (length marks - (k + 1)) = omega arith in
    rw more (ap (λ (x : WaitMark). wait_text k x links ++ lines_from marks links (k + 1)) (sym here))
