-- The chain of a mark begins at its first link.
use Rattle.std.proofs.Common.{◌≡◌, ℕ, zero, suc, ◌<◌, ◌-◌, ◌==◌, true, false, List, [], ◌∷◌, length, get_or, take, drop, refl, sym, ap, ◌∙◌, inl, inr, arith}
use Rattle.std.proofs.lemmas.Bool.{and_left, cases_Bool}
use Rattle.std.proofs.lemmas.List.{get_or_default, length-drop, take_all}
use Rattle.k_carrier.specs.declared.marks.Link.{Link}
use Rattle.k_carrier.specs.declared.marks.WaitMark.{WaitMark}
use Rattle.k_world.specs.Lawful.{IsLawfulLog, links_of}
use Rattle.k_world.specs.Marks.{chained, is_alike, is_linked, mark_at, no_mark, with_link}
use Rattle.k_world.specs.Worlds.{WaitLog}

-- before it there is none that is like one of its
linked_from : (link : Link) (links : List Link) (n : ℕ) → links_of link.mark (take n links) ≡ [] → is_linked link (drop n links) ≡ is_linked link links
linked_from link [] zero h = refl
linked_from link [] (suc n) h = refl
linked_from link (x ∷ links) zero h = refl
linked_from link (x ∷ links) (suc n) h = elim (cases_Bool (x.mark == link.mark)) [
  | inl t ↦ let no : x ∷ links_of link.mark (take n links) ≡ [] = sym (rw t refl) ∙ h in absurd cc
  | inr f ↦
      let rest : links_of link.mark (take n links) ≡ [] = sym (rw f refl) ∙ h in
      let other : is_alike x link ≡ false = and_left (x.mark == link.mark) _ f in
      rw other (linked_from link links n rest)
]

pub linked_after : (l : WaitLog) (link : Link) (m : WaitMark) (marks : List WaitMark) (links : List Link) → IsLawfulLog l → link.mark < length l.marks → marks ≡ l.marks → links ≡ l.links → m ≡ get_or marks link.mark m → is_linked link (take (length links - m.first) (drop m.first links)) ≡ is_linked link l.links
linked_after l link m marks links h n f g e =
    let here : m ≡ mark_at l.marks link.mark = e ∙ (ap (λ (ms : List WaitMark). get_or ms link.mark m) f ∙ get_or_default l.marks link.mark m no_mark n) in
    let rest : take (length links - m.first) (drop m.first links) ≡ drop m.first links = take_all (length links - m.first) (drop m.first links) (omega (arith, length-drop m.first links)) in
    ap (is_linked link) (rest ∙ ap (drop m.first) g) ∙ linked_from link l.links m.first (ap (λ (x : WaitMark). links_of link.mark (take x.first l.links)) here ∙ (h.waits link.mark n).first)

pub chained_new : (l : WaitLog) (link : Link) → is_linked link l.links ≡ false → with_link link l ≡ chained link l
chained_new l link f = rw f refl

pub chained_old : (l : WaitLog) (link : Link) → is_linked link l.links ≡ true → l ≡ chained link l
chained_old l link t = rw t refl
