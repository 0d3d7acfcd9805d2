-- Putting a text of several pieces: what contracts of private functions cite.
use Rattle.std.specs.Prelude.{ℕ, ◌+◌, ◌≡◌, ◌<◌, List, [], ◌∷◌, ◌++◌, Option, None, Some, length, drop, slice_index_or}
use Rattle.k_carrier.specs.declared.marks.Link.{Link}
use Rattle.k_world.specs.Lawful.{links_of}
use Rattle.k_text.specs.Texts.{spaced}
use Rattle.k_outside.specs.Outside.{Appends}
use Rattle.k_report.specs.Waits.{link_words}

-- a link behind the words before it
abbrev pub link_text : Link → List ℕ
link_text l = spaced (link_words l)

-- A front of what waited to be put, and of what came behind it, was put, and the rest waits now.
pub record PutOn (before now : Option (List ℕ)) (waiting more waits : List ℕ) : Type 0 where
  pub done : List ℕ
  pub parts : waiting ++ more ≡ done ++ waits
  pub put : Appends before now done

-- Where the next link of a mark stands, from an index on: it, and behind it the others; or there is none.
abbrev pub NextOf : List Link → ℕ → ℕ → Option ℕ → Type 0
NextOf links from k None = links_of k (drop from links) ≡ []
NextOf links from k (Some at) = (at < length links) × ((d : Link) → links_of k (drop from links) ≡ slice_index_or links at d ∷ links_of k (drop (at + 1) links))
