-- How waits are printed: a line for each mark, with its chain of links.
use Rattle.std.specs.Prelude.{ℕ, Bool, true, false, List, [], ◌∷◌, ◌++◌, codes, decimal, drop, length, take}
use Rattle.std.specs.List.{flat_map, range_with_len}
use Rattle.k_locks.specs.declared.locks.Lock.TheVariants as lock
use Rattle.k_context.specs.declared.owner.Owner.{Owner}
use Rattle.k_context.specs.declared.owner.Owner.TheVariants as owner
use Rattle.k_carrier.specs.declared.marks.Link.{Link}
use Rattle.k_carrier.specs.declared.marks.WaitMark.{WaitMark}
use Rattle.k_carrier.specs.declared.marks.Want.{Want}
use Rattle.k_carrier.specs.declared.marks.Want.TheVariants as want
use Rattle.k_world.specs.Lawful.{links_of}
use Rattle.k_world.specs.Marks.{mark_at}
use Rattle.k_text.specs.Texts.{Word, id_word, line_text}

-- an id, or `cC` of carrier C
abbrev pub owner_word : Owner → Word
owner_word (owner.Thread id) = id_word id
owner_word (owner.Carrier c) = codes "c" ++ decimal c

abbrev pub want_words : Want → List Word
want_words (want.Lock lock.Table) = codes "table" ∷ []
want_words (want.Lock (lock.Thread t)) = codes "thread" ∷ decimal t ∷ []
want_words (want.Lock lock.Ready) = codes "ready" ∷ []
want_words (want.Context t) = codes "context" ∷ decimal t ∷ []

abbrev pub end_word : Bool → Word
end_word true = codes "got"
end_word false = codes "broken"

-- The links of the mark of this index: the first `count` ones from `first` on. Those of other marks may stand between them.
abbrev pub chain_of : ℕ → WaitMark → List Link → List Link
chain_of k m links = take m.count (links_of k (drop m.first links))

abbrev pub link_words : Link → List Word
link_words l = owner_word l.owner ∷ decimal l.serial ∷ decimal l.left ∷ []

abbrev pub wait_words : WaitMark → List Word
wait_words m = codes "wait" ∷ owner_word m.requester ∷ decimal m.serial ∷ (want_words m.wants ++ end_word m.got ∷ codes "allowed" ∷ decimal m.allowed ∷ codes "used" ∷ decimal m.used ∷ codes "chain" ∷ [])

-- the line of a mark, which has this index
abbrev pub wait_text : ℕ → WaitMark → List Link → List ℕ
wait_text k m links = line_text (wait_words m ++ flat_map link_words (chain_of k m links))

-- in the order in which the waits began
abbrev pub waits_text : List WaitMark → List Link → List ℕ
waits_text marks links = flat_map (λ k. wait_text k (mark_at marks k) links) (range_with_len 0 (length marks))
