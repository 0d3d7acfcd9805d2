-- The owners, wants and links of the raw world in the words of the bound, where a context is told by its number.
use Rattle.std.specs.Prelude.{◌≡◌, ℕ, ◌+◌, ◌≤◌, Bool, Option, Some, None, List}
use Rattle.std.specs.List.{list_any}
use Rattle.k_locks.specs.declared.locks.Lock.{Lock}
use Rattle.k_locks.specs.Asks.{want_for}
use Rattle.k_locks.specs.Asks as asks
use Rattle.k_context.specs.declared.owner.Owner.{Owner}
use Rattle.k_context.specs.declared.owner.Owner.TheVariants as owner
use Rattle.k_carrier.specs.declared.marks.Link.{Link}
use Rattle.k_carrier.specs.declared.marks.WaitMark.{WaitMark}
use Rattle.k_carrier.specs.declared.marks.Want.{Want}
use Rattle.k_carrier.specs.declared.marks.Want.TheVariants as want
use Rattle.k_carrier.specs.declared.moves.Help.{Help}
use Rattle.k_world.specs.Lawful.{links_of}
use Rattle.k_world.specs.Marks.{capped}
use Rattle.k_bound.specs.Waits.{OwnerFound, allowed, is_linked, owner_found, same_found}
use Rattle.k_bound.specs.Waits as bound

-- the number of an owner's context, where the table has so many numbers
abbrev pub number_of : ℕ → Owner → ℕ
number_of table (owner.Thread id) = id.number
number_of table (owner.Carrier number) = table + number

abbrev pub want_in : Want → asks.Want
want_in (want.Lock l) = want_for l
want_in (want.Context number) = asks.Context number

-- what a context is helped for: a lock, or where none is named the context itself
abbrev pub want_helped : ℕ → Option Lock → asks.Want
want_helped context (Some l) = want_for l
want_helped context None = asks.Context context

abbrev pub found_in_help : Option Help → Option OwnerFound
found_in_help None = None
found_in_help (Some p) = Some (owner_found p.context (want_helped p.context p.lock))

abbrev pub found_in_link : ℕ → Link → OwnerFound
found_in_link table link = owner_found (number_of table link.owner) (want_in link.wants)

-- whether one of these links is of this owner and this want
abbrev pub has_found : ℕ → OwnerFound → List Link → Bool
has_found table found links = list_any (λ link. same_found found (found_in_link table link)) links

-- The log's mark with this index shows this mark of the bound: it has the same links and allows what they allow,
-- up to the end of the count; and of the steps used it has counted no more.
pub record ShowsMark (table k : ℕ) (m : WaitMark) (links : List Link) (mark : bound.WaitMark) : Type 0 where
  pub linked : (found : OwnerFound) → is_linked found mark.links ≡ has_found table found (links_of k links)
  pub allowed : m.allowed ≡ capped (allowed mark.links)
  pub used : m.used ≤ capped mark.used
