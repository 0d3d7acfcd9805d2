use Rattle.std.proofs.Common.{ℕ, length, ◌≡◌}
use Rattle.k_links.specs.Links.{empty_row, row_at}
use Rattle.k_links.proofs.links.Links.opened.Given as goal

abbrev pub invariant-loop : goal.invariant-loop
invariant-loop g l = ((n : ℕ) → row_at l.rows.items n ≡ empty_row) × (length l.rows.items ≡ l.counter)
