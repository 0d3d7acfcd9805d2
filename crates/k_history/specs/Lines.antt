-- Which entries the lines of a history tell.
use Rattle.std.specs.Prelude.{ℕ, ◌≡◌, true, List, [], ◌∷◌}
use Rattle.k_ids.specs.declared.histories.Entry.{Entry}
use Rattle.k_history.specs.Fits.{Spells}
use Rattle.k_history.specs.Inside.{all_inside, entry_threads}

-- The line spells the entry, and names only numbers of a table of this size.
pub record Tells (size : ℕ) (line : List ℕ) (e : Entry) : Type 0 where
  pub spells : Spells line e
  pub inside : all_inside size (entry_threads e) ≡ true

-- These lines are those of these entries, one for one.
abbrev pub TellAll : ℕ → List (List ℕ) → List Entry → Type 0
TellAll size [] [] = Unit {0}
TellAll size [] (e ∷ es) = ⊥
TellAll size (line ∷ lines) [] = ⊥
TellAll size (line ∷ lines) (e ∷ es) = Tells size line e × TellAll size lines es
