-- What a step leaves as it was.
use Rattle.std.specs.Prelude.{ℕ, ◌≡◌, Bool, true, false, IfSome, List, length, take}
use Rattle.k_script.specs.Script.{Script}
use Rattle.k_locks.specs.declared.locks.WordName.TheVariants as word
use Rattle.k_locks.specs.Places.{slot_of}
use Rattle.k_carrier.specs.Moves.{MoveSeen}
use Rattle.k_carrier.specs.Answers.{AnswerSeen}
use Rattle.k_carrier.specs.Answers as answer
use Rattle.k_world.specs.Moves.{change_of, word_on}
use Rattle.k_world.specs.Worlds.{World}

-- whether it is the answer to a step of a section
abbrev pub is_section : AnswerSeen → Bool
is_section (answer.Section a) = true
is_section (answer.Looked bits) = false
is_section (answer.Took v) = false
is_section (answer.TakeLost found) = false
is_section answer.Given = false

-- A move that is on the word of a context, and on its slot alone.
pub record IsOfContext (script : Script) (m : MoveSeen) (n : ℕ) : Type 0 where
  pub own_word : word_on m ≡ word.Context n
  pub own_slot : (found : ℕ) → IfSome (change_of script m found) (λ c. c.slot ≡ slot_of n)

-- Each list is as long as it was; logs are no such lists.
pub record IsSized (w w' : World) : Type 0 where
  pub words : length w'.words ≡ length w.words
  pub slots : length w'.slots ≡ length w.slots
  pub carriers : length w'.carriers ≡ length w.carriers
  pub serials : length w'.serials ≡ length w.serials
  pub unstarted : length w'.unstarted ≡ length w.unstarted
  pub standing : length w'.waits.standing ≡ length w.waits.standing

-- The second list begins with the first.
abbrev pub Extends : {X : Type 0} → List X → List X → Type 0
Extends xs ys = take (length xs) ys ≡ xs

-- A world with so many carriers, for a script: 74 numbers have words and slots.
pub record IsBootSized (script : Script) (count : ℕ) (w : World) : Type 0 where
  pub words : length w.words ≡ 296
  pub slots : length w.slots ≡ 148
  pub carriers : length w.carriers ≡ count
  pub serials : length w.serials ≡ script.table
  pub unstarted : length w.unstarted ≡ script.table
  pub standing : length w.waits.standing ≡ count
