-- What holds of the logs of marks, whatever was done.
use Rattle.std.specs.Prelude.{ℕ, ◌≡◌, ◌<◌, ◌≤◌, ◌==◌, Bool, true, false, ◌&&◌, Option, Some, None, List, [], ◌∷◌, length, map, take}
use Rattle.std.specs.List.{IsDistinct, filter, range_with_len, sum_by}
use Rattle.k_context.specs.declared.owner.Owner.{Owner}
use Rattle.k_carrier.specs.declared.marks.Link.{Link}
use Rattle.k_carrier.specs.declared.marks.StepMark.{StepMark}
use Rattle.k_carrier.specs.declared.marks.WaitMark.{WaitMark}
use Rattle.k_carrier.specs.declared.marks.Want.{Want}
use Rattle.k_world.specs.Marks.{capped, is_alike, mark_at, same_owner, standing_at}
use Rattle.k_world.specs.Worlds.{WaitLog}

-- STEP MARKS

-- whether it is of this call, or switch
abbrev pub belongs_to : Owner → ℕ → StepMark → Bool
belongs_to o serial m = same_owner m.owner o && (m.serial == serial)

-- the numbers of the marks of a call, or of a switch, in the order in which its steps were made
abbrev pub numbers_of : Owner → ℕ → List StepMark → List ℕ
numbers_of o serial marks = map (λ m. m.number) (filter (belongs_to o serial) marks)

-- No step is made twice: the steps of each call, and of each switch, are numbered 0, 1, 2 and so on, in the order in which they
-- were made.
abbrev pub IsLawfulMarks : List StepMark → Type 0
IsLawfulMarks marks = (o : Owner) (serial : ℕ) → numbers_of o serial marks ≡ range_with_len 0 (length (numbers_of o serial marks))

-- whether it is the same step
abbrev pub same_step : StepMark → StepMark → Bool
same_step a b = same_owner a.owner b.owner && ((a.serial == b.serial) && (a.number == b.number))

-- No step stands twice in the log.
abbrev pub IsOnceMade : List StepMark → Type 0
IsOnceMade marks = IsDistinct same_step marks

-- MARKS OF WAITS

-- the links of a mark
abbrev pub links_of : ℕ → List Link → List Link
links_of k links = filter (λ link. link.mark == k) links

-- how many steps the owners of these links were allowed, up to the end of the count
abbrev pub allowed_by : List Link → ℕ
allowed_by links = capped (sum_by (λ link. link.left) links)

abbrev pub first_want : List Link → Option Want
first_want [] = None
first_want (link ∷ links) = Some link.wants

-- A mark with its links: they begin at `first`, are so many, the first of them is for what the requester wants, and what they
-- allow is the sum.
pub record IsLawfulWait (links : List Link) (k : ℕ) (m : WaitMark) : Type 0 where
  pub inside : m.first < length links
  pub first : links_of k (take m.first links) ≡ []
  pub count : m.count ≡ capped (length (links_of k links))
  pub wanted : first_want (links_of k links) ≡ Some m.wants
  pub allowed : m.allowed ≡ allowed_by (links_of k links)

-- A mark that stands is one of the log's, and wasn't got yet.
pub record IsStanding (l : WaitLog) (k : ℕ) : Type 0 where
  pub inside : k < length l.marks
  pub waiting : (mark_at l.marks k).got ≡ false

-- Each mark is lawful, no chain has an owner twice for the same want, each link is of a mark, and a mark stands of one carrier at
-- most.
pub record IsLawfulLog (l : WaitLog) : Type 0 where
  pub waits : (k : ℕ) → k < length l.marks → IsLawfulWait l.links k (mark_at l.marks k)
  pub once : IsDistinct is_alike l.links
  pub known : (k : ℕ) → length l.marks ≤ k → links_of k l.links ≡ []
  pub standing : (c k : ℕ) → standing_at l c ≡ Some k → IsStanding l k
  pub apart : (c d k : ℕ) → standing_at l c ≡ Some k → standing_at l d ≡ Some k → c ≡ d

-- What a mark keeps once it has begun. It stays got.
pub record IsLater (m m' : WaitMark) : Type 0 where
  pub requester : m'.requester ≡ m.requester
  pub serial : m'.serial ≡ m.serial
  pub wants : m'.wants ≡ m.wants
  pub first : m'.first ≡ m.first
  pub got : m.got ≡ true → m'.got ≡ true

-- The mark of a carrier was got by a step: it stands no more, and the step isn't counted in it.
pub record IsGot (l l' : WaitLog) (c k : ℕ) : Type 0 where
  pub got : (mark_at l'.marks k).got ≡ true
  pub used : (mark_at l'.marks k).used ≡ (mark_at l.marks k).used
  pub over : standing_at l' c ≡ None
