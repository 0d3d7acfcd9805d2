-- What critical sections publish of themselves as far as they wait for each other, and the ten laws that such sections keep.
use Rattle.std.specs.Prelude.{◌≡◌, ◌≢◌, ℕ, ◌+◌, ◌<◌, ◌≤◌, ◌==◌, Bool, true, false, ◌⊎◌, Option, Some}
use Rattle.k_locks.specs.Asks.{Want, Table, Context, Thread, Ready}

-- The lock order, with the contexts that are to be removed in it: each stands above the table lock and below the thread locks.
abbrev pub want_rank : Want → ℕ
want_rank Table = 0
want_rank (Context number) = 1
want_rank (Thread number) = 2
want_rank Ready = 3

abbrev pub same_want : Want → Want → Bool
same_want Table Table = true
same_want (Context m) (Context n) = m == n
same_want (Thread m) (Thread n) = m == n
same_want Ready Ready = true
same_want v w = false

-- What sections publish. `State` is all that they step on. A context, in which one section stands, is told by its number.
pub record Sections (State : Type 0) : Type 0 where
  -- what the context's next step acquires, or whom it removes; None where the step has nothing to wait for
  pub wants : State → ℕ → Option Want
  -- the context that holds it up: the owner of the lock; of a context, that one itself while it owns a lock
  pub holder : State → Want → Option ℕ
  -- the steps of the context up to the release of what it holds, at most, as the words stand now
  pub rest : State → ℕ → Want → ℕ
  -- the number that is published for them at the context's location
  pub left : State → ℕ → Want → ℕ
  -- after the context's next step
  pub step : State → ℕ → State
  pub removed : State → ℕ → Bool

-- Nobody holds up the context's next step.
abbrev pub GoesOn : {State : Type 0} → Sections State → State → ℕ → Type 0
GoesOn sections state context =
    (want : Want) (owner : ℕ) → sections.wants state context ≡ Some want → sections.holder state want ≡ Some owner → ⊥

-- THE TEN LAWS, of the states that are good
pub record SectionLaws (State : Type 0) (sections : Sections State) (IsGood : State → Type 0) : Type 0 where
  -- A step leaves a good state good.
  pub stays_good : (state : State) (context : ℕ) → IsGood state → IsGood (sections.step state context)
  -- A step of another context changes neither what this one asks for,
  pub wants_same : (state : State) (this other : ℕ) → IsGood state → this ≢ other →
      sections.wants (sections.step state other) this ≡ sections.wants state this
  -- nor what it holds: it loses nothing,
  pub holds_on : (state : State) (this other : ℕ) (want : Want) → IsGood state → this ≢ other →
      sections.holder state want ≡ Some this → sections.holder (sections.step state other) want ≡ Some this
  -- and is given nothing.
  pub held_before : (state : State) (this other : ℕ) (want : Want) → IsGood state → this ≢ other →
      sections.holder (sections.step state other) want ≡ Some this → sections.holder state want ≡ Some this
  -- Nor does it change how far this one is from a release while it asks for something.
  pub rest_same : (state : State) (this other : ℕ) (held asked : Want) → IsGood state → this ≢ other →
      sections.wants state this ≡ Some asked → sections.holder state held ≡ Some this →
      sections.rest (sections.step state other) this held ≡ sections.rest state this held
  -- A step that nobody holds up brings its context nearer to each release,
  pub rest_falls : (state : State) (context : ℕ) (held : Want) → IsGood state →
      sections.holder state held ≡ Some context → GoesOn sections state context →
      sections.rest (sections.step state context) context held + 1 ≤ sections.rest state context held
  -- which is never farther than published.
  pub rest_within_left : (state : State) (context : ℕ) (held : Want) → IsGood state →
      sections.holder state held ≡ Some context → sections.rest state context held ≤ sections.left state context held
  -- Who is waited for asks only for what ranks above what it is waited for.
  pub rank_rises : (state : State) (context owner : ℕ) (want next : Want) → IsGood state →
      sections.wants state context ≡ Some want → sections.holder state want ≡ Some owner →
      sections.wants state owner ≡ Some next → want_rank want < want_rank next
  -- What was acquired last is released first.
  pub last_first : (state : State) (context : ℕ) (released kept : Want) → IsGood state →
      sections.holder state released ≡ Some context → sections.holder (sections.step state context) released ≢ Some context →
      sections.holder (sections.step state context) kept ≡ Some context → want_rank kept ≤ want_rank released
  -- Who holds something gains only what it asks for.
  pub gains_asked : (state : State) (context : ℕ) (held gained : Want) → IsGood state →
      sections.holder state held ≡ Some context → sections.holder (sections.step state context) gained ≡ Some context →
      (sections.holder state gained ≡ Some context) ⊎ (sections.wants state context ≡ Some gained)

-- A section removes the context of another.
abbrev pub RemoveOthers : (State : Type 0) → Sections State → (State → Type 0) → Type 0
RemoveOthers State sections IsGood =
    (state : State) (context number : ℕ) → IsGood state → sections.wants state context ≡ Some (Context number) → number ≢ context
