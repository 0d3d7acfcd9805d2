-- A world shows a board: its words are those of the board, as bits; each context is where its word tells, and stands where
-- the board has it; and what a lock guards is at home while the lock is free, and else in the hand of the context that holds
-- it. Of a ledger's reply and position no word tells.
use Rattle.std.specs.Prelude.{◌≡◌, ℕ, ◌<◌, Bool, true, false, Option, Some, None, length}
use Rattle.k_ids.specs.declared.context_word.ContextWord.{ContextWord}
use Rattle.k_ids.specs.declared.context_word.ContextWord.TheVariants as context
use Rattle.k_ids.specs.declared.lock_word.LockWord.{LockWord}
use Rattle.k_ids.specs.declared.lock_word.LockWord.TheVariants as locked
use Rattle.k_ids.specs.ContextWords.{IsContextSpelling, context_word_of}
use Rattle.k_ids.specs.LockWords.{lock_word_of}
use Rattle.k_ids.specs.Messages.{message_of_bits}
use Rattle.k_ids.specs.StateWords.{IsStateSpelling, state_word_of}
use Rattle.k_locks.specs.declared.locks.Lock.{Lock}
use Rattle.k_locks.specs.declared.locks.Lock.TheVariants as lock
use Rattle.k_locks.specs.Places.{IsLock, lock_number}
use Rattle.k_script.specs.Script.{Script}
use Rattle.k_context.specs.Contexts.{ContextSeen, locks_of}
use Rattle.k_context.specs.Contexts as contexts
use Rattle.k_carrier.specs.Asked.{version_of}
use Rattle.k_carrier.specs.Rules.{holds_any}
use Rattle.k_carrier.specs.Seen.{HandSeen}
use Rattle.k_world.specs.Worlds.{Slot, Guarded, Resting, Away, World, held_in, resting_in}
use Rattle.k_board.specs.Words.{Seen}
use Rattle.k_board.specs.Boards.{Board, owner_of}
use Rattle.k_good.specs.Locks.{owner_by}
use Rattle.k_places.specs.Contexts.{HoldsGoods, ShowsContext, goods_on}
use Rattle.k_places.specs.Memory.{Memory, memory_of}

-- WORDS

-- The state word of a number is a spelling. It and the mail, decoded, are those of the board.
pub record ShowsNumber (bits packed : ℕ) (v : Seen) : Type 0 where
  pub spelled : IsStateSpelling bits
  pub word : v.word ≡ state_word_of bits
  pub mail : v.mail ≡ message_of_bits packed

abbrev pub ShowsSeen : (ℕ → ℕ) → (ℕ → ℕ) → (ℕ → Seen) → Type 0
ShowsSeen state mail seen = (n : ℕ) → ShowsNumber (state n) (mail n) (seen n)

abbrev pub owner_in : LockWord → Option ℕ
owner_in locked.Free = None
owner_in (locked.Owned i) = Some i

-- a lock word names the owner
abbrev pub ShowsOwners : (ℕ → ℕ) → (ℕ → Option ℕ) → Option ℕ → Option ℕ → Type 0
ShowsOwners words owner table ready =
    (l : Lock) → IsLock l → owner_by owner table ready l ≡ owner_in (lock_word_of (words (lock_number l)))

-- CONTEXTS

-- A context that rests, of this version, which holds a lock or doesn't.
abbrev pub Rests : Slot → Bool → ℕ → Type 0
Rests (Resting v) holds version = (holds_any (locks_of v) ≡ holds) × (version_of (contexts.owner_of v) ≡ version)
Rests (Guarded g) holds version = ⊥
Rests Away holds version = ⊥

-- A carrier has the context of this number in hand, of this version.
abbrev pub IsInHand : Option HandSeen → ℕ → ℕ → Type 0
IsInHand (Some h) i version = (h.context ≡ i) × (version_of (contexts.owner_of h.value) ≡ version)
IsInHand None i version = ⊥

-- where the context is of which this is the word
abbrev pub Stands : (ℕ → Slot) → (ℕ → Option HandSeen) → ℕ → ContextWord → Type 0
Stands slot hand i context.Empty = Unit {0}
Stands slot hand i (context.Clean version) = Rests (slot i) false version
Stands slot hand i (context.Holds version) = Rests (slot i) true version
Stands slot hand i (context.Taken carrier version) = IsInHand (hand carrier) i version

-- Each context is where its word tells, and what a carrier has in hand is a context of which the word tells that.
pub record AreInPlace (words : ℕ → ℕ) (slot : ℕ → Slot) (hand : ℕ → Option HandSeen) : Type 0 where
  pub spelled : (i : ℕ) → IsContextSpelling (words i)
  pub stands : (i : ℕ) → Stands slot hand i (context_word_of (words i))
  pub taken : (c : ℕ) (h : HandSeen) → hand c ≡ Some h →
      context_word_of (words h.context) ≡ context.Taken c (version_of (contexts.owner_of h.value))

-- the context of a number, wherever it is
abbrev pub context_by : (ℕ → Slot) → (ℕ → Option HandSeen) → ℕ → ContextWord → Option ContextSeen
context_by slot hand i context.Empty = None
context_by slot hand i (context.Clean version) = resting_in (slot i)
context_by slot hand i (context.Holds version) = resting_in (slot i)
context_by slot hand i (context.Taken carrier version) = held_in (hand carrier)

abbrev pub context_in : (ℕ → ℕ) → (ℕ → Slot) → (ℕ → Option HandSeen) → ℕ → Option ContextSeen
context_in words slot hand i = context_by slot hand i (context_word_of (words i))

-- GOODS

-- a lock of a number of the table, or one of the two others
abbrev pub IsLockOf : ℕ → Lock → Type 0
IsLockOf size (lock.Thread n) = (n < 64) × (n < size)
IsLockOf size lock.Table = Unit {0}
IsLockOf size lock.Ready = Unit {0}

-- What a lock guards is at home while the lock is free. A context has in hand what its location holds.
pub record ShowsGoods (home : ℕ → Slot) (found : ℕ → Option ContextSeen) (b : Board) : Type 0 where
  pub homes : (l : Lock) → IsLockOf b.size l → owner_of b l ≡ None →
      home (lock_number l) ≡ Guarded (goods_on b l)
  pub hands : (i : ℕ) (v : ContextSeen) → found i ≡ Some v → HoldsGoods b v (b.context i).at

-- THE BOARD

pub record Shows (script : Script) (m : Memory) (b : Board) : Type 0 where
  pub size : b.size ≡ script.table
  pub seen : ShowsSeen m.state m.mail b.seen
  pub serials : (n : ℕ) → (b.seen n).last ≡ m.serial n
  pub owners : ShowsOwners m.lock b.owner b.table b.ready
  pub places : AreInPlace m.context m.slot m.hand
  pub contexts : (i : ℕ) → ShowsContext (b.seen i).word i (context_in m.context m.slot m.hand i) (b.context i)
  pub goods : ShowsGoods m.home (context_in m.context m.slot m.hand) b

-- all words and slots are there, and each number of the table has a last serial
pub record IsWhole (script : Script) (w : World) : Type 0 where
  pub words : length w.words ≡ 296
  pub slots : length w.slots ≡ 148
  pub serials : length w.serials ≡ script.table

pub record ShowsBoard (script : Script) (w : World) (b : Board) : Type 0 where
  pub whole : IsWhole script w
  pub shows : Shows script (memory_of w) b
