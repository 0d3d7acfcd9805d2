-- What a section is, for one call of it: what it asks for at each location, where each response leads, and what it holds. All that
-- is claimed of the locks and of the steps of a section is claimed here, once, of any table.
use Rattle.std.specs.Prelude.{◌≡◌, ℕ, suc, ◌+◌, ◌-◌, ◌*◌, ◌<◌, ◌≤◌, ◌==◌, Bool, true, false, not, Option, Some, None, List, [], ◌∷◌, length, slice_get, slice_set}
use Rattle.k_ids.specs.declared.state_word.StateWord.{StateWord}
use Rattle.k_locks.specs.declared.locks.Lock.{Lock}
use Rattle.k_locks.specs.declared.locks.Lock.TheVariants as lock
use Rattle.k_locks.specs.declared.goods.Goods.{Goods}
use Rattle.k_locks.specs.Asks.{Ask, Exchange, Acquire, Release, Response, Word, Lost, Got, Released, is_again, is_lost, suits_response}
use Rattle.k_locks.specs.Hands.{Hand, with_goods}
use Rattle.k_locks.specs.Locks.{Holds, IsByRank, guards, rank_of}

pub record Table (L : Type 0) : Type 1 where
  pub first : L
  pub ask : StateWord → L → Ask  -- by the caller's state word as the section knows it
  pub leads : Hand → L → Response → L  -- by what was in hand before
  pub hand : Hand → L → Response → Hand  -- what becomes of that
  pub own : StateWord → L → Response → StateWord  -- what becomes of the caller's word
  pub locks : L → List (Option Lock)  -- those that are held, by rank
  pub left : Hand → L → Lock → ℕ  -- how many steps are left until a lock is released, that release included
  pub stays : L → Bool  -- whether `left` takes it that the word which was loaded is still there
  pub counted : L → ℕ  -- how many lost exchanges `left` counts
  pub rest : Hand → Bool → L → Lock → ℕ  -- what is left, where it is told whether the loaded word is still there
  pub seen : L → Option ℕ  -- the number whose word was loaded
  pub Allows : Hand → L → Response → Type 0  -- what isn't so is never answered; the hand is that after the response
  pub Fits : Hand → L → Type 0  -- what `left` and `rest` take for granted

-- ONE STEP

-- What comes with a response.
abbrev pub hand_came : Response → Goods → Hand → Hand
hand_came Got g h = with_goods g h
hand_came r g h = h

-- whether a step can bring these goods with this response: with a lock comes what it guards
abbrev pub brings : Ask → Response → Goods → Bool
brings (Acquire l) Got g = guards l g
brings a r g = true

-- The step of the location can have this response, with these goods, and isn't asked for again.
pub record IsMade {L : Type 0} (t : Table L) (own : StateWord) (h : Hand) (l : L) (r : Response) (g : Goods) : Type 0 where
  pub suiting : suits_response (t.ask own l) r ≡ true
  pub guarded : brings (t.ask own l) r g ≡ true
  pub made : is_again r ≡ false
  pub allowed : t.Allows (hand_came r g (t.hand h l r)) l r

-- What is reached from the first location, whatever the caller's word and what is in hand there.
pub data Reached {L : Type 0} (t : Table L) : StateWord → Hand → L → Type 0 where
  begins : (own : StateWord) (h : Hand) → Reached t own h t.first
  goes : (own : StateWord) (h : Hand) (l : L) (r : Response) (g : Goods) → Reached t own h l → IsMade t own h l r g → Reached t (t.own own l r) (hand_came r g (t.hand h l r)) (t.leads h l r)

-- Steps that are made while a lock is held, from a location on: what came of each. The release may be the last of them, and they
-- need not go as far.
pub data Run {L : Type 0} (t : Table L) (k : Lock) : StateWord → Hand → L → List Response → Type 0 where
  stops : (own : StateWord) (h : Hand) (l : L) → Run t k own h l []
  makes : (own : StateWord) (h : Hand) (l : L) (r : Response) (g : Goods) (more : List Response) → Holds k (t.locks l) → IsMade t own h l r g → Run t k (t.own own l r) (hand_came r g (t.hand h l r)) (t.leads h l r) more → Run t k own h l (r ∷ more)

-- LOCKS

-- the locks that are held after a step
abbrev pub locks_after : Ask → Response → List (Option Lock) → List (Option Lock)
locks_after (Acquire l) Got locks = slice_set locks (rank_of l) (Some l)
locks_after (Release l) Released locks = slice_set locks (rank_of l) None
locks_after a r locks = locks

-- A lock that is asked for has a higher rank than each that is held.
abbrev pub IsAbove : Ask → List (Option Lock) → Type 0
IsAbove (Acquire l) locks = (rank : ℕ) (m : Lock) → slice_get locks rank ≡ Some (Some m) → rank_of m < rank_of l
IsAbove a locks = Unit {0}

-- A lock that is released is held.
abbrev pub IsHeld : Ask → List (Option Lock) → Type 0
IsHeld (Release l) locks = Holds l locks
IsHeld a locks = Unit {0}

-- A section holds one lock of each rank at most, asks only for a lock of a higher rank than those that it holds, releases only
-- what it holds, and holds what it got and hasn't released: at first nothing.
pub record IsRising {L : Type 0} (t : Table L) : Type 0 where
  pub none : t.locks t.first ≡ None ∷ None ∷ None ∷ []
  pub ranked : (l : L) → IsByRank (t.locks l)
  pub rising : (own : StateWord) (l : L) → IsAbove (t.ask own l) (t.locks l)
  pub releasing : (own : StateWord) (l : L) → IsHeld (t.ask own l) (t.locks l)
  pub held : (own : StateWord) (h : Hand) (l : L) (r : Response) → suits_response (t.ask own l) r ≡ true → t.locks (t.leads h l r) ≡ locks_after (t.ask own l) r (t.locks l)

-- STEPS

-- how many exchanges were lost
abbrev pub with_lost : Response → ℕ → ℕ
with_lost (Lost w) lost = suc lost
with_lost r lost = lost

abbrev pub lost_in : List Response → ℕ
lost_in [] = 0
lost_in (r ∷ more) = with_lost r (lost_in more)

-- whether the first of them didn't lose its exchange: the word that was loaded was still there
abbrev pub is_found : List Response → Bool
is_found [] = true
is_found (r ∷ more) = not (is_lost r)

-- how many exchanges were lost after the first of them
abbrev pub lost_later : List Response → ℕ
lost_later [] = 0
lost_later (r ∷ more) = lost_in more

-- whether the exchange of the word that was loaded is lost by this response
abbrev pub misses : Option ℕ → Ask → Response → Bool
misses (Some seen) (Exchange number old new) (Lost w) = seen == number
misses seen a r = false

-- Whether the loaded word is there after a step: a word that is loaded is, and no step of a section's own changes it but the
-- exchange for which it was loaded.
abbrev pub there_after : Bool → Response → Bool
there_after there (Word w) = true
there_after there r = there

-- From a location on, a section makes at most as many steps until it has released a lock as `left` says, and two more for each
-- lost exchange that `left` doesn't count. Told whether the loaded word is still there, `rest` says it more exactly: two more only
-- for those lost after the first step. It falls with each step. While the ready lock is held no exchange is asked for. Steps
-- are left of a lock that is held, and of no other.
pub record IsReleasedInTime {L : Type 0} (t : Table L) : Type 0 where
  pub fits : (own : StateWord) (h : Hand) (l : L) → Reached t own h l → t.Fits h l
  pub most : (k : Lock) (own : StateWord) (h : Hand) (l : L) (answers : List Response) → t.Fits h l → Run t k own h l answers → length answers ≤ t.left h l k + 2 * (lost_in answers - t.counted l)
  pub exact : (k : Lock) (own : StateWord) (h : Hand) (l : L) (answers : List Response) → t.Fits h l → Run t k own h l answers → length answers ≤ t.rest h (is_found answers) l k + 2 * lost_later answers
  pub ready : (own : StateWord) (h : Hand) (l : L) (answers : List Response) → t.Fits h l → Run t lock.Ready own h l answers → length answers ≤ t.left h l lock.Ready
  pub falls : (k : Lock) (own : StateWord) (h : Hand) (l : L) (r : Response) (g : Goods) (there : Bool) → t.Fits h l → Holds k (t.locks l) → IsMade t own h l r g → (misses (t.seen l) (t.ask own l) r ≡ true → there ≡ false) → 1 + t.rest (hand_came r g (t.hand h l r)) (there_after there r) (t.leads h l r) k ≤ t.rest h there l k
  pub columns : (h : Hand) (l : L) (k : Lock) → t.left h l k ≡ t.rest h (t.stays l) l k
  pub above : (h : Hand) (l : L) (there : Bool) (k : Lock) → t.Fits h l → t.rest h true l k ≤ t.rest h there l k
  pub some : (h : Hand) (l : L) (k : Lock) → t.Fits h l → Holds k (t.locks l) → 1 ≤ t.left h l k
  pub only : (h : Hand) (l : L) (k : Lock) → 1 ≤ t.left h l k → Holds k (t.locks l)
