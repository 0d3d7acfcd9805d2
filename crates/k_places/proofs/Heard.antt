-- What comes of a step, as an answer and as a response; and what is in hand then.
use Rattle.std.proofs.Common.{◌≡◌, ◌==◌, Bool, true, false, refl, sym, ap, ◌∙◌, None}
use Rattle.std.specs.Prelude.{if◌then◌else◌}
use Rattle.std.proofs.lemmas.Bool.{eqb-true}
use Rattle.k_ids.specs.declared.lock_word.LockWord.TheVariants as locked
use Rattle.k_ids.specs.LockWords.{lock_bits, lock_word_of}
use Rattle.k_ids.proofs.LockSpelled.{lock-read}
use Rattle.k_locks.specs.declared.goods.Goods.{Goods}
use Rattle.k_locks.specs.declared.locks.Lock.{Lock}
use Rattle.k_locks.specs.declared.locks.Lock.TheVariants as lock
use Rattle.k_locks.specs.declared.steps.Answer.TheVariants as answered
use Rattle.k_locks.specs.declared.steps.Told.{Told}
use Rattle.k_locks.specs.declared.steps.Told.TheVariants as told
use Rattle.k_locks.specs.Asks.{Ask, Response, response_of, step_for, told_of}
use Rattle.k_locks.specs.Asks as asks
use Rattle.k_locks.specs.Hands.{Hand, hand_with}
use Rattle.k_locks.specs.Places.{lock_number}
use Rattle.k_locks.specs.Steps.{not_acquired}
use Rattle.k_locks.specs.Tables.{hand_came}
use Rattle.k_world.specs.Worlds.{goods_in}
use Rattle.k_board.specs.Boards.{Board, owner_of}
use Rattle.k_board.specs.Steps.{Answers}
use Rattle.k_places.specs.Contexts.{goods_on}
use Rattle.k_places.specs.Memory.{Memory}
use Rattle.k_places.specs.Asks.{IsAskFit}
use Rattle.k_places.specs.Answers.{answer_in}
use Rattle.k_places.specs.Shows.{IsLockOf, ShowsOwners, owner_in}
use Rattle.k_places.proofs.Goes.{goods_asked}
use Rattle.k_places.proofs.Guarded.{AreHome}
use Rattle.k_places.proofs.Words.{is_lock}
use Rattle.k_good.specs.Locks.{owner_by}

-- what is told without a lock leaves what is in hand
told_leaves : (t : Told) (a : Ask) (g : Goods) (h : Hand) → h ≡ hand_came (told_of t a) g h
told_leaves (told.Loaded bits) (asks.LoadMail n) g h = refl
told_leaves (told.Loaded bits) (asks.Load n) g h = refl
told_leaves (told.Loaded bits) (asks.Post n message) g h = refl
told_leaves (told.Loaded bits) (asks.Exchange n old new) g h = refl
told_leaves (told.Loaded bits) (asks.Acquire l) g h = refl
told_leaves (told.Loaded bits) (asks.Release l) g h = refl
told_leaves (told.Loaded bits) (asks.Place id program priority) g h = refl
told_leaves (told.Loaded bits) (asks.Remove id) g h = refl
told_leaves told.Stored a g h = refl
told_leaves told.Won a g h = refl
told_leaves (told.Lost bits) a g h = refl
told_leaves (told.Owned o) a g h = refl
told_leaves told.Released a g h = refl
told_leaves told.Placed a g h = refl
told_leaves told.Removed a g h = refl
told_leaves (told.Holds n) a g h = refl
told_leaves (told.Taken n carrier) a g h = refl

owner_is : (b : Board) (l : Lock) → owner_by b.owner b.table b.ready l ≡ owner_of b l
owner_is b (lock.Thread n) = refl
owner_is b lock.Table = refl
owner_is b lock.Ready = refl

module _ (m : Memory) (b : Board) (owners : ShowsOwners m.lock b.owner b.table b.ready) (homes : AreHome b.size m.home b) where
  -- what comes with a lock is what the board has of it
  got_is : (l : Lock) → IsLockOf b.size l → (t : Bool) → (m.lock (lock_number l) == lock_bits locked.Free) ≡ t → (h : Hand) →
      hand_with (if t then answered.Got (goods_in (m.home (lock_number l))) else answered.Told
      (not_acquired (lock_word_of (m.lock (lock_number l))))) h ≡
      hand_came (response_of (if t then answered.Got (goods_in (m.home (lock_number l))) else answered.Told
      (not_acquired (lock_word_of (m.lock (lock_number l))))) (asks.Acquire l)) (goods_on b l) h
  got_is l j true e h =
      let free : owner_of b l ≡ None = sym (owner_is b l) ∙ owners l (is_lock b.size l j)
      ∙ ap (λ z. owner_in (lock_word_of z)) (eqb-true (m.lock (lock_number l)) (lock_bits locked.Free) e)
      ∙ ap owner_in (lock-read locked.Free) in
      ap (λ s. hand_with (answered.Got (goods_in s)) h) (homes l j free)
  got_is l j false e h = told_leaves (not_acquired (lock_word_of (m.lock (lock_number l)))) (asks.Acquire l) (goods_on b l) h

  pub came_is : (a : Ask) (s h : Hand) → IsAskFit m b a →
      hand_with (answer_in m (step_for a s)) h ≡ hand_came (response_of (answer_in m (step_for a s)) a) (goods_asked a b) h
  came_is (asks.Acquire l) s h f = got_is l f (m.lock (lock_number l) == lock_bits locked.Free) refl h
  came_is (asks.Release l) s h f = refl
  came_is (asks.Load n) s h f = refl
  came_is (asks.LoadMail n) s h f = refl
  came_is (asks.Post n message) s h f = refl
  came_is (asks.Exchange n old new) s h f = told_leaves _ (asks.Exchange n old new) _ h
  came_is (asks.Place id program priority) s h f = refl
  came_is (asks.Remove id) s h f = told_leaves _ (asks.Remove id) _ h

-- what may have to be asked for again
abbrev pub MayWait : Ask → Type 0
MayWait (asks.Acquire l) = Unit {0}
MayWait (asks.Remove id) = Unit {0}
MayWait a = ⊥

pub again_asks : (b : Board) (a : Ask) (r : Response) → Answers b a r → asks.is_again r ≡ true → MayWait a
again_asks b (asks.Acquire l) r an ag = tt
again_asks b (asks.Remove id) r an ag = tt
again_asks b (asks.Load n) (asks.Word w) an ag = absurd cc
again_asks b (asks.LoadMail n) (asks.Mail w) an ag = absurd cc
again_asks b (asks.Post n message) asks.Stored an ag = absurd cc
again_asks b (asks.Exchange n old new) asks.Won an ag = absurd cc
again_asks b (asks.Exchange n old new) (asks.Lost w) an ag = absurd cc
again_asks b (asks.Release l) asks.Released an ag = absurd cc
again_asks b (asks.Place id program priority) asks.Placed an ag = absurd cc
again_asks b a r an ag = absurd an
