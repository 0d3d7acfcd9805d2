-- What comes of a step, as an answer: each that the board allows.
use Rattle.std.proofs.Common.{◌≡◌, ℕ, Bool, true, false, refl, sym, ap, ◌∙◌, subst, Some, None}
use Rattle.std.proofs.lemmas.Bool.{eq-eqb, eqb-true, false≢true}
use Rattle.std.specs.Prelude.{◌==◌, if◌then◌else◌}
use Rattle.k_ids.specs.declared.context_word.ContextWord.{ContextWord}
use Rattle.k_ids.specs.declared.context_word.ContextWord.TheVariants as context
use Rattle.k_ids.specs.declared.lock_word.LockWord.{LockWord}
use Rattle.k_ids.specs.declared.lock_word.LockWord.TheVariants.{Free, Owned}
use Rattle.k_ids.specs.ContextWords.{context_bits, context_word_of}
use Rattle.k_ids.specs.LockWords.{lock_bits, lock_word_of}
use Rattle.k_ids.specs.StateWords.{state_bits}
use Rattle.k_ids.proofs.LockSpelled.{lock-read, lock-same}
use Rattle.k_locks.specs.declared.locks.Lock.{Lock}
use Rattle.k_locks.specs.declared.locks.Lock.TheVariants as lock
use Rattle.k_locks.specs.declared.locks.WordName.TheVariants as word
use Rattle.k_locks.specs.declared.steps.Answer.{Answer}
use Rattle.k_locks.specs.declared.steps.Answer.TheVariants as answer
use Rattle.k_locks.specs.declared.steps.Step.{Step}
use Rattle.k_locks.specs.declared.steps.Told.TheVariants as told
use Rattle.k_locks.specs.Asks.{Ask, step_for}
use Rattle.k_locks.specs.Asks as asks
use Rattle.k_locks.specs.Hands.{Hand}
use Rattle.k_locks.specs.Places.{home_of, lock_number}
use Rattle.k_locks.specs.Steps.{answer_of, not_acquired, not_removed, word_of}
use Rattle.k_script.specs.Script.{Script}
use Rattle.k_world.specs.Moves.{goods_for}
use Rattle.k_world.specs.Worlds.{Slot, World, goods_in, slot_at, word_at}
use Rattle.k_board.specs.Boards.{Board, owner_of}
use Rattle.k_good.specs.Locks.{owner_by}
use Rattle.k_places.specs.Contexts.{goods_on}
use Rattle.k_places.specs.Memory.{at, memory_of}
use Rattle.k_places.specs.Shows.{IsLockOf, ShowsBoard, owner_in}
use Rattle.k_places.proofs.Raw.{word_is}
use Rattle.k_places.proofs.Words.{is_lock}
use Rattle.k_conditions.proofs.Inside.{IsInside}

-- the answer to a step in a world
abbrev pub answer_in : World → Step → Answer
answer_in w s = answer_of s (word_at w (word_of s)) (goods_for w s)

slot_is : (w : World) (l : Lock) → slot_at w (home_of l) ≡ (memory_of w).home (lock_number l)
unfolding at
slot_is w l = refl

owner_is : (b : Board) (l : Lock) → owner_by b.owner b.table b.ready l ≡ owner_of b l
owner_is b (lock.Thread n) = refl
owner_is b lock.Table = refl
owner_is b lock.Ready = refl

-- P holds of each answer that the step can have in this world, which shows this board.
abbrev pub EachAnswer : World → Board → Ask → (Answer → Type 0) → Type 0
EachAnswer w b (asks.Load n) P = P (answer.Told (told.Loaded (word_at w (word.State n))))
EachAnswer w b (asks.LoadMail n) P = P (answer.Told (told.Loaded (word_at w (word.Mail n))))
EachAnswer w b (asks.Post n message) P = P (answer.Told told.Stored)
EachAnswer w b (asks.Exchange n old new) P =
    P (answer.Told told.Won) × ((bits : ℕ) → P (answer.Told (told.Lost bits)))
EachAnswer w b (asks.Acquire l) P = P (answer.Got (goods_on b l)) × ((owner : ℕ) → owner_of b l ≡ Some owner →
    P (answer.Told (told.Owned owner)))
EachAnswer w b (asks.Release l) P = P (answer.Told told.Released)
EachAnswer w b (asks.Place id program priority) P = P (answer.Told told.Placed)
EachAnswer w b (asks.Remove id) P = P (answer.Told told.Removed) × P (answer.Told (told.Holds id.number)) ×
    ((carrier : ℕ) → P (answer.Told (told.Taken id.number carrier)))

module _ (script : Script) (w : World) (b : Board) (sh : ShowsBoard script w b) (P : Answer → Type 0) where
  exchanged : (t : Bool) (bits : ℕ) → P (answer.Told told.Won) → P (answer.Told (told.Lost bits)) →
      P (answer.Told (if t then told.Won else told.Lost bits))
  exchanged true bits won lost = won
  exchanged false bits won lost = lost

  -- the lock's owner, by its word
  owner_by_word : (l : Lock) → IsLockOf b.size l →
      owner_of b l ≡ owner_in (lock_word_of (word_at w (word.Lock l)))
  owner_by_word l is = sym (owner_is b l) ∙ sh.shows.owners l (is_lock b.size l is)
      ∙ ap (λ n. owner_in (lock_word_of n)) (sym (word_is w (word.Lock l)))

  acquired : (l : Lock) → IsLockOf b.size l → P (answer.Got (goods_on b l)) →
      ((owner : ℕ) → owner_of b l ≡ Some owner → P (answer.Told (told.Owned owner))) →
      (t : Bool) → (word_at w (word.Lock l) == lock_bits Free) ≡ t →
      P (if t then answer.Got (goods_in (slot_at w (home_of l))) else answer.Told
      (not_acquired (lock_word_of (word_at w (word.Lock l)))))
  acquired l is got owned true e =
      let free : owner_of b l ≡ None = owner_by_word l is
      ∙ ap (λ n. owner_in (lock_word_of n)) (eqb-true (word_at w (word.Lock l)) (lock_bits Free) e)
      ∙ ap owner_in (lock-read Free) in
      subst (λ (s : Slot). P (answer.Got (goods_in s))) (sym (slot_is w l ∙ sh.shows.goods.homes l is free))
      got
  acquired l is got owned false e = by (lock_word_of (word_at w (word.Lock l))) refl
    where
      by : (x : LockWord) → lock_word_of (word_at w (word.Lock l)) ≡ x → P (answer.Told (not_acquired x))
      by (Owned owner) q = owned owner (owner_by_word l is ∙ ap owner_in q)
      by Free q =
          let bits : word_at w (word.Lock l) ≡ lock_bits Free = (lock-same (word_at w (word.Lock l)) Free).1
          q in
          absurd (false≢true (sym e ∙ eq-eqb (word_at w (word.Lock l)) (lock_bits Free) bits))

  removed : (n : ℕ) (x : ContextWord) → P (answer.Told (told.Holds n)) →
      ((carrier : ℕ) → P (answer.Told (told.Taken n carrier))) → P (answer.Told (not_removed n x))
  removed n context.Empty held taken = held
  removed n (context.Clean version) held taken = held
  removed n (context.Holds version) held taken = held
  removed n (context.Taken carrier version) held taken = taken carrier

  gone : (t : Bool) (n : ℕ) (x : ContextWord) → P (answer.Told told.Removed) →
      P (answer.Told (not_removed n x)) → P (answer.Told (if t then told.Removed else not_removed n x))
  gone true n x out kept = out
  gone false n x out kept = kept

  pub each_answer : (a : Ask) (h : Hand) → IsInside b.size a → EachAnswer w b a P →
      P (answer_in w (step_for a h))
  each_answer (asks.Load n) h is each = each
  each_answer (asks.LoadMail n) h is each = each
  each_answer (asks.Post n message) h is each = each
  each_answer (asks.Exchange n old new) h is each = exchanged (word_at w (word.State n) == state_bits old)
      (word_at w (word.State n)) each.0 (each.1 (word_at w (word.State n)))
  each_answer (asks.Acquire l) h is each =
      acquired l is each.0 each.1 (word_at w (word.Lock l) == lock_bits Free) refl
  each_answer (asks.Release l) h is each = each
  each_answer (asks.Place id program priority) h is each = each
  each_answer (asks.Remove id) h is each =
      gone (word_at w (word.Context id.number) == context_bits (context.Clean id.version)) id.number
      (context_word_of (word_at w (word.Context id.number))) each.0
      (removed id.number (context_word_of (word_at w (word.Context id.number))) each.1 each.2)
