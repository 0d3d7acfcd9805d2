-- The response that a step gets is one that it may have. Where nobody holds it up, it isn't asked for again.
use Rattle.std.proofs.Common.{◌≡◌, ◌≢◌, ℕ, Bool, true, false, refl, ap, ◌∙◌, Option, Some, None}
use Rattle.std.specs.Prelude.{if◌then◌else◌}
use Rattle.k_ids.specs.declared.state_word.StateWord.{StateWord}
use Rattle.k_locks.specs.declared.locks.Lock.{Lock}
use Rattle.k_locks.specs.declared.locks.Lock.TheVariants as lock
use Rattle.k_locks.specs.Asks.{Ask, Response, Want, is_again, want_for, want_of}
use Rattle.k_locks.specs.Asks as asks
use Rattle.k_locks.specs.Locks.{Holds, lowest_held, rank_of}
use Rattle.k_locks.proofs.Ranks.{some_lowest}
use Rattle.k_board.specs.Boards.{Board, owner_of}
use Rattle.k_board.specs.Steps.{Answers}
use Rattle.k_good.specs.Locks.{locks_at}
use Rattle.k_good.proofs.Owners.{Named}
use Rattle.k_sections.specs.Situations.{holder_of, itself}
use Rattle.k_sections.specs.Stepping.{acquired, removed_by, response_to}
use Rattle.k_sections.specs.Words.{same_words}
use Rattle.k_sections.proofs.Words.{words_are, words_differ}

pub none_some : {A : Type 0} {o : Option A} {x : A} → o ≡ None → o ≡ Some x → ⊥
none_some e q = cc

pub some_is : {A : Type 0} {x y : A} → Some x ≡ Some y → x ≡ y
some_is e = cc

-- OWNERS AND LOCATIONS

pub owned_held : (b : Board) → Named b → (l : Lock) (i : ℕ) → owner_of b l ≡ Some i → Holds l (locks_at (b.context i).at)
owned_held b h (lock.Thread n) i q = h.held (lock.Thread n) i q
owned_held b h lock.Table i q = h.held lock.Table i q
owned_held b h lock.Ready i q = h.held lock.Ready i q

pub held_owned : (b : Board) → Named b → (l : Lock) (i : ℕ) → Holds l (locks_at (b.context i).at) → owner_of b l ≡ Some i
held_owned b h (lock.Thread n) i q = h.named (lock.Thread n) i q
held_owned b h lock.Table i q = h.named lock.Table i q
held_owned b h lock.Ready i q = h.named lock.Ready i q

pub unheld_owns : (b : Board) → Named b → (n : ℕ) → lowest_held (locks_at (b.context n).at) ≡ None → (l : Lock) →
    owner_of b l ≢ Some n
unheld_owns b h n e l q = some_lowest (locks_at (b.context n).at) (rank_of l) l (owned_held b h l n q) e

pub holder_is : (b : Board) (l : Lock) → holder_of b (want_for l) ≡ owner_of b l
holder_is b (lock.Thread n) = refl
holder_is b lock.Table = refl
holder_is b lock.Ready = refl

-- THE RESPONSE

module _ (b : Board) where
  exchanged_may : (n : ℕ) (old new : StateWord) (t : Bool) → same_words (b.seen n).word old ≡ t →
      Answers b (asks.Exchange n old new) (if t then asks.Won else asks.Lost (b.seen n).word)
  exchanged_may n old new true e = words_are (b.seen n).word old e
  exchanged_may n old new false e = (refl, words_differ (b.seen n).word old e)

  acquired_may : (l : Lock) (o : Option ℕ) → owner_of b l ≡ o → Answers b (asks.Acquire l) (acquired o)
  acquired_may l None e = e
  acquired_may l (Some owner) e = e

  pub response_may : Named b → (a : Ask) → Answers b a (response_to b a)
  response_may h (asks.Load n) = refl
  response_may h (asks.LoadMail n) = refl
  response_may h (asks.Post n m) = tt
  response_may h (asks.Exchange n old new) = exchanged_may n old new (same_words (b.seen n).word old) refl
  response_may h (asks.Acquire l) = acquired_may l (owner_of b l) refl
  response_may h (asks.Release l) = tt
  response_may h (asks.Place id program priority) = tt
  response_may h (asks.Remove id) = go (lowest_held (locks_at (b.context id.number).at)) refl
    where
      go : (o : Option Lock) → lowest_held (locks_at (b.context id.number).at) ≡ o → Answers b (asks.Remove id) (removed_by o)
      go None e = unheld_owns b h id.number e
      go (Some l) e = tt

  -- nobody holds up the step
  abbrev pub IsFree : Option Want → Type 0
  IsFree w = (want : Want) (owner : ℕ) → w ≡ Some want → holder_of b want ≡ Some owner → ⊥

  exchanged_once : (t : Bool) (w : StateWord) → is_again (if t then asks.Won else asks.Lost w) ≡ false
  exchanged_once true w = refl
  exchanged_once false w = refl

  pub response_once : (a : Ask) → IsFree (want_of a) → is_again (response_to b a) ≡ false
  response_once (asks.Load n) free = refl
  response_once (asks.LoadMail n) free = refl
  response_once (asks.Post n m) free = refl
  response_once (asks.Exchange n old new) free = exchanged_once (same_words (b.seen n).word old) (b.seen n).word
  response_once (asks.Acquire l) free = go (owner_of b l) refl
    where
      go : (o : Option ℕ) → owner_of b l ≡ o → is_again (acquired o) ≡ false
      go None e = refl
      go (Some owner) e = absurd (free (want_for l) owner refl (holder_is b l ∙ e))
  response_once (asks.Release l) free = refl
  response_once (asks.Place id program priority) free = refl
  response_once (asks.Remove id) free = go (lowest_held (locks_at (b.context id.number).at)) refl
    where
      go : (o : Option Lock) → lowest_held (locks_at (b.context id.number).at) ≡ o → is_again (removed_by o) ≡ false
      go None e = refl
      go (Some l) e = absurd (free (asks.Context id.number) id.number refl (ap (itself id.number) e))
