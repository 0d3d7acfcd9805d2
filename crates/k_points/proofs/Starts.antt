-- The board on which the kernel begins shows the opening state; and what a thread is given is its reply.
use Rattle.std.proofs.Common.{◌≡◌, ℕ, ◌≤◌, Bool, true, false, not, refl, sym, ap, ◌∙◌}
use Rattle.std.proofs.Common.{subst, List, [], length, Option, Some, None, arith}
use Rattle.std.specs.Prelude.{nat_lt, slice_index_or}
use Rattle.std.proofs.lemmas.Bool.Decides.{nat_tests}
use Rattle.std.proofs.lemmas.List.{get_or_past}
use Rattle.k_ids.specs.declared.calls.Reply.{Reply}
use Rattle.k_ids.specs.declared.state_word.State.TheVariants as state
use Rattle.k_ids.specs.declared.state_word.StateWord.{StateWord}
use Rattle.k_ids.specs.declared.threads.Status.TheVariants as status
use Rattle.k_model.specs.Answered.{reply_to}
use Rattle.k_model.specs.History.{dead_place, new_place, opened, opening_place}
use Rattle.k_model.specs.State.{KernelState, Place, id_of}
use Rattle.k_model.proofs.Answered.{opened-answered}
use Rattle.k_model.proofs.Opening.{opened-sound, opening_past}
use Rattle.k_locks.specs.declared.locks.Lock.{Lock}
use Rattle.k_locks.specs.declared.locks.Lock.TheVariants as lock
use Rattle.k_locks.specs.Shown.{is_dead}
use Rattle.k_script.specs.Plays.{Position}
use Rattle.k_caller.specs.declared.thread.ThreadLocation.TheVariants as location
use Rattle.k_board.specs.Words.{Programs, Walks, here, works}
use Rattle.k_board.specs.Boards.{Alone, At, Board, owner_of}
use Rattle.k_board.specs.Boots.{Booted, has_carrier, has_none, has_thread}
use Rattle.k_board.specs.Facts.{AllSay}
use Rattle.k_board.specs.Places.{PlacesHold, facts_of}
use Rattle.k_good.specs.Good.{NumbersAgree}
use Rattle.k_points.specs.Shown.{IsShown, Line, Shows, line, line_by, shown}

-- there is no version past the end of the list
past_end : (xs : List ℕ) (n : ℕ) → length xs ≤ n → slice_index_or xs n 0 ≡ 0
past_end xs n l = get_or_past xs n 0 l

-- a number whose thread runs, or that has none, in the opening state
opening_new : (vs : List ℕ) (threads n : ℕ) → threads ≤ length vs → nat_lt n threads ≡ true →
    opening_place vs threads n ≡ new_place
opening_new vs threads n few is =
    let inside : nat_lt n (length vs) ≡ true = grind (arith, nat_tests) in
    rw (inside, is) refl

opening_dead : (vs : List ℕ) (threads n : ℕ) → nat_lt n threads ≡ false →
    opening_place vs threads n ≡ dead_place (slice_index_or vs n 0)
opening_dead vs threads n is = go (nat_lt n (length vs)) refl
  where
    go : (inside : Bool) → nat_lt n (length vs) ≡ inside → opening_place vs threads n ≡ dead_place (slice_index_or vs n 0)
    go true e = rw (e, is) refl
    go false e =
        let l : length vs ≤ n = grind (arith, nat_tests) in
        opening_past vs threads n l ∙ ap dead_place (sym (past_end vs n l))

dead_state : (w : StateWord) → is_dead w ≡ true → w.state ≡ state.Dead
dead_state w d = grind arith

module _ (g : Programs) (b : Board) (threads : ℕ) (booted : (n : ℕ) → Booted g b n)
    (free : (l : Lock) → owner_of b l ≡ None) (agree : NumbersAgree b.seen b.numbers b.context)
    (count : length b.numbers.versions ≡ b.size) (few : threads ≤ b.size)
    (who : (n : ℕ) → is_dead (b.seen n).word ≡ not (nat_lt n threads))
    (unused : (n : ℕ) → is_dead (b.seen n).word ≡ true → ((b.seen n).last ≡ 0) × ((b.seen n).told ≡ None)) where
  abbrev versions : List ℕ
  versions = b.numbers.versions

  abbrev Opens : ℕ → Type 0
  Opens n = line (opened b.numbers.versions threads) n ≡ shown b n

  dead_opens : (n : ℕ) → is_dead (b.seen n).word ≡ true → Opens n
  dead_opens n d =
      let no : nat_lt n threads ≡ false = grind (arith, who n) in
      let u = unused n d in
      ap (λ (p : Place). line_by [] n p) (opening_dead versions threads n no)
      ∙ (λ e. record { version = agree.version n e; status = status.Dead; joined = false; serial = 0; told = None })
      ∙ rw (free (lock.Thread n), dead_state (b.seen n).word d, u.0, u.1) refl

  opens_at : (n : ℕ) → Booted g b n → Opens n
  opens_at n (has_none d e) = dead_opens n d
  opens_at n (has_carrier d e) = dead_opens n d
  opens_at n (has_thread program priority t) =
      let alive : is_dead (b.seen n).word ≡ false = ap is_dead t.word in
      let yes : nat_lt n threads ≡ true = grind (arith, who n) in
      ap (λ (p : Place). line_by [] n p) (opening_new versions threads n (subst (λ (m : ℕ). threads ≤ m) (sym count) few) yes)
      ∙ rw (free (lock.Thread n), t.word, t.last, t.told) refl

  pub first_shows : IsShown b (opened b.numbers.versions threads)
  first_shows = record {
    shows = record { size = count; lines = λ n. opens_at n (booted n) };
    sound = opened-sound b.numbers.versions threads;
    answered = opened-answered b.numbers.versions threads;
  }

-- A reply that is there to be taken in is the ledger's: no work was done since.
walked_reply : (g : Programs) (p q : Position) (r l : Option Reply) (s : Reply) → Walks g p r q l → l ≡ Some s → r ≡ Some s
walked_reply g p _ r _ s here e = e
walked_reply g p _ r _ s (works q l count w n) e = absurd cc

pub given_is : (g : Programs) (b : Board) (k : KernelState) (i : ℕ) (r : Reply) → PlacesHold g b → Shows b k →
    (b.context i).at ≡ Alone (location.Between (Some r)) →
    ((k.place i).serial ≡ (b.context i).serial) × (reply_to k.replies (id_of k i) (b.context i).serial ≡ Some r)
given_is g b k i r ok sh at =
    let h = subst (λ (a : At). AllSay g b i (b.context i) (facts_of a)) at (ok i) in
    let serial : (k.place i).serial ≡ (b.context i).serial = ap (λ (l : Line). l.serial) (sh.lines i) ∙ sym h.0 in (
      serial,
      ap (λ (s : ℕ). reply_to k.replies (id_of k i) s) (sym serial) ∙ ap (λ (l : Line). l.told) (sh.lines i)
          ∙ walked_reply g _ _ _ _ r h.1.1.0.1 refl,
    )
