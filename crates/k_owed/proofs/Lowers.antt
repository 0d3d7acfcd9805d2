-- What a turn of one context does to the parts: its own, and those of the others.
use Rattle.std.proofs.Common.{◌≡◌, ◌≢◌, ℕ, ◌+◌, ◌*◌, ◌<◌, ◌≤◌, Bool, true, false, refl, sym, ap, ◌∙◌, subst}
use Rattle.std.proofs.Common.{arith, Option, Some, None, inl, inr, ◌⊎◌, List}
use Rattle.std.specs.Prelude.{if◌then◌else◌}
use Rattle.std.proofs.lemmas.Bool.{cases_eq}
use Rattle.k_ids.specs.declared.threads.ThreadId.{ThreadId}
use Rattle.k_ids.specs.declared.state_word.StateWord.{StateWord}
use Rattle.k_senders.specs.declared.entries.SenderEntry.{SenderEntry}
use Rattle.k_locks.specs.Asks as asks
use Rattle.k_locks.specs.Asks.{Ask, Response}
use Rattle.k_locks.specs.declared.locks.Lock.TheVariants as lock
use Rattle.k_locks.specs.declared.points.Point.{Point}
use Rattle.k_locks.specs.Locks.{Holds}
use Rattle.k_locks.specs.Shown.{is_dead}
use Rattle.k_script.specs.Plays.{Position}
use Rattle.k_ipc.specs.declared.receive.ReceiveCall.{ReceiveCall}
use Rattle.k_ipc.specs.declared.receive.ReceiveOutside.TheVariants as outside
use Rattle.k_ipc.specs.ReceiveTable.{ReceiveAt}
use Rattle.k_ipc.specs.ReceiveTable as receive
use Rattle.k_board.specs.Words.{Programs, Seen, noted}
use Rattle.k_board.specs.Boards.{At, Alone, InSend, InReceive, InCreate, InDestroy, InSwitch, Resting, Coming}
use Rattle.k_board.specs.Boards.{Nowhere, Context, Board, id_at}
use Rattle.k_board.specs.Facts.{AllSay}
use Rattle.k_board.specs.Moves.{IsAway}
use Rattle.k_board.specs.Places.{facts_of}
use Rattle.k_board.specs.Steps.{Answers, wrote}
use Rattle.k_good.specs.Good.{IsGood}
use Rattle.k_good.specs.Locks.{locks_at}
use Rattle.k_good.proofs.RangesKeep.{receive_caller}
use Rattle.k_good.proofs.Words.{IsWritten, word_after}
use Rattle.k_sections.specs.Situations.{LoadedWord, is_there}
use Rattle.k_sections.specs.Words.{same_words}
use Rattle.k_caller.specs.declared.thread.ThreadLocation.{ThreadLocation}
use Rattle.k_caller.specs.Waits as alone
use Rattle.k_ipc.specs.SendTable as send
use Rattle.k_threads.specs.DestroyTable as destroy
use Rattle.k_schedule.specs.Parts.{Falls}
use Rattle.k_room.specs.Room.{sum_below}
use Rattle.k_owed.specs.Owes.{entry_worth, expected, owes, owes_alone, owes_at, owes_create, owes_destroy}
use Rattle.k_owed.specs.Owes.{owes_of, owes_receive, owes_send, push_worth, rest_of, switch_worth}
use Rattle.k_owed.specs.Owed.{entries_in, leave_owed, may_begin, owed, owed_at, owed_by, parts_of, pushes_at}
use Rattle.k_owed.specs.Owed.{steps_owed}
use Rattle.k_owed.proofs.Sums.{sum_falls, sum_least, sum_moves}

-- what a step takes from its own context: with a push, what the entry and the switch are counted for
abbrev pub cost : Bool → ℕ
cost pushes = if pushes then 1 + push_worth else 1

-- OF THE CONTEXT THAT MAKES THE STEP

-- A step after which each state word is as it was: the context, now this one, owes less.
pub record Lowers (work : Position → ℕ) (b : Board) (i : ℕ) (p : At) (b' : Board) (x : Context) : Type 0 where
  pub falls : owes_of work b' i x + cost (pushes_at p) ≤ owes_at (rest_of work b (b.context i)) b i
      (b.context i).own p
  pub exchanges : owed_at x.at ≤ owed_at p
  pub entries : entries_in b'.lists.lists ≤ entries_in b.lists.lists + may_begin (pushes_at p)

-- An exchange without an entry of the history: one less is still to come.
pub record Exchanges (b : Board) (i : ℕ) (p : At) (b' : Board) (x : Context) : Type 0 where
  pub leaves : (t : ℕ) → leave_owed (b'.seen t).word ≤ leave_owed (b.seen t).word
  pub falls : leave_owed (b'.seen i).word + owed_at x.at < leave_owed (b.seen i).word + owed_at p

-- The same of the context and of the ready lists together.
pub record Takes (work : Position → ℕ) (b : Board) (i : ℕ) (p : At) (b' : Board) (x : Context) : Type 0 where
  pub falls : owes_of work b' i x + entry_worth * entries_in b'.lists.lists + 1 + switch_worth * may_begin
      (pushes_at p) ≤
      owes_at (rest_of work b (b.context i)) b i (b.context i).own p + entry_worth * entries_in b.lists.lists
  pub exchanges : owed_at x.at ≤ owed_at p

takes_by : (pushes : Bool) (o o' n n' : ℕ) → o' + cost pushes ≤ o → n' ≤ n + may_begin pushes →
    o' + 6 * n' + 1 + 5 * may_begin pushes ≤ o + 6 * n
takes_by true o o' n n' f e = omega (arith, f, e)
takes_by false o o' n n' f e = omega (arith, f, e)

pub lowers_takes : (work : Position → ℕ) (b : Board) (i : ℕ) (p : At) (b' : Board) (x : Context) →
    Lowers work b i p b' x →
    Takes work b i p b' x
lowers_takes work b i p b' x l = record {
  falls = takes_by (pushes_at p) (owes_at (rest_of work b (b.context i)) b i (b.context i).own p)
      (owes_of work b' i x)
      (entries_in b.lists.lists) (entries_in b'.lists.lists) l.falls l.entries;
  exchanges = l.exchanges;
}

abbrev pub Spends : (work : Position → ℕ) → Board → ℕ → At → Board → Context → Response → Type 0
Spends work b i p b' x r = Exchanges b i p b' x ⊎ ((r ≡ asks.Won → ⊥) × Lowers work b i p b' x)

-- OF THE OTHERS

-- Another context is as it was, or isn't there.
abbrev pub Elsewhere : Board → Board → ℕ → Type 0
Elsewhere b b' j = (b'.context j ≡ b.context j) ⊎ IsAway (b'.context j).at

-- What a turn of context i leaves alone: the other contexts, and the queues whose locks they hold.
pub record LeavesAlone (b : Board) (i : ℕ) (b' : Board) : Type 0 where
  pub size : b'.size ≡ b.size
  pub contexts : (j : ℕ) → j ≢ i → Elsewhere b b' j
  pub queues : (j : ℕ) → j ≢ i → b.owner j ≡ Some j → b'.queue j ≡ b.queue j

abbrev pub SameWords : Board → Board → Type 0
SameWords b b' = (t : ℕ) → (b'.seen t).word ≡ (b.seen t).word

-- a step that isn't a won exchange leaves the state words
pub unwritten : (g : Programs) (b : Board) (at : Position) (p : Option Point) (a : Ask) (r : Response) →
    Answers b a r →
    (r ≡ asks.Won → ⊥) → (t : ℕ) → (wrote (noted g b.seen at p) a r t).word ≡ (b.seen t).word
unwritten g b at p a r an other t = elim (word_after g b at p a r an t) [
  | inl e ↦ e
  | inr i ↦ absurd
      (other i.won)
]

there_same : (b b' : Board) → SameWords b b' → (l : Option LoadedWord) →
    is_there b'.seen l ≡ is_there b.seen l
there_same b b' same None = refl
there_same b b' same (Some l) = ap (λ (w : StateWord). same_words w l.word) (same l.number)

-- THE PARTS FALL, for any room and nearness. A push may begin one switch more.
abbrev pub FallsFor : (work : Position → ℕ) → Board → Board → ℕ → Bool → Type 0
FallsFor work b b' count pushes = (room near near' switches switches' : ℕ) → switches' ≤
    switches + may_begin pushes →
    Falls (parts_of work b count room switches near) (parts_of work b' count room switches' near')

-- WHAT THE OTHERS OWE

module _ (work : Position → ℕ) (b b' : Board) (j : ℕ) (size : b'.size ≡ b.size) (words : SameWords b b') where
  abbrev mine : Context
  mine = b.context j

  abbrev before : ℕ
  before = rest_of work b mine

  abbrev after : ℕ
  after = rest_of work b' mine

  rest_same : after ≡ before
  rest_same = λ d. work mine.position + size d + 7

  there : (a : Ask) → is_there b'.seen (expected a) ≡ is_there b.seen (expected a)
  there a = there_same b b' words (expected a)

  id_same : id_at b' j ≡ id_at b j
  id_same = λ d. record { number = j; version = (words j d).version }

  alone_there : (p : ThreadLocation) → is_there b'.seen (expected (alone.ask_of (id_at b' j) mine.own p)) ≡
      is_there b.seen (expected (alone.ask_of (id_at b j) mine.own p))
  alone_there p =
      there (alone.ask_of (id_at b' j) mine.own p)
      ∙ ap (λ (id : ThreadId). is_there b.seen (expected (alone.ask_of id mine.own p))) id_same

  dead_same : is_dead (b'.seen j).word ≡ is_dead (b.seen j).word
  dead_same = ap is_dead (words j)

  -- outside of its lock a receive owes the same for any queue
  receive_same : (c : ReceiveCall) (p : ReceiveAt) →
      (Holds (lock.Thread c.caller.number) (receive.locks_of c p) →
      b'.queue j ≡ b.queue j) → owes_at after b' j mine.own (InReceive c p) ≡ owes_at before b j mine.own
      (InReceive c p)
  receive_same c (receive.Outside outside.LoadCaller) q = refl
  receive_same c (receive.Outside outside.AcquireOwn) q =
      λ d. owes_receive (size d) (rest_same d) true c (b.queue j) (receive.Outside outside.AcquireOwn)
  receive_same c (receive.Outside (outside.Ended w)) q = refl
  receive_same c (receive.Locked p) q =
      let e = q refl in
      λ d. owes_receive (size d) (rest_same d) (there (receive.ask_of c mine.own (receive.Locked p)) d) c
      (e d) (receive.Locked p)
  receive_same c (receive.Pushing p) q =
      let e = q refl in
      λ d. owes_receive (size d) (rest_same d) (there (receive.ask_of c mine.own (receive.Pushing p)) d) c
      (e d) (receive.Pushing p)

  pub at_same : (p : At) → ((c : ReceiveCall) (q : ReceiveAt) → p ≡ InReceive c q →
      Holds (lock.Thread c.caller.number) (receive.locks_of c q) → b'.queue j ≡ b.queue j) →
      owes_at after b' j mine.own p ≡ owes_at before b j mine.own p
  at_same (Alone p) q = λ d. owes_alone (rest_same d) (alone_there p d) p
  at_same (InSend c p) q = λ d. owes_send (size d) (rest_same d) (there (send.ask_of c mine.own p) d)
      (dead_same d) c p
  at_same (InReceive c p) q = receive_same c p (q c p refl)
  at_same (InCreate c p) q = λ d. owes_create (rest_same d) p
  at_same (InDestroy c p) q = λ d. owes_destroy (rest_same d) (there (destroy.ask_of c mine.own p) d) c p
  at_same (InSwitch c p) q = refl
  at_same Resting q = refl
  at_same Coming q = refl
  at_same Nowhere q = refl

away_owes : (work : Position → ℕ) (b : Board) (j : ℕ) (x : Context) → IsAway x.at → owes_of work b j x ≡ 0
away_owes work b j x (inl e) = ap (λ (p : At). owes_at (rest_of work b x) b j x.own p) e
away_owes work b j x (inr e) = ap (λ (p : At). owes_at (rest_of work b x) b j x.own p) e

away_owed : (p : At) → IsAway p → owed_at p ≡ 0
away_owed p (inl e) = ap owed_at e
away_owed p (inr e) = ap owed_at e

module _ (g : Programs) (work : Position → ℕ) (b : Board) (good : IsGood g b) (i : ℕ) (b' : Board)
    (alone : LeavesAlone b i b') where
  -- a receive that holds its lock owns it
  owned : (j : ℕ) (c : ReceiveCall) (q : ReceiveAt) → (b.context j).at ≡ InReceive c q →
      Holds (lock.Thread c.caller.number) (receive.locks_of c q) → b.owner j ≡ Some j
  owned j c q at held =
      let me = receive_caller g b j (b.context j) c q (subst (λ (p : At). AllSay g b j (b.context j)
      (facts_of p)) at (good.places j)) in
      subst (λ (n : ℕ). b.owner n ≡ Some j) me.0
      (good.locks.named (lock.Thread c.caller.number) j
      (subst (λ (p : At). Holds (lock.Thread c.caller.number) (locks_at p)) (sym at) held))

  pub others_owe : SameWords b b' → (j : ℕ) → j ≢ i → owes work b' j ≤ owes work b j
  others_owe words j ne = elim (alone.contexts j ne) [
    | inl e ↦
        let same = at_same work b b' j alone.size words (b.context j).at
        (λ c q at held. alone.queues j ne (owned j c q at held)) in
        subst (λ (x : Context). owes_of work b' j x ≤ owes work b j) (sym e) (omega (arith, same))
    | inr e ↦ let none = away_owes work b' j (b'.context j) e in omega (arith, none)
  ]

  -- at most as many exchanges are still to come at another context
  pub others_at : (j : ℕ) → j ≢ i → owed_at (b'.context j).at ≤ owed_at (b.context j).at
  others_at j ne = elim (alone.contexts j ne) [
    | inl e ↦ subst (λ (x : Context). owed_at x.at ≤ owed_at (b.context j).at) (sym e) (omega arith)
    | inr e ↦ let none = away_owed (b'.context j).at e in omega (arith, none)
  ]

  pub leave_same : SameWords b b' → (t : ℕ) → leave_owed (b'.seen t).word ≡ leave_owed (b.seen t).word
  leave_same words t = ap leave_owed (words t)

  exchanged : (count : ℕ) (x : Context) (p : At) (pushes : Bool) → i < count → b'.context i ≡ x →
      (b.context i).at ≡ p →
      Exchanges b i p b' x → FallsFor work b b' count pushes
  exchanged count x p pushes inside now at e room near near' switches switches' few =
      inr (inl (omega arith, omega (arith, fewer)))
    where
      here : owed_by b' i + 1 ≤ owed_by b i
      here =
          let f = e.falls in
          let is : owed_at (b'.context i).at ≡ owed_at x.at = ap (λ (y : Context). owed_at y.at) now in
          let was : owed_at (b.context i).at ≡ owed_at p = ap owed_at at in
          omega (arith, f, is, was)

      fewer : owed b' count + 1 ≤ owed b count
      fewer =
          sum_falls (owed_by b) (owed_by b') i 1 count inside here
          (λ t ne. let l = e.leaves t in let o = others_at t ne in omega (arith, l, o))

  pub stepped : (count : ℕ) (x : Context) (p : At) → i < count → b'.context i ≡ x → (b.context i).at ≡ p →
      SameWords b b' →
      Takes work b i p b' x → FallsFor work b b' count (pushes_at p)
  stepped count x p inside now at words l room near near' switches switches' few =
      inr (inr (inl (omega arith, omega (arith, owed_most), steps_less)))
    where
      owed_here : owed_at (b'.context i).at ≤ owed_at (b.context i).at
      owed_here =
          let f = l.exchanges in
          let is : owed_at (b'.context i).at ≡ owed_at x.at = ap (λ (y : Context). owed_at y.at) now in
          let was : owed_at (b.context i).at ≡ owed_at p = ap owed_at at in
          omega (arith, f, is, was)

      owed_each : (t : ℕ) → owed_by b' t ≤ owed_by b t
      owed_each t = elim (cases_eq t i) [
        | inl e ↦
            subst (λ (k : ℕ). owed_by b' k ≤ owed_by b k) (sym e)
            (let s = leave_same words i in omega (arith, owed_here, s))
        | inr ne ↦ let o = others_at t ne in let s = leave_same words t in omega (arith, o, s)
      ]

      owed_most : owed b' count ≤ owed b count
      owed_most = sum_least (owed_by b) (owed_by b') count owed_each

      steps_less : steps_owed work b' count + 5 * switches' < steps_owed work b count + 5 * switches
      steps_less =
          let f = l.falls in
          let is : owes work b' i ≡ owes_of work b' i x = ap (λ (y : Context). owes_of work b' i y) now in
          let was : owes work b i ≡ owes_at (rest_of work b (b.context i)) b i (b.context i).own p =
          ap (λ (q : At). owes_at (rest_of work b (b.context i)) b i (b.context i).own q) at in
          let s = sum_moves (owes work b) (owes work b') i count inside (others_owe words) in
          omega (arith, f, is, was, s, few)

  -- A turn that makes such a step, or such an exchange, lowers the parts.
  pub spent : (count : ℕ) (x : Context) (p : At) (r : Response) → i < count → b'.context i ≡ x →
      (b.context i).at ≡ p →
      ((r ≡ asks.Won → ⊥) → SameWords b b') → Spends work b i p b' x r →
      FallsFor work b b' count (pushes_at p)
  spent count x p r inside now at words (inl e) = exchanged count x p (pushes_at p) inside now at e
  spent count x p r inside now at words (inr l) =
      stepped count x p inside now at (words l.0) (lowers_takes work b i p b' x l.1)
