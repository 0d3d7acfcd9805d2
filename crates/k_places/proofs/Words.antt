-- A step on raw words is a step on those of the board: what it finds is what it may find there, and what it leaves is shown.
use Rattle.std.proofs.Common.{◌≡◌, ◌≢◌, ℕ, ◌==◌, Bool, true, false, refl, sym, ap, ◌∙◌, subst, Option, arith, inl, inr}
use Rattle.std.specs.Prelude.{if◌then◌else◌}
use Rattle.std.proofs.lemmas.Bool.{eqb-true}
use Rattle.std.proofs.lemmas.Bool.Decides.{eqb_tells}
use Rattle.k_ids.specs.declared.context_word.ContextWord.{ContextWord}
use Rattle.k_ids.specs.declared.context_word.ContextWord.TheVariants as context
use Rattle.k_ids.specs.declared.lock_word.LockWord.{LockWord}
use Rattle.k_ids.specs.declared.lock_word.LockWord.TheVariants as locked
use Rattle.k_ids.specs.declared.state_word.StateWord.{StateWord}
use Rattle.k_ids.specs.declared.threads.ThreadId.{ThreadId}
use Rattle.k_ids.specs.ContextWords.{context_bits, context_word_of}
use Rattle.k_ids.specs.LockWords.{lock_bits, lock_word_of}
use Rattle.k_ids.specs.Messages.{message_bits}
use Rattle.k_ids.specs.StateWords.{IsStateWord, state_bits, state_word_of}
use Rattle.k_ids.proofs.LockSpelled.{lock-read, lock-same}
use Rattle.k_ids.proofs.MessagePacked.{message-read}
use Rattle.k_ids.proofs.StateSpelled.{state-read, state-same, state-whole}
use Rattle.k_locks.specs.declared.goods.Goods.{Goods}
use Rattle.k_locks.specs.declared.locks.Lock.{Lock}
use Rattle.k_locks.specs.declared.locks.Lock.TheVariants as lock
use Rattle.k_locks.specs.declared.steps.Answer.TheVariants as answered
use Rattle.k_locks.specs.declared.steps.Told.TheVariants as told
use Rattle.k_locks.specs.Asks.{Ask, Response, response_of, step_for, told_of}
use Rattle.k_locks.specs.Asks as asks
use Rattle.k_locks.specs.Hands.{Hand}
use Rattle.k_locks.specs.Places.{IsLock, lock_number}
use Rattle.k_locks.specs.Steps.{answer_of, becomes, not_acquired, not_removed, word_of}
use Rattle.k_model.specs.Maps.{upd}
use Rattle.k_model.proofs.Maps.{upd_same, upd_other, upd_cases}
use Rattle.k_board.specs.Words.{Seen}
use Rattle.k_board.specs.Boards.{Board, owner_of}
use Rattle.k_board.specs.Steps.{Answers, Holds, owned, ready_owned, table_owned, with_word, wrote}
use Rattle.k_good.specs.Locks.{owner_by}
use Rattle.k_places.specs.Memory.{Memory, word_in}
use Rattle.k_places.specs.Memory as memory
use Rattle.k_places.specs.Asks.{IsAskFit}
use Rattle.k_places.specs.Shows.{IsLockOf, ShowsNumber, ShowsOwners, ShowsSeen, owner_in}

-- ONE NUMBER

pub upd_own : {A : Type 0} (f : ℕ → A) (t : ℕ) → upd f t (f t) ≡ f
upd_own f t = λ d u. point f t u d
  where
    point : {A : Type 0} (f : ℕ → A) (t u : ℕ) → upd f t (f t) u ≡ f u
    point f t u = upd_cases (λ z. z ≡ f u) f t (f t) u (λ e. ap f (sym e)) (λ ne. refl)

-- the raw word and what is seen change at one number
both_changed : {A B : Type 0} (P : ℕ → A → B → Type 0) (f : ℕ → A) (g : ℕ → B) (n : ℕ) (x : A) (v : B) →
    ((t : ℕ) → P t (f t) (g t)) → P n x v → (t : ℕ) → P t (upd f n x t) (upd g n v t)
both_changed P f g n x v h k t = elim (eqb_tells t n) [
  | inl e ↦
      subst (λ s. P s (upd f n x s) (upd g n v s)) (sym e.1)
      (subst (λ y. P n y (upd g n v n)) (sym (upd_same f n x)) (subst (P n x) (sym (upd_same g n v)) k))
  | inr e ↦ subst (λ y. P t y (upd g n v t)) (sym (upd_other f n x t e.1)) (subst (P t (f t)) (sym (upd_other g n v t e.1)) (h t))
]

pub state_changed : (st ml : ℕ → ℕ) (s : ℕ → Seen) (n x : ℕ) (v : Seen) → ShowsSeen st ml s → ShowsNumber x (ml n) v →
    ShowsSeen (upd st n x) ml (upd s n v)
state_changed st ml s n x v h k = both_changed (λ t y u. ShowsNumber y (ml t) u) st s n x v h k

pub mail_changed : (st ml : ℕ → ℕ) (s : ℕ → Seen) (n x : ℕ) (v : Seen) → ShowsSeen st ml s → ShowsNumber (st n) x v →
    ShowsSeen st (upd ml n x) (upd s n v)
mail_changed st ml s n x v h k = both_changed (λ t y u. ShowsNumber (st t) y u) ml s n x v h k

-- WHAT A STEP FINDS

-- the response to a step on the raw maps
abbrev pub response_in : Memory → Ask → Hand → Goods → Response
response_in m a h g = response_of (answer_of (step_for a h) (word_in m (word_of (step_for a h))) g) a

-- a lock of the table is one that there is
pub is_lock : (size : ℕ) (l : Lock) → IsLockOf size l → IsLock l
is_lock size (lock.Thread n) h = h.0
is_lock size lock.Table h = tt
is_lock size lock.Ready h = tt

owner_is : (b : Board) (l : Lock) → owner_by b.owner b.table b.ready l ≡ owner_of b l
owner_is b (lock.Thread n) = refl
owner_is b lock.Table = refl
owner_is b lock.Ready = refl

exchange_finds : (b : Board) (n x y : ℕ) (old new : StateWord) → ShowsNumber x y (b.seen n) → IsStateWord old → (t : Bool) →
    (x == state_bits old) ≡ t → Answers b (asks.Exchange n old new)
    (told_of (if t then told.Won else told.Lost x) (asks.Exchange n old new))
exchange_finds b n x y old new k w true e = k.word ∙ ap state_word_of (eqb-true x (state_bits old) e) ∙ state-read old w
exchange_finds b n x y old new k w false e = (k.word, λ q. differs (state-same x old k.spelled w).1 q)
  where
    differs : (state_word_of x ≡ old → x ≡ state_bits old) → state_word_of x ≡ old → ⊥
    differs f q =
        let same : x ≡ state_bits old = f q in let no : (x == state_bits old) ≡ true =
        ap (λ z. z == state_bits old) same ∙ self (state_bits old) in absurd cc
      where
        self : (z : ℕ) → (z == z) ≡ true
        self z = grind (arith, eqb_tells)

acquire_finds : (b : Board) (l : Lock) (x : ℕ) (g : Goods) → owner_of b l ≡ owner_in (lock_word_of x) → (t : Bool) →
    (x == lock_bits locked.Free) ≡ t → Answers b (asks.Acquire l)
    (response_of (if t then answered.Got g else answered.Told (not_acquired (lock_word_of x))) (asks.Acquire l))
acquire_finds b l x g e true q =
    e ∙ ap (λ z. owner_in (lock_word_of z)) (eqb-true x (lock_bits locked.Free) q) ∙ ap owner_in (lock-read locked.Free)
acquire_finds b l x g e false q = by (lock_word_of x) refl
  where
    by : (w : LockWord) → lock_word_of x ≡ w → Answers b (asks.Acquire l)
        (response_of (answered.Told (not_acquired w)) (asks.Acquire l))
    by (locked.Owned i) d = e ∙ ap owner_in d
    by locked.Free d = let same : x ≡ lock_bits locked.Free = (lock-same x locked.Free).1 d in absurd (clash same)
      where
        clash : x ≡ lock_bits locked.Free → ⊥
        clash same =
            let yes : (x == lock_bits locked.Free) ≡ true = ap (λ z. z == lock_bits locked.Free) same
            ∙ self (lock_bits locked.Free) in absurd cc
          where
            self : (z : ℕ) → (z == z) ≡ true
            self z = grind (arith, eqb_tells)

remove_finds : (b : Board) (id : ThreadId) (x : ℕ) → (x ≡ context_bits (context.Clean id.version) → Holds b id.number) →
    (t : Bool) → (x == context_bits (context.Clean id.version)) ≡ t →
    Answers b (asks.Remove id) (told_of (if t then told.Removed else not_removed id.number (context_word_of x)) (asks.Remove id))
remove_finds b id x h true q = h (eqb-true x (context_bits (context.Clean id.version)) q)
remove_finds b id x h false q = by (context_word_of x)
  where
    by : (w : ContextWord) → Answers b (asks.Remove id) (told_of (not_removed id.number w) (asks.Remove id))
    by context.Empty = tt
    by (context.Clean version) = tt
    by (context.Holds version) = tt
    by (context.Taken carrier version) = tt

pub step_finds : (m : Memory) (b : Board) (a : Ask) (h : Hand) (g : Goods) → ShowsSeen m.state m.mail b.seen →
    ShowsOwners m.lock b.owner b.table b.ready → IsAskFit m b a → Answers b a (response_in m a h g)
step_finds m b (asks.Load n) h g s o f = (s n).word
step_finds m b (asks.LoadMail n) h g s o f = (s n).mail
step_finds m b (asks.Post n message) h g s o f = tt
step_finds m b (asks.Exchange n old new) h g s o f =
    exchange_finds b n (m.state n) (m.mail n) old new (s n) f.0 (m.state n == state_bits old) refl
step_finds m b (asks.Acquire l) h g s o f =
    acquire_finds b l (m.lock (lock_number l)) g (sym (owner_is b l) ∙ o l (is_lock b.size l f))
    (m.lock (lock_number l) == lock_bits locked.Free) refl
step_finds m b (asks.Release l) h g s o f = tt
step_finds m b (asks.Place id program priority) h g s o f = tt
step_finds m b (asks.Remove id) h g s o f =
    remove_finds b id (m.context id.number) f (m.context id.number == context_bits (context.Clean id.version)) refl

-- WHAT A STEP LEAVES

-- the maps of state words and mails after a step
abbrev pub stepped : Memory → ℕ → Ask → Hand → Memory
stepped m i a h = memory.with_word (word_of (step_for a h)) (becomes i (step_for a h) (word_in m (word_of (step_for a h)))) m

exchanged_shown : (st ml : ℕ → ℕ) (s : ℕ → Seen) (n : ℕ) (old new : StateWord) → ShowsSeen st ml s → IsStateWord new →
    (t : Bool) → ShowsSeen (upd st n (if t then state_bits new else st n)) ml
    (wrote s (asks.Exchange n old new) (told_of (if t then told.Won else told.Lost (st n)) (asks.Exchange n old new)))
exchanged_shown st ml s n old new h w true =
    state_changed st ml s n (state_bits new) (with_word (s n) new) h
    (record { spelled = state-whole new w; word = sym (state-read new w); mail = (h n).mail })
exchanged_shown st ml s n old new h w false = subst (λ (f : ℕ → ℕ). ShowsSeen f ml s) (sym (upd_own st n)) h

pub words_left : (m : Memory) (b : Board) (s : ℕ → Seen) (i : ℕ) (a : Ask) (h : Hand) (g : Goods) → ShowsSeen m.state m.mail s →
    IsAskFit m b a → ShowsSeen (stepped m i a h).state (stepped m i a h).mail (wrote s a (response_in m a h g))
words_left m b s i (asks.Load n) h g k f = subst (λ (x : ℕ → ℕ). ShowsSeen x m.mail s) (sym (upd_own m.state n)) k
words_left m b s i (asks.LoadMail n) h g k f = subst (λ (x : ℕ → ℕ). ShowsSeen m.state x s) (sym (upd_own m.mail n)) k
words_left m b s i (asks.Post n message) h g k f =
    mail_changed m.state m.mail s n (message_bits message) (record (s n) { mail = message }) k
    (record { spelled = (k n).spelled; word = (k n).word; mail = sym (message-read message f) })
words_left m b s i (asks.Exchange n old new) h g k f =
    exchanged_shown m.state m.mail s n old new k f.1 (m.state n == state_bits old)
words_left m b s i (asks.Acquire l) h g k f = kept_by (m.lock (lock_number l) == lock_bits locked.Free)
  where
    kept_by : (t : Bool) → ShowsSeen m.state m.mail (wrote s (asks.Acquire l)
        (response_of (if t then answered.Got g else answered.Told (not_acquired (lock_word_of (m.lock (lock_number l)))))
        (asks.Acquire l)))
    kept_by true = k
    kept_by false = by (lock_word_of (m.lock (lock_number l)))
      where
        by : (w : LockWord) → ShowsSeen m.state m.mail (wrote s (asks.Acquire l)
            (response_of (answered.Told (not_acquired w)) (asks.Acquire l)))
        by (locked.Owned o) = k
        by locked.Free = k
words_left m b s i (asks.Release l) h g k f = k
words_left m b s i (asks.Place id program priority) h g k f = k
words_left m b s i (asks.Remove id) h g k f = kept_by (m.context id.number == context_bits (context.Clean id.version))
  where
    kept_by : (t : Bool) → ShowsSeen m.state m.mail (wrote s (asks.Remove id)
        (told_of (if t then told.Removed else not_removed id.number (context_word_of (m.context id.number)))
        (asks.Remove id)))
    kept_by true = k
    kept_by false = by (context_word_of (m.context id.number))
      where
        by : (w : ContextWord) → ShowsSeen m.state m.mail (wrote s (asks.Remove id)
            (told_of (not_removed id.number w) (asks.Remove id)))
        by context.Empty = k
        by (context.Clean version) = k
        by (context.Holds version) = k
        by (context.Taken carrier version) = k

-- OWNERS

-- the owners, once one lock has this one
abbrev thread_owner : Lock → Option ℕ → (ℕ → Option ℕ) → ℕ → Option ℕ
thread_owner (lock.Thread n) v o = upd o n v
thread_owner lock.Table v o = o
thread_owner lock.Ready v o = o

abbrev table_owner : Lock → Option ℕ → Option ℕ → Option ℕ
table_owner (lock.Thread n) v o = o
table_owner lock.Table v o = v
table_owner lock.Ready v o = o

abbrev ready_owner : Lock → Option ℕ → Option ℕ → Option ℕ
ready_owner (lock.Thread n) v o = o
ready_owner lock.Table v o = o
ready_owner lock.Ready v o = v

module _ (lk : ℕ → ℕ) (o : ℕ → Option ℕ) (t r : Option ℕ) (w : LockWord) (h : ShowsOwners lk o t r) where
  same_at : (n : ℕ) → owner_in w ≡ owner_in (lock_word_of (upd lk n (lock_bits w) n))
  same_at n = ap owner_in (sym (ap lock_word_of (upd_same lk n (lock_bits w)) ∙ lock-read w))

  other_at : (n k : ℕ) → k ≢ n → {v : Option ℕ} → v ≡ owner_in (lock_word_of (lk k)) →
      v ≡ owner_in (lock_word_of (upd lk n (lock_bits w) k))
  other_at n k ne e = e ∙ ap (λ x. owner_in (lock_word_of x)) (sym (upd_other lk n (lock_bits w) k ne))

  owners_set : (l : Lock) → IsLock l → ShowsOwners (upd lk (lock_number l) (lock_bits w)) (thread_owner l (owner_in w) o)
      (table_owner l (owner_in w) t) (ready_owner l (owner_in w) r)
  owners_set (lock.Thread n) i (lock.Thread k) j = elim (eqb_tells k n) [
    | inl e ↦
        subst (λ (x : ℕ). upd o n (owner_in w) x ≡ owner_in (lock_word_of (upd lk n (lock_bits w) x))) (sym e.1)
        (upd_same o n (owner_in w) ∙ same_at n)
    | inr e ↦ upd_other o n (owner_in w) k e.1 ∙ other_at n k e.1 (h (lock.Thread k) j)
  ]
  owners_set (lock.Thread n) i lock.Table j = other_at n 72 (λ q. absurd (omega (arith, q, i))) (h lock.Table j)
  owners_set (lock.Thread n) i lock.Ready j = other_at n 73 (λ q. absurd (omega (arith, q, i))) (h lock.Ready j)
  owners_set lock.Table i (lock.Thread k) j = other_at 72 k (λ q. absurd (omega (arith, q, j))) (h (lock.Thread k) j)
  owners_set lock.Table i lock.Table j = same_at 72
  owners_set lock.Table i lock.Ready j = other_at 72 73 (λ q. absurd (omega (arith, q))) (h lock.Ready j)
  owners_set lock.Ready i (lock.Thread k) j = other_at 73 k (λ q. absurd (omega (arith, q, j))) (h (lock.Thread k) j)
  owners_set lock.Ready i lock.Table j = other_at 73 72 (λ q. absurd (omega (arith, q))) (h lock.Table j)
  owners_set lock.Ready i lock.Ready j = same_at 73

abbrev AreLeft : (ℕ → ℕ) → (ℕ → Option ℕ) → Option ℕ → Option ℕ → ℕ → Ask → Response → Type 0
AreLeft lk o t r i a x = ShowsOwners lk (owned o i a x) (table_owned t i a x) (ready_owned r i a x)

acquired : (lk : ℕ → ℕ) (o : ℕ → Option ℕ) (t r : Option ℕ) (i : ℕ) (l : Lock) → ShowsOwners lk o t r → IsLock l →
    AreLeft (upd lk (lock_number l) (lock_bits (locked.Owned i))) o t r i (asks.Acquire l) asks.Got
acquired lk o t r i (lock.Thread n) h f = owners_set lk o t r (locked.Owned i) h (lock.Thread n) f
acquired lk o t r i lock.Table h f = owners_set lk o t r (locked.Owned i) h lock.Table f
acquired lk o t r i lock.Ready h f = owners_set lk o t r (locked.Owned i) h lock.Ready f

not_acquired_left : (lk : ℕ → ℕ) (o : ℕ → Option ℕ) (t r : Option ℕ) (i : ℕ) (l : Lock) (w : LockWord) → ShowsOwners lk o t r →
    AreLeft lk o t r i (asks.Acquire l) (response_of (answered.Told (not_acquired w)) (asks.Acquire l))
not_acquired_left lk o t r i (lock.Thread n) (locked.Owned c) h = h
not_acquired_left lk o t r i (lock.Thread n) locked.Free h = h
not_acquired_left lk o t r i lock.Table (locked.Owned c) h = h
not_acquired_left lk o t r i lock.Table locked.Free h = h
not_acquired_left lk o t r i lock.Ready (locked.Owned c) h = h
not_acquired_left lk o t r i lock.Ready locked.Free h = h

acquire_left : (lk : ℕ → ℕ) (o : ℕ → Option ℕ) (t r : Option ℕ) (i : ℕ) (l : Lock) (g : Goods) → ShowsOwners lk o t r → IsLock l →
    (b : Bool) → AreLeft (upd lk (lock_number l) (if b then lock_bits (locked.Owned i) else lk (lock_number l))) o t r i
    (asks.Acquire l) (response_of (if b then answered.Got g else answered.Told (not_acquired (lock_word_of (lk (lock_number l)))))
    (asks.Acquire l))
acquire_left lk o t r i l g h f true = acquired lk o t r i l h f
acquire_left lk o t r i l g h f false =
    subst (λ (x : ℕ → ℕ). AreLeft x o t r i (asks.Acquire l)
    (response_of (answered.Told (not_acquired (lock_word_of (lk (lock_number l))))) (asks.Acquire l)))
    (sym (upd_own lk (lock_number l))) (not_acquired_left lk o t r i l (lock_word_of (lk (lock_number l))) h)

release_left : (lk : ℕ → ℕ) (o : ℕ → Option ℕ) (t r : Option ℕ) (i : ℕ) (l : Lock) → ShowsOwners lk o t r → IsLock l →
    AreLeft (upd lk (lock_number l) (lock_bits locked.Free)) o t r i (asks.Release l) asks.Released
release_left lk o t r i (lock.Thread n) h f = owners_set lk o t r locked.Free h (lock.Thread n) f
release_left lk o t r i lock.Table h f = owners_set lk o t r locked.Free h lock.Table f
release_left lk o t r i lock.Ready h f = owners_set lk o t r locked.Free h lock.Ready f

pub owners_left : (m : Memory) (b : Board) (i : ℕ) (a : Ask) (h : Hand) (g : Goods) → ShowsOwners m.lock b.owner b.table b.ready →
    IsAskFit m b a → AreLeft (stepped m i a h).lock b.owner b.table b.ready i a (response_in m a h g)
owners_left m b i (asks.Load n) h g k f = k
owners_left m b i (asks.LoadMail n) h g k f = k
owners_left m b i (asks.Post n message) h g k f = k
owners_left m b i (asks.Exchange n old new) h g k f = k
owners_left m b i (asks.Acquire l) h g k f =
    acquire_left m.lock b.owner b.table b.ready i l g k (is_lock b.size l f) (m.lock (lock_number l) == lock_bits locked.Free)
owners_left m b i (asks.Release l) h g k f = release_left m.lock b.owner b.table b.ready i l k (is_lock b.size l f)
owners_left m b i (asks.Place id program priority) h g k f = k
owners_left m b i (asks.Remove id) h g k f = k
