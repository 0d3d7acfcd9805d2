-- What a step makes of the owners of locks, and what locations hold.
use Rattle.std.proofs.Common.{◌≡◌, ◌≢◌, ℕ, true, refl, sym, ap, ◌∙◌, subst, Option, Some, None, List, [], ◌∷◌, arith, ◌⊎◌, inl, inr}
use Rattle.std.specs.Prelude.{slice_get, slice_set}
use Rattle.std.proofs.lemmas.Bool.Decides.{eqb_tells}
use Rattle.k_model.specs.Maps.{upd}
use Rattle.k_model.proofs.Maps.{upd_same, upd_other}
use Rattle.k_locks.specs.declared.locks.Lock.{Lock}
use Rattle.k_locks.specs.declared.locks.Lock.TheVariants as lock
use Rattle.k_locks.specs.Asks.{Ask, Response, suits_response}
use Rattle.k_locks.specs.Asks as asks
use Rattle.k_locks.specs.Locks.{Holds, rank_of}
use Rattle.k_locks.specs.Tables.{IsAbove, IsHeld, locks_after}
use Rattle.k_board.specs.Boards.{Board, owner_of}
use Rattle.k_board.specs.Steps.{Answers, owned, ready_owned, table_owned}
use Rattle.k_good.specs.Locks.{LocksHold, owner_by}

-- LOCKS

pub same_lock : (l m : Lock) → (l ≡ m) ⊎ (l ≢ m)
same_lock (lock.Thread n) (lock.Thread k) = elim (eqb_tells n k) [ inl e ↦ inl (ap (λ (t : ℕ). lock.Thread t) e.1) | inr e ↦ inr (λ q. e.1 cc) ]
same_lock (lock.Thread n) lock.Table = inr (λ q. absurd cc)
same_lock (lock.Thread n) lock.Ready = inr (λ q. absurd cc)
same_lock lock.Table (lock.Thread k) = inr (λ q. absurd cc)
same_lock lock.Table lock.Table = inl refl
same_lock lock.Table lock.Ready = inr (λ q. absurd cc)
same_lock lock.Ready (lock.Thread k) = inr (λ q. absurd cc)
same_lock lock.Ready lock.Table = inr (λ q. absurd cc)
same_lock lock.Ready lock.Ready = inl refl

-- what a location holds is a list of three
pub record IsThree (ls : List (Option Lock)) : Type 0 where
  pub table : Option Lock
  pub thread : Option Lock
  pub ready : Option Lock
  pub is : ls ≡ table ∷ thread ∷ ready ∷ []

module _ (x y z v : Option Lock) where
  set_same : (m : Lock) → slice_get (slice_set (x ∷ y ∷ z ∷ []) (rank_of m) v) (rank_of m) ≡ Some v
  set_same (lock.Thread n) = refl
  set_same lock.Table = refl
  set_same lock.Ready = refl

  set_other : (l m : Lock) → rank_of l ≢ rank_of m → slice_get (slice_set (x ∷ y ∷ z ∷ []) (rank_of m) v) (rank_of l) ≡ slice_get (x ∷ y ∷ z ∷ []) (rank_of l)
  set_other (lock.Thread n) (lock.Thread k) ne = absurd (ne refl)
  set_other (lock.Thread n) lock.Table ne = refl
  set_other (lock.Thread n) lock.Ready ne = refl
  set_other lock.Table (lock.Thread k) ne = refl
  set_other lock.Table lock.Table ne = absurd (ne refl)
  set_other lock.Table lock.Ready ne = refl
  set_other lock.Ready (lock.Thread k) ne = refl
  set_other lock.Ready lock.Table ne = refl
  set_other lock.Ready lock.Ready ne = absurd (ne refl)

set_is : (ls : List (Option Lock)) (t : IsThree ls) (m : Lock) (v : Option Lock) → slice_get (slice_set ls (rank_of m) v) (rank_of m) ≡ Some v
set_is ls t m v = subst (λ (xs : List (Option Lock)). slice_get (slice_set xs (rank_of m) v) (rank_of m) ≡ Some v) (sym t.is) (set_same t.table t.thread t.ready v m)

set_but : (ls : List (Option Lock)) (t : IsThree ls) (l m : Lock) (v : Option Lock) → rank_of l ≢ rank_of m → slice_get (slice_set ls (rank_of m) v) (rank_of l) ≡ slice_get ls (rank_of l)
set_but ls t l m v ne = subst (λ (xs : List (Option Lock)). slice_get (slice_set xs (rank_of m) v) (rank_of l) ≡ slice_get xs (rank_of l)) (sym t.is) (set_other t.table t.thread t.ready v l m ne)

-- OWNERS

-- of one lock, and the others as they were
pub record IsSet (b b' : Board) (m : Lock) (o : Option ℕ) : Type 0 where
  pub this : owner_of b' m ≡ o
  pub others : (l : Lock) → l ≢ m → owner_of b' l ≡ owner_of b l

abbrev pub Moves : Board → Board → ℕ → Ask → Response → Type 0
Moves b b' i (asks.Acquire m) asks.Got = IsSet b b' m (Some i)
Moves b b' i (asks.Release m) asks.Released = IsSet b b' m None
Moves b b' i a r = (l : Lock) → owner_of b' l ≡ owner_of b l

-- the owners after a step
abbrev pub Owns : Board → Board → ℕ → Ask → Response → Type 0
Owns b b' i a r = (b'.owner ≡ owned b.owner i a r) × (b'.table ≡ table_owned b.table i a r) × (b'.ready ≡ ready_owned b.ready i a r)

module _ (b b' : Board) where
  thread_set : (n : ℕ) (o : Option ℕ) → b'.owner ≡ upd b.owner n o → b'.table ≡ b.table → b'.ready ≡ b.ready → IsSet b b' (lock.Thread n) o
  thread_set n o e t r = record { this = ap (λ (f : ℕ → Option ℕ). f n) e ∙ upd_same b.owner n o; others = by }
    where
      by : (l : Lock) → l ≢ lock.Thread n → owner_of b' l ≡ owner_of b l
      by (lock.Thread k) ne = ap (λ (f : ℕ → Option ℕ). f k) e ∙ upd_other b.owner n o k (λ q. ne (ap (λ (t : ℕ). lock.Thread t) q))
      by lock.Table ne = t
      by lock.Ready ne = r

  table_set : (o : Option ℕ) → b'.owner ≡ b.owner → b'.table ≡ o → b'.ready ≡ b.ready → IsSet b b' lock.Table o
  table_set o e t r = record { this = t; others = by }
    where
      by : (l : Lock) → l ≢ lock.Table → owner_of b' l ≡ owner_of b l
      by (lock.Thread k) ne = ap (λ (f : ℕ → Option ℕ). f k) e
      by lock.Table ne = absurd (ne refl)
      by lock.Ready ne = r

  ready_set : (o : Option ℕ) → b'.owner ≡ b.owner → b'.table ≡ b.table → b'.ready ≡ o → IsSet b b' lock.Ready o
  ready_set o e t r = record { this = r; others = by }
    where
      by : (l : Lock) → l ≢ lock.Ready → owner_of b' l ≡ owner_of b l
      by (lock.Thread k) ne = ap (λ (f : ℕ → Option ℕ). f k) e
      by lock.Table ne = t
      by lock.Ready ne = absurd (ne refl)

  unset : b'.owner ≡ b.owner → b'.table ≡ b.table → b'.ready ≡ b.ready → (l : Lock) → owner_of b' l ≡ owner_of b l
  unset e t r (lock.Thread k) = ap (λ (f : ℕ → Option ℕ). f k) e
  unset e t r lock.Table = t
  unset e t r lock.Ready = r

pub owners_move : (b b' : Board) (i : ℕ) (a : Ask) (r : Response) → Answers b a r → Owns b b' i a r → Moves b b' i a r
owners_move b b' i (asks.Acquire (lock.Thread n)) asks.Got an o = thread_set b b' n (Some i) o.0 o.1 o.2
owners_move b b' i (asks.Acquire lock.Table) asks.Got an o = table_set b b' (Some i) o.0 o.1 o.2
owners_move b b' i (asks.Acquire lock.Ready) asks.Got an o = ready_set b b' (Some i) o.0 o.1 o.2
owners_move b b' i (asks.Acquire (lock.Thread n)) (asks.Owned k) an o = unset b b' o.0 o.1 o.2
owners_move b b' i (asks.Acquire lock.Table) (asks.Owned k) an o = unset b b' o.0 o.1 o.2
owners_move b b' i (asks.Acquire lock.Ready) (asks.Owned k) an o = unset b b' o.0 o.1 o.2
owners_move b b' i (asks.Release (lock.Thread n)) asks.Released an o = thread_set b b' n None o.0 o.1 o.2
owners_move b b' i (asks.Release lock.Table) asks.Released an o = table_set b b' None o.0 o.1 o.2
owners_move b b' i (asks.Release lock.Ready) asks.Released an o = ready_set b b' None o.0 o.1 o.2
owners_move b b' i (asks.Load n) (asks.Word w) an o = unset b b' o.0 o.1 o.2
owners_move b b' i (asks.LoadMail n) (asks.Mail m) an o = unset b b' o.0 o.1 o.2
owners_move b b' i (asks.Post n m) asks.Stored an o = unset b b' o.0 o.1 o.2
owners_move b b' i (asks.Exchange n old new) asks.Won an o = unset b b' o.0 o.1 o.2
owners_move b b' i (asks.Exchange n old new) (asks.Lost w) an o = unset b b' o.0 o.1 o.2
owners_move b b' i (asks.Place id program priority) asks.Placed an o = unset b b' o.0 o.1 o.2
owners_move b b' i (asks.Remove id) asks.Removed an o = unset b b' o.0 o.1 o.2
owners_move b b' i (asks.Remove id) asks.Kept an o = unset b b' o.0 o.1 o.2
owners_move b b' i a r an o = absurd an

pub suits_is : (b : Board) (a : Ask) (r : Response) → Answers b a r → suits_response a r ≡ true
suits_is b (asks.Acquire l) asks.Got an = refl
suits_is b (asks.Acquire l) (asks.Owned k) an = refl
suits_is b (asks.Release l) asks.Released an = refl
suits_is b (asks.Load n) (asks.Word w) an = refl
suits_is b (asks.LoadMail n) (asks.Mail m) an = refl
suits_is b (asks.Post n m) asks.Stored an = refl
suits_is b (asks.Exchange n old new) asks.Won an = refl
suits_is b (asks.Exchange n old new) (asks.Lost w) an = refl
suits_is b (asks.Place id program priority) asks.Placed an = refl
suits_is b (asks.Remove id) asks.Removed an = refl
suits_is b (asks.Remove id) asks.Kept an = refl
suits_is b a r an = absurd an

-- ONE STEP

abbrev pub Named : Board → Type 0
Named b = LocksHold b.owner b.table b.ready b.context

owner_is : (b : Board) (l : Lock) → owner_by b.owner b.table b.ready l ≡ owner_of b l
owner_is b (lock.Thread n) = refl
owner_is b lock.Table = refl
owner_is b lock.Ready = refl

-- what holds a lock, of all contexts
pub record Owners (owner : Lock → Option ℕ) (locks : ℕ → List (Option Lock)) : Type 0 where
  pub held : (l : Lock) (i : ℕ) → owner l ≡ Some i → Holds l (locks i)
  pub named : (l : Lock) (i : ℕ) → Holds l (locks i) → owner l ≡ Some i

some_is : {A : Type 0} {a c : A} → Some a ≡ Some c → a ≡ c
some_is e = cc

same_rank : (ls : List (Option Lock)) (l m : Lock) → Holds l ls → Holds m ls → rank_of l ≡ rank_of m → l ≡ m
same_rank ls l m hl hm e = some_is (some_is (sym hl ∙ ap (λ (k : ℕ). slice_get ls k) e ∙ hm))

module _ (b b' : Board) (i : ℕ) (locks locks' : ℕ → List (Option Lock)) (h : Owners (owner_of b) locks) (three : IsThree (locks i)) (others : (n : ℕ) → n ≢ i → (l : Lock) → (Holds l (locks' n) → Holds l (locks n)) × (Holds l (locks n) → Holds l (locks' n))) where
  by_number : (k : ℕ) → (k ≡ i) ⊎ (k ≢ i)
  by_number k = elim (eqb_tells k i) [ inl e ↦ inl e.1 | inr e ↦ inr e.1 ]

  -- nothing is got or released
  owners_same : ((l : Lock) → owner_of b' l ≡ owner_of b l) → locks' i ≡ locks i → Owners (owner_of b') locks'
  owners_same o e = record { held = λ l k q. held l k (sym (o l) ∙ q) (by_number k); named = λ l k q. o l ∙ h.named l k (back l k q (by_number k)) }
    where
      held : (l : Lock) (k : ℕ) → owner_of b l ≡ Some k → (k ≡ i) ⊎ (k ≢ i) → Holds l (locks' k)
      held l k q (inl d) = subst (λ (n : ℕ). Holds l (locks' n)) (sym d) (subst (Holds l) (sym e) (subst (λ (n : ℕ). Holds l (locks n)) d (h.held l k q)))
      held l k q (inr d) = (others k d l).1 (h.held l k q)

      back : (l : Lock) (k : ℕ) → Holds l (locks' k) → (k ≡ i) ⊎ (k ≢ i) → Holds l (locks k)
      back l k q (inl d) = subst (λ (n : ℕ). Holds l (locks n)) (sym d) (subst (Holds l) e (subst (λ (n : ℕ). Holds l (locks' n)) d q))
      back l k q (inr d) = (others k d l).0 q

  -- a lock is got, above all that are held
  owners_got : (m : Lock) → owner_of b m ≡ None → IsSet b b' m (Some i) → IsAbove (asks.Acquire m) (locks i) → locks' i ≡ slice_set (locks i) (rank_of m) (Some m) → Owners (owner_of b') locks'
  owners_got m free o above e = record { held = λ l k q. held l k q (same_lock l m) (by_number k); named = λ l k q. named l k q (same_lock l m) (by_number k) }
    where
      apart : (l : Lock) → Holds l (locks i) → rank_of l ≢ rank_of m
      apart l q d = grind (arith, above (rank_of l) l q)

      held : (l : Lock) (k : ℕ) → owner_of b' l ≡ Some k → (l ≡ m) ⊎ (l ≢ m) → (k ≡ i) ⊎ (k ≢ i) → Holds l (locks' k)
      held l k q (inl s) (inl d) = subst (λ (n : ℕ). Holds l (locks' n)) (sym d) (subst (λ (x : Lock). Holds x (locks' i)) (sym s) (subst (Holds m) (sym e) (set_is (locks i) three m (Some m))))
      held l k q (inl s) (inr d) = absurd (d (some_is (sym q ∙ ap (owner_of b') s ∙ o.this)))
      held l k q (inr s) (inl d) =
          let was = subst (λ (n : ℕ). Holds l (locks n)) d (h.held l k (sym (o.others l s) ∙ q)) in
          subst (λ (n : ℕ). Holds l (locks' n)) (sym d) (subst (Holds l) (sym e) (set_but (locks i) three l m (Some m) (apart l was) ∙ was))
      held l k q (inr s) (inr d) = (others k d l).1 (h.held l k (sym (o.others l s) ∙ q))

      named : (l : Lock) (k : ℕ) → Holds l (locks' k) → (l ≡ m) ⊎ (l ≢ m) → (k ≡ i) ⊎ (k ≢ i) → owner_of b' l ≡ Some k
      named l k q (inl s) (inl d) = ap (owner_of b') s ∙ o.this ∙ ap (λ (n : ℕ). Some n) (sym d)
      named l k q (inl s) (inr d) = absurd (none_some (sym (ap (owner_of b) s ∙ free) ∙ h.named l k ((others k d l).0 q)))
        where
          none_some : {a : ℕ} → None ≡ Some a → ⊥
          none_some z = cc
      named l k q (inr s) (inl d) =
          let now = subst (Holds l) e (subst (λ (n : ℕ). Holds l (locks' n)) d q) in
          elim (eqb_tells (rank_of l) (rank_of m)) [
            | inl z ↦ absurd (s (some_is (some_is (sym now ∙ ap (λ (n : ℕ). slice_get (slice_set (locks i) (rank_of m) (Some m)) n) z.1 ∙ set_is (locks i) three m (Some m)))))
            | inr z ↦ o.others l s ∙ subst (λ (n : ℕ). owner_of b l ≡ Some n) (sym d) (h.named l i (sym (set_but (locks i) three l m (Some m) z.1) ∙ now))
          ]
      named l k q (inr s) (inr d) = o.others l s ∙ h.named l k ((others k d l).0 q)

  -- a lock that is held is released
  owners_released : (m : Lock) → Holds m (locks i) → IsSet b b' m None → locks' i ≡ slice_set (locks i) (rank_of m) None → Owners (owner_of b') locks'
  owners_released m mine o e = record { held = λ l k q. held l k q (same_lock l m) (by_number k); named = λ l k q. named l k q (same_lock l m) (by_number k) }
    where
      none_some : {a : ℕ} → None ≡ Some a → ⊥
      none_some z = cc

      none_lock : {x : Lock} → Some x ≡ None → ⊥
      none_lock z = cc

      held : (l : Lock) (k : ℕ) → owner_of b' l ≡ Some k → (l ≡ m) ⊎ (l ≢ m) → (k ≡ i) ⊎ (k ≢ i) → Holds l (locks' k)
      held l k q (inl s) d = absurd (none_some (sym (ap (owner_of b') s ∙ o.this) ∙ q))
      held l k q (inr s) (inl d) =
          let was = subst (λ (n : ℕ). Holds l (locks n)) d (h.held l k (sym (o.others l s) ∙ q)) in
          subst (λ (n : ℕ). Holds l (locks' n)) (sym d) (subst (Holds l) (sym e) (set_but (locks i) three l m None (λ z. s (same_rank (locks i) l m was mine z)) ∙ was))
      held l k q (inr s) (inr d) = (others k d l).1 (h.held l k (sym (o.others l s) ∙ q))

      named : (l : Lock) (k : ℕ) → Holds l (locks' k) → (l ≡ m) ⊎ (l ≢ m) → (k ≡ i) ⊎ (k ≢ i) → owner_of b' l ≡ Some k
      named l k q (inl s) (inl d) =
          let now = subst (Holds l) e (subst (λ (n : ℕ). Holds l (locks' n)) d q) in
          absurd (none_lock (some_is (sym now ∙ ap (λ (x : Lock). slice_get (slice_set (locks i) (rank_of m) None) (rank_of x)) s ∙ set_is (locks i) three m None)))
      named l k q (inl s) (inr d) = absurd (d (some_is (sym (h.named l k ((others k d l).0 q)) ∙ ap (owner_of b) s ∙ h.named m i mine)))
      named l k q (inr s) (inl d) =
          let now = subst (Holds l) e (subst (λ (n : ℕ). Holds l (locks' n)) d q) in
          elim (eqb_tells (rank_of l) (rank_of m)) [
            | inl z ↦ absurd (none_lock (some_is (sym now ∙ ap (λ (n : ℕ). slice_get (slice_set (locks i) (rank_of m) None) n) z.1 ∙ set_is (locks i) three m None)))
            | inr z ↦ o.others l s ∙ subst (λ (n : ℕ). owner_of b l ≡ Some n) (sym d) (h.named l i (sym (set_but (locks i) three l m None z.1) ∙ now))
          ]
      named l k q (inr s) (inr d) = o.others l s ∙ h.named l k ((others k d l).0 q)

  pub owners_step : (a : Ask) (r : Response) → Answers b a r → Moves b b' i a r → IsAbove a (locks i) → IsHeld a (locks i) → locks' i ≡ locks_after a r (locks i) → Owners (owner_of b') locks'
  owners_step (asks.Acquire m) asks.Got an o up mine e = owners_got m an o up e
  owners_step (asks.Acquire m) (asks.Owned k) an o up mine e = owners_same o e
  owners_step (asks.Release m) asks.Released an o up mine e = owners_released m mine o e
  owners_step (asks.Load n) (asks.Word w) an o up mine e = owners_same o e
  owners_step (asks.LoadMail n) (asks.Mail m) an o up mine e = owners_same o e
  owners_step (asks.Post n m) asks.Stored an o up mine e = owners_same o e
  owners_step (asks.Exchange n old new) asks.Won an o up mine e = owners_same o e
  owners_step (asks.Exchange n old new) (asks.Lost w) an o up mine e = owners_same o e
  owners_step (asks.Place id program priority) asks.Placed an o up mine e = owners_same o e
  owners_step (asks.Remove id) asks.Removed an o up mine e = owners_same o e
  owners_step (asks.Remove id) asks.Kept an o up mine e = owners_same o e
  owners_step a r an o up mine e = absurd an
