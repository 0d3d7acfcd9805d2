-- What a table has to show, location by location, so that its locks are released in time.
use Rattle.std.proofs.Common.{◌≡◌, ℕ, ◌+◌, ◌*◌, ◌≤◌, Bool, true, false, not, List, [], ◌∷◌, length, refl, sym, ◌∙◌, arith}
use Rattle.std.proofs.lemmas.Bool.{false≢true}
use Rattle.std.specs.Prelude.{Option, Some, ◌-◌}
use Rattle.k_ids.specs.declared.state_word.StateWord.{StateWord}
use Rattle.k_locks.specs.declared.locks.Lock.{Lock}
use Rattle.k_locks.specs.declared.locks.Lock.TheVariants as lock
use Rattle.k_locks.specs.declared.goods.Goods.{Goods}
use Rattle.k_locks.specs.Asks.{Ask, Exchange, Response, Lost, is_lost, suits_response}
use Rattle.k_locks.specs.Locks.{Holds}
use Rattle.k_locks.specs.Hands.{Hand}
use Rattle.k_locks.specs.Tables.{IsMade, IsReleasedInTime, Reached, Run, Table, begins, goes, hand_came, is_found, lost_in, lost_later, makes, misses, stops, there_after, with_lost}

abbrev pub is_exchange : Ask → Bool
is_exchange (Exchange number old new) = true
is_exchange a = false

pub record IsFalling {L : Type 0} (t : Table L) : Type 0 where
  pub start : (h : Hand) → t.Fits h t.first
  pub keeps : (own : StateWord) (h : Hand) (l : L) (r : Response) (g : Goods) → t.Fits h l → IsMade t own h l r g → t.Fits (hand_came r g (t.hand h l r)) (t.leads h l r)
  pub falls : (k : Lock) (own : StateWord) (h : Hand) (l : L) (r : Response) (g : Goods) (there : Bool) → t.Fits h l → Holds k (t.locks l) → IsMade t own h l r g → (misses (t.seen l) (t.ask own l) r ≡ true → there ≡ false) → 1 + t.rest (hand_came r g (t.hand h l r)) (there_after there r) (t.leads h l r) k ≤ t.rest h there l k
  -- where the loaded word is gone once the step is made
  pub missed : (k : Lock) (own : StateWord) (h : Hand) (l : L) (r : Response) (g : Goods) → t.Fits h l → Holds k (t.locks l) → IsMade t own h l r g → 1 + t.rest (hand_came r g (t.hand h l r)) false (t.leads h l r) k ≤ t.rest h (not (is_lost r)) l k + 2
  pub above : (h : Hand) (l : L) (there : Bool) (k : Lock) → t.Fits h l → t.rest h true l k ≤ t.rest h there l k
  -- what `left` counts of the lost exchanges
  pub low : (h : Hand) (l : L) (k : Lock) → t.Fits h l → Holds k (t.locks l) → t.rest h true l k + 2 * t.counted l ≤ t.left h l k
  pub high : (h : Hand) (l : L) (k : Lock) → t.Fits h l → Holds k (t.locks l) → t.rest h false l k + 2 * t.counted l ≤ t.left h l k + 2
  pub quiet : (own : StateWord) (l : L) → Holds lock.Ready (t.locks l) → is_exchange (t.ask own l) ≡ false
  pub columns : (h : Hand) (l : L) (k : Lock) → t.left h l k ≡ t.rest h (t.stays l) l k
  pub some : (h : Hand) (l : L) (k : Lock) → t.Fits h l → Holds k (t.locks l) → 1 ≤ t.left h l k
  pub only : (h : Hand) (l : L) (k : Lock) → 1 ≤ t.left h l k → Holds k (t.locks l)

-- the steps that the loss of the first exchange costs
abbrev slack : Bool → ℕ
slack true = 0
slack false = 2

lost_parts : (answers : List Response) → 2 * lost_in answers ≡ 2 * lost_later answers + slack (is_found answers)
lost_parts [] = refl
lost_parts (Lost w ∷ more) = omega arith
lost_parts (r ∷ more) = omega arith

-- an exchange that misses its word is lost
missed_is_lost : (seen : Option ℕ) (a : Ask) (r : Response) → misses seen a r ≡ true → not (is_lost r) ≡ false
missed_is_lost (Some n) (Exchange number old new) (Lost w) e = refl
missed_is_lost seen a r e = absurd (false≢true e)

-- where no exchange is asked for, none is lost
kept_quiet : (a : Ask) (r : Response) (lost : ℕ) → suits_response a r ≡ true → is_exchange a ≡ false → with_lost r lost ≡ lost
kept_quiet (Exchange number old new) (Lost w) lost s q = absurd (false≢true (sym q))
kept_quiet a (Lost w) lost s q = absurd (false≢true s)
kept_quiet a r lost s q = refl

module _ {L : Type 0} (t : Table L) (f : IsFalling t) where
  pub reached_fits : (own : StateWord) (h : Hand) (l : L) → Reached t own h l → t.Fits h l
  reached_fits own h l (begins v i) = f.start h
  reached_fits own h l (goes v i m r g before made) = f.keeps v i m r g (reached_fits v i m before) made

  pub exact_steps : (k : Lock) (own : StateWord) (h : Hand) (l : L) (answers : List Response) → t.Fits h l → Run t k own h l answers → length answers ≤ t.rest h (is_found answers) l k + 2 * lost_later answers
  exact_steps k own h l answers fits (stops v i m) = omega arith
  exact_steps k own h l answers fits (makes v i m r g more holds made run) =
      let fits' = f.keeps own h l r g fits made in
      let later = exact_steps k (t.own own l r) (hand_came r g (t.hand h l r)) (t.leads h l r) more fits' run in
      let found = f.falls k own h l r g (not (is_lost r)) fits holds made (missed_is_lost (t.seen l) (t.ask own l) r) in
      let there = f.above (hand_came r g (t.hand h l r)) (t.leads h l r) (there_after (not (is_lost r)) r) k fits' in
      let gone = f.missed k own h l r g fits holds made in
      let parts = lost_parts more in
      go (is_found more) later parts found there gone
    where
      go : (b : Bool) → length more ≤ t.rest (hand_came r g (t.hand h l r)) b (t.leads h l r) k + 2 * lost_later more → 2 * lost_in more ≡ 2 * lost_later more + slack b
          → 1 + t.rest (hand_came r g (t.hand h l r)) (there_after (not (is_lost r)) r) (t.leads h l r) k ≤ t.rest h (not (is_lost r)) l k
          → t.rest (hand_came r g (t.hand h l r)) true (t.leads h l r) k ≤ t.rest (hand_came r g (t.hand h l r)) (there_after (not (is_lost r)) r) (t.leads h l r) k
          → 1 + t.rest (hand_came r g (t.hand h l r)) false (t.leads h l r) k ≤ t.rest h (not (is_lost r)) l k + 2
          → length (r ∷ more) ≤ t.rest h (not (is_lost r)) l k + 2 * lost_in more
      go true later parts found there gone = omega (arith, later, parts, found, there)
      go false later parts found there gone = omega (arith, later, parts, gone)

  pub most_steps : (k : Lock) (own : StateWord) (h : Hand) (l : L) (answers : List Response) → t.Fits h l → Run t k own h l answers → length answers ≤ t.left h l k + 2 * (lost_in answers - t.counted l)
  most_steps k own h l answers fits (stops v i m) = omega arith
  most_steps k own h l answers fits (makes v i m r g more holds made run) =
      let exact = exact_steps k own h l (r ∷ more) fits (makes v i m r g more holds made run) in
      let low = f.low h l k fits holds in
      let high = f.high h l k fits holds in
      let parts = lost_parts (r ∷ more) in
      go (is_found (r ∷ more)) exact parts low high
    where
      go : (b : Bool) → length (r ∷ more) ≤ t.rest h b l k + 2 * lost_later (r ∷ more) → 2 * lost_in (r ∷ more) ≡ 2 * lost_later (r ∷ more) + slack b
          → t.rest h true l k + 2 * t.counted l ≤ t.left h l k → t.rest h false l k + 2 * t.counted l ≤ t.left h l k + 2
          → length (r ∷ more) ≤ t.left h l k + 2 * (lost_in (r ∷ more) - t.counted l)
      go true exact parts low high = omega (arith, exact, parts, low)
      go false exact parts low high = omega (arith, exact, parts, high)

  none_lost : (own : StateWord) (h : Hand) (l : L) (answers : List Response) → Run t lock.Ready own h l answers → lost_in answers ≡ 0
  none_lost own h l answers (stops v i m) = refl
  none_lost own h l answers (makes v i m r g more holds made run) =
      let rest = none_lost (t.own own l r) (hand_came r g (t.hand h l r)) (t.leads h l r) more run in
      kept_quiet (t.ask own l) r (lost_in more) made.suiting (f.quiet own l holds) ∙ rest

  pub ready_steps : (own : StateWord) (h : Hand) (l : L) (answers : List Response) → t.Fits h l → Run t lock.Ready own h l answers → length answers ≤ t.left h l lock.Ready
  ready_steps own h l answers fits run =
      let most = most_steps lock.Ready own h l answers fits run in
      let none = none_lost own h l answers run in
      omega (arith, most, none)

  pub released_in_time : IsReleasedInTime t
  released_in_time = record {
    fits = reached_fits;
    most = most_steps;
    exact = exact_steps;
    ready = ready_steps;
    falls = f.falls;
    columns = f.columns;
    above = f.above;
    some = f.some;
    only = f.only;
  }
