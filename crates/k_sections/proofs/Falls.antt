-- One step of a section of any table, as it stands on a board: what is left falls, where the loaded word is there after the
-- step if it
-- was before, or was just loaded.
use Rattle.std.proofs.Common.{◌≡◌, ◌≢◌, ℕ, ◌+◌, ◌≤◌, Bool, true, false, refl, sym, ap, ◌∙◌, subst, arith, Option, Some, None}
use Rattle.std.proofs.lemmas.Bool.{false≢true}
use Rattle.std.specs.Prelude.{◌==◌, if◌then◌else◌}
use Rattle.k_ids.specs.declared.threads.ThreadId.{ThreadId}
use Rattle.k_ids.specs.declared.threads.Message.{Message}
use Rattle.k_ids.specs.declared.state_word.StateWord.{StateWord}
use Rattle.k_locks.specs.declared.locks.Lock.{Lock}
use Rattle.k_locks.specs.declared.locks.Lock.TheVariants as lock
use Rattle.k_locks.specs.declared.goods.Goods.{Goods}
use Rattle.k_locks.specs.declared.goods.Goods.TheVariants as goods
use Rattle.k_locks.specs.declared.points.Point.{Point}
use Rattle.k_locks.specs.declared.steps.Went.{Went}
use Rattle.k_locks.specs.declared.steps.Went.TheVariants as went
use Rattle.k_locks.specs.Asks.{Ask, Response, is_again, suits_response}
use Rattle.k_locks.specs.Asks as asks
use Rattle.k_locks.specs.Hands.{Hand}
use Rattle.k_locks.specs.Locks.{Holds}
use Rattle.k_locks.specs.Tables.{IsMade, IsReleasedInTime, Table, brings, hand_came, misses, there_after}
use Rattle.k_model.proofs.Maps.{upd_other}
use Rattle.k_script.specs.Plays.{Position}
use Rattle.k_board.specs.Words.{Programs, Seen, noted}
use Rattle.k_board.specs.Boards.{Board}
use Rattle.k_board.specs.Steps.{after, with_word, wrote}
use Rattle.k_good.proofs.Words.{noted_word, word_upd}
use Rattle.k_sections.specs.Situations.{LoadedWord, is_there, rest_at}
use Rattle.k_sections.specs.Words.{same_words}
use Rattle.k_sections.proofs.Words.{differ_where, same_where}

-- what comes with a lock that is got
abbrev pub brought : Board → Ask → Goods
brought b (asks.Acquire lock.Table) = goods.Numbers b.numbers
brought b (asks.Acquire (lock.Thread n)) = goods.Senders (record { entries = b.queue n; room = b.size })
brought b (asks.Acquire lock.Ready) = goods.Ready b.lists
brought b a = goods.Ready b.lists

brought_fits : (b : Board) (a : Ask) (r : Response) → brings a r (brought b a) ≡ true
brought_fits b (asks.Acquire lock.Table) asks.Got = refl
brought_fits b (asks.Acquire (lock.Thread n)) asks.Got = refl
brought_fits b (asks.Acquire lock.Ready) asks.Got = refl
brought_fits b a r = refl

pub fall_by : {L : Type 0} (t : Table L) → IsReleasedInTime t →
    ((h : Hand) (l : L) (there : Bool) (k : Lock) → t.rest h true l k ≤ t.rest h there l k) →
    (b : Board) (k : Lock) (own : StateWord) (h : Hand) (l : L) (r : Response) (there there' : Bool) (now : ℕ) → t.Fits h l →
    Holds k (t.locks l) →
    suits_response (t.ask own l) r ≡ true → is_again r ≡ false →
    t.Allows (hand_came r (brought b (t.ask own l)) (t.hand h l r)) l r →
    (misses (t.seen l) (t.ask own l) r ≡ true → there ≡ false) → (there' ≡ false → there_after there r ≡ false) →
    now ≤ t.rest (hand_came r (brought b (t.ask own l)) (t.hand h l r)) there' (t.leads h l r) k → 1 + now ≤ t.rest h there l k
fall_by t time above b k own h l r there there' now fits holds suits once allowed missed lasts within =
    let a = t.ask own l in
    let made : IsMade t own h l r (brought b a) = record {
      suiting = suits;
      guarded = brought_fits b a r;
      made = once;
      allowed = allowed;
    } in
    go there' lasts within (time.falls k own h l r (brought b a) there fits holds made missed)
  where
    go : (v : Bool) → (v ≡ false → there_after there r ≡ false) →
        now ≤ t.rest (hand_came r (brought b (t.ask own l)) (t.hand h l r)) v (t.leads h l r) k →
        1 + t.rest (hand_came r (brought b (t.ask own l)) (t.hand h l r)) (there_after there r) (t.leads h l r) k ≤
        t.rest h there l k → 1 + now ≤ t.rest h there l k
    go true lasts within fall =
        let up = above (hand_came r (brought b (t.ask own l)) (t.hand h l r)) (t.leads h l r) (there_after there r) k in
        omega (arith, within, up, fall)
    go false lasts within fall =
        let low = subst (λ (v : Bool). now ≤ t.rest (hand_came r (brought b (t.ask own l)) (t.hand h l r)) v (t.leads h l r) k)
        (sym (lasts refl)) within in omega (arith, low, fall)

-- what is left falls short of what is published, where the loaded word is there if that is taken for granted
pub within_by : {L : Type 0} (t : Table L) → IsReleasedInTime t →
    ((h : Hand) (l : L) (there : Bool) (k : Lock) → t.rest h true l k ≤ t.rest h there l k) →
    (h : Hand) (l : L) (there : Bool) (k : Lock) → (t.stays l ≡ true → there ≡ true) → t.rest h there l k ≤ t.left h l k
within_by t time above h l there k stays =
    subst (λ (x : ℕ). t.rest h there l k ≤ x) (sym (time.columns h l k)) (go there (t.stays l) stays)
  where
    go : (v s : Bool) → (s ≡ true → v ≡ true) → t.rest h v l k ≤ t.rest h s l k
    go true s e = above h l s k
    go false true e = absurd (false≢true (e refl))
    go false false e = omega arith

-- THE END OF A SECTION

none_left : (b : Bool) → ◌≡◌ {A = ℕ} (if b then 0 else 0) 0
none_left true = refl
none_left false = refl

pub ended_rest : (b : Board) (i : ℕ) (me : ThreadId) (w : Went) (k : Lock) → rest_at b i (after me w) k ≡ 0
ended_rest b i me (went.Ends r) k = refl
ended_rest b i me went.Waits k = refl
ended_rest b i me went.CallerDead k = refl
ended_rest b i me went.On k = refl
ended_rest b i me went.Again k = refl
ended_rest b i me (went.Pushed priority) k = refl
ended_rest b i me went.Picks (lock.Thread n) = none_left (n == me.number)
ended_rest b i me went.Picks lock.Table = refl
ended_rest b i me went.Picks lock.Ready = refl

-- THE LOADED WORD

-- a step without a loaded word before or after it
pub quiet : {A B : Type 0} → (true ≡ false → A) × (false ≡ true → B)
quiet = ((λ e. absurd (false≢true (sym e))), (λ e. absurd (false≢true e)))

pub never : {A : Type 0} → false ≡ true → A
never e = absurd (false≢true e)

pub always : {A : Type 0} → true ≡ false → A
always e = absurd (false≢true (sym e))

module _ (g : Programs) (s : ℕ → Seen) (at : Position) (point : Option Point) where
  -- it was just loaded
  pub just_loaded : {A : Type 0} (n m : ℕ) (w : StateWord) → (s n).word ≡ w →
      is_there (wrote (noted g s at point) (asks.Load m) (asks.Word w)) (Some (record { number = n; word = w })) ≡ false → A
  just_loaded n m w e q = absurd (false≢true (sym q ∙ same_where (noted g s at point n).word w (noted_word g s at point n ∙ e)))

  -- it stays, while a mail is written
  pub stored_there : (n m : ℕ) (x : Message) (w : StateWord) →
      is_there (wrote (noted g s at point) (asks.Post m x) asks.Stored) (Some (record { number = n; word = w })) ≡ false →
      is_there s (Some (record { number = n; word = w })) ≡ false
  stored_there n m x w q =
      ap (λ (v : StateWord). same_words v w) (sym (word_upd (noted g s at point) m _ refl n ∙ noted_word g s at point n)) ∙ q

  -- and while another number's word is
  pub won_there : (n m : ℕ) (old new : StateWord) (w : StateWord) → n ≢ m →
      is_there (wrote (noted g s at point) (asks.Exchange m old new) asks.Won) (Some (record { number = n; word = w })) ≡ false →
      is_there s (Some (record { number = n; word = w })) ≡ false
  won_there n m old new w ne q =
      ap (λ (v : StateWord). same_words v w) (sym (ap (λ (v : Seen). v.word)
      (upd_other (noted g s at point) m (with_word (noted g s at point m) new) n ne) ∙ noted_word g s at point n)) ∙ q

-- none was loaded
pub unloaded : {A : Type 0} (s : ℕ → Seen) (l : Option LoadedWord) → l ≡ None → is_there s l ≡ false → A
unloaded s l e q = absurd (false≢true (sym q ∙ ap (is_there s) e))

-- an exchange is lost where the word isn't there
pub lost_there : (s : ℕ → Seen) (n : ℕ) (v w : StateWord) → (s n).word ≡ v → v ≢ w →
    is_there s (Some (record { number = n; word = w })) ≡ false
lost_there s n v w e ne = differ_where (s n).word w (λ q. ne (sym e ∙ q))
