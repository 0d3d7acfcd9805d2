-- What a step makes of what words show: an exchange that is won writes one, and nothing else does.
use Rattle.std.proofs.Common.{◌≡◌, ℕ, true, refl, sym, ap, ◌∙◌, Option}
use Rattle.k_ids.specs.declared.state_word.StateWord.{StateWord}
use Rattle.k_model.specs.Maps.{upd}
use Rattle.k_model.proofs.Maps.{upd_same, upd_other, upd_cases}
use Rattle.k_locks.specs.declared.points.Point.{Point}
use Rattle.k_locks.specs.Asks.{Ask, Response}
use Rattle.k_locks.specs.Asks as asks
use Rattle.k_script.specs.Plays.{Position}
use Rattle.k_board.specs.Words.{Programs, Seen, noted}
use Rattle.k_board.specs.Boards.{Board}
use Rattle.k_board.specs.Steps.{Answers, wrote}
use Rattle.k_good.proofs.Words.{noted_word, word_upd}
use Rattle.k_tokens.proofs.Views.{view_upd}
use Rattle.k_grants.specs.Views.{PrioritiesAre, Sight, sight_of}

abbrev pub written : (ℕ → StateWord) → Ask → Response → ℕ → StateWord
written s (asks.Exchange n old new) asks.Won = upd s n new
written s a r = s

words : (ℕ → Seen) → ℕ → StateWord
words s t = (s t).word

pub words_after : (g : Programs) (b : Board) (at : Position) (p : Option Point) (a : Ask) (r : Response) → Answers b a r
    → ◌≡◌ {A = ℕ → StateWord} (λ t. (wrote (noted g b.seen at p) a r t).word) (written (λ t. (b.seen t).word) a r)
words_after g b at p (asks.Exchange n old new) asks.Won an =
    view_upd (λ (v : Seen). v.word) (noted g b.seen at p) n _
    ∙ ap (λ (f : ℕ → StateWord). upd f n new) (λ z t. noted_word g b.seen at p t z)
words_after g b at p (asks.Exchange n old new) (asks.Lost w) an = λ z t. noted_word g b.seen at p t z
words_after g b at p (asks.Load n) (asks.Word w) an = λ z t. noted_word g b.seen at p t z
words_after g b at p (asks.LoadMail n) (asks.Mail m) an = λ z t. noted_word g b.seen at p t z
words_after g b at p (asks.Post n m) asks.Stored an =
    λ z t. (word_upd (noted g b.seen at p) n (record (noted g b.seen at p n) { mail = m }) refl t ∙ noted_word g b.seen at p t) z
words_after g b at p (asks.Acquire l) asks.Got an = λ z t. noted_word g b.seen at p t z
words_after g b at p (asks.Acquire l) (asks.Owned k) an = λ z t. noted_word g b.seen at p t z
words_after g b at p (asks.Release l) asks.Released an = λ z t. noted_word g b.seen at p t z
words_after g b at p (asks.Place id program priority) asks.Placed an = λ z t. noted_word g b.seen at p t z
words_after g b at p (asks.Remove id) asks.Removed an = λ z t. noted_word g b.seen at p t z
words_after g b at p (asks.Remove id) asks.Kept an = λ z t. noted_word g b.seen at p t z
words_after g b at p a r an = absurd an

-- .. and so of their sights
abbrev pub sighted : (ℕ → Sight) → Ask → Response → ℕ → Sight
sighted s (asks.Exchange n old new) asks.Won = upd s n (sight_of new)
sighted s a r = s

pub sights_after : (g : Programs) (b : Board) (at : Position) (p : Option Point) (a : Ask) (r : Response) → Answers b a r
    → ◌≡◌ {A = ℕ → Sight} (λ t. sight_of (wrote (noted g b.seen at p) a r t).word) (sighted (λ t. sight_of (b.seen t).word) a r)
sights_after g b at p a r an = ap (λ (f : ℕ → StateWord). λ t. sight_of (f t)) (words_after g b at p a r an) ∙ by a r an
  where
    by : (a : Ask) (r : Response) → Answers b a r → ◌≡◌ {A = ℕ → Sight} (λ t. sight_of (written (λ u. (b.seen u).word) a r t))
        (sighted (λ t. sight_of (b.seen t).word) a r)
    by (asks.Exchange n old new) asks.Won an = view_upd sight_of (λ u. (b.seen u).word) n new
    by (asks.Exchange n old new) (asks.Lost w) an = refl
    by (asks.Load n) (asks.Word w) an = refl
    by (asks.LoadMail n) (asks.Mail m) an = refl
    by (asks.Post n m) asks.Stored an = refl
    by (asks.Acquire l) asks.Got an = refl
    by (asks.Acquire l) (asks.Owned k) an = refl
    by (asks.Release l) asks.Released an = refl
    by (asks.Place id program priority) asks.Placed an = refl
    by (asks.Remove id) asks.Removed an = refl
    by (asks.Remove id) asks.Kept an = refl
    by a r an = absurd an

-- A sight that is written as it was
pub sight_kept : (s : ℕ → Sight) (n : ℕ) (v : Sight) → v ≡ s n → upd s n v ≡ s
sight_kept s n v e = λ z t. (upd_cases (λ (x : Sight). x ≡ s t) s n v t (λ d. e ∙ ap s (sym d)) (λ d. refl)) z

-- PRIORITIES, of threads that are there

pub priorities_keep : (y : ℕ → ℕ) (s : ℕ → Sight) (n : ℕ) (v : Sight) →
    (v.present ≡ true → ((s n).present ≡ true) × (v.priority ≡ (s n).priority))
    → PrioritiesAre y s → PrioritiesAre y (upd s n v)
priorities_keep y s n v e h t =
    upd_cases (λ (x : Sight). x.present ≡ true → y t ≡ x.priority) s n v t
    (λ d p. ap y d ∙ h n (e p).0 ∙ sym (e p).1) (λ d p. h t p)

pub priorities_set : (y : ℕ → ℕ) (s : ℕ → Sight) (n : ℕ) (v : Sight) → PrioritiesAre y s →
    PrioritiesAre (upd y n v.priority) (upd s n v)
priorities_set y s n v h t =
    upd_cases (λ (x : Sight). x.present ≡ true → upd y n v.priority t ≡ x.priority) s n v t
    (λ d p. ap (upd y n v.priority) d ∙ upd_same y n v.priority) (λ d p. upd_other y n v.priority t d ∙ h t p)
