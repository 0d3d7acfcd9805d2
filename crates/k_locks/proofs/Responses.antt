-- The responses that each ask can have.
use Rattle.std.proofs.Common.{◌≡◌, ℕ, true, false, refl, sym}
use Rattle.std.proofs.lemmas.Bool.{false≢true}
use Rattle.k_ids.specs.declared.threads.Message.{Message}
use Rattle.k_ids.specs.declared.state_word.StateWord.{StateWord}
use Rattle.k_locks.specs.declared.steps.Answer.{Answer}
use Rattle.k_locks.specs.declared.steps.Answer.TheVariants as answer
use Rattle.k_locks.specs.declared.steps.Told.TheVariants as told
use Rattle.k_locks.specs.Hands.{Hand}
use Rattle.k_locks.specs.Steps as steps
use Rattle.k_locks.specs.Asks.{Ask, Load, LoadMail, Post, Exchange, Acquire, Release, Place, Remove, Response, Word, Mail, Stored, Won, Lost, Got, Owned, Released, Placed, Removed, Kept, is_again, response_of, step_for, suits_response}

-- P holds of each response that this can have and that isn't for the same step again.
abbrev pub Each : Ask → (Response → Type 0) → Type 0
Each (Load n) P = (w : StateWord) → P (Word w)
Each (LoadMail n) P = (m : Message) → P (Mail m)
Each (Post n m) P = P Stored
Each (Exchange n old new) P = P Won × ((w : StateWord) → P (Lost w))
Each (Acquire l) P = P Got
Each (Release l) P = P Released
Each (Place id program priority) P = P Placed
Each (Remove id) P = P Removed

pub made_by : (a : Ask) (r : Response) (P : Response → Type 0) → suits_response a r ≡ true → is_again r ≡ false → Each a P → P r
made_by (Load n) (Word w) P s m each = each w
made_by (Load n) r P s m each = absurd (false≢true s)
made_by (LoadMail n) (Mail x) P s m each = each x
made_by (LoadMail n) r P s m each = absurd (false≢true s)
made_by (Post n x) Stored P s m each = each
made_by (Post n x) r P s m each = absurd (false≢true s)
made_by (Exchange n old new) Won P s m each = each.0
made_by (Exchange n old new) (Lost w) P s m each = each.1 w
made_by (Exchange n old new) r P s m each = absurd (false≢true s)
made_by (Acquire l) Got P s m each = each
made_by (Acquire l) (Owned j) P s m each = absurd (false≢true (sym m))
made_by (Acquire l) r P s m each = absurd (false≢true s)
made_by (Release l) Released P s m each = each
made_by (Release l) r P s m each = absurd (false≢true s)
made_by (Place id program priority) Placed P s m each = each
made_by (Place id program priority) r P s m each = absurd (false≢true s)
made_by (Remove id) Removed P s m each = each
made_by (Remove id) Kept P s m each = absurd (false≢true (sym m))
made_by (Remove id) r P s m each = absurd (false≢true s)

-- the same, with those that are for the same step again
abbrev pub Again : Ask → (Response → Type 0) → Type 0
Again (Acquire l) P = (owner : ℕ) → P (Owned owner)
Again (Remove id) P = P Kept
Again a P = Unit {0}

pub told_by : (a : Ask) (r : Response) (P : Response → Type 0) → suits_response a r ≡ true → Each a P → Again a P → P r
told_by (Load n) (Word w) P s each again = each w
told_by (Load n) r P s each again = absurd (false≢true s)
told_by (LoadMail n) (Mail x) P s each again = each x
told_by (LoadMail n) r P s each again = absurd (false≢true s)
told_by (Post n x) Stored P s each again = each
told_by (Post n x) r P s each again = absurd (false≢true s)
told_by (Exchange n old new) Won P s each again = each.0
told_by (Exchange n old new) (Lost w) P s each again = each.1 w
told_by (Exchange n old new) r P s each again = absurd (false≢true s)
told_by (Acquire l) Got P s each again = each
told_by (Acquire l) (Owned j) P s each again = again j
told_by (Acquire l) r P s each again = absurd (false≢true s)
told_by (Release l) Released P s each again = each
told_by (Release l) r P s each again = absurd (false≢true s)
told_by (Place id program priority) Placed P s each again = each
told_by (Place id program priority) r P s each again = absurd (false≢true s)
told_by (Remove id) Removed P s each again = each
told_by (Remove id) Kept P s each again = again
told_by (Remove id) r P s each again = absurd (false≢true s)

-- what an answer is for the same step again, so is what it tells
pub again_heard : (a : Ask) (x : Answer) → steps.is_again x ≡ is_again (response_of x a)
again_heard a (answer.Got goods) = refl
again_heard (Load n) (answer.Told (told.Loaded bits)) = refl
again_heard (LoadMail n) (answer.Told (told.Loaded bits)) = refl
again_heard (Post n m) (answer.Told (told.Loaded bits)) = refl
again_heard (Exchange n old new) (answer.Told (told.Loaded bits)) = refl
again_heard (Acquire l) (answer.Told (told.Loaded bits)) = refl
again_heard (Release l) (answer.Told (told.Loaded bits)) = refl
again_heard (Place id program priority) (answer.Told (told.Loaded bits)) = refl
again_heard (Remove id) (answer.Told (told.Loaded bits)) = refl
again_heard a (answer.Told told.Stored) = refl
again_heard a (answer.Told told.Won) = refl
again_heard a (answer.Told (told.Lost bits)) = refl
again_heard a (answer.Told (told.Owned owner)) = refl
again_heard a (answer.Told told.Released) = refl
again_heard a (answer.Told told.Placed) = refl
again_heard a (answer.Told told.Removed) = refl
again_heard a (answer.Told (told.Holds context)) = refl
again_heard a (answer.Told (told.Taken context carrier)) = refl

-- a step that can have an answer can have the response
pub suits_heard : (a : Ask) (h : Hand) (x : Answer) → steps.suits (step_for a h) x ≡ true → suits_response a (response_of x a) ≡ true
suits_heard (Load n) h (answer.Told (told.Loaded bits)) s = refl
suits_heard (Load n) h x s = absurd (false≢true s)
suits_heard (LoadMail n) h (answer.Told (told.Loaded bits)) s = refl
suits_heard (LoadMail n) h x s = absurd (false≢true s)
suits_heard (Post n m) h (answer.Told told.Stored) s = refl
suits_heard (Post n m) h x s = absurd (false≢true s)
suits_heard (Exchange n old new) h (answer.Told told.Won) s = refl
suits_heard (Exchange n old new) h (answer.Told (told.Lost bits)) s = refl
suits_heard (Exchange n old new) h x s = absurd (false≢true s)
suits_heard (Acquire l) h (answer.Got goods) s = refl
suits_heard (Acquire l) h (answer.Told (told.Owned owner)) s = refl
suits_heard (Acquire l) h x s = absurd (false≢true s)
suits_heard (Release l) h (answer.Told told.Released) s = refl
suits_heard (Release l) h x s = absurd (false≢true s)
suits_heard (Place id program priority) h (answer.Told told.Placed) s = refl
suits_heard (Place id program priority) h x s = absurd (false≢true s)
suits_heard (Remove id) h (answer.Told told.Removed) s = refl
suits_heard (Remove id) h (answer.Told (told.Holds context)) s = refl
suits_heard (Remove id) h (answer.Told (told.Taken context carrier)) s = refl
suits_heard (Remove id) h x s = absurd (false≢true s)

-- one that is for the same step again
pub again_by : (a : Ask) (r : Response) (P : Response → Type 0) → suits_response a r ≡ true → is_again r ≡ true → Again a P → P r
again_by (Acquire l) (Owned j) P s m again = again j
again_by (Acquire l) Got P s m again = absurd (false≢true m)
again_by (Acquire l) r P s m again = absurd (false≢true s)
again_by (Remove id) Kept P s m again = again
again_by (Remove id) Removed P s m again = absurd (false≢true m)
again_by (Remove id) r P s m again = absurd (false≢true s)
again_by (Load n) (Word w) P s m again = absurd (false≢true m)
again_by (Load n) r P s m again = absurd (false≢true s)
again_by (LoadMail n) (Mail x) P s m again = absurd (false≢true m)
again_by (LoadMail n) r P s m again = absurd (false≢true s)
again_by (Post n x) Stored P s m again = absurd (false≢true m)
again_by (Post n x) r P s m again = absurd (false≢true s)
again_by (Exchange n old new) Won P s m again = absurd (false≢true m)
again_by (Exchange n old new) (Lost w) P s m again = absurd (false≢true m)
again_by (Exchange n old new) r P s m again = absurd (false≢true s)
again_by (Release l) Released P s m again = absurd (false≢true m)
again_by (Release l) r P s m again = absurd (false≢true s)
again_by (Place id program priority) Placed P s m again = absurd (false≢true m)
again_by (Place id program priority) r P s m again = absurd (false≢true s)
