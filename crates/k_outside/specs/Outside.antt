-- What a source gives, what a sink takes, and when either fails.
use Rattle.std.specs.Prelude.{ℕ, ◌≡◌, ◌≤◌, ◌+◌, ◌-◌, ◌^◌, min, List, [], ◌++◌, length, take, drop, Option, Some, IfSome, Result, MatchResult, IfOk, OnErr}

-- A count rose. One that stands at the end of its type counts as risen.
abbrev pub Rose : ℕ → ℕ → Type 0
Rose before now = min (before + 1) (2 ^ 64 - 1) ≤ now

-- The count of faults never falls. It rose where the call failed, and stands as it was where the call didn't: so a fault that
-- was tried again is a fault, too.
pub record HasCause {T E : Type 0} (before now : ℕ) (result : Result T E) : Type 0 where
  pub later : before ≤ now
  pub failed : OnErr result (Rose before now)
  pub calm : IfOk result (λ _. now ≡ before)

-- k bytes came into the front of a buffer: the next k bytes of what was left. The rest of it is left.
-- No byte comes only where none was left.
pub record Came (left buffer : List ℕ) (after : Option (List ℕ)) (k : ℕ) : Type 0 where
  pub bytes : take k buffer ≡ take k left
  pub within : k ≤ length left
  pub rest : after ≡ Some (drop k left)
  pub finished : k ≡ 0 → left ≡ []

-- One take, where the source tells what it had left. A fault takes nothing.
abbrev pub Takes : {E : Type 0} → Option (List ℕ) → Option (List ℕ) → Result ℕ E → List ℕ → Type 0
Takes before after result buffer =
    IfSome before (λ left. MatchResult result (Came left buffer after) (λ _. after ≡ Some left))

-- The sink holds what it held, and behind it this text, where it tells what it held.
abbrev pub Appends : Option (List ℕ) → Option (List ℕ) → List ℕ → Type 0
Appends before after text = IfSome before (λ held. after ≡ Some (held ++ text))

-- One put: so many bytes of the piece's front were appended. A fault appends nothing.
abbrev pub Puts : {E : Type 0} → Option (List ℕ) → Option (List ℕ) → Result ℕ E → List ℕ → Type 0
Puts before after result piece =
    MatchResult result (λ k. Appends before after (take k piece)) (λ _. Appends before after [])

abbrev pub StartsWith : List ℕ → List ℕ → Type 0
StartsWith text front = (rest : List ℕ) × (text ≡ front ++ rest)

-- A front of this text was appended.
abbrev pub AppendsFront : Option (List ℕ) → Option (List ℕ) → List ℕ → Type 0
AppendsFront before after text = (front : List ℕ) × StartsWith text front × Appends before after front

-- The whole text was appended, or after a fault a front of it.
abbrev pub PutsAll : {T E : Type 0} → Option (List ℕ) → Option (List ℕ) → Result T E → List ℕ → Type 0
PutsAll before after result text =
    MatchResult result (λ _. Appends before after text) (λ _. AppendsFront before after text)
