-- The words of the command line: which call they ask for.
use Rattle.std.specs.Prelude.{ℕ, List, [], ◌∷◌, codes, Option, Some, None, if◌then◌else◌, option_map}
use Rattle.std.specs.Str.{bytes_eq}
use Rattle.k_text.specs.Numbers.{number_of}
use Rattle.fiasco_run.specs.declared.call.Call.{Call}
use Rattle.fiasco_run.specs.declared.call.Call.TheVariants as call

-- one word alone: `run` or `check`
abbrev pub single_call : List ℕ → Option Call
single_call word = if bytes_eq word (codes "run") then Some call.Run else (if bytes_eq word (codes "check") then Some call.Check else None)

-- two words: `big` and a number of 64 bits
abbrev pub numbered_call : List ℕ → List ℕ → Option Call
numbered_call word number =
    if bytes_eq word (codes "big") then option_map (λ n. call.Big n) (number_of 18446744073709551615 number) else None

-- These words are served, and no others.
abbrev pub call_of : List (List ℕ) → Option Call
call_of [] = None
call_of (word ∷ []) = single_call word
call_of (word ∷ number ∷ []) = numbered_call word number
call_of (word ∷ number ∷ next ∷ words) = None
