-- What holds up a step of a section: a context that is to be removed.
use Rattle.std.specs.Prelude.{◌≡◌, ◌⊎◌, ℕ, None}
use Rattle.k_ids.specs.declared.context_word.ContextWord.TheVariants.{Clean, Holds}
use Rattle.k_ids.specs.declared.threads.ThreadId.{ThreadId}
use Rattle.k_tokens.specs.World.{OfThread, World}
use Rattle.k_switching.specs.Rules.{word_of}
use Rattle.k_work.specs.Near.{IsHeldAbove}

-- The thread's context is clean, so that it can be removed; or it holds a lock, and this holds carrier `c` up.
abbrev pub IsRemovable : World → ℕ → ThreadId → Type 0
IsRemovable w c who =
    (word_of w (OfThread who.number) ≡ Clean who.version)
    ⊎ ((word_of w (OfThread who.number) ≡ Holds who.version)
    × IsHeldAbove w c (record { context = OfThread who.number; lock = None }))
