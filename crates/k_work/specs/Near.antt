-- How near a carrier is to its next step of a section, while no other one has a context in hand: it looks
-- at contexts, takes
-- and gives them, and asks in vain for what is held.
use Rattle.std.specs.Prelude.{◌≡◌, ◌≢◌, ℕ, ◌+◌, ◌-◌, ◌*◌, ◌<◌, ◌==◌, ◌&&◌, not, Bool, true, false}
use Rattle.std.specs.Prelude.{if◌then◌else◌, Option, Some, None}
use Rattle.std.specs.Prelude.{is_some}
use Rattle.k_ids.specs.declared.context_word.ContextWord.{ContextWord}
use Rattle.k_locks.specs.declared.locks.Lock.{Lock}
use Rattle.k_locks.specs.declared.locks.Lock.TheVariants as lock
use Rattle.k_tokens.specs.World.{Carrier, ContextName, Help, OfCarrier, OfThread, Stage, World, holds}
use Rattle.k_tokens.specs.World.{is_finished}
use Rattle.k_tokens.specs.World.{names, owner_of}
use Rattle.k_tokens.specs.Steps.{FindsOwned}
use Rattle.k_board.specs.Words.{Programs}
use Rattle.k_board.specs.Boards.{Board}
use Rattle.k_grants.specs.Granted.{Finding, is_again}
use Rattle.k_whole.specs.Whole.{Step, begins_switch, ends_switch, runs, stays, switches, wakes}
use Rattle.k_work.specs.Work.{IsMade, starts_of}
use Rattle.k_switching.specs.Rules.{begins, context_at, is_interrupted, is_own, same_context, same_word}
use Rattle.k_switching.specs.Rules.{target_of, word_of}

-- HELP

-- What a context is helped for, by its rank in the lock order. One that is to be removed comes after the
-- table lock, but
-- where it holds that itself.
abbrev pub rank_by : (holds_table : Bool) → Option Lock → ℕ
rank_by holds_table (Some lock.Table) = 0
rank_by holds_table (Some (lock.Thread number)) = 2
rank_by holds_table (Some lock.Ready) = 3
rank_by holds_table None = if holds_table then 0 else 1

abbrev pub rank_of : World → Help → ℕ
rank_of w help = rank_by (holds w help.context (Some lock.Table)) help.lock

-- The higher it ranks, the nearer; a help that has released is the farthest.
abbrev pub level_of : World → Option Help → ℕ
level_of w None = 4
level_of w (Some help) = if holds w help.context help.lock then 3 - rank_of w help else 5

-- HAND

-- whether the context is the helped one, or else the carrier's own where it switches, or its goal's
abbrev pub is_goals : World → Carrier → ContextName → Bool
is_goals w carrier (OfThread t) = names carrier.goal (owner_of w.threads t)
is_goals w carrier (OfCarrier d) = false

abbrev pub is_wanted_by : World → ℕ → Carrier → Option Help → ContextName → Bool
is_wanted_by w c carrier (Some help) context = same_context help.context context
is_wanted_by w c carrier None context = if carrier.switching then is_own c context else is_goals w carrier
    context

-- how far it is from having the wanted context in hand; one that is parked gives what it has
abbrev pub hand_place : World → ℕ → Carrier → ContextName → ℕ
hand_place w c carrier context =
    if carrier.putting then 4 else (if is_wanted_by w c carrier carrier.help context then 0 else 4)

-- by the word that it has looked at, where that is still there
abbrev pub looked_place : World → ℕ → Carrier → Option ContextWord → ℕ
looked_place w c carrier None = 2
looked_place w c carrier (Some word) = if same_word word (word_of w (context_at c (target_of carrier)))
    then 1 else 3

-- NEARNESS

-- a finished switch of its own, which is to be ended
abbrev pub finished_worth : Stage → ℕ
finished_worth stage = if is_finished stage then 40 else 0

-- it has dropped its goal while it had a context in hand, and begins to switch once that is given
abbrev pub lacking_worth : Carrier → ℕ
lacking_worth carrier = if not carrier.switching && not (is_some carrier.goal) then 40 else 0

-- without a hand
abbrev pub near_free : World → ℕ → Carrier → Stage → ℕ
near_free w c carrier stage =
    if begins carrier then 31
    else finished_worth stage + 5 * level_of w carrier.help + looked_place w c carrier carrier.looked

-- A carrier that is to switch gives what it has in hand, and then looks at its own context. One that was
-- parked without a
-- hand gives the next one.
abbrev pub near_hand : World → ℕ → Carrier → Stage → Option ContextName → ℕ
near_hand w c carrier stage None =
    if carrier.putting then 5 + near_free w c carrier stage else near_free w c carrier stage
near_hand w c carrier stage (Some context) =
    if is_interrupted carrier then 32
    else finished_worth stage + lacking_worth carrier + 5 * level_of w carrier.help + hand_place w c carrier
    context

abbrev pub near_of : World → ℕ → ℕ
near_of w c = near_hand w c (w.carrier c) (w.own c).stage (w.carrier c).hand

-- No other carrier has a context in hand.
abbrev pub IsAlone : World → ℕ → Type 0
IsAlone w c = (d : ℕ) → d ≢ c → (w.carrier d).hand ≡ None

-- What a context is found to wait for is held, and ranks above what the carrier helps it for.
pub record IsHeldAbove (w : World) (c : ℕ) (found : Help) : Type 0 where
  pub held : holds w found.context found.lock ≡ true
  pub above : (help : Help) → (w.carrier c).help ≡ Some help → holds w help.context help.lock ≡ true →
      rank_of w help < rank_of w found

-- It has nothing to run, and nothing to switch to.
abbrev pub is_settled : Carrier → Bool
is_settled carrier =
    (((not (is_some carrier.goal) && not (is_some carrier.hand)) && not carrier.switching) && not
    carrier.counted)
    && (starts_of carrier == 0)

-- WHAT A STEP STANDS ON BESIDES, where it is one of a thread's context. Where the context waits, what it is
-- found to wait for
-- is held, and ranks above. It isn't proved here: it is so of what the words and locks of the board answer.
pub record IsWaiting (w : World) (c : ℕ) (found : Finding) : Type 0 where
  pub help : Help
  pub waits : found.waits ≡ FindsOwned help.context help.lock
  pub held : IsHeldAbove w c help

abbrev pub IsSupported : (g : Programs) (b : Board) (w : World) (c : ℕ) (b' : Board) → Step g b w c b' →
    Type 0
IsSupported g b w c _ (runs i b' found asked wait free t) =
    IsMade b i found × (is_again g b i b' t ≡ true → IsWaiting w c found)
IsSupported g b w c _ (switches d s p r asked at going an) = Unit {0}
IsSupported g b w c _ (begins_switch s hand took at from) = Unit {0}
IsSupported g b w c _ (ends_switch s o hand at) = Unit {0}
IsSupported g b w c _ (wakes i hand took inside at) = Unit {0}
IsSupported g b w c _ (stays nobody still) = Unit {0}
