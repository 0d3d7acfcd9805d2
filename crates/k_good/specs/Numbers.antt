-- Of a good board: the list of numbers agrees with the words, but for the number that the owner of the table lock is about to
-- note; and a number without a thread has no context, but for the one that is being made or removed.
use Rattle.std.specs.Prelude.{◌≡◌, ℕ, ◌<◌, ◌==◌, ◌&&◌, not, Bool, true, false, Option, Some, None, length}
use Rattle.k_locks.specs.Numbers.{ThreadNumbers, is_present, version_at}
use Rattle.k_locks.specs.Shown.{is_dead}
use Rattle.k_threads.specs.declared.create.CreateLocked.TheVariants as create_locked
use Rattle.k_threads.specs.declared.create.CreateRelease.TheVariants as create_release
use Rattle.k_threads.specs.CreateTable.{CreateAt}
use Rattle.k_threads.specs.CreateTable as create
use Rattle.k_threads.specs.declared.destroy.DestroyLocked.TheVariants as destroy_locked
use Rattle.k_threads.specs.declared.destroy.DestroyRelease.TheVariants as destroy_release
use Rattle.k_threads.specs.declared.destroy.DestroyVictim.TheVariants as victim
use Rattle.k_threads.specs.declared.destroy.DestroyPushing.TheVariants as destroy_pushing
use Rattle.k_threads.specs.DestroyTable.{DestroyAt}
use Rattle.k_threads.specs.DestroyTable as destroy
use Rattle.k_threads.specs.Words.{dead_word}
use Rattle.k_board.specs.Words.{Seen}
use Rattle.k_board.specs.Boards.{At, InCreate, InDestroy, Nowhere, Context}

-- whether the number's new thread is made, and not noted yet
abbrev pub made_in : CreateAt → ℕ → Bool
made_in (create.Locked (create_locked.AcquireReady id)) t = id.number == t
made_in (create.PushCreated id) t = id.number == t
made_in (create.Locked (create_locked.Release (create_release.Made id))) t = id.number == t
made_in p t = false

-- whether the victim is dead
abbrev pub is_killed : DestroyAt → Bool
is_killed (destroy.Victim (victim.LoadSender sender)) = true
is_killed (destroy.Victim (victim.FreeSender sender seen)) = true
is_killed (destroy.Victim (victim.AcquireReadyForSender sender seen)) = true
is_killed (destroy.Victim victim.ReleaseVictimLock) = true
is_killed (destroy.Pushing p) = true
is_killed (destroy.Locked destroy_locked.AcquireReadyForVictim) = true
is_killed destroy.UnlistVictim = true
is_killed (destroy.Locked destroy_locked.RemoveContext) = true
is_killed (destroy.Locked (destroy_locked.AcquireVisitedLock visited)) = true
is_killed (destroy.Visit p) = true
is_killed (destroy.Locked (destroy_locked.Release destroy_release.Killed)) = true
is_killed p = false

-- whether the dead victim's context is still there
abbrev pub is_left : DestroyAt → Bool
is_left (destroy.Victim (victim.LoadSender sender)) = true
is_left (destroy.Victim (victim.FreeSender sender seen)) = true
is_left (destroy.Victim (victim.AcquireReadyForSender sender seen)) = true
is_left (destroy.Victim victim.ReleaseVictimLock) = true
is_left (destroy.Pushing (destroy_pushing.PushSender sender seen)) = true
is_left (destroy.Locked destroy_locked.AcquireReadyForVictim) = true
is_left destroy.UnlistVictim = true
is_left (destroy.Locked destroy_locked.RemoveContext) = true
is_left p = false

-- whether the number's new context is placed, and its thread not made yet
abbrev pub placed_in : CreateAt → ℕ → Bool
placed_in (create.Locked (create_locked.CommitCreate id)) t = id.number == t
placed_in p t = false

abbrev pub made_at : At → ℕ → Bool
made_at (InCreate c p) t = made_in p t
made_at p t = false

abbrev pub killed_at : At → ℕ → Bool
killed_at (InDestroy c p) t = is_killed p && (c.who.number == t)
killed_at p t = false

abbrev pub there_at : At → ℕ → Bool
there_at (InCreate c p) t = placed_in p t
there_at (InDestroy c p) t = is_left p && (c.who.number == t)
there_at p t = false

-- by where the owner of the table lock stands
abbrev pub by_owner : (At → ℕ → Bool) → Option ℕ → (ℕ → Context) → ℕ → Bool
by_owner test None context t = false
by_owner test (Some i) context t = test (context i).at t

pub record NumbersHold (seen : ℕ → Seen) (numbers : ThreadNumbers) (table : Option ℕ) (context : ℕ → Context) : Type 0 where
  pub whole : length numbers.present ≡ length numbers.versions
  pub spelled : (t : ℕ) → is_dead (seen t).word ≡ true → (seen t).word ≡ dead_word (seen t).word.version
  pub version : (t : ℕ) → by_owner made_at table context t ≡ false → version_at numbers t ≡ (seen t).word.version
  pub present : (t : ℕ) → by_owner made_at table context t ≡ false → by_owner killed_at table context t ≡ false →
      is_present numbers t ≡ not (is_dead (seen t).word)
  pub vacant : (t : ℕ) → t < length numbers.versions → is_dead (seen t).word ≡ true →
      by_owner there_at table context t ≡ false → (context t).at ≡ Nowhere
