-- What the contexts of a board publish of themselves as far as they wait for each other: what each asks for, who holds that, and
-- how many steps it is from a release. A context is told by its number.
use Rattle.std.specs.Prelude.{ℕ, Bool, true, Option, Some, None, List, []}
use Rattle.k_ids.specs.declared.state_word.StateWord.{StateWord}
use Rattle.k_senders.specs.Entries.{number_of}
use Rattle.k_locks.specs.declared.locks.Lock.{Lock}
use Rattle.k_locks.specs.declared.locks.Lock.TheVariants as lock
use Rattle.k_locks.specs.Asks.{Want, want_of}
use Rattle.k_locks.specs.Asks as asks
use Rattle.k_locks.specs.Hands.{Hand}
use Rattle.k_locks.specs.Locks.{lowest_held}
use Rattle.k_ipc.specs.declared.send.SendCall.{SendCall}
use Rattle.k_ipc.specs.declared.send.SendLocked.TheVariants as send_locked
use Rattle.k_ipc.specs.SendTable.{SendAt}
use Rattle.k_ipc.specs.SendTable as send
use Rattle.k_ipc.specs.declared.receive.ReceiveLocked.TheVariants as receive_locked
use Rattle.k_ipc.specs.ReceiveTable.{ReceiveAt}
use Rattle.k_ipc.specs.ReceiveTable as receive
use Rattle.k_threads.specs.CreateTable as create
use Rattle.k_threads.specs.declared.destroy.DestroyCall.{DestroyCall}
use Rattle.k_threads.specs.declared.destroy.DestroyVictim.TheVariants as victim
use Rattle.k_threads.specs.declared.destroy.DestroyVisit.TheVariants as visit
use Rattle.k_threads.specs.DestroyTable.{DestroyAt}
use Rattle.k_threads.specs.DestroyTable as destroy
use Rattle.k_switch.specs.Switches as switch
use Rattle.k_board.specs.Words.{Seen}
use Rattle.k_board.specs.Boards.{At, Alone, InSend, InReceive, InCreate, InDestroy, InSwitch, Resting, Coming, Nowhere}
use Rattle.k_board.specs.Boards.{Board, hand_of}
use Rattle.k_board.specs.Steps.{destroy_number}
use Rattle.k_good.specs.Locks.{locks_at}
use Rattle.k_sections.specs.Words.{same_words}

-- A board, and which contexts were removed on it so far. Of each of these it is kept what the context was about to wait for: who
-- waited in its name finds that unchanged until it looks. A context of the same number that is placed later makes no step.
pub record Situation : Type 0 where
  pub board : Board
  pub removed : ℕ → Option (Option Want)

-- no context was removed so far
abbrev pub situation_of : Board → Situation
situation_of b = record { board = b; removed = λ n. None }

-- WHAT A CONTEXT ASKS FOR

-- what the next step acquires or whom it removes, by the location
abbrev pub want_at : StateWord → At → Option Want
want_at own (InSend c p) = want_of (send.ask_of c own p)
want_at own (InReceive c p) = want_of (receive.ask_of c own p)
want_at own (InCreate c p) = want_of (create.ask_of c own p)
want_at own (InDestroy c p) = want_of (destroy.ask_of c own p)
want_at own (InSwitch c p) = want_of (switch.ask_of c p)
want_at own (Alone p) = None
want_at own Resting = None
want_at own Coming = None
want_at own Nowhere = None

-- what is kept of a removed context, or else what there is now
abbrev pub kept_want : Option (Option Want) → Option Want → Option Want
kept_want None now = now
kept_want (Some kept) now = kept

-- what context i asks for
abbrev pub wants_of : Situation → ℕ → Option Want
wants_of s i = kept_want (s.removed i) (want_at (s.board.context i).own (s.board.context i).at)

-- WHO HOLDS IT UP

-- a context, where it holds a lock
abbrev pub itself : ℕ → Option Lock → Option ℕ
itself number None = None
itself number (Some l) = Some number

-- of a lock its owner; of a context that one itself, as long as it holds a lock
abbrev pub holder_of : Board → Want → Option ℕ
holder_of b asks.Table = b.table
holder_of b (asks.Thread number) = b.owner number
holder_of b asks.Ready = b.ready
holder_of b (asks.Context number) = itself number (lowest_held (locks_at (b.context number).at))

-- HOW FAR IT IS FROM A RELEASE

-- a word that a section has loaded and is about to replace
pub record LoadedWord : Type 0 where
  pub number : ℕ
  pub word : StateWord

-- this word of this number
abbrev pub loaded_of : ℕ → StateWord → Option LoadedWord
loaded_of number word = Some (record { number = number; word = word })

-- what a send has loaded of its receiver
abbrev pub loaded_send : SendCall → SendAt → Option LoadedWord
loaded_send c (send.Locked (send_locked.StoreMail w)) = loaded_of c.to.number w
loaded_send c (send.Locked (send_locked.CommitPass w)) = loaded_of c.to.number w
loaded_send c (send.Locked (send_locked.WakeReceiver w)) = loaded_of c.to.number w
loaded_send c p = None

-- what a receive or a pick has loaded of a sender
abbrev pub loaded_receive : ReceiveAt → Option LoadedWord
loaded_receive (receive.Locked (receive_locked.FreeSender e w)) = loaded_of (number_of e) w
loaded_receive (receive.Locked (receive_locked.FreeNext e w)) = loaded_of (number_of e) w
loaded_receive p = None

-- what a destroy has loaded of its victim, or of one that waits for it
abbrev pub loaded_destroy : DestroyCall → DestroyAt → Option LoadedWord
loaded_destroy c (destroy.Victim (victim.CommitKill seen)) = loaded_of c.who.number seen
loaded_destroy c (destroy.Victim (victim.FreeSender sender seen)) = loaded_of sender seen
loaded_destroy c (destroy.Visit (visit.FreeVisited visited seen)) = loaded_of visited seen
loaded_destroy c p = None

-- whether the word is still the loaded one; true where none was loaded
abbrev pub is_there : (ℕ → Seen) → Option LoadedWord → Bool
is_there seen None = true
is_there seen (Some l) = same_words (seen l.number).word l.word

-- the steps of context i up to the release of a lock, as the words stand now
abbrev pub rest_at : Board → ℕ → At → Lock → ℕ
rest_at b i (InSend c p) k = send.rest_of c (hand_of b (b.queue c.to.number)) (is_there b.seen (loaded_send c p)) p k
rest_at b i (InReceive c p) k = receive.rest_of c (hand_of b (b.queue i)) (is_there b.seen (loaded_receive p)) p k
rest_at b i (InCreate c p) k = create.rest_of c (hand_of b []) true p k
rest_at b i (InDestroy c p) k =
    destroy.rest_of c (hand_of b (b.queue (destroy_number c p))) (is_there b.seen (loaded_destroy c p)) p k
rest_at b i (InSwitch c p) k = switch.left_of c p k
rest_at b i (Alone p) k = 0
rest_at b i Resting k = 0
rest_at b i Coming k = 0
rest_at b i Nowhere k = 0

-- what the locks that a section may hold there guard
abbrev pub hand_at : Board → ℕ → At → Hand
hand_at b i (InSend c p) = hand_of b (b.queue c.to.number)
hand_at b i (InReceive c p) = hand_of b (b.queue i)
hand_at b i (InDestroy c p) = hand_of b (b.queue (destroy_number c p))
hand_at b i p = hand_of b []

-- the number that is published at a location, by what is in hand
abbrev pub left_by : Hand → At → Lock → ℕ
left_by h (InSend c p) k = send.left_of c h p k
left_by h (InReceive c p) k = receive.left_of c h p k
left_by h (InCreate c p) k = create.left_of c h p k
left_by h (InDestroy c p) k = destroy.left_of c h p k
left_by h (InSwitch c p) k = switch.left_of c p k
left_by h (Alone p) k = 0
left_by h Resting k = 0
left_by h Coming k = 0
left_by h Nowhere k = 0

-- the same by what the board has
abbrev pub left_at : Board → ℕ → At → Lock → ℕ
left_at b i p k = left_by (hand_at b i p) p k

-- the steps up to the release of a lock, where there is one
abbrev pub steps_or_none : (Lock → ℕ) → Option Lock → ℕ
steps_or_none steps None = 0
steps_or_none steps (Some l) = steps l

-- the steps up to the release of what is wanted: of a context, of the lowest lock that it holds, the last that it releases
abbrev pub steps_until : (Lock → ℕ) → List (Option Lock) → Want → ℕ
steps_until steps locks asks.Table = steps lock.Table
steps_until steps locks (asks.Thread number) = steps (lock.Thread number)
steps_until steps locks asks.Ready = steps lock.Ready
steps_until steps locks (asks.Context number) = steps_or_none steps (lowest_held locks)

-- the steps of context i up to the release of what is wanted, as the words stand now
abbrev pub rest_of : Situation → ℕ → Want → ℕ
rest_of s i want = steps_until (rest_at s.board i (s.board.context i).at) (locks_at (s.board.context i).at) want

-- the number that is published for them
abbrev pub left_of : Situation → ℕ → Want → ℕ
left_of s i want = steps_until (left_at s.board i (s.board.context i).at) (locks_at (s.board.context i).at) want
