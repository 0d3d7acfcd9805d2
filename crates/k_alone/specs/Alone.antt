-- A section run alone: its steps one after another, each answered by the memory, with no step of another between.
use Rattle.std.specs.Prelude.{ℕ, zero, suc, ◌<◌, ◌≡◌, ◌++◌, true, false, List, [], ◌∷◌, Option, Some, None}
use Rattle.std.specs.List.{AllByRecursion}
use Rattle.std.specs.Option.{option_to_list}
use Rattle.k_ids.specs.declared.threads.ThreadId.{ThreadId}
use Rattle.k_ids.specs.declared.threads.Status.{Status}
use Rattle.k_ids.specs.declared.threads.Status.TheVariants as status
use Rattle.k_ids.specs.declared.calls.Act.TheVariants as act
use Rattle.k_ids.specs.declared.calls.Outcome.{Outcome}
use Rattle.k_ids.specs.declared.calls.Outcome.TheVariants as outcome
use Rattle.k_ids.specs.declared.calls.Reply.{Reply}
use Rattle.k_ids.specs.declared.histories.Entry.{Entry}
use Rattle.k_ids.specs.declared.histories.Event.{Event}
use Rattle.k_ids.specs.declared.histories.ReplyLine.{ReplyLine}
use Rattle.k_ids.specs.declared.lock_word.LockWord.TheVariants.{Free}
use Rattle.k_ids.specs.StateWords.{state_bits, state_word_of}
use Rattle.k_ids.specs.ContextWords.{context_bits, context_word_of}
use Rattle.k_ids.specs.LockWords.{lock_bits}
use Rattle.k_ids.specs.Messages.{message_bits, message_of_bits}
use Rattle.k_locks.specs.declared.locks.Lock.{Lock}
use Rattle.k_locks.specs.declared.points.Point.{Point}
use Rattle.k_locks.specs.declared.locks.Lock.TheVariants as lock
use Rattle.k_locks.specs.declared.locks.WordName.{WordName}
use Rattle.k_locks.specs.declared.locks.WordName.TheVariants as word
use Rattle.k_locks.specs.declared.goods.Goods.{Goods}
use Rattle.k_locks.specs.declared.goods.Goods.TheVariants as goods
use Rattle.k_locks.specs.declared.steps.Step.{Step}
use Rattle.k_locks.specs.declared.steps.Answer.{Answer}
use Rattle.k_locks.specs.declared.steps.Went.{Went}
use Rattle.k_locks.specs.declared.steps.Went.TheVariants as went
use Rattle.k_locks.specs.Steps.{answer_of, becomes, goods_returned, lock_taken, word_of}
use Rattle.k_model.specs.State.{KernelState, is_picking}
use Rattle.k_model.specs.History.{IsReplay}
use Rattle.k_model.specs.Answered.{is_waiting, reply_to}
use Rattle.k_shown.specs.Rows.{called_by}
use Rattle.k_shown.specs.Memory.{Memory, Shows, with_word, with_mail, with_context, with_numbers, with_queue, with_ready}
use Rattle.k_shown.specs.Leaves.{Leaves}
use Rattle.k_shown.specs.Sound.{IsSoundMemory}

-- ONE STEP ON A MEMORY

-- What a word has. Locks are free when the section asks for them.
abbrev pub bits_of : Memory → WordName → ℕ
bits_of m (word.State number) = state_bits (m.word number)
bits_of m (word.Mail number) = message_bits (m.mail number)
bits_of m (word.Lock lock) = lock_bits Free
bits_of m (word.Context number) = context_bits (m.context number)

-- what a lock guards
abbrev pub guarded_by : Memory → Lock → Goods
guarded_by m lock.Table = goods.Numbers m.numbers
guarded_by m (lock.Thread number) = goods.Senders (m.queue number)
guarded_by m lock.Ready = goods.Ready m.ready

-- The goods that come with a step: those of the lock that it takes. Where it takes none, none are told.
abbrev pub goods_with : Memory → Option Lock → Goods
goods_with m (Some lock) = guarded_by m lock
goods_with m None = goods.Numbers m.numbers

-- what the step is told
abbrev pub answered : Memory → Step → Answer
answered m s = answer_of s (bits_of m (word_of s)) (goods_with m (lock_taken s (bits_of m (word_of s))))

-- A word is written. Lock words aren't kept: each lock is free again when a section asks for it.
abbrev pub with_bits : Memory → WordName → ℕ → Memory
with_bits m (word.State number) bits = with_word m number (state_word_of bits)
with_bits m (word.Mail number) bits = with_mail m number (message_of_bits bits)
with_bits m (word.Lock lock) bits = m
with_bits m (word.Context number) bits = with_context m number (context_word_of bits)

-- what a lock guards is put back
abbrev pub with_goods : Memory → Lock → Goods → Memory
with_goods m lock.Table (goods.Numbers numbers) = with_numbers m numbers
with_goods m (lock.Thread number) (goods.Senders queue) = with_queue m number queue
with_goods m lock.Ready (goods.Ready lists) = with_ready m lists
with_goods m l g = m

abbrev pub with_returned : Memory → Option (Lock × Goods) → Memory
with_returned m None = m
with_returned m (Some back) = with_goods m back.0 back.1

-- What the step leaves. What a lock guards stays where it is while the section has it in hand. The context that runs is told
-- to lock words alone, and so doesn't count: here it is 0.
abbrev pub performed : Memory → Step → Memory
performed m s = with_returned (with_bits m (word_of s) (becomes 0 s (bits_of m (word_of s)))) (goods_returned s)

-- A WHOLE RUN

-- the entry of a point, where it is told which call of its thread it belongs to
abbrev pub entry_at : (ℕ → ℕ) → Point → Entry
entry_at serials p = record { event = record { who = p.who; serial = serials p.who.number; act = p.act }; outcome = p.outcome }

-- What is known of a kind of section: the step that it asks for, the section once this is answered, how it goes on then, and
-- the entry that the step appends to the history; and what the code wants before it is asked, and before it is answered. That
-- the section is sound follows from the code's own clauses.
pub record Kind (S : Type 0) : Type 1 where
  pub next : S → Step
  pub after : S → Answer → S
  pub went : S → Answer → Went
  pub decides : Memory → S → Answer → Option Entry
  pub may_ask : S → Type 0
  pub may_tell : S → Answer → Type 0

pub record Run (S : Type 0) : Type 0 where
  pub memory : Memory
  pub section : S
  pub entries : List Entry  -- those appended so far
  pub went : Went  -- of the last step

abbrev pub answer_at : {S : Type 0} → Kind S → Run S → Answer
answer_at t r = answered r.memory (t.next r.section)

-- The code can make the step: it may be asked for it, and be told what comes of it.
pub record CanStep {S : Type 0} (t : Kind S) (r : Run S) : Type 0 where
  pub ask : t.may_ask r.section
  pub tell : t.may_tell r.section (answer_at t r)

abbrev pub stepped : {S : Type 0} → Kind S → Run S → Run S
stepped t r = record {
  memory = performed r.memory (t.next r.section);
  section = t.after r.section (answer_at t r);
  entries = r.entries ++ option_to_list (t.decides r.memory r.section (answer_at t r));
  went = t.went r.section (answer_at t r);
}

unfoldable pub run : {S : Type 0} → Kind S → ℕ → Run S → Run S
run t zero r = r
run t (suc n) r = run t n (stepped t r)

abbrev pub begun : {S : Type 0} → Memory → S → Run S
begun m s = record { memory = m; section = s; entries = []; went = went.On }

-- WHAT A RUN COMES TO

-- How the section has ended, with the status that the specification gives its caller, and the reply, if there is one.
abbrev pub Tells : Went → Status → Option Reply → Type 0
Tells (went.Ends told) s reply = (reply ≡ Some told) × (s ≡ status.Run)
Tells went.Waits s reply = (reply ≡ None) × (is_waiting s ≡ true) × (is_picking s ≡ false)
Tells went.Picks s reply = (reply ≡ None) × (s ≡ status.Picking)
Tells went.CallerDead s reply = ⊥
Tells went.On s reply = ⊥
Tells went.Again s reply = ⊥
Tells (went.Pushed priority) s reply = ⊥

-- THE EVENT

-- each thread's current call, where this one makes its next
abbrev pub current : KernelState → ThreadId → ℕ → ℕ
current k me number = ((called_by k me).place number).serial

-- a thread is freed, since the one that it waits for isn't there
pub record IsFreed (e : Entry) : Type 0 where
  pub gone : e.event.act ≡ act.Gone
  pub freed : e.outcome ≡ outcome.Freed

-- The code can make each step of the run. It appends exactly this event, and then those of threads that it frees; they are
-- legal, one after another. The memory then shows the state that they leave, and is sound again; the section has ended with the
-- reply that this state has; and no word, mail or list has changed but as `Leaves` tells.
pub record Makes {S : Type 0} (t : Kind S) (start : Run S) (k : KernelState) (event : Event) : Type 0 where
  pub steps : ℕ
  pub final : Run S
  pub runs : run t steps start ≡ final
  pub able : (i : ℕ) → i < steps → CanStep t (run t i start)
  pub outcome : Outcome
  pub freed : List Entry
  pub frees : AllByRecursion IsFreed freed
  pub entries : final.entries ≡ record { event = event; outcome = outcome } ∷ freed
  pub state : KernelState
  pub legal : IsReplay k final.entries state
  pub shows : Shows final.memory state
  pub sound : IsSoundMemory final.memory
  pub lines : List ReplyLine
  pub replies : state.replies ≡ k.replies ++ lines
  pub tells : Tells final.went (state.place event.who.number).status (reply_to lines event.who event.serial)
  pub leaves : Leaves event outcome lines start.memory final.memory

-- The code can make each step of the run. It appends nothing and leaves the memory as it was; its caller waits, and will see
-- that a message has come.
pub record MakesNothing {S : Type 0} (t : Kind S) (start : Run S) : Type 0 where
  pub steps : ℕ
  pub final : Run S
  pub runs : run t steps start ≡ final
  pub able : (i : ℕ) → i < steps → CanStep t (run t i start)
  pub entries : final.entries ≡ []
  pub memory : final.memory ≡ start.memory
  pub waits : final.went ≡ went.Waits
