-- What a run comes to, put together from its parts.
use Rattle.std.proofs.Common.{◌≡◌, ℕ, ◌<◌, ◌≤◌, true, false, List, [], ◌∷◌, ◌++◌, refl, sym, ap, ◌∙◌, subst, Some, Ok}
use Rattle.std.proofs.lemmas.Bool.{eq-eqb}
use Rattle.std.specs.List.{AllByRecursion}
use Rattle.k_ids.specs.declared.threads.ThreadId.{ThreadId}
use Rattle.k_ids.specs.declared.calls.Reply.{Reply}
use Rattle.k_ids.specs.declared.calls.Outcome.{Outcome}
use Rattle.k_ids.specs.declared.histories.Entry.{Entry}
use Rattle.k_ids.specs.declared.histories.Event.{Event}
use Rattle.k_ids.specs.declared.histories.ReplyLine.{ReplyLine}
use Rattle.k_model.specs.State.{KernelState, same_id}
use Rattle.k_model.specs.Step.{step, outcome_of, is_enabled}
use Rattle.k_model.specs.History.{IsReplay}
use Rattle.k_model.specs.Answered.{reply_to}
use Rattle.k_model.specs.Sound.{IsSound}
use Rattle.k_model.proofs.Sound.{acted-sound}
use Rattle.k_model.proofs.Replays.{step_enabled, replay_listed}
use Rattle.k_shown.specs.Rows.{Gives}
use Rattle.k_shown.specs.Leaves.{Leaves}
use Rattle.k_shown.specs.Memory.{Shows}
use Rattle.k_shown.specs.Sound.{IsSoundWords, IsSoundNumbers, IsSoundContexts, IsSoundMemory}
use Rattle.k_alone.specs.Alone.{Kind, Run, Makes, Tells, IsFreed}
use Rattle.k_shown.proofs.Kept.{SameThreads, sound_memory, sound_state, listed_state, numbers_kept, contexts_kept}
use Rattle.k_alone.proofs.Runs.{Goes}
use Rattle.k_shown.proofs.Statuses.{same_self}

replay_sound : (old : KernelState) (es : List Entry) (new : KernelState) → IsSound old → IsReplay old es new → IsSound new
replay_sound old [] new s h = subst IsSound (sym h) s
replay_sound old (e ∷ es) new s h =
    let en = step_enabled old e.event (h.0, e.outcome) h.1 in
    let mid = subst (λ (r : KernelState × Outcome). IsSound r.0) en.1 (acted-sound old e.event.who e.event.serial e.event.act en.0 s) in
    replay_sound h.0 es new mid h.2

-- an enabled event, in front of a replay
pub replay_on : (k mid new : KernelState) (event : Event) (o : Outcome) (es : List Entry) → is_enabled k event ≡ true → outcome_of k event ≡ (mid, o) → IsReplay mid es new → IsReplay k (record { event = event; outcome = o } ∷ es) new
unfolding step
replay_on k mid new event o es may does rest = (mid, rw may (ap (λ (r : KernelState × Outcome). Ok r) does), rest)

-- the parts of a run's outcome
pub record Parts {S : Type 0} (start final : Run S) (k k' : KernelState) (event : Event) (o : Outcome) (freed : List Entry) (lines : List ReplyLine) : Type 0 where
  pub shown : Shows start.memory k
  pub good : IsSoundMemory start.memory
  pub frees : AllByRecursion IsFreed freed
  pub entries : final.entries ≡ record { event = event; outcome = o } ∷ freed
  pub legal : IsReplay k (record { event = event; outcome = o } ∷ freed) k'
  pub shows : Shows final.memory k'
  pub size : final.memory.size ≡ start.memory.size
  pub room : (n : ℕ) → (final.memory.queue n).room ≡ (start.memory.queue n).room
  pub words : IsSoundWords final.memory
  pub numbers : IsSoundNumbers final.memory
  pub contexts : IsSoundContexts final.memory
  pub replies : k'.replies ≡ k.replies ++ lines
  pub tells : Tells final.went (k'.place event.who.number).status (reply_to lines event.who event.serial)
  pub leaves : Leaves event o lines start.memory final.memory

pub makes : {S : Type 0} (t : Kind S) (start final : Run S) (k k' : KernelState) (event : Event) (o : Outcome) (freed : List Entry) (lines : List ReplyLine) → Goes t start final → Parts start final k k' event o freed lines → Makes t start k event
makes t start final k k' event o freed lines g p =
    let s = sound_state start.memory k p.shown p.good in
    let l = listed_state start.memory k p.shown p.good in
    record {
      steps = g.steps;
      final = final;
      runs = g.runs;
      able = g.able;
      outcome = o;
      freed = freed;
      frees = p.frees;
      entries = p.entries;
      state = k';
      legal = subst (λ (es : List Entry). IsReplay k es k') (sym p.entries) p.legal;
      shows = p.shows;
      sound = sound_memory final.memory k' p.shows (subst (λ (n : ℕ). n ≤ 64) (sym p.size) p.good.small) (λ n l. p.room n ∙ p.good.room n (subst (λ (x : ℕ). n < x) p.size l) ∙ sym p.size) p.words p.numbers p.contexts (replay_sound k (record { event = event; outcome = o } ∷ freed) k' s p.legal) (replay_listed k (record { event = event; outcome = o } ∷ freed) k' s l p.legal);
      lines = lines;
      replies = p.replies;
      tells = p.tells;
      leaves = p.leaves;
    }

-- one event, and the same threads
pub makes_one : {S : Type 0} (t : Kind S) (start final : Run S) (k k' : KernelState) (event : Event) (o : Outcome) (lines : List ReplyLine) → Shows start.memory k → IsSoundMemory start.memory → Gives k event o k' lines final.memory → Goes t start final → final.entries ≡ record { event = event; outcome = o } ∷ [] → SameThreads start.memory final.memory → IsSoundWords final.memory → Tells final.went (k'.place event.who.number).status (reply_to lines event.who event.serial) → Leaves event o lines start.memory final.memory → Makes t start k event
makes_one t start final k k' event o lines h good row g es same words tells leaves =
    makes t start final k k' event o [] lines g (record {
      shown = h;
      good = good;
      frees = tt;
      entries = es;
      legal = replay_on k k' k' event o [] row.enabled row.makes refl;
      shows = row.shows;
      size = same.size;
      room = same.room;
      words = words;
      numbers = numbers_kept start.memory final.memory same good.numbers;
      contexts = contexts_kept start.memory final.memory same good.contexts;
      replies = row.replies;
      tells = tells;
      leaves = leaves;
    })

-- REPLIES

-- the first line is the reply to its call
pub reply_first : (me : ThreadId) (serial : ℕ) (r : Reply) (lines : List ReplyLine) → reply_to (record { id = me; serial = serial; reply = r } ∷ lines) me serial ≡ Some r
reply_first me serial r lines = rw (same_self me, eq-eqb serial serial refl) refl

-- a line of another thread doesn't count
pub reply_other : (me : ThreadId) (serial : ℕ) (line : ReplyLine) (lines : List ReplyLine) → same_id line.id me ≡ false → reply_to (line ∷ lines) me serial ≡ reply_to lines me serial
reply_other me serial line lines ne = rw ne refl
