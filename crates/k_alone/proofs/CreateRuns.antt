-- The run of a create.
use Rattle.std.proofs.Common.{◌≡◌, ℕ, ◌+◌, ◌-◌, true, false, List, [], ◌∷◌, refl, ap, ◌∙◌, arith, Some, None}
use Rattle.std.proofs.lemmas.Bool.{false≢true}
use Rattle.k_ids.specs.declared.threads.ThreadId.{ThreadId}
use Rattle.k_ids.specs.declared.calls.Outcome.{Outcome}
use Rattle.k_ids.specs.declared.calls.Outcome.TheVariants as outcome
use Rattle.k_ids.specs.declared.calls.Reply.TheVariants as reply
use Rattle.k_ids.specs.declared.histories.Entry.{Entry}
use Rattle.k_ids.specs.declared.context_word.ContextWord.TheVariants.{Clean, Empty}
use Rattle.k_ids.specs.declared.state_word.State.{State}
use Rattle.k_ids.specs.declared.state_word.State.TheVariants as state
use Rattle.k_ids.specs.declared.state_word.StateWord.{StateWord}
use Rattle.k_ids.specs.StateWords.{IsStateWord, Agrees, state_bits, state_word_of}
use Rattle.k_ids.specs.ContextWords.{IsVersion}
use Rattle.k_ids.specs.LockWords.{lock_bits}
use Rattle.k_ids.proofs.StateSpelled.{state-read}
use Rattle.k_ready.specs.Lists.{IsInNone}
use Rattle.k_locks.specs.Numbers.{ThreadNumbers}
use Rattle.k_locks.specs.declared.steps.Answer.TheVariants as answer
use Rattle.k_locks.specs.declared.steps.Told.TheVariants as told_by
use Rattle.k_locks.specs.declared.steps.Step.TheVariants as step
use Rattle.k_locks.specs.declared.locks.WordName.TheVariants as word
use Rattle.k_locks.specs.declared.steps.Went.{Went}
use Rattle.k_locks.specs.declared.steps.Went.TheVariants as went
use Rattle.k_locks.specs.Numbers.{version_at, with_thread, lowest_free, alive, worn}
use Rattle.k_locks.specs.Shown.{shows, is_dead, is_dead_state}
use Rattle.k_threads.specs.declared.create.CreateCall.{CreateCall}
use Rattle.k_locks.specs.Hands.{Hand, nothing}
use Rattle.k_threads.specs.Words.{created_word, dead_word}
use Rattle.k_threads.specs.declared.create.CreateOutside.TheVariants.{Ended}
use Rattle.k_threads.specs.declared.create.CreateLocked.TheVariants.{LoadCaller, PlaceContext, CommitCreate, AcquireReady, Release}
use Rattle.k_threads.specs.declared.create.CreateRelease.TheVariants as release
use Rattle.k_threads.specs.declared.create.CreateSection.{CreateSection}
use Rattle.k_threads.specs.CreateTable.{CreateAt, Outside, Locked, PushCreated, create_of, location_with, point_of}
use Rattle.k_model.specs.State.{is_dead as is_dead_status}
use Rattle.k_shown.specs.Memory.{Memory, with_context, with_numbers}
use Rattle.k_shown.specs.Sound.{IsCaller, IsSoundMemory}
use Rattle.k_alone.specs.Alone.{Run, begun, entry_at}
use Rattle.k_alone.specs.CreateAlone.{create_kind}
use Rattle.k_shown.proofs.Kept.{pushed}
use Rattle.k_alone.proofs.Creates.{making}
use Rattle.k_alone.proofs.Runs.{Goes, arrived, can, load, on, one, places, spelled, won, writes}

-- a create at a location, with what it has in hand, after so many steps
abbrev pub sec : CreateCall → StateWord → CreateAt → Hand → ℕ → CreateSection
sec c own p h d = record { call = c; own = own; location = location_with h p; done = d }

abbrev pub create_at : Memory → CreateSection → List Entry → Went → Run CreateSection
create_at m s es w = record { memory = m; section = s; entries = es; went = w }

-- the entry of the caller's call
abbrev pub created : CreateCall → (ℕ → ℕ) → Outcome → Entry
created c serials o = entry_at serials (point_of c o)

-- what a loaded word is read as
pub loaded : (m : Memory) (n : ℕ) (w : StateWord) → IsStateWord (m.word n) → m.word n ≡ w → state_word_of (state_bits (m.word n)) ≡ w
loaded m n w s e = state-read (m.word n) s ∙ e

dead_is : (w : StateWord) (s : State) → w.state ≡ s → Agrees s w → is_dead_status (shows s) ≡ true → w ≡ dead_word w.version
dead_is w state.Dead e a d = λ i. record { version = w.version; priority = a.1 i; on = a.0 i; state = e i }
dead_is w (state.Run r) e a d = absurd (false≢true d)
dead_is w (state.Sending to joined) e a d = absurd (false≢true d)
dead_is w (state.Receiving from) e a d = absurd (false≢true d)
dead_is w state.Picking e a d = absurd (false≢true d)
dead_is w state.Ended e a d = absurd (false≢true d)

-- a dead word is all but its version
pub dead_word_is : (w : StateWord) → IsStateWord w → is_dead_status (shows w.state) ≡ true → w ≡ dead_word w.version
dead_word_is w s d = dead_is w w.state refl s.agrees d

abbrev pub numbers_hand : ThreadNumbers → Hand
numbers_hand ns = record nothing { numbers = ns }

abbrev pub new_id : Memory → ℕ → ThreadId
new_id m n = record { number = n; version = version_at m.numbers n + 1 }

-- the memory at the end
abbrev pub made_memory : Memory → ThreadId → ℕ → Memory
made_memory m id priority = with_numbers (pushed (making m id priority) id priority) (with_thread id.number m.numbers)

module _ (c : CreateCall) (serials : ℕ → ℕ) (m : Memory) (own : StateWord) (good : IsSoundMemory m) (call : IsCaller m c.caller own) where
  caller_lives : is_dead (state_word_of (state_bits (m.word c.caller.number))) ≡ false
  caller_lives = ap (λ (w : StateWord). is_dead w) (loaded m c.caller.number own (good.words.words c.caller.number) call.word) ∙ ap (λ (x : State). is_dead_state x) call.runs

  pub runs_full : lowest_free m.numbers ≡ None → Goes (create_kind serials) (begun m (create_of c own)) (create_at m (sec c own (Outside (Ended (went.Ends (reply.Full (alive m.numbers) (worn m.numbers))))) nothing 3) (created c serials (outcome.Full (alive m.numbers) (worn m.numbers)) ∷ []) (went.Ends (reply.Full (alive m.numbers) (worn m.numbers))))
  unfolding lock_bits
  runs_full none =
      let t = create_kind serials in
      let h = numbers_hand m.numbers in
      let o = reply.Full (alive m.numbers) (worn m.numbers) in
      let e = created c serials (outcome.Full (alive m.numbers) (worn m.numbers)) in
      let r0 = begun m (create_of c own) in
      let r1 = create_at m (sec c own (Locked LoadCaller) h 1) [] went.On in
      let r2 = create_at m (sec c own (Locked (Release (release.Full (alive m.numbers) (worn m.numbers)))) h 2) (e ∷ []) went.On in
      let r3 = create_at m (sec c own (Outside (Ended (went.Ends o))) nothing 3) (e ∷ []) (went.Ends o) in
      on t r0 r1 r3 (record { ask = (refl, tt); tell = (refl, tt) }) refl
      (on t r1 r2 r3 (record { ask = (refl, tt); tell = (refl, spelled m good c.caller.number) }) (load t r1 c.caller.number refl (good.words.words c.caller.number) ∙ rw (caller_lives, none) refl)
      (on t r2 r3 r3 (record { ask = (refl, tt); tell = (refl, tt) }) refl (arrived t r3)))

  pub runs_made : (n : ℕ) → lowest_free m.numbers ≡ Some n → m.word n ≡ dead_word (version_at m.numbers n) → IsStateWord (created_word (version_at m.numbers n + 1) c.priority) → m.context n ≡ Empty → IsVersion (version_at m.numbers n + 1) → IsInNone n m.ready.lists → Goes (create_kind serials) (begun m (create_of c own)) (create_at (made_memory m (new_id m n) c.priority) (sec c own (Outside (Ended (went.Ends (reply.Made (new_id m n))))) nothing 7) (created c serials (outcome.Made (new_id m n)) ∷ []) (went.Ends (reply.Made (new_id m n))))
  unfolding lock_bits
  runs_made n some dead new empty young push =
      let t = create_kind serials in
      let id = new_id m n in
      let h = numbers_hand m.numbers in
      let hr = record h { lists = m.ready } in
      let e = created c serials (outcome.Made id) in
      let mc = with_context m n (Clean id.version) in
      let mw = making m id c.priority in
      let mp = pushed mw id c.priority in
      let r0 = begun m (create_of c own) in
      let r1 = create_at m (sec c own (Locked LoadCaller) h 1) [] went.On in
      let r2 = create_at m (sec c own (Locked (PlaceContext id)) h 2) [] went.On in
      let r3 = create_at mc (sec c own (Locked (CommitCreate id)) h 3) [] went.On in
      let r4 = create_at mw (sec c own (Locked (AcquireReady id)) h 4) (e ∷ []) went.On in
      let r5 = create_at mw (sec c own (PushCreated id) hr 5) (e ∷ []) went.On in
      let r6 = create_at mp (sec c own (Locked (Release (release.Made id))) h 6) (e ∷ []) (went.Pushed c.priority) in
      let r7 = create_at (made_memory m id c.priority) (sec c own (Outside (Ended (went.Ends (reply.Made id)))) nothing 7) (e ∷ []) (went.Ends (reply.Made id)) in
      let x = step.Exchange (word.State n) (state_bits (dead_word (id.version - 1))) (state_bits (created_word id.version c.priority)) in
      let old : m.word n ≡ dead_word (id.version - 1) = dead ∙ ap dead_word (omega arith) in
      on t r0 r1 r7 (record { ask = (refl, tt); tell = (refl, tt) }) refl
      (on t r1 r2 r7 (record { ask = (refl, tt); tell = (refl, spelled m good c.caller.number) }) (load t r1 c.caller.number refl (good.words.words c.caller.number) ∙ rw (caller_lives, some) refl)
      (on t r2 r3 r7 (record { ask = (refl, tt); tell = (refl, tt) }) (one t r2 (step.Place id c.program c.priority) (answer.Told told_by.Placed) mc r3.section None [] went.On refl refl (places m id c.program c.priority empty young) refl refl refl refl)
      (on t r3 r4 r7 (can t r3 (answer.Told told_by.Won) (refl, tt) (won mc n (dead_word (id.version - 1)) (created_word id.version c.priority) old) (refl, tt)) (one t r3 x (answer.Told told_by.Won) mw r4.section (Some e) (e ∷ []) went.On refl (won mc n (dead_word (id.version - 1)) (created_word id.version c.priority) old) (writes mc n (dead_word (id.version - 1)) (created_word id.version c.priority) old new) refl refl refl refl)
      (on t r4 r5 r7 (record { ask = (refl, tt); tell = (refl, tt) }) refl
      (on t r5 r6 r7 (record { ask = (refl, push); tell = (refl, tt) }) refl
      (on t r6 r7 r7 (record { ask = (refl, tt); tell = (refl, tt) }) refl (arrived t r7)))))))
