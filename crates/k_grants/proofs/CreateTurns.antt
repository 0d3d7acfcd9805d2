-- The turns of a create.
use Rattle.std.specs.Prelude.{◌-◌, ◌≤◌, []}
use Rattle.std.proofs.Common.{◌≡◌, ◌≢◌, ℕ, ◌<◌, ◌+◌, true, false, refl, sym, ap, ◌∙◌, subst, Option, Some, None, arith}
use Rattle.k_ids.specs.declared.threads.ThreadId.{ThreadId}
use Rattle.k_ids.specs.declared.calls.Phase.TheVariants as phase
use Rattle.k_ids.specs.declared.state_word.StateWord.{StateWord}
use Rattle.k_model.specs.Maps.{upd}
use Rattle.k_model.proofs.Maps.{upd_same}
use Rattle.k_locks.specs.Asks.{Response}
use Rattle.k_locks.specs.Asks as asks
use Rattle.k_locks.specs.Numbers.{ThreadNumbers, lowest_free, version_at}
use Rattle.k_locks.specs.Shown.{is_dead}
use Rattle.k_threads.specs.Words.{created_word}
use Rattle.k_threads.specs.declared.create.CreateCall.{CreateCall}
use Rattle.k_threads.specs.declared.create.CreateOutside.TheVariants.{AcquireTable, Ended}
use Rattle.k_threads.specs.declared.create.CreateLocked.{CreateLocked}
use Rattle.k_threads.specs.declared.create.CreateLocked.TheVariants.{LoadCaller, PlaceContext}
use Rattle.k_threads.specs.declared.create.CreateLocked.TheVariants.{CommitCreate, AcquireReady, Release}
use Rattle.k_threads.specs.declared.create.CreateRelease.{CreateRelease}
use Rattle.k_threads.specs.declared.create.CreateRelease.TheVariants as release
use Rattle.k_threads.specs.CreateTable.{CreateAt, Outside, Locked, PushCreated, choose}
use Rattle.k_threads.specs.CreateTable as create
use Rattle.k_caller.specs.declared.thread.ThreadLocation.TheVariants as location
use Rattle.k_board.specs.Words.{Programs}
use Rattle.k_board.specs.Boards.{At, Alone, Coming, InCreate, Nowhere, Board, Context, hand_of}
use Rattle.k_board.specs.Facts.{AllSay}
use Rattle.k_board.specs.Places.{facts_create}
use Rattle.k_board.specs.Steps.{Answers, create_at, create_board, create_context, create_contexts, new_context}
use Rattle.k_board.proofs.Cases.{if_cases}
use Rattle.k_good.specs.Ranges.{NamesFit}
use Rattle.k_tokens.specs.World.{World}
use Rattle.k_tokens.proofs.Views.{view_upd}
use Rattle.k_grants.specs.Views.{Look, look_at, looks_of, sights_of}
use Rattle.k_grants.specs.Pushes.{IsOnAt, PushSays, board_threads, word_at}
use Rattle.k_grants.specs.Granted.{Agrees, Finding, IsWait}
use Rattle.k_grants.proofs.Granting.{IsMoved, IsQuiet, IsUnready, acquires_ready, acquires_table, pushes, releases_table}
use Rattle.k_grants.proofs.Looks.{acquiring, pushing, silent}
use Rattle.k_grants.proofs.Says.{Turned, silently}
use Rattle.k_grants.proofs.Sights.{sighted, sights_after, words_after}
use Rattle.k_grants.proofs.Tabling.{makes, places}
use Rattle.k_grants.proofs.Turned as kinds
use Rattle.k_grants.proofs.Words.{told_on}
use Rattle.k_grants.proofs.Worlds.{world_of}

abbrev locked_of : CreateCall → CreateLocked → At
locked_of c p = InCreate c (Locked p)

chosen_quiet : (c : CreateCall) (numbers : ThreadNumbers) (o : Option ℕ) →
    IsQuiet (locked_of c LoadCaller) (locked_of c (choose numbers o))
chosen_quiet c numbers None = silent refl refl refl refl
chosen_quiet c numbers (Some n) = silent refl refl refl refl

module _ (g : Programs) (b : Board) (w : World) (k i : ℕ) (a : Agrees b w) (names : NamesFit g b.size)
    (alive : b.table ≡ Some i → is_dead (b.seen i).word ≡ true → ⊥)
    (low : (t : ℕ) → w.threads.priority t < 64) (inside : i < b.size) (finding : Finding) (wait : IsWait finding.waits)
    (c : CreateCall) where
  abbrev After : CreateAt → Response → Board
  After p r = create_board g b i (b.context i) c p r

  abbrev Next : CreateAt → Response → At
  Next p r = create_at c (create.leads c (hand_of b []) p r)

  moved : (p : CreateAt) (r : Response) → create_contexts g c p r b.context ≡ b.context → IsMoved b (After p r) i (Next p r)
  moved p r e = record {
    size = refl;
    looks = ap (λ (f : ℕ → Context). λ t. look_at (upd f i (create_context (b.context i) c p r (hand_of b [])) t).at) e
        ∙ view_upd (λ (y : Context). look_at y.at) b.context i (create_context (b.context i) c p r (hand_of b []));
  }

  abbrev Stood : CreateAt → Response → Type 0
  Stood p r = Turned (After p r) (world_of w b) k i finding (asks.is_again r) (Next p r)

  abbrev Answered : CreateAt → Response → Type 0
  Answered p r = Answers b (create.ask_of c (b.context i).own p) r

  seen_after : (p : CreateAt) (r : Response) → Answered p r →
      sights_of (After p r) ≡ sighted (sights_of b) (create.ask_of c (b.context i).own p) r
  seen_after p r an =
      sights_after g b (b.context i).position (create.points c (b.seen i).word (hand_of b []) p r)
      (create.ask_of c (b.context i).own p) r an

  module _ (p : CreateAt) (r : Response) (at : (b.context i).at ≡ InCreate c p) (an : Answered p r) (u : IsUnready b (After p r))
      (t : (After p r).table ≡ b.table)
      (x : create_contexts g c p r b.context ≡ b.context) (e :
      sighted (sights_of b) (create.ask_of c (b.context i).own p) r ≡ sights_of b) where
    goes : (look_at (InCreate c p)).push ≡ None → IsQuiet (InCreate c p) (Next p r) →
        Turned (After p r) (world_of w b) k i finding false (Next p r)
    goes n h = kinds.goes w b k i a finding (InCreate c p) at (After p r) (Next p r) (moved p r x) u t (seen_after p r an ∙ e) n h

    waits : look_at (Next p r) ≡ look_at (InCreate c p) → (look_at (InCreate c p)).locks.ready ≡ false →
        PushSays (After p r).seen (board_threads (After p r)) (Next p r) →
        Turned (After p r) (world_of w b) k i finding true (Next p r)
    waits h n s =
        kinds.waits w b k i a finding (InCreate c p) at (After p r) (Next p r) (moved p r x) u t
        (seen_after p r an ∙ e) wait h n s

  -- a context is placed, or its thread is made
  looks_both : (p : CreateAt) (r : Response) (n : ℕ) (y : Context) → create_contexts g c p r b.context ≡ upd b.context n y
      → looks_of (After p r) ≡ upd (upd (looks_of b) n (look_at y.at)) i (look_at (Next p r))
  looks_both p r n y e =
      ap (λ (f : ℕ → Context). λ t. look_at (upd f i (create_context (b.context i) c p r (hand_of b [])) t).at) e
      ∙ view_upd (λ (z : Context). look_at z.at) (upd b.context n y) i (create_context (b.context i) c p r (hand_of b []))
      ∙ ap (λ (f : ℕ → Look). upd f i (look_at (Next p r))) (view_upd (λ (z : Context). look_at z.at) b.context n y)

  other_place : (p q : At) → (b.context i).at ≡ p → (n : ℕ) → (b.context n).at ≡ q → (p ≡ q → ⊥) → i ≢ n
  other_place p q at n is differ e = differ (sym at ∙ ap (λ (z : ℕ). (b.context z).at) e ∙ is)

  placed : (id : ThreadId) → (b.context i).at ≡ locked_of c (PlaceContext id) →
      AllSay g b i (b.context i) (facts_create c (Locked (PlaceContext id))) → Stood (Locked (PlaceContext id)) asks.Placed
  placed id at h =
      silently (places w b k i a finding (locked_of c (PlaceContext id)) at (After p asks.Placed) (Next p asks.Placed) id.number
      (look_at Coming)
      (other_place (locked_of c (PlaceContext id)) Nowhere at id.number h.1.1.1.1.1.1.1.0.1 (λ z. cc)) refl
      (looks_both p asks.Placed id.number (new_context g c id Coming) refl)
      record { ready = refl; lists = refl } h.0 refl (seen_after p asks.Placed tt) refl (ap look_at h.1.1.1.1.1.1.1.0.1)
      (ap is_dead h.1.1.1.1.1.1.0.1)
      record {
        about = record { condition = refl; coming = refl; locks = refl; push = refl };
        victim = refl;
        listed = refl;
        making = refl;
        table = refl;
        none = refl;
        unmade = refl;
      }) refl
    where
      p : CreateAt
      p = Locked (PlaceContext id)

  made : (id : ThreadId) → (b.context i).at ≡ locked_of c (CommitCreate id) → Answered (Locked (CommitCreate id)) asks.Won →
      AllSay g b i (b.context i) (facts_create c (Locked (CommitCreate id)))
      → Stood (Locked (CommitCreate id)) asks.Won
  made id at an h = record {
    granted =
        makes w b k i a finding (locked_of c (CommitCreate id)) at (After p asks.Won) (Next p asks.Won) id.number
        (look_at (Alone (location.Between None)))
        (other_place (locked_of c (CommitCreate id)) Coming at id.number arriving (λ z. cc)) refl
        (looks_both p asks.Won id.number (new_context g c id (Alone (location.Between None))) refl)
        record { ready = refl; lists = refl } h.0 refl id (created_word id.version c.priority) refl version
        (seen_after p asks.Won an) version refl refl refl low_priority refl (ap look_at arriving)
        record {
          about = record { condition = refl; coming = refl; locks = refl; push = refl };
          victim = refl;
          listed = refl;
          making = refl;
          is = refl;
          table = refl;
          push = refl;
        };
    says =
        subst (λ (x : StateWord). IsOnAt x id c.priority) (sym word) (record { version = refl; running = refl; on = refl }, refl);
  }
    where
      p : CreateAt
      p = Locked (CommitCreate id)

      arriving : (b.context id.number).at ≡ Coming
      arriving = ap (λ (x : Context). x.at) h.1.1.1.1.1.1.1.0.1

      version : id.version ≡ (b.seen id.number).word.version + 1
      version =
          next_of id.version (version_at b.numbers id.number) (b.seen id.number).word.version h.1.1.1.1.1.0.2
          (ap (λ (x : StateWord). x.version) an)
        where
          next_of : (m n v : ℕ) → m ≡ n + 1 → v ≡ m - 1 → m ≡ v + 1
          next_of m n v e d = omega (arith, e, d)

      low_priority : c.priority < 64
      low_priority = let f = h.1.1.1.0.1 in few c.priority (names f.at f.last (phase.Create c.program c.priority) f.call)
        where
          few : (n : ℕ) → n ≤ 63 → n < 64
          few n l = omega (arith, l)

      word : word_at (After p asks.Won).seen id ≡ created_word id.version c.priority
      word =
          ap (λ (f : ℕ → StateWord). f id.number) (words_after g b (b.context i).position
          (create.points c (b.seen i).word (hand_of b []) p asks.Won) (create.ask_of c (b.context i).own p) asks.Won an)
          ∙ upd_same (λ t. (b.seen t).word) id.number (created_word id.version c.priority)

  finished : (p : CreateRelease) → (b.context i).at ≡ locked_of c (Release p) →
      AllSay g b i (b.context i) (facts_create c (Locked (Release p))) → Stood (Locked (Release p)) asks.Released
  finished (release.Made id) at h =
      silently (releases_table w b k i a finding (locked_of c (Release (release.Made id))) at
      (After (Locked (Release (release.Made id))) asks.Released) (Next (Locked (Release (release.Made id))) asks.Released)
      (moved (Locked (Release (release.Made id))) asks.Released refl) record { ready = refl; lists = refl }
      (seen_after (Locked (Release (release.Made id))) asks.Released tt) h.0 refl refl refl refl refl refl refl refl
      record { condition = refl; coming = refl; locks = refl; push = refl }) refl
  finished (release.Full m n) at h =
      silently (releases_table w b k i a finding (locked_of c (Release (release.Full m n))) at
      (After (Locked (Release (release.Full m n))) asks.Released) (Next (Locked (Release (release.Full m n))) asks.Released)
      (moved (Locked (Release (release.Full m n))) asks.Released refl) record { ready = refl; lists = refl }
      (seen_after (Locked (Release (release.Full m n))) asks.Released tt) h.0 refl refl refl refl refl refl refl refl
      record { condition = refl; coming = refl; locks = refl; push = refl }) refl
  finished release.Dead at h = absurd (alive h.0 h.1.0)

  pub create_turned : (p : CreateAt) (r : Response) → (b.context i).at ≡ InCreate c p → Answered p r →
      AllSay g b i (b.context i) (facts_create c p)
      → PushSays b.seen (board_threads b) (InCreate c p) → Stood p r
  create_turned (Outside AcquireTable) asks.Got at an h s =
      silently (acquires_table w b k i a finding (InCreate c (Outside AcquireTable)) at (After (Outside AcquireTable) asks.Got)
      (Next (Outside AcquireTable) asks.Got) (moved (Outside AcquireTable) asks.Got refl)
      record { ready = refl; lists = refl }
      (seen_after (Outside AcquireTable) asks.Got an) an refl refl refl refl record {
        condition = refl;
        coming = refl;
        locks = refl;
        push = refl;
      }) refl
  create_turned (Outside AcquireTable) (asks.Owned o) at an h s =
      waits (Outside AcquireTable) (asks.Owned o) at an record { ready = refl; lists = refl } refl refl refl refl refl tt
  create_turned (Locked LoadCaller) (asks.Word v) at an h s =
      goes (Locked LoadCaller) (asks.Word v) at an record { ready = refl; lists = refl } refl refl refl refl
      (if_cases (λ (q : CreateLocked). IsQuiet (locked_of c LoadCaller) (locked_of c q)) (is_dead v) _ _
      (λ z. silent refl refl refl refl) (λ z. chosen_quiet c b.numbers (lowest_free b.numbers)))
  create_turned (Locked (PlaceContext id)) asks.Placed at an h s = placed id at h
  create_turned (Locked (CommitCreate id)) asks.Won at an h s = made id at an h
  create_turned (Locked (CommitCreate id)) (asks.Lost x) at an h s =
      goes (Locked (CommitCreate id)) (asks.Lost x) at an record { ready = refl; lists = refl } refl refl refl refl
      (silent refl refl refl refl)
  create_turned (Locked (AcquireReady id)) asks.Got at an h s = record {
    granted =
        acquires_ready w b k i a finding (locked_of c (AcquireReady id)) at (After (Locked (AcquireReady id)) asks.Got)
        (Next (Locked (AcquireReady id)) asks.Got)
        (moved (Locked (AcquireReady id)) asks.Got refl) (seen_after
        (Locked (AcquireReady id)) asks.Got an) refl an refl refl inside (acquiring refl refl);
    says = s;
  }
  create_turned (Locked (AcquireReady id)) (asks.Owned o) at an h s =
      waits (Locked (AcquireReady id)) (asks.Owned o) at an record { ready = refl; lists = refl } refl refl refl refl refl s
  create_turned (PushCreated id) asks.Released at an h s =
      silently (pushes w b k i a finding (InCreate c (PushCreated id)) at (After (PushCreated id) asks.Released)
      (Next (PushCreated id) asks.Released) (moved (PushCreated id) asks.Released refl)
      id (Some c.priority) (seen_after (PushCreated id) asks.Released an) refl refl refl
      (told_on w.threads.priority b id c.priority low a.priorities s)
      (pushing refl refl refl refl refl)) refl
  create_turned (Locked (Release q)) asks.Released at an h s = finished q at h
  create_turned (Outside (Ended v)) r at an h s = absurd h.0
  create_turned p r at an h s = absurd an
