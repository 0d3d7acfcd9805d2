-- The turns of a destroy.
use Rattle.std.specs.Prelude.{◌==◌, nat_lt}
use Rattle.std.proofs.Common.{◌≡◌, ◌≢◌, ℕ, ◌<◌, ◌+◌, Bool, true, false, cond, refl, sym}
use Rattle.std.proofs.Common.{ap, ◌∙◌, subst, Option, Some, None, List, not, arith}
use Rattle.std.proofs.lemmas.Bool.{and_parts}
use Rattle.std.proofs.lemmas.Bool.Decides.{nat_tests}
use Rattle.k_ids.specs.declared.threads.ThreadId.{ThreadId}
use Rattle.k_ids.specs.declared.calls.Reply.TheVariants as reply
use Rattle.k_ids.specs.declared.state_word.Result4.TheVariants as result4
use Rattle.k_ids.specs.declared.state_word.State.TheVariants as state
use Rattle.k_ids.specs.declared.state_word.StateWord.{StateWord}
use Rattle.k_model.specs.Maps.{upd}
use Rattle.k_model.specs.State.{same_id}
use Rattle.k_model.proofs.Maps.{upd_same}
use Rattle.k_senders.specs.Entries.{sender_of}
use Rattle.k_senders.specs.Queue.{first_number}
use Rattle.k_senders.specs.declared.entries.SenderEntry.{SenderEntry}
use Rattle.k_locks.specs.Asks.{Response}
use Rattle.k_locks.specs.Asks as asks
use Rattle.k_locks.specs.Shown.{is_dead, is_present_in}
use Rattle.k_ipc.specs.Words.{sends_to}
use Rattle.k_threads.specs.Words.{dead_word, freed_word, is_receiving_from, thread_at}
use Rattle.k_threads.specs.Goods.{rest, without_first}
use Rattle.k_threads.specs.declared.destroy.DestroyCall.{DestroyCall}
use Rattle.k_threads.specs.declared.destroy.DestroyOutside.TheVariants.{LoadOwn, AcquireTable, Ended}
use Rattle.k_threads.specs.declared.destroy.DestroyLocked.{DestroyLocked}
use Rattle.k_threads.specs.declared.destroy.DestroyLocked.TheVariants.{LoadCaller, AcquireVictimLock, AcquireReadyForVictim}
use Rattle.k_threads.specs.declared.destroy.DestroyLocked.TheVariants.{RemoveContext, AcquireVisitedLock, Release}
use Rattle.k_threads.specs.declared.destroy.DestroyRelease.{DestroyRelease}
use Rattle.k_threads.specs.declared.destroy.DestroyRelease.TheVariants as release
use Rattle.k_threads.specs.declared.destroy.DestroyVictim.{DestroyVictim}
use Rattle.k_threads.specs.declared.destroy.DestroyVictim.TheVariants.{LoadVictim, CommitKill, LoadSender}
use Rattle.k_threads.specs.declared.destroy.DestroyVictim.TheVariants.{FreeSender, AcquireReadyForSender}
use Rattle.k_threads.specs.declared.destroy.DestroyVictim.TheVariants.{ReleaseVictimLock, ReleaseVictimLockAbsent}
use Rattle.k_threads.specs.declared.destroy.DestroyVisit.{DestroyVisit}
use Rattle.k_threads.specs.declared.destroy.DestroyVisit.TheVariants.{LoadVisited, FreeVisited}
use Rattle.k_threads.specs.declared.destroy.DestroyVisit.TheVariants.{AcquireReadyForVisited, ReleaseVisitedLock}
use Rattle.k_threads.specs.declared.destroy.DestroyPushing.TheVariants.{PushSender, PushVisited}
use Rattle.k_threads.specs.DestroyTable.{DestroyAt, Outside, Locked, Victim, Visit, UnlistVictim, Pushing, after_victim}
use Rattle.k_threads.specs.DestroyTable.{after_visited, free_first, free_number, visit_from, visit_number}
use Rattle.k_threads.specs.DestroyTable as destroy
use Rattle.k_board.specs.Words.{Programs}
use Rattle.k_board.specs.Boards.{At, InDestroy, Nowhere, Board, Context, hand_of}
use Rattle.k_board.specs.Facts.{AllSay, Says, Waiting}
use Rattle.k_board.specs.Places.{facts_destroy}
use Rattle.k_board.specs.Steps.{Answers, destroy_at, destroy_board, destroy_context, destroy_contexts, destroy_number}
use Rattle.k_board.proofs.Cases.{if_cases}
use Rattle.k_tokens.specs.World.{World, holds_any, no_locks}
use Rattle.k_tokens.specs.Good.{Holder, IsVictim, Parts}
use Rattle.k_tokens.specs.Views.{by_owner}
use Rattle.k_tokens.proofs.Views.{view_upd}
use Rattle.k_grants.specs.Views.{Look, is_ended, look_at, looks_of, made_by, sight_of, sights_of, threads_of}
use Rattle.k_grants.specs.Pushes.{IsFreed, IsOnAt, PushSays, board_threads, word_at}
use Rattle.k_grants.specs.Granted.{Agrees, Finding, IsWait}
use Rattle.k_grants.proofs.Granting.{IsMoved, IsQuiet, IsTurning, IsUnready, acquires_ready}
use Rattle.k_grants.proofs.Granting.{acquires_table, pushes, releases_table, turns_on}
use Rattle.k_grants.proofs.Looks.{acquiring, pushing, quiet, silent, turning}
use Rattle.k_grants.proofs.Says.{Turned, silently}
use Rattle.k_grants.proofs.Sights.{sighted, sights_after, sight_kept, words_after, written}
use Rattle.k_grants.proofs.Tabling.{kills, removes, unlists}
use Rattle.k_grants.proofs.Turned as kinds
use Rattle.k_grants.proofs.Turned.{own_is}
use Rattle.k_good.specs.Locks.{LocksHold}
use Rattle.k_grants.proofs.Held.{free_locks}
use Rattle.k_grants.proofs.Unlisting.{length_unlisted, lists_unlisted}
use Rattle.k_grants.proofs.Words.{on_same, present_alive, present_version, receives_alive}
use Rattle.k_grants.proofs.Words.{receives_goes, sends_alive, sends_goes, told_on, turned_on_by}
use Rattle.k_grants.proofs.Worlds.{world_of}

abbrev victim_of : DestroyCall → DestroyVictim → At
victim_of c p = InDestroy c (Victim p)

abbrev visit_of : DestroyCall → DestroyVisit → At
visit_of c p = InDestroy c (Visit p)

abbrev locked_of : DestroyCall → DestroyLocked → At
locked_of c p = InDestroy c (Locked p)

-- Where the next sender, or the next number, is looked for.
free_look : (c : DestroyCall) (o : Option ℕ) → look_at (victim_of c (free_number o)) ≡ look_at (victim_of c ReleaseVictimLock)
free_look c None = refl
free_look c (Some n) = refl

visit_look : (c : DestroyCall) (n : ℕ) → look_at (locked_of c (visit_number c n)) ≡ look_at (locked_of c (Release release.Killed))
visit_look c n =
    if_cases (λ (q : DestroyLocked). look_at (locked_of c q) ≡ look_at (locked_of c (Release release.Killed)))
    (nat_lt n c.count) _ _ (λ z. refl) (λ z. refl)

-- a look that is known, by its locks
relooked : {l m : Look} → l ≡ m → l ≡ record m { locks = l.locks }
relooked {l} {m} e = e ∙ ap (λ (x : Look). record m { locks = x.locks }) (sym e)

module _ (g : Programs) (b : Board) (w : World) (k i : ℕ) (a : Agrees b w) (holder : ThreadId → Holder)
    (parts : Parts (world_of w b) holder) (locks : LocksHold b.owner b.table b.ready b.context)
    (low : (t : ℕ) → w.threads.priority t < 64) (inside : i < b.size) (finding : Finding) (wait : IsWait finding.waits)
    (c : DestroyCall) where
  abbrev After : DestroyAt → Response → Board
  After p r = destroy_board g b i (b.context i) c p r

  abbrev Next : DestroyAt → Response → At
  Next p r = destroy_at c (destroy.leads c (hand_of b (b.queue (destroy_number c p))) p r)

  moved : (p : DestroyAt) (r : Response) → destroy_contexts c p r b.context ≡ b.context → IsMoved b (After p r) i (Next p r)
  moved p r e = record {
    size = refl;
    looks =
        ap (λ (f : ℕ → Context). λ t. look_at
        (upd f i (destroy_context (b.context i) c p r (hand_of b (b.queue (destroy_number c p)))) t).at) e
        ∙ view_upd (λ (y : Context). look_at y.at) b.context i
        (destroy_context (b.context i) c p r (hand_of b (b.queue (destroy_number c p))));
  }

  abbrev Stood : DestroyAt → Response → Type 0
  Stood p r = Turned (After p r) (world_of w b) k i finding (asks.is_again r) (Next p r)

  abbrev Answered : DestroyAt → Response → Type 0
  Answered p r = Answers b (destroy.ask_of c (b.context i).own p) r

  seen_after : (p : DestroyAt) (r : Response) → Answered p r →
      sights_of (After p r) ≡ sighted (sights_of b) (destroy.ask_of c (b.context i).own p) r
  seen_after p r an =
      sights_after g b (b.context i).position (destroy.points c (b.seen i).word (hand_of b (b.queue (destroy_number c p))) p r)
      (destroy.ask_of c (b.context i).own p) r an

  abbrev Quietly : DestroyAt → Response → Type 0
  Quietly p r = IsQuiet (InDestroy c p) (Next p r)

  module _ (p : DestroyAt) (r : Response) (at : (b.context i).at ≡ InDestroy c p) (an : Answered p r)
      (u : IsUnready b (After p r)) (t : (After p r).table ≡ b.table)
      (x : destroy_contexts c p r b.context ≡ b.context) (e :
      sighted (sights_of b) (destroy.ask_of c (b.context i).own p) r ≡ sights_of b) where
    goes : (look_at (InDestroy c p)).push ≡ None → Quietly p r → Turned (After p r) (world_of w b) k i finding false (Next p r)
    goes n h =
        kinds.goes w b k i a finding (InDestroy c p) at (After p r) (Next p r) (moved p r x) u t (seen_after p r an ∙ e) n h

    carries : Quietly p r → PushSays (After p r).seen (board_threads (After p r)) (Next p r) →
        Turned (After p r) (world_of w b) k i finding false (Next p r)
    carries h s =
        kinds.carries w b k i a finding (InDestroy c p) at (After p r) (Next p r) (moved p r x) u t (seen_after p r an ∙ e) h s

    waits : look_at (Next p r) ≡ look_at (InDestroy c p) → (look_at (InDestroy c p)).locks.ready ≡ false →
        PushSays (After p r).seen (board_threads (After p r)) (Next p r) →
        Turned (After p r) (world_of w b) k i finding true (Next p r)
    waits h n s =
        kinds.waits w b k i a finding (InDestroy c p) at (After p r) (Next p r) (moved p r x) u t
        (seen_after p r an ∙ e) wait h n s

  -- The word of one that waited for the victim.
  module _ (n : ℕ) (v : StateWord) (alive : is_dead v ≡ false) (there : is_ended v.state ≡ false) (p : DestroyAt)
      (ask : destroy.ask_of c (b.context i).own p ≡ asks.Exchange n v (freed_word v)) (an : Answered p asks.Won) where
    won : (b.seen n).word ≡ v
    won = subst (λ (x : asks.Ask). Answers b x asks.Won) ask an

    sights_freed : sights_of (After p asks.Won) ≡ upd (sights_of b) n (sight_of (freed_word v))
    sights_freed = seen_after p asks.Won an ∙ ap (λ (x : asks.Ask). sighted (sights_of b) x asks.Won) ask

    word : word_at (After p asks.Won).seen (thread_at n v) ≡ freed_word v
    word =
        ap (λ (f : ℕ → StateWord). f n) (words_after g b (b.context i).position
        (destroy.points c (b.seen i).word (hand_of b (b.queue (destroy_number c p))) p asks.Won)
        (destroy.ask_of c (b.context i).own p) asks.Won an
        ∙ ap (λ (x : asks.Ask). written (λ t. (b.seen t).word) x asks.Won) ask) ∙ upd_same (λ t. (b.seen t).word) n (freed_word v)

    freed_turned : (at : (b.context i).at ≡ InDestroy c p) → IsUnready b (After p asks.Won) → (After p asks.Won).table ≡ b.table →
        destroy_contexts c p asks.Won b.context ≡ b.context
        → (look_at (InDestroy c p)).push ≡ None
        → (v.on ≡ true → Quietly p asks.Won) → (v.on ≡ false → IsTurning (InDestroy c p) (Next p asks.Won) (thread_at n v))
        → (v.on ≡ false → IsFreed (After p asks.Won).seen n v →
        PushSays (After p asks.Won).seen (board_threads (After p asks.Won)) (Next p asks.Won)) → Stood p asks.Won
    freed_turned at u t x nobody stay turn says = go v.on refl
      where
        go : (o : Bool) → v.on ≡ o → Stood p asks.Won
        go true y = kinds.goes w b k i a finding (InDestroy c p) at (After p asks.Won) (Next p asks.Won) (moved p asks.Won x) u t
            (sights_freed ∙ sight_kept (sights_of b) n _ (on_same v (state.Run result4.Gone) y alive there refl refl
            ∙ ap sight_of (sym won))) nobody (stay y)
        go false y = record {
          granted =
              turns_on w b k i a finding (InDestroy c p) at (After p asks.Won) (Next p asks.Won) (moved p asks.Won x) u
              (thread_at n v) v (freed_word v) won sights_freed t
              (turned_on_by v (state.Run result4.Gone) alive there refl refl) refl alive y there (turn y);
          says =
              says y (subst (λ (x : StateWord). IsOnAt x (thread_at n v) v.priority) (sym word)
              (record { version = refl; running = refl; on = refl }, refl));
        }

  sender_freed : (n : ℕ) (v : StateWord) → (b.context i).at ≡ victim_of c (FreeSender n v) →
      Answered (Victim (FreeSender n v)) asks.Won → Says g b i (b.context i) (Waiting c.who n v)
      → Stood (Victim (FreeSender n v)) asks.Won
  sender_freed n v at an f =
      freed_turned n v (sends_alive c.who v.state sends) (sends_goes c.who v.state sends) p refl an at record {
        ready = refl;
        lists = lists v.on;
      } refl refl refl
      (λ o. subst (λ (d : Bool). IsQuiet (InDestroy c p) (victim_of c (cond d (free_first es) (AcquireReadyForSender n v))))
      (sym o)
      (quiet (free_look c (first_number es)) (ap (λ (x : Look). x.locks.table) (free_look c (first_number es)))
      (ap (λ (x : Look). x.locks.ready) (free_look c (first_number es))) (λ who z. absurd cc)))
      (λ o. subst (λ (d : Bool). IsTurning (InDestroy c p) (victim_of c (cond d (free_first es) (AcquireReadyForSender n v)))
      (thread_at n v)) (sym o) (turning refl refl refl))
      (λ o z. subst (λ (d : Bool). PushSays (After p asks.Won).seen (board_threads (After p asks.Won))
      (victim_of c (cond d (free_first es) (AcquireReadyForSender n v)))) (sym o) z)
    where
      p : DestroyAt
      p = Victim (FreeSender n v)

      es : List SenderEntry
      es = rest (b.queue c.who.number)

      sends : sends_to c.who v.state ≡ true
      sends = (and_parts (v.version == (sender_of f.1.entry).version) (sends_to c.who v.state) f.1.waits).1

      lists : (d : Bool) → (cond d (record
          (hand_of b (b.queue c.who.number)) { queue = without_first (hand_of b (b.queue c.who.number)).queue })
          (hand_of b (b.queue c.who.number))).lists ≡ b.lists
      lists true = refl
      lists false = refl

  visited_freed : (n : ℕ) (v : StateWord) → (b.context i).at ≡ visit_of c (FreeVisited n v) →
      Answered (Visit (FreeVisited n v)) asks.Won → is_receiving_from c.who v.state ≡ true
      → Stood (Visit (FreeVisited n v)) asks.Won
  visited_freed n v at an f =
      freed_turned n v (receives_alive c.who v.state f) (receives_goes c.who v.state f) p refl an at record {
        ready = refl;
        lists = refl;
      } refl refl refl
      (λ o. subst (λ (d : Bool). IsQuiet (InDestroy c p) (visit_of c
      (cond d (ReleaseVisitedLock n) (AcquireReadyForVisited n v)))) (sym o) (silent refl refl refl refl))
      (λ o. subst (λ (d : Bool). IsTurning (InDestroy c p) (visit_of c
      (cond d (ReleaseVisitedLock n) (AcquireReadyForVisited n v))) (thread_at n v)) (sym o) (turning refl refl refl))
      (λ o z. subst (λ (d : Bool). PushSays (After p asks.Won).seen (board_threads (After p asks.Won))
      (visit_of c (cond d (ReleaseVisitedLock n) (AcquireReadyForVisited n v)))) (sym o) z)
    where
      p : DestroyAt
      p = Visit (FreeVisited n v)

  -- the victim is killed
  killed : (v : StateWord) → (b.context i).at ≡ victim_of c (CommitKill v) → Answered (Victim (CommitKill v)) asks.Won →
      AllSay g b i (b.context i) (facts_destroy c (Victim (CommitKill v)))
      → Stood (Victim (CommitKill v)) asks.Won
  killed v at an h =
      silently (kills w b k i a finding (InDestroy c p) at (After p asks.Won) (Next p asks.Won)
      (moved p asks.Won refl) record { ready = refl; lists = refl } h.1.0 refl
      c.who v (dead_word c.who.version) an (seen_after p asks.Won an) apart (present_alive v c.who shown)
      (present_version v c.who shown) (sym (present_version v c.who shown)) refl refl refl
      record {
        about = record {
          condition = ap (λ (x : Look). x.condition) look;
          coming = ap (λ (x : Look). x.is_coming) look;
          locks = ap (λ (x : Look). x.locks) look;
          push = ap (λ (x : Look). x.push) look;
        };
        making = ap (λ (x : Look). x.making) look;
        victim = ap (λ (x : Look). x.victim) look;
        listed = ap (λ (x : Look). x.listed) look;
        table = refl;
        none = refl;
        unmade = refl;
      }) (ap (λ (x : Look). x.push) look)
    where
      p : DestroyAt
      p = Victim (CommitKill v)

      look : look_at (Next p asks.Won) ≡ look_at (victim_of c ReleaseVictimLock)
      look = free_look c (first_number (b.queue c.who.number))

      shown : is_present_in v c.who ≡ true
      shown = h.1.1.1.1.1.1.1.0

      apart : c.who.number ≢ i
      apart e =
          own_killed c.who (b.seen i).word.version e (sym (present_version v c.who shown)
          ∙ ap (λ (x : StateWord). x.version) (sym an) ∙ ap (λ (n : ℕ). (b.seen n).word.version) e) h.0
        where
          own_killed : (id : ThreadId) (n : ℕ) → id.number ≡ i → id.version ≡ n →
              same_id id (record { number = i; version = n }) ≡ false → ⊥
          own_killed id n x y z = grind (arith, nat_tests)

  -- the table lock is released at the end
  finished : (p : DestroyRelease) → (b.context i).at ≡ locked_of c (Release p) →
      AllSay g b i (b.context i) (facts_destroy c (Locked (Release p))) → (is_dead (b.seen i).word ≡ true → ⊥)
      → Stood (Locked (Release p)) asks.Released
  finished release.Killed at h alive =
      silently (releases_table w b k i a finding (locked_of c (Release release.Killed)) at
      (After (Locked (Release release.Killed)) asks.Released) (Next (Locked (Release release.Killed)) asks.Released)
      (moved (Locked (Release release.Killed)) asks.Released refl) record { ready = refl; lists = refl }
      (seen_after (Locked (Release release.Killed)) asks.Released tt) h.1.0 refl refl refl refl refl refl refl refl
      record { condition = refl; coming = refl; locks = refl; push = refl }) refl
  finished (release.Absent found) at h alive =
      silently (releases_table w b k i a finding (locked_of c (Release (release.Absent found))) at
      (After (Locked (Release (release.Absent found))) asks.Released)
      (Next (Locked (Release (release.Absent found))) asks.Released)
      (moved (Locked (Release (release.Absent found))) asks.Released refl) record { ready = refl; lists = refl }
      (seen_after (Locked (Release (release.Absent found))) asks.Released tt) h.0 refl refl refl refl refl refl refl refl
      record { condition = refl; coming = refl; locks = refl; push = refl }) refl
  finished release.Dead at h alive = absurd (alive h.1.0)

  -- the victim's context is removed
  module _ (at : (b.context i).at ≡ locked_of c RemoveContext)
      (h : AllSay g b i (b.context i) (facts_destroy c (Locked RemoveContext))) (apart : i ≢ c.who.number)
      (coming : (looks_of b c.who.number).is_coming ≡ false) (none : (looks_of b c.who.number).locks ≡ no_locks)
      (idle : (looks_of b c.who.number).push ≡ None) (free : w.held c.who.number ≡ None) where
    removed : Stood (Locked RemoveContext) asks.Removed
    removed =
        silently (removes w b k i a finding (locked_of c RemoveContext) at
        (After (Locked RemoveContext) asks.Removed) q c.who.number
        (look_at Nowhere) apart refl looks record { ready = refl; lists = refl } h.1.0 refl
        c.who refl refl refl coming none idle free
        record {
          about = record {
            condition = ap (λ (x : Look). x.condition) look;
            coming = ap (λ (x : Look). x.is_coming) look;
            locks = ap (λ (x : Look). x.locks) look;
            push = ap (λ (x : Look). x.push) look;
          };
          victim = ap (λ (x : Look). x.victim) look;
          making = ap (λ (x : Look). x.making) look;
          listed = ap (λ (x : Look). x.listed) look;
          is = refl;
          unlisted = refl;
          table = refl;
        }) (ap (λ (x : Look). x.push) look)
      where
        q : At
        q = Next (Locked RemoveContext) asks.Removed

        look : look_at q ≡ look_at (locked_of c (Release release.Killed))
        look = visit_look c (destroy.but_victim c 0)

        gone : Context
        gone = record (b.context c.who.number) { at = Nowhere }

        looks : looks_of (After (Locked RemoveContext) asks.Removed) ≡
            upd (upd (looks_of b) c.who.number (look_at Nowhere)) i (look_at q)
        looks =
            view_upd (λ (y : Context). look_at y.at) (upd b.context c.who.number gone) i
            (destroy_context (b.context i) c (Locked RemoveContext) asks.Removed (hand_of b (b.queue c.who.number)))
            ∙ ap (λ (f : ℕ → Look). upd f i (look_at q)) (view_upd (λ (y : Context). look_at y.at) b.context c.who.number gone)

  -- who owns the table lock is there
  owner_alive : b.table ≡ Some i → is_dead (b.seen i).word ≡ true → ⊥
  owner_alive mine d = false_not (ap not (sym d) ∙ (parts.threads.table_is i mine).1)
    where
      false_not : false ≡ true → ⊥
      false_not z = cc

  removed_by_me : (at : (b.context i).at ≡ locked_of c RemoveContext) → Answered (Locked RemoveContext) asks.Removed →
      AllSay g b i (b.context i) (facts_destroy c (Locked RemoveContext))
      → w.held c.who.number ≡ None → Stood (Locked RemoveContext) asks.Removed
  removed_by_me at an h free =
      removed at h apart (uncoming (looks_of b c.who.number).is_coming
      (b.seen c.who.number).word.version c.who.version victim.2 victim.3) unlocked
      (idle (looks_of b c.who.number).push refl) free
    where
      victim_is : (threads_of w.threads.priority b).victim ≡ Some c.who
      victim_is =
          ap (λ (o : Option ℕ). by_owner None (λ (l : Look). l.victim) (looks_of b) o) h.1.0
          ∙ ap (λ (x : At). (look_at x).victim) at

      victim : IsVictim (threads_of w.threads.priority b) c.who
      victim = parts.threads.victim c.who victim_is

      apart : i ≢ c.who.number
      apart e = owner_alive h.1.0 (ap (λ (n : ℕ). is_dead (b.seen n).word) e ∙ h.0.1)

      uncoming : (d : Bool) (m n : ℕ) → m ≡ n → made_by d m ≡ n → d ≡ false
      uncoming true m n e q = absurd (omega (arith, e, q))
      uncoming false m n e q = refl

      unlocked : (looks_of b c.who.number).locks ≡ no_locks
      unlocked = free_locks (b.context c.who.number).at (λ l x. an l (locks.named l c.who.number x))

      idle : (o : Option ThreadId) → (looks_of b c.who.number).push ≡ o → o ≡ None
      idle None e = refl
      idle (Some who) e = absurd (false_not (sym (ap holds_any unlocked) ∙ parts.threads.pushing c.who.number who e))
        where
          false_not : false ≡ true → ⊥
          false_not z = cc

  unlisted_by_me : (at : (b.context i).at ≡ InDestroy c UnlistVictim) →
      AllSay g b i (b.context i) (facts_destroy c UnlistVictim) → Stood UnlistVictim asks.Released
  unlisted_by_me at h =
      silently (unlists w b k i a finding (InDestroy c UnlistVictim) at (After UnlistVictim asks.Released)
      (Next UnlistVictim asks.Released) (moved UnlistVictim asks.Released refl) c.who h.1.0
      (seen_after UnlistVictim asks.Released tt) refl refl
      (lists_unlisted (world_of w b) holder parts c.who (ap
      (λ (o : Option ℕ). by_owner None (λ (l : Look). l.victim) (looks_of b) o) h.1.0
      ∙ ap (λ (x : At). (look_at x).victim) at) b.lists refl)
      (length_unlisted c.who b.lists) refl
      record {
        about = record { condition = refl; coming = refl; locks = refl; push = refl };
        victim = refl;
        making = refl;
        listed = refl;
        is = refl;
        table = refl;
        ready = refl;
        keeps = refl;
        free = refl;
      }) refl

  pub destroy_turned : (p : DestroyAt) (r : Response) → (b.context i).at ≡ InDestroy c p → Answered p r →
      AllSay g b i (b.context i) (facts_destroy c p)
      → PushSays b.seen (board_threads b) (InDestroy c p) →
      (p ≡ Locked RemoveContext → r ≡ asks.Removed → w.held c.who.number ≡ None) → Stood p r
  destroy_turned (Outside LoadOwn) (asks.Word v) at an h s free =
      kinds.by_life w b k i a finding (InDestroy c (Outside LoadOwn)) at (After (Outside LoadOwn) (asks.Word v))
      (Next (Outside LoadOwn) (asks.Word v)) (moved (Outside LoadOwn) (asks.Word v) refl)
      record { ready = refl; lists = refl } refl (seen_after (Outside LoadOwn) (asks.Word v) an) c.caller v reply.Own refl
      (own_is b i c.caller.number v h.1.0.0 an) refl
  destroy_turned (Outside AcquireTable) asks.Got at an h s free =
      silently (acquires_table w b k i a finding (InDestroy c (Outside AcquireTable)) at (After (Outside AcquireTable) asks.Got)
      (Next (Outside AcquireTable) asks.Got) (moved (Outside AcquireTable) asks.Got refl)
      record { ready = refl; lists = refl }
      (seen_after (Outside AcquireTable) asks.Got an) an refl refl refl refl record {
        condition = refl;
        coming = refl;
        locks = refl;
        push = refl;
      }) refl
  destroy_turned (Outside AcquireTable) (asks.Owned o) at an h s free =
      waits (Outside AcquireTable) (asks.Owned o) at an record { ready = refl; lists = refl } refl refl refl refl refl tt
  destroy_turned (Locked LoadCaller) (asks.Word v) at an h s free =
      goes (Locked LoadCaller) (asks.Word v) at an record { ready = refl; lists = refl } refl refl refl refl
      (if_cases (λ (q : DestroyLocked). IsQuiet (locked_of c LoadCaller) (locked_of c q)) (is_dead v) _ _
      (λ z. silent refl refl refl refl) (λ z. silent refl refl refl refl))
  destroy_turned (Locked AcquireVictimLock) asks.Got at an h s free =
      goes (Locked AcquireVictimLock) asks.Got at an record { ready = refl; lists = refl } refl refl refl refl
      (silent refl refl refl refl)
  destroy_turned (Locked AcquireVictimLock) (asks.Owned o) at an h s free =
      waits (Locked AcquireVictimLock) (asks.Owned o) at an record { ready = refl; lists = refl } refl refl refl refl refl tt
  destroy_turned (Victim LoadVictim) (asks.Word v) at an h s free =
      goes (Victim LoadVictim) (asks.Word v) at an record { ready = refl; lists = refl } refl refl refl refl
      (if_cases (λ (q : DestroyVictim). IsQuiet (victim_of c LoadVictim) (victim_of c q)) (is_present_in v c.who) _ _
      (λ z. silent refl refl refl refl) (λ z. silent refl refl refl refl))
  destroy_turned (Victim (CommitKill v)) asks.Won at an h s free = killed v at an h
  destroy_turned (Victim (CommitKill v)) (asks.Lost x) at an h s free =
      goes (Victim (CommitKill v)) (asks.Lost x) at an record { ready = refl; lists = refl } refl refl refl refl
      (silent refl refl refl refl)
  destroy_turned (Victim (LoadSender n)) (asks.Word v) at an h s free =
      goes (Victim (LoadSender n)) (asks.Word v) at an record { ready = refl; lists = refl } refl refl refl refl
      (silent refl refl refl refl)
  destroy_turned (Victim (FreeSender n v)) asks.Won at an h s free = sender_freed n v at an h.1.1.1.1.1.1.1.1.1.1.0
  destroy_turned (Victim (FreeSender n v)) (asks.Lost x) at an h s free =
      goes (Victim (FreeSender n v)) (asks.Lost x) at an record { ready = refl; lists = refl } refl refl refl refl
      (silent refl refl refl refl)
  destroy_turned (Victim (AcquireReadyForSender n v)) asks.Got at an h s free = record {
    granted =
        acquires_ready w b k i a finding (victim_of c (AcquireReadyForSender n v)) at
        (After (Victim (AcquireReadyForSender n v)) asks.Got) (Next (Victim (AcquireReadyForSender n v)) asks.Got)
        (moved (Victim (AcquireReadyForSender n v)) asks.Got refl)
        (seen_after (Victim (AcquireReadyForSender n v)) asks.Got an) refl an refl refl inside (acquiring refl refl);
    says = s;
  }
  destroy_turned (Victim (AcquireReadyForSender n v)) (asks.Owned o) at an h s free =
      waits (Victim (AcquireReadyForSender n v)) (asks.Owned o) at an record {
        ready = refl;
        lists = refl;
      } refl refl refl refl refl s
  destroy_turned (Pushing (PushSender n v)) asks.Released at an h s free =
      silently (pushes w b k i a finding (InDestroy c (Pushing (PushSender n v))) at
      (After (Pushing (PushSender n v)) asks.Released) (Next (Pushing (PushSender n v)) asks.Released)
      (moved (Pushing (PushSender n v)) asks.Released refl)
      (thread_at n v) (Some v.priority) (seen_after (Pushing (PushSender n v)) asks.Released an) refl refl refl
      (told_on w.threads.priority b (thread_at n v) v.priority low a.priorities s)
      (pushing (relooked (free_look c (first_number (rest (b.queue c.who.number)))))
      refl refl (ap (λ (x : Look). x.locks.table) (free_look c (first_number (rest (b.queue c.who.number)))))
      (ap (λ (x : Look). x.locks.ready) (free_look c (first_number (rest (b.queue c.who.number)))))))
      (ap (λ (x : Look). x.push) (free_look c (first_number (rest (b.queue c.who.number)))))
  destroy_turned (Victim ReleaseVictimLock) asks.Released at an h s free =
      goes (Victim ReleaseVictimLock) asks.Released at an record { ready = refl; lists = refl } refl refl refl refl
      (silent refl refl refl refl)
  destroy_turned (Locked AcquireReadyForVictim) asks.Got at an h s free =
      silently (acquires_ready w b k i a finding (locked_of c AcquireReadyForVictim) at
      (After (Locked AcquireReadyForVictim) asks.Got) (Next (Locked AcquireReadyForVictim) asks.Got)
      (moved (Locked AcquireReadyForVictim) asks.Got refl) (seen_after
      (Locked AcquireReadyForVictim) asks.Got an) refl an refl refl inside (acquiring refl refl)) refl
  destroy_turned (Locked AcquireReadyForVictim) (asks.Owned o) at an h s free =
      waits (Locked AcquireReadyForVictim) (asks.Owned o) at an record { ready = refl; lists = refl } refl refl refl refl refl tt
  destroy_turned UnlistVictim asks.Released at an h s free = unlisted_by_me at h
  destroy_turned (Locked RemoveContext) asks.Removed at an h s free = removed_by_me at an h (free refl refl)
  destroy_turned (Locked RemoveContext) asks.Kept at an h s free =
      waits (Locked RemoveContext) asks.Kept at an record { ready = refl; lists = refl } refl refl refl refl refl tt
  destroy_turned (Locked (AcquireVisitedLock n)) asks.Got at an h s free =
      goes (Locked (AcquireVisitedLock n)) asks.Got at an record { ready = refl; lists = refl } refl refl refl refl
      (silent refl refl refl refl)
  destroy_turned (Locked (AcquireVisitedLock n)) (asks.Owned o) at an h s free =
      waits (Locked (AcquireVisitedLock n)) (asks.Owned o) at an record { ready = refl; lists = refl } refl refl refl refl refl tt
  destroy_turned (Visit (LoadVisited n)) (asks.Word v) at an h s free =
      goes (Visit (LoadVisited n)) (asks.Word v) at an record { ready = refl; lists = refl } refl refl refl refl
      (if_cases (λ (q : DestroyVisit). IsQuiet (visit_of c (LoadVisited n)) (visit_of c q)) (is_receiving_from c.who v.state) _ _
      (λ z. silent refl refl refl refl) (λ z. silent refl refl refl refl))
  destroy_turned (Visit (FreeVisited n v)) asks.Won at an h s free = visited_freed n v at an h.1.1.1.1.1.1.1.1.1.1.0.1
  destroy_turned (Visit (FreeVisited n v)) (asks.Lost x) at an h s free =
      goes (Visit (FreeVisited n v)) (asks.Lost x) at an record { ready = refl; lists = refl } refl refl refl refl
      (silent refl refl refl refl)
  destroy_turned (Visit (AcquireReadyForVisited n v)) asks.Got at an h s free = record {
    granted =
        acquires_ready w b k i a finding (visit_of c (AcquireReadyForVisited n v)) at
        (After (Visit (AcquireReadyForVisited n v)) asks.Got) (Next (Visit (AcquireReadyForVisited n v)) asks.Got)
        (moved (Visit (AcquireReadyForVisited n v)) asks.Got refl)
        (seen_after (Visit (AcquireReadyForVisited n v)) asks.Got an) refl an refl refl inside (acquiring refl refl);
    says = s;
  }
  destroy_turned (Visit (AcquireReadyForVisited n v)) (asks.Owned o) at an h s free =
      waits (Visit (AcquireReadyForVisited n v)) (asks.Owned o) at an record {
        ready = refl;
        lists = refl;
      } refl refl refl refl refl s
  destroy_turned (Pushing (PushVisited n v)) asks.Released at an h s free =
      silently (pushes w b k i a finding (InDestroy c (Pushing (PushVisited n v))) at
      (After (Pushing (PushVisited n v)) asks.Released) (Next (Pushing (PushVisited n v)) asks.Released)
      (moved (Pushing (PushVisited n v)) asks.Released refl)
      (thread_at n v) (Some v.priority) (seen_after (Pushing (PushVisited n v)) asks.Released an) refl refl refl
      (told_on w.threads.priority b (thread_at n v) v.priority low a.priorities s)
      (pushing refl refl refl refl refl)) refl
  destroy_turned (Visit (ReleaseVisitedLock n)) asks.Released at an h s free =
      goes (Visit (ReleaseVisitedLock n)) asks.Released at an record { ready = refl; lists = refl } refl refl refl refl
      (quiet (relooked (visit_look c (destroy.but_victim c (n + 1))))
      (ap (λ (x : Look). x.locks.table) (visit_look c (destroy.but_victim c (n + 1))))
      (ap (λ (x : Look). x.locks.ready) (visit_look c (destroy.but_victim c (n + 1)))) (λ who z. absurd cc))
  destroy_turned (Victim (ReleaseVictimLockAbsent found)) asks.Released at an h s free =
      goes (Victim (ReleaseVictimLockAbsent found)) asks.Released at an record { ready = refl; lists = refl } refl refl refl refl
      (silent refl refl refl refl)
  destroy_turned (Locked (Release q)) asks.Released at an h s free = finished q at h (owner_alive (mine q h))
    where
      mine : (q : DestroyRelease) → AllSay g b i (b.context i) (facts_destroy c (Locked (Release q))) → b.table ≡ Some i
      mine release.Killed h = h.1.0
      mine (release.Absent found) h = h.0
      mine release.Dead h = h.0
  destroy_turned (Outside (Ended v)) r at an h s free = absurd h.0
  destroy_turned p r at an h s free = absurd an
