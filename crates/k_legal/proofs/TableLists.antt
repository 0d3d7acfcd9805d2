-- Who waits to send, over the turns of a create, of a destroy, of a thread outside of any section, and of a switch.
use Rattle.std.proofs.Common.{◌≡◌, ◌≢◌, ℕ, ◌+◌, ◌-◌, ◌≤◌, Bool, true, false, cond, ◌&&◌, eqb, refl, sym}
use Rattle.std.proofs.Common.{ap, ◌∙◌, subst, List, [], ◌++◌, map, Option, Some, None, arith, inl, inr}
use Rattle.std.specs.List.{filter}
use Rattle.std.proofs.lemmas.Bool.{cases_eq, ne_eqb}
use Rattle.std.proofs.lemmas.Bool.Decides.{eqb_tells}
use Rattle.k_ids.specs.declared.calls.Outcome.TheVariants as outcome
use Rattle.k_ids.specs.declared.calls.Phase.{Phase}
use Rattle.k_ids.specs.declared.calls.Phase.TheVariants as phase
use Rattle.k_ids.specs.declared.state_word.State.{State}
use Rattle.k_ids.specs.declared.state_word.State.TheVariants as state
use Rattle.k_ids.specs.declared.state_word.StateWord.{StateWord}
use Rattle.k_ids.specs.declared.threads.ThreadId.{ThreadId}
use Rattle.k_model.specs.Maps.{upd}
use Rattle.k_model.specs.Sound.{IsListed}
use Rattle.k_model.specs.State.{KernelState, Waiting, same_id}
use Rattle.k_model.proofs.Maps.{upd_other, upd_same}
use Rattle.k_senders.specs.declared.entries.SenderEntry.{SenderEntry}
use Rattle.k_senders.specs.Entries.{number_of, sender_of}
use Rattle.k_locks.specs.declared.points.Point.{Point}
use Rattle.k_locks.specs.declared.steps.Went.{Went}
use Rattle.k_locks.specs.declared.steps.Went.TheVariants as went
use Rattle.k_locks.specs.Asks.{Ask, Response}
use Rattle.k_locks.specs.Asks as asks
use Rattle.k_locks.specs.Numbers.{lowest_free, version_at}
use Rattle.k_locks.specs.Shown.{is_dead}
use Rattle.k_script.specs.Plays.{Position}
use Rattle.k_ipc.specs.Words.{sends_to}
use Rattle.k_threads.specs.declared.create.CreateCall.{CreateCall}
use Rattle.k_threads.specs.declared.create.CreateOutside.TheVariants as create_outside
use Rattle.k_threads.specs.declared.create.CreateLocked.TheVariants as create_locked
use Rattle.k_threads.specs.CreateTable.{CreateAt, full_point}
use Rattle.k_threads.specs.CreateTable as create
use Rattle.k_threads.specs.Words.{created_word, dead_word}
use Rattle.k_caller.specs.declared.thread.ThreadLocation.{ThreadLocation}
use Rattle.k_caller.specs.declared.thread.ThreadLocation.TheVariants as location
use Rattle.k_caller.specs.Waits.{can_ask, ended_word, off_word}
use Rattle.k_caller.specs.Waits as alone
use Rattle.k_switch.specs.declared.switch.SwitchCall.{SwitchCall}
use Rattle.k_switch.specs.declared.switch.SwitchLocked.TheVariants as switch_locked
use Rattle.k_switch.specs.Switches.{SwitchAt}
use Rattle.k_switch.specs.Switches as switch
use Rattle.k_board.specs.Words.{Programs, Seen, noted}
use Rattle.k_board.specs.Boards.{Alone, At, Board, Context, InCreate, InSwitch, hand_of, id_at}
use Rattle.k_board.specs.Facts.{AllSay, IsRun, waits_for}
use Rattle.k_board.specs.Turns.{excepted_by}
use Rattle.k_good.proofs.Words.{noted_word}
use Rattle.k_shown.specs.Memory.{waiting_of}
use Rattle.k_board.specs.Places.{facts_alone, facts_create}
use Rattle.k_board.specs.Steps.{Answers, after, alone_board, alone_context, begun_at, create_at}
use Rattle.k_board.specs.Steps.{create_board, create_context, placed, switch_board, switch_context, wrote}
use Rattle.k_points.specs.Shown.{Line, Tells, shown, status_by}
use Rattle.k_legal.specs.Waiting.{coming_at, coming_by, waiters}
use Rattle.k_legal.proofs.Entries.{SameComing, alike_is, both_come, calm_alike, comes_still}
use Rattle.k_legal.proofs.Entries.{dead_waiters, entries, is_calm, living_waiters, moved_comes, none_left}
use Rattle.k_legal.proofs.Entries.{owned_comes, plain_waiters, plain_words, waits, IsPlain}
use Rattle.k_points.proofs.Exceptions.{Owns}
use Rattle.k_legal.proofs.ListRows.{lists_by}
use Rattle.k_points.proofs.Status.{closed_status}

-- NO ENTRY COMES FROM THERE

pub after_comes : (me : ThreadId) (w : Went) (n : ℕ) → coming_at (after me w) n ≡ []
after_comes me (went.Ends r) n = refl
after_comes me went.Waits n = refl
after_comes me went.Picks n = refl
after_comes me went.CallerDead n = refl
after_comes me went.On n = refl
after_comes me went.Again n = refl
after_comes me (went.Pushed priority) n = refl

create_comes : (c : CreateCall) (p : CreateAt) (n : ℕ) → coming_at (create_at c p) n ≡ []
create_comes c (create.Outside (create_outside.Ended w)) n = after_comes c.caller w n
create_comes c p n = refl

pub begun_comes : (size : ℕ) (me : ThreadId) (f : Phase) (n : ℕ) → coming_at (begun_at size me f) n ≡ []
begun_comes size me (phase.Send to message soon joined) n = refl
begun_comes size me (phase.Reply to message soon) n = refl
begun_comes size me (phase.Receive from soon) n = refl
begun_comes size me (phase.Create program priority) n = refl
begun_comes size me (phase.Destroy who) n = refl
begun_comes size me phase.End n = refl

-- WORDS

pub and_false : (d : Bool) → (d && false) ≡ false
and_false true = refl
and_false false = refl

-- who doesn't wait for the thread has no entry that counts
pub idle_waits : (b : Board) (n : ℕ) (e : SenderEntry) → sends_to (id_at b n) (b.seen (number_of e)).word.state ≡ false →
    waits b n e ≡ false
idle_waits b n e h = ap (λ (d : Bool). eqb (b.seen (number_of e)).word.version (sender_of e).version && d) h ∙ and_false _

not_sent : (r : ThreadId) (s : State) → ((to : ThreadId) (joined : Bool) → s ≡ state.Sending to joined → same_id to r ≡ false) →
    sends_to r s ≡ false
not_sent r (state.Sending to joined) h = h to joined refl
not_sent r state.Dead h = refl
not_sent r (state.Run result) h = refl
not_sent r (state.Receiving from) h = refl
not_sent r state.Picking h = refl
not_sent r state.Ended h = refl

pub dead_sends : (w : StateWord) (to : ThreadId) → is_dead w ≡ true → sends_to to w.state ≡ false
dead_sends w to d = grind arith

-- the number of an exchange that is won, and the others
pub won_same : (g : Programs) (s : ℕ → Seen) (at : Position) (p : Option Point) (n : ℕ) (old new : StateWord) →
    (wrote (noted g s at p) (asks.Exchange n old new) asks.Won n).word ≡ new
won_same g s at p n old new = ap (λ (v : Seen). v.word) (upd_same (noted g s at p) n _)

pub won_other : (g : Programs) (s : ℕ → Seen) (at : Position) (p : Option Point) (n : ℕ) (old new : StateWord) (t : ℕ) → t ≢ n →
    (wrote (noted g s at p) (asks.Exchange n old new) asks.Won t).word ≡ (s t).word
won_other g s at p n old new t ne = ap (λ (v : Seen). v.word) (upd_other (noted g s at p) n _ t ne) ∙ noted_word g s at p t

-- The number's thread is the same, there or not, and the same entries of it wait.
pub by_entries : (b b' : Board) (n : ℕ) → is_dead (b'.seen n).word ≡ is_dead (b.seen n).word →
    (is_dead (b.seen n).word ≡ false → filter (waits b' n) (entries b' n) ≡ filter (waits b n) (entries b n)) →
    waiters b' n ≡ waiters b n
by_entries b b' n dead h = go (is_dead (b.seen n).word) refl
  where
    go : (d : Bool) → is_dead (b.seen n).word ≡ d → waiters b' n ≡ waiters b n
    go true d = dead_waiters b' n (dead ∙ d) ∙ sym (dead_waiters b n d)
    go false d = living_waiters b' n (dead ∙ d) ∙ ap (map waiting_of) (h d) ∙ sym (living_waiters b n d)

-- two tests of two lists
pub both_left : (p q : SenderEntry → Bool) (es fs : List SenderEntry) → ((e : SenderEntry) → q e ≡ p e) → fs ≡ es →
    filter q fs ≡ filter p es
both_left p q es fs h e = λ d. filter (λ f. h f d) (e d)

-- WHO WAITS, WAITS FOR A THREAD THAT THE NUMBER HAS OR HAD

abbrev pub Known : Board → Type 0
Known b =
    (t : ℕ) (to : ThreadId) (joined : Bool) → (b.seen t).word.state ≡ state.Sending to joined →
    to.version ≤ (b.seen to.number).word.version

pub known_by : (b : Board) (k : KernelState) → Tells k (shown b) → IsListed k → Known b
known_by b k sh l t to joined e =
    subst (λ (v : ℕ). to.version ≤ v) (ap (λ (u : Line). u.version) (sh to.number))
    (l.known t to (ap (λ (u : Line). u.status) (sh t) ∙ ap (status_by (excepted_by (b.owner t) b.context t)) e
    ∙ closed_status (excepted_by (b.owner t) b.context t) (state.Sending to joined) refl))

-- A CREATE

module _ (g : Programs) (b : Board) (c : CreateCall) where
  abbrev i : ℕ
  i = c.caller.number

  abbrev x : Context
  x = b.context c.caller.number

  abbrev New : CreateAt → Response → Board
  New p r = create_board g b c.caller.number (b.context c.caller.number) c p r

  abbrev Here : CreateAt → Type 0
  Here p = (b.context c.caller.number).at ≡ InCreate c p

  abbrev Sound : CreateAt → Type 0
  Sound p = AllSay g b c.caller.number (b.context c.caller.number) (facts_create c p)

  abbrev Point_of : CreateAt → Response → Option Point
  Point_of p r = create.points c (b.seen c.caller.number).word (hand_of b []) p r

  silent : (p : CreateAt) → Here p → (n : ℕ) → coming_at (b.context c.caller.number).at n ≡ []
  silent p at n = ap (λ (a : At). coming_at a n) at

  moves : (p : CreateAt) (r : Response) → Here p → SameComing b.context (upd b.context i (create_context x c p r (hand_of b [])))
  moves p r at =
      moved_comes b.context i (create_context x c p r (hand_of b []))
      (λ n. create_comes c (create.leads c (hand_of b []) p r) n ∙ sym (silent p at n))

  comes : (p : CreateAt) (r : Response) → Here p → Sound p → (n : ℕ) →
      coming_by ((New p r).owner n) (New p r).context n ≡ coming_by (b.owner n) b.context n
  comes (create.Locked (create_locked.PlaceContext id)) asks.Placed at h =
      owned_comes b.context _ (both_come b.context id.number i _ _ (λ n. sym (ap (λ (a : At). coming_at a n) h.1.1.1.1.1.1.1.0.1))
      (λ n. sym (silent _ at n))) i (silent _ at) b.owner
      (create.ask_of c x.own (create.Locked (create_locked.PlaceContext id))) asks.Placed tt
  comes (create.Locked (create_locked.CommitCreate id)) asks.Won at h =
      owned_comes b.context _ (both_come b.context id.number i _ _
      (λ n. sym (ap (λ (y : Context). coming_at y.at n) h.1.1.1.1.1.1.1.0.1)) (λ n. sym (silent _ at n))) i
      (silent _ at) b.owner (create.ask_of c x.own (create.Locked (create_locked.CommitCreate id))) asks.Won tt
  comes (create.Outside create_outside.AcquireTable) r at h =
      owned_comes b.context _ (moves _ r at) i (silent _ at) b.owner
      (create.ask_of c x.own (create.Outside create_outside.AcquireTable)) r tt
  comes (create.Outside (create_outside.Ended w)) r at h = absurd h.0
  comes (create.Locked create_locked.LoadCaller) r at h =
      owned_comes b.context _ (moves _ r at) i (silent _ at) b.owner
      (create.ask_of c x.own (create.Locked create_locked.LoadCaller)) r tt
  comes (create.Locked (create_locked.PlaceContext id)) r at h =
      owned_comes b.context _ (moves _ r at) i (silent _ at) b.owner
      (create.ask_of c x.own (create.Locked (create_locked.PlaceContext id))) r tt
  comes (create.Locked (create_locked.CommitCreate id)) r at h =
      owned_comes b.context _ (moves _ r at) i (silent _ at) b.owner
      (create.ask_of c x.own (create.Locked (create_locked.CommitCreate id))) r tt
  comes (create.Locked (create_locked.AcquireReady id)) r at h =
      owned_comes b.context _ (moves _ r at) i (silent _ at) b.owner
      (create.ask_of c x.own (create.Locked (create_locked.AcquireReady id))) r tt
  comes (create.PushCreated id) r at h =
      owned_comes b.context _ (moves _ r at) i (silent _ at) b.owner (create.ask_of c x.own (create.PushCreated id)) r tt
  comes (create.Locked (create_locked.Release q)) r at h =
      owned_comes b.context _ (moves _ r at) i (silent _ at) b.owner
      (create.ask_of c x.own (create.Locked (create_locked.Release q))) r tt

  same_entries : (p : CreateAt) (r : Response) → Here p → Sound p → (n : ℕ) → entries (New p r) n ≡ entries b n
  same_entries p r at h n = ap (λ (es : List SenderEntry). b.queue n ++ es) (comes p r at h n)

  plain : (p : CreateAt) (r : Response) → Here p → Answers b (create.ask_of c x.own p) r → Sound p →
      IsPlain (create.ask_of c x.own p) r → (n : ℕ) → waiters b n ≡ waiters (New p r) n
  plain p r at ans h q n =
      sym (plain_waiters b (New p r) (plain_words g b x.position (Point_of p r) (create.ask_of c x.own p) r ans q)
      (same_entries p r at h) n)

  load_point : (dead : Bool) (o : Option ℕ) (f : ℕ → List Waiting) (n : ℕ) →
      lists_by (cond dead None (full_point c b.numbers o)) f n ≡ f n
  load_point true o f n = refl
  load_point false None f n = refl
  load_point false (Some m) f n = refl

  made : Known b → (id : ThreadId) → Here (create.Locked (create_locked.CommitCreate id)) →
      Sound (create.Locked (create_locked.CommitCreate id)) → (n : ℕ) →
      waiters b n ≡ waiters (New (create.Locked (create_locked.CommitCreate id)) asks.Won) n
  made known id at h n =
      elim (eqb_tells n id.number) [
        | inl q ↦ subst (λ (m : ℕ). waiters b m ≡
            waiters (New (create.Locked (create_locked.CommitCreate id)) asks.Won) m) (sym q.1)
            (dead_waiters b id.number was ∙ sym now_none)
        | inr q ↦ sym (others n q.1)
      ]
    where
      is_word : (b.seen id.number).word ≡ dead_word (id.version - 1)
      is_word = h.1.1.1.1.1.1.0.1

      was : is_dead (b.seen id.number).word ≡ true
      was = ap is_dead is_word

      new_word : ((New (create.Locked (create_locked.CommitCreate id)) asks.Won).seen id.number).word ≡
          created_word id.version c.priority
      new_word =
          won_same g b.seen x.position (Some (create.point_of c (outcome.Made id))) id.number (dead_word (id.version - 1))
          (created_word id.version c.priority)

      old_word : (t : ℕ) → t ≢ id.number →
          ((New (create.Locked (create_locked.CommitCreate id)) asks.Won).seen t).word ≡ (b.seen t).word
      old_word t ne =
          won_other g b.seen x.position (Some (create.point_of c (outcome.Made id))) id.number (dead_word (id.version - 1))
          (created_word id.version c.priority) t ne

      later : (b.seen id.number).word.version + 1 ≡ id.version
      later = next (version_at b.numbers id.number) h.1.1.1.1.1.0.2 (ap (λ (u : StateWord). u.version) is_word)
        where
          next : (m : ℕ) → id.version ≡ m + 1 → (b.seen id.number).word.version ≡ id.version - 1 →
              (b.seen id.number).word.version + 1 ≡ id.version
          next m e q = omega (arith, e, q)

      -- nobody waits for a thread that isn't made yet
      unknown : (t : ℕ) (r : ThreadId) → r.number ≡ id.number → r.version ≡ id.version → sends_to r (b.seen t).word.state ≡ false
      unknown t r en ev = not_sent r (b.seen t).word.state (λ to joined e. apart to (known t to joined e))
        where
          apart : (to : ThreadId) → to.version ≤ (b.seen to.number).word.version → same_id to r ≡ false
          apart to k =
              elim (cases_eq to.number r.number) [
                | inl q ↦ by q
                    (subst (λ (m : ℕ). to.version ≤ (b.seen m).word.version) (q ∙ en) k)
                | inr q ↦ rw (ne_eqb to.number r.number q) refl
              ]
            where
              by : to.number ≡ r.number → to.version ≤ (b.seen id.number).word.version → same_id to r ≡ false
              by q l =
                  ap (λ (d : Bool). eqb to.number r.number && d) (ne_eqb to.version r.version
                  (λ e. omega (arith, l, e, ev, later)))
                  ∙ and_false _

      new_sends : (t : ℕ) →
          sends_to (id_at (New (create.Locked (create_locked.CommitCreate id)) asks.Won) id.number)
          ((New (create.Locked (create_locked.CommitCreate id)) asks.Won).seen t).word.state ≡ false
      new_sends t = elim (eqb_tells t id.number) [
        | inl q ↦
            ap (λ (m : ℕ). sends_to (id_at (New (create.Locked (create_locked.CommitCreate id)) asks.Won) id.number)
            ((New (create.Locked (create_locked.CommitCreate id)) asks.Won).seen m).word.state) q.1
            ∙ ap (λ (u : StateWord). sends_to
            (id_at (New (create.Locked (create_locked.CommitCreate id)) asks.Won) id.number) u.state) new_word
        | inr q ↦
            ap (λ (u : StateWord). sends_to
            (id_at (New (create.Locked (create_locked.CommitCreate id)) asks.Won) id.number) u.state) (old_word t q.1)
            ∙ unknown t (id_at (New (create.Locked (create_locked.CommitCreate id)) asks.Won) id.number) refl
            (ap (λ (u : StateWord). u.version) new_word)
      ]

      now_none : waiters (New (create.Locked (create_locked.CommitCreate id)) asks.Won) id.number ≡ []
      now_none =
          living_waiters (New (create.Locked (create_locked.CommitCreate id)) asks.Won) id.number (ap is_dead new_word)
          ∙ ap (map waiting_of) (none_left (waits (New (create.Locked (create_locked.CommitCreate id)) asks.Won) id.number)
          (λ e. idle_waits (New (create.Locked (create_locked.CommitCreate id)) asks.Won) id.number e
          (new_sends (number_of e))) (entries (New (create.Locked (create_locked.CommitCreate id)) asks.Won) id.number))

      others : (n : ℕ) → n ≢ id.number → waiters (New (create.Locked (create_locked.CommitCreate id)) asks.Won) n ≡ waiters b n
      others n ne = by_entries b (New (create.Locked (create_locked.CommitCreate id)) asks.Won) n (ap is_dead (old_word n ne))
          (λ _. both_left (waits b n) (waits (New (create.Locked (create_locked.CommitCreate id)) asks.Won) n) (entries b n)
          (entries (New (create.Locked (create_locked.CommitCreate id)) asks.Won) n) same
          (same_entries (create.Locked (create_locked.CommitCreate id)) asks.Won at h n))
        where
          same : (e : SenderEntry) → waits (New (create.Locked (create_locked.CommitCreate id)) asks.Won) n e ≡ waits b n e
          same e = elim (eqb_tells (number_of e) id.number) [
            | inl q ↦
                idle_waits (New (create.Locked (create_locked.CommitCreate id)) asks.Won) n e
                (ap (λ (m : ℕ). sends_to (id_at (New (create.Locked (create_locked.CommitCreate id)) asks.Won) n)
                ((New (create.Locked (create_locked.CommitCreate id)) asks.Won).seen m).word.state) q.1
                ∙ ap (λ (u : StateWord). sends_to
                (id_at (New (create.Locked (create_locked.CommitCreate id)) asks.Won) n) u.state) new_word)
                ∙ sym (idle_waits b n e (dead_sends (b.seen (number_of e)).word (id_at b n)
                (ap (λ (m : ℕ). is_dead (b.seen m).word) q.1 ∙ was)))
            | inr q ↦
                (λ d. waits_for (record { number = n; version = ap (λ (u : StateWord). u.version) (old_word n ne) d }) e
                (old_word (number_of e) q.1 d))
          ]

  pub create_waits : Known b → (p : CreateAt) (r : Response) → Here p → Answers b (create.ask_of c x.own p) r → Sound p →
      (n : ℕ) → lists_by (Point_of p r) (waiters b) n ≡ waiters (New p r) n
  create_waits known (create.Outside create_outside.AcquireTable) asks.Got at ans h n = plain _ asks.Got at ans h tt n
  create_waits known (create.Outside create_outside.AcquireTable) (asks.Owned o) at ans h n = plain _ (asks.Owned o) at ans h tt n
  create_waits known (create.Locked create_locked.LoadCaller) (asks.Word w) at ans h n =
      load_point (is_dead w) (lowest_free b.numbers) (waiters b) n
      ∙ plain (create.Locked create_locked.LoadCaller) (asks.Word w) at ans h tt n
  create_waits known (create.Locked (create_locked.PlaceContext id)) asks.Placed at ans h n =
      plain (create.Locked (create_locked.PlaceContext id)) asks.Placed at ans h tt n
  create_waits known (create.Locked (create_locked.CommitCreate id)) asks.Won at ans h n = made known id at h n
  create_waits known (create.Locked (create_locked.CommitCreate id)) (asks.Lost v) at ans h n =
      absurd (ans.1 (sym ans.0 ∙ h.1.1.1.1.1.1.0.1))
  create_waits known (create.Locked (create_locked.AcquireReady id)) asks.Got at ans h n =
      plain (create.Locked (create_locked.AcquireReady id)) asks.Got at ans h tt n
  create_waits known (create.Locked (create_locked.AcquireReady id)) (asks.Owned o) at ans h n =
      plain (create.Locked (create_locked.AcquireReady id)) (asks.Owned o) at ans h tt n
  create_waits known (create.PushCreated id) asks.Released at ans h n = plain (create.PushCreated id) asks.Released at ans h tt n
  create_waits known (create.Locked (create_locked.Release q)) asks.Released at ans h n =
      plain (create.Locked (create_locked.Release q)) asks.Released at ans h tt n
  create_waits known (create.Outside (create_outside.Ended w)) r at ans h n = absurd h.0
  create_waits known p r at ans h n = absurd ans

-- A THREAD OUTSIDE OF ANY SECTION, AND A SWITCH

module _ (g : Programs) (b : Board) (i : ℕ) where
  -- a context from which no entry comes moves to where none comes from
  pub placed_waits : (x : Context) → ((n : ℕ) → coming_at x.at n ≡ []) → ((n : ℕ) → coming_at (b.context i).at n ≡ []) → (n : ℕ) →
      waiters b n ≡ waiters (placed b i x) n
  placed_waits x e none n =
      sym (plain_waiters b (placed b i x) (λ t. alike_is (b.seen t).word (b.seen t).word refl)
      (λ m. ap (λ (es : List SenderEntry). b.queue m ++ es)
      (comes_still b.context (upd b.context i x) (moved_comes b.context i x (λ t. e t ∙ sym (none t))) (b.owner m) m)) n)

  abbrev Alone_now : ThreadLocation → Response → Board
  Alone_now p r = alone_board g b i (b.context i) p r

  plain_alone : (p : ThreadLocation) (r : Response) → (b.context i).at ≡ Alone p →
      Answers b (alone.ask_of (id_at b i) (b.context i).own p) r → IsPlain (alone.ask_of (id_at b i) (b.context i).own p) r →
      (n : ℕ) → waiters b n ≡ waiters (Alone_now p r) n
  plain_alone p r at ans q n =
      sym (plain_waiters b (Alone_now p r) (plain_words g b (b.context i).position (alone.points (id_at b i) p r)
      (alone.ask_of (id_at b i) (b.context i).own p) r ans q)
      (λ m. ap (λ (es : List SenderEntry). b.queue m ++ es)
      (comes_still b.context (upd b.context i (alone_context (b.context i) p r))
      (moved_comes b.context i (alone_context (b.context i) p r) (λ t. sym (ap (λ (a : At). coming_at a t) at)))
      (b.owner m) m)) n)

  run_calm : (w : StateWord) → IsRun w → is_calm w.state ≡ true
  run_calm w run = ap is_calm run.state

  pub alone_waits : (p : ThreadLocation) (r : Response) → (b.context i).at ≡ Alone p → can_ask p ≡ true →
      Answers b (alone.ask_of (id_at b i) (b.context i).own p) r → AllSay g b i (b.context i) (facts_alone p) → (n : ℕ) →
      lists_by (alone.points (id_at b i) p r) (waiters b) n ≡ waiters (Alone_now p r) n
  alone_waits location.FallAsleep asks.Won at can ans h n =
      plain_alone location.FallAsleep asks.Won at ans record { version = refl; dead = refl; sends = λ to. refl } n
  alone_waits location.FallAsleep (asks.Lost w) at can ans h n = plain_alone location.FallAsleep (asks.Lost w) at ans tt n
  alone_waits location.LookAgain (asks.Word w) at can ans h n = plain_alone location.LookAgain (asks.Word w) at ans tt n
  alone_waits (location.LoadMail from) (asks.Mail m) at can ans h n =
      plain_alone (location.LoadMail from) (asks.Mail m) at ans tt n
  alone_waits (location.Work count) (asks.Word w) at can ans h n = plain_alone (location.Work count) (asks.Word w) at ans tt n
  alone_waits location.CommitEnd asks.Won at can ans h n =
      plain_alone location.CommitEnd asks.Won at ans (calm_alike (b.context i).own (ended_word (b.context i).own) refl
      (run_calm (b.context i).own h.1.1.0.0) refl) n
  alone_waits location.CommitEnd (asks.Lost w) at can ans h n = plain_alone location.CommitEnd (asks.Lost w) at ans tt n
  alone_waits (location.Between l) r at can ans h n = absurd cc
  alone_waits location.Asleep r at can ans h n = absurd cc
  alone_waits location.Ended r at can ans h n = absurd cc
  alone_waits location.Dead r at can ans h n = absurd cc
  alone_waits p r at can ans h n = absurd ans

  -- a switch takes and releases the ready lock alone
  pub switch_waits : (c : SwitchCall) (p : SwitchAt) (r : Response) → (b.context i).at ≡ InSwitch c p → (n : ℕ) →
      waiters b n ≡ waiters (switch_board b i (b.context i) c p r) n
  switch_waits c p r at n =
      sym (plain_waiters b (switch_board b i (b.context i) c p r) (λ t. alike_is (b.seen t).word (b.seen t).word refl)
      (λ m. ap (λ (es : List SenderEntry). b.queue m ++ es)
      (owned_comes b.context (upd b.context i (switch_context (b.context i) c p r (hand_of b [])))
      (moved_comes b.context i (switch_context (b.context i) c p r (hand_of b []))
      (λ t. sym (ap (λ (a : At). coming_at a t) at))) i (λ t. ap (λ (a : At). coming_at a t) at) b.owner (switch.ask_of c p) r
      (owns p) m)) n)
    where
      owns : (p : SwitchAt) → Owns b.owner i (switch.ask_of c p) r
      owns switch.AcquireReady = tt
      owns (switch.Locked (switch_locked.LoadGoal goal)) = tt
      owns (switch.Locked (switch_locked.LoadStart back number)) = tt
      owns (switch.Locked (switch_locked.ReleaseReady back started)) = tt
      owns (switch.Returned s) = tt
      owns (switch.Finished s) = tt
