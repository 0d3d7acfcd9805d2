-- Who waits to send, after each step of a receive and of a pick: the board's lists change as the step's point has it.
use Rattle.std.proofs.Common.{◌≡◌, ◌≢◌, ℕ, Bool, true, false, cond, not, eqb, ◌&&◌, refl, sym}
use Rattle.std.proofs.Common.{ap, ◌∙◌, subst, List, [], ◌++◌, Option, Some, None, inl, inr}
use Rattle.std.specs.Prelude.{◌==◌}
use Rattle.std.specs.List.{filter}
use Rattle.std.proofs.lemmas.Bool.{and_parts, eq-eqb, ne_eqb}
use Rattle.std.proofs.lemmas.Bool.Decides.{eqb_tells}
use Rattle.std.proofs.lemmas.List.{append-nil}
use Rattle.k_ids.specs.declared.threads.ThreadId.{ThreadId}
use Rattle.k_ids.specs.declared.threads.Message.{Message}
use Rattle.k_ids.specs.declared.calls.Act.TheVariants as act
use Rattle.k_ids.specs.declared.calls.Phase.TheVariants as phase
use Rattle.k_ids.specs.declared.calls.Outcome.{Outcome}
use Rattle.k_ids.specs.declared.calls.Outcome.TheVariants as outcome
use Rattle.k_ids.specs.declared.state_word.Result4.TheVariants as result4
use Rattle.k_ids.specs.declared.state_word.State.TheVariants as state
use Rattle.k_ids.specs.declared.state_word.StateWord.{StateWord}
use Rattle.k_model.specs.Maps.{upd}
use Rattle.k_model.specs.State.{Waiting}
use Rattle.k_model.proofs.Maps.{upd_other, upd_same}
use Rattle.k_senders.specs.declared.entries.SenderEntry.{SenderEntry}
use Rattle.k_senders.specs.Entries.{message_of, number_of, sender_of}
use Rattle.k_senders.specs.Queue.{without}
use Rattle.k_locks.specs.declared.points.Point.{Point}
use Rattle.k_locks.specs.Asks.{Response}
use Rattle.k_locks.specs.Asks as asks
use Rattle.k_locks.specs.Shown.{is_dead, is_dead_state, is_present_in}
use Rattle.k_ipc.specs.Candidates.{first_admitted}
use Rattle.k_ipc.specs.Words.{freed, in_state, is_joined_to, on_in, sends_to}
use Rattle.k_ipc.specs.declared.receive.ReceiveCall.{ReceiveCall}
use Rattle.k_ipc.specs.declared.receive.ReceiveOutside.TheVariants as outside
use Rattle.k_ipc.specs.declared.receive.ReceiveLocked.TheVariants as locked
use Rattle.k_ipc.specs.declared.receive.ReceiveRelease.TheVariants as returns
use Rattle.k_ipc.specs.declared.receive.ReceivePushing.TheVariants as pushing
use Rattle.k_ipc.specs.ReceiveTable.{ReceiveAt, act_of, candidates_after, nobody_left, point_by, still_waits}
use Rattle.k_ipc.specs.ReceiveTable as receive
use Rattle.k_board.specs.Words.{Programs, Seen, noted}
use Rattle.k_board.specs.Boards.{At, Board, Context, InReceive, hand_of, id_at}
use Rattle.k_board.specs.Facts.{AllSay, waits_for}
use Rattle.k_board.specs.Places.{facts_receive}
use Rattle.k_board.specs.Steps.{Answers, receive_at, receive_board, receive_context, receive_queues}
use Rattle.k_board.proofs.Cases.{if_cases}
use Rattle.k_board.proofs.ReceivePlaces.{SendsTo, sends_is}
use Rattle.k_good.proofs.Words.{noted_word}
use Rattle.k_legal.specs.Waiting.{coming_at, coming_by, entries_by, waiters, waiters_in}
use Rattle.k_legal.proofs.Changes.{SameTo, dropped_waiters, neither_sends, same_sends, same_waiters, waiters_change}
use Rattle.k_legal.proofs.Entries.{IsPlain, calm_alike, entries, is_calm, left_without}
use Rattle.k_legal.proofs.Entries.{moved_comes, owned_comes, plain_waiters, plain_words, waits}
use Rattle.k_legal.proofs.Entries as entries_of
use Rattle.k_points.proofs.Exceptions.{Owns}
use Rattle.k_legal.proofs.ListRows.{lists_after, lists_by, without_number}
use Rattle.k_legal.proofs.SendLists.{after_comes, ids_apart, run_calm}

-- what an event of the caller that takes no message leaves of the lists, and what one makes of them that takes one
act_keeps : (c : ReceiveCall) (picks : Bool) (o : Outcome) (f : ℕ → List Waiting) (n : ℕ) →
    ((from : ThreadId) (message : Message) → o ≡ outcome.Took from message → ⊥) →
    lists_after c.caller (cond picks act.Pick (act.Call (phase.Receive c.from c.zero))) o f n ≡ f n
act_keeps c true (outcome.Took from message) f n h = absurd (h from message refl)
act_keeps c false (outcome.Took from message) f n h = absurd (h from message refl)
act_keeps c true o f n h = refl
act_keeps c false o f n h = refl

act_takes : (c : ReceiveCall) (picks : Bool) (from : ThreadId) (message : Message) (f : ℕ → List Waiting) (n : ℕ) →
    lists_after c.caller (cond picks act.Pick (act.Call (phase.Receive c.from c.zero))) (outcome.Took from message) f n ≡
    upd f c.caller.number (without_number from.number (f c.caller.number)) n
act_takes c true from message f n = refl
act_takes c false from message f n = refl

-- nobody is about to come where a receive stands, or has ended
receive_comes : (c : ReceiveCall) (p : ReceiveAt) (n : ℕ) → coming_at (receive_at c p) n ≡ []
receive_comes c (receive.Outside (outside.Ended w)) n = after_comes c.caller w n
receive_comes c p n = refl

-- the word of a sender whose message was taken
freed_version : (me : ThreadId) (w : StateWord) → (freed me w).version ≡ w.version
freed_version me w =
    if_cases (λ (u : StateWord). u.version ≡ w.version) (is_joined_to w.state) (in_state (state.Receiving (Some me)) w)
    (on_in (state.Run result4.Sent) w) (λ _. refl) (λ _. refl)

freed_sends : (me to : ThreadId) (w : StateWord) → sends_to to (freed me w).state ≡ false
freed_sends me to w =
    if_cases (λ (u : StateWord). sends_to to u.state ≡ false) (is_joined_to w.state) (in_state (state.Receiving (Some me)) w)
    (on_in (state.Run result4.Sent) w) (λ _. refl) (λ _. refl)

freed_there : (me : ThreadId) (w : StateWord) → is_dead (freed me w) ≡ false
freed_there me w =
    if_cases (λ (u : StateWord). is_dead u ≡ false) (is_joined_to w.state) (in_state (state.Receiving (Some me)) w)
    (on_in (state.Run result4.Sent) w) (λ _. refl) (λ _. refl)

and_none : (a : Bool) → (a && false) ≡ false
and_none true = refl
and_none false = refl

and_all : (a : Bool) → (a && true) ≡ a
and_all true = refl
and_all false = refl

module _ (g : Programs) (b : Board) (c : ReceiveCall) where
  abbrev Here : ReceiveAt → Type 0
  Here p = (b.context c.caller.number).at ≡ InReceive c p

  abbrev Sound : ReceiveAt → Type 0
  Sound p = AllSay g b c.caller.number (b.context c.caller.number) (facts_receive c p)

  abbrev point : ReceiveAt → Response → Option Point
  point p r = receive.points c (b.seen c.caller.number).word (hand_of b (b.queue c.caller.number)) p r

  abbrev new : ReceiveAt → Response → Board
  new p r = receive_board g b c.caller.number (b.context c.caller.number) c p r

  abbrev next : ReceiveAt → Response → Context
  next p r = receive_context (b.context c.caller.number) c p r (hand_of b (b.queue c.caller.number))

  abbrev Lists : ReceiveAt → Response → Type 0
  Lists p r = (n : ℕ) → lists_by (point p r) (waiters b) n ≡ waiters (new p r) n

  none_comes : (p : ReceiveAt) → Here p → (n : ℕ) → coming_at (b.context c.caller.number).at n ≡ []
  none_comes p at n = ap (λ (q : At). coming_at q n) at

  comes_still : (p : ReceiveAt) (r : Response) → Here p →
      Owns b.owner c.caller.number (receive.ask_of c (b.context c.caller.number).own p) r → (n : ℕ) →
      coming_by ((new p r).owner n) (new p r).context n ≡ coming_by (b.owner n) b.context n
  comes_still p r at owns n =
      owned_comes b.context (upd b.context c.caller.number (next p r))
      (moved_comes b.context c.caller.number (next p r) (λ t.
      receive_comes c (receive.leads c (hand_of b (b.queue c.caller.number)) p r) t
      ∙ sym (none_comes p at t))) c.caller.number (none_comes p at) b.owner
      (receive.ask_of c (b.context c.caller.number).own p) r owns n

  -- a step that changes no queue, and no word of a sender
  plain : (p : ReceiveAt) (r : Response) → Here p → Answers b (receive.ask_of c (b.context c.caller.number).own p) r →
      IsPlain (receive.ask_of c (b.context c.caller.number).own p) r →
      Owns b.owner c.caller.number (receive.ask_of c (b.context c.caller.number).own p) r →
      ((n : ℕ) → receive_queues c p r b.queue n ≡ b.queue n) → ((n : ℕ) → lists_by (point p r) (waiters b) n ≡ waiters b n) →
      Lists p r
  plain p r at a keeps owns queue pt n =
      pt n ∙ sym (plain_waiters b (new p r) (plain_words g b (b.context c.caller.number).position (point p r)
      (receive.ask_of c (b.context c.caller.number).own p) r a keeps)
      (λ m. let comes = comes_still p r at owns m in λ d. queue m d ++ comes d) n)

  keeps : (o : Outcome) → ((from : ThreadId) (message : Message) → o ≡ outcome.Took from message → ⊥) → (n : ℕ) →
      lists_by (Some (point_by c (act_of c) o)) (waiters b) n ≡ waiters b n
  keeps o h n = act_keeps c c.picks o (waiters b) n h

  nobody_keeps : (o : Option SenderEntry) (n : ℕ) → lists_by (nobody_left c o) (waiters b) n ≡ waiters b n
  nobody_keeps (Some e) n = refl
  nobody_keeps None n =
      if_cases (λ (p : Option Point). lists_by p (waiters b) n ≡ waiters b n) c.zero
      (Some (point_by c (act_of c) outcome.Nobody)) None (λ _. keeps outcome.Nobody (λ from message e. cc) n) (λ _. refl)

  -- THE ENTRY WHOSE MESSAGE WAS TAKEN LEAVES THE QUEUE

  takes_out : (e : SenderEntry) → Here (receive.Locked (locked.Release (returns.Taken e))) →
      Sound (receive.Locked (locked.Release (returns.Taken e))) →
      Lists (receive.Locked (locked.Release (returns.Taken e))) asks.Released
  takes_out e at h n =
      sym (entries_of.same_waiters b (new (receive.Locked (locked.Release (returns.Taken e))) asks.Released)
      (plain_words g b (b.context c.caller.number).position None
      (receive.ask_of c (b.context c.caller.number).own (receive.Locked
      (locked.Release (returns.Taken e)))) asks.Released tt tt) n (λ _. left n))
    where
      me_is : id_at b c.caller.number ≡ c.caller
      me_is = λ d. record c.caller { version = sym h.1.0.1 d }

      off : waits b c.caller.number e ≡ false
      off = ap (λ (u : ThreadId). waits_for u e (b.seen (number_of e)).word) me_is ∙ h.1.1.1.1.1.1.0.3

      comes : (m : ℕ) →
          coming_by ((new (receive.Locked (locked.Release (returns.Taken e))) asks.Released).owner m)
          (new (receive.Locked (locked.Release (returns.Taken e))) asks.Released).context m ≡ coming_by (b.owner m) b.context m
      comes = comes_still (receive.Locked (locked.Release (returns.Taken e))) asks.Released at h.0

      nobody : coming_by (b.owner c.caller.number) b.context c.caller.number ≡ []
      nobody =
          ap (λ (o : Option ℕ). coming_by o b.context c.caller.number) h.0
          ∙ none_comes (receive.Locked (locked.Release (returns.Taken e))) at c.caller.number

      mine : filter (waits b c.caller.number) (entries (new
          (receive.Locked (locked.Release (returns.Taken e))) asks.Released) c.caller.number) ≡
          filter (waits b c.caller.number) (entries b c.caller.number)
      mine =
          ap (filter (waits b c.caller.number)) ((λ d. upd_same b.queue c.caller.number
          (without (number_of e) (b.queue c.caller.number)) d ++ (comes c.caller.number ∙ nobody) d) ∙ append-nil _)
          ∙ left_without (waits b c.caller.number) (number_of e) e off (b.queue c.caller.number) h.1.1.1.1.1.1.0.2
          ∙ ap (filter (waits b c.caller.number)) (sym (ap (λ (es : List SenderEntry). b.queue c.caller.number ++ es) nobody
          ∙ append-nil _))

      left : (m : ℕ) →
          filter (waits b m) (entries (new (receive.Locked (locked.Release (returns.Taken e))) asks.Released) m) ≡
          filter (waits b m) (entries b m)
      left m = elim (eqb_tells m c.caller.number) [
        | inl q ↦
            subst (λ (j : ℕ). filter (waits b j)
            (entries (new (receive.Locked (locked.Release (returns.Taken e))) asks.Released) j) ≡
            filter (waits b j) (entries b j)) (sym q.1) mine
        | inr q ↦
            ap (filter (waits b m)) (λ d. upd_other b.queue c.caller.number
            (without (number_of e) (b.queue c.caller.number)) m q.1 d ++ comes m d)
      ]

  -- A WAITING MESSAGE IS TAKEN: its sender waits no more

  module _ (p : ReceiveAt) (e : SenderEntry) (w : StateWord) (at : Here p)
      (asked : receive.ask_of c (b.context c.caller.number).own p ≡ asks.Exchange (number_of e) w (freed c.caller w))
      (pointed : point p asks.Won ≡ Some (point_by c (act_of c) (outcome.Took (sender_of e) (message_of e))))
      (won : (b.seen (number_of e)).word ≡ w) (sends : SendsTo c.caller w.state) where
    abbrev b' : Board
    b' =
        record b {
          seen = upd (noted g b.seen (b.context c.caller.number).position (point p asks.Won)) (number_of e)
              (record (noted g b.seen (b.context c.caller.number).position (point p asks.Won) (number_of e)) {
                word =
                    freed c.caller w;
              });
          context = upd b.context c.caller.number (next p asks.Won);
        }

    word_from : (b'.seen (number_of e)).word ≡ freed c.caller w
    word_from =
        ap (λ (u : Seen). u.word) (upd_same (noted g b.seen (b.context c.caller.number).position (point p asks.Won))
        (number_of e) _)

    word_other : (t : ℕ) → t ≢ number_of e → (b'.seen t).word ≡ (b.seen t).word
    word_other t d =
        ap (λ (u : Seen). u.word) (upd_other (noted g b.seen (b.context c.caller.number).position (point p asks.Won))
        (number_of e) _ t d)
        ∙ noted_word g b.seen (b.context c.caller.number).position (point p asks.Won) t

    version_is : (t : ℕ) → (b'.seen t).word.version ≡ (b.seen t).word.version
    version_is t = elim (eqb_tells t (number_of e)) [
      | inl q ↦
          subst (λ (m : ℕ). (b'.seen m).word.version ≡ (b.seen m).word.version) (sym q.1)
          (ap (λ (u : StateWord). u.version) word_from ∙ freed_version c.caller w ∙ ap (λ (u : StateWord). u.version) (sym won))
      | inr q ↦ ap (λ (u : StateWord). u.version) (word_other t q.1)
    ]

    dead_is : (t : ℕ) → is_dead (b'.seen t).word ≡ is_dead (b.seen t).word
    dead_is t = elim (eqb_tells t (number_of e)) [
      | inl q ↦
          subst (λ (m : ℕ). is_dead (b'.seen m).word ≡ is_dead (b.seen m).word) (sym q.1)
          (ap is_dead word_from ∙ freed_there c.caller w ∙ sym (ap is_dead won ∙ ap is_dead_state sends.is))
      | inr q ↦ ap is_dead (word_other t q.1)
    ]

    other_same : (to : ThreadId) (t : ℕ) → t ≢ number_of e → SameTo to (b.seen t).word (b'.seen t).word
    other_same to t d =
        same_sends to (b.seen t).word (b'.seen t).word (ap (λ (u : StateWord). u.version) (word_other t d))
        (ap (λ (u : StateWord). sends_to to u.state) (word_other t d))

    same_else : (n : ℕ) → n ≢ c.caller.number → (t : ℕ) → SameTo (id_at b n) (b.seen t).word (b'.seen t).word
    same_else n d t = elim (eqb_tells t (number_of e)) [
      | inl q ↦
          subst (λ (m : ℕ). SameTo (id_at b n) (b.seen m).word (b'.seen m).word) (sym q.1)
          (neither_sends (id_at b n) (b.seen (number_of e)).word (b'.seen (number_of e)).word
          (ap (λ (u : StateWord). sends_to (id_at b n) u.state) won ∙ ap (sends_to (id_at b n)) sends.is
          ∙ ids_apart c.caller (id_at b n) (λ r. d (sym r)))
          (ap (λ (u : StateWord). sends_to (id_at b n) u.state) word_from ∙ freed_sends c.caller (id_at b n) w))
      | inr q ↦ other_same (id_at b n) t q.1
    ]

    comes : (n : ℕ) →
        coming_by (b.owner n) (upd b.context c.caller.number (next p asks.Won)) n ≡ coming_by (b.owner n) b.context n
    comes n =
        owned_comes b.context (upd b.context c.caller.number (next p asks.Won))
        (moved_comes b.context c.caller.number (next p asks.Won)
        (λ t. receive_comes c (receive.leads c (hand_of b (b.queue c.caller.number)) p asks.Won) t
        ∙ sym (none_comes p at t))) c.caller.number (none_comes p at) b.owner (asks.Load 0) asks.Stored tt n

    entries_still : (n : ℕ) →
        entries_by b.queue b.owner (upd b.context c.caller.number (next p asks.Won)) n ≡ entries_by b.queue b.owner b.context n
    entries_still n = ap (λ (es : List SenderEntry). b.queue n ++ es) (comes n)

    elsewhere : (n : ℕ) → n ≢ c.caller.number → waiters b' n ≡ waiters b n
    elsewhere n d =
        waiters_change b b' n (λ ws. ws) (λ _. refl) (dead_is n) (version_is n)
        (λ _. same_waiters (id_at b n) b.seen b'.seen (same_else n d) _ ∙ ap (waiters_in (id_at b n) b.seen) (entries_still n))

    drops : (f : SenderEntry) →
        waits_for (id_at b c.caller.number) f (b'.seen (number_of f)).word ≡
        (waits_for (id_at b c.caller.number) f (b.seen (number_of f)).word && not (number_of f == number_of e))
    drops f = elim (eqb_tells (number_of f) (number_of e)) [
      | inl q ↦
          ap (λ (v : Bool). eqb (b'.seen (number_of f)).word.version (sender_of f).version && v)
          (ap (λ (m : ℕ). sends_to (id_at b c.caller.number) (b'.seen m).word.state) q.1
          ∙ ap (λ (u : StateWord). sends_to (id_at b c.caller.number) u.state) word_from
          ∙ freed_sends c.caller (id_at b c.caller.number) w) ∙ and_none _
          ∙ sym (ap (λ (v : Bool). waits_for (id_at b c.caller.number) f (b.seen (number_of f)).word && not v)
          (eq-eqb (number_of f) (number_of e) q.1) ∙ and_none _)
      | inr q ↦
          other_same (id_at b c.caller.number) (number_of f) q.1 f
          ∙ sym (ap (λ (v : Bool). waits_for (id_at b c.caller.number) f (b.seen (number_of f)).word && not v)
          (ne_eqb (number_of f) (number_of e) q.1) ∙ and_all _)
    ]

    mine : waiters b' c.caller.number ≡ without_number (number_of e) (waiters b c.caller.number)
    mine =
        waiters_change b b' c.caller.number (without_number (number_of e)) (λ _. refl) (dead_is c.caller.number)
        (version_is c.caller.number)
        (λ _. dropped_waiters (id_at b c.caller.number) b.seen b'.seen (λ v. v.0.number == number_of e) drops _
        ∙ ap (λ (es : List SenderEntry). without_number (number_of e) (waiters_in (id_at b c.caller.number) b.seen es))
        (entries_still c.caller.number))

    taken : (n : ℕ) → lists_by (point p asks.Won) (waiters b) n ≡ waiters b' n
    taken n =
        ap (λ (o : Option Point). lists_by o (waiters b) n) pointed
        ∙ act_takes c c.picks (sender_of e) (message_of e) (waiters b) n ∙ elim (eqb_tells n c.caller.number) [
          | inl q ↦
              subst (λ (m : ℕ). upd (waiters b) c.caller.number (without_number (number_of e) (waiters b c.caller.number)) m ≡
              waiters b' m) (sym q.1) (upd_same (waiters b) c.caller.number _ ∙ sym mine)
          | inr q ↦ upd_other (waiters b) c.caller.number _ n q.1 ∙ sym (elsewhere n q.1)
        ]

  sends_by : (e : SenderEntry) (w : StateWord) → still_waits c e w ≡ true → SendsTo c.caller w.state
  sends_by e w h = sends_is c.caller w.state (and_parts (eqb w.version (sender_of e).version) (sends_to c.caller w.state) h).1

  -- every location, with every response that the board gives
  pub receive_lists : (p : ReceiveAt) (r : Response) → Here p → Answers b (receive.ask_of c (b.context c.caller.number).own p) r →
      Sound p → Lists p r
  receive_lists (receive.Outside outside.LoadCaller) (asks.Word w) at a h =
      plain (receive.Outside outside.LoadCaller) (asks.Word w) at a tt tt (λ n. refl)
      (λ n. if_cases (λ (q : Option Point). lists_by q (waiters b) n ≡ waiters b n) (is_dead w) None
      (Some (point_by c (act_of c) outcome.Own)) (λ _. refl) (λ _. keeps outcome.Own (λ from message e. cc) n))
  receive_lists (receive.Outside outside.AcquireOwn) asks.Got at a h =
      plain (receive.Outside outside.AcquireOwn) asks.Got at a tt a (λ n. refl) (λ n. refl)
  receive_lists (receive.Outside outside.AcquireOwn) (asks.Owned o) at a h =
      plain (receive.Outside outside.AcquireOwn) (asks.Owned o) at a tt tt (λ n. refl) (λ n. refl)
  receive_lists (receive.Locked locked.LoadOwn) (asks.Word w) at a h =
      plain (receive.Locked locked.LoadOwn) (asks.Word w) at a tt tt (λ n. refl)
      (λ n. if_cases (λ (q : Option Point). lists_by q (waiters b) n ≡ waiters b n) (is_dead w) None
      (nobody_left c (first_admitted c.from (b.queue c.caller.number))) (λ _. refl)
      (λ _. nobody_keeps (first_admitted c.from (b.queue c.caller.number)) n))
  receive_lists (receive.Locked (locked.LoadSender e)) (asks.Word w) at a h =
      plain (receive.Locked (locked.LoadSender e)) (asks.Word w) at a tt tt (λ n. refl)
      (λ n. if_cases (λ (q : Option Point). lists_by q (waiters b) n ≡ waiters b n) (still_waits c e w) None
      (nobody_left c (candidates_after c (hand_of b (b.queue c.caller.number)) e)) (λ _. refl)
      (λ _. nobody_keeps (candidates_after c (hand_of b (b.queue c.caller.number)) e) n))
  receive_lists (receive.Locked (locked.FreeSender e w)) asks.Won at a h =
      taken (receive.Locked (locked.FreeSender e w)) e w at refl refl a (sends_by e w h.1.1.0)
  receive_lists (receive.Locked (locked.FreeSender e w)) (asks.Lost v) at a h =
      plain (receive.Locked (locked.FreeSender e w)) (asks.Lost v) at a tt tt (λ n. refl) (λ n. refl)
  receive_lists (receive.Locked (locked.AcquireReady e)) asks.Got at a h =
      plain (receive.Locked (locked.AcquireReady e)) asks.Got at a tt tt (λ n. refl) (λ n. refl)
  receive_lists (receive.Locked (locked.AcquireReady e)) (asks.Owned o) at a h =
      plain (receive.Locked (locked.AcquireReady e)) (asks.Owned o) at a tt tt (λ n. refl) (λ n. refl)
  receive_lists (receive.Pushing (pushing.LoadFreed e)) (asks.Word w) at a h =
      plain (receive.Pushing (pushing.LoadFreed e)) (asks.Word w) at a tt tt (λ n. refl) (λ n. refl)
  receive_lists (receive.Pushing (pushing.PushFreed e w)) asks.Released at a h =
      plain (receive.Pushing (pushing.PushFreed e w)) asks.Released at a tt tt (λ n. refl) (λ n. refl)
  receive_lists (receive.Locked locked.CommitWait) asks.Won at a h =
      plain (receive.Locked locked.CommitWait) asks.Won at a
      (calm_alike (b.context c.caller.number).own _ refl (run_calm (b.context c.caller.number).own h.1.1.1.1.1.0.0) refl) tt
      (λ n. refl) (keeps outcome.Waits (λ from message e. cc))
  receive_lists (receive.Locked locked.CommitWait) (asks.Lost v) at a h =
      plain (receive.Locked locked.CommitWait) (asks.Lost v) at a tt tt (λ n. refl) (λ n. refl)
  receive_lists (receive.Locked (locked.LoadPartner f)) (asks.Word w) at a h =
      plain (receive.Locked (locked.LoadPartner f)) (asks.Word w) at a tt tt (λ n. refl)
      (λ n. if_cases (λ (q : Option Point). lists_by q (waiters b) n ≡ waiters b n) (is_present_in w f) None
      (Some (point_by c act.Gone outcome.Freed)) (λ _. refl) (λ _. refl))
  receive_lists (receive.Locked (locked.CommitGone f)) asks.Won at a h =
      plain (receive.Locked (locked.CommitGone f)) asks.Won at a
      (calm_alike (b.context c.caller.number).own _ refl (ap is_calm h.1.1.1.0.2) refl) tt (λ n. refl) (λ n. refl)
  receive_lists (receive.Locked (locked.CommitGone f)) (asks.Lost v) at a h =
      plain (receive.Locked (locked.CommitGone f)) (asks.Lost v) at a tt tt (λ n. refl) (λ n. refl)
  receive_lists (receive.Locked locked.LoadPicking) (asks.Word w) at a h =
      plain (receive.Locked locked.LoadPicking) (asks.Word w) at a tt tt (λ n. refl) (λ n. refl)
  receive_lists (receive.Locked (locked.LoadNext e)) (asks.Word w) at a h =
      plain (receive.Locked (locked.LoadNext e)) (asks.Word w) at a tt tt (λ n. refl) (λ n. refl)
  receive_lists (receive.Locked (locked.FreeNext e w)) asks.Won at a h =
      taken (receive.Locked (locked.FreeNext e w)) e w at refl refl a (sends_by e w h.1.1.1.1.1.0)
  receive_lists (receive.Locked (locked.FreeNext e w)) (asks.Lost v) at a h =
      plain (receive.Locked (locked.FreeNext e w)) (asks.Lost v) at a tt tt (λ n. refl) (λ n. refl)
  receive_lists (receive.Locked (locked.EndPick e w)) asks.Won at a h =
      plain (receive.Locked (locked.EndPick e w)) asks.Won at a
      (calm_alike (b.context c.caller.number).own _ refl (ap is_calm h.1.1.1.1.0.2) refl) tt (λ n. refl) (λ n. refl)
  receive_lists (receive.Locked (locked.EndPick e w)) (asks.Lost v) at a h =
      plain (receive.Locked (locked.EndPick e w)) (asks.Lost v) at a tt tt (λ n. refl) (λ n. refl)
  receive_lists (receive.Locked locked.SettlePick) asks.Won at a h =
      plain (receive.Locked locked.SettlePick) asks.Won at a
      (calm_alike (b.context c.caller.number).own _ refl (ap is_calm h.1.1.1.1.0.2) refl) tt (λ n. refl)
      (keeps outcome.Waits (λ from message e. cc))
  receive_lists (receive.Locked locked.SettlePick) (asks.Lost v) at a h =
      plain (receive.Locked locked.SettlePick) (asks.Lost v) at a tt tt (λ n. refl) (λ n. refl)
  receive_lists (receive.Locked (locked.Release (returns.Taken e))) asks.Released at a h = takes_out e at h
  receive_lists (receive.Locked (locked.Release returns.Waits)) asks.Released at a h =
      plain (receive.Locked (locked.Release returns.Waits)) asks.Released at a tt h.1.1.1.0.0 (λ n. refl) (λ n. refl)
  receive_lists (receive.Locked (locked.Release returns.Delivered)) asks.Released at a h =
      plain (receive.Locked (locked.Release returns.Delivered)) asks.Released at a tt h.0 (λ n. refl) (λ n. refl)
  receive_lists (receive.Locked (locked.Release returns.Gone)) asks.Released at a h =
      plain (receive.Locked (locked.Release returns.Gone)) asks.Released at a tt h.0 (λ n. refl) (λ n. refl)
  receive_lists (receive.Locked (locked.Release returns.Nobody)) asks.Released at a h =
      plain (receive.Locked (locked.Release returns.Nobody)) asks.Released at a tt h.0 (λ n. refl) (λ n. refl)
  receive_lists (receive.Locked (locked.Release returns.Dead)) asks.Released at a h =
      plain (receive.Locked (locked.Release returns.Dead)) asks.Released at a tt h.0 (λ n. refl) (λ n. refl)
  receive_lists (receive.Outside (outside.Ended w)) r at a h = absurd h.0
  receive_lists p r at a h = absurd a
