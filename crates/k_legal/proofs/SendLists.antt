-- Who waits to send, after each step of a send: the board's lists change as the step's point has it.
use Rattle.std.proofs.Common.{◌≡◌, ◌≢◌, ℕ, ◌<◌, ◌≤◌, ◌^◌, Bool, true, false, cond, not, eqb, ◌&&◌, refl, sym}
use Rattle.std.proofs.Common.{ap, ◌∙◌, subst, List, [], ◌∷◌, ◌++◌, map, Option, Some, None, arith, inl, inr}
use Rattle.std.proofs.lemmas.Bool.{and_parts, eq-eqb, eqb-true, ne_eqb}
use Rattle.std.proofs.lemmas.Bool.Decides.{eqb_tells}
use Rattle.std.proofs.lemmas.List.{append-nil}
use Rattle.k_ids.specs.declared.threads.ThreadId.{ThreadId}
use Rattle.k_ids.specs.declared.calls.Reply.TheVariants as reply
use Rattle.k_ids.specs.declared.calls.Outcome.{Outcome}
use Rattle.k_ids.specs.declared.calls.Outcome.TheVariants as outcome
use Rattle.k_ids.specs.declared.state_word.State.{State}
use Rattle.k_ids.specs.declared.state_word.StateWord.{StateWord}
use Rattle.k_model.specs.Maps.{upd}
use Rattle.k_model.specs.State.{Waiting, same_id, takes_from}
use Rattle.k_model.proofs.Maps.{upd_other, upd_same}
use Rattle.k_senders.specs.declared.entries.SenderEntry.{SenderEntry}
use Rattle.k_senders.specs.Entries.{entry_for, message_of, number_of, sender_of}
use Rattle.k_senders.specs.Queue.{stands}
use Rattle.k_senders.proofs.EntrySpelled.{entry_message, entry_sender}
use Rattle.k_locks.specs.declared.points.Point.{Point}
use Rattle.k_locks.specs.declared.steps.Went.{Went}
use Rattle.k_locks.specs.declared.steps.Went.TheVariants as went
use Rattle.k_locks.specs.Asks.{Response}
use Rattle.k_locks.specs.Asks as asks
use Rattle.k_locks.specs.Shown.{found_in, is_dead, is_dead_state, is_present_in, shows}
use Rattle.k_script.specs.Plays.{IsInRange}
use Rattle.k_ipc.specs.declared.send.Manner.{Manner}
use Rattle.k_ipc.specs.declared.send.Manner.TheVariants as manner
use Rattle.k_ipc.specs.declared.send.SendCall.{SendCall}
use Rattle.k_ipc.specs.declared.send.SendOutside.TheVariants.{LoadCaller, AcquireReceiver, CheckCaller, Ended}
use Rattle.k_ipc.specs.declared.send.SendLocked.{SendLocked}
use Rattle.k_ipc.specs.declared.send.SendLocked.TheVariants.{LoadReceiver, StoreMail, CommitPass, WakeReceiver}
use Rattle.k_ipc.specs.declared.send.SendLocked.TheVariants.{ReloadReceiver, AcquireReady, CommitWait, Release}
use Rattle.k_ipc.specs.declared.send.SendRelease.TheVariants as release
use Rattle.k_ipc.specs.declared.send.SendPushing.TheVariants.{PushReceiver}
use Rattle.k_ipc.specs.SendTable.{SendAt, Outside, Locked, Pushing, delivered_word, is_joined}
use Rattle.k_ipc.specs.SendTable.{passed_end, passed_word, phase_by, point_of, waiting_word}
use Rattle.k_ipc.specs.SendTable as send
use Rattle.k_ipc.specs.Words.{alive_or_dead, sends_to}
use Rattle.k_board.specs.Words.{Programs, Seen, noted}
use Rattle.k_board.specs.Boards.{At, Board, Context, InSend, hand_of, id_at}
use Rattle.k_board.specs.Facts.{AllSay, HoldsThread, IsRun, is_open, waits_for}
use Rattle.k_board.specs.Places.{facts_send, sender}
use Rattle.k_board.specs.Steps.{Answers, after, send_board, send_context, send_queues}
use Rattle.k_board.proofs.Cases.{if_cases}
use Rattle.k_good.specs.Good.{IsGood, QueuesTell}
use Rattle.k_good.specs.Ranges.{IsWithin, is_threads}
use Rattle.k_good.proofs.Words.{noted_word}
use Rattle.k_shown.specs.Memory.{waiting_of}
use Rattle.k_legal.specs.Waiting.{FitsSend, MessagesHold, coming_at, coming_by, entries_by, waiters, waiters_in}
use Rattle.k_legal.proofs.Changes.{SameTo, append_waiters, apart_waiters, neither_sends, same_sends, same_waiters, waiters_change}
use Rattle.k_legal.proofs.Entries.{IsPlain, calm_alike, is_calm, moved_comes, owned_comes, plain_waiters, plain_words}
use Rattle.k_points.proofs.Exceptions.{Owns}
use Rattle.k_legal.proofs.ListRows.{call_lists, lists_by}
use Rattle.k_points.proofs.Status.{passing_of}

-- a call that doesn't wait leaves the lists
kept_by : (c : SendCall) (m : Manner) (o : Outcome) (f : ℕ → List Waiting) (n : ℕ) → (o ≡ outcome.Waits → ⊥) →
    call_lists c.caller (phase_by c m) o f n ≡ f n
kept_by c manner.Plain outcome.Waits f n h = absurd (h refl)
kept_by c manner.Joined outcome.Waits f n h = absurd (h refl)
kept_by c manner.Reply outcome.Waits f n h = absurd (h refl)
kept_by c manner.Plain o f n h = refl
kept_by c manner.Joined o f n h = refl
kept_by c manner.Reply o f n h = refl

queued_by : (c : SendCall) (m : Manner) (f : ℕ → List Waiting) (n : ℕ) →
    call_lists c.caller (phase_by c m) outcome.Waits f n ≡ upd f c.to.number (f c.to.number ++ (c.caller, c.message) ∷ []) n
queued_by c manner.Plain f n = refl
queued_by c manner.Joined f n = refl
queued_by c manner.Reply f n = refl

-- nobody is about to come where a section ends
pub after_comes : (me : ThreadId) (w : Went) (n : ℕ) → coming_at (after me w) n ≡ []
after_comes me (went.Ends r) n = refl
after_comes me went.Waits n = refl
after_comes me went.Picks n = refl
after_comes me went.CallerDead n = refl
after_comes me went.On n = refl
after_comes me went.Again n = refl
after_comes me (went.Pushed priority) n = refl

pub run_calm : (own : StateWord) → IsRun own → is_calm own.state ≡ true
run_calm own run = ap is_calm run.state

open_calm : (s : State) → is_open s ≡ true → is_calm s ≡ true
open_calm s o = grind arith

pub run_sends : (own : StateWord) → IsRun own → (to : ThreadId) → sends_to to own.state ≡ false
run_sends own run to = ap (sends_to to) run.state

pub run_there : (own : StateWord) → IsRun own → is_dead own ≡ false
run_there own run = ap is_dead_state run.state

-- two threads of different numbers
pub ids_apart : (a c : ThreadId) → a.number ≢ c.number → same_id a c ≡ false
ids_apart a c ne = rw (ne_eqb a.number c.number ne) refl

module _ (g : Programs) (b : Board) (c : SendCall) where
  abbrev x : Context
  x = b.context c.caller.number

  abbrev Here : SendAt → Type 0
  Here p = (b.context c.caller.number).at ≡ InSend c p

  abbrev Sound : SendAt → Type 0
  Sound p = AllSay g b c.caller.number (b.context c.caller.number) (facts_send c p)

  abbrev point : SendAt → Response → Option Point
  point p r = send.points c (b.seen c.caller.number).word (hand_of b (b.queue c.to.number)) p r

  abbrev new : SendAt → Response → Board
  new p r = send_board g b c.caller.number (b.context c.caller.number) c p r

  abbrev next : SendAt → Response → Context
  next p r = send_context (b.context c.caller.number) c p r (hand_of b (b.queue c.to.number))

  abbrev Lists : SendAt → Response → Type 0
  Lists p r = (n : ℕ) → lists_by (point p r) (waiters b) n ≡ waiters (new p r) n

  -- a step that changes no queue, and no word of a sender
  plain : (p : SendAt) (r : Response) → Here p → Answers b (send.ask_of c (b.context c.caller.number).own p) r →
      IsPlain (send.ask_of c (b.context c.caller.number).own p) r →
      Owns b.owner c.caller.number (send.ask_of c (b.context c.caller.number).own p) r →
      ((n : ℕ) → coming_at (InSend c p) n ≡ []) → ((n : ℕ) → coming_at (next p r).at n ≡ []) →
      ((n : ℕ) → send_queues c p r b.queue n ≡ b.queue n) → ((n : ℕ) → lists_by (point p r) (waiters b) n ≡ waiters b n) →
      Lists p r
  plain p r at a keeps owns old nw queue pt n =
      pt n ∙ sym (plain_waiters b (new p r) (plain_words g b (b.context c.caller.number).position (point p r)
      (send.ask_of c (b.context c.caller.number).own p) r a keeps)
      (λ m. let comes = owned_comes b.context (upd b.context c.caller.number (next p r))
      (moved_comes b.context c.caller.number (next p r) (λ t. nw t ∙ sym (none t))) c.caller.number none b.owner
      (send.ask_of c (b.context c.caller.number).own p) r owns m in λ d. queue m d ++ comes d) n)
    where
      none : (t : ℕ) → coming_at (b.context c.caller.number).at t ≡ []
      none t = ap (λ (q : At). coming_at q t) at ∙ old t

  point_keeps : (o : Outcome) → (o ≡ outcome.Waits → ⊥) → (n : ℕ) → lists_by (Some (point_of c o)) (waiters b) n ≡ waiters b n
  point_keeps o h n = kept_by c c.manner o (waiters b) n h

  refusal_keeps : (w : StateWord) (n : ℕ) → lists_by (point (Locked LoadReceiver) (asks.Word w)) (waiters b) n ≡ waiters b n
  refusal_keeps w n =
      if_cases (λ (p : Option Point). lists_by p (waiters b) n ≡ waiters b n) (is_dead (b.seen c.caller.number).word) None
      (send.refusal_of c w) (λ _. refl)
      (λ _. if_cases (λ (p : Option Point). lists_by p (waiters b) n ≡ waiters b n) (not (is_present_in w c.to))
      (Some (point_of c (outcome.Absent (found_in c.to.number w)))) _
      (λ _. point_keeps (outcome.Absent (found_in c.to.number w)) (λ e. cc) n)
      (λ _. if_cases (λ (p : Option Point). lists_by p (waiters b) n ≡ waiters b n)
      (takes_from (shows w.state) c.caller c.zero) None _ (λ _. refl)
      (λ _. if_cases (λ (p : Option Point). lists_by p (waiters b) n ≡ waiters b n) c.zero
      (Some (point_of c (outcome.Busy (found_in c.to.number w)))) None
      (λ _. point_keeps (outcome.Busy (found_in c.to.number w)) (λ e. cc) n) (λ _. refl))))

  after_load : (w : StateWord) (n : ℕ) → coming_at (InSend c (Locked (send.after_receiver c w))) n ≡ []
  after_load w n =
      if_cases (λ (p : SendLocked). coming_at (InSend c (Locked p)) n ≡ []) (not (is_present_in w c.to))
      (Release (release.Refused (reply.Absent (found_in c.to.number w)))) _ (λ _. refl)
      (λ _. if_cases (λ (p : SendLocked). coming_at (InSend c (Locked p)) n ≡ []) (takes_from (shows w.state) c.caller c.zero)
      (StoreMail w) _ (λ _. refl)
      (λ _. if_cases (λ (p : SendLocked). coming_at (InSend c (Locked p)) n ≡ []) c.zero
      (Release (release.Refused (reply.Busy (found_in c.to.number w)))) CommitWait (λ _. refl) (λ _. refl)))

  passed_plain : (m : Manner) (own : StateWord) → IsRun own →
      IsPlain (asks.Exchange c.caller.number own (passed_word m c.to own)) asks.Won
  passed_plain manner.Plain own run = calm_alike own _ refl (run_calm own run) refl
  passed_plain manner.Joined own run = calm_alike own _ refl (run_calm own run) refl
  passed_plain manner.Reply own run = calm_alike own _ refl (run_calm own run) refl

  passed_owner : (m : Manner) →
      AllSay g b c.caller.number (b.context c.caller.number) (sender m c.caller (HoldsThread c.to.number ∷ [])) →
      b.owner c.to.number ≡ Some c.caller.number
  passed_owner manner.Plain h = h.1.1.1.1.1.0
  passed_owner manner.Joined h = h.1.1.1.1.1.0
  passed_owner manner.Reply h = h.1.1.1.1.0

  -- THE CALLER COMES INTO THE RECEIVER'S QUEUE

  -- whom a number's lock owner is about to put in, but for the number that the send is to
  other_comes : (p : SendAt) (r : Response) (n : ℕ) → Here p → coming_at (InSend c p) n ≡ [] → coming_at (next p r).at n ≡ [] →
      (o : Option ℕ) → coming_by o (upd b.context c.caller.number (next p r)) n ≡ coming_by o b.context n
  other_comes p r n at old nw None = refl
  other_comes p r n at old nw (Some j) = elim (eqb_tells j c.caller.number) [
    | inl e ↦
        ap (λ (m : ℕ). coming_at (upd b.context c.caller.number (next p r) m).at n) e.1
        ∙ ap (λ (y : Context). coming_at y.at n) (upd_same b.context c.caller.number (next p r)) ∙ nw
        ∙ sym (ap (λ (m : ℕ). coming_at (b.context m).at n) e.1 ∙ ap (λ (a : At). coming_at a n) at ∙ old)
    | inr e ↦ ap (λ (y : Context). coming_at y.at n) (upd_other b.context c.caller.number (next p r) j e.1)
  ]

  abbrev entry : SenderEntry
  entry = entry_for c.caller c.message

  -- the entry comes where the send is to, and to no other queue
  comes_to : coming_at (InSend c (Locked (Release release.Queued))) c.to.number ≡ entry ∷ []
  comes_to = ap (λ (d : Bool). cond d (entry ∷ []) []) (eq-eqb c.to.number c.to.number refl)

  comes_else : (n : ℕ) → n ≢ c.to.number → coming_at (InSend c (Locked (Release release.Queued))) n ≡ []
  comes_else n ne = ap (λ (d : Bool). cond d (entry ∷ []) []) (ne_eqb c.to.number n (λ q. ne (sym q)))

  puts_in : Here (Locked (Release release.Queued)) → b.owner c.to.number ≡ Some c.caller.number →
      Lists (Locked (Release release.Queued)) asks.Released
  puts_in at o n =
      sym (plain_waiters b (new (Locked (Release release.Queued)) asks.Released)
      (plain_words g b (b.context c.caller.number).position None
      (send.ask_of c (b.context c.caller.number).own (Locked (Release release.Queued))) asks.Released tt tt) entries n)
    where
      there : b.queue c.to.number ++ coming_by (b.owner c.to.number) b.context c.to.number ≡ b.queue c.to.number ++ entry ∷ []
      there =
          ap (λ (q : Option ℕ). b.queue c.to.number ++ coming_by q b.context c.to.number) o
          ∙ ap (λ (a : At). b.queue c.to.number ++ coming_at a c.to.number) at
          ∙ ap (λ (es : List SenderEntry). b.queue c.to.number ++ es) comes_to

      at_to : entries_by (upd b.queue c.to.number (b.queue c.to.number ++ entry ∷ [])) (upd b.owner c.to.number None)
          (upd b.context c.caller.number (next (Locked (Release release.Queued)) asks.Released)) c.to.number ≡
          entries_by b.queue b.owner b.context c.to.number
      at_to =
          ap (λ (q : Option ℕ). upd b.queue c.to.number (b.queue c.to.number ++ entry ∷ []) c.to.number ++
          coming_by q (upd b.context c.caller.number (next (Locked (Release release.Queued)) asks.Released)) c.to.number)
          (upd_same b.owner c.to.number None)
          ∙ append-nil _ ∙ upd_same b.queue c.to.number (b.queue c.to.number ++ entry ∷ []) ∙ sym there

      entries : (m : ℕ) →
          entries_by (upd b.queue c.to.number (b.queue c.to.number ++ entry ∷ [])) (upd b.owner c.to.number None)
          (upd b.context c.caller.number (next (Locked (Release release.Queued)) asks.Released)) m ≡
          entries_by b.queue b.owner b.context m
      entries m = elim (eqb_tells m c.to.number) [
        | inl e ↦
            subst (λ (j : ℕ). entries_by (upd b.queue c.to.number (b.queue c.to.number ++ entry ∷ []))
            (upd b.owner c.to.number None) (upd b.context c.caller.number
            (next (Locked (Release release.Queued)) asks.Released)) j ≡ entries_by b.queue b.owner b.context j)
            (sym e.1) at_to
        | inr e ↦
            ap (λ (es : List SenderEntry). es ++ coming_by (upd b.owner c.to.number None m)
            (upd b.context c.caller.number (next (Locked (Release release.Queued)) asks.Released)) m)
            (upd_other b.queue c.to.number _ m e.1)
            ∙ ap (λ (q : Option ℕ). b.queue m ++ coming_by q (upd b.context c.caller.number
            (next (Locked (Release release.Queued)) asks.Released)) m) (upd_other b.owner c.to.number None m e.1)
            ∙ ap (λ (es : List SenderEntry). b.queue m ++ es) (other_comes (Locked (Release release.Queued)) asks.Released m at
            (comes_else m e.1) refl (b.owner m))
      ]

  -- THE CALLER BEGINS TO WAIT

  module _ (own : (b.seen c.caller.number).word ≡ (b.context c.caller.number).own)
      (run : IsRun (b.context c.caller.number).own) (v : c.caller.version ≡ (b.seen c.caller.number).word.version)
      (at : Here (Locked CommitWait)) (o : b.owner c.to.number ≡ Some c.caller.number)
      (ne : c.to.number ≢ c.caller.number) (present : is_present_in (b.seen c.to.number).word c.to ≡ true)
      (named : sender_of (entry_for c.caller c.message) ≡ c.caller)
      (told : message_of (entry_for c.caller c.message) ≡ c.message)
      (fresh : stands c.caller.number (b.queue c.to.number) ≡ false) where
    abbrev b' : Board
    b' = new (Locked CommitWait) asks.Won

    abbrev word : StateWord
    word = waiting_word c (b.context c.caller.number).own

    word_me : (b'.seen c.caller.number).word ≡ word
    word_me =
        ap (λ (u : Seen). u.word) (upd_same (noted g b.seen (b.context c.caller.number).position
        (Some (point_of c outcome.Waits))) c.caller.number _)

    word_other : (t : ℕ) → t ≢ c.caller.number → (b'.seen t).word ≡ (b.seen t).word
    word_other t d =
        ap (λ (u : Seen). u.word) (upd_other (noted g b.seen (b.context c.caller.number).position
        (Some (point_of c outcome.Waits))) c.caller.number _ t d)
        ∙ noted_word g b.seen (b.context c.caller.number).position (Some (point_of c outcome.Waits)) t

    other_same : (to : ThreadId) (t : ℕ) → t ≢ c.caller.number → SameTo to (b.seen t).word (b'.seen t).word
    other_same to t d =
        same_sends to (b.seen t).word (b'.seen t).word (ap (λ (u : StateWord). u.version) (word_other t d))
        (ap (λ (u : StateWord). sends_to to u.state) (word_other t d))

    version_is : (t : ℕ) → (b'.seen t).word.version ≡ (b.seen t).word.version
    version_is t = elim (eqb_tells t c.caller.number) [
      | inl e ↦
          subst (λ (m : ℕ). (b'.seen m).word.version ≡ (b.seen m).word.version) (sym e.1)
          (ap (λ (u : StateWord). u.version) word_me ∙ ap (λ (u : StateWord). u.version) (sym own))
      | inr e ↦ ap (λ (u : StateWord). u.version) (word_other t e.1)
    ]

    dead_is : (t : ℕ) → is_dead (b'.seen t).word ≡ is_dead (b.seen t).word
    dead_is t = elim (eqb_tells t c.caller.number) [
      | inl e ↦
          subst (λ (m : ℕ). is_dead (b'.seen m).word ≡ is_dead (b.seen m).word) (sym e.1)
          (ap is_dead word_me ∙ sym (ap is_dead own ∙ run_there (b.context c.caller.number).own run))
      | inr e ↦ ap is_dead (word_other t e.1)
    ]

    -- the caller waits for no thread of another number
    same_else : (n : ℕ) → n ≢ c.to.number → (t : ℕ) → SameTo (id_at b n) (b.seen t).word (b'.seen t).word
    same_else n d t = elim (eqb_tells t c.caller.number) [
      | inl e ↦
          subst (λ (m : ℕ). SameTo (id_at b n) (b.seen m).word (b'.seen m).word) (sym e.1)
          (neither_sends (id_at b n) (b.seen c.caller.number).word (b'.seen c.caller.number).word
          (ap (λ (u : StateWord). sends_to (id_at b n) u.state) own
          ∙ run_sends (b.context c.caller.number).own run (id_at b n))
          (ap (λ (u : StateWord). sends_to (id_at b n) u.state) word_me ∙ ids_apart c.to (id_at b n) (λ q. d (sym q))))
      | inr e ↦ other_same (id_at b n) t e.1
    ]

    elsewhere : (n : ℕ) → n ≢ c.to.number → waiters b' n ≡ waiters b n
    elsewhere n d =
        waiters_change b b' n (λ ws. ws) (λ _. refl) (dead_is n) (version_is n)
        (λ _. same_waiters (id_at b n) b.seen b'.seen (same_else n d) _
        ∙ ap (λ (es : List SenderEntry). waiters_in (id_at b n) b.seen (b.queue n ++ es))
        (other_comes (Locked CommitWait) asks.Won n at refl (comes_else n d) (b.owner n)))

    entry_waits : waits_for (id_at b c.to.number) entry (b'.seen (number_of entry)).word ≡ true
    entry_waits =
        ap (λ (m : ℕ). waits_for (id_at b c.to.number) entry (b'.seen m).word) (ap (λ (u : ThreadId). u.number) named)
        ∙ ap (waits_for (id_at b c.to.number) entry) word_me
        ∙ (λ d. eqb (sym own d).version (named d).version && same_id c.to (id_at b c.to.number))
        ∙ rw (eq-eqb (b.seen c.caller.number).word.version c.caller.version (sym v), eq-eqb c.to.number c.to.number refl)
        (eq-eqb c.to.version (b.seen c.to.number).word.version
        (sym (eqb-true _ _ (and_parts (eqb (b.seen c.to.number).word.version c.to.version)
        (not (is_dead (b.seen c.to.number).word)) present).0)))

    one_more : waiters_in (id_at b c.to.number) b'.seen (entry ∷ []) ≡ (c.caller, c.message) ∷ []
    one_more = ap (λ (w : Bool). map waiting_of (cond w (entry ∷ []) [])) entry_waits ∙ (λ d. (named d, told d) ∷ [])

    there : waiters b' c.to.number ≡ waiters b c.to.number ++ (c.caller, c.message) ∷ []
    there =
        waiters_change b b' c.to.number (λ ws. ws ++ (c.caller, c.message) ∷ []) (λ d. absurd (dead_present d))
        (dead_is c.to.number) (version_is c.to.number)
        (λ _. ap (λ (q : Option ℕ). waiters_in (id_at b c.to.number) b'.seen
        (b.queue c.to.number ++ coming_by q (upd b.context c.caller.number
        (next (Locked CommitWait) asks.Won)) c.to.number)) o
        ∙ ap (λ (es : List SenderEntry). waiters_in (id_at b c.to.number) b'.seen (b.queue c.to.number ++ es))
        (ap (λ (y : Context). coming_at y.at c.to.number) (upd_same b.context c.caller.number (next (Locked CommitWait) asks.Won))
        ∙ comes_to)
        ∙ append_waiters (id_at b c.to.number) b'.seen (b.queue c.to.number) (entry ∷ [])
        ∙ (λ d. apart_waiters (id_at b c.to.number) b.seen b'.seen c.caller.number (other_same (id_at b c.to.number))
        (b.queue c.to.number) fresh d ++ one_more d)
        ∙ ap (λ (es : List SenderEntry). waiters_in (id_at b c.to.number) b.seen es ++ (c.caller, c.message) ∷ [])
        (sym old_entries))
      where
        dead_present : is_dead (b.seen c.to.number).word ≡ true → ⊥
        dead_present d =
            let p = (and_parts (eqb (b.seen c.to.number).word.version c.to.version)
            (not (is_dead (b.seen c.to.number).word)) present).1 in let q : not true ≡ true = ap not (sym d)
            ∙ p in cc

        old_entries : b.queue c.to.number ++ coming_by (b.owner c.to.number) b.context c.to.number ≡ b.queue c.to.number
        old_entries =
            ap (λ (q : Option ℕ). b.queue c.to.number ++ coming_by q b.context c.to.number) o
            ∙ ap (λ (a : At). b.queue c.to.number ++ coming_at a c.to.number) at ∙ append-nil _

    waits : Lists (Locked CommitWait) asks.Won
    waits n = queued_by c c.manner (waiters b) n ∙ elim (eqb_tells n c.to.number) [
      | inl e ↦
          subst (λ (m : ℕ). upd (waiters b) c.to.number (waiters b c.to.number ++ (c.caller, c.message) ∷ []) m ≡ waiters b' m)
          (sym e.1) (upd_same (waiters b) c.to.number _ ∙ sym there)
      | inr e ↦ upd_other (waiters b) c.to.number _ n e.1 ∙ sym (elsewhere n e.1)
    ]

  -- every location, with every response that the board gives
  module _ (good : IsGood g b) (within : IsWithin b) (messages : MessagesHold b.context) (few : b.size ≤ 64)
      (tell : QueuesTell b c.caller.number) where
    waits_in : Here (Locked CommitWait) → (b.seen c.caller.number).word ≡ (b.context c.caller.number).own →
        Sound (Locked CommitWait) → Lists (Locked CommitWait) asks.Won
    waits_in at won h =
        waits won h.1.1.1.1.1.0.0 h.1.1.0.1 at h.1.0.0 h.0 h.1.0.1 named
        (entry_message c.caller c.message (subst FitsSend at (messages c.caller.number))) (tell.fresh c at won)
      where
        range : IsInRange b.size (id_at b c.caller.number)
        range = within.threads c.caller.number (ap is_threads at)

        inside : (n s : ℕ) → n < s → s ≤ 64 → n < 64
        inside n s l f = omega arith

        small : (m : ℕ) → m ≤ 1048575 → m < 2 ^ 20
        small m l = omega arith

        named : sender_of (entry_for c.caller c.message) ≡ c.caller
        named =
            entry_sender c.caller c.message (inside c.caller.number b.size range.number few)
            (subst (λ (m : ℕ). m < 2 ^ 20) (sym h.1.1.0.1) (small (b.seen c.caller.number).word.version range.last))

    pub send_lists : (p : SendAt) (r : Response) → Here p → Answers b (send.ask_of c (b.context c.caller.number).own p) r →
        Sound p → Lists p r
    send_lists (Outside LoadCaller) (asks.Word w) at a h =
        plain (Outside LoadCaller) (asks.Word w) at a tt tt (λ n. refl) (after_comes c.caller (alive_or_dead w reply.Own))
        (λ n. refl) (λ n. if_cases (λ (q : Option Point). lists_by q (waiters b) n ≡ waiters b n) (is_dead w) None
        (Some (point_of c outcome.Own)) (λ _. refl) (λ _. point_keeps outcome.Own (λ e. cc) n))
    send_lists (Outside AcquireReceiver) asks.Got at a h =
        plain (Outside AcquireReceiver) asks.Got at a tt a (λ n. refl) (λ n. refl) (λ n. refl) (λ n. refl)
    send_lists (Outside AcquireReceiver) (asks.Owned o) at a h =
        plain (Outside AcquireReceiver) (asks.Owned o) at a tt tt (λ n. refl) (λ n. refl) (λ n. refl) (λ n. refl)
    send_lists (Locked LoadReceiver) (asks.Word w) at a h =
        plain (Locked LoadReceiver) (asks.Word w) at a tt tt (λ n. refl) (after_load w) (λ n. refl) (refusal_keeps w)
    send_lists (Locked (StoreMail w)) asks.Stored at a h =
        plain (Locked (StoreMail w)) asks.Stored at a tt tt (λ n. refl) (λ n. refl) (λ n. refl) (λ n. refl)
    send_lists (Locked (CommitPass w)) asks.Won at a h =
        plain (Locked (CommitPass w)) asks.Won at a (passed_plain c.manner (b.context c.caller.number).own h.1.1.1.1.1.1.0.0) tt
        (λ n. refl) (λ n. refl) (λ n. refl) (point_keeps outcome.Passed (λ e. cc))
    send_lists (Locked (CommitPass w)) (asks.Lost v) at a h =
        plain (Locked (CommitPass w)) (asks.Lost v) at a tt tt (λ n. refl) (λ n. refl) (λ n. refl) (λ n. refl)
    send_lists (Locked (WakeReceiver w)) asks.Won at a h =
        plain (Locked (WakeReceiver w)) asks.Won at a (calm_alike w (delivered_word c w) refl
        (open_calm w.state (ap (λ (u : StateWord). is_open u.state) (sym a)
        ∙ (passing_of g b c.caller.number (b.context c.caller.number) c.manner c.caller c _ h).1)) refl) tt (λ n. refl)
        (λ n. if_cases (λ (q : SendLocked). coming_at (InSend c (Locked q)) n ≡ []) w.on (Release release.Passed)
        (AcquireReady w.priority) (λ _. refl) (λ _. refl)) (λ n. refl) (λ n. refl)
    send_lists (Locked (WakeReceiver w)) (asks.Lost v) at a h =
        plain (Locked (WakeReceiver w)) (asks.Lost v) at a tt tt (λ n. refl) (λ n. refl) (λ n. refl) (λ n. refl)
    send_lists (Locked ReloadReceiver) (asks.Word w) at a h =
        plain (Locked ReloadReceiver) (asks.Word w) at a tt tt (λ n. refl) (λ n. refl) (λ n. refl) (λ n. refl)
    send_lists (Locked (AcquireReady priority)) asks.Got at a h =
        plain (Locked (AcquireReady priority)) asks.Got at a tt tt (λ n. refl) (λ n. refl) (λ n. refl) (λ n. refl)
    send_lists (Locked (AcquireReady priority)) (asks.Owned o) at a h =
        plain (Locked (AcquireReady priority)) (asks.Owned o) at a tt tt (λ n. refl) (λ n. refl) (λ n. refl) (λ n. refl)
    send_lists (Pushing (PushReceiver priority)) asks.Released at a h =
        plain (Pushing (PushReceiver priority)) asks.Released at a tt tt (λ n. refl) (λ n. refl) (λ n. refl) (λ n. refl)
    send_lists (Locked (Release release.Passed)) asks.Released at a h =
        plain (Locked (Release release.Passed)) asks.Released at a tt (passed_owner c.manner h) (λ n. refl)
        (after_comes c.caller (passed_end c.manner)) (λ n. refl) (λ n. refl)
    send_lists (Locked (Release release.Dead)) asks.Released at a h =
        plain (Locked (Release release.Dead)) asks.Released at a tt h.0 (λ n. refl) (λ n. refl) (λ n. refl) (λ n. refl)
    send_lists (Locked (Release (release.Refused r))) asks.Released at a h =
        plain (Locked (Release (release.Refused r))) asks.Released at a tt h.0 (λ n. refl) (λ n. refl) (λ n. refl) (λ n. refl)
    send_lists (Locked (Release release.Queued)) asks.Released at a h = puts_in at h.1.1.1.0.0
    send_lists (Outside (CheckCaller r)) (asks.Word w) at a h =
        plain (Outside (CheckCaller r)) (asks.Word w) at a tt tt (λ n. refl) (after_comes c.caller (alive_or_dead w r))
        (λ n. refl) (λ n. refl)
    send_lists (Locked CommitWait) asks.Won at a h = waits_in at a h
    send_lists (Locked CommitWait) (asks.Lost v) at a h =
        plain (Locked CommitWait) (asks.Lost v) at a tt tt (λ n. refl) (λ n. refl) (λ n. refl) (λ n. refl)
    send_lists (Outside (Ended w)) r at a h = absurd h.0
    send_lists p r at a h = absurd a
