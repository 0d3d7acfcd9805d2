-- The rows of a receive, a pick and a gone event, as a memory shows them.
use Rattle.std.proofs.Common.{◌≡◌, ◌≢◌, ℕ, Bool, true, false, List, [], ◌∷◌, ◌++◌, length, get_or, remove, refl, sym, ap, ◌∙◌, subst, Option, Some, None, position}
use Rattle.std.proofs.lemmas.Bool.{eq-eqb, false≢true}
use Rattle.std.proofs.Math.Seq.{get_or-append_seam}
use Rattle.std.proofs.lemmas.List.{append-nil, append_assoc}
use Rattle.k_ids.specs.declared.threads.ThreadId.{ThreadId}
use Rattle.k_ids.specs.declared.threads.Status.{Status}
use Rattle.k_ids.specs.declared.threads.Status.TheVariants as status
use Rattle.k_ids.specs.declared.calls.Phase.TheVariants as phase
use Rattle.k_ids.specs.declared.calls.Outcome.TheVariants as outcome
use Rattle.k_ids.specs.declared.calls.Reply.TheVariants as reply
use Rattle.k_ids.specs.declared.state_word.Result4.TheVariants as result4
use Rattle.k_ids.specs.declared.state_word.State.TheVariants as state
use Rattle.k_ids.specs.declared.state_word.StateWord.{StateWord}
use Rattle.k_senders.specs.Queue.{Queue}
use Rattle.k_locks.specs.Shown.{shows}
use Rattle.k_model.specs.State.{KernelState, Place, Waiting, admits, answered, is_dead, waits_for_absent, with_place, with_status}
use Rattle.k_model.specs.Step.{acted, made, entry_at, is_enabled, is_own, match_at, no_one, receive, received, status_after, taken}
use Rattle.k_model.specs.Step.{without as cut}
use Rattle.k_model.proofs.Maps.{upd_cases, upd_other, upd_same}
use Rattle.k_shown.specs.Memory.{Memory, Shows, joined_of, table, waiting, with_queue, with_word}
use Rattle.k_shown.specs.Rows.{Alike, Answers, Gives, IsFirst, IsIn, IsUnwanted, IsWordOf, call_of, called_by, gone_of, next_serial, pick_of, sent_line, taking, told}
use Rattle.k_shown.proofs.Shown.{shows_answered, shows_called, shows_queue, shows_status}
use Rattle.k_shown.proofs.States.{upd_twice}
use Rattle.k_lists.proofs.Positions.{absent_found, position_behind, remove_behind}
use Rattle.k_shown.proofs.Alike.{answers, may_call, present_in, sent_replies, shows_alike, shows_sent, shows_turned, status_is, version_is, waits_is}
use Rattle.k_shown.proofs.Statuses.{run_sends, picking_sends}

-- the rows of a receive
module _ (k : KernelState) (me : ThreadId) (serial : ℕ) (from : Option ThreadId) (zero : Bool) where
  receive_own : is_own from me ≡ true → receive k me serial from zero ≡ (answered k me serial reply.Own, outcome.Own)
  unfolding receive
  receive_own e = rw e refl

  receive_takes : (at : ℕ) → is_own from me ≡ false → match_at k me from ≡ Some at → receive k me serial from zero ≡ (taken k me serial at, outcome.Took (entry_at k me.number at).0 (entry_at k me.number at).1)
  unfolding receive received
  receive_takes at e p = rw (e, p) refl

  receive_nobody : is_own from me ≡ false → match_at k me from ≡ None → zero ≡ true → receive k me serial from zero ≡ (answered k me serial reply.Nobody, outcome.Nobody)
  unfolding receive received
  receive_nobody e p z = rw (e, p, z) refl

  receive_waits : is_own from me ≡ false → match_at k me from ≡ None → zero ≡ false → receive k me serial from zero ≡ (with_status k me.number (status.Receiving from), outcome.Waits)
  unfolding receive received
  receive_waits e p z = rw (e, p, z) refl

module _ (m : Memory) (k : KernelState) (h : Shows m k) (me : ThreadId) (from : Option ThreadId) where
  -- nobody is found
  nobody_at : IsUnwanted from (waiting (m.queue me.number)) → match_at k me from ≡ None
  nobody_at u = ap (λ (ws : List Waiting). position (λ (x : Waiting). admits from x.0) ws) (h.waiting me.number) ∙ absent_found (λ (x : Waiting). admits from x.0) (waiting (m.queue me.number)) u

  -- A message is taken.
  module _ (w : Waiting) (before after : List Waiting) (f : IsFirst from (waiting (m.queue me.number)) w before after) where
    list_is : (k.place me.number).waiting ≡ before ++ w ∷ after
    list_is = h.waiting me.number ∙ f.list

    first_at : match_at k me from ≡ Some (length before)
    first_at = ap (λ (ws : List Waiting). position (λ (x : Waiting). admits from x.0) ws) list_is ∙ position_behind (λ (x : Waiting). admits from x.0) before w after f.unwanted f.wanted

    pub first_is : entry_at k me.number (length before) ≡ w
    first_is = ap (λ (ws : List Waiting). get_or ws (length before) no_one) list_is ∙ get_or-append_seam before w after no_one

    shows_taken : (serial : ℕ) (v : StateWord) (q : Queue) → (m.word w.0.number).version ≡ w.0.version → IsWordOf w.0 (status_after (k.place w.0.number).joined me) false v → waiting q ≡ before ++ after → Shows (taking m me w.0 v q) (taken k me serial (length before))
    unfolding taken
    shows_taken serial v q there iv rest =
        let at = length before in
        let p : Place = record (k.place me.number) { waiting = remove (k.place me.number).waiting at } in
        let less : remove (k.place me.number).waiting at ≡ waiting q = ap (λ (ws : List Waiting). remove ws at) list_is ∙ remove_behind before w after ∙ sym rest in
        let m1 = with_queue m me.number q in
        let k1 = with_place k me.number p in
        let h1 = shows_queue m k me.number q p (record { version = h.version me.number; status = h.status me.number; joined = h.joined me.number; waiting = less }) h in
        let h2 = shows_answered m1 k1 me serial (reply.Got w.0 w.1) h1 in
        let h3 = shows_sent m1 (answered k1 me serial (reply.Got w.0 w.1)) w.0 (k.place w.0.number).serial (status_after (k.place w.0.number).joined me) v (iv.version ∙ sym there) iv.status iv.joined h2 in
        rw first_is h3

    pub taken_replies : (serial : ℕ) → (taken k me serial (length before)).replies ≡ k.replies ++ (told me serial (reply.Got w.0 w.1) ∷ sent_line w.0 (k.place w.0.number).serial (status_after (k.place w.0.number).joined me))
    unfolding taken
    taken_replies serial =
        rw first_is (sent_replies (answered (cut k me.number (length before)) me serial (reply.Got w.0 w.1)) w.0 (k.place w.0.number).serial (status_after (k.place w.0.number).joined me)
        ∙ append_assoc k.replies (told me serial (reply.Got w.0 w.1) ∷ []) (sent_line w.0 (k.place w.0.number).serial (status_after (k.place w.0.number).joined me)))

    took : (serial : ℕ) (zero : Bool) → is_own from me ≡ false → receive k me serial from zero ≡ (taken k me serial (length before), outcome.Took w.0 w.1)
    took serial zero other = receive_takes k me serial from zero (length before) other first_at ∙ ap (λ (x : Waiting). (taken k me serial (length before), outcome.Took x.0 x.1)) first_is

-- who has a status that a sender hasn't is another
apart_sender : (m : Memory) (me who : ThreadId) (s : Status) → IsIn m me s → IsIn m who (status.Sending me) → (s ≡ status.Sending me → ⊥) → who.number ≢ me.number
apart_sender m me who s a b never e = never (sym a.status ∙ ap (λ (n : ℕ). shows (m.word n).state) (sym e) ∙ b.status)

module _ (m m' : Memory) (k : KernelState) (me : ThreadId) (from : Option ThreadId) (zero : Bool) (h : Shows m k) (runs : IsIn m me status.Run) where
  h1 : Shows m (called_by k me)
  h1 = shows_called m k me (next_serial k me) h

  pub own_row : is_own from me ≡ true → Alike m m' → Answers k me (phase.Receive from zero) outcome.Own reply.Own m'
  unfolding acted made
  own_row own a = answers m k h m' me (phase.Receive from zero) outcome.Own reply.Own runs a (receive_own (called_by k me) me (next_serial k me) from zero own)

  pub nobody_row : is_own from me ≡ false → IsUnwanted from (waiting (m.queue me.number)) → zero ≡ true → Alike m m' → Answers k me (phase.Receive from zero) outcome.Nobody reply.Nobody m'
  unfolding acted made
  nobody_row other none now a =
      answers m k h m' me (phase.Receive from zero) outcome.Nobody reply.Nobody runs a
      (receive_nobody (called_by k me) me (next_serial k me) from zero other (nobody_at m (called_by k me) h1 me from none) now)

  pub waits_row : is_own from me ≡ false → IsUnwanted from (waiting (m.queue me.number)) → zero ≡ false → (w : StateWord) → IsWordOf me (status.Receiving from) false w → Alike (with_word m me.number w) m' → Gives k (call_of k me (phase.Receive from zero)) outcome.Waits (with_status (called_by k me) me.number (status.Receiving from)) [] m'
  unfolding acted made
  waits_row other none long w iw a = record {
    enabled = may_call m k h me (phase.Receive from zero) runs;
    makes = receive_waits (called_by k me) me (next_serial k me) from zero other (nobody_at m (called_by k me) h1 me from none) long;
    replies = sym (append-nil k.replies);
    shows = shows_alike _ m' _ (shows_turned m (called_by k me) h1 me status.Run runs (status.Receiving from) w iw) a;
  }

  module _ (w : Waiting) (before after : List Waiting) (f : IsFirst from (waiting (m.queue me.number)) w before after) (sends : IsIn m w.0 (status.Sending me)) where
    apart : w.0.number ≢ me.number
    apart = apart_sender m me w.0 status.Run runs sends (run_sends me)

    sender_same : (called_by k me).place w.0.number ≡ k.place w.0.number
    sender_same = upd_other k.place me.number (record (k.place me.number) { serial = next_serial k me }) w.0.number apart

    joined_is : ((called_by k me).place w.0.number).joined ≡ joined_of (m.word w.0.number).state
    joined_is = ap (λ (p : Place). p.joined) sender_same ∙ h.joined w.0.number

    pub takes_row : is_own from me ≡ false → (v : StateWord) (q : Queue) → IsWordOf w.0 (status_after (joined_of (m.word w.0.number).state) me) false v → waiting q ≡ before ++ after → Alike (taking m me w.0 v q) m' → Gives k (call_of k me (phase.Receive from zero)) (outcome.Took w.0 w.1) (taken (called_by k me) me (next_serial k me) (length before)) (told me (next_serial k me) (reply.Got w.0 w.1) ∷ sent_line w.0 (k.place w.0.number).serial (status_after (joined_of (m.word w.0.number).state) me)) m'
    unfolding acted made
    takes_row other v q iv rest a =
        let k1 = called_by k me in
        let serial = next_serial k me in
        let iv' : IsWordOf w.0 (status_after (k1.place w.0.number).joined me) false v = record { version = iv.version; status = iv.status ∙ ap (λ (b : Bool). status_after b me) (sym joined_is); joined = iv.joined } in
        record {
          enabled = may_call m k h me (phase.Receive from zero) runs;
          makes = took m k1 h1 me from w before after f serial zero other;
          replies = taken_replies m k1 h1 me from w before after f serial ∙ (λ d. k.replies ++ (told me serial (reply.Got w.0 w.1) ∷ sent_line w.0 (sender_same d).serial (status_after (joined_is d) me)));
          shows = shows_alike _ m' _ (shows_taken m k1 h1 me from w before after f serial v q sends.version iv' rest) a;
        }

module _ (m m' : Memory) (k : KernelState) (me : ThreadId) (h : Shows m k) (picks : IsIn m me status.Picking) where
  may_pick : is_enabled k (pick_of k me) ≡ true
  may_pick = rw (version_is m k h me status.Picking picks, status_is m k h me status.Picking picks, eq-eqb me.version me.version refl, eq-eqb (k.place me.number).serial (k.place me.number).serial refl) refl

  -- the caller runs, while it looks at its list
  module _ (u : StateWord) (iu : IsWordOf me status.Run false u) where
    shown_running : Shows (with_word m me.number u) (with_status k me.number status.Run)
    shown_running = shows_turned m k h me status.Picking picks status.Run u iu

    pub pick_takes_row : (w : Waiting) (after : List Waiting) → waiting (m.queue me.number) ≡ w ∷ after → IsIn m w.0 (status.Sending me) → (v : StateWord) (q : Queue) → IsWordOf w.0 (status_after (joined_of (m.word w.0.number).state) me) false v → waiting q ≡ after → Alike (taking (with_word m me.number u) me w.0 v q) m' → Gives k (pick_of k me) (outcome.Took w.0 w.1) (taken (with_status k me.number status.Run) me (k.place me.number).serial 0) (told me (k.place me.number).serial (reply.Got w.0 w.1) ∷ sent_line w.0 (k.place w.0.number).serial (status_after (joined_of (m.word w.0.number).state) me)) m'
    unfolding acted
    pick_takes_row w after list sends v q iv rest a =
        let k1 = with_status k me.number status.Run in
        let m1 = with_word m me.number u in
        let serial = (k.place me.number).serial in
        let f : IsFirst None (waiting (m1.queue me.number)) w [] after = record { list = list; unwanted = tt; wanted = refl } in
        let apart : w.0.number ≢ me.number = apart_sender m me w.0 status.Picking picks sends (picking_sends me) in
        let same : k1.place w.0.number ≡ k.place w.0.number = upd_other k.place me.number (record (k.place me.number) { status = status.Run; joined = false }) w.0.number apart in
        let joined_is : (k1.place w.0.number).joined ≡ joined_of (m.word w.0.number).state = ap (λ (p : Place). p.joined) same ∙ h.joined w.0.number in
        let iv' : IsWordOf w.0 (status_after (k1.place w.0.number).joined me) false v = record { version = iv.version; status = iv.status ∙ ap (λ (b : Bool). status_after b me) (sym joined_is); joined = iv.joined } in
        let there : (m1.word w.0.number).version ≡ w.0.version = ap (λ (x : StateWord). x.version) (upd_other m.word me.number u w.0.number apart) ∙ sends.version in
        record {
          enabled = may_pick;
          makes = took m1 k1 shown_running me None w [] after f serial false refl;
          replies = taken_replies m1 k1 shown_running me None w [] after f serial ∙ (λ d. k.replies ++ (told me serial (reply.Got w.0 w.1) ∷ sent_line w.0 (same d).serial (status_after (joined_is d) me)));
          shows = shows_alike _ m' _ (shows_taken m1 k1 shown_running me None w [] after f serial v q there iv' rest) a;
        }

  -- nobody waits: the caller waits for any
  pub pick_waits_row : waiting (m.queue me.number) ≡ [] → (w : StateWord) → IsWordOf me (status.Receiving None) false w → Alike (with_word m me.number w) m' → Gives k (pick_of k me) outcome.Waits (with_status (with_status k me.number status.Run) me.number (status.Receiving None)) [] m'
  unfolding acted
  pick_waits_row none w iw a =
      let k1 = with_status k me.number status.Run in
      let list : (k1.place me.number).waiting ≡ [] = upd_cases (λ (p : Place). p.waiting ≡ []) k.place me.number (record (k.place me.number) { status = status.Run; joined = false }) me.number (λ _. h.waiting me.number ∙ none) (λ _. h.waiting me.number ∙ none) in
      let nobody : match_at k1 me None ≡ None = ap (λ (ws : List Waiting). position (λ (x : Waiting). admits None x.0) ws) list ∙ absent_found (λ (x : Waiting). admits None x.0) [] tt in
      let u : StateWord = record w { state = state.Run result4.Plain } in
      let running = with_word m me.number u in
      let shown : Shows running k1 = shown_running u (record { version = iw.version; status = refl; joined = refl }) in
      let there : (running.word me.number).version ≡ w.version = ap (λ (x : StateWord). x.version) (upd_same m.word me.number u) in
      let twice : with_word running me.number w ≡ with_word m me.number w = ap (λ (f : ℕ → StateWord). record m { word = f }) (upd_twice m.word me.number u w) in
      record {
        enabled = may_pick;
        makes = receive_waits k1 me (k.place me.number).serial None false refl nobody refl;
        replies = sym (append-nil k.replies);
        shows = shows_alike _ m' _ (subst (λ (x : Memory). Shows x (with_status k1 me.number (status.Receiving None))) twice (shows_status running k1 me.number w (status.Receiving None) (sym there) iw.status iw.joined shown)) a;
      }

alive_waiting : (k : KernelState) (s : Status) → waits_for_absent k s ≡ true → is_dead s ≡ false
alive_waiting k status.Dead w = absurd (false≢true w)
alive_waiting k status.Run w = refl
alive_waiting k (status.Sending to) w = refl
alive_waiting k (status.Receiving from) w = refl
alive_waiting k status.Picking w = refl
alive_waiting k status.Ended w = refl

-- A thread that waits for one that isn't there runs.
pub gone_row : (m m' : Memory) (k : KernelState) (me : ThreadId) (s : Status) (w : StateWord) → Shows m k → IsIn m me s → waits_for_absent (table m) s ≡ true → IsWordOf me status.Run false w → Alike (with_word m me.number w) m' → Gives k (gone_of k me) outcome.Freed (answered (with_status k me.number status.Run) me (k.place me.number).serial reply.Gone) (told me (k.place me.number).serial reply.Gone ∷ []) m'
unfolding acted
gone_row m m' k me s w h is waits iw a =
    let serial = (k.place me.number).serial in
    record {
      enabled = rw (present_in m k h me s is (alive_waiting (table m) s waits), status_is m k h me s is, waits_is m k h s ∙ waits, eq-eqb serial serial refl) refl;
      makes = refl;
      replies = refl;
      shows = shows_alike _ m' _ (shows_answered _ _ me serial reply.Gone (shows_turned m k h me s is status.Run w iw)) a;
    }
