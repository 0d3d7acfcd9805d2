-- The rows of a create, a destroy and an end, as a memory shows them.
use Rattle.std.proofs.Common.{◌≡◌, ℕ, ◌+◌, true, false, not, List, [], ◌∷◌, ◌++◌, refl, sym, ap, ◌∙◌, subst, ◌<◌, Some, None}
use Rattle.std.proofs.lemmas.Bool.{and_parts, eqb-true}
use Rattle.std.proofs.lemmas.List.{append-nil}
use Rattle.std.specs.List.{filter}
use Rattle.k_ids.specs.declared.threads.ThreadId.{ThreadId}
use Rattle.k_ids.specs.declared.threads.Status.TheVariants as status
use Rattle.k_ids.specs.declared.calls.Phase.TheVariants as phase
use Rattle.k_ids.specs.declared.calls.Outcome.TheVariants as outcome
use Rattle.k_ids.specs.declared.calls.Reply.TheVariants as reply
use Rattle.k_ids.specs.declared.state_word.StateWord.{StateWord}
use Rattle.k_senders.specs.Queue.{Queue}
use Rattle.k_locks.specs.Numbers.{lowest_free, version_at, alive as alive_numbers, worn as worn_numbers}
use Rattle.k_locks.specs.Shown.{shows, found_in, is_present_in}
use Rattle.k_model.specs.Maps.{lowest, upd}
use Rattle.k_model.specs.State.{KernelState, Place, Waiting, answered, found_of, id_of, is_present, same_id, with_status}
use Rattle.k_model.specs.Step.{acted, made, alive, create, created, destroy, is_free, killed, outcome_of, renewed, worn}
use Rattle.k_model.proofs.Maps.{lowest-Some, upd_cases, upd_other, upd_same}
use Rattle.k_model.proofs.Places.{killed_joined, killed_status, killed_version, killed_waiting}
use Rattle.k_shown.specs.Memory.{Memory, Shows, joined_of, waiting, with_word}
use Rattle.k_shown.specs.Rows.{Alike, Answers, Gives, IsIn, IsWordOf, call_of, called_by, next_serial, told, waiting_without}
use Rattle.k_shown.specs.Sound.{IsSoundNumbers}
use Rattle.k_shown.proofs.Shown.{shows_answered, shows_called, shows_word}
use Rattle.k_shown.proofs.Alike.{answers, found_is, may_call, shows_alike, shows_turned, there_is}
use Rattle.k_shown.proofs.SendRows.{same_turned}
use Rattle.k_shown.proofs.Numbers.{alive_is, lowest_is, worn_is}

-- the rows of a create and a destroy
module _ (k : KernelState) (me : ThreadId) (serial : ℕ) where
  create_makes : (n : ℕ) → lowest (λ i. is_free (k.place i)) k.size ≡ Some n → create k me serial ≡ (answered (renewed k n) me serial (reply.Made (id_of (renewed k n) n)), outcome.Made (id_of (renewed k n) n))
  unfolding create created
  create_makes n e = rw e refl

  create_full : lowest (λ i. is_free (k.place i)) k.size ≡ None → create k me serial ≡ (answered k me serial (reply.Full (alive k) (worn k)), outcome.Full (alive k) (worn k))
  unfolding create created
  create_full e = rw e refl

  module _ (who : ThreadId) where
    destroy_own : same_id me who ≡ true → destroy k me serial who ≡ (answered k me serial reply.Own, outcome.Own)
    unfolding destroy
    destroy_own e = rw e refl

    destroy_absent : same_id me who ≡ false → is_present k who ≡ false → destroy k me serial who ≡ (answered k me serial (reply.Absent (found_of k who.number)), outcome.Absent (found_of k who.number))
    unfolding destroy
    destroy_absent e p = rw (e, p) refl

    destroy_kills : same_id me who ≡ false → is_present k who ≡ true → destroy k me serial who ≡ (answered (killed k who) me serial reply.Killed, outcome.Killed)
    unfolding destroy
    destroy_kills e p = rw (e, p) refl

pub killed_size : (k : KernelState) (who : ThreadId) → (killed k who).size ≡ k.size
unfolding killed
killed_size k who = refl

pub killed_replies : (k : KernelState) (who : ThreadId) → (killed k who).replies ≡ k.replies
unfolding killed
killed_replies k who = refl

-- the victim is dead, and nobody waits to send to it, or for it in another's list
shows_killed : (m : Memory) (k : KernelState) (who : ThreadId) (w : StateWord) (qs : ℕ → Queue) → Shows m k → (m.word who.number).version ≡ who.version → IsWordOf who status.Dead false w → ((n : ℕ) → waiting (qs n) ≡ waiting_without m who n) → Shows (record m { word = upd m.word who.number w; queue = qs }) (killed k who)
shows_killed m k who w qs h there iw less =
    let without : List Waiting → List Waiting = filter (λ x. not (same_id x.0 who)) in
    record {
      size = killed_size k who ∙ h.size;
      version = λ n. killed_version k who n ∙ h.version n ∙ upd_cases (λ (x : StateWord). (m.word n).version ≡ x.version) m.word who.number w n (λ e. ap (λ (j : ℕ). (m.word j).version) e ∙ there ∙ sym iw.version) (λ _. refl);
      status = λ n. killed_status k who n ∙ upd_cases (λ (x : StateWord). upd (λ u. (k.place u).status) who.number status.Dead n ≡ shows x.state) m.word who.number w n
          (λ e. ap (upd (λ u. (k.place u).status) who.number status.Dead) e ∙ upd_same (λ u. (k.place u).status) who.number status.Dead ∙ sym iw.status)
          (λ other. upd_other (λ u. (k.place u).status) who.number status.Dead n other ∙ h.status n);
      joined = λ n. killed_joined k who n ∙ upd_cases (λ (x : StateWord). upd (λ u. (k.place u).joined) who.number false n ≡ joined_of x.state) m.word who.number w n
          (λ e. ap (upd (λ u. (k.place u).joined) who.number false) e ∙ upd_same (λ u. (k.place u).joined) who.number false ∙ sym iw.joined)
          (λ other. upd_other (λ u. (k.place u).joined) who.number false n other ∙ h.joined n);
      waiting = λ n. killed_waiting k who n ∙ (λ d. upd (λ u. without (h.waiting u d)) who.number [] n) ∙ sym (less n);
    }

module _ (m m' : Memory) (k : KernelState) (me : ThreadId) (h : Shows m k) (runs : IsIn m me status.Run) where
  h1 : Shows m (called_by k me)
  h1 = shows_called m k me (next_serial k me) h

  -- CREATE
  pub full_row : (program priority : ℕ) → IsSoundNumbers m → lowest_free m.numbers ≡ None → Alike m m' → Answers k me (phase.Create program priority) (outcome.Full (alive_numbers m.numbers) (worn_numbers m.numbers)) (reply.Full (alive_numbers m.numbers) (worn_numbers m.numbers)) m'
  unfolding acted made
  full_row program priority s none a =
      let k1 = called_by k me in
      answers m k h m' me (phase.Create program priority) _ _ runs a
      (rw (alive_is m k1 h1 s, worn_is m k1 h1 s) (create_full k1 me (next_serial k me) (sym (lowest_is m k1 h1 s) ∙ none)))

  pub made_row : (program priority n : ℕ) → IsSoundNumbers m → lowest_free m.numbers ≡ Some n → (id : ThreadId) → id ≡ record { number = n; version = version_at m.numbers n + 1 } → (w : StateWord) → IsWordOf id status.Run false w → Alike (with_word m n w) m' → Gives k (call_of k me (phase.Create program priority)) (outcome.Made id) (answered (renewed (called_by k me) n) me (next_serial k me) (reply.Made id)) (told me (next_serial k me) (reply.Made id) ∷ []) m'
  unfolding acted made
  made_row program priority n s some id is w iw a =
      let k1 = called_by k me in
      let found : lowest (λ i. is_free (k1.place i)) k1.size ≡ Some n = sym (lowest_is m k1 h1 s) ∙ some in
      let inside = subst (λ x. n < x) h1.size (lowest-Some (λ i. is_free (k1.place i)) k1.size n found).0 in
      let p : Place = record (k1.place n) { version = (k1.place n).version + 1; status = status.Run; joined = false; serial = 0 } in
      let next : p.version ≡ id.version = ap (λ x. x + 1) (h1.version n ∙ sym (s.version n inside)) ∙ sym (ap (λ (i : ThreadId). i.version) is) in
      let made_id : id_of (renewed k1 n) n ≡ id = (λ d. record { number = n; version = (ap (λ (x : Place). x.version) (upd_same k1.place n p) ∙ next ∙ ap (λ (i : ThreadId). i.version) is) d }) ∙ sym is in
      record {
        enabled = may_call m k h me (phase.Create program priority) runs;
        makes = rw (← made_id) (create_makes k1 me (next_serial k me) n found);
        replies = refl;
        shows = shows_alike _ m' _ (shows_answered _ _ me (next_serial k me) (reply.Made id) (shows_word m k1 n w p (record { version = next ∙ sym iw.version; status = sym iw.status; joined = sym iw.joined; waiting = h1.waiting n }) h1)) a;
      }

  -- DESTROY
  module _ (who : ThreadId) where
    pub own_row : same_id who me ≡ true → Alike m m' → Answers k me (phase.Destroy who) outcome.Own reply.Own m'
    unfolding acted made
    own_row own a = answers m k h m' me (phase.Destroy who) _ _ runs a (destroy_own (called_by k me) me (next_serial k me) who (same_turned me who ∙ own))

    pub absent_row : same_id who me ≡ false → is_present_in (m.word who.number) who ≡ false → Alike m m' → Answers k me (phase.Destroy who) (outcome.Absent (found_in who.number (m.word who.number))) (reply.Absent (found_in who.number (m.word who.number))) m'
    unfolding acted made
    absent_row other gone a =
        let k1 = called_by k me in
        answers m k h m' me (phase.Destroy who) _ _ runs a
        (rw (← found_is m k1 h1 who.number) (destroy_absent k1 me (next_serial k me) who (same_turned me who ∙ other) (there_is m k1 h1 who ∙ gone)))

    pub kills_is : same_id who me ≡ false → is_present_in (m.word who.number) who ≡ true → outcome_of k (call_of k me (phase.Destroy who)) ≡ (answered (killed (called_by k me) who) me (next_serial k me) reply.Killed, outcome.Killed)
    unfolding acted made
    kills_is other here = destroy_kills (called_by k me) me (next_serial k me) who (same_turned me who ∙ other) (there_is m (called_by k me) h1 who ∙ here)

    pub killed_row : same_id who me ≡ false → is_present_in (m.word who.number) who ≡ true → (w : StateWord) (qs : ℕ → Queue) → IsWordOf who status.Dead false w → ((n : ℕ) → waiting (qs n) ≡ waiting_without m who n) → Alike (record m { word = upd m.word who.number w; queue = qs }) m' → Gives k (call_of k me (phase.Destroy who)) outcome.Killed (answered (killed (called_by k me) who) me (next_serial k me) reply.Killed) (told me (next_serial k me) reply.Killed ∷ []) m'
    killed_row other here w qs iw less a =
        let k1 = called_by k me in
        record {
          enabled = may_call m k h me (phase.Destroy who) runs;
          makes = kills_is other here;
          replies = ap (λ x. x ++ told me (next_serial k me) reply.Killed ∷ []) (killed_replies k1 who);
          shows = shows_alike _ m' _ (shows_answered _ _ me (next_serial k me) reply.Killed (shows_killed m k1 who w qs h1 (eqb-true _ _ (and_parts _ _ here).0) iw less)) a;
        }

  -- END
  pub end_row : (w : StateWord) → IsWordOf me status.Ended false w → Alike (with_word m me.number w) m' → Gives k (call_of k me phase.End) outcome.Ended (with_status (called_by k me) me.number status.Ended) [] m'
  unfolding acted made
  end_row w iw a = record {
    enabled = may_call m k h me phase.End runs;
    makes = refl;
    replies = sym (append-nil k.replies);
    shows = shows_alike _ m' _ (shows_turned m (called_by k me) h1 me status.Run runs status.Ended w iw) a;
  }
