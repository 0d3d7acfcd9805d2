-- What the specification makes of the lines.
use Rattle.std.proofs.Common.{◌≡◌, ◌≢◌, ℕ, ◌+◌, Bool, true, false, cond, refl, sym, ap, ◌∙◌}
use Rattle.std.proofs.Common.{subst, List, [], ◌∷◌, ◌++◌, Option, Some, None, inl, inr, remove}
use Rattle.std.proofs.lemmas.Bool.{eq-eqb}
use Rattle.std.proofs.lemmas.Bool.Decides.{eqb_tells}
use Rattle.std.specs.Option.{option_or}
use Rattle.k_ids.specs.declared.threads.ThreadId.{ThreadId}
use Rattle.k_ids.specs.declared.threads.Message.{Message}
use Rattle.k_ids.specs.declared.threads.Status.{Status}
use Rattle.k_ids.specs.declared.threads.Status.TheVariants as status
use Rattle.k_ids.specs.declared.calls.Reply.{Reply}
use Rattle.k_ids.specs.declared.calls.Reply.TheVariants as reply
use Rattle.k_model.specs.Maps.{upd}
use Rattle.k_model.specs.State.{KernelState, Place, Waiting, with_place, with_status, answered, is_run}
use Rattle.k_model.specs.Step.{called, sent, passed, queued, taken, entry_at, without}
use Rattle.k_model.specs.Step.{status_after, killed, left_everywhere, renewed}
use Rattle.k_model.specs.Answered.{reply_to, is_reply_to}
use Rattle.k_model.proofs.Maps.{upd_same, upd_other}
use Rattle.k_model.proofs.Answered.{reply_push, other_number}
use Rattle.k_points.specs.Shown.{Line, line_by, line, Tells, line_called, line_status}
use Rattle.k_points.specs.Shown.{line_answered, line_sent, line_passed, line_made}

-- lists aren't in the lines
pub listed : (k : KernelState) (f : ℕ → Line) (m : ℕ) (ws : List Waiting) → Tells k f →
    Tells (with_place k m (record (k.place m) { waiting = ws })) f
listed k f m ws t n =
    elim (eqb_tells n m) [
      | inl e ↦
          subst (λ (j : ℕ). line (with_place k m (record (k.place m) { waiting = ws })) j ≡ f j) (sym e.1)
          (ap (line_by k.replies m) (upd_same k.place m (record (k.place m) { waiting = ws })) ∙ t m)
      | inr e ↦ ap (line_by k.replies n) (upd_other k.place m (record (k.place m) { waiting = ws }) n e.1) ∙ t n
    ]

or_none : (o : Option Reply) → option_or o None ≡ o
or_none None = refl
or_none (Some a) = refl

pub tells_place : (k : KernelState) (f : ℕ → Line) (m : ℕ) (p : Place) (v : Line) → line_by k.replies m p ≡ v → Tells k f →
    Tells (with_place k m p) (upd f m v)
tells_place k f m p v h t n =
    elim (eqb_tells n m) [
      | inl e ↦
          subst (λ (j : ℕ). line (with_place k m p) j ≡ upd f m v j) (sym e.1)
          (ap (line_by k.replies m) (upd_same k.place m p) ∙ h ∙ sym (upd_same f m v))
      | inr e ↦ ap (line_by k.replies n) (upd_other k.place m p n e.1) ∙ t n ∙ sym (upd_other f m v n e.1)
    ]

pub tells_status : (k : KernelState) (f : ℕ → Line) (m : ℕ) (s : Status) → Tells k f →
    Tells (with_status k m s) (line_status f m s)
tells_status k f m s t =
    tells_place k f m (record (k.place m) { status = s; joined = false }) (record (f m) { status = s; joined = false })
    (ap (λ (l : Line). record l { status = s; joined = false }) (t m)) t

pub tells_called : (k : KernelState) (f : ℕ → Line) (me : ThreadId) (serial : ℕ) → (f me.number).version ≡ me.version →
    reply_to k.replies me serial ≡ None → Tells k f → Tells (called k me serial) (line_called f me.number serial)
tells_called k f me serial ver none t =
    tells_place k f me.number (record (k.place me.number) { serial = serial })
    (record (f me.number) { serial = serial; told = None })
    (let q : (k.place me.number).version ≡ me.version = ap (λ (l : Line). l.version) (t me.number) ∙ ver in
    let z : reply_to k.replies (record { number = me.number; version = (k.place me.number).version }) serial ≡ None =
    ap (λ (x : ℕ). reply_to k.replies (record { number = me.number; version = x }) serial) q ∙ none in
    λ d. record (t me.number d) { serial = serial; told = z d }) t

pub tells_answered : (k : KernelState) (f : ℕ → Line) (who : ThreadId) (serial : ℕ) (r : Reply) →
    (f who.number).version ≡ who.version → (f who.number).serial ≡ serial → (f who.number).told ≡ None → Tells k f →
    Tells (answered k who serial r) (line_answered f who.number r)
tells_answered k f who serial r ver ser none t n =
    elim (eqb_tells n who.number) [
      | inl e ↦
          subst (λ (j : ℕ). line (answered k who serial r) j ≡ line_answered f who.number r j) (sym e.1)
          (here ∙ sym (upd_same f who.number _))
      | inr e ↦
          (λ d. record (line k n) {
            told = (reply_push (record { number = n; version = (k.place n).version })
                (k.place n).serial k.replies (record { id = who; serial = serial; reply = r }) ∙ other e.1) d;
          }) ∙ t n
          ∙ sym (upd_other f who.number _ n e.1)
    ]
  where
    V : (k.place who.number).version ≡ who.version
    V = ap (λ (l : Line). l.version) (t who.number) ∙ ver

    S : (k.place who.number).serial ≡ serial
    S = ap (λ (l : Line). l.serial) (t who.number) ∙ ser

    N : reply_to k.replies (record { number = who.number; version = (k.place who.number).version }) (k.place who.number).serial ≡
        None
    N = ap (λ (l : Line). l.told) (t who.number) ∙ none

    told_now : reply_to (k.replies ++ record { id = who; serial = serial; reply = r } ∷ [])
        (record { number = who.number; version = (k.place who.number).version }) (k.place who.number).serial ≡ Some r
    told_now =
        reply_push (record { number = who.number; version = (k.place who.number).version }) (k.place who.number).serial k.replies
        (record { id = who; serial = serial; reply = r })
        ∙ rw (N, V, S, eq-eqb who.number who.number refl, eq-eqb who.version who.version refl, eq-eqb serial serial refl) refl

    here : line (answered k who serial r) who.number ≡ record (f who.number) { told = Some r }
    here = λ d. record (t who.number d) { told = told_now d }

    other : n ≢ who.number →
        option_or (reply_to k.replies (record { number = n; version = (k.place n).version }) (k.place n).serial)
        (cond (is_reply_to (record { number = n; version = (k.place n).version }) (k.place n).serial
        (record { id = who; serial = serial; reply = r })) (Some r) None) ≡
        reply_to k.replies (record { number = n; version = (k.place n).version }) (k.place n).serial
    other ne =
        rw (other_number (record { number = n; version = (k.place n).version }) (k.place n).serial
        (record { id = who; serial = serial; reply = r }) (λ q. ne (sym q)))
        (or_none (reply_to k.replies (record { number = n; version = (k.place n).version }) (k.place n).serial))

pub tells_sent : (k : KernelState) (f : ℕ → Line) (who : ThreadId) (serial : ℕ) (after : Status) →
    (f who.number).version ≡ who.version → (f who.number).serial ≡ serial → (f who.number).told ≡ None → Tells k f →
    Tells (sent k who serial after) (line_sent f who.number after)
tells_sent k f who serial after ver ser none t = go (is_run after)
  where
    own : {A : Type 0} (get : Line → A) (a : A) → get (record (f who.number) { status = after; joined = false }) ≡ a →
        get (line_status f who.number after who.number) ≡ a
    own get a h = ap get (upd_same f who.number _) ∙ h

    go : (b : Bool) →
        Tells (cond b (answered (with_status k who.number after) who serial reply.Sent) (with_status k who.number after))
        (cond b (line_answered (line_status f who.number after) who.number reply.Sent) (line_status f who.number after))
    go true =
        tells_answered (with_status k who.number after) (line_status f who.number after) who serial reply.Sent
        (own (λ l. l.version) who.version ver) (own (λ l. l.serial) serial ser) (own (λ l. l.told) None none)
        (tells_status k f who.number after t)
    go false = tells_status k f who.number after t

pub tells_passed :
    (k : KernelState) (f : ℕ → Line) (me : ThreadId) (serial : ℕ) (to : ThreadId) (message : Message) (after : Status) →
    to.number ≢ me.number → (f to.number).version ≡ to.version → (f to.number).told ≡ None → (f me.number).version ≡ me.version →
    (f me.number).serial ≡ serial → (f me.number).told ≡ None → Tells k f →
    Tells (passed k me serial to message after) (line_passed f me.number to.number (reply.Got me message) after)
unfolding passed
tells_passed k f me serial to message after ne tv tn mv ms mn t =
    let f1 = line_status f to.number status.Run in
    let f2 = line_answered f1 to.number (reply.Got me message) in
    let k1 = with_status k to.number status.Run in
    let t1 = tells_status k f to.number status.Run t in
    let h1 = upd_same f to.number (record (f to.number) { status = status.Run; joined = false }) in
    let t2 = tells_answered k1 f1 to (k.place to.number).serial (reply.Got me message) (ap (λ (l : Line). l.version) h1 ∙ tv)
    (ap (λ (l : Line). l.serial) h1 ∙ sym (ap (λ (l : Line). l.serial) (t to.number)))
    (ap (λ (l : Line). l.told) h1 ∙ tn) t1 in
    let m2 : f2 me.number ≡ f me.number = upd_other f1 to.number _ me.number (λ q. ne (sym q))
    ∙ upd_other f to.number _ me.number (λ q. ne (sym q)) in
    tells_sent (answered k1 to (k.place to.number).serial (reply.Got me message)) f2 me serial after
    (ap (λ (l : Line). l.version) m2 ∙ mv) (ap (λ (l : Line). l.serial) m2 ∙ ms) (ap (λ (l : Line). l.told) m2 ∙ mn) t2

pub tells_queued : (k : KernelState) (f : ℕ → Line) (me to : ThreadId) (message : Message) (joined : Bool) → Tells k f →
    Tells (queued k me to message joined) (upd f me.number (record (f me.number) { status = status.Sending to; joined = joined }))
unfolding queued
tells_queued k f me to message joined t =
    let p : Place = record (k.place me.number) { status = status.Sending to; joined = joined } in
    let k1 = with_place k me.number p in
    let f1 = upd f me.number (record (f me.number) { status = status.Sending to; joined = joined }) in
    let t1 : Tells k1 f1 = tells_place k f me.number p _ (ap
    (λ (l : Line). record l { status = status.Sending to; joined = joined }) (t me.number)) t in
    listed k1 f1 to.number ((k1.place to.number).waiting ++ (me, message) ∷ []) t1

pub tells_taken : (k : KernelState) (f : ℕ → Line) (me : ThreadId) (serial : ℕ) (at : ℕ) (w : Waiting) →
    entry_at k me.number at ≡ w → w.0.number ≢ me.number → (f me.number).version ≡ me.version → (f me.number).serial ≡ serial →
    (f me.number).told ≡ None → (f w.0.number).version ≡ w.0.version → (f w.0.number).told ≡ None → Tells k f →
    Tells (taken k me serial at) (line_sent (line_answered f me.number (reply.Got w.0 w.1)) w.0.number
    (status_after (f w.0.number).joined me))
unfolding taken
tells_taken k f me serial at w is ne mv ms mn sv sn t =
    let k1 = without k me.number at in
    let t1 = listed k f me.number (remove (k.place me.number).waiting at) t in
    let f2 = line_answered f me.number (reply.Got w.0 w.1) in
    let t2 = tells_answered k1 f me serial (reply.Got w.0 w.1) mv ms mn t1 in
    let s2 : f2 w.0.number ≡ f w.0.number = upd_other f me.number _ w.0.number ne in
    let joined : (k.place w.0.number).joined ≡ (f w.0.number).joined = ap (λ (l : Line). l.joined) (t w.0.number) in
    rw (is, joined) (tells_sent (answered k1 me serial (reply.Got w.0 w.1)) f2 w.0 (k.place w.0.number).serial
    (status_after (f w.0.number).joined me) (ap (λ (l : Line). l.version) s2 ∙ sv)
    (ap (λ (l : Line). l.serial) s2 ∙ sym (ap (λ (l : Line). l.serial) (t w.0.number)))
    (ap (λ (l : Line). l.told) s2 ∙ sn) t2)

pub tells_gone : (k : KernelState) (f : ℕ → Line) (who : ThreadId) (serial : ℕ) → (f who.number).version ≡ who.version →
    (f who.number).serial ≡ serial → (f who.number).told ≡ None → Tells k f →
    Tells (answered (with_status k who.number status.Run) who serial reply.Gone)
    (line_answered (line_status f who.number status.Run) who.number reply.Gone)
tells_gone k f who serial v s n t =
    let h = upd_same f who.number (record (f who.number) { status = status.Run; joined = false }) in
    tells_answered (with_status k who.number status.Run) (line_status f who.number status.Run) who serial reply.Gone
    (ap (λ (l : Line). l.version) h ∙ v) (ap (λ (l : Line). l.serial) h ∙ s) (ap (λ (l : Line). l.told) h ∙ n)
    (tells_status k f who.number status.Run t)

pub tells_killed : (k : KernelState) (f : ℕ → Line) (v : ThreadId) → Tells k f →
    Tells (killed k v) (line_status f v.number status.Dead)
unfolding killed
tells_killed k f v t =
    let left = left_everywhere k v in
    let t1 : Tells left f = λ n. t n in
    tells_place left f v.number (record (left.place v.number) { status = status.Dead; joined = false; waiting = [] })
    (record (f v.number) { status = status.Dead; joined = false })
    (ap (λ (l : Line). record l { status = status.Dead; joined = false }) (t v.number)) t1

-- The number's new thread has made no call, and there is no reply to one.
pub tells_made : (k : KernelState) (f : ℕ → Line) (n : ℕ) → ((id : ThreadId) → reply_to k.replies id 0 ≡ None) → Tells k f →
    Tells (renewed k n) (line_made f n)
tells_made k f n none t =
    let p : Place = record (k.place n) { version = (k.place n).version + 1; status = status.Run; joined = false; serial = 0 } in
    tells_place k f n p (record { version = (f n).version + 1; status = status.Run; joined = false; serial = 0; told = None })
    (let q : (k.place n).version ≡ (f n).version = ap (λ (l : Line). l.version) (t n) in
    λ d. record {
      version = q d + 1;
      status = status.Run;
      joined = false;
      serial = 0;
      told = none (record { number = n; version = (k.place n).version + 1 }) d;
    }) t
