-- A history has one verdict.
use Rattle.std.proofs.Common.{◌≡◌, ◌⊎◌, ℕ, List, [], ◌∷◌, ◌++◌, length, refl, sym, ap, ◌∙◌, subst, arith, Ok, Err, inl, inr}
use Rattle.std.proofs.lemmas.List.{append-nil}
use Rattle.std.proofs.lemmas.Bool.{cases_eq, cases_lt, false≢true}
use Rattle.k_ids.specs.declared.threads.ThreadId.{ThreadId}
use Rattle.k_ids.specs.declared.threads.Found.{Found}
use Rattle.k_ids.specs.declared.calls.Outcome.{Outcome}
use Rattle.k_ids.specs.declared.histories.Entry.{Entry}
use Rattle.k_ids.specs.declared.histories.Unlawful.{Unlawful}
use Rattle.k_model.specs.State.{KernelState}
use Rattle.k_model.specs.Step.{step}
use Rattle.k_model.specs.History.{IsFinished, IsLowestActive}
use Rattle.k_script.specs.Script.{Script}
use Rattle.k_script.specs.Limits.{IsScript}
use Rattle.k_script.specs.Plays.{opened_for}
use Rattle.k_history.specs.declared.verdict.Verdict.{Verdict}
use Rattle.k_history.specs.declared.verdict.Verdict.TheVariants as verdict
use Rattle.k_lines.specs.Words.{lines_of}
use Rattle.k_history.specs.Lines.{Tells, TellAll}
use Rattle.k_room.specs.Histories.{Follows}
use Rattle.k_room.proofs.Fronts.{front_of, next_due, replay_one}
use Rattle.k_history.specs.Verdicts.{IsDueAct, IsFault, IsFirstFault, IsIllegal, IsStrange, IsDifferent, IsVerdict}
use Rattle.k_history.proofs.Spelling.{line_one}
use Rattle.k_history.proofs.Judged.{due_from}

tells_one : (size : ℕ) (line : List ℕ) (a b : Entry) → Tells size line a → Tells size line b → a ≡ b
tells_one size line a b h i = line_one line a b h.spells i.spells

-- TWO FRONTS OF ONE LIST OF LINES: they are one, or one has more.

record Longer (size : ℕ) (rest : List (List ℕ)) (short long : List Entry) : Type 0 where
  line : List ℕ
  behind : List (List ℕ)
  entry : Entry
  more : List Entry
  split : rest ≡ line ∷ behind
  tells : Tells size line entry
  is : long ≡ short ++ entry ∷ more

abbrev Compares : ℕ → List (List ℕ) → List (List ℕ) → List Entry → List Entry → Type 0
Compares size r s es fs = ((es ≡ fs) × (r ≡ s)) ⊎ (Longer size r es fs ⊎ Longer size s fs es)

longer_cons : (size : ℕ) (r : List (List ℕ)) (es fs : List Entry) (e f : Entry) → e ≡ f → Longer size r es fs → Longer size r (e ∷ es) (f ∷ fs)
longer_cons size r es fs e f same x =
    let i = x.is in
    record { line = x.line; behind = x.behind; entry = x.entry; more = x.more; split = x.split; tells = x.tells; is = cc }

compare : (size : ℕ) (b c r s : List (List ℕ)) (es fs : List Entry) → b ++ r ≡ c ++ s → TellAll size b es → TellAll size c fs → Compares size r s es fs
compare size [] [] r s [] [] h t u = inl (refl, h)
compare size [] [] r s [] (f ∷ fs) h t u = absurd u
compare size [] [] r s (e ∷ es) fs h t u = absurd t
compare size [] (l ∷ c) r s [] [] h t u = absurd u
compare size [] (l ∷ c) r s [] (f ∷ fs) h t u = inr (inl (record { line = l; behind = c ++ s; entry = f; more = fs; split = h; tells = u.0; is = refl }))
compare size [] (l ∷ c) r s (e ∷ es) fs h t u = absurd t
compare size (l ∷ b) [] r s [] fs h t u = absurd t
compare size (l ∷ b) [] r s (e ∷ es) [] h t u = inr (inr (record { line = l; behind = b ++ r; entry = e; more = es; split = sym h; tells = t.0; is = refl }))
compare size (l ∷ b) [] r s (e ∷ es) (f ∷ fs) h t u = absurd u
compare size (l ∷ b) (m ∷ c) r s [] fs h t u = absurd t
compare size (l ∷ b) (m ∷ c) r s (e ∷ es) [] h t u = absurd u
compare size (l ∷ b) (m ∷ c) r s (e ∷ es) (f ∷ fs) h t u =
    let first : l ≡ m = cc in
    let later : b ++ r ≡ c ++ s = cc in
    let same : e ≡ f = tells_one size m e f (subst (λ (x : List ℕ). Tells size x e) first t.0) u.0 in
    elim (compare size b c r s es fs later t.1 u.1) [
      | inl p ↦ let p0 = p.0 in inl (cc, p.1)
      | inr q ↦ elim q [
        | inl x ↦ inr (inl (longer_cons size r es fs e f same x))
        | inr x ↦ inr (inr (longer_cons size s fs es f e (sym same) x))
      ]
    ]

-- EVERY VERDICT has a front, the state behind it, and the lines that are left.

abbrev LastOf : Script → List Entry → KernelState → List (List ℕ) → Verdict → Type 0
LastOf script front k [] (verdict.Legal events) = (events ≡ length front) × IsFinished k
LastOf script front k [] (verdict.Unfinished who) = IsLowestActive k who
LastOf script front k [] (verdict.Unreadable number) = ⊥
LastOf script front k [] (verdict.Illegal index found serial) = ⊥
LastOf script front k [] (verdict.Strange index) = ⊥
LastOf script front k [] (verdict.Differs index outcome) = ⊥
LastOf script front k (line ∷ behind) v = IsFault script front k line v

record Ended (script : Script) (bytes : List ℕ) (v : Verdict) : Type 0 where
  before : List (List ℕ)
  rest : List (List ℕ)
  lines : lines_of bytes ≡ before ++ rest
  front : List Entry
  tell : TellAll script.table before front
  state : KernelState
  follows : Follows script front state
  last : LastOf script front state rest v

fault_ended : (script : Script) (bytes : List ℕ) (v : Verdict) → IsFirstFault script bytes v → Ended script bytes v
fault_ended script bytes v h = record { before = h.before; rest = h.line ∷ h.behind; lines = h.lines; front = h.front; tell = h.tell; state = h.state; follows = h.follows; last = h.fault }

ended : (script : Script) (bytes : List ℕ) (v : Verdict) → IsVerdict script bytes v → Ended script bytes v
ended script bytes (verdict.Legal events) h = record { before = lines_of bytes; rest = []; lines = sym (append-nil (lines_of bytes)); front = h.entries; tell = h.tell; state = h.end; follows = record { legal = h.history.legal; plays = h.history.plays }; last = (h.count, h.history.finished) }
ended script bytes (verdict.Unfinished who) h = record { before = lines_of bytes; rest = []; lines = sym (append-nil (lines_of bytes)); front = h.entries; tell = h.tell; state = h.end; follows = h.follows; last = h.lowest }
ended script bytes (verdict.Unreadable number) h = fault_ended script bytes (verdict.Unreadable number) h
ended script bytes (verdict.Illegal index found serial) h = fault_ended script bytes (verdict.Illegal index found serial) h
ended script bytes (verdict.Strange index) h = fault_ended script bytes (verdict.Strange index) h
ended script bytes (verdict.Differs index outcome) h = fault_ended script bytes (verdict.Differs index outcome) h

-- A LINE WITH WHICH THE HISTORY GOES ON is not at fault.

unlawful_none : (k : KernelState) (a b : Entry) (u : Unlawful) (r : KernelState × Outcome) → a ≡ b → step k a.event ≡ Err u → step k b.event ≡ Ok r → ⊥
unlawful_none k a b u r same bad good =
    let no : Err u ≡ Ok r = sym bad ∙ ap (λ (e : Entry). step k e.event) same ∙ good in cc

outcome_is : (k m n : KernelState) (a b : Entry) (o p : Outcome) → a ≡ b → step k a.event ≡ Ok (m, o) → step k b.event ≡ Ok (n, p) → o ≡ p
outcome_is k m n a b o p same h i =
    let left : KernelState × Outcome = (m, o) in
    let right : KernelState × Outcome = (n, p) in
    let both : Ok left ≡ Ok right = sym h ∙ ap (λ (e : Entry). step k e.event) same ∙ i in
    let pair : left ≡ right = cc in
    ap (λ (r : KernelState × Outcome). r.1) pair

no_fault : (script : Script) (front : List Entry) (k n : KernelState) (line : List ℕ) (e : Entry) (v : Verdict) → Tells script.table line e → step k e.event ≡ Ok (n, e.outcome) → IsDueAct script front k e.event.who e.event.act → IsFault script front k line v → ⊥
no_fault script front k n line e (verdict.Unreadable number) t ok due h = h.1 e t
no_fault script front k n line e (verdict.Illegal index found serial) t ok due h = unlawful_none k h.1.entry e (record { found = found; serial = serial }) (n, e.outcome) (tells_one script.table line h.1.entry e h.1.tells t) h.1.shown ok
no_fault script front k n line e (verdict.Strange index) t ok due h =
    let same = tells_one script.table line h.1.entry e h.1.tells t in
    h.1.other (subst (λ (x : Entry). IsDueAct script front k x.event.who x.event.act) (sym same) due)
no_fault script front k n line e (verdict.Differs index outcome) t ok due h =
    let same = tells_one script.table line h.1.entry e h.1.tells t in
    h.1.other (ap (λ (x : Entry). x.outcome) same ∙ sym (outcome_is k h.1.after n h.1.entry e outcome e.outcome same h.1.made ok))
no_fault script front k n line e (verdict.Legal events) t ok due h = h
no_fault script front k n line e (verdict.Unfinished who) t ok due h = h

-- So no verdict is given before a front that goes on.
not_longer : (script : Script) (front long : List Entry) (k end : KernelState) (rest : List (List ℕ)) (v : Verdict) → IsScript script → Follows script front k → LastOf script front k rest v → Follows script long end → Longer script.table rest front long → ⊥
not_longer script front long k end rest v s f last g x =
    let fault : IsFault script front k x.line v = subst (λ (r : List (List ℕ)). LastOf script front k r v) x.split last in
    let whole : Follows script (front ++ x.entry ∷ x.more) end = subst (λ (es : List Entry). Follows script es end) x.is g in
    let h = front_of script front (x.entry ∷ x.more) end s whole in
    let same : h.state ≡ k = replay_one (opened_for script) front h.state k h.counted.playing.replay f.legal in
    let next = next_due script front x.more h.state h.rest.0 end h.positions x.entry h.counted.playing h.rest.1 h.rest.2 whole.plays in
    let due = due_from script front h.state h.rest.0 h.positions x.entry.event x.entry.outcome h.counted.playing h.rest.1 x.entry.event.act refl next in
    no_fault script front k h.rest.0 x.line x.entry v x.tells (subst (λ (m : KernelState). step m x.entry.event ≡ Ok (h.rest.0, x.entry.outcome)) same h.rest.1) (subst (λ (m : KernelState). IsDueAct script front m x.entry.event.who x.entry.event.act) same due) fault

-- AT ONE LINE there is one fault.

unlawful_one : (k : KernelState) (a b : Entry) (u v : Unlawful) → a ≡ b → step k a.event ≡ Err u → step k b.event ≡ Err v → u ≡ v
unlawful_one k a b u v same h i =
    let both : Err u ≡ Err v = sym h ∙ ap (λ (e : Entry). step k e.event) same ∙ i in cc

illegal_one : (script : Script) (k : KernelState) (line : List ℕ) (i j m n : ℕ) (found shown : Found) → i ≡ j → IsIllegal script k line found m → IsIllegal script k line shown n → verdict.Illegal i found m ≡ verdict.Illegal j shown n
illegal_one script k line i j m n found shown index h g =
    let same = tells_one script.table line h.entry g.entry h.tells g.tells in
    let u : Unlawful = record { found = found; serial = m } in
    let v : Unlawful = record { found = shown; serial = n } in
    let is : u ≡ v = unlawful_one k h.entry g.entry u v same h.shown g.shown in
    let a : found ≡ shown = ap (λ (x : Unlawful). x.found) is in
    let b : m ≡ n = ap (λ (x : Unlawful). x.serial) is in
    cc

different_one : (script : Script) (front : List Entry) (k : KernelState) (line : List ℕ) (i j : ℕ) (o p : Outcome) → i ≡ j → IsDifferent script front k line o → IsDifferent script front k line p → verdict.Differs i o ≡ verdict.Differs j p
different_one script front k line i j o p index h g =
    let same = tells_one script.table line h.entry g.entry h.tells g.tells in
    let is : o ≡ p = outcome_is k h.after g.after h.entry g.entry o p same h.made g.made in
    cc

illegal_made : (script : Script) (k : KernelState) (line : List ℕ) (found : Found) (serial : ℕ) (e : Entry) (r : KernelState × Outcome) → IsIllegal script k line found serial → Tells script.table line e → step k e.event ≡ Ok r → ⊥
illegal_made script k line found serial e r h t ok = unlawful_none k h.entry e (record { found = found; serial = serial }) r (tells_one script.table line h.entry e h.tells t) h.shown ok

strange_due : (script : Script) (front : List Entry) (k : KernelState) (line : List ℕ) (o : Outcome) → IsStrange script front k line → IsDifferent script front k line o → ⊥
strange_due script front k line o h g =
    let same = tells_one script.table line h.entry g.entry h.tells g.tells in
    h.other (subst (λ (x : Entry). IsDueAct script front k x.event.who x.event.act) (sym same) g.due)

module _ (script : Script) (front : List Entry) (k : KernelState) (line : List ℕ) where
  unreadable_one : (n : ℕ) (w : Verdict) → IsFault script front k line (verdict.Unreadable n) → IsFault script front k line w → verdict.Unreadable n ≡ w
  unreadable_one n (verdict.Unreadable m) h g = ap verdict.Unreadable (h.0 ∙ sym g.0)
  unreadable_one n (verdict.Illegal j shown m) h g = absurd (h.1 g.1.entry g.1.tells)
  unreadable_one n (verdict.Strange j) h g = absurd (h.1 g.1.entry g.1.tells)
  unreadable_one n (verdict.Differs j p) h g = absurd (h.1 g.1.entry g.1.tells)
  unreadable_one n (verdict.Legal m) h g = absurd g
  unreadable_one n (verdict.Unfinished who) h g = absurd g

  illegal_fault : (i : ℕ) (found : Found) (n : ℕ) (w : Verdict) → IsFault script front k line (verdict.Illegal i found n) → IsFault script front k line w → verdict.Illegal i found n ≡ w
  illegal_fault i found n (verdict.Unreadable m) h g = absurd (g.1 h.1.entry h.1.tells)
  illegal_fault i found n (verdict.Illegal j shown m) h g = illegal_one script k line i j n m found shown (h.0 ∙ sym g.0) h.1 g.1
  illegal_fault i found n (verdict.Strange j) h g = absurd (illegal_made script k line found n g.1.entry g.1.after h.1 g.1.tells g.1.made)
  illegal_fault i found n (verdict.Differs j p) h g = absurd (illegal_made script k line found n g.1.entry (g.1.after, p) h.1 g.1.tells g.1.made)
  illegal_fault i found n (verdict.Legal m) h g = absurd g
  illegal_fault i found n (verdict.Unfinished who) h g = absurd g

  strange_fault : (i : ℕ) (w : Verdict) → IsFault script front k line (verdict.Strange i) → IsFault script front k line w → verdict.Strange i ≡ w
  strange_fault i (verdict.Unreadable m) h g = absurd (g.1 h.1.entry h.1.tells)
  strange_fault i (verdict.Illegal j shown m) h g = absurd (illegal_made script k line shown m h.1.entry h.1.after g.1 h.1.tells h.1.made)
  strange_fault i (verdict.Strange j) h g = ap verdict.Strange (h.0 ∙ sym g.0)
  strange_fault i (verdict.Differs j p) h g = absurd (strange_due script front k line p h.1 g.1)
  strange_fault i (verdict.Legal m) h g = absurd g
  strange_fault i (verdict.Unfinished who) h g = absurd g

  differs_fault : (i : ℕ) (o : Outcome) (w : Verdict) → IsFault script front k line (verdict.Differs i o) → IsFault script front k line w → verdict.Differs i o ≡ w
  differs_fault i o (verdict.Unreadable m) h g = absurd (g.1 h.1.entry h.1.tells)
  differs_fault i o (verdict.Illegal j shown m) h g = absurd (illegal_made script k line shown m h.1.entry (h.1.after, o) g.1 h.1.tells h.1.made)
  differs_fault i o (verdict.Strange j) h g = absurd (strange_due script front k line o g.1 h.1)
  differs_fault i o (verdict.Differs j p) h g = different_one script front k line i j o p (h.0 ∙ sym g.0) h.1 g.1
  differs_fault i o (verdict.Legal m) h g = absurd g
  differs_fault i o (verdict.Unfinished who) h g = absurd g

  fault_one : (v w : Verdict) → IsFault script front k line v → IsFault script front k line w → v ≡ w
  fault_one (verdict.Unreadable n) w h g = unreadable_one n w h g
  fault_one (verdict.Illegal i found n) w h g = illegal_fault i found n w h g
  fault_one (verdict.Strange i) w h g = strange_fault i w h g
  fault_one (verdict.Differs i o) w h g = differs_fault i o w h g
  fault_one (verdict.Legal n) w h g = absurd h
  fault_one (verdict.Unfinished who) w h g = absurd h

-- BEHIND THE LAST LINE there is one answer.

lowest_one : (k : KernelState) (a b : ThreadId) → IsLowestActive k a → IsLowestActive k b → a ≡ b
lowest_one k a b h g =
    let number : a.number ≡ b.number = elim (cases_lt a.number b.number) [
      | inl l ↦ absurd (false≢true (sym (g.lowest a.number l) ∙ h.active))
      | inr l ↦ elim (cases_eq a.number b.number) [
        | inl e ↦ e
        | inr ne ↦ absurd (false≢true (sym (h.lowest b.number (omega (arith, l, ne))) ∙ g.active))
      ]
    ] in
    let version : a.version ≡ b.version = sym h.version ∙ ap (λ (t : ℕ). (k.place t).version) number ∙ g.version in
    λ i. record { number = number i; version = version i }

last_one : (script : Script) (front : List Entry) (k : KernelState) (rest : List (List ℕ)) (v w : Verdict) → LastOf script front k rest v → LastOf script front k rest w → v ≡ w
last_one script front k (line ∷ behind) v w h g = fault_one script front k line v w h g
last_one script front k [] (verdict.Legal n) (verdict.Legal m) h g = ap verdict.Legal (h.0 ∙ sym g.0)
last_one script front k [] (verdict.Legal n) (verdict.Unfinished who) h g = absurd (false≢true (sym (h.1 who.number g.inside) ∙ g.active))
last_one script front k [] (verdict.Legal n) (verdict.Unreadable m) h g = absurd g
last_one script front k [] (verdict.Legal n) (verdict.Illegal j shown m) h g = absurd g
last_one script front k [] (verdict.Legal n) (verdict.Strange j) h g = absurd g
last_one script front k [] (verdict.Legal n) (verdict.Differs j p) h g = absurd g
last_one script front k [] (verdict.Unfinished who) (verdict.Legal m) h g = absurd (false≢true (sym (g.1 who.number h.inside) ∙ h.active))
last_one script front k [] (verdict.Unfinished who) (verdict.Unfinished other) h g = ap verdict.Unfinished (lowest_one k who other h g)
last_one script front k [] (verdict.Unfinished who) (verdict.Unreadable m) h g = absurd g
last_one script front k [] (verdict.Unfinished who) (verdict.Illegal j shown m) h g = absurd g
last_one script front k [] (verdict.Unfinished who) (verdict.Strange j) h g = absurd g
last_one script front k [] (verdict.Unfinished who) (verdict.Differs j p) h g = absurd g
last_one script front k [] (verdict.Unreadable n) w h g = absurd h
last_one script front k [] (verdict.Illegal i found n) w h g = absurd h
last_one script front k [] (verdict.Strange i) w h g = absurd h
last_one script front k [] (verdict.Differs i o) w h g = absurd h

pub verdict_one : (script : Script) (bytes : List ℕ) (v w : Verdict) → IsScript script → IsVerdict script bytes v → IsVerdict script bytes w → v ≡ w
verdict_one script bytes v w s h g =
    let a = ended script bytes v h in
    let b = ended script bytes w g in
    elim (compare script.table a.before b.before a.rest b.rest a.front b.front (sym a.lines ∙ b.lines) a.tell b.tell) [
      | inl p ↦
          let follows : Follows script b.front a.state = subst (λ (es : List Entry). Follows script es a.state) p.0 a.follows in
          let same : a.state ≡ b.state = replay_one (opened_for script) b.front a.state b.state follows.legal b.follows.legal in
          let one : LastOf script b.front b.state b.rest v = subst (λ (r : List (List ℕ)). LastOf script b.front b.state r v) p.1 (subst (λ (k : KernelState). LastOf script b.front k a.rest v) same (subst (λ (es : List Entry). LastOf script es a.state a.rest v) p.0 a.last)) in
          last_one script b.front b.state b.rest v w one b.last
      | inr q ↦ elim q [
        | inl x ↦ absurd (not_longer script a.front b.front a.state b.state a.rest v s a.follows a.last b.follows x)
        | inr x ↦ absurd (not_longer script b.front a.front b.state a.state b.rest w s b.follows b.last a.follows x)
      ]
    ]
