-- The turns of a create: full and made are events of the specification, and all else shows the same.
use Rattle.std.proofs.Common.{◌≡◌, ◌≢◌, ℕ, ◌+◌, Bool, true, false, cond, not, ◌&&◌, eqb}
use Rattle.std.proofs.Common.{refl, sym, ap, ◌∙◌, subst, [], Option, Some, None, arith}
use Rattle.std.specs.Prelude.{length, nat_lt}
use Rattle.k_ids.specs.declared.threads.ThreadId.{ThreadId}
use Rattle.k_ids.specs.declared.threads.Status.TheVariants as status
use Rattle.k_ids.specs.declared.calls.Outcome.TheVariants as outcome
use Rattle.k_ids.specs.declared.calls.Reply.TheVariants as reply
use Rattle.k_ids.specs.declared.state_word.StateWord.{StateWord}
use Rattle.k_model.specs.Answered.{IsAnswered}
use Rattle.k_model.specs.Maps.{count, lowest, upd}
use Rattle.k_model.specs.State.{KernelState, Place, answered, id_of}
use Rattle.k_model.specs.State.{is_dead as is_dead_status}
use Rattle.k_model.specs.Step.{is_free, last_version, renewed}
use Rattle.k_model.specs.Step.{alive as alive_in, worn as worn_in}
use Rattle.k_model.proofs.Answered.{unanswered_zero}
use Rattle.k_model.proofs.Maps.{upd_same, upd_other}
use Rattle.k_locks.specs.Asks.{Response}
use Rattle.k_locks.specs.Asks as asks
use Rattle.k_locks.specs.Numbers.{ThreadNumbers, alive, lowest_free, version_at, worn}
use Rattle.k_locks.specs.Numbers as numbers
use Rattle.k_locks.specs.Shown.{is_dead}
use Rattle.k_locks.specs.declared.points.Point.{Point}
use Rattle.k_threads.specs.declared.create.CreateCall.{CreateCall}
use Rattle.k_threads.specs.declared.create.CreateOutside.TheVariants as outside
use Rattle.k_threads.specs.declared.create.CreateLocked.{CreateLocked}
use Rattle.k_threads.specs.declared.create.CreateLocked.TheVariants.{LoadCaller, PlaceContext}
use Rattle.k_threads.specs.declared.create.CreateLocked.TheVariants.{CommitCreate, AcquireReady, Release}
use Rattle.k_threads.specs.declared.create.CreateRelease.TheVariants as release
use Rattle.k_threads.specs.CreateTable.{CreateAt, Outside, Locked, PushCreated, ask_of, choose, full_point, point_of, points}
use Rattle.k_threads.specs.Words.{created_word}
use Rattle.k_board.specs.Words.{Programs, Seen, called, noted}
use Rattle.k_board.specs.Boards.{At, Board, Context, InCreate, hand_of}
use Rattle.k_board.specs.Facts.{AllSay, IsRun}
use Rattle.k_board.specs.Places.{create_phase, facts_create, facts_of}
use Rattle.k_board.specs.Steps.{Answers, create_board, create_context}
use Rattle.k_board.specs.Turns.{excepted_by, excepts}
use Rattle.k_board.proofs.CreatePlaces.{made_it, made_me, made_other, number_apart}
use Rattle.k_board.proofs.Goes.{create_me}
use Rattle.k_good.specs.Good.{IsGood}
use Rattle.k_good.specs.Numbers.{by_owner, killed_at, made_at}
use Rattle.k_shown.proofs.Numbers.{count_same, lowest_same}
use Rattle.k_points.specs.Shown.{Line, Shows, Tells, line_answered, line_made, shown, shown_by}
use Rattle.k_points.specs.Points.{Decided, Goes}
use Rattle.k_points.proofs.Calls.{answers, decides, now, now_line, now_me, now_tells, serial_of, status_is, version_now}
use Rattle.k_points.proofs.Cases.{by_numbers}
use Rattle.k_points.proofs.Exceptions.{SameExceptions, SameExcepts, both_same, create_none}
use Rattle.k_points.proofs.Exceptions.{excepted_still, moved_same, owned_still, quiet}
use Rattle.k_points.proofs.Lines.{tells_answered, tells_made}
use Rattle.k_points.proofs.Rows.{create_full, create_is, create_makes}
use Rattle.k_points.proofs.Status.{closed_status, dead_by}

-- THE LIST OF NUMBERS

not_not : (d : Bool) → not (not d) ≡ d
not_not true = refl
not_not false = refl

-- it tells the same of each number as the state
record Agrees (list : ThreadNumbers) (k : KernelState) : Type 0 where
  pub count : length list.versions ≡ k.size
  pub version : (n : ℕ) → version_at list n ≡ (k.place n).version
  pub present : (n : ℕ) → numbers.is_present list n ≡ not (is_dead_status (k.place n).status)

module _ (k : KernelState) (list : ThreadNumbers) (a : Agrees list k) where
  dead_same : (n : ℕ) → not (numbers.is_present list n) ≡ is_dead_status (k.place n).status
  dead_same n = ap not (a.present n) ∙ not_not _

  lowest_is : lowest_free list ≡ lowest (λ n. is_free (k.place n)) k.size
  lowest_is =
      ap (lowest (numbers.is_free list)) a.count
      ∙ lowest_same (numbers.is_free list) (λ n. is_free (k.place n)) k.size
      (λ n l d. (dead_same n d) && nat_lt (a.version n d) last_version)

  alive_is : alive list ≡ alive_in k
  alive_is =
      ap (count (numbers.is_present list)) a.count
      ∙ count_same (numbers.is_present list) (λ n. not (is_dead_status (k.place n).status)) k.size (λ n l. a.present n)

  worn_is : worn list ≡ worn_in k
  worn_is =
      ap (count (numbers.is_worn list)) a.count
      ∙ count_same (numbers.is_worn list) (λ n. is_dead_status (k.place n).status && eqb (k.place n).version last_version) k.size
      (λ n l d. (dead_same n d) && eqb (a.version n d) last_version)

-- THE TURNS

module _ (g : Programs) (b : Board) (k : KernelState) (c : CreateCall) where
  abbrev i : ℕ
  i = c.caller.number

  abbrev x : Context
  x = b.context c.caller.number

  abbrev New : CreateAt → Response → Board
  New p r = create_board g b c.caller.number (b.context c.caller.number) c p r

  abbrev pub GoesBy : CreateAt → Response → Type 0
  GoesBy p r = Goes g b k (points c (b.seen c.caller.number).word (hand_of b []) p r) (New p r)

  abbrev Sound : CreateAt → Type 0
  Sound p = AllSay g b c.caller.number (b.context c.caller.number) (facts_create c p)

  module _ (p : CreateAt) (at : (b.context c.caller.number).at ≡ InCreate c p) where
    none : excepts (b.context c.caller.number).at ≡ None
    none = ap excepts at

    moves : (r : Response) → SameExcepts b.context (upd b.context i (create_context x c p r (hand_of b [])))
    moves r = moved_same b.context i (create_context x c p r (hand_of b [])) (create_none c _ ∙ sym none)

  -- who is excepted stays: a thread lock is neither taken nor released, and a context that is placed excepts nobody
  same_exceptions : (p : CreateAt) (r : Response) → (b.context c.caller.number).at ≡ InCreate c p → Sound p →
      SameExceptions b (New p r)
  same_exceptions (Locked (PlaceContext id)) asks.Placed at h n =
      owned_still b.context (New (Locked (PlaceContext id)) asks.Placed).context
      (both_same b.context id.number i _ _ (sym (ap excepts h.1.1.1.1.1.1.1.0.1)) (sym (ap excepts at))) i (ap excepts at) b.owner
      (ask_of c x.own (Locked (PlaceContext id))) asks.Placed tt n
  same_exceptions (Locked (CommitCreate id)) asks.Won at h n =
      owned_still b.context (New (Locked (CommitCreate id)) asks.Won).context
      (both_same b.context id.number i _ _ (sym (ap (λ (y : Context). excepts y.at) h.1.1.1.1.1.1.1.0.1)) (sym (ap excepts at))) i
      (ap excepts at) b.owner (ask_of c x.own (Locked (CommitCreate id))) asks.Won tt n
  same_exceptions (Outside outside.AcquireTable) r at h n =
      owned_still b.context _ (moves _ at r) i (none _ at) b.owner (ask_of c x.own (Outside outside.AcquireTable)) r tt n
  same_exceptions (Outside (outside.Ended w)) r at h n = absurd h.0
  same_exceptions (Locked LoadCaller) r at h n =
      owned_still b.context _ (moves _ at r) i (none _ at) b.owner (ask_of c x.own (Locked LoadCaller)) r tt n
  same_exceptions (Locked (PlaceContext id)) r at h n =
      owned_still b.context _ (moves _ at r) i (none _ at) b.owner (ask_of c x.own (Locked (PlaceContext id))) r tt n
  same_exceptions (Locked (CommitCreate id)) r at h n =
      owned_still b.context _ (moves _ at r) i (none _ at) b.owner (ask_of c x.own (Locked (CommitCreate id))) r tt n
  same_exceptions (Locked (AcquireReady id)) r at h n =
      owned_still b.context _ (moves _ at r) i (none _ at) b.owner (ask_of c x.own (Locked (AcquireReady id))) r tt n
  same_exceptions (PushCreated id) r at h n =
      owned_still b.context _ (moves _ at r) i (none _ at) b.owner (ask_of c x.own (PushCreated id)) r tt n
  same_exceptions (Locked (Release q)) r at h n =
      owned_still b.context _ (moves _ at r) i (none _ at) b.owner (ask_of c x.own (Locked (Release q))) r tt n

  module _ (good : IsGood g b) (count : length b.numbers.versions ≡ b.size) (sh : Shows b k) (an : IsAnswered k) where
    -- a call of one that runs, in the state in which it has its serial
    module _ (p : CreateAt) (at : (b.context c.caller.number).at ≡ InCreate c p) (held : b.table ≡ Some c.caller.number)
        (free : (n : ℕ) → made_at (InCreate c p) n ≡ false) (own : (b.seen c.caller.number).word ≡ x.own)
        (run : IsRun x.own) (v : c.caller.version ≡ (b.seen c.caller.number).word.version) where
      by_table : (test : At → ℕ → Bool) (n : ℕ) → test (InCreate c p) n ≡ false → by_owner test b.table b.context n ≡ false
      by_table test n e = ap (λ (o : Option ℕ). by_owner test o b.context n) held ∙ ap (λ (a : At). test a n) at ∙ e

      -- no number is about to be noted in the list of numbers, so the list agrees with the state
      agrees : Agrees b.numbers (now b k c.caller)
      agrees = record {
        count = count ∙ sym sh.size;
        version =
            λ n. good.numbers.version n (by_table made_at n (free n))
            ∙ sym (version_now b k sh.lines an c.caller x.own own run v (create_phase c) n);
        present =
            λ n. good.numbers.present n (by_table made_at n (free n)) (by_table killed_at n refl)
            ∙ ap not (sym (ap is_dead_status (status_is b k sh.lines an c.caller x.own own run v (create_phase c) n)
            ∙ dead_by (excepted_by (b.owner n) b.context n) (b.seen n).word.state));
      }

    -- all numbers are taken or worn
    full : (b.context c.caller.number).at ≡ InCreate c (Locked LoadCaller) → Sound (Locked LoadCaller) → (b.seen i).word ≡ x.own →
        lowest_free b.numbers ≡ None → (b' : Board) → SameExceptions b b' →
        ((n : ℕ) → b'.seen n ≡ upd b.seen i (called (b.seen i)
        (Some (reply.Full (alive b.numbers) (worn b.numbers))) x.position) n) →
        Decided g b k (point_of c (outcome.Full (alive b.numbers) (worn b.numbers))) b'
    full at h own free b' same is =
        let a = agrees (Locked LoadCaller) at h.0 (λ n. refl) own h.1.1.1.1.0.0 h.1.0.1 in
        let k1 = now b k c.caller in
        answers b k sh.lines an c.caller x.own own h.1.1.1.1.0.0 h.1.0.1 g (create_phase c) x.position h.1.1.1.0.1 b' same _
        (reply.Full (alive b.numbers) (worn b.numbers))
        (create_is k c.caller (serial_of b c.caller) c.program c.priority
        ∙ create_full k1 c.caller (serial_of b c.caller) (sym (lowest_is k1 b.numbers a) ∙ free)
        ∙ (λ d. (
          answered k1 c.caller (serial_of b c.caller)
              (reply.Full (sym (alive_is k1 b.numbers a) d) (sym (worn_is k1 b.numbers a) d)),
          outcome.Full (sym (alive_is k1 b.numbers a) d) (sym (worn_is k1 b.numbers a) d),
        )))
        is

    -- a thread is made
    made : (id : ThreadId) → (b.context c.caller.number).at ≡ InCreate c (Locked (CommitCreate id)) →
        Sound (Locked (CommitCreate id)) → Decided g b k (point_of c (outcome.Made id)) (New (Locked (CommitCreate id)) asks.Won)
    made id at h =
        let n = id.number in
        let run = h.1.1.1.1.0.0 in
        let own = h.1.1.1.1.0.1 in
        let v = h.1.0.1 in
        let apart = number_apart b x id i _ h.1.1.1.1.1.1.0.1 run own in
        let a = agrees (Locked (CommitCreate id)) at h.0 (λ m. refl) own run v in
        let k1 = now b k c.caller in
        let f1 = now_line b c.caller in
        let f2 = line_made f1 n in
        let serial = serial_of b c.caller in
        let found = sym (lowest_is k1 b.numbers a) ∙ h.1.1.1.1.1.0.1 in
        let next : (k1.place n).version + 1 ≡ id.version = ap (λ (q : ℕ). q + 1) (sym (a.version n)) ∙ sym h.1.1.1.1.1.0.2 in
        let p : Place = record (k1.place n) {
          version = (k1.place n).version + 1;
          status = status.Run;
          joined = false;
          serial = 0;
        } in
        let made_id : id_of (renewed k1 n) n ≡ id = λ d. record {
          number = n;
          version = (ap (λ (q : Place). q.version) (upd_same k1.place n p) ∙ next) d;
        } in
        let m2 : f2 i ≡ record (shown b i) { serial = serial; told = None } =
        upd_other f1 n _ i (λ q. apart (sym q)) ∙ now_me b k sh.lines an c.caller x.own own run v in
        decides b k sh.lines an c.caller x.own own run v g (create_phase c) x.position h.1.1.1.0.1
        (New (Locked (CommitCreate id)) asks.Won) (outcome.Made id) (answered (renewed k1 n) c.caller serial (reply.Made id))
        (create_is k c.caller serial c.program c.priority ∙ create_makes k1 c.caller serial n found
        ∙ ap (λ (j : ThreadId). (answered (renewed k1 n) c.caller serial (reply.Made j), outcome.Made j)) made_id)
        (ap (λ (u : Seen). u.position) (made_me b.seen i n (called (b.seen i) (Some (reply.Made id)) x.position)
        (g.start id c.program) (created_word id.version c.priority) apart))
        (λ j. tells_answered (renewed k1 n) f2 c.caller serial (reply.Made id) (ap (λ (l : Line). l.version) m2 ∙ sym v)
        (ap (λ (l : Line). l.serial) m2) (ap (λ (l : Line). l.told) m2)
        (tells_made k1 f1 n (λ m. unanswered_zero k m an) (now_tells b k sh.lines an c.caller x.own own run v
        (create_phase c))) j
        ∙ lines id apart (ap (λ (q : ℕ). q + 1) (sym (version_now b k sh.lines an c.caller x.own own run v (create_phase c) n))
        ∙ next) j
        ∙ ap (λ (d : Bool). shown_by d ((New (Locked (CommitCreate id)) asks.Won).seen j))
        (sym (same_exceptions (Locked (CommitCreate id)) asks.Won at h j)))
      where
        lines : (id : ThreadId) → id.number ≢ i → (b.seen id.number).word.version + 1 ≡ id.version → (j : ℕ) →
            line_answered (line_made (now_line b c.caller) id.number) i (reply.Made id) j ≡
            shown_by (excepted_by (b.owner j) b.context j) ((New (Locked (CommitCreate id)) asks.Won).seen j)
        lines id ne next =
            let n = id.number in
            let v : Seen = called (b.seen i) (Some (reply.Made id)) x.position in
            let start = g.start id c.program in
            let w = created_word id.version c.priority in
            let e : ℕ → Bool = λ j. excepted_by (b.owner j) b.context j in
            let f1 = now_line b c.caller in
            let f2 = line_made f1 n in
            by_numbers (λ (j : ℕ). line_answered f2 i (reply.Made id) j ≡
            shown_by (e j) ((New (Locked (CommitCreate id)) asks.Won).seen j)) i n
            (upd_same f2 i _ ∙ ap (λ (l : Line). record l { told = Some (reply.Made id) })
            (upd_other f1 n _ i (λ q. ne (sym q)) ∙ upd_same (shown b) i _)
            ∙ ap (shown_by (e i)) (sym (made_me b.seen i n v start w ne)))
            (upd_other f2 i _ n ne ∙ upd_same f1 n _ ∙ ap (λ (l : Line).
            record { version = l.version + 1; status = status.Run; joined = false; serial = 0; told = None })
            (upd_other (shown b) i _ n ne)
            ∙ (λ d. record {
              version = next d;
              status = sym (closed_status (e n) w.state refl) d;
              joined = false;
              serial = 0;
              told = None;
            }) ∙ ap (shown_by (e n)) (sym (made_it b.seen i n v start w ne)))
            (λ j ni nn. upd_other f2 i _ j ni ∙ upd_other f1 n _ j nn ∙ upd_other (shown b) i _ j ni
            ∙ ap (shown_by (e j)) (sym (made_other b.seen i n v start w ne j ni nn)))

    -- a step that notes this and leads there
    abbrev led : Option Point → CreateLocked → Board
    led e p = record b { seen = noted g b.seen x.position e; context = upd b.context i (record x { at = InCreate c (Locked p) }) }

    abbrev Led : Option Point → CreateLocked → Type 0
    Led e p = Goes g b k e (led e p)

    quiet_by : (p : CreateAt) (r : Response) → (b.context c.caller.number).at ≡ InCreate c p → Sound p →
        ((n : ℕ) → (New p r).seen n ≡ b.seen n) → Tells k (shown (New p r))
    quiet_by p r at h is = quiet k b (New p r) sh.lines (same_exceptions p r at h) is

    load : (w : StateWord) → (b.context c.caller.number).at ≡ InCreate c (Locked LoadCaller) → (b.seen i).word ≡ w →
        Sound (Locked LoadCaller) → GoesBy (Locked LoadCaller) (asks.Word w)
    load w at is h = go (is_dead w) refl
      where
        still : (s : ℕ → Seen) (p : CreateLocked) →
            SameExceptions b (record b { seen = s; context = upd b.context i (record x { at = InCreate c (Locked p) }) })
        still s p n =
            excepted_still b.context _ (moved_same b.context i (record x { at = InCreate c (Locked p) }) (sym (ap excepts at)))
            (b.owner n) n

        by : (b.seen i).word ≡ x.own → (o : Option ℕ) → lowest_free b.numbers ≡ o →
            Led (full_point c b.numbers o) (choose b.numbers o)
        by own None q =
            full at h own q (led (full_point c b.numbers None) (choose b.numbers None))
            (still (noted g b.seen x.position (full_point c b.numbers None)) (choose b.numbers None)) (λ n. refl)
        by own (Some m) q =
            quiet k b (led None (choose b.numbers (Some m))) sh.lines (still b.seen (choose b.numbers (Some m))) (λ n. refl)

        go : (dead : Bool) → is_dead w ≡ dead →
            Led (cond dead None (full_point c b.numbers (lowest_free b.numbers)))
            (cond dead (Release release.Dead) (choose b.numbers (lowest_free b.numbers)))
        go true d = quiet k b (led None (Release release.Dead)) sh.lines (still b.seen (Release release.Dead)) (λ n. refl)
        go false d = let own : (b.seen i).word ≡ x.own = grind arith in by own (lowest_free b.numbers) refl

    -- each location, for each response that it can have
    goes : (p : CreateAt) (r : Response) → (b.context c.caller.number).at ≡ InCreate c p →
        Answers b (ask_of c (b.context c.caller.number).own p) r → Sound p → GoesBy p r
    goes (Outside outside.AcquireTable) asks.Got at ans h = quiet_by (Outside outside.AcquireTable) asks.Got at h (λ n. refl)
    goes (Outside outside.AcquireTable) (asks.Owned o) at ans h =
        quiet_by (Outside outside.AcquireTable) (asks.Owned o) at h (λ n. refl)
    goes (Locked LoadCaller) (asks.Word w) at ans h = load w at ans h
    goes (Locked (PlaceContext id)) asks.Placed at ans h = quiet_by (Locked (PlaceContext id)) asks.Placed at h (λ n. refl)
    goes (Locked (CommitCreate id)) asks.Won at ans h = made id at h
    goes (Locked (CommitCreate id)) (asks.Lost v) at ans h = absurd (ans.1 (sym ans.0 ∙ h.1.1.1.1.1.1.0.1))
    goes (Locked (AcquireReady id)) asks.Got at ans h = quiet_by (Locked (AcquireReady id)) asks.Got at h (λ n. refl)
    goes (Locked (AcquireReady id)) (asks.Owned o) at ans h = quiet_by (Locked (AcquireReady id)) (asks.Owned o) at h (λ n. refl)
    goes (PushCreated id) asks.Released at ans h = quiet_by (PushCreated id) asks.Released at h (λ n. refl)
    goes (Locked (Release q)) asks.Released at ans h = quiet_by (Locked (Release q)) asks.Released at h (λ n. refl)
    goes (Outside (outside.Ended w)) r at ans h = absurd h.0
    goes p r at ans h = absurd ans

-- A turn of a create is one event of the specification where it has a point, and shows the same where it has none.
pub create_points : (g : Programs) (b : Board) (k : KernelState) → IsGood g b → length b.numbers.versions ≡ b.size → Shows b k →
    IsAnswered k → (i : ℕ) (c : CreateCall) (p : CreateAt) (r : Response) → (b.context i).at ≡ InCreate c p →
    Answers b (ask_of c (b.context i).own p) r →
    Goes g b k (points c (b.seen i).word (hand_of b []) p r) (create_board g b i (b.context i) c p r)
create_points g b k good count sh an i c p r at ans =
    let h : AllSay g b i (b.context i) (facts_create c p) =
    subst (λ (q : At). AllSay g b i (b.context i) (facts_of q)) at (good.places i) in
    subst (λ (m : ℕ). (b.context m).at ≡ InCreate c p → Answers b (ask_of c (b.context m).own p) r →
    Goes g b k (points c (b.seen m).word (hand_of b []) p r) (create_board g b m (b.context m) c p r))
    (create_me g b i (b.context i) c p h)
    (λ at ans. goes g b k c good count sh an p r at ans (subst
    (λ (q : At). AllSay g b c.caller.number (b.context c.caller.number) (facts_of q)) at
    (good.places c.caller.number))) at ans
