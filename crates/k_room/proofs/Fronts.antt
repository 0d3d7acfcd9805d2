-- Each front of a legal, playing history is one, and the call behind it is the next one of its thread's program.
use Rattle.std.proofs.Common.{◌≡◌, ◌⊎◌, ℕ, ◌+◌, ◌-◌, ◌*◌, ◌<◌, ◌≤◌, true, List, [], ◌∷◌, ◌++◌, length, length-append}
use Rattle.std.proofs.Common.{refl, sym, ap, ◌∙◌, subst, arith, append_assoc, Option, Some, Ok, inl, inr}
use Rattle.std.proofs.lemmas.List.{append-nil}
use Rattle.std.proofs.lemmas.Bool.{cases_eq, and_parts, eqb-true}
use Rattle.k_ids.specs.declared.threads.ThreadId.{ThreadId}
use Rattle.k_ids.specs.declared.calls.Phase.{Phase}
use Rattle.k_ids.specs.declared.calls.Reply.{Reply}
use Rattle.k_ids.specs.declared.calls.Act.{Act}
use Rattle.k_ids.specs.declared.calls.Act.TheVariants as act
use Rattle.k_ids.specs.declared.calls.Outcome.{Outcome}
use Rattle.k_ids.specs.declared.histories.Entry.{Entry}
use Rattle.k_model.specs.State.{KernelState}
use Rattle.k_model.specs.Step.{step, may_act, acted, called}
use Rattle.k_model.specs.Sound.{IsSound}
use Rattle.k_model.specs.Answered.{IsAnswered, IsEarlierCall, reply_to}
use Rattle.k_model.specs.Keeps.{renewed_number}
use Rattle.k_model.specs.History.{IsReplay, calls_of, call_of, call_in}
use Rattle.k_model.proofs.Sound.{acted-sound, acts_alive}
use Rattle.k_model.proofs.Answered.{acted-answered, acted-keeps_earlier, unanswered_zero}
use Rattle.k_model.proofs.Replays.{replay_good}
use Rattle.k_model.proofs.Kept.{gone_keeps, pick_keeps}
use Rattle.k_model.proofs.Left.{acted_leaves, acted_renews, call_caller}
use Rattle.k_script.specs.Script.{Script}
use Rattle.k_script.specs.Limits.{IsScript}
use Rattle.k_script.specs.Plays.{Position, Plays, PlaysIn, RunsProgram, Runs, moved, phase_next}
use Rattle.k_script.specs.Plays.{program_of, reply_before, start_of, opened_for, first_id}
use Rattle.k_script.proofs.Goes.{runs_later}
use Rattle.k_positions.specs.Positions.{IsNextAct, positions_after, program_at, reply_to_last}
use Rattle.k_positions.proofs.Playing.{IsPlaying}
use Rattle.k_positions.proofs.Histories.{step_gives, same_self, program_kept}
use Rattle.k_positions.proofs.Plays.{caller_at, caller_stays, changes, replies_stay}
use Rattle.k_script.specs.Weight.{phases_of}
use Rattle.k_room.specs.Histories.{Follows}
use Rattle.k_room.specs.Room.{to_come}
use Rattle.k_room.proofs.Counted.{IsCounted}
use Rattle.k_room.proofs.Gains.{counts_on}
use Rattle.k_room.proofs.Starts.{starts_counted, starts_whole}

-- THE STATE is that which the events leave.
pub replay_one : (old : KernelState) (es : List Entry) (m n : KernelState) → IsReplay old es m → IsReplay old es n → m ≡ n
replay_one old [] m n h i = h ∙ sym i
replay_one old (e ∷ es) m n h i =
    let both : Ok (h.0, e.outcome) ≡ Ok (i.0, e.outcome) = sym h.1 ∙ i.1 in
    let left : KernelState × Outcome = (h.0, e.outcome) in
    let right : KernelState × Outcome = (i.0, e.outcome) in
    let pair : left ≡ right = cc in
    let same : h.0 ≡ i.0 = ap (λ (r : KernelState × Outcome). r.0) pair in
    replay_one i.0 es m n (subst (λ (k : KernelState). IsReplay k es m) same h.2) i.2

-- REPLIES TO EARLIER CALLS stay, whatever comes.

caller_serial : (k : KernelState) (who : ThreadId) (serial : ℕ) (a : Act) → may_act k who serial a ≡ true → IsSound k →
    (k.place who.number).serial ≤ ((acted k who serial a).0.place who.number).serial
caller_serial k who serial (act.Call p) may s =
    let count : serial ≡ (k.place who.number).serial + 1 = eqb-true serial _ (and_parts _ _ may).1 in
    omega (arith, count, (call_caller k who serial p may s).1)
caller_serial k who serial act.Gone may s = omega (arith, (gone_keeps k who serial who.number may).serial)
caller_serial k who serial act.Pick may s = omega (arith, (pick_keeps k who serial who.number may s).serial)

earlier_stays : (k : KernelState) (who : ThreadId) (serial : ℕ) (a : Act) → may_act k who serial a ≡ true → IsSound k →
    (id : ThreadId) (s : ℕ) → IsEarlierCall k id s → IsEarlierCall (acted k who serial a).0 id s
earlier_stays k who serial a may sound id s h =
    let n = (acted k who serial a).0 in
    let later : ((k.place id.number).version < (n.place id.number).version) ⊎
    (((k.place id.number).version ≡ (n.place id.number).version) ×
    ((k.place id.number).serial ≤ (n.place id.number).serial)) =
    elim (changes k n who (renewed_number (called k who serial) a) id.number
    (λ ne other. acted_leaves k who serial a id.number may sound ne other)
    (λ e. acted_renews k who serial a id.number may e)) [
      | inl e ↦
          inr (subst (λ (t : ℕ). ((k.place t).version ≡ (n.place t).version) × ((k.place t).serial ≤ (n.place t).serial)) (sym e)
          (sym (caller_stays k who serial a may sound), caller_serial k who serial a may sound))
      | inr c ↦ elim c [
        | inl l ↦ inr (sym l.1.version, omega (arith, l.1.serial))
        | inr r ↦ inl (omega (arith, r.1.version))
      ]
    ] in
    elim h [
      | inl v ↦ elim later [ inl l ↦ inl (omega (arith, v, l)) | inr l ↦ inl (omega (arith, v, l.0)) ]
      | inr v ↦ elim later [ inl l ↦ inl (omega (arith, v.0, l)) | inr l ↦ inr (v.0 ∙ l.0, omega (arith, v.1, l.1)) ]
    ]

replay_keeps : (k : KernelState) (es : List Entry) (n : KernelState) → IsSound k → IsAnswered k → IsReplay k es n →
    (id : ThreadId) (s : ℕ) → IsEarlierCall k id s → reply_to n.replies id s ≡ reply_to k.replies id s
replay_keeps k [] n sound answered h id s early = ap (λ (m : KernelState). reply_to m.replies id s) h
replay_keeps k (e ∷ es) n sound answered h id s early =
    let g = step_gives k h.0 e.event e.outcome h.1 in
    let got : (acted k e.event.who e.event.serial e.event.act).0 ≡ h.0 = ap (λ (r : KernelState × Outcome). r.0) g.1 in
    let next = earlier_stays k e.event.who e.event.serial e.event.act g.0 sound id s early in
    let here = acted-keeps_earlier k e.event.who e.event.serial e.event.act g.0 sound answered id s next in
    replay_keeps h.0 es n (subst IsSound got (acted-sound k e.event.who e.event.serial e.event.act g.0 sound))
    (subst IsAnswered got (acted-answered k e.event.who e.event.serial e.event.act g.0 sound answered)) h.2 id s
    (subst (λ (m : KernelState). IsEarlierCall m id s) got next)
    ∙ subst (λ (m : KernelState). reply_to m.replies id s ≡ reply_to k.replies id s) got here

-- CALLS AND PROGRAMS of a history with more behind it

pub calls_append : (id : ThreadId) (es fs : List Entry) → calls_of id (es ++ fs) ≡ calls_of id es ++ calls_of id fs
calls_append id [] fs = refl
calls_append id (e ∷ es) fs =
    ap (λ (cs : List (ℕ × Phase)). call_of id e ++ cs) (calls_append id es fs)
    ∙ sym (append_assoc (call_of id e) (calls_of id es) (calls_of id fs))

program_stays_so : (script : Script) (es fs : List Entry) (id : ThreadId) (program : ℕ) → program_of script es id ≡ Some program →
    program_of script (es ++ fs) id ≡ Some program
program_stays_so script es [] id program h =
    subst (λ (xs : List Entry). program_of script xs id ≡ Some program) (sym (append-nil es)) h
program_stays_so script es (f ∷ fs) id program h =
    subst (λ (xs : List Entry). program_of script xs id ≡ Some program) (append_assoc es (f ∷ []) fs)
    (program_stays_so script (es ++ f ∷ []) fs id program (program_kept script es f id program h))

-- The call behind those of a front is the program's next.
runs_then : (version : ℕ) (replies : ℕ → Option Reply) (p q r : Position) (s m n : ℕ) (calls : List (ℕ × Phase)) (c : ℕ × Phase)
    (more : List (ℕ × Phase)) → Runs version replies p s calls q m → Runs version replies p s (calls ++ c ∷ more) r n →
    c ≡ (m, phase_next version q (replies m))
runs_then version replies p q r s m n [] c more h i =
    i.1 ∙ ap (λ (x : Position). (s, phase_next version x (replies s))) (sym h.0)
    ∙ ap (λ (t : ℕ). (t, phase_next version q (replies t))) (sym h.1)
runs_then version replies p q r s m n (d ∷ calls) c more h i =
    runs_then version replies (moved p (replies s)) q r (s + 1) m n calls c more h.2 i.2

module _ (script : Script) (front behind : List Entry) (k mid end : KernelState) (at : ℕ → Position) (e : Entry)
    (p : IsPlaying script front k at) (ok : step k e.event ≡ Ok (mid, e.outcome)) (rest : IsReplay mid behind end)
    (plays : Plays script (front ++ e ∷ behind) end) where
  abbrev who : ThreadId
  who = e.event.who

  abbrev last : ℕ
  last = (k.place e.event.who.number).serial

  may : may_act k who e.event.serial e.event.act ≡ true
  may = (step_gives k mid e.event e.outcome ok).0

  gives : acted k who e.event.serial e.event.act ≡ (mid, e.outcome)
  gives = (step_gives k mid e.event e.outcome ok).1

  got : (acted k who e.event.serial e.event.act).0 ≡ mid
  got = ap (λ (r : KernelState × Outcome). r.0) gives

  good_mid : IsSound mid × IsAnswered mid
  good_mid = (
    subst IsSound got (acted-sound k who e.event.serial e.event.act may p.sound),
    subst IsAnswered got (acted-answered k who e.event.serial e.event.act may p.sound p.answered),
  )

  call_due : (phase : Phase) → e.event.act ≡ act.Call phase →
      phase ≡ phase_next script.version (at who.number) (reply_to_last k who)
  call_due phase is =
      let h = caller_at script front k mid at who e.event.serial e.event.act e.outcome may gives p in
      let call : may_act k who e.event.serial (act.Call phase) ≡ true =
      subst (λ (a : Act). may_act k who e.event.serial a ≡ true) is may in
      let done : acted k who e.event.serial (act.Call phase) ≡ (mid, e.outcome) =
      subst (λ (a : Act). acted k who e.event.serial a ≡ (mid, e.outcome)) is gives in
      let count : e.event.serial ≡ last + 1 = eqb-true e.event.serial (last + 1) (and_parts _ _ call).1 in
      let left : (acted k who e.event.serial (act.Call phase)).0 ≡ mid = ap (λ (r : KernelState × Outcome). r.0) done in
      let caller = call_caller k who e.event.serial phase call p.sound in
      let serial : (mid.place who.number).serial ≡ last + 1 =
      sym (ap (λ (m : KernelState). (m.place who.number).serial) left) ∙ caller.1 ∙ count in
      let version : who.version ≡ (mid.place who.number).version =
      sym (acts_alive k who e.event.serial e.event.act may).0 ∙ sym caller.0
      ∙ ap (λ (m : KernelState). (m.place who.number).version) left in
      let early : (who.version < (mid.place who.number).version) ⊎
      ((who.version ≡ (mid.place who.number).version) × (last + 1 + 1 ≤ (mid.place who.number).serial + 1)) =
      inr (version, omega (arith, serial)) in
      let stay = replies_stay script front k mid at who e.event.serial e.event.act e.outcome may gives p who
      (last + 1 + 1) early in
      let good_end = replay_good mid behind end good_mid.0 good_mid.1 rest in
      let replies : (i : ℕ) → i < last + 1 + 1 → reply_before k who i ≡ reply_before end who i =
      λ i l. elim (cases_eq (i - 1) 0) [
        | inl z ↦ rw z (unanswered_zero k who p.answered ∙ sym (unanswered_zero end who good_end.1))
        | inr nz ↦
            stay i l ∙ sym (replay_keeps mid behind end good_mid.0 good_mid.1 rest who (i - 1)
            (inr (version, omega (arith, l, nz, serial))))
      ] in
      let start = start_of script h.program who in
      let mine : Runs script.version (reply_before end who) start 1 (calls_of who front) (at who.number) (last + 1) =
      runs_later script.version (reply_before k who) (reply_before end who) start (at who.number) 1 (last + 1)
      (calls_of who front) (λ i l. replies i (omega (arith, l))) h.runs in
      let named = program_stays_so script front (e ∷ behind) who h.program h.is in
      let whole : RunsProgram script h.program (front ++ e ∷ behind) end who =
      subst (PlaysIn script (front ++ e ∷ behind) end who) named (plays who) in
      let head : call_of who e ≡ (e.event.serial, phase) ∷ [] =
      rw (same_self who) (ap (λ (a : Act). call_in a e.event.serial) is) in
      let calls : calls_of who (front ++ e ∷ behind) ≡ calls_of who front ++ (e.event.serial, phase) ∷ calls_of who behind =
      calls_append who front (e ∷ behind) ∙ ap (λ (cs : List (ℕ × Phase)). calls_of who front ++
      (cs ++ calls_of who behind)) head in
      let all : Runs script.version (reply_before end who) start 1
      (calls_of who front ++ (e.event.serial, phase) ∷ calls_of who behind) whole.position whole.next =
      subst (λ (cs : List (ℕ × Phase)). Runs script.version
      (reply_before end who) start 1 cs whole.position whole.next) calls whole.runs in
      let pair = runs_then script.version (reply_before end who) start (at who.number) whole.position 1 (last + 1) whole.next
      (calls_of who front) (e.event.serial, phase) (calls_of who behind) mine all in
      let told : reply_before end who (last + 1) ≡ reply_to_last k who =
      sym (replies (last + 1) (omega arith)) ∙ ap (λ (s : ℕ). reply_to k.replies who s) (omega arith) in
      ap (λ (c : ℕ × Phase). c.1) pair ∙ ap (λ (r : Option Reply). phase_next script.version (at who.number) r) told

  act_due : (a : Act) → e.event.act ≡ a → IsNextAct script k at who a
  act_due (act.Call phase) is = call_due phase is
  act_due act.Gone is = tt
  act_due act.Pick is = tt

  pub next_due : IsNextAct script k at who e.event.act
  next_due = act_due e.event.act refl

-- A FRONT, with its state and positions, and what replays behind it. It and what is still to come are twice the script's phases
-- at most.
pub record IsFront (script : Script) (front behind : List Entry) (end : KernelState) : Type 0 where
  pub state : KernelState
  pub positions : ℕ → Position
  pub counted : IsCounted script front state positions
  pub few : length front + to_come script state positions ≤ 2 * phases_of script
  pub rest : IsReplay state behind end

walk : (script : Script) (front more behind : List Entry) (k end : KernelState) (at : ℕ → Position) → IsScript script →
    IsCounted script front k at → length front + to_come script k at ≤ 2 * phases_of script → IsReplay k (more ++ behind) end →
    Plays script (front ++ (more ++ behind)) end → IsFront script (front ++ more) behind end
walk script front [] behind k end at s p few r plays =
    subst (λ (es : List Entry). IsFront script es behind end) (sym (append-nil front))
    (record { state = k; positions = at; counted = p; few = few; rest = r })
walk script front (e ∷ more) behind k end at s p few r plays =
    let next = next_due script front (more ++ behind) k r.0 end at e p.playing r.1 r.2 plays in
    let to = positions_after script k at e in
    let on = counts_on script s front k r.0 at to e p r.1 next (λ t. refl) in
    let whole : Plays script ((front ++ e ∷ []) ++ (more ++ behind)) end =
    subst (λ (es : List Entry). Plays script es end) (sym (append_assoc front (e ∷ []) (more ++ behind))) plays in
    let fewer : length (front ++ e ∷ []) + to_come script r.0 to ≤ 2 * phases_of script =
    omega (arith, few, on.falls, length-append front (e ∷ [])) in
    subst (λ (es : List Entry). IsFront script es behind end) (append_assoc front (e ∷ []) more)
    (walk script (front ++ e ∷ []) more behind r.0 end to s on.counted fewer r.2 whole)

pub front_of : (script : Script) (front behind : List Entry) (end : KernelState) → IsScript script →
    Follows script (front ++ behind) end → IsFront script front behind end
front_of script front behind end s f =
    let at : ℕ → Position = λ t. start_of script (program_at script t) (first_id t) in
    walk script [] front behind (opened_for script) end at s (starts_counted script at s (λ t _. refl))
    (omega (arith, starts_whole script at s (λ t _. refl))) f.legal f.plays
