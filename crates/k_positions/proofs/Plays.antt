-- An event that comes next keeps the history playing.
use Rattle.std.proofs.Common.{◌≡◌, ◌≢◌, ◌⊎◌, ℕ, ◌+◌, ◌-◌, ◌<◌, ◌≤◌, true, false, List, [], ◌∷◌, ◌++◌, refl, sym, ap, ◌∙◌, subst, arith, Option, Some, None, is_some, Ok, inl, inr}
use Rattle.std.proofs.lemmas.Bool.{cases_eq, cases_Bool, and_parts, eqb-true, eq-eqb, false≢true}
use Rattle.k_ids.specs.declared.threads.ThreadId.{ThreadId}
use Rattle.k_ids.specs.declared.threads.Status.TheVariants as status
use Rattle.k_ids.specs.declared.calls.Phase.{Phase}
use Rattle.k_ids.specs.declared.calls.Phase.TheVariants as phase
use Rattle.k_ids.specs.declared.calls.Reply.{Reply}
use Rattle.k_ids.specs.declared.calls.Act.{Act}
use Rattle.k_ids.specs.declared.calls.Act.TheVariants as act
use Rattle.k_ids.specs.declared.calls.Outcome.{Outcome}
use Rattle.k_ids.specs.declared.histories.Entry.{Entry}
use Rattle.k_model.specs.State.{KernelState, id_of, is_dead, same_id}
use Rattle.k_model.specs.Step.{step, may_act, acted, called}
use Rattle.k_model.specs.Sound.{IsSound}
use Rattle.k_model.specs.Ranges.{IsRanged}
use Rattle.k_model.specs.Answered.{IsAnswered, IsEarlierCall, reply_to}
use Rattle.k_model.specs.Keeps.{IsRenewed, is_settled, Leaves, renewed_number}
use Rattle.k_model.specs.History.{calls_of, call_in}
use Rattle.k_model.proofs.Sound.{acted-sound, acts_alive, size-acted, run_from}
use Rattle.k_model.proofs.Answered.{acted-answered, acted-keeps_earlier, unanswered_zero}
use Rattle.k_model.proofs.Ranged.{acted-ranged}
use Rattle.k_model.proofs.Listed.{acts_living}
use Rattle.k_model.proofs.Replays.{replay_push}
use Rattle.k_model.proofs.Kept.{end_settles, gone_keeps, pick_keeps}
use Rattle.k_model.proofs.Left.{acted_leaves, acted_renews, call_caller}
use Rattle.k_script.specs.Script.{Script}
use Rattle.k_script.specs.Plays.{Position, Runs, phase_next, moved, start_of, program_of, reply_before, opened_for}
use Rattle.k_script.proofs.Goes.{runs_push, runs_later}
use Rattle.k_positions.specs.Positions.{reply_to_last}
use Rattle.k_positions.proofs.Playing.{IsAt, PlayedIn, IsPlaying}
use Rattle.k_positions.proofs.Histories.{same_is, apart_from, calls_apart, calls_mine, calls_same, program_kept}
use Rattle.k_positions.proofs.Ends.{ends_next}

-- WHAT AN EVENT CHANGES at a number: it is the caller's, it is left as it was, or it has a new thread.
abbrev pub Changes : KernelState → KernelState → ThreadId → ℕ → Type 0
Changes k n who t = (t ≡ who.number) ⊎ ((t ≢ who.number × Leaves k n t) ⊎ (t ≢ who.number × IsRenewed k t n))

pub changes : (k n : KernelState) (who : ThreadId) (r : Option ℕ) (t : ℕ) → (t ≢ who.number → r ≢ Some t → Leaves k n t) → (r ≡ Some t → IsRenewed k t n) → Changes k n who t
changes k n who None t leaves renews = elim (cases_eq t who.number) [
  | inl e ↦ inl e
  | inr ne ↦ inr (inl (ne, leaves ne (λ e. absurd cc)))
]
changes k n who (Some m) t leaves renews = elim (cases_eq t who.number) [
  | inl e ↦ inl e
  | inr ne ↦ elim (cases_eq m t) [
    | inl q ↦ inr (inr (ne, renews (ap Some q)))
    | inr nq ↦ inr (inl (ne, leaves ne (λ e. nq cc)))
  ]
]

-- The caller's number has its thread, whatever the event is.
pub caller_stays : (k : KernelState) (who : ThreadId) (serial : ℕ) (a : Act) → may_act k who serial a ≡ true → IsSound k → ((acted k who serial a).0.place who.number).version ≡ (k.place who.number).version
caller_stays k who serial (act.Call p) may s = (call_caller k who serial p may s).0
caller_stays k who serial act.Gone may s = (gone_keeps k who serial who.number may).version
caller_stays k who serial act.Pick may s = (pick_keeps k who serial who.number may s).version

module _ (script : Script) (es : List Entry) (k n : KernelState) (at : ℕ → Position) (who : ThreadId) (serial : ℕ) (a : Act) (o : Outcome) (may : may_act k who serial a ≡ true) (gives : acted k who serial a ≡ (n, o)) (p : IsPlaying script es k at) where
  abbrev pub entry_of : Entry
  entry_of = record { event = record { who = who; serial = serial; act = a }; outcome = o }

  abbrev pub then_of : List Entry
  then_of = es ++ entry_of ∷ []

  pub after : (acted k who serial a).0 ≡ n
  after = ap (λ (r : KernelState × Outcome). r.0) gives

  answered_after : IsAnswered n
  answered_after = subst IsAnswered after (acted-answered k who serial a may p.sound p.answered)

  pub change : (t : ℕ) → Changes k n who t
  change t =
      changes k n who (renewed_number (called k who serial) a) t
      (λ ne other. subst (λ (m : KernelState). Leaves k m t) after (acted_leaves k who serial a t may p.sound ne other))
      (λ e. subst (λ (m : KernelState). IsRenewed k t m) after (acted_renews k who serial a t may e))

  -- the caller is the thread of its number
  pub caller_version : (k.place who.number).version ≡ who.version
  caller_version = (acts_alive k who serial a may).0

  caller_is : id_of k who.number ≡ who
  caller_is = ap (λ (v : ℕ). record { number = who.number; version = v }) caller_version

  pub caller_at : IsAt script es k who (at who.number)
  caller_at = subst (λ (id : ThreadId). IsAt script es k id (at who.number)) caller_is (p.present who.number (acts_living k who serial a may))

  -- REPLIES TO EARLIER CALLS stay as they are.
  pub replies_stay : (id : ThreadId) (next : ℕ) → (id.version < (n.place id.number).version) ⊎ ((id.version ≡ (n.place id.number).version) × (next ≤ (n.place id.number).serial + 1)) → (i : ℕ) → i < next → reply_before k id i ≡ reply_before n id i
  replies_stay id next early i below = elim (cases_eq (i - 1) 0) [
    | inl e ↦ rw e (unanswered_zero k id p.answered ∙ sym (unanswered_zero n id answered_after))
    | inr ne ↦
        let earlier : IsEarlierCall n id (i - 1) = elim early [
          | inl v ↦ inl v
          | inr v ↦ inr (v.0, omega (arith, below, ne, v.1))
        ] in
        let law = acted-keeps_earlier k who serial a may p.sound p.answered id (i - 1) (subst (λ (m : KernelState). IsEarlierCall m id (i - 1)) (sym after) earlier) in
        sym (subst (λ (m : KernelState). reply_to m.replies id (i - 1) ≡ reply_to k.replies id (i - 1)) after law)
  ]

  -- A THREAD THAT ISN'T THE CALLER has played what it had.

  caller_same : (n.place who.number).version ≡ (k.place who.number).version
  caller_same = subst (λ (m : KernelState). (m.place who.number).version ≡ (k.place who.number).version) after (caller_stays k who serial a may p.sound)

  other_early : (id : ThreadId) (next : ℕ) → same_id who id ≡ false → (id.version < (k.place id.number).version) ⊎ ((id.version ≡ (k.place id.number).version) × (next ≡ (k.place id.number).serial + 1)) → (id.version < (n.place id.number).version) ⊎ ((id.version ≡ (n.place id.number).version) × (next ≡ (n.place id.number).serial + 1))
  other_early id next apart (inl v) = elim (change id.number) [
    | inl e ↦
        let version : (n.place id.number).version ≡ (k.place id.number).version = subst (λ (t : ℕ). (n.place t).version ≡ (k.place t).version) (sym e) caller_same in
        inl (omega (arith, version, v))
    | inr c ↦ elim c [
      | inl l ↦ inl (omega (arith, l.1.version, v))
      | inr r ↦ inl (omega (arith, r.1.version, v))
    ]
  ]
  other_early id next apart (inr v) = elim (change id.number) [
    | inl e ↦
        let version : id.version ≡ who.version = v.0 ∙ ap (λ (t : ℕ). (k.place t).version) e ∙ caller_version in
        let mine : same_id who id ≡ true = rw (eq-eqb who.number id.number (sym e), eq-eqb who.version id.version (sym version)) refl in
        absurd (false≢true (sym apart ∙ mine))
    | inr c ↦ elim c [
      | inl l ↦ inr (v.0 ∙ sym l.1.version, omega (arith, v.1, l.1.serial))
      | inr r ↦ inl (omega (arith, v.0, r.1.version))
    ]
  ]

  bound_of : (id : ThreadId) (next : ℕ) → (id.version < (n.place id.number).version) ⊎ ((id.version ≡ (n.place id.number).version) × (next ≡ (n.place id.number).serial + 1)) → (id.version < (n.place id.number).version) ⊎ ((id.version ≡ (n.place id.number).version) × (next ≤ (n.place id.number).serial + 1))
  bound_of id next (inl v) = inl v
  bound_of id next (inr v) = inr (v.0, omega (arith, v.1))

  played_other : (id : ThreadId) → same_id who id ≡ false → (program : Option ℕ) → PlayedIn script es k id program → PlayedIn script then_of n id program
  played_other id apart None h = calls_apart es entry_of id apart ∙ h
  played_other id apart (Some program) h =
      let early = other_early id h.next apart h.early in
      record {
        position = h.position;
        next = h.next;
        runs = rw (calls_apart es entry_of id apart) (runs_later script.version (reply_before k id) (reply_before n id) (start_of script program id) h.position 1 h.next (calls_of id es) (replies_stay id h.next (bound_of id h.next early)) h.runs);
        early = early;
      }

  -- A THREAD AT ITS POSITION that isn't the caller, and stays there

  pub at_other : (t : ℕ) → t ≢ who.number → Leaves k n t → is_dead (n.place t).status ≡ false → IsAt script then_of n (id_of n t) (at t)
  at_other t ne l alive =
      let lived : is_dead (k.place t).status ≡ false = elim (cases_Bool (is_dead (k.place t).status)) [
        | inl d ↦ absurd (false≢true (sym alive ∙ l.dead d))
        | inr d ↦ d
      ] in
      let h = p.present t lived in
      let id : id_of k t ≡ id_of n t = ap (λ (v : ℕ). record { number = t; version = v }) (sym l.version) in
      let apart : same_id who (id_of k t) ≡ false = apart_from who (id_of k t) (λ e. ne (ap (λ (x : ThreadId). x.number) (sym e))) in
      let early : ((k.place t).version < (n.place t).version) ⊎ (((k.place t).version ≡ (n.place t).version) × ((k.place t).serial + 1 ≤ (n.place t).serial + 1)) = inr (sym l.version, omega (arith, l.serial)) in
      let runs : Runs script.version (reply_before n (id_of k t)) (start_of script h.program (id_of k t)) 1 (calls_of (id_of k t) then_of) (at t) ((n.place t).serial + 1) =
      rw (calls_apart es entry_of (id_of k t) apart, l.serial) (runs_later script.version (reply_before k (id_of k t)) (reply_before n (id_of k t)) (start_of script h.program (id_of k t)) (at t) 1 ((k.place t).serial + 1) (calls_of (id_of k t) es) (replies_stay (id_of k t) ((k.place t).serial + 1) early) h.runs) in
      let stays : IsAt script then_of n (id_of k t) (at t) = record {
        program = h.program;
        is = program_kept script es entry_of (id_of k t) h.program h.is;
        runs = runs;
        going = λ f. h.going (elim (cases_Bool (is_settled (k.place t).status)) [
          | inl s ↦ absurd (false≢true (sym f ∙ l.settled s))
          | inr s ↦ s
        ]);
      } in
      subst (λ (x : ThreadId). IsAt script then_of n x (at t)) id stays

  -- ALL OF IT, from the caller's position, the others', and the programs that new threads got
  pub keeps_playing : (to : ℕ → Position) → step k entry_of.event ≡ Ok (n, o) → IsAt script then_of n who (to who.number) → ((t : ℕ) → t ≢ who.number → is_dead (n.place t).status ≡ false → IsAt script then_of n (id_of n t) (to t)) → ((id : ThreadId) → (program_of script then_of id ≡ program_of script es id) ⊎ ((id.version ≡ (n.place id.number).version) × IsAt script then_of n id (to id.number))) → IsPlaying script then_of n to
  keeps_playing to ok mine others programs =
      let from_at : (id : ThreadId) (q : Position) → id.version ≡ (n.place id.number).version → IsAt script then_of n id q → PlayedIn script then_of n id (program_of script then_of id) = λ id q version h.
      subst (PlayedIn script then_of n id) (sym h.is) (record { position = q; next = _; runs = h.runs; early = inr (version, refl) }) in
      let version : who.version ≡ (n.place who.number).version = sym (caller_same ∙ caller_version) in
      record {
        replay = replay_push (opened_for script) k n es entry_of p.replay ok;
        size = sym (ap (λ (m : KernelState). m.size) after) ∙ size-acted k who serial a ∙ p.size;
        sound = subst IsSound after (acted-sound k who serial a may p.sound);
        answered = answered_after;
        ranged = subst IsRanged after (acted-ranged k who serial a may p.sound p.ranged);
        played = λ id. elim (cases_Bool (same_id who id)) [
          | inl t ↦ subst (λ (x : ThreadId). PlayedIn script then_of n x (program_of script then_of x)) (same_is who id t) (from_at who (to who.number) version mine)
          | inr f ↦ elim (programs id) [
            | inl same ↦ subst (PlayedIn script then_of n id) (sym same) (played_other id f (program_of script es id) (p.played id))
            | inr h ↦ from_at id (to id.number) h.0 h.1
          ]
        ];
        unborn = λ id less. elim (programs id) [
          | inl same ↦ same ∙ p.unborn id (elim (change id.number) [
            | inl e ↦
                let kept : (n.place id.number).version ≡ (k.place id.number).version = subst (λ (t : ℕ). (n.place t).version ≡ (k.place t).version) (sym e) caller_same in
                omega (arith, kept, less)
            | inr c ↦ elim c [
              | inl l ↦ omega (arith, l.1.version, less)
              | inr r ↦ omega (arith, r.1.version, less)
            ]
          ])
          | inr h ↦ absurd (omega (arith, h.0, less))
        ];
        present = λ t alive. elim (cases_eq t who.number) [
          | inl e ↦
              let id : who ≡ id_of n who.number = ap (λ (v : ℕ). record { number = who.number; version = v }) version in
              subst (λ (j : ℕ). IsAt script then_of n (id_of n j) (to j)) (sym e) (subst (λ (x : ThreadId). IsAt script then_of n x (to who.number)) id mine)
          | inr ne ↦ others t ne alive
        ];
      }

  -- An event that makes no thread: the others stay where they are.
  pub keeps_others : (to : ℕ → Position) → renewed_number (called k who serial) a ≡ None → ((t : ℕ) → t ≢ who.number → to t ≡ at t) → (t : ℕ) → t ≢ who.number → is_dead (n.place t).status ≡ false → IsAt script then_of n (id_of n t) (to t)
  keeps_others to none stand t ne alive =
      let l = subst (λ (m : KernelState). Leaves k m t) after (acted_leaves k who serial a t may p.sound ne (λ e. let no : None ≡ Some t = sym none ∙ e in cc)) in
      subst (λ (q : Position). IsAt script then_of n (id_of n t) q) (sym (stand t ne)) (at_other t ne l alive)

  -- THE CALLER, where the event isn't a call

  pub mine_stays : call_in a serial ≡ [] → Leaves k n who.number → IsAt script then_of n who (at who.number)
  mine_stays none l =
      let h = caller_at in
      let early : (who.version < (n.place who.number).version) ⊎ ((who.version ≡ (n.place who.number).version) × ((k.place who.number).serial + 1 ≤ (n.place who.number).serial + 1)) = inr (sym (caller_same ∙ caller_version), omega (arith, l.serial)) in
      record {
        program = h.program;
        is = program_kept script es entry_of who h.program h.is;
        runs = rw (calls_same es entry_of who none, l.serial) (runs_later script.version (reply_before k who) (reply_before n who) (start_of script h.program who) (at who.number) 1 ((k.place who.number).serial + 1) (calls_of who es) (replies_stay who ((k.place who.number).serial + 1) early) h.runs);
        going = λ f. h.going (elim (cases_Bool (is_settled (k.place who.number).status)) [
          | inl s ↦ absurd (false≢true (sym f ∙ l.settled s))
          | inr s ↦ s
        ]);
      }

-- THE CALLER, where the event is a call of the next phase: its program goes on.
module _ (script : Script) (es : List Entry) (k n : KernelState) (at to : ℕ → Position) (who : ThreadId) (serial : ℕ) (c : Phase) (o : Outcome) (may : may_act k who serial (act.Call c) ≡ true) (gives : acted k who serial (act.Call c) ≡ (n, o)) (p : IsPlaying script es k at) (next : c ≡ phase_next script.version (at who.number) (reply_to_last k who)) (moves : to who.number ≡ moved (at who.number) (reply_to_last k who)) where
  call_run : (k.place who.number).status ≡ status.Run
  call_run = run_from (k.place who.number).status (and_parts _ _ (and_parts _ _ may).0).1

  call_going : is_some (at who.number).left ≡ true
  call_going = (caller_at script es k n at who serial (act.Call c) o may gives p).going (ap is_settled call_run)

  pub mine_moves : IsAt script (then_of script es k n at who serial (act.Call c) o may gives p) n who (to who.number)
  mine_moves =
      let me = who.number in
      let last = (k.place me).serial in
      let reply = reply_to_last k who in
      let entry = entry_of script es k n at who serial (act.Call c) o may gives p in
      let fs = es ++ entry ∷ [] in
      let h = caller_at script es k n at who serial (act.Call c) o may gives p in
      let got = after script es k n at who serial (act.Call c) o may gives p in
      let count : serial ≡ last + 1 = eqb-true serial (last + 1) (and_parts _ _ may).1 in
      let counted : (n.place me).serial ≡ last + 1 = sym (ap (λ (m : KernelState). (m.place me).serial) got) ∙ (call_caller k who serial c may p.sound).1 ∙ count in
      let same = caller_same script es k n at who serial (act.Call c) o may gives p in
      let version : who.version ≡ (n.place me).version = sym (same ∙ caller_version script es k n at who serial (act.Call c) o may gives p) in
      let before : reply_before k who (last + 1) ≡ reply = ap (λ (s : ℕ). reply_to k.replies who s) (omega arith) in
      let calls : calls_of who fs ≡ calls_of who es ++ (last + 1, phase_next script.version (at me) (reply_before k who (last + 1))) ∷ [] =
      calls_mine es who serial c o ∙ ap (λ (q : Phase). calls_of who es ++ (serial, q) ∷ []) (next ∙ ap (λ (r : Option Reply). phase_next script.version (at me) r) (sym before)) ∙ ap (λ (i : ℕ). calls_of who es ++ (i, phase_next script.version (at me) (reply_before k who (last + 1))) ∷ []) count in
      let start = start_of script h.program who in
      let pushed = runs_push script.version (reply_before k who) start (at me) 1 (last + 1) (calls_of who es) call_going h.runs in
      let there : moved (at me) (reply_before k who (last + 1)) ≡ to me = ap (λ (r : Option Reply). moved (at me) r) before ∙ sym moves in
      let early : (who.version < (n.place me).version) ⊎ ((who.version ≡ (n.place me).version) × (last + 1 + 1 ≤ (n.place me).serial + 1)) = inr (version, omega (arith, counted)) in
      let stays = replies_stay script es k n at who serial (act.Call c) o may gives p who (last + 1 + 1) early in
      let ends : c ≡ phase.End → (n.place me).status ≡ status.Ended = λ e. sym (ap (λ (m : KernelState). (m.place me).status) got) ∙ ap (λ (q : Phase). ((acted k who serial (act.Call q)).0.place me).status) e ∙ end_settles k who serial in
      record {
        program = h.program;
        is = program_kept script es entry who h.program h.is;
        runs = rw (calls, counted, ← there) (runs_later script.version (reply_before k who) (reply_before n who) start _ 1 (last + 1 + 1) _ stays pushed);
        going = λ f. elim (ends_next script.version (at me) reply) [
          | inl q ↦ ap (λ (x : Position). is_some x.left) moves ∙ q
          | inr q ↦ absurd (false≢true (sym f ∙ ap is_settled (ends (next ∙ q))))
        ];
      }
