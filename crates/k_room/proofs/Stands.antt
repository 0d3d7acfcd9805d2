-- Where a history leaves the programs of all threads, the destroyed ones among them.
use Rattle.std.proofs.Common.{◌≡◌, ◌⊎◌, ℕ, ◌+◌, ◌*◌, ◌<◌, ◌≤◌, false, List, [], ◌∷◌, ◌++◌, refl}
use Rattle.std.proofs.Common.{sym, ap, ◌∙◌, subst, arith, Option, Some, None, Ok, inl, inr}
use Rattle.std.proofs.lemmas.Bool.{cases_eq, cases_Bool}
use Rattle.k_ids.specs.declared.threads.ThreadId.{ThreadId}
use Rattle.k_ids.specs.declared.calls.Phase.{Phase}
use Rattle.k_ids.specs.declared.calls.Phase.TheVariants as phase
use Rattle.k_ids.specs.declared.calls.Reply.{Reply}
use Rattle.k_ids.specs.declared.calls.Act.{Act}
use Rattle.k_ids.specs.declared.calls.Act.TheVariants as act
use Rattle.k_ids.specs.declared.calls.Outcome.{Outcome}
use Rattle.k_ids.specs.declared.calls.Outcome.TheVariants as outcome
use Rattle.k_ids.specs.declared.histories.Entry.{Entry}
use Rattle.k_model.specs.State.{KernelState, id_of, is_dead, same_id}
use Rattle.k_model.specs.Step.{step, acted}
use Rattle.k_model.specs.Keeps.{IsRenewed, Leaves}
use Rattle.k_model.specs.History.{calls_of}
use Rattle.k_model.proofs.Left.{acted_leaves, acted_renews, create_tells}
use Rattle.k_script.specs.Script.{Script}
use Rattle.k_script.specs.Weight.{phases_of}
use Rattle.k_script.specs.Plays.{Position, Runs, IsWithin, moved, phases_left, start_of, program_of, reply_before, makes}
use Rattle.k_script.proofs.Goes.{runs_later}
use Rattle.k_positions.specs.Positions.{IsNextAct, positions_after}
use Rattle.k_positions.proofs.Playing.{IsAt, IsPlaying}
use Rattle.k_positions.proofs.Histories.{step_gives, apart_from, calls_apart, calls_same, program_stays, none_made, other_made}
use Rattle.k_positions.proofs.Moves.{entry_for, Happens, OfOthers, OfCalls, OfCreates, moves_by}
use Rattle.k_positions.proofs.Plays.{caller_stays, caller_version, mine_moves, replies_stay}
use Rattle.k_room.specs.Histories.{AllStand, StandsIn}
use Rattle.k_model.specs.Effort.{waits}
use Rattle.k_room.specs.Room.{share, sum_below, to_come}
use Rattle.k_room.proofs.Counted.{IsCounted}

-- The calls of a program lead to one position.
pub runs_one : (version : ℕ) (replies : ℕ → Option Reply) (p q r : Position) (s m n : ℕ) (calls : List (ℕ × Phase)) →
    Runs version replies p s calls q m → Runs version replies p s calls r n → (q ≡ r) × (m ≡ n)
runs_one version replies p q r s m n [] h i = (h.0 ∙ sym i.0, h.1 ∙ sym i.1)
runs_one version replies p q r s m n (c ∷ calls) h i =
    runs_one version replies (moved p (replies s)) q r (s + 1) m n calls h.2 i.2

-- THE POSITIONS OF A PLAYING HISTORY are those at which its threads stand.

pub stands_from : (script : Script) (es : List Entry) (k : KernelState) (id : ThreadId) (q : Position) → IsAt script es k id q →
    StandsIn script es k id q (program_of script es id)
stands_from script es k id q h = subst (StandsIn script es k id q) (sym h.is) h.runs

module _ (script : Script) (es : List Entry) (k : KernelState) (at own : ℕ → Position) (all : AllStand script es k at) where
  pub place_one : IsPlaying script es k own → (t : ℕ) → is_dead (k.place t).status ≡ false → own t ≡ at t
  place_one p t alive =
      let h = p.present t alive in
      let id = id_of k t in
      let mine : Runs script.version (reply_before k id) (start_of script h.program id) 1 (calls_of id es) (at t)
      ((k.place t).serial + 1) = subst (StandsIn script es k id (at t)) h.is (all t) in
      (runs_one script.version (reply_before k id) (start_of script h.program id) (own t) (at t) 1 ((k.place t).serial + 1)
      ((k.place t).serial + 1) (calls_of id es) h.runs mine).0

  pub playing_at : IsPlaying script es k own → IsPlaying script es k at
  playing_at p = record {
    replay = p.replay;
    size = p.size;
    sound = p.sound;
    answered = p.answered;
    ranged = p.ranged;
    played = p.played;
    unborn = p.unborn;
    present = λ t alive. subst (IsAt script es k (id_of k t)) (place_one p t alive) (p.present t alive);
  }

  pub counted_at : IsCounted script es k own → IsCounted script es k at
  counted_at c = record {
    playing = playing_at c.playing;
    bounds = λ t alive.
        let b = c.bounds t alive in
        let e = place_one c.playing t alive in
        record {
          within = subst (IsWithin script) e b.within;
          bounded = subst (λ (q : Position). (k.place t).serial + phases_left script q ≤ phases_of script) e b.bounded;
        };
  }

  share_same : IsPlaying script es k own → (t : ℕ) → share script (at t) (k.place t).status ≡
      share script (own t) (k.place t).status
  share_same p t = elim (cases_Bool (is_dead (k.place t).status)) [
    | inl d ↦ rw d refl
    | inr alive ↦ rw alive (ap (phases_left script) (sym (place_one p t alive)))
  ]

  pub to_come_same : IsPlaying script es k own → to_come script k at ≡ to_come script k own
  to_come_same p =
      let maps : (λ (t : ℕ). share script (at t) (k.place t).status) ≡ (λ (t : ℕ). share script (own t) (k.place t).status) =
      λ i t. share_same p t i in
      ap (λ (f : ℕ → ℕ). 2 * sum_below f k.size + waits k) maps

-- ONE ENTRY MORE

module _ (script : Script) (es : List Entry) (k n : KernelState) (at to : ℕ → Position) (who : ThreadId) (serial : ℕ)
    (o : Outcome) (p : IsPlaying script es k at) (all : AllStand script es k at) where
  abbrev then_of : Act → List Entry
  then_of a = es ++ entry_for who serial a o ∷ []

  got : (a : Act) → Happens script k n at to who serial o a → (acted k who serial a).0 ≡ n
  got a g = ap (λ (r : KernelState × Outcome). r.0) g.1

  -- Who makes no call, and has the thread that it had, stands where it stood.
  stays : (a : Act) → Happens script k n at to who serial o a → (t : ℕ) → Leaves k n t →
      calls_of (id_of k t) (then_of a) ≡ calls_of (id_of k t) es →
      program_of script (then_of a) (id_of k t) ≡ program_of script es (id_of k t) → to t ≡ at t →
      StandsIn script (then_of a) n (id_of n t) (to t) (program_of script (then_of a) (id_of n t))
  stays a g t l calls program stand =
      let id : id_of k t ≡ id_of n t = ap (λ (v : ℕ). record { number = t; version = v }) (sym l.version) in
      subst (λ (x : ThreadId). StandsIn script (then_of a) n x (to t) (program_of script (then_of a) x)) id
      (rw program (go (program_of script es (id_of k t)) (all t)))
    where
      go : (r : Option ℕ) → StandsIn script es k (id_of k t) (at t) r → StandsIn script (then_of a) n (id_of k t) (to t) r
      go None h = tt
      go (Some r) h =
          let early : ((k.place t).version < (n.place t).version) ⊎
          (((k.place t).version ≡ (n.place t).version) × ((k.place t).serial + 1 ≤ (n.place t).serial + 1)) =
          inr (sym l.version, omega (arith, l.serial)) in
          rw (calls, l.serial, stand) (runs_later script.version (reply_before k (id_of k t)) (reply_before n (id_of k t))
          (start_of script r (id_of k t)) (at t) 1 ((k.place t).serial + 1) (calls_of (id_of k t) es)
          (replies_stay script es k n at who serial a o g.0 g.1 p (id_of k t) ((k.place t).serial + 1) early) h)

  -- the caller's call has brought it here
  caller_stands : (c : Phase) → Happens script k n at to who serial o (act.Call c) →
      IsAt script (then_of (act.Call c)) n who (to who.number) → (t : ℕ) → t ≡ who.number →
      StandsIn script (then_of (act.Call c)) n (id_of n t) (to t) (program_of script (then_of (act.Call c)) (id_of n t))
  caller_stands c g h t e =
      let a = act.Call c in
      let same : (n.place who.number).version ≡ (k.place who.number).version =
      subst (λ (m : KernelState). (m.place who.number).version ≡ (k.place who.number).version) (got a g)
      (caller_stays k who serial a g.0 p.sound) in
      let version : who.version ≡ (n.place who.number).version =
      sym (same ∙ caller_version script es k n at who serial a o g.0 g.1 p) in
      let id : who ≡ id_of n who.number = ap (λ (v : ℕ). record { number = who.number; version = v }) version in
      let mine = stands_from script (then_of a) n (id_of n who.number) (to who.number)
      (subst (λ (x : ThreadId). IsAt script (then_of a) n x (to who.number)) id h) in
      subst (λ (j : ℕ). StandsIn script (then_of a) n (id_of n j) (to j) (program_of script (then_of a) (id_of n j))) (sym e) mine

  abbrev Stands : Act → Type 0
  Stands a = IsPlaying script (then_of a) n to → AllStand script (then_of a) n to

  other_stands : OfOthers script k n at to who serial o Stands
  other_stands a g none renews creates stand leaves q t =
      let entry = entry_for who serial a o in
      stays a g t (leaves t) (calls_same es entry (id_of k t) none)
      (program_stays script es entry (id_of k t) (none_made entry (id_of k t) creates)) (stand t)

  call_stands : OfCalls script k n at to who serial o Stands
  call_stands c g next moves renews unmade stand q t =
      let a = act.Call c in
      let entry = entry_for who serial a o in
      elim (cases_eq t who.number) [
        | inl e ↦ caller_stands c g (mine_moves script es k n at to who serial c o g.0 g.1 p next moves) t e
        | inr ne ↦
            let leaves : Leaves k n t = subst (λ (m : KernelState). Leaves k m t) (got a g)
            (acted_leaves k who serial a t g.0 p.sound ne (λ e. let no : None ≡ Some t = sym renews ∙ e in cc)) in
            let apart : same_id who (id_of k t) ≡ false = apart_from who (id_of k t)
            (λ e. ne (ap (λ (x : ThreadId). x.number) (sym e))) in
            stays a g t leaves (calls_apart es entry (id_of k t) apart)
            (program_stays script es entry (id_of k t) (unmade (id_of k t))) (stand t ne)
      ]

  create_stands : OfCreates script k n at to who serial o Stands
  create_stands program priority number g next moves found begins stand q t =
      let c = phase.Create program priority in
      let a = act.Call c in
      let entry = entry_for who serial a o in
      let new : ThreadId = record { number = number; version = (k.place number).version + 1 } in
      let r : IsRenewed k number n = subst (IsRenewed k number) (got a g) (acted_renews k who serial a number g.0 found) in
      elim (cases_eq t who.number) [
        | inl e ↦ caller_stands c g (mine_moves script es k n at to who serial c o g.0 g.1 p next moves) t e
        | inr ne ↦ elim (cases_eq t number) [
          | inl e ↦
              subst (λ (j : ℕ). StandsIn script (then_of a) n (id_of n j) (to j) (program_of script (then_of a) (id_of n j)))
              (sym e) (stands_from script (then_of a) n (id_of n number) (to number) (q.present number (ap is_dead r.run)))
          | inr nq ↦
              let leaves : Leaves k n t = subst (λ (m : KernelState). Leaves k m t) (got a g)
              (acted_leaves k who serial a t g.0 p.sound ne (λ e.
              nq (let same : Some number ≡ Some t = sym found ∙ e in cc))) in
              let apart : same_id who (id_of k t) ≡ false = apart_from who (id_of k t)
              (λ e. ne (ap (λ (x : ThreadId). x.number) (sym e))) in
              let tells : o ≡ outcome.Made new = sym (ap (λ (x : KernelState × Outcome). x.1) g.1)
              ∙ create_tells k who serial program priority number g.0 found in
              let other : same_id new (id_of k t) ≡ false = apart_from new (id_of k t)
              (λ e. nq (ap (λ (x : ThreadId). x.number) (sym e))) in
              let unmade : makes o (id_of k t) ≡ false = ap (λ (x : Outcome). makes x (id_of k t)) tells ∙ other in
              stays a g t leaves (calls_apart es entry (id_of k t) apart)
              (program_stays script es entry (id_of k t) (other_made entry (id_of k t) unmade)) (stand t ne nq)
        ]
      ]

pub stands_on : (script : Script) (es : List Entry) (k n : KernelState) (at to : ℕ → Position) (e : Entry) →
    IsPlaying script es k at → AllStand script es k at → step k e.event ≡ Ok (n, e.outcome) →
    IsNextAct script k at e.event.who e.event.act → ((t : ℕ) → to t ≡ positions_after script k at e t) →
    IsPlaying script (es ++ e ∷ []) n to → AllStand script (es ++ e ∷ []) n to
stands_on script es k n at to e p all ok next tos q =
    let who = e.event.who in
    let serial = e.event.serial in
    let o = e.outcome in
    moves_by script k n at to who serial o p.sound (Stands script es k n at to who serial o p all)
    (other_stands script es k n at to who serial o p all) (call_stands script es k n at to who serial o p all)
    (create_stands script es k n at to who serial o p all) e.event.act (step_gives k n e.event o ok) next tos q
