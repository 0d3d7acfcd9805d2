-- A history that follows its script, as a whole.
use Rattle.std.proofs.Common.{◌≡◌, ℕ, ◌+◌, ◌-◌, ◌*◌, ◌<◌, ◌≤◌, true, false, List, [], ◌∷◌, ◌++◌, length}
use Rattle.std.proofs.Common.{refl, sym, ap, ◌∙◌, subst, arith, Some, None, is_some, inl, inr}
use Rattle.std.specs.Prelude.{nat_lt, ◌==◌}
use Rattle.std.proofs.lemmas.List.{append-nil}
use Rattle.std.proofs.lemmas.Bool.{cases_Bool, and_parts, false≢true}
use Rattle.std.proofs.lemmas.Bool.Decides.{nat_tests}
use Rattle.k_ids.specs.declared.threads.ThreadId.{ThreadId}
use Rattle.k_ids.specs.declared.histories.Entry.{Entry}
use Rattle.k_model.specs.State.{KernelState, Place, id_of, is_dead}
use Rattle.k_model.specs.Answered.{IsAnswered, reply_to}
use Rattle.k_model.specs.Ranges.{IsRanged}
use Rattle.k_model.specs.Sound.{IsSound}
use Rattle.k_model.specs.History.{IsFinished, IsReplay, opening_place}
use Rattle.k_script.specs.Script.{Script}
use Rattle.k_script.specs.Limits.{IsScript}
use Rattle.k_script.specs.Weight.{phases_of}
use Rattle.k_script.specs.Plays.{Position, first_id, is_first, opened_for, phases_left, program_of}
use Rattle.k_script.specs.Plays.{reply_before, start_of, IsHistory, IsWithin, TellsInRange}
use Rattle.k_positions.specs.Positions.{positions_after, program_at}
use Rattle.k_positions.proofs.Ends.{plays_from}
use Rattle.k_positions.proofs.Going.{goes_on}
use Rattle.k_positions.proofs.Opens.{opens_new, opens_playing}
use Rattle.k_positions.proofs.Playing.{IsPlaying}
use Rattle.k_room.specs.Histories.{AllStand, ComesNext, Follows, LeadsTo, StandsIn}
use Rattle.k_room.specs.Room.{to_come}
use Rattle.k_room.proofs.Counted.{IsCounted}
use Rattle.k_room.proofs.Fronts.{IsFront, front_of, replay_one}
use Rattle.k_room.proofs.Gains.{counts_on}
use Rattle.k_room.proofs.Inside.{runs_few, stands_within}
use Rattle.k_room.proofs.Ranges.{tells_in}
use Rattle.k_room.proofs.Stands.{counted_at, stands_from, stands_on, to_come_same}

pub follows_from : (script : Script) (es : List Entry) (k : KernelState) (at : ℕ → Position) → IsPlaying script es k at →
    Follows script es k
follows_from script es k at p = record { legal = p.replay; plays = plays_from script es k at p }

pub history_from : (script : Script) (es : List Entry) (k : KernelState) → Follows script es k → IsFinished k →
    IsHistory script es k
history_from script es k f ends = record { legal = f.legal; plays = f.plays; finished = ends }

-- A FRONT follows the script too.
pub front_follows : (script : Script) (front behind : List Entry) (end : KernelState) → IsScript script →
    Follows script (front ++ behind) end → (k : KernelState) × Follows script front k × IsReplay k behind end
front_follows script front behind end s f =
    let h = front_of script front behind end s f in
    (h.state, follows_from script front h.state h.positions h.counted.playing, h.rest)

-- IT LEAVES ONE STATE.
pub one_state : (script : Script) (es : List Entry) (k other : KernelState) → Follows script es k → Follows script es other →
    k ≡ other
one_state script es k other f g = replay_one (opened_for script) es k other f.legal g.legal

-- AT FIRST

first_follows : (script : Script) → IsScript script → Follows script [] (opened_for script)
first_follows script s =
    let at : ℕ → Position = λ t. start_of script (program_at script t) (first_id t) in
    follows_from script [] (opened_for script) at (opens_playing script at s (λ t _. refl))

first_stands : (script : Script) (at : ℕ → Position) → IsScript script →
    ((t : ℕ) → t < length script.threads → at t ≡ start_of script (program_at script t) (first_id t)) →
    AllStand script [] (opened_for script) at
first_stands script at s starts t =
    let k = opened_for script in
    let id = id_of k t in
    elim (cases_Bool (is_dead (k.place t).status)) [
      | inr alive ↦ stands_from script [] k id (at t) ((opens_playing script at s starts).present t alive)
      | inl dead ↦ elim (cases_Bool (is_first script id)) [
        | inl f ↦ absurd (first_alive f dead)
        | inr f ↦
            let none : program_of script [] id ≡ None = rw f refl in
            subst (StandsIn script [] k id (at t)) (sym none) tt
      ]
    ]
  where
    first_alive : is_first script (id_of (opened_for script) t) ≡ true → is_dead ((opened_for script).place t).status ≡ true → ⊥
    first_alive f dead =
        let test : nat_lt t (length script.threads) ≡ true =
        (and_parts ((opening_place script.aged (length script.threads) t).version == 1)
        (nat_lt t (length script.threads)) f).1 in
        let below : t < length script.threads = grind (arith, nat_tests, test) in
        let alive : is_dead ((opened_for script).place t).status ≡ false =
        ap (λ (p : Place). is_dead p.status) (opens_new script at s starts t below) in
        false≢true (sym alive ∙ dead)

pub first_leads : (script : Script) (at : ℕ → Position) → IsScript script →
    ((t : ℕ) → t < length script.threads → at t ≡ start_of script (program_at script t) (first_id t)) →
    LeadsTo script [] (opened_for script) at
first_leads script at s starts = record { follows = first_follows script s; stand = first_stands script at s starts }

-- THE WHOLE HISTORY is a front of itself.

record IsWhole (script : Script) (es : List Entry) (k : KernelState) : Type 0 where
  pub positions : ℕ → Position
  pub counted : IsCounted script es k positions
  pub few : length es + to_come script k positions ≤ 2 * phases_of script

whole_of : (script : Script) (es : List Entry) (k : KernelState) → IsScript script → Follows script es k → IsWhole script es k
whole_of script es k s f =
    let h = front_of script es [] k s (subst (λ (xs : List Entry). Follows script xs k) (sym (append-nil es)) f) in
    let same : h.state ≡ k = sym h.rest in
    subst (IsWhole script es) same (record { positions = h.positions; counted = h.counted; few = h.few })

pub whole_few : (script : Script) (es : List Entry) (k : KernelState) → IsScript script → Follows script es k →
    length es ≤ 2 * phases_of script
whole_few script es k s f = omega (arith, (whole_of script es k s f).few)

-- THE STATE is one of a legal history.
module _ (script : Script) (es : List Entry) (k : KernelState) (s : IsScript script) (f : Follows script es k) where
  pub state_size : k.size ≡ script.table
  state_size = (whole_of script es k s f).counted.playing.size

  pub state_sound : IsSound k
  state_sound = (whole_of script es k s f).counted.playing.sound

  pub state_answered : IsAnswered k
  state_answered = (whole_of script es k s f).counted.playing.answered

  pub state_ranged : IsRanged k
  state_ranged = (whole_of script es k s f).counted.playing.ranged

pub told_within : (script : Script) (es : List Entry) (k : KernelState) → IsScript script → Follows script es k →
    (id : ThreadId) (serial : ℕ) → TellsInRange script.table (reply_to k.replies id serial)
told_within script es k s f id serial =
    let p = (whole_of script es k s f).counted.playing in
    tells_in k id serial script.table p.size p.ranged

pub present_has : (script : Script) (es : List Entry) (k : KernelState) (t : ℕ) → IsScript script → Follows script es k →
    is_dead (k.place t).status ≡ false → is_some (program_of script es (id_of k t)) ≡ true
present_has script es k t s f alive = ap is_some ((whole_of script es k s f).counted.playing.present t alive).is

-- WITH ITS POSITIONS

module _ (script : Script) (es : List Entry) (k : KernelState) (at : ℕ → Position) (s : IsScript script)
    (l : LeadsTo script es k at) where
  pub counted_here : IsCounted script es k at
  counted_here = let h = whole_of script es k s l.follows in counted_at script es k at h.positions l.stand h.counted

  pub left_few : length es + to_come script k at ≤ 2 * phases_of script
  left_few =
      let h = whole_of script es k s l.follows in
      omega (arith, h.few, to_come_same script es k at h.positions l.stand h.counted.playing)

  pub serials_few : (t : ℕ) → is_dead (k.place t).status ≡ false →
      (k.place t).serial + phases_left script (at t) ≤ phases_of script
  serials_few t alive = (counted_here.bounds t alive).bounded

  pub calls_are_few : (t program : ℕ) → program_of script es (id_of k t) ≡ Some program → (k.place t).serial ≤ length es
  calls_are_few t program is =
      let id = id_of k t in
      runs_few script.version (reply_before k id) (start_of script program id) (at t) (k.place t).serial id es
      (subst (StandsIn script es k id (at t)) is (l.stand t))

  pub place_within : (t program : ℕ) → program_of script es (id_of k t) ≡ Some program → IsWithin script (at t)
  place_within t program is =
      stands_within script es k (id_of k t) program (at t) ((k.place t).serial + 1) s l.follows.legal
      (λ i. told_within script es k s l.follows (id_of k t) (i - 1)) is
      (subst (StandsIn script es k (id_of k t) (at t)) is (l.stand t))

  module _ (n : KernelState) (e : Entry) (x : ComesNext script k at e n) where
    pub leads_on : LeadsTo script (es ++ e ∷ []) n (positions_after script k at e)
    leads_on =
        let to = positions_after script k at e in
        let p = counted_here.playing in
        let q = goes_on script es k n at to e p x.made x.due (λ t. refl) in
        record {
          follows = follows_from script (es ++ e ∷ []) n to q;
          stand = stands_on script es k n at to e p l.stand x.made x.due (λ t. refl) q;
        }

    pub come_falls : to_come script n (positions_after script k at e) + 1 ≤ to_come script k at
    come_falls = (counts_on script s es k n at (positions_after script k at e) e counted_here x.made x.due (λ t. refl)).falls

    pub next_few : length es < 2 * phases_of script
    next_few = omega (arith, left_few, come_falls)
