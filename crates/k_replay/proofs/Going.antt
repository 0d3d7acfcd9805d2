-- Each entry of a history that follows its script may be made when it comes, and names numbers of the table.
use Rattle.std.proofs.Common.{◌≡◌, ℕ, suc, ◌+◌, ◌<◌, true, List, [], ◌∷◌, ◌++◌, length, take, drop, get_or}
use Rattle.std.proofs.Common.{sym, ap, ◌∙◌, subst, arith, Ok, take-suc, drop-cons}
use Rattle.std.proofs.lemmas.List.{take-append-drop}
use Rattle.k_ids.specs.declared.calls.Phase.{Phase}
use Rattle.k_ids.specs.declared.calls.Phase.TheVariants as phase
use Rattle.k_ids.specs.declared.calls.Act.{Act}
use Rattle.k_ids.specs.declared.calls.Act.TheVariants as act
use Rattle.k_ids.specs.declared.histories.Entry.{Entry}
use Rattle.k_machine.specs.Machine.{ActsInside, IsInTable, NamesInside}
use Rattle.k_model.specs.History.{IsReplay}
use Rattle.k_model.specs.State.{KernelState}
use Rattle.k_model.specs.Step.{step, may_act}
use Rattle.k_model.proofs.Listed.{acts_living}
use Rattle.k_model.proofs.Replays.{replay_push}
use Rattle.k_model.proofs.Sound.{acts_alive, inside_from}
use Rattle.k_positions.specs.Positions.{IsNextAct, reply_to_last}
use Rattle.k_positions.proofs.Histories.{step_gives}
use Rattle.k_room.specs.Histories.{Follows}
use Rattle.k_room.proofs.Counted.{IsCounted}
use Rattle.k_room.proofs.Fronts.{front_of, next_due, replay_one}
use Rattle.k_room.proofs.Ranges.{tells_in}
use Rattle.k_script.specs.Limits.{IsScript}
use Rattle.k_script.specs.Plays.{NamesInRange, Position, opened_for}
use Rattle.k_script.specs.Script.{Script}
use Rattle.k_script.proofs.Within.{next_within}

-- A call in range names numbers of the table.
names_inside : (script : Script) (p : Phase) → NamesInRange script p → NamesInside script.table p
names_inside script (phase.Send to message zero joined) h = h.number
names_inside script (phase.Reply to message zero) h = h.number
names_inside script (phase.Receive from zero) h = tt
names_inside script (phase.Create program priority) h = tt
names_inside script (phase.Destroy victim) h = h.number
names_inside script phase.End h = tt

-- Behind this history, an event that may be made and is the next one of its thread's program names numbers of the table.
module _ (script : Script) (front : List Entry) (k : KernelState) (at : ℕ → Position) (e : Entry)
    (counted : IsCounted script front k at)
    (may : may_act k e.event.who e.event.serial e.event.act ≡ true)
    (next : IsNextAct script k at e.event.who e.event.act) where
  acts_inside : (a : Act) → IsNextAct script k at e.event.who a → ActsInside k.size a
  acts_inside (act.Call p) is =
      let who = e.event.who in
      let alive = acts_living k who e.event.serial e.event.act may in
      let told = tells_in k who (k.place who.number).serial script.table counted.playing.size counted.playing.ranged in
      let within = (counted.bounds who.number alive).within in
      let names = (next_within script script.version (at who.number) (reply_to_last k who) within told).0 in
      subst (λ (n : ℕ). NamesInside n p) (sym counted.playing.size)
      (names_inside script p (subst (NamesInRange script) (sym is) names))
  acts_inside act.Gone is = tt
  acts_inside act.Pick is = tt

  in_table : IsInTable k.size e.event
  in_table = record {
    caller = inside_from k e.event.who.number counted.playing.sound (acts_alive k e.event.who e.event.serial e.event.act may).1;
    partner = acts_inside e.event.act next;
  }

-- What the entry behind a front comes to: it may be made where the front leaves the machine.
pub record MayCome (k : KernelState) (e : Entry) : Type 0 where
  pub next : KernelState
  pub made : step k e.event ≡ Ok (next, e.outcome)
  pub inside : IsInTable k.size e.event

pub may_come : (script : Script) (front behind : List Entry) (e : Entry) (k end : KernelState) → IsScript script →
    Follows script (front ++ e ∷ behind) end → IsReplay (opened_for script) front k → MayCome k e
may_come script front behind e k end s f legal =
    let h = front_of script front (e ∷ behind) end s f in
    let p = h.counted.playing in
    let due = next_due script front behind h.state h.rest.0 end h.positions e p h.rest.1 h.rest.2 f.plays in
    let may = (step_gives h.state h.rest.0 e.event e.outcome h.rest.1).0 in
    let same : h.state ≡ k = replay_one (opened_for script) front h.state k p.replay legal in
    subst (λ (m : KernelState). MayCome m e) same (record {
      next = h.rest.0;
      made = h.rest.1;
      inside = in_table script front h.state h.positions e h.counted may due;
    })

-- ENTRY BY ENTRY, by its index

module _ (script : Script) (entries : List Entry) (i : ℕ) (d : Entry) (k : KernelState) (inside : i < length entries)
    (legal : IsReplay (opened_for script) (take i entries) k) where
  pub entry_may_come : (end : KernelState) → IsScript script → Follows script entries end → MayCome k (get_or entries i d)
  entry_may_come end s f =
      let next : suc i ≡ i + 1 = omega arith in
      let rest : drop i entries ≡ get_or entries i d ∷ drop (i + 1) entries =
      drop-cons entries i d inside ∙ ap (λ (n : ℕ). get_or entries i d ∷ drop n entries) next in
      let parts : entries ≡ take i entries ++ get_or entries i d ∷ drop (i + 1) entries =
      sym (take-append-drop i entries) ∙ ap (λ (es : List Entry). take i entries ++ es) rest in
      may_come script (take i entries) (drop (i + 1) entries) (get_or entries i d) k end s
      (subst (λ (es : List Entry). Follows script es end) parts f) legal

  pub entry_made : (new : KernelState) → step k (get_or entries i d).event ≡ Ok (new, (get_or entries i d).outcome) →
      IsReplay (opened_for script) (take (i + 1) entries) new
  entry_made new ok =
      let next : suc i ≡ i + 1 = omega arith in
      let more : take i entries ++ get_or entries i d ∷ [] ≡ take (i + 1) entries =
      sym (take-suc entries i d inside) ∙ ap (λ (n : ℕ). take n entries) next in
      subst (λ (es : List Entry). IsReplay (opened_for script) es new) more
      (replay_push (opened_for script) k new (take i entries) (get_or entries i d) legal ok)
