use Rattle.std.proofs.Common.{◌≡◌, ◌++◌, true, false, List, get_or, refl, sym, subst, ap, ◌∙◌}
use Rattle.k_carrier.specs.declared.carrier.Carrier.{Carrier}
use Rattle.k_carrier.specs.Running.{runner_of}
use Rattle.k_carrier.specs.Seen.{carrier_in}
use Rattle.k_world.specs.Marks.{broken, dropped, marks_by}
use Rattle.k_world.specs.Steps.{CarrierStep, counted_serials, course_in, entry_of, is_helping, moved}
use Rattle.k_world.specs.Steps.{recorded, told_of, unbroken_waits, waits_by}
use Rattle.k_world.specs.Worlds.{World}
use Rattle.k_logs.specs.Seen.{carriers_in}
use Rattle.k_core.specs.Conditions.{CanStep}
use Rattle.k_core.specs.Courses.{IsHolderOf}
use Rattle.k_core.specs.Parts.{Parts, entry_at, step_by, world_in}
use Rattle.k_core.proofs.Moved.{IsLeft, IsMade, MayFind, entry_fits, entry_is, finds, holder_so, moved_is}
use Rattle.k_core.proofs.Moved.{step_is, told_is, waits_so}
use Rattle.k_core.proofs.world.World.make_step.Goals as goal
use Rattle.k_core.proofs.world.World.make_step.Goals.{then-turn, else-turn}

pub record-requires : goal.record-requires
record-requires c =
    let script = c.args.script.now in
    let p : Parts = record {
      store = c.self.inside.store;
      carriers = c.self.inside.carriers.items;
      unstarted = c.self.inside.unstarted.items;
      recorded = c.self.inside.history;
      logs = c.self.inside.logs;
      made = c.self.inside.made;
    } in
    let x : Carrier = c.index_mut-carrier.result.now in
    let y : Carrier = c.make_turn-turn.new.carrier in
    let can : CanStep script p c.args.c = subst (λ (q : Parts). CanStep script q c.args.c)
    (sym c.self.view_is) c.requires in
    let read : x ≡ get_or p.carriers c.args.c x = rw (← c.from.ensures) c.index_mut-carrier.ensures.value in
    let s : CarrierStep = step_by script (world_in script p) c.args.c (carrier_in script x) in
    entry_fits script p c.args.c x (entry_at p.recorded.serials c.make_turn-turn.result.point) can.inside read
    (entry_is script p c.args.c x c.make_turn-turn.result.point c.make_turn-turn.ensures.point)
    can.entry

pub holder_in-holder-requires : goal.holder_in-holder-requires
holder_in-holder-requires c =
    let script = c.args.script.now in
    let p : Parts = record {
      store = c.self.inside.store;
      carriers = c.self.inside.carriers.items;
      unstarted = c.self.inside.unstarted.items;
      recorded = c.self.inside.history;
      logs = c.self.inside.logs;
      made = c.self.inside.made;
    } in
    let x : Carrier = c.index_mut-carrier.result.now in
    let y : Carrier = c.make_turn-turn.new.carrier in
    let can : CanStep script p c.args.c = subst (λ (q : Parts). CanStep script q c.args.c)
    (sym c.self.view_is) c.requires in
    let read : x ≡ get_or p.carriers c.args.c x = rw (← c.from.ensures) c.index_mut-carrier.ensures.value in
    let s : CarrierStep = step_by script (world_in script p) c.args.c (carrier_in script x) in
    let made : IsMade script p s y c.make_turn-turn.new.store = record {
      carrier = c.make_turn-turn.ensures.carrier;
      words = c.make_turn-turn.ensures.words;
      slots = c.make_turn-turn.ensures.slots;
    } in
    let may : MayFind script (world_in script p) c.args.c s =
    λ v wants i e. can.found v wants i (ap course_in (step_is script p c.args.c x can.inside read) ∙ e) in (
      script,
      world_in script p,
      finds script p c.args.c c.from.result s y c.make_turn-turn.new.store
          c.deref-2.result.now c.make_turn-turn.result.course may made refl c.deref-2.ensures.value
          c.from.ensures c.make_turn-turn.ensures.course,
    )

pub returns-clause-told : goal.returns-clause-told
returns-clause-told c =
    let script = c.args.script.now in
    let p : Parts = record {
      store = c.self.inside.store;
      carriers = c.self.inside.carriers.items;
      unstarted = c.self.inside.unstarted.items;
      recorded = c.self.inside.history;
      logs = c.self.inside.logs;
      made = c.self.inside.made;
    } in
    let x : Carrier = c.index_mut-carrier.result.now in
    let y : Carrier = c.make_turn-turn.new.carrier in
    let can : CanStep script p c.args.c = subst (λ (q : Parts). CanStep script q c.args.c)
    (sym c.self.view_is) c.requires in
    let read : x ≡ get_or p.carriers c.args.c x = rw (← c.from.ensures) c.index_mut-carrier.ensures.value in
    let s : CarrierStep = step_by script (world_in script p) c.args.c (carrier_in script x) in
    told_is script p c.args.c x c.make_turn-turn.result.stepped can.inside read
    c.make_turn-turn.ensures.told
    ∙ ap (λ (q : Parts). told_of script c.args.c (world_in script q)) c.self.view_is

pub returns-clause-world : goal.returns-clause-world
returns-clause-world c =
    let script = c.args.script.now in
    let p : Parts = record {
      store = c.self.inside.store;
      carriers = c.self.inside.carriers.items;
      unstarted = c.self.inside.unstarted.items;
      recorded = c.self.inside.history;
      logs = c.self.inside.logs;
      made = c.self.inside.made;
    } in
    let x : Carrier = c.index_mut-carrier.result.now in
    let y : Carrier = c.make_turn-turn.new.carrier in
    let can : CanStep script p c.args.c = subst (λ (q : Parts). CanStep script q c.args.c)
    (sym c.self.view_is) c.requires in
    let read : x ≡ get_or p.carriers c.args.c x = rw (← c.from.ensures) c.index_mut-carrier.ensures.value in
    let s : CarrierStep = step_by script (world_in script p) c.args.c (carrier_in script x) in
    let made : IsMade script p s y c.make_turn-turn.new.store = record {
      carrier = c.make_turn-turn.ensures.carrier;
      words = c.make_turn-turn.ensures.words;
      slots = c.make_turn-turn.ensures.slots;
    } in
    let may : MayFind script (world_in script p) c.args.c s =
    λ v wants i e. can.found v wants i (ap course_in (step_is script p c.args.c x can.inside read) ∙ e) in
    let w0 : World = world_in script p in
    let entry : entry_at p.recorded.serials c.make_turn-turn.result.point ≡ entry_of w0 s =
    entry_is script p c.args.c x c.make_turn-turn.result.point
    c.make_turn-turn.ensures.point in
    let holder : IsHolderOf w0 c.make_turn-turn.result.course c.holder_in-holder.result =
    holder_so script p c.args.c c.from.result s y c.make_turn-turn.new.store c.deref-2.result.now
    c.make_turn-turn.result.course c.holder_in-holder.result may made refl c.deref-2.ensures.value
    c.from.ensures c.make_turn-turn.ensures.course (c.holder_in-holder.ensures script w0) in
    let steps : c.mark.new.logs.steps ≡ p.logs.steps ++ marks_by (runner_of s.asked) (course_in s) =
    c.mark.ensures.steps s.asked (course_in s) c.make_turn-turn.ensures.course
    ∙ ap (λ xs. xs ++ marks_by (runner_of s.asked) (course_in s)) c.break_interrupted.ensures.steps in
    let before : c.break_interrupted.new.self.waits ≡ unbroken_waits w0 =
    c.break_interrupted.ensures.waits script
    ∙ ap (λ (cs : List Carrier). record p.logs.waits {
      standing = broken (carriers_in script cs)
          p.logs.waits.standing;
    }) c.deref.ensures.value in
    let waits : c.mark.new.logs.waits ≡ waits_by w0 c.args.c (is_helping s.asked s.asked.hand) (course_in s)
    c.break_interrupted.new.self.waits =
    c.mark.ensures.waits w0 s.asked (course_in s) c.make_turn-turn.ensures.course holder in
    elim c.if-turn.branch [
      | then-turn w ↦
          let left : IsLeft script p s y c.make_turn-turn.new.store c.record.new.self w.drop_goal.new.self =
          record {
            carrier = made.carrier;
            words = made.words;
            slots = made.slots;
            serials = c.record.ensures.serials ∙ ap (λ e. counted_serials e p.recorded.serials) entry;
            entries = c.record.ensures.entries ∙ ap (λ e. recorded e p.recorded.entries) entry;
            steps = w.drop_goal.ensures.steps ∙ steps;
            waits = waits_so w0 s true c.break_interrupted.new.self.waits w.drop_goal.new.self.waits
                (sym w.if-turn.true ∙ c.make_turn-turn.ensures.goal) (w.drop_goal.ensures.waits
                ∙ ap (dropped c.args.c true) waits) before;
          } in
          rw w.self-inside-is (moved_is script p c.args.c c.from.result x y c.make_turn-turn.new.store
          c.record.new.self w.drop_goal.new.self _ can.inside read c.from.ensures
          (c.saturating_add-self-inside.ensures ∙ rw w.self-inside-is refl) left
          ∙ ap (λ (q : Parts). moved script c.args.c (world_in script q)) c.self.view_is)
      | else-turn w ↦
          let left : IsLeft script p s y c.make_turn-turn.new.store c.record.new.self c.mark.new.logs =
          record {
            carrier = made.carrier;
            words = made.words;
            slots = made.slots;
            serials = c.record.ensures.serials ∙ ap (λ e. counted_serials e p.recorded.serials) entry;
            entries = c.record.ensures.entries ∙ ap (λ e. recorded e p.recorded.entries) entry;
            steps = steps;
            waits = waits_so w0 s false c.break_interrupted.new.self.waits c.mark.new.logs.waits
                (sym w.if-turn.false ∙ c.make_turn-turn.ensures.goal) waits before;
          } in
          rw w.self-inside-is (moved_is script p c.args.c c.from.result x y c.make_turn-turn.new.store
          c.record.new.self c.mark.new.logs _ can.inside read c.from.ensures
          (c.saturating_add-self-inside.ensures ∙ rw w.self-inside-is refl) left
          ∙ ap (λ (q : Parts). moved script c.args.c (world_in script q)) c.self.view_is)
    ]
