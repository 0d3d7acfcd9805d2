use Rattle.std.proofs.Common.{◌≡◌, ℕ, List, [], length, sym, ap, subst, ◌∙◌, arith}
use Rattle.std.proofs.lemmas.Bool.{eqb-true}
use Rattle.k_machine.specs.Machine.{state_of}
use Rattle.k_model.specs.State.{KernelState}
use Rattle.k_script.specs.Plays.{opened_for}
use Rattle.k_script.specs.Place.{Place}
use Rattle.k_positions.specs.Positions.{ArePlaces, positions_in}
use Rattle.k_positions.proofs.Playing.{IsPlaying}
use Rattle.k_positions.proofs.Opens.{opens_playing}
use Rattle.k_history.specs.Judging.{IsJudged, LineGoesOn}
use Rattle.k_history.proofs.Judged.{Checked, checked_first, checked_more, empty_from, ends, says}
use Rattle.k_history.proofs.judging.check.Goals as goal

pub loop-positions-init : goal.loop-positions-init
loop-positions-init c =
    let script = c.args.script.now in
    let places = c.as_mut_slice-positions.result.now in
    let k = state_of c.in_ok-machine.machine.lists in
    let opened : k ≡ opened_for script = c.in_ok-machine.ensures in
    let same = c.as_mut_slice-positions.ensures.value in
    let begun = c.in_ok-started.ensures in
    let p = opens_playing script (positions_in script places) c.holds.ensures (λ t l. ap (λ (ps : List Place). positions_in script ps t) same ∙ begun.starts t (omega (arith, l, c.holds.ensures.lines.1))) in (
      checked_first script c.args.bytes.now k (positions_in script places) (subst (λ (m : KernelState). IsPlaying script [] m (positions_in script places)) (sym opened) p),
      ap (λ (m : KernelState). m.size) opened ∙ c.holds.ensures.numbered,
      subst (ArePlaces script) (sym same) begun.places,
      omega arith,
    )

pub loop-positions-preserved : goal.loop-positions-preserved
loop-positions-preserved c =
    let script = c.args.script.now in
    let i = c.loop-positions.invariant in
    let g = c.in_default.ensures in
    let kept : state_of c.reserve.new.self.lists ≡ state_of c.loop-positions.machine.lists = ap state_of c.reserve.ensures.lists in
    let goes : LineGoesOn script (state_of c.loop-positions.machine.lists) (positions_in script c.loop-positions.positions) c.first_line.result.0.now (state_of c.judge_line.new.machine.lists) (positions_in script c.judge_line.new.positions) =
    subst (λ (k : KernelState). LineGoesOn script k (positions_in script c.loop-positions.positions) c.first_line.result.0.now (state_of c.judge_line.new.machine.lists) (positions_in script c.judge_line.new.positions)) kept g.goes in (
      checked_more script c.args.bytes.now c.loop-positions.rest.now c.first_line.result.0.now c.first_line.result.1.now c.loop-positions.index (state_of c.loop-positions.machine.lists) (state_of c.judge_line.new.machine.lists) (positions_in script c.loop-positions.positions) (positions_in script c.judge_line.new.positions) i.0 c.first_line.ensures.split goes,
      g.size,
      g.places,
      omega (arith, i.3, c.first_line.ensures.shorter),
    )

pub returns-in-Some : goal.returns-in-Some
returns-in-Some c =
    let script = c.args.script.now in
    let i = c.loop-positions.invariant in
    let g = c.in-Some.ensures in
    let kept : state_of c.reserve.new.self.lists ≡ state_of c.loop-positions.machine.lists = ap state_of c.reserve.ensures.lists in
    let judged : IsJudged script (state_of c.loop-positions.machine.lists) (positions_in script c.loop-positions.positions) c.loop-positions.index c.first_line.result.0.now c.in-Some.verdict =
    subst (λ (k : KernelState). IsJudged script k (positions_in script c.loop-positions.positions) c.loop-positions.index c.first_line.result.0.now c.in-Some.verdict) kept g.stops in
    says script c.args.bytes.now c.loop-positions.rest.now c.first_line.result.0.now c.first_line.result.1.now c.loop-positions.index (state_of c.loop-positions.machine.lists) (positions_in script c.loop-positions.positions) i.0 c.first_line.ensures.split c.in-Some.verdict judged

pub returns : goal.returns
returns c =
    let script = c.args.script.now in
    let i = c.loop-positions.invariant in
    let none : c.loop-positions.rest.now ≡ [] = empty_from c.loop-positions.rest.now (eqb-true (length c.loop-positions.rest.now) 0 (sym c.loop-positions-test.ensures)) in
    let k = state_of c.loop-positions.machine.lists in
    let at = positions_in script c.loop-positions.positions in
    let whole : Checked script c.args.bytes.now [] c.loop-positions.index k at = subst (λ (rest : List ℕ). Checked script c.args.bytes.now rest c.loop-positions.index k at) none i.0 in
    ends script c.args.bytes.now c.loop-positions.index k at c.last_verdict.result whole c.last_verdict.ensures
