-- All of it holds of each board that a run comes to.
use Rattle.std.proofs.Common.{List}
use Rattle.k_ids.specs.declared.histories.Entry.{Entry}
use Rattle.k_model.specs.State.{KernelState}
use Rattle.k_script.specs.Limits.{IsScript}
use Rattle.k_script.specs.Script.{Script}
use Rattle.k_script.specs.Plays.{opened_for}
use Rattle.k_board.specs.Boards.{Board}
use Rattle.k_legal.specs.Runs.{Run, stays, turns}
use Rattle.k_plays.specs.Scripts.{ranged_programs}
use Rattle.k_invariant.specs.Invariant.{BoardHolds, IsOpeningBoard}
use Rattle.k_invariant.proofs.Keeps.{goes_on}
use Rattle.k_invariant.proofs.Starts.{board_starts}

module _ (script : Script) (limits : IsScript script) where
  pub run_holds : (b : Board) → IsOpeningBoard script b → (es : List Entry) (b' : Board) → Run (ranged_programs script) b es b' →
      (k : KernelState) × BoardHolds script b' es k
  run_holds b start _ _ stays = (opened_for script, board_starts script limits b start)
  run_holds b start _ _ (turns es m i b' run t) =
      let before = run_holds b start es m run in
      let g = goes_on script limits m es before.0 before.1 i b' t in
      (g.new, g.holds)
