-- A program is over once its end was made, and not before; and a history that is being made plays the script.
use Rattle.std.proofs.Common.{◌≡◌, ◌⊎◌, ℕ, true, List, [], ◌∷◌, refl, Option, Some, None, is_some, inl, inr}
use Rattle.k_ids.specs.declared.threads.ThreadId.{ThreadId}
use Rattle.k_ids.specs.declared.calls.Phase.TheVariants as phase
use Rattle.k_ids.specs.declared.calls.Reply.{Reply}
use Rattle.k_ids.specs.declared.histories.Entry.{Entry}
use Rattle.k_model.specs.State.{KernelState}
use Rattle.k_script.specs.declared.operation.Operation.{Operation}
use Rattle.k_script.specs.declared.registers.Registers.{Registers}
use Rattle.k_script.specs.Script.{Script}
use Rattle.k_script.specs.Plays.{Position, Plays, PlaysIn, program_of, phase_next, phase_in, moved, move_in, coming, after_work, filled, first_phase, first_move}
use Rattle.k_positions.proofs.Playing.{IsPlaying, PlayedIn}

first_ends : (version : ℕ) (r : Registers) (ops : List Operation) → (is_some (first_move r ops).left ≡ true) ⊎ (first_phase version r ops ≡ phase.End)
first_ends version r [] = inr refl
first_ends version r (op ∷ ops) = inl refl

pub ends_next : (version : ℕ) (p : Position) (last : Option Reply) → (is_some (moved p last).left ≡ true) ⊎ (phase_next version p last ≡ phase.End)
ends_next version p last = go p.left
  where
    go : (left : Option (List Operation)) → (is_some (move_in p last left).left ≡ true) ⊎ (phase_in version p last left ≡ phase.End)
    go None = inr refl
    go (Some ops) = first_ends version (filled p.registers last) (after_work (coming p.replying last ops))

plays_in : (script : Script) (es : List Entry) (k : KernelState) (id : ThreadId) (program : Option ℕ) → PlayedIn script es k id program → PlaysIn script es k id program
plays_in script es k id None h = h
plays_in script es k id (Some program) h = record { position = h.position; next = h.next; runs = h.runs }

pub plays_from : (script : Script) (es : List Entry) (k : KernelState) (at : ℕ → Position) → IsPlaying script es k at → Plays script es k
plays_from script es k at p id = plays_in script es k id (program_of script es id) (p.played id)
