-- A program sends messages of two words of 32 bits, where it got such.
use Rattle.std.proofs.Common.{ℕ, ◌≤◌, ◌==◌, ◌&&◌, Bool, List, [], ◌∷◌, length, Option, Some, None, inl, inr}
use Rattle.std.specs.List.{AllByRecursion}
use Rattle.std.proofs.lemmas.Bool.{cases_Bool, cond_both}
use Rattle.k_ids.specs.declared.calls.Reply.{Reply}
use Rattle.k_ids.specs.declared.calls.Reply.TheVariants as reply
use Rattle.k_ids.specs.declared.threads.Message.{Message}
use Rattle.k_ids.specs.declared.threads.ThreadId.{ThreadId}
use Rattle.k_plays.specs.Messages.{HasWords, IsFilled, SendsWords, ToldWords}
use Rattle.k_script.specs.Limits.{IsOperation, IsValue}
use Rattle.k_script.specs.Plays.{AllLeft, IsWithin, Position, after_work, coming, filled, first_move, first_phase, is_sent}
use Rattle.k_script.specs.Plays.{message_of, move_in, moved, phase_in, phase_next, reply_phase, value_of, went_in, went_on}
use Rattle.k_script.specs.Script.{Script}
use Rattle.k_script.specs.declared.operation.Operation.{Operation}
use Rattle.k_script.specs.declared.operation.Operation.TheVariants as operation
use Rattle.k_script.specs.declared.operation.Value.{Value}
use Rattle.k_script.specs.declared.operation.Value.TheVariants as value
use Rattle.k_script.specs.declared.registers.Registers.{Registers}

-- THE MESSAGE that was got last

filled_words : (r : Registers) (last : Option Reply) → HasWords r.got → ToldWords last → HasWords (filled r last).got
filled_words r None h t = h
filled_words r (Some reply.Sent) h t = h
filled_words r (Some (reply.Got from message)) h t = t
filled_words r (Some (reply.Made id)) h t = h
filled_words r (Some reply.Killed) h t = h
filled_words r (Some (reply.Absent found)) h t = h
filled_words r (Some (reply.Busy found)) h t = h
filled_words r (Some reply.Nobody) h t = h
filled_words r (Some reply.Own) h t = h
filled_words r (Some (reply.Full alive worn)) h t = h
filled_words r (Some reply.Gone) h t = h

first_filled : (r : Registers) (ops : List Operation) → HasWords r.got → IsFilled (first_move r ops)
first_filled r [] h = h
first_filled r (op ∷ ops) h = h

pub moved_filled : (p : Position) (last : Option Reply) → IsFilled p → ToldWords last → IsFilled (moved p last)
moved_filled p last h t = go p.left
  where
    go : (left : Option (List Operation)) → IsFilled (move_in p last left)
    go None = h
    go (Some ops) =
        first_filled (filled p.registers last) (after_work (coming p.replying last ops)) (filled_words p.registers last h t)

pub went_filled : (p : Position) (last : Option Reply) → IsFilled p → ToldWords last → IsFilled (went_on p last)
went_filled p last h t = go p.left
  where
    go : (left : Option (List Operation)) → IsFilled (went_in p last left)
    go None = h
    go (Some ops) = first_filled (filled p.registers last) (coming p.replying last ops) (filled_words p.registers last h t)

-- EACH CALL

value_words : (r : Registers) (v : Value) → HasWords r.got → IsValue v → value_of r v ≤ 4294967295
value_words r (value.Number n) h i = i
value_words r value.Got0 h i = h.low
value_words r value.Got1 h i = h.high

message_words : (r : Registers) (low high : Value) → HasWords r.got → IsValue low → IsValue high →
    HasWords (message_of r low high)
message_words r low high h i j = record { low = value_words r low h i; high = value_words r high h j }

reply_words : (version : ℕ) (to : ThreadId) (message : Message) (zero : Bool) → HasWords message →
    SendsWords (reply_phase version to message zero)
reply_words version to message zero h = cond_both (version == 2) _ _ SendsWords (λ _. h) (λ _. h)

module _ (script : Script) (version : ℕ) (r : Registers) (h : HasWords r.got) where
  -- the first operation that is no work
  first_words : (ops : List Operation) → AllByRecursion (IsOperation script.table (length script.programs)) ops →
      SendsWords (first_phase version r (after_work ops))
  first_words [] all = tt
  first_words (operation.Work count ∷ ops) all = first_words ops all.1
  first_words (operation.Send to low high zero ∷ ops) all = message_words r low high h all.0.1 all.0.2
  first_words (operation.Receive from zero ∷ ops) all = tt
  first_words (operation.Call to low high zero ∷ ops) all = message_words r low high h all.0.1 all.0.2
  first_words (operation.Reply low high zero ∷ ops) all =
      reply_words version r.last (message_of r low high) zero (message_words r low high h all.0.0 all.0.1)
  first_words (operation.Create program priority ∷ ops) all = tt
  first_words (operation.Destroy victim ∷ ops) all = tt
  first_words (operation.Repeat count ∷ ops) all = tt
  first_words (operation.Again ∷ ops) all = tt

  coming_words : (replying : Bool) (last : Option Reply) (ops : List Operation) →
      AllByRecursion (IsOperation script.table (length script.programs)) ops →
      SendsWords (first_phase version r (after_work (coming replying last ops)))
  coming_words replying last ops all = elim (cases_Bool (replying && is_sent last)) [
    | inl t ↦ rw t tt
    | inr f ↦ rw f (first_words ops all)
  ]

pub next_words : (script : Script) (p : Position) (last : Option Reply) → IsWithin script p → IsFilled p → ToldWords last →
    SendsWords (phase_next script.version p last)
next_words script p last w h t = go p.left w.left
  where
    go : (left : Option (List Operation)) → AllLeft script left → SendsWords (phase_in script.version p last left)
    go None all = tt
    go (Some ops) all =
        coming_words script script.version (filled p.registers last) (filled_words p.registers last h t) p.replying last ops all
