use Rattle.std.proofs.Common.{◌≡◌, ◌++◌, take}
use Rattle.k_text.specs.Texts.{spaced}
use Rattle.k_writer.proofs.Parts.{item_words}
use Rattle.k_writer.proofs.writer.put_turns.Given as goal

abbrev pub invariant-loop-item : goal.invariant-loop-item
invariant-loop-item l = l.text.items ≡ l.initial.text.items ++ spaced (item_words (take l.item-index l.turns))
