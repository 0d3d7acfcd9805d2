use Rattle.std.proofs.Common.{◌++◌, ◌∙◌, List, map, ap}
use Rattle.k_script.specs.declared.lines.AtLine.{AtLine}
use Rattle.k_script.specs.declared.lines.Item.{Item}
use Rattle.k_reader.specs.Grammar.{at_line, turns_line}
use Rattle.k_writer.specs.Canonical.{feeds, one_line}
use Rattle.k_writer.proofs.Parts.{text, text_whole}
use Rattle.k_writer.proofs.Layouts.{canonical_text, shortest}
use Rattle.k_writer.proofs.writer.text_of.Goals as goal

pub returns-clause-exact : goal.returns-clause-exact
returns-clause-exact c =
    text_whole c.args.script.now c.new-text.result.items c.put_head.new.text.items c.put_ages.new.text.items c.put_programs.new.text.items c.put_threads.new.text.items c.put_events.new.text.items c.put_turns.new.text.items
    c.new-text.ensures.items c.in_ok-put_head.ensures c.in_ok-put_ages.ensures c.in_ok-put_programs.ensures c.in_ok-put_threads.ensures
    (c.in_ok-put_events.ensures ∙ ap (λ (xs : List AtLine). c.put_threads.new.text.items ++ text (map at_line xs)) c.at_lines.ensures)
    (c.in_ok-put_turns.ensures ∙ ap (λ (xs : List Item). c.put_events.new.text.items ++ feeds (map turns_line (one_line xs))) c.turns.ensures)

pub returns-clause-text : goal.returns-clause-text
returns-clause-text c = rw (returns-clause-exact c) (canonical_text c.args.script.now c.holds.ensures)

pub returns-clause-shortest : goal.returns-clause-shortest
returns-clause-shortest c = λ bytes h. rw (returns-clause-exact c) (shortest c.args.script.now bytes h)
