use Rattle.std.proofs.Common.{◌<◌, arith, map, length, ap, ◌∙◌}
use Rattle.k_history.specs.Reading.{parts_of, entry_of}
use Rattle.k_history.proofs.Spelling.{line_found, line_short, line_spells}
use Rattle.k_history.proofs.lines.read_line.Goals as goal

pub returns-in_err-words-clause-spelled : goal.returns-in_err-words-clause-spelled
returns-in_err-words-clause-spelled c = rw c.from_residual.ensures tt

pub returns-in_err-words-clause-found : goal.returns-in_err-words-clause-found
returns-in_err-words-clause-found c = λ e s.
    let long : 13 < length (parts_of c.args.line.now) = c.in_err-words.ensures in
    absurd (omega (arith, long, line_short c.args.line.now e s))

pub returns-clause-spelled : goal.returns-clause-spelled
returns-clause-spelled c =
    let words = c.in_ok-words.ensures in
    line_spells c.args.line.now c.entry_of.result (c.entry_of.ensures ∙ ap entry_of (ap (map (λ w. w.now)) c.as_slice.ensures ∙ words.0))

pub returns-clause-found : goal.returns-clause-found
returns-clause-found c = λ e s.
    let words = c.in_ok-words.ensures in
    c.entry_of.ensures ∙ ap entry_of (ap (map (λ w. w.now)) c.as_slice.ensures ∙ words.0) ∙ line_found c.args.line.now e s
