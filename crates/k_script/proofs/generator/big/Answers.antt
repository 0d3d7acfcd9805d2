use Rattle.std.proofs.Common.{List, ◌++◌, map, ap, sym, ◌∙◌, subst}
use Rattle.std.specs.List.{range_with_len}
use Rattle.k_script.specs.declared.lines.ThreadLine.{ThreadLine}
use Rattle.k_script.specs.Limits.{IsScript}
use Rattle.k_script.specs.Big.{server_thread}
use Rattle.k_script.proofs.Draws.{state_none}
use Rattle.k_script.proofs.Large.{big_within, big_parts}
use Rattle.k_script.proofs.generator.big.Goals as goal

pub of-requires : goal.of-requires
of-requires c =
    let number = c.args.number in
    let start = sym (state_none number) in
    let first = c.in_ok-programs.ensures.state number start in
    let threads = c.in_ok-add_servers.ensures ∙ ap (λ (ts : List ThreadLine). ts ++ map server_thread (range_with_len 0 4)) (c.in_ok-threads.ensures.threads number first) in
    let lines = c.in_ok-at_lines.ensures number (c.in_ok-threads.ensures.state number first) in
    subst IsScript (sym (big_parts number _ _ _ _ (c.in_ok-programs.ensures.programs number start) threads lines c.new.ensures.items)) (big_within number)

pub returns : goal.returns
returns c =
    let number = c.args.number in
    let start = sym (state_none number) in
    let first = c.in_ok-programs.ensures.state number start in
    let threads = c.in_ok-add_servers.ensures ∙ ap (λ (ts : List ThreadLine). ts ++ map server_thread (range_with_len 0 4)) (c.in_ok-threads.ensures.threads number first) in
    let lines = c.in_ok-at_lines.ensures number (c.in_ok-threads.ensures.state number first) in
    c.of.ensures ∙ big_parts number _ _ _ _ (c.in_ok-programs.ensures.programs number start) threads lines c.new.ensures.items
