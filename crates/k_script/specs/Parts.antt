-- The script that parts make.
use Rattle.std.specs.Prelude.{take}
use Rattle.k_script.specs.declared.script.Parts.{Parts}
use Rattle.k_script.specs.Script.{Script}

-- Of the versions those of the table's numbers count.
abbrev pub script_of : Parts → Script
script_of p = record {
  version = p.version;
  table = p.table;
  carriers = p.carriers;
  show_steps = p.show_steps;
  aged = take p.table p.aged;
  programs = p.programs.items;
  threads = p.threads.items;
  at_lines = p.at_lines.items;
  turns = p.turns.items;
}
