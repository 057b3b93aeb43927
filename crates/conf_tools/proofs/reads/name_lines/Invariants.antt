-- The lines so far, and then those of the names that are left, are all of them.
use Rattle.std.{proofs.Common.{◌≡◌, ◌++◌, drop}, specs.Prelude.map}
use Rattle.conf_tools.{proofs.Prelude.text_of, specs.Reads.name_lines}
use Rattle.conf_tools.proofs.reads.name_lines.Given as goal

abbrev pub invariant-loop-name : goal.invariant-loop-name
invariant-loop-name l =
    l.lines.items ++ name_lines (map text_of (drop l.name-index l.names)) ≡ name_lines (map text_of l.names)
