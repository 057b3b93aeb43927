-- The lines so far, and then those of the findings that are left, are all of them.
use Rattle.std.proofs.Common.{◌≡◌, ◌++◌, drop}
use Rattle.conf_tools.specs.Tools.{report}
use Rattle.conf_tools.proofs.report.report.Given as goal

abbrev pub invariant-loop-finding : goal.invariant-loop-finding
invariant-loop-finding l = l.lines.items ++ report (drop l.finding-index l.findings) ≡ report l.findings
