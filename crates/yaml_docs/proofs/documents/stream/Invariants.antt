use Rattle.std.proofs.Common.{length, ◌-◌}
use Rattle.yaml_docs.specs.Sections.{ReadUpTo}
use Rattle.yaml_docs.proofs.documents.stream.Given as goal

abbrev pub invariant-sections : goal.invariant-sections
invariant-sections l = ReadUpTo l.text l.opened l.at l.events

abbrev pub decreases-sections : goal.decreases-sections
decreases-sections l = length l.text - l.at
