-- A line starts where the next closing line is looked for, and each is after the one before.
use Rattle.std.proofs.Common.{◌-◌, length}
use Rattle.yaml_docs.specs.NextClosing.{StartsLine}
use Rattle.text_probe.proofs.streams.closings.Given as goal

abbrev pub invariant-closings : goal.invariant-closings
invariant-closings l = StartsLine l.bytes l.at

abbrev pub decreases-closings : goal.decreases-closings
decreases-closings l = length l.bytes - l.at
