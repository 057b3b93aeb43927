use Rattle.std.{proofs.Common.{◌≡◌, ◌++◌}, specs.String.string_bytes}
use Rattle.yaml_scan.proofs.Prelude.{line_feeds}
use Rattle.yaml_scan.proofs.feeds.push_line_feeds.Given as goal

abbrev pub invariant-loop : goal.invariant-loop
invariant-loop l = string_bytes l.value ≡ string_bytes l.initial.value ++ line_feeds l.counter
