-- So many spaces were compared.
use Rattle.std.proofs.Common.{◌≡◌, List, ℕ, Bool}
use Rattle.yaml_style.{proofs.Prelude.{chars, spaces}, specs.Comparing.comparison_after}
use Rattle.yaml_style.proofs.comparison.ComparisonSink.put_spaces.Given as goal

abbrev pub invariant-loop : goal.invariant-loop
invariant-loop l = ◌≡◌ {A = List ℕ × Bool} (chars l.self.rest.now, l.self.agrees)
    (comparison_after (chars l.initial.self.rest.now) l.initial.self.agrees (spaces l.counter))
