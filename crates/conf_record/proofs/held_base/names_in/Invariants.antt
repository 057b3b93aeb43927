use Rattle.std.proofs.Common.{◌≡◌, ◌++◌, map}
use Rattle.conf_record.{proofs.Prelude.text_of, specs.BaseSpans.names_under}
use Rattle.conf_record.proofs.held_base.names_in.Given as goal

-- the names that were taken, and then those that are left, are all
abbrev pub invariant-loop-name : goal.invariant-loop-name
invariant-loop-name l = map text_of l.names.items ++ names_under l.name-iterator ≡ names_under l.spans.entries
