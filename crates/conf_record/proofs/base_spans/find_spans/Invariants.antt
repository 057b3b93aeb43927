use Rattle.std.proofs.Common.{List}
use Rattle.conf_record.proofs.Prelude.{Entry}
use denote.Shadow.{shadow}
use denote.Text.{Utf8}
use Rattle.conf_record.specs.BaseSpans.{AreFound}
use Rattle.conf_record.proofs.base_spans.find_spans.Given as goal

abbrev pub invariant-entries : goal.invariant-entries
invariant-entries l = ((es : List Entry) × AreFound l.lines l.spans.entries es l.left) × shadow (Utf8 l.left)
